-- The chain of refusals, link by link. Assumes nothing.
use Rattle.std.specs.Prelude.{◌≡◌, refl, Bool, true, List, ℕ, ◌-◌, ◌≤◌, ◌<◌, length}
use Rattle.std.proofs.Common.{sym, ap, ◌∙◌, arith, lt-ltb, le-ltb}
use Rattle.refusals.specs.Numbers.{most_records}
use Rattle.refusals.specs.declared.Refusal.{Refusal}
use Rattle.refusals.specs.declared.Refusal.TheVariants.{TooMuch}
use Rattle.refusals.specs.Outcome.{Outcome, Ok, Err, and_then, unless, Test, no_fault}
use Rattle.cigar.specs.Elements.{Element, genome, transcript, total}
use Rattle.cigar.specs.Text.{Reading}
use Rattle.records.specs.Records.{next_at, record_at, records_from}
use Rattle.records.specs.Faults.{faults}
use Rattle.records.specs.laws.Walk.{records_one}
use Rattle.transcript.specs.Building.{Exon, elements_of, first_start}
use Rattle.judging.specs.Input.{Input}
use Rattle.reading.specs.Reading.{Exons, spanned, genome_start_of, exon_of, read_first, exons_after, exons_of}
use Rattle.judging.specs.Judging.{half_fault, last_fault, judge_exons, judge_on, told_of}
use Rattle.reading.specs.Tallies.{sums_of, tallied_all}
use Rattle.reading.specs.declared.Sums.{Sums}
use Rattle.reading.specs.laws.Spans.{before_all, ahead, followed}
use Rattle.reading.proofs.laws.Tallied.{either_strand}

-- ---- a test in the chain

pub refuses : {A : Type 0} {k : Refusal} {t : Test} (j : Outcome A) → t ≡ Err k → unless t j ≡ Err k
refuses j h = rw h refl

pub passes : {A : Type 0} {t : Test} (j : Outcome A) → t ≡ no_fault → unless t j ≡ j
passes j h = rw h refl

-- ---- up to 11

module _ (forward : Bool) (i : Input) where
  pub too_many : most_records < length i.records → judge_on forward i ≡ Err TooMuch
  unfolding judge_on
  too_many h = rw (lt-ltb most_records (length i.records) h)

  module _ (few : length i.records ≤ most_records) where
    pub faulty : {k : Refusal} → faults forward i.records ≡ Err k → judge_on forward i ≡ Err k
    unfolding judge_on
    faulty e = rw (le-ltb most_records (length i.records) few, e) refl

    module _ (sound : faults forward i.records ≡ no_fault) where
      pub half_given : {k : Refusal} → half_fault i.start i.end ≡ Err k → judge_on forward i ≡ Err k
      unfolding judge_on
      half_given e = rw (le-ltb most_records (length i.records) few, sound, e) refl

      pub to_exons : half_fault i.start i.end ≡ no_fault → judge_on forward i ≡ judge_exons forward i (exons_of i.records)
      unfolding judge_on
      to_exons e = rw (le-ltb most_records (length i.records) few, sound, e)

-- ---- from the CIGARs on

-- the first start of records that were read
abbrev pub FirstIs : ℕ → Exons → Type 0
FirstIs n (Ok xs) = first_start xs ≡ n
FirstIs n (Err k) = Unit {0}

pub first_is : (k : ℕ) (s : List ℕ) (at : ℕ) → 0 < k → FirstIs (genome_start_of (record_at s at)) (exons_of (records_from k s at))
unfolding exons_of first_start
first_is k s at h = let r = record_at s at in rw (records_one k s at h, followed r (read_first r) following) (go (spanned r (read_first r)))
  where
    following : ℕ → Exons
    following n = exons_after n (records_from (k - 1) s (next_at s at))

    after : (es : List Element) (x : Exons) → FirstIs (genome_start_of (record_at s at)) (before_all (exon_of (record_at s at) es) x)
    after es (Ok xs) = refl
    after es (Err k) = tt

    go : (r : Reading) → FirstIs (genome_start_of (record_at s at)) (and_then r (ahead (record_at s at) following))
    go (Ok es) = after es (exons_after (length es) (records_from (k - 1) s (next_at s at)))
    go (Err i) = tt

module _ (forward : Bool) (i : Input) where
  pub unread_refused : (x : Exons) {k : Refusal} → Err k ≡ tallied_all x → judge_exons forward i x ≡ Err k
  unread_refused (Ok xs) {k} e = let z : ◌≡◌ {A = ℕ} 0 1 = cc in absurd (omega arith)
  unread_refused (Err l) {k} e = let is : l ≡ k = cc in ap Err is

  -- 10, 9 and 12 are asked of what was tallied
  module _ (s : Sums) (first : ℕ) {t : Test} (asked : t ≡ last_fault i.start i.end s.count first s.genome s.transcript) where
    module _ (xs : List Exon) (starts : first_start xs ≡ first) (sums : Ok s ≡ tallied_all (Ok xs)) where
      abbrev es : List Element
      es = elements_of forward xs

      sums_are : s ≡ sums_of es
      sums_are = let is : s ≡ sums_of (elements_of true xs) = cc in is ∙ sym (either_strand forward xs)

      last_is : last_fault i.start i.end (length es) (first_start xs) (total genome es) (total transcript es) ≡ t
      last_is = sym (asked ∙ rw (sums_are, ← starts))

    pub last_refused : (x : Exons) → FirstIs first x → Ok s ≡ tallied_all x → {k : Refusal} → t ≡ Err k → judge_exons forward i x ≡ Err k
    last_refused (Ok xs) f e {k} h = rw (last_is xs f e) (refuses _ h)
    last_refused (Err l) f e {k} h = let z : ◌≡◌ {A = ℕ} 0 1 = cc in absurd (omega arith)

    pub last_passed : (x : Exons) → FirstIs first x → Ok s ≡ tallied_all x → t ≡ no_fault → told_of (judge_exons forward i x) ≡ Ok s
    last_passed (Ok xs) f e h = rw (last_is xs f e) (ap told_of (passes _ h) ∙ ap Ok (sym (sums_are xs f e)))
    last_passed (Err l) f e h = let z : ◌≡◌ {A = ℕ} 0 1 = cc in absurd (omega arith)
