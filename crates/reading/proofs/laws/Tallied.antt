-- The records are tallied one by one: from the sums up to a record, the tally of the rest. Assumes nothing.
use Rattle.refusals.specs.declared.Refusal.{Refusal}
use Rattle.std.proofs.Math.Path.{◌≡◌, sym, ap, ap₂}
use Rattle.std.specs.Prelude.{refl, Bool, true, false, List, [], ◌∷◌, ◌++◌, ℕ, ◌+◌, ◌-◌, ◌<◌}
use Rattle.std.proofs.Common.{◌∙◌, arith, length-append}
use Rattle.std.proofs.Math.ListN.{length}
use Rattle.std.proofs.lemmas.List.{length-reverse}
use Rattle.refusals.specs.Outcome.{Ok, Err, and_then, Outcome}
use Rattle.cigar.specs.Elements.{Element, Side, genome, transcript, total}
use Rattle.cigar.specs.Text.{Reading}
use Rattle.records.specs.Records.{Record, next_at, record_at, records_from}
use Rattle.records.specs.laws.Walk.{records_one, records_none}
use Rattle.segments.specs.laws.Totals.{total_append, total_reverse}
use Rattle.transcript.specs.Building.{Exon, parts_of, gap, elements_after, elements_of}
use Rattle.reading.specs.Reading.{Exons, spanned, genome_end_of, between, exon_of, read_first, read_next, exons_after, exons_of}
use Rattle.reading.specs.Tallies.{nothing, sums_of, one_on, sums_on, tallied, tallied_after, tallied_all}
use Rattle.reading.specs.declared.Sums.{Sums}
use Rattle.reading.specs.laws.Texts.{sums_eq, on_one, on_none}
use Rattle.reading.specs.laws.Spans.{before_all, ahead, followed}

-- ---- the strand changes the order of a record's elements alone

pub parts_length : (forward : Bool) (x : Exon) → length (parts_of forward x) ≡ length x.parts
unfolding parts_of
parts_length true x = refl
parts_length false x = length-reverse x.parts

parts_total : (side : Side) (forward : Bool) (x : Exon) → total side (parts_of forward x) ≡ total side x.parts
unfolding parts_of
parts_total side true x = refl
parts_total side false x = total_reverse side x.parts

-- a record's elements and others after them
pub on_parts : (forward : Bool) (s : Sums) (x : Exon) (es : List Element) → sums_on s (parts_of forward x ++ es) ≡ sums_on (sums_on s x.parts) es
on_parts forward s x es =
    let ps = parts_of forward x in
    sums_eq
    (omega (arith, length-append ps es, parts_length forward x))
    (omega (arith, total_append genome ps es, parts_total genome forward x))
    (omega (arith, total_append transcript ps es, parts_total transcript forward x))

-- the sums of records are the same on either strand
pub either_after : (forward : Bool) (s : Sums) (e : ℕ) (xs : List Exon) → sums_on s (elements_after forward e xs) ≡ sums_on s (elements_after true e xs)
unfolding elements_after
either_after forward s e [] = refl
either_after forward s e (x ∷ xs) =
    let t = sums_on (one_on s (gap e x)) x.parts in
    on_one s (gap e x) _
    ∙ on_parts forward (one_on s (gap e x)) x _
    ∙ either_after forward t x.alt_end xs
    ∙ sym (on_parts true (one_on s (gap e x)) x _)
    ∙ sym (on_one s (gap e x) _)

on_nothing : (es : List Element) → sums_of es ≡ sums_on nothing es
on_nothing es = sums_eq (omega arith) (omega arith) (omega arith)

pub either_strand : (forward : Bool) (xs : List Exon) → sums_of (elements_of forward xs) ≡ sums_of (elements_of true xs)
unfolding elements_of
either_strand forward [] = refl
either_strand forward (x ∷ xs) =
    let t = sums_on nothing x.parts in
    on_nothing _
    ∙ on_parts forward nothing x _
    ∙ either_after forward t x.alt_end xs
    ∙ sym (on_parts true nothing x _)
    ∙ sym (on_nothing _)

-- ---- one record after the other

-- a record in front of others, after one that ends at e; and in front of all
one_after : (e : ℕ) (s : Sums) (x : Exon) (xs : Exons) → tallied_after e s (before_all x xs) ≡ tallied_after x.alt_end (sums_on (one_on s (gap e x)) x.parts) xs
unfolding elements_after
one_after e s x (Ok xs) = ap Ok (on_one s (gap e x) _ ∙ on_parts true (one_on s (gap e x)) x _)
one_after e s x (Err k) = refl

one_first : (x : Exon) (xs : Exons) → tallied_all (before_all x xs) ≡ tallied_after x.alt_end (sums_on nothing x.parts) xs
unfolding elements_of
one_first x (Ok xs) = ap Ok (on_nothing _ ∙ on_parts true nothing x _)
one_first x (Err k) = refl

module _ (s : List ℕ) (k at : ℕ) (some : 0 < k) where
  abbrev here : Record
  here = record_at s at

  abbrev others : List Record
  others = records_from (k - 1) s (next_at s at)

  -- a record after the record p: its own tally goes on, or refuses
  module _ (p : Record) (from : Sums) where
    abbrev all : Outcome Sums
    all = tallied_after (genome_end_of p) from (exons_after from.count (records_from k s at))

    abbrev own : Outcome Sums
    own = tallied (one_on from (between p here)) (spanned here (read_next from.count here))

    -- the records after it, by the number of its elements
    abbrev after : ℕ → Exons
    after n = exons_after (from.count + 1 + n) others

    pub rest_sums : {to : Sums} → Ok to ≡ own → all ≡ tallied_after (genome_end_of here) to (exons_after to.count others)
    unfolding exons_after
    rest_sums {to} q = rw (records_one k s at some, followed here (read_next from.count here) after) (go (spanned here (read_next from.count here)) q)
      where
        go : (r : Reading) → Ok to ≡ tallied (one_on from (between p here)) r
            → tallied_after (genome_end_of p) from (and_then r (ahead here after)) ≡ tallied_after (genome_end_of here) to (exons_after to.count others)
        go (Ok es) q =
            let is : to ≡ sums_on (one_on from (between p here)) es = cc in
            rw is (one_after (genome_end_of p) from (exon_of here es) (exons_after (from.count + 1 + length es) others))
        go (Err i) q = let z : ◌≡◌ {A = ℕ} 0 1 = cc in absurd (omega arith)

    pub rest_refused : {i : Refusal} → Err i ≡ own → all ≡ Err i
    unfolding exons_after
    rest_refused {i} q = rw (records_one k s at some, followed here (read_next from.count here) after) (go (spanned here (read_next from.count here)) q)
      where
        go : (r : Reading) → Err i ≡ tallied (one_on from (between p here)) r
            → tallied_after (genome_end_of p) from (and_then r (ahead here after)) ≡ Err i
        go (Ok es) q = let z : ◌≡◌ {A = ℕ} 0 1 = cc in absurd (omega arith)
        go (Err j) q = sym q

  -- the first record
  abbrev after_first : ℕ → Exons
  after_first n = exons_after n others

  pub first_sums : {to : Sums} → Ok to ≡ tallied nothing (spanned here (read_first here))
      → tallied_all (exons_of (records_from k s at)) ≡ tallied_after (genome_end_of here) to (exons_after to.count others)
  unfolding exons_of
  first_sums {to} q = rw (records_one k s at some, followed here (read_first here) after_first) (go (spanned here (read_first here)) q)
    where
      go : (r : Reading) → Ok to ≡ tallied nothing r
          → tallied_all (and_then r (ahead here after_first)) ≡ tallied_after (genome_end_of here) to (exons_after to.count others)
      go (Ok es) q =
          let is : to ≡ sums_on nothing es = cc in
          let n : length es ≡ to.count = omega (arith, ap (λ (t : Sums). t.count) is) in
          one_first (exon_of here es) (exons_after (length es) others) ∙ ap₂ (λ (t : Sums) (n : ℕ). tallied_after (genome_end_of here) t (exons_after n others)) (sym is) n
      go (Err i) q = let z : ◌≡◌ {A = ℕ} 0 1 = cc in absurd (omega arith)

  pub first_refused : {i : Refusal} → Err i ≡ tallied nothing (spanned here (read_first here)) → tallied_all (exons_of (records_from k s at)) ≡ Err i
  unfolding exons_of
  first_refused {i} q = rw (records_one k s at some, followed here (read_first here) after_first) (go (spanned here (read_first here)) q)
    where
      go : (r : Reading) → Err i ≡ tallied nothing r → tallied_all (and_then r (ahead here after_first)) ≡ Err i
      go (Ok es) q = let z : ◌≡◌ {A = ℕ} 0 1 = cc in absurd (omega arith)
      go (Err j) q = sym q

-- none is left
pub rest_none : (s : List ℕ) (k at e : ℕ) (from : Sums) → k ≡ 0 → tallied_after e from (exons_after from.count (records_from k s at)) ≡ Ok from
unfolding exons_after elements_after
rest_none s k at e from h = rw (records_none k s at h) (ap Ok (on_none from))
