-- Records that were accepted are put in one by one. Assumes nothing.
use mathlib.Core.Path.{◌≡◌, refl, sym, ap, ◌∙◌}
use mathlib.Core.Bool.{Bool, true, false}
use mathlib.Core.List.{List, [], ◌∷◌, ◌++◌}
use Prim.Native.Nat.{ℕ, ◌+◌, ◌-◌, ◌<◌}
use native.Mathlib.Omega.{arith}
use lib.ListN.{length}
use Rattle.refusals.specs.Outcome.{Ok, Err, and_then}
use Rattle.cigar.specs.Elements.{Element}
use Rattle.cigar.specs.Text.{Reading, elements_in}
use Rattle.records.specs.Records.{Record, next_at, record_at, records_from}
use Rattle.records.specs.laws.Walk.{records_one, records_none}
use Rattle.transcript.specs.Building.{parts_of, elements_after, elements_of}
use Rattle.reading.specs.Reading.{Exons, exon_of, spanned, genome_end_of, between, read_first, read_next, exons_after, exons_of}
use Rattle.reading.specs.Tallies.{nothing, sums_of, one_on, sums_on, tallied, tallied_after, tallied_all}
use Rattle.segments.specs.Tables.{Tables}
use Rattle.filling.specs.Filling.{fill, ordered, next_elements, elements_past, elements_all, SmallSums, SmallTally}
use Rattle.reading.specs.declared.Sums.{Sums}
use Rattle.reading.specs.laws.Texts.{on_one}
use Rattle.reading.specs.laws.Spans.{before_all, ahead, followed, spanned_own, tallied_own}
use Rattle.reading.proofs.laws.Tallied.{either_strand}
use Rattle.filling.proofs.Fills.{sums_reverse, fill_append}
use Rattle.filling.proofs.Taken.{never, ends_at}

-- what was put in is taken off what is left to put in
pub fill_then : (a : Tables) (s : Sums) (xs ys : List Element) {b : Tables} {to : Sums} → b ≡ fill a s xs → to ≡ sums_on s xs → fill a s (xs ++ ys) ≡ fill b to ys
fill_then a s xs ys p q = fill_append a s xs ys ∙ rw (← p, ← q)

-- the order of the elements does not change their sums
ordered_sums : (forward : Bool) (s : Sums) (es : List Element) → sums_on s (ordered forward es) ≡ sums_on s es
ordered_sums true s es = refl
ordered_sums false s es = sums_reverse s es

-- what is tallied so far is no larger
pub small_so_far : (e : ℕ) (s : Sums) (x : Exons) → SmallTally (tallied_after e s x) → SmallSums s
small_so_far e s (Ok xs) h = record { few = omega (arith, h.few); genome_small = omega (arith, h.genome_small); transcript_small = omega (arith, h.transcript_small) }
small_so_far e s (Err k) h = absurd h

-- ---- the next record

module _ (forward : Bool) (s : List ℕ) (k at : ℕ) (some : 0 < k) (p : Record) (from to : Sums) where
  abbrev here : Record
  here = record_at s at

  abbrev others : Exons
  others = exons_after to.count (records_from (k - 1) s (next_at s at))

  module _ (told : tallied (one_on from (between p here)) (spanned here (read_next from.count here)) ≡ Ok to) where
    -- its own reading passed 32
    pub next_told : tallied (one_on from (between p here)) (read_next from.count here) ≡ Ok to
    next_told = tallied_own here (one_on from (between p here)) (read_next from.count here) told

    -- its gap and its elements go where its tally does
    pub next_ends : to ≡ sums_on from (next_elements forward from.count p here)
    next_ends =
        let es = elements_in (read_next from.count here) in
        ends_at (one_on from (between p here)) to (read_next from.count here) next_told
        ∙ sym (on_one from (between p here) (ordered forward es) ∙ ordered_sums forward (one_on from (between p here)) es)

    abbrev after : ℕ → Exons
    after n = exons_after (from.count + 1 + n) (records_from (k - 1) s (next_at s at))

    -- the elements that are left are its own and those of the others
    pub past_one : SmallTally (tallied_after (genome_end_of here) to others)
        → elements_past forward (genome_end_of p) (exons_after from.count (records_from k s at)) ≡ next_elements forward from.count p here ++ elements_past forward (genome_end_of here) others
    unfolding exons_after elements_after parts_of
    past_one small =
        rw (records_one k s at some, followed here (read_next from.count here) after, spanned_own here (one_on from (between p here)) (read_next from.count here) told)
        (go (read_next from.count here) next_told)
      where
        join : (es : List Element) (x : Exons) → SmallTally (tallied_after (genome_end_of here) to x)
            → elements_past forward (genome_end_of p) (before_all (exon_of here es) x) ≡ (between p here ∷ ordered forward es) ++ elements_past forward (genome_end_of here) x
        join es (Ok xs) h = refl
        join es (Err i) h = absurd h

        go : (r : Reading) → tallied (one_on from (between p here)) r ≡ Ok to
            → elements_past forward (genome_end_of p) (and_then r (ahead here after))
            ≡ (between p here ∷ ordered forward (elements_in r)) ++ elements_past forward (genome_end_of here) others
        go (Ok es) e =
            let is : sums_on (one_on from (between p here)) es ≡ to = cc in
            let n : from.count + 1 + length es ≡ to.count = ap (λ (t : Sums). t.count) is in
            rw n (join es others small)
        go (Err i) e = absurd (never e)

-- none is left
pub past_none : (forward : Bool) (e n k : ℕ) (s : List ℕ) (at : ℕ) → k ≡ 0 → elements_past forward e (exons_after n (records_from k s at)) ≡ []
unfolding exons_after elements_after
past_none forward e n k s at h = rw (records_none k s at h)

-- ---- the first record, and those after it

module _ (forward : Bool) (s : List ℕ) (k at : ℕ) (some : 0 < k) {to : Sums} (told : tallied nothing (spanned (record_at s at) (read_first (record_at s at))) ≡ Ok to) where
  pub first_told : tallied nothing (read_first (record_at s at)) ≡ Ok to
  first_told = tallied_own (record_at s at) nothing (read_first (record_at s at)) told

  pub first_ends : to ≡ sums_on nothing (ordered forward (elements_in (read_first (record_at s at))))
  first_ends =
      let r = read_first (record_at s at) in
      ends_at nothing to r first_told ∙ sym (ordered_sums forward nothing (elements_in r))

  abbrev after_first : Exons
  after_first = exons_after to.count (records_from (k - 1) s (next_at s at))

  abbrev following : ℕ → Exons
  following n = exons_after n (records_from (k - 1) s (next_at s at))

  pub all_one : SmallTally (tallied_after (genome_end_of (record_at s at)) to after_first)
      → elements_all forward (exons_of (records_from k s at)) ≡ ordered forward (elements_in (read_first (record_at s at))) ++ elements_past forward (genome_end_of (record_at s at)) after_first
  unfolding exons_of elements_of parts_of
  all_one small =
      let r = record_at s at in
      rw (records_one k s at some, followed r (read_first r) following, spanned_own r nothing (read_first r) told) (go (read_first r) first_told)
    where
      join : (es : List Element) (x : Exons) → SmallTally (tallied_after (genome_end_of (record_at s at)) to x)
          → elements_all forward (before_all (exon_of (record_at s at) es) x) ≡ ordered forward es ++ elements_past forward (genome_end_of (record_at s at)) x
      join es (Ok xs) h = refl
      join es (Err i) h = absurd h

      go : (r : Reading) → tallied nothing r ≡ Ok to
          → elements_all forward (and_then r (ahead (record_at s at) following))
          ≡ ordered forward (elements_in r) ++ elements_past forward (genome_end_of (record_at s at)) after_first
      go (Ok es) e =
          let is : sums_on nothing es ≡ to = cc in
          let n : length es ≡ to.count = omega (arith, ap (λ (t : Sums). t.count) is) in
          rw n (join es after_first small)
      go (Err i) e = absurd (never e)

-- all elements go where the tally does, on either strand
pub all_end : (forward : Bool) (x : Exons) (to : Sums) → tallied_all x ≡ Ok to → to ≡ sums_of (elements_all forward x)
all_end forward (Ok xs) to e = let is : sums_of (elements_of true xs) ≡ to = cc in sym (either_strand forward xs ∙ is)
all_end forward (Err k) to e = absurd (never e)
