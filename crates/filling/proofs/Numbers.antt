-- The exon numbers of records that were accepted, record by record. Assumes nothing.
use mathlib.Core.Path.{◌≡◌, refl, ap}
use mathlib.Core.Bool.{Bool}
use mathlib.Core.List.{List, [], ◌∷◌, ◌++◌}
use Prim.Native.Nat.{ℕ, suc, ◌+◌, ◌-◌, ◌<◌}
use native.Mathlib.Omega.{arith}
use lib.ListN.{length, replicate}
use Rattle.refusals.specs.Outcome.{Ok, Err, and_then}
use Rattle.cigar.specs.Elements.{Element}
use Rattle.cigar.specs.Text.{Reading}
use Rattle.records.specs.Records.{Record, next_at, record_at, records_from}
use Rattle.records.specs.laws.Walk.{records_one, records_none, records_length}
use Rattle.transcript.specs.Building.{numbered_by, numbers_after, numbers_of}
use Rattle.transcript.proofs.laws.Numbered.{numbers_length}
use Rattle.reading.specs.Reading.{Exons, exon_of, spanned, genome_end_of, between, read_first, read_next, exons_after, exons_of}
use Rattle.reading.specs.Tallies.{nothing, one_on, sums_on, tallied, tallied_after}
use Rattle.filling.specs.Filling.{elements_all, numbers_past, numbers_all, SmallTally}
use Rattle.reading.specs.declared.Sums.{Sums}
use Rattle.reading.proofs.laws.Counted.{Many, after_many}
use Rattle.reading.specs.laws.Spans.{before_all, ahead, followed, spanned_own, tallied_own}
use Rattle.reading.proofs.laws.Tallied.{parts_length}
use Rattle.filling.proofs.Taken.{never}

module _ (forward : Bool) (s : List ℕ) (k at : ℕ) (some : 0 < k) where
  abbrev here : Record
  here = record_at s at

  -- the records after it, where so many segments are used
  abbrev others : ℕ → Exons
  others n = exons_after n (records_from (k - 1) s (next_at s at))

  others_many : (n : ℕ) → Many (k - 1) (others n)
  others_many n = rw (records_length (k - 1) s (next_at s at)) at (after_many (records_from (k - 1) s (next_at s at)) n)

  -- ---- the next record: the number of the gap, its own as often as it has elements, and those of the others

  module _ (before : ℕ) (p : Record) (from to : Sums) (told : tallied (one_on from (between p here)) (spanned here (read_next from.count here)) ≡ Ok to) where
    abbrev next_numbers : List ℕ
    next_numbers = numbered_by forward before k ∷ replicate (to.count - (from.count + 1)) (numbered_by forward (before + 1) (k - 1))

    pub numbers_one : SmallTally (tallied_after (genome_end_of here) to (others to.count))
        → numbers_past forward before (exons_after from.count (records_from k s at)) ≡ next_numbers ++ numbers_past forward (before + 1) (others to.count)
    unfolding exons_after numbers_after
    numbers_one small =
        let start = one_on from (between p here) in
        let r = read_next from.count here in
        rw (records_one k s at some, followed here r (λ (n : ℕ). others (from.count + 1 + n)), spanned_own here start r told) (go r (tallied_own here start r told))
      where
        join : (es : List Element) (x : Exons) → SmallTally (tallied_after (genome_end_of here) to x) → Many (k - 1) x
            → numbers_past forward before (before_all (exon_of here es) x)
            ≡ (numbered_by forward before k ∷ replicate (length es) (numbered_by forward (before + 1) (k - 1))) ++ numbers_past forward (before + 1) x
        join es (Ok xs) h m = let all : suc (length xs) ≡ k = omega arith in rw (parts_length forward (exon_of here es), all, m) refl
        join es (Err i) h m = absurd h

        go : (r : Reading) → tallied (one_on from (between p here)) r ≡ Ok to
            → numbers_past forward before (and_then r (ahead here (λ (n : ℕ). others (from.count + 1 + n)))) ≡ next_numbers ++ numbers_past forward (before + 1) (others to.count)
        go (Ok es) e =
            let is : sums_on (one_on from (between p here)) es ≡ to = cc in
            let n : from.count + 1 + length es ≡ to.count = ap (λ (t : Sums). t.count) is in
            let own : to.count - (from.count + 1) ≡ length es = omega arith in
            rw (n, own) (join es (others to.count) small (others_many to.count))
        go (Err i) e = absurd (never e)

  -- ---- the first record, and those after it

  module _ (to : Sums) (told : tallied nothing (spanned here (read_first here)) ≡ Ok to) where
    pub numbers_first : SmallTally (tallied_after (genome_end_of here) to (others to.count))
        → numbers_all forward (exons_of (records_from k s at)) ≡ replicate to.count (numbered_by forward 0 (k - 1)) ++ numbers_past forward 0 (others to.count)
    unfolding exons_of numbers_of
    numbers_first small = rw (records_one k s at some, followed here (read_first here) others, spanned_own here nothing (read_first here) told) (go (read_first here) (tallied_own here nothing (read_first here) told))
      where
        join : (es : List Element) (x : Exons) → SmallTally (tallied_after (genome_end_of here) to x) → Many (k - 1) x
            → numbers_all forward (before_all (exon_of here es) x) ≡ replicate (length es) (numbered_by forward 0 (k - 1)) ++ numbers_past forward 0 x
        join es (Ok xs) h m = rw (parts_length forward (exon_of here es), m) refl
        join es (Err i) h m = absurd h

        go : (r : Reading) → tallied nothing r ≡ Ok to
            → numbers_all forward (and_then r (ahead here others)) ≡ replicate to.count (numbered_by forward 0 (k - 1)) ++ numbers_past forward 0 (others to.count)
        go (Ok es) e =
            let is : sums_on nothing es ≡ to = cc in
            let n : length es ≡ to.count = omega (arith, ap (λ (t : Sums). t.count) is) in
            rw n (rw n at (join es (others to.count) small (others_many to.count)))
        go (Err i) e = absurd (never e)

-- none is left
pub numbers_none : (forward : Bool) (before n k : ℕ) (s : List ℕ) (at : ℕ) → k ≡ 0 → numbers_past forward before (exons_after n (records_from k s at)) ≡ []
unfolding exons_after numbers_after
numbers_none forward before n k s at h = rw (records_none k s at h)

-- there are as many numbers as elements
pub all_length : (forward : Bool) (x : Exons) → length (numbers_all forward x) ≡ length (elements_all forward x)
all_length forward (Ok xs) = numbers_length forward xs
all_length forward (Err k) = refl
