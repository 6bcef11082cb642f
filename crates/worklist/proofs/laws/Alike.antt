-- Two tracks with one first start and one last entry, on which every place is in the segment of one number, are walked alike: the table of genome starts is walked as its elements are. Assumes nothing.
use Prim.Native.Nat.{ℕ, zero, suc, ◌<◌}
use Rattle.std.specs.Prelude.{List, ◌≡◌, ℤ, pos, get_or, length}
use Rattle.std.proofs.Math.Option.{Option, none, some}
use Rattle.std.proofs.Math.Path.{refl}
use Rattle.std.proofs.Common.{sym, ◌∙◌}
use Rattle.cigar.specs.Elements.{genome}
use Rattle.segments.specs.Tables.{Tables, Holds, read, entries_of}
use Rattle.segments.specs.laws.Made.{entry_total}
use Rattle.segments.specs.laws.Reading.{last_genome, index_by_genome}
use Rattle.worklist.specs.Worklist.{Track, place_on, segment_of, wider, largest, segment_or0, steps_after, steps_of}

module _ (first : ℕ) (a b : List ℕ) (n m : ℕ) (last : get_or a n 0 ≡ get_or b m 0) where
  abbrev one : Track
  one = record { first = first; starts = a; count = n }

  abbrev other : Track
  other = record { first = first; starts = b; count = m }

  wider_alike : (o : Option ℤ) (p : ℤ) → wider one o p ≡ wider other o p
  wider_alike none p = rw last
  wider_alike (some q) p = rw last

  largest_alike : (gs : List ℤ) (i : ℕ) → largest one gs i ≡ largest other gs i
  unfolding largest
  largest_alike gs zero = refl
  largest_alike gs (suc i) = rw (largest_alike gs i) (wider_alike (largest other gs i) (place_on other (get_or gs i (pos 0))))

  pub steps_alike : ((p : ℤ) → segment_of one p ≡ segment_of other p) → (gs : List ℤ) (i : ℕ) → steps_after one gs i ≡ steps_after other gs i
  steps_alike same gs i = rw (largest_alike gs i) (go (largest other gs i))
    where
      go : (o : Option ℤ) → segment_or0 one o ≡ segment_or0 other o
      go none = refl
      go (some p) = same p

-- tables that hold together, and the elements that are read from them
pub steps_by_table : (x : Tables) (n first : ℕ) → Holds x n → 0 < n → (gs : List ℤ)
    → steps_of (record { first = first; starts = entries_of genome (read x n); count = length (read x n) }) gs ≡ steps_of (record { first = first; starts = x.genome; count = n }) gs
steps_by_table x n first holds any gs =
    steps_alike first (entries_of genome (read x n)) x.genome (length (read x n)) n (entry_total genome (read x n) ∙ last_genome x n holds) (λ p. sym (index_by_genome x n holds any p)) gs (length gs)
