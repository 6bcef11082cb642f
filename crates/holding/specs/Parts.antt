-- The parts by which what a host lends is judged: how many bases there are, and whether the tables hold. Assumes nothing.
use Rattle.std.specs.Prelude.{ℕ, Bool, ◌&&◌, List, pos, nat_abs, get_or, if◌then◌else◌, Some, None, Option}
use Rattle.std.specs.Int.Signed.{le_z}
use Rattle.refusals.specs.Numbers.{most_bases}
use Rattle.segments.specs.Tables.{Tables, segments_hold}
use Rattle.segments.specs.Exons.{numbers_hold}
use Rattle.transcript.specs.declared.Head.{Head}
use Rattle.holding.specs.Holding.{of_records, of_length, segments_in, head_holds, totals_hold}

-- a length that is not negative and not above the largest (4, 9)
abbrev pub length_fits : Head → Bool
length_fits h = le_z (pos 0) h.length && le_z h.length (pos most_bases)

-- how many bases a transcript has: of records, as many as its table ends with, of a length, as many as that; known only where the head's own tests pass
unfoldable pub bases_of : Head → List ℕ → Option ℕ
bases_of h transcript =
    if of_records h then (if head_holds h then Some (get_or transcript (segments_in h) 0) else None)
    else if of_length h then (if length_fits h then Some (nat_abs h.length) else None)
    else None

-- the tables of n segments hold: the segments hold together and their exon numbers do, and 9 does not apply
unfoldable pub tables_hold : Bool → ℕ → ℕ → Tables → List ℕ → ℕ → Bool
tables_hold forward records first a exons n =
    segments_hold a n && numbers_hold forward records a.letters exons n && totals_hold first (get_or a.genome n 0) (get_or a.transcript n 0)
