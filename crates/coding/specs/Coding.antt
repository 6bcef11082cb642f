-- Between n. and c., with the transcript's length and its CDS. `strict` is true in strict mode. Assumes nothing.
use Rattle.std.specs.Prelude.{ℕ, Bool, ◌&&◌, ◌||◌, ℤ, pos, if◌then◌else◌}
use Rattle.std.specs.Bool.{beq}
use Rattle.std.specs.Int.Signed.{lt_z, le_z}
use Rattle.refusals.specs.declared.Refusal.TheVariants.{NotCoding, NOutside, COutside}
use Rattle.refusals.specs.Outcome.{Outcome, Err}
use Rattle.whole.specs.Whole.{eq_z}
use Rattle.numbering.specs.Numbers.{c_of_n, n_of_c}
use Rattle.positions.specs.Positions.{Interval, each, NAsked, CAsked, NPosition, CPosition}
use Rattle.positions.specs.Answers.{unmarked, Answer, plainly, ends, n_fits, c_fits, if_fits, fitting}
use Rattle.transcript.specs.Transcript.{Cds, no_cds, cds}

-- strict: the number is 0 or less, or above the length
unfoldable pub beyond : Bool → ℕ → ℤ → Bool
beyond strict len n = strict && (le_z n (pos 0) || lt_z (pos len) n)

-- ---- n. to c.: 13, 15, 17

-- 15: either number is beyond
abbrev pub refuses15 : Bool → ℕ → Interval NAsked → Bool
refuses15 strict len i = beyond strict len i.from.base || beyond strict len i.to.base

-- the number crosses over, the offset stays
unfoldable pub c_position : ℕ → ℕ → NAsked → CPosition
c_position s e a = record { base = c_of_n (pos s) (pos e) a.base; offset = a.offset }

-- before 17 is asked
unfoldable pub c_of_interval : Bool → ℕ → Cds → Interval NAsked → Answer CPosition
c_of_interval strict len no_cds i = Err NotCoding
c_of_interval strict len (cds s e) i =
    if refuses15 strict len i then Err NOutside
    else plainly (each (c_position s e) i)

unfoldable pub map_n_to_c : Bool → ℕ → Cds → Interval NAsked → Answer CPosition
map_n_to_c strict len coding i = fitting c_fits (c_of_interval strict len coding i)

-- of one position, which is both ends of its interval: 15, then 17
unfoldable pub one_to_c : Bool → ℕ → ℕ → ℕ → NAsked → Outcome CPosition
one_to_c strict len s e a =
    if beyond strict len a.base then Err NOutside
    else if_fits c_fits (c_position s e a)

-- ---- c. to n.: 13, then the start's 16 and 17, then the end's

unfoldable pub n_position : Bool → ℕ → ℕ → ℕ → CAsked → Outcome NPosition
n_position strict len s e a =
    let n = n_of_c (pos s) (pos e) a.base in
    if beyond strict len n then Err COutside
    else if_fits n_fits (record { base = n; offset = a.offset })

unfoldable pub map_c_to_n : Bool → ℕ → Cds → Interval CAsked → Answer NPosition
map_c_to_n strict len no_cds i = Err NotCoding
map_c_to_n strict len (cds s e) i = ends unmarked (n_position strict len s e i.from) (n_position strict len s e i.to)

-- two positions are one: c. to n. numbers such a position once
unfoldable pub same_c : CAsked → CAsked → Bool
same_c a b = eq_z a.base.0 b.base.0 && beq a.base.1 b.base.1 && eq_z a.offset b.offset
