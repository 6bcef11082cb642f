-- One arm for each kind of letter. In each the machine's numbers are read back: `along`, `left`, `right` and `place` are the code's. Assumes nothing.
use mathlib.Core.Path.{refl}
use native.Mathlib.Omega.{arith}
use borrow.Author.Tests.{ne_eqb}
use Rattle.whole.specs.laws.Whole.{read}
use Rattle.cigar.specs.Elements.{kind_of, letter_d, letter_i, letter_n}
use Rattle.segments.specs.Places.{spot_in}
use Rattle.whole.specs.laws.Machine.{entry}
use Rattle.segments.proofs.Bounds.{fits_37, along_37, left_37, right_37, place_37}
use Rattle.segments.proofs.spot_in.Goals as goal

pub overflow_sub-along : goal.overflow_sub-along
overflow_sub-along c = simp (entry c.ranges.f, read c.ranges.p) (fits_37 (along_37 c.requires c.ranges.f))

pub overflow_add-left : goal.overflow_add-left
overflow_add-left c =
    let along = along_37 c.requires c.ranges.f in
    simp (entry c.ranges.f, read c.ranges.p, read (fits_37 along)) (fits_37 (left_37 c.requires c.ranges.f))

pub overflow_sub-right : goal.overflow_sub-right
overflow_sub-right c =
    simp (entry c.ranges.h, read c.ranges.p) (fits_37 (right_37 c.requires c.ranges.h))

pub nearer_edge-requires : goal.nearer_edge-requires
nearer_edge-requires c =
    let along = along_37 c.requires c.ranges.f in
    let left = left_37 c.requires c.ranges.f in
    let right = right_37 c.requires c.ranges.h in
    simp (entry c.ranges.f, entry c.ranges.h, read c.ranges.p, read (fits_37 along), read (fits_37 left), read (fits_37 right)) record { within = left; within_2 = right }

pub overflow_add-place : goal.overflow_add-place
overflow_add-place c =
    let along = along_37 c.requires c.ranges.f in
    simp (entry c.ranges.t, entry c.ranges.f, read c.ranges.p, read (fits_37 along)) (fits_37 (place_37 c.requires c.ranges.f c.ranges.t))

pub returns-in-78 : goal.returns-in-78
unfolding kind_of spot_in
returns-in-78 c =
    let along = along_37 c.requires c.ranges.f in
    let left = left_37 c.requires c.ranges.f in
    let right = right_37 c.requires c.ranges.h in
    let said = simp (entry c.ranges.f, entry c.ranges.h, read c.ranges.p, read (fits_37 along), read (fits_37 left), read (fits_37 right)) at c.nearer_edge.ensures.said in
    rw c.in-78.is record { said = said; small = c.nearer_edge.ensures.small }

pub returns-in-73 : goal.returns-in-73
unfolding kind_of spot_in
returns-in-73 c = rw c.in-73.is c.beside_at.ensures

pub returns-in-68 : goal.returns-in-68
unfolding kind_of spot_in
returns-in-68 c = rw c.in-68.is c.beside_at-in-68.ensures

pub returns-in_default : goal.returns-in_default
unfolding kind_of spot_in
returns-in_default c =
    let along = along_37 c.requires c.ranges.f in
    let place = place_37 c.requires c.ranges.f c.ranges.t in
    let not = c.in_default.in_default-own.rest in
    simp (entry c.ranges.t, entry c.ranges.f, read c.ranges.p, read (fits_37 along), read (fits_37 place), ne_eqb _ letter_n not.0.0.1, ne_eqb _ letter_i not.0.1, ne_eqb _ letter_d not.1)
    record { said = refl; small = record { place_small = place; offset_small = omega arith } }
