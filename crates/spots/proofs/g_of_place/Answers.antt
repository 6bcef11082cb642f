-- `spots::g_of_place` meets its contract: a place below 2^38, a first start and an offset that `sign` has turned make sums that fit 64 bits, so that `g_end` is asked of `g_end_at`'s sum. Assumes nothing.
use mathlib.Core.Path.{◌≡◌}
use mir.Syntax.{w64}
use mir.Val.{to_z, of_z}
use Rattle.spots.specs.Mapping.{signed}
use Rattle.whole.specs.laws.Whole.{read, told, widened, i32_38, fits_40, fits_42}
use Rattle.whole.specs.laws.Machine.{entry}
use Rattle.spots.proofs.Sizes.{signed_40, from_first_40, from_one_40, with_own_42}
use Rattle.spots.proofs.g_of_place.Goals as goal
use Rattle.spots.proofs.g_of_place.Goals.{After-sign-own, After-struct_told-1}

place_is : (c : After-struct_told-1) → to_z w64 (of_z w64 c.args.p.0) ≡ c.args.p.0
place_is c = told w64 c.args.p.0 c.struct_told-1.given.0.1

own_is : (c : After-sign-own) → c.sign-own.result ≡ signed c.args.forward c.args.offset
own_is c = rw (widened c.ranges.offset) at c.sign-own.ensures

pub overflow_add-g-3 : goal.overflow_add-g-3
overflow_add-g-3 c =
    let f = c.ranges.first in
    let own = signed_40 c.args.forward (i32_38 c.ranges.offset) in
    simp (place_is (goal.at.overflow_add-g-3 c).After-struct_told-1, entry f, read (fits_40 (from_first_40 c.requires f)), read (fits_40 (from_one_40 c.requires f)), own_is c, read (fits_40 own)) (fits_42 (with_own_42 c.requires f own))

pub returns : goal.returns
returns c =
    let f = c.ranges.first in
    let own = signed_40 c.args.forward (i32_38 c.ranges.offset) in
    simp (place_is (goal.at.returns c).After-struct_told-1, entry f, read (fits_40 (from_first_40 c.requires f)), read (fits_40 (from_one_40 c.requires f)), own_is (goal.at.returns c).After-sign-own, read (fits_40 own), read (fits_42 (with_own_42 c.requires f own))) at c.g_end.ensures
