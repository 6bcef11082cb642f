-- `holding::head_holds` meets its contract: each test of the machine is the definition's: the strand is compared by its bits (`bits_32`), the two counts and the first start as the numbers they read back as. Assumes nothing.
use mathlib.Core.Path.{◌≡◌}
use native.Mathlib.Omega.{arith}
use lib.Dec.{eqb}
use lib.IntN.{pos, negsuc}
use mir.Syntax.{w32}
use mir.Val.{SFits, of_z}
use Rattle.whole.specs.Whole.{eq_z}
use Rattle.whole.specs.laws.Whole.{read, fits_wider}
use Rattle.whole.specs.laws.Machine.{bits_32}
use Rattle.holding.proofs.head_holds.Goals as goal

pub overflow_cast-result : goal.overflow_cast-result
overflow_cast-result c =
    let count : SFits w32 c.args.head.count = record { sfits = c.struct_told-4-1.given.1.1.1.0.1 } in
    simp (read count) (fits_wider count)

pub overflow_cast-result-3 : goal.overflow_cast-result-3
overflow_cast-result-3 c =
    let records : SFits w32 c.args.head.records = record { sfits = c.struct_told-4-1.given.1.1.1.1.1.1.1.1.0.1 } in
    simp (read records) (fits_wider records)

pub returns : goal.returns
returns c =
    let h = c.args.head in
    let strand : SFits w32 h.strand = record { sfits = c.struct_told-4-1.given.1.0.1 } in
    let first : SFits w32 h.first = record { sfits = c.struct_told-4-1.given.1.1.0.1 } in
    let count : SFits w32 h.count = record { sfits = c.struct_told-4-1.given.1.1.1.0.1 } in
    let records : SFits w32 h.records = record { sfits = c.struct_told-4-1.given.1.1.1.1.1.1.1.1.0.1 } in
    let plus : eqb (of_z w32 h.strand) 1 ≡ eq_z h.strand (pos 1) = bits_32 strand (record { sfits = omega arith }) in
    let minus : eqb (of_z w32 h.strand) 4294967295 ≡ eq_z h.strand (negsuc 0) = bits_32 strand (record { sfits = omega arith }) in
    simp (plus, minus, read count, read (fits_wider count), read records, read (fits_wider records), read first)
