-- `building::head_of` meets its contract: `i32_at` reads the first start, counts up to `mostSegments` and `mostRecords` survive the cast, and `with_cds` ensures the CDS. Assumes nothing.
use native.Mathlib.Omega.{arith}
use mir.Syntax.{w32}
use mir.ValLaws.{to_z_pos}
use Rattle.whole.specs.laws.Whole.{told}
use Rattle.building.proofs.head_of.Goals as goal

pub returns : goal.returns
returns c =
    let n = c.args.numbers in
    rw (
      to_z_pos w32 c.args.to.count (omega arith),
      to_z_pos w32 n.count (omega arith),
      told w32 c.i32_at-first.result c.i32_at-first.type_inv,
      c.i32_at-first.ensures,
      told w32 n.strand c.struct_told-1.given.0.1,
      told w32 n.start c.struct_told-2-1.given.1.1.0.1,
      told w32 n.end c.struct_told-3-1.given.1.1.1.0.1,
    ) at c.with_cds.ensures
