-- Below the bound the cast keeps the number.
use mathlib.Core.Path.{◌≡◌}
use Prim.Native.Nat.{min}
use native.Mathlib.Omega.{arith}
use mir.Syntax.{w64}
use mir.ValLaws.{to_z_pos}
use Rattle.comparing.proofs.answers.of_size.Goals as goal

pub returns-then-n-lt4294967296 : goal.returns-then-n-lt4294967296
returns-then-n-lt4294967296 c =
    let n = c.args.n in
    let least : min n 4294967296 ≡ n = omega arith in
    rw least (to_z_pos w64 n (omega arith))

pub returns : goal.returns
returns c = let least : min c.args.n 4294967296 ≡ 4294967296 = omega arith in rw least
