-- `filling::turned` meets its contract: forward the element begins at `at`; on strand -1 `after` goes no further than `to`, so that no difference wraps and the element begins before `to`. Assumes nothing.
use mathlib.Core.Path.{refl}
use native.Mathlib.Omega.{arith}
use Rattle.filling.proofs.turned.Goals as goal

pub returns : goal.returns
returns c =
    let p = c.requires in
    (rw c.if-forward.false refl, record { count_below = omega arith; genome_up = omega arith; transcript_up = omega arith })
