-- `words::length_in` meets its contract: a length of 28 bits is a signed number of 32 bits. Assumes nothing.
use mathlib.Core.Path.{ap, ◌∙◌}
use native.Mathlib.Omega.{arith}
use lib.IntN.{ℤ}
use mir.Syntax.{w32}
use mir.Val.{to_z, of_z}
use mir.ValLaws.{to_z_pos}
use Rattle.words.specs.Words.{length_in}
use Rattle.words.proofs.length_in.Goals as goal

pub signed-requires : goal.signed-requires
signed-requires c = omega arith

pub returns : goal.returns
returns c = (ap (λ (z : ℤ). to_z w32 (of_z w32 z)) c.signed.ensures ∙ to_z_pos w32 (length_in c.args.word) (omega arith), omega arith)
