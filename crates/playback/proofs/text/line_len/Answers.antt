-- `playback::text::line_len` meets its contract: the digits, and the newline.
-- Assumes nothing.
use native.Mathlib.Omega.{arith}
use Rattle.playback.specs.laws.Lines.{line_length}
use Rattle.playback.proofs.text.line_len.Goals as goal

pub returns : goal.returns
returns c = record { value = omega (arith, line_length c.args.n); within = omega arith }
