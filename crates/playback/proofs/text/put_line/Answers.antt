-- `playback::text::put_line` meets its contract: the digits are put, and the newline after them.
-- Assumes nothing.
use Prim.Native.Nat.{◌+◌}
use native.Mathlib.Omega.{arith}
use lib.ListN.{set}
use Rattle.card.specs.Putting.{Put}
use Rattle.card.specs.laws.Putting.{byte_put, then_put, put_length}
use Rattle.spelling.specs.Write.{decimal}
use Rattle.playback.specs.Lines.{line_of}
use Rattle.playback.specs.laws.Lines.{line_length}
use Rattle.playback.proofs.text.put_line.Goals as goal
use Rattle.playback.proofs.text.put_line.Goals.{After-slice_known-2-1}

pub put_digits-end-requires : goal.put_digits-end-requires
put_digits-end-requires c = omega (arith, line_length c.args.n)

-- after the digits
module _ (c : After-slice_known-2-1) where
  digits : Put c.args.buffer.now c.put_digits-end.new.buf c.args.at c.put_digits-end.result (decimal c.args.n)
  digits = record { past = c.put_digits-end.ensures.0; stored = c.put_digits-end.ensures.1 }

  whole : Put c.args.buffer.now (set c.put_digits-end.new.buf c.put_digits-end.result 10) c.args.at (c.put_digits-end.result + 1) (line_of c.args.n)
  unfolding line_of
  whole = then_put digits (byte_put _ _ 10)

pub bounds-buffer-end : goal.bounds-buffer-end
bounds-buffer-end c = omega (arith, put_length (digits c), (digits c).past, line_length c.args.n)

pub overflow_add-result : goal.overflow_add-result
overflow_add-result c = omega (arith, put_length (digits c), (digits c).past, line_length c.args.n)

pub shape_of-buffer : goal.shape_of-buffer
shape_of-buffer c = put_length (whole c)

pub returns : goal.returns
returns c = whole c
