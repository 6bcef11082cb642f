-- `card::put_mark` meets its contract: three stores, at 0, 1 and 2, are what storing the three letters of `mark` from the front comes to. Assumes nothing.
use native.Mathlib.Omega.{arith}
use lib.ListN.{length-set}
use Rattle.card.proofs.put_mark.Goals as goal

pub bounds-buffer-1 : goal.bounds-buffer-1
bounds-buffer-1 c = simp length-set (omega arith)

pub bounds-buffer-2 : goal.bounds-buffer-2
bounds-buffer-2 c = simp length-set (omega arith)
