-- `spelling::element_len` meets its contract: a count of 1 is left out, so that the letter stands alone (`text_one`), and any other takes its digits and the letter (`text_length`). Assumes nothing.
use mathlib.Core.Path.{sym, ap}
use native.Mathlib.Omega.{arith}
use lib.ListN.{length}
use Rattle.spelling.proofs.laws.Decimal.{text_one, text_length}
use Rattle.spelling.proofs.element_len.Goals as goal

pub returns-then-count-eq1 : goal.returns-then-count-eq1
returns-then-count-eq1 c = (sym (ap length (text_one _ _ c.if-count-eq1.true)), omega arith)

pub returns : goal.returns
returns c =
    let a = c.args in
    (omega (arith, text_length a.count a.letter c.if-count-eq1.false), omega arith)
