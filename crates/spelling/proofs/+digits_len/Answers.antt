-- `spelling::digits_len` meets its contract: one digit below 10, and otherwise one more than its tenth has (`length_more`), at most ten (`decimal_short`). Assumes nothing.
use Rattle.std.proofs.Common.{◌≡◌, sym, ap, arith, length, ◌+◌, ◌/◌}
use Rattle.spelling.specs.Write.{decimal}
use Rattle.spelling.proofs.laws.Decimal.{decimal_one, length_more, decimal_short}
use Rattle.spelling.proofs.+digits_len.Goals as goal

pub returns-then-n-lt10 : goal.returns-then-n-lt10
returns-then-n-lt10 t c = (sym (ap length (decimal_one _ c.if-n-lt10.true)), omega arith)

pub returns : goal.returns
returns t c =
    let n = c.args.n in
    let l : length (decimal n) ≡ length (decimal (n / 10)) + 1 = length_more n (omega arith) in
    (omega arith, omega (arith, decimal_short n (omega arith)))
