-- `spelling::put_digits` meets its contract. One digit is stored after what the call stored (`sets_snoc`).
-- Assumes nothing.
use Rattle.std.proofs.Common.{◌≡◌, refl, ap, [], ◌∷◌, arith, length, set, ◌+◌, ◌/◌, ◌%◌}
use Rattle.spelling.specs.Write.{decimal}
use Rattle.spelling.proofs.laws.Decimal.{decimal_one, decimal_more, length_more}
use Rattle.cigar.specs.laws.Stores.{sets_snoc}
use Rattle.spelling.proofs.+put_digits.Goals as goal

pub bounds-buf-at : goal.bounds-buf-at
bounds-buf-at t c = omega (arith, ap length (decimal_one c.args.n c.if-n-lt10.true))

pub returns-then-n-lt10 : goal.returns-then-n-lt10
returns-then-n-lt10 t c =
    let a = c.args in
    let e : decimal a.n ≡ (48 + a.n) ∷ [] = decimal_one a.n c.if-n-lt10.true in
    rw e (refl, ap (set a.buf.now a.at) c.digit.ensures)

pub put_digits-p-requires : goal.put_digits-p-requires
put_digits-p-requires t c =
    let n = c.args.n in
    (omega arith, omega (arith, length_more n (omega arith)))

pub bounds-buf-p : goal.bounds-buf-p
bounds-buf-p t c = omega (arith, length_more c.args.n c.if-n-lt10.false)

pub overflow_add-result-2 : goal.overflow_add-result-2
overflow_add-result-2 t c = omega (arith, length_more c.args.n c.if-n-lt10.false)

pub returns : goal.returns
returns t c =
    let a = c.args in
    let r = c.put_digits-p in
    let l : length (decimal a.n) ≡ length (decimal (a.n / 10)) + 1 = length_more a.n (omega arith) in (
      omega arith,
      rw (decimal_more a.n (omega arith), sets_snoc (decimal (a.n / 10)) a.buf.now a.at (48 + a.n % 10)) (cc),
    )
