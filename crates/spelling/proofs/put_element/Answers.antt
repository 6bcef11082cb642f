-- `spelling::put_element` meets its contract: the letter is stored after the digits (`sets_snoc`).
-- Assumes nothing.
use mathlib.Core.Path.{refl, ap}
use native.Mathlib.Omega.{arith}
use lib.ListN.{length}
use Rattle.spelling.specs.Write.{decimal}
use Rattle.spelling.proofs.laws.Decimal.{text_one, text_more, text_length}
use Rattle.cigar.specs.laws.Stores.{sets_snoc}
use Rattle.spelling.proofs.put_element.Goals as goal

pub bounds-buf-at : goal.bounds-buf-at
bounds-buf-at c =
    let a = c.args in
    omega (arith, ap length (text_one a.count a.letter c.if-count-eq1.true))

pub returns-then-count-eq1 : goal.returns-then-count-eq1
returns-then-count-eq1 c = rw (text_one _ c.args.letter c.if-count-eq1.true) (refl, refl)

pub put_digits-p-requires : goal.put_digits-p-requires
put_digits-p-requires c =
    let a = c.args in
    omega (arith, text_length a.count a.letter c.if-count-eq1.false)

pub bounds-buf-p : goal.bounds-buf-p
bounds-buf-p c =
    let a = c.args in
    omega (arith, text_length a.count a.letter c.if-count-eq1.false)

pub overflow_add-result-2 : goal.overflow_add-result-2
overflow_add-result-2 c =
    let a = c.args in
    omega (arith, text_length a.count a.letter c.if-count-eq1.false)

pub returns : goal.returns
returns c =
    let a = c.args in
    let ne = c.if-count-eq1.false in (
      omega (arith, text_length a.count a.letter ne),
      rw (text_more a.count a.letter ne, sets_snoc (decimal a.count) a.buf.now a.at a.letter) (cc),
    )
