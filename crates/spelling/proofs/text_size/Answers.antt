-- `spelling::text_size` meets its contract. The loop keeps that the whole size is the sum so far and the size of what is left. Assumes nothing.
use Rattle.std.proofs.Common.{◌≡◌, ℕ, ◌+◌, [], ℤ, pos, get_or, w32, sym, ap, subst, ◌∙◌, arith}
use Rattle.std.proofs.lemmas.Result.{err_from_is_err_and}
use Rattle.whole.specs.laws.Whole.{told}
use Rattle.refusals.specs.Outcome.{Ok}
use Rattle.cigar.specs.Text.{Reading}
use Rattle.spelling.specs.Write.{judged, elements_given, size_of, AtMost}
use Rattle.spelling.proofs.Writing.{left_of, left_all, left_more, left_none, size_from, size_all, size_none, size_more, size_refused}
use Rattle.spelling.proofs.text_size.Goals as goal
use Rattle.spelling.proofs.text_size.Goals.{After-element_size}

-- the element at the place, its size and what is left
module _ (c : After-element_size) where
  abbrev place : ℕ
  place = c.loop-i.i

  abbrev count : ℤ
  count = get_or c.args.counts.now place (pos 0)

  abbrev letter : ℕ
  letter = get_or c.args.letters.now place 0

  abbrev rest : Reading
  rest = left_of c.args.counts.now c.args.letters.now c.args.number (place + 1)

  sized : c.element_size.result ≡ size_of (judged count letter (Ok []))
  sized = c.element_size.ensures.0 ∙ ap (λ (z : ℤ). size_of (judged z letter (Ok []))) (told w32 count c.element_size-arg-1.given)

  left : size_of (elements_given c.args.counts.now c.args.letters.now c.args.number) ≡ size_from c.loop-i.total (judged count letter rest)
  left = c.loop-i.invariant.2 ∙ ap (size_from _) (left_more _ _ c.args.number place c.loop-i-test.true)

pub loop-i-init : goal.loop-i-init
loop-i-init c =
    let a = c.args in
    let all = elements_given a.counts.now a.letters.now a.number in
    (omega arith, omega arith, size_all all ∙ ap (size_from 0) (left_all a.counts.now a.letters.now a.number))

pub loop-i-preserved : goal.loop-i-preserved
loop-i-preserved c =
    let e = (goal.at.loop-i-preserved c).After-element_size in
    let small = subst (AtMost 11) c.in_ok-total.was c.element_size.ensures.1 in
    (omega arith, omega arith, left e ∙ size_more _ (count e) (letter e) (rest e) (sym (sized e) ∙ c.in_ok-total.was))

pub returns-in_err-total : goal.returns-in_err-total
returns-in_err-total c =
    let e = (goal.at.returns-in_err-total c).After-element_size in
    let p = err_from_is_err_and c.from_residual.result c.from_residual.ensures.1 in
    rw (p.1, p.2) (sym (left e ∙ size_refused _ (count e) (letter e) (rest e) (sym (sized e) ∙ c.in_err-total.was)))

pub returns : goal.returns
returns c =
    let a = c.args in
    let l = c.loop-i in
    sym (l.invariant.2 ∙ ap (size_from l.total) (left_none a.counts.now a.letters.now a.number l.i c.loop-i-test.false) ∙ size_none l.total)
