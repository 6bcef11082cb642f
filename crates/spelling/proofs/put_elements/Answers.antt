-- `spelling::put_elements` meets its contract. The loop keeps that the buffer, once what is left is stored to it, is the buffer that is promised. Assumes nothing.
use Rattle.std.proofs.Common.{◌≡◌, ℕ, ◌+◌, ◌++◌, ℤ, pos, nat_abs, length, get_or, w32, refl, sym, ap, subst, ◌∙◌, arith, length-append}
use Rattle.std.proofs.lemmas.List.Edits.{sets}
use Rattle.whole.specs.laws.Whole.{told}
use Rattle.refusals.specs.Outcome.{Answered}
use Rattle.cigar.specs.Text.{Reading}
use Rattle.cigar.specs.laws.Stores.{sets_append}
use Rattle.spelling.specs.Write.{element_text, elements_text}
use Rattle.spelling.proofs.Writing.{left_of, left_all, left_more, left_none, Judged, judged_answered}
use Rattle.spelling.proofs.put_elements.Invariants.{in_text}
use Rattle.spelling.proofs.put_elements.Goals as goal
use Rattle.spelling.proofs.put_elements.Goals.{In-loop-i, After-unsigned}

-- the element at the place, and its text before that of what is left
module _ (c : In-loop-i) where
  abbrev place : ℕ
  place = c.loop-i.i

  abbrev count : ℤ
  count = get_or c.args.counts.now place (pos 0)

  abbrev letter : ℕ
  letter = get_or c.args.letters.now place 0

  abbrev left : ℕ → Reading
  left i = left_of c.args.counts.now c.args.letters.now c.args.number i

  here : Judged count letter (left (place + 1))
  here = judged_answered count letter (left (place + 1)) (subst Answered (left_more _ _ c.args.number place c.loop-i-test.true) c.loop-i.invariant.1)

  parts : in_text (left place) ≡ element_text (nat_abs count) letter ++ in_text (left (place + 1))
  unfolding elements_text
  parts = ap in_text (left_more _ _ c.args.number place c.loop-i-test.true) ∙ ap elements_text here.is

  sizes : length (in_text (left place)) ≡ length (element_text (nat_abs count) letter) + length (in_text (left (place + 1)))
  sizes = ap length parts ∙ length-append (element_text (nat_abs count) letter) (in_text (left (place + 1)))

-- the count that is handed on
handed : (c : After-unsigned) → c.unsigned.result ≡ nat_abs (get_or c.args.counts.now c.loop-i.i (pos 0))
handed c = c.unsigned.ensures ∙ ap nat_abs (told w32 (get_or c.args.counts.now c.loop-i.i (pos 0)) c.unsigned-arg-1.given)

pub loop-i-init : goal.loop-i-init
loop-i-init c =
    let a = c.args in
    rw (← left_all a.counts.now a.letters.now a.number) (omega arith, c.requires.answered, omega arith, refl)

pub unsigned-requires : goal.unsigned-requires
unsigned-requires c =
    let n = (goal.at.unsigned-requires c).In-loop-i in
    rw (told w32 (count n) c.unsigned-arg-1.given) (here n).whole

pub put_element-at-requires : goal.put_element-at-requires
put_element-at-requires c =
    let n = (goal.at.put_element-at-requires c).In-loop-i in
    rw (handed (goal.at.put_element-at-requires c).After-unsigned) (omega (arith, sizes n))

pub loop-i-preserved : goal.loop-i-preserved
loop-i-preserved c =
    let n = (goal.at.loop-i-preserved c).In-loop-i in
    let l = c.loop-i in
    let p = c.put_element-at in
    let text = element_text (nat_abs (count n)) (letter n) in
    let h = handed (goal.at.loop-i-preserved c).After-unsigned in
    let end : p.result ≡ l.at + length text = rw h at p.ensures.0 in
    let stored : p.new.buf ≡ sets l.buffer l.at text = rw h at p.ensures.1 in (
      omega arith,
      (here n).rest,
      omega (arith, sizes n),
      rw (stored, end) (sym (sets_append text (in_text (left n (place n + 1))) l.buffer l.at) ∙ ap (sets l.buffer l.at) (sym (parts n)) ∙ l.invariant.3),
    )

pub returns : goal.returns
unfolding elements_text
returns c =
    let a = c.args in
    let l = c.loop-i in
    ap (λ (r : Reading). sets l.buffer l.at (in_text r)) (sym (left_none a.counts.now a.letters.now a.number l.i c.loop-i-test.false)) ∙ l.invariant.3
