-- `cigar::step_at` meets its contract. The loop's invariant: what is to be found is what `element_from` finds from here, at the digits so far. The count stands for the true one,
-- or for any above the largest (`capped`).
-- Assumes nothing.
use mathlib.Core.Path.{sym, ap, ◌∙◌}
use mathlib.Core.Bool.{true}
use Prim.Native.Nat.{ℕ, ◌+◌}
use native.Mathlib.Omega.{arith}
use lib.ListN.{drop}
use Rattle.cigar.specs.Text.{element_from}
use Rattle.cigar.proofs.Laws.{capped, digit_step, letter_step, other_step, cut_off, starts, nothing}
use borrow.Author.Rules.{rules}
use Rattle.cigar.proofs.step_at.Goals as goal

pub returns-then-text-at : goal.returns-then-text-at
returns-then-text-at c = sym (nothing _ _ c.if-text-at.true)

pub loop-i-init : goal.loop-i-init
loop-i-init c = (omega arith, starts _ _ c.if-text-at.false)

pub more-n-requires : goal.more-n-requires
more-n-requires c = (search rules, sym c.is_ascii_digit.ensures.value ∙ c.if-is_ascii_digit.true)

pub loop-i-preserved : goal.loop-i-preserved
loop-i-preserved c =
    let l = c.loop-i in
    let text = c.args.text.now in (
      omega arith,
      l.invariant.1
          ∙ digit_step text l.given l.n l.i c.loop-i-test.true (sym c.is_ascii_digit.ensures.value ∙ c.if-is_ascii_digit.true)
          ∙ sym (capped _ _ _)
          ∙ ap (λ (k : ℕ). element_from true k (l.i + 1) (drop (l.i + 1) text)) (sym c.more-n.ensures),
    )

pub returns-then-is_letter : goal.returns-then-is_letter
returns-then-is_letter c =
    let l = c.loop-i in
    c.finish.ensures
    ∙ sym
    (l.invariant.1
    ∙ letter_step c.args.text.now l.given l.n l.i c.loop-i-test.true
    (sym c.is_ascii_digit.ensures.value ∙ c.if-is_ascii_digit.false)
    (sym c.is_letter.ensures ∙ c.if-is_letter.true))

pub returns-else-is_letter : goal.returns-else-is_letter
returns-else-is_letter c =
    let l = c.loop-i in
    sym
    (l.invariant.1
    ∙ other_step c.args.text.now l.given l.n l.i c.loop-i-test.true
    (sym c.is_ascii_digit.ensures.value ∙ c.if-is_ascii_digit.false)
    (sym c.is_letter.ensures ∙ c.if-is_letter.false))

pub returns : goal.returns
returns c = sym (c.loop-i.invariant.1 ∙ cut_off _ _ _ _ c.loop-i-test.false)
