-- `cigar::is_letter` meets its contract: the arms of the `match` say which test of `is_letter` holds. `N` has an arm of its own: beside `M` the two would be a range.
-- Assumes nothing.
use mathlib.Core.Logic.{⊎_elim, inl, inr}
use borrow.Author.Tests.{ne_eqb}
use Rattle.cigar.specs.Elements.{is_letter}
use Rattle.cigar.proofs.is_letter.Goals as goal

pub returns-in-61 : goal.returns-in-61
unfolding is_letter
returns-in-61 c =
    ⊎_elim (λ e. rw e) (⊎_elim (λ e. rw e) (⊎_elim (λ e. rw e) (⊎_elim (λ e. rw e) (λ e. rw e)))) c.in-61.is

pub returns-in-78 : goal.returns-in-78
unfolding is_letter
returns-in-78 c = rw c.in-78.is

pub returns-in_default : goal.returns-in_default
unfolding is_letter
returns-in_default c =
    let n = c.in_default.in_default-own.rest.0.1 in
    simp (
      ne_eqb _ 61 (λ e. n (inl e)),
      ne_eqb _ 68 (λ e. n (inr (inl e))),
      ne_eqb _ 73 (λ e. n (inr (inr (inl e)))),
      ne_eqb _ 77 (λ e. n (inr (inr (inr (inl e))))),
      ne_eqb _ 78 c.in_default.in_default-own.rest.1,
      ne_eqb _ 88 (λ e. n (inr (inr (inr (inr e))))),
    )
