-- What `both` and `marked` of the code give, in the paper's terms, for positions of any kind. Assumes nothing.
use Rattle.std.specs.Prelude.{ℕ, ◌≡◌, refl, Bool, true, false}
use Rattle.refusals.specs.Outcome.{Outcome, Ok, Err, through, both}
use Rattle.positions.specs.Positions.{Interval, between}
use Rattle.positions.specs.Answers.{mark_of, unmarked, ends, after}
use Rattle.positions.specs.Paper.{marking, paper_marked, paper_unmarked}

module _ {C P : Type 0} (says : C → P) where
  -- the interval of two ends says what its ends say; the first one's refusal counts first
  pub both_says : (a b : Outcome C) → through (paper_unmarked says) (both between a b) ≡ ends unmarked (through says a) (through says b)
  both_says (Ok a) (Ok b) = refl
  both_says (Ok a) (Err k) = refl
  both_says (Err k) b = refl

  -- an interval that bore no mark, after a step that bears one
  pub marked_says : (sure : Bool) (exons : Interval ℕ) (a : Outcome (Interval C)) → through (paper_marked says) (through (marking sure exons) a) ≡ through (after (mark_of sure exons)) (through (paper_unmarked says) a)
  marked_says true exons (Ok i) = refl
  marked_says false exons (Ok i) = refl
  marked_says sure exons (Err k) = refl

  -- the two together
  pub marked_both : (sure : Bool) (exons : Interval ℕ) (a b : Outcome C) → through (paper_marked says) (through (marking sure exons) (both between a b)) ≡ ends (mark_of sure exons) (through says a) (through says b)
  marked_both true exons (Ok a) (Ok b) = refl
  marked_both false exons (Ok a) (Ok b) = refl
  marked_both sure exons (Ok a) (Err k) = refl
  marked_both sure exons (Err k) b = refl
