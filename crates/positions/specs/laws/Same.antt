-- Two answers that a contract allows are equal: what an answer says in the paper's terms says all of it. Assumes nothing.
use Rattle.std.specs.Prelude.{ℕ, ◌≡◌, refl, Bool, true, false}
use Rattle.std.proofs.Common.{sym, ap, ◌∙◌}
use Rattle.refusals.specs.Outcome.{Outcome, Ok, Err, through}
use Rattle.positions.specs.Positions.{Interval, each, GPosition, NPosition, CPosition}
use Rattle.positions.specs.Answers.{Mark, certain, uncertain, unmarked, exons_of, mark_of, Answer}
use Rattle.positions.specs.Answers as paper
use Rattle.positions.specs.Paper.{marking, paper_marked, paper_unmarked, paper_g_position, paper_n_position, paper_c_position, paper_g, paper_n, paper_c, paper_n_plain, paper_c_plain}
use Rattle.positions.specs.declared.GPosition as code_g
use Rattle.positions.specs.declared.NPosition as code_n
use Rattle.positions.specs.declared.CPosition as code_c
use Rattle.positions.specs.declared.Marked as code_marked
use Rattle.positions.specs.declared.Marked.{Marked}

-- a reading that can be undone reads no two values alike
undone : {A B : Type 0} (read : A → B) (back : B → A) → ((a : A) → back (read a) ≡ a) → (x : B) (a b : A) → read a ≡ x → read b ≡ x → a ≡ b
undone read back is x a b e f = sym (is a) ∙ ap back (e ∙ sym f) ∙ is b

-- ---- back from the paper's terms

abbrev back_g : GPosition → code_g.GPosition
back_g a = record { base = a.base }

abbrev back_n : NPosition → code_n.NPosition
back_n a = record { base = a.base; offset = a.offset }

abbrev back_c : CPosition → code_c.CPosition
back_c a = record { base = a.base.0; star = a.base.1; offset = a.offset }

abbrev is_certain : Mark → Bool
is_certain (certain exons) = true
is_certain (uncertain exons) = false
is_certain unmarked = false

abbrev back_marked : {C P : Type 0} → (P → C) → paper.Marked P → Marked C
back_marked back a = marking (is_certain a.mark) (exons_of a.mark) (each back a.interval)

-- what one position says is undone by `back`, so what an answer of such positions says is
module _ {C P : Type 0} (says : C → P) (back : P → C) (is : (a : C) → back (says a) ≡ a) where
  interval_is : (i : Interval C) → each back (each says i) ≡ i
  interval_is i = rw (is i.from, is i.to)

  marked_is : (a : Outcome (Marked C)) → through (back_marked back) (through (paper_marked says) a) ≡ a
  marked_is (Ok (code_marked.TheVariants.Certain i exons)) = rw (interval_is i)
  marked_is (Ok (code_marked.TheVariants.Uncertain i exons)) = rw (interval_is i)
  marked_is (Err k) = refl

  marked_same : (x : Answer P) (a b : Outcome (Marked C)) → through (paper_marked says) a ≡ x → through (paper_marked says) b ≡ x → a ≡ b
  marked_same = undone (through (paper_marked says)) (through (back_marked back)) marked_is

  unmarked_is : (a : Outcome (Interval C)) → through (λ (m : paper.Marked P). each back m.interval) (through (paper_unmarked says) a) ≡ a
  unmarked_is (Ok i) = rw (interval_is i)
  unmarked_is (Err k) = refl

  unmarked_same : (x : Answer P) (a b : Outcome (Interval C)) → through (paper_unmarked says) a ≡ x → through (paper_unmarked says) b ≡ x → a ≡ b
  unmarked_same = undone (through (paper_unmarked says)) (through (λ (m : paper.Marked P). each back m.interval)) unmarked_is

-- ---- of each kind of answer, two that say the same are the same; a yes or a no is its own reading

pub g_same : (x : Answer GPosition) (a b : Outcome (Marked code_g.GPosition)) → paper_g a ≡ x → paper_g b ≡ x → a ≡ b
g_same = marked_same paper_g_position back_g (λ a. refl)

pub n_same : (x : Answer NPosition) (a b : Outcome (Marked code_n.NPosition)) → paper_n a ≡ x → paper_n b ≡ x → a ≡ b
n_same = marked_same paper_n_position back_n (λ a. refl)

pub c_same : (x : Answer CPosition) (a b : Outcome (Marked code_c.CPosition)) → paper_c a ≡ x → paper_c b ≡ x → a ≡ b
c_same = marked_same paper_c_position back_c (λ a. refl)

pub n_plain_same : (x : Answer NPosition) (a b : Outcome (Interval code_n.NPosition)) → paper_n_plain a ≡ x → paper_n_plain b ≡ x → a ≡ b
n_plain_same = unmarked_same paper_n_position back_n (λ a. refl)

pub c_plain_same : (x : Answer CPosition) (a b : Outcome (Interval code_c.CPosition)) → paper_c_plain a ≡ x → paper_c_plain b ≡ x → a ≡ b
c_plain_same = unmarked_same paper_c_position back_c (λ a. refl)

pub said_same : (x a b : Outcome Bool) → a ≡ x → b ≡ x → a ≡ b
said_same x a b e f = e ∙ sym f
