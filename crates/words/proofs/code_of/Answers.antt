-- `words::code_of` meets its contract: the arm that was taken says which test of `code_of` holds. Assumes nothing.
use mathlib.Core.Path.{◌≡◌, refl}
use mathlib.Core.Bool.{true}
use Prim.Native.Nat.{ℕ}
use native.Mathlib.Omega.{arith}
use borrow.Author.Tests.{ne_eqb, eqb-true}
use Rattle.cigar.specs.Elements.{is_letter, letter_equal, letter_d, letter_i, letter_m, letter_n, letter_x}
use Rattle.words.specs.Words.{code_of}
use Rattle.words.proofs.code_of.Goals as goal

-- a letter that is none of the five others
letter_left : (b : ℕ) → is_letter b ≡ true → (b ≡ letter_m → ⊥) → (b ≡ letter_d → ⊥) → (b ≡ letter_i → ⊥) → (b ≡ letter_n → ⊥) → (b ≡ letter_equal → ⊥) → b ≡ letter_x
unfolding is_letter
letter_left b l m d i n e =
    eqb-true b letter_x
    (rw (ne_eqb b letter_equal e, ne_eqb b letter_d d, ne_eqb b letter_i i, ne_eqb b letter_m m, ne_eqb b letter_n n) at l)

pub returns-in-77 : goal.returns-in-77
unfolding code_of
returns-in-77 c = rw c.in-77.is (refl, omega arith)

pub returns-in-68 : goal.returns-in-68
unfolding code_of
returns-in-68 c = rw c.in-68.is (refl, omega arith)

pub returns-in-73 : goal.returns-in-73
unfolding code_of
returns-in-73 c = rw c.in-73.is (refl, omega arith)

pub returns-in-78 : goal.returns-in-78
unfolding code_of
returns-in-78 c = rw c.in-78.is (refl, omega arith)

pub returns-in-61 : goal.returns-in-61
unfolding code_of
returns-in-61 c = rw c.in-61.is (refl, omega arith)

pub returns-in_default : goal.returns-in_default
unfolding code_of
returns-in_default c =
    let n = c.in_default.in_default-own.rest in
    rw (letter_left _ c.requires n.0.0.0.0.1 n.0.0.0.1 n.0.0.1 n.0.1 n.1) (refl, omega arith)
