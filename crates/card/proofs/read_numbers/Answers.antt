-- `card::read_numbers` meets its contract: each number is read where `numbers_in` has it, and what `strand_of` and `i32_at` give fits 32 bits, so that the fields are the numbers. Assumes nothing.
use mathlib.Core.Path.{◌≡◌, ◌∙◌}
use Prim.Native.Nat.{ℕ}
use native.Mathlib.Omega.{arith}
use lib.IntN.{ℤ}
use mir.Syntax.{w32}
use Rattle.whole.specs.laws.Whole.{told}
use Rattle.card.specs.Card.{numbers_in}
use Rattle.transcript.specs.declared.Numbers.{Numbers}
use Rattle.card.proofs.read_numbers.Goals as goal

pub overflow_cast-cds : goal.overflow_cast-cds
overflow_cast-cds c = omega (arith, c.shared_slice_known-3-1.given 6)

same_numbers : {s t a b x y : ℤ} {d m n : ℕ} → s ≡ t → a ≡ b → x ≡ y → m ≡ n
    → ◌≡◌ {A = Numbers} (record { strand = s; cds = d; start = a; end = x; count = m }) (record { strand = t; cds = d; start = b; end = y; count = n })
same_numbers e f g h = rw (e, f, g, h)

pub returns : goal.returns
unfolding numbers_in
returns c =
    let strand = c.strand_of-strand in
    let start = c.i32_at-start in
    let end = c.i32_at-end in
    same_numbers
    (told w32 strand.result strand.type_inv ∙ strand.ensures)
    (told w32 start.result start.type_inv ∙ start.ensures)
    (told w32 end.result end.type_inv ∙ end.ensures)
    c.u16_at-count.ensures.value
