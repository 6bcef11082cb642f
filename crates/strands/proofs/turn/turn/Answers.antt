-- The two tests are those of `turning`, and nothing is stored until both have passed.
-- Assumes nothing.
use Rattle.std.proofs.Common.{◌≡◌, true, List, ◌++◌, ℕ, length, drop, refl, sym, ap, ◌∙◌}
use Rattle.strands.specs.Turned.{are_bases, turned}
use Rattle.strands.specs.laws.Turning.{turned_length, turning_other, turning_long, turning_fits}
use Rattle.strands.proofs.turn.turn.Goals as goal
use Rattle.strands.proofs.turn.turn.Goals.{Else-not-are_bases}

-- the first test passed
judged : (c : Else-not-are_bases) → are_bases c.args.allele.now ≡ true
judged c = sym c.are_bases.ensures ∙ c.if-not-are_bases.false

pub returns-then-not-are_bases : goal.returns-then-not-are_bases
returns-then-not-are_bases c =
    let a = c.args in
    rw (turning_other a.allele.now (length a.buffer.now) (sym c.are_bases.ensures ∙ c.if-not-are_bases.true)) record { value = refl; buffer_after = refl }

pub returns-then-buffer-allele : goal.returns-then-buffer-allele
returns-then-buffer-allele c =
    let a = c.args in
    rw (turning_long a.allele.now (length a.buffer.now) (judged (goal.at.returns-then-buffer-allele c).Else-not-are_bases) c.if-buffer-allele.true) record { value = refl; buffer_after = refl }

pub put_on_strand-requires : goal.put_on_strand-requires
put_on_strand-requires c = (judged (goal.at.put_on_strand-requires c).Else-not-are_bases, c.if-buffer-allele.false)

pub returns : goal.returns
returns c =
    let a = c.args in
    let s : List ℕ = a.allele.now in
    rw (turning_fits s (length a.buffer.now) (judged (goal.at.returns c).Else-not-are_bases) c.if-buffer-allele.false)
    record { value = refl; buffer_after = c.put_on_strand.ensures ∙ ap (λ (n : ℕ). turned s ++ drop n a.buffer.now) (sym (turned_length s)) }
