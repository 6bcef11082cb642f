-- `knowing::told_of` meets its contract: where the bases are known and the CDS holds, the head's own tests have passed, its bounds are natural, and so is a length. Assumes nothing.
use Rattle.std.specs.Prelude.{ℕ, Some, None, Option}
use Rattle.std.specs.Option.{ok_or}
use Rattle.std.specs.Result.{result_ok}
use Rattle.std.proofs.lemmas.Result.{err_from_is_err_and}
use mathlib.Core.Path.{◌≡◌, sym, ap, ◌∙◌}
use mathlib.Core.Bool.{true, false}
use native.Mathlib.Omega.{arith}
use lib.IntN.{pos}
use mir.Syntax.{w32}
use Rattle.refusals.specs.declared.Refusal.TheVariants.{NotTogether}
use Rattle.whole.specs.laws.Whole.{told}
use Rattle.whole.specs.laws.Machine.{same_32, other_32}
use Rattle.holding.specs.Holding.{of_records}
use Rattle.holding.specs.Parts.{bases_of}
use Rattle.holding.specs.laws.Parts.{right_head, right_length}
use Rattle.knowing.specs.Knowing.{told_of}
use Rattle.knowing.specs.laws.Known.{same_refusal, natural_where}
use Rattle.knowing.proofs.told_of.Goals as goal
use Rattle.knowing.proofs.told_of.Goals.{In_ok-bases, Then-cds_holds, Then-kind-eq-OF_RECORDS, Else-kind-eq-OF_RECORDS}

bases_are : (c : In_ok-bases) → bases_of c.args.head c.args.transcript.now ≡ Some c.in_ok-bases.bases
bases_are c = sym c.bases_of.ensures ∙ c.ok_or.ensures.ok_part ∙ ap result_ok c.in_ok-bases.was

is_records : (c : Then-kind-eq-OF_RECORDS) → of_records c.args.head ≡ true
is_records c = same_32 {a = c.args.head.kind} {b = pos 0} (record { sfits = c.struct_told-1.given.0.1 }) (record { sfits = omega arith }) c.if-kind-eq-OF_RECORDS.true

is_length : (c : Else-kind-eq-OF_RECORDS) → of_records c.args.head ≡ false
is_length c = other_32 c.args.head.kind (pos 0) c.if-kind-eq-OF_RECORDS.false

pub returns-in_err-bases : goal.returns-in_err-bases
unfolding told_of
returns-in_err-bases c =
    let p = err_from_is_err_and c.from_residual.result c.from_residual.ensures.1 in
    let none : c.bases_of.result ≡ None = c.ok_or.ensures.ok_part ∙ ap result_ok c.in_err-bases.was in
    rw (p.1, p.2, sym c.bases_of.ensures ∙ none, same_refusal (sym c.in_err-bases.was ∙ c.ok_or.ensures.value ∙ ap (λ (o : Option ℕ). ok_or o NotTogether) none))

pub coding_of-cds-requires : goal.coding_of-cds-requires
coding_of-cds-requires c = natural_where _ _ (sym c.cds_holds.ensures ∙ c.if-cds_holds.true)

pub alignment-requires : goal.alignment-requires
alignment-requires c = (right_head _ _ (bases_are (goal.at.alignment-requires c).In_ok-bases) (is_records (goal.at.alignment-requires c).Then-kind-eq-OF_RECORDS)).0

pub natural-requires : goal.natural-requires
natural-requires c =
    let at = goal.at.natural-requires c in
    simp (told w32 c.args.head.length c.struct_told-then-cds_holds-1.given.1.1.1.1.1.1.1.0.1) (right_length _ _ (bases_are at.In_ok-bases) (is_length at.Else-kind-eq-OF_RECORDS))
