-- `knowing::known_of` meets its contract: what the head tells is known where the tables hold, and a length, or that nothing holds together, needs no tables. Assumes nothing.
use mathlib.Core.Path.{◌≡◌, sym, ap, ◌∙◌}
use Rattle.std.proofs.lemmas.Result.{err_from_is_err_and}
use Rattle.refusals.specs.Outcome.{Ok}
use Rattle.holding.specs.Holding.{lent}
use Rattle.knowing.specs.Knowing.{told_of}
use Rattle.knowing.specs.declared.Known.TheVariants as known
use Rattle.knowing.specs.laws.Told.{told_lying, told_lies, told_apart, told_length, told_broken}
use Rattle.knowing.proofs.known_of.Goals as goal
use Rattle.knowing.proofs.known_of.Goals.{In-Aligned}

-- what the head tells of tables that are looked at
told_is : (c : In-Aligned) → told_of c.args.head c.args.transcript.now ≡ Ok (known.Aligned c.in-Aligned.cds c.in-Aligned.at)
told_is c = sym c.told_of.ensures ∙ c.in_ok-cds.was ∙ ap Ok c.in-Aligned.is

pub returns-in_err-cds : goal.returns-in_err-cds
returns-in_err-cds c =
    let a = c.args in
    let p = err_from_is_err_and c.from_residual.result c.from_residual.ensures.1 in
    rw (p.1, p.2) (sym (told_broken (lent a.head a.genome.now a.transcript.now a.letters.now a.exons.now) (sym c.told_of.ensures ∙ c.in_err-cds.was)))

pub tables_hold-requires : goal.tables_hold-requires
tables_hold-requires c = let l = told_lying _ _ _ _ (told_is (goal.at.tables_hold-requires c).In-Aligned) in (l.some, l.few)

pub returns-then-tables_hold : goal.returns-then-tables_hold
returns-then-tables_hold c = sym (told_lies _ (told_is (goal.at.returns-then-tables_hold c).In-Aligned) (sym c.tables_hold.ensures ∙ c.if-tables_hold.true))

pub returns-else-tables_hold : goal.returns-else-tables_hold
returns-else-tables_hold c = sym (told_apart _ (told_is (goal.at.returns-else-tables_hold c).In-Aligned) (sym c.tables_hold.ensures ∙ c.if-tables_hold.false))

pub returns-in-OfLength : goal.returns-in-OfLength
returns-in-OfLength c = sym (told_length _ (sym c.told_of.ensures ∙ c.in_ok-cds.was ∙ ap Ok c.in-OfLength.is))
