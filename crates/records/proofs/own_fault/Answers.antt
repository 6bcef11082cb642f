-- `records::own_fault` meets its contract: a refusal of the genome bounds counts at once (`refuses`), and without one that of the transcript bounds does (`passes`). Assumes nothing.
use mathlib.Core.Path.{◌≡◌, sym, ap₂, ◌∙◌}
use Prim.Native.Nat.{◌+◌}
use mir.Syntax.{w64}
use Rattle.std.proofs.lemmas.Result.{err_from_is_err_and}
use Rattle.whole.specs.laws.Whole.{told}
use Rattle.records.specs.Layout.{alt_start_at, alt_end_at}
use Rattle.records.specs.Records.{record_at, field_at}
use Rattle.records.specs.Faults.{span_fault, own_fault}
use Rattle.records.specs.laws.Chain.{refuses, passes}
use Rattle.records.proofs.own_fault.Goals as goal
use Rattle.records.proofs.own_fault.Goals.{After-span_fault}

-- what the test of the genome bounds gave
genome : (c : After-span_fault) → c.span_fault.result ≡ span_fault (field_at c.args.s.now (c.args.at + alt_start_at)) (field_at c.args.s.now (c.args.at + alt_end_at))
genome c =
    c.span_fault.ensures
    ∙ ap₂ span_fault
    (told w64 _ c.field.type_inv ∙ c.field.ensures)
    (told w64 _ c.field-2.type_inv ∙ c.field-2.ensures)

pub returns-in_err-span_fault : goal.returns-in_err-span_fault
unfolding own_fault record_at
returns-in_err-span_fault c =
    let p = err_from_is_err_and c.from_residual.result c.from_residual.ensures.1 in
    rw (p.1, p.2) (refuses _ (sym c.in_err-span_fault.was ∙ genome (goal.at.returns-in_err-span_fault c).After-span_fault))

pub returns : goal.returns
unfolding own_fault record_at
returns c =
    passes (sym c.in_ok-span_fault.was ∙ genome (goal.at.returns c).After-span_fault)
    (c.span_fault-2.ensures
    ∙ ap₂ span_fault
    (told w64 _ c.field-3.type_inv ∙ c.field-3.ensures)
    (told w64 _ c.field-4.type_inv ∙ c.field-4.ensures))
