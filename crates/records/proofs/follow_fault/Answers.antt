-- `records::follow_fault` meets its contract: a refusal of the two `ord`s counts at once (`refuses`), and without one that of the transcript end and start does (`passes`). Assumes nothing.
use mathlib.Core.Path.{◌≡◌, sym, ap₂, ◌∙◌}
use Prim.Native.Nat.{◌+◌}
use mir.Syntax.{w64}
use Rattle.std.proofs.lemmas.Result.{err_from_is_err_and}
use Rattle.whole.specs.laws.Whole.{told}
use Rattle.records.specs.Layout.{ord_at}
use Rattle.records.specs.Records.{record_at, field_at}
use Rattle.records.specs.Faults.{rise_fault, join_fault, follow_fault}
use Rattle.records.specs.laws.Chain.{refuses, passes}
use Rattle.records.proofs.follow_fault.Goals as goal
use Rattle.records.proofs.follow_fault.Goals.{After-rise_fault}

-- what the test of `ord` gave
rises : (c : After-rise_fault) → c.rise_fault.result ≡ rise_fault (field_at c.args.s.now (c.args.a + ord_at)) (field_at c.args.s.now (c.args.b + ord_at))
rises c =
    c.rise_fault.ensures
    ∙ ap₂ rise_fault
    (told w64 _ c.field.type_inv ∙ c.field.ensures)
    (told w64 _ c.field-2.type_inv ∙ c.field-2.ensures)

pub returns-in_err-rise_fault : goal.returns-in_err-rise_fault
unfolding follow_fault record_at
returns-in_err-rise_fault c =
    let p = err_from_is_err_and c.from_residual.result c.from_residual.ensures.1 in
    rw (p.1, p.2) (refuses _ (sym c.in_err-rise_fault.was ∙ rises (goal.at.returns-in_err-rise_fault c).After-rise_fault))

pub returns : goal.returns
unfolding follow_fault record_at
returns c =
    passes (sym c.in_ok-rise_fault.was ∙ rises (goal.at.returns c).After-rise_fault)
    (c.join_fault.ensures
    ∙ ap₂ join_fault
    (told w64 _ c.field-3.type_inv ∙ c.field-3.ensures)
    (told w64 _ c.field-4.type_inv ∙ c.field-4.ensures))
