-- `records::pair_fault` meets its contract: a refusal of the genome start counts at once (`refuses`); without one `follow_fault` decides (`passes`), asked the other way round on strand -1. Assumes nothing.
use mathlib.Core.Path.{◌≡◌, sym, ap₂, ◌∙◌}
use Prim.Native.Nat.{◌+◌}
use mir.Syntax.{w64}
use Rattle.std.proofs.lemmas.Result.{err_from_is_err_and}
use Rattle.whole.specs.laws.Whole.{told}
use Rattle.records.specs.Layout.{alt_start_at, alt_end_at}
use Rattle.records.specs.Records.{record_at, field_at}
use Rattle.records.specs.Faults.{start_fault, pair_fault}
use Rattle.records.specs.laws.Chain.{refuses, passes}
use Rattle.records.proofs.pair_fault.Goals as goal
use Rattle.records.proofs.pair_fault.Goals.{After-start_fault}

-- what the test of the genome start gave
starts : (c : After-start_fault) → c.start_fault.result ≡ start_fault (field_at c.args.s.now (c.args.previous + alt_end_at)) (field_at c.args.s.now (c.args.at + alt_start_at))
starts c =
    c.start_fault.ensures
    ∙ ap₂ start_fault
    (told w64 _ c.field.type_inv ∙ c.field.ensures)
    (told w64 _ c.field-2.type_inv ∙ c.field-2.ensures)

pub returns-in_err-start_fault : goal.returns-in_err-start_fault
unfolding pair_fault record_at
returns-in_err-start_fault c =
    let p = err_from_is_err_and c.from_residual.result c.from_residual.ensures.1 in
    rw (p.1, p.2) (refuses _ (sym c.in_err-start_fault.was ∙ starts (goal.at.returns-in_err-start_fault c).After-start_fault))

pub returns-then-forward : goal.returns-then-forward
unfolding pair_fault record_at
returns-then-forward c =
    passes (sym c.in_ok-start_fault.was ∙ starts (goal.at.returns-then-forward c).After-start_fault)
    (rw c.if-forward.true c.follow_fault.ensures)

pub returns : goal.returns
unfolding pair_fault record_at
returns c =
    passes (sym c.in_ok-start_fault.was ∙ starts (goal.at.returns c).After-start_fault)
    (rw c.if-forward.false c.follow_fault-2.ensures)
