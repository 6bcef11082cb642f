-- `records::records_fault` meets its contract. The loop keeps that the first refusal of all records is that of the rest, beside the previous one. Assumes nothing.
use mathlib.Core.Path.{◌≡◌, refl, sym, ◌∙◌}
use mathlib.Core.Bool.{Bool}
use mathlib.Core.List.{List}
use Prim.Native.Nat.{ℕ, ◌+◌, ◌-◌}
use native.Mathlib.Omega.{arith}
use Rattle.std.proofs.lemmas.Result.{err_from_is_err_and}
use Rattle.records.specs.Records.{next_at, record_at, records_from}
use Rattle.records.specs.Faults.{◌or_else◌, own_fault, pair_fault, faults_after, faults}
use Rattle.records.specs.laws.Chain.{refuses, passes}
use Rattle.records.specs.Walk.{Begins}
use Rattle.records.specs.laws.Walk.{begins, faults_first, faults_one, faults_none, no_faults}
use Rattle.records.proofs.records_fault.Goals as goal
use Rattle.records.proofs.records_fault.Goals.{Else-count-eq0, In-loop}

pub returns-then-count-eq0 : goal.returns-then-count-eq0
returns-then-count-eq0 c = sym (no_faults _ c.args.count _ 0 (omega arith))

-- a record begins at the front, and at each turn of the loop
first_begins : (c : Else-count-eq0) → Begins c.args.count c.args.s.now 0
first_begins c = begins _ _ 0 (omega arith) c.requires

pub own_fault-requires : goal.own_fault-requires
own_fault-requires c = (first_begins (goal.at.own_fault-requires c).Else-count-eq0).stands.numbers

pub returns-in_err-own_fault : goal.returns-in_err-own_fault
returns-in_err-own_fault c =
    let a = c.args in
    let p = err_from_is_err_and c.from_residual.result c.from_residual.ensures.1 in
    rw (p.1, p.2) (refuses _ (sym c.in_err-own_fault.was ∙ c.own_fault.ensures) ∙ sym (faults_first a.forward a.count a.s.now 0 (omega arith)))

pub next_at-at-requires : goal.next_at-at-requires
next_at-at-requires c = (first_begins (goal.at.next_at-at-requires c).Else-count-eq0).stands.numbers

pub loop-init : goal.loop-init
loop-init c =
    let a = c.args in
    let f = first_begins (goal.at.loop-init c).Else-count-eq0 in
    rw c.next_at-at.ensures (
      f.stands.numbers,
      f.others,
      faults_first a.forward a.count a.s.now 0 (omega arith)
          ∙ sym (passes (sym c.in_ok-own_fault.was ∙ c.own_fault.ensures) refl),
    )

module _ (c : In-loop) where
  abbrev bytes : List ℕ
  bytes = c.args.s.now

  abbrev strand : Bool
  strand = c.args.forward

  abbrev left : ℕ
  left = c.args.count - c.loop.counter

  begins_here : Begins left bytes c.loop.at
  begins_here = begins _ _ _ (omega arith) c.loop.invariant.1

  -- what all records are refused for is what the rest is refused for
  from_here : faults strand (records_from c.args.count bytes 0)
      ≡ own_fault (record_at bytes c.loop.at)
      or_else pair_fault strand (record_at bytes c.loop.previous) (record_at bytes c.loop.at)
      or_else faults_after strand (record_at bytes c.loop.at) (records_from (left - 1) bytes (next_at bytes c.loop.at))
  from_here = c.loop.invariant.2 ∙ faults_one _ _ left _ c.loop.at (omega arith)

pub own_fault-requires-in-loop : goal.own_fault-requires-in-loop
own_fault-requires-in-loop c = (begins_here (goal.at.own_fault-requires-in-loop c).In-loop).stands.numbers

pub returns-in_err-own_fault-2 : goal.returns-in_err-own_fault-2
returns-in_err-own_fault-2 c =
    let p = err_from_is_err_and c.from_residual-in_err-own_fault-2.result c.from_residual-in_err-own_fault-2.ensures.1 in
    rw (p.1, p.2)
    (refuses _ (sym c.in_err-own_fault-2.was ∙ c.own_fault-in-loop.ensures) ∙ sym (from_here (goal.at.returns-in_err-own_fault-2 c).In-loop))

pub pair_fault-requires : goal.pair_fault-requires
pair_fault-requires c = (c.loop.invariant.0, (begins_here (goal.at.pair_fault-requires c).In-loop).stands.numbers)

pub returns-in_err-pair_fault : goal.returns-in_err-pair_fault
returns-in_err-pair_fault c =
    let p = err_from_is_err_and c.from_residual-in_err-pair_fault.result c.from_residual-in_err-pair_fault.ensures.1 in
    rw (p.1, p.2)
    (passes (sym c.in_ok-own_fault-2.was ∙ c.own_fault-in-loop.ensures)
    (refuses _ (sym c.in_err-pair_fault.was ∙ c.pair_fault.ensures))
    ∙ sym (from_here (goal.at.returns-in_err-pair_fault c).In-loop))

pub next_at-at-requires-in-loop : goal.next_at-at-requires-in-loop
next_at-at-requires-in-loop c = (begins_here (goal.at.next_at-at-requires-in-loop c).In-loop).stands.numbers

pub loop-preserved : goal.loop-preserved
loop-preserved c =
    let b = begins_here (goal.at.loop-preserved c).In-loop in
    let fewer : c.args.count - (c.loop.counter + 1) ≡ c.args.count - c.loop.counter - 1 = omega arith in
    rw (c.next_at-at-in-loop.ensures, fewer) (
      b.stands.numbers,
      b.others,
      from_here (goal.at.loop-preserved c).In-loop
          ∙ sym
          (passes (sym c.in_ok-own_fault-2.was ∙ c.own_fault-in-loop.ensures)
          (passes (sym c.in_ok-pair_fault.was ∙ c.pair_fault.ensures) refl)),
    )

pub returns : goal.returns
returns c =
    let l = c.loop in
    sym (l.invariant.2 ∙ faults_none _ _ (c.args.count - l.counter) _ l.at (omega arith))
