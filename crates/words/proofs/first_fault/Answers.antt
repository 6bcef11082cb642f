-- `words::first_fault` meets its contract. The loop keeps that the first refusal is that of the elements that are left. Assumes nothing.
use Rattle.std.proofs.Common.{◌≡◌, ◌+◌, ◌-◌, ℤ, pos, get_or, w32, sym, ap, ◌∙◌, arith}
use Rattle.std.proofs.lemmas.Result.{err_from_is_err_and}
use Rattle.whole.specs.laws.Whole.{told}
use Rattle.refusals.specs.Outcome.{unless}
use Rattle.words.specs.Words.{fault_of, fault_from}
use Rattle.words.proofs.Words.{fault_more, fault_end}
use Rattle.words.proofs.first_fault.Goals as goal
use Rattle.words.proofs.first_fault.Goals.{After-fault_of}

-- the element at the place, judged before those that follow
left : (c : After-fault_of)
    → fault_from c.args.counts.now c.args.letters.now 0 c.args.number
    ≡ unless c.fault_of.result (fault_from c.args.counts.now c.args.letters.now (c.loop-i.i + 1) (c.args.number - (c.loop-i.i + 1)))
left c =
    let a = c.args in
    let i = c.loop-i.i in
    let count = get_or a.counts.now i (pos 0) in
    let letter = get_or a.letters.now i 0 in
    let judged : c.fault_of.result ≡ fault_of count letter = c.fault_of.ensures ∙ ap (λ (z : ℤ). fault_of z letter) (told w32 count c.fault_of-arg-1.given) in
    rw judged (c.loop-i.invariant.1 ∙ fault_more a.counts.now a.letters.now a.number i c.loop-i-test.true)

pub loop-i-init : goal.loop-i-init
loop-i-init c = let a = c.args in (omega arith, ap (fault_from a.counts.now a.letters.now 0) {x = a.number} {y = a.number - 0} (omega arith))

pub loop-i-preserved : goal.loop-i-preserved
loop-i-preserved c = (omega arith, rw c.in_ok-fault_of.was at (left (goal.at.loop-i-preserved c).After-fault_of))

pub returns-in_err-fault_of : goal.returns-in_err-fault_of
returns-in_err-fault_of c =
    let p = err_from_is_err_and c.from_residual.result c.from_residual.ensures.1 in
    rw (p.1, p.2) (sym (rw c.in_err-fault_of.was at (left (goal.at.returns-in_err-fault_of c).After-fault_of)))

pub returns : goal.returns
returns c =
    let a = c.args in
    let l = c.loop-i in
    sym (l.invariant.1 ∙ fault_end a.counts.now a.letters.now a.number l.i c.loop-i-test.false)
