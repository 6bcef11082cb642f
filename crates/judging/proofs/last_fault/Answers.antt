-- `judging::last_fault` meets its contract: 10 and the two tests of 9 come in the order of `last_fault`, and a length that passed 9 is what `cds_fault` asks for. Assumes nothing.
use Prim.Native.Nat.{◌+◌}
use Rattle.refusals.specs.Numbers.{most_bases}
use borrow.Author.Tests.{eq-eqb, ne_eqb, lt-ltb, le-ltb}
use Rattle.judging.specs.Judging.{last_fault}
use Rattle.judging.proofs.last_fault.Goals as goal

pub returns-then-sums-eq0 : goal.returns-then-sums-eq0
unfolding last_fault
returns-then-sums-eq0 c = rw (eq-eqb c.args.sums.count 0 c.if-sums-eq0.true)

pub returns-then-length : goal.returns-then-length
unfolding last_fault
returns-then-length c =
    let a = c.args in
    rw (ne_eqb a.sums.count 0 c.if-sums-eq0.false, lt-ltb most_bases a.sums.transcript c.if-length.true)

pub returns-then-last : goal.returns-then-last
unfolding last_fault
returns-then-last c =
    let a = c.args in
    rw (
      ne_eqb a.sums.count 0 c.if-sums-eq0.false,
      le-ltb most_bases a.sums.transcript c.if-length.false,
      lt-ltb most_bases (a.first + a.sums.genome) (rw c.from.ensures at c.if-last.true),
    )

pub returns : goal.returns
unfolding last_fault
returns c =
    let a = c.args in
    rw (
      ne_eqb a.sums.count 0 c.if-sums-eq0.false,
      le-ltb most_bases a.sums.transcript c.if-length.false,
      le-ltb most_bases (a.first + a.sums.genome) (rw c.from.ensures at c.if-last.false),
    ) c.cds_fault.ensures
