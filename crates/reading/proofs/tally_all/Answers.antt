-- `reading::tally_all` meets its contract: the first record's refusal is that of all (`first_refused`), and from its sums on all is the tally of the rest (`first_sums`). Assumes nothing.
use mathlib.Core.Path.{sym, subst, ◌∙◌}
use native.Mathlib.Omega.{arith}
use Rattle.std.proofs.lemmas.Result.{err_from_is_err_and}
use Rattle.reading.specs.Tallies.{BoundedTally}
use Rattle.reading.proofs.laws.Tallied.{first_sums, first_refused}
use Rattle.reading.proofs.tally_all.Goals as goal

pub tally_first-requires : goal.tally_first-requires
tally_first-requires c = c.requires.stands

pub next_at-requires : goal.next_at-requires
next_at-requires c = c.requires.stands.numbers

pub overflow_sub-count : goal.overflow_sub-count
overflow_sub-count c = let r = c.requires in omega (arith, r.some)

pub tally_rest-requires : goal.tally_rest-requires
tally_rest-requires c =
    let r = c.requires in
    let e = c.tally_first.ensures in
    record { walk = rw c.next_at.ensures r.next; bounded = subst BoundedTally c.in_ok-first.was e.1 }

pub returns : goal.returns
returns c =
    let f = c.tally_first.ensures in
    let q = c.in_ok-first.was in
    let e = c.tally_rest.ensures in
    (rw c.next_at.ensures at e.0 ∙ sym (first_sums c.args.s.now c.args.count 0 c.requires.some (sym q ∙ f.0)), e.1)

pub returns-in_err-first : goal.returns-in_err-first
returns-in_err-first c =
    let f = c.tally_first.ensures in
    let p = err_from_is_err_and c.from_residual.result c.from_residual.ensures.1 in
    rw (p.1, p.2) (sym (first_refused c.args.s.now c.args.count 0 c.requires.some (sym c.in_err-first.was ∙ f.0)), tt)
