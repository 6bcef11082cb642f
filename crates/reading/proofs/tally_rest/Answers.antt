-- `reading::tally_rest` meets its contract: the loop keeps that the whole tally is that of the records that are left, from the sums so far. Assumes nothing.
use mathlib.Core.Path.{◌≡◌, refl, sym, subst, ◌∙◌}
use Prim.Native.Nat.{◌+◌, ◌-◌}
use native.Mathlib.Omega.{arith}
use Rattle.std.proofs.lemmas.Result.{err_from_is_err_and}
use Rattle.records.specs.Records.{record_at}
use Rattle.records.specs.Walk.{Turn}
use Rattle.records.specs.laws.Walk.{turn}
use Rattle.reading.specs.Tallies.{BoundedTally}
use Rattle.reading.proofs.laws.Tallied.{rest_sums, rest_refused, rest_none}
use Rattle.reading.proofs.tally_rest.Goals as goal
use Rattle.reading.proofs.tally_rest.Goals.{In-loop}

pub loop-init : goal.loop-init
loop-init c = let all : c.args.left - 0 ≡ c.args.left = omega arith in rw all (c.requires.walk, c.requires.bounded, refl)

-- the record at the place stands, beside the one before it, and the walk goes on
turn_here : (c : In-loop) → let l = c.loop in Turn c.args.s.now l.previous (c.args.left - l.counter) l.at
turn_here c = turn (omega arith) c.loop.invariant.0

pub tally_next-requires : goal.tally_next-requires
tally_next-requires c =
    let l = c.loop in
    let r = turn_here (goal.at.tally_next-requires c).In-loop in
    record { cigar_text_in_bounds = (l.invariant.0.inside, r.stands); beside = r.beside; bounded = l.invariant.1 }

pub next_at-at-requires : goal.next_at-at-requires
next_at-at-requires c = (turn_here (goal.at.next_at-at-requires c).In-loop).stands.numbers

pub loop-preserved : goal.loop-preserved
loop-preserved c =
    let l = c.loop in
    let s = c.args.s.now in
    let e = c.tally_next.ensures in
    let q = c.in_ok-sums.was in
    let fewer : c.args.left - (l.counter + 1) ≡ c.args.left - l.counter - 1 = omega arith in
    rw (c.next_at-at.ensures, fewer) (
      (turn_here (goal.at.loop-preserved c).In-loop).next,
      subst BoundedTally q e.1,
      l.invariant.2 ∙ rest_sums s (c.args.left - l.counter) l.at (omega arith) (record_at s l.previous) l.sums (sym q ∙ e.0),
    )

pub returns-in_err-sums : goal.returns-in_err-sums
returns-in_err-sums c =
    let l = c.loop in
    let s = c.args.s.now in
    let e = c.tally_next.ensures in
    let p = err_from_is_err_and c.from_residual.result c.from_residual.ensures.1 in
    rw (p.1, p.2) (sym (l.invariant.2 ∙ rest_refused s (c.args.left - l.counter) l.at (omega arith) (record_at s l.previous) l.sums (sym c.in_err-sums.was ∙ e.0)), tt)

pub returns : goal.returns
returns c =
    let l = c.loop in
    (sym (l.invariant.2 ∙ rest_none _ (c.args.left - l.counter) l.at _ l.sums (omega arith)), l.invariant.1)
