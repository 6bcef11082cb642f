-- `worklist::order::never_falls` meets its contract: after the turns so far the flag is `all_below` of the steps before i, and after all of them that is what the definition says. Assumes nothing.
use Rattle.std.specs.Prelude.{◌≡◌, ℕ, ◌+◌, ◌-◌, ◌≤◌, ◌<◌, List, ℤ, pos, length, get_or}
use Rattle.std.proofs.Common.{ap, ◌∙◌, arith}
use Rattle.std.proofs.lemmas.List.{length-map}
use Rattle.std.proofs.Math.ListN.{get_or-map}
use Rattle.segments.specs.Tables.{all_below}
use Rattle.segments.specs.laws.Gathering.{all_none, all_more}
use Rattle.worklist.specs.declared.Slot.{Slot}
use Rattle.worklist.proofs.Values.{none}
use Rattle.worklist.specs.Worklist.{positions_of, rises_at, never_falls}
use Rattle.worklist.proofs.order.never_falls.Goals as goal

-- the position in slot i
at_slot : (ys : List Slot) (i : ℕ) → get_or (positions_of ys) i (pos 0) ≡ (get_or ys i none).position
at_slot ys i = get_or-map {A = Slot} {B = ℤ} (λ (s : Slot). s.position) ys i none

pub loop-i-init : goal.loop-i-init
loop-i-init c = record { within = omega arith; so_far = all_none (rises_at (positions_of c.args.slots.now)) }

pub loop-i-preserved : goal.loop-i-preserved
loop-i-preserved c =
    let ys : List Slot = c.args.slots.now in
    let i : ℕ = c.loop-i.i in
    let h = c.loop-i.invariant in
    let begun : 1 ≤ i = c.loop-i.auto.i in
    let within : i < length ys = c.loop-i-test.true in
    let back : i + 1 - 1 ≡ i - 1 + 1 = omega arith in
    let here : i - 1 + 1 ≡ i = omega arith in
    record {
      within = omega arith;
      so_far = rw back (c.goes_on-rose.ensures ∙ all_more (rises_at (positions_of ys)) (i - 1) h.so_far (rw (at_slot ys (i - 1), here, at_slot ys i)));
    }

pub returns : goal.returns
unfolding never_falls
returns c =
    let ys : List Slot = c.args.slots.now in
    let h = c.loop-i.invariant in
    let ended : length ys ≤ c.loop-i.i = c.loop-i-test.false in
    let long : length (positions_of ys) ≡ length ys = length-map ys (λ (s : Slot). s.position) in
    let all : c.loop-i.i - 1 ≡ length (positions_of ys) - 1 = omega arith in
    h.so_far ∙ ap (all_below (rises_at (positions_of ys))) all
