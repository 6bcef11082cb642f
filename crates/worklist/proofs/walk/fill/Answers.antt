-- `worklist::walk::fill` meets its contract: each turn answers the slot at i, which is still as it came, by the segment where the walk stands after it. Assumes nothing.
use Rattle.std.proofs.Common.{◌≡◌, refl, sym, ap, subst, ◌∙◌, ◌+◌, ◌<◌, length, get_or, set, arith, ℕ}
use Rattle.std.specs.Prelude.{List, ℤ, pos, map, true}
use lib.ListN.{length-map, get_or-map}
use Rattle.segments.specs.Tables.{tables}
use Rattle.spots.specs.Aligned.{aligned_by, Aligns, InSegment}
use Rattle.spots.specs.declared.Alignment.{Alignment}
use Rattle.worklist.specs.declared.Slot.{Slot}
use Rattle.worklist.specs.Worklist.{Track, positions_of, never_falls, steps_after, steps_laid}
use Rattle.refusals.specs.Outcome.{Ok}
use Rattle.worklist.specs.Walking.{track_by, next_index, Ready, answered_by}
use Rattle.worklist.proofs.laws.Along.{index_begins, index_on, walk_ready, walk_next, walk_here}
use Rattle.worklist.proofs.Front.{front, front_at, front_set, front_all}
use Rattle.worklist.proofs.Values.{none}
use Rattle.worklist.proofs.walk.fill.Goals as goal

-- the list ys is answered as ws, by the transcript that lies as al says
module _ (al : Alignment) (genome transcript letters exons : List ℕ) (ys : List Slot) (sound : Aligns al (tables genome transcript letters)) (sorted : never_falls (positions_of ys) ≡ true) where
  abbrev track : Track
  track = track_by al genome

  abbrev gs : List ℤ
  gs = positions_of ys

  abbrev ws : List Slot
  ws = map (answered_by (aligned_by al (tables genome transcript letters) exons)) ys

  ws_length : length ws ≡ length ys
  ws_length = length-map ys (answered_by (aligned_by al (tables genome transcript letters) exons))

  gs_length : length gs ≡ length ys
  gs_length = length-map ys (λ (s : Slot). s.position)

  module _ (i : ℕ) (l : i < length ys) where
    -- the slot that is read is still as it came
    abbrev here : Slot
    here = get_or (front ys ws i) i none

    own : here ≡ get_or ys i none
    own = front_at ys ws ws_length i none l

    at_here : get_or gs i (pos 0) ≡ here.position
    at_here = get_or-map {A = Slot} {B = ℤ} (λ (s : Slot). s.position) ys i none ∙ ap (λ (s : Slot). s.position) (sym own)

    l' : i < length gs
    l' = rw gs_length l

    ready : Ready track (steps_after track gs i) here.position
    ready = subst (λ (g : ℤ). Ready track (steps_after track gs i) g) at_here (walk_ready gs sorted track sound.count_from i l')

    next_is : next_index track (steps_after track gs i) here.position ≡ steps_after track gs (i + 1)
    next_is = subst (λ (g : ℤ). next_index track (steps_after track gs i) g ≡ steps_after track gs (i + 1)) at_here (walk_next gs sorted track sound.count_from i l')

    stands : InSegment al genome (steps_after track gs (i + 1)) here.position
    stands =
        subst (λ (g : ℤ). InSegment al genome (steps_after track gs (i + 1)) g) at_here
        (record { on = index_on track sound.count_from gs (i + 1); here = walk_here gs sorted track sound.count_from i l' })

    written : set (front ys ws i) i (answered_by (aligned_by al (tables genome transcript letters) exons) here) ≡ front ys ws (i + 1)
    written =
        ap (set (front ys ws i) i) (ap (answered_by (aligned_by al (tables genome transcript letters) exons)) own ∙ sym (get_or-map (answered_by (aligned_by al (tables genome transcript letters) exons)) ys i none))
        ∙ front_set ys ws ws_length i (answered_by (aligned_by al (tables genome transcript letters) exons) none) l

pub loop-slot-init : goal.loop-slot-init
loop-slot-init c = record { within = omega arith; stands = index_begins (track_by c.args.at c.args.genome.now) (positions_of c.args.slots.now); filled = refl }

pub step-index-requires : goal.step-index-requires
step-index-requires c =
    let a = c.args in
    let h = c.loop-slot.invariant in
    let l : c.loop-slot.slot-index < length a.slots.now = omega arith in
    rw (h.stands, h.filled)
    (c.requires.0.count_to, ready a.at a.genome.now a.transcript.now a.letters.now a.exons.now a.slots.now c.requires.0 c.requires.1 c.loop-slot.slot-index l)

pub answer_slot-requires : goal.answer_slot-requires
answer_slot-requires c =
    let a = c.args in
    let h = c.loop-slot.invariant in
    let i : ℕ = c.loop-slot.slot-index in
    let l : i < length a.slots.now = omega arith in
    let next = next_is a.at a.genome.now a.transcript.now a.letters.now a.exons.now a.slots.now c.requires.0 c.requires.1 i l in
    rw (c.step-index.ensures, h.stands, h.filled, next)
    (c.requires.0, stands a.at a.genome.now a.transcript.now a.letters.now a.exons.now a.slots.now c.requires.0 c.requires.1 i l)

pub loop-slot-preserved : goal.loop-slot-preserved
loop-slot-preserved c =
    let a = c.args in
    let h = c.loop-slot.invariant in
    let i : ℕ = c.loop-slot.slot-index in
    let l : i < length a.slots.now = omega arith in
    let next = next_is a.at a.genome.now a.transcript.now a.letters.now a.exons.now a.slots.now c.requires.0 c.requires.1 i l in
    let put = written a.at a.genome.now a.transcript.now a.letters.now a.exons.now a.slots.now c.requires.0 c.requires.1 i l in
    record { within = omega arith; stands = rw (c.step-index.ensures, h.stands, h.filled) next; filled = rw (c.answer_slot.ensures, h.filled) put }

pub told-requires : goal.told-requires
told-requires c =
    let a = c.args in
    let on = index_on (track_by a.at a.genome.now) c.requires.0.count_from (positions_of a.slots.now) c.loop-slot.slot-index in
    rw c.loop-slot.invariant.stands (omega (arith, on, c.requires.0.count_to))

pub returns : goal.returns
returns c =
    let a = c.args in
    let h = c.loop-slot.invariant in
    let ys : List Slot = a.slots.now in
    let long = gs_length a.at a.genome.now a.transcript.now a.letters.now a.exons.now ys c.requires.0 c.requires.1 in
    let all : c.loop-slot.slot-index ≡ length (positions_of ys) = omega (arith, long) in (
      c.told.ensures ∙ ap (λ (n : ℕ). steps_laid (Ok n)) (h.stands ∙ ap (steps_after (track_by a.at a.genome.now) (positions_of ys)) all),
      h.filled ∙ front_all ys _ (ws_length a.at a.genome.now a.transcript.now a.letters.now a.exons.now ys c.requires.0 c.requires.1) c.loop-slot.slot-index (omega arith),
    )
