-- What a list is answered with, by what is known of what is lent: it is walked where neither 23 nor 18 nor 33 applies, and else it is refused as a whole. Assumes nothing.
use mathlib.Core.Bool.{Bool, true}
use mathlib.Core.List.{List, [], ◌∷◌, map}
use mathlib.Core.Path.{◌≡◌, refl, sym, ap, ap₂, ◌∙◌}
use lib.IntN.{nat_abs}
use Rattle.refusals.specs.declared.Refusal.{Refusal}
use Rattle.refusals.specs.Outcome.{Outcome, Ok, Err}
use Rattle.refusals.specs.laws.Outcomes.{clash, same}
use Rattle.whole.specs.laws.Whole.{by_test}
use Rattle.segments.specs.laws.Meaning.{holds_means}
use Rattle.transcript.specs.Transcript.{Transcript}
use Rattle.holding.specs.Holding.{of_records, Lent, segments_of, holds}
use Rattle.holding.specs.laws.Held.{together, source_of_records, source_of_length, some, held_segments, checked_held, checked_broken}
use Rattle.spots.specs.Aligned.{aligned_by}
use Rattle.spots.specs.declared.Alignment.{Alignment}
use Rattle.knowing.specs.Knowing.{alignment_of, coding_in, known_of}
use Rattle.mapper.specs.laws.Lying.{lying_g_to_n}
use Rattle.knowing.specs.laws.Known.{same_refusal}
use Rattle.knowing.specs.declared.Known.TheVariants as known
use Rattle.taking.specs.Taking.{g_asked}
use Rattle.layout.specs.Layout.{n_laid, laid}
use Rattle.layout.specs.declared.lay.Answer.{Answer}
use Rattle.worklist.specs.Worklist.{answered_slot, positions_of, never_falls, steps_of, ask_steps, listed, slots_after}
use Rattle.worklist.specs.Walking.{track_by, answered_by, along}
use Rattle.worklist.proofs.laws.Alike.{steps_by_table}
use Rattle.worklist.specs.declared.Slot.{Slot}

-- a refusal, of whatever is asked
as_refused : {A B : Type 0} {k n : Refusal} → ◌≡◌ {A = Outcome A} (Err k) (Err n) → ◌≡◌ {A = Outcome B} (Err k) (Err n)
as_refused e = ap (λ (r : Refusal). Err r) (same_refusal e)

module _ (x : Lent) where
  module _ (rises : Bool) where
    -- what does not hold together
    pub along_broken : {k : Refusal} → known_of x ≡ Err k → along x rises ≡ Err k
    along_broken = by_test (holds x) (λ e. rw e (λ k. absurd (clash (sym k)))) (λ e. rw e (λ k. as_refused k))

    -- where it is walked
    pub go_means : (a : Alignment) → along x rises ≡ Ok a → (holds x ≡ true) × (of_records x.head ≡ true) × (rises ≡ true) × (alignment_of x.head ≡ a)
    go_means a =
        by_test (holds x)
        (λ e.
        by_test (of_records x.head)
        (λ r. by_test rises (λ t. rw (e, r, t) (λ k. (refl, refl, refl, same k))) (λ t. rw (e, r, t) (λ k. absurd (clash k))))
        (λ r. rw (e, r) (λ k. absurd (clash k))))
        (λ e. rw e (λ k. absurd (clash k)))

  -- ---- the list that is walked

  abbrev asked_of : Transcript
  asked_of = aligned_by (alignment_of x.head) x.tables x.exons

  module _ (e : holds x ≡ true) (r : of_records x.head ≡ true) where
    lies : known_of x ≡ Ok (known.Aligned (coding_in x.head) (alignment_of x.head))
    lies = rw (e, r)

    slot_alike : (s : Slot) → answered_slot x s ≡ answered_by asked_of s
    unfolding g_asked
    slot_alike s = ap (λ (a : Answer). record { position = s.position; answer = a }) (ap (laid n_laid) (lying_g_to_n x _ _ lies true (g_asked s.position s.position 0)))

    slots_alike : (ys : List Slot) → map (answered_slot x) ys ≡ map (answered_by asked_of) ys
    slots_alike [] = refl
    slots_alike (y ∷ ys) = ap₂ ◌∷◌ (slot_alike y) (slots_alike ys)

    module _ (ys : List Slot) (sorted : never_falls (positions_of ys) ≡ true) where
      pub walked_steps : listed x ys ≡ Ok (steps_of (track_by (alignment_of x.head) x.tables.genome) (positions_of ys))
      unfolding ask_steps
      walked_steps =
          let w = together x e r in
          checked_held x (ask_steps (positions_of ys)) e
          ∙ rw (source_of_records x r, sorted) (ap Ok (steps_by_table x.tables (segments_of x) (nat_abs x.head.first) (holds_means x.tables (segments_of x) (held_segments x w)) (some x w) (positions_of ys)))

      pub walked_slots : slots_after x ys ≡ map (answered_by asked_of) ys
      walked_slots = rw walked_steps (slots_alike ys)

  -- ---- the list that is not

  module _ (ys : List Slot) where
    pub refused_steps : {k : Refusal} → along x (never_falls (positions_of ys)) ≡ Err k → listed x ys ≡ Err k
    unfolding ask_steps
    refused_steps =
        by_test (holds x)
        (λ e.
        by_test (of_records x.head)
        (λ r.
        by_test (never_falls (positions_of ys))
        (λ t. rw (e, r, t) (λ h. absurd (clash (sym h))))
        (λ t. rw (e, r, t) (λ h. checked_held x (ask_steps (positions_of ys)) e ∙ rw (source_of_records x r, t) (as_refused h))))
        (λ r. rw (e, r) (λ h. checked_held x (ask_steps (positions_of ys)) e ∙ rw (source_of_length x r) (as_refused h))))
        (λ e. rw e (λ h. checked_broken x (ask_steps (positions_of ys)) e ∙ as_refused h))

    pub refused_slots : {k : Refusal} → along x (never_falls (positions_of ys)) ≡ Err k → slots_after x ys ≡ ys
    refused_slots h = rw (refused_steps h) refl
