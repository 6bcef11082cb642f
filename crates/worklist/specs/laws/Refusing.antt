-- Which refusals a worklist gives: 23, 18 and 33, and each of them occurs, computed. Assumes nothing.
use Rattle.std.specs.Prelude.{List, [], ◌∷◌, map, ◌≡◌, refl, ℤ, pos}
use Rattle.refusals.specs.declared.Refusal.{Refusal}
use Rattle.refusals.specs.declared.Refusal.TheVariants.{NoGenome, NotTogether, Falling}
use Rattle.refusals.specs.Outcome.{Err}
use Rattle.refusals.specs.Refusing.{Only}
use Rattle.cigar.specs.Elements.{letter_m, is_letter, kind_of}
use Rattle.segments.specs.Tables.{step_right, all_below, segments_hold}
use Rattle.segments.specs.Exons.{goes_on, numbers_hold}
use Rattle.transcript.specs.Transcript.{Source}
use Rattle.transcript.specs.Transcript.Source.{aligned, length_only}
use Rattle.holding.specs.Holding.{Lent, lent, cds_holds, records_hold, length_holds, holds, source_of, checked}
use Rattle.positions.specs.laws.Refusing.{only_if}
use Rattle.layout.specs.Layout.{refusal}
use Rattle.worklist.specs.Worklist.{positions_of, never_falls, ask_steps, listed}
use Rattle.worklist.specs.declared.Slot.{Slot}

-- txc_worklist
abbrev pub worklist_refusals : List Refusal
worklist_refusals = NotTogether ∷ NoGenome ∷ Falling ∷ []

ask_only : (gs : List ℤ) (x : Source) → Only worklist_refusals (ask_steps gs x)
unfolding ask_steps
ask_only gs (aligned t) = only_if worklist_refusals (never_falls gs) Falling _ (record { only = tt }) (λ e. refl)
ask_only gs (length_only n c) = record { only = refl }

pub worklist_refuses : (x : Lent) (slots : List Slot) → Only worklist_refusals (listed x slots)
unfolding checked
worklist_refuses x slots = only_if worklist_refusals (holds x) NotTogether _ (ask_only (positions_of slots) (source_of x)) (λ e. refl)

-- a transcript of one matched base, of this kind
abbrev base : ℤ → Lent
base kind = lent (record { kind = kind; strand = pos 1; first = pos 0; count = pos 1; bits = pos 0; start = pos 0; end = pos 0; length = pos 1; records = pos 1 }) (0 ∷ 1 ∷ []) (0 ∷ 1 ∷ []) (letter_m ∷ []) (1 ∷ [])

-- two slots whose positions fall
abbrev two_then_one : List Slot
two_then_one = record { position = pos 2; answer = refusal 0 } ∷ record { position = pos 1; answer = refusal 0 } ∷ []

-- no kind; no genome; neither, whether or not the list falls
pub worklist_occurs : listed (base (pos 2)) two_then_one ∷ listed (base (pos 1)) two_then_one ∷ listed (base (pos 0)) two_then_one ∷ [] ≡ map Err worklist_refusals
unfolding checked holds source_of records_hold length_holds cds_holds segments_hold goes_on numbers_hold all_below step_right is_letter kind_of never_falls ask_steps
worklist_occurs = refl
