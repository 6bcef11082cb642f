-- The tests that the code makes, in its order, are those of the join: the mapping is asked first, and where it says 23 nothing else is looked at; 34 and 20 come before any other number of it.
--     goes     where none of them refuses, the mapping answers and the alleles stand beside its answer
--     stops    where one of them refuses, so does the join
--     laid_goes, reference_goes, alternative_goes    what is then laid out, and what the buffers hold
-- Assumes nothing.
use Rattle.std.specs.Prelude.{ℕ, Bool, true, false, ◌&&◌, List, ◌++◌, ◌≡◌, refl, eqb, ltb, length, drop, if◌then◌else◌}
use Rattle.std.proofs.lemmas.Bool.{false≢true}
use Rattle.std.proofs.Common.{sym, ◌∙◌, eqb-true}
use Rattle.std.proofs.Math.Path.{ap}
use Rattle.refusals.specs.declared.Refusal.{Refusal}
use Rattle.refusals.specs.declared.Refusal.TheVariants.{NoRoom, NoBase, NotTogether}
use Rattle.refusals.specs.Numbers.{number}
use Rattle.refusals.specs.Outcome.{Outcome, Test, Ok, Err, Answered, no_fault, and_then, through}
use Rattle.refusals.specs.Refusing.{Only}
use Rattle.refusals.specs.laws.Outcomes.{clash}
use Rattle.knowing.specs.laws.Known.{same_refusal}
use Rattle.whole.specs.laws.Whole.{by_test}
use Rattle.holding.specs.Holding.{of_records, Lent, holds, source_of, checked}
use Rattle.holding.specs.laws.Held.{source_of_records, source_of_length, checked_held, checked_broken}
use Rattle.positions.specs.Positions.{Interval, GAsked, CPosition}
use Rattle.positions.specs.Answers.{Answer}
use Rattle.mapper.specs.Asking.{ask_g_to_c}
use Rattle.strands.specs.Turned.{are_bases, on_strand}
use Rattle.alleles.specs.Joining.{Alleles, alleles, Rooms, Trimmed, trimmed, fitting_both, Joining, beside, joined_with, reads_back, ask_joined, joined, laid_with, joined_laid, reference_after, alternative_after}
use Rattle.alleles.specs.Deciding.{head_reads_back, enough, is_broken, first_refusal}
use Rattle.alleles.specs.laws.Refusing.{plain_refusals, plain_only}

-- ---- what is known without the check

abbrev pub both_bases : Alleles → Bool
both_bases s = are_bases s.reference && are_bases s.alternative

abbrev pub have_room : Rooms → Trimmed → Bool
have_room room t = enough room.reference (length t.left.reference) && enough room.alternative (length t.left.alternative)

-- the alleles as the transcript reads them, trimmed
abbrev pub cut : Bool → Alleles → Trimmed
cut back s = trimmed (alleles (on_strand back s.reference) (on_strand back s.alternative))

-- a refusal, of whatever is asked
as_refused : {A B : Type 0} {k n : Refusal} → ◌≡◌ {A = Outcome A} (Err k) (Err n) → ◌≡◌ {A = Outcome B} (Err k) (Err n)
as_refused e = ap (λ (r : Refusal). Err r) (same_refusal e)

-- the tests as the code makes them
abbrev decide : Answer CPosition → Bool → Bool → Trimmed → Outcome Joining
decide plain bases room t = if bases then (if room then through (beside t) plain else Err NoRoom) else Err NoBase

abbrev decide_all : Answer CPosition → Bool → Bool → Trimmed → Outcome Joining
decide_all plain bases room t = if is_broken plain then Err NotTogether else decide plain bases room t

module _ (room : Rooms) (plain : Answer CPosition) where
  room_step : (t : Trimmed) → and_then (fitting_both room t) (λ (u : Trimmed). through (beside u) plain) ≡ (if have_room room t then through (beside t) plain else Err NoRoom)
  room_step t =
      by_test (ltb room.reference (length t.left.reference))
      (λ e. rw e)
      (λ e. by_test (ltb room.alternative (length t.left.alternative)) (λ f. rw (e, f)) (λ f. rw (e, f)))

  joined_step : (back : Bool) (s : Alleles) → joined_with back s room plain ≡ decide plain (both_bases s) (have_room room (cut back s)) (cut back s)
  joined_step back s =
      by_test (are_bases s.reference)
      (λ e. by_test (are_bases s.alternative) (λ f. rw (e, f) (room_step (cut back s))) (λ f. rw (e, f)))
      (λ e. rw e)

-- ---- with the check

reads_back_lem : (x : Lent) → reads_back (source_of x) ≡ head_reads_back x.head
reads_back_lem x = by_test (of_records x.head) (λ r. rw (source_of_records x r, r)) (λ r. rw (source_of_length x r, r))

-- the mapping itself never says 23
not_broken : (o : Answer CPosition) → Only plain_refusals o → is_broken o ≡ false
not_broken (Ok i) h = refl
not_broken (Err k) h = by_test (eqb (number k) (number NotTogether)) (λ e. absurd (false≢true (rw (eqb-true (number k) (number NotTogether) e) at h.only))) (λ e. e)

-- where none of the tests refuses
goes_of : (plain : Answer CPosition) (bases room : Bool) (t : Trimmed) → first_refusal plain bases room ≡ no_fault
    → (bases ≡ true) × (room ≡ true) × Answered plain × (decide_all plain bases room t ≡ through (beside t) plain)
goes_of (Ok i) true true t e = (refl, refl, tt, refl)
goes_of (Ok i) true false t e = absurd (clash e)
goes_of (Ok i) false room t e = absurd (clash e)
goes_of (Err k) bases room t e = by_test (eqb (number k) (number NotTogether)) (λ f. absurd (clash (rw f at e))) (λ f. absurd (never bases room (rw f at e)))
  where
    never : (b r : Bool) → (if b then (if r then Err k else Err NoRoom) else Err NoBase) ≡ no_fault → ⊥
    never true true z = clash z
    never true false z = clash z
    never false r z = clash z

-- where one of them does
stops_of : (plain : Answer CPosition) (bases room : Bool) (t : Trimmed) {n : Refusal} → first_refusal plain bases room ≡ Err n → decide_all plain bases room t ≡ Err n
stops_of (Ok i) true true t e = absurd (clash (sym e))
stops_of (Ok i) true false t e = as_refused e
stops_of (Ok i) false room t e = as_refused e
stops_of (Err k) bases room t e = by_test (eqb (number k) (number NotTogether)) (λ f. rw f (as_refused (rw f at e))) (λ f. rw f (by bases room (rw f at e)))
  where
    by : (b r : Bool) {n : Refusal} → ◌≡◌ {A = Test} (if b then (if r then Err k else Err NoRoom) else Err NoBase) (Err n) → decide (Err k) b r t ≡ Err n
    by true true z = as_refused z
    by true false z = as_refused z
    by false r z = as_refused z

module _ (x : Lent) (strict : Bool) (q : Interval GAsked) (s : Alleles) (room : Rooms) where
  abbrev pub plain : Answer CPosition
  plain = checked x (ask_g_to_c strict q)

  -- what is left of the alleles on the transcript's strand
  abbrev pub parts : Trimmed
  parts = cut (head_reads_back x.head) s

  abbrev pub fault : Test
  fault = first_refusal plain (both_bases s) (have_room room parts)

  asked_step : ask_joined strict q s room (source_of x) ≡ decide (ask_g_to_c strict q (source_of x)) (both_bases s) (have_room room parts) parts
  unfolding ask_joined
  asked_step =
      ap (λ (b : Bool). joined_with b s room (ask_g_to_c strict q (source_of x))) (reads_back_lem x)
      ∙ joined_step room (ask_g_to_c strict q (source_of x)) (head_reads_back x.head) s

  decided : joined x strict q s room ≡ decide_all plain (both_bases s) (have_room room parts) parts
  decided =
      by_test (holds x)
      (λ h.
      rw (checked_held x (ask_joined strict q s room) h, checked_held x (ask_g_to_c strict q) h, not_broken (ask_g_to_c strict q (source_of x)) (plain_only strict q (source_of x)))
      asked_step)
      (λ h. rw (checked_broken x (ask_joined strict q s room) h, checked_broken x (ask_g_to_c strict q) h))

  pub goes : fault ≡ no_fault → (both_bases s ≡ true) × (have_room room parts ≡ true) × Answered plain × (joined x strict q s room ≡ through (beside parts) plain)
  goes e =
      let (b, r, a, d) = goes_of plain (both_bases s) (have_room room parts) parts e in
      (b, r, a, decided ∙ d)

  pub stops : {n : Refusal} → fault ≡ Err n → joined x strict q s room ≡ Err n
  stops e = decided ∙ stops_of plain (both_bases s) (have_room room parts) parts e

-- ---- what is then laid out, and what the buffers hold

pub laid_goes : (t : Trimmed) (plain : Answer CPosition) → Answered plain → laid_with plain t.gone (length t.left.reference) (length t.left.alternative) ≡ joined_laid (through (beside t) plain)
laid_goes t (Ok i) u = refl
laid_goes t (Err k) u = absurd u

pub reference_goes : (buffer : List ℕ) (t : Trimmed) (plain : Answer CPosition) → Answered plain → t.left.reference ++ drop (length t.left.reference) buffer ≡ reference_after buffer (through (beside t) plain)
reference_goes buffer t (Ok i) u = refl
reference_goes buffer t (Err k) u = absurd u

pub alternative_goes : (buffer : List ℕ) (t : Trimmed) (plain : Answer CPosition) → Answered plain → t.left.alternative ++ drop (length t.left.alternative) buffer ≡ alternative_after buffer (through (beside t) plain)
alternative_goes buffer t (Ok i) u = refl
alternative_goes buffer t (Err k) u = absurd u
