-- In strict mode 14, 15 and 16 leave only numbers that fit: what g. to n. maps lies within the genome, so that the place that it gives and its offset are no larger than the transcript and the genome; and a number that 15 or 16 lets pass lies in the transcript. Assumes nothing.
use Rattle.refusals.specs.declared.Refusal.{Refusal}
use Prim.Native.Nat.{ℕ, ◌+◌, ◌≤◌, ◌<◌}
use native.Mathlib.Omega.{arith}
use mathlib.Core.Bool.{Bool, true, false, ◌&&◌, false≢true}
use mathlib.Core.List.{List}
use mathlib.Core.Path.{◌≡◌, refl, sym, ◌∙◌, subst}
use lib.IntN.{ℤ, pos, ◌+ℤ◌, ◌-ℤ◌}
use lib.Signed.{le_z}
use Rattle.refusals.specs.Numbers.{most_bases}
use Rattle.refusals.specs.declared.Refusal.TheVariants.{NotCoding, Outside, NOutside, COutside, TooWide, NoGenome, MissingEnd, NotTogether}
use Rattle.refusals.specs.Outcome.{Outcome, Ok, Err, and_then}
use Rattle.refusals.specs.Refusing.{one_of, Only}
use Rattle.refusals.specs.laws.Outcomes.{clash}
use Rattle.refusals.specs.laws.Refusing.{only_then}
use Rattle.whole.specs.laws.Whole.{by_test, both, both_of, neither, order, sum, dif}
use Rattle.whole.specs.Fits.{fits}
use Rattle.numbering.specs.Numbers.{n_of_place, c_of_n, n_of_c}
use Rattle.cigar.specs.Elements.{Element, kind, genome, transcript}
use Rattle.cigar.specs.Elements.Kind.{matches}
use Rattle.segments.specs.Places.{Spot, End, map_place}
use Rattle.segments.specs.Places.End.{start, stop}
use Rattle.transcript.specs.Transcript.{Transcript, Source, Cds, genome_length, transcript_length, length_of, coding_of}
use Rattle.transcript.specs.Transcript.Source.{aligned, length_only}
use Rattle.transcript.specs.Transcript.Cds.{no_cds, cds}
use Rattle.judging.specs.laws.Accepted.{CdsInside}
use Rattle.holding.specs.Holding.{Lent, holds, source_of, checked}
use Rattle.positions.specs.Positions.{Interval, each, GAsked, NAsked, CAsked, NPosition, asks_n}
use Rattle.positions.specs.Answers.{unmarked, Marked, Answer, n_fits, c_fits, fitting}
use Rattle.positions.specs.laws.Ends.{fitting_is}
use Rattle.positions.specs.laws.Fits.{fits_by}
use Rattle.positions.specs.laws.Refusing.{only_if, only_ends, only_chain}
use Rattle.coding.specs.Coding.{beyond, refuses15, c_position, c_of_interval, map_n_to_c, n_position, map_c_to_n}
use Rattle.spots.specs.Mapping.{inside, turned, earlier, place_of_g, n_of_spot, whole_n, map_g_to_n}
use Rattle.chaining.specs.Given.{given}
use Rattle.mapper.specs.Asking.{ask_g_to_n, ask_n_to_c, ask_c_to_n, ask_g_to_c}
use Rattle.mapper.specs.laws.Refusing.{given_only}
use Rattle.promises.specs.Questions.{strict_g_to_n, strict_n_to_c, strict_c_to_n, strict_g_to_c, StrictRefusals}
use Rattle.promises.proofs.Turns.{inside_means, beyond_means, either}
use Rattle.promises.proofs.Fits.{within_fits, signed_within, c_within}
use Rattle.promises.proofs.Bounds.{Near, near_place, near_offset}
use Rattle.promises.proofs.Columns.{match_genome, match_transcript}
use Rattle.promises.proofs.InRange.{InRange, SourceInRange, held_source}

-- ---- 17

-- what fits is answered
fits_only : (ks : List Refusal) {P : Type 0} (fit : P → Bool) (a : Marked P) → (fit a.interval.from && fit a.interval.to) ≡ true → Only ks (fitting fit (Ok a))
fits_only ks fit a h = only_if ks (fit a.interval.from && fit a.interval.to) TooWide (Ok a) (record { only = tt }) (λ e. absurd (false≢true (sym e ∙ h)))

-- and what is answered fits
answer_fits : {P : Type 0} (fit : P → Bool) (o : Answer P) (a : Marked P) → fitting fit o ≡ Ok a → (fit a.interval.from && fit a.interval.to) ≡ true
answer_fits {P} fit o a e =
    let test = fit a.interval.from && fit a.interval.to in
    let h = subst (λ (b : Answer P). fitting fit b ≡ Ok a) (fitting_is fit o a e) e in
    by_test test (λ t. t) (λ t. absurd (clash (rw t at h)))

-- ---- g. to n.

near_turned : (forward : Bool) (len : ℕ) (z : ℤ) → Near len z → Near len (turned forward len z)
unfolding turned
near_turned true len z h = h
near_turned false len z h = record { high = omega (order, dif (pos len) (pos 1), dif (pos len -ℤ pos 1) z, h.low); low = omega (order, dif (pos len) (pos 1), dif (pos len -ℤ pos 1) z, h.high) }

number_fits : (len : ℕ) (z : ℤ) → len ≤ most_bases → Near len z → fits (n_of_place z) ≡ true
unfolding n_of_place
number_fits len z small h =
    by_test (le_z (pos 0) z)
    (λ t. rw t (fits_by (z +ℤ pos 1) (omega (order, sum z (pos 1), h.high)) (omega (order, sum z (pos 1), h.low))))
    (λ t. rw t (fits_by z (omega (arith, h.high)) (omega (arith, h.low))))

even : (x : Element) → kind x ≡ matches → genome x ≡ transcript x
even x m = match_genome x m ∙ sym (match_transcript x m)

module _ (t : Transcript) (in_range : InRange t) where
  abbrev len : ℕ
  len = transcript_length t

  abbrev spot : ℤ → End → Spot
  spot z e = map_place genome transcript t.elements z e t.forward

  position_fits : (z : ℤ) (e : End) → (p : ℕ) × (z ≡ pos p) × (p < genome_length t) → n_fits (n_of_spot t (spot z e)) ≡ true
  unfolding n_of_spot
  position_fits z e (p, is, p_in) =
      rw is
      (both_of
      (number_fits len _ in_range.transcript_small (near_turned t.forward len _ (near_place genome transcript even t.elements p e t.forward p_in)))
      (within_fits (genome_length t) _ (omega (arith, in_range.genome_small)) (signed_within t.forward (genome_length t) _ (near_offset genome transcript t.elements p e t.forward p_in))))

  g_to_n_only : (ks : List Refusal) → one_of Outside ks ≡ true → (i : Interval ℤ) → Only ks (map_g_to_n true t i)
  unfolding map_g_to_n whole_n
  g_to_n_only ks o i =
      let span = genome_length t in
      let z = place_of_g t.first i.from in
      let w = place_of_g t.first i.to in
      by_test (inside true span z && inside true span w)
      (λ e.
      let (z_in, w_in) = both (inside true span z) (inside true span w) e in
      let a = position_fits z start (inside_means span z z_in) in
      let b = position_fits w stop (inside_means span w w_in) in
      rw e (fits_only ks n_fits _ (both_of (fitting_spot (spot z start) (spot w stop) a b) (fitting_spot (spot w stop) (spot z start) b a))))
      (λ e. rw e (record { only = o }))
    where
      fitting_spot : (a b : Spot) → n_fits (n_of_spot t a) ≡ true → n_fits (n_of_spot t b) ≡ true → n_fits (n_of_spot t (earlier t.forward a b)) ≡ true
      fitting_spot a b h k = either (λ (x : Spot). n_fits (n_of_spot t x) ≡ true) t.forward a b h k

  -- the offsets of what is answered
  offsets_fit : (o : Outcome (Interval ℤ)) (a : Marked NPosition) → and_then o (map_g_to_n true t) ≡ Ok a → (fits a.interval.from.offset ≡ true) × (fits a.interval.to.offset ≡ true)
  unfolding map_g_to_n
  offsets_fit (Ok i) a e =
      let from = a.interval.from in
      let to = a.interval.to in
      let (h, k) = both (n_fits from) (n_fits to) (answer_fits n_fits (whole_n true t i) a e) in
      ((both (fits from.base) (fits from.offset) h).1, (both (fits to.base) (fits to.offset) k).1)
  offsets_fit (Err k) a e = absurd (clash e)

-- ---- n. to c., and back

module _ (ks : List Refusal) (no_cds_in : one_of NotCoding ks ≡ true) (len : ℕ) (small : len ≤ most_bases) where
  n_to_c_only : one_of NOutside ks ≡ true → (c : Cds) → CdsInside c len → (i : Interval NAsked) → fits i.from.offset ≡ true → fits i.to.offset ≡ true → Only ks (map_n_to_c true len c i)
  unfolding map_n_to_c c_of_interval c_position
  n_to_c_only o no_cds inside i h k = record { only = no_cds_in }
  n_to_c_only o (cds s e) (ordered, within) i h k =
      by_test (refuses15 true len i)
      (λ t. rw t (record { only = o }))
      (λ t.
      let (from, to) = neither (beyond true len i.from.base) (beyond true len i.to.base) t in
      rw t (fits_only ks c_fits _ (both_of (c_fits_lem i.from from h) (c_fits_lem i.to to k))))
    where
      number : (n : ℤ) → (r : ℕ) × (n ≡ pos (r + 1)) × (r < len) → fits (c_of_n (pos s) (pos e) n).0 ≡ true
      number n (r, is, r_in) = rw is (within_fits (len + 1) _ (omega arith) (c_within s e (r + 1) len ordered within (omega arith) (omega arith)))

      c_fits_lem : (a : NAsked) → beyond true len a.base ≡ false → fits a.offset ≡ true → c_fits (c_position s e a) ≡ true
      c_fits_lem a b f = both_of (number a.base (beyond_means len a.base b)) f

  n_position_only : one_of COutside ks ≡ true → (s e : ℕ) (a : CAsked) → fits a.offset ≡ true → Only ks (n_position true len s e a)
  unfolding n_position
  n_position_only o s e a h =
      let n = n_of_c (pos s) (pos e) a.base in
      by_test (beyond true len n)
      (λ t. rw t (record { only = o }))
      (λ t. rw t (only_if ks (fits n && fits a.offset) TooWide _ (record { only = tt }) (λ f. absurd (false≢true (sym f ∙ both_of (number n (beyond_means len n t)) h)))))
    where
      number : (n : ℤ) → (r : ℕ) × (n ≡ pos (r + 1)) × (r < len) → fits n ≡ true
      number n (r, is, r_in) = rw is (fits_by (pos (r + 1)) (omega arith) (omega arith))

  c_to_n_only : one_of COutside ks ≡ true → (c : Cds) (i : Interval CAsked) → fits i.from.offset ≡ true → fits i.to.offset ≡ true → Only ks (map_c_to_n true len c i)
  unfolding map_c_to_n
  c_to_n_only o no_cds i h k = record { only = no_cds_in }
  c_to_n_only o (cds s e) i h k = only_ends ks unmarked _ _ (n_position_only o s e i.from h) (n_position_only o s e i.to k)

-- ---- the questions

-- of what is lent, where a question to what is in range gives only these
lent_only : (ks : List Refusal) → one_of NotTogether ks ≡ true → {A : Type 0} (x : Lent) (ask : Source → Outcome A) → ((y : Source) → SourceInRange y → Only ks (ask y)) → Only ks (checked x ask)
unfolding checked
lent_only ks r x ask o = by_test (holds x) (λ h. rw h (o (source_of x) (held_source x h))) (λ h. rw h (record { only = r }))

-- the length and the CDS of either kind
length_in_range : (y : Source) → SourceInRange y → (length_of y ≤ most_bases) × CdsInside (coding_of y) (length_of y)
length_in_range (aligned t) r = (r.transcript_small, r.cds_inside)
length_in_range (length_only n c) r = r

ask_g_to_n_lem : (ks : List Refusal) → one_of Outside ks ≡ true → one_of MissingEnd ks ≡ true → one_of NoGenome ks ≡ true → (q : Interval GAsked) (y : Source) → SourceInRange y → Only ks (ask_g_to_n true q y)
unfolding ask_g_to_n
ask_g_to_n_lem ks o m g q (aligned t) r = only_then ks (given q) (map_g_to_n true t) (given_only ks m q) (λ i e. g_to_n_only t r ks o i)
ask_g_to_n_lem ks o m g q (length_only n c) r = record { only = g }

ask_n_to_c_lem : (ks : List Refusal) → one_of NotCoding ks ≡ true → one_of NOutside ks ≡ true → (q : Interval NAsked) → fits q.from.offset ≡ true → fits q.to.offset ≡ true → (y : Source) → SourceInRange y → Only ks (ask_n_to_c true q y)
unfolding ask_n_to_c
ask_n_to_c_lem ks d o q h k y r = let (small, inside) = length_in_range y r in n_to_c_only ks d (length_of y) small o (coding_of y) inside q h k

-- the second step of g. to c. is asked of an answer, whose offsets fit
ask_g_to_c_lem : (q : Interval GAsked) (y : Source) → SourceInRange y → Only strict_g_to_c (ask_g_to_c true q y)
unfolding ask_g_to_c ask_g_to_n
ask_g_to_c_lem q y r = only_chain strict_g_to_c asks_n (ask_g_to_n true q y) (λ (i : Interval NAsked). ask_n_to_c true i y) (ask_g_to_n_lem strict_g_to_c refl refl refl q y r) (second y r)
  where
    second : (y : Source) → SourceInRange y → (a : Marked NPosition) → ask_g_to_n true q y ≡ Ok a → Only strict_g_to_c (ask_n_to_c true (each asks_n a.interval) y)
    second (aligned t) r a e = let (h, k) = offsets_fit t r (given q) a e in ask_n_to_c_lem strict_g_to_c refl refl (each asks_n a.interval) h k (aligned t) r
    second (length_only n c) r a e = absurd (clash e)

pub strict_refusals : StrictRefusals
unfolding ask_c_to_n
strict_refusals = record {
  g_to_n = λ x q. lent_only strict_g_to_n refl x (ask_g_to_n true q) (ask_g_to_n_lem strict_g_to_n refl refl refl q);
  n_to_c = λ x q h k. lent_only strict_n_to_c refl x (ask_n_to_c true q) (ask_n_to_c_lem strict_n_to_c refl refl q h k);
  c_to_n = λ x q h k. lent_only strict_c_to_n refl x (ask_c_to_n true q) (λ y r. c_to_n_only strict_c_to_n refl (length_of y) (length_in_range y r).0 refl (coding_of y) q h k);
  g_to_c = λ x q. lent_only strict_g_to_c refl x (ask_g_to_c true q) (ask_g_to_c_lem q);
}
