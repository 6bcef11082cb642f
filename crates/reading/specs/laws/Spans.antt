-- A record's reading and 32: what lets it be, and what is known where it did. Assumes nothing.
use Rattle.std.proofs.Math.Path.{◌≡◌, refl}
use Rattle.std.proofs.Common.{sym, ap, ◌∙◌, arith}
use Rattle.std.proofs.Math.Bool.{true, false}
use Rattle.std.specs.Prelude.{List, ◌∷◌, ℕ, ◌-◌, ◌≤◌, length}
use Rattle.refusals.specs.declared.Refusal.{Refusal}
use Rattle.refusals.specs.declared.Refusal.TheVariants.{NotSpanning}
use Rattle.refusals.specs.Outcome.{Ok, Err, and_then, through}
use Rattle.refusals.specs.laws.Outcomes.{clash, same}
use Rattle.whole.specs.laws.Whole.{by_test}
use Rattle.cigar.specs.Elements.{Element, genome, total}
use Rattle.cigar.specs.Text.{Reading}
use Rattle.records.specs.Records.{Record}
use Rattle.transcript.specs.Building.{Exon}
use Rattle.reading.specs.Reading.{Exons, exon_of, spans, is_spanned, spanning, spanned, followed_by}
use Rattle.reading.specs.Tallies.{sums_on, tallied}
use Rattle.reading.specs.declared.Sums.{Sums}

-- one record more in front
abbrev pub before_all : Exon → Exons → Exons
before_all x = through (λ (xs : List Exon). x ∷ xs)

-- a record that was read, in front of what follows it
abbrev pub ahead : Record → (ℕ → Exons) → List Element → Exons
ahead r next es = before_all (exon_of r es) (next (length es))

-- ---- what was tallied from `from` on

pub tallied_grows : (from : Sums) (read : Reading) {to : Sums} → tallied from read ≡ Ok to → from.genome ≤ to.genome
tallied_grows from (Ok es) {to} e = let is : sums_on from es ≡ to = cc in omega (arith, ap (λ (t : Sums). t.genome) is)
tallied_grows from (Err k) e = let z : ◌≡◌ {A = ℕ} 0 1 = cc in absurd (omega arith)

sum_is : (from : Sums) (es : List Element) {to : Sums} → tallied from (Ok es) ≡ Ok to → to.genome - from.genome ≡ total genome es
sum_is from es {to} e = let is : sums_on from es ≡ to = cc in omega (arith, ap (λ (t : Sums). t.genome) is)

-- ---- 32

module _ (r : Record) where
  -- where 32 refuses, what follows is not looked at
  pub followed : (read : Reading) (next : ℕ → Exons) → followed_by r read next ≡ and_then (spanned r read) (ahead r next)
  unfolding spanning
  followed (Ok es) next = go (next (length es)) refl
    where
      go : (x : Exons) → next (length es) ≡ x → followed_by r (Ok es) next ≡ and_then (spanned r (Ok es)) (ahead r next)
      go (Ok xs) e = by_test (is_spanned r es) (λ t. simp (t, e) refl) (λ t. simp (t, e) refl)
      go (Err k) e = by_test (is_spanned r es) (λ t. simp (t, e) refl) (λ t. simp (t, e) refl)
  followed (Err k) next = refl

  -- a reading that was not refused is the text's own, and passed 32
  pub spanned_is : (read : Reading) {es : List Element} → spanned r read ≡ Ok es → (read ≡ Ok es) × (is_spanned r es ≡ true)
  unfolding spanning
  spanned_is (Ok xs) {es} =
      by_test (is_spanned r xs)
      (λ t. rw t (λ h. (h, rw (← same h) t)))
      (λ t. rw t (λ h. absurd (clash h)))
  spanned_is (Err k) = λ h. absurd (clash h)

  -- by what was tallied
  module _ (from : Sums) where
    pub tallied_passes : (read : Reading) {to : Sums} → tallied from read ≡ Ok to → spans r.alt_start r.alt_end (to.genome - from.genome) ≡ true → tallied from (spanned r read) ≡ Ok to
    unfolding spanning
    tallied_passes (Ok es) e h = let is : is_spanned r es ≡ true = rw (sum_is from es e) at h in rw is e
    tallied_passes (Err k) e h = e

    pub tallied_short : (read : Reading) {to : Sums} → tallied from read ≡ Ok to → spans r.alt_start r.alt_end (to.genome - from.genome) ≡ false → tallied from (spanned r read) ≡ Err NotSpanning
    unfolding spanning
    tallied_short (Ok es) e h = let is : is_spanned r es ≡ false = rw (sum_is from es e) at h in rw is refl
    tallied_short (Err k) e h = let z : ◌≡◌ {A = ℕ} 0 1 = cc in absurd (omega arith)

    pub tallied_refused : (read : Reading) {k : Refusal} → tallied from read ≡ Err k → tallied from (spanned r read) ≡ Err k
    tallied_refused (Ok es) e = let z : ◌≡◌ {A = ℕ} 0 1 = cc in absurd (omega arith)
    tallied_refused (Err k) e = e

    -- where it did not refuse, the record's reading is as it was
    pub spanned_own : (read : Reading) {to : Sums} → tallied from (spanned r read) ≡ Ok to → spanned r read ≡ read
    unfolding spanning
    spanned_own (Ok es) {to} =
        by_test (is_spanned r es)
        (λ t. rw t (λ h. refl))
        (λ t. rw t (λ h. let z : ◌≡◌ {A = ℕ} 0 1 = cc in absurd (omega arith)))
    spanned_own (Err k) = λ h. refl

    pub tallied_own : (read : Reading) {to : Sums} → tallied from (spanned r read) ≡ Ok to → tallied from read ≡ Ok to
    tallied_own read h = sym (ap (tallied from) (spanned_own read h)) ∙ h
