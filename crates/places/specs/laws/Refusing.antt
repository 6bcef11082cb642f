-- Which refusals g. to n. and n. to g. give: 14 and 17, of which 14 in strict mode alone and only where a place lies outside. Assumes nothing.
use Rattle.std.specs.Prelude.{ℕ, Bool, true, false, ◌&&◌, List, ◌≡◌, refl, ℤ}
use Rattle.std.proofs.lemmas.Bool.{false≢true}
use Rattle.std.proofs.Common.{sym, ◌∙◌}
use Rattle.refusals.specs.declared.Refusal.{Refusal}
use Rattle.refusals.specs.declared.Refusal.TheVariants.{Outside, TooWide}
use Rattle.refusals.specs.Refusing.{one_of, Only}
use Rattle.whole.specs.laws.Whole.{both_of}
use Rattle.numbering.specs.Numbers.{place_of_n}
use Rattle.transcript.specs.Transcript.{Transcript, genome_length, transcript_length}
use Rattle.positions.specs.Positions.{Interval, NAsked}
use Rattle.positions.specs.Answers.{g_fits, n_fits}
use Rattle.positions.specs.laws.Refusing.{only_if, only_fitting}
use Rattle.spots.specs.Mapping.{inside, turned, earlier, later, place_of_g, whole_n, map_g_to_n, g_of_ends, map_n_to_g}

-- the place that an n. number is looked up at lies inside
abbrev pub n_inside : Bool → Transcript → NAsked → Bool
n_inside strict t a = inside strict (transcript_length t) (turned t.forward (transcript_length t) (place_of_n a.base))

-- only strict mode finds a place outside
outside_strict : (strict : Bool) (len : ℕ) (p q : ℤ) → (inside strict len p && inside strict len q) ≡ false → strict ≡ true
unfolding inside
outside_strict true len p q e = refl
outside_strict false len p q e = sym e

-- what is true of both is true of the earlier and of the later
in_order : {A : Type 0} (forward : Bool) (f : A → Bool) (a b : A) → f a ≡ true → f b ≡ true → (f (earlier forward a b) && f (later forward a b)) ≡ true
in_order true f a b h k = both_of h k
in_order false f a b h k = both_of k h

module _ (ks : List Refusal) (strict : Bool) where
  pub g_to_n_only : (strict ≡ true → one_of Outside ks ≡ true) → one_of TooWide ks ≡ true → (t : Transcript) (i : Interval ℤ) → Only ks (map_g_to_n strict t i)
  unfolding map_g_to_n whole_n
  g_to_n_only o w t i =
      let p = place_of_g t.first i.from in
      let q = place_of_g t.first i.to in
      only_fitting ks n_fits (whole_n strict t i) w
      (only_if ks (inside strict (genome_length t) p && inside strict (genome_length t) q) Outside _ (record { only = tt }) (λ e. o (outside_strict strict (genome_length t) p q e)))

  ends_only : (t : Transcript) (a b : NAsked) → ((n_inside strict t a && n_inside strict t b) ≡ false → one_of Outside ks ≡ true) → Only ks (g_of_ends strict t a b)
  unfolding g_of_ends
  ends_only t a b o = only_if ks (n_inside strict t a && n_inside strict t b) Outside _ (record { only = tt }) o

  pub n_to_g_only : (strict ≡ true → one_of Outside ks ≡ true) → one_of TooWide ks ≡ true → (t : Transcript) (i : Interval NAsked) → Only ks (map_n_to_g strict t i)
  unfolding map_n_to_g
  n_to_g_only o w t i = only_fitting ks g_fits _ w (ends_only t _ _ (λ e. o (outside_strict strict (transcript_length t) _ _ e)))

  -- without 14, where both places lie inside
  pub n_to_g_inside : one_of TooWide ks ≡ true → (t : Transcript) (i : Interval NAsked) → n_inside strict t i.from ≡ true → n_inside strict t i.to ≡ true → Only ks (map_n_to_g strict t i)
  unfolding map_n_to_g
  n_to_g_inside w t i h k = only_fitting ks g_fits _ w (ends_only t _ _ (λ e. absurd (false≢true (sym e ∙ in_order t.forward (n_inside strict t) i.from i.to h k))))
