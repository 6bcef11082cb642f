-- Which refusals n. to c. and c. to n. give: 13, 15, 17 and 13, 16, 17, of which 15 and 16 in strict mode alone. Assumes nothing.
use Rattle.std.specs.Prelude.{ℕ, Bool, true, false, List, ◌≡◌, refl, ℤ, pos}
use Rattle.refusals.specs.declared.Refusal.{Refusal}
use Rattle.refusals.specs.declared.Refusal.TheVariants.{NotCoding, NOutside, COutside, TooWide}
use Rattle.refusals.specs.Refusing.{one_of, Only}
use Rattle.numbering.specs.Numbers.{n_of_c}
use Rattle.positions.specs.Positions.{Interval, NAsked, CAsked}
use Rattle.positions.specs.Answers.{unmarked, n_fits, c_fits}
use Rattle.positions.specs.laws.Refusing.{only_unless, only_fitted, only_fitting, only_ends}
use Rattle.transcript.specs.Transcript.{Cds, no_cds, cds}
use Rattle.coding.specs.Coding.{beyond, refuses15, c_of_interval, map_n_to_c, n_position, map_c_to_n}

-- only strict mode finds a number beyond
beyond_strict : (strict : Bool) (len : ℕ) (n : ℤ) → beyond strict len n ≡ true → strict ≡ true
unfolding beyond
beyond_strict true len n e = refl
beyond_strict false len n e = e

either_strict : (strict : Bool) (len : ℕ) (i : Interval NAsked) → refuses15 strict len i ≡ true → strict ≡ true
unfolding beyond
either_strict true len i e = refl
either_strict false len i e = e

module _ (ks : List Refusal) (strict : Bool) where
  pub n_to_c_only : one_of NotCoding ks ≡ true → (strict ≡ true → one_of NOutside ks ≡ true) → one_of TooWide ks ≡ true → (len : ℕ) (c : Cds) (i : Interval NAsked) → Only ks (map_n_to_c strict len c i)
  unfolding map_n_to_c c_of_interval
  n_to_c_only m o w len no_cds i = record { only = m }
  n_to_c_only m o w len (cds s e) i =
      only_fitting ks c_fits (c_of_interval strict len (cds s e) i) w
      (only_unless ks (refuses15 strict len i) NOutside _ (record { only = tt }) (λ t. o (either_strict strict len i t)))

  n_position_only : (strict ≡ true → one_of COutside ks ≡ true) → one_of TooWide ks ≡ true → (len s e : ℕ) (a : CAsked) → Only ks (n_position strict len s e a)
  unfolding n_position
  n_position_only o w len s e a =
      let n = n_of_c (pos s) (pos e) a.base in
      only_unless ks (beyond strict len n) COutside _ (only_fitted ks n_fits (record { base = n; offset = a.offset }) w) (λ t. o (beyond_strict strict len n t))

  pub c_to_n_only : one_of NotCoding ks ≡ true → (strict ≡ true → one_of COutside ks ≡ true) → one_of TooWide ks ≡ true → (len : ℕ) (c : Cds) (i : Interval CAsked) → Only ks (map_c_to_n strict len c i)
  unfolding map_c_to_n
  c_to_n_only m o w len no_cds i = record { only = m }
  c_to_n_only m o w len (cds s e) i = only_ends ks unmarked _ _ (n_position_only o w len s e i.from) (n_position_only o w len s e i.to)
