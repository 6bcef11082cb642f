-- What is known where n. to c. or c. to n. answers: there is no mark, every number fits, c. to n. crossed both numbers over to ones that 16 does not refuse, and strict n. to c. gives no c.0. Assumes nothing.
use Rattle.std.specs.Prelude.{ℕ, Bool, ◌≡◌, ℤ, pos, if◌then◌else◌}
use Rattle.std.proofs.Math.Bool.{true, false}
use Rattle.std.proofs.Math.Path.{sym, subst}
use Rattle.std.proofs.Common.{ap}
use Rattle.std.specs.Int.Signed.{le_z, lt_z}
use Rattle.refusals.specs.declared.Refusal.TheVariants.{NOutside}
use Rattle.refusals.specs.Outcome.{Ok, Err}
use Rattle.refusals.specs.laws.Outcomes.{clash, same}
use Rattle.whole.specs.laws.Whole.{by_test, neither, order}
use Rattle.numbering.specs.Numbers.{c_of_n, n_of_c}
use Rattle.numbering.specs.laws.Zero.{never_zero}
use Rattle.positions.specs.Positions.{Interval, each, NAsked, CAsked, NPosition, CPosition}
use Rattle.positions.specs.Answers.{unmarked, Marked, plainly, n_fits, c_fits, Fitted}
use Rattle.positions.specs.laws.Ends.{ends_answered, fitting_is, fitting_fits}
use Rattle.transcript.specs.Transcript.{Cds, no_cds, cds}
use Rattle.coding.specs.Coding.{beyond, refuses15, c_position, c_of_interval, map_n_to_c, n_position, map_c_to_n}

-- the n. position n is that of the c. position a, and neither 16 nor 17 refuses it
pub record Crossed (strict : Bool) (len s e : ℕ) (a : CAsked) (n : NPosition) : Type 0 where
  pub is : record { base = n_of_c (pos s) (pos e) a.base; offset = a.offset } ≡ n
  pub taken : beyond strict len n.base ≡ false
  pub fit : n_fits n ≡ true

module _ (strict : Bool) (len : ℕ) where
  position_crossed : (s e : ℕ) (a : CAsked) (n : NPosition) → n_position strict len s e a ≡ Ok n → Crossed strict len s e a n
  unfolding n_position
  position_crossed s e a n h =
      let there : NPosition = record { base = n_of_c (pos s) (pos e) a.base; offset = a.offset } in
      by_test (beyond strict len there.base)
      (λ t. absurd (clash (simp t at h)))
      (λ t.
      by_test (n_fits there)
      (λ f.
      let is : there ≡ n = same (simp (t, f) at h) in
      record { is = is; taken = subst (λ (x : NPosition). beyond strict len x.base ≡ false) is t; fit = subst (λ (x : NPosition). n_fits x ≡ true) is f })
      (λ f. absurd (clash (simp (t, f) at h))))

  pub c_to_n_crossed : (s e : ℕ) (i : Interval CAsked) (n : Marked NPosition) → map_c_to_n strict len (cds s e) i ≡ Ok n → Crossed strict len s e i.from n.interval.from × Crossed strict len s e i.to n.interval.to
  unfolding map_c_to_n
  c_to_n_crossed s e i n h =
      let (m, from, to) = ends_answered unmarked (n_position strict len s e i.from) (n_position strict len s e i.to) n h in
      (position_crossed s e i.from n.interval.from from, position_crossed s e i.to n.interval.to to)

  pub c_to_n_fits : (c : Cds) (i : Interval CAsked) (n : Marked NPosition) → map_c_to_n strict len c i ≡ Ok n → Fitted n_fits n.interval
  unfolding map_c_to_n
  c_to_n_fits no_cds i n h = absurd (clash h)
  c_to_n_fits (cds s e) i n h = let (from, to) = c_to_n_crossed s e i n h in record { from = from.fit; to = to.fit }

  pub n_to_c_fits : (c : Cds) (i : Interval NAsked) (a : Marked CPosition) → map_n_to_c strict len c i ≡ Ok a → Fitted c_fits a.interval
  unfolding map_n_to_c
  n_to_c_fits c i a h = fitting_fits c_fits (c_of_interval strict len c i) a h

  pub c_to_n_plain : (c : Cds) (i : Interval CAsked) (n : Marked NPosition) → map_c_to_n strict len c i ≡ Ok n → n.mark ≡ unmarked
  unfolding map_c_to_n
  c_to_n_plain no_cds i n h = absurd (clash h)
  c_to_n_plain (cds s e) i n h = sym (ends_answered unmarked (n_position strict len s e i.from) (n_position strict len s e i.to) n h).0

  pub n_to_c_plain : (c : Cds) (i : Interval NAsked) (a : Marked CPosition) → map_n_to_c strict len c i ≡ Ok a → a.mark ≡ unmarked
  unfolding map_n_to_c c_of_interval
  n_to_c_plain no_cds i a h = absurd (clash h)
  n_to_c_plain (cds s e) i a h = go (refuses15 strict len i) (fitting_is c_fits (c_of_interval strict len (cds s e) i) a h)
    where
      go : (t : Bool) → (if t then Err NOutside else plainly (each (c_position s e) i)) ≡ Ok a → a.mark ≡ unmarked
      go true k = absurd (clash k)
      go false k = sym (ap (λ (x : Marked CPosition). x.mark) (same k))

-- 15 refuses n.0, and no other number gives c.0
module _ (len s e : ℕ) where
  not_zero : (n : ℤ) → beyond true len n ≡ false → (c_of_n (pos s) (pos e) n).0 ≡ pos 0 → ⊥
  unfolding beyond
  not_zero n h = let (low, _) = neither (le_z n (pos 0)) (lt_z (pos len) n) h in never_zero (pos s) (pos e) n (omega order) (λ z. omega order)

  pub strict_never_zero : (i : Interval NAsked) (a : Marked CPosition) → map_n_to_c true len (cds s e) i ≡ Ok a → (a.interval.from.base.0 ≡ pos 0 → ⊥) × (a.interval.to.base.0 ≡ pos 0 → ⊥)
  unfolding map_n_to_c c_of_interval c_position
  strict_never_zero i a h =
      by_test (refuses15 true len i)
      (λ t. absurd (clash (rw t at there)))
      (λ t.
      let (from, to) = neither (beyond true len i.from.base) (beyond true len i.to.base) t in
      let is = same (rw t at there) in
      rw (← is) (not_zero i.from.base from, not_zero i.to.base to))
    where
      there : c_of_interval true len (cds s e) i ≡ Ok a
      there = fitting_is c_fits (c_of_interval true len (cds s e) i) a h
