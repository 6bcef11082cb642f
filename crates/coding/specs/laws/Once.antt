-- A position that is both ends of its interval is numbered once. Assumes nothing.
use Rattle.std.specs.Prelude.{ℕ, Bool, ◌≡◌, pos}
use Rattle.std.proofs.Math.Path.{refl, sym}
use Rattle.std.proofs.Common.{ap}
use Rattle.refusals.specs.Outcome.{Ok}
use Rattle.refusals.specs.laws.Outcomes.{clash}
use Rattle.whole.specs.laws.Whole.{by_test}
use Rattle.numbering.specs.Numbers.{n_of_c}
use Rattle.positions.specs.Positions.{NAsked, CAsked, NPosition}
use Rattle.positions.specs.Answers.{unmarked, ends, n_fits, c_fits}
use Rattle.positions.specs.laws.Ends.{ends_fit, end_fits}
use Rattle.transcript.specs.Transcript.{cds}
use Rattle.coding.specs.Coding.{beyond, c_position, c_of_interval, map_n_to_c, one_to_c, n_position, map_c_to_n}

module _ (strict : Bool) (len s e : ℕ) where
  pub one_to_c_lem : (a : NAsked) → map_n_to_c strict len (cds s e) (record { from = a; to = a }) ≡ ends unmarked (one_to_c strict len s e a) (one_to_c strict len s e a)
  unfolding map_n_to_c c_of_interval one_to_c
  one_to_c_lem a = by_test (beyond strict len a.base) (λ t. rw t refl) (λ t. rw t (ends_fit c_fits unmarked (c_position s e a) (c_position s e a)))

  pub one_to_n : (a : CAsked) → map_c_to_n strict len (cds s e) (record { from = a; to = a }) ≡ ends unmarked (n_position strict len s e a) (n_position strict len s e a)
  unfolding map_c_to_n
  one_to_n a = refl

  -- what crosses over keeps its offset
  pub offset_stays : (a : CAsked) (n : NPosition) → n_position strict len s e a ≡ Ok n → n.offset ≡ a.offset
  unfolding n_position
  offset_stays a n =
      by_test (beyond strict len (n_of_c (pos s) (pos e) a.base))
      (λ t. rw t (λ h. absurd (clash h)))
      (λ t. rw t (λ h. sym (ap (λ (x : NPosition). x.offset) (end_fits n_fits _ n h))))
