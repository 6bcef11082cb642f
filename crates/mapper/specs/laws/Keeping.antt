-- A strict answer to one of the six mapping questions is also the lenient answer: strict mode only refuses more. Assumes nothing.
use Rattle.std.proofs.Math.Bool.{true, false}
use Rattle.refusals.specs.declared.Refusal.TheVariants.{NotTogether}
use Rattle.refusals.specs.Outcome.{Outcome}
use Rattle.refusals.specs.Refusing.{Kept}
use Rattle.refusals.specs.laws.Keeping.{kept_same, kept_then}
use Rattle.transcript.specs.Transcript.{Source, length_of, coding_of}
use Rattle.transcript.specs.Transcript.Source.{aligned, length_only}
use Rattle.holding.specs.Holding.{Lent, holds, source_of, checked}
use Rattle.positions.specs.Positions.{Interval, GAsked, NAsked, CAsked, asks_n}
use Rattle.positions.specs.laws.Keeping.{kept_under, kept_chain}
use Rattle.coding.specs.laws.Keeping.{n_to_c_kept, c_to_n_kept}
use Rattle.spots.specs.Mapping.{map_g_to_n}
use Rattle.places.specs.laws.Keeping.{g_to_n_kept, n_to_g_kept}
use Rattle.chaining.specs.Given.{given}
use Rattle.mapper.specs.Asking.{ask_g_to_n, ask_n_to_g, ask_n_to_c, ask_c_to_n, ask_g_to_c, ask_c_to_g}

-- ---- of either kind of transcript

ask_g_to_n_lem : (q : Interval GAsked) (x : Source) → Kept (ask_g_to_n true q x) (ask_g_to_n false q x)
unfolding ask_g_to_n
ask_g_to_n_lem q (aligned t) = kept_then (given q) (given q) (map_g_to_n true t) (map_g_to_n false t) (kept_same _) (g_to_n_kept t)
ask_g_to_n_lem q (length_only n c) = kept_same _

ask_n_to_g_lem : (q : Interval NAsked) (x : Source) → Kept (ask_n_to_g true q x) (ask_n_to_g false q x)
unfolding ask_n_to_g
ask_n_to_g_lem q (aligned t) = n_to_g_kept t q
ask_n_to_g_lem q (length_only n c) = kept_same _

ask_n_to_c_lem : (q : Interval NAsked) (x : Source) → Kept (ask_n_to_c true q x) (ask_n_to_c false q x)
unfolding ask_n_to_c
ask_n_to_c_lem q x = n_to_c_kept (length_of x) (coding_of x) q

ask_c_to_n_lem : (q : Interval CAsked) (x : Source) → Kept (ask_c_to_n true q x) (ask_c_to_n false q x)
unfolding ask_c_to_n
ask_c_to_n_lem q x = c_to_n_kept (length_of x) (coding_of x) q

-- ---- of what is lent: both modes are checked alike

module _ (x : Lent) where
  checked_kept : {A : Type 0} (strict lenient : Source → Outcome A) → ((y : Source) → Kept (strict y) (lenient y)) → Kept (checked x strict) (checked x lenient)
  unfolding checked
  checked_kept strict lenient k = kept_under (holds x) NotTogether (strict (source_of x)) (lenient (source_of x)) (k (source_of x))

  pub g_to_n_lenient : (q : Interval GAsked) → Kept (checked x (ask_g_to_n true q)) (checked x (ask_g_to_n false q))
  g_to_n_lenient q = checked_kept (ask_g_to_n true q) (ask_g_to_n false q) (ask_g_to_n_lem q)

  pub n_to_g_lenient : (q : Interval NAsked) → Kept (checked x (ask_n_to_g true q)) (checked x (ask_n_to_g false q))
  n_to_g_lenient q = checked_kept (ask_n_to_g true q) (ask_n_to_g false q) (ask_n_to_g_lem q)

  pub n_to_c_lenient : (q : Interval NAsked) → Kept (checked x (ask_n_to_c true q)) (checked x (ask_n_to_c false q))
  n_to_c_lenient q = checked_kept (ask_n_to_c true q) (ask_n_to_c false q) (ask_n_to_c_lem q)

  pub c_to_n_lenient : (q : Interval CAsked) → Kept (checked x (ask_c_to_n true q)) (checked x (ask_c_to_n false q))
  c_to_n_lenient q = checked_kept (ask_c_to_n true q) (ask_c_to_n false q) (ask_c_to_n_lem q)

  pub g_to_c_lenient : (q : Interval GAsked) → Kept (checked x (ask_g_to_c true q)) (checked x (ask_g_to_c false q))
  unfolding ask_g_to_c
  g_to_c_lenient q = checked_kept (ask_g_to_c true q) (ask_g_to_c false q) (λ y. kept_chain asks_n (ask_g_to_n true q y) (ask_g_to_n false q y) _ _ (ask_g_to_n_lem q y) (λ i. ask_n_to_c_lem i y))

  pub c_to_g_lenient : (q : Interval CAsked) → Kept (checked x (ask_c_to_g true q)) (checked x (ask_c_to_g false q))
  unfolding ask_c_to_g
  c_to_g_lenient q = checked_kept (ask_c_to_g true q) (ask_c_to_g false q) (λ y. kept_chain asks_n (ask_c_to_n true q y) (ask_c_to_n false q y) _ _ (ask_c_to_n_lem q y) (λ i. ask_n_to_g_lem i y))
