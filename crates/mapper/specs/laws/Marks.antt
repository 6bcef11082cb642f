-- The mark of a chain's answer: it is uncertain exactly where either end fell in an I or a D segment. Between n. and c. no mark is borne, so it is that of the other step. Assumes nothing.
use Rattle.std.specs.Prelude.{ℕ, Bool, false, ◌||◌, ◌≡◌, ℤ, pos}
use Rattle.refusals.specs.Outcome.{Ok}
use Rattle.refusals.specs.laws.Outcomes.{clash}
use Rattle.numbering.specs.Numbers.{n_of_c}
use Rattle.transcript.specs.Transcript.{Transcript, Cds, transcript_length}
use Rattle.transcript.specs.Transcript.Cds.{no_cds, cds}
use Rattle.positions.specs.Positions.{Interval, each, CAsked, GPosition, NPosition, CPosition, asks_n}
use Rattle.positions.specs.Answers.{Marked}
use Rattle.positions.specs.laws.Ends.{row_plain, chain_mark}
use Rattle.coding.specs.Coding.{map_n_to_c, map_c_to_n}
use Rattle.coding.specs.laws.Answered.{c_to_n_crossed, c_to_n_plain, n_to_c_plain}
use Rattle.spots.specs.Mapping.{map_g_to_n, map_n_to_g}
use Rattle.places.specs.laws.Marks.{MarkedIf, g_fell, n_fell, g_to_n_marked, n_to_g_marked}
use Rattle.mapper.specs.Chains.{map_g_to_c, map_c_to_g}

-- the place of the n. number that a c. number stands for fell so
abbrev pub c_fell : Transcript → Cds → CAsked → Bool
c_fell t no_cds a = false
c_fell t (cds s e) a = n_fell t (n_of_c (pos s) (pos e) a.base)

module _ (strict : Bool) (t : Transcript) where
  abbrev len : ℕ
  len = transcript_length t

  pub g_to_c_marked : (i : Interval ℤ) (a : Marked CPosition) → map_g_to_c strict t i ≡ Ok a → MarkedIf (g_fell t i.from || g_fell t i.to) a.mark
  unfolding map_g_to_c
  g_to_c_marked i = chain_mark asks_n (map_g_to_n strict t i) (map_n_to_c strict len t.coding) _ (λ n c f s. rw (n_to_c_plain strict len t.coding _ c s, row_plain n.mark) (g_to_n_marked strict t i n f))

  -- an n. interval that c. to n. answered fell where the c. interval did
  fell_alike : (c : Cds) (i : Interval CAsked) (n : Marked NPosition) → map_c_to_n strict len c i ≡ Ok n → (n_fell t n.interval.from.base || n_fell t n.interval.to.base) ≡ (c_fell t c i.from || c_fell t c i.to)
  unfolding map_c_to_n
  fell_alike no_cds i n h = absurd (clash h)
  fell_alike (cds s e) i n h =
      let (from, to) = c_to_n_crossed strict len s e i n h in
      rw (← from.is, ← to.is)

  pub c_to_g_marked : (i : Interval CAsked) (a : Marked GPosition) → map_c_to_g strict t i ≡ Ok a → MarkedIf (c_fell t t.coding i.from || c_fell t t.coding i.to) a.mark
  unfolding map_c_to_g
  c_to_g_marked i = chain_mark asks_n (map_c_to_n strict len t.coding i) (map_n_to_g strict t) _ (λ n g f s. rw (c_to_n_plain strict len t.coding i n f, ← fell_alike t.coding i n f) (n_to_g_marked strict t (each asks_n n.interval) g s))
