-- What is known where a question to what is lent is answered: across the genome each end has the number of an exon, in 1 to 512, between n. and c. there is no mark, and every number fits. Assumes nothing.
use Rattle.std.specs.Prelude.{ℕ, Bool, true, ◌≡◌}
use Rattle.std.proofs.Common.{arith}
use Rattle.refusals.specs.Numbers.{most_records}
use Rattle.refusals.specs.Outcome.{Ok}
use Rattle.refusals.specs.laws.Outcomes.{clash, then_tells}
use Rattle.whole.specs.laws.Whole.{by_test}
use Rattle.segments.specs.Exons.{IsExon}
use Rattle.transcript.specs.Transcript.{Source, exon_number, length_of, coding_of}
use Rattle.transcript.specs.Transcript.Source.{aligned, length_only}
use Rattle.holding.specs.Holding.{Lent, of_records, holds, source_of, checked}
use Rattle.holding.specs.laws.Held.{together, source_of_records, source_of_length, held_exons, checked_answered}
use Rattle.positions.specs.Positions.{Interval, GAsked, NAsked, CAsked, GPosition, NPosition, CPosition, asks_n}
use Rattle.positions.specs.Answers.{unmarked, Marked, g_fits, n_fits, c_fits, Fitted}
use Rattle.positions.specs.laws.Ends.{row_plain, chain_tells}
use Rattle.coding.specs.laws.Answered.{c_to_n_fits, n_to_c_fits, c_to_n_plain, n_to_c_plain}
use Rattle.spots.specs.Mapping.{map_g_to_n}
use Rattle.places.specs.laws.Answered.{Across, g_to_n_fits, n_to_g_fits, g_to_n_across, n_to_g_across}
use Rattle.chaining.specs.Given.{given}
use Rattle.mapper.specs.Asking.{ask_g_to_n, ask_n_to_g, ask_n_to_c, ask_c_to_n, ask_g_to_c, ask_c_to_g}

-- an answer across the genome, and one between n. and c.
pub record AnsweredAcross {P : Type 0} (fit : P → Bool) (a : Marked P) : Type 0 where
  pub mark : Across most_records a.mark
  pub fitted : Fitted fit a.interval

pub record AnsweredPlainly {P : Type 0} (fit : P → Bool) (a : Marked P) : Type 0 where
  pub mark : a.mark ≡ unmarked
  pub fitted : Fitted fit a.interval

-- ---- of either kind of transcript

-- each exon number of a transcript is one of at most 512
abbrev Numbered : Source → Type 0
Numbered (aligned t) = (i : ℕ) → IsExon most_records (exon_number t i)
Numbered (length_only n c) = Unit {0}

module _ (strict : Bool) where
  ask_g_to_n_lem : (q : Interval GAsked) (y : Source) → Numbered y → (a : Marked NPosition) → ask_g_to_n strict q y ≡ Ok a → AnsweredAcross n_fits a
  unfolding ask_g_to_n
  ask_g_to_n_lem q (aligned t) numbered a h =
      then_tells (given q) (map_g_to_n strict t) (AnsweredAcross n_fits)
      (λ i b e s. record { mark = g_to_n_across strict t most_records numbered i b s; fitted = g_to_n_fits strict t i b s }) a h
  ask_g_to_n_lem q (length_only n c) numbered a h = absurd (clash h)

  ask_n_to_g_lem : (q : Interval NAsked) (y : Source) → Numbered y → (a : Marked GPosition) → ask_n_to_g strict q y ≡ Ok a → AnsweredAcross g_fits a
  unfolding ask_n_to_g
  ask_n_to_g_lem q (aligned t) numbered a h = record { mark = n_to_g_across strict t most_records numbered q a h; fitted = n_to_g_fits strict t q a h }
  ask_n_to_g_lem q (length_only n c) numbered a h = absurd (clash h)

  ask_n_to_c_lem : (q : Interval NAsked) (y : Source) (a : Marked CPosition) → ask_n_to_c strict q y ≡ Ok a → AnsweredPlainly c_fits a
  unfolding ask_n_to_c
  ask_n_to_c_lem q y a h = record { mark = n_to_c_plain strict (length_of y) (coding_of y) q a h; fitted = n_to_c_fits strict (length_of y) (coding_of y) q a h }

  ask_c_to_n_lem : (q : Interval CAsked) (y : Source) (a : Marked NPosition) → ask_c_to_n strict q y ≡ Ok a → AnsweredPlainly n_fits a
  unfolding ask_c_to_n
  ask_c_to_n_lem q y a h = record { mark = c_to_n_plain strict (length_of y) (coding_of y) q a h; fitted = c_to_n_fits strict (length_of y) (coding_of y) q a h }

  -- the mark of a chain is that of its step across the genome
  ask_g_to_c_lem : (q : Interval GAsked) (y : Source) → Numbered y → (a : Marked CPosition) → ask_g_to_c strict q y ≡ Ok a → AnsweredAcross c_fits a
  unfolding ask_g_to_c
  ask_g_to_c_lem q y numbered =
      chain_tells asks_n (ask_g_to_n strict q y) (λ (i : Interval NAsked). ask_n_to_c strict i y) (AnsweredAcross c_fits)
      (λ n c f s.
      let first = ask_g_to_n_lem q y numbered n f in
      let second = ask_n_to_c_lem _ y c s in
      record { mark = rw (second.mark, row_plain n.mark) first.mark; fitted = second.fitted })

  ask_c_to_g_lem : (q : Interval CAsked) (y : Source) → Numbered y → (a : Marked GPosition) → ask_c_to_g strict q y ≡ Ok a → AnsweredAcross g_fits a
  unfolding ask_c_to_g
  ask_c_to_g_lem q y numbered =
      chain_tells asks_n (ask_c_to_n strict q y) (λ (i : Interval NAsked). ask_n_to_g strict i y) (AnsweredAcross g_fits)
      (λ n g f s.
      let first = ask_c_to_n_lem q y n f in
      let second = ask_n_to_g_lem _ y numbered g s in
      record { mark = rw first.mark second.mark; fitted = second.fitted })

-- ---- of what is lent

held_numbered : (x : Lent) → holds x ≡ true → Numbered (source_of x)
held_numbered x e =
    by_test (of_records x.head)
    (λ r. let w = together x e r in rw (source_of_records x r) (λ i. let k = held_exons x w i in record { above = k.above; below = omega (arith, k.below, w.head.records.below) }))
    (λ r. rw (source_of_length x r) tt)

module _ (x : Lent) (strict : Bool) where
  pub g_to_n_answered : (q : Interval GAsked) (a : Marked NPosition) → checked x (ask_g_to_n strict q) ≡ Ok a → AnsweredAcross n_fits a
  g_to_n_answered q a h = let (e, s) = checked_answered x (ask_g_to_n strict q) a h in ask_g_to_n_lem strict q (source_of x) (held_numbered x e) a s

  pub n_to_g_answered : (q : Interval NAsked) (a : Marked GPosition) → checked x (ask_n_to_g strict q) ≡ Ok a → AnsweredAcross g_fits a
  n_to_g_answered q a h = let (e, s) = checked_answered x (ask_n_to_g strict q) a h in ask_n_to_g_lem strict q (source_of x) (held_numbered x e) a s

  pub n_to_c_answered : (q : Interval NAsked) (a : Marked CPosition) → checked x (ask_n_to_c strict q) ≡ Ok a → AnsweredPlainly c_fits a
  n_to_c_answered q a h = let (e, s) = checked_answered x (ask_n_to_c strict q) a h in ask_n_to_c_lem strict q (source_of x) a s

  pub c_to_n_answered : (q : Interval CAsked) (a : Marked NPosition) → checked x (ask_c_to_n strict q) ≡ Ok a → AnsweredPlainly n_fits a
  c_to_n_answered q a h = let (e, s) = checked_answered x (ask_c_to_n strict q) a h in ask_c_to_n_lem strict q (source_of x) a s

  pub g_to_c_answered : (q : Interval GAsked) (a : Marked CPosition) → checked x (ask_g_to_c strict q) ≡ Ok a → AnsweredAcross c_fits a
  g_to_c_answered q a h = let (e, s) = checked_answered x (ask_g_to_c strict q) a h in ask_g_to_c_lem strict q (source_of x) (held_numbered x e) a s

  pub c_to_g_answered : (q : Interval CAsked) (a : Marked GPosition) → checked x (ask_c_to_g strict q) ≡ Ok a → AnsweredAcross g_fits a
  c_to_g_answered q a h = let (e, s) = checked_answered x (ask_c_to_g strict q) a h in ask_c_to_g_lem strict q (source_of x) (held_numbered x e) a s
