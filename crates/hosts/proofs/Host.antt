-- What a host sees. No refusal has the number 0, so that 0 tells that something was made; the memory that building wrote holds together and stands for it, and then every question is the mapper's. Assumes nothing.
use Prim.Native.Nat.{ℕ, ◌+◌}
use native.Mathlib.Omega.{arith}
use mathlib.Core.Bool.{Bool, true, false, ◌||◌}
use mathlib.Core.List.{List}
use mathlib.Core.Path.{◌≡◌, refl, sym, ap, ◌∙◌, subst}
use lib.Dec.{eqb, ltb}
use lib.IntN.{ℤ}
use lib.ListN.{drop}
use borrow.Author.Tests.{eqb-false, ltb-true}
use Rattle.refusals.specs.Numbers.{number, most_segments}
use Rattle.refusals.specs.declared.Refusal.{Refusal}
use Rattle.refusals.specs.declared.Refusal.TheVariants.{NoRecords, NoStrand, TooMuch, BadBound, BadOrd, NotAdjacent, NoElement, BadCount, TooLong, NoSegment, HalfCds, BadCds, NotCoding, Outside, NOutside, COutside, TooWide, NoGenome, MissingEnd, NoRoom, NoCard, BadVersion, NotTogether, NoOperation, NoWord, NotSpanning, Falling, NoBase, NoLog}
use Rattle.refusals.specs.Outcome.{Outcome, Ok, Err, Answered, and_then}
use Rattle.refusals.specs.laws.Outcomes.{clash, same}
use Rattle.whole.specs.laws.Whole.{by_test}
use Rattle.segments.specs.Tables.{Tables, padded, tables_of}
use Rattle.transcript.specs.Transcript.{Transcript, Source, Cds}
use Rattle.transcript.specs.Transcript.Source.{aligned, length_only}
use Rattle.transcript.specs.declared.Numbers.{Numbers}
use Rattle.transcript.specs.Building.{numbers_of}
use Rattle.holding.specs.Holding.{Lent, holds, source_of, checked}
use Rattle.holding.specs.laws.Held.{checked_held}
use Rattle.judging.specs.Input.{Input}
use Rattle.judging.specs.Judging.{Made, Measured, elements_made, judge, judge_length}
use Rattle.judging.specs.laws.Accepted.{Sane, judged_sane, measured_means, measured_inside}
use Rattle.building.specs.Afterwards.{head_of, length_head, built_answer, length_answer, tables_after, exons_after}
use Rattle.building.proofs.laws.Standing.{beside, built_holds, built_stands, measured_holds, measured_stands}
use Rattle.card.specs.Layout.{records_at}
use Rattle.card.specs.Card.{read_card, numbers_in}
use Rattle.card.specs.Writing.{judge_read, judge_card}
use Rattle.card.specs.laws.RoundTrips.{read_means}
use Rattle.card.specs.laws.Taken.{card_sane}
use Rattle.positions.specs.Positions.{Interval, NAsked, CAsked, GPosition, NPosition, CPosition, asks_n}
use Rattle.positions.specs.Answers.{Mark, certain, uncertain, unmarked, Marked, Answer, chain}
use Rattle.coding.specs.Coding.{map_c_to_n}
use Rattle.places.specs.laws.Marks.{MarkedIf, g_fell}
use Rattle.chaining.specs.Given.{given}
use Rattle.mapper.specs.Asking.{ask_g_to_n, ask_n_to_g, ask_n_to_c, ask_c_to_n, ask_g_to_c, ask_c_to_g, ask_coding, ask_in_bounds}
use Rattle.mapper.specs.Chains.{map_g_to_c, map_c_to_g}
use Rattle.mapper.specs.laws.Marks.{c_fell, g_to_c_marked, c_to_g_marked}
use Rattle.lending.specs.Lending.{head_at}
use Rattle.taking.specs.Taking.{g_asked as asked, n_asked, c_asked}
use Rattle.layout.specs.Layout.{g_laid, n_laid, c_laid, mark_number, laid, said_laid}
use Rattle.layout.specs.declared.lay.Position.{Position}
use Rattle.results.specs.Results.{built_number, built_head}
use Rattle.worklist.specs.Worklist.{positions_of, never_falls, ask_steps, steps_laid}
use Rattle.promises.specs.Bases.{Name, ExonNumbers}
use Rattle.promises.specs.Demands.{ours, strict, made_of, Builds, Named, NamedByRecords, records_added, answer_up, Keeps}
use Rattle.hosts.specs.Host.{Way, of_records, of_card, judgment, input, told_building, written_by, Sees, HostSees, written_by_length, SeesLength, HostSeesLength, ToldName, Host2, place_up, told_up, KeepsTold, Host3}
use Rattle.promises.proofs.Promises.{host_builds, demand_2_built, demand_3}

-- ---- 0 is no refusal

is_above : (k : Refusal) → ltb 0 (number k) ≡ true
is_above NoRecords = refl
is_above NoStrand = refl
is_above TooMuch = refl
is_above BadBound = refl
is_above BadOrd = refl
is_above NotAdjacent = refl
is_above NoElement = refl
is_above BadCount = refl
is_above TooLong = refl
is_above NoSegment = refl
is_above HalfCds = refl
is_above BadCds = refl
is_above NotCoding = refl
is_above Outside = refl
is_above NOutside = refl
is_above COutside = refl
is_above TooWide = refl
is_above NoGenome = refl
is_above MissingEnd = refl
is_above NoRoom = refl
is_above NoCard = refl
is_above BadVersion = refl
is_above NotTogether = refl
is_above NoOperation = refl
is_above NoWord = refl
is_above NotSpanning = refl
is_above Falling = refl
is_above NoBase = refl
is_above NoLog = refl

not_0 : (k : Refusal) → number k ≡ 0 → ⊥
not_0 k e = let above = ltb-true 0 (number k) (is_above k) in omega (arith, above, e)

-- an answer whose number is 0
answered_at : {P : Type 0} (place : ℕ → P → Position) (a : Answer P) → (laid place a).number ≡ 0 → Answered a
answered_at place (Ok a) z = tt
answered_at place (Err k) z = absurd (not_0 k z)

-- ---- what was made

way_made : (w : Way) → told_building w ≡ 0 → (m : Made) × (judgment w ≡ Ok m)
way_made w = go (judgment w)
  where
    go : (j : Outcome Made) → built_number (built_answer j) ≡ 0 → (m : Made) × (j ≡ Ok m)
    go (Ok m) z = (m, refl)
    go (Err k) z = absurd (not_0 k z)

-- a card that makes something reads as its numbers, beside the bytes behind them
card_judged : (s : List ℕ) (m : Made) → judge_card s ≡ Ok m → judge (numbers_in s) (drop records_at s) ≡ Ok m
card_judged s m h = go (read_card s) refl h
  where
    go : (r : Outcome Numbers) → read_card s ≡ r → judge_read s r ≡ Ok m → judge (numbers_in s) (drop records_at s) ≡ Ok m
    go (Ok n) e h = rw (read_means s n e).1 at h
    go (Err k) e h = absurd (clash h)

way_sane : (w : Way) (m : Made) → judgment w ≡ Ok m → Sane m
way_sane (of_records n bytes) m h = judged_sane n bytes m h
way_sane (of_card bytes) m h = card_sane bytes m h

way_builds : (w : Way) (m : Made) → judgment w ≡ Ok m → Builds (input w) (made_of m)
way_builds (of_records n bytes) m h = host_builds n bytes m h
way_builds (of_card bytes) m h = host_builds (numbers_in bytes) (drop records_at bytes) m (card_judged bytes m h)

-- ---- asking

module _ (x : Lent) (y : Source) (held : holds x ≡ true) (stands : source_of x ≡ y) where
  reached : {A : Type 0} (ask : Source → Outcome A) → checked x ask ≡ ask y
  reached ask = checked_held x ask held ∙ ap ask stands

-- a chain that begins with the ends of a g. interval
chained : (s : Bool) (t : Transcript) (o : Outcome (Interval ℤ)) → chain asks_n (and_then o (ours.g_to_n s t)) (ours.n_to_c s t) ≡ and_then o (ours.g_to_c s t)
unfolding map_g_to_c
chained s t (Ok i) = refl
chained s t (Err k) = refl

sees : (x : Lent) (t : Transcript) → holds x ≡ true → source_of x ≡ aligned t → Sees ours x t
unfolding ask_g_to_n ask_n_to_g ask_n_to_c ask_c_to_n ask_g_to_c ask_c_to_g ask_coding ask_in_bounds ask_steps map_c_to_g
sees x t held stands = record {
  g_to_n = λ a b missing s. ap (laid n_laid) (it (ask_g_to_n s (asked a b missing)));
  g_to_c = λ a b missing s. ap (laid c_laid) (it (ask_g_to_c s (asked a b missing)) ∙ chained s t (given (asked a b missing)));
  n_to_g = λ a o b u s. ap (laid g_laid) (it (ask_n_to_g s (n_asked a o b u)));
  n_to_c = λ a o b u s. ap (laid c_laid) (it (ask_n_to_c s (n_asked a o b u)));
  c_to_n = λ a o star b u starred s. ap (laid n_laid) (it (ask_c_to_n s (c_asked a o star b u starred)));
  c_to_g = λ a o star b u starred s. ap (laid g_laid) (it (ask_c_to_g s (c_asked a o star b u starred)));
  in_bounds = λ a b missing. ap said_laid (it (ask_in_bounds (asked a b missing)));
  coding = ap said_laid (it ask_coding);
  steps = λ list. ap steps_laid (it (ask_steps (positions_of list)));
  slots = λ list. by_test (never_falls (positions_of list)) (λ e. rw (it (ask_steps (positions_of list)), e) refl) (λ e. rw (it (ask_steps (positions_of list)), e) refl);
}
  where
    it : {A : Type 0} (ask : Source → Outcome A) → checked x ask ≡ ask (aligned t)
    it = reached x (aligned t) held stands

-- the memory of what was made
abbrev lent_for : Made → Lent
lent_for m = beside (head_of m) (tables_of (elements_made m)) (padded most_segments (numbers_of m.forward m.exon_list))

-- where building told 0
module _ (w : Way) (head : List ℤ) (was : Tables) (exons : List ℕ) where
  abbrev memory : Lent
  memory = written_by w head was exons

  -- what building wrote is the head, the tables and the exon numbers of what it made
  written_is : (m : Made) → judgment w ≡ Ok m → memory ≡ lent_for m
  unfolding head_at
  written_is m h = ap (λ (j : Outcome Made). beside (head_at (built_head (built_answer j) head)) (tables_after j was) (exons_after j exons)) h

  seen : (m : Made) → judgment w ≡ Ok m → Sees ours memory (made_of m)
  seen m h =
      let sane = way_sane w m h in
      rw (written_is m h) (sees (lent_for m) (made_of m) (built_holds m sane) (built_stands m sane))

  -- of the one transcript that builds
  seen_of : (t : Transcript) → told_building w ≡ 0 → Builds (input w) t → Sees ours memory t
  seen_of t z builds =
      let (m, judged) = way_made w z in
      subst (Sees ours memory) (same (sym (way_builds w m judged) ∙ builds)) (seen m judged)

pub host_sees : HostSees ours
host_sees w head was exons z = let (m, judged) = way_made w z in (made_of m, way_builds w m judged, seen w head was exons m judged)

-- ---- a length

sees_length : (x : Lent) (len : ℕ) (c : Cds) → holds x ≡ true → source_of x ≡ length_only len c → SeesLength x len c
unfolding ask_g_to_n ask_n_to_g ask_n_to_c ask_c_to_n ask_g_to_c ask_c_to_g ask_coding ask_in_bounds ask_steps
sees_length x len c held stands = record {
  g_to_n = λ a b missing s. ap (laid n_laid) (it (ask_g_to_n s (asked a b missing)));
  g_to_c = λ a b missing s. ap (laid c_laid) (it (ask_g_to_c s (asked a b missing)));
  n_to_g = λ a o b u s. ap (laid g_laid) (it (ask_n_to_g s (n_asked a o b u)));
  n_to_c = λ a o b u s. ap (laid c_laid) (it (ask_n_to_c s (n_asked a o b u)));
  c_to_n = λ a o star b u starred s. ap (laid n_laid) (it (ask_c_to_n s (c_asked a o star b u starred)));
  c_to_g = λ a o star b u starred s. ap (laid g_laid) (it (ask_c_to_g s (c_asked a o star b u starred)) ∙ ended (map_c_to_n s len c (c_asked a o star b u starred)));
  in_bounds = λ a b missing. ap said_laid (it (ask_in_bounds (asked a b missing)));
  coding = ap said_laid (it ask_coding);
  steps = λ list. ap steps_laid (it (ask_steps (positions_of list)));
  slots = λ list. rw (it (ask_steps (positions_of list))) refl;
}
  where
    it : {A : Type 0} (ask : Source → Outcome A) → checked x ask ≡ ask (length_only len c)
    it = reached x (length_only len c) held stands

    ended : (o : Answer NPosition) → ◌≡◌ {A = Answer GPosition} (chain asks_n o (λ (i : Interval NAsked). Err NoGenome)) (and_then o (λ n. Err NoGenome))
    ended (Ok n) = refl
    ended (Err k) = refl

pub host_sees_length : HostSeesLength
unfolding head_at
host_sees_length len bits start end head was exons z = go (judge_length len bits start end) refl z
  where
    go : (j : Outcome Measured) → judge_length len bits start end ≡ j → built_number (length_answer j) ≡ 0
        → (m : Measured) × (j ≡ Ok m) × SeesLength (written_by_length j head was exons) m.bases m.coding
    go (Err k) e z = absurd (not_0 k z)
    go (Ok m) e z =
        let measures = measured_means len bits start end m e in
        (m, refl, sees_length (beside (length_head m) was exons) m.bases m.coding (measured_holds m was exons measures.small (measured_inside len bits start end m measures)) (measured_stands m was exons))

-- ---- demand 2

named_so : (x : Lent) (t : Transcript) → Sees ours x t → (p : ℕ) (y : Name) (k : ExonNumbers) → Named ours t p y k → ToldName x t p y k
unfolding asked
named_so x t s p y k n = record {
  g_to_n = s.g_to_n _ _ 0 strict ∙ ap (laid n_laid) n.g_to_n;
  n_to_g = s.n_to_g _ _ _ _ strict ∙ ap (laid g_laid) n.n_to_g;
  g_to_c = λ a e c. s.g_to_c _ _ 0 strict ∙ ap (laid c_laid) (n.g_to_c a e c);
  c_to_g = λ a e c. s.c_to_g _ _ _ _ _ _ strict ∙ ap (laid g_laid) (n.c_to_g a e c);
}

-- names of one kind are names of another
all_named : (x : Input) (t : Transcript) (has told : ℕ → Name → ExonNumbers → Type 0) → ((p : ℕ) (y : Name) (k : ExonNumbers) → has p y k → told p y k) → NamedByRecords has x t → NamedByRecords told x t
all_named x t has told so b = record {
  numbering = b.numbering;
  counts = b.counts;
  named = record {
    exon_base = λ p m. so p _ _ (b.named.exon_base p m);
    intron_base = λ p i. let near = b.named.intron_base p i in record { up = near.up; down = near.down; named = so p _ _ near.named };
  };
}

pub host_2 : Host2
host_2 w head was exons t z builds =
    let memory = written_by w head was exons in
    all_named (input w) t (Named ours t) (ToldName memory t) (named_so memory t (seen_of w head was exons t z builds)) (demand_2_built (input w) t builds)

-- ---- demand 3

-- an answer whose number is 0 is ours, answered
there : {P : Type 0} (place : ℕ → P → Position) {a b : Answer P} → (laid place a).number ≡ 0 → a ≡ b → Answered b
there place {a} z e = subst Answered e (answered_at place a z)

-- the numbers of an answer that bears a mark of certainty
up_laid : {P : Type 0} (place : ℕ → P → Position) → ((k n : ℕ) (a : P) → place (k + n) a ≡ place_up n (place k a)) → (n : ℕ) (gaps : Bool) (a : Marked P) → MarkedIf gaps a.mark
    → laid place (answer_up n (Ok a)) ≡ told_up n (laid place (Ok a))
up_laid {P} place moves n gaps a = go a.mark gaps
  where
    other_mark : (k l : ℕ) → k ≡ l → eqb k l ≡ false → ⊥
    other_mark k l e h = eqb-false k l h e

    go : (m : Mark) (gaps : Bool) → MarkedIf gaps m → laid place (answer_up n (Ok (record { mark = m; interval = a.interval }))) ≡ told_up n (laid place (Ok (record { mark = m; interval = a.interval })))
    go (certain e) gaps h = rw (moves e.from n a.interval.from, moves e.to n a.interval.to)
    go (uncertain e) gaps h = rw (moves e.from n a.interval.from, moves e.to n a.interval.to)
    go unmarked true h = absurd (other_mark 3 2 (ap mark_number h) refl)
    go unmarked false h = absurd (other_mark 3 1 (ap mark_number h) refl)

up_told : {P : Type 0} (place : ℕ → P → Position) → ((k n : ℕ) (a : P) → place (k + n) a ≡ place_up n (place k a)) → (n : ℕ) (gaps : Bool) (o : Answer P) → Answered o
    → ((a : Marked P) → o ≡ Ok a → MarkedIf gaps a.mark) → laid place (answer_up n o) ≡ told_up n (laid place o)
up_told place moves n gaps (Ok a) ok marked = up_laid place moves n gaps a (marked a refl)
up_told place moves n gaps (Err k) bad marked = absurd bad

chained_back : (t : Transcript) (q : Interval CAsked) → ask_c_to_g strict q (aligned t) ≡ map_c_to_g strict t q
unfolding ask_c_to_g ask_c_to_n ask_n_to_g map_c_to_g
chained_back t q = refl

keeps_so : (n : ℕ) (x y : Lent) (t u : Transcript) → holds x ≡ true → source_of x ≡ aligned t → Sees ours y u → Keeps ours n t u → KeepsTold n x y
unfolding asked ask_g_to_c ask_g_to_n ask_n_to_c
keeps_so n x y t u held stands r k = record {
  g_to_c = λ a b z.
      let is = reached x (aligned t) held stands (ask_g_to_c strict (asked a b 0)) ∙ chained strict t (given (asked a b 0)) in
      let ok = there c_laid z is in
      r.g_to_c a b 0 strict
      ∙ ap (laid c_laid) (k.g_to_c (record { from = a; to = b }) ok)
      ∙ up_told c_laid (λ k n c. refl) n (g_fell t a || g_fell t b) _ ok (g_to_c_marked strict t (record { from = a; to = b }))
      ∙ ap (λ (o : Answer CPosition). told_up n (laid c_laid o)) (sym is);
  c_to_g = λ a o star b e starred z.
      let q = c_asked a o star b e starred in
      let is = reached x (aligned t) held stands (ask_c_to_g strict q) ∙ chained_back t q in
      let ok = there g_laid z is in
      r.c_to_g a o star b e starred strict
      ∙ ap (laid g_laid) (k.c_to_g q ok)
      ∙ up_told g_laid (λ k n g. refl) n (c_fell t t.coding q.from || c_fell t t.coding q.to) _ ok (c_to_g_marked strict t q)
      ∙ ap (λ (o : Answer GPosition). told_up n (laid g_laid o)) (sym is);
}

pub host_3 : Host3
host_3 w v head was exons head' was' exons' t z z' builds l =
    let (m, judged) = way_made w z in
    let (n, judged') = way_made v z' in
    let sane = way_sane w m judged in
    let is : made_of m ≡ t = same (sym (way_builds w m judged) ∙ builds) in
    rw (written_is w head was exons m judged)
    (keeps_so (records_added l) (lent_for m) (written_by v head' was' exons') t (made_of n) (built_holds m sane) (built_stands m sane ∙ ap aligned is)
    (seen v head' was' exons' n judged') (demand_3 (input w) (input v) t (made_of n) builds (way_builds v n judged') l))
