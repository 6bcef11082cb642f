-- What a replay tells.
--     differs_not, differs_says   an entry differs exactly where its answer is not what is said now
--     indices_append              entries, one after the other
--     indices_rise                indices rise, each below the number of entries
--     listed_where                an index is listed exactly where its entry differs
--     nothing_differs, nothing_written   on the transcript that recorded every entry the text is `0` and a newline
--     replay_broken, replayed_answered, replay_answered, replay_refused   by what is lent and what is read
--     text_length, replay_short, replayed_short   no text is longer than the most
--     replay_roomy                so a buffer of that length is never too short
-- Assumes nothing.
use Prim.Native.Nat.{ℕ, zero, suc, ◌+◌, ◌≤◌, ◌<◌}
use Rattle.std.proofs.Common.{add-zero, zero-add, sym, subst, ap₂, ◌∙◌}
use native.Mathlib.Omega.{arith}
use Rattle.std.specs.Prelude.{◌≡◌, true, false, ℤ, pos, negsuc, get_or}
use Rattle.std.proofs.Math.Path.{refl, ap}
use Rattle.std.proofs.lemmas.Bool.{false≢true}
use mathlib.Core.List.{List, [], ◌∷◌, ◌++◌, append_assoc}
use Rattle.std.proofs.Math.ListN.{length, length-append}
use borrow.Author.Tests.{eqb-true, eq-eqb, ne_eqb, le-ltb}
use Rattle.refusals.specs.declared.Refusal.{Refusal}
use Rattle.refusals.specs.declared.Refusal.TheVariants.{NotTogether}
use Rattle.refusals.specs.Outcome.{Outcome, Ok, Err, and_then, through}
use Rattle.refusals.specs.laws.Outcomes.{clash, same}
use Rattle.whole.specs.Whole.{eq_z}
use Rattle.whole.specs.laws.Whole.{by_test, both}
use Rattle.spelling.specs.Write.{digits_by, decimal}
use Rattle.holding.specs.Holding.{Lent, holds, checked}
use Rattle.layout.specs.declared.lay.Position.{Position}
use Rattle.layout.specs.declared.lay.Answer.{Answer}
use Rattle.journal.specs.Layout.{entries_at}
use Rattle.journal.specs.Logs.{read_log}
use Rattle.journal.specs.laws.LogTrips.{from_length, read_means}
use Rattle.entries.specs.declared.Entry.{Entry}
use Rattle.asking.specs.Asking.{asked, recorded}
use Rattle.playback.specs.Lines.{line_of, lines_of, most_entries, all_lines, most_replay}
use Rattle.playback.specs.Replay.{is_listed, same_position, same_answer, differs, indices_from, differing, replay_text, replayed, roomed, replaying}
use Rattle.playback.specs.laws.Lines.{all_lines_next, all_lines_rise, all_lines_none, all_lines_few, line_short}

-- ---- two answers

eq_z_same : (a : ℤ) → eq_z a a ≡ true
eq_z_same (pos a) = eq-eqb a a refl
eq_z_same (negsuc a) = eq-eqb a a refl

eq_z_says : (a b : ℤ) → eq_z a b ≡ true → a ≡ b
eq_z_says (pos a) (pos b) h = ap pos (eqb-true a b h)
eq_z_says (pos a) (negsuc b) h = absurd (false≢true h)
eq_z_says (negsuc a) (pos b) h = absurd (false≢true h)
eq_z_says (negsuc a) (negsuc b) h = ap negsuc (eqb-true a b h)

position_same : (a : Position) → same_position a a ≡ true
unfolding same_position
position_same a = rw (eq_z_same a.base, eq_z_same a.offset, eq-eqb a.star a.star refl, eq-eqb a.exon a.exon refl)

abbrev position : ℤ → ℤ → ℕ → ℕ → Position
position base offset star exon = record { base = base; offset = offset; star = star; exon = exon }

position_says : (a b : Position) → same_position a b ≡ true → a ≡ b
unfolding same_position
position_says a b h =
    let (front, exon) = both _ _ h in
    let (bases, star) = both _ _ front in
    let (base, offset) = both _ _ bases in
    ap (λ (z : ℤ). position z a.offset a.star a.exon) (eq_z_says a.base b.base base)
    ∙ ap (λ (z : ℤ). position b.base z a.star a.exon) (eq_z_says a.offset b.offset offset)
    ∙ ap₂ (λ (m n : ℕ). position b.base b.offset m n) (eqb-true a.star b.star star) (eqb-true a.exon b.exon exon)

answer_same : (a : Answer) → same_answer a a ≡ true
unfolding same_answer
answer_same a = rw (eq-eqb a.number a.number refl, eq-eqb a.mark a.mark refl, position_same a.start, position_same a.end)

abbrev answer : ℕ → ℕ → Position → Position → Answer
answer number mark start end = record { number = number; mark = mark; start = start; end = end }

answer_says : (a b : Answer) → same_answer a b ≡ true → a ≡ b
unfolding same_answer
answer_says a b h =
    let (front, end) = both _ _ h in
    let (numbers, start) = both _ _ front in
    let (number, mark) = both _ _ numbers in
    ap₂ (λ (m n : ℕ). answer m n a.start a.end) (eqb-true a.number b.number number) (eqb-true a.mark b.mark mark)
    ∙ ap₂ (λ (p q : Position). answer b.number b.mark p q) (position_says a.start b.start start) (position_says a.end b.end end)

pub differs_not : (x : Lent) (e : Entry) → e.answer ≡ asked x e.question → differs x e ≡ false
unfolding differs
differs_not x e h = rw (h, answer_same (asked x e.question))

pub differs_says : (x : Lent) (e : Entry) → differs x e ≡ false → e.answer ≡ asked x e.question
unfolding differs
differs_says x e h =
    by_test (same_answer e.answer (asked x e.question))
    (λ t. answer_says e.answer (asked x e.question) t)
    (λ t. absurd (false≢true (sym (rw t at h))))

-- ---- the indices

-- numbers rise from one on, and stay below another
pub data Rising : ℕ → ℕ → List ℕ → Type 0 where
  none : {low high : ℕ} → Rising low high []
  more : {low high n : ℕ} {ns : List ℕ} → low ≤ n → n < high → Rising (n + 1) high ns → Rising low high (n ∷ ns)

lower : {low high : ℕ} {ns : List ℕ} → Rising (low + 1) high ns → Rising low high ns
lower none = none
lower {low} {high} (more {n = n} l h r) = more {low = low} {n = n} (omega arith) h r

-- each entry is what a transcript records
pub data AllRecorded (x : Lent) : List Entry → Type 0 where
  no_entry : AllRecorded x []
  one_more : {e : Entry} {es : List Entry} → e ≡ recorded x e.question → AllRecorded x es → AllRecorded x (e ∷ es)

module _ (x : Lent) where
  pub indices_append : (i : ℕ) (es fs : List Entry) → indices_from x i (es ++ fs) ≡ indices_from x i es ++ indices_from x (i + length es) fs
  unfolding indices_from
  indices_append i [] fs = rw (add-zero i)
  indices_append i (e ∷ es) fs =
      let n : i + 1 + length es ≡ i + suc (length es) = omega arith in
      rw (indices_append (i + 1) es fs, append_assoc, n)

  pub indices_rise : (i : ℕ) (es : List Entry) → Rising i (i + length es) (indices_from x i es)
  unfolding indices_from
  indices_rise i [] = none
  indices_rise i (e ∷ es) =
      let n : i + 1 + length es ≡ i + suc (length es) = omega arith in
      let rest : Rising (i + 1) (i + suc (length es)) (indices_from x (i + 1) es) = rw n at (indices_rise (i + 1) es) in
      by_test (differs x e)
      (λ t. rw t (more {low = i} {high = i + suc (length es)} {n = i} (omega arith) (omega arith) rest))
      (λ t. rw t (lower rest))

  -- no index below the first
  none_below : (i j : ℕ) (es : List Entry) → j < i → is_listed j (indices_from x i es) ≡ false
  unfolding indices_from
  none_below i j [] h = refl
  none_below i j (e ∷ es) h =
      by_test (differs x e)
      (λ t. rw (t, ne_eqb j i (λ q. omega arith)) (none_below (i + 1) j es (omega arith)))
      (λ t. rw t (none_below (i + 1) j es (omega arith)))

  pub listed_where : (i k : ℕ) (es : List Entry) (d : Entry) → k < length es → is_listed (i + k) (indices_from x i es) ≡ differs x (get_or es k d)
  unfolding indices_from
  listed_where i k [] d h = absurd (omega arith)
  listed_where i zero (e ∷ es) d h =
      by_test (differs x e)
      (λ t. rw (t, eq-eqb (i + 0) i (add-zero i)))
      (λ t. rw t (none_below (i + 1) (i + 0) es (omega arith)))
  listed_where i (suc k) (e ∷ es) d h =
      let n : i + suc k ≡ i + 1 + k = omega arith in
      by_test (differs x e)
      (λ t.
      rw (t, ne_eqb (i + suc k) i (λ q. omega arith))
      (subst (λ (m : ℕ). is_listed m (indices_from x (i + 1) es) ≡ differs x (get_or es k d)) (sym n) (listed_where (i + 1) k es d (omega arith))))
      (λ t. rw t (subst (λ (m : ℕ). is_listed m (indices_from x (i + 1) es) ≡ differs x (get_or es k d)) (sym n) (listed_where (i + 1) k es d (omega arith))))

  few_indices : (i : ℕ) (es : List Entry) → length (indices_from x i es) ≤ length es
  unfolding indices_from
  few_indices i [] = omega arith
  few_indices i (e ∷ es) =
      by_test (differs x e)
      (λ t. rw t (omega (arith, few_indices (i + 1) es)))
      (λ t. rw t (omega (arith, few_indices (i + 1) es)))

  lines_short : (i : ℕ) (es : List Entry) → i + length es ≤ 10000 → length (lines_of (indices_from x i es)) + all_lines i ≤ all_lines (i + length es)
  unfolding indices_from lines_of
  lines_short i [] h = rw (add-zero i) (omega arith)
  lines_short i (e ∷ es) h =
      let n : i + 1 + length es ≡ i + suc (length es) = omega arith in
      let short : length (lines_of (indices_from x (i + 1) es)) + all_lines (i + 1) ≤ all_lines (i + suc (length es)) = rw n at (lines_short (i + 1) es (omega arith)) in
      by_test (differs x e)
      (λ t. rw t (omega (arith, length-append (line_of i) (lines_of (indices_from x (i + 1) es)), all_lines_next i (omega arith))))
      (λ t. rw t (omega (arith, all_lines_rise i)))

  -- ---- the transcript that recorded every entry

  pub nothing_differs : (i : ℕ) {es : List Entry} → AllRecorded x es → indices_from x i es ≡ []
  unfolding indices_from
  nothing_differs i no_entry = refl
  nothing_differs i (one_more {e} {es} r rs) =
      let a : e.answer ≡ asked x e.question = ap (λ (d : Entry). d.answer) r in
      rw (differs_not x e a) (nothing_differs (i + 1) rs)

pub nothing_written : (x : Lent) {es : List Entry} → AllRecorded x es → replay_text (differing x es) ≡ 48 ∷ 10 ∷ []
unfolding replay_text lines_of line_of decimal digits_by
nothing_written x r = ap replay_text (nothing_differs x _ r)

-- ---- by what is lent and what is read

module _ (x : Lent) (log : List ℕ) where
  pub replay_broken : (room : ℕ) → holds x ≡ false → replaying x log room ≡ Err NotTogether
  unfolding replaying replayed checked
  replay_broken room h = rw h

  module _ (held : holds x ≡ true) where
    pub replayed_answered : (es : List Entry) → read_log log ≡ Ok es → replayed x log ≡ Ok (replay_text (differing x es))
    unfolding replayed checked
    replayed_answered es r = rw (held, r)

    pub replay_answered : (room : ℕ) (es : List Entry) → read_log log ≡ Ok es → replaying x log room ≡ roomed room (replay_text (differing x es))
    unfolding replaying
    replay_answered room es r = rw (replayed_answered es r)

    pub replay_refused : (room : ℕ) (k : Refusal) → read_log log ≡ Err k → replaying x log room ≡ Err k
    unfolding replaying replayed checked
    replay_refused room k r = rw (held, r)

-- ---- the length of the text

pub text_length : (ns : List ℕ) → length (replay_text ns) ≡ length (lines_of ns) + length (line_of (length ns))
unfolding replay_text
text_length ns = length-append (lines_of ns) (line_of (length ns))

pub replay_short : (x : Lent) (es : List Entry) → length es ≤ most_entries → length (replay_text (differing x es)) ≤ most_replay
replay_short x es h =
    let few = few_indices x 0 es in
    let long : length (lines_of (differing x es)) ≤ all_lines (length es) = omega (arith, lines_short x 0 es (omega arith), all_lines_none, ap all_lines (zero-add (length es))) in
    let total : length (line_of (length (differing x es))) ≤ 5 = line_short (length (differing x es)) (omega arith) in
    omega (arith, all_lines_few (length es) h, text_length (differing x es))

-- a log that is read has few entries
few_entries : (log : List ℕ) (es : List Entry) → read_log log ≡ Ok es → length es ≤ most_entries
few_entries log es e =
    let k = read_means log es e in
    omega (arith, k.few, k.headed.size_is, ap length k.are ∙ from_length _ log entries_at)

pub replayed_short : (x : Lent) (log text : List ℕ) → replayed x log ≡ Ok text → length text ≤ most_replay
unfolding replayed checked
replayed_short x log text e = by_test (holds x) (λ h. go (read_log log) refl (rw h at e)) (λ h. absurd (clash (rw h at e)))
  where
    go : (o : Outcome (List Entry)) → read_log log ≡ o → through (λ (es : List Entry). replay_text (differing x es)) o ≡ Ok text → length text ≤ most_replay
    go (Ok es) r q = rw (← same q) (replay_short x es (few_entries log es r))
    go (Err k) r q = absurd (clash q)

pub replay_roomy : (x : Lent) (log : List ℕ) (room : ℕ) → most_replay ≤ room → replaying x log room ≡ replayed x log
unfolding replaying
replay_roomy x log room h = go (replayed x log) refl
  where
    go : (o : Outcome (List ℕ)) → replayed x log ≡ o → and_then o (roomed room) ≡ o
    go (Ok text) e = rw (le-ltb room (length text) (omega (arith, replayed_short x log text e)))
    go (Err k) e = refl
