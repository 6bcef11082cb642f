-- A question of one of the six mappings as one value, asked of what is lent. Assumes nothing.
use Rattle.std.specs.Prelude.{ℕ, ◌/◌, ◌%◌, Bool, false, cond, List, eqb, ℤ, pos, if◌then◌else◌}
use Rattle.refusals.specs.declared.Refusal.TheVariants.{NoLog}
use Rattle.refusals.specs.Numbers.{number}
use Rattle.refusals.specs.Outcome.{Outcome, Err, Ok}
use Rattle.holding.specs.Holding.{Lent, checked}
use Rattle.mapper.specs.Asking.{ask_g_to_n, ask_n_to_g, ask_n_to_c, ask_c_to_n, ask_g_to_c, ask_c_to_g}
use Rattle.layout.specs.Layout.{star_of, g_laid, n_laid, c_laid, refusal, laid}
use Rattle.taking.specs.Questions.{map_g_to_n, map_n_to_g, map_n_to_c, map_c_to_n, map_g_to_c, kind_of, is_strict, g_of, n_of, c_of}
use Rattle.layout.specs.declared.lay.Answer.{Answer}
use Rattle.taking.specs.declared.question.Question.{Question}
use Rattle.taking.specs.declared.question.Kind.{Kind}
use Rattle.canonical.specs.Canonical.{holdable}
use Rattle.journal.specs.Logs.{appending}
use Rattle.entries.specs.declared.Entry.{Entry}
use Rattle.asking.specs.declared.Recorded.{Recorded}

-- its kind; 35 for a question that no entry can hold
abbrev pub held_kind : Question → Outcome Kind
held_kind q = if holdable q then kind_of q.kind else Err NoLog

module _ (x : Lent) where
  -- the mapping that a question names, laid out; a kind above 5 names none and is refused before
  unfoldable pub named : Question → Answer
  named q =
      if eqb q.kind map_g_to_n then laid n_laid (checked x (ask_g_to_n (is_strict q) (g_of q)))
      else if eqb q.kind map_n_to_g then laid g_laid (checked x (ask_n_to_g (is_strict q) (n_of q)))
      else if eqb q.kind map_n_to_c then laid c_laid (checked x (ask_n_to_c (is_strict q) (n_of q)))
      else if eqb q.kind map_c_to_n then laid n_laid (checked x (ask_c_to_n (is_strict q) (c_of q)))
      else if eqb q.kind map_g_to_c then laid c_laid (checked x (ask_g_to_c (is_strict q) (g_of q)))
      else laid g_laid (checked x (ask_c_to_g (is_strict q) (c_of q)))

  -- 35 first, for a question that no entry can hold
  unfoldable pub asked : Question → Answer
  asked q = if holdable q then named q else refusal (number NoLog)

  -- the question and what is said to it
  abbrev pub recorded : Question → Entry
  recorded q = record { question = q; answer = asked q }

  -- what is put behind the bytes in use: 35 for such a question, then the log's own 35, 3 and 20
  unfoldable pub recording : Question → List ℕ → ℕ → Outcome (List ℕ)
  recording q s used = if holdable q then appending s used (recorded q) else Err NoLog

-- as the boundary has it: where it is refused, all else is 0
abbrev pub recorded_laid : Answer → Outcome ℕ → Recorded
recorded_laid a (Ok n) = record { number = 0; length = n; answer = a }
recorded_laid a (Err k) = record { number = number k; length = 0; answer = refusal 0 }

-- ---- the question that the arguments of an entry of the boundary make: kind, interval, strictness

-- an end of a g. interval: the mark, and no number under it
abbrev pub missing_mark : Bool → ℕ
missing_mark gone = cond gone 2 0

abbrev pub unless_missing : Bool → ℤ → ℤ
unless_missing gone z = cond gone (pos 0) z

-- bit 0 of `missing` is the start's, bit 1 the end's
abbrev pub g_question : ℕ → ℤ → ℤ → ℕ → Bool → Question
g_question kind start end missing strict = record {
  kind = kind;
  strict = star_of strict;
  start_marks = missing_mark (eqb (missing % 2) 1);
  end_marks = missing_mark (eqb (missing / 2 % 2) 1);
  start = unless_missing (eqb (missing % 2) 1) start;
  start_offset = pos 0;
  end = unless_missing (eqb (missing / 2 % 2) 1) end;
  end_offset = pos 0;
}

abbrev pub c_question : ℕ → ℤ → ℤ → Bool → ℤ → ℤ → Bool → Bool → Question
c_question kind start start_offset start_star end end_offset end_star strict = record {
  kind = kind;
  strict = star_of strict;
  start_marks = star_of start_star;
  end_marks = star_of end_star;
  start = start;
  start_offset = start_offset;
  end = end;
  end_offset = end_offset;
}

-- as in c., without stars
abbrev pub n_question : ℕ → ℤ → ℤ → ℤ → ℤ → Bool → Question
n_question kind start start_offset end end_offset strict = c_question kind start start_offset false end end_offset false strict
