-- What was judged decides: a refusal leaves the tables, and what passed is written. Assumes nothing.
use Rattle.refusals.specs.Outcome.{Ok}
use mathlib.Core.Path.{refl, sym, ap, ◌∙◌}
use mathlib.Core.List.{List}
use Prim.Native.Nat.{ℕ}
use native.Mathlib.Omega.{arith}
use lib.IntN.{pos}
use mir.Syntax.{w32}
use mir.Val.{SFits}
use Rattle.std.proofs.lemmas.Result.{err_from_is_err_and}
use Rattle.judging.specs.Judging.{judge}
use Rattle.judging.specs.laws.Told.{Told, told_made, told_refused}
use Rattle.refusals.specs.Numbers.{most_segments}
use Rattle.segments.specs.Tables.{padded, tables_of}
use Rattle.transcript.specs.declared.Numbers.{Numbers}
use Rattle.reading.specs.declared.Sums.{Sums}
use Rattle.whole.specs.laws.Machine.{bits_32}
use Rattle.building.proofs.Passed.{known, is_ready, is_small, few_records, told_all, forward_is, elements_are, numbers_are, head_is}
use Rattle.building.proofs.build_into.Goals as goal
use Rattle.building.proofs.build_into.Goals.{In_ok-to}

one : SFits w32 (pos 1)
one = omega arith

-- where the judgment is no refusal
module _ (c : In_ok-to) where
  abbrev n : Numbers
  n = c.args.numbers

  abbrev bytes : List ℕ
  bytes = c.args.s.now

  abbrev to : Sums
  to = c.in_ok-to.to

  pass : Told (judge n bytes) to
  pass = told_made (judge n bytes) (sym c.in_ok-to.was ∙ c.judge.ensures.0)

pub write_tables-requires : goal.write_tables-requires
write_tables-requires c =
    let here = (goal.at.write_tables-requires c).In_ok-to in
    let p = pass here in
    record { long = c.requires.0; exons_len = c.requires.1; ready = (is_ready (n here) (bytes here) (to here) p, few_records (n here) (bytes here) (to here) p, is_small (n here) (bytes here) (to here) p); s_value = told_all (n here) (bytes here) (to here) p }

pub head_of-requires : goal.head_of-requires
head_of-requires c =
    let here = (goal.at.head_of-requires c).In_ok-to in
    let p = pass here in
    ((is_ready (n here) (bytes here) (to here) p).stands.numbers, (is_small (n here) (bytes here) (to here) p).few, known (n here) (bytes here) (to here) p, few_records (n here) (bytes here) (to here) p)

pub returns : goal.returns
returns c =
    let here = (goal.at.returns c).In_ok-to in
    let p = pass here in
    let forward = bits_32 {a = (n here).strand} (record { sfits = c.struct_told-1.given.0.1 }) one ∙ forward_is (n here) (bytes here) (to here) p in
    let filled = rw forward at c.write_tables.ensures in
    rw p.judged record { value = ap Ok (c.head_of.ensures ∙ head_is (n here) (bytes here) (to here) p); letters_after = filled.letters_after ∙ ap tables_of (elements_are (n here) (bytes here) (to here) p); exons_after = filled.exons_after ∙ ap (padded most_segments) (numbers_are (n here) (bytes here) (to here) p) }

pub returns-in_err-to : goal.returns-in_err-to
returns-in_err-to c =
    let a = c.args in
    let p = err_from_is_err_and c.from_residual.result c.from_residual.ensures.1 in
    let told = sym c.in_err-to.was ∙ c.judge.ensures.0 in
    rw (told_refused (judge a.numbers a.s.now) told, p.1, p.2) record { value = refl; letters_after = refl; exons_after = refl }
