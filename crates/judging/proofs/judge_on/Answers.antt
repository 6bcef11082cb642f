-- `judging::judge_on` meets its contract: each link of the chain of refusals is a law of `Chain`, asked of the bounds as the input has them. Assumes nothing.
use mathlib.Core.Path.{◌≡◌, sym, ap, ap₂, subst, ◌∙◌}
use Prim.Native.Nat.{ℕ, ◌≤◌}
use native.Mathlib.Omega.{arith}
use lib.ListN.{length}
use mir.Syntax.{w32}
use Rattle.std.specs.Prelude.{Option, ℤ}
use Rattle.std.proofs.lemmas.Result.{err_from_is_err_and}
use Rattle.refusals.specs.Numbers.{most_records}
use Rattle.refusals.specs.Outcome.{Ok, no_fault}
use Rattle.whole.specs.laws.Whole.{told}
use Rattle.records.specs.Records.{record_at}
use Rattle.records.specs.Faults.{faults}
use Rattle.records.specs.Walk.{Ready}
use Rattle.records.specs.laws.Walk.{ready, records_length}
use Rattle.transcript.specs.Heads.{start_of, end_of}
use Rattle.judging.specs.Input.{Input, input_of}
use Rattle.reading.specs.Reading.{exons_of}
use Rattle.judging.specs.Judging.{half_fault, last_fault, judge_exons, judge_on, told_of}
use Rattle.reading.specs.Tallies.{BoundedTally}
use Rattle.judging.specs.laws.Chain.{FirstIs, too_many, faulty, half_given, to_exons, first_is, unread_refused, last_refused, last_passed}
use Rattle.judging.proofs.judge_on.Goals as goal
use Rattle.judging.proofs.judge_on.Goals.{Start, In_ok-records_fault, After-half_fault, In_ok-half_fault, After-last_fault}

abbrev input : Start → Input
input c = input_of c.args.numbers c.args.s.now

many : (c : Start) → length (input c).records ≡ c.args.numbers.count
many c = records_length c.args.numbers.count c.args.s.now 0

pub returns-then-count-gt-MOST_RECORDS : goal.returns-then-count-gt-MOST_RECORDS
returns-then-count-gt-MOST_RECORDS c =
    let s = (goal.at.returns-then-count-gt-MOST_RECORDS c).Start in
    (sym (ap told_of (too_many c.args.forward (input s) (omega (arith, many s)))), tt)

pub returns-in_err-records_fault : goal.returns-in_err-records_fault
returns-in_err-records_fault c =
    let s = (goal.at.returns-in_err-records_fault c).Start in
    let few : length (input s).records ≤ most_records = omega (arith, many s) in
    let p = err_from_is_err_and c.from_residual.result c.from_residual.ensures.1 in
    rw (p.1, p.2) (sym (ap told_of (faulty c.args.forward (input s) few (sym c.records_fault.ensures ∙ c.in_err-records_fault.was))), tt)

-- past 4, 5 and 6, with the bounds
module _ (c : After-half_fault) where
  abbrev here : Input
  here = input_of c.args.numbers c.args.s.now

  start_is : c.start_of-start.result ≡ here.start
  start_is = let n = c.args.numbers in c.start_of-start.ensures ∙ ap (start_of n.cds) (told w32 n.start c.struct_told-1.given.1.1.0.1)

  end_is : c.end_of-end.result ≡ here.end
  end_is = let n = c.args.numbers in c.end_of-end.ensures ∙ ap (end_of n.cds) (told w32 n.end c.struct_told-2-1.given.1.1.1.0.1)

  half_is : c.half_fault.result ≡ half_fault here.start here.end
  half_is = c.half_fault.ensures ∙ ap₂ half_fault start_is end_is

  few : length here.records ≤ most_records
  few = let m = records_length c.args.numbers.count c.args.s.now 0 in omega (arith, m)

  sound : faults c.args.forward here.records ≡ no_fault
  sound = sym c.records_fault.ensures ∙ c.in_ok-records_fault.was

pub returns-in_err-half_fault : goal.returns-in_err-half_fault
returns-in_err-half_fault c =
    let k = (goal.at.returns-in_err-half_fault c).After-half_fault in
    let p = err_from_is_err_and c.from_residual-in_err-half_fault.result c.from_residual-in_err-half_fault.ensures.1 in
    rw (p.1, p.2) (sym (ap told_of (half_given c.args.forward (here k) (few k) (sound k) (sym (half_is k) ∙ c.in_err-half_fault.was))), tt)

-- past 11, all rests on the CIGARs
module _ (c : In_ok-half_fault) where
  passed : Ready c.args.numbers.count c.args.s.now
  passed = ready c.args.forward _ _ c.requires.0 c.requires.1 (sym c.records_fault.ensures ∙ c.in_ok-records_fault.was)

module _ (k : After-half_fault) (q : k.half_fault.result ≡ Ok tt) where
  reached : judge_on k.args.forward (here k) ≡ judge_exons k.args.forward (here k) (exons_of (here k).records)
  reached = to_exons k.args.forward (here k) (few k) (sound k) (sym (half_is k) ∙ q)

pub tally_all-requires : goal.tally_all-requires
tally_all-requires c = passed (goal.at.tally_all-requires c).In_ok-half_fault

pub returns-in_err-sums : goal.returns-in_err-sums
returns-in_err-sums c =
    let k = (goal.at.returns-in_err-sums c).After-half_fault in
    let p = err_from_is_err_and c.from_residual-in_err-sums.result c.from_residual-in_err-sums.ensures.1 in
    let unread = unread_refused c.args.forward (here k) (exons_of (here k).records) (sym c.in_err-sums.was ∙ c.tally_all.ensures.0) in
    rw (p.1, p.2) (sym (ap told_of (reached k c.in_ok-half_fault.was ∙ unread)), tt)

pub bound-first-requires : goal.bound-first-requires
unfolding record_at
bound-first-requires c =
    let r = passed (goal.at.bound-first-requires c).In_ok-half_fault in
    record { at_in_bounds = omega (arith, r.stands.numbers); pos_value = r.start_whole }

pub last_fault-requires : goal.last_fault-requires
last_fault-requires c = subst BoundedTally c.in_ok-sums.was c.tally_all.ensures.1

-- what was tallied, and what the last tests said of it
module _ (c : After-last_fault) where
  abbrev given : Input
  given = input_of c.args.numbers c.args.s.now

  starts : FirstIs c.bound-first.result (exons_of given.records)
  unfolding record_at
  starts = subst (λ (i : ℕ). FirstIs i (exons_of given.records)) (sym c.bound-first.ensures) (first_is c.args.numbers.count c.args.s.now 0 c.requires.0)

  last_is : c.start_of-start.result ≡ given.start → c.end_of-end.result ≡ given.end
      → let sums = c.in_ok-sums.sums in c.last_fault.result ≡ last_fault given.start given.end sums.count c.bound-first.result sums.genome sums.transcript
  last_is from to =
      let sums = c.in_ok-sums.sums in
      c.last_fault.ensures ∙ ap₂ (λ (a b : Option ℤ). last_fault a b sums.count c.bound-first.result sums.genome sums.transcript) from to

pub returns-in_err-last_fault : goal.returns-in_err-last_fault
returns-in_err-last_fault c =
    let k = (goal.at.returns-in_err-last_fault c).After-half_fault in
    let l = (goal.at.returns-in_err-last_fault c).After-last_fault in
    let p = err_from_is_err_and c.from_residual-in_err-last_fault.result c.from_residual-in_err-last_fault.ensures.1 in
    let told_sums = sym c.in_ok-sums.was ∙ c.tally_all.ensures.0 in
    let last = last_refused c.args.forward (here k) c.in_ok-sums.sums c.bound-first.result (last_is l (start_is k) (end_is k)) (exons_of (here k).records) (starts l) told_sums c.in_err-last_fault.was in
    rw (p.1, p.2) (sym (ap told_of (reached k c.in_ok-half_fault.was ∙ last)), tt)

pub returns : goal.returns
returns c =
    let k = (goal.at.returns c).After-half_fault in
    let l = (goal.at.returns c).After-last_fault in
    let e = c.tally_all.ensures in
    let q = c.in_ok-sums.was in
    let last = last_passed c.args.forward (here k) c.in_ok-sums.sums c.bound-first.result (last_is l (start_is k) (end_is k)) (exons_of (here k).records) (starts l) (sym q ∙ e.0) c.in_ok-last_fault.was in
    (sym (ap told_of (reached k c.in_ok-half_fault.was) ∙ last), subst BoundedTally q e.1)
