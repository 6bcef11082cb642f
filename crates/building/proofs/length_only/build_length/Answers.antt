-- `building::length_only::build_length` meets its contract: each return is a law of `Lengths`; a length that passed 4 and 9 is not negative and small (`length_pass`), so that 12 can be asked. Assumes nothing.
use mathlib.Core.Path.{◌≡◌, sym, ap, ◌∙◌}
use Prim.Native.Nat.{ℕ, ◌≤◌}
use lib.IntN.{ℤ, pos, nat_abs}
use Rattle.std.specs.Prelude.{Option}
use Rattle.std.proofs.lemmas.Result.{err_from_is_err_and}
use Rattle.refusals.specs.Numbers.{most_bases}
use Rattle.refusals.specs.Outcome.{Ok, no_fault}
use Rattle.whole.specs.laws.Whole.{read, widened}
use Rattle.transcript.specs.Heads.{start_of, end_of}
use Rattle.judging.specs.Judging.{half_fault, cds_fault, length_fault}
use Rattle.building.specs.Afterwards.{length_answer}
use Rattle.judging.specs.laws.Accepted.{length_pass, measured_means}
use Rattle.building.proofs.Lengths.{bits_unknown, length_refused, half_refused, cds_refused, length_accepted}
use Rattle.building.proofs.Passed.{length_head_is}
use Rattle.building.proofs.length_only.build_length.Goals as goal
use Rattle.building.proofs.length_only.build_length.Goals.{After-length_fault, After-half_fault, After-cds_fault}

pub returns-then-cds-gt-BOTH_BITS : goal.returns-then-cds-gt-BOTH_BITS
returns-then-cds-gt-BOTH_BITS c = let a = c.args in sym (ap length_answer (bits_unknown a.length a.cds a.start a.end c.if-cds-gt-BOTH_BITS.true))

-- what 4 and 9 said of the length
of_length : (c : After-length_fault) → c.length_fault.result ≡ length_fault c.args.length
of_length c = rw (c.from.ensures, widened c.ranges.length) at c.length_fault.ensures

pub returns-in_err-length_fault : goal.returns-in_err-length_fault
returns-in_err-length_fault c =
    let a = c.args in
    let p = err_from_is_err_and c.from_residual.result c.from_residual.ensures.1 in
    rw (p.1, p.2) (sym (ap length_answer (length_refused a.length a.cds a.start a.end c.if-cds-gt-BOTH_BITS.false (sym (of_length (goal.at.returns-in_err-length_fault c).After-length_fault) ∙ c.in_err-length_fault.was))))

-- what 11 said of the bounds, past 4 and 9
module _ (c : After-half_fault) where
  long : length_fault c.args.length ≡ no_fault
  long = sym (rw (c.from.ensures, widened c.ranges.length) at c.length_fault.ensures) ∙ c.in_ok-length_fault.was

  whole : (c.args.length ≡ pos (nat_abs c.args.length)) × (nat_abs c.args.length ≤ most_bases)
  whole = length_pass c.args.length long

  of_bounds : c.half_fault.result ≡ half_fault (start_of c.args.cds c.args.start) (end_of c.args.cds c.args.end)
  of_bounds = rw (c.start_of-from.ensures, c.end_of-to.ensures, read c.ranges.start, read c.ranges.end) at c.half_fault.ensures

pub returns-in_err-half_fault : goal.returns-in_err-half_fault
returns-in_err-half_fault c =
    let k = (goal.at.returns-in_err-half_fault c).After-half_fault in
    let a = c.args in
    let p = err_from_is_err_and c.from_residual-in_err-half_fault.result c.from_residual-in_err-half_fault.ensures.1 in
    rw (p.1, p.2) (sym (ap length_answer (half_refused a.length a.cds a.start a.end c.if-cds-gt-BOTH_BITS.false (long k) (sym (of_bounds k) ∙ c.in_err-half_fault.was))))

pub bases_of-requires : goal.bases_of-requires
bases_of-requires c = rw (read c.ranges.length) (whole (goal.at.bases_of-requires c).After-half_fault).0

pub cds_fault-requires : goal.cds_fault-requires
cds_fault-requires c = rw (rw (read c.ranges.length) at c.bases_of.ensures) (whole (goal.at.cds_fault-requires c).After-half_fault).1

-- what 12 said of them
same_fault : {s s' e e' : Option ℤ} {n n' : ℕ} → s ≡ s' → e ≡ e' → n ≡ n' → cds_fault s e n ≡ cds_fault s' e' n'
same_fault p q r = rw (p, q, r)

of_range : (c : After-cds_fault) → let a = c.args in c.cds_fault.result ≡ cds_fault (start_of a.cds a.start) (end_of a.cds a.end) (nat_abs a.length)
of_range c =
    let f = c.ranges in
    c.cds_fault.ensures
    ∙ same_fault
    (rw (read f.start) at c.start_of-from.ensures)
    (rw (read f.end) at c.end_of-to.ensures)
    (rw (read f.length) at c.bases_of.ensures)

pub returns-in_err-cds_fault : goal.returns-in_err-cds_fault
returns-in_err-cds_fault c =
    let k = (goal.at.returns-in_err-cds_fault c).After-half_fault in
    let a = c.args in
    let p = err_from_is_err_and c.from_residual-in_err-cds_fault.result c.from_residual-in_err-cds_fault.ensures.1 in
    let half = sym (of_bounds k) ∙ c.in_ok-half_fault.was in
    let range = sym (of_range (goal.at.returns-in_err-cds_fault c).After-cds_fault) ∙ c.in_err-cds_fault.was in
    rw (p.1, p.2) (sym (ap length_answer (cds_refused a.length a.cds a.start a.end c.if-cds-gt-BOTH_BITS.false (long k) half range)))

pub returns : goal.returns
returns c =
    let k = (goal.at.returns c).After-half_fault in
    let a = c.args in
    let f = c.ranges in
    let half = sym (of_bounds k) ∙ c.in_ok-half_fault.was in
    let range = sym (of_range (goal.at.returns c).After-cds_fault) ∙ c.in_ok-cds_fault.was in
    let judged = length_accepted a.length a.cds a.start a.end c.if-cds-gt-BOTH_BITS.false (long k) half range in
    let head = rw (read f.length, read f.start, read f.end) at c.with_cds.ensures in
    let is = length_head_is a.length a.cds a.start a.end _ (measured_means a.length a.cds a.start a.end _ judged) in
    ap Ok (head ∙ is) ∙ sym (ap length_answer judged)
