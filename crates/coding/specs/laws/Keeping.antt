-- A strict answer of n. to c. or of c. to n. is also the lenient answer: 15 and 16 alone are strict mode's. Assumes nothing.
use Rattle.std.specs.Prelude.{ℕ, true, false, pos}
use Rattle.refusals.specs.declared.Refusal.TheVariants.{NOutside, COutside}
use Rattle.refusals.specs.Refusing.{Kept}
use Rattle.refusals.specs.laws.Keeping.{kept_same}
use Rattle.numbering.specs.Numbers.{n_of_c}
use Rattle.positions.specs.Positions.{Interval, NAsked, CAsked}
use Rattle.positions.specs.Answers.{unmarked, c_fits}
use Rattle.positions.specs.laws.Keeping.{kept_unless, kept_fitting, kept_ends}
use Rattle.transcript.specs.Transcript.{Cds, no_cds, cds}
use Rattle.coding.specs.Coding.{beyond, refuses15, c_of_interval, map_n_to_c, n_position, map_c_to_n}

pub n_to_c_kept : (len : ℕ) (c : Cds) (i : Interval NAsked) → Kept (map_n_to_c true len c i) (map_n_to_c false len c i)
unfolding map_n_to_c c_of_interval beyond
n_to_c_kept len no_cds i = kept_same _
n_to_c_kept len (cds s e) i = kept_fitting c_fits (c_of_interval true len (cds s e) i) (c_of_interval false len (cds s e) i) (kept_unless (refuses15 true len i) NOutside (c_of_interval false len (cds s e) i))

n_position_kept : (len s e : ℕ) (a : CAsked) → Kept (n_position true len s e a) (n_position false len s e a)
unfolding n_position beyond
n_position_kept len s e a = kept_unless (beyond true len (n_of_c (pos s) (pos e) a.base)) COutside (n_position false len s e a)

pub c_to_n_kept : (len : ℕ) (c : Cds) (i : Interval CAsked) → Kept (map_c_to_n true len c i) (map_c_to_n false len c i)
unfolding map_c_to_n
c_to_n_kept len no_cds i = kept_same _
c_to_n_kept len (cds s e) i = kept_ends unmarked _ _ _ _ (n_position_kept len s e i.from) (n_position_kept len s e i.to)
