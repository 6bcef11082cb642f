-- `reading::gap_at` meets its contract: `bound` gives the start and the previous end, and records that stand `Beside` each other do not overlap (`beside_order`), so that no difference wraps. Assumes nothing.
use mathlib.Core.Path.{ap₂}
use Prim.Native.Nat.{◌-◌}
use native.Mathlib.Omega.{arith}
use Rattle.records.specs.Records.{record_at}
use Rattle.records.specs.laws.Walk.{beside_order}
use Rattle.reading.proofs.gap_at.Goals as goal

pub bound-start-requires : goal.bound-start-requires
unfolding record_at
bound-start-requires c = record { at_in_bounds = omega arith; pos_value = c.requires.beside.start_whole }

pub bound-end-requires : goal.bound-end-requires
unfolding record_at
bound-end-requires c = record { at_in_bounds = omega arith; pos_value = c.requires.beside.end_whole }

pub overflow_sub-result : goal.overflow_sub-result
unfolding record_at
overflow_sub-result c = rw (c.bound-end.ensures, c.bound-start.ensures) (beside_order c.requires.beside)

pub returns : goal.returns
unfolding record_at
returns c = ap₂ ◌-◌ c.bound-start.ensures c.bound-end.ensures
