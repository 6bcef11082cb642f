-- What the boundary's questions tell of what is lent: an answer's numbers, as include/txc.h has them, and what a worklist's slots then hold. Assumes nothing.
use Rattle.std.specs.Prelude.{ℕ, Bool, List, ℤ}
use Rattle.refusals.specs.Outcome.{Outcome}
use Rattle.holding.specs.Holding.{Lent, checked}
use Rattle.mapper.specs.Asking.{ask_g_to_n, ask_n_to_g, ask_n_to_c, ask_c_to_n, ask_g_to_c, ask_c_to_g, ask_coding, ask_in_bounds}
use Rattle.taking.specs.Taking.{g_asked, n_asked, c_asked}
use Rattle.layout.specs.Layout.{g_laid, n_laid, c_laid, laid, said_laid}
use Rattle.layout.specs.declared.lay.Answer.{Answer}
use Rattle.layout.specs.declared.lay.Said.{Said}
use Rattle.alleles.specs.Joining.{Alleles, Rooms, Joining, joined}
use Rattle.worklist.specs.Worklist.{listed, steps_laid, slots_after}
use Rattle.worklist.specs.declared.Slot.{Slot}
use Rattle.worklist.specs.declared.Steps.{Steps}

module _ (x : Lent) where
  abbrev pub told_g_to_n : ℤ → ℤ → ℕ → Bool → Answer
  told_g_to_n start end missing strict = laid n_laid (checked x (ask_g_to_n strict (g_asked start end missing)))

  abbrev pub told_g_to_c : ℤ → ℤ → ℕ → Bool → Answer
  told_g_to_c start end missing strict = laid c_laid (checked x (ask_g_to_c strict (g_asked start end missing)))

  abbrev pub told_n_to_g : ℤ → ℤ → ℤ → ℤ → Bool → Answer
  told_n_to_g start start_offset end end_offset strict = laid g_laid (checked x (ask_n_to_g strict (n_asked start start_offset end end_offset)))

  abbrev pub told_n_to_c : ℤ → ℤ → ℤ → ℤ → Bool → Answer
  told_n_to_c start start_offset end end_offset strict = laid c_laid (checked x (ask_n_to_c strict (n_asked start start_offset end end_offset)))

  abbrev pub told_c_to_n : ℤ → ℤ → Bool → ℤ → ℤ → Bool → Bool → Answer
  told_c_to_n start start_offset start_star end end_offset end_star strict = laid n_laid (checked x (ask_c_to_n strict (c_asked start start_offset start_star end end_offset end_star)))

  abbrev pub told_c_to_g : ℤ → ℤ → Bool → ℤ → ℤ → Bool → Bool → Answer
  told_c_to_g start start_offset start_star end end_offset end_star strict = laid g_laid (checked x (ask_c_to_g strict (c_asked start start_offset start_star end end_offset end_star)))

  abbrev pub told_in_bounds : ℤ → ℤ → ℕ → Said
  told_in_bounds start end missing = said_laid (checked x (ask_in_bounds (g_asked start end missing)))

  abbrev pub told_coding : Said
  told_coding = said_laid (checked x ask_coding)

  -- the join of a g. interval with two alleles, for two buffers
  abbrev pub told_joined : ℤ → ℤ → ℕ → Bool → Alleles → Rooms → Outcome Joining
  told_joined start end missing strict s room = joined x strict (g_asked start end missing) s room

  -- what a worklist tells, and its slots afterwards
  abbrev pub told_steps : List Slot → Steps
  told_steps slots = steps_laid (listed x slots)

  abbrev pub told_slots : List Slot → List Slot
  told_slots slots = slots_after x slots
