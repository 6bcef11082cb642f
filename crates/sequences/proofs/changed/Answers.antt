-- The bounds that `changed_part` gives lie inside the allele that it names, so that they can be cut out of it, and the definition names the same allele and bounds.
-- Assumes nothing.
use mathlib.Core.Path.{◌≡◌, ◌∙◌}
use native.Mathlib.Omega.{arith}
use Rattle.sequences.specs.Alleles.{changed_part}
use Rattle.sequences.specs.Slices.{slice_of, part_of}
use Rattle.sequences.specs.laws.Remaining.{Inside, inside}
use Rattle.sequences.proofs.changed.Goals as goal
use Rattle.sequences.proofs.changed.Goals.{After-changed_part-part}

-- of what `changed_part` gave
within : (c : After-changed_part-part) → let a = c.args in Inside c.changed_part-part.result a.reference.now a.alternative.now
within c = rw c.changed_part-part.ensures (inside _ _ _)

named : (c : After-changed_part-part) → let a = c.args in part_of c.changed_part-part.result (slice_of a.reference) (slice_of a.alternative) ≡ part_of (changed_part a.reference.now a.alternative.now) (slice_of a.reference) (slice_of a.alternative)
named c = rw c.changed_part-part.ensures

pub cut-requires : goal.cut-requires
cut-requires c = omega (arith, within (goal.at.cut-requires c).After-changed_part-part, rw c.if-part.true at (within (goal.at.cut-requires c).After-changed_part-part).ends)

pub cut-requires-else-part : goal.cut-requires-else-part
cut-requires-else-part c = omega (arith, within (goal.at.cut-requires-else-part c).After-changed_part-part, rw c.if-part.false at (within (goal.at.cut-requires-else-part c).After-changed_part-part).ends)

pub returns-then-part : goal.returns-then-part
returns-then-part c = c.cut.ensures ∙ rw c.if-part.true at (named (goal.at.returns-then-part c).After-changed_part-part)

pub returns-else-part : goal.returns-else-part
returns-else-part c = c.cut-else-part.ensures ∙ rw c.if-part.false at (named (goal.at.returns-else-part c).After-changed_part-part)
