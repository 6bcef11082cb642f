-- The test is that of the definition.
use mathlib.Core.Path.{◌∙◌}
use Rattle.whole.specs.laws.Whole.{read}
use borrow.Author.Tests.{lt-ltb, le-ltb}
use Rattle.comparing.specs.Bam.{count_or}
use mir.Syntax.{w32}
use Rattle.comparing.proofs.slices.count_at.Goals as goal

pub returns-then-i-elements : goal.returns-then-i-elements
unfolding count_or
returns-then-i-elements c = rw (lt-ltb _ _ c.if-i-elements.true) (read {w = w32} (record { sfits = c.count_at.type_inv }) ∙ c.count_at.ensures)

pub returns : goal.returns
unfolding count_or
returns c = rw (le-ltb _ _ c.if-i-elements.false)
