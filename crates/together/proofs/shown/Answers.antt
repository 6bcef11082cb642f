-- Common letters are known, and what is seen of them is what is seen of all letters (`common_sames`, `common_withins`). Assumes nothing.
use mathlib.Core.Bool.{true, ◌&&◌}
use mathlib.Core.Path.{◌≡◌, sym, ap₂, ◌∙◌}
use lib.Dec.{leb}
use borrow.Author.Rules.{rules}
use borrow.Author.Tests.{leb-true}
use Rattle.whole.specs.laws.Whole.{both}
use Rattle.segments.specs.Tables.{tables, all_below}
use Rattle.letters.specs.Letters.{common_at}
use Rattle.together.proofs.Deciding.{common_sames, common_withins}
use Rattle.together.proofs.shown.Goals as goal
use Rattle.together.proofs.shown.Goals.{Then-all_common}

-- what it says that all letters are common
commons : (c : Then-all_common) → let a = c.args in
    (leb 8 a.count ≡ true) × (all_below (common_at a.letters.now) a.count ≡ true)
commons c = both _ _ (sym c.all_common.ensures ∙ c.if-all_common.true)

pub common_steps-requires : goal.common_steps-requires
common_steps-requires c = (leb-true 8 _ (commons c).0, search rules)

pub returns-then-all_common : goal.returns-then-all_common
returns-then-all_common c =
    let start = c.args in
    let a = tables start.genome.now start.transcript.now start.letters.now in
    let shows = c.common_steps.ensures in
    let all = (commons (goal.at.returns-then-all_common c).Then-all_common).1 in record { same_value = shows.same_value ∙ common_sames a start.count all; bits_value = λ e k. shows.by_index k ∙ common_withins a start.count all k (sym shows.same_value ∙ e) }

pub returns : goal.returns
returns c =
    let shows = c.steps-seen.ensures in
    record { same_value = ap₂ ◌&&◌ c.all_known-known.ensures shows.same_value; bits_value = λ e k. shows.by_index k }
