-- The callees' contracts put together say how many bytes go at the front and at the back, and the test says which allele is the longer.
-- Assumes nothing.
use mathlib.Core.Path.{◌≡◌, ◌∙◌}
use mathlib.Core.Bool.{Bool, true, false, cond}
use mathlib.Core.List.{List}
use Prim.Native.Nat.{ℕ, ◌-◌}
use native.Mathlib.Omega.{arith}
use lib.Dec.{ltb}
use lib.ListN.{length}
use borrow.Author.Tests.{le-ltb, lt-ltb}
use Rattle.sequences.specs.Alleles.{bytes_before, after, changed_part}
use Rattle.sequences.specs.Slices.{slice_of}
use Rattle.sequences.specs.laws.Parts.{after_rests}
use Rattle.sequences.specs.laws.Remaining.{apart}
use Rattle.sequences.proofs.changed_part.Goals as goal
use Rattle.sequences.proofs.changed_part.Goals.{After-trim_common_suffixes-q}

-- how many bytes go at the back
removed : (c : After-trim_common_suffixes-q) → let a = c.args in c.trim_common_suffixes-q.result ≡ after a.reference.now a.alternative.now
removed c =
    let a = c.args in
    c.trim_common_suffixes-q.ensures
    ∙ after_rests (slice_of a.reference) (slice_of a.alternative) _ _ _
    c.trim_common_prefixes-p.ensures c.rest.ensures c.rest-2.ensures

pub overflow_sub-to : goal.overflow_sub-to
overflow_sub-to c =
    let a = c.args in
    omega (arith, apart a.reference.now a.alternative.now, removed (goal.at.overflow_sub-to c).After-trim_common_suffixes-q)

pub overflow_sub-to-else-alternative-reference : goal.overflow_sub-to-else-alternative-reference
overflow_sub-to-else-alternative-reference c =
    let a = c.args in
    omega (arith, apart a.reference.now a.alternative.now, removed (goal.at.overflow_sub-to-else-alternative-reference c).After-trim_common_suffixes-q)

-- the part by its numbers, once a test has said which allele is the longer
told : (r a : List ℕ) (alternative : Bool) (p q : ℕ) → ltb (length r) (length a) ≡ alternative → p ≡ bytes_before r a → q ≡ after r a → record { alternative = alternative; from = p; to = length (cond alternative a r) - q } ≡ changed_part r a
told r a alternative p q longer front back = rw (longer, front, back)

pub returns-then-alternative-reference : goal.returns-then-alternative-reference
returns-then-alternative-reference c =
    let a = c.args in
    told a.reference.now a.alternative.now false _ _
    (le-ltb (length a.reference.now) (length a.alternative.now) (omega arith)) c.trim_common_prefixes-p.ensures (removed (goal.at.returns-then-alternative-reference c).After-trim_common_suffixes-q)

pub returns-else-alternative-reference : goal.returns-else-alternative-reference
returns-else-alternative-reference c =
    let a = c.args in
    told a.reference.now a.alternative.now true _ _
    (lt-ltb (length a.reference.now) (length a.alternative.now) (omega arith)) c.trim_common_prefixes-p.ensures (removed (goal.at.returns-else-alternative-reference c).After-trim_common_suffixes-q)
