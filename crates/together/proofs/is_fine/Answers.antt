-- Short bits are seen at once; of others and of the ends' bits the test is that of `within 31`. Assumes nothing.
use mathlib.Core.Bool.{Bool, true, false, ◌&&◌}
use mathlib.Core.Path.{◌≡◌, refl, ap, ◌∙◌}
use borrow.Author.Tests.{lt-ltb, le-ltb}
use Rattle.stepping.specs.Steps.{within}
use Rattle.together.proofs.is_fine.Goals as goal

and_true : (b : Bool) → b ≡ (b && true)
and_true true = refl
and_true false = refl

pub returns-then-bits-lt-SHORT : goal.returns-then-bits-lt-SHORT
unfolding within
returns-then-bits-lt-SHORT c = rw (lt-ltb c.args.seen.bits 2097152 c.if-bits-lt-SHORT.true) (and_true _)

pub returns : goal.returns
unfolding within
returns c =
    let seen = c.args.seen in
    rw (le-ltb seen.bits 2097152 c.if-bits-lt-SHORT.false)
    (ap (λ (b : Bool). seen.same && b)
    (c.with_bits-all.ensures 31
    ∙ ap (λ (b : Bool). within 31 seen.bits && b) (c.ends_of.ensures 31)))
