-- `filling::finish` meets its contract: small totals are kept by `narrow` and stored behind the last segment, and the rest is filled with zeros (`filled`), as `tables_finished` has it. Assumes nothing.
use mathlib.Core.Path.{◌≡◌, ◌∙◌}
use Prim.Native.Nat.{◌+◌, ◌≤◌}
use native.Mathlib.Omega.{arith}
use lib.ListN.{length, set, length-set}
use Rattle.refusals.specs.Numbers.{most_segments, most_starts}
use Rattle.filling.proofs.Fills.{tables_eq}
use Rattle.filling.proofs.Runs.{filled}
use Rattle.filling.proofs.finish.Goals as goal

pub returns : goal.returns
returns c =
    let a = c.args in
    let n = a.to.count in
    let g = c.narrow-on_genome in
    let t = c.narrow-on_transcript in
    let long_g : length (set a.genome.now n a.to.genome) ≡ most_starts = length-set a.genome.now n a.to.genome ∙ c.requires.0.genome_long in
    let long_t : length (set a.transcript.now n a.to.transcript) ≡ most_starts = length-set a.transcript.now n a.to.transcript ∙ c.requires.0.transcript_long in
    let few : n ≤ most_segments = c.requires.1.few in
    rw (g.ensures, t.ensures, long_g, long_t, c.requires.0.letters_long)
    (tables_eq
    (filled (set a.genome.now n a.to.genome) c.fill.new.self (n + 1) most_starts 0 (omega arith) (omega arith) (rw (g.ensures, long_g) at c.fill.ensures.after (λ y h. h)))
    (filled (set a.transcript.now n a.to.transcript) c.fill-2.new.self (n + 1) most_starts 0 (omega arith) (omega arith) (rw (t.ensures, long_t) at c.fill-2.ensures.after (λ y h. h)))
    (filled a.letters.now c.fill-3.new.self n most_segments 0 (omega arith) (omega arith) (rw c.requires.0.letters_long at c.fill-3.ensures.after (λ y h. h))))
