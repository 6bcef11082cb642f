-- What one n. position is in c., numbered once. Assumes nothing.
use Prim.Native.Nat.{ℕ}
use mathlib.Core.Bool.{Bool, true}
use mathlib.Core.Path.{◌≡◌, refl, ap, ◌∙◌}
use Rattle.refusals.specs.Outcome.{Outcome, Ok, Err, and_then, through}
use Rattle.refusals.specs.declared.Refusal.TheVariants.{NotCoding}
use Rattle.transcript.specs.Transcript.{Cds, no_cds, cds}
use Rattle.positions.specs.Positions.{between, NPosition, asks_n}
use Rattle.positions.specs.Answers.{certain, ends, after, chain}
use Rattle.positions.specs.laws.Ends.{ends_after}
use Rattle.coding.specs.Coding.{c_of_interval, one_to_c, map_n_to_c}
use Rattle.coding.specs.laws.Once.{one_to_c_lem}
use Rattle.surely.specs.Surely.{one_coded}

-- 13 after the first step, where there is no CDS
uncoded : (strict : Bool) (len exon : ℕ) (n : NPosition) → through (after (certain (between exon exon))) (map_n_to_c strict len no_cds (between (asks_n n) (asks_n n))) ≡ Err NotCoding
unfolding map_n_to_c c_of_interval
uncoded strict len exon n = refl

-- an n. position that is both ends, or why there is none, numbered once in c.
pub c_once : (strict : Bool) (len : ℕ) (coding : Cds) (exon : ℕ) (n : Outcome NPosition)
    → chain asks_n (ends (certain (between exon exon)) n n) (map_n_to_c strict len coding)
    ≡ ends (certain (between exon exon)) (and_then n (one_coded strict len coding)) (and_then n (one_coded strict len coding))
c_once strict len coding exon (Err k) = refl
c_once strict len no_cds exon (Ok n) = uncoded strict len exon n
c_once strict len (cds from to) exon (Ok n) =
    let end = one_to_c strict len from to (asks_n n) in
    ap (through (after (certain (between exon exon)))) (one_to_c_lem strict len from to (asks_n n)) ∙ ends_after true (between exon exon) end end
