-- Each turn stores one letter more, and in the end all of them stand at the front. Assumes nothing.
use Rattle.std.specs.Prelude.{◌≡◌, ℕ, ◌+◌, ◌<◌, List, ◌++◌, length, get_or, drop}
use Rattle.std.proofs.Common.{sym, ap, ◌∙◌, arith, add-one, zero-add}
use lib.ListN.{set}
use lib.Seq.{take_all, paste, paste-zero, paste-suc}
use Rattle.strands.proofs.turn.put_plain.Goals as goal

-- one letter more is stored
more : (d s : List ℕ) (n : ℕ) → n < length d → n < length s → set (paste d 0 s n) n (get_or s n 0) ≡ paste d 0 s (n + 1)
more d s n hd hs = rw (add-one n) (ap (λ (k : ℕ). set (paste d 0 s n) k (get_or s n 0)) (sym (zero-add n)) ∙ paste-suc d 0 s n 0 (omega arith) hs)

all : (d s : List ℕ) (n : ℕ) → n ≡ length s → paste d 0 s n ≡ s ++ drop (length s) d
all d s n h = rw (take_all n s (omega arith), zero-add n, h)

pub loop-i-init : goal.loop-i-init
loop-i-init c = paste-zero c.args.buffer.now 0 c.args.allele.now

pub loop-i-preserved : goal.loop-i-preserved
loop-i-preserved c =
    let a = c.args in
    let l = c.loop-i in
    rw l.invariant (more a.buffer.now a.allele.now l.i (omega arith) c.loop-i-test.true)

pub returns : goal.returns
returns c = c.loop-i.invariant ∙ all c.args.buffer.now c.args.allele.now c.loop-i.i (omega arith)
