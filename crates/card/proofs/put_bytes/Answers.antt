-- Each turn stores one byte more, and in the end the part is the bytes. Assumes nothing.
use Rattle.std.specs.Prelude.{◌≡◌, ℕ, ◌+◌, ◌≤◌, List, length}
use Rattle.std.proofs.Common.{sym, ◌∙◌, arith, add-one}
use lib.Seq.{sets, sets-eq, paste, paste-zero, paste-suc, take_all}
use Rattle.card.proofs.put_bytes.Goals as goal

all : (d s : List ℕ) (at n : ℕ) → n ≡ length s → at + length s ≤ length d → paste d at s n ≡ sets d at s
all d s at n h room = rw (take_all n s (omega arith), h) (sym (sets-eq s d at room))

pub loop-i-init : goal.loop-i-init
loop-i-init c = paste-zero c.args.buffer.now c.args.at c.args.bytes.now

pub loop-i-preserved : goal.loop-i-preserved
loop-i-preserved c =
    let a = c.args in
    let l = c.loop-i in
    rw (l.invariant, add-one l.i) (paste-suc a.buffer.now a.at a.bytes.now l.i 0 (omega arith) c.loop-i-test.true)

pub returns : goal.returns
returns c = c.loop-i.invariant ∙ all c.args.buffer.now c.args.bytes.now c.args.at c.loop-i.i (omega arith) c.requires
