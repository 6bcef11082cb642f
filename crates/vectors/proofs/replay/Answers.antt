-- Each row is one more of the file; one that is cut off, or the end, leaves the counts of all.
use Rattle.std.proofs.Common.{◌≡◌, ℕ, ◌-◌, List, length, take, drop, sym, ap, ◌∙◌, arith, length-drop, take_all}
use Rattle.vectors.specs.Tally.{counted}
use Rattle.vectors.proofs.Replaying.{begun, one_more, cut_off, ended}
use Rattle.vectors.proofs.replay.Goals as goal

-- the bytes from a place on
rest : (file : List ℕ) (at : ℕ) → take (length file - at) (drop at file) ≡ drop at file
rest file at = take_all (length file - at) (drop at file) (omega (arith, length-drop at file))

pub loop-at-init : goal.loop-at-init
loop-at-init g c = begun c.args.file.now

pub returns-then-size-eq0 : goal.returns-then-size-eq0
returns-then-size-eq0 g c = cut_off c.loop-at.invariant (sym (simp (rest c.args.file.now c.loop-at.at) at c.row_size-size.ensures.value) ∙ c.if-size-eq0.true)

pub loop-at-preserved : goal.loop-at-preserved
loop-at-preserved g c =
    let file = c.args.file.now in
    let l = c.loop-at in
    let s = c.row_size-size in
    let all = rest file l.at in
    let row = c.first-row in
    let e = c.agrees-agrees.ensures in
    one_more l.invariant s.result (simp all at s.ensures.value) c.if-size-eq0.false (simp (all, length-drop) at s.ensures.within)
    row.result.now (simp all at row.ensures) e.head_after e.letters_after e.exons_after (c.count.ensures ∙ ap (counted l.tally row.result.now) e.value)

pub returns : goal.returns
returns g c = ended c.loop-at.invariant c.loop-at-test.false
