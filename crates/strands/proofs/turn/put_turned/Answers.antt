-- The pairs that the loop is given are those of a number and a letter of the allele from the back. Assumes nothing.
use Rattle.std.specs.Prelude.{◌≡◌, refl, true, ℕ, ◌+◌, ◌<◌, List, ◌++◌, reverse, length, get_or, drop}
use Rattle.std.proofs.Common.{sym, ap, ◌∙◌, arith, add-one, zero-add}
use lib.ListN.{set, length-set}
use lib.Seq.{take_all, paste, paste-zero, paste-suc}
use Rattle.std.specs.List.{enumerate_from}
use Rattle.std.proofs.lemmas.Iterator.Adapters.{YieldsList-from_rev_slice}
use Rattle.std.proofs.lemmas.Iterator.Consumers.{YieldsList-at, YieldsList-from_enumerate, YieldsList-turn, YieldsList-end}
use Rattle.std.proofs.lemmas.List.{length-append, length-reverse, get_or_default}
use Rattle.std.proofs.lemmas.List.FromFn.{length-enumerate_from, get_or-enumerate_from}
use Rattle.strands.specs.Turned.{partner, turned, are_bases}
use Rattle.strands.specs.laws.Turning.{turned_at, turned_length}
use Rattle.strands.proofs.turn.put_turned.Goals as goal

-- one letter more is stored
more : (d s : List ℕ) (n i x : ℕ) → i ≡ n → x ≡ get_or s n 0 → n < length d → n < length s → set (paste d 0 s n) i x ≡ paste d 0 s (n + 1)
more d s n i x ei ex hd hs = rw (ei, ex, add-one n) (ap (λ (k : ℕ). set (paste d 0 s n) k (get_or s n 0)) (sym (zero-add n)) ∙ paste-suc d 0 s n 0 (omega arith) hs)

all : (d s : List ℕ) (n : ℕ) → n ≡ length s → paste d 0 s n ≡ s ++ drop n d
all d s n h = rw (take_all n s (omega arith), zero-add n)

-- the letter of the n-th pair, and its partner
numbered : (a : List ℕ) (n i x : ℕ) → n < length (enumerate_from 0 (reverse a)) → ◌≡◌ {A = ℕ × ℕ} (i, x) (get_or (enumerate_from 0 (reverse a)) n (i, x)) → are_bases a ≡ true → (n < length a) × (i ≡ n) × (partner x ≡ get_or (turned a) n 0)
numbered a n i x h e bases =
    let within : n < length (reverse a) = rw length-enumerate_from at h in
    let pair : ◌≡◌ {A = ℕ × ℕ} (i, x) (0 + n, get_or (reverse a) n x) = e ∙ get_or-enumerate_from 0 (reverse a) n (i, x) within in
    let inside : n < length a = rw length-reverse at within in
    let letter : x ≡ get_or (reverse a) n 0 = ap (λ (p : ℕ × ℕ). p.1) pair ∙ get_or_default (reverse a) n x 0 within in
    (inside, ap (λ (p : ℕ × ℕ). p.0) pair ∙ zero-add n, ap partner letter ∙ sym (turned_at a n bases inside))

pub loop-i-init : goal.loop-i-init
loop-i-init c = record { room = refl; so_far = paste-zero c.args.buffer.now 0 (turned c.args.allele.now) }

pub loop-i-preserved : goal.loop-i-preserved
loop-i-preserved c =
    let a : List ℕ = c.args.allele.now in
    let l = c.loop-i in
    let n : ℕ = length l.yielded in
    let turn =
    YieldsList-turn
    (YieldsList-at c.into_iter-i-iterator.ensures.into_iter_gives
    (YieldsList-from_enumerate (YieldsList-at c.enumerate-i-items.ensures.source (YieldsList-from_rev_slice a (cc))) c.enumerate-i-items.ensures.count))
    l.yielded l.i-iterator l.yielded_by _ _ (c.in-Some.i, c.in-Some.letter) c.in-Some.is c.next.ensures.steps
    in
    let here = numbered a n c.in-Some.i c.in-Some.letter.now turn.0 turn.1 c.requires.0 in
    let long : length (turned a) ≡ length a = turned_length a in
    record {
      room = length-set l.buffer _ _ ∙ l.invariant.room;
      so_far =
          rw (length-append, l.invariant.so_far)
          (more c.args.buffer.now (turned a) n c.in-Some.i c.partner.result here.1 (c.partner.ensures ∙ here.2) (omega arith) (omega arith));
    }

pub returns : goal.returns
returns c =
    let a : List ℕ = c.args.allele.now in
    let l = c.loop-i in
    let ends =
    YieldsList-end
    (YieldsList-at c.into_iter-i-iterator.ensures.into_iter_gives
    (YieldsList-from_enumerate (YieldsList-at c.enumerate-i-items.ensures.source (YieldsList-from_rev_slice a (cc))) c.enumerate-i-items.ensures.count))
    l.yielded l.i-iterator l.yielded_by _ _ c.in-None.is c.next.ensures.steps
    in
    let n : length l.yielded ≡ length a = ends.1 ∙ length-enumerate_from 0 (reverse a) ∙ length-reverse a in
    l.invariant.so_far
    ∙ all c.args.buffer.now (turned a) (length l.yielded) (n ∙ sym (turned_length a))
    ∙ ap (λ (k : ℕ). turned a ++ drop k c.args.buffer.now) n
