-- `words::put_words` meets its contract. The loop keeps that the words, once what is left is stored to them, are the words that are promised. Assumes nothing.
use Rattle.std.proofs.Common.{◌≡◌, ℕ, ◌+◌, ◌-◌, ℤ, pos, nat_abs, get_or, w32, refl, sym, ap, ◌∙◌, add-one, arith}
use Rattle.std.proofs.lemmas.List.Edits.{sets}
use Rattle.whole.specs.laws.Whole.{told}
use Rattle.refusals.specs.Outcome.{no_fault}
use Rattle.cigar.specs.Text.{element}
use Rattle.words.specs.Words.{word_of, fault_of, fault_from}
use Rattle.words.proofs.Words.{fault_left, words_more, words_none}
use Rattle.words.proofs.put_words.Goals as goal
use Rattle.words.proofs.put_words.Goals.{In-loop-i}

-- the element at the place
module _ (c : In-loop-i) where
  abbrev count : ℤ
  count = get_or c.args.counts.now c.loop-i.i (pos 0)

  abbrev letter : ℕ
  letter = get_or c.args.letters.now c.loop-i.i 0

  here : (fault_of count letter ≡ no_fault) × (fault_from c.args.counts.now c.args.letters.now (c.loop-i.i + 1) (c.args.number - (c.loop-i.i + 1)) ≡ no_fault)
  here = fault_left c.args.counts.now c.args.letters.now c.args.number c.loop-i.i c.loop-i-test.true c.loop-i.invariant.1

pub loop-i-init : goal.loop-i-init
loop-i-init c =
    let all : c.args.number - 0 ≡ c.args.number = omega arith in
    rw all (omega arith, c.requires.number_value, refl)

pub word_of-requires : goal.word_of-requires
word_of-requires c = let n = (goal.at.word_of-requires c).In-loop-i in rw (told w32 (count n) c.word_of-arg-1.given) (here n).0

pub loop-i-preserved : goal.loop-i-preserved
loop-i-preserved c =
    let n = (goal.at.loop-i-preserved c).In-loop-i in
    let l = c.loop-i in
    let a = c.args in
    let word : c.word_of.result ≡ word_of (element (nat_abs (count n)) (letter n)) =
    c.word_of.ensures ∙ ap (λ (z : ℤ). word_of (element (nat_abs z) (letter n))) (told w32 (count n) c.word_of-arg-1.given) in (
      omega arith,
      (here n).1,
      rw (word, add-one l.i) (rw (words_more a.counts.now a.letters.now a.number l.i c.loop-i-test.true, add-one l.i) at l.invariant.2),
    )

pub returns : goal.returns
returns c =
    let a = c.args in
    let l = c.loop-i in
    sym (ap (sets l.words l.i) (words_none a.counts.now a.letters.now a.number l.i c.loop-i-test.false)) ∙ l.invariant.2
