-- `words::fault_of` meets its contract: the tests that led to each `return` say which case of `fault_of` holds. Assumes nothing.
use Rattle.std.proofs.Common.{◌≡◌, true, false, pos, sym, ◌∙◌}
use Rattle.std.specs.Int.Signed.{lt_z}
use Rattle.whole.specs.laws.Whole.{read}
use Rattle.refusals.specs.Numbers.{most_word_count}
use Rattle.cigar.specs.Elements.{is_letter}
use Rattle.words.specs.Words.{fault_of}
use Rattle.words.specs.laws.RoundTrips.{fault_letter}
use Rattle.words.proofs.fault_of.Goals as goal
use Rattle.words.proofs.fault_of.Goals.{then-count-lt0-via-then-count-lt0, then-count-lt0-via-else-count-lt0+then-count-gt-MOST_WORD_COUNT}

pub returns-then-not-is_letter : goal.returns-then-not-is_letter
returns-then-not-is_letter c =
    let a = c.args in
    sym (fault_letter a.count a.letter (sym c.is_letter.ensures ∙ c.if-not-is_letter.true))

pub returns-then-count-lt0 : goal.returns-then-count-lt0
unfolding fault_of
returns-then-count-lt0 c =
    let l : is_letter c.args.letter ≡ true = sym c.is_letter.ensures ∙ c.if-not-is_letter.false in
    elim c.then-count-lt0.branch [
      | then-count-lt0-via-then-count-lt0 w ↦
          let b : lt_z c.args.count (pos 0) ≡ true = rw (read c.ranges.count) at w.if-count-lt0.true in
          rw (l, b)
      | then-count-lt0-via-else-count-lt0+then-count-gt-MOST_WORD_COUNT w ↦
          let b : lt_z c.args.count (pos 0) ≡ false = rw (read c.ranges.count) at w.if-count-lt0.false in
          let m : lt_z (pos most_word_count) c.args.count ≡ true = rw (read c.ranges.count) at w.if-count-gt-MOST_WORD_COUNT.true in
          rw (l, b, m)
    ]

pub returns : goal.returns
unfolding fault_of
returns c =
    let l : is_letter c.args.letter ≡ true = sym c.is_letter.ensures ∙ c.if-not-is_letter.false in
    let b : lt_z c.args.count (pos 0) ≡ false = rw (read c.ranges.count) at c.if-count-lt0.false in
    let m : lt_z (pos most_word_count) c.args.count ≡ false = rw (read c.ranges.count) at c.if-count-gt-MOST_WORD_COUNT.false in
    rw (l, b, m)
