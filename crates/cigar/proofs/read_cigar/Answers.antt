-- `cigar::read_cigar` meets its contract: the text is counted first, so that a refusal stores nothing. Assumes nothing.
use mathlib.Core.Path.{refl, sym, ◌∙◌}
use native.Mathlib.Omega.{arith}
use Rattle.std.proofs.lemmas.Result.{err_from_is_err_and}
use Rattle.refusals.specs.Numbers.{most_segments}
use Rattle.cigar.specs.Text.{read_all}
use Rattle.cigar.proofs.Filling.{read_large, read_small, counted_answered, filled_after, refused_after}
use Rattle.cigar.proofs.read_cigar.Goals as goal

pub returns-then-text-gt-MOST_TEXT : goal.returns-then-text-gt-MOST_TEXT
returns-then-text-gt-MOST_TEXT c = rw (read_large c.args.text.now c.if-text-gt-MOST_TEXT.true) record { value = refl; counts_after = refl; letters_after = refl }

pub fill_elements-requires : goal.fill_elements-requires
fill_elements-requires c =
    record { full_length = record { counts_long = omega arith; letters_long = omega arith }; answered = counted_answered (read_all most_segments c.args.text.now) (sym c.count_elements.ensures ∙ c.in_ok-n.was) }

pub returns : goal.returns
returns c =
    let a = c.args in
    let r = read_all most_segments a.text.now in
    let e = sym c.count_elements.ensures ∙ c.in_ok-n.was in
    rw (read_small a.text.now c.if-text-gt-MOST_TEXT.false)
    record { value = sym e; counts_after = (filled_after a.text.now r refl (counted_answered r e) (record { counts_long = omega arith; letters_long = omega arith }) c.fill_elements.ensures).0; letters_after = (filled_after a.text.now r refl (counted_answered r e) (record { counts_long = omega arith; letters_long = omega arith }) c.fill_elements.ensures).1 }

pub returns-in_err-n : goal.returns-in_err-n
returns-in_err-n c =
    let a = c.args in
    let r = read_all most_segments a.text.now in
    let p = err_from_is_err_and c.from_residual.result c.from_residual.ensures.1 in
    let e = sym c.count_elements.ensures ∙ c.in_err-n.was in
    rw (read_small a.text.now c.if-text-gt-MOST_TEXT.false, p.1, p.2)
    record { value = sym e; counts_after = (refused_after r a.counts.now a.letters.now e).0; letters_after = (refused_after r a.counts.now a.letters.now e).1 }
