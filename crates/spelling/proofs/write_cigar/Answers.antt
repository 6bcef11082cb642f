-- `spelling::write_cigar` meets its contract: the size is known first, so that a refusal stores nothing. Assumes nothing.
use Rattle.std.proofs.Common.{◌≡◌, length, refl, sym, ap, ◌∙◌, arith}
use Rattle.std.proofs.lemmas.Result.{err_from_is_err_and}
use Rattle.refusals.specs.Outcome.{Ok}
use Rattle.cigar.specs.Text.{Reading, elements_in}
use Rattle.cigar.specs.laws.Lent.{sets_front}
use Rattle.spelling.specs.Write.{elements_text, elements_given, size_of}
use Rattle.spelling.proofs.Writing.{sized, many_written, refused_written, large_written, full_written, text_written}
use Rattle.spelling.proofs.write_cigar.Goals as goal
use Rattle.spelling.proofs.write_cigar.Goals.{In_ok-size}

pub returns-then-number-gt-MOST_SEGMENTS : goal.returns-then-number-gt-MOST_SEGMENTS
returns-then-number-gt-MOST_SEGMENTS c =
    let a = c.args in
    rw (many_written a.number a.counts.now a.letters.now (length a.buffer.now) c.if-number-gt-MOST_SEGMENTS.true) record { value = refl; buffer_after = refl }

pub text_size-requires : goal.text_size-requires
text_size-requires c = (record { counts_long = omega arith; letters_long = omega arith }, omega arith)

-- what the elements take, where they were measured
module _ (c : In_ok-size) where
  abbrev all : Reading
  all = elements_given c.args.counts.now c.args.letters.now c.args.number

  measured : size_of all ≡ Ok c.in_ok-size.size
  measured = sym c.text_size.ensures ∙ c.in_ok-size.was

pub returns-in_err-size : goal.returns-in_err-size
returns-in_err-size c =
    let a = c.args in
    let p = err_from_is_err_and c.from_residual.result c.from_residual.ensures.1 in
    rw (p.1, p.2, refused_written a.number a.counts.now a.letters.now (length a.buffer.now) c.if-number-gt-MOST_SEGMENTS.false (sym c.text_size.ensures ∙ c.in_err-size.was))
    record { value = refl; buffer_after = refl }

pub returns-then-size-gt-MOST_TEXT : goal.returns-then-size-gt-MOST_TEXT
returns-then-size-gt-MOST_TEXT c =
    let a = c.args in
    let e = measured (goal.at.returns-then-size-gt-MOST_TEXT c).In_ok-size in
    rw (large_written a.number a.counts.now a.letters.now (length a.buffer.now) c.if-number-gt-MOST_SEGMENTS.false e c.if-size-gt-MOST_TEXT.true)
    record { value = refl; buffer_after = refl }

pub returns-then-buffer-size : goal.returns-then-buffer-size
returns-then-buffer-size c =
    let a = c.args in
    let e = measured (goal.at.returns-then-buffer-size c).In_ok-size in
    rw (full_written a.number a.counts.now a.letters.now (length a.buffer.now) c.if-number-gt-MOST_SEGMENTS.false e c.if-size-gt-MOST_TEXT.false c.if-buffer-size.true)
    record { value = refl; buffer_after = refl }

pub put_elements-requires : goal.put_elements-requires
put_elements-requires c =
    let o = (goal.at.put_elements-requires c).In_ok-size in
    let z = sized (all o) (measured o) in
    record { full_length = (record { counts_long = omega arith; letters_long = omega arith }, c.if-number-gt-MOST_SEGMENTS.false); answered = z.granted; number_in_bounds = omega arith }

pub returns : goal.returns
returns c =
    let a = c.args in
    let o = (goal.at.returns c).In_ok-size in
    let z = sized (all o) (measured o) in
    rw (text_written a.number a.counts.now a.letters.now (length a.buffer.now) c.if-number-gt-MOST_SEGMENTS.false (measured o) c.if-size-gt-MOST_TEXT.false c.if-buffer-size.false)
    record { value = ap Ok z.long; buffer_after = c.put_elements.ensures ∙ sets_front (elements_text (elements_in (all o))) a.buffer.now (omega arith) }
