-- `words::write_words` meets its contract: every element is judged first, so that a refusal stores nothing. Assumes nothing.
use Rattle.std.proofs.Common.{◌≡◌, List, ℕ, ℤ, map, min, length, refl, sym, ap, ◌∙◌, arith}
use Rattle.std.proofs.lemmas.List.{length-map}
use Rattle.std.proofs.lemmas.Result.{err_from_is_err_and}
use Rattle.refusals.specs.Numbers.{most_segments}
use Rattle.refusals.specs.Outcome.{Ok, Test, no_fault}
use Rattle.cigar.specs.laws.Lent.{sets_front}
use Rattle.words.specs.Words.{word_of, fault_from, elements_at}
use Rattle.words.specs.laws.RoundTrips.{from_length}
use Rattle.words.proofs.Words.{fault_written, many_words, full_words, all_written, all_held}
use Rattle.words.proofs.write_words.Goals as goal
use Rattle.words.proofs.write_words.Goals.{In_ok-first_fault}

-- the elements that the tables can hold are judged
judged : (counts : List ℤ) (letters : List ℕ) (number held : ℕ) (o : Test) → o ≡ fault_from counts letters 0 held → held ≡ min number most_segments
    → fault_from counts letters 0 (min number most_segments) ≡ o
judged counts letters number held o e m = sym (e ∙ ap (fault_from counts letters 0) m)

none : (c : In_ok-first_fault) → fault_from c.args.counts.now c.args.letters.now 0 (min c.args.number most_segments) ≡ no_fault
none c = judged _ _ _ _ _ c.first_fault.ensures c.min.ensures ∙ c.in_ok-first_fault.was

pub returns-in_err-first_fault : goal.returns-in_err-first_fault
returns-in_err-first_fault c =
    let a = c.args in
    let p = err_from_is_err_and c.from_residual.result c.from_residual.ensures.1 in
    rw (p.1, p.2, fault_written a.number a.counts.now a.letters.now (length a.words.now) (judged _ _ _ _ _ c.first_fault.ensures c.min.ensures ∙ c.in_err-first_fault.was)) record { value = refl; words_after = refl }

pub returns-then-number-gt-MOST_SEGMENTS : goal.returns-then-number-gt-MOST_SEGMENTS
returns-then-number-gt-MOST_SEGMENTS c =
    let a = c.args in
    let n = none (goal.at.returns-then-number-gt-MOST_SEGMENTS c).In_ok-first_fault in
    rw (many_words a.number a.counts.now a.letters.now (length a.words.now) n c.if-number-gt-MOST_SEGMENTS.true) record { value = refl; words_after = refl }

pub returns-then-words-number : goal.returns-then-words-number
returns-then-words-number c =
    let a = c.args in
    let n = none (goal.at.returns-then-words-number c).In_ok-first_fault in
    rw (full_words a.number a.counts.now a.letters.now (length a.words.now) n c.if-number-gt-MOST_SEGMENTS.false c.if-words-number.true) record { value = refl; words_after = refl }

pub put_words-requires : goal.put_words-requires
put_words-requires c =
    let a = c.args in
    let n = none (goal.at.put_words-requires c).In_ok-first_fault in
    let few = c.if-number-gt-MOST_SEGMENTS.false in
    record { full_length = (record { counts_long = omega arith; letters_long = omega arith }, few); number_value = all_held a.number a.counts.now a.letters.now (length a.words.now) n few; number_in_bounds = c.if-words-number.false }

pub returns : goal.returns
returns c =
    let a = c.args in
    let n = none (goal.at.returns c).In_ok-first_fault in
    let es = elements_at a.counts.now a.letters.now 0 a.number in
    let long : length (map word_of es) ≡ a.number = length-map es word_of ∙ from_length a.counts.now a.letters.now a.number 0 in
    rw (all_written a.number a.counts.now a.letters.now (length a.words.now) n c.if-number-gt-MOST_SEGMENTS.false c.if-words-number.false)
    record { value = ap Ok (sym long); words_after = c.put_words.ensures ∙ sets_front (map word_of es) a.words.now (rw long c.if-words-number.false) }
