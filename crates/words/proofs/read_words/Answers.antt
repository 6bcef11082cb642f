-- `words::read_words` meets its contract: every word is judged first, so that a refusal stores nothing. Assumes nothing.
use Rattle.std.proofs.Common.{◌≡◌, true, map, pos, length, refl, sym, ap, ◌∙◌}
use Rattle.std.proofs.lemmas.List.{length-map}
use Rattle.refusals.specs.declared.Refusal.TheVariants.{NoRoom}
use Rattle.refusals.specs.Outcome.{Ok, Err}
use Rattle.cigar.specs.Elements.{Element}
use Rattle.cigar.specs.Read.{counts_of, letters_of}
use Rattle.cigar.specs.laws.Lent.{sets_front}
use Rattle.words.specs.Words.{element_of_word, all_known, read_words}
use Rattle.words.proofs.Words.{unknown_read, many_read, counts_full, letters_full, all_read}
use Rattle.words.proofs.read_words.Goals as goal
use Rattle.words.proofs.read_words.Goals.{Else-not-all_known, then-counts-number-via-then-counts-number, then-counts-number-via-else-counts-number+then-letters-number}

known : (c : Else-not-all_known) → all_known c.args.words.now ≡ true
known c = sym c.all_known.ensures ∙ c.if-not-all_known.false

pub returns-then-not-all_known : goal.returns-then-not-all_known
returns-then-not-all_known c =
    let a = c.args in
    rw (unknown_read a.words.now (length a.counts.now) (length a.letters.now) (sym c.all_known.ensures ∙ c.if-not-all_known.true))
    record { value = refl; counts_after = refl; letters_after = refl }

pub returns-then-number-gt-MOST_SEGMENTS : goal.returns-then-number-gt-MOST_SEGMENTS
returns-then-number-gt-MOST_SEGMENTS c =
    let a = c.args in
    let k = known (goal.at.returns-then-number-gt-MOST_SEGMENTS c).Else-not-all_known in
    rw (many_read a.words.now (length a.counts.now) (length a.letters.now) k c.if-number-gt-MOST_SEGMENTS.true)
    record { value = refl; counts_after = refl; letters_after = refl }

pub returns-then-counts-number : goal.returns-then-counts-number
returns-then-counts-number c =
    let a = c.args in
    let k = known (goal.at.returns-then-counts-number c).Else-not-all_known in
    let few = c.if-number-gt-MOST_SEGMENTS.false in
    let full : read_words a.words.now (length a.counts.now) (length a.letters.now) ≡ Err NoRoom =
    elim c.then-counts-number.branch [
      | then-counts-number-via-then-counts-number w ↦ counts_full a.words.now (length a.counts.now) (length a.letters.now) k few w.if-counts-number.true
      | then-counts-number-via-else-counts-number+then-letters-number w ↦
          letters_full a.words.now (length a.counts.now) (length a.letters.now) k few w.if-counts-number.false w.if-letters-number.true
    ] in
    rw full record { value = refl; counts_after = refl; letters_after = refl }

pub returns : goal.returns
returns c =
    let a = c.args in
    let k = known (goal.at.returns c).Else-not-all_known in
    let es = map element_of_word a.words.now in
    let f = c.fill_from_words.ensures in
    let long = length-map a.words.now element_of_word in
    rw (all_read a.words.now (length a.counts.now) (length a.letters.now) k c.if-number-gt-MOST_SEGMENTS.false c.if-counts-number.false c.if-letters-number.false)
    record {
      value = ap Ok (sym long);
      counts_after = f.counts_is ∙ sets_front (counts_of es) a.counts.now (rw (length-map es (λ (x : Element). pos x.count), long) c.if-counts-number.false);
      letters_after = f.letters_is ∙ sets_front (letters_of es) a.letters.now (rw (length-map es (λ (x : Element). x.letter), long) c.if-letters-number.false);
    }
