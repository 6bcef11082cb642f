-- BAM's words are judged, read and written one by one.
--     elements_more, elements_none                 the elements of the words that are left
--     fault_more, fault_end                        the first refusal of the elements that are left
--     fault_left, words_more, words_none           the words of the elements that are left, where none is refused
--     unknown_read, .., all_read                   what is read, by the tests in their order
--     fault_written, .., all_written               what is written, by the tests in their order
-- Assumes nothing.
use mathlib.Core.Path.{◌≡◌, sym, ap, ◌∙◌}
use mathlib.Core.Bool.{true, false}
use mathlib.Core.List.{List, [], ◌∷◌, map}
use Prim.Native.Nat.{ℕ, suc, ◌+◌, ◌-◌, ◌≤◌, ◌<◌, min}
use native.Mathlib.Nat.{min-eq_left}
use native.Mathlib.Numerals.{add-one}
use native.Mathlib.Omega.{arith}
use lib.Dec.{ltb}
use lib.IntN.{ℤ, pos, nat_abs}
use lib.ListN.{length, get_or, drop, drop_of_length-le}
use lib.Seq.{drop-cons}
use Rattle.whole.specs.laws.Whole.{by_test}
use borrow.Author.Tests.{lt-ltb, le-ltb}
use Rattle.refusals.specs.Numbers.{most_segments}
use Rattle.refusals.specs.declared.Refusal.{Refusal}
use Rattle.refusals.specs.declared.Refusal.TheVariants.{TooMuch, NoRoom, NoOperation}
use Rattle.refusals.specs.Outcome.{Ok, Err, Test, no_fault, unless}
use Rattle.cigar.specs.Text.{element}
use Rattle.words.specs.Words.{element_of_word, word_of, all_known, read_words, fault_of, fault_from, elements_at, write_words}
use Rattle.words.specs.laws.RoundTrips.{fault_first}

module _ (words : List ℕ) (i : ℕ) where
  pub elements_more : i < length words → map element_of_word (drop i words) ≡ element_of_word (get_or words i 0) ∷ map element_of_word (drop (i + 1) words)
  elements_more h = rw (drop-cons words i 0 h, add-one i)

  pub elements_none : length words ≤ i → map element_of_word (drop i words) ≡ []
  elements_none h = rw (drop_of_length-le words h)

module _ (counts : List ℤ) (letters : List ℕ) (number i : ℕ) where
  abbrev here : Test
  here = fault_of (get_or counts i (pos 0)) (get_or letters i 0)

  one_more : i < number → number - i ≡ suc (number - (i + 1))
  one_more h = omega arith

  pub fault_more : i < number → fault_from counts letters i (number - i) ≡ unless here (fault_from counts letters (i + 1) (number - (i + 1)))
  unfolding fault_from
  fault_more h = rw (one_more h)

  pub fault_end : number ≤ i → fault_from counts letters i (number - i) ≡ no_fault
  unfolding fault_from
  fault_end h =
      let none : number - i ≡ 0 = omega arith in
      rw none

  pub fault_left : i < number → fault_from counts letters i (number - i) ≡ no_fault → (here ≡ no_fault) × (fault_from counts letters (i + 1) (number - (i + 1)) ≡ no_fault)
  fault_left h e = fault_first counts letters i (number - (i + 1)) (ap (fault_from counts letters i) (sym (one_more h)) ∙ e)

  pub words_more : i < number → map word_of (elements_at counts letters i (number - i))
      ≡ word_of (element (nat_abs (get_or counts i (pos 0))) (get_or letters i 0)) ∷ map word_of (elements_at counts letters (i + 1) (number - (i + 1)))
  unfolding elements_at
  words_more h = rw (one_more h)

  pub words_none : number ≤ i → map word_of (elements_at counts letters i (number - i)) ≡ []
  unfolding elements_at
  words_none h =
      let none : number - i ≡ 0 = omega arith in
      rw none

module _ (words : List ℕ) (c l : ℕ) where
  -- whatever their number
  pub unknown_read : all_known words ≡ false → read_words words c l ≡ Err NoOperation
  unfolding read_words
  unknown_read k = by_test (ltb most_segments (length words)) (λ m. rw (m, k)) (λ m. rw (m, k))

  pub many_read : all_known words ≡ true → most_segments < length words → read_words words c l ≡ Err TooMuch
  unfolding read_words
  many_read k h = rw (k, lt-ltb most_segments (length words) h)

  module _ (k : all_known words ≡ true) (few : length words ≤ most_segments) where
    pub counts_full : c < length words → read_words words c l ≡ Err NoRoom
    unfolding read_words
    counts_full h = rw (k, le-ltb most_segments (length words) few, lt-ltb c (length words) h)

    pub letters_full : length words ≤ c → l < length words → read_words words c l ≡ Err NoRoom
    unfolding read_words
    letters_full r h = rw (k, le-ltb most_segments (length words) few, le-ltb c (length words) r, lt-ltb l (length words) h)

    pub all_read : length words ≤ c → length words ≤ l → read_words words c l ≡ Ok (map element_of_word words)
    unfolding read_words
    all_read r h = rw (k, le-ltb most_segments (length words) few, le-ltb c (length words) r, le-ltb l (length words) h)

module _ (number : ℕ) (counts : List ℤ) (letters : List ℕ) (room : ℕ) where
  abbrev fault : Test
  fault = fault_from counts letters 0 (min number most_segments)

  pub fault_written : {k : Refusal} → fault ≡ Err k → write_words number counts letters room ≡ Err k
  unfolding write_words
  fault_written e = rw e

  module _ (k : fault ≡ no_fault) where
    pub many_words : most_segments < number → write_words number counts letters room ≡ Err TooMuch
    unfolding write_words
    many_words h = rw (k, lt-ltb most_segments number h)

    pub full_words : number ≤ most_segments → room < number → write_words number counts letters room ≡ Err NoRoom
    unfolding write_words
    full_words few h = rw (k, le-ltb most_segments number few, lt-ltb room number h)

    pub all_written : number ≤ most_segments → number ≤ room → write_words number counts letters room ≡ Ok (map word_of (elements_at counts letters 0 number))
    unfolding write_words
    all_written few h = rw (k, le-ltb most_segments number few, le-ltb room number h)

    pub all_held : number ≤ most_segments → fault_from counts letters 0 number ≡ no_fault
    all_held few = ap (fault_from counts letters 0) (sym (min-eq_left few)) ∙ k
