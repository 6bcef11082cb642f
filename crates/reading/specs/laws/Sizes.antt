-- What a record that stands at a place reads as, by its CIGAR's size and the segments used. Assumes nothing.
use Rattle.std.specs.Prelude.{◌≡◌, true, false, List, ℕ, ◌+◌, ◌-◌, ◌≤◌, ◌<◌, length, take, drop, ltb}
use Rattle.std.proofs.Common.{◌∙◌, arith, length-drop, length-take-le}
use borrow.Author.Tests.{lt-ltb, le-ltb, eq-eqb, ne_eqb}
use Rattle.refusals.specs.Numbers.{most_text, most_segments}
use Rattle.refusals.specs.declared.Refusal.TheVariants.{TooMuch}
use Rattle.refusals.specs.Outcome.{Err}
use Rattle.cigar.specs.Text.{read_all}
use Rattle.records.specs.Layout.{cigar_text}
use Rattle.records.specs.Records.{size_at, next_at, record_at}
use Rattle.records.specs.Walk.{Stands}
use Rattle.reading.specs.Reading.{read_first, read_next}

module _ (s : List ℕ) (at : ℕ) (stands : Stands s at) where
  abbrev text : List ℕ
  text = take (size_at s at) (drop (at + cigar_text) s)

  same_size : size_at s at ≡ next_at s at - (at + cigar_text)
  same_size = omega arith

  size : length text ≡ next_at s at - (at + cigar_text)
  size = length-take-le _ (drop (at + cigar_text) s) (rw (length-drop (at + cigar_text) s) (omega (arith, stands.text))) ∙ same_size

  -- the CIGAR's bytes, as far as the next record
  pub cigar_is : (record_at s at).cigar ≡ take (next_at s at - (at + cigar_text)) (drop (at + cigar_text) s)
  unfolding record_at
  cigar_is = rw (← same_size)

  large : most_text < next_at s at - (at + cigar_text) → ltb most_text (length text) ≡ true
  large h = lt-ltb most_text (length text) (omega (arith, size))

  small : next_at s at - (at + cigar_text) ≤ most_text → ltb most_text (length text) ≡ false
  small h = le-ltb most_text (length text) (omega (arith, size))

  pub first_large : most_text < next_at s at - (at + cigar_text) → read_first (record_at s at) ≡ Err TooMuch
  unfolding read_first record_at
  first_large h = rw (large h)

  pub first_read : next_at s at - (at + cigar_text) ≤ most_text → read_first (record_at s at) ≡ read_all most_segments (record_at s at).cigar
  unfolding read_first record_at
  first_read h = rw (small h)

  pub next_large : (used : ℕ) → most_text < next_at s at - (at + cigar_text) → read_next used (record_at s at) ≡ Err TooMuch
  unfolding read_next record_at
  next_large used h = rw (large h)

  pub next_full : (used : ℕ) → next_at s at - (at + cigar_text) ≤ most_text → used ≡ most_segments → read_next used (record_at s at) ≡ Err TooMuch
  unfolding read_next record_at
  next_full used h e = rw (small h, eq-eqb used most_segments e)

  pub next_read : (used : ℕ) → next_at s at - (at + cigar_text) ≤ most_text → (used ≡ most_segments → ⊥)
      → read_next used (record_at s at) ≡ read_all (most_segments - (used + 1)) (record_at s at).cigar
  unfolding read_next record_at
  next_read used h e = rw (small h, ne_eqb used most_segments e)
