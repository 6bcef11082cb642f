-- What a loop over rows has yet to replay: of the rows from a place on it makes what the definition makes of the whole file.
--     begun       before the first row
--     one_more    after a row that is not cut off
--     ended       nothing is left, or a row is cut off
-- Assumes nothing.
use Rattle.std.proofs.Common.{◌≡◌, ℕ, zero, suc, ◌+◌, ◌-◌, ◌≤◌, List, [], length, drop, replicate, ℤ, pos, sym, refl, ap, ◌∙◌, arith, drop_of_length-le, drop-drop, eq-eqb, ne_eqb}
use Rattle.refusals.specs.Numbers.{most_segments, most_starts}
use Rattle.segments.specs.Tables.{Tables, tables}
use Rattle.comparing.specs.Sizes.{head_numbers}
use Rattle.rows.specs.Rows.{first_of, word_at, row_size}
use Rattle.vectors.specs.Tally.{counts, counted}
use Rattle.vectors.specs.Replay.{agreed, head_next, tables_next, exons_next, replayed_from, replayed}

pub record Left (file : List ℕ) (at : ℕ) (head : List ℤ) (t : Tables) (exons tally : List ℕ) : Type 0 where
  pub within : at ≤ length file
  pub rows : ℕ
  pub enough : length file - at ≤ rows
  pub same : replayed_from rows (drop at file) head t exons tally ≡ replayed file

pub begun : (file : List ℕ) → Left file 0 (replicate head_numbers (pos 0)) (tables (replicate most_starts 0) (replicate most_starts 0) (replicate most_segments 0)) (replicate most_segments 0) (replicate counts 0)
begun file = record { within = omega arith; rows = length file; enough = omega arith; same = refl }

-- one row, of at least as many as there are bytes
step : (k : ℕ) (left : List ℕ) (head : List ℤ) (t : Tables) (exons tally row : List ℕ) → (row_size left ≡ 0 → ⊥) → row ≡ first_of left (row_size left)
    → replayed_from (suc k) left head t exons tally ≡ replayed_from k (drop (row_size left) left) (head_next row head) (tables_next row t) (exons_next row exons) (counted tally row (agreed row head t exons))
unfolding replayed_from
step k left head t exons tally row some is = rw (is, ne_eqb _ _ some)

none_left : (k : ℕ) (left : List ℕ) (head : List ℤ) (t : Tables) (exons tally : List ℕ) → row_size left ≡ 0 → replayed_from k left head t exons tally ≡ tally
unfolding replayed_from
none_left zero left head t exons tally e = refl
none_left (suc k) left head t exons tally e = rw (eq-eqb _ _ e)

pub one_more : {file : List ℕ} {at : ℕ} {head : List ℤ} {t : Tables} {exons tally : List ℕ} → Left file at head t exons tally
    → (size : ℕ) → size ≡ row_size (drop at file) → (size ≡ 0 → ⊥) → size ≤ length file - at
    → (row : List ℕ) → row ≡ first_of (drop at file) size
    → {head' : List ℤ} {t' : Tables} {exons' tally' : List ℕ} → head' ≡ head_next row head → t' ≡ tables_next row t → exons' ≡ exons_next row exons → tally' ≡ counted tally row (agreed row head t exons)
    → Left file (at + size) head' t' exons' tally'
one_more {file} {at} {head} {t} {exons} {tally} l size is some fits row row_is {head'} {t'} {exons'} {tally'} h_is t_is e_is y_is = go l.rows l.enough l.same
  where
    go : (k : ℕ) → length file - at ≤ k → replayed_from k (drop at file) head t exons tally ≡ replayed file → Left file (at + size) head' t' exons' tally'
    go zero enough same = absurd (some (omega arith))
    go (suc k) enough same = record {
      within = omega (arith, l.within);
      rows = k;
      enough = omega arith;
      same =
          rw (h_is, t_is, e_is, y_is, ← drop-drop size at file, is)
          (sym (step k (drop at file) head t exons tally row (λ e. some (is ∙ e)) (row_is ∙ ap (first_of (drop at file)) is)) ∙ same);
    }

pub cut_off : {file : List ℕ} {at : ℕ} {head : List ℤ} {t : Tables} {exons tally : List ℕ} → Left file at head t exons tally → row_size (drop at file) ≡ 0 → tally ≡ replayed file
cut_off l e = sym (none_left l.rows _ _ _ _ _ e) ∙ l.same

-- where no byte is left there is no row
empty : row_size [] ≡ 0
unfolding row_size word_at
empty = refl

pub ended : {file : List ℕ} {at : ℕ} {head : List ℤ} {t : Tables} {exons tally : List ℕ} → Left file at head t exons tally → length file ≤ at → tally ≡ replayed file
ended {file} {at} l h = cut_off l (ap row_size (drop_of_length-le file h) ∙ empty)
