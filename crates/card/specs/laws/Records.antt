-- Records there and back: what was laid out reads as the records, and what was read lays out as the bytes.
--     RecordFits, AllFit               the numbers fit 32 signed bits, and a CIGAR's size 16 bits
--     exactly_laid, from_laid          bytes that records were laid out as are just these records
--     laid_from, from_fit              bytes that are just n records are what those lay out, and they fit
-- Assumes nothing.
use Rattle.std.proofs.Math.Path.{◌≡◌, refl, sym, ap}
use Rattle.std.proofs.Common.{◌∙◌, add-zero, arith, eq-eqb, eqb-true, le-leb, length-drop, take-append-drop, drop_of_length-le, drop-drop, take_at, drop_at, length-take-le, SFits}
use Rattle.std.specs.Prelude.{true, ℕ, zero, suc, ◌+◌, ◌-◌, ◌<◌, ◌≤◌, ℤ, drop}
use mathlib.Core.List.{List, [], ◌∷◌, ◌++◌}
use Rattle.std.proofs.Math.ListN.{length, take, length-append}
use Rattle.std.specs.Int.{w32}
use Rattle.fields.specs.Fields.{little, le16, le32, bytes16, bytes32, signed32, bits32}
use Rattle.fields.specs.laws.RoundTrips.{Bytes, little_bytes, signed_back, signed_fits, bytes16_le, field_laid, le16_below, le32_below, beside}
use Rattle.records.specs.Layout.{alt_start_at, alt_end_at, tx_start_at, tx_end_at, ord_at, cigar_size, cigar_text}
use Rattle.records.specs.Records.{Record, field_at, size_at, next_at, record_at, record_text, exactly, records_from}
use Rattle.records.specs.Walk.{Stands}
use Rattle.records.specs.laws.Walk.{begins}
use Rattle.card.specs.Card.{records_text}

pub record RecordFits (r : Record) : Type 0 where
  pub alt_start_fits : SFits w32 r.alt_start
  pub alt_end_fits : SFits w32 r.alt_end
  pub tx_start_fits : SFits w32 r.tx_start
  pub tx_end_fits : SFits w32 r.tx_end
  pub ord_fits : SFits w32 r.ord
  pub cigar_fits : length r.cigar < 65536

pub data AllFit : List Record → Type 0 where
  none : AllFit []
  more : {r : Record} {rs : List Record} → RecordFits r → AllFit rs → AllFit (r ∷ rs)

-- ---- what was laid out

-- a record that stands at a place, with bytes behind it
module _ (s : List ℕ) (at : ℕ) (r : Record) (rest : List ℕ) (stands : drop at s ≡ record_text r ++ rest) (fits : RecordFits r) where
  -- what stands k bytes on
  on : (k : ℕ) → drop (at + k) s ≡ drop k (record_text r ++ rest)
  on k = sym (drop-drop k at s) ∙ ap (drop k) stands

  pub size_back : size_at s at ≡ length r.cigar
  unfolding record_text le16
  size_back = ap (λ (l : List ℕ). little (take 2 l)) (on cigar_size) ∙ little_bytes 2 (length r.cigar) fits.cigar_fits

  text_on : drop (at + cigar_text) s ≡ r.cigar ++ rest
  unfolding record_text
  text_on = on cigar_text

  -- the number k bytes on
  field_back : (k : ℕ) (z : ℤ) → SFits w32 z → take 4 (drop k (record_text r ++ rest)) ≡ bytes32 (bits32 z) → field_at s (at + k) ≡ z
  unfolding le32
  field_back k z f e = ap (λ (l : List ℕ). signed32 (little (take 4 l))) (on k) ∙ ap (λ (l : List ℕ). signed32 (little l)) e ∙ signed_back z f

  cigar_back : take (size_at s at) (drop (at + cigar_text) s) ≡ r.cigar
  cigar_back = rw (size_back, text_on) (take_at r.cigar rest (length r.cigar) refl)

  pub record_back : record_at s at ≡ r
  unfolding record_at record_text
  record_back =
      same_record
      (field_back alt_start_at r.alt_start fits.alt_start_fits refl)
      (field_back alt_end_at r.alt_end fits.alt_end_fits refl)
      (field_back tx_start_at r.tx_start fits.tx_start_fits refl)
      (field_back tx_end_at r.tx_end fits.tx_end_fits refl)
      (field_back ord_at r.ord fits.ord_fits refl)
      cigar_back
    where
      same_record : {a b c d o : ℤ} {t : List ℕ} → a ≡ r.alt_start → b ≡ r.alt_end → c ≡ r.tx_start → d ≡ r.tx_end → o ≡ r.ord → t ≡ r.cigar
          → ◌≡◌ {A = Record} (record { alt_start = a; alt_end = b; tx_start = c; tx_end = d; ord = o; cigar = t }) r
      same_record ea eb ec ed eo et = rw (ea, eb, ec, ed, eo, et)

  -- where the next one begins
  pub rest_on : drop (next_at s at) s ≡ rest
  rest_on =
      rw (size_back)
      (sym (drop-drop (length r.cigar) (at + cigar_text) s) ∙ ap (drop (length r.cigar)) text_on ∙ drop_at r.cigar rest (length r.cigar) refl)

  pub room : (at + cigar_text ≤ length s) × (next_at s at ≤ length s)
  unfolding record_text
  room =
      let e : length s - at ≡ length (record_text r ++ rest) = sym (length-drop at s) ∙ ap length stands in
      let t : length (r.cigar ++ rest) ≡ length r.cigar + length rest = length-append r.cigar rest in
      (omega (arith, e, t), omega (arith, e, t, size_back))

pub from_laid : (s : List ℕ) (at : ℕ) {rs : List Record} → AllFit rs → drop at s ≡ records_text rs → records_from (length rs) s at ≡ rs
unfolding records_from records_text
from_laid s at none e = refl
from_laid s at (more {r} {rs} f fs) e =
    rw (record_back s at r (records_text rs) e f, from_laid s (next_at s at) fs (rest_on s at r (records_text rs) e f))

pub exactly_laid : (s : List ℕ) (at : ℕ) {rs : List Record} → AllFit rs → at ≤ length s → drop at s ≡ records_text rs → exactly (length rs) s at ≡ true
unfolding exactly records_text
exactly_laid s at none h e =
    let l : length s - at ≡ 0 = sym (length-drop at s) ∙ ap length e in
    eq-eqb at (length s) (omega (arith, l))
exactly_laid s at (more {r} {rs} f fs) h e =
    let m = room s at r (records_text rs) e f in
    rw (
      le-leb (at + cigar_text) (length s) m.0,
      le-leb (next_at s at) (length s) m.1,
      exactly_laid s (next_at s at) fs m.1 (rest_on s at r (records_text rs) e f),
    )

-- ---- what was read

-- a record of which the bytes are whole
module _ (s : List ℕ) (at : ℕ) (bs : Bytes s) (numbers : at + cigar_text ≤ length s) (text : next_at s at ≤ length s) where
  number_laid : (k : ℕ) → k + 4 ≤ cigar_text → bytes32 (bits32 (field_at s (at + k))) ≡ take 4 (drop (at + k) s)
  number_laid k h = field_laid s (at + k) bs (omega arith)

  cigar_length : length (take (size_at s at) (drop (at + cigar_text) s)) ≡ size_at s at
  cigar_length = length-take-le (size_at s at) (drop (at + cigar_text) s) (omega (arith, length-drop (at + cigar_text) s))

  size_laid : bytes16 (length (take (size_at s at) (drop (at + cigar_text) s))) ≡ take 2 (drop (at + cigar_size) s)
  size_laid = ap bytes16 cigar_length ∙ bytes16_le s (at + cigar_size) bs (omega arith)

  laid_at : record_text (record_at s at) ≡ take (cigar_text + size_at s at) (drop at s)
  unfolding record_at record_text
  laid_at =
      beside s at cigar_text (size_at s at)
      (beside s at cigar_size 2
      (beside s at ord_at 4
      (beside s at tx_end_at 4
      (beside s at tx_start_at 4
      (beside s at alt_end_at 4 (number_laid alt_start_at (omega arith) ∙ ap (λ (n : ℕ). take 4 (drop n s)) (add-zero at)) (number_laid alt_end_at (omega arith)))
      (number_laid tx_start_at (omega arith)))
      (number_laid tx_end_at (omega arith)))
      (number_laid ord_at (omega arith)))
      size_laid)
      refl

  field_fits : (k : ℕ) → k + 4 ≤ cigar_text → SFits w32 (field_at s (at + k))
  field_fits k h = signed_fits (le32 s (at + k)) (le32_below s (at + k) bs (omega arith))

  fits_at : RecordFits (record_at s at)
  unfolding record_at
  fits_at = record {
    alt_start_fits = field_fits alt_start_at (omega arith);
    alt_end_fits = field_fits alt_end_at (omega arith);
    tx_start_fits = field_fits tx_start_at (omega arith);
    tx_end_fits = field_fits tx_end_at (omega arith);
    ord_fits = field_fits ord_at (omega arith);
    cigar_fits = omega (arith, cigar_length, le16_below s (at + cigar_size) bs (omega arith));
  }

-- what the record at a place lays out, and what follows it
after_laid : (s : List ℕ) (at : ℕ) → Bytes s → Stands s at → record_text (record_at s at) ++ drop (next_at s at) s ≡ drop at s
after_laid s at bs h =
    let n = size_at s at in
    rw (laid_at s at bs h.numbers h.text)
    (ap (λ (l : List ℕ). take (cigar_text + n) (drop at s) ++ l) (ap (λ (k : ℕ). drop k s) {x = at + cigar_text + n} {y = at + (cigar_text + n)} (omega arith) ∙ sym (drop-drop (cigar_text + n) at s))
    ∙ take-append-drop (cigar_text + n) (drop at s))

-- the first of n + 1 records, and the n others
one_of : (n : ℕ) (s : List ℕ) (at : ℕ) → exactly (suc n) s at ≡ true → Stands s at × (exactly n s (next_at s at) ≡ true)
one_of n s at e =
    let b = begins (suc n) s at (omega arith) e in
    let k : suc n - 1 ≡ n = omega arith in
    (b.stands, rw k at b.others)

pub laid_from : (n : ℕ) (s : List ℕ) (at : ℕ) → Bytes s → exactly n s at ≡ true → records_text (records_from n s at) ≡ drop at s
unfolding records_from records_text exactly
laid_from zero s at bs e = sym (drop_of_length-le s {i = at} (omega (arith, eqb-true at (length s) e)))
laid_from (suc n) s at bs e =
    let b = one_of n s at e in
    ap (λ (l : List ℕ). record_text (record_at s at) ++ l) (laid_from n s (next_at s at) bs b.1) ∙ after_laid s at bs b.0

pub from_fit : (n : ℕ) (s : List ℕ) (at : ℕ) → Bytes s → exactly n s at ≡ true → AllFit (records_from n s at)
unfolding records_from
from_fit zero s at bs e = none
from_fit (suc n) s at bs e =
    let b = one_of n s at e in
    more (fits_at s at bs b.0.numbers b.0.text) (from_fit n s (next_at s at) bs b.1)
