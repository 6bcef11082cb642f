-- What building takes can be written, and its card, where it fits, reads back as the same input.
--     taken_records, taken_few   what building has tested that a card needs
--     taken_fits, taken_back     the input of numbers and bytes as the code has them
--     text_is, text_length       its card is a header before the very bytes
--     card_sane                  what a card makes
--     written_back               what is written reads back as the same input
--     read_rewritten             a card that is read is the card that writing gives
-- Assumes nothing.
use Rattle.std.specs.Prelude.{◌≡◌, refl, Bool, true, false, ◌⊎◌, List, ◌++◌, ℕ, ◌+◌, ◌%◌, ◌≤◌, eqb, ltb, leb, ℤ, pos, negsuc, length, drop}
use Rattle.std.proofs.Common.{sym, ap, ◌∙◌, inl, inr, arith, ltb-false, le-ltb, length-append, SFits}
use Rattle.std.specs.Int.{w32}
use Rattle.refusals.specs.Numbers.{most_records, most_card}
use Rattle.refusals.specs.Outcome.{Outcome, Ok, Err}
use Rattle.refusals.specs.laws.Outcomes.{clash, same}
use Rattle.whole.specs.laws.Whole.{by_test}
use Rattle.spelling.specs.Write.{fitted}
use Rattle.fields.specs.laws.RoundTrips.{Bytes}
use Rattle.records.specs.Records.{exactly}
use Rattle.records.specs.laws.Walk.{records_length}
use Rattle.judging.specs.Input.{Input, input_of}
use Rattle.judging.specs.Judging.{Made, judge}
use Rattle.transcript.specs.Heads.{bound_of, start_of, end_of, strand_of, number_of}
use Rattle.judging.specs.laws.Accepted.{Accepted, accepted_means, Sane, judged_sane}
use Rattle.card.specs.Layout.{records_at}
use Rattle.card.specs.Card.{header_text, card_text, read_card, input_in, card_says}
use Rattle.card.specs.Writing.{judge_read, judge_card, if_taken, card_writing}
use Rattle.transcript.specs.declared.Numbers.{Numbers}
use Rattle.card.specs.laws.Records.{from_fit, laid_from}
use Rattle.card.specs.laws.RoundTrips.{InputFits, reads_back_lem, read_means, text_kept}

one_of_two : {z : ℤ} (forward : Bool) → z ≡ strand_of forward → (z ≡ pos 1) ⊎ (z ≡ negsuc 0)
one_of_two true e = inl e
one_of_two false e = inr e

bound_fits : (given : Bool) (z : ℤ) → SFits w32 z → SFits w32 (number_of (bound_of given z))
bound_fits true z f = f
bound_fits false z f = record { sfits = omega arith }

-- numbers and bytes as the code has them, which building takes
module _ (n : Numbers) (s : List ℕ) {m : Made} (takes : judge n s ≡ Ok m) where
  passed : Accepted n s m
  passed = accepted_means n s m takes

  pub taken_records : exactly n.count s 0 ≡ true
  taken_records = passed.exact

  pub taken_few : n.count ≤ most_records
  taken_few = omega (arith, passed.pass.on.few, records_length n.count s 0)

  abbrev given_input : Input
  given_input = input_of n s

  pub taken_fits : SFits w32 n.start → SFits w32 n.end → Bytes s → InputFits given_input
  taken_fits start_fits end_fits bs = record {
    strand_is = one_of_two m.forward passed.pass.strand_is;
    start_fits = bound_fits (eqb (n.cds % 2) 1) n.start start_fits;
    end_fits = bound_fits (leb 2 n.cds) n.end end_fits;
    few = omega (arith, passed.pass.on.few);
    records_fit = from_fit n.count s 0 bs passed.exact;
  }

  -- what is written reads back as the same input
  pub taken_back : SFits w32 n.start → SFits w32 n.end → Bytes s → length (card_text given_input) ≤ most_card → card_says (card_text given_input) ≡ Ok given_input
  taken_back start_fits end_fits bs h = reads_back_lem given_input (taken_fits start_fits end_fits bs) h

-- the card of records as they lie
pub text_is : (n : Numbers) (s : List ℕ) → Bytes s → exactly n.count s 0 ≡ true
    → card_text (input_of n s) ≡ header_text n.strand (start_of n.cds n.start) (end_of n.cds n.end) n.count ++ s
unfolding card_text
text_is n s bs e = rw (records_length n.count s 0, laid_from n.count s 0 bs e)

pub text_length : (n : Numbers) (s : List ℕ) → Bytes s → exactly n.count s 0 ≡ true → length (card_text (input_of n s)) ≡ records_at + length s
unfolding header_text
text_length n s bs e =
    ap length (text_is n s bs e) ∙ length-append (header_text n.strand (start_of n.cds n.start) (end_of n.cds n.end) n.count) s

-- what a card makes is as building's judgment says
pub card_sane : (s : List ℕ) (m : Made) → judge_card s ≡ Ok m → Sane m
card_sane s m e = go (read_card s) e
  where
    go : (r : Outcome Numbers) → judge_read s r ≡ Ok m → Sane m
    go (Ok n) h = judged_sane n (drop records_at s) m h
    go (Err k) h = absurd (let z : ◌≡◌ {A = ℕ} 0 1 = cc in omega arith)

-- ---- the two ways together, as the code has them

-- a text that is written is the card of what building takes, and fits
record Fitting (text : List ℕ) (j : Outcome Made) (card : List ℕ) : Type 0 where
  made : Made
  takes : j ≡ Ok made
  is : text ≡ card
  small : length card ≤ most_card

fits_in : (j : Outcome Made) (room : ℕ) (card text : List ℕ) → if_taken j (fitted most_card room card) ≡ Ok text → Fitting text j card
fits_in (Err k) room card text e = absurd (let z : ◌≡◌ {A = ℕ} 0 1 = cc in omega arith)
fits_in (Ok m) room card text e =
    by_test (ltb most_card (length card))
    (λ t. absurd (clash (simp t at e)))
    (λ t. by_test (ltb room (length card))
    (λ u. absurd (clash (simp (t, u) at e)))
    (λ u. record { made = m; takes = refl; is = sym (same (simp (t, u) at e)); small = ltb-false most_card (length card) t }))

-- what `write_card` writes reads back as the input that was handed over
pub written_back : (n : Numbers) (s : List ℕ) (room : ℕ) (text : List ℕ) → SFits w32 n.start → SFits w32 n.end → Bytes s
    → card_writing n s room ≡ Ok text → card_says text ≡ Ok (input_of n s)
unfolding card_writing
written_back n s room text start_fits end_fits bs e =
    let f = fits_in (judge n s) room (card_text (input_of n s)) text e in
    ap card_says f.is ∙ taken_back n s f.takes start_fits end_fits bs f.small

-- a card that reads and builds is what `write_card` writes of what it says
pub read_rewritten : (s : List ℕ) (n : Numbers) (x : Made) (room : ℕ) → Bytes s → read_card s ≡ Ok n → judge_card s ≡ Ok x → length s ≤ room
    → card_writing n (drop records_at s) room ≡ Ok s
unfolding card_writing
read_rewritten s n x room bs r j h =
    let k = read_means s n r in
    let text : card_text (input_in s n) ≡ s = ap (λ (y : Numbers). card_text (input_in s y)) k.1 ∙ text_kept s bs k.0 in
    let taken : judge n (drop records_at s) ≡ Ok x = sym (ap (judge_read s) r) ∙ j in
    rw (taken, text, le-ltb most_card (length s) k.0.few, le-ltb room (length s) h)
