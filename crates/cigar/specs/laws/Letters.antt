-- Bytes of a text: digits, letters, and letters that go their whole count along a side.
--     digit_bounds, digit_yes            what the test of a digit says
--     digit_no_letter, letter_no_digit   no byte is both
--     genome_whole, transcript_whole     a letter that goes its whole count
-- Assumes nothing.
use Rattle.std.specs.Prelude.{◌≡◌, refl, Bool, true, false, ◌&&◌, ℕ, ◌+◌, ◌≤◌, ◌<◌, leb, eqb}
use Rattle.std.proofs.Common.{sym, ◌∙◌, true≢false, arith, leb-true, le-leb, ne_eqb}
use Rattle.std.proofs.lemmas.Bool.{false≢true}
use Rattle.whole.specs.laws.Whole.{by_test}
use Rattle.cigar.specs.Elements.{is_letter, kind_of, along_genome, along_transcript}
use Rattle.cigar.specs.Text.{is_digit}

both : (p q : Bool) → p && q ≡ true → (p ≡ true) × (q ≡ true)
both true q e = (refl, e)
both false q e = absurd (false≢true e)

pub digit_bounds : (b : ℕ) → is_digit b ≡ true → (48 ≤ b) × (b ≤ 57)
digit_bounds b e =
    let h : (leb 48 b ≡ true) × (leb b 57 ≡ true) = both (leb 48 b) (leb b 57) e in
    (leb-true 48 b h.0, leb-true b 57 h.1)

pub digit_yes : (d : ℕ) → d < 10 → is_digit (48 + d) ≡ true
digit_yes d h = rw (le-leb 48 (48 + d) (omega arith), le-leb (48 + d) 57 (omega arith))

pub digit_no_letter : (b : ℕ) → is_digit b ≡ true → is_letter b ≡ false
unfolding is_letter
digit_no_letter b e =
    let h = digit_bounds b e in
    rw (
      ne_eqb b 61 (omega arith),
      ne_eqb b 68 (omega arith),
      ne_eqb b 73 (omega arith),
      ne_eqb b 77 (omega arith),
      ne_eqb b 78 (omega arith),
      ne_eqb b 88 (omega arith),
    )

pub letter_no_digit : (b : ℕ) → is_letter b ≡ true → is_digit b ≡ false
letter_no_digit b l = by_test (is_digit b) (λ e. absurd (true≢false (sym l ∙ digit_no_letter b e))) (λ e. e)

pub genome_whole : (c n : ℕ) → (c ≡ 68 → ⊥) → n ≡ along_genome (kind_of c) n
unfolding kind_of
genome_whole c n h = by_test (eqb c 78) (λ e. rw e) (λ e. by_test (eqb c 73) (λ u. rw (e, u)) (λ u. rw (e, u, ne_eqb c 68 h)))

pub transcript_whole : (c n : ℕ) → (c ≡ 73 → ⊥) → (c ≡ 78 → ⊥) → n ≡ along_transcript (kind_of c) n
unfolding kind_of
transcript_whole c n h k = rw (ne_eqb c 78 k, ne_eqb c 73 h) (by_test (eqb c 68) (λ e. rw e) (λ e. rw e))
