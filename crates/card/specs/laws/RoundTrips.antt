-- A card there and back.
--     InputFits      the strand is 1 or -1, the numbers fit 32 signed bits, and the sizes 16 bits
--     reads_back_lem     what is written reads back as the same input
--     one_card       two inputs with one card are one
--     is_canonical   every card that is read is the card that its input is written as
-- Assumes nothing.
use Rattle.std.proofs.Math.Path.{◌≡◌, refl, ap, ap₂}
use Rattle.std.proofs.Common.{sym, ◌∙◌, ⊎_elim, drop-cons, SFits}
use Rattle.std.specs.Prelude.{true, ◌⊎◌, ℕ, ◌+◌, ◌%◌, ◌<◌, ◌≤◌, eqb, leb, ltb, ℤ, pos, negsuc, length, get_or, take, drop, Some, None, Option}
use mathlib.Core.List.{List, [], ◌∷◌, ◌++◌}
use Prim.Native.Char.{code}
use native.Mathlib.Omega.{arith}
use borrow.Author.Tests.{eq-eqb, eqb-true, eqb-false, le-leb, leb-true, leb-false, le-ltb, ltb-false}
use Rattle.std.proofs.Math.ListN.{take-append-drop}
use Rattle.std.specs.Int.{w32}
use Rattle.refusals.specs.Numbers.{most_card}
use Rattle.refusals.specs.declared.Refusal.{Refusal}
use Rattle.refusals.specs.Outcome.{Ok, Err, Outcome}
use Rattle.whole.specs.Whole.{eq_z}
use Rattle.whole.specs.laws.Whole.{by_test, eq_means, eq_yes_by, both}
use Rattle.fields.specs.Fields.{le16, le32, bytes16, bytes32, bits32}
use Rattle.fields.specs.laws.RoundTrips.{Bytes, drop_bytes, little_bytes, signed_back, bytes16_le, field_laid, beside}
use Rattle.records.specs.Records.{Record, field_at, exactly, records_from}
use Rattle.records.specs.laws.Walk.{records_length}
use Rattle.transcript.specs.Heads.{both_bits, start_of, end_of, strand_of, number_of}
use Rattle.judging.specs.Input.{Input}
use Rattle.card.specs.Layout.{mark, version, version_at, strand_at, cds_at, start_at, end_at, count_at, records_at}
use Rattle.card.specs.Card.{strand_byte, cds_byte, records_text, header_text, card_text, is_marked, numbers_in, are_plain, is_card, read_card, input_in, said, card_says}
use Rattle.card.specs.laws.Records.{AllFit, from_laid, exactly_laid, laid_from}
use Rattle.transcript.specs.declared.Numbers.{Numbers}

pub record InputFits (i : Input) : Type 0 where
  pub strand_is : (i.strand ≡ pos 1) ⊎ (i.strand ≡ negsuc 0)
  pub start_fits : SFits w32 (number_of i.start)
  pub end_fits : SFits w32 (number_of i.end)
  pub few : length i.records < 65536
  pub records_fit : AllFit i.records

-- ---- what was written

strand_back : {z : ℤ} → (z ≡ pos 1) ⊎ (z ≡ negsuc 0) → strand_of (eqb (strand_byte z) 0) ≡ z
strand_back = ⊎_elim (λ e. rw e) (λ e. rw e)

start_back : (start end : Option ℤ) → start_of (cds_byte start end) (number_of start) ≡ start
start_back (Some z) (Some w) = refl
start_back (Some z) None = refl
start_back None (Some w) = refl
start_back None None = refl

end_back : (start end : Option ℤ) → end_of (cds_byte start end) (number_of end) ≡ end
end_back (Some z) (Some w) = refl
end_back (Some z) None = refl
end_back None (Some w) = refl
end_back None None = refl

strand_small : (z : ℤ) → leb (strand_byte z) 1 ≡ true
strand_small z = by_test (eq_z z (pos 1)) (λ t. rw t) (λ t. rw t)

cds_small : (start end : Option ℤ) → leb (cds_byte start end) both_bits ≡ true
cds_small (Some z) (Some w) = refl
cds_small (Some z) None = refl
cds_small None (Some w) = refl
cds_small None None = refl

same_yes : (z : ℤ) → eq_z z z ≡ true
same_yes z = eq_yes_by z z refl

module _ (i : Input) (f : InputFits i) where
  start_written : field_at (card_text i) start_at ≡ number_of i.start
  unfolding card_text header_text le32
  start_written = signed_back (number_of i.start) f.start_fits

  end_written : field_at (card_text i) end_at ≡ number_of i.end
  unfolding card_text header_text le32
  end_written = signed_back (number_of i.end) f.end_fits

  count_written : le16 (card_text i) count_at ≡ length i.records
  unfolding card_text header_text le16
  count_written = little_bytes 2 (length i.records) f.few

  cds_written : get_or (card_text i) cds_at 0 ≡ cds_byte i.start i.end
  unfolding card_text header_text
  cds_written = refl

  strand_written : get_or (card_text i) strand_at 0 ≡ strand_byte i.strand
  unfolding card_text header_text
  strand_written = refl

  records_written : drop records_at (card_text i) ≡ records_text i.records
  unfolding card_text header_text
  records_written = refl

  start_is : start_of (get_or (card_text i) cds_at 0) (field_at (card_text i) start_at) ≡ i.start
  start_is = ap₂ start_of cds_written start_written ∙ start_back i.start i.end

  end_is : end_of (get_or (card_text i) cds_at 0) (field_at (card_text i) end_at) ≡ i.end
  end_is = ap₂ end_of cds_written end_written ∙ end_back i.start i.end

  records_are : records_from (le16 (card_text i) count_at) (drop records_at (card_text i)) 0 ≡ i.records
  records_are = rw (count_written, records_written) (from_laid (records_text i.records) 0 f.records_fit refl)

  pub input_written : input_in (card_text i) (numbers_in (card_text i)) ≡ i
  unfolding numbers_in
  input_written = same_input (ap (λ (b : ℕ). strand_of (eqb b 0)) strand_written ∙ strand_back f.strand_is) start_is end_is records_are
    where
      same_input : {z : ℤ} {a b : Option ℤ} {rs : List Record} → z ≡ i.strand → a ≡ i.start → b ≡ i.end → rs ≡ i.records
          → ◌≡◌ {A = Input} (record { strand = z; start = a; end = b; records = rs }) i
      same_input ez ea eb er = rw (ez, ea, eb, er)

  marked_written : is_marked (card_text i) ≡ true
  unfolding is_marked card_text header_text
  marked_written = rw (le-leb strand_at (length (card_text i)) (omega arith))

  version_written : le16 (card_text i) version_at ≡ version
  unfolding card_text header_text le16
  version_written = refl

  long_written : records_at ≤ length (card_text i)
  unfolding card_text header_text
  long_written = omega arith

  exactly_written : exactly (le16 (card_text i) count_at) (drop records_at (card_text i)) 0 ≡ true
  exactly_written = rw (count_written, records_written) (exactly_laid (records_text i.records) 0 f.records_fit (omega arith) refl)

  plain_written : are_plain (cds_byte i.start i.end) (number_of i.start) (number_of i.end) ≡ true
  unfolding are_plain
  plain_written =
      rw (start_back i.start i.end, same_yes (number_of i.start), end_back i.start i.end, same_yes (number_of i.end))

  card_written : is_card (card_text i) ≡ true
  unfolding is_card
  card_written =
      rw (
        le-leb records_at (length (card_text i)) long_written,
        strand_written,
        strand_small i.strand,
        cds_written,
        cds_small i.start i.end,
        start_written,
        end_written,
        plain_written,
        exactly_written,
      )

  read_written : length (card_text i) ≤ most_card → read_card (card_text i) ≡ Ok (numbers_in (card_text i))
  unfolding read_card
  read_written h =
      rw (
        le-ltb most_card (length (card_text i)) h,
        marked_written,
        eq-eqb (le16 (card_text i) version_at) version version_written,
        card_written,
      )

  pub reads_back_lem : length (card_text i) ≤ most_card → card_says (card_text i) ≡ Ok i
  reads_back_lem h = ap (said (card_text i)) (read_written h) ∙ ap Ok input_written

pub one_card : (i j : Input) → InputFits i → InputFits j → card_text i ≡ card_text j → i ≡ j
one_card i j f g e = sym (input_written i f) ∙ ap (λ (s : List ℕ). input_in s (numbers_in s)) e ∙ input_written j g

-- ---- what was read

-- what bytes that read as a card are like
pub record IsCard (s : List ℕ) : Type 0 where
  pub few : length s ≤ most_card
  pub marked : take 3 s ≡ mark
  pub version_is : le16 s version_at ≡ version
  pub long : records_at ≤ length s
  pub strand_low : get_or s strand_at 0 ≤ 1
  pub cds_low : get_or s cds_at 0 ≤ both_bits
  pub start_plain : number_of (start_of (get_or s cds_at 0) (field_at s start_at)) ≡ field_at s start_at
  pub end_plain : number_of (end_of (get_or s cds_at 0) (field_at s end_at)) ≡ field_at s end_at
  pub exact : exactly (le16 s count_at) (drop records_at s) 0 ≡ true

three : (s : List ℕ) → 3 ≤ length s → take 3 s ≡ get_or s 0 0 ∷ get_or s 1 0 ∷ get_or s 2 0 ∷ []
three [] h = absurd (omega arith)
three (a ∷ []) h = absurd (omega arith)
three (a ∷ b ∷ []) h = absurd (omega arith)
three (a ∷ b ∷ c ∷ s) h = refl

marked_means : (s : List ℕ) → is_marked s ≡ true → take 3 s ≡ mark
unfolding is_marked
marked_means s e =
    let l = both _ _ e in
    let a = both _ _ l.1 in
    let b = both _ _ a.1 in
    three s (omega (arith, leb-true strand_at (length s) l.0))
    ∙ rw (eqb-true (get_or s 0 0) (code "T") a.0, eqb-true (get_or s 1 0) (code "X") b.0, eqb-true (get_or s 2 0) (code "C") b.1)

plain_means : (b : ℕ) (z w : ℤ) → are_plain b z w ≡ true → (number_of (start_of b z) ≡ z) × (number_of (end_of b w) ≡ w)
unfolding are_plain
plain_means b z w e =
    let a = both _ _ e in
    (eq_means (number_of (start_of b z)) z a.0, eq_means (number_of (end_of b w)) w a.1)

card_means : (s : List ℕ) → length s ≤ most_card → is_marked s ≡ true → le16 s version_at ≡ version → is_card s ≡ true → IsCard s
unfolding is_card
card_means s f m v e =
    let a = both _ _ e in
    let b = both _ _ a.1 in
    let c = both _ _ b.1 in
    let d = both _ _ c.1 in
    let p = plain_means (get_or s cds_at 0) (field_at s start_at) (field_at s end_at) d.0 in
    record {
      few = f;
      marked = marked_means s m;
      version_is = v;
      long = leb-true _ _ a.0;
      strand_low = leb-true _ _ b.0;
      cds_low = leb-true _ _ c.0;
      start_plain = p.0;
      end_plain = p.1;
      exact = d.1;
    }

pub read_means : (s : List ℕ) (m : Numbers) → read_card s ≡ Ok m → IsCard s × (m ≡ numbers_in s)
unfolding read_card
read_means s m e =
    by_test (ltb most_card (length s))
    (λ t. absurd (clash (simp t at e)))
    (λ t. by_test (is_marked s)
    (λ u. by_test (eqb (le16 s version_at) version)
    (λ v. by_test (is_card s)
    (λ w. (card_means s (ltb-false most_card (length s) t) u (eqb-true _ _ v) w, same (simp (t, u, v, w) at e)))
    (λ w. absurd (clash (simp (t, u, v, w) at e))))
    (λ v. absurd (clash (simp (t, u, v) at e))))
    (λ u. absurd (clash (simp (t, u) at e))))
  where
    clash : {k : Refusal} → ◌≡◌ {A = Outcome Numbers} (Err k) (Ok m) → ⊥
    clash q = let z : ◌≡◌ {A = ℕ} 0 1 = cc in omega arith

    same : ◌≡◌ {A = Outcome Numbers} (Ok (numbers_in s)) (Ok m) → m ≡ numbers_in s
    same q = cc

strand_kept : (b : ℕ) → b ≤ 1 → strand_byte (strand_of (eqb b 0)) ≡ b
strand_kept b h = by_test (eqb b 0) (λ t. rw t (sym (eqb-true b 0 t))) (λ t. rw t (omega (arith, eqb-false b 0 t)))

pub cds_kept : (b : ℕ) (z w : ℤ) → b ≤ both_bits → cds_byte (start_of b z) (end_of b w) ≡ b
cds_kept b z w h =
    by_test (eqb (b % 2) 1)
    (λ t. by_test (leb 2 b)
    (λ u. rw (t, u) (omega (arith, eqb-true (b % 2) 1 t, leb-true 2 b u)))
    (λ u. rw (t, u) (omega (arith, eqb-true (b % 2) 1 t, leb-false 2 b u))))
    (λ t. by_test (leb 2 b)
    (λ u. rw (t, u) (omega (arith, eqb-false (b % 2) 1 t, leb-true 2 b u)))
    (λ u. rw (t, u) (omega (arith, eqb-false (b % 2) 1 t, leb-false 2 b u))))

two : (s : List ℕ) → strand_at + 2 ≤ length s → take 2 (drop strand_at s) ≡ get_or s strand_at 0 ∷ get_or s cds_at 0 ∷ []
two s h = rw (drop-cons s strand_at 0 (omega arith), drop-cons s cds_at 0 (omega arith))

module _ (s : List ℕ) (bs : Bytes s) (c : IsCard s) where
  abbrev its : Input
  its = input_in s (numbers_in s)

  bytes_kept : strand_byte (strand_of (eqb (get_or s strand_at 0) 0)) ∷ cds_byte its.start its.end ∷ [] ≡ take 2 (drop strand_at s)
  unfolding numbers_in
  bytes_kept =
      rw (strand_kept (get_or s strand_at 0) c.strand_low, cds_kept (get_or s cds_at 0) (field_at s start_at) (field_at s end_at) c.cds_low)
      (sym (two s (omega (arith, c.long))))

  -- a bound's number, which is 0 if it is not given
  bound_kept : (at : ℕ) (b : Option ℤ) → at + 4 ≤ records_at → number_of b ≡ field_at s at → bytes32 (bits32 (number_of b)) ≡ take 4 (drop at s)
  bound_kept at b h e = ap (λ (z : ℤ). bytes32 (bits32 z)) e ∙ field_laid s at bs (omega (arith, c.long))

  count_kept : bytes16 (length its.records) ≡ take 2 (drop count_at s)
  unfolding numbers_in
  count_kept = ap bytes16 (records_length (le16 s count_at) (drop records_at s) 0) ∙ bytes16_le s count_at bs (omega (arith, c.long))

  header_kept : header_text its.strand its.start its.end (length its.records) ≡ take records_at s
  unfolding header_text numbers_in
  header_kept =
      beside s 0 count_at 2
      (beside s 0 end_at 4
      (beside s 0 start_at 4
      (beside s 0 strand_at 2
      (beside s 0 version_at 2 (sym c.marked) (ap bytes16 (sym c.version_is) ∙ bytes16_le s version_at bs (omega (arith, c.long))))
      bytes_kept)
      (bound_kept start_at its.start (omega arith) c.start_plain))
      (bound_kept end_at its.end (omega arith) c.end_plain))
      count_kept

  pub text_kept : card_text its ≡ s
  unfolding card_text numbers_in
  text_kept =
      ap₂ (λ (a b : List ℕ). a ++ b) header_kept (laid_from (le16 s count_at) (drop records_at s) 0 (drop_bytes records_at s bs) c.exact)
      ∙ take-append-drop records_at s

-- what a card says is written as that card
pub is_canonical : (s : List ℕ) (i : Input) → Bytes s → card_says s ≡ Ok i → card_text i ≡ s
is_canonical s i bs e = go (read_card s) refl e
  where
    go : (r : Outcome Numbers) → read_card s ≡ r → said s r ≡ Ok i → card_text i ≡ s
    go (Ok m) h q =
        let k = read_means s m h in
        let j : i ≡ input_in s (numbers_in s) = sym (input_same q) ∙ ap (input_in s) k.1 in
        ap card_text j ∙ text_kept s bs k.0
      where
        input_same : {a : Input} → ◌≡◌ {A = Outcome Input} (Ok a) (Ok i) → a ≡ i
        input_same x = cc
    go (Err k) h q = absurd (let z : ◌≡◌ {A = ℕ} 0 1 = cc in omega arith)
