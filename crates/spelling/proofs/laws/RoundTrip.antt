-- Reading what was written gives the same elements, and a text that was read can be written again.
--     read_count, read_letter    a count in decimal, and a letter, in front of what follows
--     read-back       any sound elements, written and read
--     read_again      the elements of a text that was read, written and read again
--     shorter         written again, a text is no longer than it was
--     p14             `M0X3=` reads as 1M 0X 3=, and is written unchanged
-- Assumes nothing.
use Rattle.std.specs.Prelude.{◌≡◌, refl, Bool, true, false, List, [], ◌∷◌, ◌++◌, ℕ, zero, suc, ◌+◌, ◌*◌, ◌-◌, ◌/◌, ◌%◌, ◌≤◌, ◌<◌, ltb, eqb, length, if◌then◌else◌}
use Rattle.std.proofs.Common.{ap, subst, ◌∙◌, true≢false, div-add-mod', arith, length-append, le-ltb, ne_eqb}
use Prim.Native.Char.{code}
use Rattle.std.proofs.Math.Decide.{dec_lt, ℕ_discrete}
use Rattle.std.proofs.Math.Seq.{append_snoc}
use Rattle.whole.specs.laws.Whole.{by_test}
use Rattle.refusals.specs.Numbers.{most_count}
use Rattle.refusals.specs.Outcome.{Ok, Err}
use Rattle.cigar.specs.Bytes.{ascii}
use Rattle.cigar.specs.Elements.{Element, is_letter}
use Rattle.cigar.specs.laws.Letters.{digit_bounds, digit_yes, letter_no_digit}
use Rattle.cigar.specs.Text.{is_digit, count_of, Reading, before, element, taken, read_from, read_all}
use Rattle.cigar.specs.Read.{read_text}
use Rattle.cigar.specs.laws.Sound.{AllSound, read_sound, read_room}
use Rattle.spelling.specs.Write.{digits_by, decimal, element_text, elements_text}
use Rattle.spelling.proofs.laws.Decimal.{decimal_one, decimal_more, length_more, text_one, text_more, text_length}

-- a digit in front
read_digit : (room : ℕ) (given : Bool) (m d : ℕ) (s : List ℕ) → d < 10 → read_from room given m ((48 + d) ∷ s) ≡ read_from room true (m * 10 + d) s
unfolding read_from
read_digit room given m d s h =
    rw (digit_yes d h) (ap (λ (k : ℕ). read_from room true k s) {x = m * 10 + (48 + d - 48)} {y = m * 10 + d} (omega arith))

-- a count in front, whatever is behind it
pub read_count : (room k n : ℕ) → n < k → (given : Bool) (s : List ℕ) → read_from room given 0 (decimal n ++ s) ≡ read_from room true n s
read_count room zero n h given s = absurd (omega arith)
read_count room (suc k) n h given s =
    elim (dec_lt n 10) [
      | yes l ↦
          rw (decimal_one n l)
          (read_digit room given 0 n s l ∙ ap (λ (k : ℕ). read_from room true k s) {x = 0 * 10 + n} {y = n} (omega arith))
      | no g ↦
          rw (decimal_more n (omega arith))
          (ap (read_from room given 0) (append_snoc (decimal (n / 10)) (48 + n % 10) s)
          ∙ read_count room k (n / 10) (omega arith) given ((48 + n % 10) ∷ s)
          ∙ read_digit room true (n / 10) (n % 10) s (omega arith)
          ∙ ap (λ (k : ℕ). read_from room true k s) (div-add-mod' n 10))
    ]

-- a letter in front
pub read_letter : (room : ℕ) (given : Bool) (n letter : ℕ) (s : List ℕ) → 0 < room → count_of given n ≤ most_count → is_letter letter ≡ true
    → read_from room given n (letter ∷ s) ≡ before (element (count_of given n) letter) (read_all (room - 1) s)
unfolding read_from
read_letter room given n letter s r h l =
    rw (letter_no_digit letter l, l, le-ltb most_count (count_of given n) h, ne_eqb room 0 (λ z. omega arith))

-- an element in front, whatever is behind it
pub read_element : (room n letter : ℕ) (s : List ℕ) → 0 < room → n ≤ most_count → is_letter letter ≡ true
    → read_all room (element_text n letter ++ s) ≡ before (element n letter) (read_all (room - 1) s)
read_element room n letter s r h l =
    elim (ℕ_discrete n 1) [
      | yes e ↦ rw (text_one n letter e, e) (read_letter room false 0 letter s r (omega arith) l)
      | no ne ↦
          rw (text_more n letter ne)
          (ap (read_from room false 0) (append_snoc (decimal n) letter s)
          ∙ read_count room (suc n) n (omega arith) false (letter ∷ s)
          ∙ read_letter room true n letter s r h l)
    ]

pub read_back : (room : ℕ) (es : List Element) → AllSound es → length es ≤ room → read_all room (elements_text es) ≡ Ok es
unfolding elements_text read_from
read_back room [] h r = refl
read_back room (x ∷ es) h r =
    read_element room x.count x.letter (elements_text es) (omega arith) h.0.small h.0.lettered
    ∙ ap (before x) (read_back (room - 1) es h.1 (omega arith))

pub read_again : (room : ℕ) (text : List ℕ) {es : List Element} → read_all room text ≡ Ok es → read_all room (elements_text es) ≡ Ok es
read_again room text {es} e = read_back room es (read_sound room text e) (read_room room text e)

-- ---- a text that was read is no longer when it is written

-- the digits so far
so_far : Bool → ℕ → ℕ
so_far given n = if given then length (decimal n) else 0

-- the text of a reading's elements has at most k bytes
abbrev Short : ℕ → Reading → Type 0
Short k (Ok es) = length (elements_text es) ≤ k
Short k (Err number) = Unit

-- one digit more is at most one byte more
digit_long : (n d : ℕ) → d < 10 → length (decimal (n * 10 + d)) ≤ length (decimal n) + 1
digit_long n d h =
    elim (dec_lt (n * 10 + d) 10) [
      | yes l ↦ rw (decimal_one (n * 10 + d) l) (omega arith)
      | no g ↦
          let same : (n * 10 + d) / 10 ≡ n = omega arith in
          let more = length_more (n * 10 + d) (omega arith) in
          omega (arith, ap (λ (k : ℕ). length (decimal k)) same)
    ]

short_digit : (given : Bool) (n d : ℕ) → (given ≡ false → n ≡ 0) → d < 10 → length (decimal (n * 10 + d)) ≤ so_far given n + 1
unfolding so_far
short_digit true n d z h = digit_long n d h
short_digit false n d z h = let none = z refl in rw (decimal_one (n * 10 + d) (omega arith)) (omega arith)

short_element : (given : Bool) (n letter : ℕ) → length (element_text (count_of given n) letter) ≤ so_far given n + 1
unfolding so_far
short_element true n letter =
    elim (ℕ_discrete n 1) [
      | yes e ↦ rw (text_one n letter e) (omega arith)
      | no ne ↦ omega (arith, text_length n letter ne)
    ]
short_element false n letter = rw (text_one 1 letter refl) (omega arith)

short_before : (k : ℕ) (x : Element) (r : Reading) → Short k r → Short (length (element_text x.count x.letter) + k) (before x r)
unfolding elements_text
short_before k x (Ok es) h = omega (arith, length-append (element_text x.count x.letter) (elements_text es))
short_before k x (Err number) h = tt

short_wider : (k m : ℕ) (r : Reading) → k ≤ m → Short k r → Short m r
short_wider k m (Ok es) h s = omega arith
short_wider k m (Err number) h s = tt

short_taken : (k room : ℕ) (x : Element) (r : Reading) → Short k r → Short (length (element_text x.count x.letter) + k) (taken room x r)
short_taken k room x r h =
    by_test (ltb most_count x.count) (λ e. rw e tt)
    (λ e. by_test (eqb room 0) (λ z. rw (e, z) tt) (λ z. rw (e, z) (short_before k x r h)))

short_read : (s : List ℕ) (room : ℕ) (given : Bool) (n : ℕ) → (given ≡ false → n ≡ 0) → Short (length s + so_far given n) (read_from room given n s)
unfolding read_from elements_text so_far
short_read [] room true n z = tt
short_read [] room false n z = omega arith
short_read (b ∷ s) room given n z =
    by_test (is_digit b)
    (λ d.
    let bounds = digit_bounds b d in
    let longer = short_digit given n (b - 48) z (omega arith) in
    rw d
    (short_wider (length s + so_far true (n * 10 + (b - 48))) (suc (length s) + so_far given n) (read_from room true (n * 10 + (b - 48)) s) (omega arith)
    (short_read s room true (n * 10 + (b - 48)) (λ e. absurd (true≢false e)))))
    (λ d.
    by_test (is_letter b)
    (λ l.
    let x = element (count_of given n) b in
    let rest = read_from (room - 1) false 0 s in
    let long = short_element given n b in
    rw (d, l)
    (short_wider (length (element_text (count_of given n) b) + (length s + 0)) (suc (length s) + so_far given n) (taken room x rest) (omega arith)
    (short_taken (length s + 0) room x rest (short_read s (room - 1) false 0 (λ _. refl)))))
    (λ l. rw (d, l) tt))

pub shorter : (room : ℕ) (text : List ℕ) {es : List Element} → read_all room text ≡ Ok es → length (elements_text es) ≤ length text
unfolding so_far
shorter room text e = omega (arith, subst (Short (length text + 0)) e (short_read text room false 0 (λ _. refl)))

pub p14 : (let text : List ℕ = ascii "M0X3=" in let es : List Element = element 1 (code "M") ∷ element 0 (code "X") ∷ element 3 (code "=") ∷ [] in
    (read_text text ≡ Ok es) × (elements_text es ≡ text))
unfolding is_letter read_text read_from digits_by decimal element_text elements_text
p14 = (refl, refl)
