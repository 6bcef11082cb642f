-- What two lists have in common, from the front and from the back. Turned round, a list begins with its end, so what holds of the front holds of the back.
--     prefix_within, suffix_within      no more than either list has
--     prefix_common, suffix_common      the bytes that are counted are the same in both
--     prefix_longest, suffix_longest    no more bytes are the same in both
--     prefix_differs, suffix_differs    so what is left begins, or ends, with two different bytes, unless one is empty
-- Assumes nothing.
use Rattle.std.specs.Prelude.{◌≡◌, refl, ℕ, zero, suc, ◌-◌, ◌≤◌, ◌<◌, length, get_or, take, drop}
use Rattle.std.proofs.Common.{sym, ap, ◌∙◌, zero-le, suc-le-suc, le_of_suc-le-suc, arith, length-drop, take-append-drop, take-suc, take_at, eq-eqb, ne_eqb}
use mathlib.Core.List.{List, [], ◌∷◌, reverse, reverse-cons, reverse-reverse, reverse-append}
use Rattle.std.proofs.Math.Decide.{ℕ_discrete, dec_lt}
use Rattle.std.proofs.lemmas.List.{length-reverse, get_or_at}
use Rattle.std.proofs.Math.ListN.{get_or-append}
use Rattle.sequences.specs.Alleles.{prefix_len, suffix_len, last_of}

pub prefix_within : (s t : List ℕ) → (prefix_len s t ≤ length s) × (prefix_len s t ≤ length t)
unfolding prefix_len
prefix_within [] t = (omega arith, omega arith)
prefix_within (a ∷ s) [] = (omega arith, omega arith)
prefix_within (a ∷ s) (b ∷ t) =
    elim (ℕ_discrete a b) [
      | yes e ↦ rw (eq-eqb a b e) (suc-le-suc (prefix_within s t).0, suc-le-suc (prefix_within s t).1)
      | no n ↦ rw (ne_eqb a b n) (omega arith, omega arith)
    ]

pub prefix_common : (s t : List ℕ) → take (prefix_len s t) s ≡ take (prefix_len s t) t
unfolding prefix_len
prefix_common [] [] = refl
prefix_common [] (b ∷ t) = refl
prefix_common (a ∷ s) [] = refl
prefix_common (a ∷ s) (b ∷ t) =
    elim (ℕ_discrete a b) [
      | yes e ↦ rw (eq-eqb a b e) (cc (e, prefix_common s t))
      | no n ↦ rw (ne_eqb a b n)
    ]

pub prefix_longest : (s t : List ℕ) (k : ℕ) → k ≤ length s → k ≤ length t → take k s ≡ take k t → k ≤ prefix_len s t
unfolding prefix_len
prefix_longest [] t k hs ht e = hs
prefix_longest (a ∷ s) [] k hs ht e = ht
prefix_longest (a ∷ s) (b ∷ t) zero hs ht e = zero-le
prefix_longest (a ∷ s) (b ∷ t) (suc k) hs ht e =
    let here : a ≡ b = cc in
    let tail : take k s ≡ take k t = cc in
    rw (eq-eqb a b here) (suc-le-suc (prefix_longest s t k (le_of_suc-le-suc hs) (le_of_suc-le-suc ht) tail))

-- the byte after the common prefix
pub prefix_differs : (s t : List ℕ) → let p : ℕ = prefix_len s t in p < length s → p < length t → get_or s p 0 ≡ get_or t p 0 → ⊥
prefix_differs s t hs ht e =
    let p : ℕ = prefix_len s t in
    let same : take (suc p) s ≡ take (suc p) t = rw (take-suc s p 0 hs, take-suc t p 0 ht) (cc (e, prefix_common s t)) in
    omega (arith, prefix_longest s t (suc p) hs ht same)

-- the i-th byte from the back
pub get_d_reverse : (s : List ℕ) (i : ℕ) → i < length s → get_or (reverse s) i 0 ≡ get_or s (length s - 1 - i) 0
get_d_reverse [] i h = refl
get_d_reverse (x ∷ s) i h =
    rw (reverse-cons x s)
    (elim (dec_lt i (length s)) [
      | yes l ↦
          get_or-append (reverse s) (x ∷ []) 0 i (rw length-reverse l)
          ∙ get_d_reverse s i l
          ∙ ap (λ (k : ℕ). get_or (x ∷ s) k 0) {x = suc (length s - 1 - i)} {y = suc (length s) - 1 - i} (omega arith)
      | no n ↦
          get_or_at (reverse s) x [] 0 i (rw length-reverse (omega arith))
          ∙ ap (λ (k : ℕ). get_or (x ∷ s) k 0) {x = 0} {y = suc (length s) - 1 - i} (omega arith)
    ])

-- the last q bytes are the first q of the list turned round
take_reverse : (q : ℕ) (s : List ℕ) → q ≤ length s → take q (reverse s) ≡ reverse (last_of s q)
take_reverse q s h =
    let n : ℕ = length s - q in
    let size : length (reverse (drop n s)) ≡ q = rw (length-reverse, length-drop) (omega arith) in
    ap (λ (l : List ℕ). take q (reverse l)) (sym (take-append-drop n s))
    ∙ ap (take q) (reverse-append (take n s) (drop n s))
    ∙ take_at (reverse (drop n s)) (reverse (take n s)) q size

pub suffix_within : (s t : List ℕ) → (suffix_len s t ≤ length s) × (suffix_len s t ≤ length t)
unfolding suffix_len
suffix_within s t = rw (length-reverse, length-reverse) at (prefix_within (reverse s) (reverse t))

pub suffix_common : (s t : List ℕ) → last_of s (suffix_len s t) ≡ last_of t (suffix_len s t)
unfolding suffix_len
suffix_common s t =
    let q : ℕ = suffix_len s t in
    let turned : reverse (last_of s q) ≡ reverse (last_of t q) =
    sym (take_reverse q s (suffix_within s t).0) ∙ prefix_common (reverse s) (reverse t) ∙ take_reverse q t (suffix_within s t).1
    in
    sym (reverse-reverse (last_of s q)) ∙ ap reverse turned ∙ reverse-reverse (last_of t q)

pub suffix_longest : (s t : List ℕ) (k : ℕ) → k ≤ length s → k ≤ length t → last_of s k ≡ last_of t k → k ≤ suffix_len s t
unfolding suffix_len
suffix_longest s t k hs ht e =
    prefix_longest (reverse s) (reverse t) k (rw length-reverse hs) (rw length-reverse ht)
    (take_reverse k s hs ∙ ap reverse e ∙ sym (take_reverse k t ht))

-- the byte before the common suffix
pub suffix_differs : (s t : List ℕ) → let q : ℕ = suffix_len s t in q < length s → q < length t → get_or s (length s - 1 - q) 0 ≡ get_or t (length t - 1 - q) 0 → ⊥
unfolding suffix_len
suffix_differs s t hs ht e =
    prefix_differs (reverse s) (reverse t) (rw length-reverse hs) (rw length-reverse ht)
    (get_d_reverse s (suffix_len s t) hs ∙ e ∙ sym (get_d_reverse t (suffix_len s t) ht))
