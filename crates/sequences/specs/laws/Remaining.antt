-- What remains of two alleles, by what is around it and by its bounds. The suffix is looked for behind the prefix, so the two lie apart.
--     put_together     the alleles are the common prefix, what remains of each, and the common suffix
--     apart            the bytes that go at the front and those at the back do not overlap
--     inside           the bounds lie inside their allele
--     tied             two equal alleles leave the empty part at the end of the reference
-- Assumes nothing.
use Rattle.std.specs.Prelude.{◌≡◌, refl, Bool, true, false, cond, List, ◌++◌, ℕ, ◌+◌, ◌-◌, ◌≤◌, length, take, drop}
use Rattle.std.proofs.Common.{sym, ap, ◌∙◌, le_refl, arith, length-drop, take-append-drop, le-ltb}
use Rattle.sequences.specs.declared.Part.{Part}
use Rattle.sequences.specs.Alleles.{prefix_len, last_of, stretch, bytes_before, after, middle, remains, changed_part}
use Rattle.sequences.specs.laws.InCommon.{prefix_within, suffix_within, prefix_common, suffix_common, prefix_longest}

-- any list, with p bytes off its front and then q off its back
in_three : (p q : ℕ) (s : List ℕ) → s ≡ take p s ++ (stretch s p (length s - q) ++ last_of (drop p s) q)
in_three p q s =
    let size : length (drop p s) - q ≡ length s - q - p = omega (arith, length-drop p s) in
    let both : drop p s ≡ stretch s p (length s - q) ++ last_of (drop p s) q =
    sym (take-append-drop (length (drop p s) - q) (drop p s)) ∙ ap (λ (n : ℕ). take n (drop p s) ++ last_of (drop p s) q) size
    in
    sym (take-append-drop p s) ∙ ap (λ (l : List ℕ). take p s ++ l) both

-- bounds that lie inside the allele
pub record Inside (k : Part) (r a : List ℕ) : Type 0 where
  pub ordered : k.from ≤ k.to
  pub ends : k.to ≤ length (cond k.alternative a r)

module _ (r a : List ℕ) where
  -- what both begin and end with
  abbrev pub first : List ℕ
  first = take (bytes_before r a) r

  abbrev pub last : List ℕ
  last = last_of (drop (bytes_before r a) r) (after r a)

  pub put_together : (r ≡ first ++ (middle r a r ++ last)) × (a ≡ first ++ (middle r a a ++ last))
  put_together =
      let p : ℕ = bytes_before r a in
      let q : ℕ = after r a in
      let begins : take p a ≡ first = sym (prefix_common r a) in
      let ends : last_of (drop p a) q ≡ last = sym (suffix_common (drop p r) (drop p a)) in
      (in_three p q r, in_three p q a ∙ cc (begins, ends))

  pub apart : (bytes_before r a + after r a ≤ length r) × (bytes_before r a + after r a ≤ length a)
  apart =
      let p : ℕ = bytes_before r a in
      let q = suffix_within (drop p r) (drop p a) in
      (omega (arith, prefix_within r a, q, length-drop p r), omega (arith, prefix_within r a, q, length-drop p a))

  pub inside : (alternative : Bool) → Inside (remains r a alternative) r a
  inside true = record { ordered = omega (arith, apart); ends = omega arith }
  inside false = record { ordered = omega (arith, apart); ends = omega arith }

pub tied : (s : List ℕ) → changed_part s s ≡ record { alternative = false; from = length s; to = length s }
tied s =
    let same : length s ≤ length s = le_refl (length s) in
    let all : prefix_len s s ≡ length s = omega (arith, prefix_within s s, prefix_longest s s (length s) same same refl) in
    let none : length s - after s s ≡ length s = omega (arith, apart s s) in
    rw (le-ltb (length s) (length s) same) (cc (all, none))
