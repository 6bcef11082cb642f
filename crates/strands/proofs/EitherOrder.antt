-- Where the common prefix and the common suffix of two alleles do not overlap, either may go first, and so what changed on the other strand is what changed on this one, turned. Where they overlap, it is as much in all.
-- Assumes nothing.
use mathlib.Core.Path.{◌≡◌, sym, ap, ◌∙◌}
use mathlib.Core.List.{List}
use Prim.Native.Nat.{ℕ, ◌+◌, ◌-◌, ◌≤◌, min}
use native.Mathlib.Omega.{arith}
use lib.ListN.{length, drop, length-drop}
use lib.Seq.{drop-drop}
use Rattle.sequences.specs.Alleles.{prefix_len, suffix_len, last_of, after, changed_of}
use Rattle.strands.specs.Turned.{turned, prefix_after, changed_back}
use Rattle.strands.specs.laws.Turning.{turned_length}
use Rattle.strands.specs.laws.Strands.{prefix_turned, suffix_turned, after_turned, either_order}
use Rattle.sequences.specs.laws.InCommon.{prefix_within, suffix_within, suffix_common, suffix_longest}
use Rattle.sequences.specs.laws.Remaining.{apart}

-- they do not overlap, in either allele
pub record Clear (r a : List ℕ) : Type 0 where
  pub in_r : prefix_len r a + suffix_len r a ≤ length r
  pub in_a : prefix_len r a + suffix_len r a ≤ length a

-- what is behind the first p bytes ends as the list does
last_behind : (p q : ℕ) (s : List ℕ) → p + q ≤ length s → last_of (drop p s) q ≡ last_of s q
last_behind p q s h =
    drop-drop (length (drop p s) - q) p s
    ∙ ap (λ (n : ℕ). drop n s) {x = p + (length (drop p s) - q)} {y = length s - q} (omega (arith, length-drop p s))

-- fewer bytes than those in common from the back are in common too
last_fewer : (m q : ℕ) (r a : List ℕ) → m ≤ q → q ≤ length r → q ≤ length a → last_of r q ≡ last_of a q → last_of r m ≡ last_of a m
last_fewer m q r a h hr ha e = sym (fewer r hr) ∙ ap (drop (q - m)) e ∙ fewer a ha
  where
    fewer : (s : List ℕ) → q ≤ length s → drop (q - m) (last_of s q) ≡ last_of s m
    fewer s hs = drop-drop (q - m) (length s - q) s ∙ ap (λ (n : ℕ). drop n s) {x = length s - q + (q - m)} {y = length s - m} (omega arith)

-- behind the prefix the suffix is what there is room for
rest_of_suffix : (r a : List ℕ) → after r a ≡ min (suffix_len r a) (min (length r) (length a) - prefix_len r a)
rest_of_suffix r a =
    let p : ℕ = prefix_len r a in
    let q : ℕ = suffix_len r a in
    let k : ℕ = after r a in
    let m : ℕ = min q (min (length r) (length a) - p) in
    let within = prefix_within r a in
    let reach = suffix_within r a in
    let in_r : p + m ≤ length r = omega arith in
    let in_a : p + m ≤ length a = omega arith in
    let least : m ≤ k =
    suffix_longest (drop p r) (drop p a) m (omega (arith, length-drop p r)) (omega (arith, length-drop p a))
    (last_behind p m r in_r ∙ last_fewer m q r a (omega arith) (omega arith) (omega arith) (suffix_common r a) ∙ sym (last_behind p m a in_a))
    in
    let most : k ≤ q =
    suffix_longest r a k (omega (arith, apart r a)) (omega (arith, apart r a))
    (sym (last_behind p k r (apart r a).0) ∙ suffix_common (drop p r) (drop p a) ∙ last_behind p k a (apart r a).1)
    in
    omega (arith, apart r a)

-- where they do not overlap, that is the whole of it
whole_suffix : (r a : List ℕ) → Clear r a → after r a ≡ suffix_len r a
whole_suffix r a c = omega (arith, rest_of_suffix r a, c.in_r, c.in_a)

clear_turned : (r a : List ℕ) → Clear r a → Clear (turned r) (turned a)
clear_turned r a c =
    record {
      in_r = omega (arith, c.in_r, prefix_turned r a, suffix_turned r a, turned_length r);
      in_a = omega (arith, c.in_a, prefix_turned r a, suffix_turned r a, turned_length a);
    }

-- and the prefix before the suffix is the whole one, as the other strand sees it
whole_prefix : (r a : List ℕ) → Clear r a → prefix_after r a ≡ prefix_len r a
whole_prefix r a c = sym (after_turned r a) ∙ whole_suffix (turned r) (turned a) (clear_turned r a c) ∙ sym (prefix_turned r a)

pub either_first : (r a : List ℕ) → Clear r a → changed_back r a ≡ changed_of r a
unfolding changed_of
either_first r a c = rw (whole_prefix r a c, whole_suffix r a c)

pub clear_changed : (r a : List ℕ) → Clear r a → changed_of (turned r) (turned a) ≡ turned (changed_of r a)
clear_changed r a c = either_order r a (either_first r a c)

-- as many bytes go in all on either strand
pub as_much : (r a : List ℕ) → prefix_len r a + after r a ≡ prefix_len (turned r) (turned a) + after (turned r) (turned a)
as_much r a =
    omega (
      arith,
      rest_of_suffix r a,
      rest_of_suffix (turned r) (turned a),
      prefix_turned r a,
      suffix_turned r a,
      turned_length r,
      turned_length a,
      prefix_within r a,
      suffix_within r a,
    )
