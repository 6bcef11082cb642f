-- What two alleles have in common, and what changed, before turning and after it. It holds of all bytes, as a byte that is no base stays.
--     prefix_turned, suffix_turned         the common prefix before turning is as long as the common suffix after it, and the other way round
--     first_turned, last_turned            so it is that suffix, or that prefix, turned
--     rest_turned, front_turned            and what is left without it is turned too
--     drop_turned, without_last_turned     as of any number of bytes
--     before_turned, after_turned          how many bytes go at the front and then at the back, after turning
--     middle_turned, changed_turned        prefix then suffix removed after turning are suffix then prefix removed before it
--     either_order                         where both orders leave the same, what changed is turned
-- Assumes nothing.
use Rattle.std.specs.Prelude.{◌≡◌, refl, Bool, true, false, cond, List, [], ◌∷◌, ◌++◌, map, ℕ, zero, suc, ◌-◌, ltb, length, take, drop}
use Rattle.std.proofs.Common.{sym, ap, ◌∙◌, length-drop, take-append-drop, take_at, drop_at, eq-eqb, ne_eqb}
use Rattle.std.proofs.Math.Nat.{sub-zero, zero-sub, suc-sub-suc}
use Rattle.std.proofs.Math.Decide.{ℕ_discrete}
use Rattle.std.proofs.Math.Seq.{take-nil}
use Rattle.sequences.specs.Alleles.{prefix_len, suffix_len, last_of, without_last, stretch, bytes_before, after, middle, changed_of}
use Rattle.strands.specs.Turned.{complement, turned, prefix_after, middle_back, changed_back}
use Rattle.sequences.specs.laws.Parts.{front_first}
use Rattle.strands.specs.laws.Letters.{complement_twice}
use Rattle.strands.specs.laws.Turning.{turned_length, reverse_turned, turned_twice, turned_append}

-- ---- how much is in common

-- no two letters have one complement
complement_apart : (a b : ℕ) → complement a ≡ complement b → a ≡ b
complement_apart a b e = sym (complement_twice a) ∙ ap complement e ∙ complement_twice b

prefix_map : (s t : List ℕ) → prefix_len (map complement s) (map complement t) ≡ prefix_len s t
unfolding prefix_len
prefix_map [] t = refl
prefix_map (a ∷ s) [] = refl
prefix_map (a ∷ s) (b ∷ t) =
    elim (ℕ_discrete a b) [
      | yes e ↦ rw (eq-eqb a b e, eq-eqb (complement a) (complement b) (ap complement e)) (ap suc (prefix_map s t))
      | no n ↦ rw (ne_eqb a b n, ne_eqb (complement a) (complement b) (λ e. n (complement_apart a b e)))
    ]

pub prefix_turned : (r a : List ℕ) → prefix_len r a ≡ suffix_len (turned r) (turned a)
unfolding suffix_len
prefix_turned r a = sym (rw (reverse_turned r, reverse_turned a) (prefix_map r a))

pub suffix_turned : (r a : List ℕ) → suffix_len r a ≡ prefix_len (turned r) (turned a)
suffix_turned r a = sym (prefix_turned (turned r) (turned a) ∙ rw (turned_twice r, turned_twice a))

-- ---- parts of one allele

module _ (p : ℕ) (s : List ℕ) where
  -- turned, the two parts at p change places
  parts : turned s ≡ turned (drop p s) ++ turned (take p s)
  parts = ap turned (sym (take-append-drop p s)) ∙ turned_append (take p s) (drop p s)

  size : length (turned (drop p s)) ≡ length (turned s) - p
  size = turned_length (drop p s) ∙ length-drop p s ∙ ap (λ (n : ℕ). n - p) (sym (turned_length s))

  take_turned : turned (take p s) ≡ last_of (turned s) p
  take_turned = sym (ap (drop (length (turned s) - p)) parts ∙ drop_at (turned (drop p s)) (turned (take p s)) (length (turned s) - p) size)

  pub drop_turned : turned (drop p s) ≡ without_last (turned s) p
  drop_turned = sym (ap (take (length (turned s) - p)) parts ∙ take_at (turned (drop p s)) (turned (take p s)) (length (turned s) - p) size)

-- an equation of a turned allele, read on the other strand
other_way : (s t : List ℕ) → turned s ≡ t → s ≡ turned t
other_way s t e = sym (turned_twice s) ∙ ap turned e

pub without_last_turned : (q : ℕ) (s : List ℕ) → turned (without_last s q) ≡ drop q (turned s)
without_last_turned q s = sym (other_way _ _ (drop_turned q (turned s) ∙ ap (λ (t : List ℕ). without_last t q) (turned_twice s)))

-- ---- the parts in common, and what is left without them

module _ (r a s : List ℕ) where
  pub first_turned : turned (take (prefix_len r a) s) ≡ last_of (turned s) (suffix_len (turned r) (turned a))
  first_turned = take_turned (prefix_len r a) s ∙ ap (last_of (turned s)) (prefix_turned r a)

  pub rest_turned : turned (drop (prefix_len r a) s) ≡ without_last (turned s) (suffix_len (turned r) (turned a))
  rest_turned = drop_turned (prefix_len r a) s ∙ ap (without_last (turned s)) (prefix_turned r a)

  pub last_turned : turned (last_of s (suffix_len r a)) ≡ take (prefix_len (turned r) (turned a)) (turned s)
  last_turned =
      ap (λ (q : ℕ). turned (last_of s q)) (suffix_turned r a)
      ∙ sym (other_way _ _ (take_turned (prefix_len (turned r) (turned a)) (turned s) ∙ ap (λ (t : List ℕ). last_of t (prefix_len (turned r) (turned a))) (turned_twice s)))

  pub front_turned : turned (without_last s (suffix_len r a)) ≡ drop (prefix_len (turned r) (turned a)) (turned s)
  front_turned = without_last_turned (suffix_len r a) s ∙ ap (λ (q : ℕ). drop q (turned s)) (suffix_turned r a)

-- ---- what changed

drop_take : (p n : ℕ) (s : List ℕ) → drop p (take n s) ≡ take (n - p) (drop p s)
drop_take zero n s = rw (sub-zero n)
drop_take (suc p) zero s = rw (zero-sub (suc p))
drop_take (suc p) (suc n) [] = sym (take-nil (suc n - suc p))
drop_take (suc p) (suc n) (b ∷ s) = rw (suc-sub-suc n p) (drop_take p n s)

-- what is around a stretch may go at the back first
back_first : (p q : ℕ) (s : List ℕ) → drop p (without_last s q) ≡ stretch s p (length s - q)
back_first p q s = drop_take p (length s - q) s

pub stretch_turned : (p q : ℕ) (s : List ℕ) → stretch (turned s) q (length (turned s) - p) ≡ turned (stretch s p (length s - q))
stretch_turned p q s =
    sym (front_first q p (turned s))
    ∙ ap (λ (t : List ℕ). without_last t p) (sym (without_last_turned q s))
    ∙ sym (drop_turned p (without_last s q))
    ∙ ap turned (back_first p q s)

chosen : (t : Bool) (r a : List ℕ) → cond t (turned a) (turned r) ≡ turned (cond t a r)
chosen true r a = refl
chosen false r a = refl

module _ (r a : List ℕ) where
  -- how many bytes go at the front, and then at the back
  pub before_turned : bytes_before (turned r) (turned a) ≡ suffix_len r a
  before_turned = sym (suffix_turned r a)

  pub after_turned : after (turned r) (turned a) ≡ prefix_after r a
  after_turned =
      let q : ℕ = suffix_len r a in
      rw (before_turned, ← without_last_turned q r, ← without_last_turned q a) (sym (prefix_turned (without_last r q) (without_last a q)))

  pub middle_turned : (s : List ℕ) → middle (turned r) (turned a) (turned s) ≡ turned (middle_back r a s)
  middle_turned s = rw (after_turned, before_turned) (stretch_turned (prefix_after r a) (suffix_len r a) s)

  pub changed_turned : changed_of (turned r) (turned a) ≡ turned (changed_back r a)
  unfolding changed_of
  changed_turned =
      rw (turned_length r, turned_length a, chosen (ltb (length r) (length a)) r a) (middle_turned (cond (ltb (length r) (length a)) a r))

  pub either_order : changed_back r a ≡ changed_of r a → changed_of (turned r) (turned a) ≡ turned (changed_of r a)
  either_order e = changed_turned ∙ ap turned e
