-- What is shown of a turned allele, and of one that is turned into a lent buffer. It holds of all bytes, as a byte that is no base stays.
--     turned_length, turned_twice, turned_bases    turning keeps the length and the judgment, and twice gives the allele back
--     turned_append                                two parts change places
--     bases_parts                                  the parts of an allele of bases are of bases
--     turned_at                                    a letter of a turned allele
--     on_strand_length                             an allele is as long on either strand
--     turning_other, -long, -fits                  the three outcomes
--     turning_back                                 what was written turns back to the allele
-- Assumes nothing.
use Rattle.std.specs.Prelude.{◌≡◌, Bool, ◌&&◌, ℕ, zero, suc, ◌≤◌, ◌<◌, length, get_or, take, drop}
use Rattle.std.proofs.Math.Path.{refl}
use Rattle.std.proofs.Common.{sym, ap, ◌∙◌, arith, take-append-drop}
use Rattle.std.proofs.Math.Bool.{true, false, cond, and_assoc, and_comm, and-true, and-eq-true_iff}
use mathlib.Core.List.{List, [], ◌∷◌, ◌++◌, map, reverse, reverse_aux, reverse-reverse, reverse-append}
use Rattle.std.proofs.Math.Dec.{ltb}
use Rattle.std.proofs.lemmas.List.{length-reverse, length-map}
use Rattle.std.proofs.Math.ListN.{get_or-map}
use borrow.Author.Tests.{lt-ltb, le-ltb}
use Rattle.refusals.specs.declared.Refusal.TheVariants.{NoRoom, NoBase}
use Rattle.refusals.specs.Outcome.{Ok, Err, and_then}
use Rattle.refusals.specs.laws.Outcomes.{clash, same}
use Rattle.strands.specs.Turned.{partner_in, partner, is_base, complement, are_bases, turned, on_strand, fitting, turning}
use Rattle.strands.specs.laws.Letters.{complement_base, base_kept, complement_twice}

-- ---- a turned allele

map_reverse : (s t : List ℕ) → reverse_aux (map complement s) (map complement t) ≡ map complement (reverse_aux s t)
map_reverse [] t = refl
map_reverse (x ∷ s) t = map_reverse s (x ∷ t)

-- complement first or reverse first
turned_other : (s : List ℕ) → turned s ≡ map complement (reverse s)
unfolding turned
turned_other s = map_reverse s []

pub turned_length : (s : List ℕ) → length (turned s) ≡ length s
unfolding turned
turned_length s = length-reverse (map complement s) ∙ length-map s complement

map_twice : (s : List ℕ) → map complement (map complement s) ≡ s
map_twice [] = refl
map_twice (b ∷ s) = cc (complement_twice b, map_twice s)

pub reverse_turned : (s : List ℕ) → reverse (turned s) ≡ map complement s
unfolding turned
reverse_turned s = reverse-reverse (map complement s)

pub turned_twice : (s : List ℕ) → turned (turned s) ≡ s
turned_twice s = turned_other (turned s) ∙ ap (map complement) (reverse_turned s) ∙ map_twice s

map_append : (s t : List ℕ) → map complement (s ++ t) ≡ map complement s ++ map complement t
map_append [] t = refl
map_append (b ∷ s) t = cc (map_append s t)

pub turned_append : (s t : List ℕ) → turned (s ++ t) ≡ turned t ++ turned s
unfolding turned
turned_append s t = ap reverse (map_append s t) ∙ reverse-append (map complement s) (map complement t)

pub on_strand_length : (back : Bool) (s : List ℕ) → length (on_strand back s) ≡ length s
on_strand_length true s = turned_length s
on_strand_length false s = refl

-- ---- of bases

bases_aux : (s t : List ℕ) → are_bases (reverse_aux s t) ≡ are_bases s && are_bases t
unfolding are_bases
bases_aux [] t = refl
bases_aux (b ∷ s) t =
    bases_aux s (b ∷ t)
    ∙ sym (and_assoc (are_bases s) (is_base b) (are_bases t))
    ∙ ap (λ (x : Bool). x && are_bases t) (and_comm (are_bases s) (is_base b))

bases_reverse : (s : List ℕ) → are_bases (reverse s) ≡ are_bases s
unfolding are_bases
bases_reverse s = bases_aux s [] ∙ and-true (are_bases s)

bases_map : (s : List ℕ) → are_bases (map complement s) ≡ are_bases s
unfolding are_bases
bases_map [] = refl
bases_map (b ∷ s) = cc (base_kept b, bases_map s)

pub turned_bases : (s : List ℕ) → are_bases (turned s) ≡ are_bases s
unfolding turned
turned_bases s = bases_reverse (map complement s) ∙ bases_map s

base_at : (s : List ℕ) (i : ℕ) → are_bases s ≡ true → i < length s → is_base (get_or s i 0) ≡ true
unfolding are_bases
base_at [] i h l = absurd (omega arith)
base_at (b ∷ s) zero h l = ((and-eq-true_iff (is_base b) (are_bases s)).0 h).0
base_at (b ∷ s) (suc i) h l = base_at s i ((and-eq-true_iff (is_base b) (are_bases s)).0 h).1 (omega arith)

bases_append : (s t : List ℕ) → are_bases (s ++ t) ≡ are_bases s && are_bases t
unfolding are_bases
bases_append [] t = refl
bases_append (b ∷ s) t = ap (λ (x : Bool). is_base b && x) (bases_append s t) ∙ sym (and_assoc (is_base b) (are_bases s) (are_bases t))

pub bases_parts : (n : ℕ) (s : List ℕ) → are_bases s ≡ true → (are_bases (take n s) ≡ true) × (are_bases (drop n s) ≡ true)
bases_parts n s h = (and-eq-true_iff (are_bases (take n s)) (are_bases (drop n s))).0 (sym (bases_append (take n s) (drop n s)) ∙ ap are_bases (take-append-drop n s) ∙ h)

-- 0, which stands for a letter past the end, is its own complement
complement_at : (s : List ℕ) (i : ℕ) → get_or (map complement s) i 0 ≡ complement (get_or s i 0)
unfolding is_base complement partner partner_in
complement_at s i = get_or-map complement s i 0

pub turned_at : (s : List ℕ) (i : ℕ) → are_bases s ≡ true → i < length s → get_or (turned s) i 0 ≡ partner (get_or (reverse s) i 0)
turned_at s i h l =
    ap (λ (t : List ℕ). get_or t i 0) (turned_other s)
    ∙ complement_at (reverse s) i
    ∙ complement_base (get_or (reverse s) i 0) (base_at (reverse s) i (bases_reverse s ∙ h) (rw length-reverse l))

-- ---- into a lent buffer

module _ (s : List ℕ) (room : ℕ) where
  pub turning_other : are_bases s ≡ false → turning s room ≡ Err NoBase
  unfolding turning
  turning_other e = rw e

  pub turning_long : are_bases s ≡ true → room < length s → turning s room ≡ Err NoRoom
  unfolding turning
  turning_long e h = rw (e, turned_length s, lt-ltb room (length s) h)

  pub turning_fits : are_bases s ≡ true → length s ≤ room → turning s room ≡ Ok (turned s)
  unfolding turning
  turning_fits e h = rw (e, turned_length s, le-ltb room (length s) h)

  -- what was written, turned into a buffer of the same size
  pub turning_back : (t : List ℕ) → turning s room ≡ Ok t → turning t room ≡ Ok s
  unfolding turning
  turning_back t = judged (are_bases s) refl
    where
      fitted : are_bases s ≡ true → (y : Bool) → ltb room (length (turned s)) ≡ y → cond y (Err NoRoom) (Ok (turned s)) ≡ Ok t → turning t room ≡ Ok s
      fitted ex false ey e = rw (sym (same e), turned_bases s, ex, turned_twice s, ← turned_length s, ey)
      fitted ex true ey e = absurd (clash e)

      judged : (x : Bool) → are_bases s ≡ x → and_then (cond x (Ok (turned s)) (Err NoBase)) (fitting room) ≡ Ok t → turning t room ≡ Ok s
      judged true ex e = fitted ex (ltb room (length (turned s))) refl e
      judged false ex e = absurd (clash e)
