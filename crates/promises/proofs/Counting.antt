-- The exon numbers of what builds, over its records: a base in a matched column has the number of the record that it lies in, and a base of an intron those of what is on its two sides. Assumes nothing.
use Prim.Native.Nat.{ℕ, ◌+◌, ◌-◌, ◌≤◌, ◌<◌}
use native.Mathlib.Omega.{arith}
use mathlib.Core.Bool.{Bool, true, false, true≢false}
use mathlib.Core.List.{List, [], ◌∷◌, ◌++◌, map, map-append, append_assoc}
use mathlib.Core.Path.{◌≡◌, refl, sym, ap, ◌∙◌, subst}
use lib.IntN.{ℤ, pos, negsuc, nat_abs}
use lib.ListN.{length, length-append, length-map}
use lib.Signed.{lt_z, ◌≤ℤ◌, ◌<ℤ◌}
use Rattle.whole.specs.Whole.{eq_z}
use Rattle.whole.specs.laws.Whole.{order, sum}
use Rattle.cigar.specs.Elements.{Element, genome, total}
use Rattle.records.specs.Records.{Record}
use Rattle.transcript.specs.Transcript.{Transcript}
use Rattle.transcript.specs.Building.{Exon, gap, elements_of, numbered_by, first_start, build}
use Rattle.judging.specs.Input.{Input}
use Rattle.judging.specs.laws.Accepted.{InOrder}
use Rattle.promises.specs.Bases.{Lies, is_match, by_elements}
use Rattle.promises.specs.Demands.{cigar_of, AllSpan, counted, InRecord, BetweenRecords, Sides, within, between, CountsRecords}
use Rattle.promises.proofs.Records.{Spans}
use Rattle.promises.proofs.Where.{number_at, starts_from, in_record, begins, is_gap, between as gap_between, Found, in_one, amid, find, below_end}
use Rattle.promises.proofs.Built.{exon_in, AllWhole, From}

-- ---- a record's bounds, as whole numbers and as they are given

from_given : (a : ℤ) (z : ℕ) → lt_z a (pos 0) ≡ false → nat_abs a ≤ z → a ≤ℤ pos z
from_given (pos n) z h k = omega order
from_given (negsuc n) z h k = absurd (true≢false h)

from_whole : (a : ℤ) (z : ℕ) → lt_z a (pos 0) ≡ false → a ≤ℤ pos z → nat_abs a ≤ z
from_whole (pos n) z h k = omega order
from_whole (negsuc n) z h k = absurd (true≢false h)

to_whole : (a : ℤ) (z : ℕ) → pos z <ℤ a → z < nat_abs a
to_whole (pos n) z k = omega order
to_whole (negsuc n) z k = absurd (omega order)

below_whole : (a b : ℤ) → lt_z a (pos 0) ≡ false → a <ℤ b → nat_abs a < nat_abs b
below_whole (pos n) b h k = to_whole b n k
below_whole (negsuc n) b h k = absurd (true≢false h)

to_given : (a : ℤ) (z : ℕ) → lt_z a (pos 0) ≡ false → z < nat_abs a → pos z <ℤ a
to_given (pos n) z h k = omega order
to_given (negsuc n) z h k = absurd (true≢false h)

start_whole : (left : List Record) (r : Record) (right : List Record) → AllWhole (left ++ r ∷ right) → lt_z r.alt_start (pos 0) ≡ false
start_whole [] r right (w, ws) = w
start_whole (a ∷ left) r right (w, ws) = start_whole left r right ws

end_whole : (left : List Record) (r : Record) (right : List Record) → AllWhole (left ++ r ∷ right) → AllSpan (left ++ r ∷ right) → lt_z r.alt_end (pos 0) ≡ false
end_whole [] r right (w, ws) (span, spans) = omega (order, sum r.alt_start (pos (total genome (cigar_of r))), span)
end_whole (a ∷ left) r right (w, ws) (span, spans) = end_whole left r right ws spans

next_whole : (left : List Record) (a b : Record) (right : List Record) → AllWhole (left ++ a ∷ b ∷ right) → lt_z b.alt_start (pos 0) ≡ false
next_whole [] a b right (w, (v, ws)) = v
next_whole (c ∷ left) a b right (w, ws) = next_whole left a b right ws

counted_is : (forward : Bool) (left right : ℕ) → numbered_by forward left right ≡ counted forward left right
counted_is true left right = refl
counted_is false left right = refl

-- a gap is no match
gap_unmatched : (e : ℕ) (r : Exon) → is_match (gap e r) ≡ false
unfolding is_match
gap_unmatched e r = refl

-- ---- over records

module _ (forward : Bool) (rs : List Record) (whole : AllWhole rs) (all_span : AllSpan rs) (spans : Spans (map exon_in rs)) (order : InOrder 0 (map exon_in rs)) (p : ℕ) (own : Lies (elements_of forward (map exon_in rs)) p) where
  abbrev z : ℕ
  z = p + first_start (map exon_in rs)

  -- the number of the base's element, and of what follows that
  abbrev k : ℕ
  k = number_at forward (map exon_in rs) (length own.before)

  abbrev l : ℕ
  l = number_at forward (map exon_in rs) (length own.before + 1)

  module _ (left : List Record) (r : Record) (right : List Record) (is : rs ≡ left ++ r ∷ right) (from : (exon_in r).alt_start ≤ z) (to : z < (exon_in r).alt_end) where
    parted : map exon_in rs ≡ map exon_in left ++ exon_in r ∷ map exon_in right
    parted = ap (map exon_in) is ∙ map-append exon_in left (r ∷ right)

    numbers : (k ≡ counted forward (length left) (length right)) × (l ≡ counted forward (length left) (length right))
    numbers =
        let n = subst (λ (all : List Exon). Spans all → InOrder 0 all → (p : ℕ) (own : Lies (elements_of forward all) p) → (exon_in r).alt_start ≤ p + first_start all → p + first_start all < (exon_in r).alt_end
        → (number_at forward all (length own.before) ≡ numbered_by forward (length (map exon_in left)) (length (map exon_in right)))
        × (number_at forward all (length own.before + 1) ≡ numbered_by forward (length (map exon_in left)) (length (map exon_in right))))
        (sym parted) (in_record forward (map exon_in left) (exon_in r) (map exon_in right)) spans order p own from to in
        rw (← counted_is forward (length left) (length right), ← length-map left exon_in, ← length-map right exon_in) n

    here : InRecord forward rs (pos z) k
    here = record {
      left = left;
      own = r;
      right = right;
      stands = is;
      from = from_given r.alt_start z (start_whole left r right (subst AllWhole is whole)) from;
      to = to_given r.alt_end z (end_whole left r right (subst AllWhole is whole) (subst AllSpan is all_span)) to;
      number = numbers.0;
    }

  module _ (left : List Record) (a b : Record) (right : List Record) (is : rs ≡ left ++ a ∷ b ∷ right) (from : (exon_in a).alt_end ≤ z) (to : z < (exon_in b).alt_start) where
    parted_twice : map exon_in rs ≡ map exon_in left ++ exon_in a ∷ exon_in b ∷ map exon_in right
    parted_twice = ap (map exon_in) is ∙ map-append exon_in left (a ∷ b ∷ right)

    element_is : own.element ≡ gap (exon_in a).alt_end (exon_in b)
    element_is =
        subst (λ (all : List Exon). Spans all → InOrder 0 all → (p : ℕ) (own : Lies (elements_of forward all) p) → (exon_in a).alt_end ≤ p + first_start all → p + first_start all < (exon_in b).alt_start
        → own.element ≡ gap (exon_in a).alt_end (exon_in b))
        (sym parted_twice) (is_gap forward (map exon_in left) (exon_in a) (exon_in b) (map exon_in right)) spans order p own from to

    begins_at : first_start (map exon_in rs) + total genome own.before ≡ (exon_in a).alt_end
    begins_at =
        subst (λ (all : List Exon). Spans all → InOrder 0 all → (p : ℕ) (own : Lies (elements_of forward all) p) → (exon_in a).alt_end ≤ p + first_start all → p + first_start all < (exon_in b).alt_start
        → first_start all + total genome own.before ≡ (exon_in a).alt_end)
        (sym parted_twice) (begins forward (map exon_in left) (exon_in a) (exon_in b) (map exon_in right)) spans order p own from to

    sides_are : (k ≡ counted forward (length left) (length right + 1)) × (l ≡ counted forward (length left + 1) (length right))
    sides_are =
        let n = subst (λ (all : List Exon). Spans all → InOrder 0 all → (p : ℕ) (own : Lies (elements_of forward all) p) → (exon_in a).alt_end ≤ p + first_start all → p + first_start all < (exon_in b).alt_start
        → (number_at forward all (length own.before) ≡ numbered_by forward (length (map exon_in left)) (length (map exon_in right) + 1))
        × (number_at forward all (length own.before + 1) ≡ numbered_by forward (length (map exon_in left) + 1) (length (map exon_in right))))
        (sym parted_twice) (gap_between forward (map exon_in left) (exon_in a) (exon_in b) (map exon_in right)) spans order p own from to in
        rw (← counted_is forward (length left) (length right + 1), ← counted_is forward (length left + 1) (length right), ← length-map left exon_in, ← length-map right exon_in) n

    beside : BetweenRecords forward rs (pos z) k l
    beside =
        let w = subst AllWhole is whole in
        record {
          left = left;
          before = a;
          after = b;
          right = right;
          stands = is;
          from = from_given a.alt_end z (end_whole left a (b ∷ right) w (subst AllSpan is all_span)) from;
          to = to_given b.alt_start z (next_whole left a b right w) to;
          left_number = sides_are.0;
          right_number = sides_are.1;
        }

  sides : Found exon_in z rs → Sides forward rs (pos z) k l
  sides (in_one left r right is from to) = let n = numbers left r right is from to in within (here left r right is from to) (n.0 ∙ sym n.1)
  sides (amid left a b right is from to) = between (beside left a b right is from to)

  in_own : is_match own.element ≡ true → Found exon_in z rs → InRecord forward rs (pos z) k
  in_own match (in_one left r right is from to) = here left r right is from to
  in_own match (amid left a b right is from to) =
      absurd (true≢false (sym match ∙ ap is_match (element_is left a b right is from to) ∙ gap_unmatched (exon_in a).alt_end (exon_in b)))

-- ---- the exon bases next to a gap

module _ (forward : Bool) (rs : List Record) (whole : AllWhole rs) (all_span : AllSpan rs) (spans : Spans (map exon_in rs)) (order : InOrder 0 (map exon_in rs)) (p : ℕ) (own : Lies (elements_of forward (map exon_in rs)) p)
    (left : List Record) (a b : Record) (right : List Record) (is : rs ≡ left ++ a ∷ b ∷ right) (from : (exon_in a).alt_end ≤ p + first_start (map exon_in rs)) (to : p + first_start (map exon_in rs) < (exon_in b).alt_start) where
  abbrev number : {q : ℕ} → Lies (elements_of forward (map exon_in rs)) q → ℕ
  number u = number_at forward (map exon_in rs) (length u.before)

  starts : first_start (map exon_in rs) ≤ (exon_in a).alt_start
  starts =
      subst (λ (all : List Exon). Spans all → InOrder 0 all → first_start all ≤ (exon_in a).alt_start) (sym (ap (map exon_in) is ∙ map-append exon_in left (a ∷ b ∷ right)))
      (starts_from forward (map exon_in left) (exon_in a) (exon_in b ∷ map exon_in right)) spans order

  -- the last base of the left record
  left_alike : (exon_in a).alt_start < (exon_in a).alt_end → (q : ℕ) → q ≡ total genome own.before - 1 → (u : Lies (elements_of forward (map exon_in rs)) q) → number own ≡ number u
  left_alike some q q_is u =
      let at = begins_at forward rs whole all_span spans order p own left a b right is from to in
      let n = numbers forward rs whole all_span spans order q u left a (b ∷ right) is (omega (arith, at, starts)) (omega (arith, at, starts)) in
      let one_more : length right + 1 ≡ length (b ∷ right) = omega arith in
      (sides_are forward rs whole all_span spans order p own left a b right is from to).0 ∙ ap (counted forward (length left)) one_more ∙ sym n.0

  -- the first base of the right one
  right_alike : (exon_in b).alt_start < (exon_in b).alt_end → (q : ℕ) → q ≡ total genome own.before + own.element.count → (u : Lies (elements_of forward (map exon_in rs)) q)
      → number_at forward (map exon_in rs) (length own.before + 1) ≡ number u
  right_alike some q q_is u =
      let at = begins_at forward rs whole all_span spans order p own left a b right is from to in
      let long = ap (λ (x : Element). x.count) (element_is forward rs whole all_span spans order p own left a b right is from to) in
      let n = numbers forward rs whole all_span spans order q u (left ++ a ∷ []) b right (is ∙ sym (append_assoc left (a ∷ []) (b ∷ right))) (omega (arith, at, long)) (omega (arith, at, long)) in
      let one_more : length left + 1 ≡ length (left ++ a ∷ []) = omega (arith, length-append left (a ∷ [])) in
      (sides_are forward rs whole all_span spans order p own left a b right is from to).1 ∙ ap (λ (m : ℕ). counted forward m (length right)) one_more ∙ sym n.0

-- there is a record, so that each base stands in one or between two
found : (forward : Bool) (rs : List Record) → 0 < length rs → Spans (map exon_in rs) → InOrder 0 (map exon_in rs) → (p : ℕ) → Lies (elements_of forward (map exon_in rs)) p → Found exon_in (p + first_start (map exon_in rs)) rs
unfolding first_start
found forward [] some spans order p own = absurd (omega arith)
found forward (r ∷ rs) some spans order p own = find exon_in (p + (exon_in r).alt_start) [] r rs (r ∷ rs) refl (omega arith) (below_end forward (exon_in r) (map exon_in rs) spans order p own)

pub counts : (x : Input) (t : Transcript) → From x t → CountsRecords x t (by_elements t)
unfolding build
counts x t f =
    let forward = eq_z x.strand (pos 1) in
    let rs = x.records in
    subst (λ (u : Transcript). CountsRecords x u (by_elements u)) (sym f.is) (record {
      exon_base = λ p b. in_own forward rs f.whole f.all_spanning f.spans f.in_order p b.lies b.match (found forward rs f.some f.spans f.in_order p b.lies);
      gap_base = λ p b k l g some_before some_after u d.
          let w = subst AllWhole g.stands f.whole in
          let s = subst AllSpan g.stands f.all_spanning in
          let from = from_whole g.before.alt_end _ (end_whole g.left g.before (g.after ∷ g.right) w s) g.from in
          let to = to_whole g.after.alt_start _ g.to in (
            left_alike forward rs f.whole f.all_spanning f.spans f.in_order p b.lies g.left g.before g.after g.right g.stands from to
                (below_whole g.before.alt_start g.before.alt_end (start_whole g.left g.before (g.after ∷ g.right) w) some_before) _ refl u.lies,
            right_alike forward rs f.whole f.all_spanning f.spans f.in_order p b.lies g.left g.before g.after g.right g.stands from to
                (below_whole g.after.alt_start g.after.alt_end (next_whole g.left g.before g.after g.right w) some_after) _ refl d.lies,
          );
      intron_base = λ p b. sides forward rs f.whole f.all_spanning f.spans f.in_order p b.lies (found forward rs f.some f.spans f.in_order p b.lies);
    })
