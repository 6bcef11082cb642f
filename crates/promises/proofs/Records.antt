-- The elements of lengthened records: what is added before, the records' own, what is added after. Assumes nothing.
use Prim.Native.Nat.{ℕ, ◌+◌, ◌-◌}
use native.Mathlib.Omega.{arith}
use mathlib.Core.Bool.{Bool, true, false}
use mathlib.Core.List.{List, [], ◌∷◌, ◌++◌, append_assoc}
use mathlib.Core.Path.{◌≡◌, refl}
use Rattle.cigar.specs.Elements.{Element, Side, kind_of, genome, transcript, total}
use Rattle.transcript.specs.Building.{Exon, gap, parts_of, elements_after, elements_of, first_start}
use Rattle.segments.specs.laws.Totals.{total_append, total_reverse}
use Rattle.judging.specs.laws.Accepted.{InOrder}

-- ---- records whose CIGARs were read

-- each one's elements span exactly its genome bounds
abbrev pub Spans : List Exon → Type 0
Spans [] = Unit {0}
Spans (r ∷ rs) = (r.alt_start + total genome r.parts ≡ r.alt_end) × Spans rs

-- their transcript bases
unfoldable pub exon_bases : List Exon → ℕ
exon_bases [] = 0
exon_bases (r ∷ rs) = total transcript r.parts + exon_bases rs

-- ---- the lists

abbrev pub last_end : ℕ → List Exon → ℕ
last_end e [] = e
last_end e (r ∷ rs) = last_end r.alt_end rs

-- what stands before the record r: the records a, which follow one that ends at e, and the gap to r
unfoldable pub lead_after : Bool → ℕ → List Exon → Exon → List Element
lead_after forward e [] r = gap e r ∷ []
lead_after forward e (a ∷ bs) r = gap e a ∷ (parts_of forward a ++ lead_after forward a.alt_end bs r)

-- the elements added before r, and those added after r and rs
unfoldable pub lead : Bool → List Exon → Exon → List Element
lead forward [] r = []
lead forward (a ∷ bs) r = parts_of forward a ++ lead_after forward a.alt_end bs r

pub trail : Bool → Exon → List Exon → List Exon → List Element
trail forward r rs right = elements_after forward (last_end r.alt_end rs) right

after_append : (forward : Bool) (e : ℕ) (rs right : List Exon) → elements_after forward e (rs ++ right) ≡ elements_after forward e rs ++ elements_after forward (last_end e rs) right
unfolding elements_after
after_append forward e [] right = refl
after_append forward e (r ∷ rs) right = rw (after_append forward r.alt_end rs right, append_assoc (parts_of forward r) (elements_after forward r.alt_end rs) (elements_after forward (last_end r.alt_end rs) right))

after_lead : (forward : Bool) (e : ℕ) (bs : List Exon) (r : Exon) (rs : List Exon) → elements_after forward e (bs ++ r ∷ rs) ≡ lead_after forward e bs r ++ elements_of forward (r ∷ rs)
unfolding elements_after elements_of lead_after
after_lead forward e [] r rs = refl
after_lead forward e (a ∷ bs) r rs = rw (after_lead forward a.alt_end bs r rs, append_assoc (parts_of forward a) (lead_after forward a.alt_end bs r) (elements_of forward (r ∷ rs)))

pub of_lead : (forward : Bool) (left : List Exon) (r : Exon) (rs : List Exon) → elements_of forward (left ++ r ∷ rs) ≡ lead forward left r ++ elements_of forward (r ∷ rs)
unfolding elements_of lead
of_lead forward [] r rs = refl
of_lead forward (a ∷ bs) r rs = rw (after_lead forward a.alt_end bs r rs, append_assoc (parts_of forward a) (lead_after forward a.alt_end bs r) (elements_of forward (r ∷ rs)))

of_trail : (forward : Bool) (r : Exon) (rs right : List Exon) → elements_of forward (r ∷ (rs ++ right)) ≡ elements_of forward (r ∷ rs) ++ trail forward r rs right
unfolding elements_of trail
of_trail forward r rs right = rw (after_append forward r.alt_end rs right, append_assoc (parts_of forward r) (elements_after forward r.alt_end rs) (elements_after forward (last_end r.alt_end rs) right))

pub split : (forward : Bool) (left : List Exon) (r : Exon) (rs right : List Exon)
    → elements_of forward (left ++ (r ∷ rs ++ right)) ≡ lead forward left r ++ (elements_of forward (r ∷ rs) ++ trail forward r rs right)
split forward left r rs right = rw (of_lead forward left r (rs ++ right), of_trail forward r rs right)

-- ---- how far they go

pub parts_total : (side : Side) (forward : Bool) (r : Exon) → total side (parts_of forward r) ≡ total side r.parts
unfolding parts_of
parts_total side true r = refl
parts_total side false r = total_reverse side r.parts

gap_transcript : (e : ℕ) (r : Exon) → transcript (gap e r) ≡ 0
unfolding transcript kind_of
gap_transcript e r = refl

pub gap_genome : (e : ℕ) (r : Exon) → genome (gap e r) ≡ r.alt_start - e
unfolding genome kind_of
gap_genome e r = refl

lead_after_bases : (forward : Bool) (e : ℕ) (bs : List Exon) (r : Exon) → total transcript (lead_after forward e bs r) ≡ exon_bases bs
unfolding total lead_after exon_bases
lead_after_bases forward e [] r = omega (arith, gap_transcript e r)
lead_after_bases forward e (a ∷ bs) r = omega (arith, gap_transcript e a, total_append transcript (parts_of forward a) (lead_after forward a.alt_end bs r), parts_total transcript forward a, lead_after_bases forward a.alt_end bs r)

pub lead_bases : (forward : Bool) (left : List Exon) (r : Exon) → total transcript (lead forward left r) ≡ exon_bases left
unfolding total lead exon_bases
lead_bases forward [] r = refl
lead_bases forward (a ∷ bs) r = omega (arith, total_append transcript (parts_of forward a) (lead_after forward a.alt_end bs r), parts_total transcript forward a, lead_after_bases forward a.alt_end bs r)

after_bases : (forward : Bool) (e : ℕ) (rs : List Exon) → total transcript (elements_after forward e rs) ≡ exon_bases rs
unfolding total elements_after exon_bases
after_bases forward e [] = refl
after_bases forward e (r ∷ rs) = omega (arith, gap_transcript e r, total_append transcript (parts_of forward r) (elements_after forward r.alt_end rs), parts_total transcript forward r, after_bases forward r.alt_end rs)

pub trail_bases : (forward : Bool) (r : Exon) (rs right : List Exon) → total transcript (trail forward r rs right) ≡ exon_bases right
unfolding trail
trail_bases forward r rs right = after_bases forward (last_end r.alt_end rs) right

lead_after_span : (forward : Bool) (e : ℕ) (bs : List Exon) (r : Exon) (rs : List Exon) → Spans (bs ++ r ∷ rs) → InOrder e (bs ++ r ∷ rs) → e + total genome (lead_after forward e bs r) ≡ r.alt_start
unfolding total lead_after
lead_after_span forward e [] r rs spans order = omega (arith, gap_genome e r, order.0)
lead_after_span forward e (a ∷ bs) r rs spans order = omega (arith, gap_genome e a, order.0, spans.0, total_append genome (parts_of forward a) (lead_after forward a.alt_end bs r), parts_total genome forward a, lead_after_span forward a.alt_end bs r rs spans.1 order.1)

-- the first start of the longer and the genome bases added before come to the first start of the shorter
pub lead_span : (forward : Bool) (e : ℕ) (left : List Exon) (r : Exon) (rs : List Exon) → Spans (left ++ r ∷ rs) → InOrder e (left ++ r ∷ rs) → first_start (left ++ r ∷ rs) + total genome (lead forward left r) ≡ r.alt_start
unfolding total lead first_start
lead_span forward e [] r rs spans order = omega arith
lead_span forward e (a ∷ bs) r rs spans order = omega (arith, spans.0, total_append genome (parts_of forward a) (lead_after forward a.alt_end bs r), parts_total genome forward a, lead_after_span forward a.alt_end bs r rs spans.1 order.1)
