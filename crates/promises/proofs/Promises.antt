-- The promises kept: demand 2 and demand 3 hold of the definitions, from whatever input a transcript builds. Assumes nothing.
use Rattle.std.specs.Prelude.{Some, None, Option}
use Prim.Native.Nat.{ℕ, ◌+◌, ◌<◌}
use native.Mathlib.Omega.{arith}
use mathlib.Core.Bool.{Bool, true, false, cond}
use mathlib.Core.List.{List, [], ◌∷◌, ◌++◌, map, map-map, map-append}
use mathlib.Core.Path.{◌≡◌, refl, sym, ap, ◌∙◌, subst}
use lib.Dec.{ltb}
use lib.IntN.{ℤ, pos, negsuc, nat_abs, ◌+ℤ◌}
use lib.ListN.{length, length-map}
use Rattle.refusals.specs.Outcome.{Ok, through}
use Rattle.refusals.specs.laws.Outcomes.{clash}
use Rattle.whole.specs.Whole.{eq_z}
use Rattle.whole.specs.laws.Whole.{by_test, order}
use Rattle.cigar.specs.Text.{elements_in}
use Rattle.cigar.specs.Read.{read_text}
use Rattle.records.specs.Records.{Record, exactly}
use Rattle.transcript.specs.Transcript.{Transcript, Cds, transcript_length}
use Rattle.transcript.specs.Building.{Exon, build}
use Rattle.judging.specs.Input.{Input, input_of}
use Rattle.judging.specs.Judging.{Made, cds_of, judge}
use Rattle.judging.specs.laws.Accepted.{InOrder, CdsPass}
use Rattle.transcript.specs.Heads.{both_bits}
use Rattle.transcript.specs.declared.Numbers.{Numbers}
use Rattle.promises.specs.Demands.{Mapper, ours, made_of, Builds, bases_of, added_upstream, moved_up, KeptOfRecord, kept, Lengthens, records_upstream, records_added, Keeps, Demand2, Demand2Built, BuiltSpans, Demand3, Demand3Narrow}
use Rattle.promises.specs.Bases.{by_elements}
use Rattle.promises.proofs.InRange.{InRange, held_in_range}
use Rattle.promises.proofs.Records.{Spans, exon_bases}
use Rattle.promises.proofs.Built.{exon_in, From, built_from}
use Rattle.promises.proofs.Counting.{counts}
use Rattle.promises.proofs.Demand2.{bases_named}
use Rattle.promises.proofs.Demand3.{cds_up, lengthened, lengthened_keeps}

-- what is handed over and not refused builds from the records that it lays out
pub host_builds : (n : Numbers) (bytes : List ℕ) (made : Made) → judge n bytes ≡ Ok made → Builds (input_of n bytes) (made_of made)
unfolding judge
host_builds n bytes made =
    by_test (ltb both_bits n.cds)
    (λ t. rw t (λ h. absurd (clash h)))
    (λ t.
    by_test (exactly n.count bytes 0)
    (λ u. rw (t, u) (λ h. ap (through made_of) h))
    (λ u. rw (t, u) (λ h. absurd (clash h))))

pub demand_2 : Demand2 ours
demand_2 x t held stands = bases_named t (held_in_range x t held stands)

-- what builds can be lent, and holds together; and its numbers are those of its records
pub built_too : (m : Mapper) → Demand2 m → Demand2Built m
built_too m d x t builds = let f = built_from x t builds in record { numbering = by_elements t; counts = counts x t f; named = d f.lent t f.held f.stands }

pub demand_2_built : Demand2Built ours
demand_2_built = built_too ours demand_2

-- ---- a lengthened input makes a lengthened transcript

-- an exon is made of what is kept of its record
exon_of_kept : KeptOfRecord → Exon
exon_of_kept k = record { alt_start = nat_abs k.alt_start; alt_end = nat_abs k.alt_end; parts = elements_in (read_text k.cigar) }

same_exons : (own rs : List Record) → map kept own ≡ map kept rs → map exon_in own ≡ map exon_in rs
unfolding exon_of_kept
same_exons own rs h = sym (map-map exon_of_kept kept own) ∙ ap (map exon_of_kept) h ∙ map-map exon_of_kept kept rs

bases_are : (rs : List Record) → bases_of rs ≡ exon_bases (map exon_in rs)
unfolding bases_of exon_bases
bases_are [] = refl
bases_are (r ∷ rs) = omega (arith, bases_are rs)

abs_up : (a : ℤ) (n : ℕ) → a ≡ pos (nat_abs a) → nat_abs (a +ℤ pos n) ≡ nat_abs a + n
abs_up (pos m) n h = refl
abs_up (negsuc m) n h = absurd (omega order)

cds_moved : (start end : Option ℤ) (n len : ℕ) → CdsPass start end len → cds_of (moved_up n start) (moved_up n end) ≡ cds_up n (cds_of start end)
cds_moved (Some a) (Some b) n len h = rw (abs_up a n h.start_is, abs_up b n h.end_is)
cds_moved (Some a) None n len h = refl
cds_moved None end n len h = refl

added_is : (forward : Bool) (left right : List Record) → added_upstream forward left right ≡ cond forward (exon_bases (map exon_in left)) (exon_bases (map exon_in right))
added_is true left right = omega (arith, bases_are left)
added_is false left right = omega (arith, bases_are right)

records_are : (forward : Bool) (left right : List Record) → records_upstream forward left right ≡ cond forward (length (map exon_in left)) (length (map exon_in right))
records_are true left right = sym (length-map left exon_in)
records_are false left right = sym (length-map right exon_in)

-- over records, of which there is one at least
some_keep : (forward : Bool) (left : List Exon) (rs : List Record) (right : List Exon) (c : Cds) → 0 < length rs
    → Spans (left ++ (map exon_in rs ++ right)) → InOrder 0 (left ++ (map exon_in rs ++ right)) → InRange (lengthened forward left (map exon_in rs) right c)
    → Keeps ours (cond forward (length left) (length right)) (build forward (map exon_in rs) c) (lengthened forward left (map exon_in rs) right c)
some_keep forward left [] right c some spans order in_range = absurd (omega arith)
some_keep forward left (r ∷ rs) right c some spans order in_range = lengthened_keeps forward left (exon_in r) (map exon_in rs) right spans order c in_range

module _ (x y : Input) (t u : Transcript) (from_x : From x t) (from_y : From y u) (l : Lengthens x y) where
  abbrev forward : Bool
  forward = eq_z x.strand (pos 1)

  abbrev left : List Exon
  left = map exon_in l.left

  abbrev own : List Exon
  own = map exon_in x.records

  abbrev right : List Exon
  right = map exon_in l.right

  exons_are : map exon_in y.records ≡ left ++ (own ++ right)
  exons_are =
      ap (map exon_in) l.stands
      ∙ map-append exon_in l.left (l.own ++ l.right)
      ∙ ap (λ (xs : List Exon). left ++ xs) (map-append exon_in l.own l.right ∙ ap (λ (xs : List Exon). xs ++ right) (same_exons l.own x.records l.own_kept))

  coding_is : cds_of y.start y.end ≡ cds_up (cond forward (exon_bases left) (exon_bases right)) (cds_of x.start x.end)
  coding_is =
      rw (l.start_moved, l.end_moved)
      (cds_moved x.start x.end l.added (transcript_length t) from_x.bounds
      ∙ ap (λ (n : ℕ). cds_up n (cds_of x.start x.end)) (l.upstream ∙ added_is forward l.left l.right))

  longer_is : u ≡ lengthened forward left own right (cds_of x.start x.end)
  longer_is = from_y.is ∙ rw (exons_are, coding_is, l.strand_kept)

  pub kept_all : Keeps ours (records_added l) t u
  kept_all =
      rw (records_are forward l.left l.right, from_x.is, longer_is)
      (some_keep forward left x.records right (cds_of x.start x.end) from_x.some
      (subst Spans exons_are from_y.spans)
      (subst (InOrder 0) exons_are from_y.in_order)
      (subst InRange longer_is (held_in_range from_y.lent u from_y.held from_y.stands)))

pub demand_3 : Demand3 ours
demand_3 x y t u builds_x builds_y l = kept_all x y t u (built_from x t builds_x) (built_from y u builds_y) l

pub built_spans : BuiltSpans
built_spans x t builds = (built_from x t builds).all_spanning

-- the narrower words follow, of any mapper: premises more ask for less
pub narrower : (m : Mapper) → Demand3 m → Demand3Narrow m
narrower m d x y t u builds_x builds_y l spans =
    let k = d x y t u builds_x builds_y l in
    record { g_to_c = λ i from to. k.g_to_c i; c_to_g = k.c_to_g }

pub demand_3_narrow : Demand3Narrow ours
demand_3_narrow = narrower ours demand_3
