-- Demand 3: records added at either end, or both, with the CDS moved up by the bases added upstream, change no c. answer to a g. interval and no g. answer to a c. interval, in strict mode, on either strand, but for the exon numbers, which move up by the records added upstream. Assumes nothing.
use Prim.Native.Nat.{ℕ, ◌+◌}
use mathlib.Core.Bool.{Bool, true, cond}
use mathlib.Core.List.{List, ◌∷◌, ◌++◌}
use mathlib.Core.Path.{◌≡◌, refl}
use lib.ListN.{length}
use Rattle.refusals.specs.Outcome.{Ok, Err, Answered}
use Rattle.cigar.specs.Elements.{Element}
use Rattle.transcript.specs.Transcript.{Transcript, Cds, transcript_length}
use Rattle.transcript.specs.Transcript.Cds.{no_cds, cds}
use Rattle.transcript.specs.Building.{Exon, elements_of, numbers_of, first_start, build}
use Rattle.judging.specs.laws.Accepted.{InOrder}
use Rattle.positions.specs.Positions.{NPosition, asks_n}
use Rattle.positions.specs.Answers.{Answer, chain}
use Rattle.coding.specs.Coding.{map_n_to_c, c_of_interval, map_c_to_n}
use Rattle.spots.specs.Mapping.{map_g_to_n}
use Rattle.mapper.specs.Chains.{map_g_to_c, map_c_to_g}
use Rattle.promises.specs.Demands.{ours, Keeps}
use Rattle.promises.proofs.InRange.{InRange}
use Rattle.promises.proofs.Lengthening.{short, long, Higher, g_to_c_kept, c_to_g_kept}
use Rattle.promises.proofs.Records.{Spans, exon_bases, lead, trail, split, lead_bases, trail_bases, lead_span}
use Rattle.promises.proofs.Numbers.{records_higher}

-- with no CDS there is no c. answer
uncoded : (n : ℕ) (t u : Transcript) → t.coding ≡ no_cds → Keeps ours n t u
unfolding map_g_to_c map_c_to_g map_c_to_n map_n_to_c c_of_interval
uncoded n t u e = record { g_to_c = λ i. nothing (map_g_to_n true t i); c_to_g = λ i. rw e (λ bad. absurd bad) }
  where
    nothing : {P : Type 0} (a : Answer NPosition) → Answered (chain asks_n a (map_n_to_c true (transcript_length t) t.coding)) → P
    nothing (Ok x) = rw e (λ bad. absurd bad)
    nothing (Err k) = λ bad. absurd bad

-- over elements
module _ (forward : Bool) (first : ℕ) (xs ys zs : List Element) (numbers all_numbers : List ℕ) (count all_count : ℕ) (s e : ℕ) where
  keeps : (more : ℕ) → Higher forward first xs ys zs numbers all_numbers count all_count s e more → InRange (long forward first xs ys zs numbers all_numbers count all_count s e)
      → Keeps ours more (short forward first xs ys zs numbers all_numbers count all_count s e) (long forward first xs ys zs numbers all_numbers count all_count s e)
  keeps more higher in_range = record {
    g_to_c = g_to_c_kept forward first xs ys zs numbers all_numbers count all_count s e in_range.transcript_small more higher;
    c_to_g = c_to_g_kept forward first xs ys zs numbers all_numbers count all_count s e in_range.transcript_small more higher;
  }

-- over records: CDS bounds, moved up
abbrev pub cds_up : ℕ → Cds → Cds
cds_up n no_cds = no_cds
cds_up n (cds s e) = cds (s + n) (e + n)

-- the records are lengthened by `left` and `right`, along the genome
abbrev pub lengthened : Bool → List Exon → List Exon → List Exon → Cds → Transcript
lengthened forward left rs right c = build forward (left ++ (rs ++ right)) (cds_up (cond forward (exon_bases left) (exon_bases right)) c)

module _ (forward : Bool) (left : List Exon) (r : Exon) (rs right : List Exon) (spans : Spans (left ++ (r ∷ rs ++ right))) (order : InOrder 0 (left ++ (r ∷ rs ++ right))) where
  abbrev all : List Exon
  all = left ++ (r ∷ rs ++ right)

  -- the records added upstream
  abbrev more : ℕ
  more = cond forward (length left) (length right)

  module _ (s e : ℕ) where
    -- the two over the elements of the records
    abbrev shorter : Transcript
    shorter = short forward (first_start all) (lead forward left r) (elements_of forward (r ∷ rs)) (trail forward r rs right) (numbers_of forward (r ∷ rs)) (numbers_of forward all) (length (r ∷ rs)) (length all) s e

    abbrev longer : Transcript
    longer = long forward (first_start all) (lead forward left r) (elements_of forward (r ∷ rs)) (trail forward r rs right) (numbers_of forward (r ∷ rs)) (numbers_of forward all) (length (r ∷ rs)) (length all) s e

    short_is : build forward (r ∷ rs) (cds s e) ≡ shorter
    unfolding build first_start
    short_is = rw (lead_span forward 0 left r (rs ++ right) spans order)

    long_is : lengthened forward left (r ∷ rs) right (cds s e) ≡ longer
    unfolding build
    long_is = rw (split forward left r rs right, lead_bases forward left r, trail_bases forward r rs right)

    coded : InRange (lengthened forward left (r ∷ rs) right (cds s e)) → Keeps ours more (build forward (r ∷ rs) (cds s e)) (lengthened forward left (r ∷ rs) right (cds s e))
    coded = rw (short_is, long_is)
        (keeps forward (first_start all) (lead forward left r) (elements_of forward (r ∷ rs)) (trail forward r rs right) (numbers_of forward (r ∷ rs)) (numbers_of forward all) (length (r ∷ rs)) (length all) s e
        more (records_higher forward left r rs right))

  pub lengthened_keeps : (c : Cds) → InRange (lengthened forward left (r ∷ rs) right c) → Keeps ours more (build forward (r ∷ rs) c) (lengthened forward left (r ∷ rs) right c)
  unfolding build
  lengthened_keeps no_cds in_range = uncoded more (build forward (r ∷ rs) no_cds) (lengthened forward left (r ∷ rs) right no_cds) refl
  lengthened_keeps (cds s e) in_range = coded s e in_range
