-- What building makes holds together, and stands for what was made.
--     built_holds, built_stands          of what records make, with the tables that building wrote
--     measured_holds, measured_stands    of what a length makes, beside any tables and exon numbers
--     makes, refuses                     a judgment by what building answers
-- Assumes nothing.
use Rattle.std.specs.Prelude.{ℕ, ◌≤◌, ◌<◌, Bool, true, false, ◌⊎◌, ◌≡◌, length}
use native.Mathlib.Omega.{arith}
use mathlib.Core.List.{List, [], ◌∷◌}
use Rattle.std.proofs.Common.{inl, inr}
use Rattle.std.proofs.Math.Path.{refl, ap}
use Rattle.refusals.specs.Numbers.{most_segments, most_bases}
use Rattle.refusals.specs.declared.Refusal.{Refusal}
use Rattle.refusals.specs.Outcome.{Outcome, Ok, Err}
use Rattle.cigar.specs.Elements.{Element, genome, transcript, total}
use Rattle.segments.specs.Tables.{Tables, padded, tables_of}
use Rattle.segments.specs.Exons.{read_numbers}
use Rattle.segments.specs.laws.Exons.{read_padded}
use Rattle.segments.specs.laws.Made.{made_total, made_hold, made_read}
use Rattle.transcript.specs.Transcript.{Cds}
use Rattle.transcript.specs.Transcript.Cds.{no_cds, cds}
use Rattle.transcript.specs.Transcript.Source.{aligned, length_only}
use Rattle.transcript.specs.Building.{Exon, elements_of, numbers_of, build}
use Rattle.transcript.proofs.laws.Numbered.{numbers_length, numbers_hold_lem}
use Rattle.holding.specs.Holding.{Lent, is_forward, is_backward, holds, head_cds, source_of}
use Rattle.holding.specs.laws.Held.{CdsRight, Together, held_where}
use Rattle.judging.specs.Judging.{Made, Measured, elements_made}
use Rattle.transcript.specs.Heads.{bits_of, start_in, end_in, strand_of}
use Rattle.building.specs.Afterwards.{head_of, length_head, built_answer}
use Rattle.judging.specs.laws.Accepted.{CdsInside, Sane}
use Rattle.transcript.specs.laws.Heads.{plus_is}
use Rattle.transcript.specs.declared.Head.{Head}

-- a head beside the tables and the exon numbers that are lent with it
abbrev pub beside : Head → Tables → List ℕ → Lent
beside h a e = record { head = h; tables = a; exons = e }

-- ---- the CDS

-- a head with the numbers of a CDS that lies in the transcript
cds_right : (h : Head) (c : Cds) (len : ℕ) → h.bits ≡ bits_of c → h.start ≡ start_in c → h.end ≡ end_in c → CdsInside c len → CdsRight h len
cds_right h no_cds len b s e inside = inl (rw b refl)
cds_right h (cds from to) len b s e (ordered, within) =
    inr (rw (b, s, e) (record { given = refl; start_natural = refl; end_natural = refl; ordered = ordered; within = within }))

cds_is : (h : Head) (c : Cds) → h.bits ≡ bits_of c → h.start ≡ start_in c → h.end ≡ end_in c → head_cds h ≡ c
cds_is h no_cds b s e = rw b
cds_is h (cds from to) b s e = rw (b, s, e)

-- ---- from records

strand_right : (forward : Bool) (h : Head) → h.strand ≡ strand_of forward → (is_forward h ≡ true) ⊎ (is_backward h ≡ true)
strand_right true h e = inl (rw e)
strand_right false h e = inr (rw e)

forward_is : (forward : Bool) (h : Head) → h.strand ≡ strand_of forward → is_forward h ≡ forward
forward_is forward h e = rw e (plus_is forward)

module _ (m : Made) (s : Sane m) where
  abbrev es : List Element
  es = elements_made m

  abbrev numbers : List ℕ
  numbers = numbers_of m.forward m.exon_list

  abbrev made_lent : Lent
  made_lent = beside (head_of m) (tables_of es) (padded most_segments numbers)

  -- elements come from records
  some_records : (rs : List Exon) → 0 < length (elements_of m.forward rs) → 0 < length rs
  unfolding elements_of
  some_records [] h = h
  some_records (r ∷ rs) h = omega arith

  records_some : 0 < length m.exon_list
  records_some = some_records m.exon_list s.some

  pub built_together : Together made_lent
  built_together = record {
    head = record {
      strand = strand_right m.forward (head_of m) refl;
      count = record { natural = refl; above = omega (arith, s.some); below = s.few };
      records = record { natural = refl; above = omega (arith, records_some); below = s.few_records };
      first_natural = refl;
    };
    segments = made_hold es s.letters;
    exons = rw (forward_is m.forward (head_of m) refl) (numbers_hold_lem m.forward m.exon_list most_segments most_segments records_some);
    genome_within = rw (made_total es genome) s.genome_small;
    transcript_within = rw (made_total es transcript) s.transcript_small;
    cds = rw (made_total es transcript) (cds_right (head_of m) m.coding (total transcript es) refl refl refl s.inside);
  }

  pub built_holds : holds made_lent ≡ true
  built_holds = held_where made_lent (inl (refl, built_together))

  numbers_back : read_numbers (padded most_segments numbers) (length es) ≡ numbers
  numbers_back = rw (← numbers_length m.forward m.exon_list) (read_padded most_segments numbers)

  pub built_stands : source_of made_lent ≡ aligned (build m.forward m.exon_list m.coding)
  unfolding source_of build
  built_stands = ap aligned (rw (forward_is m.forward (head_of m) refl, made_read es, numbers_back, cds_is (head_of m) m.coding refl refl refl))

-- ---- from a length

module _ (m : Measured) (a : Tables) (e : List ℕ) where
  pub measured_holds : m.bases ≤ most_bases → CdsInside m.coding m.bases → holds (beside (length_head m) a e) ≡ true
  measured_holds small inside =
      held_where (beside (length_head m) a e)
      (inr (refl, record { length = record { natural = refl; above = omega arith; below = small }; cds = cds_right (length_head m) m.coding m.bases refl refl refl inside }))

  pub measured_stands : source_of (beside (length_head m) a e) ≡ length_only m.bases m.coding
  unfolding source_of
  measured_stands = ap (length_only m.bases) (cds_is (length_head m) m.coding refl refl refl)

-- ---- what building answers

-- a judgment that is answered by a head
pub record Makes (j : Outcome Made) (h : Head) : Type 0 where
  pub made : Made
  pub judged : j ≡ Ok made
  pub head_is : h ≡ head_of made

pub makes : (j : Outcome Made) (h : Head) → built_answer j ≡ Ok h → Makes j h
makes (Err k) h e = let z : ◌≡◌ {A = ℕ} 0 1 = cc in absurd (omega arith)
makes (Ok m) h e = record { made = m; judged = refl; head_is = cc }

-- one that is answered by a refusal
pub refuses : (j : Outcome Made) (k : Refusal) → built_answer j ≡ Err k → j ≡ Err k
refuses (Err l) k e = let is : l ≡ k = cc in ap Err is
refuses (Ok m) k e = let z : ◌≡◌ {A = ℕ} 0 1 = cc in absurd (omega arith)
