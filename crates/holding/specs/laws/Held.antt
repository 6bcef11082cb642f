-- What it means that a transcript holds together, as facts: `holds` is true exactly where they hold. And what a question about a transcript goes by. Assumes nothing.
use Rattle.std.specs.Prelude.{ℕ, ◌+◌, ◌≤◌, Bool, true, false, ◌&&◌, ◌||◌, ◌⊎◌, ◌≡◌, refl, leb, ℤ, pos, negsuc, nat_abs}
use Rattle.std.proofs.Common.{arith, sym, ◌∙◌}
use Rattle.std.proofs.lemmas.Bool.{false≢true}
use Rattle.std.proofs.Math.Logic.{inl, inr, ⊎_elim}
use Rattle.std.specs.Int.Signed.{le_z}
use borrow.Author.Tests.{leb-true, le-leb}
use Rattle.refusals.specs.Numbers.{most_records, most_segments, most_bases}
use Rattle.refusals.specs.declared.Refusal.TheVariants.{NotTogether}
use Rattle.refusals.specs.Outcome.{Outcome, Ok, Err}
use Rattle.refusals.specs.laws.Outcomes.{clash}
use Rattle.whole.specs.Whole.{eq_z}
use Rattle.whole.specs.laws.Whole.{order, by_test, both, both_of}
use Rattle.segments.specs.Tables.{segments_hold, Holds}
use Rattle.segments.specs.Exons.{last_number, IsExon}
use Rattle.segments.specs.laws.Meaning.{holds_means, holds_where}
use Rattle.segments.specs.laws.Exons.{read_number, number_is_exon}
use Rattle.segments.specs.laws.Reading.{last_genome, last_transcript}
use Rattle.transcript.specs.Transcript.{Source, exon_number, genome_length, transcript_length}
use Rattle.transcript.specs.Transcript.Source.{aligned, length_only}
use Rattle.holding.specs.Holding.{records_in, Lent, segments_of, genome_end, transcript_end, totals_hold, of_records, of_length, is_forward, is_backward, both_given, head_holds, exons_hold, cds_holds, records_hold, length_holds, holds, head_cds, transcript_of, source_of, checked}
use Rattle.transcript.specs.declared.Head.{Head}

-- ---- the tests of a head's numbers

-- one of two tests is true exactly where their disjunction is
either : (a b : Bool) → (a || b) ≡ true → (a ≡ true) ⊎ (b ≡ true)
either true b e = inl refl
either false b e = inr e

either_of : (a b : Bool) → (a ≡ true) ⊎ (b ≡ true) → (a || b) ≡ true
either_of true b o = refl
either_of false b o = ⊎_elim (λ e. absurd (false≢true e)) (λ e. e) o

-- a number that lies in low to high
pub record Between (low high : ℕ) (z : ℤ) : Type 0 where
  pub natural : z ≡ pos (nat_abs z)
  pub above : low ≤ nat_abs z
  pub below : nat_abs z ≤ high

between : (low high : ℕ) (z : ℤ) → le_z (pos low) z ≡ true → le_z z (pos high) ≡ true → Between low high z
between low high (pos n) l h = record { natural = refl; above = leb-true low n l; below = leb-true n high h }
between low high (negsuc n) l h = absurd (false≢true l)

between_low : (low high : ℕ) (z : ℤ) → Between low high z → le_z (pos low) z ≡ true
between_low low high (pos n) b = le-leb low n b.above
between_low low high (negsuc n) b = absurd (omega (order, b.natural))

between_high : (low high : ℕ) (z : ℤ) → Between low high z → le_z z (pos high) ≡ true
between_high low high (pos n) b = le-leb n high b.below
between_high low high (negsuc n) b = refl

-- a number that is not negative
natural_is : (z : ℤ) → le_z (pos 0) z ≡ true → z ≡ pos (nat_abs z)
natural_is (pos n) e = refl
natural_is (negsuc n) e = absurd (false≢true e)

pub natural_says : (z : ℤ) → z ≡ pos (nat_abs z) → le_z (pos 0) z ≡ true
natural_says (pos n) e = le-leb 0 n (omega arith)
natural_says (negsuc n) e = absurd (omega order)

-- ---- the CDS: neither bound is given, or both are and 0 <= start <= end <= length

pub record CdsBounds (h : Head) (len : ℕ) : Type 0 where
  pub given : both_given h ≡ true
  pub start_natural : h.start ≡ pos (nat_abs h.start)
  pub end_natural : h.end ≡ pos (nat_abs h.end)
  pub ordered : nat_abs h.start ≤ nat_abs h.end
  pub within : nat_abs h.end ≤ len

abbrev pub CdsRight : Head → ℕ → Type 0
CdsRight h len = (eq_z h.bits (pos 0) ≡ true) ⊎ CdsBounds h len

-- the test of the two bounds
abbrev bounds_hold : ℤ → ℤ → ℕ → Bool
bounds_hold s e len = le_z (pos 0) s && le_z s e && le_z e (pos len)

bounds_mean : (s e : ℤ) (len : ℕ) → bounds_hold s e len ≡ true → (s ≡ pos (nat_abs s)) × (e ≡ pos (nat_abs e)) × (nat_abs s ≤ nat_abs e) × (nat_abs e ≤ len)
bounds_mean (pos s) (pos e) len h =
    let (low, high) = both (leb 0 s && leb s e) (leb e len) h in
    (refl, refl, leb-true s e (both (leb 0 s) (leb s e) low).1, leb-true e len high)
bounds_mean (pos s) (negsuc e) len h = absurd (false≢true (both (leb 0 s) false (both (leb 0 s && false) true h).0).1)
bounds_mean (negsuc s) e len h = absurd (false≢true h)

bounds_where : (s e : ℤ) (len : ℕ) → s ≡ pos (nat_abs s) → e ≡ pos (nat_abs e) → nat_abs s ≤ nat_abs e → nat_abs e ≤ len → bounds_hold s e len ≡ true
bounds_where (pos s) (pos e) len n m o w = both_of (both_of (le-leb 0 s (omega arith)) (le-leb s e o)) (le-leb e len w)
bounds_where (pos s) (negsuc e) len n m o w = absurd (omega order)
bounds_where (negsuc s) e len n m o w = absurd (omega order)

module _ (h : Head) (len : ℕ) where
  pub cds_means : cds_holds h len ≡ true → CdsRight h len
  unfolding cds_holds
  cds_means c =
      ⊎_elim inl
      (λ b.
      let (given, bounds) = both (both_given h) (bounds_hold h.start h.end len) b in
      let (s, e, o, w) = bounds_mean h.start h.end len bounds in
      inr (record { given = given; start_natural = s; end_natural = e; ordered = o; within = w }))
      (either (eq_z h.bits (pos 0)) (both_given h && bounds_hold h.start h.end len) c)

  pub cds_where : CdsRight h len → cds_holds h len ≡ true
  unfolding cds_holds
  cds_where r =
      either_of (eq_z h.bits (pos 0)) (both_given h && bounds_hold h.start h.end len)
      (⊎_elim inl (λ (b : CdsBounds h len). inr (both_of b.given (bounds_where h.start h.end len b.start_natural b.end_natural b.ordered b.within))) r)

-- ---- a transcript built from records

pub record HeadRight (h : Head) : Type 0 where
  pub strand : (is_forward h ≡ true) ⊎ (is_backward h ≡ true)
  pub count : Between 1 most_segments h.count
  pub records : Between 1 most_records h.records
  pub first_natural : h.first ≡ pos (nat_abs h.first)

pub head_means : (h : Head) → head_holds h ≡ true → HeadRight h
head_means h e =
    let (start, first) = both ((is_forward h || is_backward h) && (le_z (pos 1) h.count && le_z h.count (pos most_segments)) && (le_z (pos 1) h.records && le_z h.records (pos most_records))) (le_z (pos 0) h.first) e in
    let (front, records) = both ((is_forward h || is_backward h) && (le_z (pos 1) h.count && le_z h.count (pos most_segments))) (le_z (pos 1) h.records && le_z h.records (pos most_records)) start in
    let (strand, count) = both (is_forward h || is_backward h) (le_z (pos 1) h.count && le_z h.count (pos most_segments)) front in
    let (low, high) = both (le_z (pos 1) h.count) (le_z h.count (pos most_segments)) count in
    let (one, most) = both (le_z (pos 1) h.records) (le_z h.records (pos most_records)) records in
    record {
      strand = either (is_forward h) (is_backward h) strand;
      count = between 1 most_segments h.count low high;
      records = between 1 most_records h.records one most;
      first_natural = natural_is h.first first;
    }

pub head_where : (h : Head) → HeadRight h → head_holds h ≡ true
head_where h r =
    both_of
    (both_of
    (both_of
    (either_of (is_forward h) (is_backward h) r.strand)
    (both_of (between_low 1 most_segments h.count r.count) (between_high 1 most_segments h.count r.count)))
    (both_of (between_low 1 most_records h.records r.records) (between_high 1 most_records h.records r.records)))
    (natural_says h.first r.first_natural)

pub record Together (x : Lent) : Type 0 where
  pub head : HeadRight x.head
  pub segments : Holds x.tables (segments_of x)
  pub exons : exons_hold x ≡ true
  pub genome_within : nat_abs x.head.first + genome_end x ≤ most_bases
  pub transcript_within : transcript_end x ≤ most_bases
  pub cds : CdsRight x.head (transcript_end x)

module _ (x : Lent) where
  abbrev held_tables : Bool
  held_tables = segments_hold x.tables (segments_of x) && exons_hold x

  abbrev held_totals : Bool
  held_totals = totals_hold (nat_abs x.head.first) (genome_end x) (transcript_end x)

  pub records_mean : records_hold x ≡ true → Together x
  unfolding records_hold
  records_mean e =
      let (tables, cds) = both (head_holds x.head && held_tables && held_totals) (cds_holds x.head (transcript_end x)) e in
      let (segments, ends) = both (head_holds x.head && held_tables) held_totals tables in
      let (head, held) = both (head_holds x.head) held_tables segments in
      let (elements, numbers) = both (segments_hold x.tables (segments_of x)) (exons_hold x) held in
      let (genome, transcript) = both (leb (nat_abs x.head.first + genome_end x) most_bases) (leb (transcript_end x) most_bases) ends in
      record {
        head = head_means x.head head;
        segments = holds_means x.tables (segments_of x) elements;
        exons = numbers;
        genome_within = leb-true (nat_abs x.head.first + genome_end x) most_bases genome;
        transcript_within = leb-true (transcript_end x) most_bases transcript;
        cds = cds_means x.head (transcript_end x) cds;
      }

  pub records_where : Together x → records_hold x ≡ true
  unfolding records_hold
  records_where w =
      both_of
      (both_of
      (both_of (head_where x.head w.head) (both_of (holds_where x.tables (segments_of x) w.segments) w.exons))
      (both_of (le-leb (nat_abs x.head.first + genome_end x) most_bases w.genome_within) (le-leb (transcript_end x) most_bases w.transcript_within)))
      (cds_where x.head (transcript_end x) w.cds)

-- ---- a transcript built from a length

pub record LengthRight (h : Head) : Type 0 where
  pub length : Between 0 most_bases h.length
  pub cds : CdsRight h (nat_abs h.length)

module _ (h : Head) where
  pub length_means : length_holds h ≡ true → LengthRight h
  unfolding length_holds
  length_means e =
      let (within, cds) = both (le_z (pos 0) h.length && le_z h.length (pos most_bases)) (cds_holds h (nat_abs h.length)) e in
      let (low, high) = both (le_z (pos 0) h.length) (le_z h.length (pos most_bases)) within in
      record { length = between 0 most_bases h.length low high; cds = cds_means h (nat_abs h.length) cds }

  pub length_where : LengthRight h → length_holds h ≡ true
  unfolding length_holds
  length_where r =
      both_of
      (both_of (between_low 0 most_bases h.length r.length) (between_high 0 most_bases h.length r.length))
      (cds_where h (nat_abs h.length) r.cds)

-- ---- either kind

-- one head is not of both kinds
one_kind : (z : ℤ) → eq_z z (pos 1) ≡ true → eq_z z (pos 0) ≡ false
one_kind z e = omega order

abbrev pub Held : Lent → Type 0
Held x = ((of_records x.head ≡ true) × Together x) ⊎ ((of_length x.head ≡ true) × LengthRight x.head)

module _ (x : Lent) where
  abbrev h : Head
  h = x.head

  by_records : of_records h ≡ true → holds x ≡ records_hold x
  unfolding holds
  by_records r = rw r

  by_length : of_length h ≡ true → holds x ≡ length_holds h
  unfolding holds
  by_length k = rw (one_kind h.kind k, k)

  of_no_kind : of_records h ≡ false → of_length h ≡ false → holds x ≡ false
  unfolding holds
  of_no_kind r k = rw (r, k)

  pub held_means : holds x ≡ true → Held x
  held_means e =
      by_test (of_records h)
      (λ r. inl (r, records_mean x (sym (by_records r) ∙ e)))
      (λ r.
      by_test (of_length h)
      (λ k. inr (k, length_means h (sym (by_length k) ∙ e)))
      (λ k. absurd (false≢true (sym (of_no_kind r k) ∙ e))))

  pub held_where : Held x → holds x ≡ true
  held_where =
      ⊎_elim
      (λ (w : (of_records h ≡ true) × Together x). by_records w.0 ∙ records_where x w.1)
      (λ (w : (of_length h ≡ true) × LengthRight h). by_length w.0 ∙ length_where h w.1)

  -- a head that holds together is of records or of a length, and what it then stands for
  pub together : holds x ≡ true → of_records h ≡ true → Together x
  together e r = records_mean x (sym (by_records r) ∙ e)

  pub length_right : holds x ≡ true → of_records h ≡ false → LengthRight h
  length_right e r =
      by_test (of_length h)
      (λ k. length_means h (sym (by_length k) ∙ e))
      (λ k. absurd (false≢true (sym (of_no_kind r k) ∙ e)))

  pub source_of_records : of_records h ≡ true → source_of x ≡ aligned (transcript_of x)
  unfolding source_of
  source_of_records r = rw r

  pub source_of_length : of_records h ≡ false → source_of x ≡ length_only (nat_abs h.length) (head_cds h)
  unfolding source_of
  source_of_length r = rw r

-- ---- what a question goes by

-- both CDS bounds are given: they are the CDS, and lie in 0 to the length
pub cds_bounds : (h : Head) (len : ℕ) → CdsRight h len → both_given h ≡ true → CdsBounds h len
cds_bounds h len right given_both = ⊎_elim (λ none. absurd (omega order)) (λ b. b) right

module _ (x : Lent) (w : Together x) where
  pub held_head : head_holds x.head ≡ true
  held_head = head_where x.head w.head

  pub some : 1 ≤ segments_of x
  some = w.head.count.above

  pub few : segments_of x ≤ most_segments
  few = w.head.count.below

  pub held_segments : segments_hold x.tables (segments_of x) ≡ true
  held_segments = holds_where x.tables (segments_of x) w.segments

  -- each exon number is that of a record
  pub held_exons : (i : ℕ) → IsExon (records_in x.head) (exon_number (transcript_of x) i)
  held_exons i =
      let h = x.head in
      rw (read_number x.exons (segments_of x) (last_number (is_forward h) (records_in h)) i)
      (number_is_exon (is_forward h) (records_in h) x.tables.letters x.exons (segments_of x) w.exons i)

  -- the last entries are the lengths
  pub genome_length_lem : genome_length (transcript_of x) ≡ genome_end x
  genome_length_lem = last_genome x.tables (segments_of x) w.segments

  pub transcript_length_lem : transcript_length (transcript_of x) ≡ transcript_end x
  transcript_length_lem = last_transcript x.tables (segments_of x) w.segments

-- ---- a question that is checked first

module _ {A : Type 0} (x : Lent) (ask : Source → Outcome A) where
  pub checked_held : holds x ≡ true → checked x ask ≡ ask (source_of x)
  unfolding checked
  checked_held e = rw e

  pub checked_broken : holds x ≡ false → checked x ask ≡ Err NotTogether
  unfolding checked
  checked_broken e = rw e

  -- where it is answered, what is lent holds together, and that is the question's own answer
  pub checked_answered : (a : A) → checked x ask ≡ Ok a → (holds x ≡ true) × (ask (source_of x) ≡ Ok a)
  checked_answered a h =
      by_test (holds x)
      (λ e. (e, sym (checked_held e) ∙ h))
      (λ e. absurd (clash (sym (checked_broken e) ∙ h)))
