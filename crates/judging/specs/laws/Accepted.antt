-- What is known of an input that building accepts.
--     accepted_means, records_mean, measured_means    the judgment taken apart: no test refused, and what was made of the input
--     sane, judged_sane                               what is known of what records make: few segments, six letters, none of 9, 10 and 12, records in order and few
--     accepted_spanning                               each record's CIGAR spans exactly its genome bounds
--     measured_inside                                 what is known of what a length makes
-- Assumes nothing.
use Rattle.std.specs.Prelude.{ℕ, zero, suc, ◌+◌, ◌-◌, ◌%◌, ◌≤◌, ◌<◌, Bool, true, false, ◌≡◌, eqb, ltb, leb, ℤ, pos, negsuc, nat_abs, ◌+ℤ◌, Some, None, Option}
use Rattle.std.proofs.Common.{arith, sym, ap, ◌∙◌, eqb-true, ltb-true, ltb-false, leb-true, leb-false}
use mathlib.Core.List.{List, [], ◌∷◌}
use Rattle.std.proofs.Math.Path.{refl}
use Rattle.std.proofs.Math.ListN.{length, length-append}
use Rattle.std.specs.Int.Signed.{lt_z}
use Rattle.std.proofs.lemmas.Bool.{eqb-false}
use Rattle.refusals.specs.Numbers.{most_records, most_segments, most_text, most_bases}
use Rattle.refusals.specs.Outcome.{Ok, Err, and_then, unless, no_fault}
use Rattle.refusals.specs.laws.Outcomes.{clash, same, passed}
use Rattle.whole.specs.Whole.{eq_z}
use Rattle.whole.specs.laws.Whole.{by_test, order, eq_means}
use Rattle.cigar.specs.Elements.{Element, is_letter, genome, transcript, total, letter_n}
use Rattle.cigar.specs.Text.{Reading, read_all}
use Rattle.cigar.specs.laws.Sound.{AllSound, read_sound, read_room}
use Rattle.segments.specs.laws.Made.{Lettered, lettered_append, lettered_reverse}
use Rattle.records.specs.Records.{Record, exactly}
use Rattle.records.specs.Faults.{faults, faults_after, own_fault}
use Rattle.records.specs.laws.Chain.{clear}
use Rattle.records.specs.Walk.{Ordered}
use Rattle.records.specs.laws.Walk.{beside_order, ordered}
use Rattle.transcript.specs.Transcript.{Cds}
use Rattle.transcript.specs.Transcript.Cds.{no_cds, cds}
use Rattle.transcript.specs.Building.{Exon, parts_of, elements_after, elements_of, first_start}
use Rattle.judging.specs.Input.{Input, input_of}
use Rattle.reading.specs.Reading.{genome_end_of as genome_end, exon_of, Exons, is_spanned, spanned, followed_by, read_first, read_next, exons_after, exons_of}
use Rattle.reading.specs.laws.Spans.{before_all, ahead, followed, spanned_is}
use Rattle.reading.proofs.laws.Counted.{all_count}
use Rattle.reading.proofs.laws.Tallied.{parts_length}
use Rattle.judging.specs.Judging.{Made, Measured, half_fault, range_fault, cds_fault, cds_of, last_fault, judge_exons, judge_on, judge_input, judge, length_fault, judge_length, elements_made}
use Rattle.transcript.specs.Heads.{both_bits, start_of, end_of, number_of, bits_of, start_in, end_in, strand_of}
use Rattle.transcript.specs.declared.Numbers.{Numbers}

-- ---- the judgment, taken apart

-- on a strand
pub record On (i : Input) (m : Made) : Type 0 where
  pub few : length i.records ≤ most_records
  pub sound : faults m.forward i.records ≡ no_fault
  pub both_or_none : half_fault i.start i.end ≡ no_fault
  pub were_read : exons_of i.records ≡ Ok m.exon_list
  pub last : last_fault i.start i.end (length (elements_made m)) (first_start m.exon_list) (total genome (elements_made m)) (total transcript (elements_made m)) ≡ no_fault
  pub coding_is : m.coding ≡ cds_of i.start i.end

module _ (forward : Bool) (i : Input) (m : Made) where
  exons_pass : (x : Exons) → x ≡ exons_of i.records → length i.records ≤ most_records → faults forward i.records ≡ no_fault → half_fault i.start i.end ≡ no_fault
      → judge_exons forward i x ≡ Ok m → (m.forward ≡ forward) × On i m
  exons_pass (Ok xs) read few sound half h =
      let (no_last, is) = passed _ (Ok _) m h in
      let made = same is in
      rw (← made) (refl, record { few = few; sound = sound; both_or_none = half; were_read = sym read; last = no_last; coding_is = refl })
  exons_pass (Err k) read few sound half h = absurd (clash h)

  on_strand : judge_on forward i ≡ Ok m → (m.forward ≡ forward) × On i m
  unfolding judge_on
  on_strand =
      by_test (ltb most_records (length i.records))
      (λ t. rw t (λ h. absurd (clash h)))
      (λ t. rw t (λ h.
      let (sound, h₁) = passed (faults forward i.records) (unless (half_fault i.start i.end) (judge_exons forward i (exons_of i.records))) m h in
      let (half, h₂) = passed (half_fault i.start i.end) (judge_exons forward i (exons_of i.records)) m h₁ in
      exons_pass (exons_of i.records) refl (ltb-false most_records (length i.records) t) sound half h₂))

-- records that are accepted: there is one, the strand is 1 or -1, and nothing refuses them on it
pub record RecordsPass (i : Input) (m : Made) : Type 0 where
  pub some : 0 < length i.records
  pub strand_is : i.strand ≡ strand_of m.forward
  pub on : On i m

pub records_mean : (i : Input) (m : Made) → judge_input i ≡ Ok m → RecordsPass i m
unfolding judge_input
records_mean i m =
    by_test (eqb (length i.records) 0)
    (λ t. rw t (λ h. absurd (clash h)))
    (λ t.
    let some : 0 < length i.records = omega (arith, eqb-false (length i.records) 0 t) in
    by_test (eq_z i.strand (pos 1))
    (λ u. rw (t, u) (λ h.
    let (forward, on) = on_strand true i m h in
    record { some = some; strand_is = rw forward (eq_means i.strand (pos 1) u); on = on }))
    (λ u.
    by_test (eq_z i.strand (negsuc 0))
    (λ v. rw (t, u, v) (λ h.
    let (forward, on) = on_strand false i m h in
    record { some = some; strand_is = rw forward (eq_means i.strand (negsuc 0) v); on = on }))
    (λ v. rw (t, u, v) (λ h. absurd (clash h)))))

-- what is handed over and accepted: known CDS bits, and bytes that are just that many records
pub record Accepted (n : Numbers) (bytes : List ℕ) (m : Made) : Type 0 where
  pub known : n.cds ≤ both_bits
  pub exact : exactly n.count bytes 0 ≡ true
  pub pass : RecordsPass (input_of n bytes) m

pub accepted_means : (n : Numbers) (bytes : List ℕ) (m : Made) → judge n bytes ≡ Ok m → Accepted n bytes m
unfolding judge
accepted_means n bytes m =
    by_test (ltb both_bits n.cds)
    (λ t. rw t (λ h. absurd (clash h)))
    (λ t.
    by_test (exactly n.count bytes 0)
    (λ u. rw (t, u) (λ h. record { known = ltb-false both_bits n.cds t; exact = u; pass = records_mean (input_of n bytes) m h }))
    (λ u. rw (t, u) (λ h. absurd (clash h))))

-- ---- the CDS

-- a CDS lies in a transcript of that length
abbrev pub CdsInside : Cds → ℕ → Type 0
CdsInside no_cds len = Unit {0}
CdsInside (cds s e) len = (s ≤ e) × (e ≤ len)

-- bounds that pass 11 and 12: the CDS lies in the transcript, and its numbers are those that were given
pub record CdsPass (start end : Option ℤ) (len : ℕ) : Type 0 where
  pub inside : CdsInside (cds_of start end) len
  pub start_is : number_of start ≡ start_in (cds_of start end)
  pub end_is : number_of end ≡ end_in (cds_of start end)

-- a number that is not negative
pub whole : (z : ℤ) → lt_z z (pos 0) ≡ false → z ≡ pos (nat_abs z)
whole (pos n) h = refl
whole (negsuc n) h = absurd (omega order)

range_pass : (s e : ℤ) (len : ℕ) → range_fault s e (pos len) ≡ no_fault → CdsPass (Some s) (Some e) len
unfolding range_fault
range_pass s e len =
    by_test (lt_z s (pos 0))
    (λ t. rw t (λ h. absurd (clash h)))
    (λ t.
    by_test (lt_z e s)
    (λ u. rw (t, u) (λ h. absurd (clash h)))
    (λ u.
    by_test (lt_z (pos len) e)
    (λ v. rw (t, u, v) (λ h. absurd (clash h)))
    (λ v h.
    let s_whole = whole s t in
    let e_whole = whole e (omega order) in
    record { inside = (omega order, omega order); start_is = s_whole; end_is = e_whole })))

pub cds_pass : (start end : Option ℤ) (len : ℕ) → half_fault start end ≡ no_fault → cds_fault start end len ≡ no_fault → CdsPass start end len
cds_pass (Some s) (Some e) len h k = range_pass s e len k
cds_pass (Some s) None len h k = absurd (clash h)
cds_pass None (Some e) len h k = absurd (clash h)
cds_pass None None len h k = record { inside = tt; start_is = refl; end_is = refl }

-- bits that pass 23 and 11 are those of the CDS
pub bits_are : (bits : ℕ) (start end : ℤ) → bits ≤ both_bits → half_fault (start_of bits start) (end_of bits end) ≡ no_fault
    → pos bits ≡ bits_of (cds_of (start_of bits start) (end_of bits end))
bits_are bits start end known =
    by_test (eqb (bits % 2) 1)
    (λ t.
    by_test (leb 2 bits)
    (λ u. rw (t, u) (λ h. ap pos (omega (arith, eqb-true (bits % 2) 1 t, leb-true 2 bits u))))
    (λ u. rw (t, u) (λ h. absurd (clash h))))
    (λ t.
    by_test (leb 2 bits)
    (λ u. rw (t, u) (λ h. absurd (clash h)))
    (λ u. rw (t, u) (λ h. ap pos (even bits (leb-false 2 bits u) (eqb-false (bits % 2) 1 t)))))
  where
    even : (n : ℕ) → n < 2 → (n % 2 ≡ 1 → ⊥) → n ≡ 0
    even zero l h = refl
    even (suc zero) l h = absurd (h refl)
    even (suc (suc n)) l h = absurd (omega arith)

-- ---- 10, 9 and 12

pub record LastPass (start end : Option ℤ) (n first g t : ℕ) : Type 0 where
  pub some : 0 < n
  pub transcript_small : t ≤ most_bases
  pub genome_small : first + g ≤ most_bases
  pub cds_fits : cds_fault start end t ≡ no_fault

pub last_pass : (start end : Option ℤ) (n first g t : ℕ) → last_fault start end n first g t ≡ no_fault → LastPass start end n first g t
unfolding last_fault
last_pass start end n first g t =
    by_test (eqb n 0)
    (λ a. rw a (λ h. absurd (clash h)))
    (λ a.
    by_test (ltb most_bases t)
    (λ b. rw (a, b) (λ h. absurd (clash h)))
    (λ b.
    by_test (ltb most_bases (first + g))
    (λ c. rw (a, b, c) (λ h. absurd (clash h)))
    (λ c. rw (a, b, c) (λ h. record {
      some = omega (arith, eqb-false n 0 a);
      transcript_small = ltb-false most_bases t b;
      genome_small = ltb-false most_bases (first + g) c;
      cds_fits = h;
    }))))

-- ---- records that were read

-- a record that was read and passed 32, and those after it
pub record Split (r : Record) (p : Reading) (next : ℕ → Exons) (xs : List Exon) : Type 0 where
  pub own : List Element
  pub rest : List Exon
  pub was_read : p ≡ Ok own
  pub spans : is_spanned r own ≡ true
  pub others : next (length own) ≡ Ok rest
  pub is : xs ≡ exon_of r own ∷ rest

pub split : (r : Record) (p : Reading) (next : ℕ → Exons) (xs : List Exon) → followed_by r p next ≡ Ok xs → Split r p next xs
split r p next xs h = go (spanned r p) refl (sym (followed r p next) ∙ h)
  where
    go : (q : Reading) → spanned r p ≡ q → and_then q (ahead r next) ≡ Ok xs → Split r p next xs
    go (Ok es) e h = with_rest (next (length es)) refl h
      where
        with_rest : (q : Exons) → next (length es) ≡ q → before_all (exon_of r es) q ≡ Ok xs → Split r p next xs
        with_rest (Ok ys) n h = let (read, spans) = spanned_is r p e in record { own = es; rest = ys; was_read = read; spans = spans; others = n; is = sym (same h) }
        with_rest (Err k) n h = absurd (clash h)
    go (Err k) e h = absurd (clash h)

none_left : (xs : List Exon) → ◌≡◌ {A = Exons} (Ok []) (Ok xs) → xs ≡ []
none_left xs h = let is : [] ≡ xs = cc in sym is

-- ---- few segments, and six letters

lettered : (es : List Element) → AllSound es → Lettered es
lettered [] h = tt
lettered (x ∷ xs) (s, h) = (s.lettered, lettered xs h)

-- a record's elements, in the order of the strand, and others after them
parts_lettered : (forward : Bool) (x : Exon) → Lettered x.parts → Lettered (parts_of forward x)
unfolding parts_of
parts_lettered true x h = h
parts_lettered false x h = lettered_reverse x.parts h

-- a reading's elements have room, and six letters
pub record Fine (room : ℕ) (es : List Element) : Type 0 where
  pub fits : length es ≤ room
  pub letters : Lettered es

read_fine : (room : ℕ) (text : List ℕ) (es : List Element) → read_all room text ≡ Ok es → Fine room es
read_fine room text es e = record { fits = read_room room text e; letters = lettered es (read_sound room text e) }

first_fine : (r : Record) (es : List Element) → read_first r ≡ Ok es → Fine most_segments es
unfolding read_first
first_fine r es =
    by_test (ltb most_text (length r.cigar))
    (λ t. rw t (λ h. absurd (clash h)))
    (λ t. rw t (λ h. read_fine most_segments r.cigar es h))

next_fine : (used : ℕ) (r : Record) (es : List Element) → used ≤ most_segments → read_next used r ≡ Ok es → (used < most_segments) × Fine (most_segments - (used + 1)) es
unfolding read_next
next_fine used r es few =
    by_test (ltb most_text (length r.cigar))
    (λ t. rw t (λ h. absurd (clash h)))
    (λ t.
    by_test (eqb used most_segments)
    (λ u. rw (t, u) (λ h. absurd (clash h)))
    (λ u. rw (t, u) (λ h. (below used few (eqb-false used most_segments u), read_fine (most_segments - (used + 1)) r.cigar es h))))
  where
    below : (n : ℕ) → n ≤ most_segments → (n ≡ most_segments → ⊥) → n < most_segments
    below n l h = by_test (ltb n most_segments) (λ e. ltb-true n most_segments e) (λ e. let past = ltb-false n most_segments e in absurd (h (omega arith)))

-- the N before a record is one of the six letters
gap_lettered : is_letter letter_n ≡ true
unfolding is_letter
gap_lettered = refl

module _ (forward : Bool) where
  after_fine : (e used : ℕ) (rs : List Record) (xs : List Exon) → used ≤ most_segments → exons_after used rs ≡ Ok xs → Fine (most_segments - used) (elements_after forward e xs)
  unfolding exons_after elements_after
  after_fine e used [] xs few h = rw (none_left xs h) (record { fits = omega arith; letters = tt })
  after_fine e used (r ∷ rs) xs few h =
      let s = split r (read_next used r) (λ n. exons_after (used + 1 + n) rs) xs h in
      let (room, own) = next_fine used r s.own few s.was_read in
      let x = exon_of r s.own in
      let rest = after_fine x.alt_end (used + 1 + length s.own) rs s.rest (omega (arith, own.fits)) s.others in
      let es = elements_after forward x.alt_end s.rest in
      rw s.is (record {
        fits = omega (arith, length-append (parts_of forward x) es, parts_length forward x, own.fits, rest.fits);
        letters = (gap_lettered, lettered_append (parts_of forward x) es (parts_lettered forward x own.letters) rest.letters);
      })

  pub all_fine : (rs : List Record) (xs : List Exon) → exons_of rs ≡ Ok xs → Fine most_segments (elements_of forward xs)
  unfolding exons_of elements_of
  all_fine [] xs h = rw (none_left xs h) (record { fits = omega arith; letters = tt })
  all_fine (r ∷ rs) xs h =
      let s = split r (read_first r) (λ n. exons_after n rs) xs h in
      let own = first_fine r s.own s.was_read in
      let x = exon_of r s.own in
      let rest = after_fine x.alt_end (length s.own) rs s.rest own.fits s.others in
      let es = elements_after forward x.alt_end s.rest in
      rw s.is (record {
        fits = omega (arith, length-append (parts_of forward x) es, parts_length forward x, own.fits, rest.fits);
        letters = lettered_append (parts_of forward x) es (parts_lettered forward x own.letters) rest.letters;
      })

-- ---- 32

-- each record's elements are just as long along the genome as its bounds
abbrev pub AllSpanning : List Record → List Exon → Type 0
AllSpanning [] xs = Unit {0}
AllSpanning (r ∷ rs) [] = ⊥
AllSpanning (r ∷ rs) (x ∷ xs) = (r.alt_start +ℤ pos (total genome x.parts) ≡ r.alt_end) × AllSpanning rs xs

own_span : (r : Record) (es : List Element) → is_spanned r es ≡ true → r.alt_start +ℤ pos (total genome es) ≡ r.alt_end
own_span r es h = let z = r.alt_start +ℤ pos (total genome es) in eq_means z r.alt_end h

after_spanning : (used : ℕ) (rs : List Record) (xs : List Exon) → exons_after used rs ≡ Ok xs → AllSpanning rs xs
unfolding exons_after
after_spanning used [] xs h = tt
after_spanning used (r ∷ rs) xs h =
    let s = split r (read_next used r) (λ n. exons_after (used + 1 + n) rs) xs h in
    rw s.is (own_span r s.own s.spans, after_spanning (used + 1 + length s.own) rs s.rest s.others)

all_spanning : (rs : List Record) (xs : List Exon) → exons_of rs ≡ Ok xs → AllSpanning rs xs
unfolding exons_of
all_spanning [] xs h = tt
all_spanning (r ∷ rs) xs h =
    let s = split r (read_first r) (λ n. exons_after n rs) xs h in
    rw s.is (own_span r s.own s.spans, after_spanning (length s.own) rs s.rest s.others)

-- where records are accepted, each one's CIGAR spans exactly its genome bounds
pub accepted_spanning : (i : Input) (m : Made) → On i m → AllSpanning i.records m.exon_list
accepted_spanning i m on = all_spanning i.records m.exon_list on.were_read

-- ---- records in order

-- no record starts below the end of the one before it, and the first not below e
abbrev pub InOrder : ℕ → List Exon → Type 0
InOrder e [] = Unit {0}
InOrder e (x ∷ xs) = (e ≤ x.alt_start) × InOrder x.alt_end xs

after_in_order : (p : Record) (used : ℕ) (rs : List Record) (xs : List Exon) → Ordered p rs → exons_after used rs ≡ Ok xs → InOrder (genome_end p) xs
unfolding exons_after
after_in_order p used [] xs o h = rw (none_left xs h) tt
after_in_order p used (r ∷ rs) xs (b, o) h =
    let s = split r (read_next used r) (λ n. exons_after (used + 1 + n) rs) xs h in
    rw s.is (beside_order b, after_in_order r (used + 1 + length s.own) rs s.rest o s.others)

pub all_in_order : (forward : Bool) (rs : List Record) (xs : List Exon) → faults forward rs ≡ no_fault → exons_of rs ≡ Ok xs → InOrder 0 xs
unfolding exons_of faults
all_in_order forward [] xs f h = rw (none_left xs h) tt
all_in_order forward (r ∷ rs) xs f h =
    let s = split r (read_first r) (λ n. exons_after n rs) xs h in
    let (own, rest) = clear (own_fault r) (faults_after forward r rs) f in
    rw s.is (omega arith, after_in_order r (length s.own) rs s.rest (ordered forward r rs own rest) s.others)

-- ---- what records make

pub record Sane (m : Made) : Type 0 where
  pub some : 0 < length (elements_made m)
  pub few : length (elements_made m) ≤ most_segments
  pub letters : Lettered (elements_made m)
  pub transcript_small : total transcript (elements_made m) ≤ most_bases
  pub genome_small : first_start m.exon_list + total genome (elements_made m) ≤ most_bases
  pub inside : CdsInside m.coding (total transcript (elements_made m))
  pub in_order : InOrder 0 m.exon_list
  pub few_records : length m.exon_list ≤ most_records

pub sane : (i : Input) (m : Made) → On i m → Sane m
sane i m o =
    let es = elements_made m in
    let last = last_pass i.start i.end (length es) (first_start m.exon_list) (total genome es) (total transcript es) o.last in
    let fine = all_fine m.forward i.records m.exon_list o.were_read in
    record {
      some = last.some;
      few = fine.fits;
      letters = fine.letters;
      transcript_small = last.transcript_small;
      genome_small = last.genome_small;
      inside = rw o.coding_is (cds_pass i.start i.end (total transcript es) o.both_or_none last.cds_fits).inside;
      in_order = all_in_order m.forward i.records m.exon_list o.sound o.were_read;
      few_records = omega (arith, o.few, all_count i.records m.exon_list o.were_read);
    }

pub judged_sane : (n : Numbers) (bytes : List ℕ) (m : Made) → judge n bytes ≡ Ok m → Sane m
judged_sane n bytes m h = sane (input_of n bytes) m (accepted_means n bytes m h).pass.on

-- ---- from a length

pub record Measures (len : ℤ) (bits : ℕ) (start end : ℤ) (m : Measured) : Type 0 where
  pub known : bits ≤ both_bits
  pub length_is : len ≡ pos m.bases
  pub small : m.bases ≤ most_bases
  pub both_or_none : half_fault (start_of bits start) (end_of bits end) ≡ no_fault
  pub cds_fits : cds_fault (start_of bits start) (end_of bits end) m.bases ≡ no_fault
  pub coding_is : m.coding ≡ cds_of (start_of bits start) (end_of bits end)

pub length_pass : (len : ℤ) → length_fault len ≡ no_fault → (len ≡ pos (nat_abs len)) × (nat_abs len ≤ most_bases)
unfolding length_fault
length_pass len =
    by_test (lt_z len (pos 0))
    (λ t. rw t (λ h. absurd (clash h)))
    (λ t.
    by_test (lt_z (pos most_bases) len)
    (λ u. rw (t, u) (λ h. absurd (clash h)))
    (λ u h. let is = whole len t in (is, omega (order, is))))

pub measured_means : (len : ℤ) (bits : ℕ) (start end : ℤ) (m : Measured) → judge_length len bits start end ≡ Ok m → Measures len bits start end m
unfolding judge_length
measured_means len bits start end m =
    by_test (ltb both_bits bits)
    (λ t. rw t (λ h. absurd (clash h)))
    (λ t. rw t (λ h.
    let (long, h₁) = passed (length_fault len) _ m h in
    let (half, h₂) = passed (half_fault (start_of bits start) (end_of bits end)) _ m h₁ in
    let (fits, h₃) = passed (cds_fault (start_of bits start) (end_of bits end) (nat_abs len)) _ m h₂ in
    let (is, small) = length_pass len long in
    rw (← same h₃) (record { known = ltb-false both_bits bits t; length_is = is; small = small; both_or_none = half; cds_fits = fits; coding_is = refl })))

pub measured_inside : (len : ℤ) (bits : ℕ) (start end : ℤ) (m : Measured) → Measures len bits start end m → CdsInside m.coding m.bases
measured_inside len bits start end m a =
    rw a.coding_is (cds_pass (start_of bits start) (end_of bits end) m.bases a.both_or_none a.cds_fits).inside
