-- What is known of an input from which a transcript builds: its exons are its records, each with the elements of its CIGAR; what it makes can be lent, and holds together. Assumes nothing.
use Prim.Native.Nat.{ℕ, ◌+◌, ◌-◌, ◌<◌}
use native.Mathlib.Omega.{arith}
use mathlib.Core.Bool.{Bool, true, false}
use mathlib.Core.List.{List, [], ◌∷◌, map}
use mathlib.Core.Path.{◌≡◌, refl, sym, ap, ◌∙◌, subst}
use lib.Dec.{eqb, ltb}
use lib.IntN.{ℤ, pos, negsuc, nat_abs, ◌+ℤ◌}
use lib.ListN.{length}
use lib.Signed.{lt_z}
use Rattle.refusals.specs.Numbers.{most_segments, most_text}
use Rattle.refusals.specs.Outcome.{Outcome, Ok, Err, Answered, through, no_fault}
use Rattle.refusals.specs.laws.Outcomes.{clash, same}
use Rattle.whole.specs.Whole.{eq_z}
use Rattle.whole.specs.laws.Whole.{by_test, order}
use Rattle.cigar.specs.Elements.{genome, transcript, total}
use Rattle.cigar.specs.Text.{Reading, elements_in}
use Rattle.cigar.specs.Read.{read_text}
use Rattle.records.specs.Records.{Record}
use Rattle.records.specs.Faults.{faults, faults_after, own_fault}
use Rattle.records.specs.laws.Chain.{clear}
use Rattle.records.specs.Walk.{Ordered}
use Rattle.records.specs.laws.Walk.{own_sound, ordered}
use Rattle.transcript.specs.Transcript.{Transcript, transcript_length}
use Rattle.transcript.specs.Transcript.Source.{aligned}
use Rattle.transcript.specs.Building.{Exon, numbers_of, build}
use Rattle.transcript.specs.laws.Heads.{plus_is}
use Rattle.reading.specs.Reading.{exon_of, Exons, followed_by, read_first, read_next, exons_after, exons_of}
use Rattle.judging.specs.Input.{Input}
use Rattle.judging.specs.Judging.{Made, elements_made, cds_of, judge_input}
use Rattle.judging.specs.laws.Accepted.{RecordsPass, records_mean, split, AllSpanning, accepted_spanning, InOrder, CdsPass, cds_pass, last_pass, sane}
use Rattle.segments.specs.Tables.{padded, tables_of}
use Rattle.holding.specs.Holding.{Lent, holds, source_of}
use Rattle.building.specs.Afterwards.{head_of}
use Rattle.building.proofs.laws.Standing.{beside, built_holds, built_stands}
use Rattle.promises.specs.Demands.{cigar_of, AllSpan, made_of, Builds}
use Rattle.promises.proofs.Rooms.{reads_alike}
use Rattle.promises.proofs.Records.{Spans}

-- ---- the exons

-- a record's genome bounds and its CIGAR's elements
abbrev pub exon_in : Record → Exon
exon_in r = exon_of r (cigar_of r)

next_is : (used : ℕ) (r : Record) → Answered (read_next used r) → read_text r.cigar ≡ read_next used r
unfolding read_next read_text
next_is used r =
    by_test (ltb most_text (length r.cigar))
    (λ t. rw t (λ bad. absurd bad))
    (λ t.
    by_test (eqb used most_segments)
    (λ u. rw (t, u) (λ bad. absurd bad))
    (λ u. rw (t, u) (reads_alike r.cigar (most_segments - (used + 1)) most_segments (omega arith) false 0)))

-- a record's reading is the CIGAR's own, and what follows it is those after it
one_more : (r : Record) (rs : List Record) (p : Reading) (next : ℕ → Exons) (xs : List Exon) → (Answered p → read_text r.cigar ≡ p) → ((n : ℕ) (ys : List Exon) → next n ≡ Ok ys → ys ≡ map exon_in rs)
    → followed_by r p next ≡ Ok xs → xs ≡ map exon_in (r ∷ rs)
one_more r rs p next xs is follows h =
    let s = split r p next xs h in
    let own : cigar_of r ≡ s.own = ap elements_in (is (subst Answered (sym s.was_read) tt) ∙ s.was_read) in
    s.is ∙ rw (own, follows (length s.own) s.rest s.others)

after_are : (used : ℕ) (rs : List Record) (xs : List Exon) → exons_after used rs ≡ Ok xs → xs ≡ map exon_in rs
unfolding exons_after
after_are used [] xs h = sym (same h)
after_are used (r ∷ rs) xs h = one_more r rs (read_next used r) (λ n. exons_after (used + 1 + n) rs) xs (next_is used r) (λ n. after_are (used + 1 + n) rs) h

exons_are : (rs : List Record) (xs : List Exon) → exons_of rs ≡ Ok xs → xs ≡ map exon_in rs
unfolding exons_of read_first read_text
exons_are [] xs h = sym (same h)
exons_are (r ∷ rs) xs h = one_more r rs (read_first r) (λ n. exons_after n rs) xs (λ ok. refl) (λ n. after_are n rs) h

-- ---- spans: 32 let each record be, and 4 came first, so that no start is negative

spanning_is : (rs : List Record) → AllSpanning rs (map exon_in rs) → AllSpan rs
spanning_is [] h = tt
spanning_is (r ∷ rs) (span, spans) = (span, spanning_is rs spans)

span_is : (a b : ℤ) (n : ℕ) → lt_z a (pos 0) ≡ false → a +ℤ pos n ≡ b → nat_abs a + n ≡ nat_abs b
span_is (pos a) b n h e = ap nat_abs e
span_is (negsuc a) b n h e = absurd (omega order)

-- no record starts below 0
abbrev pub AllWhole : List Record → Type 0
AllWhole [] = Unit {0}
AllWhole (r ∷ rs) = (lt_z r.alt_start (pos 0) ≡ false) × AllWhole rs

whole_after : (p : Record) (rs : List Record) → Ordered p rs → AllWhole rs
whole_after p [] o = tt
whole_after p (r ∷ rs) (b, o) = (b.start_whole, whole_after r rs o)

all_whole : (forward : Bool) (rs : List Record) → faults forward rs ≡ no_fault → AllWhole rs
unfolding faults
all_whole forward [] f = tt
all_whole forward (r ∷ rs) f =
    let (own, rest) = clear (own_fault r) (faults_after forward r rs) f in
    ((own_sound r own).start_whole, whole_after r rs (ordered forward r rs own rest))

all_span : (rs : List Record) → AllWhole rs → AllSpan rs → Spans (map exon_in rs)
all_span [] w spans = tt
all_span (r ∷ rs) (w, ws) (span, spans) = (span_is r.alt_start r.alt_end (total genome (cigar_of r)) w span, all_span rs ws spans)

-- ---- all of it

pub record From (x : Input) (t : Transcript) : Type 0 where
  pub some : 0 < length x.records
  pub is : t ≡ build (eq_z x.strand (pos 1)) (map exon_in x.records) (cds_of x.start x.end)
  pub in_order : InOrder 0 (map exon_in x.records)
  pub all_spanning : AllSpan x.records
  pub whole : AllWhole x.records
  pub spans : Spans (map exon_in x.records)
  pub bounds : CdsPass x.start x.end (transcript_length t)
  pub lent : Lent
  pub held : holds lent ≡ true
  pub stands : source_of lent ≡ aligned t

pub built_from : (x : Input) (t : Transcript) → Builds x t → From x t
unfolding build
built_from x t h = go (judge_input x) refl h
  where
    made_from : (m : Made) → RecordsPass x m → From x (made_of m)
    made_from m pass =
        let s = sane x m pass.on in
        let exons = exons_are x.records m.exon_list pass.on.were_read in
        let spanning = spanning_is x.records (rw exons at (accepted_spanning x m pass.on)) in
        let whole = all_whole m.forward x.records pass.on.sound in
        let last = last_pass x.start x.end _ _ _ (total transcript (elements_made m)) pass.on.last in
        record {
          some = pass.some;
          is = rw (pass.strand_is, plus_is m.forward, exons, pass.on.coding_is);
          in_order = rw exons at s.in_order;
          all_spanning = spanning;
          whole = whole;
          spans = all_span x.records whole spanning;
          bounds = cds_pass x.start x.end (total transcript (elements_made m)) pass.on.both_or_none last.cds_fits;
          lent = beside (head_of m) (tables_of (elements_made m)) (padded most_segments (numbers_of m.forward m.exon_list));
          held = built_holds m s;
          stands = built_stands m s;
        }

    go : (j : Outcome Made) → judge_input x ≡ j → through made_of j ≡ Ok t → From x t
    go (Err k) judged h = absurd (clash h)
    go (Ok m) judged h = subst (From x) (same h) (made_from m (records_mean x m judged))
