-- What was judged and is no refusal: what was made, where its elements go, and its head. Assumes nothing.
use Rattle.refusals.specs.Outcome.{Ok}
use mathlib.Core.Path.{◌≡◌, refl, sym, ap, subst, ◌∙◌}
use mathlib.Core.List.{List}
use Prim.Native.Nat.{ℕ, ◌≤◌}
use native.Mathlib.Omega.{arith}
use lib.IntN.{ℤ, pos, nat_abs}
use lib.ListN.{length}
use Rattle.refusals.specs.Numbers.{most_records}
use Rattle.whole.specs.Whole.{eq_z}
use Rattle.records.specs.Layout.{alt_start_at}
use Rattle.records.specs.Records.{field_at, record_at}
use Rattle.records.specs.Walk.{Ready}
use Rattle.records.specs.laws.Walk.{ready, records_length}
use Rattle.cigar.specs.Elements.{total, transcript}
use Rattle.transcript.specs.Building.{first_start, numbers_of}
use Rattle.judging.specs.Input.{input_of}
use Rattle.reading.specs.Reading.{exons_of}
use Rattle.judging.specs.Judging.{Made, Measured, judge, elements_made}
use Rattle.transcript.specs.Heads.{both_bits, start_of, end_of, with_cds, bare_head, bits_of, start_in, end_in}
use Rattle.reading.specs.Tallies.{tallied_all}
use Rattle.filling.specs.Filling.{elements_all, numbers_all, SmallSums}
use Rattle.building.specs.Afterwards.{head_of, length_head}
use Rattle.judging.specs.laws.Accepted.{Accepted, accepted_means, judged_sane, whole, cds_pass, bits_are, last_pass, Measures}
use Rattle.transcript.specs.declared.Head.{Head}
use Rattle.transcript.specs.declared.Numbers.{Numbers}
use Rattle.reading.specs.declared.Sums.{Sums}
use Rattle.reading.proofs.laws.Counted.{all_count}
use Rattle.reading.proofs.laws.Tallied.{either_strand}
use Rattle.judging.specs.laws.Told.{Told}
use Rattle.transcript.specs.laws.Heads.{plus_is}
use Rattle.judging.specs.laws.Chain.{FirstIs, first_is}

-- a head is equal to another by its numbers
head_eq : {k s f n b p q l r k' s' f' n' b' p' q' l' r' : ℤ} → k ≡ k' → s ≡ s' → f ≡ f' → n ≡ n' → b ≡ b' → p ≡ p' → q ≡ q' → l ≡ l' → r ≡ r'
    → ◌≡◌ {A = Head} (record { kind = k; strand = s; first = f; count = n; bits = b; start = p; end = q; length = l; records = r })
    (record { kind = k'; strand = s'; first = f'; count = n'; bits = b'; start = p'; end = q'; length = l'; records = r' })
head_eq e₁ e₂ e₃ e₄ e₅ e₆ e₇ e₈ e₉ = cc

module _ (n : Numbers) (s : List ℕ) (to : Sums) (p : Told (judge n s) to) where
  abbrev made : Made
  made = p.made

  means : Accepted n s made
  means = accepted_means n s made p.judged

  pub known : n.cds ≤ both_bits
  known = means.known

  pub is_ready : Ready n.count s
  is_ready = ready made.forward n.count s (omega (arith, means.pass.some, records_length n.count s 0)) means.exact means.pass.on.sound

  pub is_small : SmallSums to
  is_small =
      let sane = judged_sane n s made p.judged in
      rw p.sums_are (record { few = sane.few; genome_small = omega (arith, sane.genome_small); transcript_small = sane.transcript_small })

  pub told_all : tallied_all (exons_of (input_of n s).records) ≡ Ok to
  told_all = rw means.pass.on.were_read (ap Ok (sym (p.sums_are ∙ either_strand made.forward made.exon_list)))

  pub forward_is : eq_z n.strand (pos 1) ≡ made.forward
  forward_is = ap (λ (z : ℤ). eq_z z (pos 1)) means.pass.strand_is ∙ plus_is made.forward

  pub elements_are : elements_all made.forward (exons_of (input_of n s).records) ≡ elements_made made
  elements_are = rw means.pass.on.were_read

  pub numbers_are : numbers_all made.forward (exons_of (input_of n s).records) ≡ numbers_of made.forward made.exon_list
  numbers_are = rw means.pass.on.were_read

  pub few_records : n.count ≤ most_records
  few_records = omega (arith, means.pass.on.few, records_length n.count s 0)

  records_are : n.count ≡ length made.exon_list
  records_are = sym (all_count (input_of n s).records made.exon_list means.pass.on.were_read ∙ records_length n.count s 0)

  first_field : field_at s alt_start_at ≡ pos (first_start made.exon_list)
  unfolding record_at
  first_field =
      let starts = subst (FirstIs (nat_abs (field_at s alt_start_at))) means.pass.on.were_read (first_is n.count s 0 is_ready.some) in
      whole (field_at s alt_start_at) is_ready.start_whole ∙ ap pos (sym starts)

  pub head_is : with_cds (bare_head n.strand (field_at s alt_start_at) to.count n.count) n.cds n.start n.end ≡ head_of made
  head_is =
      let i = input_of n s in
      let on = means.pass.on in
      let es = elements_made made in
      let last = last_pass i.start i.end (length es) (first_start made.exon_list) _ (total transcript es) on.last in
      let cds = cds_pass i.start i.end (total transcript es) on.both_or_none last.cds_fits in
      head_eq refl means.pass.strand_is first_field (ap (λ (t : Sums). pos t.count) p.sums_are)
      (bits_are n.cds n.start n.end means.known on.both_or_none ∙ ap bits_of (sym on.coding_is))
      (cds.start_is ∙ ap start_in (sym on.coding_is))
      (cds.end_is ∙ ap end_in (sym on.coding_is))
      refl
      (ap pos records_are)

-- the head of a length that was accepted
pub length_head_is : (len : ℤ) (bits : ℕ) (start end : ℤ) (m : Measured) → Measures len bits start end m
    → with_cds (record { kind = pos 1; strand = pos 0; first = pos 0; count = pos 0; bits = pos 0; start = pos 0; end = pos 0; length = len; records = pos 0 }) bits start end ≡ length_head m
length_head_is len bits start end m a =
    let cds = cds_pass (start_of bits start) (end_of bits end) m.bases a.both_or_none a.cds_fits in
    head_eq refl refl refl refl
    (bits_are bits start end a.known a.both_or_none ∙ ap bits_of (sym a.coding_is))
    (cds.start_is ∙ ap start_in (sym a.coding_is))
    (cds.end_is ∙ ap end_in (sym a.coding_is))
    a.length_is
    refl
