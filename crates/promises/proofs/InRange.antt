-- What the proofs ask of a transcript, that none of 9 and 12 applies; and what is lent and holds together is so, of either kind. Assumes nothing.
use Prim.Native.Nat.{ℕ, ◌+◌, ◌≤◌}
use mathlib.Core.Bool.{true}
use mathlib.Core.Path.{◌≡◌, subst}
use Rattle.refusals.specs.Numbers.{most_bases}
use Rattle.whole.specs.laws.Whole.{by_test}
use Rattle.transcript.specs.Transcript.{Transcript, Source, genome_length, transcript_length}
use Rattle.transcript.specs.Transcript.Source.{aligned, length_only}
use Rattle.transcript.specs.declared.Head.{Head}
use Rattle.judging.specs.laws.Accepted.{CdsInside}
use Rattle.holding.specs.Holding.{Lent, of_records, both_given, holds, head_cds, source_of}
use Rattle.holding.specs.laws.Held.{CdsRight, cds_bounds, together, length_right, source_of_records, source_of_length, genome_length_lem, transcript_length_lem}

pub record InRange (t : Transcript) : Type 0 where
  pub transcript_small : transcript_length t ≤ most_bases
  pub genome_small : t.first + genome_length t ≤ most_bases
  pub cds_inside : CdsInside t.coding (transcript_length t)

-- the CDS of a head
head_inside : (h : Head) (len : ℕ) → CdsRight h len → CdsInside (head_cds h) len
head_inside h len right =
    by_test (both_given h)
    (λ given. let b = cds_bounds h len right given in rw given (b.ordered, b.within))
    (λ given. rw given tt)

-- of either kind
abbrev pub SourceInRange : Source → Type 0
SourceInRange (aligned t) = InRange t
SourceInRange (length_only n c) = (n ≤ most_bases) × CdsInside c n

pub held_source : (x : Lent) → holds x ≡ true → SourceInRange (source_of x)
held_source x held =
    by_test (of_records x.head)
    (λ r.
    let w = together x held r in
    rw (source_of_records x r) (record {
      transcript_small = rw (transcript_length_lem x w) w.transcript_within;
      genome_small = rw (genome_length_lem x w) w.genome_within;
      cds_inside = rw (transcript_length_lem x w) (head_inside x.head _ w.cds);
    }))
    (λ r.
    let l = length_right x held r in
    rw (source_of_length x r) (l.length.below, head_inside x.head _ l.cds))

pub held_in_range : (x : Lent) (t : Transcript) → holds x ≡ true → source_of x ≡ aligned t → InRange t
held_in_range x t held stands = subst SourceInRange stands (held_source x held)
