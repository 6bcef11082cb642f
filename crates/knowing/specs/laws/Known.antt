-- What is known of what is lent, and what a question to it then is: 23 was settled once, so what is left is the question over how the transcript lies, or over its length. Assumes nothing.
use Rattle.std.specs.Prelude.{ℕ, List, Option, ◌≡◌, refl, true, false, nat_abs, get_or}
use Rattle.std.proofs.Common.{arith, sym, ap, ◌∙◌}
use Rattle.refusals.specs.declared.Refusal.{Refusal}
use Rattle.refusals.specs.Outcome.{Outcome, Ok, Err}
use Rattle.refusals.specs.laws.Outcomes.{clash}
use Rattle.whole.specs.laws.Whole.{by_test}
use Rattle.segments.specs.Tables.{Tables, read}
use Rattle.segments.specs.Exons.{read_numbers}
use Rattle.transcript.specs.Transcript.{Transcript, Source, genome_length, transcript_length}
use Rattle.transcript.specs.Transcript as paper
use Rattle.transcript.specs.Transcript.Source.{aligned, length_only}
use Rattle.transcript.specs.declared.Head.{Head}
use Rattle.holding.specs.Holding.{of_records, both_given, head_holds, cds_holds, Lent, holds, head_cds, source_of, checked}
use Rattle.holding.specs.laws.Held.{natural_says, together, CdsBounds, cds_means, cds_bounds, source_of_records, source_of_length, some, few, held_head, held_segments, genome_length_lem, transcript_length_lem, checked_held, checked_broken}
use Rattle.spots.specs.Aligned.{Aligns}
use Rattle.spots.specs.declared.Alignment.{Alignment}
use Rattle.knowing.specs.Knowing.{alignment_of, NaturalBounds, coding_in, known_of, paper_coding}
use Rattle.knowing.specs.declared.Cds.{Cds}
use Rattle.knowing.specs.declared.Known.TheVariants as known

-- one outcome has one refusal
pub same_refusal : {A : Type 0} {k n : Refusal} → ◌≡◌ {A = Outcome A} (Err k) (Err n) → k ≡ n
same_refusal e = cc

-- a head's CDS as the code holds it
coding_is : (h : Head) → paper_coding (coding_in h) ≡ head_cds h
coding_is h = by_test (both_given h) (λ b. rw b) (λ b. rw b)

-- bounds that are given are not negative, where the CDS holds
pub natural_where : (h : Head) (len : ℕ) → cds_holds h len ≡ true → NaturalBounds h
natural_where h len e =
    let right : both_given h ≡ true → CdsBounds h len = cds_bounds h len (cds_means h len e) in
    record { start = λ b. natural_says h.start (right b).start_natural; end = λ b. natural_says h.end (right b).end_natural }

-- the transcript that lies so and has this CDS
abbrev pub lying : Alignment → Option Cds → Tables → List ℕ → Transcript
lying a c t exons = record { forward = a.forward; first = a.first; elements = read t a.count; numbers = read_numbers exons a.count; records = a.records; coding = paper_coding c }

-- what is lent was built from records
pub record Lies (x : Lent) (a : Alignment) (c : Option Cds) : Type 0 where
  pub held : holds x ≡ true
  pub head : head_holds x.head ≡ true
  pub at : alignment_of x.head ≡ a
  pub cds : coding_in x.head ≡ c
  pub source : source_of x ≡ aligned (lying a c x.tables x.exons)
  pub sound : Aligns a x.tables
  pub length : transcript_length (lying a c x.tables x.exons) ≡ get_or x.tables.transcript a.count 0
  pub span : genome_length (lying a c x.tables x.exons) ≡ get_or x.tables.genome a.count 0

-- what is lent is known by its length
pub record Measures (x : Lent) (n : ℕ) (c : Option Cds) : Type 0 where
  pub held : holds x ≡ true
  pub source : source_of x ≡ length_only n (paper_coding c)

module _ (x : Lent) where
  lies : holds x ≡ true → of_records x.head ≡ true → Lies x (alignment_of x.head) (coding_in x.head)
  lies e r =
      let w = together x e r in
      record {
        held = e;
        head = held_head x w;
        at = refl;
        cds = refl;
        source = source_of_records x r ∙ ap (λ (c : paper.Cds). aligned (record { forward = (alignment_of x.head).forward; first = nat_abs x.head.first; elements = read x.tables (alignment_of x.head).count; numbers = read_numbers x.exons (alignment_of x.head).count; records = (alignment_of x.head).records; coding = c })) (sym (coding_is x.head));
        sound = record { count_from = some x w; count_to = few x w; segments = held_segments x w };
        length = transcript_length_lem x w;
        span = genome_length_lem x w;
      }

  pub known_lies : (a : Alignment) (c : Option Cds) → known_of x ≡ Ok (known.Aligned c a) → Lies x a c
  known_lies a c =
      by_test (holds x)
      (λ e.
      by_test (of_records x.head)
      (λ r. rw (e, r) (λ k.
      let at : alignment_of x.head ≡ a = cc in
      let cds : coding_in x.head ≡ c = cc in
      rw (← at, ← cds) (lies e r)))
      (λ r. rw (e, r) (λ k. let z : ◌≡◌ {A = ℕ} 0 1 = cc in absurd (omega arith))))
      (λ e. rw e (λ k. let z : ◌≡◌ {A = ℕ} 0 1 = cc in absurd (omega arith)))

  pub known_measures : (n : ℕ) (c : Option Cds) → known_of x ≡ Ok (known.OfLength c n) → Measures x n c
  known_measures n c =
      by_test (holds x)
      (λ e.
      by_test (of_records x.head)
      (λ r. rw (e, r) (λ k. let z : ◌≡◌ {A = ℕ} 0 1 = cc in absurd (omega arith)))
      (λ r. rw (e, r) (λ k.
      let long : nat_abs x.head.length ≡ n = cc in
      let cds : coding_in x.head ≡ c = cc in
      rw (← long, ← cds) (record { held = e; source = source_of_length x r ∙ ap (length_only (nat_abs x.head.length)) (sym (coding_is x.head)) }))))
      (λ e. rw e (λ k. let z : ◌≡◌ {A = ℕ} 0 1 = cc in absurd (omega arith)))

  pub known_breaks : {k : Refusal} → known_of x ≡ Err k → holds x ≡ false
  known_breaks = by_test (holds x) (λ e. rw e (λ t. absurd (clash (sym t)))) (λ e t. e)

  -- a question to what does not hold together
  pub ask_broken : {A : Type 0} (ask : Source → Outcome A) {k : Refusal} → known_of x ≡ Err k → checked x ask ≡ Err k
  ask_broken ask =
      by_test (holds x)
      (λ e. rw e (λ t. absurd (clash (sym t))))
      (λ e. rw (e, checked_broken x ask e) (λ t. ap (λ (n : Refusal). Err n) (same_refusal t)))

  -- a question to a length
  pub ask_length : {A : Type 0} (ask : Source → Outcome A) {n : ℕ} {c : Option Cds} → known_of x ≡ Ok (known.OfLength c n) → checked x ask ≡ ask (length_only n (paper_coding c))
  ask_length ask {n} {c} k = let m = known_measures n c k in checked_held x ask m.held ∙ ap ask m.source

  -- a question to what lies on the genome
  pub ask_lying : {A : Type 0} (ask : Source → Outcome A) {a : Alignment} {c : Option Cds} → known_of x ≡ Ok (known.Aligned c a) → checked x ask ≡ ask (aligned (lying a c x.tables x.exons))
  ask_lying ask {a} {c} k = let f = known_lies a c k in checked_held x ask f.held ∙ ap ask f.source
