-- What the head tells of what is lent is what is known of it, but for the tables of a transcript that was built from records: where they hold it is known, and where they do not nothing is. Assumes nothing.
use Rattle.std.specs.Prelude.{ℕ, ◌≤◌, Bool, true, false, List, ◌≡◌, Some, None, Option}
use Rattle.std.proofs.Common.{arith, sym, ap, ◌∙◌}
use Rattle.std.proofs.Math.Path.{refl}
use Rattle.refusals.specs.Numbers.{most_segments}
use Rattle.refusals.specs.declared.Refusal.{Refusal}
use Rattle.refusals.specs.declared.Refusal.TheVariants.{NotTogether}
use Rattle.refusals.specs.Outcome.{Outcome, Ok, Err}
use Rattle.refusals.specs.laws.Outcomes.{clash}
use Rattle.whole.specs.laws.Whole.{by_test}
use Rattle.transcript.specs.declared.Head.{Head}
use Rattle.holding.specs.Holding.{of_records, head_holds, cds_holds, Lent, holds}
use Rattle.holding.specs.Parts.{bases_of, tables_hold}
use Rattle.holding.specs.laws.Held.{head_means}
use Rattle.holding.specs.laws.Parts.{right_head, by_tables, by_length, by_cds, by_none}
use Rattle.spots.specs.declared.Alignment.{Alignment}
use Rattle.knowing.specs.Knowing.{alignment_of, coding_in, told_by, told_of, known_of}
use Rattle.knowing.specs.declared.Cds.{Cds}
use Rattle.knowing.specs.declared.Known.{Known}
use Rattle.knowing.specs.declared.Known.TheVariants as known

-- words that differ
length_not_lying : {A : Type 0} {a : Alignment} {c d : Option Cds} {n : ℕ} → ◌≡◌ {A = Outcome Known} (Ok (known.OfLength c n)) (Ok (known.Aligned d a)) → A
length_not_lying e = let z : ◌≡◌ {A = ℕ} 0 1 = cc in absurd (omega arith)

lying_no_length : {A : Type 0} {a : Alignment} {c d : Option Cds} {n : ℕ} → ◌≡◌ {A = Outcome Known} (Ok (known.Aligned c a)) (Ok (known.OfLength d n)) → A
lying_no_length e = let z : ◌≡◌ {A = ℕ} 0 1 = cc in absurd (omega arith)

-- how a transcript lies that the head tells of: the head is right, and says just that
pub record Lying (h : Head) (transcript : List ℕ) (a : Alignment) (c : Option Cds) : Type 0 where
  pub records : of_records h ≡ true
  pub head : head_holds h ≡ true
  pub many : ℕ
  pub found : bases_of h transcript ≡ Some many
  pub coding : cds_holds h many ≡ true
  pub at : alignment_of h ≡ a
  pub cds : coding_in h ≡ c
  pub some : 1 ≤ a.count
  pub few : a.count ≤ most_segments

lying_by : (h : Head) (transcript : List ℕ) (a : Alignment) (c : Option Cds) (b : Option ℕ) → bases_of h transcript ≡ b → told_by h b ≡ Ok (known.Aligned c a) → Lying h transcript a c
lying_by h transcript a c None e = λ t. absurd (clash t)
lying_by h transcript a c (Some n) e =
    by_test (cds_holds h n)
    (λ holding.
    by_test (of_records h)
    (λ r. rw (holding, r) (λ t.
    let at : alignment_of h ≡ a = cc in
    let right = (right_head h transcript e r).0 in
    let count = (head_means h right).count in
    record { records = r; head = right; many = n; found = e; coding = holding; at = at; cds = cc; some = rw (← at) count.above; few = rw (← at) count.below }))
    (λ r. rw (holding, r) (λ t. length_not_lying t)))
    (λ not. rw not (λ t. absurd (clash t)))

pub told_lying : (h : Head) (transcript : List ℕ) (a : Alignment) (c : Option Cds) → told_of h transcript ≡ Ok (known.Aligned c a) → Lying h transcript a c
unfolding told_of
told_lying h transcript a c t = lying_by h transcript a c (bases_of h transcript) refl t

module _ (x : Lent) where
  abbrev told : Outcome Known
  told = told_of x.head x.tables.transcript

  abbrev tables_made : Alignment → Bool
  tables_made a = tables_hold a.forward a.records a.first x.tables x.exons a.count

  module _ {a : Alignment} {c : Option Cds} (t : told ≡ Ok (known.Aligned c a)) where
    lying : Lying x.head x.tables.transcript a c
    lying = told_lying x.head x.tables.transcript a c t

    left : holds x ≡ tables_made a
    left = by_tables x lying.found lying.coding lying.records ∙ ap tables_made lying.at

    pub told_lies : tables_made a ≡ true → known_of x ≡ Ok (known.Aligned c a)
    told_lies hold = rw (left ∙ hold, lying.records, lying.at, lying.cds)

    pub told_apart : tables_made a ≡ false → known_of x ≡ Err NotTogether
    told_apart not = rw (left ∙ not)

  length_by : {n : ℕ} {c : Option Cds} (b : Option ℕ) → bases_of x.head x.tables.transcript ≡ b → told_by x.head b ≡ Ok (known.OfLength c n) → known_of x ≡ Ok (known.OfLength c n)
  length_by None e = λ t. absurd (clash t)
  length_by (Some n) e =
      by_test (cds_holds x.head n)
      (λ holding.
      by_test (of_records x.head)
      (λ r. rw (holding, r) (λ t. lying_no_length t))
      (λ r. rw (holding, r, by_length x e r ∙ holding) (λ t. t)))
      (λ not. rw not (λ t. absurd (clash t)))

  pub told_length : {n : ℕ} {c : Option Cds} → told ≡ Ok (known.OfLength c n) → known_of x ≡ Ok (known.OfLength c n)
  unfolding told_of
  told_length t = length_by (bases_of x.head x.tables.transcript) refl t

  broken_by : {k : Refusal} (b : Option ℕ) → bases_of x.head x.tables.transcript ≡ b → told_by x.head b ≡ Err k → known_of x ≡ Err k
  broken_by None e = λ t. rw (by_none x e) t
  broken_by (Some n) e =
      by_test (cds_holds x.head n)
      (λ holding. rw holding (λ t. absurd (clash (sym t))))
      (λ not. rw (not, by_cds x e not) (λ t. t))

  pub told_broken : {k : Refusal} → told ≡ Err k → known_of x ≡ Err k
  unfolding told_of
  told_broken t = broken_by (bases_of x.head x.tables.transcript) refl t
