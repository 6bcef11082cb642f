-- What is left of `holds` once the parts were judged: where the bases are known the head's own tests pass, and what is left is the CDS and, of a transcript of records, the tables. Assumes nothing.
use Rattle.std.specs.Prelude.{ℕ, Bool, true, false, ◌&&◌, List, ◌≡◌, pos, get_or, Some, None, Option}
use Rattle.std.proofs.Common.{arith, sym, ◌∙◌}
use Rattle.std.proofs.Math.Bool.{and-true, and-false}
use Rattle.std.proofs.Math.IntN.{nat_abs}
use Rattle.std.specs.Int.Signed.{le_z}
use Rattle.whole.specs.laws.Whole.{by_test, both}
use Rattle.transcript.specs.declared.Head.{Head}
use Rattle.holding.specs.Holding.{Lent, of_records, of_length, is_forward, records_in, segments_in, segments_of, head_holds, cds_holds, records_hold, length_holds, holds}
use Rattle.refusals.specs.Numbers.{most_bases}
use Rattle.holding.specs.Parts.{length_fits, bases_of, tables_hold}

clash : {A : Type 0} {n : ℕ} → None ≡ Some n → A
clash e = let z : ◌≡◌ {A = ℕ} 0 1 = cc in absurd (omega arith)

-- of records: the head is right, and there are as many bases as the table ends with
pub right_head : (h : Head) (transcript : List ℕ) {n : ℕ} → bases_of h transcript ≡ Some n → of_records h ≡ true → (head_holds h ≡ true) × (get_or transcript (segments_in h) 0 ≡ n)
unfolding bases_of
right_head h transcript e r =
    by_test (head_holds h)
    (λ right. let k = rw (r, right) at e in (right, (cc)))
    (λ wrong. clash (rw (r, wrong) at e))

-- of a length: it is not negative
pub right_length : (h : Head) (transcript : List ℕ) {n : ℕ} → bases_of h transcript ≡ Some n → of_records h ≡ false → le_z (pos 0) h.length ≡ true
unfolding bases_of
right_length h transcript e r =
    by_test (of_length h)
    (λ l.
    by_test (length_fits h)
    (λ fits. (both (le_z (pos 0) h.length) (le_z h.length (pos most_bases)) fits).0)
    (λ not. clash (rw (r, l, not) at e)))
    (λ l. clash (rw (r, l) at e))

module _ (x : Lent) where
  abbrev h : Head
  h = x.head

  abbrev found : Option ℕ
  found = bases_of h x.tables.transcript

  abbrev tables : Bool
  tables = tables_hold (is_forward h) (records_in h) (nat_abs h.first) x.tables x.exons (segments_of x)

  by_records : {n : ℕ} → found ≡ Some n → of_records h ≡ true → holds x ≡ (tables && cds_holds h n)
  unfolding holds records_hold tables_hold
  by_records e r = let (right, is) = right_head h x.tables.transcript e r in rw (r, right, is)

  -- where the CDS holds, the tables are left
  pub by_tables : {n : ℕ} → found ≡ Some n → cds_holds h n ≡ true → of_records h ≡ true → holds x ≡ tables
  by_tables e cds r = by_records e r ∙ rw (cds, and-true)

  -- of a length: there are as many bases as that
  pub by_length : {n : ℕ} → found ≡ Some n → of_records h ≡ false → holds x ≡ cds_holds h n
  unfolding bases_of holds length_holds
  by_length {n} e r =
      by_test (of_length h)
      (λ l.
      by_test (length_fits h)
      (λ fits. let k = rw (r, l, fits) at e in let is : nat_abs h.length ≡ n = cc in rw (r, l, fits, is))
      (λ not. clash (rw (r, l, not) at e)))
      (λ l. clash (rw (r, l) at e))

  -- a CDS that does not hold leaves nothing
  pub by_cds : {n : ℕ} → found ≡ Some n → cds_holds h n ≡ false → holds x ≡ false
  by_cds e cds =
      by_test (of_records h)
      (λ r. by_records e r ∙ rw (cds, and-false))
      (λ r. by_length e r ∙ cds)

  pub by_none : found ≡ None → holds x ≡ false
  unfolding bases_of holds records_hold length_holds
  by_none e =
      by_test (of_records h)
      (λ r.
      by_test (head_holds h)
      (λ right. clash (sym (rw (r, right) at e)))
      (λ wrong. rw (r, wrong)))
      (λ r.
      by_test (of_length h)
      (λ l.
      by_test (length_fits h)
      (λ fits. clash (sym (rw (r, l, fits) at e)))
      (λ not. rw (r, l, not)))
      (λ l. rw (r, l)))
