-- Lanes that segments are taken into, one into each, and where a block of such segments begins. Assumes nothing.
use Rattle.std.proofs.Common.{◌≡◌, ℕ, ◌+◌, ◌<◌, Bool, true, ◌&&◌, eqb, List, length, get_or, set, replicate, sym, refl, ap, ◌∙◌, arith, get_or-set_other, get_or-set_same, eqb-true}
use mathlib.Core.Bool.{and-true, and_assoc}
use lib.ListN.{get_or-replicate}
use borrow.Author.Tests.{eqb-false}
use Rattle.whole.specs.laws.Whole.{by_test, both, both_of}
use Rattle.segments.specs.Tables.{all_below}
use Rattle.segments.specs.laws.Meaning.{all_at, all_of}
use Rattle.segments.specs.laws.Gathering.{all_none}
use Rattle.numbered.specs.Stretches.{from}
use Rattle.stepping.specs.Steps.{within}
use Rattle.lanes.specs.Lanes.{lanes_within}
use Rattle.numbered.specs.laws.All.{equal_where, from_none, from_more}
use Rattle.stepping.specs.laws.OneStep.{within_none}

-- a lane that tells of one thing more makes all lanes tell of it
lane_more : (k : ℕ) (lanes : List ℕ) (j v : ℕ) (found : Bool) → j < 8 → j < length lanes → within k v ≡ (within k (get_or lanes j 0) && found) → lanes_within k (set lanes j v) ≡ (lanes_within k lanes && found)
lane_more k lanes j v found few l more = equal_where _ _ parts whole
  where
    at_j : within k (get_or (set lanes j v) j 0) ≡ (within k (get_or lanes j 0) && found)
    at_j = rw (get_or-set_same lanes j v 0 l) more

    parts : lanes_within k (set lanes j v) ≡ true → (lanes_within k lanes && found) ≡ true
    parts h =
        let at : (i : ℕ) → i < 8 → within k (get_or (set lanes j v) i 0) ≡ true = all_at _ 8 h in
        let (old, new) = both (within k (get_or lanes j 0)) found (sym at_j ∙ at j few) in
        both_of
        (all_of _ 8 (λ i b.
        by_test (eqb i j)
        (λ e. rw (eqb-true i j e) old)
        (λ e. rw (get_or-set_other lanes j i v 0 (eqb-false i j e)) at (at i b))))
        new

    whole : (lanes_within k lanes && found) ≡ true → lanes_within k (set lanes j v) ≡ true
    whole h =
        let (olds, new) = both (lanes_within k lanes) found h in
        let at : (i : ℕ) → i < 8 → within k (get_or lanes i 0) ≡ true = all_at _ 8 olds in
        all_of _ 8 (λ i b.
        by_test (eqb i j)
        (λ e. rw (eqb-true i j e) (at_j ∙ both_of (at j few) new))
        (λ e. rw (get_or-set_other lanes j i v 0 (eqb-false i j e)) (at i b)))

-- lanes that are all 0 tell of no segment
pub lanes_none : (k : ℕ) (f : ℕ → Bool) → lanes_within k (replicate 8 0) ≡ all_below f 0
lanes_none k f = all_of _ 8 (λ i l. rw (get_or-replicate {A = ℕ} 8 i 0 0 l) (within_none k)) ∙ all_none f

-- lanes after the segments from the first on were taken into j of them
pub record Taken (k : ℕ) (f : ℕ → Bool) (first : ℕ) (before lanes : List ℕ) (j : ℕ) : Type 0 where
  pub told : lanes_within k lanes ≡ (lanes_within k before && all_below (from first f) (first + j))

module _ (k : ℕ) (f : ℕ → Bool) (first : ℕ) (before : List ℕ) where
  pub taken_none : Taken k f first before before 0
  taken_none = record { told = sym (and-true _) ∙ ap (λ (b : Bool). lanes_within k before && b) (from_none f first ∙ ap (all_below (from first f)) (omega arith)) }

  pub taken_more : (lanes : List ℕ) (j v : ℕ) → j < 8 → j < length lanes → within k v ≡ (within k (get_or lanes j 0) && f (first + j)) → Taken k f first before lanes j → Taken k f first before (set lanes j v) (j + 1)
  taken_more lanes j v few l more taken = record {
    told =
        lane_more k lanes j v (f (first + j)) few l more
        ∙ ap (λ (b : Bool). b && f (first + j)) taken.told
        ∙ and_assoc (lanes_within k before) (all_below (from first f) (first + j)) (f (first + j))
        ∙ ap (λ (b : Bool). lanes_within k before && b) (from_more f first (first + j) (omega arith) refl refl ∙ ap (all_below (from first f)) (omega arith));
  }
