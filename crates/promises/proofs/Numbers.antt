-- The exon numbers of records' elements: each element of a record, and what follows its last, has the record's number; and records added upstream move every number up. Assumes nothing.
use Prim.Native.Nat.{ℕ, ◌+◌, ◌-◌, ◌≤◌, ◌<◌}
use native.Mathlib.Omega.{arith}
use mathlib.Core.Bool.{Bool, true, false, cond}
use mathlib.Core.List.{List, [], ◌∷◌, ◌++◌}
use mathlib.Core.Path.{◌≡◌, refl, sym, ap, ◌∙◌}
use lib.Dec.{ltb}
use lib.ListN.{get_or, length, replicate, length-append, length-replicate, get_or-replicate, get_or-append}
use lib.Seq.{get_or-append-add}
use borrow.Author.Tests.{ltb-true, ltb-false}
use Rattle.whole.specs.laws.Whole.{by_test}
use Rattle.segments.specs.Exons.{last_number}
use Rattle.transcript.specs.Building.{Exon, parts_of, elements_after, elements_of, numbered_by, numbers_after, numbers_of}
use Rattle.promises.proofs.Records.{lead, lead_after}

-- ---- a run of one number, and what follows it

run_within : (n i : ℕ) (a d : ℕ) (rest : List ℕ) → i < n → get_or (replicate n a ++ rest) i d ≡ a
run_within n i a d rest h = get_or-append (replicate n a) rest d i (rw (length-replicate n a) h) ∙ get_or-replicate n i a d h

run_past : (n i : ℕ) (a d : ℕ) (rest : List ℕ) → get_or (replicate n a ++ rest) (n + i) d ≡ get_or rest i d
run_past n i a d rest = ap (λ (k : ℕ). get_or (replicate n a ++ rest) (k + i) d) (sym (length-replicate n a)) ∙ get_or-append-add (replicate n a) rest i d

-- ---- the numbers from a record on

-- of the elements of a record with so many before it, and of those after it
pub numbers_from : Bool → ℕ → Exon → List Exon → List ℕ
numbers_from forward before r rs = replicate (length (parts_of forward r)) (numbered_by forward before (length rs)) ++ numbers_after forward before rs

-- behind the last element stands the last record's number
head_number : (forward : Bool) (before : ℕ) (rs : List Exon) → get_or (numbers_after forward before rs) 0 (last_number forward (before + 1 + length rs)) ≡ numbered_by forward before (length rs)
unfolding numbers_after
head_number true before [] = omega arith
head_number false before [] = refl
head_number forward before (r ∷ rs) = refl

-- each of a record's own elements, and what follows the last of them, has its number
own_number : (forward : Bool) (before : ℕ) (r : Exon) (rs : List Exon) (k : ℕ) → k ≤ length (parts_of forward r)
    → get_or (numbers_from forward before r rs) k (last_number forward (before + 1 + length rs)) ≡ numbered_by forward before (length rs)
unfolding numbers_from
own_number forward before r rs k h =
    let n = length (parts_of forward r) in
    by_test (ltb k n)
    (λ t. run_within n k (numbered_by forward before (length rs)) (last_number forward (before + 1 + length rs)) (numbers_after forward before rs) (ltb-true k n t))
    (λ t.
    let at : k ≡ n + 0 = omega (arith, ltb-false k n t) in
    rw at (run_past n 0 (numbered_by forward before (length rs)) (last_number forward (before + 1 + length rs)) (numbers_after forward before rs)) ∙ head_number forward before rs)

-- the first of a list is passed
one_past : (a : ℕ) (rest : List ℕ) (i d : ℕ) → get_or (a ∷ rest) (1 + i) d ≡ get_or rest i d
one_past a rest i d = get_or-append-add (a ∷ []) rest i d

-- past what stands before a record there are the numbers from that record on
after_past : (forward : Bool) (before e : ℕ) (bs : List Exon) (r : Exon) (rs : List Exon) (i d : ℕ)
    → get_or (numbers_after forward before (bs ++ r ∷ rs)) (length (lead_after forward e bs r) + i) d ≡ get_or (numbers_from forward (before + 1 + length bs) r rs) i d
unfolding numbers_after numbers_from lead_after
after_past forward before e [] r rs i d = let none : before + 1 + length {A = Exon} [] ≡ before + 1 = omega arith in rw none (one_past _ (numbers_from forward (before + 1) r rs) i d)
after_past forward before e (a ∷ bs) r rs i d =
    let n = length (parts_of forward a) in
    let past = length (lead_after forward a.alt_end bs r) in
    let at : length (lead_after forward e (a ∷ bs) r) + i ≡ 1 + (n + (past + i)) = omega (arith, length-append (parts_of forward a) (lead_after forward a.alt_end bs r)) in
    let so_many : before + 1 + length (a ∷ bs) ≡ before + 1 + 1 + length bs = omega arith in
    rw (at, so_many)
    (one_past _ (replicate n (numbered_by forward (before + 1) (length (bs ++ r ∷ rs))) ++ numbers_after forward (before + 1) (bs ++ r ∷ rs)) (n + (past + i)) d
    ∙ run_past n (past + i) _ d (numbers_after forward (before + 1) (bs ++ r ∷ rs))
    ∙ after_past forward (before + 1) a.alt_end bs r rs i d)

pub lead_past : (forward : Bool) (left : List Exon) (r : Exon) (rs : List Exon) (i d : ℕ)
    → get_or (numbers_of forward (left ++ r ∷ rs)) (length (lead forward left r) + i) d ≡ get_or (numbers_from forward (length left) r rs) i d
unfolding numbers_of numbers_from lead
lead_past forward [] r rs i d = let at : 0 + i ≡ i = omega arith in rw at
lead_past forward (a ∷ bs) r rs i d =
    let n = length (parts_of forward a) in
    let past = length (lead_after forward a.alt_end bs r) in
    let at : length (lead forward (a ∷ bs) r) + i ≡ n + (past + i) = omega (arith, length-append (parts_of forward a) (lead_after forward a.alt_end bs r)) in
    let so_many : length (a ∷ bs) ≡ 0 + 1 + length bs = omega arith in
    rw (at, so_many) (run_past n (past + i) _ d (numbers_after forward 0 (bs ++ r ∷ rs)) ∙ after_past forward 0 a.alt_end bs r rs i d)

-- in the whole list, each of a record's own elements, and what follows the last of them, has its number
pub record_number : (forward : Bool) (left : List Exon) (r : Exon) (right : List Exon) (k : ℕ) → k ≤ length (parts_of forward r)
    → get_or (numbers_of forward (left ++ r ∷ right)) (length (lead forward left r) + k) (last_number forward (length (left ++ r ∷ right))) ≡ numbered_by forward (length left) (length right)
record_number forward left r right k h =
    let all : length (left ++ r ∷ right) ≡ length left + 1 + length right = omega (arith, length-append left (r ∷ right)) in
    rw all (lead_past forward left r right k (last_number forward (length left + 1 + length right)) ∙ own_number forward (length left) r right k h)

-- ---- records added

-- a record's number, with so many records added before it and so many after it
number_higher : (forward : Bool) (added before n right : ℕ) → numbered_by forward (added + before) (n + right) ≡ numbered_by forward before n + cond forward added right
number_higher true added before n right = omega arith
number_higher false added before n right = omega arith

-- what stands behind the last element of the records after one that has so many before it
abbrev behind : Bool → ℕ → List Exon → ℕ
behind forward before rs = last_number forward (before + 1 + length rs)

last_is : (forward : Bool) (before : ℕ) → numbered_by forward before 0 ≡ last_number forward (before + 1 + 0)
last_is true before = omega arith
last_is false before = refl

-- the numbers after a record, up to what follows the last, with `added` records more before it and `right` behind: each is as many higher as there are records more upstream
abbrev AfterHigher : Bool → ℕ → ℕ → ℕ → List Exon → List Exon → Type 0
AfterHigher forward added before e rs right = (i : ℕ) → i ≤ length (elements_after forward e rs)
    → get_or (numbers_after forward (added + before) (rs ++ right)) i (behind forward (added + before) (rs ++ right)) ≡ get_or (numbers_after forward before rs) i (behind forward before rs) + cond forward added (length right)

-- and so from the record on
from_higher : (forward : Bool) (added before : ℕ) (r : Exon) (rs right : List Exon) → AfterHigher forward added before r.alt_end rs right → (i : ℕ) → i ≤ length (elements_of forward (r ∷ rs))
    → get_or (numbers_from forward (added + before) r (rs ++ right)) i (behind forward (added + before) (rs ++ right)) ≡ get_or (numbers_from forward before r rs) i (behind forward before rs) + cond forward added (length right)
unfolding numbers_from elements_of
from_higher forward added before r rs right after i h =
    let n = length (parts_of forward r) in
    let d = behind forward before rs in
    let d' = behind forward (added + before) (rs ++ right) in
    let here : numbered_by forward (added + before) (length (rs ++ right)) ≡ numbered_by forward before (length rs) + cond forward added (length right) = rw (length-append rs right) (number_higher forward added before (length rs) (length right)) in
    by_test (ltb i n)
    (λ t.
    let within = ltb-true i n t in
    run_within n i _ d' (numbers_after forward (added + before) (rs ++ right)) within
    ∙ here
    ∙ ap (λ (k : ℕ). k + cond forward added (length right)) (sym (run_within n i _ d (numbers_after forward before rs) within)))
    (λ t.
    let past = ltb-false i n t in
    let at : i ≡ n + (i - n) = omega arith in
    let left : i - n ≤ length (elements_after forward r.alt_end rs) = omega (arith, length-append (parts_of forward r) (elements_after forward r.alt_end rs)) in
    rw at
    (run_past n (i - n) _ d' (numbers_after forward (added + before) (rs ++ right))
    ∙ after (i - n) left
    ∙ ap (λ (k : ℕ). k + cond forward added (length right)) (sym (run_past n (i - n) _ d (numbers_after forward before rs)))))

after_higher : (forward : Bool) (added before e : ℕ) (rs right : List Exon) → AfterHigher forward added before e rs right
unfolding numbers_after elements_after elements_of numbers_from
after_higher forward added before e [] right i h =
    let at : i ≡ 0 = omega arith in
    let none : 0 + length right ≡ length right = omega arith in
    rw (at, ← last_is forward before) (head_number forward (added + before) right ∙ (rw none at (number_higher forward added before 0 (length right))))
after_higher forward added before e (r ∷ rs) right i h =
    by_test (ltb i 1)
    (λ t.
    let at : i ≡ 0 = omega (arith, ltb-true i 1 t) in
    let so_many : length (r ∷ rs ++ right) ≡ length (r ∷ rs) + length right = length-append (r ∷ rs) right in
    rw (at, so_many) (number_higher forward added before (length (r ∷ rs)) (length right)))
    (λ t.
    let past = ltb-false i 1 t in
    let at : i ≡ 1 + (i - 1) = omega arith in
    let all : added + before + 1 + length (r ∷ rs ++ right) ≡ added + (before + 1) + 1 + length (rs ++ right) = omega arith in
    let own : before + 1 + length (r ∷ rs) ≡ before + 1 + 1 + length rs = omega arith in
    let one_more : added + before + 1 ≡ added + (before + 1) = omega arith in
    rw (at, all, own)
    (one_past _ (numbers_from forward (added + before + 1) r (rs ++ right)) (i - 1) _
    ∙ ap (λ (n : ℕ). get_or (numbers_from forward n r (rs ++ right)) (i - 1) (behind forward (added + (before + 1)) (rs ++ right))) one_more
    ∙ from_higher forward added (before + 1) r rs right (after_higher forward added (before + 1) r.alt_end rs right) (i - 1) (omega arith)
    ∙ ap (λ (k : ℕ). k + cond forward added (length right)) (sym (one_past _ (numbers_from forward (before + 1) r rs) (i - 1) _))))

-- with records added on both sides each number of a record's elements, and what stands behind the last, is as many higher as there are records added upstream
pub records_higher : (forward : Bool) (left : List Exon) (r : Exon) (rs right : List Exon) (i : ℕ) → i ≤ length (elements_of forward (r ∷ rs))
    → get_or (numbers_of forward (left ++ (r ∷ rs ++ right))) (length (lead forward left r) + i) (last_number forward (length (left ++ (r ∷ rs ++ right))))
    ≡ get_or (numbers_of forward (r ∷ rs)) i (last_number forward (length (r ∷ rs))) + cond forward (length left) (length right)
unfolding numbers_of numbers_from
records_higher forward left r rs right i h =
    let none : length left ≡ length left + 0 = omega arith in
    let all : length (left ++ (r ∷ rs ++ right)) ≡ length left + 0 + 1 + length (rs ++ right) = omega (arith, length-append left (r ∷ rs ++ right)) in
    let own : length (r ∷ rs) ≡ 0 + 1 + length rs = omega arith in
    rw (all, own)
    (lead_past forward left r (rs ++ right) i _
    ∙ ap (λ (n : ℕ). get_or (numbers_from forward n r (rs ++ right)) i (behind forward (length left + 0) (rs ++ right))) none
    ∙ from_higher forward (length left) 0 r rs right (after_higher forward (length left) 0 r.alt_end rs right) i h)
