-- What is shown of the definitions of Walk. Assumes nothing.
use Rattle.refusals.specs.Outcome.{Err, Test, no_fault}
use Rattle.std.specs.Prelude.{ℕ, zero, suc, ◌+◌, ◌-◌, ◌≤◌, ◌<◌, Bool, true, false, ◌&&◌, List, [], ◌∷◌, ◌≡◌, refl, eqb, leb, ℤ, pos, negsuc, nat_abs, length, if◌then◌else◌}
use Rattle.std.proofs.Common.{arith, true≢false, sym, ap, subst, ◌∙◌, ltb-false, leb-true, le-leb}
use Rattle.std.specs.Int.Signed.{lt_z}
use Rattle.std.proofs.lemmas.Bool.{lt-leb}
use Rattle.refusals.specs.declared.Refusal.TheVariants.{BadBound}
use Rattle.whole.specs.laws.Whole.{both}
use Rattle.records.specs.Layout.{cigar_text}
use Rattle.records.specs.Records.{Record, next_at, record_at, exactly, records_from}
use Rattle.records.specs.Faults.{◌or_else◌, span_fault, start_fault, own_fault, pair_fault, faults_after, faults}
use Rattle.records.specs.laws.Chain.{clear}
use Rattle.records.specs.Walk.{Begins, Placed, Beside, Ordered, Walk, Turn, Ready}

pred : (n : ℕ) → suc n - 1 ≡ n
pred n = omega arith

pub begins : (n : ℕ) (s : List ℕ) (at : ℕ) → 0 < n → exactly n s at ≡ true → Begins n s at
unfolding exactly
begins zero s at h e = absurd (omega arith)
begins (suc n) s at h e =
    let a = both (leb (at + cigar_text) (length s)) (leb (next_at s at) (length s) && exactly n s (next_at s at)) e in
    let b = both (leb (next_at s at) (length s)) (exactly n s (next_at s at)) a.1 in
    record { stands = record { numbers = leb-true _ _ a.0; text = leb-true _ _ b.0 }; others = rw (pred n) b.1 }

-- the test of 21, record by record: there is no room for the numbers, none for the CIGAR, the record stands, none is left
pub no_numbers : (n : ℕ) (s : List ℕ) (at : ℕ) → 0 < n → length s < at + cigar_text → exactly n s at ≡ false
unfolding exactly
no_numbers zero s at h l = absurd (omega arith)
no_numbers (suc n) s at h l = rw (lt-leb (at + cigar_text) (length s) l)

pub no_text : (n : ℕ) (s : List ℕ) (at : ℕ) → 0 < n → at + cigar_text ≤ length s → length s < next_at s at → exactly n s at ≡ false
unfolding exactly
no_text zero s at h k l = absurd (omega arith)
no_text (suc n) s at h k l = rw (le-leb (at + cigar_text) (length s) k, lt-leb (next_at s at) (length s) l)

pub one_more : (n : ℕ) (s : List ℕ) (at : ℕ) → 0 < n → at + cigar_text ≤ length s → next_at s at ≤ length s
    → exactly n s at ≡ exactly (n - 1) s (next_at s at)
unfolding exactly
one_more zero s at h k l = absurd (omega arith)
one_more (suc n) s at h k l = rw (le-leb (at + cigar_text) (length s) k, le-leb (next_at s at) (length s) l, pred n)

pub all_walked : (s : List ℕ) (at n : ℕ) → n ≡ 0 → exactly n s at ≡ eqb at (length s)
unfolding exactly
all_walked s at n e = rw e

-- the list of records, one taken off
pub records_one : (n : ℕ) (s : List ℕ) (at : ℕ) → 0 < n → records_from n s at ≡ record_at s at ∷ records_from (n - 1) s (next_at s at)
unfolding records_from
records_one zero s at h = absurd (omega arith)
records_one (suc n) s at h = rw (pred n)

pub records_length : (n : ℕ) (s : List ℕ) (at : ℕ) → length (records_from n s at) ≡ n
unfolding records_from
records_length zero s at = refl
records_length (suc n) s at = ap suc (records_length n s (next_at s at))

pub records_none : (n : ℕ) (s : List ℕ) (at : ℕ) → n ≡ 0 → records_from n s at ≡ []
unfolding records_from
records_none n s at e = rw e

pub faults_first : (forward : Bool) (n : ℕ) (s : List ℕ) (at : ℕ) → 0 < n → faults forward (records_from n s at)
    ≡ own_fault (record_at s at) or_else faults_after forward (record_at s at) (records_from (n - 1) s (next_at s at))
unfolding faults
faults_first forward n s at h = rw (records_one n s at h)

pub faults_one : (forward : Bool) (p : Record) (n : ℕ) (s : List ℕ) (at : ℕ) → 0 < n → faults_after forward p (records_from n s at)
    ≡ own_fault (record_at s at) or_else pair_fault forward p (record_at s at) or_else faults_after forward (record_at s at) (records_from (n - 1) s (next_at s at))
unfolding faults_after
faults_one forward p n s at h = rw (records_one n s at h)

pub faults_none : (forward : Bool) (p : Record) (n : ℕ) (s : List ℕ) (at : ℕ) → n ≡ 0 → faults_after forward p (records_from n s at) ≡ no_fault
unfolding faults_after
faults_none forward p n s at e = rw (records_none n s at e)

pub no_faults : (forward : Bool) (n : ℕ) (s : List ℕ) (at : ℕ) → n ≡ 0 → faults forward (records_from n s at) ≡ no_fault
unfolding faults
no_faults forward n s at e = rw (records_none n s at e)

not_refused : (t : Bool) (x : Test) → (if t then Err BadBound else x) ≡ no_fault → (t ≡ false) × (x ≡ no_fault)
not_refused true x h = cc
not_refused false x h = (refl, h)

pub own_sound : (r : Record) → own_fault r ≡ no_fault → Placed r
unfolding own_fault span_fault
own_sound r h =
    let a = not_refused _ _ (clear (span_fault r.alt_start r.alt_end) (span_fault r.tx_start r.tx_end) h).0 in
    let b = not_refused _ _ a.1 in
    record { start_whole = a.0; end_whole = b.0; in_order = (not_refused _ _ b.1).0 }

-- a record does not start below the end of the one before it
pub pair_ordered : (forward : Bool) (p r : Record) → pair_fault forward p r ≡ no_fault → lt_z r.alt_start p.alt_end ≡ false
unfolding pair_fault start_fault
pair_ordered forward p r h = (not_refused _ _ (clear (start_fault p.alt_end r.alt_start) _ h).0).0

whole_order : (a b : ℤ) → lt_z a (pos 0) ≡ false → lt_z b (pos 0) ≡ false → lt_z b a ≡ false → nat_abs a ≤ nat_abs b
whole_order (pos a) (pos b) h k l = omega (arith, ltb-false)
whole_order (pos a) (negsuc b) h k l = absurd (true≢false k)
whole_order (negsuc a) b h k l = absurd (true≢false h)

pub beside_order : {p r : Record} → Beside p r → nat_abs p.alt_end ≤ nat_abs r.alt_start
beside_order {p} {r} b = whole_order p.alt_end r.alt_start b.end_whole b.start_whole b.in_order

pub ordered : (forward : Bool) (p : Record) (rs : List Record) → own_fault p ≡ no_fault → faults_after forward p rs ≡ no_fault → Ordered p rs
unfolding faults_after
ordered forward p [] own rest = tt
ordered forward p (r ∷ rs) own rest =
    let k = clear (own_fault r) (pair_fault forward p r or_else faults_after forward r rs) rest in
    let l = clear (pair_fault forward p r) (faults_after forward r rs) k.1 in (
      record {
        end_whole = (own_sound p own).end_whole;
        start_whole = (own_sound r k.0).start_whole;
        in_order = pair_ordered forward p r l.0;
      },
      ordered forward r rs k.0 l.1,
    )

pub turn : {s : List ℕ} {previous n at : ℕ} → 0 < n → Walk s previous n at → Turn s previous n at
turn {s} {previous} {n} {at} h w =
    let b = begins n s at h w.exact in
    let o = subst (Ordered (record_at s previous)) (records_one n s at h) w.order in
    record { stands = b.stands; beside = o.0; next = record { exact = b.others; inside = b.stands.numbers; order = o.1 } }

pub ready : (forward : Bool) (n : ℕ) (s : List ℕ) → 0 < n → exactly n s 0 ≡ true → faults forward (records_from n s 0) ≡ no_fault → Ready n s
ready forward n s h e f =
    let b = begins n s 0 h e in
    let k = clear (own_fault (record_at s 0)) _ (sym (faults_first forward n s 0 h) ∙ f) in
    record {
      some = h;
      stands = b.stands;
      start_whole = (own_sound (record_at s 0) k.0).start_whole;
      next = record { exact = b.others; inside = b.stands.numbers; order = ordered forward (record_at s 0) _ k.0 k.1 };
    }
