-- A log there and back.
--     Headed, headed_means, headed_by   what the test of a header says, and how it is shown
--     log_length                        a log's length by its entries
--     reads_back_lem                        what entries are written as reads back as them
--     one_log                           entries with one log are one
--     read_means, is_log                every log that is read is the log that its entries are written as
--     read_fits                         and its entries fit
-- Assumes nothing.
use Rattle.std.specs.Prelude.{◌≡◌, true, List, [], ◌∷◌, ◌++◌, ℕ, zero, suc, ◌+◌, ◌-◌, ◌*◌, ◌%◌, ◌≤◌, ltb, get_or, take, drop}
use Rattle.std.proofs.Math.Path.{refl, ap}
use Rattle.std.proofs.Common.{sym, ap₂, ◌∙◌, arith, eq-eqb, eqb-true, le-ltb, ltb-false, length-append, take-append-drop, drop_of_length-le, drop-drop, drop_at}
use Rattle.std.proofs.lemmas.Bool.{false≢true}
use Rattle.std.proofs.Math.ListN.{length}
use Rattle.refusals.specs.Numbers.{most_log}
use Rattle.refusals.specs.Outcome.{Ok}
use Rattle.refusals.specs.laws.Outcomes.{clash, same}
use Rattle.whole.specs.laws.Whole.{by_test, both}
use Rattle.fields.specs.Fields.{le16, bytes16}
use Rattle.fields.specs.laws.RoundTrips.{Bytes, bytes16_le, beside}
use Rattle.journal.specs.Layout.{mark, version, version_at, entries_at}
use Rattle.entries.specs.Layout.{entry_size}
use Rattle.entries.specs.Entries.{entry_bytes}
use Rattle.entries.specs.laws.RoundTrips.{entry_length, entry_back, bytes_back, entry_fits}
use Rattle.journal.specs.Logs.{header_bytes, entries_bytes, log_bytes, is_marked, is_headed, entries_from, count_of, entries_in, all_canonical, read_log, AllFit, none, more}
use Rattle.entries.specs.declared.Entry.{Entry}

-- ---- a header

pub record Headed (s : List ℕ) (n : ℕ) : Type 0 where
  pub marked : is_marked s ≡ true
  pub version_is : le16 s version_at ≡ version
  pub long : entries_at ≤ n
  pub size_is : entries_at + entry_size * count_of n ≡ n

pub headed_means : (s : List ℕ) (n : ℕ) → is_headed s n ≡ true → Headed s n
unfolding is_headed
headed_means s n e =
    by_test (ltb n entries_at)
    (λ t. absurd (false≢true (rw t at e)))
    (λ t.
    let a = both _ _ (rw t at e) in
    let b = both _ _ a.0 in
    let l : entries_at ≤ n = ltb-false n entries_at t in
    let r : (n - entries_at) % entry_size ≡ 0 = eqb-true _ _ a.1 in
    record { marked = b.0; version_is = eqb-true _ _ b.1; long = l; size_is = omega arith })

pub headed_by : (s : List ℕ) (n k : ℕ) → is_marked s ≡ true → le16 s version_at ≡ version → n ≡ entries_at + entry_size * k → is_headed s n ≡ true
unfolding is_headed
headed_by s n k m v e =
    let l : entries_at ≤ n = omega arith in
    let r : (n - entries_at) % entry_size ≡ 0 = omega arith in
    rw (le-ltb n entries_at l, m, eq-eqb (le16 s version_at) version v, eq-eqb ((n - entries_at) % entry_size) 0 r)

-- ---- what was written

pub entries_length : (es : List Entry) → length (entries_bytes es) ≡ entry_size * length es
unfolding entries_bytes
entries_length [] = refl
entries_length (e ∷ es) = omega (arith, length-append (entry_bytes e) (entries_bytes es), entry_length e, entries_length es)

pub log_length : (es : List Entry) → length (log_bytes es) ≡ entries_at + entry_size * length es
unfolding log_bytes
log_length es = omega (arith, entries_length es)

pub from_laid : (s : List ℕ) (at : ℕ) {es : List Entry} → AllFit es → drop at s ≡ entries_bytes es → entries_from (length es) s at ≡ es
unfolding entries_from entries_bytes
from_laid s at none h = refl
from_laid s at (more {e} {es} f fs) h =
    let next : drop (at + entry_size) s ≡ entries_bytes es =
    sym (drop-drop entry_size at s) ∙ ap (drop entry_size) h ∙ drop_at (entry_bytes e) (entries_bytes es) entry_size (entry_length e) in
    rw (entry_back s at e (entries_bytes es) h f, from_laid s (at + entry_size) fs next)

module _ (es : List Entry) (fits : AllFit es) where
  written_in : entries_in (log_bytes es) ≡ es
  unfolding log_bytes
  written_in =
      let n : count_of (length (log_bytes es)) ≡ length es = omega (arith, log_length es) in
      ap (λ (k : ℕ). entries_from k (log_bytes es) entries_at) n ∙ from_laid (log_bytes es) entries_at fits refl

  written_headed : is_headed (log_bytes es) (length (log_bytes es)) ≡ true
  unfolding log_bytes is_marked le16
  written_headed = headed_by (log_bytes es) (length (log_bytes es)) (length es) refl refl (log_length es)

  -- what entries are written as reads back as them
  pub reads_back_lem : all_canonical es ≡ true → length (log_bytes es) ≤ most_log → read_log (log_bytes es) ≡ Ok es
  unfolding read_log
  reads_back_lem c h = rw (le-ltb most_log (length (log_bytes es)) h, written_headed, written_in, c)

-- entries with one log are one
pub one_log : (es fs : List Entry) → AllFit es → AllFit fs → log_bytes es ≡ log_bytes fs → es ≡ fs
one_log es fs f g h = sym (written_in es f) ∙ ap entries_in h ∙ written_in fs g

-- ---- what was read

pub from_length : (n : ℕ) (s : List ℕ) (at : ℕ) → length (entries_from n s at) ≡ n
unfolding entries_from
from_length zero s at = refl
from_length (suc n) s at = ap suc (from_length n s (at + entry_size))

pub from_fit : (n : ℕ) (s : List ℕ) (at : ℕ) → Bytes s → at + entry_size * n ≤ length s → AllFit (entries_from n s at)
unfolding entries_from
from_fit zero s at bs h = none
from_fit (suc n) s at bs h = more (entry_fits s at bs (omega arith)) (from_fit n s (at + entry_size) bs (omega arith))

laid_from : (n : ℕ) (s : List ℕ) (at : ℕ) → Bytes s → at + entry_size * n ≡ length s → entries_bytes (entries_from n s at) ≡ drop at s
unfolding entries_from entries_bytes
laid_from zero s at bs h = sym (drop_of_length-le s {i = at} (omega arith))
laid_from (suc n) s at bs h =
    ap₂ (λ (a b : List ℕ). a ++ b) (bytes_back s at bs (omega arith)) (laid_from n s (at + entry_size) bs (omega arith) ∙ sym (drop-drop entry_size at s))
    ∙ take-append-drop entry_size (drop at s)

three : (s : List ℕ) → 3 ≤ length s → take 3 s ≡ get_or s 0 0 ∷ get_or s 1 0 ∷ get_or s 2 0 ∷ []
three [] h = absurd (omega arith)
three (a ∷ []) h = absurd (omega arith)
three (a ∷ b ∷ []) h = absurd (omega arith)
three (a ∷ b ∷ c ∷ s) h = refl

marked_means : (s : List ℕ) → 3 ≤ length s → is_marked s ≡ true → mark ≡ take 3 s
unfolding is_marked
marked_means s h e =
    let a = both _ _ e in
    let b = both _ _ a.0 in
    sym (three s h ∙ rw (eqb-true (get_or s 0 0) 81 b.0, eqb-true (get_or s 1 0) 76 b.1, eqb-true (get_or s 2 0) 71 a.1))

header_kept : (s : List ℕ) → Bytes s → Headed s (length s) → header_bytes ≡ take entries_at s
header_kept s bs h =
    beside s 0 version_at 2 (marked_means s (omega (arith, h.long)) h.marked)
    (ap bytes16 (sym h.version_is) ∙ bytes16_le s version_at bs h.long)

text_kept : (s : List ℕ) → Bytes s → Headed s (length s) → log_bytes (entries_in s) ≡ s
unfolding log_bytes
text_kept s bs h =
    ap₂ (λ (a b : List ℕ). a ++ b) (header_kept s bs h) (laid_from (count_of (length s)) s entries_at bs h.size_is) ∙ take-append-drop entries_at s

pub record IsLog (s : List ℕ) (es : List Entry) : Type 0 where
  pub few : length s ≤ most_log
  pub test : is_headed s (length s) ≡ true
  pub headed : Headed s (length s)
  pub sound : all_canonical es ≡ true
  pub are : es ≡ entries_in s

pub read_means : (s : List ℕ) (es : List Entry) → read_log s ≡ Ok es → IsLog s es
unfolding read_log
read_means s es e =
    by_test (ltb most_log (length s))
    (λ t. absurd (clash (simp t at e)))
    (λ t. by_test (is_headed s (length s))
    (λ u. by_test (all_canonical (entries_in s))
    (λ v.
    let q = sym (same (simp (t, u, v) at e)) in
    record { few = ltb-false most_log (length s) t; test = u; headed = headed_means s (length s) u; sound = ap all_canonical q ∙ v; are = q })
    (λ v. absurd (clash (simp (t, u, v) at e))))
    (λ u. absurd (clash (simp (t, u) at e))))

-- every log that is read is what its entries are written as
pub is_log : (s : List ℕ) (es : List Entry) → Bytes s → read_log s ≡ Ok es → log_bytes es ≡ s
is_log s es bs e =
    let k = read_means s es e in
    ap log_bytes k.are ∙ text_kept s bs k.headed

-- and its entries fit
pub read_fits : (s : List ℕ) (es : List Entry) → Bytes s → read_log s ≡ Ok es → AllFit es
read_fits s es bs e =
    let k = read_means s es e in
    rw k.are (from_fit (count_of (length s)) s entries_at bs (omega (arith, k.headed.size_is)))
