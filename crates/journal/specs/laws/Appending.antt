-- An entry more.
--     IsPut, put_means     what is known where an entry is put
--     before_stays, behind_stays   every byte before it and behind it stays
--     grown                the bytes in use are the log of the entries that were there and the new one
--     grown_reads          and read back as them
--     headed_front         of a header only the bytes in use are looked at
--     takes_first, takes_next   a log that is not begun, and one that is read, take an entry for which there is room
-- Assumes nothing.
use Rattle.std.specs.Prelude.{◌≡◌, refl, true, ◌⊎◌, ℕ, ◌+◌, ◌≤◌, eqb, ltb, take}
use Rattle.std.proofs.Math.Path.{sym, ap, ap₂}
use Rattle.std.proofs.Common.{◌∙◌, inl, inr, arith, ne_eqb, eqb-true, le-ltb, ltb-false, length-append, take-append-drop, take_at, drop_at}
use Rattle.std.proofs.Math.Logic.{⊎_elim}
use mathlib.Core.List.{List, [], ◌∷◌, ◌++◌, append_assoc, append-nil}
use Rattle.std.proofs.Math.ListN.{length, drop, length-drop}
use Rattle.std.proofs.lemmas.List.Edits.{sets, sets-eq}
use Rattle.std.proofs.Math.Seq.{length-take-le, get_or-take, take-append-le, drop-append-le}
use Rattle.refusals.specs.Numbers.{most_log}
use Rattle.refusals.specs.Outcome.{Ok}
use Rattle.refusals.specs.laws.Outcomes.{clash, same}
use Rattle.whole.specs.laws.Whole.{by_test, both}
use Rattle.fields.specs.Fields.{little, le16}
use Rattle.fields.specs.laws.RoundTrips.{Bytes, take_bytes}
use Rattle.journal.specs.Layout.{version_at, entries_at}
use Rattle.entries.specs.Layout.{entry_size}
use Rattle.entries.specs.Entries.{entry_bytes, EntryFits}
use Rattle.canonical.specs.Canonical.{canonical}
use Rattle.entries.specs.laws.RoundTrips.{entry_length}
use Rattle.journal.specs.Logs.{header_bytes, entries_bytes, log_bytes, is_marked, is_headed, all_canonical, read_log, fitted, appending, AllFit, none, more, Holds, not_begun, begun}
use Rattle.journal.specs.laws.LogTrips.{reads_back_lem, read_means, is_log, read_fits}
use Rattle.entries.specs.declared.Entry.{Entry}

-- ---- what is known where an entry is put

record IsFitted (room used : ℕ) (text t : List ℕ) : Type 0 where
  same : text ≡ t
  small : used + length t ≤ most_log
  roomy : used + length t ≤ room

fitted_means : (room used : ℕ) (t text : List ℕ) → fitted room used t ≡ Ok text → IsFitted room used text t
fitted_means room used t text e =
    by_test (ltb most_log (used + length t))
    (λ a. absurd (clash (simp a at e)))
    (λ a. by_test (ltb room (used + length t))
    (λ b. absurd (clash (simp (a, b) at e)))
    (λ b. record { same = sym (same (simp (a, b) at e)); small = ltb-false most_log (used + length t) a; roomy = ltb-false room (used + length t) b }))

pub record IsPut (s : List ℕ) (used : ℕ) (e : Entry) (text : List ℕ) : Type 0 where
  pub small : used + length text ≤ most_log
  pub roomy : used + length text ≤ length s
  pub text_is : ((used ≡ 0) × (text ≡ header_bytes ++ entry_bytes e)) ⊎ ((is_headed s used ≡ true) × (text ≡ entry_bytes e))

pub put_means : (s : List ℕ) (used : ℕ) (e : Entry) (text : List ℕ) → appending s used e ≡ Ok text → IsPut s used e text
unfolding appending
put_means s used e text h =
    by_test (ltb (length s) used)
    (λ a. absurd (clash (simp a at h)))
    (λ a. by_test (eqb used 0)
    (λ b. first (eqb-true used 0 b) (fitted_means (length s) 0 (header_bytes ++ entry_bytes e) text (simp (a, b) at h)))
    (λ b. by_test (is_headed s used)
    (λ c. next c (fitted_means (length s) used (entry_bytes e) text (simp (a, b, c) at h)))
    (λ c. absurd (clash (simp (a, b, c) at h)))))
  where
    first : used ≡ 0 → IsFitted (length s) 0 text (header_bytes ++ entry_bytes e) → IsPut s used e text
    first z f = record { small = rw (z, f.same) f.small; roomy = rw (z, f.same) f.roomy; text_is = inl (z, f.same) }

    next : is_headed s used ≡ true → IsFitted (length s) used text (entry_bytes e) → IsPut s used e text
    next c f = record { small = rw f.same f.small; roomy = rw f.same f.roomy; text_is = inr (c, f.same) }

-- ---- what stays

module _ (s : List ℕ) (used : ℕ) (text : List ℕ) (room : used + length text ≤ length s) where
  front_length : length (take used s) ≡ used
  front_length = length-take-le used s (omega arith)

  pub before_stays : take used (sets s used text) ≡ take used s
  before_stays = rw (sets-eq text s used room, append_assoc) (take_at (take used s) (text ++ drop (used + length text) s) used front_length)

  grown_length : length (take used s ++ text) ≡ used + length text
  grown_length = omega (arith, length-append (take used s) text, front_length)

  pub behind_stays : drop (used + length text) (sets s used text) ≡ drop (used + length text) s
  behind_stays = rw (sets-eq text s used room) (drop_at (take used s ++ text) (drop (used + length text) s) (used + length text) grown_length)

  pub in_use : take (used + length text) (sets s used text) ≡ take used s ++ text
  in_use = rw (sets-eq text s used room) (take_at (take used s ++ text) (drop (used + length text) s) (used + length text) grown_length)

-- ---- the log of the entries that were there and the new one

entries_snoc : (es : List Entry) (e : Entry) → entries_bytes (es ++ e ∷ []) ≡ entries_bytes es ++ entry_bytes e
unfolding entries_bytes
entries_snoc [] e = append-nil (entry_bytes e)
entries_snoc (d ∷ es) e = ap (λ (l : List ℕ). entry_bytes d ++ l) (entries_snoc es e) ∙ sym (append_assoc (entry_bytes d) (entries_bytes es) (entry_bytes e))

log_snoc : (es : List Entry) (e : Entry) → log_bytes (es ++ e ∷ []) ≡ log_bytes es ++ entry_bytes e
unfolding log_bytes
log_snoc es e = ap (λ (l : List ℕ). header_bytes ++ l) (entries_snoc es e)

not_empty : (s : List ℕ) → is_headed s 0 ≡ true → ⊥
unfolding is_headed
not_empty s e = let z : ◌≡◌ {A = ℕ} 0 1 = cc in omega arith

-- entries that fit and are canonical, and one more
fit_more : {es : List Entry} {e : Entry} → AllFit es → EntryFits e → AllFit (es ++ e ∷ [])
fit_more none g = more g none
fit_more (more f fs) g = more f (fit_more fs g)

canonical_more : (es : List Entry) (e : Entry) → all_canonical es ≡ true → canonical e ≡ true → all_canonical (es ++ e ∷ []) ≡ true
unfolding all_canonical
canonical_more [] e h c = rw c
canonical_more (d ∷ es) e h c = let b = both (canonical d) (all_canonical es) h in rw b.0 (canonical_more es e b.1 c)

-- what bytes in use hold fits and is canonical
held_fit : {s : List ℕ} {es : List Entry} → Bytes s → Holds s es → AllFit es
held_fit bs not_begun = none
held_fit bs (begun {s} {es} r) = read_fits s es bs r

held_canonical : {s : List ℕ} {es : List Entry} → Holds s es → all_canonical es ≡ true
unfolding all_canonical
held_canonical not_begun = refl
held_canonical (begun {s} {es} r) = (read_means s es r).sound

module _ (s : List ℕ) (used : ℕ) (e : Entry) (text : List ℕ) (h : appending s used e ≡ Ok text) where
  its : IsPut s used e text
  its = put_means s used e text h

  joined : {l : List ℕ} {es : List Entry} → Bytes l → Holds l es → length l ≡ used → l ++ text ≡ log_bytes (es ++ e ∷ [])
  unfolding log_bytes entries_bytes
  joined bs not_begun n =
      ⊎_elim
      (λ a. a.1 ∙ sym (log_snoc [] e))
      (λ b. absurd (not_empty s (rw n b.0)))
      its.text_is
  joined bs (begun {s = l} {es} r) n =
      ⊎_elim
      (λ a. absurd (omega (arith, (read_means l es r).headed.long, n, a.0)))
      (λ b. ap₂ (λ (x y : List ℕ). x ++ y) (sym (is_log l es bs r)) b.1 ∙ sym (log_snoc es e))
      its.text_is

  -- all bytes of the buffer are bytes, as those of lent memory are
  module _ (bs : Bytes s) (es : List Entry) (k : Holds (take used s) es) where
    pub grown : take (used + length text) (sets s used text) ≡ log_bytes (es ++ e ∷ [])
    grown = in_use s used text its.roomy ∙ joined (take_bytes used s bs) k (front_length s used text its.roomy)

    -- and it reads back as them
    pub grown_reads : EntryFits e → canonical e ≡ true → read_log (take (used + length text) (sets s used text)) ≡ Ok (es ++ e ∷ [])
    grown_reads f c =
        let n : length (log_bytes (es ++ e ∷ [])) ≡ used + length text =
        sym (ap length grown) ∙ ap length (in_use s used text its.roomy) ∙ grown_length s used text its.roomy in
        ap read_log grown
        ∙ reads_back_lem (es ++ e ∷ []) (fit_more (held_fit (take_bytes used s bs) k) f) (canonical_more es e (held_canonical k) c) (omega (arith, its.small))

-- ---- of a header only the bytes in use are looked at

module _ (s : List ℕ) (n : ℕ) (h : n ≤ length s) (l : entries_at ≤ n) where
  version_front : le16 (take n s) version_at ≡ le16 s version_at
  unfolding le16
  version_front =
      let k : length (take n s) ≡ n = length-take-le n s h in
      let a : drop version_at s ≡ drop version_at (take n s) ++ drop n s =
      ap (drop version_at) (sym (take-append-drop n s)) ∙ drop-append-le version_at (take n s) (drop n s) (omega arith) in
      ap little (sym (ap (take 2) a ∙ take-append-le 2 (drop version_at (take n s)) (drop n s) (long k)))
    where
      long : length (take n s) ≡ n → 2 ≤ length (drop version_at (take n s))
      long k = omega (arith, length-drop version_at (take n s))

  mark_front : is_marked (take n s) ≡ is_marked s
  unfolding is_marked
  mark_front = rw (get_or-take n s 0 0 (omega arith), get_or-take n s 1 0 (omega arith), get_or-take n s 2 0 (omega arith))

pub headed_front : (s : List ℕ) (n : ℕ) → n ≤ length s → is_headed (take n s) n ≡ is_headed s n
unfolding is_headed
headed_front s n h =
    by_test (ltb n entries_at)
    (λ t. rw t)
    (λ t. let l = ltb-false n entries_at t in rw (t, version_front s n h l, mark_front s n h l))

-- ---- what takes an entry

pub takes_first : (s : List ℕ) (e : Entry) → entries_at + entry_size ≤ length s → appending s 0 e ≡ Ok (header_bytes ++ entry_bytes e)
unfolding appending
takes_first s e h =
    let n : length (header_bytes ++ entry_bytes e) ≡ entries_at + entry_size = omega (arith, entry_length e) in
    rw (le-ltb (length s) 0 (omega arith), le-ltb most_log (0 + length (header_bytes ++ entry_bytes e)) (omega arith), le-ltb (length s) (0 + length (header_bytes ++ entry_bytes e)) (omega arith))

pub takes_next : (s : List ℕ) (used : ℕ) (es : List Entry) (e : Entry) → used ≤ length s → read_log (take used s) ≡ Ok es
    → used + entry_size ≤ most_log → used + entry_size ≤ length s → appending s used e ≡ Ok (entry_bytes e)
unfolding appending
takes_next s used es e w r m h =
    let i = read_means (take used s) es r in
    let k : length (take used s) ≡ used = length-take-le used s w in
    let n : length (entry_bytes e) ≡ entry_size = entry_length e in
    let c : is_headed s used ≡ true = sym (headed_front s used w) ∙ ap (is_headed (take used s)) (sym k) ∙ i.test in
    rw (
      le-ltb (length s) used w,
      ne_eqb used 0 (λ z. omega (arith, i.headed.long)),
      c,
      le-ltb most_log (used + length (entry_bytes e)) (omega arith),
      le-ltb (length s) (used + length (entry_bytes e)) (omega arith),
    )
