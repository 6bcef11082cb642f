-- A log that was made on what is lent holds each question with what was said to it, and reads back as just these entries, whatever was asked. Where there is room a question that can be held is recorded. Assumes nothing.
use Rattle.std.specs.Prelude.{ℕ, ◌+◌, ◌≤◌, true, List, [], ◌∷◌, ◌++◌, ◌⊎◌, ◌≡◌, refl, length, take}
use Rattle.std.proofs.Common.{arith, inl, inr, sym, ap, ◌∙◌}
use Rattle.std.proofs.lemmas.List.Edits.{sets}
use Rattle.refusals.specs.Numbers.{most_log}
use Rattle.refusals.specs.Outcome.{Ok}
use Rattle.refusals.specs.laws.Outcomes.{clash}
use Rattle.whole.specs.laws.Whole.{by_test}
use Rattle.fields.specs.laws.RoundTrips.{Bytes}
use Rattle.holding.specs.Holding.{Lent}
use Rattle.taking.specs.declared.question.Question.{Question}
use Rattle.journal.specs.Layout.{entries_at}
use Rattle.entries.specs.Layout.{entry_size}
use Rattle.entries.specs.Entries.{entry_bytes, QuestionFits}
use Rattle.canonical.specs.Canonical.{holdable}
use Rattle.journal.specs.Logs.{header_bytes, log_bytes, read_log, appending, Holds, not_begun, begun}
use Rattle.journal.specs.laws.Appending.{grown, grown_reads, takes_first, takes_next}
use Rattle.entries.specs.declared.Entry.{Entry}
use Rattle.asking.specs.Asking.{recorded, recording}
use Rattle.asking.specs.Making.{all_recorded, Made, none_yet, one_more}
use Rattle.asking.proofs.laws.Saying.{recorded_canonical, recorded_fits}

module _ (x : Lent) where
  recorded_more : (qs : List Question) (q : Question) → all_recorded x (qs ++ q ∷ []) ≡ all_recorded x qs ++ recorded x q ∷ []
  recorded_more [] q = refl
  recorded_more (p ∷ qs) q = ap (λ (es : List Entry). recorded x p ∷ es) (recorded_more qs q)

  -- what is recorded can be held, and is the log's own
  pub recording_means : (q : Question) (s : List ℕ) (used : ℕ) (text : List ℕ) → recording x q s used ≡ Ok text → (holdable q ≡ true) × (appending s used (recorded x q) ≡ Ok text)
  unfolding recording
  recording_means q s used text h = by_test (holdable q) (λ e. (e, rw e at h)) (λ e. absurd (clash (rw e at h)))

  -- a question that can be held is recorded where there is room: in a log that is not begun, with its header, and in one that is read
  pub records_first : (q : Question) (s : List ℕ) → holdable q ≡ true → entries_at + entry_size ≤ length s → recording x q s 0 ≡ Ok (header_bytes ++ entry_bytes (recorded x q))
  unfolding recording
  records_first q s can room = rw can (takes_first s (recorded x q) room)

  pub records_next : (q : Question) (s : List ℕ) (used : ℕ) (es : List Entry) → holdable q ≡ true → read_log (take used s) ≡ Ok es → used + entry_size ≤ most_log → used + entry_size ≤ length s
      → recording x q s used ≡ Ok (entry_bytes (recorded x q))
  unfolding recording
  records_next q s used es can read small room = rw can (takes_next s used es (recorded x q) (omega arith) read small room)

  -- the bytes in use, with one question more
  module _ (s : List ℕ) (used : ℕ) (qs : List Question) (q : Question) (text : List ℕ) (held : Holds (take used s) (all_recorded x qs)) (bs : Bytes s) (h : recording x q s used ≡ Ok text) where
    grows : take (used + length text) (sets s used text) ≡ log_bytes (all_recorded x (qs ++ q ∷ []))
    grows = grown s used (recorded x q) text (recording_means q s used text h).1 bs (all_recorded x qs) held ∙ ap log_bytes (sym (recorded_more qs q))

    grows_reads : QuestionFits q → read_log (take (used + length text) (sets s used text)) ≡ Ok (all_recorded x (qs ++ q ∷ []))
    grows_reads f =
        let (can, put) = recording_means q s used text h in
        grown_reads s used (recorded x q) text put bs (all_recorded x qs) held (recorded_fits x q f can) (recorded_canonical x q can)
        ∙ ap Ok (sym (recorded_more qs q))

  pub made_holds : {s : List ℕ} {used : ℕ} {qs : List Question} → Made x s used qs → Holds (take used s) (all_recorded x qs)
  made_holds none_yet = not_begun
  made_holds (one_more {s} {used} {qs} {q} {text} made bs f h) = begun (grows_reads s used qs q text (made_holds made) bs h f)

  -- before the first question nothing is in use; then the bytes in use are the log of the entries, and read back as them
  pub made_is : {s : List ℕ} {used : ℕ} {qs : List Question} → Made x s used qs
      → ((used ≡ 0) × (qs ≡ [])) ⊎ ((take used s ≡ log_bytes (all_recorded x qs)) × (read_log (take used s) ≡ Ok (all_recorded x qs)))
  made_is none_yet = inl (refl, refl)
  made_is (one_more {s} {used} {qs} {q} {text} made bs f h) = inr (grows s used qs q text (made_holds made) bs h, grows_reads s used qs q text (made_holds made) bs h f)
