-- A day played back: a log that was made over x reads back as what x says to each question, so that nothing differs there; and a text comes from a log that is read, whose differing entries it lists. Assumes nothing.
use Prim.Native.Nat.{ℕ, ◌<◌}
use native.Mathlib.Nat.{zero-add}
use native.Mathlib.Omega.{arith}
use mathlib.Core.Bool.{true, false≢true}
use mathlib.Core.List.{List, [], ◌∷◌, map}
use mathlib.Core.Logic.{⊎_elim}
use mathlib.Core.Path.{◌≡◌, refl, sym, ap, ◌∙◌}
use lib.Dec.{ltb}
use lib.ListN.{length, get_or, take}
use borrow.Author.Tests.{le-ltb}
use Rattle.refusals.specs.Outcome.{Outcome, Ok, Err}
use Rattle.refusals.specs.laws.Outcomes.{clash, same}
use Rattle.whole.specs.laws.Whole.{by_test}
use Rattle.holding.specs.Holding.{Lent, holds}
use Rattle.taking.specs.declared.question.Question.{Question}
use Rattle.journal.specs.Logs.{read_log}
use Rattle.entries.specs.declared.Entry.{Entry}
use Rattle.asking.specs.Asking.{recorded}
use Rattle.asking.proofs.laws.Making.{made_is}
use Rattle.playback.specs.Replay.{is_listed, differs, differing, replay_text, roomed}
use Rattle.playback.proofs.laws.Replay.{AllRecorded, no_entry, one_more, differs_not, differs_says, listed_where, indices_rise, nothing_written, replay_broken, replay_answered, replay_refused}
use Rattle.hosts.specs.Playing.{zero_line, OwnLog0, Lists, ListsDiffering}

all_recorded : (x : Lent) (qs : List Question) → AllRecorded x (map (recorded x) qs)
all_recorded x [] = no_entry
all_recorded x (q ∷ qs) = one_more refl (all_recorded x qs)

pub own_log_0 : OwnLog0
own_log_0 x s used qs room made some held enough =
    replay_answered x (take used s) held room _ reads
    ∙ ap (roomed room) (nothing_written x (all_recorded x qs))
    ∙ rw (le-ltb room (length zero_line) enough)
  where
    reads : read_log (take used s) ≡ Ok (map (recorded x) qs)
    reads = ⊎_elim (λ a. absurd (omega (arith, a.0))) (λ b. b.1) (made_is x made)

lists : (x : Lent) (es : List Entry) → Lists x es (differing x es)
lists x es = record {
  listed = λ k d h l e. false≢true (sym (differs_not x (get_or es k d) e) ∙ sym (at k d h) ∙ l);
  not_listed = λ k d h n. by_test (differs x (get_or es k d)) (λ t. at k d h ∙ t) (λ t. absurd (n (differs_says x (get_or es k d) t)));
  rising = rw (zero-add (length es)) at (indices_rise x 0 es);
}
  where
    at : (k : ℕ) (d : Entry) → k < length es → is_listed k (differing x es) ≡ differs x (get_or es k d)
    at k d h = rw (zero-add k) at (listed_where x 0 k es d h)

pub lists_differing : ListsDiffering
lists_differing x log room text e =
    by_test (holds x) (λ held. go held (read_log log) refl) (λ held. absurd (clash (sym (replay_broken x log room held) ∙ e)))
  where
    fitted : (t : List ℕ) → roomed room t ≡ Ok text → text ≡ t
    fitted t h = by_test (ltb room (length t)) (λ q. absurd (clash (rw q at h))) (λ q. sym (same (rw q at h)))

    go : holds x ≡ true → (o : Outcome (List Entry)) → read_log log ≡ o
        → (es : List Entry) × (indices : List ℕ) × (read_log log ≡ Ok es) × Lists x es indices × (text ≡ replay_text indices)
    go held (Ok es) r = (es, differing x es, r, lists x es, fitted (replay_text (differing x es)) (sym (replay_answered x log held room es r) ∙ e))
    go held (Err k) r = absurd (clash (sym (replay_refused x log held room k r) ∙ e))
