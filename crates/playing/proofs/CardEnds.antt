-- Where an input's card ends, by what the code says of it.
-- Assumes nothing.
use mathlib.Core.Path.{◌≡◌}
use mathlib.Core.List.{List}
use Prim.Native.Nat.{ℕ, ◌+◌, ◌-◌, ◌≤◌}
use native.Mathlib.Omega.{arith}
use borrow.Author.Tests.{ltb-false}
use lib.Dec.{ltb}
use lib.ListN.{length}
use Rattle.refusals.specs.Numbers.{most_card}
use Rattle.refusals.specs.Outcome.{Ok}
use Rattle.refusals.specs.laws.Outcomes.{clash, same}
use Rattle.whole.specs.laws.Whole.{by_test}
use Rattle.fields.specs.Fields.{le32}
use Rattle.playing.specs.Played.{size_bytes, card_end}

pub record Ends (s : List ℕ) (to : ℕ) : Type 0 where
  pub outcome : card_end s ≡ Ok to
  pub after : size_bytes ≤ to
  pub within : to ≤ length s

inside : (s : List ℕ) (to : ℕ) → card_end s ≡ Ok to → (size_bytes ≤ to) × (to ≤ length s)
unfolding card_end
inside s to e =
    by_test (ltb (length s) size_bytes)
    (λ a. absurd (clash (simp a at e)))
    (λ a. by_test (ltb most_card (le32 s 0))
    (λ b. absurd (clash (simp (a, b) at e)))
    (λ b. by_test (ltb (length s - size_bytes) (le32 s 0))
    (λ d. absurd (clash (simp (a, b, d) at e)))
    (λ d.
    let at : size_bytes + le32 s 0 ≡ to = same (simp (a, b, d) at e) in
    (omega arith, omega (arith, ltb-false (length s) size_bytes a, ltb-false (length s - size_bytes) (le32 s 0) d)))))

pub ends : (s : List ℕ) (to : ℕ) → card_end s ≡ Ok to → Ends s to
ends s to e = record { outcome = e; after = (inside s to e).0; within = (inside s to e).1 }
