-- A CIGAR that is read with little room reads alike with more. Assumes nothing.
use Prim.Native.Nat.{ℕ, ◌+◌, ◌-◌, ◌*◌, ◌≤◌}
use native.Mathlib.Omega.{arith}
use mathlib.Core.Bool.{Bool, true, false}
use mathlib.Core.List.{List, [], ◌∷◌}
use mathlib.Core.Path.{◌≡◌, refl, ap}
use lib.Dec.{ltb, eqb}
use borrow.Author.Tests.{eqb-false, ne_eqb}
use Rattle.refusals.specs.Numbers.{most_count}
use Rattle.refusals.specs.Outcome.{Ok, Err, Answered}
use Rattle.whole.specs.laws.Whole.{by_test}
use Rattle.cigar.specs.Elements.{Element, is_letter}
use Rattle.cigar.specs.Text.{Reading, is_digit, count_of, element, before, taken, read_from}

rest_read : (e : Element) (r : Reading) → Answered (before e r) → Answered r
rest_read e (Ok es) ok = ok
rest_read e (Err k) ok = ok

module _ (room more : ℕ) (enough : room ≤ more) where
  taken_alike : (e : Element) (r r' : Reading) → (Answered r → r' ≡ r) → Answered (taken room e r) → taken more e r' ≡ taken room e r
  taken_alike e r r' alike =
      by_test (ltb most_count e.count)
      (λ t. rw t (λ bad. absurd bad))
      (λ t.
      by_test (eqb room 0)
      (λ u. rw (t, u) (λ bad. absurd bad))
      (λ u.
      let some : eqb more 0 ≡ false = ne_eqb more 0 (λ z. eqb-false room 0 u (omega arith)) in
      rw (t, u, some) (λ ok. ap (before e) (alike (rest_read e r ok)))))

pub reads_alike : (s : List ℕ) (room more : ℕ) → room ≤ more → (given : Bool) (n : ℕ) → Answered (read_from room given n s) → read_from more given n s ≡ read_from room given n s
unfolding read_from
reads_alike [] room more enough given n = λ ok. refl
reads_alike (b ∷ s) room more enough given n =
    by_test (is_digit b)
    (λ d. rw d (reads_alike s room more enough true (n * 10 + (b - 48))))
    (λ d.
    by_test (is_letter b)
    (λ l. rw (d, l) (taken_alike room more enough (element (count_of given n) b) (read_from (room - 1) false 0 s) (read_from (more - 1) false 0 s) (reads_alike s (room - 1) (more - 1) (omega arith) false 0)))
    (λ l. rw (d, l) (λ bad. absurd bad)))
