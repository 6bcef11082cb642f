-- The end of a slice that holds one thing everywhere holds it everywhere. Assumes nothing.
use Rattle.std.proofs.Common.{◌≡◌, ℕ, ◌+◌, ◌-◌, ◌≤◌, List, take, drop, replicate, sym, ap, ◌∙◌, arith, take_all, drop_at}
use lib.ListN.{length-replicate, replicate-append-replicate}

pub zeros_end : {A : Type 0} (z : A) (n lent : ℕ) (s : List A) → lent ≤ n → s ≡ replicate n z → take (n - (n - lent)) (drop (n - lent) s) ≡ replicate lent z
zeros_end {A} z n lent s h e =
    let parts : n ≡ (n - lent) + lent = omega arith in
    let two = e ∙ ap (λ (k : ℕ). replicate k z) parts ∙ sym (replicate-append-replicate (n - lent) lent z) in
    let dropped = ap (drop (n - lent)) two ∙ drop_at (replicate (n - lent) z) (replicate lent z) (n - lent) (length-replicate {A = A} (n - lent) z) in
    ap (take (n - (n - lent))) dropped ∙ take_all (n - (n - lent)) (replicate lent z) (omega (arith, length-replicate {A = A} lent z))
