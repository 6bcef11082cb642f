-- Each place of the genome's span lies in an element, so demand 2 leaves out the bases of an I, and those of an N that is not between matched columns, and no others. Assumes nothing.
use Prim.Native.Nat.{ℕ, ◌-◌, ◌<◌}
use native.Mathlib.Omega.{arith}
use mathlib.Core.List.{List, [], ◌∷◌}
use mathlib.Core.Path.{refl, ap}
use lib.Dec.{ltb}
use borrow.Author.Tests.{ltb-true, ltb-false}
use Rattle.whole.specs.laws.Whole.{by_test}
use Rattle.cigar.specs.Elements.{Element, genome, total}
use Rattle.promises.specs.Bases.{Lies}

pub lies : (es : List Element) (p : ℕ) → p < total genome es → Lies es p
unfolding total
lies [] p h = absurd (omega arith)
lies (x ∷ xs) p h =
    by_test (ltb p (genome x))
    (λ t. record { before = []; element = x; after = xs; stands = refl; at = p; within = ltb-true p (genome x) t; place = omega arith })
    (λ t.
    let past = ltb-false p (genome x) t in
    let r = lies xs (p - genome x) (omega arith) in
    record { before = x ∷ r.before; element = r.element; after = r.after; stands = ap (λ (l : List Element). x ∷ l) r.stands; at = r.at; within = r.within; place = omega (arith, r.place) })
