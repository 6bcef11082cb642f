-- How far a list of elements goes, by its parts. Assumes nothing.
use Rattle.std.specs.Prelude.{◌+◌, ◌≡◌}
use Rattle.std.proofs.Common.{arith}
use mathlib.Core.List.{List, [], ◌∷◌, ◌++◌, reverse, reverse_aux}
use Rattle.cigar.specs.Elements.{Element, Side, total}

pub total_append : (a : Side) (xs ys : List Element) → total a (xs ++ ys) ≡ total a xs + total a ys
unfolding total
total_append a [] ys = omega arith
total_append a (x ∷ xs) ys = omega (arith, total_append a xs ys)

total_onto : (a : Side) (xs ys : List Element) → total a (reverse_aux xs ys) ≡ total a xs + total a ys
unfolding total
total_onto a [] ys = omega arith
total_onto a (x ∷ xs) ys = omega (arith, total_onto a xs (x ∷ ys))

pub total_reverse : (a : Side) (xs : List Element) → total a (reverse xs) ≡ total a xs
unfolding total
total_reverse a xs = omega (arith, total_onto a xs [])
