-- What is shown of slices and their parts: a slice is its pointer, its count and what lies there, and a part of it has the like.
--     one_slice        two slices that are the same in `Slice` are one to the machine: the same pointer, and the same count beside it
--     changed_bytes    what the part that changed holds
-- Assumes nothing.
use mathlib.Core.Path.{◌≡◌, refl, ap}
use mathlib.Core.Bool.{Bool, true, false, cond}
use mathlib.Core.List.{List, [], ◌∷◌}
use Prim.Native.Nat.{ℕ}
use denote.Ref.{Bor}
use denote.Slice.{slice_val, shr_slice_vals}
use Rattle.sequences.specs.Alleles.{changed_part, stretch, changed_of}
use Rattle.sequences.specs.Slices.{Slice, slice_of, size, part_of}

pub one_slice : (s t : Bor (List ℕ)) → slice_of s ≡ slice_of t → shr_slice_vals s ≡ shr_slice_vals t
one_slice s t e = ap (λ (x : Slice). slice_val (x.block, x.at) (size x) ∷ []) e

chosen_bytes : (t : Bool) (r a : Slice) → (cond t a r).bytes ≡ cond t a.bytes r.bytes
chosen_bytes true r a = refl
chosen_bytes false r a = refl

pub changed_bytes : (r a : Slice) → (part_of (changed_part r.bytes a.bytes) r a).bytes ≡ changed_of r.bytes a.bytes
unfolding changed_of
changed_bytes r a =
    let k = changed_part r.bytes a.bytes in
    ap (λ (s : List ℕ). stretch s k.from k.to) (chosen_bytes k.alternative r a)
