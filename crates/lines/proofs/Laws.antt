-- Laws of the lines, one after the other.
-- Assumes nothing.
use mathlib.Core.Path.{◌≡◌, refl, ap, ◌∙◌}
use mathlib.Core.List.{List, [], ◌++◌, append-nil, append_assoc}
use Prim.Native.Nat.{ℕ, zero, suc, ◌+◌}
use native.Mathlib.Nat.{add-zero, zero-add}
use native.Mathlib.Omega.{arith}
use native.Mathlib.Numerals.{add-one}
use Rattle.segments.specs.Tables.{Tables}
use Rattle.lines.specs.Tables.{line_at, lines_from}

module _ (a : Tables) where
  -- no line, and one line more at the end
  pub lines_none : (i : ℕ) → lines_from a i 0 ≡ []
  unfolding lines_from
  lines_none i = refl

  lines_last : (i m : ℕ) → lines_from a i (suc m) ≡ lines_from a i m ++ line_at a (i + m)
  unfolding lines_from
  lines_last i zero = rw (append-nil, add-zero)
  lines_last i (suc m) =
      let e : i + 1 + m ≡ i + suc m = omega arith in
      ap (λ (s : List ℕ). line_at a i ++ s) (lines_last (i + 1) m) ∙ rw (e, append_assoc)

  pub lines_more : (m : ℕ) → lines_from a 0 (m + 1) ≡ lines_from a 0 m ++ line_at a m
  lines_more m = rw (add-one m, lines_last 0 m, zero-add)
