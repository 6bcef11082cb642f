-- The three units and the crossings between them, as the document has them. All numbers are whole numbers, ℤ.
use Rattle.std.specs.Prelude.{true, false, ℤ, pos, ◌+ℤ◌, ◌-ℤ◌, if◌then◌else◌}
use Rattle.std.specs.Int.Signed.{le_z, lt_z}
use Rattle.numbering.specs.declared.CNumber.{CNumber}

-- Zero-based to n.: at 0 or above add 1, below 0 keep.
unfoldable pub n_of_place : ℤ → ℤ
n_of_place p =
    if le_z (pos 0) p then p +ℤ pos 1
    else p

-- Back: at 1 or above take 1 off, otherwise keep.
unfoldable pub place_of_n : ℤ → ℤ
place_of_n n =
    if le_z (pos 1) n then n -ℤ pos 1
    else n

-- a c. number without a star, and one with it
abbrev pub plain_c : ℤ → CNumber
plain_c b = record { 0 = b; 1 = false }

abbrev pub star_c : ℤ → CNumber
star_c b = record { 0 = b; 1 = true }

-- n. to c., with CDS start s and end e, number b. b <= s: b - s, less 1 more if b > 0. s < b <= e: b - s. b > e: star, b - e.
unfoldable pub c_of_n : ℤ → ℤ → ℤ → CNumber
c_of_n s e b =
    if le_z b s then (if lt_z (pos 0) b then plain_c (b -ℤ s -ℤ pos 1) else plain_c (b -ℤ s))
    else if le_z b e then plain_c (b -ℤ s)
    else star_c (b -ℤ e)

-- The last step of c. to n.: if the result is 0 or less, take 1 off.
unfoldable pub skip_zero : ℤ → ℤ
skip_zero r =
    if le_z r (pos 0) then r -ℤ pos 1
    else r

-- c. to n.: plain b gives b + s, plus 1 if b < 0; star b gives b + e. Then if the result is 0 or less, take 1 off.
unfoldable pub n_of_c : ℤ → ℤ → CNumber → ℤ
n_of_c s e c =
    if c.1 then skip_zero (c.0 +ℤ e)
    else if lt_z c.0 (pos 0) then skip_zero (c.0 +ℤ s +ℤ pos 1)
    else skip_zero (c.0 +ℤ s)
