-- A number by its bytes, as it is read and written.
--     two_bytes, four_bytes    the numbers at a place by the bytes that stand there
--     low_first                the bytes that std gives a number of 32 bits
-- Assumes nothing.
use Rattle.std.specs.Prelude.{◌≡◌, ℕ, suc, ◌+◌, ◌*◌, ◌/◌, ◌≤◌, List, length, get_or}
use Rattle.std.proofs.Common.{add-one, arith, drop-cons}
use Rattle.std.specs.Int.{w32, to_le_bytes}
use Rattle.fields.specs.Fields.{le16, le32, bytes32}

module _ (s : List ℕ) (at : ℕ) where
  pub two_bytes : at + 2 ≤ length s → le16 s at ≡ get_or s at 0 + 256 * get_or s (at + 1) 0
  unfolding le16
  two_bytes h = rw (add-one at, drop-cons s at 0 (omega arith), drop-cons s (suc at) 0 (omega arith)) (omega arith)

  pub four_bytes : at + 4 ≤ length s → le32 s at ≡ get_or s at 0 + 256 * get_or s (at + 1) 0 + 65536 * get_or s (at + 2) 0 + 16777216 * get_or s (at + 3) 0
  unfolding le32
  four_bytes h =
      let second : at + 1 ≡ suc at = omega arith in
      let third : at + 2 ≡ suc (suc at) = omega arith in
      let last : at + 3 ≡ suc (suc (suc at)) = omega arith in
      rw (
        second,
        third,
        last,
        drop-cons s at 0 (omega arith),
        drop-cons s (suc at) 0 (omega arith),
        drop-cons s (suc (suc at)) 0 (omega arith),
        drop-cons s (suc (suc (suc at))) 0 (omega arith),
      )
      (omega arith)

pub low_first : (n : ℕ) → to_le_bytes w32 n ≡ bytes32 n
low_first n =
    let third : n / 65536 ≡ n / 256 / 256 = omega arith in
    let last : n / 16777216 ≡ n / 256 / 256 / 256 = omega arith in
    rw (third, last)
