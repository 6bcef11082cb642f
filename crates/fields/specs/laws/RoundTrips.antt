-- There and back: reading what was written gives the number, and writing what was read gives the bytes.
--     Any width     little_bytes, bytes_little; little_below; drop_bytes, take_bytes
--     Signed        signed_bits, bits_signed, signed_back; bits_fit, signed_fits
--     In a text     le16_stored, le32_stored, signed_stored; byte_laid, bytes16_le, bytes32_le, field_laid; le16_below, le32_below
--     Runs          beside: a run of bytes and the run behind it
-- Assumes nothing.
use Rattle.std.specs.Prelude.{◌≡◌, refl, List, [], ◌∷◌, ◌++◌, ℕ, zero, suc, ◌+◌, ◌-◌, ◌*◌, ◌/◌, ◌%◌, ◌^◌, ◌≤◌, ◌<◌, ℤ, pos, negsuc, length, get_or, take, drop}
use Rattle.std.proofs.Common.{sym, ap₂, ◌∙◌, append_assoc, arith, length-drop, length-take-le, take-add, take_at, drop_at, drop-drop, drop-cons, get_or-drop, lt-ltb, le-ltb, SFits}
use Rattle.std.proofs.Math.Path.{ap}
use Rattle.std.proofs.Math.Nat.{pow-succ'}
use Rattle.std.proofs.Math.Decide.{dec_lt}
use Rattle.std.proofs.lemmas.List.Edits.{sets, sets-eq}
use Rattle.std.specs.Int.{w32}
use Rattle.fields.specs.Fields.{little, bytes, le16, le32, bytes16, bytes32, signed32, bits32}

-- every element is a byte
pub record Bytes (s : List ℕ) : Type 0 where
  pub below : (i : ℕ) → get_or s i 0 < 256

-- ---- any width

-- a number that k bytes hold, written and read
pub little_bytes : (k n : ℕ) → n < 256 ^ k → little (bytes k n) ≡ n
little_bytes zero n h = omega arith
little_bytes (suc k) n h =
    let less : n / 256 < 256 ^ k = omega (arith, pow-succ' 256 k) in
    omega (arith, little_bytes k (n / 256) less)

tail_bytes : {b : ℕ} {s : List ℕ} → Bytes (b ∷ s) → Bytes s
tail_bytes t = record { below = λ i. t.below (suc i) }

-- bytes, read and written
pub bytes_little : (s : List ℕ) → Bytes s → bytes (length s) (little s) ≡ s
bytes_little [] t = refl
bytes_little (b ∷ s) t =
    let byte : b < 256 = t.below 0 in
    let low : (b + 256 * little s) % 256 ≡ b = omega arith in
    let high : (b + 256 * little s) / 256 ≡ little s = omega arith in
    rw (low, high, bytes_little s (tail_bytes t))

-- the last and the first bytes
no_bytes : Bytes []
no_bytes = record { below = λ i. omega arith }

one_more : {b : ℕ} {s : List ℕ} → b < 256 → Bytes s → (i : ℕ) → get_or (b ∷ s) i 0 < 256
one_more h t zero = h
one_more h t (suc i) = t.below i

pub drop_bytes : (k : ℕ) (s : List ℕ) → Bytes s → Bytes (drop k s)
drop_bytes k s t = record { below = λ i. rw get_or-drop (t.below (k + i)) }

pub take_bytes : (k : ℕ) (s : List ℕ) → Bytes s → Bytes (take k s)
take_bytes zero s t = no_bytes
take_bytes (suc k) [] t = no_bytes
take_bytes (suc k) (b ∷ s) t = record { below = one_more (t.below 0) (take_bytes k s (tail_bytes t)) }

-- how large they are as a number
pub little_below : (s : List ℕ) → Bytes s → little s < 256 ^ length s
little_below [] t = omega arith
little_below (b ∷ s) t =
    let byte : b < 256 = t.below 0 in
    omega (arith, pow-succ' 256 (length s), little_below s (tail_bytes t))

-- ---- signed

-- a signed number, as its bits and back
pub signed_bits : (z : ℤ) → SFits w32 z → signed32 (bits32 z) ≡ z
signed_bits (pos n) f = rw (lt-ltb n 2147483648 f.sfits)
signed_bits (negsuc k) f =
    let small : k < 2147483648 = f.sfits in
    rw (le-ltb (4294967295 - k) 2147483648 (omega arith)) (ap negsuc (omega arith))

pub bits_fit : (z : ℤ) → SFits w32 z → bits32 z < 2 ^ 32
bits_fit (pos n) f = let small : n < 2147483648 = f.sfits in omega arith
bits_fit (negsuc k) f = omega arith

-- a signed number's bytes read as the number
pub signed_back : (z : ℤ) → SFits w32 z → signed32 (little (bytes32 (bits32 z))) ≡ z
signed_back z f = ap signed32 (little_bytes 4 (bits32 z) (bits_fit z f)) ∙ signed_bits z f

-- 32 bits, as a signed number and back
pub bits_signed : (n : ℕ) → n < 2 ^ 32 → bits32 (signed32 n) ≡ n
bits_signed n h =
    elim (dec_lt n 2147483648) [
      | yes l ↦ rw (lt-ltb n 2147483648 l)
      | no m ↦ rw (le-ltb n 2147483648 (omega arith)) (omega arith)
    ]

pub signed_fits : (n : ℕ) → n < 2 ^ 32 → SFits w32 (signed32 n)
signed_fits n h =
    elim (dec_lt n 2147483648) [
      | yes l ↦ rw (lt-ltb n 2147483648 l) (record { sfits = l })
      | no m ↦ rw (le-ltb n 2147483648 (omega arith)) (record { sfits = omega arith })
    ]

-- ---- in a text

-- what was stored from a place on stands there
pub stored : (vs s : List ℕ) (at : ℕ) → at + length vs ≤ length s → take (length vs) (drop at (sets s at vs)) ≡ vs
stored vs s at h =
    let front : length (take at s) ≡ at = length-take-le at s (omega arith) in
    rw (sets-eq vs s at h, append_assoc, drop_at (take at s) _ at front) (take_at vs _ (length vs) refl)

-- a number that was stored, read
module _ (s : List ℕ) (at : ℕ) where
  pub le16_stored : (n : ℕ) → at + 2 ≤ length s → n < 65536 → le16 (sets s at (bytes16 n)) at ≡ n
  unfolding le16
  le16_stored n h f = ap little (stored (bytes16 n) s at h) ∙ little_bytes 2 n f

  pub le32_stored : (n : ℕ) → at + 4 ≤ length s → n < 2 ^ 32 → le32 (sets s at (bytes32 n)) at ≡ n
  unfolding le32
  le32_stored n h f = ap little (stored (bytes32 n) s at h) ∙ little_bytes 4 n f

  pub signed_stored : (z : ℤ) → at + 4 ≤ length s → SFits w32 z → signed32 (le32 (sets s at (bytes32 (bits32 z))) at) ≡ z
  signed_stored z h f = ap signed32 (le32_stored (bits32 z) h (bits_fit z f)) ∙ signed_bits z f

-- the k bytes at a place
module _ (k at : ℕ) (s : List ℕ) (h : at + k ≤ length s) (t : Bytes s) where
  part_length : length (take k (drop at s)) ≡ k
  part_length = length-take-le k (drop at s) (rw length-drop (omega arith))

  part_bytes : Bytes (take k (drop at s))
  part_bytes = take_bytes k (drop at s) (drop_bytes at s t)

  part_back : bytes k (little (take k (drop at s))) ≡ take k (drop at s)
  part_back = ap (λ (n : ℕ). bytes n (little (take k (drop at s)))) (sym part_length) ∙ bytes_little (take k (drop at s)) part_bytes

  part_below : little (take k (drop at s)) < 256 ^ k
  part_below = rw part_length at (little_below (take k (drop at s)) part_bytes)

-- a number that was read: its bytes are those that stand there
module _ (s : List ℕ) (at : ℕ) (t : Bytes s) where
  pub byte_laid : at + 1 ≤ length s → bytes 1 (get_or s at 0) ≡ take 1 (drop at s)
  byte_laid h =
      let same : get_or s at 0 % 256 ≡ get_or s at 0 = omega (arith, t.below at) in
      rw (drop-cons s at 0 (omega arith), same)

  pub bytes16_le : at + 2 ≤ length s → bytes16 (le16 s at) ≡ take 2 (drop at s)
  unfolding le16
  bytes16_le h = part_back 2 at s h t

  pub bytes32_le : at + 4 ≤ length s → bytes32 (le32 s at) ≡ take 4 (drop at s)
  unfolding le32
  bytes32_le h = part_back 4 at s h t

  pub le16_below : at + 2 ≤ length s → le16 s at < 65536
  unfolding le16
  le16_below h = part_below 2 at s h t

  pub le32_below : at + 4 ≤ length s → le32 s at < 2 ^ 32
  unfolding le32
  le32_below h = part_below 4 at s h t

  -- a signed number that was read
  pub field_laid : at + 4 ≤ length s → bytes32 (bits32 (signed32 (le32 s at))) ≡ take 4 (drop at s)
  field_laid h = ap bytes32 (bits_signed (le32 s at) (le32_below h)) ∙ bytes32_le h

-- a run of bytes and the run behind it
pub beside : (s : List ℕ) (at a b : ℕ) {l x : List ℕ} → l ≡ take a (drop at s) → x ≡ take b (drop (at + a) s) → l ++ x ≡ take (a + b) (drop at s)
beside s at a b {l} {x} e f =
    ap₂ (λ (y z : List ℕ). y ++ z) e f ∙ sym (take-add a b (drop at s) ∙ ap (λ (z : List ℕ). take a (drop at s) ++ take b z) (drop-drop a at s))

-- worked examples, which compute: 258 is 1 * 256 + 2, and -1 is all ones
two_one : bytes16 258 ≡ 2 ∷ 1 ∷ []
two_one = refl

all_ones : bytes32 (bits32 (negsuc 0)) ≡ 255 ∷ 255 ∷ 255 ∷ 255 ∷ []
all_ones = refl
