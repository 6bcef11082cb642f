-- What is left of an allele where it stands, and what is left of it as the transcript reads it.
--     part_read, part_length    turned, or as it stands, the one is the other, and as long
--     part_bases                it is of bases where the allele is
--     rooms_say                 buffers that have room are as long
-- Assumes nothing.
use Prim.Native.Nat.{ℕ, ◌≤◌}
use mathlib.Core.Bool.{Bool, true, not, false≢true}
use mathlib.Core.List.{List}
use mathlib.Core.Path.{◌≡◌, sym, ap, ◌∙◌}
use native.Mathlib.Decide.{dec_lt}
use native.Mathlib.Omega.{arith}
use lib.ListN.{length}
use borrow.Author.Tests.{lt-ltb}
use Rattle.whole.specs.laws.Whole.{both}
use Rattle.strands.specs.declared.Removed.{Removed}
use Rattle.sequences.specs.Slices.{Slice}
use Rattle.strands.specs.Turned.{are_bases, on_strand}
use Rattle.strands.specs.Trimmed.{removed_of, left_of, left_at}
use Rattle.strands.specs.laws.Turning.{on_strand_length}
use Rattle.strands.specs.laws.Trimming.{left_read, left_bases}
use Rattle.alleles.specs.Joining.{Rooms, Trimmed}
use Rattle.alleles.specs.Deciding.{enough}
use Rattle.alleles.specs.laws.Ordering.{have_room}

module _ (b strand : Bool) (r a : List ℕ) (gone : Removed) (s t : Slice) (eb : b ≡ strand) (eg : gone ≡ removed_of (on_strand b r) (on_strand b a)) (et : t ≡ left_at b gone s) where
  pub part_read : on_strand b t.bytes ≡ left_of (removed_of (on_strand strand r) (on_strand strand a)) (on_strand strand s.bytes)
  part_read =
      ap (λ (u : Slice). on_strand b u.bytes) et
      ∙ left_read gone s b
      ∙ ap (λ (g : Removed). left_of g (on_strand b s.bytes)) eg
      ∙ ap (λ (d : Bool). left_of (removed_of (on_strand d r) (on_strand d a)) (on_strand d s.bytes)) eb

  pub part_length : length t.bytes ≡ length (left_of (removed_of (on_strand strand r) (on_strand strand a)) (on_strand strand s.bytes))
  part_length = sym (on_strand_length b t.bytes) ∙ ap length part_read

pub part_bases : (b : Bool) (gone : Removed) (s t : Slice) → t ≡ left_at b gone s → are_bases s.bytes ≡ true → are_bases t.bytes ≡ true
part_bases b gone s t et h = ap (λ (u : Slice). are_bases u.bytes) et ∙ left_bases gone s b h

room_says : (room n : ℕ) → enough room n ≡ true → n ≤ room
room_says room n e =
    elim (dec_lt room n) [
      | yes l ↦ absurd (false≢true (sym (ap not (lt-ltb room n l)) ∙ e))
      | no m ↦ omega arith
    ]

pub rooms_say : (room : Rooms) (t : Trimmed) → have_room room t ≡ true → (length t.left.reference ≤ room.reference) × (length t.left.alternative ≤ room.alternative)
rooms_say room t e =
    let m = length t.left.reference in
    let n = length t.left.alternative in
    let (f, g) = both (enough room.reference m) (enough room.alternative n) e in
    (room_says room.reference m f, room_says room.alternative n g)
