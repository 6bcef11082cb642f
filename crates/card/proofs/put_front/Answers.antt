-- `card::put_front` meets its contract: each byte is stored once, in order.
-- Assumes nothing.
use mathlib.Core.Path.{◌≡◌, ap, ◌∙◌}
use mathlib.Core.List.{List, [], ◌∷◌, ◌++◌}
use Prim.Native.Nat.{ℕ}
use lib.ListN.{length, set}
use lib.Seq.{sets, length-sets}
use Rattle.fields.specs.Fields.{bytes16}
use Rattle.card.specs.Layout.{mark, version, version_at, strand_at, cds_at}
use Rattle.card.proofs.put_front.Goals as goal
use Rattle.card.proofs.put_front.Goals.{After-slice_known-3-1}

module _ (c : After-slice_known-3-1) where
  stored : set (set c.put_u16.new.buf strand_at c.args.strand) cds_at c.args.cds
      ≡ sets c.args.buffer.now 0 (mark ++ bytes16 version ++ c.args.strand ∷ c.args.cds ∷ [])
  stored =
      ap (λ (b : List ℕ). set (set b strand_at c.args.strand) cds_at c.args.cds)
      (c.put_u16.ensures ∙ ap (λ (b : List ℕ). sets b version_at (bytes16 version)) c.put_mark.ensures)

pub shape_of-buffer : goal.shape_of-buffer
shape_of-buffer c =
    ap length (stored c) ∙ length-sets c.args.buffer.now 0 (mark ++ bytes16 version ++ c.args.strand ∷ c.args.cds ∷ [])

pub returns : goal.returns
returns c = stored c
