-- `card::put_header` meets its contract: the numbers are stored behind the front, in order.
-- Assumes nothing.
use mathlib.Core.Path.{◌≡◌, ap, ap₂, ◌∙◌}
use mathlib.Core.List.{List, [], ◌∷◌, ◌++◌}
use Prim.Native.Nat.{ℕ}
use lib.IntN.{ℤ}
use lib.Seq.{sets}
use mir.Syntax.{w32}
use Rattle.whole.specs.laws.Whole.{whole, told, widened}
use Rattle.fields.specs.Fields.{bytes16, bytes32, bits32}
use Rattle.transcript.specs.Heads.{number_of}
use Rattle.card.specs.Layout.{mark, version, start_at, end_at, count_at}
use Rattle.card.specs.Card.{strand_byte, cds_byte, header_text}
use Rattle.card.proofs.put_header.Goals as goal
use Rattle.card.proofs.put_header.Tie as tie
use Rattle.card.proofs.put_header.Lts as lts

pub overflow_cast-strand : goal.overflow_cast-strand
overflow_cast-strand c = search whole

module _ (c : lts.After-slice_known5 tie.the-claims tie.handed_pre tie.handed_post) where
  -- the places after the end, the start, the front and its two bytes were put, and the function's entry
  abbrev at_end : lts.After-put_i322 tie.the-claims tie.handed_pre tie.handed_post
  at_end = c.before.before.before.before.before.before

  abbrev at_start : lts.After-put_i32 tie.the-claims tie.handed_pre tie.handed_post
  at_start = at_end.before.before.before.before.before

  abbrev at_front : lts.After-put_front tie.the-claims tie.handed_pre tie.handed_post
  at_front = at_start.before.before.before.before.before

  abbrev at_cds : lts.After-cds_byte tie.the-claims tie.handed_pre tie.handed_post
  at_cds = at_front.before

  abbrev at_strand : lts.After-strand_byte tie.the-claims tie.handed_pre tie.handed_post
  at_strand = at_cds.before

  abbrev entry : lts.Start tie.the-claims tie.handed_pre tie.handed_post
  entry = at_strand.before.before.before

  strand_is : at_strand.strand_byte.result ≡ strand_byte entry.args.strand
  strand_is = at_strand.strand_byte.ensures ∙ ap strand_byte (widened entry.ranges.strand)

  front_stored : at_front.put_front.new.buffer ≡ sets entry.args.buffer.now 0 (mark ++ bytes16 version ++ strand_byte entry.args.strand ∷ cds_byte entry.args.start entry.args.end ∷ [])
  front_stored =
      at_front.put_front.ensures
      ∙ ap₂ (λ (s d : ℕ). sets entry.args.buffer.now 0 (mark ++ bytes16 version ++ s ∷ d ∷ [])) strand_is at_cds.cds_byte.ensures

  start_stored : at_start.put_i32.new.buf ≡ sets at_front.put_front.new.buffer start_at (bytes32 (bits32 (number_of entry.args.start)))
  start_stored =
      let n = at_start.number_of in
      at_start.put_i32.ensures ∙ ap (λ (z : ℤ). sets at_front.put_front.new.buffer start_at (bytes32 (bits32 z))) (told w32 n.result n.type_inv ∙ n.ensures)

  end_stored : at_end.put_i32-2.new.buf ≡ sets at_start.put_i32.new.buf end_at (bytes32 (bits32 (number_of entry.args.end)))
  end_stored =
      let n = at_end.number_of-2 in
      at_end.put_i32-2.ensures ∙ ap (λ (z : ℤ). sets at_start.put_i32.new.buf end_at (bytes32 (bits32 z))) (told w32 n.result n.type_inv ∙ n.ensures)

pub returns : goal.returns
unfolding header_text
returns c =
    c.put_u16.ensures
    ∙ ap (λ (b : List ℕ). sets b count_at (bytes16 (entry c.before).args.count))
    (end_stored c.before
    ∙ ap (λ (b : List ℕ). sets b end_at (bytes32 (bits32 (number_of (entry c.before).args.end))))
    (start_stored c.before ∙ ap (λ (b : List ℕ). sets b start_at (bytes32 (bits32 (number_of (entry c.before).args.start)))) (front_stored c.before)))
