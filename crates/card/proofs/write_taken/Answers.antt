-- The card's size is known first, so that a refusal stores nothing; then the header is stored, and the records behind it. Assumes nothing.
use Rattle.std.specs.Prelude.{Option}
use Rattle.refusals.specs.Outcome.{Ok}
use mathlib.Core.Path.{◌≡◌, refl, sym, ap, ◌∙◌}
use mathlib.Core.List.{List}
use Prim.Native.Nat.{ℕ, ◌+◌, ◌≤◌, ◌<◌}
use native.Mathlib.Omega.{arith}
use borrow.Author.Tests.{lt-ltb, le-ltb}
use lib.IntN.{ℤ}
use lib.ListN.{length}
use lib.Seq.{sets}
use mir.Syntax.{w32}
use Rattle.refusals.specs.Numbers.{most_card}
use Rattle.whole.specs.laws.Whole.{told}
use Rattle.fields.specs.laws.RoundTrips.{Bytes}
use Rattle.cigar.specs.laws.Lent.{sets_front}
use Rattle.cigar.specs.laws.Stores.{sets_append}
use Rattle.transcript.specs.Heads.{start_of, end_of}
use Rattle.transcript.specs.declared.Numbers.{Numbers}
use Rattle.judging.specs.Input.{input_of}
use Rattle.card.specs.Layout.{records_at}
use Rattle.card.specs.Card.{header_text, card_text}
use Rattle.card.specs.laws.Taken.{text_is, text_length}
use Rattle.card.proofs.write_taken.Goals as goal
use Rattle.card.proofs.write_taken.Tie as tie
use Rattle.card.proofs.write_taken.Lts as lts

-- the card, and its size
module _ (c : lts.After-shared_slice_known tie.the-claims tie.handed_pre tie.handed_post tie.handed_clauses) where
  abbrev entry : lts.Start tie.the-claims tie.handed_pre tie.handed_post tie.handed_clauses
  entry = c.before

  abbrev text : List ℕ
  text = card_text (input_of entry.args.numbers entry.args.records.now)

  bytes : Bytes entry.args.records.now
  bytes = record { below = λ i. (c.shared_slice_known-1.given i).fits }

  size_is : length text ≡ records_at + length entry.args.records.now
  size_is = text_length entry.args.numbers entry.args.records.now bytes entry.requires.1

pub returns-then-size-gt-MOST_CARD : goal.returns-then-size-gt-MOST_CARD
returns-then-size-gt-MOST_CARD c =
    let e = c.before.before.before in
    let large : most_card < length (text e) = omega (arith, size_is e) in
    rw (lt-ltb _ _ large) record { value = refl; buffer_after = refl }

pub returns-then-buffer-size : goal.returns-then-buffer-size
returns-then-buffer-size c =
    let e = c.before.before.before.before in
    let small : length (text e) ≤ most_card = omega (arith, size_is e) in
    let long : length (entry e).args.buffer.now < length (text e) = omega (arith, size_is e) in
    rw (le-ltb _ _ small, lt-ltb _ _ long) record { value = refl; buffer_after = refl }

same_header : (n : ℕ) {z w : ℤ} {a b x y : Option ℤ} → z ≡ w → a ≡ b → x ≡ y → header_text z a x n ≡ header_text w b y n
same_header n e f g = rw (e, f, g)

-- what is stored in the end
module _ (c : lts.After-slice_known3 tie.the-claims tie.handed_pre tie.handed_post tie.handed_clauses) where
  abbrev at_header : lts.After-put_header tie.the-claims tie.handed_pre tie.handed_post tie.handed_clauses
  at_header = c.before.before.before.before.before.before

  abbrev at_end : lts.After-end_of tie.the-claims tie.handed_pre tie.handed_post tie.handed_clauses
  at_end = at_header.before.before.before.before

  abbrev at_start : lts.After-start_of tie.the-claims tie.handed_pre tie.handed_post tie.handed_clauses
  at_start = at_end.before.before

  abbrev known : lts.After-shared_slice_known tie.the-claims tie.handed_pre tie.handed_post tie.handed_clauses
  known = at_start.before.before.before.before.before

  abbrev n : Numbers
  n = (entry known).args.numbers

  abbrev header : List ℕ
  header = header_text n.strand (start_of n.cds n.start) (end_of n.cds n.end) n.count

  header_stored : at_header.put_header.new.buffer ≡ sets (entry known).args.buffer.now 0 header
  header_stored =
      at_header.put_header.ensures
      ∙ ap (sets (entry known).args.buffer.now 0)
      (same_header n.count (told w32 n.strand at_header.struct_told-3-1.given.0.1)
      (at_start.start_of-from.ensures ∙ ap (start_of n.cds) (told w32 n.start at_start.struct_told-1.given.1.1.0.1))
      (at_end.end_of-to.ensures ∙ ap (end_of n.cds) (told w32 n.end at_end.struct_told-2-1.given.1.1.1.0.1)))

  stored : c.put_bytes.new.buffer ≡ sets (entry known).args.buffer.now 0 (text known)
  unfolding header_text
  stored =
      c.put_bytes.ensures
      ∙ ap (λ (b : List ℕ). sets b records_at (entry known).args.records.now) header_stored
      ∙ sym
      (ap (sets (entry known).args.buffer.now 0) (text_is n (entry known).args.records.now (bytes known) (entry known).requires.1)
      ∙ sets_append header (entry known).args.records.now (entry known).args.buffer.now 0)

pub returns : goal.returns
returns c =
    let e = known c.before in
    let small : length (text e) ≤ most_card = omega (arith, size_is e) in
    let room : length (text e) ≤ length (entry e).args.buffer.now = omega (arith, size_is e) in
    rw (le-ltb _ _ small, le-ltb _ _ room)
    record { value = ap Ok (sym (size_is e)); buffer_after = stored c.before ∙ sets_front (text e) (entry e).args.buffer.now room }
