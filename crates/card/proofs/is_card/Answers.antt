-- `card::is_card` meets its contract: the tests that led to each `return` are those of `is_card`.
-- Assumes nothing.
use mathlib.Core.Path.{◌≡◌, sym, ap, ap₂, ◌∙◌}
use mathlib.Core.Bool.{Bool, ◌&&◌}
use mathlib.Core.List.{List}
use Prim.Native.Nat.{ℕ, ◌-◌}
use lib.ListN.{length, take, drop, length-drop}
use lib.Seq.{take_all}
use native.Mathlib.Omega.{arith}
use mir.Syntax.{w32}
use borrow.Author.Tests.{le-leb, lt-leb}
use Rattle.whole.specs.laws.Whole.{told}
use Rattle.records.specs.Records.{exactly}
use Rattle.transcript.specs.Heads.{both_bits}
use Rattle.card.specs.Layout.{records_at}
use Rattle.card.specs.Card.{are_plain, is_card}
use Rattle.transcript.specs.declared.Numbers.{Numbers}
use Rattle.card.proofs.Reading.{card_is}
use Rattle.card.proofs.is_card.Goals as goal
use Rattle.card.proofs.is_card.Goals.{After-are_plain}

pub returns-then-card-lt-RECORDS_AT : goal.returns-then-card-lt-RECORDS_AT
unfolding is_card
returns-then-card-lt-RECORDS_AT c = rw (lt-leb _ _ c.if-card-lt-RECORDS_AT.true)

pub returns-then-card-gt1 : goal.returns-then-card-gt1
unfolding is_card
returns-then-card-gt1 c = rw (le-leb _ _ c.if-card-lt-RECORDS_AT.false, lt-leb _ _ c.if-card-gt1.true)

pub returns-then-n-gt-BOTH_BITS : goal.returns-then-n-gt-BOTH_BITS
returns-then-n-gt-BOTH_BITS c =
    rw (card_is c.args.card.now c.read_numbers-n.ensures c.if-card-lt-RECORDS_AT.false c.if-card-gt1.false, lt-leb _ _ c.if-n-gt-BOTH_BITS.true)

-- what is left of the tests once the numbers are read
module _ (c : After-are_plain) where
  abbrev bytes : List ℕ
  bytes = c.args.card.now

  abbrev numbers : Numbers
  numbers = c.read_numbers-n.result

  plain_is : are_plain numbers.cds numbers.start numbers.end ≡ c.are_plain.result
  plain_is =
      let fit = c.struct_told-2-1.given.1.1 in
      sym (c.are_plain.ensures ∙ ap₂ (are_plain numbers.cds) (told w32 numbers.start fit.0.1) (told w32 numbers.end fit.1.0.1))

  tests : is_card bytes ≡ (c.are_plain.result && exactly numbers.count (drop records_at bytes) 0)
  tests =
      card_is bytes c.read_numbers-n.ensures c.if-card-lt-RECORDS_AT.false c.if-card-gt1.false
      ∙ rw (le-leb numbers.cds both_bits c.if-n-gt-BOTH_BITS.false, plain_is)

pub returns-then-are_plain : goal.returns-then-are_plain
returns-then-are_plain c =
    let here = (goal.at.returns-then-are_plain c).After-are_plain in
    let whole : take (length (bytes here) - records_at) (drop records_at (bytes here)) ≡ drop records_at (bytes here) = take_all (length (bytes here) - records_at) (drop records_at (bytes here)) (omega (arith, length-drop records_at (bytes here))) in
    c.are_records.ensures ∙ ap (λ (l : List ℕ). exactly (numbers here).count l 0) whole
    ∙ sym (tests here ∙ ap (λ (t : Bool). t && exactly (numbers here).count (drop records_at (bytes here)) 0) c.if-are_plain.true)

pub returns : goal.returns
returns c =
    let here = (goal.at.returns c).After-are_plain in
    sym (tests here ∙ ap (λ (t : Bool). t && exactly (numbers here).count (drop records_at (bytes here)) 0) c.if-are_plain.false)
