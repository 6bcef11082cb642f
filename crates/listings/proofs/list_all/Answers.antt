-- Each turn lists the card whose size it read; where none is left, all are listed, and where a write fails, those up to here.
use Rattle.std.proofs.Common.{◌≡◌, ◌+◌, ◌-◌, ℕ, refl, ap, arith, take, drop}
use Rattle.std.specs.Prelude.{Result, Ok, Err, OnErr}
use Rattle.segments.specs.Tables.{tables}
use Rattle.listings.proofs.Listed.{begun, one_more, no_size, past_end, some}
use Rattle.listings.proofs.list_all.Goals as goal

on_err : {A E : Type 0} {P : Type 0} (r : Result A E) → P → OnErr r P
on_err (Ok a) p = tt
on_err (Err e) p = p

pub loop-at-init : goal.loop-at-init
loop-at-init g c = record { room = refl; listed = begun _ _ _ _ }

pub returns-then-cards-from-clause-letters_after : goal.returns-then-cards-from-clause-letters_after
returns-then-cards-from-clause-letters_after g c = (past_end c.loop-at.invariant.listed _ c.u32_at-size.ensures c.loop-at-test.true c.if-cards-from.true).tables_are

pub returns-then-cards-from-clause-exons_after : goal.returns-then-cards-from-clause-exons_after
returns-then-cards-from-clause-exons_after g c = (past_end c.loop-at.invariant.listed _ c.u32_at-size.ensures c.loop-at-test.true c.if-cards-from.true).exons_are

pub returns-then-cards-from-clause-text_after : goal.returns-then-cards-from-clause-text_after
returns-then-cards-from-clause-text_after g c = (past_end c.loop-at.invariant.listed _ c.u32_at-size.ensures c.loop-at-test.true c.if-cards-from.true).text_is

pub returns-in_err-write_all-clause-err : goal.returns-in_err-write_all-clause-err
returns-in_err-write_all-clause-err g c =
    let from = c.loop-at.at + 4 in
    let size : from + c.u32_at-size.result - from ≡ c.u32_at-size.result = omega arith in
    let e = c.list_card-n.ensures in
    on_err c.from_residual.result
    (some
    (one_more c.loop-at.invariant.listed c.u32_at-size.result c.u32_at-size.ensures c.loop-at-test.true c.if-cards-from.false
    _
    (ap (λ (n : ℕ). take n (drop from c.args.cards.now)) size)
    {t' = tables c.list_card-n.new.genome c.list_card-n.new.transcript c.list_card-n.new.letters}
    e.letters_after
    e.exons_after
    e.buffer_after))

pub loop-at-preserved : goal.loop-at-preserved
loop-at-preserved g c =
    let from = c.loop-at.at + 4 in
    let size : from + c.u32_at-size.result - from ≡ c.u32_at-size.result = omega arith in
    let e = c.list_card-n.ensures in
    record {
      room = omega arith;
      listed =
          one_more c.loop-at.invariant.listed c.u32_at-size.result c.u32_at-size.ensures c.loop-at-test.true c.if-cards-from.false
          _
          (ap (λ (n : ℕ). take n (drop from c.args.cards.now)) size)
          {t' = tables c.list_card-n.new.genome c.list_card-n.new.transcript c.list_card-n.new.letters}
          e.letters_after
          e.exons_after
          e.buffer_after;
    }

pub returns-clause-letters_after : goal.returns-clause-letters_after
returns-clause-letters_after g c = (no_size c.loop-at.invariant.listed c.loop-at-test.false).tables_are

pub returns-clause-exons_after : goal.returns-clause-exons_after
returns-clause-exons_after g c = (no_size c.loop-at.invariant.listed c.loop-at-test.false).exons_are

pub returns-clause-text_after : goal.returns-clause-text_after
returns-clause-text_after g c = (no_size c.loop-at.invariant.listed c.loop-at-test.false).text_is
