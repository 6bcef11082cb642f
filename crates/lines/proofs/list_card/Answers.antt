-- `lines::list_card` meets its contract: what building has made is listed by its head and its tables, which hold together, and a refusal by its number.
-- Assumes nothing.
use Rattle.std.proofs.Common.{◌≡◌, List, ℕ, ℤ, pos, nat_abs, length, sym, ap, ◌∙◌, arith, SFits, w32}
use Rattle.refusals.specs.Outcome.{Outcome}
use Rattle.whole.specs.Whole.{eq_z}
use Rattle.whole.specs.laws.Whole.{read}
use Rattle.transcript.specs.Heads.{strand_of}
use Rattle.transcript.specs.laws.Heads.{plus_is}
use Rattle.transcript.specs.declared.Head.{Head}
use Rattle.segments.specs.Tables.{tables, tables_of}
use Rattle.judging.specs.Judging.{Made, elements_made}
use Rattle.judging.specs.laws.Accepted.{Sane}
use Rattle.building.specs.Afterwards.{tables_after}
use Rattle.building.proofs.laws.Standing.{Makes, makes, refuses}
use Rattle.card.specs.Writing.{judge_card}
use Rattle.card.specs.laws.Putting.{put_as, put_front}
use Rattle.card.specs.laws.Taken.{card_sane}
use Rattle.lines.specs.Listing.{judgment_text}
use Rattle.lines.proofs.Built.{strand_fits, made_holds, made_listed}
use Rattle.lines.proofs.list_card.Goals as goal
use Rattle.lines.proofs.list_card.Goals.{In-Ok, After-count_in-count}

-- what building has made
module _ (c : In-Ok) where
  abbrev bytes : List ℕ
  bytes = c.args.card.now

  abbrev head : Head
  head = c.in-Ok.head

  makes_head : Makes (judge_card bytes) head
  makes_head = makes (judge_card bytes) head (sym c.build_card.ensures.value ∙ c.in-Ok.is)

  abbrev thing : Made
  thing = makes_head.made

  sane : Sane thing
  sane = card_sane bytes thing makes_head.judged

  strand_is : head.strand ≡ strand_of thing.forward
  strand_is = ap (λ (h : Head). h.strand) makes_head.head_is

  strand_small : SFits w32 head.strand
  strand_small = rw strand_is (strand_fits thing.forward)

  count_is : head.count ≡ pos (length (elements_made thing))
  count_is = ap (λ (h : Head). h.count) makes_head.head_is

  count_small : SFits w32 head.count
  count_small = rw count_is (record { sfits = omega (arith, sane.few) })

  tables_are : tables c.build_card.new.genome c.build_card.new.transcript c.build_card.new.letters ≡ tables_of (elements_made thing)
  tables_are =
      let a = c.args in
      c.build_card.ensures.letters_after ∙ ap (λ (j : Outcome Made). tables_after j (tables a.genome.now a.transcript.now a.letters.now)) makes_head.judged

-- the strand and the count, as they are handed on
module _ (c : After-count_in-count) where
  abbrev known : In-Ok
  known = (goal.at-After-count_in-count c).In-Ok

  forward_is : c.is_plus-forward.result ≡ (thing known).forward
  forward_is =
      c.is_plus-forward.ensures
      ∙ ap (λ (z : ℤ). eq_z z (pos 1)) (read (strand_small known) ∙ strand_is known)
      ∙ plus_is (thing known).forward

  number_is : c.count_in-count.result ≡ length (elements_made (thing known))
  number_is = c.count_in-count.ensures ∙ ap nat_abs (read (count_small known) ∙ count_is known)

pub put_listing-requires : goal.put_listing-requires
put_listing-requires c =
    let n = (goal.at.put_listing-requires c).After-count_in-count in
    let h = (goal.at.put_listing-requires c).In-Ok in
    record { count_le_most_segments = (omega (arith, number_is n, (sane h).few), c.requires); holds = made_holds (thing h) (tables_are h) (number_is n) (sane h) }

pub returns-in-Ok : goal.returns-in-Ok
returns-in-Ok c =
    let n = (goal.at.returns-in-Ok c).After-count_in-count in
    let h = (goal.at.returns-in-Ok c).In-Ok in
    let e = made_listed (thing h) (tables_are h) (number_is n) (forward_is n) ∙ sym (ap judgment_text (makes_head h).judged) in
    let b = c.build_card.ensures in
    let p = c.put_listing.ensures in
    let w = put_front (put_as e p.put) (omega (arith, p.within)) in
    record { value = w.0; within = p.within; buffer_after = w.1; letters_after = b.letters_after; exons_after = b.exons_after }

pub returns-in-Err-clause-buffer_after : goal.returns-in-Err-clause-buffer_after
returns-in-Err-clause-buffer_after c =
    let e = ap judgment_text (refuses (judge_card c.args.card.now) c.in-Err.refusal (sym c.build_card.ensures.value ∙ c.in-Err.is)) in
    (put_front (put_as (sym e) c.put_refusal.ensures.put) (omega (arith, c.put_refusal.ensures.within))).1
