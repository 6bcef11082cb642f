-- The tests on the way to each kind of row are those of the definitions.
use Rattle.std.proofs.Common.{refl, ap, ◌∙◌, ap₂, le-ltb, lt-ltb}
use Rattle.rows.specs.Rows.{expected}
use Rattle.comparing.specs.Changes.{change_words}
use Rattle.vectors.specs.Replay.{agreed, head_next, tables_next, exons_next}
use Rattle.vectors.proofs.agrees.Goals as goal

pub returns-then-call-lt-BUILD_CARD : goal.returns-then-call-lt-BUILD_CARD
unfolding agreed head_next tables_next exons_next
returns-then-call-lt-BUILD_CARD c = rw (← c.call-call.ensures, lt-ltb _ _ c.if-call-lt-BUILD_CARD.true) record { value = refl; head_after = refl; letters_after = refl; exons_after = refl }

pub returns-then-call-lt-G_TO_N : goal.returns-then-call-lt-G_TO_N
unfolding agreed head_next tables_next exons_next
returns-then-call-lt-G_TO_N c =
    let row = c.args.row.now in
    let e = c.answered-words.ensures in
    rw (← c.call-call.ensures, le-ltb _ _ c.if-call-lt-BUILD_CARD.false, lt-ltb _ _ c.if-call-lt-G_TO_N.true) record {
      value = c.expects.ensures ∙ ap (expected row) (e.value ∙ ap₂ (change_words row) e.head_after e.letters_after);
      head_after = e.head_after;
      letters_after = e.letters_after;
      exons_after = e.exons_after;
    }

pub returns-then-call-lt-READ_CIGAR : goal.returns-then-call-lt-READ_CIGAR
unfolding agreed head_next tables_next exons_next
returns-then-call-lt-READ_CIGAR c =
    let row = c.args.row.now in
    rw (← c.call-call.ensures, le-ltb _ _ c.if-call-lt-BUILD_CARD.false, le-ltb _ _ c.if-call-lt-G_TO_N.false, lt-ltb _ _ c.if-call-lt-READ_CIGAR.true) record {
      value = c.expects-then-call-lt-READ_CIGAR.ensures ∙ ap (expected row) c.answered-words-then-call-lt-READ_CIGAR.ensures;
      head_after = refl;
      letters_after = refl;
      exons_after = refl;
    }

pub returns-then-call-lt-READ_BAM : goal.returns-then-call-lt-READ_BAM
unfolding agreed head_next tables_next exons_next
returns-then-call-lt-READ_BAM c = rw (← c.call-call.ensures, le-ltb _ _ c.if-call-lt-BUILD_CARD.false, le-ltb _ _ c.if-call-lt-G_TO_N.false, le-ltb _ _ c.if-call-lt-READ_CIGAR.false, lt-ltb _ _ c.if-call-lt-READ_BAM.true) record { value = c.agrees.ensures; head_after = refl; letters_after = refl; exons_after = refl }

pub returns : goal.returns
unfolding agreed head_next tables_next exons_next
returns c = rw (← c.call-call.ensures, le-ltb _ _ c.if-call-lt-BUILD_CARD.false, le-ltb _ _ c.if-call-lt-G_TO_N.false, le-ltb _ _ c.if-call-lt-READ_CIGAR.false, le-ltb _ _ c.if-call-lt-READ_BAM.false) record { value = c.agrees-2.ensures; head_after = refl; letters_after = refl; exons_after = refl }
