-- The alleles are the two parts of the row's bytes.
use Rattle.std.proofs.Common.{ap, ◌∙◌}
use Rattle.sequences.specs.Slices.{Slice}
use Rattle.rows.specs.Rows.{expected}
use Rattle.vectors.proofs.texts.alleles_agree.Goals as goal

pub returns : goal.returns
returns c =
    let words =
    simp (c.first-reference.ensures, ap (λ (s : Slice). s.bytes) c.rest-alternative.ensures, c.payload-bytes.ensures, c.size-size.ensures, c.call.ensures)
    at c.of_alleles.ensures in
    c.expects.ensures ∙ ap (expected c.args.row.now) words
