-- Each word is the field itself, which a wider number holds.
use mir.Syntax.{w32}
use mir.Val.{Fits, SFits}
use Rattle.whole.specs.laws.Whole.{read, fits_wider, widened}
use Rattle.whole.specs.laws.Machine.{entry}
use borrow.Author.Rules.{rules}
use Rattle.comparing.proofs.answers.of_answer.Goals as goal

pub overflow_cast-result-3 : goal.overflow_cast-result-3
overflow_cast-result-3 c = let z : SFits w32 c.args.a.start.base = record { sfits = c.struct_told-1.given.0.1 } in simp (read z) (fits_wider z)

pub overflow_cast-result-4 : goal.overflow_cast-result-4
overflow_cast-result-4 c = let z : SFits w32 c.args.a.start.offset = record { sfits = c.struct_told-2-1.given.1.0.1 } in simp (read z) (fits_wider z)

pub overflow_cast-result-7 : goal.overflow_cast-result-7
overflow_cast-result-7 c = let z : SFits w32 c.args.a.end.base = record { sfits = c.struct_told-3-1.given.0.1 } in simp (read z) (fits_wider z)

pub overflow_cast-result-8 : goal.overflow_cast-result-8
overflow_cast-result-8 c = let z : SFits w32 c.args.a.end.offset = record { sfits = c.struct_told-4-1.given.1.0.1 } in simp (read z) (fits_wider z)

pub returns : goal.returns
returns c =
    let a = c.args.a in
    let number : Fits w32 a.number = search rules in
    let mark : Fits w32 a.mark = search rules in
    let base : SFits w32 a.start.base = record { sfits = c.struct_told-1.given.0.1 } in
    let offset : SFits w32 a.start.offset = record { sfits = c.struct_told-2-1.given.1.0.1 } in
    let star : Fits w32 a.start.star = search rules in
    let exon : Fits w32 a.start.exon = search rules in
    let base₂ : SFits w32 a.end.base = record { sfits = c.struct_told-3-1.given.0.1 } in
    let offset₂ : SFits w32 a.end.offset = record { sfits = c.struct_told-4-1.given.1.0.1 } in
    let star₂ : Fits w32 a.end.star = search rules in
    let exon₂ : Fits w32 a.end.exon = search rules in
    simp (entry number, entry mark, widened base, widened offset, entry star, entry exon, widened base₂, widened offset₂, entry star₂, entry exon₂)
