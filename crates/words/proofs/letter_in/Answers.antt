-- `words::letter_in` meets its contract: its letters are BAM's with I and D exchanged, and past their end both give 0. Assumes nothing.
use Rattle.std.proofs.Common.{◌≡◌, map, get_or, ◌∙◌, arith}
use Rattle.std.proofs.lemmas.Grind.{common_steps}
use Rattle.std.proofs.Math.ListN.{get_or-map}
use Rattle.words.specs.Words.{bam_letters, exchanged, letter_of, code_in}
use Rattle.words.proofs.letter_in.Goals as goal

pub returns : goal.returns
unfolding letter_of
returns c =
    let read : c.unwrap_or.result ≡ get_or (map exchanged bam_letters) (code_in c.args.word) 0 = grind (arith, common_steps) in
    read ∙ get_or-map exchanged bam_letters (code_in c.args.word) 0
