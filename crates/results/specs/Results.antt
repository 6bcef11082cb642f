-- What the boundary lays out beside the mappings' answers: lengths of texts, parts of alleles, and what building tells. Assumes nothing.
use Rattle.std.specs.Prelude.{ℕ, List, ℤ, length}
use Rattle.refusals.specs.Numbers.{number}
use Rattle.refusals.specs.Outcome.{Outcome, Ok, Err}
use Rattle.transcript.specs.declared.Head.{Head}
use Rattle.lending.specs.Lending.{head_row}
use Rattle.layout.specs.Layout.{star_of}
use Rattle.layout.specs.declared.lay.Length.{Length}
use Rattle.results.specs.declared.Part.{Part}
use Rattle.sequences.specs.declared.Part as alleles

abbrev pub length_laid : ℕ → Length
length_laid n = record { number = 0; length = n }

abbrev pub length_refused : ℕ → Length
length_refused k = record { number = k; length = 0 }

-- a number of elements, words or bytes
abbrev pub counted_laid : Outcome ℕ → Length
counted_laid (Ok n) = length_laid n
counted_laid (Err k) = length_refused (number k)

-- a text that is written
abbrev pub text_laid : Outcome (List ℕ) → Length
text_laid (Ok text) = length_laid (length text)
text_laid (Err k) = length_refused (number k)

-- of the reference (0) or of the alternative (1)
abbrev pub part_laid : alleles.Part → Part
part_laid p = record { alternative = star_of p.alternative; from = p.from; to = p.to }

-- what building tells: 0, or the refusal's number; and the head afterwards, which a refusal leaves
abbrev pub built_number : Outcome Head → ℕ
built_number (Ok h) = 0
built_number (Err k) = number k

abbrev pub built_head : Outcome Head → List ℤ → List ℤ
built_head (Ok h) was = head_row h
built_head (Err k) was = was
