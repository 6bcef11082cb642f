-- `words::word_of` meets its contract: a count that is not refused has 28 bits, so that its word has 32. Assumes nothing.
use Rattle.std.proofs.Common.{◌≡◌, ℕ, ◌+◌, ◌*◌, ◌≤◌, nat_abs, sym, ap, ap₂, subst, ◌∙◌, arith}
use Rattle.whole.specs.laws.Whole.{read}
use Rattle.refusals.specs.Numbers.{most_word_count}
use Rattle.words.specs.Words.{codes_of_word}
use Rattle.words.specs.laws.RoundTrips.{Held, fault_none}
use Rattle.words.proofs.word_of.Goals as goal
use Rattle.words.proofs.word_of.Goals.{Start, After-unsigned}

-- what is known of the element
held : (c : Start) → Held c.args.count c.args.letter
held c = fault_none c.args.count c.args.letter c.requires

pub unsigned-requires : goal.unsigned-requires
unsigned-requires c = rw (read c.ranges.count) (held (goal.at.unsigned-requires c).Start).whole

pub code_of-requires : goal.code_of-requires
code_of-requires c = (held (goal.at.code_of-requires c).Start).wordable.lettered

-- the length that the word gets
length_is : (c : After-unsigned) → c.unsigned.result ≡ nat_abs c.args.count
length_is c = c.unsigned.ensures ∙ ap nat_abs (read c.ranges.count)

short : (c : After-unsigned) → c.unsigned.result ≤ most_word_count
short c = subst (λ (n : ℕ). n ≤ most_word_count) (sym (length_is c)) (fault_none c.args.count c.args.letter c.requires).wordable.small

pub overflow_mul-result : goal.overflow_mul-result
overflow_mul-result c = let s = short (goal.at.overflow_mul-result c).After-unsigned in omega arith

pub overflow_add-result : goal.overflow_add-result
overflow_add-result c = let s = short (goal.at.overflow_add-result c).After-unsigned in omega arith

pub returns : goal.returns
returns c = ap₂ (λ (n k : ℕ). n * codes_of_word + k) (length_is (goal.at.returns c).After-unsigned) c.code_of.ensures.0
