-- Which refusal of the join comes first, by what the code has at hand. Assumes nothing.
use Rattle.std.specs.Prelude.{ℕ, Bool, false, not, eqb, ltb, if◌then◌else◌}
use Rattle.refusals.specs.declared.Refusal.TheVariants.{NoRoom, NoBase, NotTogether}
use Rattle.refusals.specs.Numbers.{number}
use Rattle.refusals.specs.Outcome.{Outcome, Test, Ok, Err, no_fault}
use Rattle.transcript.specs.declared.Head.{Head}
use Rattle.holding.specs.Holding.{of_records, is_forward}

-- the strand of what is lent
abbrev pub head_reads_back : Head → Bool
head_reads_back h = if of_records h then not (is_forward h) else false

-- a buffer has room for that many bytes
abbrev pub enough : ℕ → ℕ → Bool
enough room n = not (ltb room n)

-- the mapping says that what is lent does not hold together
abbrev pub is_broken : {A : Type 0} → Outcome A → Bool
is_broken (Ok a) = false
is_broken (Err k) = eqb (number k) (number NotTogether)

-- its own refusal
abbrev pub own : {A : Type 0} → Outcome A → Test
own (Ok a) = no_fault
own (Err k) = Err k

-- which comes after 34 and 20, but for 23, which comes before
abbrev pub first_refusal : {A : Type 0} → Outcome A → Bool → Bool → Test
first_refusal told bases room = if is_broken told then Err NotTogether else (if bases then (if room then own told else Err NoRoom) else Err NoBase)
