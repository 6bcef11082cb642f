-- Which refusals a question to what is lent can give in strict mode, where that is less than `mapper`'s row: 17 is then given by n. to g. and c. to g. alone. Assumes nothing.
use Rattle.refusals.specs.declared.Refusal.{Refusal}
use Rattle.std.specs.Prelude.{true, List, [], ◌∷◌, ◌≡◌}
use Rattle.refusals.specs.declared.Refusal.TheVariants.{NotCoding, Outside, NOutside, COutside, NoGenome, MissingEnd, NotTogether}
use Rattle.refusals.specs.Refusing.{Only}
use Rattle.whole.specs.Fits.{fits}
use Rattle.holding.specs.Holding.{Lent, checked}
use Rattle.positions.specs.Positions.{Interval, GAsked, NAsked, CAsked}
use Rattle.mapper.specs.Asking.{ask_g_to_n, ask_n_to_c, ask_c_to_n, ask_g_to_c}
use Rattle.promises.specs.Demands.{strict}

abbrev pub strict_g_to_n : List Refusal
strict_g_to_n = Outside ∷ NoGenome ∷ MissingEnd ∷ NotTogether ∷ []

abbrev pub strict_n_to_c : List Refusal
strict_n_to_c = NotCoding ∷ NOutside ∷ NotTogether ∷ []

abbrev pub strict_c_to_n : List Refusal
strict_c_to_n = NotCoding ∷ COutside ∷ NotTogether ∷ []

-- 15 is left: a base behind the transcript's last can lie within the genome's span
abbrev pub strict_g_to_c : List Refusal
strict_g_to_c = NotCoding ∷ Outside ∷ NOutside ∷ NoGenome ∷ MissingEnd ∷ NotTogether ∷ []

-- an offset that is asked has 32 bits, as those of the code have
pub record StrictRefusals : Type 0 where
  pub g_to_n : (x : Lent) (q : Interval GAsked) → Only strict_g_to_n (checked x (ask_g_to_n strict q))
  pub n_to_c : (x : Lent) (q : Interval NAsked) → fits q.from.offset ≡ true → fits q.to.offset ≡ true → Only strict_n_to_c (checked x (ask_n_to_c strict q))
  pub c_to_n : (x : Lent) (q : Interval CAsked) → fits q.from.offset ≡ true → fits q.to.offset ≡ true → Only strict_c_to_n (checked x (ask_c_to_n strict q))
  pub g_to_c : (x : Lent) (q : Interval GAsked) → Only strict_g_to_c (checked x (ask_g_to_c strict q))
