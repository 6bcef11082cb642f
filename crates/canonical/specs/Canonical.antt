-- The questions and answers that an entry can hold. Every other entry is 35: `holdable` and `sayable` have the reasons one by one, and there is no other.
-- Assumes nothing.
use Rattle.std.specs.Prelude.{ℕ, Bool, true, ◌&&◌, ◌||◌, List, [], ◌∷◌, eqb, ltb, leb, ℤ, pos, if◌then◌else◌}
use Rattle.std.specs.List.{list_any}
use Rattle.refusals.specs.declared.Refusal.{Refusal}
use Rattle.refusals.specs.declared.Refusal.TheVariants.{NotCoding, Outside, NOutside, COutside, TooWide, NoGenome, MissingEnd, NotTogether}
use Rattle.refusals.specs.Numbers.{number}
use Rattle.whole.specs.Whole.{eq_z}
use Rattle.taking.specs.Questions.{map_g_to_n, map_n_to_g, map_n_to_c, map_c_to_n, map_g_to_c, map_c_to_g, from_g, from_c, to_g, to_c, is_plain, is_star, is_missing}
use Rattle.taking.specs.declared.question.Question.{Question}
use Rattle.taking.specs.declared.question.Kind.{Kind}
use Rattle.taking.specs.declared.question.Kind.TheVariants.{GToN, NToG, NToC, CToN, GToC, CToG}
use Rattle.layout.specs.declared.lay.Position.{Position}
use Rattle.layout.specs.declared.lay.Answer.{Answer}
use Rattle.entries.specs.declared.Entry.{Entry}

abbrev pub is_zero : ℤ → Bool
is_zero z = eq_z z (pos 0)

-- a only where b
infix 40 ◌only◌
abbrev pub ◌only◌ : Bool → Bool → Bool
a only b = if a then b else true

-- the number of a kind
abbrev pub kind_number : Kind → ℕ
kind_number GToN = map_g_to_n
kind_number NToG = map_n_to_g
kind_number NToC = map_n_to_c
kind_number CToN = map_c_to_n
kind_number GToC = map_g_to_c
kind_number CToG = map_c_to_g

-- ---- a question

-- star and missing together
abbrev pub both_marks : ℕ
both_marks = 3

-- an end of a question. 35: marks of no such value; a star outside c.; a missing mark outside g.; an offset on g.; a number under a missing mark
unfoldable pub end_holdable : ℕ → ℕ → ℤ → ℤ → Bool
end_holdable kind marks base offset =
    leb marks both_marks
    && is_star marks only from_c kind
    && is_missing marks only from_g kind
    && from_g kind only is_zero offset
    && is_missing marks only is_zero base

-- 35 also: a kind above 5; strict above 1
unfoldable pub holdable : Question → Bool
holdable q =
    leb q.kind map_c_to_g
    && leb q.strict 1
    && end_holdable q.kind q.start_marks q.start q.start_offset
    && end_holdable q.kind q.end_marks q.end q.end_offset

-- ---- what is said to it

-- the refusals that a kind can give, strict or not
unfoldable pub refusals_of : ℕ → List Refusal
refusals_of kind =
    if eqb kind map_g_to_n then Outside ∷ TooWide ∷ NoGenome ∷ MissingEnd ∷ NotTogether ∷ []
    else if eqb kind map_n_to_g then Outside ∷ TooWide ∷ NoGenome ∷ NotTogether ∷ []
    else if eqb kind map_n_to_c then NotCoding ∷ NOutside ∷ TooWide ∷ NotTogether ∷ []
    else if eqb kind map_c_to_n then NotCoding ∷ COutside ∷ TooWide ∷ NotTogether ∷ []
    else if eqb kind map_g_to_c then NotCoding ∷ Outside ∷ NOutside ∷ TooWide ∷ NoGenome ∷ MissingEnd ∷ NotTogether ∷ []
    else NotCoding ∷ COutside ∷ TooWide ∷ NoGenome ∷ NotTogether ∷ []

-- a number is that of one of ks
abbrev pub is_number_of : ℕ → List Refusal → Bool
is_number_of n ks = list_any (λ k. eqb n (number k)) ks

-- the tags, which are an answer's marks: refused, certain, uncertain, unmarked
abbrev pub refused_tag : ℕ
refused_tag = 0

abbrev pub certain_tag : ℕ
certain_tag = 1

abbrev pub uncertain_tag : ℕ
uncertain_tag = 2

abbrev pub unmarked_tag : ℕ
unmarked_tag = 3

-- an answer's tag of the kind: n. to c. and back are unmarked, and the others certain or uncertain
unfoldable pub tag_of_kind : ℕ → ℕ → Bool
tag_of_kind kind tag =
    if is_plain kind then eqb tag unmarked_tag
    else eqb tag certain_tag || eqb tag uncertain_tag

-- exons are counted from 1 in an answer to or from g., and there is none in the others
unfoldable pub exon_of_kind : ℕ → ℕ → Bool
exon_of_kind kind exon = if is_plain kind then eqb exon 0 else ltb 0 exon

-- an end of an answer. 35: a star of no such value; a star outside c.; an offset on g.; exon 0 in an answer to or from g.; an exon in another
unfoldable pub end_sayable : ℕ → Position → Bool
end_sayable kind p =
    leb p.star 1
    && eqb p.star 1 only to_c kind
    && to_g kind only is_zero p.offset
    && exon_of_kind kind p.exon

-- no answer beside a refusal
unfoldable pub is_nowhere : Position → Bool
is_nowhere p = is_zero p.base && is_zero p.offset && eqb p.star 0 && eqb p.exon 0

-- what may stand beside a question of a kind. 35: a refusal that the kind cannot give, or an answer beside it; a tag above 3 or not of the kind; a refusal beside an answer
unfoldable pub sayable : ℕ → Answer → Bool
sayable kind a =
    if eqb a.mark refused_tag then is_number_of a.number (refusals_of kind) && is_nowhere a.start && is_nowhere a.end
    else tag_of_kind kind a.mark && eqb a.number 0 && end_sayable kind a.start && end_sayable kind a.end

unfoldable pub canonical : Entry → Bool
canonical e = holdable e.question && sayable e.question.kind e.answer
