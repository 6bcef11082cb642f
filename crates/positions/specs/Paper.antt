-- What the code's structs and enums say, in the paper's terms, where these differ from the code's: a contract sets these values equal to a definition's. The paper's numbers are of any size, the code's of 32 bits. Assumes nothing.
use Rattle.std.specs.Prelude.{ℕ, Bool, cond}
use Rattle.refusals.specs.Outcome.{Outcome, through}
use Rattle.positions.specs.Positions.{Interval, each, NAsked, CAsked, GPosition, NPosition, CPosition}
use Rattle.positions.specs.Answers.{Answer, certain, uncertain, unmarked}
use Rattle.positions.specs.Answers as paper
use Rattle.positions.specs.declared.NAsked as code_n_asked
use Rattle.positions.specs.declared.CAsked as code_c_asked
use Rattle.positions.specs.declared.GPosition as code_g
use Rattle.positions.specs.declared.NPosition as code_n
use Rattle.positions.specs.declared.CPosition as code_c
use Rattle.positions.specs.declared.Marked as code_marked
use Rattle.positions.specs.declared.Marked.{Marked}

-- ---- what is asked

abbrev pub paper_n_asked : code_n_asked.NAsked → NAsked
paper_n_asked a = record { base = a.base; offset = a.offset }

abbrev pub paper_n_question : Interval code_n_asked.NAsked → Interval NAsked
paper_n_question q = each paper_n_asked q

abbrev pub paper_c_asked : code_c_asked.CAsked → CAsked
paper_c_asked a = record { base = record { 0 = a.base; 1 = a.star }; offset = a.offset }

abbrev pub paper_c_question : Interval code_c_asked.CAsked → Interval CAsked
paper_c_question q = each paper_c_asked q

-- ---- what is answered: positions and intervals

abbrev pub paper_g_position : code_g.GPosition → GPosition
paper_g_position a = record { base = a.base }

abbrev pub paper_g_interval : Interval code_g.GPosition → Interval GPosition
paper_g_interval i = each paper_g_position i

abbrev pub paper_n_position : code_n.NPosition → NPosition
paper_n_position a = record { base = a.base; offset = a.offset }

abbrev pub paper_n_interval : Interval code_n.NPosition → Interval NPosition
paper_n_interval i = each paper_n_position i

abbrev pub paper_c_position : code_c.CPosition → CPosition
paper_c_position a = record { base = record { 0 = a.base; 1 = a.star }; offset = a.offset }

abbrev pub paper_c_interval : Interval code_c.CPosition → Interval CPosition
paper_c_interval i = each paper_c_position i

-- one end of an interval, or its refusal
abbrev pub paper_g_end : Outcome code_g.GPosition → Outcome GPosition
paper_g_end a = through paper_g_position a

abbrev pub paper_n_end : Outcome code_n.NPosition → Outcome NPosition
paper_n_end a = through paper_n_position a

abbrev pub paper_c_end : Outcome code_c.CPosition → Outcome CPosition
paper_c_end a = through paper_c_position a

-- ---- answers

-- the code's interval with its mark and its exons
abbrev pub marking : {C : Type 0} → Bool → Interval ℕ → Interval C → Marked C
marking sure exons i = cond sure (code_marked.TheVariants.Certain i exons) (code_marked.TheVariants.Uncertain i exons)

-- an answer across the genome, by what one of its positions says; and one that bears no mark
abbrev pub paper_marked : {C P : Type 0} → (C → P) → Marked C → paper.Marked P
paper_marked says (code_marked.TheVariants.Certain i exons) = record { mark = certain exons; interval = each says i }
paper_marked says (code_marked.TheVariants.Uncertain i exons) = record { mark = uncertain exons; interval = each says i }

abbrev pub paper_unmarked : {C P : Type 0} → (C → P) → Interval C → paper.Marked P
paper_unmarked says i = record { mark = unmarked; interval = each says i }

abbrev pub paper_g : Outcome (Marked code_g.GPosition) → Answer GPosition
paper_g a = through (paper_marked paper_g_position) a

abbrev pub paper_n : Outcome (Marked code_n.NPosition) → Answer NPosition
paper_n a = through (paper_marked paper_n_position) a

abbrev pub paper_c : Outcome (Marked code_c.CPosition) → Answer CPosition
paper_c a = through (paper_marked paper_c_position) a

abbrev pub paper_n_plain : Outcome (Interval code_n.NPosition) → Answer NPosition
paper_n_plain a = through (paper_unmarked paper_n_position) a

abbrev pub paper_c_plain : Outcome (Interval code_c.CPosition) → Answer CPosition
paper_c_plain a = through (paper_unmarked paper_c_position) a
