-- The steps of the short way, which a question about one base goes. Assumes nothing.
use Rattle.std.specs.Prelude.{ℕ, Bool, List, ◌≡◌, ℤ, get_or, Option, Some, None}
use Rattle.numbering.specs.Numbers.{place_of_n}
use Rattle.segments.specs.Places.{Spot}
use Rattle.refusals.specs.declared.Refusal.TheVariants.{NotCoding}
use Rattle.refusals.specs.Outcome.{Outcome, Err}
use Rattle.transcript.specs.Transcript.{Cds, no_cds, cds}
use Rattle.positions.specs.Positions.{Interval, CAsked, NPosition, CPosition, asks_n}
use Rattle.positions.specs.Answers.{chain, plainly}
use Rattle.coding.specs.Coding.{one_to_c, map_n_to_c, map_c_to_n}
use Rattle.spots.specs.Mapping.{turned}
use Rattle.lone.specs.Lone.{n_once, g_once, Seen}
use Rattle.lone.specs.declared.Sought.{Sought}
use Rattle.spots.specs.declared.Alignment.{Alignment}
use Rattle.layout.specs.Layout.{g_laid, n_laid, c_laid, laid}
use Rattle.layout.specs.declared.lay.Answer.{Answer}

-- the answers of a base with the spot s, by a table of the transcript's starts and one of exon numbers: in n.; in c.; and in g., with the number's own offset
abbrev pub sure_n : Alignment → List ℕ → List ℕ → Spot → Answer
sure_n a transcript exons s = laid n_laid (n_once a transcript exons s)

abbrev pub sure_c : Bool → Alignment → List ℕ → List ℕ → Cds → Spot → Answer
sure_c strict a transcript exons coding s = laid c_laid (chain asks_n (n_once a transcript exons s) (map_n_to_c strict (get_or transcript a.count 0) coding))

abbrev pub sure_g : Alignment → List ℕ → Spot → ℤ → Answer
sure_g a exons s o = laid g_laid (g_once a exons s o)

-- one n. position in c.: 13, 15, 17
abbrev pub one_coded : Bool → ℕ → Cds → NPosition → Outcome CPosition
one_coded strict len no_cds n = Err NotCoding
one_coded strict len (cds s e) n = one_to_c strict len s e (asks_n n)

-- ---- a base that is sought by its name, which is both ends of a c. interval

-- the interval's n. position, which is both its ends too and has the name's own offset, and its place p in a transcript with that table of starts
pub record Named (strict : Bool) (a : Alignment) (starts : List ℕ) (coding : Cds) (q : Interval CAsked) (p : ℤ) : Type 0 where
  pub at : NPosition
  pub both : map_c_to_n strict (get_or starts a.count 0) coding q ≡ plainly (record { from = at; to = at })
  pub own : at.offset ≡ q.from.offset
  pub place : p ≡ turned a.forward (get_or starts a.count 0) (place_of_n at.base)

-- it is that place, where it was seen
abbrev pub SoughtName : Bool → Alignment → List ℕ → Cds → Interval CAsked → Option Sought → Type 0
SoughtName strict a starts coding q (Some s) = Named strict a starts coding q s.place.0 × Seen starts a.count s.place.0 s.number
SoughtName strict a starts coding q None = Unit
