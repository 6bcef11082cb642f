-- The table of refusals, of what is not a question: which numbers building, CIGAR text, BAM's words, a card, a worklist, alleles and a log can give. That of the questions stands in `mapper`. Assumes nothing.
use Rattle.std.specs.Prelude.{ℕ, Bool, List, [], ◌∷◌, ℤ}
use Rattle.refusals.specs.declared.Refusal.{Refusal}
use Rattle.refusals.specs.declared.Refusal.TheVariants.{NoRecords, NoStrand, TooMuch, BadBound, BadOrd, NotAdjacent, NoElement, BadCount, TooLong, NoSegment, HalfCds, BadCds, NoRoom, NoCard, BadVersion, NotTogether, NoOperation, NoWord, NotSpanning, NoBase, NoLog}
use Rattle.refusals.specs.Refusing.{Only}
use Rattle.cigar.specs.Read.{read_text}
use Rattle.spelling.specs.Write.{writing}
use Rattle.words.specs.Words.{read_words, write_words}
use Rattle.transcript.specs.declared.Numbers.{Numbers}
use Rattle.judging.specs.Judging.{judge, judge_length}
use Rattle.card.specs.Writing.{judge_card, card_writing}
use Rattle.holding.specs.Holding.{Lent}
use Rattle.worklist.specs.Worklist.{listed}
use Rattle.worklist.specs.laws.Refusing.{worklist_refusals}
use Rattle.worklist.specs.declared.Slot.{Slot}
use Rattle.positions.specs.Positions.{Interval, GAsked}
use Rattle.strands.specs.Turned.{turning}
use Rattle.taking.specs.declared.question.Question.{Question}
use Rattle.asking.specs.Asking.{recording}
use Rattle.playback.specs.Replay.{replaying}
use Rattle.alleles.specs.Joining.{Alleles, Rooms, joined}
use Rattle.alleles.specs.laws.Refusing.{plain_refusals}

-- txc_read_cigar
abbrev pub reading_refusals : List Refusal
reading_refusals = TooMuch ∷ NoElement ∷ BadCount ∷ []

-- txc_write_cigar
abbrev pub writing_refusals : List Refusal
writing_refusals = TooMuch ∷ NoElement ∷ BadCount ∷ NoRoom ∷ []

-- txc_read_bam
abbrev pub reading_words_refusals : List Refusal
reading_words_refusals = NoOperation ∷ TooMuch ∷ NoRoom ∷ []

-- txc_write_bam
abbrev pub writing_words_refusals : List Refusal
writing_words_refusals = NoElement ∷ NoWord ∷ TooMuch ∷ NoRoom ∷ []

-- txc_turn
abbrev pub turning_refusals : List Refusal
turning_refusals = NoBase ∷ NoRoom ∷ []

-- txc_g_to_c_alleles: the plain mapping's own, and three before them
abbrev pub joining_refusals : List Refusal
joining_refusals = NotTogether ∷ NoBase ∷ NoRoom ∷ plain_refusals

-- txc_record: its question's own refusals stand in the entry
abbrev pub recording_refusals : List Refusal
recording_refusals = NoLog ∷ TooMuch ∷ NoRoom ∷ []

-- txc_replay
abbrev pub replay_refusals : List Refusal
replay_refusals = NotTogether ∷ TooMuch ∷ NoLog ∷ NoRoom ∷ []

-- what building finds in the records once the strand is known
abbrev pub records_refusals : List Refusal
records_refusals = TooMuch ∷ BadBound ∷ BadOrd ∷ NotAdjacent ∷ NoElement ∷ BadCount ∷ TooLong ∷ NoSegment ∷ HalfCds ∷ BadCds ∷ NotSpanning ∷ []

-- txc_build
abbrev pub building_refusals : List Refusal
building_refusals = NoRecords ∷ NoStrand ∷ NoCard ∷ NotTogether ∷ records_refusals

-- txc_build_card: not 2 and not 23, as a card's strand and CDS bits are right where it is a card
abbrev pub card_refusals : List Refusal
card_refusals = NoRecords ∷ NoCard ∷ BadVersion ∷ records_refusals

-- txc_build_length
abbrev pub length_refusals : List Refusal
length_refusals = BadBound ∷ TooLong ∷ HalfCds ∷ BadCds ∷ NotTogether ∷ []

-- txc_write_card
abbrev pub card_writing_refusals : List Refusal
card_writing_refusals = NoRoom ∷ building_refusals

pub record Refusals : Type 0 where
  pub read_cigar : (text : List ℕ) → Only reading_refusals (read_text text)
  pub write_cigar : (number : ℕ) (counts : List ℤ) (letters : List ℕ) (room : ℕ) → Only writing_refusals (writing number counts letters room)
  pub read_bam : (words : List ℕ) (counts_room letters_room : ℕ) → Only reading_words_refusals (read_words words counts_room letters_room)
  pub write_bam : (number : ℕ) (counts : List ℤ) (letters : List ℕ) (room : ℕ) → Only writing_words_refusals (write_words number counts letters room)
  pub build : (n : Numbers) (bytes : List ℕ) → Only building_refusals (judge n bytes)
  pub build_card : (bytes : List ℕ) → Only card_refusals (judge_card bytes)
  pub build_length : (len : ℤ) (bits : ℕ) (start end : ℤ) → Only length_refusals (judge_length len bits start end)
  pub write_card : (n : Numbers) (bytes : List ℕ) (room : ℕ) → Only card_writing_refusals (card_writing n bytes room)
  pub worklist : (x : Lent) (slots : List Slot) → Only worklist_refusals (listed x slots)
  pub turn : (allele : List ℕ) (room : ℕ) → Only turning_refusals (turning allele room)
  pub join : (x : Lent) (strict : Bool) (q : Interval GAsked) (s : Alleles) (room : Rooms) → Only joining_refusals (joined x strict q s room)
  pub record_question : (x : Lent) (q : Question) (log : List ℕ) (used : ℕ) → Only recording_refusals (recording x q log used)
  pub replay : (x : Lent) (log : List ℕ) (room : ℕ) → Only replay_refusals (replaying x log room)
