-- The refusals' numbers and the limits, each named once: the refusals of document 01 in their order, those of the requests after it. The code's names for them are those of src/lib.rt.
use Rattle.std.specs.Prelude.{ℕ}
use Rattle.refusals.specs.declared.Refusal.{Refusal}
use Rattle.refusals.specs.declared.Refusal.TheVariants.{NoRecords, NoStrand, TooMuch, BadBound, BadOrd, NotAdjacent, NoElement, BadCount, TooLong, NoSegment, HalfCds, BadCds, NotCoding, Outside, NOutside, COutside, TooWide, NoGenome, MissingEnd, NoRoom, NoCard, BadVersion, NotTogether, NoOperation, NoWord, NotSpanning, Falling, NoBase, NoLog}

-- the number of a refusal
abbrev pub number : Refusal → ℕ
number NoRecords = 1
number NoStrand = 2
number TooMuch = 3
number BadBound = 4
number BadOrd = 5
number NotAdjacent = 6
number NoElement = 7
number BadCount = 8
number TooLong = 9
number NoSegment = 10
number HalfCds = 11
number BadCds = 12
number NotCoding = 13
number Outside = 14
number NOutside = 15
number COutside = 16
number TooWide = 17
number NoGenome = 18
number MissingEnd = 19
number NoRoom = 20
number NoCard = 21
number BadVersion = 22
number NotTogether = 23
number NoOperation = 30
number NoWord = 31
number NotSpanning = 32
number Falling = 33
number NoBase = 34
number NoLog = 35

-- the most exon records of a transcript
abbrev pub most_records : ℕ
most_records = 512

-- the most segments of a transcript: the length of the table of letters
abbrev pub most_segments : ℕ
most_segments = 2048

-- the length of a table of starts: one for each segment, and the total
abbrev pub most_starts : ℕ
most_starts = 2049

-- the most bytes of a CIGAR's text
abbrev pub most_text : ℕ
most_text = 4096

-- the most bytes of a card
abbrev pub most_card : ℕ
most_card = 65536

-- the most bytes of a log
abbrev pub most_log : ℕ
most_log = 65536

-- the largest transcript length, and the largest genome end
abbrev pub most_bases : ℕ
most_bases = 2000000000

-- the largest count of an element
abbrev pub most_count : ℕ
most_count = 2147483647

-- the largest count that a BAM word has bits for: 28 of them
abbrev pub most_word_count : ℕ
most_word_count = 268435455
