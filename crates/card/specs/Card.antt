-- A card: what building's input is written as, and what bytes read as. Assumes nothing.
use Rattle.std.specs.Prelude.{ℕ, ◌+◌, ◌*◌, Bool, ◌&&◌, not, List, [], ◌∷◌, ◌++◌, eqb, ltb, leb, ℤ, pos, length, get_or, drop, if◌then◌else◌, Some, None, Option}
use Rattle.refusals.specs.Numbers.{most_card}
use Rattle.refusals.specs.declared.Refusal.TheVariants.{TooMuch, NoCard, BadVersion}
use Rattle.refusals.specs.Outcome.{Outcome, Ok, Err}
use Rattle.whole.specs.Whole.{eq_z}
use Rattle.fields.specs.Fields.{le16, bytes16, bytes32, bits32}
use Rattle.records.specs.Records.{Record, field_at, record_text, exactly}
use Rattle.transcript.specs.Heads.{both_bits, start_of, end_of, strand_of, number_of}
use Rattle.transcript.specs.declared.Numbers.{Numbers}
use Rattle.judging.specs.Input.{Input, input_of}
use Rattle.card.specs.Layout.{mark, version, version_at, strand_at, cds_at, start_at, end_at, count_at, records_at}

-- ---- writing

-- 0 plus, 1 minus
abbrev pub strand_byte : ℤ → ℕ
strand_byte z = if eq_z z (pos 1) then 0 else 1

-- bit 0 start given, bit 1 end given
abbrev pub given_bit : Option ℤ → ℕ
given_bit (Some z) = 1
given_bit None = 0

abbrev pub cds_byte : Option ℤ → Option ℤ → ℕ
cds_byte start end = given_bit start + 2 * given_bit end

-- records, one after the other
unfoldable pub records_text : List Record → List ℕ
records_text [] = []
records_text (r ∷ rs) = record_text r ++ records_text rs

-- what stands before n records
unfoldable pub header_text : ℤ → Option ℤ → Option ℤ → ℕ → List ℕ
header_text strand start end n =
    mark
    ++ bytes16 version
    ++ strand_byte strand ∷ cds_byte start end ∷ []
    ++ bytes32 (bits32 (number_of start))
    ++ bytes32 (bits32 (number_of end))
    ++ bytes16 n

unfoldable pub card_text : Input → List ℕ
card_text i = header_text i.strand i.start i.end (length i.records) ++ records_text i.records

-- ---- reading

-- there is a version, and the mark is right
unfoldable pub is_marked : List ℕ → Bool
is_marked s =
    leb strand_at (length s)
    && (eqb (get_or s 0 0) (get_or mark 0 0) && (eqb (get_or s 1 0) (get_or mark 1 0) && eqb (get_or s 2 0) (get_or mark 2 0)))

-- the numbers before the records
unfoldable pub numbers_in : List ℕ → Numbers
numbers_in s = record {
  strand = strand_of (eqb (get_or s strand_at 0) 0);
  cds = get_or s cds_at 0;
  start = field_at s start_at;
  end = field_at s end_at;
  count = le16 s count_at;
}

-- the number of a bound that is not given is 0
unfoldable pub are_plain : ℕ → ℤ → ℤ → Bool
are_plain cds start end = eq_z (number_of (start_of cds start)) start && eq_z (number_of (end_of cds end)) end

-- all else: the strand byte is 0 or 1, the CDS byte has no other bits, the bounds' numbers are plain, the records are just as many as the count says, and nothing follows
unfoldable pub is_card : List ℕ → Bool
is_card s =
    leb records_at (length s)
    && (leb (get_or s strand_at 0) 1
    && (leb (get_or s cds_at 0) both_bits
    && (are_plain (get_or s cds_at 0) (field_at s start_at) (field_at s end_at)
    && exactly (le16 s count_at) (drop records_at s) 0)))

-- document 01's order: 3 (size), 21 (under 5 bytes or wrong mark), 22, 21 (all else)
unfoldable pub read_card : List ℕ → Outcome Numbers
read_card s =
    if ltb most_card (length s) then Err TooMuch
    else if not (is_marked s) then Err NoCard
    else if not (eqb (le16 s version_at) version) then Err BadVersion
    else if not (is_card s) then Err NoCard
    else Ok (numbers_in s)

-- ---- what a card says

-- the input of a card's numbers and of the bytes behind them
abbrev pub input_in : List ℕ → Numbers → Input
input_in s n = input_of n (drop records_at s)

-- an input, or the number of a refusal
abbrev pub said : List ℕ → Outcome Numbers → Outcome Input
said s (Ok m) = Ok (input_in s m)
said s (Err k) = Err k

abbrev pub card_says : List ℕ → Outcome Input
card_says s = said s (read_card s)
