-- A log: what entries are written as, what bytes read as, and what an entry more is written as behind them. Assumes nothing.
use Rattle.std.specs.Prelude.{ℕ, zero, suc, ◌+◌, ◌-◌, ◌/◌, ◌%◌, ◌≡◌, Bool, true, false, ◌&&◌, not, List, [], ◌∷◌, ◌++◌, eqb, ltb, length, get_or, if◌then◌else◌}
use Rattle.std.proofs.lemmas.List.Edits.{sets}
use Rattle.refusals.specs.Numbers.{most_log}
use Rattle.refusals.specs.declared.Refusal.TheVariants.{TooMuch, NoRoom, NoLog}
use Rattle.refusals.specs.Outcome.{Outcome, Ok, Err}
use Rattle.fields.specs.Fields.{le16, bytes16}
use Rattle.journal.specs.Layout.{mark, version, version_at, entries_at}
use Rattle.entries.specs.Layout.{entry_size}
use Rattle.entries.specs.Entries.{entry_bytes, entry_at, EntryFits}
use Rattle.canonical.specs.Canonical.{canonical}
use Rattle.entries.specs.declared.Entry.{Entry}

-- ---- writing

abbrev pub header_bytes : List ℕ
header_bytes = mark ++ bytes16 version

-- entries, one after the other
unfoldable pub entries_bytes : List Entry → List ℕ
entries_bytes [] = []
entries_bytes (e ∷ es) = entry_bytes e ++ entries_bytes es

unfoldable pub log_bytes : List Entry → List ℕ
log_bytes es = header_bytes ++ entries_bytes es

pub data AllFit : List Entry → Type 0 where
  none : AllFit []
  more : {e : Entry} {es : List Entry} → EntryFits e → AllFit es → AllFit (e ∷ es)

-- ---- reading

unfoldable pub is_marked : List ℕ → Bool
is_marked s = eqb (get_or s 0 0) (get_or mark 0 0) && eqb (get_or s 1 0) (get_or mark 1 0) && eqb (get_or s 2 0) (get_or mark 2 0)

-- the first n bytes begin as a log does, and are as long as a header and entries
unfoldable pub is_headed : List ℕ → ℕ → Bool
is_headed s n = if ltb n entries_at then false else is_marked s && eqb (le16 s version_at) version && eqb ((n - entries_at) % entry_size) 0

-- the n entries from a place on
unfoldable pub entries_from : ℕ → List ℕ → ℕ → List Entry
entries_from zero s at = []
entries_from (suc n) s at = entry_at s at ∷ entries_from n s (at + entry_size)

-- how many entries that many bytes are
abbrev pub count_of : ℕ → ℕ
count_of n = (n - entries_at) / entry_size

abbrev pub entries_in : List ℕ → List Entry
entries_in s = entries_from (count_of (length s)) s entries_at

unfoldable pub all_canonical : List Entry → Bool
all_canonical [] = true
all_canonical (e ∷ es) = canonical e && all_canonical es

-- 3, then 35
unfoldable pub read_log : List ℕ → Outcome (List Entry)
read_log s =
    if ltb most_log (length s) then Err TooMuch
    else if not (is_headed s (length s)) then Err NoLog
    else if not (all_canonical (entries_in s)) then Err NoLog
    else Ok (entries_in s)

-- what bytes in use hold: nothing, in a log that is not begun, or the entries that they read as
pub data Holds : List ℕ → List Entry → Type 0 where
  not_begun : Holds [] []
  begun : {s : List ℕ} {es : List Entry} → read_log s ≡ Ok es → Holds s es

-- what the code says of it: how many entries there are
abbrev pub answer_of : Outcome (List Entry) → Outcome ℕ
answer_of (Ok es) = Ok (length es)
answer_of (Err k) = Err k

-- ---- an entry more

-- a text behind the bytes in use: 3, then 20
abbrev pub fitted : ℕ → ℕ → List ℕ → Outcome (List ℕ)
fitted room used text =
    if ltb most_log (used + length text) then Err TooMuch
    else if ltb room (used + length text) then Err NoRoom
    else Ok text

-- what is put behind the bytes in use: 35, then 3, then 20. A log that is not begun gets its header first
unfoldable pub appending : List ℕ → ℕ → Entry → Outcome (List ℕ)
appending s used e =
    if ltb (length s) used then Err NoLog
    else if eqb used 0 then fitted (length s) 0 (header_bytes ++ entry_bytes e)
    else if is_headed s used then fitted (length s) used (entry_bytes e)
    else Err NoLog

-- what the code says of it: how long the log is then
abbrev pub appended_of : ℕ → Outcome (List ℕ) → Outcome ℕ
appended_of used (Ok text) = Ok (used + length text)
appended_of used (Err k) = Err k

-- the lent bytes afterwards: a refusal leaves them as they are
abbrev pub log_after : List ℕ → ℕ → Outcome (List ℕ) → List ℕ
log_after s used (Ok text) = sets s used text
log_after s used (Err k) = s
