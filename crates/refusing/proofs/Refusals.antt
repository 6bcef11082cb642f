-- The table of refusals holds: each judgment is a chain of tests, and a test gives one number of its row or lets the rest decide. Assumes nothing.
use Rattle.std.specs.Prelude.{if◌then◌else◌, Some, None, Option}
use Prim.Native.Nat.{ℕ, zero, suc, ◌+◌, ◌-◌, ◌*◌, min}
use native.Mathlib.Omega.{arith}
use mathlib.Core.Bool.{Bool, true, false, cond, not, ◌&&◌, ◌||◌, false≢true}
use mathlib.Core.List.{List, [], ◌∷◌, ◌++◌}
use mathlib.Core.Path.{◌≡◌, refl, sym, ap₂, ◌∙◌}
use lib.Dec.{eqb, ltb}
use lib.IntN.{ℤ, pos, negsuc, nat_abs}
use lib.ListN.{length, drop, get_or}
use lib.Signed.{lt_z}
use borrow.Author.Tests.{eqb-true, ltb-true}
use Rattle.refusals.specs.Numbers.{number, most_word_count, most_count, most_segments, most_text, most_records, most_bases, most_card, most_log}
use Rattle.refusals.specs.declared.Refusal.{Refusal}
use Rattle.refusals.specs.declared.Refusal.TheVariants.{NoRecords, NoStrand, TooMuch, NoElement, BadCount, HalfCds, BadCds, NoRoom, NoCard, NotTogether, NoOperation, NotSpanning, NoBase, NoLog}
use Rattle.refusals.specs.Outcome.{Outcome, Ok, Err, Test, no_fault, and_then, unless}
use Rattle.refusals.specs.Refusing.{one_of, Only}
use Rattle.refusals.specs.laws.Outcomes.{clash}
use Rattle.refusals.specs.laws.Refusing.{only_through, only_both, only_then}
use Rattle.whole.specs.Whole.{eq_z}
use Rattle.whole.specs.laws.Whole.{by_test, both}
use Rattle.fields.specs.Fields.{le16}
use Rattle.cigar.specs.Elements.{is_letter}
use Rattle.cigar.specs.Text.{Reading, is_digit, count_of, read_from}
use Rattle.cigar.specs.Read.{read_text}
use Rattle.spelling.specs.Write.{elements_text, given_from, elements_given, fitted, text_of, writing}
use Rattle.words.specs.Words.{all_known, read_words, fault_of, fault_from, write_words}
use Rattle.records.specs.Records.{Record, exactly}
use Rattle.records.specs.Faults.{◌or_else◌, span_fault, start_fault, rise_fault, join_fault, own_fault, follow_fault, pair_fault, faults_after, faults}
use Rattle.transcript.specs.Heads.{both_bits, start_of, end_of, strand_of}
use Rattle.transcript.specs.laws.Heads.{plus_is}
use Rattle.transcript.specs.declared.Numbers.{Numbers}
use Rattle.reading.specs.Reading.{Exons, is_spanned, spanning, followed_by, read_first, read_next, exons_after, exons_of}
use Rattle.judging.specs.Input.{Input, input_of}
use Rattle.judging.specs.Judging.{Made, half_fault, range_fault, cds_fault, last_fault, length_fault, judge_exons, judge_on, judge_input, judge, judge_length}
use Rattle.positions.specs.laws.Refusing.{only_if, only_unless}
use Rattle.card.specs.Layout.{version, version_at, strand_at, cds_at, count_at, records_at}
use Rattle.card.specs.Card.{read_card, numbers_in, input_in, card_text, is_marked, is_card}
use Rattle.card.specs.Writing.{judge_read, judge_card, if_taken, card_writing}
use Rattle.card.specs.laws.RoundTrips.{IsCard, read_means}
use Rattle.worklist.specs.laws.Refusing.{worklist_refuses}
use Rattle.knowing.specs.laws.Known.{same_refusal}
use Rattle.holding.specs.Holding.{Lent}
use Rattle.positions.specs.Positions.{Interval, GAsked, CPosition}
use Rattle.positions.specs.Answers.{Answer}
use Rattle.mapper.specs.Asking.{ask_g_to_c}
use Rattle.mapper.specs.laws.Refusing.{checked_only}
use Rattle.strands.specs.Turned.{are_bases, on_strand, read_on, fitting, turning}
use Rattle.alleles.specs.Joining.{Alleles, alleles, Rooms, read_both, trimmed, fitting_both, beside, joined_with, reads_back, ask_joined, joined}
use Rattle.alleles.specs.laws.Refusing.{plain_refusals, plain_only}
use Rattle.taking.specs.declared.question.Question.{Question}
use Rattle.canonical.specs.Canonical.{holdable}
use Rattle.entries.specs.Entries.{entry_bytes}
use Rattle.journal.specs.Logs.{header_bytes, is_headed, all_canonical, entries_in, read_log, fitted as behind, appending}
use Rattle.entries.specs.declared.Entry.{Entry}
use Rattle.asking.specs.Asking.{recorded, recording}
use Rattle.playback.specs.Replay.{replayed, roomed, replaying}
use Rattle.refusing.specs.Refusals.{Refusals, reading_refusals, writing_refusals, reading_words_refusals, writing_words_refusals, records_refusals, building_refusals, card_refusals, length_refusals, card_writing_refusals, turning_refusals, joining_refusals, recording_refusals, replay_refusals}

-- ---- rows

-- each refusal of a row stands in another
abbrev all_of : List Refusal → List Refusal → Bool
all_of [] ls = true
all_of (k ∷ ks) ls = one_of k ls && all_of ks ls

by_number : (ls : List Refusal) (k l : Refusal) → number k ≡ number l → one_of k ls ≡ one_of l ls
by_number [] k l e = refl
by_number (x ∷ xs) k l e = ap₂ (λ (n : ℕ) (t : Bool). eqb n (number x) || t) e (by_number xs k l e)

in_wider : (ks ls : List Refusal) → all_of ks ls ≡ true → (k : Refusal) → one_of k ks ≡ true → one_of k ls ≡ true
in_wider [] ls all k h = absurd (false≢true h)
in_wider (x ∷ xs) ls all k h =
    let (first, others) = both (one_of x ls) (all_of xs ls) all in
    by_test (eqb (number k) (number x))
    (λ t. by_number ls k x (eqb-true (number k) (number x) t) ∙ first)
    (λ t. in_wider xs ls others k (rw t at h))

done : {A : Type 0} {ks : List Refusal} (a : A) → Only ks (Ok a)
done a = record { only = tt }

fine : {ks : List Refusal} → Only ks no_fault
fine = done tt

refused : {A : Type 0} {ks : List Refusal} {k : Refusal} → one_of k ks ≡ true → Only {A = A} ks (Err k)
refused h = record { only = h }

wider : {A : Type 0} (ks ls : List Refusal) (o : Outcome A) → all_of ks ls ≡ true → Only ks o → Only ls o
wider ks ls (Ok a) all h = done _
wider ks ls (Err k) all h = record { only = in_wider ks ls all k h.only }

-- ---- CIGAR text

read_only : (room : ℕ) (given : Bool) (n : ℕ) (text : List ℕ) → Only reading_refusals (read_from room given n text)
unfolding read_from
read_only room true n [] = record { only = refl }
read_only room false n [] = done _
read_only room given n (b ∷ s) =
    by_test (is_digit b)
    (λ t. rw t (read_only room true (n * 10 + (b - 48)) s))
    (λ t. rw t (only_if reading_refusals (is_letter b) NoElement _
    (only_unless reading_refusals (ltb most_count (count_of given n)) BadCount _
    (only_unless reading_refusals (eqb room 0) TooMuch _ (only_through reading_refusals _ _ (read_only (room - 1) false 0 s)) (λ e. refl)) (λ e. refl)) (λ e. refl)))

text_only : (text : List ℕ) → Only reading_refusals (read_text text)
unfolding read_text
text_only text = only_unless reading_refusals (ltb most_text (length text)) TooMuch _ (read_only most_segments false 0 text) (λ e. refl)

given_only : (counts : List ℤ) (letters : List ℕ) (i m : ℕ) → Only reading_refusals (given_from counts letters i m)
unfolding given_from
given_only counts letters i zero = done []
given_only counts letters i (suc m) =
    only_unless reading_refusals (not (is_letter (get_or letters i 0))) NoElement _
    (only_unless reading_refusals (lt_z (get_or counts i (pos 0)) (pos 0)) BadCount _ (only_through reading_refusals _ _ (given_only counts letters (i + 1) m)) (λ e. refl)) (λ e. refl)

writing_only : (number : ℕ) (counts : List ℤ) (letters : List ℕ) (room : ℕ) → Only writing_refusals (writing number counts letters room)
unfolding writing
writing_only number counts letters room =
    only_unless writing_refusals (ltb most_segments number) TooMuch _ (go (elements_given counts letters number) (wider reading_refusals writing_refusals _ refl (given_only counts letters 0 number))) (λ e. refl)
  where
    go : (r : Reading) → Only writing_refusals r → Only writing_refusals (text_of room r)
    go (Err k) h = refused h.only
    go (Ok es) h =
        let text = elements_text es in
        only_unless writing_refusals (ltb most_text (length text)) TooMuch _ (only_unless writing_refusals (ltb room (length text)) NoRoom _ (done text) (λ e. refl)) (λ e. refl)

-- ---- tests whose refusal, where there is one, is in a row

module _ (ks : List Refusal) where
  fault_first : {A : Type 0} (k : Test) (o : Outcome A) → Only ks k → Only ks o → Only ks (unless k o)
  fault_first (Ok t) o h n = n
  fault_first (Err k) o h n = refused h.only

  or_else_lem : {k l : Test} → Only ks k → Only ks l → Only ks (k or_else l)
  or_else_lem {k} {l} h n = fault_first k l h n

  if_fault : {A : Type 0} (t : Bool) {k l : Outcome A} → Only ks k → Only ks l → Only ks (if t then k else l)
  if_fault true h n = h
  if_fault false h n = n

-- ---- BAM's words

read_words_only : (words : List ℕ) (counts_room letters_room : ℕ) → Only reading_words_refusals (read_words words counts_room letters_room)
unfolding read_words
read_words_only words counts_room letters_room =
    only_unless reading_words_refusals (not (all_known words)) NoOperation _
    (only_unless reading_words_refusals (ltb most_segments (length words)) TooMuch _
    (only_unless reading_words_refusals (ltb counts_room (length words)) NoRoom _
    (only_unless reading_words_refusals (ltb letters_room (length words)) NoRoom _ (done _) (λ e. refl)) (λ e. refl)) (λ e. refl)) (λ e. refl)

fault_in : (count : ℤ) (letter : ℕ) → Only writing_words_refusals (fault_of count letter)
unfolding fault_of
fault_in count letter =
    if_fault writing_words_refusals (not (is_letter letter)) (refused refl)
    (if_fault writing_words_refusals (lt_z count (pos 0)) (refused refl)
    (if_fault writing_words_refusals (lt_z (pos most_word_count) count) (refused refl) fine))

faults_from : (counts : List ℤ) (letters : List ℕ) (i m : ℕ) → Only writing_words_refusals (fault_from counts letters i m)
unfolding fault_from
faults_from counts letters i zero = fine
faults_from counts letters i (suc m) =
    fault_first writing_words_refusals _ _ (fault_in (get_or counts i (pos 0)) (get_or letters i 0)) (faults_from counts letters (i + 1) m)

write_words_only : (number : ℕ) (counts : List ℤ) (letters : List ℕ) (room : ℕ) → Only writing_words_refusals (write_words number counts letters room)
unfolding write_words
write_words_only number counts letters room =
    fault_first writing_words_refusals (fault_from counts letters 0 (min number most_segments)) _ (faults_from counts letters 0 (min number most_segments))
    (only_unless writing_words_refusals (ltb most_segments number) TooMuch _
    (only_unless writing_words_refusals (ltb room number) NoRoom _ (done _) (λ e. refl)) (λ e. refl))

-- ---- building

abbrev R : List Refusal
R = records_refusals

span_in : (a b : ℤ) → Only R (span_fault a b)
unfolding span_fault
span_in a b = if_fault R (lt_z a (pos 0)) (refused refl) (if_fault R (lt_z b (pos 0)) (refused refl) (if_fault R (lt_z b a) (refused refl) fine))

own_in : (r : Record) → Only R (own_fault r)
unfolding own_fault
own_in r = or_else_lem R (span_in r.alt_start r.alt_end) (span_in r.tx_start r.tx_end)

follow_in : (a b : Record) → Only R (follow_fault a b)
unfolding follow_fault rise_fault join_fault
follow_in a b = or_else_lem R (if_fault R (lt_z a.ord b.ord) fine (refused refl)) (if_fault R (eq_z a.tx_end b.tx_start) fine (refused refl))

pair_in : (forward : Bool) (p r : Record) → Only R (pair_fault forward p r)
unfolding pair_fault start_fault
pair_in true p r = or_else_lem R (if_fault R (lt_z r.alt_start p.alt_end) (refused refl) fine) (follow_in p r)
pair_in false p r = or_else_lem R (if_fault R (lt_z r.alt_start p.alt_end) (refused refl) fine) (follow_in r p)

after_in : (forward : Bool) (p : Record) (rs : List Record) → Only R (faults_after forward p rs)
unfolding faults_after
after_in forward p [] = fine
after_in forward p (r ∷ rs) = or_else_lem R (own_in r) (or_else_lem R (pair_in forward p r) (after_in forward r rs))

faults_in : (forward : Bool) (rs : List Record) → Only R (faults forward rs)
unfolding faults
faults_in forward [] = fine
faults_in forward (r ∷ rs) = or_else_lem R (own_in r) (after_in forward r rs)

half_in : (ks : List Refusal) → one_of HalfCds ks ≡ true → (start end : Option ℤ) → Only ks (half_fault start end)
half_in ks h (Some s) (Some e) = fine
half_in ks h (Some s) None = refused h
half_in ks h None (Some e) = refused h
half_in ks h None None = fine

cds_in : (ks : List Refusal) → one_of BadCds ks ≡ true → (start end : Option ℤ) (last : ℕ) → Only ks (cds_fault start end last)
unfolding range_fault
cds_in ks h (Some s) (Some e) last = if_fault ks (lt_z s (pos 0)) bad (if_fault ks (lt_z e s) bad (if_fault ks (lt_z (pos last) e) bad fine))
  where
    bad : Only {A = Unit {0}} ks (Err BadCds)
    bad = record { only = h }
cds_in ks h (Some s) None last = fine
cds_in ks h None end last = fine

last_in : (start end : Option ℤ) (n first g t : ℕ) → Only R (last_fault start end n first g t)
unfolding last_fault
last_in start end n first g t = if_fault R (eqb n 0) (refused refl) (if_fault R (ltb most_bases t) (refused refl) (if_fault R (ltb most_bases (first + g)) (refused refl) (cds_in R refl start end t)))

reading_wider : (r : Reading) → Only reading_refusals r → Only R r
reading_wider r h = wider reading_refusals R r refl h

next_only : (used : ℕ) (r : Record) → Only R (read_next used r)
unfolding read_next
next_only used r = only_unless R (ltb most_text (length r.cigar)) TooMuch _ (only_unless R (eqb used most_segments) TooMuch _ (reading_wider _ (read_only (most_segments - (used + 1)) false 0 r.cigar)) (λ e. refl)) (λ e. refl)

-- a record's own refusals and 32, before those of what follows
followed_only : (r : Record) (p : Reading) (next : ℕ → Exons) → Only R p → ((n : ℕ) → Only R (next n)) → Only R (followed_by r p next)
unfolding spanning
followed_only r p next own others =
    only_then R p _ own
    (λ es e. only_both R _ _ _ (only_if R (is_spanned r es) NotSpanning _ (done es) (λ e. refl)) (others (length es)))

after_only : (used : ℕ) (rs : List Record) → Only R (exons_after used rs)
unfolding exons_after
after_only used [] = done []
after_only used (r ∷ rs) = followed_only r (read_next used r) (λ n. exons_after (used + 1 + n) rs) (next_only used r) (λ n. after_only (used + 1 + n) rs)

exons_only : (rs : List Record) → Only R (exons_of rs)
unfolding exons_of read_first
exons_only [] = done []
exons_only (r ∷ rs) =
    followed_only r (read_first r) (λ n. exons_after n rs)
    (only_unless R (ltb most_text (length r.cigar)) TooMuch _ (reading_wider _ (read_only most_segments false 0 r.cigar)) (λ e. refl))
    (λ n. after_only n rs)

on_only : (forward : Bool) (i : Input) → Only R (judge_on forward i)
unfolding judge_on
on_only forward i =
    only_unless R (ltb most_records (length i.records)) TooMuch _
    (fault_first R (faults forward i.records) _ (faults_in forward i.records)
    (fault_first R (half_fault i.start i.end) _ (half_in R refl i.start i.end) (go (exons_of i.records) (exons_only i.records)))) (λ e. refl)
  where
    go : (o : Exons) → Only R o → Only R (judge_exons forward i o)
    go (Err k) h = refused h.only
    go (Ok xs) h = fault_first R _ _ (last_in i.start i.end _ _ _ _) (done _)

on_wider : (ks : List Refusal) → all_of R ks ≡ true → (forward : Bool) (i : Input) → Only ks (judge_on forward i)
on_wider ks all forward i = wider R ks (judge_on forward i) all (on_only forward i)

abbrev B : List Refusal
B = building_refusals

judge_only : (n : Numbers) (bytes : List ℕ) → Only building_refusals (judge n bytes)
unfolding judge judge_input
judge_only n bytes =
    only_unless B (ltb both_bits n.cds) NotTogether _
    (only_unless B (not (exactly n.count bytes 0)) NoCard _
    (only_unless B (eqb (length (input_of n bytes).records) 0) NoRecords _
    (if_fault B (eq_z n.strand (pos 1)) (on_wider B refl true (input_of n bytes)) (only_if B (eq_z n.strand (negsuc 0)) NoStrand _ (on_wider B refl false (input_of n bytes)) (λ e. refl))) (λ e. refl)) (λ e. refl)) (λ e. refl)

-- ---- a card

-- on a strand of a card 2 does not occur
strand_only : (i : Input) (forward : Bool) → eq_z i.strand (pos 1) ≡ forward → eq_z i.strand (negsuc 0) ≡ not forward → Only card_refusals (judge_input i)
unfolding judge_input
strand_only i true plus minus = rw plus (only_unless card_refusals (eqb (length i.records) 0) NoRecords _ (on_wider card_refusals refl true i) (λ t. refl))
strand_only i false plus minus = rw (plus, minus) (only_unless card_refusals (eqb (length i.records) 0) NoRecords _ (on_wider card_refusals refl false i) (λ t. refl))

minus_is : (forward : Bool) → eq_z (strand_of forward) (negsuc 0) ≡ not forward
minus_is true = refl
minus_is false = refl

-- bytes that are no card
no_card_lem : (s : List ℕ) (k : Refusal) → read_card s ≡ Err k → one_of k card_refusals ≡ true
unfolding read_card
no_card_lem s k =
    by_test (ltb most_card (length s))
    (λ t. rw t (λ h. rw (← same_refusal h) refl))
    (λ t.
    by_test (is_marked s)
    (λ u.
    by_test (eqb (le16 s version_at) version)
    (λ v.
    by_test (is_card s)
    (λ x. rw (t, u, v, x) (λ h. absurd (clash (sym h))))
    (λ x. rw (t, u, v, x) (λ h. rw (← same_refusal h) refl)))
    (λ v. rw (t, u, v) (λ h. rw (← same_refusal h) refl)))
    (λ u. rw (t, u) (λ h. rw (← same_refusal h) refl)))

card_only : (s : List ℕ) → Only card_refusals (judge_card s)
unfolding judge numbers_in
card_only s = go (read_card s) refl
  where
    judged_card : IsCard s → Only card_refusals (judge (numbers_in s) (drop records_at s))
    judged_card is =
        let forward = eqb (get_or s strand_at 0) 0 in
        by_test (ltb both_bits (get_or s cds_at 0))
        (λ t. absurd (omega (arith, ltb-true both_bits (get_or s cds_at 0) t, is.cds_low)))
        (λ t. rw t (only_unless card_refusals (not (exactly (le16 s count_at) (drop records_at s) 0)) NoCard _ (strand_only (input_in s (numbers_in s)) forward (plus_is forward) (minus_is forward)) (λ e. refl)))

    go : (r : Outcome Numbers) → read_card s ≡ r → Only card_refusals (judge_read s r)
    go (Err k) e = record { only = no_card_lem s k e }
    go (Ok n) e = let (is, numbers) = read_means s n e in rw numbers (judged_card is)

-- ---- a length

abbrev L : List Refusal
L = length_refusals

length_only : (len : ℤ) (bits : ℕ) (start end : ℤ) → Only length_refusals (judge_length len bits start end)
unfolding judge_length length_fault
length_only len bits start end =
    only_unless L (ltb both_bits bits) NotTogether _
    (fault_first L (length_fault len) _ (if_fault L (lt_z len (pos 0)) (refused refl) (if_fault L (lt_z (pos most_bases) len) (refused refl) fine))
    (fault_first L (half_fault (start_of bits start) (end_of bits end)) _ (half_in L refl (start_of bits start) (end_of bits end))
    (fault_first L (cds_fault (start_of bits start) (end_of bits end) (nat_abs len)) _ (cds_in L refl (start_of bits start) (end_of bits end) (nat_abs len)) (done _)))) (λ e. refl)

-- ---- a card that is written

card_writing_only : (n : Numbers) (bytes : List ℕ) (room : ℕ) → Only card_writing_refusals (card_writing n bytes room)
unfolding card_writing
card_writing_only n bytes room = go (judge n bytes) (judge_only n bytes)
  where
    go : (j : Outcome Made) → Only building_refusals j → Only card_writing_refusals (if_taken j (fitted most_card room (card_text (input_of n bytes))))
    go (Err k) h = record { only = in_wider building_refusals card_writing_refusals refl k h.only }
    go (Ok m) h =
        let text = card_text (input_of n bytes) in
        only_unless card_writing_refusals (ltb most_card (length text)) TooMuch _ (only_unless card_writing_refusals (ltb room (length text)) NoRoom _ (done text) (λ e. refl)) (λ e. refl)

-- ---- alleles

letters_only : (ks : List Refusal) → one_of NoBase ks ≡ true → (back : Bool) (s : List ℕ) → Only ks (read_on back s)
letters_only ks h back s = go (are_bases s)
  where
    go : (t : Bool) → Only ks (cond t (Ok (on_strand back s)) (Err NoBase))
    go true = done _
    go false = refused h

room_only : (ks : List Refusal) → one_of NoRoom ks ≡ true → (room : ℕ) (s : List ℕ) → Only ks (fitting room s)
room_only ks h room s = go (ltb room (length s))
  where
    go : (t : Bool) → Only ks (cond t (Err NoRoom) (Ok s))
    go true = refused h
    go false = done _

turning_only : (allele : List ℕ) (room : ℕ) → Only turning_refusals (turning allele room)
unfolding turning
turning_only allele room = only_then turning_refusals (read_on true allele) (fitting room) (letters_only turning_refusals refl true allele) (λ s e. room_only turning_refusals refl room s)

abbrev J : List Refusal
J = joining_refusals

joined_only : (back : Bool) (s : Alleles) (room : Rooms) (plain : Answer CPosition) → Only J plain → Only J (joined_with back s room plain)
joined_only back s room plain h =
    only_then J (and_then (read_both back s) (λ (read : Alleles). fitting_both room (trimmed read))) _
    (only_then J (read_both back s) _ (only_both J alleles _ _ (letters_only J refl back s.reference) (letters_only J refl back s.alternative))
    (λ read e.
    let t = trimmed read in
    only_both J (λ (r a : List ℕ). t) _ _ (room_only J refl room.reference t.left.reference) (room_only J refl room.alternative t.left.alternative)))
    (λ t e. only_through J (beside t) plain h)

join_only : (x : Lent) (strict : Bool) (q : Interval GAsked) (s : Alleles) (room : Rooms) → Only joining_refusals (joined x strict q s room)
unfolding ask_joined
join_only x strict q s room =
    checked_only J x (ask_joined strict q s room) refl (λ y. joined_only (reads_back y) s room (ask_g_to_c strict q y) (wider plain_refusals J (ask_g_to_c strict q y) refl (plain_only strict q y)))

-- ---- a log

behind_only : (room used : ℕ) (text : List ℕ) → Only recording_refusals (behind room used text)
behind_only room used text =
    only_unless recording_refusals (ltb most_log (used + length text)) TooMuch _
    (only_unless recording_refusals (ltb room (used + length text)) NoRoom _ (done _) (λ e. refl)) (λ e. refl)

appending_only : (log : List ℕ) (used : ℕ) (e : Entry) → Only recording_refusals (appending log used e)
unfolding appending
appending_only log used e =
    only_unless recording_refusals (ltb (length log) used) NoLog _
    (by_test (eqb used 0)
    (λ t. rw t (behind_only (length log) 0 (header_bytes ++ entry_bytes e)))
    (λ t. rw t (only_if recording_refusals (is_headed log used) NoLog _ (behind_only (length log) used (entry_bytes e)) (λ h. refl))))
    (λ h. refl)

recording_only : (x : Lent) (q : Question) (log : List ℕ) (used : ℕ) → Only recording_refusals (recording x q log used)
unfolding recording
recording_only x q log used = only_if recording_refusals (holdable q) NoLog _ (appending_only log used (recorded x q)) (λ e. refl)

log_only : (log : List ℕ) → Only replay_refusals (read_log log)
unfolding read_log
log_only log =
    only_unless replay_refusals (ltb most_log (length log)) TooMuch _
    (only_unless replay_refusals (not (is_headed log (length log))) NoLog _
    (only_unless replay_refusals (not (all_canonical (entries_in log))) NoLog _ (done _) (λ e. refl)) (λ e. refl)) (λ e. refl)

replay_only : (x : Lent) (log : List ℕ) (room : ℕ) → Only replay_refusals (replaying x log room)
unfolding replaying replayed
replay_only x log room =
    only_then replay_refusals (replayed x log) (roomed room)
    (checked_only replay_refusals x _ refl (λ y. only_through replay_refusals _ (read_log log) (log_only log)))
    (λ text e. only_unless replay_refusals (ltb room (length text)) NoRoom _ (done _) (λ t. refl))

pub refusals : Refusals
refusals = record {
  read_cigar = text_only;
  write_cigar = writing_only;
  read_bam = read_words_only;
  write_bam = write_words_only;
  build = judge_only;
  build_card = card_only;
  build_length = length_only;
  write_card = card_writing_only;
  worklist = worklist_refuses;
  turn = turning_only;
  join = join_only;
  record_question = recording_only;
  replay = replay_only;
}
