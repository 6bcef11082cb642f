-- `telling::c_to_g` meets its contract: the head tells how the transcript lies, and the tables that it does. A base that was sought by its name is answered by its spot, one that is not sure by where it lies, any other interval as c. to n. and then n. to g. say, tables that do not hold are 23, and a length alone is 18 after the first step. Assumes nothing.
use mathlib.Core.Path.{◌≡◌, sym, ap, ◌∙◌}
use Rattle.refusals.specs.Outcome.{Ok}
use Rattle.whole.specs.laws.Whole.{read}
use Rattle.holding.specs.Holding.{lent}
use Rattle.positions.specs.Paper.{paper_c_question}
use Rattle.taking.specs.Taking.{c_asked}
use Rattle.layout.specs.Layout.{g_laid, laid}
use Rattle.mapper.specs.Asking.{ask_c_to_g, ask_c_to_n, ask_n_to_g}
use Rattle.knowing.specs.Knowing.{known_of, paper_coding}
use Rattle.knowing.specs.declared.Known.TheVariants as known
use Rattle.knowing.specs.laws.Known.{known_lies, ask_length, ask_broken}
use Rattle.knowing.specs.laws.Told.{told_lying, told_lies, told_apart, told_length, told_broken}
use Rattle.mapper.specs.laws.Lying.{lying_c_to_g}
use Rattle.lone.specs.Lone.{Seen}
use Rattle.surely.specs.Surely.{Named}
use Rattle.telling.proofs.Ways.{one_name, name_beside}
use Rattle.telling.proofs.c_to_g.Goals as goal
use Rattle.telling.proofs.c_to_g.Goals.{After-c_asked-asked, Then-tables_hold, In-Some}

-- the question as it was taken
question_is : (c : After-c_asked-asked) → let a = c.args in paper_c_question c.c_asked-asked.result ≡ c_asked a.start a.«start_offset» a.«start_star» a.end a.«end_offset» a.«end_star»
question_is c =
    let f = c.ranges in
    simp (read f.start, read f.«start_offset», read f.end, read f.«end_offset») at c.c_asked-asked.ensures

-- what is lent, and how it lies
known_is : (c : Then-tables_hold) → let a = c.args in known_of (lent a.head a.genome.now a.transcript.now a.letters.now a.exons.now) ≡ Ok (known.Aligned c.in-Ok-Aligned.cds c.in-Ok-Aligned.at)
known_is c = told_lies _ (sym c.told_of.ensures ∙ c.in-Ok-Aligned.is ∙ ap Ok c.in-Ok-Aligned.field-0-is) (sym c.tables_hold.ensures ∙ c.if-tables_hold.true)

-- the name that was sought, and where it was seen
name_is : (c : In-Some) →
    let a = c.args in
    let base = c.in-Some.base in
    Named a.strict c.in-Ok-Aligned.at a.transcript.now (paper_coding c.in-Ok-Aligned.cds) (c_asked a.start a.«start_offset» a.«start_star» a.end a.«end_offset» a.«end_star») base.place.0
    × Seen a.transcript.now c.in-Ok-Aligned.at.count base.place.0 base.number
name_is c =
    let f = c.ranges in
    let question = simp (read f.start, read f.«start_offset», read f.end, read f.«end_offset») at c.c_asked-asked.ensures in
    simp question at (rw c.in-Some.is at c.seek_name-sought.ensures)

pub seek_name-sought-requires : goal.seek_name-sought-requires
seek_name-sought-requires c = let l = told_lying _ _ _ _ (sym c.told_of.ensures ∙ c.in-Ok-Aligned.is ∙ ap Ok c.in-Ok-Aligned.field-0-is) in (l.some, l.few)

pub tables_hold-requires : goal.tables_hold-requires
tables_hold-requires c = let l = told_lying _ _ _ _ (sym c.told_of.ensures ∙ c.in-Ok-Aligned.is ∙ ap Ok c.in-Ok-Aligned.field-0-is) in (l.some, l.few)

pub spot_at_n-spot-requires : goal.spot_at_n-spot-requires
spot_at_n-spot-requires c =
    let at = goal.at.spot_at_n-spot-requires c in
    let (n, seen) = name_is at.In-Some in
    ((known_lies _ _ _ (known_is at.Then-tables_hold)).sound, seen.small, seen.numbers)

pub sure_g-requires : goal.sure_g-requires
sure_g-requires c =
    let (small, on) = c.spot_at_n-spot.ensures.small in
    ((known_lies _ _ _ (known_is (goal.at.sure_g-requires c).Then-tables_hold)).sound.count_to, small, on)

pub returns-then-spot : goal.returns-then-spot
returns-then-spot c =
    let at = goal.at.returns-then-spot c in
    let (n, seen) = name_is at.In-Some in
    simp (read c.ranges.«start_offset») at c.sure_g.ensures
    ∙ ap (laid g_laid) (sym (one_name _ _ _ (known_is at.Then-tables_hold) _ _ _ n _ seen.within c.spot_at_n-spot.ensures.said c.if-spot.true))

pub beside_g-requires : goal.beside_g-requires
beside_g-requires c =
    let (small, on) = c.spot_at_n-spot.ensures.small in
    (small.place_small, on, (known_lies _ _ _ (known_is (goal.at.beside_g-requires c).Then-tables_hold)).sound.count_to)

pub returns-in-Some : goal.returns-in-Some
returns-in-Some c =
    let at = goal.at.returns-in-Some c in
    let (n, seen) = name_is at.In-Some in
    let own = read c.ranges.«start_offset» in
    c.lay.ensures
    ∙ ap (laid g_laid) (simp own at c.beside_g.ensures ∙ sym (name_beside _ _ _ (known_is at.Then-tables_hold) _ _ _ n _ seen.within c.spot_at_n-spot.ensures.said c.if-spot.false))

pub last-len-requires : goal.last-len-requires
last-len-requires c = (known_lies _ _ _ (known_is (goal.at.last-len-requires c).Then-tables_hold)).sound.count_to

pub then_n_to_g-requires : goal.then_n_to_g-requires
then_n_to_g-requires c = (known_lies _ _ _ (known_is (goal.at.then_n_to_g-requires c).Then-tables_hold)).sound

pub returns-then-tables_hold : goal.returns-then-tables_hold
returns-then-tables_hold c =
    let at = goal.at.returns-then-tables_hold c in
    let first = simp (c.last-len.ensures, question_is at.After-c_asked-asked) at c.c_to_n-n.ensures in
    c.lay-then-tables_hold.ensures ∙ ap (laid g_laid) (simp first at c.then_n_to_g.ensures ∙ sym (lying_c_to_g _ _ _ (known_is at.Then-tables_hold) _ _))

pub returns-else-tables_hold : goal.returns-else-tables_hold
returns-else-tables_hold c =
    c.refusal_of.ensures ∙ ap (laid g_laid) (sym (ask_broken _ _ (told_apart _ (sym c.told_of.ensures ∙ c.in-Ok-Aligned.is ∙ ap Ok c.in-Ok-Aligned.field-0-is) (sym c.tables_hold.ensures ∙ c.if-tables_hold.false))))

pub returns-in-Ok-OfLength : goal.returns-in-Ok-OfLength
unfolding ask_c_to_g ask_c_to_n ask_n_to_g
returns-in-Ok-OfLength c =
    let first = simp (question_is (goal.at.returns-in-Ok-OfLength c).After-c_asked-asked) at c.c_to_n.ensures in
    c.lay-in-Ok-OfLength.ensures
    ∙ ap (laid g_laid) (rw first at c.then_no_genome.ensures ∙ sym (ask_length _ _ (told_length _ (sym c.told_of.ensures ∙ c.in-Ok-OfLength.is ∙ ap Ok c.in-Ok-OfLength.field-0-is))))

pub returns-in-Err : goal.returns-in-Err
returns-in-Err c =
    c.refusal_of-in-Err.ensures ∙ ap (laid g_laid) (sym (ask_broken _ _ (told_broken _ (sym c.told_of.ensures ∙ c.in-Err.is))))
