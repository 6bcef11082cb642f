-- `telling::g_to_c` meets its contract: the head tells how the transcript lies, and the tables that it does. A base that was sought is answered by its spot, one that is not sure by where it lies, any other interval as g. to c. says, and tables that do not hold are 23. Assumes nothing.
use mathlib.Core.Path.{◌≡◌, sym, ap, ◌∙◌}
use Rattle.refusals.specs.Outcome.{Ok}
use Rattle.whole.specs.laws.Whole.{read}
use Rattle.holding.specs.Holding.{lent}
use Rattle.layout.specs.Layout.{c_laid, laid}
use Rattle.taking.specs.Taking.{g_asked}
use Rattle.chaining.specs.Given.{given}
use Rattle.mapper.specs.Asking.{ask_g_to_c, ask_g_to_n}
use Rattle.knowing.specs.Knowing.{known_of}
use Rattle.knowing.specs.declared.Known.TheVariants as known
use Rattle.knowing.specs.laws.Known.{known_lies, ask_length, ask_broken}
use Rattle.knowing.specs.laws.Told.{told_lying, told_lies, told_apart, told_length, told_broken}
use Rattle.lone.specs.Lone.{Seen}
use Rattle.telling.specs.Seeking.{Based}
use Rattle.telling.proofs.Ways.{c_by_ends, one_base_c, base_beside_c}
use Rattle.telling.proofs.g_to_c.Goals as goal
use Rattle.telling.proofs.g_to_c.Goals.{Then-tables_hold, In-Some}

-- the ends that the question gives
ends_are : (c : Then-tables_hold) → c.both_ends-ends.result ≡ given (g_asked c.args.start c.args.end c.args.missing)
ends_are c = c.both_ends-ends.ensures ∙ ap given (simp (read c.ranges.start, read c.ranges.end) at c.g_asked.ensures)

-- what is lent, and how it lies
known_is : (c : Then-tables_hold) → let a = c.args in known_of (lent a.head a.genome.now a.transcript.now a.letters.now a.exons.now) ≡ Ok (known.Aligned c.in-Ok-Aligned.cds c.in-Ok-Aligned.at)
known_is c = told_lies _ (sym c.told_of.ensures ∙ c.in-Ok-Aligned.is ∙ ap Ok c.in-Ok-Aligned.field-0-is) (sym c.tables_hold.ensures ∙ c.if-tables_hold.true)

-- the base that was sought, and where it was seen
base_is : (c : In-Some) →
    let base = c.in-Some.base in
    Based c.in-Ok-Aligned.at c.both_ends-ends.result base.place.0
    × Seen c.args.genome.now c.in-Ok-Aligned.at.count base.place.0 base.number
base_is c = rw c.in-Some.is at c.seek_base-sought.ensures

pub seek_base-sought-requires : goal.seek_base-sought-requires
seek_base-sought-requires c = let l = told_lying _ _ _ _ (sym c.told_of.ensures ∙ c.in-Ok-Aligned.is ∙ ap Ok c.in-Ok-Aligned.field-0-is) in (l.some, l.few)

pub tables_hold-requires : goal.tables_hold-requires
tables_hold-requires c = let l = told_lying _ _ _ _ (sym c.told_of.ensures ∙ c.in-Ok-Aligned.is ∙ ap Ok c.in-Ok-Aligned.field-0-is) in (l.some, l.few)

pub spot_at_g-spot-requires : goal.spot_at_g-spot-requires
spot_at_g-spot-requires c =
    let at = goal.at.spot_at_g-spot-requires c in
    let (b, seen) = base_is at.In-Some in
    ((known_lies _ _ _ (known_is at.Then-tables_hold)).sound, seen.small, seen.numbers)

pub sure_c-requires : goal.sure_c-requires
sure_c-requires c =
    let (small, on) = c.spot_at_g-spot.ensures.small in
    ((known_lies _ _ _ (known_is (goal.at.sure_c-requires c).Then-tables_hold)).sound.count_to, small, on)

pub returns-then-spot : goal.returns-then-spot
returns-then-spot c =
    let at = goal.at.returns-then-spot c in
    let t = at.Then-tables_hold in
    let (b, seen) = base_is at.In-Some in
    c.sure_c.ensures ∙ ap (laid c_laid) (sym (one_base_c _ _ _ (known_is t) _ _ _ (ends_are t) _ b _ seen.within c.spot_at_g-spot.ensures.said c.if-spot.true))

pub beside_c-requires : goal.beside_c-requires
beside_c-requires c =
    let (small, on) = c.spot_at_g-spot.ensures.small in
    (small.place_small, on, (known_lies _ _ _ (known_is (goal.at.beside_c-requires c).Then-tables_hold)).sound.count_to)

pub returns-in-Some : goal.returns-in-Some
returns-in-Some c =
    let at = goal.at.returns-in-Some c in
    let t = at.Then-tables_hold in
    let (b, seen) = base_is at.In-Some in
    c.lay.ensures
    ∙ ap (laid c_laid) (c.beside_c.ensures ∙ sym (base_beside_c _ _ _ (known_is t) _ _ _ (ends_are t) _ b _ seen.within c.spot_at_g-spot.ensures.said c.if-spot.false))

pub interval_c-requires : goal.interval_c-requires
interval_c-requires c = (known_lies _ _ _ (known_is (goal.at.interval_c-requires c).Then-tables_hold)).sound

pub returns-then-tables_hold : goal.returns-then-tables_hold
returns-then-tables_hold c =
    let t = (goal.at.returns-then-tables_hold c).Then-tables_hold in
    c.interval_c.ensures ∙ ap (laid c_laid) (sym (c_by_ends _ _ _ (known_is t) _ _ _ (ends_are t)))

pub returns-else-tables_hold : goal.returns-else-tables_hold
returns-else-tables_hold c =
    c.refusal_of.ensures ∙ ap (laid c_laid) (sym (ask_broken _ _ (told_apart _ (sym c.told_of.ensures ∙ c.in-Ok-Aligned.is ∙ ap Ok c.in-Ok-Aligned.field-0-is) (sym c.tables_hold.ensures ∙ c.if-tables_hold.false))))

pub returns-in-Ok-OfLength : goal.returns-in-Ok-OfLength
unfolding ask_g_to_c ask_g_to_n
returns-in-Ok-OfLength c =
    c.refusal_of-in-Ok-OfLength.ensures ∙ ap (laid c_laid) (sym (ask_length _ _ (told_length _ (sym c.told_of.ensures ∙ c.in-Ok-OfLength.is ∙ ap Ok c.in-Ok-OfLength.field-0-is))))

pub returns-in-Err : goal.returns-in-Err
returns-in-Err c =
    c.refusal_of-in-Err.ensures ∙ ap (laid c_laid) (sym (ask_broken _ _ (told_broken _ (sym c.told_of.ensures ∙ c.in-Err.is))))
