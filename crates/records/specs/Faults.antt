-- Refusals 4, 5 and 6: what is asked of a record, and of it beside the one before it. Assumes nothing.
use Rattle.refusals.specs.Outcome.{Err, Test, no_fault, unless}
use Rattle.std.specs.Prelude.{Bool, cond, List, [], ◌∷◌, ℤ, pos, if◌then◌else◌}
use Rattle.std.specs.Int.Signed.{lt_z}
use Rattle.refusals.specs.declared.Refusal.TheVariants.{BadBound, BadOrd, NotAdjacent}
use Rattle.whole.specs.Whole.{eq_z}
use Rattle.records.specs.Records.{Record}

-- the first refusal counts
infixr 6 ◌or_else◌
abbrev pub ◌or_else◌ : Test → Test → Test
k or_else l = unless k l

-- 4: a bound is negative, or the end is below the start
unfoldable pub span_fault : ℤ → ℤ → Test
span_fault start end =
    if lt_z start (pos 0) then Err BadBound
    else if lt_z end (pos 0) then Err BadBound
    else if lt_z end start then Err BadBound
    else no_fault

-- 4: a genome start below the previous end
unfoldable pub start_fault : ℤ → ℤ → Test
start_fault previous_end start = if lt_z start previous_end then Err BadBound else no_fault

-- 5: `ord` does not rise strictly
unfoldable pub rise_fault : ℤ → ℤ → Test
rise_fault a b = if lt_z a b then no_fault else Err BadOrd

-- 6: an exon's transcript end differs from the next one's start
unfoldable pub join_fault : ℤ → ℤ → Test
join_fault end start = if eq_z end start then no_fault else Err NotAdjacent

-- 4 of a record alone
unfoldable pub own_fault : Record → Test
own_fault r = span_fault r.alt_start r.alt_end or_else span_fault r.tx_start r.tx_end

-- 5 and 6, where b follows a in `ord` order
unfoldable pub follow_fault : Record → Record → Test
follow_fault a b = rise_fault a.ord b.ord or_else join_fault a.tx_end b.tx_start

-- 4, 5, 6 of a record r beside p, the one before it in the list: on strand 1 r follows p in `ord` order, on strand -1 p follows r
unfoldable pub pair_fault : Bool → Record → Record → Test
pair_fault forward p r = start_fault p.alt_end r.alt_start or_else cond forward (follow_fault p r) (follow_fault r p)

-- of the records after p, in list order
unfoldable pub faults_after : Bool → Record → List Record → Test
faults_after forward p [] = no_fault
faults_after forward p (r ∷ rs) = own_fault r or_else pair_fault forward p r or_else faults_after forward r rs

-- of all records
unfoldable pub faults : Bool → List Record → Test
faults forward [] = no_fault
faults forward (r ∷ rs) = own_fault r or_else faults_after forward r rs
