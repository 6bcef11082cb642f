-- `surely::seek_name` meets its contract: where there is a CDS and both ends are one position, `n_position` gives its n. position, which is both ends too, and its place is the one that is sought. Assumes nothing.
use Prim.Native.Nat.{ℕ}
use mathlib.Core.Bool.{Bool, true}
use mathlib.Core.List.{List}
use mathlib.Core.Path.{◌≡◌, refl, sym, ap, ◌∙◌}
use lib.IntN.{ℤ}
use lib.ListN.{get_or}
use mir.Syntax.{w32}
use Rattle.whole.specs.laws.Whole.{told}
use Rattle.std.specs.Result.{result_ok}
use Rattle.std.proofs.lemmas.Option.{same_Some, none-some}
use Rattle.positions.specs.declared.NPosition.{NPosition as CodePosition}
use Rattle.refusals.specs.Outcome.{Outcome, Ok, Err}
use Rattle.numbering.specs.Numbers.{place_of_n}
use Rattle.transcript.specs.Transcript.{Cds, cds}
use Rattle.positions.specs.Positions.{Interval, CAsked, NPosition}
use Rattle.positions.specs.Paper.{paper_n_end}
use Rattle.coding.specs.Coding.{same_c, n_position}
use Rattle.coding.specs.laws.Once.{one_to_n, offset_stays}
use Rattle.coding.specs.laws.Same.{same_says}
use Rattle.spots.specs.Mapping.{turned}
use Rattle.spots.specs.declared.Alignment.{Alignment}
use Rattle.lone.specs.Lone.{SoughtAt}
use Rattle.lone.specs.declared.Sought.{Sought}
use Rattle.std.specs.Prelude.{Option, Some, None}
use Rattle.surely.specs.Surely.{Named, SoughtName}
use Rattle.surely.proofs.seek_name.Goals as goal

-- an answer that there is
if_some : (r : Outcome CodePosition) (n : CodePosition) → result_ok r ≡ Some n → r ≡ Ok n
if_some (Ok m) n e = ap Ok (same_Some m n e)
if_some (Err k) n e = absurd (none-some n e)

module _ (strict : Bool) (a : Alignment) (starts : List ℕ) where
  abbrev long : ℕ
  long = get_or starts a.count 0

  -- by the n. position of both ends
  named : (from to : ℕ) (p q : CAsked) (n : NPosition) → same_c p q ≡ true → n_position strict long from to p ≡ Ok n → Named strict a starts (cds from to) (record { from = p; to = q }) (turned a.forward long (place_of_n n.base))
  named from to p q n same e = rw (← same_says p q same) (record { at = n; both = rw e at (one_to_n strict long from to p); own = offset_stays strict long from to p n e; place = refl })

  -- what was sought at its place was sought by its name
  by_name : (coding : Cds) (q : Interval CAsked) (p : ℤ) → Named strict a starts coding q p → (z : Option Sought) → SoughtAt starts a.count p z → SoughtName strict a starts coding q z
  by_name coding q p n (Some s) (e, seen) = (rw e n, seen)
  by_name coding q p n None h = tt

pub returns-in_err-bounds : goal.returns-in_err-bounds
returns-in_err-bounds c = rw c.from_residual.ensures tt

pub returns-in_err-n : goal.returns-in_err-n
returns-in_err-n c = rw c.from_residual-in_err-n.ensures tt

pub returns-then-is_same : goal.returns-then-is_same
returns-then-is_same c =
    let a = c.args in
    let bounds = c.in_ok-bounds.bounds in
    let same = sym c.is_same.ensures ∙ c.if-is_same.true in
    let position = sym (simp c.last-len.ensures at c.n_position.ensures) ∙ ap paper_n_end (if_some c.n_position.result c.in_ok-n.n (sym c.ok.ensures.value ∙ c.in_ok-n.was)) in
    let place = simp (told w32 c.in_ok-n.n.base c.struct_told-1.given.0.1, c.last-len.ensures) at c.place_of_n.ensures.0 in
    let called = named a.strict a.at a.transcript.now bounds.start bounds.end _ _ _ same position in
    rw c.in_ok-bounds.was (by_name a.strict a.at a.transcript.now _ _ _ called c.seek.result (rw place at c.seek.ensures))
