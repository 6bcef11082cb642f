-- The slots afterwards: as many as before, each with its position; and the slots of a list that is refused. Assumes nothing.
use Rattle.refusals.specs.declared.Refusal.{Refusal}
use Rattle.std.specs.Prelude.{List, [], ◌∷◌, map, ◌≡◌, refl, ℤ, length, ℕ}
use Rattle.std.proofs.Common.{ap}
use Rattle.std.proofs.lemmas.List.{length-map}
use Rattle.refusals.specs.Outcome.{Outcome, Ok, Err}
use Rattle.holding.specs.Holding.{Lent}
use Rattle.worklist.specs.Worklist.{answered_slot, positions_of, listed, slots_filled, slots_after}
use Rattle.worklist.specs.declared.Slot.{Slot}

module _ (x : Lent) (ys : List Slot) where
  pub slots_kept : length (slots_after x ys) ≡ length ys
  slots_kept = go (listed x ys)
    where
      go : (o : Outcome ℕ) → length (slots_filled o x ys) ≡ length ys
      go (Ok n) = length-map ys (answered_slot x)
      go (Err k) = refl

  -- positions are untouched
  pub positions_kept : positions_of (slots_after x ys) ≡ positions_of ys
  positions_kept = go (listed x ys)
    where
      each : (zs : List Slot) → positions_of (map (answered_slot x) zs) ≡ positions_of zs
      each [] = refl
      each (z ∷ zs) = ap (λ (gs : List ℤ). z.position ∷ gs) (each zs)

      go : (o : Outcome ℕ) → positions_of (slots_filled o x ys) ≡ positions_of ys
      go (Ok n) = each ys
      go (Err k) = refl

  -- a refusal changes no lent memory
  pub refused_kept : (k : Refusal) → listed x ys ≡ Err k → slots_after x ys ≡ ys
  refused_kept k e = rw e
