-- What is shown of the definitions of Putting. Assumes nothing.
use Rattle.std.specs.Prelude.{◌≡◌, refl, List, [], ◌∷◌, ◌++◌, ℕ, ◌+◌, ◌≤◌, length, set}
use Rattle.std.proofs.Common.{sym, ap, subst, ◌∙◌, add-zero, zero-add, arith, length-append}
use Rattle.std.proofs.Math.Seq.{length-sets}
use Rattle.cigar.specs.Lent.{at_front}
use Rattle.cigar.specs.laws.Lent.{sets_front}
use Rattle.cigar.specs.laws.Stores.{sets_append}
use Rattle.card.specs.Putting.{Put}

pub none_put : (before : List ℕ) (at : ℕ) → Put before before at at []
none_put before at = record { past = sym (add-zero at); stored = refl }

pub byte_put : (before : List ℕ) (at b : ℕ) → Put before (set before at b) at (at + 1) (b ∷ [])
byte_put before at b = record { past = refl; stored = refl }

module _ {before between after : List ℕ} {at middle next : ℕ} {s t : List ℕ} where
  pub then_put : Put before between at middle s → Put between after middle next t → Put before after at next (s ++ t)
  then_put h k = record {
    past = omega (arith, h.past, k.past, length-append s t);
    stored = k.stored ∙ rw (h.stored, h.past) (sym (sets_append s t before at));
  }

pub put_length : {before after : List ℕ} {at next : ℕ} {text : List ℕ} → Put before after at next text → length after ≡ length before
put_length {before} {after} {at} {next} {text} h = ap length h.stored ∙ length-sets before at text

-- the text by another name
pub put_as : {before after : List ℕ} {at next : ℕ} {s t : List ℕ} → s ≡ t → Put before after at next s → Put before after at next t
put_as {before} {after} {at} {next} e h = subst (λ (text : List ℕ). Put before after at next text) e h

-- from the front on, of what fits
pub put_front : {before after text : List ℕ} {r : ℕ} → Put before after 0 r text → r ≤ length before → (r ≡ length text) × (after ≡ at_front text before)
put_front {before} {after} {text} p room =
    let n : _ ≡ length text = p.past ∙ zero-add (length text) in
    (n, p.stored ∙ sets_front text before (omega (arith, n)))
