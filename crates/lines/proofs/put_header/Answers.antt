-- `lines::put_header` meets its contract: five bytes, and then the three numbers. Assumes nothing.
use Rattle.std.proofs.Common.{refl, ap₂, List, [], ◌∷◌, ◌++◌, ℕ, slice_set}
use Rattle.card.specs.Layout.{mark}
use Rattle.card.specs.laws.Putting.{then_put}
use Rattle.lines.specs.Listing.{sign_of, listing_header}
use Rattle.lines.proofs.put_header.Goals as goal

pub returns-clause-put : goal.returns-clause-put
unfolding listing_header
returns-clause-put c =
    let stored = ap₂ (λ (b : List ℕ) (x : ℕ). slice_set (slice_set b 3 32) 4 x) c.put_mark.ensures c.sign.ensures in
    then_put {s = mark ++ 32 ∷ sign_of c.args.forward ∷ []} (record { past = refl; stored = stored }) c.put_numbers.ensures.put
