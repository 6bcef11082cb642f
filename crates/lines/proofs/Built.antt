-- What a card that building takes has made: its head, its tables, and their listing.
-- Assumes nothing.
use mathlib.Core.Path.{◌≡◌}
use mathlib.Core.Bool.{Bool, true, false}
use Prim.Native.Nat.{ℕ}
use native.Mathlib.Omega.{arith}
use lib.ListN.{length}
use mir.Syntax.{w32}
use mir.Val.{SFits}
use Rattle.refusals.specs.Outcome.{Ok}
use Rattle.segments.specs.Tables.{Tables, Holds, read, tables_of}
use Rattle.segments.specs.laws.Made.{made_hold, made_read}
use Rattle.judging.specs.Judging.{Made, elements_made}
use Rattle.transcript.specs.Heads.{strand_of}
use Rattle.judging.specs.laws.Accepted.{Sane}
use Rattle.lines.specs.Listing.{listing_text, judgment_text}

-- a strand's number
pub strand_fits : (forward : Bool) → SFits w32 (strand_of forward)
strand_fits true = record { sfits = omega arith }
strand_fits false = record { sfits = omega arith }

-- the tables of what was made
module _ (m : Made) {a : Tables} {n : ℕ} (tables_are : a ≡ tables_of (elements_made m)) (count_is : n ≡ length (elements_made m)) where
  pub made_holds : Sane m → Holds a n
  made_holds s = rw (tables_are, count_is) (made_hold (elements_made m) s.letters)

  pub made_listed : {forward : Bool} → forward ≡ m.forward → listing_text forward (read a n) ≡ judgment_text (Ok m)
  made_listed e = rw (tables_are, count_is, e, made_read (elements_made m))
