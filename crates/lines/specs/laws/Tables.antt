-- What is shown of the definitions of Tables. Assumes nothing.
use Rattle.std.specs.Prelude.{◌≡◌, Bool, get_or}
use Rattle.std.proofs.Math.Path.{refl, sym, ap, ap₂}
use Rattle.std.proofs.Common.{◌∙◌, arith}
use mathlib.Core.List.{List, ◌++◌}
use Prim.Native.Nat.{ℕ, zero, suc, ◌+◌, ◌≤◌}
use Rattle.segments.specs.Tables.{Tables, Holds, elements_from, read}
use Rattle.segments.specs.laws.Reading.{read_length, genome_step, transcript_step, last_genome, last_transcript}
use Rattle.lines.specs.Listing.{listing_header, lines_text, listing_text}
use Rattle.lines.specs.Tables.{line_at, lines_from}

module _ (a : Tables) (n : ℕ) (holds : Holds a n) where
  lines_are : (i m : ℕ) → i + m ≤ n → lines_from a i m ≡ lines_text (get_or a.genome i 0) (get_or a.transcript i 0) (elements_from a i m)
  unfolding lines_from line_at lines_text elements_from
  lines_are i zero h = refl
  lines_are i (suc m) h =
      ap (λ (s : List ℕ). line_at a i ++ s)
      (lines_are (i + 1) m (omega arith)
      ∙ sym
      (ap₂ (λ (x y : ℕ). lines_text x y (elements_from a (i + 1) m))
      (genome_step a n holds i (omega arith))
      (transcript_step a n holds i (omega arith))))

  pub listing_is : (forward : Bool) → listing_header forward n (get_or a.genome n 0) (get_or a.transcript n 0) ++ lines_from a 0 n ≡ listing_text forward (read a n)
  unfolding listing_text
  listing_is forward =
      rw (read_length a n, last_genome a n holds, last_transcript a n holds)
      (ap (λ (s : List ℕ). listing_header forward n (get_or a.genome n 0) (get_or a.transcript n 0) ++ s)
      (lines_are 0 n (omega arith)
      ∙ ap₂ (λ (x y : ℕ). lines_text x y (read a n)) holds.genome_from_0 holds.transcript_from_0))
