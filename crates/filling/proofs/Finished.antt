-- Tables that were filled and finished are those of the elements: what was stored, one after the other, is each table's entries, and 0 from there on. Assumes nothing.
use mathlib.Core.Path.{◌≡◌, refl, sym, ap, ◌∙◌}
use mathlib.Core.List.{List, [], ◌∷◌, ◌++◌}
use Prim.Native.Nat.{ℕ, ◌+◌, ◌-◌, ◌≤◌}
use native.Mathlib.Numerals.{add-one}
use native.Mathlib.Omega.{arith}
use lib.ListN.{length, set, replicate, length-append, length-map, length-replicate}
use lib.Seq.{sets}
use Rattle.refusals.specs.Numbers.{most_segments}
use Rattle.cigar.specs.laws.Stores.{sets_append}
use Rattle.cigar.specs.Elements.{Element, Side, genome, transcript}
use Rattle.cigar.specs.Read.{letters_of}
use Rattle.segments.specs.Tables.{Tables, entries_from, entries_of, padded, tables_of}
use Rattle.reading.specs.Tallies.{nothing, sums_of, one_on, sums_on}
use Rattle.reading.specs.laws.Texts.{sums_eq, on_one, on_none}
use Rattle.filling.specs.Filling.{Long, put, fill, tables_finished}
use Rattle.reading.specs.declared.Sums.{Sums}
use Rattle.filling.proofs.Fills.{tables_eq}
use Rattle.filling.proofs.Runs.{sets_whole}

-- ---- what a filled table holds, with the total of elements that go from s to `to` behind it, as a run of stores

fill_genome : (a : Tables) (s to : Sums) (es : List Element) → to ≡ sums_on s es → set (fill a s es).genome to.count to.genome ≡ sets a.genome s.count (entries_from genome s.genome es)
unfolding fill entries_from
fill_genome a s to [] e = rw (e ∙ on_none s)
fill_genome a s to (x ∷ xs) e = fill_genome (put a s x.letter) (one_on s x) to xs (e ∙ on_one s x xs) ∙ rw (add-one s.count)

fill_transcript : (a : Tables) (s to : Sums) (es : List Element) → to ≡ sums_on s es → set (fill a s es).transcript to.count to.transcript ≡ sets a.transcript s.count (entries_from transcript s.transcript es)
unfolding fill entries_from
fill_transcript a s to [] e = rw (e ∙ on_none s)
fill_transcript a s to (x ∷ xs) e = fill_transcript (put a s x.letter) (one_on s x) to xs (e ∙ on_one s x xs) ∙ rw (add-one s.count)

fill_letters : (a : Tables) (s : Sums) (es : List Element) → (fill a s es).letters ≡ sets a.letters s.count (letters_of es)
unfolding fill
fill_letters a s [] = refl
fill_letters a s (x ∷ xs) = fill_letters (put a s x.letter) (one_on s x) xs ∙ rw (add-one s.count)

-- ---- the whole table

entries_length : (side : Side) (f : ℕ) (es : List Element) → length (entries_from side f es) ≡ length es + 1
unfolding entries_from
entries_length side f [] = refl
entries_length side f (x ∷ xs) = omega (arith, entries_length side (f + side x) xs)

-- a run from the front and zeros behind it, up to the end, are all that a table holds
pub padded_whole : (entries table : List ℕ) {k n : ℕ} → length entries ≡ k → length table ≡ n → k ≤ n → sets (sets table 0 entries) k (replicate (n - k) 0) ≡ padded n entries
unfolding padded
padded_whole entries table {k} {n} e long h =
    let rest : List ℕ = replicate (n - k) 0 in
    let at : 0 + length entries ≡ k = omega arith in
    rw e
    (ap (λ (i : ℕ). sets (sets table 0 entries) i rest) (sym at)
    ∙ sym (sets_append entries rest table 0)
    ∙ sets_whole (entries ++ rest) table (omega (arith, length-append entries rest, length-replicate {A = ℕ} (n - k) 0)))

pub fill_finished : (es : List Element) → length es ≤ most_segments → (a : Tables) → Long a → tables_finished (fill a nothing es) (sums_of es) ≡ tables_of es
fill_finished es few a long =
    let to : sums_of es ≡ sums_on nothing es = sums_eq (omega arith) (omega arith) (omega arith) in
    rw (fill_genome a nothing (sums_of es) es to, fill_transcript a nothing (sums_of es) es to, fill_letters a nothing es)
    (tables_eq
    (padded_whole (entries_of genome es) a.genome (entries_length genome 0 es) long.genome_long (omega arith))
    (padded_whole (entries_of transcript es) a.transcript (entries_length transcript 0 es) long.transcript_long (omega arith))
    (padded_whole (letters_of es) a.letters (length-map es (λ (x : Element). x.letter)) long.letters_long few))
