-- Records that were read are as many as the records. Assumes nothing.
use Rattle.std.specs.Prelude.{ℕ, suc, ◌+◌, List, [], ◌∷◌, ◌≡◌, refl, length}
use Rattle.std.proofs.Common.{sym, ap, subst}
use Rattle.refusals.specs.Outcome.{Ok, Err, and_then}
use Rattle.cigar.specs.Text.{Reading}
use Rattle.records.specs.Records.{Record}
use Rattle.transcript.specs.Building.{Exon}
use Rattle.reading.specs.Reading.{Exons, exon_of, spanned, read_first, read_next, exons_after, exons_of}
use Rattle.reading.specs.laws.Spans.{before_all, ahead, followed}

-- n records, where they are not refused
abbrev pub Many : ℕ → Exons → Type 0
Many n (Ok xs) = length xs ≡ n
Many n (Err k) = Unit {0}

-- one record more, whose reading came before what follows it
one_more : (n : ℕ) (r : Record) (next : ℕ → Exons) → ((used : ℕ) → Many n (next used)) → (read : Reading) → Many (suc n) (and_then read (ahead r next))
one_more n r next h (Ok es) = go (exon_of r es) (next (length es)) (h (length es))
  where
    go : (x : Exon) (xs : Exons) → Many n xs → Many (suc n) (before_all x xs)
    go x (Ok xs) e = ap suc e
    go x (Err k) e = tt
one_more n r next h (Err k) = tt

pub after_many : (rs : List Record) (used : ℕ) → Many (length rs) (exons_after used rs)
unfolding exons_after
after_many [] used = refl
after_many (r ∷ rs) used =
    let next : ℕ → Exons = λ n. exons_after (used + 1 + n) rs in
    subst (Many (suc (length rs))) (sym (followed r (read_next used r) next)) (one_more (length rs) r next (λ n. after_many rs (used + 1 + n)) (spanned r (read_next used r)))

all_many : (rs : List Record) → Many (length rs) (exons_of rs)
unfolding exons_of
all_many [] = refl
all_many (r ∷ rs) =
    let next : ℕ → Exons = λ n. exons_after n rs in
    subst (Many (suc (length rs))) (sym (followed r (read_first r) next)) (one_more (length rs) r next (after_many rs) (spanned r (read_first r)))

pub all_count : (rs : List Record) (xs : List Exon) → exons_of rs ≡ Ok xs → length xs ≡ length rs
all_count rs xs e = subst (Many (length rs)) e (all_many rs)
