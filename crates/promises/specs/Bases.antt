-- How HGVS names a base, the bases that demand 2 speaks of, and their exon numbers, in words of their own: they are counted over the elements, and no rule of the mapper is used. Assumes nothing.
use Rattle.std.specs.Prelude.{ℕ, ◌+◌, ◌-◌, ◌<◌, Bool, true, false, ◌||◌, List, [], ◌∷◌, ◌++◌, reverse, ◌≡◌, eqb, leb, ltb, ℤ, pos, neg_ℤ, length, if◌then◌else◌}
use Rattle.numbering.specs.Numbers.{plain_c, star_c}
use Rattle.numbering.specs.declared.CNumber.{CNumber}
use Rattle.cigar.specs.Elements.{Element, letter_equal, letter_m, letter_n, letter_x, genome, transcript, total}
use Rattle.transcript.specs.Transcript.{Transcript, exon_number}
use Rattle.positions.specs.Positions.{NPosition, CPosition}

-- ---- names

-- A name counts from an exon base: it says how many transcript bases are upstream of that one, and how far from it the named base is, above 0 downstream and below 0 upstream.
pub record Name : Type 0 where
  pub upstream : ℕ
  pub offset : ℤ

-- the n. number of an exon base is one more than the transcript bases upstream of it
abbrev pub n_name : Name → NPosition
n_name x = record { base = pos (x.upstream + 1); offset = x.offset }

-- the c. number of an exon base with m transcript bases upstream, where the CDS is s..e. Upstream of the CDS it counts back, the last base before the CDS being -1;
-- in the CDS it is one more than the CDS bases upstream of it; after the CDS it bears a star, and is one more than the bases between the two
unfoldable pub c_number : ℕ → ℕ → ℕ → CNumber
c_number s e m =
    if ltb m s then plain_c (neg_ℤ (pos (s - m)))
    else if ltb m e then plain_c (pos (m - s + 1))
    else star_c (pos (m - e + 1))

abbrev pub c_name : ℕ → ℕ → Name → CPosition
c_name s e x = record { base = c_number s e x.upstream; offset = x.offset }

-- ---- exon bases

-- the place p of the genome lies in an element
pub record Lies (es : List Element) (p : ℕ) : Type 0 where
  pub before : List Element
  pub element : Element
  pub after : List Element
  pub stands : es ≡ before ++ element ∷ after
  pub at : ℕ
  pub within : at < genome element
  pub place : p ≡ total genome before + at

-- = M X: a matched column on each base
unfoldable pub is_match : Element → Bool
is_match x = eqb x.letter letter_equal || eqb x.letter letter_m || eqb x.letter letter_x

-- the base at place p is in a matched column
pub record Matched (t : Transcript) (p : ℕ) : Type 0 where
  pub lies : Lies t.elements p
  pub match : is_match lies.element ≡ true

-- the transcript bases upstream of a column: those of the elements on that side, on strand 1 the elements before its own and on strand -1 those after it, and those of its own element
abbrev pub upstream_in : {es : List Element} {p : ℕ} → Bool → Lies es p → ℕ
upstream_in true own = total transcript own.before + own.at
upstream_in false own = total transcript own.after + (own.element.count - (own.at + 1))

abbrev pub upstream_of : {t : Transcript} {p : ℕ} → Matched t p → ℕ
upstream_of {t} b = upstream_in t.forward b.lies

abbrev pub exon_name : {t : Transcript} {p : ℕ} → Matched t p → Name
exon_name b = record { upstream = upstream_of b; offset = pos 0 }

-- ---- intron bases

-- the first element of non-zero count is =, M or X
unfoldable pub next_matches : List Element → Bool
next_matches [] = false
next_matches (x ∷ xs) = if eqb x.count 0 then next_matches xs else is_match x

-- the base at place p is in an intron: an N, whose nearest elements of non-zero count on both sides are =, M or X
pub record InIntron (t : Transcript) (p : ℕ) : Type 0 where
  pub lies : Lies t.elements p
  pub skip : lies.element.letter ≡ letter_n
  pub matched_before : next_matches (reverse lies.before) ≡ true
  pub matched_after : next_matches lies.after ≡ true

-- the places of the exon bases next to the intron, along the genome: the one before its first base, and the one after its last
abbrev pub place_before : {t : Transcript} {p : ℕ} → InIntron t p → ℕ
place_before b = total genome b.lies.before - 1

abbrev pub place_after : {t : Transcript} {p : ℕ} → InIntron t p → ℕ
place_after b = total genome b.lies.before + b.lies.element.count

-- the one upstream and the one downstream
abbrev pub upstream_place : {t : Transcript} {p : ℕ} → InIntron t p → ℕ
upstream_place {t} b = if t.forward then place_before b else place_after b

abbrev pub downstream_place : {t : Transcript} {p : ℕ} → InIntron t p → ℕ
downstream_place {t} b = if t.forward then place_after b else place_before b

-- how far apart two places are
abbrev pub apart : ℕ → ℕ → ℕ
apart p q = (p - q) + (q - p)

-- of the exon bases at u, upstream, and at d, downstream, the upstream one is the nearer to p; at the middle it counts as the nearer
unfoldable pub upstream_nearer : ℕ → ℕ → ℕ → Bool
upstream_nearer p u d = leb (apart p u) (apart p d)

-- the name of the base at place p between the two
unfoldable pub intron_name : {t : Transcript} {u d : ℕ} → ℕ → Matched t u → Matched t d → Name
intron_name {t} {u} {d} p up down =
    if upstream_nearer p u d then record { upstream = upstream_of up; offset = pos (apart p u) }
    else record { upstream = upstream_of down; offset = neg_ℤ (pos (apart p d)) }

-- ---- exon numbers

-- exon numbers of a transcript's bases: of each base in a matched column, and of each base of an intron, that on its left and that on its right along the genome
pub record Numbering (t : Transcript) : Type 0 where
  pub of_exon : (p : ℕ) → Matched t p → ℕ
  pub on_left : (p : ℕ) → InIntron t p → ℕ
  pub on_right : (p : ℕ) → InIntron t p → ℕ

-- the one upstream and the one downstream
abbrev pub upstream_number : {t : Transcript} {p : ℕ} → Numbering t → InIntron t p → ℕ
upstream_number {t} {p} n b = if t.forward then n.on_left p b else n.on_right p b

abbrev pub downstream_number : {t : Transcript} {p : ℕ} → Numbering t → InIntron t p → ℕ
downstream_number {t} {p} n b = if t.forward then n.on_right p b else n.on_left p b

-- by the elements' numbers: a column has that of its element; an intron's left side has that of the N, and its right side that of what follows the N
abbrev pub by_elements : (t : Transcript) → Numbering t
by_elements t = record {
  of_exon = λ p b. exon_number t (length b.lies.before);
  on_left = λ p b. exon_number t (length b.lies.before);
  on_right = λ p b. exon_number t (length b.lies.before + 1);
}

-- the numbers that go with a name: that with which the base is answered, and that with which the name, asked again, is answered
pub record ExonNumbers : Type 0 where
  pub of_base : ℕ
  pub of_name : ℕ

-- an exon base is the one that its name counts from
abbrev pub exon_base_numbers : {t : Transcript} {p : ℕ} → Numbering t → Matched t p → ExonNumbers
exon_base_numbers {t} {p} n b = record { of_base = n.of_exon p b; of_name = n.of_exon p b }

-- an intron base has the number of the side that its name counts from, and its name that of the exon base there
unfoldable pub intron_base_numbers : {t : Transcript} {p u d : ℕ} → Numbering t → InIntron t p → Matched t u → Matched t d → ExonNumbers
intron_base_numbers {t} {p} {u} {d} n b up down =
    if upstream_nearer p u d then record { of_base = upstream_number n b; of_name = n.of_exon u up }
    else record { of_base = downstream_number n b; of_name = n.of_exon d down }
