-- A base that both ends of an interval carry to one place and offset, and whose place comes back to the exon base that the offset counts from, has a name and comes back from it. Assumes nothing.
use Prim.Native.Nat.{ℕ, ◌+◌, ◌≤◌, ◌<◌}
use native.Mathlib.Omega.{arith}
use mathlib.Core.Bool.{Bool, true, false}
use mathlib.Core.Path.{◌≡◌, ap}
use lib.IntN.{ℤ, pos, neg_ℤ, ◌+ℤ◌, ◌-ℤ◌}
use lib.Signed.{lt_z, ◌≤ℤ◌}
use lib.Dec.{leb, ltb}
use borrow.Author.Tests.{lt-leb, le-leb, le-ltb, ltb-true, ltb-false}
use Rattle.whole.specs.laws.Whole.{by_test, order, sum, dif, neg, up, dn}
use Rattle.whole.specs.Fits.{fits}
use Rattle.numbering.specs.Numbers.{n_of_place, place_of_n, plain_c, star_c, c_of_n}
use Rattle.numbering.specs.laws.RoundTrips.{place_back, above_back}
use Rattle.cigar.specs.Elements.{genome, transcript}
use Rattle.segments.specs.Places.{Edge, no_edge, surely, End, map_place}
use Rattle.segments.specs.Places.End.{start, stop}
use Rattle.segments.specs.Exons.{exon_found, exon_chosen}
use Rattle.transcript.specs.Transcript.{Transcript, exon_number, genome_length, transcript_length}
use Rattle.transcript.specs.Transcript.Cds.{cds}
use Rattle.positions.specs.Positions.{each, asks_n, asks_c}
use Rattle.positions.specs.Answers.{certainly, plainly}
use Rattle.positions.specs.laws.Fits.{fits_by}
use Rattle.coding.specs.Coding.{beyond, c_position, c_of_interval, map_n_to_c, n_position, map_c_to_n}
use Rattle.spots.specs.Mapping.{turned, signed, n_of_spot, g_of_spot, whole_n, map_g_to_n, g_of_ends, map_n_to_g}
use Rattle.mapper.specs.Chains.{map_g_to_c, map_c_to_g}
use Rattle.promises.specs.Bases.{Name, n_name, c_number, ExonNumbers}
use Rattle.promises.specs.Demands.{ours, single, g_number, asked_at, g_at, n_at, c_at, Named}
use Rattle.promises.proofs.InRange.{InRange}
use Rattle.promises.proofs.Fits.{Within, within_fits, signed_within, c_within}
use Rattle.promises.proofs.Turns.{turn_turn, sign_sign, across, turned_within, across_within, inside_within, n_of_place_lem, place_of_base, same_either}

-- the n. number of a place below the length, and back
number_of : (forward : Bool) (len q : ℕ) → q < len → n_of_place (turned forward len (pos q)) ≡ pos (across forward len q + 1)
number_of forward len q h = rw (turned_within forward len q h, n_of_place_lem (across forward len q))

place_of : (forward : Bool) (len q : ℕ) → q < len → turned forward len (place_of_n (pos (across forward len q + 1))) ≡ pos q
place_of forward len q h = rw (← number_of forward len q h, place_back (turned forward len (pos q)), turn_turn forward len (pos q))

-- a number that is n below 0
below_zero : (z : ℤ) (n : ℕ) → up z + n ≡ dn z → z ≡ neg_ℤ (pos n)
below_zero z n h = omega (order, neg (pos n))

-- the c. number of the n. number that is one more than m, counted
c_counted : (s e m : ℕ) → s ≤ e → c_of_n (pos s) (pos e) (pos (m + 1)) ≡ c_number s e m
unfolding c_of_n c_number
c_counted s e m ordered =
    let above : lt_z (pos 0) (pos (m + 1)) ≡ true = omega order in
    by_test (ltb m s)
    (λ t.
    let low : leb (m + 1) s ≡ true = le-leb (m + 1) s (omega (arith, ltb-true)) in
    rw (t, low, above) (ap plain_c (omega (arith, below_zero, dif (pos (m + 1)) (pos s), dif (pos (m + 1) -ℤ pos s) (pos 1), ltb-true))))
    (λ t.
    let low : leb (m + 1) s ≡ false = lt-leb (m + 1) s (omega (arith, ltb-false)) in
    by_test (ltb m e)
    (λ u.
    let high : leb (m + 1) e ≡ true = le-leb (m + 1) e (omega (arith, ltb-true)) in
    rw (t, low, u, high) (ap plain_c (omega (order, dif (pos (m + 1)) (pos s), ltb-false m s t))))
    (λ u.
    let high : leb (m + 1) e ≡ false = lt-leb (m + 1) e (omega (arith, ltb-false)) in
    rw (t, low, u, high) (ap star_c (omega (order, dif (pos (m + 1)) (pos e), ltb-false m e u)))))

pub record Reaches (t : Transcript) (p q a : ℕ) (o : ℤ) : Type 0 where
  pub segment : ℕ
  pub edge : Edge
  pub there : (e : End) → map_place genome transcript t.elements (pos p) e t.forward ≡ surely segment edge (pos q) o
  pub exon_segment : ℕ
  pub here : (e : End) → map_place transcript genome t.elements (pos q) e true ≡ surely exon_segment no_edge (pos a) (pos 0)
  pub sums : pos a +ℤ o ≡ pos p
  pub p_in : p < genome_length t
  pub q_in : q < transcript_length t
  pub o_in : Within (genome_length t) o

module _ (t : Transcript) (in_range : InRange t) (p q a : ℕ) (o : ℤ) (r : Reaches t p q a o) where
  -- the transcript bases upstream of the exon base
  abbrev m : ℕ
  m = across t.forward (transcript_length t) q

  abbrev x : Name
  x = record { upstream = m; offset = signed t.forward o }

  -- the number that the base is found with, and that of the exon base's own segment
  abbrev k : ExonNumbers
  k = record { of_base = exon_found (exon_number t) (surely r.segment r.edge (pos q) o); of_name = exon_number t r.exon_segment }

  m_in : m < transcript_length t
  m_in = across_within t.forward (transcript_length t) q r.q_in

  number_fits : fits (pos (m + 1)) ≡ true
  number_fits = fits_by (pos (m + 1)) (omega (arith, m_in, in_range.transcript_small)) (omega arith)

  offset_fits : fits x.offset ≡ true
  offset_fits = within_fits (genome_length t) x.offset (omega (arith, in_range.genome_small)) (signed_within t.forward (genome_length t) o r.o_in)

  base_fits : fits (g_number t p) ≡ true
  base_fits = fits_by (g_number t p) (omega (arith, r.p_in, in_range.genome_small)) (omega arith)

  to_n : map_g_to_n true t (asked_at t p) ≡ certainly (single k.of_base) (n_at x)
  unfolding map_g_to_n whole_n n_of_spot
  to_n = rw (place_of_base t.first p, inside_within (genome_length t) p r.p_in, r.there start, r.there stop, same_either t.forward (surely r.segment r.edge (pos q) o), number_of t.forward (transcript_length t) q r.q_in, number_fits, offset_fits)

  n_back : map_n_to_g true t (each asks_n (n_at x)) ≡ certainly (single k.of_name) (g_at t p)
  unfolding map_n_to_g g_of_ends g_of_spot exon_chosen
  n_back =
      let e : pos (a + t.first + 1) +ℤ o ≡ g_number t p = omega (order, sum (pos (a + t.first + 1)) o, sum (pos a) o, r.sums) in
      rw (same_either t.forward (asks_n (n_name x)), place_of t.forward (transcript_length t) q r.q_in, inside_within (transcript_length t) q r.q_in, r.here start, r.here stop, sign_sign t.forward o, e, base_fits)

  module _ (s e : ℕ) (coding : t.coding ≡ cds s e) where
    inside : (s ≤ e) × (e ≤ transcript_length t)
    inside = rw coding at in_range.cds_inside

    counted : c_of_n (pos s) (pos e) (pos (m + 1)) ≡ c_number s e m
    counted = c_counted s e m inside.0

    c_fits_lem : fits (c_number s e m).0 ≡ true
    c_fits_lem = rw (← counted) (within_fits (transcript_length t + 1) _ (omega (arith, in_range.transcript_small)) (c_within s e (m + 1) (transcript_length t) inside.0 inside.1 (omega arith) (omega (arith, m_in))))

    -- neither 15 nor 16 refuses the number
    low : leb (m + 1) 0 ≡ false
    low = lt-leb (m + 1) 0 (omega arith)

    high : ltb (transcript_length t) (m + 1) ≡ false
    high = le-ltb (transcript_length t) (m + 1) (omega (arith, m_in))

    to_c : map_g_to_c true t (asked_at t p) ≡ certainly (single k.of_base) (c_at s e x)
    unfolding map_g_to_c map_n_to_c c_of_interval beyond c_position
    to_c = rw (to_n, coding, low, high, counted, c_fits_lem, offset_fits)

    c_to_n : map_c_to_n true (transcript_length t) t.coding (each asks_c (c_at s e x)) ≡ plainly (n_at x)
    unfolding map_c_to_n n_position beyond
    c_to_n =
        let at_0 : pos 0 ≤ℤ pos s = omega order in
        let up : pos s ≤ℤ pos e = omega (order, inside.0) in
        let above : pos 1 ≤ℤ pos (m + 1) = omega order in
        rw (coding, ← counted, above_back (pos s) (pos e) (pos (m + 1)) at_0 up above, low, high, number_fits, offset_fits)

    c_back : map_c_to_g true t (each asks_c (c_at s e x)) ≡ certainly (single k.of_name) (g_at t p)
    unfolding map_c_to_g
    c_back = rw (c_to_n, n_back)

  pub has_name : Named ours t p x k
  has_name = record { g_to_n = to_n; n_to_g = n_back; g_to_c = to_c; c_to_g = c_back }
