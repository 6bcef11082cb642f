-- Demand 3 over elements: with elements xs before and zs after, along the genome, the CDS moved up by the transcript bases that stand upstream, and the exon numbers by the records that do, each answer stays but for its exon numbers, which move up as much. Assumes nothing.
use Prim.Native.Nat.{ℕ, ◌+◌, ◌≤◌, ◌<◌}
use native.Mathlib.Omega.{arith}
use mathlib.Core.Bool.{Bool, true, false, cond, ◌&&◌, ◌||◌}
use mathlib.Core.List.{List, ◌++◌}
use mathlib.Core.Path.{◌≡◌, refl, ap, ◌∙◌}
use lib.IntN.{ℤ, pos, ◌+ℤ◌, ◌-ℤ◌}
use lib.ListN.{length}
use lib.Signed.{le_z, lt_z}
use Rattle.refusals.specs.Numbers.{most_bases}
use Rattle.refusals.specs.Outcome.{Outcome, Ok, Err, Answered, through}
use Rattle.refusals.specs.laws.Outcomes.{clash, same}
use Rattle.whole.specs.laws.Whole.{by_test, both, both_of, order, sum, dif, neither}
use Rattle.whole.specs.Fits.{fits}
use Rattle.numbering.specs.Numbers.{n_of_place, place_of_n, n_of_c}
use Rattle.numbering.specs.laws.RoundTrips.{place_back}
use Rattle.cigar.specs.Elements.{Element, Side, genome, transcript, total}
use Rattle.segments.specs.Places.{Spot, Edge, no_edge, left_edge, right_edge, End, map_place}
use Rattle.segments.specs.Places.End.{start, stop}
use Rattle.segments.specs.Exons.{exon_found, exon_chosen}
use Rattle.segments.specs.laws.Totals.{total_append}
use Rattle.segments.proofs.laws.Spotting.{inside, number_below}
use Rattle.segments.proofs.laws.Amid.{slid, place_amid}
use Rattle.transcript.specs.Transcript.{Transcript, exon_number, genome_length, transcript_length}
use Rattle.transcript.specs.Transcript.Cds.{cds}
use Rattle.positions.specs.Positions.{Interval, each, NAsked, CAsked, GPosition, NPosition, CPosition, asks_n}
use Rattle.positions.specs.Answers.{Mark, unmarked, mark_of, Answer, plainly, ends, after, chain, n_fits, g_fits, c_fits, fitting}
use Rattle.positions.specs.laws.Ends.{row_plain}
use Rattle.positions.specs.laws.Fits.{fits_by}
use Rattle.coding.specs.Coding.{beyond, c_position, c_of_interval, map_n_to_c, n_position, map_c_to_n}
use Rattle.spots.specs.Mapping.{turned, signed, earlier, later, found_exons, chosen_exons, place_of_g, n_of_spot, whole_n, map_g_to_n, g_of_spot, g_of_ends, map_n_to_g}
use Rattle.mapper.specs.Chains.{map_g_to_c, map_c_to_g}
use Rattle.promises.specs.Demands.{mark_up, answer_up, BaseOf}
use Rattle.promises.proofs.Turns.{inside_within, beyond_means, place_of_base, answered_on_bases, either, turned_within, across, across_within, n_of_place_lem}
use Rattle.promises.proofs.Shifts.{c_stays, place_goes_up, n_goes_up, turn_there, turn_back}

-- a change of two is a change of the chosen one
either_way : {A B : Type 0} (f : A → B) (forward : Bool) (a b : A) → cond forward (f a) (f b) ≡ f (cond forward a b)
either_way f true a b = refl
either_way f false a b = refl

-- an n. position, n further on
abbrev raised : ℕ → NPosition → NPosition
raised n a = record { base = pos n +ℤ a.base; offset = a.offset }

-- the n. number is above 0 and at most the length
abbrev Below : ℕ → NPosition → Type 0
Below len a = (r : ℕ) × (a.base ≡ pos (r + 1)) × (r < len)

-- where neither 15 nor 16 refuses
above : (len : ℕ) (n : ℤ) → beyond true len n ≡ false → le_z n (pos 0) ≡ false
unfolding beyond
above len n h = (neither (le_z n (pos 0)) (lt_z (pos len) n) h).0

place_of_number : (r : ℕ) → place_of_n (pos (r + 1)) ≡ pos r
place_of_number r = rw (← n_of_place_lem r) (place_back (pos r))

-- an n. position, by its place
abbrev by_place : ℤ → ℤ → NPosition
by_place z o = record { base = n_of_place z; offset = o }

-- 17 of an n. interval, and the second step of g. to c.
abbrev onward : Transcript → Mark → NPosition → NPosition → Answer CPosition
onward t m a b = chain asks_n (fitting n_fits (Ok (record { mark = m; interval = record { from = a; to = b } }))) (map_n_to_c true (transcript_length t) t.coding)

-- ---- numbers moved up

-- of a mark, by its certainty
mark_up_lem : (n : ℕ) (sure : Bool) (exons : Interval ℕ) → mark_of sure (each (λ (k : ℕ). k + n) exons) ≡ mark_up n (mark_of sure exons)
mark_up_lem n true exons = refl
mark_up_lem n false exons = refl

-- 17 does not look at them, and neither does a step that bears no mark
fitting_up : (n : ℕ) (a : Answer GPosition) → fitting g_fits (answer_up n a) ≡ answer_up n (fitting g_fits a)
fitting_up n (Ok a) = by_test (g_fits a.interval.from && g_fits a.interval.to) (λ f. rw f) (λ f. rw f)
fitting_up n (Err k) = refl

plain_up : {P : Type 0} (n : ℕ) (m : Mark) (fit : P → Bool) (i : Interval P) → through (after (mark_up n m)) (fitting fit (plainly i)) ≡ answer_up n (through (after m) (fitting fit (plainly i)))
plain_up n m fit i = by_test (fit i.from && fit i.to) (λ f. rw (f, row_plain m, row_plain (mark_up n m))) (λ f. rw f)

after_up : {P : Type 0} (n : ℕ) (a : Answer P) → through (after unmarked) (answer_up n a) ≡ answer_up n (through (after unmarked) a)
after_up n (Ok a) = refl
after_up n (Err k) = refl

-- ---- the shorter and the longer, with their exon numbers and record counts

module _ (forward : Bool) (first : ℕ) (xs ys zs : List Element) (numbers all_numbers : List ℕ) (count all_count : ℕ) (s e : ℕ) where
  abbrev pub up : ℕ
  up = cond forward (total transcript xs) (total transcript zs)

  abbrev pub short : Transcript
  short = record { forward = forward; first = first + total genome xs; elements = ys; numbers = numbers; records = count; coding = cds s e }

  abbrev pub long : Transcript
  long = record { forward = forward; first = first; elements = xs ++ (ys ++ zs); numbers = all_numbers; records = all_count; coding = cds (s + up) (e + up) }

  abbrev len : ℕ
  len = transcript_length short

  long_total : transcript_length long ≡ total transcript xs + (len + total transcript zs)
  long_total = rw (total_append transcript xs (ys ++ zs), total_append transcript ys zs)

  long_genome : genome_length long ≡ total genome xs + (total genome ys + total genome zs)
  long_genome = rw (total_append genome xs (ys ++ zs), total_append genome ys zs)

  up_fits : up + len ≤ transcript_length long
  up_fits = either (λ (n : ℕ). n + len ≤ transcript_length long) forward (total transcript xs) (total transcript zs) (omega (arith, long_total)) (omega (arith, long_total))

  turned_long : (z : ℤ) → turned forward (transcript_length long) (pos (total transcript xs) +ℤ z) ≡ pos up +ℤ turned forward len z
  turned_long z = rw long_total (turn_there (total transcript xs) (total transcript zs) len forward z)

  -- a place of the shorter lies in one of its elements
  own_number : (from to : Side) (p : ℕ) (e : End) (f : Bool) → p < total from ys → (map_place from to ys (pos p) e f).number < length ys
  own_number from to p e f h = number_below from to ys (pos p) e f (omega (arith, (inside from ys p h).below))

  -- a spot of the shorter as the longer has it
  abbrev moved : Spot → Spot
  moved a = slid (length xs) (total transcript xs) a

  -- the numbers of the shorter's elements, and what stands behind the last, are `more` higher in the longer
  abbrev pub Higher : ℕ → Type 0
  Higher more = (i : ℕ) → i ≤ length ys → exon_number long (length xs + i) ≡ exon_number short i + more

  module _ (more : ℕ) (higher : Higher more) where
    higher_next : (i : ℕ) → i < length ys → exon_number long (length xs + i + 1) ≡ exon_number short (i + 1) + more
    higher_next i h = let at : length xs + i + 1 ≡ length xs + (i + 1) = omega arith in rw at (higher (i + 1) (omega arith))

    -- so are those of a spot
    found_higher : (b : ℕ) (a : Spot) → a.number < length ys → exon_found (exon_number long) (slid (length xs) b a) ≡ exon_found (exon_number short) a + more
    unfolding exon_found
    found_higher b a h = go a.edge
      where
        go : (e : Edge) → exon_found (exon_number long) (slid (length xs) b (record { place = a.place; offset = a.offset; sure = a.sure; number = a.number; edge = e }))
            ≡ exon_found (exon_number short) (record { place = a.place; offset = a.offset; sure = a.sure; number = a.number; edge = e }) + more
        go no_edge = higher a.number (omega arith)
        go left_edge = higher a.number (omega arith)
        go right_edge = higher_next a.number h

    chosen_higher : (b : ℕ) (a : Spot) → a.number < length ys → exon_chosen forward (exon_number long) (slid (length xs) b a) ≡ exon_chosen forward (exon_number short) a + more
    unfolding exon_chosen
    chosen_higher b a h = go a.edge forward
      where
        go : (e : Edge) (f : Bool) → exon_chosen f (exon_number long) (slid (length xs) b (record { place = a.place; offset = a.offset; sure = a.sure; number = a.number; edge = e }))
            ≡ exon_chosen f (exon_number short) (record { place = a.place; offset = a.offset; sure = a.sure; number = a.number; edge = e }) + more
        go no_edge f = higher a.number (omega arith)
        go left_edge true = higher a.number (omega arith)
        go left_edge false = higher_next a.number h
        go right_edge true = higher a.number (omega arith)
        go right_edge false = higher_next a.number h

    -- and the marks of two spots
    found_mark : (a b : Spot) → a.number < length ys → b.number < length ys
        → mark_of (a.sure && b.sure) (found_exons forward (exon_number long) (moved a) (moved b)) ≡ mark_up more (mark_of (a.sure && b.sure) (found_exons forward (exon_number short) a b))
    found_mark a b h k =
        let c = earlier forward a b in
        let d = later forward a b in
        rw (
          either_way moved forward a b,
          either_way moved forward b a,
          found_higher (total transcript xs) c (either InOwn forward a b h k),
          found_higher (total transcript xs) d (either InOwn forward b a k h),
        )
        (mark_up_lem more (a.sure && b.sure) (found_exons forward (exon_number short) a b))
      where
        InOwn : Spot → Type 0
        InOwn a = a.number < length ys

    chosen_mark : (n : ℕ) (a b : Spot) → a.number < length ys → b.number < length ys
        → mark_of (a.sure && b.sure) (chosen_exons forward (exon_number long) (slid (length xs) n a) (slid (length xs) n b)) ≡ mark_up more (mark_of (a.sure && b.sure) (chosen_exons forward (exon_number short) a b))
    chosen_mark n a b h k = rw (chosen_higher n a h, chosen_higher n b k) (mark_up_lem more (a.sure && b.sure) (chosen_exons forward (exon_number short) a b))

  module _ (small : transcript_length long ≤ most_bases) where
    -- a number that the shorter has, as many numbers further on: the longer has it, and it fits
    number_kept : (n : ℤ) → beyond true len n ≡ false → (beyond true (transcript_length long) (pos up +ℤ n) ≡ false) × (fits (pos up +ℤ n) ≡ true)
    unfolding beyond
    number_kept n h =
        let (low, high) = neither (le_z n (pos 0)) (lt_z (pos len) n) h in
        let low' : le_z (pos up +ℤ n) (pos 0) ≡ false = omega (order, sum (pos up) n) in
        let high' : lt_z (pos (transcript_length long)) (pos up +ℤ n) ≡ false = omega (order, sum (pos up) n, up_fits) in
        (rw (low', high') refl, fits_by (pos up +ℤ n) (omega (order, sum (pos up) n, up_fits)) (omega (order, sum (pos up) n)))

    -- ---- g. to c.

    place_kept : (z : ℤ) → beyond true len (n_of_place z) ≡ false → (beyond true (transcript_length long) (n_of_place (pos up +ℤ z)) ≡ false) × (fits (n_of_place (pos up +ℤ z)) ≡ true)
    place_kept z h = rw (place_goes_up up z (above len (n_of_place z) h)) (number_kept (n_of_place z) h)

    -- where the shorter answers, neither 17 nor 15 refused it; then neither refuses the longer, and each c. number stays
    onward_kept : (n : ℕ) (m : Mark) (z w o v : ℤ)
        → Answered (onward short m (by_place z o) (by_place w v)) → onward long (mark_up n m) (by_place (pos up +ℤ z) o) (by_place (pos up +ℤ w) v) ≡ answer_up n (onward short m (by_place z o) (by_place w v))
    unfolding map_n_to_c c_of_interval c_position
    onward_kept n m z w o v =
        by_test (n_fits (by_place z o) && n_fits (by_place w v))
        (λ f.
        by_test (beyond true len (n_of_place z) || beyond true len (n_of_place w))
        (λ t. rw (f, t) (λ bad. absurd bad))
        (λ t.
        let (z_in, w_in) = neither (beyond true len (n_of_place z)) (beyond true len (n_of_place w)) t in
        let (z_long, z_fits) = place_kept z z_in in
        let (w_long, w_fits) = place_kept w w_in in
        let (from_fits, to_fits) = both (n_fits (by_place z o)) (n_fits (by_place w v)) f in
        let fit = both_of (both_of z_fits (both (fits (n_of_place z)) (fits o) from_fits).1) (both_of w_fits (both (fits (n_of_place w)) (fits v) to_fits).1) in
        rw (f, t, fit, z_long, w_long, c_stays up s e z, c_stays up s e w) (λ ok. plain_up n m c_fits _)))
        (λ f. rw f (λ bad. absurd bad))

    -- from the spots of the two ends
    spots_kept : (n : ℕ) (a b : Spot) (m : Mark)
        → Answered (onward short m (n_of_spot short (earlier forward a b)) (n_of_spot short (later forward a b)))
        → onward long (mark_up n m) (n_of_spot long (earlier forward (moved a) (moved b))) (n_of_spot long (later forward (moved a) (moved b))) ≡ answer_up n (onward short m (n_of_spot short (earlier forward a b)) (n_of_spot short (later forward a b)))
    unfolding n_of_spot
    spots_kept n a b m =
        let c = earlier forward a b in
        let d = later forward a b in
        rw (either_way moved forward a b, either_way moved forward b a, turned_long c.place, turned_long d.place)
        (onward_kept n m (turned forward len c.place) (turned forward len d.place) (signed forward c.offset) (signed forward d.offset))

    place_long : (g : ℤ) → place_of_g first g ≡ pos (total genome xs) +ℤ place_of_g short.first g
    place_long g = omega (order, dif g (pos 1), dif (g -ℤ pos 1) (pos first), dif (g -ℤ pos 1) (pos short.first), sum (pos (total genome xs)) (place_of_g short.first g))

    -- on bases of the shorter
    bases_kept : (more : ℕ) → Higher more → (i : Interval ℤ) → BaseOf short i.from → BaseOf short i.to → Answered (map_g_to_c true short i) → map_g_to_c true long i ≡ answer_up more (map_g_to_c true short i)
    unfolding map_g_to_c map_g_to_n whole_n
    bases_kept more higher i (p, from, p_in) (q, to, q_in) =
        let a = map_place genome transcript ys (pos p) start forward in
        let b = map_place genome transcript ys (pos q) stop forward in
        let at_p : place_of_g short.first i.from ≡ pos p = rw from (place_of_base short.first p) in
        let at_q : place_of_g short.first i.to ≡ pos q = rw to (place_of_base short.first q) in
        rw (
          place_long i.from,
          place_long i.to,
          at_p,
          at_q,
          inside_within (genome_length short) p p_in,
          inside_within (genome_length short) q q_in,
          inside_within (genome_length long) (total genome xs + p) (omega (arith, long_genome)),
          inside_within (genome_length long) (total genome xs + q) (omega (arith, long_genome)),
          place_amid genome transcript xs ys zs p start forward p_in,
          place_amid genome transcript xs ys zs q stop forward q_in,
          found_mark more higher a b (own_number genome transcript p start forward p_in) (own_number genome transcript q stop forward q_in),
        )
        (spots_kept more a b (mark_of (a.sure && b.sure) (found_exons forward (exon_number short) a b)))

    pub g_to_c_kept : (more : ℕ) → Higher more → (i : Interval ℤ) → Answered (map_g_to_c true short i) → map_g_to_c true long i ≡ answer_up more (map_g_to_c true short i)
    g_to_c_kept more higher i ok = let (from, to) = answered_on_bases short i ok in bases_kept more higher i from to ok

    -- ---- c. to g.

    -- one end of the first step: where the shorter answers, so does the longer, as many numbers further on
    end_kept : (c : CAsked) (a : NPosition) → n_position true len s e c ≡ Ok a → (n_position true (transcript_length long) (s + up) (e + up) c ≡ Ok (raised up a)) × Below len a
    unfolding n_position
    end_kept c a =
        let n = n_of_c (pos s) (pos e) c.base in
        by_test (beyond true len n)
        (λ t. rw t (λ h. absurd (clash h)))
        (λ t.
        by_test (fits n && fits c.offset)
        (λ f. rw (t, f) (λ h.
        let (n_long, n_fits_lem) = number_kept n t in
        rw (← same h) (rw (n_goes_up up s e c.base (above len n t), n_long, n_fits_lem, (both (fits n) (fits c.offset) f).1) refl, beyond_means len n t)))
        (λ f. rw (t, f) (λ h. absurd (clash h))))

  g_same : (a : Spot) (o : ℤ) → g_of_spot long (slid (length xs) (total genome xs) a) o ≡ g_of_spot short a o
  unfolding g_of_spot
  g_same a o =
      let n = total genome xs in
      let z = a.place in
      let v : pos n +ℤ z +ℤ pos first +ℤ pos 1 ≡ z +ℤ pos (first + n) +ℤ pos 1 = omega (order, sum (pos n) z, sum (pos n +ℤ z) (pos first), sum (pos n +ℤ z +ℤ pos first) (pos 1), sum z (pos (first + n)), sum (z +ℤ pos (first + n)) (pos 1)) in
      rw v

  module _ (r : ℕ) (r_in : r < len) where
    at_short : turned forward len (place_of_n (pos (r + 1))) ≡ pos (across forward len r)
    at_short = rw (place_of_number r) (turned_within forward len r r_in)

    at_long : turned forward (transcript_length long) (place_of_n (pos (up + (r + 1)))) ≡ pos (total transcript xs + across forward len r)
    at_long =
        let v : up + (r + 1) ≡ up + r + 1 = omega arith in
        rw (v, place_of_number (up + r), long_total)
        (turn_back (total transcript xs) (total transcript zs) len forward (pos r)
        ∙ ap (λ (z : ℤ). pos (total transcript xs) +ℤ z) (turned_within forward len r r_in))

  ends_kept : (more : ℕ) → Higher more → (a b : NPosition) → Below len a → Below len b → g_of_ends true long (asks_n (raised up a)) (asks_n (raised up b)) ≡ answer_up more (g_of_ends true short (asks_n a) (asks_n b))
  unfolding g_of_ends
  ends_kept more higher a b (r, e, r_in) (v, u, v_in) =
      let k = across forward len r in
      let l = across forward len v in
      let k_in = across_within forward len r r_in in
      let l_in = across_within forward len v v_in in
      rw (
        e,
        u,
        at_short r r_in,
        at_short v v_in,
        at_long r r_in,
        at_long v v_in,
        inside_within len k (omega arith),
        inside_within len l (omega arith),
        inside_within (transcript_length long) (total transcript xs + k) (omega (arith, long_total)),
        inside_within (transcript_length long) (total transcript xs + l) (omega (arith, long_total)),
        place_amid transcript genome xs ys zs k start true k_in,
        place_amid transcript genome xs ys zs l stop true l_in,
        g_same (map_place transcript genome ys (pos k) start true) a.offset,
        g_same (map_place transcript genome ys (pos l) stop true) b.offset,
        chosen_mark more higher (total genome xs) (map_place transcript genome ys (pos k) start true) (map_place transcript genome ys (pos l) stop true) (own_number transcript genome k start true k_in) (own_number transcript genome l stop true l_in),
      )

  n_to_g_kept : (more : ℕ) → Higher more → (a b : NPosition) → Below len a → Below len b
      → map_n_to_g true long (record { from = asks_n (raised up a); to = asks_n (raised up b) }) ≡ answer_up more (map_n_to_g true short (record { from = asks_n a; to = asks_n b }))
  unfolding map_n_to_g
  n_to_g_kept more higher a b h k =
      rw (either_way raised_asked forward a b, either_way raised_asked forward b a, either_way asks_n forward a b, either_way asks_n forward b a)
      (ap (fitting g_fits) (ends_kept more higher (earlier forward a b) (later forward a b) (either (Below len) forward a b h k) (either (Below len) forward b a k h))
      ∙ fitting_up more (g_of_ends true short (asks_n (earlier forward a b)) (asks_n (later forward a b))))
    where
      raised_asked : NPosition → NAsked
      raised_asked a = asks_n (raised up a)

  pub c_to_g_kept : transcript_length long ≤ most_bases → (more : ℕ) → Higher more → (i : Interval CAsked) → Answered (map_c_to_g true short i) → map_c_to_g true long i ≡ answer_up more (map_c_to_g true short i)
  unfolding map_c_to_g map_c_to_n
  c_to_g_kept small more higher i = go (n_position true len s e i.from) refl (n_position true len s e i.to) refl
    where
      go : (a : Outcome NPosition) → n_position true len s e i.from ≡ a → (b : Outcome NPosition) → n_position true len s e i.to ≡ b
          → Answered (chain asks_n (ends unmarked a b) (map_n_to_g true short)) → map_c_to_g true long i ≡ answer_up more (chain asks_n (ends unmarked a b) (map_n_to_g true short))
      go (Ok a) from (Ok b) to ok =
          let (from_long, a_in) = end_kept small i.from a from in
          let (to_long, b_in) = end_kept small i.to b to in
          rw (from_long, to_long, n_to_g_kept more higher a b a_in b_in) (after_up more (map_n_to_g true short (record { from = asks_n a; to = asks_n b })))
      go (Ok a) from (Err k) to bad = absurd bad
      go (Err k) from b to bad = absurd bad
