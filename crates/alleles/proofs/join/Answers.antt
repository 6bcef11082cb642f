-- `alleles::join` meets its contract: the tests are those of the join in its order, and nothing is stored until all of them have passed. Assumes nothing.
use Prim.Native.Nat.{ℕ, ◌≤◌}
use mathlib.Core.Bool.{Bool, true, ◌&&◌}
use mathlib.Core.List.{List, ◌++◌}
use mathlib.Core.Path.{◌≡◌, refl, sym, ap, ap₂, ◌∙◌}
use lib.ListN.{length, drop}
use Rattle.refusals.specs.Outcome.{Answered, no_fault, through}
use Rattle.whole.specs.laws.Whole.{both}
use Rattle.holding.specs.Holding.{Lent, lent}
use Rattle.positions.specs.Positions.{Interval, GAsked, CPosition}
use Rattle.positions.specs.Answers.{Answer}
use Rattle.positions.specs.Paper.{paper_c}
use Rattle.strands.specs.declared.Removed.{Removed}
use Rattle.sequences.specs.Slices.{slice_of}
use Rattle.strands.specs.Turned.{are_bases, on_strand}
use Rattle.strands.specs.Trimmed.{removed_of}
use Rattle.alleles.specs.Joining.{Alleles, alleles, Rooms, rooms, Trimmed, beside, joined, laid_with}
use Rattle.alleles.specs.Deciding.{enough, first_refusal}
use Rattle.alleles.specs.laws.Ordering as order
use Rattle.alleles.specs.laws.Ordering.{both_bases, have_room, laid_goes, reference_goes, alternative_goes}
use Rattle.alleles.proofs.Parts.{part_read, part_length, part_bases, rooms_say}
use Rattle.alleles.proofs.join.Goals as goal
use Rattle.alleles.proofs.join.Goals.{After-first_refusal, In-Ok}

-- what was found before the test
module _ (c : After-first_refusal) where
  abbrev x : Lent
  x = lent c.args.head c.args.genome.now c.args.transcript.now c.args.letters.now c.args.exons.now

  abbrev strict : Bool
  strict = c.args.strict

  abbrev q : Interval GAsked
  q = c.args.q

  abbrev r : List ℕ
  r = c.args.reference.now

  abbrev a : List ℕ
  a = c.args.alternative.now

  abbrev s : Alleles
  s = alleles r a

  abbrev room : Rooms
  room = rooms (length c.args.reference_out.now) (length c.args.alternative_out.now)

  abbrev plain : Answer CPosition
  plain = order.plain x strict q s room

  abbrev cuts : Trimmed
  cuts = order.parts x strict q s room

  asked : paper_c c.g_to_c-told.result ≡ plain
  asked = c.g_to_c-told.ensures

  gone_is : c.trim-gone.result ≡ cuts.gone
  gone_is = c.trim-gone.ensures ∙ ap (λ (b : Bool). removed_of (on_strand b r) (on_strand b a)) c.reads_back-back.ensures

  reference_read : on_strand c.reads_back-back.result c.left-r.result.now ≡ cuts.left.reference
  reference_read = part_read _ _ r a _ (slice_of c.args.reference) _ c.reads_back-back.ensures c.trim-gone.ensures c.left-r.ensures

  reference_long : length c.left-r.result.now ≡ length cuts.left.reference
  reference_long = part_length _ _ r a _ (slice_of c.args.reference) _ c.reads_back-back.ensures c.trim-gone.ensures c.left-r.ensures

  alternative_read : on_strand c.reads_back-back.result c.left-a.result.now ≡ cuts.left.alternative
  alternative_read = part_read _ _ r a _ (slice_of c.args.alternative) _ c.reads_back-back.ensures c.trim-gone.ensures c.left-a.ensures

  alternative_long : length c.left-a.result.now ≡ length cuts.left.alternative
  alternative_long = part_length _ _ r a _ (slice_of c.args.alternative) _ c.reads_back-back.ensures c.trim-gone.ensures c.left-a.ensures

  found : c.first_refusal.result ≡ order.fault x strict q s room
  found =
      c.first_refusal.ensures
      ∙ ap (λ (o : Answer CPosition). first_refusal o c.are_both_bases-bases.result c.have_room-room.result) asked
      ∙ ap₂ (first_refusal plain) c.are_both_bases-bases.ensures
      (c.have_room-room.ensures ∙ ap₂ (λ (m n : ℕ). enough room.reference m && enough room.alternative n) reference_long alternative_long)

  -- where the tests passed
  module _ (passed : c.first_refusal.result ≡ no_fault) where
    went : (both_bases s ≡ true) × (have_room room cuts ≡ true) × Answered plain × (joined x strict q s room ≡ through (beside cuts) plain)
    went = order.goes x strict q s room (sym found ∙ passed)

    reference_may : (are_bases c.left-r.result.now ≡ true) × (length c.left-r.result.now ≤ length c.args.reference_out.now)
    reference_may = (
      part_bases c.reads_back-back.result c.trim-gone.result (slice_of c.args.reference) _ c.left-r.ensures (both (are_bases r) (are_bases a) went.0).0,
      rw reference_long (rooms_say room cuts went.1).0,
    )

    alternative_may : (are_bases c.left-a.result.now ≡ true) × (length c.left-a.result.now ≤ length c.args.alternative_out.now)
    alternative_may = (
      part_bases c.reads_back-back.result c.trim-gone.result (slice_of c.args.alternative) _ c.left-a.ensures (both (are_bases r) (are_bases a) went.0).1,
      rw alternative_long (rooms_say room cuts went.1).1,
    )

pub put_on_strand-requires : goal.put_on_strand-requires
put_on_strand-requires c = reference_may (goal.at.put_on_strand-requires c).After-first_refusal c.in-Ok.is

pub put_on_strand-requires-in-Ok : goal.put_on_strand-requires-in-Ok
put_on_strand-requires-in-Ok c = alternative_may (goal.at.put_on_strand-requires-in-Ok c).After-first_refusal c.in-Ok.is

pub returns-in-Ok : goal.returns-in-Ok
returns-in-Ok c =
    let g = (goal.at.returns-in-Ok c).After-first_refusal in
    let w = went g c.in-Ok.is in
    rw w.3 record {
      value = c.told_with.ensures
          ∙ ap (λ (o : Answer CPosition). laid_with o c.trim-gone.result (length c.left-r.result.now) (length c.left-a.result.now)) (asked g)
          ∙ ap (λ (n : Removed). laid_with (plain g) n (length c.left-r.result.now) (length c.left-a.result.now)) (gone_is g)
          ∙ ap₂ (laid_with (plain g) (cuts g).gone) (reference_long g) (alternative_long g)
          ∙ laid_goes (cuts g) (plain g) w.2;
      reference_out_after = c.put_on_strand.ensures
          ∙ ap₂ (λ (text : List ℕ) (n : ℕ). text ++ drop n c.args.reference_out.now) (reference_read g) (reference_long g)
          ∙ reference_goes c.args.reference_out.now (cuts g) (plain g) w.2;
      alternative_out_after = c.put_on_strand-in-Ok.ensures
          ∙ ap₂ (λ (text : List ℕ) (n : ℕ). text ++ drop n c.args.alternative_out.now) (alternative_read g) (alternative_long g)
          ∙ alternative_goes c.args.alternative_out.now (cuts g) (plain g) w.2;
    }

pub returns-in-Err : goal.returns-in-Err
returns-in-Err c =
    let g = (goal.at.returns-in-Err c).After-first_refusal in
    rw (order.stops (x g) (strict g) (q g) (s g) (room g) (sym (found g) ∙ c.in-Err.is)) record { value = c.refused.ensures; reference_out_after = refl; alternative_out_after = refl }
