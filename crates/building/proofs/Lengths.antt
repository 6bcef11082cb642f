-- The judgment of a length, link by link. Assumes nothing.
use mathlib.Core.Path.{◌≡◌, refl}
use Prim.Native.Nat.{ℕ, ◌≤◌, ◌<◌}
use lib.IntN.{ℤ, nat_abs}
use borrow.Author.Tests.{lt-ltb, le-ltb}
use Rattle.refusals.specs.declared.Refusal.{Refusal}
use Rattle.refusals.specs.declared.Refusal.TheVariants.{NotTogether}
use Rattle.refusals.specs.Outcome.{Ok, Err, no_fault}
use Rattle.judging.specs.Judging.{half_fault, cds_fault, cds_of, length_fault, judge_length}
use Rattle.transcript.specs.Heads.{both_bits, start_of, end_of}

module _ (len : ℤ) (bits : ℕ) (start end : ℤ) where
  pub bits_unknown : both_bits < bits → judge_length len bits start end ≡ Err NotTogether
  unfolding judge_length
  bits_unknown h = rw (lt-ltb both_bits bits h)

  module _ (known : bits ≤ both_bits) where
    pub length_refused : {k : Refusal} → length_fault len ≡ Err k → judge_length len bits start end ≡ Err k
    unfolding judge_length
    length_refused e = rw (le-ltb both_bits bits known, e) refl

    module _ (long : length_fault len ≡ no_fault) where
      pub half_refused : {k : Refusal} → half_fault (start_of bits start) (end_of bits end) ≡ Err k → judge_length len bits start end ≡ Err k
      unfolding judge_length
      half_refused e = rw (le-ltb both_bits bits known, long, e) refl

      module _ (half : half_fault (start_of bits start) (end_of bits end) ≡ no_fault) where
        pub cds_refused : {k : Refusal} → cds_fault (start_of bits start) (end_of bits end) (nat_abs len) ≡ Err k → judge_length len bits start end ≡ Err k
        unfolding judge_length
        cds_refused e = rw (le-ltb both_bits bits known, long, half, e) refl

        pub length_accepted : cds_fault (start_of bits start) (end_of bits end) (nat_abs len) ≡ no_fault
            → judge_length len bits start end ≡ Ok (record { bases = nat_abs len; coding = cds_of (start_of bits start) (end_of bits end) })
        unfolding judge_length
        length_accepted e = rw (le-ltb both_bits bits known, long, half, e)
