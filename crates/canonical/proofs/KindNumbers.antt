-- A number that is a kind's is the number of that kind, and at most the last one's. Assumes nothing.
use Rattle.std.proofs.Common.{◌≡◌, refl, true, leb, ℕ, zero, suc, ◌<◌, sym, ap, ◌∙◌, ne_eqb, arith}
use Rattle.refusals.specs.declared.Refusal.TheVariants.{NoLog}
use Rattle.refusals.specs.Outcome.{Ok, Err}
use Rattle.refusals.specs.laws.Outcomes.{clash, same}
use Rattle.taking.specs.Questions.{map_g_to_n, map_n_to_g, map_n_to_c, map_c_to_n, map_g_to_c, map_c_to_g, kind_of}
use Rattle.taking.specs.declared.question.Kind.{Kind}
use Rattle.taking.specs.declared.question.Kind.TheVariants.{GToN, NToG, NToC, CToN, GToC, CToG}
use Rattle.canonical.specs.Canonical.{kind_number}

none_above : (n : ℕ) → map_c_to_g < n → kind_of n ≡ Err NoLog
none_above n h =
    rw (
      ne_eqb n map_g_to_n (omega arith),
      ne_eqb n map_n_to_g (omega arith),
      ne_eqb n map_n_to_c (omega arith),
      ne_eqb n map_c_to_n (omega arith),
      ne_eqb n map_g_to_c (omega arith),
      ne_eqb n map_c_to_g (omega arith),
    )

pub number_back : (n : ℕ) {k : Kind} → kind_of n ≡ Ok k → n ≡ kind_number k
number_back zero e = ap kind_number (same e)
number_back (suc zero) e = ap kind_number (same e)
number_back (suc (suc zero)) e = ap kind_number (same e)
number_back (suc (suc (suc zero))) e = ap kind_number (same e)
number_back (suc (suc (suc (suc zero)))) e = ap kind_number (same e)
number_back (suc (suc (suc (suc (suc zero))))) e = ap kind_number (same e)
number_back (suc (suc (suc (suc (suc (suc n)))))) e = absurd (clash (sym (none_above (suc (suc (suc (suc (suc (suc n)))))) (omega arith)) ∙ e))

pub kind_small : (k : Kind) → leb (kind_number k) map_c_to_g ≡ true
kind_small GToN = refl
kind_small NToG = refl
kind_small NToC = refl
kind_small CToN = refl
kind_small GToC = refl
kind_small CToG = refl
