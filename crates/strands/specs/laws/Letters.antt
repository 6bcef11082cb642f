-- What is shown of a letter and its complement: what is computed of the letters of the list holds of every base.
--     passes, every_base                   a test that every letter of a table passes, every base passes
--     complement_base, complement_other    the two cases of a complement
--     base_kept, complement_twice          the complement of a base is a base, and its complement is the letter again
-- Assumes nothing.
use Rattle.std.specs.Prelude.{◌≡◌, refl, Bool, true, false, ◌&&◌, List, [], ◌∷◌, ℕ, eqb}
use Rattle.std.proofs.Common.{sym, ap, ◌∙◌, true≢false, eqb-true, ne_eqb}
use Rattle.std.proofs.Math.Bool.{and-eq-true_iff}
use Rattle.std.proofs.Math.Decide.{ℕ_discrete}
use Rattle.std.proofs.lemmas.Bool.{not-true}
use Rattle.strands.specs.Turned.{Pair, pairs, partner_in, partner, is_base, complement}

-- a test that every letter of a table passes
abbrev pub passes : (ℕ → Bool) → List Pair → Bool
passes test [] = true
passes test (p ∷ ps) = test p.one && (test p.other && passes test ps)

every : (test : ℕ → Bool) (ps : List Pair) → passes test ps ≡ true → (b : ℕ) → eqb (partner_in ps b) 0 ≡ false → test b ≡ true
unfolding partner_in
every test [] h b e = absurd (true≢false e)
every test (p ∷ ps) h b e =
    let h₁ = (and-eq-true_iff (test p.one) (test p.other && passes test ps)).0 h in
    let h₂ = (and-eq-true_iff (test p.other) (passes test ps)).0 h₁.1 in
    elim (ℕ_discrete b p.one) [
      | yes u ↦ rw u h₁.0
      | no n ↦
          elim (ℕ_discrete b p.other) [
            | yes v ↦ rw v h₂.0
            | no m ↦ every test ps h₂.1 b (rw (ne_eqb b p.one n, ne_eqb b p.other m) at e)
          ]
    ]

pub every_base : (test : ℕ → Bool) → passes test pairs ≡ true → (b : ℕ) → is_base b ≡ true → test b ≡ true
unfolding is_base partner
every_base test h b e = every test pairs h b (not-true (eqb (partner b) 0) e)

pub complement_base : (b : ℕ) → is_base b ≡ true → complement b ≡ partner b
unfolding complement
complement_base b e = rw e

pub complement_other : (b : ℕ) → is_base b ≡ false → complement b ≡ b
unfolding complement
complement_other b e = rw e

pub base_kept : (b : ℕ) → is_base (complement b) ≡ is_base b
unfolding is_base complement partner partner_in
base_kept b = go (is_base b) refl
  where
    go : (t : Bool) → is_base b ≡ t → is_base (complement b) ≡ is_base b
    go true e = every_base (λ x. is_base (complement x)) refl b e ∙ sym e
    go false e = ap is_base (complement_other b e)

pub complement_twice : (b : ℕ) → complement (complement b) ≡ b
unfolding is_base complement partner partner_in
complement_twice b = go (is_base b) refl
  where
    go : (t : Bool) → is_base b ≡ t → complement (complement b) ≡ b
    go true e = eqb-true (complement (complement b)) b (every_base (λ x. eqb (complement (complement x)) x) refl b e)
    go false e = ap complement (complement_other b e) ∙ complement_other b e
