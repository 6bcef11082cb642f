-- The six mappings of the boundary and a question as one value say the same: the question that an entry's arguments make is one that a log can hold, and what is said to it is what the entry tells. Assumes nothing.
use Rattle.std.specs.Prelude.{ℕ, ◌/◌, ◌%◌, Bool, true, ◌≡◌, eqb, leb, ℤ, pos}
use Rattle.std.proofs.Math.Bool.{false}
use Rattle.std.proofs.lemmas.Bool.{false≢true}
use Rattle.std.proofs.Math.Path.{refl, ap₂}
use Rattle.std.proofs.Common.{◌∙◌}
use Rattle.whole.specs.laws.Whole.{both_of}
use Rattle.holding.specs.Holding.{Lent, checked}
use Rattle.positions.specs.Positions.{Interval, GAsked, NAsked, CAsked}
use Rattle.mapper.specs.Asking.{ask_g_to_n, ask_n_to_g, ask_n_to_c, ask_c_to_n, ask_g_to_c, ask_c_to_g}
use Rattle.layout.specs.Layout.{star_of, g_laid, n_laid, c_laid, laid}
use Rattle.taking.specs.Taking.{g_end, g_asked, n_asked, c_asked}
use Rattle.taking.specs.Questions.{map_g_to_n, map_n_to_g, map_n_to_c, map_c_to_n, map_g_to_c, map_c_to_g, from_g, from_c, is_star, is_missing, g_of, n_of, c_of}
use Rattle.canonical.specs.Canonical.{end_holdable, holdable}
use Rattle.asking.specs.Asking.{named, asked, missing_mark, unless_missing, g_question, n_question, c_question}
use Rattle.asking.proofs.laws.Saying.{asked_is}

-- ---- such a question can be held

g_end_held : (kind : ℕ) (gone : Bool) (z : ℤ) → from_g kind ≡ true → end_holdable kind (missing_mark gone) (unless_missing gone z) (pos 0) ≡ true
unfolding end_holdable
g_end_held kind true z g = rw g
g_end_held kind false z g = rw g

-- a star only in c.
c_end_held : (kind : ℕ) (star : Bool) (z o : ℤ) → from_g kind ≡ false → (star ≡ true → from_c kind ≡ true) → end_holdable kind (star_of star) z o ≡ true
unfolding end_holdable
c_end_held kind true z o g c = rw (g, c refl)
c_end_held kind false z o g c = rw g

strict_held : (strict : Bool) → leb (star_of strict) 1 ≡ true
strict_held true = refl
strict_held false = refl

module _ (kind : ℕ) (known : leb kind map_c_to_g ≡ true) (strict : Bool) where
  g_held : from_g kind ≡ true → (start end : ℤ) (missing : ℕ) → holdable (g_question kind start end missing strict) ≡ true
  unfolding holdable
  g_held g start end missing = both_of (both_of (both_of known (strict_held strict)) (g_end_held kind (eqb (missing % 2) 1) start g)) (g_end_held kind (eqb (missing / 2 % 2) 1) end g)

  c_held : from_g kind ≡ false → (start o : ℤ) (s : Bool) (end u : ℤ) (t : Bool) → (s ≡ true → from_c kind ≡ true) → (t ≡ true → from_c kind ≡ true) → holdable (c_question kind start o s end u t strict) ≡ true
  unfolding holdable
  c_held g start o s end u t a b = both_of (both_of (both_of known (strict_held strict)) (c_end_held kind s start o g a)) (c_end_held kind t end u g b)

-- ---- and asks what the arguments ask

star_read : (star : Bool) → is_star (star_of star) ≡ star
star_read true = refl
star_read false = refl

strict_read : (strict : Bool) → eqb (star_of strict) 1 ≡ strict
strict_read true = refl
strict_read false = refl

g_end_read : (gone : Bool) (z : ℤ) → g_end (is_missing (missing_mark gone)) (unless_missing gone z) ≡ g_end gone z
g_end_read true z = refl
g_end_read false z = refl

g_read : (kind : ℕ) (start end : ℤ) (missing : ℕ) (strict : Bool) → g_of (g_question kind start end missing strict) ≡ g_asked start end missing
unfolding g_of g_asked
g_read kind start end missing strict = ap₂ (λ (a b : GAsked). record { from = a; to = b }) (g_end_read (eqb (missing % 2) 1) start) (g_end_read (eqb (missing / 2 % 2) 1) end)

n_read : (kind : ℕ) (start o end u : ℤ) (strict : Bool) → n_of (n_question kind start o end u strict) ≡ n_asked start o end u
unfolding n_of
n_read kind start o end u strict = refl

c_read : (kind : ℕ) (start o : ℤ) (s : Bool) (end u : ℤ) (t strict : Bool) → c_of (c_question kind start o s end u t strict) ≡ c_asked start o s end u t
unfolding c_of
c_read kind start o s end u t strict = ap₂ (λ (a b : Bool). c_asked start o a end u b) (star_read s) (star_read t)

-- ---- so each entry of the boundary tells what is said to its question

not_star : {X : Type 0} → false ≡ true → X
not_star e = absurd (false≢true e)

module _ (x : Lent) (strict : Bool) where
  pub g_to_n_agrees : (start end : ℤ) (missing : ℕ) → asked x (g_question map_g_to_n start end missing strict) ≡ laid n_laid (checked x (ask_g_to_n strict (g_asked start end missing)))
  unfolding named
  g_to_n_agrees start end missing =
      asked_is x (g_question map_g_to_n start end missing strict) (g_held map_g_to_n refl strict refl start end missing)
      ∙ ap₂ (λ (s : Bool) (q : Interval GAsked). laid n_laid (checked x (ask_g_to_n s q))) (strict_read strict) (g_read map_g_to_n start end missing strict)

  pub n_to_g_agrees : (start o end u : ℤ) → asked x (n_question map_n_to_g start o end u strict) ≡ laid g_laid (checked x (ask_n_to_g strict (n_asked start o end u)))
  unfolding named
  n_to_g_agrees start o end u =
      asked_is x (n_question map_n_to_g start o end u strict) (c_held map_n_to_g refl strict refl start o false end u false not_star not_star)
      ∙ ap₂ (λ (s : Bool) (q : Interval NAsked). laid g_laid (checked x (ask_n_to_g s q))) (strict_read strict) (n_read map_n_to_g start o end u strict)

  pub n_to_c_agrees : (start o end u : ℤ) → asked x (n_question map_n_to_c start o end u strict) ≡ laid c_laid (checked x (ask_n_to_c strict (n_asked start o end u)))
  unfolding named
  n_to_c_agrees start o end u =
      asked_is x (n_question map_n_to_c start o end u strict) (c_held map_n_to_c refl strict refl start o false end u false not_star not_star)
      ∙ ap₂ (λ (s : Bool) (q : Interval NAsked). laid c_laid (checked x (ask_n_to_c s q))) (strict_read strict) (n_read map_n_to_c start o end u strict)

  pub c_to_n_agrees : (start o : ℤ) (s : Bool) (end u : ℤ) (t : Bool) → asked x (c_question map_c_to_n start o s end u t strict) ≡ laid n_laid (checked x (ask_c_to_n strict (c_asked start o s end u t)))
  unfolding named
  c_to_n_agrees start o s end u t =
      asked_is x (c_question map_c_to_n start o s end u t strict) (c_held map_c_to_n refl strict refl start o s end u t (λ e. refl) (λ e. refl))
      ∙ ap₂ (λ (r : Bool) (q : Interval CAsked). laid n_laid (checked x (ask_c_to_n r q))) (strict_read strict) (c_read map_c_to_n start o s end u t strict)

  pub g_to_c_agrees : (start end : ℤ) (missing : ℕ) → asked x (g_question map_g_to_c start end missing strict) ≡ laid c_laid (checked x (ask_g_to_c strict (g_asked start end missing)))
  unfolding named
  g_to_c_agrees start end missing =
      asked_is x (g_question map_g_to_c start end missing strict) (g_held map_g_to_c refl strict refl start end missing)
      ∙ ap₂ (λ (s : Bool) (q : Interval GAsked). laid c_laid (checked x (ask_g_to_c s q))) (strict_read strict) (g_read map_g_to_c start end missing strict)

  pub c_to_g_agrees : (start o : ℤ) (s : Bool) (end u : ℤ) (t : Bool) → asked x (c_question map_c_to_g start o s end u t strict) ≡ laid g_laid (checked x (ask_c_to_g strict (c_asked start o s end u t)))
  unfolding named
  c_to_g_agrees start o s end u t =
      asked_is x (c_question map_c_to_g start o s end u t strict) (c_held map_c_to_g refl strict refl start o s end u t (λ e. refl) (λ e. refl))
      ∙ ap₂ (λ (r : Bool) (q : Interval CAsked). laid g_laid (checked x (ask_c_to_g r q))) (strict_read strict) (c_read map_c_to_g start o s end u t strict)
