-- Each arm of the `match` is a letter at which the definition computes, and what no arm takes is in no pair.
-- Assumes nothing.
use mathlib.Core.Path.{◌≡◌, refl, sym, ◌∙◌}
use mathlib.Core.Bool.{Bool, true, false, ◌&&◌, ◌||◌, false≢true, and-eq-true_iff}
use mathlib.Core.List.{List, [], ◌∷◌}
use Prim.Native.Nat.{ℕ}
use native.Mathlib.Decide.{ℕ_discrete}
use lib.Dec.{eqb}
use borrow.Author.Tests.{ne_eqb}
use Rattle.strands.specs.Turned.{Pair, pairs, partner_in, partner}
use Rattle.strands.specs.laws.Letters.{passes}
use Rattle.strands.proofs.turn.partner.Goals as goal

-- what no arm takes differs from the letters of all arms, as nested in `rest`: the last arm's letter first
abbrev Differs : ℕ → List ℕ → Type 0
Differs b [] = Unit
Differs b (x ∷ xs) = Differs b xs × (b ≡ x → ⊥)

abbrev armed : List ℕ
armed =
    110 ∷ 119 ∷ 115 ∷ 104 ∷ 100 ∷ 118 ∷ 98 ∷ 109 ∷ 107 ∷ 121 ∷ 114 ∷ 103 ∷ 99 ∷ 116 ∷ 97
    ∷ 78 ∷ 87 ∷ 83 ∷ 72 ∷ 68 ∷ 86 ∷ 66 ∷ 77 ∷ 75 ∷ 89 ∷ 82 ∷ 71 ∷ 67 ∷ 84 ∷ 65 ∷ []

abbrev has : List ℕ → ℕ → Bool
has [] k = false
has (x ∷ xs) k = eqb k x || has xs k

differs : (b : ℕ) (xs : List ℕ) → Differs b xs → (k : ℕ) → has xs k ≡ true → b ≡ k → ⊥
differs b [] n k h e = false≢true h
differs b (x ∷ xs) n k h e =
    elim (ℕ_discrete k x) [
      | yes u ↦ n.1 (e ∙ u)
      | no m ↦ differs b xs n.0 k (rw (ne_eqb k x m) at h) e
    ]

-- so it is in no pair whose letters both have an arm
unpaired : (b : ℕ) (xs : List ℕ) → Differs b xs → (ps : List Pair) → passes (has xs) ps ≡ true → partner_in ps b ≡ 0
unfolding partner_in
unpaired b xs n [] h = refl
unpaired b xs n (p ∷ ps) h =
    let one = (and-eq-true_iff (has xs p.one) (has xs p.other && passes (has xs) ps)).0 h in
    let other = (and-eq-true_iff (has xs p.other) (passes (has xs) ps)).0 one.1 in
    rw (ne_eqb b p.one (differs b xs n p.one one.0), ne_eqb b p.other (differs b xs n p.other other.0))
    (unpaired b xs n ps other.1)

pub returns-in_default : goal.returns-in_default
unfolding partner
returns-in_default c = sym (unpaired c.args.letter armed c.in_default.in_default-own.rest pairs refl)

pub returns-in-65 : goal.returns-in-65
unfolding partner partner_in
returns-in-65 c = rw c.in-65.is

pub returns-in-84 : goal.returns-in-84
unfolding partner partner_in
returns-in-84 c = rw c.in-84.is

pub returns-in-67 : goal.returns-in-67
unfolding partner partner_in
returns-in-67 c = rw c.in-67.is

pub returns-in-71 : goal.returns-in-71
unfolding partner partner_in
returns-in-71 c = rw c.in-71.is

pub returns-in-82 : goal.returns-in-82
unfolding partner partner_in
returns-in-82 c = rw c.in-82.is

pub returns-in-89 : goal.returns-in-89
unfolding partner partner_in
returns-in-89 c = rw c.in-89.is

pub returns-in-75 : goal.returns-in-75
unfolding partner partner_in
returns-in-75 c = rw c.in-75.is

pub returns-in-77 : goal.returns-in-77
unfolding partner partner_in
returns-in-77 c = rw c.in-77.is

pub returns-in-66 : goal.returns-in-66
unfolding partner partner_in
returns-in-66 c = rw c.in-66.is

pub returns-in-86 : goal.returns-in-86
unfolding partner partner_in
returns-in-86 c = rw c.in-86.is

pub returns-in-68 : goal.returns-in-68
unfolding partner partner_in
returns-in-68 c = rw c.in-68.is

pub returns-in-72 : goal.returns-in-72
unfolding partner partner_in
returns-in-72 c = rw c.in-72.is

pub returns-in-83 : goal.returns-in-83
unfolding partner partner_in
returns-in-83 c = rw c.in-83.is

pub returns-in-87 : goal.returns-in-87
unfolding partner partner_in
returns-in-87 c = rw c.in-87.is

pub returns-in-78 : goal.returns-in-78
unfolding partner partner_in
returns-in-78 c = rw c.in-78.is

pub returns-in-97 : goal.returns-in-97
unfolding partner partner_in
returns-in-97 c = rw c.in-97.is

pub returns-in-116 : goal.returns-in-116
unfolding partner partner_in
returns-in-116 c = rw c.in-116.is

pub returns-in-99 : goal.returns-in-99
unfolding partner partner_in
returns-in-99 c = rw c.in-99.is

pub returns-in-103 : goal.returns-in-103
unfolding partner partner_in
returns-in-103 c = rw c.in-103.is

pub returns-in-114 : goal.returns-in-114
unfolding partner partner_in
returns-in-114 c = rw c.in-114.is

pub returns-in-121 : goal.returns-in-121
unfolding partner partner_in
returns-in-121 c = rw c.in-121.is

pub returns-in-107 : goal.returns-in-107
unfolding partner partner_in
returns-in-107 c = rw c.in-107.is

pub returns-in-109 : goal.returns-in-109
unfolding partner partner_in
returns-in-109 c = rw c.in-109.is

pub returns-in-98 : goal.returns-in-98
unfolding partner partner_in
returns-in-98 c = rw c.in-98.is

pub returns-in-118 : goal.returns-in-118
unfolding partner partner_in
returns-in-118 c = rw c.in-118.is

pub returns-in-100 : goal.returns-in-100
unfolding partner partner_in
returns-in-100 c = rw c.in-100.is

pub returns-in-104 : goal.returns-in-104
unfolding partner partner_in
returns-in-104 c = rw c.in-104.is

pub returns-in-115 : goal.returns-in-115
unfolding partner partner_in
returns-in-115 c = rw c.in-115.is

pub returns-in-119 : goal.returns-in-119
unfolding partner partner_in
returns-in-119 c = rw c.in-119.is

pub returns-in-110 : goal.returns-in-110
unfolding partner partner_in
returns-in-110 c = rw c.in-110.is
