-- The four tables of a transcript, lent for reading, as a proof by hand holds them: what they own may be had twice, once for a call and once to keep. Assumes nothing.
use Rattle.std.specs.Prelude.{ℕ, List, [], ◌∷◌}
use seplogic.Ra.Ura.{Ura}
use mir.Syntax.{named, w8, w16, w32}
use mir.Val.{Val, vptr}
use base.Logic.{ent, sep}
use base.Fml.{Lft, Fml, fsep}
use types.Logic.{Logic, sem}
use types.Kit.{‵, ◌⊛◌, ◌$◌, ◌∵◌, !, qed, move, use1, split, fsplit, fjoin, frame, done}
use Rattle.std.specs.Borrow.{RattleType, Array, u8, u16, u32}
use denote.Array.{Array-row_laws}
use denote.Plain.{uint_row_laws}
use denote.Ref.{Bor, ShrRef, shr_copy}

-- a table of starts, that of letters, and that of exon numbers
abbrev pub Starts : RattleType
Starts = Array u32 2049

abbrev pub Letters : RattleType
Letters = Array u8 2048

abbrev pub Exons : RattleType
Exons = Array u16 2048

-- a table's machine value
abbrev pub placed : Bor (List ℕ) → Val
placed p = vptr p.ref_ptr.0 p.ref_ptr.1

-- what two tables of starts, one of letters and one of exon numbers own
abbrev pub Owned : Lft → Bor (List ℕ) → Bor (List ℕ) → Bor (List ℕ) → Bor (List ℕ) → Fml
Owned κ p p₂ p₃ p₄ =
    fsep ((ShrRef (named 0) κ Starts).own_val p (placed p ∷ []))
    (fsep ((ShrRef (named 0) κ Starts).own_val p₂ (placed p₂ ∷ []))
    (fsep ((ShrRef (named 0) κ Letters).own_val p₃ (placed p₃ ∷ []))
    ((ShrRef (named 0) κ Exons).own_val p₄ (placed p₄ ∷ []))))

module _ {M : Type 1} {𝓤 : Ura M} (𝓛 : Logic 𝓤) (κ : Lft) (p p₂ p₃ p₄ : Bor (List ℕ)) where
  abbrev O₁ : Fml
  O₁ = (ShrRef (named 0) κ Starts).own_val p (placed p ∷ [])

  abbrev O₂ : Fml
  O₂ = (ShrRef (named 0) κ Starts).own_val p₂ (placed p₂ ∷ [])

  abbrev O₃ : Fml
  O₃ = (ShrRef (named 0) κ Letters).own_val p₃ (placed p₃ ∷ [])

  abbrev O₄ : Fml
  O₄ = (ShrRef (named 0) κ Exons).own_val p₄ (placed p₄ ∷ [])

  abbrev Own : Fml
  Own = Owned κ p p₂ p₃ p₄

  pub owned_twice : ent 𝓤 (sem 𝓛 Own) (sep 𝓤 (sem 𝓛 Own) (sem 𝓛 Own))
  owned_twice =
      qed 𝓛 (‵ Own ∷ []) ∵ fsplit ! $ use1 𝓛 (‵ O₁ ⊛ ‵ O₁) ((shr_copy 𝓛 (named 0) κ Starts (Array-row_laws u32 (uint_row_laws w32) 2049)).twice p (placed p ∷ [])) $ split ! $ move ! (2 ∷ []) $ fsplit ! $
      use1 𝓛 (‵ O₂ ⊛ ‵ O₂) ((shr_copy 𝓛 (named 0) κ Starts (Array-row_laws u32 (uint_row_laws w32) 2049)).twice p₂ (placed p₂ ∷ [])) $ split ! $ move ! (2 ∷ []) $ fsplit ! $
      use1 𝓛 (‵ O₃ ⊛ ‵ O₃) ((shr_copy 𝓛 (named 0) κ Letters (Array-row_laws u8 (uint_row_laws w8) 2048)).twice p₃ (placed p₃ ∷ [])) $ split ! $ move ! (2 ∷ []) $
      use1 𝓛 (‵ O₄ ⊛ ‵ O₄) ((shr_copy 𝓛 (named 0) κ Exons (Array-row_laws u16 (uint_row_laws w16) 2048)).twice p₄ (placed p₄ ∷ [])) $ split ! $
      -- [O₄, O₃, O₂, O₁, each twice]
      move ! (2 ∷ 0 ∷ []) $ fjoin ! $ move ! (3 ∷ 0 ∷ []) $ fjoin ! $ move ! (4 ∷ 0 ∷ []) $ fjoin ! $ frame ! $ move ! (1 ∷ 0 ∷ []) $ fjoin ! $ move ! (1 ∷ 0 ∷ []) $ fjoin ! $ move ! (1 ∷ 0 ∷ []) $ fjoin ! $ done !
