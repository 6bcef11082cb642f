-- What the boundary reads from lent memory: the head of include/txc.h. Assumes nothing.
use Rattle.std.specs.Prelude.{ℕ, List, [], ◌∷◌, ℤ, pos, get_or}
use Rattle.transcript.specs.declared.Head.{Head}
use Rattle.holding.specs.Holding.{Lent, lent}

-- the nine numbers of a head
unfoldable pub head_at : List ℤ → Head
head_at h = record {
  kind = get_or h 0 (pos 0);
  strand = get_or h 1 (pos 0);
  first = get_or h 2 (pos 0);
  count = get_or h 3 (pos 0);
  bits = get_or h 4 (pos 0);
  start = get_or h 5 (pos 0);
  end = get_or h 6 (pos 0);
  length = get_or h 7 (pos 0);
  records = get_or h 8 (pos 0);
}

-- and laid out again
abbrev pub head_row : Head → List ℤ
head_row h = h.kind ∷ h.strand ∷ h.first ∷ h.count ∷ h.bits ∷ h.start ∷ h.end ∷ h.length ∷ h.records ∷ []

-- what is lent: a head's numbers and the tables
abbrev pub lent_at : List ℤ → List ℕ → List ℕ → List ℕ → List ℕ → Lent
lent_at h g t l e = lent (head_at h) g t l e
