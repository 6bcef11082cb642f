-- Lent memory whose front is filled. Assumes nothing.
use Rattle.std.specs.Prelude.{List, ◌++◌, length, drop}

-- the front is `xs`, and the rest stays
abbrev pub at_front : {A : Type 0} → List A → List A → List A
at_front xs lent = xs ++ drop (length xs) lent
