-- A buffer made of numbers. Assumes nothing.
use Rattle.std.specs.Prelude.{List, [], ◌∷◌, ◌++◌, ℕ}
use Rattle.number.specs.Number.{encode}

-- the buffer whose entries of w bytes are these numbers
abbrev pub encodes : ℕ → List ℕ → List ℕ
encodes w [] = []
encodes w (v ∷ vs) = encode w v ++ encodes w vs
