-- A code read as a type of the crate `columnar`. Assumes nothing.
use Rattle.std.specs.Prelude.{cond, List, [], ◌∷◌, ℕ, zero, suc}
use Rattle.std.proofs.Math.Option.{Option, none, get_or}
use Rattle.std.proofs.Math.ListN.{get_elem?}
use Rattle.columnar.specs.Types.{Number, int, uint, w1, w2, w4, w8, f32, f64, Plain, fixed, string}
use Rattle.schema.specs.formats.Code.{is_string, width_of}

-- c C s S i I l L f g: the formats of the codes 1 to 10
abbrev pub numbers : List Number
numbers = int w1 ∷ uint w1 ∷ int w2 ∷ uint w2 ∷ int w4 ∷ uint w4 ∷ int w8 ∷ uint w8 ∷ f32 ∷ f64 ∷ []

-- fixed-width numbers: the format of a node of this code, or of its keys
unfoldable pub number_of : ℕ → Option Number
number_of zero = none
number_of (suc c) = get_elem? numbers c

-- the number of a code; any where it has none
abbrev pub number_or : Option Number → Number
number_or o = get_or o (int w1)

-- byte strings and fixed-width numbers
abbrev pub plain_of : ℕ → Plain
plain_of code = cond (is_string code) (string (width_of code)) (fixed (number_or (number_of code)))
