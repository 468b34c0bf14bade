-- What calls that read one or two columns outside a join ask first (01, "Grounds of refusal"; 02, W8 and W11). Assumes nothing.
use Rattle.std.specs.Prelude.{Bool, cond, ◌&&◌, List, ℕ, leb, ltb, eqb}
use Rattle.schema.specs.Tree.{code_of}
use Rattle.array_data.specs.Tables.{Tables, length_of}

-- "Of two columns .. each ground is asked of both before the next": the lesser of both columns' grounds that is not 0, and 0 where both are.
-- That this is the order of the questions is `pair-first` (proofs/Pair.antt).
unfoldable pub pair_ground : ℕ → ℕ → ℕ
pair_ground g h = cond (eqb g 0) h (cond (eqb h 0) g (cond (ltb h g) h g))

-- the format's code of a column that is one node; 0 of every other
unfoldable pub plain_code : List ℕ → List ℕ → ℕ → ℕ → ℕ
plain_code formats schema first n = cond (eqb n 1) (code_of formats schema first 0) 0

-- the rows start .. end - 1 are rows of the column at node k: "2 end before start, or beyond the source's length" where not
unfoldable pub range_in : Tables → ℕ → ℕ → ℕ → Bool
range_in x k start end = leb start end && leb end (length_of x k)
