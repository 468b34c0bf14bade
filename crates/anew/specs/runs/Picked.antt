-- A fixed-width column laid out anew from rows of another (W1). Assumes nothing.
use Rattle.std.specs.Prelude.{true, cond, List, [], ◌∷◌, ◌++◌, map, ℕ, ◌+◌, length, replicate}
use Rattle.std.proofs.Math.Option.{some}
use Rattle.columnar.specs.Types.{Number, width, fixed, t_plain}
use Rattle.columnar.specs.Plain.{stored}
use Rattle.columnar.specs.Reading.{Column}
use Rattle.model.specs.Mutable.{validity}
use Rattle.anew.specs.runs.Runs.{ok_at}

-- the bytes of row i: "null slots as zeros"
abbrev pub cell : (k : Number) → Column (t_plain (fixed k)) → ℕ → List ℕ
cell k x i = cond (ok_at x i) (stored (fixed k) x.body (x.off + i)) (replicate (width k) 0)

abbrev pub cells : (k : Number) → Column (t_plain (fixed k)) → List ℕ → List ℕ
cells k x [] = []
cells k x (r ∷ rs) = cell k x r ++ cells k x rs

-- the rows rs, one behind the other: "laid out as a finished array of offset 0", so that validity is dropped where no bit is 0
abbrev pub picked : (k : Number) → Column (t_plain (fixed k)) → List ℕ → Column (t_plain (fixed k))
picked k x rs = record { len = length rs; off = 0; valid = validity true (some (map (ok_at x) rs)); body = cells k x rs }
