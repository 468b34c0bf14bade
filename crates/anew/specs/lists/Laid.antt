-- A finished array that is written anew from rows of another (W1: "laid out as a finished array of offset 0"). Assumes nothing.
use Rattle.std.specs.Prelude.{Bool, ℕ, ◌+◌}
use Rattle.std.proofs.Math.Option.{some}
use Rattle.columnar.specs.Row.{seg}
use Rattle.columnar.specs.Array.{Array, ok}
use Rattle.model.specs.Mutable.{validity}

-- the n rows of x from a on, with this body: a row is valid where x's is, and validity is dropped where no bit is 0
abbrev pub laid : {B C : Type 0} → Bool → Array B → ℕ → ℕ → C → Array C
laid masks x a n b = record { len = n; off = 0; valid = validity masks (some (seg (ok x.valid) (x.off + a) n)); body = b }
