-- Fixed-width numbers and byte strings. Assumes nothing.
use Prim.Native.Nat.{ℕ, suc}
use Rattle.columnar.specs.Types.{Plain, fixed, string, t_plain}
use Rattle.columnar.specs.Reading.{Column}
use Rattle.walk.specs.State.{Join}
use Rattle.walk.specs.Copy.{Walk}
use Rattle.walk.specs.Nulls.{NullWalk}
use Rattle.refinement.proofs.walk_is_model.Owed.{Given, CopiesData, FillsData}
use Rattle.refinement.proofs.walk_is_model.Fixed.{fixed_copies, fixed_fills}
use Rattle.refinement.proofs.walk_is_model.Strings.{string_copies, string_fills}

pub plain_copies : (x : Join) (inner : Walk) (k : ℕ) (p : Plain) (i m : ℕ) (ss : ℕ → Column (t_plain p)) → Given x (suc k) (t_plain p) i m ss → CopiesData x inner (t_plain p) i m ss
plain_copies x inner k (fixed q) i m ss g = fixed_copies x inner k q i m ss g
plain_copies x inner k (string w) i m ss g = string_copies x inner k w i m ss g

pub plain_fills : (x : Join) (inner : NullWalk) (k : ℕ) (p : Plain) (i m : ℕ) (ss : ℕ → Column (t_plain p)) → Given x (suc k) (t_plain p) i m ss → FillsData x inner (t_plain p) i m ss
plain_fills x inner k (fixed q) i m ss g = fixed_fills x inner k q i m ss g
plain_fills x inner k (string w) i m ss g = string_fills x inner k w i m ss g
