-- What the sources of a join have been found to be, beyond the source rules: few data buffers, dictionaries that are shared or joined.
-- Assumes nothing.
use mathlib.Core.Path.{◌≡◌}
use mathlib.Core.Bool.{Bool, true}
use Prim.Native.Nat.{ℕ, ◌^◌, ◌≤◌, ◌<◌}
use lib.ListN.{length}
use Rattle.columnar.specs.Types.{Plain, Ty, t_dictionary}
use Rattle.columnar.specs.Array.{read_with}
use Rattle.columnar.specs.Plain.{PlainBody}
use Rattle.columnar.specs.Dictionary.{Dictionary, entry_at}
use Rattle.columnar.specs.Reading.{Body}
use Rattle.columnar.specs.Kids.{Below, bodies_down}
use Rattle.model.specs.Try.{done}
use Rattle.model.specs.Opening.{ptr_eq}
use Rattle.model.specs.Primitive.{buffers_before}
use Rattle.model.specs.Transform.{open_data}

-- two dictionaries that are the same one hold the same entries
abbrev pub SameEntries : (p : Plain) → ℕ → (ℕ → Dictionary (PlainBody p)) → Type 0
SameEntries p m ds =
    (i j : ℕ) → i < m → j < m → ptr_eq (ds i) (ds j) ≡ true → (e : ℕ) → e < (ds i).values.len
    → read_with (entry_at p) (ds i).values e ≡ read_with (entry_at p) (ds j).values e

abbrev pub Ready : (t : Ty) → ℕ → (ℕ → Body t) → Type 0
Ready t m =
    Below {X = λ t. ℕ → Body t} bodies_down (λ ss. length (buffers_before ss m) ≤ 256 ^ 4)
    (λ k p ss. (open_data (t_dictionary k p) m ss ≡ done tt) × SameEntries p m ss) t
