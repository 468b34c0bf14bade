-- Short names for what the model's definitions write out. Assumes nothing.
use mathlib.Core.Bool.{Bool, cond}
use mathlib.Core.Option.{Option}
use mathlib.Core.List.{List, ◌++◌}
use Prim.Native.Nat.{ℕ, ◌+◌, ◌-◌, min}
use lib.ListN.{length, replicate}
use Rattle.columnar.specs.Row.{seg}
use Rattle.columnar.specs.Types.{Number, width, key_fits, Ty}
use Rattle.columnar.specs.Array.{item}
use Rattle.columnar.specs.Entries.{encodes}
use Rattle.columnar.specs.View.{Views}
use Rattle.columnar.specs.ListView.{ListView}
use Rattle.columnar.specs.Union.{Dense}
use Rattle.columnar.specs.Dictionary.{Dictionary}
use Rattle.model.specs.Try.{Try, done, steps_t}
use Rattle.model.specs.Opening.{start_of_keys}
use Rattle.model.specs.Mutable.{Mutable, keeps_bits}
use Rattle.model.specs.Primitive.{new_views, buffers_before}
use Rattle.model.specs.ListViews.{Lists, list_row}
use Rattle.model.specs.Unions.{Denses, dense_row}
use Rattle.model.specs.Runs.{runs_null}
use Rattle.model.specs.Transform.{Grown, nulls_by}

-- n times the number v in w bytes
abbrev pub repeated : ℕ → ℕ → ℕ → List ℕ
repeated w v n = encodes w (replicate n v)

-- rebased keys
abbrev pub new_keys : ℕ → ℕ → List ℕ → ℕ → ℕ → List ℕ
new_keys w base s a n = encodes w (seg (λ i. item w s i + base) a n)

-- the ends of n runs from run k on, clipped to the slots a .. b - 1
abbrev pub clipped : ℕ → (ℕ → ℕ) → ℕ → ℕ → ℕ → ℕ → ℕ → List ℕ
clipped w e a b last k n = encodes w (seg (λ i. last + (min (e i) b - a)) k n)

-- n positions from p on
abbrev pub positions_from : ℕ → ℕ → List ℕ
positions_from p n = encodes 4 (seg (λ k. k) p n)

abbrev pub view_extend : (ℕ → Views) → ℕ → ℕ → ℕ → ℕ → List ℕ → Try (List ℕ)
view_extend ss j a n l d = done (d ++ new_views (length (buffers_before ss j)) (ss j).views a n)

abbrev pub keys_extend : {P : Type 0} → Number → ℕ → (ℕ → Dictionary P) → ℕ → ℕ → ℕ → ℕ → List ℕ → Try (List ℕ)
keys_extend k m ss j a n l d = done (d ++ new_keys (width k) (start_of_keys m ss j) (ss j).keys a n)

abbrev pub list_extend : {P D : Type 0} → ℕ → (ℕ → ℕ → Mutable D → Try (Mutable D)) → ListView P → ℕ → ℕ → Lists D → Try (Lists D)
list_extend w extend s a n d = steps_t (list_row w extend s) a n d

abbrev pub dense_extend : {P D : ℕ → Type 0} → ((c : ℕ) → ℕ → ℕ → Mutable (D c) → Try (Mutable (D c))) → Dense P → ℕ → ℕ → Denses D → Try (Denses D)
dense_extend extend s a n d = steps_t (dense_row extend s) a n d

abbrev pub keeps_nulls : {D : Type 0} → Mutable D → Bool
keeps_nulls d = keeps_bits d.bits

-- what is counted of n nulls, by whether nulls are kept
abbrev pub counted : Option (List Bool) → ℕ → ℕ
counted b n = cond (keeps_bits b) n 0

-- the entries of source j fit keys of k
abbrev pub keys_fit : {P : Type 0} → Number → ℕ → (ℕ → Dictionary P) → ℕ → Bool
keys_fit k m ds j = key_fits k (start_of_keys m ds j) (ds j).values.len

-- n nulls at a node, with the choice of one run for a gap
abbrev pub nulls_data : (t : Ty) → ℕ → ℕ → Grown t → Try (Grown t)
nulls_data t = nulls_by (λ D. runs_null {D = D}) t
