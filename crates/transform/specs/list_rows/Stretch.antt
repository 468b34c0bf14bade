-- What a copy of a list of numbers asks before it writes. Assumes nothing.
use Rattle.std.specs.Prelude.{◌≡◌, true, List, ℕ, ◌+◌, ◌*◌, ◌-◌, ◌<◌, ◌≤◌, length}
use Rattle.utils.specs.Extension.{extended}
use Rattle.utils.specs.declared.Extended.TheVariants.{Fits}
use Rattle.walk.specs.State.{Join, code_of, bytes_of, rows, place, slot_of, far}
use Rattle.plan.specs.parts.Parts.{entry_size}
use Rattle.transform.specs.leaf_rows.Leaf.{bits_in}

-- n slots of the list, the offsets of w bytes from `from` on, lie in the body
abbrev pub RowsIn : Join → (w from slot n : ℕ) → Type 0
RowsIn x w from slot n = (w ≡ bytes_of x.plan 0) × (from ≡ place x 0 3 + w * slot) × (from + w * (n + 1) ≤ length x.body) × (bits_in x 0 slot n ≡ true) × (slot + n < far)

-- .. and k items of v bytes from the slot `inner` on
abbrev pub ItemsIn : Join → (v inner k : ℕ) → Type 0
ItemsIn x v inner k = (v ≡ entry_size (code_of x.plan 1)) × (place x 1 3 + v * (inner + k) ≤ length x.body) × (bits_in x 1 inner k ≡ true) × (inner + k < far)

-- the offsets fit behind the items that are there, and reach these from the row `lead` on, as far as the offset `last`
abbrev pub Reaches : Join → (w from n : ℕ) → List ℕ → (inner k last lead : ℕ) → Type 0
Reaches x w from n c inner k last lead = (extended w x.body from n (rows c 1) ≡ Fits last lead) × (k ≡ last - rows c 1) × (inner ≡ slot_of x 1 lead k)
