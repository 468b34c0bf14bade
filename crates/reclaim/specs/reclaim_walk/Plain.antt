-- Entries that are numbers without validity and lie in the body (W9). Assumes nothing.
use Rattle.std.specs.Prelude.{◌≡◌, Bool, true, cond, List, [], ℕ, ◌+◌, ◌*◌, ◌≤◌, ◌<◌, length}
use Rattle.clauses.specs.Slices.{was, began, left, Slice, MutSlice}
use Rattle.number.specs.Number.{splice}
use Rattle.schema.specs.formats.Code.{is_fixed}
use Rattle.walk.specs.State.{Join, code_of, dictionary_of, keeps_of, bytes_of, place, offset_of, far}
use Rattle.walk.specs.Log.{start_of}
use Rattle.leaf_walk.specs.Join.{join}
use Rattle.reclaim.specs.used_entries.Chosen.{chosen, risen}

-- a column without parts
abbrev pub alone : (plan lengths places body : List ℕ) → ℕ → Join
alone plan lengths places body first = join plan [] lengths places body first 0

-- .. that a call is lent
abbrev pub lent_alone : (plan lengths places body : Slice) → ℕ → Join
lent_alone plan lengths places body first = alone (was plan) (was lengths) (was places) (was body) first

-- the byte of entry e
abbrev pub entry_place : Join → ℕ → ℕ
entry_place x e = place x 1 3 + bytes_of x.plan 1 * (offset_of x 1 + e)

-- the n entries from e on
pub record Plain (x : Join) (e n : ℕ) : Type 0 where
  pub number : is_fixed (code_of x.plan 1) ≡ true
  pub no_keys : dictionary_of x.plan 1 ≡ 0
  pub no_nulls : keeps_of x.plan 1 ≡ 0
  pub slots : offset_of x 1 + e + n < far
  pub inside : place x 1 3 + bytes_of x.plan 1 * (offset_of x 1 + e + n) ≤ length x.body

-- those of the `count` entries from e on that the ranks name, and where they stand behind `have` entries
abbrev pub chosen_of : Join → ℕ → List ℕ → ℕ → List ℕ
chosen_of x e ranks count = chosen x.body (entry_place x e) (bytes_of x.plan 1) (risen ranks) count

abbrev pub behind : (plan parts : List ℕ) → ℕ → ℕ
behind plan parts have = start_of plan parts 1 1 + have * bytes_of plan 1

-- m bytes stand at `to`, if they are written: there is room
abbrev pub Stand : Bool → (room : MutSlice) → ℕ → List ℕ → ℕ → Type 0
Stand write room to bytes m = (write ≡ true → to + m ≤ length (began room)) × (left room ≡ cond write (splice to bytes (began room)) (began room))
