-- The data buffers of views by what they depend on, and tables that are written from their beginning on. Assumes nothing.
use Rattle.std.specs.Prelude.{◌≡◌, cond, List, [], ◌++◌, ℕ, ◌+◌, min, length, take}
use Rattle.clauses.specs.Slices.{was, Slice}
use Rattle.schema.specs.formats.Code.{is_view}
use Rattle.walk.specs.State.{code_of}
use Rattle.refinement.specs.orders.Order.{Lent, source_count}
pub use Rattle.refinement.specs.orders.Order.{lent}
pub use Rattle.with_capacities.specs.Lent.{lent_all}
use Rattle.refinement.specs.finishing.Finish.{buffers_of, buffers_before, buffers_from, buffers_up_to}

module _ (plan sources places : List ℕ) where
  -- how many data buffers the views of node i have in all sources, and their numbers in the table of data buffers, 2 each
  abbrev pub view_count : ℕ → ℕ
  view_count i = buffers_of (lent plan [] sources [] places []) [] [] [] 0 i (min (source_count plan) 16)

  abbrev pub view_names : List ℕ → ℕ → List ℕ
  view_names buffers i = buffers_from (lent plan [] sources [] places []) buffers [] [] 0 i (min (source_count plan) 16)

  -- how many data buffers node i names
  abbrev pub count_at : ℕ → ℕ
  count_at i = cond (is_view (code_of plan i)) (view_count i) 0

  -- how many the nodes before node n name
  abbrev pub count_before : ℕ → ℕ
  count_before n = buffers_before (lent plan [] sources [] places []) [] [] [] 0 n

  -- .. and their numbers
  abbrev pub names_at : List ℕ → ℕ → List ℕ
  names_at buffers i = cond (is_view (code_of plan i)) (view_names buffers i) []

  abbrev pub names_before : List ℕ → ℕ → List ℕ
  names_before buffers n = buffers_up_to (lent plan [] sources [] places []) buffers [] [] 0 n

  -- what holds whatever else finishing is lent, of which nothing is read
  abbrev pub AnyOther : (Lent → List ℕ → List ℕ → List ℕ → ℕ → Type 0) → Type 0
  AnyOther P = (parts lengths body buffers counters room : List ℕ) (base : ℕ) → P (lent plan parts sources lengths places body) buffers counters room base

-- .. whatever the lengths, the body, the data buffers and the room are
abbrev pub AnyBody : (plan parts sources places : Slice) → (Lent → List ℕ → List ℕ → Type 0) → Type 0
AnyBody plan parts sources places P =
    (lengths body buffers room : List ℕ) → P (lent (was plan) (was parts) (was sources) lengths (was places) body) buffers room

-- n numbers are written behind the first `at`
pub record Behind (before after : List ℕ) (at n : ℕ) (new : List ℕ) : Type 0 where
  pub same : length after ≡ length before
  pub first : take (at + n) after ≡ take at before ++ new
