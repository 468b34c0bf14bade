-- WHAT NAMING THE CHILD of a list-view comes to on lent memory (02, W4): the ground, and the tables after it. Assumes nothing.
use Rattle.std.specs.Prelude.{◌≡◌, Bool, cond, ◌&&◌, List, [], ℕ, ◌+◌, ◌*◌, ◌/◌, ◌%◌, length, get_or, ltb, eqb}
use Rattle.clauses.specs.Slices.{began, left, MutSlice}
use Rattle.array_data.specs.Tables.{Tables, place}
use Rattle.array_data.specs.lent_tables.Lent.{tables}
use Rattle.columns.specs.Grounds.{column_ground}
use Rattle.convert.specs.convert_lists.ViewTables.{view_lengths, view_nulls, view_places}

-- the tables as they are left; ground: 0, or the number of the refusal
pub record Naming : Type 0 where
  pub refusal : ℕ
  pub lengths : List ℕ
  pub nulls : List ℕ
  pub places : List ℕ

-- tables of so many numbers are those of n nodes
unfoldable pub tables_fit : (n lengths nulls places : ℕ) → Bool
tables_fit n lengths nulls places = eqb lengths (2 * n) && eqb nulls n && eqb places (9 * n)

-- NAMING the nodes below the root of the column of n nodes from node `first` on, into tables whose first node is the finished root: 9, 10 and 12 of the
-- column, then 14 of tables of other lengths
module _ (formats schema : List ℕ) (x : Tables) (first n : ℕ) (lengths nulls places : List ℕ) where
  abbrev pub refused : ℕ → Naming
  refused g = record { refusal = g; lengths = lengths; nulls = nulls; places = places }

  unfoldable pub naming : Naming
  naming =
      cond (eqb (column_ground formats schema x first n) 0)
      (cond (tables_fit n (length lengths) (length nulls) (length places))
      (record { refusal = 0; lengths = view_lengths x first n lengths; nulls = view_nulls x first n nulls; places = view_places x first n places })
      (refused 14))
      (refused (column_ground formats schema x first n))

-- what a caller sees
pub record Names (a : Naming) (r : ℕ) (lengths nulls places : List ℕ) : Type 0 where
  pub refusal : r ≡ a.refusal
  pub lengths_are : lengths ≡ a.lengths
  pub nulls_are : nulls ≡ a.nulls
  pub places_are : places ≡ a.places

-- .. of a call that is lent all three tables
abbrev pub Named : (List ℕ → List ℕ → List ℕ → Naming) → (lengths nulls places : MutSlice) → ℕ → Type 0
Named name lengths nulls places r = Names (name (began lengths) (began nulls) (began places)) r (left lengths) (left nulls) (left places)

-- ---- for whoever proves

-- number k of the places below the root, nine a node, by the null counts of all nodes
abbrev pub below_place : (places nulls : List ℕ) (first k : ℕ) → ℕ
below_place places nulls first k = cond (ltb (k % 9) 3 && eqb (get_or nulls (k / 9 + 1) 0) 0) 0 (place (tables [] places []) (first + (k / 9 + 1)) (k % 9))
