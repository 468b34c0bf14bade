-- A node of an accepted column and of a target that passes, and a stretch of its rows: slots s .. s + m - 1. Assumes nothing.
use Rattle.std.specs.Prelude.{◌≡◌, Bool, true, cond, List, [], ℕ, ◌+◌, ◌<◌, ◌≤◌, length}
use Rattle.std.proofs.Math.Option.{some}
use Rattle.clauses.specs.Slices.{was, began, left, Slice, MutSlice}
use Rattle.columnar.specs.Types.{Number, width}
use Rattle.columnar.specs.Array.{ok}
use Rattle.schema.specs.formats.Types.{number_of}
use Rattle.array_data.specs.Tables.{Tables, length_of, offset_of, valid_of}
use Rattle.array_data.specs.NodeKinds.{NodeKind, dictionary_node}
use Rattle.array_data.specs.entries.Entries.{column}
use Rattle.array_data.specs.Typed.{Tree, kind_in, tables_from}
use Rattle.array_data.specs.type_tree.Lent.{tree_of}
use Rattle.source_rules.specs.kinds.Rows.{tables_of}
use Rattle.columns.specs.Grounds.{column_ground}
use Rattle.walk.specs.Log.{Out}
use Rattle.width_walks.specs.target_rules.Target.{is_target}
use Rattle.width_walks.specs.Nodes.{child_ranges, settle_as, own_as, settle, turn, tree_walk}

-- the column is accepted with some data buffers of views, which the walk does not read
pub record Accepted (formats schema lengths places body : List ℕ) (first n target : ℕ) : Type 0 where
  pub buffers : List ℕ
  pub column_good : column_ground formats schema (tables_of lengths places buffers body) first n ≡ 0
  pub target_good : is_target formats schema first n target n ≡ true

pub record Here (formats schema lengths places body : List ℕ) (first n target i s m : ℕ) : Type 0 where
  pub accepted : Accepted formats schema lengths places body first n target
  pub is_node : i < n
  pub above : offset_of (column lengths [] [] [] first) i ≤ s
  pub below : s + m ≤ offset_of (column lengths [] [] [] first) i + length_of (column lengths [] [] [] first) i

module _ (formats schema lengths places buffers body plan : List ℕ) (first n target i s m : ℕ) where
  -- what it writes beside its bits
  abbrev pub own_here : List ℕ → Out
  own_here c =
      own_as (tree_of formats schema first n) (tree_of formats schema target n) (column lengths places buffers body first) plan (kind_in (tree_of formats schema first n) i) (kind_in (tree_of formats schema target n) i) i
      (ok (valid_of (column lengths places buffers body first) i)) s m c

  -- what it settles
  abbrev pub settled_here : List ℕ → List ℕ
  settled_here rs = settle_as (tree_of formats schema first n) (tree_of formats schema target n) (column lengths places buffers body first) plan (kind_in (tree_of formats schema first n) i) i s m rs

-- the same of the slices that a call is lent, whatever data buffers the column has
module _ (formats schema lengths places body plan : Slice) (buffers : List ℕ) (first n target : ℕ) where
  abbrev pub own_lent : (i s m : ℕ) → List ℕ → Out
  own_lent i s m = own_here (was formats) (was schema) (was lengths) (was places) buffers (was body) (was plan) first n target i s m

  abbrev pub settled_lent : (i s m : ℕ) → List ℕ → List ℕ
  settled_lent i s m = settled_here (was formats) (was schema) (was lengths) (was places) buffers (was body) (was plan) first n target i s m

  -- one turn of the walk, and the walk
  abbrev pub turn_lent : ℕ → List ℕ → List ℕ → Out
  turn_lent =
      turn (tree_of (was formats) (was schema) first n) (tree_of (was formats) (was schema) target n) (column (was lengths) (was places) buffers (was body) first) (was plan)

  abbrev pub settle_lent : ℕ → List ℕ → List ℕ
  settle_lent =
      settle (tree_of (was formats) (was schema) first n) (tree_of (was formats) (was schema) target n) (column (was lengths) (was places) buffers (was body) first) (was plan)

  abbrev pub walk_lent : List ℕ → Out
  walk_lent =
      tree_walk (tree_of (was formats) (was schema) first n) (tree_of (was formats) (was schema) target n) (tables_from (tables_of (was lengths) (was places) buffers (was body)) first) (was plan)

-- ---- what a node of one kind says, whatever it does not read

module _ (x : Tables) (plan : List ℕ) (i s n : ℕ) where
  -- of the kinds k and k' in both trees: the trees and the bits
  abbrev pub AnyTree : NodeKind → NodeKind → ((List ℕ → Out) → Type 0) → Type 0
  AnyTree k k' P = (t t' : Tree) (okay : ℕ → Bool) → P (own_as t t' x plan k k' i okay s n)

  -- of a union: its ids and the target's kind too
  abbrev pub AnyUnion : (List ℕ → NodeKind) → ((List ℕ → Out) → Type 0) → Type 0
  AnyUnion kind P = (t t' : Tree) (k' : NodeKind) (ids : List ℕ) (okay : ℕ → Bool) → P (own_as t t' x plan (kind ids) k' i okay s n)

  -- of keys of w bytes in w': the numbers that have these widths
  abbrev pub AnyKeys : (w w' code : ℕ) → (Out → List ℕ → Type 0) → Type 0
  AnyKeys w w' code P =
      (t t' : Tree) (m m' : Number) (c : List ℕ) → width m ≡ w → number_of code ≡ some m' → width m' ≡ w' → P (own_as t t' x plan (dictionary_node m) (dictionary_node m') i (ok (valid_of x i)) s n c) c

-- the ranges of the m fields of a union, as they are settled
abbrev pub SettlesFields : (schema lengths places body plan : Slice) → (first count : ℕ) → (List ℕ → NodeKind) → (m i s n : ℕ) → (ranges : MutSlice) → Type 0
SettlesFields schema lengths places body plan first count kind m i s n ranges =
    (formats buffers ids : List ℕ) (t' : Tree) → length ids ≡ m → left ranges ≡ settle_as (tree_of formats (was schema) first count) t' (column (was lengths) (was places) buffers (was body) first) (was plan) (kind ids) i s n (began ranges)

-- .. all rows of each, or the slots s .. s + n - 1
abbrev pub SettlesChildren : (schema lengths : Slice) → (first count : ℕ) → Bool → (s n i m : ℕ) → (ranges : MutSlice) → Type 0
SettlesChildren schema lengths first count whole s n i m ranges =
    (formats places buffers body plan : List ℕ) (t : Tree) → left ranges ≡ child_ranges (tree_of formats (was schema) first count) t (column (was lengths) places buffers body first) plan (λ k. cond whole 0 s) (λ k. cond whole (length_of (column (was lengths) places buffers body first) k) n) i m (began ranges)
