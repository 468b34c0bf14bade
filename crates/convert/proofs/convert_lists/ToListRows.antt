-- THE ROWS OF THE LIST that a list-view column is made into (02, W4), in its finished tables: where each starts, "a null row becomes an empty
-- stretch"; which row a call is refused at; and which nodes keep nulls. Assumes nothing.
use mathlib.Core.Path.{◌≡◌, refl, sym, ap, subst, ◌∙◌}
use mathlib.Core.Bool.{true, false}
use mathlib.Core.List.{List, []}
use Prim.Native.Nat.{ℕ, suc, ◌+◌, ◌*◌, ◌≤◌, ◌<◌}
use native.Mathlib.Nat.{add-zero}
use lib.ListN.{length}
use lib.Dec.{ltb}
use Rattle.columnar.specs.Types.{Ty, t_list_view, t_list}
use Rattle.columnar.specs.Array.{item, null_count_of}
use Rattle.columnar.specs.Reading.{Column}
use Rattle.model.specs.Try.{Try, done, stop}
use Rattle.array_data.specs.Tables.{Tables, length_of, first_buffer}
use Rattle.walk.specs.State.{keeps_of}
use Rattle.refinement.specs.walk_is_model.Holds.{flag}
use Rattle.refinement.specs.log_in_room.Room.{AllBelow}
use Rattle.columns.specs.Grounds.{column_ground}
use Rattle.refinement.specs.finishing.Shows.{Bodied}
use Rattle.anew.specs.lists.Listed.{kid, valid_at, listed, ground_of, size_at, sizes_if, sizes_in}
use Rattle.anew.proofs.lists.Stretches.{listed_start, listed_size, listed_long, listed_ends, Refused, listed_where}
use Rattle.convert.specs.convert_lists.Exact.{Exact}
use Rattle.convert.specs.convert_lists.ToList.{list_plan, list_filled, make_list}
use Rattle.convert.proofs.convert_lists.ListLent.{Due}
use Rattle.convert.proofs.convert_lists.ToList.{w, t, v, lent_ok, to_list_ground, answer, lent, list, to_list_made, tables_after, to_list_shows}

module _ (formats schema : List ℕ) (x : Tables) (first m target : ℕ) (ok : column_ground formats schema x first (suc m) ≡ 0) (due : Due formats schema first (suc m) target (suc m)) where
  abbrev n : ℕ
  n = suc m

  abbrev wide : ℕ
  wide = w formats schema x first m target ok due

  abbrev item_type : Ty
  item_type = t formats schema x first m target ok due

  abbrev column : Column (t_list_view wide item_type)
  column = v formats schema x first m target ok due

  -- "a node keeping nulls exactly where the node it comes from has one": the root, and every node below it that is in parts
  pub to_list_keeps : (keeps_of (list_plan formats schema x first n target n) 0 ≡ flag (ltb 0 (null_count_of column))) × Exact (list_plan formats schema x first n target n) item_type 1 (kid wide item_type column)
  to_list_keeps = let g = lent_ok formats schema x first m target ok due [] in (g.keeps_are, g.exact)

  -- REFUSED ONLY AT A ROW: those before it are done, and it meets this ground first
  pub to_list_refused : ((list_filled formats schema x first n target n).ans ≡ 0 → ⊥) → Refused wide item_type column (list_filled formats schema x first n target n).ans
  to_list_refused some = go (listed wide item_type column) refl
    where
      go : (r : Try (Column (t_list wide item_type))) → listed wide item_type column ≡ r → Refused wide item_type column (list_filled formats schema x first n target n).ans
      go (done y) p = absurd (some (to_list_ground formats schema x first m target ok due ∙ ap ground_of p))
      go (stop g) p =
          let e : (list_filled formats schema x first n target n).ans ≡ g = to_list_ground formats schema x first m target ok due ∙ ap ground_of p in
          subst (Refused wide item_type column) (sym e) (listed_where wide item_type column g p)

  module _ (parts plan counters room : List ℕ) (body_bytes : AllBelow 256 x.body) (room_bytes : AllBelow 256 room) (passed : (make_list formats schema x first n target n parts plan counters room).refusal ≡ 0)
      (base : ℕ) (body : List ℕ) (bodied : Bodied body (lent formats schema x first m target ok due parts plan counters room body_bytes room_bytes passed) (answer formats schema x first m target ok due parts plan counters room body_bytes room_bytes passed).room base) where
    abbrev Y : Tables
    Y = tables_after formats schema x first m target ok due parts plan counters room body_bytes room_bytes passed base body bodied

    abbrev made : Column (t_list wide item_type)
    made = list formats schema x first m target ok due parts plan counters room body_bytes room_bytes passed

    made_is : listed wide item_type column ≡ done made
    made_is = to_list_made formats schema x first m target ok due parts plan counters room body_bytes room_bytes passed

    offsets_are : first_buffer Y 0 ≡ made.body.offsets
    offsets_are = (to_list_shows formats schema x first m target ok due parts plan counters room body_bytes room_bytes passed base body bodied).body_is.0

    -- WHERE ROW i STARTS in the finished tables: behind the sizes of the valid rows before it
    pub row_start : (i : ℕ) → i ≤ column.len → item wide (first_buffer Y 0) i ≡ sizes_in wide item_type column 0 i
    row_start i q = ap (λ o. item wide o i) offsets_are ∙ listed_start wide item_type column (lent_ok formats schema x first m target ok due []).formed.0 made made_is i q

    row_size : (i : ℕ) → i < column.len → item wide (first_buffer Y 0) (suc i) ≡ item wide (first_buffer Y 0) i + sizes_if wide item_type column (valid_at wide item_type column i) i
    row_size i q =
        ap (λ o. item wide o (suc i)) offsets_are
        ∙ listed_size wide item_type column (lent_ok formats schema x first m target ok due []).formed.0 made made_is i q
        ∙ ap (λ o. item wide o i + sizes_if wide item_type column (valid_at wide item_type column i) i) (sym offsets_are)

    -- "A NULL ROW BECOMES AN EMPTY STRETCH", a valid one has its size
    pub null_row_lem : (i : ℕ) → i < column.len → valid_at wide item_type column i ≡ false → item wide (first_buffer Y 0) (suc i) ≡ item wide (first_buffer Y 0) i
    null_row_lem i q e = row_size i q ∙ ap (λ b. item wide (first_buffer Y 0) i + sizes_if wide item_type column b i) e ∙ add-zero (item wide (first_buffer Y 0) i)

    pub valid_row : (i : ℕ) → i < column.len → valid_at wide item_type column i ≡ true → item wide (first_buffer Y 0) (suc i) ≡ item wide (first_buffer Y 0) i + size_at wide item_type column i
    valid_row i q e = row_size i q ∙ ap (λ b. item wide (first_buffer Y 0) i + sizes_if wide item_type column b i) e

    -- one offset more than rows, nothing behind them, and the child ends where the last row does
    pub offsets_long : length (first_buffer Y 0) ≡ suc column.len * wide
    offsets_long = ap length offsets_are ∙ listed_long wide item_type column (lent_ok formats schema x first m target ok due []).formed.0 made made_is

    pub child_ends : length_of Y 1 ≡ sizes_in wide item_type column 0 column.len
    child_ends =
        (to_list_shows formats schema x first m target ok due parts plan counters room body_bytes room_bytes passed base body bodied).body_is.1.len_is
        ∙ listed_ends wide item_type column (lent_ok formats schema x first m target ok due []).formed.0 made made_is
