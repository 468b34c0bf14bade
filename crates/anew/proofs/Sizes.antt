-- A node that obeys the rules and has offset 0, in a body within the ceiling, is no longer than the ceiling. Assumes nothing.
use mathlib.Core.Path.{◌≡◌, subst}
use mathlib.Core.Bool.{Bool, true, false, ◌&&◌}
use mathlib.Core.List.{List, []}
use Prim.Native.Nat.{ℕ, zero, suc, ◌+◌, ◌*◌, ◌≤◌, ◌<◌}
use native.Mathlib.Omega.{arith}
use lib.ListN.{length, drop, length-take, length-drop}
use lib.Dec.{T}
use Rattle.columnar.specs.Types.{Number, int, uint, w1, w2, w4, w8, f32, f64, width, half, fixed, string}
use Rattle.columnar.specs.Formed.{OffsetWidth, RunWidth}
use Rattle.columnar.specs.Array.{Array}
use Rattle.columnar.specs.Plain.{OffsetsRule, empty, full, PlainRule}
use Rattle.columnar.specs.View.{ViewRule}
use Rattle.columnar.specs.ListView.{ListView, ListViewRule}
use Rattle.columnar.specs.List.{Listed, ListRule}
use Rattle.columnar.specs.Union.{Sparse, Dense, SparseRule, DenseRule}
use Rattle.columnar.specs.RunEnd.{RunEnd, RunEndRule, end_of, start_of}
use Rattle.columnar.specs.Dictionary.{Dictionary, DictionaryRule}
use Rattle.columnar.specs.Test.{plain_test, view_test, list_view_test, list_test, sparse_test, dense_test, run_end_test, dictionary_test}
use Rattle.columnar.proofs.Test.{Agrees, every_out, array_agrees, plain_agrees, view_agrees, list_view_agrees, list_agrees, sparse_agrees, dense_agrees, run_end_agrees, dictionary_agrees}
use Rattle.array_data.specs.Tables.{Tables, part, length_of, offset_of, place, first_buffer, second_buffer, data_buffers, array_with, held, valid_in}
use Rattle.array_data.specs.Rules.{child_of, one_in, two_in, buffers_in}
use Rattle.array_data.specs.NodeKinds.{NodeKind}
use Rattle.array_data.specs.Typed.{Tree, node_of, kind_rule, node_rule, source_rule, kind_in}
use Rattle.array_data.specs.type_tree.Lent.{tree_of}
use Rattle.array_data.proofs.type_tree.Shaped.{Shaped, of_plain_lem, of_view, of_list, of_lists_lem, of_sparse, of_dense, of_run_lem, of_dictionary, shaped}
use Rattle.schema.specs.Tree.{typed}
use Rattle.schema.proofs.Known.{typed_shape}
use Rattle.columns.specs.Grounds.{ceiling}

right : (a b : Bool) → T (a && b) → T b
right true b h = h
right false b h = absurd h

any : {P : Type 0} (a : Array P) → Agrees true (Unit {0})
any a = record { sound = λ q. tt; complete = λ q. tt }

part_short : (body : List ℕ) (at size : ℕ) → length (part body at size) ≤ length body
part_short body at size = omega (arith, length-take size (drop at body), length-drop at body)

-- ---- by the widths of entries

fixed_fits : (m : Number) (n bytes most : ℕ) → n * width m ≤ bytes → bytes ≤ most → n ≤ most
fixed_fits (int w1) n bytes most h l = omega arith
fixed_fits (uint w1) n bytes most h l = omega arith
fixed_fits (int w2) n bytes most h l = omega arith
fixed_fits (uint w2) n bytes most h l = omega arith
fixed_fits (int w4) n bytes most h l = omega arith
fixed_fits (uint w4) n bytes most h l = omega arith
fixed_fits (int w8) n bytes most h l = omega arith
fixed_fits (uint w8) n bytes most h l = omega arith
fixed_fits f32 n bytes most h l = omega arith
fixed_fits f64 n bytes most h l = omega arith

wide_fits : {w : ℕ} → OffsetWidth w → (n bytes most : ℕ) → n * w ≤ bytes → bytes ≤ most → n ≤ most
wide_fits OffsetWidth.four n bytes most h l = omega arith
wide_fits OffsetWidth.eight n bytes most h l = omega arith

-- run ends are below half of their width's numbers
run_half : {w : ℕ} → RunWidth w → half w ≤ suc ceiling
run_half RunWidth.two = omega arith
run_half RunWidth.four = omega arith
run_half RunWidth.eight = omega arith

last_fits : {w : ℕ} → RunWidth w → (e : ℕ → ℕ) (c n : ℕ) → ((k : ℕ) → k < c → e k < half w) → n ≤ start_of e c → n ≤ ceiling
last_fits g e zero n h l = omega arith
last_fits g e (suc c) n h l = omega (arith, h c (omega arith), run_half g)

module _ (formats schema : List ℕ) (first n : ℕ) (y : Tables) (short : length y.body ≤ ceiling) (rule : T (source_rule (tree_of formats schema first n) y)) where
  abbrev t : Tree
  t = tree_of formats schema first n

  module _ (i : ℕ) (l : i < n) (start : offset_of y i ≡ 0) where
    abbrev off : ℕ
    off = offset_of y i

    abbrev len : ℕ
    len = length_of y i

    abbrev most : ℕ
    most = length y.body

    rule_of : (k : NodeKind) → kind_in t i ≡ k → T (kind_rule t y k i)
    rule_of k e = subst (λ k. T (kind_rule t y k i)) e (every_out (node_rule t y) n rule i l)

    by_sum : off + len ≤ most → len ≤ ceiling
    by_sum h = omega (arith, short)

    first_short : length (first_buffer y i) ≤ most
    first_short = part_short y.body (place y i 3) (place y i 4)

    by_offsets : {w : ℕ} → OffsetWidth w → (limit : ℕ) → OffsetsRule w (first_buffer y i) limit off len → len ≤ ceiling
    by_offsets g limit (empty e f) = omega arith
    by_offsets {w} g limit (full h) = let a = wide_fits g (off + len + 1) (length (first_buffer y i)) most h.hold first_short in omega (arith, a, short)

    pub length_fits : Shaped formats schema first i → len ≤ ceiling
    length_fits (of_plain_lem (fixed m) e b g) =
        let o = (array_agrees true (PlainRule (fixed m)) (plain_test (fixed m)) (plain_agrees (fixed m)) (array_with y (first_buffer y i) i)).sound (right (one_in y i) _ (rule_of _ e)) in
        by_sum (fixed_fits m (off + len) (length (first_buffer y i)) most o.slots first_short)
    length_fits (of_plain_lem (string w) e b g) =
        let o = (array_agrees true (PlainRule (string w)) (plain_test (string w)) (plain_agrees (string w)) (array_with y (record { offsets = first_buffer y i; chars = second_buffer y i }) i)).sound (right (two_in y i) _ (rule_of _ e)) in
        by_offsets g (length (second_buffer y i)) o.slots
    length_fits (of_view e b) =
        let o = (array_agrees true ViewRule view_test view_agrees (array_with y (record { views = first_buffer y i; buffers = data_buffers y i }) i)).sound (right (one_in y i && buffers_in y i) _ (rule_of _ e)) in
        omega (arith, o.slots.hold, first_short, short)
    length_fits (of_list w e b g) =
        let v : ListView (Unit {0}) = record { offsets = first_buffer y i; sizes = second_buffer y i; child = child_of y (suc i) } in
        let o =
        (array_agrees true (ListViewRule w (λ a. Unit {0})) (list_view_test w (λ a. true)) (list_view_agrees (λ a. Unit {0}) (λ a. true) any w) (array_with y v i)).sound (right (two_in y i) _ (rule_of _ e)) in
        by_sum (wide_fits g (off + len) (length (first_buffer y i)) most o.slots.hold_offsets first_short)
    length_fits (of_lists_lem w e b g) =
        let v : Listed (Unit {0}) = record { offsets = first_buffer y i; child = child_of y (suc i) } in
        let o = (array_agrees true (ListRule w (λ a. Unit {0})) (list_test w (λ a. true)) (list_agrees (λ a. Unit {0}) (λ a. true) any w) (array_with y v i)).sound (right (one_in y i) _ (rule_of _ e)) in
        by_offsets g (length_of y (suc i)) o.slots.offsets_rule_lem
    length_fits (of_sparse ids e b g d) =
        let v : Sparse (λ c. Unit {0}) = record { ids = first_buffer y i; children = λ c. child_of y (node_of t i ids c) } in
        let o =
        (array_agrees false (SparseRule ids (λ c a. Unit {0})) (sparse_test ids (λ c a. true)) (sparse_agrees ids (λ c a. Unit {0}) (λ c a. true) (λ c. any)) (array_with y v i)).sound (right (one_in y i) _ (rule_of _ e)) in
        omega (arith, o.slots.hold, first_short, short)
    length_fits (of_dense ids e b g d) =
        let v : Dense (λ c. Unit {0}) = record { ids = first_buffer y i; positions = second_buffer y i; children = λ c. child_of y (node_of t i ids c) } in
        let o =
        (array_agrees false (DenseRule ids (λ c a. Unit {0})) (dense_test ids (λ c a. true)) (dense_agrees ids (λ c a. Unit {0}) (λ c a. true) (λ c. any)) (array_with y v i)).sound (right (two_in y i) _ (rule_of _ e)) in
        omega (arith, o.slots.hold_ids, first_short, short)
    length_fits (of_run_lem m e b q z g) =
        let ends = array_with y (first_buffer y (suc i)) (suc i) in
        let v : RunEnd (Unit {0}) = record { ends = ends; values = child_of y (suc (suc i)) } in
        let o =
        (array_agrees false (RunEndRule (width m) (λ a. Unit {0})) (run_end_test (width m) (λ a. true)) (run_end_agrees (λ a. Unit {0}) (λ a. true) any (width m)) (array_with y v i)).sound (right (held y i && valid_in y i) _ (rule_of _ e)) in
        last_fits g (end_of (width m) ends) ends.len len o.slots.positive (omega (arith, o.slots.covers))
    length_fits (of_dictionary m p e b q z k g) =
        let v : Dictionary (Unit {0}) = record { keys = first_buffer y i; values = child_of y (suc i); starts = [] } in
        let o =
        (array_agrees true (DictionaryRule m (λ a. Unit {0})) (dictionary_test m (λ a. true)) (dictionary_agrees (λ a. Unit {0}) (λ a. true) any m) (array_with y v i)).sound (right (one_in y i) _ (rule_of _ e)) in
        by_sum (fixed_fits m (off + len) (length (first_buffer y i)) most o.slots.hold first_short)

  -- ITS LENGTH IS WITHIN THE CEILING
  pub lengths_fit : typed formats schema first n ≡ true → (i : ℕ) → i < n → offset_of y i ≡ 0 → length_of y i ≤ ceiling
  lengths_fit h i l z = length_fits i l z (shaped formats schema first i (typed_shape formats schema first n h i l))
