-- THE THEOREM: a row that is read of an accepted column is the row of crate `columnar`. Assumes nothing.
use mathlib.Core.Path.{◌≡◌, refl, ap, sym, subst, ◌∙◌}
use mathlib.Core.Bool.{Bool, true, false, ◌&&◌}
use mathlib.Core.List.Memᴰ
use mathlib.Core.List.{List, [], ◌∷◌, Memᴰ}
use Prim.Native.Nat.{ℕ, zero, suc, ◌+◌, ◌*◌, ◌-◌, ◌^◌, ◌≤◌, ◌<◌}
use native.Mathlib.Nat.{mul-one}
use native.Mathlib.Omega.{arith}
use lib.ListN.{length, get_or}
use lib.Dec.{T, leb}
use borrow.Author.Tests.{le-leb, lt-ltb, leb-true}
use Rattle.std.specs.Prelude.{}
use Rattle.columnar.specs.Row.{Row, null, union}
use Rattle.columnar.specs.Types.{Number, width, Plain, fixed, string, Ty, t_plain, t_view, t_list_view, t_list, t_sparse, t_dense, t_run_end, t_dictionary}
use Rattle.columnar.specs.Formed.{OffsetWidth, RunWidth, FormedPlain, Ids}
use Rattle.columnar.specs.Array.{item, ok, sight}
use Rattle.columnar.specs.Plain.{StringRule, OffsetsRule, empty, full}
use Rattle.columnar.specs.Test.{every}
use Rattle.columnar.specs.Reading.{masks, slot_at, read, Source}
use Rattle.columnar.specs.RunEnd.{end_of, first_above}
use Rattle.columnar.proofs.Items.{item_one}
use Rattle.columnar.proofs.Test.{every_out}
use Rattle.schema.specs.Tree.{below, child_at, depth, whole, ceilings, typed}
use Rattle.schema.proofs.Trees.{child_inside}
use Rattle.schema.proofs.Depth.{child_depth}
use Rattle.schema.proofs.Known.{typed_whole, within_nodes, within_depth}
use Rattle.array_data.specs.Tables.{Tables, length_of, offset_of, place, valid_of, first_buffer, second_buffer, array_with, in_body}
use Rattle.array_data.specs.Rules.{one_in, buffers_in}
use Rattle.array_data.proofs.type_tree.ByKind.{plain_as, ty_as, type_by_lem}
use Rattle.array_data.specs.NodeKinds.{NodeKind, fixed_node, string_node, view_node, list_view_node, list_node, sparse_node, dense_node, run_end_node, kind_at}
use Rattle.array_data.specs.Typed.{field_of, node_of, body_of, column_of, kind_rule, node_rule, source_rule, tables_from}
use Rattle.array_data.specs.type_tree.Lent.{tree_of, ty_of, type_of}
use Rattle.array_data.proofs.type_tree.Ids.{field_in_lem}
use Rattle.array_data.proofs.type_tree.Lent.{child_same, first_child, second_child, some_node, root}
use Rattle.array_data.proofs.type_tree.Shaped.{Shaped, of_plain_lem, of_view, of_list, of_lists_lem, of_sparse, of_dense, of_run_lem, of_dictionary, plain_kind}
use Rattle.array_data.proofs.type_tree.Source.{lent_source}
use Rattle.array_data.proofs.lent_tables.Laws.{and_left, and_right}
use Rattle.array_data.specs.entries.Entries.{entry_in, valid_bit}
use Rattle.slot_reader.specs.declared.RowRead.TheVariants as row
use Rattle.slot_reader.specs.Slots.{kind_word, list_view_read, list_read, stored_by, entry_by, named_at, keyed, dictionary_read}
use Rattle.array_data.specs.node_words.Words.{planted}
use Rattle.row_reader.specs.declared.Step.TheVariants as step
use Rattle.row_reader.specs.Walk.{into, under_id, ran, run_of, runs_step, step_by, step_on, sighted, step_at, Walked, walked_to, follow, walk, is_refused, row_at}
use Rattle.row_reader.proofs.Laws.{at_slot}
use Rattle.row_reader.specs.meaning.Meaning.{meaning}
use Rattle.row_reader.proofs.meaning.Child.{words, found_child}
use Rattle.row_reader.proofs.meaning.Words.{plainer, ids_few, sparse_ids, dense_ids, node_shaped, kind_word_lem, known_word}
use Rattle.row_reader.proofs.meaning.Slots.{wide, number_sized, offset_sized, offset_wide, entry_slot, number_gives, stored_gives, list_rows_lem, string_gives, entry_gives, valid_known}
use Rattle.row_reader.proofs.meaning.Views.{view_gives}
use Rattle.row_reader.proofs.meaning.Runs.{ran_is, ran_below}
use Rattle.array_data.proofs.Names.{ids_or}
use Rattle.std.specs.Prelude.{Some}

is_true : (b : Bool) → T b → b ≡ true
is_true true h = refl
is_true false h = absurd h

true_is : (b : Bool) → b ≡ true → T b
true_is b e = subst T (sym e) tt

id_small : (ids : List ℕ) → Ids ids → (c : ℕ) → Memᴰ c ids → c ≤ 127
id_small [] h c m = absurd (Memᴰ.not-nil m)
id_small (d ∷ ds) h c (Memᴰ.head e) = omega (arith, e, h.0)
id_small (d ∷ ds) h c (Memᴰ.tail q) = id_small ds h.2 c q

plain_as_lem : (p : Plain) → plain_as (plain_kind p) ≡ p
plain_as_lem (fixed m) = refl
plain_as_lem (string w) = refl

plain_plainer : (p : Plain) → plainer (plain_kind p) ≡ plain_kind p
plain_plainer (fixed m) = refl
plain_plainer (string w) = refl

module _ (formats schema : List ℕ) (first n : ℕ) (x : Tables) (t : typed formats schema first n ≡ true) (c : ceilings formats schema first n ≡ true)
    (all : T (source_rule (tree_of formats schema first n) x)) (small : (j : ℕ) → get_or x.body j 0 < 256)
    (sums : (i : ℕ) → i < n → offset_of x i + length_of x i < 2 ^ 63) where
  abbrev tree : Rattle.array_data.specs.Typed.Tree
  tree = tree_of formats schema first n

  abbrev w : List ℕ
  w = words formats schema first n

  abbrev column : (u : Ty) (i : ℕ) → Rattle.columnar.specs.Reading.Column u
  column u i = column_of tree x u i

  is_whole : whole schema first n ≡ true
  is_whole = typed_whole formats schema first n t

  -- an answer that is no refusal and stands for this row
  pub record Shows (u : Ty) (v : Walked) (want : Row) : Type 0 where
    pub accepted : is_refused v.read ≡ false
    pub means : meaning tree x u v.ids v.read ≡ want

  null_means : (u : Ty) → meaning tree x u [] row.Null ≡ null
  null_means (t_plain p) = refl
  null_means t_view = refl
  null_means (t_list_view v u) = refl
  null_means (t_list v u) = refl
  null_means (t_sparse ids nullable f) = refl
  null_means (t_dense ids nullable f) = refl
  null_means (t_run_end v u) = null_means u
  null_means (t_dictionary k p) = refl

  -- ---- one level, where the levels below are known
  module _ (f i r : ℕ) (l : i < n) (q : r < length_of x i) (okay : T (ok (valid_of x i) (offset_of x i + r)))
      (ih : (j : ℕ) → j < n → 9 ≤ depth schema first n j + f → (k : ℕ) → Source (ty_of tree f j) (column (ty_of tree f j) j) → k < length_of x j
      → Shows (ty_of tree f j) (walk w x f j k) (read (ty_of tree f j) (column (ty_of tree f j) j) k))
      (deep : 9 ≤ depth schema first n i + suc f) where
    abbrev slot : ℕ
    slot = offset_of x i + r

    abbrev Level : NodeKind → Type 0
    Level k =
        Source (ty_as tree (ty_of tree f) k i) (column (ty_as tree (ty_of tree f) k i) i)
        → Shows (ty_as tree (ty_of tree f) k i) (follow (walk w x f) (step_by w x (plainer k) i slot)) (slot_at (ty_as tree (ty_of tree f) k i) (body_of tree x (ty_as tree (ty_of tree f) k i) i) slot)

    -- a child of this node
    kid : (j k : ℕ) → k < below schema first i → j ≡ child_at schema first n i k → (m : ℕ) → Source (ty_of tree f j) (column (ty_of tree f j) j) → m < length_of x j
        → Shows (ty_of tree f j) (walk w x f j m) (read (ty_of tree f j) (column (ty_of tree f j) j) m)
    kid j k b e m s h =
        let a : j < n = subst (λ z. z < n) (sym e) (child_inside schema first n is_whole i k l b) in
        let d : 9 ≤ depth schema first n j + f = subst (λ z. 9 ≤ depth schema first n z + f) (sym e) (omega (arith, child_depth schema first n is_whole i k l b)) in
        ih j a d m s h

    fixed_level : (m : Number) → Level (fixed_node m)
    fixed_level m s =
        let g = number_gives x.body small m (place x i 3) (place x i 4) slot (offset_of x i + length_of x i) s.slots (omega arith) in
        record { accepted = g.accepted; means = g.means }

    string_level : (v : ℕ) → OffsetWidth v → Level (string_node v)
    string_level v o s = go s.slots
      where
        go : StringRule v (record { offsets = first_buffer x i; chars = second_buffer x i }) (offset_of x i) (length_of x i)
            → Shows (t_plain (string v)) (follow (walk w x f) (step_by w x (string_node v) i slot)) (slot_at (t_plain (string v)) (body_of tree x (t_plain (string v)) i) slot)
        go (empty e z) = absurd (omega (arith, e))
        go (full h) =
            let g = string_gives x.body v (first_buffer x i) (place x i 5) (place x i 6) (offset_of x i) (length_of x i) r o h q in
            record { accepted = g.accepted; means = g.means }

    -- the data buffers lie in the body
    buffers_lie : kind_at formats schema first i ≡ view_node → (b : ℕ) → b < place x i 8
        → get_or x.buffers (2 * (place x i 7 + b)) 0 + get_or x.buffers (2 * (place x i 7 + b) + 1) 0 ≤ length x.body
    buffers_lie e b h =
        let rule : T (kind_rule tree x view_node i) = subst (λ k. T (kind_rule tree x k i)) e (every_out (node_rule tree x) n all i l) in
        let two : one_in x i && buffers_in x i ≡ true = and_left (one_in x i && buffers_in x i) _ (is_true _ rule) in
        let lie : T (every (λ k. in_body x (get_or x.buffers (2 * (place x i 7 + k)) 0) (get_or x.buffers (2 * (place x i 7 + k) + 1) 0)) (place x i 8)) =
        true_is _ (and_right (leb (2 * (place x i 7 + place x i 8)) (length x.buffers)) _ (and_right (one_in x i) _ two)) in
        leb-true _ _ (is_true _ (every_out _ (place x i 8) lie b h))

    view_level : kind_at formats schema first i ≡ view_node → Level view_node
    view_level e s =
        let g = view_gives x.body x.buffers (place x i 7) (place x i 8) (buffers_lie e) (place x i 3) (place x i 4) slot (offset_of x i + length_of x i) s.slots.hold (omega arith) (s.slots.good r q okay) in
        record { accepted = g.accepted; means = g.means }

    list_view_level : (v : ℕ) → OffsetWidth v → Level (list_view_node v)
    list_view_level v o s =
        let e1 = entry_slot v (first_buffer x i) slot (offset_of x i + length_of x i) (offset_wide v o) (offset_sized v o) s.slots.hold_offsets (omega arith) in
        let e2 = entry_slot v (second_buffer x i) slot (offset_of x i + length_of x i) (offset_wide v o) (offset_sized v o) s.slots.hold_sizes (omega arith) in
        let z : list_view_read v (first_buffer x i) (second_buffer x i) (suc i) slot ≡ row.List (suc i) (item v (first_buffer x i) slot) (item v (second_buffer x i) slot) = rw (e1, e2) in
        subst (λ a. Shows (t_list_view v (ty_of tree f (suc i))) (walked_to a) (slot_at (t_list_view v (ty_of tree f (suc i))) (body_of tree x (t_list_view v (ty_of tree f (suc i))) i) slot)) (sym z)
        (record { accepted = refl; means = refl })

    list_level : (v : ℕ) → OffsetWidth v → Level (list_node v)
    list_level v o s = go s.slots.offsets_rule_lem
      where
        go : OffsetsRule v (first_buffer x i) (length_of x (suc i)) (offset_of x i) (length_of x i)
            → Shows (t_list v (ty_of tree f (suc i))) (walked_to (list_read v (first_buffer x i) (suc i) (length_of x (suc i)) slot)) (slot_at (t_list v (ty_of tree f (suc i))) (body_of tree x (t_list v (ty_of tree f (suc i))) i) slot)
        go (empty e z) = absurd (omega (arith, e))
        go (full h) =
            subst (λ a. Shows (t_list v (ty_of tree f (suc i))) (walked_to a) (slot_at (t_list v (ty_of tree f (suc i))) (body_of tree x (t_list v (ty_of tree f (suc i))) i) slot))
            (sym (list_rows_lem v (first_buffer x i) (length_of x (suc i)) (offset_of x i) (length_of x i) r o h q (suc i))) (record { accepted = refl; means = refl })

    -- a union's child, by the id of the slot
    abbrev id : ℕ
    id = get_or (first_buffer x i) slot 0

    id_entry : offset_of x i + length_of x i ≤ length (first_buffer x i) → entry_in 1 (first_buffer x i) slot ≡ Some id
    id_entry h =
        entry_slot 1 (first_buffer x i) slot (offset_of x i + length_of x i) (omega arith) refl (omega (arith, mul-one (offset_of x i + length_of x i))) (omega arith)
        ∙ ap Some (item_one (first_buffer x i) slot (omega arith))

    goes_into : (ids : List ℕ) → Ids ids → ids_or (Rattle.schema.specs.Tree.ids_of formats schema first i) ≡ ids → below schema first i ≡ length ids → Memᴰ id ids → (m : ℕ)
        → into w i id m ≡ step.Choose id (node_of tree i ids id) m
    unfolding into
    goes_into ids d are many mem m =
        let few : length ids ≤ 16 = omega (arith, ap length are, ids_few formats schema first n i) in
        let node = found_child formats schema first n is_whole i l ids are many (within_nodes formats schema first n c) id mem few in
        rw (le-leb id 127 (id_small ids d id mem), node, child_same formats schema first n i (field_of ids id))

    sparse_level : (ids : List ℕ) → kind_at formats schema first i ≡ sparse_node ids → below schema first i ≡ length ids → Ids ids → Level (sparse_node ids)
    sparse_level ids e many d s =
        let mem = s.slots.declared r q in
        let z : under_id w i (entry_in 1 (first_buffer x i) slot) (Some slot) ≡ step.Choose id (node_of tree i ids id) slot =
        ap (λ a. under_id w i a (Some slot)) (id_entry s.slots.hold) ∙ goes_into ids d (sparse_ids formats schema first n i ids e) many mem slot in
        let k = kid (node_of tree i ids id) (field_of ids id) (omega (arith, field_in_lem ids id mem)) (sym (child_same formats schema first n i (field_of ids id))) slot (s.slots.child_rule id mem) (omega (arith, s.slots.long id mem)) in
        subst (λ a. Shows (ty_as tree (ty_of tree f) (sparse_node ids) i) (follow (walk w x f) a) (slot_at (ty_as tree (ty_of tree f) (sparse_node ids) i) (body_of tree x (ty_as tree (ty_of tree f) (sparse_node ids) i) i) slot)) (sym z)
        (record { accepted = k.accepted; means = ap (union id) k.means })

    dense_level : (ids : List ℕ) → kind_at formats schema first i ≡ dense_node ids → below schema first i ≡ length ids → Ids ids → Level (dense_node ids)
    dense_level ids e many d s =
        let mem = s.slots.declared r q in
        let at = item 4 (second_buffer x i) slot in
        let e2 = entry_slot 4 (second_buffer x i) slot (offset_of x i + length_of x i) (omega arith) refl s.slots.hold_positions (omega arith) in
        let z : under_id w i (entry_in 1 (first_buffer x i) slot) (entry_in 4 (second_buffer x i) slot) ≡ step.Choose id (node_of tree i ids id) at =
        ap (λ a. under_id w i a (entry_in 4 (second_buffer x i) slot)) (id_entry s.slots.hold_ids) ∙ ap (under_id w i (Some id)) e2 ∙ goes_into ids d (dense_ids formats schema first n i ids e) many mem at in
        let k = kid (node_of tree i ids id) (field_of ids id) (omega (arith, field_in_lem ids id mem)) (sym (child_same formats schema first n i (field_of ids id))) at (s.slots.child_rule id mem) (s.slots.within r q) in
        subst (λ a. Shows (ty_as tree (ty_of tree f) (dense_node ids) i) (follow (walk w x f) a) (slot_at (ty_as tree (ty_of tree f) (dense_node ids) i) (body_of tree x (ty_as tree (ty_of tree f) (dense_node ids) i) i) slot)) (sym z)
        (record { accepted = k.accepted; means = ap (union id) k.means })

    run_level : (v : ℕ) → RunWidth v → below schema first i ≡ 2 → below schema first (suc i) ≡ 0 → Level (run_end_node v)
    run_level v d many none_below s =
        let ends = array_with x (first_buffer x (suc i)) (suc i) in
        let u = ty_of tree f (suc (suc i)) in
        let o = s.slots in
        let next : suc i < n = subst (λ z. z < n) (first_child formats schema first n i) (child_inside schema first n is_whole i 0 l (omega arith)) in
        let sum : offset_of x i + length_of x i < 2 ^ 64 = omega (arith, sums i l) in
        let small-ends : offset_of x (suc i) + length_of x (suc i) < 2 ^ 64 = omega (arith, sums (suc i) next) in
        let back : slot - offset_of x i ≡ r = omega arith in
        let z : runs_step x i v slot ≡ step.Go (suc (suc i)) (first_above (end_of v ends) slot 0 (length_of x (suc i))) =
        ap (λ a. ran i (run_of x i v a)) back ∙ ran_is v d (first_buffer x (suc i)) ends refl o.hold o.positive o.rises (offset_of x i) (length_of x i) sum o.covers r q small-ends i in
        let below_run = ran_below v d (first_buffer x (suc i)) ends refl o.hold o.positive o.rises (offset_of x i) (length_of x i) sum o.covers r q in
        let k = kid (suc (suc i)) 1 (omega arith) (sym (second_child formats schema first n i next none_below)) (first_above (end_of v ends) slot 0 (length_of x (suc i))) o.child_rule (omega (arith, below_run, o.as_many)) in
        subst (λ a. Shows (t_run_end v u) (follow (walk w x f) a) (slot_at (t_run_end v u) (body_of tree x (t_run_end v u) i) slot)) (sym z)
        (record { accepted = k.accepted; means = k.means })

    -- ---- dictionaries

    module _ (m : Number) (next : suc i < n) where
      abbrev key : ℕ
      key = item (width m) (first_buffer x i) slot

      abbrev at : ℕ
      at = offset_of x (suc i) + key

      abbrev DictionaryLevel : Plain → Type 0
      DictionaryLevel p =
          Source (t_dictionary m p) (column (t_dictionary m p) i)
          → Shows (t_dictionary m p) (walked_to (dictionary_read w x i (width m) slot)) (slot_at (t_dictionary m p) (body_of tree x (t_dictionary m p) i) slot)

      reads_key : (p : Plain) → kind_at formats schema first (suc i) ≡ plain_kind p → Source (t_dictionary m p) (column (t_dictionary m p) i)
          → dictionary_read w x i (width m) slot
          ≡ entry_by (valid_bit (ok (valid_of x (suc i)) at)) (stored_by (plain_kind p) (place x (suc i) 3) (first_buffer x (suc i)) (place x (suc i) 5) (second_buffer x (suc i)) at)
      reads_key p e s =
          let in_values : key < length_of x (suc i) = s.slots.within r q okay in
          let e1 = entry_slot (width m) (first_buffer x i) slot (offset_of x i + length_of x i) (wide m) (number_sized m) s.slots.hold (omega arith) in
          let low : at < 2 ^ 64 = omega (arith, sums (suc i) next, in_values) in
          let kind : kind_word w (suc i) ≡ plain_kind p = kind_word_lem formats schema first n t c (suc i) next ∙ ap plainer e ∙ plain_plainer p in
          let bit = valid_known true (valid_of x (suc i)) (offset_of x (suc i) + length_of x (suc i)) at s.slots.child_rule.mask (omega arith) in
          ap (keyed (offset_of x (suc i)) (named_at w x (suc i))) e1
          ∙ rw (lt-ltb at (2 ^ 64) low, known_word formats schema first n t c (suc i) next, kind, bit)

      dictionary_level : (p : Plain) → FormedPlain p → kind_at formats schema first (suc i) ≡ plain_kind p → DictionaryLevel p
      dictionary_level (fixed v) d e s =
          let in_values : key < length_of x (suc i) = s.slots.within r q okay in
          let g = entry_gives x.body (ok (valid_of x (suc i)) at) _ _ (stored_gives x.body small v (place x (suc i) 3) (place x (suc i) 4) at (offset_of x (suc i) + length_of x (suc i)) s.slots.child_rule.slots (omega arith)) in
          subst (λ a. Shows (t_dictionary m (fixed v)) (walked_to a) (slot_at (t_dictionary m (fixed v)) (body_of tree x (t_dictionary m (fixed v)) i) slot)) (sym (reads_key (fixed v) e s))
          (record { accepted = g.accepted; means = g.means })
      dictionary_level (string v) d e s = go s.slots.child_rule.slots
        where
          go : StringRule v (record { offsets = first_buffer x (suc i); chars = second_buffer x (suc i) }) (offset_of x (suc i)) (length_of x (suc i))
              → Shows (t_dictionary m (string v)) (walked_to (dictionary_read w x i (width m) slot)) (slot_at (t_dictionary m (string v)) (body_of tree x (t_dictionary m (string v)) i) slot)
          go (empty z y) = absurd (omega (arith, z, s.slots.within r q okay))
          go (full h) =
              let g = entry_gives x.body (ok (valid_of x (suc i)) at) _ _ (string_gives x.body v (first_buffer x (suc i)) (place x (suc i) 5) (place x (suc i) 6) (offset_of x (suc i)) (length_of x (suc i)) key d h (s.slots.within r q okay)) in
              subst (λ a. Shows (t_dictionary m (string v)) (walked_to a) (slot_at (t_dictionary m (string v)) (body_of tree x (t_dictionary m (string v)) i) slot)) (sym (reads_key (string v) e s))
              (record { accepted = g.accepted; means = g.means })

    -- ---- every kind

    level : Shaped formats schema first i → Level (kind_at formats schema first i)
    level (of_plain_lem (fixed m) e z d) = subst Level (sym e) (fixed_level m)
    level (of_plain_lem (string v) e z d) = subst Level (sym e) (string_level v d)
    level (of_view e z) = subst Level (sym e) (view_level e)
    level (of_list v e z d) = subst Level (sym e) (list_view_level v d)
    level (of_lists_lem v e z d) = subst Level (sym e) (list_level v d)
    level (of_sparse ids e z d o) = subst Level (sym e) (sparse_level ids e z d)
    level (of_dense ids e z d o) = subst Level (sym e) (dense_level ids e z d)
    level (of_run_lem m e z e1 z1 d) = subst Level (sym e) (run_level (width m) d z z1)
    level (of_dictionary m p e z e1 z1 g d) =
        let next : suc i < n = subst (λ k. k < n) (first_child formats schema first n i) (child_inside schema first n is_whole i 0 l (omega arith)) in
        subst Level (sym e) (subst (DictionaryLevel m next) (sym (ap plain_as e1 ∙ plain_as_lem p)) (dictionary_level m next p d e1))

    step_is : step_on w x i slot ≡ step_by w x (plainer (kind_at formats schema first i)) i slot
    step_is = rw (known_word formats schema first n t c i l, kind_word_lem formats schema first n t c i l)

    pub valid_shows : Source (ty_of tree (suc f) i) (column (ty_of tree (suc f) i) i)
        → Shows (ty_of tree (suc f) i) (follow (walk w x f) (step_on w x i slot)) (slot_at (ty_of tree (suc f) i) (body_of tree x (ty_of tree (suc f) i) i) slot)
    valid_shows =
        subst (λ u. Source u (column u i) → Shows u (follow (walk w x f) (step_on w x i slot)) (slot_at u (body_of tree x u i) slot)) (sym (type_by_lem tree f i))
        (λ s. subst (λ a. Shows (ty_as tree (ty_of tree f) (kind_at formats schema first i) i) (follow (walk w x f) a) (slot_at (ty_as tree (ty_of tree f) (kind_at formats schema first i) i) (body_of tree x (ty_as tree (ty_of tree f) (kind_at formats schema first i) i) i) slot)) (sym step_is)
        (level (node_shaped formats schema first n t c i l) s))

  -- ---- every level

  reads : (f i r : ℕ) → i < n → 9 ≤ depth schema first n i + f → Source (ty_of tree f i) (column (ty_of tree f i) i) → r < length_of x i
      → Shows (ty_of tree f i) (walk w x f i r) (read (ty_of tree f i) (column (ty_of tree f i) i) r)
  unfolding walk
  reads zero i r l d s q = absurd (omega (arith, within_depth formats schema first n c i l))
  reads (suc f) i r l d s q =
      subst (λ a. Shows (ty_of tree (suc f) i) (follow (walk w x f) a) (read (ty_of tree (suc f) i) (column (ty_of tree (suc f) i) i) r)) seen
      (go (λ j a b m s2 h. reads f j m a b s2 h) (ok (valid_of x i) (offset_of x i + r)) refl)
    where
      seen : sighted w x (valid_bit (ok (valid_of x i) (offset_of x i + r))) (step_on w x i (offset_of x i + r)) ≡ step_at w x i r
      seen =
          at_slot w x i r (omega (arith, within_nodes formats schema first n c)) (offset_of x i) refl (omega (arith, sums i l)) (valid_bit (ok (valid_of x i) (offset_of x i + r)))
          (sym (valid_known (masks (ty_of tree (suc f) i)) (valid_of x i) (offset_of x i + length_of x i) (offset_of x i + r) s.mask (omega arith)))
          (step_on w x i (offset_of x i + r)) refl

      go : ((j : ℕ) → j < n → 9 ≤ depth schema first n j + f → (m : ℕ) → Source (ty_of tree f j) (column (ty_of tree f j) j) → m < length_of x j
          → Shows (ty_of tree f j) (walk w x f j m) (read (ty_of tree f j) (column (ty_of tree f j) j) m))
          → (b : Bool) → ok (valid_of x i) (offset_of x i + r) ≡ b
          → Shows (ty_of tree (suc f) i) (follow (walk w x f) (sighted w x (valid_bit b) (step_on w x i (offset_of x i + r)))) (sight b (slot_at (ty_of tree (suc f) i) (body_of tree x (ty_of tree (suc f) i) i) (offset_of x i + r)))
      go ih false e = record { accepted = refl; means = null_means (ty_of tree (suc f) i) }
      go ih true e = valid_shows f i r l q (true_is _ e) ih d s

  -- A ROW OF THE COLUMN: the answer is no refusal, and stands for the row that crate `columnar` reads
  pub row_shows : (r : ℕ) → r < length_of x 0 → Shows (type_of formats schema first n) (row_at w x r) (read (type_of formats schema first n) (column (type_of formats schema first n) 0) r)
  unfolding row_at
  row_shows r q =
      let s = lent_source formats schema first n x t c all in
      let g = reads 8 0 r (some_node formats schema first n is_whole) (root formats schema first n) s q in
      let e : row_at w x r ≡ walk w x 8 0 r = rw (lt-ltb r (length_of x 0) q, g.accepted) in
      subst (λ v. Shows (type_of formats schema first n) v (read (type_of formats schema first n) (column (type_of formats schema first n) 0) r)) (sym e) g

-- THE SAME of lent tables: the column of n nodes that begins at node `first` of them, with the words of its tree
pub lent_row : (formats schema : List ℕ) (first n : ℕ) (x : Tables) → typed formats schema first n ≡ true → ceilings formats schema first n ≡ true
    → (all : source_rule (tree_of formats schema first n) (tables_from x first) ≡ true) → ((j : ℕ) → get_or x.body j 0 < 256)
    → ((i : ℕ) → i < n → offset_of (tables_from x first) i + length_of (tables_from x first) i < 2 ^ 63) → (r : ℕ) → r < length_of (tables_from x first) 0
    → (is_refused (row_at (planted formats schema first n) (tables_from x first) r).read ≡ false)
    × (meaning (tree_of formats schema first n) (tables_from x first) (type_of formats schema first n) (row_at (planted formats schema first n) (tables_from x first) r).ids (row_at (planted formats schema first n) (tables_from x first) r).read
    ≡ read (type_of formats schema first n) (column_of (tree_of formats schema first n) (tables_from x first) (type_of formats schema first n) 0) r)
lent_row formats schema first n x t c all small sums r q =
    let s = row_shows formats schema first n (tables_from x first) t c (true_is _ all) small sums r q in
    (s.accepted, s.means)
