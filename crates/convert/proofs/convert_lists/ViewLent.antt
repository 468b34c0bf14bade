-- A list column that meets none of the grounds 9, 10 and 12, and a target that is its list-view: all that the walk of its root asks.
-- Assumes nothing.
use mathlib.Core.Path.{◌≡◌, refl, sym, ap, subst, ◌∙◌}
use mathlib.Core.Bool.{Bool, true, false, ◌&&◌}
use mathlib.Core.Option.{Option, none, some}
use mathlib.Core.List.{List, [], ◌∷◌, Memᴰ}
use Prim.Native.Nat.{ℕ, zero, suc, ◌+◌, ◌-◌, ◌≤◌, ◌<◌}
use native.Mathlib.Decide.{dec_lt}
use native.Mathlib.Omega.{arith}
use lib.Dec.{T, ltb, eqb}
use borrow.Author.Tests.{eqb-true}
use Rattle.columnar.specs.Types.{Ty, t_list_view, t_list}
use Rattle.columnar.specs.Formed.{Formed}
use Rattle.columnar.specs.Reading.{Column, Source}
use Rattle.schema.specs.formats.Code.{is_view, is_list_view, is_list, width_of}
use Rattle.schema.specs.Tree.{below, ceilings, typed, same_type}
use Rattle.schema.specs.Tree as trees
use Rattle.schema.proofs.Trees.{child_inside}
use Rattle.schema.proofs.Known.{typed_whole, typed_shape}
use Rattle.array_data.specs.Tables.{Tables, length_of, offset_of, place}
use Rattle.array_data.proofs.type_tree.ByKind.{type_as}
use Rattle.array_data.specs.NodeKinds.{list_view_node, list_node, kind_at}
use Rattle.array_data.specs.Typed.{Tree, field_of, node_of, Is, Means, tables_from, body_of, column_of, source_rule}
use Rattle.array_data.specs.lent_tables.Lent.{tables}
use Rattle.array_data.specs.type_tree.Lent.{tree_of, ty_of, type_of}
use Rattle.array_data.proofs.Typed.{column_source}
use Rattle.array_data.proofs.type_tree.Ids.{both}
use Rattle.array_data.proofs.type_tree.Shaped.{shaped, at_list, at_lists}
use Rattle.array_data.proofs.type_tree.Lent.{means, formed, first_child}
use Rattle.walk.specs.State.{far, word, code_of}
use Rattle.refinement.specs.walk_is_model.Holds.{child_of, flag}
use Rattle.refinement.proofs.log_in_room.Found.{between_both}
use Rattle.columns.specs.Grounds.{column_ground, sources_ground}
use Rattle.refinement.proofs.plan_is_type.Planted.{child_node_lem}
use Rattle.refinement.proofs.opening.Taken.{few_there, within_ceilings_lem, taken}
use Rattle.columns.proofs.Itself.{one_source}
use Rattle.anew.specs.ResultPlan.{keeps_from, plan_anew}
use Rattle.anew.proofs.PlanWords.{keeps_is}
use Rattle.anew.proofs.Planted.{few, planted}
use Rattle.anew.proofs.Bits.{keeps_typed}
use Rattle.convert.specs.convert_lists.Turned.{all_nodes, same_below}
use Rattle.convert.specs.convert_lists.ToView.{view_plan}
use Rattle.convert.proofs.convert_lists.Subtree.{Alike, kid_same, means_same}
use Rattle.convert.proofs.convert_lists.Alike.{list_no_union, view_below, alike}
use Rattle.convert.proofs.convert_lists.Column.{from_same, lent_there}
use Rattle.convert.proofs.convert_lists.ListLent.{Below, below_is}
use lib.ListN.{replicate}
use Rattle.columnar.specs.Formed.{OffsetWidth}
use Rattle.columnar.specs.Array.{null_count_of}
use Rattle.columnar.specs.Reading.{Body}
use Rattle.array_data.proofs.node_words.Laws.{zeroth}
use Rattle.walk.specs.State.{keeps_of, bytes_of}
use Rattle.refinement.specs.walk_is_model.Lent as lent_tables
use Rattle.refinement.specs.plan_is_type.Planted.{join_of}
use Rattle.refinement.proofs.walk_is_model.Goes.{Quiet}
use Rattle.refinement.proofs.opening.Zeros.{empty}
use Rattle.anew.proofs.PlanWords.{anew_planted}
use Rattle.convert.specs.convert_lists.Turned.{view_of, to_view}
use Rattle.convert.specs.convert_lists.Viewing.{view_walk}
use Rattle.convert.proofs.convert_lists.Viewing.{Viewed, view_goes}
use Rattle.array_data.proofs.Names.{union_kind}

-- ---- the target's test

pub record ViewDue (formats schema : List ℕ) (first n target tn : ℕ) : Type 0 where
  pub of_list : is_list (trees.code_of formats schema first 0) ≡ true
  pub turned : trees.code_of formats schema target 0 + 2 ≡ trees.code_of formats schema first 0
  pub below : Below formats schema first n target tn

pub view_due : (formats schema : List ℕ) (first n target tn : ℕ) → to_view formats schema first n target tn ≡ true → ViewDue formats schema first n target tn
unfolding to_view view_of
view_due formats schema first n target tn h =
    let a = is_list (trees.code_of formats schema first 0) in
    let b = eqb (trees.code_of formats schema target 0 + 2) (trees.code_of formats schema first 0) in
    let p = both (a && b) (same_below formats schema first n target tn) h in
    let q = both a b p.0 in
    record { of_list = q.0; turned = eqb-true _ _ q.1; below = below_is formats schema first n target tn p.1 }

pub width_back : (z : ℕ) → is_list (z + 2) ≡ true → (is_list_view z ≡ true) × (width_of (z + 2) ≡ width_of z)
width_back z h = go (dec_lt 17 z)
  where
    Same : ℕ → Type 0
    Same y = (is_list_view y ≡ true) × (width_of (y + 2) ≡ width_of y)

    go : Dec (17 < z) → Same z
    go (yes l) = let b = between_both 19 20 (z + 2) h in let e : 18 ≡ z = omega (arith, b.1) in subst Same e (refl, refl)
    go (no l) = let b = between_both 19 20 (z + 2) h in let e : 17 ≡ z = omega (arith, b.0) in subst Same e (refl, refl)

module _ (formats schema : List ℕ) (x : Tables) (first m target : ℕ) (ok : column_ground formats schema x first (suc m) ≡ 0) (due : ViewDue formats schema first (suc m) target (suc m)) where
  abbrev n : ℕ
  n = suc m

  abbrev sources : List ℕ
  sources = first ∷ n ∷ []

  pub accepted : sources_ground formats schema x sources ≡ 0
  accepted = one_source formats schema x sources refl ∙ ok

  pub is_typed : typed formats schema target n ≡ true
  is_typed = due.below.is_typed

  pub low : ceilings formats schema target n ≡ true
  low = due.below.low

  -- the column's tree and the target's
  abbrev pub here : Tree
  here = tree_of formats schema first n

  abbrev pub there : Tree
  there = tree_of formats schema target n

  abbrev pub own : Tables
  own = tables_from x first

  pub rules : T (source_rule here own)
  rules = (taken formats schema sources x false false accepted).rules 0 (omega arith)

  -- ---- the types

  abbrev pub wide : ℕ
  wide = width_of (trees.code_of formats schema target 0)

  abbrev pub item : Ty
  item = ty_of there 7 1

  pub codes : (is_list_view (trees.code_of formats schema target 0) ≡ true) × (width_of (trees.code_of formats schema target 0 + 2) ≡ wide)
  codes = width_back (trees.code_of formats schema target 0) (ap is_list due.turned ∙ due.of_list)

  pub view_kind_lem : kind_at formats schema target 0 ≡ list_view_node wide
  view_kind_lem = at_list formats schema target 0 codes.0

  list_kind_lem : kind_at formats schema first 0 ≡ list_node wide
  list_kind_lem = at_lists formats schema first 0 due.of_list ∙ ap list_node (ap width_of (sym due.turned) ∙ codes.1)

  -- THE RESULT'S TYPE
  pub type_is_lem : type_of formats schema target n ≡ t_list_view wide item
  type_is_lem = type_as there 7 0 view_kind_lem

  one_child : below schema target 0 ≡ 1
  one_child = view_below formats schema target 0 wide view_kind_lem (shaped formats schema target 0 (typed_shape formats schema target n is_typed 0 (omega arith)))

  pub some_child : 1 ≤ m
  some_child =
      let c = child_inside schema target n (typed_whole formats schema target n is_typed) 0 0 (omega arith) (omega (arith, one_child)) in
      omega (arith, c, first_child formats schema target n 0)

  pub both_alike : Alike there here
  both_alike =
      let e : n - 1 ≡ m = omega arith in
      alike formats schema target first m is_typed some_child one_child (subst (λ k. same_type formats schema (suc target) k (suc first) k ≡ true) e due.below.same)

  pub meant : Means there (t_list_view wide item) 0
  meant = subst (λ u. Means there u 0) type_is_lem (means formats schema target n is_typed low)

  pub wide_formed : OffsetWidth wide
  wide_formed = (subst Formed type_is_lem (formed formats schema target n is_typed low)).0

  pub item_means : Means here item 1
  item_means = means_same there here both_alike item 1 (omega arith) meant.1

  list_means : Means here (t_list wide item) 0
  list_means = ((omega arith, list_kind_lem), item_means)

  -- THE COLUMN
  abbrev pub column : Column (t_list wide item)
  column = column_of here own (t_list wide item) 0

  pub column_good : Source (t_list wide item) column
  column_good = column_source here own rules (t_list wide item) 0 list_means

  -- ---- what the tables hold, by a plan of all nodes

  abbrev keep : ℕ → Bool
  keep = keeps_from (tables x.lengths x.places x.body) first all_nodes

  abbrev whole : List ℕ
  whole = plan_anew formats schema target n keep false 0

  small : n ≤ 32
  small = few formats schema target n keep false 0 is_typed low

  kids : (i : ℕ) (b : Bool) (ids : List ℕ) → Is here i (union_kind b ids) → (e : ℕ) → Memᴰ e ids → child_of whole i e ≡ node_of here i ids e
  kids zero b ids h e q = absurd (list_no_union wide b ids (sym list_kind_lem ∙ h.1))
  kids (suc i) b ids h e q =
      let k = both_alike.kinds (suc i) (omega arith) h.0 ∙ h.1 in
      child_node_lem formats schema target n whole is_typed low (planted formats schema target n keep false 0 is_typed low) (suc i) h.0 b ids k e q
      ∙ kid_same there here both_alike (suc i) (field_of ids e) (omega arith)

  pub all_lent : (parts : List ℕ) → lent_tables.Lent (join_of x whole parts first 0) (t_list wide item) 0 column
  all_lent parts =
      lent_there formats schema x first n small (within_ceilings_lem formats schema sources x false false accepted 0 (omega arith)) whole parts kids rules
      ((taken formats schema sources x false false accepted).sums 0 (omega arith)) (t_list wide item) 0 list_means

  -- ---- ground 9 of the nodes

  pub sums : (i : ℕ) → i < n → offset_of own i + length_of own i < far
  sums = (taken formats schema sources x false false accepted).sums 0 (omega arith)

  pub few_buffers_lem : (i : ℕ) → i < n → is_view (trees.code_of formats schema first i) ≡ true → place own i 8 ≤ 32
  few_buffers_lem = few_there formats schema x first n (within_ceilings_lem formats schema sources x false false accepted 0 (omega arith))

  -- ---- the plan of the root

  abbrev pub made : List ℕ
  made = view_plan formats schema x first n target n

  code_made : code_of made 0 ≡ trees.code_of formats schema target 0
  code_made =
      let e : word made 0 0 ≡ trees.code_of formats schema target 0 = anew_planted formats schema target 1 keep false 0 (omega arith) 0 0 (omega arith) (omega arith) ∙ zeroth formats schema target 1 0 0 (omega arith) refl in
      let b = between_both 17 18 (trees.code_of formats schema target 0) codes.0 in
      omega (arith, e, b.1)

  pub made_bytes : bytes_of made 0 ≡ wide
  made_bytes = ap width_of code_made

  pub made_view : is_list_view (code_of made 0) ≡ true
  made_view = ap is_list_view code_made ∙ codes.0

  pub made_keeps : keeps_of made 0 ≡ flag (ltb 0 (null_count_of column))
  made_keeps = keeps_is formats schema target 1 keep false 0 (omega arith) 0 (omega arith) ∙ ap flag (keeps_typed x first all_nodes 0 0 (from_same 0 (omega arith)) (body_of here own (t_list wide item) 0))

  -- THE ROOT'S TABLES
  pub root_lent : (parts : List ℕ) → lent_tables.LentNode (join_of x made parts first 0) 0 (λ (b : Body (t_list wide item)). lent_tables.First (join_of x made parts first 0) 0 b.offsets) column
  root_lent parts =
      let h = all_lent parts in
      record { len_is = h.len_is; off_is = h.off_is; sum = h.sum; valid_is = valid_as column.valid h.valid_is; body_is = record { bytes_are = h.body_is.0.bytes_are; inside = h.body_is.0.inside } }
    where
      valid_as : (o : Option (List ℕ)) → lent_tables.LentValid (join_of x whole parts first 0) 0 o → lent_tables.LentValid (join_of x made parts first 0) 0 o
      valid_as none h = h
      valid_as (some s) h = (h.0, record { bytes_are = h.1.bytes_are; inside = h.1.inside })

  -- THE WALK LEAVES THE ROOT OF THE LIST-VIEW
  pub view_done : (parts : List ℕ) → Quiet empty (Viewed (join_of x made parts first 0) wide item column (root_lent parts) column_good (ltb 0 (null_count_of column)) made_keeps) (view_walk (join_of x made parts first 0) wide (replicate 96 0))
  view_done parts = view_goes (join_of x made parts first 0) wide item column (root_lent parts) column_good (ltb 0 (null_count_of column)) made_keeps
