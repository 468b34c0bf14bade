-- A list-view column that meets none of the grounds 9, 10 and 12, and a target that is its list: all that the walk asks. Assumes nothing.
use mathlib.Core.Path.{◌≡◌, refl, sym, ap, subst, ◌∙◌}
use mathlib.Core.Bool.{Bool, true, false, cond, ◌&&◌}
use mathlib.Core.List.{List, [], ◌∷◌, Memᴰ}
use Prim.Native.Nat.{ℕ, zero, suc, ◌+◌, ◌-◌, ◌≤◌, ◌<◌}
use native.Mathlib.Decide.{dec_lt}
use native.Mathlib.Omega.{arith}
use lib.Dec.{T, ltb, eqb}
use borrow.Author.Tests.{eqb-true}
use Rattle.columnar.specs.Types.{Ty, t_list_view, t_list}
use Rattle.columnar.specs.Formed.{Formed}
use Rattle.columnar.specs.Reading.{Column, Source}
use Rattle.schema.specs.formats.Code.{is_list_view, is_list, is_run_end, width_of}
use Rattle.schema.specs.Tree.{below, ceilings, typed, same_type}
use Rattle.schema.specs.Tree as trees
use Rattle.schema.proofs.Trees.{child_inside}
use Rattle.schema.proofs.Known.{typed_whole, typed_shape}
use Rattle.array_data.specs.Tables.{Tables, first_buffer}
use Rattle.array_data.proofs.type_tree.ByKind.{type_as}
use Rattle.array_data.specs.NodeKinds.{list_view_node, list_node, kind_at}
use Rattle.array_data.specs.Typed.{Tree, field_of, node_of, Is, Means, tables_from, body_of, column_of, source_rule}
use Rattle.array_data.specs.lent_tables.Lent.{tables}
use Rattle.array_data.specs.type_tree.Lent.{tree_of, ty_of, type_of}
use Rattle.array_data.proofs.Typed.{column_source}
use Rattle.array_data.proofs.type_tree.Ids.{both}
use Rattle.array_data.proofs.type_tree.Shaped.{shaped, at_list, at_lists, at_run}
use Rattle.array_data.proofs.type_tree.Lent.{means, formed, first_child}
use Rattle.walk.specs.State.{word, code_of, dictionary_of}
use Rattle.refinement.specs.walk_is_model.Memory.{Memory}
use Rattle.refinement.specs.walk_is_model.Holds.{child_of, flag, Worded}
use Rattle.refinement.proofs.log_in_room.Found.{between_both}
use Rattle.columns.specs.Grounds.{column_ground, sources_ground}
use Rattle.refinement.specs.orders.Sound.{plan_sound}
use Rattle.refinement.proofs.plan_is_type.Planted.{code_is, child_node_lem}
use Rattle.refinement.proofs.opening.Taken.{few_at, within_ceilings_lem, taken}
use Rattle.columns.proofs.Itself.{one_source}
use Rattle.anew.specs.lists.Listed.{kid}
use Rattle.anew.specs.ResultPlan.{keeps_from, plan_anew}
use Rattle.anew.proofs.PlanWords.{keeps_is, joined_is, base_none, no_choice}
use Rattle.anew.proofs.Planted.{few, planted, worded, stands}
use Rattle.anew.proofs.Bits.{keeps_typed}
use Rattle.anew.proofs.Held.{NamedBelow}
use Rattle.convert.specs.convert_lists.Turned.{all_nodes, list_of, same_child, child_named, same_below, to_list}
use Rattle.convert.specs.convert_lists.ToList.{lent_with}
use Rattle.convert.proofs.convert_lists.Subtree.{Alike, kid_same, means_same}
use Rattle.convert.proofs.convert_lists.Alike.{view_no_union, list_below, alike}
use Rattle.convert.proofs.convert_lists.Column.{from_same, exact_at, lent_there, named_there, ends_valid}
use Rattle.convert.proofs.convert_lists.Listing.{ListView}
use Rattle.array_data.proofs.Names.{union_kind}

-- ---- the target's test

pub record Due (formats schema : List ℕ) (first n target tn : ℕ) : Type 0 where
  pub of_view : is_list_view (trees.code_of formats schema first 0) ≡ true
  pub turned : trees.code_of formats schema target 0 ≡ trees.code_of formats schema first 0 + 2
  pub low : ceilings formats schema target tn ≡ true
  pub is_typed : typed formats schema target tn ≡ true
  pub same : same_type formats schema (suc target) (tn - 1) (suc first) (n - 1) ≡ true
  pub sizes : n ≡ tn

-- what the trees are below their roots
pub record Below (formats schema : List ℕ) (first n target tn : ℕ) : Type 0 where
  pub low : ceilings formats schema target tn ≡ true
  pub is_typed : typed formats schema target tn ≡ true
  pub same : same_type formats schema (suc target) (tn - 1) (suc first) (n - 1) ≡ true
  pub sizes : n ≡ tn

pub below_is : (formats schema : List ℕ) (first n target tn : ℕ) → same_below formats schema first n target tn ≡ true → Below formats schema first n target tn
unfolding same_below same_child
below_is formats schema first n target tn h =
    let c = ceilings formats schema target tn in
    let d = typed formats schema target tn in
    let e = same_type formats schema (suc target) (tn - 1) (suc first) (n - 1) in
    let p = both (child_named first && child_named target) (c && d && e && eqb n tn) h in
    let r = both (c && d && e) (eqb n tn) p.1 in
    let s = both (c && d) e r.0 in
    let u = both c d s.0 in
    record { low = u.0; is_typed = u.1; same = s.1; sizes = eqb-true n tn r.1 }

pub due_is : (formats schema : List ℕ) (first n target tn : ℕ) → to_list formats schema first n target tn ≡ true → Due formats schema first n target tn
unfolding to_list list_of
due_is formats schema first n target tn h =
    let a = is_list_view (trees.code_of formats schema first 0) in
    let b = eqb (trees.code_of formats schema target 0) (trees.code_of formats schema first 0 + 2) in
    let p = both (a && b) (same_below formats schema first n target tn) h in
    let q = both a b p.0 in
    let u = below_is formats schema first n target tn p.1 in
    record { of_view = q.0; turned = eqb-true _ _ q.1; low = u.low; is_typed = u.is_typed; same = u.same; sizes = u.sizes }

-- ---- codes

pub width_same : (z : ℕ) → is_list_view z ≡ true → (is_list (z + 2) ≡ true) × (width_of (z + 2) ≡ width_of z)
width_same z h = go (dec_lt 17 z)
  where
    Same : ℕ → Type 0
    Same y = (is_list (y + 2) ≡ true) × (width_of (y + 2) ≡ width_of y)

    go : Dec (17 < z) → Same z
    go (yes l) = let b = between_both 17 18 z h in let e : 18 ≡ z = omega (arith, b.1) in subst Same e (refl, refl)
    go (no l) = let b = between_both 17 18 z h in let e : 17 ≡ z = omega (arith, b.0) in subst Same e (refl, refl)

module _ (formats schema : List ℕ) (x : Tables) (first m target : ℕ) (ok : column_ground formats schema x first (suc m) ≡ 0) (due : Due formats schema first (suc m) target (suc m)) where
  abbrev n : ℕ
  n = suc m

  abbrev sources : List ℕ
  sources = first ∷ n ∷ []

  accepted : sources_ground formats schema x sources ≡ 0
  accepted = one_source formats schema x sources refl ∙ ok

  -- the column's tree and the target's
  abbrev pub here : Tree
  here = tree_of formats schema first n

  abbrev pub there : Tree
  there = tree_of formats schema target n

  abbrev own : Tables
  own = tables_from x first

  rules : T (source_rule here own)
  rules = (taken formats schema sources x false false accepted).rules 0 (omega arith)

  -- ---- the types

  abbrev pub wide : ℕ
  wide = width_of (trees.code_of formats schema target 0)

  abbrev pub item : Ty
  item = ty_of there 7 1

  list_code : is_list (trees.code_of formats schema target 0) ≡ true
  list_code = ap is_list due.turned ∙ (width_same (trees.code_of formats schema first 0) due.of_view).0

  list_kind_lem : kind_at formats schema target 0 ≡ list_node wide
  list_kind_lem = at_lists formats schema target 0 list_code

  view_kind_lem : kind_at formats schema first 0 ≡ list_view_node wide
  view_kind_lem =
      at_list formats schema first 0 due.of_view ∙ ap list_view_node (sym (width_same (trees.code_of formats schema first 0) due.of_view).1 ∙ ap width_of (sym due.turned))

  -- THE RESULT'S TYPE
  pub type_is_lem : type_of formats schema target n ≡ t_list wide item
  type_is_lem = type_as there 7 0 list_kind_lem

  one_child : below schema target 0 ≡ 1
  one_child = list_below formats schema target 0 wide list_kind_lem (shaped formats schema target 0 (typed_shape formats schema target n due.is_typed 0 (omega arith)))

  some_child : 1 ≤ m
  some_child =
      let c = child_inside schema target n (typed_whole formats schema target n due.is_typed) 0 0 (omega arith) (omega (arith, one_child)) in
      omega (arith, c, first_child formats schema target n 0)

  pub both_alike : Alike there here
  both_alike =
      let e : n - 1 ≡ m = omega arith in
      alike formats schema target first m due.is_typed some_child one_child (subst (λ k. same_type formats schema (suc target) k (suc first) k ≡ true) e due.same)

  pub meant : Means there (t_list wide item) 0
  meant = subst (λ u. Means there u 0) type_is_lem (means formats schema target n due.is_typed due.low)

  item_means : Means here item 1
  item_means = means_same there here both_alike item 1 (omega arith) meant.1

  view_means : Means here (t_list_view wide item) 0
  view_means = ((omega arith, view_kind_lem), item_means)

  -- THE COLUMN
  abbrev pub column : Column (t_list_view wide item)
  column = column_of here own (t_list_view wide item) 0

  pub column_good : Source (t_list_view wide item) column
  column_good = column_source here own rules (t_list_view wide item) 0 view_means

  -- ---- the plan

  abbrev keep : ℕ → Bool
  keep = keeps_from (tables x.lengths x.places x.body) first all_nodes

  abbrev pub made : List ℕ
  made = plan_anew formats schema target n keep false 0

  small : n ≤ 32
  small = few formats schema target n keep false 0 due.is_typed due.low

  kids : (i : ℕ) (b : Bool) (ids : List ℕ) → Is here i (union_kind b ids) → (e : ℕ) → Memᴰ e ids → child_of made i e ≡ node_of here i ids e
  kids zero b ids h e q = absurd (view_no_union wide b ids (sym view_kind_lem ∙ h.1))
  kids (suc i) b ids h e q =
      let k = both_alike.kinds (suc i) (omega arith) h.0 ∙ h.1 in
      child_node_lem formats schema target n made due.is_typed due.low (planted formats schema target n keep false 0 due.is_typed due.low) (suc i) h.0 b ids k e q
      ∙ kid_same there here both_alike (suc i) (field_of ids e) (omega arith)

  -- run ends keep no nulls
  pub no_ends_lem : (i : ℕ) → suc i < n → code_of made i ≡ 23 → keep (suc i) ≡ false
  no_ends_lem zero l e =
      let c = code_is formats schema target n made due.is_typed due.low (planted formats schema target n keep false 0 due.is_typed due.low) 0 (omega arith) in
      let b = between_both 19 20 (trees.code_of formats schema target 0) list_code in
      absurd (omega (arith, b.1, c, e))
  no_ends_lem (suc i) l e =
      let c = code_is formats schema target n made due.is_typed due.low (planted formats schema target n keep false 0 due.is_typed due.low) (suc i) (omega arith) in
      let k = at_run formats schema target (suc i) (ap is_run_end (sym c ∙ e)) in
      keeps_typed x first all_nodes (suc (suc i)) (suc (suc i)) (from_same (suc (suc i)) (omega (arith, small))) (first_buffer own (suc (suc i)))
      ∙ ap (ltb 0) (ends_valid here own rules (suc i) _ (omega arith, sym (both_alike.kinds (suc i) (omega arith) (omega arith)) ∙ k))

  keeps_at : (i : ℕ) → i < n → Rattle.walk.specs.State.keeps_of made i ≡ flag (keep i)
  keeps_at i l = keeps_is formats schema target n keep false 0 small i l

  kept_at : (i : ℕ) → i < n → word made i 7 ≡ 0
  kept_at i l = joined_is formats schema target n keep false 0 small i l ∙ go (eqb (dictionary_of made i) 0)
    where
      go : (b : Bool) → ◌≡◌ {A = ℕ} (cond b 0 0) 0
      go true = refl
      go false = refl

  -- ALL THAT THE WALK ASKS
  pub list_view : (parts : List ℕ) → ListView (lent_with x made parts first n) wide item column
  list_view parts =
      let s = stands formats schema target n keep false 0 due.is_typed due.low no_ends_lem in
      let t = taken formats schema sources x false false accepted in
      let w = within_ceilings_lem formats schema sources x false false accepted 0 (omega arith) in
      record {
        worded = subst (λ u. Worded made 8 u 0) type_is_lem (worded formats schema target n keep false 0 due.is_typed due.low);
        formed = subst Formed type_is_lem (formed formats schema target n due.is_typed due.low);
        laid = s.laid;
        all_nodes_lem = s.all_nodes_lem;
        no_gaps = no_choice formats schema target n keep false 0 small;
        based = base_none formats schema target n keep false 0 small;
        lent = lent_there formats schema x first n small w made parts kids rules (t.sums 0 (omega arith)) (t_list_view wide item) 0 view_means;
        obey = column_good;
        few = few_at formats schema x first n w (t_list_view wide item) 0 view_means;
        keeps_are = keeps_at 0 (omega arith) ∙ ap flag (keeps_typed x first all_nodes 0 0 (from_same 0 (omega arith)) (body_of here own (t_list_view wide item) 0));
        exact = exact_at formats schema x first n small w made parts kids keeps_at (t_list_view wide item) 0 view_means;
      }

  pub list_named : (parts counters : List ℕ) (μ : Memory) → NamedBelow (lent_with x made parts first n) x.buffers counters μ item 1 (kid wide item column).body
  list_named parts counters μ =
      let t = taken formats schema sources x false false accepted in
      let w = within_ceilings_lem formats schema sources x false false accepted 0 (omega arith) in
      named_there formats schema x first n small w made parts kids rules (t.sums 0 (omega arith)) kept_at counters μ item 1 item_means

  pub list_sound : plan_sound made ≡ true
  list_sound = (stands formats schema target n keep false 0 due.is_typed due.low no_ends_lem).sound
