-- How a plan of a type tree that passes stands: its nodes as a walk wants them, and its parts numbered and placed. Assumes nothing.
use mathlib.Core.Path.{◌≡◌, refl, ap, sym, subst, ◌∙◌}
use mathlib.Core.Bool.{Bool, true, false, cond, ◌&&◌}
use mathlib.Core.List.{List}
use Prim.Native.Nat.{ℕ, zero, suc, ◌+◌, ◌-◌, ◌/◌, ◌≤◌, ◌<◌}
use native.Mathlib.Decide.{dec_lt}
use native.Mathlib.Omega.{arith}
use lib.ListN.{length, get_or}
use lib.Dec.{leb, ltb, eqb}
use borrow.Author.Tests.{eqb-true, eqb-false, leb-true, leb-false, le-leb, lt-ltb, ne_eqb, eq-eqb}
use Rattle.schema.specs.formats.Code.{is_fixed, is_view, is_list_view, is_list, is_run_end, width_of}
use Rattle.schema.specs.Tree.{dictionary, below, child_at, whole, ids_of, shape, ceilings, typed}
use Rattle.schema.specs.Tree as schemaTree
use Rattle.schema.proofs.Trees.{end_inside, end_after, child_inside, children_end}
use Rattle.schema.proofs.Depth as depths
use Rattle.schema.proofs.Known.{typed_whole, typed_shape, within_nodes}
use Rattle.array_data.specs.Tables.{Tables}
use Rattle.array_data.specs.NodeKinds.{NodeKind, fixed_node, string_node, view_node, list_view_node, list_node, run_end_node, dictionary_node, kind_at}
use Rattle.array_data.proofs.type_tree.Ids.{both}
use Rattle.array_data.proofs.type_tree.Shaped.{shaped, at_fixed, at_keys, at_string, at_view, at_list, at_lists, at_run}
use Rattle.array_data.proofs.type_tree.Lent.{first_child, second_child, some_node}
use Rattle.refinement.specs.plan_is_type.Planted.{Planted}
use Rattle.refinement.proofs.plan_is_type.Codes.{Coded, low_code, shape_admitted, no_dictionary}
use Rattle.refinement.proofs.plan_is_type.Planted.{code_is, dictionary_is, end_is, coded_is}
use Rattle.walk.specs.State.{code_of, dictionary_of, end_of, keeps_of}
use Rattle.refinement.specs.log_in_room.Reach.{has_item}
use Rattle.refinement.specs.log_in_room.Room.{Placed}
use Rattle.refinement.proofs.log_in_room.Found.{between_both}
use Rattle.columnar.specs.Test.{only_if}
use Rattle.plan.specs.parts.Parts.{nodes_of, copied, part_total, parts_placed, parts_within, Used, Numbered}
use Rattle.plan.proofs.parts.Placed.{placed_within}
use Rattle.refinement.proofs.orders.Sound.{every_all}
use Rattle.columns.specs.Grounds.{ceiling, small_body, few_sources, all_within, all_typed, sources_ground}
use Rattle.columns.proofs.Grounds.{within_low, within_at_lem, typed_at}
use Rattle.plan.specs.Plan.{keep_word, is_ends, planned}
use Rattle.plan.proofs.Codes as kinds
use Rattle.plan.proofs.Words.{plan_length, word_is, keep_is, parts_are, sources_are, nodes_are, numbered_is}
use Rattle.refinement.specs.orders.Sound.{nested_in, ends_sound, kind_sound, node_sound, plan_sound}
use Rattle.refinement.proofs.orders.Cover.{Laid}
use Rattle.refinement.proofs.orders.Placed.{placed_by}
use Rattle.refinement.proofs.opening.Below.{Ends, Next, next_of, whole_end}

-- ---- A plan that has the words of a type tree

module _ (formats schema : List ℕ) (first n : ℕ) (plan : List ℕ)
    (t : typed formats schema first n ≡ true) (c : ceilings formats schema first n ≡ true) (p : Planted plan formats schema first n) where
  abbrev code : ℕ → ℕ
  code i = schemaTree.code_of formats schema first i

  tree : whole schema first n ≡ true
  tree = typed_whole formats schema first n t

  pub root_end : end_of plan 0 ≡ n
  root_end = end_is formats schema first n plan t c p 0 (some_node formats schema first n tree) ∙ whole_end schema first n tree

  module _ (i : ℕ) (l : i < n) where
    is_shape : shape formats schema first i ≡ true
    is_shape = typed_shape formats schema first n t i l

    same_code : code_of plan i ≡ code i
    same_code = code_is formats schema first n plan t c p i l

    same_dictionary : dictionary_of plan i ≡ dictionary schema first i
    same_dictionary = dictionary_is formats schema first n plan t c p i l

    same_end : end_of plan i ≡ schemaTree.end_of schema first n i
    same_end = end_is formats schema first n plan t c p i l

    next_at_lem : (k : NodeKind) → kind_at formats schema first i ≡ k → Next formats schema first i k
    next_at_lem k e = subst (Next formats schema first i) e (next_of formats schema first i (shaped formats schema first i is_shape))

    next_in : 0 < below schema first i → suc i < n
    next_in h = subst (λ k. k < n) (first_child formats schema first n i) (child_inside schema first n tree i 0 l h)

    -- a node with b subtrees below it ends where the next would begin
    end_by : (b : ℕ) → below schema first i ≡ b → end_of plan i ≡ child_at schema first n i b
    end_by b e = same_end ∙ sym (children_end schema first n i l) ∙ ap (child_at schema first n i) e

    leaf_end : below schema first i ≡ 0 → end_of plan i ≡ suc i
    leaf_end z = end_by 0 z ∙ first_child formats schema first n i

    -- keys
    module _ (d : dictionary_of plan i ≡ 0 → ⊥) where
      fixed_keys : is_fixed (code i) ≡ true
      fixed_keys = go (is_fixed (code i)) refl
        where
          go : (b : Bool) → is_fixed (code i) ≡ b → b ≡ true
          go true e = refl
          go false e = absurd (d (same_dictionary ∙ kinds.no_dictionary formats schema first i is_shape e))

      below_keys : (below schema first i ≡ 1) × (below schema first (suc i) ≡ 0)
      below_keys = next_at_lem (dictionary_node _) (at_keys formats schema first i fixed_keys (ne_eqb (dictionary schema first i) 0 (λ e. d (same_dictionary ∙ e))))

      keys_end : end_of plan i ≡ suc (suc i)
      keys_end =
          end_by 1 below_keys.0 ∙ second_child formats schema first n i (next_in (omega (arith, below_keys.0))) below_keys.1

    -- a run-end node
    module _ (e : code_of plan i ≡ 23) where
      below_run : Ends formats schema first i
      below_run = next_at_lem (run_end_node _) (at_run formats schema first i (ap is_run_end (sym same_code ∙ e)))

      ends_in_lem : suc i < n
      ends_in_lem = next_in (omega (arith, below_run.two))

    -- numbers and byte strings
    plain_below : code_of plan i < 15 → dictionary_of plan i ≡ 0 → below schema first i ≡ 0
    plain_below h d = go (dec_lt (code i) 11)
      where
        low : 1 ≤ code i
        low = low_code (code i) (shape_admitted formats schema first i is_shape)

        go : Dec (code i < 11) → below schema first i ≡ 0
        go (yes y) =
            next_at_lem (fixed_node _)
            (at_fixed formats schema first i (rw (le-leb 1 (code i) (omega (arith, low)), le-leb (code i) 10 (omega arith))) (eq-eqb (dictionary schema first i) 0 (sym same_dictionary ∙ d)))
        go (no y) =
            next_at_lem (string_node _) (at_string formats schema first i (rw (le-leb 11 (code i) (omega arith), le-leb (code i) 14 (omega (arith, same_code)))))

    view_below : is_view (code_of plan i) ≡ true → below schema first i ≡ 0
    view_below v = next_at_lem view_node (at_view formats schema first i (sym (ap is_view same_code) ∙ v))

  run_fixed : (i : ℕ) → i < n → code_of plan i ≡ 23 → is_fixed (code_of plan (suc i)) ≡ true
  run_fixed i l e =
      let r = below_run i l e in
      let h = ends_in_lem i l e in
      ap is_fixed (same_code (suc i) h)
      ∙ (subst (Coded (code (suc i)) (eqb (dictionary schema first (suc i)) 0) (ids_of formats schema first (suc i)) (code (suc (suc i)))) r.kind
      (coded_is formats schema first n plan t c p (suc i) h)).0

  run_single : (i : ℕ) → i < n → code_of plan i ≡ 23 → dictionary_of plan (suc i) ≡ 0
  run_single i l e = same_dictionary (suc i) (ends_in_lem i l e) ∙ no_dictionary formats schema first (suc i) (below_run i l e).none_below

  nested : (i j : ℕ) → i < j → j < end_of plan i → end_of plan i ≤ n → end_of plan j ≤ end_of plan i
  nested i j a b h =
      let k : j < n = omega arith in
      let l : i < n = omega arith in
      let e = same_end i l in
      omega (arith, same_end j k, depths.nested schema first n j i (omega arith) (omega arith))

  -- THE NODES STAND WELL, where run ends keep no nulls
  pub laid_by : ((i : ℕ) → suc i < n → code_of plan i ≡ 23 → keeps_of plan (suc i) ≡ 0) → Laid plan
  laid_by keeps =
      let r = root_end in
      record {
        tabled = record {
          keys_fixed = λ i l d. ap is_fixed (same_code i (omega arith)) ∙ fixed_keys i (omega arith) d;
          keys_end = λ i l d. keys_end i (omega arith) d;
          nested = λ i j a b h. nested i j a b (omega arith);
          ends_plain = λ i l e. run_single i (omega arith) e;
        };
        plain_ends = λ i l h d. leaf_end i (omega arith) (plain_below i (omega arith) h d);
        view_ends = λ i l v. leaf_end i (omega arith) (view_below i (omega arith) v);
        run_ends_lem = λ i l e. (run_fixed i (omega arith) e, keeps i (ends_in_lem i (omega arith) e) e);
      }

  -- ---- a walk stays in it

  only_if_lem : (a b : Bool) → (a ≡ true → b ≡ true) → only_if a b ≡ true
  only_if_lem true b h = h refl
  only_if_lem false b h = refl

  module _ (i : ℕ) (l : i < n) where
    rises : i < end_of plan i
    rises = let e = same_end i l in omega (arith, end_after schema first n i l)

    inside : end_of plan i ≤ n
    inside = let e = same_end i l in omega (arith, end_inside schema first n i (omega arith))

    child_in : (k : ℕ) → k < below schema first i → child_at schema first n i k < end_of plan i
    child_in k h = let e = same_end i l in omega (arith, depths.child_before schema first n tree i k l h)

    -- a list-view or a list has one child
    one_below : has_item (code_of plan i) ≡ true → below schema first i ≡ 1
    one_below h = go (leb (code_of plan i) 18) refl
      where
        b : (17 ≤ code_of plan i) × (code_of plan i ≤ 20)
        b = between_both 17 20 (code_of plan i) h

        go : (t : Bool) → leb (code_of plan i) 18 ≡ t → below schema first i ≡ 1
        go true e =
            let v : is_list_view (code_of plan i) ≡ true = rw (le-leb 17 (code_of plan i) b.0, e) refl in
            next_at_lem i l (list_view_node (width_of (code i))) (at_list formats schema first i (sym (ap is_list_view (same_code i l)) ∙ v))
        go false e =
            let v : is_list (code_of plan i) ≡ true = rw (le-leb 19 (code_of plan i) (omega (arith, leb-false (code_of plan i) 18 e)), le-leb (code_of plan i) 20 b.1) refl in
            next_at_lem i l (list_node (width_of (code i))) (at_lists formats schema first i (sym (ap is_list (same_code i l)) ∙ v))

    item_in : has_item (code_of plan i) ≡ true → suc i < end_of plan i
    item_in h = let e = one_below h in subst (λ k. k < end_of plan i) (first_child formats schema first n i) (child_in 0 (omega arith))

    -- the last node of a subtree has no dictionary
    last_single : (k : ℕ) → end_of plan i ≡ suc k → dictionary_of plan k ≡ 0
    last_single k e = go (eqb (dictionary_of plan k) 0) refl (dec_lt i k)
      where
        low : k < n
        low = omega (arith, inside)

        go : (b : Bool) → eqb (dictionary_of plan k) 0 ≡ b → Dec (i < k) → dictionary_of plan k ≡ 0
        go true f d = eqb-true _ _ f
        go false f (yes y) = absurd (omega (arith, inside, keys_end k low (eqb-false _ _ f), nested i k y (omega arith) inside))
        go false f (no y) = let g : k ≡ i = omega (arith, rises) in absurd (let h : end_of plan k ≡ suc k = rw g (rw g at e) in omega (arith, keys_end k low (eqb-false _ _ f)))

    next_copied : (e : ℕ) → end_of plan i ≡ e → copied plan e ≡ true
    unfolding copied
    next_copied zero e = refl
    next_copied (suc k) e = rw (last_single k e)

    no_keys : 10 < code_of plan i → dictionary_of plan i ≡ 0
    no_keys h = go (eqb (dictionary_of plan i) 0) refl
      where
        go : (b : Bool) → eqb (dictionary_of plan i) 0 ≡ b → dictionary_of plan i ≡ 0
        go true f = eqb-true _ _ f
        go false f = absurd (let z = between_both 1 10 (code i) (fixed_keys i l (eqb-false _ _ f)) in omega (arith, z.1, same_code i l))

    run_in_lem : code_of plan i ≡ 23 → suc (suc i) < end_of plan i
    run_in_lem e =
        let r = below_run i l e in
        let two = r.two in
        subst (λ k. k < end_of plan i) (second_child formats schema first n i (ends_in_lem i l e) r.none_below) (child_in 1 (omega arith))

    ends_sound_lem : code_of plan i ≡ 23 → ends_sound plan i ≡ true
    unfolding ends_sound
    ends_sound_lem e = rw (lt-ltb _ _ (run_in_lem e), run_single i l e, run_fixed i l e)

    kind_sound_lem : kind_sound plan i ≡ true
    unfolding kind_sound
    kind_sound_lem = go (leb (code_of plan i) 10) refl
      where
        shaped_by : (a b : Bool) → has_item (code_of plan i) ≡ a → is_run_end (code_of plan i) ≡ b → cond a (ltb (suc i) (end_of plan i)) (cond b (ends_sound plan i) true) ≡ true
        shaped_by true b f g = lt-ltb (suc i) (end_of plan i) (item_in f)
        shaped_by false true f g = ends_sound_lem (let z = between_both 23 23 (code_of plan i) g in omega (arith, z.0, z.1))
        shaped_by false false f g = refl

        go : (b : Bool) → leb (code_of plan i) 10 ≡ b
            → cond b true (eqb (dictionary_of plan i) 0 && cond (has_item (code_of plan i)) (ltb (suc i) (end_of plan i)) (cond (is_run_end (code_of plan i)) (ends_sound plan i) true)) ≡ true
        go true e = refl
        go false e = rw (no_keys (omega (arith, leb-false (code_of plan i) 10 e))) (shaped_by (has_item (code_of plan i)) (is_run_end (code_of plan i)) refl refl)

    nest_sound : nested_in plan i ≡ true
    unfolding nested_in
    nest_sound = every_all (λ k. leb (end_of plan (suc i + k)) (end_of plan i)) (end_of plan i - suc i) (λ k h. le-leb _ _ (nested i (suc i + k) (omega arith) (omega arith) inside))

    node_sound_lem : node_sound plan n i ≡ true
    unfolding node_sound
    node_sound_lem =
        rw (lt-ltb i (end_of plan i) rises, le-leb (end_of plan i) n inside, nest_sound, kind_sound_lem) (only_if_lem (ltb (end_of plan i) n) (copied plan (end_of plan i)) (λ h. next_copied (end_of plan i) refl))

  -- A WALK STAYS IN THE PLAN
  pub sound_by : nodes_of plan ≡ n → plan_sound plan ≡ true
  unfolding plan_sound
  sound_by e = rw (e, lt-ltb _ _ (some_node formats schema first n tree)) (every_all (node_sound plan n) n node_sound_lem)

-- ---- the plan

-- what is known of the plan of a join of m sources and n nodes
pub record Stood (plan : List ℕ) (m n : ℕ) : Type 0 where
  pub few : n ≤ 32
  pub long : length plan ≡ 872
  pub source_count_lem : get_or plan 864 0 ≡ m
  pub node_count : nodes_of plan ≡ n
  pub all_nodes_lem : nodes_of plan ≡ end_of plan 0
  pub part_count : get_or plan 866 0 ≡ part_total plan
  pub laid : Laid plan
  pub sound : plan_sound plan ≡ true
  pub numbered : Numbered plan
  pub placed : (parts : List ℕ) (r : ℕ) → parts_placed parts (part_total plan) r ≡ true → r ≤ ceiling → Placed plan parts (Used plan) r
  pub within : (parts : List ℕ) (r : ℕ) → parts_placed parts (part_total plan) r ≡ true → parts_within plan parts r ≡ true

module _ (formats schema : List ℕ) (x : Tables) (sources : List ℕ) (keep gaps : Bool) where
  abbrev first : ℕ
  first = get_or sources 0 0

  abbrev n : ℕ
  n = get_or sources 1 0

  abbrev m : ℕ
  m = length sources / 2

  abbrev plan : List ℕ
  plan = planned formats schema x sources keep gaps

  module _ (few : m ≤ 16) (t : typed formats schema first n ≡ true) (c : ceilings formats schema first n ≡ true) where
    pub small : n ≤ 32
    small = within_nodes formats schema first n c

    planted : Planted plan formats schema first n
    planted = word_is formats schema x sources keep gaps few small

    pub root_is : end_of plan 0 ≡ n
    root_is = root_end formats schema first n plan t c planted

    pub nodes_is : nodes_of plan ≡ n
    nodes_is = omega (arith, nodes_are formats schema x sources keep gaps few small, small)

    -- EVERY NODE STANDS BELOW THE ROOT
    pub all_nodes_lem : nodes_of plan ≡ end_of plan 0
    all_nodes_lem = nodes_is ∙ sym root_is

    ends_word : (i : ℕ) → code_of plan i ≡ 23 → keep_word x sources m keep plan (suc i) ≡ 0
    unfolding keep_word is_ends
    ends_word i e = rw e

    -- THE NODES STAND AS A WALK WANTS THEM
    pub laid : Laid plan
    laid =
        laid_by formats schema first n plan t c planted
        (λ i l e. keep_is formats schema x sources keep gaps few small (suc i) l ∙ ends_word i e)

    -- A WALK STAYS IN THEM
    pub sound : plan_sound plan ≡ true
    sound = sound_by formats schema first n plan t c planted nodes_is

    -- THE PARTS ARE NUMBERED in tree order
    pub numbered : Numbered plan
    numbered = numbered_is formats schema x sources keep gaps few small

    -- THE PARTS LIE WELL where ground 14 lets them through, and pass the test of every order
    module _ (parts : List ℕ) (r : ℕ) (h : parts_placed parts (part_total plan) r ≡ true) where
      pub placed : r ≤ ceiling → Placed plan parts (Used plan) r
      placed l = placed_by plan parts r numbered h (omega arith)

      pub within : parts_within plan parts r ≡ true
      within = placed_within plan parts r numbered h

    pub stands : Stood plan m n
    stands =
        record {
          few = small;
          long = plan_length formats schema x sources keep gaps few small;
          source_count_lem = sources_are formats schema x sources keep gaps few small;
          node_count = nodes_is;
          all_nodes_lem = all_nodes_lem;
          part_count = parts_are formats schema x sources keep gaps few small;
          laid = laid;
          sound = sound;
          numbered = numbered;
          placed = placed;
          within = within;
        }

-- ---- from the grounds

chosen : (b : Bool) (a g : ℕ) → 0 < g → cond b a g ≡ 0 → (b ≡ true) × (a ≡ 0)
chosen true a g l h = (refl, h)
chosen false a g l h = absurd (omega arith)

module _ (formats schema : List ℕ) (x : Tables) (sources : List ℕ) (h : sources_ground formats schema x sources ≡ 0) where
  -- "1 to 16 sources", each within the ceilings and of a type that 01 admits
  admitted : (few_sources sources ≡ true) × (all_within formats schema x sources ≡ true) × (all_typed formats schema sources ≡ true)
  unfolding sources_ground
  admitted =
      let p = chosen (small_body x.body && few_sources sources && all_within formats schema x sources) _ 9 (omega arith) h in
      let q = chosen (all_typed formats schema sources) _ 10 (omega arith) p.1 in
      let b = both (small_body x.body && few_sources sources) (all_within formats schema x sources) p.0 in
      ((both (small_body x.body) (few_sources sources) b.0).1, b.1, q.0)

  counted : (1 ≤ length sources / 2) × (length sources / 2 ≤ 16)
  unfolding few_sources
  counted =
      let b = both (leb 1 (length sources / 2)) (leb (length sources / 2) 16) admitted.0 in
      (leb-true 1 (length sources / 2) b.0, leb-true (length sources / 2) 16 b.1)

  pub some_source : 1 ≤ length sources / 2
  some_source = counted.0

  pub few_sources_lem : length sources / 2 ≤ 16
  few_sources_lem = counted.1

  pub first_typed : typed formats schema (get_or sources 0 0) (get_or sources 1 0) ≡ true
  first_typed = typed_at formats schema x sources admitted.2 0 (omega (arith, some_source))

  pub first_low : ceilings formats schema (get_or sources 0 0) (get_or sources 1 0) ≡ true
  first_low = within_low formats schema x _ _ (within_at_lem formats schema x sources admitted.1 0 (omega (arith, some_source)))

  -- THE PLAN OF SOURCES THAT THE GROUNDS 9 TO 12 LET THROUGH
  pub stood : (keep gaps : Bool) → Stood (planned formats schema x sources keep gaps) (length sources / 2) (get_or sources 1 0)
  stood keep gaps = stands formats schema x sources keep gaps few_sources_lem first_typed first_low
