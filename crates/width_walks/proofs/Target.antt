-- A lent column and a target that passes: what the loop over nodes comes to. Assumes nothing.
use mathlib.Core.Path.{◌≡◌, sym, ap, ◌∙◌}
use mathlib.Core.Bool.{Bool, true, false}
use mathlib.Core.List.{List}
use Prim.Native.Nat.{ℕ, zero, suc, ◌≤◌, ◌<◌}
use native.Mathlib.Omega.{arith}
use Rattle.columnar.specs.Array.{ok}
use Rattle.columnar.specs.Reading.{Source}
use Rattle.schema.specs.formats.Code.{is_run_end}
use Rattle.schema.specs.Tree.{ceilings, typed}
use Rattle.schema.specs.Tree as trees
use Rattle.schema.proofs.Known.{typed_whole}
use Rattle.array_data.specs.Tables.{Tables, length_of, data_buffers}
use Rattle.array_data.specs.NodeKinds.{view_node}
use Rattle.array_data.specs.Typed.{Tree, tables_from, column_of, kind_in}
use Rattle.array_data.specs.lent_tables.Lent.{tables}
use Rattle.array_data.specs.type_tree.Lent.{tree_of, type_of}
use Rattle.array_data.proofs.type_tree.Shaped.{at_run}
use Rattle.array_data.proofs.type_tree.Lent.{some_node, whole_end}
use Rattle.walk.specs.State.{code_of, end_of, top}
use Rattle.plan.specs.parts.Parts.{copied}
use Rattle.refinement.specs.walk_is_model.Memory.{Memory}
use Rattle.refinement.specs.walk_is_model.Holds.{flag}
use Rattle.refinement.specs.orders.Order.{Lent}
use Rattle.refinement.proofs.plan_is_type.Planted.{code_is}
use Rattle.anew.specs.widths.Widths.{Widths}
use Rattle.anew.specs.Stood.{BuffersNamed}
use Rattle.anew.specs.ResultPlan.{keeps_from, plan_anew}
use Rattle.anew.proofs.PlanWords.{keeps_is}
use Rattle.anew.proofs.Parts.{copied_is, root_copied}
use Rattle.anew.proofs.Planted.{few, planted, root_is}
use Rattle.anew.proofs.Result.{lent_for}
use Rattle.width_walks.specs.target_rules.Target.{is_target, Target}
use Rattle.width_walks.proofs.target_rules.Codes.{near, back, run_kept}
use Rattle.width_walks.proofs.target_rules.Rules.{target_is}
use Rattle.width_walks.specs.Nodes.{is_run, ends_in, comes_from}
use Rattle.refinement.specs.log_in_room.Room.{AllBelow}
use Rattle.width_walks.proofs.Used.{bytes_at_lem}
use Rattle.width_walks.proofs.Placed.{laid_target}
use Rattle.width_walks.proofs.Plans.{of_type, in_parts, bits_for, parts_at}
use Rattle.width_walks.proofs.Readiness.{keeps_own, keeps_ends, ready}
use Rattle.width_walks.proofs.Whole.{Given}

module _ (formats schema : List ℕ) (x : Tables) (first n first' : ℕ) (parts : List ℕ) (t : typed formats schema first n ≡ true) (c : ceilings formats schema first n ≡ true)
    (h : is_target formats schema first n first' n ≡ true) where
  abbrev pub here : Tree
  here = tree_of formats schema first n

  abbrev pub there : Tree
  there = tree_of formats schema first' n

  -- a node keeps nulls exactly where the node it comes from has one
  abbrev pub keep : ℕ → Bool
  keep = keeps_from (tables x.lengths x.places x.body) first (comes_from here)

  -- THE PLAN OF THE RESULT
  abbrev pub made : List ℕ
  made = plan_anew formats schema first' n keep true 0

  abbrev pub lent : Lent
  lent = lent_for x made parts first n

  target : Target formats schema first n first' n
  target = target_is formats schema first n first' n h

  small_plan : n ≤ 32
  small_plan = few formats schema first' n keep true 0 target.of_type target.low

  -- a node behind a run-end node of the plan is run ends of the column's
  ends_here : (i : ℕ) → i < n → code_of made i ≡ 23 → ends_in here (suc i) ≡ true
  ends_here i l e =
      let a = trees.code_of formats schema first i in
      let b = trees.code_of formats schema first' i in
      let q : b ≡ 23 = sym (code_is formats schema first' n made target.of_type target.low (planted formats schema first' n keep true 0 target.of_type target.low) i l) ∙ e in
      let r : is_run_end a ≡ true = run_kept b a (back (near (target.nodes i l).code_widths)) (ap is_run_end q) in
      ap is_run (at_run formats schema first i r)

  pub no_ends_lem : (i : ℕ) → suc i < n → code_of made i ≡ 23 → keep (suc i) ≡ false
  no_ends_lem i l e = keeps_ends here (tables x.lengths x.places x.body) first (suc i) l (ends_here i (omega arith) e)

  copied_all : (i : ℕ) → i < n → copied made i ≡ true
  copied_all zero l = root_copied formats schema first' n keep true 0 small_plan
  copied_all (suc i) l = copied_is formats schema first' n keep true 0 small_plan i l

  -- WHAT IS GIVEN, where the column obeys, its lengths fit counters, the body's bytes are bytes, and the data buffers of its views are named
  pub given : (d : Widths (type_of formats schema first n) (type_of formats schema first' n)) → Source (type_of formats schema first n) (column_of here (tables_from x first) (type_of formats schema first n) 0)
      → ((i : ℕ) → i < n → length_of (tables_from x first) i ≤ top) → AllBelow 256 x.body
      → ((i : ℕ) → i < n → kind_in here i ≡ view_node → (c : List ℕ) (μ : Memory) → BuffersNamed lent x.buffers c μ i (data_buffers (tables_from x first) i))
      → Given here there (tables_from x first) lent x.buffers (type_of formats schema first n) (type_of formats schema first' n) d
  given d source small bytes named =
      let words = of_type formats schema first' n keep target.of_type target.low no_ends_lem in
      let end = whole_end formats schema first n (typed_whole formats schema first n t) in
      let root = root_is formats schema first' n keep true 0 target.of_type target.low in
      let laid = laid_target formats schema first n first' made t c target words.kids d in
      let all : (i : ℕ) → i < end_of made 0 → copied made i ≡ true = λ i l. copied_all i (omega (arith, root)) in
      let column = column_of here (tables_from x first) (type_of formats schema first n) 0 in
      let is_ready =
      ready here there (tables_from x first) lent x.buffers
      (λ i l e. keeps_is formats schema first' n keep true 0 small_plan i (omega (arith, end)) ∙ ap flag (keeps_own {B = Unit {0}} here x first i tt (omega (arith, end)) e)) (λ i l. small i (omega (arith, end))) (λ i l. named i (omega (arith, end)))
      (type_of formats schema first n) (type_of formats schema first' n) d laid in
      record {
        laid = laid;
        all_nodes_lem = sym end;
        low = omega (arith, end, small_plan);
        depth = 8;
        worded = words.worded;
        formed = words.formed;
        in_parts = in_parts formats schema first' n keep target.of_type target.low no_ends_lem;
        source = source;
        is_ready = is_ready;
        bits_there = bits_for lent x.buffers there (type_of formats schema first' n) words all (type_of formats schema first n) (type_of formats schema first' n) d 8 0 words.worded
            (omega (arith, root, some_node formats schema first n (typed_whole formats schema first n t))) column source is_ready.keeps;
        parts_there = parts_at lent x.buffers there (type_of formats schema first' n) words all (type_of formats schema first n) (type_of formats schema first' n) d 8 0 words.worded words.means (omega arith)
            (ok column.valid) column.body column.off column.len source.slots is_ready.body_ready;
        bytes_there = bytes_at_lem here (tables_from x first) bytes (type_of formats schema first n) 0;
      }
