-- DEMAND 2: the finished array has the bytes, lengths and null counts of the Rust, where one run for a gap is not chosen, and its rows read as asked.
-- Assumes nothing.
use mathlib.Core.Path.{◌≡◌, refl, sym, ap, subst, ◌∙◌}
use mathlib.Core.Bool.{Bool, true, false, cond}
use mathlib.Core.List.{List, ◌++◌}
use Prim.Native.Nat.{ℕ, suc, ◌+◌, ◌*◌, ◌-◌, min, ◌≤◌}
use native.Mathlib.Omega.{arith}
use lib.ListN.{length, get_or}
use lib.Dec.{T, ltb}
use Rattle.number.specs.Number.{encode}
use Rattle.columnar.specs.Row.{seg}
use Rattle.columnar.specs.Entries.{encodes}
use Rattle.columnar.specs.Types.{half}
use Rattle.columnar.specs.RunEnd.{RunEnd, end_of}
use Rattle.columnar.specs.Array.{null_count_of, ok, nulls_in}
use Rattle.columnar.specs.Reading.{read_all, masks}
use Rattle.model.specs.Try.{Try, done, then, guard}
use Rattle.model.specs.Grounds.{first_run, run_count}
use Rattle.model.specs.Mutable.{Mutable}
use Rattle.model.specs.Runs.{Runs, last_end, more_ends, runs_extend, runs_null}
use Rattle.model.specs.Transform.{Destination}
use Rattle.model.specs.Book.{Call, copy, nulls_entered}
use Rattle.model.proofs.Book.{counted_if}
use Rattle.array_data.specs.Tables.{length_of}
use Rattle.array_data.specs.Sources.{first_of, nodes_of}
use Rattle.array_data.proofs.type_tree.Source.{lent_source}
use Rattle.columnar.proofs.Test.{test_agrees}
use Rattle.walk.specs.State as walk
use Rattle.plan.specs.parts.Parts as parts
use Rattle.refinement.specs.orders.Order.{After}
use Rattle.refinement.proofs.orders.Step.{Running, Answers, made, not_made, order_step_lem}
use Rattle.refinement.proofs.opening.Taken.{taken}
use Rattle.columns.specs.Grounds.{ceiling, lawful}
use Rattle.columns.proofs.Grounds.{rule_placed, lawful_from}
use Rattle.refinement.proofs.opening.Opened.{Opened, orders_after}
use Rattle.refinement.specs.finishing.Finish.{Finished, length_table, null_table, place_table, buffer_table, buffers_before}
use Rattle.refinement.specs.finishing.Shows.{Bodied}
use Rattle.refinement.proofs.finishing.Orders.{appended}
use Rattle.refinement.proofs.finishing.Join.{given, finishing_accepted, join_again}
use Rattle.join.specs.Join.{Lending, Bytes, sources_in, tree_in, type_in, columns_in, keeps_in, opening_of, lent_of, after_calls, next_call, finishing_of, tables_at, finished_at, tables_of, finished_of, reached_by, nulls_booked}
use Rattle.join.specs.Built.{Built}
use Rattle.join.proofs.Opens.{runs}
use Rattle.join.proofs.Lengths.{nulls_is, nulls_by_lengths}
use Rattle.join.proofs.Shown.{bytes_at_lem, nulls_at_lem, finished_counters}
use Rattle.join.proofs.Built.{built}

-- ---- the model's destination is that of the Rust's calls, those that are carried out, with one run for a gap not chosen (`gaps` false): where it
-- is chosen, a null order on a run-end node is not the Rust's, and the theorems below are about the model alone

-- with a gap of 0 a null order on a run-end node is `extend_nulls` of the Rust's run.rs, and the gap stays 0
pub nulls_as_rust : {D : Type 0} (w : ℕ) (fill : ℕ → Mutable D → Try (Mutable D)) (n : ℕ) (ends : Mutable (List ℕ)) (values : Mutable D)
    → runs_null w fill n (record { ends = ends; values = values; gap = 0 })
    ≡ then (fill 1 values) (λ v. guard (ltb (last_end w ends + n) (half w)) 7 (done (record { ends = more_ends (encode w (last_end w ends + n)) 1 ends; values = v; gap = 0 })))
nulls_as_rust w fill n ends values = refl

-- .. as it does at a copy
pub copies_as_rust : {P D : Type 0} (w : ℕ) (extend : ℕ → ℕ → Mutable D → Try (Mutable D)) (s : RunEnd P) (a n : ℕ) (ends : Mutable (List ℕ)) (values : Mutable D)
    → runs_extend w extend s a (suc n) (record { ends = ends; values = values; gap = 0 })
    ≡ guard (ltb (last_end w ends + suc n) (half w)) 7
    (then (extend (first_run w s a) (run_count w s a (suc n)) values)
    (λ v.
    done
    (record {
      ends = more_ends (encodes w (seg (λ i. last_end w ends + (min (end_of w s.ends i) (a + suc n) - a)) (first_run w s a) (run_count w s a (suc n)))) (run_count w s a (suc n)) ends;
      values = v;
      gap = 0;
    })))
copies_as_rust w extend s a n ends values = refl

counted_cond : (b : Bool) (n : ℕ) → counted_if b n ≡ cond b n 0
counted_cond true n = refl
counted_cond false n = refl

-- ---- after an accepted opening and any list of calls, refused ones included

module _ (l : Lending) (b : Bytes l) (accepted : (opening_of l).refusal ≡ 0) (os : List Call) where
  abbrev opens : Opened l.formats l.schema l.sources l.tables l.keep l.gaps l.parts (opening_of l)
  opens = runs l b accepted

  -- Over any body z in which the room stands from `base` on and the sources' body where it was:
  module _ (base : ℕ) (z : List ℕ) (laid : Bodied z (lent_of l) (after_calls l os).room base) where
    -- THE BYTES, LENGTHS, VALIDITY AND NULL COUNTS: the finished tables are what `into_builder` makes of it, at every node, and the lent counters are its lengths and
    -- running null counts
    pub built_at : Built (tree_in l) (tables_at l os base z) (null_table (lent_of l) l.tables.buffers (after_calls l os).counters (after_calls l os).room base) (after_calls l os).counters (sources_in l) (type_in l) 0 (columns_in l) (reached_by l os)
    built_at =
        let g = given l.formats l.schema l.sources l.tables l.keep l.gaps l.parts (opening_of l) opens os in
        built (tree_in l) (tables_at l os base z) (null_table (lent_of l) l.tables.buffers (after_calls l os).counters (after_calls l os).room base) (after_calls l os).counters (sources_in l)
        (lent_of l).plan (orders_after l.formats l.schema l.sources l.tables l.keep l.gaps l.parts (opening_of l) opens os).running.memory g.kids
        (type_in l) 0 (columns_in l) g.means (reached_by l os) (bytes_at_lem l b accepted os base z laid) (nulls_at_lem l b accepted os base z laid) (finished_counters l b accepted os) g.holds

    -- LENT AGAIN, it passes ground 12
    pub again_at : T (lawful (tree_in l) (tables_at l os base z) (type_in l))
    again_at =
        let all = join_again l.formats l.schema l.sources l.tables l.keep l.gaps l.parts (opening_of l) opens os base z laid in
        let given = taken l.formats l.schema l.sources l.tables l.keep l.gaps opens.accepted in
        lawful_from (tree_in l) (tables_at l os base z) (type_in l) (rule_placed (tree_in l) (tables_at l os base z) all)
        ((test_agrees (type_in l) (finished_at l os base z)).complete
        (lent_source l.formats l.schema (first_of l.sources 0) (nodes_of l.sources 0) (tables_at l os base z) given.is_typed given.low all))

  -- the sources' body with the room behind it is such a body
  pub behind_body : Bodied (l.tables.body ++ (after_calls l os).room) (lent_of l) (after_calls l os).room (length l.tables.body)
  behind_body = appended (lent_of l) (after_calls l os).room

  pub finished_built : Built (tree_in l) (tables_of l os) (null_table (lent_of l) l.tables.buffers (after_calls l os).counters (after_calls l os).room (length l.tables.body)) (after_calls l os).counters (sources_in l) (type_in l) 0 (columns_in l) (reached_by l os)
  finished_built = built_at (length l.tables.body) _ behind_body

  -- THE RUNNING NULL COUNT is that of the calls that are carried out, where the root keeps nulls: a copy's zero bits, a null order's rows in full
  pub running_nulls : walk.nulls (after_calls l os).counters 0 ≡ cond (keeps_in l) (nulls_booked l os) 0
  running_nulls = nulls_by_lengths l b accepted os ∙ ap (counted_if (keeps_in l)) (sym (nulls_is l b accepted os)) ∙ counted_cond (keeps_in l) (nulls_booked l os)

  -- ONE CALL MORE that is accepted raises it by the nulls that the call enters ..
  pub call_counters : (o : Call) → (next_call l os o).refusal ≡ 0
      → walk.nulls (next_call l os o).counters 0
      ≡ walk.nulls (after_calls l os).counters 0 + cond (keeps_in l) (nulls_entered (type_in l) (keeps_in l) (sources_in l) (columns_in l) o) 0
  call_counters o h =
      go (order_step_lem (lent_of l) (type_in l) (sources_in l) (columns_in l) opens.join (keeps_in l) (opening_of l).counters opens.memory o (reached_by l os) (after_calls l os).counters (after_calls l os).room before) h
      ∙ ap (walk.nulls (after_calls l os).counters 0 +◌) (counted_cond (keeps_in l) (nulls_entered (type_in l) (keeps_in l) (sources_in l) (columns_in l) o))
    where
      before : Running (lent_of l) (type_in l) (sources_in l) (columns_in l) opens.join (keeps_in l) (opening_of l).counters opens.memory (reached_by l os) (after_calls l os).counters (after_calls l os).room
      before = (orders_after l.formats l.schema l.sources l.tables l.keep l.gaps l.parts (opening_of l) opens os).running

      go : {p : Try (Destination (type_in l))} {a : After}
          → Answers (lent_of l) (type_in l) (sources_in l) (columns_in l) opens.join (keeps_in l) (opening_of l).counters opens.memory o (reached_by l os) (after_calls l os).counters (after_calls l os).room p a
          → a.refusal ≡ 0
          → walk.nulls a.counters 0 ≡ walk.nulls (after_calls l os).counters 0 + counted_if (keeps_in l) (nulls_entered (type_in l) (keeps_in l) (sources_in l) (columns_in l) o)
      go (made d' a e r did) q =
          r.holds.nulls_are
          ∙ did.count_is
          ∙ ap (◌+ counted_if (keeps_in l) (nulls_entered (type_in l) (keeps_in l) (sources_in l) (columns_in l) o)) (sym before.holds.nulls_are)
      go (not_made g a e p c s) q = absurd (omega (arith, e, q, p))

  -- .. A COPY BY THE ZERO BITS OF ITS RANGE, where the root keeps nulls, else by none
  pub copy_counters : (j a e : ℕ) → (next_call l os (copy j a e)).refusal ≡ 0 → keeps_in l ≡ true
      → walk.nulls (next_call l os (copy j a e)).counters 0 ≡ walk.nulls (after_calls l os).counters 0 + nulls_in (ok (columns_in l j).valid) ((columns_in l j).off + a) (e - a)
  copy_counters j a e h k =
      call_counters (copy j a e) h
      ∙ ap (λ (b : Bool). walk.nulls (after_calls l os).counters 0 + cond b (nulls_in (ok (columns_in l j).valid) ((columns_in l j).off + a) (e - a)) 0) k

  -- FINISHING IS NEVER REFUSED where the tables are of the finished array's lengths and the room begins within a body's ceiling
  pub finishing_answered : (base : ℕ) (lengths nulls places names : List ℕ) → base ≤ ceiling
      → length lengths ≡ 2 * parts.nodes_of (lent_of l).plan → length nulls ≡ parts.nodes_of (lent_of l).plan → length places ≡ 9 * parts.nodes_of (lent_of l).plan
      → length names ≡ 2 * buffers_before (lent_of l) l.tables.buffers (after_calls l os).counters (after_calls l os).room base (parts.nodes_of (lent_of l).plan)
      → finishing_of l os base lengths nulls places names
      ≡ record {
        refusal = 0;
        lengths = length_table (lent_of l) l.tables.buffers (after_calls l os).counters (after_calls l os).room base;
        nulls = null_table (lent_of l) l.tables.buffers (after_calls l os).counters (after_calls l os).room base;
        places = place_table (lent_of l) l.tables.buffers (after_calls l os).counters (after_calls l os).room base;
        buffers = buffer_table (lent_of l) l.tables.buffers (after_calls l os).counters (after_calls l os).room base;
      }
  finishing_answered = finishing_accepted l.formats l.schema l.sources l.tables l.keep l.gaps l.parts (opening_of l) opens os

  -- the sources' body does, so that behind it finishing is refused for no size
  pub behind_sources : length l.tables.body ≤ ceiling
  behind_sources = omega (arith, (taken l.formats l.schema l.sources l.tables l.keep l.gaps opens.accepted).body_small)

  pub lent_again : T (lawful (tree_in l) (tables_of l os) (type_in l))
  lent_again = again_at (length l.tables.body) _ behind_body
