-- A WHOLE JOIN on lent memory: after an accepted opening and any list of calls, refused ones included, finishing is accepted, and its
-- tables describe the model's finished array, whose rows are the book's. Assumes nothing.
use mathlib.Core.Path.{◌≡◌, refl, sym, ap, ◌∙◌}
use mathlib.Core.Bool.{Bool, true, false}
use mathlib.Core.List.{List, [], ◌∷◌}
use Prim.Native.Nat.{ℕ, ◌+◌, ◌*◌, ◌≤◌}
use native.Mathlib.Omega.{arith}
use lib.ListN.{length}
use lib.Dec.{T}
use Rattle.array_data.proofs.lent_tables.Laws.{and_left}
use Rattle.columnar.specs.Types.{Ty}
use Rattle.columnar.specs.Reading.{Column, read, read_all}
use Rattle.model.specs.Try.{Try, done, stop, then, guard, after}
use Rattle.model.specs.Opening.{keeps}
use Rattle.model.specs.Transform.{Destination, open_data, start, into_builder}
use Rattle.model.specs.Book.{Call}
use Rattle.model.specs.Orders.{perform}
use Rattle.model.proofs.Bits.{length_seg}
use Rattle.array_data.specs.Tables.{Tables, length_of}
use Rattle.array_data.specs.Typed.{Tree, column_of, source_rule}
use Rattle.array_data.specs.type_tree.Lent.{tree_of, type_of}
use Rattle.array_data.proofs.type_tree.Lent.{means}
use Rattle.refinement.specs.walk_is_model.Memory.{Memory}
use Rattle.refinement.specs.plan_is_type.Taken.{columns_as}
use Rattle.refinement.proofs.plan_is_type.Opened.{same_child_lem, all_alike}
use Rattle.plan.specs.parts.Parts as Parts
use Rattle.columns.specs.Grounds.{ceiling}
use Rattle.array_data.specs.Sources.{source_count, first_of, nodes_of}
use Rattle.refinement.specs.orders.Order.{After, Lent, ordered_all}
use Rattle.refinement.specs.orders.Fits.{fits, answers_in, book_in}
use Rattle.refinement.proofs.orders.Step.{first_opened}
use Rattle.refinement.specs.opening.Open.{Opening, opened}
use Rattle.refinement.specs.opening.Fits.{open_fits, entries_fit}
use Rattle.refinement.proofs.opening.Laid.{stood}
use Rattle.refinement.proofs.opening.Taken.{few_sources_lem, is_typed, is_low, planted, taken, sources_of}
use Rattle.refinement.proofs.opening.Joined.{kept}
use Rattle.refinement.proofs.opening.Values.{entries_lent}
use Rattle.refinement.proofs.opening.Opened.{Opened, orders_after}
use Rattle.refinement.specs.finishing.Finish.{length_table, null_table, place_table, buffer_table, buffers_before, finishing}
use Rattle.refinement.specs.finishing.Shows.{Shows, Counts, finished_tables, Bodied}
use Rattle.refinement.proofs.finishing.Given.{Given}
use Rattle.refinement.proofs.finishing.SourceNames.{taken_named}
use Rattle.refinement.proofs.finishing.Finished.{finished_shows, null_is}
use Rattle.refinement.proofs.finishing.Again.{finished_reads}
use Rattle.refinement.proofs.finishing.Orders.{given_by}
use Rattle.refinement.proofs.finishing.Accepted.{never_refused}
use Rattle.refinement.proofs.finishing.Inside.{lent_again}

-- ---- the parts hold the destination after any calls

module _ (plan parts : List ℕ) (t : Ty) (m : ℕ) (ss : ℕ → Column t) where
  abbrev Fit : Destination t → Type 0
  Fit d = fits plan parts t 0 d ≡ true

  fits_one : (p : Try (Destination t)) (d : Destination t) → Fit d → Fit (after (then p (λ e. guard (fits plan parts t 0 e) 13 (done e))) d)
  fits_one (stop g) d h = h
  fits_one (done e) d h = go (fits plan parts t 0 e) refl
    where
      go : (b : Bool) → fits plan parts t 0 e ≡ b → Fit (after (guard b 13 (done e)) d)
      go true q = q
      go false q = h

  fits_after : (os : List Call) (d : Destination t) → Fit d → Fit (answers_in plan parts t m ss os d)
  fits_after [] d h = h
  fits_after (o ∷ os) d h = fits_after os _ (fits_one (perform t m ss o d) d h)

  -- 13 was tested at the opening
  fits_first : (p : Try (Unit {0})) (b : Bool) (d : Destination t) → then p (λ y. guard b 13 (done d)) ≡ done d → b ≡ true
  fits_first (done y) true d e = refl
  fits_first (done y) false d e = absurd (let z : ◌≡◌ {A = ℕ} 0 1 = cc e in omega arith)
  fits_first (stop g) b d e = absurd (let z : ◌≡◌ {A = ℕ} 0 1 = cc e in omega arith)

module _ (formats schema sources : List ℕ) (x : Tables) (keep gaps : Bool) (parts : List ℕ) (a : Opening) (o : Opened formats schema sources x keep gaps parts a) (os : List Call) where
  abbrev m : ℕ
  m = source_count sources

  abbrev t : Ty
  t = type_of formats schema (first_of sources 0) (nodes_of sources 0)

  abbrev tree : Tree
  tree = tree_of formats schema (first_of sources 0) (nodes_of sources 0)

  abbrev ss : ℕ → Column t
  ss = columns_as formats schema x (first_of sources) (nodes_of sources)

  abbrev lent : Lent
  lent = opened formats schema sources x keep gaps parts

  -- what the model has reached, and the counters and the room that the calls leave
  abbrev pub reached : Destination t
  reached = answers_in lent.plan parts t m ss os (start gaps t keep m ss)

  abbrev left : After
  left = ordered_all lent a.counters a.room os

  abbrev memory : Memory
  memory = (orders_after formats schema sources x keep gaps parts a o os).running.memory

  start_fits : fits lent.plan parts t 0 (start gaps t keep m ss) ≡ true
  start_fits =
      and_left (fits lent.plan parts t 0 (start gaps t keep m ss)) (entries_fit lent.plan parts t 0 m (λ j. (ss j).body))
      (fits_first lent.plan parts t m ss (open_data t m (λ j. (ss j).body)) (open_fits lent.plan parts t 0 m (λ j. (ss j).body) (start gaps t keep m ss)) (start gaps t keep m ss) o.model)

  pub given : Given lent x.buffers tree t m ss reached left.counters left.room memory
  given =
      let ok = o.accepted in
      let k = taken formats schema sources x keep gaps ok in
      let alike = all_alike formats schema x (first_of sources) (nodes_of sources) lent.plan m k 0 o.join.some_source in
      given_by lent t m ss o.join (keeps keep m ss) a.counters o.memory reached left.counters left.room (orders_after formats schema sources x keep gaps parts a o os).running
      (fits_after lent.plan parts t m ss os (start gaps t keep m ss) start_fits) x.buffers tree (few_sources_lem formats schema sources x keep gaps ok)
      (means formats schema (first_of sources 0) (nodes_of sources 0) (is_typed formats schema sources x keep gaps ok) (is_low formats schema sources x keep gaps ok))
      (same_child_lem formats schema (first_of sources 0) (nodes_of sources 0) lent.plan (is_typed formats schema sources x keep gaps ok) (is_low formats schema sources x keep gaps ok) (planted formats schema sources x keep gaps ok) (first_of sources 0) (nodes_of sources 0) alike)
      (taken_named formats schema x lent.plan parts sources (nodes_of sources) m k) (sources_of formats schema sources x keep gaps ok).few_buffers_lem (entries_lent formats schema sources x keep gaps ok parts) o.joins (keeps keep m ss) (kept formats schema sources x keep gaps ok).1

  -- FINISHING IS ACCEPTED, where the room begins within a body's ceiling and the tables are of the finished array's lengths
  pub finishing_accepted : (base : ℕ) (lengths nulls places names : List ℕ) → base ≤ ceiling
      → length lengths ≡ 2 * Parts.nodes_of lent.plan → length nulls ≡ Parts.nodes_of lent.plan → length places ≡ 9 * Parts.nodes_of lent.plan
      → length names ≡ 2 * buffers_before lent x.buffers left.counters left.room base (Parts.nodes_of lent.plan)
      → finishing lent x.buffers left.counters left.room base lengths nulls places names
      ≡ record {
        refusal = 0;
        lengths = length_table lent x.buffers left.counters left.room base;
        nulls = null_table lent x.buffers left.counters left.room base;
        places = place_table lent x.buffers left.counters left.room base;
        buffers = buffer_table lent x.buffers left.counters left.room base;
      }
  finishing_accepted = never_refused lent x.buffers tree t m ss reached left.counters left.room memory given

  module _ (base : ℕ) (body : List ℕ) (bodied : Bodied body lent left.room base) where
    abbrev Y : Tables
    Y = finished_tables lent x.buffers left.counters left.room base body

    -- ITS TABLES DESCRIBE THE MODEL'S FINISHED ARRAY
    pub join_shows : Shows tree Y t 0 (into_builder t m ss reached)
    join_shows = finished_shows lent x.buffers tree t m ss reached left.counters left.room memory given base body bodied

    -- .. AND ITS NULL COUNTS
    pub join_nulls : Counts tree (null_table lent x.buffers left.counters left.room base) t 0 (into_builder t m ss reached)
    join_nulls = null_is lent x.buffers tree t m ss reached left.counters left.room memory given base body bodied

    -- ITS ROWS ARE THE BOOK'S
    pub join_rows : read_all t (column_of tree Y t 0) ≡ book_in lent.plan parts t m ss (keeps keep m ss) os (start gaps t keep m ss)
    join_rows =
        finished_reads lent x.buffers tree t m ss reached left.counters left.room memory given (first_opened lent t m ss o.join).ready base body bodied
        ∙ (orders_after formats schema sources x keep gaps parts a o os).rows_are

    -- .. and its length is the book's
    pub join_length : length_of Y 0 ≡ length (book_in lent.plan parts t m ss (keeps keep m ss) os (start gaps t keep m ss))
    join_length = sym (length_seg (read t (column_of tree Y t 0)) 0 (length_of Y 0)) ∙ ap length join_rows

    -- IT PASSES GROUND 12 where it is lent again
    pub join_again : T (source_rule tree Y)
    join_again =
        let ok = o.accepted in
        lent_again lent x.buffers formats schema (first_of sources 0) (nodes_of sources 0) m ss reached left.counters left.room memory given (first_opened lent t m ss o.join).ready base body bodied
        (is_typed formats schema sources x keep gaps ok) (is_low formats schema sources x keep gaps ok) (let e = (stood formats schema x sources ok keep gaps).node_count in omega arith)
