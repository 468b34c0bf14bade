-- The Rust's MutableArrayData: `try_with_capacities`, `try_extend`, `try_extend_nulls` and `into_builder`, with 01's named differences.
-- Follows arrow-data 60.1.0 src/transform/mod.rs, Apache-2.0; see NOTICE. Assumes nothing.
use Rattle.std.specs.Prelude.{Bool, true, false, cond, ◌&&◌, List, [], ◌∷◌, ◌++◌, ℕ, zero, suc, ◌+◌, ◌-◌, ◌*◌, length, replicate, ltb, leb}
use Rattle.std.proofs.Math.Option.{Option, none, some}
use Rattle.number.specs.Number.{encode}
use Rattle.columnar.specs.Types.{Number, width, Plain, Ty, t_plain, t_view, t_list_view, t_list, t_sparse, t_dense, t_run_end, t_dictionary}
use Rattle.columnar.specs.Row.{seg}
use Rattle.columnar.specs.Array.{Array, item}
use Rattle.columnar.specs.Entries.{encodes}
use Rattle.columnar.specs.Plain.{PlainBody}
use Rattle.columnar.specs.View.{Views}
use Rattle.columnar.specs.Dictionary.{Dictionary}
use Rattle.columnar.specs.Reading.{Body, Column, masks}
use Rattle.model.specs.Try.{Try, done, stop, then, guard, after, steps_t}
use Rattle.model.specs.Opening.{present, keeps, shared, entries_fit, start_of_keys, all_keys_fit}
use Rattle.model.specs.Mutable.{Mutable, keeps_bits, extend_node, nulls_node, start_node, freeze_node}
use Rattle.model.specs.Primitive.{plain_extend, plain_null, plain_start, new_views, buffers_before}
use Rattle.model.specs.ListViews.{Lists, list_row, list_nulls, list_freeze}
use Rattle.model.specs.Lists.{Listings, lists_extend, lists_nulls, lists_freeze}
use Rattle.model.specs.Unions.{Sparses, Denses, in_order, sparse_extend, dense_row, sparse_null, dense_null, sparse_freeze, dense_freeze}
use Rattle.model.specs.Runs.{Runs, runs_extend, runs_freeze}

-- what grows at a node: buffer1, buffer2 and the children
abbrev pub Grown : Ty → Type 0
Grown (t_plain p) = PlainBody p
Grown t_view = List ℕ
Grown (t_list_view w t) = Lists (Grown t)
Grown (t_list w t) = Listings (Grown t)
Grown (t_sparse ids nullable f) = Sparses (λ c. Grown (f c))
Grown (t_dense ids nullable f) = Denses (λ c. Grown (f c))
Grown (t_run_end w t) = Runs (Grown t)
Grown (t_dictionary k p) = List ℕ

abbrev pub Destination : Ty → Type 0
Destination t = Mutable (Grown t)

-- a copy of the data at a node; m sources, the j-th from slot a on, n of them, behind l rows. "A key is rebased by adding modulo 2 to the power of its width"
abbrev pub extend_data : (t : Ty) → ℕ → (ℕ → Body t) → ℕ → ℕ → ℕ → ℕ → Grown t → Try (Grown t)
extend_data (t_plain p) = λ m ss j a n l d. plain_extend p (ss j) a n l d
extend_data t_view = λ m ss j a n l d. done (d ++ new_views (length (buffers_before ss j)) (ss j).views a n)
extend_data (t_list_view w t) = λ m ss j a n l d. steps_t (list_row w (extend_node (masks t) (extend_data t m) (λ i. (ss i).child) j) (ss j)) a n d
extend_data (t_list w t) = λ m ss j a n l d. lists_extend w (extend_node (masks t) (extend_data t m) (λ i. (ss i).child) j) (ss j) a n l d
extend_data (t_sparse ids nullable f) = λ m ss j a n l d. sparse_extend ids (λ c. extend_node (masks (f c)) (extend_data (f c) m) (λ i. (ss i).children c) j) (ss j) a n d
extend_data (t_dense ids nullable f) = λ m ss j a n l d. steps_t (dense_row (λ c. extend_node (masks (f c)) (extend_data (f c) m) (λ i. (ss i).children c) j) (ss j)) a n d
extend_data (t_run_end w t) = λ m ss j a n l d. runs_extend w (extend_node (masks t) (extend_data t m) (λ i. (ss i).values) j) (ss j) a n d
extend_data (t_dictionary k p) = λ m ss j a n l d. done (d ++ encodes (width k) (seg (λ i. item (width k) (ss j).keys i + start_of_keys m ss j) a n))

abbrev pub extend : (t : Ty) → ℕ → (ℕ → Column t) → ℕ → ℕ → ℕ → Destination t → Try (Destination t)
extend t m ss = extend_node (masks t) (extend_data t m) ss

module _ (runs : (D : Type 0) → ℕ → (ℕ → Mutable D → Try (Mutable D)) → ℕ → Runs D → Try (Runs D)) where
  -- n nulls in the data at a node; `runs` is what they do at a run-end node
  abbrev pub nulls_by : (t : Ty) → ℕ → ℕ → Grown t → Try (Grown t)
  nulls_by (t_plain p) = λ n l d. plain_null p n l d
  nulls_by t_view = λ n l d. done (d ++ replicate (n * 16) 0)
  nulls_by (t_list_view w t) = λ n l d. list_nulls w n d
  nulls_by (t_list w t) = λ n l d. lists_nulls w n l d
  nulls_by (t_sparse ids nullable f) = λ n l d. sparse_null ids nullable (λ c. nulls_node (masks (f c)) (nulls_by (f c))) n d
  nulls_by (t_dense ids nullable f) = λ n l d. dense_null ids nullable (λ c. nulls_node (masks (f c)) (nulls_by (f c))) n d
  nulls_by (t_run_end w t) = λ n l d. runs (Grown t) w (nulls_node (masks t) (nulls_by t)) n d
  nulls_by (t_dictionary k p) = λ n l d. done (d ++ replicate (n * width k) 0)

-- the first j dictionaries joined, in source order
abbrev pub joined_from : (p : Plain) → (ℕ → Array (PlainBody p)) → ℕ → Mutable (PlainBody p) → Try (Mutable (PlainBody p))
joined_from p vs zero d = done d
joined_from p vs (suc j) d = then (joined_from p vs j d) (λ e. extend_node true (λ ss i. plain_extend p (ss i)) vs j 0 (vs j).len e)

-- "Only if all neighbouring sources share is source 0's dictionary kept; else all are joined, in source order." 6 where that overflows.
-- "Finished arrays drop validity if no bit is 0": a kept dictionary's too.
abbrev pub the_dictionary : (p : Plain) → ℕ → (ℕ → Dictionary (PlainBody p)) → Try (Array (PlainBody p))
the_dictionary p m ds =
    elim (shared m ds) [
      | true ↦ done (present (ds 0).values)
      | false ↦ then (joined_from p (λ i. (ds i).values) m (start_node (keeps false m (λ i. (ds i).values)) (plain_start p))) (λ e. done (freeze_node true (λ b. b) e))
    ]

-- each in order: the first refusal, or done
abbrev pub open_all : List ℕ → (ℕ → Try (Unit {0})) → Try (Unit {0})
open_all [] g = done tt
open_all (c ∷ cs) g = then (g c) (λ x. open_all cs g)

-- "per dictionary in tree order 6 (joining), 8"
abbrev pub open_data : (t : Ty) → ℕ → (ℕ → Body t) → Try (Unit {0})
open_data (t_plain p) = λ m ss. done tt
open_data t_view = λ m ss. done tt
open_data (t_list_view w t) = λ m ss. open_data t m (λ i. (ss i).child.body)
open_data (t_list w t) = λ m ss. open_data t m (λ i. (ss i).child.body)
open_data (t_sparse ids nullable f) = λ m ss. open_all ids (λ c. open_data (f c) m (λ i. ((ss i).children c).body))
open_data (t_dense ids nullable f) = λ m ss. open_all ids (λ c. open_data (f c) m (λ i. ((ss i).children c).body))
open_data (t_run_end w t) = λ m ss. open_data t m (λ i. (ss i).values.body)
open_data (t_dictionary k p) = λ m ss. guard (entries_fit m ss) 6 (then (the_dictionary p m ss) (λ v. guard (all_keys_fit k m m ss) 8 (done tt)))

-- a node with no rows that keeps nulls or not; "this passes to union, list-view and run-value children, not to run ends and dictionaries"; a list's child keeps too
abbrev pub start_data : Bool → (t : Ty) → Bool → ℕ → (ℕ → Body t) → Grown t
start_data gaps (t_plain p) = λ u m ss. plain_start p
start_data gaps t_view = λ u m ss. []
start_data gaps (t_list_view w t) = λ u m ss. record { buffer1 = []; buffer2 = []; child = start_node (keeps u m (λ i. (ss i).child)) (start_data gaps t (keeps u m (λ i. (ss i).child)) m (λ i. (ss i).child.body)) }
start_data gaps (t_list w t) = λ u m ss. record { buffer1 = encode w 0; child = start_node (keeps u m (λ i. (ss i).child)) (start_data gaps t (keeps u m (λ i. (ss i).child)) m (λ i. (ss i).child.body)) }
start_data gaps (t_sparse ids nullable f) = λ u m ss. record { buffer1 = []; children = λ c. start_node (keeps u m (λ i. (ss i).children c)) (start_data gaps (f c) (keeps u m (λ i. (ss i).children c)) m (λ i. ((ss i).children c).body)) }
start_data gaps (t_dense ids nullable f) = λ u m ss. record { buffer1 = []; buffer2 = []; children = λ c. start_node (keeps u m (λ i. (ss i).children c)) (start_data gaps (f c) (keeps u m (λ i. (ss i).children c)) m (λ i. ((ss i).children c).body)) }
start_data gaps (t_run_end w t) = λ u m ss. record { ends = start_node false []; values = start_node (keeps u m (λ i. (ss i).values)) (start_data gaps t (keeps u m (λ i. (ss i).values)) m (λ i. (ss i).values.body)); gap = cond gaps 1 0 }
start_data gaps (t_dictionary k p) = λ u m ss. []

abbrev pub start : Bool → (t : Ty) → Bool → ℕ → (ℕ → Column t) → Destination t
start gaps t u m ss = start_node (keeps u m ss) (start_data gaps t (keeps u m ss) m (λ i. (ss i).body))

-- the finished data: a view's data buffers are those of all sources in order; a dictionary is the kept or the joined one
abbrev pub freeze_data : (t : Ty) → ℕ → (ℕ → Body t) → Grown t → Body t
freeze_data (t_plain p) = λ m ss d. d
freeze_data t_view = λ m ss d. record { views = d; buffers = buffers_before ss m }
freeze_data (t_list_view w t) = λ m ss d. list_freeze (freeze_node (masks t) (freeze_data t m (λ i. (ss i).child.body))) d
freeze_data (t_list w t) = λ m ss d. lists_freeze (freeze_node (masks t) (freeze_data t m (λ i. (ss i).child.body))) d
freeze_data (t_sparse ids nullable f) = λ m ss d. sparse_freeze (λ c. freeze_node (masks (f c)) (freeze_data (f c) m (λ i. ((ss i).children c).body))) d
freeze_data (t_dense ids nullable f) = λ m ss d. dense_freeze (λ c. freeze_node (masks (f c)) (freeze_data (f c) m (λ i. ((ss i).children c).body))) d
freeze_data (t_run_end w t) = λ m ss d. runs_freeze (freeze_node (masks t) (freeze_data t m (λ i. (ss i).values.body))) d
freeze_data (t_dictionary k p) = λ m ss d. record { keys = d; values = after (the_dictionary p m ss) (ss 0).values; starts = cond (shared m ss) (ss 0).starts [] }

-- THE OPENING, of sources that obey the rules: `try_with_capacities`
abbrev pub try_with_capacities : Bool → (t : Ty) → Bool → ℕ → (ℕ → Column t) → Try (Destination t)
try_with_capacities gaps t u m ss = then (open_data t m (λ i. (ss i).body)) (λ x. done (start gaps t u m ss))

-- A COPY: 1, 2, then as the Rust meets them
abbrev pub try_extend : (t : Ty) → ℕ → (ℕ → Column t) → ℕ → ℕ → ℕ → Destination t → Try (Destination t)
try_extend t m ss j a e d = guard (ltb j m) 1 (guard (leb a e && leb e (ss j).len) 2 (extend t m ss j a (e - a) d))

module _ (runs : (D : Type 0) → ℕ → (ℕ → Mutable D → Try (Mutable D)) → ℕ → Runs D → Try (Runs D)) where
  -- NULLS: 3, then count 0 accepted, then as the Rust meets them
  abbrev pub try_extend_nulls : (t : Ty) → ℕ → Destination t → Try (Destination t)
  try_extend_nulls t n d = guard (keeps_bits d.bits) 3 (nulls_node (masks t) (nulls_by runs t) n d)

-- FINISHING: `into_builder`
abbrev pub into_builder : (t : Ty) → ℕ → (ℕ → Column t) → Destination t → Column t
into_builder t m ss d = freeze_node (masks t) (freeze_data t m (λ i. (ss i).body)) d
