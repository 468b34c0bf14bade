-- THE COUNTERS AND THE FINISHED TABLES of a destination, node by node: the counters are its length and running null count, and the tables are as the Rust's
-- `into_builder` makes an array of it: its length, offset 0, its null buffer where the running null count is above 0, that null count, its buffers and its children.
-- Follows arrow-data 60.1.0 src/transform/mod.rs, Apache-2.0; see NOTICE. Assumes nothing.
use Rattle.std.specs.Prelude.{◌≡◌, Bool, true, false, ℕ, suc, length, take, get_or}
use Rattle.std.proofs.Math.Option.{Option}
use mathlib.Core.List.{List, [], ◌∷◌, Memᴰ}
use Rattle.columnar.specs.Types.{Plain, fixed, string, Ty, t_plain, t_view, t_list_view, t_list, t_sparse, t_dense, t_run_end, t_dictionary}
use Rattle.columnar.specs.Array.{ok, nulls_in, null_count_of}
use Rattle.columnar.specs.Plain.{PlainBody}
use Rattle.columnar.specs.Dictionary.{Dictionary}
use Rattle.columnar.specs.Reading.{Body, Column, masks}
use Rattle.model.specs.Try.{done}
use Rattle.model.specs.Opening.{keeps, shared, present}
use Rattle.model.specs.Mutable.{Mutable, start_node}
use Rattle.model.specs.Primitive.{plain_start, buffers_before}
use Rattle.model.specs.Transform.{Grown, Destination, joined_from}
use Rattle.model.specs.Counters.{validity_by, count_by}
use Rattle.array_data.specs.Tables.{Tables, length_of, offset_of, valid_of, first_buffer, second_buffer, data_buffers}
use Rattle.array_data.specs.Typed.{Tree, node_of}
use Rattle.walk.specs.State.{rows, nulls, bytes, gap}
use Rattle.refinement.specs.orders.Fits.{plain_buffers, buffers_of}

-- node i has this length, offset, null buffer and null count, which is that of the buffer's bits, and these buffers
pub record NodeIs (y : Tables) (counts : List ℕ) (i len off : ℕ) (valid : Option (List ℕ)) (count : ℕ) (buffers : List (List ℕ)) : Type 0 where
  pub len_is : length_of y i ≡ len
  pub off_is : offset_of y i ≡ off
  pub valid_is : valid_of y i ≡ valid
  pub count_is : get_or counts i 0 ≡ count
  pub bits_are : get_or counts i 0 ≡ nulls_in (ok (valid_of y i)) (offset_of y i) (length_of y i)
  pub buffers_are : take (length buffers) (first_buffer y i ∷ second_buffer y i ∷ []) ≡ buffers

-- counts: the finished null counts; m sources; a union's children only where their ids are declared
module _ (tree : Tree) (y : Tables) (counts counters : List ℕ) (m : ℕ) where
  -- .. made of d
  abbrev pub Made : {D : Type 0} → ℕ → Bool → (D → List (List ℕ)) → Mutable D → Type 0
  Made i masks own d = NodeIs y counts i d.len 0 (validity_by masks d.bits d.null_count) (count_by masks d.bits d.null_count) (own d.«data»)

  -- .. with its counters and what is below it
  abbrev pub BuiltNode : {D : Type 0} → ℕ → Bool → (D → List (List ℕ)) → (D → Type 0) → Mutable D → Type 0
  BuiltNode i masks own below d = (rows counters i ≡ d.len) × (nulls counters i ≡ d.null_count) × Made i masks own d × below d.«data»

  -- "Only if all neighbouring sources share is source 0's dictionary kept; else all are joined, in source order"
  abbrev pub BuiltValues : (p : Plain) → ℕ → (ℕ → Dictionary (PlainBody p)) → Type 0
  BuiltValues p i ds =
      let a = present (ds 0).values in
      (shared m ds ≡ true → NodeIs y counts i a.len a.off a.valid (null_count_of a) (plain_buffers p a.body))
      × (shared m ds ≡ false → (e : Mutable (PlainBody p)) → joined_from p (λ j. (ds j).values) m (start_node (keeps false m (λ j. (ds j).values)) (plain_start p)) ≡ done e → Made i true (plain_buffers p) e)

  -- the bytes of byte strings, a gap, data buffers and what is below node i
  abbrev pub BuiltData : (t : Ty) → ℕ → (ℕ → Body t) → Grown t → Type 0
  BuiltData (t_plain (fixed n)) i ss d = Unit {0}
  BuiltData (t_plain (string w)) i ss d = bytes counters i ≡ length d.chars
  BuiltData t_view i ss d = data_buffers y i ≡ buffers_before ss m
  BuiltData (t_list_view w t) i ss d = BuiltNode (suc i) (masks t) (buffers_of t) (BuiltData t (suc i) (λ j. (ss j).child.body)) d.child
  BuiltData (t_list w t) i ss d = BuiltNode (suc i) (masks t) (buffers_of t) (BuiltData t (suc i) (λ j. (ss j).child.body)) d.child
  BuiltData (t_sparse ids nullable f) i ss d =
      (c : ℕ) → Memᴰ c ids → BuiltNode (node_of tree i ids c) (masks (f c)) (buffers_of (f c)) (BuiltData (f c) (node_of tree i ids c) (λ j. ((ss j).children c).body)) (d.children c)
  BuiltData (t_dense ids nullable f) i ss d =
      (c : ℕ) → Memᴰ c ids → BuiltNode (node_of tree i ids c) (masks (f c)) (buffers_of (f c)) (BuiltData (f c) (node_of tree i ids c) (λ j. ((ss j).children c).body)) (d.children c)
  BuiltData (t_run_end w t) i ss d =
      (rows counters (suc i) ≡ d.ends.len) × Made (suc i) true (λ s. s ∷ []) d.ends × (gap counters i ≡ d.gap)
      × BuiltNode (suc (suc i)) (masks t) (buffers_of t) (BuiltData t (suc (suc i)) (λ j. (ss j).values.body)) d.values
  BuiltData (t_dictionary k p) i ss d = BuiltValues p (suc i) ss

  -- THE COUNTERS AND THE TABLES ARE MADE OF d, from node i on
  abbrev pub Built : (t : Ty) → ℕ → (ℕ → Column t) → Destination t → Type 0
  Built t i ss = BuiltNode i (masks t) (buffers_of t) (BuiltData t i (λ j. (ss j).body))
