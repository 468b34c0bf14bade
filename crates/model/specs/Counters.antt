-- The finished validity and null count of every node as the Rust's `into_builder` has them, from its running counter: a node's null buffer is
-- kept where the counter is above 0, and the counter is its null count. Assumes nothing.
-- Follows arrow-data 60.1.0 src/transform/mod.rs, Apache-2.0; see NOTICE.
use Rattle.std.specs.Prelude.{◌≡◌, Bool, true, false, cond, ◌&&◌, ℕ, eqb}
use Rattle.std.proofs.Math.Option.{Option, none, map}
use mathlib.Core.List.{List, Memᴰ}
use Rattle.columnar.specs.Types.{Ty, t_plain, t_view, t_list_view, t_list, t_sparse, t_dense, t_run_end, t_dictionary}
use Rattle.columnar.specs.Array.{Array, null_count_of}
use Rattle.columnar.specs.Plain.{PlainBody}
use Rattle.columnar.specs.Reading.{Body, Column, masks}
use Rattle.model.specs.Try.{done}
use Rattle.model.specs.Opening.{keeps, shared}
use Rattle.model.specs.Mutable.{Mutable, keeps_bits, pack, start_node}
use Rattle.model.specs.Primitive.{plain_start}
use Rattle.model.specs.Transform.{Grown, Destination, joined_from}

-- `NullBuffer::new_unchecked(bools, data.null_count)`; 0 without a null buffer; masks: not at a union or run-end node
abbrev pub count_by : Bool → Option (List Bool) → ℕ → ℕ
count_by masks b c = cond (keeps_bits b && masks) c 0

-- `.filter(|n| n.null_count() > 0)`
abbrev pub validity_by : Bool → Option (List Bool) → ℕ → Option (List ℕ)
validity_by masks b c = cond (eqb (count_by masks b c) 0) none (map pack b)

-- a is d finished by its counter, and the nodes below it likewise
pub record ByCounter {P D : Type 0} (masks : Bool) (inner : D → P → Type 0) (d : Mutable D) (a : Array P) : Type 0 where
  pub len_is : a.len ≡ d.len
  pub valid_is : a.valid ≡ validity_by masks d.bits d.null_count
  pub count_is : null_count_of a ≡ count_by masks d.bits d.null_count
  pub below : inner d.«data» a.body

-- a node with nothing below it
abbrev pub Bare : {P D : Type 0} → D → P → Type 0
Bare d b = Unit {0}

-- a dictionary that is joined is finished likewise; one that is kept is a source's
abbrev pub ByCounters : (t : Ty) → ℕ → (ℕ → Body t) → Grown t → Body t → Type 0
ByCounters (t_plain p) = λ m ss. Bare
ByCounters t_view = λ m ss. Bare
ByCounters (t_list_view w t) = λ m ss d b. ByCounter (masks t) (ByCounters t m (λ i. (ss i).child.body)) d.child b.child
ByCounters (t_list w t) = λ m ss d b. ByCounter (masks t) (ByCounters t m (λ i. (ss i).child.body)) d.child b.child
ByCounters (t_sparse ids nullable f) = λ m ss d b. (c : ℕ) → Memᴰ c ids → ByCounter (masks (f c)) (ByCounters (f c) m (λ i. ((ss i).children c).body)) (d.children c) (b.children c)
ByCounters (t_dense ids nullable f) = λ m ss d b. (c : ℕ) → Memᴰ c ids → ByCounter (masks (f c)) (ByCounters (f c) m (λ i. ((ss i).children c).body)) (d.children c) (b.children c)
ByCounters (t_run_end w t) = λ m ss d b. ByCounter true Bare d.ends b.ends × ByCounter (masks t) (ByCounters t m (λ i. (ss i).values.body)) d.values b.values
ByCounters (t_dictionary k p) = λ m ss d b.
    shared m ss ≡ false → (e : Mutable (PlainBody p)) → joined_from p (λ i. (ss i).values) m (start_node (keeps false m (λ i. (ss i).values)) (plain_start p)) ≡ done e
    → ByCounter true Bare e b.values

-- EVERY NODE of a finished column
abbrev pub FinishedBy : (t : Ty) → ℕ → (ℕ → Column t) → Destination t → Column t → Type 0
FinishedBy t m ss = ByCounter (masks t) (ByCounters t m (λ i. (ss i).body))
