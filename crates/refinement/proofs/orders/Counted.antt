-- The parts hold a well formed destination exactly where they have room for what it holds by count. Assumes nothing.
use mathlib.Core.Path.{◌≡◌, refl, sym, ap, ap₂, ◌∙◌}
use mathlib.Core.Bool.{Bool, true, false, not, cond, ◌&&◌}
use mathlib.Core.Option.{Option, none, some}
use mathlib.Core.List.{List, [], ◌∷◌, map, Memᴰ}
use Prim.Native.Nat.{ℕ, suc, ◌+◌, ◌*◌, ◌/◌}
use lib.ListN.{length}
use lib.Dec.{leb, eqb}
use borrow.Author.Tests.{eq-eqb, ne_eqb}
use Rattle.columnar.specs.Types.{Plain, fixed, string, Ty, t_plain, t_view, t_list_view, t_list, t_sparse, t_dense, t_run_end, t_dictionary}
use Rattle.columnar.specs.Reading.{Body, Column, masks}
use Rattle.columnar.specs.Test.{each}
use Rattle.model.specs.Grounds.{Counts, rows_of, bytes_of, kid_of, among}
use Rattle.model.specs.Mutable.{Mutable}
use Rattle.model.specs.Transform.{Grown, Destination}
use Rattle.model.specs.Held.{held_node, held_data, held}
use Rattle.model.proofs.Law.{FineNode}
use Rattle.model.proofs.Nodes.{PlainFine, FineOf, rows_held}
use Rattle.model.proofs.Ids.{among_in}
use Rattle.walk.specs.State.{keeps_of}
use Rattle.refinement.specs.walk_is_model.Memory.{Memory}
use Rattle.refinement.specs.walk_is_model.Holds.{child_of, HoldsBits, HoldsData, Holds}
use Rattle.plan.specs.parts.Parts.{size_of}
use Rattle.refinement.specs.orders.Fits.{plain_buffers, buffers_of, fits_bits, fits_all, fits_node, fits_below, fits}
use Rattle.refinement.specs.orders.Counted.{sizes_of, room_bits, room_all, room_node, room_below, room_for}

each_same : (p q : ℕ → Bool) (l : List ℕ) → ((e : ℕ) → Memᴰ e l → p e ≡ q e) → each p l ≡ each q l
each_same p q [] h = refl
each_same p q (c ∷ cs) h = ap₂ ◌&&◌ (h c (Memᴰ.head refl)) (each_same p q cs (λ e r. h e (Memᴰ.tail r)))

one : {a b : ℕ} → a ≡ b → a ∷ [] ≡ b ∷ []
one e = ap (λ z. z ∷ []) e

two : {a b c d : ℕ} → a ≡ b → c ≡ d → a ∷ c ∷ [] ≡ b ∷ d ∷ []
two e f = ap₂ (λ y z. y ∷ z ∷ []) e f

-- the buffers are as long as what is held says
sizes_are : (t : Ty) (m : ℕ) (ss : ℕ → Body t) (b : ℕ → Bool) (d : Grown t) (l : ℕ) → FineOf t m ss b d l → map length (buffers_of t d) ≡ sizes_of t (held_data t d l)
sizes_are (t_plain (fixed n)) m ss b d l f = one f
sizes_are (t_plain (string w)) m ss b d l f = two f.offsets_are refl
sizes_are t_view m ss b d l f = one f.views_are
sizes_are (t_list_view w t) m ss b d l f = two f.offsets_are f.sizes_are
sizes_are (t_list w t) m ss b d l f = one f.offsets_fine.offsets_are
sizes_are (t_sparse ids nullable g) m ss b d l f = one f.ids_are
sizes_are (t_dense ids nullable g) m ss b d l f = two f.ids_are f.positions_are
sizes_are (t_run_end w t) m ss b d l f = refl
sizes_are (t_dictionary n p) m ss b d l f = one f.keys_are

module _ (plan parts : List ℕ) (c : List ℕ) (μ : Memory) where
  all_same_lem : (i b : ℕ) (bs : List (List ℕ)) → fits_all plan parts i b bs ≡ room_all plan parts i b (map length bs)
  all_same_lem i b [] = refl
  all_same_lem i b (s ∷ ss) = ap (leb (length s) (size_of plan parts i (suc b)) &&◌) (all_same_lem i (suc b) ss)

  -- a node's own buffers
  pub own_counted : (t : Ty) (i m : ℕ) (ss : ℕ → Body t) (b : ℕ → Bool) (d : Grown t) (l : ℕ) → FineOf t m ss b d l
      → fits_all plan parts i 0 (buffers_of t d) ≡ room_all plan parts i 0 (sizes_of t (held_data t d l))
  own_counted t i m ss b d l f = all_same_lem i 0 (buffers_of t d) ∙ ap (room_all plan parts i 0) (sizes_are t m ss b d l f)

  bits_same : (i : ℕ) (v : Bool) (o : Option (List Bool)) (n : ℕ) → HoldsBits plan i v o μ → fits_bits plan parts i v o n ≡ room_bits plan parts i v n
  bits_same i true none n h = rw (eq-eqb (keeps_of plan i) 0 h) refl
  bits_same i false none n h = refl
  bits_same i true (some l) n h = rw (ne_eqb (keeps_of plan i) 0 h.0) refl
  bits_same i false (some l) n h = refl

  -- a node, and what is below it
  node_same : (t : Ty) (i m : ℕ) (ss : ℕ → Column t) (d : Destination t) → FineNode (masks t) (FineOf t m (λ j. (ss j).body)) m ss d → Holds plan t i d c μ
      → (below : Bool) → fits_below plan parts t i d.«data» ≡ below → fits plan parts t i d ≡ room_node plan parts i t below (held t d)
  node_same t i m ss d f h below e =
      ap₂ ◌&&◌
      (ap₂ ◌&&◌ (bits_same i (masks t) d.bits d.len h.bits_are ∙ ap (room_bits plan parts i (masks t)) (sym (rows_held t d.«data» d.len)))
      (own_counted t i m (λ j. (ss j).body) _ d.«data» d.len f.data_fine))
      e

  module _ (m : ℕ) where
    abbrev Same : Ty → Type 0
    Same t = (i : ℕ) (ss : ℕ → Column t) (d : Destination t) → FineNode (masks t) (FineOf t m (λ j. (ss j).body)) m ss d → Holds plan t i d c μ → fits plan parts t i d ≡ room_for plan parts t i (held t d)

    kids_same : (ids : List ℕ) (g : ℕ → Ty) (i l : ℕ) (kids : (e : ℕ) → Destination (g e))
        → ((e : ℕ) → Memᴰ e ids → fits plan parts (g e) (child_of plan i e) (kids e) ≡ room_for plan parts (g e) (child_of plan i e) (held (g e) (kids e)))
        → each (λ e. fits plan parts (g e) (child_of plan i e) (kids e)) ids
        ≡ each (λ e. room_for plan parts (g e) (child_of plan i e) (among ids (λ v. held (g v) (kids v)) e)) ids
    kids_same ids g i l kids h =
        each_same _ _ ids (λ e q. h e q ∙ ap (room_for plan parts (g e) (child_of plan i e)) (sym (among_in (λ v. held (g v) (kids v)) q)))

    -- GROUND 13 BY COUNTS
    pub fits_counted : (t : Ty) → Same t
    fits_counted (t_plain p) i ss d f h = node_same (t_plain p) i m ss d f h true refl
    fits_counted t_view i ss d f h = node_same t_view i m ss d f h true refl
    fits_counted (t_list_view w t) i ss d f h =
        node_same (t_list_view w t) i m ss d f h _ (fits_counted t (suc i) (λ j. (ss j).body.child) d.«data».child f.data_fine.child_fine h.data_are.2)
    fits_counted (t_list w t) i ss d f h =
        node_same (t_list w t) i m ss d f h _ (fits_counted t (suc i) (λ j. (ss j).body.child) d.«data».child f.data_fine.child_fine h.data_are.1)
    fits_counted (t_sparse ids nullable g) i ss d f h =
        node_same (t_sparse ids nullable g) i m ss d f h _
        (kids_same ids g i 0 d.«data».children (λ e q. fits_counted (g e) (child_of plan i e) (λ j. (ss j).body.children e) (d.«data».children e) (f.data_fine.kids_fine e q) (h.data_are.1 e q)))
    fits_counted (t_dense ids nullable g) i ss d f h =
        node_same (t_dense ids nullable g) i m ss d f h _
        (kids_same ids g i 0 d.«data».children (λ e q. fits_counted (g e) (child_of plan i e) (λ j. (ss j).body.children e) (d.«data».children e) (f.data_fine.kids_fine e q) (h.data_are.2 e q)))
    fits_counted (t_run_end w t) i ss d f h =
        let many : rows_of (held t d.«data».values) ≡ d.«data».ends.len = rows_held t d.«data».values.«data» d.«data».values.len ∙ f.data_fine.as_many in
        node_same (t_run_end w t) i m ss d f h _
        (ap₂ ◌&&◌ (ap (λ n. leb n (size_of plan parts (suc i) 1)) (f.data_fine.ends_are ∙ ap (λ n. n * w) (sym many)))
        (fits_counted t (suc (suc i)) (λ j. (ss j).body.values) d.«data».values f.data_fine.values_fine h.data_are.2))
    fits_counted (t_dictionary n p) i ss d f h = node_same (t_dictionary n p) i m ss d f h true refl
