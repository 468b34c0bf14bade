-- What orders on one source have copied stands as its finished column, so that a call may fill a node as an order does. Assumes nothing.
use mathlib.Core.Path.{◌≡◌, refl, sym, subst, ◌∙◌}
use mathlib.Core.Bool.{Bool, true, false}
use mathlib.Core.Option.{Option, none, some}
use mathlib.Core.List.{List}
use Prim.Native.Nat.{ℕ, zero, suc, ◌*◌, ◌≤◌, ◌<◌}
use native.Mathlib.Nat.{mul-one}
use native.Mathlib.Omega.{arith}
use lib.ListN.{length}
use Rattle.columnar.specs.Types.{Plain, fixed, string, Ty, t_plain, t_view, t_list_view, t_list, t_sparse, t_dense, t_run_end, t_dictionary}
use Rattle.columnar.specs.Array.{Array}
use Rattle.columnar.specs.Plain.{PlainBody}
use Rattle.columnar.specs.Reading.{Body, Column, masks, Source}
use Rattle.columnar.specs.Kids.{Below, node_down}
use Rattle.model.specs.Mutable.{Mutable, freeze_node}
use Rattle.model.specs.Transform.{Destination, freeze_data, into_builder}
use Rattle.model.proofs.Law.{BitsFor, FineNode}
use Rattle.model.proofs.Nodes.{FineOf}
use Rattle.walk.specs.State.{word, end_of, keeps_of, rows, bytes}
use Rattle.refinement.specs.walk_is_model.Memory.{Memory}
use Rattle.refinement.specs.walk_is_model.Holds.{child_of, in_plan, Worded, HoldsBits, HoldsPlain, Holds}
use Rattle.refinement.proofs.walk_is_model.Frame.{field_of, worded_span}
use Rattle.refinement.specs.walk_is_model.Lent.{LentNode, LentPlain}
use Rattle.refinement.specs.orders.Order.{Lent, join_of}
use Rattle.refinement.proofs.orders.Cover.{Laid}
use Rattle.anew.specs.Stood.{BitsOf, StoodNode, Stored, StoodPlain, BuffersNamed, StoodValues, in_parts, kept, StoodData, Stood}

bits_of : (m : Bool) (o : Option (List Bool)) (n : ℕ) → BitsFor m o n → BitsOf m o n
bits_of m none n h = tt
bits_of true (some l) n h = h
bits_of false (some l) n h = h

module _ (x : Lent) (buffers counters : List ℕ) (μ : Memory) where
  abbrev plan : List ℕ
  plan = x.plan

  -- a node, by its own facts and those of its body
  held_node_lem : {P D : Type 0} (i : ℕ) (m : Bool) (freeze : D → P) (d : Mutable D) (inner : ℕ → P → Type 0) → rows counters i ≡ d.len → BitsFor m d.bits d.len → HoldsBits plan i m d.bits μ
      → inner d.len (freeze d.«data») → StoodNode x buffers counters μ i m inner (freeze_node m freeze d)
  held_node_lem i m freeze d inner r b h p =
      record { rows_are = r; from_zero = refl; bits_are = record { bits = d.bits; long = bits_of m d.bits d.len b; held = h; valid_is = refl }; body_is = p }

  stored : (i b m w : ℕ) (s : List ℕ) → μ.at i b ≡ s → length s ≡ m * w → Stored x buffers counters μ i b m w s
  stored i b m w s e l = record { bytes_are = e; long = l }

  -- entries of one byte
  single : (i b m : ℕ) (s : List ℕ) → μ.at i b ≡ s → length s ≡ m → Stored x buffers counters μ i b m 1 s
  single i b m s e l = stored i b m 1 s e (l ∙ sym (mul-one m))

  plain_data : (p : Plain) (i l : ℕ) (v : ℕ → Bool) (ss : ℕ → PlainBody p) (b : PlainBody p) → FineOf (t_plain p) 1 ss v b l → HoldsPlain plan p i b counters μ → StoodPlain x buffers counters μ p i l b
  plain_data (fixed k) i l v ss b f h = stored i 1 l _ b h f
  plain_data (string w) i l v ss b f h = (stored i 1 (suc l) w b.offsets h.0 f.offsets_are, single i 2 (bytes counters i) b.chars h.1 (sym h.2))

  -- A PLAIN NODE that orders have filled
  pub held_plain_lem : (p : Plain) (i : ℕ) (ss : ℕ → Array (PlainBody p)) (d : Mutable (PlainBody p)) → FineNode true (FineOf (t_plain p) 1 (λ j. (ss j).body)) 1 ss d → Holds plan (t_plain p) i d counters μ
      → StoodNode x buffers counters μ i true (StoodPlain x buffers counters μ p i) (freeze_node true (λ b. b) d)
  held_plain_lem p i ss d f h =
      held_node_lem i true (λ b. b) d (StoodPlain x buffers counters μ p i) h.rows_are f.bits_are h.bits_are (plain_data p i d.len _ (λ j. (ss j).body) d.«data» f.data_fine h.data_are)

  -- .. as the values of a dictionary in parts, whose keys are node i
  pub held_values : (p : Plain) (i : ℕ) (ss : ℕ → Array (PlainBody p)) (d : Mutable (PlainBody p)) → word plan i 7 ≡ 1 → FineNode true (FineOf (t_plain p) 1 (λ j. (ss j).body)) 1 ss d
      → Holds plan (t_plain p) (suc i) d counters μ → StoodValues x buffers counters μ p i (freeze_node true (λ b. b) d)
  held_values p i ss d e f h = in_parts e (held_plain_lem p (suc i) ss d f h)

  -- run ends keep no nulls
  held_ends : (i w : ℕ) (d : Mutable (List ℕ)) → keeps_of plan i ≡ 0 → d.bits ≡ none → rows counters i ≡ d.len → μ.at i 1 ≡ d.«data» → length d.«data» ≡ d.len * w
      → StoodNode x buffers counters μ i true (λ m s. Stored x buffers counters μ i 1 m w s) (freeze_node true (λ b. b) d)
  held_ends i w d k e r a l =
      held_node_lem i true (λ b. b) d (λ m s. Stored x buffers counters μ i 1 m w s) r (subst (λ b. BitsFor true b d.len) (sym e) tt) (subst (λ b. HoldsBits plan i true b μ) (sym e) k) (stored i 1 d.len w d.«data» a l)

  -- what the column's tables name, from node i on: the data buffers of views, and the values of dictionaries, which are kept
  abbrev pub NamedBelow : (t : Ty) → ℕ → Body t → Type 0
  NamedBelow t i b =
      Below {X = λ t. ℕ × Body t} (node_down (in_plan plan)) (λ y. BuffersNamed x buffers counters μ y.0 y.1.buffers)
      (λ n p y. (word plan y.0 7 ≡ 0) × LentNode (join_of x 0) (suc y.0) (LentPlain (join_of x 0) p (suc y.0)) y.1.values) t (i, b)

  module _ (laid : Laid plan) where
    -- A NODE OF ANY TYPE that orders on one source have filled, its dictionaries kept
    pub held_stands : (k : ℕ) (t : Ty) (i : ℕ) (ss : ℕ → Column t) (d : Destination t) → Worded plan k t i → end_of plan i ≤ end_of plan 0 → FineNode (masks t) (FineOf t 1 (λ j. (ss j).body)) 1 ss d
        → Holds plan t i d counters μ → NamedBelow t i (ss 0).body → ((j : ℕ) → j < 1 → Source t (ss j)) → Stood x buffers counters μ t i (into_builder t 1 ss d)
    held_stands (suc k) (t_plain p) i ss d w l f h st ob = held_plain_lem p i ss d f h
    held_stands (suc k) t_view i ss d w l f h st ob =
        held_node_lem i true (freeze_data t_view 1 (λ j. (ss j).body)) d (StoodData x buffers counters μ t_view i) h.rows_are f.bits_are h.bits_are
        (stored i 1 d.len 16 d.«data» h.data_are f.data_fine.views_are, st)
    held_stands (suc k) (t_list_view v t) i ss d w l f h st ob =
        let z : end_of plan i ≡ end_of plan (suc i) = w.1 in
        held_node_lem i true (freeze_data (t_list_view v t) 1 (λ j. (ss j).body)) d (StoodData x buffers counters μ (t_list_view v t) i) h.rows_are f.bits_are h.bits_are (
          stored i 1 d.len v d.«data».buffer1 h.data_are.0 f.data_fine.offsets_are,
          stored i 2 d.len v d.«data».buffer2 h.data_are.1 f.data_fine.sizes_are,
          held_stands k t (suc i) (λ j. (ss j).body.child) d.«data».child w.4 (omega arith) f.data_fine.child_fine h.data_are.2 st (λ j q. (ob j q).slots.child_rule),
        )
    held_stands (suc k) (t_list v t) i ss d w l f h st ob =
        let z : end_of plan i ≡ end_of plan (suc i) = w.1 in
        held_node_lem i true (freeze_data (t_list v t) 1 (λ j. (ss j).body)) d (StoodData x buffers counters μ (t_list v t) i) h.rows_are f.bits_are h.bits_are (
          stored i 1 (suc d.len) v d.«data».buffer1 h.data_are.0 f.data_fine.offsets_fine.offsets_are,
          held_stands k t (suc i) (λ j. (ss j).body.child) d.«data».child w.4 (omega arith) f.data_fine.child_fine h.data_are.1 st (λ j q. (ob j q).slots.child_rule),
        )
    held_stands (suc k) (t_sparse ids nullable g) i ss d w l f h st ob =
        held_node_lem i false (freeze_data (t_sparse ids nullable g) 1 (λ j. (ss j).body)) d (StoodData x buffers counters μ (t_sparse ids nullable g) i) h.rows_are f.bits_are h.bits_are (
          single i 1 d.len d.«data».buffer1 h.data_are.0 f.data_fine.ids_are,
          λ e q. let y = field_of plan (λ z. Worded plan k (g z)) nullable (end_of plan i) ids (suc i) 32 e w.4 (omega (arith, w.2)) q in
              held_stands k (g e) (child_of plan i e) (λ j. (ss j).body.children e) (d.«data».children e) y.is_kid (omega (arith, y.ends)) (f.data_fine.kids_fine e q) (h.data_are.1 e q) (st e q) (λ j p. (ob j p).slots.child_rule e q),
        )
    held_stands (suc k) (t_dense ids nullable g) i ss d w l f h st ob =
        held_node_lem i false (freeze_data (t_dense ids nullable g) 1 (λ j. (ss j).body)) d (StoodData x buffers counters μ (t_dense ids nullable g) i) h.rows_are f.bits_are h.bits_are (
          single i 1 d.len d.«data».buffer1 h.data_are.0 f.data_fine.ids_are,
          stored i 2 d.len 4 d.«data».buffer2 h.data_are.1 f.data_fine.positions_are,
          λ e q. let y = field_of plan (λ z. Worded plan k (g z)) nullable (end_of plan i) ids (suc i) 32 e w.4 (omega (arith, w.2)) q in
              held_stands k (g e) (child_of plan i e) (λ j. (ss j).body.children e) (d.«data».children e) y.is_kid (omega (arith, y.ends)) (f.data_fine.kids_fine e q) (h.data_are.2 e q) (st e q) (λ j p. (ob j p).slots.child_rule e q),
        )
    held_stands (suc k) (t_run_end v t) i ss d w l f h st ob =
        let z : end_of plan i ≡ end_of plan (suc (suc i)) = w.1 in
        let s = worded_span plan k t (suc (suc i)) w.4 in
        let e = laid.run_ends_lem i (omega arith) w.2 in
        held_node_lem i false (freeze_data (t_run_end v t) 1 (λ j. (ss j).body)) d (StoodData x buffers counters μ (t_run_end v t) i) h.rows_are f.bits_are h.bits_are (
          held_ends (suc i) v d.«data».ends e.1 f.data_fine.no_bits h.data_are.0 h.data_are.1 f.data_fine.ends_are,
          held_stands k t (suc (suc i)) (λ j. (ss j).body.values) d.«data».values w.4 (omega arith) f.data_fine.values_fine h.data_are.2 st (λ j q. (ob j q).slots.child_rule),
        )
    held_stands (suc k) (t_dictionary q p) i ss d w l f h st ob =
        held_node_lem i true (freeze_data (t_dictionary q p) 1 (λ j. (ss j).body)) d (StoodData x buffers counters μ (t_dictionary q p) i) h.rows_are f.bits_are h.bits_are (
          stored i 1 d.len _ d.«data» h.data_are f.data_fine.keys_are,
          kept st.0 (ss 0).body.values st.1 (ob 0 (omega arith)).slots.child_rule refl,
        )
    held_stands zero t i ss d w l f h st ob = elim w [ ]
