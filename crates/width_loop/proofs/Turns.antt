-- The turns of the walk: one node, and the loop over them. Assumes nothing.
use mathlib.Core.Path.{◌≡◌, refl, sym, ap, ap₂, subst, ◌∙◌}
use mathlib.Core.Bool.{Bool, true, false, false≢true}
use mathlib.Core.List.{List}
use Prim.Native.Nat.{ℕ, zero, suc, ◌+◌, ◌-◌, ◌<◌}
use native.Mathlib.Nat.{sub-zero}
use native.Mathlib.Numerals.{add-one}
use native.Mathlib.Omega.{arith}
use lib.ListN.{set, replicate}
use Rattle.columnar.specs.Array.{ok}
use Rattle.schema.specs.formats.Code.{is_run_end}
use Rattle.schema.specs.Tree.{code_of}
use Rattle.array_data.specs.Tables.{Tables, length_of, offset_of, valid_of}
use Rattle.array_data.specs.NodeKinds.{fixed_node, kind_at}
use Rattle.array_data.specs.Typed.{Tree, kind_in}
use Rattle.array_data.specs.entries.Entries.{column}
use Rattle.array_data.specs.type_tree.Lent.{tree_of}
use Rattle.walk.specs.State.{add_rows}
use Rattle.walk.specs.Log.{Did, next}
use Rattle.walk.proofs.Laws.{Rest, done_did, next_no, next_ok}
use Rattle.width_walks.specs.target_rules.Target.{ends_at}
use Rattle.width_walks.specs.Convert.{bits_walk}
use Rattle.width_walks.specs.Nodes.{from_in, many_in, range, own_as, settle_as, settle, own_walk, turn, nodes_walk, tree_walk}
use Rattle.width_walks.proofs.Ranges.{settle_is}
use Rattle.width_walks.proofs.From.{ends_same}
use Rattle.width_loop.specs.Here.{Accepted, own_here, settled_here}
use Rattle.width_loop.proofs.Here.{run_kinds, run_below}

-- ---- run ends

-- the node that a run-end node's run ends are
ends_node : (formats schema : List ℕ) (first i : ℕ) → ends_at formats schema first i ≡ true → (j : ℕ) × ((i ≡ suc j) × (is_run_end (code_of formats schema first j) ≡ true))
unfolding ends_at
ends_node formats schema first zero h = absurd (false≢true h)
ends_node formats schema first (suc j) h = (j, (refl, h))

module _ (formats schema lengths places body : List ℕ) (first n target : ℕ) (a : Accepted formats schema lengths places body first n target) (i : ℕ) (l : i < n) where
  ends_kind : ends_at formats schema first i ≡ true → (m : Rattle.columnar.specs.Types.Number) × (kind_at formats schema first i ≡ fixed_node m)
  ends_kind h =
      let q = ends_node formats schema first i h in
      let j : ℕ = q.0 in
      let p : j < n = omega (arith, q.1.0) in
      let k = run_kinds formats schema lengths places body first n target a j p q.1.1 in
      let b = run_below formats schema lengths places body first n target a j p _ k.0 in
      (b.2.0, ap (kind_at formats schema first) q.1.0 ∙ b.2.1)

  module _ (t2 : Tree) (x : Tables) (plan rs : List ℕ) where
    pub ends_settle : {b : Bool} → b ≡ ends_at formats schema first i → b ≡ true → rs ≡ settle (tree_of formats schema first n) t2 x plan i rs
    ends_settle e h = let k = ends_kind (sym e ∙ h) in sym (settle_is (tree_of formats schema first n) t2 x plan i (fixed_node k.0) rs k.1)

-- ---- one node

module _ (formats schema lengths places buffers body plan : List ℕ) (first n target i : ℕ) (rs : List ℕ) where
  abbrev x : Tables
  x = column lengths places buffers body first

  abbrev t : Tree
  t = tree_of formats schema first n

  abbrev t2 : Tree
  t2 = tree_of formats schema target n

  module _ (parts : List ℕ) (write : Bool) (room c : List ℕ) where
    pub turn_ends : {b : Bool} → b ≡ ends_at formats schema first i → b ≡ true → Did plan parts write (turn t t2 x plan i rs c) room 0 c room
    unfolding turn
    turn_ends e h = rw (sym (ends_same formats schema first n i) ∙ sym e ∙ h) (done_did write c room)

    pub turn_own : {b : Bool} {s m g : ℕ} {room1 c1 c2 room2 : List ℕ} → b ≡ ends_at formats schema first i → b ≡ false → s ≡ offset_of x i + from_in rs i → m ≡ many_in rs i
        → Did plan parts write (bits_walk plan i (ok (valid_of x i)) s m c) room 0 c room1 → c1 ≡ add_rows i m c → Did plan parts write (own_here formats schema lengths places buffers body plan first n target i s m c1) room1 g c2 room2
        → Did plan parts write (turn t t2 x plan i rs c) room g c2 room2
    unfolding turn own_walk
    turn_own {b} {s} {m} {g} {room1} {c1} {c2} {room2} e h p q d k o =
        rw (sym (ends_same formats schema first n i) ∙ sym e ∙ h)
        (subst (λ o. Did plan parts write o room g c2 room2) (ap₂ (λ y z. next (bits_walk plan i (ok (valid_of x i)) y z c) (λ c3. own_as t t2 x plan (kind_in t i) (kind_in t2 i) i (ok (valid_of x i)) y z (add_rows i z c3))) p q)
        (next_ok (λ c3. own_as t t2 x plan (kind_in t i) (kind_in t2 i) i (ok (valid_of x i)) s m (add_rows i m c3)) d refl
        (subst (λ z. Did plan parts write (own_as t t2 x plan (kind_in t i) (kind_in t2 i) i (ok (valid_of x i)) s m z) room1 g c2 room2) k o)))

  pub settle_own : {s m : ℕ} {out : List ℕ} → s ≡ offset_of x i + from_in rs i → m ≡ many_in rs i → out ≡ settled_here formats schema lengths places buffers body plan first n target i s m rs → out ≡ settle t t2 x plan i rs
  settle_own p q h = h ∙ ap₂ (λ y z. settle_as t t2 x plan (kind_at formats schema first i) i y z rs) p q ∙ sym (settle_is t t2 x plan i (kind_at formats schema first i) rs refl)

-- ---- the loop

module _ (t t2 : Tree) (x : Tables) (plan parts : List ℕ) (write : Bool) where
  pub nodes_none : (m i : ℕ) (rs c room : List ℕ) → m ≡ 0 → Did plan parts write (nodes_walk t t2 x plan m i rs c) room 0 c room
  unfolding nodes_walk
  nodes_none m i rs c room e = rw e (done_did write c room)

  pub nodes_stop : (m m' i : ℕ) (rs c room : List ℕ) {g : ℕ} {c1 room1 : List ℕ} → m ≡ suc m' → Did plan parts write (turn t t2 x plan i rs c) room g c1 room1 → (g ≡ 0 → ⊥) → Did plan parts write (nodes_walk t t2 x plan m i rs c) room g c1 room1
  unfolding nodes_walk
  nodes_stop m m' i rs c room e d h = rw e (next_no (λ c2. nodes_walk t t2 x plan m' (suc i) (settle t t2 x plan i rs) c2) d h)

  pub nodes_more : (m m' i j : ℕ) (rs rs2 c room : List ℕ) {g r : ℕ} {c1 c2 room1 room2 : List ℕ} → m ≡ suc m' → j ≡ i + 1 → Did plan parts write (turn t t2 x plan i rs c) room g c1 room1 → g ≡ 0 → rs2 ≡ settle t t2 x plan i rs
      → Did plan parts write (nodes_walk t t2 x plan m' j rs2 c1) room1 r c2 room2 → Did plan parts write (nodes_walk t t2 x plan m i rs c) room r c2 room2
  unfolding nodes_walk
  nodes_more m m' i j rs rs2 c room {g} {r} {c1} {c2} {room1} {room2} e f d h k o =
      rw e
      (next_ok (λ c2. nodes_walk t t2 x plan m' (suc i) (settle t t2 x plan i rs) c2) d h
      (subst (λ z. Did plan parts write (nodes_walk t t2 x plan m' (suc i) z c1) room1 r c2 room2) k (subst (λ z. Did plan parts write (nodes_walk t t2 x plan m' z rs2 c1) room1 r c2 room2) (f ∙ add-one i) o)))

  -- before the first node
  pub first_rest : (rs c room : List ℕ) {l : ℕ} → l ≡ length_of x 0 → rs ≡ set (replicate 64 0) 1 l → Rest plan parts write (tree_walk t t2 x plan c) room (nodes_walk t t2 x plan (t.count - 0) 0 rs c) room
  unfolding tree_walk
  first_rest rs c room {l} e f g c2 room2 d =
      subst (λ z. Did plan parts write (nodes_walk t t2 x plan t.count 0 (range 0 0 z (replicate 64 0)) c) room g c2 room2) e
      (subst (λ z. Did plan parts write (nodes_walk t t2 x plan t.count 0 z c) room g c2 room2) f
      (subst (λ z. Did plan parts write (nodes_walk t t2 x plan z 0 rs c) room g c2 room2) (sub-zero t.count) d))
