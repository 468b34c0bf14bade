-- The other way round: where each part holds what the counters need, the parts hold the model's destination; and both tests are one.
-- Assumes nothing.
use mathlib.Core.Path.{◌≡◌, refl, sym, ap, ◌∙◌}
use mathlib.Core.Bool.{Bool, true, false}
use mathlib.Core.List.{List, Memᴰ}
use Prim.Native.Nat.{ℕ, zero, suc, ◌≤◌, ◌<◌}
use native.Mathlib.Omega.{arith}
use lib.ListN.{length}
use lib.Dec.{eqb}
use borrow.Author.Tests.{le-leb, eqb-true, eqb-false}
use Rattle.columnar.specs.Types.{Ty, t_plain, t_view, t_list_view, t_list, t_sparse, t_dense, t_run_end, t_dictionary}
use Rattle.columnar.specs.Formed.{Formed}
use Rattle.columnar.specs.Reading.{Column, masks}
use Rattle.columnar.specs.Test.{every, only_if}
use Rattle.schema.specs.formats.Code.{is_union}
use Rattle.walk.specs.State.{code_of, dictionary_of, end_of, rows, bytes}
use Rattle.model.specs.Transform.{Destination}
use Rattle.refinement.specs.walk_is_model.Memory.{Memory}
use Rattle.refinement.specs.walk_is_model.Holds.{child_of, Fields, Worded, Holds}
use Rattle.refinement.proofs.walk_is_model.Frame.{field_of, worded_span}
use Rattle.refinement.specs.log_in_room.Reach.{Typed, typed, Free}
use Rattle.refinement.proofs.log_in_room.Found.{between_wide, child_first, child_with_lem}
use Rattle.refinement.proofs.log_in_room.Closure.{closed_free}
use Rattle.plan.specs.parts.Parts.{nodes_of, has_part, needed, size_of, part_holds, parts_hold, Used}
use Rattle.plan.proofs.parts.Placed.{used_holds}
use Rattle.refinement.specs.orders.Fits.{buffers_of, fits_below, fits}
use Rattle.refinement.proofs.orders.Buffers.{fixed_one, needed_fixed, masks_code, buffer_part}
use Rattle.refinement.proofs.orders.Own.{own_enough, own_of, times}
use Rattle.refinement.proofs.orders.Cover.{Laid, FineAt, each_all, covered}

pub every_all : (p : ℕ → Bool) (n : ℕ) → ((i : ℕ) → i < n → p i ≡ true) → every p n ≡ true
every_all p zero h = refl
every_all p (suc n) h = rw (every_all p n (λ i l. h i (omega arith)), h n (omega arith))

pub only_if_lem : (a : Bool) {b : Bool} → (a ≡ true → b ≡ true) → only_if a b ≡ true
only_if_lem true h = h refl
only_if_lem false h = refl

-- a node is a dictionary's values or not
pub free_or : (plan : List ℕ) (i : ℕ) → Dec (Free plan i)
free_or plan zero = yes tt
free_or plan (suc i) = go (eqb (dictionary_of plan i) 0) refl
  where
    go : (b : Bool) → eqb (dictionary_of plan i) 0 ≡ b → Dec (dictionary_of plan i ≡ 0)
    go true e = yes (eqb-true (dictionary_of plan i) 0 e)
    go false e = no (eqb-false (dictionary_of plan i) 0 e)

module _ (plan parts : List ℕ) (laid : Laid plan) (c : List ℕ) (μ : Memory) (m : ℕ) where
  -- a node that a walk comes to
  abbrev Here : ℕ → Type 0
  Here j = Typed plan 0 (end_of plan 0) j × Free plan j

  -- the parts of the nodes from node i on hold what is needed
  abbrev Enough : ℕ → Type 0
  Enough i = (j b : ℕ) → i ≤ j → j < end_of plan i → Free plan j → has_part plan j b ≡ true → needed plan c j b ≤ size_of plan parts j b

  less : {i k : ℕ} → i ≤ k → end_of plan k ≤ end_of plan i → Enough i → Enough k
  less p q f j b x y = f j b (omega arith) (omega arith)

  node_enough : (k : ℕ) (t : Ty) (i : ℕ) (ss : ℕ → Column t) (d : Destination t) → Worded plan k t i → Free plan i → FineAt plan parts laid c μ m t ss d → Holds plan t i d c μ → Enough i
      → fits_below plan parts t i d.«data» ≡ true → fits plan parts t i d ≡ true
  node_enough k t i ss d w free f h e below =
      let own = own_of plan parts c μ k t i m (λ j. (ss j).body) _ d.«data» d.len w h.rows_are f.data_fine h.data_are in
      let r =
      own_enough plan parts c μ i (buffers_of t d.«data») own free (masks t) (masks_code plan k t i w) d.bits d.len h.rows_are h.bits_are
      (λ b g. e i b (omega arith) (worded_span plan k t i w) free g) in
      rw (r.0, r.1, below)

  union_here : (k : ℕ) (g : ℕ → Ty) (nullable : ℕ → Bool) (ids : List ℕ) (i : ℕ) → length ids ≤ 16 → Fields plan (λ z. Worded plan k (g z)) nullable (end_of plan i) ids (suc i)
      → is_union (code_of plan i) ≡ true → Here i → (v : ℕ) → Memᴰ v ids → Here (child_of plan i v)
  union_here k g nullable ids i few f u here v q =
      let x = field_of plan (λ z. Worded plan k (g z)) nullable (end_of plan i) ids (suc i) 32 v f (omega arith) q in
      let small : child_of plan i v < 32 = omega (arith, x.span, x.ends) in
      (closed_free plan 0 (end_of plan 0) laid.tabled).child i (child_of plan i v) here u (child_with_lem plan i v 32 (suc i) (child_first plan i) small)

  pub enough : (k : ℕ) (t : Ty) (i : ℕ) (ss : ℕ → Column t) (d : Destination t) → Worded plan k t i → Free plan i → end_of plan i ≤ end_of plan 0 → FineAt plan parts laid c μ m t ss d
      → Holds plan t i d c μ → Enough i → fits plan parts t i d ≡ true
  enough (suc k) (t_plain p) i ss d w o l f h e = node_enough (suc k) (t_plain p) i ss d w o f h e refl
  enough (suc k) t_view i ss d w o l f h e = node_enough (suc k) t_view i ss d w o f h e refl
  enough (suc k) (t_list_view v t) i ss d w o l f h e =
      let z : end_of plan i ≡ end_of plan (suc i) = w.1 in
      let here = (closed_free plan 0 (end_of plan 0) laid.tabled).item i (typed (suc k) (t_list_view v t) w (omega arith) l, o) (between_wide 17 18 17 20 (code_of plan i) (omega arith) (omega arith) w.2) in
      node_enough (suc k) (t_list_view v t) i ss d w o f h e
      (enough k t (suc i) (λ j. (ss j).body.child) d.«data».child w.4 here.1 (omega arith) f.data_fine.child_fine h.data_are.2 (less (omega arith) (omega arith) e))
  enough (suc k) (t_list v t) i ss d w o l f h e =
      let z : end_of plan i ≡ end_of plan (suc i) = w.1 in
      let here = (closed_free plan 0 (end_of plan 0) laid.tabled).item i (typed (suc k) (t_list v t) w (omega arith) l, o) (between_wide 19 20 17 20 (code_of plan i) (omega arith) (omega arith) w.2) in
      node_enough (suc k) (t_list v t) i ss d w o f h e
      (enough k t (suc i) (λ j. (ss j).body.child) d.«data».child w.4 here.1 (omega arith) f.data_fine.child_fine h.data_are.1 (less (omega arith) (omega arith) e))
  enough (suc k) (t_sparse ids nullable g) i ss d w o l f h e =
      let u : is_union (code_of plan i) ≡ true = ap is_union w.1 in
      node_enough (suc k) (t_sparse ids nullable g) i ss d w o f h e
      (each_all _ ids
      (λ v q. let x = field_of plan (λ z. Worded plan k (g z)) nullable (end_of plan i) ids (suc i) 32 v w.4 (omega (arith, w.2)) q in
      let here = union_here k g nullable ids i w.2 w.4 u (typed (suc k) (t_sparse ids nullable g) w (omega arith) l, o) v q in
      enough k (g v) (child_of plan i v) (λ j. (ss j).body.children v) (d.«data».children v) x.is_kid here.1 (omega (arith, x.ends)) (f.data_fine.kids_fine v q) (h.data_are.1 v q)
      (less (omega (arith, x.behind)) x.ends e)))
  enough (suc k) (t_dense ids nullable g) i ss d w o l f h e =
      let u : is_union (code_of plan i) ≡ true = ap is_union w.1 in
      node_enough (suc k) (t_dense ids nullable g) i ss d w o f h e
      (each_all _ ids
      (λ v q. let x = field_of plan (λ z. Worded plan k (g z)) nullable (end_of plan i) ids (suc i) 32 v w.4 (omega (arith, w.2)) q in
      let here = union_here k g nullable ids i w.2 w.4 u (typed (suc k) (t_dense ids nullable g) w (omega arith) l, o) v q in
      enough k (g v) (child_of plan i v) (λ j. (ss j).body.children v) (d.«data».children v) x.is_kid here.1 (omega (arith, x.ends)) (f.data_fine.kids_fine v q) (h.data_are.2 v q)
      (less (omega (arith, x.behind)) x.ends e)))
  enough (suc k) (t_run_end v t) i ss d w o l f h e =
      let z : end_of plan i ≡ end_of plan (suc (suc i)) = w.1 in
      let s = worded_span plan k t (suc (suc i)) w.4 in
      let closed = closed_free plan 0 (end_of plan 0) laid.tabled in
      let root : Here i = (typed (suc k) (t_run_end v t) w (omega arith) l, o) in
      let here = closed.values i root w.2 in
      let at = closed.ends i root w.2 in
      let r = laid.run_ends_lem i (omega arith) w.2 in
      let one = fixed_one (code_of plan (suc i)) r.0 in
      let n = e (suc i) 1 (omega arith) (omega arith) at.1 (buffer_part plan (suc i) 0 at.1 (omega arith)) in
      let q : needed plan c (suc i) 1 ≡ length d.«data».ends.«data» =
      needed_fixed (code_of plan (suc i)) (rows c (suc i)) (bytes c (suc i)) r.0 ∙ times plan parts c μ h.data_are.0 w.3 ∙ sym f.data_fine.ends_are in
      let y : length d.«data».ends.«data» ≤ size_of plan parts (suc i) 1 = rw q at n in
      node_enough (suc k) (t_run_end v t) i ss d w o f h e
      (rw (le-leb _ _ y)
      (enough k t (suc (suc i)) (λ j. (ss j).body.values) d.«data».values w.4 here.1 (omega arith) f.data_fine.values_fine h.data_are.2 (less (omega arith) (omega arith) e)))
  enough (suc k) (t_dictionary n p) i ss d w o l f h e = node_enough (suc k) (t_dictionary n p) i ss d w o f h e refl
  enough zero t i ss d w o l f h e = elim w [ ]

  -- ---- GROUND 13 IS THE MODEL'S, where the parts of dictionaries' values hold what they need

  module _ (all : nodes_of plan ≡ end_of plan 0) (k : ℕ) (t : Ty) (ss : ℕ → Column t) (d : Destination t) (w : Worded plan k t 0) (o : Formed t) (f : FineAt plan parts laid c μ m t ss d)
      (h : Holds plan t 0 d c μ) (rest : (j b : ℕ) → Used plan j b → (Free plan j → ⊥) → needed plan c j b ≤ size_of plan parts j b) where
    holds_by : fits plan parts t 0 d ≡ true → parts_hold plan c parts ≡ true
    unfolding parts_hold part_holds
    holds_by e =
        every_all (λ i. every (λ b. part_holds plan c parts i b) 3) (nodes_of plan)
        (λ i l. every_all (λ b. part_holds plan c parts i b) 3 (λ b q. only_if_lem (has_part plan i b) (λ g. le-leb _ _ (go i b (record { node = l; part = g }) (free_or plan i)))))
      where
        go : (i b : ℕ) → Used plan i b → Dec (Free plan i) → needed plan c i b ≤ size_of plan parts i b
        go i b u (yes y) = (covered plan parts laid c μ m k t 0 ss d w o (omega arith) f h e i b (omega arith) (omega (arith, u.node)) y u.part).needs
        go i b u (no y) = rest i b u y

    fits_by : parts_hold plan c parts ≡ true → fits plan parts t 0 d ≡ true
    fits_by e = enough k t 0 ss d w tt (omega arith) f h (λ j b p q free has. used_holds plan c parts e j b (record { node = omega arith; part = has }))

    pub same_test : parts_hold plan c parts ≡ fits plan parts t 0 d
    same_test = go (parts_hold plan c parts) refl (fits plan parts t 0 d) refl
      where
        go : (a : Bool) → parts_hold plan c parts ≡ a → (b : Bool) → fits plan parts t 0 d ≡ b → parts_hold plan c parts ≡ fits plan parts t 0 d
        go true p b q = p ∙ sym (fits_by p)
        go false p true q = holds_by q ∙ sym q
        go false p false q = p ∙ sym q
