-- What finishing is given of a column that stands: the plan's words for its type, and counters, memory and room that hold it.
-- Assumes nothing.
use mathlib.Core.Path.{◌≡◌, refl, ap, sym, subst, ◌∙◌}
use mathlib.Core.Bool.{Bool, true, false}
use mathlib.Core.List.{List, Memᴰ}
use Prim.Native.Nat.{ℕ, zero, suc, ◌≤◌, ◌<◌}
use native.Mathlib.Decide.{dec_lt}
use native.Mathlib.Omega.{arith}
use lib.ListN.{length}
use Rattle.columnar.specs.Types.{Plain, fixed, string, Ty, t_plain, t_view, t_list_view, t_list, t_sparse, t_dense, t_run_end, t_dictionary}
use Rattle.columnar.specs.Formed.{Formed, Ids}
use Rattle.columnar.specs.Array.{Array}
use Rattle.columnar.specs.Plain.{PlainBody}
use Rattle.columnar.specs.Reading.{Body, Column}
use Rattle.schema.specs.formats.Code.{is_fixed, is_union}
use Rattle.array_data.specs.Typed.{Tree, node_of, Is, MeansPlain, MeansEnds, Means}
use Rattle.walk.specs.State.{code_of, dictionary_of, end_of, bytes_of}
use Rattle.refinement.specs.walk_is_model.Memory.{Memory}
use Rattle.refinement.specs.walk_is_model.Holds.{child_of, Fields, WordedPlain, Worded}
use Rattle.refinement.proofs.walk_is_model.Frame.{field_of, worded_span}
use Rattle.refinement.specs.log_in_room.Reach.{Typed, typed, Free}
use Rattle.refinement.specs.log_in_room.Room.{Placed, Lies}
use Rattle.refinement.proofs.log_in_room.Closure.{closed_free}
use Rattle.refinement.proofs.log_in_room.Found.{between_both, between_wide, child_first, child_with_lem}
use Rattle.plan.specs.parts.Parts.{nodes_of, parts_within, parts_hold, Used}
use Rattle.refinement.specs.orders.Order.{Lent, source_count}
use Rattle.refinement.proofs.orders.Cover.{Laid, within}
use Rattle.anew.specs.Stood.{StoodNode, Stored, StoodValues, Stood}
use Rattle.array_data.proofs.Names.{union_kind}

-- the plan's words stand for a type, and for one source
pub record TypePlan (plan : List ℕ) (tree : Tree) (t : Ty) : Type 0 where
  pub one_source : source_count plan ≡ 1
  pub worded : Worded plan 8 t 0
  pub formed : Formed t
  pub laid : Laid plan
  pub all_nodes_lem : nodes_of plan ≡ end_of plan 0
  pub means : Means tree t 0
  pub kids : (i : ℕ) (b : Bool) (ids : List ℕ) → Is tree i (union_kind b ids) → (e : ℕ) → Memᴰ e ids → child_of plan i e ≡ node_of tree i ids e
  pub plain_words : (p : Plain) (j : ℕ) → MeansPlain tree p j → WordedPlain plan p j

-- ALL THAT FINISHING IS GIVEN
pub record Standing (x : Lent) (buffers : List ℕ) (tree : Tree) (t : Ty) (a : Column t) (counters room : List ℕ) (μ : Memory) : Type 0 where
  pub of_type : TypePlan x.plan tree t
  pub stood : Stood x buffers counters μ t 0 a
  pub long : length counters ≡ 96
  pub lies : Lies x.plan x.parts (Used x.plan) room μ
  pub placed : Placed x.plan x.parts (Used x.plan) (length room)
  pub within : parts_within x.plan x.parts (length room) ≡ true
  pub enough : parts_hold x.plan counters x.parts ≡ true

-- ---- nodes of the type

module _ (plan : List ℕ) (tree : Tree) (root : Ty) (of_type : TypePlan plan tree root) where
  -- a node that a walk comes to
  abbrev pub Here : ℕ → Type 0
  Here i = Typed plan 0 (end_of plan 0) i × Free plan i

  pub in_table : (k : ℕ) (t : Ty) (i : ℕ) → Worded plan k t i → end_of plan i ≤ end_of plan 0 → i < nodes_of plan
  in_table k t i w l = omega (arith, worded_span plan k t i w, of_type.all_nodes_lem)

  pub union_free : (k : ℕ) (g : ℕ → Ty) (nullable : ℕ → Bool) (ids : List ℕ) (i : ℕ) → length ids ≤ 16 → Fields plan (λ z. Worded plan k (g z)) nullable (end_of plan i) ids (suc i)
      → is_union (code_of plan i) ≡ true → Here i → (v : ℕ) → Memᴰ v ids → Free plan (child_of plan i v)
  union_free k g nullable ids i few f u here v q =
      let y = field_of plan (λ z. Worded plan k (g z)) nullable (end_of plan i) ids (suc i) 32 v f (omega arith) q in
      let small : child_of plan i v < 32 = omega (arith, y.span, y.ends) in
      ((closed_free plan 0 (end_of plan 0) of_type.laid.tabled).child i (child_of plan i v) here u (child_with_lem plan i v 32 (suc i) (child_first plan i) small)).1

-- ---- what holds of each node of the type, of run ends and of dictionaries' values holds of all nodes

module _ (x : Lent) (buffers : List ℕ) (tree : Tree) (root : Ty) (column : Column root) (counters : List ℕ) (μ : Memory) (of_type : TypePlan x.plan tree root)
    (stood : Stood x buffers counters μ root 0 column) (P : ℕ → Type 0)
    (own : (k : ℕ) (t : Ty) (i : ℕ) (a : Column t) → Worded x.plan k t i → i < nodes_of x.plan → Free x.plan i → Means tree t i → Stood x buffers counters μ t i a → P i)
    (ends : (w i : ℕ) (a : Array (List ℕ)) → i < nodes_of x.plan → Free x.plan i → is_fixed (code_of x.plan i) ≡ true → bytes_of x.plan i ≡ w → MeansEnds tree w i
    → StoodNode x buffers counters μ i true (λ m s. Stored x buffers counters μ i 1 m w s) a → P i)
    (values : (p : Plain) (i : ℕ) (a : Array (PlainBody p)) → suc i < nodes_of x.plan → (dictionary_of x.plan i ≡ 0 → ⊥) → MeansPlain tree p (suc i) → StoodValues x buffers counters μ p i a → P (suc i)) where
  abbrev plan : List ℕ
  plan = x.plan

  abbrev Stands : (t : Ty) → ℕ → Column t → Type 0
  Stands t i = Stood x buffers counters μ t i

  -- every node from node i on
  abbrev From : ℕ → Type 0
  From i = (j : ℕ) → i ≤ j → j < end_of plan i → P j

  with_own : (i : ℕ) → P i → ((j : ℕ) → i < j → j < end_of plan i → P j) → From i
  with_own i h f j p q = go (dec_lt i j)
    where
      go : Dec (i < j) → P j
      go (yes y) = f j y q
      go (no y) = let z : i ≡ j = omega arith in subst P z h

  one_node : (i : ℕ) → end_of plan i ≡ suc i → P i → From i
  one_node i e h = with_own i h (λ j p q. absurd (omega arith))

  fields_from : (k : ℕ) (g : ℕ → Ty) (nullable : ℕ → Bool) (ids : List ℕ) (i : ℕ) → Ids ids → length ids ≤ 16 → Fields plan (λ z. Worded plan k (g z)) nullable (end_of plan i) ids (suc i) → P i
      → ((e : ℕ) → Memᴰ e ids → From (child_of plan i e)) → From i
  fields_from k g nullable ids i ds few f h kid =
      with_own i h
      (λ j p q. let r = within plan (λ z. Worded plan k (g z)) nullable (end_of plan i) ids (suc i) 32 f ds (omega arith) j (omega arith) q in
      kid r.id r.member j r.from r.to)

  -- node i itself
  here : (k : ℕ) (t : Ty) (i : ℕ) (a : Column t) → Worded plan k t i → Free plan i → end_of plan i ≤ end_of plan 0 → Means tree t i → Stands t i a → P i
  here k t i a w o l mn st = own k t i a w (in_table plan tree root of_type k t i w l) o mn st

  from : (k : ℕ) (t : Ty) (i : ℕ) (a : Column t) → Worded plan k t i → Formed t → Free plan i → end_of plan i ≤ end_of plan 0 → Means tree t i → Stands t i a → From i
  from (suc k) (t_plain (fixed n)) i a w fm o l mn st =
      let z = between_both 1 10 (code_of plan i) w.3.0 in
      one_node i (of_type.laid.plain_ends i (omega (arith, w.1)) (omega (arith, z.1)) w.2) (here (suc k) (t_plain (fixed n)) i a w o l mn st)
  from (suc k) (t_plain (string v)) i a w fm o l mn st =
      let z = between_both 11 14 (code_of plan i) w.3.0 in
      one_node i (of_type.laid.plain_ends i (omega (arith, w.1)) (omega (arith, z.1)) w.2) (here (suc k) (t_plain (string v)) i a w o l mn st)
  from (suc k) t_view i a w fm o l mn st = one_node i (of_type.laid.view_ends i (omega (arith, w.1)) w.2) (here (suc k) t_view i a w o l mn st)
  from (suc k) (t_list_view v t) i a w fm o l mn st =
      let z : end_of plan i ≡ end_of plan (suc i) = w.1 in
      let free = ((closed_free plan 0 (end_of plan 0) of_type.laid.tabled).item i (typed (suc k) (t_list_view v t) w (omega arith) l, o) (between_wide 17 18 17 20 (code_of plan i) (omega arith) (omega arith) w.2)).1 in
      let r = from k t (suc i) a.body.child w.4 fm.1 free (omega arith) mn.1 st.body_is.2 in
      with_own i (here (suc k) (t_list_view v t) i a w o l mn st) (λ j p q. r j (omega arith) (omega arith))
  from (suc k) (t_list v t) i a w fm o l mn st =
      let z : end_of plan i ≡ end_of plan (suc i) = w.1 in
      let free = ((closed_free plan 0 (end_of plan 0) of_type.laid.tabled).item i (typed (suc k) (t_list v t) w (omega arith) l, o) (between_wide 19 20 17 20 (code_of plan i) (omega arith) (omega arith) w.2)).1 in
      let r = from k t (suc i) a.body.child w.4 fm.1 free (omega arith) mn.1 st.body_is.1 in
      with_own i (here (suc k) (t_list v t) i a w o l mn st) (λ j p q. r j (omega arith) (omega arith))
  from (suc k) (t_sparse ids nullable g) i a w fm o l mn st =
      let u : is_union (code_of plan i) ≡ true = ap is_union w.1 in
      fields_from k g nullable ids i fm.0 w.2 w.4 (here (suc k) (t_sparse ids nullable g) i a w o l mn st)
      (λ e q. let y = field_of plan (λ z. Worded plan k (g z)) nullable (end_of plan i) ids (suc i) 32 e w.4 (omega (arith, w.2)) q in
      from k (g e) (child_of plan i e) (a.body.children e) y.is_kid (fm.1 e q) (union_free plan tree root of_type k g nullable ids i w.2 w.4 u (typed (suc k) (t_sparse ids nullable g) w (omega arith) l, o) e q)
      (omega (arith, y.ends)) (subst (Means tree (g e)) (sym (of_type.kids i true ids mn.0 e q)) (mn.1 e q).1) (st.body_is.1 e q))
  from (suc k) (t_dense ids nullable g) i a w fm o l mn st =
      let u : is_union (code_of plan i) ≡ true = ap is_union w.1 in
      fields_from k g nullable ids i fm.0 w.2 w.4 (here (suc k) (t_dense ids nullable g) i a w o l mn st)
      (λ e q. let y = field_of plan (λ z. Worded plan k (g z)) nullable (end_of plan i) ids (suc i) 32 e w.4 (omega (arith, w.2)) q in
      from k (g e) (child_of plan i e) (a.body.children e) y.is_kid (fm.1 e q) (union_free plan tree root of_type k g nullable ids i w.2 w.4 u (typed (suc k) (t_dense ids nullable g) w (omega arith) l, o) e q)
      (omega (arith, y.ends)) (subst (Means tree (g e)) (sym (of_type.kids i false ids mn.0 e q)) (mn.1 e q).1) (st.body_is.2 e q))
  from (suc k) (t_run_end v t) i a w fm o l mn st =
      let z : end_of plan i ≡ end_of plan (suc (suc i)) = w.1 in
      let s = worded_span plan k t (suc (suc i)) w.4 in
      let closed = closed_free plan 0 (end_of plan 0) of_type.laid.tabled in
      let at : Here plan tree root of_type i = (typed (suc k) (t_run_end v t) w (omega arith) l, o) in
      let r = from k t (suc (suc i)) a.body.values w.4 fm.1 (closed.values i at w.2).1 (omega arith) mn.2 st.body_is.1 in
      let c = ends v (suc i) a.body.ends (omega (arith, of_type.all_nodes_lem)) (closed.ends i at w.2).1 (of_type.laid.run_ends_lem i (omega arith) w.2).0 w.3 mn.1 st.body_is.0 in
      with_own i (here (suc k) (t_run_end v t) i a w o l mn st) (λ j p q. go j p q r c (dec_lt (suc i) j))
    where
      go : (j : ℕ) → i < j → j < end_of plan i → From (suc (suc i)) → P (suc i) → Dec (suc i < j) → P j
      go j p q r c (yes y) = let z : end_of plan i ≡ end_of plan (suc (suc i)) = w.1 in r j (omega arith) (omega arith)
      go j p q r c (no y) = let z : suc i ≡ j = omega arith in subst P z c
  from (suc k) (t_dictionary n p) i a w fm o l mn st =
      let z = of_type.laid.tabled.keys_end i (omega (arith, w.1)) w.2 in
      let v = values p i a.body.values (omega (arith, of_type.all_nodes_lem)) w.2 mn.1 st.body_is.1 in
      with_own i (here (suc k) (t_dictionary n p) i a w o l mn st) (λ j b c. let e : suc i ≡ j = omega arith in subst P e v)
  from zero t i a w fm o l mn st = elim w [ ]

  -- ALL NODES
  pub every_node : (j : ℕ) → j < nodes_of plan → P j
  every_node j l = from 8 root 0 column of_type.worded of_type.formed tt (omega arith) of_type.means stood j (omega arith) (omega (arith, of_type.all_nodes_lem))
