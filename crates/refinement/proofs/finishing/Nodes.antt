-- What holds of each node of the type, of run ends and of dictionaries' values holds of all nodes. Assumes nothing.
use mathlib.Core.Path.{◌≡◌, ap, subst, sym}
use mathlib.Core.Bool.{Bool, true, false}
use mathlib.Core.List.{List, Memᴰ}
use Prim.Native.Nat.{ℕ, zero, suc, ◌≤◌, ◌<◌}
use native.Mathlib.Decide.{dec_lt}
use native.Mathlib.Omega.{arith}
use lib.ListN.{length}
use Rattle.columnar.specs.Types.{Plain, fixed, string, Ty, t_plain, t_view, t_list_view, t_list, t_sparse, t_dense, t_run_end, t_dictionary}
use Rattle.columnar.specs.Formed.{Formed, Ids}
use Rattle.columnar.specs.Array.{Obeys}
use Rattle.columnar.specs.Plain.{PlainBody, PlainRule}
use Rattle.columnar.specs.Dictionary.{Dictionary}
use Rattle.columnar.specs.Reading.{Body, Column, Source}
use Rattle.schema.specs.formats.Code.{is_fixed, is_union}
use Rattle.array_data.specs.Typed.{Tree, MeansPlain, MeansEnds, Means}
use Rattle.model.specs.Transform.{Destination}
use Rattle.walk.specs.State.{code_of, dictionary_of, end_of}
use Rattle.refinement.specs.walk_is_model.Memory.{Memory}
use Rattle.refinement.specs.walk_is_model.Holds.{child_of, Fields, Worded}
use Rattle.refinement.proofs.walk_is_model.Frame.{field_of, worded_span}
use Rattle.refinement.specs.log_in_room.Reach.{typed, Free}
use Rattle.refinement.proofs.log_in_room.Closure.{closed_free}
use Rattle.refinement.proofs.log_in_room.Found.{between_both, between_wide}
use Rattle.plan.specs.parts.Parts.{nodes_of}
use Rattle.refinement.specs.orders.Order.{Lent}
use Rattle.refinement.proofs.orders.Cover.{within}
use Rattle.refinement.proofs.finishing.Given.{Valued, Stands, Given, stands}
use Rattle.refinement.proofs.finishing.Finished.{Here, in_table, union_free}

module _ (x : Lent) (buffers : List ℕ) (tree : Tree) (root : Ty) (m : ℕ) (columns : ℕ → Column root) (dest : Destination root) (counters room : List ℕ) (μ : Memory)
    (given : Given x buffers tree root m columns dest counters room μ) (P : ℕ → Type 0)
    (own : (k : ℕ) (t : Ty) (i : ℕ) (ss : ℕ → Body t) → Worded x.plan k t i → i < nodes_of x.plan → Free x.plan i → Means tree t i → Stands x buffers m counters μ t i ss → P i)
    (ends : (w i : ℕ) → i < nodes_of x.plan → Free x.plan i → is_fixed (code_of x.plan i) ≡ true → MeansEnds tree w i → P i)
    (values : (p : Plain) (i : ℕ) (ds : ℕ → Dictionary (PlainBody p)) → suc i < nodes_of x.plan → (dictionary_of x.plan i ≡ 0 → ⊥) → MeansPlain tree p (suc i) → Obeys true (PlainRule p) (ds 0).values
    → Valued x m counters μ p i ds → P (suc i)) where
  -- every node from node i on
  abbrev From : ℕ → Type 0
  From i = (j : ℕ) → i ≤ j → j < end_of x.plan i → P j

  with_own : (i : ℕ) → P i → ((j : ℕ) → i < j → j < end_of x.plan i → P j) → From i
  with_own i h f j p q = go (dec_lt i j)
    where
      go : Dec (i < j) → P j
      go (yes y) = f j y q
      go (no y) = let z : i ≡ j = omega arith in subst P z h

  one_node : (i : ℕ) → end_of x.plan i ≡ suc i → P i → From i
  one_node i e h = with_own i h (λ j p q. absurd (omega arith))

  fields_from : (k : ℕ) (g : ℕ → Ty) (nullable : ℕ → Bool) (ids : List ℕ) (i : ℕ) → Ids ids → length ids ≤ 16
      → Fields x.plan (λ z. Worded x.plan k (g z)) nullable (end_of x.plan i) ids (suc i) → P i → ((e : ℕ) → Memᴰ e ids → From (child_of x.plan i e)) → From i
  fields_from k g nullable ids i ds few f h kid =
      with_own i h
      (λ j p q. let r = within x.plan (λ z. Worded x.plan k (g z)) nullable (end_of x.plan i) ids (suc i) 32 f ds (omega arith) j (omega arith) q in
      kid r.id r.member j r.from r.to)

  -- node i itself
  here : (k : ℕ) (t : Ty) (i : ℕ) (ss : ℕ → Column t) → Worded x.plan k t i → Free x.plan i → end_of x.plan i ≤ end_of x.plan 0 → Means tree t i → Stands x buffers m counters μ t i (λ j. (ss j).body) → P i
  here k t i ss w o l mn st = own k t i (λ j. (ss j).body) w (in_table x buffers tree root m columns dest counters room μ given k t i w l) o mn st

  from : (k : ℕ) (t : Ty) (i : ℕ) (ss : ℕ → Column t) → Worded x.plan k t i → Formed t → Free x.plan i → end_of x.plan i ≤ end_of x.plan 0 → Means tree t i
      → Stands x buffers m counters μ t i (λ j. (ss j).body) → ((j : ℕ) → j < m → Source t (ss j)) → From i
  from (suc k) (t_plain (fixed n)) i ss w fm o l mn st ob =
      let z = between_both 1 10 (code_of x.plan i) w.3.0 in
      one_node i (given.laid.plain_ends i (omega (arith, w.1)) (omega (arith, z.1)) w.2) (here (suc k) (t_plain (fixed n)) i ss w o l mn st)
  from (suc k) (t_plain (string v)) i ss w fm o l mn st ob =
      let z = between_both 11 14 (code_of x.plan i) w.3.0 in
      one_node i (given.laid.plain_ends i (omega (arith, w.1)) (omega (arith, z.1)) w.2) (here (suc k) (t_plain (string v)) i ss w o l mn st)
  from (suc k) t_view i ss w fm o l mn st ob = one_node i (given.laid.view_ends i (omega (arith, w.1)) w.2) (here (suc k) t_view i ss w o l mn st)
  from (suc k) (t_list_view v t) i ss w fm o l mn st ob =
      let z : end_of x.plan i ≡ end_of x.plan (suc i) = w.1 in
      let free = ((closed_free x.plan 0 (end_of x.plan 0) given.laid.tabled).item i (typed (suc k) (t_list_view v t) w (omega arith) l, o) (between_wide 17 18 17 20 (code_of x.plan i) (omega arith) (omega arith) w.2)).1 in
      let r = from k t (suc i) (λ j. (ss j).body.child) w.4 fm.1 free (omega arith) mn.1 st (λ j q. (ob j q).slots.child_rule) in
      with_own i (here (suc k) (t_list_view v t) i ss w o l mn st) (λ j p q. r j (omega arith) (omega arith))
  from (suc k) (t_list v t) i ss w fm o l mn st ob =
      let z : end_of x.plan i ≡ end_of x.plan (suc i) = w.1 in
      let free = ((closed_free x.plan 0 (end_of x.plan 0) given.laid.tabled).item i (typed (suc k) (t_list v t) w (omega arith) l, o) (between_wide 19 20 17 20 (code_of x.plan i) (omega arith) (omega arith) w.2)).1 in
      let r = from k t (suc i) (λ j. (ss j).body.child) w.4 fm.1 free (omega arith) mn.1 st (λ j q. (ob j q).slots.child_rule) in
      with_own i (here (suc k) (t_list v t) i ss w o l mn st) (λ j p q. r j (omega arith) (omega arith))
  from (suc k) (t_sparse ids nullable g) i ss w fm o l mn st ob =
      let u : is_union (code_of x.plan i) ≡ true = ap is_union w.1 in
      fields_from k g nullable ids i fm.0 w.2 w.4 (here (suc k) (t_sparse ids nullable g) i ss w o l mn st)
      (λ e q. let y = field_of x.plan (λ z. Worded x.plan k (g z)) nullable (end_of x.plan i) ids (suc i) 32 e w.4 (omega (arith, w.2)) q in
      from k (g e) (child_of x.plan i e) (λ j. (ss j).body.children e) y.is_kid (fm.1 e q)
      (union_free x buffers tree root m columns dest counters room μ given k g nullable ids i w.2 w.4 u (typed (suc k) (t_sparse ids nullable g) w (omega arith) l, o) e q) (omega (arith, y.ends))
      (subst (Means tree (g e)) (sym (given.kids i true ids mn.0 e q)) (mn.1 e q).1) (st e q) (λ j p. (ob j p).slots.child_rule e q))
  from (suc k) (t_dense ids nullable g) i ss w fm o l mn st ob =
      let u : is_union (code_of x.plan i) ≡ true = ap is_union w.1 in
      fields_from k g nullable ids i fm.0 w.2 w.4 (here (suc k) (t_dense ids nullable g) i ss w o l mn st)
      (λ e q. let y = field_of x.plan (λ z. Worded x.plan k (g z)) nullable (end_of x.plan i) ids (suc i) 32 e w.4 (omega (arith, w.2)) q in
      from k (g e) (child_of x.plan i e) (λ j. (ss j).body.children e) y.is_kid (fm.1 e q)
      (union_free x buffers tree root m columns dest counters room μ given k g nullable ids i w.2 w.4 u (typed (suc k) (t_dense ids nullable g) w (omega arith) l, o) e q) (omega (arith, y.ends))
      (subst (Means tree (g e)) (sym (given.kids i false ids mn.0 e q)) (mn.1 e q).1) (st e q) (λ j p. (ob j p).slots.child_rule e q))
  from (suc k) (t_run_end v t) i ss w fm o l mn st ob =
      let z : end_of x.plan i ≡ end_of x.plan (suc (suc i)) = w.1 in
      let s = worded_span x.plan k t (suc (suc i)) w.4 in
      let closed = closed_free x.plan 0 (end_of x.plan 0) given.laid.tabled in
      let at : Here x buffers tree root m columns dest counters room μ given i = (typed (suc k) (t_run_end v t) w (omega arith) l, o) in
      let r = from k t (suc (suc i)) (λ j. (ss j).body.values) w.4 fm.1 (closed.values i at w.2).1 (omega arith) mn.2 st (λ j q. (ob j q).slots.child_rule) in
      let c = ends v (suc i) (omega (arith, given.all_nodes_lem)) (closed.ends i at w.2).1 (given.laid.run_ends_lem i (omega arith) w.2).0 mn.1 in
      with_own i (here (suc k) (t_run_end v t) i ss w o l mn st) (λ j p q. go j p q r c (dec_lt (suc i) j))
    where
      go : (j : ℕ) → i < j → j < end_of x.plan i → From (suc (suc i)) → P (suc i) → Dec (suc i < j) → P j
      go j p q r c (yes y) = let z : end_of x.plan i ≡ end_of x.plan (suc (suc i)) = w.1 in r j (omega arith) (omega arith)
      go j p q r c (no y) = let z : suc i ≡ j = omega arith in subst P z c
  from (suc k) (t_dictionary n p) i ss w fm o l mn st ob =
      let z = given.laid.tabled.keys_end i (omega (arith, w.1)) w.2 in
      let v = values p i (λ j. (ss j).body) (omega (arith, given.all_nodes_lem)) w.2 mn.1 (ob 0 given.some_source).slots.child_rule st in
      with_own i (here (suc k) (t_dictionary n p) i ss w o l mn st) (λ j a b. let e : suc i ≡ j = omega arith in subst P e v)
  from zero t i ss w fm o l mn st ob = elim w [ ]

  -- ALL NODES
  pub every_node : (j : ℕ) → j < nodes_of x.plan → P j
  every_node j l =
      from 8 root 0 columns given.worded given.formed tt (omega arith) given.means (stands x buffers tree root m columns dest counters room μ given) given.obey j (omega arith)
      (omega (arith, given.all_nodes_lem))
