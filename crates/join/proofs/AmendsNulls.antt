-- WHICH RUN ENDS A WALK OF NULLS WRITES OVER: those of nodes whose gap was 2 before it. A walk comes to each node once. Assumes nothing.
use mathlib.Core.Path.{◌≡◌, refl, sym, ap, ◌∙◌}
use mathlib.Core.Bool.{Bool, true, false, cond}
use mathlib.Core.List.{List}
use Prim.Native.Nat.{ℕ, zero, suc, ◌≤◌, ◌<◌}
use native.Mathlib.Nat.{le_refl}
use native.Mathlib.Omega.{arith}
use lib.Dec.{ltb, eqb}
use borrow.Author.Tests.{ltb-true, eqb-true}
use Rattle.schema.specs.formats.Code.{is_fixed, is_string, is_view, is_list_view, is_list}
use Rattle.walk.specs.State.{Join, code_of, end_of, keeps_of, bytes_of, gap, add_rows, add_nulls, set_bytes}
use Rattle.walk.specs.Log.{put, mask, Out, fail, done, wrote, need, found, next}
use Rattle.walk.specs.Leaves.{null_mask, count_nulls, null_numbers, null_string}
use Rattle.walk.specs.Copy.{masked, each_field}
use Rattle.walk.specs.Nulls.{NullWalk, null_list_view, null_list, null_sparse, null_dense, add_run, grow_run, null_runs, null_data, null_node, null_walk}
use Rattle.refinement.specs.log_in_room.Reach.{Child}
use Rattle.refinement.proofs.log_in_room.Found.{child_first, child_later, child_nullable}
use Rattle.refinement.proofs.walk_is_model.Counters.{bytes_other, bytes_of_rows, bytes_of_nulls}
use Rattle.plan.specs.parts.Parts.{nodes_of}
use Rattle.refinement.specs.orders.Sound.{plan_sound}
use Rattle.refinement.proofs.orders.Sound.{Stands, node_stands, child_inside}
use Rattle.join.proofs.Amends.{AllAmended, amended_both, amended_wide}
use Rattle.walk.proofs.Names.{null_fields}

-- node h is among lo .. hi - 1, and its gap is 2
pub record At (lo hi : ℕ) (c : List ℕ) (h : ℕ) : Type 0 where
  pub from : lo ≤ h
  pub to : h < hi
  pub nulls_last : gap c h ≡ 2

-- a walk from counters c on, at the nodes lo .. hi - 1
pub record Tight (lo hi : ℕ) (c : List ℕ) (o : Out) : Type 0 where
  pub over : AllAmended (At lo hi c) o.log
  pub before : (h : ℕ) → h < lo → gap o.counters h ≡ gap c h
  pub behind : (h : ℕ) → hi ≤ h → gap o.counters h ≡ gap c h

tight_wide : {lo hi l h : ℕ} {c : List ℕ} {o : Out} → lo ≤ l → h ≤ hi → Tight l h c o → Tight lo hi c o
tight_wide {lo} {hi} {l} {h} {c} {o} p q t =
    record {
      over = amended_wide (At l h c) (At lo hi c) (λ n a. record { from = let k = a.from in omega arith; to = let k = a.to in omega arith; nulls_last = a.nulls_last }) o.log t.over;
      before = λ n s. t.before n (omega arith);
      behind = λ n s. t.behind n (omega arith);
    }

module _ (lo hi : ℕ) where
  tight_done : (c : List ℕ) → Tight lo hi c (done c)
  unfolding done
  tight_done c = record { over = tt; before = λ h s. refl; behind = λ h s. refl }

  tight_fail : (g : ℕ) (c : List ℕ) → Tight lo hi c (fail g c)
  unfolding fail
  tight_fail g c = record { over = tt; before = λ h s. refl; behind = λ h s. refl }

  tight_put : (i b o : ℕ) (bs c : List ℕ) → Tight lo hi c (wrote (put i b o bs) c)
  unfolding wrote
  tight_put i b o bs c = record { over = (tt, tt); before = λ h s. refl; behind = λ h s. refl }

  tight_mask : (i p : ℕ) (vs c : List ℕ) → Tight lo hi c (wrote (mask i p vs) c)
  unfolding wrote
  tight_mask i p vs c = record { over = (tt, tt); before = λ h s. refl; behind = λ h s. refl }

  tight_rows : (i n : ℕ) (c : List ℕ) → Tight lo hi c (done (add_rows i n c))
  unfolding done
  tight_rows i n c = record { over = tt; before = λ h s. bytes_of_rows c i n h; behind = λ h s. bytes_of_rows c i n h }

  tight_nulls : (i n : ℕ) (c : List ℕ) → Tight lo hi c (done (add_nulls i n c))
  unfolding done
  tight_nulls i n c = record { over = tt; before = λ h s. bytes_of_nulls c i n h; behind = λ h s. bytes_of_nulls c i n h }

  tight_cond : (b : Bool) {c : List ℕ} {o p : Out} → (b ≡ true → Tight lo hi c o) → (b ≡ false → Tight lo hi c p) → Tight lo hi c (cond b o p)
  tight_cond true f g = f refl
  tight_cond false f g = g refl

  tight_need : (b : Bool) (g : ℕ) (c : List ℕ) {o : Out} → (b ≡ true → Tight lo hi c o) → Tight lo hi c (need b g c o)
  unfolding need
  tight_need b g c k = tight_cond b k (λ e. tight_fail g c)

  tight_found : (n v g : ℕ) (c : List ℕ) (k : ℕ → Out) → (v < n → Tight lo hi c (k v)) → Tight lo hi c (found n v g c k)
  unfolding found
  tight_found n v g c k q = tight_cond (ltb v n) (λ e. q (ltb-true v n e)) (λ e. tight_fail g c)

  -- two walks one behind the other: at lower nodes and then at higher ones, or the other way around
  module _ (mid : ℕ) (p : lo ≤ mid) (q : mid ≤ hi) (c : List ℕ) (o : Out) (k : List ℕ → Out) where
    tight_up : Tight lo mid c o → ((d : List ℕ) → Tight mid hi d (k d)) → Tight lo hi c (next o k)
    unfolding next
    tight_up t f =
        tight_cond (eqb o.ans 0)
        (λ e.
        let u = f o.counters in
        record {
          over = amended_both (At lo hi c) o.log (k o.counters).log (tight_wide {o = o} (le_refl lo) q t).over
              (amended_wide (At mid hi o.counters) (At lo hi c) (λ h a. let z = a.from in record { from = omega arith; to = a.to; nulls_last = sym (t.behind h z) ∙ a.nulls_last }) (k o.counters).log u.over);
          before = λ h s. u.before h (omega arith) ∙ t.before h s;
          behind = λ h s. u.behind h s ∙ t.behind h (omega arith);
        })
        (λ e. tight_wide (le_refl lo) q t)

    tight_down : Tight mid hi c o → ((d : List ℕ) → Tight lo mid d (k d)) → Tight lo hi c (next o k)
    unfolding next
    tight_down t f =
        tight_cond (eqb o.ans 0)
        (λ e.
        let u = f o.counters in
        record {
          over = amended_both (At lo hi c) o.log (k o.counters).log (tight_wide {o = o} p (le_refl hi) t).over
              (amended_wide (At lo mid o.counters) (At lo hi c) (λ h a. let z = a.to in record { from = a.from; to = omega arith; nulls_last = sym (t.before h z) ∙ a.nulls_last }) (k o.counters).log u.over);
          before = λ h s. u.before h s ∙ t.before h (omega arith);
          behind = λ h s. u.behind h (omega arith) ∙ t.behind h s;
        })
        (λ e. tight_wide p (le_refl hi) t)

-- ---- a node and what is below it, in a sound plan

module _ (x : Join) (sound : plan_sound x.plan ≡ true) where
  abbrev S : List ℕ
  S = x.plan

  tight_bits : (e i n : ℕ) (c : List ℕ) → Tight e e c (cond (masked (code_of S i)) (null_mask x i n c) (count_nulls x i n c))
  unfolding null_mask count_nulls
  tight_bits e i n c =
      tight_cond e e (masked (code_of S i))
      (λ m. tight_cond e e (eqb (keeps_of S i) 0) (λ z. tight_done e e c)
      (λ z. tight_up e e e (le_refl e) (le_refl e) c _ _ (tight_mask e e i _ _ c) (λ c2. tight_nulls e e i n c2)))
      (λ m. tight_cond e e (eqb (keeps_of S i) 0) (λ z. tight_done e e c) (λ z. tight_nulls e e i n c))

  module _ (walk : NullWalk) (below : (k n : ℕ) (c : List ℕ) → k < nodes_of S → Tight k (end_of S k) c (walk k n c)) (i : ℕ) (here : i < nodes_of S) where
    abbrev E : ℕ
    E = end_of S i

    st : Stands S (nodes_of S) i
    st = node_stands S sound i here

    child_there : (k : ℕ) → Child S i k → k < nodes_of S
    child_there k c = let a = st.inside in let r = child_inside S sound i k here c in omega (arith, r.1)

    tight_fields : (n fuel k : ℕ) (c : List ℕ) → k ≤ E → (k < E → Child S i k) → Tight k E c (null_fields x walk n E fuel k c)
    unfolding each_field
    tight_fields n zero k c l d = tight_done k E c
    tight_fields n (suc fuel) k c l d =
        tight_cond k E (ltb k E)
        (λ e.
        let f = d (ltb-true k E e) in
        let r = child_inside S sound i k here f in
        let s = (node_stands S sound k (child_there k f)).rises in
        tight_up k E (end_of S k) (omega arith) r.2 c _ _ (below k n c (child_there k f)) (λ c2. tight_fields n fuel (end_of S k) c2 r.2 (child_later S i k f)))
        (λ e. tight_done k E c)

    tight_sparse : (n : ℕ) (c : List ℕ) → Tight i E c (null_sparse x walk i n c)
    unfolding null_sparse
    tight_sparse n c =
        let s = st.rises in
        tight_found i E 32 _ _ c _
        (λ l. tight_up i E (suc i) (omega arith) (omega arith) c _ _ (tight_put i (suc i) i 1 _ _ c) (λ c2. tight_fields n 32 (suc i) c2 (omega arith) (child_first S i)))

    tight_dense : (n : ℕ) (c : List ℕ) → Tight i E c (null_dense x walk i n c)
    unfolding null_dense
    tight_dense n c =
        let s = st.rises in
        tight_found i E 32 _ _ c _
        (λ l.
        let f = child_nullable S i 32 (suc i) (child_first S i) l in
        let r = child_inside S sound i _ here f in
        tight_need i E _ 6 c
        (λ e. tight_up i E i (le_refl i) (omega arith) c _ _ (tight_put i i i 1 _ _ c)
        (λ c2. tight_up i E i (le_refl i) (omega arith) c2 _ _ (tight_put i i i 2 _ _ c2)
        (λ c3. tight_wide (omega (arith, r.0)) r.2 (below _ n c3 (child_there _ f))))))

    tight_gap : (v n : ℕ) (c : List ℕ) → Tight i (suc (suc i)) c (done (set_bytes i v (add_rows (suc i) n c)))
    unfolding done
    tight_gap v n c =
        record {
          over = tt;
          before = λ h s. bytes_other (add_rows (suc i) n c) i v h (λ e. omega arith) ∙ bytes_of_rows c (suc i) n h;
          behind = λ h s. bytes_other (add_rows (suc i) n c) i v h (λ e. omega arith) ∙ bytes_of_rows c (suc i) n h;
        }

    tight_grow : (w n : ℕ) (c : List ℕ) → gap c i ≡ 2 → Tight i E c (grow_run x walk w i n c)
    unfolding grow_run wrote
    tight_grow w n c g =
        let s = st.rises in
        tight_need i E _ 12 c
        (λ e. tight_need i E _ 7 c
        (λ f. record {
          over = (λ h z. let y : i ≡ h = cc z in record { from = omega arith; to = omega arith; nulls_last = ap (gap c) (sym y) ∙ g }, tt);
          before = λ h s. refl;
          behind = λ h s. refl;
        }))

    tight_add : (w n : ℕ) (c : List ℕ) → code_of S i ≡ 23 → Tight i E c (add_run x walk w i n c)
    unfolding add_run
    tight_add w n c q =
        let r = st.runs q in
        let a = st.inside in
        let b = st.below_inside (suc (suc i)) (omega arith) r.0 in
        tight_down i E (suc (suc i)) (omega arith) (omega (arith, r.0)) c _ _ (tight_wide (le_refl (suc (suc i))) b (below (suc (suc i)) 1 c (omega (arith, r.0))))
        (λ c2. tight_need i (suc (suc i)) _ 7 c2
        (λ f. tight_up i (suc (suc i)) i (le_refl i) (omega arith) c2 _ _ (tight_put i i (suc i) 1 _ _ c2) (λ c3. tight_gap _ 1 c3)))

    tight_runs : (n : ℕ) (c : List ℕ) → code_of S i ≡ 23 → Tight i E c (null_runs x walk i n c)
    unfolding null_runs
    tight_runs n c q =
        tight_need i E _ 12 c
        (λ e. tight_cond i E (eqb (gap c i) 2) (λ f. tight_grow (bytes_of S (suc i)) n c (eqb-true (gap c i) 2 f)) (λ f. tight_add (bytes_of S (suc i)) n c q))

    tight_data : (n : ℕ) (c : List ℕ) → Tight i E c (null_data x walk (code_of S i) i n c)
    unfolding null_data null_numbers null_string null_list_view null_list
    tight_data n c =
        let s = st.rises in
        tight_cond i E (is_fixed (code_of S i)) (λ e. tight_put i E i 1 _ _ c)
        (λ e1. tight_cond i E (is_string (code_of S i)) (λ e. tight_put i E i 1 _ _ c)
        (λ e2. tight_cond i E (is_view (code_of S i)) (λ e. tight_put i E i 1 _ _ c)
        (λ e3. tight_cond i E (is_list_view (code_of S i)) (λ e. tight_up i E i (le_refl i) (omega arith) c _ _ (tight_put i i i 1 _ _ c) (λ c2. tight_put i E i 2 _ _ c2))
        (λ e4. tight_cond i E (is_list (code_of S i)) (λ e. tight_need i E _ 12 c (λ f. tight_put i E i 1 _ _ c))
        (λ e5. tight_cond i E (eqb (code_of S i) 21) (λ e. tight_sparse n c)
        (λ e6. tight_cond i E (eqb (code_of S i) 22) (λ e. tight_dense n c)
        (λ e7. tight_cond i E (eqb (code_of S i) 23) (λ e. tight_runs n c (eqb-true (code_of S i) 23 e))
        (λ e8. tight_fail i E 12 c))))))))

    tight_node : (n : ℕ) (c : List ℕ) → Tight i E c (null_node x walk i n c)
    unfolding null_node
    tight_node n c =
        let s = st.rises in
        tight_cond i E (eqb n 0) (λ z. tight_done i E c)
        (λ z. tight_need i E _ 12 c
        (λ e. tight_up i E E (omega arith) (le_refl E) c _ _ (tight_data n c)
        (λ c2. tight_up E E E (le_refl E) (le_refl E) c2 _ _ (tight_bits E i n c2) (λ c3. tight_rows E E i n c3))))

  -- NULLS WRITE OVER THE RUN ENDS OF NODES WHOSE GAP WAS 2
  pub tight_walk : (depth i n : ℕ) (c : List ℕ) → i < nodes_of S → Tight i (end_of S i) c (null_walk x depth i n c)
  unfolding null_walk
  tight_walk zero i n c here = tight_fail i (end_of S i) 12 c
  tight_walk (suc depth) i n c here = tight_node (null_walk x depth) (λ k m d h. tight_walk depth k m d h) i here n c
