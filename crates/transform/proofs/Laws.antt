-- An order that is tried and then made, and what an order of nulls reads. Assumes nothing.
use mathlib.Core.Path.{◌≡◌, refl, sym, ap, subst, fun_ext, ◌∙◌}
use mathlib.Core.Bool.{Bool, true, false, cond, ◌&&◌}
use mathlib.Core.List.{List, []}
use Prim.Native.Nat.{ℕ, zero, suc, ◌+◌, ◌*◌, ◌-◌, ◌<◌, ◌≤◌, min}
use native.Mathlib.Omega.{arith}
use lib.ListN.{length, get_or, set, replicate, length-set}
use lib.Seq.{get_or-set_same, get_or-set_other, ext_get_or}
use lib.Dec.{leb, ltb}
use borrow.Author.Count.{below_more}
use borrow.Author.Tests.{eq-eqb, ne_eqb, lt-ltb, le-ltb}
use Rattle.walk.specs.State.{Join, code_of, end_of, id_of, keeps_of, rows, far}
use Rattle.walk.specs.Log.{Out, Did, apply, apply_if, put, done, wrote, found, next}
use Rattle.walk.specs.Leaves.{null_mask, count_nulls, null_numbers, null_string}
use Rattle.walk.specs.Copy.{copy_walk, each_field}
use Rattle.walk.specs.Nulls.{NullWalk, nullable_child, no_home, null_list_view, null_list, null_sparse, null_dense, add_run, grow_run, null_runs, null_data, null_node, null_walk}
use Rattle.leaf_walk.specs.Join.{join}
use Rattle.plan.specs.parts.Parts.{parts_within, parts_hold}
use Rattle.sound.proofs.trying.Laws.{hold_alike}
use Rattle.sound.proofs.trying.Near.{Near}
use Rattle.refinement.specs.orders.Sound.{walkable}
use Rattle.refinement.specs.orders.Order.{After, Lent, source_count, source_length, refused, settled, copy_order, null_order}
use Rattle.transform.specs.Answer.{Answers}
use Rattle.walk.proofs.Names.{null_fields}

-- ---- a walk that is tried, the parts asked, and the walk made

module _ (x : Lent) (counters room : List ℕ) where
  parts_refuse : (a b : Bool) (made : After) {g : ℕ} {room1 : List ℕ} → room1 ≡ room → g ≡ cond a (cond b 0 13) 14 → (g ≡ 0 → ⊥)
      → Answers (cond a (cond b made (refused x counters room 13)) (refused x counters room 14)) g counters room1
  parts_refuse true true made q e h = absurd (h e)
  parts_refuse true false made q e h = record { refusal = e; counters = refl; room = q }
  parts_refuse false b made q e h = record { refusal = e; counters = refl; room = q }

  parts_accept : (a b : Bool) (made : After) {g r : ℕ} {c bytes : List ℕ} → g ≡ cond a (cond b 0 13) 14 → g ≡ 0 → Answers made r c bytes
      → Answers (cond a (cond b made (refused x counters room 13)) (refused x counters room 14)) r c bytes
  parts_accept true true made e h d = d
  parts_accept true false made e h d = let z : ◌≡◌ {A = ℕ} 13 0 = sym e ∙ h in absurd (omega (arith, z))
  parts_accept false b made e h d = let z : ◌≡◌ {A = ℕ} 14 0 = sym e ∙ h in absurd (omega (arith, z))

  -- tried from counters that answer alike
  module _ (walk : List ℕ → Out) {l1 : List ℕ} (q1 : Near (walk l1) (walk counters)) {g : ℕ} {c1 room1 : List ℕ} (d : Did x.plan x.parts false (walk l1) room g c1 room1) where
    answers : g ≡ (walk counters).ans
    answers = d.answer ∙ q1.answer

    holds : parts_hold x.plan c1 x.parts ≡ parts_hold x.plan (walk counters).counters x.parts
    holds = ap (λ z. parts_hold x.plan z x.parts) d.counters ∙ hold_alike x.plan x.parts q1.counters

    same_room : room1 ≡ room
    unfolding apply_if
    same_room = d.bytes

    pub settled_no : (g ≡ 0 → ⊥) → Answers (settled x counters room (walk counters)) g counters room1
    unfolding settled
    settled_no h = rw (ne_eqb (walk counters).ans 0 (λ z. h (answers ∙ z))) (record { refusal = answers; counters = refl; room = same_room })

    module _ (h : g ≡ 0) {p : ℕ} (e : p ≡ cond (parts_within x.plan x.parts (length room1)) (cond (parts_hold x.plan c1 x.parts) 0 13) 14) where
      asked : p ≡ cond (parts_within x.plan x.parts (length room)) (cond (parts_hold x.plan (walk counters).counters x.parts) 0 13) 14
      asked =
          e
          ∙ ap (λ z. cond (parts_within x.plan x.parts (length z)) (cond (parts_hold x.plan c1 x.parts) 0 13) 14) same_room
          ∙ ap (λ (z : Bool). cond (parts_within x.plan x.parts (length room)) (cond z 0 13) 14) holds

      pub settled_parts : (p ≡ 0 → ⊥) → Answers (settled x counters room (walk counters)) p counters room1
      unfolding settled
      settled_parts f = rw (eq-eqb (walk counters).ans 0 (sym answers ∙ h)) (parts_refuse (parts_within x.plan x.parts (length room)) (parts_hold x.plan (walk counters).counters x.parts) (record { refusal = 0; counters = (walk counters).counters; room = apply x.plan x.parts (walk counters).log room }) same_room asked f)

      pub settled_made : {l2 : List ℕ} {r : ℕ} {c2 room2 c3 : List ℕ} → p ≡ 0 → l2 ≡ counters → Did x.plan x.parts true (walk l2) room1 r c2 room2 → c3 ≡ c2
          → Answers (settled x counters room (walk counters)) r c3 room2
      unfolding settled apply_if
      settled_made {l2} {r} {c2} {room2} f q2 d2 s =
          let ans : (walk counters).ans ≡ 0 = sym answers ∙ h in
          let made : Did x.plan x.parts true (walk counters) room1 r c2 room2 = subst (λ l. Did x.plan x.parts true (walk l) room1 r c2 room2) q2 d2 in
          rw (eq-eqb (walk counters).ans 0 ans)
          (parts_accept (parts_within x.plan x.parts (length room)) (parts_hold x.plan (walk counters).counters x.parts) (record { refusal = 0; counters = (walk counters).counters; room = apply x.plan x.parts (walk counters).log room }) asked f
          (record { refusal = made.answer ∙ ans; counters = s ∙ made.counters; room = made.bytes ∙ ap (apply x.plan x.parts (walk counters).log) same_room }))

-- ---- an order of nulls reads the plan alone

module _ (plan parts parts2 lengths lengths2 places places2 body body2 : List ℕ) (first first2 source source2 : ℕ) where
  abbrev one : Join
  one = join plan parts lengths places body first source

  abbrev other : Join
  other = join plan parts2 lengths2 places2 body2 first2 source2

  fields_plan : (child : NullWalk) (n end f k : ℕ) (c : List ℕ) → null_fields one child n end f k c ≡ null_fields other child n end f k c
  unfolding each_field
  fields_plan child n end zero k c = refl
  fields_plan child n end (suc f) k c = ap (λ z. cond (ltb k end) (next (child k n c) z) (done c)) (fun_ext (λ c2. fields_plan child n end f (end_of plan k) c2))

  sparse_plan : (child : NullWalk) (i n : ℕ) (c : List ℕ) → null_sparse one child i n c ≡ null_sparse other child i n c
  unfolding null_sparse
  sparse_plan child i n c =
      ap (found 32 (nullable_child plan (end_of plan i) 32 (suc i)) (no_home plan i) c)
      (fun_ext (λ h. ap (next (wrote (put i 1 (rows c i) (replicate n (id_of plan h))) c)) (fun_ext (λ c2. fields_plan child n (end_of plan i) 32 (suc i) c2))))

  data_plan : (child : NullWalk) (code i n : ℕ) (c : List ℕ) → null_data one child code i n c ≡ null_data other child code i n c
  unfolding null_data null_numbers null_string null_list_view null_list null_dense null_runs add_run grow_run
  data_plan child code i n c = rw (sparse_plan child i n c)

  node_plan : (child : NullWalk) (i n : ℕ) (c : List ℕ) → null_node one child i n c ≡ null_node other child i n c
  unfolding null_node null_mask count_nulls
  node_plan child i n c = rw (data_plan child (code_of plan i) i n c)

  pub null_plan : (depth i n : ℕ) (c : List ℕ) → null_walk one depth i n c ≡ null_walk other depth i n c
  unfolding null_walk
  null_plan zero i n c = refl
  null_plan (suc depth) i n c =
      node_plan (null_walk one depth) i n c
      ∙ ap (λ z. null_node other z i n c) (fun_ext (λ i. fun_ext (λ n. fun_ext (λ c. null_plan depth i n c))))

-- ---- the grounds before the walk

module _ (x : Lent) (counters room : List ℕ) where
  pub copy_counters : (s a e : ℕ) → (length counters ≡ 96 → ⊥) → Answers (copy_order x counters room s a e) 14 counters room
  unfolding copy_order
  copy_counters s a e h = rw (ne_eqb (length counters) 96 h) (record { refusal = refl; counters = refl; room = refl })

  pub copy_foreign : (s a e : ℕ) → length counters ≡ 96 → walkable x.plan (length room) ≡ false → Answers (copy_order x counters room s a e) 14 counters room
  unfolding copy_order
  copy_foreign s a e h w = rw (eq-eqb (length counters) 96 h, w) (record { refusal = refl; counters = refl; room = refl })

  pub copy_source : (s a e : ℕ) → length counters ≡ 96 → walkable x.plan (length room) ≡ true → {m : ℕ} → m ≡ source_count x.plan → m ≤ s → Answers (copy_order x counters room s a e) 1 counters room
  unfolding copy_order
  copy_source s a e h w {m} q f =
      let g : source_count x.plan ≤ s = subst (λ z. z ≤ s) q f in
      rw (eq-eqb (length counters) 96 h, w, le-ltb s (source_count x.plan) g) (record { refusal = refl; counters = refl; room = refl })

  module _ (s a e : ℕ) (h : length counters ≡ 96) (w : walkable x.plan (length room) ≡ true) {m : ℕ} (q : m ≡ source_count x.plan) (f : s < m) {first : ℕ} (k : first ≡ get_or x.sources (2 * s) 0) where
    known : s < source_count x.plan
    known = subst (λ z. s < z) q f

    pub copy_range : (leb a e && leb e (get_or x.lengths (2 * first) 0)) ≡ false → Answers (copy_order x counters room s a e) 2 counters room
    unfolding copy_order
    copy_range t =
        let u : (leb a e && leb e (source_length x s)) ≡ false = subst (λ z. (leb a e && leb e (get_or x.lengths (2 * z) 0)) ≡ false) k t in
        rw (eq-eqb (length counters) 96 h, w, lt-ltb s (source_count x.plan) known, u) (record { refusal = refl; counters = refl; room = refl })

    pub copy_made : {r : ℕ} {c bytes : List ℕ} → (leb a e && leb e (get_or x.lengths (2 * first) 0)) ≡ true
        → Answers (settled x counters room (copy_walk (join x.plan x.parts x.lengths x.places x.body first s) 8 0 a (e - a) counters)) r c bytes
        → Answers (copy_order x counters room s a e) r c bytes
    unfolding copy_order
    copy_made {r} {c} {bytes} t d =
        let u : (leb a e && leb e (source_length x s)) ≡ true = subst (λ z. (leb a e && leb e (get_or x.lengths (2 * z) 0)) ≡ true) k t in
        rw (eq-eqb (length counters) 96 h, w, lt-ltb s (source_count x.plan) known, u)
        (subst (λ z. Answers (settled x counters room (copy_walk (join x.plan x.parts x.lengths x.places x.body z s) 8 0 a (e - a) counters)) r c bytes) k d)

  pub null_counters : (n : ℕ) → (length counters ≡ 96 → ⊥) → Answers (null_order x counters room n) 14 counters room
  unfolding null_order
  null_counters n h = rw (ne_eqb (length counters) 96 h) (record { refusal = refl; counters = refl; room = refl })

  pub null_foreign : (n : ℕ) → length counters ≡ 96 → walkable x.plan (length room) ≡ false → Answers (null_order x counters room n) 14 counters room
  unfolding null_order
  null_foreign n h w = rw (eq-eqb (length counters) 96 h, w) (record { refusal = refl; counters = refl; room = refl })

  pub null_keeps : (n : ℕ) → length counters ≡ 96 → walkable x.plan (length room) ≡ true → {k : ℕ} → k ≡ keeps_of x.plan 0 → k ≡ 0 → Answers (null_order x counters room n) 3 counters room
  unfolding null_order
  null_keeps n h w q z = rw (eq-eqb (length counters) 96 h, w, eq-eqb (keeps_of x.plan 0) 0 (sym q ∙ z)) (record { refusal = refl; counters = refl; room = refl })

  pub null_made : (n : ℕ) {m : ℕ} → length counters ≡ 96 → walkable x.plan (length room) ≡ true → {k : ℕ} → k ≡ keeps_of x.plan 0 → (k ≡ 0 → ⊥) → m ≡ min n far → {r : ℕ} {c bytes : List ℕ}
      → Answers (settled x counters room (null_walk (join x.plan x.parts [] [] [] 0 0) 8 0 m counters)) r c bytes → Answers (null_order x counters room n) r c bytes
  unfolding null_order
  null_made n {m} h w q z e {r} {c} {bytes} d =
      rw (eq-eqb (length counters) 96 h, w, ne_eqb (keeps_of x.plan 0) 0 (λ y. z (q ∙ y)))
      (subst (λ o. Answers (settled x counters room o) r c bytes)
      (ap (λ y. null_walk (join x.plan x.parts [] [] [] 0 0) 8 0 y counters) e ∙ null_plan x.plan x.parts x.parts [] x.lengths [] x.places [] x.body 0 (get_or x.sources 0 0) 0 0 8 0 (min n far) counters)
      d)
