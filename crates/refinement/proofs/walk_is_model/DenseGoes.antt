-- Dense unions: the walk goes with the model, where it does at the children. Assumes nothing.
use mathlib.Core.Path.{◌≡◌, refl, sym, ap, subst, ◌∙◌}
use mathlib.Core.Bool.{Bool, true, false, cond, ◌&&◌}
use mathlib.Core.Option.{Option, none, some}
use mathlib.Core.List.{List, [], ◌∷◌, ◌++◌, Memᴰ}
use Prim.Native.Nat.{ℕ, zero, suc, ◌+◌, ◌*◌, ◌-◌, ◌≤◌, ◌<◌}
use native.Mathlib.Nat.{add-zero, add-suc, suc-add}
use native.Mathlib.Numerals.{add-one}
use native.Mathlib.Omega.{arith}
use lib.ListN.{length, get_or, replicate}
use lib.Dec.{ltb, leb, eqb}
use borrow.Author.Tests.{eqb-true, eqb-false, ltb-true, leb-true}
use Rattle.number.specs.Number.{encode}
use Rattle.columnar.specs.Types.{Ty, t_dense, half}
use Rattle.columnar.specs.Array.{ok, item, Mask}
use Rattle.columnar.specs.Reading.{Column, masks}
use Rattle.model.specs.Try.{Try, done, then, after, steps_t}
use Rattle.model.specs.Mutable.{extend_node, nulls_node}
use Rattle.model.specs.Unions.{at_child, dense_row}
use Rattle.model.specs.Transform.{Grown, Destination, extend_data}
use Rattle.model.proofs.Nodes.{FineOf}
use Rattle.walk.specs.State.{Join, code_of, end_of, id_of, rows, place, rows_in}
use Rattle.walk.specs.Log.{Out, put, wrote, next, need, found, each}
use Rattle.walk.specs.Copy.{Walk, copy_data, copy_dense, dense_to, dense_row as walkRow, id_at, position_at}
use Rattle.walk.specs.Nulls.{NullWalk, null_data, null_dense, nullable_child, no_home}
use Rattle.utils.specs.Offsets.{counted_up}
use Rattle.refinement.specs.walk_is_model.Memory.{Memory, put_in}
use Rattle.refinement.specs.walk_is_model.Holds.{child_of, Worded, HoldsData, Holds}
use Rattle.refinement.proofs.walk_is_model.Goes.{Goes, goes_done, goes_guard, goes_need, goes_found, goes_map, goes_wrote, goes_then}
use Rattle.refinement.proofs.walk_is_model.Frame.{same_refl, Kept, apart_of, held_same}
use Rattle.refinement.proofs.walk_is_model.Owed.{Given, Copies, CopiesData, Fills, FillsData}
use Rattle.refinement.proofs.walk_is_model.UnionFields.{goes_known, goes_wrap, agrees_value}
use Rattle.refinement.proofs.walk_is_model.UnionHome.{goes_home}
use Rattle.refinement.proofs.walk_is_model.Places.{small_of}
use Rattle.refinement.proofs.walk_is_model.UnionParts.{part_byte, part_entry, part_rows, counted_positions}
use Rattle.refinement.proofs.walk_is_model.UnionOwn.{Left, put_own, put_else, Own, own_put, own_then, own_kept, data_kept_then, child_field, kids_held}
use Rattle.model.proofs.Names.{positions_from, nulls_data}

-- rows one after the other, n of N
goes_rows : {A : Type 0} (base N : ℕ) (f : ℕ → A → Try A) (k : ℕ → List ℕ → Out) (I : ℕ → A → List ℕ → Memory → Type 0)
    (step : (r : ℕ) → r < N → (x : A) (c : List ℕ) (ν : Memory) → I r x c ν → Goes ν (I (suc r)) (f (base + r) x) (k r c))
    (n r : ℕ) → r + n ≤ N → (x : A) (c : List ℕ) (μ : Memory) → I r x c μ → Goes μ (I (r + n)) (steps_t f (base + r) n x) (each k n r c)
unfolding each
goes_rows base N f k I step zero r l x c μ i = goes_done x c (rw add-zero i)
goes_rows base N f k I step (suc n) r l x c μ i =
    goes_then (steps_t f (suc (base + r)) n) (λ c2. each k n (suc r) c2) (step r (omega arith) x c μ i)
    (λ y c2 ν j. let g = goes_rows base N f k I step n (suc r) (omega arith) y c2 ν j in rw (add-suc r n, ← suc-add r n, ← add-suc base r) g)

-- true where ids differ and where they are the same
cond_either : {A : Type 0} (Q : A → Type 0) (m n : ℕ) (x y : A) → (m ≡ n → Q x) → ((m ≡ n → ⊥) → Q y) → Q (cond (eqb m n) x y)
cond_either Q m n x y f g = go (eqb m n) refl
  where
    go : (b : Bool) → eqb m n ≡ b → Q (cond b x y)
    go true e = f (eqb-true m n e)
    go false e = g (eqb-false m n e)

-- no validity: every slot is valid
all_valid : (v : Option (List ℕ)) (n z : ℕ) → Mask false v n → true ≡ ok v z
all_valid none n z h = refl
all_valid (some l) n z h = absurd h

module _ (plan : List ℕ) (k : ℕ) (ids : List ℕ) (nullable : ℕ → Bool) (f : ℕ → Ty) (i : ℕ) (w : Worded plan (suc k) (t_dense ids nullable f) i) where
  abbrev Kid : ℕ → ℕ → Type 0
  Kid e = Worded plan k (f e)

  abbrev Held : (e : ℕ) → Destination (f e) → List ℕ → Memory → Type 0
  Held e = Holds plan (f e) (child_of plan i e)

  -- ids and positions behind those of node i, and then child b
  dense_one : (b : ℕ) → Memᴰ b ids → (step : List ℕ → Out) (d : Grown (t_dense ids nullable f)) (g : (e : ℕ) → Try (Destination (f e))) (new ps : List ℕ) (o : ℕ)
      (o2 : List ℕ → ℕ) (ps2 : List ℕ → List ℕ) (c : List ℕ) (μ : Memory)
      → ((ν : Memory) → Held b (d.children b) c ν → Goes ν (λ y c' μ'. Held b y c' μ' × Kept (child_of plan i b) (end_of plan (child_of plan i b)) c c' ν μ') (g b) (step c))
      → o ≡ length d.buffer1 → o2 c ≡ length d.buffer2 → ps2 c ≡ ps → HoldsData plan (t_dense ids nullable f) i d c μ
      → Goes μ (Left plan (t_dense ids nullable f) i c μ)
      (then (g b) (λ y. done (record { buffer1 = d.buffer1 ++ new; buffer2 = d.buffer2 ++ ps; children = at_child b g d.children })))
      (next (wrote (put i 1 o new) c) (λ c2. next (wrote (put i 2 (o2 c2) (ps2 c2)) c2) step))
  dense_one b p step d g new ps o o2 ps2 c μ steps at1 at2 is h =
      goes_wrote (put i 1 o new) c _ (at1 ∙ ap length (sym h.0))
      (goes_wrote (put i 2 (o2 c) (ps2 c)) c step (at2 ∙ ap length (sym second))
      (goes_wrap (λ y. record { buffer1 = d.buffer1 ++ new; buffer2 = d.buffer2 ++ ps; children = at_child b g d.children }) ends (goes_known (steps ν (kids b p)))))
    where
      ν : Memory
      ν = put_in i 2 (ps2 c) (put_in i 1 new μ)

      second : (put_in i 1 new μ).at i 2 ≡ d.buffer2
      second = put_else i 1 new μ 2 (λ z. omega arith) ∙ h.1

      own : Own i μ ν
      own = own_then (own_put i 1 new μ) (own_put i 2 (ps2 c) (put_in i 1 new μ))

      kids : (e : ℕ) → Memᴰ e ids → Held e (d.children e) c ν
      kids = kids_held plan k ids nullable f i w.4 (omega (arith, w.2)) d.children c c μ ν (own.others c) h.2

      ends : (y : Destination (f b)) (c' : List ℕ) (μ' : Memory) → (Held b y c' μ' × Kept (child_of plan i b) (end_of plan (child_of plan i b)) c c' ν μ') × (g b ≡ done y)
          → Left plan (t_dense ids nullable f) i c μ (record { buffer1 = d.buffer1 ++ new; buffer2 = d.buffer2 ++ ps; children = at_child b g d.children }) c' μ'
      ends y c' μ' q =
          let s = child_field plan k ids nullable f i w.4 (omega (arith, w.2)) b p in
          let here = q.0.1.outside i (λ u v. omega (arith, s.behind)) in (
            (
              here.at_same 1 ∙ put_else i 2 (ps2 c) (put_in i 1 new μ) 1 (λ z. omega arith) ∙ put_own i 1 new μ ∙ ap (λ z. z ++ new) h.0,
              here.at_same 2 ∙ put_own i 2 (ps2 c) (put_in i 1 new μ) ∙ ap (λ z. z ++ ps2 c) second ∙ ap (λ z. d.buffer2 ++ z) is,
              λ e m.
                  cond_either (λ z. Held e z c' μ') e b (after (g e) (d.children e)) (d.children e)
                  (λ z. subst (λ z. Held z (after (g z) (d.children z)) c' μ') (sym z) (subst (λ z. Held b (after z (d.children b)) c' μ') (sym q.1) q.0.0))
                  (λ z.
                  held_same plan c c' ν μ' k (f e) (child_of plan i e) (d.children e) (child_field plan k ids nullable f i w.4 (omega (arith, w.2)) e m).is_kid
                  (λ j u v. q.0.1.outside j (λ u2 v2. apart_of plan Kid nullable (end_of plan i) ids (suc i) 32 e b w.4 (omega (arith, w.2)) m p z j u v u2 v2)) (kids e m)),
            ),
            own_kept s.behind s.ends w.3 own q.0.1,
          )

-- ---- copies

row_is : (x : Join) (inner : Walk) (i slot r id at : ℕ) (c : List ℕ) → id_at x inner i (slot + r) ≡ id → position_at x inner i (slot + r) ≡ at
    → walkRow x inner i slot r c
    ≡ found 32 (child_of x.plan i id) 12 c
    (λ k. need (ltb (rows c k) (half 4)) 6 c
    (next (wrote (put i 1 (rows c i + r) (id ∷ [])) c) (λ c2. next (wrote (put i 2 ((rows c2 i + r) * 4) (encode 4 (rows c2 k))) c2) (λ c3. inner k at 1 c3))))
unfolding walkRow dense_to
row_is x inner i slot r id at c e q = rw (e, q)

dense_copy_is : (x : Join) (inner : Walk) (i slot n : ℕ) (c : List ℕ) → code_of x.plan i ≡ 22
    → copy_data x inner (code_of x.plan i) i slot n c ≡ need (rows_in x (place x i 3) 1 slot n && rows_in x (place x i 5) 4 slot n) 12 c (each (walkRow x inner i slot) n 0 c)
unfolding copy_data copy_dense
dense_copy_is x inner i slot n c e = ap (λ z. copy_data x inner z i slot n c) e

module _ (x : Join) (inner : Walk) (k : ℕ) (ids : List ℕ) (nullable : ℕ → Bool) (f : ℕ → Ty) (i m : ℕ) (ss : ℕ → Column (t_dense ids nullable f))
    (g : Given x (suc k) (t_dense ids nullable f) i m ss)
    (kids : (e : ℕ) → Memᴰ e ids → Copies x inner (f e) (child_of x.plan i e) m (λ j. (ss j).body.children e)) where
  abbrev Fit : Grown (t_dense ids nullable f) → ℕ → Type 0
  Fit = FineOf (t_dense ids nullable f) m (λ j. (ss j).body) (λ z. true)

  -- the model's copy of slot a
  abbrev model_row : ℕ → Grown (t_dense ids nullable f) → Try (Grown (t_dense ids nullable f))
  model_row = dense_row (λ e. extend_node (masks (f e)) (extend_data (f e) m) (λ j. (ss j).body.children e) x.source) (ss x.source).body

  -- one row of the copy
  row_goes : (slot r l : ℕ) (d : Grown (t_dense ids nullable f)) (c : List ℕ) (μ : Memory) → (ss x.source).off ≤ slot + r → slot + r < (ss x.source).off + (ss x.source).len
      → Fit d (l + r) → length c ≡ 96 → rows c i ≡ l → HoldsData x.plan (t_dense ids nullable f) i d c μ
      → Goes μ (Left x.plan (t_dense ids nullable f) i c μ) (model_row (slot + r) d) (walkRow x inner i slot r c)
  row_goes slot r l d c μ low high fit long rows_are h =
      let s = (ss x.source).body in
      let rule = (g.obey x.source g.known).slots in
      let off = (ss x.source).off in
      let a = slot + r in
      let b = get_or s.ids a 0 in
      let here : off + (a - off) ≡ a = omega arith in
      let p : Memᴰ b ids = subst (λ z. Memᴰ (get_or s.ids z 0) ids) here (rule.declared (a - off) (omega arith)) in
      let at : item 4 s.positions a < (s.children b).len
      = subst (λ z. item 4 s.positions z < (s.children (get_or s.ids z 0)).len) here (rule.within (a - off) (omega arith)) in
      let e1 = sym (part_byte x.body (place x i 3) (place x i 4) s.ids g.lent.body_is.0 a (omega (arith, rule.hold_ids))) in
      let e2 = sym (part_entry x.body (place x i 5) (place x i 6) s.positions g.lent.body_is.1 4 a (omega (arith, rule.hold_positions))) in
      let w = g.worded in
      let field = child_field x.plan k ids nullable f i w.4 (omega (arith, w.2)) b p in
      let held = h.2 b p in
      rw (row_is x inner i slot r b (item 4 s.positions a) c e1 e2)
      (goes_found 32 (child_of x.plan i b) 12 c _ (omega (arith, field.span))
      (goes_guard (ltb (d.children b).len (half 4)) (ltb (rows c (child_of x.plan i b)) (half 4)) 6 c (omega arith) (ap (λ z. ltb z (half 4)) held.rows_are)
      (λ test.
      let room : (d.children b).len < half 4 = ltb-true _ _ test in
      dense_one x.plan k ids nullable f i w b p (λ c3. inner (child_of x.plan i b) (item 4 s.positions a) 1 c3) d
      (λ e. extend_node (masks (f e)) (extend_data (f e) m) (λ j. (ss j).body.children e) x.source (item 4 s.positions a) 1 (d.children e))
      (b ∷ []) (encode 4 (d.children b).len) (rows c i + r) (λ c2. (rows c2 i + r) * 4) (λ c2. encode 4 (rows c2 (child_of x.plan i b))) c μ
      (λ ν kid. kids b p (item 4 s.positions a) 1 (d.children b) c ν (omega arith) (fit.kids_fine b p) (small_of _ (omega arith)) long kid)
      (ap (λ z. z + r) rows_are ∙ sym fit.ids_are) (ap (λ z. (z + r) * 4) rows_are ∙ sym fit.positions_are) (ap (encode 4) held.rows_are) h)))

  -- .. is still well formed
  row_fine : (a l : ℕ) (d d' : Grown (t_dense ids nullable f)) → (ss x.source).off ≤ a → a < (ss x.source).off + (ss x.source).len → Fit d l → model_row a d ≡ done d' → Fit d' (suc l)
  row_fine a l d d' low high fit is =
      let put = agrees_value (g.lawful.copies x.source a 1 l (λ z. true) d g.known low (omega arith) fit) d' (ap (λ z. then z (steps_t model_row (suc a) 0)) is) in
      rw add-one at (put.ends (λ z. true) (λ z q. refl) (λ z q. all_valid (ss x.source).valid _ (a + z) (g.obey x.source g.known).mask))

  -- A DENSE UNION'S COPIES
  pub dense_copies : CopiesData x inner (t_dense ids nullable f) i m ss
  dense_copies slot n d c μ low high fine small long rows_are h =
      let s = (ss x.source).body in
      let rule = (g.obey x.source g.known).slots in
      let both : rows_in x (place x i 3) 1 slot n && rows_in x (place x i 5) 4 slot n ≡ true
      = rw (
        part_rows x (place x i 3) (place x i 4) 1 slot n s.ids g.lent.body_is.0 (omega (arith, rule.hold_ids)),
        part_rows x (place x i 5) (place x i 6) 4 slot n s.positions g.lent.body_is.1 (omega (arith, rule.hold_positions)),
      ) in
      rw (dense_copy_is x inner i slot n c g.worded.1)
      (goes_need _ 12 c both
      (goes_map (λ y c' μ' q. q.0)
      (rw add-zero at
      (goes_rows slot n model_row (walkRow x inner i slot) (λ r y c' μ'. Left x.plan (t_dense ids nullable f) i c μ y c' μ' × Fit y (d.len + r))
      (λ r q y c2 ν z.
      goes_map
      (λ y2 c3 ξ v. (
        (v.0.0, data_kept_then z.0.1 v.0.1),
        rw add-suc (row_fine (slot + r) (d.len + r) y y2 (omega arith) (omega arith) z.1 v.1),
      ))
      (goes_known
      (row_goes slot r d.len y c2 ν (omega arith) (omega arith) z.1 (z.0.1.long ∙ long) (z.0.1.rows_own ∙ rows_are) z.0.0)))
      n 0 (omega arith) d.«data» c μ
      ((h, record { long = refl; rows_own = refl; nulls_own = refl; bits_own = refl; outside = λ j q. same_refl c μ j }), rw add-zero fine.data_fine)))))

-- ---- nulls

dense_null_is : (x : Join) (inner : NullWalk) (i n : ℕ) (c : List ℕ) → code_of x.plan i ≡ 22
    → null_data x inner (code_of x.plan i) i n c
    ≡ found 32 (nullable_child x.plan (end_of x.plan i) 32 (suc i)) (no_home x.plan i) c
    (λ h. need (leb (rows c h + n) (half 4)) 6 c
    (next (wrote (put i 1 (rows c i) (replicate n (id_of x.plan h))) c) (λ c2. next (wrote (put i 2 (rows c2 i * 4) (counted_up 4 (rows c2 h) n)) c2) (λ c3. inner h n c3))))
unfolding null_data null_dense
dense_null_is x inner i n c e = ap (λ z. null_data x inner z i n c) e

-- A DENSE UNION'S NULLS
pub dense_fills : (x : Join) (inner : NullWalk) (k : ℕ) (ids : List ℕ) (nullable : ℕ → Bool) (f : ℕ → Ty) (i m : ℕ) (ss : ℕ → Column (t_dense ids nullable f))
    → Given x (suc k) (t_dense ids nullable f) i m ss
    → ((e : ℕ) → Memᴰ e ids → Fills x inner (f e) (child_of x.plan i e) m (λ j. (ss j).body.children e)) → FillsData x inner (t_dense ids nullable f) i m ss
dense_fills x inner k ids nullable f i m ss g kids n d c μ more fine keep small long h =
    let fit = fine.data_fine in
    let w = g.worded in
    rw (dense_null_is x inner i n c w.1)
    (goes_home x.plan (λ e. Worded x.plan k (f e)) nullable i _ _ c ids w.4 g.formed.0 (omega (arith, w.2))
    (λ b p.
    let kid = d.«data».children b in
    let held = h.data_are.2 b p in
    rw (child_field x.plan k ids nullable f i w.4 (omega (arith, w.2)) b p).has_id
    (goes_guard (leb (kid.len + n) (half 4)) (leb (rows c (child_of x.plan i b) + n) (half 4)) 6 c (omega arith) (ap (λ z. leb (z + n) (half 4)) held.rows_are)
    (λ test.
    let room : kid.len + n ≤ half 4 = leb-true _ _ test in
    dense_one x.plan k ids nullable f i w b p (λ c3. inner (child_of x.plan i b) n c3) d.«data» (λ e. nulls_node (masks (f e)) (nulls_data (f e)) n (d.«data».children e))
    (replicate n b) (positions_from kid.len n) (rows c i) (λ c2. rows c2 i * 4) (λ c2. counted_up 4 (rows c2 (child_of x.plan i b)) n) c μ
    (λ ν hk. kids b p n kid c ν (fit.kids_fine b p) (keep.below b p) (small_of _ (omega arith)) long hk)
    (h.rows_are ∙ sym fit.ids_are) (ap (λ z. z * 4) h.rows_are ∙ sym fit.positions_are)
    (ap (λ z. counted_up 4 z n) held.rows_are ∙ counted_positions kid.len n) h.data_are))))
