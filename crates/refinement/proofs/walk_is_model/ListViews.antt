-- List-views: a copy row by row, and nulls. Assumes nothing.
use mathlib.Core.Path.{◌≡◌, refl, sym, ap, subst, ◌∙◌}
use mathlib.Core.Bool.{Bool, true, ◌&&◌}
use mathlib.Core.List.{List, ◌++◌}
use Prim.Native.Nat.{ℕ, suc, ◌+◌, ◌-◌, ◌*◌, ◌≤◌, ◌<◌}
use native.Mathlib.Nat.{add-zero, zero-add, mul-le-mul_right}
use native.Mathlib.Omega.{arith}
use lib.ListN.{length, replicate}
use lib.Dec.{ltb}
use borrow.Author.Tests.{ltb-true, lt-ltb}
use Rattle.number.specs.Number.{entry, encode}
use Rattle.columnar.specs.Types.{half, Ty, t_list_view}
use Rattle.columnar.specs.Array.{item, ok}
use Rattle.columnar.specs.ListView.{Entry}
use Rattle.columnar.specs.Reading.{Column, masks}
use Rattle.schema.specs.formats.Code.{is_list_view}
use Rattle.model.specs.Try.{done, then}
use Rattle.model.specs.Mutable.{extend_node}
use Rattle.model.specs.ListViews.{Lists, list_row}
use Rattle.model.specs.Transform.{Grown, Destination, extend_data}
use Rattle.model.proofs.Law.{Put, FineNode}
use Rattle.model.proofs.Nodes.{ListFine, FineOf, kind_of}
use Rattle.walk.specs.State.{Join, far, code_of, bytes_of, end_of, rows, nulls, place, rows_in}
use Rattle.walk.specs.Log.{put, wrote, need, next, each}
use Rattle.walk.specs.Leaves.{null_numbers}
use Rattle.walk.specs.Copy.{Walk, copy_data, copy_list_view, list_view_row}
use Rattle.walk.specs.Nulls.{NullWalk, null_data, null_list_view}
use Rattle.refinement.specs.walk_is_model.Memory.{Memory, put_in}
use Rattle.refinement.specs.walk_is_model.Holds.{HoldsData, Holds}
use Rattle.refinement.proofs.walk_is_model.Goes.{Goes, goes_guard, goes_need, goes_wrote, goes_map}
use Rattle.refinement.proofs.walk_is_model.Frame.{SameAt, same_then, Kept, kept_refl, worded_span, held_same}
use Rattle.refinement.proofs.walk_is_model.Owed.{DataKept, Given, Copies, CopiesData, FillsData}
use Rattle.refinement.proofs.walk_is_model.Pairs.{goes_both, goes_wrap, goes_last, goes_rows}
use Rattle.refinement.proofs.walk_is_model.Kids.{worded_small}
use Rattle.refinement.proofs.walk_is_model.Places.{data_kept_refl, data_kept_then, part_entry, rows_in_lem, put_here, put_beside, put_other, small_of, width_small, half_far, between_apart}

-- ---- both buffers of a node written, then its child

module _ (i : ℕ) (ps qs : List ℕ) (μ : Memory) where
  abbrev pub written : Memory
  written = put_in i 2 qs (put_in i 1 ps μ)

  pub written_first : written.at i 1 ≡ μ.at i 1 ++ ps
  written_first = put_beside i 2 qs (put_in i 1 ps μ) 1 (λ e. omega (arith, e)) ∙ put_here i 1 ps μ

  pub written_second : written.at i 2 ≡ μ.at i 2 ++ qs
  written_second = put_here i 2 qs (put_in i 1 ps μ) ∙ ap (◌++ qs) (put_beside i 1 ps μ 2 (λ e. omega (arith, e)))

  pub written_other : (c : List ℕ) (j : ℕ) → (j ≡ i → ⊥) → SameAt c c μ written j
  written_other c j h = same_then (put_other i 1 ps μ c j h) (put_other i 2 qs (put_in i 1 ps μ) c j h)

  -- .. leaves all but the node's own data and what is below it
  pub written_kept : (e : ℕ) (c c' : List ℕ) (ν : Memory) → i < e → Kept (suc i) e c c' written ν → DataKept i e c c' μ ν
  written_kept e c c' ν q k =
      let own = k.outside i (λ a b. omega arith) in
      record {
        long = k.long;
        rows_own = own.rows_same;
        nulls_own = own.nulls_same;
        bits_own = own.bits_same;
        outside = λ j h.
            same_then (written_other c j (λ z. h (omega (arith, z)) (omega (arith, z)))) (k.outside j (λ a b. h (omega arith) b));
      }

module _ (x : Join) (k w : ℕ) (t : Ty) (i m : ℕ) (ss : ℕ → Column (t_list_view w t)) (g : Given x (suc k) (t_list_view w t) i m ss) where
  abbrev Src : Column (t_list_view w t)
  Src = ss x.source

  abbrev kids : ℕ → Column t
  kids j = (ss j).body.child

  abbrev FineLists : Lists (Grown t) → ℕ → Type 0
  FineLists = ListFine w (FineNode (masks t) (FineOf t m (λ j. (kids j).body)) m kids)

  same_end : end_of x.plan i ≡ end_of x.plan (suc i)
  same_end = g.worded.1

  ends : suc i < end_of x.plan (suc i)
  ends = worded_span x.plan k t (suc i) g.worded.4

  -- the walk of a list-view's code
  code_is : is_list_view (code_of x.plan i) ≡ true
  code_is = g.worded.2

  copy_is : (inner : Walk) (slot n : ℕ) (c : List ℕ) → copy_data x inner (code_of x.plan i) i slot n c
      ≡ need (ltb (suc i) 32) 12 c (need (rows_in x (place x i 3) w slot n && rows_in x (place x i 5) w slot n) 12 c (each (list_view_row x inner w i slot) n 0 c))
  unfolding copy_data copy_list_view
  copy_is inner slot n c =
      let code = code_of x.plan i in
      rw (between_apart 17 18 1 10 code code_is (omega arith), between_apart 17 18 11 14 code code_is (omega arith), between_apart 17 18 15 16 code code_is (omega arith), code_is, g.worded.3)

  null_is : (inner : NullWalk) (n : ℕ) (c : List ℕ) → null_data x inner (code_of x.plan i) i n c
      ≡ next (wrote (put i 1 (rows c i * w) (replicate (n * w) 0)) c) (λ c2. wrote (put i 2 (rows c2 i * w) (replicate (n * w) 0)) c2)
  unfolding null_data null_list_view null_numbers
  null_is inner n c =
      let code = code_of x.plan i in
      rw (between_apart 17 18 1 10 code code_is (omega arith), between_apart 17 18 11 14 code code_is (omega arith), between_apart 17 18 15 16 code code_is (omega arith), code_is, g.worded.3)

  half_small : half w ≤ far
  half_small = rw (sym g.worded.3) (half_far (bytes_of x.plan i) (width_small (code_of x.plan i)))

  -- ---- one row

  module _ (inner : Walk) (go_on_lem : Copies x inner t (suc i) m kids) (slot r : ℕ) (low : Src.off ≤ slot) (high : slot + r < Src.off + Src.len) where
    rule : Entry w Src.body (slot + r)
    rule =
        let e : Src.off + (slot + r - Src.off) ≡ slot + r = omega arith in
        subst (Entry w Src.body) e ((g.obey x.source g.known).slots.entries (slot + r - Src.off) (omega arith))

    offset_is : entry w x.body (place x i 3) (slot + r) ≡ item w Src.body.offsets (slot + r)
    offset_is = part_entry g.lent.body_is.0 w (slot + r) (Src.off + Src.len) high (g.obey x.source g.known).slots.hold_offsets

    size_is : entry w x.body (place x i 5) (slot + r) ≡ item w Src.body.sizes (slot + r)
    size_is = part_entry g.lent.body_is.1 w (slot + r) (Src.off + Src.len) high (g.obey x.source g.known).slots.hold_sizes

    row_goes : (l : ℕ) (d : Lists (Grown t)) (c : List ℕ) (μ : Memory) → FineLists d (l + r) → rows c i ≡ l → length c ≡ 96 → HoldsData x.plan (t_list_view w t) i d c μ
        → Goes μ (λ d' c' μ'. HoldsData x.plan (t_list_view w t) i d' c' μ' × DataKept i (end_of x.plan i) c c' μ μ')
        (list_row w (extend_node (masks t) (extend_data t m) kids x.source) Src.body (slot + r) d) (list_view_row x inner w i slot r c)
    unfolding list_view_row
    row_goes l d c μ fine rows_are long h =
        let o = item w Src.body.offsets (slot + r) in
        let z = item w Src.body.sizes (slot + r) in
        let e : rows c (suc i) ≡ d.child.len = h.2.rows_are in
        let ps = encode w d.child.len in
        let qs = encode w z in
        rw (offset_is, size_is, e, rows_are)
        (goes_guard (ltb (d.child.len + z) (half w)) (ltb (d.child.len + z) (half w)) 6 c (omega arith) refl
        (λ q.
        goes_wrote (put i 1 ((l + r) * w) ps) c _ (sym (ap length h.0 ∙ fine.offsets_are))
        (rw rows_are
        (goes_wrote (put i 2 ((l + r) * w) qs) c _ (sym (ap length (put_beside i 1 ps μ 2 (λ y. omega (arith, y)) ∙ h.1) ∙ fine.sizes_are))
        (goes_wrap (λ y. record { buffer1 = d.buffer1 ++ ps; buffer2 = d.buffer2 ++ qs; child = y })
        (λ y c' ν p. finish d c μ z h.0 h.1 y c' ν p)
        (go_on_lem o z d.child c (written i ps qs μ) rule.within fine.child_fine (small_of (d.child.len + z) (omega (arith, half_small, ltb-true (d.child.len + z) (half w) q))) long
        (held_same x.plan c c μ (written i ps qs μ) k t (suc i) d.child g.worded.4 (λ j a b. written_other i ps qs μ c j (λ y. omega (arith, y))) h.2)))))))
      where
        finish : (d : Lists (Grown t)) (c : List ℕ) (μ : Memory) (z : ℕ) → μ.at i 1 ≡ d.buffer1 → μ.at i 2 ≡ d.buffer2
            → (y : Destination t) (c' : List ℕ) (ν : Memory)
            → Holds x.plan t (suc i) y c' ν × Kept (suc i) (end_of x.plan (suc i)) c c' (written i (encode w d.child.len) (encode w z) μ) ν
            → HoldsData x.plan (t_list_view w t) i (record { buffer1 = d.buffer1 ++ encode w d.child.len; buffer2 = d.buffer2 ++ encode w z; child = y }) c' ν
            × DataKept i (end_of x.plan i) c c' μ ν
        finish d c μ z h1 h2 y c' ν p =
            let ps = encode w d.child.len in
            let qs = encode w z in
            let own = p.1.outside i (λ a b. omega arith) in (
              (own.at_same 1 ∙ written_first i ps qs μ ∙ ap (◌++ ps) h1, own.at_same 2 ∙ written_second i ps qs μ ∙ ap (◌++ qs) h2, p.0),
              rw same_end (written_kept i ps qs μ (end_of x.plan (suc i)) c c' ν (omega (arith, ends)) p.1),
            )

  -- ---- all rows: r of them are done

  abbrev Going : ℕ → List ℕ → Memory → ℕ → Lists (Grown t) → List ℕ → Memory → Type 0
  Going l c μ r d c' μ' = FineLists d (l + r) × HoldsData x.plan (t_list_view w t) i d c' μ' × DataKept i (end_of x.plan i) c c' μ μ'

  -- the model's own theorem on one row
  row_fine : (a l : ℕ) (d d' : Lists (Grown t)) → Put (λ e i. (kind_of (t_list_view w t) m (λ j. (ss j).body)).at ((kind_of (t_list_view w t) m (λ j. (ss j).body)).frz e) i)
      (kind_of (t_list_view w t) m (λ j. (ss j).body)).fine (kind_of (t_list_view w t) m (λ j. (ss j).body)).keep (λ z. ok Src.valid (a + (z - l))) d l 1
      (λ z. ok Src.valid (a + z)) (λ z. (kind_of (t_list_view w t) m (λ j. (ss j).body)).at Src.body (a + z)) d'
      → FineLists d' (l + 1)
  row_fine a l d d' p = p.ends (λ z. ok Src.valid (a + (z - l))) (λ z q. refl) (λ z q. let e : l + z - l ≡ z = omega arith in ap (λ y. ok Src.valid (a + y)) e)

  copies : (inner : Walk) → Copies x inner t (suc i) m kids → CopiesData x inner (t_list_view w t) i m ss
  copies inner go_on_lem slot n d c μ low high fine small long rows_are h =
      let s = (g.obey x.source g.known).slots in
      let q : (slot + n) * w ≤ (Src.off + Src.len) * w = mul-le-mul_right w high in
      rw (copy_is inner slot n c)
      (goes_need _ 12 c (lt-ltb (suc i) 32 (worded_small x.plan k t (suc i) g.worded.4))
      (goes_need _ 12 c (both_in_lem (rows_in_lem x (place x i 3) (place x i 4) Src.body.offsets w slot n g.lent.body_is.0 (omega (arith, s.hold_offsets)))
      (rows_in_lem x (place x i 5) (place x i 6) Src.body.sizes w slot n g.lent.body_is.1 (omega (arith, s.hold_sizes))))
      (goes_map (λ e c' ν p. (p.1, p.2)) (rw (add-zero slot, zero-add n) at
      (goes_rows slot n (list_row w (extend_node (masks t) (extend_data t m) kids x.source) Src.body) (list_view_row x inner w i slot) (Going d.len c μ) step n 0 d.«data» c μ (omega arith)
      (rw (add-zero d.len) fine.data_fine, h, data_kept_refl i (end_of x.plan i) c μ))))))
    where
      both_in_lem : {a b : Bool} → a ≡ true → b ≡ true → (a && b) ≡ true
      both_in_lem p q = rw (p, q)

      step : (r : ℕ) (e : Lists (Grown t)) (c' : List ℕ) (ν : Memory) → r < n → Going d.len c μ r e c' ν
          → Goes ν (Going d.len c μ (suc r)) (list_row w (extend_node (masks t) (extend_data t m) kids x.source) Src.body (slot + r) e) (list_view_row x inner w i slot r c')
      step r e c' ν q p =
          goes_map (λ f c2 ν2 u. (subst (FineLists f) (suc_shift d.len r) (row_fine (slot + r) (d.len + r) e f u.1), u.0.0, data_kept_then p.2 u.0.1))
          (goes_both (row_goes inner go_on_lem slot r low (omega arith) d.len e c' ν p.0 (p.2.rows_own ∙ rows_are) (p.2.long ∙ long) p.1)
          (g.lawful.copies x.source (slot + r) 1 (d.len + r) (λ z. ok Src.valid (slot + r + (z - (d.len + r)))) e g.known (omega arith) (omega arith) p.0))
        where
          suc_shift : (a b : ℕ) → a + b + 1 ≡ a + suc b
          suc_shift a b = omega arith

  -- ---- nulls

  fills : (inner : NullWalk) → FillsData x inner (t_list_view w t) i m ss
  fills inner n d c μ some fine keep small long h =
      let zs : List ℕ = replicate (n * w) 0 in
      rw (null_is inner n c)
      (goes_wrote (put i 1 (rows c i * w) zs) c _ (ap (◌* w) h.rows_are ∙ sym (ap length h.data_are.0 ∙ fine.data_fine.offsets_are))
      (goes_last _ (put i 2 (rows c i * w) zs) c
      (ap (◌* w) h.rows_are ∙ sym (ap length (put_beside i 1 zs μ 2 (λ y. omega (arith, y)) ∙ h.data_are.1) ∙ fine.data_fine.sizes_are)) (
        (
          written_first i zs zs μ ∙ ap (◌++ zs) h.data_are.0,
          written_second i zs zs μ ∙ ap (◌++ zs) h.data_are.1,
          held_same x.plan c c μ (written i zs zs μ) k t (suc i) d.«data».child g.worded.4 (λ j a b. written_other i zs zs μ c j (λ y. omega (arith, y))) h.data_are.2,
        ),
        written_kept i zs zs μ (end_of x.plan i) c c (written i zs zs μ) (omega (arith, ends, same_end)) (kept_refl (suc i) (end_of x.plan i) c (written i zs zs μ)),
      )))

-- A LIST-VIEW'S COPY GOES WITH THE MODEL'S, where its child's does
pub list_copies : (x : Join) (inner : Walk) (k w : ℕ) (t : Ty) (i m : ℕ) (ss : ℕ → Column (t_list_view w t)) → Given x (suc k) (t_list_view w t) i m ss
    → Copies x inner t (suc i) m (λ j. (ss j).body.child) → CopiesData x inner (t_list_view w t) i m ss
list_copies x inner k w t i m ss g = copies x k w t i m ss g inner

-- .. and its nulls
pub list_fills : (x : Join) (inner : NullWalk) (k w : ℕ) (t : Ty) (i m : ℕ) (ss : ℕ → Column (t_list_view w t)) → Given x (suc k) (t_list_view w t) i m ss
    → FillsData x inner (t_list_view w t) i m ss
list_fills x inner k w t i m ss g = fills x k w t i m ss g inner
