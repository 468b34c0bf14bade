-- What stretches ask of a child's logs, for a list-view that keeps no nulls. Assumes nothing.
use mathlib.Core.Path.{◌≡◌, refl, sym, ap, subst, ◌∙◌}
use mathlib.Core.Bool.{true, cond, ◌&&◌}
use mathlib.Core.List.{List, [], ◌∷◌, ◌++◌, append-nil, append_assoc}
use Prim.Native.Nat.{ℕ, zero, suc, ◌+◌, ◌*◌, ◌≤◌, ◌<◌}
use native.Mathlib.Nat.{zero-add, add-zero, suc-add, suc-mul, mul-le-mul_right, le_trans}
use native.Mathlib.Omega.{arith}
use lib.ListN.{length}
use lib.Dec.{ltb, eqb}
use borrow.Author.Tests.{lt-ltb, ne_eqb}
use Rattle.number.specs.Number.{encode, splice}
use Rattle.number.proofs.Laws.{length_encode}
use Rattle.bits.proofs.Laws.{Below, below_of_lem}
use Rattle.columnar.specs.Types.{half}
use Rattle.schema.specs.formats.Code.{is_list_view}
use Rattle.refinement.proofs.log_in_room.Bytes.{bytes_encode}
use Rattle.refinement.proofs.walk_is_model.Counters.{rows_added, rows_other}
use Rattle.walk.specs.State.{Join, code_of, keeps_of, bytes_of, rows, top, grown, add_rows, far, slot_of}
use Rattle.walk.specs.Log.{Log, Out, put, done, wrote, need, found, next, each}
use Rattle.walk.specs.Copy.{Walk, list_view_row, copy_list_view, copy_slots, copy_node}
use Rattle.batch.specs.Batch.{batch_list_view, batch_slots, batch_node}
use Rattle.batch.proofs.Ends.{Leaves, leaves_own, leaves_next, need_is, found_is, next_start_lem, next_rest}
use Rattle.batch.proofs.Tally.{Counts}
use Rattle.batch.proofs.Stretches.{Cuts, each_split}
use Rattle.batch.proofs.LeafNode.{list_view_width}
use Rattle.batch.proofs.Windows.{span, within, within_append, AllInside}
use Rattle.batch.proofs.Alike.{Window, Alike, alike_refl, alike_append}
use Rattle.batch.proofs.StretchLogs.{CutLogs, next_log, each_before}
use Rattle.batch.proofs.ListWrites.{list_write}
use Rattle.batch.proofs.Nested.{at, slots_is, stretches_is, Lies, by_was, kid, start, size, row, item, mid, list_goes, view_was, row_was, bare, each_after, row_moved, view_cuts}

-- the log of m + s rows
each_split_log : (f : ℕ → List ℕ → Out) (m s r : ℕ) (c d : List ℕ) → Leaves (each f (m + s) r c) d
    → (each f (m + s) r c).log ≡ (each f m r c).log ++ (each f s (r + m) (each f m r c).counters).log
unfolding each done
each_split_log f zero s r c d l = rw (zero-add s, add-zero r) refl
each_split_log f (suc m) s r c d l =
    let e : suc m + s ≡ suc (m + s) = suc-add m s in
    let on : List ℕ → Out = λ z. each f (m + s) (suc r) z in
    let l2 : Leaves (next (f r c) on) d = rw e at l in
    let one = next_start_lem (f r c) on l2 in
    let two = next_rest (f r c) on l2 in
    let p = each_split f m s (suc r) (f r c).counters d two in
    let w = leaves_next (λ z. each f m (suc r) z) one p.0 in
    let v : r + suc m ≡ suc r + m = omega arith in
    rw (e, next_log on one, each_split_log f m s (suc r) (f r c).counters d two, next_log (λ z. each f m (suc r) z) one, w.left, v, append_assoc (f r c).log _ _)

module _ (x : Join) (M : ℕ) (K : ℕ → ℕ → Type 0) (k : ℕ) (is : is_list_view (code_of x.plan k) ≡ true) (plain : keeps_of x.plan k ≡ 0) (child below : Walk) (good : ℕ → ℕ → List ℕ → Type 0)
    (roomy : List ℕ → Type 0) (cuts : Cuts (suc k) good (λ a n c. below (suc k) a n c) (λ a n c. child (suc k) a n c))
    (logs : CutLogs x.plan x.parts M K (suc k) roomy good (λ a n c. below (suc k) a n c) (λ a n c. child (suc k) a n c)) (k1 : K k 1) (k2 : K k 2) (body : Below 256 x.body) where
  abbrev Al : Log → Log → Type 0
  Al l m = Alike x.plan x.parts M K l m

  abbrev Sp : ℕ → ℕ
  Sp b = span x.plan x.parts M K k b

  abbrev B : ℕ
  B = bytes_of x.plan k

  abbrev Row : ℕ → ℕ → List ℕ → Out
  Row slot r c = row x k is plain child slot r c

  abbrev Kid : ℕ → ℕ → List ℕ → Out
  Kid a n c = kid x k is plain child a n c

  abbrev Mid : ℕ → ℕ → List ℕ → List ℕ
  Mid a n c = mid x k is plain child a n c

  abbrev At : ℕ → ℕ
  At a = at x k is plain a

  abbrev Size : ℕ → ℕ
  Size slot = size x k is plain child slot

  abbrev Start : ℕ → ℕ
  Start slot = start x k is plain child slot

  -- the parts hold what the counters say
  pub record Holds (c : List ℕ) : Type 0 where
    pub under : rows c k < top
    pub one : rows c k * B ≤ Sp 1
    pub two : rows c k * B ≤ Sp 2
    pub kids : roomy c

  -- ---- rows one after the other

  row_log : (slot r : ℕ) (c : List ℕ) → ltb (rows c (suc k) + Size (slot + r)) (half B) ≡ true
      → (Row slot r c).log ≡ put k 1 ((rows c k + r) * B) (encode B (rows c (suc k))) ∷ put k 2 ((rows c k + r) * B) (encode B (Size (slot + r))) ∷ (item x k is plain child slot r c).log
  unfolding list_view_row need next wrote
  row_log slot r c h = rw h refl

  -- the writes of a row at position p, whose slot is v, from a child of b rows, and what follows
  abbrev writes : ℕ → ℕ → ℕ → Log → Log
  writes v b p l = put k 1 (p * B) (encode B b) ∷ put k 2 (p * B) (encode B (Size v)) ∷ l

  row_before : (slot n r : ℕ) (c d : List ℕ) → Counts c → Leaves (each (Row slot) n r c) d → roomy d → roomy c
  row_before slot n r c d f l y =
      each_before x.plan x.parts M K (suc k) roomy good (λ a n c. below (suc k) a n c) (λ a n c. child (suc k) a n c) cuts logs (λ r. Start (slot + r)) (λ r. Size (slot + r)) n r c d f
      (bare x k is plain child slot n r c d l) y

  puts_inside : (p : ℕ) (v w : List ℕ) → p + length v ≤ Sp 1 → p + length w ≤ Sp 2 → Below 256 v → Below 256 w → AllInside x.plan x.parts M K (put k 1 p v ∷ put k 2 p w ∷ [])
  unfolding AllInside
  puts_inside p v w f g u z = ((k1, omega arith, f, u), ((k2, omega arith, g, z), tt))

  encoded : (v : ℕ) → Below 256 (encode B v)
  encoded v = below_of_lem 256 (encode B v) (bytes_encode B v)

  -- T: a change of counters that the child does not see
  module _ (T : List ℕ → List ℕ) (kept : (c : List ℕ) → rows (T c) (suc k) ≡ rows c (suc k))
      (moves : (a n : ℕ) (c d : List ℕ) → Counts c → Leaves (child (suc k) a n c) d → Leaves (child (suc k) a n (T c)) (T d))
      (like : (a n : ℕ) (c d : List ℕ) → Counts c → Leaves (child (suc k) a n c) d → roomy d → Al (child (suc k) a n c).log (child (suc k) a n (T c)).log)
      (same : (c d : List ℕ) → Counts c → Counts d → rows c k ≡ rows d k → rows (T c) k ≡ rows (T d) k) where
    row_alike : (slot to r q : ℕ) (c d : List ℕ) → slot + r ≡ to + q → Counts c → rows c k + r ≡ rows (T c) k + q → (rows c k + suc r) * B ≤ Sp 1 → (rows c k + suc r) * B ≤ Sp 2
        → Leaves (Row slot r c) d → roomy d → Al (Row slot r c).log (Row to q (T c)).log
    row_alike slot to r q c d e f g s1 s2 l y =
        let v = row_was x k is plain child slot r c d l in
        let I : Log = (item x k is plain child to q (T c)).log in
        let z : Al (item x k is plain child slot r c).log I =
        subst (λ u. Al (item x k is plain child slot r c).log (child (suc k) (Start u) (Size u) (T c)).log) e (like (Start (slot + r)) (Size (slot + r)) c d f v.1 y) in
        let t : ltb (rows (T c) (suc k) + Size (to + q)) (half B) ≡ true = rw (kept c, ← e) v.0 in
        let a = length_encode B (rows c (suc k)) in
        let b = length_encode B (Size (slot + r)) in
        let p : (rows c k + suc r) * B ≡ (rows c k + r) * B + B = let u : rows c k + suc r ≡ suc (rows c k + r) = omega arith in let w = suc-mul (rows c k + r) B in rw u (omega arith) in
        let o : (Row to q (T c)).log ≡ writes (slot + r) (rows c (suc k)) (rows c k + r) I =
        row_log to q (T c) t
        ∙ ap (λ u. writes u (rows (T c) (suc k)) (rows (T c) k + q) I) (sym e)
        ∙ ap (λ u. writes (slot + r) u (rows (T c) k + q) I) (kept c)
        ∙ ap (λ u. writes (slot + r) (rows c (suc k)) u I) (sym g) in
        rw (row_log slot r c v.0, o)
        (alike_append x.plan x.parts M K
        (alike_refl x.plan x.parts M K (put k 1 ((rows c k + r) * B) (encode B (rows c (suc k))) ∷ put k 2 ((rows c k + r) * B) (encode B (Size (slot + r))) ∷ [])
        (puts_inside ((rows c k + r) * B) (encode B (rows c (suc k))) (encode B (Size (slot + r))) (omega arith) (omega arith) (encoded _) (encoded _))) z)

    each_alike : (slot to n r q : ℕ) (c d : List ℕ) → slot + r ≡ to + q → Counts c → rows c k + r ≡ rows (T c) k + q → (rows c k + (r + n)) * B ≤ Sp 1 → (rows c k + (r + n)) * B ≤ Sp 2
        → Leaves (each (Row slot) n r c) d → roomy d → Al (each (Row slot) n r c).log (each (Row to) n q (T c)).log
    unfolding each done AllInside
    each_alike slot to zero r q c d e f g s1 s2 l y = alike_refl x.plan x.parts M K [] tt
    each_alike slot to (suc n) r q c d e f g s1 s2 l y =
        let on : List ℕ → Out = λ z. each (Row slot) n (suc r) z in
        let on2 : List ℕ → Out = λ z. each (Row to) n (suc q) z in
        let c1 : List ℕ = (Row slot r c).counters in
        let one = next_start_lem (Row slot r c) on l in
        let more = next_rest (Row slot r c) on l in
        let moved = row_moved x k is plain child below good cuts T kept moves slot to r q c c1 e f one in
        let s = cuts.step (Start (slot + r)) (Size (slot + r)) c c1 f (row_was x k is plain child slot r c c1 one).1 in
        let y1 = row_before slot n (suc r) c1 d s.0 more y in
        let g1 : rows c1 k ≡ rows c k = s.2 k (omega arith) in
        let g2 : rows (T c1) k ≡ rows (T c) k = same c1 c s.0 f g1 in
        let u : rows c k + suc r ≤ rows c k + (r + suc n) = omega arith in
        let m : (rows c k + suc r) * B ≤ (rows c k + (r + suc n)) * B = mul-le-mul_right B u in
        let w : rows c1 k + (suc r + n) ≡ rows c k + (r + suc n) = omega arith in
        rw (next_log on one, next_log on2 moved)
        (alike_append x.plan x.parts M K (row_alike slot to r q c c1 e f g (le_trans m s1) (le_trans m s2) one y1)
        (each_alike slot to n (suc r) (suc q) c1 d (omega arith) s.0 (omega arith) (rw w s1) (rw w s2) more y))

  skip : (i b e p : ℕ) (v w : List ℕ) → i < k → cond (eqb i k && eqb b e) (splice p v w) w ≡ w
  skip i b e p v w h = rw (ne_eqb i k (λ z. omega arith)) refl

  row_off : (slot r : ℕ) (c d : List ℕ) → Counts c → Leaves (Row slot r c) d → roomy d → (i b : ℕ) → i < k → K i b → (w : List ℕ) → Window x.plan x.parts M K i b w
      → within i b (Row slot r c).log w ≡ w
  unfolding within
  row_off slot r c d f l y i b h z w u =
      let v = row_was x k is plain child slot r c d l in
      let p : ℕ = (rows c k + r) * B in
      let I : Log = (item x k is plain child slot r c).log in
      ap (λ o. within i b o w) (row_log slot r c v.0)
      ∙ ap (λ o. within i b I (cond (eqb i k && eqb b 2) (splice p (encode B (Size (slot + r))) o) o)) (skip i b 1 p (encode B (rows c (suc k))) w h)
      ∙ ap (within i b I) (skip i b 2 p (encode B (Size (slot + r))) w h)
      ∙ logs.off (Start (slot + r)) (Size (slot + r)) c d f v.1 y i b (omega arith) z w u

  each_off : (slot n r : ℕ) (c d : List ℕ) → Counts c → Leaves (each (Row slot) n r c) d → roomy d → (i b : ℕ) → i < k → K i b → (w : List ℕ) → Window x.plan x.parts M K i b w
      → within i b (each (Row slot) n r c).log w ≡ w
  unfolding each done within
  each_off slot zero r c d f l y i b h z w u = refl
  each_off slot (suc n) r c d f l y i b h z w u =
      let on : List ℕ → Out = λ z. each (Row slot) n (suc r) z in
      let c1 : List ℕ = (Row slot r c).counters in
      let one = next_start_lem (Row slot r c) on l in
      let more = next_rest (Row slot r c) on l in
      let s = cuts.step (Start (slot + r)) (Size (slot + r)) c c1 f (row_was x k is plain child slot r c c1 one).1 in
      let y1 = row_before slot n (suc r) c1 d s.0 more y in
      rw (next_log on one, within_append i b (Row slot r c).log (on c1).log w, row_off slot r c c1 f one y1 i b h z w u)
      (each_off slot n (suc r) c1 d s.0 more y i b h z w u)

  -- ---- the node

  list_log : (a n : ℕ) (c d : List ℕ) → Lies x k is plain a n → Leaves (copy_list_view x child B k (At a) n c) d → (Kid a n c).log ≡ (copy_list_view x child B k (At a) n c).log
  unfolding copy_node slot_of done
  list_log a n c d h l =
      let e = h.near in
      rw (
        need_is 12 c (found far (slot_of x k a n) 12 c (λ slot. copy_slots x child k slot n c)) (lt-ltb k 32 h.node),
        lt-ltb (At a + n) far e,
        found_is far (At a) 12 c (λ slot. copy_slots x child k slot n c) (omega arith),
        slots_is x k is plain child (At a) n c,
        next_log (λ e. done (add_rows k n e)) l,
        append-nil (copy_list_view x child B k (At a) n c).log,
      )

  by_log : (a n : ℕ) (c d : List ℕ) → k < 32 → At a + n < far → Leaves (batch_list_view x below B k (At a) n c) d → (batch_node x below k a n c).log ≡ (batch_list_view x below B k (At a) n c).log
  unfolding batch_node slot_of done
  by_log a n c d s e l =
      rw (
        need_is 12 c (found far (slot_of x k a n) 12 c (λ slot. batch_slots x below k slot n c)) (lt-ltb k 32 s),
        lt-ltb (At a + n) far e,
        found_is far (At a) 12 c (λ slot. batch_slots x below k slot n c) (omega arith),
        stretches_is x k is plain below (At a) n c,
        next_log (λ e. done (add_rows k n e)) l,
        append-nil (batch_list_view x below B k (At a) n c).log,
      )

  each_log : (a n : ℕ) (c : List ℕ) → Lies x k is plain a n → (copy_list_view x child B k (At a) n c).log ≡ (each (Row (At a)) n 0 c).log
  unfolding copy_list_view need
  each_log a n c h = rw (h.kids, h.starts, h.sizes)

  view_log : (a n : ℕ) (c d : List ℕ) → Lies x k is plain a n → Leaves (each (Row (At a)) n 0 c) d → (Kid a n c).log ≡ (each (Row (At a)) n 0 c).log
  view_log a n c d h l = list_log a n c d h (list_goes x k is plain child a n c d h l) ∙ each_log a n c h

  module _ (a n : ℕ) (c d : List ℕ) (f : Counts c) (l : Leaves (Kid a n c) d) (y : Holds d) where
    lies : Lies x k is plain a n
    lies = (view_was x k is plain child a n c d l).0

    rows_are : Leaves (each (Row (At a)) n 0 c) (Mid a n c)
    rows_are = (view_was x k is plain child a n c d l).1

    end_is : add_rows k n (Mid a n c) ≡ d
    end_is = (view_was x k is plain child a n c d l).2

    -- no counter stood still
    rows_end : rows d k ≡ rows c k + n
    unfolding grown
    rows_end = let e = ((view_cuts x k is plain child below good cuts).step a n c d f l).1 in let u = y.under in omega arith

    fit : (b : ℕ) → rows d k * B ≤ Sp b → (rows c k + (0 + n)) * B ≤ Sp b
    fit b h = let e : rows c k + (0 + n) ≡ rows d k = let g = rows_end in omega arith in rw e h

    kids_roomy : roomy (Mid a n c)
    kids_roomy = logs.less k n (Mid a n c) (omega arith) (rw end_is y.kids)

    log_is : (Kid a n c).log ≡ (each (Row (At a)) n 0 c).log
    log_is = view_log a n c (Mid a n c) lies rows_are

    view_self : Al (Kid a n c).log (Kid a n c).log
    view_self =
        rw log_is
        (each_alike (λ z. z) (λ z. refl) (λ b m z w g p. p) (λ b m z w g p r. logs.self b m z w g p r) (λ z w g h e. e) (At a) (At a) n 0 0 c (Mid a n c) refl f refl (fit 1 y.one) (fit 2 y.two) rows_are kids_roomy)

    view_before : Holds c
    view_before =
        let e = rows_end in
        let u = y.under in
        let g : rows c k ≤ rows d k = omega arith in
        let m : rows c k * B ≤ rows d k * B = mul-le-mul_right B g in
        record { under = omega arith; one = le_trans m y.one; two = le_trans m y.two; kids = row_before (At a) n 0 c (Mid a n c) f rows_are kids_roomy }

    view_off : (i b : ℕ) → i < k → K i b → (w : List ℕ) → Window x.plan x.parts M K i b w → within i b (Kid a n c).log w ≡ w
    view_off i b h z w u = rw log_is (each_off (At a) n 0 c (Mid a n c) f rows_are kids_roomy i b h z w u)

    view_frame_log : (j m : ℕ) → j < k → Al (Kid a n c).log (Kid a n (add_rows j m c)).log
    view_frame_log j m h =
        let ne : k ≡ j → ⊥ = λ e. omega arith in
        let v = view_was x k is plain child a n (add_rows j m c) (add_rows j m d) ((view_cuts x k is plain child below good cuts).frame a n j m c d f h l) in
        rw (log_is, view_log a n (add_rows j m c) (Mid a n (add_rows j m c)) v.0 v.1)
        (each_alike (λ z. add_rows j m z) (λ z. rows_other z j m (suc k) (λ e. omega arith)) (λ b q z w g p. cuts.frame b q j m z w g (omega arith) p) (λ b q z w g p r. logs.frame_log b q j m z w g (omega arith) p r)
        (λ z w g o e. rows_other z j m k ne ∙ e ∙ sym (rows_other w j m k ne)) (At a) (At a) n 0 0 c (Mid a n c) refl f (ap (λ v. v + 0) (sym (rows_other c j m k ne))) (fit 1 y.one) (fit 2 y.two) rows_are kids_roomy)

  module _ (a m s : ℕ) (c d e : List ℕ) (f : Counts c) (g : Lies x k is plain a (m + s)) (l : Leaves (Kid a (m + s) c) d) (p : Leaves (Kid a m c) e) (y : Holds d) where
    abbrev c1 : List ℕ
    c1 = Mid a m c

    whole : Leaves (each (Row (At a)) (m + s) 0 c) (Mid a (m + s) c)
    whole = rows_are a (m + s) c d f l y

    halves : Leaves (each (Row (At a)) m 0 c) c1 × Leaves (each (Row (At a)) s (0 + m) c1) (Mid a (m + s) c)
    halves = each_split (Row (At a)) m s 0 c (Mid a (m + s) c) whole

    middle : add_rows k m c1 ≡ e
    middle = (view_was x k is plain child a m c e p).2

    second : Leaves (Kid (a + m) s e) d
    second =
        let t = ((view_cuts x k is plain child below good cuts).cut a m s c d f g l).1 in
        rw p.left at (next_rest (Kid a m c) (λ z. Kid (a + m) s z) t)

    one_kept : Counts c1 × (rows c1 k ≡ rows c k)
    one_kept = let t = each_after x k is plain child below good cuts (At a) m 0 c c1 f halves.0 in (t.0, t.1 k (omega arith))

    seam : rows c1 k + (0 + m) ≡ rows (add_rows k m c1) k + 0
    unfolding grown
    seam =
        let r = rows_end a (m + s) c d f l y in
        let u = y.under in
        let t = rows_added c1 one_kept.0.long k g.node m in
        let o = one_kept.1 in
        omega arith

    fits : (b : ℕ) → rows d k * B ≤ Sp b → (rows c1 k + (0 + m + s)) * B ≤ Sp b
    fits b h = let t : rows c1 k + (0 + m + s) ≡ rows d k = let r = rows_end a (m + s) c d f l y in let o = one_kept.1 in omega arith in rw t h

    first_fits : (b : ℕ) → rows d k * B ≤ Sp b → (rows c k + (0 + m)) * B ≤ Sp b
    first_fits b h =
        let r = rows_end a (m + s) c d f l y in
        let t : rows c k + (0 + m) ≤ rows d k = omega arith in
        le_trans (mul-le-mul_right B t) h

    seams : At a + (0 + m) ≡ At (a + m) + 0
    seams = omega arith

    front : Al (each (Row (At a)) m 0 c).log (each (Row (At a)) m 0 c).log
    front =
        each_alike (λ z. z) (λ z. refl) (λ b m z w g p. p) (λ b m z w g p r. logs.self b m z w g p r) (λ z w g h e. e) (At a) (At a) m 0 0 c c1 refl f refl (first_fits 1 y.one) (first_fits 2 y.two) halves.0
        (row_before (At a) s (0 + m) c1 (Mid a (m + s) c) one_kept.0 halves.1 (kids_roomy a (m + s) c d f l y))

    behind : Al (each (Row (At a)) s (0 + m) c1).log (each (Row (At (a + m))) s 0 (add_rows k m c1)).log
    behind =
        each_alike (λ z. add_rows k m z) (λ z. rows_other z k m (suc k) (λ e. omega arith)) (λ b q z w g p. cuts.frame b q k m z w g (omega arith) p) (λ b q z w g p r. logs.frame_log b q k m z w g (omega arith) p r)
        (λ z w q o e. rows_added z q.long k g.node m ∙ ap (λ v. grown v m) e ∙ sym (rows_added w o.long k g.node m)) (At a) (At (a + m)) s (0 + m) 0 c1 (Mid a (m + s) c) seams one_kept.0 seam
        (fits 1 y.one) (fits 2 y.two) halves.1 (kids_roomy a (m + s) c d f l y)

    view_cut_log : Al (Kid a (m + s) c).log ((Kid a m c).log ++ (Kid (a + m) s e).log)
    view_cut_log =
        let v = view_was x k is plain child a m c e p in
        let w = view_was x k is plain child (a + m) s e d second in
        rw (log_is a (m + s) c d f l y, each_split_log (Row (At a)) m s 0 c (Mid a (m + s) c) whole, view_log a m c c1 v.0 v.1, view_log (a + m) s e (Mid (a + m) s e) w.0 w.1, ← middle)
        (alike_append x.plan x.parts M K front behind)

  view_none_log : (a m o : ℕ) (c d : List ℕ) → Counts c → Counts d → Lies x k is plain a m → o ≤ a + m → Holds d → Al (Kid o 0 d).log []
  unfolding each done AllInside
  view_none_log a m o c d f q g h y =
      let v = (view_cuts x k is plain child below good cuts).none a m o c d f q g h in
      rw (view_log o 0 d d v.0 (record { ok = refl; left = refl })) (alike_refl x.plan x.parts M K [] tt)

  view_same_log : (a n : ℕ) (c : List ℕ) → Counts c → (batch_node x below k a n c).ans ≡ 0 → Holds (batch_node x below k a n c).counters → Al (batch_node x below k a n c).log (Kid a n c).log
  unfolding done
  view_same_log a n c f h y =
      let d : List ℕ = (batch_node x below k a n c).counters in
      let b = by_was x k is plain below a n c d (leaves_own h) in
      let o : Out = batch_list_view x below B k (At a) n c in
      let on : List ℕ → Out = λ e. done (add_rows k n e) in
      let lo = next_start_lem o on b.2 in
      let end : add_rows k n o.counters ≡ d = (next_rest o on b.2).left in
      let v = (view_cuts x k is plain child below good cuts).same a n c f h in
      let w = view_was x k is plain child a n c d v.1 in
      let r = rows_end a n c d f v.1 y in
      let z : roomy o.counters = logs.less k n o.counters (omega arith) (rw end y.kids) in
      rw (by_log a n c o.counters b.0 b.1 lo, list_log a n c (Mid a n c) w.0 (list_goes x k is plain child a n c (Mid a n c) w.0 w.1))
      (list_write x M K below child B k (At a) good roomy cuts logs (list_view_width (code_of x.plan k) is) k1 k2 n c f body lo.ok z (rw (← r) y.one) (rw (← r) y.two))

  view_less : (j m : ℕ) (c : List ℕ) → j < k → Holds (add_rows j m c) → Holds c
  view_less j m c h y =
      let e = rows_other c j m k (λ z. omega arith) in
      record { under = rw e at y.under; one = rw e at y.one; two = rw e at y.two; kids = logs.less j m c (omega arith) y.kids }

  pub view_cut_logs : CutLogs x.plan x.parts M K k Holds (λ a n c. Lies x k is plain a n) (λ a n c. batch_node x below k a n c) (λ a n c. Kid a n c)
  view_cut_logs =
      record {
        same_log = view_same_log;
        self = view_self;
        before = view_before;
        cut_log = view_cut_log;
        none_log = view_none_log;
        off = view_off;
        frame_log = λ a n j m c d f h l y. view_frame_log a n c d f l y j m h;
        less = view_less;
      }
