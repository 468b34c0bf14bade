-- The log of a list-view by stretches does to every part what that of its rows one after the other does. Assumes nothing.
use mathlib.Core.Path.{◌≡◌, refl, ap, ◌∙◌}
use mathlib.Core.Bool.{Bool, true, ◌&&◌}
use mathlib.Core.List.{List, [], ◌∷◌}
use Prim.Native.Nat.{ℕ, suc, ◌+◌, ◌*◌, ◌≤◌, ◌<◌}
use native.Mathlib.Nat.{zero-add, add-zero, mul-add}
use native.Mathlib.Omega.{arith}
use lib.ListN.{length, take, drop}
use lib.Dec.{leb, ltb}
use borrow.Author.Tests.{ltb-true, leb-true}
use Rattle.number.specs.Number.{number, encode, entry}
use Rattle.bits.proofs.Laws.{Below}
use Rattle.columnar.specs.Types.{half}
use Rattle.utils.specs.Pieces.{pieces, numbers}
use Rattle.utils.proofs.Pieces.{pieces_same}
use Rattle.walk.specs.State.{Join, rows, top, place, rows_in}
use Rattle.walk.specs.Log.{Out, put, wrote, need, next, each}
use Rattle.walk.specs.Copy.{Walk, list_view_row, copy_list_view}
use Rattle.batch.specs.Stretch.{sum_of, stretches}
use Rattle.batch.specs.Batch.{owned, batch_list_view}
use Rattle.batch.proofs.Ends.{Leaves, leaves_own, need_was, need_rest, wrote_rest}
use Rattle.batch.proofs.Tally.{Counts}
use Rattle.batch.proofs.Stretches.{and_left, and_right, Cuts, stretches_each}
use Rattle.batch.proofs.Windows.{span, AllInside}
use Rattle.batch.proofs.Alike.{Alike, alike_refl, alike_sym, alike_trans, alike_append}
use Rattle.batch.proofs.StretchLogs.{CutLogs, stretches_write}
use Rattle.batch.proofs.ListLogs.{numbers_are, rows_write}

module _ (x : Join) (M : ℕ) (K : ℕ → ℕ → Type 0) (below child : Walk) (w i slot : ℕ) (good : ℕ → ℕ → List ℕ → Type 0) (roomy : List ℕ → Type 0)
    (cuts : Cuts (suc i) good (λ a n c. below (suc i) a n c) (λ a n c. child (suc i) a n c))
    (logs : CutLogs x.plan x.parts M K (suc i) roomy good (λ a n c. below (suc i) a n c) (λ a n c. child (suc i) a n c)) (big : half w ≤ top) (k1 : K i 1) (k2 : K i 2) where
  abbrev start : ℕ → ℕ
  start r = entry w x.body (place x i 3) (slot + r)

  abbrev size : ℕ → ℕ
  size r = entry w x.body (place x i 5) (slot + r)

  abbrev item : ℕ → List ℕ → Out
  item r c = child (suc i) (start r) (size r) c

  abbrev own : Bool
  own = ltb (suc i) 32 && (owned x.plan i && owned x.plan (suc i))

  abbrev lie : ℕ → Bool
  lie n = rows_in x (place x i 3) w slot n && rows_in x (place x i 5) w slot n

  abbrev fits : ℕ → List ℕ → Bool
  fits n c = ltb (rows c (suc i) + sum_of size n) (half w)

  abbrev by : ℕ → List ℕ → Out
  by n c = stretches (λ a m d. below (suc i) a m d) start size n c

  -- what was tested
  pub record Tests (n : ℕ) (c : List ℕ) : Type 0 where
    pub t1 : own ≡ true
    pub t2 : lie n ≡ true
    pub t3 : fits n c ≡ true
    pub left : Leaves (by n c) (batch_list_view x below w i slot n c).counters

  pub tested : (n : ℕ) (c : List ℕ) → (batch_list_view x below w i slot n c).ans ≡ 0 → Tests n c
  unfolding batch_list_view
  tested n c h =
      let l = leaves_own {o = batch_list_view x below w i slot n c} h in
      let l1 = need_rest own 12 c _ (omega arith) l in
      let l2 = need_rest (lie n) 12 c _ (omega arith) l1 in
      record {
        t1 = need_was own 12 c _ (omega arith) l.ok;
        t2 = need_was (lie n) 12 c _ (omega arith) l1.ok;
        t3 = need_was (fits n c) 6 c _ (omega arith) l2.ok;
        left = wrote_rest _ c _ (wrote_rest _ c _ (need_rest (fits n c) 6 c _ (omega arith) l2));
      }

  abbrev offsets_of : ℕ → List ℕ → List ℕ
  offsets_of n c = numbers w (λ r. rows c (suc i) + sum_of size r) n

  abbrev sizes_of : ℕ → List ℕ
  sizes_of n = take (w * n) (drop (place x i 5 + w * slot) x.body)

  batch_log : (n : ℕ) (c : List ℕ) → Tests n c → (batch_list_view x below w i slot n c).log ≡ put i 1 (rows c i * w) (offsets_of n c) ∷ put i 2 (rows c i * w) (sizes_of n) ∷ (by n c).log
  unfolding batch_list_view need next wrote
  batch_log n c t = rw (t.t1, t.t2, t.t3)

  copy_log : (n : ℕ) (c : List ℕ) → Tests n c → (copy_list_view x child w i slot n c).log ≡ (each (list_view_row x child w i slot) n 0 c).log
  unfolding copy_list_view need
  copy_log n c t = rw (and_left (ltb (suc i) 32) (owned x.plan i && owned x.plan (suc i)) t.t1, t.t2)

  sizes_are : (n : ℕ) → Below 256 x.body → lie n ≡ true → sizes_of n ≡ pieces (λ j. encode w (size (0 + j))) n
  unfolding rows_in
  sizes_are n u h =
      let e = mul-add w slot n in
      let l : place x i 5 + w * (slot + n) ≤ length x.body = leb-true _ _ (and_right (leb (place x i 3 + w * (slot + n)) (length x.body)) _ h) in
      numbers_are w (place x i 5 + w * slot) n x.body u (omega arith)
      ∙ pieces_same _ _ n (λ j q. ap (λ v. encode w (number w (drop v x.body))) (same j))
    where
      same : (j : ℕ) → place x i 5 + w * slot + w * j ≡ place x i 5 + w * (slot + (0 + j))
      same j = let e = mul-add w slot j in let z : slot + (0 + j) ≡ slot + j = omega arith in rw z (omega arith)

  -- A LIST-VIEW BY STRETCHES WRITES what its rows one after the other write
  pub list_write : (n : ℕ) (c : List ℕ) → Counts c → Below 256 x.body → (batch_list_view x below w i slot n c).ans ≡ 0 → roomy (batch_list_view x below w i slot n c).counters
      → (rows c i + n) * w ≤ span x.plan x.parts M K i 1 → (rows c i + n) * w ≤ span x.plan x.parts M K i 2
      → Alike x.plan x.parts M K (batch_list_view x below w i slot n c).log (copy_list_view x child w i slot n c).log
  unfolding AllInside sum_of
  list_write n c f u h y s1 s2 =
      let t = tested n c h in
      let l = t.left in
      let y2 : roomy (by n c).counters = rw l.left y in
      let st = stretches_write x.plan x.parts M K (suc i) roomy good (λ a n c. below (suc i) a n c) (λ a n c. child (suc i) a n c) cuts logs start size n c f l.ok y2 in
      let ea = stretches_each (suc i) good (λ a n c. below (suc i) a n c) (λ a n c. child (suc i) a n c) cuts start size n c f l.ok in
      let z : 0 + n ≡ n = zero-add n in
      let v : rows c (suc i) + sum_of size (0 + n) < half w = rw z (ltb-true _ _ t.t3) in
      let rs = rows_write x M K below child w i slot good roomy cuts logs big k1 k2 (rows c (suc i)) (rows c i) n 0 c (by n c).counters f refl (omega arith) v (rw z s1) (rw z s2) ea y2 in
      let e0 : rows c i + 0 ≡ rows c i = add-zero (rows c i) in
      let e1 : pieces (λ j. encode w (rows c (suc i) + sum_of size (0 + j))) n ≡ offsets_of n c = pieces_same _ _ n (λ j q. ap (λ v. encode w (rows c (suc i) + sum_of size v)) (zero-add j)) in
      let e2 = sizes_are n u t.t2 in
      let ab : Alike x.plan x.parts M K (each (list_view_row x child w i slot) n 0 c).log (put i 1 (rows c i * w) (offsets_of n c) ∷ put i 2 (rows c i * w) (sizes_of n) ∷ (each item n 0 c).log) = rw (e0, e1, ← e2) at rs in
      let hd : AllInside x.plan x.parts M K (put i 1 (rows c i * w) (offsets_of n c) ∷ put i 2 (rows c i * w) (sizes_of n) ∷ []) = (ab.two.0, (ab.two.1.0, tt)) in
      rw (batch_log n c t, copy_log n c t)
      (alike_trans x.plan x.parts M K (alike_append x.plan x.parts M K (alike_refl x.plan x.parts M K (put i 1 (rows c i * w) (offsets_of n c) ∷ put i 2 (rows c i * w) (sizes_of n) ∷ []) hd) st) (alike_sym x.plan x.parts M K ab))
