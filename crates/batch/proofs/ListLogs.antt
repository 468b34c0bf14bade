-- The log of a list-view's rows: all offsets and all sizes may go first. Assumes nothing.
use mathlib.Core.Path.{◌≡◌, refl, sym, ap, ◌∙◌}
use mathlib.Core.Bool.{Bool, true, false, cond, ◌&&◌}
use mathlib.Core.List.{List, [], ◌∷◌, ◌++◌}
use Prim.Native.Nat.{ℕ, zero, suc, ◌+◌, ◌*◌, ◌≤◌, ◌<◌}
use native.Mathlib.Nat.{add-zero, add-mul, suc-mul, mul-suc, mul_comm}
use native.Mathlib.Omega.{arith}
use lib.ListN.{length, take, drop, length-append, length-drop}
use lib.Seq.{take-add, drop-drop, get_or-drop}
use lib.Dec.{ltb, eqb}
use borrow.Author.Tests.{lt-ltb, eqb-true}
use Rattle.number.specs.Number.{encode, entry, splice}
use Rattle.number.proofs.Laws.{length_encode, encode_number, splice_splice, splice_nil, length_splice}
use Rattle.bits.proofs.Laws.{Below, below_of_lem, below_at_lem, below_append, below_splice, none}
use Rattle.utils.specs.Pieces.{pieces}
use Rattle.utils.proofs.Pieces.{pieces_same, length_numbers}
use Rattle.columnar.specs.Types.{half}
use Rattle.refinement.proofs.log_in_room.Bytes.{bytes_encode}
use Rattle.refinement.proofs.walk_is_model.Entries.{pieces_first}
use Rattle.walk.specs.State.{Join, rows, top, grown, place}
use Rattle.walk.specs.Log.{Log, Out, put, done, wrote, need, next, each}
use Rattle.walk.specs.Copy.{Walk, list_view_row}
use Rattle.batch.specs.Stretch.{sum_of}
use Rattle.batch.proofs.Ends.{Leaves, leaves_wrote, leaves_need, leaves_next, next_start_lem, next_rest}
use Rattle.batch.proofs.Tally.{Counts}
use Rattle.batch.proofs.Stretches.{Cuts}
use Rattle.batch.proofs.ListViews.{sum_up}
use Rattle.batch.proofs.Windows.{span, within, within_append, AllInside, inside_append}
use Rattle.batch.proofs.Alike.{Window, Alike, alike_refl, alike_sym, alike_trans, alike_append}
use Rattle.batch.proofs.StretchLogs.{CutLogs, next_log, each_before, each_self}

-- ---- numbers one behind the other

pub below_numbers : (w : ℕ) (f : ℕ → ℕ) (n : ℕ) → Below 256 (pieces (λ j. encode w (f j)) n)
unfolding pieces
below_numbers w f zero = below_of_lem 256 [] (λ i. omega arith)
below_numbers w f (suc n) = below_append 256 (pieces (λ j. encode w (f j)) n) (encode w (f n)) (below_numbers w f n) (below_of_lem 256 (encode w (f n)) (bytes_encode w (f n)))

-- numbers that stand in bytes are those bytes
pub numbers_are : (w from n : ℕ) (s : List ℕ) → Below 256 s → from + w * n ≤ length s → take (w * n) (drop from s) ≡ pieces (λ j. encode w (entry w s from j)) n
unfolding pieces
numbers_are w from zero s u h = let e : w * 0 ≡ 0 = omega arith in rw e
numbers_are w from (suc n) s u h =
    let e : w * suc n ≡ w * n + w = mul-suc w n in
    rw (e, take-add (w * n) w (drop from s), drop-drop (w * n) from s, numbers_are w from n s u (omega arith))
    (ap (pieces (λ j. encode w (entry w s from j)) n ++◌)
    (sym (encode_number w (drop (from + w * n) s) (rw length-drop (omega arith)) (λ i. rw get_or-drop (below_at_lem 256 s (omega arith) u (from + w * n + i))))))

module _ (plan parts : List ℕ) (M : ℕ) (K : ℕ → ℕ → Type 0) where
  abbrev Al : Log → Log → Type 0
  Al l m = Alike plan parts M K l m

  splice_window : (i b p : ℕ) (v w : List ℕ) → p + length v ≤ span plan parts M K i b → Below 256 v → Window plan parts M K i b w → Window plan parts M K i b (splice p v w)
  splice_window i b p v w h u z =
      let l = z.long in
      record { long = length_splice p v w (omega arith) ∙ l; are_bytes = below_splice 256 p v w u z.are_bytes }

  module _ (i p q : ℕ) (a1 b1 a2 b2 : List ℕ) (l m : Log) (f : p + length a1 + length b1 ≤ span plan parts M K i 1) (g : q + length a2 + length b2 ≤ span plan parts M K i 2)
      (u1 : Below 256 a1) (v1 : Below 256 b1) (u2 : Below 256 a2) (v2 : Below 256 b2) (off : (b : ℕ) → K i b → (w : List ℕ) → Window plan parts M K i b w → within i b l w ≡ w) where
    abbrev One : Bool → Bool → List ℕ → List ℕ
    One s t w = cond t (splice q a2 (cond s (splice p a1 w) w)) (cond s (splice p a1 w) w)

    abbrev Two : Bool → Bool → List ℕ → List ℕ
    Two s t w = cond t (splice (q + length a2) b2 (cond s (splice (p + length a1) b1 w) w)) (cond s (splice (p + length a1) b1 w) w)

    abbrev Both : Bool → Bool → List ℕ → List ℕ
    Both s t w = cond t (splice q (a2 ++ b2) (cond s (splice p (a1 ++ b1) w) w)) (cond s (splice p (a1 ++ b1) w) w)

    -- one part
    merged : (b o : ℕ) (v y w : List ℕ) → K i b → Window plan parts M K i b w → o + length v + length y ≤ span plan parts M K i b → Below 256 v → Below 256 y
        → splice (o + length v) y (within i b l (splice o v w)) ≡ within i b l (splice o (v ++ y) w)
    merged b o v y w k z h c d =
        let n = z.long in
        let e = length-append v y in
        ap (splice (o + length v) y) (off b k (splice o v w) (splice_window i b o v w (omega arith) c z))
        ∙ splice_splice o v y w (omega arith)
        ∙ sym (off b k (splice o (v ++ y) w) (splice_window i b o (v ++ y) w (omega arith) (below_append 256 v y c d) z))

    go : (j b : ℕ) → K j b → (w : List ℕ) → Window plan parts M K j b w → (r : Bool) → eqb j i ≡ r → (s : Bool) → eqb b 1 ≡ s → (t : Bool) → eqb b 2 ≡ t
        → within j b m (Two (r && s) (r && t) (within j b l (One (r && s) (r && t) w))) ≡ within j b m (within j b l (Both (r && s) (r && t) w))
    go j b y w z false e s h t k = refl
    go j b y w z true e true h true k = let x = eqb-true b 1 h in let x2 = eqb-true b 2 k in absurd (omega arith)
    go j b y w z true e true h false k =
        let jj = eqb-true j i e in
        let bb = eqb-true b 1 h in
        let y2 : K i 1 = rw (jj, bb) at y in
        let z2 : Window plan parts M K i 1 w = rw (jj, bb) at z in
        ap (within j b m) (rw (jj, bb) (merged 1 p a1 b1 w y2 z2 f u1 v1))
    go j b y w z true e false h true k =
        let jj = eqb-true j i e in
        let bb = eqb-true b 2 k in
        let y2 : K i 2 = rw (jj, bb) at y in
        let z2 : Window plan parts M K i 2 w = rw (jj, bb) at z in
        ap (within j b m) (rw (jj, bb) (merged 2 q a2 b2 w y2 z2 g u2 v2))
    go j b y w z true e false h false k = refl

    -- two writes at node i before a log that leaves the node, and two behind them: the writes may go first and together
    pub gather : AllInside plan parts M K (put i 1 p (a1 ++ b1) ∷ put i 2 q (a2 ++ b2) ∷ (l ++ m))
        → AllInside plan parts M K ((put i 1 p a1 ∷ put i 2 q a2 ∷ l) ++ (put i 1 (p + length a1) b1 ∷ put i 2 (q + length a2) b2 ∷ m))
        → Al ((put i 1 p a1 ∷ put i 2 q a2 ∷ l) ++ (put i 1 (p + length a1) b1 ∷ put i 2 (q + length a2) b2 ∷ m)) (put i 1 p (a1 ++ b1) ∷ put i 2 q (a2 ++ b2) ∷ (l ++ m))
    unfolding within
    gather one two =
        record {
          one = two;
          two = one;
          same = λ j b y w u.
              within_append j b (put i 1 p a1 ∷ put i 2 q a2 ∷ l) (put i 1 (p + length a1) b1 ∷ put i 2 (q + length a2) b2 ∷ m) w
              ∙ go j b y w u (eqb j i) refl (eqb b 1) refl (eqb b 2) refl
              ∙ sym (within_append j b l m (Both (eqb j i && eqb b 1) (eqb j i && eqb b 2) w));
        }

  -- two writes of nothing
  pub puts_none : (i p q : ℕ) → AllInside plan parts M K (put i 1 p [] ∷ put i 2 q [] ∷ []) → Al (put i 1 p [] ∷ put i 2 q [] ∷ []) []
  unfolding within AllInside
  puts_none i p q h = record { one = h; two = tt; same = λ j b y w u. go w (eqb j i && eqb b 1) (eqb j i && eqb b 2) }
    where
      go : (w : List ℕ) (s t : Bool) → cond t (splice q [] (cond s (splice p [] w) w)) (cond s (splice p [] w) w) ≡ w
      go w true true = splice_nil q _ ∙ splice_nil p w
      go w true false = splice_nil p w
      go w false true = splice_nil q w
      go w false false = refl

module _ (x : Join) (M : ℕ) (K : ℕ → ℕ → Type 0) (below child : Walk) (w i slot : ℕ) (good : ℕ → ℕ → List ℕ → Type 0) (roomy : List ℕ → Type 0)
    (cuts : Cuts (suc i) good (λ a n c. below (suc i) a n c) (λ a n c. child (suc i) a n c))
    (logs : CutLogs x.plan x.parts M K (suc i) roomy good (λ a n c. below (suc i) a n c) (λ a n c. child (suc i) a n c)) (big : half w ≤ top) (k1 : K i 1) (k2 : K i 2) where
  abbrev start : ℕ → ℕ
  start r = entry w x.body (place x i 3) (slot + r)

  abbrev size : ℕ → ℕ
  size r = entry w x.body (place x i 5) (slot + r)

  abbrev item : ℕ → List ℕ → Out
  item r c = child (suc i) (start r) (size r) c

  abbrev Sp : ℕ → ℕ
  Sp b = span x.plan x.parts M K i b

  abbrev In : Log → Type 0
  In l = AllInside x.plan x.parts M K l

  row_log : (r : ℕ) (c : List ℕ) → ltb (rows c (suc i) + size r) (half w) ≡ true
      → (list_view_row x child w i slot r c).log ≡ put i 1 ((rows c i + r) * w) (encode w (rows c (suc i))) ∷ put i 2 ((rows c i + r) * w) (encode w (size r)) ∷ (item r c).log
  unfolding list_view_row need next wrote
  row_log r c h = rw h refl

  -- the offsets and the sizes of n rows from row r on
  abbrev offsets_from : ℕ → ℕ → ℕ → List ℕ
  offsets_from before r n = pieces (λ j. encode w (before + sum_of size (r + j))) n

  abbrev sizes_from : ℕ → ℕ → List ℕ
  sizes_from r n = pieces (λ j. encode w (size (r + j))) n

  puts_inside : (p q : ℕ) (a b : List ℕ) (l : Log) → p + length a ≤ Sp 1 → q + length b ≤ Sp 2 → Below 256 a → Below 256 b → In l → In (put i 1 p a ∷ put i 2 q b ∷ l)
  unfolding AllInside
  puts_inside p q a b l f g u v h = ((k1, omega arith, f, u), ((k2, omega arith, g, v), h))

  first_of_lem : (f : ℕ → ℕ) (r n : ℕ) → pieces (λ j. encode w (f (r + j))) (suc n) ≡ encode w (f r) ++ pieces (λ j. encode w (f (suc r + j))) n
  first_of_lem f r n =
      pieces_first (λ j. encode w (f (r + j))) n
      ∙ rw (add-zero r) (ap (encode w (f r) ++◌) (pieces_same (λ j. encode w (f (r + suc j))) (λ j. encode w (f (suc r + j))) n (λ j l. ap (λ v. encode w (f v)) (let e : r + suc j ≡ suc r + j = omega arith in e))))

  module _ (before R : ℕ) where
    abbrev Goal : ℕ → ℕ → List ℕ → Log
    Goal n r c = put i 1 ((R + r) * w) (offsets_from before r n) ∷ put i 2 ((R + r) * w) (sizes_from r n) ∷ (each item n r c).log

    module _ (n r : ℕ) (c d : List ℕ) (f : Counts c) (e : rows c i ≡ R) (g : rows c (suc i) ≡ before + sum_of size r) (h : before + sum_of size (r + suc n) < half w)
        (s1 : (R + (r + suc n)) * w ≤ Sp 1) (s2 : (R + (r + suc n)) * w ≤ Sp 2) (l : Leaves (each item (suc n) r c) d) (y : roomy d) where
      abbrev On : List ℕ → Out
      On c2 = each item n (suc r) c2

      abbrev c1 : List ℕ
      c1 = (item r c).counters

      one : Leaves (item r c) c1
      unfolding each
      one = next_start_lem (item r c) On l

      more : Leaves (On c1) d
      unfolding each
      more = next_rest (item r c) On l

      f1 : Counts c1
      f1 = (cuts.step (start r) (size r) c c1 f one).0

      e1 : rows c1 i ≡ R
      e1 = (cuts.step (start r) (size r) c c1 f one).2 i (omega arith) ∙ e

      upto : sum_of size (suc r) ≤ sum_of size (r + suc n)
      upto = let u = sum_up size (suc r) n in let v : suc r + n ≡ r + suc n = omega arith in rw v at u

      h1 : before + sum_of size (suc r + n) < half w
      h1 = let v : suc r + n ≡ r + suc n = omega arith in rw v h

      room : rows c (suc i) + size r < half w
      unfolding sum_of
      room = let u = upto in omega arith

      g1 : rows c1 (suc i) ≡ before + sum_of size (suc r)
      unfolding sum_of grown
      g1 = let u = (cuts.step (start r) (size r) c c1 f one).1 in let v = room in omega arith

      y1 : roomy c1
      y1 = each_before x.plan x.parts M K (suc i) roomy good (λ a n c. below (suc i) a n c) (λ a n c. child (suc i) a n c) cuts logs start size n (suc r) c1 d f1 more y

      row_leaves : Leaves (list_view_row x child w i slot r c) c1
      unfolding list_view_row
      row_leaves = leaves_need 6 c (lt-ltb _ _ room) (leaves_next _ (leaves_wrote _ c) (leaves_next _ (leaves_wrote _ c) one))

      abbrev P : ℕ
      P = (R + r) * w

      abbrev A1 : List ℕ
      A1 = encode w (before + sum_of size r)

      abbrev A2 : List ℕ
      A2 = encode w (size r)

      abbrev I : Log
      I = (item r c).log

      abbrev E : Log
      E = (On c1).log

      front : (list_view_row x child w i slot r c).log ≡ put i 1 P A1 ∷ put i 2 P A2 ∷ I
      front = row_log r c (lt-ltb _ _ room) ∙ rw (e, g) refl

      total : (R + (r + suc n)) * w ≡ P + w + w * n
      total = let a : R + (r + suc n) ≡ R + r + suc n = omega arith in let b = add-mul (R + r) (suc n) w in let m = suc-mul n w in let q = mul_comm n w in rw a (omega arith)

      pos1 : (R + suc r) * w ≡ P + length A1
      pos1 = let a : R + suc r ≡ suc (R + r) = omega arith in let m = suc-mul (R + r) w in let q = length_encode w (before + sum_of size r) in rw a (omega arith)

      pos2 : (R + suc r) * w ≡ P + length A2
      pos2 = let a : R + suc r ≡ suc (R + r) = omega arith in let m = suc-mul (R + r) w in let q = length_encode w (size r) in rw a (omega arith)

      abbrev B1 : List ℕ
      B1 = offsets_from before (suc r) n

      abbrev B2 : List ℕ
      B2 = sizes_from (suc r) n

      fit1 : P + length A1 + length B1 ≤ Sp 1
      fit1 = let t = total in let a = length_encode w (before + sum_of size r) in let b = length_numbers w (λ j. before + sum_of size (suc r + j)) n in omega arith

      fit2 : P + length A2 + length B2 ≤ Sp 2
      fit2 = let t = total in let a = length_encode w (size r) in let b = length_numbers w (λ j. size (suc r + j)) n in omega arith

      encoded : (v : ℕ) → Below 256 (encode w v)
      encoded v = below_of_lem 256 (encode w v) (bytes_encode w v)

      selfs : Alike x.plan x.parts M K I I
      selfs = logs.self (start r) (size r) c c1 f one y1

      self_e : Alike x.plan x.parts M K E E
      self_e = each_self x.plan x.parts M K (suc i) roomy good (λ a n c. below (suc i) a n c) (λ a n c. child (suc i) a n c) cuts logs start size n (suc r) c1 d f1 more y

      head_in : In (put i 1 P A1 ∷ put i 2 P A2 ∷ I)
      head_in = puts_inside P P A1 A2 I (let a = fit1 in omega arith) (let a = fit2 in omega arith) (encoded _) (encoded _) selfs.one

      tail_in : In (put i 1 (P + length A1) B1 ∷ put i 2 (P + length A2) B2 ∷ E)
      tail_in = puts_inside (P + length A1) (P + length A2) B1 B2 E fit1 fit2 (below_numbers w _ n) (below_numbers w _ n) self_e.one

      both_in : In (put i 1 P (A1 ++ B1) ∷ put i 2 P (A2 ++ B2) ∷ (I ++ E))
      both_in =
          let a = length-append A1 B1 in
          let b = length-append A2 B2 in
          puts_inside P P (A1 ++ B1) (A2 ++ B2) (I ++ E) (let z = fit1 in omega arith) (let z = fit2 in omega arith) (below_append 256 A1 B1 (encoded _) (below_numbers w _ n)) (below_append 256 A2 B2 (encoded _) (below_numbers w _ n))
          (inside_append x.plan x.parts M K I E selfs.one self_e.one)

      first : Alike x.plan x.parts M K ((put i 1 P A1 ∷ put i 2 P A2 ∷ I) ++ (put i 1 (P + length A1) B1 ∷ put i 2 (P + length A2) B2 ∷ E)) (put i 1 P (A1 ++ B1) ∷ put i 2 P (A2 ++ B2) ∷ (I ++ E))
      first =
          gather x.plan x.parts M K i P P A1 B1 A2 B2 I E fit1 fit2 (encoded _) (below_numbers w _ n) (encoded _) (below_numbers w _ n)
          (λ b k v u. logs.off (start r) (size r) c c1 f one y1 i b (omega arith) k v u) both_in
          (inside_append x.plan x.parts M K (put i 1 P A1 ∷ put i 2 P A2 ∷ I) (put i 1 (P + length A1) B1 ∷ put i 2 (P + length A2) B2 ∷ E) head_in tail_in)

      goal_first : Goal n (suc r) c1 ≡ put i 1 (P + length A1) B1 ∷ put i 2 (P + length A2) B2 ∷ E
      goal_first = ap (λ v. put i 1 v B1 ∷ put i 2 ((R + suc r) * w) B2 ∷ E) pos1 ∙ ap (λ v. put i 1 (P + length A1) B1 ∷ put i 2 v B2 ∷ E) pos2

      goal_all : Goal (suc n) r c ≡ put i 1 P (A1 ++ B1) ∷ put i 2 P (A2 ++ B2) ∷ (I ++ E)
      unfolding each
      goal_all =
          ap (λ v. put i 1 P v ∷ put i 2 P (sizes_from r (suc n)) ∷ (each item (suc n) r c).log) (first_of_lem (λ j. before + sum_of size j) r n)
          ∙ ap (λ v. put i 1 P (A1 ++ B1) ∷ put i 2 P v ∷ (each item (suc n) r c).log) (first_of_lem size r n)
          ∙ ap (λ v. put i 1 P (A1 ++ B1) ∷ put i 2 P (A2 ++ B2) ∷ v) (next_log On one)

      step : Alike x.plan x.parts M K (each (list_view_row x child w i slot) n (suc r) c1).log (Goal n (suc r) c1)
          → Alike x.plan x.parts M K (each (list_view_row x child w i slot) (suc n) r c).log (Goal (suc n) r c)
      unfolding each
      step ih =
          rw (next_log (λ c2. each (list_view_row x child w i slot) n (suc r) c2) row_leaves, front, goal_all)
          (alike_trans x.plan x.parts M K (alike_append x.plan x.parts M K (alike_refl x.plan x.parts M K (put i 1 P A1 ∷ put i 2 P A2 ∷ I) head_in) (rw goal_first at ih)) first)

    pub rows_write : (n r : ℕ) (c d : List ℕ) → Counts c → rows c i ≡ R → rows c (suc i) ≡ before + sum_of size r → before + sum_of size (r + n) < half w
        → (R + (r + n)) * w ≤ Sp 1 → (R + (r + n)) * w ≤ Sp 2 → Leaves (each item n r c) d → roomy d
        → Alike x.plan x.parts M K (each (list_view_row x child w i slot) n r c).log (Goal n r c)
    unfolding each done AllInside pieces
    rows_write zero r c d f e g h s1 s2 l y =
        let z : r + 0 ≡ r = add-zero r in
        let t1 : (R + r) * w ≤ Sp 1 = rw z at s1 in
        let t2 : (R + r) * w ≤ Sp 2 = rw z at s2 in
        alike_sym x.plan x.parts M K (puts_none x.plan x.parts M K i ((R + r) * w) ((R + r) * w) (puts_inside ((R + r) * w) ((R + r) * w) [] [] [] (omega arith) (omega arith) none none tt))
    rows_write (suc n) r c d f e g h s1 s2 l y =
        let v : suc r + n ≡ r + suc n = omega arith in
        step n r c d f e g h s1 s2 l y
        (rows_write n (suc r) (item r c).counters d (f1 n r c d f e g h s1 s2 l y) (e1 n r c d f e g h s1 s2 l y) (g1 n r c d f e g h s1 s2 l y) (h1 n r c d f e g h s1 s2 l y)
        (rw v s1) (rw v s2) (more n r c d f e g h s1 s2 l y) y)
