-- The log of a dense union by stretches does to every part what that of its rows one after the other does. Assumes nothing.
use mathlib.Core.Path.{◌≡◌, refl, sym, ap, ◌∙◌}
use mathlib.Core.Bool.{Bool, true, false, cond, ◌&&◌}
use mathlib.Core.List.{List, [], ◌∷◌, ◌++◌}
use Prim.Native.Nat.{ℕ, zero, suc, ◌+◌, ◌*◌, ◌≤◌, ◌<◌, min}
use native.Mathlib.Nat.{add-zero}
use native.Mathlib.Omega.{arith}
use lib.ListN.{length, take, drop, get_or, length-append, length-drop}
use lib.Seq.{take-suc, get_or-drop}
use lib.Dec.{ltb, eqb}
use borrow.Author.Tests.{lt-ltb, ltb-true, eqb-true, eqb-false}
use Rattle.number.specs.Number.{encode}
use Rattle.number.proofs.Laws.{length_encode}
use Rattle.bits.proofs.Laws.{Below, below_of_lem, below_at_lem, below_append, none, more}
use Rattle.columnar.specs.Types.{half}
use Rattle.utils.specs.Pieces.{pieces}
use Rattle.utils.proofs.Pieces.{pieces_same, length_pieces, length_numbers}
use Rattle.refinement.proofs.log_in_room.Bytes.{bytes_encode}
use Rattle.refinement.proofs.walk_is_model.Entries.{pieces_first}
use Rattle.walk.specs.State.{Join, code_of, end_of, id_of, rows, top, grown, place}
use Rattle.walk.specs.Log.{Log, Out, put, done, wrote, need, found, next, each}
use Rattle.walk.specs.Copy.{Walk, child_with, id_at, position_at, dense_to, dense_row, copy_walk}
use Rattle.batch.specs.Stretch.{sum_of, stretches}
use Rattle.batch.specs.Batch.{is_leaf, owned, batch_leaf}
use Rattle.batch.specs.Dense.{home, takes, takes_at, lands_at, batch_fields}
use Rattle.batch.proofs.Ends.{Leaves, leaves_wrote, leaves_need, leaves_found, leaves_next, need_was, need_rest, next_start_lem, next_rest}
use Rattle.batch.proofs.Tally.{Counts}
use Rattle.batch.proofs.Stretches.{and_left, and_right}
use Rattle.batch.proofs.LeafCuts.{leaf_step}
use Rattle.batch.proofs.Windows.{span, AllInside, inside_append}
use Rattle.batch.proofs.Alike.{Alike, alike_refl, alike_sym, alike_trans, alike_append}
use Rattle.batch.proofs.LeafLogs.{Roomy}
use Rattle.batch.proofs.StretchLogs.{next_log}
use Rattle.batch.proofs.ListLogs.{below_numbers, gather, puts_none}
use Rattle.batch.proofs.Dense.{pure}
use Rattle.batch.proofs.DenseLogs.{log_self, log_off}
use Rattle.batch.proofs.DenseWithin.{kid_counters, kid_else, rows_before, rows_inside}

-- bytes one behind the other are those bytes
pub bytes_are : (from n : ℕ) (s : List ℕ) → from + n ≤ length s → take n (drop from s) ≡ pieces (λ j. get_or s (from + j) 0 ∷ []) n
unfolding pieces
bytes_are from zero s h = refl
bytes_are from (suc n) s h =
    take-suc (drop from s) n 0 (rw length-drop (omega arith))
    ∙ rw (get_or-drop from s n 0) (ap (◌++ (get_or s (from + n) 0 ∷ [])) (bytes_are from n s (omega arith)))

below_bytes : (f : ℕ → ℕ) → ((j : ℕ) → f j < 256) → (n : ℕ) → Below 256 (pieces (λ j. f j ∷ []) n)
unfolding pieces
below_bytes f h zero = none
below_bytes f h (suc n) = below_append 256 (pieces (λ j. f j ∷ []) n) (f n ∷ []) (below_bytes f h n) (more (h n) none)

module _ (x : Join) (depth i slot N : ℕ) where
  abbrev S : List ℕ
  S = x.plan

  abbrev H : ℕ → ℕ
  H r = home x (batch_leaf x) i slot r

  -- children stand behind the union
  homes_up : (f k : ℕ) (c d : List ℕ) → Leaves (batch_fields x (batch_leaf x) i slot N (end_of S i) f k c) d → (id : ℕ) → child_with S id (end_of S i) f k < 32 → k ≤ child_with S id (end_of S i) f k
  unfolding batch_fields child_with
  homes_up zero k c d l id h = absurd (omega arith)
  homes_up (suc f) k c d l id h = go (λ c l id h. homes_up f (end_of S k) c d l id h) (ltb k (end_of S i)) l h
    where
      go : ((c : List ℕ) → Leaves (batch_fields x (batch_leaf x) i slot N (end_of S i) f (end_of S k) c) d → (id : ℕ) → child_with S id (end_of S i) f (end_of S k) < 32 → end_of S k ≤ child_with S id (end_of S i) f (end_of S k)) → (t : Bool)
          → Leaves (cond t (need (ltb k (end_of S k) && owned S k) 12 c (next (stretches (λ a m e. batch_leaf x k a m e) (takes_at x (batch_leaf x) i slot k) (takes x (batch_leaf x) i slot k) N c) (λ c2. batch_fields x (batch_leaf x) i slot N (end_of S i) f (end_of S k) c2))) (done c)) d
          → cond t (cond (eqb (id_of S k) id) k (child_with S id (end_of S i) f (end_of S k))) 32 < 32 → k ≤ cond t (cond (eqb (id_of S k) id) k (child_with S id (end_of S i) f (end_of S k))) 32
      go ih false l h = absurd (omega arith)
      go ih true l h =
          let o : Out = stretches (λ a m e. batch_leaf x k a m e) (takes_at x (batch_leaf x) i slot k) (takes x (batch_leaf x) i slot k) N c in
          let on : List ℕ → Out = λ c2. batch_fields x (batch_leaf x) i slot N (end_of S i) f (end_of S k) c2 in
          let t = need_was (ltb k (end_of S k) && owned S k) 12 c (next o on) (omega arith) l.ok in
          let l1 = need_rest (ltb k (end_of S k) && owned S k) 12 c (next o on) (omega arith) l in
          pick (ih o.counters (next_rest o on l1) id) (ltb-true k (end_of S k) (and_left _ (owned S k) t)) (eqb (id_of S k) id) h
        where
          pick : (child_with S id (end_of S i) f (end_of S k) < 32 → end_of S k ≤ child_with S id (end_of S i) f (end_of S k)) → k < end_of S k → (u : Bool) → cond u k (child_with S id (end_of S i) f (end_of S k)) < 32
              → k ≤ cond u k (child_with S id (end_of S i) f (end_of S k))
          pick ih up true h = omega arith
          pick ih up false h = let a = ih h in omega arith

  -- .. and the plan counts them
  homes_owned : (f k : ℕ) (c d : List ℕ) → Leaves (batch_fields x (batch_leaf x) i slot N (end_of S i) f k c) d → (id : ℕ) → child_with S id (end_of S i) f k < 32 → owned S (child_with S id (end_of S i) f k) ≡ true
  unfolding batch_fields child_with
  homes_owned zero k c d l id h = absurd (omega arith)
  homes_owned (suc f) k c d l id h = go (λ c l id h. homes_owned f (end_of S k) c d l id h) (ltb k (end_of S i)) l h
    where
      go : ((c : List ℕ) → Leaves (batch_fields x (batch_leaf x) i slot N (end_of S i) f (end_of S k) c) d → (id : ℕ) → child_with S id (end_of S i) f (end_of S k) < 32 → owned S (child_with S id (end_of S i) f (end_of S k)) ≡ true) → (t : Bool)
          → Leaves (cond t (need (ltb k (end_of S k) && owned S k) 12 c (next (stretches (λ a m e. batch_leaf x k a m e) (takes_at x (batch_leaf x) i slot k) (takes x (batch_leaf x) i slot k) N c) (λ c2. batch_fields x (batch_leaf x) i slot N (end_of S i) f (end_of S k) c2))) (done c)) d
          → cond t (cond (eqb (id_of S k) id) k (child_with S id (end_of S i) f (end_of S k))) 32 < 32 → owned S (cond t (cond (eqb (id_of S k) id) k (child_with S id (end_of S i) f (end_of S k))) 32) ≡ true
      go ih false l h = absurd (omega arith)
      go ih true l h =
          let o : Out = stretches (λ a m e. batch_leaf x k a m e) (takes_at x (batch_leaf x) i slot k) (takes x (batch_leaf x) i slot k) N c in
          let on : List ℕ → Out = λ c2. batch_fields x (batch_leaf x) i slot N (end_of S i) f (end_of S k) c2 in
          let t = need_was (ltb k (end_of S k) && owned S k) 12 c (next o on) (omega arith) l.ok in
          let l1 = need_rest (ltb k (end_of S k) && owned S k) 12 c (next o on) (omega arith) l in
          pick (ih o.counters (next_rest o on l1) id) (and_right (ltb k (end_of S k)) _ t) (eqb (id_of S k) id) h
        where
          pick : (child_with S id (end_of S i) f (end_of S k) < 32 → owned S (child_with S id (end_of S i) f (end_of S k)) ≡ true) → owned S k ≡ true → (u : Bool) → cond u k (child_with S id (end_of S i) f (end_of S k)) < 32
              → owned S (cond u k (child_with S id (end_of S i) f (end_of S k))) ≡ true
          pick ih up true h = up
          pick ih up false h = ih h

  pub homes_own : (c d : List ℕ) → Leaves (batch_fields x (batch_leaf x) i slot N (end_of S i) 32 (suc i) c) d → (r : ℕ) → H r < 32 → owned S (H r) ≡ true
  homes_own c d l r h = homes_owned 32 (suc i) c d l (id_at x (batch_leaf x) i (slot + r)) h

  pub homes_behind : (c d : List ℕ) → Leaves (batch_fields x (batch_leaf x) i slot N (end_of S i) 32 (suc i) c) d → (r : ℕ) → H r < 32 → H r ≡ i → ⊥
  homes_behind c d l r h e = let a = homes_up 32 (suc i) c d l (id_at x (batch_leaf x) i (slot + r)) h in omega arith

  -- ---- the rows of a copy, from counters c0 on

  abbrev kids : Walk
  kids = copy_walk x depth

  abbrev P : ℕ → ℕ
  P r = position_at x (batch_leaf x) i (slot + r)

  abbrev ID : ℕ → ℕ
  ID r = id_at x (batch_leaf x) i (slot + r)

  abbrev Leaf : ℕ → Type 0
  Leaf k = is_leaf (code_of S k) ≡ true

  abbrev Rows : ℕ → ℕ → List ℕ → Out
  Rows n r c = each (pure x kids H P) n r c

  abbrev pub copied : ℕ → List ℕ → Out
  copied r c = dense_row x (copy_walk x (suc depth)) i slot r c

  row_log : (r : ℕ) (c : List ℕ) → H r < 32 → rows c (H r) < half 4
      → (copied r c).log ≡ put i 1 (rows c i + r) (ID r ∷ []) ∷ put i 2 ((rows c i + r) * 4) (encode 4 (rows c (H r))) ∷ (pure x kids H P r c).log
  unfolding dense_row dense_to found need next wrote copy_walk
  row_log r c h g = rw (lt-ltb (H r) 32 h, lt-ltb (rows c (H r)) (half 4) g) refl

  row_leaves : (r : ℕ) (c d : List ℕ) → H r < 32 → rows c (H r) < half 4 → Leaves (pure x kids H P r c) d → Leaves (copied r c) d
  unfolding dense_row dense_to copy_walk
  row_leaves r c d h g l = leaves_found 32 (H r) 12 c _ h (leaves_need 6 c (lt-ltb _ _ g) (leaves_next _ (leaves_wrote _ c) (leaves_next _ (leaves_wrote _ c) l)))

  module _ (M : ℕ) (K : ℕ → ℕ → Type 0) (body : Below 256 x.body) (leafs : (r : ℕ) → r < N → Leaf (H r)) (c0 : List ℕ)
      (tests : (r : ℕ) → r < N → (ltb (H r) 32 && ltb (lands_at x (batch_leaf x) i slot c0 r) (half 4)) ≡ true) (other : (r : ℕ) → r < N → H r ≡ i → ⊥) (k1 : K i 1) (k2 : K i 2) (F : List ℕ)
      (mine : (r : ℕ) (t : r < N) → Roomy x M K body (H r) (leafs r t) F) (R : ℕ) (room1 : R + N ≤ span S x.parts M K i 1) (room2 : (R + N) * 4 ≤ span S x.parts M K i 2) where
    abbrev At : ℕ → ℕ
    At r = lands_at x (batch_leaf x) i slot c0 r

    abbrev Al : Log → Log → Type 0
    Al l m = Alike S x.parts M K l m

    abbrev Kept : ℕ → List ℕ → Type 0
    Kept r c = (k : ℕ) → rows c k ≡ min (rows c0 k + sum_of (takes x (batch_leaf x) i slot k) r) top

    small : (r : ℕ) → r < N → H r < 32
    small r l = ltb-true (H r) 32 (and_left _ (ltb (At r) (half 4)) (tests r l))

    lands : (r : ℕ) → r < N → At r < half 4
    lands r l = ltb-true (At r) (half 4) (and_right (ltb (H r) 32) _ (tests r l))

    now : (r : ℕ) (c : List ℕ) → r < N → Kept r c → rows c (H r) ≡ At r
    now r c l k = let a = k (H r) in let b = lands r l in omega arith

    kept_next : (r : ℕ) (c c1 : List ℕ) (k : ℕ) (t : Bool) → eqb (H r) k ≡ t → rows c1 (H r) ≡ grown (rows c (H r)) 1 → ((j : ℕ) → (j ≡ H r → ⊥) → rows c1 j ≡ rows c j)
        → rows c k ≡ min (rows c0 k + sum_of (takes x (batch_leaf x) i slot k) r) top → rows c1 k ≡ min (rows c0 k + (sum_of (takes x (batch_leaf x) i slot k) r + cond t 1 0)) top
    unfolding grown
    kept_next r c c1 k true e a b q = let y = eqb-true (H r) k e in let a2 = rw y at a in omega arith
    kept_next r c c1 k false e a b q = let y = eqb-false (H r) k e in b k (λ z. y (sym z)) ∙ q ∙ rw (add-zero (sum_of (takes x (batch_leaf x) i slot k) r)) refl

    abbrev Goal : ℕ → ℕ → List ℕ → Log
    Goal n r c = put i 1 (R + r) (pieces (λ j. ID (r + j) ∷ []) n) ∷ put i 2 ((R + r) * 4) (pieces (λ j. encode 4 (At (r + j))) n) ∷ (Rows n r c).log

    puts_inside : (p q : ℕ) (a b : List ℕ) (l : Log) → p + length a ≤ span S x.parts M K i 1 → q + length b ≤ span S x.parts M K i 2 → Below 256 a → Below 256 b → AllInside S x.parts M K l
        → AllInside S x.parts M K (put i 1 p a ∷ put i 2 q b ∷ l)
    unfolding AllInside
    puts_inside p q a b l f g u v h = ((k1, omega arith, f, u), ((k2, omega arith, g, v), h))

    first_of_lem : (f : ℕ → List ℕ) (r n : ℕ) → pieces (λ j. f (r + j)) (suc n) ≡ f r ++ pieces (λ j. f (suc r + j)) n
    first_of_lem f r n =
        pieces_first (λ j. f (r + j)) n
        ∙ rw (add-zero r) (ap (f r ++◌) (pieces_same (λ j. f (r + suc j)) (λ j. f (suc r + j)) n (λ j l. ap f (let e : r + suc j ≡ suc r + j = omega arith in e))))

    id_byte : (r : ℕ) → ID r < 256
    id_byte r = below_at_lem 256 x.body (omega arith) body (place x i 3 + (slot + r))

    module _ (n r : ℕ) (c d : List ℕ) (s : r + suc n ≤ N) (f : Counts c) (e : rows c i ≡ R) (kept : Kept r c) (l : Leaves (Rows (suc n) r c) d) (same : d ≡ F) where
      abbrev o : Out
      o = pure x kids H P r c

      abbrev c1 : List ℕ
      c1 = o.counters

      abbrev On : List ℕ → Out
      On z = Rows n (suc r) z

      within_n : r < N
      within_n = omega arith

      one : Leaves o c1
      unfolding each
      one = next_start_lem o On l

      rest : Leaves (On c1) d
      unfolding each
      rest = next_rest o On l

      f1 : Counts c1
      f1 = kid_counters x M K body kids (H r) (leafs r within_n) (P r) 1 c c1 f one

      e1 : rows c1 i ≡ R
      e1 = (kid_else x M K body kids (H r) (leafs r within_n) (P r) 1 c c1 f one i (λ z. other r within_n (sym z))).0 ∙ e

      kept1 : Kept (suc r) c1
      unfolding sum_of
      kept1 k =
          let st = leaf_step x (H r) (leafs r within_n) kids (P r) 1 c c1 f one in
          kept_next r c c1 k (eqb (H r) k) refl st.1 st.2 (kept k)

      at_now : rows c (H r) ≡ At r
      at_now = now r c within_n kept

      less : rows c (H r) < half 4
      less = let a = at_now in let b = lands r within_n in omega arith

      mine_d : (q : ℕ) (t : q < N) → Roomy x M K body (H q) (leafs q t) d
      mine_d q t = rw same (mine q t)

      y1 : Roomy x M K body (H r) (leafs r within_n) c1
      y1 = rows_before x M K body kids H P N leafs (H r) (leafs r within_n) n (suc r) c1 d (omega arith) f1 rest (mine_d r within_n)

      selfs : Al o.log o.log
      selfs = log_self x M K body kids (H r) (leafs r within_n) (P r) 1 c c1 f one y1

      ins_e : AllInside S x.parts M K (On c1).log
      ins_e = rows_inside x M K body kids H P N leafs n (suc r) c1 d (omega arith) f1 rest mine_d

      abbrev A1 : List ℕ
      A1 = ID r ∷ []

      abbrev A2 : List ℕ
      A2 = encode 4 (At r)

      abbrev B1 : List ℕ
      B1 = pieces (λ j. ID (suc r + j) ∷ []) n

      abbrev B2 : List ℕ
      B2 = pieces (λ j. encode 4 (At (suc r + j))) n

      long1 : length B1 ≡ n
      long1 = length_pieces 1 (λ j. ID (suc r + j) ∷ []) n (λ j t. refl) ∙ (let z : 1 * n ≡ n = omega arith in z)

      long2 : length B2 ≡ 4 * n
      long2 = length_numbers 4 (λ j. At (suc r + j)) n

      fit1 : R + r + length A1 + length B1 ≤ span S x.parts M K i 1
      fit1 = let a = long1 in let b : length A1 ≡ 1 = refl in omega arith

      fit2 : (R + r) * 4 + length A2 + length B2 ≤ span S x.parts M K i 2
      fit2 = let a = long2 in let b = length_encode 4 (At r) in omega arith

      u1 : Below 256 A1
      u1 = more (id_byte r) none

      u2 : Below 256 A2
      u2 = below_of_lem 256 A2 (bytes_encode 4 (At r))

      v1 : Below 256 B1
      v1 = below_bytes (λ j. ID (suc r + j)) (λ j. id_byte (suc r + j)) n

      v2 : Below 256 B2
      v2 = below_numbers 4 (λ j. At (suc r + j)) n

      front : (copied r c).log ≡ put i 1 (R + r) A1 ∷ put i 2 ((R + r) * 4) A2 ∷ o.log
      front = row_log r c (small r within_n) less ∙ rw (e, at_now) refl

      head_in : AllInside S x.parts M K (put i 1 (R + r) A1 ∷ put i 2 ((R + r) * 4) A2 ∷ o.log)
      head_in = puts_inside (R + r) ((R + r) * 4) A1 A2 o.log (let a = fit1 in omega arith) (let a = fit2 in omega arith) u1 u2 selfs.one

      tail_in : AllInside S x.parts M K (put i 1 (R + r + length A1) B1 ∷ put i 2 ((R + r) * 4 + length A2) B2 ∷ (On c1).log)
      tail_in = puts_inside (R + r + length A1) ((R + r) * 4 + length A2) B1 B2 (On c1).log fit1 fit2 v1 v2 ins_e

      both_in : AllInside S x.parts M K (put i 1 (R + r) (A1 ++ B1) ∷ put i 2 ((R + r) * 4) (A2 ++ B2) ∷ (o.log ++ (On c1).log))
      both_in =
          let a = length-append A1 B1 in
          let b = length-append A2 B2 in
          puts_inside (R + r) ((R + r) * 4) (A1 ++ B1) (A2 ++ B2) (o.log ++ (On c1).log) (let z = fit1 in omega arith) (let z = fit2 in omega arith) (below_append 256 A1 B1 u1 v1) (below_append 256 A2 B2 u2 v2)
          (inside_append S x.parts M K o.log (On c1).log selfs.one ins_e)

      first : Al ((put i 1 (R + r) A1 ∷ put i 2 ((R + r) * 4) A2 ∷ o.log) ++ (put i 1 (R + r + length A1) B1 ∷ put i 2 ((R + r) * 4 + length A2) B2 ∷ (On c1).log)) (put i 1 (R + r) (A1 ++ B1) ∷ put i 2 ((R + r) * 4) (A2 ++ B2) ∷ (o.log ++ (On c1).log))
      first =
          gather S x.parts M K i (R + r) ((R + r) * 4) A1 B1 A2 B2 o.log (On c1).log fit1 fit2 u1 v1 u2 v2
          (λ b k w u. log_off x M K body kids (H r) (leafs r within_n) (P r) 1 c c1 f one y1 i b (λ z. other r within_n (sym z)) k w u) both_in
          (inside_append S x.parts M K (put i 1 (R + r) A1 ∷ put i 2 ((R + r) * 4) A2 ∷ o.log) (put i 1 (R + r + length A1) B1 ∷ put i 2 ((R + r) * 4 + length A2) B2 ∷ (On c1).log) head_in tail_in)

      goal_first : Goal n (suc r) c1 ≡ put i 1 (R + r + length A1) B1 ∷ put i 2 ((R + r) * 4 + length A2) B2 ∷ (On c1).log
      goal_first =
          ap (λ v. put i 1 v B1 ∷ put i 2 ((R + suc r) * 4) B2 ∷ (On c1).log) (let z : R + suc r ≡ R + r + 1 = omega arith in z)
          ∙ ap (λ v. put i 1 (R + r + length A1) B1 ∷ put i 2 v B2 ∷ (On c1).log) (let b = length_encode 4 (At r) in let z : (R + suc r) * 4 ≡ (R + r) * 4 + length A2 = omega arith in z)

      goal_all : Goal (suc n) r c ≡ put i 1 (R + r) (A1 ++ B1) ∷ put i 2 ((R + r) * 4) (A2 ++ B2) ∷ (o.log ++ (On c1).log)
      unfolding each
      goal_all =
          ap (λ v. put i 1 (R + r) v ∷ put i 2 ((R + r) * 4) (pieces (λ j. encode 4 (At (r + j))) (suc n)) ∷ (Rows (suc n) r c).log) (first_of_lem (λ j. ID j ∷ []) r n)
          ∙ ap (λ v. put i 1 (R + r) (A1 ++ B1) ∷ put i 2 ((R + r) * 4) v ∷ (Rows (suc n) r c).log) (first_of_lem (λ j. encode 4 (At j)) r n)
          ∙ ap (λ v. put i 1 (R + r) (A1 ++ B1) ∷ put i 2 ((R + r) * 4) (A2 ++ B2) ∷ v) (next_log On one)

      step : Al (each copied n (suc r) c1).log (Goal n (suc r) c1) → Al (each copied (suc n) r c).log (Goal (suc n) r c)
      unfolding each
      step ih =
          rw (next_log (λ z. each copied n (suc r) z) (row_leaves r c c1 (small r within_n) less one), front, goal_all)
          (alike_trans S x.parts M K (alike_append S x.parts M K (alike_refl S x.parts M K (put i 1 (R + r) A1 ∷ put i 2 ((R + r) * 4) A2 ∷ o.log) head_in) (rw goal_first at ih)) first)

    pub rows_write : (n r : ℕ) (c d : List ℕ) → r + n ≤ N → Counts c → rows c i ≡ R → Kept r c → Leaves (Rows n r c) d → d ≡ F → Al (each copied n r c).log (Goal n r c)
    unfolding each done AllInside pieces
    rows_write zero r c d s f e kept l same =
        alike_sym S x.parts M K (puts_none S x.parts M K i (R + r) ((R + r) * 4) (puts_inside (R + r) ((R + r) * 4) [] [] [] (let z : length {A = ℕ} [] ≡ 0 = refl in omega arith) (let z : length {A = ℕ} [] ≡ 0 = refl in omega arith) none none tt))
    rows_write (suc n) r c d s f e kept l same =
        step n r c d s f e kept l same
        (rows_write n (suc r) (pure x kids H P r c).counters d (omega arith) (f1 n r c d s f e kept l same) (e1 n r c d s f e kept l same) (kept1 n r c d s f e kept l same) (rest n r c d s f e kept l same) same)
