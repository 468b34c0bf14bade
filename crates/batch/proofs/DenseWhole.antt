-- THEOREM 2 for dense unions, part by part. Assumes nothing.
use mathlib.Core.Path.{◌≡◌, refl, sym, ap, subst, ◌∙◌}
use mathlib.Core.Bool.{Bool, true, cond, ◌&&◌}
use mathlib.Core.List.{List, [], ◌∷◌}
use Prim.Native.Nat.{ℕ, zero, suc, ◌+◌, ◌*◌, ◌≤◌, ◌<◌}
use native.Mathlib.Nat.{zero-add, add-zero}
use native.Mathlib.Omega.{arith}
use lib.ListN.{length, take, drop, get_or}
use lib.Dec.{leb, ltb}
use borrow.Author.Tests.{leb-true, ltb-true}
use Rattle.number.specs.Number.{encode}
use Rattle.bits.proofs.Laws.{Below}
use Rattle.columnar.specs.Types.{half}
use Rattle.columnar.specs.Test.{every}
use Rattle.plan.proofs.parts.Placed.{every_at}
use Rattle.utils.specs.Pieces.{pieces, numbers}
use Rattle.utils.proofs.Pieces.{pieces_same}
use Rattle.walk.specs.State.{Join, code_of, end_of, rows, place, rows_in}
use Rattle.walk.specs.Log.{Out, put, done, wrote, need, next, each}
use Rattle.walk.specs.Copy.{id_at, position_at, copy_dense, copy_walk}
use Rattle.batch.specs.Stretch.{sum_of}
use Rattle.batch.specs.Batch.{is_leaf, owned, batch_leaf}
use Rattle.batch.specs.Dense.{home, lands_at, batch_fields, batch_dense}
use Rattle.batch.proofs.Ends.{Leaves, need_was, need_rest, wrote_rest, next_start_lem, next_rest}
use Rattle.batch.proofs.Tally.{Counts}
use Rattle.batch.proofs.Stretches.{and_left}
use Rattle.batch.proofs.Windows.{span, AllInside}
use Rattle.batch.proofs.Alike.{Alike, alike_refl, alike_sym, alike_trans, alike_append}
use Rattle.batch.proofs.LeafLogs.{Roomy}
use Rattle.batch.proofs.Dense.{pure}
use Rattle.batch.proofs.DenseAnswers.{Result, fields_same}
use Rattle.batch.proofs.DenseWithin.{kid_counters, rows_inside}
use Rattle.batch.proofs.DenseFields.{Said, said}
use Rattle.batch.proofs.DenseWrites.{bytes_are, homes_own, homes_behind, copied, rows_write}

module _ (x : Join) (depth i slot N : ℕ) (c : List ℕ) (f : Counts c) where
  abbrev S : List ℕ
  S = x.plan

  abbrev H : ℕ → ℕ
  H r = home x (batch_leaf x) i slot r

  abbrev P : ℕ → ℕ
  P r = position_at x (batch_leaf x) i (slot + r)

  abbrev Fields : Out
  Fields = batch_fields x (batch_leaf x) i slot N (end_of S i) 32 (suc i) c

  abbrev lie : Bool
  lie = rows_in x (place x i 3) 1 slot N && rows_in x (place x i 5) 4 slot N

  abbrev go_in : ℕ → Bool
  go_in r = ltb (H r) 32 && ltb (lands_at x (batch_leaf x) i slot c r) (half 4)

  pub record Tests (d : List ℕ) : Type 0 where
    pub t1 : owned S i ≡ true
    pub t2 : lie ≡ true
    pub t3 : every go_in N ≡ true
    pub left : Leaves Fields d

  pub tested : (d : List ℕ) → Leaves (batch_dense x (batch_leaf x) i slot N c) d → Tests d
  unfolding batch_dense
  tested d l =
      let l1 = need_rest (owned S i) 12 c _ (omega arith) l in
      let l2 = need_rest lie 12 c _ (omega arith) l1 in
      record {
        t1 = need_was (owned S i) 12 c _ (omega arith) l.ok;
        t2 = need_was lie 12 c _ (omega arith) l1.ok;
        t3 = need_was (every go_in N) 12 c _ (omega arith) l2.ok;
        left = wrote_rest _ c _ (wrote_rest _ c _ (need_rest (every go_in N) 12 c _ (omega arith) l2));
      }

  module _ (F : List ℕ) (t : Tests F) where
    tests : (r : ℕ) → r < N → go_in r ≡ true
    tests = every_at go_in N t.t3

    small : (r : ℕ) → r < N → H r < 32
    small r l = ltb-true (H r) 32 (and_left _ (ltb (lands_at x (batch_leaf x) i slot c r) (half 4)) (tests r l))

    result : Result x depth i slot N (λ r. true) c F
    result =
        fields_same x depth i slot N 32 (suc i) (λ r. true) c F f t.left (λ r s z. let y : ◌≡◌ {A = ℕ} 1 0 = ap (λ t. cond t 1 0) z in absurd (omega arith)) (λ r s z. (small r s, refl))

    leafs : (r : ℕ) → r < N → is_leaf (code_of S (H r)) ≡ true
    leafs r l = result.1 r l refl

    batch_log : (batch_dense x (batch_leaf x) i slot N c).log ≡ put i 1 (rows c i) (take N (drop (place x i 3 + slot) x.body)) ∷ put i 2 (rows c i * 4) (numbers 4 (lands_at x (batch_leaf x) i slot c) N) ∷ Fields.log
    unfolding batch_dense need next wrote
    batch_log = rw (t.t1, t.t2, t.t3)

    copy_log : (copy_dense x (copy_walk x (suc depth)) i slot N c).log ≡ (each (copied x depth i slot N) N 0 c).log
    unfolding copy_dense need
    copy_log = rw t.t2

    module _ (M : ℕ) (K : ℕ → ℕ → Type 0) (body : Below 256 x.body) (rooms : (k : ℕ) (p : is_leaf (code_of S k) ≡ true) → owned S k ≡ true → Roomy x M K body k p F) where
      mine : (r : ℕ) (l : r < N) → Roomy x M K body (H r) (leafs r l) F
      mine r l = rooms (H r) (leafs r l) (homes_own x depth i slot N c F t.left r (small r l))

      says : Said x M K body depth i slot N c F f leafs result.0 rooms mine 32 (suc i) c
      says = said x M K body depth i slot N c F f leafs result.0 rooms mine 32 (suc i) c f t.left

      -- the union's own rows are not yet counted
      pub own_rows : rows F i ≡ rows c i
      own_rows = (says.keep i (omega arith)).0

      leaves_counters : (n r : ℕ) (b d : List ℕ) → r + n ≤ N → Counts b → Leaves (each (pure x (copy_walk x depth) H P) n r b) d → Counts d
      unfolding each done
      leaves_counters zero r b d s g l = subst Counts l.left g
      leaves_counters (suc n) r b d s g l =
          let o : Out = pure x (copy_walk x depth) H P r b in
          let on : List ℕ → Out = λ z. each (pure x (copy_walk x depth) H P) n (suc r) z in
          leaves_counters n (suc r) o.counters d (omega arith) (kid_counters x M K body (copy_walk x depth) (H r) (leafs r (omega arith)) (P r) 1 b o.counters g (next_start_lem o on l)) (next_rest o on l)

      pub end_counters : Counts F
      end_counters = leaves_counters N 0 c F (omega arith) f result.0

      children : Alike S x.parts M K Fields.log (each (pure x (copy_walk x depth) H P) N 0 c).log
      children =
          let s = says in
          record {
            one = s.lies;
            two = rows_inside x M K body (copy_walk x depth) H P N leafs N 0 c F (omega arith) f result.0 mine;
            same = λ j b y w u. s.see (λ r. true) (λ r l z. let y : ◌≡◌ {A = ℕ} 1 0 = ap (λ t. cond t 1 0) z in absurd (omega arith)) (λ r l z. (small r l, refl)) j b y
                (λ r l z. let y : ◌≡◌ {A = ℕ} 1 0 = ap (λ t. cond t 1 0) z in absurd (omega arith)) (refl, refl) w u;
          }

      ids : pieces (λ j. id_at x (batch_leaf x) i (slot + (0 + j)) ∷ []) N ≡ take N (drop (place x i 3 + slot) x.body)
      unfolding rows_in
      ids =
          let l : place x i 3 + 1 * (slot + N) ≤ length x.body = leb-true _ _ (and_left _ (leb (place x i 5 + 4 * (slot + N)) (length x.body)) t.t2) in
          pieces_same _ (λ j. get_or x.body (place x i 3 + slot + j) 0 ∷ []) N (λ j q. ap (λ v. get_or x.body v 0 ∷ []) (let e : place x i 3 + (slot + (0 + j)) ≡ place x i 3 + slot + j = omega arith in e))
          ∙ sym (bytes_are (place x i 3 + slot) N x.body (omega arith))

      module _ (k1 : K i 1) (k2 : K i 2) (room1 : rows c i + N ≤ span S x.parts M K i 1) (room2 : (rows c i + N) * 4 ≤ span S x.parts M K i 2) where
        -- A DENSE UNION BY STRETCHES WRITES what its rows one after the other write
        pub dense_write : Alike S x.parts M K (batch_dense x (batch_leaf x) i slot N c).log (copy_dense x (copy_walk x (suc depth)) i slot N c).log
        unfolding AllInside sum_of
        dense_write =
            let rs = rows_write x depth i slot N M K body leafs c tests (λ r l e. homes_behind x depth i slot N c F t.left r (small r l) e) k1 k2 F mine (rows c i) room1 room2 N 0 c F (omega arith) f refl
            (λ k. let y = f.small (3 * k) in omega arith) result.0 refl in
            let e0 : rows c i + 0 ≡ rows c i = add-zero (rows c i) in
            let e2 : pieces (λ j. encode 4 (lands_at x (batch_leaf x) i slot c (0 + j))) N ≡ numbers 4 (lands_at x (batch_leaf x) i slot c) N = pieces_same _ _ N (λ j q. ap (λ v. encode 4 (lands_at x (batch_leaf x) i slot c v)) (zero-add j)) in
            let ab : Alike S x.parts M K (each (copied x depth i slot N) N 0 c).log
            (put i 1 (rows c i) (take N (drop (place x i 3 + slot) x.body)) ∷ put i 2 (rows c i * 4) (numbers 4 (lands_at x (batch_leaf x) i slot c) N) ∷ (each (pure x (copy_walk x depth) H P) N 0 c).log) = rw (e0, ids, e2) at rs in
            let hd : AllInside S x.parts M K (put i 1 (rows c i) (take N (drop (place x i 3 + slot) x.body)) ∷ put i 2 (rows c i * 4) (numbers 4 (lands_at x (batch_leaf x) i slot c) N) ∷ []) = (ab.two.0, (ab.two.1.0, tt)) in
            rw (batch_log, copy_log)
            (alike_trans S x.parts M K
            (alike_append S x.parts M K (alike_refl S x.parts M K (put i 1 (rows c i) (take N (drop (place x i 3 + slot) x.body)) ∷ put i 2 (rows c i * 4) (numbers 4 (lands_at x (batch_leaf x) i slot c) N) ∷ []) hd) children)
            (alike_sym S x.parts M K ab))
