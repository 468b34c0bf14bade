-- The log of a dense union's children by stretches does to every part what the log of its rows in turn does. Assumes nothing.
use mathlib.Core.Path.{◌≡◌, refl, sym, ap, ◌∙◌}
use mathlib.Core.Bool.{Bool, true, false, cond, not, ◌&&◌}
use mathlib.Core.List.{List, [], ◌++◌}
use Prim.Native.Nat.{ℕ, zero, suc, ◌+◌, ◌<◌}
use native.Mathlib.Omega.{arith}
use lib.Dec.{ltb, eqb}
use borrow.Author.Tests.{eqb-true, eqb-false, ltb-true}
use Rattle.bits.proofs.Laws.{Below}
use Rattle.walk.specs.State.{Join, code_of, end_of, id_of, rows, bytes}
use Rattle.walk.specs.Log.{Out, done, need, next, each}
use Rattle.walk.specs.Copy.{Walk, child_with, id_at, position_at, copy_node, copy_walk}
use Rattle.batch.specs.Stretch.{stretches}
use Rattle.batch.specs.Batch.{is_leaf, owned, batch_leaf}
use Rattle.batch.specs.Dense.{home, takes, takes_at, batch_fields}
use Rattle.batch.proofs.Ends.{Leaves, need_was, need_is, need_rest, next_start_lem, next_rest}
use Rattle.batch.proofs.Tally.{Counts}
use Rattle.batch.proofs.Stretches.{and_left, and_right}
use Rattle.batch.proofs.LeafCuts.{good, leaf_cuts}
use Rattle.batch.proofs.Windows.{within, within_append, AllInside, inside_append}
use Rattle.batch.proofs.Alike.{Window, within_window, Alike}
use Rattle.batch.proofs.LeafLogs.{Roomy}
use Rattle.batch.proofs.LeafCutLogs.{leaf_cut_logs}
use Rattle.batch.proofs.StretchLogs.{next_log, stretches_write}
use Rattle.batch.proofs.Dense.{pure, of_child}
use Rattle.batch.proofs.DenseAnswers.{child_leaf, child_rows, child_empty, child_counters, Found, fewer, gone2, here2}
use Rattle.batch.proofs.DenseLogs.{roomy_as, log_off}
use Rattle.batch.proofs.DenseWithin.{Agree, kid_counters, kid_else, rows_off, own_before, rows_own}

module _ (x : Join) (M : ℕ) (K : ℕ → ℕ → Type 0) (body : Below 256 x.body) (depth i slot N : ℕ) where
  abbrev S : List ℕ
  S = x.plan

  abbrev kids : Walk
  kids = copy_walk x depth

  abbrev H : ℕ → ℕ
  H r = home x (batch_leaf x) i slot r

  abbrev P : ℕ → ℕ
  P r = position_at x (batch_leaf x) i (slot + r)

  abbrev ID : ℕ → ℕ
  ID r = id_at x (batch_leaf x) i (slot + r)

  abbrev Leaf : ℕ → Type 0
  Leaf k = is_leaf (code_of S k) ≡ true

  abbrev R : (k : ℕ) → Leaf k → List ℕ → Type 0
  R k p c = Roomy x M K body k p c

  abbrev Win : ℕ → ℕ → List ℕ → Type 0
  Win j b w = Window S x.parts M K j b w

  abbrev Ag : ℕ → List ℕ → List ℕ → Type 0
  Ag j c d = Agree x M K body kids j c d

  abbrev Stretched : ℕ → List ℕ → Out
  Stretched k c = stretches (λ a m e. batch_leaf x k a m e) (takes_at x (batch_leaf x) i slot k) (takes x (batch_leaf x) i slot k) N c

  abbrev Own : ℕ → ℕ → ℕ → List ℕ → Out
  Own k n r c = each (of_child x kids H P k) n r c

  -- other nodes keep their rows and bytes
  own_else : (k : ℕ) (p : Leaf k) (n r : ℕ) (c d : List ℕ) → Counts c → Leaves (Own k n r c) d → (j : ℕ) → (j ≡ k → ⊥) → Ag j d c
  unfolding each done
  own_else k p zero r c d f l j ne = (ap (λ y. rows y j) (sym l.left), ap (λ y. bytes y j) (sym l.left))
  own_else k p (suc n) r c d f l j ne =
      let o : Out = of_child x kids H P k r c in
      let on : List ℕ → Out = λ z. Own k n (suc r) z in
      let one = next_start_lem o on l in
      let a = own_else k p n (suc r) o.counters d (kid_counters x M K body kids k p _ _ c _ f one) (next_rest o on l) j ne in
      let b = kid_else x M K body kids k p _ _ c _ f one j ne in
      (a.0 ∙ b.0, a.1 ∙ b.1)

  -- .. and their parts
  own_off : (k : ℕ) (p : Leaf k) (j b : ℕ) → (j ≡ k → ⊥) → K j b → (n r : ℕ) (c d w : List ℕ) → Counts c → Leaves (Own k n r c) d → R k p d → ((c : List ℕ) → Counts c → Leaves (copy_node x kids k 0 0 c) c) → Win j b w
      → within j b (Own k n r c).log w ≡ w
  unfolding each done within
  own_off k p j b ne y zero r c d w f l h empty u = refl
  own_off k p j b ne y (suc n) r c d w f l h empty u =
      let o : Out = of_child x kids H P k r c in
      let on : List ℕ → Out = λ z. Own k n (suc r) z in
      let one = next_start_lem o on l in
      let f1 = kid_counters x M K body kids k p _ _ c _ f one in
      let more = next_rest o on l in
      let z = own_before x M K body kids H P 0 (λ q t. absurd (omega arith)) k p empty n (suc r) o.counters d f1 more h in
      let e = log_off x M K body kids k p _ _ c _ f one z j b ne y w u in
      rw (next_log on one, within_append j b o.log (on o.counters).log w, e) (own_off k p j b ne y n (suc r) o.counters d w f1 more h empty u)

  -- one child by stretches writes its rows
  child_writes : (k : ℕ) (c d : List ℕ) (f : Counts c) (l : Leaves (Stretched k c) d) → R k (child_leaf x depth i slot N k c d f l) d
      → Alike S x.parts M K (Stretched k c).log (Own k N 0 c).log
  child_writes k c d f l h =
      let p = child_leaf x depth i slot N k c d f l in
      stretches_write S x.parts M K k (R k p) (good x k p) (λ a n c. batch_leaf x k a n c) (λ a n c. copy_node x kids k a n c) (leaf_cuts x k p kids) (leaf_cut_logs x M K body k p kids)
      (takes_at x (batch_leaf x) i slot k) (takes x (batch_leaf x) i slot k) N c f l.ok (rw l.left h)

  -- ---- all rows in turn, from c0 to F

  module _ (c0 F : List ℕ) (f0 : Counts c0) (leafs : (r : ℕ) → r < N → Leaf (H r)) (turns : Leaves (each (pure x kids H P) N 0 c0) F)
      (rooms : (k : ℕ) (p : Leaf k) → owned S k ≡ true → R k p F) (mine : (r : ℕ) (t : r < N) → R (H r) (leafs r t) F) where
    abbrev Fields : ℕ → ℕ → List ℕ → Out
    Fields f k c = batch_fields x (batch_leaf x) i slot N (end_of S i) f k c

    -- what is said of the children from node k on
    pub record Said (f k : ℕ) (c : List ℕ) : Type 0 where
      pub keep : (j : ℕ) → j < k → Ag j F c
      pub lies : AllInside S x.parts M K (Fields f k c).log
      pub off : (j b : ℕ) → j < k → K j b → (w : List ℕ) → Win j b w → within j b (Fields f k c).log w ≡ w
      pub see : (left : ℕ → Bool) → ((r : ℕ) → r < N → left r ≡ false → H r < k) → Found x depth i slot N f k left → (j b : ℕ) → K j b → ((r : ℕ) → r < N → left r ≡ false → H r ≡ j → ⊥)
          → Ag j c0 c → (w : List ℕ) → Win j b w → within j b (Fields f k c).log w ≡ within j b (each (pure x kids H P) N 0 c0).log w

    -- no child is left
    ended : (f k : ℕ) (c : List ℕ) → (Fields f k c).log ≡ [] → c ≡ F → ((r : ℕ) → child_with S (ID r) (end_of S i) f k ≡ 32) → Said f k c
    unfolding AllInside within
    ended f k c e g none =
        record {
          keep = λ j l. (ap (λ y. rows y j) (sym g), ap (λ y. bytes y j) (sym g));
          lies = rw e tt;
          off = λ j b l y w u. rw e refl;
          see = λ left gone here j b y unseen ag w u.
              rw e (sym (rows_off x M K body kids H P N leafs j b y (λ r t q. all left here unseen r t q (left r) refl) N 0 c0 F w (omega arith) f0 turns mine u));
        }
      where
        all : (left : ℕ → Bool) → Found x depth i slot N f k left → {j : ℕ} → ((r : ℕ) → r < N → left r ≡ false → H r ≡ j → ⊥) → (r : ℕ) → r < N → H r ≡ j → (t : Bool) → left r ≡ t → ⊥
        all left here unseen r l q true a = let h = here r l a in let m = none r in omega arith
        all left here unseen r l q false a = unseen r l a q

    next_child : (f k id : ℕ) → ltb k (end_of S i) ≡ true → child_with S id (end_of S i) (suc f) k ≡ cond (eqb (id_of S k) id) k (child_with S id (end_of S i) f (end_of S k))
    unfolding child_with
    next_child f k id e = rw e

    module _ (f k : ℕ) (c : List ℕ) (fc : Counts c) (c2 : List ℕ) (one : Leaves (Stretched k c) c2) (rises : k < end_of S k) (own : owned S k ≡ true) (now : ltb k (end_of S i) ≡ true)
        (log : (Fields (suc f) k c).log ≡ (Stretched k c).log ++ (Fields f (end_of S k) c2).log) (ih : Said f (end_of S k) c2) where
      abbrev p : Leaf k
      p = child_leaf x depth i slot N k c c2 fc one

      empty : (e : List ℕ) → Counts e → Leaves (copy_node x kids k 0 0 e) e
      empty = child_empty x depth i slot N k c c2 fc one

      rows_of : Leaves (Own k N 0 c) c2
      rows_of = child_rows x depth i slot N k c c2 fc one

      rk : R k p c2
      rk = let a = ih.keep k rises in roomy_as x M K body kids k p F c2 a.0 a.1 (rooms k p own)

      cw : Alike S x.parts M K (Stretched k c).log (Own k N 0 c).log
      cw = child_writes k c c2 fc one rk

      -- what the child's stretches leave
      st_off : (j b : ℕ) → (j ≡ k → ⊥) → K j b → (w : List ℕ) → Win j b w → within j b (Stretched k c).log w ≡ w
      st_off j b ne y w u = cw.same j b y w u ∙ own_off k p j b ne y N 0 c c2 w fc rows_of rk empty u

      see_own : (b : ℕ) → K k b → Ag k c0 c → (w : List ℕ) → Win k b w → within k b (Fields f (end_of S k) c2).log (within k b (Stretched k c).log w) ≡ within k b (each (pure x kids H P) N 0 c0).log w
      see_own b y ag w u =
          ih.off k b rises y _ (within_window S x.parts M K k b (Stretched k c).log cw.one w u)
          ∙ cw.same k b y w u
          ∙ sym (rows_own x M K body kids H P N leafs k p empty b y N 0 c0 F c c2 w (omega arith) f0 fc ag turns rows_of mine (rooms k p own) rk u)

      said_next : Said (suc f) k c
      said_next =
          record {
            keep = λ j l. let a = ih.keep j (omega arith) in let b = own_else k p N 0 c c2 fc rows_of j (λ z. omega arith) in (a.0 ∙ b.0, a.1 ∙ b.1);
            lies = rw log (inside_append S x.parts M K (Stretched k c).log (Fields f (end_of S k) c2).log cw.one ih.lies);
            off = λ j b l y w u.
                rw (log, within_append j b (Stretched k c).log (Fields f (end_of S k) c2).log w, st_off j b (λ z. omega arith) y w u) (ih.off j b (omega arith) y w u);
            see = λ left gone here j b y unseen ag w u.
                rw (log, within_append j b (Stretched k c).log (Fields f (end_of S k) c2).log w) (go left gone here j b y unseen ag w u (eqb j k) refl);
          }
        where
          go : (left : ℕ → Bool) → ((r : ℕ) → r < N → left r ≡ false → H r < k) → Found x depth i slot N (suc f) k left → (j b : ℕ) → K j b → ((r : ℕ) → r < N → left r ≡ false → H r ≡ j → ⊥)
              → Ag j c0 c → (w : List ℕ) → Win j b w → (t : Bool) → eqb j k ≡ t
              → within j b (Fields f (end_of S k) c2).log (within j b (Stretched k c).log w) ≡ within j b (each (pure x kids H P) N 0 c0).log w
          go left gone here j b y unseen ag w u true e = let z = eqb-true j k e in rw z (see_own b (rw z at y) (rw z at ag) w (rw z at u))
          go left gone here j b y unseen ag w u false e =
              let ne = eqb-false j k e in
              let h2 : (r : ℕ) → r < N → left r ≡ true → (H r < 32) × (H r ≡ cond (eqb (id_of S k) (ID r)) k (child_with S (ID r) (end_of S i) f (end_of S k))) = λ r l t. ((here r l t).0, (here r l t).1 ∙ next_child f k (ID r) now) in
              let a = own_else k p N 0 c c2 fc rows_of j ne in
              rw (st_off j b ne y w u)
              (ih.see (fewer x depth i slot N f k left c F fc rises gone h2 c2 one) (gone2 x depth i slot N f k left c F fc rises gone h2 c2 one) (here2 x depth i slot N f k left c F fc rises gone h2 c2 one) j b y
              (λ r l q z. other left j unseen ne r l z (left r) refl (eqb (H r) k) refl q) (ag.0 ∙ sym a.0, ag.1 ∙ sym a.1) w u)
            where
              other : (left : ℕ → Bool) (j : ℕ) → ((r : ℕ) → r < N → left r ≡ false → H r ≡ j → ⊥) → (j ≡ k → ⊥) → (r : ℕ) → r < N → H r ≡ j → (t : Bool) → left r ≡ t → (v : Bool) → eqb (H r) k ≡ v → (t && not v) ≡ false → ⊥
              other left j unseen ne r l z false a v b q = unseen r l a z
              other left j unseen ne r l z true a true b q = ne (sym z ∙ eqb-true (H r) k b)
              other left j unseen ne r l z true a false b q = let y : ◌≡◌ {A = ℕ} 1 0 = ap (λ t. cond t 1 0) q in omega arith

    pub said : (f k : ℕ) (c : List ℕ) → Counts c → Leaves (Fields f k c) F → Said f k c
    unfolding batch_fields child_with done
    said zero k c fc l = ended zero k c refl l.left (λ r. refl)
    said (suc f) k c fc l = go (λ c fc l. said f (end_of S k) c fc l) (ltb k (end_of S i)) refl l
      where
        go : ((c : List ℕ) → Counts c → Leaves (Fields f (end_of S k) c) F → Said f (end_of S k) c) → (t : Bool) → ltb k (end_of S i) ≡ t
            → Leaves (cond t (need (ltb k (end_of S k) && owned S k) 12 c (next (Stretched k c) (λ c2. Fields f (end_of S k) c2))) (done c)) F → Said (suc f) k c
        go ih false e l = ended (suc f) k c (rw e refl) l.left (λ r. rw e refl)
        go ih true e l =
            let on : List ℕ → Out = λ c2. Fields f (end_of S k) c2 in
            let t = need_was (ltb k (end_of S k) && owned S k) 12 c (next (Stretched k c) on) (omega arith) l.ok in
            let l1 = need_rest (ltb k (end_of S k) && owned S k) 12 c (next (Stretched k c) on) (omega arith) l in
            let one = next_start_lem (Stretched k c) on l1 in
            let c2 = (Stretched k c).counters in
            let fc2 = child_counters x depth i slot N k c c2 fc one in
            said_next f k c fc c2 one (ltb-true k (end_of S k) (and_left _ (owned S k) t)) (and_right (ltb k (end_of S k)) _ t) e
            (rw (e, need_is 12 c (next (Stretched k c) on) t) (next_log on one)) (ih c2 fc2 (next_rest (Stretched k c) on l1))
