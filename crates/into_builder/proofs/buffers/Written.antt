-- Tables that are written from their beginning on, one number after the other. Assumes nothing.
use mathlib.Core.Path.{◌≡◌, refl, sym, ap, ◌∙◌}
use mathlib.Core.List.{List, [], ◌∷◌, ◌++◌, append-nil, append_assoc}
use Prim.Native.Nat.{ℕ, suc, ◌+◌, ◌≤◌, ◌<◌}
use native.Mathlib.Nat.{add-zero, zero-add}
use native.Mathlib.Numerals.{add-one}
use native.Mathlib.Omega.{arith}
use lib.ListN.{length, take, set, length-set}
use lib.Seq.{take_all, take-suc-set}
use Rattle.columnar.specs.Row.{seg}
use Rattle.array_data.proofs.node_words.Laws.{seg_snoc}
use Rattle.into_builder.specs.buffers.Names.{Behind}

pub behind_none : (l : List ℕ) (at : ℕ) → Behind l l at 0 []
behind_none l at = record { same = refl; first = ap (λ k. take k l) (add-zero at) ∙ sym (append-nil (take at l)) }

-- one number more
pub behind_one : (l m : List ℕ) (at n v : ℕ) (xs : List ℕ) → at + n < length l → Behind l m at n xs → Behind l (set m (at + n) v) at (n + 1) (xs ++ v ∷ [])
behind_one l m at n v xs h b =
    let e : at + (n + 1) ≡ suc (at + n) = omega arith in
    record {
      same = length-set m (at + n) v ∙ b.same;
      first =
          ap (λ k. take k (set m (at + n) v)) e
          ∙ take-suc-set m (at + n) v (omega (arith, b.same))
          ∙ ap (λ s. s ++ (v ∷ [])) b.first
          ∙ append_assoc (take at l) xs (v ∷ []);
    }

-- some and then others behind them
pub behind_then : {a b c : List ℕ} {at n m : ℕ} {xs ys : List ℕ} → Behind a b at n xs → Behind b c (at + n) m ys → Behind a c at (n + m) (xs ++ ys)
behind_then {a} {b} {c} {at} {n} {m} {xs} {ys} p q =
    let e : at + (n + m) ≡ at + n + m = omega arith in
    record {
      same = q.same ∙ p.same;
      first = ap (λ k. take k c) e ∙ q.first ∙ ap (λ s. s ++ ys) p.first ∙ append_assoc (take at a) xs ys;
    }

-- from the beginning to the end
pub behind_all : {l m : List ℕ} {n : ℕ} {xs : List ℕ} → Behind l m 0 n xs → length l ≤ n → m ≡ xs
behind_all {l} {m} {n} b h =
    let e : 0 + n ≡ n = zero-add n in
    sym (take_all n m (omega (arith, b.same))) ∙ sym (ap (λ k. take k m) e) ∙ b.first

-- ---- one number of a stretch after the other

module _ (f : ℕ → ℕ) (l m : List ℕ) where
  pub seg_more : (a at q v : ℕ) → at + q < length l → Behind l m at q (seg f a q) → v ≡ f (a + q) → Behind l (set m (at + q) v) at (q + 1) (seg f a (q + 1))
  seg_more a at q v h b e =
      let s : seg f a q ++ (v ∷ []) ≡ seg f a (q + 1) = ap (λ k. seg f a q ++ (k ∷ [])) e ∙ sym (seg_snoc f a q) ∙ ap (seg f a) (sym (add-one q)) in
      rw (← s) (behind_one l m at q v (seg f a q) h b)

  pub seg_all : (a at q n : ℕ) → q ≡ n → Behind l m at q (seg f a q) → Behind l m at n (seg f a n)
  seg_all a at q n e b = rw e at b

  pub table_more : (q v : ℕ) → q < length l → Behind l m 0 q (seg f 0 q) → v ≡ f q → Behind l (set m q v) 0 (q + 1) (seg f 0 (q + 1))
  table_more q v h b e =
      let z : 0 + q ≡ q = zero-add q in
      rw z at (seg_more 0 0 q v (omega arith) b (e ∙ ap f (sym z)))

  pub table_all : (q n : ℕ) → q ≡ n → length l ≡ n → Behind l m 0 q (seg f 0 q) → m ≡ seg f 0 n
  table_all q n e h b = behind_all b (omega arith) ∙ ap (seg f 0) e
