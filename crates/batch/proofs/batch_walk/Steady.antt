-- Byte strings whose rows were looked at one by one: no stretch of them is refused, and the counters after them are known. Assumes nothing.
use mathlib.Core.Path.{◌≡◌, refl, sym, ap, subst, ◌∙◌}
use mathlib.Core.Bool.{Bool, true, false, cond, ◌&&◌}
use mathlib.Core.List.{List, [], ◌∷◌}
use Prim.Native.Nat.{ℕ, zero, suc, ◌+◌, ◌*◌, ◌-◌, ◌≤◌, ◌<◌}
use native.Mathlib.Nat.{add-zero, zero-add, add-suc, mul-le-mul_left, le_refl}
use native.Mathlib.Omega.{arith}
use lib.ListN.{length, get_or, set}
use lib.Dec.{leb, eqb}
use borrow.Author.Tests.{lt-ltb, le-leb, leb-true, eqb-true, eqb-false}
use Rattle.utils.specs.Offsets.{largest}
use Rattle.walk.specs.State.{Join, bytes_of, bytes, add_rows, set_bytes, grown, place, offset_of, far, slot_of, rows_in}
use Rattle.walk.specs.Log.{Log, Out, Did, apply_if, next}
use Rattle.walk.specs.Leaves.{copy_string}
use Rattle.batch.specs.Stretch.{sum_of, never_falls, stretch, stretches}
use Rattle.batch.specs.Batch.{batch_leaf}
use Rattle.batch.specs.batch_walk.Plain.{is_text, steady_string}
use Rattle.batch.proofs.Ends.{Leaves, leaves_next, leaves_need, leaves_done}
use Rattle.batch.proofs.Stretches.{and_left, and_right}
use Rattle.batch.proofs.Leaves.{no_bytes}
use Rattle.batch.proofs.Strings.{rises, off, off_later, Fit, string_goes}
use Rattle.batch.proofs.ListViews.{sum_up}
use Rattle.batch.proofs.batch_walk.Sums.{sum_next}
use Rattle.batch.proofs.batch_walk.TextLeaf.{text_yes}

-- n rows and d bytes more at node k
abbrev more_of : ℕ → ℕ → ℕ → List ℕ → List ℕ
more_of k n d c = add_rows k n (set_bytes k (bytes c k + d) c)

-- the same of the counters i and j
abbrev moved_on : List ℕ → ℕ → ℕ → ℕ → ℕ → List ℕ
moved_on l i j n d = set (set l j (get_or l j 0 + d)) i (grown (get_or (set l j (get_or l j 0 + d)) i 0) n)

grown_twice : (v m p : ℕ) → grown (grown v m) p ≡ grown v (m + p)
unfolding grown
grown_twice v m p = omega arith

moved_twice : (l : List ℕ) (i n d m e : ℕ) → moved_on (moved_on l i (suc (suc i)) n d) i (suc (suc i)) m e ≡ moved_on l i (suc (suc i)) (n + m) (d + e)
moved_twice [] i n d m e = refl
moved_twice (x ∷ []) zero n d m e = ap (λ v. v ∷ []) (grown_twice x n m)
moved_twice (x ∷ y ∷ []) zero n d m e = ap (λ v. v ∷ y ∷ []) (grown_twice x n m)
moved_twice (x ∷ y ∷ z ∷ l) zero n d m e = ap (λ v. v ∷ y ∷ (z + d + e) ∷ l) (grown_twice x n m) ∙ ap (λ v. grown x (n + m) ∷ y ∷ v ∷ l) (let f : z + d + e ≡ z + (d + e) = omega arith in f)
moved_twice (x ∷ l) (suc i) n d m e = ap (λ v. x ∷ v) (moved_twice l i n d m e)

moved_most : (l : List ℕ) (i n d : ℕ) → get_or (moved_on l i (suc (suc i)) n d) (suc (suc i)) 0 ≤ get_or l (suc (suc i)) 0 + d
moved_most [] i n d = omega arith
moved_most (x ∷ []) zero n d = omega arith
moved_most (x ∷ y ∷ []) zero n d = omega arith
moved_most (x ∷ y ∷ z ∷ l) zero n d = omega arith
moved_most (x ∷ l) (suc i) n d = moved_most l i n d

second : (k : ℕ) → suc (suc (3 * k)) ≡ 3 * k + 2
second k = omega arith

more_twice : (k : ℕ) (c : List ℕ) (n d m e : ℕ) → more_of k m e (more_of k n d c) ≡ more_of k (n + m) (d + e) c
more_twice k c n d m e = subst (λ j. moved_on (moved_on c (3 * k) j n d) (3 * k) j m e ≡ moved_on c (3 * k) j (n + m) (d + e)) (second k) (moved_twice c (3 * k) n d m e)

more_most : (k : ℕ) (c : List ℕ) (n d : ℕ) → bytes (more_of k n d c) k ≤ bytes c k + d
more_most k c n d = subst (λ j. get_or (moved_on c (3 * k) j n d) j 0 ≤ get_or c j 0 + d) (second k) (moved_most c (3 * k) n d)

unwritten : (S P : List ℕ) (l : Log) (room : List ℕ) → room ≡ apply_if S P false l room
unfolding apply_if
unwritten S P l room = refl

-- offsets that never fall, and behind them offsets that never fall
falls_both : (x : Join) (k w s m n : ℕ) → never_falls w x.body (place x k 3 + w * s) m ≡ true → never_falls w x.body (place x k 3 + w * (s + m)) n ≡ true
    → never_falls w x.body (place x k 3 + w * s) (m + n) ≡ true
unfolding never_falls
falls_both x k w s m zero h g = rw (add-zero m) h
falls_both x k w s m (suc n) h g =
    let i = falls_both x k w s m n h (and_left _ (leb (off x k w (s + m) n) (off x k w (s + m) (suc n))) g) in
    let l : off x k w (s + m) n ≤ off x k w (s + m) (suc n) = leb-true _ _ (and_right (never_falls w x.body (place x k 3 + w * (s + m)) n) (leb (off x k w (s + m) n) (off x k w (s + m) (suc n))) g) in
    let p = off_later x k w s m n in
    let q = off_later x k w s m (suc n) ∙ ap (λ v. off x k w s v) (add-suc m n) in
    let o : off x k w s (m + n) ≤ off x k w s (suc (m + n)) = omega arith in
    rw (add-suc m n) (rw (i, le-leb (off x k w s (m + n)) (off x k w s (suc (m + n))) o) refl)

module _ (x : Join) (k : ℕ) (text : is_text x.plan k ≡ true) (small : k < 32) (E most : ℕ) (near : offset_of x k + E < far)
    (standing : place x k 3 + bytes_of x.plan k * (offset_of x k + E + 1) ≤ length x.body) (chars : place x k 5 + most ≤ length x.body) where
  abbrev W : ℕ
  W = bytes_of x.plan k

  abbrev slot : ℕ → ℕ
  slot a = offset_of x k + a

  abbrev amount : ℕ → ℕ → ℕ
  amount a m = off x k W (slot a) m - off x k W (slot a) 0

  abbrev Rise : ℕ → ℕ → Bool
  Rise a m = never_falls W x.body (place x k 3 + W * slot a) m

  fit : (a m b : ℕ) → a + m ≤ E → Rise a m ≡ true → off x k W (slot a) m ≤ most → b + amount a m ≤ largest W → Fit x k W (slot a) m b
  unfolding rows_in
  fit a m b h r l f =
      let u = rises W x.body (place x k 3 + W * slot a) m r 0 m (omega arith) (le_refl m) in
      let g : W * (slot a + suc m) ≤ W * (offset_of x k + E + 1) = mul-le-mul_left W (omega arith) in
      let o : place x k 3 + W * (slot a + suc m) ≤ length x.body = omega arith in
      record { offsets = le-leb _ _ o; up = u; small = omega arith; last = f; chars = omega arith }

  string_leaves : (a m : ℕ) (c : List ℕ) → a + m ≤ E → Rise a m ≡ true → ((m ≡ 0 → ⊥) → off x k W (slot a) m ≤ most) → bytes c k + amount a m ≤ largest W
      → Leaves (copy_string x k W (slot a) m c) (set_bytes k (bytes c k + amount a m) c)
  unfolding copy_string
  string_leaves a m c h r l f = go (eqb m 0) refl
    where
      go : (t : Bool) → eqb m 0 ≡ t → Leaves (copy_string x k W (slot a) m c) (set_bytes k (bytes c k + amount a m) c)
      go true e = let z = eqb-true m 0 e in rw (z, no_bytes x k c (bytes c k + (off x k W (slot a) 0 - off x k W (slot a) 0)) (omega arith)) (leaves_done c)
      go false e = string_goes x k W (slot a) m c (eqb-false m 0 e) (fit a m (bytes c k) h r (l (eqb-false m 0 e)) f)

  slot_eq : (a m : ℕ) → a + m ≤ E → slot a ≡ slot_of x k a m
  unfolding slot_of
  slot_eq a m h = rw (lt-ltb (offset_of x k + a + m) far (omega arith)) refl

  goes : (a m : ℕ) (c : List ℕ) → a + m ≤ E → Rise a m ≡ true → ((m ≡ 0 → ⊥) → off x k W (slot a) m ≤ most) → bytes c k + amount a m ≤ largest W
      → Leaves (batch_leaf x k a m c) (more_of k m (amount a m) c)
  goes a m c h r l b =
      let s : Leaves (steady_string x k W (slot a) m c) (set_bytes k (bytes c k + amount a m) c) = leaves_need 12 c r (string_leaves a m c h r l b) in
      let d : Did x.plan x.parts false (steady_string x k W (slot a) m c) [] 0 (set_bytes k (bytes c k + amount a m) c) [] = record { answer = sym s.ok; counters = sym s.left; bytes = unwritten x.plan x.parts (steady_string x k W (slot a) m c).log [] } in
      let e = text_yes x k text small a m false c [] (slot_eq a m h) (omega arith) refl d refl {c2 = add_rows k m (set_bytes k (bytes c k + amount a m) c)} refl in
      record { ok = sym e.answer; left = sym e.counters }

  amount_none : (a m : ℕ) → m ≡ 0 → amount a m ≡ 0
  amount_none a m e = rw e (omega arith)

  module _ (start size : ℕ → ℕ) where
    abbrev Go : ℕ → ℕ → List ℕ → Out
    Go a m c = batch_leaf x k a m c

    abbrev amt : ℕ → ℕ
    amt q = amount (start q) (size q)

    abbrev Fine : ℕ → Type 0
    Fine q = (start q + size q ≤ E) × (Rise (start q) (size q) ≡ true) × (off x k W (slot (start q)) (size q) ≤ most)

    steps : (n r a m : ℕ) (c : List ℕ) (v t : ℕ) → a + m ≤ E → Rise a m ≡ true → ((m ≡ 0 → ⊥) → off x k W (slot a) m ≤ most) → ((j : ℕ) → r ≤ j → j < r + n → Fine j)
        → v + sum_of size r ≡ m + sum_of size (r + n) → t + sum_of amt r ≡ amount a m + sum_of amt (r + n) → bytes c k + t ≤ largest W
        → Leaves (stretch Go start size n r a m c) (more_of k v t c)
    unfolding stretch sum_of
    steps zero r a m c v t h rise end fine e g b =
        let p : v ≡ m = (let y = rw (add-zero r) at e in omega arith) in
        let q : t ≡ amount a m = (let y = rw (add-zero r) at g in omega arith) in
        rw (p, q) (goes a m c h rise end (rw q at b))
    steps (suc n) r a m c v t h rise end fine e g b =
        pick (eqb (size r) 0 && leb (start r) (a + m)) refl (eqb (start r) (a + m)) refl (eqb m 0 && leb a (start r)) refl
        (λ a2 m2 c2 v2 t2 h2 rise2 end2 e2 g2 b2. steps n (suc r) a2 m2 c2 v2 t2 h2 rise2 end2 (λ j y z. fine j (omega arith) (omega arith)) e2 g2 b2)
      where
        here : Fine r
        here = fine r (le_refl r) (omega arith)

        last : v + sum_of size r ≡ m + sum_of size (suc r + n)
        last = let q : r + suc n ≡ suc r + n = omega arith in rw q at e

        last_bytes : t + sum_of amt r ≡ amount a m + sum_of amt (suc r + n)
        last_bytes = let q : r + suc n ≡ suc r + n = omega arith in rw q at g

        more : sum_of size (suc r) ≡ sum_of size r + size r
        more = sum_next size r

        more_bytes : sum_of amt (suc r) ≡ sum_of amt r + amt r
        more_bytes = sum_next amt r

        least : sum_of size (suc r) ≤ sum_of size (suc r + n)
        least = sum_up size (suc r) n

        least_bytes : sum_of amt (suc r) ≤ sum_of amt (suc r + n)
        least_bytes = sum_up amt (suc r) n

        pick : (p : Bool) → (eqb (size r) 0 && leb (start r) (a + m)) ≡ p → (u : Bool) → eqb (start r) (a + m) ≡ u → (w : Bool) → (eqb m 0 && leb a (start r)) ≡ w
            → ((a2 m2 : ℕ) (c2 : List ℕ) (v2 t2 : ℕ) → a2 + m2 ≤ E → Rise a2 m2 ≡ true → ((m2 ≡ 0 → ⊥) → off x k W (slot a2) m2 ≤ most)
            → v2 + sum_of size (suc r) ≡ m2 + sum_of size (suc r + n) → t2 + sum_of amt (suc r) ≡ amount a2 m2 + sum_of amt (suc r + n) → bytes c2 k + t2 ≤ largest W
            → Leaves (stretch Go start size n (suc r) a2 m2 c2) (more_of k v2 t2 c2))
            → Leaves (cond p (stretch Go start size n (suc r) a m c) (cond u (stretch Go start size n (suc r) a (m + size r) c) (cond w (stretch Go start size n (suc r) (start r) (size r) c)
            (next (Go a m c) (λ c2. stretch Go start size n (suc r) (start r) (size r) c2))))) (more_of k v t c)
        pick true p u q w s ih =
            let z = eqb-true (size r) 0 (and_left _ (leb (start r) (a + m)) p) in
            let y = amount_none (start r) (size r) z in
            let l = last in
            let i = last_bytes in
            let o = more in
            let d = more_bytes in
            ih a m c v t h rise end (omega arith) (omega arith) b
        pick false p true q w s ih =
            let z = eqb-true (start r) (a + m) q in
            let l = last in
            let i = last_bytes in
            let o = more in
            let d = more_bytes in
            let y = here.0 in
            let same : slot (start r) ≡ slot a + m = omega arith in
            let row : never_falls W x.body (place x k 3 + W * (slot a + m)) (size r) ≡ true = subst (λ s. never_falls W x.body (place x k 3 + W * s) (size r) ≡ true) same here.1 in
            let all = falls_both x k W (slot a) m (size r) rise row in
            let u1 = rises W x.body (place x k 3 + W * slot a) (m + size r) all 0 m (omega arith) (omega arith) in
            let u2 = rises W x.body (place x k 3 + W * slot a) (m + size r) all m (m + size r) (omega arith) (le_refl (m + size r)) in
            let first : off x k W (slot (start r)) 0 ≡ off x k W (slot a) m = ap (λ s. off x k W s 0) same ∙ off_later x k W (slot a) m 0 ∙ ap (λ v. off x k W (slot a) v) (add-zero m) in
            let back : off x k W (slot (start r)) (size r) ≡ off x k W (slot a) (m + size r) = ap (λ s. off x k W s (size r)) same ∙ off_later x k W (slot a) m (size r) in
            let sum : amount a (m + size r) ≡ amount a m + amt r = omega arith in
            ih a (m + size r) c v t (omega arith) all (λ n0. let g2 = here.2 in omega arith) (omega arith) (omega arith) b
        pick false p false q true s ih =
            let z = eqb-true m 0 (and_left _ (leb a (start r)) s) in
            let y = amount_none a m z in
            let l = last in
            let i = last_bytes in
            let o = more in
            let d = more_bytes in
            ih (start r) (size r) c v t here.0 here.1 (λ n0. here.2) (omega arith) (omega arith) b
        pick false p false q false s ih =
            let l = last in
            let i = last_bytes in
            let o = more in
            let d = more_bytes in
            let y = least in
            let y2 = least_bytes in
            let g1 : m + (v - m) ≡ v = omega arith in
            let g2 : amount a m + (t - amount a m) ≡ t = omega arith in
            let bs : bytes (more_of k m (amount a m) c) k ≤ bytes c k + amount a m = more_most k c m (amount a m) in
            let rest = ih (start r) (size r) (more_of k m (amount a m) c) (v - m) (t - amount a m) here.0 here.1 (λ n0. here.2) (omega arith) (omega arith) (omega arith) in
            leaves_next _ (goes a m c h rise end (omega arith))
            (subst (λ z. Leaves (stretch Go start size n (suc r) (start r) (size r) (more_of k m (amount a m) c)) z)
            (more_twice k c m (amount a m) (v - m) (t - amount a m) ∙ ap (λ z. more_of k z (amount a m + (t - amount a m)) c) g1 ∙ ap (λ z. more_of k v z c) g2) rest)

    all_go : (n : ℕ) (c : List ℕ) → ((j : ℕ) → j < n → Fine j) → bytes c k + sum_of amt n ≤ largest W → Leaves (stretches Go start size n c) (more_of k (sum_of size n) (sum_of amt n) c)
    unfolding sum_of never_falls
    all_go n c fine b =
        let z = amount_none 0 0 refl in
        steps n 0 0 0 c (sum_of size n) (sum_of amt n) (omega arith) refl (λ y. absurd (y refl)) (λ j y z. fine j (omega arith)) (rw (zero-add n) (omega arith)) (rw (zero-add n) (omega arith)) b

    -- A WALK THAT ONLY TRIES
    pub texts_tried : (n : ℕ) (c room : List ℕ) {v t : ℕ} {c2 : List ℕ} → ((j : ℕ) → j < n → Fine j) → v ≡ sum_of size n → t ≡ bytes c k + sum_of amt n → t ≤ largest W → c2 ≡ add_rows k v (set_bytes k t c)
        → Did x.plan x.parts false (stretches (λ a m d. batch_leaf x k a m d) start size n c) room 0 c2 room
    texts_tried n c room {v} {t} fine e g b i =
        let l = all_go n c fine (omega arith) in
        record {
          answer = sym l.ok;
          counters = i ∙ ap (λ z. add_rows k z (set_bytes k t c)) e ∙ ap (λ z. add_rows k (sum_of size n) (set_bytes k z c)) g ∙ sym l.left;
          bytes = unwritten x.plan x.parts (stretches (λ a m d. batch_leaf x k a m d) start size n c).log room;
        }
