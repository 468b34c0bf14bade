-- Stretches of numbers that all stand in the body, where the room has them all: their rows are written one behind the other. Assumes nothing.
use mathlib.Core.Path.{◌≡◌, refl, sym, ap, ◌∙◌}
use mathlib.Core.Bool.{Bool, true, false, cond, not, ◌&&◌}
use mathlib.Core.List.{List, [], ◌∷◌, ◌++◌, append_assoc, append-nil}
use Prim.Native.Nat.{ℕ, zero, suc, ◌+◌, ◌*◌, ◌-◌, ◌≤◌, ◌<◌}
use native.Mathlib.Nat.{add-zero, zero-add, mul-add, add-mul, mul_comm, mul-le-mul_left, mul-one, mul-zero, le_refl}
use native.Mathlib.Numerals.{add-one}
use native.Mathlib.Omega.{arith}
use lib.ListN.{length, take, drop, get_or, set, length-append, length-set}
use lib.Seq.{take-add, drop-drop}
use lib.Dec.{leb, eqb}
use borrow.Author.Tests.{eqb-true, le-leb}
use Rattle.number.specs.Number.{splice}
use Rattle.number.proofs.Laws.{splice_splice, length_splice}
use Rattle.utils.specs.Pieces.{pieces}
use Rattle.walk.specs.State.{Join, bytes_of, rows, add_rows, grown, scaled, top, place, offset_of, far, slot_of}
use Rattle.walk.specs.Log.{Out, Did, put, done, wrote, found, next, start_of, in_room, enter, apply, apply_if}
use Rattle.walk.specs.Leaves.{copy_numbers}
use Rattle.room_writes.proofs.Bytes.{length_copied}
use Rattle.room_writes.proofs.Laws.{Made}
use Rattle.array_data.proofs.lent_tables.Laws.{yes}
use Rattle.batch.specs.Stretch.{sum_of, stretch, stretches}
use Rattle.batch.specs.Batch.{batch_leaf}
use Rattle.batch.proofs.Ends.{need_is, found_is}
use Rattle.batch.proofs.Stretches.{and_left}
use Rattle.batch.proofs.ListViews.{sum_up}
use Rattle.batch.specs.batch_walk.Plain.{is_plain, reached}
use Rattle.batch.specs.batch_walk.Side.{furthest_of}
use Rattle.batch.proofs.batch_walk.Sums.{sum_next, sum_more, sum_below, furthest_most}
use Rattle.batch.proofs.batch_walk.PlainLeaf.{plain_is}
use Rattle.batch.proofs.batch_walk.Tried.{near, slot_is, ends_in_lem, rows_are, all_go}

pub never : {P : Type 0} → ◌≡◌ {A = Bool} false true → P
never z = let y : ◌≡◌ {A = ℕ} 0 1 = ap (λ b. cond b 1 0) z in absurd (omega arith)

rows_set : (l : List ℕ) (i v : ℕ) → i < length l → get_or (set l i v) i 0 ≡ v
rows_set [] i v h = absurd (omega arith)
rows_set (y ∷ l) zero v h = refl
rows_set (y ∷ l) (suc i) v h = rows_set l i v (omega arith)

module _ (x : Join) (k : ℕ) (plain : is_plain x.plan k ≡ true) (small : k < 32) (E : ℕ) (is-reached : reached x k (bytes_of x.plan k) E ≡ true) where
  abbrev W : ℕ
  W = bytes_of x.plan k

  -- where row 0 stands
  abbrev A : ℕ
  A = place x k 3 + W * offset_of x k

  abbrev B : ℕ
  B = start_of x.plan x.parts k 1

  abbrev own : ℕ → ℕ → List ℕ
  own a m = take (W * m) (drop (A + W * a) x.body)

  from_is : (a : ℕ) → place x k 3 + W * (offset_of x k + a) ≡ A + W * a
  from_is a = omega (arith, mul-add W (offset_of x k) a)

  own_in : (a m : ℕ) → a + m ≤ E → A + W * a + W * m ≤ length x.body
  own_in a m h =
      let e = ends_in_lem x k plain small E is-reached in
      let g : W * (a + m) ≤ W * E = mul-le-mul_left W h in
      omega (arith, mul-add W (offset_of x k) E, mul-add W a m)

  own_long : (a m : ℕ) → a + m ≤ E → length (own a m) ≡ W * m
  own_long a m h = length_copied x.body (A + W * a) (W * m) (own_in a m h)

  own_none : (a : ℕ) → own a 0 ≡ []
  own_none a = rw (mul-zero W) refl

  own_cut : (a m s : ℕ) → own a (m + s) ≡ own a m ++ own (a + m) s
  own_cut a m s =
      let e : A + W * a + W * m ≡ A + W * (a + m) = omega (arith, mul-add W a m) in
      ap (λ v. take v (drop (A + W * a) x.body)) (mul-add W m s)
      ∙ rw (take-add, drop-drop, e) refl

  -- one stretch
  leaf_is : (a m : ℕ) (c : List ℕ) → a + m ≤ E → batch_leaf x k a m c ≡ next (wrote (put k 1 (rows c k * W) (own a m)) c) (λ c2. done (add_rows k m c2))
  unfolding copy_numbers
  leaf_is a m c h =
      let n = near x k plain small E is-reached in
      plain_is x k plain small a m c
      ∙ ap (λ v. found far v 12 c (λ slot. next (copy_numbers x k W slot m c) (λ c2. done (add_rows k m c2)))) (slot_is x k plain small E is-reached a m h)
      ∙ found_is far (offset_of x k + a) 12 c (λ slot. next (copy_numbers x k W slot m c) (λ c2. done (add_rows k m c2))) (omega arith)
      ∙ ap (λ o. next o (λ c2. done (add_rows k m c2))) (need_is 12 c _ (rows_are x k plain small E is-reached a m h))
      ∙ ap (λ v. next (wrote (put k 1 (rows c k * W) (take (W * m) (drop v x.body))) c) (λ c2. done (add_rows k m c2))) (from_is a)

  -- and others behind it
  leaf_log : (a m : ℕ) (c : List ℕ) (f : List ℕ → Out) → a + m ≤ E → (next (batch_leaf x k a m c) f).log ≡ put k 1 (rows c k * W) (own a m) ∷ (f (add_rows k m c)).log
  unfolding next wrote done
  leaf_log a m c f h = rw (leaf_is a m c h) refl

  leaf_alone : (a m : ℕ) (c : List ℕ) → a + m ≤ E → (batch_leaf x k a m c).log ≡ put k 1 (rows c k * W) (own a m) ∷ []
  unfolding next wrote done
  leaf_alone a m c h = rw (leaf_is a m c h) refl

  entered : (a m r : ℕ) (room : List ℕ) → a + m ≤ E → B + r * W + W * m ≤ length room → enter x.plan x.parts (put k 1 (r * W) (own a m)) room ≡ splice (B + r * W) (own a m) room
  unfolding enter in_room
  entered a m r room h g = rw (own_long a m h, le-leb (B + r * W + W * m) (length room) g) refl

  counted : (m : ℕ) (c : List ℕ) → 3 * k < length c → rows c k + m ≤ top → rows (add_rows k m c) k ≡ rows c k + m
  unfolding grown
  counted m c long h = rows_set c (3 * k) (grown (rows c k) m) long ∙ (let e : grown (rows c k) m ≡ rows c k + m = omega arith in e)

  module _ (start size : ℕ → ℕ) where
    abbrev Go : ℕ → ℕ → List ℕ → Out
    Go a m c = batch_leaf x k a m c

    abbrev piece : ℕ → List ℕ
    piece j = own (start j) (size j)

    -- the rows of n rows of the parent from row r on
    unfoldable behind : ℕ → ℕ → List ℕ
    behind zero r = []
    behind (suc n) r = piece r ++ behind n (suc r)

    behind_is : (n r : ℕ) → pieces piece r ++ behind n r ≡ pieces piece (r + n)
    unfolding pieces behind
    behind_is zero r = append-nil (pieces piece r) ∙ ap (pieces piece) (sym (add-zero r))
    behind_is (suc n) r = sym (append_assoc (pieces piece r) (piece r) (behind n (suc r))) ∙ behind_is n (suc r) ∙ ap (pieces piece) (let e : suc r + n ≡ r + suc n = omega arith in e)

    abbrev Inside : ℕ → ℕ → Type 0
    Inside r n = (j : ℕ) → r ≤ j → j < r + n → start j + size j ≤ E

    behind_long : (n r : ℕ) → Inside r n → length (behind n r) + W * sum_of size r ≡ W * sum_of size (r + n)
    unfolding behind
    behind_long zero r inside = rw (add-zero r) (zero-add (W * sum_of size r))
    behind_long (suc n) r inside =
        let e : r + suc n ≡ suc r + n = omega arith in
        let g = behind_long n (suc r) (λ j y z. inside j (omega arith) (omega arith)) in
        let h = own_long (start r) (size r) (inside r (le_refl r) (omega arith)) in
        let f : W * sum_of size (suc r) ≡ W * (sum_of size r + size r) = ap (λ v. W * v) (sum_next size r) in
        rw (length-append, e) (omega (arith, mul-add W (sum_of size r) (size r)))

    abbrev All : ℕ → ℕ → ℕ → ℕ → List ℕ → List ℕ → Type 0
    All n r a m c room = apply x.plan x.parts (stretch Go start size n r a m c).log room ≡ splice (B + rows c k * W) (own a m ++ behind n r) room

    written : (n r a m : ℕ) (c room : List ℕ) (v : ℕ) → 3 * k < length c → a + m ≤ E → Inside r n → v + sum_of size r ≡ m + sum_of size (r + n) → rows c k + v ≤ top → B + (rows c k + v) * W ≤ length room
        → All n r a m c room
    unfolding stretch apply behind
    written zero r a m c room v long h inside e t fits =
        let f : v ≡ m = (let g = rw (add-zero r) at e in omega arith) in
        rw (leaf_alone a m c h, entered a m (rows c k) room h (let g = rw f at fits in omega (arith, add-mul (rows c k) m W, mul_comm m W)), append-nil) refl
    written (suc n) r a m c room v long h inside e t fits =
        pick (eqb (size r) 0 && leb (start r) (a + m)) refl (eqb (start r) (a + m)) refl (eqb m 0 && leb a (start r)) refl
        (λ b p d s u l y g i j. written n (suc r) b p d s u l y (λ q w z. inside q (omega arith) (omega arith)) g i j)
      where
        here : start r + size r ≤ E
        here = inside r (le_refl r) (omega arith)

        last : v + sum_of size r ≡ m + sum_of size (suc r + n)
        last = let q : r + suc n ≡ suc r + n = omega arith in rw q at e

        more : sum_of size (suc r) ≡ sum_of size r + size r
        more = sum_next size r

        least : sum_of size (suc r) ≤ sum_of size (suc r + n)
        least = sum_up size (suc r) n

        pick : (z : Bool) → (eqb (size r) 0 && leb (start r) (a + m)) ≡ z → (u : Bool) → eqb (start r) (a + m) ≡ u → (w : Bool) → (eqb m 0 && leb a (start r)) ≡ w
            → ((b p : ℕ) (d s : List ℕ) (y : ℕ) → 3 * k < length d → b + p ≤ E → y + sum_of size (suc r) ≡ p + sum_of size (suc r + n) → rows d k + y ≤ top → B + (rows d k + y) * W ≤ length s → All n (suc r) b p d s)
            → apply x.plan x.parts (cond z (stretch Go start size n (suc r) a m c) (cond u (stretch Go start size n (suc r) a (m + size r) c) (cond w (stretch Go start size n (suc r) (start r) (size r) c)
            (next (Go a m c) (λ c2. stretch Go start size n (suc r) (start r) (size r) c2))))).log room ≡ splice (B + rows c k * W) (own a m ++ (piece r ++ behind n (suc r))) room
        pick true p u q w s ih =
            let z = eqb-true (size r) 0 (and_left _ (leb (start r) (a + m)) p) in
            let l = last in
            let o = more in
            let f : piece r ≡ [] = ap (λ j. own (start r) j) z ∙ own_none (start r) in
            rw f (ih a m c room v long h (omega arith) t fits)
        pick false p true q w s ih =
            let z = eqb-true (start r) (a + m) q in
            let l = last in
            let o = more in
            let y = here in
            let f : own a m ++ (piece r ++ behind n (suc r)) ≡ own a (m + size r) ++ behind n (suc r) = sym (append_assoc (own a m) (piece r) (behind n (suc r))) ∙ ap (λ j. own a m ++ own j (size r) ++ behind n (suc r)) z ∙ ap (λ j. j ++ behind n (suc r)) (sym (own_cut a m (size r))) in
            rw f (ih a (m + size r) c room v long (omega arith) (omega arith) t fits)
        pick false p false q true s ih =
            let z = eqb-true m 0 (and_left _ (leb a (start r)) s) in
            let l = last in
            let o = more in
            let f : own a m ≡ [] = ap (λ j. own a j) z ∙ own_none a in
            rw f (ih (start r) (size r) c room v long here (omega arith) t fits)
        pick false p false q false s ih =
            let l = last in
            let o = more in
            let y = least in
            let d : List ℕ = add_rows k m c in
            let g : rows d k ≡ rows c k + m = counted m c long (omega arith) in
            let i : length d ≡ length c = length-set c (3 * k) (grown (rows c k) m) in
            let u : v - m + sum_of size (suc r) ≡ size r + sum_of size (suc r + n) = omega arith in
            let w : W * m + W * (v - m) ≡ W * v = sym (mul-add W m (v - m)) ∙ ap (λ z. W * z) (let z : m + (v - m) ≡ v = omega arith in z) in
            let f : B + rows c k * W + W * m + W * (v - m) ≤ length room = omega (arith, add-mul (rows c k) v W, mul_comm v W) in
            let j : length (piece r ++ behind n (suc r)) ≡ W * (v - m) = rw length-append (omega (arith, own_long (start r) (size r) here, behind_long n (suc r) (λ q y z. inside q (omega arith) (omega arith)), ap (λ z. W * z) u, mul-add W (v - m) (sum_of size (suc r)), mul-add W (size r) (sum_of size (suc r + n)))) in
            let b : length (splice (B + rows c k * W) (own a m) room) ≡ length room = length_splice (B + rows c k * W) (own a m) room (rw (own_long a m h) (omega arith)) in
            let to : B + rows d k * W ≡ B + rows c k * W + length (own a m) = rw (g, own_long a m h) (omega (arith, add-mul (rows c k) m W, mul_comm m W)) in
            let sum : rows c k + m + (v - m) ≡ rows c k + v = omega arith in
            ap (λ l. apply x.plan x.parts l room) (leaf_log a m c (λ c2. stretch Go start size n (suc r) (start r) (size r) c2) h)
            ∙ ap (λ z. apply x.plan x.parts (stretch Go start size n (suc r) (start r) (size r) d).log z) (entered a m (rows c k) room h (omega arith))
            ∙ ih (start r) (size r) d (splice (B + rows c k * W) (own a m) room) (v - m) (rw i long) here u (rw g (omega arith)) (rw (g, b, sum) fits)
            ∙ ap (λ q. splice q (piece r ++ behind n (suc r)) (splice (B + rows c k * W) (own a m) room)) to
            ∙ splice_splice (B + rows c k * W) (own a m) (piece r ++ behind n (suc r)) room (rw (own_long a m h, j) f)

    -- ALL ROWS one behind the other
    pub gathered : (n : ℕ) (c room : List ℕ) {v : ℕ} {c2 room2 : List ℕ} → 3 * k < length c → ((j : ℕ) → j < n → start j + size j ≤ E) → v ≡ sum_of size n → rows c k + v ≤ top → B + (rows c k + v) * W ≤ length room
        → c2 ≡ add_rows k v c → room2 ≡ splice (B + rows c k * W) (pieces piece n) room
        → Did x.plan x.parts true (stretches (λ a m d. batch_leaf x k a m d) start size n c) room 0 c2 room2
    unfolding apply_if pieces sum_of
    gathered n c room {v} {c2} {room2} long inside e t fits f g =
        let l = all_go x k plain small E is-reached start size n c inside in
        let y : own 0 0 ++ behind n 0 ≡ pieces piece n = ap (λ z. z ++ behind n 0) (own_none 0) ∙ behind_is n 0 ∙ ap (pieces piece) (zero-add n) in
        let w = written n 0 0 0 c room v long (omega arith) (λ j q z. inside j (omega arith)) (start_sum e) t fits in
        record {
          answer = sym l.ok;
          counters = f ∙ ap (λ z. add_rows k z c) e ∙ sym l.left;
          bytes = g ∙ ap (λ z. splice (B + rows c k * W) z room) (sym y) ∙ sym w;
        }
      where
        start_sum : v ≡ sum_of size n → v + sum_of size 0 ≡ 0 + sum_of size (0 + n)
        start_sum q = rw (zero-add n, q) (omega arith)

-- ---- such rows, written one by one

module _ (w : ℕ) (start size : ℕ → ℕ) (body : List ℕ) (at n : ℕ) (inside : (j : ℕ) → j < n → at + w * (start j + size j) ≤ length body) where
  abbrev part : ℕ → List ℕ
  part j = take (w * size j) (drop (at + w * start j) body)

  part_long : (j : ℕ) → j < n → length (part j) ≡ w * size j
  part_long j h = length_copied body (at + w * start j) (w * size j) (omega (arith, inside j h, mul-add w (start j) (size j)))

  parts_long : (r : ℕ) → r ≤ n → length (pieces part r) ≡ w * sum_of size r
  unfolding pieces sum_of
  parts_long zero h = rw (mul-zero w) refl
  parts_long (suc r) h = rw length-append (omega (arith, parts_long r (omega arith), part_long r (omega arith), mul-add w (sum_of size r) (size r)))

  pub taken_room : (r to m : ℕ) → r < n → to + w * sum_of size n ≤ m → to + w * sum_of size r + w * size r ≤ m
  taken_room r to m h g =
      let e : w * sum_of size (suc r) ≤ w * sum_of size n = mul-le-mul_left w (sum_below size (suc r) n (omega arith)) in
      omega (arith, ap (λ v. w * v) (sum_next size r), mul-add w (sum_of size r) (size r))

  pub taken_sum : (r to : ℕ) → to + w * sum_of size r + w * size r ≡ to + w * sum_of size (r + 1)
  taken_sum r to = omega (arith, ap (λ v. w * v) (sum_more size r), mul-add w (sum_of size r) (size r))

  -- one row more
  pub taken_step : (r to : ℕ) (room : List ℕ) → r < n → to + w * sum_of size n ≤ length room
      → splice (to + w * sum_of size r) (part r) (splice to (pieces part r) room) ≡ splice to (pieces part (r + 1)) room
  unfolding pieces
  taken_step r to room h g =
      let e = parts_long r (omega arith) in
      rw (add-one r) (rw e at (splice_splice to (pieces part r) (part r) room (rw (e, part_long r h) (taken_room r to (length room) h g))))

-- ---- where they are asked for

module _ (x : Join) (k : ℕ) (plain : is_plain x.plan k ≡ true) (small : k < 32) (start size : ℕ → ℕ) (n : ℕ) (w end : ℕ) (wide : w ≡ bytes_of x.plan k) (last : end ≡ furthest_of (λ q. start q + size q) n)
    {r : Bool} (asked : r ≡ reached x k w end) (held : not r ≡ false) where
  reach : reached x k (bytes_of x.plan k) end ≡ true
  reach = rw wide at (yes asked held)

  within : (j : ℕ) → j < n → start j + size j ≤ end
  within j h =
      let z = furthest_most (λ q. start q + size q) n j h in
      let o = near x k plain small end reach in
      omega arith

  module _ (o p : ℕ) (slot : o ≡ slot_of x k 0 0) (begin : p ≡ place x k 3) where
    pub at_is : p + w * o ≡ place x k 3 + bytes_of x.plan k * offset_of x k
    at_is = rw (slot, begin, wide, slot_is x k plain small end reach 0 0 (omega arith), add-zero (offset_of x k)) refl

    pub at_in : p + w * o ≤ length x.body
    at_in = rw at_is (let h = own_in x k plain small end reach 0 0 (omega arith) in omega arith)

    pub rows_in_lem : (j : ℕ) → j < n → p + w * o + w * (start j + size j) ≤ length x.body
    rows_in_lem j h =
        let g = own_in x k plain small end reach (start j) (size j) (within j h) in
        rw (at_is, wide) (omega (arith, mul-add (bytes_of x.plan k) (start j) (size j)))

    module _ (c room : List ℕ) (long : 3 * k < length c) (thin : 1 ≤ w) (total to at s : ℕ) (wr : Bool) (sum : total ≡ sum_of size n) (short : length room < top)
        (made : Made wr (start_of x.plan x.parts k 1) at s (length room) to) (from : at ≡ scaled (rows c k) w) (much : s ≡ scaled total w) where
      exact : (to ≡ start_of x.plan x.parts k 1 + rows c k * w) × (to + w * total ≤ length room) × (rows c k + total ≤ top)
      unfolding scaled
      exact =
          let a = made.at in
          let b = made.within in
          let e : rows c k * 1 ≤ rows c k * w = mul-le-mul_left (rows c k) thin in
          let f : total * 1 ≤ total * w = mul-le-mul_left total thin in
          (omega arith, omega (arith, mul_comm total w), omega (arith, mul-one (rows c k), mul-one total))

      pub room_in : to + w * sum_of size n ≤ length room
      room_in = rw (← sum) exact.1

      pub put_did : {room2 : List ℕ} → room2 ≡ splice to (pieces (λ j. take (w * size j) (drop (p + w * o + w * start j) x.body)) n) room
          → Did x.plan x.parts wr (stretches (λ a m d. batch_leaf x k a m d) start size n c) room 0 (add_rows k total c) room2
      put_did {room2} e =
          let t : to ≡ start_of x.plan x.parts k 1 + rows c k * bytes_of x.plan k = rw wide at exact.0 in
          let g : start_of x.plan x.parts k 1 + (rows c k + total) * bytes_of x.plan k ≤ length room = rw wide at (let y = exact.0 in let z = exact.1 in let l : start_of x.plan x.parts k 1 + (rows c k + total) * w ≤ length room = omega (arith, add-mul (rows c k) total w, mul_comm total w) in l) in
          rw made.writes
          (gathered x k plain small end reach start size n c room long within sum exact.2 g refl
          (e
          ∙ ap (λ (z : ℕ). splice z (pieces (λ j. take (w * size j) (drop (p + w * o + w * start j) x.body)) n) room) t
          ∙ ap (λ (z : ℕ). splice (start_of x.plan x.parts k 1 + rows c k * bytes_of x.plan k) (pieces (λ j. take (w * size j) (drop (z + w * start j) x.body)) n) room) at_is
          ∙ ap (λ (z : ℕ). splice (start_of x.plan x.parts k 1 + rows c k * bytes_of x.plan k) (pieces (λ j. take (z * size j) (drop (place x k 3 + bytes_of x.plan k * offset_of x k + z * start j) x.body)) n) room) wide))
