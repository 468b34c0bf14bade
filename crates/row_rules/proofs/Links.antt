-- The rows of a body are what the model's test of a source asks of its buffers, where each buffer is a part of the body. Assumes nothing.
use Rattle.std.proofs.Common.{subst, sym, ◌≡◌, ℕ, zero, suc, ◌+◌, ◌*◌, ◌<◌, ◌≤◌, Bool, true, false, ◌&&◌, ltb, leb, List, [], ◌∷◌, length, take, drop, refl, ap, ◌∙◌, ap₂, add_assoc, add-suc, mul_comm, add-mul, add-one, arith, length-drop, length-take, drop-drop, leb-true}
use Rattle.number.specs.Number.{number, entry}
use Rattle.columnar.specs.Types.{half}
use Rattle.columnar.specs.Array.{Array, item, ok}
use Rattle.columnar.specs.ListView.{ListView}
use Rattle.columnar.specs.RunEnd.{end_of, start_of}
use Rattle.columnar.specs.Test.{every, mask_test, offsets_to, entry_test, list_view_test, ends_test}
use Rattle.run_ends.specs.Lookup.{last_end}
use Rattle.columnar.proofs.Items.{number_take, entry_end}
use Rattle.row_rules.specs.Rules.{never_falls_lem, offsets_rows, view_row, list_view_rows, rises, ends_rows}

-- ---- Bools

-- what stands behind a test may take it as passed
behind : (l a b c : Bool) {r d : Bool} → (l ≡ true → a && b ≡ r) → (l ≡ true → c ≡ d) → l && a && b && c ≡ l && r && d
behind true a b c f g = ap₂ (λ x y. x && y) (f refl) (g refl)
behind false a b c f g = refl

behind_two : (l m c : Bool) {a b : Bool} → (l ≡ true → m ≡ true → a ≡ b) → l && m && a && c ≡ l && m && b && c
behind_two true true c f = ap (λ x. x && c) (f refl refl)
behind_two true false c f = refl
behind_two false m c f = refl

behind_three : (l m o a b : Bool) {c : Bool} → (m ≡ true → a && b ≡ c) → l && m && o && a && b ≡ l && m && o && c
behind_three true true true a b f = f refl
behind_three true true false a b f = refl
behind_three true false o a b f = refl
behind_three false m o a b f = refl

pub every_same : {p q : ℕ → Bool} (n : ℕ) → ((i : ℕ) → i < n → p i ≡ q i) → every p n ≡ every q n
every_same zero f = refl
every_same (suc n) f = ap₂ (λ a b. a && b) (every_same n (λ i h. f i (omega arith))) (f n (omega arith))

-- ---- a buffer of `size` bytes that is a part of the body

number_part : (w j n : ℕ) (s : List ℕ) → j + w ≤ n → number w (drop j (take n s)) ≡ number w (drop j s)
number_part w zero n s h = number_take w n s (omega arith)
number_part w (suc j) zero s h = absurd (omega arith)
number_part w (suc j) (suc n) [] h = refl
number_part w (suc j) (suc n) (x ∷ s) h = number_part w j n s (omega arith)

module _ (w : ℕ) (s : List ℕ) (start size : ℕ) where
  -- entry off + i of the buffer is entry i from the byte on where entry off stands
  pub item_entry : (off n : ℕ) → (off + n) * w ≤ size → (i : ℕ) → i < n → item w (take size (drop start s)) (off + i) ≡ entry w s (start + w * off) i
  unfolding item
  item_entry off n h i l =
      let g : (off + i) * w + w ≤ (off + n) * w = entry_end w (omega arith) in
      number_part w ((off + i) * w) size (drop start s) (omega arith)
      ∙ rw (drop-drop, add-mul, mul_comm off w, mul_comm i w, ← add_assoc)

  pub length_part : start + size ≤ length s → length (take size (drop start s)) ≡ size
  length_part h = simp (length-take, length-drop) (omega arith)

-- what the test of a byte string asks of its offsets: none is negative, and none is below the one before
abbrev pub positive : ℕ → List ℕ → ℕ → ℕ → Bool
positive w t off n = every (λ i. ltb (item w t (off + i)) (half w)) (suc n)

abbrev pub rising : ℕ → List ℕ → ℕ → ℕ → Bool
rising w t off n = every (λ i. leb (item w t (off + i)) (item w t (off + i + 1))) n

module _ (w : ℕ) (s : List ℕ) (start size : ℕ) (inside : start + size ≤ length s) where
  -- ---- offsets

  offset_entry : (off n : ℕ) → (off + n + 1) * w ≤ size → (i : ℕ) → i < suc n → item w (take size (drop start s)) (off + i) ≡ entry w s (start + w * off) i
  offset_entry off n h = item_entry w s start size off (suc n) (rw (add-one, ← add-suc) at h)

  pub offsets_rows_lem : (off n : ℕ) → (off + n + 1) * w ≤ size
      → positive w (take size (drop start s)) off n && rising w (take size (drop start s)) off n ≡ offsets_rows w s (start + w * off) n
  unfolding never_falls_lem
  offsets_rows_lem off n h =
      ap₂ (λ a b. a && b)
      (every_same (suc n) (λ i l. rw (offset_entry off n h i l)))
      (every_same n (λ i l. rw (add_assoc off i 1, offset_entry off n h i (omega arith), offset_entry off n h (i + 1) (omega arith))))

  -- the offsets of a byte string or list: the test of those in the buffer is that of the rows in the body
  pub offsets_test_lem : (os : List ℕ) (most : ℕ) → os ≡ take size (drop start s) → (off n : ℕ)
      → offsets_to w os most off n
      ≡ leb ((off + n + 1) * w) size && offsets_rows w s (start + w * off) n && leb (entry w s (start + w * off) n) most
  offsets_test_lem os most e off n =
      subst
      (λ o. offsets_to w o most off n ≡ leb ((off + n + 1) * w) size && offsets_rows w s (start + w * off) n && leb (entry w s (start + w * off) n) most)
      (sym e)
      (rw (length_part w s start size inside)
      (behind (leb ((off + n + 1) * w) size) (positive w (take size (drop start s)) off n) (rising w (take size (drop start s)) off n) (leb (item w (take size (drop start s)) (off + n)) most)
      (λ t. offsets_rows_lem off n (leb-true _ _ t))
      (λ t. rw (offset_entry off n (leb-true _ _ t) n (omega arith)))))

  -- ---- run ends

  module _ (x : Array (List ℕ)) (e : x.body ≡ take size (drop start s)) (h : (x.off + x.len) * w ≤ size) where
    end_entry : (k : ℕ) → k < x.len → end_of w x k ≡ entry w s (start + w * x.off) k
    end_entry k l = rw e (item_entry w s start size x.off x.len h k l)

    start_entry : (k : ℕ) → k ≤ x.len → start_of (end_of w x) k ≡ start_of (entry w s (start + w * x.off)) k
    start_entry zero l = refl
    start_entry (suc k) l = end_entry k (omega arith)

    pub ends_rows_lem : every (λ k. ltb (end_of w x k) (half w)) x.len && every (λ k. ltb (start_of (end_of w x) k) (end_of w x k)) x.len
        ≡ ends_rows w s (start + w * x.off) x.len
    unfolding rises
    ends_rows_lem =
        ap₂ (λ a b. a && b)
        (every_same x.len (λ k l. rw (end_entry k l)))
        (every_same x.len (λ k l. ap₂ ltb (start_entry k (omega arith)) (end_entry k l)))

    -- the last run end, which `run_ends::last_run_end_i16` and its like answer
    pub ends_last : start_of (end_of w x) x.len ≡ last_end w s (start + w * x.off) x.len
    ends_last = start_entry x.len (omega arith) ∙ go x.len
      where
        go : (n : ℕ) → start_of (entry w s (start + w * x.off)) n ≡ last_end w s (start + w * x.off) n
        go zero = refl
        go (suc n) = refl

  pub ends_test_lem : (x : Array (List ℕ)) → x.body ≡ take size (drop start s)
      → ends_test w x
      ≡ mask_test true x.valid (x.off + x.len)
      && leb ((x.off + x.len) * w) size
      && every (λ k. ok x.valid (x.off + k)) x.len
      && ends_rows w s (start + w * x.off) x.len
  ends_test_lem x e =
      let l : length x.body ≡ size = rw e (length_part w s start size inside) in
      rw l
      (behind_three (mask_test true x.valid (x.off + x.len)) (leb ((x.off + x.len) * w) size) (every (λ k. ok x.valid (x.off + k)) x.len)
      (every (λ k. ltb (end_of w x k) (half w)) x.len) (every (λ k. ltb (start_of (end_of w x) k) (end_of w x k)) x.len)
      (λ t. ends_rows_lem x e (leb-true _ _ t)))

-- ---- list-views: offsets and sizes are two buffers of the same body

module _ (w : ℕ) (s : List ℕ) (start size begin room : ℕ) {P : Type 0} (b : ListView P)
    (e : b.offsets ≡ take size (drop start s)) (d : b.sizes ≡ take room (drop begin s)) where
  pub list_view_rows_lem : (off n : ℕ) → (off + n) * w ≤ size → (off + n) * w ≤ room
      → every (λ i. entry_test w b (off + i)) n ≡ list_view_rows w s (start + w * off) (begin + w * off) b.child.len n
  unfolding view_row
  list_view_rows_lem off n h g =
      every_same n (λ i l. rw (e, d, item_entry w s start size off n h i l, item_entry w s begin room off n g i l))

  pub list_view_test_lem : start + size ≤ length s → begin + room ≤ length s → (kid : Array P → Bool) (ok : ℕ → Bool) (off n : ℕ)
      → list_view_test w kid ok b off n
      ≡ leb ((off + n) * w) size
      && leb ((off + n) * w) room
      && list_view_rows w s (start + w * off) (begin + w * off) b.child.len n
      && kid b.child
  list_view_test_lem inside within kid ok off n =
      let l : length b.offsets ≡ size = rw e (length_part w s start size inside) in
      let m : length b.sizes ≡ room = rw d (length_part w s begin room within) in
      rw (l, m)
      (behind_two (leb ((off + n) * w) size) (leb ((off + n) * w) room) (kid b.child)
      (λ t u. list_view_rows_lem off n (leb-true _ _ t) (leb-true _ _ u)))
