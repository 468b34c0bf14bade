-- What code over the parts goes by. Assumes nothing.
use mathlib.Core.Path.{◌≡◌, refl, ap, sym, ◌∙◌}
use mathlib.Core.Bool.{Bool, true, false, not, cond, ◌&&◌, ◌||◌}
use mathlib.Core.List.{List, [], ◌∷◌}
use Prim.Native.Nat.{ℕ, zero, suc, ◌+◌, ◌*◌, ◌-◌, ◌/◌, ◌≤◌, ◌<◌}
use mir.Val.{bool_byte}
use native.Mathlib.Omega.{arith}
use native.Mathlib.Numerals.{add-one}
use lib.ListN.{length, get_or}
use lib.Dec.{leb, ltb, eqb}
use borrow.Author.Tests.{lt-ltb, le-ltb, le-leb, lt-leb, leb-true, leb-false}
use Rattle.columnar.specs.Test.{every}
use Rattle.array_data.proofs.lent_tables.Laws.{fits_more, and_left, and_right}
use Rattle.walk.specs.State.{word, code_of, dictionary_of, keeps_of, rows, bytes}
use Rattle.plan.specs.parts.Parts.{spot, buffer_counts, buffer_count, copied, validity_parts, buffer_parts, part_count, has_part, parts_before, part_from, number_of, needed_by, needed, start_at, size_at, size_of, in_room, apart, part_within}
use Rattle.std.specs.Prelude.{Some, None}

-- ---- a loop that leaves at the first that fails

pub every_one : (p : ℕ → Bool) (i : ℕ) → every p i ≡ true → p i ≡ true → every p (i + 1) ≡ true
every_one p i h e = rw (add-one i, h, e)

pub every_now : (p : ℕ → Bool) (n i : ℕ) → n ≤ i → i ≤ n → every p i ≡ true → every p n ≡ true
every_now p n i l u h = let e : i ≡ n = omega arith in rw e at h

-- the three buffers of a node, asked one by one
pub every_three : (p : ℕ → Bool) {a b c : Bool} → a ≡ p 0 → b ≡ p 1 → c ≡ p 2 → a && b && c ≡ every p 3
every_three p e f g = rw (e, f, g)

-- ---- which parts there are

-- a bool as a number
pub byte_one : (b : Bool) → bool_byte b ≡ cond b 1 0
byte_one true = refl
byte_one false = refl

pub byte_small : (b : Bool) → bool_byte b ≤ 1
byte_small true = omega arith
byte_small false = omega arith

all_below_lem : ℕ → List ℕ → Bool
all_below_lem k [] = true
all_below_lem k (x ∷ xs) = leb x k && all_below_lem k xs

all_below_at : (k : ℕ) (xs : List ℕ) → all_below_lem k xs ≡ true → (i : ℕ) → get_or xs i 0 ≤ k
unfolding all_below_lem
all_below_at k [] h i = omega arith
all_below_at k (x ∷ xs) h zero = leb-true x k (and_left (leb x k) (all_below_lem k xs) h)
all_below_at k (x ∷ xs) h (suc i) = all_below_at k xs (and_right (leb x k) (all_below_lem k xs) h) i

pub few_buffers_lem : (code : ℕ) → buffer_count code ≤ 2
unfolding all_below_lem
few_buffers_lem code = all_below_at 2 buffer_counts refl code

module _ (plan : List ℕ) where
  pub copied_root : (i : ℕ) → i ≡ 0 → true ≡ copied plan i
  unfolding copied
  copied_root zero e = refl
  copied_root (suc i) e = absurd (omega arith)

  pub copied_other : (i : ℕ) → (i ≡ 0 → ⊥) → copied plan i ≡ eqb (dictionary_of plan (i - 1)) 0 || eqb (word plan (i - 1) 7) 1
  unfolding copied
  copied_other zero h = absurd (h refl)
  copied_other (suc i) h = let e : suc i - 1 ≡ i = omega arith in rw e

  pub few_bits : (i : ℕ) → validity_parts plan i ≤ 1
  unfolding validity_parts
  few_bits i = go (copied plan i && not (eqb (keeps_of plan i) 0) && ltb (code_of plan i) 21)
    where
      go : (t : Bool) → cond t 1 0 ≤ 1
      go true = omega arith
      go false = omega arith

  pub few_parts : (i : ℕ) → buffer_parts plan i ≤ 2
  unfolding buffer_parts
  few_parts i = go (copied plan i)
    where
      go : (t : Bool) → cond t (buffer_count (code_of plan i)) 0 ≤ 2
      go true = few_buffers_lem (code_of plan i)
      go false = omega arith

  pub has_validity : (i b r : ℕ) → b ≡ 0 → r ≡ validity_parts plan i → eqb r 1 ≡ has_part plan i b
  unfolding has_part
  has_validity i zero r e q = ap (λ (x : ℕ). eqb x 1) q
  has_validity i (suc b) r e q = absurd (omega arith)

  pub has_buffer : (i b r : ℕ) → (b ≡ 0 → ⊥) → r ≡ buffer_parts plan i → leb b r ≡ has_part plan i b
  unfolding has_part
  has_buffer i zero r h q = absurd (h refl)
  has_buffer i (suc b) r h q = ap (leb (suc b)) q

  pub before_one : (i s r : ℕ) → s ≡ parts_before plan i → r ≡ part_count plan i → s + r ≡ parts_before plan (i + 1)
  unfolding parts_before
  before_one i s r e q = rw (add-one i) (omega arith)

  -- ---- the node and the buffer of a part, n nodes of which i are passed

  pub at_here : (n i p v : ℕ) → i < n → p < part_count plan i → v ≡ validity_parts plan i → Some (spot i (p + 1 - v)) ≡ part_from plan (n - i) i p
  unfolding part_from
  at_here n i p v l h e =
      let k : n - i ≡ suc (n - (i + 1)) = omega arith in
      rw (k, lt-ltb p (part_count plan i) h, e)

  pub at_later : (n i p r : ℕ) → i < n → r ≡ part_count plan i → r ≤ p → part_from plan (n - i) i p ≡ part_from plan (n - (i + 1)) (i + 1) (p - r)
  unfolding part_from
  at_later n i p r l e h =
      let k : n - i ≡ suc (n - (i + 1)) = omega arith in
      rw (k, e, le-ltb p (part_count plan i) (omega arith), add-one i)

  pub at_end : (n i p : ℕ) → n ≤ i → part_from plan (n - i) i p ≡ None
  unfolding part_from
  at_end n i p l = let k : n - i ≡ 0 = omega arith in rw k

-- ---- what a part must hold

pub offsets_more : (r w size : ℕ) → 0 < w → ltb r (size / w) ≡ leb ((r + 1) * w) size
offsets_more r w size h = rw (add-one r) (fits_more (suc r) w size h)

pub bits_hold_lem : (r size : ℕ) → leb r (8 * size) ≡ leb ((r + 7) / 8) size
bits_hold_lem r size = go (leb r (8 * size)) refl
  where
    go : (t : Bool) → leb r (8 * size) ≡ t → leb r (8 * size) ≡ leb ((r + 7) / 8) size
    go true e = let h = leb-true r (8 * size) e in e ∙ sym (le-leb ((r + 7) / 8) size (omega arith))
    go false e = let h = leb-false r (8 * size) e in e ∙ sym (lt-leb ((r + 7) / 8) size (omega arith))

pub holds_by : (plan counters parts : List ℕ) (i b : ℕ) {code r n p size : ℕ}
    → code ≡ code_of plan i → r ≡ rows counters i → n ≡ bytes counters i → p ≡ number_of plan i b → size ≡ size_at parts p
    → leb (needed_by code r n b) size ≡ leb (needed plan counters i b) (size_of plan parts i b)
holds_by plan counters parts i b {code} {r} {n} {p} {size} e f g h k =
    ap (λ (x : ℕ). leb (needed_by x r n b) size) e
    ∙ ap (λ (x : ℕ). leb (needed_by (code_of plan i) x n b) size) f
    ∙ ap (λ (x : ℕ). leb (needed_by (code_of plan i) (rows counters i) x b) size) g
    ∙ ap (leb (needed plan counters i b)) (k ∙ ap (size_at parts) h)

-- ---- where parts lie

module _ (parts : List ℕ) (p q : ℕ) {s t : ℕ} (e : s ≡ size_at parts p) (f : t ≡ size_at parts q) where
  pub apart_empty : eqb s 0 || eqb t 0 ≡ true → true ≡ apart parts p q
  unfolding apart
  apart_empty h = let g : eqb (size_at parts p) 0 || eqb (size_at parts q) 0 ≡ true = rw (e, f) at h in rw g

  pub apart_full : eqb s 0 || eqb t 0 ≡ false → {a b : ℕ} → a ≡ start_at parts p → b ≡ start_at parts q → leb (a + s) b || leb (b + t) a ≡ apart parts p q
  unfolding apart
  apart_full h {a} {b} k l = let g : eqb (size_at parts p) 0 || eqb (size_at parts q) 0 ≡ false = rw (e, f) at h in rw (g, k, l, e, f)

module _ (plan parts : List ℕ) (m i b : ℕ) where
  pub within_none : has_part plan i b ≡ false → true ≡ part_within plan parts m i b
  unfolding part_within
  within_none h = rw h

  pub within_past : {p : ℕ} → has_part plan i b ≡ true → p ≡ number_of plan i b → length parts ≤ 2 * p + 1 → false ≡ part_within plan parts m i b
  unfolding part_within
  within_past {p} h e l = rw (h, le-ltb (2 * number_of plan i b + 1) (length parts) (omega arith))

  pub within_in : {p : ℕ} → has_part plan i b ≡ true → p ≡ number_of plan i b → 2 * p + 1 < length parts → in_room parts m p ≡ part_within plan parts m i b
  unfolding part_within
  within_in {p} h e l = rw (h, lt-ltb (2 * number_of plan i b + 1) (length parts) (omega arith)) (ap (in_room parts m) e)
