-- What a code says of a node's buffers: how many have a part, and the bytes of an entry. Assumes nothing.
use mathlib.Core.Path.{◌≡◌, refl, sym}
use mathlib.Core.Bool.{Bool, true, false, not, cond, ◌&&◌}
use mathlib.Core.List.{List}
use Prim.Native.Nat.{ℕ, zero, suc, ◌+◌, ◌*◌, ◌≤◌, ◌<◌}
use native.Mathlib.Nat.{le-mul_of_pos_right}
use native.Mathlib.Omega.{arith}
use lib.Dec.{leb, ltb, eqb}
use borrow.Author.Tests.{lt-ltb, le-leb, eq-eqb, ne_eqb, eqb-true, eqb-false, ltb-true}
use Rattle.columnar.specs.Test.{every, only_if}
use Rattle.columnar.specs.Types.{Ty}
use Rattle.columnar.specs.Reading.{masks}
use Rattle.schema.specs.formats.Code.{is_fixed, is_string, is_view, is_list_view, is_list, is_union, width_of}
use Rattle.walk.specs.State.{code_of, dictionary_of, keeps_of}
use Rattle.refinement.specs.walk_is_model.Holds.{Worded}
use Rattle.refinement.proofs.walk_is_model.Node.{masked_is}
use Rattle.refinement.specs.log_in_room.Reach.{HasBuffer, Second, chars, sizes, positions, Free}
use Rattle.refinement.proofs.log_in_room.Found.{between_both}
use Rattle.plan.specs.parts.Parts.{buffer_count, copied, validity_parts, buffer_parts, has_part, has_offsets, entry_size, needed_by}
use Rattle.plan.proofs.parts.Placed.{every_at}

-- a test of the 24 codes
table : (p q : ℕ → Bool) → every (λ z. only_if (p z) (q z)) 24 ≡ true → (z : ℕ) → z < 24 → p z ≡ true → q z ≡ true
table p q h z l e = let g : only_if (p z) (q z) ≡ true = every_at (λ y. only_if (p y) (q y)) 24 h z l in rw e at g

pub fixed_one : (z : ℕ) → is_fixed z ≡ true → buffer_count z ≡ 1
fixed_one z h = let b = between_both 1 10 z h in eqb-true _ _ (table is_fixed (λ y. eqb (buffer_count y) 1) refl z (omega (arith, b.1)) h)

pub string_two : (z : ℕ) → is_string z ≡ true → buffer_count z ≡ 2
string_two z h = let b = between_both 11 14 z h in eqb-true _ _ (table is_string (λ y. eqb (buffer_count y) 2) refl z (omega (arith, b.1)) h)

pub view_one : (z : ℕ) → is_view z ≡ true → buffer_count z ≡ 1
view_one z h = let b = between_both 15 16 z h in eqb-true _ _ (table is_view (λ y. eqb (buffer_count y) 1) refl z (omega (arith, b.1)) h)

pub list_two : (z : ℕ) → is_list_view z ≡ true → buffer_count z ≡ 2
list_two z h = let b = between_both 17 18 z h in eqb-true _ _ (table is_list_view (λ y. eqb (buffer_count y) 2) refl z (omega (arith, b.1)) h)

pub lists_one : (z : ℕ) → is_list z ≡ true → buffer_count z ≡ 1
lists_one z h = let b = between_both 19 20 z h in eqb-true _ _ (table is_list (λ y. eqb (buffer_count y) 1) refl z (omega (arith, b.1)) h)

-- a code with validity has a buffer with a part, and in it a byte a row at least
bits_code : ℕ → Bool
bits_code z = not (eqb z 0) && ltb z 21

in_masks : (z : ℕ) → (z ≡ 0 → ⊥) → z < 21 → bits_code z ≡ true
unfolding bits_code
in_masks z q l = rw (ne_eqb z 0 q, lt-ltb z 21 l)

pub some_buffer : (z : ℕ) → (z ≡ 0 → ⊥) → z < 21 → 0 < buffer_count z
unfolding bits_code
some_buffer z q l = ltb-true _ _ (table bits_code (λ y. ltb 0 (buffer_count y)) refl z (omega arith) (in_masks z q l))

pub row_bytes : (z r n : ℕ) → (z ≡ 0 → ⊥) → z < 21 → r ≤ needed_by z r n 1
unfolding bits_code
row_bytes z r n q l = go (has_offsets z) (ltb-true _ _ (table bits_code (λ y. ltb 0 (cond (has_offsets y) (width_of y) (entry_size y))) refl z (omega arith) (in_masks z q l)))
  where
    go : (t : Bool) → 0 < cond t (width_of z) (entry_size z) → r ≤ cond t ((r + 1) * width_of z) (r * entry_size z)
    go true p = let h = le-mul_of_pos_right (r + 1) p in omega arith
    go false p = le-mul_of_pos_right r p

-- a code of one kind is of no other
pub fixed_else : (z : ℕ) → is_fixed z ≡ true → (is_string z ≡ false) × (is_view z ≡ false) × (is_union z ≡ false) × (is_list z ≡ false)
fixed_else z h =
    let b = between_both 1 10 z h in
    let f : (q : ℕ → Bool) → every (λ y. only_if (is_fixed y) (q y)) 24 ≡ true → q z ≡ true = λ q e. table is_fixed q e z (omega (arith, b.1)) h in
    (off (is_string z) (f (λ y. not (is_string y)) refl), off (is_view z) (f (λ y. not (is_view y)) refl), off (is_union z) (f (λ y. not (is_union y)) refl), off (is_list z) (f (λ y. not (is_list y)) refl))
  where
    off : (b : Bool) → not b ≡ true → b ≡ false
    off true e = absurd (let z : ◌≡◌ {A = ℕ} 0 1 = cc e in omega arith)
    off false e = refl

off : (b : Bool) → not b ≡ true → b ≡ false
off true e = absurd (let z : ◌≡◌ {A = ℕ} 0 1 = cc e in omega arith)
off false e = refl

-- ---- the bytes that a buffer needs, by its code

pub needed_fixed : (z r n : ℕ) → is_fixed z ≡ true → needed_by z r n 1 ≡ r * width_of z
needed_fixed z r n h = let e = fixed_else z h in rw (e.0, e.3, e.1, e.2)

pub needed_offsets : (z r n : ℕ) → is_string z ≡ true → needed_by z r n 1 ≡ (r + 1) * width_of z
needed_offsets z r n h = rw h

pub needed_chars : (z r n : ℕ) → is_string z ≡ true → needed_by z r n 2 ≡ n
needed_chars z r n h = rw h

pub needed_views : (z r n : ℕ) → is_view z ≡ true → needed_by z r n 1 ≡ r * 16
needed_views z r n h =
    let b = between_both 15 16 z h in
    let e = off (is_string z) (table is_view (λ y. not (is_string y)) refl z (omega (arith, b.1)) h) in
    let f = off (is_list z) (table is_view (λ y. not (is_list y)) refl z (omega (arith, b.1)) h) in
    rw (e, f, h)

list_else : (z : ℕ) → is_list_view z ≡ true → (q : ℕ → Bool) → every (λ y. only_if (is_list_view y) (not (q y))) 24 ≡ true → q z ≡ false
list_else z h q f = let b = between_both 17 18 z h in off (q z) (table is_list_view (λ y. not (q y)) f z (omega (arith, b.1)) h)

pub needed_starts : (z r n : ℕ) → is_list_view z ≡ true → needed_by z r n 1 ≡ r * width_of z
needed_starts z r n h =
    let a = list_else z h is_string refl in
    let b = list_else z h is_view refl in
    let c = list_else z h is_union refl in
    let d = list_else z h is_list refl in
    rw (a, d, b, c)

pub needed_ends : (z r n : ℕ) → is_list z ≡ true → needed_by z r n 1 ≡ (r + 1) * width_of z
needed_ends z r n h =
    let b = between_both 19 20 z h in
    let a = off (is_string z) (table is_list (λ y. not (is_string y)) refl z (omega (arith, b.1)) h) in
    rw (a, h)

pub needed_sizes : (z r n : ℕ) → is_list_view z ≡ true → needed_by z r n 2 ≡ r * width_of z
needed_sizes z r n h = let a = list_else z h is_string refl in rw (a, h)

-- ---- which buffers have a part

module _ (plan : List ℕ) where
  pub copied_free : (i : ℕ) → Free plan i → copied plan i ≡ true
  unfolding copied
  copied_free zero h = refl
  copied_free (suc i) h = rw (eq-eqb (dictionary_of plan i) 0 h)

  -- .. at a node that is copied, as a joined dictionary's values are

  pub copied_buffer : (i k : ℕ) → copied plan i ≡ true → has_part plan i (suc k) ≡ true → k < buffer_count (code_of plan i)
  unfolding has_part buffer_parts
  copied_buffer i k f h = let g : ltb k (buffer_count (code_of plan i)) ≡ true = rw f at h in ltb-true _ _ g

  pub buffer_copied : (i k : ℕ) → copied plan i ≡ true → k < buffer_count (code_of plan i) → has_part plan i (suc k) ≡ true
  unfolding has_part buffer_parts
  buffer_copied i k f h = rw f (lt-ltb _ _ h)

  pub copied_bits : (i : ℕ) → copied plan i ≡ true → has_part plan i 0 ≡ true → (keeps_of plan i ≡ 0 → ⊥) × (code_of plan i < 21)
  unfolding has_part validity_parts
  copied_bits i f h = let g = rw f at h in go (eqb (keeps_of plan i) 0) refl (ltb (code_of plan i) 21) refl g
    where
      go : (a : Bool) → eqb (keeps_of plan i) 0 ≡ a → (b : Bool) → ltb (code_of plan i) 21 ≡ b → eqb (cond (true && not a && b) 1 0) 1 ≡ true
          → (keeps_of plan i ≡ 0 → ⊥) × (code_of plan i < 21)
      go true p b q e = absurd (let z : ◌≡◌ {A = ℕ} 0 1 = cc e in omega arith)
      go false p true q e = (eqb-false _ _ p, ltb-true _ _ q)
      go false p false q e = absurd (let z : ◌≡◌ {A = ℕ} 0 1 = cc e in omega arith)

  pub bits_known : (i : ℕ) → has_part plan i 0 ≡ true → (copied plan i ≡ true) × (code_of plan i < 21)
  unfolding has_part validity_parts
  bits_known i h = go (copied plan i) refl
    where
      go : (b : Bool) → copied plan i ≡ b → (copied plan i ≡ true) × (code_of plan i < 21)
      go true e = (e, (copied_bits i e h).1)
      go false e = absurd (let g : eqb (cond (false && not (eqb (keeps_of plan i) 0) && ltb (code_of plan i) 21) 1 0) 1 ≡ true = rw e at h in let z : ◌≡◌ {A = ℕ} 0 1 = cc g in omega arith)

  pub bits_copied : (i : ℕ) → copied plan i ≡ true → (keeps_of plan i ≡ 0 → ⊥) → code_of plan i < 21 → has_part plan i 0 ≡ true
  unfolding has_part validity_parts
  bits_copied i f k c = rw (f, ne_eqb (keeps_of plan i) 0 k, lt-ltb (code_of plan i) 21 c)

  -- a node with a part is copied
  pub part_copied : (i b : ℕ) → has_part plan i b ≡ true → copied plan i ≡ true
  unfolding has_part validity_parts buffer_parts
  part_copied i zero h = go (copied plan i) (not (eqb (keeps_of plan i) 0)) (ltb (code_of plan i) 21) h
    where
      go : (a b c : Bool) → eqb (cond (a && b && c) 1 0) 1 ≡ true → a ≡ true
      go true b c e = refl
      go false b c e = absurd (let z : ◌≡◌ {A = ℕ} 0 1 = cc e in omega arith)
  part_copied i (suc b) h = go (copied plan i) h
    where
      go : (a : Bool) → ltb b (cond a (buffer_count (code_of plan i)) 0) ≡ true → a ≡ true
      go true e = refl
      go false e = absurd (omega (arith, ltb-true b 0 e))

  -- .. and at one that is no dictionary's values

  pub buffer_part : (i k : ℕ) → Free plan i → k < buffer_count (code_of plan i) → has_part plan i (suc k) ≡ true
  buffer_part i k f = buffer_copied i k (copied_free i f)

  pub bits_part : (i : ℕ) → Free plan i → (keeps_of plan i ≡ 0 → ⊥) → code_of plan i < 21 → has_part plan i 0 ≡ true
  bits_part i f = bits_copied i (copied_free i f)

  -- what a walk may write at has a part, at a node that is copied
  pub copied_part : (i b : ℕ) → copied plan i ≡ true → HasBuffer plan i b → has_part plan i b ≡ true
  copied_part i zero f h = bits_copied i f h.0 h.1
  copied_part i (suc zero) f h = buffer_copied i 0 f (first (code_of plan i) h.0 h.1)
    where
      first : (z : ℕ) → 1 ≤ z → z < 23 → 0 < buffer_count z
      first z p q = ltb-true _ _ (table (λ y. leb 1 y && ltb y 23) (λ y. ltb 0 (buffer_count y)) refl z (omega arith) (rw (le-leb 1 z p, lt-ltb z 23 q)))
  copied_part i (suc (suc b)) f h = let e : b ≡ 0 = h.0 in rw e (buffer_copied i 1 f (second (code_of plan i) h.1))
    where
      second : (z : ℕ) → Second z → 1 < buffer_count z
      second z (chars s) = omega (arith, string_two z s)
      second z (sizes s) = omega (arith, list_two z s)
      second z (positions s) = rw s (omega arith)

  pub has_part_lem : (i b : ℕ) → Free plan i → HasBuffer plan i b → has_part plan i b ≡ true
  has_part_lem i b f = copied_part i b (copied_free i f)

  -- a node has validity by its code
  pub masks_code : (k : ℕ) (t : Ty) (i : ℕ) → Worded plan k t i → masks t ≡ ltb (code_of plan i) 21
  masks_code k t i w = sym (masked_is plan k t i w)
