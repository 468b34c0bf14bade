-- Lengths and null counts of the finished array, and the dictionaries that are kept. Assumes nothing.
use mathlib.Core.Path.{◌≡◌, refl, sym, ap, ap₂, ◌∙◌}
use mathlib.Core.Bool.{Bool, true, false, cond, ◌&&◌}
use mathlib.Core.List.{List, []}
use Prim.Native.Nat.{ℕ, ◌+◌, ◌*◌, ◌/◌, ◌%◌, ◌<◌, ◌^◌}
use native.Mathlib.Nat.{add-zero}
use native.Mathlib.Omega.{arith}
use lib.Dec.{ltb, eqb}
use borrow.Author.Tests.{lt-ltb, le-ltb, ltb-true, ltb-false, eq-eqb, ne_eqb}
use Rattle.bits.specs.Bits.{bits_at, zeros}
use Rattle.columnar.specs.Array.{null_count_of}
use Rattle.array_data.specs.lent_tables.Lent.{tables, mask_of}
use Rattle.array_data.proofs.lent_tables.Laws.{and_right}
use Rattle.plan.specs.dictionaries.Sources.{array_of, Countable}
use Rattle.array_data.specs.Sources.{first_of}
use Rattle.walk.specs.State.{rows, grown, far}
use Rattle.walk.specs.Log.{start_of}
use Rattle.plan.specs.parts.Parts.{copied, has_part}
use Rattle.array_data.specs.Tables.{length_of, offset_of}
use Rattle.refinement.specs.finishing.Finish.{zeros_at, nulls_at, kept_in, length_at, offset_at}
use Rattle.into_builder.specs.buffers.Names.{lent}
use Rattle.into_builder.specs.counts.Counts.{kept_of, zeros_of}

-- ---- lengths and offsets, of node i of source 0 where it is kept

module _ (plan sources lengths counters : List ℕ) (i : ℕ) where
  pub length_copied : {b : Bool} {r : ℕ} → b ≡ copied plan i → b ≡ true → r ≡ rows counters i → r ≡ length_at (lent plan [] sources lengths [] []) [] counters [] 0 i
  length_copied e h g = rw (← e, h) g

  pub length_kept : {b : Bool} {r k : ℕ} → b ≡ copied plan i → b ≡ false → k ≡ first_of sources 0 + i → r ≡ length_of (tables lengths [] []) k
      → r ≡ length_at (lent plan [] sources lengths [] []) [] counters [] 0 i
  length_kept e h f g = rw (← e, h) (g ∙ ap (length_of (tables lengths [] [])) f)

  pub offset_copied : {b : Bool} → b ≡ copied plan i → b ≡ true → 0 ≡ offset_at (lent plan [] sources lengths [] []) [] counters [] 0 i
  offset_copied e h = rw (← e, h)

  pub offset_kept : {b : Bool} {r k : ℕ} → b ≡ copied plan i → b ≡ false → k ≡ first_of sources 0 + i → r ≡ offset_of (tables lengths [] []) k
      → r ≡ offset_at (lent plan [] sources lengths [] []) [] counters [] 0 i
  offset_kept e h f g = rw (← e, h) (g ∙ ap (offset_of (tables lengths [] [])) f)

-- number a of the lengths and offsets
abbrev pub length_word : List ℕ → List ℕ → List ℕ → List ℕ → ℕ → ℕ
length_word plan sources lengths counters a =
    cond (eqb (a % 2) 0) (length_at (lent plan [] sources lengths [] []) [] counters [] 0 (a / 2)) (offset_at (lent plan [] sources lengths [] []) [] counters [] 0 (a / 2))

pub word_length : (q a b : ℕ) {r : ℕ} → q % 2 ≡ 0 → r ≡ a → r ≡ cond (eqb (q % 2) 0) a b
word_length q a b h g = rw (eq-eqb (q % 2) 0 h) g

pub word_offset : (q a b : ℕ) {r : ℕ} → (q % 2 ≡ 0 → ⊥) → r ≡ b → r ≡ cond (eqb (q % 2) 0) a b
word_offset q a b h g = rw (ne_eqb (q % 2) 0 h) g

-- ---- the bits of a kept dictionary

pub grown_far : (v n : ℕ) {r : ℕ} → r ≡ grown v n → ltb r far ≡ ltb (v + n) far
unfolding grown
grown_far v n {r} e = go (ltb (v + n) far) refl
  where
    go : (t : Bool) → ltb (v + n) far ≡ t → ltb r far ≡ ltb (v + n) far
    go true h = let l = ltb-true (v + n) far h in lt-ltb r far (omega arith) ∙ sym h
    go false h = let l = ltb-false (v + n) far h in le-ltb r far (omega arith) ∙ sym h

module _ (plan sources lengths places body : List ℕ) (i : ℕ) where
  pub kept_copied : {b : Bool} → b ≡ copied plan i → b ≡ true → true ≡ kept_of plan sources lengths places body i
  unfolding kept_in
  kept_copied e h = rw (← e, h)

  module _ {b : Bool} {k : ℕ} (e : b ≡ copied plan i) (h : b ≡ false) (f : k ≡ first_of sources 0 + i) where
    pub kept_not : {t : Bool} → t ≡ ltb (offset_of (tables lengths places body) k + length_of (tables lengths places body) k) far → t ≡ false
        → false ≡ kept_of plan sources lengths places body i
    unfolding kept_in
    kept_not g n =
        let p : ltb (offset_of (tables lengths places body) (first_of sources 0 + i) + length_of (tables lengths places body) (first_of sources 0 + i)) far ≡ false = rw f at (sym g ∙ n) in
        rw (← e, h, p)

    pub kept_by : {t r : Bool} → t ≡ ltb (offset_of (tables lengths places body) k + length_of (tables lengths places body) k) far → t ≡ true
        → r ≡ mask_of (tables lengths places body) k true → r ≡ kept_of plan sources lengths places body i
    unfolding kept_in
    kept_by g n m =
        let p : ltb (offset_of (tables lengths places body) (first_of sources 0 + i) + length_of (tables lengths places body) (first_of sources 0 + i)) far ≡ true = rw f at (sym g ∙ n) in
        rw (← e, h, p) (m ∙ ap (λ a. mask_of (tables lengths places body) a true) f)

    -- a kept dictionary's nulls can be counted
    pub kept_countable : k < 2 ^ 33 → kept_of plan sources lengths places body i ≡ true → Countable (tables lengths places body) k
    unfolding kept_in
    kept_countable s q =
        let x = tables lengths places body in
        let p : ltb (offset_of x (first_of sources 0 + i) + length_of x (first_of sources 0 + i)) far && mask_of x (first_of sources 0 + i) true ≡ true = rw (← e, h) at q in
        let a : ltb (offset_of x k + length_of x k) far && mask_of x k true ≡ true = rw (← f) at p in
        record { small = s; bits = and_right (ltb (offset_of x k + length_of x k) far) (mask_of x k true) a }

-- ---- zero bits

module _ (plan parts counters room : List ℕ) (i : ℕ) where
  pub zeros_none : {b : Bool} → b ≡ has_part plan i 0 → b ≡ false → 0 ≡ zeros_of plan parts counters room i
  unfolding zeros_at
  zeros_none e h = rw (← e, h)

  pub zeros_some : {b : Bool} {r start n : ℕ} → b ≡ has_part plan i 0 → b ≡ true → start ≡ start_of plan parts i 0 → n ≡ rows counters i
      → r ≡ zeros (bits_at (8 * start + 0) n room) → r ≡ zeros_of plan parts counters room i
  unfolding zeros_at
  zeros_some {start = start} {n = n} e h f k g =
      rw (← e, h)
      (g ∙ ap (λ a. zeros (bits_at a n room)) (add-zero (8 * start)) ∙ ap₂ (λ a c. zeros (bits_at (8 * a) c room)) f k)

  -- where none is counted
  pub zeros_are : (x : ℕ) {b : Bool} → x ≡ zeros_of plan parts counters room i → b ≡ has_part plan i 0 → b ≡ false → x ≡ 0
  zeros_are x g e h = g ∙ sym (zeros_none e h)

-- ---- null counts

module _ (plan parts sources lengths places body counters room : List ℕ) (i : ℕ) where
  pub nulls_copied : {b : Bool} {r : ℕ} → b ≡ copied plan i → b ≡ true → r ≡ zeros_of plan parts counters room i
      → r ≡ nulls_at (lent plan parts sources lengths places body) [] counters room 0 i
  unfolding nulls_at zeros_at
  nulls_copied e h g = rw (← e, h) g

  pub nulls_kept : {b : Bool} {r k : ℕ} → b ≡ copied plan i → b ≡ false → k ≡ first_of sources 0 + i → r ≡ null_count_of (array_of (tables lengths places body) k)
      → r ≡ nulls_at (lent plan parts sources lengths places body) [] counters room 0 i
  unfolding nulls_at
  nulls_kept e h f g = rw (← e, h) (g ∙ ap (λ a. null_count_of (array_of (tables lengths places body) a)) f)
