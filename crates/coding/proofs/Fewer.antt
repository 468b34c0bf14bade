-- Parts that have room for a run a row have room for the runs: so they need not be counted first. Assumes nothing.
use mathlib.Core.Path.{◌≡◌, refl, sym, ◌∙◌}
use mathlib.Core.Bool.{Bool, true, false, cond}
use mathlib.Core.List.{List}
use Prim.Native.Nat.{ℕ, zero, suc, ◌+◌, ◌*◌, ◌≤◌}
use native.Mathlib.Nat.{mul-le-mul_right, le_refl, le_trans}
use native.Mathlib.Omega.{arith}
use lib.ListN.{get_or, set, replicate}
use lib.Seq.{get_or-set_other}
use lib.Dec.{leb}
use borrow.Author.Tests.{le-leb, leb-true}
use Rattle.columnar.specs.Test.{every, only_if}
use Rattle.schema.specs.formats.Code.{is_string, is_list_view, width_of}
use Rattle.array_data.proofs.lent_tables.Laws.{and_left, and_right}
use Rattle.walk.specs.State.{code_of, rows, bytes}
use Rattle.plan.specs.parts.Parts.{nodes_of, has_part, has_offsets, entry_size, needed_by, needed, size_of, part_holds, parts_hold}
use Rattle.anew.specs.Anew.{room_ground}
use Rattle.coding.specs.Counted.{run_counts, all_counts}
use Rattle.coding.proofs.Room.{room_free}

-- fewer rows need no more bytes
needed_less : (code r q n b : ℕ) → r ≤ q → needed_by code r n b ≤ needed_by code q n b
needed_less code r q n zero l = omega arith
needed_less code r q n (suc zero) l = go (has_offsets code)
  where
    more : r + 1 ≤ q + 1
    more = omega arith

    go : (t : Bool) → cond t ((r + 1) * width_of code) (r * entry_size code) ≤ cond t ((q + 1) * width_of code) (q * entry_size code)
    go true = mul-le-mul_right (width_of code) more
    go false = mul-le-mul_right (entry_size code) l
needed_less code r q n (suc (suc b)) l = go (is_string code) (is_list_view code)
  where
    go : (s t : Bool) → cond s n (cond t (r * width_of code) (r * 4)) ≤ cond s n (cond t (q * width_of code) (q * 4))
    go true t = le_refl n
    go false true = mul-le-mul_right (width_of code) l
    go false false = mul-le-mul_right 4 l

module _ (m k : ℕ) (l : k ≤ m) where
  -- the counters that are no rows of a node are alike
  far : (n q : ℕ) → (q ≡ 0 → ⊥) → (q ≡ 3 → ⊥) → (q ≡ 6 → ⊥) → get_or (all_counts m n) q 0 ≡ get_or (replicate 96 0) q 0
  far n q f g h =
      get_or-set_other (run_counts n) 0 q m 0 f
      ∙ get_or-set_other (set (replicate 96 0) 3 n) 6 q n 0 h
      ∙ get_or-set_other (replicate 96 0) 3 q n 0 g

  rows_less : (i : ℕ) → rows (all_counts m k) i ≤ rows (all_counts m m) i
  rows_less zero = le_refl m
  rows_less (suc zero) = l
  rows_less (suc (suc zero)) = l
  rows_less (suc (suc (suc i))) =
      let q = 3 * suc (suc (suc i)) in
      let e = far k q (λ f. omega arith) (λ f. omega arith) (λ f. omega arith) in
      let d = far m q (λ f. omega arith) (λ f. omega arith) (λ f. omega arith) in
      omega (arith, e, d)

  bytes_same : (i : ℕ) → bytes (all_counts m k) i ≡ bytes (all_counts m m) i
  bytes_same i =
      let q = 3 * i + 2 in
      far k q (λ f. omega arith) (λ f. omega arith) (λ f. omega arith) ∙ sym (far m q (λ f. omega arith) (λ f. omega arith) (λ f. omega arith))

  module _ (made parts : List ℕ) where
    part_less : (i b : ℕ) → part_holds made (all_counts m m) parts i b ≡ true → part_holds made (all_counts m k) parts i b ≡ true
    unfolding part_holds
    part_less i b = go (has_part made i b)
      where
        less : needed made (all_counts m k) i b ≤ needed made (all_counts m m) i b
        less = rw (bytes_same i) (needed_less (code_of made i) _ _ (bytes (all_counts m m) i) b (rows_less i))

        go : (t : Bool) → only_if t (leb (needed made (all_counts m m) i b) (size_of made parts i b)) ≡ true → only_if t (leb (needed made (all_counts m k) i b) (size_of made parts i b)) ≡ true
        go true h = le-leb _ _ (le_trans less (leb-true _ _ h))
        go false h = h

    holds_less : parts_hold made (all_counts m m) parts ≡ true → parts_hold made (all_counts m k) parts ≡ true
    unfolding parts_hold
    holds_less = all _ _ (nodes_of made) (λ i. all _ _ 3 (λ b. part_less i b))
      where
        all : (p q : ℕ → Bool) (n : ℕ) → ((i : ℕ) → p i ≡ true → q i ≡ true) → every p n ≡ true → every q n ≡ true
        all p q zero f h = refl
        all p q (suc n) f h = rw (all p q n f (and_left (every p n) (p n) h), f n (and_right (every p n) (p n) h))

    -- NO GROUND OF THE ROOM STANDS for fewer runs
    pub ground_less : (words counters room : ℕ) → room_ground made (all_counts m m) parts words counters room ≡ 0 → 0 ≡ room_ground made (all_counts m k) parts words counters room
    unfolding room_ground
    ground_less words counters room h =
        let f = room_free made (all_counts m m) parts words counters room h in
        rw (f.lengths, f.placed, holds_less f.holds)
