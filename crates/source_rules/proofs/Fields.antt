-- What the loop over a node's children goes by. Assumes nothing.
use mathlib.Core.Path.{◌≡◌, sym, ap, ◌∙◌}
use mathlib.Core.List.{List}
use Prim.Native.Nat.{ℕ, ◌+◌, ◌≤◌, ◌<◌}
use native.Mathlib.Omega.{arith}
use native.Mathlib.Numerals.{add-one}
use lib.ListN.{length, get_or, set}
use lib.Seq.{get_or-set_same, get_or-set_other}
use borrow.Author.Count.{below_more}
use Rattle.schema.specs.Tree.{end_of, child_at}
use Rattle.schema.proofs.Trees.{end_inside}

module _ (schema : List ℕ) (first n i : ℕ) where
  pub child_first : i + 1 ≡ child_at schema first n i 0
  unfolding child_at
  child_first = add-one i

  pub child_next : (j node r : ℕ) → node ≡ child_at schema first n i j → r ≡ end_of schema first n node → r ≡ child_at schema first n i (j + 1)
  unfolding child_at
  child_next j node r e h = h ∙ ap (end_of schema first n) e ∙ ap (child_at schema first n i) (sym (add-one j))

  pub child_below : (node r : ℕ) → node ≤ n → r ≡ end_of schema first n node → r ≤ n
  child_below node r l h = omega (arith, h, end_inside schema first n node l)

-- one entry more
pub set_more : (f : ℕ → ℕ) (l : List ℕ) (j v : ℕ) → j < length l → ((k : ℕ) → k < j → get_or l k 0 ≡ f k) → v ≡ f j → (k : ℕ) → k < j + 1 → get_or (set l j v) k 0 ≡ f k
set_more f l j v h all e =
    below_more (λ k. get_or (set l j v) k 0 ≡ f k) j (λ k q. get_or-set_other l j k v 0 (λ z. omega arith) ∙ all k q) (get_or-set_same l j v 0 h ∙ e)
