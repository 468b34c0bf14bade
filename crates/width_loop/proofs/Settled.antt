-- The ranges that a node settles, as the code writes them, and that every range stays among its node's rows. Assumes nothing.
use mathlib.Core.Path.{◌≡◌, sym, ap, ap₂, ◌∙◌}
use mathlib.Core.Bool.{Bool, true, false, cond}
use mathlib.Core.List.{List}
use Prim.Native.Nat.{ℕ, ◌+◌}
use native.Mathlib.Numerals.{add-one}
use Rattle.schema.specs.Tree.{child_at}
use Rattle.array_data.specs.Tables.{Tables, length_of}
use Rattle.array_data.specs.Typed.{Tree, child_node}
use Rattle.array_data.specs.type_tree.Lent.{tree_of}
use Rattle.array_data.proofs.type_tree.Lent.{child_same}
use Rattle.width_walks.specs.Nodes.{range, child_ranges}

module _ (x : Tables) (k s n : ℕ) (rs : List ℕ) where
  pub child_whole : {whole : Bool} {l : ℕ} {out : List ℕ} → whole ≡ true → l ≡ length_of x k → out ≡ range k 0 l rs → out ≡ range k (cond whole 0 s) (cond whole (length_of x k) n) rs
  child_whole e f g = rw (e, sym f) g

  pub child_part : {whole : Bool} {out : List ℕ} → whole ≡ false → out ≡ range k s n rs → out ≡ range k (cond whole 0 s) (cond whole (length_of x k) n) rs
  child_part e g = rw e g

-- one child more
pub fields_more : (formats schema : List ℕ) (first count : ℕ) (t : Tree) (x : Tables) (plan : List ℕ) (a n : ℕ → ℕ) (i j node : ℕ) (rs0 rs out : List ℕ) → node ≡ child_at schema first count i j
    → rs ≡ child_ranges (tree_of formats schema first count) t x plan a n i j rs0 → out ≡ range node (a node) (n node) rs
    → out ≡ child_ranges (tree_of formats schema first count) t x plan a n i (j + 1) rs0
fields_more formats schema first count t x plan a n i j node rs0 rs out e f g =
    let q : node ≡ child_node (tree_of formats schema first count) i j = e ∙ child_same formats schema first count i j in
    g ∙ ap₂ (λ k r. range k (a k) (n k) r) q f ∙ ap (λ z. child_ranges (tree_of formats schema first count) t x plan a n i z rs0) (sym (add-one j))
