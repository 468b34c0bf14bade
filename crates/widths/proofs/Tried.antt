-- A walk reads of a plan which nodes keep nulls, and nothing else: two plans that agree in that walk alike. Assumes nothing.
use mathlib.Core.Path.{◌≡◌, refl, ap, ap₂, fun_ext, ◌∙◌}
use mathlib.Core.Bool.{Bool, cond}
use mathlib.Core.List.{List, map}
use Prim.Native.Nat.{ℕ, zero, suc, ◌+◌, ◌≤◌, ◌<◌}
use native.Mathlib.Omega.{arith}
use lib.ListN.{length, replicate}
use lib.Dec.{eqb}
use Rattle.columnar.specs.Row.{seg}
use Rattle.columnar.specs.Array.{ok}
use Rattle.array_data.specs.Tables.{Tables, length_of, offset_of, valid_of}
use Rattle.array_data.specs.NodeKinds.{NodeKind, fixed_node, string_node, view_node, list_view_node, list_node, sparse_node, dense_node, run_end_node, dictionary_node}
use Rattle.array_data.specs.Typed.{Tree, child_node, kind_in}
use Rattle.walk.specs.State.{keeps_of, add_rows}
use Rattle.walk.specs.Log.{mask, done, wrote, next}
use Rattle.refinement.specs.walk_is_model.Holds.{flag}
use Rattle.width_walks.specs.Convert.{bits_walk}
use Rattle.width_walks.specs.Nodes.{from_in, many_in, range, after_run, child_ranges, settle_as, settle, own_as, own_walk, turn, nodes_walk, tree_walk}

module _ (t t' : Tree) (x : Tables) (p q : List ℕ) where
  child_same : (a n : ℕ → ℕ) (i k : ℕ) (rs : List ℕ) → child_ranges t t' x p a n i k rs ≡ child_ranges t t' x q a n i k rs
  child_same a n i zero rs = refl
  child_same a n i (suc k) rs = ap (range (child_node t i k) (a (child_node t i k)) (n (child_node t i k))) (child_same a n i k rs)

  settles_same : (k : NodeKind) (i s n : ℕ) (rs : List ℕ) → settle_as t t' x p k i s n rs ≡ settle_as t t' x q k i s n rs
  settles_same (fixed_node m) i s n rs = refl
  settles_same (string_node w) i s n rs = refl
  settles_same view_node i s n rs = refl
  settles_same (list_view_node w) i s n rs = refl
  settles_same (list_node w) i s n rs = refl
  settles_same (sparse_node ids) i s n rs = child_same (λ k. s) (λ k. n) i (length ids) rs
  settles_same (dense_node ids) i s n rs = child_same (λ k. 0) (length_of x) i (length ids) rs
  settles_same (run_end_node w) i s n rs = refl
  settles_same (dictionary_node m) i s n rs = refl

  settle_same : (i : ℕ) (rs : List ℕ) → settle t t' x p i rs ≡ settle t t' x q i rs
  unfolding settle
  settle_same i rs = settles_same (kind_in t i) i (offset_of x i + from_in rs i) (many_in rs i) rs

  own_same : (k k' : NodeKind) (i : ℕ) (okay : ℕ → Bool) (s n : ℕ) (c : List ℕ) → own_as t t' x p k k' i okay s n c ≡ own_as t t' x q k k' i okay s n c
  own_same (fixed_node m) k' i okay s n c = refl
  own_same (string_node w) k' i okay s n c = refl
  own_same view_node k' i okay s n c = refl
  own_same (list_view_node w) k' i okay s n c = refl
  own_same (list_node w) k' i okay s n c = refl
  own_same (sparse_node ids) k' i okay s n c = refl
  own_same (dense_node ids) k' i okay s n c = refl
  own_same (run_end_node w) k' i okay s n c = refl
  own_same (dictionary_node m) k' i okay s n c = refl

  module _ (keeps : (i : ℕ) → i < 32 → keeps_of p i ≡ keeps_of q i) where
    bits_same : (i : ℕ) → i < 32 → (okay : ℕ → Bool) (s n : ℕ) (c : List ℕ) → bits_walk p i okay s n c ≡ bits_walk q i okay s n c
    unfolding bits_walk
    bits_same i l okay s n c = ap (λ (k : ℕ). cond (eqb k 0) (done c) (wrote (mask i 0 (map flag (seg okay s n))) c)) (keeps i l)

    walk_same : (i : ℕ) → i < 32 → (a n : ℕ) (c : List ℕ) → own_walk t t' x p i a n c ≡ own_walk t t' x q i a n c
    unfolding own_walk
    walk_same i l a n c =
        ap₂ next (bits_same i l (ok (valid_of x i)) (offset_of x i + a) n c)
        (fun_ext (λ c1. own_same (kind_in t i) (kind_in t' i) i (ok (valid_of x i)) (offset_of x i + a) n (add_rows i n c1)))

    turn_same : (i : ℕ) → i < 32 → (rs c : List ℕ) → turn t t' x p i rs c ≡ turn t t' x q i rs c
    unfolding turn
    turn_same i l rs c = ap (cond (after_run t t' x p i) (done c)) (walk_same i l (from_in rs i) (many_in rs i) c)

    nodes_same : (m i : ℕ) → i + m ≤ 32 → (rs c : List ℕ) → nodes_walk t t' x p m i rs c ≡ nodes_walk t t' x q m i rs c
    unfolding nodes_walk
    nodes_same zero i l rs c = refl
    nodes_same (suc m) i l rs c =
        ap₂ next (turn_same i (omega arith) rs c)
        (fun_ext (λ c2. nodes_same m (suc i) (omega arith) (settle t t' x p i rs) c2 ∙ ap (λ r. nodes_walk t t' x q m (suc i) r c2) (settle_same i rs)))

    pub tree_same : t.count ≤ 32 → (c : List ℕ) → tree_walk t t' x p c ≡ tree_walk t t' x q c
    unfolding tree_walk
    tree_same l c = nodes_same t.count 0 (omega arith) (range 0 0 (length_of x 0) (replicate 64 0)) c
