-- Every range stays among the rows of its node. Assumes nothing.
use mathlib.Core.Path.{◌≡◌, refl, sym, subst, ◌∙◌}
use mathlib.Core.Bool.{Bool, true, false}
use mathlib.Core.List.{List}
use Prim.Native.Nat.{ℕ, zero, suc, ◌+◌, ◌*◌, ◌<◌, ◌≤◌}
use native.Mathlib.Omega.{arith}
use lib.ListN.{length, get_or, replicate, length-replicate}
use lib.Dec.{eqb}
use borrow.Author.Tests.{eqb-true, eqb-false}
use Rattle.columnar.specs.Array.{item}
use Rattle.array_data.specs.Tables.{Tables, length_of, offset_of, first_buffer}
use Rattle.array_data.specs.NodeKinds.{NodeKind, fixed_node, string_node, view_node, list_view_node, list_node, sparse_node, dense_node, run_end_node, dictionary_node, kind_at}
use Rattle.array_data.specs.Typed.{Tree, child_node, node_of}
use Rattle.array_data.specs.entries.Entries.{column}
use Rattle.array_data.specs.type_tree.Lent.{tree_of}
use Rattle.array_data.proofs.type_tree.Ids.{field_id}
use Rattle.array_data.proofs.type_tree.Lent.{child_same}
use Rattle.anew.specs.widths.Converted.{span_of, first_of, many_of}
use Rattle.anew.proofs.widths.Plain.{first_least, last_within}
use Rattle.width_walks.specs.Nodes.{from_in, many_in, range, child_ranges, settle_as, settle}
use Rattle.width_walks.proofs.Ranges.{range_long, range_other, own_from, own_many, settle_is}
use Rattle.width_loop.specs.Steps.{runs_in}
use Rattle.width_loop.specs.Here.{Accepted}
use Rattle.width_loop.proofs.Rules.{fixed_inside, list_here, sparse_here, run_here}
use Rattle.width_loop.proofs.Clips.{runs_within}
use Rattle.width_loop.proofs.Here.{few, rule_as, list_below, list_view_below, key_below, fields_below, fields_ids, run_below}
use Rattle.array_data.proofs.Names.{union_kind}

-- the ranges of all nodes
pub record Fits (x : Tables) (rs : List ℕ) : Type 0 where
  pub long : length rs ≡ 64
  pub among : (j : ℕ) → from_in rs j + many_in rs j ≤ length_of x j

pub fits_range : (x : Tables) (k a n : ℕ) (rs : List ℕ) → k < 32 → a + n ≤ length_of x k → Fits x rs → Fits x (range k a n rs)
fits_range x k a n rs l h f = record { long = range_long k a n rs ∙ f.long; among = λ j. go j (eqb j k) refl }
  where
    go : (j : ℕ) (b : Bool) → eqb j k ≡ b → from_in (range k a n rs) j + many_in (range k a n rs) j ≤ length_of x j
    go j true e = subst (λ z. from_in (range k a n rs) z + many_in (range k a n rs) z ≤ length_of x z) (sym (eqb-true j k e)) (omega (arith, own_from k a n rs f.long l, own_many k a n rs f.long l))
    go j false e = let o = range_other k a n rs j (eqb-false j k e) in omega (arith, o.same_from, o.same_many, f.among j)

-- the first ranges: all rows of the root, none of the others
zeros : (k i : ℕ) → ◌≡◌ {A = ℕ} (get_or (replicate k 0) i 0) 0
zeros zero i = refl
zeros (suc k) zero = refl
zeros (suc k) (suc i) = zeros k i

pub fits_first : (x : Tables) {l : ℕ} → l ≡ length_of x 0 → Fits x (range 0 0 l (replicate 64 0))
fits_first x {l} e =
    fits_range x 0 0 l (replicate 64 0) (omega arith) (omega (arith, e)) (record { long = length-replicate {A = ℕ} 64 0; among = λ j. omega (arith, zeros 64 (2 * j), zeros 64 (2 * j + 1)) })

module _ (formats schema lengths places body : List ℕ) (first n target : ℕ) (a : Accepted formats schema lengths places body first n target) (i : ℕ) (l : i < n) (t2 : Tree) (buffers plan : List ℕ) (rs : List ℕ) where
  abbrev x : Tables
  x = column lengths places a.buffers body first

  abbrev y : Tables
  y = column lengths places buffers body first

  abbrev tree : Tree
  tree = tree_of formats schema first n

  abbrev s : ℕ
  s = offset_of x i + from_in rs i

  abbrev m : ℕ
  m = many_in rs i

  module _ (f : Fits y rs) where
    low : n ≤ 32
    low = few formats schema lengths places body first n target a

    above : offset_of x i ≤ s
    above = omega arith

    below : s + m ≤ offset_of x i + length_of x i
    below = omega (arith, f.among i)

    fields_fit : (from many : ℕ → ℕ) (k : ℕ) → ((j : ℕ) → j < k → (child_node tree i j < 32) × (from (child_node tree i j) + many (child_node tree i j) ≤ length_of y (child_node tree i j))) → Fits y (child_ranges tree t2 y plan from many i k rs)
    fields_fit from many zero h = f
    fields_fit from many (suc k) h = let q = h k (omega arith) in fits_range y (child_node tree i k) (from (child_node tree i k)) (many (child_node tree i k)) (child_ranges tree t2 y plan from many i k rs) q.0 q.1 (fields_fit from many k (λ j r. h j (omega arith)))

    child_low : (b : Bool) (ids : List ℕ) → kind_at formats schema first i ≡ union_kind b ids → (j : ℕ) → j < length ids → child_node tree i j < 32
    child_low b ids e j q = subst (λ z. z < 32) (child_same formats schema first n i j) ((fields_below formats schema lengths places body first n target a i l b ids e).1 j q)

    by_kind : (k : NodeKind) → kind_at formats schema first i ≡ k → Fits y (settle_as tree t2 y plan k i s m rs)
    by_kind (fixed_node v) e = f
    by_kind (string_node w) e = f
    by_kind view_node e = f
    by_kind (list_view_node w) e = fits_range y (suc i) 0 (length_of y (suc i)) rs (omega (arith, low, list_view_below formats schema lengths places body first n target a i l w e)) (omega arith) f
    by_kind (list_node w) e =
        let r = (list_here x i s m above below w (rule_as formats schema lengths places body first n target a i l (list_node w) e)).1 in
        fits_range y (suc i) (item w (first_buffer y i) s) (span_of w (first_buffer y i) s m) rs (omega (arith, low, list_below formats schema lengths places body first n target a i l w e))
        (omega (arith, first_least w (first_buffer x i) (length_of x (suc i)) s m r m (omega arith), last_within w (first_buffer x i) (length_of x (suc i)) s m r)) f
    by_kind (sparse_node ids) e =
        let r = (sparse_here x i s m above below ids (node_of tree i ids) (rule_as formats schema lengths places body first n target a i l (sparse_node ids) e)).2 in
        fields_fit (λ k. s) (λ k. m) (length ids)
        (λ j q. (child_low true ids e j q, let u = field_id ids (fields_ids formats schema lengths places body first n target a i l true ids e) j q in subst (λ z. s + m ≤ length_of y (child_node tree i z)) u.field (r u.id u.declared)))
    by_kind (dense_node ids) e = fields_fit (λ k. 0) (length_of y) (length ids) (λ j q. (child_low false ids e j q, omega arith))
    by_kind (run_end_node w) e =
        let b = run_below formats schema lengths places body first n target a i l w e in
        let q = fixed_inside x (suc i) b.2.0 (rule_as formats schema lengths places body first n target a (suc i) b.0 (fixed_node b.2.0) b.2.1) in
        let r = run_here x i s m above below w (rule_as formats schema lengths places body first n target a i l (run_end_node w) e) q in
        fits_range y (suc (suc i)) (first_of w (runs_in y i) s m) (many_of w (runs_in y i) s m) rs (omega (arith, low, b.1)) (omega (arith, runs_within x i w s m r.0, r.1)) f
    by_kind (dictionary_node v) e = fits_range y (suc i) 0 (length_of y (suc i)) rs (omega (arith, low, key_below formats schema lengths places body first n target a i l v e)) (omega arith) f

    -- WHAT A NODE SETTLES FITS
    pub settle_fits : Fits y (settle tree t2 y plan i rs)
    settle_fits = subst (Fits y) (sym (settle_is tree t2 y plan i (kind_at formats schema first i) rs refl)) (by_kind (kind_at formats schema first i) refl)
