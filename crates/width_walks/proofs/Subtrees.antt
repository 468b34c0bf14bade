-- The ranges that the loop leaves behind a subtree. Assumes nothing.
use mathlib.Core.Path.{◌≡◌, refl, sym, ap, subst, ◌∙◌}
use mathlib.Core.List.{List, Memᴰ}
use Prim.Native.Nat.{ℕ, zero, suc, ◌+◌, ◌-◌, ◌<◌}
use native.Mathlib.Omega.{arith}
use lib.ListN.{length}
use Rattle.columnar.specs.Types.{Number, Plain, fixed, string, Ty}
use Rattle.columnar.specs.Wider.{Declared}
use Rattle.columnar.proofs.WiderKinds.{declares}
use Rattle.array_data.specs.Tables.{Tables, length_of, offset_of, first_buffer}
use Rattle.array_data.specs.NodeKinds.{NodeKind, fixed_node, list_view_node, list_node, sparse_node, dense_node, run_end_node, dictionary_node, view_node}
use Rattle.array_data.specs.Typed.{Tree, kind_in, subtree_end}
use Rattle.columnar.specs.Array.{item}
use Rattle.anew.specs.widths.Widths.{Widths, s_plain, s_view, s_list_view, s_list, s_sparse, s_dense, s_run_end, s_dictionary}
use Rattle.anew.specs.widths.Converted.{span_of, first_of, many_of}
use Rattle.width_walks.specs.Nodes.{from_in, many_in, runs_at, settle_as, settle, ranges_behind}
use Rattle.width_walks.proofs.Ranges.{SpansFields, RangesKept, kept_none, kept_range, kept_then, kept_wide, children_kept, settle_is, behind_split}
use Rattle.width_walks.proofs.Laid.{plain_node, LaidFields, no_field, a_field, Laid}

-- a subtree's nodes
pub some_nodes : (m i e : ℕ) → m + i ≡ e → i < e → suc (m - 1) ≡ m
some_nodes m i e h l = omega arith

-- the fields of a union are children one behind the other
pub laid_spans : {t t' : Tree} {plan : List ℕ} {i : ℕ} {ids : List ℕ} {kid : ℕ → ℕ → Type 0} {e : ℕ} {cs : List ℕ} {k : ℕ} → LaidFields t t' plan i ids kid e cs k → SpansFields t kid cs k e
laid_spans (no_field k q) = q
laid_spans (a_field c ds k h p n a b r f) = (h, a, b, laid_spans f)

module _ (t t' : Tree) (x : Tables) (plan : List ℕ) where
  -- a leaf settles nothing
  pub plain_settles : (p : Plain) (i : ℕ) (rs : List ℕ) → kind_in t i ≡ plain_node p → settle t t' x plan i rs ≡ rs
  plain_settles (fixed m) i rs e = settle_is t t' x plan i (fixed_node m) rs e
  plain_settles (string w) i rs e = settle_is t t' x plan i (Rattle.array_data.specs.NodeKinds.string_node w) rs e

  abbrev Kept : (i m : ℕ) → List ℕ → Type 0
  Kept i m rs = RangesKept i (subtree_end t i) rs (ranges_behind t t' x plan m i rs)

  -- node i, and then those below it
  step_kept : (i m : ℕ) (rs : List ℕ) → m + i ≡ subtree_end t i → i < subtree_end t i → RangesKept i (subtree_end t i) rs (settle t t' x plan i rs)
      → ((r : List ℕ) → RangesKept (suc i) (subtree_end t i) r (ranges_behind t t' x plan (m - 1) (suc i) r)) → Kept i m rs
  unfolding ranges_behind
  step_kept i zero rs h l a b = absurd (omega arith)
  step_kept i (suc m) rs h l a b =
      let e : suc m - 1 ≡ m = omega arith in
      kept_then a (kept_wide (omega arith) (omega arith) (subst (λ z. RangesKept (suc i) (subtree_end t i) (settle t t' x plan i rs) (ranges_behind t t' x plan z (suc i) (settle t t' x plan i rs))) e (b (settle t t' x plan i rs))))

  none_left : (i m k : ℕ) (r : List ℕ) → m ≡ 0 → ranges_behind t t' x plan m k r ≡ r
  unfolding ranges_behind
  none_left i m k r e = ap (λ z. ranges_behind t t' x plan z k r) e

  abbrev pub KeptLaw : {u u' : Ty} → Widths u u' → Type 0
  KeptLaw d = (i m : ℕ) → Laid t t' plan d i → m + i ≡ subtree_end t i → (rs : List ℕ) → RangesKept i (subtree_end t i) rs (ranges_behind t t' x plan m i rs)

  -- a subtree is not empty
  pub laid_up : (u u' : Ty) (d : Widths u u') (i : ℕ) → Laid t t' plan d i → i < subtree_end t i
  laid_up u u' (s_plain p p' d) i l = omega (arith, l.1)
  laid_up u u' s_view i l = omega (arith, l.1)
  laid_up u u' (s_list_view w w' v v' d) i l = let p = laid_up v v' d (suc i) l.2 in omega (arith, l.1)
  laid_up u u' (s_list w w' v v' d) i l = let p = laid_up v v' d (suc i) l.2 in omega (arith, l.1)
  laid_up u u' (s_sparse ids nullable nullable' f f' q d) i l = l.1
  laid_up u u' (s_dense ids nullable nullable' f f' q d) i l = l.1
  laid_up u u' (s_run_end w w' v v' d) i l = let p = laid_up v v' d (suc (suc i)) l.3 in omega (arith, l.2)
  laid_up u u' (s_dictionary k k' p p' z z' d) i l = omega (arith, l.2)

  -- run ends settle nothing
  two_step : (i m : ℕ) (r : List ℕ) (k : Number) → kind_in t (suc i) ≡ fixed_node k → 2 < suc m → ((r : List ℕ) → RangesKept (suc (suc i)) (subtree_end t i) r (ranges_behind t t' x plan (m - 2) (suc (suc i)) r))
      → RangesKept (suc i) (subtree_end t i) r (ranges_behind t t' x plan (m - 1) (suc i) r)
  unfolding ranges_behind
  two_step i m r k e l f =
      let a : m - 1 ≡ suc (m - 2) = omega arith in
      subst (λ z. RangesKept (suc i) (subtree_end t i) r (ranges_behind t t' x plan z (suc i) r)) (sym a)
      (subst (λ z. RangesKept (suc i) (subtree_end t i) r (ranges_behind t t' x plan (m - 2) (suc (suc i)) z)) (sym (plain_settles (fixed k) (suc i) r e)) (kept_wide (omega arith) (omega arith) (f r)))

  -- the values of a dictionary settle nothing
  leaf_left : (i m : ℕ) (r : List ℕ) (p : Plain) → kind_in t (suc i) ≡ plain_node p → m ≡ 2 → RangesKept (suc i) (subtree_end t i) r (ranges_behind t t' x plan (m - 1) (suc i) r)
  unfolding ranges_behind
  leaf_left i m r p e l =
      let a : m - 1 ≡ suc zero = omega arith in
      subst (λ z. RangesKept (suc i) (subtree_end t i) r (ranges_behind t t' x plan z (suc i) r)) (sym a)
      (subst (RangesKept (suc i) (subtree_end t i) r) (sym (plain_settles p (suc i) r e)) (kept_none (suc i) (subtree_end t i) r))

  -- fields one behind the other
  fields_kept : {f f' : ℕ → Ty} (i : ℕ) (ids : List ℕ) (d : (c : ℕ) → Declared ids c → Widths (f c) (f' c)) (law : (c : ℕ) (m : Declared ids c) → KeptLaw (d c m))
      (e : ℕ) {cs : List ℕ} {k : ℕ} (m : ℕ) → ((c : ℕ) → Memᴰ c cs → Memᴰ c ids) → LaidFields t t' plan i ids (λ c k. (m : Declared ids c) → Laid t t' plan (d c m) k) e cs k → m + k ≡ e → (rs : List ℕ)
      → RangesKept k e rs (ranges_behind t t' x plan m k rs)
  fields_kept i ids d law e m sub (no_field k q) h rs = subst (RangesKept k e rs) (sym (none_left i m k rs (omega (arith, q)))) (kept_none k e rs)
  fields_kept i ids d law e m sub (a_field c ds k l p n a b r f) h rs =
      let m1 = subtree_end t k - k in
      let m2 = e - subtree_end t k in
      let s : m1 + k ≡ subtree_end t k = omega (arith, a) in
      let y = declares c ids (sub c (Memᴰ.head refl)) in
      let one = law c y k m1 (l y) s rs in
      subst (RangesKept k e rs) (sym (behind_split t t' x plan m1 m2 m k rs (omega (arith, a, b))))
      (kept_then (kept_wide (omega arith) b one)
      (kept_wide (omega (arith, a)) (omega arith)
      (subst (λ z. RangesKept (subtree_end t k) e (ranges_behind t t' x plan m1 k rs) (ranges_behind t t' x plan m2 z (ranges_behind t t' x plan m1 k rs))) (sym s)
      (fields_kept i ids d law e m2 (λ c q. sub c (Memᴰ.tail q)) f (omega (arith, b)) (ranges_behind t t' x plan m1 k rs)))))

  settles : (i : ℕ) (k : NodeKind) (rs r : List ℕ) → kind_in t i ≡ k → settle_as t t' x plan k i (offset_of x i + from_in rs i) (many_in rs i) rs ≡ r → RangesKept i (subtree_end t i) rs r → RangesKept i (subtree_end t i) rs (settle t t' x plan i rs)
  settles i k rs r e q h = subst (RangesKept i (subtree_end t i) rs) (sym (settle_is t t' x plan i k rs e ∙ q)) h

  pub kept_law : (u u' : Ty) (d : Widths u u') → KeptLaw d
  kept_law u u' (s_plain p p' d) i m l h rs =
      let e : subtree_end t i ≡ suc i = l.1 in
      step_kept i m rs h (omega (arith, e)) (subst (RangesKept i (subtree_end t i) rs) (sym (plain_settles p i rs l.0.here)) (kept_none i (subtree_end t i) rs))
      (λ r. subst (RangesKept (suc i) (subtree_end t i) r) (sym (none_left i (m - 1) (suc i) r (omega (arith, e)))) (kept_none (suc i) (subtree_end t i) r))
  kept_law u u' s_view i m l h rs =
      let e : subtree_end t i ≡ suc i = l.1 in
      step_kept i m rs h (omega (arith, e)) (settles i view_node rs rs l.0.here refl (kept_none i (subtree_end t i) rs))
      (λ r. subst (RangesKept (suc i) (subtree_end t i) r) (sym (none_left i (m - 1) (suc i) r (omega (arith, e)))) (kept_none (suc i) (subtree_end t i) r))
  kept_law u u' (s_list_view w w' v v' d) i m l h rs =
      let e : subtree_end t i ≡ subtree_end t (suc i) = l.1 in
      let p = laid_up v v' d (suc i) l.2 in
      step_kept i m rs h (omega (arith, e, p)) (settles i (list_view_node w) rs _ l.0.here refl (kept_range i (subtree_end t i) (suc i) 0 (length_of x (suc i)) rs (omega arith) (omega (arith, e, p))))
      (λ r. subst (λ z. RangesKept (suc i) z r (ranges_behind t t' x plan (m - 1) (suc i) r)) (sym e) (kept_law v v' d (suc i) (m - 1) l.2 (omega (arith, e, p)) r))
  kept_law u u' (s_list w w' v v' d) i m l h rs =
      let e : subtree_end t i ≡ subtree_end t (suc i) = l.1 in
      let p = laid_up v v' d (suc i) l.2 in
      step_kept i m rs h (omega (arith, e, p)) (settles i (list_node w) rs _ l.0.here refl
      (kept_range i (subtree_end t i) (suc i) (item w (first_buffer x i) (offset_of x i + from_in rs i)) (span_of w (first_buffer x i) (offset_of x i + from_in rs i) (many_in rs i)) rs (omega arith) (omega (arith, e, p))))
      (λ r. subst (λ z. RangesKept (suc i) z r (ranges_behind t t' x plan (m - 1) (suc i) r)) (sym e) (kept_law v v' d (suc i) (m - 1) l.2 (omega (arith, e, p)) r))
  kept_law u u' (s_sparse ids nullable nullable' f f' q d) i m l h rs =
      step_kept i m rs h l.1 (settles i (sparse_node ids) rs _ l.0.here refl
      (kept_wide (omega arith) (omega arith) (children_kept t t' x plan (λ k. offset_of x i + from_in rs i) (λ k. many_in rs i) i _ ids (laid_spans l.2) (length ids) (omega arith) rs)))
      (λ r. fields_kept i ids d (λ c y. kept_law (f c) (f' c) (d c y)) (subtree_end t i) (m - 1) (λ c z. z) l.2 (omega (arith, l.1)) r)
  kept_law u u' (s_dense ids nullable nullable' f f' q d) i m l h rs =
      step_kept i m rs h l.1 (settles i (dense_node ids) rs _ l.0.here refl
      (kept_wide (omega arith) (omega arith) (children_kept t t' x plan (λ k. 0) (length_of x) i _ ids (laid_spans l.2) (length ids) (omega arith) rs)))
      (λ r. fields_kept i ids d (λ c y. kept_law (f c) (f' c) (d c y)) (subtree_end t i) (m - 1) (λ c z. z) l.2 (omega (arith, l.1)) r)
  kept_law u u' (s_run_end w w' v v' d) i m l h rs =
      let e : subtree_end t i ≡ subtree_end t (suc (suc i)) = l.2 in
      let p = laid_up v v' d (suc (suc i)) l.3 in
      step_kept i m rs h (omega (arith, e, p)) (settles i (run_end_node w) rs _ l.0.here refl
      (kept_range i (subtree_end t i) (suc (suc i)) (first_of w (runs_at t t' x plan i) (offset_of x i + from_in rs i) (many_in rs i)) (many_of w (runs_at t t' x plan i) (offset_of x i + from_in rs i) (many_in rs i)) rs (omega arith) (omega (arith, e, p))))
      (λ r. two_step i m r l.1.0 l.1.1 (omega (arith, e, p)) (λ r. subst (λ z. RangesKept (suc (suc i)) z r (ranges_behind t t' x plan (m - 2) (suc (suc i)) r)) (sym e) (kept_law v v' d (suc (suc i)) (m - 2) l.3 (omega (arith, e, p)) r)))
  kept_law u u' (s_dictionary k k' p p' z z' d) i m l h rs =
      let e : subtree_end t i ≡ suc (suc i) = l.2 in
      step_kept i m rs h (omega (arith, e)) (settles i (dictionary_node k) rs _ l.0.here refl (kept_range i (subtree_end t i) (suc i) 0 (length_of x (suc i)) rs (omega arith) (omega (arith, e))))
      (λ r. leaf_left i m r p l.1.here (omega (arith, e)))
