-- The finished columns of an order and of its halves: the same bytes where no run-end node is, else few runs more. Assumes nothing.
use mathlib.Core.Path.{◌≡◌, refl, sym, ap, ap₂, ◌∙◌, subst}
use mathlib.Core.Bool.{Bool, true, false, ◌&&◌}
use mathlib.Core.List.{List, Memᴰ}
use Prim.Native.Nat.{ℕ, ◌+◌, ◌-◌, ◌≤◌, ◌<◌}
use native.Mathlib.Omega.{arith}
use lib.Dec.{ltb, leb}
use borrow.Author.Tests.{ltb-true, leb-true, lt-ltb, le-leb}
use Rattle.columnar.specs.Types.{Plain, Ty, t_plain, t_view, t_list_view, t_list, t_sparse, t_dense, t_run_end, t_dictionary}
use Rattle.columnar.specs.Array.{Array}
use Rattle.columnar.specs.Reading.{Body, Column, Source, masks}
use Rattle.model.specs.Try.{Try, done, stop, guard}
use Rattle.model.specs.Grounds.{Counts, rows_of, among}
use Rattle.model.specs.Book.{Call, copy}
use Rattle.model.specs.Mutable.{Mutable, validity}
use Rattle.model.specs.Transform.{Grown, Destination, extend, freeze_data, into_builder, try_extend}
use Rattle.model.specs.Orders.{perform}
use Rattle.model.specs.Held.{held_node, held_data, held}
use Rattle.model.specs.Cut.{Under, outside, under_runs, under_list, OneRunMore, CutNode, CutBelow, Cut, RunsCut, NoRuns, SameArray, SameBody, SameColumn}
use Rattle.model.proofs.Law.{FineNode}
use Rattle.model.proofs.Nodes.{FineOf, rows_held}
use Rattle.model.proofs.Book.{and_left, and_right}
use Rattle.model.proofs.Ids.{among_in}
use Rattle.model.proofs.Follow.{guard_done}
use Rattle.model.proofs.CutTries.{guard_is}
use Rattle.model.proofs.CutLess.{Led}
use Rattle.model.proofs.CutBytes.{SameNode, SameGrown, Seamless, node_seam, seams}

-- ---- the same destination is finished as the same column

no_runs : (t : Ty) → NoRuns t → Seamless t
no_runs (t_plain p) h = tt
no_runs t_view h = tt
no_runs (t_list_view w t) h = tt
no_runs (t_list w t) h = no_runs t h
no_runs (t_sparse ids nullable f) h = λ e m. no_runs (f e) (h e m)
no_runs (t_dense ids nullable f) h = tt
no_runs (t_run_end w t) h = h
no_runs (t_dictionary k p) h = tt

array_same : {B : Type 0} (R : B → B → Type 0) (x : Array B) → R x.body x.body → SameArray R x x
array_same R x r = record { len_same = refl; off_same = refl; valid_same = refl; body_same = r }

body_same : (t : Ty) (x : Body t) → SameBody t x x
body_same (t_plain p) x = refl
body_same t_view x = refl
body_same (t_list_view w t) x = (refl, refl, array_same (SameBody t) x.child (body_same t x.child.body))
body_same (t_list w t) x = (refl, array_same (SameBody t) x.child (body_same t x.child.body))
body_same (t_sparse ids nullable f) x = (refl, λ e m. array_same (SameBody (f e)) (x.children e) (body_same (f e) (x.children e).body))
body_same (t_dense ids nullable f) x = (refl, refl, λ e m. array_same (SameBody (f e)) (x.children e) (body_same (f e) (x.children e).body))
body_same (t_run_end w t) x = (refl, array_same (SameBody t) x.values (body_same t x.values.body))
body_same (t_dictionary k p) x = (refl, refl)

body_equal : (t : Ty) (x y : Body t) → x ≡ y → SameBody t x y
body_equal t x y e = subst (SameBody t x) e (body_same t x)

grown_same : (t : Ty) (m : ℕ) (ss : ℕ → Body t) (x y : Grown t) → SameGrown t x y → SameBody t (freeze_data t m ss x) (freeze_data t m ss y)
grown_same (t_plain p) m ss x y h = h
grown_same t_view m ss x y h = body_equal t_view _ _ (ap (freeze_data t_view m ss) h)
grown_same (t_list_view w t) m ss x y h = body_equal (t_list_view w t) _ _ (ap (freeze_data (t_list_view w t) m ss) h)
grown_same (t_list w t) m ss x y h = (
  h.0,
  record {
    len_same = h.1.len_same;
    off_same = refl;
    valid_same = ap (validity (masks t)) h.1.bits_same;
    body_same = grown_same t m (λ i. (ss i).child.body) x.child.«data» y.child.«data» h.1.data_same;
  },
)
grown_same (t_sparse ids nullable f) m ss x y h = (
  h.0,
  λ e v.
      record {
        len_same = (h.1 e v).len_same;
        off_same = refl;
        valid_same = ap (validity (masks (f e))) (h.1 e v).bits_same;
        body_same = grown_same (f e) m (λ i. ((ss i).children e).body) (x.children e).«data» (y.children e).«data» (h.1 e v).data_same;
      },
)
grown_same (t_dense ids nullable f) m ss x y h = body_equal (t_dense ids nullable f) _ _ (ap (freeze_data (t_dense ids nullable f) m ss) h)
grown_same (t_run_end w t) m ss x y h = body_equal (t_run_end w t) _ _ (ap (freeze_data (t_run_end w t) m ss) h)
grown_same (t_dictionary k p) m ss x y h = body_equal (t_dictionary k p) _ _ (ap (freeze_data (t_dictionary k p) m ss) h)

pub column_same : (t : Ty) (m : ℕ) (ss : ℕ → Column t) (x y : Destination t) → SameNode (SameGrown t) x y → SameColumn t (into_builder t m ss x) (into_builder t m ss y)
column_same t m ss x y h =
    record {
      len_same = h.len_same;
      off_same = refl;
      valid_same = ap (validity (masks t)) h.bits_same;
      body_same = grown_same t m (λ i. (ss i).body) x.«data» y.«data» h.data_same;
    }

-- ---- AN ORDER CUT IN TWO, where no run-end node is

both : (x y : Bool) → x ≡ true → y ≡ true → x && y ≡ true
both true y e f = f
both false y e f = e

-- two ranges one behind the other, and both as one
bounds : (a k e len : ℕ) → leb a k && leb k len ≡ true → leb k e && leb e len ≡ true
    → (k - a + (e - k) ≡ e - a) × (a + (k - a) ≡ k) × (a + (k - a + (e - k)) ≤ len) × (leb a e && leb e len ≡ true)
bounds a k e len p q =
    let ak : a ≤ k = leb-true a k (and_left (leb a k) (leb k len) p) in
    let ke : k ≤ e = leb-true k e (and_left (leb k e) (leb e len) q) in
    let el : e ≤ len = leb-true e len (and_right (leb k e) (leb e len) q) in
    (omega (arith, ak, ke), omega (arith, ak), omega (arith, ak, ke, el), both _ _ (le-leb a e (omega (arith, ak, ke))) (and_right (leb k e) (leb e len) q))

module _ (t : Ty) (m : ℕ) (ss : ℕ → Column t) where
  pub perform_cut : NoRuns t → ((j : ℕ) → j < m → Source t (ss j)) → (j a k e : ℕ) (d d₁ d₂ : Destination t)
      → FineNode (masks t) (FineOf t m (λ i. (ss i).body)) m ss d → FineNode (masks t) (FineOf t m (λ i. (ss i).body)) m ss d₁
      → perform t m ss (copy j a k) d ≡ done d₁ → perform t m ss (copy j k e) d₁ ≡ done d₂
      → Led (λ v. SameColumn t (into_builder t m ss v) (into_builder t m ss d₂)) (perform t m ss (copy j a e) d)
  perform_cut none good j a k e d d₁ d₂ f f₁ p q =
      let p₁ = guard_done (ltb j m) 1 _ d₁ p in
      let p₂ = guard_done (leb a k && leb k (ss j).len) 2 _ d₁ p₁.1 in
      let q₁ = guard_done (ltb j m) 1 _ d₂ q in
      let q₂ = guard_done (leb k e && leb e (ss j).len) 2 _ d₂ q₁.1 in
      let c = bounds a k e (ss j).len p₂.0 q₂.0 in
      let l =
      node_seam t m ss j (seams t (no_runs t none) m ss j (good j (ltb-true j m p₁.0))) a (k - a) (e - k) c.2 d d₁ d₂ f f₁ p₂.1
      (ap (λ i. extend t m ss j i (e - k) d₁) c.1 ∙ q₂.1) in
      record {
        value = l.value;
        is = guard_is (ltb j m) 1 _ p₁.0 ∙ guard_is (leb a e && leb e (ss j).len) 2 _ c.3 ∙ ap (λ n. extend t m ss j a n d) (sym c.0) ∙ l.is;
        holds = column_same t m ss l.value d₂ l.holds;
      }

-- ---- the runs of a destination, by what is held

cut_at : (t : Ty) (u : Under) (x x' y y' : Counts) → x ≡ x' → y ≡ y' → Cut t u x y → Cut t u x' y'
cut_at t u x x' y y' e f h = subst (λ z. Cut t u z y') e (subst (Cut t u x) f h)

runs_less : (t : Ty) (u : Under) (m : ℕ) (ss : ℕ → Body t) (x y : Grown t) (i j : ℕ) (b c : ℕ → Bool) → FineOf t m ss b x i → FineOf t m ss c y j
    → CutBelow t u (held_data t x i) (held_data t y j) → RunsCut t u (freeze_data t m ss x) (freeze_data t m ss y)
runs_less (t_plain p) u m ss x y i j b c f g h = tt
runs_less t_view u m ss x y i j b c f g h = tt
runs_less (t_list_view w t) u m ss x y i j b c f g h =
    runs_less t (under_list u) m (λ i. (ss i).child.body) x.child.«data» y.child.«data» _ _ _ _ f.child_fine.data_fine g.child_fine.data_fine h.below_less
runs_less (t_list w t) u m ss x y i j b c f g h =
    runs_less t (under_list u) m (λ i. (ss i).child.body) x.child.«data» y.child.«data» _ _ _ _ f.child_fine.data_fine g.child_fine.data_fine h.below_less
runs_less (t_sparse ids nullable k) u m ss x y i j b c f g h = λ e v.
    let z : Cut (k e) u (held_node (held_data (k e)) (x.children e)) (held_node (held_data (k e)) (y.children e)) =
    cut_at (k e) u _ _ _ _ (among_in (λ e. held_node (held_data (k e)) (x.children e)) v) (among_in (λ e. held_node (held_data (k e)) (y.children e)) v) (h e v) in
    runs_less (k e) u m (λ i. ((ss i).children e).body) (x.children e).«data» (y.children e).«data» _ _ _ _ (f.kids_fine e v).data_fine (g.kids_fine e v).data_fine z.below_less
runs_less (t_dense ids nullable k) u m ss x y i j b c f g h = λ e v.
    let z : Cut (k e) u (held_node (held_data (k e)) (x.children e)) (held_node (held_data (k e)) (y.children e)) =
    cut_at (k e) u _ _ _ _ (among_in (λ e. held_node (held_data (k e)) (x.children e)) v) (among_in (λ e. held_node (held_data (k e)) (y.children e)) v) (h e) in
    runs_less (k e) u m (λ i. ((ss i).children e).body) (x.children e).«data» (y.children e).«data» _ _ _ _ (f.kids_fine e v).data_fine (g.kids_fine e v).data_fine z.below_less
runs_less (t_run_end w t) u m ss x y i j b c f g h = (
  subst (λ n. OneRunMore u n y.ends.len) (rows_held t x.values.«data» x.values.len ∙ f.as_many)
      (subst (OneRunMore u _) (rows_held t y.values.«data» y.values.len ∙ g.as_many) h.0),
  runs_less t (under_runs u) m (λ i. (ss i).values.body) x.values.«data» y.values.«data» _ _ _ _ f.values_fine.data_fine g.values_fine.data_fine h.1.below_less,
)
runs_less (t_dictionary k p) u m ss x y i j b c f g h = tt

-- EACH RUN-END NODE HAS AT MOST ONE RUN MORE
pub runs_cut : (t : Ty) (u : Under) (m : ℕ) (ss : ℕ → Column t) (x y : Destination t) → FineNode (masks t) (FineOf t m (λ i. (ss i).body)) m ss x → FineNode (masks t) (FineOf t m (λ i. (ss i).body)) m ss y
    → Cut t u (held t x) (held t y) → RunsCut t u (into_builder t m ss x).body (into_builder t m ss y).body
runs_cut t u m ss x y f g h = runs_less t u m (λ i. (ss i).body) x.«data» y.«data» _ _ _ _ f.data_fine g.data_fine h.below_less
