-- Less held: it stays less after the same copy, and a copy of few rows makes little more. Assumes nothing.
use mathlib.Core.Path.{◌≡◌, refl, sym, ap, ◌∙◌, subst}
use mathlib.Core.Bool.{Bool, true, false, cond}
use mathlib.Core.List.{List, Memᴰ}
use Prim.Native.Nat.{ℕ, zero, suc, ◌+◌, ◌-◌, ◌≤◌, ◌<◌, min}
use native.Mathlib.Nat.{add-zero}
use native.Mathlib.Omega.{arith}
use lib.ListN.{get_or}
use lib.Dec.{eqb, ltb}
use borrow.Author.Tests.{eqb-true, lt-ltb}
use Rattle.columnar.specs.Types.{Plain, fixed, string, half, Ty, t_plain, t_view, t_list_view, t_list, t_sparse, t_dense, t_run_end, t_dictionary}
use Rattle.columnar.specs.Array.{Array, item}
use Rattle.columnar.specs.Plain.{PlainBody}
use Rattle.columnar.specs.ListView.{ListView}
use Rattle.columnar.specs.List.{Listed}
use Rattle.columnar.specs.Union.{Sparse, Dense}
use Rattle.columnar.specs.RunEnd.{RunEnd}
use Rattle.columnar.specs.Reading.{Body}
use Rattle.model.specs.Try.{Try, done, stop, then, guard, after, steps_t}
use Rattle.model.specs.Grounds.{Counts, counts, absent, rows_of, bytes_of, kid_of, leaf, Ask, ask_of, plain_ask, list_view_row, list_ask, among, sparse_all, with_kid, dense_row, first_run, run_count, run_end_ask, ask_copy}
use Rattle.model.specs.Cut.{Under, outside, in_runs, exempt, under_runs, under_list, OneRunMore, CutNode, CutPlain, CutBelow, Cut}
use Rattle.model.proofs.Ids.{among_in}
use Rattle.model.proofs.CutTries.{done_is, Then, then_done, then_is, guard_is, IsDone, each_is}
use Rattle.model.proofs.CutKinds.{TextAsked, text_asked, ListAsked, list_asked, list_ask_lem, ListsAsked, lists_asked, lists_ask, SparseAsked, sparse_asked, DenseAsked, dense_asked, dense_ask_lem, RunsAsked, runs_asked, runs_ask, rows_after}

-- ---- as much

one_same : (u : Under) (n : ℕ) → OneRunMore u n n
one_same outside n = omega arith
one_same in_runs n = omega arith
one_same exempt n = tt

node_same : (R : Counts → Counts → Type 0) (x : Counts) → R x x → CutNode R x x
node_same R x r = record { rows_less = omega arith; below_less = r }

plain_same : (p : Plain) (x : Counts) → CutPlain p x x
plain_same (fixed k) x = tt
plain_same (string w) x = omega arith

same_below_lem : (t : Ty) (u : Under) (x : Counts) → CutBelow t u x x
same_below_lem (t_plain p) u x = plain_same p x
same_below_lem t_view u x = tt
same_below_lem (t_list_view w t) u x = node_same (CutBelow t (under_list u)) (kid_of x 0) (same_below_lem t (under_list u) (kid_of x 0))
same_below_lem (t_list w t) u x = node_same (CutBelow t (under_list u)) (kid_of x 0) (same_below_lem t (under_list u) (kid_of x 0))
same_below_lem (t_sparse ids nullable f) u x = λ e m. node_same (CutBelow (f e) u) (kid_of x e) (same_below_lem (f e) u (kid_of x e))
same_below_lem (t_dense ids nullable f) u x = λ e. node_same (CutBelow (f e) u) (kid_of x e) (same_below_lem (f e) u (kid_of x e))
same_below_lem (t_run_end w t) u x = (one_same u (rows_of (kid_of x 0)), node_same (CutBelow t (under_runs u)) (kid_of x 0) (same_below_lem t (under_runs u) (kid_of x 0)))
same_below_lem (t_dictionary k p) u x = tt

pub cut_same : (t : Ty) (u : Under) (x : Counts) → Cut t u x x
cut_same t u x = node_same (CutBelow t u) x (same_below_lem t u x)

-- ---- less and less: where no run is counted

node_less : (R : Counts → Counts → Type 0) (x y z : Counts) → (R x y → R y z → R x z) → CutNode R x y → CutNode R y z → CutNode R x z
node_less R x y z k p q =
    record { rows_less = omega (arith, p.rows_less, q.rows_less); below_less = k p.below_less q.below_less }

plain_less : (p : Plain) (x y z : Counts) → CutPlain p x y → CutPlain p y z → CutPlain p x z
plain_less (fixed k) x y z a b = tt
plain_less (string w) x y z a b = omega arith

less_below : (t : Ty) (x y z : Counts) → CutBelow t exempt x y → CutBelow t exempt y z → CutBelow t exempt x z
less_below (t_plain p) x y z a b = plain_less p x y z a b
less_below t_view x y z a b = tt
less_below (t_list_view w t) x y z a b = node_less (CutBelow t exempt) _ _ _ (less_below t (kid_of x 0) (kid_of y 0) (kid_of z 0)) a b
less_below (t_list w t) x y z a b = node_less (CutBelow t exempt) _ _ _ (less_below t (kid_of x 0) (kid_of y 0) (kid_of z 0)) a b
less_below (t_sparse ids nullable f) x y z a b = λ e m. node_less (CutBelow (f e) exempt) _ _ _ (less_below (f e) (kid_of x e) (kid_of y e) (kid_of z e)) (a e m) (b e m)
less_below (t_dense ids nullable f) x y z a b = λ e. node_less (CutBelow (f e) exempt) _ _ _ (less_below (f e) (kid_of x e) (kid_of y e) (kid_of z e)) (a e) (b e)
less_below (t_run_end w t) x y z a b = (tt, node_less (CutBelow t exempt) _ _ _ (less_below t (kid_of x 0) (kid_of y 0) (kid_of z 0)) a.1 b.1)
less_below (t_dictionary k p) x y z a b = tt

cut_less : (t : Ty) (x y z : Counts) → Cut t exempt x y → Cut t exempt y z → Cut t exempt x z
cut_less t x y z = node_less (CutBelow t exempt) x y z (less_below t x y z)

-- ---- children of unions

pub among_cut : (t : ℕ → Ty) (u : Under) (ids : List ℕ) (f g : ℕ → Counts) → ((e : ℕ) → Memᴰ e ids → Cut (t e) u (f e) (g e))
    → (e : ℕ) → Memᴰ e ids → Cut (t e) u (among ids f e) (among ids g e)
among_cut t u ids f g k e m = rw (among_in f m, among_in g m) (k e m)

pub with_cut : (t : ℕ → Ty) (u : Under) (c : ℕ) (x y : Counts) (j k : Counts) → ((e : ℕ) → Cut (t e) u (kid_of x e) (kid_of y e)) → Cut (t c) u j k
    → (e : ℕ) → Cut (t e) u (with_kid x c j e) (with_kid y c k e)
with_cut t u c x y j k h q e = go (eqb e c) refl
  where
    go : (b : Bool) → eqb e c ≡ b → Cut (t e) u (cond b j (kid_of x e)) (cond b k (kid_of y e))
    go true z = subst (λ v. Cut (t v) u j k) (sym (eqb-true e c z)) q
    go false z = h e

-- ---- THE SAME COPY: what is done from more is done from less, and is less

pub record Led {A : Type 0} (P : A → Type 0) (s : Try A) : Type 0 where
  pub value : A
  pub is : s ≡ done value
  pub holds : P value

abbrev Leads : (Counts → Counts → Type 0) → (Counts → Try Counts) → Type 0
Leads R f = (x y z : Counts) → R x y → f y ≡ done z → Led (λ v. R v z) (f x)

steps_again : (R : Counts → Counts → Type 0) (f : ℕ → Counts → Try Counts) → ((i : ℕ) → Leads R (f i)) → (a n : ℕ) → Leads R (steps_t f a n)
steps_again R f one a zero x y z r h = record { value = x; is = refl; holds = subst (R x) (done_is h) r }
steps_again R f one a (suc n) x y z r h =
    let p = then_done (f a y) (steps_t f (suc a) n) z h in
    let q = one a x y p.first r p.first_done in
    let s = steps_again R f one (suc a) n q.value p.first z q.holds p.rest_done in
    record { value = s.value; is = then_is (f a x) (steps_t f (suc a) n) q.value q.is ∙ s.is; holds = s.holds }

more_again : (u : Under) (t : Ty) (n : ℕ) → ((x y : Counts) → CutBelow t u x y) → Leads (Cut t u) (λ c. done (counts (rows_of c + n) 0 leaf))
more_again u t n k x y z r h =
    record {
      value = counts (rows_of x + n) 0 leaf;
      is = refl;
      holds = subst (Cut t u (counts (rows_of x + n) 0 leaf)) (done_is h) (record { rows_less = omega (arith, r.rows_less); below_less = k _ _ });
    }

lt_if : (a b l : ℕ) → a ≤ b → b < l → ltb a l ≡ true
lt_if a b l h k = lt-ltb a l (omega arith)

pub after_is : (t : Try Counts) (v : Counts) → t ≡ done v → t ≡ done (after t absent)
after_is t v e = e ∙ ap (λ s. done (after s absent)) (sym e)

plain_again : (u : Under) (p : Plain) (b : PlainBody p) (a n : ℕ) → Leads (Cut (t_plain p) u) (plain_ask p b a n)
plain_again u (fixed k) b a n x y z r h = more_again u (t_plain (fixed k)) n (λ x y. tt) x y z r h
plain_again u (string w) b a n x y z r h =
    let s = item w b.offsets (a + n) - item w b.offsets a in
    let p = text_asked w y n s z h in
    record {
      value = counts (rows_of x + n) (bytes_of x + s) leaf;
      is = guard_is _ 6 _ (lt_if (bytes_of x + s) (bytes_of y + s) (half w) (omega (arith, r.below_less)) p.fits);
      holds = subst (Cut (t_plain (string w)) u _) (sym p.is) (record { rows_less = omega (arith, r.rows_less); below_less = omega (arith, r.below_less) });
    }

list_again : (u : Under) (w : ℕ) (t : Ty) (b : ListView (Body t)) → ((a n : ℕ) → Leads (Cut t (under_list u)) (ask_copy t b.child.body a n))
    → (i : ℕ) → Leads (Cut (t_list_view w t) u) (list_view_row w (ask_copy t) b i)
list_again u w t b k i x y z r h =
    let p = list_asked w (ask_copy t) b i y z h in
    let q = k _ _ (kid_of x 0) (kid_of y 0) p.kid r.below_less p.kid_done in
    record {
      value = counts (suc (rows_of x)) 0 (λ e. q.value);
      is = list_ask_lem w (ask_copy t) b i x q.value (omega (arith, p.fits, r.below_less.rows_less)) q.is;
      holds = subst (Cut (t_list_view w t) u _) (sym p.is) (record { rows_less = omega (arith, r.rows_less); below_less = q.holds });
    }

lists_again : (u : Under) (w : ℕ) (t : Ty) (b : Listed (Body t)) → ((a n : ℕ) → Leads (Cut t (under_list u)) (ask_copy t b.child.body a n))
    → (a n : ℕ) → Leads (Cut (t_list w t) u) (list_ask w (ask_copy t) b a n)
lists_again u w t b k a zero x y z r h = record { value = x; is = refl; holds = subst (Cut (t_list w t) u x) (done_is h) r }
lists_again u w t b k a (suc n) x y z r h =
    let p = lists_asked w (ask_copy t) b a y (suc n) (omega arith) z h in
    let q = k _ _ (kid_of x 0) (kid_of y 0) p.kid r.below_less p.kid_done in
    record {
      value = counts (rows_of x + suc n) 0 (λ e. q.value);
      is = lists_ask w (ask_copy t) b a x (suc n) (omega arith) q.value (omega (arith, p.fits, r.below_less.rows_less)) q.is;
      holds = subst (Cut (t_list w t) u _) (sym p.is) (record { rows_less = omega (arith, r.rows_less); below_less = q.holds });
    }

sparse_again : (u : Under) (ids : List ℕ) (nullable : ℕ → Bool) (f : ℕ → Ty) (b : Sparse (λ e. Body (f e)))
    → ((e a n : ℕ) → Leads (Cut (f e) u) (ask_copy (f e) (b.children e).body a n)) → (a n : ℕ) → Leads (Cut (t_sparse ids nullable f) u) (ask_copy (t_sparse ids nullable f) b a n)
sparse_again u ids nullable f b k a n x y z r h =
    let p = sparse_asked ids (λ e. ask_of (ask_copy (f e)) (b.children e) a n (kid_of y e)) (rows_of y + n) z h in
    let go : (e : ℕ) → Memᴰ e ids → Led (λ v. Cut (f e) u v (after (ask_of (ask_copy (f e)) (b.children e) a n (kid_of y e)) absent)) (ask_of (ask_copy (f e)) (b.children e) a n (kid_of x e)) =
    λ e m. k e ((b.children e).off + a) n (kid_of x e) (kid_of y e) _ (r.below_less e m) (after_is _ (p.all_done e m).value (p.all_done e m).is) in
    record {
      value = counts (rows_of x + n) 0 (among ids (λ e. after (ask_of (ask_copy (f e)) (b.children e) a n (kid_of x e)) absent));
      is = each_is _ ids _ (λ e m. record { value = (go e m).value; is = (go e m).is });
      holds =
          subst (Cut (t_sparse ids nullable f) u _) (sym p.is)
          (record {
            rows_less = omega (arith, r.rows_less);
            below_less =
                among_cut f u ids _ _
                (λ e m. subst (λ v. Cut (f e) u (after v absent) (after (ask_of (ask_copy (f e)) (b.children e) a n (kid_of y e)) absent)) (sym (go e m).is) (go e m).holds);
          });
    }

dense_again : (u : Under) (ids : List ℕ) (nullable : ℕ → Bool) (f : ℕ → Ty) (b : Dense (λ e. Body (f e)))
    → ((e a n : ℕ) → Leads (Cut (f e) u) (ask_copy (f e) (b.children e).body a n)) → (i : ℕ) → Leads (Cut (t_dense ids nullable f) u) (dense_row (λ e. ask_copy (f e)) b i)
dense_again u ids nullable f b k i x y z r h =
    let c = get_or b.ids i 0 in
    let p = dense_asked (λ e. ask_copy (f e)) b i y z h in
    let q = k c _ 1 (kid_of x c) (kid_of y c) p.kid (r.below_less c) p.kid_done in
    record {
      value = counts (suc (rows_of x)) 0 (with_kid x c q.value);
      is = dense_ask_lem (λ e. ask_copy (f e)) b i x q.value (omega (arith, p.fits, (r.below_less c).rows_less)) q.is;
      holds =
          subst (Cut (t_dense ids nullable f) u _) (sym p.is)
          (record { rows_less = omega (arith, r.rows_less); below_less = with_cut f u c x y q.value p.kid r.below_less q.holds });
    }

one_again : (u : Under) (x y n x' y' : ℕ) → OneRunMore u x y → x' ≡ x + n → y' ≡ y + n → OneRunMore u x' y'
one_again outside x y n x' y' h e f = omega arith
one_again in_runs x y n x' y' h e f = omega arith
one_again exempt x y n x' y' h e f = tt

runs_again : (u : Under) (w : ℕ) (t : Ty) (b : RunEnd (Body t)) → ((a n : ℕ) → Leads (Cut t (under_runs u)) (ask_copy t b.values.body a n))
    → (a n : ℕ) → Leads (Cut (t_run_end w t) u) (run_end_ask w (ask_copy t) b a n)
runs_again u w t b k a zero x y z r h = record { value = x; is = refl; holds = subst (Cut (t_run_end w t) u x) (done_is h) r }
runs_again u w t b k a (suc n) x y z r h =
    let p = runs_asked w (ask_copy t) b a y (suc n) (omega arith) z h in
    let q = k _ (run_count w b a (suc n)) (kid_of x 0) (kid_of y 0) p.kid r.below_less.1 p.kid_done in
    record {
      value = counts (rows_of x + suc n) (min (bytes_of x) 1) (λ e. q.value);
      is = runs_ask w (ask_copy t) b a x (suc n) (omega arith) q.value (omega (arith, p.fits, r.rows_less)) q.is;
      holds =
          subst (Cut (t_run_end w t) u _) (sym p.is)
          (record {
            rows_less = omega (arith, r.rows_less);
            below_less = (
              one_again u _ _ (run_count w b a (suc n)) _ _ r.below_less.0 (rows_after t b.values.body _ _ (kid_of x 0) q.value q.is) (rows_after t b.values.body _ _ (kid_of y 0) p.kid p.kid_done),
              q.holds,
            );
          });
    }

pub copy_again : (u : Under) (t : Ty) (b : Body t) (a n : ℕ) → Leads (Cut t u) (ask_copy t b a n)
copy_again u (t_plain p) b a n = plain_again u p b a n
copy_again u t_view b a n = more_again u t_view n (λ x y. tt)
copy_again u (t_list_view w t) b a n = steps_again (Cut (t_list_view w t) u) (list_view_row w (ask_copy t) b) (list_again u w t b (copy_again (under_list u) t b.child.body)) a n
copy_again u (t_list w t) b a n = lists_again u w t b (copy_again (under_list u) t b.child.body) a n
copy_again u (t_sparse ids nullable f) b a n = sparse_again u ids nullable f b (λ e. copy_again u (f e) (b.children e).body) a n
copy_again u (t_dense ids nullable f) b a n =
    steps_again (Cut (t_dense ids nullable f) u) (dense_row (λ e. ask_copy (f e)) b) (dense_again u ids nullable f b (λ e. copy_again u (f e) (b.children e).body)) a n
copy_again u (t_run_end w t) b a n = runs_again u w t b (copy_again (under_runs u) t b.values.body) a n
copy_again u (t_dictionary k p) b a n = more_again u (t_dictionary k p) n (λ x y. tt)

-- ---- A COPY OF FEW ROWS: none where no run-end node is above, at most one below one, any number where runs are not counted

abbrev pub Few : Under → ℕ → Type 0
Few outside n = n ≡ 0
Few in_runs n = n ≤ 1
Few exempt n = Unit {0}

few_list : (u : Under) (m n : ℕ) → Few u (suc m) → Few (under_list u) n
few_list outside m n h = absurd (omega arith)
few_list in_runs m n h = tt
few_list exempt m n h = tt

-- no row is few
pub few_none : (u : Under) → Few u 0
few_none outside = refl
few_none in_runs = omega arith
few_none exempt = tt

steps_more : (R : Counts → Counts → Type 0) (u : Under) (f : ℕ → Counts → Try Counts) → ((x : Counts) → R x x) → (u ≡ exempt → (x y z : Counts) → R x y → R y z → R x z)
    → (Few u 1 → (i : ℕ) (x y : Counts) → f i x ≡ done y → R x y) → (a n : ℕ) → Few u n → (x y : Counts) → steps_t f a n x ≡ done y → R x y
steps_more R u f same less one a zero h x y e = subst (R x) (done_is e) (same x)
steps_more R outside f same less one a (suc n) h x y e = absurd (omega arith)
steps_more R in_runs f same less one a (suc zero) h x y e =
    let p = then_done (f a x) (steps_t f (suc a) 0) y e in
    one h a x y (p.first_done ∙ p.rest_done)
steps_more R in_runs f same less one a (suc (suc n)) h x y e = absurd (omega arith)
steps_more R exempt f same less one a (suc n) h x y e =
    let p = then_done (f a x) (steps_t f (suc a) n) y e in
    less refl x p.first y (one tt a x p.first p.first_done) (steps_more R exempt f same less one (suc a) n tt p.first y p.rest_done)

few_rows : (t : Ty) (u : Under) (n : ℕ) → ((x y : Counts) → CutBelow t u x y) → (x y : Counts) → done (counts (rows_of x + n) 0 leaf) ≡ done y → Cut t u x y
few_rows t u n k x y e = subst (Cut t u x) (done_is e) (record { rows_less = omega arith; below_less = k _ _ })

plain_more : (u : Under) (p : Plain) (b : PlainBody p) (a n : ℕ) (x y : Counts) → plain_ask p b a n x ≡ done y → Cut (t_plain p) u x y
plain_more u (fixed k) b a n x y e = few_rows (t_plain (fixed k)) u n (λ x y. tt) x y e
plain_more u (string w) b a n x y e =
    let p = text_asked w x n _ y e in
    subst (Cut (t_plain (string w)) u x) (sym p.is) (record { rows_less = omega arith; below_less = omega arith })

-- what a copy of n rows makes is more
abbrev Mores : Ty → Under → (Counts → Try Counts) → Type 0
Mores t u f = (x y : Counts) → f x ≡ done y → Cut t u x y

list_more : (u : Under) (w : ℕ) (t : Ty) (b : ListView (Body t)) → ((a n : ℕ) → Few (under_list u) n → Mores t (under_list u) (ask_copy t b.child.body a n))
    → Few u 1 → (i : ℕ) → Mores (t_list_view w t) u (list_view_row w (ask_copy t) b i)
list_more u w t b k h i x y e =
    let p = list_asked w (ask_copy t) b i x y e in
    subst (Cut (t_list_view w t) u x) (sym p.is) (record { rows_less = omega arith; below_less = k _ _ (few_list u 0 _ h) (kid_of x 0) p.kid p.kid_done })

lists_more : (u : Under) (w : ℕ) (t : Ty) (b : Listed (Body t)) → ((a n : ℕ) → Few (under_list u) n → Mores t (under_list u) (ask_copy t b.child.body a n))
    → (a n : ℕ) → Few u n → Mores (t_list w t) u (list_ask w (ask_copy t) b a n)
lists_more u w t b k a zero h x y e = subst (Cut (t_list w t) u x) (done_is e) (cut_same (t_list w t) u x)
lists_more u w t b k a (suc n) h x y e =
    let p = lists_asked w (ask_copy t) b a x (suc n) (omega arith) y e in
    subst (Cut (t_list w t) u x) (sym p.is) (record { rows_less = omega arith; below_less = k _ _ (few_list u n _ h) (kid_of x 0) p.kid p.kid_done })

sparse_more : (u : Under) (ids : List ℕ) (nullable : ℕ → Bool) (f : ℕ → Ty) (b : Sparse (λ e. Body (f e)))
    → ((e a n : ℕ) → Few u n → Mores (f e) u (ask_copy (f e) (b.children e).body a n)) → (a n : ℕ) → Few u n → Mores (t_sparse ids nullable f) u (ask_copy (t_sparse ids nullable f) b a n)
sparse_more u ids nullable f b k a n h x y e =
    let g : ℕ → Try Counts = λ e. ask_of (ask_copy (f e)) (b.children e) a n (kid_of x e) in
    let p = sparse_asked ids g (rows_of x + n) y e in
    subst (Cut (t_sparse ids nullable f) u x) (sym p.is)
    (record {
      rows_less = omega arith;
      below_less = λ e m. rw (among_in (λ e. after (g e) absent) m) (k e _ n h (kid_of x e) (after (g e) absent) (after_is (g e) (p.all_done e m).value (p.all_done e m).is));
    })

with_more : (t : ℕ → Ty) (u : Under) (c : ℕ) (x k : Counts) → Cut (t c) u (kid_of x c) k → (e : ℕ) → Cut (t e) u (kid_of x e) (with_kid x c k e)
with_more t u c x k q e = go (eqb e c) refl
  where
    go : (b : Bool) → eqb e c ≡ b → Cut (t e) u (kid_of x e) (cond b k (kid_of x e))
    go true z = subst (λ v. Cut (t v) u (kid_of x v) k) (sym (eqb-true e c z)) q
    go false z = cut_same (t e) u (kid_of x e)

dense_more : (u : Under) (ids : List ℕ) (nullable : ℕ → Bool) (f : ℕ → Ty) (b : Dense (λ e. Body (f e)))
    → ((e a n : ℕ) → Few u n → Mores (f e) u (ask_copy (f e) (b.children e).body a n)) → Few u 1 → (i : ℕ) → Mores (t_dense ids nullable f) u (dense_row (λ e. ask_copy (f e)) b i)
dense_more u ids nullable f b k h i x y e =
    let c = get_or b.ids i 0 in
    let p = dense_asked (λ e. ask_copy (f e)) b i x y e in
    subst (Cut (t_dense ids nullable f) u x) (sym p.is)
    (record { rows_less = omega arith; below_less = with_more f u c x p.kid (k c _ 1 h (kid_of x c) p.kid p.kid_done) })

-- at most one row touches at most one run
one_run : {P : Type 0} (w : ℕ) (b : RunEnd P) (a n : ℕ) → suc n ≤ 1 → run_count w b a (suc n) ≤ 1
one_run w b a zero h = let z : a + 1 - 1 ≡ a = omega arith in rw z (omega arith)
one_run w b a (suc n) h = absurd (omega arith)

few_one : {P : Type 0} (u : Under) (w : ℕ) (b : RunEnd P) (a n : ℕ) → Few u (suc n) → Few (under_runs u) (run_count w b a (suc n))
few_one outside w b a n h = absurd (omega arith)
few_one in_runs w b a n h = one_run w b a n h
few_one exempt w b a n h = tt

one_more : {P : Type 0} (u : Under) (w : ℕ) (b : RunEnd P) (a n : ℕ) → Few u (suc n) → (x y : ℕ) → y ≡ x + run_count w b a (suc n) → OneRunMore u x y
one_more outside w b a n h x y e = absurd (omega arith)
one_more in_runs w b a n h x y e = omega (arith, one_run w b a n h)
one_more exempt w b a n h x y e = tt

runs_more : (u : Under) (w : ℕ) (t : Ty) (b : RunEnd (Body t)) → ((a n : ℕ) → Few (under_runs u) n → Mores t (under_runs u) (ask_copy t b.values.body a n))
    → (a n : ℕ) → Few u n → Mores (t_run_end w t) u (run_end_ask w (ask_copy t) b a n)
runs_more u w t b k a zero h x y e = subst (Cut (t_run_end w t) u x) (done_is e) (cut_same (t_run_end w t) u x)
runs_more u w t b k a (suc n) h x y e =
    let p = runs_asked w (ask_copy t) b a x (suc n) (omega arith) y e in
    subst (Cut (t_run_end w t) u x) (sym p.is)
    (record {
      rows_less = omega arith;
      below_less = (
        one_more u w b a n h _ _ (rows_after t b.values.body _ _ (kid_of x 0) p.kid p.kid_done),
        k _ (run_count w b a (suc n)) (few_one u w b a n h) (kid_of x 0) p.kid p.kid_done,
      );
    })

less_if : (t : Ty) (u : Under) → u ≡ exempt → (x y z : Counts) → Cut t u x y → Cut t u y z → Cut t u x z
less_if t u e = subst (λ u. (x y z : Counts) → Cut t u x y → Cut t u y z → Cut t u x z) (sym e) (cut_less t)

pub copy_more : (u : Under) (t : Ty) (b : Body t) (a n : ℕ) → Few u n → Mores t u (ask_copy t b a n)
copy_more u (t_plain p) b a n h = plain_more u p b a n
copy_more u t_view b a n h = few_rows t_view u n (λ x y. tt)
copy_more u (t_list_view w t) b a n h =
    steps_more (Cut (t_list_view w t) u) u (list_view_row w (ask_copy t) b) (cut_same (t_list_view w t) u) (less_if (t_list_view w t) u)
    (list_more u w t b (copy_more (under_list u) t b.child.body)) a n h
copy_more u (t_list w t) b a n h = lists_more u w t b (copy_more (under_list u) t b.child.body) a n h
copy_more u (t_sparse ids nullable f) b a n h = sparse_more u ids nullable f b (λ e. copy_more u (f e) (b.children e).body) a n h
copy_more u (t_dense ids nullable f) b a n h =
    steps_more (Cut (t_dense ids nullable f) u) u (dense_row (λ e. ask_copy (f e)) b) (cut_same (t_dense ids nullable f) u) (less_if (t_dense ids nullable f) u)
    (dense_more u ids nullable f b (λ e. copy_more u (f e) (b.children e).body)) a n h
copy_more u (t_run_end w t) b a n h = runs_more u w t b (copy_more (under_runs u) t b.values.body) a n h
copy_more u (t_dictionary k p) b a n h = few_rows (t_dictionary k p) u n (λ x y. tt)
