-- A list-view is refused with 6 or 7 and no other ground. Assumes nothing.
use mathlib.Core.Path.{◌≡◌, refl, sym, ap, subst, ◌∙◌}
use mathlib.Core.Logic.{◌⊎◌, inl, inr}
use mathlib.Core.Bool.{Bool, true, false}
use mathlib.Core.List.{List, [], ◌∷◌}
use Prim.Native.Nat.{ℕ, zero, suc, ◌+◌, ◌-◌, min}
use native.Mathlib.Omega.{arith}
use lib.ListN.{get_or}
use lib.Dec.{ltb}
use Rattle.columnar.specs.Types.{half, Plain, fixed, string, Ty, t_plain, t_view, t_list_view, t_list, t_sparse, t_dense, t_run_end, t_dictionary}
use Rattle.columnar.specs.Formed.{Formed}
use Rattle.columnar.specs.Array.{item}
use Rattle.columnar.specs.Plain.{PlainBody}
use Rattle.columnar.specs.Reading.{Body, Column, Source}
use Rattle.model.specs.Try.{Try, done, stop, then, guard, map_try, steps_t}
use Rattle.model.specs.Grounds.{Counts, counts, rows_of, bytes_of, kid_of, ask_of, plain_ask, list_view_row, each, dense_row, with_kid, first_run, run_count, ask_copy, start_counts}
use Rattle.model.specs.Lists.{lists_freeze}
use Rattle.model.specs.Transform.{into_builder}
use Rattle.model.specs.Held.{held}
use Rattle.anew.specs.lists.Laid.{laid}
use Rattle.anew.specs.lists.Fresh.{FewBuffers}
use Rattle.anew.specs.lists.Listed.{kid, offset_at, size_at, valid_at, listings, listed, ask_if, asks}
use Rattle.anew.proofs.lists.Listed.{listed_grounds}

abbrev pub Ground : ℕ → Type 0
Ground g = (g ≡ 6) ⊎ (g ≡ 7)

abbrev Only : {A : Type 0} → Try A → Type 0
Only (done x) = Unit {0}
Only (stop g) = Ground g

only_guard : {A : Type 0} (b : Bool) (g : ℕ) (t : Try A) → Ground g → Only t → Only (guard b g t)
only_guard true g t h k = k
only_guard false g t h k = h

only_then : {A B : Type 0} (t : Try A) (f : A → Try B) → Only t → ((x : A) → Only (f x)) → Only (then t f)
only_then (done x) f h k = k x
only_then (stop g) f h k = h

only_steps : {A : Type 0} (f : ℕ → A → Try A) → ((i : ℕ) (x : A) → Only (f i x)) → (n a : ℕ) (x : A) → Only (steps_t f a n x)
only_steps f h zero a x = tt
only_steps f h (suc n) a x = only_then (f a x) (steps_t f (suc a) n) (h a x) (only_steps f h n (suc a))

only_each : (f : ℕ → Try Counts) → ((c : ℕ) → Only (f c)) → (cs : List ℕ) (t : Try Counts) → Only t → Only (each f cs t)
only_each f h [] t k = k
only_each f h (c ∷ cs) t k = only_then (f c) (λ x. each f cs t) (h c) (λ x. only_each f h cs t k)

plain_only : (p : Plain) (b : PlainBody p) (a n : ℕ) (c : Counts) → Only (plain_ask p b a n c)
plain_only (fixed k) b a n c = tt
plain_only (string w) b a n c = only_guard (ltb (bytes_of c + (item w b.offsets (a + n) - item w b.offsets a)) (half w)) 6 (done _) (inl refl) tt

-- A COPY IS REFUSED WITH 6 OR 7
pub copy_only : (t : Ty) (b : Body t) (a n : ℕ) (c : Counts) → Only (ask_copy t b a n c)
copy_only (t_plain p) b a n c = plain_only p b a n c
copy_only t_view b a n c = tt
copy_only (t_list_view w t) b a n c =
    only_steps (list_view_row w (ask_copy t) b)
    (λ i c.
    only_guard (ltb (rows_of (kid_of c 0) + item w b.sizes i) (half w)) 6
    (then (ask_of (ask_copy t) b.child (item w b.offsets i) (item w b.sizes i) (kid_of c 0)) (λ k. done (counts (suc (rows_of c)) 0 (λ e. k)))) (inl refl)
    (only_then (ask_of (ask_copy t) b.child (item w b.offsets i) (item w b.sizes i) (kid_of c 0)) (λ k. done (counts (suc (rows_of c)) 0 (λ e. k)))
    (copy_only t b.child.body _ (item w b.sizes i) (kid_of c 0)) (λ k. tt)))
    n a c
copy_only (t_list w t) b a zero c = tt
copy_only (t_list w t) b a (suc n) c =
    let y = item w b.offsets (a + suc n) - item w b.offsets a in
    let rest = then (ask_of (ask_copy t) b.child (item w b.offsets a) y (kid_of c 0)) (λ k. done (counts (rows_of c + suc n) 0 (λ e. k))) in
    only_guard (ltb (rows_of (kid_of c 0) + y) (half w)) 6 rest (inl refl)
    (only_then (ask_of (ask_copy t) b.child (item w b.offsets a) y (kid_of c 0)) (λ k. done (counts (rows_of c + suc n) 0 (λ e. k))) (copy_only t b.child.body _ y (kid_of c 0)) (λ k. tt))
copy_only (t_sparse ids nullable f) b a n c = only_each _ (λ e. copy_only (f e) (b.children e).body _ n (kid_of c e)) ids (done _) tt
copy_only (t_dense ids nullable f) b a n c =
    only_steps (dense_row (λ e. ask_copy (f e)) b)
    (λ i c.
    let e = get_or b.ids i 0 in
    let kid = ask_of (ask_copy (f e)) (b.children e) (item 4 b.positions i) 1 (kid_of c e) in
    only_guard (ltb (rows_of (kid_of c e)) (half 4)) 6 (then kid (λ k. done (counts (suc (rows_of c)) 0 (with_kid c e k)))) (inl refl)
    (only_then kid (λ k. done (counts (suc (rows_of c)) 0 (with_kid c e k))) (copy_only (f e) (b.children e).body _ 1 (kid_of c e)) (λ k. tt)))
    n a c
copy_only (t_run_end w t) b a zero c = tt
copy_only (t_run_end w t) b a (suc n) c =
    let kid = ask_of (ask_copy t) b.values (first_run w b a) (run_count w b a (suc n)) (kid_of c 0) in
    only_guard (ltb (rows_of c + suc n) (half w)) 7 (then kid (λ k. done (counts (rows_of c + suc n) (min (bytes_of c) 1) (λ e. k)))) (inr refl)
    (only_then kid (λ k. done (counts (rows_of c + suc n) (min (bytes_of c) 1) (λ e. k))) (copy_only t b.values.body _ (run_count w b a (suc n)) (kid_of c 0)) (λ k. tt))
copy_only (t_dictionary k p) b a n c = tt

then_stop : {A B : Type 0} (t : Try A) (f : A → B) (g : ℕ) → then t (λ x. done (f x)) ≡ stop g → t ≡ stop g
then_stop (done x) f g e = absurd (let z : ◌≡◌ {A = ℕ} 0 1 = cc in omega arith)
then_stop (stop h) f g e = let z : h ≡ g = cc in ap stop z

-- "WITH 6 OR 7"
pub listed_with : (w : ℕ) (t : Ty) (x : Column (t_list_view w t)) → Formed (t_list_view w t) → Source (t_list_view w t) x → FewBuffers (t_list_view w t) x → (g : ℕ) → listed w t x ≡ stop g → Ground g
listed_with w t x f s few g e =
    let m : listings w t x ≡ stop g = then_stop (listings w t x) (λ d. laid true x 0 x.len (lists_freeze (into_builder t 1 (λ j. kid w t x)) d)) g e in
    let z : asks w t x x.len ≡ stop g = sym (listed_grounds w t x f s few) ∙ ap (map_try (λ d. held t d.child)) m in
    subst Only z (only_steps (λ i. ask_if w t x (valid_at w t x i) i) (λ i c. one (valid_at w t x i) i c) x.len 0 (start_counts false t))
  where
    one : (b : Bool) (i : ℕ) (c : Counts) → Only (ask_if w t x b i c)
    one true i c =
        only_guard (ltb (rows_of c + size_at w t x i) (half w)) 6 (ask_of (ask_copy t) (kid w t x) (offset_at w t x i) (size_at w t x i) c) (inl refl)
        (copy_only t (kid w t x).body _ (size_at w t x i) c)
    one false i c = tt
