-- The laws of the recursion: what is said below is put together and taken apart once for all kinds. Assumes nothing.
use mathlib.Core.Path.{◌≡◌, refl, ap, subst, ◌∙◌}
use mathlib.Core.List.{List, Memᴰ}
use Prim.Native.Nat.{ℕ}
use Rattle.columnar.specs.Types.{Number, Plain, Ty, t_plain, t_view, t_list_view, t_list, t_sparse, t_dense, t_run_end, t_dictionary}
use Rattle.columnar.specs.Reading.{Body, Column, Source}
use Rattle.columnar.specs.Kids.{Kid, kid_ty, kid_at, Below}

module _ {X : Ty → Type 0} (down : (t : Ty) → X t → (k : Kid t) → X (kid_ty t k)) (atView : X t_view → Type 0) (atKeys : (n : Number) (p : Plain) → X (t_dictionary n p) → Type 0) where
  -- at a child
  pub below_kid : (t : Ty) (x : X t) → Below down atView atKeys t x → (k : Kid t) → Below down atView atKeys (kid_ty t k) (down t x k)
  below_kid (t_plain p) x h k = absurd k
  below_kid t_view x h k = absurd k
  below_kid (t_list_view w t) x h k = h
  below_kid (t_list w t) x h k = h
  below_kid (t_sparse ids nullable f) x h k = h k.0 k.1
  below_kid (t_dense ids nullable f) x h k = h k.0 k.1
  below_kid (t_run_end w t) x h k = h
  below_kid (t_dictionary n p) x h k = absurd k

  -- from what goes down to every child too
  pub below_by : (H : (t : Ty) → X t → Type 0) → ((t : Ty) (x : X t) → H t x → (k : Kid t) → H (kid_ty t k) (down t x k)) → ((x : X t_view) → H t_view x → atView x)
      → ((n : Number) (p : Plain) (x : X (t_dictionary n p)) → H (t_dictionary n p) x → atKeys n p x) → (t : Ty) (x : X t) → H t x → Below down atView atKeys t x
  below_by H step v d (t_plain p) x h = tt
  below_by H step v d t_view x h = v x h
  below_by H step v d (t_list_view w t) x h = below_by H step v d t (down (t_list_view w t) x tt) (step (t_list_view w t) x h tt)
  below_by H step v d (t_list w t) x h = below_by H step v d t (down (t_list w t) x tt) (step (t_list w t) x h tt)
  below_by H step v d (t_sparse ids nullable f) x h = λ c q. below_by H step v d (f c) (down (t_sparse ids nullable f) x (c, q)) (step (t_sparse ids nullable f) x h (c, q))
  below_by H step v d (t_dense ids nullable f) x h = λ c q. below_by H step v d (f c) (down (t_dense ids nullable f) x (c, q)) (step (t_dense ids nullable f) x h (c, q))
  below_by H step v d (t_run_end w t) x h = below_by H step v d t (down (t_run_end w t) x tt) (step (t_run_end w t) x h tt)
  below_by H step v d (t_dictionary n p) x h = d n p x h

  -- .. and of what is `at` a state that goes down
  pub below_from : {S : Ty → Type 0} (at : (t : Ty) → S t → X t) → ((t : Ty) (s : S t) (k : Kid t) → (r : S (kid_ty t k)) × (at (kid_ty t k) r ≡ down t (at t s) k))
      → ((s : S t_view) → atView (at t_view s)) → ((n : Number) (p : Plain) (s : S (t_dictionary n p)) → atKeys n p (at (t_dictionary n p) s)) → (t : Ty) (s : S t) → Below down atView atKeys t (at t s)
  below_from {S = S} at step v d t s =
      below_by (λ t x. (s : S t) × (at t s ≡ x)) (λ t x h k. let r = step t h.0 k in (r.0, r.1 ∙ ap (λ y. down t y k) h.1)) (λ x h. subst atView h.1 (v h.0))
      (λ n p x h. subst (atKeys n p) h.1 (d n p h.0)) t (at t s) (s, refl)

-- a source's children are sources
pub kid_source : (t : Ty) (x : Column t) → Source t x → (k : Kid t) → Source (kid_ty t k) (kid_at t x.body k)
kid_source (t_plain p) x s k = absurd k
kid_source t_view x s k = absurd k
kid_source (t_list_view w t) x s k = s.slots.child_rule
kid_source (t_list w t) x s k = s.slots.child_rule
kid_source (t_sparse ids nullable f) x s k = s.slots.child_rule k.0 k.1
kid_source (t_dense ids nullable f) x s k = s.slots.child_rule k.0 k.1
kid_source (t_run_end w t) x s k = s.slots.child_rule
kid_source (t_dictionary n p) x s k = absurd k
