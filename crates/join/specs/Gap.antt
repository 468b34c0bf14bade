-- W14's sentence once more, by what was added to a run-end node: a null order "lengthens the last run exactly if that run was itself written by an accepted
-- null order and nothing but later null orders was added to that node since". Assumes nothing.
use Rattle.std.specs.Prelude.{◌≡◌, Bool, true, false, cond, ℕ, zero, suc, ◌+◌, ◌-◌, get_or, eqb}
use mathlib.Core.List.{List, [], ◌∷◌, ◌++◌, Memᴰ}
use Rattle.number.specs.Number.{encode}
use Rattle.columnar.specs.Types.{Ty, t_plain, t_view, t_list_view, t_list, t_sparse, t_dense, t_run_end, t_dictionary}
use Rattle.columnar.specs.RunEnd.{RunEnd}
use Rattle.columnar.specs.Array.{Array, item}
use Rattle.columnar.specs.Reading.{Body, Column}
use Rattle.model.specs.Try.{Try, done, after}
use Rattle.model.specs.Ordered.{home}
use Rattle.model.specs.Grounds.{first_run, run_count}
use Rattle.model.specs.Mutable.{Mutable}
use Rattle.model.specs.Runs.{Runs, last_end, more_ends, over_end, runs_extend, runs_null}
use Rattle.model.specs.Transform.{Grown}
use Rattle.model.specs.Book.{Call, copy, nulls}

-- rows that were added to a node, by a copy or by a null order; none where the number is 0
pub data Added : Type 0 where
  copied : ℕ → Added
  nulled : ℕ → Added

abbrev pub OnlyNulls : List Added → Type 0
OnlyNulls [] = Unit {0}
OnlyNulls (copied n ∷ hs) = (n ≡ 0) × OnlyNulls hs
OnlyNulls (nulled n ∷ hs) = OnlyNulls hs

-- what was added, the latest first: rows of a null order, and since then nothing but null orders
pub record ByNulls (hs : List Added) : Type 0 where
  pub since : List Added
  pub count : ℕ
  pub before : List Added
  pub in_order_lem : hs ≡ since ++ nulled (suc count) ∷ before
  pub only_nulls : OnlyNulls since

-- a null order at a run-end node; one of count 0 adds nothing
abbrev pub nulls_given : {D : Type 0} → ℕ → (ℕ → Mutable D → Try (Mutable D)) → ℕ → Runs D → Try (Runs D)
nulls_given w fill zero d = done d
nulls_given w fill (suc n) d = runs_null w fill (suc n) d

-- A RUN-END NODE OF A JOIN WITH THE CHOICE, and what its accepted orders added to it: by any copies of its values and any nulls of them
pub data Came (P : Type 0) {D : Type 0} (w : ℕ) : List Added → Runs D → Type 0 where
  begun : (d : Runs D) → d.gap ≡ 1 → d.ends.len ≡ 0 → Came P w [] d
  copy_came : {hs : List Added} {d : Runs D} (e : Runs D) → Came P w hs d
      → (extend : ℕ → ℕ → Mutable D → Try (Mutable D)) (s : RunEnd P) (a n : ℕ) → runs_extend w extend s a n d ≡ done e → Came P w (copied n ∷ hs) e
  nulls_came : {hs : List Added} {d : Runs D} (e : Runs D) → Came P w hs d
      → (fill : ℕ → Mutable D → Try (Mutable D)) (n : ℕ) → nulls_given w fill n d ≡ done e → Came P w (nulled n ∷ hs) e

-- from d to e by n nulls: the last run is lengthened and the values stay, or there is one run more
pub record Grows {D : Type 0} (w : ℕ) (hs : List Added) (n : ℕ) (d e : Runs D) : Type 0 where
  pub longer : ByNulls hs → (e.ends ≡ over_end w (last_end w d.ends + n) d.ends) × (e.values ≡ d.values)
  pub one_more : (ByNulls hs → ⊥) → e.ends ≡ more_ends (encode w (last_end w d.ends + n)) 1 d.ends

-- ---- every run-end node of a join: what each call adds to it, by the sources' numbers

-- the latest first
abbrev pub Histories : Ty → Type 0
Histories (t_plain p) = Unit {0}
Histories t_view = Unit {0}
Histories (t_list_view w t) = Histories t
Histories (t_list w t) = Histories t
Histories (t_sparse ids nullable f) = (c : ℕ) → Histories (f c)
Histories (t_dense ids nullable f) = (c : ℕ) → Histories (f c)
Histories (t_run_end w t) = List Added × Histories t
Histories (t_dictionary k p) = Unit {0}

abbrev pub no_history : (t : Ty) → Histories t
no_history (t_plain p) = tt
no_history t_view = tt
no_history (t_list_view w t) = no_history t
no_history (t_list w t) = no_history t
no_history (t_sparse ids nullable f) = λ c. no_history (f c)
no_history (t_dense ids nullable f) = λ c. no_history (f c)
no_history (t_run_end w t) = ([], no_history t)
no_history (t_dictionary k p) = tt

-- rows a, a + 1, .., n of them, one after the other
abbrev pub in_rows : {H : Type 0} → (ℕ → H → H) → ℕ → ℕ → H → H
in_rows f a zero h = h
in_rows f a (suc n) h = in_rows f (suc a) n (f a h)

-- rows a .. a + n - 1 of a column, by what its slots add
abbrev pub column_adds : {P H : Type 0} → (P → ℕ → ℕ → H → H) → Array P → ℕ → ℕ → H → H
column_adds f x a n h = f x.body (x.off + a) n h

-- child c's changed
abbrev pub of_child : {H : ℕ → Type 0} → ℕ → ((c : ℕ) → H c) → ((c : ℕ) → H c) → (c : ℕ) → H c
of_child c new old e = cond (eqb e c) (new e) (old e)

-- A COPY of the slots a .. a + n - 1
abbrev pub copy_adds : (t : Ty) → Body t → ℕ → ℕ → Histories t → Histories t
copy_adds (t_plain p) = λ b a n h. h
copy_adds t_view = λ b a n h. h
copy_adds (t_list_view w t) = λ b a n h. in_rows (λ r k. column_adds (copy_adds t) b.child (item w b.offsets r) (item w b.sizes r) k) a n h
copy_adds (t_list w t) = λ b a n h. elim n [ zero ↦ h | suc m ↦ column_adds (copy_adds t) b.child (item w b.offsets a) (item w b.offsets (a + suc m) - item w b.offsets a) h ]
copy_adds (t_sparse ids nullable f) = λ b a n h c. column_adds (copy_adds (f c)) (b.children c) a n (h c)
copy_adds (t_dense ids nullable f) = λ b a n h. in_rows (λ r k. of_child (get_or b.ids r 0) (λ c. column_adds (copy_adds (f c)) (b.children c) (item 4 b.positions r) 1 (k c)) k) a n h
copy_adds (t_run_end w t) = λ b a n h. elim n [ zero ↦ h | suc m ↦ (copied (suc m) ∷ h.0, column_adds (copy_adds t) b.values (first_run w b a) (run_count w b a (suc m)) h.1) ]
copy_adds (t_dictionary k p) = λ b a n h. h

-- whether the latest rows are of a null order
abbrev pub nulls_latest : List Added → Bool
nulls_latest [] = false
nulls_latest (copied zero ∷ hs) = nulls_latest hs
nulls_latest (copied (suc n) ∷ hs) = false
nulls_latest (nulled zero ∷ hs) = nulls_latest hs
nulls_latest (nulled (suc n) ∷ hs) = true

-- n NULLS, n not 0; a list gives its child nothing, and neither does a run that grows
abbrev pub nulls_add : (t : Ty) → ℕ → Histories t → Histories t
nulls_add (t_plain p) = λ n h. h
nulls_add t_view = λ n h. h
nulls_add (t_list_view w t) = λ n h. h
nulls_add (t_list w t) = λ n h. h
nulls_add (t_sparse ids nullable f) = λ n h c. nulls_add (f c) n (h c)
nulls_add (t_dense ids nullable f) = λ n h. of_child (after (home nullable ids) 0) (λ c. nulls_add (f c) n (h c)) h
nulls_add (t_run_end w t) = λ n h. (nulled n ∷ h.0, cond (nulls_latest h.0) h.1 (nulls_add t 1 h.1))
nulls_add (t_dictionary k p) = λ n h. h

-- one call that is carried out, and a list of them
module _ (t : Ty) (ss : ℕ → Column t) where
  abbrev pub call_adds : Call → Histories t → Histories t
  call_adds (copy j a e) h = column_adds (copy_adds t) (ss j) a (e - a) h
  call_adds (nulls zero) h = h
  call_adds (nulls (suc n)) h = nulls_add t (suc n) h

  abbrev pub calls_add : List Call → Histories t → Histories t
  calls_add [] h = h
  calls_add (o ∷ os) h = calls_add os (call_adds o h)

-- every run-end node of a destination came by its history
abbrev pub EveryCame : (t : Ty) → Histories t → Grown t → Type 0
EveryCame (t_plain p) = λ h d. Unit {0}
EveryCame t_view = λ h d. Unit {0}
EveryCame (t_list_view w t) = λ h d. EveryCame t h d.child.«data»
EveryCame (t_list w t) = λ h d. EveryCame t h d.child.«data»
EveryCame (t_sparse ids nullable f) = λ h d. (c : ℕ) → Memᴰ c ids → EveryCame (f c) (h c) (d.children c).«data»
EveryCame (t_dense ids nullable f) = λ h d. (c : ℕ) → EveryCame (f c) (h c) (d.children c).«data»
EveryCame (t_run_end w t) = λ h d. Came (Body t) w h.0 d × EveryCame t h.1 d.values.«data»
EveryCame (t_dictionary k p) = λ h d. Unit {0}

abbrev pub Either : Bool → Type 0 → Type 0 → Type 0
Either true A B = A
Either false A B = B

-- n MORE NULLS from d to e, n not 0: what they do at every run-end node that they come to, and the children that they do not come to stay
abbrev pub NullsGrow : (t : Ty) → ℕ → Histories t → Grown t → Grown t → Type 0
NullsGrow (t_plain p) = λ n h d e. Unit {0}
NullsGrow t_view = λ n h d e. Unit {0}
NullsGrow (t_list_view w t) = λ n h d e. e.child ≡ d.child
NullsGrow (t_list w t) = λ n h d e. e.child ≡ d.child
NullsGrow (t_sparse ids nullable f) = λ n h d e. (c : ℕ) → Memᴰ c ids → NullsGrow (f c) n (h c) (d.children c).«data» (e.children c).«data»
NullsGrow (t_dense ids nullable f) = λ n h d e. (c : ℕ) → Either (eqb c (after (home nullable ids) 0)) (NullsGrow (f c) n (h c) (d.children c).«data» (e.children c).«data») (e.children c ≡ d.children c)
NullsGrow (t_run_end w t) = λ n h d e. Grows w h.0 n d e × Either (nulls_latest h.0) (e.values ≡ d.values) (NullsGrow t 1 h.1 d.values.«data» e.values.«data»)
NullsGrow (t_dictionary k p) = λ n h d e. Unit {0}
