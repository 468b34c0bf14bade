-- The kinds that ask their children, done: taken apart and put together; and how many rows are held afterwards. Assumes nothing.
use mathlib.Core.Path.{◌≡◌, refl, sym, ap, ◌∙◌, subst}
use mathlib.Core.Bool.{Bool, true, false}
use mathlib.Core.List.{List, Memᴰ}
use Prim.Native.Nat.{ℕ, zero, suc, ◌+◌, ◌-◌, ◌≤◌, ◌<◌, min}
use native.Mathlib.Nat.{add-zero}
use native.Mathlib.Omega.{arith}
use lib.ListN.{get_or}
use lib.Dec.{ltb}
use borrow.Author.Tests.{ltb-true, lt-ltb}
use Rattle.columnar.specs.Types.{Plain, fixed, string, half, Ty, t_plain, t_view, t_list_view, t_list, t_sparse, t_dense, t_run_end, t_dictionary}
use Rattle.columnar.specs.Array.{Array, item}
use Rattle.columnar.specs.Plain.{PlainBody}
use Rattle.columnar.specs.ListView.{ListView}
use Rattle.columnar.specs.List.{Listed}
use Rattle.columnar.specs.Union.{Sparse, Dense}
use Rattle.columnar.specs.RunEnd.{RunEnd}
use Rattle.columnar.specs.Reading.{Body}
use Rattle.model.specs.Try.{Try, done, stop, then, guard, after, steps_t}
use Rattle.model.specs.Grounds.{Counts, counts, absent, rows_of, bytes_of, kid_of, leaf, Ask, ask_of, plain_ask, list_view_row, list_view_ask, list_ask, among, sparse_all, sparse_ask, with_kid, dense_row, dense_ask, first_run, run_count, run_end_ask, ask_copy}
use Rattle.model.proofs.Follow.{guard_done}
use Rattle.model.proofs.CutTries.{done_is, Then, then_done, then_is, guard_is, IsDone, Each, each_done, each_is}

-- ---- byte strings

pub record TextAsked (w : ℕ) (c : Counts) (n x : ℕ) (d : Counts) : Type 0 where
  pub fits : bytes_of c + x < half w
  pub is : d ≡ counts (rows_of c + n) (bytes_of c + x) leaf

pub text_asked : (w : ℕ) (c : Counts) (n x : ℕ) (d : Counts) → guard (ltb (bytes_of c + x) (half w)) 6 (done (counts (rows_of c + n) (bytes_of c + x) leaf)) ≡ done d → TextAsked w c n x d
text_asked w c n x d h =
    let p = guard_done (ltb (bytes_of c + x) (half w)) 6 _ d h in
    record { fits = ltb-true _ _ p.0; is = sym (done_is p.1) }

-- ---- list-views

module _ {P : Type 0} (w : ℕ) (ask : P → Ask) (b : ListView P) (i : ℕ) (c : Counts) where
  abbrev size : ℕ
  size = item w b.sizes i

  pub record ListAsked (d : Counts) : Type 0 where
    pub fits : rows_of (kid_of c 0) + size < half w
    pub kid : Counts
    pub kid_done : ask_of ask b.child (item w b.offsets i) size (kid_of c 0) ≡ done kid
    pub is : d ≡ counts (suc (rows_of c)) 0 (λ e. kid)

  pub list_asked : (d : Counts) → list_view_row w ask b i c ≡ done d → ListAsked d
  list_asked d h =
      let p = guard_done (ltb (rows_of (kid_of c 0) + size) (half w)) 6 _ d h in
      let q = then_done (ask_of ask b.child (item w b.offsets i) size (kid_of c 0)) _ d p.1 in
      record { fits = ltb-true _ _ p.0; kid = q.first; kid_done = q.first_done; is = sym (done_is q.rest_done) }

  pub list_ask_lem : (k : Counts) → rows_of (kid_of c 0) + size < half w → ask_of ask b.child (item w b.offsets i) size (kid_of c 0) ≡ done k
      → list_view_row w ask b i c ≡ done (counts (suc (rows_of c)) 0 (λ e. k))
  list_ask_lem k f e = guard_is _ 6 _ (lt-ltb _ _ f) ∙ then_is _ _ k e

-- ---- lists, n not 0

module _ {P : Type 0} (w : ℕ) (ask : P → Ask) (b : Listed P) (a : ℕ) (c : Counts) where
  -- how many of the child's rows
  abbrev pub stretch_of : ℕ → ℕ
  stretch_of n = item w b.offsets (a + n) - item w b.offsets a

  pub record ListsAsked (n : ℕ) (d : Counts) : Type 0 where
    pub fits : rows_of (kid_of c 0) + stretch_of n < half w
    pub kid : Counts
    pub kid_done : ask_of ask b.child (item w b.offsets a) (stretch_of n) (kid_of c 0) ≡ done kid
    pub is : d ≡ counts (rows_of c + n) 0 (λ e. kid)

  pub lists_asked : (n : ℕ) → 0 < n → (d : Counts) → list_ask w ask b a n c ≡ done d → ListsAsked n d
  lists_asked zero z d h = absurd (omega arith)
  lists_asked (suc n) z d h =
      let p = guard_done (ltb (rows_of (kid_of c 0) + stretch_of (suc n)) (half w)) 6 _ d h in
      let q = then_done (ask_of ask b.child (item w b.offsets a) (stretch_of (suc n)) (kid_of c 0)) _ d p.1 in
      record { fits = ltb-true _ _ p.0; kid = q.first; kid_done = q.first_done; is = sym (done_is q.rest_done) }

  pub lists_ask : (n : ℕ) → 0 < n → (k : Counts) → rows_of (kid_of c 0) + stretch_of n < half w → ask_of ask b.child (item w b.offsets a) (stretch_of n) (kid_of c 0) ≡ done k
      → list_ask w ask b a n c ≡ done (counts (rows_of c + n) 0 (λ e. k))
  lists_ask zero z k f e = absurd (omega arith)
  lists_ask (suc n) z k f e = guard_is _ 6 _ (lt-ltb _ _ f) ∙ then_is _ _ k e

-- ---- sparse unions

pub record SparseAsked (ids : List ℕ) (f : ℕ → Try Counts) (l : ℕ) (d : Counts) : Type 0 where
  pub all_done : (e : ℕ) → Memᴰ e ids → IsDone (f e)
  pub is : d ≡ counts l 0 (among ids (λ e. after (f e) absent))

pub sparse_asked : (ids : List ℕ) (f : ℕ → Try Counts) (l : ℕ) (d : Counts) → sparse_all ids f l ≡ done d → SparseAsked ids f l d
sparse_asked ids f l d h =
    let p = each_done f ids _ d h in
    record { all_done = p.all_done; is = sym (done_is p.last_done) }

-- ---- dense unions

module _ {P : ℕ → Type 0} (ask : (c : ℕ) → P c → Ask) (b : Dense P) (i : ℕ) (c : Counts) where
  abbrev child : ℕ
  child = get_or b.ids i 0

  pub record DenseAsked (d : Counts) : Type 0 where
    pub fits : rows_of (kid_of c child) < half 4
    pub kid : Counts
    pub kid_done : ask_of (ask child) (b.children child) (item 4 b.positions i) 1 (kid_of c child) ≡ done kid
    pub is : d ≡ counts (suc (rows_of c)) 0 (with_kid c child kid)

  pub dense_asked : (d : Counts) → dense_row ask b i c ≡ done d → DenseAsked d
  dense_asked d h =
      let p = guard_done (ltb (rows_of (kid_of c child)) (half 4)) 6 _ d h in
      let q = then_done (ask_of (ask child) (b.children child) (item 4 b.positions i) 1 (kid_of c child)) _ d p.1 in
      record { fits = ltb-true _ _ p.0; kid = q.first; kid_done = q.first_done; is = sym (done_is q.rest_done) }

  pub dense_ask_lem : (k : Counts) → rows_of (kid_of c child) < half 4 → ask_of (ask child) (b.children child) (item 4 b.positions i) 1 (kid_of c child) ≡ done k
      → dense_row ask b i c ≡ done (counts (suc (rows_of c)) 0 (with_kid c child k))
  dense_ask_lem k f e = guard_is _ 6 _ (lt-ltb _ _ f) ∙ then_is _ _ k e

-- ---- run-end columns, n not 0

module _ {P : Type 0} (w : ℕ) (ask : P → Ask) (b : RunEnd P) (a : ℕ) (c : Counts) where
  pub record RunsAsked (n : ℕ) (d : Counts) : Type 0 where
    pub fits : rows_of c + n < half w
    pub kid : Counts
    pub kid_done : ask_of ask b.values (first_run w b a) (run_count w b a n) (kid_of c 0) ≡ done kid
    pub is : d ≡ counts (rows_of c + n) (min (bytes_of c) 1) (λ e. kid)

  pub runs_asked : (n : ℕ) → 0 < n → (d : Counts) → run_end_ask w ask b a n c ≡ done d → RunsAsked n d
  runs_asked zero z d h = absurd (omega arith)
  runs_asked (suc n) z d h =
      let p = guard_done (ltb (rows_of c + suc n) (half w)) 7 _ d h in
      let q = then_done (ask_of ask b.values (first_run w b a) (run_count w b a (suc n)) (kid_of c 0)) _ d p.1 in
      record { fits = ltb-true _ _ p.0; kid = q.first; kid_done = q.first_done; is = sym (done_is q.rest_done) }

  pub runs_ask : (n : ℕ) → 0 < n → (k : Counts) → rows_of c + n < half w → ask_of ask b.values (first_run w b a) (run_count w b a n) (kid_of c 0) ≡ done k
      → run_end_ask w ask b a n c ≡ done (counts (rows_of c + n) (min (bytes_of c) 1) (λ e. k))
  runs_ask zero z k f e = absurd (omega arith)
  runs_ask (suc n) z k f e = guard_is _ 7 _ (lt-ltb _ _ f) ∙ then_is _ _ k e

-- ---- the rows held afterwards

steps_rows : (f : ℕ → Counts → Try Counts) → ((i : ℕ) (c d : Counts) → f i c ≡ done d → rows_of d ≡ suc (rows_of c)) → (a n : ℕ) (c d : Counts)
    → steps_t f a n c ≡ done d → rows_of d ≡ rows_of c + n
steps_rows f one a zero c d h = ap rows_of (sym (done_is h)) ∙ sym (add-zero (rows_of c))
steps_rows f one a (suc n) c d h =
    let p = then_done (f a c) (steps_t f (suc a) n) d h in
    let x = one a c p.first p.first_done in
    let y = steps_rows f one (suc a) n p.first d p.rest_done in
    omega (arith, x, y)

plain_rows_after : (p : Plain) (b : PlainBody p) (a n : ℕ) (c d : Counts) → plain_ask p b a n c ≡ done d → rows_of d ≡ rows_of c + n
plain_rows_after (fixed k) b a n c d h = ap rows_of (sym (done_is h))
plain_rows_after (string w) b a n c d h = ap rows_of (text_asked w c n _ d h).is

-- n ROWS MORE
pub rows_after : (t : Ty) (b : Body t) (a n : ℕ) (c d : Counts) → ask_copy t b a n c ≡ done d → rows_of d ≡ rows_of c + n
rows_after (t_plain p) b a n c d h = plain_rows_after p b a n c d h
rows_after t_view b a n c d h = ap rows_of (sym (done_is h))
rows_after (t_list_view w t) b a n c d h =
    steps_rows (list_view_row w (ask_copy t) b) (λ i c d h. ap rows_of (list_asked w (ask_copy t) b i c d h).is) a n c d h
rows_after (t_list w t) b a zero c d h = ap rows_of (sym (done_is h)) ∙ sym (add-zero (rows_of c))
rows_after (t_list w t) b a (suc n) c d h = ap rows_of (lists_asked w (ask_copy t) b a c (suc n) (omega arith) d h).is
rows_after (t_sparse ids nullable f) b a n c d h = ap rows_of (sparse_asked ids _ (rows_of c + n) d h).is
rows_after (t_dense ids nullable f) b a n c d h =
    steps_rows (dense_row (λ e. ask_copy (f e)) b) (λ i c d h. ap rows_of (dense_asked (λ e. ask_copy (f e)) b i c d h).is) a n c d h
rows_after (t_run_end w t) b a zero c d h = ap rows_of (sym (done_is h)) ∙ sym (add-zero (rows_of c))
rows_after (t_run_end w t) b a (suc n) c d h = ap rows_of (runs_asked w (ask_copy t) b a c (suc n) (omega arith) d h).is
rows_after (t_dictionary k p) b a n c d h = ap rows_of (sym (done_is h))
