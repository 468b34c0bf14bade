-- Orders of nulls beyond every part: a count of 2^63 or more is answered alike, and no part holds its rows. Assumes nothing.
use mathlib.Core.Path.{refl}
use mathlib.Core.Bool.{Bool, true, false, cond}
use mathlib.Core.List.{List, [], ◌∷◌, Memᴰ}
use Prim.Native.Nat.{ℕ, suc, ◌+◌, ◌≤◌}
use native.Mathlib.Omega.{arith}
use lib.Dec.{leb, ltb, eqb}
use borrow.Author.Tests.{le-ltb, lt-leb}
use Rattle.columnar.specs.Types.{half, fixed, string, Ty, t_plain, t_view, t_list_view, t_list, t_sparse, t_dense, t_run_end, t_dictionary}
use Rattle.columnar.specs.Formed.{RunWidth, four, eight, two, Formed}
use Rattle.walk.specs.State.{far}
use Rattle.model.specs.Try.{Try, done, stop, then, guard}
use Rattle.model.specs.Ordered.{home}
use Rattle.model.proofs.Agree.{Agrees}
use Rattle.model.specs.Grounds.{Counts, counts, rows_of, bytes_of, kid_of, each, sparse_all, with_kid, unless_none, nulls_ask}

-- both done, or both stopped by one ground
pub data Alike {A B : Type 0} : Try A → Try B → Type 0 where
  both : (x : A) (y : B) → Alike (done x) (done y)
  neither : (g : ℕ) → Alike (stop g) (stop g)

-- what agrees with answers that are alike
pub alike_by : {A B C D : Type 0} {see : A → C} {Q : A → Type 0} {look : B → D} {R : B → Type 0} {p : Try A} {q : Try B} {s : Try C} {r : Try D}
    → Agrees see Q p s → Alike s r → Agrees look R q r → Alike p q
alike_by (Agrees.both x h) (Alike.both _ _) (Agrees.both y k) = both x y
alike_by (Agrees.neither g) (Alike.neither _) (Agrees.neither _) = neither g

alike_then : {A B C D : Type 0} {s : Try A} {r : Try B} (f : A → Try C) (h : B → Try D) → Alike s r → ((x : A) (y : B) → Alike (f x) (h y)) → Alike (then s f) (then r h)
alike_then f h (both x y) k = k x y
alike_then f h (neither g) k = neither g

-- the same answer, and then
same_then : {A C D : Type 0} (t : Try A) (f : A → Try C) (h : A → Try D) → ((x : A) → Alike (f x) (h x)) → Alike (then t f) (then t h)
same_then (done x) f h k = k x
same_then (stop g) f h k = neither g

alike_cond : {A B : Type 0} (b : Bool) {s s' : Try A} {r r' : Try B} → Alike s r → Alike s' r' → Alike (cond b s s') (cond b r r')
alike_cond true h k = h
alike_cond false h k = k

alike_each : (f h : ℕ → Try Counts) (ids : List ℕ) (x y : Try Counts) → ((e : ℕ) → Memᴰ e ids → Alike (f e) (h e)) → Alike x y → Alike (each f ids x) (each h ids y)
alike_each f h [] x y k z = z
alike_each f h (c ∷ cs) x y k z =
    alike_then (λ v. each f cs x) (λ v. each h cs y) (k c (Memᴰ.head refl)) (λ v w. alike_each f h cs x y (λ e q. k e (Memᴰ.tail q)) z)

pub half_run : (w : ℕ) → RunWidth w → half w ≤ far
half_run _ RunWidth.two = omega arith
half_run _ RunWidth.four = omega arith
half_run _ RunWidth.eight = omega arith

-- what follows the home of a union's nulls, and a run-end node's values
abbrev all_kids : List ℕ → (ℕ → Ty) → Counts → ℕ → ℕ → Try Counts
all_kids ids f c n h = sparse_all ids (λ e. unless_none (nulls_ask (f e)) n (kid_of c e)) (rows_of c + n)

abbrev one_kid : (ℕ → Ty) → Counts → ℕ → ℕ → Try Counts
one_kid f c n h =
    guard (leb (rows_of (kid_of c h) + n) (half 4)) 6 (then (unless_none (nulls_ask (f h)) n (kid_of c h)) (λ k. done (counts (rows_of c + n) 0 (with_kid c h k))))

abbrev one_run : ℕ → ℕ → Counts → ℕ → Counts → Try Counts
one_run w v c n k = guard (ltb (rows_of c + n) (half w)) 7 (done (counts (rows_of c + n) v (λ e. k)))

never_kid : (f : ℕ → Ty) (c : Counts) (a b h : ℕ) → far ≤ a → far ≤ b → Alike (one_kid f c a h) (one_kid f c b h)
never_kid f c a b h p q =
    let x = lt-leb (rows_of (kid_of c h) + a) (half 4) (omega arith) in
    let y = lt-leb (rows_of (kid_of c h) + b) (half 4) (omega arith) in
    rw (x, y) (neither 6)

never_run : (w v : ℕ) (c : Counts) (a b : ℕ) (k : Counts) → RunWidth w → far ≤ a → far ≤ b → Alike (one_run w v c a k) (one_run w v c b k)
never_run w v c a b k o p q =
    let h = half_run w o in
    let x = le-ltb (rows_of c + a) (half w) (omega arith) in
    let y = le-ltb (rows_of c + b) (half w) (omega arith) in
    rw (x, y) (neither 7)

-- A COUNT BEYOND EVERY PART is answered like any other such count
pub alike_nulls : (t : Ty) (a b : ℕ) (c : Counts) → Formed t → far ≤ suc a → far ≤ suc b → Alike (nulls_ask t (suc a) c) (nulls_ask t (suc b) c)
alike_nulls (t_plain (fixed n)) a b c o p q = both _ _
alike_nulls (t_plain (string w)) a b c o p q = both _ _
alike_nulls t_view a b c o p q = both _ _
alike_nulls (t_list_view w t) a b c o p q = both _ _
alike_nulls (t_list w t) a b c o p q = both _ _
alike_nulls (t_sparse ids nullable f) a b c o p q =
    same_then (home nullable ids) (all_kids ids f c (suc a)) (all_kids ids f c (suc b))
    (λ h. alike_each (λ e. unless_none (nulls_ask (f e)) (suc a) (kid_of c e)) (λ e. unless_none (nulls_ask (f e)) (suc b) (kid_of c e)) ids _ _
    (λ e m. alike_nulls (f e) a b (kid_of c e) (o.1 e m) p q) (both _ _))
alike_nulls (t_dense ids nullable f) a b c o p q =
    same_then (home nullable ids) (one_kid f c (suc a)) (one_kid f c (suc b)) (λ h. never_kid f c (suc a) (suc b) h p q)
alike_nulls (t_run_end w t) a b c o p q =
    alike_cond (eqb (bytes_of c) 2) (never_run w 2 c (suc a) (suc b) (kid_of c 0) o.0 p q)
    (same_then (unless_none (nulls_ask t) 1 (kid_of c 0)) (one_run w (cond (eqb (bytes_of c) 0) 0 2) c (suc a)) (one_run w (cond (eqb (bytes_of c) 0) 0 2) c (suc b))
    (λ k. never_run w (cond (eqb (bytes_of c) 0) 0 2) c (suc a) (suc b) k o.0 p q))
alike_nulls (t_dictionary n p) a b c o h q = both _ _
