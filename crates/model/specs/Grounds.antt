-- The grounds of refusal of an order, from lengths and limits alone: what each node holds is counted, and no buffer of the
-- destination is looked at (01, "Grounds of refusal", 4 to 7, in the order that 01 gives). Assumes nothing.
use Rattle.std.specs.Prelude.{Bool, true, false, cond, List, [], ◌∷◌, ℕ, zero, suc, ◌+◌, ◌-◌, ◌*◌, ◌≤◌, ◌<◌, min, length, get_or, ltb, leb, eqb}
use Rattle.columnar.specs.Types.{Plain, fixed, string, half, Ty, t_plain, t_view, t_list_view, t_list, t_sparse, t_dense, t_run_end, t_dictionary}
use Rattle.columnar.specs.Array.{Array, item}
use Rattle.columnar.specs.Plain.{Text, PlainBody}
use Rattle.columnar.specs.View.{Views}
use Rattle.columnar.specs.ListView.{ListView}
use Rattle.columnar.specs.List.{Listed}
use Rattle.columnar.specs.Union.{Sparse, Dense}
use Rattle.columnar.specs.RunEnd.{RunEnd, end_of, first_above}
use Rattle.columnar.specs.Dictionary.{Dictionary}
use Rattle.columnar.specs.Reading.{Body}
use Rattle.model.specs.Try.{Try, done, stop, then, guard, after, steps_t}
use Rattle.model.specs.Ordered.{home}

-- a node's rows, the bytes of a byte string's data, its children by id (a single child is 0)
pub data Counts : Type 0 where
  absent : Counts
  counts : ℕ → ℕ → (ℕ → Counts) → Counts

abbrev pub rows_of : Counts → ℕ
rows_of absent = 0
rows_of (counts l x k) = l

abbrev pub bytes_of : Counts → ℕ
bytes_of absent = 0
bytes_of (counts l x k) = x

abbrev pub kid_of : Counts → ℕ → Counts
kid_of absent c = absent
kid_of (counts l x k) c = k c

abbrev pub leaf : ℕ → Counts
leaf c = absent

-- n rows more at a node with no children and no data
abbrev pub more_rows : ℕ → Counts → Try Counts
more_rows n c = done (counts (rows_of c + n) 0 leaf)

-- a copy of the n slots from a on: what a source's body asks of the counts
abbrev pub Ask : Type 0
Ask = ℕ → ℕ → Counts → Try Counts

-- the same of an array: its offset is added here
abbrev pub ask_of : {B : Type 0} → (B → Ask) → Array B → Ask
ask_of f x a n c = f x.body (x.off + a) n c

-- "an offset .. does not fit its type"
abbrev pub plain_ask : (p : Plain) → PlainBody p → Ask
plain_ask (fixed k) b a n c = more_rows n c
plain_ask (string w) b a n c =
    let x = bytes_of c + (item w b.offsets (a + n) - item w b.offsets a) in
    guard (ltb x (half w)) 6 (done (counts (rows_of c + n) x leaf))

-- "Ground 6 if the sum after a row does not fit", before its child
abbrev pub list_view_row : {P : Type 0} → ℕ → (P → Ask) → ListView P → ℕ → Counts → Try Counts
list_view_row w ask b i c =
    guard (ltb (rows_of (kid_of c 0) + item w b.sizes i) (half w)) 6
    (then (ask_of ask b.child (item w b.offsets i) (item w b.sizes i) (kid_of c 0)) (λ k. done (counts (suc (rows_of c)) 0 (λ e. k))))

abbrev pub list_view_ask : {P : Type 0} → ℕ → (P → Ask) → ListView P → Ask
list_view_ask w ask b a n c = steps_t (list_view_row w ask b) a n c

-- the offsets of all rows, which never fall, by their last; then the child; a copy of no rows adds nothing
abbrev pub list_ask : {P : Type 0} → ℕ → (P → Ask) → Listed P → Ask
list_ask w ask b a zero c = done c
list_ask w ask b a (suc n) c =
    let y = item w b.offsets (a + suc n) - item w b.offsets a in
    guard (ltb (rows_of (kid_of c 0) + y) (half w)) 6
    (then (ask_of ask b.child (item w b.offsets a) y (kid_of c 0)) (λ k. done (counts (rows_of c + suc n) 0 (λ e. k))))

-- each of the children in order: the first refusal, or done
abbrev pub each : (ℕ → Try Counts) → List ℕ → Try Counts → Try Counts
each f [] t = t
each f (c ∷ cs) t = then (f c) (λ x. each f cs t)

-- which ids are declared, and the counts of their children
abbrev pub has : List ℕ → ℕ → Bool
has [] e = false
has (c ∷ cs) e = cond (eqb e c) true (has cs e)

abbrev pub among : List ℕ → (ℕ → Counts) → ℕ → Counts
among ids f e = cond (has ids e) (f e) absent

abbrev pub sparse_all : List ℕ → (ℕ → Try Counts) → ℕ → Try Counts
sparse_all ids f l = each f ids (done (counts l 0 (among ids (λ e. after (f e) absent))))

abbrev pub sparse_ask : {P : ℕ → Type 0} → List ℕ → ((c : ℕ) → P c → Ask) → Sparse P → Ask
sparse_ask ids ask b a n c = sparse_all ids (λ e. ask_of (ask e) (b.children e) a n (kid_of c e)) (rows_of c + n)

-- the counts of the children with child e's replaced
abbrev pub with_kid : Counts → ℕ → Counts → ℕ → Counts
with_kid c e k x = cond (eqb x e) k (kid_of c x)

-- "[a] dense position does not fit its type", before its child
abbrev pub dense_row : {P : ℕ → Type 0} → ((c : ℕ) → P c → Ask) → Dense P → ℕ → Counts → Try Counts
dense_row ask b i c =
    let e = get_or b.ids i 0 in
    guard (ltb (rows_of (kid_of c e)) (half 4)) 6
    (then (ask_of (ask e) (b.children e) (item 4 b.positions i) 1 (kid_of c e)) (λ k. done (counts (suc (rows_of c)) 0 (with_kid c e k))))

abbrev pub dense_ask : {P : ℕ → Type 0} → ((c : ℕ) → P c → Ask) → Dense P → Ask
dense_ask ask b a n c = steps_t (dense_row ask b) a n c

-- the first run of the slots a .. a + n - 1, and how many runs they touch
abbrev pub first_run : {P : Type 0} → ℕ → RunEnd P → ℕ → ℕ
first_run w b a = first_above (end_of w b.ends) a 0 b.ends.len

abbrev pub run_count : {P : Type 0} → ℕ → RunEnd P → ℕ → ℕ → ℕ
run_count w b a n = suc (first_run w b (a + n - 1)) - first_run w b a

-- "Ground 7 exactly if the last run end plus the row count exceeds the type", before its values; "a copy of length 0 adds nothing"
abbrev pub run_end_ask : {P : Type 0} → ℕ → (P → Ask) → RunEnd P → Ask
run_end_ask w ask b a zero c = done c
run_end_ask w ask b a (suc n) c =
    guard (ltb (rows_of c + suc n) (half w)) 7
    (then (ask_of ask b.values (first_run w b a) (run_count w b a (suc n)) (kid_of c 0)) (λ k. done (counts (rows_of c + suc n) (min (bytes_of c) 1) (λ e. k))))

-- A COPY AT A NODE
abbrev pub ask_copy : (t : Ty) → Body t → Ask
ask_copy (t_plain p) = plain_ask p
ask_copy t_view = λ b a n c. more_rows n c
ask_copy (t_list_view w t) = list_view_ask w (ask_copy t)
ask_copy (t_list w t) = list_ask w (ask_copy t)
ask_copy (t_sparse ids nullable f) = sparse_ask ids (λ c. ask_copy (f c))
ask_copy (t_dense ids nullable f) = dense_ask (λ c. ask_copy (f c))
ask_copy (t_run_end w t) = run_end_ask w (ask_copy t)
ask_copy (t_dictionary k p) = λ b a n c. more_rows n c

-- an order of n nulls at a node
abbrev pub AskNulls : Type 0
AskNulls = ℕ → Counts → Try Counts

-- "then 4 or 5, .. children in order"
abbrev pub sparse_nulls : List ℕ → (ℕ → Bool) → (ℕ → AskNulls) → AskNulls
sparse_nulls ids nullable ask n c = then (home nullable ids) (λ h. sparse_all ids (λ e. ask e n (kid_of c e)) (rows_of c + n))

-- "4 or 5, dense 6": the positions of n nulls are the child's rows from its length on
abbrev pub dense_nulls : List ℕ → (ℕ → Bool) → (ℕ → AskNulls) → AskNulls
dense_nulls ids nullable ask n c =
    then (home nullable ids)
    (λ h.
    guard (leb (rows_of (kid_of c h) + n) (half 4)) 6
    (then (ask h n (kid_of c h)) (λ k. done (counts (rows_of c + n) 0 (with_kid c h k)))))

-- "a run-end node asks its values before 7"; where its last run grows, it "asks the values for nothing"
abbrev pub run_end_nulls : ℕ → AskNulls → AskNulls
run_end_nulls w ask n c =
    cond (eqb (bytes_of c) 2) (guard (ltb (rows_of c + n) (half w)) 7 (done (counts (rows_of c + n) 2 (λ e. kid_of c 0))))
    (then (ask 1 (kid_of c 0)) (λ k. guard (ltb (rows_of c + n) (half w)) 7 (done (counts (rows_of c + n) (cond (eqb (bytes_of c) 0) 0 2) (λ e. k)))))

abbrev pub plain_nulls : Plain → AskNulls
plain_nulls (fixed k) n c = more_rows n c
plain_nulls (string w) n c = done (counts (rows_of c + n) (bytes_of c) leaf)

-- "count 0 accepted" before anything else
abbrev pub unless_none : AskNulls → AskNulls
unless_none ask zero c = done c
unless_none ask (suc n) c = ask (suc n) c

-- n nulls more, n not 0
abbrev pub nulls_ask : Ty → AskNulls
nulls_ask (t_plain p) = plain_nulls p
nulls_ask t_view = more_rows
nulls_ask (t_list_view w t) = λ n c. done (counts (rows_of c + n) 0 (kid_of c))
nulls_ask (t_list w t) = λ n c. done (counts (rows_of c + n) 0 (kid_of c))
nulls_ask (t_sparse ids nullable f) = sparse_nulls ids nullable (λ e. unless_none (nulls_ask (f e)))
nulls_ask (t_dense ids nullable f) = dense_nulls ids nullable (λ e. unless_none (nulls_ask (f e)))
nulls_ask (t_run_end w t) = run_end_nulls w (unless_none (nulls_ask t))
nulls_ask (t_dictionary k p) = more_rows

-- NULLS AT A NODE
abbrev pub ask_nulls : Ty → AskNulls
ask_nulls t = unless_none (nulls_ask t)

-- what a destination with no rows holds
abbrev pub start_counts : Bool → Ty → Counts
start_counts gaps (t_plain p) = counts 0 0 leaf
start_counts gaps t_view = counts 0 0 leaf
start_counts gaps (t_list_view w t) = counts 0 0 (λ e. start_counts gaps t)
start_counts gaps (t_list w t) = counts 0 0 (λ e. start_counts gaps t)
start_counts gaps (t_sparse ids nullable f) = counts 0 0 (among ids (λ e. start_counts gaps (f e)))
start_counts gaps (t_dense ids nullable f) = counts 0 0 (among ids (λ e. start_counts gaps (f e)))
start_counts gaps (t_run_end w t) = counts 0 (cond gaps 1 0) (λ e. start_counts gaps t)
start_counts gaps (t_dictionary k p) = counts 0 0 leaf
