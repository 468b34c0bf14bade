-- The rules of a source (01, "A source the opening takes") as a test that computes, one function a kind. proofs/Test.antt shows that it
-- passes exactly the sources that obey. Assumes nothing.
use Rattle.std.specs.Prelude.{Bool, true, false, cond, ◌&&◌, ◌||◌, List, [], ◌∷◌, ℕ, zero, suc, ◌+◌, ◌*◌, length, take, drop, get_or, leb, ltb, eqb}
use Rattle.std.proofs.Math.Option.{Option, none, some}
use Rattle.columnar.specs.Types.{Number, width, half, limit, Plain, fixed, string, Ty, t_plain, t_view, t_list_view, t_list, t_sparse, t_dense, t_run_end, t_dictionary}
use Rattle.columnar.specs.Array.{Array, item, ok}
use Rattle.columnar.specs.Plain.{Text, PlainBody}
use Rattle.columnar.specs.View.{Views, view_of, length_of, buffer_of, offset_of}
use Rattle.columnar.specs.ListView.{ListView}
use Rattle.columnar.specs.List.{Listed}
use Rattle.columnar.specs.Union.{Sparse, Dense}
use Rattle.columnar.specs.RunEnd.{RunEnd, end_of, start_of}
use Rattle.columnar.specs.Dictionary.{Dictionary}
use Rattle.columnar.specs.Reading.{Body, Column, masks}

-- p holds of every i below n
abbrev pub every : (ℕ → Bool) → ℕ → Bool
every p zero = true
every p (suc n) = every p n && p n

-- p holds of every member
abbrev pub each : (ℕ → Bool) → List ℕ → Bool
each p [] = true
each p (c ∷ cs) = p c && each p cs

-- c is in the list
abbrev pub member : ℕ → List ℕ → Bool
member c [] = false
member c (d ∷ ds) = eqb c d || member c ds

-- the same list
abbrev pub same : List ℕ → List ℕ → Bool
same [] [] = true
same [] (y ∷ ys) = false
same (x ∷ xs) [] = false
same (x ∷ xs) (y ∷ ys) = same xs ys && eqb x y

-- q where b, and nothing asked where not
abbrev pub only_if : Bool → Bool → Bool
only_if b q = cond b q true

-- a bit for each slot; "no validity buffer on a union or run-end node"
abbrev pub mask_test : Bool → Option (List ℕ) → ℕ → Bool
mask_test b none n = true
mask_test true (some m) n = leb n (8 * length m)
mask_test false (some m) n = false

-- an array: its validity, and its slots by the test of its kind
abbrev pub array_test : {B : Type 0} → Bool → ((ℕ → Bool) → B → ℕ → ℕ → Bool) → Array B → Bool
array_test may slots x = mask_test may x.valid (x.off + x.len) && slots (ok x.valid) x.body x.off x.len

-- "byte-string offsets: first not negative, never falling, last within the data", which has `most` bytes
abbrev pub offsets_to : ℕ → List ℕ → ℕ → ℕ → ℕ → Bool
offsets_to w s most off len =
    leb ((off + len + 1) * w) (length s)
    && every (λ i. ltb (item w s (off + i)) (half w)) (suc len)
    && every (λ i. leb (item w s (off + i)) (item w s (off + i + 1))) len
    && leb (item w s (off + len)) most

abbrev pub offsets_test : ℕ → Text → ℕ → ℕ → Bool
offsets_test w b off len = offsets_to w b.offsets (length b.chars) off len

-- "a byte string of length 0 may have an empty offsets buffer"
abbrev pub offsets_rule : ℕ → List ℕ → ℕ → ℕ → ℕ → Bool
offsets_rule w s most off len = eqb len 0 && same s [] || offsets_to w s most off len

abbrev pub plain_test : (p : Plain) → (ℕ → Bool) → PlainBody p → ℕ → ℕ → Bool
plain_test (fixed n) ok b off len = leb ((off + len) * width n) (length b)
plain_test (string w) ok b off len = offsets_rule w b.offsets (length b.chars) off len

-- "above 12, a known buffer, a range inside it, and a prefix equal to its first four bytes"
abbrev pub lies_test : List (List ℕ) → List ℕ → Bool
lies_test bufs v =
    ltb (buffer_of v) (length bufs)
    && leb (offset_of v + length_of v) (length (get_or bufs (buffer_of v) []))
    && same (take 4 (drop 4 v)) (take 4 (drop (offset_of v) (get_or bufs (buffer_of v) [])))

-- "length up to 2^31-1"
abbrev pub one_view_test : List (List ℕ) → List ℕ → Bool
one_view_test bufs v = ltb (length_of v) 2147483648 && only_if (ltb 12 (length_of v)) (lies_test bufs v)

-- "a view whose bit is 1"
abbrev pub view_test : (ℕ → Bool) → Views → ℕ → ℕ → Bool
view_test ok b off len =
    leb ((off + len) * 16) (length b.views) && every (λ i. only_if (ok (off + i)) (one_view_test b.buffers (view_of b.views (off + i)))) len

-- "list-view offset and size not negative, their sum within the child"
abbrev pub entry_test : {P : Type 0} → ℕ → ListView P → ℕ → Bool
entry_test w b i =
    ltb (item w b.offsets i) (half w) && ltb (item w b.sizes i) (half w) && leb (item w b.offsets i + item w b.sizes i) b.child.len

-- "null rows included"
abbrev pub list_view_test : {P : Type 0} → ℕ → (Array P → Bool) → (ℕ → Bool) → ListView P → ℕ → ℕ → Bool
list_view_test w kid ok b off len =
    leb ((off + len) * w) (length b.offsets)
    && leb ((off + len) * w) (length b.sizes)
    && every (λ i. entry_test w b (off + i)) len
    && kid b.child

-- "offsets follow the byte-string rule, with child rows in place of bytes"
abbrev pub list_test : {P : Type 0} → ℕ → (Array P → Bool) → (ℕ → Bool) → Listed P → ℕ → ℕ → Bool
list_test w kid ok b off len = offsets_rule w b.offsets b.child.len off len && kid b.child

-- "union ids declared; sparse children at least offset + length long"
abbrev pub sparse_test : {P : ℕ → Type 0} → List ℕ → ((c : ℕ) → Array (P c) → Bool) → (ℕ → Bool) → Sparse P → ℕ → ℕ → Bool
sparse_test ids kid ok b off len =
    leb (off + len) (length b.ids)
    && every (λ i. member (get_or b.ids (off + i) 0) ids) len
    && each (λ c. leb (off + len) (b.children c).len) ids
    && each (λ c. kid c (b.children c)) ids

-- "dense positions within the child"
abbrev pub dense_test : {P : ℕ → Type 0} → List ℕ → ((c : ℕ) → Array (P c) → Bool) → (ℕ → Bool) → Dense P → ℕ → ℕ → Bool
dense_test ids kid ok b off len =
    leb (off + len) (length b.ids)
    && leb ((off + len) * 4) (length b.positions)
    && every (λ i. member (get_or b.ids (off + i) 0) ids) len
    && every (λ i. ltb (item 4 b.positions (off + i)) (half 4)) len
    && every (λ i. ltb (item 4 b.positions (off + i)) (b.children (get_or b.ids (off + i) 0)).len) len
    && each (λ c. kid c (b.children c)) ids

-- "run ends without nulls, rising strictly from at least 1"
abbrev pub ends_test : ℕ → Array (List ℕ) → Bool
ends_test w x =
    mask_test true x.valid (x.off + x.len)
    && leb ((x.off + x.len) * w) (length x.body)
    && every (λ k. ok x.valid (x.off + k)) x.len
    && every (λ k. ltb (end_of w x k) (half w)) x.len
    && every (λ k. ltb (start_of (end_of w x) k) (end_of w x k)) x.len

-- "the last at least offset + length (no run needed if that sum is 0); as many values as run ends"
abbrev pub run_end_test : {P : Type 0} → ℕ → (Array P → Bool) → (ℕ → Bool) → RunEnd P → ℕ → ℕ → Bool
run_end_test w kid okay b off len =
    ends_test w b.ends
    && leb (off + len) (start_of (end_of w b.ends) b.ends.len)
    && eqb b.values.len b.ends.len
    && kid b.values

-- "a key whose bit is 1 lies within its dictionary; a key under a null may be anything"
abbrev pub dictionary_test : {P : Type 0} → Number → (Array P → Bool) → (ℕ → Bool) → Dictionary P → ℕ → ℕ → Bool
dictionary_test k kid ok b off len =
    leb ((off + len) * width k) (length b.keys)
    && every (λ i. only_if (ok (off + i)) (ltb (item (width k) b.keys (off + i)) (limit k))) len
    && every (λ i. only_if (ok (off + i)) (ltb (item (width k) b.keys (off + i)) b.values.len)) len
    && kid b.values

-- the slots of every kind
abbrev pub slot_test : (t : Ty) → (ℕ → Bool) → Body t → ℕ → ℕ → Bool
slot_test (t_plain p) = plain_test p
slot_test t_view = view_test
slot_test (t_list_view w t) = list_view_test w (array_test (masks t) (slot_test t))
slot_test (t_list w t) = list_test w (array_test (masks t) (slot_test t))
slot_test (t_sparse ids nullable f) = sparse_test ids (λ c. array_test (masks (f c)) (slot_test (f c)))
slot_test (t_dense ids nullable f) = dense_test ids (λ c. array_test (masks (f c)) (slot_test (f c)))
slot_test (t_run_end w t) = run_end_test w (array_test (masks t) (slot_test t))
slot_test (t_dictionary k p) = dictionary_test k (array_test true (plain_test p))

-- THE TEST OF A SOURCE
abbrev pub test : (t : Ty) → Column t → Bool
test t = array_test (masks t) (slot_test t)
