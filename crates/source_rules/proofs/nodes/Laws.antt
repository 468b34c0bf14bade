-- What the rules of a node go by: rows of buffers that lie in the body. Assumes nothing.
use mathlib.Core.Path.{◌≡◌, refl, sym, ap, ◌∙◌}
use mathlib.Core.Bool.{Bool, true, false, cond, ◌&&◌, ◌||◌, and-true}
use mathlib.Core.List.{List, [], ◌∷◌}
use Prim.Native.Nat.{ℕ, suc, ◌+◌, ◌*◌, ◌≤◌, ◌<◌}
use native.Mathlib.Nat.{mul-pos, pos_of_ne-zero, mul_comm, mul-add, mul-one}
use native.Mathlib.Numerals.{add-one}
use native.Mathlib.Omega.{arith}
use lib.ListN.{length}
use lib.Dec.{leb, eqb}
use borrow.Author.Tests.{lt-leb, eqb-true, eqb-false}
use Rattle.columnar.specs.Types.{Number, width, string}
use Rattle.columnar.specs.Array.{Array, ok}
use Rattle.columnar.specs.Test.{same, plain_test, offsets_rule, list_view_test}
use Rattle.array_data.specs.Tables.{Tables, length_of, offset_of, valid_of, place, part}
use Rattle.array_data.specs.Rules.{child_of, one_in, two_in, fixed_rule, string_rule, list_view_rule, list_rule}
use Rattle.row_rules.proofs.Links.{length_part, offsets_test_lem, list_view_test_lem}
use Rattle.array_data.specs.lent_tables.Lent.{mask_of}
use Rattle.array_data.proofs.lent_tables.Laws.{first_in, two_one, second_in}
use Rattle.source_rules.specs.nodes.Rows.{string_rows, views_rows}

-- what a test of n entries of k bytes says of entries of w
pub fit : {w k : ℕ} (n size : ℕ) {r b : Bool} → k ≡ w → r ≡ leb (n * k) size → r ≡ b → leb (n * w) size ≡ b
fit {w} {k} n size {r} {b} e h q = let t : leb (n * k) size ≡ b = sym h ∙ q in rw e at t

-- the bytes of the slots before an array's rows, of its rows, and of one more
pub slots_in : (w off len : ℕ) → (off + len + 1) * w ≡ w * off + w * len + w
slots_in w off len = rw (mul_comm (off + len + 1) w, mul-add, mul-add, mul-one)

-- ---- rows of buffers that lie in the body

same_nil : {l : List ℕ} → l ≡ [] → same l [] ≡ true
same_nil e = rw e

same_some : (l : List ℕ) → 0 < length l → same l [] ≡ false
same_some [] h = absurd (omega arith)
same_some (y ∷ l) h = refl

choose : (z e len : Bool) {o x : Bool} → (z ≡ true → e ≡ true) → (z ≡ true → o ≡ false) → (z ≡ false → e ≡ false) → o ≡ x → len && e || o ≡ cond z len x
choose true e true f g h d = rw (f refl)
choose true e false f g h d = g refl
choose false e true f g h d = rw (h refl) d
choose false e false f g h d = d

module _ (w : ℕ) (s : List ℕ) (start size : ℕ) (inside : start + size ≤ length s) where
  offsets_rule_lem : 0 < w → (most off len : ℕ) → offsets_rule w (part s start size) most off len ≡ string_rows w s start size off len most
  unfolding string_rows
  offsets_rule_lem h most off len =
      let t = offsets_test_lem w s start size inside (part s start size) most refl off len in
      let m : length (part s start size) ≡ size = length_part w s start size inside in
      choose (eqb size 0) (same (part s start size) []) (eqb len 0)
      (λ z. let q : size ≡ 0 = eqb-true size 0 z in rw q)
      (λ z. let q : size ≡ 0 = eqb-true size 0 z in t ∙ rw (lt-leb ((off + len + 1) * w) size (rw q (mul-pos (omega arith) h))))
      (λ z. same_some (part s start size) (rw m (pos_of_ne-zero (eqb-false size 0 z))))
      t

module _ (w : ℕ) (s : List ℕ) (start size begin room : ℕ) (inside : start + size ≤ length s) (within : begin + room ≤ length s) where
  pub string_test : 0 < w → (good : ℕ → Bool) (off len : ℕ)
      → plain_test (string w) good (record { offsets = part s start size; chars = part s begin room }) off len ≡ string_rows w s start size off len room
  string_test h good off len = let l : length (part s begin room) ≡ room = length_part w s begin room within in rw l (offsets_rule_lem w s start size inside h room off len)

  pub list_view_rows_lem : {P : Type 0} (good : ℕ → Bool) (off len : ℕ) (child : Array P)
      → list_view_test w (λ c. true) good (record { offsets = part s start size; sizes = part s begin room; child = child }) off len
      ≡ views_rows w s start size begin room off len child.len
  unfolding views_rows
  list_view_rows_lem good off len child =
      list_view_test_lem w s start size begin room (record { offsets = part s start size; sizes = part s begin room; child = child }) refl refl inside within (λ c. true) good off len
      ∙ and-true (views_rows w s start size begin room off len child.len)

-- ---- one node

module _ (x : Tables) (k : ℕ) where
  -- numbers of w bytes
  pub fixed_last : {r : Bool} {count w size : ℕ} → one_in x k ≡ true → mask_of x k true ≡ true
      → r ≡ leb (count * w) size → count ≡ offset_of x k + length_of x k → size ≡ place x k 4
      → (n : Number) → width n ≡ w → r ≡ fixed_rule x k n
  fixed_last h m e c z n l = rw (h, m, length_part 0 x.body (place x k 3) (place x k 4) (first_in x k h), l, ← c, ← z) e

  -- byte strings
  pub string_last : (w : ℕ) {r : Bool} {start size off len chars : ℕ} → 0 < w → two_in x k ≡ true → mask_of x k true ≡ true
      → r ≡ string_rows w x.body start size off len chars
      → start ≡ place x k 3 → size ≡ place x k 4 → chars ≡ place x k 6 → off ≡ offset_of x k → len ≡ length_of x k → r ≡ string_rule x k w
  string_last w {r} p h m e a b c d l =
      let f : r ≡ string_rows w x.body (place x k 3) (place x k 4) (offset_of x k) (length_of x k) (place x k 6) = rw (a, b, c, d, l) at e in
      rw (h, m)
      (f ∙ sym (string_test w x.body (place x k 3) (place x k 4) (place x k 5) (place x k 6) (first_in x k (two_one x k h)) (second_in x k h) p (ok (valid_of x k)) (offset_of x k) (length_of x k)))

  -- lists; the child is the next node
  pub list_last : (w : ℕ) {r : Bool} {start size off len child : ℕ} → 0 < w → one_in x k ≡ true → mask_of x k true ≡ true
      → r ≡ string_rows w x.body start size off len child
      → start ≡ place x k 3 → size ≡ place x k 4 → off ≡ offset_of x k → len ≡ length_of x k → child ≡ length_of x (k + 1) → r ≡ list_rule x k w
  list_last w {r} p h m e a b d l g =
      let f : r ≡ string_rows w x.body (place x k 3) (place x k 4) (offset_of x k) (length_of x k) (length_of x (suc k)) = rw (a, b, d, l, g, add-one k) at e in
      rw (h, m)
      (f
      ∙ sym (and-true (string_rows w x.body (place x k 3) (place x k 4) (offset_of x k) (length_of x k) (length_of x (suc k))))
      ∙ sym (ap (λ b. b && true) (offsets_rule_lem w x.body (place x k 3) (place x k 4) (first_in x k h) p (length_of x (suc k)) (offset_of x k) (length_of x k))))

  -- list-views; the child is the next node
  pub list_view_last : (w : ℕ) {r : Bool} {start size begin room off len child : ℕ} → two_in x k ≡ true → mask_of x k true ≡ true
      → r ≡ views_rows w x.body start size begin room off len child
      → start ≡ place x k 3 → size ≡ place x k 4 → begin ≡ place x k 5 → room ≡ place x k 6 → off ≡ offset_of x k → len ≡ length_of x k
      → child ≡ length_of x (k + 1) → r ≡ list_view_rule x k w
  list_view_last w {r} h m e a b c d o l g =
      let f : r ≡ views_rows w x.body (place x k 3) (place x k 4) (place x k 5) (place x k 6) (offset_of x k) (length_of x k) (length_of x (suc k)) =
      rw (a, b, c, d, o, l, g, add-one k) at e in
      rw (h, m)
      (f ∙ sym (list_view_rows_lem w x.body (place x k 3) (place x k 4) (place x k 5) (place x k 6) (first_in x k (two_one x k h)) (second_in x k h) (ok (valid_of x k)) (offset_of x k) (length_of x k) (child_of x (suc k))))
