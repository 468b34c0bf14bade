-- The rule of node i of a source is that of node first + i of the tables. Assumes nothing.
use mathlib.Core.Path.{◌≡◌, refl, sym, ap, fun_ext, ◌∙◌}
use mathlib.Core.Bool.{Bool, true, false, cond, ◌&&◌}
use mathlib.Core.List.{List}
use mathlib.Core.Option.{none, some}
use Prim.Native.Nat.{ℕ, suc, ◌+◌, ◌*◌, ◌<◌}
use native.Mathlib.Omega.{arith}
use native.Mathlib.Nat.{add-suc}
use lib.ListN.{length, drop, get_or, length-drop}
use lib.Seq.{get_or-drop}
use lib.Dec.{leb, eqb}
use borrow.Author.Tests.{le-leb, lt-leb, leb-true, leb-false}
use Rattle.columnar.specs.Types.{Number, string}
use Rattle.columnar.specs.Array.{Array}
use Rattle.columnar.specs.Test.{array_test, plain_test, list_test, sparse_test, dense_test}
use Rattle.array_data.specs.Tables.{Tables, part, length_of, offset_of, place, first_buffer, second_buffer, array_with, held}
use Rattle.array_data.specs.Rules.{one_in, two_in, fixed_rule, string_rule, view_rule, list_view_rule, list_rule, sparse_rule, dense_rule, run_end_rule, dictionary_rule}
use Rattle.array_data.specs.Typed.{tables_from}

-- entry k behind the first m
at_from : (m k n : ℕ) (l : List ℕ) → m + k ≡ n → get_or (drop m l) k 0 ≡ get_or l n 0
at_from m k n l e = get_or-drop m l k 0 ∙ ap (λ k. get_or l k 0) e

-- k entries behind the first m
has_from : (m k n : ℕ) (l : List ℕ) → 0 < k → m + k ≡ n → leb k (length (drop m l)) ≡ leb n (length l)
has_from m k n l p e = go (leb n (length l)) refl
  where
    go : (b : Bool) → leb n (length l) ≡ b → leb k (length (drop m l)) ≡ leb n (length l)
    go true h = le-leb k (length (drop m l)) (omega (arith, length-drop m l, leb-true n (length l) h)) ∙ sym h
    go false h = lt-leb k (length (drop m l)) (omega (arith, length-drop m l, leb-false n (length l) h)) ∙ sym h

-- the rule of a byte string over what its node has in the tables
string_as : (w : ℕ) (body : List ℕ) (h : Bool) (p : ℕ → ℕ) (len off : ℕ) → Bool
string_as w body h p len off =
    h && cond (eqb (p 0) 0) true (leb (p 1 + p 2) (length body)) && leb (p 3 + p 4) (length body) && leb (p 5 + p 6) (length body)
    && array_test true (plain_test (string w)) (record {
      len = len;
      off = off;
      valid = cond (eqb (p 0) 0) none (some (part body (p 1) (p 2)));
      body = record { offsets = part body (p 3) (p 4); chars = part body (p 5) (p 6) };
    })

same_string : (w : ℕ) (body : List ℕ) {h h' : Bool} {p p' : ℕ → ℕ} {len len' off off' : ℕ} → h ≡ h' → p ≡ p' → len ≡ len' → off ≡ off'
    → string_as w body h p len off ≡ string_as w body h' p' len' off'
same_string w body e f g k = cc

-- .. and of a list
list_as : (w : ℕ) (body : List ℕ) (h : Bool) (p : ℕ → ℕ) (len off below : ℕ) → Bool
list_as w body h p len off below =
    h && cond (eqb (p 0) 0) true (leb (p 1 + p 2) (length body)) && leb (p 3 + p 4) (length body)
    && array_test true (list_test w (λ c. true)) (record {
      len = len;
      off = off;
      valid = cond (eqb (p 0) 0) none (some (part body (p 1) (p 2)));
      body = record { offsets = part body (p 3) (p 4); child = record { len = below; off = 0; valid = none; body = tt {0} } };
    })

same_list : (w : ℕ) (body : List ℕ) {h h' : Bool} {p p' : ℕ → ℕ} {len len' off off' below below' : ℕ} → h ≡ h' → p ≡ p' → len ≡ len' → off ≡ off' → below ≡ below'
    → list_as w body h p len off below ≡ list_as w body h' p' len' off' below'
same_list w body e f g k b = cc

module _ (x : Tables) (first : ℕ) where
  pub length_from : (i : ℕ) → length_of (tables_from x first) i ≡ length_of x (first + i)
  length_from i = at_from (2 * first) (2 * i) (2 * (first + i)) x.lengths (omega arith)

  pub offset_from : (i : ℕ) → offset_of (tables_from x first) i ≡ offset_of x (first + i)
  offset_from i = at_from (2 * first) (2 * i + 1) (2 * (first + i) + 1) x.lengths (omega arith)

  pub place_from : (i j : ℕ) → place (tables_from x first) i j ≡ place x (first + i) j
  place_from i j = at_from (9 * first) (9 * i + j) (9 * (first + i) + j) x.places (omega arith)

  pub held_from : (i : ℕ) → held (tables_from x first) i ≡ held x (first + i)
  held_from i =
      ap (λ b. b && leb (9 * suc i) (length (drop (9 * first) x.places)))
      (has_from (2 * first) (2 * suc i) (2 * suc (first + i)) x.lengths (omega arith) (omega arith))
      ∙ ap (λ b. leb (2 * suc (first + i)) (length x.lengths) && b)
      (has_from (9 * first) (9 * suc i) (9 * suc (first + i)) x.places (omega arith) (omega arith))

  -- ---- the kinds

  pub fixed_from : (i : ℕ) (n : Number) → fixed_rule (tables_from x first) i n ≡ fixed_rule x (first + i) n
  fixed_from i n = rw (held_from i, place_from i 0, place_from i 1, place_from i 2, place_from i 3, place_from i 4, length_from i, offset_from i)

  pub string_from : (i w : ℕ) → string_rule (tables_from x first) i w ≡ string_rule x (first + i) w
  unfolding string_as
  string_from i w = same_string w x.body (held_from i) (fun_ext (λ j. place_from i j)) (length_from i) (offset_from i)

  pub view_from : (i : ℕ) → view_rule (tables_from x first) i ≡ view_rule x (first + i)
  view_from i = rw (held_from i, place_from i 0, place_from i 1, place_from i 2, place_from i 3, place_from i 4, place_from i 7, place_from i 8, length_from i, offset_from i)

  pub list_view_from : (i w : ℕ) → list_view_rule (tables_from x first) i w ≡ list_view_rule x (first + i) w
  list_view_from i w = rw (held_from i, place_from i 0, place_from i 1, place_from i 2, place_from i 3, place_from i 4, place_from i 5, place_from i 6, length_from i, offset_from i, length_from (suc i), add-suc first i)

  pub list_from : (i w : ℕ) → list_rule (tables_from x first) i w ≡ list_rule x (first + i) w
  unfolding list_as
  list_from i w =
      same_list w x.body (held_from i) (fun_ext (λ j. place_from i j)) (length_from i) (offset_from i) (length_from (suc i) ∙ ap (length_of x) (add-suc first i))

  pub dictionary_from : (i : ℕ) (n : Number) → dictionary_rule (tables_from x first) i n ≡ dictionary_rule x (first + i) n
  dictionary_from i n = rw (held_from i, place_from i 0, place_from i 1, place_from i 2, place_from i 3, place_from i 4, length_from i, offset_from i, length_from (suc i), add-suc first i)

  pub run_end_from : (i w : ℕ) → run_end_rule (tables_from x first) i w ≡ run_end_rule x (first + i) w
  run_end_from i w =
      rw (
        held_from i,
        place_from i 0,
        place_from i 1,
        place_from i 2,
        length_from i,
        offset_from i,
        place_from (suc i) 0,
        place_from (suc i) 1,
        place_from (suc i) 2,
        place_from (suc i) 3,
        place_from (suc i) 4,
        length_from (suc i),
        offset_from (suc i),
        length_from (suc (suc i)),
        add-suc first (suc i),
        add-suc first i,
      )

  -- the children of a union, by their lengths
  abbrev kids : (ℕ → ℕ) → ℕ → Array (Unit {0})
  kids f c = record { len = f c; off = 0; valid = none; body = tt }

  pub sparse_from : (i : ℕ) (ids : List ℕ) (node : ℕ → ℕ) → sparse_rule (tables_from x first) i ids node ≡ sparse_rule x (first + i) ids (λ c. first + node c)
  sparse_from i ids node =
      let y = tables_from x first in
      ap (λ f. one_in y i && array_test false (sparse_test ids (λ c a. true)) (array_with y (record { ids = first_buffer y i; children = kids f }) i))
      (fun_ext (λ c. length_from (node c)))
      ∙ rw (held_from i, place_from i 0, place_from i 1, place_from i 2, place_from i 3, place_from i 4, length_from i, offset_from i)

  pub dense_from : (i : ℕ) (ids : List ℕ) (node : ℕ → ℕ) → dense_rule (tables_from x first) i ids node ≡ dense_rule x (first + i) ids (λ c. first + node c)
  dense_from i ids node =
      let y = tables_from x first in
      ap
      (λ f. two_in y i && array_test false (dense_test ids (λ c a. true)) (array_with y (record { ids = first_buffer y i; positions = second_buffer y i; children = kids f }) i))
      (fun_ext (λ c. length_from (node c)))
      ∙ rw (held_from i, place_from i 0, place_from i 1, place_from i 2, place_from i 3, place_from i 4, place_from i 5, place_from i 6, length_from i, offset_from i)
