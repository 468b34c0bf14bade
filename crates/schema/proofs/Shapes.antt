-- The shapes of a node by its code, one asked behind the other. Assumes nothing.
use mathlib.Core.Path.{◌≡◌, refl}
use mathlib.Core.Bool.{Bool, true, false, cond, ◌&&◌, ◌||◌}
use mathlib.Core.List.{List}
use Prim.Native.Nat.{ℕ, zero, suc, ◌+◌, ◌≤◌, ◌<◌}
use native.Mathlib.Omega.{arith}
use lib.Dec.{leb, ltb, eqb}
use borrow.Author.Tests.{le-leb}
use Rattle.schema.specs.formats.Code.{is_integer, is_fixed, is_string, is_view, is_list_view, is_list, is_union, is_run_end}
use Rattle.schema.specs.Tree.{children, dictionary, bare, child_for_each, end_of, depth, code_of, ids_of, values_shape, ends_shape, leaf_shape, keys_shape, list_shape, union_shape, run_shape, shape}
use Rattle.schema.proofs.Counts.{count}

-- ---- tests one behind the other

pub or_1 : (a b c d e : Bool) → a ≡ true → a || b || c || d || e ≡ true
or_1 a b c d e h = rw h

pub or_2 : (a b c d e : Bool) → a ≡ false → b ≡ true → a || b || c || d || e ≡ true
or_2 a b c d e h k = rw (h, k)

pub or_3 : (a b c d e : Bool) → a ≡ false → b ≡ false → c ≡ true → a || b || c || d || e ≡ true
or_3 a b c d e h k l = rw (h, k, l)

pub or_4 : (a b c d e : Bool) → a ≡ false → b ≡ false → c ≡ false → d ≡ true → a || b || c || d || e ≡ true
or_4 a b c d e h k l m = rw (h, k, l, m)

pub or_5 : (a b c d e : Bool) → a ≡ false → b ≡ false → c ≡ false → d ≡ false → a || b || c || d || e ≡ e
or_5 a b c d e h k l m = rw (h, k, l, m)

pub and_no : (a b : Bool) → a ≡ false → a && b ≡ false
and_no a b h = rw h

pub and_yes : (a b : Bool) → a ≡ true → a && b ≡ b
and_yes a b h = rw h

-- a code's test and two numbers, as they were read
pub and_3 : (x x' : Bool) (a a' d d' n m : ℕ) → x ≡ x' → a ≡ a' → d ≡ d' → x' && eqb a' n && eqb d' m ≡ x && eqb a n && eqb d m
and_3 x x' a a' d d' n m e f g = rw (e, f, g)

pub or_right : (a b : Bool) → b ≡ true → a || b ≡ true
or_right true b h = refl
or_right false b h = h

pub or_left : (a b : Bool) → b ≡ false → a || b ≡ a
or_left true b h = refl
or_left false b h = h

-- ---- a node's shape

module _ (formats schema : List ℕ) (first i k : ℕ) where
  abbrev pub leaf_by : Bool
  leaf_by = (is_fixed k || is_string k || is_view k) && bare schema first i

  abbrev pub keys_by : Bool
  keys_by = is_integer k && eqb (children schema first i) 0 && eqb (dictionary schema first i) 1 && values_shape formats schema first (suc i)

  abbrev pub list_by : Bool
  list_by = (is_list_view k || is_list k) && eqb (children schema first i) 1 && eqb (dictionary schema first i) 0

  abbrev pub union_by : Bool
  union_by = is_union k && child_for_each schema first (ids_of formats schema first i) i && eqb (dictionary schema first i) 0

  abbrev pub runs_by : Bool
  runs_by = is_run_end k && eqb (children schema first i) 2 && eqb (dictionary schema first i) 0 && ends_shape formats schema first (suc i)

  pub shape_by : k ≡ code_of formats schema first i → shape formats schema first i ≡ leaf_by || keys_by || list_by || union_by || runs_by
  unfolding shape leaf_shape keys_shape list_shape union_shape run_shape
  shape_by e = rw e

-- ---- the ceilings

-- no more of n than n
count_most : (p : ℕ → Bool) (n : ℕ) → count p n ≤ n
unfolding count
count_most p zero = omega arith
count_most p (suc n) = most_by (p n) (count p n) n (count_most p n)
  where
    most_by : (x : Bool) (a n : ℕ) → a ≤ n → a + cond x 1 0 ≤ suc n
    most_by true a n l = omega arith
    most_by false a n l = omega arith

pub shallow_low : (schema : List ℕ) (first n i : ℕ) → i < 8 → leb (depth schema first n i) 8 ≡ true
unfolding depth
shallow_low schema first n i l = le-leb (suc (count (λ j. ltb i (end_of schema first n j)) i)) 8 (omega (arith, count_most (λ j. ltb i (end_of schema first n j)) i))
