-- The keys of two leaf rows are the same where the rows are. Assumes nothing.
use mathlib.Core.Path.{◌≡◌, refl, sym, ap, ◌∙◌}
use mathlib.Core.Bool.{Bool, true, false, cond, false≢true, and-eq-true_iff}
use Prim.Native.Nat.{ℕ}
use lib.Dec.{eqb}
use lib.IntN.{pos, negsuc}
use borrow.Author.Tests.{eqb-true, eq-eqb}
use Rattle.columnar.specs.Row.{Row, null, whole, single, double, bytes, list, union}
use Rattle.slot_reader.specs.declared.leaf_row.Leaf.{Leaf}
use Rattle.slot_reader.specs.declared.leaf_row.Leaf.TheVariants as leaf
use Rattle.slot_reader.specs.leaf_row.Reading.{leaf_row_of, key_of}
use Rattle.row_reader.specs.row_pair.Same.{same_leaf}

-- null, a whole number, an f32 or an f64
abbrev pub is_leaf : Row → Bool
is_leaf null = true
is_leaf (whole z) = true
is_leaf (single b) = true
is_leaf (double b) = true
is_leaf (bytes s) = false
is_leaf (list rs) = false
is_leaf (union i r) = false

pub leaf_is : (l : Leaf) → is_leaf (leaf_row_of l) ≡ true
leaf_is leaf.Null = refl
leaf_is (leaf.Signed z) = refl
leaf_is (leaf.Unsigned n) = refl
leaf_is (leaf.Single x) = refl
leaf_is (leaf.Double x) = refl
leaf_is (leaf.SingleNan b) = refl
leaf_is (leaf.DoubleNan b) = refl

-- the leaf row of a key
row_by : ℕ → ℕ → Row
row_by kind b =
    cond (eqb kind 0) null (cond (eqb kind 1) (whole (pos b)) (cond (eqb kind 2) (whole (negsuc b)) (cond (eqb kind 3) (single b) (double b))))

key_back : (r : Row) → is_leaf r ≡ true → row_by (key_of r).kind (key_of r).bits ≡ r
unfolding row_by
key_back null h = refl
key_back (whole (pos n)) h = refl
key_back (whole (negsuc n)) h = refl
key_back (single b) h = refl
key_back (double b) h = refl
key_back (bytes s) h = absurd (false≢true h)
key_back (list rs) h = absurd (false≢true h)
key_back (union i r) h = absurd (false≢true h)

-- A ROW IS THE SAME AS ITSELF
pub same_self : (r s : Row) → r ≡ s → same_leaf r s ≡ true
unfolding same_leaf
same_self r s e =
    let k = ap (λ (y : Row). (key_of y).kind) e in
    let b = ap (λ (y : Row). (key_of y).bits) e in
    (and-eq-true_iff (eqb (key_of r).kind (key_of s).kind) (eqb (key_of r).bits (key_of s).bits)).1 (eq-eqb _ _ k, eq-eqb _ _ b)

-- .. AND AS NO OTHER LEAF ROW
pub same_is : (r s : Row) → is_leaf r ≡ true → is_leaf s ≡ true → same_leaf r s ≡ true → r ≡ s
unfolding same_leaf
same_is r s p q h =
    let d = (and-eq-true_iff (eqb (key_of r).kind (key_of s).kind) (eqb (key_of r).bits (key_of s).bits)).0 h in
    let k = eqb-true (key_of r).kind (key_of s).kind d.0 in
    let b = eqb-true (key_of r).bits (key_of s).bits d.1 in
    sym (key_back r p) ∙ (ap (λ (y : ℕ). row_by y (key_of r).bits) k ∙ (ap (row_by (key_of s).kind) b ∙ key_back s q))

-- a test that two leaves have the same row is `sameLeaf` of their rows
pub same_told : (a b : Leaf) (t : Bool) → (t ≡ true → leaf_row_of a ≡ leaf_row_of b) → (leaf_row_of a ≡ leaf_row_of b → t ≡ true) → t ≡ same_leaf (leaf_row_of a) (leaf_row_of b)
same_told a b t f g = go t (same_leaf (leaf_row_of a) (leaf_row_of b)) refl f g
  where
    go : (t v : Bool) → same_leaf (leaf_row_of a) (leaf_row_of b) ≡ v → (t ≡ true → leaf_row_of a ≡ leaf_row_of b) → (leaf_row_of a ≡ leaf_row_of b → t ≡ true) → t ≡ v
    go true true e f g = refl
    go true false e f g = absurd (false≢true (sym e ∙ same_self (leaf_row_of a) (leaf_row_of b) (f refl)))
    go false true e f g = g (same_is (leaf_row_of a) (leaf_row_of b) (leaf_is a) (leaf_is b) e)
    go false false e f g = refl
