-- Laws of a float's bits, of a leaf's row and of its key. Assumes nothing.
use mathlib.Core.Path.{◌≡◌, refl, sym, ap, subst, ◌∙◌}
use mathlib.Core.Bool.{Bool, true, false, not, cond}
use mathlib.Core.List.{List}
use Prim.Native.Nat.{ℕ, ◌+◌, ◌*◌, ◌%◌, ◌≤◌, ◌<◌, ◌^◌}
use native.Mathlib.Omega.{arith}
use borrow.Author.Tests.{le-ltb, lt-ltb, eq-eqb, eqb-true}
use lib.Dec.{T, eqb, leb}
use lib.IntN.{ℤ, pos, negsuc}
use lib.ListN.{drop, get_or}
use lib.Seq.{get_or-drop}
use lib.Ieee.{Float, nan, inf, fin, Format, binary32, binary64, hid, ones, top, nan_bits, of_bits, to_bits, is_nan, ne}
use lib.Ieee.Bits.{to_bits-of_bits, nan_bits_is, nan_bits_above}
use lib.Ieee.Compare.{differs_from_itself, nan_differs}
use mir.Syntax.{Width, w64}
use mir.Val.{SFits, hbits, to_z, of_z}
use mir.ValLaws.{to_z-of_z}
use mir.Facts.{sfits_widen}
use Rattle.number.specs.Number.{number}
use Rattle.number.proofs.Laws.{number_lt}
use Rattle.columnar.specs.Types.{Number, int, uint, w1, w2, w4, w8, f32, f64, width}
use Rattle.columnar.specs.Row.{Row, null, whole, single, double}
use Rattle.columnar.specs.Plain.{value}
use Rattle.slot_reader.specs.declared.leaf_row.Leaf.{Leaf}
use Rattle.slot_reader.specs.declared.leaf_row.Leaf.TheVariants.{Null, Signed, Unsigned, Single, Double, SingleNan, DoubleNan}
use Rattle.slot_reader.specs.declared.leaf_row.Key.{Key}
use Rattle.slot_reader.specs.leaf_row.Reading.{number_of, single_of, double_of, leaf_of, leaf_row_of, key_of}

-- ---- floats by their bits

-- a pattern is a NaN's where what is below its sign is above an infinity's
pub no_nan : (f : Format) (n : ℕ) → n % top f ≤ ones f * hid f → nan_bits f n ≡ false
no_nan f n h = nan_bits_above f n ∙ le-ltb _ _ h

pub is_nan_lem : (f : Format) (n : ℕ) → ones f * hid f < n % top f → nan_bits f n ≡ true
is_nan_lem f n h = nan_bits_above f n ∙ lt-ltb _ _ h

pub not_nan : (f : Format) (n : ℕ) → nan_bits f n ≡ false → T (not (nan_bits f n))
not_nan f n e = subst (λ (b : Bool). T (not b)) (sym e) tt

-- a pattern that is no NaN's comes back
back : (f : Format) (n : ℕ) → n < 2 * top f → nan_bits f n ≡ false → to_bits f (of_bits f n) ≡ n
back f n l e = to_bits-of_bits f n l (subst (λ (b : Bool). T (not b)) (sym e ∙ nan_bits_is f n) tt)

pub nan_of : (x : Float) → ne x x ≡ true → x ≡ nan
nan_of x e = differs_from_itself x (subst T (sym e) tt)

pub number_of_lem : (x : Float) → ne x x ≡ false → T (not (is_nan x))
unfolding is_nan
number_of_lem nan e = subst T (sym nan_differs ∙ e) tt
number_of_lem (inf s) e = tt
number_of_lem (fin s m e') e = tt

-- ---- rows

single_row : (b : ℕ) → b < 256 ^ 4 → leaf_row_of (single_of b) ≡ single b
unfolding single_of
single_row b h = go (nan_bits binary32 b) refl
  where
    go : (t : Bool) → nan_bits binary32 b ≡ t → leaf_row_of (cond t (SingleNan b) (Single (of_bits binary32 b))) ≡ single b
    go true e = refl
    go false e = ap single (back binary32 b h e)

double_row : (b : ℕ) → b < 256 ^ 8 → leaf_row_of (double_of b) ≡ double b
unfolding double_of
double_row b h = go (nan_bits binary64 b) refl
  where
    go : (t : Bool) → nan_bits binary64 b ≡ t → leaf_row_of (cond t (DoubleNan b) (Double (of_bits binary64 b))) ≡ double b
    go true e = refl
    go false e = ap double (back binary64 b h e)

-- the case that a number's bits are read as has the row that the format gives them
pub leaf_row : (n : Number) (p : ℕ) → p < 256 ^ width n → leaf_row_of (leaf_of n p) ≡ value n p
leaf_row (int w1) p h = refl
leaf_row (uint w1) p h = refl
leaf_row (int w2) p h = refl
leaf_row (uint w2) p h = refl
leaf_row (int w4) p h = refl
leaf_row (uint w4) p h = refl
leaf_row (int w8) p h = refl
leaf_row (uint w8) p h = refl
leaf_row f32 p h = single_row p h
leaf_row f64 p h = double_row p h

-- the number that stands in s at `at`, by its format's code
abbrev pub bits_at : List ℕ → ℕ → ℕ → ℕ
bits_at s at code = number (width (number_of code)) (drop at s)

-- a case for one code is one for every number that is this code
pub arm : (s : List ℕ) (at code k : ℕ) → ((i : ℕ) → get_or s i 0 < 256) → code ≡ k → (r : Leaf) → r ≡ leaf_of (number_of k) (bits_at s at k)
    → (r ≡ leaf_of (number_of code) (bits_at s at code)) × (leaf_row_of r ≡ value (number_of code) (bits_at s at code))
arm s at code k h e r x =
    subst (λ (c : ℕ). (r ≡ leaf_of (number_of c) (bits_at s at c)) × (leaf_row_of r ≡ value (number_of c) (bits_at s at c))) (sym e)
    (x, ap leaf_row_of x ∙ leaf_row (number_of k) (bits_at s at k) (number_lt (width (number_of k)) (drop at s) (λ i. rw get_or-drop (h (at + i)))))

-- a code from 1 to 10 that is none of the first nine
tight : (n : ℕ) → 10 ≤ n → n ≤ 10 → n ≡ 10
tight n l h = omega arith

above : (k n : ℕ) → k ≤ n → (n ≡ k → ⊥) → k + 1 ≤ n
above k n h f = omega arith

pub tenth : (n : ℕ) → 1 ≤ n → n ≤ 10
    → (n ≡ 1 → ⊥) → (n ≡ 2 → ⊥) → (n ≡ 3 → ⊥) → (n ≡ 4 → ⊥) → (n ≡ 5 → ⊥) → (n ≡ 6 → ⊥) → (n ≡ 7 → ⊥) → (n ≡ 8 → ⊥) → (n ≡ 9 → ⊥) → n ≡ 10
tenth n l h a b c d e f g i j =
    let least : 10 ≤ n = above 9 n (above 8 n (above 7 n (above 6 n (above 5 n (above 4 n (above 3 n (above 2 n (above 1 n l a) b) c) d) e) f) g) i) j in
    tight n least h

-- ---- a number read at its own width and held in 64 bits

module _ (w : Width) (z : ℤ) (f : SFits w z) (t : T (leb (hbits w) 63)) where
  pub widens : SFits w64 (to_z w (of_z w z))
  widens = rw (to_z-of_z w z f) (sfits_widen t f)

  pub widened : to_z w64 (of_z w64 (to_z w (of_z w z))) ≡ z
  widened = to_z-of_z w64 _ widens ∙ to_z-of_z w z f

-- ---- keys

-- the leaf row of a key
row_of : ℕ → ℕ → Row
row_of kind b =
    cond (eqb kind 0) null (cond (eqb kind 1) (whole (pos b)) (cond (eqb kind 2) (whole (negsuc b)) (cond (eqb kind 3) (single b) (double b))))

key_back : (l : Leaf) → row_of (key_of (leaf_row_of l)).kind (key_of (leaf_row_of l)).bits ≡ leaf_row_of l
unfolding row_of
key_back Null = refl
key_back (Signed (pos n)) = refl
key_back (Signed (negsuc n)) = refl
key_back (Unsigned n) = refl
key_back (Single x) = refl
key_back (Double x) = refl
key_back (SingleNan b) = refl
key_back (DoubleNan b) = refl

-- two keys as they were found, and the rows
module _ (a b : Leaf) (x y : Key) (p : x ≡ key_of (leaf_row_of a)) (q : y ≡ key_of (leaf_row_of b)) where
  same_row_lem : x.kind ≡ y.kind → x.bits ≡ y.bits → leaf_row_of a ≡ leaf_row_of b
  same_row_lem e f =
      sym (key_back a) ∙ (ap (λ (k : Key). row_of k.kind k.bits) (sym p)
      ∙ (ap (λ (k : ℕ). row_of k x.bits) e ∙ (ap (row_of y.kind) f ∙ (ap (λ (k : Key). row_of k.kind k.bits) q ∙ key_back b))))

  same_key : leaf_row_of a ≡ leaf_row_of b → x ≡ y
  same_key e = p ∙ (ap key_of e ∙ sym q)

  pub other_kind : (x.kind ≡ y.kind → ⊥) → (false ≡ true → leaf_row_of a ≡ leaf_row_of b) × (leaf_row_of a ≡ leaf_row_of b → false ≡ true)
  other_kind f = ((λ e. absurd (subst T (sym e) tt)), (λ e. absurd (f (ap (λ (k : Key). k.kind) (same_key e)))))

  pub same_kind : x.kind ≡ y.kind
      → (eqb x.bits y.bits ≡ true → leaf_row_of a ≡ leaf_row_of b) × (leaf_row_of a ≡ leaf_row_of b → eqb x.bits y.bits ≡ true)
  same_kind f = ((λ e. same_row_lem f (eqb-true _ _ e)), (λ e. eq-eqb _ _ (ap (λ (k : Key). k.bits) (same_key e))))
