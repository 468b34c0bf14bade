-- Laws of codes. Assumes nothing.
use mathlib.Core.Path.{◌≡◌, refl, ap, sym, ◌∙◌}
use mathlib.Core.Bool.{Bool, true, false, cond, ◌&&◌, false≢true}
use mathlib.Core.List.{List, [], ◌∷◌}
use Prim.Native.Nat.{ℕ, ◌+◌, ◌-◌, ◌≤◌, ◌<◌}
use native.Mathlib.Omega.{arith}
use lib.ListN.{length, take, drop, get_or, length-take, length-drop}
use lib.Dec.{leb, eqb}
use borrow.Author.Tests.{le-leb, lt-leb, leb-true}
use Rattle.schema.specs.formats.Code.{code_of, code_at, is_union}

-- ---- texts by their length

pub code_0 : (t : List ℕ) → length t ≡ 0 → code_of t ≡ 0
unfolding code_of
code_0 [] h = refl
code_0 (a ∷ s) h = absurd (omega arith)

pub text_1 : (t : List ℕ) → length t ≡ 1 → t ≡ get_or t 0 0 ∷ []
text_1 [] h = absurd (omega arith)
text_1 (a ∷ []) h = refl
text_1 (a ∷ b ∷ s) h = absurd (omega arith)

pub text_2 : (t : List ℕ) → length t ≡ 2 → t ≡ get_or t 0 0 ∷ get_or t 1 0 ∷ []
text_2 [] h = absurd (omega arith)
text_2 (a ∷ t) h = ap (λ l. a ∷ l) (text_1 t (omega arith))

pub text_3 : (t : List ℕ) → length t ≡ 3 → t ≡ get_or t 0 0 ∷ get_or t 1 0 ∷ get_or t 2 0 ∷ []
text_3 [] h = absurd (omega arith)
text_3 (a ∷ t) h = ap (λ l. a ∷ l) (text_2 t (omega arith))

-- from four bytes on the first four decide
pub code_4 : (t : List ℕ) → 4 ≤ length t → code_of t ≡ code_of (get_or t 0 0 ∷ get_or t 1 0 ∷ get_or t 2 0 ∷ get_or t 3 0 ∷ [])
unfolding code_of
code_4 [] h = absurd (omega arith)
code_4 (a ∷ []) h = absurd (omega arith)
code_4 (a ∷ b ∷ []) h = absurd (omega arith)
code_4 (a ∷ b ∷ c ∷ []) h = absurd (omega arith)
code_4 (a ∷ b ∷ c ∷ d ∷ s) h = refl

-- ---- a format in a slice

-- a range that does not lie inside
pub code_out : (s : List ℕ) (at len : ℕ) → length s < at + len → code_at s at len ≡ 0
code_out s at len h = rw (lt-leb (at + len) (length s) h)

pub code_in : (s : List ℕ) (at len : ℕ) → at + len ≤ length s → code_at s at len ≡ code_of (take (at + len - at) (drop at s))
code_in s at len h = let e : at + len - at ≡ len = omega arith in rw (le-leb (at + len) (length s) h, e)

pub either : (x : Bool) (y : ℕ) → is_union (cond x y 0) ≡ true → (x ≡ true) × (is_union y ≡ true)
either true y h = (refl, h)
either false y h = absurd (false≢true h)

low : (x : Bool) (c d : ℕ) → is_union c ≡ false → is_union d ≡ false → is_union (cond x c d) ≡ false
low true c d p q = p
low false c d p q = q

short_1 : (a : ℕ) → is_union (code_of (a ∷ [])) ≡ false
unfolding code_of
short_1 a =
    low (eqb a 99) 1 _ refl
    (low (eqb a 67) 2 _ refl
    (low (eqb a 115) 3 _ refl
    (low (eqb a 83) 4 _ refl
    (low (eqb a 105) 5 _ refl
    (low (eqb a 73) 6 _ refl
    (low (eqb a 108) 7 _ refl
    (low (eqb a 76) 8 _ refl
    (low (eqb a 102) 9 _ refl
    (low (eqb a 103) 10 _ refl
    (low (eqb a 122) 11 _ refl
    (low (eqb a 117) 12 _ refl
    (low (eqb a 90) 13 _ refl
    (low (eqb a 85) 14 0 refl refl)))))))))))))

short_2 : (a b : ℕ) → is_union (code_of (a ∷ b ∷ [])) ≡ false
unfolding code_of
short_2 a b =
    low (eqb b 122 && eqb a 118) 15 _ refl
    (low (eqb b 117 && eqb a 118) 16 _ refl
    (low (eqb b 108 && eqb a 43) 19 _ refl
    (low (eqb b 76 && eqb a 43) 20 _ refl
    (low (eqb b 114 && eqb a 43) 23 0 refl refl))))

short_3 : (a b c : ℕ) → is_union (code_of (a ∷ b ∷ c ∷ [])) ≡ false
unfolding code_of
short_3 a b c =
    low (eqb c 108 && eqb b 118 && eqb a 43) 17 _ refl
    (low (eqb c 76 && eqb b 118 && eqb a 43) 18 0 refl refl)

-- a union's format has at least four bytes
pub union_long : (t : List ℕ) → is_union (code_of t) ≡ true → 4 ≤ length t
unfolding code_of
union_long [] h = absurd (false≢true h)
union_long (a ∷ []) h = absurd (false≢true (sym (short_1 a) ∙ h))
union_long (a ∷ b ∷ []) h = absurd (false≢true (sym (short_2 a b) ∙ h))
union_long (a ∷ b ∷ c ∷ []) h = absurd (false≢true (sym (short_3 a b c) ∙ h))
union_long (a ∷ b ∷ c ∷ d ∷ s) h = omega arith

pub union_inside : (s : List ℕ) (at len : ℕ) → is_union (code_at s at len) ≡ true → (at + len ≤ length s) × (4 ≤ len)
union_inside s at len h =
    let e = either (leb (at + len) (length s)) (code_of (take len (drop at s))) h in
    let long : 4 ≤ length (take len (drop at s)) = union_long _ e.1 in
    (leb-true _ _ e.0, omega (arith, simp (length-take, length-drop) at long))
