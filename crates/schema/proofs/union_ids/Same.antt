-- Comparing two formats. Assumes nothing.
use mathlib.Core.Path.{◌≡◌, refl, ap, sym, ◌∙◌}
use mathlib.Core.Bool.{Bool, true, false, not, cond, ◌&&◌, ◌||◌, and-false}
use mathlib.Core.List.{List, [], ◌∷◌, map}
use mathlib.Core.Option.{Option, none, some}
use Prim.Native.Nat.{ℕ, ◌+◌, ◌≤◌}
use native.Mathlib.Omega.{arith}
use lib.ListN.{length, take, drop, length-append, length-drop}
use lib.Seq.{take_at}
use lib.Dec.{leb, eqb}
use borrow.Author.Tests.{leb-true, eq-eqb, ne_eqb}
use Rattle.schema.specs.formats.Code.{code_of, is_union}
use Rattle.schema.specs.union_ids.Ids.{pieces, id_of, distinct, allowed, id_list, ids_at, answer_of, written, same_ids}
use Rattle.std.specs.Prelude.{Some, None}
use Rattle.std.specs.Cmp.Lexicographic.{pointwise}
use Rattle.std.specs.declared.option.Option as answer
use Rattle.schema.proofs.union_ids.Laws.{both, small, is_same}
use Rattle.columnar.specs.Test.{same}

-- ---- the ids of a format

-- 01: "at most 16 union fields with distinct ids 0 to 127"
pub record Allowed (ids : List ℕ) : Type 0 where
  pub below : small ids ≡ true
  pub apart : distinct ids ≡ true
  pub few : length ids ≤ 16

abbrev pub Fine : Option (List ℕ) → Type 0
Fine (some ids) = Allowed ids
Fine none = Unit {0}

fine_if : (x : Bool) (l : List ℕ) → (x ≡ true → Allowed l) → Fine (cond x (some l) none)
fine_if true l h = h refl
fine_if false l h = tt

fine_cond : (x : Bool) (o : Option (List ℕ)) → Fine o → Fine (cond x o none)
fine_cond true o h = h
fine_cond false o h = tt

fine_allowed : (l : List ℕ) → Fine (allowed l)
unfolding allowed
fine_allowed l =
    fine_if _ l
    (λ e.
    let p = both (small l && distinct l) (leb (length l) 16) e in
    let q = both (small l) (distinct l) p.0 in
    record { below = q.0; apart = q.1; few = leb-true (length l) 16 p.1 })

fine_list : (t : List ℕ) → Fine (id_list t)
unfolding distinct
fine_list [] = record { below = refl; apart = refl; few = omega arith }
fine_list (b ∷ s) = fine_allowed (map id_of (pieces (b ∷ s)))

pub fine : (s : List ℕ) (at len : ℕ) → Fine (ids_at s at len)
fine s at len =
    fine_cond (leb (at + len) (length s)) _
    (fine_cond (is_union (code_of (take len (drop at s)))) _ (fine_list (drop 4 (take len (drop at s)))))

pub written_length : (o : Option (List ℕ)) (s : List ℕ) → Fine o → length s ≡ 16 → length (written o s) ≡ 16
written_length none s h e = e
written_length (some l) s h e = simp (length-append, length-drop) (omega (arith, h.few))

-- ---- two lists of ids

never : (k : ℕ) → Some k ≡ None → ⊥
never k e = let z : ◌≡◌ {A = ℕ} 0 1 = cc in omega arith

counted : (j k : ℕ) → Some j ≡ Some k → j ≡ k
counted j k e = cc

pub bad_first : (o o2 : Option (List ℕ)) (r : answer.Option ℕ) → r ≡ answer_of o → r ≡ None → same_ids o o2 ≡ false
bad_first none o2 r e h = refl
bad_first (some l) o2 r e h = absurd (never (length l) (sym e ∙ h))

pub bad_second : (o o2 : Option (List ℕ)) (r : answer.Option ℕ) → r ≡ answer_of o2 → r ≡ None → same_ids o o2 ≡ false
bad_second none o2 r e h = refl
bad_second (some l) none r e h = refl
bad_second (some l) (some m) r e h = absurd (never (length m) (sym e ∙ h))

none_count : (k : ℕ) → None ≡ Some k → ⊥
none_count k e = never k (sym e)

front : (l s : List ℕ) (k : ℕ) → Some (length l) ≡ Some k → take k (written (some l) s) ≡ l
front l s k e = take_at l (drop (length l) s) k (counted _ _ e)

front_same : (p p2 : Option (List ℕ)) (s s2 : List ℕ) (j k : ℕ) → answer_of p ≡ Some j → answer_of p2 ≡ Some k
    → same (take j (written p s)) (take k (written p2 s2)) ≡ same_ids p p2
front_same none p2 s s2 j k a b = absurd (none_count j a)
front_same (some l) none s s2 j k a b = absurd (none_count k b)
front_same (some l) (some m) s s2 j k a b = rw (front l s j a, front m s2 k b)

-- the answer of the comparison of the fronts of two arrays
pub compared : (o o2 : Option (List ℕ)) (r r2 : answer.Option ℕ) (j k : ℕ) (s s2 a b : List ℕ)
    → r ≡ answer_of o → r ≡ Some j → r2 ≡ answer_of o2 → r2 ≡ Some k → a ≡ written o s → b ≡ written o2 s2
    → pointwise eqb (take j a) (take k b) ≡ same_ids o o2
compared o o2 r r2 j k s s2 a b e h e2 h2 wa wb =
    is_same (take j a) (take k b) ∙ rw (wa, wb) (front_same o o2 s s2 j k (sym e ∙ h) (sym e2 ∙ h2))

fine_count : (o : Option (List ℕ)) (k : ℕ) → answer_of o ≡ Some k → Fine o → k ≤ 16
fine_count none k e h = absurd (none_count k e)
fine_count (some l) k e h = omega (arith, h.few, counted (length l) k e)

pub count_fine : (o : Option (List ℕ)) (r : answer.Option ℕ) (k : ℕ) → r ≡ answer_of o → r ≡ Some k → Fine o → k ≤ 16
count_fine o r k e h s = fine_count o k (sym e ∙ h) s

-- ---- two formats, by their codes x and y; w is whether their ids are the same

abbrev judged : ℕ → ℕ → Bool → Bool
judged x y w = not (eqb x 0) && eqb x y && (not (is_union x) || w)

pub no_format : (x y : ℕ) (w : Bool) (a : ℕ) → a ≡ x → a ≡ 0 → judged x y w ≡ false
no_format x y w a e h = rw (eq-eqb x 0 (sym e ∙ h))

pub other_format : (x y : ℕ) (w : Bool) (a b : ℕ) → a ≡ x → b ≡ y → (a ≡ b → ⊥) → judged x y w ≡ false
other_format x y w a b e e2 n = rw (ne_eqb x y (λ q. n (e ∙ q ∙ sym e2)), and-false)

module _ (x y : ℕ) (w : Bool) (a b : ℕ) (e : a ≡ x) (e2 : b ≡ y) (n : a ≡ 0 → ⊥) (q : a ≡ b) (u : Bool) (eu : u ≡ is_union a) where
  x_not : eqb x 0 ≡ false
  x_not = ne_eqb x 0 (λ h. n (e ∙ h))

  x_same : eqb x y ≡ true
  x_same = eq-eqb x y (sym e ∙ q ∙ e2)

  pub no_ids : u ≡ false → judged x y w ≡ true
  no_ids h = let ux : is_union x ≡ false = ap is_union (sym e) ∙ sym eu ∙ h in rw (x_not, x_same, ux)

  pub by_ids : u ≡ true → (r : Bool) → r ≡ w → r ≡ judged x y w
  by_ids h r q = let ux : is_union x ≡ true = ap is_union (sym e) ∙ sym eu ∙ h in rw (x_not, x_same, ux) q
