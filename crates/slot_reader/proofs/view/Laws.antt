-- The cases of `place_of`, and that the part is what the format shows. Assumes nothing.
use mathlib.Core.Path.{◌≡◌, refl, sym, ap, ◌∙◌}
use mathlib.Core.Bool.{Bool, true, false}
use mathlib.Core.List.{List, [], ◌∷◌}
use Prim.Native.Nat.{ℕ, zero, suc, ◌+◌, ◌≤◌, ◌<◌}
use native.Mathlib.Omega.{arith}
use lib.ListN.{length, take, drop, get_or, length-take}
use lib.Seq.{drop-drop, take-take}
use lib.Dec.{leb}
use borrow.Author.Tests.{le-leb, lt-leb, leb-true, leb-false}
use Rattle.number.specs.Number.{number}
use Rattle.columnar.specs.View.{shown, length_of, buffer_of, offset_of, ViewGood}
use Rattle.columnar.proofs.Items.{number_take}
use Rattle.slot_reader.specs.declared.view.Place.TheVariants.{Inline, Data, Outside}
use Rattle.slot_reader.specs.view.Place.{length_at, offset_at, place_of, part_of}

-- the length l and the offset o of the view at `at`
module _ (s : List ℕ) (at n from size l o : ℕ) (el : l ≡ length_at s at) (eo : o ≡ offset_at s at) where
  pub inline : l ≤ 12 → Inline (at + 4) l ≡ place_of s at n from size
  unfolding place_of
  inline h = rw el (let g : length_at s at ≤ 12 = omega arith in simp (le-leb _ _ g))

  pub no_buffer : 12 < l → n < from + size → Outside ≡ place_of s at n from size
  unfolding place_of
  no_buffer h k = let g : 12 < length_at s at = omega arith in simp (lt-leb _ _ g, lt-leb _ _ k)

  pub no_range : 12 < l → from + size ≤ n → size < o + l → Outside ≡ place_of s at n from size
  unfolding place_of
  no_range h k m =
      let g : 12 < length_at s at = omega arith in
      let i : size < offset_at s at + length_at s at = omega arith in
      simp (lt-leb _ _ g, le-leb _ _ k, lt-leb _ _ i)

  pub in_data : 12 < l → from + size ≤ n → o + l ≤ size → Data (from + o) l ≡ place_of s at n from size
  unfolding place_of
  in_data h k m =
      rw (el, eo)
      (let g : 12 < length_at s at = omega arith in
      let i : offset_at s at + length_at s at ≤ size = omega arith in
      simp (lt-leb _ _ g, le-leb _ _ k, le-leb _ _ i))

-- a part that ends before a list is cut is a part of the whole list
cut : (o l n : ℕ) (x : List ℕ) → o + l ≤ n → take l (drop o (take n x)) ≡ take l (drop o x)
cut zero l n x h = take-take l n x (omega arith)
cut (suc o) l zero x h = absurd (omega arith)
cut (suc o) l (suc n) [] h = refl
cut (suc o) l (suc n) (a ∷ x) h = cut o l n x (omega arith)

-- the view's 16 bytes
abbrev pub view : List ℕ → ℕ → List ℕ
view s at = take 16 (drop at s)

module _ (s : List ℕ) (at : ℕ) where
  length_is : length_of (view s at) ≡ length_at s at
  length_is = number_take 4 16 (drop at s) (omega arith)

  offset_is : offset_of (view s at) ≡ offset_at s at
  offset_is =
      sym (number_take 4 4 (drop 12 (view s at)) (omega arith))
      ∙ (ap (number 4) (cut 12 4 16 (drop at s) (omega arith) ∙ ap (take 4) (drop-drop 12 at s)) ∙ number_take 4 4 (drop (at + 12) s) (omega arith))

-- the part of a view that obeys the source's rule is what the Columnar Format shows, where its data buffer is the lent one
module _ (s body : List ℕ) (at from size : ℕ) (bufs : List (List ℕ)) (inside : from + size ≤ length body)
    (buffer : get_or bufs (buffer_of (view s at)) [] ≡ take size (drop from body)) (good : ViewGood bufs (view s at)) where
  short : length_at s at ≤ 12 → part_of s body (place_of s at (length body) from size) ≡ shown bufs (view s at)
  unfolding shown
  short h =
      rw (← inline s at (length body) from size (length_at s at) (offset_at s at) refl refl h, length_is s at, le-leb _ _ h)
      (sym (cut 4 (length_at s at) 16 (drop at s) (omega arith) ∙ ap (take (length_at s at)) (drop-drop 4 at s)))

  long : 12 < length_at s at → part_of s body (place_of s at (length body) from size) ≡ shown bufs (view s at)
  unfolding shown
  long h =
      let i : offset_at s at + length_at s at ≤ length (get_or bufs (buffer_of (view s at)) []) = omega (arith, length_is s at, offset_is s at, (good.long (omega (arith, length_is s at))).inside) in
      let k : offset_at s at + length_at s at ≤ size = omega (arith, i, ap length buffer, length-take size (drop from body)) in
      rw (← in_data s at (length body) from size (length_at s at) (offset_at s at) refl refl h inside k, length_is s at, offset_is s at, lt-leb _ _ h, buffer)
      (sym (cut (offset_at s at) (length_at s at) size (drop from body) k ∙ ap (take (length_at s at)) (drop-drop (offset_at s at) from body)))

  pub shows : part_of s body (place_of s at (length body) from size) ≡ shown bufs (view s at)
  shows = go (leb (length_at s at) 12) refl
    where
      go : (b : Bool) → leb (length_at s at) 12 ≡ b → part_of s body (place_of s at (length body) from size) ≡ shown bufs (view s at)
      go true e = short (leb-true _ _ e)
      go false e = long (leb-false _ _ e)
