-- Copies of byte strings and lists by what an extension of their offsets comes to. Assumes nothing.
use mathlib.Core.Path.{◌≡◌, refl, ap}
use mathlib.Core.Bool.{Bool, true, false, cond, ◌&&◌}
use mathlib.Core.List.{List}
use Prim.Native.Nat.{ℕ, suc, ◌+◌, ◌*◌}
use lib.Dec.{leb, ltb, eqb}
use borrow.Author.Tests.{ltb-true, ltb-false, le-leb, lt-leb}
use Rattle.number.specs.Number.{entry}
use Rattle.utils.specs.Offsets.{largest, moved}
use Rattle.utils.specs.Extension.{over_at, extended}
use Rattle.utils.specs.declared.Extended.TheVariants.{Fits, Falls}
use Rattle.walk.specs.State.{Join, rows, bytes, place, rows_in}
use Rattle.walk.specs.Log.{Out, fail, done, need}
use Rattle.walk.specs.Leaves.{offered, with_offsets, put_extended, put_string, copy_string}
use Rattle.walk.specs.Copy.{Walk, put_stretch, copy_list}
use Rattle.walk.proofs.Names.{put_list}

leb_not : (a b : ℕ) (t : Bool) → ltb b a ≡ t → leb a b ≡ cond t false true
leb_not a b true e = lt-leb a b (ltb-true b a e)
leb_not a b false e = le-leb a b (ltb-false b a e)

-- THE OFFSETS OF n ROWS, by their extension
offsets_by : (w : ℕ) (s : List ℕ) (from n last : ℕ) (k : ℕ → ℕ → List ℕ → Out) (c : List ℕ) → with_offsets w s from n last k c ≡ offered (extended w s from n last) k c
unfolding need extended over_at
offsets_by w s from n last k c =
    go (ltb (entry w s from n) (entry w s from 0)) refl (ltb (largest w) last) refl (ltb (largest w) (moved w s from last n)) refl
  where
    go : (a : Bool) → ltb (entry w s from n) (entry w s from 0) ≡ a → (b : Bool) → ltb (largest w) last ≡ b → (d : Bool) → ltb (largest w) (moved w s from last n) ≡ d
        → cond (leb (entry w s from 0) (entry w s from n) && leb last (largest w)) (cond (leb (moved w s from last n) (largest w)) (k (moved w s from last n) (entry w s from 0) c) (fail 6 c)) (fail 12 c)
        ≡ offered (cond a Falls (cond b Falls (cond d (over_at w s from n last) (Fits (moved w s from last n) (entry w s from 0))))) k c
    go true e b f d g = rw (leb_not (entry w s from 0) (entry w s from n) true e)
    go false e true f d g = rw (leb_not (entry w s from 0) (entry w s from n) false e, leb_not last (largest w) true f)
    go false e false f true g = rw (leb_not (entry w s from 0) (entry w s from n) false e, leb_not last (largest w) false f, leb_not (moved w s from last n) (largest w) true g)
    go false e false f false g = rw (leb_not (entry w s from 0) (entry w s from n) false e, leb_not last (largest w) false f, leb_not (moved w s from last n) (largest w) false g)

-- BYTE STRINGS
pub string_is : (x : Join) (i w slot n : ℕ) (c : List ℕ) → copy_string x i w slot n c
    ≡ cond (eqb n 0) (done c) (need (rows_in x (place x i 3) w slot (suc n)) 12 c (put_extended x i w (place x i 3 + w * slot) n (extended w x.body (place x i 3 + w * slot) n (bytes c i)) c))
unfolding copy_string
string_is x i w slot n c =
    ap (λ o. cond (eqb n 0) (done c) (need (rows_in x (place x i 3) w slot (suc n)) 12 c o)) (offsets_by w x.body (place x i 3 + w * slot) n (bytes c i) (put_string x i w (place x i 3 + w * slot) n) c)

-- LISTS
pub list_is : (x : Join) (child : Walk) (w i slot n : ℕ) (c : List ℕ) → copy_list x child w i slot n c
    ≡ cond (eqb n 0) (done c)
    (need (ltb (suc i) 32) 12 c
    (need (rows_in x (place x i 3) w slot (suc n)) 12 c (put_list x child w i (place x i 3 + w * slot) n (extended w x.body (place x i 3 + w * slot) n (rows c (suc i))) c)))
unfolding copy_list
list_is x child w i slot n c =
    ap (λ o. cond (eqb n 0) (done c) (need (ltb (suc i) 32) 12 c (need (rows_in x (place x i 3) w slot (suc n)) 12 c o)))
    (offsets_by w x.body (place x i 3 + w * slot) n (rows c (suc i)) (put_stretch x child w i (place x i 3 + w * slot) n) c)
