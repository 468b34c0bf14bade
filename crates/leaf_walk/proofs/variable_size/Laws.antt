-- The walk at a byte string, by the ways that the code goes. Assumes nothing.
use mathlib.Core.Path.{◌≡◌, refl, sym, ◌∙◌}
use mathlib.Core.Bool.{Bool, true, false, not, cond}
use mathlib.Core.List.{List, [], ◌∷◌}
use Prim.Native.Nat.{ℕ, suc, ◌+◌, ◌*◌, ◌-◌, ◌≤◌, ◌<◌}
use native.Mathlib.Numerals.{add-one}
use native.Mathlib.Omega.{arith}
use lib.ListN.{length, take, drop}
use lib.Dec.{ltb, leb, eqb}
use borrow.Author.Tests.{leb-true, ltb-false, eq-eqb, ne_eqb, eqb-true, eqb-false}
use Rattle.number.specs.Number.{entry}
use Rattle.utils.specs.Offsets.{largest, moved, moved_offsets}
use Rattle.utils.specs.Extension.{extended, over_at}
use Rattle.utils.specs.declared.Extended.{Extended}
use Rattle.utils.specs.declared.Extended.TheVariants.{Fits, Over, Falls}
use Rattle.array_data.proofs.lent_tables.Laws.{no, yes}
use Rattle.walk.specs.State.{Join, rows, bytes, set_bytes, place, rows_in, scaled, grown, top}
use Rattle.walk.specs.Log.{Did, put, apply_if, wrote}
use Rattle.walk.specs.Leaves.{put_string, put_extended, copy_string}
use Rattle.walk.proofs.Laws.{fail_did, done_did, wrote_did, need_no, need_ok, next_ok}
use Rattle.leaf_walk.proofs.Laws.{wrote_behind}
use Rattle.walk.proofs.Offsets.{string_is}

-- ---- what the tests say

module _ (m at lead n : ℕ) where
  pub bytes_in_lem : {r : Bool} → r ≡ leb (at + lead + n) m → not r ≡ false → at + lead + n ≤ m
  bytes_in_lem e h = leb-true _ _ (yes e h)

pub fits_is : (w : ℕ) (s : List ℕ) (from n old : ℕ) {r : Extended} {last lead : ℕ} → r ≡ extended w s from n old → r ≡ Fits last lead → (old ≤ last) × (last ≤ largest w)
unfolding extended over_at
fits_is w s from n old {r} {last} {lead} e h =
    go (ltb (entry w s from n) (entry w s from 0)) (ltb (largest w) old) (ltb (largest w) (moved w s from old n)) refl (sym e ∙ h)
  where
    go : (t u v : Bool) → ltb (largest w) (moved w s from old n) ≡ v
        → cond t Falls (cond u Falls (cond v (over_at w s from n old) (Fits (moved w s from old n) (entry w s from 0)))) ≡ Fits last lead → (old ≤ last) × (last ≤ largest w)
    go true u v q k = absurd (let z : ◌≡◌ {A = ℕ} 0 1 = cc in omega arith)
    go false true v q k = absurd (let z : ◌≡◌ {A = ℕ} 0 1 = cc in omega arith)
    go false false true q k = absurd (let z : ◌≡◌ {A = ℕ} 0 1 = cc in omega arith)
    go false false false q k =
        let z : moved w s from old n ≡ last = cc in
        omega (arith, ltb-false (largest w) (moved w s from old n) q)

pub largest_in : (w : ℕ) → ((w ≡ 4 → ⊥) → w ≡ 8) → largest w < 9223372036854775808
largest_in w h = go (eqb w 4) refl
  where
    go : (t : Bool) → eqb w 4 ≡ t → largest w < 9223372036854775808
    go true e = rw (eqb-true w 4 e) (omega arith)
    go false e = rw (h (eqb-false w 4 e)) (omega arith)

-- a write behind the first entry and r others
pub wrote_next : (plan parts : List ℕ) (wr : Bool) (i b r w : ℕ) (bs c room : List ℕ) {o p q : ℕ} {room2 : List ℕ} → p ≡ r → q ≡ grown p 1 → o ≡ scaled q w → 1 ≤ w → length room < top
    → room2 ≡ apply_if plan parts wr (put i b o bs ∷ []) room → Did plan parts wr (wrote (put i b (suc r * w) bs) c) room 0 c room2
wrote_next plan parts wr i b r w bs c room e f l h n g = rw (← add-one r) (wrote_behind plan parts wr i b r 1 w bs c room e f l h n g)

module _ (x : Join) (i : ℕ) (wr : Bool) (c room : List ℕ) where
  pub string_no : (w from n last lead : ℕ) {at old : ℕ} {t : Bool} → at ≡ place x i 5 → old ≡ bytes c i → t ≡ leb (at + lead + (last - old)) (length x.body) → not t ≡ true
      → Did x.plan x.parts wr (put_string x i w from n last lead c) room 12 c room
  unfolding put_string
  string_no w from n last lead e f q h = need_no _ (rw (e, f) at (no q h))

  pub string_yes : (w from n last lead : ℕ) {at old p q o : ℕ} {t : Bool} {room1 room2 c2 : List ℕ} → at ≡ place x i 5 → old ≡ bytes c i
      → t ≡ leb (at + lead + (last - old)) (length x.body) → not t ≡ false → p ≡ rows c i → q ≡ grown p 1 → o ≡ scaled q w → 1 ≤ w → length room < top
      → room1 ≡ apply_if x.plan x.parts wr (put i 1 o (moved_offsets w x.body from old n) ∷ []) room
      → room2 ≡ apply_if x.plan x.parts wr (put i 2 old (take (last - old) (drop (at + lead) x.body)) ∷ []) room1 → c2 ≡ set_bytes i last c
      → Did x.plan x.parts wr (put_string x i w from n last lead c) room 0 c2 room2
  unfolding put_string
  string_yes w from n last lead {room1 = room1} {room2 = room2} e f t h p q o l m g k s =
      need_ok 12 c (rw (e, f) at (yes t h))
      (next_ok _ (wrote_next x.plan x.parts wr i 1 (rows c i) w (moved_offsets w x.body from (bytes c i) n) c room p q o l m (rw f at g)) refl
      (next_ok _ (wrote_did wr _ c room1 room2 (rw (e, f) at k)) refl
      (rw s (done_did wr _ room2))))

  -- ---- the offsets tried

  module _ (w from n : ℕ) where
    pub extended_fits : {old last lead g : ℕ} {r : Extended} {c2 room2 : List ℕ} → old ≡ bytes c i → r ≡ extended w x.body from n old → r ≡ Fits last lead
        → Did x.plan x.parts wr (put_string x i w from n last lead c) room g c2 room2
        → Did x.plan x.parts wr (put_extended x i w from n (extended w x.body from n (bytes c i)) c) room g c2 room2
    extended_fits f e h d = rw (sym (rw f at e) ∙ h) d

    pub extended_over : {old row needed : ℕ} {r : Extended} → old ≡ bytes c i → r ≡ extended w x.body from n old → r ≡ Over row needed
        → Did x.plan x.parts wr (put_extended x i w from n (extended w x.body from n (bytes c i)) c) room 6 c room
    extended_over f e h = rw (sym (rw f at e) ∙ h) (fail_did wr 6 c room)

    pub extended_falls : {old : ℕ} {r : Extended} → old ≡ bytes c i → r ≡ extended w x.body from n old → r ≡ Falls
        → Did x.plan x.parts wr (put_extended x i w from n (extended w x.body from n (bytes c i)) c) room 12 c room
    extended_falls f e h = rw (sym (rw f at e) ∙ h) (fail_did wr 12 c room)

  -- ---- n rows

  module _ (w slot n : ℕ) where
    pub copy_none : n ≡ 0 → Did x.plan x.parts wr (copy_string x i w slot n c) room 0 c room
    unfolding copy_string
    copy_none h = rw (eq-eqb n 0 h) (done_did wr c room)

    pub copy_out : {at : ℕ} {r : Bool} → (n ≡ 0 → ⊥) → at ≡ place x i 3 → r ≡ rows_in x at w slot (n + 1) → not r ≡ true
        → Did x.plan x.parts wr (copy_string x i w slot n c) room 12 c room
    unfolding copy_string
    copy_out h e q k = rw (ne_eqb n 0 h) (need_no _ (rw (e, add-one n) at (no q k)))

    pub copy_in : {at g : ℕ} {r : Bool} {c2 room2 : List ℕ} → (n ≡ 0 → ⊥) → at ≡ place x i 3 → r ≡ rows_in x at w slot (n + 1) → not r ≡ false
        → Did x.plan x.parts wr (put_extended x i w (at + w * slot) n (extended w x.body (at + w * slot) n (bytes c i)) c) room g c2 room2
        → Did x.plan x.parts wr (copy_string x i w slot n c) room g c2 room2
    copy_in h e q k d = rw (string_is x i w slot n c, ne_eqb n 0 h) (need_ok 12 c (rw (e, add-one n) at (yes q k)) (rw e at d))
