-- The walk of a copy at a list-view or a list, by the ways that the code goes. Assumes nothing.
use mathlib.Core.Path.{◌≡◌, refl, sym, ap₂, ◌∙◌}
use mathlib.Core.Bool.{Bool, true, false, cond, ◌||◌}
use mathlib.Core.List.{List}
use Prim.Native.Nat.{ℕ, suc, ◌+◌, ◌*◌, ◌-◌, ◌≤◌, ◌<◌}
use native.Mathlib.Omega.{arith}
use lib.Dec.{leb}
use borrow.Author.Tests.{lt-ltb, le-ltb, leb-true, ne_eqb}
use Rattle.schema.specs.formats.Code.{is_list_view, is_list}
use Rattle.utils.specs.Extension.{extended}
use Rattle.utils.specs.declared.Extended.{Extended}
use Rattle.utils.specs.declared.Extended.TheVariants.{Fits, Over, Falls}
use Rattle.array_data.proofs.lent_tables.Laws.{and_left, and_right}
use Rattle.walk.specs.State.{Join, code_of, bytes_of, rows, place, rows_in}
use Rattle.walk.specs.Log.{Did, apply_if, need}
use Rattle.walk.specs.Copy.{Walk, copy_list_view, put_stretch, copy_list, copy_data}
use Rattle.walk.proofs.Laws.{fail_did, done_did, wrote_did, need_no, need_ok, next_ok}
use Rattle.leaf_walk.proofs.Widths.{list_width, lists_width}
use Rattle.leaf_walk.specs.variable_size.Lists.{tried_offsets, offsets_log}
use Rattle.leaf_walk.proofs.variable_size.Laws.{fits_is}
use Rattle.leaf_walk.proofs.variable_size.Lists.{untouched}
use Rattle.nested_rows.proofs.node_data.Laws.{data_list_view, data_list}
use Rattle.extend.proofs.Laws.{by}
use Rattle.walk.proofs.Names.{put_list}
use Rattle.walk.proofs.Offsets.{list_is}

-- ---- by the code

-- a list-view or a list by the tests of its code
pub listed_code : (plan : List ℕ) (i : ℕ) {code : ℕ} {t u : Bool} → code ≡ code_of plan i → t ≡ is_list_view code → u ≡ is_list code → t || u ≡ true
    → is_list_view (code_of plan i) || is_list (code_of plan i) ≡ true
listed_code plan i e f g h = rw e at (sym (ap₂ ◌||◌ f g) ∙ h)

other_one : (a b : Bool) → a || b ≡ true → b ≡ false → a ≡ true
other_one true b h e = refl
other_one false b h e = absurd (let z : ◌≡◌ {A = ℕ} 0 1 = cc in omega arith)

module _ (plan : List ℕ) (i : ℕ) {code w : ℕ} {t : Bool} (e : code ≡ code_of plan i) (f : t ≡ is_list code) (h : w ≡ bytes_of plan i) where
  list_code : t ≡ true → is_list (code_of plan i) ≡ true
  list_code g = rw e at (sym f ∙ g)

  view_code : is_list_view (code_of plan i) || is_list (code_of plan i) ≡ true → t ≡ false → is_list_view (code_of plan i) ≡ true
  view_code k g = other_one (is_list_view (code_of plan i)) (is_list (code_of plan i)) k (rw e at (sym f ∙ g))

  pub list_wide : t ≡ true → (w ≡ 4 → ⊥) → w ≡ 8
  list_wide g k = h ∙ lists_width (code_of plan i) (list_code g) (λ z. k (h ∙ z))

  pub view_wide : is_list_view (code_of plan i) || is_list (code_of plan i) ≡ true → t ≡ false → (w ≡ 4 → ⊥) → w ≡ 8
  view_wide l g k = h ∙ list_width (code_of plan i) (view_code l g) (λ z. k (h ∙ z))

module _ (x : Join) (child : Walk) (wr : Bool) (i slot n : ℕ) (c room : List ℕ) {code w : ℕ} {t : Bool} (e : code ≡ code_of x.plan i) (f : t ≡ is_list code) (h : w ≡ bytes_of x.plan i)
    {r : ℕ} {c2 room2 : List ℕ} where
  pub to_list_lem : t ≡ true → Did x.plan x.parts wr (copy_list x child w i slot n c) room r c2 room2 → Did x.plan x.parts wr (copy_data x child (code_of x.plan i) i slot n c) room r c2 room2
  to_list_lem g d =
      let l = list_code x.plan i e f h g in
      by (data_list x child (code_of x.plan i) i slot n c (leb-true 19 (code_of x.plan i) (and_left (leb 19 (code_of x.plan i)) _ l)) (leb-true (code_of x.plan i) 20 (and_right (leb 19 (code_of x.plan i)) _ l)))
      (rw h at d)

  pub to_list_view : is_list_view (code_of x.plan i) || is_list (code_of x.plan i) ≡ true → t ≡ false → Did x.plan x.parts wr (copy_list_view x child w i slot n c) room r c2 room2
      → Did x.plan x.parts wr (copy_data x child (code_of x.plan i) i slot n c) room r c2 room2
  to_list_view k g d =
      let l = view_code x.plan i e f h k g in
      by (data_list_view x child (code_of x.plan i) i slot n c (leb-true 17 (code_of x.plan i) (and_left (leb 17 (code_of x.plan i)) _ l)) (leb-true (code_of x.plan i) 18 (and_right (leb 17 (code_of x.plan i)) _ l)))
      (rw h at d)

-- ---- lists

module _ (x : Join) (child : Walk) (wr : Bool) (w i slot n : ℕ) (c room : List ℕ) where
  pub lists_none : n ≡ 0 → Did x.plan x.parts wr (copy_list x child w i slot n c) room 0 c room
  unfolding copy_list
  lists_none e = rw e (done_did wr c room)

  module _ (s : n ≡ 0 → ⊥) {j : ℕ} (e : j ≡ suc i) where
    pub lists_out : 32 ≤ j → Did x.plan x.parts wr (copy_list x child w i slot n c) room 12 c room
    unfolding copy_list
    lists_out h = rw (ne_eqb n 0 s) (need_no _ (le-ltb (suc i) 32 (rw e at h)))

    module _ (h : j < 32) {found : Extended} (f : found ≡ tried_offsets x w i slot n c) {room1 : List ℕ} (g : room1 ≡ apply_if x.plan x.parts wr (offsets_log x w i slot n c found) room) where
      tried : (b : Bool) (m : Extended) → need b 12 c (put_list x child w i (place x i 3 + w * slot) n m c) ≡ put_list x child w i (place x i 3 + w * slot) n (cond b m Falls) c
      unfolding need
      tried true m = refl
      tried false m = refl

      -- the walk by what its offsets come to
      lists_by : {r : ℕ} {c2 room2 : List ℕ} → Did x.plan x.parts wr (put_list x child w i (place x i 3 + w * slot) n found c) room r c2 room2
          → Did x.plan x.parts wr (copy_list x child w i slot n c) room r c2 room2
      unfolding tried_offsets
      lists_by d = rw (list_is x child w i slot n c, ne_eqb n 0 s) (need_ok 12 c (lt-ltb (suc i) 32 (rw e at h)) (by (sym (tried (rows_in x (place x i 3) w slot (suc n)) (extended w x.body (place x i 3 + w * slot) n (rows c (suc i))))) (rw f at d)))

      pub lists_over : {row needed : ℕ} → found ≡ Over row needed → Did x.plan x.parts wr (copy_list x child w i slot n c) room 6 c room1
      lists_over k =
          let q : room1 ≡ room = (rw k at g) ∙ sym (untouched x.plan x.parts wr room) in
          rw q (lists_by (rw k (fail_did wr 6 c room)))

      pub lists_fall : found ≡ Falls → Did x.plan x.parts wr (copy_list x child w i slot n c) room 12 c room1
      lists_fall k =
          let q : room1 ≡ room = (rw k at g) ∙ sym (untouched x.plan x.parts wr room) in
          rw q (lists_by (rw k (fail_did wr 12 c room)))

      module _ {last lead old : ℕ} (k : found ≡ Fits last lead) (l : old ≡ rows c j) where
        -- the stretch is no less than nothing
        pub lists_less : old ≤ last
        unfolding tried_offsets
        lists_less = go (rows_in x (place x i 3) w slot (suc n)) (sym f ∙ k)
          where
            go : (b : Bool) → cond b (extended w x.body (place x i 3 + w * slot) n (rows c (suc i))) Falls ≡ Fits last lead → old ≤ last
            go true q = rw (l, e) (fits_is w x.body (place x i 3 + w * slot) n (rows c (suc i)) refl q).0
            go false q = absurd (let z : ◌≡◌ {A = ℕ} 0 1 = cc in omega arith)

        pub lists_go : {r : ℕ} {c2 room2 : List ℕ} → Did x.plan x.parts wr (child j lead (last - old) c) room1 r c2 room2 → Did x.plan x.parts wr (copy_list x child w i slot n c) room r c2 room2
        unfolding put_stretch
        lists_go d = lists_by (rw k (next_ok _ (wrote_did wr _ c room room1 (rw k at g)) refl (rw (l, e) at d)))
