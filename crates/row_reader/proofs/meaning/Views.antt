-- A view that obeys its rule shows the bytes that the Columnar Format says. Assumes nothing.
use mathlib.Core.Path.{◌≡◌, refl, ap, sym, subst, ◌∙◌}
use mathlib.Core.Bool.{Bool, true, false, cond}
use mathlib.Core.List.{List, []}
use Prim.Native.Nat.{ℕ, zero, suc, ◌+◌, ◌*◌, ◌≤◌, ◌<◌}
use native.Mathlib.Omega.{arith}
use lib.ListN.{length, take, drop, get_or, length-take, get_or-eq_default}
use lib.Seq.{drop-drop}
use lib.Dec.{leb, ltb}
use borrow.Author.Tests.{leb-true, leb-false, ltb-true, ltb-false}
use Rattle.number.specs.Number.{number}
use Rattle.columnar.specs.Row.{bytes, seg}
use Rattle.columnar.specs.View.{shown, view_of, length_of, buffer_of, offset_of, ViewGood}
use Rattle.columnar.proofs.Items.{number_take, entry_end}
use Rattle.array_data.specs.Tables.{part}
use Rattle.slot_reader.specs.view.Place.{place_of, part_of, length_at, offset_at}
use Rattle.slot_reader.specs.declared.view.Place.{Place}
use Rattle.slot_reader.specs.declared.view.Place.TheVariants as seen
use Rattle.slot_reader.proofs.view.Laws.{inline, in_data, shows, view}
use Rattle.array_data.specs.entries.Entries.{spot_in}
use Rattle.array_data.proofs.entries.Laws.{number_cut, spot_yes}
use Rattle.slot_reader.specs.Slots.{data_place, viewed, view_at}
use Rattle.row_reader.proofs.meaning.Child.{seg_at}
use Rattle.row_reader.proofs.meaning.Slots.{Gives, holds_slot, part_of_lem}
use Rattle.std.specs.Prelude.{Some}

length_seg : {A : Type 0} (f : ℕ → A) (a n : ℕ) → length (seg f a n) ≡ n
length_seg f a zero = refl
length_seg f a (suc n) = ap suc (length_seg f (suc a) n)

module _ (body buffers : List ℕ) (a n : ℕ) where
  -- data buffer b of the table
  abbrev data_of : ℕ → List ℕ
  data_of b = part body (get_or buffers (2 * b) 0) (get_or buffers (2 * b + 1) 0)

  abbrev bufs : List (List ℕ)
  bufs = seg data_of a n

  module _ (lie : (b : ℕ) → b < n → get_or buffers (2 * (a + b)) 0 + get_or buffers (2 * (a + b) + 1) 0 ≤ length body) where
    inside : (b : ℕ) → data_place buffers a n b 0 + data_place buffers a n b 1 ≤ length body
    inside b = go (ltb b n) refl
      where
        go : (t : Bool) → ltb b n ≡ t → cond t (get_or buffers (2 * (a + b) + 0) 0) 0 + cond t (get_or buffers (2 * (a + b) + 1) 0) 0 ≤ length body
        go true e = let z : 2 * (a + b) + 0 ≡ 2 * (a + b) = omega arith in omega (arith, lie b (ltb-true b n e), ap (λ k. get_or buffers k 0) z)
        go false e = omega arith

    buffer_is : (b : ℕ) → get_or bufs b [] ≡ take (data_place buffers a n b 1) (drop (data_place buffers a n b 0) body)
    buffer_is b = go (ltb b n) refl
      where
        go : (t : Bool) → ltb b n ≡ t → get_or bufs b [] ≡ take (cond t (get_or buffers (2 * (a + b) + 1) 0) 0) (drop (cond t (get_or buffers (2 * (a + b) + 0) 0) 0) body)
        go true e = let z : 2 * (a + b) + 0 ≡ 2 * (a + b) = omega arith in rw z (seg_at data_of [] a n b (ltb-true b n e))
        go false e =
            let past : length bufs ≤ b = omega (arith, length_seg data_of a n, ltb-false b n e) in
            get_or-eq_default bufs [] past

    module _ (at : ℕ) (good : ViewGood bufs (view body at)) where
      abbrev b : ℕ
      b = number 4 (drop (at + 8) body)

      abbrev from : ℕ
      from = data_place buffers a n b 0

      abbrev size : ℕ
      size = data_place buffers a n b 1

      names : buffer_of (view body at) ≡ b
      names = number_cut 4 8 16 (drop at body) (omega arith) ∙ ap (number 4) (drop-drop 8 at body)

      long_is : length_of (view body at) ≡ length_at body at
      long_is = number_take 4 16 (drop at body) (omega arith)

      offset_is : offset_of (view body at) ≡ offset_at body at
      offset_is = number_cut 4 12 16 (drop at body) (omega arith) ∙ ap (number 4) (drop-drop 12 at body)

      buffer : get_or bufs (buffer_of (view body at)) [] ≡ take size (drop from body)
      buffer = ap (λ k. get_or bufs k []) names ∙ buffer_is b

      seen_part : part_of body body (place_of body at (length body) from size) ≡ shown bufs (view body at)
      seen_part = shows body body at from size bufs (inside b) buffer good

      by_place : (p : Place) → p ≡ place_of body at (length body) from size → Gives body (viewed p) (bytes (part_of body body p))
          → Gives body (viewed (place_of body at (length body) from size)) (bytes (shown bufs (view body at)))
      by_place p e g =
          subst (λ q. Gives body (viewed (place_of body at (length body) from size)) (bytes q)) seen_part
          (subst (λ q. Gives body (viewed q) (bytes (part_of body body q))) e g)

      placed : Gives body (viewed (place_of body at (length body) from size)) (bytes (shown bufs (view body at)))
      placed = go (leb (length_at body at) 12) refl
        where
          go : (t : Bool) → leb (length_at body at) 12 ≡ t → Gives body (viewed (place_of body at (length body) from size)) (bytes (shown bufs (view body at)))
          go true e =
              by_place (seen.Inline (at + 4) (length_at body at)) (inline body at (length body) from size (length_at body at) (offset_at body at) refl refl (leb-true _ _ e))
              (record { accepted = refl; means = refl })
          go false e =
              let l : 12 < length_at body at = leb-false _ _ e in
              let i = (good.long (omega (arith, long_is))).inside in
              let k : offset_at body at + length_at body at ≤ size = omega (arith, i, ap length buffer, length-take size (drop from body), long_is, offset_is) in
              by_place (seen.Data (from + offset_at body at) (length_at body at)) (in_data body at (length body) from size (length_at body at) (offset_at body at) refl refl l (inside b) k)
              (record { accepted = refl; means = refl })

    -- A VIEW
    pub view_gives : (start size k m : ℕ) → m * 16 ≤ length (part body start size) → k < m → ViewGood bufs (view_of (part body start size) k)
        → Gives body (view_at body buffers a n (spot_in start 16 (part body start size) k)) (bytes (shown bufs (view_of (part body start size) k)))
    view_gives start size k m h l good =
        let s = part body start size in
        let e : k * 16 + 16 ≤ m * 16 = entry_end 16 l in
        let v : view body (start + k * 16) ≡ view_of s k = part_of_lem body start size (k * 16) 16 (omega arith) in
        let sp = spot_yes 16 s k start (holds_slot 16 s k m (omega arith) h l) in
        subst (λ q. Gives body (view_at body buffers a n q) (bytes (shown bufs (view_of s k)))) sp
        (subst (λ q. Gives body (view_at body buffers a n (Some (start + k * 16))) (bytes (shown bufs q))) v
        (placed (start + k * 16) (subst (ViewGood bufs) (sym v) good)))
