-- What a node of each kind writes, from what its leaves write, and what it settles. Assumes nothing.
use mathlib.Core.Path.{◌≡◌, refl, sym, ap, ap₂, subst, ◌∙◌}
use mathlib.Core.Bool.{Bool, true, false, not, cond, ◌&&◌}
use mathlib.Core.List.{List, [], ◌∷◌}
use Prim.Native.Nat.{ℕ, suc, ◌+◌, ◌*◌, ◌-◌, ◌<◌, ◌≤◌}
use native.Mathlib.Nat.{mul-one}
use native.Mathlib.Numerals.{add-one}
use native.Mathlib.Omega.{arith}
use lib.ListN.{length, take, drop}
use lib.Dec.{ltb}
use borrow.Author.Tests.{ltb-false, le-ltb}
use Rattle.number.specs.Number.{entry}
use Rattle.columnar.specs.Row.{seg}
use Rattle.columnar.specs.Types.{Number, width, half, limit, key_fits}
use Rattle.columnar.specs.Array.{item}
use Rattle.columnar.specs.Entries.{encodes}
use Rattle.columnar.specs.Plain.{OffsetsRule}
use Rattle.columnar.proofs.Items.{entry_end}
use Rattle.array_data.specs.Tables.{Tables, part, place, length_of, first_buffer, second_buffer}
use Rattle.array_data.specs.NodeKinds.{NodeKind, fixed_node, string_node, view_node, list_view_node, list_node, sparse_node, dense_node, dictionary_node}
use Rattle.array_data.specs.Typed.{Tree}
use Rattle.walk.specs.State.{set_bytes}
use Rattle.walk.specs.Log.{Out, Did, put, apply_if, done, wrote, need, next}
use Rattle.walk.proofs.Laws.{done_did, wrote_did, need_no, need_ok, next_need, next_no, next_ok}
use Rattle.refinement.proofs.walk_is_model.Parts.{part_cut, part_entry}
use Rattle.anew.specs.widths.Converted.{span_of, offsets_of}
use Rattle.anew.proofs.widths.Plain.{first_least, last_within}
use Rattle.width_walks.specs.Nodes.{range, own_as, settle_as}
use Rattle.width_loop.specs.Steps.{pairs_walk, Inside}
use Rattle.width_loop.proofs.Laws.{as_part, part_size, off_true, off_false, slots_are, offset_in_lem, span_rises}

-- an answer that is 0
pub did_zero : {plan parts : List ℕ} {write : Bool} {o : Out} {room c room2 : List ℕ} {g : ℕ} → g ≡ 0 → Did plan parts write o room g c room2 → Did plan parts write o room 0 c room2
did_zero {plan} {parts} {write} {o} {room} {c} {room2} e d = subst (λ z. Did plan parts write o room z c room2) e d

-- ---- offsets

module _ (plan parts : List ℕ) (write : Bool) (room : List ℕ) (x : Tables) (i w w2 s n : ℕ) (c : List ℕ) where
  abbrev offsets_at : ℕ → ℕ → Out
  offsets_at at size = need (ltb (span_of w (part x.body at size) s n) (half w2)) 6 c (wrote (put i 1 0 (encodes w2 (offsets_of w (part x.body at size) s n))) c)

  pub offsets_as : {at size g : ℕ} {room1 : List ℕ} → at ≡ place x i 3 → size ≡ place x i 4 → Did plan parts write (offsets_at at size) room g c room1
      → Did plan parts write (need (ltb (span_of w (first_buffer x i) s n) (half w2)) 6 c (wrote (put i 1 0 (encodes w2 (offsets_of w (first_buffer x i) s n))) c)) room g c room1
  offsets_as {at} {size} {g} {room1} e f d = subst (λ o. Did plan parts write o room g c room1) (ap₂ offsets_at e f) d

  pub item_as : (p : ℕ) {at size v : ℕ} → at ≡ place x i 3 → size ≡ place x i 4 → v ≡ item w (part x.body at size) p → v ≡ item w (first_buffer x i) p
  item_as p e f h = h ∙ ap₂ (λ y z. item w (part x.body y z) p) e f

  -- ---- byte strings

  module _ (t t2 : Tree) (okay : ℕ → Bool) where
    abbrev span : ℕ
    span = span_of w (first_buffer x i) s n

    abbrev chars : List ℕ
    chars = take (span_of w (first_buffer x i) s n) (drop (item w (first_buffer x i) s) (second_buffer x i))

    abbrev rest : List ℕ → Out
    rest c1 = next (wrote (put i 2 0 chars) c1) (λ c2. done (set_bytes i span c2))

    abbrev first_step : Out
    first_step = need (ltb (span_of w (first_buffer x i) s n) (half w2)) 6 c (wrote (put i 1 0 (encodes w2 (offsets_of w (first_buffer x i) s n))) c)

    string_is : own_as t t2 x plan (string_node w) (string_node w2) i okay s n c ≡ next first_step rest
    string_is = next_need (ltb span (half w2)) 6 c (wrote (put i 1 0 (encodes w2 (offsets_of w (first_buffer x i) s n))) c) rest (λ e. omega arith)

    pub string_no : {g : ℕ} {room1 : List ℕ} → Did plan parts write first_step room g c room1 → (g ≡ 0 → ⊥) → Did plan parts write (own_as t t2 x plan (string_node w) (string_node w2) i okay s n c) room g c room1
    string_no {g} {room1} d h = subst (λ o. Did plan parts write o room g c room1) (sym string_is) (next_no rest d h)

    module _ (r : OffsetsRule w (first_buffer x i) (length (second_buffer x i)) s n) (inside : Inside x i 5) where
      chars_are : {p base last : ℕ} → p ≡ place x i 5 → base ≡ item w (first_buffer x i) s → last ≡ item w (first_buffer x i) (s + n) → take (last - base) (drop (p + base) x.body) ≡ chars
      chars_are {p} {base} {last} e f g =
          let a = first_least w (first_buffer x i) (length (second_buffer x i)) s n r n (omega arith) in
          let b = last_within w (first_buffer x i) (length (second_buffer x i)) s n r in
          let l = part_size x.body (place x i 5) (place x i 6) inside in
          let z : take span (drop (item w (first_buffer x i) s) (second_buffer x i)) ≡ take span (drop (place x i 5 + item w (first_buffer x i) s) x.body) =
          part_cut (as_part x.body (place x i 5) (place x i 6) inside) span (item w (first_buffer x i) s) (omega arith) in
          ap₂ (λ y u. take y (drop u x.body)) (ap₂ ◌-◌ g f) (ap₂ ◌+◌ e f) ∙ sym z

      pub string_yes : {p base last g : ℕ} {room1 room2 c2 : List ℕ} → Did plan parts write first_step room g c room1 → g ≡ 0 → base ≡ item w (first_buffer x i) s → last ≡ item w (first_buffer x i) (s + n) → p ≡ place x i 5
          → room2 ≡ apply_if plan parts write (put i 2 0 (take (last - base) (drop (p + base) x.body)) ∷ []) room1 → c2 ≡ set_bytes i (last - base) c
          → Did plan parts write (own_as t t2 x plan (string_node w) (string_node w2) i okay s n c) room 0 c2 room2
      string_yes {p} {base} {last} {g} {room1} {room2} {c2} d z f h e q k =
          let v : c2 ≡ set_bytes i span c = k ∙ ap (λ y. set_bytes i y c) (ap₂ ◌-◌ h f) in
          subst (λ o. Did plan parts write o room 0 c2 room2) (sym string_is)
          (next_ok rest d z
          (next_ok (λ c3. done (set_bytes i span c3)) (wrote_did write (put i 2 0 chars) c room1 room2 (q ∙ ap (λ b. apply_if plan parts write (put i 2 0 b ∷ []) room1) (chars_are e f h))) refl
          (subst (λ y. Did plan parts write (done (set_bytes i span c)) room2 0 y room2) (sym v) (done_did write (set_bytes i span c) room2))))

-- what a list settles
pub list_settles : (t t2 : Tree) (x : Tables) (plan : List ℕ) (i w s n : ℕ) (rs : List ℕ) {base last : ℕ} {out : List ℕ} → base ≡ item w (first_buffer x i) s → last ≡ item w (first_buffer x i) (s + n)
    → out ≡ range (i + 1) base (last - base) rs → out ≡ settle_as t t2 x plan (list_node w) i s n rs
list_settles t t2 x plan i w s n rs {base} {last} e f g = g ∙ ap₂ (λ y z. range (i + 1) y z rs) e (ap₂ ◌-◌ f e) ∙ ap (λ k. range k (item w (first_buffer x i) s) (span_of w (first_buffer x i) s n) rs) (add-one i)

-- the whole of the next node
pub next_settles : (x : Tables) (i : ℕ) (rs : List ℕ) {l : ℕ} {out : List ℕ} → l ≡ length_of x (i + 1) → out ≡ range (i + 1) 0 l rs → out ≡ range (suc i) 0 (length_of x (suc i)) rs
next_settles x i rs e g = g ∙ ap (λ z. range (i + 1) 0 z rs) e ∙ ap (λ k. range k 0 (length_of x k) rs) (add-one i)

-- the entries of a list-view, in place
module _ (x : Tables) (i s n : ℕ) where
  pub first_small : (w : ℕ) {at : ℕ} → Inside x i 3 → (s + n) * w ≤ place x i 4 → at ≡ place x i 3 → ((j : ℕ) → j < n → item w (first_buffer x i) (s + j) < half w) → (j : ℕ) → j < n → entry w x.body (at + w * s) j < half w
  first_small w p q e h j l =
      let z : (s + j) * w + w ≤ (s + n) * w = entry_end w {i = s + j} {n = s + n} (omega arith) in
      omega (arith, h j l, ap (λ y. entry w x.body (y + w * s) j) e, part_entry (as_part x.body (place x i 3) (place x i 4) p) w s j (omega arith))

  pub second_small : (w : ℕ) {at : ℕ} → Inside x i 5 → (s + n) * w ≤ place x i 6 → at ≡ place x i 5 → ((j : ℕ) → j < n → item w (second_buffer x i) (s + j) < half w) → (j : ℕ) → j < n → entry w x.body (at + w * s) j < half w
  second_small w p q e h j l =
      let z : (s + j) * w + w ≤ (s + n) * w = entry_end w {i = s + j} {n = s + n} (omega arith) in
      omega (arith, h j l, ap (λ y. entry w x.body (y + w * s) j) e, part_entry (as_part x.body (place x i 5) (place x i 6) p) w s j (omega arith))

  -- .. none above the child's rows
  pub first_most : (w : ℕ) {at most : ℕ} → Inside x i 3 → (s + n) * w ≤ place x i 4 → at ≡ place x i 3 → most ≡ length_of x (i + 1)
      → ((j : ℕ) → j < n → item w (first_buffer x i) (s + j) ≤ length_of x (suc i)) → (j : ℕ) → j < n → entry w x.body (at + w * s) j ≤ most
  first_most w p q e m h j l =
      let z : (s + j) * w + w ≤ (s + n) * w = entry_end w {i = s + j} {n = s + n} (omega arith) in
      omega (arith, h j l, m, ap (length_of x) (add-one i), ap (λ y. entry w x.body (y + w * s) j) e, part_entry (as_part x.body (place x i 3) (place x i 4) p) w s j (omega arith))

  pub second_most : (w : ℕ) {at most : ℕ} → Inside x i 5 → (s + n) * w ≤ place x i 6 → at ≡ place x i 5 → most ≡ length_of x (i + 1)
      → ((j : ℕ) → j < n → item w (second_buffer x i) (s + j) ≤ length_of x (suc i)) → (j : ℕ) → j < n → entry w x.body (at + w * s) j ≤ most
  second_most w p q e m h j l =
      let z : (s + j) * w + w ≤ (s + n) * w = entry_end w {i = s + j} {n = s + n} (omega arith) in
      omega (arith, h j l, m, ap (length_of x) (add-one i), ap (λ y. entry w x.body (y + w * s) j) e, part_entry (as_part x.body (place x i 5) (place x i 6) p) w s j (omega arith))

module _ (plan parts : List ℕ) (write : Bool) (room : List ℕ) (x : Tables) (i s n : ℕ) (c : List ℕ) (t t2 : Tree) (okay : ℕ → Bool) where
  -- ---- list-views

  pub pairs_as : (w w2 : ℕ) {at too g : ℕ} {room1 : List ℕ} → Inside x i 3 → Inside x i 5 → (s + n) * w ≤ place x i 4 → (s + n) * w ≤ place x i 6 → at ≡ place x i 3 → too ≡ place x i 5
      → ((size size2 : ℕ) (d : List ℕ) → at + size ≤ length x.body → too + size2 ≤ length x.body → (s + n) * w ≤ size → (s + n) * w ≤ size2 → Did plan parts write (pairs_walk (part x.body at size) (part x.body too size2) w w2 i s n d) room g d room1)
      → Did plan parts write (own_as t t2 x plan (list_view_node w) (list_view_node w2) i okay s n c) room g c room1
  pairs_as w w2 {at} {too} {g} {room1} p q u v e f h =
      subst (λ y. Did plan parts write (pairs_walk (part x.body y (place x i 4)) (second_buffer x i) w w2 i s n c) room g c room1) e
      (subst (λ y. Did plan parts write (pairs_walk (part x.body at (place x i 4)) (part x.body y (place x i 6)) w w2 i s n c) room g c room1) f
      (h (place x i 4) (place x i 6) c (omega (arith, e)) (omega (arith, f)) u v))

  -- ---- slots as they are

  slots_first : (w : ℕ) {at : ℕ} → Inside x i 3 → (s + n) * w ≤ place x i 4 → at ≡ place x i 3 → take (w * n) (drop (at + w * s) x.body) ≡ take (n * w) (drop (s * w) (first_buffer x i))
  slots_first w p q e = ap (λ y. take (w * n) (drop (y + w * s) x.body)) e ∙ slots_are x.body (place x i 3) (place x i 4) w s n p q

  slots_second : (w : ℕ) {at : ℕ} → Inside x i 5 → (s + n) * w ≤ place x i 6 → at ≡ place x i 5 → take (w * n) (drop (at + w * s) x.body) ≡ take (n * w) (drop (s * w) (second_buffer x i))
  slots_second w p q e = ap (λ y. take (w * n) (drop (y + w * s) x.body)) e ∙ slots_are x.body (place x i 5) (place x i 6) w s n p q

  wrote_as : (b : ℕ) (bs cs : List ℕ) {room1 : List ℕ} → bs ≡ cs → room1 ≡ apply_if plan parts write (put i b 0 bs ∷ []) room → Did plan parts write (wrote (put i b 0 cs) c) room 0 c room1
  wrote_as b bs cs {room1} e g = wrote_did write (put i b 0 cs) c room room1 (g ∙ ap (λ z. apply_if plan parts write (put i b 0 z ∷ []) room) e)

  pub fixed_as : (k2 : NodeKind) (m : Number) {w at : ℕ} {room1 : List ℕ} → w ≡ width m → Inside x i 3 → (s + n) * width m ≤ place x i 4 → at ≡ place x i 3
      → room1 ≡ apply_if plan parts write (put i 1 0 (take (w * n) (drop (at + w * s) x.body)) ∷ []) room → Did plan parts write (own_as t t2 x plan (fixed_node m) k2 i okay s n c) room 0 c room1
  fixed_as k2 m {w} {at} e p q f g = wrote_as 1 _ _ (ap (λ y. take (y * n) (drop (at + y * s) x.body)) e ∙ slots_first (width m) p q f) g

  pub view_as : (k2 : NodeKind) {at : ℕ} {room1 : List ℕ} → Inside x i 3 → (s + n) * 16 ≤ place x i 4 → at ≡ place x i 3
      → room1 ≡ apply_if plan parts write (put i 1 0 (take (16 * n) (drop (at + 16 * s) x.body)) ∷ []) room → Did plan parts write (own_as t t2 x plan view_node k2 i okay s n c) room 0 c room1
  view_as k2 p q f g = wrote_as 1 _ _ (slots_first 16 p q f) g

  ones : (buffer : List ℕ) → take (n * 1) (drop (s * 1) buffer) ≡ take n (drop s buffer)
  ones buffer = ap₂ (λ y z. take y (drop z buffer)) (mul-one n) (mul-one s)

  pub sparse_as : (k2 : NodeKind) (ids : List ℕ) {at : ℕ} {room1 : List ℕ} → Inside x i 3 → (s + n) * 1 ≤ place x i 4 → at ≡ place x i 3
      → room1 ≡ apply_if plan parts write (put i 1 0 (take (1 * n) (drop (at + 1 * s) x.body)) ∷ []) room → Did plan parts write (own_as t t2 x plan (sparse_node ids) k2 i okay s n c) room 0 c room1
  sparse_as k2 ids p q f g = wrote_as 1 _ _ (slots_first 1 p q f ∙ ones (first_buffer x i)) g

  pub dense_as : (k2 : NodeKind) (ids : List ℕ) {at too : ℕ} {room1 room2 : List ℕ} → Inside x i 3 → Inside x i 5 → (s + n) * 1 ≤ place x i 4 → (s + n) * 4 ≤ place x i 6 → at ≡ place x i 3 → too ≡ place x i 5
      → room1 ≡ apply_if plan parts write (put i 1 0 (take (1 * n) (drop (at + 1 * s) x.body)) ∷ []) room → room2 ≡ apply_if plan parts write (put i 2 0 (take (4 * n) (drop (too + 4 * s) x.body)) ∷ []) room1
      → Did plan parts write (own_as t t2 x plan (dense_node ids) k2 i okay s n c) room 0 c room2
  dense_as k2 ids {room1 = room1} {room2 = room2} p q u v e f g h =
      next_ok (λ c1. wrote (put i 2 0 (take (n * 4) (drop (s * 4) (second_buffer x i)))) c1) (wrote_as 1 _ _ (slots_first 1 p u e ∙ ones (first_buffer x i)) g) refl
      (wrote_did write (put i 2 0 (take (n * 4) (drop (s * 4) (second_buffer x i)))) c room1 room2 (h ∙ ap (λ z. apply_if plan parts write (put i 2 0 z ∷ []) room1) (slots_second 4 q v f)))

-- ---- dictionaries

-- the test of ground 8 for keys that nothing is added to
key_test : (m : Number) (n : ℕ) → key_fits m 0 n ≡ ltb (n - 1) (limit m)
key_test m n = go (ltb 0 (limit m)) refl
  where
    none : (b : Bool) → b && false ≡ false
    none true = refl
    none false = refl

    all : (b : Bool) → b && true ≡ b
    all true = refl
    all false = refl

    start : ltb (0 + n - 1) (limit m) ≡ ltb (n - 1) (limit m)
    start = ap (λ z. ltb z (limit m)) (let e : 0 + n - 1 ≡ n - 1 = omega arith in e)

    go : (b : Bool) → ltb 0 (limit m) ≡ b → key_fits m 0 n ≡ ltb (n - 1) (limit m)
    go true e = ap (λ z. ltb (0 + n - 1) (limit m) && z) e ∙ all (ltb (0 + n - 1) (limit m)) ∙ start
    go false e = ap (λ z. ltb (0 + n - 1) (limit m) && z) e ∙ none (ltb (0 + n - 1) (limit m)) ∙ sym (le-ltb (n - 1) (limit m) (omega (arith, ltb-false 0 (limit m) e)))

module _ (plan parts : List ℕ) (write : Bool) (room : List ℕ) (x : Tables) (i s n : ℕ) (c : List ℕ) (t t2 : Tree) (okay : ℕ → Bool) (m m2 : Number) where
  fits_as : {l : ℕ} {b : Bool} → l ≡ length_of x (i + 1) → b ≡ key_fits m2 0 l → b ≡ ltb (length_of x (suc i) - 1) (limit m2)
  fits_as {l} e f = f ∙ key_test m2 l ∙ ap (λ z. ltb (z - 1) (limit m2)) (e ∙ ap (length_of x) (add-one i))

  pub keys_no : {l : ℕ} {b : Bool} → l ≡ length_of x (i + 1) → b ≡ key_fits m2 0 l → not b ≡ true → Did plan parts write (own_as t t2 x plan (dictionary_node m) (dictionary_node m2) i okay s n c) room 8 c room
  keys_no e f h = need_no _ (sym (fits_as e f) ∙ off_true h)

  pub keys_yes : {l w w2 : ℕ} {b : Bool} {room1 : List ℕ} → l ≡ length_of x (i + 1) → b ≡ key_fits m2 0 l → not b ≡ false → width m ≡ w → width m2 ≡ w2
      → room1 ≡ apply_if plan parts write (put i 1 0 (encodes w2 (seg (λ j. cond (okay j) (item w (first_buffer x i) j) 0) s n)) ∷ []) room
      → Did plan parts write (own_as t t2 x plan (dictionary_node m) (dictionary_node m2) i okay s n c) room 0 c room1
  keys_yes {room1 = room1} e f h p q g =
      need_ok 8 c (sym (fits_as e f) ∙ off_false h)
      (wrote_did write (put i 1 0 (encodes (width m2) (seg (λ j. cond (okay j) (item (width m) (first_buffer x i) j) 0) s n))) c room room1
      (g ∙ ap₂ (λ y z. apply_if plan parts write (put i 1 0 (encodes z (seg (λ j. cond (okay j) (item y (first_buffer x i) j) 0) s n)) ∷ []) room) (sym p) (sym q)))

-- ---- what the code reads on the way

module _ (x : Tables) (i w s n most : ℕ) (r : OffsetsRule w (first_buffer x i) most s n) {at size : ℕ} (e : at ≡ place x i 3) (f : size ≡ place x i 4) where
  pub rule_as : OffsetsRule w (part x.body at size) most s n
  rule_as = subst (λ o. OffsetsRule w o most s n) (sym (ap₂ (λ y z. part x.body y z) e f)) r

  pub inside_as : Inside x i 3 → at + size ≤ length x.body
  inside_as p = omega (arith, e, f)

  pub offset_ok : Inside x i 3 → (p : ℕ) → p ≤ s + n → (size ≡ 0 → ⊥) → (p + 1) * w ≤ size
  offset_ok q p l h = offset_in_lem w (part x.body at size) most s n p size rule_as (part_size x.body at size (inside_as q)) l h

  pub base_below : {base last : ℕ} → base ≡ item w (part x.body at size) s → last ≡ item w (part x.body at size) (s + n) → base ≤ last
  base_below g h = omega (arith, span_rises w (part x.body at size) most s n rule_as)

  pub last_below : {last : ℕ} → last ≡ item w (part x.body at size) (s + n) → last ≤ most
  last_below g = omega (arith, g, last_within w (part x.body at size) most s n rule_as)
