-- A node without children may be cut. Assumes nothing.
use mathlib.Core.Path.{◌≡◌, refl, sym, ap, ◌∙◌}
use mathlib.Core.Bool.{Bool, true, false, cond}
use mathlib.Core.List.{List}
use Prim.Native.Nat.{ℕ, ◌+◌, ◌*◌, ◌≤◌}
use native.Mathlib.Numerals.{add-one}
use native.Mathlib.Omega.{arith}
use lib.Seq.{get_or-set_other}
use lib.Dec.{leb, eqb}
use borrow.Author.Tests.{leb-true, leb-false, le-leb, lt-leb, lt-ltb, eqb-true, eqb-false}
use Rattle.columnar.specs.Types.{half}
use Rattle.schema.specs.formats.Code.{width_of, between, is_fixed, is_string, is_view, is_list_view}
use Rattle.utils.specs.Offsets.{largest}
use Rattle.plan.specs.parts.Parts.{needed_by}
use Rattle.refinement.proofs.orders.Buffers.{needed_fixed, needed_offsets, needed_views}
use Rattle.walk.specs.State.{Join, code_of, dictionary_of, bytes_of, nulls, bytes, top, grown, add_nulls, set_bytes, place}
use Rattle.walk.specs.Log.{fail}
use Rattle.walk.specs.Leaves.{copy_mask, copy_numbers, copy_keys, copy_views, copy_string}
use Rattle.walk.specs.Copy.{Walk, masked, copy_data, copy_slots}
use Rattle.batch.specs.Stretch.{never_falls}
use Rattle.batch.specs.Batch.{is_leaf}
use Rattle.batch.proofs.Ends.{Leaves, leaves_done, leaves_next, next_first, next_last}
use Rattle.batch.proofs.Tally.{Counts, tally}
use Rattle.batch.proofs.Stretches.{and_left, and_right}
use Rattle.batch.proofs.Leaves.{mask_fits, mask_zeros, mask_was, mask_goes, mask_first, mask_second, mask_none, DataCuts}
use Rattle.batch.proofs.Strings.{falls_first}
use Rattle.batch.proofs.Contents.{Kind, kind_as, numbers_kind, keys_kind, views_kind, strings_kind}

-- ---- codes

between_low : (a b v : ℕ) → between a b v ≡ true → a ≤ v
between_low a b v h = leb-true a v (and_left (leb a v) (leb v b) h)

between_high : (a b v : ℕ) → between a b v ≡ true → v ≤ b
between_high a b v h = leb-true v b (and_right (leb a v) (leb v b) h)

in_between : (a b v : ℕ) → a ≤ v → v ≤ b → between a b v ≡ true
in_between a b v h k = rw (le-leb a v h, le-leb v b k)

string_width : (code : ℕ) → is_string code ≡ true → largest (width_of code) ≤ top
string_width code h = go (eqb code 11) refl (eqb code 12) refl (eqb code 13) refl
  where
    go : (s : Bool) → eqb code 11 ≡ s → (t : Bool) → eqb code 12 ≡ t → (u : Bool) → eqb code 13 ≡ u → largest (width_of code) ≤ top
    go true e t f u g = rw (eqb-true code 11 e) (omega arith)
    go false e true f u g = rw (eqb-true code 12 f) (omega arith)
    go false e false f true g = rw (eqb-true code 13 g) (omega arith)
    go false e false f false g =
        let a = between_low 11 14 code h in
        let b = between_high 11 14 code h in
        let x = eqb-false code 11 e in
        let y = eqb-false code 12 f in
        let z = eqb-false code 13 g in
        let q : code ≡ 14 = omega arith in
        rw q (omega arith)

never : ◌≡◌ {A = Bool} false true → ⊥
never y = let z : ◌≡◌ {A = ℕ} 0 1 = ap (λ b. cond b 1 0) y in omega arith

leaf_kinds : (code : ℕ) → is_leaf code ≡ true → is_fixed code ≡ false → is_string code ≡ false → is_view code ≡ false → ⊥
leaf_kinds code l e f g = go (leb code 10) refl (leb code 14) refl
  where
    low : 1 ≤ code
    low = between_low 1 16 code l

    high : code ≤ 16
    high = between_high 1 16 code l

    go : (p : Bool) → leb code 10 ≡ p → (q : Bool) → leb code 14 ≡ q → ⊥
    go true a q b = never (sym e ∙ in_between 1 10 code low (leb-true code 10 a))
    go false a true b = never (sym f ∙ in_between 11 14 code (leb-false code 10 a) (leb-true code 14 b))
    go false a false b = never (sym g ∙ in_between 15 16 code (leb-false code 14 b) high)

pub list_view_width : (code : ℕ) → is_list_view code ≡ true → half (width_of code) ≤ top
list_view_width code h = go (eqb code 17) refl
  where
    go : (s : Bool) → eqb code 17 ≡ s → half (width_of code) ≤ top
    go true e = rw (eqb-true code 17 e) (omega arith)
    go false e =
        let a = between_low 17 18 code h in
        let b = between_high 17 18 code h in
        let x = eqb-false code 17 e in
        let q : code ≡ 18 = omega arith in
        rw q (omega arith)

module _ (x : Join) (k : ℕ) (leaf : is_leaf (code_of x.plan k) ≡ true) where
  abbrev C : ℕ
  C = code_of x.plan k

  abbrev W : ℕ
  W = bytes_of x.plan k

  -- what `steady` says of the slots
  abbrev pub st : ℕ → ℕ → Bool
  st slot n = cond (is_string C) (never_falls W x.body (place x k 3 + W * slot) n) true

  pub st_first : (slot m s : ℕ) → st slot (m + s) ≡ true → st slot m ≡ true
  st_first slot m s = go (is_string C)
    where
      go : (t : Bool) → cond t (never_falls W x.body (place x k 3 + W * slot) (m + s)) true ≡ true → cond t (never_falls W x.body (place x k 3 + W * slot) m) true ≡ true
      go true h = falls_first W x.body (place x k 3 + W * slot) m s h
      go false h = refl

  -- a walk that is never taken
  abbrev pub idle : Walk
  idle j a n c = fail 12 c

  fixed_plain : is_fixed C ≡ true → is_string C ≡ false
  fixed_plain h = let b = between_high 1 10 C h in rw (lt-leb 11 C (omega arith))

  -- the bytes of the first buffer
  abbrev pub firsts : ℕ → ℕ → ℕ
  firsts r n = needed_by C r n 1

  pub leaf_kind_lem : Kind x k st (is_string C) firsts (λ slot n c. copy_data x idle C k slot n c)
  unfolding copy_data copy_numbers copy_keys copy_views
  leaf_kind_lem = go (is_fixed C) refl (eqb (dictionary_of x.plan k) 0) refl (is_string C) refl (is_view C) refl
    where
      go : (t : Bool) → is_fixed C ≡ t → (d : Bool) → eqb (dictionary_of x.plan k) 0 ≡ d → (u : Bool) → is_string C ≡ u → (v : Bool) → is_view C ≡ v
          → Kind x k st (is_string C) firsts (λ slot n c. copy_data x idle C k slot n c)
      go true e true f u g v h =
          kind_as x k st (is_string C) false firsts _ (λ slot n c. copy_numbers x k W slot n c) (fixed_plain e) (λ slot n c. rw (e, f)) (numbers_kind x k st firsts W (λ r n. sym (needed_fixed C r n e)))
      go true e false f u g v h =
          kind_as x k st (is_string C) false firsts _ (λ slot n c. copy_keys x k W slot n c) (fixed_plain e) (λ slot n c. rw (e, f)) (keys_kind x k st firsts W (λ r n. sym (needed_fixed C r n e)))
      go false e d f true g v h =
          kind_as x k st (is_string C) true firsts _ (λ slot n c. copy_string x k W slot n c) g (λ slot n c. rw (e, g)) (strings_kind x k st W (λ slot n. rw g) (string_width C g) firsts (λ r n. sym (needed_offsets C r n g ∙ rw (add-one r) refl)))
      go false e d f false g true h =
          kind_as x k st (is_string C) false firsts _ (λ slot n c. copy_views x k slot n c) g (λ slot n c. rw (e, g, h)) (views_kind x k st firsts (λ r n. sym (needed_views C r n h)))
      go false e d f false g false h = absurd (leaf_kinds C leaf e g h)

  abbrev pub leaf_data : DataCuts x k st (λ slot n c. copy_data x idle C k slot n c)
  leaf_data = leaf_kind_lem.cuts

  -- whatever the walk of its children would be
  pub data_is : (child : Walk) (slot n : ℕ) (c : List ℕ) → copy_data x child C k slot n c ≡ copy_data x idle C k slot n c
  unfolding copy_data
  data_is child slot n c = go (is_fixed C) refl (is_string C) refl (is_view C) refl
    where
      go : (t : Bool) → is_fixed C ≡ t → (u : Bool) → is_string C ≡ u → (v : Bool) → is_view C ≡ v → copy_data x child C k slot n c ≡ copy_data x idle C k slot n c
      go true e u g v h = rw e
      go false e true g v h = rw (e, g)
      go false e false g true h = rw (e, g, h)
      go false e false g false h = absurd (leaf_kinds C leaf e g h)

  -- ---- the whole node

  pub masks : masked C ≡ true
  masks = lt-ltb C 21 (let h = between_high 1 16 C leaf in omega arith)

  pub bytes_kept : (z : ℕ) (c : List ℕ) → bytes (add_nulls k z c) k ≡ bytes c k
  bytes_kept z c = get_or-set_other c (3 * k + 1) (3 * k + 2) (grown (nulls c k) z) 0 (λ (e : 3 * k + 2 ≡ 3 * k + 1). omega arith)

  -- what a walk of the slots asks for, from b bytes on
  pub record Passes (slot n b : ℕ) : Type 0 where
    pub bits : mask_fits x k slot n ≡ true
    pub entries : leaf_data.passes slot n b

  pub slots_was : (child : Walk) (slot n : ℕ) (c : List ℕ) → Counts c → (copy_slots x child k slot n c).ans ≡ 0 → Passes slot n (bytes c k)
  unfolding copy_slots
  slots_was child slot n c f h =
      let g = rw masks at h in
      let m = mask_was x k slot n c (next_first (copy_mask x k slot n c) _ g) in
      let l = mask_goes x k slot n c f m in
      let d = next_first (copy_data x child C k slot n (add_nulls k (mask_zeros x k slot n) c)) _ (next_last _ l g).ok in
      record { bits = m; entries = rw (bytes_kept (mask_zeros x k slot n) c) at (leaf_data.was slot n _ (rw (data_is child slot n _) at d)) }

  pub slots_goes : (child : Walk) (slot n : ℕ) (c : List ℕ) → Counts c → Passes slot n (bytes c k)
      → Leaves (copy_slots x child k slot n c) (tally k n (mask_zeros x k slot n) (leaf_data.amount slot n) c)
  unfolding copy_slots
  slots_goes child slot n c f p =
      let z = mask_zeros x k slot n in
      let e = bytes_kept z c in
      let q : Leaves (copy_data x child C k slot n (add_nulls k z c)) (set_bytes k (bytes c k + leaf_data.amount slot n) (add_nulls k z c)) =
      rw (data_is child slot n (add_nulls k z c)) (rw e at (leaf_data.goes slot n (add_nulls k z c) (rw e p.entries))) in
      rw masks (leaves_next _ (mask_goes x k slot n c f p.bits) (leaves_next _ q (leaves_done _)))

  pub passes_first : (slot m s b : ℕ) → st slot (m + s) ≡ true → Passes slot (m + s) b → Passes slot m b
  passes_first slot m s b t p = record { bits = mask_first x k slot m s p.bits; entries = leaf_data.first slot m s b t p.entries }

  pub passes_second : (slot m s b : ℕ) → st slot (m + s) ≡ true → Passes slot (m + s) b → Passes (slot + m) s (b + leaf_data.amount slot m)
  passes_second slot m s b t p = record { bits = mask_second x k slot m s p.bits; entries = leaf_data.second slot m s b t p.entries }

  pub passes_none : (slot m o b d : ℕ) → o ≤ slot + m → Passes slot m b → Passes o 0 d
  passes_none slot m o b d h p = record { bits = mask_none x k slot m o h p.bits; entries = leaf_data.none slot m o b d h p.entries }
