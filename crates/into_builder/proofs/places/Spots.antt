-- The places of the finished array: the bytes of each buffer, and the nine numbers of a node. Assumes nothing.
use mathlib.Core.Path.{◌≡◌, refl, sym, ap, ap₂, ◌∙◌}
use mathlib.Core.Bool.{Bool, true, false, cond}
use mathlib.Core.List.{List, []}
use Prim.Native.Nat.{ℕ, zero, suc, ◌+◌, ◌*◌, ◌/◌, ◌≤◌, ◌<◌, min}
use native.Mathlib.Nat.{suc-mul, zero-add}
use native.Mathlib.Numerals.{add-one}
use native.Mathlib.Omega.{arith}
use lib.ListN.{get_or}
use lib.Dec.{eqb}
use borrow.Author.Tests.{lt-ltb, le-ltb, ne_eqb}
use Rattle.schema.specs.formats.Code.{is_string, is_list_view, is_view, width_of}
use Rattle.model.proofs.Bits.{get_d_seg}
use Rattle.walk.specs.State.{code_of, rows, bytes, top}
use Rattle.walk.specs.Log.{start_of}
use Rattle.array_data.specs.Sources.{first_of}
use Rattle.plan.specs.parts.Parts.{nodes_of, copied, has_part, has_offsets, entry_size, needed_by, needed, parts_within, parts_hold, Used}
use Rattle.plan.proofs.parts.Placed.{within_used, used_holds, bits_held}
use Rattle.refinement.specs.orders.Order.{Lent, source_count}
use Rattle.refinement.specs.finishing.Finish.{zeros_at, nulls_at, buffers_of, buffers_before, buffer_start, buffer_size, copied_place, kept_place, place_at, null_table}
use Rattle.into_builder.specs.buffers.Names.{lent, count_at, count_before}
use Rattle.into_builder.specs.counts.Counts.{zeros_of, BitsIn}
use Rattle.into_builder.specs.places.Places.{Placed, valid_place}
use Rattle.into_builder.proofs.buffers.Names.{of_same, before_same}

-- ---- the bytes of a buffer

module _ (code r n : ℕ) {b : Bool} (e : b ≡ has_offsets code) where
  -- one offset more than rows
  pub offsets_size : b ≡ true → {w : ℕ} → w ≡ width_of code → r * w + w ≡ needed_by code r n 1
  offsets_size h {w} f = rw (← e, h, add-one r, suc-mul, f)

  pub first_size : b ≡ false → {w : ℕ} → w ≡ entry_size code → r * w ≡ needed_by code r n 1
  first_size h {w} f = rw (← e, h) (ap (λ k. r * k) f)

module _ (code r n : ℕ) {b : Bool} (e : b ≡ is_string code) where
  pub data_size : b ≡ true → n ≡ needed_by code r n 2
  data_size h = rw (← e, h)

  module _ (h : b ≡ false) {l : Bool} (g : l ≡ is_list_view code) where
    pub sizes_size : l ≡ true → {w : ℕ} → w ≡ width_of code → r * w ≡ needed_by code r n 2
    sizes_size k {w} f = rw (← e, h, ← g, k) (ap (λ a. r * a) f)

    pub dense_size : l ≡ false → r * 4 ≡ needed_by code r n 2
    dense_size k = rw (← e, h, ← g, k)

module _ (plan counters : List ℕ) (i : ℕ) {r : ℕ} (e : r ≡ rows counters i) where
  pub bits_size : (b : ℕ) → b ≡ 0 → (r + 7) / 8 ≡ needed plan counters i b
  bits_size b h = rw (h, e)

  module _ {code : ℕ} (f : code ≡ code_of plan i) where
    pub size_first : (b : ℕ) → b ≡ 1 → needed_by code r 0 1 ≡ needed plan counters i b
    size_first b h = rw (h, e, f)

    pub size_second : (b : ℕ) → b < 3 → (b ≡ 0 → ⊥) → (b ≡ 1 → ⊥) → {n : ℕ} → n ≡ bytes counters i → needed_by code r n 2 ≡ needed plan counters i b
    size_second b l h k {n} g = let q : b ≡ 2 = omega (arith, h, k) in rw (q, e, f, g)

-- ---- where the parts lie

module _ (plan parts counters : List ℕ) (m : ℕ) (w : parts_within plan parts m ≡ true) (h : parts_hold plan counters parts ≡ true) (i : ℕ) (l : i < nodes_of plan) where
  pub bits_in_lem : BitsIn plan parts counters m i
  bits_in_lem p =
      let u : Used plan i 0 = record { node = l; part = p } in
      let a = within_used plan parts m w i 0 u in
      let b = bits_held plan counters parts h i u in
      omega arith

  pub placed_in : (base : ℕ) → base + m ≤ top → Placed plan parts counters base i
  placed_in base g =
      record {
        start = λ b k p. let a = within_used plan parts m w i b (record { node = l; part = p }) in omega arith;
        size = λ b k p.
            let a = within_used plan parts m w i b (record { node = l; part = p }) in
            let d = used_holds plan counters parts h i b (record { node = l; part = p }) in
            omega arith;
      }

-- ---- the nine numbers of a node

valid_place_lem : (x : Lent) (bs counters room : List ℕ) (base i j : ℕ) → j < 3
    → cond (eqb (zeros_at x bs counters room base i) 0) 0 (valid_place x.plan x.parts counters base i j) ≡ copied_place x bs counters room base i j
unfolding copied_place
valid_place_lem x bs counters room base i zero l = refl
valid_place_lem x bs counters room base i (suc zero) l = refl
valid_place_lem x bs counters room base i (suc (suc zero)) l = refl
valid_place_lem x bs counters room base i (suc (suc (suc j))) l = absurd (omega arith)

module _ (plan parts counters room : List ℕ) (base i j z : ℕ) where
  abbrev valid : ℕ
  valid = valid_place plan parts counters base i j

  pub valid_dropped : z ≡ 0 → 0 ≡ cond (eqb z 0) 0 valid
  valid_dropped h = rw h

  module _ (h : z ≡ 0 → ⊥) where
    pub valid_is : j ≡ 0 → 1 ≡ cond (eqb z 0) 0 valid
    valid_is e = rw (ne_eqb z 0 h, e)

    pub valid_start_lem : j ≡ 1 → {s : ℕ} → s ≡ start_of plan parts i 0 → base + s ≡ cond (eqb z 0) 0 valid
    valid_start_lem e f = rw (ne_eqb z 0 h, e) (ap (λ k. base + k) f)

    pub valid_size : j < 3 → (j ≡ 0 → ⊥) → (j ≡ 1 → ⊥) → {s : ℕ} → s ≡ needed plan counters i 0 → s ≡ cond (eqb z 0) 0 valid
    valid_size l k n f = let q : j ≡ 2 = omega (arith, k, n) in rw (ne_eqb z 0 h, q) f

module _ (x : Lent) (bs counters room : List ℕ) (base i j : ℕ) where
  pub copied_valid : {z r : ℕ} → j < 3 → z ≡ zeros_of x.plan x.parts counters room i
      → r ≡ cond (eqb z 0) 0 (valid_place x.plan x.parts counters base i j) → r ≡ copied_place x bs counters room base i j
  unfolding zeros_at
  copied_valid {z} l e g = g ∙ ap (λ a. cond (eqb a 0) 0 (valid_place x.plan x.parts counters base i j)) e ∙ valid_place_lem x bs counters room base i j l

  pub copied_three : {r : ℕ} → j ≡ 3 → r ≡ buffer_start x bs counters room base i 1 → r ≡ copied_place x bs counters room base i j
  unfolding copied_place
  copied_three e g = rw e g

  pub copied_four : {r : ℕ} → j ≡ 4 → r ≡ buffer_size x bs counters room base i 1 → r ≡ copied_place x bs counters room base i j
  unfolding copied_place
  copied_four e g = rw e g

  pub copied_five : {r : ℕ} → j ≡ 5 → r ≡ buffer_start x bs counters room base i 2 → r ≡ copied_place x bs counters room base i j
  unfolding copied_place
  copied_five e g = rw e g

  pub copied_six : {r : ℕ} → j ≡ 6 → r ≡ buffer_size x bs counters room base i 2 → r ≡ copied_place x bs counters room base i j
  unfolding copied_place
  copied_six e g = rw e g

  pub copied_view : {r : ℕ} → j < 9 → 3 ≤ j → (j ≡ 3 → ⊥) → (j ≡ 4 → ⊥) → (j ≡ 5 → ⊥) → (j ≡ 6 → ⊥)
      → r ≡ cond (is_view (code_of x.plan i)) (cond (eqb j 7) (count_before x.plan x.sources x.places i) (count_at x.plan x.sources x.places i)) 0
      → r ≡ copied_place x bs counters room base i j
  unfolding copied_place
  copied_view k l a b c d g =
      g ∙ go (is_view (code_of x.plan i)) ∙ sym (ap₂ (λ m s. cond (is_view (code_of x.plan i)) (cond (eqb j 7) m s) 0) (before_same x bs counters room base i) (of_same x bs counters room base i (min (source_count x.plan) 16)))
      ∙ last j k l a b c d
    where
      last : (j : ℕ) → j < 9 → 3 ≤ j → (j ≡ 3 → ⊥) → (j ≡ 4 → ⊥) → (j ≡ 5 → ⊥) → (j ≡ 6 → ⊥)
          → cond (is_view (code_of x.plan i)) (cond (eqb j 7) (buffers_before x bs counters room base i) (buffers_of x bs counters room base i (min (source_count x.plan) 16))) 0
          ≡ copied_place x bs counters room base i j
      last zero k l a b c d = absurd (omega arith)
      last (suc zero) k l a b c d = absurd (omega arith)
      last (suc (suc zero)) k l a b c d = absurd (omega arith)
      last (suc (suc (suc zero))) k l a b c d = absurd (a refl)
      last (suc (suc (suc (suc zero)))) k l a b c d = absurd (b refl)
      last (suc (suc (suc (suc (suc zero))))) k l a b c d = absurd (c refl)
      last (suc (suc (suc (suc (suc (suc zero)))))) k l a b c d = absurd (d refl)
      last (suc (suc (suc (suc (suc (suc (suc zero))))))) k l a b c d = refl
      last (suc (suc (suc (suc (suc (suc (suc (suc zero)))))))) k l a b c d = refl
      last (suc (suc (suc (suc (suc (suc (suc (suc (suc j))))))))) k l a b c d = absurd (omega arith)

      go : (v : Bool)
          → cond v (cond (eqb j 7) (count_before x.plan x.sources x.places i) (cond v (buffers_of (lent x.plan [] x.sources [] x.places []) [] [] [] 0 i (min (source_count x.plan) 16)) 0)) 0
          ≡ cond v (cond (eqb j 7) (count_before x.plan x.sources x.places i) (buffers_of (lent x.plan [] x.sources [] x.places []) [] [] [] 0 i (min (source_count x.plan) 16))) 0
      go true = refl
      go false = refl

  pub place_copied : {b : Bool} {r : ℕ} → b ≡ copied x.plan i → b ≡ true → r ≡ copied_place x bs counters room base i j → r ≡ place_at x bs counters room base i j
  unfolding place_at
  place_copied e h g = rw (← e, h) g

  pub place_kept : {b : Bool} {r : ℕ} → b ≡ copied x.plan i → b ≡ false → r ≡ kept_place x bs counters room base i j → r ≡ place_at x bs counters room base i j
  unfolding place_at
  place_kept e h g = rw (← e, h) g

  -- a kept dictionary with n nulls
  module _ {n : ℕ} (e : n ≡ nulls_at x bs counters room base i) where
    pub kept_dropped : j < 3 → n ≡ 0 → 0 ≡ kept_place x bs counters room base i j
    unfolding kept_place
    kept_dropped l h = rw (lt-ltb j 3 l, ← e, h)

    pub kept_valid : {r k : ℕ} → j < 3 → (n ≡ 0 → ⊥) → k ≡ first_of x.sources 0 + i → r ≡ get_or x.places (9 * k + j) 0 → r ≡ kept_place x bs counters room base i j
    unfolding kept_place
    kept_valid l h f g = rw (lt-ltb j 3 l, ← e, ne_eqb n 0 h) (g ∙ ap (λ a. get_or x.places (9 * a + j) 0) f)

  pub kept_buffer : {r k : ℕ} → 3 ≤ j → j < 7 → k ≡ first_of x.sources 0 + i → r ≡ get_or x.places (9 * k + j) 0 → r ≡ kept_place x bs counters room base i j
  unfolding kept_place
  kept_buffer h l f g = rw (le-ltb j 3 h, lt-ltb j 7 l) (g ∙ ap (λ a. get_or x.places (9 * a + j) 0) f)

  pub kept_none : 3 ≤ j → 7 ≤ j → 0 ≡ kept_place x bs counters room base i j
  unfolding kept_place
  kept_none h l = rw (le-ltb j 3 h, le-ltb j 7 l)

-- ---- the null counts that are in their table

module _ (x : Lent) (counters room nulls : List ℕ) (e : nulls ≡ null_table x [] counters room 0) (i : ℕ) (l : i < nodes_of x.plan) {n : ℕ} (f : n ≡ get_or nulls i 0) where
  table_null : n ≡ nulls_at x [] counters room 0 i
  unfolding null_table
  table_null = f ∙ ap (λ t. get_or t i 0) e ∙ get_d_seg (nulls_at x [] counters room 0) 0 (nodes_of x.plan) i 0 l ∙ ap (nulls_at x [] counters room 0) (zero-add i)

  pub nulls_zeros : {b : Bool} → b ≡ copied x.plan i → b ≡ true → n ≡ zeros_of x.plan x.parts counters room i
  unfolding nulls_at zeros_at
  nulls_zeros {b} g h = table_null ∙ one (sym g ∙ h)
    where
      one : copied x.plan i ≡ true → nulls_at x [] counters room 0 i ≡ zeros_of x.plan x.parts counters room i
      one q = rw q

  -- it depends on neither the buffers nor where the room begins
  pub nulls_are : (bs : List ℕ) (base : ℕ) → n ≡ nulls_at x bs counters room base i
  unfolding nulls_at zeros_at
  nulls_are bs base = table_null

-- ---- where there is no part

pub start_none : (plan parts : List ℕ) (base i b : ℕ) {t : Bool} → t ≡ has_part plan i b → t ≡ false → 0 ≡ buffer_start (lent plan parts [] [] [] []) [] [] [] base i b
start_none plan parts base i b e h = rw (← e, h)

pub start_some : (plan parts : List ℕ) (base i b : ℕ) {t : Bool} {s : ℕ} → t ≡ has_part plan i b → t ≡ true → s ≡ start_of plan parts i b
    → base + s ≡ buffer_start (lent plan parts [] [] [] []) [] [] [] base i b
start_some plan parts base i b e h f = rw (← e, h) (ap (λ k. base + k) f)

pub size_none : (plan counters : List ℕ) (i b : ℕ) {t : Bool} → t ≡ has_part plan i b → t ≡ false → 0 ≡ buffer_size (lent plan [] [] [] [] []) [] counters [] 0 i b
size_none plan counters i b e h = rw (← e, h)

pub size_some : (plan counters : List ℕ) (i b : ℕ) {t : Bool} {s : ℕ} → t ≡ has_part plan i b → t ≡ true → s ≡ needed plan counters i b
    → s ≡ buffer_size (lent plan [] [] [] [] []) [] counters [] 0 i b
size_some plan counters i b e h f = rw (← e, h) f

module _ (plan sources places : List ℕ) (i j : ℕ) {c : ℕ} {v : Bool} (e : c ≡ code_of plan i) (f : v ≡ is_view c) where
  abbrev shown : ℕ
  shown = cond (is_view (code_of plan i)) (cond (eqb j 7) (count_before plan sources places i) (count_at plan sources places i)) 0

  pub view_not : v ≡ false → 0 ≡ shown
  view_not h = let q : is_view (code_of plan i) ≡ false = sym (f ∙ ap is_view e) ∙ h in rw q

  pub view_first : v ≡ true → j ≡ 7 → {r : ℕ} → r ≡ count_before plan sources places i → r ≡ shown
  view_first h k g = let q : is_view (code_of plan i) ≡ true = sym (f ∙ ap is_view e) ∙ h in rw (q, k) g

  pub view_count_lem : v ≡ true → (j ≡ 7 → ⊥) → {r : ℕ} → r ≡ count_at plan sources places i → r ≡ shown
  view_count_lem h k g = let q : is_view (code_of plan i) ≡ true = sym (f ∙ ap is_view e) ∙ h in rw (q, ne_eqb j 7 k) (rw q at g)
