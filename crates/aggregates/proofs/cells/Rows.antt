-- A slot of a whole-number node is the row that the Columnar Format reads. Assumes nothing.
use Rattle.std.proofs.Common.{◌≡◌, ℕ, suc, ◌+◌, ◌-◌, ◌*◌, ◌/◌, ◌%◌, ◌^◌, ◌<◌, ◌≤◌, Bool, true, false, cond, not, eqb, ltb, List, length, get_or, drop, sym, refl, ap, ◌∙◌, ap₂, le_trans, mod-eq_of_lt, arith, length-drop, length-take, get_or-drop, get_or-take, ltb-false, ltb-true, le-ltb, lt-ltb}
use mathlib.Core.Bool.{false≢true}
use mathlib.Core.Option.{none, some}
use native.Mathlib.Nat.{div-eq_of_lt}
use Rattle.number.specs.Number.{number}
use Rattle.columnar.specs.Types.{Number, int, uint, w1, w2, w4, w8, f32, f64, width, limit}
use Rattle.columnar.specs.Wider.{integer}
use Rattle.columnar.specs.Array.{item, bit, ok, sight, Mask}
use Rattle.columnar.specs.Plain.{value}
use Rattle.columnar.proofs.Items.{entry_end, item_lt}
use Rattle.schema.specs.formats.Code.{is_integer}
use Rattle.array_data.specs.Tables.{Tables, part, place, valid_of, first_buffer}
use Rattle.array_data.proofs.entries.Laws.{holds_in, item_at}
use Rattle.aggregates.specs.tally.Cells.{cell, whole_cell, cell_of}
use Rattle.aggregates.specs.declared.cells.Cells.{Cells}
use Rattle.aggregates.specs.cells.Cells.{Held, number_at, cells_of, valid_at, pattern_cell, pattern_at, cell_at}
use Rattle.aggregates.proofs.cells.Codes.{code_width_lem, code_integer, code_sized, code_topped, code_wide}

-- ---- a pattern

-- of m numbers, from h on below zero
pattern_signed : (m h p : ℕ) → 0 < h → h < m → p < m → whole_cell m (mir.Val.sel (ltb p h) (lib.IntN.pos p) (lib.IntN.negsuc (m - suc p))) ≡ pattern_cell (h - 1) p
pattern_signed m h p a b l = go (ltb p h) refl
  where
    go : (t : Bool) → ltb p h ≡ t → whole_cell m (mir.Val.sel t (lib.IntN.pos p) (lib.IntN.negsuc (m - suc p))) ≡ pattern_cell (h - 1) p
    go true e = rw (le-ltb (h - 1) p (omega (arith, ltb-true p h e)))
    go false e =
        let q : m - suc p < m = omega arith in
        let r : m - suc (m - suc p) ≡ p = omega arith in
        rw (lt-ltb (h - 1) p (omega (arith, ltb-false p h e)), mod-eq_of_lt q, div-eq_of_lt q, r)

pattern_plain : (m t p : ℕ) → p ≤ t → whole_cell m (lib.IntN.pos p) ≡ pattern_cell t p
pattern_plain m t p l = rw (le-ltb t p l)

pattern_cell_lem : (k : Number) (p : ℕ) → integer k ≡ true → p < 256 ^ width k → cell_of (256 ^ width k) (value k p) ≡ pattern_cell (limit k - 1) p
unfolding cell_of
pattern_cell_lem (int w1) p h l = pattern_signed (256 ^ 1) (256 ^ 1 / 2) p (omega arith) (omega arith) l
pattern_cell_lem (uint w1) p h l = pattern_plain (256 ^ 1) (256 ^ 1 - 1) p (omega arith)
pattern_cell_lem (int w2) p h l = pattern_signed (256 ^ 2) (256 ^ 2 / 2) p (omega arith) (omega arith) l
pattern_cell_lem (uint w2) p h l = pattern_plain (256 ^ 2) (256 ^ 2 - 1) p (omega arith)
pattern_cell_lem (int w4) p h l = pattern_signed (256 ^ 4) (256 ^ 4 / 2) p (omega arith) (omega arith) l
pattern_cell_lem (uint w4) p h l = pattern_plain (256 ^ 4) (256 ^ 4 - 1) p (omega arith)
pattern_cell_lem (int w8) p h l = pattern_signed (256 ^ 8) (256 ^ 8 / 2) p (omega arith) (omega arith) l
pattern_cell_lem (uint w8) p h l = pattern_plain (256 ^ 8) (256 ^ 8 - 1) p (omega arith)
pattern_cell_lem f32 p h l = absurd (false≢true h)
pattern_cell_lem f64 p h l = absurd (false≢true h)

-- ---- parts of the body

part_at : (body : List ℕ) (a s j : ℕ) → j < length (part body a s) → get_or (part body a s) j 0 ≡ get_or body (a + j) 0
part_at body a s j l = get_or-take s (drop a body) j 0 (omega (arith, length-take s (drop a body))) ∙ get_or-drop a body j 0

part_inside : (body : List ℕ) (a s j : ℕ) → j < length (part body a s) → a + j < length body
part_inside body a s j l = omega (arith, length-take s (drop a body), length-drop a body)

part_small : (body : List ℕ) → ((j : ℕ) → get_or body j 0 < 256) → (a s j : ℕ) → get_or (part body a s) j 0 < 256
part_small body small a s j = go (ltb j (length (part body a s))) refl
  where
    go : (t : Bool) → ltb j (length (part body a s)) ≡ t → get_or (part body a s) j 0 < 256
    go true e = rw (part_at body a s j (ltb-true j _ e)) (small (a + j))
    go false e = omega (arith, lib.ListN.get_or-eq_default (part body a s) 0 (ltb-false j _ e))

-- ---- a slot of node i

module _ (x : Tables) (i code : ℕ) (kind : is_integer code ≡ true) (n : ℕ) (mask : Mask true (valid_of x i) n) (hold : n * width (number_at code) ≤ length (first_buffer x i)) where
  abbrev c : Cells
  c = cells_of x i code

  valid_same : (slot : ℕ) → slot < n → valid_at x.body c slot ≡ ok (valid_of x i) slot
  unfolding valid_at bit
  valid_same slot l = go (eqb (place x i 0) 0) mask
    where
      go : (t : Bool) → Mask true (cond t none (some (part x.body (place x i 1) (place x i 2)))) n
          → cond (not t) (eqb (get_or x.body (place x i 1 + slot / 8) 0 / 2 ^ (slot % 8) % 2) 1) true ≡ ok (cond t none (some (part x.body (place x i 1) (place x i 2)))) slot
      go true h = refl
      go false h =
          ap (λ b. eqb (b / 2 ^ (slot % 8) % 2) 1) (sym (part_at x.body (place x i 1) (place x i 2) (slot / 8) (omega arith)))

  bit_held : (slot : ℕ) → slot < n → c.masked ≡ true → c.mask + slot / 8 < length x.body
  bit_held slot l = go (eqb (place x i 0) 0) mask
    where
      go : (t : Bool) → Mask true (cond t none (some (part x.body (place x i 1) (place x i 2)))) n → not t ≡ true → place x i 1 + slot / 8 < length x.body
      go true h e = absurd (false≢true e)
      go false h e = part_inside x.body (place x i 1) (place x i 2) (slot / 8) (omega arith)

  abbrev w : ℕ
  w = width (number_at code)

  -- the body holds every slot
  pub slot_held : (slot : ℕ) → slot < n → Held x.body c slot
  slot_held slot l =
      record {
        sized = code_sized code kind;
        topped = code_topped code kind;
        holds = rw (code_width_lem code kind) (held_by_lem x.body (place x i 3) (place x i 4) w slot n hold l (code_wide code kind));
        holds_bit = bit_held slot l;
      }
    where
      held_by_lem : (body : List ℕ) (a s w slot n : ℕ) → n * w ≤ length (part body a s) → slot < n → 1 ≤ w → a + slot * w + w ≤ length body
      held_by_lem body a s w slot n h l v =
          omega (arith, entry_end w {i = slot} {n = n} l, length-take s (drop a body), length-drop a body)

  -- A SLOT is what the row adds
  pub slot_cell : ((j : ℕ) → get_or x.body j 0 < 256) → (slot : ℕ) → slot < n
      → cell_at x.body c slot ≡ cell_of (256 ^ w) (sight (ok (valid_of x i) slot) (value (number_at code) (item w (first_buffer x i) slot)))
  unfolding cell_at cell_of
  slot_cell small slot l =
      ap₂ (λ t p. cond t (pattern_cell (limit (number_at code) - 1) p) (cell 0 0 0)) (valid_same slot l) pattern_same
      ∙ go (ok (valid_of x i) slot)
    where
      pattern_same : pattern_at x.body c slot ≡ item w (first_buffer x i) slot
      pattern_same =
          ap (λ v. number v (drop (place x i 3 + slot * v) x.body)) (code_width_lem code kind)
          ∙ item_at x.body (place x i 3) (place x i 4) w slot (holds_in w (first_buffer x i) slot (code_wide code kind) (le_trans (entry_end w l) hold))

      go : (t : Bool) → cond t (pattern_cell (limit (number_at code) - 1) (item w (first_buffer x i) slot)) (cell 0 0 0)
          ≡ cell_of (256 ^ w) (sight t (value (number_at code) (item w (first_buffer x i) slot)))
      go true = sym (pattern_cell_lem (number_at code) (item w (first_buffer x i) slot) (code_integer code kind) (item_lt w (first_buffer x i) (part_small x.body small (place x i 3) (place x i 4)) slot))
      go false = refl
