-- The room of a result of plain rows by the few words of its plan. Assumes nothing.
use mathlib.Core.Path.{◌≡◌, refl, sym, ap, ap₂, ◌∙◌}
use mathlib.Core.Bool.{Bool, true, false, not, cond, ◌&&◌, and-false, and-true}
use mathlib.Core.List.{List}
use Prim.Native.Nat.{ℕ, zero, suc, ◌+◌, ◌*◌, ◌/◌, ◌≤◌}
use native.Mathlib.Omega.{arith}
use lib.ListN.{get_or}
use lib.Dec.{leb}
use borrow.Author.Tests.{not-true, not-false}
use Rattle.schema.specs.formats.Code.{is_fixed, width_of}
use Rattle.plan.specs.parts.Parts.{copied, validity_parts, buffer_parts, has_part, parts_before, part_total, part_holds, parts_hold, parts_placed}
use Rattle.anew.specs.Anew.{room_ground}
use Rattle.coding.specs.Counted.{row_counts}
use Rattle.coding.specs.Planned.{row_plan_of}
use Rattle.coding.proofs.Codes.{ten}
use Rattle.coding.proofs.Asked.{lengths_first, lengths_second, lengths_both}

-- ---- the parts

-- the validity's part, where there is one, holds the bits of m rows
abbrev bits_hold : ℕ → List ℕ → ℕ → Bool
bits_hold m parts zero = true
bits_hold m parts (suc k) = leb ((m + 7) / 8) (get_or parts 1 0)

module _ (c n m : ℕ) (parts : List ℕ) (f : is_fixed c ≡ true) where
  total : (k : ℕ) → k ≤ 1 → part_total (row_plan_of c n k) ≡ 1 + k
  unfolding parts_before validity_parts buffer_parts copied
  total zero l = ten (λ z. part_total (row_plan_of z n 0) ≡ 1) refl refl refl refl refl refl refl refl refl refl c f
  total (suc zero) l = ten (λ z. part_total (row_plan_of z n 1) ≡ 2) refl refl refl refl refl refl refl refl refl refl c f
  total (suc (suc k)) l = absurd (omega arith)

  holds : (k : ℕ) → k ≤ 1 → parts_hold (row_plan_of c n k) (row_counts m) parts ≡ bits_hold m parts k && leb (m * width_of c) (get_or parts (2 * k + 1) 0) && true
  unfolding parts_hold part_holds has_part validity_parts buffer_parts copied
  holds zero l =
      ten (λ z. parts_hold (row_plan_of z n 0) (row_counts m) parts ≡ leb (m * width_of z) (get_or parts 1 0) && true) refl refl refl refl refl refl refl refl refl refl c f
  holds (suc zero) l =
      ten (λ z. parts_hold (row_plan_of z n 1) (row_counts m) parts ≡ leb ((m + 7) / 8) (get_or parts 1 0) && leb (m * width_of z) (get_or parts 3 0) && true) refl refl refl refl refl refl refl refl refl refl c f
  holds (suc (suc k)) l = absurd (omega arith)

  -- whether the rows fit, and then the bits
  module _ (k : ℕ) (l : k ≤ 1) {w s : ℕ} {a : Bool} (ew : w ≡ width_of c) (es : s ≡ get_or parts (2 * k + 1) 0) (ea : a ≡ leb (m * w) s) where
    values_are : a ≡ leb (m * width_of c) (get_or parts (2 * k + 1) 0)
    values_are = ea ∙ ap₂ (λ x y. leb (m * x) y) ew es

    pub hold_none : not a ≡ true → false ≡ parts_hold (row_plan_of c n k) (row_counts m) parts
    hold_none h = sym (holds k l ∙ rw (sym values_are ∙ not-true a h, and-false (bits_hold m parts k)))

    by_bits : not a ≡ false → parts_hold (row_plan_of c n k) (row_counts m) parts ≡ bits_hold m parts k
    by_bits h = holds k l ∙ rw (sym values_are ∙ not-false a h, and-true (bits_hold m parts k), and-true (bits_hold m parts k))

    pub hold_plain : not a ≡ false → k ≡ 0 → true ≡ parts_hold (row_plan_of c n k) (row_counts m) parts
    hold_plain h z = sym (by_bits h ∙ ap (bits_hold m parts) z)

    pub hold_bits : not a ≡ false → (k ≡ 0 → ⊥) → {t : ℕ} {b : Bool} → t ≡ get_or parts 1 0 → b ≡ leb ((m + 7) / 8) t → b ≡ parts_hold (row_plan_of c n k) (row_counts m) parts
    hold_bits h z et eb = eb ∙ ap (leb ((m + 7) / 8)) et ∙ sym (by_bits h ∙ go k z)
      where
        go : (k : ℕ) → (k ≡ 0 → ⊥) → bits_hold m parts k ≡ leb ((m + 7) / 8) (get_or parts 1 0)
        go zero z = absurd (z refl)
        go (suc k) z = refl

  -- ---- the grounds

  module _ (k : ℕ) (l : k ≤ 1) (words counters size : ℕ) where
    pub other_plan : (words ≡ 872 → ⊥) → 14 ≡ room_ground (row_plan_of c n k) (row_counts m) parts words counters size
    unfolding room_ground
    other_plan h = rw (lengths_first words counters h)

    pub other_counters : (counters ≡ 96 → ⊥) → 14 ≡ room_ground (row_plan_of c n k) (row_counts m) parts words counters size
    unfolding room_ground
    other_counters h = rw (lengths_second words counters h)

    module _ (ew : words ≡ 872) (ec : counters ≡ 96) {b : Bool} (p : b ≡ parts_placed parts (1 + k) size) where
      ground_by_lem : (x h : Bool) → b ≡ x → parts_hold (row_plan_of c n k) (row_counts m) parts ≡ h
          → room_ground (row_plan_of c n k) (row_counts m) parts words counters size ≡ cond x (cond h 0 13) 14
      unfolding room_ground
      ground_by_lem x h e q = rw (lengths_both words counters ew ec, total k l, sym p ∙ e, q)

      pub placed_not : not b ≡ true → 14 ≡ room_ground (row_plan_of c n k) (row_counts m) parts words counters size
      placed_not e = sym (ground_by_lem false _ (not-true b e) refl)

      module _ (y : not b ≡ false) {h : Bool} (q : h ≡ parts_hold (row_plan_of c n k) (row_counts m) parts) where
        pub held_not : not h ≡ true → 13 ≡ room_ground (row_plan_of c n k) (row_counts m) parts words counters size
        held_not e = sym (ground_by_lem true false (not-false b y) (sym q ∙ not-true h e))

        pub held : not h ≡ false → 0 ≡ room_ground (row_plan_of c n k) (row_counts m) parts words counters size
        held e = sym (ground_by_lem true true (not-false b y) (sym q ∙ not-false h e))
