-- The bytes of a part as numbers of 64 bits. Assumes nothing.
use mathlib.Core.Path.{◌≡◌, refl, sym, ap, ◌∙◌}
use mathlib.Core.Bool.{Bool, true, false}
use mathlib.Core.List.{List}
use Prim.Native.Nat.{ℕ, zero, suc, ◌+◌, ◌*◌, ◌-◌, ◌/◌, ◌%◌, ◌≤◌, ◌<◌, min}
use native.Mathlib.Omega.{arith}
use lib.Dec.{ltb}
use Rattle.schema.specs.formats.Code.{is_string, is_list_view, width_of}
use Rattle.walk.specs.State.{code_of, rows, bytes, top}
use Rattle.plan.specs.parts.Parts.{spot, nodes_of, validity_parts, part_count, part_from, part_at, has_offsets, entry_size, needed_by, needed}
use Rattle.plan.specs.declared.parts.Spot.{Spot}
use Rattle.std.specs.Prelude.{Option, Some, None}
use Rattle.std.proofs.lemmas.Option.{same_Some}
use Rattle.refinement.specs.orders.Measure.{needed_in, needed_bytes}

pub bits_are : (r : ℕ) → r ≤ top → r / 8 + (r % 8 + 7) / 8 ≡ min ((r + 7) / 8) top
bits_are r h = omega arith

-- ---- a buffer by its code

module _ (code r n s : ℕ) where
  pub first_offsets : {w : ℕ} {t : Bool} → t ≡ has_offsets code → t ≡ true → w ≡ width_of code → s ≡ min ((r + 1) * w) top → s ≡ min (needed_by code r n 1) top
  first_offsets e h f d = rw (sym e ∙ h) (d ∙ ap (λ z. min ((r + 1) * z) top) f)

  pub first_other : {w : ℕ} {t : Bool} → t ≡ has_offsets code → t ≡ false → w ≡ entry_size code → s ≡ min (r * w) top → s ≡ min (needed_by code r n 1) top
  first_other e h f d = rw (sym e ∙ h) (d ∙ ap (λ z. min (r * z) top) f)

  module _ {t : Bool} (e : t ≡ is_string code) where
    pub second_string : t ≡ true → n ≤ top → n ≡ min (needed_by code r n 2) top
    second_string h l = rw (sym e ∙ h) (omega (arith, l))

    module _ (h : t ≡ false) {u : Bool} (f : u ≡ is_list_view code) where
      pub second_list : {w : ℕ} → u ≡ true → w ≡ width_of code → s ≡ min (r * w) top → s ≡ min (needed_by code r n 2) top
      second_list k q d = rw (sym e ∙ h, sym f ∙ k) (d ∙ ap (λ z. min (r * z) top) q)

      pub second_other : u ≡ false → s ≡ min (r * 4) top → s ≡ min (needed_by code r n 2) top
      second_other k d = rw (sym e ∙ h, sym f ∙ k) d

-- ---- a buffer of a node

module _ (plan counters : List ℕ) (i b : ℕ) {r : ℕ} (e : r ≡ rows counters i) where
  pub buffer_bits : {s : ℕ} → b ≡ 0 → s ≡ min ((r + 7) / 8) top → s ≡ min (needed plan counters i b) top
  buffer_bits h d = rw h (d ∙ ap (λ z. min ((z + 7) / 8) top) e)

  module _ {code n : ℕ} (f : code ≡ code_of plan i) (g : n ≡ bytes counters i) where
    at : (k : ℕ) → min (needed_by code r n k) top ≡ min (needed plan counters i k) top
    at k =
        ap (λ z. min (needed_by z r n k) top) f
        ∙ ap (λ z. min (needed_by (code_of plan i) z n k) top) e
        ∙ ap (λ z. min (needed_by (code_of plan i) (rows counters i) z k) top) g

    pub buffer_first : {s : ℕ} → b ≡ 1 → s ≡ min (needed_by code r n 1) top → s ≡ min (needed plan counters i b) top
    buffer_first h d = rw h (d ∙ at 1)

    pub buffer_second : {s : ℕ} → (b ≡ 0 → ⊥) → (b ≡ 1 → ⊥) → s ≡ min (needed_by code r n 2) top → s ≡ min (needed plan counters i b) top
    buffer_second {s} h k d = go b h k
      where
        go : (c : ℕ) → (c ≡ 0 → ⊥) → (c ≡ 1 → ⊥) → s ≡ min (needed plan counters i c) top
        go zero p q = absurd (p refl)
        go (suc zero) p q = absurd (q refl)
        go (suc (suc c)) p q = d ∙ at 2

-- ---- a part

-- the node of a part is one of the nodes
from_below : (plan : List ℕ) (n i p j b : ℕ) → part_from plan n i p ≡ Some (spot j b) → j < i + n
unfolding part_from
from_below plan zero i p j b h = let z : ◌≡◌ {A = ℕ} 0 1 = cc in absurd (omega (arith, z))
from_below plan (suc n) i p j b h = go (ltb p (part_count plan i)) refl (from_below plan n (suc i) (p - part_count plan i) j b)
  where
    go : (t : Bool) → ltb p (part_count plan i) ≡ t → (part_from plan n (suc i) (p - part_count plan i) ≡ Some (spot j b) → j < suc i + n) → j < i + suc n
    go true e f =
        let q : Some (spot i (p + 1 - validity_parts plan i)) ≡ Some (spot j b) = rw e at h in
        let z : i ≡ j = ap (λ (s : Spot). s.node) (same_Some (spot i (p + 1 - validity_parts plan i)) (spot j b) q) in
        omega (arith, z)
    go false e f = let q : part_from plan n (suc i) (p - part_count plan i) ≡ Some (spot j b) = rw e at h in omega (arith, f q)

module _ (plan counters : List ℕ) (p : ℕ) {q : Option Spot} (e : q ≡ part_at plan p) where
  pub node_below : {i b : ℕ} → q ≡ Some (spot i b) → i < 32
  node_below {i} {b} h = omega (arith, from_below plan (nodes_of plan) 0 p i b (sym e ∙ h))

  pub bytes_of : {i b s : ℕ} → q ≡ Some (spot i b) → s ≡ min (needed plan counters i b) top → s ≡ needed_bytes plan counters p
  unfolding needed_bytes
  bytes_of h d = d ∙ ap (λ z. min (needed_in plan counters z) top) (sym h ∙ e)

  pub bytes_none : q ≡ None → 0 ≡ needed_bytes plan counters p
  unfolding needed_bytes
  bytes_none h = ap (λ z. min (needed_in plan counters z) top) (sym h ∙ e)
