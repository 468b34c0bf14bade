-- The parts of a column that stands hold what is needed and what the memory has, where 13 does not stand. Assumes nothing.
use mathlib.Core.Path.{◌≡◌, refl, sym, ap, subst, ◌∙◌}
use mathlib.Core.Bool.{Bool, true, false}
use mathlib.Core.List.{List, [], ◌∷◌}
use Prim.Native.Nat.{ℕ, suc, ◌+◌, ◌*◌, ◌/◌, ◌≤◌, ◌<◌}
use native.Mathlib.Omega.{arith}
use lib.ListN.{length}
use lib.Dec.{ltb}
use borrow.Author.Tests.{lt-ltb}
use Rattle.columnar.specs.Types.{Plain, fixed, string, Ty}
use Rattle.columnar.specs.Array.{Array}
use Rattle.columnar.specs.Plain.{PlainBody}
use Rattle.columnar.specs.Reading.{Column, masks}
use Rattle.schema.specs.formats.Code.{is_fixed}
use Rattle.array_data.specs.Typed.{Tree, MeansPlain}
use Rattle.walk.specs.State.{word, code_of, dictionary_of, bytes_of, rows, bytes}
use Rattle.refinement.specs.walk_is_model.Memory.{Memory}
use Rattle.refinement.specs.walk_is_model.Holds.{WordedPlain}
use Rattle.refinement.specs.log_in_room.Room.{Fits}
use Rattle.refinement.proofs.log_in_room.Found.{between_both}
use Rattle.plan.specs.parts.Parts.{nodes_of, copied, has_part, needed, size_of, parts_hold, Used}
use Rattle.plan.proofs.parts.Placed.{used_holds}
use Rattle.refinement.specs.orders.Order.{Lent}
use Rattle.refinement.specs.orders.Fits.{plain_buffers}
use Rattle.refinement.proofs.orders.Buffers.{fixed_one, needed_fixed, copied_free, masks_code, part_copied}
use Rattle.refinement.proofs.orders.Own.{Bounded, Own}
use Rattle.refinement.proofs.opening.Zeros.{values_copied}
use Rattle.refinement.proofs.finishing.Finished.{kept_not}
use Rattle.anew.specs.Stood.{StoodNode, Stored, StoodValues, in_parts, kept, Stood}
use Rattle.anew.proofs.Standing.{TypePlan, every_node}
use Rattle.anew.proofs.Owned.{buffers_at, own_plain, own_at, own_ends, Exact, exact_at}

-- a plain node has validity by its code
pub plain_code_lem : (plan : List ℕ) (p : Plain) (i : ℕ) → WordedPlain plan p i → true ≡ ltb (code_of plan i) 21
plain_code_lem plan (fixed n) i w = let b = between_both 1 10 (code_of plan i) w.0 in sym (lt-ltb (code_of plan i) 21 (omega (arith, b.1)))
plain_code_lem plan (string v) i w = let b = between_both 11 14 (code_of plan i) w.0 in sym (lt-ltb (code_of plan i) 21 (omega (arith, b.1)))

pub fixed_code : (plan : List ℕ) (i : ℕ) → is_fixed (code_of plan i) ≡ true → true ≡ ltb (code_of plan i) 21
fixed_code plan i f = let b = between_both 1 10 (code_of plan i) f in sym (lt-ltb (code_of plan i) 21 (omega (arith, b.1)))

-- a dictionary in parts is copied
pub parts_copied : (plan : List ℕ) (i : ℕ) → (dictionary_of plan i ≡ 0 → ⊥) → word plan i 7 ≡ 1 → copied plan (suc i) ≡ true
parts_copied plan i dict e = values_copied plan i false dict e refl

module _ (x : Lent) (buffers counters : List ℕ) (μ : Memory) where
  -- run ends are the buffer of their node
  pub ends_own : (w i : ℕ) (a : Array (List ℕ)) → is_fixed (code_of x.plan i) ≡ true → bytes_of x.plan i ≡ w → StoodNode x buffers counters μ i true (λ m s. Stored x buffers counters μ i 1 m w s) a
      → Own x.plan x.parts counters μ i (a.body ∷ [])
  ends_own w i a f e st =
      own_ends x buffers counters μ i a.len w a.body (fixed_one (code_of x.plan i) f)
      (needed_fixed (code_of x.plan i) (rows counters i) (bytes counters i) f ∙ ap (λ v. rows counters i * v) e) st.rows_are st.body_is

module _ (x : Lent) (buffers : List ℕ) (tree : Tree) (root : Ty) (column : Column root) (counters : List ℕ) (μ : Memory) (of_type : TypePlan x.plan tree root)
    (stood : Stood x buffers counters μ root 0 column) where
  abbrev AllExact : ℕ → Type 0
  AllExact i = (b : ℕ) → has_part x.plan i b ≡ true → Exact x buffers counters μ i b

  values_exact : (p : Plain) (i : ℕ) (a : Array (PlainBody p)) → suc i < nodes_of x.plan → (dictionary_of x.plan i ≡ 0 → ⊥) → MeansPlain tree p (suc i) → StoodValues x buffers counters μ p i a → AllExact (suc i)
  values_exact p i a l dict mn (in_parts e st) =
      let w = of_type.plain_words p (suc i) mn in
      exact_at x buffers counters μ (suc i) (plain_buffers p a.body) (own_plain x buffers counters μ p (suc i) a.len a.body w st.rows_are st.body_is) (parts_copied x.plan i dict e) true
      (plain_code_lem x.plan p (suc i) w) a.len a.valid st.rows_are st.bits_are
  values_exact p i a l dict mn (kept e v h o q) =
      λ b g. absurd (let z : true ≡ false = sym (part_copied x.plan (suc i) b g) ∙ kept_not x.plan i dict e in let y : ◌≡◌ {A = ℕ} 0 1 = cc z in omega arith)

  every_exact : (j : ℕ) → j < nodes_of x.plan → AllExact j
  every_exact =
      every_node x buffers tree root column counters μ of_type stood AllExact
      (λ k t i a w l o mn st. exact_at x buffers counters μ i (buffers_at t a.body) (own_at x buffers counters μ k t i a.len a.body w st.rows_are st.body_is) (copied_free x.plan i o) (masks t)
      (masks_code x.plan k t i w) a.len a.valid st.rows_are st.bits_are)
      (λ w i a l o f e mn st. exact_at x buffers counters μ i (a.body ∷ []) (ends_own x buffers counters μ w i a f e st) (copied_free x.plan i o) true (fixed_code x.plan i f) a.len a.valid st.rows_are
      st.bits_are)
      values_exact

  -- THE MEMORY HAS WHAT THE COUNTERS SAY, in every part
  pub all_exact : (i b : ℕ) → Used x.plan i b → Exact x buffers counters μ i b
  all_exact i b u = every_exact i u.node b u.part

  module _ (enough : parts_hold x.plan counters x.parts ≡ true) where
    -- EVERY PART HOLDS what the counters need and what the memory has
    pub all_bounded : (i b : ℕ) → Used x.plan i b → Bounded x.plan x.parts counters μ i b
    all_bounded i b u =
        let e = all_exact i b u in
        let h = used_holds x.plan counters x.parts enough i b u in
        record { needs = h; bytes_in_lem = λ l. omega (arith, e.bytes_are l); bits_in_lem = λ z. bits z (e.bits_are z) h }
      where
        bits : b ≡ 0 → length (μ.bits i) ≡ rows counters i → needed x.plan counters i b ≤ size_of x.plan x.parts i b → length (μ.bits i) ≤ 8 * size_of x.plan x.parts i 0
        bits z e h = let g : (rows counters i + 7) / 8 ≤ size_of x.plan x.parts i 0 = subst (λ k. needed x.plan counters i k ≤ size_of x.plan x.parts i k) z h in omega arith

    -- THE MEMORY FITS THE PARTS
    pub all_fit : Fits x.plan x.parts (Used x.plan) μ
    all_fit = record { bytes_fit = λ i b u p. (all_bounded i b u).bytes_in_lem p; bits_fit = λ i u. (all_bounded i 0 u).bits_in_lem refl }
