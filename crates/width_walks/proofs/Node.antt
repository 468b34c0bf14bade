-- One node of a result: its bits and rows, and then its body. Assumes nothing.
use mathlib.Core.Path.{◌≡◌, refl, sym, ap, ◌∙◌}
use mathlib.Core.Bool.{Bool, true, false}
use mathlib.Core.Option.{Option, none, some}
use mathlib.Core.List.{List, [], ◌++◌, map}
use Prim.Native.Nat.{ℕ, zero, suc, ◌+◌, ◌≤◌, ◌<◌}
use native.Mathlib.Nat.{zero-add}
use native.Mathlib.Omega.{arith}
use lib.ListN.{length}
use lib.Dec.{ltb}
use borrow.Author.Tests.{ltb-false, eq-eqb, ne_eqb}
use Rattle.columnar.specs.Row.{seg}
use Rattle.columnar.specs.Array.{Array, ok, nulls_in, null_count_of, Mask}
use Rattle.model.specs.Try.{Try, done, then}
use Rattle.model.specs.Mutable.{zeros, validity}
use Rattle.model.proofs.Bits.{length_seg}
use Rattle.model.proofs.Rows.{seg_cong}
use Rattle.walk.specs.State.{keeps_of, rows, nulls, bytes, add_rows, top}
use Rattle.walk.specs.Log.{Out, mask, next}
use Rattle.refinement.specs.walk_is_model.Memory.{Memory}
use Rattle.refinement.specs.walk_is_model.Holds.{flag}
use Rattle.refinement.specs.orders.Order.{Lent}
use Rattle.refinement.proofs.walk_is_model.Frame.{SameAt, Kept, same_then}
use Rattle.refinement.proofs.walk_is_model.Owed.{DataKept}
use Rattle.refinement.proofs.walk_is_model.Counters.{grown_is, rows_added, rows_other, nulls_of_rows, bytes_of_rows, long_rows}
use Rattle.refinement.proofs.walk_is_model.Goes.{Goes, Quiet, quiet_done, quiet_wrote, goes_quiet}
use Rattle.anew.specs.lists.Laid.{laid}
use Rattle.anew.specs.Stood.{StoodBits, StoodNode}
use Rattle.anew.proofs.Bits.{seg_valid, bits_none, bits_stand}
use Rattle.width_walks.specs.Convert.{bits_walk}
use Rattle.width_walks.proofs.Tries.{goes_value}
use Rattle.width_walks.proofs.Frames.{Bare, bare_same}

-- node i's buffers are empty, and so is all that stands behind it up to e
pub record Open (i e : ℕ) (c : List ℕ) (μ : Memory) : Type 0 where
  pub long : length c ≡ 96
  pub own : (b : ℕ) → μ.at i b ≡ []
  pub behind : (j : ℕ) → i < j → j < e → Bare c μ j

-- a node without validity has no null
no_nulls : (s n : ℕ) → nulls_in (ok none) s n ≡ 0
no_nulls s zero = refl
no_nulls s (suc n) = zero-add _ ∙ no_nulls (suc s) n

pub unmasked : {B : Type 0} (a : Array B) (o : Option (List ℕ)) → a.valid ≡ o → Mask false o (a.off + a.len) → null_count_of a ≡ 0
unmasked a none e m = ap (λ v. nulls_in (ok v) a.off a.len) e ∙ no_nulls a.off a.len
unmasked a (some v) e m = absurd m

-- counters and memory behind the bits of node i
record AfterBits (i : ℕ) (keep : Bool) (l : List Bool) (c : List ℕ) (μ : Memory) (c1 : List ℕ) (μ1 : Memory) : Type 0 where
  same_counters : c1 ≡ c
  at_same : (j b : ℕ) → μ1.at j b ≡ μ.at j b
  bits_same : (j : ℕ) → (j ≡ i → ⊥) → μ1.bits j ≡ μ.bits j
  bits_own : keep ≡ true → μ1.bits i ≡ map flag l

module _ (x : Lent) (buffers : List ℕ) where
  bits_go : (i : ℕ) (okay : ℕ → Bool) (s n : ℕ) (keep : Bool) → keeps_of x.plan i ≡ flag keep → (c : List ℕ) (μ : Memory) → μ.bits i ≡ []
      → Quiet μ (AfterBits i keep (seg okay s n) c μ) (bits_walk x.plan i okay s n c)
  unfolding bits_walk
  bits_go i okay s n true k c μ h =
      rw (ne_eqb (keeps_of x.plan i) 0 (λ z. omega (arith, k)))
      (quiet_wrote (mask i 0 (map flag (seg okay s n))) c (sym (ap length h))
      (record {
        same_counters = refl;
        at_same = λ j b. refl;
        bits_same = λ j z. rw (ne_eqb j i z);
        bits_own = λ e. rw (eq-eqb i i refl) (ap (λ b. b ++ map flag (seg okay s n)) h);
      }))
  bits_go i okay s n false k c μ h =
      rw (eq-eqb (keeps_of x.plan i) 0 k)
      (quiet_done c (record { same_counters = refl; at_same = λ j b. refl; bits_same = λ j z. refl; bits_own = λ e. absurd (let z : ◌≡◌ {A = ℕ} 0 1 = cc e in omega arith) }))

  -- the validity of n rows from a on
  valid_stands : {B : Type 0} (c : List ℕ) (μ : Memory) (i : ℕ) (m : Bool) (a : Array B) → Mask m a.valid (a.off + a.len) → keeps_of x.plan i ≡ flag (ltb 0 (null_count_of a))
      → (from n : ℕ) → from + n ≤ a.len → (ltb 0 (null_count_of a) ≡ true → μ.bits i ≡ map flag (seg (ok a.valid) (a.off + from) n))
      → StoodBits x buffers c μ i m n (validity m (some (seg (ok a.valid) (a.off + from) n)))
  valid_stands c μ i true a q k from n l h =
      bits_stand x buffers c μ i (ltb 0 (null_count_of a)) n (seg (ok a.valid) (a.off + from) n) k (length_seg (ok a.valid) (a.off + from) n) h
      (λ e. ap zeros (seg_cong (ok a.valid) (λ r. ok a.valid (a.off + r)) (a.off + from) from n (λ j o. ap (ok a.valid) (let z : a.off + from + j ≡ a.off + (from + j) = omega arith in z)))
      ∙ seg_valid a (let z = ltb-false 0 (null_count_of a) e in omega arith) from n l)
  valid_stands c μ i false a q k from n l h = bits_none x buffers c μ i false n (k ∙ ap (λ z. flag (ltb 0 z)) (unmasked a a.valid refl q))

  -- A NODE, from what its body comes to
  pub node_goes : {B C : Type 0} (i e : ℕ) → i < 32 → i < e → (m : Bool) (a : Array B) → Mask m a.valid (a.off + a.len) → keeps_of x.plan i ≡ flag (ltb 0 (null_count_of a))
      → (from n : ℕ) → from + n ≤ a.len → n ≤ top → (inner : List ℕ → Memory → ℕ → C → Type 0) (t : Try (Unit {0})) (y : C) (f : List ℕ → Out)
      → (c : List ℕ) (μ : Memory) → length c ≡ 96 → ((j : ℕ) → i ≤ j → j < e → Bare c μ j)
      → ((c1 : List ℕ) (μ1 : Memory) → Open i e c1 μ1 → Goes μ1 (λ z c2 μ2. inner c2 μ2 n z × DataKept i e c1 c2 μ1 μ2) (then t (λ u. done y)) (f c1))
      → Goes μ (λ z c2 μ2. StoodNode x buffers c2 μ2 i m (inner c2 μ2) z × Kept i e c c2 μ μ2) (then t (λ u. done (laid m a from n y)))
      (next (bits_walk x.plan i (ok a.valid) (a.off + from) n c) (λ c1. f (add_rows i n c1)))
  node_goes i e l p m a q k from n r big inner t y f c μ long bare body =
      goes_quiet (λ c1. f (add_rows i n c1)) (bits_go i (ok a.valid) (a.off + from) n (ltb 0 (null_count_of a)) k c μ (bare i (omega arith) p).no_bits)
      (λ c1 μ1 h. goes_value t y (laid m a from n y) (λ c2 μ2 z. stands c1 μ1 h c2 μ2 z) (body (add_rows i n c1) μ1 (opened c1 μ1 h)))
    where
      other : (c1 : List ℕ) (μ1 : Memory) → AfterBits i (ltb 0 (null_count_of a)) (seg (ok a.valid) (a.off + from) n) c μ c1 μ1 → (j : ℕ) → (j ≡ i → ⊥) → SameAt c (add_rows i n c1) μ μ1 j
      other c1 μ1 h j z =
          record {
            rows_same = rows_other c1 i n j z ∙ ap (λ w. rows w j) h.same_counters;
            nulls_same = nulls_of_rows c1 i n j ∙ ap (λ w. nulls w j) h.same_counters;
            bytes_same = bytes_of_rows c1 i n j ∙ ap (λ w. bytes w j) h.same_counters;
            at_same = h.at_same j;
            bits_same = h.bits_same j z;
          }

      opened : (c1 : List ℕ) (μ1 : Memory) → AfterBits i (ltb 0 (null_count_of a)) (seg (ok a.valid) (a.off + from) n) c μ c1 μ1 → Open i e (add_rows i n c1) μ1
      opened c1 μ1 h =
          record {
            long = long_rows i n c1 ∙ ap length h.same_counters ∙ long;
            own = λ b. h.at_same i b ∙ (bare i (omega arith) p).no_bytes b;
            behind = λ j u v. bare_same (other c1 μ1 h j (λ z. omega arith)) (bare j (omega arith) v);
          }

      stands : (c1 : List ℕ) (μ1 : Memory) → AfterBits i (ltb 0 (null_count_of a)) (seg (ok a.valid) (a.off + from) n) c μ c1 μ1 → (c2 : List ℕ) (μ2 : Memory) → (inner c2 μ2 n y × DataKept i e (add_rows i n c1) c2 μ1 μ2)
          → StoodNode x buffers c2 μ2 i m (inner c2 μ2) (laid m a from n y) × Kept i e c c2 μ μ2
      stands c1 μ1 h c2 μ2 z =
          let d = z.1 in
          let zero-rows : rows c1 i ≡ 0 = ap (λ w. rows w i) h.same_counters ∙ (bare i (omega arith) p).no_rows in
          let long1 : length c1 ≡ 96 = ap length h.same_counters ∙ long in (
            record {
              rows_are = d.rows_own ∙ rows_added c1 long1 i l n ∙ grown_is (rows c1 i) n (omega (arith, zero-rows)) ∙ ap (λ w. w + n) zero-rows ∙ zero-add n;
              from_zero = refl;
              bits_are = valid_stands c2 μ2 i m a q k from n r (λ o. d.bits_own ∙ h.bits_own o);
              body_is = z.0;
            },
            record {
              long = d.long ∙ long_rows i n c1 ∙ ap length h.same_counters;
              outside = λ j u. same_then (other c1 μ1 h j (λ w. u (omega (arith, w)) (omega (arith, w)))) (d.outside j u);
            },
          )
