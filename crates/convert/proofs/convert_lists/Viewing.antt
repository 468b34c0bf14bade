-- THE WALK OF A LIST COLUMN leaves the root of its list-view: bits, offsets and sizes of all rows. Assumes nothing.
use mathlib.Core.Path.{◌≡◌, refl, sym, ap, ap₂, subst, ◌∙◌}
use mathlib.Core.Bool.{Bool, true, false, cond}
use mathlib.Core.List.{List, [], ◌∷◌, ◌++◌, map, append-nil}
use Prim.Native.Nat.{ℕ, zero, suc, ◌+◌, ◌*◌, ◌-◌, ◌≤◌, ◌<◌}
use native.Mathlib.Nat.{zero-add, add-zero, add-suc, suc-add}
use native.Mathlib.Omega.{arith}
use lib.ListN.{length, replicate, length-replicate}
use lib.Dec.{eqb}
use borrow.Author.Tests.{eqb-true, eqb-false}
use Rattle.number.specs.Number.{encode}
use Rattle.columnar.specs.Row.{seg}
use Rattle.columnar.specs.Types.{Ty, t_list}
use Rattle.columnar.specs.Array.{item, ok}
use Rattle.columnar.specs.Entries.{encodes}
use Rattle.columnar.specs.Plain.{OffsetsTo, OffsetsRule, empty, full}
use Rattle.columnar.specs.Reading.{Body, Column, Source}
use Rattle.columnar.proofs.Items.{length_encodes, encodes_append}
use Rattle.model.proofs.Bits.{length_seg}
use Rattle.array_data.proofs.node_words.Laws.{seg_snoc}
use Rattle.walk.specs.State.{Join, keeps_of, rows, grown, add_rows, place, length_of, offset_of, rows_in}
use Rattle.walk.specs.Log.{Out, put, done, need, each}
use Rattle.refinement.specs.walk_is_model.Memory.{Memory, put_in}
use Rattle.refinement.specs.walk_is_model.Holds.{flag}
use Rattle.refinement.specs.walk_is_model.Lent as tables
use Rattle.refinement.proofs.walk_is_model.Goes.{Quiet, quiet_done, quiet_wrote, quiet_need, quiet_then}
use Rattle.refinement.proofs.walk_is_model.Places.{part_entry, rows_in_lem, put_here, put_beside}
use Rattle.refinement.proofs.walk_is_model.Counters.{rows_added, long_rows, grown_is}
use Rattle.refinement.proofs.opening.Zeros as zeros
use Rattle.refinement.proofs.opening.Zeros.{no_counters}
use Rattle.anew.specs.lists.Viewed.{offset_in, size_in}
use Rattle.convert.specs.convert_lists.Viewing.{start_at, next_at, view_row, view_rows, view_walk}
use Rattle.convert.proofs.convert_lists.Root.{root_bits}

-- steps of the walk alone, one after the other, owed only below `end`
quiet_rows : (k : ℕ → List ℕ → Out) (I : ℕ → List ℕ → Memory → Type 0) (end : ℕ) (step : (r : ℕ) (c : List ℕ) (ν : Memory) → r < end → I r c ν → Quiet ν (I (suc r)) (k r c))
    (n r : ℕ) (c : List ℕ) (μ : Memory) → r + n ≤ end → I r c μ → Quiet μ (I (r + n)) (each k n r c)
unfolding each
quiet_rows k I end step zero r c μ l i = quiet_done c (rw add-zero i)
quiet_rows k I end step (suc n) r c μ l i =
    quiet_then (λ c2. each k n (suc r) c2) (step r c μ (omega arith) i)
    (λ c2 ν j. let g = quiet_rows k I end step n (suc r) c2 ν (omega arith) j in rw (add-suc r n, ← suc-add r n) g)

-- one entry more
more : (w : ℕ) (f : ℕ → ℕ) (a r : ℕ) → encodes w (seg f a r) ++ encode w (f (a + r)) ≡ encodes w (seg f a (suc r))
more w f a r = sym (ap (encodes w) (seg_snoc f a r) ∙ encodes_append w (seg f a r) (f (a + r) ∷ []) ∙ ap (encodes w (seg f a r) ++◌) (append-nil (encode w (f (a + r)))))

pub entries_long : (w : ℕ) (f : ℕ → ℕ) (a r : ℕ) → length (encodes w (seg f a r)) ≡ r * w
entries_long w f a r = length_encodes w (seg f a r) ∙ ap (◌* w) (length_seg f a r)

module _ (x : Join) (w : ℕ) (t : Ty) (v : Column (t_list w t)) (lent : tables.LentNode x 0 (λ (b : Body (t_list w t)). tables.First x 0 b.offsets) v) (obey : Source (t_list w t) v) (keep : Bool) (keeps_are : keeps_of x.plan 0 ≡ flag keep) where
  abbrev starts : ℕ → List ℕ
  starts r = encodes w (seg (offset_in w v.body) v.off r)

  abbrev sizes : ℕ → List ℕ
  sizes r = encodes w (seg (size_in w v.body) v.off r)

  -- the root after the walk
  pub record Viewed (c : List ℕ) (μ : Memory) : Type 0 where
    pub long : length c ≡ 96
    pub rows_are : rows c 0 ≡ v.len
    pub bits_are : keep ≡ true → μ.bits 0 ≡ map flag (seg (ok v.valid) v.off v.len)
    pub starts_are : μ.at 0 1 ≡ starts v.len
    pub sizes_are : μ.at 0 2 ≡ sizes v.len

  -- r rows are done
  record Going (bits : List ℕ) (r : ℕ) (c : List ℕ) (μ : Memory) : Type 0 where
    long : length c ≡ 96
    no_rows : rows c 0 ≡ 0
    bits_are : μ.bits 0 ≡ bits
    starts_are : μ.at 0 1 ≡ starts r
    sizes_are : μ.at 0 2 ≡ sizes r

  module _ (o : OffsetsTo w v.body.offsets v.body.child.len v.off v.len) where
    start_is : (r : ℕ) → r < v.len → start_at x w r ≡ offset_in w v.body (v.off + r)
    start_is r q = rw lent.off_is (part_entry lent.body_is w (v.off + r) (v.off + v.len + 1) (omega arith) o.hold)

    next_is : (r : ℕ) → r < v.len → next_at x w r ≡ item w v.body.offsets (suc (v.off + r))
    next_is r q =
        let e : v.off + r + 1 ≡ suc (v.off + r) = omega arith in
        rw (lent.off_is, e) (part_entry lent.body_is w (suc (v.off + r)) (v.off + v.len + 1) (omega arith) o.hold)

    step : (bits : List ℕ) (r : ℕ) (c : List ℕ) (μ : Memory) → r < v.len → Going bits r c μ → Quiet μ (Going bits (suc r)) (view_row x w r c)
    unfolding view_row
    step bits r c μ q h =
        let a = offset_in w v.body (v.off + r) in
        let b = size_in w v.body (v.off + r) in
        let one = encode w a in
        let two = encode w b in
        let z : next_at x w r - start_at x w r ≡ b = ap₂ (λ m n. m - n) (next_is r q) (start_is r q) in
        rw (z, start_is r q)
        (quiet_then _
        (quiet_wrote {Q = λ d ν. (d ≡ c) × (ν ≡ put_in 0 1 one μ)} (put 0 1 (r * w) one) c (sym (ap length h.starts_are ∙ entries_long w (offset_in w v.body) v.off r)) (refl, refl))
        (λ d ν p.
        rw (p.0, p.1)
        (quiet_wrote (put 0 2 (r * w) two) c (sym (ap length (put_beside 0 1 one μ 2 (λ y. omega (arith, y)) ∙ h.sizes_are) ∙ entries_long w (size_in w v.body) v.off r))
        (record {
          long = h.long;
          no_rows = h.no_rows;
          bits_are = h.bits_are;
          starts_are = put_beside 0 2 two (put_in 0 1 one μ) 1 (λ y. omega (arith, y)) ∙ put_here 0 1 one μ ∙ ap (◌++ one) h.starts_are ∙ more w (offset_in w v.body) v.off r;
          sizes_are = put_here 0 2 two (put_in 0 1 one μ) ∙ ap (◌++ two) (put_beside 0 1 one μ 2 (λ y. omega (arith, y)) ∙ h.sizes_are) ∙ more w (size_in w v.body) v.off r;
        }))))

  rows_go : (bits : List ℕ) (c : List ℕ) (μ : Memory) → Going bits 0 c μ → (n : ℕ) → n ≡ v.len → Quiet μ (Going bits v.len) (view_rows x w n c)
  unfolding view_rows
  rows_go bits c μ h n e = go (eqb n 0) refl obey.slots.offsets_rule_lem
    where
      go : (b : Bool) → eqb n 0 ≡ b → OffsetsRule w v.body.offsets v.body.child.len v.off v.len
          → Quiet μ (Going bits v.len) (cond b (done c) (need (rows_in x (place x 0 3) w (offset_of x 0) (suc n)) 12 c (each (view_row x w) n 0 c)))
      go true z o = quiet_done c (subst (λ k. Going bits k c μ) (sym (eqb-true n 0 z) ∙ e) h)
      go false z (empty l q) = absurd (eqb-false n 0 z (e ∙ l))
      go false z (full o) =
          let l : (v.off + suc n) * w ≤ length v.body.offsets = let k : v.off + suc n ≡ v.off + v.len + 1 = omega (arith, e) in rw k o.hold in
          quiet_need _ 12 c (ap (λ k. rows_in x (place x 0 3) w k (suc n)) lent.off_is ∙ rows_in_lem x (place x 0 3) (place x 0 4) v.body.offsets w v.off (suc n) lent.body_is l)
          (subst (λ k. Quiet μ (Going bits k) (each (view_row x w) n 0 c)) (zero-add n ∙ e)
          (quiet_rows (view_row x w) (Going bits) v.len (λ r c2 ν q i. step o bits r c2 ν q i) n 0 c μ (omega (arith, e)) h))

  counted : (bits : List ℕ) → (keep ≡ true → bits ≡ map flag (seg (ok v.valid) v.off v.len)) → (c : List ℕ) (μ : Memory) → Going bits v.len c μ → (n : ℕ) → n ≡ v.len → Viewed (add_rows 0 n c) μ
  counted bits b c μ h n e =
      record {
        long = long_rows 0 n c ∙ h.long;
        rows_are = rows_added c h.long 0 (omega arith) n ∙ ap (λ k. grown k n) h.no_rows ∙ grown_is 0 n (omega (arith, e, lent.sum)) ∙ zero-add n ∙ e;
        bits_are = λ k. h.bits_are ∙ b k;
        starts_are = h.starts_are;
        sizes_are = h.sizes_are;
      }

  -- THE WALK LEAVES THE ROOT OF THE LIST-VIEW, and is never refused
  pub view_goes : Quiet zeros.empty Viewed (view_walk x w (replicate 96 0))
  unfolding view_walk
  view_goes =
      quiet_then _ (root_bits x (λ (b : Body (t_list w t)). tables.First x 0 b.offsets) v keep lent obey.mask keeps_are (replicate 96 0) zeros.empty (length-replicate {A = ℕ} 96 0) (no_counters 96 0) (no_counters 96 1) refl)
      (λ c μ h.
      quiet_then _ (rows_go (μ.bits 0) c μ (record { long = h.long; no_rows = h.no_rows; bits_are = refl; starts_are = h.bytes_same 1; sizes_are = h.bytes_same 2 }) (length_of x 0) lent.len_is)
      (λ c2 ν i. quiet_done (add_rows 0 (length_of x 0) c2) (counted (μ.bits 0) h.bits_are c2 ν i (length_of x 0) lent.len_is)))
