-- A kept dictionary in the finished tables: source 0's values, where they stand; their validity only if a bit is 0. Assumes nothing.
use mathlib.Core.Path.{◌≡◌, refl, sym, ap, ap₂, ◌∙◌}
use mathlib.Core.Bool.{Bool, true, false, cond}
use mathlib.Core.Option.{Option, none, some}
use mathlib.Core.List.{List}
use Prim.Native.Nat.{ℕ, ◌+◌, ◌≤◌, ◌<◌}
use native.Mathlib.Omega.{arith}
use lib.Dec.{eqb}
use lib.Ieee.Bits.{is_true}
use borrow.Author.Tests.{lt-ltb, le-ltb}
use Rattle.columnar.specs.Types.{Plain, fixed, string}
use Rattle.columnar.specs.Array.{Array, null_count_of, Obeys}
use Rattle.columnar.specs.Plain.{PlainBody, PlainRule}
use Rattle.columnar.specs.Test.{mask_test}
use Rattle.columnar.proofs.Test.{mask_agrees}
use Rattle.array_data.specs.Tables.{Tables, part, length_of, offset_of, valid_of}
use Rattle.array_data.specs.Typed.{Tree}
use Rattle.model.specs.Opening.{present}
use Rattle.model.proofs.Present.{present_nulls}
use Rattle.walk.specs.State.{place, far}
use Rattle.refinement.specs.walk_is_model.Lent.{Part, LentValid, LentNode, LentPlain}
use Rattle.plan.specs.parts.Parts.{nodes_of, copied}
use Rattle.refinement.specs.orders.Order.{Lent, join_of}
use Rattle.refinement.specs.finishing.Finish.{kept_node, kept_tables, nulls_at, kept_in, kept_place, place_at, null_table}
use Rattle.refinement.specs.finishing.Shows.{ShowsNode, ShowsPlain, CountsNode, finished_tables, Bodied}
use Rattle.refinement.proofs.finishing.Lookups.{length_at_lem, offset_at_lem, place_at_lem, null_at, source_part}

module _ (x : Lent) (buffers counters room : List ℕ) (base : ℕ) (i : ℕ) (c : copied x.plan i ≡ false) where
  abbrev kept : Tables
  kept = kept_tables x buffers counters room base

  abbrev node : ℕ
  node = kept_node x buffers counters room base i

  valid_kept : (o : Option (List ℕ)) → LentValid (join_of x 0) i o → valid_of kept node ≡ o
  valid_kept none h = rw h
  valid_kept (some s) h = rw h.0 (ap some (sym h.1.bytes_are))

  -- the bits of a kept dictionary stand in the body
  pub kept_in_lem : (p : Plain) (a : Array (PlainBody p)) → LentNode (join_of x 0) i (LentPlain (join_of x 0) p i) a → Obeys true (PlainRule p) a → kept_in x buffers counters room base i ≡ true
  unfolding kept_in
  kept_in_lem p a h o =
      let n : offset_of kept node + length_of kept node ≡ a.off + a.len = ap₂ ◌+◌ h.off_is h.len_is in
      let g : offset_of kept node + length_of kept node < far = omega (arith, n, h.sum) in
      let t : mask_test true a.valid (a.off + a.len) ≡ true = is_true _ ((mask_agrees true a.valid (a.off + a.len)).complete o.mask) in
      rw (c, lt-ltb _ _ g, valid_kept a.valid h.valid_is, n) t

module _ (tree : Tree) (x : Lent) (buffers counters room : List ℕ) (base : ℕ) (body : List ℕ) (bodied : Bodied body x room base)
    (i : ℕ) (l : i < nodes_of x.plan) (c : copied x.plan i ≡ false) where
  abbrev Y : Tables
  Y = finished_tables x buffers counters room base body

  -- its validity, if a bit is 0
  abbrev nulls : ℕ
  nulls = nulls_at x buffers counters room base i

  pub valid_place_lem : (j : ℕ) → j < 3 → Rattle.array_data.specs.Tables.place Y i j ≡ cond (eqb nulls 0) 0 (place (join_of x 0) i j)
  unfolding place_at kept_place
  valid_place_lem j k = place_at_lem x buffers counters room base body i l j (omega arith) ∙ rw (c, lt-ltb j 3 k)

  pub place_is : (j : ℕ) → 3 ≤ j → j < 7 → Rattle.array_data.specs.Tables.place Y i j ≡ place (join_of x 0) i j
  unfolding place_at kept_place
  place_is j h k = place_at_lem x buffers counters room base body i l j (omega arith) ∙ rw (c, le-ltb j 3 h, lt-ltb j 7 k)

  part_is : (a b : ℕ) (a2 b2 : ℕ) (s : List ℕ) → a ≡ a2 → b ≡ b2 → Part x.body a2 b2 s → part body a b ≡ s
  part_is a b a2 b2 s e f h = ap₂ (part body) e f ∙ source_part x buffers counters room base body bodied a2 b2 h.inside ∙ sym h.bytes_are

  -- ---- validity

  valid_shown : (o : Option (List ℕ)) → LentValid (join_of x 0) i o → valid_of Y i ≡ cond (eqb nulls 0) none o
  valid_shown o h = rw (valid_place_lem 0 (omega arith), valid_place_lem 1 (omega arith), valid_place_lem 2 (omega arith)) (go (eqb nulls 0) o h)
    where
      go : (z : Bool) (o : Option (List ℕ)) → LentValid (join_of x 0) i o
          → cond (eqb (cond z 0 (place (join_of x 0) i 0)) 0) none (some (part body (cond z 0 (place (join_of x 0) i 1)) (cond z 0 (place (join_of x 0) i 2)))) ≡ cond z none o
      go true o h = refl
      go false none h = rw h
      go false (some s) h = rw h.0 (ap some (source_part x buffers counters room base body bodied (place (join_of x 0) i 1) (place (join_of x 0) i 2) h.1.inside ∙ sym h.1.bytes_are))

  -- ---- buffers

  plain_shown : (p : Plain) (b : PlainBody p) → LentPlain (join_of x 0) p i b → ShowsPlain tree Y p i b
  plain_shown (fixed n) b h = part_is _ _ (place (join_of x 0) i 3) (place (join_of x 0) i 4) b (place_is 3 (omega arith) (omega arith)) (place_is 4 (omega arith) (omega arith)) h
  plain_shown (string w) b h = (
    part_is _ _ (place (join_of x 0) i 3) (place (join_of x 0) i 4) b.offsets (place_is 3 (omega arith) (omega arith)) (place_is 4 (omega arith) (omega arith)) h.0,
    part_is _ _ (place (join_of x 0) i 5) (place (join_of x 0) i 6) b.chars (place_is 5 (omega arith) (omega arith)) (place_is 6 (omega arith) (omega arith)) h.1,
  )

  module _ (p : Plain) (a : Array (PlainBody p)) (h : LentNode (join_of x 0) i (LentPlain (join_of x 0) p i) a) where
    nulls_are : nulls ≡ null_count_of a
    unfolding nulls_at
    nulls_are = rw (c, valid_kept x buffers counters room base i c a.valid h.valid_is, h.len_is, h.off_is)

    -- A KEPT DICTIONARY is source 0's, without a validity that has no zero bit
    pub kept_shows : ShowsNode Y i (ShowsPlain tree Y p i) (present a)
    kept_shows =
        record {
          len_is = length_at_lem x buffers counters room base body i l ∙ rw c h.len_is;
          off_is = offset_at_lem x buffers counters room base body i l ∙ rw c h.off_is;
          valid_is = valid_shown a.valid h.valid_is ∙ ap (λ n. cond (eqb n 0) none a.valid) nulls_are;
          body_is = plain_shown p a.body h.body_is;
        }

    pub kept_counters : CountsNode (null_table x buffers counters room base) i (λ (b : PlainBody p). Unit {0}) (present a)
    kept_counters =
        record {
          count_is = null_at x buffers counters room base body i l ∙ nulls_are ∙ sym (present_nulls a);
          below = tt;
        }
