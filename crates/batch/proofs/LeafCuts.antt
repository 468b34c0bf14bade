-- The walk of a copy at a node without children may be cut where `batchLeaf` answers 0. Assumes nothing.
use mathlib.Core.Path.{◌≡◌, refl, sym, ap, subst, ◌∙◌}
use mathlib.Core.Bool.{Bool, true, false, cond}
use mathlib.Core.List.{List}
use Prim.Native.Nat.{ℕ, ◌+◌, ◌*◌, ◌≤◌, ◌<◌}
use native.Mathlib.Nat.{add_assoc}
use native.Mathlib.Omega.{arith}
use lib.Dec.{ltb}
use borrow.Author.Tests.{ltb-true, lt-ltb}
use Rattle.schema.specs.formats.Code.{is_string}
use Rattle.walk.specs.State.{Join, code_of, bytes_of, place, rows, bytes, grown, add_rows, offset_of, far, slot_of}
use Rattle.walk.specs.Log.{Out, need, found, next}
use Rattle.refinement.proofs.walk_is_model.Counters.{bytes_of_rows}
use Rattle.walk.specs.Copy.{Walk, copy_slots, copy_node, copy_walk}
use Rattle.batch.specs.Stretch.{never_falls}
use Rattle.batch.specs.Batch.{is_leaf, steady, batch_leaf}
use Rattle.batch.proofs.Ends.{Leaves, leaves_need, leaves_found, leaves_next, need_was, need_is, found_was, found_is}
use Rattle.batch.proofs.Tally.{Counts, tally, tally_rows, tally_bytes, tally_else, tally_none, tally_twice, tally_counters, tally_frame, rows_counters}
use Rattle.batch.proofs.Stretches.{Cuts}
use Rattle.batch.proofs.Leaves.{mask_zeros, zeros_cut, zeros_no}
use Rattle.batch.proofs.LeafNode.{st, st_first, leaf_data, Passes, slots_was, slots_goes, passes_first, passes_second, passes_none}

module _ (x : Join) (k : ℕ) (leaf : is_leaf (code_of x.plan k) ≡ true) where
  -- the slot of row a
  abbrev at : ℕ → ℕ
  at a = offset_of x k + a

  -- n rows, z nulls and d bytes more: those of the rows a .. a + n - 1
  abbrev pub after : ℕ → ℕ → List ℕ → List ℕ
  after a n c = tally k n (mask_zeros x k (at a) n) ((leaf_data x k leaf).amount (at a) n) c

  -- what a walk of the rows a .. a + n - 1 asks for, from b bytes on
  pub record Range (a n b : ℕ) : Type 0 where
    pub node : k < 32
    pub near : at a + n < far
    pub slots : Passes x k leaf (at a) n b

  pub node_was : (child : Walk) (a n : ℕ) (c : List ℕ) → Counts c → (copy_node x child k a n c).ans ≡ 0 → Range a n (bytes c k)
  unfolding copy_node slot_of
  node_was child a n c f h =
      let b = need_was (ltb k 32) 12 c _ (omega arith) h in
      go b (ltb (at a + n) far) refl (rw (need_is 12 c _ b) at h)
    where
      go : ltb k 32 ≡ true → (t : Bool) → ltb (at a + n) far ≡ t → (found far (cond t (at a) far) 12 c (λ slot. copy_slots x child k slot n c)).ans ≡ 0 → Range a n (bytes c k)
      go b true e g =
          let l = ltb-true _ _ e in
          record {
            node = ltb-true k 32 b;
            near = l;
            slots = slots_was x k leaf child (at a) n c f (rw (found_is far (at a) 12 c (λ slot. copy_slots x child k slot n c) (omega arith)) at g);
          }
      go b false e g = let z = found_was far far 12 c _ (omega arith) g in absurd (omega arith)

  pub node_goes : (child : Walk) (a n : ℕ) (c : List ℕ) → Counts c → Range a n (bytes c k) → Leaves (copy_node x child k a n c) (after a n c)
  unfolding copy_node slot_of
  node_goes child a n c f r =
      let l = r.near in
      leaves_need 12 c (lt-ltb k 32 r.node)
      (rw (lt-ltb (at a + n) far l) (leaves_found far (at a) 12 c _ (omega arith) (slots_goes x k leaf child (at a) n c f r.slots)))

  pub range_first : (a m s b : ℕ) → st x k leaf (at a) (m + s) ≡ true → Range a (m + s) b → Range a m b
  range_first a m s b t r =
      let l = r.near in
      record { node = r.node; near = omega arith; slots = passes_first x k leaf (at a) m s b t r.slots }

  pub range_second : (a m s b : ℕ) → st x k leaf (at a) (m + s) ≡ true → Range a (m + s) b → Range (a + m) s (b + (leaf_data x k leaf).amount (at a) m)
  range_second a m s b t r =
      let l = r.near in
      let e : at a + m ≡ at (a + m) = add_assoc (offset_of x k) a m in
      record { node = r.node; near = omega arith; slots = rw e at (passes_second x k leaf (at a) m s b t r.slots) }

  pub range_none : (a m o b d : ℕ) → o ≤ a + m → Range a m b → Range o 0 d
  range_none a m o b d h r =
      let l = r.near in
      record { node = r.node; near = omega arith; slots = passes_none x k leaf (at a) m (at o) b d (omega arith) r.slots }

  pub after_none : (o : ℕ) (c : List ℕ) → k < 32 → Counts c → after o 0 c ≡ c
  after_none o c h f = rw (zeros_no x k (at o), (leaf_data x k leaf).nothing (at o)) (tally_none k h c f)

  pub after_after : (a m s : ℕ) (c : List ℕ) → Counts c → st x k leaf (at a) (m + s) ≡ true → Range a (m + s) (bytes c k) → after (a + m) s (after a m c) ≡ after a (m + s) c
  after_after a m s c f t r =
      let e : at a + m ≡ at (a + m) = add_assoc (offset_of x k) a m in
      let z : mask_zeros x k (at a) (m + s) ≡ mask_zeros x k (at a) m + mask_zeros x k (at (a + m)) s = zeros_cut x k (at a) m s ∙ ap (λ v. mask_zeros x k (at a) m + mask_zeros x k v s) e in
      let d : (leaf_data x k leaf).amount (at a) (m + s) ≡ (leaf_data x k leaf).amount (at a) m + (leaf_data x k leaf).amount (at (a + m)) s =
      (leaf_data x k leaf).both (at a) m s (bytes c k) t r.slots.entries ∙ ap (λ v. (leaf_data x k leaf).amount (at a) m + (leaf_data x k leaf).amount v s) e in
      rw (z, d) (tally_twice k r.node c f m (mask_zeros x k (at a) m) ((leaf_data x k leaf).amount (at a) m) s (mask_zeros x k (at (a + m)) s) ((leaf_data x k leaf).amount (at (a + m)) s))

  pub after_counters : (a n : ℕ) (c : List ℕ) → Counts c → Range a n (bytes c k) → Counts (after a n c)
  after_counters a n c f r =
      tally_counters k n (mask_zeros x k (at a) n) ((leaf_data x k leaf).amount (at a) n) c f.long r.node f
      ((leaf_data x k leaf).fits (at a) n (bytes c k) r.slots.entries (f.small (3 * k + 2)))

  pub after_bytes : (a n : ℕ) (c : List ℕ) → Counts c → k < 32 → bytes (after a n c) k ≡ bytes c k + (leaf_data x k leaf).amount (at a) n
  after_bytes a n c f h = tally_bytes k n (mask_zeros x k (at a) n) ((leaf_data x k leaf).amount (at a) n) c f.long h

  -- what `batchLeaf` says of a range besides
  abbrev pub good : ℕ → ℕ → List ℕ → Type 0
  good a n c = (st x k leaf (at a) n ≡ true) × Range a n (bytes c k)

  module _ (child : Walk) where
    abbrev kid : ℕ → ℕ → List ℕ → Out
    kid a n c = copy_node x child k a n c

    leaf_same : (a n : ℕ) (c : List ℕ) → Counts c → (batch_leaf x k a n c).ans ≡ 0 → good a n c × Leaves (kid a n c) (batch_leaf x k a n c).counters
    unfolding batch_leaf steady copy_walk
    leaf_same a n c f h =
        let g = rw (need_is 12 c (need (steady x k a n) 12 c (copy_walk x 1 k a n c)) leaf) at h in
        let s = need_was (steady x k a n) 12 c _ (omega arith) g in
        let q = rw (need_is 12 c (copy_walk x 1 k a n c) s) at g in
        let r = node_was (copy_walk x 0) a n c f q in
        let l = node_goes (copy_walk x 0) a n c f r in
        let e : batch_leaf x k a n c ≡ copy_walk x 1 k a n c = need_is 12 c (need (steady x k a n) 12 c (copy_walk x 1 k a n c)) leaf ∙ need_is 12 c (copy_walk x 1 k a n c) s in
        ((s, r), rw (e, l.left) (node_goes child a n c f r))

    leaf_cut : (a m s : ℕ) (c d : List ℕ) → Counts c → good a (m + s) c → Leaves (kid a (m + s) c) d → good a m c × Leaves (next (kid a m c) (λ e. kid (a + m) s e)) d
    leaf_cut a m s c d f g l =
        let r = range_first a m s (bytes c k) g.0 g.1 in
        let q = after_counters a m c f r in
        let p : Range (a + m) s (bytes (after a m c) k) = rw (after_bytes a m c f r.node) (range_second a m s (bytes c k) g.0 g.1) in
        let e : d ≡ after a (m + s) c = sym l.left ∙ (node_goes child a (m + s) c f g.1).left in
        ((st_first x k leaf (at a) m s g.0, r), rw (e, ← after_after a m s c f g.0 g.1) (leaves_next _ (node_goes child a m c f r) (node_goes child (a + m) s (after a m c) q p)))

    leaf_none : (a m o : ℕ) (c d : List ℕ) → Counts c → Counts d → good a m c → o ≤ a + m → good o 0 c × Leaves (kid o 0 d) d
    unfolding never_falls
    leaf_none a m o c d f q g h = (
      (none (is_string (code_of x.plan k)), range_none a m o (bytes c k) (bytes c k) h g.1),
      subst (λ v. Leaves (kid o 0 d) v) (after_none o d g.1.node q) (node_goes child o 0 d q (range_none a m o (bytes c k) (bytes d k) h g.1)),
    )
      where
        none : (t : Bool) → cond t (never_falls (bytes_of x.plan k) x.body (place x k 3 + bytes_of x.plan k * at o) 0) true ≡ true
        none true = refl
        none false = refl

    pub leaf_step : (a n : ℕ) (c d : List ℕ) → Counts c → Leaves (kid a n c) d → Counts d × (rows d k ≡ grown (rows c k) n) × ((j : ℕ) → (j ≡ k → ⊥) → rows d j ≡ rows c j)
    leaf_step a n c d f l =
        let r = node_was child a n c f l.ok in
        let e : d ≡ after a n c = sym l.left ∙ (node_goes child a n c f r).left in
        rw e (
          after_counters a n c f r,
          tally_rows k n (mask_zeros x k (at a) n) ((leaf_data x k leaf).amount (at a) n) c f.long r.node,
          λ j h. tally_else k n (mask_zeros x k (at a) n) ((leaf_data x k leaf).amount (at a) n) c (3 * j)
              (λ (y : 3 * j ≡ 3 * k). h (omega arith), λ (y : 3 * j ≡ 3 * k + 1). omega arith, λ (y : 3 * j ≡ 3 * k + 2). omega arith),
        )

    leaf_frame : (a n j m : ℕ) (c d : List ℕ) → Counts c → j < k → Leaves (kid a n c) d → Leaves (kid a n (add_rows j m c)) (add_rows j m d)
    leaf_frame a n j m c d f h l =
        let r = node_was child a n c f l.ok in
        let s = r.node in
        let e : d ≡ after a n c = sym l.left ∙ (node_goes child a n c f r).left in
        let q : Range a n (bytes (add_rows j m c) k) = rw (bytes_of_rows c j m k) r in
        let g = node_goes child a n (add_rows j m c) (rows_counters j m c (omega arith) f) q in
        let w = tally_frame k j s (omega arith) (λ y. omega arith) n (mask_zeros x k (at a) n) ((leaf_data x k leaf).amount (at a) n) m c f (after_counters a n c f r) in
        rw e (record { ok = g.ok; left = g.left ∙ w })

    -- A NODE WITHOUT CHILDREN MAY BE CUT
    pub leaf_cuts : Cuts k good (λ a n c. batch_leaf x k a n c) kid
    leaf_cuts =
        record {
          same = leaf_same;
          cut = leaf_cut;
          none = leaf_none;
          step = λ a n c d f l. let s = leaf_step a n c d f l in (s.0, s.1, λ j h. s.2 j (λ e. omega arith));
          frame = leaf_frame;
        }
