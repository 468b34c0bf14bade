-- The log of a walk at a node without children, part by part: it may be cut. Assumes nothing.
use mathlib.Core.Path.{◌≡◌, refl, sym, ap, subst, ◌∙◌}
use mathlib.Core.Bool.{Bool, true}
use mathlib.Core.List.{List, [], ◌∷◌, ◌++◌, append-nil}
use Prim.Native.Nat.{ℕ, suc, ◌+◌, ◌*◌, ◌≤◌, ◌<◌}
use native.Mathlib.Nat.{add_assoc}
use native.Mathlib.Omega.{arith}
use lib.ListN.{length}
use lib.Seq.{get_or-set_other}
use borrow.Author.Tests.{lt-ltb}
use Rattle.bits.proofs.Laws.{Below}
use Rattle.schema.specs.formats.Code.{is_string}
use Rattle.walk.specs.State.{Join, code_of, rows, nulls, bytes, top, grown, add_nulls, add_rows, offset_of, far, slot_of}
use Rattle.walk.specs.Log.{Log, put, mask, done, found, next}
use Rattle.walk.specs.Leaves.{copy_mask}
use Rattle.walk.specs.Copy.{Walk, copy_data, copy_slots, copy_node}
use Rattle.batch.specs.Batch.{is_leaf}
use Rattle.batch.proofs.Ends.{need_is, found_is, next_is}
use Rattle.batch.proofs.Tally.{Counts, tally_rows}
use Rattle.batch.proofs.Leaves.{mask_zeros, mask_goes}
use Rattle.batch.proofs.Contents.{keeps, bits_of, mask_log, bits_long, bits_below, bits_cut, Logged, all, bare, DataLogs}
use Rattle.batch.proofs.LeafNode.{st, firsts, leaf_kind_lem, leaf_data, idle, data_is, masks, bytes_kept, Passes}
use Rattle.batch.proofs.LeafCuts.{after, Range, good, range_first, range_second, after_after, after_none, after_bytes, after_counters}
use Rattle.batch.proofs.Windows.{span, within}
use Rattle.batch.proofs.Alike.{lays, Alike, alike_refl, alike_sym, alike_trans, alike_append, canon, Held, held_inside, lays_inside, canon_none, canon_cut, canon_off, mask_none}

no_length : (l : List ℕ) → length l ≡ 0 → l ≡ []
no_length [] h = refl
no_length (y ∷ l) h = let z : suc (length l) ≡ 0 = h in absurd (omega arith)

module _ (x : Join) (M : ℕ) (K : ℕ → ℕ → Type 0) (body : Below 256 x.body) (k : ℕ) (leaf : is_leaf (code_of x.plan k) ≡ true) where
  abbrev T : Bool
  T = keeps x k

  abbrev U : Bool
  U = is_string (code_of x.plan k)

  abbrev pub L : DataLogs x k (st x k leaf) U (firsts x k leaf) (λ slot n c. copy_data x (idle x k leaf) (code_of x.plan k) k slot n c) (leaf_data x k leaf)
  L = (leaf_kind_lem x k leaf).logs

  abbrev at : ℕ → ℕ
  at a = offset_of x k + a

  abbrev Sp : ℕ → ℕ
  Sp b = span x.plan x.parts M K k b

  abbrev Al : Log → Log → Type 0
  Al l m = Alike x.plan x.parts M K l m

  -- the parts hold what the counters say
  pub record Roomy (c : List ℕ) : Type 0 where
    pub under : rows c k < top
    pub ones : K k 1 × (L.base (rows c k) ≤ Sp 1)
    pub bits : T ≡ true → K k 0 × (rows c k ≤ 8 * Sp 0)
    pub chars : U ≡ true → K k 2 × (bytes c k ≤ Sp 2)

  -- they hold what counters with the same rows and bytes say
  pub roomy_like : (c d : List ℕ) → rows c k ≡ rows d k → bytes c k ≡ bytes d k → Roomy c → Roomy d
  roomy_like c d e g h =
      record {
        under = rw e at h.under;
        ones = (h.ones.0, rw e at h.ones.1);
        bits = λ t. ((h.bits t).0, rw e at (h.bits t).1);
        chars = λ t. ((h.chars t).0, rw g at (h.chars t).1);
      }

  abbrev pub canon_of : ℕ → ℕ → List ℕ → Log
  canon_of a n c = canon x.plan x.parts M K T U k (rows c k) (bits_of x k (at a) n) (L.base (rows c k)) (L.ones (at a) n (bytes c k)) (bytes c k) (L.chars (at a) n)

  rows_after : (a n : ℕ) (c : List ℕ) → Counts c → k < 32 → rows (after x k leaf a n c) k < top → rows (after x k leaf a n c) k ≡ rows c k + n
  unfolding grown
  rows_after a n c f s h = let e = tally_rows k n (mask_zeros x k (at a) n) ((leaf_data x k leaf).amount (at a) n) c f.long s in omega arith

  -- counters before hold less
  pub roomy_before : (a n : ℕ) (c : List ℕ) → Counts c → Range x k leaf a n (bytes c k) → Roomy (after x k leaf a n c) → Roomy c
  roomy_before a n c f r h =
      let e = rows_after a n c f r.node h.under in
      let g = after_bytes x k leaf a n c f r.node in
      let m = L.base_more (rows c k) n in
      let u = h.under in
      let o : L.base (rows c k + n) ≤ Sp 1 = rw e at h.ones.1 in
      record {
        under = omega arith;
        ones = (h.ones.0, omega arith);
        bits = λ t. let b = h.bits t in (b.0, omega arith);
        chars = λ t. let b = h.chars t in (b.0, omega arith);
      }

  held : (a n : ℕ) (c : List ℕ) → Counts c → Range x k leaf a n (bytes c k) → Roomy (after x k leaf a n c)
      → Held x.plan x.parts M K T U k (rows c k) (bits_of x k (at a) n) (L.base (rows c k)) (L.ones (at a) n (bytes c k)) (bytes c k) (L.chars (at a) n)
  held a n c f r h =
      let e = rows_after a n c f r.node h.under in
      let g = after_bytes x k leaf a n c f r.node in
      let m = L.base_more (rows c k) n in
      let o : L.base (rows c k + n) ≤ Sp 1 = rw e at h.ones.1 in
      let l0 = bits_long x k (at a) n r.slots.bits in
      let l1 = L.ones_long body (at a) n (bytes c k) r.slots.entries in
      let l2 = L.chars_long (at a) n (bytes c k) r.slots.entries in
      record {
        bits = λ t. let b = h.bits t in (b.0, omega arith, bits_below x k (at a) n);
        ones = (h.ones.0, omega arith, L.ones_below body (at a) n (bytes c k));
        chars = λ t. let b = h.chars t in (b.0, omega arith, L.chars_below body (at a) n);
      }

  -- ---- the log of the node

  slots_log : (child : Walk) (slot n : ℕ) (c : List ℕ) → Counts c → Passes x k leaf slot n (bytes c k)
      → (copy_slots x child k slot n c).log ≡ (copy_mask x k slot n c).log ++ ((copy_data x (idle x k leaf) (code_of x.plan k) k slot n (add_nulls k (mask_zeros x k slot n) c)).log ++ [])
  unfolding copy_slots done
  slots_log child slot n c f p =
      let z = mask_zeros x k slot n in
      let e = bytes_kept x k leaf z c in
      let q = (leaf_data x k leaf).goes slot n (add_nulls k z c) (rw e p.entries) in
      rw (masks x k leaf)
      (ap (λ o. o.log) (next_is (λ c2. next (copy_data x child (code_of x.plan k) k slot n c2) (λ c3. done (add_rows k n c3))) (mask_goes x k slot n c f p.bits))
      ∙ ap ((copy_mask x k slot n c).log ++◌)
      (ap (λ y. (next y (λ c3. done (add_rows k n c3))).log) (data_is x k leaf child slot n (add_nulls k z c)) ∙ ap (λ o. o.log) (next_is (λ c3. done (add_rows k n c3)) q)))

  pub node_log : (child : Walk) (a n : ℕ) (c : List ℕ) → Counts c → Range x k leaf a n (bytes c k)
      → (copy_node x child k a n c).log ≡ (copy_mask x k (at a) n c).log ++ ((copy_data x (idle x k leaf) (code_of x.plan k) k (at a) n (add_nulls k (mask_zeros x k (at a) n) c)).log ++ [])
  unfolding copy_node slot_of
  node_log child a n c f r =
      let l = r.near in
      rw (
        need_is 12 c (found far (slot_of x k a n) 12 c (λ slot. copy_slots x child k slot n c)) (lt-ltb k 32 r.node),
        lt-ltb (at a + n) far l,
        found_is far (at a) 12 c (λ slot. copy_slots x child k slot n c) (omega arith),
      ) (slots_log child (at a) n c f r.slots)

  rows_kept : (z : ℕ) (c : List ℕ) → rows (add_nulls k z c) k ≡ rows c k
  rows_kept z c = get_or-set_other c (3 * k + 1) (3 * k) (grown (nulls c k) z) 0 (λ (e : 3 * k ≡ 3 * k + 1). omega arith)

  -- A LEAF'S LOG writes each of its buffers once
  pub node_alike : (child : Walk) (a n : ℕ) (c : List ℕ) → Counts c → Range x k leaf a n (bytes c k) → Roomy (after x k leaf a n c) → Al (copy_node x child k a n c).log (canon_of a n c)
  node_alike child a n c f r h =
      let z = mask_zeros x k (at a) n in
      let e = bytes_kept x k leaf z c in
      let g = L.log_is (at a) n (add_nulls k z c) (rw e r.slots.entries) in
      rw (node_log child a n c f r, mask_log x k (at a) n c r.slots.bits) (go _ (rw (e, rows_kept z c) at g))
    where
      H : Held x.plan x.parts M K T U k (rows c k) (bits_of x k (at a) n) (L.base (rows c k)) (L.ones (at a) n (bytes c k)) (bytes c k) (L.chars (at a) n)
      H = held a n c f r h

      go : (l : Log) → Logged x k n l (put k 1 (L.base (rows c k)) (L.ones (at a) n (bytes c k)) ∷ lays U (put k 2 (bytes c k) (L.chars (at a) n)))
          → Al (lays T (mask k (rows c k) (bits_of x k (at a) n)) ++ (l ++ [])) (canon_of a n c)
      go l (all e) = rw (e, append-nil) (alike_refl x.plan x.parts M K (canon_of a n c) (held_inside x.plan x.parts M K T U k _ _ _ _ _ _ H))
      go l (bare e g) =
          let b : bits_of x k (at a) n ≡ [] = no_length _ (bits_long x k (at a) n r.slots.bits ∙ e) in
          let o : L.ones (at a) n (bytes c k) ≡ [] = no_length _ (let q = L.ones_long body (at a) n (bytes c k) r.slots.entries in q ∙ rw e (omega arith)) in
          let d : L.chars (at a) n ≡ [] = no_length _ (L.chars_long (at a) n (bytes c k) r.slots.entries ∙ rw e ((leaf_data x k leaf).nothing (at a))) in
          let H0 : Held x.plan x.parts M K T U k (rows c k) [] (L.base (rows c k)) [] (bytes c k) [] = rw (b, o, d) at H in
          rw (g, b, o, d, append-nil)
          (alike_trans x.plan x.parts M K (mask_none x.plan x.parts M K T k (rows c k) (lays_inside x.plan x.parts M K T (mask k (rows c k) []) H0.bits))
          (alike_sym x.plan x.parts M K (canon_none x.plan x.parts M K T U k (rows c k) (L.base (rows c k)) (bytes c k) H0)))

  -- ---- cut

  module _ (child : Walk) (a m s : ℕ) (c : List ℕ) (f : Counts c) (g : good x k leaf a (m + s) c) (h : Roomy (after x k leaf a (m + s) c)) where
    abbrev d : List ℕ
    d = after x k leaf a m c

    r1 : Range x k leaf a m (bytes c k)
    r1 = range_first x k leaf a m s (bytes c k) g.0 g.1

    r2 : Range x k leaf (a + m) s (bytes d k)
    r2 = rw (after_bytes x k leaf a m c f r1.node) (range_second x k leaf a m s (bytes c k) g.0 g.1)

    fd : Counts d
    fd = after_counters x k leaf a m c f r1

    h2 : Roomy (after x k leaf (a + m) s d)
    h2 = rw (after_after x k leaf a m s c f g.0 g.1) h

    h1 : Roomy d
    h1 = roomy_before (a + m) s d fd r2 h2

    slot : at a + m ≡ at (a + m)
    slot = add_assoc (offset_of x k) a m

    abbrev v0 : List ℕ
    v0 = bits_of x k (at a) m

    abbrev v1 : List ℕ
    v1 = L.ones (at a) m (bytes c k)

    abbrev v2 : List ℕ
    v2 = L.chars (at a) m

    abbrev w0 : List ℕ
    w0 = bits_of x k (at (a + m)) s

    abbrev w1 : List ℕ
    w1 = L.ones (at (a + m)) s (bytes d k)

    abbrev w2 : List ℕ
    w2 = L.chars (at (a + m)) s

    e0 : bits_of x k (at a) (m + s) ≡ v0 ++ w0
    e0 = bits_cut x k (at a) m s ∙ ap (λ z. v0 ++ bits_of x k z s) slot

    e1 : L.ones (at a) (m + s) (bytes c k) ≡ v1 ++ w1
    e1 =
        L.ones_cut body (at a) m s (bytes c k) g.0 g.1.slots.entries
        ∙ ap (λ z. v1 ++ L.ones z s (bytes c k + (leaf_data x k leaf).amount (at a) m)) slot
        ∙ ap (λ z. v1 ++ L.ones (at (a + m)) s z) (sym (after_bytes x k leaf a m c f r1.node))

    e2 : L.chars (at a) (m + s) ≡ v2 ++ w2
    e2 = L.chars_cut (at a) m s (bytes c k) g.0 g.1.slots.entries ∙ ap (λ z. v2 ++ L.chars z s) slot

    p0 : rows d k ≡ rows c k + length v0
    p0 = rows_after a m c f r1.node h1.under ∙ ap (λ z. rows c k + z) (sym (bits_long x k (at a) m r1.slots.bits))

    p1 : L.base (rows d k) ≡ L.base (rows c k) + length v1
    p1 =
        ap L.base (rows_after a m c f r1.node h1.under)
        ∙ L.base_more (rows c k) m
        ∙ ap (λ z. L.base (rows c k) + z) (sym (L.ones_long body (at a) m (bytes c k) r1.slots.entries))

    p2 : bytes d k ≡ bytes c k + length v2
    p2 = after_bytes x k leaf a m c f r1.node ∙ ap (λ z. bytes c k + z) (sym (L.chars_long (at a) m (bytes c k) r1.slots.entries))

    abbrev Hold : ℕ → List ℕ → ℕ → List ℕ → ℕ → List ℕ → Type 0
    Hold q0 u0 q1 u1 q2 u2 = Held x.plan x.parts M K T U k q0 u0 q1 u1 q2 u2

    whole : Hold (rows c k) (v0 ++ w0) (L.base (rows c k)) (v1 ++ w1) (bytes c k) (v2 ++ w2)
    whole =
        subst (λ z. Hold (rows c k) z (L.base (rows c k)) (v1 ++ w1) (bytes c k) (v2 ++ w2)) e0
        (subst (λ z. Hold (rows c k) (bits_of x k (at a) (m + s)) (L.base (rows c k)) z (bytes c k) (v2 ++ w2)) e1
        (subst (λ z. Hold (rows c k) (bits_of x k (at a) (m + s)) (L.base (rows c k)) (L.ones (at a) (m + s) (bytes c k)) (bytes c k) z) e2 (held a (m + s) c f g.1 h)))

    second : Hold (rows c k + length v0) w0 (L.base (rows c k) + length v1) w1 (bytes c k + length v2) w2
    second =
        subst (λ z. Hold z w0 (L.base (rows c k) + length v1) w1 (bytes c k + length v2) w2) p0
        (subst (λ z. Hold (rows d k) w0 z w1 (bytes c k + length v2) w2) p1 (subst (λ z. Hold (rows d k) w0 (L.base (rows d k)) w1 z w2) p2 (held (a + m) s d fd r2 h2)))

    abbrev Can : ℕ → List ℕ → ℕ → List ℕ → ℕ → List ℕ → Log
    Can q0 u0 q1 u1 q2 u2 = canon x.plan x.parts M K T U k q0 u0 q1 u1 q2 u2

    front : canon_of a (m + s) c ≡ Can (rows c k) (v0 ++ w0) (L.base (rows c k)) (v1 ++ w1) (bytes c k) (v2 ++ w2)
    front =
        ap (λ z. Can (rows c k) z (L.base (rows c k)) (L.ones (at a) (m + s) (bytes c k)) (bytes c k) (L.chars (at a) (m + s))) e0
        ∙ ap (λ z. Can (rows c k) (v0 ++ w0) (L.base (rows c k)) z (bytes c k) (L.chars (at a) (m + s))) e1
        ∙ ap (λ z. Can (rows c k) (v0 ++ w0) (L.base (rows c k)) (v1 ++ w1) (bytes c k) z) e2

    behind : canon_of (a + m) s d ≡ Can (rows c k + length v0) w0 (L.base (rows c k) + length v1) w1 (bytes c k + length v2) w2
    behind =
        ap (λ z. Can z w0 (L.base (rows d k)) w1 (bytes d k) w2) p0
        ∙ ap (λ z. Can (rows c k + length v0) w0 z w1 (bytes d k) w2) p1
        ∙ ap (λ z. Can (rows c k + length v0) w0 (L.base (rows c k) + length v1) w1 z w2) p2

    -- A LEAF'S LOG MAY BE CUT
    pub node_logs_cut : Al (copy_node x child k a (m + s) c).log ((copy_node x child k a m c).log ++ (copy_node x child k (a + m) s d).log)
    node_logs_cut =
        alike_trans x.plan x.parts M K (node_alike child a (m + s) c f g.1 h)
        (alike_trans x.plan x.parts M K (subst (λ z. Al z (canon_of a m c ++ canon_of (a + m) s d)) (sym front)
        (subst (λ z. Al (Can (rows c k) (v0 ++ w0) (L.base (rows c k)) (v1 ++ w1) (bytes c k) (v2 ++ w2)) (canon_of a m c ++ z)) (sym behind)
        (canon_cut x.plan x.parts M K T U k (rows c k) v0 w0 (L.base (rows c k)) v1 w1 (bytes c k) v2 w2 whole (held a m c f r1 h1) second)))
        (alike_sym x.plan x.parts M K (alike_append x.plan x.parts M K (node_alike child a m c f r1 h1) (node_alike child (a + m) s d fd r2 h2))))

  -- no rows write nothing
  pub node_logs_none : (child : Walk) (o : ℕ) (c : List ℕ) → Counts c → Range x k leaf o 0 (bytes c k) → Roomy c → Al (copy_node x child k o 0 c).log []
  node_logs_none child o c f r h =
      let q : Roomy (after x k leaf o 0 c) = rw (after_none x k leaf o c r.node f) h in
      let b : bits_of x k (at o) 0 ≡ [] = no_length _ (bits_long x k (at o) 0 r.slots.bits) in
      let n : L.ones (at o) 0 (bytes c k) ≡ [] = no_length _ (let y = L.ones_long body (at o) 0 (bytes c k) r.slots.entries in omega arith) in
      let d : L.chars (at o) 0 ≡ [] = no_length _ (L.chars_long (at o) 0 (bytes c k) r.slots.entries ∙ (leaf_data x k leaf).nothing (at o)) in
      let z = node_alike child o 0 c f r q in
      let H0 : Held x.plan x.parts M K T U k (rows c k) [] (L.base (rows c k)) [] (bytes c k) [] = rw (b, n, d) at (held o 0 c f r q) in
      alike_trans x.plan x.parts M K (rw (b, n, d) at z) (canon_none x.plan x.parts M K T U k (rows c k) (L.base (rows c k)) (bytes c k) H0)

  -- other nodes' parts are left
  pub canon_of_off : (a n : ℕ) (c : List ℕ) (i b : ℕ) (w : List ℕ) → (i ≡ k → ⊥) → within i b (canon_of a n c) w ≡ w
  canon_of_off a n c i b w z =
      canon_off x.plan x.parts M K i b T U k (rows c k) (bits_of x k (at a) n) (L.base (rows c k)) (L.ones (at a) n (bytes c k)) (bytes c k) (L.chars (at a) n) w z
