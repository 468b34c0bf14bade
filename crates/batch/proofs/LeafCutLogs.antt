-- What stretches ask of a child's logs, for a node without children. Assumes nothing.
use mathlib.Core.Path.{◌≡◌, refl, sym, ap, ◌∙◌}
use mathlib.Core.Bool.{true}
use mathlib.Core.List.{List}
use Prim.Native.Nat.{ℕ, ◌+◌, ◌<◌}
use native.Mathlib.Omega.{arith}
use Rattle.bits.proofs.Laws.{Below}
use Rattle.walk.specs.State.{Join, code_of, rows, bytes, add_rows}
use Rattle.walk.specs.Log.{Log, Out, need}
use Rattle.walk.specs.Copy.{Walk, copy_node, copy_walk}
use Rattle.refinement.proofs.walk_is_model.Counters.{rows_other, bytes_of_rows}
use Rattle.batch.specs.Batch.{is_leaf, steady, batch_leaf}
use Rattle.batch.proofs.Ends.{Leaves, need_was, need_is}
use Rattle.batch.proofs.Tally.{Counts, rows_counters}
use Rattle.batch.proofs.LeafCuts.{after, good, node_was, node_goes, range_none, leaf_cuts}
use Rattle.batch.proofs.Windows.{within}
use Rattle.batch.proofs.Alike.{Window, Alike, alike_sym, alike_trans}
use Rattle.batch.proofs.LeafLogs.{Roomy, roomy_like, canon_of, canon_of_off, roomy_before, node_log, node_alike, node_logs_cut, node_logs_none}
use Rattle.batch.proofs.StretchLogs.{CutLogs}

module _ (x : Join) (M : ℕ) (K : ℕ → ℕ → Type 0) (body : Below 256 x.body) (k : ℕ) (leaf : is_leaf (code_of x.plan k) ≡ true) (child : Walk) where
  abbrev kid : ℕ → ℕ → List ℕ → Out
  kid a n c = copy_node x child k a n c

  abbrev R : List ℕ → Type 0
  R c = Roomy x M K body k leaf c

  abbrev Al : Log → Log → Type 0
  Al l m = Alike x.plan x.parts M K l m

  left_is : (a n : ℕ) (c d : List ℕ) → Counts c → Leaves (kid a n c) d → d ≡ after x k leaf a n c
  left_is a n c d f l = sym l.left ∙ (node_goes x k leaf child a n c f (node_was x k leaf child a n c f l.ok)).left

  leaf_same_log : (a n : ℕ) (c : List ℕ) → Counts c → (batch_leaf x k a n c).ans ≡ 0 → (batch_leaf x k a n c).log ≡ (kid a n c).log
  unfolding batch_leaf copy_walk
  leaf_same_log a n c f h =
      let g = rw (need_is 12 c (need (steady x k a n) 12 c (copy_walk x 1 k a n c)) leaf) at h in
      let s = need_was (steady x k a n) 12 c _ (omega arith) g in
      let q = rw (need_is 12 c (copy_walk x 1 k a n c) s) at g in
      let r = node_was x k leaf (copy_walk x 0) a n c f q in
      let e : batch_leaf x k a n c ≡ copy_walk x 1 k a n c = need_is 12 c (need (steady x k a n) 12 c (copy_walk x 1 k a n c)) leaf ∙ need_is 12 c (copy_walk x 1 k a n c) s in
      ap (λ o. o.log) e ∙ node_log x M K body k leaf (copy_walk x 0) a n c f r ∙ sym (node_log x M K body k leaf child a n c f r)

  like : (a n : ℕ) (c d : List ℕ) → Counts c → Leaves (kid a n c) d → R d → Al (kid a n c).log (canon_of x M K body k leaf a n c)
  like a n c d f l h = node_alike x M K body k leaf child a n c f (node_was x k leaf child a n c f l.ok) (rw (left_is a n c d f l) at h)

  leaf_off : (a n : ℕ) (c d : List ℕ) → Counts c → Leaves (kid a n c) d → R d → (i b : ℕ) → (i ≡ k → ⊥) → K i b → (w : List ℕ) → Window x.plan x.parts M K i b w
      → within i b (kid a n c).log w ≡ w
  leaf_off a n c d f l h i b z y w u =
      (like a n c d f l h).same i b y w u
      ∙ canon_of_off x M K body k leaf a n c i b w z

  -- from counters that agree at the leaf
  like_both : (a n : ℕ) (c d c2 d2 : List ℕ) → Counts c → Counts c2 → Leaves (kid a n c) d → Leaves (kid a n c2) d2 → R d → R d2 → rows c k ≡ rows c2 k → bytes c k ≡ bytes c2 k
      → Al (kid a n c).log (kid a n c2).log
  like_both a n c d c2 d2 f f2 l l2 h h2 e g =
      alike_trans x.plan x.parts M K (rw (e, g) at (like a n c d f l h)) (alike_sym x.plan x.parts M K (like a n c2 d2 f2 l2 h2))

  leaf_self : (a n : ℕ) (c d : List ℕ) → Counts c → Leaves (kid a n c) d → R d → Al (kid a n c).log (kid a n c).log
  leaf_self a n c d f l h = like_both a n c d c d f f l l h h refl refl

  leaf_frame_log : (a n j m : ℕ) (c d : List ℕ) → Counts c → j < k → Leaves (kid a n c) d → R d → Al (kid a n c).log (kid a n (add_rows j m c)).log
  leaf_frame_log a n j m c d f h l y =
      let s = (node_was x k leaf child a n c f l.ok).node in
      let ne : k ≡ j → ⊥ = λ e. omega arith in
      like_both a n c d (add_rows j m c) (add_rows j m d) f (rows_counters j m c (omega arith) f) l ((leaf_cuts x k leaf child).frame a n j m c d f h l) y
      (roomy_like x M K body k leaf d (add_rows j m d) (sym (rows_other d j m k ne)) (sym (bytes_of_rows d j m k)) y) (sym (rows_other c j m k ne)) (sym (bytes_of_rows c j m k))

  pub leaf_cut_logs : CutLogs x.plan x.parts M K k R (good x k leaf) (λ a n c. batch_leaf x k a n c) kid
  leaf_cut_logs =
      record {
        same_log = λ a n c f h y. rw (leaf_same_log a n c f h) (leaf_self a n c _ f ((leaf_cuts x k leaf child).same a n c f h).1 y);
        self = leaf_self;
        before = λ a n c d f l h. roomy_before x M K body k leaf a n c f (node_was x k leaf child a n c f l.ok) (rw (left_is a n c d f l) at h);
        cut_log = λ a m s c d e f g l p h. rw (left_is a m c e f p) (node_logs_cut x M K body k leaf child a m s c f g (rw (left_is a (m + s) c d f l) at h));
        none_log = λ a m o c d f q g h y. node_logs_none x M K body k leaf child o d q (range_none x k leaf a m o (bytes c k) (bytes d k) h g.1) y;
        off = λ a n c d f l h i b z. leaf_off a n c d f l h i b (λ e. omega arith);
        frame_log = leaf_frame_log;
        less = λ j m c h y. roomy_like x M K body k leaf (add_rows j m c) c (rows_other c j m k (λ e. omega arith)) (bytes_of_rows c j m k) y;
      }
