-- The logs of a dense union's children, part by part: a child's rows may go before the others. Assumes nothing.
use mathlib.Core.Path.{◌≡◌, refl, sym, ap, ◌∙◌}
use mathlib.Core.Bool.{Bool, true, false}
use mathlib.Core.List.{List, ◌++◌}
use Prim.Native.Nat.{ℕ}
use lib.Dec.{eqb}
use borrow.Author.Tests.{eqb-true, eqb-false}
use Rattle.bits.proofs.Laws.{Below}
use Rattle.walk.specs.State.{Join, code_of, rows, bytes}
use Rattle.walk.specs.Log.{Log, Out}
use Rattle.walk.specs.Copy.{Walk, copy_node}
use Rattle.batch.specs.Batch.{is_leaf}
use Rattle.batch.proofs.Ends.{Leaves}
use Rattle.batch.proofs.Tally.{Counts}
use Rattle.batch.proofs.LeafCuts.{after, node_was, node_goes}
use Rattle.batch.proofs.Windows.{within, within_append, AllInside, inside_append}
use Rattle.batch.proofs.Alike.{Window, within_window, Alike, alike_sym, alike_trans}
use Rattle.batch.proofs.LeafLogs.{Roomy, roomy_like, canon_of, canon_of_off, node_alike}

module _ (plan parts : List ℕ) (M : ℕ) (K : ℕ → ℕ → Type 0) where
  -- a log of one node leaves all other nodes' parts
  abbrev pub OffAll : ℕ → Log → Type 0
  OffAll k l = (i b : ℕ) → (i ≡ k → ⊥) → K i b → (w : List ℕ) → Window plan parts M K i b w → within i b l w ≡ w

  -- LOGS OF TWO NODES, either first
  pub alike_swap : (k h : ℕ) → (h ≡ k → ⊥) → (l m : Log) → AllInside plan parts M K l → AllInside plan parts M K m → OffAll k l → OffAll h m → Alike plan parts M K (l ++ m) (m ++ l)
  alike_swap k h ne l m a b f g =
      record {
        one = inside_append plan parts M K l m a b;
        two = inside_append plan parts M K m l b a;
        same = λ i j y w u. within_append i j l m w ∙ go i j y w u (eqb i k) refl ∙ sym (within_append i j m l w);
      }
    where
      go : (i j : ℕ) → K i j → (w : List ℕ) → Window plan parts M K i j w → (t : Bool) → eqb i k ≡ t → within i j m (within i j l w) ≡ within i j l (within i j m w)
      go i j y w u true e =
          let z : i ≡ k = eqb-true i k e in
          let n : i ≡ h → ⊥ = λ q. ne (sym q ∙ z) in
          g i j n y (within i j l w) (within_window plan parts M K i j l a w u) ∙ ap (within i j l) (sym (g i j n y w u))
      go i j y w u false e =
          let n = eqb-false i k e in
          ap (within i j m) (f i j n y w u) ∙ sym (f i j n y (within i j m w) (within_window plan parts M K i j m b w u))

module _ (x : Join) (M : ℕ) (K : ℕ → ℕ → Type 0) (body : Below 256 x.body) (child : Walk) where
  abbrev kid : ℕ → ℕ → ℕ → List ℕ → Out
  kid k a n c = copy_node x child k a n c

  abbrev Leaf : ℕ → Type 0
  Leaf k = is_leaf (code_of x.plan k) ≡ true

  abbrev Al : Log → Log → Type 0
  Al l m = Alike x.plan x.parts M K l m

  abbrev R : (k : ℕ) → Leaf k → List ℕ → Type 0
  R k p c = Roomy x M K body k p c

  -- the parts of a leaf hold what counters with its rows and bytes say
  pub roomy_as : (k : ℕ) (p : Leaf k) (c d : List ℕ) → rows c k ≡ rows d k → bytes c k ≡ bytes d k → R k p c → R k p d
  roomy_as k p c d e g h = roomy_like x M K body k p c d e g h

  pub left_is : (k : ℕ) (p : Leaf k) (a n : ℕ) (c d : List ℕ) → Counts c → Leaves (kid k a n c) d → d ≡ after x k p a n c
  left_is k p a n c d f l = sym l.left ∙ (node_goes x k p child a n c f (node_was x k p child a n c f l.ok)).left

  like : (k : ℕ) (p : Leaf k) (a n : ℕ) (c d : List ℕ) → Counts c → Leaves (kid k a n c) d → R k p d → Al (kid k a n c).log (canon_of x M K body k p a n c)
  like k p a n c d f l h = node_alike x M K body k p child a n c f (node_was x k p child a n c f l.ok) (rw (left_is k p a n c d f l) at h)

  -- a leaf's log, from counters that agree at it
  pub log_same : (k : ℕ) (p : Leaf k) (a n : ℕ) (c d c2 d2 : List ℕ) → Counts c → Counts c2 → Leaves (kid k a n c) d → Leaves (kid k a n c2) d2 → R k p d → R k p d2 → rows c k ≡ rows c2 k → bytes c k ≡ bytes c2 k
      → Al (kid k a n c).log (kid k a n c2).log
  log_same k p a n c d c2 d2 f f2 l l2 h h2 e g =
      alike_trans x.plan x.parts M K (rw (e, g) at (like k p a n c d f l h)) (alike_sym x.plan x.parts M K (like k p a n c2 d2 f2 l2 h2))

  pub log_self : (k : ℕ) (p : Leaf k) (a n : ℕ) (c d : List ℕ) → Counts c → Leaves (kid k a n c) d → R k p d → Al (kid k a n c).log (kid k a n c).log
  log_self k p a n c d f l h = log_same k p a n c d c d f f l l h h refl refl

  pub log_off : (k : ℕ) (p : Leaf k) (a n : ℕ) (c d : List ℕ) → Counts c → Leaves (kid k a n c) d → R k p d → OffAll x.plan x.parts M K k (kid k a n c).log
  log_off k p a n c d f l h i b ne y w u = (like k p a n c d f l h).same i b y w u ∙ canon_of_off x M K body k p a n c i b w ne
