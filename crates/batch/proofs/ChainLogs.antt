-- A child that is a chain of list-views with a node without children at its end: what stretches ask of its logs. Assumes nothing.
use mathlib.Core.Path.{◌≡◌}
use mathlib.Core.Bool.{true}
use mathlib.Core.List.{List}
use mathlib.Core.Logic.{◌⊎◌, inl, inr}
use Prim.Native.Nat.{ℕ, zero, suc, ◌*◌, ◌≤◌, ◌<◌}
use native.Mathlib.Nat.{mul-le-mul_left}
use native.Mathlib.Omega.{arith}
use lib.Dec.{leb}
use borrow.Author.Tests.{leb-true}
use Rattle.bits.proofs.Laws.{Below}
use Rattle.walk.specs.State.{Join, code_of, bytes_of, rows, bytes, top}
use Rattle.walk.specs.Log.{Out}
use Rattle.walk.specs.Copy.{Walk, copy_node, copy_walk}
use Rattle.plan.specs.parts.Parts.{needed_by, size_of, parts_hold, parts_within, Used}
use Rattle.plan.proofs.parts.Placed.{within_used, used_holds, bits_held}
use Rattle.refinement.proofs.orders.Buffers.{needed_chars, needed_starts, needed_sizes}
use Rattle.batch.specs.Batch.{is_leaf, owned, batch_leaf, batch_node, batch_below}
use Rattle.batch.proofs.Stretches.{and_left, and_right, Cuts}
use Rattle.batch.proofs.LeafCuts.{good, leaf_cuts}
use Rattle.batch.proofs.LeafLogs.{Roomy, roomy_like, L}
use Rattle.batch.proofs.LeafCutLogs.{leaf_cut_logs}
use Rattle.batch.proofs.StretchLogs.{CutLogs}
use Rattle.batch.proofs.Owned.{one_buffer, string_buffers, list_buffers, list_width_some, byte_a_row, used_one, used_two, used_bits}
use Rattle.batch.proofs.Nested.{Lies, view_cuts}
use Rattle.batch.proofs.NestedLogs.{Holds, view_cut_logs}
use Rattle.batch.proofs.Chains.{Leaf, View, Chain, leaf_below, view_below, cuts_as}

module _ (x : Join) (M : ℕ) (body : Below 256 x.body) (less : M < top) (inside : parts_within x.plan x.parts M ≡ true) where
  abbrev S : List ℕ
  S = x.plan

  -- a part lies in the room
  pub in_room_lem : (i b : ℕ) → Used S i b → size_of S x.parts i b ≤ M
  in_room_lem i b u = let g = (within_used S x.parts M inside i b u).1 in omega arith

  -- what the parts hold, a leaf's parts hold
  module _ (k : ℕ) (leaf : is_leaf (code_of S k) ≡ true) (own : owned S k ≡ true) (c : List ℕ) (hold : parts_hold S c x.parts ≡ true) where
    low : 1 ≤ code_of S k
    low = leb-true 1 (code_of S k) (and_left _ (leb (code_of S k) 16) leaf)

    high : code_of S k ≤ 16
    high = leb-true (code_of S k) 16 (and_right (leb 1 (code_of S k)) _ leaf)

    u1 : Used S k 1
    u1 = used_one S k own (one_buffer (code_of S k) low (let h = high in omega arith))

    pub leaf_roomy : Roomy x M (Used S) body k leaf c
    leaf_roomy =
        let e = (L x M (Used S) body k leaf).base_is (rows c k) (bytes c k) in
        let h : needed_by (code_of S k) (rows c k) (bytes c k) 1 ≤ size_of S x.parts k 1 = used_holds S c x.parts hold k 1 u1 in
        let r = byte_a_row (code_of S k) (rows c k) (bytes c k) leaf in
        let g = in_room_lem k 1 u1 in
        record {
          under = omega arith;
          ones = (u1, omega arith);
          bits = λ t. let u = used_bits S k own t (let y = high in omega arith) in (u, bits_held S c x.parts hold k u);
          chars = λ t.
              let u = used_two S k own (string_buffers (code_of S k) t) in
              let v : needed_by (code_of S k) (rows c k) (bytes c k) 2 ≤ size_of S x.parts k 2 = used_holds S c x.parts hold k 2 u in
              (u, rw (needed_chars (code_of S k) (rows c k) (bytes c k) t) at v);
        }

    pub roomy_same : (d : List ℕ) → rows c k ≡ rows d k → bytes c k ≡ bytes d k → Roomy x M (Used S) body k leaf d
    roomy_same d e g = roomy_like x M (Used S) body k leaf c d e g leaf_roomy

  -- what is asked of a child's answers and logs; the parts of a room hold what it writes
  pub record Logging (k : ℕ) (below kid : ℕ → ℕ → List ℕ → Out) : Type 1 where
    pub good : ℕ → ℕ → List ℕ → Type 0
    pub roomy : List ℕ → Type 0
    pub cuts : Cuts k good below kid
    pub logs : CutLogs S x.parts M (Used S) k roomy good below kid
    pub holds : (c : List ℕ) → parts_hold S c x.parts ≡ true → roomy c

  logs_as : (k : ℕ) (roomy : List ℕ → Type 0) (good : ℕ → ℕ → List ℕ → Type 0) (below other kid : ℕ → ℕ → List ℕ → Out) → ((a n : ℕ) (c : List ℕ) → other a n c ≡ below a n c)
      → CutLogs S x.parts M (Used S) k roomy good below kid → CutLogs S x.parts M (Used S) k roomy good other kid
  logs_as k roomy good below other kid e q =
      record {
        same_log = λ a n c f h y. rw (e a n c) (q.same_log a n c f (rw (e a n c) at h) (rw (e a n c) at y));
        self = q.self;
        before = q.before;
        cut_log = q.cut_log;
        none_log = q.none_log;
        off = q.off;
        frame_log = q.frame_log;
        less = q.less;
      }

  logging_as : (k : ℕ) (below other kid : ℕ → ℕ → List ℕ → Out) → ((a n : ℕ) (c : List ℕ) → other a n c ≡ below a n c) → Logging k below kid → Logging k other kid
  logging_as k below other kid e q =
      record {
        good = q.good;
        roomy = q.roomy;
        cuts = cuts_as x k q.good below other kid e q.cuts;
        logs = logs_as k q.roomy q.good below other kid e q.logs;
        holds = q.holds;
      }

  leaf_logging : (k : ℕ) (h : Leaf x k) → owned S k ≡ true → (child : Walk) → Logging k (λ a n c. batch_leaf x k a n c) (λ a n c. copy_node x child k a n c)
  leaf_logging k h own child =
      record {
        good = good x k h;
        roomy = Roomy x M (Used S) body k h;
        cuts = leaf_cuts x k h child;
        logs = leaf_cut_logs x M (Used S) body k h child;
        holds = λ c hold. leaf_roomy k h own c hold;
      }

  module _ (k : ℕ) (v : View x k) (below child : Walk) (q : Logging (suc k) (λ a n c. below (suc k) a n c) (λ a n c. child (suc k) a n c)) where
    v1 : Used S k 1
    v1 = used_one S k v.own (let b = list_buffers (code_of S k) v.is in omega arith)

    v2 : Used S k 2
    v2 = used_two S k v.own (list_buffers (code_of S k) v.is)

    abbrev Held : List ℕ → Type 0
    Held c = Holds x M (Used S) k v.is v.plain child below q.good q.roomy q.cuts q.logs v1 v2 body c

    view_holds : (c : List ℕ) → parts_hold S c x.parts ≡ true → Held c
    view_holds c hold =
        let a : needed_by (code_of S k) (rows c k) (bytes c k) 1 ≤ size_of S x.parts k 1 = used_holds S c x.parts hold k 1 v1 in
        let b : needed_by (code_of S k) (rows c k) (bytes c k) 2 ≤ size_of S x.parts k 2 = used_holds S c x.parts hold k 2 v2 in
        let s : rows c k * bytes_of S k ≤ size_of S x.parts k 1 = rw (needed_starts (code_of S k) (rows c k) (bytes c k) v.is) at a in
        let w : rows c k * 1 ≤ rows c k * bytes_of S k = mul-le-mul_left (rows c k) (list_width_some (code_of S k) v.is) in
        let g = in_room_lem k 1 v1 in
        record { under = omega arith; one = s; two = rw (needed_sizes (code_of S k) (rows c k) (bytes c k) v.is) at b; kids = q.holds c hold }

    view_logging : Logging k (λ a n c. batch_node x below k a n c) (λ a n c. copy_node x child k a n c)
    view_logging =
        record {
          good = λ a n c. Lies x k v.is v.plain a n;
          roomy = Held;
          cuts = view_cuts x k v.is v.plain child below q.good q.cuts;
          logs = view_cut_logs x M (Used S) k v.is v.plain child below q.good q.roomy q.cuts q.logs v1 v2 body;
          holds = view_holds;
        }

  pub chain_logs : (depth k : ℕ) → Chain x depth k → owned S k ≡ true → Logging k (λ a n c. batch_below x depth k a n c) (λ a n c. copy_walk x (suc depth) k a n c)
  unfolding Chain batch_below copy_walk
  chain_logs zero k h own = leaf_logging k h own (copy_walk x 0)
  chain_logs (suc depth) k h own = go (λ h own. chain_logs depth (suc k) h own) h
    where
      go : (Chain x depth (suc k) → owned S (suc k) ≡ true → Logging (suc k) (λ a n c. batch_below x depth (suc k) a n c) (λ a n c. copy_walk x (suc depth) (suc k) a n c)) → Leaf x k ⊎ (View x k × Chain x depth (suc k))
          → Logging k (λ a n c. batch_below x (suc depth) k a n c) (λ a n c. copy_node x (copy_walk x (suc depth)) k a n c)
      go ih (inl h) =
          logging_as k (λ a n c. batch_leaf x k a n c) (λ a n c. batch_below x (suc depth) k a n c) (λ a n c. copy_node x (copy_walk x (suc depth)) k a n c) (λ a n c. leaf_below x depth k a n c h)
          (leaf_logging k h own (copy_walk x (suc depth)))
      go ih (inr v) =
          logging_as k (λ a n c. batch_node x (batch_below x depth) k a n c) (λ a n c. batch_below x (suc depth) k a n c) (λ a n c. copy_node x (copy_walk x (suc depth)) k a n c) (λ a n c. view_below x depth k a n c v.0)
          (view_logging k v.0 (batch_below x depth) (copy_walk x (suc depth)) (ih v.1 v.0.kid))
