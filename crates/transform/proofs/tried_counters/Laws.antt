-- Counters of the plan's nodes, copied, and those of others, which a walk leaves. Assumes nothing.
use mathlib.Core.Path.{◌≡◌, refl, sym, ap, subst, ◌∙◌}
use mathlib.Core.Bool.{Bool, true, false}
use mathlib.Core.List.{List, [], ◌∷◌}
use Prim.Native.Nat.{ℕ, zero, suc, ◌+◌, ◌*◌, ◌<◌, ◌≤◌}
use native.Mathlib.Omega.{arith}
use lib.ListN.{length, get_or, set}
use lib.Dec.{leb, ltb}
use lib.Seq.{get_or-set_other, ext_get_or}
use borrow.Author.Tests.{ltb-true, ltb-false}
use Rattle.array_data.proofs.lent_tables.Laws.{and_right}
use Rattle.walk.specs.State.{Join, top}
use Rattle.walk.specs.Copy.{copy_walk}
use Rattle.walk.specs.Nulls.{null_walk}
use Rattle.columns.specs.Grounds.{ceiling}
use Rattle.plan.specs.parts.Parts.{nodes_of}
use Rattle.sound.specs.trying.Alike.{Alike}
use Rattle.sound.proofs.trying.Laws.{Filled, filled_none, filled_more}
use Rattle.refinement.specs.orders.Sound.{plan_sound, walkable}
use Rattle.refinement.proofs.orders.Sound.{root_reached, closed_nodes}
use Rattle.refinement.proofs.orders.Still.{Same, still_copies, still_nulls}
use Rattle.transform.specs.tried_counters.Beyond.{Beyond}
use Rattle.transform.proofs.Long.{long_copy, long_nulls}

-- past the counters of all nodes there are none
none_past : (c : List ℕ) (k : ℕ) → length c ≤ k → get_or c k 0 ≡ 0
none_past [] k h = refl
none_past (v ∷ c) zero h = absurd (omega arith)
none_past (v ∷ c) (suc k) h = none_past c k (omega arith)

pub beyond_all : (c d : List ℕ) → length c ≡ 96 → length d ≡ 96 → Beyond 32 c d
beyond_all c d k l = λ j q. none_past c j (omega (arith, k, q)) ∙ sym (none_past d j (omega (arith, l, q)))

-- ---- nulls that are full

abbrev pub Full : List ℕ → List ℕ → ℕ → ℕ → Type 0
Full counters tally n i = (Filled counters tally i) × (Beyond n tally counters)

pub full_none : (counters tally : List ℕ) (n : ℕ) → tally ≡ counters → Full counters tally n 0
full_none counters tally n e = subst (λ z. Full counters z n 0) (sym e) (filled_none counters, λ j q. refl)

pub full_more : (counters tally : List ℕ) (n i : ℕ) → n ≤ 32 → i < n → Full counters tally n i → Full counters (set tally (3 * i + 1) top) n (i + 1)
full_more counters tally n i l h f = (filled_more counters tally i (omega arith) f.0, λ j q. get_or-set_other tally (3 * i + 1) j top 0 (λ (z : j ≡ 3 * i + 1). omega arith) ∙ f.1 j q)

-- ---- a walk leaves the counters behind those of the plan's nodes

-- a counter is a node's rows, nulls or bytes
data Third (k : ℕ) : Type 0 where
  of_rows : (j : ℕ) → k ≡ 3 * j → Third k
  of_nulls : (j : ℕ) → k ≡ 3 * j + 1 → Third k
  of_bytes : (j : ℕ) → k ≡ 3 * j + 2 → Third k

third : (k : ℕ) → Third k
third zero = of_rows 0 refl
third (suc k) = more (third k)
  where
    more : Third k → Third (suc k)
    more (of_rows j e) = of_nulls j (omega arith)
    more (of_nulls j e) = of_bytes j (omega arith)
    more (of_bytes j e) = of_rows (suc j) (omega arith)

same_beyond : (n : ℕ) (c d : List ℕ) → ((j : ℕ) → n ≤ j → Same j c d) → Beyond n d c
same_beyond n c d h k q = go (third k)
  where
    go : Third k → get_or d k 0 ≡ get_or c k 0
    go (of_rows j e) = subst (λ z. get_or d z 0 ≡ get_or c z 0) (sym e) (h j (omega arith)).rows_same
    go (of_nulls j e) = subst (λ z. get_or d z 0 ≡ get_or c z 0) (sym e) (h j (omega arith)).nulls_same
    go (of_bytes j e) = subst (λ z. get_or d z 0 ≡ get_or c z 0) (sym e) (h j (omega arith)).bytes_same

module _ (x : Join) (m : ℕ) (w : walkable x.plan m ≡ true) (k : ℕ) (e : k ≡ nodes_of x.plan) where
  sound : plan_sound x.plan ≡ true
  unfolding walkable
  sound = and_right (leb m ceiling) _ w

  copy_beyond : (a n : ℕ) (c : List ℕ) → Beyond k (copy_walk x 8 0 a n c).counters c
  copy_beyond a n c =
      subst (λ z. Beyond z (copy_walk x 8 0 a n c).counters c) (sym e)
      (same_beyond (nodes_of x.plan) c _
      (λ j q. still_copies j x (λ k. k < nodes_of x.plan) (λ k. k < nodes_of x.plan) (closed_nodes x.plan sound) (λ (l : j < nodes_of x.plan). omega arith) 8 0 a n c (root_reached x.plan sound).0))

  null_beyond : (n : ℕ) (c : List ℕ) → Beyond k (null_walk x 8 0 n c).counters c
  null_beyond n c =
      subst (λ z. Beyond z (null_walk x 8 0 n c).counters c) (sym e)
      (same_beyond (nodes_of x.plan) c _
      (λ j q. still_nulls j x (λ k. k < nodes_of x.plan) (λ k. k < nodes_of x.plan) (closed_nodes x.plan sound) (λ (l : j < nodes_of x.plan). omega arith) 8 0 n c (root_reached x.plan sound).0))

  -- what a copy leaves, c1, of counters c0 that were lent as d
  pub copy_tried : (a n : ℕ) (c0 c1 d : List ℕ) → Beyond k c0 d → c1 ≡ (copy_walk x 8 0 a n c0).counters → Beyond k c1 d
  copy_tried a n c0 c1 d h q = subst (λ z. Beyond k z d) (sym q) (λ j l. copy_beyond a n c0 j l ∙ h j l)

  pub copy_made : (a n : ℕ) (c0 c1 d : List ℕ) → c0 ≡ d → c1 ≡ (copy_walk x 8 0 a n c0).counters → Beyond k d c1
  copy_made a n c0 c1 d h q = λ j l. sym (copy_tried a n c0 c1 d (λ j l. ap (λ z. get_or z j 0) h) q j l)

  -- .. and nulls
  pub null_tried : (n : ℕ) (c0 c1 d : List ℕ) → c0 ≡ d → c1 ≡ (null_walk x 8 0 n c0).counters → Beyond k c1 d
  null_tried n c0 c1 d h q = subst (λ z. Beyond k z d) (sym q) (λ j l. null_beyond n c0 j l ∙ ap (λ z. get_or z j 0) h)

  pub null_made : (n : ℕ) (c0 c1 d : List ℕ) → c0 ≡ d → c1 ≡ (null_walk x 8 0 n c0).counters → Beyond k d c1
  null_made n c0 c1 d h q = λ j l. sym (null_tried n c0 c1 d h q j l)

-- .. and as many as there were
module _ (x : Join) where
  pub copy_long : (a n : ℕ) (c0 c1 : List ℕ) → length c0 ≡ 96 → c1 ≡ (copy_walk x 8 0 a n c0).counters → length c1 ≡ 96
  copy_long a n c0 c1 h q = ap length q ∙ (long_copy x 8 0 a n {c = c0} (record { size = h })).left.size

  pub null_long : (n : ℕ) (c0 c1 : List ℕ) → length c0 ≡ 96 → c1 ≡ (null_walk x 8 0 n c0).counters → length c1 ≡ 96
  null_long n c0 c1 h q = ap length q ∙ (long_nulls x 8 0 n {c = c0} (record { size = h })).left.size
