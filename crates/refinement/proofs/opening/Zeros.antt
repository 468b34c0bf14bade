-- The first zero offsets: what counters and memory are before any dictionary is joined. Assumes nothing.
use mathlib.Core.Path.{◌≡◌, refl, sym, ap, subst, ◌∙◌}
use mathlib.Core.Bool.{Bool, true, false, not, cond, ◌&&◌, false≢true}
use mathlib.Core.List.{List, [], ◌++◌}
use Prim.Native.Nat.{ℕ, zero, suc, ◌+◌, ◌≤◌, ◌<◌}
use native.Mathlib.Nat.{add-zero, add-suc, suc-add}
use native.Mathlib.Decide.{dec_lt}
use native.Mathlib.Omega.{arith}
use lib.ListN.{length, get_or, replicate}
use lib.Dec.{eqb}
use borrow.Author.Tests.{ne_eqb}
use Rattle.number.specs.Number.{encode}
use Rattle.schema.specs.formats.Code.{is_run_end}
use Rattle.walk.specs.State.{word, code_of, dictionary_of, bytes_of, rows, nulls, bytes, set_bytes}
use Rattle.walk.specs.Log.{put, Out, wrote, each}
use Rattle.refinement.specs.walk_is_model.Memory.{Memory, put_in}
use Rattle.refinement.specs.walk_is_model.Holds.{flag}
use Rattle.refinement.proofs.walk_is_model.Goes.{Quiet, quiet_done, quiet_wrote, quiet_then}
use Rattle.refinement.proofs.walk_is_model.Frame.{SameAt}
use Rattle.refinement.proofs.walk_is_model.Counters.{bytes_set, bytes_other, rows_of_bytes, nulls_of_bytes, long_bytes}
use Rattle.refinement.proofs.walk_is_model.Writes.{put_own, put_other}
use Rattle.plan.specs.parts.Parts.{copied, has_offsets}
use Rattle.refinement.specs.orders.Order.{Lent}
use Rattle.refinement.specs.opening.Open.{chosen, begin_gaps, first_offset}

-- nothing is written
abbrev pub empty : Memory
empty = record { at = λ i b. []; bits = λ i. [] }

-- steps of the walk alone, one after the other
quiet_each : (k : ℕ → List ℕ → Out) (I : ℕ → List ℕ → Memory → Type 0) (step : (r : ℕ) (c : List ℕ) (ν : Memory) → I r c ν → Quiet ν (I (suc r)) (k r c))
    (n r : ℕ) (c : List ℕ) (μ : Memory) → I r c μ → Quiet μ (I (r + n)) (each k n r c)
unfolding each
quiet_each k I step zero r c μ i = quiet_done c (rw add-zero i)
quiet_each k I step (suc n) r c μ i =
    quiet_then (λ c2. each k n (suc r) c2) (step r c μ i) (λ c2 ν j. let g = quiet_each k I step n (suc r) c2 ν j in rw (add-suc r n, ← suc-add r n) g)

-- the gap that node j begins with; 0 where it is no run-end node
abbrev pub gap_of : List ℕ → ℕ → ℕ
gap_of plan j = cond (is_run_end (code_of plan j) && chosen plan) 1 0

-- node j with no rows
pub record Fresh (plan c : List ℕ) (μ : Memory) (j : ℕ) : Type 0 where
  pub no_rows : rows c j ≡ 0
  pub no_nulls : nulls c j ≡ 0
  pub first_gap : bytes c j ≡ gap_of plan j
  pub no_bits : μ.bits j ≡ []
  pub zero_offset : has_offsets (code_of plan j) ≡ true → μ.at j 1 ≡ encode (bytes_of plan j) 0
  pub no_entries : has_offsets (code_of plan j) ≡ false → μ.at j 1 ≡ []
  pub no_data : μ.at j 2 ≡ []

pub fresh_same : (plan c c' : List ℕ) (μ μ' : Memory) (j : ℕ) → SameAt c c' μ μ' j → Fresh plan c μ j → Fresh plan c' μ' j
fresh_same plan c c' μ μ' j s f =
    record {
      no_rows = s.rows_same ∙ f.no_rows;
      no_nulls = s.nulls_same ∙ f.no_nulls;
      first_gap = s.bytes_same ∙ f.first_gap;
      no_bits = s.bits_same ∙ f.no_bits;
      zero_offset = λ e. s.at_same 1 ∙ f.zero_offset e;
      no_entries = λ e. s.at_same 1 ∙ f.no_entries e;
      no_data = s.at_same 2 ∙ f.no_data;
    }

-- a dictionary's values, where it is joined and not shared (b)
pub values_copied : (plan : List ℕ) (i : ℕ) (b : Bool) → (dictionary_of plan i ≡ 0 → ⊥) → word plan i 7 ≡ flag (not b) → b ≡ false → copied plan (suc i) ≡ true
unfolding copied
values_copied plan i b d w e = rw (ne_eqb (dictionary_of plan i) 0 d, w, e)

-- another buffer of any node
put_else : (i b : ℕ) (bs : List ℕ) (μ : Memory) (j e : ℕ) → (e ≡ b → ⊥) → (put_in i b bs μ).at j e ≡ μ.at j e
put_else i b bs μ j e h = rw (ne_eqb e b h) (go (eqb j i))
  where
    go : (z : Bool) → cond (z && false) (μ.at j e ++ bs) (μ.at j e) ≡ μ.at j e
    go true = refl
    go false = refl

pub no_counters : (n q : ℕ) → ◌≡◌ {A = ℕ} (get_or (replicate n 0) q 0) 0
no_counters zero q = refl
no_counters (suc n) zero = refl
no_counters (suc n) (suc q) = no_counters n q

-- counters of node j before any row
pub record NoRows (plan c : List ℕ) (j : ℕ) : Type 0 where
  pub rows_none : rows c j ≡ 0
  pub nulls_none : nulls c j ≡ 0
  pub gap_first : bytes c j ≡ gap_of plan j

-- the gaps of the first r nodes are set
record Gapped (plan : List ℕ) (r : ℕ) (c : List ℕ) (μ : Memory) : Type 0 where
  memory_none : μ ≡ empty
  long : length c ≡ 96
  no_rows : (j : ℕ) → rows c j ≡ 0
  no_nulls : (j : ℕ) → nulls c j ≡ 0
  early : (j : ℕ) → j < r → j < 32 → bytes c j ≡ gap_of plan j
  late : (j : ℕ) → r ≤ j → bytes c j ≡ 0

module _ (x : Lent) (r : ℕ) (c : List ℕ) (μ : Memory) (g : Gapped x.plan r c μ) where
  gap_on : is_run_end (code_of x.plan r) && chosen x.plan ≡ true → Gapped x.plan (suc r) (set_bytes r 1 c) μ
  gap_on e =
      record {
        memory_none = g.memory_none;
        long = long_bytes r 1 c ∙ g.long;
        no_rows = λ j. rows_of_bytes c r 1 j ∙ g.no_rows j;
        no_nulls = λ j. nulls_of_bytes c r 1 j ∙ g.no_nulls j;
        early = λ j l s. by_node j l s (dec_lt j r);
        late = λ j l. bytes_other c r 1 j (λ q. omega (arith, q)) ∙ g.late j (omega arith);
      }
    where
      by_node : (j : ℕ) → j < suc r → j < 32 → Dec (j < r) → bytes (set_bytes r 1 c) j ≡ gap_of x.plan j
      by_node j l s (yes y) = bytes_other c r 1 j (λ q. omega (arith, q)) ∙ g.early j y s
      by_node j l s (no y) =
          let q : r ≡ j = omega arith in
          subst (λ n. bytes (set_bytes r 1 c) n ≡ gap_of x.plan n) q (bytes_set c g.long r (omega arith) 1 ∙ sym (ap (λ b. cond b 1 0) e))

  gap_off : is_run_end (code_of x.plan r) && chosen x.plan ≡ false → Gapped x.plan (suc r) c μ
  gap_off e =
      record {
        memory_none = g.memory_none;
        long = g.long;
        no_rows = g.no_rows;
        no_nulls = g.no_nulls;
        early = λ j l s. by_node j l s (dec_lt j r);
        late = λ j l. g.late j (omega arith);
      }
    where
      by_node : (j : ℕ) → j < suc r → j < 32 → Dec (j < r) → bytes c j ≡ gap_of x.plan j
      by_node j l s (yes y) = g.early j y s
      by_node j l s (no y) =
          let q : r ≡ j = omega arith in
          subst (λ n. bytes c n ≡ gap_of x.plan n) q (g.late r (omega arith) ∙ sym (ap (λ b. cond b 1 0) e))

  gap_step : Quiet μ (Gapped x.plan (suc r)) (begin_gaps x r c)
  unfolding begin_gaps
  gap_step = go (is_run_end (code_of x.plan r) && chosen x.plan) refl
    where
      go : (b : Bool) → is_run_end (code_of x.plan r) && chosen x.plan ≡ b
          → Quiet μ (Gapped x.plan (suc r)) (cond b (Rattle.walk.specs.Log.done (set_bytes r 1 c)) (Rattle.walk.specs.Log.done c))
      go true e = quiet_done (set_bytes r 1 c) (gap_on e)
      go false e = quiet_done c (gap_off e)

-- THE FIRST GAPS: nothing is written, and no node has rows
pub gaps_go : (x : Lent) (c : List ℕ) → length c ≡ 96 → ((q : ℕ) → get_or c q 0 ≡ 0) → (n : ℕ) → n ≤ 32
    → Quiet empty (λ c' μ. (μ ≡ empty) × (length c' ≡ 96) × ((j : ℕ) → j < n → NoRows x.plan c' j)) (each (begin_gaps x) n 0 c)
gaps_go x c long none n few =
    let q = quiet_each (begin_gaps x) (Gapped x.plan) (λ r c' μ g. gap_step x r c' μ g) n 0 c empty
    (record { memory_none = refl; long = long; no_rows = λ j. none _; no_nulls = λ j. none _; early = λ j l. absurd (omega arith); late = λ j l. none _ }) in
    record { is_done = q.is_done; in_place = q.in_place; leaves = (q.leaves.memory_none, q.leaves.long, λ j l. rest q.leaves j l) }
  where
    rest : {c' : List ℕ} {μ : Memory} → Gapped x.plan (0 + n) c' μ → (j : ℕ) → j < n → NoRows x.plan c' j
    rest g j l = record { rows_none = g.no_rows j; nulls_none = g.no_nulls j; gap_first = g.early j (omega arith) (omega arith) }

module _ (x : Lent) (c : List ℕ) where
  -- the first r nodes have their zero offsets
  record Zeroed (r : ℕ) (c' : List ℕ) (μ : Memory) : Type 0 where
    counters_are : c' ≡ c
    bits_none : (j : ℕ) → μ.bits j ≡ []
    first : (j : ℕ) → j < r → has_offsets (code_of x.plan j) ≡ true → copied x.plan j ≡ true → μ.at j 1 ≡ encode (bytes_of x.plan j) 0
    later : (j : ℕ) → r ≤ j → μ.at j 1 ≡ []
    other : (j : ℕ) → has_offsets (code_of x.plan j) ≡ false → μ.at j 1 ≡ []
    second : (j : ℕ) → μ.at j 2 ≡ []

  module _ (r : ℕ) (c' : List ℕ) (μ : Memory) (z : Zeroed r c' μ) where
    abbrev bs : List ℕ
    bs = encode (bytes_of x.plan r) 0

    put_apart : (j : ℕ) → (j ≡ r → ⊥) → (put_in r 1 bs μ).at j 1 ≡ μ.at j 1
    put_apart j h = (put_other r 1 bs μ c' j h).at_same 1

    put_here : (put_in r 1 bs μ).at r 1 ≡ bs
    put_here = put_own r 1 bs μ ∙ ap (◌++ bs) (z.later r (omega arith))

    written : has_offsets (code_of x.plan r) ≡ true → Zeroed (suc r) c' (put_in r 1 bs μ)
    written s =
        record {
          counters_are = z.counters_are;
          bits_none = z.bits_none;
          first = λ j l e f. by_node j l e f (dec_lt j r);
          later = λ j l. put_apart j (λ e. omega (arith, e)) ∙ z.later j (omega arith);
          other = λ j e. put_apart j (λ q. false≢true (sym e ∙ ap (λ n. has_offsets (code_of x.plan n)) q ∙ s)) ∙ z.other j e;
          second = λ j. put_else r 1 bs μ j 2 (λ e. omega (arith, e)) ∙ z.second j;
        }
      where
        by_node : (j : ℕ) → j < suc r → has_offsets (code_of x.plan j) ≡ true → copied x.plan j ≡ true → Dec (j < r)
            → (put_in r 1 bs μ).at j 1 ≡ encode (bytes_of x.plan j) 0
        by_node j l e f (yes y) = put_apart j (λ q. omega (arith, q)) ∙ z.first j y e f
        by_node j l e f (no y) = let q : r ≡ j = omega arith in subst (λ n. (put_in r 1 bs μ).at n 1 ≡ encode (bytes_of x.plan n) 0) q put_here

    kept : has_offsets (code_of x.plan r) && copied x.plan r ≡ false → Zeroed (suc r) c' μ
    kept s =
        record {
          counters_are = z.counters_are;
          bits_none = z.bits_none;
          first = λ j l e f. by_node j l e f (dec_lt j r);
          later = λ j l. z.later j (omega arith);
          other = z.other;
          second = z.second;
        }
      where
        by_node : (j : ℕ) → j < suc r → has_offsets (code_of x.plan j) ≡ true → copied x.plan j ≡ true → Dec (j < r) → μ.at j 1 ≡ encode (bytes_of x.plan j) 0
        by_node j l e f (yes y) = z.first j y e f
        by_node j l e f (no y) =
            let q : j ≡ r = omega arith in
            let g : true ≡ false = sym (rw (e, f)) ∙ ap (λ n. has_offsets (code_of x.plan n) && copied x.plan n) q ∙ s in
            absurd (false≢true (sym g))

    zero_step : Quiet μ (Zeroed (suc r)) (first_offset x r c')
    unfolding first_offset
    zero_step = go (has_offsets (code_of x.plan r)) refl (copied x.plan r) refl
      where
        go : (a : Bool) → has_offsets (code_of x.plan r) ≡ a → (b : Bool) → copied x.plan r ≡ b
            → Quiet μ (Zeroed (suc r)) (cond (a && b) (wrote (put r 1 0 bs) c') (Rattle.walk.specs.Log.done c'))
        go true e true f = quiet_wrote (put r 1 0 bs) c' (ap length (sym (z.later r (omega arith)))) (written e)
        go true e false f = quiet_done c' (kept (rw (e, f)))
        go false e b f = quiet_done c' (kept (rw e))

  -- THE FIRST OFFSETS: the counters stay, and every node that is copied has no rows
  pub zeros_go : (n : ℕ) → ((j : ℕ) → j < n → NoRows x.plan c j)
      → Quiet empty (λ c' μ. (c' ≡ c) × ((j : ℕ) → j < n → copied x.plan j ≡ true → Fresh x.plan c' μ j)) (each (first_offset x) n 0 c)
  zeros_go n none =
      let q = quiet_each (first_offset x) Zeroed (λ r c' μ z. zero_step r c' μ z) n 0 c empty
      (record { counters_are = refl; bits_none = λ j. refl; first = λ j l. absurd (omega arith); later = λ j l. refl; other = λ j e. refl; second = λ j. refl }) in
      record { is_done = q.is_done; in_place = q.in_place; leaves = (q.leaves.counters_are, λ j l f. fresh q.leaves j l f) }
    where
      fresh : {c' : List ℕ} {μ : Memory} → Zeroed (0 + n) c' μ → (j : ℕ) → j < n → copied x.plan j ≡ true → Fresh x.plan c' μ j
      fresh z j l f =
          let e = z.counters_are in
          record {
            no_rows = ap (λ s. rows s j) e ∙ (none j l).rows_none;
            no_nulls = ap (λ s. nulls s j) e ∙ (none j l).nulls_none;
            first_gap = ap (λ s. bytes s j) e ∙ (none j l).gap_first;
            no_bits = z.bits_none j;
            zero_offset = λ s. z.first j (omega arith) s f;
            no_entries = z.other j;
            no_data = z.second j;
          }
