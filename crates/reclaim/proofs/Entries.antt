-- The entries in use, copied run by run: the walk goes with the model's copies, which are never refused. Assumes nothing.
use mathlib.Core.Path.{◌≡◌, refl, sym, ap, subst, ◌∙◌}
use mathlib.Core.Bool.{Bool, true, false, not}
use mathlib.Core.List.{List}
use Prim.Native.Nat.{ℕ, zero, suc, ◌+◌, ◌-◌, ◌≤◌, ◌<◌, min, max}
use native.Mathlib.Omega.{arith}
use lib.ListN.{length}
use lib.Dec.{ltb, eqb}
use borrow.Author.Tests.{ne_eqb, eqb-true, eqb-false, lt-ltb, le-ltb}
use Rattle.columnar.specs.Types.{Plain, t_plain}
use Rattle.columnar.specs.Formed.{FormedPlain}
use Rattle.columnar.specs.Array.{Array, Obeys, null_count_of}
use Rattle.columnar.specs.Plain.{PlainBody, PlainRule}
use Rattle.model.specs.Try.{Try, done}
use Rattle.model.specs.Mutable.{Mutable, extend_node, start_node}
use Rattle.model.specs.Primitive.{plain_extend, plain_start}
use Rattle.model.proofs.CutTries.{done_is}
use Rattle.model.proofs.Law.{Fine}
use Rattle.model.proofs.Nodes.{kind_of}
use Rattle.model.proofs.Start.{start_plain}
use Rattle.walk.specs.State.{Join, dictionary_of, end_of, keeps_of, far}
use Rattle.walk.specs.Log.{Out}
use Rattle.walk.specs.Copy.{copy_walk}
use Rattle.refinement.specs.walk_is_model.Memory.{Memory, after}
use Rattle.refinement.specs.walk_is_model.Holds.{flag, WordedPlain, Holds}
use Rattle.refinement.specs.walk_is_model.Lent.{LentNode, LentPlain}
use Rattle.refinement.proofs.walk_is_model.Goes.{Goes, good, over, Quiet, quiet_done, quiet_then}
use Rattle.refinement.proofs.walk_is_model.Frame.{Kept, kept_refl, kept_then}
use Rattle.refinement.proofs.walk_is_model.Types.{Opened, copies}
use Rattle.refinement.proofs.opening.Zeros.{Fresh}
use Rattle.refinement.proofs.opening.Starts.{start_values}
use Rattle.anew.specs.runs.Runs.{those}
use Rattle.anew.proofs.runs.Those.{those_split}
use Rattle.anew.specs.entries.Reclaimed.{copy_each, fresh_node}
use Rattle.reclaim.specs.used_entries.Keys.{used}
use Rattle.reclaim.specs.reclaim_walk.Walk.{keys_of, run_of, copy_run, copy_runs, copy_blocks}
use Rattle.reclaim.proofs.reclaim_walk.Runs.{runs_open, blocks_open}
use Rattle.reclaim.proofs.Runs.{stretch, order, order_fine, each_cut, whole_run, run_within, run_those}

some_null : (n : ℕ) → not (eqb n 0) ≡ ltb 0 n
some_null n = go (eqb n 0) refl
  where
    go : (b : Bool) → eqb n 0 ≡ b → not b ≡ ltb 0 n
    go true e = sym (le-ltb 0 n (omega (arith, eqb-true n 0 e)))
    go false e = sym (lt-ltb 0 n (omega (arith, eqb-false n 0 e)))

-- the model is done, so the walk is
pub goes_out : {A : Type 0} {μ : Memory} {Q : A → List ℕ → Memory → Type 0} {t : Try A} {o : Out} → Goes μ Q t o → (x : A) → t ≡ done x → Quiet μ (Q x) o
goes_out {μ = μ} {Q} (good z o e p q) x h = let w : z ≡ x = cc h in record { is_done = e; in_place = p; leaves = subst (λ a. Q a o.counters (after o.log μ)) w q }
goes_out (over g o e p) x h = absurd (let z : ◌≡◌ {A = ℕ} 0 1 = cc h in omega arith)

module _ (y : Join) (p : Plain) (v : Array (PlainBody p)) (source_is : y.source ≡ 0) (worded : WordedPlain y.plan p 1) (no_keys : dictionary_of y.plan 1 ≡ 0) (ends : end_of y.plan 1 ≡ 2)
    (lent : LentNode y 1 (LentPlain y p 1) v) (formed : FormedPlain p) (obey : Obeys true (PlainRule p) v) where
  abbrev vs : ℕ → Array (PlainBody p)
  vs j = v

  abbrev FineEntries : Mutable (PlainBody p) → Type 0
  FineEntries d = Fine (kind_of (t_plain p) 1 (λ j. v.body)) 1 vs d

  opened : Opened y 1 (t_plain p) 1 1 vs
  opened =
      record {
        worded = (omega arith, omega (arith, ends), no_keys, worded);
        formed = formed;
        known = omega (arith, source_is);
        lent = lent;
        based = tt;
        obey = λ j l. obey;
        ready = tt;
      }

  -- at most r entries are copied; c and μ are what was before the first
  pub record Copied (c : List ℕ) (μ : Memory) (r : ℕ) (d : Mutable (PlainBody p)) (c' : List ℕ) (μ' : Memory) : Type 0 where
    pub fine : FineEntries d
    pub few : d.len ≤ r
    pub holds : Holds y.plan (t_plain p) 1 d c' μ'
    pub kept : Kept 1 2 c c' μ μ'
    pub long : length c' ≡ 96

  module _ (c : List ℕ) (μ : Memory) where
    copied_more : (r s : ℕ) (d : Mutable (PlainBody p)) (c2 : List ℕ) (ν : Memory) → r ≤ s → Copied c μ r d c2 ν → Copied c μ s d c2 ν
    copied_more r s d c2 ν l k = record { fine = k.fine; few = omega (arith, k.few); holds = k.holds; kept = k.kept; long = k.long }

    -- a run of k entries from e on
    order_step_lem : (e k : ℕ) (d D : Mutable (PlainBody p)) (c2 : List ℕ) (ν : Memory) → e + suc k ≤ v.len → v.len < far → Copied c μ e d c2 ν → order p v obey e (suc k) d ≡ done D
        → Quiet ν (Copied c μ (e + suc k) D) (copy_walk y 1 1 e (suc k) c2)
    order_step_lem e k d D c2 ν l f h q =
        let o = order_fine p v obey e (suc k) d D l h.fine q in
        let g = goes_out (subst (λ s. Goes ν (λ d' c' μ'. Holds y.plan (t_plain p) 1 d' c' μ' × Kept 1 (end_of y.plan 1) c2 c' ν μ') (extend_node true (λ ss j. plain_extend p (ss j)) vs s e (suc k) d) (copy_walk y 1 1 e (suc k) c2)) source_is (copies y 1 1 (t_plain p) 1 vs opened e (suc k) d c2 ν (omega arith) h.fine (omega (arith, h.few)) h.long h.holds)) D q in
        record {
          is_done = g.is_done;
          in_place = g.in_place;
          leaves =
              record {
                fine = o.0;
                few = omega (arith, o.1, h.few);
                holds = g.leaves.0;
                kept = kept_then h.kept (subst (λ z. Kept 1 z c2 (copy_walk y 1 1 e (suc k) c2).counters ν (after (copy_walk y 1 1 e (suc k) c2).log ν)) ends g.leaves.1);
                long = g.leaves.1.long ∙ h.long;
              };
        }

    run_step : (e k : ℕ) (d D : Mutable (PlainBody p)) (c2 : List ℕ) (ν : Memory) → e + k ≤ v.len → v.len < far → Copied c μ e d c2 ν → copy_each p v (stretch e k) d ≡ done D
        → Quiet ν (Copied c μ (e + k) D) (copy_run y e k c2)
    unfolding copy_run
    run_step e zero d D c2 ν l f h q = quiet_done c2 (subst (λ z. Copied c μ (e + 0) z c2 ν) (done_is q) (copied_more e (e + 0) d c2 ν (omega arith) h))
    run_step e (suc k) d D c2 ν l f h q = rw (ne_eqb (suc k) 0 (λ z. omega (arith, z))) (order_step_lem e k d D c2 ν l f h (whole_run p v obey k e d D l h.fine q))

    -- the n entries from e on, by a walk
    abbrev Steps : (ℕ → ℕ → List ℕ → Out) → ℕ → Type 0
    Steps walk n =
        (e : ℕ) (d D : Mutable (PlainBody p)) (c2 : List ℕ) (ν : Memory) → e + n ≤ v.len → v.len < far → Copied c μ e d c2 ν → copy_each p v (those (used (keys_of y)) e n) d ≡ done D
        → Quiet ν (Copied c μ (e + n) D) (walk n e c2)

    -- .. run by run
    runs_at_lem : (n : ℕ) → ((m : ℕ) → m < n → Steps (λ n e. copy_runs y n e n) m) → Steps (λ n e. copy_runs y n e n) n
    unfolding copy_runs
    runs_at_lem zero i e d D c2 ν l f h q = quiet_done c2 (subst (λ z. Copied c μ (e + 0) z c2 ν) (done_is q) (copied_more e (e + 0) d c2 ν (omega arith) h))
    runs_at_lem (suc n) i e d D c2 ν l f h q =
        let k = run_of y e (suc n) in
        let s = max k 1 in
        let w = run_within y (suc n) e in
        let t = each_cut p v obey (stretch e k) (those (used (keys_of y)) (e + s) (suc n - s)) d D (ap (λ es. copy_each p v es d) (sym (run_those y n e)) ∙ q) in
        let z : e + s + (suc n - s) ≡ e + suc n = omega (arith, w) in
        subst (Quiet ν (Copied c μ (e + suc n) D)) (sym (runs_open y (suc n) e c2 (omega arith)))
        (quiet_then _ (run_step e k d t.mid c2 ν (omega (arith, w)) f h t.one)
        (λ c3 ξ g. subst (λ j. Quiet ξ (Copied c μ j D) (copy_runs y (suc n - s) (e + s) (suc n - s) c3)) z
        (i (suc n - s) (omega arith) (e + s) t.mid D c3 ξ (omega (arith, w)) f (copied_more (e + k) (e + s) t.mid c3 ξ (omega arith) g) t.two)))

    runs_step_lem : (m n : ℕ) → n ≤ m → Steps (λ n e. copy_runs y n e n) n
    runs_step_lem zero n b = runs_at_lem n (λ m l. absurd (omega arith))
    runs_step_lem (suc m) n b = runs_at_lem n (λ j l. runs_step_lem m j (omega arith))

    -- .. block by block
    blocks_at : (n : ℕ) → ((m : ℕ) → m < n → Steps (λ n e. copy_blocks y n e n) m) → Steps (λ n e. copy_blocks y n e n) n
    unfolding copy_blocks
    blocks_at zero i e d D c2 ν l f h q = quiet_done c2 (subst (λ z. Copied c μ (e + 0) z c2 ν) (done_is q) (copied_more e (e + 0) d c2 ν (omega arith) h))
    blocks_at (suc n) i e d D c2 ν l f h q =
        let s = min (suc n) 512 in
        let w : suc n ≡ s + (suc n - s) = omega arith in
        let t = each_cut p v obey (those (used (keys_of y)) e s) (those (used (keys_of y)) (e + s) (suc n - s)) d D (ap (λ es. copy_each p v es d) (sym (ap (those (used (keys_of y)) e) w ∙ those_split (used (keys_of y)) s (suc n - s) e)) ∙ q) in
        let z : e + s + (suc n - s) ≡ e + suc n = omega arith in
        subst (Quiet ν (Copied c μ (e + suc n) D)) (sym (blocks_open y (suc n) e c2 (omega arith)))
        (quiet_then _ (runs_step_lem s s (omega arith) e d t.mid c2 ν (omega arith) f h t.one)
        (λ c3 ξ g. subst (λ j. Quiet ξ (Copied c μ j D) (copy_blocks y (suc n - s) (e + s) (suc n - s) c3)) z (i (suc n - s) (omega arith) (e + s) t.mid D c3 ξ (omega arith) f g t.two)))

    -- THE ENTRIES e, e + 1, .., n of them, of which those in use are copied
    pub entries_go : (m n : ℕ) → n ≤ m → Steps (λ n e. copy_blocks y n e n) n
    entries_go zero n b = blocks_at n (λ m l. absurd (omega arith))
    entries_go (suc m) n b = blocks_at n (λ j l. entries_go m j (omega arith))

    -- before the first
    pub begin : length c ≡ 96 → Fresh y.plan c μ 1 → keeps_of y.plan 1 ≡ flag (ltb 0 (null_count_of v)) → Copied c μ 0 (fresh_node p v) c μ
    begin long f e =
        record {
          fine = subst (λ (b : Bool). FineEntries (start_node b (plain_start p))) (some_null (null_count_of v)) (start_plain p false 1 vs formed);
          few = omega arith;
          holds = start_values y.plan c μ p 1 (ltb 0 (null_count_of v)) worded f e;
          kept = kept_refl 1 2 c μ;
          long = long;
        }
