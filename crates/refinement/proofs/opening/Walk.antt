-- THE WALK OF AN OPENING does what the model's opening does, and writes only into parts that there are. Assumes nothing.
use mathlib.Core.Path.{◌≡◌, sym, ap, subst, ◌∙◌}
use mathlib.Core.Bool.{Bool, true}
use mathlib.Core.List.{List}
use Prim.Native.Nat.{ℕ, ◌-◌, ◌^◌, ◌≤◌, ◌<◌}
use native.Mathlib.Omega.{arith}
use lib.ListN.{length, get_or, replicate, length-replicate}
use Rattle.columnar.specs.Types.{Ty}
use Rattle.columnar.specs.Formed.{Formed}
use Rattle.columnar.specs.Reading.{Column, Source}
use Rattle.model.specs.Opening.{keeps}
use Rattle.model.specs.Transform.{start, open_data}
use Rattle.walk.specs.State.{end_of, keeps_of}
use Rattle.walk.specs.Log.{next, each}
use Rattle.refinement.specs.walk_is_model.Memory.{Memory}
use Rattle.refinement.specs.walk_is_model.Holds.{flag, Worded, Holds}
use Rattle.refinement.proofs.walk_is_model.Goes.{Goes, goes_map, goes_quiet}
use Rattle.refinement.specs.log_in_room.Room.{AllBelow, AllUsed}
use Rattle.refinement.specs.log_in_room.Reach.{typed}
use Rattle.refinement.proofs.log_in_room.Uses.{uses_next}
use Rattle.plan.specs.parts.Parts.{nodes_of, copied, Used}
use Rattle.refinement.specs.orders.Order.{Lent, source_count}
use Rattle.refinement.proofs.orders.Buffers.{copied_free}
use Rattle.refinement.proofs.orders.Cover.{Laid}
use Rattle.refinement.specs.opening.Open.{begin_gaps, first_offset, open_dictionary, open_walk_of}
use Rattle.refinement.specs.opening.Kept.{Kept}
use Rattle.refinement.specs.opening.Entries.{EntriesLent, Joins}
use Rattle.refinement.proofs.opening.Zeros.{empty, Fresh, fresh_same, no_counters, gaps_go, zeros_go}
use Rattle.refinement.proofs.opening.Starts.{Here, start_held}
use Rattle.refinement.proofs.opening.Frame.{Left}
use Rattle.refinement.proofs.opening.Dictionaries.{opens_at}
use Rattle.refinement.proofs.opening.Uses.{gaps_use, zeros_use, dictionaries_use}

-- what an opening is given: the plan's words, sources that obey the rules, and their dictionaries' values as lent; keep: the caller asks for nulls; gaps: .. for one run for a gap
pub record Given (x : Lent) (t : Ty) (m : ℕ) (ss : ℕ → Column t) (keep gaps : Bool) : Type 0 where
  pub worded : Worded x.plan 8 t 0
  pub formed : Formed t
  pub laid : Laid x.plan
  pub all_nodes_lem : nodes_of x.plan ≡ end_of x.plan 0
  pub count_is : source_count x.plan ≡ m
  pub few : m ≤ 16
  pub body_small : length x.body < 2 ^ 63
  pub body_bytes : AllBelow 256 x.body
  pub obey : (j : ℕ) → j < m → Source t (ss j)
  pub entries : EntriesLent x t 0 m (λ j. (ss j).body)
  pub root_keeps : keeps_of x.plan 0 ≡ flag (keeps keep m ss)
  pub choice : get_or x.plan 867 0 ≡ flag gaps
  pub kept : Kept x.plan m t 0 (keeps keep m ss) (λ j. (ss j).body)

module _ (x : Lent) (t : Ty) (m : ℕ) (ss : ℕ → Column t) (keep gaps : Bool) (g : Given x t m ss keep gaps) where
  root : Here x.plan 0
  root = (typed 8 t g.worded (omega arith) (omega arith), tt)

  -- counters and memory after an opening: a destination with no rows, and the joined dictionaries
  abbrev pub Begun : Unit {0} → List ℕ → Memory → Type 0
  Begun y c μ = Holds x.plan t 0 (start gaps t keep m ss) c μ × Joins x.plan t 0 m (λ j. (ss j).body) c μ × (length c ≡ 96)

  module _ (c : List ℕ) (μ : Memory) (long : length c ≡ 96) (fresh : (j : ℕ) → j < nodes_of x.plan → copied x.plan j ≡ true → Fresh x.plan c μ j) where
    -- nodes that are not a dictionary's values have no rows after it either
    still_begun : (c' : List ℕ) (μ' : Memory) → Joins x.plan t 0 m (λ j. (ss j).body) c' μ' × Left x.plan 0 (end_of x.plan 0) c c' μ μ' → Begun tt c' μ'
    still_begun c' μ' r = (
      start_held x.plan c' μ' g.laid m gaps g.choice
          (λ j h. fresh_same x.plan c c' μ μ' j (r.1.same j (λ a b. h.1)) (fresh j (omega (arith, h.0.1, g.all_nodes_lem)) (copied_free x.plan j h.1)))
          8 t 0 (keeps keep m ss) (λ j. (ss j).body) g.worded root g.root_keeps g.kept,
      r.0,
      r.1.long ∙ long,
    )

    then_begun : Goes μ Begun (open_data t m (λ j. (ss j).body)) (each (open_dictionary x) (nodes_of x.plan) 0 c)
    then_begun =
        let e : nodes_of x.plan ≡ end_of x.plan 0 - 0 = omega (arith, g.all_nodes_lem) in
        rw e
        (goes_map (λ y c' μ' r. still_begun c' μ' r)
        (opens_at x m g.few g.count_is g.body_small g.laid 8 t 0 (keeps keep m ss) ss g.worded g.formed root g.obey g.entries g.kept c μ long
        (λ j a b q. fresh j (omega (arith, g.all_nodes_lem)) q)))

  -- THE WALK OF AN OPENING goes with the model's opening
  pub opens : Goes empty Begun (open_data t m (λ j. (ss j).body)) (open_walk_of x (replicate 96 0))
  unfolding open_walk_of
  opens =
      goes_quiet (λ c1. next (each (first_offset x) (nodes_of x.plan) 0 c1) (λ c2. each (open_dictionary x) (nodes_of x.plan) 0 c2))
      (gaps_go x (replicate 96 0) (length-replicate {A = ℕ} 96 0) (no_counters 96) (nodes_of x.plan) (omega arith))
      (λ c1 μ y. subst (λ μ. Goes μ Begun (open_data t m (λ j. (ss j).body)) (next (each (first_offset x) (nodes_of x.plan) 0 c1) (λ c2. each (open_dictionary x) (nodes_of x.plan) 0 c2))) (sym y.0)
      (goes_quiet (λ c2. each (open_dictionary x) (nodes_of x.plan) 0 c2) (zeros_go x c1 (nodes_of x.plan) y.2) (λ c2 ν z. then_begun c2 ν (ap length z.0 ∙ y.1) z.1)))

  -- ITS LOG has only bytes and bits for parts that there are
  pub opens_used : AllUsed (Used x.plan) (open_walk_of x (replicate 96 0)).log
  unfolding open_walk_of
  opens_used =
      (uses_next (Used x.plan) (each (begin_gaps x) (nodes_of x.plan) 0 (replicate 96 0))
      (λ c1. next (each (first_offset x) (nodes_of x.plan) 0 c1) (λ c2. each (open_dictionary x) (nodes_of x.plan) 0 c2)) (gaps_use x (replicate 96 0))
      (λ c1. uses_next (Used x.plan) (each (first_offset x) (nodes_of x.plan) 0 c1) (λ c2. each (open_dictionary x) (nodes_of x.plan) 0 c2) (zeros_use x c1)
      (λ c2. let e : nodes_of x.plan ≡ end_of x.plan 0 - 0 = omega (arith, g.all_nodes_lem) in
      rw e (dictionaries_use x m g.laid g.all_nodes_lem g.body_bytes 8 t 0 (keeps keep m ss) (λ j. (ss j).body) g.worded g.formed root g.entries g.kept c2)))).log_used
