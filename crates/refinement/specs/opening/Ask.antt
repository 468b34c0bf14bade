-- What is asked before any room is lent: which parts there will be, and how many bytes the opening itself puts there. Assumes nothing.
use Rattle.std.specs.Prelude.{Bool, cond, ◌&&◌, List, ℕ, length, replicate, leb, eqb}
use Rattle.array_data.specs.Tables.{Tables}
use Rattle.columns.specs.Grounds.{sources_ground}
use Rattle.plan.specs.Plan.{planned}
use Rattle.refinement.specs.orders.Sound.{plan_sound}
use Rattle.refinement.specs.orders.Order.{Lent, source_count}
use Rattle.refinement.specs.orders.Measure.{Measured, unmeasured, measured}
use Rattle.refinement.specs.opening.Open.{open_walk_of}

-- ground: 0, or the number of the refusal
pub record Asked : Type 0 where
  pub refusal : ℕ
  pub plan : List ℕ

-- THE QUESTION: 9, 10, 11, 12 as at the opening, 14 where the plan is not of a join's length; else the plan, which says
-- how many parts there are and of which buffer each is (`partTotal`, `part_at`)
unfoldable pub asked : List ℕ → List ℕ → List ℕ → Tables → Bool → Bool → List ℕ → Asked
asked formats schema sources x keep gaps plan =
    cond (eqb (sources_ground formats schema x sources) 0)
    (cond (eqb (length plan) 872) (record { refusal = 0; plan = planned formats schema x sources keep gaps }) (record { refusal = 14; plan = plan }))
    (record { refusal = sources_ground formats schema x sources; plan = plan })

-- THE WALK OF AN OPENING, with no part asked, by the plan that the question left: 6 and 8; 12 where it can't be carried out with that plan,
-- as where it is for more than 16 sources or none that a walk stays in; 14 where the counters are not those of a join
unfoldable pub open_measure : Lent → List ℕ → Measured
open_measure x counters =
    cond (eqb (length counters) 96)
    (cond (leb (source_count x.plan) 16 && plan_sound x.plan) (measured counters (open_walk_of x (replicate 96 0))) (unmeasured counters 12))
    (unmeasured counters 14)
