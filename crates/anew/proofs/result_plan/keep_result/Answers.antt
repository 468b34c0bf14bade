-- `result_plan::keep_result` meets its contract. Assumes nothing.
use Rattle.anew.proofs.result_plan.keep_result.Goals as goal

pub returns : goal.returns
returns c = record { plan_after = c.store.ensures; counters_after = c.store-2.ensures }
