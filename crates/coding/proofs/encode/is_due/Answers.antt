-- `coding::encode::is_due` meets its contract. Assumes nothing.
use Rattle.coding.proofs.Grounds.{due_ceilings, due_typed, due_runs, due_plain, due_same}
use Rattle.coding.proofs.encode.is_due.Goals as goal

pub returns-then-not-is_within_ceilings : goal.returns-then-not-is_within_ceilings
returns-then-not-is_within_ceilings c = let z = c.args in due_ceilings z.formats.now z.schema.now z.first z.target c.is_within_ceilings.ensures c.if-not-is_within_ceilings.true-raw

pub returns-then-not-is_typed : goal.returns-then-not-is_typed
returns-then-not-is_typed c =
    let z = c.args in
    due_typed z.formats.now z.schema.now z.first z.target c.is_within_ceilings.ensures c.if-not-is_within_ceilings.false-raw c.is_typed.ensures c.if-not-is_typed.true-raw

pub returns-then-not-is_run_end : goal.returns-then-not-is_run_end
returns-then-not-is_run_end c =
    let z = c.args in
    due_runs z.formats.now z.schema.now z.first z.target c.is_within_ceilings.ensures c.if-not-is_within_ceilings.false-raw c.is_typed.ensures c.if-not-is_typed.false-raw c.code_of.ensures c.is_run_end.ensures c.if-not-is_run_end.true-raw

pub returns-then-not-is_plain : goal.returns-then-not-is_plain
returns-then-not-is_plain c =
    let z = c.args in
    due_plain z.formats.now z.schema.now z.first z.target c.is_within_ceilings.ensures c.if-not-is_within_ceilings.false-raw c.is_typed.ensures c.if-not-is_typed.false-raw c.code_of.ensures c.is_run_end.ensures c.if-not-is_run_end.false-raw c.is_plain.ensures c.if-not-is_plain.true-raw

pub returns : goal.returns
returns c =
    let z = c.args in
    due_same z.formats.now z.schema.now z.first z.target c.is_within_ceilings.ensures c.if-not-is_within_ceilings.false-raw c.is_typed.ensures c.if-not-is_typed.false-raw c.code_of.ensures c.is_run_end.ensures c.if-not-is_run_end.false-raw c.is_plain.ensures c.if-not-is_plain.false-raw c.code_of-2.ensures c.code_of-3.ensures
