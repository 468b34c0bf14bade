-- `convert::same_below` meets its contract. Assumes nothing.
use mathlib.Core.Path.{refl}
use Rattle.convert.proofs.Laws.{due_first, due_target, due_low, due_typed, due_sizes, due_none, due_same}
use borrow.Author.Rules.{rules}
use Rattle.convert.proofs.same_below.Goals as goal

pub returns-then-first-eq4294967295 : goal.returns-then-first-eq4294967295
returns-then-first-eq4294967295 c = let z = c.args in due_first z.formats.now z.schema.now z.first z.n z.target z.target_n c.if-first-eq4294967295.true

pub returns-then-target-eq4294967295 : goal.returns-then-target-eq4294967295
returns-then-target-eq4294967295 c = let z = c.args in due_target z.formats.now z.schema.now z.first z.n z.target z.target_n c.if-target-eq4294967295.true

pub returns-then-not-is_within_ceilings : goal.returns-then-not-is_within_ceilings
returns-then-not-is_within_ceilings c = let z = c.args in due_low z.formats.now z.schema.now z.first z.n z.target z.target_n c.is_within_ceilings.ensures c.if-not-is_within_ceilings.true-raw

pub returns-then-not-is_typed : goal.returns-then-not-is_typed
returns-then-not-is_typed c = let z = c.args in due_typed z.formats.now z.schema.now z.first z.n z.target z.target_n c.is_typed.ensures c.if-not-is_typed.true-raw

pub returns-then-n-target_n : goal.returns-then-n-target_n
returns-then-n-target_n c = let z = c.args in due_sizes z.formats.now z.schema.now z.first z.n z.target z.target_n c.if-n-target_n.true

pub returns-then-n-eq0 : goal.returns-then-n-eq0
returns-then-n-eq0 c = let z = c.args in due_none z.formats.now z.schema.now z.first z.n z.target z.target_n c.if-n-target_n.false c.if-n-eq0.true

pub returns : goal.returns
returns c =
    let z = c.args in
    due_same z.formats.now z.schema.now z.first z.n z.target z.target_n _ _ _ _ c.if-first-eq4294967295.false (search rules) c.if-target-eq4294967295.false (search rules) c.is_within_ceilings.ensures c.if-not-is_within_ceilings.false-raw c.is_typed.ensures c.if-not-is_typed.false-raw c.if-n-target_n.false refl refl refl c.same_type.ensures
