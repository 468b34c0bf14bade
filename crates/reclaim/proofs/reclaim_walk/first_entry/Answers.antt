-- `reclaim_walk::first_entry` meets its contract. Assumes nothing.
use Rattle.leaf_walk.specs.Join.{join}
use Rattle.reclaim.proofs.reclaim_walk.Laws.{first_no, first_yes, string_key}
use borrow.Author.Rules.{rules}
use Rattle.reclaim.proofs.reclaim_walk.first_entry.Goals as goal

pub returns-then-not-is_string : goal.returns-then-not-is_string
returns-then-not-is_string c =
    let a = c.args in
    λ lengths places body k first.
    first_no (join a.plan.now a.parts.now lengths places body first 0) k c.code_of-code.result c.is_string.result c.code_of-code.ensures c.is_string.ensures c.if-not-is_string.true-raw

pub put_number-requires : goal.put_number-requires
put_number-requires c =
    record { i_bound = search rules; w_value = string_key c.code_of-code.result c.width_of-w.result c.is_string.result c.is_string.ensures c.if-not-is_string.false-raw c.width_of-w.ensures }

pub returns : goal.returns
returns c =
    let a = c.args in
    λ lengths places body k first.
    first_yes (join a.plan.now a.parts.now lengths places body first 0) k _ c.code_of-code.result c.width_of-w.result c.is_string.result c.code_of-code.ensures c.is_string.ensures c.if-not-is_string.false-raw c.width_of-w.ensures c.put_number.ensures
