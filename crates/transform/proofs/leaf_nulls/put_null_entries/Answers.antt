-- `transform::leaf_nulls::put_null_entries` meets its contract. Assumes nothing.
use mathlib.Core.Path.{ap, ◌∙◌}
use mathlib.Core.List.{[]}
use native.Mathlib.Omega.{arith}
use Rattle.schema.specs.formats.Code.{is_string}
use Rattle.walk.specs.State.{code_of}
use Rattle.leaf_walk.specs.Join.{join}
use Rattle.plan.specs.parts.Parts.{entry_size}
use Rattle.transform.proofs.leaf_rows.Entries.{told, size_in_lem, string_size}
use Rattle.transform.proofs.leaf_nulls.Laws.{string_in, put_zeros, put_repeated}
use Rattle.transform.proofs.leaf_nulls.put_null_entries.Goals as goal

pub scale-o-requires : goal.scale-o-requires
scale-o-requires c =
    let a = c.args in
    let s = told is_string c.code_of-code.ensures c.is_string.ensures c.if-is_string.true in
    (string_in (code_of a.plan.now a.i) s (c.entry_size-w.ensures ∙ ap entry_size c.code_of-code.ensures ∙ string_size (code_of a.plan.now a.i) s)).0

pub put_repeated-requires : goal.put_repeated-requires
put_repeated-requires c =
    let a = c.args in
    let s = told is_string c.code_of-code.ensures c.is_string.ensures c.if-is_string.true in
    record { i_bound = (c.requires.0, omega arith); w_value = (string_in (code_of a.plan.now a.i) s (c.entry_size-w.ensures ∙ ap entry_size c.code_of-code.ensures ∙ string_size (code_of a.plan.now a.i) s)).1 }

pub returns-then-is_string : goal.returns-then-is_string
returns-then-is_string c =
    let a = c.args in
    λ child. put_repeated (join a.plan.now a.parts.now [] [] [] 0 0) child a.i a.n a.counters.now a.room.now (c.entry_size-w.ensures ∙ ap entry_size c.code_of-code.ensures) c.at_u64-rows.ensures (omega (arith, c.well_formed)) (told is_string c.code_of-code.ensures c.is_string.ensures c.if-is_string.true) c.grow.ensures c.scale-o.ensures c.at_u64-last.ensures c.put_repeated.ensures

pub scale-requires : goal.scale-requires
scale-requires c =
    let a = c.args in
    size_in_lem (code_of a.plan.now a.i) c.requires.1 c.requires.2 (told is_string c.code_of-code.ensures c.is_string.ensures c.if-is_string.false) (c.entry_size-w.ensures ∙ ap entry_size c.code_of-code.ensures)

pub put_zeros-requires : goal.put_zeros-requires
put_zeros-requires c =
    let a = c.args in
    let k = size_in_lem (code_of a.plan.now a.i) c.requires.1 c.requires.2 (told is_string c.code_of-code.ensures c.is_string.ensures c.if-is_string.false) (c.entry_size-w.ensures ∙ ap entry_size c.code_of-code.ensures) in
    (c.requires.0, omega arith, k.0, k.1)

pub returns : goal.returns
returns c =
    let a = c.args in
    λ child. put_zeros (join a.plan.now a.parts.now [] [] [] 0 0) child a.i a.n a.counters.now a.room.now (c.entry_size-w.ensures ∙ ap entry_size c.code_of-code.ensures) c.at_u64-rows.ensures (omega (arith, c.well_formed)) c.requires.1 c.requires.2 (told is_string c.code_of-code.ensures c.is_string.ensures c.if-is_string.false) c.scale.ensures c.put_zeros.ensures
