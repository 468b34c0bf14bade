-- `format_ids::same_format` meets its contract. Assumes nothing.
use mathlib.Core.Path.{sym}
use borrow.Author.Tests.{not-true, not-false}
use Rattle.schema.specs.formats.Code.{code_at}
use Rattle.schema.specs.union_ids.Ids.{ids_at, same_ids}
use Rattle.schema.proofs.union_ids.Same.{no_format, other_format, no_ids, by_ids}
use Rattle.schema.proofs.union_ids.same_format.Goals as goal

pub returns-then-code-eq0 : goal.returns-then-code-eq0
returns-then-code-eq0 c =
    let z = c.args in
    let x = code_at z.formats.now z.at z.len in
    let y = code_at z.formats.now z.at2 z.len2 in
    let w = same_ids (ids_at z.formats.now z.at z.len) (ids_at z.formats.now z.at2 z.len2) in
    sym (no_format x y w _ c.format_code-code.ensures c.if-code-eq0.true)

pub returns-then-code-format_code : goal.returns-then-code-format_code
returns-then-code-format_code c =
    let z = c.args in
    let x = code_at z.formats.now z.at z.len in
    let y = code_at z.formats.now z.at2 z.len2 in
    let w = same_ids (ids_at z.formats.now z.at z.len) (ids_at z.formats.now z.at2 z.len2) in
    sym (other_format x y w _ _ c.format_code-code.ensures c.format_code.ensures c.if-code-format_code.true)

pub returns-then-not-is_union : goal.returns-then-not-is_union
returns-then-not-is_union c =
    let z = c.args in
    let x = code_at z.formats.now z.at z.len in
    let y = code_at z.formats.now z.at2 z.len2 in
    let w = same_ids (ids_at z.formats.now z.at z.len) (ids_at z.formats.now z.at2 z.len2) in
    sym (no_ids x y w _ _ c.format_code-code.ensures c.format_code.ensures c.if-code-eq0.false c.if-code-format_code.false _ c.is_union.ensures (not-true _ c.if-not-is_union.true-raw))

pub returns : goal.returns
returns c =
    let z = c.args in
    let x = code_at z.formats.now z.at z.len in
    let y = code_at z.formats.now z.at2 z.len2 in
    let w = same_ids (ids_at z.formats.now z.at z.len) (ids_at z.formats.now z.at2 z.len2) in
    by_ids x y w _ _ c.format_code-code.ensures c.format_code.ensures c.if-code-eq0.false c.if-code-format_code.false _ c.is_union.ensures (not-false _ c.if-not-is_union.false-raw) _ c.same_ids.ensures
