-- `sound::kind_sound` meets its contract. Assumes nothing.
use Rattle.sound.proofs.Laws.{kind_number, kind_keyed, kind_list, kind_run, kind_else}
use Rattle.sound.proofs.kind_sound.Goals as goal

pub returns-then-code-le10 : goal.returns-then-code-le10
returns-then-code-le10 c = let z = c.args in kind_number z.plan.now z.i c.code_of-code.ensures c.if-code-le10.true

pub returns-then-dictionary_of-ne0 : goal.returns-then-dictionary_of-ne0
returns-then-dictionary_of-ne0 c = let z = c.args in kind_keyed z.plan.now z.i c.code_of-code.ensures c.if-code-le10.false c.dictionary_of.ensures c.if-dictionary_of-ne0.true

pub returns-then-is_list_view-is_list : goal.returns-then-is_list_view-is_list
returns-then-is_list_view-is_list c = let z = c.args in kind_list z.plan.now z.i c.code_of-code.ensures c.if-code-le10.false c.dictionary_of.ensures c.if-dictionary_of-ne0.false c.is_list_view.ensures c.is_list.ensures c.if-is_list_view-is_list.true c.end_of.ensures.value

pub returns-then-is_run_end : goal.returns-then-is_run_end
returns-then-is_run_end c = let z = c.args in kind_run z.plan.now z.i c.code_of-code.ensures c.if-code-le10.false c.dictionary_of.ensures c.if-dictionary_of-ne0.false c.is_list_view.ensures c.is_list.ensures c.if-is_list_view-is_list.false c.is_run_end.ensures c.if-is_run_end.true c.ends_sound.ensures

pub returns : goal.returns
returns c = let z = c.args in kind_else z.plan.now z.i c.code_of-code.ensures c.if-code-le10.false c.dictionary_of.ensures c.if-dictionary_of-ne0.false c.is_list_view.ensures c.is_list.ensures c.if-is_list_view-is_list.false c.is_run_end.ensures c.if-is_run_end.false
