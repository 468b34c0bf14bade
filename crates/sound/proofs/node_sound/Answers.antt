-- `sound::node_sound` meets its contract. Assumes nothing.
use Rattle.array_data.proofs.lent_tables.Laws.{no, yes}
use Rattle.sound.proofs.Laws.{node_low, node_past, node_loose, node_other, node_last, node_next}
use Rattle.sound.proofs.node_sound.Goals as goal

pub returns-then-end-i : goal.returns-then-end-i
returns-then-end-i c = let z = c.args in node_low z.plan.now z.i z.n c.end_of-end.ensures.value c.if-end-i.true

pub returns-then-n-end : goal.returns-then-n-end
returns-then-n-end c = let z = c.args in node_past z.plan.now z.i z.n c.end_of-end.ensures.value c.if-end-i.false c.if-n-end.true

pub returns-then-not-is_nested : goal.returns-then-not-is_nested
returns-then-not-is_nested c = let z = c.args in node_loose z.plan.now z.i z.n c.end_of-end.ensures.value c.if-end-i.false c.if-n-end.false (no c.is_nested.ensures c.if-not-is_nested.true-raw)

pub returns-then-not-kind_sound : goal.returns-then-not-kind_sound
returns-then-not-kind_sound c = let z = c.args in node_other z.plan.now z.i z.n c.end_of-end.ensures.value c.if-end-i.false c.if-n-end.false (yes c.is_nested.ensures c.if-not-is_nested.false-raw) (no c.kind_sound.ensures c.if-not-kind_sound.true-raw)

pub returns-then-n-end-2 : goal.returns-then-n-end-2
returns-then-n-end-2 c = let z = c.args in node_last z.plan.now z.i z.n c.end_of-end.ensures.value c.if-end-i.false c.if-n-end.false (yes c.is_nested.ensures c.if-not-is_nested.false-raw) (yes c.kind_sound.ensures c.if-not-kind_sound.false-raw) c.if-n-end-2.true

pub returns : goal.returns
returns c = let z = c.args in node_next z.plan.now z.i z.n c.end_of-end.ensures.value c.if-end-i.false c.if-n-end.false (yes c.is_nested.ensures c.if-not-is_nested.false-raw) (yes c.kind_sound.ensures c.if-not-kind_sound.false-raw) c.if-n-end-2.false c.is_copied.ensures
