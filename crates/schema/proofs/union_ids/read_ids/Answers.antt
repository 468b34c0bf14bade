-- `format_ids::read_ids` meets its contract. The invariant: k ids are read, up to the byte p. Assumes nothing.
use mathlib.Core.Path.{refl, sym, ◌∙◌}
use native.Mathlib.Omega.{arith}
use lib.ListN.{take}
use borrow.Author.Rules.{rules}
use Rattle.schema.proofs.union_ids.Read.{Next, read_none, no_text, read_over, read_big, read_twice, read_next, read_all, read_array, read_length, next_end, bad_kept, good}
use Rattle.schema.proofs.union_ids.Laws.{is_member}
use Rattle.schema.proofs.union_ids.read_ids.Goals as goal

pub returns-then-n-eq0 : goal.returns-then-n-eq0
returns-then-n-eq0 c = let z = c.args in let both = good _ _ _ z.ids.now 0 (no_text z.t.now c.if-n-eq0.true) refl refl in record { value = both.0; ids_after = both.1 }

pub loop-k-init : goal.loop-k-init
loop-k-init c = let z = c.args in (read_none z.t.now z.ids.now z.ids.now (omega arith) (search rules) refl, refl)

pub comma-e-requires : goal.comma-e-requires
comma-e-requires c = c.loop-k.invariant.0.place

pub slice_bounds-id_of-end : goal.slice_bounds-id_of-end
slice_bounds-id_of-end c = omega (arith, next_end c.args.t.now c.loop-k.p c.comma-e.result c.loop-k.invariant.0.place c.comma-e.ensures)

pub returns-then-x-gt127 : goal.returns-then-x-gt127
returns-then-x-gt127 c =
    let z = c.args in
    let l = c.loop-k in
    let n : Next z.t.now l.p c.comma-e.result c.id_of-x.result = record { end = c.comma-e.ensures; id = c.id_of-x.ensures } in
    let both = bad_kept _ _ _ l.invariant.1 (read_big z.t.now z.ids.now l.trial l.p l.k _ _ l.invariant.0 n c.if-x-gt127.true) in record { value = both.0; ids_after = both.1 }

pub returns-then-contains : goal.returns-then-contains
returns-then-contains c =
    let z = c.args in
    let l = c.loop-k in
    let n : Next z.t.now l.p c.comma-e.result c.id_of-x.result = record { end = c.comma-e.ensures; id = c.id_of-x.ensures } in
    let both = bad_kept _ _ _ l.invariant.1 (read_twice z.t.now z.ids.now l.trial l.p l.k _ _ l.invariant.0 n (sym (is_member c.id_of-x.result (take l.k l.trial)) ∙ sym c.contains.ensures.value ∙ c.if-contains.true)) in record { value = both.0; ids_after = both.1 }

pub returns-then-e-n : goal.returns-then-e-n
returns-then-e-n c =
    let z = c.args in
    let l = c.loop-k in
    let n : Next z.t.now l.p c.comma-e.result c.id_of-x.result = record { end = c.comma-e.ensures; id = c.id_of-x.ensures } in
    let o = read_all z.t.now z.ids.now l.trial l.p l.k _ _ l.invariant.0 n (omega arith) (omega arith) (sym (is_member c.id_of-x.result (take l.k l.trial)) ∙ sym c.contains.ensures.value ∙ c.if-contains.false) c.if-e-n.true in
    let both = good _ _ _ z.ids.now _ o (read_length z.t.now z.ids.now l.trial l.p l.k _ _ l.invariant.0 n (omega arith) (omega arith) (sym (is_member c.id_of-x.result (take l.k l.trial)) ∙ sym c.contains.ensures.value ∙ c.if-contains.false)) (read_array z.t.now z.ids.now l.trial l.p l.k _ _ l.invariant.0 n (omega arith) (omega arith) (sym (is_member c.id_of-x.result (take l.k l.trial)) ∙ sym c.contains.ensures.value ∙ c.if-contains.false)) in record { value = both.0; ids_after = both.1 }

pub overflow_add-p : goal.overflow_add-p
overflow_add-p c = omega (arith, next_end c.args.t.now c.loop-k.p c.comma-e.result c.loop-k.invariant.0.place c.comma-e.ensures)

pub loop-k-preserved : goal.loop-k-preserved
loop-k-preserved c =
    let z = c.args in
    let l = c.loop-k in
    let n : Next z.t.now l.p c.comma-e.result c.id_of-x.result = record { end = c.comma-e.ensures; id = c.id_of-x.ensures } in
    (read_next z.t.now z.ids.now l.trial l.p l.k _ _ l.invariant.0 n (omega arith) (omega arith) (sym (is_member c.id_of-x.result (take l.k l.trial)) ∙ sym c.contains.ensures.value ∙ c.if-contains.false) (omega (arith, next_end z.t.now l.p _ l.invariant.0.place n.end)), l.invariant.1)

pub returns : goal.returns
returns c = let z = c.args in let l = c.loop-k in let both = bad_kept _ _ _ l.invariant.1 (read_over z.t.now z.ids.now l.trial l.p l.k l.invariant.0 (omega arith)) in record { value = both.0; ids_after = both.1 }
