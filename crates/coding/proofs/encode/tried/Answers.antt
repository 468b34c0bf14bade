-- `coding::encode::tried` meets its contract. Assumes nothing.
use mathlib.Core.Path.{◌≡◌, ap, ◌∙◌}
use Prim.Native.Nat.{◌+◌, ◌-◌}
use native.Mathlib.Omega.{arith}
use Rattle.schema.specs.formats.Code.{width_of}
use Rattle.schema.specs.Tree.{code_of}
use Rattle.array_data.specs.Tables.{offset_of, place}
use Rattle.array_data.specs.Typed.{tables_from}
use Rattle.array_data.specs.lent_tables.Lent.{tables}
use Rattle.coding.specs.Counted.{all_counts}
use Rattle.coding.proofs.Rows.{place_as, held_as, counted_as}
use Rattle.coding.proofs.encode.tried.Goals as goal

pub slots_of-s-requires : goal.slots_of-s-requires
slots_of-s-requires c =
    (omega arith, omega (arith, c.requires.low), place_as ((place (tables_from (tables c.args.lengths.now c.args.places.now c.args.body.now) c.args.first) 0 3)) ((offset_of (tables_from (tables c.args.lengths.now c.args.places.now c.args.body.now) c.args.first) 0 + c.args.start)) (c.width_of-w.ensures ∙ ap width_of c.code_of.ensures) c.requires.place_low)

pub overflow_sub-m : goal.overflow_sub-m
overflow_sub-m c = omega (arith, c.requires.in_order_lem)

pub count_runs-k-requires : goal.count_runs-k-requires
count_runs-k-requires c =
    held_as c.args.body.now ((width_of (code_of c.args.formats.now c.args.schema.now c.args.first 0))) c.args.keep ((place (tables_from (tables c.args.lengths.now c.args.places.now c.args.body.now) c.args.first) 0 3)) ((offset_of (tables_from (tables c.args.lengths.now c.args.places.now c.args.body.now) c.args.first) 0 + c.args.start)) ((place (tables_from (tables c.args.lengths.now c.args.places.now c.args.body.now) c.args.first) 0 1)) ((offset_of (tables_from (tables c.args.lengths.now c.args.places.now c.args.body.now) c.args.first) 0 + c.args.start)) (c.args.end - c.args.start) ((let fact : c.width_of-w.result ≡ (width_of (code_of c.args.formats.now c.args.schema.now c.args.first 0)) = c.width_of-w.ensures ∙ ap width_of c.code_of.ensures in fact)) c.slots_of-s.ensures.0 c.slots_of-s.ensures.1 c.slots_of-s.ensures.2 c.requires.held

pub returns : goal.returns
returns c =
    c.counters_of.ensures
    ∙ ap (all_counts (c.args.end - c.args.start))
    (counted_as c.args.body.now ((width_of (code_of c.args.formats.now c.args.schema.now c.args.first 0))) c.args.keep ((place (tables_from (tables c.args.lengths.now c.args.places.now c.args.body.now) c.args.first) 0 3)) ((offset_of (tables_from (tables c.args.lengths.now c.args.places.now c.args.body.now) c.args.first) 0 + c.args.start)) ((place (tables_from (tables c.args.lengths.now c.args.places.now c.args.body.now) c.args.first) 0 1)) ((offset_of (tables_from (tables c.args.lengths.now c.args.places.now c.args.body.now) c.args.first) 0 + c.args.start)) (c.args.end - c.args.start) ((let fact : c.width_of-w.result ≡ (width_of (code_of c.args.formats.now c.args.schema.now c.args.first 0)) = c.width_of-w.ensures ∙ ap width_of c.code_of.ensures in fact)) c.slots_of-s.ensures.0 c.slots_of-s.ensures.1 c.slots_of-s.ensures.2 c.count_runs-k.ensures)
