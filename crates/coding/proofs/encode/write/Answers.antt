-- `coding::encode::write` meets its contract. Assumes nothing.
use mathlib.Core.Path.{ap, ◌∙◌}
use Prim.Native.Nat.{◌+◌, ◌-◌}
use native.Mathlib.Omega.{arith}
use lib.ListN.{length}
use Rattle.schema.specs.formats.Code.{width_of}
use Rattle.schema.specs.Tree.{code_of}
use Rattle.array_data.specs.Tables.{offset_of, place}
use Rattle.array_data.specs.Typed.{tables_from}
use Rattle.array_data.specs.lent_tables.Lent.{tables}
use Rattle.coding.proofs.Rows.{place_as, held_as, counted_as, fits_as, written_as, sized_as}
use Rattle.coding.proofs.encode.write.Goals as goal

pub slots_of-s-requires : goal.slots_of-s-requires
slots_of-s-requires c =
    (omega arith, omega (arith, c.requires.sized.1.low), place_as ((place (tables_from (tables c.args.lengths.now c.args.places.now c.args.body.now) c.args.first) 0 3)) ((offset_of (tables_from (tables c.args.lengths.now c.args.places.now c.args.body.now) c.args.first) 0 + c.args.start)) (c.width_of-w.ensures ∙ ap width_of c.code_of.ensures) c.requires.sized.1.place_low)

pub overflow_sub-end : goal.overflow_sub-end
overflow_sub-end c = omega (arith, c.requires.sized.1.in_order_lem)

pub write_runs-requires : goal.write_runs-requires
write_runs-requires c =
    let m = c.args.end - c.args.start in
    let ew = c.width_of-w.ensures ∙ ap width_of c.code_of.ensures in
    let ee = c.width_of-e.ensures ∙ ap width_of c.code_of-2.ensures in
    let k = c.slots_of-s.ensures in record { m_bound = (c.requires.sized.1.short, sized_as ee c.requires.sized.0, held_as c.args.body.now ((width_of (code_of c.args.formats.now c.args.schema.now c.args.first 0))) c.args.keep ((place (tables_from (tables c.args.lengths.now c.args.places.now c.args.body.now) c.args.first) 0 3)) ((offset_of (tables_from (tables c.args.lengths.now c.args.places.now c.args.body.now) c.args.first) 0 + c.args.start)) ((place (tables_from (tables c.args.lengths.now c.args.places.now c.args.body.now) c.args.first) 0 1)) ((offset_of (tables_from (tables c.args.lengths.now c.args.places.now c.args.body.now) c.args.first) 0 + c.args.start)) m ew k.0 k.1 k.2 c.requires.sized.1.held); fits = fits_as c.args.body.now ((width_of (code_of c.args.formats.now c.args.schema.now c.args.first 0))) c.args.keep ((place (tables_from (tables c.args.lengths.now c.args.places.now c.args.body.now) c.args.first) 0 3)) ((offset_of (tables_from (tables c.args.lengths.now c.args.places.now c.args.body.now) c.args.first) 0 + c.args.start)) ((place (tables_from (tables c.args.lengths.now c.args.places.now c.args.body.now) c.args.first) 0 1)) ((offset_of (tables_from (tables c.args.lengths.now c.args.places.now c.args.body.now) c.args.first) 0 + c.args.start)) m ew k.0 k.1 k.2 ((width_of (code_of c.args.formats.now c.args.schema.now c.args.target 1))) _ _ _ ee c.start_of.ensures c.start_of-2.ensures c.start_of-3.ensures (length c.args.room.now) c.requires.room_for }

pub returns : goal.returns
returns c =
    let m = c.args.end - c.args.start in
    let ew = c.width_of-w.ensures ∙ ap width_of c.code_of.ensures in
    let ee = c.width_of-e.ensures ∙ ap width_of c.code_of-2.ensures in
    let k = c.slots_of-s.ensures in record { room_value = written_as c.args.body.now ((width_of (code_of c.args.formats.now c.args.schema.now c.args.first 0))) c.args.keep ((place (tables_from (tables c.args.lengths.now c.args.places.now c.args.body.now) c.args.first) 0 3)) ((offset_of (tables_from (tables c.args.lengths.now c.args.places.now c.args.body.now) c.args.first) 0 + c.args.start)) ((place (tables_from (tables c.args.lengths.now c.args.places.now c.args.body.now) c.args.first) 0 1)) ((offset_of (tables_from (tables c.args.lengths.now c.args.places.now c.args.body.now) c.args.first) 0 + c.args.start)) m ew k.0 k.1 k.2 ((width_of (code_of c.args.formats.now c.args.schema.now c.args.target 1))) _ _ _ ee c.start_of.ensures c.start_of-2.ensures c.start_of-3.ensures c.args.room.now c.write_runs.ensures.room_value; value = counted_as c.args.body.now ((width_of (code_of c.args.formats.now c.args.schema.now c.args.first 0))) c.args.keep ((place (tables_from (tables c.args.lengths.now c.args.places.now c.args.body.now) c.args.first) 0 3)) ((offset_of (tables_from (tables c.args.lengths.now c.args.places.now c.args.body.now) c.args.first) 0 + c.args.start)) ((place (tables_from (tables c.args.lengths.now c.args.places.now c.args.body.now) c.args.first) 0 1)) ((offset_of (tables_from (tables c.args.lengths.now c.args.places.now c.args.body.now) c.args.first) 0 + c.args.start)) m ew k.0 k.1 k.2 c.write_runs.ensures.value }
