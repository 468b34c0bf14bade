-- `puts::write_keys` meets its contract. Assumes nothing.
use mathlib.Core.Path.{◌≡◌, ap, ◌∙◌}
use Rattle.schema.specs.formats.Code.{width_of}
use Rattle.room_writes.proofs.keys.write_keys.Goals as goal

pub returns-in-1 : goal.returns-in-1
returns-in-1 c =
    let a = c.args in
    let e : a.w ≡ 1 = c.requires.w_value_2 ∙ ap width_of c.in-1.is in
    rw e c.extend_with_offset_signed.ensures

pub returns-in-3 : goal.returns-in-3
returns-in-3 c =
    let a = c.args in
    let e : a.w ≡ 2 = c.requires.w_value_2 ∙ ap width_of c.in-3.is in
    rw e c.extend_with_offset_signed-in-3.ensures

pub returns-in-5 : goal.returns-in-5
returns-in-5 c =
    let a = c.args in
    let e : a.w ≡ 4 = c.requires.w_value_2 ∙ ap width_of c.in-5.is in
    rw e c.extend_with_offset_signed-in-5.ensures

pub returns-in-7 : goal.returns-in-7
returns-in-7 c =
    let a = c.args in
    let e : a.w ≡ 8 = c.requires.w_value_2 ∙ ap width_of c.in-7.is in
    rw e c.extend_with_offset_signed-in-7.ensures

pub returns-in_default : goal.returns-in_default
returns-in_default c = c.write_unsigned_keys.ensures
