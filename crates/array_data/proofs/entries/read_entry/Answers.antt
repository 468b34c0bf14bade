-- `lent_entries::read_entry` meets its contract. Assumes nothing.
use mathlib.Core.Path.{refl, ◌∙◌}
use native.Mathlib.Omega.{arith}
use Rattle.array_data.specs.Tables.{part}
use Rattle.array_data.proofs.entries.Laws.{spot_outside, entry_no, no_size, room, value_is}
use Rattle.array_data.proofs.entries.read_entry.Goals as goal

pub returns-in_err-at : goal.returns-in_err-at
returns-in_err-at c =
    let z = c.args in
    c.from_residual.ensures ∙ entry_no z.w (part z.body.now z.start z.size) z.slot (spot_outside z.w (part z.body.now z.start z.size) z.slot z.start _ c.find_spot.ensures c.in_err-at.was)

pub read-requires : goal.read-requires
read-requires c =
    let z = c.args in
    omega (arith, room z.body.now z.start z.size z.w z.slot _ _ c.find_spot.ensures c.in_ok-at.was, c.in-1.is)

pub read-requires-in-2 : goal.read-requires-in-2
read-requires-in-2 c =
    let z = c.args in
    omega (arith, room z.body.now z.start z.size z.w z.slot _ _ c.find_spot.ensures c.in_ok-at.was, c.in-2.is)

pub read-requires-in-4 : goal.read-requires-in-4
read-requires-in-4 c =
    let z = c.args in
    omega (arith, room z.body.now z.start z.size z.w z.slot _ _ c.find_spot.ensures c.in_ok-at.was, c.in-4.is)

pub read-requires-in-8 : goal.read-requires-in-8
read-requires-in-8 c =
    let z = c.args in
    omega (arith, room z.body.now z.start z.size z.w z.slot _ _ c.find_spot.ensures c.in_ok-at.was, c.in-8.is)

pub returns-in-1 : goal.returns-in-1
returns-in-1 c =
    let z = c.args in
    value_is z.body.now z.start z.size z.w z.slot _ _ c.find_spot.ensures c.in_ok-at.was 1 _ c.in-1.is refl c.read.ensures

pub returns-in-2 : goal.returns-in-2
returns-in-2 c =
    let z = c.args in
    value_is z.body.now z.start z.size z.w z.slot _ _ c.find_spot.ensures c.in_ok-at.was 2 _ c.in-2.is refl c.read-in-2.ensures

pub returns-in-4 : goal.returns-in-4
returns-in-4 c =
    let z = c.args in
    value_is z.body.now z.start z.size z.w z.slot _ _ c.find_spot.ensures c.in_ok-at.was 4 _ c.in-4.is refl c.read-in-4.ensures

pub returns-in-8 : goal.returns-in-8
returns-in-8 c =
    let z = c.args in
    value_is z.body.now z.start z.size z.w z.slot _ _ c.find_spot.ensures c.in_ok-at.was 8 _ c.in-8.is refl c.read-in-8.ensures

pub returns-in_default : goal.returns-in_default
returns-in_default c =
    let z = c.args in
    let h = c.in_default.in_default-own.rest in
    no_size z.w (part z.body.now z.start z.size) z.slot h.0.0.0.1 h.0.0.1 h.0.1 h.1
