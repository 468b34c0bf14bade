-- `view_row::view_place` meets its contract: each way out is a case of `place_of`. Assumes nothing.
use mathlib.Core.Path.{ap}
use native.Mathlib.Omega.{arith}
use lib.ListN.{length}
use Rattle.utils.specs.declared.byte_view.ByteView.{ByteView}
use Rattle.slot_reader.proofs.view.Laws.{inline, no_buffer, no_range, in_data}
use Rattle.slot_reader.proofs.view.view_place.Goals as goal

pub returns-then-v-le-MAX_INLINE_VIEW_LEN : goal.returns-then-v-le-MAX_INLINE_VIEW_LEN
returns-then-v-le-MAX_INLINE_VIEW_LEN c =
    let a = c.args in
    let f = c.from_bytes-v in
    record { value = inline a.views.now a.at (length a.body.now) a.from a.size f.result.length f.result.offset (ap (λ (v : ByteView). v.length) f.ensures) (ap (λ (v : ByteView). v.offset) f.ensures) (omega arith); within = omega arith }

pub returns-then-body-from : goal.returns-then-body-from
returns-then-body-from c =
    let a = c.args in
    let f = c.from_bytes-v in
    record { value = no_buffer a.views.now a.at (length a.body.now) a.from a.size f.result.length f.result.offset (ap (λ (v : ByteView). v.length) f.ensures) (ap (λ (v : ByteView). v.offset) f.ensures) (omega arith) (omega arith); within = tt }

pub returns-then-body-from-2 : goal.returns-then-body-from-2
returns-then-body-from-2 c =
    let a = c.args in
    let f = c.from_bytes-v in
    record { value = no_buffer a.views.now a.at (length a.body.now) a.from a.size f.result.length f.result.offset (ap (λ (v : ByteView). v.length) f.ensures) (ap (λ (v : ByteView). v.offset) f.ensures) (omega arith) (omega arith); within = tt }

pub returns-then-size-start : goal.returns-then-size-start
returns-then-size-start c =
    let a = c.args in
    let f = c.from_bytes-v in
    record { value = no_range a.views.now a.at (length a.body.now) a.from a.size f.result.length f.result.offset (ap (λ (v : ByteView). v.length) f.ensures) (ap (λ (v : ByteView). v.offset) f.ensures) (omega arith) (omega arith) (omega arith); within = tt }

pub returns : goal.returns
returns c =
    let a = c.args in
    let f = c.from_bytes-v in
    record { value = in_data a.views.now a.at (length a.body.now) a.from a.size f.result.length f.result.offset (ap (λ (v : ByteView). v.length) f.ensures) (ap (λ (v : ByteView). v.offset) f.ensures) (omega arith) (omega arith) (omega arith); within = omega arith }
