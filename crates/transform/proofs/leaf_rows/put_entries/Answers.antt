-- `transform::leaf_rows::put_entries` meets its contract. Assumes nothing.
use mathlib.Core.Path.{◌≡◌, ap, ◌∙◌}
use Prim.Native.Nat.{ℕ, ◌*◌}
use native.Mathlib.Omega.{arith}
use Rattle.schema.specs.formats.Code.{is_view}
use Rattle.walk.specs.State.{code_of}
use Rattle.leaf_walk.specs.Join.{join}
use Rattle.transform.proofs.leaf_rows.Entries.{size_in_lem, view_size, told, put_views, put_numbers, put_keys, keys_wide}
use Rattle.transform.proofs.leaf_rows.put_entries.Goals as goal

pub scale-o-requires : goal.scale-o-requires
scale-o-requires c =
    let a = c.args in
    size_in_lem (code_of a.plan.now a.i) c.requires.bound.0 c.requires.bound.1 c.requires.bound.2 c.requires.bound.3

pub put_views-requires : goal.put_views-requires
put_views-requires c =
    let a = c.args in
    let y : a.w ≡ 16 = c.requires.bound.3 ∙ view_size (code_of a.plan.now a.i) (told is_view c.code_of.ensures c.is_view.ensures c.if-is_view.true) in
    (c.requires.first_bound.2, omega arith, omega (arith, c.place.ensures, c.requires.n_in_bounds, y, ap (λ (v : ℕ). v * a.n) y))

pub returns-then-is_view : goal.returns-then-is_view
returns-then-is_view c =
    let a = c.args in
    λ lengths child. put_views (join a.plan.now a.parts.now lengths a.places.now a.body.now a.first a.source) child a.i a.slot a.n a.counters.now a.room.now c.requires.bound.3 c.place.ensures c.requires.n_in_bounds c.at_u64.ensures c.scale-o.ensures (omega (arith, c.well_formed)) c.requires.bound.0 c.requires.bound.1 c.requires.bound.2 (told is_view c.code_of.ensures c.is_view.ensures c.if-is_view.true) c.base_of-base.ensures c.put_views.ensures

pub returns-then-dictionary_of-eq0 : goal.returns-then-dictionary_of-eq0
returns-then-dictionary_of-eq0 c =
    let a = c.args in
    λ lengths child. put_numbers (join a.plan.now a.parts.now lengths a.places.now a.body.now a.first a.source) child a.i a.slot a.n a.counters.now a.room.now c.requires.bound.3 c.place.ensures c.requires.n_in_bounds c.at_u64.ensures c.scale-o.ensures (omega (arith, c.well_formed)) c.requires.bound.0 c.requires.bound.1 c.requires.bound.2 (told is_view c.code_of.ensures c.is_view.ensures c.if-is_view.false) c.dictionary_of.ensures c.if-dictionary_of-eq0.true c.put_copy.ensures

pub put_keys-requires : goal.put_keys-requires
put_keys-requires c =
    let a = c.args in
    let both = keys_wide (code_of a.plan.now a.i) c.requires.bound.0 c.requires.bound.1 c.requires.bound.2 (told is_view c.code_of.ensures c.is_view.ensures c.if-is_view.false) c.requires.bound.3 in record { i_bound = (c.requires.first_bound.2, omega arith, omega (arith, c.place.ensures, c.requires.n_in_bounds)); w_value = both.0; w_value_2 = both.1 }

pub returns : goal.returns
returns c =
    let a = c.args in
    λ lengths child. put_keys (join a.plan.now a.parts.now lengths a.places.now a.body.now a.first a.source) child a.i a.slot a.n a.counters.now a.room.now c.requires.bound.3 c.place.ensures c.requires.n_in_bounds c.at_u64.ensures c.scale-o.ensures (omega (arith, c.well_formed)) c.requires.bound.0 c.requires.bound.1 c.requires.bound.2 (told is_view c.code_of.ensures c.is_view.ensures c.if-is_view.false) c.dictionary_of.ensures c.if-dictionary_of-eq0.false c.base_of-base-2.ensures c.put_keys.ensures
