-- `columns::has_few_buffers` meets its contract. Assumes nothing.
use mathlib.Core.Path.{sym}
use mathlib.Core.Bool.{not}
use mathlib.Core.List.{[]}
use Prim.Native.Nat.{◌+◌}
use native.Mathlib.Omega.{arith}
use borrow.Author.Tests.{le-leb, lt-leb}
use Rattle.schema.specs.formats.Code.{is_view}
use Rattle.schema.specs.Tree.{code_of}
use Rattle.schema.proofs.Shapes.{or_right, or_left}
use Rattle.array_data.specs.Tables.{place}
use Rattle.array_data.specs.lent_tables.Lent.{tables}
use Rattle.columns.specs.Grounds.{few_buffers}
use Rattle.columns.proofs.has_few_buffers.Goals as goal

pub returns-then-place-le32 : goal.returns-then-place-le32
unfolding few_buffers
returns-then-place-le32 c =
    let z = c.args in
    sym (or_right (not (is_view (code_of z.formats.now z.schema.now z.first z.i))) _ (le-leb (place (tables [] z.places.now []) (z.first + z.i) 8) 32 (omega (arith, c.place.ensures, c.if-place-le32.true))))

pub returns : goal.returns
unfolding few_buffers
returns c =
    let z = c.args in
    let q = lt-leb (place (tables [] z.places.now []) (z.first + z.i) 8) 32 (omega (arith, c.place.ensures, c.if-place-le32.false)) in
    cc (or_left (not (is_view (code_of z.formats.now z.schema.now z.first z.i))) _ q)
