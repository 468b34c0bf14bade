-- The table of columns in other widths, by computation.
use mathlib.Core.Path.{◌≡◌, refl}
use mathlib.Core.Bool.{true}
use mathlib.Core.List.{[], ◌∷◌, map}
use Rattle.number.specs.Number.{number, encode}
use Rattle.columnar.specs.Types.{t_sparse, t_dense}
use Rattle.columnar.specs.Array.{item, bit}
use Rattle.columnar.specs.Entries.{encodes}
use Rattle.columnar.specs.Reading.{read_all}
use Rattle.columnar.specs.Examples.{i_f_or_s, sparse_slice}
use Rattle.columnar.specs.Test.{test}
use Rattle.model.specs.Mutable.{pack}
use Rattle.anew.specs.widths.Fitting.{converted}
use Rattle.anew.specs.widths.Examples.{convertings}
use Rattle.anew.specs.widths.UnionExamples.{three, flags, i_f_or_wide, wide_sparse, dense_slice, wide_dense, cut_strings, all_strings}

pub examples_pass : map (λ e. test e.from e.column) convertings ≡ map (λ e. true) convertings
unfolding number encode item bit
examples_pass = refl

-- A SLICED COLUMN of each kind up or down, a key of any number under a null, an offset too far under a null, and 6, 7 and 8 at their limits
pub examples_are : map (λ e. record { from = e.from; to = e.to; widths = e.widths; column = e.column; result = converted e.from e.to e.widths e.column }) convertings ≡ convertings
unfolding number encode item bit pack
examples_are = refl

-- A SLICED UNION: its ids from the slice on, the children of a sparse one cut to the rows, those of a dense one kept
pub sparse_is : (wide_sparse.body.ids ≡ 1 ∷ 2 ∷ 1 ∷ 0 ∷ []) × (wide_sparse.body.children 2 ≡ cut_strings)
unfolding number encode item bit pack
sparse_is = (refl, refl)

pub sparse_reads : read_all (t_sparse three flags i_f_or_wide) wide_sparse ≡ sparse_slice.reads
unfolding number encode item bit pack
sparse_reads = refl

pub dense_is : (wide_dense.body.ids ≡ 2 ∷ 0 ∷ 1 ∷ []) × ((wide_dense.body.positions ≡ encodes 4 (5 ∷ 0 ∷ 3 ∷ [])) × (wide_dense.body.children 2 ≡ all_strings))
unfolding number encode item bit pack
dense_is = (refl, (refl, refl))

pub dense_reads : read_all (t_dense three flags i_f_or_wide) wide_dense ≡ read_all (t_dense three flags i_f_or_s) dense_slice
unfolding number encode item bit pack
dense_reads = refl
