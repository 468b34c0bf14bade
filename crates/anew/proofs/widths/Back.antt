-- WIDENING AND THEN NARROWING BACK. Assumes nothing.
use mathlib.Core.Path.{◌≡◌, ◌∙◌}
use native.Mathlib.Omega.{arith}
use Rattle.columnar.specs.Types.{Ty}
use Rattle.columnar.specs.Formed.{Formed}
use Rattle.columnar.specs.Reading.{Column, read_all, Source}
use Rattle.model.specs.Try.{done}
use Rattle.anew.specs.widths.Widths.{Widths}
use Rattle.anew.specs.widths.Converted.{column_as}
use Rattle.anew.specs.widths.Fitting.{converted}
use Rattle.anew.specs.widths.Back.{Widening, turned, KeysFit}
use Rattle.anew.proofs.widths.Convert.{convert_accepted, convert_rows, convert_source}
use Rattle.anew.proofs.widths.Widen.{node_fits_lem, widen}
use Rattle.anew.proofs.widths.Narrow.{node_back, narrow}

module _ (t t' : Ty) (d : Widths t t') (ww : Widening d) (g : Formed t) (x : Column t) (s : Source t x) (k : KeysFit t x.body) where
  -- the column stored wider, and that one narrowed back
  abbrev pub wider : Column t'
  wider = column_as t t' d x 0 x.len

  abbrev pub again : Column t
  again = column_as t' t (turned d) wider 0 x.len

  -- WIDENING IS ACCEPTED
  pub widened : converted t t' d x ≡ done wider
  widened = convert_accepted t t' d x (node_fits_lem t t' d (widen t t' d ww g) x s k 0 x.len (omega arith))

  -- NARROWING BACK IS ACCEPTED
  pub narrowed : converted t' t (turned d) wider ≡ done again
  narrowed = convert_accepted t' t (turned d) wider (node_back t t' d (narrow t t' d ww g) x s k 0 x.len (omega arith))

  -- ROWS READ THE SAME AT EACH STEP
  pub wider_rows : read_all t' wider ≡ read_all t x
  wider_rows = convert_rows t t' d x s wider widened

  pub back_rows : read_all t again ≡ read_all t x
  back_rows = convert_rows t' t (turned d) wider (convert_source t t' d x s wider widened) again narrowed ∙ wider_rows
