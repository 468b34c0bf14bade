-- `stop_walks::strings::bytes_ground` meets its contract. Assumes nothing.
use mathlib.Core.Path.{refl, sym, ◌∙◌}
use Rattle.explain.proofs.strings.bytes_ground.Goals as goal

pub returns-then-fits_behind : goal.returns-then-fits_behind
returns-then-fits_behind c = rw (sym c.fits_behind.ensures ∙ c.if-fits_behind.true) refl

pub returns : goal.returns
returns c = rw (sym c.fits_behind.ensures ∙ c.if-fits_behind.false) refl
