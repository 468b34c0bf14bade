-- `width_loop::leaves::all_fit` meets its contract. Assumes nothing.
use native.Mathlib.Omega.{arith}
use mathlib.Core.Path.{◌∙◌, ap}
use Rattle.recode.specs.Recode.{all_below}
use Rattle.width_loop.proofs.Laws.{all_small, all_most}
use Rattle.width_loop.proofs.leaves.all_fit.Goals as goal

pub returns-then-w-w2 : goal.returns-then-w-w2
returns-then-w-w2 c =
    let a = c.args in
    all_small a.w a.w2 a.body.now a.from a.n c.requires.w_value.0 c.requires.w_value.1 (omega arith) c.requires.n_in_bounds.1

pub returns-then-most-limit : goal.returns-then-most-limit
returns-then-most-limit c =
    let a = c.args in
    all_most a.w a.w2 a.body.now a.from a.n a.most c.half_of-limit.result c.half_of-limit.ensures c.if-most-limit.true c.requires.n_in_bounds.2

pub all_below-requires : goal.all_below-requires
all_below-requires c = record { n_in_bounds = c.requires.n_in_bounds.0; w_value = c.requires.w_value.0 }

pub returns : goal.returns
returns c =
    let a = c.args in
    c.all_below.ensures ∙ ap (λ z. all_below a.w a.body.now a.from z a.n) c.half_of-limit.ensures
