-- `transform::numbers::number_size` meets its contract. Assumes nothing.
use mathlib.Core.Path.{◌≡◌}
use native.Mathlib.Omega.{arith}
use Rattle.transform.proofs.numbers.Laws.{fixed_low, next_code}
use Rattle.transform.proofs.numbers.number_size.Goals as goal

pub returns-in_default : goal.returns-in_default
returns-in_default c =
    let l = fixed_low c.args.code c.requires in
    let a1 = next_code 1 l.0 c.in_default.in_default-own.rest.0.0.0.0.0.0.0.0.1 in
    let a2 = next_code 2 (a1) c.in_default.in_default-own.rest.0.0.0.0.0.0.0.1 in
    let a3 = next_code 3 (a2) c.in_default.in_default-own.rest.0.0.0.0.0.0.1 in
    let a4 = next_code 4 (a3) c.in_default.in_default-own.rest.0.0.0.0.0.1 in
    let a5 = next_code 5 (a4) c.in_default.in_default-own.rest.0.0.0.0.1 in
    let a6 = next_code 6 (a5) c.in_default.in_default-own.rest.0.0.0.1 in
    let a7 = next_code 7 (a6) c.in_default.in_default-own.rest.0.0.1 in
    let a8 = next_code 8 (a7) c.in_default.in_default-own.rest.0.1 in
    let a9 = next_code 9 (a8) c.in_default.in_default-own.rest.1 in
    let e : c.args.code ≡ 10 = omega (arith, l.1, a9) in
    rw e
