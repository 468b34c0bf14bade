-- `bits::count_zeros` meets its contract. Assumes nothing.
use mathlib.Core.Path.{◌≡◌, ◌∙◌}
use Prim.Native.Nat.{◌+◌, ◌*◌, ◌-◌, ◌/◌, ◌%◌}
use native.Mathlib.Omega.{arith}
use Rattle.bits.proofs.Puts.{zeros_bits_at}
use Rattle.bits.proofs.Steps.{three_runs}
use Rattle.bits.proofs.count_zeros.Goals as goal

pub returns-then-k-n : goal.returns-then-k-n
returns-then-k-n c =
    let z = c.args in
    let f : 8 * (z.from + z.a / 8) + z.a % 8 ≡ 8 * z.from + z.a = omega arith in
    let g : c.first-k.result ≡ z.n = c.if-k-n.true in
    c.count_fields-head.ensures ∙ rw (f, g)

pub overflow_add-result : goal.overflow_add-result
overflow_add-result c =
    let z = c.args in
    let k = c.first-k.result in
    let m = (z.n - k) / 64 in
    let t = three_runs z.body.now (8 * z.from + z.a) k (64 * m) ((z.n - k) % 64) z.n (8 * (z.from + z.a / 8) + z.a % 8) (8 * (z.from + z.a / 8 + 1)) (8 * (z.from + z.a / 8 + 1 + 8 * m) + 0) c.count_fields-head.result c.count_words-words.result c.count_fields-rest.result
    (omega arith) (omega arith) (omega arith) (omega arith) c.count_fields-head.ensures c.count_words-words.ensures c.count_fields-rest.ensures in
    omega (arith, t, zeros_bits_at (8 * z.from + z.a) z.n z.body.now)

pub overflow_add-result-2 : goal.overflow_add-result-2
overflow_add-result-2 c =
    let z = c.args in
    let k = c.first-k.result in
    let m = (z.n - k) / 64 in
    let t = three_runs z.body.now (8 * z.from + z.a) k (64 * m) ((z.n - k) % 64) z.n (8 * (z.from + z.a / 8) + z.a % 8) (8 * (z.from + z.a / 8 + 1)) (8 * (z.from + z.a / 8 + 1 + 8 * m) + 0) c.count_fields-head.result c.count_words-words.result c.count_fields-rest.result
    (omega arith) (omega arith) (omega arith) (omega arith) c.count_fields-head.ensures c.count_words-words.ensures c.count_fields-rest.ensures in
    omega (arith, t, zeros_bits_at (8 * z.from + z.a) z.n z.body.now)

pub returns : goal.returns
returns c =
    let z = c.args in
    let k = c.first-k.result in
    let m = (z.n - k) / 64 in
    let t = three_runs z.body.now (8 * z.from + z.a) k (64 * m) ((z.n - k) % 64) z.n (8 * (z.from + z.a / 8) + z.a % 8) (8 * (z.from + z.a / 8 + 1)) (8 * (z.from + z.a / 8 + 1 + 8 * m) + 0) c.count_fields-head.result c.count_words-words.result c.count_fields-rest.result
    (omega arith) (omega arith) (omega arith) (omega arith) c.count_fields-head.ensures c.count_words-words.ensures c.count_fields-rest.ensures in
    t
