-- The number of two halves. Assumes nothing.
use Rattle.std.specs.Prelude.{ℕ, ◌+◌, ◌*◌}
use Rattle.aggregates.specs.declared.wide.Wide.{Wide}

abbrev pub value_of : Wide → ℕ
value_of x = x.hi * 18446744073709551616 + x.lo
