use Rattle.std.proofs.Common.{◌≡◌, ◌*◌, ◌/◌, ◌%◌, ◌^◌, ◌≤◌}
use Rattle.aggregates.specs.patterns.Parts.{top_bit, bit_of, kept_in, up_to}
use Rattle.aggregates.proofs.patterns.add_some.Given as goal

abbrev pub invariant-loop-i : goal.invariant-loop-i
invariant-loop-i g l =
    (l.count ≡ up_to (bit_of l.m) l.i)
    × (l.low ≡ up_to (λ k. kept_in l.body l.at g.N.Unsigned.SIZE l.m k % 4294967296) l.i)
    × (l.high ≡ up_to (λ k. kept_in l.body l.at g.N.Unsigned.SIZE l.m k / 4294967296) l.i)
    × (l.below ≡ up_to (λ k. kept_in l.body l.at g.N.Unsigned.SIZE l.m k / 2 ^ top_bit g.N.Unsigned.SIZE) l.i)
    × (l.bits ≡ l.m / 2 ^ l.i)
    × (l.count ≤ l.i)
    × (l.low ≤ l.i * 4294967295)
    × (l.high ≤ l.i * 4294967295)
    × (l.below ≤ l.i)
