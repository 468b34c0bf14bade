-- `pattern_sums::read_pattern` meets its contract. Assumes nothing.
use Rattle.std.proofs.Common.{◌≡◌, ℕ, List, sym, ap, ◌∙◌, arith}
use Rattle.number.specs.Number.{number}
use Rattle.aggregates.proofs.patterns.read_pattern.Goals as goal

read_by : (s : List ℕ) (w k x : ℕ) → x ≡ number k s → w ≡ k → x ≡ number w s
read_by s w k x e f = e ∙ ap (λ n. number n s) (sym f)

pub read-requires-in_default : goal.read-requires-in_default
read-requires-in_default c = let r = c.in_default.in_default-own.rest in omega (arith, c.requires.0 r.0.0.1 r.0.1 r.1, c.requires.1)

pub returns-in-1 : goal.returns-in-1
returns-in-1 c = read_by _ _ 1 _ c.read.ensures c.in-1.is

pub returns-in-2 : goal.returns-in-2
returns-in-2 c = read_by _ _ 2 _ c.read-in-2.ensures c.in-2.is

pub returns-in-4 : goal.returns-in-4
returns-in-4 c = read_by _ _ 4 _ c.read-in-4.ensures c.in-4.is

pub returns-in_default : goal.returns-in_default
returns-in_default c = let r = c.in_default.in_default-own.rest in read_by _ _ 8 _ c.read-in_default.ensures (c.requires.0 r.0.0.1 r.0.1 r.1)
