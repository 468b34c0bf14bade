-- The table of answers: which grounds name a node, and which have numbers. Assumes nothing.
use Rattle.std.specs.Prelude.{◌≡◌, ℕ, ◌<◌, min}
use Rattle.walk.specs.State.{top}
use Rattle.explain.specs.declared.stops.Why.{Why}
use Rattle.explain.specs.stops.Why.{only, named, clash}

-- "0 where none applies", "else two zeros"
pub data Blank : ℕ → Type 0 where
  accepted : Blank 0
  no_source : Blank 1
  no_rows : Blank 2
  keeps_no_nulls : Blank 3
  too_long : Blank 9
  not_lent : Blank 12
  not_placed : Blank 14

-- the grounds of a union that nulls reach
pub data Homeless : ℕ → Type 0 where
  no_fields : Homeless 4
  no_nullable : Homeless 5

-- "for 6, 7 and 13 the number needed and the largest allowed"
pub data Numbered : ℕ → Type 0 where
  offset : Numbered 6
  run_end : Numbered 7
  part : Numbered 13

-- "for 7 it is .. , for 13 .. , both at row 0"
abbrev pub RowOf : {g : ℕ} → Numbered g → ℕ → Type 0
RowOf offset r = Unit {0}
RowOf run_end r = r ≡ 0
RowOf part r = r ≡ 0

pub data Stated : Why → Type 0 where
  blank : (g : ℕ) → Blank g → Stated (only g)
  homeless : (g i : ℕ) → Homeless g → Stated (named g i)
  -- the needed number "is .. above the allowed one"
  above : (g i r n m : ℕ) (s : Numbered g) → RowOf s r → m < min n top → Stated (clash g i r n m)
