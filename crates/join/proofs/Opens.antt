-- What an accepted opening leaves, for the proofs of the demands. Assumes nothing.
use mathlib.Core.Path.{◌≡◌, refl}
use mathlib.Core.Bool.{Bool, true, false}
use Prim.Native.Nat.{ℕ}
use lib.ListN.{length}
use lib.Dec.{leb, eqb}
use Rattle.columns.specs.Grounds.{ceiling, sources_ground}
use Rattle.refinement.specs.opening.Open.{room_placed, opening}
use Rattle.refinement.proofs.opening.Opened.{Opened, opening_runs}
use Rattle.join.specs.Join.{Lending, Bytes, opening_of}

pub runs : (l : Lending) → Bytes l → (opening_of l).refusal ≡ 0 → Opened l.formats l.schema l.sources l.tables l.keep l.gaps l.parts (opening_of l)
runs l b = opening_runs l.formats l.schema l.sources l.tables l.keep l.gaps l.parts l.plan l.counters l.room b.body_bytes b.room_bytes

-- what it is answered before its parts are filled
module _ (l : Lending) where
  abbrev pub sources_answer : ℕ
  sources_answer = sources_ground l.formats l.schema l.tables l.sources

  abbrev pub small : Bool
  small = leb (length l.room) ceiling

  abbrev pub placed : Bool
  placed = room_placed l.formats l.schema l.sources l.tables l.keep l.gaps l.parts l.plan l.counters l.room

  pub room_first : small ≡ false → (opening_of l).refusal ≡ 9
  unfolding opening
  room_first e = rw e refl

  pub sources_next : small ≡ true → eqb sources_answer 0 ≡ false → (opening_of l).refusal ≡ sources_answer
  unfolding opening
  sources_next e f = rw (e, f) refl

  -- 14 where it stands and none of 9 to 12 does
  pub parts_next : small ≡ true → eqb sources_answer 0 ≡ true → placed ≡ false → (opening_of l).refusal ≡ 14
  unfolding opening
  parts_next e f g = rw (e, f, g) refl
