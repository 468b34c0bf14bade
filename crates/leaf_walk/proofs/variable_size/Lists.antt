-- The offsets of a list, by the ways that the code goes. Assumes nothing.
use mathlib.Core.Path.{◌≡◌, refl}
use mathlib.Core.Bool.{Bool, true, false, not}
use mathlib.Core.List.{List, [], ◌∷◌}
use Prim.Native.Nat.{ℕ, suc, ◌+◌, ◌*◌, ◌≤◌, ◌<◌}
use native.Mathlib.Numerals.{add-one}
use lib.ListN.{length}
use borrow.Author.Tests.{lt-ltb, le-ltb}
use Rattle.utils.specs.Offsets.{moved_offsets, repeated}
use Rattle.utils.specs.Extension.{extended}
use Rattle.utils.specs.declared.Extended.{Extended}
use Rattle.utils.specs.declared.Extended.TheVariants.{Falls}
use Rattle.array_data.proofs.lent_tables.Laws.{no, yes}
use Rattle.walk.specs.State.{Join, rows, place, rows_in, scaled, grown, top}
use Rattle.walk.specs.Log.{Did, put, apply, apply_if, wrote}
use Rattle.walk.specs.Nulls.{NullWalk, null_list}
use Rattle.walk.proofs.Laws.{need_no, need_ok}
use Rattle.leaf_walk.specs.variable_size.Lists.{tried_offsets}
use Rattle.leaf_walk.proofs.variable_size.Laws.{wrote_next}

-- nothing written leaves the room
pub untouched : (plan parts : List ℕ) (wr : Bool) (room : List ℕ) → room ≡ apply_if plan parts wr [] room
unfolding apply_if apply
untouched plan parts true room = refl
untouched plan parts false room = refl

module _ (x : Join) (w i slot n : ℕ) (c : List ℕ) {at : ℕ} {r : Bool} (e : at ≡ place x i 3) (q : r ≡ rows_in x at w slot (n + 1)) where
  pub offsets_out : not r ≡ true → Falls ≡ tried_offsets x w i slot n c
  unfolding tried_offsets
  offsets_out h = rw (rw (e, add-one n) at (no q h))

  pub offsets_in : {j old : ℕ} {t : Extended} → not r ≡ false → j ≡ suc i → old ≡ rows c j → t ≡ extended w x.body (at + w * slot) n old → t ≡ tried_offsets x w i slot n c
  unfolding tried_offsets
  offsets_in h f g k = rw (rw (e, add-one n) at (yes q h)) (rw (e, g, f) at k)

  pub offsets_put : (wr : Bool) (room : List ℕ) {j old o p s : ℕ} {room2 : List ℕ} → j ≡ suc i → old ≡ rows c j → p ≡ rows c i → s ≡ grown p 1 → o ≡ scaled s w → 1 ≤ w → length room < top
      → room2 ≡ apply_if x.plan x.parts wr (put i 1 o (moved_offsets w x.body (at + w * slot) old n) ∷ []) room
      → room2 ≡ apply_if x.plan x.parts wr (put i 1 (suc (rows c i) * w) (moved_offsets w x.body (place x i 3 + w * slot) (rows c (suc i)) n) ∷ []) room
  unfolding wrote
  offsets_put wr room f g k l m h z a =
      (wrote_next x.plan x.parts wr i 1 (rows c i) w (moved_offsets w x.body (place x i 3 + w * slot) (rows c (suc i)) n) c room k l m h z (rw (e, g, f) at a)).bytes

module _ (x : Join) (child : NullWalk) (wr : Bool) (w i n : ℕ) (c room : List ℕ) where
  pub null_far : {j : ℕ} → j ≡ suc i → 32 ≤ j → Did x.plan x.parts wr (null_list x child w i n c) room 12 c room
  unfolding null_list
  null_far f h = need_no _ (le-ltb (suc i) 32 (rw f at h))

  pub null_near : {j k last o p s : ℕ} {room2 : List ℕ} → j ≡ suc i → j < 32 → k ≡ suc i → last ≡ rows c k → p ≡ rows c i → s ≡ grown p 1 → o ≡ scaled s w → 1 ≤ w → length room < top
      → room2 ≡ apply_if x.plan x.parts wr (put i 1 o (repeated w last n) ∷ []) room → Did x.plan x.parts wr (null_list x child w i n c) room 0 c room2
  unfolding null_list
  null_near f h g k l m t s z a =
      need_ok 12 c (lt-ltb (suc i) 32 (rw f at h))
      (wrote_next x.plan x.parts wr i 1 (rows c i) w (repeated w (rows c (suc i)) n) c room l m t s z (rw (k, g) at a))
