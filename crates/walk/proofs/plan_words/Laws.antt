-- Where a write goes, and what comes of it: one that is made and one that is left out. Assumes nothing.
use mathlib.Core.Path.{◌≡◌, refl, sym, ap, ◌∙◌}
use mathlib.Core.Bool.{Bool, true, false, not, ◌&&◌}
use mathlib.Core.List.{List}
use Rattle.std.specs.Prelude.{Some, None}
use Prim.Native.Nat.{ℕ, ◌+◌, ◌-◌, ◌*◌, ◌≤◌}
use lib.ListN.{get_or}
use lib.Dec.{leb}
use borrow.Author.Tests.{leb-true, not-true, not-false}
use Rattle.array_data.proofs.lent_tables.Laws.{no, yes}
use Rattle.walk.specs.State.{part_of}
use Rattle.walk.specs.Log.{start_of, in_room}
use Rattle.walk.specs.plan_words.Target.{target_of, mask_target_of}

-- ---- a range in the room

and_no : (a : Bool) → a && false ≡ false
and_no true = refl
and_no false = refl

-- what a call answered of it
pub room_no : (start o n m : ℕ) {r : Bool} → r ≡ leb (start + o + n) m → not r ≡ true → in_room start o n m ≡ false
unfolding in_room
room_no start o n m e h = no e h

pub room_yes : (start o n m : ℕ) {r : Bool} → r ≡ leb (start + o + n) m → not r ≡ false → in_room start o n m ≡ true
unfolding in_room
room_yes start o n m e h = yes e h

pub inside : (start o n m : ℕ) → in_room start o n m ≡ true → start + o + n ≤ m
unfolding in_room
inside start o n m h = leb-true _ _ h

-- ---- where a write goes

-- the number of the part is one less, cut at 0
pub part_start : (plan parts : List ℕ) (i b : ℕ) {p k r : ℕ} → p ≡ part_of plan i → r ≡ get_or parts k 0 → k ≡ 2 * (p + b - 1) → r ≡ start_of plan parts i b
part_start plan parts i b e g h = g ∙ ap (λ (z : ℕ). get_or parts z 0) (h ∙ ap (λ (z : ℕ). 2 * (z + b - 1)) e)

module _ (plan parts : List ℕ) (m : ℕ) where
  pub skip_tries : (write : Bool) (i b o n : ℕ) → not write ≡ true → None ≡ target_of plan parts m write i b o n
  unfolding target_of
  skip_tries write i b o n h = rw (not-true write h)

  pub skip_room : (write : Bool) (i b o n : ℕ) {start : ℕ} → start ≡ start_of plan parts i b → in_room start o n m ≡ false → None ≡ target_of plan parts m write i b o n
  unfolding target_of
  skip_room write i b o n e h = rw (sym e, h, and_no write)

  pub goes : (write : Bool) (i b o n : ℕ) {start : ℕ} → start ≡ start_of plan parts i b → not write ≡ false → in_room start o n m ≡ true
      → Some (start + o) ≡ target_of plan parts m write i b o n
  unfolding target_of
  goes write i b o n e h r = rw (not-false write h, sym e, r)

  pub mask_skip_tries : (write : Bool) (i p n : ℕ) → not write ≡ true → None ≡ mask_target_of plan parts m write i p n
  unfolding mask_target_of
  mask_skip_tries write i p n h = rw (not-true write h)

  pub mask_skip_room : (write : Bool) (i p n : ℕ) {start : ℕ} → start ≡ start_of plan parts i 0 → in_room (8 * start) p n (8 * m) ≡ false → None ≡ mask_target_of plan parts m write i p n
  unfolding mask_target_of
  mask_skip_room write i p n e h = rw (sym e, h, and_no write)

  pub mask_goes : (write : Bool) (i p n : ℕ) {start : ℕ} → start ≡ start_of plan parts i 0 → not write ≡ false → in_room (8 * start) p n (8 * m) ≡ true
      → Some start ≡ mask_target_of plan parts m write i p n
  unfolding mask_target_of
  mask_goes write i p n e h r = rw (not-false write h, sym e, r)
