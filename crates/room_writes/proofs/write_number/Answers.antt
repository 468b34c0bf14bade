-- `puts::write_number` meets its contract. Assumes nothing.
use native.Mathlib.Omega.{arith}
use mathlib.Core.Path.{◌≡◌, ap, ◌∙◌}
use mathlib.Core.List.{List}
use Prim.Native.Nat.{ℕ}
use Rattle.number.specs.Number.{splice, encode}
use Rattle.number.proofs.Laws.{encode_mod}
use Rattle.room_writes.proofs.write_number.Goals as goal

pub returns-in-1 : goal.returns-in-1
returns-in-1 c =
    let a = c.args in
    rw c.in-1.is (c.write.ensures ∙ ap (λ (z : List ℕ). splice a.at z a.room.now) ((ap (encode 1) c.truncate.ensures) ∙ encode_mod 1 a.v))

pub returns-in-2 : goal.returns-in-2
returns-in-2 c =
    let a = c.args in
    rw c.in-2.is (c.write-in-2.ensures ∙ ap (λ (z : List ℕ). splice a.at z a.room.now) ((ap (encode 2) c.truncate-in-2.ensures) ∙ encode_mod 2 a.v))

pub returns-in-4 : goal.returns-in-4
returns-in-4 c =
    let a = c.args in
    rw c.in-4.is (c.write-in-4.ensures ∙ ap (λ (z : List ℕ). splice a.at z a.room.now) ((ap (encode 4) c.truncate-in-4.ensures) ∙ encode_mod 4 a.v))

pub returns-in_default : goal.returns-in_default
returns-in_default c =
    let e : c.args.w ≡ 8 = omega arith in
    rw e c.write-in_default.ensures
