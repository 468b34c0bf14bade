-- `used_entries::entries::write_used` meets its contract. Assumes nothing.
use mathlib.Core.Path.{◌≡◌, sym, subst}
use mathlib.Core.List.{List}
use Prim.Native.Nat.{ℕ, ◌+◌, ◌*◌, ◌≤◌}
use lib.ListN.{length}
use Rattle.number.specs.Number.{splice}
use Rattle.reclaim.specs.used_entries.Keys.{KeyWidth}
use Rattle.reclaim.specs.used_entries.Chosen.{chosen, risen}
use Rattle.reclaim.proofs.entry_writes.write_used.Goals as goal

pub write_each-requires : goal.write_each-requires
write_each-requires c = subst (λ w. (KeyWidth w × (c.args.count ≤ 512) × (c.args.from + w * c.args.count ≤ length c.args.body.now) × (c.args.to + length ((chosen c.args.body.now c.args.from w (risen c.args.ranks.now) c.args.count)) ≤ length c.args.room.now))) c.in-1.is c.requires

pub write_each-requires-in-2 : goal.write_each-requires-in-2
write_each-requires-in-2 c = subst (λ w. (KeyWidth w × (c.args.count ≤ 512) × (c.args.from + w * c.args.count ≤ length c.args.body.now) × (c.args.to + length ((chosen c.args.body.now c.args.from w (risen c.args.ranks.now) c.args.count)) ≤ length c.args.room.now))) c.in-2.is c.requires

pub write_each-requires-in-4 : goal.write_each-requires-in-4
write_each-requires-in-4 c = subst (λ w. (KeyWidth w × (c.args.count ≤ 512) × (c.args.from + w * c.args.count ≤ length c.args.body.now) × (c.args.to + length ((chosen c.args.body.now c.args.from w (risen c.args.ranks.now) c.args.count)) ≤ length c.args.room.now))) c.in-4.is c.requires

pub write_each-requires-in_default : goal.write_each-requires-in_default
write_each-requires-in_default c = subst (λ w. (KeyWidth w × (c.args.count ≤ 512) × (c.args.from + w * c.args.count ≤ length c.args.body.now) × (c.args.to + length ((chosen c.args.body.now c.args.from w (risen c.args.ranks.now) c.args.count)) ≤ length c.args.room.now))) (let r = c.in_default.in_default-own.rest in (let fact : (c.args.w ≡ 1 → ⊥) → (c.args.w ≡ 2 → ⊥) → (c.args.w ≡ 4 → ⊥) → c.args.w ≡ 8 = c.requires.0 in fact) r.0.0.1 r.0.1 r.1) c.requires

pub returns-in-1 : goal.returns-in-1
returns-in-1 c = (let fact : (w : ℕ) (room : List ℕ) → c.args.w ≡ w → (room ≡ splice c.args.to ((chosen c.args.body.now c.args.from w (risen c.args.ranks.now) c.args.count)) c.args.room.now) → (room ≡ splice c.args.to ((chosen c.args.body.now c.args.from c.args.w (risen c.args.ranks.now) c.args.count)) c.args.room.now) = λ w₁ room₁ e₁ g₁. subst (λ z. (room₁ ≡ splice c.args.to ((chosen c.args.body.now c.args.from z (risen c.args.ranks.now) c.args.count)) c.args.room.now)) (sym e₁) g₁ in fact) 1 c.write_each.new.room c.in-1.is c.write_each.ensures

pub returns-in-2 : goal.returns-in-2
returns-in-2 c = (let fact : (w : ℕ) (room : List ℕ) → c.args.w ≡ w → (room ≡ splice c.args.to ((chosen c.args.body.now c.args.from w (risen c.args.ranks.now) c.args.count)) c.args.room.now) → (room ≡ splice c.args.to ((chosen c.args.body.now c.args.from c.args.w (risen c.args.ranks.now) c.args.count)) c.args.room.now) = λ w₁ room₁ e₁ g₁. subst (λ z. (room₁ ≡ splice c.args.to ((chosen c.args.body.now c.args.from z (risen c.args.ranks.now) c.args.count)) c.args.room.now)) (sym e₁) g₁ in fact) 2 c.write_each-in-2.new.room c.in-2.is c.write_each-in-2.ensures

pub returns-in-4 : goal.returns-in-4
returns-in-4 c = (let fact : (w : ℕ) (room : List ℕ) → c.args.w ≡ w → (room ≡ splice c.args.to ((chosen c.args.body.now c.args.from w (risen c.args.ranks.now) c.args.count)) c.args.room.now) → (room ≡ splice c.args.to ((chosen c.args.body.now c.args.from c.args.w (risen c.args.ranks.now) c.args.count)) c.args.room.now) = λ w₁ room₁ e₁ g₁. subst (λ z. (room₁ ≡ splice c.args.to ((chosen c.args.body.now c.args.from z (risen c.args.ranks.now) c.args.count)) c.args.room.now)) (sym e₁) g₁ in fact) 4 c.write_each-in-4.new.room c.in-4.is c.write_each-in-4.ensures

pub returns-in_default : goal.returns-in_default
returns-in_default c = (let fact : (w : ℕ) (room : List ℕ) → c.args.w ≡ w → (room ≡ splice c.args.to ((chosen c.args.body.now c.args.from w (risen c.args.ranks.now) c.args.count)) c.args.room.now) → (room ≡ splice c.args.to ((chosen c.args.body.now c.args.from c.args.w (risen c.args.ranks.now) c.args.count)) c.args.room.now) = λ w₁ room₁ e₁ g₁. subst (λ z. (room₁ ≡ splice c.args.to ((chosen c.args.body.now c.args.from z (risen c.args.ranks.now) c.args.count)) c.args.room.now)) (sym e₁) g₁ in fact) 8 c.write_each-in_default.new.room (let r = c.in_default.in_default-own.rest in (let fact : (c.args.w ≡ 1 → ⊥) → (c.args.w ≡ 2 → ⊥) → (c.args.w ≡ 4 → ⊥) → c.args.w ≡ 8 = c.requires.0 in fact) r.0.0.1 r.0.1 r.1) c.write_each-in_default.ensures
