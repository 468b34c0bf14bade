-- `used_entries::write_by` meets its contract. Assumes nothing.
use mathlib.Core.Path.{◌≡◌, sym, subst}
use mathlib.Core.List.{List}
use Prim.Native.Nat.{ℕ, ◌+◌, ◌*◌, ◌≤◌, ◌<◌}
use lib.ListN.{length, get_or}
use Rattle.number.specs.Number.{splice}
use Rattle.columnar.specs.Row.{seg}
use Rattle.columnar.specs.Entries.{encodes}
use Rattle.reclaim.specs.used_entries.Keys.{keys, Within, rank, new_key}
use Rattle.reclaim.proofs.used_entries.write_by.Goals as goal

pub write_block-requires : goal.write_block-requires
write_block-requires c = let both = subst (λ w. ((Within ((keys c.args.body.now w c.args.at c.args.masked c.args.mask c.args.off c.args.n)) × (c.args.to + w * c.args.n ≤ length c.args.room.now) × (c.args.count ≤ 512)) × ((j : ℕ) → j < c.args.count → get_or c.args.ranks.now j 0 ≡ rank ((keys c.args.body.now w c.args.at c.args.masked c.args.mask c.args.off c.args.n)) (c.args.base + j)))) c.in-1.is (c.requires.within, c.requires.by_index) in record { within = both.0; by_index = both.1 }

pub write_block-requires-in-2 : goal.write_block-requires-in-2
write_block-requires-in-2 c = let both = subst (λ w. ((Within ((keys c.args.body.now w c.args.at c.args.masked c.args.mask c.args.off c.args.n)) × (c.args.to + w * c.args.n ≤ length c.args.room.now) × (c.args.count ≤ 512)) × ((j : ℕ) → j < c.args.count → get_or c.args.ranks.now j 0 ≡ rank ((keys c.args.body.now w c.args.at c.args.masked c.args.mask c.args.off c.args.n)) (c.args.base + j)))) c.in-2.is (c.requires.within, c.requires.by_index) in record { within = both.0; by_index = both.1 }

pub write_block-requires-in-4 : goal.write_block-requires-in-4
write_block-requires-in-4 c = let both = subst (λ w. ((Within ((keys c.args.body.now w c.args.at c.args.masked c.args.mask c.args.off c.args.n)) × (c.args.to + w * c.args.n ≤ length c.args.room.now) × (c.args.count ≤ 512)) × ((j : ℕ) → j < c.args.count → get_or c.args.ranks.now j 0 ≡ rank ((keys c.args.body.now w c.args.at c.args.masked c.args.mask c.args.off c.args.n)) (c.args.base + j)))) c.in-4.is (c.requires.within, c.requires.by_index) in record { within = both.0; by_index = both.1 }

pub write_block-requires-in_default : goal.write_block-requires-in_default
write_block-requires-in_default c = let both = subst (λ w. ((Within ((keys c.args.body.now w c.args.at c.args.masked c.args.mask c.args.off c.args.n)) × (c.args.to + w * c.args.n ≤ length c.args.room.now) × (c.args.count ≤ 512)) × ((j : ℕ) → j < c.args.count → get_or c.args.ranks.now j 0 ≡ rank ((keys c.args.body.now w c.args.at c.args.masked c.args.mask c.args.off c.args.n)) (c.args.base + j)))) (let r = c.in_default.in_default-own.rest in (let fact : (c.args.w ≡ 1 → ⊥) → (c.args.w ≡ 2 → ⊥) → (c.args.w ≡ 4 → ⊥) → c.args.w ≡ 8 = c.requires.within.0.width in fact) r.0.0.1 r.0.1 r.1) (c.requires.within, c.requires.by_index) in record { within = both.0; by_index = both.1 }

pub returns-in-1 : goal.returns-in-1
returns-in-1 c = (let fact : (w : ℕ) (room : List ℕ) → c.args.w ≡ w → ((old : List ℕ) → c.args.to + w * c.args.n ≤ length old → c.args.room.now ≡ splice c.args.to (encodes w (seg (new_key ((keys c.args.body.now w c.args.at c.args.masked c.args.mask c.args.off c.args.n)) c.args.base) 0 c.args.n)) old → room ≡ splice c.args.to (encodes w (seg (new_key ((keys c.args.body.now w c.args.at c.args.masked c.args.mask c.args.off c.args.n)) (c.args.base + c.args.count)) 0 c.args.n)) old) → ((old : List ℕ) → c.args.to + c.args.w * c.args.n ≤ length old → c.args.room.now ≡ splice c.args.to (encodes c.args.w (seg (new_key ((keys c.args.body.now c.args.w c.args.at c.args.masked c.args.mask c.args.off c.args.n)) c.args.base) 0 c.args.n)) old → room ≡ splice c.args.to (encodes c.args.w (seg (new_key ((keys c.args.body.now c.args.w c.args.at c.args.masked c.args.mask c.args.off c.args.n)) (c.args.base + c.args.count)) 0 c.args.n)) old) = λ w₁ room₁ e₁ g₁. subst (λ z. ((old : List ℕ) → c.args.to + z * c.args.n ≤ length old → c.args.room.now ≡ splice c.args.to (encodes z (seg (new_key ((keys c.args.body.now z c.args.at c.args.masked c.args.mask c.args.off c.args.n)) c.args.base) 0 c.args.n)) old → room₁ ≡ splice c.args.to (encodes z (seg (new_key ((keys c.args.body.now z c.args.at c.args.masked c.args.mask c.args.off c.args.n)) (c.args.base + c.args.count)) 0 c.args.n)) old)) (sym e₁) g₁ in fact) 1 c.write_block.new.room c.in-1.is c.write_block.ensures

pub returns-in-2 : goal.returns-in-2
returns-in-2 c = (let fact : (w : ℕ) (room : List ℕ) → c.args.w ≡ w → ((old : List ℕ) → c.args.to + w * c.args.n ≤ length old → c.args.room.now ≡ splice c.args.to (encodes w (seg (new_key ((keys c.args.body.now w c.args.at c.args.masked c.args.mask c.args.off c.args.n)) c.args.base) 0 c.args.n)) old → room ≡ splice c.args.to (encodes w (seg (new_key ((keys c.args.body.now w c.args.at c.args.masked c.args.mask c.args.off c.args.n)) (c.args.base + c.args.count)) 0 c.args.n)) old) → ((old : List ℕ) → c.args.to + c.args.w * c.args.n ≤ length old → c.args.room.now ≡ splice c.args.to (encodes c.args.w (seg (new_key ((keys c.args.body.now c.args.w c.args.at c.args.masked c.args.mask c.args.off c.args.n)) c.args.base) 0 c.args.n)) old → room ≡ splice c.args.to (encodes c.args.w (seg (new_key ((keys c.args.body.now c.args.w c.args.at c.args.masked c.args.mask c.args.off c.args.n)) (c.args.base + c.args.count)) 0 c.args.n)) old) = λ w₁ room₁ e₁ g₁. subst (λ z. ((old : List ℕ) → c.args.to + z * c.args.n ≤ length old → c.args.room.now ≡ splice c.args.to (encodes z (seg (new_key ((keys c.args.body.now z c.args.at c.args.masked c.args.mask c.args.off c.args.n)) c.args.base) 0 c.args.n)) old → room₁ ≡ splice c.args.to (encodes z (seg (new_key ((keys c.args.body.now z c.args.at c.args.masked c.args.mask c.args.off c.args.n)) (c.args.base + c.args.count)) 0 c.args.n)) old)) (sym e₁) g₁ in fact) 2 c.write_block-in-2.new.room c.in-2.is c.write_block-in-2.ensures

pub returns-in-4 : goal.returns-in-4
returns-in-4 c = (let fact : (w : ℕ) (room : List ℕ) → c.args.w ≡ w → ((old : List ℕ) → c.args.to + w * c.args.n ≤ length old → c.args.room.now ≡ splice c.args.to (encodes w (seg (new_key ((keys c.args.body.now w c.args.at c.args.masked c.args.mask c.args.off c.args.n)) c.args.base) 0 c.args.n)) old → room ≡ splice c.args.to (encodes w (seg (new_key ((keys c.args.body.now w c.args.at c.args.masked c.args.mask c.args.off c.args.n)) (c.args.base + c.args.count)) 0 c.args.n)) old) → ((old : List ℕ) → c.args.to + c.args.w * c.args.n ≤ length old → c.args.room.now ≡ splice c.args.to (encodes c.args.w (seg (new_key ((keys c.args.body.now c.args.w c.args.at c.args.masked c.args.mask c.args.off c.args.n)) c.args.base) 0 c.args.n)) old → room ≡ splice c.args.to (encodes c.args.w (seg (new_key ((keys c.args.body.now c.args.w c.args.at c.args.masked c.args.mask c.args.off c.args.n)) (c.args.base + c.args.count)) 0 c.args.n)) old) = λ w₁ room₁ e₁ g₁. subst (λ z. ((old : List ℕ) → c.args.to + z * c.args.n ≤ length old → c.args.room.now ≡ splice c.args.to (encodes z (seg (new_key ((keys c.args.body.now z c.args.at c.args.masked c.args.mask c.args.off c.args.n)) c.args.base) 0 c.args.n)) old → room₁ ≡ splice c.args.to (encodes z (seg (new_key ((keys c.args.body.now z c.args.at c.args.masked c.args.mask c.args.off c.args.n)) (c.args.base + c.args.count)) 0 c.args.n)) old)) (sym e₁) g₁ in fact) 4 c.write_block-in-4.new.room c.in-4.is c.write_block-in-4.ensures

pub returns-in_default : goal.returns-in_default
returns-in_default c = (let fact : (w : ℕ) (room : List ℕ) → c.args.w ≡ w → ((old : List ℕ) → c.args.to + w * c.args.n ≤ length old → c.args.room.now ≡ splice c.args.to (encodes w (seg (new_key ((keys c.args.body.now w c.args.at c.args.masked c.args.mask c.args.off c.args.n)) c.args.base) 0 c.args.n)) old → room ≡ splice c.args.to (encodes w (seg (new_key ((keys c.args.body.now w c.args.at c.args.masked c.args.mask c.args.off c.args.n)) (c.args.base + c.args.count)) 0 c.args.n)) old) → ((old : List ℕ) → c.args.to + c.args.w * c.args.n ≤ length old → c.args.room.now ≡ splice c.args.to (encodes c.args.w (seg (new_key ((keys c.args.body.now c.args.w c.args.at c.args.masked c.args.mask c.args.off c.args.n)) c.args.base) 0 c.args.n)) old → room ≡ splice c.args.to (encodes c.args.w (seg (new_key ((keys c.args.body.now c.args.w c.args.at c.args.masked c.args.mask c.args.off c.args.n)) (c.args.base + c.args.count)) 0 c.args.n)) old) = λ w₁ room₁ e₁ g₁. subst (λ z. ((old : List ℕ) → c.args.to + z * c.args.n ≤ length old → c.args.room.now ≡ splice c.args.to (encodes z (seg (new_key ((keys c.args.body.now z c.args.at c.args.masked c.args.mask c.args.off c.args.n)) c.args.base) 0 c.args.n)) old → room₁ ≡ splice c.args.to (encodes z (seg (new_key ((keys c.args.body.now z c.args.at c.args.masked c.args.mask c.args.off c.args.n)) (c.args.base + c.args.count)) 0 c.args.n)) old)) (sym e₁) g₁ in fact) 8 c.write_block-in_default.new.room (let r = c.in_default.in_default-own.rest in (let fact : (c.args.w ≡ 1 → ⊥) → (c.args.w ≡ 2 → ⊥) → (c.args.w ≡ 4 → ⊥) → c.args.w ≡ 8 = c.requires.within.0.width in fact) r.0.0.1 r.0.1 r.1) c.write_block-in_default.ensures
