-- A growing node, as the Rust's _MutableArrayData: its length, running null count, validity and data. Assumes nothing.
-- Follows arrow-data 60.1.0 src/transform/mod.rs, Apache-2.0; see NOTICE.
use Rattle.std.specs.Prelude.{Bool, true, false, cond, List, [], ◌∷◌, ◌++◌, ℕ, zero, suc, ◌+◌, ◌*◌, ◌/◌, length, drop, replicate}
use Rattle.std.proofs.Math.Option.{Option, none, some}
use Rattle.columnar.specs.Row.{seg}
use Rattle.columnar.specs.Array.{Array, ok}
use Rattle.model.specs.Try.{Try, done, then}

-- bits: none where the node keeps no nulls; else a bit for each row, none at a union or run-end node. Its buffer's bytes are `pack`.
pub record Mutable (D : Type 0) : Type 0 where
  pub len : ℕ
  pub null_count : ℕ
  pub bits : Option (List Bool)
  pub «data» : D

abbrev pub keeps_bits : Option (List Bool) → Bool
keeps_bits none = false
keeps_bits (some l) = true

-- the first k bits as a number, the lowest first; bits that are missing are 0
abbrev pub bits_number : ℕ → List Bool → ℕ
bits_number zero l = 0
bits_number (suc k) [] = 0
bits_number (suc k) (b ∷ l) = cond b 1 0 + 2 * bits_number k l

-- bits as bytes: eight to a byte; "bits past the length are 0"
unfoldable pub pack : List Bool → List ℕ
pack l = seg (λ k. bits_number 8 (drop (8 * k) l)) 0 ((length l + 7) / 8)

abbrev pub zeros : List Bool → ℕ
zeros [] = 0
zeros (b ∷ l) = cond b 0 1 + zeros l

-- vs behind the bits of a node that keeps nulls and holds validity
abbrev pub grow : Bool → List Bool → Option (List Bool) → Option (List Bool)
grow masks vs none = none
grow true vs (some l) = some (l ++ vs)
grow false vs (some l) = some l

-- a copy at a node: source j's slots from its offset + a on, n of them. f copies the data: sources, which, from, count, the length before.
-- (The Rust copies a source's validity bits, or appends ones where its validity counts as absent: the same bits.)
abbrev pub extend_node : {P D : Type 0} → Bool → ((ℕ → P) → ℕ → ℕ → ℕ → ℕ → D → Try D) → (ℕ → Array P) → ℕ → ℕ → ℕ → Mutable D → Try (Mutable D)
extend_node masks f xs j a n d =
    let vs = seg (ok (xs j).valid) ((xs j).off + a) n in
    then (f (λ i. (xs i).body) j ((xs j).off + a) n d.len d.«data»)
    (λ b. done (record { len = d.len + n; null_count = d.null_count + cond (keeps_bits d.bits) (zeros vs) 0; bits = grow masks vs d.bits; «data» = b }))

-- n nulls at a node: f writes the data: count, the length before. "The running null count counts each null order in full".
abbrev pub nulls_node : {D : Type 0} → Bool → (ℕ → ℕ → D → Try D) → ℕ → Mutable D → Try (Mutable D)
nulls_node masks f zero d = done d
nulls_node masks f (suc n) d =
    then (f (suc n) d.len d.«data»)
    (λ b. done (record { len = d.len + suc n; null_count = d.null_count + cond (keeps_bits d.bits) (suc n) 0; bits = grow masks (replicate (suc n) false) d.bits; «data» = b }))

-- a node with no rows
abbrev pub start_node : {D : Type 0} → Bool → D → Mutable D
start_node keep b = record { len = 0; null_count = 0; bits = cond keep (some []) none; «data» = b }

-- "Finished arrays drop validity if no bit is 0, always for unions and run-end nodes"
abbrev pub validity : Bool → Option (List Bool) → Option (List ℕ)
validity masks none = none
validity false (some l) = none
validity true (some l) = elim (zeros l) [ zero ↦ none | suc n ↦ some (pack l) ]

-- the finished node (`into_builder`)
abbrev pub freeze_node : {P D : Type 0} → Bool → (D → P) → Mutable D → Array P
freeze_node masks f d = record { len = d.len; off = 0; valid = validity masks d.bits; body = f d.«data» }
