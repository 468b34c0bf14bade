-- Nulls at a leaf, tried and made. Assumes nothing.
use mathlib.Core.Path.{◌≡◌, refl, ap, subst, ◌∙◌}
use mathlib.Core.Bool.{Bool, true, false, not, cond}
use mathlib.Core.List.{List, [], ◌∷◌}
use Prim.Native.Nat.{ℕ, suc, ◌+◌, ◌*◌, ◌≤◌, ◌<◌}
use native.Mathlib.Omega.{arith}
use lib.ListN.{length, replicate, length-set}
use lib.Seq.{get_or-set_other}
use lib.Dec.{eqb}
use borrow.Author.Tests.{lt-ltb}
use Rattle.schema.specs.formats.Code.{is_fixed, is_string, is_view, width_of}
use Rattle.utils.specs.Offsets.{repeated}
use Rattle.room_writes.proofs.Bytes.{width_in_lem}
use Rattle.walk.specs.State.{Join, code_of, keeps_of, bytes_of, rows, nulls, bytes, grown, scaled, top, add_rows, add_nulls, set_bytes}
use Rattle.walk.specs.Log.{Entry, put, mask, Out, Did, apply_if, done, wrote, next}
use Rattle.walk.specs.Leaves.{null_mask, null_numbers, null_string}
use Rattle.walk.specs.Copy.{masked}
use Rattle.walk.specs.Nulls.{NullWalk, null_data, null_walk}
use Rattle.walk.proofs.Laws.{wrote_did}
use Rattle.leaf_walk.specs.Join.{join}
use Rattle.leaf_walk.proofs.Laws.{wrote_at}
use Rattle.leaf_walk.proofs.Widths.{string_width}
use Rattle.leaf_walk.proofs.variable_size.Laws.{wrote_next}
use Rattle.nested_rows.proofs.node_data.Laws.{null_numbers_lem, null_string_lem, null_views, nulls_masked, on_numbers, on_string, on_views}
use Rattle.extend.proofs.NullLaws.{at_done}
use Rattle.plan.specs.parts.Parts.{entry_size, parts_within, parts_hold}
use Rattle.sound.specs.trying.Alike.{Alike}
use Rattle.sound.proofs.trying.Laws.{alike_refl}
use Rattle.sound.proofs.trying.Near.{near_same}
use Rattle.refinement.specs.orders.Order.{settled}
use Rattle.transform.specs.Answer.{lent, Answers}
use Rattle.transform.proofs.Laws.{settled_parts, settled_made}
use Rattle.transform.proofs.leaf_counters.Laws.{holds_rows}
use Rattle.transform.proofs.leaf_rows.Entries.{fixed_size, string_size, view_size, is_number, is_views, not_number}
use Rattle.transform.proofs.leaf_rows.Text.{not_fixed}

-- the widths of a byte string's offsets
pub string_in : (code : ℕ) → is_string code ≡ true → {w : ℕ} → w ≡ width_of code → ((1 ≤ w) × (w ≤ 16)) × ((w ≡ 4 → ⊥) → w ≡ 8)
string_in code s {w} e =
    let wide : (w ≡ 4 → ⊥) → w ≡ 8 = λ f. e ∙ string_width code s (λ z. f (e ∙ z)) in
    (width_in_lem w (λ p q. wide), wide)

-- ---- data: one write, never refused

module _ (x : Join) (child : NullWalk) (i n : ℕ) (c : List ℕ) where
  record Written : Type 0 where
    pub entry : Entry
    pub is : wrote entry c ≡ null_data x child (code_of x.plan i) i n c

  written : 1 ≤ code_of x.plan i → code_of x.plan i < 17 → Written
  unfolding null_numbers null_string
  written a b = go (is_fixed (code_of x.plan i)) refl (is_string (code_of x.plan i)) refl
    where
      go : (t : Bool) → is_fixed (code_of x.plan i) ≡ t → (u : Bool) → is_string (code_of x.plan i) ≡ u → Written
      go true e u k =
          record { entry = put i 1 (rows c i * bytes_of x.plan i) (replicate (n * bytes_of x.plan i) 0); is = null_numbers_lem x child (code_of x.plan i) i n c e }
      go false e true k =
          record { entry = put i 1 (suc (rows c i) * bytes_of x.plan i) (repeated (bytes_of x.plan i) (bytes c i) n); is = null_string_lem x child (code_of x.plan i) i n c e k }
      go false e false k =
          record { entry = put i 1 (rows c i * 16) (replicate (n * 16) 0); is = null_views x child (code_of x.plan i) i n c e k (is_views (code_of x.plan i) a b k e) }

  pub data_dry : (room : List ℕ) → 1 ≤ code_of x.plan i → code_of x.plan i < 17 → Did x.plan x.parts false (null_data x child (code_of x.plan i) i n c) room 0 c room
  unfolding apply_if
  data_dry room a b =
      let w = written a b in
      subst (λ o. Did x.plan x.parts false o room 0 c room) w.is (wrote_did false w.entry c room room refl)

module _ (x : Join) (child : NullWalk) (i n : ℕ) (c room : List ℕ) {w p o : ℕ} {room2 : List ℕ} (e : w ≡ entry_size (code_of x.plan i)) (l : p ≡ rows c i) (z : length room < top) where
  -- as the code writes them
  pub put_zeros : 1 ≤ code_of x.plan i → code_of x.plan i < 17 → is_string (code_of x.plan i) ≡ false → o ≡ scaled p w
      → room2 ≡ apply_if x.plan x.parts true (put i 1 o (replicate (n * w) 0) ∷ []) room → Did x.plan x.parts true (null_data x child (code_of x.plan i) i n c) room 0 c room2
  unfolding null_numbers
  put_zeros a b s m g = go (is_view (code_of x.plan i)) refl
    where
      made : Did x.plan x.parts true (wrote (put i 1 (rows c i * w) (replicate (n * w) 0)) c) room 0 c room2
      made = wrote_at x.plan x.parts true i 1 (rows c i) w (replicate (n * w) 0) c room l m z g

      go : (t : Bool) → is_view (code_of x.plan i) ≡ t → Did x.plan x.parts true (null_data x child (code_of x.plan i) i n c) room 0 c room2
      go true v =
          let y : w ≡ 16 = e ∙ view_size (code_of x.plan i) v in
          on_views x child true i n c room refl refl refl (not_number (code_of x.plan i) v) refl s refl v (rw y at made)
      go false v =
          let y = is_number (code_of x.plan i) a b s v in
          on_numbers x child true i n c room refl (e ∙ fixed_size (code_of x.plan i) y) refl y made

  pub put_repeated : {q last : ℕ} → is_string (code_of x.plan i) ≡ true → q ≡ grown p 1 → o ≡ scaled q w → last ≡ bytes c i
      → room2 ≡ apply_if x.plan x.parts true (put i 1 o (repeated w last n) ∷ []) room → Did x.plan x.parts true (null_data x child (code_of x.plan i) i n c) room 0 c room2
  unfolding null_string
  put_repeated s q m k g =
      let y = e ∙ string_size (code_of x.plan i) s in
      on_string x child true i n c room refl y refl (not_fixed (code_of x.plan i) s) refl s
      (wrote_next x.plan x.parts true i 1 (rows c i) w (repeated w (bytes c i) n) c room l q m (string_in (code_of x.plan i) s y).0.0 z (rw k at g))

-- ---- validity

module _ (x : Join) (i n : ℕ) (c : List ℕ) where
  pub mask_alike : Alike (null_mask x i n c).counters c
  unfolding null_mask next wrote done
  mask_alike = go (eqb (keeps_of x.plan i) 0)
    where
      go : (t : Bool) → Alike (cond t (done c) (next (wrote (mask i (rows c i) (replicate n 0)) c) (λ c2. done (add_nulls i n c2)))).counters c
      go true = alike_refl c
      go false =
          record {
            size = length-set c (3 * i + 1) (grown (nulls c i) n);
            rows_same = λ j. get_or-set_other c (3 * i + 1) (3 * j) (grown (nulls c i) n) 0 (λ (q : 3 * j ≡ 3 * i + 1). omega arith);
            bytes_same = λ j. get_or-set_other c (3 * i + 1) (3 * j + 2) (grown (nulls c i) n) 0 (λ (q : 3 * j + 2 ≡ 3 * i + 1). omega arith);
          }

  pub mask_dry : (room : List ℕ) → Did x.plan x.parts false (null_mask x i n c) room 0 (null_mask x i n c).counters room
  unfolding null_mask next wrote done apply_if
  mask_dry room = record { answer = go (eqb (keeps_of x.plan i) 0); counters = refl; bytes = refl }
    where
      go : (t : Bool) → 0 ≡ (cond t (done c) (next (wrote (mask i (rows c i) (replicate n 0)) c) (λ c2. done (add_nulls i n c2)))).ans
      go true = refl
      go false = refl

-- ---- the order

module _ (plan parts sources lengths places body : List ℕ) (i n : ℕ) (c room : List ℕ) (some : n ≡ 0 → ⊥) (low : i < 32) (a : 1 ≤ code_of plan i) (b : code_of plan i < 17) where
  abbrev x : Join
  x = join plan parts [] [] [] 0 0

  abbrev walk : List ℕ → Out
  walk l = null_walk x 8 i n l

  abbrev Settled : ℕ → List ℕ → List ℕ → Type 0
  Settled g c2 room2 = Answers (settled (lent plan parts sources lengths places body) c room (walk c)) g c2 room2

  masks : masked (code_of plan i) ≡ true
  masks = lt-ltb (code_of plan i) 21 (omega arith)

  tried : Did plan parts false (walk c) room 0 (add_rows i n (null_mask x i n c).counters) room
  tried =
      at_done x false 8 i n c room (λ q. omega arith) some low (data_dry x (null_walk x 7) i n c room a b) refl
      (nulls_masked x false i n c room refl refl (ap not masks) (mask_dry x i n c room)) refl refl

  module _ {bs p : ℕ} (e : bs ≡ bytes c i) (q : p ≡ cond (parts_within plan parts (length room)) (cond (parts_hold plan (set_bytes i bs (add_rows i n c)) parts) 0 13) 14) {c1 : List ℕ} (s : c1 ≡ c) where
    asked : p ≡ cond (parts_within plan parts (length room)) (cond (parts_hold plan (add_rows i n (null_mask x i n c).counters) parts) 0 13) 14
    asked = q ∙ ap (λ (t : Bool). cond (parts_within plan parts (length room)) (cond t 0 13) 14) (holds_rows plan parts i n c (mask_alike x i n c) e)

    pub nulls_refused : (p ≡ 0 → ⊥) → Settled p c1 room
    nulls_refused h = rw s (settled_parts (lent plan parts sources lengths places body) c room walk (near_same refl) tried refl asked h)

    pub nulls_made : {room1 c3 room2 c4 : List ℕ} → p ≡ 0 → Did plan parts true (null_data x (null_walk x 7) (code_of plan i) i n c1) room 0 c1 room1
        → Did plan parts true (null_mask x i n c1) room1 0 c3 room2 → c4 ≡ add_rows i n c3 → Settled 0 c4 room2
    nulls_made {room1} {c3} {room2} h d m k =
        let d2 : Did plan parts true (null_data x (null_walk x 7) (code_of plan i) i n c) room 0 c room1 = subst (λ y. Did plan parts true (null_data x (null_walk x 7) (code_of plan i) i n y) room 0 y room1) s d in
        let m2 : Did plan parts true (null_mask x i n c) room1 0 c3 room2 = subst (λ y. Did plan parts true (null_mask x i n y) room1 0 c3 room2) s m in
        settled_made (lent plan parts sources lengths places body) c room walk (near_same refl) tried refl asked h refl
        (at_done x true 8 i n c room (λ q2. omega arith) some low d2 refl (nulls_masked x true i n c room1 refl refl (ap not masks) m2) refl k)
        refl
