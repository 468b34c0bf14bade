-- Rows laid out anew: what they read as, that null slots are zeros, that the result is a source, and its nulls. Assumes nothing.
use mathlib.Core.Path.{◌≡◌, refl, sym, ap, ◌∙◌}
use mathlib.Core.Bool.{Bool, true, false, cond}
use mathlib.Core.Option.{Option, none, some}
use mathlib.Core.List.{List, [], ◌∷◌, ◌++◌, map, append_assoc}
use Prim.Native.Nat.{ℕ, zero, suc, ◌+◌, ◌*◌, ◌≤◌, ◌<◌}
use native.Mathlib.Nat.{zero-add, zero-mul, suc-mul, add_comm}
use native.Mathlib.Omega.{arith}
use lib.ListN.{length, drop, get_or, replicate, length-append, length-take, length-drop, length-map, length-replicate}
use lib.Seq.{drop-drop, drop_at, take_at}
use Rattle.columnar.specs.Types.{Number, width, fixed, t_plain}
use Rattle.columnar.specs.Array.{item, ok, sight, null_count_of}
use Rattle.columnar.specs.Plain.{value, stored}
use Rattle.columnar.specs.Reading.{Column, read, Source}
use Rattle.columnar.proofs.Items.{number_take, entry_end}
use Rattle.model.specs.Mutable.{zeros, pack}
use Rattle.model.proofs.Node.{valid_bit_lem}
use Rattle.model.proofs.Joined.{mask_holds}
use Rattle.model.proofs.Start.{no_null_in}
use Rattle.model.proofs.Counters.{bits_count}
use Rattle.anew.specs.runs.Runs.{ok_at, bits_at}
use Rattle.anew.specs.runs.Picked.{cell, cells, picked}

pub get_d_map : {A B : Type 0} (f : A → B) (l : List A) (k : ℕ) (a : A) (b : B) → k < length l → get_or (map f l) k b ≡ f (get_or l k a)
get_d_map f [] k a b h = absurd (omega arith)
get_d_map f (y ∷ l) zero a b h = refl
get_d_map f (y ∷ l) (suc k) a b h = get_d_map f l k a b (omega arith)

-- a row's bytes end within the buffer
pub row_inside : (w off len size i : ℕ) → (off + len) * w ≤ size → i < len → (off + i) * w + w ≤ size
row_inside w off len size i h q = let z : (off + i) * w + w ≤ (off + len) * w = entry_end w (omega arith) in omega arith

-- rows laid out in two parts
pub cells_append : (k : Number) (x : Column (t_plain (fixed k))) (rs ss : List ℕ) → cells k x (rs ++ ss) ≡ cells k x rs ++ cells k x ss
cells_append k x [] ss = refl
cells_append k x (r ∷ rs) ss = ap (cell k x r ++◌) (cells_append k x rs ss) ∙ sym (append_assoc (cell k x r) (cells k x rs) (cells k x ss))

-- each of the rows rs is below len
abbrev pub Inside : List ℕ → ℕ → Type 0
Inside rs len = (j : ℕ) → j < length rs → get_or rs j 0 < len

module _ (k : Number) (x : Column (t_plain (fixed k))) (s : Source (t_plain (fixed k)) x) where
  cell_long : (i : ℕ) → i < x.len → length (cell k x i) ≡ width k
  cell_long i q = go (ok_at x i)
    where
      go : (b : Bool) → length (cond b (stored (fixed k) x.body (x.off + i)) (replicate (width k) 0)) ≡ width k
      go true = simp (length-take, length-drop) (omega (arith, row_inside (width k) x.off x.len (length x.body) i s.slots q))
      go false = length-replicate (width k) 0

  pub cells_long : (rs : List ℕ) → Inside rs x.len → length (cells k x rs) ≡ length rs * width k
  cells_long [] h = sym (zero-mul (width k))
  cells_long (r ∷ rs) h = rw (length-append, cell_long r (h 0 (omega arith)), cells_long rs (λ j q. h (suc j) (omega arith)), suc-mul) (omega arith)

  -- the bytes of slot j are those of the row that it was made of
  stored_cells : (rs : List ℕ) → Inside rs x.len → (j : ℕ) → j < length rs → stored (fixed k) (cells k x rs) j ≡ cell k x (get_or rs j 0)
  stored_cells [] h j q = absurd (omega arith)
  stored_cells (r ∷ rs) h zero q = rw zero-mul (take_at (cell k x r) (cells k x rs) (width k) (cell_long r (h 0 (omega arith))))
  stored_cells (r ∷ rs) h (suc j) q =
      let e : suc j * width k ≡ width k + j * width k = suc-mul j (width k) ∙ add_comm (j * width k) (width k) in
      rw (e, ← drop-drop, drop_at (cell k x r) (cells k x rs) (width k) (cell_long r (h 0 (omega arith)))) (stored_cells rs (λ i p. h (suc i) (omega arith)) j (omega arith))

  module _ (rs : List ℕ) (inside : Inside rs x.len) (j : ℕ) (q : j < length rs) where
    -- a slot is valid where its row is
    pub picked_ok : ok_at (picked k x rs) j ≡ ok_at x (get_or rs j 0)
    picked_ok =
        rw zero-add (valid_bit_lem true (some (map (ok_at x) rs)) (length rs) j (length-map rs (ok_at x)) q) ∙ get_d_map (ok_at x) rs j 0 false q

    -- its number is its row's where that is valid
    picked_bits : ok_at x (get_or rs j 0) ≡ true → bits_at k (picked k x rs) j ≡ bits_at k x (get_or rs j 0)
    unfolding item
    picked_bits e =
        rw (zero-add, ← number_take (width k) (width k) (drop (j * width k) (cells k x rs)) (omega arith), stored_cells rs inside j q, e)
        (number_take (width k) (width k) _ (omega arith))

    -- EACH ROW READS AS THE ROW THAT IT WAS MADE OF
    pub picked_read : read (t_plain (fixed k)) (picked k x rs) j ≡ read (t_plain (fixed k)) x (get_or rs j 0)
    picked_read = ap (λ b. sight b (value k (bits_at k (picked k x rs) j))) picked_ok ∙ go (ok_at x (get_or rs j 0)) refl
      where
        go : (b : Bool) → ok_at x (get_or rs j 0) ≡ b → sight b (value k (bits_at k (picked k x rs) j)) ≡ sight b (value k (bits_at k x (get_or rs j 0)))
        go true e = ap (value k) (picked_bits e)
        go false e = refl

    -- "NULL SLOTS AS ZEROS"
    pub picked_zeros : ok_at (picked k x rs) j ≡ false → stored (fixed k) (cells k x rs) j ≡ replicate (width k) 0
    picked_zeros e = stored_cells rs inside j q ∙ ap (λ b. cond b (stored (fixed k) x.body (x.off + get_or rs j 0)) (replicate (width k) 0)) (sym picked_ok ∙ e)

  -- IT OBEYS THE RULES
  pub picked_source : (rs : List ℕ) → Inside rs x.len → Source (t_plain (fixed k)) (picked k x rs)
  picked_source rs h =
      record {
        mask = rw zero-add (mask_holds (some (map (ok_at x) rs)) (length rs) (length-map rs (ok_at x)));
        slots = rw (zero-add, cells_long rs h) (omega arith);
      }

-- ---- its nulls

module _ (k : Number) (x : Column (t_plain (fixed k))) (rs : List ℕ) where
  -- "NULL COUNTS TAKEN FROM ITS BITS"
  pub picked_count : null_count_of (picked k x rs) ≡ zeros (map (ok_at x) rs)
  picked_count = bits_count true (some (map (ok_at x) rs)) (length rs) (zeros (map (ok_at x) rs)) (length-map rs (ok_at x)) refl

  -- a column without a null gives one without validity: "a node keeping nulls exactly where the node it comes from has one"
  pub picked_none : null_count_of x ≡ 0 → Inside rs x.len → (picked k x rs).valid ≡ none
  picked_none e h = go (zeros (map (ok_at x) rs)) (all_ok rs h)
    where
      all_ok : (l : List ℕ) → Inside l x.len → zeros (map (ok_at x) l) ≡ 0
      all_ok [] h = refl
      all_ok (r ∷ l) h = rw (no_null_in (ok x.valid) x.off x.len e r (h 0 (omega arith)), all_ok l (λ j q. h (suc j) (omega arith)))

      go : (z : ℕ) → z ≡ 0 → ◌≡◌ {A = Option (List ℕ)} (elim z [ zero ↦ none | suc c ↦ some (pack (map (ok_at x) rs)) ]) none
      go zero q = refl
      go (suc c) q = absurd (omega arith)
