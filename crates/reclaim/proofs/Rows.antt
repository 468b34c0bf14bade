-- The keys that lent tables name are those of the column that they hold: the same entries are in use, with the same ranks and new keys.
-- Assumes nothing.
use mathlib.Core.Path.{◌≡◌, refl, sym, ap, ap₂, ◌∙◌}
use mathlib.Core.Bool.{Bool, true, false, not, cond, ◌&&◌, true≢false, ◌||◌}
use mathlib.Core.Option.{Option, none, some}
use mathlib.Core.List.{List, ◌∷◌}
use Prim.Native.Nat.{ℕ, zero, suc, ◌+◌, ◌*◌, ◌≤◌, ◌<◌}
use native.Mathlib.Omega.{arith}
use lib.ListN.{length}
use lib.Dec.{T, ltb, eqb}
use borrow.Author.Tests.{lt-ltb, le-leb}
use Rattle.number.specs.Number.{entry}
use Rattle.columnar.specs.Row.{seg}
use Rattle.columnar.specs.Types.{Number, width, Plain, t_dictionary}
use Rattle.columnar.specs.Array.{ok, Mask}
use Rattle.columnar.specs.Entries.{encodes}
use Rattle.columnar.specs.Reading.{Column, Source}
use Rattle.columnar.proofs.Kept.{seg_same}
use Rattle.schema.specs.formats.Code.{is_fixed}
use Rattle.row_rules.proofs.slots.Tests.{valid_part}
use Rattle.walk.specs.State.{Join, code_of, bytes_of, place, length_of, offset_of, far, rows_in}
use Rattle.refinement.specs.walk_is_model.Lent.{LentValid, LentNode, LentPlain, Lent}
use Rattle.refinement.proofs.walk_is_model.Places.{part_long, part_entry, rows_in_lem}
use Rattle.anew.specs.runs.Runs.{ok_at, those}
use Rattle.anew.specs.entries.Used.{some_below}
use Rattle.anew.specs.entries.Used as typed
use Rattle.anew.specs.entries.Reclaimed as typed-new
use Rattle.reclaim.specs.used_entries.Keys.{Keys, slot_valid, valid_of, key_of, names, used, rank, new_key, new_keys}
use Rattle.reclaim.specs.reclaim_walk.Walk.{keys_of, bits_in, keys_in}

-- ---- tests that agree

pub some_same : (f g : ℕ → Bool) (n : ℕ) → ((i : ℕ) → i < n → f i ≡ g i) → some_below f n ≡ some_below g n
some_same f g zero h = refl
some_same f g (suc n) h = ap₂ ◌||◌ (some_same f g n (λ i l. h i (omega arith))) (h n (omega arith))

pub those_same : (f g : ℕ → Bool) (r n : ℕ) → ((i : ℕ) → f i ≡ g i) → those f r n ≡ those g r n
those_same f g r zero h = refl
those_same f g r (suc n) h = ap₂ (λ b l. cond b (r ∷ l) l) (h r) (those_same f g (suc r) n h)

is_true : (b : Bool) → b ≡ true → T b
is_true true e = tt
is_true false e = absurd (true≢false (sym e))

module _ (y : Join) (k : Number) (p : Plain) (v : Column (t_dictionary k p)) (lent : Lent y (t_dictionary k p) 0 v) (s : Source (t_dictionary k p) v) (wide : bytes_of y.plan 0 ≡ width k) where
  abbrev ks : Keys
  ks = keys_of y

  valid_same : (r : ℕ) → r < v.len → valid_of ks r ≡ ok_at v r
  unfolding valid_of slot_valid
  valid_same r l = ap (λ o. slot_valid y.body (not (eqb (place y 0 0) 0)) (place y 0 1) (o + r)) lent.off_is ∙ go v.valid lent.valid_is s.mask
    where
      go : (valid : Option (List ℕ)) → LentValid y 0 valid → Mask true valid (v.off + v.len) → slot_valid y.body (not (eqb (place y 0 0) 0)) (place y 0 1) (v.off + r) ≡ ok valid (v.off + r)
      go none h m = rw h
      go (some b) h m =
          let w = h.1 in
          let long : v.off + v.len ≤ 8 * place y 0 2 = omega (arith, m, part_long w) in
          rw h.0 (sym (valid_part y.body (place y 0 1) (place y 0 2) v.off v.len long r l) ∙ ap (λ z. ok (some z) (v.off + r)) (sym w.bytes_are))

  key_same : (r : ℕ) → r < v.len → key_of ks r ≡ typed.key_at k v r
  unfolding key_of
  key_same r l =
      ap₂ (λ w o. entry w y.body (place y 0 3) (o + r)) wide lent.off_is
      ∙ part_entry lent.body_is (width k) (v.off + r) (v.off + v.len) (omega arith) s.slots.hold

  names_same : (e r : ℕ) → r < v.len → names ks e r ≡ typed.names k v e r
  names_same e r l = ap₂ (λ b n. b && eqb n e) (valid_same r l) (key_same r l)

  -- THE SAME ENTRIES ARE IN USE
  pub used_same : (e : ℕ) → used ks e ≡ typed.used k v e
  unfolding used
  used_same e = ap (some_below (names ks e)) lent.len_is ∙ some_same (names ks e) (typed.names k v e) v.len (λ i l. names_same e i l)

  pub rank_same : (e : ℕ) → rank ks e ≡ typed.rank k v e
  unfolding rank
  rank_same e = ap length (those_same (used ks) (typed.used k v) 0 e used_same)

  module _ (lent_values : LentNode y 1 (LentPlain y p 1) v.body.values) where
    new_same : (r : ℕ) → r < v.len → new_key ks (length_of y 1) r ≡ typed-new.new_key k p v r
    unfolding new_key
    new_same r l =
        ap₂ (λ b n. cond (b && ltb n (length_of y 1)) (rank ks n) 0) (valid_same r l) (key_same r l) ∙ go (ok_at v r) refl
      where
        go : (b : Bool) → ok_at v r ≡ b → cond (b && ltb (typed.key_at k v r) (length_of y 1)) (rank ks (typed.key_at k v r)) 0 ≡ cond b (typed.rank k v (typed.key_at k v r)) 0
        go true e =
            let w = s.slots.within r l (is_true _ e) in
            rw (lt-ltb (typed.key_at k v r) (length_of y 1) (omega (arith, w, lent_values.len_is))) (rank_same (typed.key_at k v r))
        go false e = refl

    -- THE NEW KEYS ARE THE COLUMN'S
    pub keys_written : new_keys ks (length_of y 1) ≡ encodes (width k) (seg (typed-new.new_key k p v) 0 v.len)
    unfolding new_keys
    keys_written =
        ap₂ (λ w n. encodes w (seg (new_key ks (length_of y 1)) 0 n)) wide lent.len_is
        ∙ ap (encodes (width k)) (seg_same (new_key ks (length_of y 1)) (typed-new.new_key k p v) 0 v.len (λ i l. new_same (0 + i) (omega arith)))

    -- THE KEYS LIE IN THE BODY
    pub keys_there : is_fixed (code_of y.plan 0) ≡ true → keys_in y ≡ true
    unfolding keys_in
    keys_there f =
        rw (f, lt-ltb (offset_of y 0 + length_of y 0) far (omega (arith, lent.sum, lent.off_is, lent.len_is)), lt-ltb (length_of y 1) far (omega (arith, lent_values.sum, lent_values.len_is)), rows) (bits_there v.valid lent.valid_is s.mask)
      where
        rows : rows_in y (place y 0 3) (bytes_of y.plan 0) (offset_of y 0) (length_of y 0) ≡ true
        rows =
            ap (λ w. rows_in y (place y 0 3) w (offset_of y 0) (length_of y 0)) wide ∙ ap₂ (λ o n. rows_in y (place y 0 3) (width k) o n) lent.off_is lent.len_is
            ∙ rows_in_lem y (place y 0 3) (place y 0 4) v.body.keys (width k) v.off v.len lent.body_is s.slots.hold

        bits_there : (valid : Option (List ℕ)) → LentValid y 0 valid → Mask true valid (v.off + v.len) → bits_in y ≡ true
        bits_there none h m = rw h
        bits_there (some b) h m =
            let w = h.1 in
            rw h.0 (le-leb (8 * place y 0 1 + offset_of y 0 + length_of y 0) (8 * length y.body) (omega (arith, m, part_long w, w.inside, lent.off_is, lent.len_is)))
