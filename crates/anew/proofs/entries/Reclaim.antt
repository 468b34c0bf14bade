-- A reclaimed column: its rows, its entries and its keys, and that it can be lent again. Assumes nothing.
use mathlib.Core.Path.{◌≡◌, refl, sym, ap, ap₂, ◌∙◌}
use mathlib.Core.Bool.{Bool, true, false, cond, true≢false}
use mathlib.Core.Option.{some}
use mathlib.Core.List.{map}
use Prim.Native.Nat.{ℕ, zero, suc, ◌+◌, ◌-◌, ◌^◌, ◌≤◌, ◌<◌}
use native.Mathlib.Nat.{zero-add, one-le-pow}
use native.Mathlib.Omega.{arith}
use lib.ListN.{length, get_or}
use lib.Dec.{T, ltb}
use Rattle.columnar.specs.Row.{seg}
use Rattle.columnar.specs.Types.{Number, int, uint, w1, w2, w4, w8, f32, f64, width, limit, Plain, t_dictionary}
use Rattle.columnar.specs.Formed.{FormedPlain}
use Rattle.columnar.specs.Array.{Array, ok, sight, read_with, null_count_of}
use Rattle.columnar.specs.Plain.{PlainBody}
use Rattle.columnar.specs.Dictionary.{entry_at}
use Rattle.columnar.specs.Reading.{Column, read, read_all, Source}
use Rattle.columnar.proofs.Items.{length_encodes, item_encodes_lt}
use Rattle.columnar.proofs.Kept.{seg_same}
use Rattle.model.specs.Try.{done}
use Rattle.model.proofs.Bits.{length_seg, get_d_seg}
use Rattle.model.proofs.Node.{valid_bit_lem}
use Rattle.model.proofs.Joined.{mask_holds}
use Rattle.anew.specs.runs.Runs.{ok_at}
use Rattle.anew.proofs.runs.Picked.{Inside}
use Rattle.anew.specs.entries.Used.{key_at, used, rank, kept}
use Rattle.anew.specs.entries.Reclaimed.{copy_each, fresh_node, new_key, reclaimed}
use Rattle.anew.proofs.entries.Ranks.{Naming, used_named, named_used, rank_le, kept_at, kept_below, kept_are, kept_high, kept_once}
use Rattle.anew.proofs.entries.Built.{Holds, Long}
use Rattle.anew.proofs.entries.Copies.{bytes_at, chosen, grown, copies_done, laid_out_lem}
use Rattle.anew.proofs.entries.Chosen.{long_source, those_hold, chosen_read, chosen_source}

-- a key that fits its format is a number of its bytes
limit_fits : (k : Number) → limit k ≤ 256 ^ width k
limit_fits (int w1) = omega arith
limit_fits (uint w1) = omega arith
limit_fits (int w2) = omega arith
limit_fits (uint w2) = omega arith
limit_fits (int w4) = omega arith
limit_fits (uint w4) = omega arith
limit_fits (int w8) = omega arith
limit_fits (uint w8) = omega arith
limit_fits f32 = omega arith
limit_fits f64 = omega arith

is_true : (b : Bool) → b ≡ true → T b
is_true true e = tt
is_true false e = absurd (true≢false (sym e))

holds_true : (b : Bool) → T b → b ≡ true
holds_true true t = refl
holds_true false t = absurd t

-- "the number of entries is the number of distinct keys in use": the entries kept are the keys of valid rows, each once
pub record InUse (k : Number) (p : Plain) (x : Column (t_dictionary k p)) : Type 0 where
  pub count : (reclaimed k p x).body.values.len ≡ length (kept k x)
  pub is_key : (j : ℕ) → j < length (kept k x) → Naming k x (get_or (kept k x) j 0)
  pub key_at_lem : (i : ℕ) → i < x.len → ok_at x i ≡ true → get_or (kept k x) (rank k x (key_at k x i)) 0 ≡ key_at k x i
  pub key_in_lem : (i : ℕ) → i < x.len → ok_at x i ≡ true → rank k x (key_at k x i) < length (kept k x)
  pub once : (a b : ℕ) → a < length (kept k x) → b < length (kept k x) → get_or (kept k x) a 0 ≡ get_or (kept k x) b 0 → a ≡ b

module _ (k : Number) (p : Plain) (x : Column (t_dictionary k p)) (g : FormedPlain p) (s : Source (t_dictionary k p) x) where
  abbrev old : Array (PlainBody p)
  old = x.body.values

  pub kept_inside : Inside (kept k x) old.len
  kept_inside j q = (kept_are k x j q).below

  pub kept_holds : Holds p (map (bytes_at p old) (kept k x))
  kept_holds = those_hold (used k x) p (ok old.valid) old.body old.off old.len g s.slots.child_rule.slots

  kept_long : (j : ℕ) → j < length (kept k x) → Long p old.body (old.off + get_or (kept k x) j 0)
  kept_long j q = long_source p (ok old.valid) old.body old.off old.len s.slots.child_rule.slots (get_or (kept k x) j 0) (kept_inside j q)

  -- NO COPY OF AN ENTRY IS REFUSED
  pub never_six : copy_each p old (kept k x) (fresh_node p old) ≡ done (grown p old (ltb 0 (null_count_of old)) (kept k x))
  never_six = copies_done p old (kept k x) kept_long kept_holds

  -- the entries, laid out
  pub values_are : (reclaimed k p x).body.values ≡ chosen p old (kept k x)
  values_are = laid_out_lem p old (kept k x) kept_inside kept_long kept_holds

  entries_count : (reclaimed k p x).body.values.len ≡ length (kept k x)
  entries_count = ap (λ (a : Array (PlainBody p)). a.len) values_are

  -- a key in use
  module _ (i : ℕ) (q : i < x.len) (v : ok_at x i ≡ true) where
    key_within : key_at k x i < old.len
    key_within = s.slots.within i q (is_true _ v)

    key_fits_lem : key_at k x i < limit k
    key_fits_lem = s.slots.positive i q (is_true _ v)

    -- it stands among the entries kept, at its rank
    pub key_kept : get_or (kept k x) (rank k x (key_at k x i)) 0 ≡ key_at k x i
    key_kept = kept_at k x (key_at k x i) key_within (named_used k x i q v)

    pub key_below : rank k x (key_at k x i) < length (kept k x)
    key_below = kept_below k x (key_at k x i) key_within (named_used k x i q v)

  -- THE NUMBER OF ENTRIES IS THE NUMBER OF DISTINCT KEYS IN USE
  pub entries_are : InUse k p x
  entries_are =
      record {
        count = entries_count;
        is_key = λ j q. used_named k x (get_or (kept k x) j 0) (kept_are k x j q).passes;
        key_at_lem = key_kept;
        key_in_lem = key_below;
        once = kept_once k x;
      }

  module _ (i : ℕ) (q : i < x.len) where
    pub new_ok : ok_at (reclaimed k p x) i ≡ ok_at x i
    new_ok =
        rw zero-add (valid_bit_lem true (some (seg (ok_at x) 0 x.len)) x.len i (length_seg (ok_at x) 0 x.len) q)
        ∙ get_d_seg (ok_at x) 0 x.len i false q
        ∙ ap (ok_at x) (zero-add i)

    new_fits : new_key k p x i < 256 ^ width k
    new_fits = go (ok_at x i) refl
      where
        go : (b : Bool) → ok_at x i ≡ b → cond b (rank k x (key_at k x i)) 0 < 256 ^ width k
        go true e = omega (arith, rank_le k x (key_at k x i), key_fits_lem i q e, limit_fits k)
        go false e = one-le-pow (width k) 256 (omega arith)

    pub new_key_lem : key_at k (reclaimed k p x) i ≡ new_key k p x i
    new_key_lem =
        let e : get_or (seg (new_key k p x) 0 x.len) i 0 ≡ new_key k p x i = get_d_seg (new_key k p x) 0 x.len i 0 q ∙ ap (new_key k p x) (zero-add i) in
        rw zero-add (item_encodes_lt (width k) (seg (new_key k p x) 0 x.len) i (rw length_seg q) (rw e new_fits)) ∙ e

    -- "RENUMBER THE KEYS"
    pub valid_key : ok_at x i ≡ true → key_at k (reclaimed k p x) i ≡ rank k x (key_at k x i)
    valid_key e = new_key_lem ∙ ap (λ b. cond b (rank k x (key_at k x i)) 0) e

    -- "KEYS UNDER NULLS BECOME 0"
    pub null_key : ok_at x i ≡ false → key_at k (reclaimed k p x) i ≡ 0
    null_key e = new_key_lem ∙ ap (λ b. cond b (rank k x (key_at k x i)) 0) e

    -- EVERY ROW READS AS BEFORE
    pub same_row_lem : read (t_dictionary k p) (reclaimed k p x) i ≡ read (t_dictionary k p) x i
    same_row_lem = ap (λ b. sight b (read_with (entry_at p) (reclaimed k p x).body.values (key_at k (reclaimed k p x) i))) new_ok ∙ go (ok_at x i) refl
      where
        go : (b : Bool) → ok_at x i ≡ b → sight b (read_with (entry_at p) (reclaimed k p x).body.values (key_at k (reclaimed k p x) i)) ≡ sight b (read_with (entry_at p) old (key_at k x i))
        go true e =
            ap₂ (read_with (entry_at p)) values_are (valid_key e)
            ∙ chosen_read p old (kept k x) kept_inside kept_holds (rank k x (key_at k x i)) (key_below i q e)
            ∙ ap (read_with (entry_at p) old) (key_kept i q e)
        go false e = refl

  pub same_rows : read_all (t_dictionary k p) (reclaimed k p x) ≡ read_all (t_dictionary k p) x
  same_rows = seg_same (read (t_dictionary k p) (reclaimed k p x)) (read (t_dictionary k p) x) 0 x.len (λ i q. rw (zero-add i) (same_row_lem i q))

  -- NO KEY CAN BE TOO LARGE: the entries kept are no more than the keys of the format
  pub keys_fit_lem : length (kept k x) ≤ limit k
  keys_fit_lem = go (length (kept k x)) refl
    where
      go : (n : ℕ) → length (kept k x) ≡ n → n ≤ limit k
      go zero e = omega arith
      go (suc n) e =
          let z = used_named k x (get_or (kept k x) n 0) (kept_are k x n (omega arith)).passes in
          omega (arith, key_fits_lem z.row z.below z.valid, z.names_it, kept_high k x n (omega arith))

  -- IT OBEYS THE RULES, so that it can be lent again
  pub reclaimed_source : Source (t_dictionary k p) (reclaimed k p x)
  reclaimed_source =
      record {
        mask = rw zero-add (mask_holds (some (seg (ok_at x) 0 x.len)) x.len (length_seg (ok_at x) 0 x.len));
        slots =
            record {
              hold = rw (length_encodes, length_seg, zero-add) (omega arith);
              positive = λ i q t.
                  let v = sym (new_ok i q) ∙ holds_true _ t in rw (valid_key i q v) (omega (arith, rank_le k x (key_at k x i), key_fits_lem i q v));
              within = λ i q t. let v = sym (new_ok i q) ∙ holds_true _ t in rw (valid_key i q v, entries_count) (key_below i q v);
              child_rule = rw values_are (chosen_source p old (kept k x) kept_inside kept_holds);
            };
      }
