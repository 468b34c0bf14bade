-- WHAT THE WALK LEAVES: the reclaimed column stands, and the walk is never refused. Assumes nothing.
use mathlib.Core.Path.{◌≡◌, refl, sym, ap, subst, ◌∙◌}
use mathlib.Core.Bool.{Bool, true, false, cond, true≢false}
use mathlib.Core.Option.{Option, none, some}
use mathlib.Core.List.{List, [], ◌∷◌, ◌++◌, map}
use Prim.Native.Nat.{ℕ, zero, suc, ◌+◌, ◌*◌, ◌<◌}
use native.Mathlib.Nat.{zero-add, add-zero}
use native.Mathlib.Omega.{arith}
use lib.ListN.{length, replicate}
use lib.Dec.{ltb}
use borrow.Author.Tests.{lt-ltb, lt-leb}
use Rattle.number.specs.Number.{encode}
use Rattle.columnar.specs.Row.{seg}
use Rattle.columnar.specs.Types.{Number, width, Plain, fixed, string, t_dictionary}
use Rattle.columnar.specs.Formed.{FormedPlain}
use Rattle.columnar.specs.Array.{Array, ok, null_count_of}
use Rattle.columnar.specs.Entries.{encodes}
use Rattle.columnar.specs.Plain.{PlainBody}
use Rattle.columnar.specs.Reading.{Column, Source}
use Rattle.schema.specs.formats.Code.{is_fixed, is_string}
use Rattle.model.specs.Try.{done, after}
use Rattle.model.specs.Mutable.{Mutable, zeros, grow, freeze_node}
use Rattle.model.proofs.Law.{BitsFor}
use Rattle.walk.specs.State.{Join, word, code_of, dictionary_of, end_of, bytes_of, keeps_of, rows, nulls, bytes, add_rows, length_of, offset_of}
use Rattle.walk.specs.Log.{put, wrote}
use Rattle.walk.specs.Leaves.{copy_mask}
use Rattle.plan.specs.parts.Parts.{has_offsets}
use Rattle.refinement.specs.walk_is_model.Memory.{Memory, put_in}
use Rattle.refinement.specs.walk_is_model.Holds.{flag, WordedPlain, HoldsBits}
use Rattle.refinement.specs.walk_is_model.Lent.{LentNode, LentPlain}
use Rattle.refinement.specs.walk_is_model.Lent as lends
use Rattle.refinement.proofs.walk_is_model.Goes.{Quiet, quiet_done, quiet_wrote, quiet_need, quiet_then}
use Rattle.refinement.proofs.walk_is_model.Counters.{grown_is, rows_added, rows_other, nulls_of_rows, bytes_of_rows, long_rows}
use Rattle.refinement.proofs.walk_is_model.Mask.{Masked, copy_mask_lem}
use Rattle.refinement.proofs.walk_is_model.Places.{put_here, put_beside, put_other}
use Rattle.refinement.proofs.log_in_room.Found.{between_both}
use Rattle.refinement.proofs.orders.Buffers.{fixed_else}
use Rattle.refinement.specs.orders.Order.{Lent, join_of}
use Rattle.refinement.proofs.opening.Zeros.{empty, gap_of, Fresh, no_counters}
use Rattle.anew.specs.runs.Runs.{ok_at, those}
use Rattle.anew.specs.entries.Used.{kept}
use Rattle.anew.specs.entries.Reclaimed.{copy_each, fresh_node, new_key, reclaimed}
use Rattle.anew.proofs.entries.Reclaim.{never_six}
use Rattle.anew.proofs.entries.Copies.{grown}
use Rattle.anew.specs.Stood.{StoodNode, StoodPlain, Stood}
use Rattle.anew.proofs.Held.{held_plain_lem}
use Rattle.anew.proofs.Reclaimed.{ReclaimedAt, reclaimed_stands}
use Rattle.reclaim.specs.used_entries.Keys.{used, new_keys}
use Rattle.reclaim.specs.reclaim_walk.Walk.{keys_of, first_entry, copy_blocks, reclaim_walk_of}
use Rattle.reclaim.proofs.Rows.{those_same, used_same, keys_written, keys_there}
use Rattle.reclaim.proofs.Entries.{Copied, entries_go, begin}
use Rattle.model.proofs.Names.{counted}

-- what the plan and the tables of a dictionary column give: node 0 its keys, node 1 its entries
pub record Given (x : Lent) (k : Number) (p : Plain) (v : Column (t_dictionary k p)) : Type 0 where
  pub keys_fixed : is_fixed (code_of x.plan 0) ≡ true
  pub keys_wide : bytes_of x.plan 0 ≡ width k
  pub worded : WordedPlain x.plan p 1
  pub no_keys : dictionary_of x.plan 1 ≡ 0
  pub ends : end_of x.plan 1 ≡ 2
  pub rows_keep : keeps_of x.plan 0 ≡ flag (ltb 0 (null_count_of v))
  pub entries_keep : keeps_of x.plan 1 ≡ flag (ltb 0 (null_count_of v.body.values))
  pub in_parts : word x.plan 0 7 ≡ 1
  pub lent_keys : lends.Lent (join_of x 0) (t_dictionary k p) 0 v
  pub lent_values : LentNode (join_of x 0) 1 (LentPlain (join_of x 0) p 1) v.body.values
  pub formed : FormedPlain p
  pub source : Source (t_dictionary k p) v

-- a node is one of numbers or of byte strings
strings_only : (plan : List ℕ) (p : Plain) (i : ℕ) → WordedPlain plan p i → has_offsets (code_of plan i) ≡ is_string (code_of plan i)
strings_only plan (fixed n) i w = let e = fixed_else (code_of plan i) w.0 in rw (e.0, e.3)
strings_only plan (string n) i w = rw w.0

module _ (x : Lent) (k : Number) (p : Plain) (v : Column (t_dictionary k p)) (g : Given x k p v) where
  abbrev y : Join
  y = join_of x 0

  abbrev plan : List ℕ
  plan = x.plan

  abbrev old : Array (PlainBody p)
  old = v.body.values

  -- ---- validity

  abbrev start_bits : Option (List Bool)
  start_bits = cond (ltb 0 (null_count_of v)) (some []) none

  start_holds : HoldsBits plan 0 true start_bits empty
  start_holds = go (ltb 0 (null_count_of v)) g.rows_keep
    where
      go : (b : Bool) → keeps_of plan 0 ≡ flag b → HoldsBits plan 0 true (cond b (some []) none) empty
      go true e = (λ z. omega (arith, e, z), refl)
      go false e = e

  abbrev none_yet : List ℕ
  none_yet = replicate 96 0

  abbrev row_bits : List Bool
  row_bits = seg (ok v.valid) v.off v.len

  mask_there : Quiet empty (λ c μ. Masked plan 0 true (grow true row_bits start_bits) (0 + counted start_bits (zeros row_bits)) none_yet c empty μ) (copy_mask y 0 v.off v.len none_yet)
  mask_there =
      copy_mask_lem y 0 (omega arith) none_yet refl empty v.valid start_bits 0 0 v.off v.len (v.off + v.len) g.lent_keys.valid_is g.source.mask (omega arith) start_holds (start_for (ltb 0 (null_count_of v))) refl refl
      (omega (arith, g.lent_keys.sum))
    where
      start_for : (b : Bool) → BitsFor true (cond b (some []) none) 0
      start_for true = refl
      start_for false = tt

  seg_move : (f : ℕ → Bool) (a b n : ℕ) → seg f (a + b) n ≡ seg (λ i. f (a + i)) b n
  seg_move f a b zero = refl
  seg_move f a b (suc n) = let e : suc (a + b) ≡ a + suc b = omega arith in ap (f (a + b) ∷◌) (ap (λ z. seg f z n) e ∙ seg_move f a (suc b) n)

  bits_held : (μ : Memory) → HoldsBits plan 0 true (grow true row_bits start_bits) μ → 0 < null_count_of v → μ.bits 0 ≡ map flag (seg (ok_at v) 0 v.len)
  bits_held μ h l = go (ltb 0 (null_count_of v)) (lt-ltb 0 (null_count_of v) l) h
    where
      go : (b : Bool) → b ≡ true → HoldsBits plan 0 true (grow true row_bits (cond b (some []) none)) μ → μ.bits 0 ≡ map flag (seg (ok_at v) 0 v.len)
      go true e q = q.1 ∙ ap (map flag) (ap (λ z. seg (ok v.valid) z v.len) (sym (add-zero v.off)) ∙ seg_move (ok v.valid) v.off 0 v.len)
      go false e q = absurd (true≢false (sym e))

  -- ---- the rows are written: validity, keys, their number; node 1 has nothing yet

  abbrev key_bytes : List ℕ
  key_bytes = encodes (width k) (seg (new_key k p v) 0 v.len)

  record Rows (keys : List ℕ) (c : List ℕ) (μ : Memory) : Type 0 where
    long : length c ≡ 96
    rows_none : (j : ℕ) → rows c j ≡ 0
    nulls_none : nulls c 1 ≡ 0
    bytes_none : bytes c 1 ≡ 0
    keys_are : μ.at 0 1 ≡ keys
    bits_are : 0 < null_count_of v → μ.bits 0 ≡ map flag (seg (ok_at v) 0 v.len)
    entries_none : (b : ℕ) → μ.at 1 b ≡ []
    bits_none : μ.bits 1 ≡ []

  no_entry : (q : ℕ) → ◌≡◌ {A = ℕ} (Rattle.walk.specs.State.rows none_yet q) 0
  no_entry q = no_counters 96 (3 * q)

  masked_rows : (c : List ℕ) (μ : Memory) → Masked plan 0 true (grow true row_bits start_bits) (0 + counted start_bits (zeros row_bits)) none_yet c empty μ → Rows [] c μ
  masked_rows c μ m =
      record {
        long = m.long;
        rows_none = λ j. m.rows_same j ∙ no_entry j;
        nulls_none = m.nulls_else 1 (λ e. omega arith);
        bytes_none = m.bytes_same 1;
        keys_are = m.at_same 0 1;
        bits_are = bits_held μ m.bits_are;
        entries_none = λ b. m.at_same 1 b;
        bits_none = m.bits_else 1 (λ e. omega arith);
      }

  keys_put : (c : List ℕ) (μ : Memory) → Rows [] c μ → Quiet μ (Rows key_bytes) (wrote (put 0 1 0 (new_keys (keys_of y) (length_of y 1))) c)
  keys_put c μ r =
      quiet_wrote (put 0 1 0 (new_keys (keys_of y) (length_of y 1))) c (sym (ap length r.keys_are))
      (record {
        long = r.long;
        rows_none = r.rows_none;
        nulls_none = r.nulls_none;
        bytes_none = r.bytes_none;
        keys_are = put_here 0 1 (new_keys (keys_of y) (length_of y 1)) μ ∙ ap (λ b. b ++ new_keys (keys_of y) (length_of y 1)) r.keys_are ∙ keys_written y k p v g.lent_keys g.source g.keys_wide g.lent_values;
        bits_are = r.bits_are;
        entries_none = λ b. (put_other 0 1 (new_keys (keys_of y) (length_of y 1)) μ c 1 (λ e. omega arith)).at_same b ∙ r.entries_none b;
        bits_none = r.bits_none;
      })

  -- ---- before the first entry

  record Begun (c : List ℕ) (μ : Memory) : Type 0 where
    long : length c ≡ 96
    rows_are : rows c 0 ≡ v.len
    keys_are : μ.at 0 1 ≡ key_bytes
    bits_are : 0 < null_count_of v → μ.bits 0 ≡ map flag (seg (ok_at v) 0 v.len)
    fresh : Fresh plan c μ 1

  abbrev counted_rows : List ℕ → List ℕ
  counted_rows c = add_rows 0 v.len c

  -- neither a byte string nor a number is a run-end node
  no_gap : (q : Plain) → WordedPlain plan q 1 → gap_of plan 1 ≡ 0
  no_gap (fixed n) w = let b = between_both 1 10 (code_of plan 1) w.0 in rw (lt-leb 23 (code_of plan 1) (omega (arith, b.1)))
  no_gap (string n) w = let b = between_both 11 14 (code_of plan 1) w.0 in rw (lt-leb 23 (code_of plan 1) (omega (arith, b.1)))

  -- the first zero offset is there, or there is none
  begun : (c : List ℕ) (μ ν : Memory) → Rows key_bytes c μ → ν.at 0 1 ≡ μ.at 0 1 → ν.bits 0 ≡ μ.bits 0 → ν.bits 1 ≡ μ.bits 1 → ν.at 1 2 ≡ []
      → (is_string (code_of plan 1) ≡ true → ν.at 1 1 ≡ encode (bytes_of plan 1) 0) → (is_string (code_of plan 1) ≡ false → ν.at 1 1 ≡ []) → Begun (counted_rows c) ν
  begun c μ ν r a b d e f h =
      let o = strings_only plan p 1 g.worded in
      record {
        long = long_rows 0 v.len c ∙ r.long;
        rows_are = rows_added c r.long 0 (omega arith) v.len ∙ grown_is (rows c 0) v.len (omega (arith, r.rows_none 0, g.lent_keys.sum)) ∙ ap (λ z. z + v.len) (r.rows_none 0) ∙ zero-add v.len;
        keys_are = a ∙ r.keys_are;
        bits_are = λ l. b ∙ r.bits_are l;
        fresh =
            record {
              no_rows = rows_other c 0 v.len 1 (λ q. omega arith) ∙ r.rows_none 1;
              no_nulls = nulls_of_rows c 0 v.len 1 ∙ r.nulls_none;
              first_gap = bytes_of_rows c 0 v.len 1 ∙ r.bytes_none ∙ sym (no_gap p g.worded);
              no_bits = d ∙ r.bits_none;
              zero_offset = λ q. f (sym o ∙ q);
              no_entries = λ q. h (sym o ∙ q);
              no_data = e;
            };
      }

  first_there : (c : List ℕ) (μ : Memory) → Rows key_bytes c μ → Quiet μ Begun (first_entry y (add_rows 0 (length_of y 0) c))
  unfolding first_entry
  first_there c μ r = subst (λ n. Quiet μ Begun (cond (is_string (code_of plan 1)) (wrote (put 1 1 0 (encode (bytes_of plan 1) 0)) (add_rows 0 n c)) (Rattle.walk.specs.Log.done (add_rows 0 n c)))) (sym g.lent_keys.len_is) (go (is_string (code_of plan 1)) refl)
    where
      go : (b : Bool) → is_string (code_of plan 1) ≡ b → Quiet μ Begun (cond b (wrote (put 1 1 0 (encode (bytes_of plan 1) 0)) (counted_rows c)) (Rattle.walk.specs.Log.done (counted_rows c)))
      go true s =
          quiet_wrote (put 1 1 0 (encode (bytes_of plan 1) 0)) (counted_rows c) (sym (ap length (r.entries_none 1)))
          (begun c μ (put_in 1 1 (encode (bytes_of plan 1) 0) μ) r ((put_other 1 1 (encode (bytes_of plan 1) 0) μ c 0 (λ e. omega arith)).at_same 1) refl refl (put_beside 1 1 (encode (bytes_of plan 1) 0) μ 2 (λ e. omega arith) ∙ r.entries_none 2)
          (λ q. put_here 1 1 (encode (bytes_of plan 1) 0) μ ∙ ap (λ z. z ++ encode (bytes_of plan 1) 0) (r.entries_none 1)) (λ q. absurd (true≢false (sym s ∙ q))))
      go false s = quiet_done (counted_rows c) (begun c μ μ r refl refl refl (r.entries_none 2) (λ q. absurd (true≢false (sym q ∙ s))) (λ q. r.entries_none 1))

  -- ---- all entries

  kept_are : those (used (keys_of y)) 0 (length_of y 1) ≡ kept k v
  kept_are = ap (those (used (keys_of y)) 0) g.lent_values.len_is ∙ those_same (used (keys_of y)) (Rattle.anew.specs.entries.Used.used k v) 0 old.len (used_same y k p v g.lent_keys g.source g.keys_wide)

  abbrev whole : Mutable (PlainBody p)
  whole = grown p old (ltb 0 (null_count_of old)) (kept k v)

  entries_there : (c : List ℕ) (μ : Memory) → Begun c μ
      → Quiet μ (λ c' μ'. Begun c μ × Copied y p old refl g.worded g.no_keys g.ends g.lent_values g.formed g.source.slots.child_rule c μ (0 + length_of y 1) whole c' μ') (copy_blocks y (length_of y 1) 0 (length_of y 1) c)
  entries_there c μ b =
      let q = entries_go y p old refl g.worded g.no_keys g.ends g.lent_values g.formed g.source.slots.child_rule c μ (length_of y 1) (length_of y 1) (omega arith) 0 (fresh_node p old) whole c μ (omega (arith, g.lent_values.len_is)) (omega (arith, g.lent_values.sum))
      (begin y p old refl g.worded g.no_keys g.ends g.lent_values g.formed g.source.slots.child_rule c μ b.long b.fresh g.entries_keep) (ap (λ es. copy_each p old es (fresh_node p old)) kept_are ∙ never_six k p v g.formed g.source) in
      record { is_done = q.is_done; in_place = q.in_place; leaves = (b, q.leaves) }

  -- THE RECLAIMED COLUMN STANDS
  module _ (buffers : List ℕ) where
    stands_at : (c c' : List ℕ) (μ μ' : Memory) → Begun c μ → Copied y p old refl g.worded g.no_keys g.ends g.lent_values g.formed g.source.slots.child_rule c μ (0 + length_of y 1) whole c' μ' → ReclaimedAt x buffers c' μ' k p v
    stands_at c c' μ μ' b q =
        let same = q.kept.outside 0 (λ l h. omega arith) in
        record {
          rows_are = same.rows_same ∙ b.rows_are;
          keeps_are = g.rows_keep;
          keys_are = same.at_same 1 ∙ b.keys_are;
          bits_are = λ l. same.bits_same ∙ b.bits_are l;
          has_parts = g.in_parts;
          entries = subst (StoodNode x buffers c' μ' 1 true (StoodPlain x buffers c' μ' p 1)) (sym (ap (λ t. freeze_node true (λ z. z) (after t (fresh_node p old))) (never_six k p v g.formed g.source)))
              (held_plain_lem x buffers c' μ' p 1 (λ j. old) whole q.fine q.holds);
        }

    pub reclaim_leaves : Quiet empty (λ c μ. (length c ≡ 96) × Stood x buffers c μ (t_dictionary k p) 0 (reclaimed k p v)) (reclaim_walk_of y none_yet)
    unfolding reclaim_walk_of
    reclaim_leaves =
        quiet_need _ 12 none_yet (keys_there y k p v g.lent_keys g.source g.keys_wide g.lent_values g.keys_fixed)
        (quiet_then _ mask_at_lem
        (λ c1 μ1 m. quiet_then _ (keys_put c1 μ1 (masked_rows c1 μ1 m))
        (λ c2 μ2 r. quiet_then _ (first_there c2 μ2 r)
        (λ c3 μ3 b. ends (entries_there c3 μ3 b)))))
      where
        mask_at_lem : Quiet empty (λ c μ. Masked plan 0 true (grow true row_bits start_bits) (0 + counted start_bits (zeros row_bits)) none_yet c empty μ) (copy_mask y 0 (offset_of y 0) (length_of y 0) none_yet)
        mask_at_lem = rw (g.lent_keys.off_is, g.lent_keys.len_is) mask_there

        ends : {c3 : List ℕ} {μ3 : Memory}
            → Quiet μ3 (λ c' μ'. Begun c3 μ3 × Copied y p old refl g.worded g.no_keys g.ends g.lent_values g.formed g.source.slots.child_rule c3 μ3 (0 + length_of y 1) whole c' μ') (copy_blocks y (length_of y 1) 0 (length_of y 1) c3)
            → Quiet μ3 (λ c μ. (length c ≡ 96) × Stood x buffers c μ (t_dictionary k p) 0 (reclaimed k p v)) (copy_blocks y (length_of y 1) 0 (length_of y 1) c3)
        ends {c3} {μ3} q =
            record { is_done = q.is_done; in_place = q.in_place; leaves = (q.leaves.1.long, reclaimed_stands x buffers _ _ k p v (stands_at c3 _ μ3 _ q.leaves.0 q.leaves.1)) }
