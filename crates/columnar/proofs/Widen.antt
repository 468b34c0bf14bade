-- Every source can be stored in every wider type: what is said of columns stored wider is said of some. Assumes nothing.
use mathlib.Core.Path.{◌≡◌, refl, sym, ap, ◌∙◌}
use mathlib.Core.Bool.{Bool, true, false}
use mathlib.Core.Option.{Option, none, some}
use mathlib.Core.List.{List, [], ◌∷◌}
use Prim.Native.Nat.{ℕ, zero, suc, ◌+◌, ◌*◌, ◌^◌, ◌≤◌, ◌<◌}
use native.Mathlib.Nat.{add-zero, zero-add, add_assoc, mul-suc, le_refl}
use native.Mathlib.Omega.{arith}
use lib.ListN.{length, get_or}
use lib.Dec.{T}
use Rattle.columnar.specs.Row.{seg}
use Rattle.columnar.specs.Types.{Number, int, uint, w1, w2, w4, w8, f32, f64, width, half, limit, Plain, fixed, string, Ty, t_plain, t_view, t_list_view, t_list, t_sparse, t_dense, t_run_end, t_dictionary}
use Rattle.columnar.specs.Array.{Array, item, ok, Mask, Obeys}
use Rattle.columnar.specs.Entries.{encodes}
use Rattle.columnar.specs.Plain.{PlainBody, OffsetsTo, OffsetsRule, empty, full, PlainRule}
use Rattle.columnar.specs.Reading.{Body, Column, read_all, masks, SlotRule, Source}
use Rattle.columnar.specs.Test.{member}
use Rattle.columnar.specs.Wider.{PlainWider, w_fixed, w_string, Wider, w_plain, w_view, w_list_view, w_list, w_sparse, w_dense, w_run_end, w_dictionary, Entries, Validity, no_bits, bits, Kept, OffsetsKept, entries, no_entry, PlainKept, Same, Stored, SharedAlike, Again}
use Rattle.columnar.proofs.Test.{member_agrees, offsets_rule_agrees}
use Rattle.columnar.proofs.Items.{length_encodes, item_encodes_lt}
use Rattle.columnar.proofs.Kept.{half_mono}
use Rattle.columnar.proofs.Wider.{rows_same, source_wider}

-- ---- buffers

length_seg : {A : Type 0} (f : ℕ → A) (a n : ℕ) → length (seg f a n) ≡ n
length_seg f a zero = refl
length_seg f a (suc n) = ap suc (length_seg f (suc a) n)

get_d_seg : {A : Type 0} (f : ℕ → A) (z : A) (a n i : ℕ) → i < n → get_or (seg f a n) i z ≡ f (a + i)
get_d_seg f z a zero i q = absurd (omega arith)
get_d_seg f z a (suc n) zero q = rw add-zero
get_d_seg f z a (suc n) (suc i) q = let e : suc a + i ≡ a + suc i = omega arith in get_d_seg f z (suc a) n i (omega arith) ∙ ap f e

-- the first n entries, of w bytes, written in w' bytes
abbrev widen_entries : ℕ → ℕ → List ℕ → ℕ → List ℕ
widen_entries w w' s n = encodes w' (seg (item w s) 0 n)

widen_item : (w w' : ℕ) (s : List ℕ) (n i : ℕ) → i < n → item w s i < 256 ^ w' → item w s i ≡ item w' (widen_entries w w' s n) i
widen_item w w' s n i q h =
    let e : get_or (seg (item w s) 0 n) i 0 ≡ item w s i = get_d_seg (item w s) 0 0 n i q ∙ ap (item w s) (zero-add i) in
    sym (item_encodes_lt w' (seg (item w s) 0 n) i (rw length_seg q) (rw e h) ∙ e)

widen_hold : (w w' : ℕ) (s : List ℕ) (n : ℕ) → n * w' ≤ length (widen_entries w w' s n)
widen_hold w w' s n = rw (length_encodes, length_seg) (le_refl (n * w'))

widen_entries_lem : (w w' : ℕ) (s : List ℕ) (off len : ℕ) → ((i : ℕ) → i < len → item w s (off + i) < 256 ^ w') → Entries w w' s (widen_entries w w' s (off + len)) off len
widen_entries_lem w w' s off len h =
    record { hold = widen_hold w w' s (off + len); kept = λ i q. widen_item w w' s (off + len) (off + i) (omega arith) (h i q) }

-- what a signed number of w bytes, or a key, can be is written in the wide one
fits : {w w' : ℕ} (v : ℕ) → w ≤ w' → v < half w → v < 256 ^ w'
fits v ww h = omega (arith, half_mono ww)

limit_fits : (k : Number) → limit k ≤ 256 ^ width k
limit_fits (int w1) = omega arith
limit_fits (uint w1) = omega arith
limit_fits (int w2) = omega arith
limit_fits (uint w2) = omega arith
limit_fits (int w4) = omega arith
limit_fits (uint w4) = omega arith
limit_fits (int w8) = omega arith
limit_fits (uint w8) = omega arith
limit_fits f32 = omega arith
limit_fits f64 = omega arith

-- ---- arrays

abbrev on_array : {B B' : Type 0} → (B → ℕ → B') → Array B → Array B'
on_array f x = record { len = x.len; off = x.off; valid = x.valid; body = f x.body (x.off + x.len) }

valid_self : (b : Bool) (v : Option (List ℕ)) (off len : ℕ) → Mask b v (off + len) → Validity off len v v
valid_self b none off len h = no_bits
valid_self true (some m) off len h = bits m m h (λ i q. refl)
valid_self false (some m) off len h = absurd h

module _ {B B' : Type 0} (f : B → ℕ → B') (rule : (ℕ → Bool) → B → ℕ → ℕ → Type 0) (same : (ℕ → Bool) → B → B' → ℕ → ℕ → Type 0)
    (g : (okay : ℕ → Bool) (b : B) (off len : ℕ) → rule okay b off len → same okay b (f b (off + len)) off len) where
  array_stored : (m : Bool) (x : Array B) → Obeys m rule x → Kept same x (on_array f x)
  array_stored m x s =
      record {
        same_len = refl;
        same_off = refl;
        same_valid = valid_self m x.valid x.off x.len s.mask;
        same_body = g (ok x.valid) x.body x.off x.len s.slots;
      }

-- ---- numbers and byte strings

abbrev widen_offsets : ℕ → ℕ → List ℕ → ℕ → List ℕ
widen_offsets w w' [] n = []
widen_offsets w w' (x ∷ s) n = widen_entries w w' (x ∷ s) n

abbrev widen_plain : {p p' : Plain} → PlainWider p p' → PlainBody p → ℕ → PlainBody p'
widen_plain (w_fixed m) = λ b n. b
widen_plain (w_string w w' h) = λ b n. record { offsets = widen_offsets w w' b.offsets (n + 1); chars = b.chars }

-- a full offsets buffer is not empty
not_empty : (w most off len : ℕ) → OffsetsTo w [] most off len → ⊥
not_empty zero most off len o = omega (arith, o.positive 0 (omega arith))
not_empty (suc w) most off len o = omega (arith, o.hold, mul-suc (off + len + 1) w)

offsets_stored : (w w' : ℕ) → w ≤ w' → (s : List ℕ) (most off len : ℕ) → OffsetsRule w s most off len → OffsetsKept w w' s (widen_offsets w w' s (off + len + 1)) most off len
offsets_stored w w' ww [] most off len (empty e x) = no_entry e refl ((offsets_rule_agrees w' [] most off len).complete (empty e refl))
offsets_stored w w' ww [] most off len (full o) = absurd (not_empty w most off len o)
offsets_stored w w' ww (y ∷ s) most off len (empty e x) = absurd (omega (arith, ap length x))
offsets_stored w w' ww (y ∷ s) most off len (full o) =
    entries (omega arith) (rw add_assoc (widen_entries_lem w w' (y ∷ s) off (len + 1) (λ i q. fits (item w (y ∷ s) (off + i)) ww (o.positive i (omega arith)))))

plain_stored : {p p' : Plain} (d : PlainWider p p') (okay : ℕ → Bool) (b : PlainBody p) (off len : ℕ) → PlainRule p okay b off len
    → PlainKept d okay b (widen_plain d b (off + len)) off len
plain_stored (w_fixed n) okay b off len s = record { hold = s; kept = λ i q. refl }
plain_stored (w_string w w' h) okay b off len s = record { same_offsets = offsets_stored w w' h b.offsets (length b.chars) off len s; same_chars = refl }

-- ---- every type

-- a column of no rows: what a wide union holds at ids that no field has
abbrev blank_plain : (p : Plain) → PlainBody p
blank_plain (fixed n) = []
blank_plain (string w) = record { offsets = []; chars = [] }

abbrev blank : {B : Type 0} → B → Array B
blank b = record { len = 0; off = 0; valid = none; body = b }

abbrev blank_body : (t : Ty) → Body t
blank_body (t_plain p) = blank_plain p
blank_body t_view = record { views = []; buffers = [] }
blank_body (t_list_view w t) = record { offsets = []; sizes = []; child = blank (blank_body t) }
blank_body (t_list w t) = record { offsets = []; child = blank (blank_body t) }
blank_body (t_sparse ids nullable f) = record { ids = []; children = λ c. blank (blank_body (f c)) }
blank_body (t_dense ids nullable f) = record { ids = []; positions = []; children = λ c. blank (blank_body (f c)) }
blank_body (t_run_end w t) = record { ends = blank []; values = blank (blank_body t) }
blank_body (t_dictionary k p) = record { keys = []; values = blank (blank_plain p); starts = [] }

-- one thing where the test holds, which it may use, and else another
abbrev where_holds : {A : Type 0} → (b : Bool) → (T b → A) → A → A
where_holds true f z = f tt
where_holds false f z = z

where_held : {A : Type 0} (b : Bool) (f : T b → A) (z : A) (Q : T b → A → Type 0) → ((m : T b) → Q m (f m)) → (m : T b) → Q m (where_holds b f z)
where_held true f z Q h m = h m
where_held false f z Q h m = absurd m

where_all : {A : Type 0} (b : Bool) (f : ℕ → T b → A) (z : A) (Q : T b → (ℕ → A) → Type 0) → ((m : T b) → Q m (λ i. f i m)) → (m : T b) → Q m (λ i. where_holds b (f i) z)
where_all true f z Q h m = h m
where_all false f z Q h m = absurd m

abbrev widen_body : {t t' : Ty} → Wider t t' → Body t → ℕ → Body t'
widen_body (w_plain d) = widen_plain d
widen_body w_view = λ b n. b
widen_body (w_list_view w w' h d) = λ b n.
    record { offsets = widen_entries w w' b.offsets n; sizes = widen_entries w w' b.sizes n; child = on_array (widen_body d) b.child }
widen_body (w_list w w' h d) = λ b n. record { offsets = widen_offsets w w' b.offsets (n + 1); child = on_array (widen_body d) b.child }
widen_body (w_sparse ids {nullable} {nullable'} {f} {f'} e d) = λ b n.
    record { ids = b.ids; children = λ c. where_holds (member c ids) (λ m. on_array (widen_body (d c m)) (b.children c)) (blank (blank_body (f' c))) }
widen_body (w_dense ids {nullable} {nullable'} {f} {f'} e d) = λ b n.
    record { ids = b.ids; positions = b.positions; children = λ c. where_holds (member c ids) (λ m. on_array (widen_body (d c m)) (b.children c)) (blank (blank_body (f' c))) }
widen_body (w_run_end w w' h d) = λ b n. record { ends = on_array (widen_entries w w') b.ends; values = on_array (widen_body d) b.values }
widen_body (w_dictionary k k' h d) = λ b n.
    record { keys = widen_entries (width k) (width k') b.keys n; values = on_array (widen_plain d) b.values; starts = b.starts }

body_stored : {t t' : Ty} (d : Wider t t') (okay : ℕ → Bool) (b : Body t) (off len : ℕ) → SlotRule t okay b off len → Same d okay b (widen_body d b (off + len)) off len
body_stored (w_plain d) okay b off len s = plain_stored d okay b off len s
body_stored w_view okay b off len s = record { hold = s.hold; kept = λ i q. refl; same_buffers = refl }
body_stored (w_list_view w w' {t} h d) okay b off len s =
    record {
      same_offsets = widen_entries_lem w w' b.offsets off len (λ i q. fits (item w b.offsets (off + i)) h (s.entries i q).offset);
      same_sizes = widen_entries_lem w w' b.sizes off len (λ i q. fits (item w b.sizes (off + i)) h (s.entries i q).size);
      same_child_lem = array_stored (widen_body d) (SlotRule t) (Same d) (body_stored d) (masks t) b.child s.child_rule;
    }
body_stored (w_list w w' {t} h d) okay b off len s =
    record {
      same_offsets = offsets_stored w w' h b.offsets b.child.len off len s.offsets_rule_lem;
      same_child_lem = array_stored (widen_body d) (SlotRule t) (Same d) (body_stored d) (masks t) b.child s.child_rule;
    }
body_stored (w_sparse ids {nullable} {nullable'} {f} {f'} e d) okay b off len s =
    record {
      same_ids_lem = record { hold = s.hold; kept = λ i q. refl };
      same_children = λ c.
          where_held (member c ids) (λ m. on_array (widen_body (d c m)) (b.children c)) (blank (blank_body (f' c))) (λ m. Kept (Same (d c m)) (b.children c))
          (λ m. array_stored (widen_body (d c m)) (SlotRule (f c)) (Same (d c m)) (body_stored (d c m)) (masks (f c)) (b.children c) (s.child_rule c ((member_agrees c ids).sound m)));
    }
body_stored (w_dense ids {nullable} {nullable'} {f} {f'} e d) okay b off len s =
    record {
      same_ids_lem = record { hold = s.hold_ids; kept = λ i q. refl };
      same_positions = record { hold = s.hold_positions; kept = λ i q. refl };
      same_children = λ c.
          where_held (member c ids) (λ m. on_array (widen_body (d c m)) (b.children c)) (blank (blank_body (f' c))) (λ m. Kept (Same (d c m)) (b.children c))
          (λ m. array_stored (widen_body (d c m)) (SlotRule (f c)) (Same (d c m)) (body_stored (d c m)) (masks (f c)) (b.children c) (s.child_rule c ((member_agrees c ids).sound m)));
    }
body_stored (w_run_end w w' {t} h d) okay b off len s =
    record {
      same_ends = record {
        same_len = refl;
        same_off = refl;
        same_valid = valid_self true b.ends.valid b.ends.off b.ends.len s.ends_mask;
        same_body = widen_entries_lem w w' b.ends.body b.ends.off b.ends.len (λ i q. fits (item w b.ends.body (b.ends.off + i)) h (s.positive i q));
      };
      same_values = array_stored (widen_body d) (SlotRule t) (Same d) (body_stored d) (masks t) b.values s.child_rule;
    }
body_stored (w_dictionary k k' {p} h d) okay b off len s =
    record {
      hold = widen_hold (width k) (width k') b.keys (off + len);
      kept = λ i q t. widen_item (width k) (width k') b.keys (off + len) (off + i) (omega arith) (omega (arith, s.positive i q t, h.reach, limit_fits k'));
      same_values = array_stored (widen_plain d) (PlainRule p) (PlainKept d) (plain_stored d) true b.values s.child_rule;
    }

abbrev pub widen : {t t' : Ty} → Wider t t' → Column t → Column t'
widen d = on_array (widen_body d)

-- EVERY SOURCE CAN BE STORED WIDER
pub widen_stored : {t t' : Ty} (d : Wider t t') (x : Column t) → Source t x → Stored d x (widen d x)
widen_stored {t} d x s = array_stored (widen_body d) (SlotRule t) (Same d) (body_stored d) (masks t) x s

-- it then reads the same and is a source
pub widen_rows : {t t' : Ty} (d : Wider t t') (x : Column t) → Source t x → read_all t x ≡ read_all t' (widen d x)
widen_rows d x s = rows_same d (widen_stored d x s) s

pub widen_source : {t t' : Ty} (d : Wider t t') (x : Column t) → Source t x → Source t' (widen d x)
widen_source d x s = source_wider d (widen_stored d x s) s

-- and it can be done with the same sharing of dictionaries
widen_shared : {t t' : Ty} (d : Wider t t') (n : ℕ) (ss : ℕ → Column t) → SharedAlike d n ss (λ i. widen d (ss i))
widen_shared (w_plain d) n ss = tt
widen_shared w_view n ss = tt
widen_shared (w_list_view w w' h d) n ss = widen_shared d n (λ i. (ss i).body.child)
widen_shared (w_list w w' h d) n ss = widen_shared d n (λ i. (ss i).body.child)
widen_shared (w_sparse ids {nullable} {nullable'} {f} {f'} e d) n ss = λ c.
    where_all (member c ids) (λ i m. on_array (widen_body (d c m)) ((ss i).body.children c)) (blank (blank_body (f' c))) (λ m. SharedAlike (d c m) n (λ i. (ss i).body.children c))
    (λ m. widen_shared (d c m) n (λ i. (ss i).body.children c))
widen_shared (w_dense ids {nullable} {nullable'} {f} {f'} e d) n ss = λ c.
    where_all (member c ids) (λ i m. on_array (widen_body (d c m)) ((ss i).body.children c)) (blank (blank_body (f' c))) (λ m. SharedAlike (d c m) n (λ i. (ss i).body.children c))
    (λ m. widen_shared (d c m) n (λ i. (ss i).body.children c))
widen_shared (w_run_end w w' h d) n ss = widen_shared d n (λ i. (ss i).body.values)
widen_shared (w_dictionary k k' h d) n ss = λ i j p q. (
  (λ h. record { same_starts = h.same_starts; same_off = h.same_off; same_len = h.same_len }),
  (λ h. record { same_starts = h.same_starts; same_off = h.same_off; same_len = h.same_len }),
)

pub widen_again : {t t' : Ty} (d : Wider t t') (n : ℕ) (ss : ℕ → Column t) → ((i : ℕ) → i < n → Source t (ss i)) → Again d n ss (λ i. widen d (ss i))
widen_again d n ss s = record { each = λ i q. widen_stored d (ss i) (s i q); sharing = widen_shared d n ss }
