-- The same column stored wider (01: "in a format reaching higher, with every entry, bit and length kept, save that a key under a null
-- may be anything"), for offsets and sizes, run ends and keys, at every depth. Assumes nothing.
use Rattle.std.specs.Prelude.{◌≡◌, ◌↔◌, Bool, List, [], ℕ, ◌+◌, ◌*◌, ◌≤◌, ◌<◌, length, get_or, T, ltb}
use Rattle.std.proofs.Math.Option.{Option, none, some}
use Rattle.columnar.specs.Types.{Number, width, limit, Plain, fixed, string, Ty, t_plain, t_view, t_list_view, t_list, t_sparse, t_dense, t_run_end, t_dictionary}
use Rattle.columnar.specs.Array.{Array, item, bit, ok}
use Rattle.columnar.specs.Plain.{Text, PlainBody, stored}
use Rattle.columnar.specs.View.{Views, view_of}
use Rattle.columnar.specs.ListView.{ListView}
use Rattle.columnar.specs.List.{Listed}
use Rattle.columnar.specs.Union.{Sparse, Dense}
use Rattle.columnar.specs.RunEnd.{RunEnd}
use Rattle.columnar.specs.Dictionary.{Dictionary}
use Rattle.columnar.specs.Reading.{Body, Column}
use Rattle.columnar.specs.Test.{member, offsets_rule}

-- ---- types

-- "an integer key format": one that has keys
abbrev pub integer : Number → Bool
integer k = ltb 0 (limit k)

-- a key format that reaches as high as another: u8 to i16 as well as u8 to u16
pub record KeyWider (k k' : Number) : Type 0 where
  pub key : T (integer k)
  pub key' : T (integer k')
  pub reach : limit k ≤ limit k'

-- numbers stay as they are; byte strings may have wider offsets
pub data PlainWider : Plain → Plain → Type 0 where
  w_fixed : (n : Number) → PlainWider (fixed n) (fixed n)
  w_string : (w w' : ℕ) → w ≤ w' → PlainWider (string w) (string w')

-- id c is one of the union's; of others nothing is asked, since no field has them
abbrev pub Declared : List ℕ → ℕ → Type 0
Declared ids c = T (member c ids)

-- A type and the same one with wider offsets and sizes, run ends or keys, here or below: the same tree, ids and nullable flags.
pub data Wider : Ty → Ty → Type 0 where
  w_plain : {p p' : Plain} → PlainWider p p' → Wider (t_plain p) (t_plain p')
  w_view : Wider t_view t_view
  w_list_view : (w w' : ℕ) {t t' : Ty} → w ≤ w' → Wider t t' → Wider (t_list_view w t) (t_list_view w' t')
  w_list : (w w' : ℕ) {t t' : Ty} → w ≤ w' → Wider t t' → Wider (t_list w t) (t_list w' t')
  w_sparse : (ids : List ℕ) {nullable nullable' : ℕ → Bool} {f f' : ℕ → Ty} → ((c : ℕ) → Declared ids c → nullable c ≡ nullable' c)
      → ((c : ℕ) → Declared ids c → Wider (f c) (f' c)) → Wider (t_sparse ids nullable f) (t_sparse ids nullable' f')
  w_dense : (ids : List ℕ) {nullable nullable' : ℕ → Bool} {f f' : ℕ → Ty} → ((c : ℕ) → Declared ids c → nullable c ≡ nullable' c)
      → ((c : ℕ) → Declared ids c → Wider (f c) (f' c)) → Wider (t_dense ids nullable f) (t_dense ids nullable' f')
  w_run_end : (w w' : ℕ) {t t' : Ty} → w ≤ w' → Wider t t' → Wider (t_run_end w t) (t_run_end w' t')
  w_dictionary : (k k' : Number) {p p' : Plain} → KeyWider k k' → PlainWider p p' → Wider (t_dictionary k p) (t_dictionary k' p')

-- ---- buffers: over the slots off .. off + len - 1 of a narrow buffer and a wide one; outside them either may hold anything

-- every entry kept, and the wide buffer holds so many
pub record Entries (w w' : ℕ) (s s' : List ℕ) (off len : ℕ) : Type 0 where
  pub hold : (off + len) * w' ≤ length s'
  pub kept : (i : ℕ) → i < len → item w s (off + i) ≡ item w' s' (off + i)

-- validity, present or absent alike, with every bit kept
pub data Validity (off len : ℕ) : Option (List ℕ) → Option (List ℕ) → Type 0 where
  no_bits : Validity off len none none
  bits : (m m' : List ℕ) → off + len ≤ 8 * length m' → ((i : ℕ) → i < len → bit m (off + i) ≡ bit m' (off + i)) → Validity off len (some m) (some m')

-- AN ARRAY STORED WIDER, where `same` says it of the body, over the narrow array's validity, offset and length
pub record Kept {B B' : Type 0} (same : (ℕ → Bool) → B → B' → ℕ → ℕ → Type 0) (x : Array B) (x' : Array B') : Type 0 where
  pub same_len : x.len ≡ x'.len
  pub same_off : x.off ≡ x'.off
  pub same_valid : Validity x.off x.len x.valid x'.valid
  pub same_body : same (ok x.valid) x.body x'.body x.off x.len

-- ---- bodies

-- numbers: the stored bytes
pub record FixedKept (n : Number) (ok : ℕ → Bool) (b b' : List ℕ) (off len : ℕ) : Type 0 where
  pub hold : (off + len) * width n ≤ length b'
  pub kept : (i : ℕ) → i < len → stored (fixed n) b (off + i) ≡ stored (fixed n) b' (off + i)

-- The offsets of a byte string or list are one more than its rows. Where one of length 0 has an empty offsets buffer there is no entry
-- to keep: the wide one is then empty, or has any that its rule allows.
pub data OffsetsKept (w w' : ℕ) (s s' : List ℕ) (most off len : ℕ) : Type 0 where
  entries : 0 < length s → Entries w w' s s' off (len + 1) → OffsetsKept w w' s s' most off len
  no_entry : len ≡ 0 → s ≡ [] → T (offsets_rule w' s' most off len) → OffsetsKept w w' s s' most off len

pub record TextKept (w w' : ℕ) (ok : ℕ → Bool) (b b' : Text) (off len : ℕ) : Type 0 where
  pub same_offsets : OffsetsKept w w' b.offsets b'.offsets (length b'.chars) off len
  pub same_chars : b.chars ≡ b'.chars

abbrev pub PlainKept : {p p' : Plain} → PlainWider p p' → (ℕ → Bool) → PlainBody p → PlainBody p' → ℕ → ℕ → Type 0
PlainKept (w_fixed n) = FixedKept n
PlainKept (w_string w w' h) = TextKept w w'

-- views, and the data buffers that they name
pub record ViewsKept (ok : ℕ → Bool) (b b' : Views) (off len : ℕ) : Type 0 where
  pub hold : (off + len) * 16 ≤ length b'.views
  pub kept : (i : ℕ) → i < len → view_of b.views (off + i) ≡ view_of b'.views (off + i)
  pub same_buffers : b.buffers ≡ b'.buffers

pub record ListViewKept (w w' : ℕ) {P P' : Type 0} (kid : Array P → Array P' → Type 0) (ok : ℕ → Bool) (b : ListView P) (b' : ListView P') (off len : ℕ) : Type 0 where
  pub same_offsets : Entries w w' b.offsets b'.offsets off len
  pub same_sizes : Entries w w' b.sizes b'.sizes off len
  pub same_child_lem : kid b.child b'.child

pub record ListKept (w w' : ℕ) {P P' : Type 0} (kid : Array P → Array P' → Type 0) (ok : ℕ → Bool) (b : Listed P) (b' : Listed P') (off len : ℕ) : Type 0 where
  pub same_offsets : OffsetsKept w w' b.offsets b'.offsets b'.child.len off len
  pub same_child_lem : kid b.child b'.child

-- type ids: a byte for each row
pub record Ids (s s' : List ℕ) (off len : ℕ) : Type 0 where
  pub hold : off + len ≤ length s'
  pub kept : (i : ℕ) → i < len → get_or s (off + i) 0 ≡ get_or s' (off + i) 0

module _ {P P' : ℕ → Type 0} (declared : ℕ → Type 0) (kid : (c : ℕ) → declared c → Array (P c) → Array (P' c) → Type 0) where
  pub record SparseKept (ok : ℕ → Bool) (b : Sparse P) (b' : Sparse P') (off len : ℕ) : Type 0 where
    pub same_ids_lem : Ids b.ids b'.ids off len
    pub same_children : (c : ℕ) (m : declared c) → kid c m (b.children c) (b'.children c)

  -- positions have one format
  pub record DenseKept (ok : ℕ → Bool) (b : Dense P) (b' : Dense P') (off len : ℕ) : Type 0 where
    pub same_ids_lem : Ids b.ids b'.ids off len
    pub same_positions : Entries 4 4 b.positions b'.positions off len
    pub same_children : (c : ℕ) (m : declared c) → kid c m (b.children c) (b'.children c)

-- run ends are an array of their own
pub record RunEndKept (w w' : ℕ) {P P' : Type 0} (kid : Array P → Array P' → Type 0) (ok : ℕ → Bool) (b : RunEnd P) (b' : RunEnd P') (off len : ℕ) : Type 0 where
  pub same_ends : Kept (λ ok. Entries w w') b.ends b'.ends
  pub same_values : kid b.values b'.values

-- "a key under a null may be anything"; where the values stand is compared among sources, below
pub record DictionaryKept (k k' : Number) {P P' : Type 0} (kid : Array P → Array P' → Type 0) (ok : ℕ → Bool) (b : Dictionary P) (b' : Dictionary P') (off len : ℕ) : Type 0 where
  pub hold : (off + len) * width k' ≤ length b'.keys
  pub kept : (i : ℕ) → i < len → T (ok (off + i)) → item (width k) b.keys (off + i) ≡ item (width k') b'.keys (off + i)
  pub same_values : kid b.values b'.values

abbrev pub Same : {t t' : Ty} → Wider t t' → (ℕ → Bool) → Body t → Body t' → ℕ → ℕ → Type 0
Same (w_plain d) = PlainKept d
Same w_view = ViewsKept
Same (w_list_view w w' h d) = ListViewKept w w' (Kept (Same d))
Same (w_list w w' h d) = ListKept w w' (Kept (Same d))
Same (w_sparse ids e d) = SparseKept (Declared ids) (λ c m. Kept (Same (d c m)))
Same (w_dense ids e d) = DenseKept (Declared ids) (λ c m. Kept (Same (d c m)))
Same (w_run_end w w' h d) = RunEndKept w w' (Kept (Same d))
Same (w_dictionary k k' h d) = DictionaryKept k k' (Kept (PlainKept d))

-- A COLUMN STORED WIDER
abbrev pub Stored : {t t' : Ty} → Wider t t' → Column t → Column t' → Type 0
Stored d = Kept (Same d)

-- ---- sources

-- "Two dictionaries are shared if `ptr_eq` holds: same offset, length, type and start positions, validity likewise"
pub record Shares {P : Type 0} (b c : Dictionary P) : Type 0 where
  pub same_starts : b.starts ≡ c.starts
  pub same_off : b.values.off ≡ c.values.off
  pub same_len : b.values.len ≡ c.values.len

-- "the same sharing of dictionaries": at each dictionary node, of n sources, two wide ones are shared exactly where the narrow are
abbrev pub SharedAlike : {t t' : Ty} → Wider t t' → ℕ → (ℕ → Column t) → (ℕ → Column t') → Type 0
SharedAlike (w_plain d) n ss ss' = Unit {0}
SharedAlike w_view n ss ss' = Unit {0}
SharedAlike (w_list_view w w' h d) n ss ss' = SharedAlike d n (λ i. (ss i).body.child) (λ i. (ss' i).body.child)
SharedAlike (w_list w w' h d) n ss ss' = SharedAlike d n (λ i. (ss i).body.child) (λ i. (ss' i).body.child)
SharedAlike (w_sparse ids e d) n ss ss' =
    (c : ℕ) (m : Declared ids c) → SharedAlike (d c m) n (λ i. (ss i).body.children c) (λ i. (ss' i).body.children c)
SharedAlike (w_dense ids e d) n ss ss' =
    (c : ℕ) (m : Declared ids c) → SharedAlike (d c m) n (λ i. (ss i).body.children c) (λ i. (ss' i).body.children c)
SharedAlike (w_run_end w w' h d) n ss ss' = SharedAlike d n (λ i. (ss i).body.values) (λ i. (ss' i).body.values)
SharedAlike (w_dictionary k k' h d) n ss ss' = (i j : ℕ) → i < n → j < n → Shares (ss i).body (ss j).body ↔ Shares (ss' i).body (ss' j).body

-- N SOURCES STORED WIDER, alike in every source, with the same sharing of dictionaries
pub record Again {t t' : Ty} (d : Wider t t') (n : ℕ) (ss : ℕ → Column t) (ss' : ℕ → Column t') : Type 0 where
  pub each : (i : ℕ) → i < n → Stored d (ss i) (ss' i)
  pub sharing : SharedAlike d n ss ss'
