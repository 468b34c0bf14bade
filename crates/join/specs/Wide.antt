-- SOURCES STORED WIDER (01: "in a format reaching higher, with every entry, bit and length kept, save that a key under a null may be anything"), as one relation
-- between all sources of a join and those of another, at every depth. It is what `Wider` and `Again` of columnar say (proofs/Wide.antt). Assumes nothing.
use Rattle.std.specs.Prelude.{◌≡◌, Bool, true, ℕ, ◌+◌, ◌*◌, ◌≤◌, ◌<◌, length, get_or, T}
use mathlib.Core.List.{List, [], Memᴰ}
use Rattle.columnar.specs.Types.{Number, width, limit, Plain, fixed, string, Ty, t_plain, t_view, t_list_view, t_list, t_sparse, t_dense, t_run_end, t_dictionary}
use Rattle.columnar.specs.Array.{Array, item}
use Rattle.columnar.specs.Plain.{stored}
use Rattle.columnar.specs.View.{view_of}
use Rattle.columnar.specs.Reading.{Column}
use Rattle.columnar.specs.Test.{offsets_rule}
use Rattle.columnar.specs.Wider.{Kept}
use Rattle.array_data.specs.Sources.{first_of, nodes_of}
use Rattle.array_data.specs.Typed.{tables_from, placed}
use Rattle.array_data.specs.type_tree.Lent.{tree_of}
use Rattle.columns.specs.Grounds.{sources_ground}
use Rattle.model.specs.Opening.{ptr_eq}
use Rattle.join.specs.Join.{Lending, sources_in}

-- over the slots off .. off + len - 1 of a narrow buffer and a wide one, whose slots have `size` bytes: it holds so many, and each that is asked reads the same
pub record Slots {A : Type 0} (size : ℕ) (narrow wide : List ℕ → ℕ → A) (asked : ℕ → Bool) (s s' : List ℕ) (off len : ℕ) : Type 0 where
  pub hold : (off + len) * size ≤ length s'
  pub kept : (i : ℕ) → i < len → T (asked (off + i)) → narrow s (off + i) ≡ wide s' (off + i)

-- all of them, of numbers of w bytes
abbrev pub Numbers : ℕ → ℕ → List ℕ → List ℕ → ℕ → ℕ → Type 0
Numbers w w' = Slots w' (item w) (item w') (λ i. true)

-- offsets: one more than the rows; where a column of length 0 has none, the wide one has none or any that its rule allows (`most`: the bytes or child rows)
pub data Offsets (w w' : ℕ) (s s' : List ℕ) (most off len : ℕ) : Type 0 where
  offsets : 0 < length s → Numbers w w' s s' off (len + 1) → Offsets w w' s s' most off len
  no_offset : len ≡ 0 → s ≡ [] → T (offsets_rule w' s' most off len) → Offsets w w' s s' most off len

-- n arrays with the lengths, offsets and validity of n others, where `same` says it of the bodies
abbrev pub AllKept : {B B' : Type 0} → ℕ → ((ℕ → Bool) → B → B' → ℕ → ℕ → Type 0) → (ℕ → Array B) → (ℕ → Array B') → Type 0
AllKept n same ss ss' = (i : ℕ) → i < n → Kept same (ss i) (ss' i)

-- N SOURCES of type t AND THE SAME STORED WIDER, of type t': here or below with wider offsets and sizes, run ends or keys; the same tree, ids and nullable
-- flags, and two dictionaries shared exactly where the narrow ones are
pub data Wide (n : ℕ) : (t t' : Ty) → (ℕ → Column t) → (ℕ → Column t') → Type 0 where
  wide_numbers : (k : Number) (ss ss' : ℕ → Column (t_plain (fixed k)))
      → AllKept n (λ ok. Slots (width k) (stored (fixed k)) (stored (fixed k)) (λ i. true)) ss ss' → Wide n (t_plain (fixed k)) (t_plain (fixed k)) ss ss'
  wide_strings : (w w' : ℕ) (ss : ℕ → Column (t_plain (string w))) (ss' : ℕ → Column (t_plain (string w'))) → w ≤ w'
      → AllKept n (λ ok b b' off len. Offsets w w' b.offsets b'.offsets (length b'.chars) off len × (b.chars ≡ b'.chars)) ss ss' → Wide n (t_plain (string w)) (t_plain (string w')) ss ss'
  wide_views : (ss ss' : ℕ → Column t_view)
      → AllKept n (λ ok b b' off len. Slots 16 view_of view_of (λ i. true) b.views b'.views off len × (b.buffers ≡ b'.buffers)) ss ss' → Wide n t_view t_view ss ss'
  wide_list_views : (w w' : ℕ) {t t' : Ty} (ss : ℕ → Column (t_list_view w t)) (ss' : ℕ → Column (t_list_view w' t')) → w ≤ w'
      → AllKept n (λ ok b b' off len. Numbers w w' b.offsets b'.offsets off len × Numbers w w' b.sizes b'.sizes off len) ss ss'
      → Wide n t t' (λ i. (ss i).body.child) (λ i. (ss' i).body.child) → Wide n (t_list_view w t) (t_list_view w' t') ss ss'
  wide_lists : (w w' : ℕ) {t t' : Ty} (ss : ℕ → Column (t_list w t)) (ss' : ℕ → Column (t_list w' t')) → w ≤ w'
      → AllKept n (λ ok b b' off len. Offsets w w' b.offsets b'.offsets b'.child.len off len) ss ss'
      → Wide n t t' (λ i. (ss i).body.child) (λ i. (ss' i).body.child) → Wide n (t_list w t) (t_list w' t') ss ss'
  wide_sparse : (ids : List ℕ) {nullable nullable' : ℕ → Bool} {f f' : ℕ → Ty} (ss : ℕ → Column (t_sparse ids nullable f)) (ss' : ℕ → Column (t_sparse ids nullable' f'))
      → AllKept n (λ ok b b' off len. Slots 1 (λ s i. get_or s i 0) (λ s i. get_or s i 0) (λ i. true) b.ids b'.ids off len) ss ss'
      → ((c : ℕ) → Memᴰ c ids → nullable c ≡ nullable' c) → ((c : ℕ) → Memᴰ c ids → Wide n (f c) (f' c) (λ i. (ss i).body.children c) (λ i. (ss' i).body.children c))
      → Wide n (t_sparse ids nullable f) (t_sparse ids nullable' f') ss ss'
  wide_dense : (ids : List ℕ) {nullable nullable' : ℕ → Bool} {f f' : ℕ → Ty} (ss : ℕ → Column (t_dense ids nullable f)) (ss' : ℕ → Column (t_dense ids nullable' f'))
      → AllKept n (λ ok b b' off len. Slots 1 (λ s i. get_or s i 0) (λ s i. get_or s i 0) (λ i. true) b.ids b'.ids off len × Numbers 4 4 b.positions b'.positions off len) ss ss'
      → ((c : ℕ) → Memᴰ c ids → nullable c ≡ nullable' c) → ((c : ℕ) → Memᴰ c ids → Wide n (f c) (f' c) (λ i. (ss i).body.children c) (λ i. (ss' i).body.children c))
      → Wide n (t_dense ids nullable f) (t_dense ids nullable' f') ss ss'
  wide_run_ends : (w w' : ℕ) {t t' : Ty} (ss : ℕ → Column (t_run_end w t)) (ss' : ℕ → Column (t_run_end w' t')) → w ≤ w'
      → AllKept n (λ ok b b' off len. Kept (λ ok. Numbers w w') b.ends b'.ends) ss ss'
      → Wide n t t' (λ i. (ss i).body.values) (λ i. (ss' i).body.values) → Wide n (t_run_end w t) (t_run_end w' t') ss ss'
  wide_dictionaries : (k k' : Number) {p p' : Plain} (ss : ℕ → Column (t_dictionary k p)) (ss' : ℕ → Column (t_dictionary k' p')) → 0 < limit k → limit k ≤ limit k'
      → AllKept n (λ ok b b'. Slots (width k') (item (width k)) (item (width k')) ok b.keys b'.keys) ss ss'
      → Wide n (t_plain p) (t_plain p') (λ i. (ss i).body.values) (λ i. (ss' i).body.values)
      → ((i j : ℕ) → i < n → j < n → ptr_eq (ss i).body (ss j).body ≡ ptr_eq (ss' i).body (ss' j).body) → Wide n (t_dictionary k p) (t_dictionary k' p') ss ss'

-- what the request asks of the wide sources beside: "within 01's limits" (9), formats that 01 has (10), "alike in every source" (11), and that "every buffer lies in the body"
pub record Lendable (w : Lending) : Type 0 where
  pub in_limits : sources_ground w.formats w.schema w.tables w.sources ≡ 9 → ⊥
  pub of_types : sources_ground w.formats w.schema w.tables w.sources ≡ 10 → ⊥
  pub alike : sources_ground w.formats w.schema w.tables w.sources ≡ 11 → ⊥
  pub in_body_lem : (s i : ℕ) → s < sources_in w → i < nodes_of w.sources s
      → T (placed (tree_of w.formats w.schema (first_of w.sources s) (nodes_of w.sources s)) (tables_from w.tables (first_of w.sources s)) i)
