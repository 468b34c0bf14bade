-- The kinds: for each what a well formed destination is, and all types by recursion. Assumes nothing.
use mathlib.Core.Path.{◌≡◌, refl}
use mathlib.Core.Bool.{Bool, true, false}
use mathlib.Core.Option.{none}
use mathlib.Core.List.{List, [], ◌∷◌, ◌++◌, Memᴰ}
use Prim.Native.Nat.{ℕ, zero, suc, ◌+◌, ◌-◌, ◌*◌, ◌≤◌, ◌<◌}
use lib.ListN.{length, get_or, replicate}
use lib.Dec.{T}
use Rattle.columnar.specs.Row.{Row, null}
use Rattle.columnar.specs.Types.{Number, width, half, limit, Plain, fixed, string, Ty, t_plain, t_view, t_list_view, t_list, t_sparse, t_dense, t_run_end, t_dictionary}
use Rattle.columnar.specs.Array.{Array, item, read_with, Obeys}
use Rattle.columnar.specs.Plain.{Text, PlainBody, plain_at, PlainRule}
use Rattle.columnar.specs.View.{Views, view_of, view_at, ViewGood, ViewRule}
use Rattle.columnar.specs.ListView.{ListView, list_view_at, ListViewRule}
use Rattle.columnar.specs.List.{Listed, list_at, ListRule}
use Rattle.columnar.specs.Union.{Sparse, Dense, sparse_at, dense_at, SparseRule, DenseRule}
use Rattle.columnar.specs.RunEnd.{RunEnd, run_end_at, start_of, RunEndRule}
use Rattle.columnar.specs.Dictionary.{Dictionary, dictionary_at, DictionaryRule}
use Rattle.columnar.specs.Reading.{Body, slot_at, masks, SlotRule}
use Rattle.model.specs.Try.{Try, done, after}
use Rattle.model.specs.Ordered.{home, union_null, null_row}
use Rattle.model.specs.Opening.{shared}
use Rattle.model.specs.Grounds.{counts, leaf, among, more_rows, rows_of, kid_of, unless_none, plain_ask, plain_nulls, list_view_ask, list_ask, sparse_ask, dense_ask, run_end_ask, sparse_nulls, dense_nulls, run_end_nulls, ask_copy, nulls_ask}
use Rattle.model.specs.Mutable.{Mutable, extend_node, nulls_node, freeze_node}
use Rattle.model.specs.Primitive.{plain_extend, plain_null, buffers_before}
use Rattle.model.specs.ListViews.{Lists, list_nulls, list_freeze}
use Rattle.model.specs.Lists.{Listings, lists_extend, lists_nulls, lists_freeze}
use Rattle.model.specs.Unions.{Sparses, Denses, sparse_extend, sparse_null, dense_null, sparse_freeze, dense_freeze}
use Rattle.model.specs.Runs.{Runs, runs_extend, runs_null, runs_freeze}
use Rattle.model.specs.Transform.{Grown, extend_data, freeze_data, the_dictionary}
use Rattle.model.specs.Held.{held_node, held_plain, held_data}
use Rattle.model.proofs.Law.{Kind, FineNode, KeepNode, row_at, node_null}
use Rattle.model.proofs.Names.{view_extend, keys_extend, list_extend, dense_extend, nulls_data}

-- ---- fixed-width numbers and byte strings

-- l + 1 offsets that never fall, the last of them `most`: the bytes of a byte string, the child's rows of a list
pub record OffsetsFine (w : ℕ) (s : List ℕ) (most l : ℕ) : Type 0 where
  pub offsets_are : length s ≡ suc l * w
  pub rises : (i : ℕ) → i < l → item w s i ≤ item w s (suc i)
  pub last_is : item w s l ≡ most
  pub fits : most < half w

abbrev pub TextFine : ℕ → Text → ℕ → Type 0
TextFine w d l = OffsetsFine w d.offsets (length d.chars) l

abbrev pub PlainFine : (p : Plain) → (ℕ → Bool) → PlainBody p → ℕ → Type 0
PlainFine (fixed k) b d l = length d ≡ l * width k
PlainFine (string w) b d l = TextFine w d l

abbrev pub plain_rows : (p : Plain) (d : PlainBody p) (l : ℕ) → rows_of (held_plain p d l) ≡ l
plain_rows (fixed k) d l = refl
plain_rows (string w) d l = refl

abbrev pub plain_kind : (p : Plain) → Kind (PlainBody p) (PlainBody p)
plain_kind p =
    record {
      masks = true;
      at = plain_at p;
      nrow = null;
      frz = λ d. d;
      ext = λ ss j a n l d. plain_extend p (ss j) a n l d;
      nul = λ n l d. plain_null p n l d;
      ask = plain_ask p;
      ask_n = plain_nulls p;
      held = held_plain p;
      held_rows = plain_rows p;
      fine = PlainFine p;
      keep = λ d. Unit {0};
      rule = PlainRule p;
    }

-- ---- views: the data buffers are those of the m sources

pub record ViewFine (bufs : List (List ℕ)) (b : ℕ → Bool) (d : List ℕ) (l : ℕ) : Type 0 where
  pub views_are : length d ≡ l * 16
  pub good : (i : ℕ) → i < l → T (b i) → ViewGood bufs (view_of d i)

abbrev pub view_kind : ℕ → (ℕ → Views) → Kind Views (List ℕ)
view_kind m ss =
    record {
      masks = true;
      at = view_at;
      nrow = null;
      frz = λ d. record { views = d; buffers = buffers_before ss m };
      ext = λ ss j a n l d. view_extend ss j a n l d;
      nul = λ n l d. done (d ++ replicate (n * 16) 0);
      ask = λ b a n c. more_rows n c;
      ask_n = more_rows;
      held = λ d l. counts l 0 leaf;
      held_rows = λ d l. refl;
      fine = ViewFine (buffers_before ss m);
      keep = λ d. Unit {0};
      rule = ViewRule;
    }

-- ---- list-views; kid: a well formed child

pub record ListFine (w : ℕ) {D : Type 0} (kid : Mutable D → Type 0) (d : Lists D) (l : ℕ) : Type 0 where
  pub offsets_are : length d.buffer1 ≡ l * w
  pub sizes_are : length d.buffer2 ≡ l * w
  pub within : (i : ℕ) → i < l → item w d.buffer1 i + item w d.buffer2 i ≤ d.child.len
  pub fits : d.child.len < half w
  pub child_fine : kid d.child

abbrev pub list_kind : ℕ → {P D : Type 0} → Kind P D → ℕ → (ℕ → Array P) → Kind (ListView P) (Lists D)
list_kind w k m kids =
    record {
      masks = true;
      at = list_view_at w k.at;
      nrow = null;
      frz = list_freeze (freeze_node k.masks k.frz);
      ext = λ ss j a n l d. list_extend w (extend_node k.masks k.ext (λ i. (ss i).child) j) (ss j) a n d;
      nul = λ n l d. list_nulls w n d;
      ask = list_view_ask w k.ask;
      ask_n = λ n c. done (counts (rows_of c + n) 0 (kid_of c));
      held = λ d l. counts l 0 (λ e. held_node k.held d.child);
      held_rows = λ d l. refl;
      fine = λ b d l. ListFine w (FineNode k.masks k.fine m kids) d l;
      keep = λ d. Unit {0};
      rule = ListViewRule w (Obeys k.masks k.rule);
    }

-- ---- lists; kid: a well formed child

pub record ListsFine (w : ℕ) {D : Type 0} (kid : Mutable D → Type 0) (d : Listings D) (l : ℕ) : Type 0 where
  pub offsets_fine : OffsetsFine w d.buffer1 d.child.len l
  pub child_fine : kid d.child

abbrev pub lists_kind : ℕ → {P D : Type 0} → Kind P D → ℕ → (ℕ → Array P) → Kind (Listed P) (Listings D)
lists_kind w k m kids =
    record {
      masks = true;
      at = list_at w k.at;
      nrow = null;
      frz = lists_freeze (freeze_node k.masks k.frz);
      ext = λ ss j a n l d. lists_extend w (extend_node k.masks k.ext (λ i. (ss i).child) j) (ss j) a n l d;
      nul = λ n l d. lists_nulls w n l d;
      ask = list_ask w k.ask;
      ask_n = λ n c. done (counts (rows_of c + n) 0 (kid_of c));
      held = λ d l. counts l 0 (λ e. held_node k.held d.child);
      held_rows = λ d l. refl;
      fine = λ b d l. ListsFine w (FineNode k.masks k.fine m kids) d l;
      keep = λ d. Unit {0};
      rule = ListRule w (Obeys k.masks k.rule);
    }

-- ---- unions; r: what an ordered null reads as at each child

pub record SparseFine {D : ℕ → Type 0} (ids : List ℕ) (kid : (c : ℕ) → Mutable (D c) → Type 0) (d : Sparses D) (l : ℕ) : Type 0 where
  pub ids_are : length d.buffer1 ≡ l
  pub declared : (i : ℕ) → i < l → Memᴰ (get_or d.buffer1 i 0) ids
  pub kids_are : (c : ℕ) → Memᴰ c ids → (d.children c).len ≡ l
  pub kids_fine : (c : ℕ) → Memᴰ c ids → kid c (d.children c)

pub record DenseFine {D : ℕ → Type 0} (ids : List ℕ) (kid : (c : ℕ) → Mutable (D c) → Type 0) (d : Denses D) (l : ℕ) : Type 0 where
  pub ids_are : length d.buffer1 ≡ l
  pub positions_are : length d.buffer2 ≡ l * 4
  pub declared : (i : ℕ) → i < l → Memᴰ (get_or d.buffer1 i 0) ids
  pub within : (i : ℕ) → i < l → item 4 d.buffer2 i < (d.children (get_or d.buffer1 i 0)).len
  pub fits : (c : ℕ) → Memᴰ c ids → (d.children c).len ≤ half 4
  pub kids_fine : (c : ℕ) → Memᴰ c ids → kid c (d.children c)

module _ (ids : List ℕ) (nullable : ℕ → Bool) {P D : ℕ → Type 0} (k : (c : ℕ) → Kind (P c) (D c)) (r : ℕ → Row) (m : ℕ) (kids : (c : ℕ) → ℕ → Array (P c)) where
  abbrev pub sparse_kind : Kind (Sparse P) (Sparses D)
  sparse_kind =
      record {
        masks = false;
        at = sparse_at (λ c. (k c).at);
        nrow = union_null r (home nullable ids);
        frz = sparse_freeze (λ c. freeze_node (k c).masks (k c).frz);
        ext = λ ss j a n l d. sparse_extend ids (λ c. extend_node (k c).masks (k c).ext (λ i. (ss i).children c) j) (ss j) a n d;
        nul = λ n l d. sparse_null ids nullable (λ c. nulls_node (k c).masks (k c).nul) n d;
        ask = sparse_ask ids (λ c. (k c).ask);
        ask_n = sparse_nulls ids nullable (λ e. unless_none (k e).ask_n);
        held = λ d l. counts l 0 (among ids (λ e. held_node (k e).held (d.children e)));
        held_rows = λ d l. refl;
        fine = λ b d l. SparseFine ids (λ c. FineNode (k c).masks (k c).fine m (kids c)) d l;
        keep = λ d. (c : ℕ) → Memᴰ c ids → KeepNode (k c).keep (d.children c);
        rule = SparseRule ids (λ c. Obeys (k c).masks (k c).rule);
      }

  abbrev pub dense_kind : Kind (Dense P) (Denses D)
  dense_kind =
      record {
        masks = false;
        at = dense_at (λ c. (k c).at);
        nrow = union_null r (home nullable ids);
        frz = dense_freeze (λ c. freeze_node (k c).masks (k c).frz);
        ext = λ ss j a n l d. dense_extend (λ c. extend_node (k c).masks (k c).ext (λ i. (ss i).children c) j) (ss j) a n d;
        nul = λ n l d. dense_null ids nullable (λ c. nulls_node (k c).masks (k c).nul) n d;
        ask = dense_ask (λ c. (k c).ask);
        ask_n = dense_nulls ids nullable (λ e. unless_none (k e).ask_n);
        held = λ d l. counts l 0 (among ids (λ e. held_node (k e).held (d.children e)));
        held_rows = λ d l. refl;
        fine = λ b d l. DenseFine ids (λ c. FineNode (k c).masks (k c).fine m (kids c)) d l;
        keep = λ d. (c : ℕ) → Memᴰ c ids → KeepNode (k c).keep (d.children c);
        rule = DenseRule ids (λ c. Obeys (k c).masks (k c).rule);
      }

-- ---- run-end columns; r: what an ordered null reads as at the values

pub record RunsFine (w : ℕ) {D : Type 0} (kid : Mutable D → Type 0) (shows : Mutable D → ℕ → Row) (r : Row) (d : Runs D) (l : ℕ) : Type 0 where
  pub no_bits : d.ends.bits ≡ none
  pub ends_are : length d.ends.«data» ≡ d.ends.len * w
  pub rises : (i : ℕ) → i < d.ends.len → start_of (item w d.ends.«data») i < item w d.ends.«data» i
  pub covers : l ≡ start_of (item w d.ends.«data») d.ends.len
  pub fits : l < half w
  pub as_many : d.values.len ≡ d.ends.len
  pub some_run : d.gap ≡ 2 → 0 < d.ends.len  -- the last run is one of nulls
  pub null_run : d.gap ≡ 2 → shows d.values (d.ends.len - 1) ≡ r
  pub values_fine : kid d.values

abbrev pub runs_kind : ℕ → {P D : Type 0} → Kind P D → Row → ℕ → (ℕ → Array P) → Kind (RunEnd P) (Runs D)
runs_kind w k r m kids =
    record {
      masks = false;
      at = run_end_at w k.at;
      nrow = r;
      frz = runs_freeze (freeze_node k.masks k.frz);
      ext = λ ss j a n l d. runs_extend w (extend_node k.masks k.ext (λ i. (ss i).values) j) (ss j) a n d;
      nul = λ n l d. runs_null w (nulls_node k.masks k.nul) n d;
      ask = run_end_ask w k.ask;
      ask_n = run_end_nulls w (unless_none k.ask_n);
      held = λ d l. counts l d.gap (λ e. held_node k.held d.values);
      held_rows = λ d l. refl;
      fine = λ b d l. RunsFine w (FineNode k.masks k.fine m kids) (row_at k m kids) r d l;
      keep = λ d. KeepNode k.keep d.values;
      rule = RunEndRule w (Obeys k.masks k.rule);
    }

-- ---- dictionaries; v: the kept or joined one

pub record KeysFine (k : Number) (m entries : ℕ) (b : ℕ → Bool) (d : List ℕ) (l : ℕ) : Type 0 where
  pub sources : 0 < m  -- with no source there is no dictionary
  pub keys_are : length d ≡ l * width k
  pub positive : (i : ℕ) → i < l → T (b i) → item (width k) d i < limit k
  pub within : (i : ℕ) → i < l → T (b i) → item (width k) d i < entries

abbrev pub dictionary_kind : (k : Number) (p : Plain) → ℕ → (ℕ → Dictionary (PlainBody p)) → Kind (Dictionary (PlainBody p)) (List ℕ)
dictionary_kind k p m ss =
    record {
      masks = true;
      at = dictionary_at k p;
      nrow = null;
      frz = freeze_data (t_dictionary k p) m ss;
      ext = λ ss j a n l d. keys_extend k m ss j a n l d;
      nul = λ n l d. done (d ++ replicate (n * width k) 0);
      ask = λ b a n c. more_rows n c;
      ask_n = more_rows;
      held = λ d l. counts l 0 leaf;
      held_rows = λ d l. refl;
      fine = KeysFine k m (after (the_dictionary p m ss) (ss 0).values).len;
      keep = λ d. Unit {0};
      rule = DictionaryRule k (Obeys true (PlainRule p));
    }

-- ---- every type

abbrev pub FineOf : (t : Ty) → ℕ → (ℕ → Body t) → (ℕ → Bool) → Grown t → ℕ → Type 0
FineOf (t_plain p) = λ m ss. PlainFine p
FineOf t_view = λ m ss. ViewFine (buffers_before ss m)
FineOf (t_list_view w t) = λ m ss b d l. ListFine w (FineNode (masks t) (FineOf t m (λ i. (ss i).child.body)) m (λ i. (ss i).child)) d l
FineOf (t_list w t) = λ m ss b d l. ListsFine w (FineNode (masks t) (FineOf t m (λ i. (ss i).child.body)) m (λ i. (ss i).child)) d l
FineOf (t_sparse ids nullable f) = λ m ss b d l. SparseFine ids (λ c. FineNode (masks (f c)) (FineOf (f c) m (λ i. ((ss i).children c).body)) m (λ i. (ss i).children c)) d l
FineOf (t_dense ids nullable f) = λ m ss b d l. DenseFine ids (λ c. FineNode (masks (f c)) (FineOf (f c) m (λ i. ((ss i).children c).body)) m (λ i. (ss i).children c)) d l
FineOf (t_run_end w t) = λ m ss b d l.
    RunsFine w (FineNode (masks t) (FineOf t m (λ i. (ss i).values.body)) m (λ i. (ss i).values))
    (λ v. read_with (slot_at t) (freeze_node (masks t) (freeze_data t m (λ i. (ss i).values.body)) v)) (null_row t) d l
FineOf (t_dictionary k p) = λ m ss. KeysFine k m (after (the_dictionary p m ss) (ss 0).values).len

abbrev pub KeepOf : (t : Ty) → Grown t → Type 0
KeepOf (t_plain p) = λ d. Unit {0}
KeepOf t_view = λ d. Unit {0}
KeepOf (t_list_view w t) = λ d. Unit {0}
KeepOf (t_list w t) = λ d. Unit {0}
KeepOf (t_sparse ids nullable f) = λ d. (c : ℕ) → Memᴰ c ids → KeepNode (KeepOf (f c)) (d.children c)
KeepOf (t_dense ids nullable f) = λ d. (c : ℕ) → Memᴰ c ids → KeepNode (KeepOf (f c)) (d.children c)
KeepOf (t_run_end w t) = λ d. KeepNode (KeepOf t) d.values
KeepOf (t_dictionary k p) = λ d. Unit {0}

abbrev pub rows_held : (t : Ty) (d : Grown t) (l : ℕ) → rows_of (held_data t d l) ≡ l
rows_held (t_plain p) = plain_rows p
rows_held t_view = λ d l. refl
rows_held (t_list_view w t) = λ d l. refl
rows_held (t_list w t) = λ d l. refl
rows_held (t_sparse ids nullable f) = λ d l. refl
rows_held (t_dense ids nullable f) = λ d l. refl
rows_held (t_run_end w t) = λ d l. refl
rows_held (t_dictionary k p) = λ d l. refl

abbrev pub kind_of : (t : Ty) → ℕ → (ℕ → Body t) → Kind (Body t) (Grown t)
kind_of t m ss =
    record {
      masks = masks t;
      at = slot_at t;
      nrow = null_row t;
      frz = freeze_data t m ss;
      ext = extend_data t m;
      nul = nulls_data t;
      ask = ask_copy t;
      ask_n = nulls_ask t;
      held = held_data t;
      held_rows = rows_held t;
      fine = FineOf t m ss;
      keep = KeepOf t;
      rule = SlotRule t;
    }

pub null_is : (t : Ty) (m : ℕ) (ss : ℕ → Body t) → node_null (kind_of t m ss) ≡ null_row t
null_is (t_plain p) m ss = refl
null_is t_view m ss = refl
null_is (t_list_view w t) m ss = refl
null_is (t_list w t) m ss = refl
null_is (t_sparse ids nullable f) m ss = refl
null_is (t_dense ids nullable f) m ss = refl
null_is (t_run_end w t) m ss = refl
null_is (t_dictionary k p) m ss = refl
