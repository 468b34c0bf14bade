-- The cases of a slot's reading. Assumes nothing.
use mathlib.Core.Path.{◌≡◌, refl, ap, sym, subst, ◌∙◌}
use mathlib.Core.Bool.{Bool, true, false, cond, ◌&&◌, and-false}
use mathlib.Core.List.{List, []}
use Prim.Native.Nat.{ℕ, suc, ◌+◌, ◌*◌, ◌-◌, ◌^◌, ◌≤◌, ◌<◌}
use native.Mathlib.Nat.{mul-le-mul_right, mul_comm, one-mul}
use native.Mathlib.Omega.{arith}
use lib.ListN.{length, take, drop, get_or, length-take, length-drop}
use lib.Dec.{eqb}
use borrow.Author.Tests.{le-leb, lt-leb, lt-ltb, le-ltb, eq-eqb, ne_eqb}
use Rattle.number.specs.Number.{number}
use Rattle.columnar.specs.Types.{Number, width}
use Rattle.columnar.specs.Array.{item}
use Rattle.schema.specs.formats.Code.{is_fixed, is_string, is_view, is_list_view, is_list, width_of}
use Rattle.array_data.specs.Tables.{Tables, part, length_of, place, first_buffer, second_buffer}
use Rattle.array_data.specs.NodeKinds.{NodeKind, string_node, view_node, list_view_node, list_node, run_end_node}
use Rattle.slot_reader.specs.declared.leaf_row.Leaf.{Leaf}
use Rattle.slot_reader.specs.leaf_row.Reading as leaf
use Rattle.slot_reader.specs.view.Place.{place_of, part_of, Within}
use Rattle.slot_reader.specs.declared.view.Place.{Place}
use Rattle.slot_reader.specs.declared.view.Place.TheVariants as seen
use Rattle.array_data.specs.node_words.Words.{word}
use Rattle.array_data.specs.entries.Entries.{holds, spot_in, sized, entry_in}
use Rattle.std.specs.Prelude.{Some, None, Option}
use Rattle.array_data.specs.declared.entries.Validity.{Validity}
use Rattle.array_data.proofs.entries.Laws.{spot_at, spot_outside, holds_wide, inside, item_at}
use Rattle.array_data.proofs.lent_tables.Laws.{and_right}
use Rattle.slot_reader.specs.declared.RowRead.{RowRead}
use Rattle.slot_reader.specs.declared.RowRead.TheVariants as row
use Rattle.slot_reader.specs.Slots.{code_word, known, kind_word, code_number, number_read, stretch_in, both, string_read, data_place, viewed, view_at, list_view_read, rows_in, list_read, stored_number, stored_by, entry_by, keyed, dictionary_read, fixed_read, slot_by, slot_read}
use Rattle.slot_reader.proofs.Codes.{number_same, code_width_lem, range, knows, as_fixed, as_string, as_view, as_list_view, as_list, elsewhere}
use Rattle.array_data.proofs.Names.{number_kind, union_kind}

-- ---- numbers and stored numbers, by their place

module _ (s : List ℕ) (start w i : ℕ) (r : Option ℕ) (e : r ≡ spot_in start w s i) where
  pub stored_out : r ≡ None → row.Refused 12 ≡ stored_number start w s i
  unfolding stored_number
  stored_out o = rw (spot_outside w s i start r e o)

  pub stored_in : (at : ℕ) → r ≡ Some at → row.Bytes at w ≡ stored_number start w s i
  unfolding stored_number
  stored_in at a = let p = spot_at w s i start at r e a in rw (p.0, p.1)

module _ (code start w i : ℕ) (low : 1 ≤ code) (high : code ≤ 10) (ew : w ≡ width_of code) (r : Option ℕ) where
  pub wide : w ≡ width (code_number code)
  wide = ew ∙ code_width_lem code low high

  pub number_out : (s : List ℕ) → r ≡ spot_in start w s i → r ≡ None → row.Refused 12 ≡ number_read (code_number code) s i
  unfolding number_read
  number_out s e o = rw (subst (λ v. holds v s i ≡ false) wide (spot_outside w s i start r e o))

  module _ (body : List ℕ) (size at : ℕ) (e : r ≡ spot_in start w (part body start size) i) (a : r ≡ Some at) where
    pub leaf_room : at + width (leaf.number_of code) ≤ length body
    leaf_room =
        let p = spot_at w (part body start size) i start at r e a in
        omega (arith, p.1, inside body start size w i p.0, wide, ap width (number_same code low high))

    pub number_in : (l : Leaf) → l ≡ leaf.leaf_of (leaf.number_of code) (number (width (leaf.number_of code)) (drop at body))
        → row.Number l ≡ number_read (code_number code) (part body start size) i
    unfolding number_read
    number_in l f =
        let p = spot_at w (part body start size) i start at r e a in
        let h : holds (width (code_number code)) (part body start size) i ≡ true = subst (λ v. holds v (part body start size) i ≡ true) wide p.0 in
        let at_is : at ≡ start + i * width (code_number code) = p.1 ∙ ap (λ v. start + i * v) wide in
        let v : number (width (code_number code)) (drop at body) ≡ item (width (code_number code)) (part body start size) i = rw at_is (item_at body start size (width (code_number code)) i h) in
        rw (f, number_same code low high, h, v)

-- ---- stretches

module _ (start : ℕ) (s : List ℕ) (a b : ℕ) where
  pub stretch_low : b < a → row.Refused 12 ≡ stretch_in start s a b
  unfolding stretch_in
  stretch_low h = rw (lt-leb a b h)

  pub stretch_past : (n : ℕ) → n ≡ length s → n < b → row.Refused 12 ≡ stretch_in start s a b
  unfolding stretch_in
  stretch_past n e h = let g : length s < b = omega arith in rw (lt-leb b (length s) g, and-false)

  pub stretch_in_lem : (n : ℕ) → n ≡ length s → b ≤ n → a ≤ b → row.Bytes (start + a) (b - a) ≡ stretch_in start s a b
  unfolding stretch_in
  stretch_in_lem n e h l = let g : b ≤ length s = omega arith in rw (le-leb a b l, le-leb b (length s) g)

-- ---- rows of a child

module _ (child n a b : ℕ) where
  pub rows_low : b < a → row.Refused 12 ≡ rows_in child n a b
  unfolding rows_in
  rows_low h = rw (lt-leb a b h)

  pub rows_past : n < b → row.Refused 12 ≡ rows_in child n a b
  unfolding rows_in
  rows_past h = rw (lt-leb b n h, and-false)

  pub rows_in_lem : b ≤ n → a ≤ b → row.List child a (b - a) ≡ rows_in child n a b
  unfolding rows_in
  rows_in_lem h l = rw (le-leb a b l, le-leb b n h)

pub rows_as : (j child m n a b : ℕ) → j ≡ child → m ≡ n → rows_in j m a b ≡ rows_in child n a b
rows_as j child m n a b p q = rw (p, q)

-- ---- entries one after the other

value_holds : (w : ℕ) (s : List ℕ) (i a : ℕ) (b : Bool) → cond b (Some (item w s i)) None ≡ Some a → b ≡ true
value_holds w s i a true e = refl
value_holds w s i a false e = absurd (cc)

-- a slot that was read is below the body's length
pub entry_small : (body : List ℕ) (start size w i a : ℕ) (r : Option ℕ) → r ≡ entry_in w (part body start size) i → r ≡ Some a → i < length body
unfolding entry_in
entry_small body start size w i a r e v =
    let h : holds w (part body start size) i ≡ true = and_right (sized w) _ (value_holds w (part body start size) i a (sized w && holds w (part body start size) i) (sym e ∙ v)) in
    let k : 1 * i ≤ w * i = mul-le-mul_right i (holds_wide w (part body start size) i h) in
    omega (arith, inside body start size w i h, holds_wide w (part body start size) i h, k, one-mul i, mul_comm w i)

module _ (g : ℕ → ℕ → RowRead) (e f : Option ℕ) where
  pub both_first : e ≡ None → row.Refused 12 ≡ both g e f
  both_first p = ap (λ x. both g x f) (sym p)

  pub both_second : (a : ℕ) → e ≡ Some a → f ≡ None → row.Refused 12 ≡ both g e f
  both_second a p q = rw (p, q)

  pub both_held : (a b : ℕ) → e ≡ Some a → f ≡ Some b → g a b ≡ both g e f
  both_held a b p q = rw (p, q)

module _ (off : ℕ) (f : ℕ → RowRead) (e : Option ℕ) where
  pub keyed_out : e ≡ None → row.Refused 12 ≡ keyed off f e
  keyed_out p = ap (keyed off f) (sym p)

  pub keyed_over : (o key : ℕ) → o ≡ off → e ≡ Some key → 2 ^ 64 ≤ o + key → row.Refused 12 ≡ keyed off f e
  keyed_over o key q p h = let g : 2 ^ 64 ≤ off + key = omega arith in rw (p, le-ltb (off + key) (2 ^ 64) g)

  pub keyed_in : (o key : ℕ) → o ≡ off → e ≡ Some key → o + key < 2 ^ 64 → f (o + key) ≡ keyed off f e
  keyed_in o key q p h = let g : off + key < 2 ^ 64 = omega arith in rw (p, q, lt-ltb (off + key) (2 ^ 64) g)

-- an entry by its bit v, where the key's entry is at `off + key`
module _ (off o key : ℕ) (g : ℕ → Validity) (f : ℕ → RowRead) (e : Option ℕ) (q : o ≡ off) (p : e ≡ Some key) (h : o + key < 2 ^ 64) (v : Validity) (b : v ≡ g (o + key)) where
  pub named : (u : Validity) → v ≡ u → entry_by u (f (o + key)) ≡ keyed off (λ k. entry_by (g k) (f k)) e
  named u t = ap (λ y. entry_by y (f (o + key))) (sym t ∙ b) ∙ keyed_in off (λ k. entry_by (g k) (f k)) e o key q p h

-- the sum of a buffer's start and a place within its bytes; the start alone may be past the body
pub stretch_sum : (body : List ℕ) (start size a n : ℕ) → n ≡ length (part body start size) → a ≤ n → start < 2 ^ 64 → length body < 2 ^ 64 → start + a < 2 ^ 64
stretch_sum body start size a n e h l m = omega (arith, length-take size (drop start body), length-drop start body)

-- ---- data buffers and views

module _ (buffers : List ℕ) (a n b j m : ℕ) (e : m ≡ n) where
  pub no_data : m ≤ b → 0 ≡ data_place buffers a n b j
  no_data h = let g : n ≤ b = omega arith in rw (le-ltb b n g)

  pub some_data : (d r : ℕ) → d ≡ a → b < m → r ≡ get_or buffers (2 * (d + b) + j) 0 → r ≡ data_place buffers a n b j
  some_data d r f h q = let g : b < n = omega arith in rw (lt-ltb b n g, ← f) q

module _ (body buffers : List ℕ) (a n : ℕ) (sp : Option ℕ) where
  pub view_out : sp ≡ None → row.Refused 12 ≡ view_at body buffers a n sp
  view_out o = ap (view_at body buffers a n) (sym o)

  pub view_in_lem : (at b from len : ℕ) (v : Place) → sp ≡ Some at → b ≡ number 4 (drop (at + 8) body) → from ≡ data_place buffers a n b 0
      → len ≡ data_place buffers a n b 1 → v ≡ place_of body at (length body) from len → viewed v ≡ view_at body buffers a n sp
  view_in_lem at b from len v o eb ef el ev = rw (o, ev, ef, el, eb)

-- as many bytes are shown as the place has
module _ (s : List ℕ) (p : Place) (w : Within (length s) (length s) p) (shown : List ℕ) (e : shown ≡ part_of s s p) where
  taken : (at n : ℕ) → at + n ≤ length s → length (take n (drop at s)) ≡ n
  taken at n h = omega (arith, length-take n (drop at s), length-drop at s)

  pub bytes_inline : (at n : ℕ) → p ≡ seen.Inline at n → row.Bytes at (length shown) ≡ viewed p
  bytes_inline at n q =
      let h : at + n ≤ length s = subst (Within (length s) (length s)) q w in
      ap (λ k. row.Bytes at k) (ap length (e ∙ ap (part_of s s) q) ∙ taken at n h) ∙ ap viewed (sym q)

  pub bytes_data : (at n : ℕ) → p ≡ seen.Data at n → row.Bytes at (length shown) ≡ viewed p
  bytes_data at n q =
      let h : at + n ≤ length s = subst (Within (length s) (length s)) q w in
      ap (λ k. row.Bytes at k) (ap length (e ∙ ap (part_of s s) q) ∙ taken at n h) ∙ ap viewed (sym q)

-- ---- nodes by their code

module _ (tree : List ℕ) (i code : ℕ) (e : code ≡ code_word tree i) (a : ℕ) (s : List ℕ) (b : ℕ) (t : List ℕ) (k : ℕ) where
  abbrev stored : RowRead
  stored = cond (known tree i) (stored_by (kind_word tree i) a s b t k) (row.Refused 10)

  stored_as : (kind : NodeKind) → known tree i ≡ true → kind_word tree i ≡ kind → stored_by kind a s b t k ≡ stored
  stored_as kind h q = rw (h, q)

  pub stored_string : (w : ℕ) → is_string code ≡ true → w ≡ width_of code → string_read w s b t k ≡ stored
  stored_string w h q = rw q (stored_as (string_node (width_of code)) (knows tree i code e 11 14 h (omega arith)) (as_string tree i code e h))

  pub stored_keys : is_fixed code ≡ true → (word tree i 1 ≡ 0 → ⊥) → row.Refused 10 ≡ stored
  stored_keys h z =
      stored_as (number_kind false (code_number code)) (knows tree i code e 1 10 h (omega arith))
      (as_fixed tree i code e h ∙ ap (λ x. number_kind x (code_number code)) (ne_eqb (word tree i 1) 0 z))

  pub stored_fixed : (w : ℕ) → is_fixed code ≡ true → word tree i 1 ≡ 0 → w ≡ width_of code → stored_number a w s k ≡ stored
  stored_fixed w h z q =
      let c = range 1 10 code h in
      ap (λ v. stored_number a v s k) (q ∙ code_width_lem code c.0 c.1)
      ∙ stored_as (number_kind true (code_number code)) (knows tree i code e 1 10 h (omega arith))
      (as_fixed tree i code e h ∙ ap (λ x. number_kind x (code_number code)) (eq-eqb (word tree i 1) 0 z))

  union_stored : (c : Bool) → row.Refused 10 ≡ stored_by (union_kind c []) a s b t k
  union_stored true = refl
  union_stored false = refl

  pub stored_none : is_string code ≡ false → is_fixed code ≡ false → row.Refused 10 ≡ stored
  stored_none n f = go (is_view code) refl (is_list_view code) refl (is_list code) refl
    where
      go : (v : Bool) → is_view code ≡ v → (l : Bool) → is_list_view code ≡ l → (o : Bool) → is_list code ≡ o → row.Refused 10 ≡ stored
      go true v l q o p = stored_as view_node (knows tree i code e 15 16 v (omega arith)) (as_view tree i code e v)
      go false v true q o p = stored_as (list_view_node (width_of code)) (knows tree i code e 17 18 q (omega arith)) (as_list_view tree i code e q)
      go false v false q true p = stored_as (list_node (width_of code)) (knows tree i code e 19 20 p (omega arith)) (as_list tree i code e p)
      go false v false q false p =
          elsewhere tree i code e (row.Refused 10 ≡ stored) f n v q p (λ c h d. union_stored c ∙ stored_as (union_kind c []) h d) (λ w h d. stored_as (run_end_node w) h d)
          (λ h. rw h)

module _ (tree : List ℕ) (x : Tables) (i code : ℕ) (e : code ≡ code_word tree i) (k : ℕ) where
  slot_as : (kind : NodeKind) → known tree i ≡ true → kind_word tree i ≡ kind → slot_by tree x kind i k ≡ slot_read tree x i k
  slot_as kind h q = rw (h, q)

  number_kind_lem : (b : Bool) (m : Number) → cond b (number_read m (first_buffer x i) k) (dictionary_read tree x i (width m) k) ≡ slot_by tree x (number_kind b m) i k
  number_kind_lem true m = refl
  number_kind_lem false m = refl

  pub slot_fixed : is_fixed code ≡ true → fixed_read tree x i (code_number code) k ≡ slot_read tree x i k
  slot_fixed h =
      number_kind_lem (eqb (word tree i 1) 0) (code_number code)
      ∙ slot_as (number_kind (eqb (word tree i 1) 0) (code_number code)) (knows tree i code e 1 10 h (omega arith)) (as_fixed tree i code e h)

  pub slot_string : (w : ℕ) → is_string code ≡ true → w ≡ width_of code
      → string_read w (first_buffer x i) (place x i 5) (second_buffer x i) k ≡ slot_read tree x i k
  slot_string w h q = rw q (slot_as (string_node (width_of code)) (knows tree i code e 11 14 h (omega arith)) (as_string tree i code e h))

  pub slot_view : is_view code ≡ true
      → view_at x.body x.buffers (place x i 7) (place x i 8) (spot_in (place x i 3) 16 (first_buffer x i) k) ≡ slot_read tree x i k
  slot_view h = slot_as view_node (knows tree i code e 15 16 h (omega arith)) (as_view tree i code e h)

  pub slot_list_view : (w : ℕ) → is_list_view code ≡ true → w ≡ width_of code
      → list_view_read w (first_buffer x i) (second_buffer x i) (suc i) k ≡ slot_read tree x i k
  slot_list_view w h q = rw q (slot_as (list_view_node (width_of code)) (knows tree i code e 17 18 h (omega arith)) (as_list_view tree i code e h))

  pub slot_list : (w : ℕ) → is_list code ≡ true → w ≡ width_of code → list_read w (first_buffer x i) (suc i) (length_of x (suc i)) k ≡ slot_read tree x i k
  slot_list w h q = rw q (slot_as (list_node (width_of code)) (knows tree i code e 19 20 h (omega arith)) (as_list tree i code e h))

  union_slot : (c : Bool) → row.Refused 10 ≡ slot_by tree x (union_kind c []) i k
  union_slot true = refl
  union_slot false = refl

  pub slot_none : is_fixed code ≡ false → is_string code ≡ false → is_view code ≡ false → is_list_view code ≡ false → is_list code ≡ false
      → row.Refused 10 ≡ slot_read tree x i k
  slot_none f n v l o =
      elsewhere tree i code e (row.Refused 10 ≡ slot_read tree x i k) f n v l o (λ c h d. union_slot c ∙ slot_as (union_kind c []) h d) (λ w h d. slot_as (run_end_node w) h d)
      (λ h. rw h)
