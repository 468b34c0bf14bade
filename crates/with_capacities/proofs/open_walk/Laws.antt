-- The walk of an opening, by the ways that the code goes. Assumes nothing.
use mathlib.Core.Path.{◌≡◌, refl, sym, ap, ap₂, subst, ◌∙◌}
use mathlib.Core.Bool.{Bool, true, false, not, cond, ◌||◌, false≢true}
use mathlib.Core.List.{List, [], ◌∷◌}
use mathlib.Core.Option.{some}
use Prim.Native.Nat.{ℕ, zero, suc, ◌+◌, ◌*◌}
use native.Mathlib.Numerals.{add-one}
use native.Mathlib.Omega.{arith}
use lib.ListN.{get_or}
use lib.Dec.{leb, eqb}
use borrow.Author.Tests.{leb-true, eq-eqb, ne_eqb}
use Rattle.number.specs.Number.{encode}
use Rattle.columnar.specs.Types.{Number, int, uint, w1, w2, w4, w8, key_fits}
use Rattle.columnar.specs.Test.{every}
use Rattle.schema.specs.formats.Code.{is_string, is_list, is_integer, is_run_end, width_of}
use Rattle.schema.specs.formats.Types.{number_of}
use Rattle.array_data.proofs.lent_tables.Laws.{no, yes, and_right}
use Rattle.walk.specs.State.{code_of, dictionary_of, bytes_of, base_of, set_bytes, length_of, top, word}
use Rattle.walk.specs.Log.{Out, Did, put, apply_if, done, each}
use Rattle.walk.specs.Copy.{copy_walk}
use Rattle.walk.proofs.Laws.{done_did, wrote_did, need_no, need_ok, next_no, next_ok}
use Rattle.leaf_walk.specs.Join.{join}
use Rattle.leaf_walk.proofs.Widths.{string_width, lists_width}
use Rattle.plan.specs.parts.Parts.{nodes_of, copied, has_offsets}
use Rattle.refinement.specs.orders.Order.{Lent, join_of, source_count}
use Rattle.refinement.specs.opening.Open.{begin_gaps, first_offset, join_source, join_entries, entries_hold, key_holds, keys_hold, open_dictionary, open_walk_of}

-- ---- gaps

module _ (x : Lent) (wr : Bool) (i : ℕ) (c room : List ℕ) {t : Bool} (f : t ≡ is_run_end (code_of x.plan i)) where
  -- no run-end node
  pub gap_none : not t ≡ true → Did x.plan x.parts wr (begin_gaps x i c) room 0 c room
  unfolding begin_gaps
  gap_none h = rw (no f h) (done_did wr c room)

  module _ (h : not t ≡ false) {v : ℕ} (g : v ≡ get_or x.plan 867 0) where
    -- one, where the choice is off
    pub gap_off : (v ≡ 1 → ⊥) → Did x.plan x.parts wr (begin_gaps x i c) room 0 c room
    unfolding begin_gaps
    gap_off k = rw (yes f h, ne_eqb (get_or x.plan 867 0) 1 (λ z. k (g ∙ z))) (done_did wr c room)

    pub gap_on : {c2 : List ℕ} → v ≡ 1 → c2 ≡ set_bytes i 1 c → Did x.plan x.parts wr (begin_gaps x i c) room 0 c2 room
    unfolding begin_gaps
    gap_on k d = rw (yes f h, eq-eqb (get_or x.plan 867 0) 1 (sym g ∙ k), d) (done_did wr (set_bytes i 1 c) room)

-- ---- first offsets

pub offset_width : (code : ℕ) {w : ℕ} {t : Bool} → t ≡ has_offsets code → not t ≡ false → w ≡ width_of code → (w ≡ 1 → ⊥) → (w ≡ 2 → ⊥) → (w ≡ 4 → ⊥) → w ≡ 8
offset_width code {w} e h f a b d = go (is_string code) refl (yes e h)
  where
    go : (s : Bool) → is_string code ≡ s → is_string code || is_list code ≡ true → w ≡ 8
    go true k q = f ∙ string_width code k (λ z. d (f ∙ z))
    go false k q = f ∙ lists_width code (rw k at q) (λ z. d (f ∙ z))

module _ (x : Lent) (wr : Bool) (i : ℕ) (c room : List ℕ) {code : ℕ} (e : code ≡ code_of x.plan i) {t : Bool} (f : t ≡ has_offsets code) where
  offsets : {v : Bool} → has_offsets code ≡ v → has_offsets (code_of x.plan i) ≡ v
  offsets {v} h = subst (λ k. has_offsets k ≡ v) e h

  -- no byte string and no list
  pub offset_none : not t ≡ true → Did x.plan x.parts wr (first_offset x i c) room 0 c room
  unfolding first_offset
  offset_none h = rw (offsets (no f h)) (done_did wr c room)

  module _ (h : not t ≡ false) {u : Bool} (g : u ≡ copied x.plan i) where
    -- one that has no part
    pub offset_kept : not u ≡ true → Did x.plan x.parts wr (first_offset x i c) room 0 c room
    unfolding first_offset
    offset_kept k = rw (offsets (yes f h), no g k) (done_did wr c room)

    pub offset_put : {w : ℕ} {room2 : List ℕ} → not u ≡ false → w ≡ width_of code → room2 ≡ apply_if x.plan x.parts wr (put i 1 0 (encode w 0) ∷ []) room
        → Did x.plan x.parts wr (first_offset x i c) room 0 c room2
    unfolding first_offset
    offset_put {w} {room2} k q d =
        let wide : w ≡ bytes_of x.plan i = q ∙ ap width_of e in
        rw (offsets (yes f h), yes g k)
        (wrote_did wr (put i 1 0 (encode (bytes_of x.plan i) 0)) c room room2 (subst (λ z. room2 ≡ apply_if x.plan x.parts wr (put i 1 0 (encode z 0) ∷ []) room) wide d))

-- ---- entries

module _ (x : Lent) (wr : Bool) (i : ℕ) (c room : List ℕ) {r : ℕ} {c2 room2 : List ℕ} where
  pub source_did : (s : ℕ) {first n : ℕ} → first ≡ get_or x.sources (2 * s) 0 → n ≡ get_or x.lengths (2 * (first + i)) 0
      → Did x.plan x.parts wr (copy_walk (join x.plan x.parts x.lengths x.places x.body first s) 8 i 0 n c) room r c2 room2
      → Did x.plan x.parts wr (join_source x i s c) room r c2 room2
  unfolding join_source
  source_did s {first} {n} e f d =
      let q = subst (λ k. Did x.plan x.parts wr (copy_walk (join x.plan x.parts x.lengths x.places x.body first s) 8 i 0 k c) room r c2 room2) f d in
      subst (λ k. Did x.plan x.parts wr (copy_walk (join x.plan x.parts x.lengths x.places x.body k s) 8 i 0 (get_or x.lengths (2 * (k + i)) 0) c) room r c2 room2) e q

  pub entries_did : {m : ℕ} → m ≡ source_count x.plan → Did x.plan x.parts wr (each (join_source x i) m 0 c) room r c2 room2
      → Did x.plan x.parts wr (join_entries x i c) room r c2 room2
  unfolding join_entries
  entries_did e d = subst (λ k. Did x.plan x.parts wr (each (join_source x i) k 0 c) room r c2 room2) e d

-- what comes before the keys of node i
abbrev pub values : Lent → ℕ → List ℕ → Out
values x i c = cond (eqb (word x.plan i 7) 0) (done c) (join_entries x (suc i) c)

module _ (x : Lent) (wr : Bool) (i : ℕ) (c room : List ℕ) {v : ℕ} (e : v ≡ word x.plan i 7) where
  pub values_none : v ≡ 0 → Did x.plan x.parts wr (values x i c) room 0 c room
  values_none h = rw (eq-eqb (word x.plan i 7) 0 (sym e ∙ h)) (done_did wr c room)

  pub values_some : {j r : ℕ} {c2 room2 : List ℕ} → (v ≡ 0 → ⊥) → j ≡ suc i → Did x.plan x.parts wr (join_entries x j c) room r c2 room2
      → Did x.plan x.parts wr (values x i c) room r c2 room2
  values_some {j} {r} {c2} {room2} h q d =
      rw (ne_eqb (word x.plan i 7) 0 (λ z. h (e ∙ z))) (subst (λ k. Did x.plan x.parts wr (join_entries x k c) room r c2 room2) q d)

-- ---- entries counted in 64 bits

-- the entries of source s, node i, end there
abbrev pub entry_holds : Lent → ℕ → ℕ → Bool
entry_holds x i s = leb (base_of x.plan s i + length_of (join_of x s) (suc i)) top

pub entry_at : (x : Lent) (i s : ℕ) {start node n : ℕ} {r : Bool} → start ≡ base_of x.plan s i → node ≡ get_or x.sources (2 * s) 0 + (i + 1)
    → n ≡ get_or x.lengths (2 * node) 0 → r ≡ leb (start + n) top → r ≡ entry_holds x i s
entry_at x i s a b c d =
    let e : get_or x.sources (2 * s) 0 + (i + 1) ≡ get_or x.sources (2 * s) 0 + suc i = ap (get_or x.sources (2 * s) 0 +◌) (add-one i) in
    d ∙ ap₂ (λ k l. leb (k + l) top) a (c ∙ ap (λ j. get_or x.lengths (2 * j) 0) (b ∙ e))

-- r is what the sources below m come to
pub entries_are : (x : Lent) (i : ℕ) {r : Bool} {m : ℕ} → m ≡ source_count x.plan → r ≡ every (entry_holds x i) m → r ≡ entries_hold x i
unfolding entries_hold
entries_are x i p d = d ∙ ap (every (entry_holds x i)) p

-- ---- keys

-- the number of a code
record Known (code : ℕ) : Type 0 where
  pub number : Number
  pub is_number : number_of code ≡ some number

integer_known : (code : ℕ) → is_integer code ≡ true → Known code
unfolding number_of
integer_known zero h = absurd (false≢true h)
integer_known (suc zero) h = record { number = (int w1); is_number = refl }
integer_known (suc (suc zero)) h = record { number = (uint w1); is_number = refl }
integer_known (suc (suc (suc zero))) h = record { number = (int w2); is_number = refl }
integer_known (suc (suc (suc (suc zero)))) h = record { number = (uint w2); is_number = refl }
integer_known (suc (suc (suc (suc (suc zero))))) h = record { number = (int w4); is_number = refl }
integer_known (suc (suc (suc (suc (suc (suc zero)))))) h = record { number = (uint w4); is_number = refl }
integer_known (suc (suc (suc (suc (suc (suc (suc zero))))))) h = record { number = (int w8); is_number = refl }
integer_known (suc (suc (suc (suc (suc (suc (suc (suc zero)))))))) h = record { number = (uint w8); is_number = refl }
integer_known (suc (suc (suc (suc (suc (suc (suc (suc (suc c))))))))) h =
    let k = suc (suc (suc (suc (suc (suc (suc (suc (suc c)))))))) in
    absurd (omega (arith, leb-true k 8 (and_right (leb 1 k) _ h)))

module _ (x : Lent) (i : ℕ) {code : ℕ} (e : code ≡ code_of x.plan i) {t : Bool} (f : t ≡ is_integer code) where
  integers : {v : Bool} → is_integer code ≡ v → is_integer (code_of x.plan i) ≡ v
  integers {v} h = subst (λ k. is_integer k ≡ v) e h

  pub keys_none : not t ≡ true → false ≡ keys_hold x i
  unfolding keys_hold
  keys_none h = rw (integers (no f h))

  -- r is what the sources below m come to
  pub keys_are : {r : Bool} {m : ℕ} → not t ≡ false → m ≡ source_count x.plan → ((n : Number) → number_of code ≡ some n → r ≡ every (key_holds x n i) m) → r ≡ keys_hold x i
  unfolding keys_hold
  keys_are {r} {m} h p d =
      let k = integer_known code (yes f h) in
      let known : number_of (code_of x.plan i) ≡ some k.number = subst (λ z. number_of z ≡ some k.number) e k.is_number in
      let fits : r ≡ every (key_holds x k.number i) (source_count x.plan) = d k.number k.is_number ∙ ap (every (key_holds x k.number i)) p in
      rw (integers (yes f h), known) fits

-- the keys of one source
pub key_at_lem : (x : Lent) (k : Number) (i s : ℕ) {start node n : ℕ} {r : Bool} → start ≡ base_of x.plan s i → node ≡ get_or x.sources (2 * s) 0 + (i + 1)
    → n ≡ get_or x.lengths (2 * node) 0 → r ≡ key_fits k start n → r ≡ key_holds x k i s
key_at_lem x k i s a b c d =
    let e : get_or x.sources (2 * s) 0 + (i + 1) ≡ get_or x.sources (2 * s) 0 + suc i = ap (get_or x.sources (2 * s) 0 +◌) (add-one i) in
    d ∙ ap₂ (key_fits k) a (c ∙ ap (λ j. get_or x.lengths (2 * j) 0) (b ∙ e))

-- ---- a dictionary

module _ (x : Lent) (wr : Bool) (i : ℕ) (c room : List ℕ) {d : ℕ} (e : d ≡ dictionary_of x.plan i) where
  pub dictionary_none : d ≡ 0 → Did x.plan x.parts wr (open_dictionary x i c) room 0 c room
  unfolding open_dictionary
  dictionary_none h = rw (eq-eqb (dictionary_of x.plan i) 0 (sym e ∙ h)) (done_did wr c room)

  module _ (h : d ≡ 0 → ⊥) {u : Bool} (f : u ≡ entries_hold x i) where
    has : eqb (dictionary_of x.plan i) 0 ≡ false
    has = ne_eqb (dictionary_of x.plan i) 0 (λ z. h (e ∙ z))

    pub dictionary_many : not u ≡ true → Did x.plan x.parts wr (open_dictionary x i c) room 6 c room
    unfolding open_dictionary
    dictionary_many m = rw has (need_no _ (no f m))

    module _ (m : not u ≡ false) {g : ℕ} {c1 room1 : List ℕ} (v : Did x.plan x.parts wr (values x i c) room g c1 room1) where
      pub dictionary_stop : (g ≡ 0 → ⊥) → Did x.plan x.parts wr (open_dictionary x i c) room g c1 room1
      unfolding open_dictionary
      dictionary_stop k = rw has (need_ok 6 c (yes f m) (next_no _ v k))

      module _ (k : g ≡ 0) {t : Bool} (q : t ≡ keys_hold x i) where
        pub dictionary_over : not t ≡ true → Did x.plan x.parts wr (open_dictionary x i c) room 8 c1 room1
        unfolding open_dictionary
        dictionary_over l = rw has (need_ok 6 c (yes f m) (next_ok _ v k (need_no _ (no q l))))

        pub dictionary_done : not t ≡ false → Did x.plan x.parts wr (open_dictionary x i c) room 0 c1 room1
        unfolding open_dictionary
        dictionary_done l = rw has (need_ok 6 c (yes f m) (next_ok _ v k (need_ok 8 c1 (yes q l) (done_did wr c1 room1))))

-- ---- all nodes

pub nodes_did : (x : Lent) (wr : Bool) (f : ℕ → List ℕ → Out) (c room : List ℕ) {n r : ℕ} {c2 room2 : List ℕ} → n ≡ nodes_of x.plan
    → Did x.plan x.parts wr (each f n 0 c) room r c2 room2 → Did x.plan x.parts wr (each f (nodes_of x.plan) 0 c) room r c2 room2
nodes_did x wr f c room {n} {r} {c2} {room2} e d = subst (λ k. Did x.plan x.parts wr (each f k 0 c) room r c2 room2) e d

pub walk_did : (x : Lent) (wr : Bool) (c room : List ℕ) {r : ℕ} {c1 room1 c2 room2 : List ℕ} → Did x.plan x.parts wr (each (begin_gaps x) (nodes_of x.plan) 0 c) room 0 c1 room
    → Did x.plan x.parts wr (each (first_offset x) (nodes_of x.plan) 0 c1) room 0 c1 room1
    → Did x.plan x.parts wr (each (open_dictionary x) (nodes_of x.plan) 0 c1) room1 r c2 room2 → Did x.plan x.parts wr (open_walk_of x c) room r c2 room2
unfolding open_walk_of
walk_did x wr c room b d e = next_ok _ b refl (next_ok _ d refl e)
