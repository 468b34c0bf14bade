-- The cases of a step and of a walk. Assumes nothing.
use mathlib.Core.Path.{◌≡◌, refl, ap, sym, subst, ◌∙◌}
use mathlib.Core.Bool.{Bool, true, false, cond, and-false}
use mathlib.Core.List.{List, [], ◌∷◌}
use Prim.Native.Nat.{ℕ, zero, suc, ◌+◌, ◌*◌, ◌-◌, ◌^◌, ◌≤◌, ◌<◌}
use native.Mathlib.Nat.{add-mul}
use native.Mathlib.Numerals.{add-one}
use native.Mathlib.Omega.{arith}
use lib.ListN.{length, take, drop, set, length-take, length-drop}
use lib.Seq.{set_split, append_snoc, drop-drop}
use lib.Dec.{leb, eqb}
use borrow.Author.Tests.{le-leb, lt-leb, leb-true, lt-ltb, le-ltb, eq-eqb, ne_eqb, eqb-true}
use Rattle.std.specs.Prelude.{Option, Some, None}
use Rattle.number.specs.Number.{splice}
use Rattle.number.proofs.Laws.{splice_splice, splice_nil}
use Rattle.schema.specs.formats.Code.{is_fixed, is_string, is_view, is_list_view, is_list, is_union, is_sparse, is_run_end, width_of}
use Rattle.array_data.specs.Tables.{Tables, part, length_of, offset_of, place, valid_of, first_buffer, second_buffer}
use Rattle.array_data.specs.NodeKinds.{NodeKind, fixed_node, string_node, view_node, list_view_node, list_node, sparse_node, dense_node, run_end_node, dictionary_node}
use Rattle.run_ends.specs.declared.RunRow.{RunRow}
use Rattle.slot_reader.specs.run.Rows.{row_run}
use Rattle.array_data.specs.node_words.Words.{word}
use Rattle.array_data.specs.entries.Entries.{entry_in, valid_in}
use Rattle.array_data.proofs.entries.Laws.{cut}
use Rattle.array_data.specs.declared.entries.Validity.{Validity}
use Rattle.slot_reader.specs.declared.RowRead.{RowRead}
use Rattle.slot_reader.specs.declared.RowRead.TheVariants as row
use Rattle.slot_reader.specs.Slots.{code_word, code_number, known, kind_word, slot_by, slot_read}
use Rattle.slot_reader.proofs.Codes.{knows, as_fixed, as_string, as_view, as_list_view, as_list, as_union, as_run, unknown}
use Rattle.row_reader.specs.declared.Step.{Step}
use Rattle.row_reader.specs.declared.Step.TheVariants as step
use Rattle.row_reader.specs.Walk.{refused, end_word, child_from, child_of, chosen, into, under_id, code_width, ends_in, run_in, ran, run_of, runs_step, run_at, step_by, step_on, sighted, step_at, Walked, walked_to, under, follow, walk, is_refused, kept, row_at}
use Rattle.array_data.proofs.Names.{number_kind, union_kind}
use Rattle.std.specs.Prelude.{Some, None, Option, Result, Ok, Err}

-- ---- a union's child

module _ (tree : List ℕ) where
  pub end_big : (i c : ℕ) → c ≡ word tree i 2 → 32 < c → 32 ≡ end_word tree i
  unfolding end_word
  end_big i c e h = omega arith

  pub end_small : (i c : ℕ) → c ≡ word tree i 2 → c ≤ 32 → c ≡ end_word tree i
  unfolding end_word
  end_small i c e h = omega arith

  module _ (id end c node : ℕ) where
    pub from_past : c < 16 → end ≤ node → child_from tree id end (16 - c) node ≡ None
    unfolding child_from
    from_past l h = let e : 16 - c ≡ suc (16 - (c + 1)) = omega arith in rw (e, le-ltb node end h)

    pub from_here : c < 16 → node < end → word tree node 3 ≡ id → child_from tree id end (16 - c) node ≡ Some node
    unfolding child_from
    from_here l h q = let e : 16 - c ≡ suc (16 - (c + 1)) = omega arith in rw (e, lt-ltb node end h, eq-eqb (word tree node 3) id q)

    pub from_next : c < 16 → node < end → (word tree node 3 ≡ id → ⊥) → child_from tree id end (16 - c) node ≡ child_from tree id end (16 - (c + 1)) (word tree node 2)
    unfolding child_from
    from_next l h q = let e : 16 - c ≡ suc (16 - (c + 1)) = omega arith in rw (e, lt-ltb node end h, ne_eqb (word tree node 3) id q)

    pub from_last : 16 ≤ c → child_from tree id end (16 - c) node ≡ None
    unfolding child_from
    from_last l = let e : 16 - c ≡ 0 = omega arith in rw e

  module _ (i id r : ℕ) where
    pub into_big : 127 < id → refused 12 ≡ into tree i id r
    unfolding into
    into_big h = rw (lt-leb id 127 h)

    pub into_child : (c : Option ℕ) → c ≡ child_of tree i id → id ≤ 127 → chosen tree id r c ≡ into tree i id r
    unfolding into
    into_child c e h = rw (le-leb id 127 h) (ap (chosen tree id r) e)

  module _ (i : ℕ) (e f : Option ℕ) where
    pub no_id : e ≡ None → refused 12 ≡ under_id tree i e f
    no_id p = ap (λ x. under_id tree i x f) (sym p)

    pub no_row : (a : ℕ) → e ≡ Some a → f ≡ None → refused 12 ≡ under_id tree i e f
    no_row a p q = rw (p, q)

    pub both_held : (a b : ℕ) → e ≡ Some a → f ≡ Some b → into tree i a b ≡ under_id tree i e f
    both_held a b p q = rw (p, q)

-- ---- run ends

-- what the bytes of the run ends are, where their buffer holds them
pub ends_room : (body : List ℕ) (start size off len w : ℕ) → leb ((off + len) * w) (length (part body start size)) ≡ true
    → (off * w + len * w ≤ size) × (off * w + len * w ≤ length body - start)
ends_room body start size off len w h =
    let g : off * w + len * w ≤ length (part body start size) = rw add-mul at (leb-true ((off + len) * w) (length (part body start size)) h) in
    (omega (arith, g, length-take size (drop start body)), omega (arith, g, length-take size (drop start body), length-drop start body))

no_bytes : (s : List ℕ) → length s ≡ 0 → s ≡ []
no_bytes [] e = refl
no_bytes (x ∷ s) e = absurd (omega arith)

pub part_short : (body : List ℕ) (start size : ℕ) → length (part body start size) ≤ size
part_short body start size = omega (arith, length-take size (drop start body))

module _ (w : ℕ) (body : List ℕ) (start size off len offset rows r : ℕ) where
  pub run_over : 2 ^ 64 ≤ off + len → Err 12 ≡ run_in w (part body start size) off len offset rows r
  unfolding run_in
  run_over h = rw (le-ltb (off + len) (2 ^ 64) h)

  pub run_long_lem : leb ((off + len) * w) (length (part body start size)) ≡ false → Err 12 ≡ run_in w (part body start size) off len offset rows r
  unfolding run_in
  run_long_lem e = rw (e, and-false)

  module _ (l : off + len < 2 ^ 64) (f : leb ((off + len) * w) (length (part body start size)) ≡ true) where
    by_reader : row_run (ends_in w (part body start size) off len) offset rows w r ≡ run_in w (part body start size) off len offset rows r
    unfolding run_in
    by_reader = rw (f, lt-ltb (off + len) (2 ^ 64) l)

    pub run_none : (s : List ℕ) → length s ≡ 0 → len * w ≡ 0 → row_run s offset rows w r ≡ run_in w (part body start size) off len offset rows r
    run_none s e z =
        let q : s ≡ ends_in w (part body start size) off len = no_bytes s e ∙ sym (ap (λ k. take k (drop (off * w) (part body start size))) z) in
        ap (λ t. row_run t offset rows w r) q ∙ by_reader

    pub run_some : (a e : ℕ) → a ≡ start + off * w → e ≡ a + len * w → row_run (take (e - a) (drop a body)) offset rows w r ≡ run_in w (part body start size) off len offset rows r
    run_some a e p q =
        let n : e - a ≡ len * w = omega arith in
        let g : off * w + len * w ≤ size = (ends_room body start size off len w f).0 in
        let t : take (e - a) (drop a body) ≡ ends_in w (part body start size) off len
        = rw (n, p) (ap (take (len * w)) (sym (drop-drop (off * w) start body)) ∙ sym (cut (off * w) (len * w) size (drop start body) g)) in
        ap (λ s. row_run s offset rows w r) t ∙ by_reader

-- the run ends as they are found in the tables
pub runs_as : (tree : List ℕ) (x : Tables) (i e w c start size off len offset rows r : ℕ) → e ≡ suc i → w ≡ width_of c → c ≡ code_word tree e
    → start ≡ place x e 3 → size ≡ place x e 4 → off ≡ offset_of x e → len ≡ length_of x e → offset ≡ offset_of x i → rows ≡ length_of x i
    → run_in w (part x.body start size) off len offset rows r ≡ run_of x i (code_width tree (suc i)) r
runs_as tree x i e w c start size off len offset rows r p q s a b o l y z = rw (q, s, a, b, o, l, y, z, p)

pub ran_run : (i j : ℕ) (f : Result RunRow ℕ) (r : RunRow) → f ≡ Ok r → j ≡ suc (suc i) → step.Go j r.run.0 ≡ ran i f
ran_run i j f r p q = rw (p, q)

pub ran_past : (i : ℕ) (f : Result RunRow ℕ) (g : ℕ) → f ≡ Err g → refused 12 ≡ ran i f
ran_past i f g p = ap (ran i) (sym p)

module _ (tree : List ℕ) (x : Tables) (r code : ℕ) (e : code ≡ code_word tree 0) where
  pub at_other : is_run_end code ≡ false → Err 10 ≡ run_at tree x r
  unfolding run_at
  at_other h = rw (← e, h)

  pub at_runs : is_run_end code ≡ true → run_of x 0 (code_width tree 1) r ≡ run_at tree x r
  unfolding run_at
  at_runs h = rw (← e, h)

-- ---- one level

module _ (tree : List ℕ) (x : Tables) (i k code : ℕ) (e : code ≡ code_word tree i) where
  step_as : (kind : NodeKind) → known tree i ≡ true → kind_word tree i ≡ kind → step_by tree x kind i k ≡ step_on tree x i k
  step_as kind h q = rw (h, q)

  pub step_sparse : is_sparse code ≡ true → under_id tree i (entry_in 1 (first_buffer x i) k) (Some k) ≡ step_on tree x i k
  step_sparse q =
      let u : is_union code ≡ true = ap is_union (eqb-true code 21 q) in
      step_as (sparse_node []) (knows tree i code e 21 22 u (omega arith)) (as_union tree i code e u ∙ ap (λ b. union_kind b []) q)

  pub step_dense : is_sparse code ≡ false → is_union code ≡ true
      → under_id tree i (entry_in 1 (first_buffer x i) k) (entry_in 4 (second_buffer x i) k) ≡ step_on tree x i k
  step_dense q u = step_as (dense_node []) (knows tree i code e 21 22 u (omega arith)) (as_union tree i code e u ∙ ap (λ b. union_kind b []) q)

  pub step_runs : is_run_end code ≡ true → runs_step x i (code_width tree (suc i)) k ≡ step_on tree x i k
  step_runs u = step_as (run_end_node (code_width tree (suc i))) (knows tree i code e 23 23 u (omega arith)) (as_run tree i code e u)

  -- a kind that has no child to go on to
  abbrev leafy : NodeKind → Bool
  leafy (fixed_node m) = true
  leafy (string_node w) = true
  leafy view_node = true
  leafy (list_view_node w) = true
  leafy (list_node w) = true
  leafy (sparse_node ids) = false
  leafy (dense_node ids) = false
  leafy (run_end_node w) = false
  leafy (dictionary_node m) = true

  no : {A : Type 0} → false ≡ true → A
  no h = absurd (subst (λ b. cond b ⊥ (Unit {0})) h tt)

  leaf_step : (kind : NodeKind) → leafy kind ≡ true → step.Done (slot_by tree x kind i k) ≡ step_by tree x kind i k
  leaf_step (fixed_node m) h = refl
  leaf_step (string_node w) h = refl
  leaf_step view_node h = refl
  leaf_step (list_view_node w) h = refl
  leaf_step (list_node w) h = refl
  leaf_step (sparse_node ids) h = no h
  leaf_step (dense_node ids) h = no h
  leaf_step (run_end_node w) h = no h
  leaf_step (dictionary_node m) h = refl

  number_leafy : (b : Bool) → leafy (number_kind b (code_number code)) ≡ true
  number_leafy true = refl
  number_leafy false = refl

  leaf_on : leafy (kind_word tree i) ≡ true → step.Done (slot_read tree x i k) ≡ step_on tree x i k
  leaf_on h = go (known tree i)
    where
      go : (b : Bool) → step.Done (cond b (slot_by tree x (kind_word tree i) i k) (row.Refused 10)) ≡ cond b (step_by tree x (kind_word tree i) i k) (refused 10)
      go true = leaf_step (kind_word tree i) h
      go false = refl

  pub step_leaf : is_union code ≡ false → is_run_end code ≡ false → step.Done (slot_read tree x i k) ≡ step_on tree x i k
  step_leaf n r = go (is_fixed code) refl (is_string code) refl (is_view code) refl (is_list_view code) refl (is_list code) refl
    where
      go : (f : Bool) → is_fixed code ≡ f → (s : Bool) → is_string code ≡ s → (v : Bool) → is_view code ≡ v → (l : Bool) → is_list_view code ≡ l
          → (o : Bool) → is_list code ≡ o → step.Done (slot_read tree x i k) ≡ step_on tree x i k
      go true f s t v u l w o p = leaf_on (ap leafy (as_fixed tree i code e f) ∙ number_leafy (eqb (word tree i 1) 0))
      go false f true t v u l w o p = leaf_on (ap leafy (as_string tree i code e t))
      go false f false t true u l w o p = leaf_on (ap leafy (as_view tree i code e u))
      go false f false t false u true w o p = leaf_on (ap leafy (as_list_view tree i code e w))
      go false f false t false u false w true p = leaf_on (ap leafy (as_list tree i code e p))
      go false f false t false u false w false p = rw (unknown tree i code e f t u w p n r)

module _ (tree : List ℕ) (x : Tables) (i r : ℕ) where
  pub at_deep : 32 ≤ i → refused 9 ≡ step_at tree x i r
  unfolding step_at
  at_deep h = rw (le-ltb i 32 h)

  module _ (h : i < 32) (off : ℕ) (e : off ≡ offset_of x i) where
    pub at_over : 2 ^ 64 ≤ off + r → refused 12 ≡ step_at tree x i r
    unfolding step_at
    at_over l = let g : 2 ^ 64 ≤ offset_of x i + r = omega arith in rw (lt-ltb i 32 h, le-ltb (offset_of x i + r) (2 ^ 64) g)

    pub at_slot : off + r < 2 ^ 64 → (v : Validity) → v ≡ valid_in (valid_of x i) (off + r) → (s : Step) → s ≡ step_on tree x i (off + r) → sighted tree x v s ≡ step_at tree x i r
    unfolding step_at
    at_slot l v p s q =
        let g : offset_of x i + r < 2 ^ 64 = omega arith in
        rw (lt-ltb i 32 h, lt-ltb (offset_of x i + r) (2 ^ 64) g, ← e, p, q)

-- ---- the whole row

module _ (tree : List ℕ) (x : Tables) where
  abbrev walk_by : ℕ → ℕ → ℕ → Walked
  walk_by = walk tree x

  pub no_deeper : (d i r : ℕ) → d ≡ 0 → walk_by d i r ≡ walked_to (row.Refused 9)
  unfolding walk
  no_deeper d i r e = rw e

  pub deeper : (d i r : ℕ) → (d ≡ 0 → ⊥) → (s : Step) → s ≡ step_at tree x i r → walk_by d i r ≡ follow (walk_by (d - 1)) s
  unfolding walk
  deeper zero i r n s e = absurd (n refl)
  deeper (suc d) i r n s e = let q : suc d - 1 ≡ d = omega arith in rw (q, e)

  -- at most one id a level
  short_by : (f : ℕ) (g : ℕ → ℕ → Walked) → ((i r : ℕ) → length (g i r).ids ≤ f) → (s : Step) → length (follow g s).ids ≤ suc f
  short_by f g h (step.Done a) = omega arith
  short_by f g h (step.Go i r) = omega (arith, h i r)
  short_by f g h (step.Choose c i r) = omega (arith, h i r)

  pub walk_short : (f i r : ℕ) → length (walk_by f i r).ids ≤ f
  unfolding walk
  walk_short zero i r = omega arith
  walk_short (suc f) i r = short_by f (walk_by f) (λ j q. walk_short f j q) (step_at tree x i r)

-- what a reading is: the row, how many ids there are, and the ids written
pub record Read (w : Walked) (old : List ℕ) (count : ℕ) (read : RowRead) (ids : List ℕ) (after : ℕ) : Type 0 where
  pub row_is : read ≡ w.read
  pub count_is : after ≡ count + length w.ids
  pub ids_are : ids ≡ splice count w.ids old

pub read_done : (w : Walked) (r : RowRead) (old : List ℕ) (count : ℕ) → w ≡ walked_to r → Read w old count r old count
read_done w r old count e =
    subst (λ v. Read v old count r old count) (sym e) (record { row_is = refl; count_is = omega arith; ids_are = sym (splice_nil count old) })

put : (s : List ℕ) (at v : ℕ) → at < length s → set s at v ≡ splice at (v ∷ []) s
unfolding splice
put s at v l = let q : at + 1 ≡ suc at = add-one at in rw (q, set_split s at v l) (sym (append_snoc (take at s) v (drop (suc at) s)))

pub wrote : (old ws : List ℕ) (count id : ℕ) → count + 1 + length ws ≤ length old → splice (count + 1) ws (set old count id) ≡ splice count (id ∷ ws) old
wrote old ws count id h =
    let e : set old count id ≡ splice count (id ∷ []) old = put old count id (omega arith) in
    rw e (splice_splice count (id ∷ []) ws old h)

pub read_under : (w v : Walked) (id : ℕ) (old : List ℕ) (count : ℕ) (read : RowRead) (ids : List ℕ) (after : ℕ) → w ≡ under id v
    → count + 1 + length v.ids ≤ length old → Read v (set old count id) (count + 1) read ids after → Read w old count read ids after
read_under w v id old count read ids after e h d =
    subst (λ u. Read u old count read ids after) (sym e)
    (record { row_is = d.row_is; count_is = omega (arith, d.count_is); ids_are = d.ids_are ∙ wrote old v.ids count id h })

-- ---- the answer

-- what is answered, with the ids as they were and as they are
pub record Answered (w : Walked) (old : List ℕ) (read : RowRead) (count : ℕ) (ids : List ℕ) : Type 0 where
  pub row_is : read ≡ w.read
  pub count_is : count ≡ length w.ids
  pub ids_are : ids ≡ splice 0 w.ids old

module _ (tree : List ℕ) (x : Tables) (r len : ℕ) (e : len ≡ length_of x 0) (old : List ℕ) where
  pub past_last : len ≤ r → Answered (row_at tree x r) old (row.Refused 2) 0 old
  unfolding row_at
  past_last h =
      let g : length_of x 0 ≤ r = omega arith in
      let q : row_at tree x r ≡ walked_to (row.Refused 2) = rw (le-ltb r (length_of x 0) g) in
      subst (λ v. Answered v old (row.Refused 2) 0 old) (sym q) (record { row_is = refl; count_is = refl; ids_are = sym (splice_nil 0 old) })

  module _ (h : r < len) (read : RowRead) (ids : List ℕ) (count : ℕ) (d : Read (walk tree x 8 0 r) old 0 read ids count) where
    row_kept : row_at tree x r ≡ kept (walk tree x 8 0 r)
    unfolding row_at
    row_kept = let g : r < length_of x 0 = omega arith in rw (lt-ltb r (length_of x 0) g)

    pub answer_none : is_refused read ≡ true → Answered (row_at tree x r) old read 0 old
    answer_none f =
        let q : row_at tree x r ≡ walked_to read = row_kept ∙ rw (← d.row_is, f) in
        subst (λ v. Answered v old read 0 old) (sym q) (record { row_is = refl; count_is = refl; ids_are = sym (splice_nil 0 old) })

    pub answer_some : is_refused read ≡ false → Answered (row_at tree x r) old read count ids
    answer_some f =
        let q : row_at tree x r ≡ walk tree x 8 0 r = row_kept ∙ rw (← d.row_is, f) in
        subst (λ v. Answered v old read count ids) (sym q) (record { row_is = d.row_is; count_is = omega (arith, d.count_is); ids_are = d.ids_are })
