-- What the shape of a lent node says: its kind, its widths and ids, and how much stands below it. Assumes nothing.
use mathlib.Core.Path.{◌≡◌, refl, ap, sym, subst, ◌∙◌}
use mathlib.Core.Logic.{◌⊎◌, inl, inr}
use mathlib.Core.Bool.{Bool, true, false, ◌&&◌, ◌||◌, and-eq-true_iff, false≢true}
use mathlib.Core.Option.{Option, none, some}
use mathlib.Core.List.{List}
use Prim.Native.Nat.{ℕ, zero, suc, ◌+◌, ◌<◌}
use lib.ListN.{length}
use native.Mathlib.Omega.{arith}
use lib.Dec.{T, leb, eqb}
use borrow.Author.Tests.{leb-true, le-leb, lt-leb, eqb-true, eqb-false, ne_eqb}
use Rattle.columnar.specs.Types.{Number, width, Plain, fixed, string}
use Rattle.columnar.specs.Wider.{integer}
use Rattle.columnar.specs.Formed.{OffsetWidth, four, eight, RunWidth, FormedPlain, Ids}
use Rattle.schema.specs.formats.Code.{between, is_integer, is_fixed, is_string, is_view, is_list_view, is_list, is_union, is_run_end, width_of}
use Rattle.schema.specs.formats.Types.{number_of, number_or}
use Rattle.schema.proofs.formats.Types.{number_width, fixed_number}
use Rattle.schema.specs.Tree.{field, children, dictionary, below, bare, child_for_each, code_of, ids_of, values_shape, ends_shape, leaf_shape, keys_shape, list_shape, union_shape, run_shape, shape}
use Rattle.array_data.specs.NodeKinds.{NodeKind, fixed_node, string_node, view_node, list_view_node, list_node, sparse_node, dense_node, run_end_node, dictionary_node, kind_of, kind_at}
use Rattle.array_data.proofs.type_tree.Ids.{cond_yes, cond_no, both, ids_formed}
use Rattle.array_data.proofs.Names.{ids_or, number_kind, union_kind}

-- ---- tests

either : (a b : Bool) → a || b ≡ true → (a ≡ true) ⊎ (b ≡ true)
either true b h = inl refl
either false b h = inr h

and_no : (a b : Bool) → b ≡ false → a && b ≡ false
and_no true b h = h
and_no false b h = refl

-- a code of a later range is none of an earlier one
pub later : (a b c d x : ℕ) → between c d x ≡ true → b < c → between a b x ≡ false
later a b c d x h l =
    let up = leb-true c x (both (leb c x) (leb x d) h).0 in
    and_no (leb a x) (leb x b) (lt-leb x b (omega arith))

-- ---- the kind of each code

module _ (code : ℕ) (single : Bool) (ids : Option (List ℕ)) (next : ℕ) where
  pub kind_fixed : is_fixed code ≡ true → kind_of code single ids next ≡ number_kind single (number_or (number_of code))
  kind_fixed h = cond_yes (is_fixed code) _ _ h

  pub kind_string : is_string code ≡ true → kind_of code single ids next ≡ string_node (width_of code)
  kind_string h = cond_no (is_fixed code) _ _ (later 1 10 11 14 code h (omega arith)) ∙ cond_yes (is_string code) _ _ h

  pub kind_view : is_view code ≡ true → kind_of code single ids next ≡ view_node
  kind_view h =
      cond_no (is_fixed code) _ _ (later 1 10 15 16 code h (omega arith))
      ∙ cond_no (is_string code) _ _ (later 11 14 15 16 code h (omega arith))
      ∙ cond_yes (is_view code) _ _ h

  pub kind_list : is_list_view code ≡ true → kind_of code single ids next ≡ list_view_node (width_of code)
  kind_list h =
      cond_no (is_fixed code) _ _ (later 1 10 17 18 code h (omega arith))
      ∙ cond_no (is_string code) _ _ (later 11 14 17 18 code h (omega arith))
      ∙ cond_no (is_view code) _ _ (later 15 16 17 18 code h (omega arith))
      ∙ cond_yes (is_list_view code) _ _ h

  pub kind_lists : is_list code ≡ true → kind_of code single ids next ≡ list_node (width_of code)
  kind_lists h =
      cond_no (is_fixed code) _ _ (later 1 10 19 20 code h (omega arith))
      ∙ cond_no (is_string code) _ _ (later 11 14 19 20 code h (omega arith))
      ∙ cond_no (is_view code) _ _ (later 15 16 19 20 code h (omega arith))
      ∙ cond_no (is_list_view code) _ _ (later 17 18 19 20 code h (omega arith))
      ∙ cond_yes (is_list code) _ _ h

  pub kind_union : is_union code ≡ true → kind_of code single ids next ≡ union_kind (eqb code 21) (ids_or ids)
  kind_union h =
      cond_no (is_fixed code) _ _ (later 1 10 21 22 code h (omega arith))
      ∙ cond_no (is_string code) _ _ (later 11 14 21 22 code h (omega arith))
      ∙ cond_no (is_view code) _ _ (later 15 16 21 22 code h (omega arith))
      ∙ cond_no (is_list_view code) _ _ (later 17 18 21 22 code h (omega arith))
      ∙ cond_no (is_list code) _ _ (later 19 20 21 22 code h (omega arith))
      ∙ cond_yes (is_union code) _ _ h

  pub kind_run : is_run_end code ≡ true → kind_of code single ids next ≡ run_end_node (width_of next)
  kind_run h =
      cond_no (is_fixed code) _ _ (later 1 10 23 23 code h (omega arith))
      ∙ cond_no (is_string code) _ _ (later 11 14 23 23 code h (omega arith))
      ∙ cond_no (is_view code) _ _ (later 15 16 23 23 code h (omega arith))
      ∙ cond_no (is_list_view code) _ _ (later 17 18 23 23 code h (omega arith))
      ∙ cond_no (is_list code) _ _ (later 19 20 23 23 code h (omega arith))
      ∙ cond_no (is_union code) _ _ (later 21 22 23 23 code h (omega arith))
      ∙ cond_yes (is_run_end code) _ _ h

-- the number of a fixed-width code has its bytes
pub number_or_lem : (code : ℕ) → is_fixed code ≡ true → width (number_or (number_of code)) ≡ width_of code
number_or_lem code h =
    let p = fixed_number code h in
    ap (λ o. width (number_or o)) p.1 ∙ number_width code p.0 p.1

-- the kind of a plain node
abbrev pub plain_kind : Plain → NodeKind
plain_kind (fixed m) = fixed_node m
plain_kind (string w) = string_node w

-- ---- the widths and keys of codes

pub string_width : (c : ℕ) → is_string c ≡ true → OffsetWidth (width_of c)
string_width c h = go (eqb c 11) refl (eqb c 12) refl (eqb c 13) refl
  where
    go : (x : Bool) → eqb c 11 ≡ x → (y : Bool) → eqb c 12 ≡ y → (z : Bool) → eqb c 13 ≡ z → OffsetWidth (width_of c)
    go true e y e2 z e3 = subst (λ k. OffsetWidth (width_of k)) (sym (eqb-true c 11 e)) four
    go false e true e2 z e3 = subst (λ k. OffsetWidth (width_of k)) (sym (eqb-true c 12 e2)) four
    go false e false e2 true e3 = subst (λ k. OffsetWidth (width_of k)) (sym (eqb-true c 13 e3)) eight
    go false e false e2 false e3 =
        let p = both (leb 11 c) (leb c 14) h in
        let low = leb-true 11 c p.0 in
        let top = leb-true c 14 p.1 in
        let a = eqb-false c 11 e in
        let b = eqb-false c 12 e2 in
        let d = eqb-false c 13 e3 in
        let is : 14 ≡ c = omega arith in
        subst (λ k. OffsetWidth (width_of k)) is eight

pub list_width : (c : ℕ) → is_list_view c ≡ true → OffsetWidth (width_of c)
list_width c h = go (eqb c 17) refl
  where
    go : (x : Bool) → eqb c 17 ≡ x → OffsetWidth (width_of c)
    go true e = subst (λ k. OffsetWidth (width_of k)) (sym (eqb-true c 17 e)) four
    go false e =
        let p = both (leb 17 c) (leb c 18) h in
        let low = leb-true 17 c p.0 in
        let top = leb-true c 18 p.1 in
        let a = eqb-false c 17 e in
        let is : 18 ≡ c = omega arith in
        subst (λ k. OffsetWidth (width_of k)) is eight

pub lists_width : (c : ℕ) → is_list c ≡ true → OffsetWidth (width_of c)
lists_width c h = go (eqb c 19) refl
  where
    go : (x : Bool) → eqb c 19 ≡ x → OffsetWidth (width_of c)
    go true e = subst (λ k. OffsetWidth (width_of k)) (sym (eqb-true c 19 e)) four
    go false e =
        let p = both (leb 19 c) (leb c 20) h in
        let low = leb-true 19 c p.0 in
        let top = leb-true c 20 p.1 in
        let a = eqb-false c 19 e in
        let is : 20 ≡ c = omega arith in
        subst (λ k. OffsetWidth (width_of k)) is eight

-- s, i and l are fixed-width
record EndsCode (c : ℕ) : Type 0 where
  pub is_fixed_lem : is_fixed c ≡ true
  pub ends_width : RunWidth (width_of c)

ends_code : (c : ℕ) → eqb c 3 || eqb c 5 || eqb c 7 ≡ true → EndsCode c
ends_code c h = go (either (eqb c 3 || eqb c 5) (eqb c 7) h)
  where
    low : (eqb c 3 ≡ true) ⊎ (eqb c 5 ≡ true) → EndsCode c
    low (inl e) = subst EndsCode (sym (eqb-true c 3 e)) (record { is_fixed_lem = refl; ends_width = RunWidth.two })
    low (inr e) = subst EndsCode (sym (eqb-true c 5 e)) (record { is_fixed_lem = refl; ends_width = RunWidth.four })

    go : (eqb c 3 || eqb c 5 ≡ true) ⊎ (eqb c 7 ≡ true) → EndsCode c
    go (inl e) = low (either (eqb c 3) (eqb c 5) e)
    go (inr e) = subst EndsCode (sym (eqb-true c 7 e)) (record { is_fixed_lem = refl; ends_width = RunWidth.eight })

pub integer_fixed : (c : ℕ) → is_integer c ≡ true → is_fixed c ≡ true
integer_fixed c h =
    let p = both (leb 1 c) (leb c 8) h in
    let top = leb-true c 8 p.1 in
    (and-eq-true_iff (leb 1 c) (leb c 10)).1 (p.0, le-leb c 10 (omega arith))

integer_number : (c : ℕ) → is_integer c ≡ true → T (integer (number_or (number_of c)))
unfolding number_of
integer_number zero h = absurd (false≢true h)
integer_number (suc zero) h = tt
integer_number (suc (suc zero)) h = tt
integer_number (suc (suc (suc zero))) h = tt
integer_number (suc (suc (suc (suc zero)))) h = tt
integer_number (suc (suc (suc (suc (suc zero))))) h = tt
integer_number (suc (suc (suc (suc (suc (suc zero)))))) h = tt
integer_number (suc (suc (suc (suc (suc (suc (suc zero))))))) h = tt
integer_number (suc (suc (suc (suc (suc (suc (suc (suc zero)))))))) h = tt
integer_number (suc (suc (suc (suc (suc (suc (suc (suc (suc c))))))))) h =
    let k = suc (suc (suc (suc (suc (suc (suc (suc (suc c)))))))) in
    let top = leb-true k 8 (both (leb 1 k) (leb k 8) h).1 in
    absurd (omega arith)

-- ---- what a node's shape says

module _ (formats schema : List ℕ) (first : ℕ) where
  -- a node of a type that 01 admits: its kind, and what stands below it
  pub data Shaped (i : ℕ) : Type 0 where
    of_plain_lem : (p : Plain) → kind_at formats schema first i ≡ plain_kind p → below schema first i ≡ 0 → FormedPlain p → Shaped i
    of_view : kind_at formats schema first i ≡ view_node → below schema first i ≡ 0 → Shaped i
    of_list : (w : ℕ) → kind_at formats schema first i ≡ list_view_node w → below schema first i ≡ 1 → OffsetWidth w → Shaped i
    of_lists_lem : (w : ℕ) → kind_at formats schema first i ≡ list_node w → below schema first i ≡ 1 → OffsetWidth w → Shaped i
    of_sparse : (ids : List ℕ) → kind_at formats schema first i ≡ sparse_node ids → below schema first i ≡ length ids → Ids ids → eqb (dictionary schema first i) 0 ≡ true → Shaped i
    of_dense : (ids : List ℕ) → kind_at formats schema first i ≡ dense_node ids → below schema first i ≡ length ids → Ids ids → eqb (dictionary schema first i) 0 ≡ true → Shaped i
    of_run_lem : (m : Number) → kind_at formats schema first i ≡ run_end_node (width m) → below schema first i ≡ 2
        → kind_at formats schema first (suc i) ≡ fixed_node m → below schema first (suc i) ≡ 0 → RunWidth (width m) → Shaped i
    of_dictionary : (m : Number) (p : Plain) → kind_at formats schema first i ≡ dictionary_node m → below schema first i ≡ 1
        → kind_at formats schema first (suc i) ≡ plain_kind p → below schema first (suc i) ≡ 0 → T (integer m) → FormedPlain p → Shaped i

  below_single : (i : ℕ) → eqb (dictionary schema first i) 0 ≡ true → below schema first i ≡ children schema first i
  unfolding below
  below_single i h =
      let z = cond_yes {A = ℕ} (eqb (dictionary schema first i) 0) 0 1 h in
      omega arith

  below_keys : (i : ℕ) → eqb (dictionary schema first i) 0 ≡ false → below schema first i ≡ children schema first i + 1
  unfolding below
  below_keys i h =
      let z = cond_no {A = ℕ} (eqb (dictionary schema first i) 0) 0 1 h in
      omega arith

  bare_single : (i : ℕ) → bare schema first i ≡ true → eqb (dictionary schema first i) 0 ≡ true
  unfolding bare
  bare_single i h = (both (eqb (children schema first i) 0) (eqb (dictionary schema first i) 0) h).1

  bare_below : (i : ℕ) → bare schema first i ≡ true → below schema first i ≡ 0
  unfolding bare
  bare_below i h =
      let p = both (eqb (children schema first i) 0) (eqb (dictionary schema first i) 0) h in
      below_single i p.1 ∙ eqb-true (children schema first i) 0 p.0

  abbrev code : ℕ → ℕ
  code i = code_of formats schema first i

  abbrev single : ℕ → Bool
  single i = eqb (dictionary schema first i) 0

  abbrev number_at : ℕ → Number
  number_at i = number_or (number_of (code i))

  pub at_fixed : (i : ℕ) → is_fixed (code i) ≡ true → single i ≡ true → kind_at formats schema first i ≡ fixed_node (number_at i)
  unfolding kind_at
  at_fixed i h s = kind_fixed (code i) (single i) (ids_of formats schema first i) (code (suc i)) h ∙ ap (λ b. number_kind b (number_at i)) s

  pub at_keys : (i : ℕ) → is_fixed (code i) ≡ true → single i ≡ false → kind_at formats schema first i ≡ dictionary_node (number_at i)
  unfolding kind_at
  at_keys i h s = kind_fixed (code i) (single i) (ids_of formats schema first i) (code (suc i)) h ∙ ap (λ b. number_kind b (number_at i)) s

  pub at_string : (i : ℕ) → is_string (code i) ≡ true → kind_at formats schema first i ≡ string_node (width_of (code i))
  unfolding kind_at
  at_string i h = kind_string (code i) (single i) (ids_of formats schema first i) (code (suc i)) h

  pub at_view : (i : ℕ) → is_view (code i) ≡ true → kind_at formats schema first i ≡ view_node
  unfolding kind_at
  at_view i h = kind_view (code i) (single i) (ids_of formats schema first i) (code (suc i)) h

  pub at_list : (i : ℕ) → is_list_view (code i) ≡ true → kind_at formats schema first i ≡ list_view_node (width_of (code i))
  unfolding kind_at
  at_list i h = kind_list (code i) (single i) (ids_of formats schema first i) (code (suc i)) h

  pub at_lists : (i : ℕ) → is_list (code i) ≡ true → kind_at formats schema first i ≡ list_node (width_of (code i))
  unfolding kind_at
  at_lists i h = kind_lists (code i) (single i) (ids_of formats schema first i) (code (suc i)) h

  pub at_union : (i : ℕ) → is_union (code i) ≡ true → kind_at formats schema first i ≡ union_kind (eqb (code i) 21) (ids_or (ids_of formats schema first i))
  unfolding kind_at
  at_union i h = kind_union (code i) (single i) (ids_of formats schema first i) (code (suc i)) h

  pub at_run : (i : ℕ) → is_run_end (code i) ≡ true → kind_at formats schema first i ≡ run_end_node (width_of (code (suc i)))
  unfolding kind_at
  at_run i h = kind_run (code i) (single i) (ids_of formats schema first i) (code (suc i)) h

  -- dictionary values
  record Values (i : ℕ) : Type 0 where
    pub plain : Plain
    pub kind : kind_at formats schema first i ≡ plain_kind plain
    pub none_below : below schema first i ≡ 0
    pub formed : FormedPlain plain

  plain_values : (i : ℕ) → is_fixed (code i) || is_string (code i) ≡ true → bare schema first i ≡ true → Values i
  plain_values i h b = go (either (is_fixed (code i)) (is_string (code i)) h)
    where
      go : (is_fixed (code i) ≡ true) ⊎ (is_string (code i) ≡ true) → Values i
      go (inl f) = record { plain = fixed (number_at i); kind = at_fixed i f (bare_single i b); none_below = bare_below i b; formed = tt }
      go (inr s) = record { plain = string (width_of (code i)); kind = at_string i s; none_below = bare_below i b; formed = string_width (code i) s }

  leaf_shaped : (i : ℕ) → leaf_shape formats schema first i ≡ true → Shaped i
  unfolding leaf_shape
  leaf_shaped i h = go (both (is_fixed (code i) || is_string (code i) || is_view (code i)) (bare schema first i) h)
    where
      by : (is_fixed (code i) || is_string (code i) ≡ true) ⊎ (is_view (code i) ≡ true) → bare schema first i ≡ true → Shaped i
      by (inl q) b = let v = plain_values i q b in of_plain_lem v.plain v.kind v.none_below v.formed
      by (inr v) b = of_view (at_view i v) (bare_below i b)

      go : (is_fixed (code i) || is_string (code i) || is_view (code i) ≡ true) × (bare schema first i ≡ true) → Shaped i
      go p = by (either (is_fixed (code i) || is_string (code i)) (is_view (code i)) p.0) p.1

  keys_shaped : (i : ℕ) → keys_shape formats schema first i ≡ true → Shaped i
  unfolding keys_shape values_shape
  keys_shaped i h =
      let p = both (is_integer (code i) && eqb (children schema first i) 0 && eqb (dictionary schema first i) 1) (values_shape formats schema first (suc i)) h in
      let q = both (is_integer (code i) && eqb (children schema first i) 0) (eqb (dictionary schema first i) 1) p.0 in
      let r = both (is_integer (code i)) (eqb (children schema first i) 0) q.0 in
      let one = eqb-true (dictionary schema first i) 1 q.1 in
      let no = eqb-true (children schema first i) 0 r.1 in
      let many : single i ≡ false = ne_eqb (dictionary schema first i) 0 (λ e. omega arith) in
      let s = both (is_fixed (code (suc i)) || is_string (code (suc i))) (bare schema first (suc i)) p.1 in
      let v = plain_values (suc i) s.0 s.1 in
      of_dictionary
      (number_at i)
      v.plain
      (at_keys i (integer_fixed (code i) r.0) many)
      (omega (arith, below_keys i many))
      v.kind
      v.none_below
      (integer_number (code i) r.0)
      v.formed

  list_shaped : (i : ℕ) → list_shape formats schema first i ≡ true → Shaped i
  unfolding list_shape
  list_shaped i h =
      let p = both ((is_list_view (code i) || is_list (code i)) && eqb (children schema first i) 1) (single i) h in
      let q = both (is_list_view (code i) || is_list (code i)) (eqb (children schema first i) 1) p.0 in
      go (either (is_list_view (code i)) (is_list (code i)) q.0) (below_single i p.1 ∙ eqb-true (children schema first i) 1 q.1)
    where
      go : (is_list_view (code i) ≡ true) ⊎ (is_list (code i) ≡ true) → below schema first i ≡ 1 → Shaped i
      go (inl v) z = of_list (width_of (code i)) (at_list i v) z (list_width (code i) v)
      go (inr l) z = of_lists_lem (width_of (code i)) (at_lists i l) z (lists_width (code i) l)

  -- a union's ids are as many as its children
  ids_children : (o : Option (List ℕ)) (i : ℕ) → child_for_each schema first o i ≡ true → length (ids_or o) ≡ children schema first i
  ids_children none i h = absurd (false≢true h)
  ids_children (some ids) i h = eqb-true (length ids) (children schema first i) h

  union_by_lem : (i : ℕ) (ids : List ℕ) (b : Bool) → kind_at formats schema first i ≡ union_kind b ids → below schema first i ≡ length ids → Ids ids → eqb (dictionary schema first i) 0 ≡ true → Shaped i
  union_by_lem i ids true e h f s = of_sparse ids e h f s
  union_by_lem i ids false e h f s = of_dense ids e h f s

  ids_at_lem : (i : ℕ) → Ids (ids_or (ids_of formats schema first i))
  unfolding ids_of
  ids_at_lem i = ids_formed formats (field schema (first + i) 0) (field schema (first + i) 1)

  union_shaped : (i : ℕ) → union_shape formats schema first i ≡ true → Shaped i
  unfolding union_shape
  union_shaped i h =
      let ids = ids_of formats schema first i in
      let p = both (is_union (code i) && child_for_each schema first ids i) (single i) h in
      let q = both (is_union (code i)) (child_for_each schema first ids i) p.0 in
      union_by_lem i (ids_or ids) (eqb (code i) 21) (at_union i q.0) (below_single i p.1 ∙ sym (ids_children ids i q.1)) (ids_at_lem i) p.1

  run_shaped : (i : ℕ) → run_shape formats schema first i ≡ true → Shaped i
  unfolding run_shape ends_shape
  run_shaped i h =
      let p = both (is_run_end (code i) && eqb (children schema first i) 2 && single i) (ends_shape formats schema first (suc i)) h in
      let q = both (is_run_end (code i) && eqb (children schema first i) 2) (single i) p.0 in
      let r = both (is_run_end (code i)) (eqb (children schema first i) 2) q.0 in
      let c = code (suc i) in
      let s = both (eqb c 3 || eqb c 5 || eqb c 7) (bare schema first (suc i)) p.1 in
      let d = ends_code c s.0 in
      let f = d.is_fixed_lem in
      of_run_lem
      (number_at (suc i))
      (at_run i r.0 ∙ ap run_end_node (sym (number_or_lem c f)))
      (below_single i q.1 ∙ eqb-true (children schema first i) 2 r.1)
      (at_fixed (suc i) f (bare_single (suc i) s.1))
      (bare_below (suc i) s.1)
      (subst RunWidth (sym (number_or_lem c f)) d.ends_width)

  pub five : {A : Type 0} (a b c d e : Bool) → a || b || c || d || e ≡ true → (a ≡ true → A) → (b ≡ true → A) → (c ≡ true → A) → (d ≡ true → A) → (e ≡ true → A) → A
  five true b c d e h p q r s t = p refl
  five false true c d e h p q r s t = q refl
  five false false true d e h p q r s t = r refl
  five false false false true e h p q r s t = s refl
  five false false false false e h p q r s t = t h

  pub shaped : (i : ℕ) → shape formats schema first i ≡ true → Shaped i
  unfolding shape
  shaped i h =
      five
      (leaf_shape formats schema first i)
      (keys_shape formats schema first i)
      (list_shape formats schema first i)
      (union_shape formats schema first i)
      (run_shape formats schema first i)
      h
      (leaf_shaped i)
      (keys_shaped i)
      (list_shaped i)
      (union_shaped i)
      (run_shaped i)
