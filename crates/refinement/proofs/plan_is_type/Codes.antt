-- What a node's kind says of its code. Assumes nothing.
use mathlib.Core.Path.{◌≡◌, refl, ap, sym, ◌∙◌}
use mathlib.Core.Bool.{Bool, true, false, cond, ◌&&◌, ◌||◌, false≢true, or-true}
use mathlib.Core.Option.{Option}
use mathlib.Core.List.{List}
use Prim.Native.Nat.{ℕ, suc, ◌+◌, ◌≤◌}
use native.Mathlib.Omega.{arith}
use lib.Dec.{leb, eqb}
use borrow.Author.Tests.{leb-true, eqb-true, eqb-false}
use Rattle.columnar.specs.Types.{width, int, w1}
use Rattle.schema.specs.formats.Code.{between, is_integer, is_fixed, is_string, is_view, is_list_view, is_list, is_union, is_run_end, width_of}
use Rattle.schema.specs.formats.Types.{number_of, number_or}
use Rattle.schema.specs.Tree.{children, dictionary, below, bare, child_for_each, code_of, ids_of, values_shape, ends_shape, leaf_shape, keys_shape, list_shape, union_shape, run_shape, shape}
use Rattle.array_data.specs.NodeKinds.{NodeKind, fixed_node, string_node, view_node, list_view_node, list_node, sparse_node, dense_node, run_end_node, dictionary_node, kind_of, kind_at}
use Rattle.array_data.proofs.type_tree.Ids.{both}
use Rattle.array_data.proofs.type_tree.Shaped.{number_or_lem, integer_fixed, five}
use Rattle.array_data.proofs.Names.{ids_or, number_kind, union_kind}

-- a format that 01 admits
abbrev pub admitted : ℕ → Bool
admitted code = is_fixed code || is_string code || is_view code || is_list_view code || is_list code || is_union code || is_run_end code

pub between_low : (low high z : ℕ) → between low high z ≡ true → low ≤ z
between_low low high z h = leb-true low z (both (leb low z) (leb z high) h).0

pub between_top : (low high z : ℕ) → between low high z ≡ true → z ≤ high
between_top low high z h = leb-true z high (both (leb low z) (leb z high) h).1

module _ (code : ℕ) where
  -- one of seven tests
  seven : {A : Type 0} (f s v l o u r : Bool) → f || s || v || l || o || u || r ≡ true → (f ≡ true → A) → (s ≡ true → A) → (v ≡ true → A) → (l ≡ true → A) → (o ≡ true → A) → (u ≡ true → A)
      → (r ≡ true → A) → A
  seven true s v l o u r h a b c d i e g = a refl
  seven false true v l o u r h a b c d i e g = b refl
  seven false false true l o u r h a b c d i e g = c refl
  seven false false false true o u r h a b c d i e g = d refl
  seven false false false false true u r h a b c d i e g = i refl
  seven false false false false false true r h a b c d i e g = e refl
  seven false false false false false false r h a b c d i e g = g h

  pub small_code : admitted code ≡ true → code ≤ 23
  small_code h =
      seven (is_fixed code) (is_string code) (is_view code) (is_list_view code) (is_list code) (is_union code) (is_run_end code) h
      (λ e. omega (arith, between_top 1 10 code e))
      (λ e. omega (arith, between_top 11 14 code e))
      (λ e. omega (arith, between_top 15 16 code e))
      (λ e. omega (arith, between_top 17 18 code e))
      (λ e. omega (arith, between_top 19 20 code e))
      (λ e. omega (arith, between_top 21 22 code e))
      (λ e. omega (arith, between_top 23 23 code e))

  pub low_code : admitted code ≡ true → 1 ≤ code
  low_code h =
      seven (is_fixed code) (is_string code) (is_view code) (is_list_view code) (is_list code) (is_union code) (is_run_end code) h
      (λ e. omega (arith, between_low 1 10 code e))
      (λ e. omega (arith, between_low 11 14 code e))
      (λ e. omega (arith, between_low 15 16 code e))
      (λ e. omega (arith, between_low 17 18 code e))
      (λ e. omega (arith, between_low 19 20 code e))
      (λ e. omega (arith, between_low 21 22 code e))
      (λ e. omega (arith, between_low 23 23 code e))

  run_code : is_run_end code ≡ true → code ≡ 23
  run_code h =
      let p = both (leb 23 code) (leb code 23) h in
      let low = leb-true 23 code p.0 in
      let top = leb-true code 23 p.1 in
      omega arith

  dense_code : is_union code ≡ true → eqb code 21 ≡ false → code ≡ 22
  dense_code h e =
      let p = both (leb 21 code) (leb code 22) h in
      let low = leb-true 21 code p.0 in
      let top = leb-true code 22 p.1 in
      let d = eqb-false code 21 e in
      omega arith

  module _ (single : Bool) (ids : Option (List ℕ)) (next : ℕ) where
    -- what a code is where it stands for this kind
    abbrev pub Coded : NodeKind → Type 0
    Coded (fixed_node m) = (is_fixed code ≡ true) × (width_of code ≡ width m)
    Coded (string_node w) = (is_string code ≡ true) × (width_of code ≡ w)
    Coded view_node = is_view code ≡ true
    Coded (list_view_node w) = (is_list_view code ≡ true) × (width_of code ≡ w)
    Coded (list_node w) = (is_list code ≡ true) × (width_of code ≡ w)
    Coded (sparse_node d) = (code ≡ 21) × (ids_or ids ≡ d)
    Coded (dense_node d) = (code ≡ 22) × (ids_or ids ≡ d)
    Coded (run_end_node w) = (code ≡ 23) × (width_of next ≡ w)
    Coded (dictionary_node m) = (is_fixed code ≡ true) × (width_of code ≡ width m) × (single ≡ false)

    number_coded : (b : Bool) → single ≡ b → is_fixed code ≡ true → Coded (number_kind b (number_or (number_of code)))
    number_coded true e h = (h, sym (number_or_lem code h))
    number_coded false e h = (h, sym (number_or_lem code h), e)

    union_coded : (b : Bool) → eqb code 21 ≡ b → is_union code ≡ true → Coded (union_kind b (ids_or ids))
    union_coded true e h = (eqb-true code 21 e, refl)
    union_coded false e h = (dense_code h e, refl)

    pub coded : admitted code ≡ true → Coded (kind_of code single ids next)
    coded h = go (is_fixed code) refl (is_string code) refl (is_view code) refl (is_list_view code) refl (is_list code) refl (is_union code) refl (is_run_end code) refl h
      where
        go : (f : Bool) → is_fixed code ≡ f → (s : Bool) → is_string code ≡ s → (v : Bool) → is_view code ≡ v → (l : Bool) → is_list_view code ≡ l → (o : Bool) → is_list code ≡ o → (u : Bool) → is_union code ≡ u
            → (r : Bool) → is_run_end code ≡ r → f || s || v || l || o || u || r ≡ true
            → Coded
            (cond f (number_kind single (number_or (number_of code)))
            (cond s (string_node (width_of code)) (cond v view_node (cond l (list_view_node (width_of code)) (cond o (list_node (width_of code)) (cond u (union_kind (eqb code 21) (ids_or ids)) (cond r (run_end_node (width_of next)) (fixed_node (int w1)))))))))
        go true ef s es v ev l el o eo u eu r er h = number_coded single refl ef
        go false ef true es v ev l el o eo u eu r er h = (es, refl)
        go false ef false es true ev l el o eo u eu r er h = ev
        go false ef false es false ev true el o eo u eu r er h = (el, refl)
        go false ef false es false ev false el true eo u eu r er h = (eo, refl)
        go false ef false es false ev false el false eo true eu r er h = union_coded (eqb code 21) refl eu
        go false ef false es false ev false el false eo false eu true er h = (run_code er, refl)
        go false ef false es false ev false el false eo false eu false er h = absurd (false≢true h)

    pub union_ids : (b : Bool) (d : List ℕ) → Coded (union_kind b d) → ids_or ids ≡ d
    union_ids true d h = h.1
    union_ids false d h = h.1

    pub union_code : (b : Bool) (d : List ℕ) → Coded (union_kind b d) → is_union code ≡ true
    union_code true d h = ap is_union h.0
    union_code false d h = ap is_union h.0

-- ---- a node whose shape is one of those that 01 admits

module _ (formats schema : List ℕ) (first i : ℕ) where
  abbrev code : ℕ
  code = code_of formats schema first i

  pub shape_admitted : shape formats schema first i ≡ true → admitted code ≡ true
  unfolding shape leaf_shape keys_shape list_shape union_shape run_shape
  shape_admitted h =
      let f = is_fixed code in
      let s = is_string code in
      let v = is_view code in
      let l = is_list_view code in
      let o = is_list code in
      let u = is_union code in
      let r = is_run_end code in
      five formats schema first
      (leaf_shape formats schema first i)
      (keys_shape formats schema first i)
      (list_shape formats schema first i)
      (union_shape formats schema first i)
      (run_shape formats schema first i)
      h
      (λ e. ap (λ b. b || l || o || u || r) (both (f || s || v) (bare schema first i) e).0)
      (λ e. let a = (both (is_integer code && eqb (children schema first i) 0 && eqb (dictionary schema first i) 1) (values_shape formats schema first (suc i)) e).0 in
      let b = (both (is_integer code && eqb (children schema first i) 0) (eqb (dictionary schema first i) 1) a).0 in
      ap (λ b. b || s || v || l || o || u || r) (integer_fixed code (both (is_integer code) (eqb (children schema first i) 0) b).0))
      (λ e. let a = (both ((l || o) && eqb (children schema first i) 1) (eqb (dictionary schema first i) 0) e).0 in
      listed f s v l o u r (both (l || o) (eqb (children schema first i) 1) a).0)
      (λ e. let a = (both (u && child_for_each schema first (ids_of formats schema first i) i) (eqb (dictionary schema first i) 0) e).0 in
      ap (λ b. f || s || v || l || o || b || r) (both u (child_for_each schema first (ids_of formats schema first i) i) a).0 ∙ ap (λ b. b || r) (or-true (f || s || v || l || o)))
      (λ e. let a = (both (r && eqb (children schema first i) 2 && eqb (dictionary schema first i) 0) (ends_shape formats schema first (suc i)) e).0 in
      let b = (both (r && eqb (children schema first i) 2) (eqb (dictionary schema first i) 0) a).0 in
      ap (λ b. f || s || v || l || o || u || b) (both r (eqb (children schema first i) 2) b).0 ∙ or-true (f || s || v || l || o || u))
    where
      listed : (f s v l o u r : Bool) → l || o ≡ true → f || s || v || l || o || u || r ≡ true
      listed f s v true o u r h = ap (λ b. b || o || u || r) (or-true (f || s || v))
      listed f s v false true u r h = ap (λ b. b || u || r) (or-true (f || s || v || false))
      listed f s v false false u r h = absurd (false≢true h)

  pub code_of_lem : shape formats schema first i ≡ true → Coded code (eqb (dictionary schema first i) 0) (ids_of formats schema first i) (code_of formats schema first (suc i)) (kind_at formats schema first i)
  unfolding kind_at
  code_of_lem h = coded code (eqb (dictionary schema first i) 0) (ids_of formats schema first i) (code_of formats schema first (suc i)) (shape_admitted h)

  -- a node with nothing below it has no dictionary
  pub no_dictionary : below schema first i ≡ 0 → dictionary schema first i ≡ 0
  unfolding below
  no_dictionary z = go (eqb (dictionary schema first i) 0) refl z
    where
      go : (b : Bool) → eqb (dictionary schema first i) 0 ≡ b → children schema first i + cond b 0 1 ≡ 0 → dictionary schema first i ≡ 0
      go true e z = eqb-true (dictionary schema first i) 0 e
      go false e z = absurd (omega arith)
