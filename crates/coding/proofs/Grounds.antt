-- What each return of the encoder's own tests answers. Assumes nothing.
use mathlib.Core.Path.{◌≡◌, refl, ap, ◌∙◌}
use mathlib.Core.Bool.{Bool, true, false, not}
use mathlib.Core.List.{List, []}
use Prim.Native.Nat.{ℕ, ◌-◌}
use lib.Dec.{ltb, eqb}
use Rattle.columnar.specs.Types.{half}
use Rattle.schema.specs.formats.Code.{is_fixed, is_run_end, width_of}
use Rattle.schema.specs.Tree.{dictionary, code_of, ceilings, typed}
use Rattle.array_data.specs.Tables.{Tables}
use Rattle.array_data.specs.lent_tables.Lent.{tables}
use Rattle.source_rules.specs.kinds.Rows.{tables_of}
use Rattle.columns.specs.column_pair.Pair.{range_in}
use Rattle.coding.specs.Encode.{plain_at, end_width, runs_over, encode_own}
use Rattle.coding.proofs.Tests.{no_by, yes_by}

module _ (formats schema : List ℕ) (first i : ℕ) {c : ℕ} {f : Bool} (ec : c ≡ code_of formats schema first i) (ef : f ≡ is_fixed c) where
  pub plain_no : not f ≡ true → false ≡ plain_at formats schema first i
  unfolding plain_at
  plain_no h = rw (no_by (ef ∙ ap is_fixed ec) h)

  pub plain_yes : not f ≡ false → {d : ℕ} → d ≡ dictionary schema first i → eqb d 0 ≡ plain_at formats schema first i
  unfolding plain_at
  plain_yes h e = rw (yes_by (ef ∙ ap is_fixed ec) h, e)

-- ---- the target

module _ (formats schema : List ℕ) (first target : ℕ) {a : Bool} (ea : a ≡ ceilings formats schema target 3) where
  pub due_ceilings : not a ≡ true → false ≡ runs_over formats schema first target
  unfolding runs_over
  due_ceilings h = rw (no_by ea h)

  module _ (ha : not a ≡ false) {b : Bool} (eb : b ≡ typed formats schema target 3) where
    pub due_typed : not b ≡ true → false ≡ runs_over formats schema first target
    unfolding runs_over
    due_typed h = rw (yes_by ea ha, no_by eb h)

    module _ (hb : not b ≡ false) {c : ℕ} {d : Bool} (ec : c ≡ code_of formats schema target 0) (ed : d ≡ is_run_end c) where
      pub due_runs : not d ≡ true → false ≡ runs_over formats schema first target
      unfolding runs_over
      due_runs h = rw (yes_by ea ha, yes_by eb hb, no_by (ed ∙ ap is_run_end ec) h)

      module _ (hd : not d ≡ false) {p : Bool} (ep : p ≡ plain_at formats schema target 2) where
        pub due_plain : not p ≡ true → false ≡ runs_over formats schema first target
        unfolding runs_over
        due_plain h = rw (yes_by ea ha, yes_by eb hb, yes_by (ed ∙ ap is_run_end ec) hd, no_by ep h)

        pub due_same : not p ≡ false → {u v : ℕ} → u ≡ code_of formats schema target 2 → v ≡ code_of formats schema first 0 → eqb u v ≡ runs_over formats schema first target
        unfolding runs_over
        due_same h eu ev = rw (yes_by ea ha, yes_by eb hb, yes_by (ed ∙ ap is_run_end ec) hd, yes_by ep h, eu, ev)

-- ---- 10, 2, 7

module _ (formats schema : List ℕ) (x : Tables) (first n target start end : ℕ) {p : Bool} (ep : p ≡ plain_at formats schema first 0) where
  pub own_plain : not p ≡ true → 10 ≡ encode_own formats schema x first n target start end
  unfolding encode_own
  own_plain h = rw (no_by ep h)

  module _ (hp : not p ≡ false) {d : Bool} (ed : d ≡ runs_over formats schema first target) where
    pub own_due : not d ≡ true → 10 ≡ encode_own formats schema x first n target start end
    unfolding encode_own
    own_due h = rw (yes_by ep hp, no_by ed h)

    module _ (hd : not d ≡ false) {r : Bool} (er : r ≡ range_in x first start end) where
      pub own_range : not r ≡ true → 2 ≡ encode_own formats schema x first n target start end
      unfolding encode_own
      own_range h = rw (yes_by ep hp, yes_by ed hd, no_by er h)

      module _ (hr : not r ≡ false) {c w : ℕ} {f : Bool} (ec : c ≡ code_of formats schema target 1) (ew : w ≡ width_of c) (ef : f ≡ ltb (end - start) (half w)) where
        ends : f ≡ ltb (end - start) (half (end_width formats schema first target))
        ends = ef ∙ ap (λ z. ltb (end - start) (half z)) (ew ∙ ap width_of ec)

        pub own_long : not f ≡ true → 7 ≡ encode_own formats schema x first n target start end
        unfolding encode_own
        own_long h = rw (yes_by ep hp, yes_by ed hd, yes_by er hr, no_by ends h)

        pub own_free : not f ≡ false → 0 ≡ encode_own formats schema x first n target start end
        unfolding encode_own
        own_free h = rw (yes_by ep hp, yes_by ed hd, yes_by er hr, yes_by ends h)

-- only the lengths are looked at
pub own_same : (formats schema lengths places buffers body : List ℕ) (first n target start end : ℕ)
    → encode_own formats schema (tables lengths [] []) first 0 target start end ≡ encode_own formats schema (tables_of lengths places buffers body) first n target start end
unfolding encode_own range_in
own_same formats schema lengths places buffers body first n target start end = refl
