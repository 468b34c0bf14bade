-- Each answer of the grounds, by the first test that is not passed; and that the rules are tested where 9 and 10 do not stand. Assumes nothing.
use mathlib.Core.Path.{◌≡◌, refl, sym, ap, subst, ◌∙◌}
use mathlib.Core.Bool.{Bool, true, false, cond, ◌&&◌}
use mathlib.Core.List.{List, []}
use Prim.Native.Nat.{ℕ, ◌+◌, ◌*◌, ◌≤◌, ◌<◌, ◌^◌}
use native.Mathlib.Omega.{arith}
use lib.Dec.{ltb}
use borrow.Author.Tests.{ltb-true}
use Rattle.schema.specs.Tree.{ceilings, typed, same_type}
use Rattle.schema.proofs.Known.{every_at, within_nodes}
use Rattle.array_data.specs.Tables.{Tables, length_of, offset_of}
use Rattle.array_data.proofs.type_tree.Ids.{both}
use Rattle.array_data.specs.lent_tables.Lent.{tables}
use Rattle.source_rules.specs.kinds.Rows.{tables_of}
use Rattle.source_rules.specs.Source.{Ready}
use Rattle.columns.specs.Grounds.{count_fits, few_buffers, node_fits, small_body, within_ceilings, obeys, column_ground, few_sources, all_typed, all_same, all_within, all_obey, sources_ground}
use Rattle.array_data.specs.Sources.{source_count, first_of, nodes_of}
use Rattle.columns.proofs.Grounds.{Placed, SourceAt, within_low, within_at_lem, typed_at, same_at_lem, by_nodes, sources_source}
use Rattle.columnar.specs.Test.{every}

-- ---- ground 9 is not about the body

module _ (formats schema lengths places buffers body : List ℕ) where
  pub within_as : (first n : ℕ) → within_ceilings formats schema (tables lengths places []) first n ≡ within_ceilings formats schema (tables_of lengths places buffers body) first n
  unfolding within_ceilings node_fits count_fits few_buffers
  within_as first n = refl

  pub all_within_as : (sources : List ℕ) → all_within formats schema (tables lengths places []) sources ≡ all_within formats schema (tables_of lengths places buffers body) sources
  unfolding all_within within_ceilings node_fits count_fits few_buffers
  all_within_as sources = refl

-- ---- where the rules are tested

module _ (formats schema : List ℕ) (x : Tables) where
  pub sum_fits : (first n : ℕ) → within_ceilings formats schema x first n ≡ true → (j : ℕ) → j < n → offset_of x (first + j) + length_of x (first + j) < 2 ^ 63
  unfolding within_ceilings node_fits count_fits
  sum_fits first n h j l =
      let p = both (ceilings formats schema first n) (every (node_fits formats schema x first) n) h in
      let q = every_at (node_fits formats schema x first) n j p.1 l in
      ltb-true (offset_of x (first + j) + length_of x (first + j)) (2 ^ 63) (both (count_fits x (first + j)) (few_buffers formats schema x first j) q).0

  pub ready : (first n : ℕ) → first < 2 ^ 32 → within_ceilings formats schema x first n ≡ true → typed formats schema first n ≡ true → Ready formats schema x first n
  ready first n l w t =
      let few = within_nodes formats schema first n (within_low formats schema x first n w) in
      record { few = few; low = l; is_typed = t; counted = λ j i. record { small = omega (arith, few, l, i); sum = sum_fits first n w j i } }

  pub ready_at : (sources : List ℕ) → all_within formats schema x sources ≡ true → all_typed formats schema sources ≡ true
      → (s : ℕ) → s < source_count sources → (a b : ℕ) → a ≡ first_of sources s → b ≡ nodes_of sources s → a < 2 ^ 32 → Ready formats schema x a b
  ready_at sources w t s l a b e d h =
      let r = ready (first_of sources s) (nodes_of sources s) (subst (λ k. k < 2 ^ 32) e h) (within_at_lem formats schema x sources w s l) (typed_at formats schema x sources t s l) in
      subst (λ k. Ready formats schema x k b) (sym e) (subst (λ k. Ready formats schema x (first_of sources s) k) (sym d) r)

-- ---- one column

module _ (formats schema : List ℕ) (x : Tables) (first n : ℕ) where
  pub not_small : small_body x.body ≡ false → 9 ≡ column_ground formats schema x first n
  unfolding column_ground
  not_small b = rw b

  module _ (b : small_body x.body ≡ true) where
    pub not_within : within_ceilings formats schema x first n ≡ false → 9 ≡ column_ground formats schema x first n
    unfolding column_ground
    not_within w = rw (b, w)

    module _ (w : within_ceilings formats schema x first n ≡ true) where
      pub not_typed : typed formats schema first n ≡ false → 10 ≡ column_ground formats schema x first n
      unfolding column_ground
      not_typed t = rw (b, w, t)

      pub not_obeying : typed formats schema first n ≡ true → obeys formats schema x first n ≡ false → 12 ≡ column_ground formats schema x first n
      unfolding column_ground
      not_obeying t o = rw (b, w, t, o)

      pub one_good : typed formats schema first n ≡ true → obeys formats schema x first n ≡ true → 0 ≡ column_ground formats schema x first n
      unfolding column_ground
      one_good t o = rw (b, w, t, o)

-- ---- all sources

module _ (formats schema : List ℕ) (x : Tables) (sources : List ℕ) where
  pub none_small : small_body x.body ≡ false → 9 ≡ sources_ground formats schema x sources
  unfolding sources_ground
  none_small b = rw b

  module _ (b : small_body x.body ≡ true) where
    pub not_few : few_sources sources ≡ false → 9 ≡ sources_ground formats schema x sources
    unfolding sources_ground
    not_few f = rw (b, f)

    module _ (f : few_sources sources ≡ true) where
      pub not_all_within : all_within formats schema x sources ≡ false → 9 ≡ sources_ground formats schema x sources
      unfolding sources_ground
      not_all_within w = rw (b, f, w)

      module _ (w : all_within formats schema x sources ≡ true) where
        pub not_all_typed : all_typed formats schema sources ≡ false → 10 ≡ sources_ground formats schema x sources
        unfolding sources_ground
        not_all_typed t = rw (b, f, w, t)

        module _ (t : all_typed formats schema sources ≡ true) where
          pub not_all_same : all_same formats schema sources ≡ false → 11 ≡ sources_ground formats schema x sources
          unfolding sources_ground
          not_all_same e = rw (b, f, w, t, e)

          pub not_all_obey : all_same formats schema sources ≡ true → all_obey formats schema x sources ≡ false → 12 ≡ sources_ground formats schema x sources
          not_all_obey e o = sym (by_nodes formats schema x sources ∙ rw (b, f, w, t, e, o) refl)

          pub all_good : all_same formats schema sources ≡ true → all_obey formats schema x sources ≡ true → 0 ≡ sources_ground formats schema x sources
          all_good e o = sym (by_nodes formats schema x sources ∙ rw (b, f, w, t, e, o) refl)

  -- WHERE 9, 10 AND 11 DO NOT STAND, neither does 12 of sources of one type whose buffers lie in the body
  pub sources_rules : (sources_ground formats schema x sources ≡ 9 → ⊥) → (sources_ground formats schema x sources ≡ 10 → ⊥) → (sources_ground formats schema x sources ≡ 11 → ⊥)
      → ((s : ℕ) → s < source_count sources → Placed formats schema x (first_of sources s) (nodes_of sources s))
      → ((s : ℕ) → s < source_count sources → same_type formats schema (first_of sources 0) (nodes_of sources 0) (first_of sources s) (nodes_of sources s) ≡ true → SourceAt formats schema x sources s)
      → sources_ground formats schema x sources ≡ 0
  sources_rules no_9 no-10 no-11 lies all =
      go (small_body x.body) refl (few_sources sources) refl (all_within formats schema x sources) refl (all_typed formats schema sources) refl (all_same formats schema sources) refl
    where
      go : (a : Bool) → small_body x.body ≡ a → (b : Bool) → few_sources sources ≡ b → (c : Bool) → all_within formats schema x sources ≡ c → (d : Bool) → all_typed formats schema sources ≡ d
          → (e : Bool) → all_same formats schema sources ≡ e → sources_ground formats schema x sources ≡ 0
      go true p true q true r true t true u = sources_source formats schema x sources p q r t u lies (λ s l. all s l (same_at_lem formats schema x sources u s l))
      go true p true q true r true t false u = absurd (no-11 (sym (not_all_same p q r t u)))
      go true p true q true r false t e u = absurd (no-10 (sym (not_all_typed p q r t)))
      go true p true q false r d t e u = absurd (no_9 (sym (not_all_within p q r)))
      go true p false q c r d t e u = absurd (no_9 (sym (not_few p q)))
      go false p b q c r d t e u = absurd (no_9 (sym (none_small p)))
