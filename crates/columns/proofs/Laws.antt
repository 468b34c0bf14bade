-- What the proofs of `columns` go by. Assumes nothing.
use mathlib.Core.Path.{◌≡◌, refl, sym, ap, ◌∙◌}
use mathlib.Core.Bool.{Bool, true, false, not, cond, ◌&&◌, ◌||◌, and-false, and-true}
use mathlib.Core.List.{List}
use Prim.Native.Nat.{ℕ, ◌+◌, ◌*◌, ◌-◌, ◌≤◌, ◌<◌, ◌^◌}
use native.Mathlib.Omega.{arith}
use lib.Dec.{leb, ltb}
use borrow.Author.Tests.{le-leb, lt-leb, leb-true, leb-false, lt-ltb, le-ltb}
use Rattle.schema.specs.formats.Code.{is_view}
use Rattle.schema.specs.Tree.{code_of, ceilings, same_type}
use Rattle.array_data.specs.Tables.{Tables, length_of, offset_of, place}
use Rattle.columns.specs.Grounds.{count_fits, few_buffers, node_fits, within_ceilings}
use Rattle.array_data.specs.Sources.{first_of, nodes_of}
use Rattle.columnar.specs.Test.{every}

-- ---- one node

module _ (x : Tables) (k : ℕ) where
  pub count_over : (off : ℕ) → off ≡ offset_of x k → 9223372036854775807 < off → count_fits x k ≡ false
  unfolding count_fits
  count_over off e h = le-ltb (offset_of x k + length_of x k) (2 ^ 63) (omega (arith, e, h))

  pub count_under : (off len : ℕ) → off ≡ offset_of x k → len ≡ length_of x k → off ≤ 9223372036854775807 → leb len (9223372036854775807 - off) ≡ count_fits x k
  unfolding count_fits
  count_under off len e d h = go (leb len (9223372036854775807 - off)) refl
    where
      go : (b : Bool) → leb len (9223372036854775807 - off) ≡ b → leb len (9223372036854775807 - off) ≡ ltb (offset_of x k + length_of x k) (2 ^ 63)
      go true q =
          let l = leb-true len (9223372036854775807 - off) q in
          q ∙ sym (lt-ltb (offset_of x k + length_of x k) (2 ^ 63) (omega (arith, l, e, d, h)))
      go false q =
          let l = leb-false len (9223372036854775807 - off) q in
          q ∙ sym (le-ltb (offset_of x k + length_of x k) (2 ^ 63) (omega (arith, l, e, d, h)))

module _ (formats schema : List ℕ) (x : Tables) (first i : ℕ) where
  pub count_not : count_fits x (first + i) ≡ false → node_fits formats schema x first i ≡ false
  unfolding node_fits
  count_not h = rw h

  pub buffers_not : few_buffers formats schema x first i ≡ false → node_fits formats schema x first i ≡ false
  unfolding node_fits
  buffers_not h = rw (h, and-false)

  pub node_fits_lem : count_fits x (first + i) ≡ true → few_buffers formats schema x first i ≡ true → node_fits formats schema x first i ≡ true
  unfolding node_fits
  node_fits_lem g h = rw (g, h)

-- ---- one column

module _ (formats schema : List ℕ) (x : Tables) (first n : ℕ) where
  pub over_ceilings : ceilings formats schema first n ≡ false → within_ceilings formats schema x first n ≡ false
  unfolding within_ceilings
  over_ceilings h = rw h

  pub under_ceilings : {r : Bool} → ceilings formats schema first n ≡ true → r ≡ every (node_fits formats schema x first) n → r ≡ within_ceilings formats schema x first n
  unfolding within_ceilings
  under_ceilings h e = rw h e

-- ---- source s

-- what is asked of a column, asked of source s
abbrev pub of_source : (ℕ → ℕ → Bool) → List ℕ → ℕ → Bool
of_source f sources s = f (first_of sources s) (nodes_of sources s)

pub at_source : (f : ℕ → ℕ → Bool) (sources : List ℕ) (s : ℕ) {r : Bool} {a b : ℕ} → r ≡ f a b → a ≡ first_of sources s → b ≡ nodes_of sources s → r ≡ of_source f sources s
at_source f sources s {r} {a} {b} e p q = e ∙ ap (λ k. f k b) p ∙ ap (f (first_of sources s)) q

pub first_is : (formats schema sources : List ℕ) {r : Bool} {a b : ℕ} (c d : ℕ) → a ≡ first_of sources 0 → b ≡ nodes_of sources 0
    → r ≡ same_type formats schema a b c d → r ≡ same_type formats schema (first_of sources 0) (nodes_of sources 0) c d
first_is formats schema sources {r} {a} {b} c d p q e =
    e ∙ ap (λ k. same_type formats schema k b c d) p ∙ ap (λ k. same_type formats schema (first_of sources 0) k c d) q
