-- The loop over nodes is the walk of the column. Assumes nothing.
use mathlib.Core.Path.{◌≡◌, refl, sym, ap, ap₂, ◌∙◌}
use mathlib.Core.Bool.{Bool, false, cond}
use mathlib.Core.List.{List}
use Prim.Native.Nat.{ℕ, zero, suc, ◌+◌}
use native.Mathlib.Omega.{arith}
use Rattle.columnar.specs.Types.{Plain}
use Rattle.columnar.specs.Array.{ok}
use Rattle.array_data.specs.Tables.{Tables, offset_of, valid_of, array_with}
use Rattle.array_data.specs.NodeKinds.{NodeKind}
use Rattle.array_data.specs.Typed.{Tree, plain_body, kind_in}
use Rattle.walk.specs.State.{add_rows}
use Rattle.walk.specs.Log.{Out, done, next}
use Rattle.anew.specs.widths.Widths.{PlainWidths, s_fixed, s_string}
use Rattle.width_walks.specs.Convert.{bits_walk, node_walk, plain_walk}
use Rattle.width_walks.specs.Nodes.{from_in, many_in, is_run, after_run, settle_as, settle, own_as, own_walk, turn, nodes_walk, ranges_behind}
use Rattle.width_walks.proofs.Outs.{next_same, next_assoc, next_end, next_start_lem}
use Rattle.width_walks.proofs.Ranges.{settle_is}
use Rattle.width_walks.proofs.Laid.{plain_node, Both}

module _ (t t' : Tree) (x : Tables) (plan : List ℕ) where
  abbrev pub Loop : ℕ → ℕ → List ℕ → List ℕ → Out
  Loop m i rs c = nodes_walk t t' x plan m i rs c

  -- node i is no run ends
  abbrev pub Free : ℕ → Type 0
  Free i = (j : ℕ) → suc j ≡ i → is_run (kind_in t j) ≡ false

  not_after : (i : ℕ) → Free i → after_run t t' x plan i ≡ false
  not_after zero h = refl
  not_after (suc i) h = h i refl

  pub loop_step : (m i : ℕ) (rs c : List ℕ) → Free i → Loop (suc m) i rs c ≡ next (own_walk t t' x plan i (from_in rs i) (many_in rs i) c) (λ c2. Loop m (suc i) (settle t t' x plan i rs) c2)
  unfolding nodes_walk turn
  loop_step m i rs c h = ap (λ z. next (cond z (done c) (own_walk t t' x plan i (from_in rs i) (many_in rs i) c)) (λ c2. nodes_walk t t' x plan m (suc i) (settle t t' x plan i rs) c2)) (not_after i h)

  pub loop_split : (m1 m2 m i : ℕ) (rs c : List ℕ) → m ≡ m1 + m2 → Loop m i rs c ≡ next (Loop m1 i rs c) (λ c2. Loop m2 (m1 + i) (ranges_behind t t' x plan m1 i rs) c2)
  unfolding nodes_walk ranges_behind
  loop_split zero m2 m i rs c e =
      let a : m ≡ m2 = omega arith in
      let b : i ≡ 0 + i = omega arith in
      ap (λ z. nodes_walk t t' x plan z i rs c) a ∙ ap (λ z. nodes_walk t t' x plan m2 z rs c) b ∙ sym (next_start_lem c (λ c2. nodes_walk t t' x plan m2 (0 + i) rs c2))
  loop_split (suc m1) m2 zero i rs c e = absurd (omega arith)
  loop_split (suc m1) m2 (suc m) i rs c e =
      let a : m1 + suc i ≡ suc m1 + i = omega arith in
      next_same (turn t t' x plan i rs c) (λ c2. nodes_walk t t' x plan m (suc i) (settle t t' x plan i rs) c2) _
      (λ c2. loop_split m1 m2 m (suc i) (settle t t' x plan i rs) c2 (omega arith) ∙ next_same (nodes_walk t t' x plan m1 (suc i) (settle t t' x plan i rs) c2) _ (λ c3. nodes_walk t t' x plan m2 (suc m1 + i) (ranges_behind t t' x plan m1 (suc i) (settle t t' x plan i rs)) c3)
      (λ c3. ap (λ z. nodes_walk t t' x plan m2 z (ranges_behind t t' x plan m1 (suc i) (settle t t' x plan i rs)) c3) a))
      ∙ sym (next_assoc (turn t t' x plan i rs c) (λ c2. nodes_walk t t' x plan m1 (suc i) (settle t t' x plan i rs) c2) (λ c3. nodes_walk t t' x plan m2 (suc m1 + i) (ranges_behind t t' x plan m1 (suc i) (settle t t' x plan i rs)) c3))

  -- A NODE, from what it and those below it come to
  pub node_by : {B : Type 0} (F : (ℕ → Bool) → B → ℕ → ℕ → List ℕ → Out) (b : B) (i m : ℕ) (k k' : NodeKind) → Both t t' plan i k k' → Free i → (rs c : List ℕ)
      → ((c1 : List ℕ) → next (own_as t t' x plan k k' i (ok (valid_of x i)) (offset_of x i + from_in rs i) (many_in rs i) c1) (λ c2. Loop m (suc i) (settle_as t t' x plan k i (offset_of x i + from_in rs i) (many_in rs i) rs) c2)
      ≡ F (ok (valid_of x i)) b (offset_of x i + from_in rs i) (many_in rs i) c1)
      → Loop (suc m) i rs c ≡ node_walk plan i F (array_with x b i) (from_in rs i) (many_in rs i) c
  unfolding own_walk
  node_by F b i m k k' kinds free rs c h =
      loop_step m i rs c free
      ∙ next_assoc (bits_walk plan i okay s n c) (λ c1. own_as t t' x plan (kind_in t i) (kind_in t' i) i okay s n (add_rows i n c1)) (λ c2. nodes_walk t t' x plan m (suc i) (settle t t' x plan i rs) c2)
      ∙ next_same (bits_walk plan i okay s n c) _ (λ c1. F okay b s n (add_rows i n c1)) (λ c1. as_kinds (add_rows i n c1) ∙ h (add_rows i n c1))
    where
      okay : ℕ → Bool
      okay = ok (valid_of x i)

      s : ℕ
      s = offset_of x i + from_in rs i

      n : ℕ
      n = many_in rs i

      as_kinds : (c1 : List ℕ) → next (own_as t t' x plan (kind_in t i) (kind_in t' i) i (ok (valid_of x i)) (offset_of x i + from_in rs i) (many_in rs i) c1) (λ c2. nodes_walk t t' x plan m (suc i) (settle t t' x plan i rs) c2)
          ≡ next (own_as t t' x plan k k' i (ok (valid_of x i)) (offset_of x i + from_in rs i) (many_in rs i) c1) (λ c2. nodes_walk t t' x plan m (suc i) (settle_as t t' x plan k i (offset_of x i + from_in rs i) (many_in rs i) rs) c2)
      as_kinds c1 =
          ap₂ (λ a b. next (own_as t t' x plan a b i (ok (valid_of x i)) (offset_of x i + from_in rs i) (many_in rs i) c1) (λ c2. nodes_walk t t' x plan m (suc i) (settle t t' x plan i rs) c2)) kinds.here kinds.there
          ∙ next_same _ (λ c2. nodes_walk t t' x plan m (suc i) (settle t t' x plan i rs) c2) _ (λ c2. ap (λ z. nodes_walk t t' x plan m (suc i) z c2) (settle_is t t' x plan i k rs kinds.here))

  pub loop_none : (i : ℕ) (rs c : List ℕ) → Loop zero i rs c ≡ done c
  unfolding nodes_walk
  loop_none i rs c = refl

  -- ---- leaves

  plain_own : (p p' : Plain) (d : PlainWidths p p') (i : ℕ) (okay : ℕ → Bool) (s n : ℕ) (c : List ℕ) → own_as t t' x plan (plain_node p) (plain_node p') i okay s n c ≡ plain_walk plan d i okay (plain_body t x p i) s n c
  plain_own p p' (s_fixed k) i okay s n c = refl
  plain_own p p' (s_string w w') i okay s n c = refl

  pub leaf_end : (o : Out) (k : ℕ) (rs : List ℕ) → next o (λ c2. Loop zero k rs c2) ≡ o
  unfolding nodes_walk
  leaf_end o k rs = next_end o

  pub plain_loop : (p p' : Plain) (d : PlainWidths p p') (i m : ℕ) → m ≡ 1 → Both t t' plan i (plain_node p) (plain_node p') → Free i → (rs c : List ℕ)
      → Loop m i rs c ≡ node_walk plan i (plain_walk plan d i) (array_with x (plain_body t x p i) i) (from_in rs i) (many_in rs i) c
  plain_loop p p' d i m e kinds free rs c =
      ap (λ z. Loop z i rs c) (let y : m ≡ suc zero = omega arith in y)
      ∙ node_by (plain_walk plan d i) (plain_body t x p i) i zero (plain_node p) (plain_node p') kinds free rs c
      (λ c1. leaf_end (own_as t t' x plan (plain_node p) (plain_node p') i (ok (valid_of x i)) (offset_of x i + from_in rs i) (many_in rs i) c1) (suc i) _ ∙ plain_own p p' d i (ok (valid_of x i)) (offset_of x i + from_in rs i) (many_in rs i) c1)
