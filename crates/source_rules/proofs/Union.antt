-- The ids and children of a union node. Assumes nothing.
use mathlib.Core.Path.{◌≡◌, refl, sym, ap, ◌∙◌}
use mathlib.Core.Bool.{Bool, true, false, false≢true}
use mathlib.Core.List.{List, Memᴰ}
use mathlib.Core.Option.{Option, none, some}
use Prim.Native.Nat.{ℕ, ◌+◌, ◌-◌, ◌<◌}
use native.Mathlib.Omega.{arith}
use lib.ListN.{length, take, drop, get_or}
use lib.Seq.{take_at}
use lib.Dec.{eqb}
use Rattle.schema.specs.formats.Code.{is_union}
use Rattle.schema.specs.union_ids.Ids.{ids_at, answer_of, written}
use Rattle.std.specs.Prelude.{Some, None}
use Rattle.std.specs.declared.option.Option as answer
use Rattle.std.proofs.lemmas.Option.{same_Some}
use Rattle.schema.specs.Tree.{field, child_at, code_of, ids_of, shape}
use Rattle.schema.proofs.Laws.{no_ids}
use Rattle.array_data.specs.Tables.{Tables, length_of}
use Rattle.array_data.specs.Rules.{sparse_rule, dense_rule}
use Rattle.array_data.specs.Typed.{field_of}
use Rattle.array_data.proofs.type_tree.Ids.{field_in_lem}
use Rattle.array_data.proofs.type_tree.Lent.{child_same}
use Rattle.source_rules.proofs.Node.{rule, child_of_id, sparse_node_lem, dense_node_lem, union_each}
use Rattle.array_data.proofs.Names.{ids_or}

-- the ids of an answer that counts them
pub some_ids : (o : Option (List ℕ)) (k : ℕ) → answer_of o ≡ Some k → o ≡ some (ids_or o)
some_ids none k e = absurd (cc)
some_ids (some ids) k e = refl

pub ids_count : (o : Option (List ℕ)) (k : ℕ) → answer_of o ≡ Some k → length (ids_or o) ≡ k
ids_count none k e = absurd (cc)
ids_count (some ids) k e = same_Some (length ids) k e

-- .. stand in front
pub ids_front : (o : Option (List ℕ)) (k : ℕ) (s : List ℕ) → answer_of o ≡ Some k → take k (written o s) ≡ ids_or o
ids_front none k s e = absurd (cc)
ids_front (some ids) k s e = take_at ids (drop (length ids) s) k (same_Some (length ids) k e)

-- .. as a part
pub ids_part : (o : Option (List ℕ)) (k : ℕ) (s l : List ℕ) → answer_of o ≡ Some k → l ≡ written o s → take (k - 0) (drop 0 l) ≡ ids_or o
ids_part o k s l e h =
    let z : k - 0 ≡ k = omega arith in
    ap (λ j. take j l) z ∙ ap (take k) h ∙ ids_front o k s e

module _ (formats schema : List ℕ) (first n : ℕ) (x : Tables) (i at len : ℕ) (a : at ≡ field schema (first + i) 0) (l : len ≡ field schema (first + i) 1) where
  pub ids_read : ids_of formats schema first i ≡ ids_at formats at len
  unfolding ids_of
  ids_read = ap (λ x. ids_at formats x (field schema (first + i) 1)) (sym a) ∙ ap (ids_at formats at) (sym l)

  module _ (s : shape formats schema first i ≡ true) (u : is_union (code_of formats schema first i) ≡ true) (r : answer.Option ℕ) (e : r ≡ answer_of (ids_at formats at len)) where
    -- a union has ids
    pub no_bad : r ≡ None → ⊥
    no_bad h = false≢true (sym (no_ids schema first i formats at len r a l e h) ∙ union_each formats schema first i s u)

    module _ (k : ℕ) (h : r ≡ Some k) (front : List ℕ) (f : front ≡ ids_or (ids_at formats at len)) (lens : List ℕ)
        (written-lens : (j : ℕ) → j < k → get_or lens j 0 ≡ length_of x (first + child_at schema first n i j)) where
      known : ids_of formats schema first i ≡ some front
      known = ids_read ∙ some_ids (ids_at formats at len) k (sym e ∙ h) ∙ ap some (sym f)

      long : length front ≡ k
      long = ap length f ∙ ids_count (ids_at formats at len) k (sym e ∙ h)

      children : (c : ℕ) → Memᴰ c front → length_of x (child_of_id formats schema first n x i front c) ≡ get_or lens (field_of front c) 0
      children c m =
          ap (λ k. length_of x (first + k)) (sym (child_same formats schema first n i (field_of front c)))
          ∙ sym (written-lens (field_of front c) (omega (arith, field_in_lem front c m, long)))

      pub sparse_last : {b : Bool} → eqb (code_of formats schema first i) 21 ≡ true
          → ((node : ℕ → ℕ) → ((c : ℕ) → Memᴰ c front → length_of x (node c) ≡ get_or lens (field_of front c) 0) → b ≡ sparse_rule x (first + i) front node)
          → b ≡ rule formats schema first n x i
      sparse_last t g = g (child_of_id formats schema first n x i front) children ∙ sym (sparse_node_lem formats schema first n x i u t front known)

      pub dense_last : {b : Bool} → eqb (code_of formats schema first i) 21 ≡ false
          → ((node : ℕ → ℕ) → ((c : ℕ) → Memᴰ c front → length_of x (node c) ≡ get_or lens (field_of front c) 0) → b ≡ dense_rule x (first + i) front node)
          → b ≡ rule formats schema first n x i
      dense_last t g = g (child_of_id formats schema first n x i front) children ∙ sym (dense_node_lem formats schema first n x i u t front known)
