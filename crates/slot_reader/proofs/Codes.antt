-- What a node's code says of its kind. Assumes nothing.
use mathlib.Core.Path.{◌≡◌, refl, ap, sym, ◌∙◌}
use mathlib.Core.Bool.{Bool, true, false, cond, ◌&&◌}
use mathlib.Core.Option.{none}
use mathlib.Core.List.{List, []}
use Prim.Native.Nat.{ℕ, zero, suc, ◌≤◌, ◌<◌}
use native.Mathlib.Omega.{arith}
use lib.Dec.{leb, eqb}
use borrow.Author.Tests.{le-leb, lt-leb, leb-true, leb-false}
use Rattle.columnar.specs.Types.{width}
use Rattle.schema.specs.formats.Code.{between, last_code, is_fixed, is_string, is_view, is_list_view, is_list, is_union, is_sparse, is_run_end, width_of}
use Rattle.schema.specs.formats.Types as types
use Rattle.array_data.specs.NodeKinds.{string_node, view_node, list_view_node, list_node, run_end_node}
use Rattle.array_data.proofs.type_tree.Shaped.{kind_fixed, kind_string, kind_view, kind_list, kind_lists, kind_union, kind_run, number_or_lem}
use Rattle.array_data.proofs.lent_tables.Laws.{and_left, and_right}
use Rattle.slot_reader.specs.leaf_row.Reading as leaf
use Rattle.array_data.specs.node_words.Words.{word}
use Rattle.slot_reader.specs.Slots.{code_word, known, kind_word, code_number}
use Rattle.array_data.proofs.Names.{number_kind, union_kind}

-- ---- codes by range

pub range : (low high x : ℕ) → between low high x ≡ true → (low ≤ x) × (x ≤ high)
range low high x h = (leb-true low x (and_left (leb low x) _ h), leb-true x high (and_right (leb low x) _ h))

pub in_range : (low high x : ℕ) → low ≤ x → x ≤ high → between low high x ≡ true
in_range low high x a b = rw (le-leb low x a, le-leb x high b)

above : (low high x : ℕ) → between low high x ≡ false → low ≤ x → high < x
above low high x h l = leb-false x high (ap (λ b. b && leb x high) (sym (le-leb low x l)) ∙ h)

module _ (tree : List ℕ) (i : ℕ) where
  pub code_none : (c : ℕ) → c ≡ word tree i 0 → last_code < c → 0 ≡ code_word tree i
  unfolding code_word
  code_none c e h = let g : last_code < word tree i 0 = omega arith in rw (lt-leb (word tree i 0) last_code g)

  pub code_some : (c : ℕ) → c ≡ word tree i 0 → c ≤ last_code → c ≡ code_word tree i
  unfolding code_word
  code_some c e h = let g : word tree i 0 ≤ last_code = omega arith in rw (le-leb (word tree i 0) last_code g) e

  code_top : code_word tree i ≤ last_code
  unfolding code_word
  code_top = go (leb (word tree i 0) last_code) refl
    where
      go : (b : Bool) → leb (word tree i 0) last_code ≡ b → cond b (word tree i 0) 0 ≤ last_code
      go true e = leb-true (word tree i 0) last_code e
      go false e = omega arith

-- the two numbers of a code are one
pub number_same : (c : ℕ) → 1 ≤ c → c ≤ 10 → leaf.number_of c ≡ code_number c
unfolding types.number_of
number_same zero a b = absurd (omega arith)
number_same (suc zero) a b = refl
number_same (suc (suc zero)) a b = refl
number_same (suc (suc (suc zero))) a b = refl
number_same (suc (suc (suc (suc zero)))) a b = refl
number_same (suc (suc (suc (suc (suc zero))))) a b = refl
number_same (suc (suc (suc (suc (suc (suc zero)))))) a b = refl
number_same (suc (suc (suc (suc (suc (suc (suc zero))))))) a b = refl
number_same (suc (suc (suc (suc (suc (suc (suc (suc zero)))))))) a b = refl
number_same (suc (suc (suc (suc (suc (suc (suc (suc (suc zero))))))))) a b = refl
number_same (suc (suc (suc (suc (suc (suc (suc (suc (suc (suc zero)))))))))) a b = refl
number_same (suc (suc (suc (suc (suc (suc (suc (suc (suc (suc (suc c))))))))))) a b = absurd (omega arith)

pub code_width_lem : (c : ℕ) → 1 ≤ c → c ≤ 10 → width_of c ≡ width (code_number c)
code_width_lem c a b = sym (number_or_lem c (in_range 1 10 c a b))

-- ---- a node's kind by its code

module _ (tree : List ℕ) (i code : ℕ) (e : code ≡ code_word tree i) where
  pub knows : (low high : ℕ) → between low high code ≡ true → 1 ≤ low → known tree i ≡ true
  knows low high h l = le-leb 1 (code_word tree i) (omega (arith, e, range low high code h))

  pub as_fixed : is_fixed code ≡ true → kind_word tree i ≡ number_kind (eqb (word tree i 1) 0) (code_number code)
  unfolding kind_word
  as_fixed h = rw (← e) (kind_fixed code (eqb (word tree i 1) 0) none (code_word tree (suc i)) h)

  pub as_string : is_string code ≡ true → kind_word tree i ≡ string_node (width_of code)
  unfolding kind_word
  as_string h = rw (← e) (kind_string code (eqb (word tree i 1) 0) none (code_word tree (suc i)) h)

  pub as_view : is_view code ≡ true → kind_word tree i ≡ view_node
  unfolding kind_word
  as_view h = rw (← e) (kind_view code (eqb (word tree i 1) 0) none (code_word tree (suc i)) h)

  pub as_list_view : is_list_view code ≡ true → kind_word tree i ≡ list_view_node (width_of code)
  unfolding kind_word
  as_list_view h = rw (← e) (kind_list code (eqb (word tree i 1) 0) none (code_word tree (suc i)) h)

  pub as_list : is_list code ≡ true → kind_word tree i ≡ list_node (width_of code)
  unfolding kind_word
  as_list h = rw (← e) (kind_lists code (eqb (word tree i 1) 0) none (code_word tree (suc i)) h)

  pub as_union : is_union code ≡ true → kind_word tree i ≡ union_kind (is_sparse code) []
  unfolding kind_word
  as_union h = rw (← e) (kind_union code (eqb (word tree i 1) 0) none (code_word tree (suc i)) h)

  pub as_run : is_run_end code ≡ true → kind_word tree i ≡ run_end_node (width_of (code_word tree (suc i)))
  unfolding kind_word
  as_run h = rw (← e) (kind_run code (eqb (word tree i 1) 0) none (code_word tree (suc i)) h)

  -- a code that is none of these is none at all
  pub unknown : is_fixed code ≡ false → is_string code ≡ false → is_view code ≡ false → is_list_view code ≡ false → is_list code ≡ false → is_union code ≡ false
      → is_run_end code ≡ false → known tree i ≡ false
  unknown a b c d o u r = lt-leb 1 (code_word tree i) (go (leb 1 code) refl)
    where
      go : (t : Bool) → leb 1 code ≡ t → code_word tree i < 1
      go true h =
          let l1 = above 1 10 code a (leb-true 1 code h) in
          let l2 = above 11 14 code b (omega arith) in
          let l3 = above 15 16 code c (omega arith) in
          let l4 = above 17 18 code d (omega arith) in
          let l5 = above 19 20 code o (omega arith) in
          let l6 = above 21 22 code u (omega arith) in
          let l7 = above 23 23 code r (omega arith) in
          absurd (omega (arith, e, code_top tree i))
      go false h = omega (arith, e, leb-false 1 code h)

  -- what is left where some are not
  pub elsewhere : (Q : Type 0) → is_fixed code ≡ false → is_string code ≡ false → is_view code ≡ false → is_list_view code ≡ false → is_list code ≡ false
      → ((b : Bool) → known tree i ≡ true → kind_word tree i ≡ union_kind b [] → Q) → ((w : ℕ) → known tree i ≡ true → kind_word tree i ≡ run_end_node w → Q)
      → (known tree i ≡ false → Q) → Q
  elsewhere Q a b c d o on-union on-run on_none = go (is_union code) refl (is_run_end code) refl
    where
      go : (u : Bool) → is_union code ≡ u → (r : Bool) → is_run_end code ≡ r → Q
      go true u r s = on-union (is_sparse code) (knows 21 22 u (omega arith)) (as_union u)
      go false u true s = on-run _ (knows 23 23 s (omega arith)) (as_run s)
      go false u false s = on_none (unknown a b c d o u s)
