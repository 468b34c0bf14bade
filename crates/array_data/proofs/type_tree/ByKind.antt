-- The type of a node, and where it must lie in the lent memory, by its kind. Assumes nothing.
use mathlib.Core.Path.{◌≡◌, refl, ap, sym, subst, ◌∙◌}
use mathlib.Core.Bool.{Bool, true, false, not, cond, ◌&&◌, ◌||◌, false≢true}
use mathlib.Core.List.{List, []}
use mathlib.Core.Option.{Option, get_or}
use Prim.Native.Nat.{ℕ, zero, suc, ◌<◌}
use native.Mathlib.Omega.{arith}
use lib.Dec.{T, leb, eqb}
use borrow.Author.Tests.{leb-true, lt-leb, eqb-true, eqb-false, ne_eqb, eq-eqb}
use Rattle.columnar.specs.Types.{Number, int, w1, Plain, fixed, string, Ty, t_plain, t_view, t_list_view, t_list, t_sparse, t_dense, t_run_end, t_dictionary}
use Rattle.columnar.specs.Test.{only_if}
use Rattle.schema.specs.formats.Code.{between, is_fixed, is_string, is_view, is_list_view, is_list, is_union, is_run_end, width_of}
use Rattle.schema.specs.formats.Types.{number_of, number_or, plain_of}
use Rattle.schema.specs.Tree.{dictionary, code_of, ids_of}
use Rattle.array_data.specs.Tables.{Tables, place, held, in_body, valid_in}
use Rattle.array_data.specs.Rules.{one_in, two_in, buffers_in}
use Rattle.array_data.specs.NodeKinds.{NodeKind, fixed_node, string_node, view_node, list_view_node, list_node, sparse_node, dense_node, run_end_node, dictionary_node, kind_of, kind_at}
use Rattle.array_data.specs.Typed.{Tree, nullable_in, kind_in, node_of, placed}
use Rattle.array_data.specs.type_tree.Lent.{ty_of}
use Rattle.array_data.proofs.type_tree.Ids.{cond_no, both}
use Rattle.array_data.proofs.type_tree.Shaped.{later, kind_fixed, kind_string, kind_view, kind_list, kind_lists, kind_union, kind_run}
use Rattle.array_data.proofs.Names.{number_kind, union_kind}

-- a code of an earlier range is none of a later one
earlier : (a b c d x : ℕ) → between a b x ≡ true → b < c → between c d x ≡ false
earlier a b c d x h l =
    let top = leb-true x b (both (leb a x) (leb x b) h).1 in
    ap (λ z. z && leb x d) (lt-leb c x (omega arith))

-- ---- the type

-- dictionary values: numbers or byte strings; a number's where the kind is another
abbrev pub plain_as : NodeKind → Plain
plain_as (fixed_node m) = fixed m
plain_as (string_node w) = string w
plain_as view_node = fixed (int w1)
plain_as (list_view_node w) = fixed (int w1)
plain_as (list_node w) = fixed (int w1)
plain_as (sparse_node ids) = fixed (int w1)
plain_as (dense_node ids) = fixed (int w1)
plain_as (run_end_node w) = fixed (int w1)
plain_as (dictionary_node m) = fixed m

-- sub: the types of the nodes below
abbrev pub ty_as : Tree → (ℕ → Ty) → NodeKind → ℕ → Ty
ty_as t sub (fixed_node m) i = t_plain (fixed m)
ty_as t sub (string_node w) i = t_plain (string w)
ty_as t sub view_node i = t_view
ty_as t sub (list_view_node w) i = t_list_view w (sub (suc i))
ty_as t sub (list_node w) i = t_list w (sub (suc i))
ty_as t sub (sparse_node ids) i = t_sparse ids (λ c. nullable_in t (node_of t i ids c)) (λ c. sub (node_of t i ids c))
ty_as t sub (dense_node ids) i = t_dense ids (λ c. nullable_in t (node_of t i ids c)) (λ c. sub (node_of t i ids c))
ty_as t sub (run_end_node w) i = t_run_end w (sub (suc (suc i)))
ty_as t sub (dictionary_node m) i = t_dictionary m (plain_as (kind_in t (suc i)))

number_none : (code : ℕ) → is_fixed code ≡ false → number_or (number_of code) ≡ (int w1)
unfolding number_of
number_none zero h = refl
number_none (suc zero) h = refl
number_none (suc (suc zero)) h = absurd (false≢true (sym h))
number_none (suc (suc (suc zero))) h = absurd (false≢true (sym h))
number_none (suc (suc (suc (suc zero)))) h = absurd (false≢true (sym h))
number_none (suc (suc (suc (suc (suc zero))))) h = absurd (false≢true (sym h))
number_none (suc (suc (suc (suc (suc (suc zero)))))) h = absurd (false≢true (sym h))
number_none (suc (suc (suc (suc (suc (suc (suc zero))))))) h = absurd (false≢true (sym h))
number_none (suc (suc (suc (suc (suc (suc (suc (suc zero)))))))) h = absurd (false≢true (sym h))
number_none (suc (suc (suc (suc (suc (suc (suc (suc (suc zero))))))))) h = absurd (false≢true (sym h))
number_none (suc (suc (suc (suc (suc (suc (suc (suc (suc (suc zero)))))))))) h = absurd (false≢true (sym h))
number_none (suc (suc (suc (suc (suc (suc (suc (suc (suc (suc (suc code))))))))))) h = refl

other_plain : (v l s u z r : Bool) (w k : ℕ) (ids : List ℕ)
    → fixed (int w1) ≡ plain_as (cond v view_node (cond l (list_view_node w) (cond s (list_node w) (cond u (cond z (sparse_node ids) (dense_node ids)) (cond r (run_end_node k) (fixed_node (int w1)))))))
other_plain true l s u z r w k ids = refl
other_plain false true s u z r w k ids = refl
other_plain false false true u z r w k ids = refl
other_plain false false false true true r w k ids = refl
other_plain false false false true false r w k ids = refl
other_plain false false false false z true w k ids = refl
other_plain false false false false z false w k ids = refl

plain_by_lem : (code : ℕ) (single : Bool) (ids : Option (List ℕ)) (next : ℕ) → plain_of code ≡ plain_as (kind_of code single ids next)
plain_by_lem code single ids next = go (is_fixed code) refl (is_string code) refl single
  where
    go : (a : Bool) → is_fixed code ≡ a → (b : Bool) → is_string code ≡ b → (s : Bool)
        → cond b (string (width_of code)) (fixed (number_or (number_of code)))
        ≡ plain_as
        (cond a (cond s (fixed_node (number_or (number_of code))) (dictionary_node (number_or (number_of code))))
        (cond b (string_node (width_of code))
        (cond (is_view code) view_node
        (cond (is_list_view code) (list_view_node (width_of code))
        (cond (is_list code) (list_node (width_of code))
        (cond (is_union code) (cond (eqb code 21) (sparse_node (get_or ids [])) (dense_node (get_or ids [])))
        (cond (is_run_end code) (run_end_node (width_of next))
        (fixed_node (int w1)))))))))
    go true e true f s = absurd (false≢true (sym (earlier 1 10 11 14 code e (omega arith)) ∙ f))
    go true e false f true = refl
    go true e false f false = refl
    go false e true f s = refl
    go false e false f s =
        ap fixed (number_none code e)
        ∙ other_plain (is_view code) (is_list_view code) (is_list code) (is_union code) (eqb code 21) (is_run_end code) (width_of code) (width_of next) (get_or ids [])

module _ (t : Tree) (i : ℕ) where
  abbrev code_at : ℕ → ℕ
  code_at k = code_of t.formats t.schema t.first k

  abbrev single : Bool
  single = eqb (dictionary t.schema t.first i) 0

  abbrev listed : Option (List ℕ)
  listed = ids_of t.formats t.schema t.first i

  abbrev number : Number
  number = number_or (number_of (code_at i))

  abbrev ids : List ℕ
  ids = get_or listed []

  abbrev kind_by : Bool → Bool → Bool → Bool → Bool → Bool → Bool → Bool → Bool → NodeKind
  kind_by a s b v l m u z r =
      cond a (cond s (fixed_node number) (dictionary_node number))
      (cond b (string_node (width_of (code_at i)))
      (cond v view_node
      (cond l (list_view_node (width_of (code_at i)))
      (cond m (list_node (width_of (code_at i)))
      (cond u (cond z (sparse_node ids) (dense_node ids))
      (cond r (run_end_node (width_of (code_at (suc i))))
      (fixed_node (int w1))))))))

  values : plain_of (code_at (suc i)) ≡ plain_as (kind_in t (suc i))
  unfolding kind_at
  values = plain_by_lem (code_at (suc i)) (eqb (dictionary t.schema t.first (suc i)) 0) (ids_of t.formats t.schema t.first (suc i)) (code_at (suc (suc i)))

  -- THE TYPE OF A NODE BY ITS KIND
  type_at : (f : ℕ) → ty_of t (suc f) i ≡ ty_as t (ty_of t f) (kind_in t i) i
  unfolding ty_of kind_at
  type_at f =
      go (is_fixed (code_at i)) single (is_string (code_at i)) (is_view (code_at i)) (is_list_view (code_at i)) (is_list (code_at i)) (is_union (code_at i)) (eqb (code_at i) 21) (is_run_end (code_at i))
      (plain_of (code_at i)) (plain_by_lem (code_at i) single listed (code_at (suc i)))
    where
      go : (a s b v l m u z r : Bool) (p : Plain) → p ≡ plain_as (kind_by a s b v l m u z r)
          → cond (a && not s) (t_dictionary number (plain_of (code_at (suc i))))
          (cond (a || b) (t_plain p)
          (cond v t_view
          (cond l (t_list_view (width_of (code_at i)) (ty_of t f (suc i)))
          (cond m (t_list (width_of (code_at i)) (ty_of t f (suc i)))
          (cond u (cond z (t_sparse ids (λ c. nullable_in t (node_of t i ids c)) (λ c. ty_of t f (node_of t i ids c))) (t_dense ids (λ c. nullable_in t (node_of t i ids c)) (λ c. ty_of t f (node_of t i ids c))))
          (cond r (t_run_end (width_of (code_at (suc i))) (ty_of t f (suc (suc i))))
          (t_plain (fixed (int w1)))))))))
          ≡ ty_as t (ty_of t f) (kind_by a s b v l m u z r) i
      go true true b v l m u z r p e = ap t_plain e
      go true false b v l m u z r p e = ap (t_dictionary number) values
      go false s true v l m u z r p e = ap t_plain e
      go false s false true l m u z r p e = refl
      go false s false false true m u z r p e = refl
      go false s false false false true u z r p e = refl
      go false s false false false false true true r p e = refl
      go false s false false false false true false r p e = refl
      go false s false false false false false z true p e = refl
      go false s false false false false false z false p e = refl

pub type_by_lem : (t : Tree) (f i : ℕ) → ty_of t (suc f) i ≡ ty_as t (ty_of t f) (kind_in t i) i
type_by_lem t f i = type_at t i f

-- .. where its kind is known
pub type_as : (t : Tree) (f i : ℕ) {k : NodeKind} → kind_in t i ≡ k → ty_of t (suc f) i ≡ ty_as t (ty_of t f) k i
type_as t f i e = type_by_lem t f i ∙ ap (λ k. ty_as t (ty_of t f) k i) e

-- ---- where it lies

module _ (t : Tree) (x : Tables) where
  abbrev pub placed_as : NodeKind → ℕ → Bool
  placed_as (fixed_node n) i = one_in x i
  placed_as (string_node w) i = two_in x i
  placed_as view_node i = one_in x i && buffers_in x i
  placed_as (list_view_node w) i = two_in x i
  placed_as (list_node w) i = one_in x i
  placed_as (sparse_node ids) i = one_in x i
  placed_as (dense_node ids) i = two_in x i
  placed_as (run_end_node w) i = held x i && valid_in x i
  placed_as (dictionary_node n) i = one_in x i

and_yes : (b : Bool) → b && true ≡ b
and_yes true = refl
and_yes false = refl

-- no test, the second, the third or the first of a node's three
module _ (h f s v : Bool) where
  abbrev tested : Bool → Bool → Bool → Bool
  tested a b c = h && only_if (not a) f && only_if b s && only_if c v

  one_test : {first second third : Bool} → first ≡ false → second ≡ false → third ≡ false → tested first second third ≡ h && f
  one_test {first} {second} {third} p q r = ap (λ a. tested a second third) p ∙ ap (λ b. tested false b third) q ∙ ap (tested false false) r ∙ and_yes (h && f && true) ∙ and_yes (h && f)

  two_tests : {first second third : Bool} → first ≡ false → second ≡ true → third ≡ false → tested first second third ≡ h && f && s
  two_tests {first} {second} {third} p q r = ap (λ a. tested a second third) p ∙ ap (λ b. tested false b third) q ∙ ap (tested false true) r ∙ and_yes (h && f && s)

  view_tests : {first second third : Bool} → first ≡ false → second ≡ false → third ≡ true → tested first second third ≡ h && f && v
  view_tests {first} {second} {third} p q r = ap (λ a. tested a second third) p ∙ ap (λ b. tested false b third) q ∙ ap (tested false false) r ∙ ap (λ b. b && v) (and_yes (h && f))

  no_test : {first second third : Bool} → first ≡ true → second ≡ false → third ≡ false → tested first second third ≡ h
  no_test {first} {second} {third} p q r =
      ap (λ a. tested a second third) p ∙ ap (λ b. tested true b third) q ∙ ap (tested true false) r ∙ and_yes (h && true && true) ∙ and_yes (h && true) ∙ and_yes h

none_of : (a b c : Bool) → a ≡ false → b ≡ false → c ≡ false → a || b || c ≡ false
none_of false false c e f g = g
none_of false true c e f g = absurd (false≢true (sym f))
none_of true b c e f g = absurd (false≢true (sym e))

first_of_lem : (a b c : Bool) → a ≡ true → a || b || c ≡ true
first_of_lem true b c e = refl
first_of_lem false b c e = absurd (false≢true e)

second_of : (a b c : Bool) → b ≡ true → a || b || c ≡ true
second_of true b c e = refl
second_of false true c e = refl
second_of false false c e = absurd (false≢true e)

third_of : (a b c : Bool) → c ≡ true → a || b || c ≡ true
third_of true b c e = refl
third_of false true c e = refl
third_of false false c e = e

module _ (t : Tree) (x : Tables) (i : ℕ) where
  abbrev c : ℕ
  c = code_at t i i

  abbrev next : ℕ
  next = code_at t i (suc i)

  abbrev lies : Bool
  lies =
      held x i && valid_in x i
      && only_if (not (is_run_end c)) (in_body x (place x i 3) (place x i 4))
      && only_if (is_string c || is_list_view c || eqb c 22) (in_body x (place x i 5) (place x i 6))
      && only_if (is_view c) (buffers_in x i)

  abbrev one : is_run_end c ≡ false → is_string c || is_list_view c || eqb c 22 ≡ false → is_view c ≡ false → lies ≡ one_in x i
  one = one_test (held x i && valid_in x i) (in_body x (place x i 3) (place x i 4)) (in_body x (place x i 5) (place x i 6)) (buffers_in x i)

  abbrev two : is_run_end c ≡ false → is_string c || is_list_view c || eqb c 22 ≡ true → is_view c ≡ false → lies ≡ two_in x i
  two = two_tests (held x i && valid_in x i) (in_body x (place x i 3) (place x i 4)) (in_body x (place x i 5) (place x i 6)) (buffers_in x i)

  kinds_one : (s : Bool) (m : Number) → placed_as t x (number_kind s m) i ≡ one_in x i
  kinds_one true m = refl
  kinds_one false m = refl

  -- a code of a range that ends before 22
  not_22 : (a b : ℕ) → between a b c ≡ true → b < 22 → eqb c 22 ≡ false
  not_22 a b h l = let top = leb-true c b (both (leb a c) (leb c b) h).1 in ne_eqb c 22 (λ e. omega arith)

  unions : (z : Bool) → eqb c 21 ≡ z → is_union c ≡ true → lies ≡ placed_as t x (union_kind z (ids t i)) i
  unions true e u =
      one (earlier 21 22 23 23 c u (omega arith))
      (none_of (is_string c) (is_list_view c) (eqb c 22) (later 11 14 21 22 c u (omega arith)) (later 17 18 21 22 c u (omega arith)) (let q = eqb-true c 21 e in ne_eqb c 22 (λ p. omega arith)))
      (later 15 16 21 22 c u (omega arith))
  unions false e u =
      let low = leb-true 21 c (both (leb 21 c) (leb c 22) u).0 in
      let top = leb-true c 22 (both (leb 21 c) (leb c 22) u).1 in
      let no = eqb-false c 21 e in
      two (earlier 21 22 23 23 c u (omega arith)) (third_of (is_string c) (is_list_view c) (eqb c 22) (eq-eqb c 22 (omega arith))) (later 15 16 21 22 c u (omega arith))

  not_union : is_union c ≡ false → eqb c 22 ≡ false
  not_union h = ne_eqb c 22 (λ e. false≢true (sym h ∙ ap is_union e))

  placed_at : (a : Bool) → is_fixed c ≡ a → (b : Bool) → is_string c ≡ b → (v : Bool) → is_view c ≡ v → (l : Bool) → is_list_view c ≡ l → (m : Bool) → is_list c ≡ m
      → (u : Bool) → is_union c ≡ u → (r : Bool) → is_run_end c ≡ r → lies ≡ placed_as t x (kind_of c (single t i) (listed t i) next) i
  placed_at true ea b eb v ev l el m em u eu r er =
      one (earlier 1 10 23 23 c ea (omega arith)) (none_of (is_string c) (is_list_view c) (eqb c 22) (earlier 1 10 11 14 c ea (omega arith)) (earlier 1 10 17 18 c ea (omega arith)) (not_22 1 10 ea (omega arith))) (earlier 1 10 15 16 c ea (omega arith))
      ∙ sym (ap (λ k. placed_as t x k i) (kind_fixed c (single t i) (listed t i) next ea) ∙ kinds_one (single t i) (number t i))
  placed_at false ea true eb v ev l el m em u eu r er =
      two (earlier 11 14 23 23 c eb (omega arith)) (first_of_lem (is_string c) (is_list_view c) (eqb c 22) eb) (earlier 11 14 15 16 c eb (omega arith))
      ∙ sym (ap (λ k. placed_as t x k i) (kind_string c (single t i) (listed t i) next eb))
  placed_at false ea false eb true ev l el m em u eu r er =
      view_tests (held x i && valid_in x i) (in_body x (place x i 3) (place x i 4)) (in_body x (place x i 5) (place x i 6)) (buffers_in x i) (earlier 15 16 23 23 c ev (omega arith))
      (none_of (is_string c) (is_list_view c) (eqb c 22) eb (earlier 15 16 17 18 c ev (omega arith)) (not_22 15 16 ev (omega arith))) ev
      ∙ sym (ap (λ k. placed_as t x k i) (kind_view c (single t i) (listed t i) next ev))
  placed_at false ea false eb false ev true el m em u eu r er =
      two (earlier 17 18 23 23 c el (omega arith)) (second_of (is_string c) (is_list_view c) (eqb c 22) el) ev
      ∙ sym (ap (λ k. placed_as t x k i) (kind_list c (single t i) (listed t i) next el))
  placed_at false ea false eb false ev false el true em u eu r er =
      one (earlier 19 20 23 23 c em (omega arith)) (none_of (is_string c) (is_list_view c) (eqb c 22) eb el (not_22 19 20 em (omega arith))) ev
      ∙ sym (ap (λ k. placed_as t x k i) (kind_lists c (single t i) (listed t i) next em))
  placed_at false ea false eb false ev false el false em true eu r er =
      unions (eqb c 21) refl eu ∙ sym (ap (λ k. placed_as t x k i) (kind_union c (single t i) (listed t i) next eu))
  placed_at false ea false eb false ev false el false em false eu true er =
      no_test (held x i && valid_in x i) (in_body x (place x i 3) (place x i 4)) (in_body x (place x i 5) (place x i 6)) (buffers_in x i) er
      (none_of (is_string c) (is_list_view c) (eqb c 22) eb el (let low = leb-true 23 c (both (leb 23 c) (leb c 23) er).0 in ne_eqb c 22 (λ p. omega arith))) ev
      ∙ sym (ap (λ k. placed_as t x k i) (kind_run c (single t i) (listed t i) next er))
  placed_at false ea false eb false ev false el false em false eu false er =
      one er (none_of (is_string c) (is_list_view c) (eqb c 22) eb el (not_union eu)) ev
      ∙ sym
      (ap (λ k. placed_as t x k i)
      (cond_no (is_fixed c) _ _ ea ∙ cond_no (is_string c) _ _ eb ∙ cond_no (is_view c) _ _ ev ∙ cond_no (is_list_view c) _ _ el ∙ cond_no (is_list c) _ _ em ∙ cond_no (is_union c) _ _ eu ∙ cond_no (is_run_end c) _ _ er))

-- WHERE A NODE LIES BY ITS KIND
pub placed_by : (t : Tree) (x : Tables) (i : ℕ) → placed t x i ≡ placed_as t x (kind_in t i) i
unfolding kind_at
placed_by t x i =
    let k = code_at t i i in
    placed_at t x i (is_fixed k) refl (is_string k) refl (is_view k) refl (is_list_view k) refl (is_list k) refl (is_union k) refl (is_run_end k) refl

pub placed_out : (t : Tree) (x : Tables) (i : ℕ) → T (placed t x i) → T (placed_as t x (kind_in t i) i)
placed_out t x i h = subst T (placed_by t x i) h

pub placed_in : (t : Tree) (x : Tables) (i : ℕ) → T (placed_as t x (kind_in t i) i) → T (placed t x i)
placed_in t x i h = subst T (sym (placed_by t x i)) h

-- .. where its kind is known
pub placed_as_lem : (t : Tree) (x : Tables) (i : ℕ) {k : NodeKind} → kind_in t i ≡ k → T (placed_as t x k i) → T (placed t x i)
placed_as_lem t x i e h = placed_in t x i (subst (λ k. T (placed_as t x k i)) (sym e) h)
