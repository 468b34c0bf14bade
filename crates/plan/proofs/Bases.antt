-- What is added to keys and buffer numbers, by a node's code. Assumes nothing.
use mathlib.Core.Path.{◌≡◌, refl, ap, ◌∙◌}
use mathlib.Core.Bool.{Bool, true, false, not}
use mathlib.Core.List.{List}
use Prim.Native.Nat.{ℕ, zero, suc, ◌+◌, ◌*◌, ◌≤◌, ◌<◌}
use native.Mathlib.Nat.{min-eq_left}
use native.Mathlib.Omega.{arith}
use lib.ListN.{length, get_or, length-append}
use borrow.Author.Tests.{ne_eqb}
use Rattle.columnar.specs.Types.{t_view}
use Rattle.columnar.specs.Row.{seg}
use Rattle.columnar.specs.View.{Views}
use Rattle.schema.specs.formats.Code.{is_string, is_view}
use Rattle.model.specs.Opening.{shared, start_of_keys}
use Rattle.model.specs.Primitive.{buffers_before}
use Rattle.array_data.specs.Tables.{Tables, place, data_buffer}
use Rattle.array_data.specs.Typed.{Tree, tables_from, body_of}
use Rattle.plan.specs.dictionaries.Sources.{dict_at, capped}
use Rattle.plan.proofs.dictionaries.Laws.{place_from}
use Rattle.walk.specs.State.{code_of, dictionary_of}
use Rattle.plan.specs.Plan.{flag, buffers_up_to, joined_word, base_word}
use Rattle.array_data.specs.Sources.{first_of}

module _ (x : Tables) (sources : List ℕ) (m : ℕ) (plan : List ℕ) where
  pub view_word : (s i : ℕ) → is_view (code_of plan i) ≡ true → base_word x sources m plan s i ≡ buffers_up_to x.places sources i s
  unfolding base_word
  view_word s i v = rw v

  pub keys_word : (s i : ℕ) (strings : Bool) → is_view (code_of plan i) ≡ false → (dictionary_of plan i ≡ 0 → ⊥) → is_string (code_of plan (suc i)) ≡ strings
      → base_word x sources m plan s i ≡ capped (start_of_keys m (dict_at x sources strings (suc i)) s)
  unfolding base_word
  keys_word s i strings v d q = rw (v, ne_eqb (dictionary_of plan i) 0 d, q)

  pub keys_joined : (i : ℕ) (strings : Bool) → (dictionary_of plan i ≡ 0 → ⊥) → is_string (code_of plan (suc i)) ≡ strings
      → joined_word x sources m plan i ≡ flag (not (shared m (dict_at x sources strings (suc i))))
  unfolding joined_word
  keys_joined i strings d q = rw (ne_eqb (dictionary_of plan i) 0 d, q)

pub length_seg : {A : Type 0} (f : ℕ → A) (a k : ℕ) → length (seg f a k) ≡ k
length_seg f a zero = refl
length_seg f a (suc k) = ap suc (length_seg f (suc a) k)

module _ (tree : Tree) (y : Tables) (sources : List ℕ) (i : ℕ) where
  abbrev pub views_at : ℕ → Views
  views_at j = body_of tree (tables_from y (first_of sources j)) t_view i

  -- "at most 32 data buffers per view node and source"
  abbrev pub Named : ℕ → Type 0
  Named s = (j : ℕ) → j < s → get_or y.places (9 * (first_of sources j + i) + 8) 0 ≤ 33

  pub buffers_typed : (s : ℕ) → Named s → buffers_up_to y.places sources i s ≡ length (buffers_before views_at s)
  unfolding buffers_up_to
  buffers_typed zero h = refl
  buffers_typed (suc s) h =
      let z = tables_from y (first_of sources s) in
      let here : length (views_at s).buffers ≡ get_or y.places (9 * (first_of sources s + i) + 8) 0 =
      length_seg (data_buffer z) (place z i 7) (place z i 8) ∙ place_from y (first_of sources s) i 8 in
      let more = length-append (buffers_before views_at s) (views_at s).buffers in
      let before = buffers_typed s (λ j l. h j (omega arith)) in
      let all = min-eq_left (h s (omega arith)) in
      omega arith
