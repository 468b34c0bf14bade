-- What the words of a result's plan and the grounds of its room go by. Assumes nothing.
use mathlib.Core.Path.{◌≡◌, refl, sym, ap, ◌∙◌}
use mathlib.Core.Bool.{Bool, true, false, not, cond, ◌&&◌}
use mathlib.Core.List.{List}
use Prim.Native.Nat.{ℕ, ◌+◌, ◌-◌, ◌≤◌, ◌<◌}
use native.Mathlib.Omega.{arith}
use lib.ListN.{length, get_or, set, length-set}
use lib.Dec.{ltb, eqb}
use borrow.Author.Tests.{eq-eqb, ne_eqb, lt-ltb, le-ltb}
use Rattle.columnar.specs.Array.{null_count_of}
use Rattle.array_data.specs.Tables.{Tables}
use Rattle.plan.specs.dictionaries.Sources.{array_of, Countable}
use Rattle.array_data.specs.node_words.Words.{planted}
use Rattle.walk.specs.State.{dictionary_of}
use Rattle.plan.specs.parts.Parts.{parts_before, part_total, parts_placed, parts_hold}
use Rattle.plan.specs.Plan.{flag, with_tree, with_counts, with_parts}
use Rattle.anew.specs.Anew.{join_lengths, room_ground}
use Rattle.anew.specs.ResultPlan.{keeps_from, Comes, with_nulls, dictionary_word, with_dictionaries, words_anew, plan_by}
use Rattle.anew.proofs.ByWords.{tree_length, parts_by}

module _ (x : Tables) (first : ℕ) (from : List ℕ) (i : ℕ) {j : ℕ} (at : j ≡ get_or from i 0) where
  -- a node that comes from none
  pub null_none : j ≡ 0 → 0 ≡ flag (keeps_from x first from i)
  unfolding keeps_from
  null_none e = rw (sym at ∙ e)

  -- the nulls of the node that it comes from can be counted
  pub countable_by : (n : ℕ) → Comes x first n from → i < n → (j ≡ 0 → ⊥) → Countable x (first + (j - 1))
  countable_by n h l d = rw at (h.countable i l (omega (arith, at, d)))

  module _ (some : j ≡ 0 → ⊥) {k v : ℕ} (node : k ≡ first + (j - 1)) (count : v ≡ null_count_of (array_of x k)) where
    count_is : v ≡ null_count_of (array_of x (first + (get_or from i 0 - 1)))
    count_is = count ∙ ap (λ q. null_count_of (array_of x q)) node ∙ ap (λ q. null_count_of (array_of x (first + (q - 1)))) at

    keeps_by : keeps_from x first from i ≡ ltb 0 v
    unfolding keeps_from
    keeps_by = rw (lt-ltb 0 (get_or from i 0) (omega (arith, at, some))) (ap (ltb 0) (sym count_is))

    pub null_off : v ≡ 0 → 0 ≡ flag (keeps_from x first from i)
    null_off e = sym (ap flag (keeps_by ∙ ap (ltb 0) e))

    pub null_on : (v ≡ 0 → ⊥) → 1 ≡ flag (keeps_from x first from i)
    null_on e = sym (ap flag (keeps_by ∙ lt-ltb 0 v (omega (arith, e))))

module _ (joined : Bool) (plan : List ℕ) (i : ℕ) {d : ℕ} (at : d ≡ dictionary_of plan i) where
  pub dictionary_none : d ≡ 0 → 0 ≡ dictionary_word joined plan i
  unfolding dictionary_word
  dictionary_none e = rw (sym at ∙ e)

  pub dictionary_by : (d ≡ 0 → ⊥) → flag joined ≡ dictionary_word joined plan i
  unfolding dictionary_word
  dictionary_by e = rw (ne_eqb (dictionary_of plan i) 0 (λ q. e (at ∙ q)))

-- one stage after the other
pub words_by : (formats schema : List ℕ) (target n : ℕ) (keep : ℕ → Bool) (joined : Bool) {a b c d : List ℕ} → a ≡ planted formats schema target n → b ≡ with_nulls keep n a → c ≡ with_dictionaries joined n b
    → d ≡ with_parts n c → d ≡ words_anew formats schema target n keep joined
unfolding words_anew
words_by formats schema target n keep joined p q j k = rw (k, j, q, p)

-- ---- a plan by words, as it is written

module _ {t : List ℕ} (words : List ℕ) (e : t ≡ with_tree words) where
  pub tree_long : length t ≡ 872
  tree_long = ap length e ∙ tree_length words

  pub one_long : (k v : ℕ) → length (set t k v) ≡ 872
  one_long k v = length-set t k v ∙ tree_long

  pub two_long : (k v j u : ℕ) → length (set (set t k v) j u) ≡ 872
  two_long k v j u = length-set (set t k v) j u ∙ one_long k v

  pub three_long : (k v j u i w : ℕ) → length (set (set (set t k v) j u) i w) ≡ 872
  three_long k v j u i w = length-set (set (set t k v) j u) i w ∙ two_long k v j u

  pub four_long : (k v j u i w h x : ℕ) → length (set (set (set (set t k v) j u) i w) h x) ≡ 872
  four_long k v j u i w h x = length-set (set (set (set t k v) j u) i w) h x ∙ three_long k v j u i w

  pub by_all : (n kept : ℕ) {k : ℕ} → k ≡ parts_before words n → set (set (set (set t 864 1) 865 n) 866 k) 868 kept ≡ plan_by words n kept
  unfolding plan_by with_counts
  by_all n kept h = rw (h, e)

-- ---- the grounds of the room

-- plan or counters are not a join's
pub not_plan : (plan counters : ℕ) (b : Bool) → (plan ≡ 872 → ⊥) → false ≡ (eqb plan 872 && eqb counters 96 && b)
not_plan plan counters b h = rw (ne_eqb plan 872 h)

pub not_counters : (plan counters : ℕ) (b : Bool) → plan ≡ 872 → (counters ≡ 96 → ⊥) → false ≡ (eqb plan 872 && eqb counters 96 && b)
not_counters plan counters b e h = rw (eq-eqb plan 872 e, ne_eqb counters 96 h)

-- the parts are those of the words
pub placed_by : (words : List ℕ) (n kept : ℕ) (parts : List ℕ) (plan counters m : ℕ) → n ≤ 32 → plan ≡ 872 → counters ≡ 96 → {k : ℕ} {p : Bool} → k ≡ parts_before words n
    → p ≡ parts_placed parts k m → p ≡ (eqb plan 872 && eqb counters 96 && parts_placed parts (part_total (plan_by words n kept)) m)
placed_by words n kept parts plan counters m small e f q h = rw (eq-eqb plan 872 e, eq-eqb counters 96 f, parts_by words n kept small) (h ∙ ap (λ k. parts_placed parts k m) q)

was_false : (b : Bool) → not b ≡ true → b ≡ false
was_false true e = sym e
was_false false e = refl

was_true : (b : Bool) → not b ≡ false → b ≡ true
was_true true e = refl
was_true false e = sym e

module _ (made tally parts : List ℕ) (words counters m : ℕ) {b : Bool} (at : b ≡ (eqb words 872 && eqb counters 96 && parts_placed parts (part_total made) m)) where
  pub room_badly : not b ≡ true → 14 ≡ room_ground made tally parts words counters m
  unfolding room_ground join_lengths
  room_badly e = rw (sym at ∙ was_false b e)

  module _ (well : not b ≡ false) {h : Bool} (hold : h ≡ parts_hold made tally parts) where
    pub room_small : not h ≡ true → 13 ≡ room_ground made tally parts words counters m
    unfolding room_ground join_lengths
    room_small e = rw (sym at ∙ was_true b well, sym hold ∙ was_false h e)

    pub room_good : not h ≡ false → 0 ≡ room_ground made tally parts words counters m
    unfolding room_ground join_lengths
    room_good e = rw (sym at ∙ was_true b well, sym hold ∙ was_true h e)
