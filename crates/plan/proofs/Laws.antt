-- The words of a plan as they are found. Assumes nothing.
use mathlib.Core.Path.{◌≡◌, refl, ap, ap₂, ◌∙◌}
use mathlib.Core.Bool.{Bool, true, false, not}
use mathlib.Core.List.{List}
use mir.Val.{bool_byte}
use Prim.Native.Nat.{ℕ, suc, ◌+◌, ◌*◌, ◌≤◌, ◌<◌, min}
use native.Mathlib.Numerals.{add-one}
use lib.ListN.{get_or, set}
use lib.Dec.{eqb}
use borrow.Author.Tests.{lt-ltb, le-ltb, ne_eqb}
use Rattle.schema.specs.formats.Code.{is_string, is_view, is_run_end}
use Rattle.model.specs.Opening.{keeps, shared, start_of_keys}
use Rattle.array_data.specs.Tables.{Tables}
use Rattle.array_data.specs.lent_tables.Lent.{tables}
use Rattle.plan.specs.dictionaries.Sources.{array_at, dict_at, capped}
use Rattle.array_data.specs.node_words.Words.{planted}
use Rattle.plan.specs.parts.Parts.{part_total}
use Rattle.walk.specs.State.{code_of, dictionary_of, end_of, keeps_of}
use Rattle.plan.specs.Plan.{filled, flag, with_tree, holder, parent_of, asked, is_ends, keep_word, with_keeps, dictionaries_at, joined_word, with_joined, buffers_up_to, base_word, with_bases, with_counts, with_parts, with_total, laid_out, planned}
use Rattle.array_data.specs.Sources.{source_count, first_of, nodes_of}

-- ---- one word more

module _ (at : ℕ → ℕ) (value : List ℕ → ℕ → ℕ) where
  pub filled_none : (plan : List ℕ) → plan ≡ filled at value 0 plan
  unfolding filled
  filled_none plan = refl

  pub filled_more : (k : ℕ) (plan words : List ℕ) {v : ℕ} → words ≡ filled at value k plan → v ≡ value words k
      → set words (at k) v ≡ filled at value (k + 1) plan
  unfolding filled
  filled_more k plan words e h = rw (add-one k, h, e)

  pub filled_all : (k n : ℕ) (plan words : List ℕ) → k ≡ n → words ≡ filled at value k plan → words ≡ filled at value n plan
  filled_all k n plan words e h = rw e at h

-- ---- the node above

module _ (plan : List ℕ) (i : ℕ) where
  pub holds : (p : ℕ) → i < end_of plan p → holder plan (suc p) i ≡ p
  unfolding holder
  holds p l = rw (lt-ltb i (end_of plan p) l)

  pub holds_not : (p : ℕ) → end_of plan p ≤ i → holder plan (suc p) i ≡ holder plan p i
  unfolding holder
  holds_not p l = rw (le-ltb i (end_of plan p) l)

  pub holds_none : (p : ℕ) → p ≡ 0 → holder plan p i ≡ 0
  unfolding holder
  holds_none p e = rw e

-- ---- nulls

module _ (plan : List ℕ) (keep : Bool) where
  pub asked_root : (i : ℕ) → i ≡ 0 → keep ≡ asked plan keep i
  unfolding asked
  asked_root i e = rw e

  pub asked_values : (i k : ℕ) {d : ℕ} → i ≡ suc k → d ≡ dictionary_of plan k → (d ≡ 0 → ⊥) → false ≡ asked plan keep i
  unfolding asked
  asked_values i k {d} q e h = rw (q, ← e, ne_eqb d 0 h)

  pub asked_above : (i k : ℕ) {d p r : ℕ} → i ≡ suc k → d ≡ dictionary_of plan k → d ≡ 0 → p ≡ parent_of plan i → r ≡ keeps_of plan p
      → not (eqb r 0) ≡ asked plan keep i
  unfolding asked
  asked_above i k {d} {p} {r} q e h f g =
      let a : p ≡ parent_of plan (suc k) = f ∙ ap (parent_of plan) q in
      rw (q, ← e, h, ← a, g)

module _ (plan : List ℕ) where
  pub ends_root : (i : ℕ) → i ≡ 0 → false ≡ is_ends plan i
  unfolding is_ends
  ends_root i e = rw e

  pub ends_next : (i k : ℕ) {c : ℕ} {r : Bool} → i ≡ suc k → c ≡ code_of plan k → r ≡ is_run_end c → r ≡ is_ends plan i
  unfolding is_ends
  ends_next i k q e h = rw q (h ∙ ap is_run_end e)

module _ (x : Tables) (sources : List ℕ) (m : ℕ) (keep : Bool) (plan : List ℕ) (i : ℕ) where
  pub keep_ends : {r : Bool} → r ≡ is_ends plan i → r ≡ true → 0 ≡ keep_word x sources m keep plan i
  unfolding keep_word
  keep_ends e h = rw (← e, h)

  pub keep_by : {r a k : Bool} → r ≡ is_ends plan i → r ≡ false → a ≡ asked plan keep i → k ≡ keeps a m (array_at x sources i)
      → flag k ≡ keep_word x sources m keep plan i
  unfolding keep_word
  keep_by e h f g = rw (← e, h, ← f, g)

-- ---- dictionaries and views

module _ (x : Tables) (sources : List ℕ) (m : ℕ) (plan : List ℕ) (i : ℕ) where
  pub joined_none : {d : ℕ} → d ≡ dictionary_of plan i → d ≡ 0 → 0 ≡ joined_word x sources m plan i
  unfolding joined_word
  joined_none e h = rw (← e, h)

  pub joined_by : {d : ℕ} {r : Bool} → d ≡ dictionary_of plan i → (d ≡ 0 → ⊥) → r ≡ shared m (dictionaries_at x sources m plan i)
      → flag (not r) ≡ joined_word x sources m plan i
  unfolding joined_word
  joined_by e h g = rw (← e, ne_eqb _ 0 h, g)

  pub shared_at : {string r : Bool} → string ≡ is_string (code_of plan (suc i))
      → r ≡ shared m (dict_at x sources string (i + 1)) → r ≡ shared m (dictionaries_at x sources m plan i)
  shared_at e h = h ∙ ap₂ (λ b k. shared m (dict_at x sources b k)) e (add-one i)

  pub start_at_lem : (s : ℕ) {string : Bool} {r : ℕ} → string ≡ is_string (code_of plan (suc i))
      → r ≡ capped (start_of_keys m (dict_at x sources string (i + 1)) s)
      → r ≡ capped (start_of_keys m (dictionaries_at x sources m plan i) s)
  start_at_lem s e h = h ∙ ap₂ (λ b k. capped (start_of_keys m (dict_at x sources b k) s)) e (add-one i)

  pub base_view : (s : ℕ) {c r : ℕ} {v : Bool} → c ≡ code_of plan i → v ≡ is_view c → v ≡ true → r ≡ buffers_up_to x.places sources i s
      → r ≡ base_word x sources m plan s i
  unfolding base_word
  base_view s e f h g = rw (← e, ← f, h, g)

  pub base_none : (s : ℕ) {c d : ℕ} {v : Bool} → c ≡ code_of plan i → v ≡ is_view c → v ≡ false → d ≡ dictionary_of plan i → d ≡ 0
      → 0 ≡ base_word x sources m plan s i
  unfolding base_word
  base_none s e f h g k = rw (← e, ← f, h, ← g, k)

  pub base_keys : (s : ℕ) {c d r : ℕ} {v : Bool} → c ≡ code_of plan i → v ≡ is_view c → v ≡ false → d ≡ dictionary_of plan i → (d ≡ 0 → ⊥)
      → r ≡ capped (start_of_keys m (dictionaries_at x sources m plan i) s) → r ≡ base_word x sources m plan s i
  unfolding base_word
  base_keys s e f h g k l = rw (← e, ← f, h, ← g, ne_eqb _ 0 k, l)

module _ (places sources : List ℕ) (i : ℕ) where
  pub up_to_none : 0 ≡ buffers_up_to places sources i 0
  unfolding buffers_up_to
  up_to_none = refl

  pub up_to_more : (s : ℕ) {k sum p : ℕ} → sum ≡ buffers_up_to places sources i s → k ≡ first_of sources s + i → p ≡ min (get_or places (9 * k + 8) 0) 33
      → sum + p ≡ buffers_up_to places sources i (s + 1)
  unfolding buffers_up_to
  up_to_more s e f g = rw (add-one s, e, g, f)

  pub up_to_all : (s t : ℕ) {sum : ℕ} → t ≡ s → sum ≡ buffers_up_to places sources i t → sum ≡ buffers_up_to places sources i s
  up_to_all s t e h = rw e at h

-- ---- one kind of word after the other

module _ (formats schema lengths places body sources : List ℕ) (keep : Bool) where
  pub laid_by : {m n first r : ℕ} {a b c d e : List ℕ} → m ≡ source_count sources → first ≡ first_of sources 0 → n ≡ nodes_of sources 0
      → a ≡ with_counts m n (with_tree (planted formats schema first n)) → b ≡ with_keeps (tables lengths places body) sources m keep n a
      → c ≡ with_joined (tables lengths places body) sources m n b → d ≡ with_bases (tables lengths places body) sources m c → e ≡ with_parts n d
      → r ≡ part_total e → set e 866 r ≡ laid_out formats schema (tables lengths places body) sources keep
  unfolding laid_out with_total
  laid_by f g h p q j k l t = rw (t, l, k, j, q, p, f, g, h)

  pub planned_by : (gaps : Bool) {e : List ℕ} {v : ℕ} → e ≡ laid_out formats schema (tables lengths places body) sources keep → v ≡ flag gaps
      → set e 867 v ≡ planned formats schema (tables lengths places body) sources keep gaps
  unfolding planned
  planned_by gaps p q = rw (p, q)

-- a bool as a word
pub byte_flag : (b : Bool) → bool_byte b ≡ flag b
byte_flag true = refl
byte_flag false = refl
