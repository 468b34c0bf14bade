-- ITS GROUNDS, exactly: 9, 10 and 12 of the column, 10 where it is no dictionary, 14 and 13 of the room; and a second time changes nothing.
-- Assumes nothing.
use mathlib.Core.Path.{◌≡◌, refl, sym, ap, ap₂, ◌∙◌}
use mathlib.Core.Bool.{Bool, true, false, cond}
use mathlib.Core.List.{List, [], ◌∷◌}
use Prim.Native.Nat.{ℕ, ◌≤◌, ◌<◌, ◌^◌}
use native.Mathlib.Omega.{arith}
use lib.ListN.{length}
use lib.Dec.{eqb}
use borrow.Author.Tests.{eqb-false}
use Rattle.columnar.specs.Types.{Number, limit, Plain, fixed, string, Ty, t_plain, t_view, t_list_view, t_list, t_sparse, t_dense, t_run_end, t_dictionary}
use Rattle.columnar.specs.Array.{Array}
use Rattle.columnar.specs.Plain.{PlainBody}
use Rattle.columnar.specs.Reading.{Column}
use Rattle.schema.specs.Tree.{dictionary, ceilings, typed}
use Rattle.array_data.specs.Tables.{Tables, offset_of, valid_of, first_buffer, array_with}
use Rattle.array_data.specs.Typed.{Tree, column_of, tables_from, plain_body, starts}
use Rattle.array_data.specs.type_tree.Lent.{tree_of, type_of}
use Rattle.columns.specs.Grounds.{small_body, column_ground}
use Rattle.walk.specs.State.{code_of, dictionary_of, end_of}
use Rattle.refinement.specs.walk_is_model.Holds.{Worded}
use Rattle.refinement.specs.log_in_room.Room.{AllBelow}
use Rattle.refinement.specs.finishing.Shows.{ShowsNode, ShowsPlain, Shows, finished_tables, Bodied}
use Rattle.refinement.proofs.walk_is_model.Frame.{worded_span}
use Rattle.refinement.proofs.log_in_room.Found.{between_both}
use Rattle.refinement.proofs.opening.Taken.{is_typed, is_low}
use Rattle.refinement.proofs.plan_is_type.Planted.{dictionary_is}
use Rattle.anew.specs.runs.Runs.{ok_at}
use Rattle.anew.specs.entries.Used.{key_at, rank, kept}
use Rattle.anew.specs.entries.Reclaimed.{reclaimed}
use Rattle.anew.proofs.entries.Reclaim.{InUse, entries_are, keys_fit_lem, valid_key, null_key}
use Rattle.anew.proofs.entries.Twice.{twice}
use Rattle.anew.specs.Anew.{or_else, room_ground}
use Rattle.anew.specs.ResultPlan.{plan_anew}
use Rattle.anew.proofs.Laws.{or_never, anew_order}
use Rattle.anew.proofs.Comes.{source_good}
use Rattle.anew.proofs.Planted.{planted, worded, root_is, stands}
use Rattle.anew.proofs.Result.{lent_for}
use Rattle.reclaim.specs.Reclaim.{reclaim_own, reclaim_plan, reclaim_out, reclaiming}
use Rattle.reclaim.proofs.Plans.{given, own_by}
use Rattle.reclaim.proofs.Theorems.{never_refused, reclaim_result}

-- a type that is a dictionary's
pub data IsDictionary (u : Ty) : Type 0 where
  of_keys : (k : Number) (p : Plain) → u ≡ t_dictionary k p → IsDictionary u

-- keys are numbers, which no other type than a dictionary has at a node with a dictionary
keyed_type : (plan : List ℕ) (u : Ty) → Worded plan 8 u 0 → (dictionary_of plan 0 ≡ 0 → ⊥) → (1 ≤ code_of plan 0) × (code_of plan 0 ≤ 10) → IsDictionary u
keyed_type plan (t_plain p) w d f = absurd (d w.2)
keyed_type plan t_view w d f = absurd (omega (arith, (between_both 15 16 (code_of plan 0) w.2).0, f.1))
keyed_type plan (t_list_view v t) w d f = absurd (omega (arith, (between_both 17 18 (code_of plan 0) w.2).0, f.1))
keyed_type plan (t_list v t) w d f = absurd (omega (arith, (between_both 19 20 (code_of plan 0) w.2).0, f.1))
keyed_type plan (t_sparse ids nullable g) w d f = absurd (omega (arith, w.1, f.1))
keyed_type plan (t_dense ids nullable g) w d f = absurd (omega (arith, w.1, f.1))
keyed_type plan (t_run_end v t) w d f = absurd (omega (arith, w.2, f.1))
keyed_type plan (t_dictionary k p) w d f = of_keys k p refl

module _ (formats schema : List ℕ) (x : Tables) (first n : ℕ) (low : first < 2 ^ 32) where
  module _ (good : column_ground formats schema x first n ≡ 0) where
    typed_is : typed formats schema first n ≡ true
    typed_is = is_typed formats schema (first ∷ n ∷ []) x false false (source_good formats schema x first n low good)

    low_is : ceilings formats schema first n ≡ true
    low_is = is_low formats schema (first ∷ n ∷ []) x false false (source_good formats schema x first n low good)

    abbrev bare : List ℕ
    bare = plan_anew formats schema first n (λ i. false) true 0

    words : Worded bare 8 (type_of formats schema first n) 0
    words = worded formats schema first n (λ i. false) true 0 typed_is low_is

    -- A DICTIONARY WORD MEANS A DICTIONARY TYPE
    pub own_dictionary : reclaim_own schema first ≡ 0 → IsDictionary (type_of formats schema first n)
    unfolding reclaim_own
    own_dictionary h = go (eqb (dictionary schema first 0) 0) refl h
      where
        here : 0 < end_of bare 0
        here = worded_span bare 8 (type_of formats schema first n) 0 words

        in_column : 0 < n
        in_column = omega (arith, here, root_is formats schema first n (λ i. false) true 0 typed_is low_is)

        go : (b : Bool) → eqb (dictionary schema first 0) 0 ≡ b → ◌≡◌ {A = ℕ} (cond b 10 0) 0 → IsDictionary (type_of formats schema first n)
        go true e q = absurd (omega arith)
        go false e q =
            let d : dictionary_of bare 0 ≡ 0 → ⊥ = λ z. eqb-false (dictionary schema first 0) 0 e (sym (dictionary_is formats schema first n bare typed_is low_is (planted formats schema first n (λ i. false) true 0 typed_is low_is) 0 in_column) ∙ z) in
            keyed_type bare (type_of formats schema first n) words d
            (between_both 1 10 (code_of bare 0) ((stands formats schema first n (λ i. false) true 0 typed_is low_is (λ i l r. refl)).laid.tabled.keys_fixed 0 here d))

    -- "IT REFUSES WITH 10 A COLUMN THAT IS NO DICTIONARY"
    pub own_else : (IsDictionary (type_of formats schema first n) → ⊥) → reclaim_own schema first ≡ 10
    own_else h = go (eqb (dictionary schema first 0) 0) refl
      where
        own_is : (b : Bool) → eqb (dictionary schema first 0) 0 ≡ b → reclaim_own schema first ≡ cond b 10 0
        own_is b e = own_by schema first b e

        go : (b : Bool) → eqb (dictionary schema first 0) 0 ≡ b → reclaim_own schema first ≡ 10
        go true e = own_is true e
        go false e = absurd (h (own_dictionary (own_is false e)))

  -- THE GROUNDS OF THE CALL, in their order, of any column
  module _ (bytes : AllBelow 256 x.body) (parts plan counters room : List ℕ) where
    abbrev of_room : ℕ
    of_room = room_ground (reclaim_plan formats schema x first n) (reclaim_out formats schema x first n).counters parts (length plan) (length counters) (length room)

    pub grounds : small_body room ≡ true → (reclaiming formats schema x first n parts plan counters room).refusal ≡ or_else (column_ground formats schema x first n) (or_else (reclaim_own schema first) of_room)
    grounds s =
        anew_order formats schema x first n (reclaim_own schema first) (reclaim_plan formats schema x first n) (reclaim_out formats schema x first n) parts plan counters room s
        ∙ or_never (column_ground formats schema x first n) (reclaim_own schema first) (reclaim_out formats schema x first n).ans of_room (λ good own. by_type good (own_dictionary good own))
      where
        by_type : column_ground formats schema x first n ≡ 0 → IsDictionary (type_of formats schema first n) → (reclaim_out formats schema x first n).ans ≡ 0
        by_type good (of_keys k p e) = never_refused formats schema x first n low good k p e bytes

-- ---- a second time

module _ (tree : Tree) (y : Tables) (k : Number) (p : Plain) where
  abbrev with_starts : Column (t_dictionary k p) → List ℕ → Column (t_dictionary k p)
  with_starts c s = record { len = c.len; off = c.off; valid = c.valid; body = record { keys = c.body.keys; values = c.body.values; starts = s } }

  plain_shown : (q : Plain) (i : ℕ) (b : PlainBody q) → ShowsPlain tree y q i b → plain_body tree y q i ≡ b
  plain_shown (fixed m) i b h = h
  plain_shown (string w) i b h = ap₂ (λ o c. record { offsets = o; chars = c }) h.0 h.1

  node_shown : {B : Type 0} (i : ℕ) (inner : B → Type 0) (a : Array B) (b : B) → ShowsNode y i inner a → b ≡ a.body → array_with y b i ≡ a
  node_shown i inner a b h e =
      ap (λ l. record { len = l; off = offset_of y i; valid = valid_of y i; body = b }) h.len_is ∙ ap (λ o. record { len = a.len; off = o; valid = valid_of y i; body = b }) h.off_is
      ∙ ap (λ v. record { len = a.len; off = a.off; valid = v; body = b }) h.valid_is ∙ ap (λ z. record { len = a.len; off = a.off; valid = a.valid; body = z }) e

  -- tables that show a column hold it, but for where the entries begin
  shown : (c : Column (t_dictionary k p)) → Shows tree y (t_dictionary k p) 0 c → column_of tree y (t_dictionary k p) 0 ≡ with_starts c (starts y p 1)
  shown c h =
      node_shown 0 (λ b. Unit {0}) (with_starts c (starts y p 1)) (record { keys = first_buffer y 0; values = array_with y (plain_body tree y p 1) 1; starts = starts y p 1 })
      (record { len_is = h.len_is; off_is = h.off_is; valid_is = h.valid_is; body_is = tt })
      (ap₂ (λ a b. record { keys = a; values = b; starts = starts y p 1 }) h.body_is.0
      (node_shown 1 (ShowsPlain tree y p 1) c.body.values (plain_body tree y p 1) h.body_is.1 (plain_shown p 1 c.body.values.body h.body_is.1.body_is)))

  -- "DOING IT TWICE GIVES WHAT ONCE GIVES": what is reclaimed of tables that show a reclaimed column is that column
  pub second_time : (x : Column (t_dictionary k p)) → reclaimed k p (reclaimed k p x) ≡ reclaimed k p x → Shows tree y (t_dictionary k p) 0 (reclaimed k p x)
      → reclaimed k p (column_of tree y (t_dictionary k p) 0) ≡ reclaimed k p x
  second_time x t h = ap (reclaimed k p) (shown (reclaimed k p x) h) ∙ t

-- ---- what stands in the finished tables

module _ (formats schema : List ℕ) (x : Tables) (first n : ℕ) (low : first < 2 ^ 32) (good : column_ground formats schema x first n ≡ 0) (k : Number) (p : Plain)
    (e : type_of formats schema first n ≡ t_dictionary k p) (bytes : AllBelow 256 x.body) where
  abbrev old : Column (t_dictionary k p)
  old = column_of (tree_of formats schema first n) (tables_from x first) (t_dictionary k p) 0

  -- "THE NUMBER OF ENTRIES IS THE NUMBER OF DISTINCT KEYS IN USE", each stands once, and a valid key names what it named
  pub entries_in_use : InUse k p old
  entries_in_use = let g = given formats schema x first n low good k p e [] in entries_are k p old g.formed g.source

  -- no key is too large for its format: no 8 can arise
  pub keys_hold_lem : length (kept k old) ≤ limit k
  keys_hold_lem = let g = given formats schema x first n low good k p e [] in keys_fit_lem k p old g.formed g.source

  module _ (i : ℕ) (l : i < old.len) where
    -- "RENUMBER THE KEYS"
    pub renumbered : ok_at old i ≡ true → key_at k (reclaimed k p old) i ≡ rank k old (key_at k old i)
    renumbered = let g = given formats schema x first n low good k p e [] in valid_key k p old g.formed g.source i l

    -- "KEYS UNDER NULLS BECOME 0"
    pub null_keys : ok_at old i ≡ false → key_at k (reclaimed k p old) i ≡ 0
    null_keys = let g = given formats schema x first n low good k p e [] in null_key k p old g.formed g.source i l

  -- "DOING IT TWICE GIVES WHAT ONCE GIVES": the finished tables lent to the call again
  pub reclaim_twice : (parts plan counters room : List ℕ) (room_bytes : AllBelow 256 room) (ok : (reclaiming formats schema x first n parts plan counters room).refusal ≡ 0) (base : ℕ) (body : List ℕ)
      (bodied : Bodied body (lent_for x (reclaim_plan formats schema x first n) parts first n) (reclaiming formats schema x first n parts plan counters room).room base)
      → reclaimed k p
      (column_of (tree_of formats schema first n)
      (finished_tables (lent_for x (reclaim_plan formats schema x first n) parts first n) x.buffers (reclaiming formats schema x first n parts plan counters room).counters (reclaiming formats schema x first n parts plan counters room).room base body)
      (t_dictionary k p) 0)
      ≡ reclaimed k p old
  reclaim_twice parts plan counters room room_bytes ok base body bodied =
      let g = given formats schema x first n low good k p e [] in
      second_time (tree_of formats schema first n)
      (finished_tables (lent_for x (reclaim_plan formats schema x first n) parts first n) x.buffers (reclaiming formats schema x first n parts plan counters room).counters (reclaiming formats schema x first n parts plan counters room).room base body)
      k p old (twice k p old g.formed g.source) (reclaim_result formats schema x first n low good k p e bytes parts plan counters room room_bytes ok base body bodied).0
