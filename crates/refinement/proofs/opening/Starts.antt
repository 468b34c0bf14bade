-- Where the nodes have no rows, counters and memory hold the model's destination with no rows. Assumes nothing.
use mathlib.Core.Path.{◌≡◌, refl, ap, ◌∙◌}
use mathlib.Core.Bool.{Bool, true, false, cond, ◌&&◌, ◌||◌}
use mathlib.Core.Option.{none, some}
use mathlib.Core.List.{List, [], Memᴰ}
use Prim.Native.Nat.{ℕ, zero, suc, ◌≤◌, ◌<◌}
use native.Mathlib.Omega.{arith}
use lib.ListN.{length, get_or}
use lib.Dec.{leb, eqb}
use borrow.Author.Tests.{lt-leb}
use Rattle.number.specs.Number.{encode}
use Rattle.columnar.specs.Types.{Plain, fixed, string, Ty, t_plain, t_view, t_list_view, t_list, t_sparse, t_dense, t_run_end, t_dictionary}
use Rattle.columnar.specs.Reading.{Body}
use Rattle.schema.specs.formats.Code.{is_fixed, is_string, is_list, is_union, is_run_end}
use Rattle.model.specs.Opening.{keeps}
use Rattle.model.specs.Mutable.{start_node}
use Rattle.model.specs.Primitive.{plain_start}
use Rattle.model.specs.Transform.{start_data}
use Rattle.walk.specs.State.{code_of, end_of, keeps_of}
use Rattle.refinement.specs.walk_is_model.Memory.{Memory}
use Rattle.refinement.specs.walk_is_model.Holds.{child_of, flag, Fields, WordedPlain, Worded, HoldsBits, HoldsNode, HoldsPlain, HoldsData, Holds}
use Rattle.refinement.proofs.walk_is_model.Frame.{field_of}
use Rattle.refinement.proofs.walk_is_model.Codes.{between_apart}
use Rattle.refinement.proofs.walk_is_model.Kids.{worded_small}
use Rattle.refinement.specs.log_in_room.Reach.{Closed, Typed, Among, Free}
use Rattle.refinement.proofs.log_in_room.Found.{between_both, between_wide, child_first, child_with_lem}
use Rattle.refinement.proofs.log_in_room.Closure.{closed_free}
use Rattle.plan.specs.parts.Parts.{has_offsets}
use Rattle.refinement.proofs.orders.Buffers.{fixed_else}
use Rattle.refinement.proofs.orders.Cover.{Laid}
use Rattle.refinement.specs.opening.Kept.{Kept}
use Rattle.refinement.specs.opening.Open.{chosen}
use Rattle.refinement.proofs.opening.Zeros.{gap_of, Fresh}

-- a node that a walk comes to
abbrev pub Here : List ℕ → ℕ → Type 0
Here plan j = Typed plan 0 (end_of plan 0) j × Free plan j

abbrev pub There : List ℕ → ℕ → Type 0
There plan j = Among 0 (end_of plan 0) j × Free plan j

pub closed_here : (plan : List ℕ) → Laid plan → Closed plan (Here plan) (There plan)
closed_here plan laid = closed_free plan 0 (end_of plan 0) laid.tabled

-- a code that is a union's
pub is_union_lem : (plan : List ℕ) (i z : ℕ) → code_of plan i ≡ z → is_union z ≡ true → is_union (code_of plan i) ≡ true
is_union_lem plan i z e h = rw e h

-- the child of a union is one
pub child_here : (plan : List ℕ) → Laid plan → (k : ℕ) (f : ℕ → Ty) (nullable : ℕ → Bool) (ids : List ℕ) (i : ℕ) → Here plan i → is_union (code_of plan i) ≡ true → length ids ≤ 16
    → Fields plan (λ c. Worded plan k (f c)) nullable (end_of plan i) ids (suc i) → (e : ℕ) → Memᴰ e ids → Here plan (child_of plan i e) × Worded plan k (f e) (child_of plan i e)
child_here plan laid k f nullable ids i here u few fields e q =
    let w = (field_of plan (λ c. Worded plan k (f c)) nullable (end_of plan i) ids (suc i) 32 e fields (omega arith) q).is_kid in
    ((closed_here plan laid).child i (child_of plan i e) here u (child_with_lem plan i e 32 (suc i) (child_first plan i) (worded_small plan k (f e) (child_of plan i e) w)), w)

-- which codes have offsets
neither : {a b : Bool} → a ≡ false → b ≡ false → a || b ≡ false
neither p q = rw (p, q)

fixed_offsets : (z : ℕ) → is_fixed z ≡ true → has_offsets z ≡ false
fixed_offsets z h = let e = fixed_else z h in neither e.0 e.3

lists_offsets : (z : ℕ) → is_list z ≡ true → has_offsets z ≡ true
lists_offsets z h = rw (between_apart 19 20 11 14 z (omega arith) h, h)

module _ (plan c : List ℕ) (μ : Memory) where
  start_bits_lem : (i : ℕ) (m keep : Bool) → keeps_of plan i ≡ flag keep → μ.bits i ≡ [] → HoldsBits plan i m (cond keep (some []) none) μ
  start_bits_lem i true true e b = (λ z. omega (arith, e, z), b)
  start_bits_lem i false true e b = λ z. omega (arith, e, z)
  start_bits_lem i m false e b = e

  start_node_lem : {D : Type 0} (i : ℕ) (m keep : Bool) (inner : D → List ℕ → Memory → Type 0) (d : D) → Fresh plan c μ i → keeps_of plan i ≡ flag keep → inner d c μ
      → HoldsNode plan i m inner (start_node keep d) c μ
  start_node_lem i m keep inner d f e h =
      record { rows_are = f.no_rows; nulls_are = f.no_nulls; few_nulls = omega arith; bits_are = start_bits_lem i m keep e f.no_bits; data_are = h }

  -- a byte string is no run-end node
  string_gap : (i : ℕ) → is_string (code_of plan i) ≡ true → gap_of plan i ≡ 0
  string_gap i h = let b = between_both 11 14 (code_of plan i) h in rw (lt-leb 23 (code_of plan i) (omega (arith, b.1)))

  start_plain : (p : Plain) (i : ℕ) → WordedPlain plan p i → Fresh plan c μ i → HoldsPlain plan p i (plain_start p) c μ
  start_plain (fixed n) i w f = f.no_entries (fixed_offsets (code_of plan i) w.0)
  start_plain (string v) i w f = (f.zero_offset (rw w.0) ∙ ap (λ n. encode n 0) w.1, f.no_data, f.first_gap ∙ string_gap i w.0)

  -- plain values with no rows: those of a joined dictionary before the first source
  pub start_values : (p : Plain) (i : ℕ) (keep : Bool) → WordedPlain plan p i → Fresh plan c μ i → keeps_of plan i ≡ flag keep
      → Holds plan (t_plain p) i (start_node keep (plain_start p)) c μ
  start_values p i keep w f e = start_node_lem i true keep (HoldsData plan (t_plain p) i) (plain_start p) f e (start_plain p i w f)

  module _ (laid : Laid plan) (m : ℕ) (gaps : Bool) (choice : get_or plan 867 0 ≡ flag gaps) (fresh : (j : ℕ) → There plan j → Fresh plan c μ j) where
    abbrev Started : (t : Ty) → ℕ → Bool → (ℕ → Body t) → Type 0
    Started t i u ss = Holds plan t i (start_node u (start_data gaps t u m ss)) c μ

    new : (i : ℕ) → Here plan i → Fresh plan c μ i
    new i here = fresh i ((closed_here plan laid).own i here)

    -- views and list-views; unions
    low_offsets : (i low high : ℕ) → 14 < low → high < 19 → Rattle.schema.specs.formats.Code.between low high (code_of plan i) ≡ true → has_offsets (code_of plan i) ≡ false
    low_offsets i low high p q h =
        let b = between_both low high (code_of plan i) h in
        neither (between_apart low high 11 14 (code_of plan i) p h) (rw (lt-leb 19 (code_of plan i) (omega (arith, b.1))))

    union_offsets : (i : ℕ) → is_union (code_of plan i) ≡ true → has_offsets (code_of plan i) ≡ false
    union_offsets i h = neither (between_apart 21 22 11 14 (code_of plan i) (omega arith) h) (between_apart 21 22 19 20 (code_of plan i) (omega arith) h)

    -- the choice at a run-end node
    run_gap : (i : ℕ) → code_of plan i ≡ 23 → gap_of plan i ≡ cond gaps 1 0
    run_gap i q = ap (λ z. cond (is_run_end z && chosen plan) 1 0) q ∙ ap (λ v. cond (eqb v 1) 1 0) choice ∙ go gaps
      where
        go : (g : Bool) → ◌≡◌ {A = ℕ} (cond (eqb (flag g) 1) 1 0) (cond g 1 0)
        go true = refl
        go false = refl

    -- THE DESTINATION WITH NO ROWS is held, from node i on
    pub start_held : (k : ℕ) (t : Ty) (i : ℕ) (u : Bool) (ss : ℕ → Body t) → Worded plan k t i → Here plan i → keeps_of plan i ≡ flag u → Kept plan m t i u ss → Started t i u ss
    start_held (suc k) (t_plain p) i u ss w here e q = start_values p i u w.3 (new i here) e
    start_held (suc k) t_view i u ss w here e q =
        start_node_lem i true u (HoldsData plan t_view i) [] (new i here) e ((new i here).no_entries (low_offsets i 15 16 (omega arith) (omega arith) w.2))
    start_held (suc k) (t_list_view v t) i u ss w here e q =
        start_node_lem i true u (HoldsData plan (t_list_view v t) i) _ (new i here) e
        ((new i here).no_entries (low_offsets i 17 18 (omega arith) (omega arith) w.2), (new i here).no_data, start_held k t (suc i) (keeps u m (λ j. (ss j).child)) (λ j. (ss j).child.body) w.4 ((closed_here plan laid).item i here (between_wide 17 18 17 20 (code_of plan i) (omega arith) (omega arith) w.2)) q.0 q.1)
    start_held (suc k) (t_list v t) i u ss w here e q =
        start_node_lem i true u (HoldsData plan (t_list v t) i) _ (new i here) e
        ((new i here).zero_offset (lists_offsets (code_of plan i) w.2) ∙ ap (λ n. encode n 0) w.3, start_held k t (suc i) (keeps u m (λ j. (ss j).child)) (λ j. (ss j).child.body) w.4 ((closed_here plan laid).item i here (between_wide 19 20 17 20 (code_of plan i) (omega arith) (omega arith) w.2)) q.0 q.1)
    start_held (suc k) (t_sparse ids nullable f) i u ss w here e q =
        let z = is_union_lem plan i 21 w.1 refl in
        start_node_lem i false u (HoldsData plan (t_sparse ids nullable f) i) _ (new i here) e (
          (new i here).no_entries (union_offsets i z),
          λ b g.
              let d = child_here plan laid k f nullable ids i here z w.2 w.4 b g in
              start_held k (f b) (child_of plan i b) (keeps u m (λ j. (ss j).children b)) (λ j. ((ss j).children b).body) d.1 d.0 (q b g).0 (q b g).1,
        )
    start_held (suc k) (t_dense ids nullable f) i u ss w here e q =
        let z = is_union_lem plan i 22 w.1 refl in
        start_node_lem i false u (HoldsData plan (t_dense ids nullable f) i) _ (new i here) e (
          (new i here).no_entries (union_offsets i z),
          (new i here).no_data,
          λ b g.
              let d = child_here plan laid k f nullable ids i here z w.2 w.4 b g in
              start_held k (f b) (child_of plan i b) (keeps u m (λ j. (ss j).children b)) (λ j. ((ss j).children b).body) d.1 d.0 (q b g).0 (q b g).1,
        )
    start_held (suc k) (t_run_end v t) i u ss w here e q =
        let a = fresh (suc i) ((closed_here plan laid).ends i here w.2) in
        let fix : is_fixed (code_of plan (suc i)) ≡ true = (laid.run_ends_lem i ((closed_here plan laid).own i here).0.1 w.2).0 in
        start_node_lem i false u (HoldsData plan (t_run_end v t) i) _ (new i here) e (
          a.no_rows,
          a.no_entries (fixed_offsets (code_of plan (suc i)) fix),
          start_held k t (suc (suc i)) (keeps u m (λ j. (ss j).values)) (λ j. (ss j).values.body) w.4 ((closed_here plan laid).values i here w.2) q.1 q.2,
          (new i here).first_gap ∙ run_gap i w.2,
        )
    start_held (suc k) (t_dictionary n p) i u ss w here e q =
        start_node_lem i true u (HoldsData plan (t_dictionary n p) i) [] (new i here) e ((new i here).no_entries (fixed_offsets (code_of plan i) w.3))
    start_held zero t i u ss w here e q = elim w [ ]
