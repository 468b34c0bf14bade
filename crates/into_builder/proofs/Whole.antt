-- The tests of finishing one after the other, and the tables that it leaves. Assumes nothing.
use mathlib.Core.Path.{◌≡◌, refl, sym, ap, ap₂, ◌∙◌}
use mathlib.Core.Bool.{Bool, true, false, ◌&&◌}
use mathlib.Core.List.{List, []}
use Prim.Native.Nat.{ℕ, zero, suc, ◌+◌, ◌*◌, ◌≤◌}
use native.Mathlib.Omega.{arith}
use lib.ListN.{length}
use lib.Dec.{leb, eqb}
use borrow.Author.Tests.{leb-true, eqb-true, eq-eqb, ne_eqb}
use Rattle.columnar.specs.Test.{every}
use Rattle.array_data.proofs.lent_tables.Laws.{and_left, and_right}
use Rattle.walk.specs.State.{top}
use Rattle.plan.specs.parts.Parts.{nodes_of, parts_within, parts_hold}
use Rattle.columns.specs.Grounds.{ceiling}
use Rattle.refinement.specs.orders.Order.{Lent}
use Rattle.refinement.specs.finishing.Finish.{Finished, zeros_at, nulls_at, kept_in, length_table, null_table, place_table, tables_fit, room_fits, sizes_fit, finishing}
use Rattle.into_builder.specs.buffers.Names.{lent, count_before, names_before}
use Rattle.into_builder.specs.counts.Counts.{kept_of}
use Rattle.into_builder.specs.Answer.{Answers}
use Rattle.into_builder.proofs.buffers.Names.{before_same, names_same}

every_same : (p q : ℕ → Bool) → ((i : ℕ) → p i ≡ q i) → (n : ℕ) → every p n ≡ every q n
every_same p q h zero = refl
every_same p q h (suc n) = ap₂ (λ a b. a && b) (every_same p q h n) (h n)

-- ---- sizes

-- so that a position in the room is one of 64 bits
pub ends_in_lem : (base m : ℕ) → leb base ceiling && leb m ceiling ≡ true → base + m ≤ top
ends_in_lem base m h =
    let a = leb-true base ceiling (and_left (leb base ceiling) (leb m ceiling) h) in
    let b = leb-true m ceiling (and_right (leb base ceiling) (leb m ceiling) h) in
    omega arith

-- ---- the lengths of the tables

module _ (plan sources places : List ℕ) (a b c d : ℕ) where
  -- what is asked of four tables of these lengths
  abbrev pub fit : Bool
  fit =
      eqb a (2 * nodes_of plan)
      && eqb b (nodes_of plan)
      && eqb c (9 * nodes_of plan)
      && eqb d (2 * count_before plan sources places (nodes_of plan))

  pub record Fit : Type 0 where
    pub lengths : a ≡ 2 * nodes_of plan
    pub nulls : b ≡ nodes_of plan
    pub places_are : c ≡ 9 * nodes_of plan
    pub names : d ≡ 2 * count_before plan sources places (nodes_of plan)

  pub fit_is : fit ≡ true → Fit
  fit_is h =
      let t = eqb a (2 * nodes_of plan) in
      let u = eqb b (nodes_of plan) in
      let v = eqb c (9 * nodes_of plan) in
      let w = eqb d (2 * count_before plan sources places (nodes_of plan)) in
      let h3 = and_left (t && u && v) w h in
      let h2 = and_left (t && u) v h3 in
      record {
        lengths = eqb-true _ _ (and_left t u h2);
        nulls = eqb-true _ _ (and_right t u h2);
        places_are = eqb-true _ _ (and_right (t && u) v h3);
        names = eqb-true _ _ (and_right (t && u && v) w h);
      }

  -- as they are asked
  pub fit_by : {n s : ℕ} → n ≡ nodes_of plan → s ≡ count_before plan sources places n
      → eqb a (2 * n) && eqb b n && eqb c (9 * n) && eqb d (2 * s) ≡ fit
  fit_by {n} {s} e f = let g : s ≡ count_before plan sources places (nodes_of plan) = f ∙ ap (count_before plan sources places) e in rw (g, e)

-- ---- counters, parts and room

module _ (plan parts counters : List ℕ) (m : ℕ) where
  abbrev pub holds : Bool
  holds = eqb (length counters) 96 && parts_within plan parts m && parts_hold plan counters parts

  pub holds_not : (length counters ≡ 96 → ⊥) → false ≡ holds
  holds_not h = rw (ne_eqb (length counters) 96 h)

  module _ (h : length counters ≡ 96) where
    pub holds_out : parts_within plan parts m ≡ false → false ≡ holds
    holds_out w = rw (eq-eqb (length counters) 96 h, w)

    pub holds_by : parts_within plan parts m ≡ true → {counts2 : List ℕ} {r : Bool} → counts2 ≡ counters → r ≡ parts_hold plan counts2 parts → r ≡ holds
    holds_by w e g = rw (eq-eqb (length counters) 96 h, w) (g ∙ ap (λ c. parts_hold plan c parts) e)

  pub holds_within : holds ≡ true → parts_within plan parts m ≡ true
  holds_within h = and_right (eqb (length counters) 96) (parts_within plan parts m) (and_left (eqb (length counters) 96 && parts_within plan parts m) _ h)

  pub holds_hold : holds ≡ true → parts_hold plan counters parts ≡ true
  holds_hold h = and_right (eqb (length counters) 96 && parts_within plan parts m) _ h

-- ---- the whole

module _ (plan parts sources lengths places body buffers counters room : List ℕ) (base : ℕ) (ls ns ps bs : List ℕ) where
  abbrev x : Lent
  x = lent plan parts sources lengths places body

  abbrev pub end : Finished
  end = finishing x buffers counters room base ls ns ps bs

  pub finish_far : leb base ceiling && leb (length room) ceiling ≡ false → Answers end 9 ls ns ps bs
  unfolding finishing sizes_fit
  finish_far h =
      rw h
      (record { refusal = refl; lengths_are = refl; nulls_are = refl; places_are = refl; buffers_are = refl })

  kept_same : every (kept_in x buffers counters room base) (nodes_of plan) ≡ every (kept_of plan sources lengths places body) (nodes_of plan)
  unfolding kept_in
  kept_same = every_same (kept_in x buffers counters room base) (kept_of plan sources lengths places body) (λ i. refl) (nodes_of plan)

  fit_same : tables_fit x buffers counters room base ls ns ps bs ≡ fit plan sources places (length ls) (length ns) (length ps) (length bs)
  unfolding tables_fit
  fit_same = rw (before_same x buffers counters room base (nodes_of plan))

  module _ (near : leb base ceiling && leb (length room) ceiling ≡ true) where
    pub finish_kept : every (kept_of plan sources lengths places body) (nodes_of plan) ≡ false → Answers end 12 ls ns ps bs
    unfolding finishing sizes_fit
    finish_kept k =
        rw (near, kept_same, k)
        (record { refusal = refl; lengths_are = refl; nulls_are = refl; places_are = refl; buffers_are = refl })

    module _ (k : every (kept_of plan sources lengths places body) (nodes_of plan) ≡ true) where
      pub finish_room : holds plan parts counters (length room) ≡ false → Answers end 14 ls ns ps bs
      unfolding finishing sizes_fit room_fits
      finish_room r =
          rw (near, kept_same, k, r)
          (record { refusal = refl; lengths_are = refl; nulls_are = refl; places_are = refl; buffers_are = refl })

      module _ (r : holds plan parts counters (length room) ≡ true) where
        pub finish_tables : fit plan sources places (length ls) (length ns) (length ps) (length bs) ≡ false → Answers end 14 ls ns ps bs
        unfolding finishing sizes_fit room_fits
        finish_tables t =
            rw (near, kept_same, k, r, fit_same, t)
            (record { refusal = refl; lengths_are = refl; nulls_are = refl; places_are = refl; buffers_are = refl })

        pub finish_made : fit plan sources places (length ls) (length ns) (length ps) (length bs) ≡ true → {ls2 ns2 ps2 bs2 : List ℕ}
            → ls2 ≡ length_table (lent plan [] sources lengths [] []) [] counters [] 0 → ns2 ≡ null_table x [] counters room 0
            → ps2 ≡ place_table x buffers counters room base → bs2 ≡ names_before plan sources places buffers (nodes_of plan)
            → Answers end 0 ls2 ns2 ps2 bs2
        unfolding finishing sizes_fit room_fits length_table null_table nulls_at zeros_at
        finish_made t e f g n =
            rw (near, kept_same, k, r, fit_same, t)
            (record { refusal = refl; lengths_are = e; nulls_are = f; places_are = g; buffers_are = n ∙ sym (names_same x buffers counters room base (nodes_of plan)) })
