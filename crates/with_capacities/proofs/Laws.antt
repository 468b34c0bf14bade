-- An opening that is tried and then made, and the grounds before it. Assumes nothing.
use mathlib.Core.Path.{◌≡◌, refl, sym, ap, subst, ◌∙◌}
use mathlib.Core.Bool.{Bool, true, false, not, ◌&&◌}
use mathlib.Core.List.{List}
use Prim.Native.Nat.{ℕ, ◌+◌, ◌*◌, ◌^◌, ◌≤◌, ◌<◌}
use native.Mathlib.Omega.{arith}
use lib.ListN.{length, get_or, set, replicate, length-set}
use lib.Seq.{get_or-set_same, get_or-set_other, ext_get_or}
use lib.Dec.{eqb}
use borrow.Author.Count.{below_more}
use borrow.Author.Tests.{eq-eqb, ne_eqb, le-leb, lt-leb, eqb-true}
use Rattle.array_data.specs.Tables.{Tables}
use Rattle.array_data.specs.lent_tables.Lent.{tables}
use Rattle.array_data.proofs.lent_tables.Laws.{no, yes, and_left, and_right}
use Rattle.source_rules.specs.kinds.Rows.{tables_of}
use Rattle.walk.specs.Log.{Out, Did, apply, apply_if}
use Rattle.columns.specs.Grounds.{ceiling, sources_ground}
use Rattle.plan.specs.parts.Parts.{part_total, parts_placed, parts_hold}
use Rattle.sound.proofs.trying.Laws.{hold_alike}
use Rattle.sound.proofs.trying.Near.{Near}
use Rattle.refinement.specs.orders.Order.{source_count}
use Rattle.plan.specs.Plan.{keep_word, with_keeps, joined_word, with_joined, base_word, with_bases, laid_out, planned, Plannable}
use Rattle.plan.proofs.Words.{sources_are}
use Rattle.refinement.specs.opening.Open.{open_walk_of, settled, room_placed, opening}
use Rattle.refinement.specs.opening.Ask.{asked}
use Rattle.refinement.proofs.opening.Plannable.{plannable}
use Rattle.refinement.specs.orders.Order.{lent}
use Rattle.with_capacities.specs.Answer.{Answers, Plans}

-- ---- numbers one after the other

-- the first i of n numbers are written
abbrev pub Written : List ℕ → List ℕ → ℕ → ℕ → Type 0
Written from to n i = (length to ≡ n) × ((j : ℕ) → j < i → get_or to j 0 ≡ get_or from j 0)

pub written_none : (from to : List ℕ) (n : ℕ) → length to ≡ n → Written from to n 0
written_none from to n h = (h, λ j q. absurd (omega arith))

pub written_more : (from to : List ℕ) (n i v : ℕ) → i < n → Written from to n i → v ≡ get_or from i 0 → Written from (set to i v) n (i + 1)
written_more from to n i v h w e = (
  length-set to i v ∙ w.0,
  below_more (λ j. get_or (set to i v) j 0 ≡ get_or from j 0) i (λ j q. get_or-set_other to i j v 0 (λ z. omega arith) ∙ w.1 j q)
      (get_or-set_same to i v 0 (omega (arith, w.0)) ∙ e),
)

pub written_all : (from to : List ℕ) (n i : ℕ) → n ≤ i → length from ≡ n → Written from to n i → to ≡ from
written_all from to n i h l w = ext_get_or 0 to from (w.0 ∙ sym l) (λ j q. w.1 j (omega (arith, w.0)))

-- ---- the plan

-- it is not about the data buffers of views
planned_as : (formats schema lengths places buffers body sources : List ℕ) (keep gaps : Bool)
    → planned formats schema (tables lengths places body) sources keep gaps ≡ planned formats schema (tables_of lengths places buffers body) sources keep gaps
unfolding planned laid_out with_keeps keep_word with_joined joined_word with_bases base_word
planned_as formats schema lengths places buffers body sources keep gaps = refl

module _ (formats schema lengths places buffers body sources : List ℕ) (keep gaps : Bool) (low : (s : ℕ) → get_or sources (2 * s) 0 < 2 ^ 32)
    {g : ℕ} (e : g ≡ sources_ground formats schema (tables_of lengths places buffers body) sources) (h : g ≡ 0) where
  pub can_plan : Plannable (tables lengths places body) sources
  can_plan = plannable formats schema (tables_of lengths places buffers body) sources low (sym e ∙ h)

  module _ {plan : List ℕ} (q : plan ≡ planned formats schema (tables lengths places body) sources keep gaps) where
    pub plan_is : plan ≡ planned formats schema (tables_of lengths places buffers body) sources keep gaps
    plan_is = q ∙ planned_as formats schema lengths places buffers body sources keep gaps

    pub few_sources_lem : source_count plan ≤ 16
    few_sources_lem =
        let w = can_plan in
        subst (λ z. source_count z ≤ 16) (sym q) (subst (λ z. z ≤ 16) (sym (sources_are formats schema (tables lengths places body) sources keep gaps w.few w.small)) w.few)

-- ---- a walk that is tried from counters that answer alike, the parts asked, and the walk made

module _ (formats schema sources : List ℕ) (x : Tables) (keep gaps : Bool) (parts plan counters room : List ℕ)
    {draft : List ℕ} (q : draft ≡ planned formats schema x sources keep gaps) (o : Out) {p : Out} (near : Near p o) {g : ℕ} {c1 room1 : List ℕ}
    (d : Did draft parts false p room g c1 room1) where
  answers : g ≡ o.ans
  answers = d.answer ∙ near.answer

  same_room : room1 ≡ room
  unfolding apply_if
  same_room = d.bytes

  pub settled_no : (g ≡ 0 → ⊥) → Answers (settled formats schema sources x keep gaps parts plan counters room o) g plan counters room1
  unfolding settled
  settled_no h = rw (ne_eqb o.ans 0 (λ z. h (answers ∙ z))) (record { refusal = answers; plan = refl; counters = refl; room = same_room })

  module _ (h : g ≡ 0) {t : Bool} (e : t ≡ parts_hold draft c1 parts) where
    asked_of : t ≡ parts_hold (planned formats schema x sources keep gaps) o.counters parts
    asked_of = e ∙ ap (λ z. parts_hold draft z parts) d.counters ∙ hold_alike draft parts near.counters ∙ ap (λ z. parts_hold z o.counters parts) q

    pub settled_over : not t ≡ true → Answers (settled formats schema sources x keep gaps parts plan counters room o) 13 plan counters room1
    unfolding settled
    settled_over f = rw (eq-eqb o.ans 0 (sym answers ∙ h), no asked_of f) (record { refusal = refl; plan = refl; counters = refl; room = same_room })

    pub settled_made : {r : ℕ} {c2 room2 c3 words : List ℕ} → not t ≡ false → Did draft parts true o room1 r c2 room2 → c3 ≡ c2 → words ≡ draft
        → Answers (settled formats schema sources x keep gaps parts plan counters room o) r words c3 room2
    unfolding settled apply_if
    settled_made f m s w =
        let ans : o.ans ≡ 0 = sym answers ∙ h in
        rw (eq-eqb o.ans 0 ans, yes asked_of f)
        (record {
          refusal = m.answer ∙ ans;
          plan = w ∙ q;
          counters = s ∙ m.counters;
          room = m.bytes ∙ ap (apply draft parts o.log) same_room ∙ ap (λ z. apply z parts o.log room) q;
        })

-- ---- the grounds before the walk

module _ (formats schema sources : List ℕ) (x : Tables) (keep gaps : Bool) (parts plan counters room : List ℕ) where
  pub open_large : ceiling < length room → Answers (opening formats schema sources x keep gaps parts plan counters room) 9 plan counters room
  unfolding opening
  open_large h = rw (lt-leb (length room) ceiling h) (record { refusal = refl; plan = refl; counters = refl; room = refl })

  module _ (h : length room ≤ ceiling) {g : ℕ} (e : g ≡ sources_ground formats schema x sources) where
    pub open_sources : (g ≡ 0 → ⊥) → Answers (opening formats schema sources x keep gaps parts plan counters room) g plan counters room
    unfolding opening
    open_sources f =
        rw (le-leb (length room) ceiling h, ne_eqb (sources_ground formats schema x sources) 0 (λ z. f (e ∙ z)))
        (record { refusal = e; plan = refl; counters = refl; room = refl })

    module _ (f : g ≡ 0) {draft : List ℕ} (q : draft ≡ planned formats schema x sources keep gaps) {t : Bool}
        (k : t ≡ (eqb (length plan) 872 && eqb (length counters) 96 && parts_placed parts (part_total draft) (length room))) where
      placed : t ≡ room_placed formats schema sources x keep gaps parts plan counters room
      unfolding room_placed
      placed = k ∙ ap (λ z. eqb (length plan) 872 && eqb (length counters) 96 && parts_placed parts (part_total z) (length room)) q

      good : eqb (sources_ground formats schema x sources) 0 ≡ true
      good = eq-eqb (sources_ground formats schema x sources) 0 (sym e ∙ f)

      pub open_room : not t ≡ true → Answers (opening formats schema sources x keep gaps parts plan counters room) 14 plan counters room
      unfolding opening
      open_room l =
          rw (le-leb (length room) ceiling h, good, no placed l) (record { refusal = refl; plan = refl; counters = refl; room = refl })

      pub open_made : {r : ℕ} {words c bytes : List ℕ} → not t ≡ false
          → Answers (settled formats schema sources x keep gaps parts plan counters room (open_walk_of (lent draft parts sources x.lengths x.places x.body) (replicate 96 0))) r words c bytes
          → Answers (opening formats schema sources x keep gaps parts plan counters room) r words c bytes
      unfolding opening
      open_made {r} {words} {c} {bytes} l d =
          rw (le-leb (length room) ceiling h, good, yes placed l)
          (subst (λ z. Answers (settled formats schema sources x keep gaps parts plan counters room (open_walk_of (lent z parts sources x.lengths x.places x.body) (replicate 96 0))) r words c bytes) q d)

  -- the plan has a join's length, and so have the counters
  pub lengths_are : (b : Bool) {t : Bool} → t ≡ (eqb (length plan) 872 && eqb (length counters) 96 && b) → not t ≡ false → (length plan ≡ 872) × (length counters ≡ 96)
  lengths_are b k l =
      let p = and_left (eqb (length plan) 872 && eqb (length counters) 96) b (yes k l) in
      (eqb-true (length plan) 872 (and_left (eqb (length plan) 872) _ p), eqb-true (length counters) 96 (and_right (eqb (length plan) 872) _ p))

-- ---- the question

module _ (formats schema sources : List ℕ) (x : Tables) (keep gaps : Bool) (plan : List ℕ) {g : ℕ} (e : g ≡ sources_ground formats schema x sources) where
  pub ask_sources : (g ≡ 0 → ⊥) → Plans (asked formats schema sources x keep gaps plan) g plan
  unfolding asked
  ask_sources f = rw (ne_eqb (sources_ground formats schema x sources) 0 (λ z. f (e ∙ z))) (record { refusal = e; plan = refl })

  module _ (f : g ≡ 0) where
    pub ask_words : (length plan ≡ 872 → ⊥) → Plans (asked formats schema sources x keep gaps plan) 14 plan
    unfolding asked
    ask_words h = rw (eq-eqb (sources_ground formats schema x sources) 0 (sym e ∙ f), ne_eqb (length plan) 872 h) (record { refusal = refl; plan = refl })

    pub ask_made : {draft words : List ℕ} → length plan ≡ 872 → draft ≡ planned formats schema x sources keep gaps → words ≡ draft → Plans (asked formats schema sources x keep gaps plan) 0 words
    unfolding asked
    ask_made h q w = rw (eq-eqb (sources_ground formats schema x sources) 0 (sym e ∙ f), eq-eqb (length plan) 872 h) (record { refusal = refl; plan = w ∙ q })
