-- Ground 13 of an opening: each part holds what the counters need exactly where the parts hold the model's opening. Assumes nothing.
use mathlib.Core.Path.{◌≡◌, refl, sym, subst, ◌∙◌}
use mathlib.Core.Bool.{Bool, true, false, not, ◌&&◌, ◌||◌}
use mathlib.Core.List.{List}
use Prim.Native.Nat.{ℕ, zero, suc, ◌≤◌, ◌<◌}
use native.Mathlib.Decide.{dec_lt}
use native.Mathlib.Omega.{arith}
use lib.Dec.{eqb}
use borrow.Author.Tests.{le-leb, ne_eqb}
use Rattle.array_data.proofs.lent_tables.Laws.{and_left, and_right}
use Rattle.columnar.specs.Types.{Number, Plain, fixed, string, Ty, t_plain, t_view, t_list_view, t_list, t_sparse, t_dense, t_run_end, t_dictionary}
use Rattle.columnar.specs.Formed.{OffsetWidth, FormedPlain, Formed}
use Rattle.columnar.specs.Array.{ok, Obeys}
use Rattle.columnar.specs.Plain.{PlainBody, PlainRule}
use Rattle.columnar.specs.Dictionary.{Dictionary}
use Rattle.columnar.specs.Reading.{Column, Source}
use Rattle.columnar.specs.Test.{every}
use Rattle.walk.specs.State.{word, code_of, dictionary_of, end_of}
use Rattle.model.specs.Try.{done}
use Rattle.model.specs.Opening.{keeps, shared}
use Rattle.model.specs.Mutable.{Mutable}
use Rattle.model.specs.Transform.{Destination}
use Rattle.model.proofs.Joined.{Sound, Joined, joined}
use Rattle.model.proofs.Nodes.{PlainFine}
use Rattle.model.proofs.Start.{no_null_in, none_has}
use Rattle.refinement.specs.walk_is_model.Memory.{Memory}
use Rattle.refinement.specs.walk_is_model.Holds.{child_of, Worded, Holds}
use Rattle.refinement.proofs.walk_is_model.Frame.{field_of}
use Rattle.refinement.specs.log_in_room.Reach.{Free}
use Rattle.refinement.proofs.log_in_room.Found.{between_both}
use Rattle.plan.specs.parts.Parts.{nodes_of, copied, has_part, needed, size_of, part_holds, parts_hold, Used}
use Rattle.plan.proofs.parts.Placed.{used_holds}
use Rattle.plan.specs.Plan.{flag}
use Rattle.refinement.specs.orders.Order.{Lent}
use Rattle.refinement.specs.orders.Fits.{plain_buffers, fits_bits, fits_all, fits}
use Rattle.refinement.proofs.orders.Buffers.{part_copied, masks_code}
use Rattle.refinement.proofs.orders.Own.{Bounded, Own, whole_covers, whole_enough, own_of}
use Rattle.refinement.proofs.orders.Cover.{Laid, within, each_at, each_all, FineAt, covered}
use Rattle.refinement.proofs.orders.Enough.{every_all, only_if_lem, free_or, enough}
use Rattle.refinement.specs.opening.Kept.{Kept}
use Rattle.refinement.specs.opening.Entries.{ValuesLent, EntriesLent, Joins}
use Rattle.refinement.specs.opening.Fits.{joined_all, fits_joined, entries_fit, open_fits}

pub sound_fine : (p : Plain) (b : ℕ → Bool) (d : PlainBody p) (l : ℕ) → FormedPlain p → Sound p d l → PlainFine p b d l
sound_fine (fixed n) b d l f h = h
sound_fine (string _) b d l OffsetWidth.four h = h
sound_fine (string _) b d l OffsetWidth.eight h = h

is_not : (b : Bool) → not b ≡ true → b ≡ false
is_not true e = absurd (let z : ◌≡◌ {A = ℕ} 0 1 = cc e in omega arith)
is_not false e = refl

at_or_behind : {P : Type 0} (i h : ℕ) → i ≤ h → (h ≡ i → P) → (i < h → P) → P
at_or_behind {P} i h l f g = go (dec_lt i h)
  where
    go : Dec (i < h) → P
    go (yes y) = g y
    go (no y) = f (omega arith)

module _ (x : Lent) (laid : Laid x.plan) (c : List ℕ) (μ : Memory) (m : ℕ) where
  -- ---- one dictionary, whose keys are node i

  module _ (k : Number) (p : Plain) (i : ℕ) (ds : ℕ → Dictionary (PlainBody p)) (lent : ValuesLent x k p i m ds) (formed : FormedPlain p)
      (obey : (j : ℕ) → j < m → Obeys true (PlainRule p) (ds j).values) (keys : dictionary_of x.plan i ≡ 0 → ⊥) (word_is : word x.plan i 7 ≡ flag (not (shared m ds))) where
    worded : Worded x.plan 1 (t_plain p) (suc i)
    worded = (lent.small, omega (arith, lent.ends), lent.no_keys, lent.plain_is)

    -- its values have parts where it is joined
    copied_is : copied x.plan (suc i) ≡ not (shared m ds)
    unfolding copied
    copied_is = rw (ne_eqb (dictionary_of x.plan i) 0 keys, word_is) (go (shared m ds))
      where
        go : (b : Bool) → false || eqb (flag (not b)) 1 ≡ not b
        go true = refl
        go false = refl

    module _ (e : Mutable (PlainBody p)) (joined_is : joined_all p m ds ≡ done e) (held : Holds x.plan (t_plain p) (suc i) e c μ) (whole : copied x.plan (suc i) ≡ true) where
      entries : Joined p ds m e
      entries = joined p m ds obey m (omega arith) e joined_is

      own : Own x.plan x.parts c μ (suc i) (plain_buffers p e.«data»)
      own =
          own_of x.plan x.parts c μ 1 (t_plain p) (suc i) m (λ j. (ds j).values.body) (λ j. true) e.«data» e.len worded held.rows_are
          (sound_fine p (λ j. true) e.«data» e.len formed entries.sound) held.data_are

      abbrev bits_fit : Bool
      bits_fit = fits_bits x.plan x.parts (suc i) true e.bits e.len

      abbrev buffers_fit : Bool
      buffers_fit = fits_all x.plan x.parts (suc i) 0 (plain_buffers p e.«data»)

      values_covered : fits x.plan x.parts (t_plain p) (suc i) e ≡ true → (b : ℕ) → has_part x.plan (suc i) b ≡ true → Bounded x.plan x.parts c μ (suc i) b
      values_covered h =
          let g = and_left (bits_fit && buffers_fit) true h in
          whole_covers x.plan x.parts c μ (suc i) (plain_buffers p e.«data») own whole true (masks_code x.plan 1 (t_plain p) (suc i) worded) e.bits e.len held.rows_are held.bits_are
          entries.bits_are (and_left bits_fit buffers_fit g) (and_right bits_fit buffers_fit g)

      values_enough : ((b : ℕ) → has_part x.plan (suc i) b ≡ true → needed x.plan c (suc i) b ≤ size_of x.plan x.parts (suc i) b) → fits x.plan x.parts (t_plain p) (suc i) e ≡ true
      values_enough h =
          let r =
          whole_enough x.plan x.parts c μ (suc i) (plain_buffers p e.«data») own whole true (masks_code x.plan 1 (t_plain p) (suc i) worded) e.bits e.len held.rows_are held.bits_are h in
          rw (r.0, r.1)

  -- ---- every dictionary

  -- keys are fixed-width numbers
  key_low : (h : ℕ) → h < end_of x.plan 0 → (dictionary_of x.plan h ≡ 0 → ⊥) → code_of x.plan h ≤ 10
  key_low h l n = (between_both 1 10 (code_of x.plan h) (laid.tabled.keys_fixed h l n)).1

  -- the values behind the keys h
  abbrev Covered : ℕ → Type 0
  Covered h = (b : ℕ) → has_part x.plan (suc h) b ≡ true → Bounded x.plan x.parts c μ (suc h) b

  -- no keys at a node of another kind
  high : {P : Type 0} (h i : ℕ) → h ≡ i → h < end_of x.plan i → end_of x.plan i ≤ end_of x.plan 0 → (dictionary_of x.plan h ≡ 0 → ⊥) → (low : ℕ) → low ≤ code_of x.plan i → 10 < low → P
  high h i e s l n low q r =
      let z : code_of x.plan h ≤ 10 = key_low h (omega arith) n in
      let y : code_of x.plan i ≤ 10 = rw e at z in
      absurd (omega arith)

  dictionary_covered : (k : Number) (p : Plain) (i : ℕ) (ds : ℕ → Dictionary (PlainBody p)) → ValuesLent x k p i m ds → FormedPlain p → ((j : ℕ) → j < m → Obeys true (PlainRule p) (ds j).values)
      → (dictionary_of x.plan i ≡ 0 → ⊥) → word x.plan i 7 ≡ flag (not (shared m ds)) → Joins x.plan (t_dictionary k p) i m ds c μ → entries_fit x.plan x.parts (t_dictionary k p) i m ds ≡ true
      → Covered i
  dictionary_covered k p i ds lent formed obey keys word_is joins fit b has =
      let whole = part_copied x.plan (suc i) b has in
      let not_shared = is_not (shared m ds) (sym (copied_is k p i ds lent formed obey keys word_is) ∙ whole) in
      let j = joins not_shared in
      let held_in : fits x.plan x.parts (t_plain p) (suc i) j.0 ≡ true = rw (not_shared, j.1) at fit in
      values_covered k p i ds lent formed obey keys word_is j.0 j.1 j.2 whole held_in b has

  dictionary_enough : (k : Number) (p : Plain) (i : ℕ) (ds : ℕ → Dictionary (PlainBody p)) → ValuesLent x k p i m ds → FormedPlain p → ((j : ℕ) → j < m → Obeys true (PlainRule p) (ds j).values)
      → (dictionary_of x.plan i ≡ 0 → ⊥) → word x.plan i 7 ≡ flag (not (shared m ds)) → Joins x.plan (t_dictionary k p) i m ds c μ
      → ((b : ℕ) → has_part x.plan (suc i) b ≡ true → needed x.plan c (suc i) b ≤ size_of x.plan x.parts (suc i) b) → entries_fit x.plan x.parts (t_dictionary k p) i m ds ≡ true
  dictionary_enough k p i ds lent formed obey keys word_is joins enough-in = go (shared m ds) refl
    where
      go : (b : Bool) → shared m ds ≡ b → b || fits_joined x.plan x.parts p (suc i) (joined_all p m ds) ≡ true
      go true e = refl
      go false e =
          let j = joins e in
          let whole : copied x.plan (suc i) ≡ true = copied_is k p i ds lent formed obey keys word_is ∙ rw e in
          rw j.1 (values_enough k p i ds lent formed obey keys word_is j.0 j.1 j.2 whole enough-in)

  entries_covered : (k : ℕ) (t : Ty) (i : ℕ) (u : Bool) (ss : ℕ → Column t) → Worded x.plan k t i → Formed t → end_of x.plan i ≤ end_of x.plan 0 → ((j : ℕ) → j < m → Source t (ss j))
      → EntriesLent x t i m (λ j. (ss j).body) → Kept x.plan m t i u (λ j. (ss j).body) → Joins x.plan t i m (λ j. (ss j).body) c μ → entries_fit x.plan x.parts t i m (λ j. (ss j).body) ≡ true
      → (h : ℕ) → i ≤ h → h < end_of x.plan i → (dictionary_of x.plan h ≡ 0 → ⊥) → Covered h
  entries_covered (suc k) (t_plain (fixed d)) i u ss w o l g a q r e h p s n =
      let z = between_both 1 10 (code_of x.plan i) w.3.0 in
      let y = laid.plain_ends i (omega (arith, w.1)) (omega (arith, z.1)) w.2 in
      let v : h ≡ i = omega arith in
      absurd (n (subst (λ b. dictionary_of x.plan b ≡ 0) (sym v) w.2))
  entries_covered (suc k) (t_plain (string v)) i u ss w o l g a q r e h p s n =
      let z = between_both 11 14 (code_of x.plan i) w.3.0 in
      let y = laid.plain_ends i (omega (arith, w.1)) (omega (arith, z.1)) w.2 in
      let v : h ≡ i = omega arith in
      absurd (n (subst (λ b. dictionary_of x.plan b ≡ 0) (sym v) w.2))
  entries_covered (suc k) t_view i u ss w o l g a q r e h p s n =
      let y = laid.view_ends i (omega (arith, w.1)) w.2 in
      let v : h ≡ i = omega arith in
      high h i v s l n 15 (between_both 15 16 (code_of x.plan i) w.2).0 (omega arith)
  entries_covered (suc k) (t_list_view v t) i u ss w o l g a q r e h p s n =
      let z : end_of x.plan i ≡ end_of x.plan (suc i) = w.1 in
      at_or_behind i h p (λ y. high h i y s l n 17 (between_both 17 18 (code_of x.plan i) w.2).0 (omega arith))
      (λ y. entries_covered k t (suc i) _ (λ j. (ss j).body.child) w.4 o.1 (omega arith) (λ j d. (g j d).slots.child_rule) a q.1 r e h (omega arith) (omega arith) n)
  entries_covered (suc k) (t_list v t) i u ss w o l g a q r e h p s n =
      let z : end_of x.plan i ≡ end_of x.plan (suc i) = w.1 in
      at_or_behind i h p (λ y. high h i y s l n 19 (between_both 19 20 (code_of x.plan i) w.2).0 (omega arith))
      (λ y. entries_covered k t (suc i) _ (λ j. (ss j).body.child) w.4 o.1 (omega arith) (λ j d. (g j d).slots.child_rule) a q.1 r e h (omega arith) (omega arith) n)
  entries_covered (suc k) (t_sparse ids nullable f) i u ss w o l g a q r e h p s n =
      at_or_behind i h p (λ y. high h i y s l n 21 (omega (arith, w.1)) (omega arith))
      (λ y. let z = within x.plan (λ z. Worded x.plan k (f z)) nullable (end_of x.plan i) ids (suc i) 32 w.4 o.0 (omega (arith, w.2)) h y s in
      let v = field_of x.plan (λ z. Worded x.plan k (f z)) nullable (end_of x.plan i) ids (suc i) 32 z.id w.4 (omega (arith, w.2)) z.member in
      entries_covered k (f z.id) (child_of x.plan i z.id) _ (λ j. (ss j).body.children z.id) v.is_kid (o.1 z.id z.member) (omega (arith, v.ends)) (λ j d. (g j d).slots.child_rule z.id z.member)
      (a z.id z.member) (q z.id z.member).1 (r z.id z.member) (each_at _ ids e z.id z.member) h z.from z.to n)
  entries_covered (suc k) (t_dense ids nullable f) i u ss w o l g a q r e h p s n =
      at_or_behind i h p (λ y. high h i y s l n 22 (omega (arith, w.1)) (omega arith))
      (λ y. let z = within x.plan (λ z. Worded x.plan k (f z)) nullable (end_of x.plan i) ids (suc i) 32 w.4 o.0 (omega (arith, w.2)) h y s in
      let v = field_of x.plan (λ z. Worded x.plan k (f z)) nullable (end_of x.plan i) ids (suc i) 32 z.id w.4 (omega (arith, w.2)) z.member in
      entries_covered k (f z.id) (child_of x.plan i z.id) _ (λ j. (ss j).body.children z.id) v.is_kid (o.1 z.id z.member) (omega (arith, v.ends)) (λ j d. (g j d).slots.child_rule z.id z.member)
      (a z.id z.member) (q z.id z.member).1 (r z.id z.member) (each_at _ ids e z.id z.member) h z.from z.to n)
  entries_covered (suc k) (t_run_end v t) i u ss w o l g a q r e h p s n =
      let z : end_of x.plan i ≡ end_of x.plan (suc (suc i)) = w.1 in
      at_or_behind i h p (λ y. high h i y s l n 23 (omega (arith, w.2)) (omega arith))
      (λ y. at_or_behind (suc i) h y
      (λ d. absurd (n (subst (λ b. dictionary_of x.plan b ≡ 0) (sym d) (laid.tabled.ends_plain i (omega arith) w.2))))
      (λ d. entries_covered k t (suc (suc i)) _ (λ j. (ss j).body.values) w.4 o.1 (omega arith) (λ j d. (g j d).slots.child_rule) a q.2 r e h d (omega arith) n))
  entries_covered (suc k) (t_dictionary v t) i u ss w o l g a q r e h p s n =
      let z = laid.tabled.keys_end i (omega (arith, w.1)) w.2 in
      at_or_behind i h p
      (λ y. subst Covered (sym y) (dictionary_covered v t i (λ j. (ss j).body) a o.1 (λ j d. (g j d).slots.child_rule) w.2 q.1 r e))
      (λ y. let d : h ≡ suc i = omega arith in
      absurd (n (subst (λ b. dictionary_of x.plan b ≡ 0) (sym d) a.no_keys)))
  entries_covered zero t i u ss w o l g a q r e h p s n = elim w [ ]

  entries_enough : (k : ℕ) (t : Ty) (i : ℕ) (u : Bool) (ss : ℕ → Column t) → Worded x.plan k t i → Formed t → end_of x.plan i ≤ end_of x.plan 0 → ((j : ℕ) → j < m → Source t (ss j))
      → EntriesLent x t i m (λ j. (ss j).body) → Kept x.plan m t i u (λ j. (ss j).body) → Joins x.plan t i m (λ j. (ss j).body) c μ
      → ((j b : ℕ) → j < end_of x.plan 0 → has_part x.plan j b ≡ true → needed x.plan c j b ≤ size_of x.plan x.parts j b)
      → entries_fit x.plan x.parts t i m (λ j. (ss j).body) ≡ true
  entries_enough (suc k) (t_plain p) i u ss w o l g a q r e = refl
  entries_enough (suc k) t_view i u ss w o l g a q r e = refl
  entries_enough (suc k) (t_list_view v t) i u ss w o l g a q r e =
      let z : end_of x.plan i ≡ end_of x.plan (suc i) = w.1 in
      entries_enough k t (suc i) _ (λ j. (ss j).body.child) w.4 o.1 (omega arith) (λ j d. (g j d).slots.child_rule) a q.1 r e
  entries_enough (suc k) (t_list v t) i u ss w o l g a q r e =
      let z : end_of x.plan i ≡ end_of x.plan (suc i) = w.1 in
      entries_enough k t (suc i) _ (λ j. (ss j).body.child) w.4 o.1 (omega arith) (λ j d. (g j d).slots.child_rule) a q.1 r e
  entries_enough (suc k) (t_sparse ids nullable f) i u ss w o l g a q r e =
      each_all _ ids
      (λ c h. let v = field_of x.plan (λ z. Worded x.plan k (f z)) nullable (end_of x.plan i) ids (suc i) 32 c w.4 (omega (arith, w.2)) h in
      entries_enough k (f c) (child_of x.plan i c) _ (λ j. (ss j).body.children c) v.is_kid (o.1 c h) (omega (arith, v.ends)) (λ j d. (g j d).slots.child_rule c h) (a c h) (q c h).1 (r c h) e)
  entries_enough (suc k) (t_dense ids nullable f) i u ss w o l g a q r e =
      each_all _ ids
      (λ c h. let v = field_of x.plan (λ z. Worded x.plan k (f z)) nullable (end_of x.plan i) ids (suc i) 32 c w.4 (omega (arith, w.2)) h in
      entries_enough k (f c) (child_of x.plan i c) _ (λ j. (ss j).body.children c) v.is_kid (o.1 c h) (omega (arith, v.ends)) (λ j d. (g j d).slots.child_rule c h) (a c h) (q c h).1 (r c h) e)
  entries_enough (suc k) (t_run_end v t) i u ss w o l g a q r e =
      let z : end_of x.plan i ≡ end_of x.plan (suc (suc i)) = w.1 in
      entries_enough k t (suc (suc i)) _ (λ j. (ss j).body.values) w.4 o.1 (omega arith) (λ j d. (g j d).slots.child_rule) a q.2 r e
  entries_enough (suc k) (t_dictionary v t) i u ss w o l g a q r e =
      let z = laid.tabled.keys_end i (omega (arith, w.1)) w.2 in
      dictionary_enough v t i (λ j. (ss j).body) a o.1 (λ j d. (g j d).slots.child_rule) w.2 q.1 r (λ b. e (suc i) b (omega arith))
  entries_enough zero t i u ss w o l g a q r e = elim w [ ]

  -- ---- GROUND 13 IS THE MODEL'S

  module _ (all : nodes_of x.plan ≡ end_of x.plan 0) (t : Ty) (u : Bool) (ss : ℕ → Column t) (d : Destination t) (w : Worded x.plan 8 t 0) (o : Formed t)
      (fine : FineAt x.plan x.parts laid c μ m t ss d) (held : Holds x.plan t 0 d c μ) (obey : (j : ℕ) → j < m → Source t (ss j)) (lent : EntriesLent x t 0 m (λ j. (ss j).body))
      (kept : Kept x.plan m t 0 u (λ j. (ss j).body)) (joins : Joins x.plan t 0 m (λ j. (ss j).body) c μ) where
    abbrev root_fits : Bool
    root_fits = fits x.plan x.parts t 0 d

    abbrev values_fit : Bool
    values_fit = entries_fit x.plan x.parts t 0 m (λ j. (ss j).body)

    -- where the parts hold the opening, each holds its bytes: first those of dictionaries' values
    pub values_bounded : open_fits x.plan x.parts t 0 m (λ j. (ss j).body) d ≡ true → (i b : ℕ) → Used x.plan i b → (Free x.plan i → ⊥) → Bounded x.plan x.parts c μ i b
    values_bounded e zero b used n = absurd (n tt)
    values_bounded e (suc h) b used n =
        entries_covered 8 t 0 u ss w o (omega arith) obey lent kept joins (and_right root_fits values_fit e) h (omega arith) (omega (arith, used.node)) n b used.part

    pub all_bounded : open_fits x.plan x.parts t 0 m (λ j. (ss j).body) d ≡ true → (i b : ℕ) → Used x.plan i b → Bounded x.plan x.parts c μ i b
    all_bounded e i b used = go (free_or x.plan i)
      where
        go : Dec (Free x.plan i) → Bounded x.plan x.parts c μ i b
        go (yes y) = covered x.plan x.parts laid c μ m 8 t 0 ss d w o (omega arith) fine held (and_left root_fits values_fit e) i b (omega arith) (omega (arith, used.node)) y used.part
        go (no y) = values_bounded e i b used y

    hold_by : open_fits x.plan x.parts t 0 m (λ j. (ss j).body) d ≡ true → parts_hold x.plan c x.parts ≡ true
    unfolding parts_hold part_holds
    hold_by e =
        every_all (λ i. every (λ b. part_holds x.plan c x.parts i b) 3) (nodes_of x.plan)
        (λ i l. every_all (λ b. part_holds x.plan c x.parts i b) 3 (λ b q. only_if_lem (has_part x.plan i b) (λ g. le-leb _ _ (all_bounded e i b (record { node = l; part = g })).needs)))

    fit_by : parts_hold x.plan c x.parts ≡ true → open_fits x.plan x.parts t 0 m (λ j. (ss j).body) d ≡ true
    fit_by e =
        let f = enough x.plan x.parts laid c μ m 8 t 0 ss d w tt (omega arith) fine held (λ j b p q free has. used_holds x.plan c x.parts e j b (record { node = omega arith; part = has })) in
        let g = entries_enough 8 t 0 u ss w o (omega arith) obey lent kept joins (λ j b l has. used_holds x.plan c x.parts e j b (record { node = omega arith; part = has })) in
        rw (f, g)

    pub open_same : parts_hold x.plan c x.parts ≡ open_fits x.plan x.parts t 0 m (λ j. (ss j).body) d
    open_same = go (parts_hold x.plan c x.parts) refl (open_fits x.plan x.parts t 0 m (λ j. (ss j).body) d) refl
      where
        go : (a : Bool) → parts_hold x.plan c x.parts ≡ a → (b : Bool) → open_fits x.plan x.parts t 0 m (λ j. (ss j).body) d ≡ b
            → parts_hold x.plan c x.parts ≡ open_fits x.plan x.parts t 0 m (λ j. (ss j).body) d
        go true p b q = p ∙ sym (fit_by p)
        go false p true q = hold_by q ∙ sym q
        go false p false q = p ∙ sym q
