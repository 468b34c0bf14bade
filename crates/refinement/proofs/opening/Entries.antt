-- One dictionary at an opening: where it is joined, the walk joins it as the model does. Assumes nothing.
use mathlib.Core.Path.{◌≡◌, refl, sym, ap, ap₂, subst, ◌∙◌}
use mathlib.Core.Bool.{Bool, true, false, not, cond, ◌&&◌, ◌||◌, false≢true}
use mathlib.Core.List.{List}
use Prim.Native.Nat.{ℕ, zero, suc, ◌+◌, ◌*◌, ◌^◌, ◌≤◌, ◌<◌}
use native.Mathlib.Nat.{add-zero, add-suc, suc-add, zero-add, mul-suc}
use native.Mathlib.Omega.{arith}
use lib.ListN.{length}
use lib.Dec.{leb, eqb}
use borrow.Author.Tests.{ne_eqb, le-leb, lt-leb, leb-true, leb-false}
use Rattle.columnar.specs.Types.{Number, width, Plain, fixed, string, t_plain, t_dictionary, key_fits}
use Rattle.columnar.specs.Formed.{OffsetWidth, four, eight, FormedPlain}
use Rattle.columnar.specs.Array.{Array, Obeys}
use Rattle.columnar.specs.Plain.{PlainBody, StringRule, empty, full, PlainRule}
use Rattle.columnar.specs.Dictionary.{Dictionary}
use Rattle.columnar.specs.Test.{every}
use Rattle.model.specs.Try.{Try, done, stop, then, guard, steps_t}
use Rattle.model.specs.Opening.{present, keeps, shared, entries_before, entries_fit, start_of_keys, all_keys_fit}
use Rattle.model.specs.Mutable.{Mutable, start_node, extend_node, freeze_node}
use Rattle.model.specs.Primitive.{plain_extend, plain_start}
use Rattle.model.specs.Transform.{joined_from, open_data}
use Rattle.model.proofs.Joined.{entries_before_lem}
use Rattle.model.proofs.Law.{Fine}
use Rattle.model.proofs.Nodes.{kind_of}
use Rattle.model.proofs.Node.{node_copies}
use Rattle.model.proofs.Start.{start_plain}
use Rattle.model.proofs.Types.{law}
use Rattle.plan.specs.dictionaries.Sources.{capped}
use Rattle.walk.specs.State.{Join, word, dictionary_of, keeps_of, base_of, length_of, top}
use Rattle.walk.specs.Log.{need, next, each}
use Rattle.refinement.specs.walk_is_model.Memory.{Memory}
use Rattle.refinement.specs.walk_is_model.Holds.{flag, Holds}
use Rattle.refinement.specs.walk_is_model.Lent.{LentNode, LentPlain, Part}
use Rattle.refinement.proofs.walk_is_model.Goes.{Goes, goes_done, goes_map, goes_guard, goes_then, goes_quiet, quiet_done}
use Rattle.refinement.proofs.walk_is_model.Frame.{Kept, kept_refl, kept_then}
use Rattle.refinement.proofs.walk_is_model.Parts.{part_length, width_above}
use Rattle.refinement.proofs.walk_is_model.Types.{Opened, copies}
use Rattle.refinement.proofs.walk_is_model.UnionFields.{goes_known, goes_wrap, agrees_value}
use Rattle.plan.specs.parts.Parts.{copied}
use Rattle.refinement.specs.orders.Order.{Lent, join_of, source_count}
use Rattle.refinement.specs.opening.Open.{join_source, join_entries, entries_hold, key_holds, keys_hold, open_dictionary}
use Rattle.refinement.specs.opening.Entries.{ValuesLent}
use Rattle.refinement.proofs.opening.Zeros.{Fresh, values_copied}
use Rattle.refinement.proofs.opening.Starts.{start_values}

-- ---- the model's join, first source first

pub then_done : {A : Type 0} (t : Try A) → then t done ≡ t
then_done (done x) = refl
then_done (stop g) = refl

-- one step more at the end
steps_last : {A : Type 0} (f : ℕ → A → Try A) (a n : ℕ) (x : A) → steps_t f a (suc n) x ≡ then (steps_t f a n x) (f (a + n))
steps_last f a zero x = rw add-zero (then_done (f a x))
steps_last {A} f a (suc n) x = go (f a x) (λ y. steps_last f (suc a) n y)
  where
    go : (t : Try A) → ((y : A) → steps_t f (suc a) (suc n) y ≡ then (steps_t f (suc a) n y) (f (suc a + n)))
        → then t (steps_t f (suc a) (suc n)) ≡ then (then t (steps_t f (suc a) n)) (f (a + suc n))
    go (done y) h = rw (add-suc a n, ← suc-add a n) (h y)
    go (stop g) h = refl

-- the entries of source j behind those that are there
abbrev join_one : (p : Plain) → (ℕ → Array (PlainBody p)) → ℕ → Mutable (PlainBody p) → Try (Mutable (PlainBody p))
join_one p vs j e = extend_node true (λ ss i. plain_extend p (ss i)) vs j 0 (vs j).len e

joined_steps : (p : Plain) (vs : ℕ → Array (PlainBody p)) (n : ℕ) (d : Mutable (PlainBody p)) → joined_from p vs n d ≡ steps_t (join_one p vs) 0 n d
joined_steps p vs zero d = refl
joined_steps p vs (suc n) d = ap (λ t. then t (join_one p vs n)) (joined_steps p vs n d) ∙ sym (rw zero-add at (steps_last (join_one p vs) 0 n d))

-- ---- sizes: an entry has a byte at least

times_above : (a w : ℕ) → 0 < w → a ≤ a * w
times_above a zero h = absurd (omega arith)
times_above a (suc w) h = let e : a * suc w ≡ a * w + a = mul-suc a w in omega arith

offset_above : {w : ℕ} → OffsetWidth w → 0 < w
offset_above four = omega arith
offset_above eight = omega arith

part_below : (body : List ℕ) (at size : ℕ) (s : List ℕ) → Part body at size s → length s ≤ length body
part_below body at size s p = omega (arith, part_length p, p.inside)

entries_few : (x : Join) (p : Plain) (i : ℕ) (v : Array (PlainBody p)) → FormedPlain p → LentNode x i (LentPlain x p i) v → Obeys true (PlainRule p) v → v.len ≤ length x.body
entries_few x (fixed n) i v f h o =
    let a = times_above (v.off + v.len) (width n) (width_above n) in
    let b = part_below x.body _ _ v.body h.body_is in
    omega (arith, o.slots)
entries_few x (string w) i v f h o = go o.slots
  where
    go : StringRule w v.body v.off v.len → v.len ≤ length x.body
    go (empty e q) = omega arith
    go (full r) =
        let a = times_above (v.off + v.len + 1) w (offset_above f) in
        let b = part_below x.body _ _ v.body.offsets h.body_is.0 in
        omega (arith, r.hold)

-- ---- the walk

module _ (x : Lent) (m : ℕ) (few : m ≤ 16) (count_is : source_count x.plan ≡ m) (body_small : length x.body < 2 ^ 63)
    (k : Number) (p : Plain) (i : ℕ) (ss : ℕ → Dictionary (PlainBody p)) (h : ValuesLent x k p i m ss) (formed : FormedPlain p)
    (obey : (j : ℕ) → j < m → Obeys true (PlainRule p) (ss j).values) where
  abbrev vs : ℕ → Array (PlainBody p)
  vs j = (ss j).values

  abbrev begin : Mutable (PlainBody p)
  begin = start_node (keeps false m vs) (plain_start p)

  abbrev FineValues : Mutable (PlainBody p) → Type 0
  FineValues e = Fine (kind_of (t_plain p) m (λ j. (vs j).body)) m vs e

  opened : (s : ℕ) → s < m → Opened (join_of x s) 8 (t_plain p) (suc i) m vs
  opened s l =
      record {
        worded = (h.small, omega (arith, h.ends), h.no_keys, h.plain_is);
        formed = formed;
        known = l;
        lent = h.lent s l;
        based = tt;
        obey = obey;
        ready = tt;
      }

  -- the first r sources are joined; c and μ are what was before the first
  record JoinedTo (c : List ℕ) (μ : Memory) (r : ℕ) (e : Mutable (PlainBody p)) (c' : List ℕ) (μ' : Memory) : Type 0 where
    fine : FineValues e
    entries_are : e.len ≡ entries_before ss r
    holds : Holds x.plan (t_plain p) (suc i) e c' μ'
    kept : Kept (suc i) (suc (suc i)) c c' μ μ'
    long : length c' ≡ 96

  module _ (fit : entries_before ss m ≤ top) (c : List ℕ) (μ : Memory) where
    join_step : (r : ℕ) (e : Mutable (PlainBody p)) (c2 : List ℕ) (ν : Memory) → r < m → JoinedTo c μ r e c2 ν → Goes ν (JoinedTo c μ (suc r)) (join_one p vs r e) (join_source x (suc i) r c2)
    unfolding join_source
    join_step r e c2 ν l j =
        let lawful = law (t_plain p) m vs obey tt in
        let agreed = node_copies (kind_of (t_plain p) m (λ j. (vs j).body)) m vs lawful (λ j q. (obey j q).mask) r 0 (vs r).len e l (omega arith) j.fine in
        rw (h.lent r l).len_is
        (goes_map
        (λ d c3 ξ q.
        let g = agrees_value agreed d q.1 in
        record {
          fine = g.fine';
          entries_are = omega (arith, g.len_is, j.entries_are);
          holds = q.0.0;
          kept = kept_then j.kept (subst (λ z. Kept (suc i) z c2 c3 ν ξ) h.ends q.0.1);
          long = q.0.1.long ∙ j.long;
        })
        (goes_known (copies (join_of x r) m 8 (t_plain p) (suc i) vs (opened r l) 0 (vs r).len e c2 ν (omega arith) j.fine (omega (arith, j.entries_are, entries_before_lem p ss r m l, fit)) j.long j.holds)))

    join_all : (n r : ℕ) (e : Mutable (PlainBody p)) (c2 : List ℕ) (ν : Memory) → r + n ≡ m → JoinedTo c μ r e c2 ν
        → Goes ν (JoinedTo c μ m) (steps_t (join_one p vs) r n e) (each (join_source x (suc i)) n r c2)
    unfolding each
    join_all zero r e c2 ν q j = let z : r ≡ m = omega arith in goes_done e c2 (subst (λ s. JoinedTo c μ s e c2 ν) z j)
    join_all (suc n) r e c2 ν q j =
        goes_then (steps_t (join_one p vs) (suc r) n) (λ c3. each (join_source x (suc i)) n (suc r) c3) (join_step r e c2 ν (omega arith) j)
        (λ d c3 ξ w. join_all n (suc r) d c3 ξ (omega arith) w)

    module _ (long : length c ≡ 96) (keeps_is : keeps_of x.plan (suc i) ≡ flag (keeps false m vs)) where
      -- ALL SOURCES JOINED, from values with no entries
      entries_join : Fresh x.plan c μ (suc i) → Goes μ (JoinedTo c μ m) (joined_from p vs m begin) (join_entries x (suc i) c)
      unfolding join_entries
      entries_join f =
          rw (count_is, joined_steps p vs m begin)
          (join_all m 0 begin c μ (zero-add m)
          (record {
            fine = start_plain p false m vs formed;
            entries_are = refl;
            holds = start_values x.plan c μ p (suc i) (keeps false m vs) h.plain_is f keeps_is;
            kept = kept_refl (suc i) (suc (suc i)) c μ;
            long = long;
          }))

  -- ---- ground 8

  -- what the plan has for each source
  abbrev Starts : Type 0
  Starts = (s : ℕ) → s < m → base_of x.plan s i ≡ capped (start_of_keys m ss s)

  -- the entries up to source n, each start by the plan
  abbrev up_to : ℕ → Bool
  up_to n = every (λ s. leb (base_of x.plan s i + length_of (join_of x s) (suc i)) top) n

  all_few : shared m ss ≡ true → Starts → (n : ℕ) → n ≤ m → up_to n ≡ true
  all_few q b zero l = refl
  all_few q b (suc n) l =
      let e : start_of_keys m ss n ≡ 0 = ap (λ z. cond z 0 (entries_before ss n)) q in
      let f = entries_few (join_of x n) p (suc i) (vs n) formed (h.lent n (omega arith)) (obey n (omega arith)) in
      rw (all_few q b n (omega arith), le-leb (base_of x.plan n i + length_of (join_of x n) (suc i)) top (omega (arith, e, b n (omega arith), f, (h.lent n (omega arith)).len_is, body_small)))

  counted : shared m ss ≡ false → Starts → (n : ℕ) → n ≤ m → up_to n ≡ leb (entries_before ss n) top
  counted q b zero l = refl
  counted q b (suc n) l = go (leb (entries_before ss n) top) refl (counted q b n (omega arith))
    where
      e : start_of_keys m ss n ≡ entries_before ss n
      e = ap (λ z. cond z 0 (entries_before ss n)) q

      go : (t : Bool) → leb (entries_before ss n) top ≡ t → up_to n ≡ leb (entries_before ss n) top → up_to (suc n) ≡ leb (entries_before ss (suc n)) top
      go true z first =
          let y = leb-true (entries_before ss n) top z in
          let w : base_of x.plan n i + length_of (join_of x n) (suc i) ≡ entries_before ss (suc n) = omega (arith, e, b n (omega arith), (h.lent n (omega arith)).len_is) in
          rw (first, z, w)
      go false z first =
          let y = leb-false (entries_before ss n) top z in
          rw (first, z, lt-leb (entries_before ss (suc n)) top (omega arith))

  -- the walk's test of the entries is the model's
  entries_hold_lem : Starts → entries_hold x i ≡ entries_fit m ss
  unfolding entries_hold
  entries_hold_lem b = go (shared m ss) refl
    where
      go : (t : Bool) → shared m ss ≡ t → up_to (source_count x.plan) ≡ t || leb (entries_before ss m) top
      go true q = rw count_is (all_few q b m (omega arith))
      go false q = rw count_is (counted q b m (omega arith))

  -- so that no start is above 64 bits
  start_small : entries_fit m ss ≡ true → (s : ℕ) → s < m → start_of_keys m ss s ≤ top
  start_small f s l = go (shared m ss) f
    where
      go : (b : Bool) → b || leb (entries_before ss m) top ≡ true → cond b 0 (entries_before ss s) ≤ top
      go true g = omega arith
      go false g = omega (arith, leb-true (entries_before ss m) top g, entries_before_lem p ss s m l)

  keys_each : entries_fit m ss ≡ true → Starts → (n : ℕ) → n ≤ m → every (key_holds x k i) n ≡ all_keys_fit k m n ss
  keys_each f b zero l = refl
  keys_each f b (suc n) l =
      let e : base_of x.plan n i ≡ start_of_keys m ss n = omega (arith, b n (omega arith), start_small f n (omega arith)) in
      ap₂ ◌&&◌ (keys_each f b n (omega arith)) (ap₂ (key_fits k) e (h.lent n (omega arith)).len_is)

  -- the walk's test of the keys is the model's
  keys_hold_lem : entries_fit m ss ≡ true → Starts → keys_hold x i ≡ all_keys_fit k m m ss
  unfolding keys_hold
  keys_hold_lem f b = rw (h.whole_key, h.key_is, count_is) (keys_each f b m (omega arith))

  -- ---- a dictionary, kept or joined

  abbrev kept_or : Bool → Try (Array (PlainBody p))
  kept_or b = elim b [ true ↦ done (present (ss 0).values) | false ↦ then (joined_from p vs m begin) (λ e. done (freeze_node true (λ b. b) e)) ]

  abbrev IsJoined : List ℕ → Memory → Type 0
  IsJoined c μ = (e : Mutable (PlainBody p)) × (joined_from p vs m begin ≡ done e) × Holds x.plan (t_plain p) (suc i) e c μ

  -- what is left behind: only the node of the values may have changed
  abbrev pub Settled : List ℕ → Memory → Unit {0} → List ℕ → Memory → Type 0
  Settled c μ y c' μ' = (shared m ss ≡ false → IsJoined c' μ') × Kept (suc i) (suc (suc i)) c c' μ μ'

  -- A DICTIONARY AT AN OPENING goes with the model's
  pub dictionary_goes : (c : List ℕ) (μ : Memory) → length c ≡ 96 → keeps_of x.plan (suc i) ≡ flag (keeps false m vs)
      → (dictionary_of x.plan i ≡ 0 → ⊥) → word x.plan i 7 ≡ flag (not (shared m ss)) → Starts → (copied x.plan (suc i) ≡ true → Fresh x.plan c μ (suc i))
      → Goes μ (Settled c μ) (open_data (t_dictionary k p) m ss) (open_dictionary x i c)
  unfolding open_dictionary
  dictionary_goes c μ long keeps_is d w b f =
      rw (ne_eqb (dictionary_of x.plan i) 0 d, w)
      (goes_guard (entries_fit m ss) (entries_hold x i) 6 c (omega arith) (entries_hold_lem b) (λ t. go t (shared m ss) refl))
    where
      last : entries_fit m ss ≡ true → (c2 : List ℕ) (ν : Memory) → (shared m ss ≡ false → IsJoined c2 ν) → Kept (suc i) (suc (suc i)) c c2 μ ν
          → Goes ν (Settled c μ) (guard (all_keys_fit k m m ss) 8 (done tt))
          (need (keys_hold x i) 8 c2 (Rattle.walk.specs.Log.done c2))
      last t c2 ν j q = goes_guard (all_keys_fit k m m ss) (keys_hold x i) 8 c2 (omega arith) (keys_hold_lem t b) (λ t. goes_done tt c2 (j, q))

      counters : entries_fit m ss ≡ true → shared m ss ≡ false → entries_before ss m ≤ top
      counters t e = let g : false || leb (entries_before ss m) top ≡ true = rw e at t in leb-true _ _ g

      go : entries_fit m ss ≡ true → (b : Bool) → shared m ss ≡ b
          → Goes μ (Settled c μ) (then (kept_or b) (λ v. guard (all_keys_fit k m m ss) 8 (done tt)))
          (next (cond (eqb (flag (not b)) 0) (Rattle.walk.specs.Log.done c) (join_entries x (suc i) c)) (λ c2. need (keys_hold x i) 8 c2 (Rattle.walk.specs.Log.done c2)))
      go t true e =
          goes_quiet _ (quiet_done {Q = λ c2 ν. Kept (suc i) (suc (suc i)) c c2 μ ν} c (kept_refl (suc i) (suc (suc i)) c μ))
          (λ c2 ν q. last t c2 ν (λ n. absurd (false≢true (sym n ∙ e))) q)
      go t false e =
          goes_then _ _
          (goes_wrap {R = λ v c2 ν. IsJoined c2 ν × Kept (suc i) (suc (suc i)) c c2 μ ν} (freeze_node true (λ b. b)) (λ d c2 ν q. ((d, q.1, q.0.holds), q.0.kept))
          (goes_known (entries_join (counters t e) c μ long keeps_is (f (values_copied x.plan i (shared m ss) d w e)))))
          (λ v c2 ν q. last t c2 ν (λ n. q.0) q.1)
