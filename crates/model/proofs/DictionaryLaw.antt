-- Dictionaries are lawful: a key finds the stored bytes of its entry in the kept or the joined dictionary. Assumes nothing.
use mathlib.Core.Path.{◌≡◌, refl, sym, ap, ◌∙◌, subst}
use mathlib.Core.Bool.{Bool, true, false, cond, ◌&&◌}
use mathlib.Core.List.{List, ◌++◌}
use Prim.Native.Nat.{ℕ, zero, suc, ◌+◌, ◌-◌, ◌*◌, ◌^◌, ◌≤◌, ◌<◌}
use native.Mathlib.Nat.{zero-add, add_comm}
use native.Mathlib.Decide.{dec_lt}
use native.Mathlib.Omega.{arith}
use lib.ListN.{length, replicate, get_or, length-append, length-replicate}
use lib.Dec.{T, ltb, eqb}
use borrow.Author.Tests.{ltb-true, eqb-true}
use Rattle.number.specs.Number.{encode}
use Rattle.columnar.specs.Row.{Row, null, seg}
use Rattle.columnar.specs.Types.{Number, int, uint, w1, w2, w4, w8, f32, f64, width, limit, Plain, t_dictionary}
use Rattle.columnar.specs.Array.{Array, item, ok, read_with, Obeys}
use Rattle.columnar.specs.Entries.{encodes}
use Rattle.columnar.specs.Plain.{PlainBody, PlainRule}
use Rattle.columnar.specs.Dictionary.{Dictionary, entry_at, dictionary_at, DictionaryRule}
use Rattle.columnar.proofs.Items.{item_left, item_right, item_encodes_lt, length_encodes}
use Rattle.model.specs.Try.{Try, done, then, guard, after}
use Rattle.columnar.specs.Test.{same as same_list}
use Rattle.model.specs.Opening.{present, keeps, ptr_eq, shared, entries_before, start_of_keys, all_keys_fit, entries_fit}
use Rattle.model.specs.Mutable.{Mutable, start_node, freeze_node}
use Rattle.model.specs.Primitive.{plain_start}
use Rattle.model.specs.Transform.{joined_from, the_dictionary, open_data}
use Rattle.model.proofs.Agree.{both}
use Rattle.model.proofs.Law.{Put, Law}
use Rattle.model.proofs.Bits.{length_seg, get_d_seg}
use Rattle.model.proofs.Nodes.{KeysFine, dictionary_kind}
use Rattle.model.proofs.Owed.{SameEntries}
use Rattle.model.proofs.Present.{present_obeys, present_read}
use Rattle.model.proofs.Pieces.{below_add}
use Rattle.model.proofs.Joined.{done_is, then_done, Joined, joined, joined_reads, joined_obeys, entries_before_lem}
use Rattle.model.proofs.Names.{new_keys, keys_fit}

and_left : (a b : Bool) → (a && b) ≡ true → a ≡ true
and_left true b e = refl
and_left false b e = e

and_right : (a b : Bool) → (a && b) ≡ true → b ≡ true
and_right true b e = e
and_right false b e = absurd (let z : ◌≡◌ {A = ℕ} 0 1 = cc in omega arith)

guard_rest : {A : Type 0} (b : Bool) (g : ℕ) (t : Try A) (x : A) → guard b g t ≡ done x → t ≡ done x
guard_rest true g t x e = e
guard_rest false g t x e = absurd (let z : ◌≡◌ {A = ℕ} 0 1 = cc in omega arith)

guard_true : {A : Type 0} (b : Bool) (g : ℕ) (t : Try A) (x : A) → guard b g t ≡ done x → b ≡ true
guard_true true g t x e = refl
guard_true false g t x e = absurd (let z : ◌≡◌ {A = ℕ} 0 1 = cc in omega arith)

-- ---- the dictionary of a join

-- entry e of source j stands in v at its start, holds the same bytes, and its key fits
pub record Whole (k : Number) (p : Plain) (m : ℕ) (ds : ℕ → Dictionary (PlainBody p)) (v : Array (PlainBody p)) : Type 0 where
  pub obeyed : 0 < m → Obeys true (PlainRule p) v
  pub known : (j : ℕ) → j < m → (e : ℕ) → e < (ds j).values.len → start_of_keys m ds j + e < v.len
  pub same : (j : ℕ) → j < m → (e : ℕ) → e < (ds j).values.len
      → read_with (entry_at p) v (start_of_keys m ds j + e) ≡ read_with (entry_at p) (ds j).values e
  pub small : (j : ℕ) → j < m → (e : ℕ) → e < (ds j).values.len → start_of_keys m ds j + e < limit k

-- ground 8 does not stand
module _ (k : Number) {P : Type 0} (m : ℕ) (ds : ℕ → Dictionary P) where
  keys_fit_lem : (n : ℕ) → all_keys_fit k m n ds ≡ true → (j : ℕ) → j < n → keys_fit k m ds j ≡ true
  keys_fit_lem zero e j q = absurd (omega arith)
  keys_fit_lem (suc n) e j q = go (dec_lt j n) (keys_fit_lem n (and_left (all_keys_fit k m n ds) (keys_fit k m ds n) e) j)
    where
      go : Dec (j < n) → (j < n → keys_fit k m ds j ≡ true) → keys_fit k m ds j ≡ true
      go (yes r) f = f r
      go (no r) f = let z : j ≡ n = omega arith in rw z (and_right (all_keys_fit k m n ds) (keys_fit k m ds n) e)

  key_small : (j e : ℕ) → keys_fit k m ds j ≡ true → e < (ds j).values.len → start_of_keys m ds j + e < limit k
  key_small j e h q =
      let z : start_of_keys m ds j + (ds j).values.len - 1 < limit k = ltb-true _ _ (and_left (ltb (start_of_keys m ds j + (ds j).values.len - 1) (limit k)) (ltb (start_of_keys m ds j) (limit k)) h) in
      omega arith

  -- neighbours share
  neighbours : (n : ℕ) → shared n ds ≡ true → (j : ℕ) → suc j < n → ptr_eq (ds j) (ds (suc j)) ≡ true
  neighbours zero e j q = absurd (omega arith)
  neighbours (suc zero) e j q = absurd (omega arith)
  neighbours (suc (suc n)) e j q = go (dec_lt j n) (neighbours (suc n) (and_left (shared (suc n) ds) (ptr_eq (ds n) (ds (suc n))) e) j)
    where
      go : Dec (j < n) → (suc j < suc n → ptr_eq (ds j) (ds (suc j)) ≡ true) → ptr_eq (ds j) (ds (suc j)) ≡ true
      go (yes r) f = f (omega arith)
      go (no r) f = let z : j ≡ n = omega arith in rw z (and_right (shared (suc n) ds) (ptr_eq (ds n) (ds (suc n))) e)

  same_len : (d e : Dictionary P) → ptr_eq d e ≡ true → d.values.len ≡ e.values.len
  same_len d e h =
      let more = same_list d.starts e.starts in
      eqb-true d.values.len e.values.len
      (and_right (eqb d.values.off e.values.off) (eqb d.values.len e.values.len) (and_left (eqb d.values.off e.values.off && eqb d.values.len e.values.len) more h))

  start_shared : (j : ℕ) → shared m ds ≡ true → start_of_keys m ds j ≡ 0
  start_shared j e = ap (λ b. cond b 0 (entries_before ds j)) e

  start_joined : (j : ℕ) → shared m ds ≡ false → start_of_keys m ds j ≡ entries_before ds j
  start_joined j e = ap (λ b. cond b 0 (entries_before ds j)) e

module _ (k : Number) (p : Plain) (m : ℕ) (ds : ℕ → Dictionary (PlainBody p)) (g : (j : ℕ) → j < m → Obeys true (PlainRule p) (ds j).values) (fit : all_keys_fit k m m ds ≡ true) where
  -- source 0's dictionary has what source j's has
  record AsFirst (j : ℕ) : Type 0 where
    as_long : (ds j).values.len ≡ (ds 0).values.len
    as_stored : (e : ℕ) → e < (ds j).values.len → read_with (entry_at p) (ds 0).values e ≡ read_with (entry_at p) (ds j).values e

  as_first : shared m ds ≡ true → SameEntries p m ds → (j : ℕ) → j < m → AsFirst j
  as_first s h zero q = record { as_long = refl; as_stored = λ e t. refl }
  as_first s h (suc j) q =
      let f = as_first s h j (omega arith) in
      let n = neighbours k m ds m s j q in
      let l = same_len k m ds (ds j) (ds (suc j)) n in
      record {
        as_long = sym l ∙ f.as_long;
        as_stored = λ e t. f.as_stored e (omega arith) ∙ h j (suc j) (omega arith) q n e (omega arith);
      }

  small_keys : (j : ℕ) → j < m → (e : ℕ) → e < (ds j).values.len → start_of_keys m ds j + e < limit k
  small_keys j q e t = key_small k m ds j e (keys_fit_lem k m ds m fit j q) t

  whole_shared : shared m ds ≡ true → SameEntries p m ds → Whole k p m ds (present (ds 0).values)
  whole_shared s h =
      record {
        obeyed = λ q. present_obeys p (ds 0).values (g 0 q);
        known = λ j q e t. rw (start_shared k m ds j s, zero-add, ← (as_first s h j q).as_long) t;
        same = λ j q e t. rw (start_shared k m ds j s, zero-add) (present_read (ds 0).values (entry_at p) e (rw (← (as_first s h j q).as_long) t) ∙ (as_first s h j q).as_stored e t);
        small = small_keys;
      }

  whole_joined : shared m ds ≡ false → (d : Mutable (PlainBody p)) → Joined p ds m d → Whole k p m ds (freeze_node true (λ b. b) d)
  whole_joined s d h =
      record {
        obeyed = λ q. joined_obeys p ds m d h;
        known = λ j q e t. rw (start_joined k m ds j s, h.len_is) (omega (arith, entries_before_lem p ds j m q));
        same = λ j q e t. rw (start_joined k m ds j s) (joined_reads p ds m d h j q e t);
        small = small_keys;
      }

  whole_is : SameEntries p m ds → (v : Array (PlainBody p)) → the_dictionary p m ds ≡ done v → Whole k p m ds v
  whole_is h v e = go (shared m ds) refl e
    where
      keep : Bool
      keep = keeps false m (λ i. (ds i).values)

      begin : Mutable (PlainBody p)
      begin = start_node keep (plain_start p)

      go : (b : Bool) → shared m ds ≡ b
          → elim b [
            | true ↦ done (present (ds 0).values)
            | false ↦ then (joined_from p (λ i. (ds i).values) m begin) (λ e. done (freeze_node true (λ b. b) e))
          ] ≡ done v
          → Whole k p m ds v
      go true s e = subst (Whole k p m ds) (done_is e) (whole_shared s h)
      go false s e =
          let r = then_done (joined_from p (λ i. (ds i).values) m begin) (λ e. done (freeze_node true (λ b. b) e)) v e in
          subst (Whole k p m ds) (done_is r.1.1) (whole_joined s r.0 (joined p m ds g m (omega arith) r.0 r.1.0))

pub whole : (k : Number) (p : Plain) (m : ℕ) (ds : ℕ → Dictionary (PlainBody p)) → ((j : ℕ) → j < m → Obeys true (PlainRule p) (ds j).values)
    → open_data (t_dictionary k p) m ds ≡ done tt → SameEntries p m ds → Whole k p m ds (after (the_dictionary p m ds) (ds 0).values)
whole k p m ds g o h =
    let r = then_done (the_dictionary p m ds) (λ v. guard (all_keys_fit k m m ds) 8 (done tt)) tt (guard_rest (entries_fit m ds) 6 _ tt o) in
    subst (λ t. Whole k p m ds (after t (ds 0).values)) (sym r.1.0) (whole_is k p m ds g (guard_true (all_keys_fit k m m ds) 8 (done tt) tt r.1.1) h r.0 r.1.0)

-- ---- keys

limit_fits : (k : Number) → limit k ≤ 256 ^ width k
limit_fits (int w1) = omega arith
limit_fits (uint w1) = omega arith
limit_fits (int w2) = omega arith
limit_fits (uint w2) = omega arith
limit_fits (int w4) = omega arith
limit_fits (uint w4) = omega arith
limit_fits (int w8) = omega arith
limit_fits (uint w8) = omega arith
limit_fits f32 = omega arith
limit_fits f64 = omega arith

new_keys_lem : (w base : ℕ) (s : List ℕ) (a n : ℕ) → new_keys w base s a n ≡ encodes w (seg (λ i. item w s i + base) a n)
new_keys_lem w base s a zero = refl
new_keys_lem w base s a (suc n) = ap (encode w (item w s a + base) ++◌) (new_keys_lem w base s (suc a) n)

length_new_keys : (w base : ℕ) (s : List ℕ) (a n : ℕ) → length (new_keys w base s a n) ≡ n * w
length_new_keys w base s a n = rw (new_keys_lem w base s a n, length_encodes, length_seg)

-- a key that fits is not wrapped
new_key_lem : (w base : ℕ) (s : List ℕ) (a n i : ℕ) → i < n → item w s (a + i) + base < 256 ^ w → item w (new_keys w base s a n) i ≡ item w s (a + i) + base
new_key_lem w base s a n i q h =
    let f : ℕ → ℕ = λ i. item w s i + base in
    let e : get_or (seg f a n) i 0 ≡ f (a + i) = get_d_seg f a n i 0 q in
    rw (new_keys_lem w base s a n) (item_encodes_lt w (seg f a n) i (rw length_seg q) (rw e h) ∙ e)

-- keys put behind d
module _ (k : Number) (m entries : ℕ) (b : ℕ → Bool) (d : List ℕ) (l : ℕ) (h : KeysFine k m entries b d l) (n : ℕ) (new : List ℕ) (long : length new ≡ n * width k) where
  old_key : (i : ℕ) → i < l → item (width k) (d ++ new) i ≡ item (width k) d i
  old_key i q = item_left (width k) d new i l (omega (arith, h.keys_are)) q

  put_key : (i : ℕ) → item (width k) (d ++ new) (l + i) ≡ item (width k) new i
  put_key i = item_right (width k) d new l i h.keys_are

  keys_fine : (b' : ℕ → Bool) → ((i : ℕ) → i < l → b' i ≡ b i) → ((i : ℕ) → i < n → T (b' (l + i)) → (item (width k) new i < limit k) × (item (width k) new i < entries))
      → KeysFine k m entries b' (d ++ new) (l + n)
  keys_fine b' o g =
      record {
        sources = h.sources;
        keys_are = rw (length-append, long, h.keys_are) (omega arith);
        positive = below_add (λ i. T (b' i) → item (width k) (d ++ new) i < limit k) l n
            (λ i q t. rw (old_key i q) (h.positive i q (rw (o i q) at t))) (λ i q t. rw (put_key i) (g i q t).0);
        within = below_add (λ i. T (b' i) → item (width k) (d ++ new) i < entries) l n
            (λ i q t. rw (old_key i q) (h.within i q (rw (o i q) at t))) (λ i q t. rw (put_key i) (g i q t).1);
      }

-- ---- the law

module _ (k : Number) (p : Plain) (m : ℕ) (xs : ℕ → Array (Dictionary (PlainBody p))) (g : (j : ℕ) → j < m → Obeys true (DictionaryRule k (Obeys true (PlainRule p))) (xs j))
    (v : Array (PlainBody p)) (h : Whole k p m (λ i. (xs i).body) v) where
  abbrev see : List ℕ → ℕ → Row
  see d i = read_with (entry_at p) v (item (width k) d i)

  abbrev PutKeys : (ℕ → Bool) → List ℕ → ℕ → ℕ → (ℕ → Bool) → (ℕ → Row) → List ℕ → Type 0
  PutKeys = Put see (KeysFine k m v.len) (λ d. Unit {0})

  abbrev start : ℕ → ℕ
  start j = start_of_keys m (λ i. (xs i).body) j

  abbrev key_of : ℕ → ℕ → ℕ
  key_of j i = item (width k) (xs j).body.keys i

  -- a valid key of source j names an entry
  key_within : (j i : ℕ) (q : j < m) → (xs j).off ≤ i → i < (xs j).off + (xs j).len → T (ok (xs j).valid i) → key_of j i < (xs j).body.values.len
  key_within j i q y z t =
      let e : (xs j).off + (i - (xs j).off) ≡ i = omega arith in
      rw e at ((g j q).slots.within (i - (xs j).off) (omega arith) (rw e t))

  keys_copied : (j a n l : ℕ) (b : ℕ → Bool) (d : List ℕ) → j < m → (xs j).off ≤ a → a + n ≤ (xs j).off + (xs j).len → KeysFine k m v.len b d l
      → PutKeys b d l n (λ i. ok (xs j).valid (a + i)) (λ i. dictionary_at k p (xs j).body (a + i)) (d ++ new_keys (width k) (start j) (xs j).body.keys a n)
  keys_copied j a n l b d q y z f =
      let new = new_keys (width k) (start j) (xs j).body.keys a n in
      let long = length_new_keys (width k) (start j) (xs j).body.keys a n in
      let inside : (i : ℕ) → i < n → T (ok (xs j).valid (a + i)) → key_of j (a + i) < (xs j).body.values.len = λ i r t. key_within j (a + i) q (omega arith) (omega arith) t in
      let key : (i : ℕ) → i < n → T (ok (xs j).valid (a + i)) → item (width k) new i ≡ start j + key_of j (a + i)
      = λ i r t. new_key_lem (width k) (start j) (xs j).body.keys a n i r (omega (arith, h.small j q (key_of j (a + i)) (inside i r t), limit_fits k)) ∙ add_comm (key_of j (a + i)) (start j) in
      record {
        ends = λ b' o e. keys_fine k m v.len b d l f n new long b' o
            (λ i r t.
            let u : T (ok (xs j).valid (a + i)) = rw (e i r) at t in
            rw (key i r u) (h.small j q (key_of j (a + i)) (inside i r u), h.known j q (key_of j (a + i)) (inside i r u)));
        old = λ i r. ap (read_with (entry_at p) v) (old_key k m v.len b d l f n new long i r);
        new = λ i r t.
            ap (read_with (entry_at p) v) (put_key k m v.len b d l f n new long i ∙ key i r t)
            ∙ h.same j q (key_of j (a + i)) (inside i r t);
        keeps = λ x. tt;
      }

  keys_filled : (n l : ℕ) (b : ℕ → Bool) (d : List ℕ) → KeysFine k m v.len b d l → PutKeys b d l n (λ i. false) (λ i. null) (d ++ replicate (n * width k) 0)
  keys_filled n l b d f =
      let w = length-replicate {A = ℕ} (n * width k) 0 in
      record {
        ends = λ b' o e. keys_fine k m v.len b d l f n (replicate (n * width k) 0) w b' o (λ i q t. absurd (rw (e i q) at t));
        old = λ i q. ap (read_with (entry_at p) v) (old_key k m v.len b d l f n (replicate (n * width k) 0) w i q);
        new = λ i q t. absurd t;
        keeps = λ x. tt;
      }

pub dictionary_law : (k : Number) (p : Plain) (m : ℕ) (xs : ℕ → Array (Dictionary (PlainBody p))) → ((j : ℕ) → j < m → Obeys true (DictionaryRule k (Obeys true (PlainRule p))) (xs j))
    → open_data (t_dictionary k p) m (λ i. (xs i).body) ≡ done tt → SameEntries p m (λ i. (xs i).body) → Law (dictionary_kind k p m (λ i. (xs i).body)) m xs
dictionary_law k p m xs g o same =
    let ds : ℕ → Dictionary (PlainBody p) = λ i. (xs i).body in
    let v : Array (PlainBody p) = after (the_dictionary p m ds) (ds 0).values in
    let h : Whole k p m ds v = whole k p m ds (λ j q. (g j q).slots.child_rule) o same in
    record {
      copies = λ j a n l b d q y z f. both _ (keys_copied k p m xs g v h j a n l b d q y z f);
      fills = λ n l b d x f. both _ (keys_filled k p m xs g v h (suc n) l b d f);
      obeys = λ l b d f.
          record {
            hold = rw (zero-add, f.keys_are) (omega arith);
            positive = λ i q t. rw zero-add (f.positive i q (rw zero-add at t));
            within = λ i q t. rw zero-add (f.within i q (rw zero-add at t));
            child_rule = h.obeyed f.sources;
          };
    }
