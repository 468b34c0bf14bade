-- A dictionary column as the one source of a copy is lawful, however many entries its dictionary has: it is shared with itself, and a
-- valid key fits by the source's own rule. Assumes nothing.
use mathlib.Core.Path.{◌≡◌, refl, ap, ◌∙◌}
use mathlib.Core.Bool.{Bool, false}
use mathlib.Core.List.{List, ◌++◌}
use Prim.Native.Nat.{ℕ, zero, suc, ◌+◌, ◌-◌, ◌*◌, ◌^◌, ◌≤◌, ◌<◌}
use native.Mathlib.Nat.{zero-add, add-zero}
use native.Mathlib.Omega.{arith}
use lib.ListN.{length, replicate, get_or, length-append, length-replicate}
use lib.Dec.{T}
use Rattle.columnar.specs.Row.{Row, null, seg}
use Rattle.columnar.specs.Types.{Number, int, uint, w1, w2, w4, w8, f32, f64, width, limit, Plain, t_dictionary}
use Rattle.columnar.specs.Array.{Array, item, ok, read_with}
use Rattle.columnar.specs.Entries.{encodes}
use Rattle.columnar.specs.Plain.{PlainBody}
use Rattle.columnar.specs.Dictionary.{entry_at, dictionary_at}
use Rattle.columnar.specs.Reading.{Column, Source}
use Rattle.columnar.proofs.Items.{item_left, item_right, item_encodes_lt, length_encodes}
use Rattle.model.specs.Opening.{present}
use Rattle.model.proofs.Agree.{both}
use Rattle.model.proofs.Law.{Put, Law}
use Rattle.model.proofs.Bits.{length_seg, get_d_seg}
use Rattle.model.proofs.Nodes.{KeysFine, dictionary_kind}
use Rattle.model.proofs.Present.{present_obeys, present_read}
use Rattle.model.proofs.Pieces.{below_add}
use Rattle.model.proofs.Names.{new_keys}

-- a key that fits its format is a number of its bytes
pub limit_fits : (k : Number) → limit k ≤ 256 ^ width k
limit_fits (int w1) = omega arith
limit_fits (uint w1) = omega arith
limit_fits (int w2) = omega arith
limit_fits (uint w2) = omega arith
limit_fits (int w4) = omega arith
limit_fits (uint w4) = omega arith
limit_fits (int w8) = omega arith
limit_fits (uint w8) = omega arith
limit_fits f32 = omega arith
limit_fits f64 = omega arith

-- ---- keys copied from start 0

new_keys_lem : (w : ℕ) (s : List ℕ) (a n : ℕ) → new_keys w 0 s a n ≡ encodes w (seg (item w s) a n)
new_keys_lem w s a zero = refl
new_keys_lem w s a (suc n) = rw (add-zero, new_keys_lem w s (suc a) n)

keys_long : (w : ℕ) (s : List ℕ) (a n : ℕ) → length (new_keys w 0 s a n) ≡ n * w
keys_long w s a n = rw (new_keys_lem, length_encodes, length_seg)

new_key_lem : (w : ℕ) (s : List ℕ) (a n i : ℕ) → i < n → item w s (a + i) < 256 ^ w → item w (new_keys w 0 s a n) i ≡ item w s (a + i)
new_key_lem w s a n i q h =
    let e : get_or (seg (item w s) a n) i 0 ≡ item w s (a + i) = get_d_seg (item w s) a n i 0 q in
    rw new_keys_lem (item_encodes_lt w (seg (item w s) a n) i (rw length_seg q) (rw e h) ∙ e)

-- ---- keys put behind d, into a dictionary of these entries

module _ (k : Number) (entries : ℕ) (b : ℕ → Bool) (d : List ℕ) (l : ℕ) (h : KeysFine k 1 entries b d l) (n : ℕ) (new : List ℕ) (long : length new ≡ n * width k) where
  old_key : (i : ℕ) → i < l → item (width k) (d ++ new) i ≡ item (width k) d i
  old_key i q = item_left (width k) d new i l (omega (arith, h.keys_are)) q

  put_key : (i : ℕ) → item (width k) (d ++ new) (l + i) ≡ item (width k) new i
  put_key i = item_right (width k) d new l i h.keys_are

  keys_fine : (b' : ℕ → Bool) → ((i : ℕ) → i < l → b' i ≡ b i) → ((i : ℕ) → i < n → T (b' (l + i)) → (item (width k) new i < limit k) × (item (width k) new i < entries))
      → KeysFine k 1 entries b' (d ++ new) (l + n)
  keys_fine b' o g =
      record {
        sources = h.sources;
        keys_are = rw (length-append, long, h.keys_are) (omega arith);
        positive = below_add (λ i. T (b' i) → item (width k) (d ++ new) i < limit k) l n
            (λ i q t. rw (old_key i q) (h.positive i q (rw (o i q) at t))) (λ i q t. rw (put_key i) (g i q t).0);
        within = below_add (λ i. T (b' i) → item (width k) (d ++ new) i < entries) l n
            (λ i q t. rw (old_key i q) (h.within i q (rw (o i q) at t))) (λ i q t. rw (put_key i) (g i q t).1);
      }

-- ---- the law

module _ (k : Number) (p : Plain) (x : Column (t_dictionary k p)) (s : Source (t_dictionary k p) x) where
  abbrev values : Array (PlainBody p)
  values = present x.body.values

  abbrev see : List ℕ → ℕ → Row
  see d i = read_with (entry_at p) values (item (width k) d i)

  abbrev PutKeys : (ℕ → Bool) → List ℕ → ℕ → ℕ → (ℕ → Bool) → (ℕ → Row) → List ℕ → Type 0
  PutKeys = Put see (KeysFine k 1 values.len) (λ d. Unit {0})

  abbrev key_of : ℕ → ℕ
  key_of i = item (width k) x.body.keys i

  -- a valid key fits, and names an entry
  key_is : (i : ℕ) → x.off ≤ i → i < x.off + x.len → T (ok x.valid i) → (key_of i < limit k) × (key_of i < x.body.values.len)
  key_is i y z t =
      let e : x.off + (i - x.off) ≡ i = omega arith in
      (rw e at (s.slots.positive (i - x.off) (omega arith) (rw e t)), rw e at (s.slots.within (i - x.off) (omega arith) (rw e t)))

  keys_copied : (a n l : ℕ) (b : ℕ → Bool) (d : List ℕ) → x.off ≤ a → a + n ≤ x.off + x.len → KeysFine k 1 values.len b d l
      → PutKeys b d l n (λ i. ok x.valid (a + i)) (λ i. dictionary_at k p x.body (a + i)) (d ++ new_keys (width k) 0 x.body.keys a n)
  keys_copied a n l b d y z f =
      let new = new_keys (width k) 0 x.body.keys a n in
      let long = keys_long (width k) x.body.keys a n in
      let good : (i : ℕ) → i < n → T (ok x.valid (a + i)) → (key_of (a + i) < limit k) × (key_of (a + i) < x.body.values.len)
      = λ i r t. key_is (a + i) (omega arith) (omega arith) t in
      let key : (i : ℕ) → i < n → T (ok x.valid (a + i)) → item (width k) new i ≡ key_of (a + i)
      = λ i r t. new_key_lem (width k) x.body.keys a n i r (omega (arith, (good i r t).0, limit_fits k)) in
      record {
        ends = λ b' o e. keys_fine k values.len b d l f n new long b' o (λ i r t. let u : T (ok x.valid (a + i)) = rw (e i r) at t in rw (key i r u) (good i r u));
        old = λ i r. ap (read_with (entry_at p) values) (old_key k values.len b d l f n new long i r);
        new = λ i r t.
            ap (read_with (entry_at p) values) (put_key k values.len b d l f n new long i ∙ key i r t)
            ∙ present_read x.body.values (entry_at p) (key_of (a + i)) (good i r t).1;
        keeps = λ x. tt;
      }

  keys_filled : (n l : ℕ) (b : ℕ → Bool) (d : List ℕ) → KeysFine k 1 values.len b d l → PutKeys b d l n (λ i. false) (λ i. null) (d ++ replicate (n * width k) 0)
  keys_filled n l b d f =
      let w = length-replicate {A = ℕ} (n * width k) 0 in
      record {
        ends = λ b' o e. keys_fine k values.len b d l f n (replicate (n * width k) 0) w b' o (λ i q t. absurd (rw (e i q) at t));
        old = λ i q. ap (read_with (entry_at p) values) (old_key k values.len b d l f n (replicate (n * width k) 0) w i q);
        new = λ i q t. absurd t;
        keeps = λ x. tt;
      }

  pub one_dictionary : Law (dictionary_kind k p 1 (λ i. x.body)) 1 (λ i. x)
  one_dictionary =
      record {
        copies = λ j a n l b d q y z f. both _ (keys_copied a n l b d y z f);
        fills = λ n l b d y f. both _ (keys_filled (suc n) l b d f);
        obeys = λ l b d f.
            record {
              hold = rw (zero-add, f.keys_are) (omega arith);
              positive = λ i q t. rw zero-add (f.positive i q (rw zero-add at t));
              within = λ i q t. rw zero-add (f.within i q (rw zero-add at t));
              child_rule = present_obeys p x.body.values s.slots.child_rule;
            };
      }
