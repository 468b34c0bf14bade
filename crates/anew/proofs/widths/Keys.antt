-- Dictionaries in other widths: keys between any integer formats, all entries copied. Assumes nothing.
use mathlib.Core.Path.{◌≡◌, refl, ap, ◌∙◌}
use mathlib.Core.Bool.{Bool, true, false, cond}
use mathlib.Core.List.{List}
use Prim.Native.Nat.{ℕ, ◌+◌, ◌-◌, ◌^◌, ◌<◌}
use native.Mathlib.Nat.{zero-add, one-le-pow}
use native.Mathlib.Omega.{arith}
use lib.ListN.{get_or}
use lib.Dec.{T}
use Rattle.columnar.specs.Row.{bytes, seg}
use Rattle.columnar.specs.Types.{Number, width, limit, Plain, t_dictionary}
use Rattle.columnar.specs.Array.{Array, item, ok, read_with, Obeys}
use Rattle.columnar.specs.Entries.{encodes}
use Rattle.columnar.specs.Plain.{PlainBody, PlainRule}
use Rattle.columnar.specs.Dictionary.{entry_at}
use Rattle.columnar.specs.Wider.{integer}
use Rattle.columnar.proofs.Items.{length_encodes, item_encodes_lt}
use Rattle.model.proofs.Bits.{length_seg, get_d_seg}
use Rattle.anew.proofs.lists.Laid.{laid_mask, laid_read}
use Rattle.anew.proofs.lists.OneDictionary.{limit_fits}
use Rattle.anew.specs.widths.Widths.{PlainWidths, s_dictionary}
use Rattle.anew.specs.widths.Converted.{plain_as, node_as}
use Rattle.anew.specs.widths.Fitting.{AllFit, numbers_of, plain_numbers}
use Rattle.anew.proofs.widths.Cut.{cut_plain}
use Rattle.anew.proofs.widths.Plain.{plain_stored, plain_rule}
use Rattle.anew.proofs.widths.Node.{Made}

is_true : (b : Bool) → T b → b ≡ true
is_true true v = refl
is_true false v = absurd v

entry_lt : (w : ℕ) (f : ℕ → ℕ) (a n i : ℕ) → i < n → f (a + i) < 256 ^ w → item w (encodes w (seg f a n)) i ≡ f (a + i)
entry_lt w f a n i q h =
    let e : get_or (seg f a n) i 0 ≡ f (a + i) = get_d_seg f a n i 0 q in
    item_encodes_lt w (seg f a n) i (rw length_seg q) (rw e h) ∙ e

-- ---- all entries

module _ (p p' : Plain) (d : PlainWidths p p') (v : Array (PlainBody p)) (s : Obeys true (PlainRule p) v) (fit : AllFit (numbers_of (plain_numbers d) v 0 v.len)) where
  abbrev pub entries : Array (PlainBody p')
  entries = node_as true (plain_as d) v 0 v.len

  whole : PlainRule p (ok v.valid) v.body (v.off + 0) v.len
  whole = cut_plain p (ok v.valid) v.body v.off v.len 0 v.len (omega arith) s.slots

  -- an entry shows the same
  pub entry_read : (j : ℕ) → j < v.len → read_with (entry_at p') entries j ≡ read_with (entry_at p) v j
  entry_read j q =
      laid_read true v 0 v.len (plain_as d (ok v.valid) v.body (v.off + 0) v.len) (v.off + v.len) s.mask j q (entry_at p) (entry_at p')
      (λ u. ap bytes (plain_stored p p' d (ok v.valid) v.body (v.off + 0) v.len whole fit j q))
      ∙ ap (read_with (entry_at p) v) (zero-add j)

  pub entries_obey : Obeys true (PlainRule p') entries
  entries_obey =
      record {
        mask = laid_mask true v 0 v.len (plain_as d (ok v.valid) v.body (v.off + 0) v.len);
        slots = plain_rule p p' d (ok v.valid) (ok entries.valid) v.body (v.off + 0) v.len whole fit;
      }

-- ---- keys

module _ (k k' : Number) (okay : ℕ → Bool) (keys : List ℕ) (s n entries : ℕ) (within : (i : ℕ) → i < n → T (okay (s + i)) → item (width k) keys (s + i) < entries) (fit : entries - 1 < limit k') where
  abbrev pub key_of : ℕ → ℕ
  key_of j = cond (okay j) (item (width k) keys j) 0

  abbrev pub new_keys : List ℕ
  new_keys = encodes (width k') (seg (λ j. cond (okay j) (item (width k) keys j) 0) s n)

  key_small : (i : ℕ) → i < n → key_of (s + i) < 256 ^ width k'
  key_small i q = go (okay (s + i)) (within i q)
    where
      go : (c : Bool) → (T c → item (width k) keys (s + i) < entries) → cond c (item (width k) keys (s + i)) 0 < 256 ^ width k'
      go true f = omega (arith, f tt, fit, limit_fits k')
      go false f = one-le-pow (width k') 256 (omega arith)

  pub key_is : (i : ℕ) → i < n → item (width k') new_keys i ≡ key_of (s + i)
  key_is i q = entry_lt (width k') key_of s n i q (key_small i q)

  -- A VALID KEY IS THE SAME NUMBER
  pub valid_key : (i : ℕ) → i < n → okay (s + i) ≡ true → item (width k') new_keys i ≡ item (width k) keys (s + i)
  valid_key i q e = key_is i q ∙ ap (λ c. cond c (item (width k) keys (s + i)) 0) e

  -- "KEYS UNDER NULLS BECOME 0"
  pub null_key : (i : ℕ) → i < n → okay (s + i) ≡ false → item (width k') new_keys i ≡ 0
  null_key i q e = key_is i q ∙ ap (λ c. cond c (item (width k) keys (s + i)) 0) e

-- ---- the law

pub dictionary_made : (k k' : Number) (p p' : Plain) (x : T (integer k)) (x' : T (integer k')) (d : PlainWidths p p') → Made (t_dictionary k p) (t_dictionary k' p') (s_dictionary k k' p p' x x' d)
dictionary_made k k' p p' x x' d okay okay' b s n h e fit =
    record {
      holds = λ i q v.
          ap (read_with (entry_at p') (entries p p' d b.values h.child_rule fit.1)) (valid_key k k' okay b.keys s n b.values.len h.within fit.0 i q (is_true _ v))
          ∙ entry_read p p' d b.values h.child_rule fit.1 (item (width k) b.keys (s + i)) (h.within i q v);
      rule =
          record {
            hold = rw (zero-add, length_encodes, length_seg) (omega arith);
            positive = λ i q v. rw (zero-add, key i q v) (omega (arith, h.within i q (okays i q v), fit.0));
            within = λ i q v. rw (zero-add, key i q v) (h.within i q (okays i q v));
            child_rule = entries_obey p p' d b.values h.child_rule fit.1;
          };
    }
  where
    okays : (i : ℕ) → i < n → T (okay' (0 + i)) → T (okay (s + i))
    okays i q v = rw (zero-add, e i q) at v

    key : (i : ℕ) → i < n → T (okay' (0 + i)) → item (width k') (new_keys k k' okay b.keys s n b.values.len h.within fit.0) i ≡ item (width k) b.keys (s + i)
    key i q v = valid_key k k' okay b.keys s n b.values.len h.within fit.0 i q (is_true _ (okays i q v))
