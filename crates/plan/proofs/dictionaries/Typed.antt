-- The tests of an opening over the tables are those over the typed columns: they look at lengths, offsets, validity and where dictionaries begin.
-- Assumes nothing.
use mathlib.Core.Path.{◌≡◌, refl, ap, ap₂}
use mathlib.Core.Bool.{Bool, true, false, not, cond, ◌&&◌, ◌||◌, false≢true}
use mathlib.Core.Option.{Option, none, some}
use mathlib.Core.List.{List}
use Prim.Native.Nat.{ℕ, zero, suc, ◌+◌, ◌<◌, ◌^◌}
use lib.Dec.{eqb}
use Rattle.columnar.specs.Types.{Number, Plain, fixed, string, Ty, t_dictionary}
use Rattle.columnar.specs.Array.{Array, null_count_of}
use Rattle.columnar.specs.Plain.{PlainBody}
use Rattle.columnar.specs.Dictionary.{Dictionary}
use Rattle.columnar.specs.Reading.{Column}
use Rattle.columnar.specs.Test.{every, mask_test}
use Rattle.model.specs.Opening.{keeps, ptr_eq, shared, start_of_keys}
use Rattle.array_data.specs.Tables.{Tables, length_of, offset_of, valid_of}
use Rattle.array_data.specs.Typed.{Tree, tables_from, starts, body_of, column_of}
use Rattle.array_data.specs.lent_tables.Lent.{tables, mask_of}
use Rattle.plan.specs.dictionaries.Sources.{array_at, starts_of, of_strings, dict_at, Countable}
use Rattle.array_data.specs.Sources.{first_of}
use Rattle.plan.proofs.dictionaries.Laws.{length_from, offset_from, place_from}
use Rattle.plan.proofs.dictionaries.Keys.{entries_same}

pub null_same : {B C : Type 0} (xs : ℕ → Array B) (ys : ℕ → Array C) → ((s : ℕ) → null_count_of (xs s) ≡ null_count_of (ys s)) → (m : ℕ)
    → every (λ i. eqb (null_count_of (xs i)) 0) m ≡ every (λ i. eqb (null_count_of (ys i)) 0) m
null_same xs ys h zero = refl
null_same xs ys h (suc m) = rw (null_same xs ys h m, h m)

-- all that is looked at of two dictionaries
pub record Alike {P Q : Type 0} (d : Dictionary P) (e : Dictionary Q) : Type 0 where
  pub same_off : d.values.off ≡ e.values.off
  pub same_len : d.values.len ≡ e.values.len
  pub same_starts : d.starts ≡ e.starts

module _ {P Q : Type 0} (ds : ℕ → Dictionary P) (es : ℕ → Dictionary Q) (h : (s : ℕ) → Alike (ds s) (es s)) where
  pub ptr_same : (s t : ℕ) → ptr_eq (ds s) (ds t) ≡ ptr_eq (es s) (es t)
  ptr_same s t = rw ((h s).same_off, (h s).same_len, (h s).same_starts, (h t).same_off, (h t).same_len, (h t).same_starts)

  pub shared_same : (m : ℕ) → shared m ds ≡ shared m es
  shared_same zero = refl
  shared_same (suc zero) = refl
  shared_same (suc (suc m)) = ap₂ ◌&&◌ (shared_same (suc m)) (ptr_same m (suc m))

  pub start_same : (m j : ℕ) → start_of_keys m ds j ≡ start_of_keys m es j
  start_same m j = ap₂ (λ b n. cond b 0 n) (shared_same m) (entries_same ds es (λ s. (h s).same_len) j)

-- ---- node i of typed sources

module _ (t : Tree) (x : Tables) (sources : List ℕ) where
  abbrev pub column_at : (u : Ty) → ℕ → ℕ → Column u
  column_at u i s = column_of t (tables_from x (first_of sources s)) u i

  pub keeps_typed : (above : Bool) (u : Ty) (i m : ℕ) → keeps above m (column_at u i) ≡ keeps above m (array_at (tables x.lengths x.places x.body) sources i)
  keeps_typed above u i m = ap (λ b. above || not b) (null_same (column_at u i) (array_at (tables x.lengths x.places x.body) sources i) (λ s. refl) m)

  -- a dictionary node: its values are the next node
  abbrev pub dictionary_at : (k : Number) (p : Plain) → ℕ → ℕ → Dictionary (PlainBody p)
  dictionary_at k p i s = body_of t (tables_from x (first_of sources s)) (t_dictionary k p) i

  starts_are : (p : Plain) (y : Tables) (i : ℕ) → starts y p i ≡ starts_of y (of_strings p) i
  starts_are (fixed n) y i = refl
  starts_are (string w) y i = refl

  module _ (k : Number) (p : Plain) (i : ℕ) where
    abbrev pub lent_at : ℕ → Dictionary (Unit {0})
    lent_at = dict_at (tables x.lengths x.places x.body) sources (of_strings p) (suc i)

    pub alike : (s : ℕ) → Alike (dictionary_at k p i s) (lent_at s)
    alike s = record { same_off = refl; same_len = refl; same_starts = starts_are p (tables_from x (first_of sources s)) (suc i) }

    pub shared_typed : (m : ℕ) → shared m (dictionary_at k p i) ≡ shared m lent_at
    shared_typed = shared_same (dictionary_at k p i) lent_at alike

    pub start_typed : (m j : ℕ) → start_of_keys m (dictionary_at k p i) j ≡ start_of_keys m lent_at j
    start_typed = start_same (dictionary_at k p i) lent_at alike

-- ---- what ground 12's test of node i of a source gives: its nulls can be counted

mask_true : (may : Bool) (v : Option (List ℕ)) (n : ℕ) → mask_test may v n ≡ true → mask_test true v n ≡ true
mask_true true v n h = h
mask_true false none n h = h
mask_true false (some b) n h = absurd (false≢true h)

pub countable_at : (x : Tables) (f i : ℕ) (may : Bool) → f + i < 2 ^ 33 → mask_of (tables_from x f) i may ≡ true
    → Countable (tables x.lengths x.places x.body) (f + i)
countable_at x f i may h e =
    let m : mask_of (tables_from x f) i true ≡ true = mask_true may (valid_of (tables_from x f) i) (offset_of (tables_from x f) i + length_of (tables_from x f) i) e in
    record {
      small = h;
      bits = rw (length_from x f i, offset_from x f i, place_from x f i 0, place_from x f i 1, place_from x f i 2) at m;
    }
