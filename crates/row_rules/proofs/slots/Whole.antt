-- The columnar model's test of a union, a dictionary or a view array whose entries lie in the lent body is the row test of this crate, and
-- what the test asks of the children. Assumes nothing.
use Rattle.std.proofs.Common.{◌≡◌, ℕ, ◌+◌, ◌*◌, ◌<◌, ◌≤◌, min, Bool, true, ◌&&◌, leb, List, length, get_or, take, drop, ap, arith, length-drop, length-take-le, le-leb}
use mathlib.Core.Option.{none, some}
use Rattle.columnar.specs.Types.{Number, width, limit}
use Rattle.columnar.specs.Array.{Array, ok}
use Rattle.columnar.specs.Union.{Sparse, Dense}
use Rattle.columnar.specs.Dictionary.{Dictionary}
use Rattle.columnar.specs.View.{Views}
use Rattle.columnar.specs.Test.{each, member, sparse_test, dense_test, dictionary_test, view_test}
use Rattle.row_rules.specs.slots.Slots.{ids_declared, field_of, positions_within, keys_below, valid_keys_below, views_good, valid_views_good}
use Rattle.row_rules.proofs.slots.Tests.{ids_test, positions_test, keys_test, valid_keys_test, Named, views_test, valid_views_test}

pub length_part : (s : List ℕ) (start size : ℕ) → start + size ≤ length s → length (take size (drop start s)) ≡ size
length_part s start size h = length-take-le size (drop start s) (rw length-drop (omega arith))

module _ (s : List ℕ) (off len : ℕ) where
  -- the type ids are the part of `size` bytes at `start`
  pub sparse_test_lem : {P : ℕ → Type 0} (ids : List ℕ) (kid : (c : ℕ) → Array (P c) → Bool) (okay : ℕ → Bool) (b : Sparse P) (start size : ℕ)
      → b.ids ≡ take size (drop start s) → start + size ≤ length s → off + len ≤ size
      → sparse_test ids kid okay b off len
      ≡ ids_declared s (start + off) ids len && each (λ c. leb (off + len) (b.children c).len) ids && each (λ c. kid c (b.children c)) ids
  sparse_test_lem ids kid okay b start size e i h =
      rw (e, length_part s start size i, le-leb (off + len) size h, ids_test s start size off len ids h)

  -- the positions too, of `psize` bytes at `pstart`; lens has the length of each declared id's child at its field
  pub dense_test_lem : {P : ℕ → Type 0} (ids : List ℕ) (kid : (c : ℕ) → Array (P c) → Bool) (okay : ℕ → Bool) (b : Dense P) (start size pstart psize : ℕ) (lens : List ℕ)
      → b.ids ≡ take size (drop start s) → start + size ≤ length s → off + len ≤ size
      → b.positions ≡ take psize (drop pstart s) → pstart + psize ≤ length s → (off + len) * 4 ≤ psize
      → ((c : ℕ) → member c ids ≡ true → get_or lens (field_of ids c) 0 ≡ (b.children c).len)
      → dense_test ids kid okay b off len
      ≡ ids_declared s (start + off) ids len && positions_within s (start + off) (pstart + 4 * off) ids lens len && each (λ c. kid c (b.children c)) ids
  dense_test_lem ids kid okay b start size pstart psize lens e i h f j k sizes =
      rw (e, f, length_part s start size i, le-leb (off + len) size h, length_part s pstart psize j, le-leb ((off + len) * 4) psize k)
      (ap (λ x. x && each (λ c. kid c (b.children c)) ids) (positions_test s start size pstart psize off len ids lens (λ c. (b.children c).len) sizes h k true))

  module _ {P : Type 0} (k : Number) (kid : Array P → Bool) (b : Dictionary P) (start size : ℕ)
      (e : b.keys ≡ take size (drop start s)) (i : start + size ≤ length s) (h : (off + len) * width k ≤ size) where
    pub dictionary_test_lem : dictionary_test k kid (ok none) b off len
        ≡ keys_below (width k) s (start + width k * off) (min (limit k) b.values.len) len && kid b.values
    dictionary_test_lem =
        rw (e, length_part s start size i, le-leb ((off + len) * width k) size h)
        (ap (λ x. x && kid b.values) (keys_test s start size off len (width k) (limit k) b.values.len h true))

    pub valid_dictionary_test : (vstart vsize : ℕ) → off + len ≤ 8 * vsize
        → dictionary_test k kid (ok (some (take vsize (drop vstart s)))) b off len
        ≡ valid_keys_below (width k) s (start + width k * off) (min (limit k) b.values.len) vstart off len && kid b.values
    valid_dictionary_test vstart vsize g =
        rw (e, length_part s start size i, le-leb ((off + len) * width k) size h)
        (ap (λ x. x && kid b.values) (valid_keys_test s start size off len (width k) (limit k) b.values.len h true vstart vsize g))

  -- the data buffers are those that the table t names
  module _ (small : (i : ℕ) → get_or s i 0 < 256) (b : Views) (start size : ℕ)
      (e : b.views ≡ take size (drop start s)) (i : start + size ≤ length s) (h : (off + len) * 16 ≤ size)
      (t : List ℕ) (first count : ℕ) (named : Named s t first count b.buffers) where
    pub view_array_test : view_test (ok none) b off len ≡ views_good s (start + 16 * off) t first count len
    view_array_test =
        rw (e, length_part s start size i, le-leb ((off + len) * 16) size h)
        (views_test s start size off len h i small t first count b.buffers named)

    pub valid_view_array_test : (vstart vsize : ℕ) → off + len ≤ 8 * vsize
        → view_test (ok (some (take vsize (drop vstart s)))) b off len ≡ valid_views_good s (start + 16 * off) t first count vstart off len
    valid_view_array_test vstart vsize g =
        rw (e, length_part s start size i, le-leb ((off + len) * 16) size h)
        (valid_views_test s start size off len h i small t first count b.buffers named vstart vsize g)
