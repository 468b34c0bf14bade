-- Unions in other widths, from their children in other widths. Assumes nothing.
use mathlib.Core.Path.{◌≡◌, sym, ap, subst, ◌∙◌}
use mathlib.Core.Bool.{Bool}
use mathlib.Core.List.{List, [], Memᴰ}
use Prim.Native.Nat.{ℕ, ◌+◌, ◌*◌, ◌≤◌, ◌<◌}
use native.Mathlib.Nat.{zero-add}
use native.Mathlib.Omega.{arith}
use lib.ListN.{length, take, drop, get_or, length-take, length-drop}
use lib.Seq.{get_or-take, get_or-drop}
use Rattle.columnar.specs.Row.{union}
use Rattle.columnar.specs.Types.{Ty, t_sparse, t_dense}
use Rattle.columnar.specs.Array.{item, read_with}
use Rattle.columnar.specs.Wider.{Declared}
use Rattle.columnar.specs.Reading.{Column, slot_at, read, masks, Source}
use Rattle.columnar.specs.Test.{member}
use Rattle.columnar.proofs.Items.{length_cut, item_cut}
use Rattle.columnar.proofs.WiderKinds.{declares}
use Rattle.anew.specs.widths.Widths.{Widths, s_sparse, s_dense}
use Rattle.anew.specs.widths.Converted.{pick, none_of, blank, node_as, body_as, column_as}
use Rattle.anew.specs.widths.Fitting.{AllFit, numbers_of, numbers_in}
use Rattle.anew.proofs.widths.Fits.{gather_one, picked}
use Rattle.anew.proofs.widths.Node.{Made, Node, node}

-- the ids of a stretch
id_at_lem : (ids : List ℕ) (s n i : ℕ) → i < n → get_or (take n (drop s ids)) i 0 ≡ get_or ids (s + i) 0
id_at_lem ids s n i q = get_or-take n (drop s ids) i 0 q ∙ get_or-drop s ids i 0

ids_long : (ids : List ℕ) (s n : ℕ) → s + n ≤ length ids → length (take n (drop s ids)) ≡ n
ids_long ids s n h = simp (length-take, length-drop) (omega arith)

-- children by id: those of the fields are made from rows a .. a + n - 1 of the old ones, where `from` and `many` give them
module _ (ids : List ℕ) (f f' : ℕ → Ty) (d : (c : ℕ) → Declared ids c → Widths (f c) (f' c)) (kids : (c : ℕ) → Column (f c)) (from many : ℕ → ℕ) where
  abbrev pub new_kids : (c : ℕ) → Column (f' c)
  new_kids c = pick (member c ids) (λ m. node_as (masks (f' c)) (body_as (d c m)) (kids c) (from c) (many c)) (none_of (blank (f' c)))

  pub kid_is : (c : ℕ) (m : Memᴰ c ids) → new_kids c ≡ column_as (f c) (f' c) (d c (declares c ids m)) (kids c) (from c) (many c)
  kid_is c m = picked (member c ids) (λ m. node_as (masks (f' c)) (body_as (d c m)) (kids c) (from c) (many c)) (none_of (blank (f' c))) (declares c ids m)

  pub kid_fits : (c : ℕ) (m : Memᴰ c ids) → AllFit (pick (member c ids) (λ m. numbers_of (numbers_in (d c m)) (kids c) (from c) (many c)) []) → AllFit (numbers_of (numbers_in (d c (declares c ids m))) (kids c) (from c) (many c))
  kid_fits c m h = subst AllFit (picked (member c ids) (λ m. numbers_of (numbers_in (d c m)) (kids c) (from c) (many c)) [] (declares c ids m)) h

module _ (ids : List ℕ) (nullable nullable' : ℕ → Bool) (f f' : ℕ → Ty) (flags : (c : ℕ) → Declared ids c → nullable c ≡ nullable' c) (d : (c : ℕ) → Declared ids c → Widths (f c) (f' c))
    (made : (c : ℕ) (m : Declared ids c) → Made (f c) (f' c) (d c m)) where
  pub sparse_made : Made (t_sparse ids nullable f) (t_sparse ids nullable' f') (s_sparse ids nullable nullable' f f' flags d)
  sparse_made okay okay' b s n h e fit =
      record {
        holds = λ i q v.
            let c = get_or b.ids (s + i) 0 in
            let m = h.declared i q in
            ap (λ y. union y (read_with (slot_at (f' y)) (new y) i)) (id_at_lem b.ids s n i q)
            ∙ ap (union c) (ap (λ y. read (f' c) y i) (is c m) ∙ (kid c m).row i q);
        rule =
            record {
              hold = rw (zero-add, ids_long b.ids s n h.hold) (omega arith);
              declared = λ i q. rw (zero-add, id_at_lem b.ids s n i q) (h.declared i q);
              long = λ c m. subst (λ y. 0 + n ≤ y.len) (sym (is c m)) (omega arith);
              child_rule = λ c m. subst (Source (f' c)) (sym (is c m)) (kid c m).obeys;
            };
      }
    where
      new : (c : ℕ) → Column (f' c)
      new = new_kids ids f f' d b.children (λ c. s) (λ c. n)

      is : (c : ℕ) (m : Memᴰ c ids) → new_kids ids f f' d b.children (λ c. s) (λ c. n) c ≡ column_as (f c) (f' c) (d c (declares c ids m)) (b.children c) s n
      is = kid_is ids f f' d b.children (λ c. s) (λ c. n)

      kid : (c : ℕ) (m : Memᴰ c ids) → Node (f c) (f' c) (d c (declares c ids m)) (b.children c) s n
      kid c m =
          node (f c) (f' c) (d c (declares c ids m)) (made c (declares c ids m)) (b.children c) (h.child_rule c m) s n (h.long c m)
          (kid_fits ids f f' d b.children (λ c. s) (λ c. n) c m (gather_one ids _ fit c m))

  pub dense_made : Made (t_dense ids nullable f) (t_dense ids nullable' f') (s_dense ids nullable nullable' f f' flags d)
  dense_made okay okay' b s n h e fit =
      record {
        holds = λ i q v.
            let c = get_or b.ids (s + i) 0 in
            let m = h.declared i q in
            rw (item_cut 4 s n b.positions i q)
            (ap (λ y. union y (read_with (slot_at (f' y)) (new y) (item 4 b.positions (s + i)))) (id_at_lem b.ids s n i q)
            ∙ ap (union c)
            (ap (λ y. read (f' c) y (item 4 b.positions (s + i))) (is c m)
            ∙ (kid c m).row (item 4 b.positions (s + i)) (h.within i q)
            ∙ ap (read (f c) (b.children c)) (zero-add _)));
        rule =
            record {
              hold_ids = rw (zero-add, ids_long b.ids s n h.hold_ids) (omega arith);
              hold_positions = rw (zero-add, length_cut 4 s n b.positions h.hold_positions) (omega arith);
              declared = λ i q. rw (zero-add, id_at_lem b.ids s n i q) (h.declared i q);
              positive = λ i q. rw (zero-add, item_cut 4 s n b.positions i q) (h.positive i q);
              within = λ i q.
                  let c = get_or b.ids (s + i) 0 in
                  let id : get_or (take n (drop s b.ids)) (0 + i) 0 ≡ c = rw zero-add (id_at_lem b.ids s n i q) in
                  let at : item 4 (take (n * 4) (drop (s * 4) b.positions)) (0 + i) ≡ item 4 b.positions (s + i) = rw zero-add (item_cut 4 s n b.positions i q) in
                  let z : item 4 b.positions (s + i) < (new c).len = subst (λ (y : Column (f' c)). item 4 b.positions (s + i) < y.len) (sym (is c (h.declared i q))) (h.within i q) in
                  subst (λ y. item 4 (take (n * 4) (drop (s * 4) b.positions)) (0 + i) < (new y).len) (sym id) (subst (λ y. y < (new c).len) (sym at) z);
              child_rule = λ c m. subst (Source (f' c)) (sym (is c m)) (kid c m).obeys;
            };
      }
    where
      new : (c : ℕ) → Column (f' c)
      new = new_kids ids f f' d b.children (λ c. 0) (λ c. (b.children c).len)

      is : (c : ℕ) (m : Memᴰ c ids)
          → new_kids ids f f' d b.children (λ c. 0) (λ c. (b.children c).len) c ≡ column_as (f c) (f' c) (d c (declares c ids m)) (b.children c) 0 (b.children c).len
      is = kid_is ids f f' d b.children (λ c. 0) (λ c. (b.children c).len)

      kid : (c : ℕ) (m : Memᴰ c ids) → Node (f c) (f' c) (d c (declares c ids m)) (b.children c) 0 (b.children c).len
      kid c m =
          node (f c) (f' c) (d c (declares c ids m)) (made c (declares c ids m)) (b.children c) (h.child_rule c m) 0 (b.children c).len (omega arith)
          (kid_fits ids f f' d b.children (λ c. 0) (λ c. (b.children c).len) c m (gather_one ids _ fit c m))
