-- List-views are lawful over a lawful child. Assumes nothing.
use mathlib.Core.Path.{◌≡◌, refl, sym, ap, subst}
use mathlib.Core.Bool.{Bool, true, false}
use mathlib.Core.List.{List, [], ◌++◌}
use Prim.Native.Nat.{ℕ, suc, ◌+◌, ◌-◌, ◌*◌, ◌≤◌, ◌<◌}
use native.Mathlib.Nat.{add-zero, zero-add, zero-mul, add-mul}
use native.Mathlib.Numerals.{add-one}
use native.Mathlib.Omega.{arith}
use lib.ListN.{length, replicate, length-append, length-replicate}
use lib.Dec.{ltb}
use borrow.Author.Tests.{ltb-true}
use Rattle.number.specs.Number.{encode}
use Rattle.number.proofs.Laws.{length_encode}
use Rattle.columnar.specs.Row.{Row, list, rows, seg}
use Rattle.columnar.specs.Types.{half}
use Rattle.columnar.specs.Array.{Array, item, read_with, Mask, Obeys}
use Rattle.columnar.specs.ListView.{ListView, list_view_at, Entry, ListViewRule}
use Rattle.columnar.proofs.Items.{item_left, item_right, item_last, item_zeros}
use Rattle.model.specs.Grounds.{counts, list_view_row}
use Rattle.model.specs.Mutable.{Mutable, extend_node}
use Rattle.model.specs.ListViews.{Lists, list_row}
use Rattle.model.specs.Held.{held_node}
use Rattle.model.proofs.Agree.{both, both_as, agrees_then, agrees_guard}
use Rattle.model.proofs.Law.{Kind, Put, seen, Law, Fine, row_at, Grew}
use Rattle.model.proofs.Node.{node_copies, node_obeys}
use Rattle.model.proofs.Nodes.{ListFine, list_kind}
use Rattle.model.proofs.Pieces.{below_add}
use Rattle.model.proofs.Rows.{seg_cong}
use Rattle.model.proofs.Steps.{Added, added_as, below_one, Step, steps_put}

-- the one entry of a number written
pub item_entry : (w v : ℕ) → v < half w → item w (encode w v) 0 ≡ v
item_entry w v h = item_last w [] 0 v (sym (zero-mul w)) (omega arith)

module _ (w : ℕ) {P D : Type 0} (k : Kind P D) (m : ℕ) (kids : ℕ → Array P) where
  abbrev Fit : Lists D → ℕ → Type 0
  Fit = ListFine w (Fine k m kids)

  abbrev see : Lists D → ℕ → Row
  see = seen (list_kind w k m kids)

  abbrev AddedLists : Lists D → ℕ → ℕ → (ℕ → Row) → Lists D → Type 0
  AddedLists = Added see Fit (λ d. Unit {0})

  -- n offsets and sizes behind those of d, and its child with rows behind
  module _ (d : Lists D) (l : ℕ) (h : Fit d l) (ps qs : List ℕ) (n : ℕ) (c : Mutable D) (ps-are : length ps ≡ n * w) (qs-are : length qs ≡ n * w)
      (kid-fine : Fine k m kids c) (longer : d.child.len ≤ c.len) (same : (i : ℕ) → i < d.child.len → row_at k m kids c i ≡ row_at k m kids d.child i)
      (fits : c.len < half w) (within : (i : ℕ) → i < n → item w ps i + item w qs i ≤ c.len) where
    abbrev grown : Lists D
    grown = record { buffer1 = d.buffer1 ++ ps; buffer2 = d.buffer2 ++ qs; child = c }

    old_entry : (xs ys : List ℕ) → length xs ≡ l * w → (i : ℕ) → i < l → item w (xs ++ ys) i ≡ item w xs i
    old_entry xs ys e i q = item_left w xs ys i l (omega arith) q

    grown_fine : Fit grown (l + n)
    grown_fine =
        record {
          offsets_are = rw (length-append, add-mul) (omega (arith, h.offsets_are));
          sizes_are = rw (length-append, add-mul) (omega (arith, h.sizes_are));
          within = below_add (λ i. item w (d.buffer1 ++ ps) i + item w (d.buffer2 ++ qs) i ≤ c.len) l n
              (λ i q. rw (old_entry d.buffer1 ps h.offsets_are i q, old_entry d.buffer2 qs h.sizes_are i q) (omega (arith, h.within i q)))
              (λ i q. rw (item_right w d.buffer1 ps l i h.offsets_are, item_right w d.buffer2 qs l i h.sizes_are) (within i q));
          fits = fits;
          child_fine = kid-fine;
        }

    grown_added : AddedLists d l n (λ i. list (rows (seg (row_at k m kids c) (item w ps i) (item w qs i)))) grown
    grown_added =
        record {
          ends = grown_fine;
          old = λ i q.
              rw (old_entry d.buffer1 ps h.offsets_are i q, old_entry d.buffer2 qs h.sizes_are i q)
              (ap (λ x. list (rows x)) (seg_cong (row_at k m kids c) (row_at k m kids d.child) (item w d.buffer1 i) (item w d.buffer1 i) (item w d.buffer2 i)
              (λ e r. same (item w d.buffer1 i + e) (omega (arith, h.within i q)))));
          new = λ i q. rw (item_right w d.buffer1 ps l i h.offsets_are, item_right w d.buffer2 qs l i h.sizes_are);
          keeps = λ x. x;
        }

  -- a row behind d: the child's rows from its length on are the source's
  row_added : (s : ListView P) (a l : ℕ) (d : Lists D) (c : Mutable D) (z : ℕ) → Fit d l → d.child.len + item w s.sizes a < half w
      → Grew k m kids d.child (item w s.sizes a) z (λ i. read_with k.at s.child (item w s.offsets a + i)) c
      → AddedLists d l 1 (λ i. list_view_at w k.at s (a + i))
      (record { buffer1 = d.buffer1 ++ encode w d.child.len; buffer2 = d.buffer2 ++ encode w (item w s.sizes a); child = c })
  row_added s a l d c z h room g =
      let p = d.child.len in
      let y = item w s.sizes a in
      let ip : item w (encode w p) 0 ≡ p = item_entry w p (omega arith) in
      let iy : item w (encode w y) 0 ≡ y = item_entry w y (omega arith) in
      added_as see Fit (λ d. Unit {0})
      (below_one (λ i. list (rows (seg (row_at k m kids c) (item w (encode w p) i) (item w (encode w y) i))) ≡ list_view_at w k.at s (a + i))
      (rw (ip, iy, add-zero a) (ap (λ x. list (rows x)) (seg_cong (row_at k m kids c) (read_with k.at s.child) p (item w s.offsets a) y g.new))))
      (grown_added d l h (encode w p) (encode w y) 1 c (rw length_encode (omega arith)) (rw length_encode (omega arith)) g.fine' (omega (arith, g.len_is)) g.old (omega (arith, g.len_is))
      (below_one (λ i. item w (encode w p) i + item w (encode w y) i ≤ c.len) (rw (ip, iy) (omega (arith, g.len_is)))))

  -- n rows of offset 0 and size 0 behind d
  null_put : (n l : ℕ) (b vs : ℕ → Bool) (want : ℕ → Row) (d : Lists D) → ((i : ℕ) → vs i ≡ false) → Fit d l
      → Put see (λ b. Fit) (λ d. Unit {0}) b d l n vs want (record { buffer1 = d.buffer1 ++ replicate (n * w) 0; buffer2 = d.buffer2 ++ replicate (n * w) 0; child = d.child })
  null_put n l b vs want d none h =
      let a = grown_added d l h (replicate (n * w) 0) (replicate (n * w) 0) n d.child (length-replicate _ _) (length-replicate _ _) h.child_fine (omega arith) (λ i q. refl) h.fits
      (λ i q. rw item_zeros (omega arith)) in
      record { ends = λ b' e f. a.ends; old = a.old; new = λ i q t. absurd (rw none at t); keeps = a.keeps }

module _ (w : ℕ) {P D : Type 0} (k : Kind P D) (m : ℕ) (xs : ℕ → Array (ListView P))
    (good : (j : ℕ) → j < m → Obeys true (ListViewRule w (Obeys k.masks k.rule)) (xs j)) (law : Law k m (λ i. (xs i).body.child)) where
  abbrev kids_of : ℕ → Array P
  kids_of = λ i. (xs i).body.child

  masked : (j : ℕ) → j < m → Mask k.masks (kids_of j).valid ((kids_of j).off + (kids_of j).len)
  masked j q = (good j q).slots.child_rule.mask

  row_step : (j : ℕ) → j < m
      → Step (see w k m kids_of) (Fit w k m kids_of) (λ d. Unit {0}) (list_kind w k m kids_of).held
      (list_row w (extend_node k.masks k.ext kids_of j) (xs j).body) (list_view_row w k.ask (xs j).body) (Entry w (xs j).body) (list_view_at w k.at (xs j).body)
  row_step j hj a l d e h =
      let s = (xs j).body in
      agrees_guard _ _ 6 (ap (λ x. ltb (x + item w s.sizes a) (half w)) (sym (k.held_rows d.child.«data» d.child.len)))
      (λ t.
      agrees_then _ _ (node_copies k m kids_of law masked j (item w s.offsets a) (item w s.sizes a) d.child hj e.within h.child_fine)
      (λ c g. both_as _ (ap (λ x. counts x 0 (λ e. held_node k.held c)) (add-one l)) (row_added w k m kids_of s a l d c _ h (ltb-true _ _ t) g)))

  pub list_law : Law (list_kind w k m kids_of) m xs
  list_law =
      record {
        copies = λ j a n l b d hj ha hn h.
            steps_put (see w k m kids_of) (Fit w k m kids_of) (λ d. Unit {0}) (list_kind w k m kids_of).held _ _ (Entry w (xs j).body) (list_view_at w k.at (xs j).body) (row_step j hj) a n l b _ d
            (λ i q. let e : (xs j).off + (a + i - (xs j).off) ≡ a + i = omega arith in subst (Entry w (xs j).body) e ((good j hj).slots.entries (a + i - (xs j).off) (omega arith))) h;
        fills = λ n l b d hk h. both _ (null_put w k m kids_of (suc n) l b _ _ d (λ i. refl) h);
        obeys = λ l b d h.
            record {
              hold_offsets = rw zero-add (omega (arith, h.offsets_are));
              hold_sizes = rw zero-add (omega (arith, h.sizes_are));
              entries = λ i q.
                  rw zero-add
                  (record { offset = omega (arith, h.within i q, h.fits); size = omega (arith, h.within i q, h.fits); within = h.within i q });
              child_rule = node_obeys k m kids_of law masked d.child h.child_fine;
            };
      }
