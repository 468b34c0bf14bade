-- Lists are lawful over a lawful child. Assumes nothing.
use mathlib.Core.Path.{◌≡◌, refl, sym, ap, ◌∙◌}
use mathlib.Core.Bool.{Bool, true, false}
use mathlib.Core.List.{List, ◌++◌}
use Prim.Native.Nat.{ℕ, zero, suc, ◌+◌, ◌-◌, ◌≤◌, ◌<◌}
use native.Mathlib.Nat.{add-zero, zero-add, add_assoc}
use native.Mathlib.Omega.{arith}
use lib.Dec.{ltb}
use borrow.Author.Tests.{ltb-true}
use Rattle.columnar.specs.Row.{Row, list, rows, seg}
use Rattle.columnar.specs.Types.{half}
use Rattle.columnar.specs.Array.{Array, item, ok, read_with, Mask, Obeys}
use Rattle.columnar.specs.Plain.{OffsetsRule, empty, full}
use Rattle.columnar.specs.List.{Listed, list_at, ListRule}
use Rattle.model.specs.Grounds.{counts, list_ask}
use Rattle.model.specs.Mutable.{Mutable, extend_node}
use Rattle.model.specs.Lists.{Listings}
use Rattle.model.specs.Held.{held_node}
use Rattle.model.proofs.Agree.{Agrees, both, both_as, agrees_then, agrees_guard}
use Rattle.model.proofs.Law.{Kind, Put, seen, Law, Fine, row_at, Grew}
use Rattle.model.proofs.Node.{node_copies, node_obeys}
use Rattle.model.proofs.Nodes.{OffsetsFine, ListsFine, lists_kind}
use Rattle.model.proofs.Rows.{seg_cong}
use Rattle.model.proofs.TextLaw.{offsets_with, StepsTo, steps_below, old_offset, new_offset, offsets_with_fine, guard_then, Rising, rising_below, new_offsets_lem, repeated_is}
use Rattle.model.proofs.Names.{repeated}

-- ---- a source's offsets, over a part of its rows, of which there is one

pub record Stretch (w : ℕ) (s : List ℕ) (most a n : ℕ) : Type 0 where
  pub rises : Rising (item w s) a n
  pub within : item w s (a + n) ≤ most

stretch : (w : ℕ) (s : List ℕ) (most off len a n : ℕ) → OffsetsRule w s most off len → off ≤ a → a + suc n ≤ off + len → Stretch w s most a (suc n)
stretch w s most off len a n (empty e f) p q = absurd (omega arith)
stretch w s most off len a n (full h) p q =
    let o : ℕ → ℕ = item w s in
    let rise : Rising o off len = λ i r. let e : suc (off + i) ≡ off + i + 1 = omega arith in rw e (h.rises i r) in
    let y : off + (a - off + suc n) ≡ a + suc n = omega arith in
    let last : o (a + suc n) ≤ o (off + len) = rw y at (rising_below o off len rise (a - off + suc n) len (omega arith) (omega arith)) in
    record {
      rises = λ i r. let e : off + (a - off + i) ≡ a + i = omega arith in rw e at (rise (a - off + i) (omega arith));
      within = omega (arith, h.within);
    }

module _ (w : ℕ) {P D : Type 0} (k : Kind P D) (m : ℕ) (kids : ℕ → Array P) where
  abbrev Fit : Listings D → ℕ → Type 0
  Fit = ListsFine w (Fine k m kids)

  abbrev see : Listings D → ℕ → Row
  see = seen (lists_kind w k m kids)

  -- n offsets behind those of d, by steps to x, and its child with x rows behind
  module _ (d : Listings D) (l : ℕ) (h : Fit d l) (n : ℕ) (g : ℕ → ℕ) (x : ℕ) (s : StepsTo n g x) (c : Mutable D) (kid-fine : Fine k m kids c) (longer : c.len ≡ d.child.len + x)
      (same : (i : ℕ) → i < d.child.len → row_at k m kids c i ≡ row_at k m kids d.child i) (fits : d.child.len + x < half w) where
    abbrev grown : Listings D
    grown = record { buffer1 = offsets_with w d.buffer1 d.child.len n g; child = c }

    abbrev old_at : (i : ℕ) → i ≤ l → item w grown.buffer1 i ≡ item w d.buffer1 i
    old_at = old_offset w d.buffer1 d.child.len l h.offsets_fine n g x s fits

    abbrev new_at : (i : ℕ) → i ≤ n → item w grown.buffer1 (l + i) ≡ d.child.len + g i
    new_at = new_offset w d.buffer1 d.child.len l h.offsets_fine n g x s fits

    grown_fine : Fit grown (l + n)
    grown_fine = record { offsets_fine = rw longer (offsets_with_fine w d.buffer1 d.child.len l h.offsets_fine n g x s fits); child_fine = kid-fine }

    grown_old : (i : ℕ) → i < l → see grown i ≡ see d i
    grown_old i q =
        let o : ℕ → ℕ = item w d.buffer1 in
        let u : o (suc i) ≤ d.child.len = rw (← h.offsets_fine.last_is) (steps_below l o h.offsets_fine.rises (suc i) q) in
        rw (old_at i (omega arith), old_at (suc i) (omega arith))
        (ap (λ r. list (rows r)) (seg_cong (row_at k m kids c) (row_at k m kids d.child) (o i) (o i) (o (suc i) - o i) (λ e r. same (o i + e) (omega arith))))

    grown_new : (i : ℕ) → i < n → see grown (l + i) ≡ list (rows (seg (row_at k m kids c) (d.child.len + g i) (g (suc i) - g i)))
    grown_new i q =
        let e : suc (l + i) ≡ l + suc i = omega arith in
        let z : d.child.len + g (suc i) - (d.child.len + g i) ≡ g (suc i) - g i = omega arith in
        rw (e, new_at i (omega arith), new_at (suc i) (omega arith), z)

  -- n rows behind d: the child's rows from its length on are the source's stretch
  module _ (t : Listed P) (a n : ℕ) (p : Stretch w t.offsets t.child.len a n) where
    abbrev from : ℕ → ℕ
    from i = item w t.offsets (a + i) - item w t.offsets a

    above : (i j : ℕ) → i ≤ j → j ≤ n → item w t.offsets (a + i) ≤ item w t.offsets (a + j)
    above i j x y = rising_below (item w t.offsets) a n p.rises i j x y

    copy_steps : StepsTo n from (from n)
    copy_steps = record { first = rw add-zero (omega arith); rises = λ i q. omega (arith, above i (suc i) (omega arith) (omega arith)); last = refl }

    copy_put : (b vs : ℕ → Bool) (d : Listings D) (l z : ℕ) (c : Mutable D) → Fit d l → d.child.len + from n < half w
        → Grew k m kids d.child (from n) z (λ i. read_with k.at t.child (item w t.offsets a + i)) c
        → Put see (λ b. Fit) (λ d. Unit {0}) b d l n vs (λ i. list_at w k.at t (a + i)) (record { buffer1 = offsets_with w d.buffer1 d.child.len n from; child = c })
    copy_put b vs d l z c h fits g =
        record {
          ends = λ b' e f. grown_fine d l h n from (from n) copy_steps c g.fine' g.len_is g.old fits;
          old = grown_old d l h n from (from n) copy_steps c g.fine' g.len_is g.old fits;
          new = λ i q y. grown_new d l h n from (from n) copy_steps c g.fine' g.len_is g.old fits i q ∙ row i q;
          keeps = λ x. x;
        }
      where
        row : (i : ℕ) → i < n → list (rows (seg (row_at k m kids c) (d.child.len + from i) (from (suc i) - from i))) ≡ list_at w k.at t (a + i)
        row i q =
            let o : ℕ → ℕ = item w t.offsets in
            let u : o a ≤ o (a + i) = rw add-zero at (above 0 i (omega arith) (omega arith)) in
            let v : o (a + i) ≤ o (a + suc i) = above i (suc i) (omega arith) (omega arith) in
            let y : o (a + suc i) ≤ o (a + n) = above (suc i) n (omega arith) (omega arith) in
            let e : from (suc i) - from i ≡ o (a + suc i) - o (a + i) = omega arith in
            let z : suc (a + i) ≡ a + suc i = omega arith in
            rw (e, z)
            (ap (λ r. list (rows r))
            (seg_cong (row_at k m kids c) (read_with k.at t.child) (d.child.len + from i) (o (a + i)) (o (a + suc i) - o (a + i))
            (λ j r.
            let f : d.child.len + from i + j ≡ d.child.len + (from i + j) = omega arith in
            let x : o a + (from i + j) ≡ o (a + i) + j = omega arith in
            rw (f, ← x) (g.new (from i + j) (omega arith)))))

  -- n times the last offset behind d
  null_put : (n l : ℕ) (b vs : ℕ → Bool) (want : ℕ → Row) (d : Listings D) → ((i : ℕ) → vs i ≡ false) → Fit d l
      → Put see (λ b. Fit) (λ d. Unit {0}) b d l n vs want (record { buffer1 = d.buffer1 ++ repeated w (item w d.buffer1 l) n; child = d.child })
  null_put n l b vs want d none h =
      let s : StepsTo n (λ i. 0) 0 = record { first = refl; rises = λ i q. omega arith; last = refl } in
      let y : d.child.len + 0 < half w = rw add-zero h.offsets_fine.fits in
      let z : d.child.len ≡ d.child.len + 0 = sym (add-zero d.child.len) in
      rw (h.offsets_fine.last_is, repeated_is w d.child.len 1 n)
      (record {
        ends = λ b' e f. grown_fine d l h n (λ i. 0) 0 s d.child h.child_fine z (λ i q. refl) y;
        old = grown_old d l h n (λ i. 0) 0 s d.child h.child_fine z (λ i q. refl) y;
        new = λ i q t. absurd (rw none at t);
        keeps = λ x. x;
      })

module _ (w : ℕ) {P D : Type 0} (k : Kind P D) (m : ℕ) (xs : ℕ → Array (Listed P))
    (good : (j : ℕ) → j < m → Obeys true (ListRule w (Obeys k.masks k.rule)) (xs j)) (law : Law k m (λ i. (xs i).body.child)) where
  abbrev kids_of : ℕ → Array P
  kids_of = λ i. (xs i).body.child

  masked : (j : ℕ) → j < m → Mask k.masks (kids_of j).valid ((kids_of j).off + (kids_of j).len)
  masked j q = (good j q).slots.child_rule.mask

  pub lists_law : Law (lists_kind w k m kids_of) m xs
  lists_law = record { copies = copied; fills = λ n l b d hk h. both _ (null_put w k m kids_of (suc n) l b _ _ d (λ i. refl) h); obeys = obeyed }
    where
      copied : (j a n l : ℕ) (b : ℕ → Bool) (d : Listings D) → j < m → (xs j).off ≤ a → a + n ≤ (xs j).off + (xs j).len → Fit w k m kids_of d l
          → Agrees (λ e. (lists_kind w k m kids_of).held e (l + n)) (Put (see w k m kids_of) (λ b. Fit w k m kids_of) (λ d. Unit {0}) b d l n (λ i. ok (xs j).valid (a + i)) (λ i. list_at w k.at (xs j).body (a + i)))
          ((lists_kind w k m kids_of).ext (λ i. (xs i).body) j a n l d) (list_ask w k.ask (xs j).body a n ((lists_kind w k m kids_of).held d l))
      copied j a zero l b d hj ha hn h =
          both_as d (ap (λ x. counts x 0 (λ e. held_node k.held d.child)) (add-zero l))
          (record { ends = λ b' e f. rw add-zero h; old = λ i q. refl; new = λ i q. absurd (omega arith); keeps = λ x. x })
      copied j a (suc n) l b d hj ha hn h =
          let s = (xs j).body in
          let p : Stretch w s.offsets s.child.len a (suc n) = stretch w s.offsets s.child.len (xs j).off (xs j).len a n (good j hj).slots.offsets_rule_lem ha hn in
          let o : ℕ → ℕ = item w s.offsets in
          let y : ℕ = o (a + suc n) - o a in
          let u : o a ≤ o (a + suc n) = rw add-zero at (rising_below o a (suc n) p.rises 0 (suc n) (omega arith) (omega arith)) in
          rw (h.offsets_fine.last_is, new_offsets_lem w s.offsets a (suc n) d.child.len p.rises h.offsets_fine.fits, guard_then)
          (agrees_guard (ltb (d.child.len + y) (half w)) _ 6 (ap (λ x. ltb (x + y) (half w)) (sym (k.held_rows d.child.«data» d.child.len)))
          (λ t.
          agrees_then _ _ (node_copies k m kids_of law masked j (o a) y d.child hj (omega (arith, p.within)) h.child_fine)
          (λ c g. both _ (copy_put w k m kids_of s a (suc n) p b _ d l _ c h (ltb-true (d.child.len + y) (half w) t) g))))

      obeyed : (l : ℕ) (b : ℕ → Bool) (d : Listings D) → Fit w k m kids_of d l → ListRule w (Obeys k.masks k.rule) b ((lists_kind w k m kids_of).frz d) 0 l
      obeyed l b d h =
          let o : ℕ → ℕ = item w d.buffer1 in
          let f = h.offsets_fine in
          record {
            offsets_rule_lem = full
                (record {
                  hold = rw f.offsets_are (omega arith);
                  positive = λ i q. rw zero-add (omega (arith, steps_below l o f.rises i q, f.last_is, f.fits));
                  rises = λ i q. let e : 0 + i + 1 ≡ suc i = omega arith in rw (e, zero-add) (f.rises i q);
                  within = rw (zero-add, f.last_is) (omega arith);
                });
            child_rule = node_obeys k m kids_of law masked d.child h.child_fine;
          }
