-- Dense unions are lawful over lawful children. Assumes nothing.
use mathlib.Core.Path.{◌≡◌, refl, sym, ap, ◌∙◌, subst, fun_ext}
use mathlib.Core.Bool.{Bool, true, false, cond}
use mathlib.Core.List.{List, [], ◌∷◌, ◌++◌, Memᴰ}
use Prim.Native.Nat.{ℕ, zero, suc, ◌+◌, ◌-◌, ◌*◌, ◌≤◌, ◌<◌}
use native.Mathlib.Nat.{add-zero, zero-add, add-mul}
use native.Mathlib.Numerals.{add-one}
use native.Mathlib.Omega.{arith}
use lib.ListN.{length, get_or, replicate, length-append, length-replicate}
use lib.Dec.{eqb, ltb, leb}
use borrow.Author.Tests.{eqb-true, ltb-true, leb-true}
use Rattle.number.specs.Number.{encode}
use Rattle.number.proofs.Laws.{length_encode}
use Rattle.columnar.specs.Row.{Row, union}
use Rattle.columnar.specs.Types.{half}
use Rattle.columnar.specs.Array.{Array, item, read_with, Mask, Obeys}
use Rattle.columnar.specs.Union.{Dense, DenseRule}
use Rattle.columnar.proofs.Items.{item_left, item_right}
use Rattle.model.specs.Try.{Try, done, after}
use Rattle.model.specs.Ordered.{home}
use Rattle.model.specs.Grounds.{Counts, counts, absent, has, among, with_kid, dense_row as askRow}
use Rattle.model.specs.Mutable.{Mutable, extend_node, nulls_node}
use Rattle.model.specs.Unions.{Denses, at_child, dense_row}
use Rattle.model.specs.Held.{held_node}
use Rattle.model.proofs.Agree.{Agrees, both_as, agrees_map, agrees_guard}
use Rattle.model.proofs.Law.{Kind, Put, seen, Law, KeepNode, Fine, row_at, Grew, node_null}
use Rattle.model.proofs.Bits.{shift, get_d_replicate}
use Rattle.model.proofs.Node.{node_copies, node_fills, node_obeys}
use Rattle.model.proofs.Nodes.{DenseFine, dense_kind}
use Rattle.model.proofs.Pieces.{below_add}
use Rattle.model.proofs.Steps.{Added, added_as, added_put, below_one, Step, steps_put}
use Rattle.model.proofs.Ids.{cond_same, cond_case, among_in, home_mem}
use Rattle.model.proofs.Children.{Did, agrees_both, agrees_from}
use Rattle.model.proofs.ListLaw.{item_entry}
use Rattle.model.proofs.SparseLaw.{old_id, new_id, grew_keeps}
use Rattle.model.proofs.Names.{positions_from}

-- ---- the positions p, p + 1, ..

length_positions : (p n : ℕ) → length (positions_from p n) ≡ n * 4
length_positions p zero = refl
length_positions p (suc n) = rw (length-append, length_encode, length_positions (suc p) n) (omega arith)

item_positions : (p n i : ℕ) → p + n ≤ half 4 → i < n → item 4 (positions_from p n) i ≡ p + i
item_positions p zero i h q = absurd (omega arith)
item_positions p (suc n) zero h q =
    item_left 4 (encode 4 p) (positions_from (suc p) n) 0 1 (omega (arith, length_encode 4 p)) (omega arith) ∙ item_entry 4 p (omega arith) ∙ sym (add-zero p)
item_positions p (suc n) (suc i) h q =
    let e : 1 + i ≡ suc i = omega arith in
    rw e at (item_right 4 (encode 4 p) (positions_from (suc p) n) 1 i (length_encode 4 p)) ∙ item_positions (suc p) n i (omega arith) (omega arith) ∙ shift p i

module _ (ids : List ℕ) (nullable : ℕ → Bool) {P D : ℕ → Type 0} (k : (c : ℕ) → Kind (P c) (D c)) (r : ℕ → Row) (m : ℕ) (kids : (c : ℕ) → ℕ → Array (P c)) where
  abbrev Fit : Denses D → ℕ → Type 0
  Fit = DenseFine ids (λ c. Fine (k c) m (kids c))

  abbrev Keep : Denses D → Type 0
  Keep d = (c : ℕ) → Memᴰ c ids → KeepNode (k c).keep (d.children c)

  abbrev see : Denses D → ℕ → Row
  see = seen (dense_kind ids nullable k r m kids)

  abbrev held_dense : Denses D → ℕ → Counts
  held_dense = (dense_kind ids nullable k r m kids).held

  -- row i of child c
  abbrev kid_row : (c : ℕ) → Mutable (D c) → ℕ → Row
  kid_row c = row_at (k c) m (kids c)

  -- f is the child d, perhaps with rows behind
  record Longer (c : ℕ) (d f : Mutable (D c)) : Type 0 where
    fine' : Fine (k c) m (kids c) f
    longer : d.len ≤ f.len
    same : (i : ℕ) → i < d.len → kid_row c f i ≡ kid_row c d i
    fits : f.len ≤ half 4
    keep' : KeepNode (k c).keep d → KeepNode (k c).keep f

  -- n ids and positions behind d's, and children that may have grown
  module _ (d : Denses D) (l n : ℕ) (new ps : List ℕ) (f : (c : ℕ) → Mutable (D c)) (h : Fit d l) (new_are : length new ≡ n) (ps-are : length ps ≡ n * 4)
      (declared : (i : ℕ) → i < n → Memᴰ (get_or new i 0) ids) (within : (i : ℕ) → i < n → item 4 ps i < (f (get_or new i 0)).len)
      (g : (c : ℕ) → Memᴰ c ids → Longer c (d.children c) (f c)) where
    abbrev grown : Denses D
    grown = record { buffer1 = d.buffer1 ++ new; buffer2 = d.buffer2 ++ ps; children = f }

    old : (i : ℕ) → i < l → get_or (d.buffer1 ++ new) i 0 ≡ get_or d.buffer1 i 0
    old = old_id d.buffer1 new l h.ids_are

    behind : (i : ℕ) → get_or (d.buffer1 ++ new) (l + i) 0 ≡ get_or new i 0
    behind = new_id d.buffer1 new l h.ids_are

    old_place : (i : ℕ) → i < l → item 4 (d.buffer2 ++ ps) i ≡ item 4 d.buffer2 i
    old_place i q = item_left 4 d.buffer2 ps i l (omega (arith, h.positions_are)) q

    place_behind : (i : ℕ) → item 4 (d.buffer2 ++ ps) (l + i) ≡ item 4 ps i
    place_behind i = item_right 4 d.buffer2 ps l i h.positions_are

    grown_fine : Fit grown (l + n)
    grown_fine =
        record {
          ids_are = rw (length-append, h.ids_are, new_are);
          positions_are = rw (length-append, add-mul) (omega (arith, h.positions_are));
          declared = below_add (λ i. Memᴰ (get_or (d.buffer1 ++ new) i 0) ids) l n (λ i q. rw (old i q) (h.declared i q)) (λ i q. rw (behind i) (declared i q));
          within = below_add (λ i. item 4 (d.buffer2 ++ ps) i < (f (get_or (d.buffer1 ++ new) i 0)).len) l n
              (λ i q. rw (old i q, old_place i q) (omega (arith, h.within i q, (g _ (h.declared i q)).longer))) (λ i q. rw (behind i, place_behind i) (within i q));
          fits = λ c p. (g c p).fits;
          kids_fine = λ c p. (g c p).fine';
        }

    grown_added : Added see Fit Keep d l n (λ i. let c = get_or new i 0 in union c (kid_row c (f c) (item 4 ps i))) grown
    grown_added =
        record {
          ends = grown_fine;
          old = λ i q. rw (old i q, old_place i q) (ap (union (get_or d.buffer1 i 0)) ((g _ (h.declared i q)).same _ (h.within i q)));
          new = λ i q. rw (behind i, place_behind i);
          keeps = λ x c p. (g c p).keep' (x c p);
        }

  -- n rows behind child c alone
  module _ (d : Denses D) (l n c : ℕ) (h : Fit d l) (p : Memᴰ c ids) (f : (e : ℕ) → Try (Mutable (D e))) (want : ℕ → Row) (z : ℕ) (s : Try Counts)
      (q : Did (held_node (k c).held) (Grew (k c) m (kids c) (d.children c) n z want) (f c) s) where
    abbrev changed : (e : ℕ) → Mutable (D e)
    changed = at_child c f d.children

    after_is : after (f c) (d.children c) ≡ q.value
    after_is = rw q.is

    changed_is : changed c ≡ q.value
    changed_is = cond_same c (after (f c) (d.children c)) (d.children c) ∙ after_is

    value_longer : (d.children c).len + n ≤ half 4 → Longer c (d.children c) q.value
    value_longer room =
        let g = q.holds in
        record {
          fine' = g.fine';
          longer = omega (arith, g.len_is);
          same = g.old;
          fits = omega (arith, g.len_is);
          keep' = grew_keeps (k c) m (kids c) g;
        }

    -- the others are untouched
    changed_longer : (d.children c).len + n ≤ half 4 → (e : ℕ) → Memᴰ e ids → Longer e (d.children e) (changed e)
    changed_longer room e t =
        cond_case (Longer e (d.children e)) e c (after (f e) (d.children e)) (d.children e)
        (λ x. subst (λ b. Longer b (d.children b) (after (f b) (d.children b))) (sym x) (rw after_is (value_longer room)))
        (record { fine' = h.kids_fine e t; longer = omega arith; same = λ i q. refl; fits = h.fits e t; keep' = λ x. x })

    changed_held : among ids (λ e. held_node (k e).held (changed e)) ≡ with_kid (held_dense d l) c (held_node (k c).held q.value)
    changed_held = fun_ext (λ x. go x (eqb x c) refl)
      where
        go : (x : ℕ) (b : Bool) → eqb x c ≡ b
            → cond (has ids x) (held_node (k x).held (cond b (after (f x) (d.children x)) (d.children x))) absent
            ≡ cond b (held_node (k c).held q.value) (among ids (λ e. held_node (k e).held (d.children e)) x)
        go x true e =
            subst (λ y. among ids (λ y. held_node (k y).held (after (f y) (d.children y))) y ≡ held_node (k c).held q.value) (sym (eqb-true x c e))
            (among_in (λ y. held_node (k y).held (after (f y) (d.children y))) p ∙ ap (held_node (k c).held) after_is)
        go x false e = refl

    kid_agrees : (new ps : List ℕ) (l' : ℕ) → l + n ≡ l' → length new ≡ n → length ps ≡ n * 4 → ((i : ℕ) → i < n → get_or new i 0 ≡ c)
        → ((i : ℕ) → i < n → item 4 ps i ≡ (d.children c).len + i) → (d.children c).len + n ≤ half 4
        → Agrees (λ e. held_dense e (l + n)) (Added see Fit Keep d l n (λ i. union c (want i)))
        (done (record { buffer1 = d.buffer1 ++ new; buffer2 = d.buffer2 ++ ps; children = changed }))
        (done (counts l' 0 (with_kid (held_dense d l) c (held_node (k c).held q.value))))
    kid_agrees new ps l' e new_are ps-are id place room =
        both_as _ (rw (e, changed_held))
        (added_as see Fit Keep (λ i y. rw (id i y, place i y, changed_is) (ap (union c) (q.holds.new i y)))
        (grown_added d l n new ps changed h new_are ps-are (λ i y. rw (id i y) p) (λ i y. rw (id i y, place i y, changed_is) (omega (arith, q.holds.len_is))) (changed_longer room)))

module _ (ids : List ℕ) (nullable : ℕ → Bool) {P D : ℕ → Type 0} (k : (c : ℕ) → Kind (P c) (D c)) (r : ℕ → Row) (m : ℕ) (xs : ℕ → Array (Dense P))
    (good : (j : ℕ) → j < m → Obeys false (DenseRule ids (λ c. Obeys (k c).masks (k c).rule)) (xs j))
    (laws : (c : ℕ) → Memᴰ c ids → Law (k c) m (λ i. (xs i).body.children c)) (reads : (c : ℕ) → node_null (k c) ≡ r c) where
  abbrev kids_of : (c : ℕ) → ℕ → Array (P c)
  kids_of c = λ i. (xs i).body.children c

  abbrev K : Kind (Dense P) (Denses D)
  K = dense_kind ids nullable k r m kids_of

  abbrev FitK : Denses D → ℕ → Type 0
  FitK = Fit ids nullable k r m kids_of

  abbrev KeepK : Denses D → Type 0
  KeepK = Keep ids nullable k r m kids_of

  masked : (c : ℕ) → Memᴰ c ids → (j : ℕ) → j < m → Mask (k c).masks (kids_of c j).valid ((kids_of c j).off + (kids_of c j).len)
  masked c p j q = ((good j q).slots.child_rule c p).mask

  -- a slot of a source: its id is declared, its position within the child
  abbrev From : ℕ → ℕ → Type 0
  From j a = Memᴰ (get_or (xs j).body.ids a 0) ids × (item 4 (xs j).body.positions a < (kids_of (get_or (xs j).body.ids a 0) j).len)

  row_step : (j : ℕ) → j < m
      → Step (seen K) FitK KeepK K.held (dense_row (λ c. extend_node (k c).masks (k c).ext (kids_of c) j) (xs j).body) (askRow (λ c. (k c).ask) (xs j).body) (From j) (K.at (xs j).body)
  row_step j hj a l d (p, w) h =
      let s = (xs j).body in
      let c = get_or s.ids a 0 in
      let o = item 4 s.positions a in
      rw (among_in (λ e. held_node (k e).held (d.children e)) p)
      (agrees_guard _ _ 6 (ap (λ x. ltb x (half 4)) (sym ((k c).held_rows (d.children c).«data» (d.children c).len)))
      (λ t.
      agrees_both _ _ (node_copies (k c) m (kids_of c) (laws c p) (masked c p) j o 1 (d.children c) hj (omega arith) (h.kids_fine c p))
      (λ q.
      let room : (d.children c).len < half 4 = ltb-true _ _ t in
      agrees_map
      (λ e. added_as (seen K) FitK KeepK (below_one (λ i. union c (read_with (k c).at (s.children c) (o + i)) ≡ K.at s (a + i)) (rw (add-zero o, add-zero a))))
      (kid_agrees ids nullable k r m kids_of d l 1 c h p (λ e. extend_node (k e).masks (k e).ext (kids_of e) j o 1 (d.children e)) _ _ _ q
      (c ∷ []) (encode 4 (d.children c).len) (suc l) (add-one l) refl (length_encode 4 (d.children c).len) (below_one (λ i. get_or (c ∷ []) i 0 ≡ c) refl)
      (below_one (λ i. item 4 (encode 4 (d.children c).len) i ≡ (d.children c).len + i) (rw add-zero (item_entry 4 (d.children c).len room))) (omega arith)))))

  in_range : (j a n : ℕ) → j < m → (xs j).off ≤ a → a + n ≤ (xs j).off + (xs j).len → (i : ℕ) → i < n → From j (a + i)
  in_range j a n hj ha hn i q =
      let e : (xs j).off + (a + i - (xs j).off) ≡ a + i = omega arith in
      let rule = (good j hj).slots in
      subst (From j) e (rule.declared (a + i - (xs j).off) (omega arith), rule.within (a + i - (xs j).off) (omega arith))

  null_agrees : (n l : ℕ) (b vs : ℕ → Bool) (d : Denses D) → KeepK d → FitK d l
      → Agrees (λ e. K.held e (l + n)) (Put (seen K) (λ b. FitK) KeepK b d l n vs (λ i. K.nrow)) (K.nul n l d) (K.ask_n n (K.held d l))
  null_agrees n l b vs d hk h =
      agrees_from (home nullable ids) _ _
      (λ c e.
      let p = home_mem nullable ids c e in
      rw (among_in (λ e. held_node (k e).held (d.children e)) p)
      (agrees_guard _ _ 6 (ap (λ x. leb (x + n) (half 4)) (sym ((k c).held_rows (d.children c).«data» (d.children c).len)))
      (λ t.
      agrees_both _ _ (node_fills (k c) m (kids_of c) (laws c p) (masked c p) n (d.children c) (hk c p) (h.kids_fine c p))
      (λ q.
      let room : (d.children c).len + n ≤ half 4 = leb-true _ _ t in
      agrees_map
      (λ x y. added_put (seen K) FitK KeepK b vs (added_as (seen K) FitK KeepK (λ i z. rw (e, reads c)) y))
      (kid_agrees ids nullable k r m kids_of d l n c h p (λ e. nulls_node (k e).masks (k e).nul n (d.children e)) (λ i. node_null (k c)) n _ q
      (replicate n c) (positions_from (d.children c).len n) (l + n) refl (length-replicate n c) (length_positions (d.children c).len n) (λ i y. get_d_replicate n i c 0 y)
      (λ i y. item_positions (d.children c).len n i room y) room)))))

  pub dense_law : Law K m xs
  dense_law =
      record {
        copies = λ j a n l b d hj ha hn h. steps_put (seen K) FitK KeepK K.held _ _ (From j) (K.at (xs j).body) (row_step j hj) a n l b _ d (in_range j a n hj ha hn) h;
        fills = λ n l b d hk h. null_agrees (suc n) l b _ d hk h;
        obeys = λ l b d h.
            record {
              hold_ids = omega (arith, h.ids_are);
              hold_positions = omega (arith, h.positions_are);
              declared = λ i q. rw zero-add (h.declared i q);
              positive = λ i q. rw zero-add (omega (arith, h.within i q, h.fits _ (h.declared i q)));
              within = λ i q. rw zero-add (h.within i q);
              child_rule = λ c p. node_obeys (k c) m (kids_of c) (laws c p) (masked c p) (d.children c) (h.kids_fine c p);
            };
      }
