-- Sparse unions are lawful over lawful children. Assumes nothing.
use mathlib.Core.Path.{◌≡◌, ap, ◌∙◌, subst}
use mathlib.Core.Bool.{Bool, false}
use mathlib.Core.List.{List, ◌++◌, Memᴰ}
use Prim.Native.Nat.{ℕ, suc, ◌+◌, ◌-◌, ◌≤◌, ◌<◌}
use native.Mathlib.Nat.{zero-add}
use native.Mathlib.Omega.{arith}
use lib.ListN.{length, take, drop, get_or, replicate, length-append, length-take, length-drop, length-replicate, get_or-append}
use lib.Seq.{get_or-append-add, get_or-take, get_or-drop}
use Rattle.columnar.specs.Row.{Row, union}
use Rattle.columnar.specs.Array.{Array, ok, nulls_in, read_with, Mask, Obeys}
use Rattle.columnar.specs.Union.{Sparse, SparseRule}
use Rattle.model.specs.Try.{Try, after}
use Rattle.model.specs.Ordered.{home}
use Rattle.model.specs.Grounds.{Counts, counts, sparse_all}
use Rattle.model.specs.Mutable.{Mutable}
use Rattle.model.specs.Unions.{Sparses, sparse_with}
use Rattle.model.specs.Held.{held_node}
use Rattle.model.proofs.Agree.{Agrees, both_as, agrees_map}
use Rattle.model.proofs.Law.{Kind, Put, seen, Law, KeepNode, Fine, row_at, Grew, node_null}
use Rattle.model.proofs.Bits.{get_d_replicate}
use Rattle.model.proofs.Node.{node_copies, node_fills, node_obeys}
use Rattle.model.proofs.Nodes.{SparseFine, sparse_kind}
use Rattle.model.proofs.Pieces.{below_add}
use Rattle.model.proofs.Steps.{Added, added_as, added_put}
use Rattle.model.proofs.Ids.{among_in, among_same, home_mem}
use Rattle.model.proofs.Children.{agrees_from, in_order_lem}

-- ids with more ids behind them
pub old_id : (ids xs : List ℕ) (l : ℕ) → length ids ≡ l → (i : ℕ) → i < l → get_or (ids ++ xs) i 0 ≡ get_or ids i 0
old_id ids xs l e i q = get_or-append ids xs 0 i (omega arith)

pub new_id : (ids xs : List ℕ) (l : ℕ) → length ids ≡ l → (i : ℕ) → get_or (ids ++ xs) (l + i) 0 ≡ get_or xs i 0
new_id ids xs l e i = rw (← e) (get_or-append-add ids xs i 0)

-- a grown child keeps nulls where it did
pub grew_keeps : {P D : Type 0} (k : Kind P D) (m : ℕ) (xs : ℕ → Array P) {d d' : Mutable D} {n c : ℕ} {want : ℕ → Row} → Grew k m xs d n c want d' → KeepNode k.keep d → KeepNode k.keep d'
grew_keeps k m xs g h = record { here = g.keep_same ∙ h.here; below = g.keep_data h.below }

module _ (ids : List ℕ) (nullable : ℕ → Bool) {P D : ℕ → Type 0} (k : (c : ℕ) → Kind (P c) (D c)) (r : ℕ → Row) (m : ℕ) (kids : (c : ℕ) → ℕ → Array (P c)) where
  abbrev Fit : Sparses D → ℕ → Type 0
  Fit = SparseFine ids (λ c. Fine (k c) m (kids c))

  abbrev Keep : Sparses D → Type 0
  Keep d = (c : ℕ) → Memᴰ c ids → KeepNode (k c).keep (d.children c)

  abbrev see : Sparses D → ℕ → Row
  see = seen (sparse_kind ids nullable k r m kids)

  -- row i of child c
  abbrev kid_row : (c : ℕ) → Mutable (D c) → ℕ → Row
  kid_row c = row_at (k c) m (kids c)

  module _ (d : Sparses D) (l n : ℕ) (new : List ℕ) (want : ℕ → (c : ℕ) → Row) (z : ℕ → ℕ) (h : Fit d l) (new_are : length new ≡ n)
      (declared : (i : ℕ) → i < n → Memᴰ (get_or new i 0) ids) where
    abbrev GrewKid : (c : ℕ) → Mutable (D c) → Type 0
    GrewKid c = Grew (k c) m (kids c) (d.children c) n (z c) (λ i. want i c)

    old : (i : ℕ) → i < l → get_or (d.buffer1 ++ new) i 0 ≡ get_or d.buffer1 i 0
    old = old_id d.buffer1 new l h.ids_are

    behind : (i : ℕ) → get_or (d.buffer1 ++ new) (l + i) 0 ≡ get_or new i 0
    behind = new_id d.buffer1 new l h.ids_are

    -- n ids behind d's, and n rows behind each child's
    module _ (f : (c : ℕ) → Mutable (D c)) (g : (c : ℕ) → Memᴰ c ids → GrewKid c (f c)) where
      look : (i : ℕ) {c c' : ℕ} → c ≡ c' → union c (kid_row c (f c) i) ≡ union c' (kid_row c' (f c') i)
      look i e = ap (λ c. union c (kid_row c (f c) i)) e

      grown_added : Added see Fit Keep d l n (λ i. let c = get_or new i 0 in union c (want i c)) (record { buffer1 = d.buffer1 ++ new; children = f })
      grown_added =
          record {
            ends = record {
              ids_are = rw (length-append, h.ids_are, new_are);
              declared = below_add (λ i. Memᴰ (get_or (d.buffer1 ++ new) i 0) ids) l n (λ i q. rw (old i q) (h.declared i q)) (λ i q. rw (behind i) (declared i q));
              kids_are = λ c p. omega (arith, (g c p).len_is, h.kids_are c p);
              kids_fine = λ c p. (g c p).fine';
            };
            old = λ i q. look i (old i q) ∙ ap (union (get_or d.buffer1 i 0)) ((g _ (h.declared i q)).old i (omega (arith, h.kids_are _ (h.declared i q))));
            new = λ i q. look (l + i) (behind i) ∙ ap (union (get_or new i 0)) (rw (h.kids_are _ (declared i q)) at ((g _ (declared i q)).new i q));
            keeps = λ x c p. grew_keeps (k c) m (kids c) (g c p) (x c p);
          }

    -- all children answer, in order
    all_agree : (f : (c : ℕ) → Try (Mutable (D c))) (g : ℕ → Try Counts) → ((c : ℕ) → Memᴰ c ids → Agrees (held_node (k c).held) (GrewKid c) (f c) (g c))
        → Agrees (λ e. (sparse_kind ids nullable k r m kids).held e (l + n)) (Added see Fit Keep d l n (λ i. let c = get_or new i 0 in union c (want i c)))
        (sparse_with ids f new d) (sparse_all ids g (l + n))
    all_agree f g a =
        in_order_lem (λ c. held_node (k c).held) GrewKid f g ids _ _ a
        (λ q.
        both_as _ (ap (counts (l + n) 0) (among_same ids _ _ (λ e p. rw ((q e p).is, (q e p).is_seen))))
        (grown_added (λ c. after (f c) (d.children c)) (λ c p. rw (q c p).is (q c p).holds)))

module _ (ids : List ℕ) (nullable : ℕ → Bool) {P D : ℕ → Type 0} (k : (c : ℕ) → Kind (P c) (D c)) (r : ℕ → Row) (m : ℕ) (xs : ℕ → Array (Sparse P))
    (good : (j : ℕ) → j < m → Obeys false (SparseRule ids (λ c. Obeys (k c).masks (k c).rule)) (xs j))
    (laws : (c : ℕ) → Memᴰ c ids → Law (k c) m (λ i. (xs i).body.children c)) (reads : (c : ℕ) → node_null (k c) ≡ r c) where
  abbrev kids_of : (c : ℕ) → ℕ → Array (P c)
  kids_of c = λ i. (xs i).body.children c

  abbrev K : Kind (Sparse P) (Sparses D)
  K = sparse_kind ids nullable k r m kids_of

  abbrev PutRows : (ℕ → Bool) → Sparses D → ℕ → ℕ → (ℕ → Bool) → (ℕ → Row) → Sparses D → Type 0
  PutRows = Put (see ids nullable k r m kids_of) (λ b. Fit ids nullable k r m kids_of) (Keep ids nullable k r m kids_of)

  masked : (c : ℕ) → Memᴰ c ids → (j : ℕ) → j < m → Mask (k c).masks (kids_of c j).valid ((kids_of c j).off + (kids_of c j).len)
  masked c p j q = ((good j q).slots.child_rule c p).mask

  copy_agrees : (j a n l : ℕ) (b vs : ℕ → Bool) (d : Sparses D) → j < m → (xs j).off ≤ a → a + n ≤ (xs j).off + (xs j).len → Fit ids nullable k r m kids_of d l
      → Agrees (λ e. K.held e (l + n)) (PutRows b d l n vs (λ i. K.at (xs j).body (a + i))) (K.ext (λ i. (xs i).body) j a n l d) (K.ask (xs j).body a n (K.held d l))
  copy_agrees j a n l b vs d hj ha hn h =
      let s = (xs j).body in
      let rule = (good j hj).slots in
      let id : (i : ℕ) → i < n → get_or (take n (drop a s.ids)) i 0 ≡ get_or s.ids (a + i) 0 = λ i q. rw (get_or-take, get_or-drop) in
      let in_range : (i : ℕ) → i < n → Memᴰ (get_or s.ids (a + i) 0) ids
      = λ i q.
      let e : (xs j).off + (a + i - (xs j).off) ≡ a + i = omega arith in
      subst (λ x. Memᴰ (get_or s.ids x 0) ids) e (rule.declared (a + i - (xs j).off) (omega arith)) in
      agrees_map
      (λ e q.
      added_put _ _ _ b vs
      (added_as _ _ _ (λ i q. ap (λ c. union c (read_with (k c).at (s.children c) (a + i))) (id i q)) q))
      (all_agree ids nullable k r m kids_of d l n (take n (drop a s.ids)) (λ i c. read_with (k c).at (s.children c) (a + i))
      (λ c. nulls_in (ok (s.children c).valid) ((s.children c).off + a) n) h
      (simp (length-take, length-drop) (omega (arith, rule.hold)))
      (λ i q. rw (id i q) (in_range i q)) _ _
      (λ c p.
      rw (among_in (λ e. held_node (k e).held (d.children e)) p)
      (node_copies (k c) m (kids_of c) (laws c p) (masked c p) j a n (d.children c) hj (omega (arith, rule.long c p)) (h.kids_fine c p))))

  null_agrees : (n l : ℕ) (b vs : ℕ → Bool) (d : Sparses D) → Keep ids nullable k r m kids_of d → Fit ids nullable k r m kids_of d l
      → Agrees (λ e. K.held e (l + n)) (PutRows b d l n vs (λ i. K.nrow)) (K.nul n l d) (K.ask_n n (K.held d l))
  null_agrees n l b vs d hk h =
      agrees_from (home nullable ids) _ _
      (λ x e.
      agrees_map
      (λ y q. added_put _ _ _ b vs (added_as _ _ _ (λ i q. rw (e, get_d_replicate n i x 0 q, reads x)) q))
      (all_agree ids nullable k r m kids_of d l n (replicate n x) (λ i c. node_null (k c)) (λ c. n) h (length-replicate n x)
      (λ i q. rw (get_d_replicate n i x 0 q) (home_mem nullable ids x e)) _ _
      (λ c p.
      rw (among_in (λ e. held_node (k e).held (d.children e)) p)
      (node_fills (k c) m (kids_of c) (laws c p) (masked c p) n (d.children c) (hk c p) (h.kids_fine c p)))))

  pub sparse_law : Law K m xs
  sparse_law =
      record {
        copies = λ j a n l b d hj ha hn h. copy_agrees j a n l b _ d hj ha hn h;
        fills = λ n l b d hk h. null_agrees (suc n) l b _ d hk h;
        obeys = λ l b d h.
            record {
              hold = omega (arith, h.ids_are);
              declared = λ i q. rw zero-add (h.declared i q);
              long = λ c p. omega (arith, h.kids_are c p);
              child_rule = λ c p. node_obeys (k c) m (kids_of c) (laws c p) (masked c p) (d.children c) (h.kids_fine c p);
            };
      }
