-- THE BOOK: the rows of a destination after any list of orders, refused ones included. Assumes nothing.
use mathlib.Core.Path.{◌≡◌, refl, sym, ap, ap₂, ◌∙◌}
use mathlib.Core.Bool.{Bool, true, false, ◌&&◌}
use mathlib.Core.Option.{Option, none, some}
use mathlib.Core.List.{List, [], ◌∷◌, ◌++◌, append-nil, append_assoc}
use Prim.Native.Nat.{ℕ, zero, suc, ◌+◌, ◌-◌, ◌≤◌, ◌<◌}
use native.Mathlib.Nat.{add-zero, zero-add, add_assoc}
use native.Mathlib.Omega.{arith}
use lib.Dec.{ltb, leb}
use borrow.Author.Tests.{ltb-true, leb-true}
use Rattle.columnar.specs.Row.{Row, seg}
use Rattle.columnar.specs.Types.{Ty}
use Rattle.columnar.specs.Array.{Array, ok, nulls_in}
use Rattle.columnar.specs.Reading.{Body, Column, read, read_all, masks, Source}
use Rattle.model.specs.Try.{Try, done, stop, after}
use Rattle.model.specs.Ordered.{null_row}
use Rattle.model.specs.Grounds.{Counts}
use Rattle.model.specs.Book.{Call, copy, nulls, answer, entered, book, nulls_entered, book_nulls}
use Rattle.model.specs.Mutable.{Mutable, keeps_bits}
use Rattle.model.specs.Transform.{Grown, Destination, into_builder, try_extend, try_extend_nulls}
use Rattle.model.specs.Orders.{perform, perform_all}
use Rattle.model.specs.Held.{held}
use Rattle.model.proofs.Agree.{Agrees, both, neither, agrees_map, agrees_guard}
use Rattle.model.proofs.Law.{Kind, Law, FineNode, KeepNode, Fine, Grew, node_null}
use Rattle.model.proofs.Nodes.{FineOf, KeepOf, kind_of, null_is}
use Rattle.model.proofs.Node.{node_copies, node_fills}
use Rattle.model.proofs.Rows.{seg_cong, seg_append, seg_same}
use Rattle.model.proofs.Names.{keeps_nulls, counted}

pub and_left : (a b : Bool) → a && b ≡ true → a ≡ true
and_left true b e = refl
and_left false b e = e

pub and_right : (a b : Bool) → a && b ≡ true → b ≡ true
and_right true b e = e
and_right false b e = absurd (let z : false ≡ true = e in let y : ◌≡◌ {A = ℕ} 0 1 = cc in omega arith)

-- what is counted, by whether nulls are kept
abbrev pub counted_if : Bool → ℕ → ℕ
counted_if true n = n
counted_if false n = 0

module _ (t : Ty) (m : ℕ) (ss : ℕ → Column t) (law : Law (kind_of t m (λ i. (ss i).body)) m ss) (good : (j : ℕ) → j < m → Source t (ss j)) where
  abbrev K : Kind (Body t) (Grown t)
  K = kind_of t m (λ i. (ss i).body)

  -- the rows of the finished array
  abbrev pub finished : Destination t → List Row
  finished d = read_all t (into_builder t m ss d)

  -- a destination between two orders
  pub record State (keep : Bool) (d : Destination t) : Type 0 where
    pub fine : FineNode (masks t) (FineOf t m (λ i. (ss i).body)) m ss d
    pub keeps_is : keeps_nulls d ≡ keep
    pub keeps_below : keep ≡ true → KeepOf t d.«data»

  grew_rows : (d d' : Destination t) (n c : ℕ) (want : ℕ → Row) → Grew K m ss d n c want d' → finished d' ≡ finished d ++ seg want 0 n
  grew_rows d d' n c want g =
      rw g.len_is
      (seg_append (read t (into_builder t m ss d')) 0 d.len n
      ∙ ap₂ ◌++◌ (seg_cong _ _ 0 0 d.len (λ i q. rw (zero-add i) (g.old i q)))
      (seg_cong _ want (0 + d.len) 0 n (λ i q. rw (zero-add d.len, zero-add i) (g.new i q))))

  -- an order that is carried out
  pub record Did (keep : Bool) (o : Call) (d d' : Destination t) : Type 0 where
    pub state : State keep d'
    pub rows_are : finished d' ≡ finished d ++ entered t keep m ss o
    pub count_is : d'.null_count ≡ d.null_count + counted_if keep (nulls_entered t keep m ss o)

  counted_if_lem : (keep : Bool) (d : Destination t) (n : ℕ) → keeps_nulls d ≡ keep → counted d.bits n ≡ counted_if keep n
  counted_if_lem keep d n e = rw (← e) (go d.bits)
    where
      go : (b : Option (List Bool)) → counted b n ≡ counted_if (keeps_bits b) n
      go none = refl
      go (some l) = refl

  did : (keep : Bool) (o : Call) (d : Destination t) → State keep d → (n : ℕ) (want : ℕ → Row) → seg want 0 n ≡ entered t keep m ss o
      → (d' : Destination t) → Grew K m ss d n (nulls_entered t keep m ss o) want d' → Did keep o d d'
  did keep o d st n want e d' g =
      record {
        state = record { fine = g.fine'; keeps_is = g.keep_same ∙ st.keeps_is; keeps_below = λ k. g.keep_data (st.keeps_below k) };
        rows_are = grew_rows d d' n _ want g ∙ ap (finished d ++◌) e;
        count_is = g.count_more ∙ ap (d.null_count +◌) (counted_if_lem keep d _ st.keeps_is);
      }

  -- ONE ORDER: carried out or refused as the grounds say; carried out, it adds its rows
  pub one_order : (keep : Bool) (o : Call) (d : Destination t) → State keep d → Agrees (held t) (Did keep o d) (perform t m ss o d) (answer t keep m ss o (held t d))
  one_order keep (copy j a e) d st =
      agrees_guard (ltb j m) (ltb j m) 1 refl
      (λ h.
      agrees_guard (leb a e && leb e (ss j).len) (leb a e && leb e (ss j).len) 2 refl
      (λ k.
      let le : a ≤ e = leb-true a e (and_left (leb a e) (leb e (ss j).len) k) in
      let lt : e ≤ (ss j).len = leb-true e (ss j).len (and_right (leb a e) (leb e (ss j).len) k) in
      let jm : j < m = ltb-true j m h in
      agrees_map (did keep (copy j a e) d st (e - a) (λ i. read t (ss j) (a + i)) (seg_cong _ (read t (ss j)) 0 a (e - a) (λ i q. rw (zero-add i))))
      (node_copies K m ss law (λ j q. (good j q).mask) j a (e - a) d jm (omega arith) st.fine)))
  one_order keep (nulls n) d st =
      agrees_guard (keeps_nulls d) keep 3 st.keeps_is
      (λ h.
      agrees_map (did keep (nulls n) d st n (λ i. node_null K) (ap (λ r. seg (λ i. r) 0 n) (null_is t m (λ i. (ss i).body)) ∙ seg_same (null_row t) 0 n))
      (node_fills K m ss law (λ j q. (good j q).mask) n d (record { here = h; below = st.keeps_below (sym st.keeps_is ∙ h) }) st.fine))

  -- ANY LIST OF ORDERS, from any state
  pub record Done (keep : Bool) (os : List Call) (d d' : Destination t) : Type 0 where
    pub state : State keep d'
    pub rows_are : finished d' ≡ finished d ++ book t keep m ss os (held t d)
    pub count_is : d'.null_count ≡ d.null_count + counted_if keep (book_nulls t keep m ss os (held t d))

  pub all_orders : (keep : Bool) (os : List Call) (d : Destination t) → State keep d → Done keep os d (perform_all t m ss os d)
  all_orders keep [] d st =
      record { state = st; rows_are = sym (append-nil (finished d)); count_is = go keep }
    where
      go : (b : Bool) → d.null_count ≡ d.null_count + counted_if b 0
      go true = omega arith
      go false = omega arith
  all_orders keep (o ∷ os) d st =
      let r = go (one_order keep o d st) (λ d' q. all_orders keep os d' q) in
      record { state = r.state; rows_are = r.rows_are; count_is = r.count_is }
    where
      sum : (b : Bool) (x y z u v : ℕ) → x ≡ y + counted_if b u → y ≡ z + counted_if b v → x ≡ z + counted_if b (v + u)
      sum true x y z u v e f = omega arith
      sum false x y z u v e f = omega arith

      go : {p : Try (Destination t)} {s : Try Counts} → Agrees (held t) (Did keep o d) p s → ((d' : Destination t) → State keep d' → Done keep os d' (perform_all t m ss os d'))
          → record {
            state : State keep (perform_all t m ss os (after p d));
            rows_are : finished (perform_all t m ss os (after p d)) ≡ finished d ++ elim s [ done c ↦ entered t keep m ss o ++ book t keep m ss os c | stop g ↦ book t keep m ss os (held t d) ];
            count_is : (perform_all t m ss os (after p d)).null_count
                ≡ d.null_count + counted_if keep (elim s [ done c ↦ nulls_entered t keep m ss o + book_nulls t keep m ss os c | stop g ↦ book_nulls t keep m ss os (held t d) ]);
          }
      go (both x q) f =
          let r = f x q.state in
          record {
            state = r.state;
            rows_are = r.rows_are ∙ rw (q.rows_are, append_assoc);
            count_is = sum keep _ _ _ _ _ r.count_is q.count_is;
          }
      go (neither g) f = let r = f d st in record { state = r.state; rows_are = r.rows_are; count_is = r.count_is }
