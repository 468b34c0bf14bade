-- The running null count of every node is that of its bits: finishing by the counter, as the Rust does, is finishing by the bits. Assumes nothing.
use mathlib.Core.Path.{◌≡◌, refl, sym, ap, ap₂, ◌∙◌, subst}
use mathlib.Core.Bool.{Bool, true, false, cond}
use mathlib.Core.Option.{Option, none, some}
use mathlib.Core.List.{List, [], ◌∷◌}
use Prim.Native.Nat.{ℕ, zero, suc, ◌+◌, ◌<◌}
use native.Mathlib.Nat.{zero-add, add-zero}
use native.Mathlib.Omega.{arith}
use lib.ListN.{length, get_or}
use lib.Dec.{eqb}
use borrow.Author.Tests.{ne_eqb}
use Rattle.columnar.specs.Row.{seg}
use Rattle.columnar.specs.Types.{Plain, Ty, t_plain, t_view, t_list_view, t_list, t_sparse, t_dense, t_run_end, t_dictionary}
use Rattle.columnar.specs.Array.{Array, ok, nulls_in, Obeys}
use Rattle.columnar.specs.Plain.{PlainBody, PlainRule}
use Rattle.columnar.specs.Dictionary.{Dictionary}
use Rattle.columnar.specs.Reading.{Column, masks, Source}
use Rattle.model.specs.Try.{Try, done, stop, then, after}
use Rattle.model.specs.Opening.{keeps, shared, present}
use Rattle.model.specs.Mutable.{Mutable, zeros, pack, grow, validity, extend_node, start_node, freeze_node}
use Rattle.model.specs.Primitive.{plain_start, plain_extend}
use Rattle.model.specs.Transform.{Grown, Destination, freeze_data, joined_from, the_dictionary, into_builder}
use Rattle.model.specs.Counters.{validity_by, count_by, ByCounter, Bare, ByCounters, FinishedBy}
use Rattle.model.proofs.Law.{BitsFor, CountFor, FineNode}
use Rattle.model.proofs.Nodes.{FineOf}
use Rattle.model.proofs.Node.{valid_bit_lem, grow_count}
use Rattle.model.proofs.Start.{no_null_in, none_has}
use Rattle.model.proofs.Joined.{joined}
use Rattle.model.proofs.Names.{counted}

-- ---- null counts of finished bits

list_nulls_lem : (l : List Bool) (f : ℕ → Bool) (a : ℕ) → ((i : ℕ) → i < length l → f (a + i) ≡ get_or l i false) → nulls_in f a (length l) ≡ zeros l
list_nulls_lem [] f a h = refl
list_nulls_lem (b ∷ l) f a h =
    ap₂ (λ x y. cond x 0 1 + y) (ap f (sym (add-zero a)) ∙ h 0 (omega arith))
    (list_nulls_lem l f (suc a) (λ i q. let e : suc a + i ≡ a + suc i = omega arith in ap f e ∙ h (suc i) (omega arith)))

none_null : (f : ℕ → Bool) (a n : ℕ) → ((i : ℕ) → f i ≡ true) → nulls_in f a n ≡ 0
none_null f a zero h = refl
none_null f a (suc n) h = rw (h a, none_null f (suc a) n h)

pub bits_count : (masks : Bool) (b : Option (List Bool)) (n c : ℕ) → BitsFor masks b n → CountFor masks b c → nulls_in (ok (validity masks b)) 0 n ≡ count_by masks b c
bits_count masks none n c h e = none_null _ 0 n (λ i. refl)
bits_count false (some l) n c h e = none_null _ 0 n (λ i. refl)
bits_count true (some l) n c h e =
    subst (λ n. nulls_in (ok (validity true (some l))) 0 n ≡ c) h
    (list_nulls_lem l (ok (validity true (some l))) 0 (λ i q. ap (ok (validity true (some l))) (zero-add i) ∙ valid_bit_lem true (some l) (length l) i refl q) ∙ sym e)

-- validity by the counter is validity by the bits
bits_by : (masks : Bool) (b : Option (List Bool)) (c : ℕ) → CountFor masks b c → validity masks b ≡ validity_by masks b c
bits_by masks none c e = refl
bits_by false (some l) c e = refl
bits_by true (some l) c e = go (zeros l) ∙ ap (validity_by true (some l)) (sym e)
  where
    go : (k : ℕ) → ◌≡◌ {A = Option (List ℕ)} (elim k [ zero ↦ none | suc n ↦ some (pack l) ]) (validity_by true (some l) k)
    go zero = refl
    go (suc k) = rw (ne_eqb (suc k) 0 (λ z. omega arith)) refl

-- ---- one node

node_by : {P D : Type 0} (masks : Bool) (f : D → P) (inner : D → P → Type 0) (d : Mutable D) → BitsFor masks d.bits d.len → CountFor masks d.bits d.null_count
    → inner d.«data» (f d.«data») → ByCounter masks inner d (freeze_node masks f d)
node_by masks f inner d b c h =
    record { len_is = refl; valid_is = bits_by masks d.bits d.null_count c; count_is = bits_count masks d.bits d.len d.null_count b c; below = h }

-- run ends keep no bits
ends_by : (d : Mutable (List ℕ)) → d.bits ≡ none → ByCounter {P = List ℕ} true Bare d (freeze_node true (λ b. b) d)
ends_by d e =
    record {
      len_is = refl;
      valid_is = ap (validity true) e ∙ ap (λ b. validity_by true b d.null_count) (sym e);
      count_is = ap (λ b. nulls_in (ok (validity true b)) 0 d.len) e ∙ none_null _ 0 d.len (λ i. refl) ∙ ap (λ b. count_by true b d.null_count) (sym e);
      below = tt;
    }

-- ---- a joined dictionary

then_counted : {A D : Type 0} (P : Mutable D → Type 0) (t : Try A) (f : A → Mutable D) (e : Mutable D) → then t (λ b. done (f b)) ≡ done e → ((b : A) → P (f b)) → P e
then_counted P (done b) f e h k = let z : f b ≡ e = cc h in subst P z (k b)
then_counted P (stop g) f e h k = absurd (let z : ◌≡◌ {A = ℕ} 0 1 = cc h in omega arith)

module _ (p : Plain) (vs : ℕ → Array (PlainBody p)) where
  abbrev Right : Mutable (PlainBody p) → Type 0
  Right d = CountFor true d.bits d.null_count

  start_right : (b : Bool) → Right (start_node b (plain_start p))
  start_right true = refl
  start_right false = refl

  joined_right : (j : ℕ) (d e : Mutable (PlainBody p)) → Right d → joined_from p vs j d ≡ done e → Right e
  joined_right zero d e h q = let z : d ≡ e = cc q in subst Right z h
  joined_right (suc j) d e h q = go (joined_from p vs j d) (λ x r. joined_right j d x h r) q
    where
      go : (t : Try (Mutable (PlainBody p))) → ((x : Mutable (PlainBody p)) → t ≡ done x → Right x) → then t (λ x. extend_node true (λ ss i. plain_extend p (ss i)) vs j 0 (vs j).len x) ≡ done e → Right e
      go (done x) r q =
          let bs = seg (ok (vs j).valid) ((vs j).off + 0) (vs j).len in
          then_counted Right (plain_extend p (vs j).body ((vs j).off + 0) (vs j).len x.len x.«data»)
          (λ b. record { len = x.len + (vs j).len; null_count = x.null_count + counted x.bits (zeros bs); bits = grow true bs x.bits; «data» = b }) e q
          (λ b. grow_count true bs x.bits x.null_count (r x refl))
      go (stop g) r q = absurd (let z : ◌≡◌ {A = ℕ} 0 1 = cc q in omega arith)

module _ (p : Plain) (m : ℕ) (ds : ℕ → Dictionary (PlainBody p)) (g : (j : ℕ) → j < m → Obeys true (PlainRule p) (ds j).values) where
  abbrev begin : Mutable (PlainBody p)
  begin = start_node (keeps false m (λ i. (ds i).values)) (plain_start p)

  abbrev by : Bool → Try (Mutable (PlainBody p)) → Try (Array (PlainBody p))
  by b t = elim b [ true ↦ done (present (ds 0).values) | false ↦ then t (λ e. done (freeze_node true (λ b. b) e)) ]

  values_by : shared m ds ≡ false → (e : Mutable (PlainBody p)) → joined_from p (λ i. (ds i).values) m begin ≡ done e → ByCounter true Bare e (after (the_dictionary p m ds) (ds 0).values)
  values_by s e h =
      subst (ByCounter true Bare e) (sym is_joined)
      (node_by true (λ b. b) Bare e (joined p m ds g m (omega arith) e h).bits_are
      (joined_right p (λ i. (ds i).values) m begin e (start_right p (λ i. (ds i).values) (keeps false m (λ i. (ds i).values))) h) tt)
    where
      is_joined : after (the_dictionary p m ds) (ds 0).values ≡ freeze_node true (λ b. b) e
      is_joined = ap₂ (λ b t. after (by b t) (ds 0).values) s h

-- ---- every type

-- a node, where what is below it is known
fine_by : (t : Ty) (m : ℕ) (ss : ℕ → Column t)
    → ((b : ℕ → Bool) (d : Grown t) (l : ℕ) → FineOf t m (λ i. (ss i).body) b d l → ByCounters t m (λ i. (ss i).body) d (freeze_data t m (λ i. (ss i).body) d))
    → (d : Destination t) → FineNode (masks t) (FineOf t m (λ i. (ss i).body)) m ss d → FinishedBy t m ss d (into_builder t m ss d)
fine_by t m ss f d h =
    node_by (masks t) (freeze_data t m (λ i. (ss i).body)) (ByCounters t m (λ i. (ss i).body)) d h.bits_are h.count_is (f _ d.«data» d.len h.data_fine)

data_by : (t : Ty) (m : ℕ) (ss : ℕ → Column t) → ((j : ℕ) → j < m → Source t (ss j)) → (b : ℕ → Bool) (d : Grown t) (l : ℕ) → FineOf t m (λ i. (ss i).body) b d l
    → ByCounters t m (λ i. (ss i).body) d (freeze_data t m (λ i. (ss i).body) d)
data_by (t_plain p) m ss s b d l h = tt
data_by t_view m ss s b d l h = tt
data_by (t_list_view w t) m ss s b d l h =
    fine_by t m (λ i. (ss i).body.child) (data_by t m (λ i. (ss i).body.child) (λ j q. (s j q).slots.child_rule)) d.child h.child_fine
data_by (t_list w t) m ss s b d l h =
    fine_by t m (λ i. (ss i).body.child) (data_by t m (λ i. (ss i).body.child) (λ j q. (s j q).slots.child_rule)) d.child h.child_fine
data_by (t_sparse ids nullable f) m ss s b d l h = λ c q.
    fine_by (f c) m (λ i. (ss i).body.children c) (data_by (f c) m (λ i. (ss i).body.children c) (λ j y. (s j y).slots.child_rule c q)) (d.children c) (h.kids_fine c q)
data_by (t_dense ids nullable f) m ss s b d l h = λ c q.
    fine_by (f c) m (λ i. (ss i).body.children c) (data_by (f c) m (λ i. (ss i).body.children c) (λ j y. (s j y).slots.child_rule c q)) (d.children c) (h.kids_fine c q)
data_by (t_run_end w t) m ss s b d l h = (
  ends_by d.ends h.no_bits,
  fine_by t m (λ i. (ss i).body.values) (data_by t m (λ i. (ss i).body.values) (λ j q. (s j q).slots.child_rule)) d.values h.values_fine,
)
data_by (t_dictionary k p) m ss s b d l h = values_by p m (λ i. (ss i).body) (λ j q. (s j q).slots.child_rule)

-- EVERY NODE IS FINISHED AS BY ITS COUNTER
pub finished_by : (t : Ty) (m : ℕ) (ss : ℕ → Column t) → ((j : ℕ) → j < m → Source t (ss j)) → (d : Destination t) → FineNode (masks t) (FineOf t m (λ i. (ss i).body)) m ss d
    → FinishedBy t m ss d (into_builder t m ss d)
finished_by t m ss s d h = fine_by t m ss (data_by t m ss s) d h
