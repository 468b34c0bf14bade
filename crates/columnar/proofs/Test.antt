-- The test of a source agrees with the rules, for every type. Assumes nothing.
use mathlib.Core.Path.{◌≡◌, refl, sym, ap₂, subst}
use mathlib.Core.Logic.{◌⊎◌, inl, inr}
use mathlib.Core.Bool.{Bool, true, false, ◌&&◌, ◌||◌}
use mathlib.Core.Option.{Option, none, some}
use mathlib.Core.List.Memᴰ
use mathlib.Core.List.{List, [], ◌∷◌, Memᴰ}
use Prim.Native.Nat.{ℕ, zero, suc, ◌+◌, ◌*◌, ◌≤◌, ◌<◌}
use native.Mathlib.Decide.{dec_lt}
use native.Mathlib.Omega.{arith}
use lib.ListN.{length}
use lib.Dec.{T, leb, ltb, eqb, leb→le, le→leb, ltb→lt, lt→ltb, eqb→eq, eqb_refl}
use Rattle.columnar.specs.Types.{Number, Plain, fixed, string, Ty, t_plain, t_view, t_list_view, t_list, t_sparse, t_dense, t_run_end, t_dictionary}
use Rattle.columnar.specs.Array.{Array, ok, Mask, Obeys}
use Rattle.columnar.specs.Plain.{PlainBody, OffsetsTo, OffsetsRule, empty, full, PlainRule}
use Rattle.columnar.specs.View.{Views, length_of, Lies, ViewGood, ViewRule}
use Rattle.columnar.specs.ListView.{ListView, Entry, ListViewRule}
use Rattle.columnar.specs.List.{Listed, ListRule}
use Rattle.columnar.specs.Union.{Sparse, Dense, SparseRule, DenseRule}
use Rattle.columnar.specs.RunEnd.{RunEnd, RunEndRule}
use Rattle.columnar.specs.Dictionary.{Dictionary, DictionaryRule}
use Rattle.columnar.specs.Reading.{Body, Column, masks, SlotRule, Source}
use Rattle.columnar.specs.Test.{every, each, member, same, only_if, mask_test, array_test, offsets_to, offsets_rule, plain_test, lies_test, one_view_test, view_test, entry_test, list_view_test, list_test, sparse_test, dense_test, run_end_test, dictionary_test, slot_test, test}

-- a test passes exactly where P holds
pub record Agrees (b : Bool) (P : Type 0) : Type 0 where
  pub sound : T b → P
  pub complete : P → T b

pub turn : {b : Bool} {P Q : Type 0} → Agrees b P → (P → Q) → (Q → P) → Agrees b Q
turn h f g = record { sound = λ t. f (h.sound t); complete = λ q. h.complete (g q) }

pub itself : (b : Bool) → Agrees b (T b)
itself b = record { sound = λ t. t; complete = λ t. t }

pub leb_agrees : (m n : ℕ) → Agrees (leb m n) (m ≤ n)
leb_agrees m n = record { sound = leb→le m n; complete = le→leb m n }

pub ltb_agrees : (m n : ℕ) → Agrees (ltb m n) (m < n)
ltb_agrees m n = record { sound = ltb→lt m n; complete = lt→ltb m n }

pub eqb_agrees : (m n : ℕ) → Agrees (eqb m n) (m ≡ n)
eqb_agrees m n = record { sound = eqb→eq m n; complete = λ e. subst (λ k. T (eqb m k)) e (eqb_refl m) }

and_fst : (a b : Bool) → T (a && b) → T a
and_fst true b h = tt
and_fst false b h = h

and_snd : (a b : Bool) → T (a && b) → T b
and_snd true b h = h
and_snd false b h = absurd h

and_both : (a b : Bool) → T a → T b → T (a && b)
and_both true b h k = k
and_both false b h k = h

pub both : {a b : Bool} {P Q : Type 0} → Agrees a P → Agrees b Q → Agrees (a && b) (P × Q)
both {a} {b} h k =
    record { sound = λ t. (h.sound (and_fst a b t), k.sound (and_snd a b t)); complete = λ p. and_both a b (h.complete p.0) (k.complete p.1) }

or_cases : (a b : Bool) → T (a || b) → T a ⊎ T b
or_cases true b h = inl tt
or_cases false b h = inr h

or_left : (a b : Bool) → T a → T (a || b)
or_left true b h = tt
or_left false b h = absurd h

or_right : (a b : Bool) → T b → T (a || b)
or_right true b h = tt
or_right false b h = h

pub either : {a b : Bool} {P Q : Type 0} → Agrees a P → Agrees b Q → Agrees (a || b) (P ⊎ Q)
either {a} {b} {P} {Q} h k = record { sound = λ t. to (or_cases a b t); complete = from }
  where
    to : T a ⊎ T b → P ⊎ Q
    to (inl t) = inl (h.sound t)
    to (inr t) = inr (k.sound t)

    from : P ⊎ Q → T (a || b)
    from (inl p) = or_left a b (h.complete p)
    from (inr q) = or_right a b (k.complete q)

pub only_if_lem : {b : Bool} {P : Type 0} (a : Bool) → Agrees b P → Agrees (only_if a b) (T a → P)
only_if_lem true h = record { sound = λ t u. h.sound t; complete = λ f. h.complete (f tt) }
only_if_lem false h = record { sound = λ t u. absurd u; complete = λ f. tt }

pub every_out : (p : ℕ → Bool) (n : ℕ) → T (every p n) → (i : ℕ) → i < n → T (p i)
every_out p zero h i q = absurd (omega arith)
every_out p (suc n) h i q = go (dec_lt i n) (every_out p n (and_fst (every p n) (p n) h) i)
  where
    go : Dec (i < n) → (i < n → T (p i)) → T (p i)
    go (yes y) f = f y
    go (no y) f = let e : i ≡ n = omega arith in rw e (and_snd (every p n) (p n) h)

pub every_in : (p : ℕ → Bool) (n : ℕ) → ((i : ℕ) → i < n → T (p i)) → T (every p n)
every_in p zero f = tt
every_in p (suc n) f = and_both (every p n) (p n) (every_in p n (λ i q. f i (omega arith))) (f n (omega arith))

-- for a loop that leaves at the first that fails
pub every_false : (p : ℕ → Bool) (n i : ℕ) → i < n → p i ≡ false → every p n ≡ false
every_false p n i q e = go (every p n) refl
  where
    go : (b : Bool) → every p n ≡ b → b ≡ false
    go true f = absurd (subst T e (every_out p n (subst T (sym f) tt) i q))
    go false f = refl

pub every_agrees : {p : ℕ → Bool} {P : ℕ → Type 0} (n : ℕ) → ((i : ℕ) → Agrees (p i) (P i)) → Agrees (every p n) ((i : ℕ) → i < n → P i)
every_agrees {p} n h =
    record { sound = λ t i q. (h i).sound (every_out p n t i q); complete = λ f. every_in p n (λ i q. (h i).complete (f i q)) }

each_out : (p : ℕ → Bool) (cs : List ℕ) → T (each p cs) → (c : ℕ) → Memᴰ c cs → T (p c)
each_out p [] h c m = absurd (Memᴰ.not-nil m)
each_out p (d ∷ ds) h c m = go (Memᴰ.cases_cons m) (each_out p ds (and_snd (p d) (each p ds) h) c)
  where
    go : (c ≡ d) ⊎ Memᴰ c ds → (Memᴰ c ds → T (p c)) → T (p c)
    go (inl e) f = rw e (and_fst (p d) (each p ds) h)
    go (inr m) f = f m

each_in : (p : ℕ → Bool) (cs : List ℕ) → ((c : ℕ) → Memᴰ c cs → T (p c)) → T (each p cs)
each_in p [] f = tt
each_in p (d ∷ ds) f = and_both (p d) (each p ds) (f d (Memᴰ.head refl)) (each_in p ds (λ c m. f c (Memᴰ.tail m)))

pub each_agrees : {p : ℕ → Bool} {P : ℕ → Type 0} (cs : List ℕ) → ((c : ℕ) → Agrees (p c) (P c)) → Agrees (each p cs) ((c : ℕ) → Memᴰ c cs → P c)
each_agrees {p} cs h =
    record { sound = λ t c m. (h c).sound (each_out p cs t c m); complete = λ f. each_in p cs (λ c m. (h c).complete (f c m)) }

pub member_agrees : (c : ℕ) (ds : List ℕ) → Agrees (member c ds) (Memᴰ c ds)
member_agrees c [] = record { sound = λ t. absurd t; complete = λ m. Memᴰ.not-nil m }
member_agrees c (d ∷ ds) = turn (either (eqb_agrees c d) (member_agrees c ds)) to (λ m. Memᴰ.cases_cons m)
  where
    to : (c ≡ d) ⊎ Memᴰ c ds → Memᴰ c (d ∷ ds)
    to (inl e) = Memᴰ.head e
    to (inr m) = Memᴰ.tail m

same_out : (xs ys : List ℕ) → T (same xs ys) → xs ≡ ys
same_out [] [] h = refl
same_out [] (y ∷ ys) h = absurd h
same_out (x ∷ xs) [] h = absurd h
same_out (x ∷ xs) (y ∷ ys) h = ap₂ (λ a b. a ∷ b) (eqb→eq x y (and_snd (same xs ys) (eqb x y) h)) (same_out xs ys (and_fst (same xs ys) (eqb x y) h))

same_refl : (xs : List ℕ) → T (same xs xs)
same_refl [] = tt
same_refl (x ∷ xs) = and_both (same xs xs) (eqb x x) (same_refl xs) (eqb_refl x)

pub same_agrees : (xs ys : List ℕ) → Agrees (same xs ys) (xs ≡ ys)
same_agrees xs ys = record { sound = same_out xs ys; complete = λ e. subst (λ zs. T (same xs zs)) e (same_refl xs) }

pub mask_agrees : (b : Bool) (m : Option (List ℕ)) (n : ℕ) → Agrees (mask_test b m n) (Mask b m n)
mask_agrees b none n = record { sound = λ t. t; complete = λ t. t }
mask_agrees true (some m) n = leb_agrees n (8 * length m)
mask_agrees false (some m) n = record { sound = λ t. t; complete = λ t. t }

-- an array's test, from that of its slots
module _ {B : Type 0} (may : Bool) (rule : (ℕ → Bool) → B → ℕ → ℕ → Type 0) (slots : (ℕ → Bool) → B → ℕ → ℕ → Bool) where
  pub array_agrees : ((ok : ℕ → Bool) (b : B) (off len : ℕ) → Agrees (slots ok b off len) (rule ok b off len)) → (x : Array B) → Agrees (array_test may slots x) (Obeys may rule x)
  array_agrees h x =
      turn (both (mask_agrees may x.valid (x.off + x.len)) (h (ok x.valid) x.body x.off x.len))
      (λ p. record { mask = p.0; slots = p.1 }) (λ r. (r.mask, r.slots))

offsets_agree : (w : ℕ) (s : List ℕ) (most off len : ℕ) → Agrees (offsets_to w s most off len) (OffsetsTo w s most off len)
offsets_agree w s most off len =
    turn
    (both (both (both (leb_agrees _ _) (every_agrees (suc len) (λ i. ltb_agrees _ _))) (every_agrees len (λ i. leb_agrees _ _))) (leb_agrees _ _))
    (λ p. record { hold = p.0.0.0; positive = λ i q. p.0.0.1 i (omega arith); rises = p.0.1; within = p.1 })
    (λ r. (((r.hold, λ i q. r.positive i (omega arith)), r.rises), r.within))

pub offsets_rule_agrees : (w : ℕ) (s : List ℕ) (most off len : ℕ) → Agrees (offsets_rule w s most off len) (OffsetsRule w s most off len)
offsets_rule_agrees w s most off len =
    turn (either (both (eqb_agrees len 0) (same_agrees s [])) (offsets_agree w s most off len)) to from
  where
    to : ((len ≡ 0) × (s ≡ [])) ⊎ OffsetsTo w s most off len → OffsetsRule w s most off len
    to (inl p) = empty p.0 p.1
    to (inr r) = full r

    from : OffsetsRule w s most off len → ((len ≡ 0) × (s ≡ [])) ⊎ OffsetsTo w s most off len
    from (empty p q) = inl (p, q)
    from (full r) = inr r

pub plain_agrees : (p : Plain) (ok : ℕ → Bool) (b : PlainBody p) (off len : ℕ) → Agrees (plain_test p ok b off len) (PlainRule p ok b off len)
plain_agrees (fixed n) ok b off len = leb_agrees _ _
plain_agrees (string w) ok b off len = offsets_rule_agrees w b.offsets (length b.chars) off len

lies_agrees : (bufs : List (List ℕ)) (v : List ℕ) → Agrees (lies_test bufs v) (Lies bufs v)
lies_agrees bufs v =
    turn (both (both (ltb_agrees _ _) (leb_agrees _ _)) (same_agrees _ _)) (λ p. record { known = p.0.0; inside = p.0.1; prefix = p.1 })
    (λ r. ((r.known, r.inside), r.prefix))

one_view_agrees : (bufs : List (List ℕ)) (v : List ℕ) → Agrees (one_view_test bufs v) (ViewGood bufs v)
one_view_agrees bufs v =
    turn (both (ltb_agrees _ _) (only_if_lem (ltb 12 (length_of v)) (lies_agrees bufs v))) (λ p. record { small = p.0; long = λ q. p.1 (lt→ltb 12 _ q) })
    (λ r. (r.small, λ q. r.long (ltb→lt 12 _ q)))

pub view_agrees : (ok : ℕ → Bool) (b : Views) (off len : ℕ) → Agrees (view_test ok b off len) (ViewRule ok b off len)
view_agrees ok b off len =
    turn (both (leb_agrees _ _) (every_agrees len (λ i. only_if_lem (ok (off + i)) (one_view_agrees _ _)))) (λ p. record { hold = p.0; good = p.1 })
    (λ r. (r.hold, r.good))

module _ {P : Type 0} (kid : Array P → Type 0) (kidTest : Array P → Bool) (child : (x : Array P) → Agrees (kidTest x) (kid x)) where
  entry_agrees : (w : ℕ) (b : ListView P) (i : ℕ) → Agrees (entry_test w b i) (Entry w b i)
  entry_agrees w b i =
      turn (both (both (ltb_agrees _ _) (ltb_agrees _ _)) (leb_agrees _ _)) (λ p. record { offset = p.0.0; size = p.0.1; within = p.1 })
      (λ r. ((r.offset, r.size), r.within))

  pub list_view_agrees : (w : ℕ) (ok : ℕ → Bool) (b : ListView P) (off len : ℕ) → Agrees (list_view_test w kidTest ok b off len) (ListViewRule w kid ok b off len)
  list_view_agrees w ok b off len =
      turn (both (both (both (leb_agrees _ _) (leb_agrees _ _)) (every_agrees len (λ i. entry_agrees w b (off + i)))) (child b.child))
      (λ p. record { hold_offsets = p.0.0.0; hold_sizes = p.0.0.1; entries = p.0.1; child_rule = p.1 })
      (λ r. (((r.hold_offsets, r.hold_sizes), r.entries), r.child_rule))

  pub list_agrees : (w : ℕ) (ok : ℕ → Bool) (b : Listed P) (off len : ℕ) → Agrees (list_test w kidTest ok b off len) (ListRule w kid ok b off len)
  list_agrees w ok b off len =
      turn (both (offsets_rule_agrees w b.offsets b.child.len off len) (child b.child)) (λ p. record { offsets_rule_lem = p.0; child_rule = p.1 })
      (λ r. (r.offsets_rule_lem, r.child_rule))

  pub run_end_agrees : (w : ℕ) (okay : ℕ → Bool) (b : RunEnd P) (off len : ℕ) → Agrees (run_end_test w kidTest okay b off len) (RunEndRule w kid okay b off len)
  run_end_agrees w okay b off len =
      let n = b.ends.len in
      turn
      (both (both (both (both (both (both (both (mask_agrees true b.ends.valid (b.ends.off + n)) (leb_agrees _ _)) (every_agrees n (λ k. itself _))) (every_agrees n (λ k. ltb_agrees _ _)))
      (every_agrees n (λ k. ltb_agrees _ _))) (leb_agrees _ _)) (eqb_agrees _ _)) (child b.values))
      (λ p. record {
        ends_mask = p.0.0.0.0.0.0.0;
        hold = p.0.0.0.0.0.0.1;
        no_nulls = p.0.0.0.0.0.1;
        positive = p.0.0.0.0.1;
        rises = p.0.0.0.1;
        covers = p.0.0.1;
        as_many = p.0.1;
        child_rule = p.1;
      })
      (λ r. (((((((r.ends_mask, r.hold), r.no_nulls), r.positive), r.rises), r.covers), r.as_many), r.child_rule))

  pub dictionary_agrees : (k : Number) (ok : ℕ → Bool) (b : Dictionary P) (off len : ℕ) → Agrees (dictionary_test k kidTest ok b off len) (DictionaryRule k kid ok b off len)
  dictionary_agrees k ok b off len =
      turn
      (both (both (both (leb_agrees _ _) (every_agrees len (λ i. only_if_lem (ok (off + i)) (ltb_agrees _ _)))) (every_agrees len (λ i. only_if_lem (ok (off + i)) (ltb_agrees _ _)))) (child b.values))
      (λ p. record { hold = p.0.0.0; positive = p.0.0.1; within = p.0.1; child_rule = p.1 })
      (λ r. (((r.hold, r.positive), r.within), r.child_rule))

module _ {P : ℕ → Type 0} (ids : List ℕ) (kid : (c : ℕ) → Array (P c) → Type 0) (kidTest : (c : ℕ) → Array (P c) → Bool)
    (child : (c : ℕ) (x : Array (P c)) → Agrees (kidTest c x) (kid c x)) where
  pub sparse_agrees : (ok : ℕ → Bool) (b : Sparse P) (off len : ℕ) → Agrees (sparse_test ids kidTest ok b off len) (SparseRule ids kid ok b off len)
  sparse_agrees ok b off len =
      turn
      (both (both (both (leb_agrees _ _) (every_agrees len (λ i. member_agrees _ ids))) (each_agrees ids (λ c. leb_agrees _ _))) (each_agrees ids (λ c. child c (b.children c))))
      (λ p. record { hold = p.0.0.0; declared = p.0.0.1; long = p.0.1; child_rule = p.1 })
      (λ r. (((r.hold, r.declared), r.long), r.child_rule))

  pub dense_agrees : (ok : ℕ → Bool) (b : Dense P) (off len : ℕ) → Agrees (dense_test ids kidTest ok b off len) (DenseRule ids kid ok b off len)
  dense_agrees ok b off len =
      turn
      (both (both (both (both (both (leb_agrees _ _) (leb_agrees _ _)) (every_agrees len (λ i. member_agrees _ ids))) (every_agrees len (λ i. ltb_agrees _ _))) (every_agrees len (λ i. ltb_agrees _ _)))
      (each_agrees ids (λ c. child c (b.children c))))
      (λ p. record {
        hold_ids = p.0.0.0.0.0;
        hold_positions = p.0.0.0.0.1;
        declared = p.0.0.0.1;
        positive = p.0.0.1;
        within = p.0.1;
        child_rule = p.1;
      })
      (λ r. (((((r.hold_ids, r.hold_positions), r.declared), r.positive), r.within), r.child_rule))

pub slots_agree : (t : Ty) (ok : ℕ → Bool) (b : Body t) (off len : ℕ) → Agrees (slot_test t ok b off len) (SlotRule t ok b off len)
slots_agree (t_plain p) = plain_agrees p
slots_agree t_view = view_agrees
slots_agree (t_list_view w t) = list_view_agrees _ _ (array_agrees (masks t) _ _ (slots_agree t)) w
slots_agree (t_list w t) = list_agrees _ _ (array_agrees (masks t) _ _ (slots_agree t)) w
slots_agree (t_sparse ids nullable f) = sparse_agrees ids _ _ (λ c. array_agrees (masks (f c)) _ _ (slots_agree (f c)))
slots_agree (t_dense ids nullable f) = dense_agrees ids _ _ (λ c. array_agrees (masks (f c)) _ _ (slots_agree (f c)))
slots_agree (t_run_end w t) = run_end_agrees _ _ (array_agrees (masks t) _ _ (slots_agree t)) w
slots_agree (t_dictionary k p) = dictionary_agrees _ _ (array_agrees true _ _ (plain_agrees p)) k

pub test_agrees : (t : Ty) (x : Column t) → Agrees (test t x) (Source t x)
test_agrees t = array_agrees (masks t) _ _ (slots_agree t)

-- WHAT PASSES OBEYS
pub test_sound : (t : Ty) (x : Column t) → T (test t x) → Source t x
test_sound t x = (test_agrees t x).sound

-- WHAT OBEYS PASSES
pub test_complete : (t : Ty) (x : Column t) → Source t x → T (test t x)
test_complete t x = (test_agrees t x).complete
