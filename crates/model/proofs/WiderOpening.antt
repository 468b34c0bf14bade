-- An opening that narrow sources pass is passed by wide ones: sharing is the same, keys reach higher, and what joins narrow joins wide.
-- Assumes nothing.
use mathlib.Core.Path.{◌≡◌, refl, sym, ap, ap₂, subst, ◌∙◌}
use mathlib.Core.Logic.{◌↔◌}
use mathlib.Core.Bool.{Bool, true, false, cond, ◌&&◌, ◌||◌}
use mathlib.Core.List.{List, [], ◌∷◌, Memᴰ}
use Prim.Native.Nat.{ℕ, zero, suc, ◌+◌, ◌-◌, ◌^◌, ◌≤◌, ◌<◌}
use native.Mathlib.Omega.{arith}
use lib.Dec.{leb, ltb}
use borrow.Author.Tests.{eq-eqb}
use Rattle.columnar.specs.Types.{Number, limit, Plain, Ty, t_plain}
use Rattle.columnar.specs.Formed.{FormedPlain, Formed}
use Rattle.columnar.specs.Array.{Array, Obeys}
use Rattle.columnar.specs.Plain.{PlainBody, PlainRule}
use Rattle.columnar.specs.Dictionary.{Dictionary}
use Rattle.columnar.specs.Reading.{Column, Source}
use Rattle.columnar.specs.Wider.{PlainWider, Wider, w_plain, w_view, w_list_view, w_list, w_sparse, w_dense, w_run_end, w_dictionary, Kept, PlainKept, Stored, Shares, SharedAlike, Again}
use Rattle.columnar.proofs.Kept.{obeys_kept}
use Rattle.columnar.proofs.WiderKinds.{plain_widens, declares}
use Rattle.model.specs.Try.{Try, done, stop, then}
use Rattle.model.specs.Grounds.{Counts, counts, leaf, ask_of, plain_ask}
use Rattle.columnar.specs.Test.{same as same_list}
use Rattle.model.specs.Opening.{present, keeps, ptr_eq, shared, entries_before, start_of_keys, entries_fit, all_keys_fit}
use Rattle.model.specs.Mutable.{Mutable, start_node, freeze_node}
use Rattle.model.specs.Primitive.{plain_start}
use Rattle.model.specs.Transform.{Destination, joined_from, the_dictionary, open_all, open_data, start, try_with_capacities}
use Rattle.model.specs.Held.{held_node, held_plain}
use Rattle.model.proofs.Agree.{Agrees, both, neither, agrees_map, agrees_then}
use Rattle.model.proofs.Law.{Fine}
use Rattle.model.proofs.Nodes.{plain_kind}
use Rattle.model.proofs.Node.{node_copies}
use Rattle.model.proofs.Start.{start_plain, held_start}
use Rattle.model.proofs.PlainLaw.{plain_law}
use Rattle.model.proofs.SameBody.{same_off, same_len, same_starts}
use Rattle.model.proofs.Follow.{Follows, same, free, follows_done, follows_then, follows_guard, ltb_up}
use Rattle.model.proofs.WiderAsks.{plain_again}
use Rattle.model.proofs.Names.{keys_fit}

-- ---- sharing

list_refl : (xs : List ℕ) → same_list xs xs ≡ true
list_refl [] = refl
list_refl (x ∷ xs) = rw (list_refl xs, eq-eqb x x refl)

-- `ptr_eq` holds exactly where two dictionaries are shared
ptr_shares : {P : Type 0} (d e : Dictionary P) → ptr_eq d e ≡ true → Shares d e
ptr_shares d e h = record { same_starts = same_starts d e h; same_off = same_off d e h; same_len = same_len d e h }

shares_ptr : {P : Type 0} (d e : Dictionary P) → Shares d e → ptr_eq d e ≡ true
shares_ptr d e s = rw (eq-eqb _ _ s.same_off, eq-eqb _ _ s.same_len, s.same_starts) (list_refl e.starts)

true_both : (a b : Bool) → (a ≡ true → b ≡ true) → (b ≡ true → a ≡ true) → a ≡ b
true_both true b f g = sym (f refl)
true_both false true f g = g refl
true_both false false f g = refl

ptr_same : {P P' : Type 0} (d e : Dictionary P) (d' e' : Dictionary P') → Shares d e ↔ Shares d' e' → ptr_eq d e ≡ ptr_eq d' e'
ptr_same d e d' e' s =
    true_both (ptr_eq d e) (ptr_eq d' e') (λ h. shares_ptr d' e' (s.0 (ptr_shares d e h))) (λ h. shares_ptr d e (s.1 (ptr_shares d' e' h)))

-- shared in both or in neither
pub shared_same : {P P' : Type 0} (m : ℕ) (ds : ℕ → Dictionary P) (ds' : ℕ → Dictionary P')
    → ((i j : ℕ) → i < m → j < m → Shares (ds i) (ds j) ↔ Shares (ds' i) (ds' j)) → shared m ds ≡ shared m ds'
shared_same zero ds ds' h = refl
shared_same (suc zero) ds ds' h = refl
shared_same (suc (suc m)) ds ds' h =
    ap₂ ◌&&◌ (shared_same (suc m) ds ds' (λ i j p q. h i j (omega arith) (omega arith)))
    (ptr_same (ds m) (ds (suc m)) (ds' m) (ds' (suc m)) (h m (suc m) (omega arith) (omega arith)))

-- ---- keys

before_same : {P P' : Type 0} (ds : ℕ → Dictionary P) (ds' : ℕ → Dictionary P') (j : ℕ) → ((i : ℕ) → i < j → (ds i).values.len ≡ (ds' i).values.len)
    → entries_before ds j ≡ entries_before ds' j
before_same ds ds' zero h = refl
before_same ds ds' (suc j) h = ap₂ ◌+◌ (before_same ds ds' j (λ i q. h i (omega arith))) (h j (omega arith))

and_up : (a b a' b' : Bool) → (a ≡ true → a' ≡ true) → (b ≡ true → b' ≡ true) → a && b ≡ true → a' && b' ≡ true
and_up true b a' b' f g e = rw (f refl) (g e)
and_up false b a' b' f g e = absurd (let z : false ≡ true = e in let y : ◌≡◌ {A = ℕ} 0 1 = cc in omega arith)

-- keys that reach higher fit again
module _ {P P' : Type 0} (k k' : Number) (reach : limit k ≤ limit k') (m : ℕ) (ds : ℕ → Dictionary P) (ds' : ℕ → Dictionary P')
    (lens : (i : ℕ) → i < m → (ds i).values.len ≡ (ds' i).values.len) (alike : shared m ds ≡ shared m ds') where
  keys_up : (j : ℕ) → j < m → keys_fit k m ds j ≡ true → keys_fit k' m ds' j ≡ true
  keys_up j q e =
      let z : start_of_keys m ds j ≡ start_of_keys m ds' j = ap₂ (λ b n. cond b 0 n) alike (before_same ds ds' j (λ i y. lens i (omega arith))) in
      rw (← z, ← lens j q)
      (and_up (ltb (start_of_keys m ds j + (ds j).values.len - 1) (limit k)) (ltb (start_of_keys m ds j) (limit k)) _ _ (ltb_up _ (limit k) (limit k') reach) (ltb_up _ (limit k) (limit k') reach) e)

  pub all_keys_up : (j : ℕ) → j ≤ m → all_keys_fit k m j ds ≡ true → all_keys_fit k' m j ds' ≡ true
  all_keys_up zero q e = refl
  all_keys_up (suc j) q e =
      and_up (all_keys_fit k m j ds) (keys_fit k m ds j) (all_keys_fit k' m j ds') (keys_fit k' m ds' j) (all_keys_up j (omega arith)) (keys_up j (omega arith)) e

-- ---- joining, by counts

join_ask : (p : Plain) → (ℕ → Array (PlainBody p)) → ℕ → Counts → Try Counts
join_ask p vs zero c = done c
join_ask p vs (suc j) c = then (join_ask p vs j c) (λ e. ask_of (plain_ask p) (vs j) 0 (vs j).len e)

-- joining is done exactly where its counts are
join_agrees : (p : Plain) (m : ℕ) (vs : ℕ → Array (PlainBody p)) → ((j : ℕ) → j < m → Obeys true (PlainRule p) (vs j)) → (j : ℕ) → j ≤ m
    → (d : Mutable (PlainBody p)) → Fine (plain_kind p) m vs d → Agrees (held_node (held_plain p)) (Fine (plain_kind p) m vs) (joined_from p vs j d) (join_ask p vs j (held_node (held_plain p) d))
unfolding join_ask
join_agrees p m vs g zero q d h = both d h
join_agrees p m vs g (suc j) q d h =
    agrees_then _ _ (join_agrees p m vs g j (omega arith) d h)
    (λ e f.
    agrees_map (λ x y. y.fine')
    (node_copies (plain_kind p) m vs (plain_law p m vs g) (λ i y. (g i y).mask) j 0 (vs j).len e (omega arith) (omega arith) f))

join_again : {p p' : Plain} (d : PlainWider p p') (vs : ℕ → Array (PlainBody p)) (vs' : ℕ → Array (PlainBody p')) (j : ℕ)
    → ((i : ℕ) → i < j → Kept (PlainKept d) (vs i) (vs' i)) → (c : Counts) → Follows (join_ask p vs j c) (join_ask p' vs' j c)
unfolding join_ask
join_again d vs vs' zero h c = same c
join_again d vs vs' (suc j) h c =
    follows_then _ _ (join_again d vs vs' j (λ i q. h i (omega arith)) c)
    (λ e. rw (← (h j (omega arith)).same_len) (plain_again d (vs j) (vs' j) (h j (omega arith)) 0 (vs j).len (omega arith) e))

-- an answer that is done
abbrev Goes : {A : Type 0} → Try A → Type 0
Goes (done x) = Unit {0}
Goes (stop g) = ⊥

goes_then : {A B : Type 0} (t : Try A) (f : A → B) → Goes t ↔ Goes (then t (λ x. done (f x)))
goes_then (done x) f = ((λ z. z), (λ z. z))
goes_then (stop g) f = ((λ z. z), (λ z. z))

goes_agrees : {A C : Type 0} {see : A → C} {Q : A → Type 0} {t : Try A} {s : Try C} → Agrees see Q t s → Goes t ↔ Goes s
goes_agrees (both x q) = ((λ z. z), (λ z. z))
goes_agrees (neither g) = ((λ z. z), (λ z. z))

goes_follows : {A : Type 0} {t s : Try A} → Follows t s → Goes t → Goes s
goes_follows (same x) z = z
goes_follows (free g s) z = absurd z

-- two answers of unlike kinds, and what comes after them
follows_across : {A B C : Type 0} (t : Try A) (s : Try B) (f : A → Try C) (h : B → Try C) → (Goes t → Goes s) → ((x : A) (y : B) → Follows (f x) (h y)) → Follows (then t f) (then s h)
follows_across (stop g) s f h k e = free g (then s h)
follows_across (done x) (stop g) f h k e = absurd (k tt)
follows_across (done x) (done y) f h k e = e x y

-- the joining of m dictionaries, from none
abbrev joining : (p : Plain) → ℕ → (ℕ → Array (PlainBody p)) → Try (Mutable (PlainBody p))
joining p m vs = joined_from p vs m (start_node (keeps false m vs) (plain_start p))

-- kept or joined
abbrev kept_or : (p : Plain) → ℕ → (ℕ → Dictionary (PlainBody p)) → Bool → Try (Array (PlainBody p))
kept_or p m ds b =
    elim b [
      | true ↦ done (present (ds 0).values)
      | false ↦ then (joining p m (λ i. (ds i).values)) (λ e. done (freeze_node true (λ b. b) e))
    ]

joins_by_counts : (p : Plain) (m : ℕ) (vs : ℕ → Array (PlainBody p)) → FormedPlain p → ((j : ℕ) → j < m → Obeys true (PlainRule p) (vs j)) → Goes (joining p m vs) ↔ Goes (join_ask p vs m (counts 0 0 leaf))
joins_by_counts p m vs f g =
    rw (← held_start false (t_plain p) false m (λ i. (vs i).body)) (goes_agrees (join_agrees p m vs g m (omega arith) (start_node (keeps false m vs) (plain_start p)) (start_plain p false m vs f)))

module _ {p p' : Plain} (d : PlainWider p p') (f : FormedPlain p) (f' : FormedPlain p') (m : ℕ) where
  joins_wider : (vs : ℕ → Array (PlainBody p)) (vs' : ℕ → Array (PlainBody p')) → ((i : ℕ) → i < m → Kept (PlainKept d) (vs i) (vs' i))
      → ((i : ℕ) → i < m → Obeys true (PlainRule p) (vs i)) → Goes (joining p m vs) → Goes (joining p' m vs')
  joins_wider vs vs' h g z =
      (joins_by_counts p' m vs' f' (λ i q. obeys_kept (plain_widens d) (h i q) (g i q))).1
      (goes_follows (join_again d vs vs' m h (counts 0 0 leaf)) ((joins_by_counts p m vs f g).0 z))

  -- A DICTIONARY THAT IS KEPT OR JOINED NARROW IS KEPT OR JOINED WIDE
  dictionary_wider : (ds : ℕ → Dictionary (PlainBody p)) (ds' : ℕ → Dictionary (PlainBody p')) → ((i : ℕ) → i < m → Kept (PlainKept d) (ds i).values (ds' i).values)
      → ((i : ℕ) → i < m → Obeys true (PlainRule p) (ds i).values) → shared m ds ≡ shared m ds' → Goes (the_dictionary p m ds) → Goes (the_dictionary p' m ds')
  dictionary_wider ds ds' h g e z = subst (λ b. Goes (kept_or p' m ds' b)) e (go (shared m ds) z)
    where
      go : (b : Bool) → Goes (kept_or p m ds b) → Goes (kept_or p' m ds' b)
      go true y = tt
      go false y =
          (goes_then (joining p' m (λ i. (ds' i).values)) (freeze_node true (λ b. b))).0
          (joins_wider (λ i. (ds i).values) (λ i. (ds' i).values) h g ((goes_then (joining p m (λ i. (ds i).values)) (freeze_node true (λ b. b))).1 y))

-- ---- every type

follows_open : (cs : List ℕ) (f h : ℕ → Try (Unit {0})) → ((c : ℕ) → Memᴰ c cs → Follows (f c) (h c)) → Follows (open_all cs f) (open_all cs h)
follows_open [] f h k = same tt
follows_open (c ∷ cs) f h k = follows_then _ _ (k c (Memᴰ.head refl)) (λ x. follows_open cs f h (λ e m. k e (Memᴰ.tail m)))

open_again : {t t' : Ty} (d : Wider t t') → Formed t → Formed t' → (m : ℕ) (ss : ℕ → Column t) (ss' : ℕ → Column t') → ((i : ℕ) → i < m → Stored d (ss i) (ss' i)) → SharedAlike d m ss ss'
    → ((i : ℕ) → i < m → Source t (ss i)) → Follows (open_data t m (λ i. (ss i).body)) (open_data t' m (λ i. (ss' i).body))
open_again (w_plain d) f f' m ss ss' h a s = same tt
open_again w_view f f' m ss ss' h a s = same tt
open_again (w_list_view w w' ww d) f f' m ss ss' h a s =
    open_again d f.1 f'.1 m (λ i. (ss i).body.child) (λ i. (ss' i).body.child) (λ i q. (h i q).same_body.same_child_lem) a (λ i q. (s i q).slots.child_rule)
open_again (w_list w w' ww d) f f' m ss ss' h a s =
    open_again d f.1 f'.1 m (λ i. (ss i).body.child) (λ i. (ss' i).body.child) (λ i q. (h i q).same_body.same_child_lem) a (λ i q. (s i q).slots.child_rule)
open_again (w_sparse ids e d) f f' m ss ss' h a s =
    follows_open ids _ _
    (λ c y.
    open_again (d c (declares c ids y)) (f.1 c y) (f'.1 c y) m (λ i. (ss i).body.children c) (λ i. (ss' i).body.children c)
    (λ i q. (h i q).same_body.same_children c (declares c ids y)) (a c (declares c ids y)) (λ i q. (s i q).slots.child_rule c y))
open_again (w_dense ids e d) f f' m ss ss' h a s =
    follows_open ids _ _
    (λ c y.
    open_again (d c (declares c ids y)) (f.1 c y) (f'.1 c y) m (λ i. (ss i).body.children c) (λ i. (ss' i).body.children c)
    (λ i q. (h i q).same_body.same_children c (declares c ids y)) (a c (declares c ids y)) (λ i q. (s i q).slots.child_rule c y))
open_again (w_run_end w w' ww d) f f' m ss ss' h a s =
    open_again d f.1 f'.1 m (λ i. (ss i).body.values) (λ i. (ss' i).body.values) (λ i q. (h i q).same_body.same_values) a (λ i q. (s i q).slots.child_rule)
open_again (w_dictionary k k' {p} {p'} kk d) f f' m ss ss' h a s =
    let ds : ℕ → Dictionary (PlainBody p) = λ i. (ss i).body in
    let ds' : ℕ → Dictionary (PlainBody p') = λ i. (ss' i).body in
    let e : shared m ds ≡ shared m ds' = shared_same m ds ds' a in
    let n : entries_before ds m ≡ entries_before ds' m = before_same ds ds' m (λ i q. (h i q).same_body.same_values.same_len) in
    let u : entries_fit m ds ≡ entries_fit m ds' = ap₂ (λ b n. b || leb n (2 ^ 64 - 1)) e n in
    follows_guard (entries_fit m ds) (entries_fit m ds') 6 6 (λ z. sym u ∙ z)
    (follows_across (the_dictionary p m ds) (the_dictionary p' m ds') _ _
    (dictionary_wider d f.1 f'.1 m ds ds' (λ i q. (h i q).same_body.same_values) (λ i q. (s i q).slots.child_rule) e)
    (λ x y. follows_guard (all_keys_fit k m m ds) (all_keys_fit k' m m ds') 8 8 (all_keys_up k k' kk.reach m ds ds' (λ i q. (h i q).same_body.same_values.same_len) e m (omega arith)) (same tt)))

opened : {A : Type 0} (a : Try (Unit {0})) (y z : A) → then a (λ x. done y) ≡ done z → a ≡ done tt
opened (done x) y z e = refl
opened (stop g) y z e = absurd (subst (λ t. Goes t → ⊥) e (λ w. w) tt)

module _ {t t' : Ty} (d : Wider t t') (f : Formed t) (f' : Formed t') (m : ℕ) (ss : ℕ → Column t) (ss' : ℕ → Column t') (h : Again d m ss ss') (s : (i : ℕ) → i < m → Source t (ss i)) where
  -- THE OPENING THAT IS ACCEPTED NARROW IS ACCEPTED WIDE
  pub open_wider : open_data t m (λ i. (ss i).body) ≡ done tt → open_data t' m (λ i. (ss' i).body) ≡ done tt
  open_wider e = follows_done tt (open_again d f f' m ss ss' h.each h.sharing s) e

  pub opening_wider : (gaps : Bool) (u : Bool) (x : Destination t) → try_with_capacities gaps t u m ss ≡ done x → try_with_capacities gaps t' u m ss' ≡ done (start gaps t' u m ss')
  opening_wider gaps u x e = ap (λ a. then a (λ y. done (start gaps t' u m ss'))) (open_wider (opened (open_data t m (λ i. (ss i).body)) (start gaps t u m ss) x e))
