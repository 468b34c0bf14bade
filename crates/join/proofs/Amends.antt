-- WHICH RUN ENDS A WALK WRITES OVER: a copy none. Assumes nothing.
use mathlib.Core.Path.{◌≡◌}
use mathlib.Core.Bool.{Bool, true, false, cond}
use mathlib.Core.List.{List, [], ◌∷◌, ◌++◌}
use Prim.Native.Nat.{ℕ, zero, suc, ◌+◌, ◌*◌}
use lib.Dec.{ltb, eqb}
use Rattle.schema.specs.formats.Code.{is_fixed, is_string, is_view, is_list_view, is_list}
use Rattle.utils.specs.Extension.{extended}
use Rattle.utils.specs.declared.Extended.{Extended}
use Rattle.utils.specs.declared.Extended.TheVariants.{Fits, Over, Falls}
use Rattle.std.specs.Prelude.{Option, Some, None}
use Rattle.run_ends.specs.declared.RunRange.{RunRange}
use Rattle.walk.specs.State.{Join, code_of, dictionary_of, end_of, keeps_of, bytes_of, rows, bytes, place, far}
use Rattle.walk.specs.Log.{Entry, put, mask, amend, Log, Out, fail, done, wrote, need, found, next, each}
use Rattle.walk.specs.Leaves.{copy_bits, copy_mask, copy_numbers, copy_keys, copy_views, put_string, put_extended, copy_string}
use Rattle.walk.specs.Copy.{Walk, masked, list_view_row, copy_list_view, put_stretch, copy_list, copy_sparse, dense_to, dense_row, copy_dense, put_runs, runs_at, copy_runs, copy_data, copy_slots, copy_node, copy_walk, each_field}
use Rattle.walk.proofs.Names.{put_list, copy_fields}
use Rattle.walk.proofs.Offsets.{string_is, list_is}

-- a write over run ends is at a node of K
abbrev pub Amended : (ℕ → Type 0) → Entry → Type 0
Amended K (put i b o bs) = Unit {0}
Amended K (mask i p vs) = Unit {0}
Amended K (amend j b o bs) = (h : ℕ) → j ≡ suc h → K h

abbrev pub AllAmended : (ℕ → Type 0) → Log → Type 0
AllAmended K [] = Unit {0}
AllAmended K (e ∷ l) = Amended K e × AllAmended K l

pub amended_both : (K : ℕ → Type 0) (l k : Log) → AllAmended K l → AllAmended K k → AllAmended K (l ++ k)
amended_both K [] k h g = g
amended_both K (e ∷ l) k h g = (h.0, amended_both K l k h.1 g)

pub amended_wide : (K J : ℕ → Type 0) → ((h : ℕ) → K h → J h) → (l : Log) → AllAmended K l → AllAmended J l
amended_wide K J f [] h = tt
amended_wide K J f (e ∷ l) h = (go e h.0, amended_wide K J f l h.1)
  where
    go : (e : Entry) → Amended K e → Amended J e
    go (put i b o bs) q = tt
    go (mask i p vs) q = tt
    go (amend j b o bs) q = λ n z. f n (q n z)

-- ---- copies

abbrev pub Nowhere : ℕ → Type 0
Nowhere h = ⊥

pub record Plain (o : Out) : Type 0 where
  pub none_over : AllAmended Nowhere o.log

plain_done : (c : List ℕ) → Plain (done c)
unfolding done
plain_done c = record { none_over = tt }

plain_fail : (g : ℕ) (c : List ℕ) → Plain (fail g c)
unfolding fail
plain_fail g c = record { none_over = tt }

plain_put : (i b o : ℕ) (bs c : List ℕ) → Plain (wrote (put i b o bs) c)
unfolding wrote
plain_put i b o bs c = record { none_over = (tt, tt) }

plain_mask : (i p : ℕ) (vs c : List ℕ) → Plain (wrote (mask i p vs) c)
unfolding wrote
plain_mask i p vs c = record { none_over = (tt, tt) }

plain_cond : (b : Bool) {o p : Out} → Plain o → Plain p → Plain (cond b o p)
plain_cond true f g = f
plain_cond false f g = g

plain_need : (b : Bool) (g : ℕ) (c : List ℕ) {o : Out} → Plain o → Plain (need b g c o)
unfolding need
plain_need b g c k = plain_cond b k (plain_fail g c)

plain_found : (n v g : ℕ) (c : List ℕ) (k : ℕ → Out) → Plain (k v) → Plain (found n v g c k)
unfolding found
plain_found n v g c k q = plain_cond (ltb v n) q (plain_fail g c)

plain_next : {o : Out} (k : List ℕ → Out) → Plain o → ((c : List ℕ) → Plain (k c)) → Plain (next o k)
unfolding next
plain_next {o} k h q = plain_cond (eqb o.ans 0) (record { none_over = amended_both Nowhere o.log (k o.counters).log h.none_over (q o.counters).none_over }) h

plain_each : (f : ℕ → List ℕ → Out) → ((r : ℕ) (c : List ℕ) → Plain (f r c)) → (n r : ℕ) (c : List ℕ) → Plain (each f n r c)
unfolding each
plain_each f q zero r c = plain_done c
plain_each f q (suc n) r c = plain_next _ (q r c) (λ c2. plain_each f q n (suc r) c2)

module _ (x : Join) where
  module _ (i : ℕ) where
    plain_bits : (slot n : ℕ) (c : List ℕ) → Plain (copy_mask x i slot n c)
    unfolding copy_mask copy_bits
    plain_bits slot n c =
        plain_cond (eqb (keeps_of x.plan i) 0) (plain_done c)
        (plain_cond (eqb (place x i 0) 0) (plain_mask i _ _ c) (plain_need _ 12 _ (plain_next _ (plain_mask i _ _ c) (λ c2. plain_done _))))

    plain_extended : (w from n : ℕ) (e : Extended) (c : List ℕ) → Plain (put_extended x i w from n e c)
    unfolding put_string
    plain_extended w from n (Fits last first) c = plain_need _ 12 _ (plain_next _ (plain_put i 1 _ _ c) (λ c2. plain_next _ (plain_put i 2 _ _ c2) (λ c3. plain_done _)))
    plain_extended w from n (Over row needed) c = plain_fail 6 c
    plain_extended w from n Falls c = plain_fail 12 c

    plain_string : (w slot n : ℕ) (c : List ℕ) → Plain (copy_string x i w slot n c)
    plain_string w slot n c =
        rw (string_is x i w slot n c)
        (plain_cond (eqb n 0) (plain_done c)
        (plain_need _ 12 _ (plain_extended w (place x i 3 + w * slot) n (extended w x.body (place x i 3 + w * slot) n (bytes c i)) c)))

  module _ (walk : Walk) (below : (k a n : ℕ) (c : List ℕ) → Plain (walk k a n c)) (i : ℕ) where
    plain_list_view : (w slot n : ℕ) (c : List ℕ) → Plain (copy_list_view x walk w i slot n c)
    unfolding copy_list_view list_view_row
    plain_list_view w slot n c =
        plain_need _ 12 _ (plain_need _ 12 _ (plain_each _ (λ r c1. plain_need _ 6 _ (plain_next _ (plain_put i 1 _ _ c1) (λ c2. plain_next _ (plain_put i 2 _ _ c2) (λ c3. below (suc i) _ _ c3)))) n 0 c))

    plain_put_list : (w from n : ℕ) (e : Extended) (c : List ℕ) → Plain (put_list x walk w i from n e c)
    unfolding put_stretch
    plain_put_list w from n (Fits last first) c = plain_next _ (plain_put i 1 _ _ c) (λ c2. below (suc i) first _ c2)
    plain_put_list w from n (Over row needed) c = plain_fail 6 c
    plain_put_list w from n Falls c = plain_fail 12 c

    plain_list : (w slot n : ℕ) (c : List ℕ) → Plain (copy_list x walk w i slot n c)
    plain_list w slot n c =
        rw (list_is x walk w i slot n c)
        (plain_cond (eqb n 0) (plain_done c)
        (plain_need _ 12 _ (plain_need _ 12 _ (plain_put_list w (place x i 3 + w * slot) n (extended w x.body (place x i 3 + w * slot) n (rows c (suc i))) c))))

    plain_fields : (slot n end f k : ℕ) (c : List ℕ) → Plain (copy_fields x walk slot n end f k c)
    unfolding each_field
    plain_fields slot n end zero k c = plain_done c
    plain_fields slot n end (suc f) k c = plain_cond (ltb k end) (plain_next _ (below k slot n c) (λ c2. plain_fields slot n end f (end_of x.plan k) c2)) (plain_done c)

    plain_sparse : (slot n : ℕ) (c : List ℕ) → Plain (copy_sparse x walk i slot n c)
    unfolding copy_sparse
    plain_sparse slot n c = plain_need _ 12 _ (plain_next _ (plain_put i 1 _ _ c) (λ c2. plain_fields slot n (end_of x.plan i) 32 (suc i) c2))

    plain_dense : (slot n : ℕ) (c : List ℕ) → Plain (copy_dense x walk i slot n c)
    unfolding copy_dense dense_row dense_to
    plain_dense slot n c =
        plain_need _ 12 _
        (plain_each _ (λ r c1. plain_found 32 _ 12 _ _ (plain_need _ 6 _ (plain_next _ (plain_put i 1 _ _ c1) (λ c2. plain_next _ (plain_put i 2 _ _ c2) (λ c3. below _ _ 1 c3))))) n 0 c)

    plain_put_runs : (w slot n : ℕ) (r : Option RunRange) (c : List ℕ) → Plain (put_runs x walk w i slot n r c)
    plain_put_runs w slot n None c = plain_fail 12 c
    plain_put_runs w slot n (Some r) c = plain_next _ (below (suc (suc i)) r.first.0 r.count c) (λ c2. plain_next _ (plain_put (suc i) 1 _ _ c2) (λ c3. plain_done _))

    plain_runs : (slot n : ℕ) (c : List ℕ) → Plain (copy_runs x walk i slot n c)
    unfolding copy_runs
    plain_runs slot n c =
        plain_cond (eqb n 0) (plain_done c)
        (plain_need _ 12 _ (plain_need _ 7 _ (plain_need _ 12 _ (plain_put_runs (bytes_of x.plan (suc i)) slot n (runs_at x walk (bytes_of x.plan (suc i)) i slot n) c))))

    plain_data : (code slot n : ℕ) (c : List ℕ) → Plain (copy_data x walk code i slot n c)
    unfolding copy_data copy_numbers copy_keys copy_views
    plain_data code slot n c =
        plain_cond (is_fixed code) (plain_cond (eqb (dictionary_of x.plan i) 0) (plain_need _ 12 _ (plain_put i 1 _ _ c)) (plain_need _ 12 _ (plain_put i 1 _ _ c)))
        (plain_cond (is_string code) (plain_string i _ slot n c)
        (plain_cond (is_view code) (plain_need _ 12 _ (plain_put i 1 _ _ c))
        (plain_cond (is_list_view code) (plain_list_view _ slot n c)
        (plain_cond (is_list code) (plain_list _ slot n c)
        (plain_cond (eqb code 21) (plain_sparse slot n c)
        (plain_cond (eqb code 22) (plain_dense slot n c)
        (plain_cond (eqb code 23) (plain_runs slot n c)
        (plain_fail 12 c))))))))

    plain_node_lem : (a n : ℕ) (c : List ℕ) → Plain (copy_node x walk i a n c)
    unfolding copy_node copy_slots
    plain_node_lem a n c =
        plain_need _ 12 _
        (plain_found far _ 12 _ _
        (plain_next _ (plain_cond (masked (code_of x.plan i)) (plain_bits i _ n c) (plain_done c))
        (λ c2. plain_next _ (plain_data (code_of x.plan i) _ n c2) (λ c3. plain_done _))))

  -- A COPY WRITES OVER NO RUN END
  pub plain_copy : (depth i a n : ℕ) (c : List ℕ) → Plain (copy_walk x depth i a n c)
  unfolding copy_walk
  plain_copy zero i a n c = plain_fail 12 c
  plain_copy (suc depth) i a n c = plain_node_lem (copy_walk x depth) (λ k b n c1. plain_copy depth k b n c1) i a n c
