-- Unions in other widths, as the walk writes them: one field after another, each in its own nodes. Assumes nothing.
use mathlib.Core.Path.{◌≡◌, refl, sym, ap, subst, ◌∙◌}
use mathlib.Core.Bool.{Bool}
use mathlib.Core.List.Memᴰ
use mathlib.Core.List.{List, [], ◌∷◌, Memᴰ}
use Prim.Native.Nat.{ℕ, zero, suc, ◌+◌, ◌*◌, ◌≤◌, ◌<◌}
use native.Mathlib.Omega.{arith}
use lib.ListN.{length, take, drop, length-take, length-drop}
use Rattle.columnar.specs.Types.{Ty, t_sparse, t_dense}
use Rattle.columnar.specs.Formed.{Ids, Formed}
use Rattle.columnar.specs.Test.{member}
use Rattle.columnar.specs.Wider.{Declared}
use Rattle.columnar.specs.Reading.{Column, Source}
use Rattle.columnar.proofs.Items.{length_cut}
use Rattle.columnar.proofs.WiderKinds.{declares}
use Rattle.model.specs.Try.{Try, done, stop, then}
use Rattle.walk.specs.State.{end_of}
use Rattle.walk.specs.Log.{Out, put, wrote, next}
use Rattle.refinement.specs.walk_is_model.Memory.{Memory, put_in}
use Rattle.refinement.specs.walk_is_model.Holds.{child_of, Fields, Worded}
use Rattle.refinement.specs.orders.Order.{Lent}
use Rattle.refinement.proofs.walk_is_model.Frame.{SameAt, Kept, same_refl, same_then, Field, field_of, apart_of}
use Rattle.refinement.proofs.walk_is_model.Owed.{DataKept}
use Rattle.refinement.proofs.walk_is_model.Goes.{Goes, goes_done, goes_then, goes_wrote}
use Rattle.refinement.proofs.walk_is_model.Writes.{put_beside, put_other, data_put, data_then}
use Rattle.anew.specs.widths.Widths.{Widths, s_sparse, s_dense}
use Rattle.anew.specs.widths.Converted.{pick, body_as, column_as}
use Rattle.anew.specs.widths.Fitting.{Demand, gather, tried, numbers_of, numbers_in}
use Rattle.anew.proofs.widths.Fits.{picked}
use Rattle.anew.proofs.widths.Unions.{new_kids, kid_is}
use Rattle.anew.proofs.widths.Decide.{tried_then}
use Rattle.anew.specs.Stood.{StoodData, Stood}
use Rattle.width_walks.specs.Convert.{fields_walk, node_walk, body_walk}
use Rattle.width_walks.specs.Ready.{InParts, Ready}
use Rattle.width_walks.proofs.Tries.{goes_value}
use Rattle.width_walks.proofs.Frames.{Bare, bare_same, stood_same}
use Rattle.width_walks.proofs.Plain.{first_put, at_zero}
use Rattle.width_walks.proofs.Laws.{BodyLaw, NodeLaw}

-- one answer after another that does not hang on it
then_made : {A B : Type 0} (m : Try (Unit {0})) (y : A) (t : Try B) → then (then m (λ u. done y)) (λ z. t) ≡ then m (λ u. t)
then_made (done u) y t = refl
then_made (stop g) y t = refl

then_both : {B : Type 0} (l r : Try (Unit {0})) (f : Unit {0} → Try B) → then (then l (λ u. r)) f ≡ then l (λ u. then r f)
then_both (done u) r f = refl
then_both (stop g) r f = refl

ids_long : (ids : List ℕ) (s n : ℕ) → s + n ≤ length ids → length (take n (drop s ids)) ≡ n * 1
ids_long ids s n h = simp (length-take, length-drop) (omega arith)

module _ (x : Lent) (buffers : List ℕ) (ids : List ℕ) (nullable : ℕ → Bool) (f f' : ℕ → Ty) (d : (c : ℕ) → Declared ids c → Widths (f c) (f' c))
    (law : (c : ℕ) (m : Declared ids c) → NodeLaw x buffers (f c) (f' c) (d c m)) where
  -- the nodes of child q of the union at node i
  abbrev In : ℕ → ℕ → ℕ → Type 0
  In i q j = (child_of x.plan i q ≤ j) × (j < end_of x.plan (child_of x.plan i q))

  -- the fields from those of `cs` alone are changed
  record FieldsKept (i : ℕ) (cs : List ℕ) (c c' : List ℕ) (μ μ' : Memory) : Type 0 where
    long : length c' ≡ length c
    outside : (j : ℕ) → ((q : ℕ) → Memᴰ q cs → In i q j → ⊥) → SameAt c c' μ μ' j

  module _ (k i : ℕ) (fields : Fields x.plan (λ c. Worded x.plan k (f' c)) nullable (end_of x.plan i) ids (suc i)) (few : length ids ≤ 16) (formed : (c : ℕ) → Memᴰ c ids → Formed (f' c)) (q : (c : ℕ) → Memᴰ c ids → InParts x.plan (f' c) (child_of x.plan i c))
      (kids : (c : ℕ) → Column (f c)) (sources : (c : ℕ) → Memᴰ c ids → Source (f c) (kids c)) (ready : (c : ℕ) → Memᴰ c ids → Ready x buffers (f c) (child_of x.plan i c) (kids c))
      (from many : ℕ → ℕ) (inside : (c : ℕ) → Memᴰ c ids → from c + many c ≤ (kids c).len) where
    abbrev asked : ℕ → List Demand
    asked c = pick (member c ids) (λ m. numbers_of (numbers_in (d c m)) (kids c) (from c) (many c)) []

    abbrev walked : ℕ → List ℕ → Out
    walked c = pick (member c ids) (λ m. node_walk x.plan (child_of x.plan i c) (body_walk x.plan (d c m) (child_of x.plan i c)) (kids c) (from c) (many c)) (λ c2. Rattle.walk.specs.Log.done c2)

    abbrev made : (c : ℕ) → Column (f' c)
    made = new_kids ids f f' d kids from many

    field : (c : ℕ) → Memᴰ c ids → Field x.plan (λ c. Worded x.plan k (f' c)) (end_of x.plan i) (suc i) c (child_of x.plan i c)
    field c m = field_of x.plan (λ c. Worded x.plan k (f' c)) nullable (end_of x.plan i) ids (suc i) 32 c fields (omega arith) m

    apart : (c e : ℕ) → Memᴰ c ids → Memᴰ e ids → (c ≡ e → ⊥) → (j : ℕ) → In i c j → In i e j → ⊥
    apart c e m m' ne j a b =
        apart_of x.plan (λ c. Worded x.plan k (f' c)) nullable (end_of x.plan i) ids (suc i) 32 c e fields (omega arith) m m' ne j a.0 a.1 b.0 b.1

    -- one field
    one : (c : ℕ) (m : Memᴰ c ids) (cs : List ℕ) (μ : Memory) → length cs ≡ 96 → ((j : ℕ) → In i c j → Bare cs μ j)
        → Goes μ (λ y c2 μ2. Stood x buffers c2 μ2 (f' c) (child_of x.plan i c) y × Kept (child_of x.plan i c) (end_of x.plan (child_of x.plan i c)) cs c2 μ μ2)
        (then (tried (asked c)) (λ u. done (made c))) (walked c cs)
    one c m cs μ l bare =
        let g = field c m in
        let r = law c (declares c ids m) k (child_of x.plan i c) g.is_kid (formed c m) (q c m) (kids c) (sources c m) (ready c m) (from c) (many c) (inside c m) cs μ l (λ j a b. bare j (a, b)) in
        subst (λ z. Goes μ P (then (tried z) (λ u. done (made c))) (walked c cs)) (sym (picked (member c ids) (λ m. numbers_of (numbers_in (d c m)) (kids c) (from c) (many c)) [] (declares c ids m)))
        (subst (λ z. Goes μ P (then (tried ask) (λ u. done z)) (walked c cs)) (sym (kid_is ids f f' d kids from many c m))
        (subst (λ z. Goes μ P (then (tried ask) (λ u. done (column_as (f c) (f' c) (d c (declares c ids m)) (kids c) (from c) (many c)))) (z cs))
        (sym (picked (member c ids) (λ m. node_walk x.plan (child_of x.plan i c) (body_walk x.plan (d c m) (child_of x.plan i c)) (kids c) (from c) (many c)) (λ c2. Rattle.walk.specs.Log.done c2) (declares c ids m)))
        r))
      where
        ask : List Demand
        ask = numbers_of (numbers_in (d c (declares c ids m))) (kids c) (from c) (many c)

        P : Column (f' c) → List ℕ → Memory → Type 0
        P y c2 μ2 = Stood x buffers c2 μ2 (f' c) (child_of x.plan i c) y × Kept (child_of x.plan i c) (end_of x.plan (child_of x.plan i c)) cs c2 μ μ2

    -- what the fields `es` come to
    abbrev Come : List ℕ → List ℕ → Memory → Unit {0} → List ℕ → Memory → Type 0
    Come es cs μ u c2 μ2 = ((c : ℕ) → Memᴰ c es → Stood x buffers c2 μ2 (f' c) (child_of x.plan i c) (made c)) × FieldsKept i es cs c2 μ μ2

    abbrev Rest : List ℕ → Type 0
    Rest es =
        (cs : List ℕ) (μ : Memory) → length cs ≡ 96 → ((c : ℕ) → Memᴰ c es → (j : ℕ) → In i c j → Bare cs μ j)
        → Goes μ (Come es cs μ) (then (tried (gather es asked)) (λ u. done tt)) (fields_walk es walked cs)

    cons_go : (e : ℕ) (es : List ℕ) → ((c : ℕ) → Memᴰ c (e ∷ es) → Memᴰ c ids) → (Memᴰ e es → ⊥) → Rest es → Rest (e ∷ es)
    cons_go e es sub new ih cs μ l bare =
        subst (λ z. Goes μ (Come (e ∷ es) cs μ) z (fields_walk (e ∷ es) walked cs))
        (then_made (tried (asked e)) (made e) (then (tried (gather es asked)) (λ u. done tt)) ∙ sym (ap (λ z. then z (λ u. done tt)) (tried_then (asked e) (gather es asked)) ∙ then_both (tried (asked e)) (tried (gather es asked)) (λ u. done tt)))
        (goes_then (λ y. then (tried (gather es asked)) (λ u. done tt)) (λ c2. fields_walk es walked c2) known rest)
      where
        here : Memᴰ e ids
        here = sub e (Memᴰ.head refl)

        P : Column (f' e) → List ℕ → Memory → Type 0
        P y c2 μ2 = Stood x buffers c2 μ2 (f' e) (child_of x.plan i e) (made e) × Kept (child_of x.plan i e) (end_of x.plan (child_of x.plan i e)) cs c2 μ μ2

        known : Goes μ P (then (tried (asked e)) (λ u. done (made e))) (walked e cs)
        known = goes_value (tried (asked e)) (made e) (made e) (λ c2 ν h. h) (one e here cs μ l (bare e (Memᴰ.head refl)))

        away : (c : ℕ) → Memᴰ c es → (j : ℕ) → In i e j → In i c j → ⊥
        away c m j a b = apart e c here (sub c (Memᴰ.tail m)) (λ z. new (subst (λ w. Memᴰ w es) (sym z) m)) j a b

        finish : (c2 : List ℕ) (ν : Memory) → (Stood x buffers c2 ν (f' e) (child_of x.plan i e) (made e) × Kept (child_of x.plan i e) (end_of x.plan (child_of x.plan i e)) cs c2 μ ν)
            → (c3 : List ℕ) (ν3 : Memory) → Come es c2 ν tt c3 ν3 → Come (e ∷ es) cs μ tt c3 ν3
        finish c2 ν h c3 ν3 z = (each, record { long = z.1.long ∙ h.1.long; outside = λ j u. same_then (h.1.outside j (λ a b. u e (Memᴰ.head refl) (a, b))) (z.1.outside j (λ q m a. u q (Memᴰ.tail m) a)) })
          where
            each : (c : ℕ) → Memᴰ c (e ∷ es) → Stood x buffers c3 ν3 (f' c) (child_of x.plan i c) (made c)
            each c (Memᴰ.head r) =
                subst (λ c. Stood x buffers c3 ν3 (f' c) (child_of x.plan i c) (made c)) (sym r)
                (stood_same x buffers c2 c3 ν ν3 k (f' e) (child_of x.plan i e) (made e) (field e here).is_kid (q e here) (λ j a b. z.1.outside j (λ w m v. away w m j (a, b) v)) h.0)
            each c (Memᴰ.tail m) = z.0 c m

        rest : (y : Column (f' e)) (c2 : List ℕ) (ν : Memory) → P y c2 ν → Goes ν (Come (e ∷ es) cs μ) (then (tried (gather es asked)) (λ u. done tt)) (fields_walk es walked c2)
        rest y c2 ν h =
            goes_value (tried (gather es asked)) tt tt (finish c2 ν h)
            (ih c2 ν (h.1.long ∙ l) (λ c m j a. bare_same (h.1.outside j (λ u v. away c m j (u, v) a)) (bare c (Memᴰ.tail m) j a)))

    -- all that are left
    fields_go : (es : List ℕ) → ((c : ℕ) → Memᴰ c es → Memᴰ c ids) → Ids es → Rest es
    fields_go [] sub dis cs μ l bare =
        goes_done tt cs ((λ c m. absurd (Memᴰ.not-nil m)), record { long = refl; outside = λ j h. same_refl cs μ j })
    fields_go (e ∷ es) sub dis cs μ l bare = cons_go e es sub dis.1 (fields_go es (λ c m. sub c (Memᴰ.tail m)) dis.2) cs μ l bare

    -- what is left of the union's own node and of others
    fields_kept : (c c' : List ℕ) (μ μ' : Memory) → FieldsKept i ids c c' μ μ' → DataKept i (end_of x.plan i) c c' μ μ' × SameAt c c' μ μ' i
    fields_kept c c' μ μ' h =
        let own = h.outside i (λ r m a. let g = field r m in omega (arith, g.behind, a.0)) in (
          record {
            long = h.long;
            rows_own = own.rows_same;
            nulls_own = own.nulls_same;
            bits_own = own.bits_same;
            outside = λ j u. h.outside j (λ r m a. let g = field r m in u (omega (arith, g.behind, a.0)) (omega (arith, g.ends, a.1)));
          },
          own,
        )

    all_fields : Ids ids → Rest ids
    all_fields dis = fields_go ids (λ c m. m) dis

  -- ---- the two kinds

  module _ (nullable0 : ℕ → Bool) (flags : (c : ℕ) → Declared ids c → nullable0 c ≡ nullable c) where
    pub sparse_kind_lem : BodyLaw x buffers (t_sparse ids nullable0 f) (t_sparse ids nullable f') (s_sparse ids nullable0 nullable f f' flags d)
    sparse_kind_lem zero i wd g q okay b s n h r c μ o = absurd wd
    sparse_kind_lem (suc k) i wd g q okay b s n h r c μ o =
        goes_wrote (put i 1 0 bs) c (λ c1. fields_walk ids W c1) (at_zero i 1 μ (o.own 1))
        (goes_value (tried (gather ids (asked k i wd.4 wd.2 g.1 q b.children h.child_rule r (λ c. s) (λ c. n) h.long))) tt (body_as (s_sparse ids nullable0 nullable f f' flags d) okay b s n) finish
        (all_fields k i wd.4 wd.2 g.1 q b.children h.child_rule r (λ c. s) (λ c. n) h.long g.0 c (put_in i 1 bs μ) o.long
        (λ e m j a. let v = field k i wd.4 wd.2 g.1 q b.children h.child_rule r (λ c. s) (λ c. n) h.long e m in
        bare_same (put_other i 1 bs μ c j (λ z. omega (arith, v.behind, a.0))) (o.behind j (omega (arith, v.behind, a.0)) (omega (arith, v.ends, a.1))))))
      where
        bs : List ℕ
        bs = take n (drop s b.ids)

        W : ℕ → List ℕ → Out
        W = walked k i wd.4 wd.2 g.1 q b.children h.child_rule r (λ c. s) (λ c. n) h.long

        finish : (c3 : List ℕ) (μ3 : Memory) → Come k i wd.4 wd.2 g.1 q b.children h.child_rule r (λ c. s) (λ c. n) h.long ids c (put_in i 1 bs μ) tt c3 μ3
            → (StoodData x buffers c3 μ3 (t_sparse ids nullable f') i n (body_as (s_sparse ids nullable0 nullable f f' flags d) okay b s n) × DataKept i (end_of x.plan i) c c3 μ μ3)
        finish c3 μ3 z =
            let v = fields_kept k i wd.4 wd.2 g.1 q b.children h.child_rule r (λ c. s) (λ c. n) h.long c c3 (put_in i 1 bs μ) μ3 z.1 in
            ((record { bytes_are = v.1.at_same 1 ∙ first_put i 1 bs μ (o.own 1); long = ids_long b.ids s n h.hold }, z.0), data_then (data_put i 1 bs μ c (end_of x.plan i) wd.3) v.0)

    pub dense_kind_lem : BodyLaw x buffers (t_dense ids nullable0 f) (t_dense ids nullable f') (s_dense ids nullable0 nullable f f' flags d)
    dense_kind_lem zero i wd g q okay b s n h r c μ o = absurd wd
    dense_kind_lem (suc k) i wd g q okay b s n h r c μ o =
        goes_wrote (put i 1 0 bs) c (λ c1. next (wrote (put i 2 0 ps) c1) (λ c2. fields_walk ids W c2)) (at_zero i 1 μ (o.own 1))
        (goes_wrote (put i 2 0 ps) c (λ c2. fields_walk ids W c2) (at_zero i 2 (put_in i 1 bs μ) second_empty)
        (goes_value (tried (gather ids (asked k i wd.4 wd.2 g.1 q b.children h.child_rule r (λ c. 0) (λ c. (b.children c).len) whole))) tt (body_as (s_dense ids nullable0 nullable f f' flags d) okay b s n) finish
        (all_fields k i wd.4 wd.2 g.1 q b.children h.child_rule r (λ c. 0) (λ c. (b.children c).len) whole g.0 c (put_in i 2 ps (put_in i 1 bs μ)) o.long
        (λ e m j a. let v = field k i wd.4 wd.2 g.1 q b.children h.child_rule r (λ c. 0) (λ c. (b.children c).len) whole e m in
        bare_same (same_then (put_other i 1 bs μ c j (λ z. omega (arith, v.behind, a.0))) (put_other i 2 ps (put_in i 1 bs μ) c j (λ z. omega (arith, v.behind, a.0)))) (o.behind j (omega (arith, v.behind, a.0)) (omega (arith, v.ends, a.1)))))))
      where
        bs : List ℕ
        bs = take n (drop s b.ids)

        ps : List ℕ
        ps = take (n * 4) (drop (s * 4) b.positions)

        whole : (c : ℕ) → Memᴰ c ids → 0 + (b.children c).len ≤ (b.children c).len
        whole c m = omega arith

        W : ℕ → List ℕ → Out
        W = walked k i wd.4 wd.2 g.1 q b.children h.child_rule r (λ c. 0) (λ c. (b.children c).len) whole

        second_empty : (put_in i 1 bs μ).at i 2 ≡ []
        second_empty = put_beside i 1 bs μ 2 (λ z. omega arith) ∙ o.own 2

        finish : (c3 : List ℕ) (μ3 : Memory) → Come k i wd.4 wd.2 g.1 q b.children h.child_rule r (λ c. 0) (λ c. (b.children c).len) whole ids c (put_in i 2 ps (put_in i 1 bs μ)) tt c3 μ3
            → (StoodData x buffers c3 μ3 (t_dense ids nullable f') i n (body_as (s_dense ids nullable0 nullable f f' flags d) okay b s n) × DataKept i (end_of x.plan i) c c3 μ μ3)
        finish c3 μ3 z =
            let v = fields_kept k i wd.4 wd.2 g.1 q b.children h.child_rule r (λ c. 0) (λ c. (b.children c).len) whole c c3 (put_in i 2 ps (put_in i 1 bs μ)) μ3 z.1 in (
              (
                record { bytes_are = v.1.at_same 1 ∙ put_beside i 2 ps (put_in i 1 bs μ) 1 (λ u. omega arith) ∙ first_put i 1 bs μ (o.own 1); long = ids_long b.ids s n h.hold_ids },
                record { bytes_are = v.1.at_same 2 ∙ first_put i 2 ps (put_in i 1 bs μ) second_empty; long = length_cut 4 s n b.positions h.hold_positions },
                z.0,
              ),
              data_then (data_put i 1 bs μ c (end_of x.plan i) wd.3) (data_then (data_put i 2 ps (put_in i 1 bs μ) c (end_of x.plan i) wd.3) v.0),
            )
