-- Views, list-views, lists, run ends and keys in other widths, as the walk writes them. Assumes nothing.
use mathlib.Core.Path.{◌≡◌, refl, sym, ap, subst, ◌∙◌}
use mathlib.Core.Bool.{Bool, true, cond}
use mathlib.Core.List.{List, [], ◌∷◌, ◌++◌}
use Prim.Native.Nat.{ℕ, zero, suc, ◌+◌, ◌-◌, ◌*◌, ◌≤◌, ◌<◌, min}
use native.Mathlib.Nat.{zero-add}
use native.Mathlib.Omega.{arith}
use lib.ListN.{take, drop}
use lib.Dec.{T, ltb}
use Rattle.columnar.specs.Row.{seg}
use Rattle.columnar.specs.Types.{Number, width, half, limit, Plain, Ty, t_plain, t_view, t_list_view, t_list, t_run_end, t_dictionary}
use Rattle.columnar.specs.Array.{item, ok}
use Rattle.columnar.specs.Entries.{encodes}
use Rattle.columnar.specs.RunEnd.{RunEnd, end_of, start_of}
use Rattle.columnar.specs.Wider.{integer}
use Rattle.columnar.specs.Reading.{Body}
use Rattle.columnar.proofs.Items.{length_encodes, length_cut}
use Rattle.model.specs.Try.{done, guard}
use Rattle.model.proofs.Bits.{length_seg}
use Rattle.walk.specs.State.{rows, add_rows, top}
use Rattle.walk.specs.Log.{Out, put, wrote, next}
use Rattle.refinement.specs.walk_is_model.Memory.{Memory, put_in}
use Rattle.refinement.specs.orders.Order.{Lent}
use Rattle.refinement.proofs.walk_is_model.Frame.{SameAt, Kept, same_then, worded_span}
use Rattle.refinement.proofs.walk_is_model.Owed.{DataKept}
use Rattle.refinement.proofs.walk_is_model.Counters.{grown_is, rows_added, rows_other, nulls_of_rows, bytes_of_rows, long_rows}
use Rattle.refinement.proofs.walk_is_model.Goes.{Goes, goes_guard, goes_wrote}
use Rattle.refinement.proofs.walk_is_model.Writes.{goes_write, put_beside, put_other, data_put, data_then}
use Rattle.anew.specs.widths.Widths.{PlainWidths, Widths, s_plain, s_view, s_list_view, s_list, s_run_end, s_dictionary}
use Rattle.anew.specs.widths.Converted.{span_of, offsets_of, first_of, many_of, ends_of, node_as, plain_as, body_as, column_as}
use Rattle.anew.specs.widths.Fitting.{Demand, needs, tried, numbers_of, numbers_in, plain_numbers}
use Rattle.anew.proofs.widths.Fits.{tried_done}
use Rattle.anew.proofs.widths.Plain.{first_least, last_within}
use Rattle.anew.proofs.widths.Decide.{offsets_decide}
use Rattle.anew.proofs.widths.Runs.{runs_in_lem}
use Rattle.anew.proofs.widths.Cut.{cut}
use Rattle.anew.specs.Stood.{StoodNode, StoodPlain, in_parts, StoodData, Stood}
use Rattle.anew.proofs.Bits.{bits_none}
use Rattle.width_walks.specs.Convert.{all_under, end_fits, node_walk, plain_walk, body_walk}
use Rattle.width_walks.proofs.Tries.{asks, under_decides, end_decides, goes_value}
use Rattle.width_walks.proofs.Frames.{Bare, bare_same, data_behind}
use Rattle.width_walks.proofs.Node.{node_goes}
use Rattle.width_walks.proofs.Plain.{first_put, at_zero, plain_law}
use Rattle.width_walks.proofs.Laws.{BodyLaw, NodeLaw}

abbrev walk_end : List ℕ → ℕ → ℕ
walk_end plan i = Rattle.walk.specs.State.end_of plan i

module _ (x : Lent) (buffers : List ℕ) where
  pub plain_kind_lem : (p p' : Plain) (d : PlainWidths p p') → BodyLaw x buffers (t_plain p) (t_plain p') (s_plain p p' d)
  plain_kind_lem p p' d zero i w g q okay b s n h r c μ o = absurd w
  plain_kind_lem p p' d (suc k) i w g q okay b s n h r c μ o = plain_law x buffers p p' d i (walk_end x.plan i) w.0 w.1 okay b s n h c μ o

  pub view_kind_lem : BodyLaw x buffers t_view t_view s_view
  view_kind_lem zero i w g q okay b s n h r c μ o = absurd w
  view_kind_lem (suc k) i w g q okay b s n h r c μ o =
      let bs = take (n * 16) (drop (s * 16) b.views) in
      goes_write (body_as s_view okay b s n) (put i 1 0 bs) c (at_zero i 1 μ (o.own 1))
      ((record { bytes_are = first_put i 1 bs μ (o.own 1); long = length_cut 16 s n b.views h.hold }, r c (put_in i 1 bs μ)), data_put i 1 bs μ c (walk_end x.plan i) w.1)

  -- ---- list-views and lists

  module _ (w w' : ℕ) (t t' : Ty) (d : Widths t t') (law : NodeLaw x buffers t t' d) where
    pub list_view_kind : BodyLaw x buffers (t_list_view w t) (t_list_view w' t') (s_list_view w w' t t' d)
    list_view_kind zero i wd g q okay b s n h r c μ o = absurd wd
    list_view_kind (suc k) i wd g q okay b s n h r c μ o =
        subst (λ z. Goes μ Q z (body_walk x.plan (s_list_view w w' t t' d) i okay b s n c))
        (sym
        (asks (needs 6 (half w') (seg (item w b.offsets) s n)) (needs 6 (half w') (seg (item w b.sizes) s n) ++ kids) t1 6 (λ u. done made) (under_decides 6 (half w') (seg (item w b.offsets) s n))
        ∙ ap (guard t1 6)
        (asks (needs 6 (half w') (seg (item w b.sizes) s n)) kids t2 6 (λ u. done made) (under_decides 6 (half w') (seg (item w b.sizes) s n)))))
        (goes_guard t1 t1 6 c (omega arith) refl
        (λ z1. goes_guard t2 t2 6 c (omega arith) refl
        (λ z2. goes_wrote (put i 1 0 offs) c (λ c1. next (wrote (put i 2 0 sizes) c1) rest) (at_zero i 1 μ (o.own 1))
        (goes_wrote (put i 2 0 sizes) c rest (at_zero i 2 (put_in i 1 offs μ) second_empty)
        (goes_value (tried kids) (column_as t t' d b.child 0 b.child.len) made finish
        (law k (suc i) wd.4 g.1 q b.child h.child_rule r 0 b.child.len (omega arith) c (put_in i 2 sizes (put_in i 1 offs μ)) o.long
        (λ j u v. bare_same (same_then (put_other i 1 offs μ c j (λ z. omega arith)) (put_other i 2 sizes (put_in i 1 offs μ) c j (λ z. omega arith))) (o.behind j (omega arith) (omega (arith, e))))))))))
      where
        e : walk_end x.plan i ≡ walk_end x.plan (suc i)
        e = wd.1

        p : i < walk_end x.plan i
        p = worded_span x.plan (suc k) (t_list_view w' t') i wd

        offs : List ℕ
        offs = encodes w' (seg (item w b.offsets) s n)

        sizes : List ℕ
        sizes = encodes w' (seg (item w b.sizes) s n)

        kids : List Demand
        kids = numbers_of (numbers_in d) b.child 0 b.child.len

        t1 : Bool
        t1 = all_under (half w') (seg (item w b.offsets) s n)

        t2 : Bool
        t2 = all_under (half w') (seg (item w b.sizes) s n)

        made : Body (t_list_view w' t')
        made = body_as (s_list_view w w' t t' d) okay b s n

        rest : List ℕ → Out
        rest c2 = node_walk x.plan (suc i) (body_walk x.plan d (suc i)) b.child 0 b.child.len c2

        Q : Body (t_list_view w' t') → List ℕ → Memory → Type 0
        Q y c2 μ2 = StoodData x buffers c2 μ2 (t_list_view w' t') i n y × DataKept i (walk_end x.plan i) c c2 μ μ2

        second_empty : (put_in i 1 offs μ).at i 2 ≡ []
        second_empty = put_beside i 1 offs μ 2 (λ z. omega arith) ∙ o.own 2

        finish : (c3 : List ℕ) (μ3 : Memory) → (Stood x buffers c3 μ3 t' (suc i) (column_as t t' d b.child 0 b.child.len) × Kept (suc i) (walk_end x.plan (suc i)) c c3 (put_in i 2 sizes (put_in i 1 offs μ)) μ3) → Q made c3 μ3
        finish c3 μ3 z =
            let a = z.1.outside i (λ u v. omega arith) in (
              (
                record { bytes_are = a.at_same 1 ∙ put_beside i 2 sizes (put_in i 1 offs μ) 1 (λ u. omega arith) ∙ first_put i 1 offs μ (o.own 1); long = length_encodes w' (seg (item w b.offsets) s n) ∙ ap (λ m. m * w') (length_seg (item w b.offsets) s n) },
                record { bytes_are = a.at_same 2 ∙ first_put i 2 sizes (put_in i 1 offs μ) second_empty; long = length_encodes w' (seg (item w b.sizes) s n) ∙ ap (λ m. m * w') (length_seg (item w b.sizes) s n) },
                z.0,
              ),
              data_then (data_put i 1 offs μ c (walk_end x.plan i) p) (data_then (data_put i 2 sizes (put_in i 1 offs μ) c (walk_end x.plan i) p) (data_behind i (walk_end x.plan i) (suc i) (walk_end x.plan (suc i)) (omega arith) (omega (arith, e)) z.1)),
            )

    pub list_kind_lem : BodyLaw x buffers (t_list w t) (t_list w' t') (s_list w w' t t' d)
    list_kind_lem zero i wd g q okay b s n h r c μ o = absurd wd
    list_kind_lem (suc k) i wd g q okay b s n h r c μ o =
        subst (λ z. Goes μ Q z (body_walk x.plan (s_list w w' t t' d) i okay b s n c))
        (sym (asks (needs 6 (half w') (offsets_of w b.offsets s n)) kids t1 6 (λ u. done made) (offsets_decide w b.offsets b.child.len s n h.offsets_rule_lem (half w'))))
        (goes_guard t1 t1 6 c (omega arith) refl
        (λ z1. goes_wrote (put i 1 0 offs) c rest (at_zero i 1 μ (o.own 1))
        (goes_value (tried kids) (column_as t t' d b.child (item w b.offsets s) (span_of w b.offsets s n)) made finish
        (law k (suc i) wd.4 g.1 q b.child h.child_rule r (item w b.offsets s) (span_of w b.offsets s n)
        (omega (arith, first_least w b.offsets b.child.len s n h.offsets_rule_lem n (omega arith), last_within w b.offsets b.child.len s n h.offsets_rule_lem)) c (put_in i 1 offs μ) o.long
        (λ j u v. bare_same (put_other i 1 offs μ c j (λ z. omega arith)) (o.behind j (omega arith) (omega (arith, e))))))))
      where
        e : walk_end x.plan i ≡ walk_end x.plan (suc i)
        e = wd.1

        p : i < walk_end x.plan i
        p = worded_span x.plan (suc k) (t_list w' t') i wd

        offs : List ℕ
        offs = encodes w' (offsets_of w b.offsets s n)

        kids : List Demand
        kids = numbers_of (numbers_in d) b.child (item w b.offsets s) (span_of w b.offsets s n)

        t1 : Bool
        t1 = ltb (span_of w b.offsets s n) (half w')

        made : Body (t_list w' t')
        made = body_as (s_list w w' t t' d) okay b s n

        rest : List ℕ → Out
        rest c2 = node_walk x.plan (suc i) (body_walk x.plan d (suc i)) b.child (item w b.offsets s) (span_of w b.offsets s n) c2

        Q : Body (t_list w' t') → List ℕ → Memory → Type 0
        Q y c2 μ2 = StoodData x buffers c2 μ2 (t_list w' t') i n y × DataKept i (walk_end x.plan i) c c2 μ μ2

        finish : (c3 : List ℕ) (μ3 : Memory) → (Stood x buffers c3 μ3 t' (suc i) (column_as t t' d b.child (item w b.offsets s) (span_of w b.offsets s n)) × Kept (suc i) (walk_end x.plan (suc i)) c c3 (put_in i 1 offs μ) μ3) → Q made c3 μ3
        finish c3 μ3 z =
            let a = z.1.outside i (λ u v. omega arith) in (
              (
                record { bytes_are = a.at_same 1 ∙ first_put i 1 offs μ (o.own 1); long = length_encodes w' (offsets_of w b.offsets s n) ∙ ap (λ m. m * w') (length_seg (λ j. item w b.offsets j - item w b.offsets s) s (suc n)) },
                z.0,
              ),
              data_then (data_put i 1 offs μ c (walk_end x.plan i) p) (data_behind i (walk_end x.plan i) (suc i) (walk_end x.plan (suc i)) (omega arith) (omega (arith, e)) z.1),
            )

    -- ---- run ends

    many_in_lem : (b : RunEnd (Body t)) (s n : ℕ) → ((k : ℕ) → k < b.ends.len → start_of (end_of w b.ends) k < end_of w b.ends k)
        → s + n ≤ start_of (end_of w b.ends) b.ends.len → end_fits (half w') n ≡ true → first_of w b s n + many_of w b s n ≤ b.ends.len
    many_in_lem b s zero rises covers z = omega arith
    many_in_lem b s (suc n) rises covers z =
        runs_in_lem w w' b s n rises covers
        (tried_done (needs 7 (half w') (ends_of w b s (suc n))) (end_decides w b s (suc n) rises covers (half w') ∙ ap (λ y. guard y 7 (done tt)) z))

    pub run_end_kind : BodyLaw x buffers (t_run_end w t) (t_run_end w' t') (s_run_end w w' t t' d)
    run_end_kind zero i wd g q okay b s n h r c μ o = absurd wd
    run_end_kind (suc k) i wd g q okay b s n h r c μ o =
        subst (λ z. Goes μ Q z (body_walk x.plan (s_run_end w w' t t' d) i okay b s n c))
        (sym (asks (needs 7 (half w') (ends_of w b s n)) kids t1 7 (λ u. done made) (end_decides w b s n h.rises h.covers (half w'))))
        (goes_guard t1 t1 7 c (omega arith) refl
        (λ z1. goes_wrote (put (suc i) 1 0 ends) c rest (at_zero (suc i) 1 μ (bare1.no_bytes 1))
        (goes_value (tried kids) (column_as t t' d b.values (first_of w b s n) (many_of w b s n)) made (finish z1)
        (law k (suc (suc i)) wd.4 g.1 q.1 b.values h.child_rule r (first_of w b s n) (many_of w b s n)
        (omega (arith, many_in_lem b s n h.rises h.covers z1, h.as_many)) (add_rows (suc i) (many_of w b s n) c) (put_in (suc i) 1 ends μ) (long_rows (suc i) (many_of w b s n) c ∙ o.long)
        (λ j u v. bare_same (other j (λ z. omega arith)) (o.behind j (omega arith) (omega (arith, e))))))))
      where
        e : walk_end x.plan i ≡ walk_end x.plan (suc (suc i))
        e = wd.1

        p : suc i < walk_end x.plan i
        p = let z = worded_span x.plan k t' (suc (suc i)) wd.4 in omega (arith, e)

        ends : List ℕ
        ends = encodes w' (ends_of w b s n)

        kids : List Demand
        kids = numbers_of (numbers_in d) b.values (first_of w b s n) (many_of w b s n)

        t1 : Bool
        t1 = end_fits (half w') n

        made : Body (t_run_end w' t')
        made = body_as (s_run_end w w' t t' d) okay b s n

        bare1 : Bare c μ (suc i)
        bare1 = o.behind (suc i) (omega arith) p

        rest : List ℕ → Out
        rest c2 = node_walk x.plan (suc (suc i)) (body_walk x.plan d (suc (suc i))) b.values (first_of w b s n) (many_of w b s n) (add_rows (suc i) (many_of w b s n) c2)

        Q : Body (t_run_end w' t') → List ℕ → Memory → Type 0
        Q y c2 μ2 = StoodData x buffers c2 μ2 (t_run_end w' t') i n y × DataKept i (walk_end x.plan i) c c2 μ μ2

        other : (j : ℕ) → (j ≡ suc i → ⊥) → SameAt c (add_rows (suc i) (many_of w b s n) c) μ (put_in (suc i) 1 ends μ) j
        other j z =
            let a = put_other (suc i) 1 ends μ c j z in
            record {
              rows_same = rows_other c (suc i) (many_of w b s n) j z;
              nulls_same = nulls_of_rows c (suc i) (many_of w b s n) j;
              bytes_same = bytes_of_rows c (suc i) (many_of w b s n) j;
              at_same = a.at_same;
              bits_same = a.bits_same;
            }

        own : DataKept i (walk_end x.plan i) c (add_rows (suc i) (many_of w b s n) c) μ (put_in (suc i) 1 ends μ)
        own =
            record {
              long = long_rows (suc i) (many_of w b s n) c;
              rows_own = rows_other c (suc i) (many_of w b s n) i (λ z. omega arith);
              nulls_own = nulls_of_rows c (suc i) (many_of w b s n) i;
              bits_own = refl;
              outside = λ j u. other j (λ z. u (omega (arith, z)) (omega (arith, z, p)));
            }

        finish : end_fits (half w') n ≡ true → (c3 : List ℕ) (μ3 : Memory)
            → (Stood x buffers c3 μ3 t' (suc (suc i)) (column_as t t' d b.values (first_of w b s n) (many_of w b s n)) × Kept (suc (suc i)) (walk_end x.plan (suc (suc i))) (add_rows (suc i) (many_of w b s n) c) c3 (put_in (suc i) 1 ends μ) μ3) → Q made c3 μ3
        finish z1 c3 μ3 z =
            let a = z.1.outside (suc i) (λ u v. omega arith) in
            let few : many_of w b s n ≤ top = omega (arith, many_in_lem b s n h.rises h.covers z1, h.as_many, r.small) in (
              (
                record {
                  rows_are = a.rows_same ∙ rows_added c o.long (suc i) (omega (arith, p)) (many_of w b s n) ∙ grown_is (rows c (suc i)) (many_of w b s n) (omega (arith, bare1.no_rows)) ∙ ap (λ m. m + many_of w b s n) bare1.no_rows ∙ zero-add (many_of w b s n);
                  from_zero = refl;
                  bits_are = bits_none x buffers c3 μ3 (suc i) true (many_of w b s n) q.0;
                  body_is =
                      record {
                        bytes_are = a.at_same 1 ∙ first_put (suc i) 1 ends μ (bare1.no_bytes 1);
                        long = length_encodes w' (ends_of w b s n) ∙ ap (λ m. m * w') (length_seg (λ j. min (end_of w b.ends j) (s + n) - s) (first_of w b s n) (many_of w b s n));
                      };
                },
                z.0,
              ),
              data_then own (data_behind i (walk_end x.plan i) (suc (suc i)) (walk_end x.plan (suc (suc i))) (omega arith) (omega (arith, e)) z.1),
            )

  -- ---- keys

  pub dictionary_kind_lem : (k k' : Number) (p p' : Plain) (y : T (integer k)) (y' : T (integer k')) (d : PlainWidths p p')
      → BodyLaw x buffers (t_dictionary k p) (t_dictionary k' p') (s_dictionary k k' p p' y y' d)
  dictionary_kind_lem k k' p p' y y' d zero i wd g q okay b s n h r c μ o = absurd wd
  dictionary_kind_lem k k' p p' y y' d (suc f) i wd g q okay b s n h r c μ o =
      subst (λ z. Goes μ Q z (body_walk x.plan (s_dictionary k k' p p' y y' d) i okay b s n c))
      (sym (asks (needs 8 (limit k') ((b.values.len - 1) ∷ [])) kids t1 8 (λ u. done made) refl))
      (goes_guard t1 t1 8 c (omega arith) refl
      (λ z1. goes_wrote (put i 1 0 keys) c rest (at_zero i 1 μ (o.own 1))
      (goes_value (tried kids) _ made finish
      (node_goes x buffers (suc i) (walk_end x.plan i) (omega (arith, q.1)) q.1 true b.values h.child_rule.mask r.keeps 0 b.values.len (omega arith) r.small
      (λ c2 μ2 m z. StoodPlain x buffers c2 μ2 p' (suc i) m z) (tried kids) (plain_as d (ok b.values.valid) b.values.body (b.values.off + 0) b.values.len)
      (plain_walk x.plan d (suc i) (ok b.values.valid) b.values.body (b.values.off + 0) b.values.len) c (put_in i 1 keys μ) o.long
      (λ j u v. bare_same (put_other i 1 keys μ c j (λ z. omega arith)) (o.behind j (omega arith) v))
      (plain_law x buffers p p' d (suc i) (walk_end x.plan i) (omega (arith, q.1)) q.1 (ok b.values.valid) b.values.body (b.values.off + 0) b.values.len
      (cut (t_plain p) (ok b.values.valid) b.values.body b.values.off b.values.len 0 b.values.len (omega arith) h.child_rule.slots))))))
    where
      keys : List ℕ
      keys = encodes (width k') (seg (λ j. cond (okay j) (item (width k) b.keys j) 0) s n)

      kids : List Demand
      kids = numbers_of (plain_numbers d) b.values 0 b.values.len

      t1 : Bool
      t1 = ltb (b.values.len - 1) (limit k')

      made : Body (t_dictionary k' p')
      made = body_as (s_dictionary k k' p p' y y' d) okay b s n

      rest : List ℕ → Out
      rest c2 = node_walk x.plan (suc i) (plain_walk x.plan d (suc i)) b.values 0 b.values.len c2

      Q : Body (t_dictionary k' p') → List ℕ → Memory → Type 0
      Q z c2 μ2 = StoodData x buffers c2 μ2 (t_dictionary k' p') i n z × DataKept i (walk_end x.plan i) c c2 μ μ2

      finish : (c3 : List ℕ) (μ3 : Memory)
          → (StoodNode x buffers c3 μ3 (suc i) true (StoodPlain x buffers c3 μ3 p' (suc i)) (node_as true (plain_as d) b.values 0 b.values.len) × Kept (suc i) (walk_end x.plan i) c c3 (put_in i 1 keys μ) μ3) → Q made c3 μ3
      finish c3 μ3 z =
          let a = z.1.outside i (λ u v. omega arith) in (
            (
              record { bytes_are = a.at_same 1 ∙ first_put i 1 keys μ (o.own 1); long = length_encodes (width k') (seg (λ j. cond (okay j) (item (width k) b.keys j) 0) s n) ∙ ap (λ m. m * width k') (length_seg (λ j. cond (okay j) (item (width k) b.keys j) 0) s n) },
              in_parts q.0 z.0,
            ),
            data_then (data_put i 1 keys μ c (walk_end x.plan i) wd.1) (data_behind i (walk_end x.plan i) (suc i) (walk_end x.plan i) (omega arith) (omega arith) z.1),
          )
