-- Lists: the offsets of a copy, then one stretch of the child; and nulls. Assumes nothing.
use mathlib.Core.Path.{◌≡◌, refl, sym, ap, ◌∙◌}
use mathlib.Core.Bool.{Bool, true, false}
use mathlib.Core.List.{List, ◌++◌}
use Prim.Native.Nat.{ℕ, zero, suc, ◌+◌, ◌-◌, ◌*◌, ◌≤◌, ◌<◌}
use native.Mathlib.Omega.{arith}
use lib.ListN.{length}
use lib.Dec.{ltb}
use borrow.Author.Tests.{ltb-true, ltb-false, lt-ltb, ne_eqb}
use Rattle.number.specs.Number.{entry}
use Rattle.columnar.specs.Row.{seg}
use Rattle.columnar.specs.Types.{half, Ty, t_list}
use Rattle.columnar.specs.Array.{item}
use Rattle.columnar.specs.Entries.{encodes}
use Rattle.columnar.specs.Reading.{Column, masks}
use Rattle.schema.specs.formats.Code.{is_list}
use Rattle.utils.specs.Offsets.{moved, moved_offsets, repeated}
use Rattle.utils.specs.Extension.{over_at, extended}
use Rattle.utils.proofs.TryExtendOffsets.{over_is, fits_is}
use Rattle.model.specs.Try.{done, then, guard}
use Rattle.model.specs.Mutable.{extend_node}
use Rattle.model.specs.Lists.{Listings, lists_extend}
use Rattle.model.specs.Transform.{Grown, Destination, extend_data}
use Rattle.model.proofs.Law.{FineNode}
use Rattle.model.proofs.Nodes.{ListsFine, FineOf}
use Rattle.model.proofs.TextLaw.{new_offsets_lem}
use Rattle.walk.specs.State.{Join, far, code_of, bytes_of, end_of, rows, place, rows_in}
use Rattle.walk.specs.Log.{put, wrote, need, fail}
use Rattle.walk.specs.Copy.{Walk, copy_data, copy_list, put_stretch}
use Rattle.walk.specs.Nulls.{NullWalk, null_data, null_list}
use Rattle.refinement.specs.walk_is_model.Memory.{Memory, put_in}
use Rattle.refinement.specs.walk_is_model.Holds.{HoldsData, Holds}
use Rattle.refinement.proofs.walk_is_model.Goes.{Goes, over, goes_done, goes_need, goes_wrote}
use Rattle.refinement.proofs.walk_is_model.Frame.{same_then, Kept, kept_refl, worded_span, held_same}
use Rattle.refinement.proofs.walk_is_model.Owed.{DataKept, Given, Copies, CopiesData, FillsData}
use Rattle.refinement.proofs.walk_is_model.Pairs.{goes_wrap, goes_last}
use Rattle.refinement.proofs.walk_is_model.Kids.{worded_small}
use Rattle.refinement.proofs.walk_is_model.Places.{data_kept_refl, put_here, put_other, small_of, width_small, half_far, between_apart}
use Rattle.refinement.proofs.walk_is_model.Parts.{rows_in_lem}
use Rattle.refinement.proofs.walk_is_model.Offsets.{Rows, rows_of, first_is, first_below, never_falls_lem, last_is, new_are}
use Rattle.refinement.proofs.walk_is_model.Entries.{repeated_pieces}
use Rattle.walk.proofs.Names.{put_list}
use Rattle.walk.proofs.Offsets.{list_is}

-- the first buffer of a node written, then what is below it
put_kept : (i : ℕ) (ps : List ℕ) (μ : Memory) (e : ℕ) (c c' : List ℕ) (ν : Memory) → i < e → Kept (suc i) e c c' (put_in i 1 ps μ) ν → DataKept i e c c' μ ν
put_kept i ps μ e c c' ν q k =
    let own = k.outside i (λ a b. omega arith) in
    record {
      long = k.long;
      rows_own = own.rows_same;
      nulls_own = own.nulls_same;
      bits_own = own.bits_same;
      outside = λ j h. same_then (put_other i 1 ps μ c j (λ z. h (omega (arith, z)) (omega (arith, z)))) (k.outside j (λ a b. h (omega arith) b));
    }

module _ (x : Join) (k w : ℕ) (t : Ty) (i m : ℕ) (ss : ℕ → Column (t_list w t)) (g : Given x (suc k) (t_list w t) i m ss) where
  abbrev Src : Column (t_list w t)
  Src = ss x.source

  abbrev kids : ℕ → Column t
  kids j = (ss j).body.child

  abbrev FineLists : Listings (Grown t) → ℕ → Type 0
  FineLists = ListsFine w (FineNode (masks t) (FineOf t m (λ j. (kids j).body)) m kids)

  same_end : end_of x.plan i ≡ end_of x.plan (suc i)
  same_end = g.worded.1

  ends : suc i < end_of x.plan (suc i)
  ends = worded_span x.plan k t (suc i) g.worded.4

  -- the walk of a list's code
  code_is : is_list (code_of x.plan i) ≡ true
  code_is = g.worded.2

  copy_is : (inner : Walk) (slot n : ℕ) (c : List ℕ) → copy_data x inner (code_of x.plan i) i slot n c ≡ copy_list x inner w i slot n c
  unfolding copy_data
  copy_is inner slot n c =
      let code = code_of x.plan i in
      rw (
        between_apart 19 20 1 10 code code_is (omega arith),
        between_apart 19 20 11 14 code code_is (omega arith),
        between_apart 19 20 15 16 code code_is (omega arith),
        between_apart 19 20 17 18 code code_is (omega arith),
        code_is,
        g.worded.3,
      )

  none_is : (inner : Walk) (slot : ℕ) (c : List ℕ) → copy_list x inner w i slot 0 c ≡ Rattle.walk.specs.Log.done c
  unfolding copy_list
  none_is inner slot c = refl

  some_is : (inner : Walk) (slot n : ℕ) (c : List ℕ) → copy_list x inner w i slot (suc n) c
      ≡ need (ltb (suc i) 32) 12 c
      (need (rows_in x (place x i 3) w slot (suc (suc n))) 12 c
      (put_list x inner w i (place x i 3 + w * slot) (suc n) (extended w x.body (place x i 3 + w * slot) (suc n) (rows c (suc i))) c))
  some_is inner slot n c = list_is x inner w i slot (suc n) c ∙ rw (ne_eqb (suc n) 0 (λ e. omega (arith, e)))

  null_is : (inner : NullWalk) (n : ℕ) (c : List ℕ) → null_data x inner (code_of x.plan i) i n c
      ≡ need (ltb (suc i) 32) 12 c (wrote (put i 1 (suc (rows c i) * w) (repeated w (rows c (suc i)) n)) c)
  unfolding null_data null_list
  null_is inner n c =
      let code = code_of x.plan i in
      rw (
        between_apart 19 20 1 10 code code_is (omega arith),
        between_apart 19 20 11 14 code code_is (omega arith),
        between_apart 19 20 15 16 code code_is (omega arith),
        between_apart 19 20 17 18 code code_is (omega arith),
        code_is,
        g.worded.3,
      )

  half_small : half w ≤ far
  half_small = rw (sym g.worded.3) (half_far (bytes_of x.plan i) (width_small (code_of x.plan i)))

  -- ---- a copy of n + 1 rows

  module _ (inner : Walk) (go_on_lem : Copies x inner t (suc i) m kids) (slot n : ℕ) (r : Rows w Src.body.offsets Src.body.child.len slot (suc n))
      (l : ℕ) (d : Listings (Grown t)) (c : List ℕ) (μ : Memory) (fine : FineLists d l) (rows_are : rows c i ≡ l) (long : length c ≡ 96) (h : HoldsData x.plan (t_list w t) i d c μ) where
    abbrev os : List ℕ
    os = Src.body.offsets

    abbrev most : ℕ
    most = Src.body.child.len

    abbrev o : ℕ → ℕ
    o j = item w os j

    abbrev from : ℕ
    from = place x i 3 + w * slot

    abbrev q : ℕ
    q = d.child.len

    abbrev more : ℕ
    more = o (slot + suc n) - o slot

    abbrev new : List ℕ
    new = encodes w (seg (λ j. q + (o (slot + j) - o slot)) 1 (suc n))

    abbrev Wanted : Listings (Grown t) → List ℕ → Memory → Type 0
    Wanted e c' μ' = HoldsData x.plan (t_list w t) i e c' μ' × DataKept i (end_of x.plan i) c c' μ μ'

    abbrev first : o slot ≤ o (slot + suc n)
    first = first_below x i w slot (suc n) os most g.lent.body_is.0 r

    finish : (y : Destination t) (c' : List ℕ) (ν : Memory) → Holds x.plan t (suc i) y c' ν × Kept (suc i) (end_of x.plan (suc i)) c c' (put_in i 1 new μ) ν
        → Wanted (record { buffer1 = d.buffer1 ++ new; child = y }) c' ν
    finish y c' ν p =
        let own = p.1.outside i (λ a b. omega arith) in (
          (own.at_same 1 ∙ put_here i 1 new μ ∙ ap (◌++ new) h.0, p.0),
          rw same_end (put_kept i new μ (end_of x.plan (suc i)) c c' ν (omega (arith, ends)) p.1),
        )

    -- the offsets, then the child's rows, where the last new offset fits
    put_goes : q + more < half w
        → Goes μ Wanted (then (extend_node (masks t) (extend_data t m) kids x.source (o slot) more d.child) (λ y. done (record { buffer1 = d.buffer1 ++ new; child = y })))
        (put_stretch x inner w i from (suc n) (moved w x.body from q (suc n)) (entry w x.body from 0) c)
    unfolding put_stretch
    put_goes fits =
        let e : rows c (suc i) ≡ q = h.1.rows_are in
        let z : q + more - q ≡ more = omega arith in
        rw (
          last_is x i w slot (suc n) os most g.lent.body_is.0 r q,
          first_is x i w slot (suc n) os most g.lent.body_is.0 r,
          e,
          new_are x i w slot (suc n) os most g.lent.body_is.0 r q fits,
          rows_are,
        )
        (goes_wrote (put i 1 (suc l * w) new) c _ (sym (ap length h.0 ∙ fine.offsets_fine.offsets_are))
        (rw (e, z)
        (goes_wrap (λ y. record { buffer1 = d.buffer1 ++ new; child = y }) finish
        (go_on_lem (o slot) more d.child c (put_in i 1 new μ) (omega (arith, first, r.within)) fine.child_fine (small_of (q + more) (omega (arith, half_small))) long
        (held_same x.plan c c μ (put_in i 1 new μ) k t (suc i) d.child g.worded.4 (λ j a b. put_other i 1 new μ c j (λ y. omega (arith, y))) h.1)))))

    -- the model's test of each new offset is the walk's of the last
    rows_go : Goes μ Wanted (lists_extend w (extend_node (masks t) (extend_data t m) kids x.source) Src.body slot (suc n) l d)
        (put_list x inner w i from (suc n) (extended w x.body from (suc n) (rows c (suc i))) c)
    unfolding over_at fail
    rows_go =
        rw (fine.offsets_fine.last_is, h.1.rows_are, new_offsets_lem w os slot (suc n) q r.rises fine.offsets_fine.fits) (go (ltb (q + more) (half w)) refl)
      where
        go : (b : Bool) → ltb (q + more) (half w) ≡ b
            → Goes μ Wanted
            (then (guard b 6 (done new)) (λ os. then (extend_node (masks t) (extend_data t m) kids x.source (o slot) more d.child) (λ y. done (record { buffer1 = d.buffer1 ++ os; child = y }))))
            (put_list x inner w i from (suc n) (extended w x.body from (suc n) q) c)
        go true u =
            let fits = ltb-true (q + more) (half w) u in
            rw (fits_is w x.body from (suc n) q (never_falls_lem x i w slot (suc n) os most g.lent.body_is.0 r) (omega arith)
            (omega (arith, last_is x i w slot (suc n) os most g.lent.body_is.0 r q))) (put_goes fits)
        go false u =
            let no = ltb-false (q + more) (half w) u in
            rw (over_is w x.body from (suc n) q (never_falls_lem x i w slot (suc n) os most g.lent.body_is.0 r) (omega (arith, fine.offsets_fine.fits))
            (omega (arith, last_is x i w slot (suc n) os most g.lent.body_is.0 r q, fine.offsets_fine.fits)))
            (over 6 (fail 6 c) refl (omega arith))

  copies : (inner : Walk) → Copies x inner t (suc i) m kids → CopiesData x inner (t_list w t) i m ss
  copies inner go_on_lem slot zero d c μ low high fine small long rows_are h =
      rw (copy_is inner slot 0 c, none_is inner slot c) (goes_done d.«data» c (h, data_kept_refl i (end_of x.plan i) c μ))
  copies inner go_on_lem slot (suc n) d c μ low high fine small long rows_are h =
      let r = rows_of w Src.body.offsets Src.body.child.len Src.off Src.len slot (suc n) (g.obey x.source g.known).slots.offsets_rule_lem low high (omega arith) in
      rw (copy_is inner slot (suc n) c, some_is inner slot n c)
      (goes_need _ 12 c (lt-ltb (suc i) 32 (worded_small x.plan k t (suc i) g.worded.4))
      (goes_need _ 12 c
      (rows_in_lem x (place x i 3) (place x i 4) Src.body.offsets w slot (suc (suc n)) g.lent.body_is.0 r.hold)
      (rows_go inner go_on_lem slot n r d.len d.«data» c μ fine.data_fine rows_are long h)))

  -- ---- nulls

  fills : (inner : NullWalk) → FillsData x inner (t_list w t) i m ss
  fills inner n d c μ some fine keep small long h =
      let e : rows c (suc i) ≡ d.«data».child.len = h.data_are.1.rows_are in
      let f = fine.data_fine.offsets_fine in
      let ps : List ℕ = repeated w d.«data».child.len n in
      rw (null_is inner n c, e, f.last_is, repeated_pieces w d.«data».child.len n)
      (goes_need _ 12 c (lt-ltb (suc i) 32 (worded_small x.plan k t (suc i) g.worded.4))
      (goes_last _ (put i 1 (suc (rows c i) * w) ps) c (ap (λ z. suc z * w) h.rows_are ∙ sym (ap length h.data_are.0 ∙ f.offsets_are)) (
        (
          put_here i 1 ps μ ∙ ap (◌++ ps) h.data_are.0,
          held_same x.plan c c μ (put_in i 1 ps μ) k t (suc i) d.«data».child g.worded.4 (λ j a b. put_other i 1 ps μ c j (λ y. omega (arith, y))) h.data_are.1,
        ),
        put_kept i ps μ (end_of x.plan i) c c (put_in i 1 ps μ) (omega (arith, ends, same_end)) (kept_refl (suc i) (end_of x.plan i) c (put_in i 1 ps μ)),
      )))

-- A LIST'S COPY GOES WITH THE MODEL'S, where its child's does
pub lists_copies : (x : Join) (inner : Walk) (k w : ℕ) (t : Ty) (i m : ℕ) (ss : ℕ → Column (t_list w t)) → Given x (suc k) (t_list w t) i m ss
    → Copies x inner t (suc i) m (λ j. (ss j).body.child) → CopiesData x inner (t_list w t) i m ss
lists_copies x inner k w t i m ss g = copies x k w t i m ss g inner

-- .. and its nulls
pub lists_fills : (x : Join) (inner : NullWalk) (k w : ℕ) (t : Ty) (i m : ℕ) (ss : ℕ → Column (t_list w t)) → Given x (suc k) (t_list w t) i m ss
    → FillsData x inner (t_list w t) i m ss
lists_fills x inner k w t i m ss g = fills x k w t i m ss g inner
