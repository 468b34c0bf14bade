-- A list-view node by stretches writes what it writes in a copy, part by part. Assumes nothing.
use mathlib.Core.Path.{◌≡◌, sym, ap, ◌∙◌}
use mathlib.Core.Bool.{true}
use mathlib.Core.List.{List, append-nil}
use Prim.Native.Nat.{ℕ, suc, ◌+◌, ◌*◌, ◌≤◌, ◌<◌}
use native.Mathlib.Nat.{mul-le-mul_left}
use native.Mathlib.Omega.{arith}
use lib.Dec.{leb}
use borrow.Author.Tests.{lt-ltb, leb-true}
use Rattle.number.specs.Number.{entry}
use Rattle.bits.proofs.Laws.{Below}
use Rattle.schema.specs.formats.Code.{is_list_view}
use Rattle.walk.specs.State.{Join, code_of, bytes_of, rows, bytes, top, grown, add_rows, place}
use Rattle.walk.specs.Log.{Log, Out, mask, done, next}
use Rattle.walk.specs.Leaves.{copy_mask}
use Rattle.walk.specs.Copy.{Walk, copy_list_view, copy_data, copy_slots, copy_walk}
use Rattle.plan.specs.parts.Parts.{needed_by, size_of, parts_hold, parts_within, Used}
use Rattle.plan.proofs.parts.Placed.{used_holds, bits_held}
use Rattle.refinement.proofs.walk_is_model.Counters.{rows_added, rows_of_nulls}
use Rattle.refinement.proofs.orders.Buffers.{needed_starts, needed_sizes}
use Rattle.batch.specs.Stretch.{stretches}
use Rattle.batch.specs.Batch.{owned, batch_list_view, batch_data, batch_slots, batch_below}
use Rattle.batch.proofs.Ends.{Leaves, next_start_lem, next_rest}
use Rattle.batch.proofs.Tally.{Counts}
use Rattle.batch.proofs.Stretches.{and_right, stretches_each, each_counters}
use Rattle.batch.proofs.Leaves.{mask_fits, mask_zeros, mask_was, mask_goes}
use Rattle.batch.proofs.Contents.{keeps, bits_of, mask_log, bits_long, bits_below}
use Rattle.batch.proofs.LeafNode.{list_view_width}
use Rattle.batch.proofs.ListViews.{mask_counters, list_data}
use Rattle.batch.proofs.Chains.{Chain, list_shows, chain_was}
use Rattle.batch.proofs.ChainLogs.{in_room_lem, Logging, chain_logs}
use Rattle.batch.proofs.Answers.{data_same}
use Rattle.batch.proofs.Alike.{Alike, alike_refl, alike_append, lays, lays_inside}
use Rattle.batch.proofs.StretchLogs.{next_log}
use Rattle.batch.proofs.ListWrites.{tested, list_write}
use Rattle.batch.proofs.Owned.{list_buffers, list_width_some, used_one, used_two, used_bits}

module _ (x : Join) (depth M : ℕ) (body : Below 256 x.body) (less : M < top) (inside : parts_within x.plan x.parts M ≡ true) where
  abbrev S : List ℕ
  S = x.plan

  abbrev Al : Log → Log → Type 0
  Al l m = Alike S x.parts M (Used S) l m

  abbrev below : Walk
  below = batch_below x depth

  -- ---- a list-view

  module _ (i : ℕ) (small : i < 32) (is : is_list_view (code_of S i) ≡ true) (slot n : ℕ) (c : List ℕ) (f : Counts c) where
    abbrev W : ℕ
    W = bytes_of S i

    abbrev kids : Walk
    kids = copy_walk x (suc depth)

    module _ (h : (batch_list_view x below W i slot n c).ans ≡ 0) where
      abbrev c3 : List ℕ
      c3 = (batch_list_view x below W i slot n c).counters

      abbrev end : List ℕ
      end = add_rows i n c3

      shows : (owned S i ≡ true) × (owned S (suc i) ≡ true) × Chain x depth (suc i)
      shows = list_shows x below W i slot n c (λ a m d g. chain_was x depth (suc i) a m d g) h

      own0 : owned S i ≡ true
      own0 = shows.0

      abbrev G : Logging x M body less inside (suc i) (λ a n c. below (suc i) a n c) (λ a n c. kids (suc i) a n c)
      G = chain_logs x M body less inside depth (suc i) shows.2 shows.1

      k2 : Used S i 2
      k2 = used_two S i own0 (list_buffers (code_of S i) is)

      k1 : Used S i 1
      k1 = used_one S i own0 (let b = list_buffers (code_of S i) is in omega arith)

      abbrev start : ℕ → ℕ
      start r = entry W x.body (place x i 3) (slot + r)

      abbrev size : ℕ → ℕ
      size r = entry W x.body (place x i 5) (slot + r)

      by : Leaves (stretches (λ a m d. below (suc i) a m d) start size n c) c3
      by = (tested x M (Used S) below kids W i slot G.good G.roomy G.cuts G.logs (list_view_width (code_of S i) is) k1 k2 n c h).left

      after : Counts c3 × ((j : ℕ) → j < suc i → rows c3 j ≡ rows c j)
      after =
          let l = stretches_each (suc i) G.good (λ a n c. below (suc i) a n c) (λ a n c. kids (suc i) a n c) G.cuts start size n c f by.ok in
          rw by.left at (each_counters (suc i) G.good (λ a n c. below (suc i) a n c) (λ a n c. kids (suc i) a n c) G.cuts start size n 0 c _ f l)

      module _ (hold : parts_hold S end x.parts ≡ true) where
        room1 : rows end i * W ≤ size_of S x.parts i 1
        room1 =
            let v : needed_by (code_of S i) (rows end i) (bytes end i) 1 ≤ size_of S x.parts i 1 = used_holds S end x.parts hold i 1 k1 in
            rw (needed_starts (code_of S i) (rows end i) (bytes end i) is) at v

        room2 : rows end i * W ≤ size_of S x.parts i 2
        room2 =
            let v : needed_by (code_of S i) (rows end i) (bytes end i) 2 ≤ size_of S x.parts i 2 = used_holds S end x.parts hold i 2 k2 in
            rw (needed_sizes (code_of S i) (rows end i) (bytes end i) is) at v

        -- no counter stood still
        pub rows_end : rows end i ≡ rows c i + n
        unfolding grown
        rows_end =
            let e = rows_added c3 after.0.long i small n in
            let o = after.1 i (omega arith) in
            let w : rows end i * 1 ≤ rows end i * W = mul-le-mul_left (rows end i) (list_width_some (code_of S i) is) in
            let r = room1 in
            let g = in_room_lem x M body less inside i 1 k1 in
            omega arith

        pub view_write : Al (batch_list_view x below W i slot n c).log (copy_list_view x kids W i slot n c).log
        view_write =
            list_write x M (Used S) below kids W i slot G.good G.roomy G.cuts G.logs (list_view_width (code_of S i) is) k1 k2 n c f body h
            (G.logs.less i n c3 (omega arith) (G.holds end hold)) (rw (← rows_end) room1) (rw (← rows_end) room2)

  -- ---- the node

  module _ (i : ℕ) (small : i < 32) (is : is_list_view (code_of S i) ≡ true) (slot n : ℕ) (c d : List ℕ) (f : Counts c) (l : Leaves (batch_slots x below i slot n c) d) (hold : parts_hold S d x.parts ≡ true) where
    few : code_of S i < 21
    few = let h = leb-true (code_of S i) 18 (and_right (leb 17 (code_of S i)) _ is) in omega arith

    abbrev m : Out
    m = copy_mask x i slot n c

    abbrev c2 : List ℕ
    c2 = m.counters

    abbrev o : Out
    o = batch_list_view x below (bytes_of S i) i slot n c2

    abbrev p : Out
    p = copy_list_view x (copy_walk x (suc depth)) (bytes_of S i) i slot n c2

    slots_are : batch_slots x below i slot n c ≡ next m (λ e. next (batch_data x below (code_of S i) i slot n e) (λ e2. done (add_rows i n e2)))
    unfolding batch_slots
    slots_are = rw (lt-ltb (code_of S i) 21 few)

    copies_are : copy_slots x (copy_walk x (suc depth)) i slot n c ≡ next m (λ e. next (copy_data x (copy_walk x (suc depth)) (code_of S i) i slot n e) (λ e2. done (add_rows i n e2)))
    unfolding copy_slots
    copies_are = rw (lt-ltb (code_of S i) 21 few)

    data_is_list : batch_data x below (code_of S i) i slot n c2 ≡ o
    unfolding batch_data
    data_is_list = rw is

    l0 : Leaves (next m (λ e. next (batch_data x below (code_of S i) i slot n e) (λ e2. done (add_rows i n e2)))) d
    l0 = rw slots_are at l

    lm : Leaves m c2
    lm = next_start_lem m _ l0

    fits : mask_fits x i slot n ≡ true
    fits = mask_was x i slot n c lm.ok

    f2 : Counts c2
    f2 = mask_counters x i small true slot n c c2 f lm

    l1 : Leaves (next o (λ e2. done (add_rows i n e2))) d
    l1 = rw data_is_list at (next_rest m (λ e. next (batch_data x below (code_of S i) i slot n e) (λ e2. done (add_rows i n e2))) l0)

    lo : Leaves o o.counters
    lo = next_start_lem o (λ e2. done (add_rows i n e2)) l1

    end_is : add_rows i n o.counters ≡ d
    unfolding done
    end_is = (next_rest o (λ e2. done (add_rows i n e2)) l1).left

    hold2 : parts_hold S (add_rows i n o.counters) x.parts ≡ true
    hold2 = rw end_is hold

    lp : Leaves (copy_data x (copy_walk x (suc depth)) (code_of S i) i slot n c2) o.counters
    lp =
        let q = data_same x depth i slot n c2 f2 (rw data_is_list lo.ok) in
        record { ok = q.ok; left = q.left ∙ ap (λ y. y.counters) data_is_list }

    rows_two : rows c2 i ≡ rows c i
    rows_two = ap (λ y. rows y i) (sym lm.left ∙ (mask_goes x i slot n c f fits).left) ∙ rows_of_nulls c i (mask_zeros x i slot n) i

    mask_self : Al m.log m.log
    mask_self =
        rw (mask_log x i slot n c fits)
        (alike_refl S x.parts M (Used S) (lays (keeps x i) (mask i (rows c i) (bits_of x i slot n)))
        (lays_inside S x.parts M (Used S) (keeps x i) (mask i (rows c i) (bits_of x i slot n))
        (λ t.
        let u = used_bits S i (own0 i small is slot n c2 f2 lo.ok) t few in
        let b = bits_held S (add_rows i n o.counters) x.parts hold2 i u in
        let e = rows_end i small is slot n c2 f2 lo.ok hold2 in
        let g = rows_two in
        let k = bits_long x i slot n fits in
        (u, omega arith, bits_below x i slot n))))

    pub slots_write : Al (batch_slots x below i slot n c).log (copy_slots x (copy_walk x (suc depth)) i slot n c).log
    unfolding done
    slots_write =
        rw (slots_are, copies_are, next_log (λ e. next (batch_data x below (code_of S i) i slot n e) (λ e2. done (add_rows i n e2))) lm, next_log (λ e. next (copy_data x (copy_walk x (suc depth)) (code_of S i) i slot n e) (λ e2. done (add_rows i n e2))) lm)
        (alike_append S x.parts M (Used S) mask_self
        (rw (data_is_list, next_log (λ e2. done (add_rows i n e2)) lo, next_log (λ e2. done (add_rows i n e2)) lp, list_data x (copy_walk x (suc depth)) i slot n c2 is, append-nil o.log, append-nil p.log)
        (view_write i small is slot n c2 f2 lo.ok hold2)))
