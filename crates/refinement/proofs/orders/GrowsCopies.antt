-- A copy only adds. Assumes nothing.
use mathlib.Core.Path.{◌≡◌, refl, sym, ◌∙◌}
use mathlib.Core.Bool.{Bool, true, false, cond}
use mathlib.Core.List.{List, [], ◌∷◌, ◌++◌}
use Prim.Native.Nat.{ℕ, zero, suc, ◌+◌, ◌*◌, ◌-◌, ◌≤◌, ◌<◌, min}
use native.Mathlib.Nat.{add-zero, mul_comm, suc-mul, one-mul, le_trans, le_of_eq}
use native.Mathlib.Omega.{arith}
use lib.ListN.{length, take, drop, replicate, length-take, length-append, length-replicate}
use lib.Dec.{ltb, eqb}
use borrow.Author.Tests.{ltb-true, eqb-true, eqb-false}
use Rattle.number.specs.Number.{number, encode, entry}
use Rattle.number.proofs.Laws.{length_encode}
use Rattle.bits.specs.Bits.{bits_at, bits}
use Rattle.schema.specs.formats.Code.{is_fixed, is_string, is_view, is_list_view, is_list, is_union, width_of}
use Rattle.utils.specs.Pieces.{pieces}
use Rattle.utils.specs.Offsets.{largest, moved, moved_offsets}
use Rattle.utils.specs.Extension.{over_at, extended}
use Rattle.utils.specs.declared.Extended.{Extended}
use Rattle.utils.specs.declared.Extended.TheVariants.{Fits, Over, Falls}
use Rattle.utils.proofs.Pieces.{length_numbers}
use Rattle.utils.specs.primitive.Primitive.{rebased}
use Rattle.utils.specs.byte_view.View.{reviewed_one, reviewed}
use Rattle.std.specs.Prelude.{Option, Some, None}
use Rattle.run_ends.specs.declared.RunRange.{RunRange}
use Rattle.run_ends.proofs.Laws.{length_clipped}
use Rattle.walk.specs.State.{Join, code_of, dictionary_of, end_of, keeps_of, base_of, bytes_of, rows, bytes, gap, place, far, add_rows, set_bytes, end_gap}
use Rattle.walk.specs.Log.{put, Out, fail, done, wrote, next}
use Rattle.refinement.proofs.walk_is_model.Counters.{bytes_set}
use Rattle.walk.specs.Leaves.{copy_bits, copy_mask, copy_numbers, copy_keys, copy_views, put_string, put_extended, copy_string}
use Rattle.walk.specs.Copy.{Walk, is_width, masked, list_view_row, copy_list_view, put_stretch, copy_list, copy_sparse, id_at, dense_to, dense_row, copy_dense, put_runs, runs_at, copy_runs, copy_data, copy_slots, copy_node, copy_walk, each_field}
use Rattle.refinement.specs.log_in_room.Reach.{Child, Closed}
use Rattle.refinement.proofs.log_in_room.Found.{between_wide, and_first, child_first, child_later, child_with_lem}
use Rattle.plan.specs.parts.Parts.{needed_by}
use Rattle.refinement.proofs.orders.Buffers.{needed_fixed, needed_offsets, needed_chars, needed_views, needed_starts, needed_sizes, needed_ends}
use Rattle.refinement.proofs.orders.Grows.{Fine, AllBehind, Behind, Adds, due, longer_same, behind_wide, longer_bytes, fine_bytes, behind_rows, behind_all, behind_offsets, behind_bits, adds_done, adds_nulls, adds_gap, adds_done_two, adds_fail, adds_never, next_never, adds_wrote, adds_cond, adds_need, adds_found, adds_next, adds_each, adds_whole, adds_close, adds_close_two}
use Rattle.walk.proofs.Names.{put_list, copy_fields}
use Rattle.walk.proofs.Offsets.{string_is, list_is}

-- ---- lengths

pub taken : (n : ℕ) (l : List ℕ) → length (take n l) ≤ n
taken n l = let e = length-take n l in omega arith

taken_bits : (p n : ℕ) (s : List ℕ) → length (bits_at p n s) ≤ n
unfolding bits_at
taken_bits p n s = taken n (drop p (bits s))

ones : (n : ℕ) → length (replicate {A = ℕ} n 1) ≤ n
ones n = le_of_eq (length-replicate n 1)

view_bytes_lem : (s : List ℕ) (base : ℕ) → length (reviewed_one s base) ≤ 16
unfolding reviewed_one
view_bytes_lem s base = go (ltb 12 (number 4 s)) _
  where
    go : (t : Bool) (v : ℕ) → length (cond t (take 8 s ++ encode 4 v ++ take 4 (drop 12 s)) (take 16 s)) ≤ 16
    go true v =
        let a = length-append (take 8 s ++ encode 4 v) (take 4 (drop 12 s)) in
        let b = length-append (take 8 s) (encode 4 v) in
        omega (arith, length_encode 4 v, taken 8 s, taken 4 (drop 12 s))
    go false v = taken 16 s

few_pieces : (w : ℕ) (f : ℕ → List ℕ) → ((k : ℕ) → length (f k) ≤ w) → (n : ℕ) → length (pieces f n) ≤ n * w
unfolding pieces
few_pieces w f h zero = omega arith
few_pieces w f h (suc n) =
    let a = length-append (pieces f n) (f n) in
    let b = few_pieces w f h n in
    let c = h n in
    let d = suc-mul n w in
    omega arith

view_all : (s : List ℕ) (from base n : ℕ) → length (reviewed s from base n) ≤ n * 16
unfolding reviewed
view_all s from base n = few_pieces 16 _ (λ k. view_bytes_lem _ base) n

moved_all : (w : ℕ) (s : List ℕ) (from last n : ℕ) → length (moved_offsets w s from last n) ≡ w * n
unfolding moved_offsets
moved_all w s from last n = length_numbers w _ n

rebased_all : (w : ℕ) (s : List ℕ) (from base n : ℕ) → length (rebased w s from base n) ≡ w * n
unfolding rebased
rebased_all w s from base n = length_numbers w _ n

-- a string's bytes do not shrink
data Last (from : ℕ) : Extended → Type 0 where
  fits : (last first : ℕ) → from ≤ last → Last from (Fits last first)
  over : (row least : ℕ) → Last from (Over row least)
  falls : Last from Falls

last_after : (w : ℕ) (s : List ℕ) (from n last : ℕ) → Last last (extended w s from n last)
unfolding extended over_at
last_after w s from n last = go (ltb (entry w s from n) (entry w s from 0)) (ltb (largest w) last) (ltb (largest w) (moved w s from last n))
  where
    go : (a b c : Bool) → Last last (cond a Falls (cond b Falls (cond c (over_at w s from n last) (Fits (moved w s from last n) (entry w s from 0)))))
    go true b c = falls
    go false true c = falls
    go false false true = over _ _
    go false false false = let l : last ≤ moved w s from last n = omega arith in fits (moved w s from last n) (entry w s from 0) l

module _ (x : Join) (In At : ℕ → Type 0) (closed : Closed x.plan In At) (run_ends_lem : (i : ℕ) → In i → code_of x.plan i ≡ 23 → is_fixed (code_of x.plan (suc i)) ≡ true) (late : Bool) where
  abbrev S : List ℕ
  S = x.plan

  -- ---- a node without children

  module _ (i n : ℕ) (small : i < 32) where
    adds_copy_mask : (slot : ℕ) (c : List ℕ) → (code_of S i ≡ 0 → ⊥) → Adds S late i n c (copy_mask x i slot n c)
    unfolding copy_mask copy_bits
    adds_copy_mask slot c q =
        adds_cond S late i n c (eqb (keeps_of S i) 0) _ _ (λ e. adds_done S late i n c)
        (λ e. adds_cond S late i n c (eqb (place x i 0) 0) _ _ (λ f. adds_wrote S late i n _ c (behind_bits S late i n (replicate n 1) c (ones n) q))
        (λ f. adds_need S late i n _ 12 c _ (omega arith)
        (λ g. adds_next S late i n c _ _ (adds_wrote S late i n _ c (behind_bits S late i n (bits_at (8 * place x i 1 + slot) n x.body) c (taken_bits _ n x.body) q))
        (λ c2. adds_nulls S late i n i _ c2 small))))

    needs_all : (b w : ℕ) (bs c : List ℕ) → ((k m : ℕ) → needed_by (code_of S i) k m b ≡ k * w) → length bs ≤ n * w → Adds S late i n c (wrote (put i b (rows c i * w) bs) c)
    needs_all b w bs c h l = adds_wrote S late i n (put i b (rows c i * w) bs) c (behind_all S late i n b w bs c h l)

    adds_numbers : (slot : ℕ) (c : List ℕ) → is_fixed (code_of S i) ≡ true → Adds S late i n c (copy_numbers x i (bytes_of S i) slot n c)
    unfolding copy_numbers
    adds_numbers slot c h =
        adds_need S late i n _ 12 c _ (omega arith)
        (λ e. needs_all 1 (bytes_of S i) (take (bytes_of S i * n) (drop (place x i 3 + bytes_of S i * slot) x.body)) c (λ k m. needed_fixed (code_of S i) k m h) (le_trans (taken (bytes_of S i * n) (drop (place x i 3 + bytes_of S i * slot) x.body)) (le_of_eq (mul_comm (bytes_of S i) n))))

    adds_keys : (slot : ℕ) (c : List ℕ) → is_fixed (code_of S i) ≡ true → Adds S late i n c (copy_keys x i (bytes_of S i) slot n c)
    unfolding copy_keys
    adds_keys slot c h =
        adds_need S late i n _ 12 c _ (omega arith)
        (λ e. needs_all 1 (bytes_of S i) (rebased (bytes_of S i) x.body (place x i 3 + bytes_of S i * slot) (base_of S x.source i) n) c (λ k m. needed_fixed (code_of S i) k m h) (le_of_eq (rebased_all (bytes_of S i) x.body (place x i 3 + bytes_of S i * slot) (base_of S x.source i) n ∙ mul_comm (bytes_of S i) n)))

    adds_views : (slot : ℕ) (c : List ℕ) → is_view (code_of S i) ≡ true → Adds S late i n c (copy_views x i slot n c)
    unfolding copy_views
    adds_views slot c h =
        adds_need S late i n _ 12 c _ (omega arith)
        (λ e. needs_all 1 16 (reviewed x.body (place x i 3 + 16 * slot) (base_of S x.source i) n) c (λ k m. needed_views (code_of S i) k m h) (view_all x.body (place x i 3 + 16 * slot) (base_of S x.source i) n))

    adds_extended : (from : ℕ) (e : Extended) (c : List ℕ) → is_string (code_of S i) ≡ true → Last (bytes c i) e → Adds S late i n c (put_extended x i (bytes_of S i) from n e c)
    unfolding put_string next wrote done AllBehind
    adds_extended from _ c h (fits last first l) =
        adds_need S late i n _ 12 c _ (omega arith)
        (λ e. record {
          added = λ f z.
              let longer = longer_bytes S late i last c small f h l in
              let b = bytes_set c f.long i small last in
              let t = taken (last - bytes c i) (drop (place x i 5 + first) x.body) in
              let u = needed_chars (code_of S i) (rows c i) (bytes c i) h in
              let v = needed_chars (code_of S i) (rows (set_bytes i last c) i + due i n i) (bytes (set_bytes i last c) i) h in
              record {
                fine = fine_bytes S late i last c small f;
                longer = longer;
                behind = (behind_wide S late i n c c c (set_bytes i last c) (longer_same S late c) longer (put i 1 (suc (rows c i) * bytes_of S i) (moved_offsets (bytes_of S i) x.body from (bytes c i) n)) (behind_offsets S late i n (bytes_of S i) (moved_offsets (bytes_of S i) x.body from (bytes c i) n) c (λ k m. needed_offsets (code_of S i) k m h) (moved_all (bytes_of S i) x.body from (bytes c i) n)), ((λ v. omega arith, λ one y. omega arith), tt));
              };
        })
    adds_extended from _ c h (over row least) = adds_fail S late i n 6 c (omega arith)
    adds_extended from _ c h falls = adds_fail S late i n 12 c (omega arith)

    adds_string : (slot : ℕ) (c : List ℕ) → is_string (code_of S i) ≡ true → Adds S late i n c (copy_string x i (bytes_of S i) slot n c)
    adds_string slot c h =
        rw (string_is x i (bytes_of S i) slot n c)
        (adds_cond S late i n c (eqb n 0) _ _ (λ e. adds_done S late i n c)
        (λ e. adds_need S late i n _ 12 c _ (omega arith)
        (λ f. adds_extended (place x i 3 + bytes_of S i * slot) _ c h (last_after (bytes_of S i) x.body (place x i 3 + bytes_of S i * slot) n (bytes c i)))))

  -- ---- a node with children: `walk` is the walk of the nodes below it

  module _ (walk : Walk) (below : (k a n : ℕ) (c : List ℕ) → In k → Adds S late k 0 c (walk k a n c)) (i n : ℕ) (small : i < 32) (here : In i) where
    kid : (k a m : ℕ) (c : List ℕ) → In k → Adds S late i n c (walk k a m c)
    kid k a m c h = adds_whole S late i n k c (walk k a m c) (below k a m c h)

    adds_list_view : (slot : ℕ) (c : List ℕ) → is_list_view (code_of S i) ≡ true → Adds S late i n c (copy_list_view x walk (bytes_of S i) i slot n c)
    unfolding copy_list_view list_view_row
    adds_list_view slot c h =
        adds_need S late i n _ 12 c _ (omega arith)
        (λ e. adds_need S late i n _ 12 c _ (omega arith)
        (λ f. adds_each S late i n _ n
        (λ r c1 l. adds_need S late i n _ 6 c1 _ (omega arith)
        (λ g. adds_next S late i n c1 _ _ (adds_wrote S late i n _ c1 (behind_rows S late i n 1 (bytes_of S i) r 1 _ (encode (bytes_of S i) _) c1 (λ k m. needed_starts (code_of S i) k m h) refl (one_entry _) (omega arith)))
        (λ c2. adds_next S late i n c2 _ _ (adds_wrote S late i n _ c2 (behind_rows S late i n 2 (bytes_of S i) r 1 _ (encode (bytes_of S i) _) c2 (λ k m. needed_sizes (code_of S i) k m h) refl (one_entry _) (omega arith)))
        (λ c3. kid (suc i) _ _ c3 (closed.item i here (between_wide 17 18 17 20 (code_of S i) (omega arith) (omega arith) h))))))
        n 0 c (omega arith)))
      where
        one_entry : (v : ℕ) → length (encode (bytes_of S i) v) ≤ 1 * bytes_of S i
        one_entry v = let l = length_encode (bytes_of S i) v in let m = one-mul (bytes_of S i) in omega arith

    adds_put_list : (from : ℕ) (e : Extended) (c : List ℕ) → is_list (code_of S i) ≡ true → Adds S late i n c (put_list x walk (bytes_of S i) i from n e c)
    unfolding put_stretch
    adds_put_list from (Fits last first) c h =
        adds_next S late i n c _ _
        (adds_wrote S late i n _ c (behind_offsets S late i n (bytes_of S i) (moved_offsets (bytes_of S i) x.body from (rows c (suc i)) n) c (λ k m. needed_ends (code_of S i) k m h) (moved_all (bytes_of S i) x.body from (rows c (suc i)) n)))
        (λ c2. kid (suc i) first _ c2 (closed.item i here (between_wide 19 20 17 20 (code_of S i) (omega arith) (omega arith) h)))
    adds_put_list from (Over row least) c h = adds_fail S late i n 6 c (omega arith)
    adds_put_list from Falls c h = adds_fail S late i n 12 c (omega arith)

    adds_list : (slot : ℕ) (c : List ℕ) → is_list (code_of S i) ≡ true → Adds S late i n c (copy_list x walk (bytes_of S i) i slot n c)
    adds_list slot c h =
        rw (list_is x walk (bytes_of S i) i slot n c)
        (adds_cond S late i n c (eqb n 0) _ _ (λ e. adds_done S late i n c)
        (λ e. adds_need S late i n _ 12 c _ (omega arith)
        (λ f. adds_need S late i n _ 12 c _ (omega arith)
        (λ g. adds_put_list _ (extended (bytes_of S i) x.body (place x i 3 + bytes_of S i * slot) n (rows c (suc i))) c h))))

    adds_fields : (slot m fuel k : ℕ) (c : List ℕ) → is_union (code_of S i) ≡ true → (k < end_of S i → Child S i k) → Adds S late i n c (copy_fields x walk slot m (end_of S i) fuel k c)
    unfolding each_field
    adds_fields slot m zero k c h d = adds_done S late i n c
    adds_fields slot m (suc fuel) k c h d =
        adds_cond S late i n c (ltb k (end_of S i)) _ _
        (λ e. let f = d (ltb-true k (end_of S i) e) in
        adds_next S late i n c _ _ (kid k slot m c (closed.child i k here h f)) (λ c2. adds_fields slot m fuel (end_of S k) c2 h (child_later S i k f)))
        (λ e. adds_done S late i n c)

    adds_sparse : (slot : ℕ) (c : List ℕ) → code_of S i ≡ 21 → is_union (code_of S i) ≡ true → Adds S late i n c (copy_sparse x walk i slot n c)
    unfolding copy_sparse
    adds_sparse slot c q u =
        adds_need S late i n _ 12 c _ (omega arith)
        (λ e. adds_next S late i n c _ _ (adds_wrote S late i n _ c (behind_rows S late i n 1 1 0 n (rows c i) (take n (drop (place x i 3 + slot) x.body)) c (λ k m. rw q refl) (omega arith) (let l = taken n (drop (place x i 3 + slot) x.body) in omega arith) (omega arith)))
        (λ c2. adds_fields slot n 32 (suc i) c2 u (child_first S i)))

    four : (v : ℕ) → length (encode 4 v) ≤ 1 * 4
    four v = let l = length_encode 4 v in omega arith

    adds_dense : (slot : ℕ) (c : List ℕ) → code_of S i ≡ 22 → is_union (code_of S i) ≡ true → Adds S late i n c (copy_dense x walk i slot n c)
    unfolding copy_dense dense_row dense_to
    adds_dense slot c q u =
        adds_need S late i n _ 12 c _ (omega arith)
        (λ e. adds_each S late i n _ n
        (λ r c1 s. adds_found S late i n 32 _ 12 c1 _ (omega arith)
        (λ l. adds_need S late i n _ 6 c1 _ (omega arith)
        (λ g. adds_next S late i n c1 _ _ (adds_wrote S late i n _ c1 (behind_rows S late i n 1 1 r 1 (rows c1 i + r) (id_at x walk i (slot + r) ∷ []) c1 (λ k m. rw q refl) (omega arith) (omega arith) (omega arith)))
        (λ c2. adds_next S late i n c2 _ _ (adds_wrote S late i n _ c2 (behind_rows S late i n 2 4 r 1 _ (encode 4 _) c2 (λ k m. rw q refl) refl (four _) (omega arith)))
        (λ c3. kid _ _ 1 c3 (closed.child i _ here u (child_with_lem S i (id_at x walk i (slot + r)) 32 (suc i) (child_first S i) l)))))))
        n 0 c (omega arith))

    adds_put_runs : (slot : ℕ) (r : Option RunRange) (c : List ℕ) → code_of S i ≡ 23 → suc (suc i) < 32 → Adds S late i n c (put_runs x walk (bytes_of S (suc i)) i slot n r c)
    adds_put_runs slot None c q s = adds_fail S late i n 12 c (omega arith)
    adds_put_runs slot (Some r) c q s =
        adds_next S late i n c _ _ (kid (suc (suc i)) r.first.0 r.count c (closed.values i here q))
        (λ c2. adds_done_two S late i n c2 _ (λ d. add_rows (suc i) r.count d) (λ d. end_gap i d)
        (adds_whole S late i n (suc i) c2 _
        (adds_close S late (suc i) r.count c2 _ (omega arith)
        (needs_all (suc i) r.count (omega arith) 1 (bytes_of S (suc i)) _ c2 (λ k m. needed_fixed (code_of S (suc i)) k m (run_ends_lem i here q))
        (le_of_eq (length_clipped (bytes_of S (suc i)) x.body _ slot (slot + n) (rows c i) r.count ∙ mul_comm (bytes_of S (suc i)) r.count)))))
        (λ d. adds_gap S late i n i (min (gap d i) 1) d small q (λ l z. let y : gap d i ≡ 0 = z in omega arith)))

    adds_runs : (slot : ℕ) (c : List ℕ) → code_of S i ≡ 23 → Adds S late i n c (copy_runs x walk i slot n c)
    unfolding copy_runs
    adds_runs slot c q =
        adds_cond S late i n c (eqb n 0) _ _ (λ e. adds_done S late i n c)
        (λ e. adds_need S late i n _ 12 c _ (omega arith)
        (λ f. adds_need S late i n _ 7 c _ (omega arith)
        (λ g. adds_need S late i n _ 12 c _ (omega arith)
        (λ h. adds_put_runs slot (runs_at x walk (bytes_of S (suc i)) i slot n) c q (ltb-true (suc (suc i)) 32 (and_first _ (is_width (bytes_of S (suc i))) f))))))

    union : (v : ℕ) → eqb (code_of S i) v ≡ true → is_union v ≡ true → is_union (code_of S i) ≡ true
    union v e h = rw (eqb-true (code_of S i) v e) h

    adds_data : (slot : ℕ) (c : List ℕ) → Adds S late i n c (copy_data x walk (code_of S i) i slot n c)
    unfolding copy_data
    adds_data slot c =
        adds_cond S late i n c (is_fixed (code_of S i)) _ _
        (λ e. adds_cond S late i n c (eqb (dictionary_of S i) 0) _ _ (λ f. adds_numbers i n small slot c e) (λ f. adds_keys i n small slot c e))
        (λ e1. adds_cond S late i n c (is_string (code_of S i)) _ _ (λ e. adds_string i n small slot c e)
        (λ e2. adds_cond S late i n c (is_view (code_of S i)) _ _ (λ e. adds_views i n small slot c e)
        (λ e3. adds_cond S late i n c (is_list_view (code_of S i)) _ _ (λ e. adds_list_view slot c e)
        (λ e4. adds_cond S late i n c (is_list (code_of S i)) _ _ (λ e. adds_list slot c e)
        (λ e5. adds_cond S late i n c (eqb (code_of S i) 21) _ _ (λ e. adds_sparse slot c (eqb-true (code_of S i) 21 e) (union 21 e refl))
        (λ e6. adds_cond S late i n c (eqb (code_of S i) 22) _ _ (λ e. adds_dense slot c (eqb-true (code_of S i) 22 e) (union 22 e refl))
        (λ e7. adds_cond S late i n c (eqb (code_of S i) 23) _ _ (λ e. adds_runs slot c (eqb-true (code_of S i) 23 e))
        (λ e8. adds_fail S late i n 12 c (omega arith)))))))))

  -- a node of no code is refused
  no_code : (walk : Walk) (i slot n : ℕ) (c : List ℕ) (k : List ℕ → Out) → code_of S i ≡ 0 → (next (copy_data x walk (code_of S i) i slot n c) k).ans ≡ 12
  unfolding copy_data next fail
  no_code walk i slot n c k e = rw e

  adds_slots : (walk : Walk) (below : (k a n : ℕ) (c : List ℕ) → In k → Adds S late k 0 c (walk k a n c)) (i slot n : ℕ) (c : List ℕ) → i < 32 → In i → Adds S late i 0 c (copy_slots x walk i slot n c)
  unfolding copy_slots
  adds_slots walk below i slot n c small here = go (eqb (code_of S i) 0) refl
    where
      go : (b : Bool) → eqb (code_of S i) 0 ≡ b → Adds S late i 0 c (copy_slots x walk i slot n c)
      go true e = adds_never S late i 0 c _ (next_never _ _ (λ c2 h. let z = no_code walk i slot n c2 (λ c3. done (add_rows i n c3)) (eqb-true (code_of S i) 0 e) in omega arith))
      go false e =
          adds_close_two S late i n c _ _ small
          (adds_cond S late i n c (masked (code_of S i)) _ _ (λ g. adds_copy_mask i n small slot c (eqb-false (code_of S i) 0 e)) (λ g. adds_done S late i n c))
          (λ c2. adds_data walk below i n small here slot c2)

  adds_node : (walk : Walk) (below : (k a n : ℕ) (c : List ℕ) → In k → Adds S late k 0 c (walk k a n c)) (i a n : ℕ) (c : List ℕ) → In i → Adds S late i 0 c (copy_node x walk i a n c)
  unfolding copy_node
  adds_node walk below i a n c here =
      adds_need S late i 0 (ltb i 32) 12 c _ (omega arith)
      (λ e. adds_found S late i 0 far _ 12 c _ (omega arith) (λ f. adds_slots walk below i _ n c (ltb-true i 32 e) here))

  -- A COPY ONLY ADDS
  pub adds_copies : (depth i a n : ℕ) (c : List ℕ) → In i → Adds S late i 0 c (copy_walk x depth i a n c)
  unfolding copy_walk
  adds_copies zero i a n c here = adds_fail S late i 0 12 c (omega arith)
  adds_copies (suc depth) i a n c here = adds_node (copy_walk x depth) (λ k b m d h. adds_copies depth k b m d h) i a n c here
