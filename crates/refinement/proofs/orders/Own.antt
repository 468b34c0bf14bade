-- A node's own parts: they hold what the counters need and the memory has exactly where they hold the model's buffers. Assumes nothing.
use mathlib.Core.Path.{◌≡◌, refl, sym, ap, subst, ◌∙◌}
use mathlib.Core.Bool.{Bool, true, false}
use mathlib.Core.Option.{Option, none, some}
use mathlib.Core.List.{List, [], ◌∷◌, map}
use Prim.Native.Nat.{ℕ, zero, suc, ◌+◌, ◌*◌, ◌/◌, ◌≤◌, ◌<◌}
use native.Mathlib.Nat.{add-zero, zero-add, mul-one}
use native.Mathlib.Numerals.{add-one}
use native.Mathlib.Omega.{arith}
use lib.ListN.{length, get_or}
use lib.Dec.{leb, ltb}
use borrow.Author.Tests.{leb-true, le-leb, ltb-true, ltb-false}
use Rattle.array_data.proofs.lent_tables.Laws.{and_left, and_right}
use Rattle.columnar.specs.Types.{fixed, string, Ty, t_plain, t_view, t_list_view, t_list, t_sparse, t_dense, t_run_end, t_dictionary}
use Rattle.columnar.specs.Reading.{Body}
use Rattle.walk.specs.State.{code_of, keeps_of, rows, bytes}
use Rattle.model.specs.Transform.{Grown}
use Rattle.model.proofs.Law.{BitsFor}
use Rattle.model.proofs.Nodes.{FineOf}
use Rattle.refinement.specs.walk_is_model.Memory.{Memory}
use Rattle.refinement.specs.walk_is_model.Holds.{Worded, flag, HoldsBits, HoldsData}
use Rattle.refinement.specs.log_in_room.Reach.{Free}
use Rattle.plan.specs.parts.Parts.{buffer_count, copied, has_part, needed, needed_by, size_of}
use Rattle.refinement.specs.orders.Fits.{buffers_of, fits_bits, fits_all}
use Rattle.refinement.proofs.orders.Buffers.{fixed_one, string_two, view_one, list_two, lists_one, needed_fixed, needed_offsets, needed_chars, needed_views, needed_starts, needed_ends, needed_sizes, copied_free, copied_buffer, buffer_copied, copied_bits, bits_copied}

length_map : (l : List Bool) → length (map flag l) ≡ length l
length_map [] = refl
length_map (b ∷ l) = ap suc (length_map l)

module _ (plan parts : List ℕ) where
  all_in : (i b : ℕ) (bs : List (List ℕ)) → fits_all plan parts i b bs ≡ true → (k : ℕ) → k < length bs → length (get_or bs k []) ≤ size_of plan parts i (suc (b + k))
  all_in i b [] h k l = absurd (omega arith)
  all_in i b (s ∷ ss) h zero l =
      subst (λ z. length s ≤ size_of plan parts i (suc z)) (sym (add-zero b)) (leb-true _ _ (and_left (leb (length s) (size_of plan parts i (suc b))) (fits_all plan parts i (suc b) ss) h))
  all_in i b (s ∷ ss) h (suc k) l =
      let e : suc b + k ≡ b + suc k = omega arith in
      subst (λ z. length (get_or ss k []) ≤ size_of plan parts i (suc z)) e
      (all_in i (suc b) ss (and_right (leb (length s) (size_of plan parts i (suc b))) (fits_all plan parts i (suc b) ss) h) k (omega arith))

  in_all : (i b : ℕ) (bs : List (List ℕ)) → ((k : ℕ) → k < length bs → length (get_or bs k []) ≤ size_of plan parts i (suc (b + k))) → fits_all plan parts i b bs ≡ true
  in_all i b [] h = refl
  in_all i b (s ∷ ss) h =
      let f : length s ≤ size_of plan parts i (suc b) = subst (λ z. length s ≤ size_of plan parts i (suc z)) (add-zero b) (h 0 (omega arith)) in
      let g = in_all i (suc b) ss (λ k l. let e : b + suc k ≡ suc b + k = omega arith in subst (λ z. length (get_or ss k []) ≤ size_of plan parts i (suc z)) e (h (suc k) (omega arith))) in
      rw (le-leb _ _ f) g

  module _ (c : List ℕ) (μ : Memory) where
    -- the part of buffer b of node j holds what the counters say and what the memory has
    pub record Bounded (j b : ℕ) : Type 0 where
      pub needs : needed plan c j b ≤ size_of plan parts j b
      pub bytes_in_lem : 1 ≤ b → length (μ.at j b) ≤ size_of plan parts j b
      pub bits_in_lem : b ≡ 0 → length (μ.bits j) ≤ 8 * size_of plan parts j 0

    -- the memory has the node's buffers, and the counters say their lengths
    pub record Own (i : ℕ) (bs : List (List ℕ)) : Type 0 where
      pub count_is : buffer_count (code_of plan i) ≡ length bs
      pub needs_are : (k : ℕ) → k < length bs → needed plan c i (suc k) ≡ length (get_or bs k [])
      pub lie : (k : ℕ) → k < length bs → μ.at i (suc k) ≡ get_or bs k []

    module _ (i : ℕ) (bs : List (List ℕ)) (own : Own i bs) (whole : copied plan i ≡ true) (valid : Bool) (code : valid ≡ ltb (code_of plan i) 21)
        (bits : Option (List Bool)) (n : ℕ) (rows_are : rows c i ≡ n) (held : HoldsBits plan i valid bits μ) where
      bits_cover : (v : Bool) → v ≡ ltb (code_of plan i) 21 → (o : Option (List Bool)) → BitsFor v o n → HoldsBits plan i v o μ → fits_bits plan parts i v o n ≡ true
          → (keeps_of plan i ≡ 0 → ⊥) → code_of plan i < 21 → Bounded i 0
      bits_cover v e none b h f k l = absurd (k h)
      bits_cover true e (some x) b h f k l =
          let g : (n + 7) / 8 ≤ size_of plan parts i 0 = leb-true _ _ f in
          let s : length (μ.bits i) ≡ n = ap length h.1 ∙ length_map x ∙ b in
          record { needs = rw rows_are g; bytes_in_lem = λ z. absurd (omega arith); bits_in_lem = λ z. omega arith }
      bits_cover false e (some x) b h f k l = absurd (let z : code_of plan i < 21 → ⊥ = λ q. omega (arith, ltb-false (code_of plan i) 21 (sym e)) in z l)

      -- where the parts hold the model's buffers ..
      pub whole_covers : BitsFor valid bits n → fits_bits plan parts i valid bits n ≡ true → fits_all plan parts i 0 bs ≡ true → (b : ℕ) → has_part plan i b ≡ true → Bounded i b
      whole_covers g f a zero h = let p = copied_bits plan i whole h in bits_cover valid code bits g held f p.0 p.1
      whole_covers g f a (suc k) h =
          let l : k < length bs = omega (arith, copied_buffer plan i k whole h, own.count_is) in
          let s : length (get_or bs k []) ≤ size_of plan parts i (suc k) = subst (λ z. length (get_or bs k []) ≤ size_of plan parts i (suc z)) (zero-add k) (all_in i 0 bs a k l) in
          record {
            needs = rw (own.needs_are k l) s;
            bytes_in_lem = λ z. rw (own.lie k l) s;
            bits_in_lem = λ z. absurd (omega arith);
          }

      bits_enough : (v : Bool) → v ≡ ltb (code_of plan i) 21 → (o : Option (List Bool)) → HoldsBits plan i v o μ → ((b : ℕ) → has_part plan i b ≡ true → needed plan c i b ≤ size_of plan parts i b)
          → fits_bits plan parts i v o n ≡ true
      bits_enough v e none h f = refl
      bits_enough true e (some x) h f =
          let g : (rows c i + 7) / 8 ≤ size_of plan parts i 0 = f 0 (bits_copied plan i whole h.0 (ltb-true _ _ (sym e))) in
          le-leb _ _ (rw rows_are at g)
      bits_enough false e (some x) h f = refl

      -- .. and the other way round
      pub whole_enough : ((b : ℕ) → has_part plan i b ≡ true → needed plan c i b ≤ size_of plan parts i b) → (fits_bits plan parts i valid bits n ≡ true) × (fits_all plan parts i 0 bs ≡ true)
      whole_enough f = (
        bits_enough valid code bits held f,
        in_all i 0 bs
            (λ k l. let g = f (suc k) (buffer_copied plan i k whole (omega (arith, own.count_is))) in
            let h : length (get_or bs k []) ≤ size_of plan parts i (suc k) = rw (own.needs_are k l) at g in
            subst (λ z. length (get_or bs k []) ≤ size_of plan parts i (suc z)) (sym (zero-add k)) h),
      )

    -- the same at a node that is no dictionary's values
    module _ (i : ℕ) (bs : List (List ℕ)) (own : Own i bs) (free : Free plan i) (valid : Bool) (code : valid ≡ ltb (code_of plan i) 21)
        (bits : Option (List Bool)) (n : ℕ) (rows_are : rows c i ≡ n) (held : HoldsBits plan i valid bits μ) where
      pub own_covers : BitsFor valid bits n → fits_bits plan parts i valid bits n ≡ true → fits_all plan parts i 0 bs ≡ true → (b : ℕ) → has_part plan i b ≡ true → Bounded i b
      own_covers = whole_covers i bs own (copied_free plan i free) valid code bits n rows_are held

      pub own_enough : ((b : ℕ) → has_part plan i b ≡ true → needed plan c i b ≤ size_of plan parts i b) → (fits_bits plan parts i valid bits n ≡ true) × (fits_all plan parts i 0 bs ≡ true)
      own_enough = whole_enough i bs own (copied_free plan i free) valid code bits n rows_are held

    -- ---- every kind

    none_own : (i : ℕ) → buffer_count (code_of plan i) ≡ 0 → Own i []
    none_own i e = record { count_is = e; needs_are = λ k l. absurd (omega arith); lie = λ k l. absurd (omega arith) }

    pub one_own : (i : ℕ) (s : List ℕ) → buffer_count (code_of plan i) ≡ 1 → needed plan c i 1 ≡ length s → μ.at i 1 ≡ s → Own i (s ∷ [])
    one_own i s e n h = record { count_is = e; needs_are = needs; lie = lies }
      where
        needs : (k : ℕ) → k < length (s ∷ []) → needed plan c i (suc k) ≡ length (get_or (s ∷ []) k [])
        needs zero l = n
        needs (suc k) l = absurd (omega arith)

        lies : (k : ℕ) → k < length (s ∷ []) → μ.at i (suc k) ≡ get_or (s ∷ []) k []
        lies zero l = h
        lies (suc k) l = absurd (omega arith)

    two_own : (i : ℕ) (s r : List ℕ) → buffer_count (code_of plan i) ≡ 2 → needed plan c i 1 ≡ length s → needed plan c i 2 ≡ length r → μ.at i 1 ≡ s → μ.at i 2 ≡ r
        → Own i (s ∷ r ∷ [])
    two_own i s r e n o h g = record { count_is = e; needs_are = needs; lie = lies }
      where
        needs : (k : ℕ) → k < length (s ∷ r ∷ []) → needed plan c i (suc k) ≡ length (get_or (s ∷ r ∷ []) k [])
        needs zero l = n
        needs (suc zero) l = o
        needs (suc (suc k)) l = absurd (omega arith)

        lies : (k : ℕ) → k < length (s ∷ r ∷ []) → μ.at i (suc k) ≡ get_or (s ∷ r ∷ []) k []
        lies zero l = h
        lies (suc zero) l = g
        lies (suc (suc k)) l = absurd (omega arith)

    -- r rows of w bytes
    pub times : {a b w v : ℕ} → a ≡ b → w ≡ v → a * w ≡ b * v
    times e f = rw (e, f)

    pub own_of : (k : ℕ) (t : Ty) (i m : ℕ) (ss : ℕ → Body t) (b : ℕ → Bool) (d : Grown t) (l : ℕ) → Worded plan k t i → rows c i ≡ l → FineOf t m ss b d l → HoldsData plan t i d c μ
        → Own i (buffers_of t d)
    own_of (suc k) (t_plain (fixed n)) i m ss b d l w r f h =
        one_own i d (fixed_one (code_of plan i) w.3.0) (needed_fixed (code_of plan i) (rows c i) (bytes c i) w.3.0 ∙ times r w.3.1 ∙ sym f) h
    own_of (suc k) (t_plain (string v)) i m ss b d l w r f h =
        two_own i d.offsets d.chars (string_two (code_of plan i) w.3.0)
        (needed_offsets (code_of plan i) (rows c i) (bytes c i) w.3.0 ∙ times (add-one (rows c i) ∙ ap suc r) w.3.1 ∙ sym f.offsets_are) (needed_chars (code_of plan i) (rows c i) (bytes c i) w.3.0 ∙ h.2) h.0 h.1
    own_of (suc k) t_view i m ss b d l w r f h = one_own i d (view_one (code_of plan i) w.2) (needed_views (code_of plan i) (rows c i) (bytes c i) w.2 ∙ times r refl ∙ sym f.views_are) h
    own_of (suc k) (t_list_view v t) i m ss b d l w r f h =
        two_own i d.buffer1 d.buffer2 (list_two (code_of plan i) w.2) (needed_starts (code_of plan i) (rows c i) (bytes c i) w.2 ∙ times r w.3 ∙ sym f.offsets_are)
        (needed_sizes (code_of plan i) (rows c i) (bytes c i) w.2 ∙ times r w.3 ∙ sym f.sizes_are) h.0 h.1
    own_of (suc k) (t_list v t) i m ss b d l w r f h =
        one_own i d.buffer1 (lists_one (code_of plan i) w.2)
        (needed_ends (code_of plan i) (rows c i) (bytes c i) w.2 ∙ times (add-one (rows c i) ∙ ap suc r) w.3 ∙ sym f.offsets_fine.offsets_are) h.0
    own_of (suc k) (t_sparse ids nullable g) i m ss b d l w r f h =
        let e : code_of plan i ≡ 21 = w.1 in
        one_own i d.buffer1 (ap buffer_count e) (ap (λ z. needed_by z (rows c i) (bytes c i) 1) e ∙ mul-one (rows c i) ∙ r ∙ sym f.ids_are) h.0
    own_of (suc k) (t_dense ids nullable g) i m ss b d l w r f h =
        let e : code_of plan i ≡ 22 = w.1 in
        two_own i d.buffer1 d.buffer2 (ap buffer_count e) (ap (λ z. needed_by z (rows c i) (bytes c i) 1) e ∙ mul-one (rows c i) ∙ r ∙ sym f.ids_are)
        (ap (λ z. needed_by z (rows c i) (bytes c i) 2) e ∙ times r refl ∙ sym f.positions_are) h.0 h.1
    own_of (suc k) (t_run_end v t) i m ss b d l w r f h = none_own i (ap buffer_count w.2)
    own_of (suc k) (t_dictionary n p) i m ss b d l w r f h =
        one_own i d (fixed_one (code_of plan i) w.3) (needed_fixed (code_of plan i) (rows c i) (bytes c i) w.3 ∙ times r w.4 ∙ sym f.keys_are) h
    own_of zero t i m ss b d l w r f h = elim w [ ]
