-- A column that stands: the memory has each node's buffers, and the counters say their lengths. Assumes nothing.
use mathlib.Core.Path.{◌≡◌, refl, sym, ap, ◌∙◌}
use mathlib.Core.Bool.{Bool, true, false}
use mathlib.Core.Option.{Option, none, some}
use mathlib.Core.List.{List, [], ◌∷◌, map}
use Prim.Native.Nat.{ℕ, zero, suc, ◌+◌, ◌*◌, ◌≤◌, ◌<◌}
use native.Mathlib.Nat.{mul-one}
use native.Mathlib.Numerals.{add-one}
use native.Mathlib.Omega.{arith}
use lib.ListN.{length, get_or, length-map}
use lib.Dec.{ltb}
use borrow.Author.Tests.{ltb-false}
use Rattle.columnar.specs.Types.{Plain, fixed, string, Ty, t_plain, t_view, t_list_view, t_list, t_sparse, t_dense, t_run_end, t_dictionary}
use Rattle.columnar.specs.Plain.{PlainBody}
use Rattle.columnar.specs.Reading.{Body, Column}
use Rattle.walk.specs.State.{code_of, keeps_of, rows, bytes}
use Rattle.refinement.specs.walk_is_model.Memory.{Memory}
use Rattle.refinement.specs.walk_is_model.Holds.{WordedPlain, Worded, flag, HoldsBits}
use Rattle.plan.specs.parts.Parts.{buffer_count, copied, has_part, needed, needed_by}
use Rattle.refinement.specs.orders.Order.{Lent}
use Rattle.refinement.specs.orders.Fits.{plain_buffers}
use Rattle.refinement.proofs.orders.Buffers.{fixed_one, string_two, view_one, list_two, lists_one, needed_fixed, needed_offsets, needed_chars, needed_views, needed_starts, needed_ends, needed_sizes, copied_buffer, copied_bits}
use Rattle.refinement.proofs.orders.Own.{Own, one_own, times}
use Rattle.anew.specs.Stood.{BitsOf, StoodBits, Stored, StoodPlain, StoodData}

-- a node's own buffers, in the format's order
abbrev pub buffers_at : (t : Ty) → Body t → List (List ℕ)
buffers_at (t_plain p) b = plain_buffers p b
buffers_at t_view b = b.views ∷ []
buffers_at (t_list_view w t) b = b.offsets ∷ b.sizes ∷ []
buffers_at (t_list w t) b = b.offsets ∷ []
buffers_at (t_sparse ids nullable f) b = b.ids ∷ []
buffers_at (t_dense ids nullable f) b = b.ids ∷ b.positions ∷ []
buffers_at (t_run_end w t) b = []
buffers_at (t_dictionary k p) b = b.keys ∷ []

module _ (x : Lent) (buffers counters : List ℕ) (μ : Memory) where
  abbrev plan : List ℕ
  plan = x.plan

  abbrev Owns : ℕ → List (List ℕ) → Type 0
  Owns i bs = Own plan x.parts counters μ i bs

  none_own : (i : ℕ) → buffer_count (code_of plan i) ≡ 0 → Owns i []
  none_own i e = record { count_is = e; needs_are = λ k l. absurd (omega arith); lie = λ k l. absurd (omega arith) }

  two_own : (i : ℕ) (s r : List ℕ) → buffer_count (code_of plan i) ≡ 2 → needed plan counters i 1 ≡ length s → needed plan counters i 2 ≡ length r → μ.at i 1 ≡ s → μ.at i 2 ≡ r → Owns i (s ∷ r ∷ [])
  two_own i s r e n o h g = record { count_is = e; needs_are = needs; lie = lies }
    where
      needs : (k : ℕ) → k < length (s ∷ r ∷ []) → needed plan counters i (suc k) ≡ length (get_or (s ∷ r ∷ []) k [])
      needs zero l = n
      needs (suc zero) l = o
      needs (suc (suc k)) l = absurd (omega arith)

      lies : (k : ℕ) → k < length (s ∷ r ∷ []) → μ.at i (suc k) ≡ get_or (s ∷ r ∷ []) k []
      lies zero l = h
      lies (suc zero) l = g
      lies (suc (suc k)) l = absurd (omega arith)

  -- m entries of w bytes are what is needed
  entries : {a m v w : ℕ} {i b : ℕ} {s : List ℕ} → a ≡ m → v ≡ w → Stored x buffers counters μ i b m w s → a * v ≡ length s
  entries e f h = times plan x.parts counters μ e f ∙ sym h.long

  one_more : {n : ℕ} (i : ℕ) → rows counters i ≡ n → rows counters i + 1 ≡ suc n
  one_more i r = add-one (rows counters i) ∙ ap suc r

  pub own_plain : (p : Plain) (i n : ℕ) (b : PlainBody p) → WordedPlain plan p i → rows counters i ≡ n → StoodPlain x buffers counters μ p i n b → Owns i (plain_buffers p b)
  own_plain (fixed k) i n b w r h =
      one_own plan x.parts counters μ i b (fixed_one (code_of plan i) w.0) (needed_fixed (code_of plan i) (rows counters i) (bytes counters i) w.0 ∙ entries r w.1 h) h.bytes_are
  own_plain (string v) i n b w r h =
      two_own i b.offsets b.chars (string_two (code_of plan i) w.0)
      (needed_offsets (code_of plan i) (rows counters i) (bytes counters i) w.0 ∙ entries (one_more i r) w.1 h.0)
      (needed_chars (code_of plan i) (rows counters i) (bytes counters i) w.0 ∙ sym (mul-one (bytes counters i)) ∙ sym h.1.long) h.0.bytes_are h.1.bytes_are

  -- THE MEMORY HAS THE NODE'S BUFFERS, and the counters say their lengths
  pub own_at : (k : ℕ) (t : Ty) (i n : ℕ) (b : Body t) → Worded plan k t i → rows counters i ≡ n → StoodData x buffers counters μ t i n b → Owns i (buffers_at t b)
  own_at (suc k) (t_plain p) i n b w r h = own_plain p i n b w.3 r h
  own_at (suc k) t_view i n b w r h =
      one_own plan x.parts counters μ i b.views (view_one (code_of plan i) w.2) (needed_views (code_of plan i) (rows counters i) (bytes counters i) w.2 ∙ entries r refl h.0) h.0.bytes_are
  own_at (suc k) (t_list_view v t) i n b w r h =
      two_own i b.offsets b.sizes (list_two (code_of plan i) w.2) (needed_starts (code_of plan i) (rows counters i) (bytes counters i) w.2 ∙ entries r w.3 h.0)
      (needed_sizes (code_of plan i) (rows counters i) (bytes counters i) w.2 ∙ entries r w.3 h.1) h.0.bytes_are h.1.bytes_are
  own_at (suc k) (t_list v t) i n b w r h =
      one_own plan x.parts counters μ i b.offsets (lists_one (code_of plan i) w.2) (needed_ends (code_of plan i) (rows counters i) (bytes counters i) w.2 ∙ entries (one_more i r) w.3 h.0)
      h.0.bytes_are
  own_at (suc k) (t_sparse ids nullable g) i n b w r h =
      let e : code_of plan i ≡ 21 = w.1 in
      one_own plan x.parts counters μ i b.ids (ap buffer_count e) (ap (λ z. needed_by z (rows counters i) (bytes counters i) 1) e ∙ entries r refl h.0) h.0.bytes_are
  own_at (suc k) (t_dense ids nullable g) i n b w r h =
      let e : code_of plan i ≡ 22 = w.1 in
      two_own i b.ids b.positions (ap buffer_count e) (ap (λ z. needed_by z (rows counters i) (bytes counters i) 1) e ∙ entries r refl h.0)
      (ap (λ z. needed_by z (rows counters i) (bytes counters i) 2) e ∙ entries r refl h.1) h.0.bytes_are h.1.bytes_are
  own_at (suc k) (t_run_end v t) i n b w r h = none_own i (ap buffer_count w.2)
  own_at (suc k) (t_dictionary q p) i n b w r h =
      one_own plan x.parts counters μ i b.keys (fixed_one (code_of plan i) w.3) (needed_fixed (code_of plan i) (rows counters i) (bytes counters i) w.3 ∙ entries r w.4 h.0) h.0.bytes_are
  own_at zero t i n b w r h = elim w [ ]

  -- run ends
  pub own_ends : (i n w : ℕ) (s : List ℕ) → buffer_count (code_of plan i) ≡ 1 → needed plan counters i 1 ≡ rows counters i * w → rows counters i ≡ n → Stored x buffers counters μ i 1 n w s → Owns i (s ∷ [])
  own_ends i n w s e d r h = one_own plan x.parts counters μ i s e (d ∙ entries r refl h) h.bytes_are

  -- the memory has as many bytes or bits for buffer b of node i as the counters say
  pub record Exact (i b : ℕ) : Type 0 where
    pub bytes_are : 1 ≤ b → length (μ.at i b) ≡ needed plan counters i b
    pub bits_are : b ≡ 0 → length (μ.bits i) ≡ rows counters i

  pub exact_at : (i : ℕ) (bs : List (List ℕ)) → Owns i bs → copied plan i ≡ true → (masks : Bool) → masks ≡ ltb (code_of plan i) 21 → (n : ℕ) (valid : Option (List ℕ)) → rows counters i ≡ n
      → StoodBits x buffers counters μ i masks n valid → (b : ℕ) → has_part plan i b ≡ true → Exact i b
  exact_at i bs own c masks code n valid r st zero h =
      let p = copied_bits plan i c h in
      record { bytes_are = λ z. absurd (omega arith); bits_are = λ z. go masks code st.bits st.long st.held p.0 p.1 }
    where
      go : (m : Bool) → m ≡ ltb (code_of plan i) 21 → (o : Option (List Bool)) → BitsOf m o n → HoldsBits plan i m o μ → (keeps_of plan i ≡ 0 → ⊥) → code_of plan i < 21
          → length (μ.bits i) ≡ rows counters i
      go m q none b t k l = absurd (k t)
      go true q (some v) b t k l = ap length t.1 ∙ length-map v flag ∙ b ∙ sym r
      go false q (some v) b t k l = absurd (omega (arith, ltb-false (code_of plan i) 21 (sym q)))
  exact_at i bs own c masks code n valid r st (suc k) h =
      let l : k < length bs = omega (arith, copied_buffer plan i k c h, own.count_is) in
      record { bytes_are = λ z. ap length (own.lie k l) ∙ sym (own.needs_are k l); bits_are = λ z. absurd (omega arith) }
