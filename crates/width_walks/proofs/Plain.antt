-- Numbers and byte strings in other widths, as the walk writes them. Assumes nothing.
use mathlib.Core.Path.{◌≡◌, refl, sym, ap, subst, ◌∙◌}
use mathlib.Core.Bool.{Bool}
use mathlib.Core.List.{List, [], ◌++◌}
use Prim.Native.Nat.{ℕ, suc, ◌-◌, ◌*◌, ◌<◌}
use native.Mathlib.Nat.{mul-one}
use native.Mathlib.Omega.{arith}
use lib.ListN.{length, take, drop, length-take, length-drop}
use lib.Dec.{ltb}
use Rattle.columnar.specs.Types.{width, half, Plain}
use Rattle.columnar.specs.Array.{item}
use Rattle.columnar.specs.Entries.{encodes}
use Rattle.columnar.specs.Plain.{PlainBody, OffsetsRule, PlainRule}
use Rattle.columnar.proofs.Items.{length_encodes, length_cut}
use Rattle.model.specs.Try.{done, then}
use Rattle.model.proofs.Bits.{length_seg}
use Rattle.walk.specs.State.{set_bytes, bytes}
use Rattle.walk.specs.Log.{put, wrote, next}
use Rattle.refinement.specs.walk_is_model.Memory.{Memory, put_in}
use Rattle.refinement.specs.orders.Order.{Lent}
use Rattle.refinement.proofs.walk_is_model.Owed.{DataKept}
use Rattle.refinement.proofs.walk_is_model.Counters.{bytes_set}
use Rattle.refinement.proofs.walk_is_model.Goes.{Goes, goes_done, goes_guard, goes_wrote}
use Rattle.refinement.proofs.walk_is_model.Writes.{goes_write, put_own, put_beside, data_put, data_then, data_bytes}
use Rattle.anew.specs.widths.Widths.{PlainWidths, s_fixed, s_string}
use Rattle.anew.specs.widths.Converted.{span_of, offsets_of, plain_as}
use Rattle.anew.specs.widths.Fitting.{needs, tried, plain_numbers}
use Rattle.anew.proofs.widths.Plain.{first_least, last_within}
use Rattle.anew.proofs.widths.Decide.{offsets_decide}
use Rattle.anew.specs.Stood.{StoodPlain}
use Rattle.width_walks.specs.Convert.{plain_walk}
use Rattle.width_walks.proofs.Tries.{asks_last}
use Rattle.width_walks.proofs.Node.{Open}

-- the first write to a buffer
pub first_put : (i b : ℕ) (bs : List ℕ) (μ : Memory) → μ.at i b ≡ [] → (put_in i b bs μ).at i b ≡ bs
first_put i b bs μ h = put_own i b bs μ ∙ ap (λ z. z ++ bs) h

pub at_zero : (i b : ℕ) (μ : Memory) → μ.at i b ≡ [] → 0 ≡ length (μ.at i b)
at_zero i b μ h = sym (ap length h)

-- bytes that a stretch of offsets spans
pub span_long : (w : ℕ) (os chars : List ℕ) (s n : ℕ) → OffsetsRule w os (length chars) s n
    → length (take (span_of w os s n) (drop (item w os s) chars)) ≡ span_of w os s n
span_long w os chars s n h =
    let a = first_least w os (length chars) s n h n (omega arith) in
    let b = last_within w os (length chars) s n h in
    simp (length-take, length-drop) (omega arith)

module _ (x : Lent) (buffers : List ℕ) where
  pub plain_law : (p p' : Plain) (d : PlainWidths p p') (i e : ℕ) → i < 32 → i < e → (okay : ℕ → Bool) (b : PlainBody p) (s n : ℕ) → PlainRule p okay b s n
      → (c : List ℕ) (μ : Memory) → Open i e c μ
      → Goes μ (λ y c2 μ2. StoodPlain x buffers c2 μ2 p' i n y × DataKept i e c c2 μ μ2) (then (tried (plain_numbers d b s n)) (λ u. done (plain_as d okay b s n)))
      (plain_walk x.plan d i okay b s n c)
  plain_law p p' (s_fixed k) i e l q okay b s n h c μ o =
      let bs = take (n * width k) (drop (s * width k) b) in
      goes_write bs (put i 1 0 bs) c (at_zero i 1 μ (o.own 1))
      (record { bytes_are = first_put i 1 bs μ (o.own 1); long = length_cut (width k) s n b h }, data_put i 1 bs μ c e q)
  plain_law p p' (s_string w w') i e l q okay b s n h c μ o =
      subst (λ t. Goes μ Q t (plain_walk x.plan (s_string w w') i okay b s n c))
      (sym (asks_last (needs 6 (half w') (offsets_of w b.offsets s n)) test 6 (λ u. done made) (offsets_decide w b.offsets (length b.chars) s n h (half w'))))
      (goes_guard test test 6 c (omega arith) refl
      (λ z. goes_wrote (put i 1 0 offs) c (λ c1. next (wrote (put i 2 0 chars) c1) (λ c2. Rattle.walk.specs.Log.done (set_bytes i span c2))) (at_zero i 1 μ (o.own 1))
      (goes_wrote (put i 2 0 chars) c (λ c2. Rattle.walk.specs.Log.done (set_bytes i span c2)) (at_zero i 2 μ1 second_empty)
      (goes_done made (set_bytes i span c) (
        ((
          record { bytes_are = first_is; long = length_encodes w' (offsets_of w b.offsets s n) ∙ ap (λ z. z * w') (length_seg (λ j. item w b.offsets j - item w b.offsets s) s (suc n)) },
          record { bytes_are = first_put i 2 chars μ1 second_empty; long = chars_long },
        )),
        data_then (data_put i 1 offs μ c e q) (data_then (data_put i 2 chars μ1 c e q) (data_bytes i e span c (put_in i 2 chars μ1) q)),
      )))))
    where
      span : ℕ
      span = span_of w b.offsets s n

      offs : List ℕ
      offs = encodes w' (offsets_of w b.offsets s n)

      chars : List ℕ
      chars = take (span_of w b.offsets s n) (drop (item w b.offsets s) b.chars)

      made : PlainBody p'
      made = plain_as (s_string w w') okay b s n

      test : Bool
      test = ltb (span_of w b.offsets s n) (half w')

      μ1 : Memory
      μ1 = put_in i 1 (encodes w' (offsets_of w b.offsets s n)) μ

      Q : PlainBody p' → List ℕ → Memory → Type 0
      Q y c2 μ2 = StoodPlain x buffers c2 μ2 p' i n y × DataKept i e c c2 μ μ2

      second_empty : (put_in i 1 (encodes w' (offsets_of w b.offsets s n)) μ).at i 2 ≡ []
      second_empty = put_beside i 1 (encodes w' (offsets_of w b.offsets s n)) μ 2 (λ z. omega arith) ∙ o.own 2

      first_is : (put_in i 2 chars (put_in i 1 (encodes w' (offsets_of w b.offsets s n)) μ)).at i 1 ≡ encodes w' (offsets_of w b.offsets s n)
      first_is =
          put_beside i 2 chars (put_in i 1 (encodes w' (offsets_of w b.offsets s n)) μ) 1 (λ z. omega arith) ∙ first_put i 1 (encodes w' (offsets_of w b.offsets s n)) μ (o.own 1)

      chars_long : length (take (span_of w b.offsets s n) (drop (item w b.offsets s) b.chars)) ≡ bytes (set_bytes i (span_of w b.offsets s n) c) i * 1
      chars_long =
          span_long w b.offsets b.chars s n h ∙ sym (mul-one (bytes (set_bytes i (span_of w b.offsets s n) c) i) ∙ bytes_set c o.long i l (span_of w b.offsets s n))
