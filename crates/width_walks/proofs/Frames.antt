-- Nodes that nothing is written to yet, and a result that still stands where its nodes are left as they were. Assumes nothing.
use mathlib.Core.Path.{◌≡◌, sym, ap, ◌∙◌}
use mathlib.Core.Bool.{Bool, true}
use mathlib.Core.List.{List, []}
use Prim.Native.Nat.{ℕ, zero, suc, ◌*◌, ◌≤◌, ◌<◌}
use native.Mathlib.Omega.{arith}
use Rattle.columnar.specs.Types.{Plain, fixed, string, Ty, t_plain, t_view, t_list_view, t_list, t_sparse, t_dense, t_run_end, t_dictionary}
use Rattle.columnar.specs.Array.{Array}
use Rattle.columnar.specs.Plain.{PlainBody}
use Rattle.columnar.specs.Reading.{Body, Column, masks}
use Rattle.walk.specs.State.{end_of, rows}
use Rattle.refinement.specs.walk_is_model.Memory.{Memory}
use Rattle.refinement.specs.walk_is_model.Holds.{child_of, Worded}
use Rattle.refinement.specs.orders.Order.{Lent}
use Rattle.refinement.proofs.walk_is_model.Frame.{SameAt, Kept, worded_span, field_of, bits_held}
use Rattle.refinement.proofs.walk_is_model.Owed.{DataKept}
use Rattle.anew.specs.Stood.{StoodNode, Stored, StoodPlain, StoodValues, in_parts, kept, StoodData, Stood}
use Rattle.width_walks.specs.Ready.{InParts}

-- nothing is written to node j
pub record Bare (c : List ℕ) (μ : Memory) (j : ℕ) : Type 0 where
  pub no_rows : rows c j ≡ 0
  pub no_bytes : (b : ℕ) → μ.at j b ≡ []
  pub no_bits : μ.bits j ≡ []

pub bare_same : {c c' : List ℕ} {μ μ' : Memory} {j : ℕ} → SameAt c c' μ μ' j → Bare c μ j → Bare c' μ' j
bare_same s h = record { no_rows = s.rows_same ∙ h.no_rows; no_bytes = λ b. s.at_same b ∙ h.no_bytes b; no_bits = s.bits_same ∙ h.no_bits }

-- what a walk of nodes behind node i leaves of it
pub data_behind : (i e j f : ℕ) {c c' : List ℕ} {μ μ' : Memory} → i < j → f ≤ e → Kept j f c c' μ μ' → DataKept i e c c' μ μ'
data_behind i e j f p q k =
    let s = k.outside i (λ a b. omega arith) in
    record {
      long = k.long;
      rows_own = s.rows_same;
      nulls_own = s.nulls_same;
      bits_own = s.bits_same;
      outside = λ m h. k.outside m (λ a b. h (omega arith) (omega arith));
    }

module _ (x : Lent) (buffers c c' : List ℕ) (μ μ' : Memory) where
  pub stored_same : (i b m w : ℕ) (s : List ℕ) → μ'.at i b ≡ μ.at i b → Stored x buffers c μ i b m w s → Stored x buffers c' μ' i b m w s
  stored_same i b m w s e h = record { bytes_are = e ∙ h.bytes_are; long = h.long }

  pub node_same : {B : Type 0} (i : ℕ) (m : Bool) (inner inner' : ℕ → B → Type 0) (a : Array B) → SameAt c c' μ μ' i → (inner a.len a.body → inner' a.len a.body)
      → StoodNode x buffers c μ i m inner a → StoodNode x buffers c' μ' i m inner' a
  node_same i m inner inner' a s f h =
      record {
        rows_are = s.rows_same ∙ h.rows_are;
        from_zero = h.from_zero;
        bits_are =
            record {
              bits = h.bits_are.bits;
              long = h.bits_are.long;
              held = bits_held x.plan c c' μ μ' i m h.bits_are.bits s.bits_same h.bits_are.held;
              valid_is = h.bits_are.valid_is;
            };
        body_is = f h.body_is;
      }

  pub plain_same : (p : Plain) (i n : ℕ) (b : PlainBody p) → SameAt c c' μ μ' i → StoodPlain x buffers c μ p i n b → StoodPlain x buffers c' μ' p i n b
  plain_same (fixed k) i n b s h = stored_same i 1 n _ b (s.at_same 1) h
  plain_same (string w) i n b s h = (
    stored_same i 1 (suc n) w b.offsets (s.at_same 1) h.0,
    record { bytes_are = s.at_same 2 ∙ h.1.bytes_are; long = h.1.long ∙ ap (λ z. z * 1) (sym s.bytes_same) },
  )

  abbrev AllSame : ℕ → Type 0
  AllSame i = (j : ℕ) → i ≤ j → j < end_of x.plan i → SameAt c c' μ μ' j

  pub data_same : (k : ℕ) (t : Ty) (i n : ℕ) (b : Body t) → Worded x.plan k t i → InParts x.plan t i → AllSame i → StoodData x buffers c μ t i n b → StoodData x buffers c' μ' t i n b
  data_same (suc k) (t_plain p) i n b w q s h = plain_same p i n b (s i (omega arith) w.1) h
  data_same (suc k) t_view i n b w q s h = (
    stored_same i 1 n 16 b.views ((s i (omega arith) w.1).at_same 1) h.0,
    record { buffers_are = h.1.buffers_are; inside = h.1.inside; few = h.1.few },
  )
  data_same (suc k) (t_list_view v t) i n b w q s h =
      let e : end_of x.plan i ≡ end_of x.plan (suc i) = w.1 in
      let p = worded_span x.plan k t (suc i) w.4 in (
        stored_same i 1 n v b.offsets ((s i (omega arith) (omega arith)).at_same 1) h.0,
        stored_same i 2 n v b.sizes ((s i (omega arith) (omega arith)).at_same 2) h.1,
        node_same (suc i) (masks t) (StoodData x buffers c μ t (suc i)) (StoodData x buffers c' μ' t (suc i)) b.child (s (suc i) (omega arith) (omega arith))
            (data_same k t (suc i) b.child.len b.child.body w.4 q (λ j l r. s j (omega arith) (omega arith))) h.2,
      )
  data_same (suc k) (t_list v t) i n b w q s h =
      let e : end_of x.plan i ≡ end_of x.plan (suc i) = w.1 in
      let p = worded_span x.plan k t (suc i) w.4 in (
        stored_same i 1 (suc n) v b.offsets ((s i (omega arith) (omega arith)).at_same 1) h.0,
        node_same (suc i) (masks t) (StoodData x buffers c μ t (suc i)) (StoodData x buffers c' μ' t (suc i)) b.child (s (suc i) (omega arith) (omega arith))
            (data_same k t (suc i) b.child.len b.child.body w.4 q (λ j l r. s j (omega arith) (omega arith))) h.1,
      )
  data_same (suc k) (t_sparse ids nullable f) i n b w q s h = (
    stored_same i 1 n 1 b.ids ((s i (omega arith) w.3).at_same 1) h.0,
    λ r m. let g = field_of x.plan (λ c. Worded x.plan k (f c)) nullable (end_of x.plan i) ids (suc i) 32 r w.4 (omega (arith, w.2)) m in
        let o = child_of x.plan i r in
        node_same o (masks (f r)) (StoodData x buffers c μ (f r) o) (StoodData x buffers c' μ' (f r) o) (b.children r) (s o (omega (arith, g.behind)) (omega (arith, g.ends, g.span)))
        (data_same k (f r) o (b.children r).len (b.children r).body g.is_kid (q r m) (λ j l u. s j (omega (arith, g.behind)) (omega (arith, g.ends)))) (h.1 r m),
  )
  data_same (suc k) (t_dense ids nullable f) i n b w q s h = (
    stored_same i 1 n 1 b.ids ((s i (omega arith) w.3).at_same 1) h.0,
    stored_same i 2 n 4 b.positions ((s i (omega arith) w.3).at_same 2) h.1,
    λ r m. let g = field_of x.plan (λ c. Worded x.plan k (f c)) nullable (end_of x.plan i) ids (suc i) 32 r w.4 (omega (arith, w.2)) m in
        let o = child_of x.plan i r in
        node_same o (masks (f r)) (StoodData x buffers c μ (f r) o) (StoodData x buffers c' μ' (f r) o) (b.children r) (s o (omega (arith, g.behind)) (omega (arith, g.ends, g.span)))
        (data_same k (f r) o (b.children r).len (b.children r).body g.is_kid (q r m) (λ j l u. s j (omega (arith, g.behind)) (omega (arith, g.ends)))) (h.2 r m),
  )
  data_same (suc k) (t_run_end v t) i n b w q s h =
      let e : end_of x.plan i ≡ end_of x.plan (suc (suc i)) = w.1 in
      let p = worded_span x.plan k t (suc (suc i)) w.4 in
      let o = s (suc i) (omega arith) (omega arith) in (
        node_same (suc i) true (λ m z. Stored x buffers c μ (suc i) 1 m v z) (λ m z. Stored x buffers c' μ' (suc i) 1 m v z) b.ends o
            (stored_same (suc i) 1 b.ends.len v b.ends.body (o.at_same 1)) h.0,
        node_same (suc (suc i)) (masks t) (StoodData x buffers c μ t (suc (suc i))) (StoodData x buffers c' μ' t (suc (suc i))) b.values (s (suc (suc i)) (omega arith) (omega arith))
            (data_same k t (suc (suc i)) b.values.len b.values.body w.4 q.1 (λ j l r. s j (omega arith) (omega arith))) h.1,
      )
  data_same (suc k) (t_dictionary m p) i n b w q s h = (stored_same i 1 n _ b.keys ((s i (omega arith) w.1).at_same 1) h.0, go h.1)
    where
      go : StoodValues x buffers c μ p i b.values → StoodValues x buffers c' μ' p i b.values
      go (in_parts e o) =
          let z = s (suc i) (omega arith) q.1 in
          in_parts e (node_same (suc i) true (StoodPlain x buffers c μ p (suc i)) (StoodPlain x buffers c' μ' p (suc i)) b.values z (plain_same p (suc i) b.values.len b.values.body z) o)
      go (kept e v l o r) = kept e v l o r
  data_same zero t i n b w q s h = elim w [ ]

  -- A COLUMN STILL STANDS
  pub stood_same : (k : ℕ) (t : Ty) (i : ℕ) (a : Column t) → Worded x.plan k t i → InParts x.plan t i → AllSame i → Stood x buffers c μ t i a → Stood x buffers c' μ' t i a
  stood_same k t i a w q s h =
      let p = worded_span x.plan k t i w in
      node_same i (masks t) (StoodData x buffers c μ t i) (StoodData x buffers c' μ' t i) a (s i (omega arith) p) (data_same k t i a.len a.body w q s) h
