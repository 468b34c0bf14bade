-- A destination with no rows is well formed, keeps nulls as it should, and holds nothing. Assumes nothing.
use mathlib.Core.Path.{◌≡◌, refl, sym, ap, ◌∙◌, fun_ext}
use mathlib.Core.Bool.{Bool, true, false, not, cond, ◌||◌}
use mathlib.Core.Option.{Option, none, some}
use mathlib.Core.List.{List, [], ◌∷◌, ◌++◌, Memᴰ, append-nil}
use Prim.Native.Nat.{ℕ, zero, suc, ◌+◌, ◌*◌, ◌^◌, ◌/◌, ◌≤◌, ◌<◌}
use native.Mathlib.Nat.{zero-mul, one-mul, add-zero}
use native.Mathlib.Omega.{arith}
use lib.ListN.{length}
use lib.Dec.{T, eqb}
use borrow.Author.Tests.{eqb-true}
use Rattle.number.specs.Number.{encode}
use Rattle.number.proofs.Laws.{length_encode}
use Rattle.columnar.specs.Types.{half, Plain, fixed, string, Ty, t_plain, t_view, t_list_view, t_list, t_sparse, t_dense, t_run_end, t_dictionary}
use Rattle.columnar.specs.Formed.{OffsetWidth, RunWidth, four, eight, two, FormedPlain, Formed}
use Rattle.columnar.specs.Array.{Array, ok, nulls_in, null_count_of}
use Rattle.columnar.specs.Plain.{PlainBody}
use Rattle.columnar.specs.Reading.{Body, Column, masks}
use Rattle.columnar.proofs.Items.{item_last}
use Rattle.columnar.proofs.Test.{every_out}
use Rattle.model.specs.Opening.{keeps}
use Rattle.model.specs.Grounds.{Counts, counts, leaf, among, start_counts}
use Rattle.model.specs.Mutable.{Mutable, keeps_bits, start_node}
use Rattle.model.specs.Primitive.{plain_start}
use Rattle.model.specs.Transform.{start_data, start}
use Rattle.model.specs.Held.{held_node, held_plain, held_data, held}
use Rattle.model.proofs.Law.{BitsFor, CountFor, FineNode, KeepNode, bit_at}
use Rattle.model.proofs.Nodes.{OffsetsFine, PlainFine, FineOf, KeepOf}
use Rattle.columnar.specs.Test.{every}

-- ---- no null at a node

pub no_null_in : (f : ℕ → Bool) (a n : ℕ) → nulls_in f a n ≡ 0 → (i : ℕ) → i < n → f (a + i) ≡ true
no_null_in f a zero e i q = absurd (omega arith)
no_null_in f a (suc n) e zero q = rw add-zero (go (f a) (omega arith))
  where
    go : (b : Bool) → ◌≡◌ {A = ℕ} (cond b 0 1) 0 → b ≡ true
    go true h = refl
    go false h = absurd (omega arith)
no_null_in f a (suc n) e (suc i) q = let s : suc a + i ≡ a + suc i = omega arith in ap f (sym s) ∙ no_null_in f (suc a) n (omega arith) i (omega arith)

or_right : (a b : Bool) → a || b ≡ false → b ≡ false
or_right true b e = absurd (let z : true ≡ false = e in let y : ◌≡◌ {A = ℕ} 0 1 = cc in omega arith)
or_right false b e = e

holds : (b : Bool) → not b ≡ false → T b
holds true e = tt
holds false e = absurd (let z : true ≡ false = e in let y : ◌≡◌ {A = ℕ} 0 1 = cc in omega arith)

is_true : (b : Bool) → T b → b ≡ true
is_true true h = refl
is_true false h = absurd h

pub none_has : {B : Type 0} (m : ℕ) (xs : ℕ → Array B) → keeps false m xs ≡ false → (j : ℕ) → j < m → null_count_of (xs j) ≡ 0
none_has m xs e j q = eqb-true (null_count_of (xs j)) 0 (is_true _ (every_out (λ i. eqb (null_count_of (xs i)) 0) m (holds (every (λ i. eqb (null_count_of (xs i)) 0) m) e) j q))

-- ---- a node with no rows

start_bits_lem : (masks keep : Bool) → BitsFor masks (cond keep (some []) none) 0
start_bits_lem true true = refl
start_bits_lem false true = refl
start_bits_lem true false = tt
start_bits_lem false false = tt

start_count : (masks keep : Bool) → CountFor masks (cond keep (some []) none) 0
start_count true true = refl
start_count false true = tt
start_count true false = refl
start_count false false = refl

kept_none : (keep : Bool) → ◌≡◌ {A = Option (List Bool)} (cond keep (some []) none) none → keep ≡ false
kept_none true e = cc
kept_none false e = refl

start_node_lem : {P D : Type 0} (masks u : Bool) (fine : (ℕ → Bool) → D → ℕ → Type 0) (m : ℕ) (xs : ℕ → Array P) (d : D)
    → ((b : ℕ → Bool) → fine b d 0) → FineNode masks fine m xs (start_node (keeps u m xs) d)
start_node_lem masks u fine m xs d h =
    record {
      bits_are = start_bits_lem masks (keeps u m xs);
      count_is = start_count masks (keeps u m xs);
      no_nulls = λ e j hj i q.
          no_null_in (ok (xs j).valid) (xs j).off (xs j).len (none_has m xs (or_right u (keeps false m xs) (kept_none (keeps u m xs) e)) j hj) i q;
      data_fine = h _;
    }

-- ---- every type

half_pos : {w : ℕ} → OffsetWidth w → 0 < half w
half_pos four = omega arith
half_pos eight = omega arith

run_pos : {w : ℕ} → RunWidth w → 0 < half w
run_pos two = omega arith
run_pos four = omega arith
run_pos eight = omega arith

half_le : (w : ℕ) → half w ≤ 256 ^ w
half_le w = omega arith

-- the one offset of no rows
offsets_start : (w : ℕ) → OffsetWidth w → OffsetsFine w (encode w 0) 0 0
offsets_start w f =
    record {
      offsets_are = length_encode w 0 ∙ sym (one-mul w);
      rises = λ i q. absurd (omega arith);
      last_is = item_last w [] 0 0 (sym (zero-mul w)) (omega (arith, half_pos f, half_le w));
      fits = half_pos f;
    }

plain_start_lem : (p : Plain) (b : ℕ → Bool) → FormedPlain p → PlainFine p b (plain_start p) 0
plain_start_lem (fixed k) b f = sym (zero-mul _)
plain_start_lem (string w) b f = offsets_start w f

not_two : (g : Bool) → ◌≡◌ {A = ℕ} (cond g 1 0) 2 → ⊥
not_two true e = omega arith
not_two false e = omega arith

pub start_data_lem : (gaps : Bool) (t : Ty) (u : Bool) (m : ℕ) (ss : ℕ → Body t) (b : ℕ → Bool) → 0 < m → Formed t → FineOf t m ss b (start_data gaps t u m ss) 0
start_data_lem gaps (t_plain p) u m ss b z f = plain_start_lem p b f
start_data_lem gaps t_view u m ss b z f = record { views_are = refl; good = λ i q. absurd (omega arith) }
start_data_lem gaps (t_list_view w t) u m ss b z f =
    record {
      offsets_are = sym (zero-mul w);
      sizes_are = sym (zero-mul w);
      within = λ i q. absurd (omega arith);
      fits = half_pos f.0;
      child_fine = start_node_lem (masks t) u (FineOf t m (λ i. (ss i).child.body)) m (λ i. (ss i).child) _ (λ b. start_data_lem gaps t _ m (λ i. (ss i).child.body) b z f.1);
    }
start_data_lem gaps (t_list w t) u m ss b z f =
    record {
      offsets_fine = offsets_start w f.0;
      child_fine = start_node_lem (masks t) u (FineOf t m (λ i. (ss i).child.body)) m (λ i. (ss i).child) _ (λ b. start_data_lem gaps t _ m (λ i. (ss i).child.body) b z f.1);
    }
start_data_lem gaps (t_sparse ids nullable g) u m ss b z f =
    record {
      ids_are = refl;
      declared = λ i q. absurd (omega arith);
      kids_are = λ c q. refl;
      kids_fine = λ c q.
          start_node_lem (masks (g c)) u (FineOf (g c) m (λ i. ((ss i).children c).body)) m (λ i. (ss i).children c) _ (λ b. start_data_lem gaps (g c) _ m (λ i. ((ss i).children c).body) b z (f.1 c q));
    }
start_data_lem gaps (t_dense ids nullable g) u m ss b z f =
    record {
      ids_are = refl;
      positions_are = refl;
      declared = λ i q. absurd (omega arith);
      within = λ i q. absurd (omega arith);
      fits = λ c q. omega arith;
      kids_fine = λ c q.
          start_node_lem (masks (g c)) u (FineOf (g c) m (λ i. ((ss i).children c).body)) m (λ i. (ss i).children c) _ (λ b. start_data_lem gaps (g c) _ m (λ i. ((ss i).children c).body) b z (f.1 c q));
    }
start_data_lem gaps (t_run_end w t) u m ss b z f =
    record {
      no_bits = refl;
      ends_are = sym (zero-mul w);
      rises = λ i q. absurd (omega arith);
      covers = refl;
      fits = run_pos f.0;
      as_many = refl;
      some_run = λ z. absurd (not_two gaps z);
      null_run = λ z. absurd (not_two gaps z);
      values_fine = start_node_lem (masks t) u (FineOf t m (λ i. (ss i).values.body)) m (λ i. (ss i).values) _ (λ b. start_data_lem gaps t _ m (λ i. (ss i).values.body) b z f.1);
    }
start_data_lem gaps (t_dictionary k p) u m ss b z f = record { sources = z; keys_are = sym (zero-mul _); positive = λ i q. absurd (omega arith); within = λ i q. absurd (omega arith) }

pub start_fine : (gaps : Bool) (t : Ty) (u : Bool) (m : ℕ) (ss : ℕ → Column t) → 0 < m → Formed t → FineNode (masks t) (FineOf t m (λ i. (ss i).body)) m ss (start gaps t u m ss)
start_fine gaps t u m ss z f = start_node_lem (masks t) u (FineOf t m (λ i. (ss i).body)) m ss _ (λ b. start_data_lem gaps t _ m (λ i. (ss i).body) b z f)

-- where the root keeps nulls, so do the nodes that an order of nulls reaches
keep_start : (gaps : Bool) (t : Ty) (m : ℕ) (ss : ℕ → Body t) → KeepOf t (start_data gaps t true m ss)
keep_start gaps (t_plain p) m ss = tt
keep_start gaps t_view m ss = tt
keep_start gaps (t_list_view w t) m ss = tt
keep_start gaps (t_list w t) m ss = tt
keep_start gaps (t_sparse ids nullable g) m ss = λ c q. record { here = refl; below = keep_start gaps (g c) m (λ i. ((ss i).children c).body) }
keep_start gaps (t_dense ids nullable g) m ss = λ c q. record { here = refl; below = keep_start gaps (g c) m (λ i. ((ss i).children c).body) }
keep_start gaps (t_run_end w t) m ss = record { here = refl; below = keep_start gaps t m (λ i. (ss i).values.body) }
keep_start gaps (t_dictionary k p) m ss = tt

pub start_keep : (gaps : Bool) (t : Ty) (u : Bool) (m : ℕ) (ss : ℕ → Column t) → keeps u m ss ≡ true → KeepNode (KeepOf t) (start gaps t u m ss)
start_keep gaps t u m ss e = go (keeps u m ss) e
  where
    go : (b : Bool) → b ≡ true → KeepNode (KeepOf t) (start_node b (start_data gaps t b m (λ i. (ss i).body)))
    go true e = record { here = refl; below = keep_start gaps t m (λ i. (ss i).body) }
    go false e = absurd (let z : false ≡ true = e in let y : ◌≡◌ {A = ℕ} 0 1 = cc in omega arith)

-- it holds nothing
held_plain_lem : (p : Plain) → held_plain p (plain_start p) 0 ≡ counts 0 0 leaf
held_plain_lem (fixed k) = refl
held_plain_lem (string w) = refl

pub held_start : (gaps : Bool) (t : Ty) (u : Bool) (m : ℕ) (ss : ℕ → Body t) → held_data t (start_data gaps t u m ss) 0 ≡ start_counts gaps t
held_start gaps (t_plain p) u m ss = held_plain_lem p
held_start gaps t_view u m ss = refl
held_start gaps (t_list_view w t) u m ss = ap (λ x. counts 0 0 (λ e. x)) (held_start gaps t _ m (λ i. (ss i).child.body))
held_start gaps (t_list w t) u m ss = ap (λ x. counts 0 0 (λ e. x)) (held_start gaps t _ m (λ i. (ss i).child.body))
held_start gaps (t_sparse ids nullable g) u m ss = ap (λ f. counts 0 0 (among ids f)) (fun_ext (λ e. held_start gaps (g e) _ m (λ i. ((ss i).children e).body)))
held_start gaps (t_dense ids nullable g) u m ss = ap (λ f. counts 0 0 (among ids f)) (fun_ext (λ e. held_start gaps (g e) _ m (λ i. ((ss i).children e).body)))
held_start gaps (t_run_end w t) u m ss = ap (λ x. counts 0 (cond gaps 1 0) (λ e. x)) (held_start gaps t _ m (λ i. (ss i).values.body))
held_start gaps (t_dictionary k p) u m ss = refl

-- plain values, also of no source: a joined dictionary before the first
pub start_plain : (p : Plain) (u : Bool) (m : ℕ) (vs : ℕ → Array (PlainBody p)) → FormedPlain p → FineNode true (PlainFine p) m vs (start_node (keeps u m vs) (plain_start p))
start_plain p u m vs f = start_node_lem true u (PlainFine p) m vs (plain_start p) (λ b. plain_start_lem p b f)
