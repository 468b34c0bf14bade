-- A write into one buffer of a node: what it leaves as it was. Assumes nothing.
use mathlib.Core.Path.{◌≡◌, refl, ◌∙◌}
use mathlib.Core.List.{List, ◌++◌}
use Prim.Native.Nat.{ℕ, ◌<◌}
use native.Mathlib.Omega.{arith}
use lib.ListN.{length}
use borrow.Author.Tests.{eq-eqb, ne_eqb}
use Rattle.model.specs.Try.{done}
use Rattle.walk.specs.State.{set_bytes}
use Rattle.walk.specs.Log.{Entry, put, wrote}
use Rattle.refinement.specs.walk_is_model.Memory.{Memory, put_in, noted, InPlace, after, AllInPlace}
use Rattle.refinement.proofs.walk_is_model.Goes.{Goes, good}
use Rattle.refinement.proofs.walk_is_model.Frame.{SameAt, same_refl, same_then}
use Rattle.refinement.proofs.walk_is_model.Counters.{bytes_other, rows_of_bytes, nulls_of_bytes, long_bytes}
use Rattle.refinement.proofs.walk_is_model.Owed.{DataKept}

-- a walk that ends with a write
pub goes_write : {A : Type 0} {μ : Memory} {Q : A → List ℕ → Memory → Type 0} (x : A) (e : Entry) (c : List ℕ) → InPlace e μ → Q x c (noted e μ)
    → Goes μ Q (done x) (wrote e c)
unfolding wrote after AllInPlace
goes_write x e c p q = good x (wrote e c) refl (p, tt) q

module _ (i b : ℕ) (bs : List ℕ) (μ : Memory) where
  pub put_own : (put_in i b bs μ).at i b ≡ μ.at i b ++ bs
  put_own = rw (eq-eqb i i refl, eq-eqb b b refl)

  -- another buffer of the node
  pub put_beside : (e : ℕ) → (e ≡ b → ⊥) → (put_in i b bs μ).at i e ≡ μ.at i e
  put_beside e h = rw (eq-eqb i i refl, ne_eqb e b h)

  -- another node
  pub put_other : (c : List ℕ) (j : ℕ) → (j ≡ i → ⊥) → SameAt c c μ (put_in i b bs μ) j
  put_other c j h = record { rows_same = refl; nulls_same = refl; bytes_same = refl; at_same = λ e. rw (ne_eqb j i h); bits_same = refl }

  pub data_put : (c : List ℕ) (e : ℕ) → i < e → DataKept i e c c μ (put_in i b bs μ)
  data_put c e p = record { long = refl; rows_own = refl; nulls_own = refl; bits_own = refl; outside = λ j h. put_other c j (λ z. h (omega (arith, z)) (omega (arith, z))) }

pub data_none : (i e : ℕ) (c : List ℕ) (μ : Memory) → DataKept i e c c μ μ
data_none i e c μ =
    record {
      long = refl;
      rows_own = refl;
      nulls_own = refl;
      bits_own = refl;
      outside = λ j h. same_refl c μ j;
    }

pub data_then : {i e : ℕ} {c c1 c2 : List ℕ} {μ μ1 μ2 : Memory} → DataKept i e c c1 μ μ1 → DataKept i e c1 c2 μ1 μ2 → DataKept i e c c2 μ μ2
data_then a b =
    record {
      long = b.long ∙ a.long;
      rows_own = b.rows_own ∙ a.rows_own;
      nulls_own = b.nulls_own ∙ a.nulls_own;
      bits_own = b.bits_own ∙ a.bits_own;
      outside = λ j h. same_then (a.outside j h) (b.outside j h);
    }

pub data_bytes : (i e n : ℕ) (c : List ℕ) (μ : Memory) → i < e → DataKept i e c (set_bytes i n c) μ μ
data_bytes i e n c μ p =
    record {
      long = long_bytes i n c;
      rows_own = rows_of_bytes c i n i;
      nulls_own = nulls_of_bytes c i n i;
      bits_own = refl;
      outside = λ j h.
          record {
            rows_same = rows_of_bytes c i n j;
            nulls_same = nulls_of_bytes c i n j;
            bytes_same = bytes_other c i n j (λ z. h (omega (arith, z)) (omega (arith, z)));
            at_same = λ b. refl;
            bits_same = refl;
          };
    }

-- the first buffer grows, and nothing else
pub first_grows : (i e o : ℕ) (d bs bs' : List ℕ) (c : List ℕ) (μ : Memory) → i < e → μ.at i 1 ≡ d → o ≡ length d → bs' ≡ bs
    → Goes μ (λ g c' μ'. (μ'.at i 1 ≡ g) × DataKept i e c c' μ μ') (done (d ++ bs)) (wrote (put i 1 o bs') c)
first_grows i e o d bs bs' c μ p h q y =
    goes_write (d ++ bs) (put i 1 o bs') c (rw h q) (rw (put_own i 1 bs' μ, h, y), data_put i 1 bs' μ c e p)
