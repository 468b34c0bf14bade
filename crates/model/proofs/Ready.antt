-- From what the opening has found to what the laws ask. Assumes nothing.
use mathlib.Core.Path.{◌≡◌, refl, sym, ap, ◌∙◌}
use mathlib.Core.Logic.{◌⊎◌, inl, inr}
use mathlib.Core.Bool.{Bool, true, false, ◌&&◌}
use mathlib.Core.List.Memᴰ
use mathlib.Core.List.{List, [], ◌∷◌, ◌++◌, Memᴰ}
use Prim.Native.Nat.{ℕ, zero, suc, ◌+◌, ◌*◌, ◌^◌, ◌≤◌, ◌<◌}
use native.Mathlib.Omega.{arith}
use lib.ListN.{length, length-append}
use Rattle.columnar.specs.Types.{Plain, Ty, t_plain, t_view, t_list_view, t_list, t_sparse, t_dense, t_run_end, t_dictionary}
use Rattle.columnar.specs.Array.{Obeys}
use Rattle.columnar.specs.Plain.{PlainBody, PlainRule}
use Rattle.columnar.specs.View.{Views}
use Rattle.columnar.specs.Dictionary.{Dictionary}
use Rattle.columnar.specs.Reading.{Body, Column, Source}
use Rattle.columnar.specs.Kids.{Kid, kid_ty, kid_at, body_down, bodies_down}
use Rattle.columnar.proofs.Kids.{below_kid, below_from, kid_source}
use Rattle.model.specs.Try.{Try, done, stop, then}
use Rattle.model.specs.Sources.{EachView, EachDictionary, Stands}
use Rattle.model.specs.Primitive.{buffers_before}
use Rattle.model.specs.Transform.{open_all, open_data}
use Rattle.model.proofs.Owed.{SameEntries, Ready}

then_first : (a b : Try (Unit {0})) → then a (λ x. b) ≡ done tt → a ≡ done tt
then_first (done x) b e = refl
then_first (stop g) b e = e

then_rest : (a b : Try (Unit {0})) → then a (λ x. b) ≡ done tt → b ≡ done tt
then_rest (done x) b e = e
then_rest (stop g) b e = absurd (let z : stop g ≡ done tt = e in let y : ◌≡◌ {A = ℕ} 0 1 = cc in omega arith)

-- all were opened, so each was
pub opened_each : (cs : List ℕ) (g : ℕ → Try (Unit {0})) → open_all cs g ≡ done tt → (c : ℕ) → Memᴰ c cs → g c ≡ done tt
opened_each [] g e c q = absurd (Memᴰ.not-nil q)
opened_each (x ∷ cs) g e c q = go (Memᴰ.cases_cons q) (opened_each cs g (then_rest (g x) (open_all cs g) e) c)
  where
    go : (c ≡ x) ⊎ Memᴰ c cs → (Memᴰ c cs → g c ≡ done tt) → g c ≡ done tt
    go (inl h) f = ap g h ∙ then_first (g x) (open_all cs g) e
    go (inr h) f = f h

-- .. so each child was
pub opened_kid : (t : Ty) (m : ℕ) (ss : ℕ → Body t) → open_data t m ss ≡ done tt → (k : Kid t) → open_data (kid_ty t k) m (bodies_down t ss k) ≡ done tt
opened_kid (t_plain p) m ss e k = absurd k
opened_kid t_view m ss e k = absurd k
opened_kid (t_list_view w t) m ss e k = e
opened_kid (t_list w t) m ss e k = e
opened_kid (t_sparse ids nullable f) m ss e k = opened_each ids (λ c. open_data (f c) m (λ i. ((ss i).children c).body)) e k.0 k.1
opened_kid (t_dense ids nullable f) m ss e k = opened_each ids (λ c. open_data (f c) m (λ i. ((ss i).children c).body)) e k.0 k.1
opened_kid (t_run_end w t) m ss e k = e
opened_kid (t_dictionary n p) m ss e k = absurd k

few_before : (ss : ℕ → Views) (m : ℕ) → ((j : ℕ) → j < m → length (ss j).buffers ≤ 32) → length (buffers_before ss m) ≤ 32 * m
few_before ss zero h = omega arith
few_before ss (suc m) h = rw length-append (omega (arith, few_before ss m (λ j q. h j (omega arith)), h m (omega arith)))

-- same_entries: what stands in one body from the same positions on is the same
module _ (body : List ℕ) (m : ℕ) (few : m ≤ 16)
    (same_entries : (p : Plain) (ds : ℕ → Dictionary (PlainBody p)) → ((j : ℕ) → j < m → Obeys true (PlainRule p) (ds j).values) → ((j : ℕ) → j < m → Stands body p (ds j)) → SameEntries p m ds) where
  pub ready : (t : Ty) (ss : ℕ → Column t) → ((j : ℕ) → j < m → Source t (ss j)) → ((j : ℕ) → j < m → EachView (λ v. length v.buffers ≤ 32) t (ss j).body)
      → ((j : ℕ) → j < m → EachDictionary (Stands body) t (ss j).body) → open_data t m (λ i. (ss i).body) ≡ done tt → Ready t m (λ i. (ss i).body)
  ready t ss g v d e =
      below_from bodies_down _ _
      {S = λ t. (ss : ℕ → Column t) × ((j : ℕ) → j < m → Source t (ss j)) × ((j : ℕ) → j < m → EachView (λ v. length v.buffers ≤ 32) t (ss j).body)
      × ((j : ℕ) → j < m → EachDictionary (Stands body) t (ss j).body) × (open_data t m (λ i. (ss i).body) ≡ done tt)}
      (λ t s i. (s.0 i).body)
      (λ t s k. (
        (
          (λ i. kid_at t (s.0 i).body k),
          (λ j q. kid_source t (s.0 j) (s.1 j q) k),
          (λ j q. below_kid body_down _ _ t (s.0 j).body (s.2 j q) k),
          (λ j q. below_kid body_down _ _ t (s.0 j).body (s.3 j q) k),
          opened_kid t m (λ i. (s.0 i).body) s.4 k,
        ),
        refl,
      ))
      (λ s. omega (arith, few_before (λ i. (s.0 i).body) m s.2))
      (λ n p s. (s.4, same_entries p (λ i. (s.0 i).body) (λ j q. (s.1 j q).slots.child_rule) s.3)) t (ss, g, v, d, e)
