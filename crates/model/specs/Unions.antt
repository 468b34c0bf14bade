-- Unions. Follows arrow-data 60.1.0 src/transform/union.rs, Apache-2.0; see NOTICE. Assumes nothing.
use Rattle.std.specs.Prelude.{Bool, cond, List, [], ◌∷◌, ◌++◌, ℕ, zero, suc, ◌+◌, take, drop, get_or, replicate, ltb, leb, eqb}
use Rattle.number.specs.Number.{encode}
use Rattle.columnar.specs.Row.{seg}
use Rattle.columnar.specs.Types.{half}
use Rattle.columnar.specs.Array.{Array, item}
use Rattle.columnar.specs.Entries.{encodes}
use Rattle.columnar.specs.Union.{Sparse, Dense}
use Rattle.model.specs.Try.{Try, done, stop, then, guard, after, steps_t}
use Rattle.model.specs.Ordered.{home}
use Rattle.model.specs.Mutable.{Mutable}

pub record Sparses (D : ℕ → Type 0) : Type 0 where
  pub buffer1 : List ℕ
  pub children : (c : ℕ) → Mutable (D c)

pub record Denses (D : ℕ → Type 0) : Type 0 where
  pub buffer1 : List ℕ
  pub buffer2 : List ℕ
  pub children : (c : ℕ) → Mutable (D c)

-- each child in field order: the first refusal, or the answer t
abbrev pub in_order : {D : ℕ → Type 0} {A : Type 0} → ((c : ℕ) → Try (Mutable (D c))) → List ℕ → A → Try A
in_order f [] x = done x
in_order f (c ∷ cs) x = then (f c) (λ y. in_order f cs x)

-- all the children changed, each by its own answer
abbrev pub sparse_with : {D : ℕ → Type 0} → List ℕ → ((c : ℕ) → Try (Mutable (D c))) → List ℕ → Sparses D → Try (Sparses D)
sparse_with ids f new d = in_order f ids (record { buffer1 = d.buffer1 ++ new; children = λ c. after (f c) (d.children c) })

-- "sparse copies offset + start onward from all children": a is that sum already
abbrev pub sparse_extend : {P D : ℕ → Type 0} → List ℕ → ((c : ℕ) → ℕ → ℕ → Mutable (D c) → Try (Mutable (D c))) → Sparse P → ℕ → ℕ → Sparses D → Try (Sparses D)
sparse_extend ids extend s a n d = sparse_with ids (λ c. extend c a n (d.children c)) (take n (drop a s.ids)) d

-- "A null goes to the first nullable field; sparse gives one to every child, nullable or not."
abbrev pub sparse_null : {D : ℕ → Type 0} → List ℕ → (ℕ → Bool) → ((c : ℕ) → ℕ → Mutable (D c) → Try (Mutable (D c))) → ℕ → Sparses D → Try (Sparses D)
sparse_null ids nullable nulls n d = then (home nullable ids) (λ h. sparse_with ids (λ c. nulls c n (d.children c)) (replicate n h) d)

-- the children with child c's changed
abbrev pub at_child : {D : ℕ → Type 0} → ℕ → ((c : ℕ) → Try (Mutable (D c))) → ((c : ℕ) → Mutable (D c)) → (c : ℕ) → Mutable (D c)
at_child c f k e = cond (eqb e c) (after (f e) (k e)) (k e)

-- child c changed, by its own answer; its ids and positions behind those that stand
abbrev pub dense_with : {D : ℕ → Type 0} → ℕ → ((c : ℕ) → Try (Mutable (D c))) → List ℕ → List ℕ → Denses D → Try (Denses D)
dense_with c f ids at d = then (f c) (λ x. done (record { buffer1 = d.buffer1 ++ ids; buffer2 = d.buffer2 ++ at; children = at_child c f d.children }))

-- "Dense copies one child row per row": its position is the child's length before its copy
abbrev pub dense_row : {P D : ℕ → Type 0} → ((c : ℕ) → ℕ → ℕ → Mutable (D c) → Try (Mutable (D c))) → Dense P → ℕ → Denses D → Try (Denses D)
dense_row extend s i d =
    let c = get_or s.ids i 0 in
    guard (ltb (d.children c).len (half 4)) 6 (dense_with c (λ e. extend e (item 4 s.positions i) 1 (d.children e)) (c ∷ []) (encode 4 (d.children c).len) d)

abbrev pub dense_null : {D : ℕ → Type 0} → List ℕ → (ℕ → Bool) → ((c : ℕ) → ℕ → Mutable (D c) → Try (Mutable (D c))) → ℕ → Denses D → Try (Denses D)
dense_null ids nullable nulls n d =
    then (home nullable ids)
    (λ h. guard (leb ((d.children h).len + n) (half 4)) 6 (dense_with h (λ e. nulls e n (d.children e)) (replicate n h) (encodes 4 (seg (λ p. p) (d.children h).len n)) d))

abbrev pub sparse_freeze : {P D : ℕ → Type 0} → ((c : ℕ) → Mutable (D c) → Array (P c)) → Sparses D → Sparse P
sparse_freeze f d = record { ids = d.buffer1; children = λ c. f c (d.children c) }

abbrev pub dense_freeze : {P D : ℕ → Type 0} → ((c : ℕ) → Mutable (D c) → Array (P c)) → Denses D → Dense P
dense_freeze f d = record { ids = d.buffer1; positions = d.buffer2; children = λ c. f c (d.children c) }
