-- A copy of no rows adds nothing, whatever the source: so a list may leave its child alone there. Assumes nothing.
use mathlib.Core.Path.{◌≡◌, refl, ap, ap₂, ◌∙◌, fun_ext}
use mathlib.Core.Bool.{Bool, true, false}
use mathlib.Core.Option.{Option, none, some}
use mathlib.Core.List.{List, [], ◌∷◌, ◌++◌, append-nil}
use Prim.Native.Nat.{ℕ, zero, suc, ◌+◌, ◌-◌, ◌*◌}
use native.Mathlib.Nat.{add-zero, zero-mul}
use native.Mathlib.Omega.{arith}
use lib.ListN.{take, drop}
use Rattle.columnar.specs.Types.{width, Plain, fixed, string, Ty, t_plain, t_view, t_list_view, t_list, t_sparse, t_dense, t_run_end, t_dictionary}
use Rattle.columnar.specs.Array.{Array, item}
use Rattle.columnar.specs.Plain.{PlainBody}
use Rattle.columnar.specs.Reading.{Body, Column, masks}
use Rattle.model.specs.Try.{Try, done, then, after}
use Rattle.model.specs.Mutable.{Mutable, grow, extend_node}
use Rattle.model.specs.Primitive.{plain_extend}
use Rattle.model.specs.Unions.{Sparses, in_order, sparse_with}
use Rattle.model.specs.Transform.{Grown, Destination, extend_data, extend}
use Rattle.model.proofs.Names.{counted}

grow_nothing : (m : Bool) (b : Option (List Bool)) → grow m [] b ≡ b
grow_nothing m none = refl
grow_nothing true (some l) = ap some (append-nil l)
grow_nothing false (some l) = refl

counts_nothing : (b : Option (List Bool)) (c : ℕ) → c + counted b 0 ≡ c
counts_nothing none c = add-zero c
counts_nothing (some l) c = add-zero c

node_none : {P D : Type 0} (m : Bool) (f : (ℕ → P) → ℕ → ℕ → ℕ → ℕ → D → Try D) (xs : ℕ → Array P) (j a : ℕ) (d : Mutable D)
    → f (λ i. (xs i).body) j ((xs j).off + a) 0 d.len d.«data» ≡ done d.«data» → extend_node m f xs j a 0 d ≡ done d
node_none {P} {D} m f xs j a d e = rw (e, add-zero d.len, counts_nothing d.bits d.null_count, grow_nothing m d.bits)

plain_none : (p : Plain) (s : PlainBody p) (a l : ℕ) (d : PlainBody p) → plain_extend p s a 0 l d ≡ done d
plain_none (fixed k) s a l d = rw zero-mul (ap done (append-nil d))
plain_none (string w) s a l d =
    let o : ℕ → ℕ = item w s.offsets in
    let z : o (a + 0) - o a ≡ 0 = rw add-zero (omega arith) in
    rw (z, append-nil d.offsets, append-nil d.chars)

in_order_none : {D : ℕ → Type 0} {A : Type 0} (f : (c : ℕ) → Try (Mutable (D c))) (k : (c : ℕ) → Mutable (D c)) → ((c : ℕ) → f c ≡ done (k c)) → (ids : List ℕ) (x : A) → in_order f ids x ≡ done x
in_order_none f k h [] x = refl
in_order_none f k h (c ∷ cs) x = rw (h c) (in_order_none f k h cs x)

sparse_none : {D : ℕ → Type 0} (ids : List ℕ) (f : (c : ℕ) → Try (Mutable (D c))) (d : Sparses D) → ((c : ℕ) → f c ≡ done (d.children c)) → sparse_with ids f [] d ≡ done d
sparse_none ids f d h =
    in_order_none f d.children h ids _
    ∙ ap₂ (λ x y. done (record { buffer1 = x; children = y })) (append-nil d.buffer1) (fun_ext (λ c. ap (λ t. after t (d.children c)) (h c)))

data_none : (t : Ty) (m : ℕ) (ss : ℕ → Body t) (j a l : ℕ) (d : Grown t) → extend_data t m ss j a 0 l d ≡ done d
data_none (t_plain p) m ss j a l d = plain_none p (ss j) a l d
data_none t_view m ss j a l d = ap done (append-nil d)
data_none (t_list_view w t) m ss j a l d = refl
data_none (t_list w t) m ss j a l d = refl
data_none (t_sparse ids nullable f) m ss j a l d =
    sparse_none ids _ d (λ c. node_none (masks (f c)) (extend_data (f c) m) (λ i. (ss i).children c) j a (d.children c) (data_none (f c) m (λ i. ((ss i).children c).body) j _ _ _))
data_none (t_dense ids nullable f) m ss j a l d = refl
data_none (t_run_end w t) m ss j a l d = refl
data_none (t_dictionary k p) m ss j a l d = ap done (append-nil d)

-- A COPY OF NO ROWS ADDS NOTHING
pub copy_none : (t : Ty) (m : ℕ) (ss : ℕ → Column t) (j a : ℕ) (d : Destination t) → extend t m ss j a 0 d ≡ done d
copy_none t m ss j a d = node_none (masks t) (extend_data t m) ss j a d (data_none t m (λ i. (ss i).body) j _ _ _)
