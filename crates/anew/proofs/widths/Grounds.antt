-- A conversion is refused with 6, 7 or 8 and no other ground. Assumes nothing.
use mathlib.Core.Path.{◌≡◌, refl, subst}
use mathlib.Core.Logic.{◌⊎◌, inl, inr}
use mathlib.Core.Bool.{Bool, true, false}
use mathlib.Core.List.{List, [], ◌∷◌, ◌++◌}
use Prim.Native.Nat.{ℕ}
use lib.Dec.{T}
use Rattle.columnar.specs.Row.{seg}
use Rattle.columnar.specs.Types.{half, Plain, Ty}
use Rattle.columnar.specs.Array.{item}
use Rattle.columnar.specs.Plain.{PlainBody}
use Rattle.columnar.specs.Reading.{Body, Column}
use Rattle.columnar.specs.Test.{member}
use Rattle.model.specs.Try.{stop}
use Rattle.anew.specs.widths.Widths.{PlainWidths, s_fixed, s_string, Widths, s_plain, s_view, s_list_view, s_list, s_sparse, s_dense, s_run_end, s_dictionary}
use Rattle.anew.specs.widths.Converted.{span_of, offsets_of, first_of, many_of, ends_of, pick}
use Rattle.anew.specs.widths.Fitting.{Demand, needs, gather, numbers_of, plain_numbers, numbers_in, converted}
use Rattle.anew.proofs.widths.Convert.{refused_first}

abbrev pub Ground : ℕ → Type 0
Ground g = (g ≡ 6) ⊎ ((g ≡ 7) ⊎ (g ≡ 8))

abbrev Grounded : List Demand → Type 0
Grounded [] = Unit {0}
Grounded (x ∷ l) = Ground x.refusal × Grounded l

needed : (g most : ℕ) (vs : List ℕ) → Ground g → Grounded (needs g most vs)
needed g most [] h = tt
needed g most (v ∷ vs) h = (h, needed g most vs h)

both : (l r : List Demand) → Grounded l → Grounded r → Grounded (l ++ r)
both [] r h k = k
both (x ∷ l) r h k = (h.0, both l r h.1 k)

gathered : (cs : List ℕ) (f : ℕ → List Demand) → ((c : ℕ) → Grounded (f c)) → Grounded (gather cs f)
gathered [] f h = tt
gathered (c ∷ cs) f h = both (f c) (gather cs f) (h c) (gathered cs f h)

chosen : (b : Bool) (f : T b → List Demand) → ((m : T b) → Grounded (f m)) → Grounded (pick b f [])
chosen true f h = h tt
chosen false f h = tt

of_one : (l r : List Demand) (x : Demand) → Grounded (l ++ (x ∷ r)) → Ground x.refusal
of_one [] r x h = h.0
of_one (y ∷ l) r x h = of_one l r x h.1

plain_grounds : (p p' : Plain) (d : PlainWidths p p') (b : PlainBody p) (s n : ℕ) → Grounded (plain_numbers d b s n)
plain_grounds p p' (s_fixed k) b s n = tt
plain_grounds p p' (s_string w w') b s n = needed 6 (half w') (offsets_of w b.offsets s n) (inl refl)

grounds : (t t' : Ty) (d : Widths t t') (b : Body t) (s n : ℕ) → Grounded (numbers_in d b s n)
grounds t t' (s_plain p p' d) b s n = plain_grounds p p' d b s n
grounds t t' s_view b s n = tt
grounds t t' (s_list_view w w' u u' d) b s n =
    let kid = numbers_of (numbers_in d) b.child 0 b.child.len in
    let sizes = needs 6 (half w') (seg (item w b.sizes) s n) in
    both (needs 6 (half w') (seg (item w b.offsets) s n)) (sizes ++ kid) (needed 6 (half w') (seg (item w b.offsets) s n) (inl refl))
    (both sizes kid (needed 6 (half w') (seg (item w b.sizes) s n) (inl refl)) (grounds u u' d b.child.body _ b.child.len))
grounds t t' (s_list w w' u u' d) b s n =
    both (needs 6 (half w') (offsets_of w b.offsets s n)) (numbers_of (numbers_in d) b.child (item w b.offsets s) (span_of w b.offsets s n))
    (needed 6 (half w') (offsets_of w b.offsets s n) (inl refl)) (grounds u u' d b.child.body _ (span_of w b.offsets s n))
grounds t t' (s_sparse ids nullable nullable' f f' e d) b s n =
    gathered ids (λ c. pick (member c ids) (λ m. numbers_of (numbers_in (d c m)) (b.children c) s n) [])
    (λ c. chosen (member c ids) (λ m. numbers_of (numbers_in (d c m)) (b.children c) s n) (λ m. grounds (f c) (f' c) (d c m) (b.children c).body _ n))
grounds t t' (s_dense ids nullable nullable' f f' e d) b s n =
    gathered ids (λ c. pick (member c ids) (λ m. numbers_of (numbers_in (d c m)) (b.children c) 0 (b.children c).len) [])
    (λ c. chosen (member c ids) (λ m. numbers_of (numbers_in (d c m)) (b.children c) 0 (b.children c).len) (λ m. grounds (f c) (f' c) (d c m) (b.children c).body _ (b.children c).len))
grounds t t' (s_run_end w w' u u' d) b s n =
    both (needs 7 (half w') (ends_of w b s n)) (numbers_of (numbers_in d) b.values (first_of w b s n) (many_of w b s n)) (needed 7 (half w') (ends_of w b s n) (inr (inl refl)))
    (grounds u u' d b.values.body _ (many_of w b s n))
grounds t t' (s_dictionary k k' p p' i i' d) b s n = (inr (inr refl), plain_grounds p p' d b.values.body _ b.values.len)

-- "WITH 6, 7 OR 8"
pub refused_with : (t t' : Ty) (d : Widths t t') (x : Column t) (g : ℕ) → converted t t' d x ≡ stop g → Ground g
refused_with t t' d x g e =
    let m = refused_first t t' d x g e in
    subst Ground m.ground_is (of_one m.before m.behind m.bad (subst Grounded m.split (grounds t t' d x.body _ x.len)))
