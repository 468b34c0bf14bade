-- The ids of a union's format: distinct and small, each with a field of its own. Assumes nothing.
use mathlib.Core.Path.{◌≡◌, refl, ap, sym, subst, ◌∙◌}
use mathlib.Core.Bool.{Bool, true, false, not, cond, ◌&&◌, ◌||◌, and-eq-true_iff, false≢true, or-true}
use mathlib.Core.Option.{Option, none, some}
use mathlib.Core.List.{List, [], ◌∷◌, map, Memᴰ}
use Prim.Native.Nat.{ℕ, zero, suc, ◌+◌, ◌<◌}
use lib.ListN.{length, take, drop}
use native.Mathlib.Omega.{arith}
use lib.Dec.{leb, eqb}
use borrow.Author.Tests.{leb-true, eq-eqb, ne_eqb, not-true}
use Rattle.columnar.specs.Formed.{Ids}
use Rattle.schema.specs.formats.Code.{is_union, code_of}
use Rattle.schema.specs.union_ids.Ids.{distinct, allowed, id_of, pieces, id_list, ids_at}
use Rattle.array_data.specs.Typed.{field_of}
use Rattle.columnar.specs.Test.{member}
use Rattle.schema.proofs.union_ids.Laws.{small}
use Rattle.array_data.proofs.Names.{ids_or}

pub cond_yes : {A : Type 0} (b : Bool) (x y : A) → b ≡ true → cond b x y ≡ x
cond_yes true x y h = refl
cond_yes false x y h = absurd (false≢true h)

pub cond_no : {A : Type 0} (b : Bool) (x y : A) → b ≡ false → cond b x y ≡ y
cond_no true x y h = absurd (false≢true (sym h))
cond_no false x y h = refl

pub both : (a b : Bool) → a && b ≡ true → (a ≡ true) × (b ≡ true)
both a b h = (and-eq-true_iff a b).0 h

-- ---- a format's ids are distinct and at most 127

mem_member : (ids : List ℕ) (c : ℕ) → Memᴰ c ids → member c ids ≡ true
mem_member (d ∷ ds) c (Memᴰ.head e) = ap (λ b. b || member c ds) (eq-eqb c d e)
mem_member (d ∷ ds) c (Memᴰ.tail q) = ap (λ b. eqb c d || b) (mem_member ds c q) ∙ or-true (eqb c d)
mem_member [] c x' = elim x' [ ]

ids_of_lem : (ids : List ℕ) → small ids ≡ true → distinct ids ≡ true → Ids ids
unfolding distinct
ids_of_lem [] s d = tt
ids_of_lem (c ∷ cs) s d =
    let p = both (leb c 127) (small cs) s in
    let q = both (not (member c cs)) (distinct cs) d in
    let top = leb-true c 127 p.0 in
    (omega arith, λ m. false≢true (sym (not-true (member c cs) q.0) ∙ mem_member cs c m), ids_of_lem cs p.1 q.1)

allowed_by : (ids : List ℕ) (b : Bool) → (b ≡ true → Ids ids) → Ids (ids_or (cond b (some ids) none))
allowed_by ids true h = h refl
allowed_by ids false h = tt

allowed_ids : (ids : List ℕ) → Ids (ids_or (allowed ids))
unfolding allowed
allowed_ids ids =
    allowed_by ids (small ids && distinct ids && leb (length ids) 16)
    (λ h. let p = both (small ids) (distinct ids) (both (small ids && distinct ids) (leb (length ids) 16) h).0 in ids_of_lem ids p.0 p.1)

list_ids : (s : List ℕ) → Ids (ids_or (id_list s))
list_ids [] = tt
list_ids (b ∷ s) = allowed_ids (map id_of (pieces (b ∷ s)))

ids_cond : (b : Bool) (o : Option (List ℕ)) → Ids (ids_or o) → Ids (ids_or (cond b o none))
ids_cond true o h = h
ids_cond false o h = tt

pub ids_formed : (s : List ℕ) (at len : ℕ) → Ids (ids_or (ids_at s at len))
ids_formed s at len =
    let t = take len (drop at s) in
    ids_cond (leb (at + len) (length s)) _ (ids_cond (is_union (code_of t)) (id_list (drop 4 t)) (list_ids (drop 4 t)))

-- ---- ids and fields

-- a declared id's field is one of the children
pub field_in_lem : (ids : List ℕ) (c : ℕ) → Memᴰ c ids → field_of ids c < length ids
field_in_lem (d ∷ ds) c (Memᴰ.head e) =
    let z = cond_yes (eqb c d) 0 (suc (field_of ds c)) (eq-eqb c d e) in
    omega arith
field_in_lem (d ∷ ds) c (Memᴰ.tail q) = go (eqb c d) (field_in_lem ds c q)
  where
    go : (b : Bool) → field_of ds c < length ds → cond b 0 (suc (field_of ds c)) < suc (length ds)
    go true h = omega arith
    go false h = omega arith
field_in_lem [] c x' = elim x' [ ]

-- each field has a declared id
pub record FieldId (ids : List ℕ) (k : ℕ) : Type 0 where
  pub id : ℕ
  pub declared : Memᴰ id ids
  pub field : field_of ids id ≡ k

pub field_id : (ids : List ℕ) → Ids ids → (k : ℕ) → k < length ids → FieldId ids k
field_id [] h k l = absurd (omega arith)
field_id (d ∷ ds) h zero l = record { id = d; declared = Memᴰ.head refl; field = cond_yes (eqb d d) 0 (suc (field_of ds d)) (eq-eqb d d refl) }
field_id (d ∷ ds) h (suc k) l =
    let r = field_id ds h.2 k (omega arith) in
    let other = ne_eqb r.id d (λ e. h.1 (subst (λ z. Memᴰ z ds) e r.declared)) in
    record { id = r.id; declared = Memᴰ.tail r.declared; field = cond_no (eqb r.id d) 0 (suc (field_of ds r.id)) other ∙ ap suc r.field }
