-- The walk of the converter writes only bytes, and only into buffers that have parts. Assumes nothing.
use mathlib.Core.Path.{◌≡◌, refl, sym, subst}
use mathlib.Core.Bool.{Bool, true, false, cond}
use mathlib.Core.List.{List, [], ◌∷◌, ◌++◌, map, Memᴰ}
use Prim.Native.Nat.{ℕ, zero, suc, ◌+◌, ◌*◌}
use native.Mathlib.Omega.{arith}
use lib.Dec.{eqb}
use borrow.Author.Tests.{eqb-false}
use Rattle.number.specs.Number.{encode}
use Rattle.columnar.specs.Row.{seg}
use Rattle.columnar.specs.Types.{width, Plain, fixed, string, Ty, t_plain, t_view, t_list_view, t_list, t_sparse, t_dense, t_run_end, t_dictionary}
use Rattle.columnar.specs.Array.{Array, item, ok}
use Rattle.columnar.specs.Entries.{encodes}
use Rattle.columnar.specs.Plain.{PlainBody}
use Rattle.columnar.specs.Reading.{Body, Column}
use Rattle.columnar.specs.Test.{member}
use Rattle.columnar.proofs.WiderKinds.{declares}
use Rattle.array_data.specs.Tables.{Tables, part, place}
use Rattle.array_data.specs.Typed.{Tree, node_of, plain_body, body_of}
use Rattle.walk.specs.State.{keeps_of, add_rows, set_bytes}
use Rattle.walk.specs.Log.{Out, put, mask, wrote}
use Rattle.refinement.specs.walk_is_model.Holds.{flag, child_of}
use Rattle.refinement.specs.log_in_room.Room.{AllBelow}
use Rattle.refinement.proofs.log_in_room.Uses.{Uses, uses_done, uses_wrote, uses_cond, uses_need, uses_next}
use Rattle.refinement.proofs.log_in_room.Bytes.{bytes_encode, bytes_part}
use Rattle.anew.specs.widths.Widths.{PlainWidths, s_fixed, s_string, Widths, s_plain, s_view, s_list_view, s_list, s_sparse, s_dense, s_run_end, s_dictionary}
use Rattle.anew.specs.widths.Converted.{span_of, offsets_of, first_of, many_of, ends_of}
use Rattle.anew.proofs.widths.Fits.{picked}
use Rattle.width_walks.specs.Convert.{fields_walk, bits_walk, node_walk, plain_walk, body_walk, convert_walk}

-- ---- bytes

all_append : (s t : List ℕ) → AllBelow 256 s → AllBelow 256 t → AllBelow 256 (s ++ t)
all_append [] t h g k = g k
all_append (x ∷ s) t h g zero = h 0
all_append (x ∷ s) t h g (suc k) = all_append s t (λ j. h (suc j)) g k

bytes_encodes : (w : ℕ) (vs : List ℕ) → AllBelow 256 (encodes w vs)
bytes_encodes w [] = λ k. omega arith
bytes_encodes w (v ∷ vs) = all_append (encode w v) (encodes w vs) (bytes_encode w v) (bytes_encodes w vs)

bits_below : (l : List Bool) → AllBelow 2 (map flag l)
bits_below [] k = omega arith
bits_below (true ∷ l) zero = omega arith
bits_below (false ∷ l) zero = omega arith
bits_below (true ∷ l) (suc k) = bits_below l k
bits_below (false ∷ l) (suc k) = bits_below l k

-- the buffers of a column that are copied hold bytes
abbrev pub BytesPlain : (p : Plain) → PlainBody p → Type 0
BytesPlain (fixed k) b = AllBelow 256 b
BytesPlain (string w) b = AllBelow 256 b.chars

abbrev pub BytesIn : (t : Ty) → Body t → Type 0
BytesIn (t_plain p) b = BytesPlain p b
BytesIn t_view b = AllBelow 256 b.views
BytesIn (t_list_view w t) b = BytesIn t b.child.body
BytesIn (t_list w t) b = BytesIn t b.child.body
BytesIn (t_sparse ids nullable f) b = AllBelow 256 b.ids × ((c : ℕ) → Memᴰ c ids → BytesIn (f c) (b.children c).body)
BytesIn (t_dense ids nullable f) b = AllBelow 256 b.ids × AllBelow 256 b.positions × ((c : ℕ) → Memᴰ c ids → BytesIn (f c) (b.children c).body)
BytesIn (t_run_end w t) b = BytesIn t b.values.body
BytesIn (t_dictionary k p) b = BytesPlain p b.values.body

-- .. as those of lent tables do
module _ (tree : Tree) (x : Tables) (h : AllBelow 256 x.body) where
  buffer_bytes : (at size : ℕ) → AllBelow 256 (part x.body at size)
  buffer_bytes at size = bytes_part at size x.body h

  plain_bytes : (p : Plain) (i : ℕ) → BytesPlain p (plain_body tree x p i)
  plain_bytes (fixed k) i = buffer_bytes (place x i 3) (place x i 4)
  plain_bytes (string w) i = buffer_bytes (place x i 5) (place x i 6)

  pub bytes_at_lem : (u : Ty) (i : ℕ) → BytesIn u (body_of tree x u i)
  bytes_at_lem (t_plain p) i = plain_bytes p i
  bytes_at_lem t_view i = buffer_bytes (place x i 3) (place x i 4)
  bytes_at_lem (t_list_view w u) i = bytes_at_lem u (suc i)
  bytes_at_lem (t_list w u) i = bytes_at_lem u (suc i)
  bytes_at_lem (t_sparse ids nullable f) i = (buffer_bytes (place x i 3) (place x i 4), λ c m. bytes_at_lem (f c) (node_of tree i ids c))
  bytes_at_lem (t_dense ids nullable f) i = (buffer_bytes (place x i 3) (place x i 4), buffer_bytes (place x i 5) (place x i 6), λ c m. bytes_at_lem (f c) (node_of tree i ids c))
  bytes_at_lem (t_run_end w u) i = bytes_at_lem u (suc (suc i))
  bytes_at_lem (t_dictionary k p) i = plain_bytes p (suc i)

-- ---- parts

module _ (plan : List ℕ) (U : ℕ → ℕ → Type 0) where
  abbrev pub PartsPlain : Plain → ℕ → Type 0
  PartsPlain (fixed k) i = U i 1
  PartsPlain (string w) i = U i 1 × U i 2

  -- the validity of a node that keeps nulls
  abbrev pub PartsBits : ℕ → Type 0
  PartsBits i = (keeps_of plan i ≡ 0 → ⊥) → U i 0

  -- the buffers of the nodes of a type
  abbrev pub PartsIn : Ty → ℕ → Type 0
  PartsIn (t_plain p) i = PartsPlain p i
  PartsIn t_view i = U i 1
  PartsIn (t_list_view w t) i = U i 1 × U i 2 × PartsBits (suc i) × PartsIn t (suc i)
  PartsIn (t_list w t) i = U i 1 × PartsBits (suc i) × PartsIn t (suc i)
  PartsIn (t_sparse ids nullable f) i = U i 1 × ((c : ℕ) → Memᴰ c ids → PartsBits (child_of plan i c) × PartsIn (f c) (child_of plan i c))
  PartsIn (t_dense ids nullable f) i = U i 1 × U i 2 × ((c : ℕ) → Memᴰ c ids → PartsBits (child_of plan i c) × PartsIn (f c) (child_of plan i c))
  PartsIn (t_run_end w t) i = U (suc i) 1 × PartsBits (suc (suc i)) × PartsIn t (suc (suc i))
  PartsIn (t_dictionary k p) i = U i 1 × PartsBits (suc i) × PartsPlain p (suc i)

  node_uses : {B : Type 0} (i : ℕ) (f : (ℕ → Bool) → B → ℕ → ℕ → List ℕ → Out) (a : Array B) (from n : ℕ) (c : List ℕ) → PartsBits i
      → ((c1 : List ℕ) → Uses U (f (ok a.valid) a.body (a.off + from) n c1)) → Uses U (node_walk plan i f a from n c)
  unfolding bits_walk
  node_uses i f a from n c h g =
      uses_next U _ _
      (uses_cond U (eqb (keeps_of plan i) 0) _ _ (λ e. uses_done U c)
      (λ e. uses_wrote U (mask i 0 (map flag (seg (ok a.valid) (a.off + from) n))) c (h (eqb-false (keeps_of plan i) 0 e), bits_below (seg (ok a.valid) (a.off + from) n))))
      (λ c1. g (add_rows i n c1))

  plain_uses : (p p' : Plain) (d : PlainWidths p p') (i : ℕ) (okay : ℕ → Bool) (b : PlainBody p) (s n : ℕ) (c : List ℕ) → PartsPlain p' i → BytesPlain p b → Uses U (plain_walk plan d i okay b s n c)
  plain_uses p p' (s_fixed k) i okay b s n c u h = uses_wrote U _ c (u, omega arith, bytes_part (s * width k) (n * width k) b h)
  plain_uses p p' (s_string w w') i okay b s n c u h =
      uses_need U _ 6 c _
      (λ e. uses_next U _ _ (uses_wrote U _ c (u.0, omega arith, bytes_encodes w' (offsets_of w b.offsets s n)))
      (λ c1. uses_next U _ _ (uses_wrote U _ c1 (u.1, omega arith, bytes_part (item w b.offsets s) (span_of w b.offsets s n) b.chars h)) (λ c2. uses_done U (set_bytes i (span_of w b.offsets s n) c2))))

  fields_uses : (es : List ℕ) (f : ℕ → List ℕ → Out) → ((e : ℕ) → Memᴰ e es → (c : List ℕ) → Uses U (f e c)) → (c : List ℕ) → Uses U (fields_walk es f c)
  fields_uses [] f h c = uses_done U c
  fields_uses (e ∷ es) f h c = uses_next U (f e c) (λ c2. fields_walk es f c2) (h e (Memᴰ.head refl) c) (λ c2. fields_uses es f (λ q m. h q (Memᴰ.tail m)) c2)

  -- EVERY TYPE
  body_uses : (t t' : Ty) (d : Widths t t') (i : ℕ) (okay : ℕ → Bool) (b : Body t) (s n : ℕ) (c : List ℕ) → PartsIn t' i → BytesIn t b → Uses U (body_walk plan d i okay b s n c)
  body_uses t t' (s_plain p p' d) i okay b s n c u h = plain_uses p p' d i okay b s n c u h
  body_uses t t' s_view i okay b s n c u h = uses_wrote U _ c (u, omega arith, bytes_part (s * 16) (n * 16) b.views h)
  body_uses t t' (s_list_view w w' v v' d) i okay b s n c u h =
      uses_need U _ 6 c _ (λ e1. uses_need U _ 6 c _
      (λ e2. uses_next U _ _ (uses_wrote U _ c (u.0, omega arith, bytes_encodes w' (seg (item w b.offsets) s n)))
      (λ c1. uses_next U _ _ (uses_wrote U _ c1 (u.1, omega arith, bytes_encodes w' (seg (item w b.sizes) s n)))
      (λ c2. node_uses (suc i) (body_walk plan d (suc i)) b.child 0 b.child.len c2 u.2 (λ c3. body_uses v v' d (suc i) _ b.child.body _ b.child.len c3 u.3 h)))))
  body_uses t t' (s_list w w' v v' d) i okay b s n c u h =
      uses_need U _ 6 c _
      (λ e2. uses_next U _ _ (uses_wrote U _ c (u.0, omega arith, bytes_encodes w' (offsets_of w b.offsets s n)))
      (λ c2. node_uses (suc i) (body_walk plan d (suc i)) b.child (item w b.offsets s) (span_of w b.offsets s n) c2 u.1 (λ c3. body_uses v v' d (suc i) _ b.child.body _ (span_of w b.offsets s n) c3 u.2 h)))
  body_uses t t' (s_sparse ids nullable nullable' f f' q d) i okay b s n c u h =
      uses_next U _ _ (uses_wrote U _ c (u.0, omega arith, bytes_part s n b.ids h.0))
      (λ c1. fields_uses ids _
      (λ e m c2. subst (λ z. Uses U (z c2)) (sym (picked (member e ids) (λ y. node_walk plan (child_of plan i e) (body_walk plan (d e y) (child_of plan i e)) (b.children e) s n) (λ c3. Rattle.walk.specs.Log.done c3) (declares e ids m)))
      (node_uses (child_of plan i e) (body_walk plan (d e (declares e ids m)) (child_of plan i e)) (b.children e) s n c2 (u.1 e m).0
      (λ c3. body_uses (f e) (f' e) (d e (declares e ids m)) (child_of plan i e) _ (b.children e).body _ n c3 (u.1 e m).1 (h.1 e m)))) c1)
  body_uses t t' (s_dense ids nullable nullable' f f' q d) i okay b s n c u h =
      uses_next U _ _ (uses_wrote U _ c (u.0, omega arith, bytes_part s n b.ids h.0))
      (λ c1. uses_next U _ _ (uses_wrote U _ c1 (u.1, omega arith, bytes_part (s * 4) (n * 4) b.positions h.1))
      (λ c2. fields_uses ids _
      (λ e m c3. subst (λ z. Uses U (z c3)) (sym (picked (member e ids) (λ y. node_walk plan (child_of plan i e) (body_walk plan (d e y) (child_of plan i e)) (b.children e) 0 (b.children e).len) (λ c4. Rattle.walk.specs.Log.done c4) (declares e ids m)))
      (node_uses (child_of plan i e) (body_walk plan (d e (declares e ids m)) (child_of plan i e)) (b.children e) 0 (b.children e).len c3 (u.2 e m).0
      (λ c4. body_uses (f e) (f' e) (d e (declares e ids m)) (child_of plan i e) _ (b.children e).body _ (b.children e).len c4 (u.2 e m).1 (h.2 e m)))) c2))
  body_uses t t' (s_run_end w w' v v' d) i okay b s n c u h =
      uses_need U _ 7 c _
      (λ e. uses_next U _ _ (uses_wrote U _ c (u.0, omega arith, bytes_encodes w' (ends_of w b s n)))
      (λ c1. node_uses (suc (suc i)) (body_walk plan d (suc (suc i))) b.values (first_of w b s n) (many_of w b s n) (add_rows (suc i) (many_of w b s n) c1) u.1
      (λ c3. body_uses v v' d (suc (suc i)) _ b.values.body _ (many_of w b s n) c3 u.2 h)))
  body_uses t t' (s_dictionary k k' p p' z z' d) i okay b s n c u h =
      uses_need U _ 8 c _
      (λ e. uses_next U _ _ (uses_wrote U _ c (u.0, omega arith, bytes_encodes (width k') (seg (λ j. cond (okay j) (item (width k) b.keys j) 0) s n)))
      (λ c1. node_uses (suc i) (plain_walk plan d (suc i)) b.values 0 b.values.len c1 u.1 (λ c3. plain_uses p p' d (suc i) _ b.values.body _ b.values.len c3 u.2 h)))

  -- THE WHOLE WALK
  pub convert_uses : (t t' : Ty) (d : Widths t t') (v : Column t) (c : List ℕ) → PartsBits 0 → PartsIn t' 0 → BytesIn t v.body → Uses U (convert_walk plan t t' d v c)
  convert_uses t t' d v c g u h = node_uses 0 (body_walk plan d 0) v 0 v.len c g (λ c1. body_uses t t' d 0 _ v.body _ v.len c1 u h)
