-- "Laid out as by one copy of the column's rows, save that a list-view or dense union keeps its children's rows, offsets, sizes and positions as
-- they are; keys under nulls become 0 and all entries are copied" (W13), in any widths: against what the model's copy is finished to, number by
-- number. Assumes nothing.
use Rattle.std.specs.Prelude.{◌≡◌, Bool, cond, ℕ, suc, ◌+◌, ◌*◌, ◌<◌, length, take, drop}
use mathlib.Core.List.{List, Memᴰ}
use Rattle.columnar.specs.Types.{width, Plain, Ty, t_plain, t_view, t_list_view, t_list, t_sparse, t_dense, t_run_end, t_dictionary}
use Rattle.columnar.specs.Array.{Array, item, ok}
use Rattle.columnar.specs.Plain.{PlainBody}
use Rattle.columnar.specs.Wider.{Declared}
use Rattle.columnar.specs.Reading.{Body, Column}
use Rattle.model.specs.Try.{done}
use Rattle.model.specs.Transform.{Destination, extend, into_builder}
use Rattle.anew.specs.lists.Fresh.{fresh}
use Rattle.anew.specs.widths.Widths.{PlainWidths, s_fixed, s_string, Widths, s_plain, s_view, s_list_view, s_list, s_sparse, s_dense, s_run_end, s_dictionary}
use Rattle.anew.specs.widths.Converted.{span_of, first_of, many_of}

-- m numbers of w bytes each, and the same numbers of w' bytes each: nothing before, between or behind them
pub record SameNumbers (w w' m : ℕ) (a b : List ℕ) : Type 0 where
  pub same_number : (i : ℕ) → i < m → item w' b i ≡ item w a i
  pub all_of_it : length a ≡ m * w
  pub no_more : length b ≡ m * w'

-- the numbers of the slots s .. s + m - 1, as they are
pub record KeptNumbers (w w' s m : ℕ) (f : ℕ → ℕ) (b : List ℕ) : Type 0 where
  pub kept_number : (i : ℕ) → i < m → item w' b i ≡ f (s + i)
  pub no_more : length b ≡ m * w'

-- two arrays of the same length, offset and validity, and bodies that `inner` relates
pub record LaidNode {B C : Type 0} (inner : B → C → Type 0) (y : Array B) (z : Array C) : Type 0 where
  pub same_len : z.len ≡ y.len
  pub same_off : z.off ≡ y.off
  pub same_valid : z.valid ≡ y.valid
  pub same_body : inner y.body z.body

-- n rows
abbrev pub LaidPlain : {p p' : Plain} → PlainWidths p p' → ℕ → PlainBody p → PlainBody p' → Type 0
LaidPlain (s_fixed k) n b c = c ≡ b
LaidPlain (s_string w w') n b c = SameNumbers w w' (suc n) b.offsets c.offsets × (c.chars ≡ b.chars)

-- src: the column's data, whose slots s .. s + n - 1 are copied; b: the copy; c: the result
abbrev pub LaidBody : {t t' : Ty} → Widths t t' → (ℕ → Bool) → Body t → ℕ → ℕ → Body t → Body t' → Type 0
LaidBody (s_plain p p' d) okay src s n b c = LaidPlain d n b c
LaidBody s_view okay src s n b c = (c.views ≡ b.views) × (c.buffers ≡ b.buffers)
LaidBody (s_list_view w w' t t' d) okay src s n b c =
    KeptNumbers w w' s n (item w src.offsets) c.offsets × KeptNumbers w w' s n (item w src.sizes) c.sizes
    × ((e : Destination t) → extend t 1 (λ j. src.child) 0 0 src.child.len (fresh t src.child) ≡ done e
    → LaidNode (LaidBody d (ok src.child.valid) src.child.body (src.child.off + 0) src.child.len) (into_builder t 1 (λ j. src.child) e) c.child)
LaidBody (s_list w w' t t' d) okay src s n b c =
    SameNumbers w w' (suc n) b.offsets c.offsets
    × LaidNode (LaidBody d (ok src.child.valid) src.child.body (src.child.off + item w src.offsets s) (span_of w src.offsets s n)) b.child c.child
LaidBody (s_sparse ids nullable nullable' f f' flags d) okay src s n b c =
    (c.ids ≡ b.ids)
    × ((e : ℕ) → Memᴰ e ids → (m : Declared ids e) → LaidNode (LaidBody (d e m) (ok (src.children e).valid) (src.children e).body ((src.children e).off + s) n) (b.children e) (c.children e))
LaidBody (s_dense ids nullable nullable' f f' flags d) okay src s n b c =
    (c.ids ≡ take n (drop s src.ids)) × (c.positions ≡ take (n * 4) (drop (s * 4) src.positions))
    × ((e : ℕ) → Memᴰ e ids → (m : Declared ids e) (y : Destination (f e)) → extend (f e) 1 (λ j. src.children e) 0 0 (src.children e).len (fresh (f e) (src.children e)) ≡ done y
    → LaidNode (LaidBody (d e m) (ok (src.children e).valid) (src.children e).body ((src.children e).off + 0) (src.children e).len) (into_builder (f e) 1 (λ j. src.children e) y) (c.children e))
LaidBody (s_run_end w w' t t' d) okay src s n b c =
    LaidNode (SameNumbers w w' (many_of w src s n)) b.ends c.ends
    × LaidNode (LaidBody d (ok src.values.valid) src.values.body (src.values.off + first_of w src s n) (many_of w src s n)) b.values c.values
LaidBody (s_dictionary k k' p p' i i' d) okay src s n b c =
    KeptNumbers (width k) (width k') s n (λ j. cond (okay j) (item (width k) src.keys j) 0) c.keys
    × ((e : Destination (t_plain p)) → extend (t_plain p) 1 (λ j. src.values) 0 0 src.values.len (fresh (t_plain p) src.values) ≡ done e
    → LaidNode (LaidPlain d src.values.len) (into_builder (t_plain p) 1 (λ j. src.values) e) c.values)

-- Z IS LAID OUT AS BY ONE COPY of the rows a .. a + n - 1 of x, in other widths
abbrev pub LaidAs : (t t' : Ty) → Widths t t' → Column t → ℕ → ℕ → Column t' → Type 0
LaidAs t t' d x a n z =
    (e : Destination t) → extend t 1 (λ j. x) 0 a n (fresh t x) ≡ done e → LaidNode (LaidBody d (ok x.valid) x.body (x.off + a) n) (into_builder t 1 (λ j. x) e) z

-- no list-view and no dense union, whose copies lay children out anew: the copy of such a column is never refused
abbrev pub Steady : Ty → Type 0
Steady (t_plain p) = Unit {0}
Steady t_view = Unit {0}
Steady (t_list_view w t) = ⊥
Steady (t_list w t) = Steady t
Steady (t_sparse ids nullable f) = (c : ℕ) → Memᴰ c ids → Steady (f c)
Steady (t_dense ids nullable f) = ⊥
Steady (t_run_end w t) = Steady t
Steady (t_dictionary k p) = Unit {0}
