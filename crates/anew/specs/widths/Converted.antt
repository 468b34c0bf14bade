-- A column in other widths (W13): every node is written once, from one stretch of its rows. Assumes nothing.
use Rattle.std.specs.Prelude.{Bool, true, false, cond, List, [], ℕ, zero, suc, ◌+◌, ◌-◌, ◌*◌, min, take, drop, T}
use Rattle.std.proofs.Math.Option.{none}
use Rattle.columnar.specs.Row.{seg}
use Rattle.columnar.specs.Types.{width, Plain, Ty, t_plain, t_view, t_list_view, t_list, t_sparse, t_dense, t_run_end, t_dictionary}
use Rattle.columnar.specs.Array.{Array, item, ok}
use Rattle.columnar.specs.Entries.{encodes}
use Rattle.columnar.specs.Plain.{PlainBody}
use Rattle.columnar.specs.RunEnd.{RunEnd, end_of}
use Rattle.columnar.specs.Reading.{Body, Column, masks}
use Rattle.columnar.specs.Test.{member}
use Rattle.model.specs.Primitive.{plain_start}
use Rattle.model.specs.Grounds.{first_run, run_count}
use Rattle.anew.specs.lists.Laid.{laid}
use Rattle.anew.specs.widths.Widths.{PlainWidths, s_fixed, s_string, Widths, s_plain, s_view, s_list_view, s_list, s_sparse, s_dense, s_run_end, s_dictionary}

-- ---- the numbers of a stretch: slots s .. s + n - 1

-- how many bytes or child rows it spans
abbrev pub span_of : ℕ → List ℕ → ℕ → ℕ → ℕ
span_of w os s n = item w os (s + n) - item w os s

-- its offsets, counted from the first of them: one more than its rows
abbrev pub offsets_of : ℕ → List ℕ → ℕ → ℕ → List ℕ
offsets_of w os s n = seg (λ i. item w os i - item w os s) s (suc n)

-- its first run and how many it touches; a stretch of no rows touches none
abbrev pub first_of : {P : Type 0} → ℕ → RunEnd P → ℕ → ℕ → ℕ
first_of w b s zero = 0
first_of w b s (suc n) = first_run w b s

abbrev pub many_of : {P : Type 0} → ℕ → RunEnd P → ℕ → ℕ → ℕ
many_of w b s zero = 0
many_of w b s (suc n) = run_count w b s (suc n)

-- its run ends, clipped as by a copy
abbrev pub ends_of : {P : Type 0} → ℕ → RunEnd P → ℕ → ℕ → List ℕ
ends_of w b s n = seg (λ k. min (end_of w b.ends k) (s + n) - s) (first_of w b s n) (many_of w b s n)

-- ---- bodies

-- the rows of x from a on, n of them, where f makes the body of their slots
abbrev pub node_as : {B C : Type 0} → Bool → ((ℕ → Bool) → B → ℕ → ℕ → C) → Array B → ℕ → ℕ → Array C
node_as masks f x a n = laid masks x a n (f (ok x.valid) x.body (x.off + a) n)

abbrev pub plain_as : {p p' : Plain} → PlainWidths p p' → (ℕ → Bool) → PlainBody p → ℕ → ℕ → PlainBody p'
plain_as (s_fixed k) okay b s n = take (n * width k) (drop (s * width k) b)
plain_as (s_string w w') okay b s n =
    record { offsets = encodes w' (offsets_of w b.offsets s n); chars = take (span_of w b.offsets s n) (drop (item w b.offsets s) b.chars) }

-- f where the test holds, else z
abbrev pub pick : {A : Type 0} (b : Bool) → (T b → A) → A → A
pick true f z = f tt
pick false f z = z

-- a column of no rows, for ids that no field has
abbrev pub none_of : {B : Type 0} → B → Array B
none_of b = record { len = 0; off = 0; valid = none; body = b }

abbrev pub blank : (t : Ty) → Body t
blank (t_plain p) = plain_start p
blank t_view = record { views = []; buffers = [] }
blank (t_list_view w t) = record { offsets = []; sizes = []; child = none_of (blank t) }
blank (t_list w t) = record { offsets = []; child = none_of (blank t) }
blank (t_sparse ids nullable f) = record { ids = []; children = λ c. none_of (blank (f c)) }
blank (t_dense ids nullable f) = record { ids = []; positions = []; children = λ c. none_of (blank (f c)) }
blank (t_run_end w t) = record { ends = none_of []; values = none_of (blank t) }
blank (t_dictionary k p) = record { keys = []; values = none_of (plain_start p); starts = [] }

-- "laid out as by one copy of the column's rows, save that a list-view or dense union keeps its children's rows, offsets, sizes and
-- positions as they are; keys under nulls become 0 and all entries are copied"
abbrev pub body_as : {t t' : Ty} → Widths t t' → (ℕ → Bool) → Body t → ℕ → ℕ → Body t'
body_as (s_plain p p' d) okay b s n = plain_as d okay b s n
body_as s_view okay b s n = record { views = take (n * 16) (drop (s * 16) b.views); buffers = b.buffers }
body_as (s_list_view w w' t t' d) okay b s n =
    record {
      offsets = encodes w' (seg (item w b.offsets) s n);
      sizes = encodes w' (seg (item w b.sizes) s n);
      child = node_as (masks t') (body_as d) b.child 0 b.child.len;
    }
body_as (s_list w w' t t' d) okay b s n =
    record { offsets = encodes w' (offsets_of w b.offsets s n); child = node_as (masks t') (body_as d) b.child (item w b.offsets s) (span_of w b.offsets s n) }
body_as (s_sparse ids nullable nullable' f f' e d) okay b s n =
    record {
      ids = take n (drop s b.ids);
      children = λ c. pick (member c ids) (λ m. node_as (masks (f' c)) (body_as (d c m)) (b.children c) s n) (none_of (blank (f' c)));
    }
body_as (s_dense ids nullable nullable' f f' e d) okay b s n =
    record {
      ids = take n (drop s b.ids);
      positions = take (n * 4) (drop (s * 4) b.positions);
      children = λ c. pick (member c ids) (λ m. node_as (masks (f' c)) (body_as (d c m)) (b.children c) 0 (b.children c).len) (none_of (blank (f' c)));
    }
body_as (s_run_end w w' t t' d) okay b s n =
    record {
      ends = record { len = many_of w b s n; off = 0; valid = none; body = encodes w' (ends_of w b s n) };
      values = node_as (masks t') (body_as d) b.values (first_of w b s n) (many_of w b s n);
    }
body_as (s_dictionary k k' p p' i i' d) okay b s n =
    record {
      keys = encodes (width k') (seg (λ j. cond (okay j) (item (width k) b.keys j) 0) s n);
      values = node_as true (plain_as d) b.values 0 b.values.len;
      starts = [];
    }

-- THE ROWS OF A COLUMN FROM a ON, n OF THEM, IN OTHER WIDTHS
abbrev pub column_as : (t t' : Ty) → Widths t t' → Column t → ℕ → ℕ → Column t'
column_as t t' d = node_as (masks t') (body_as d)
