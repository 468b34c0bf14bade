-- "Laid out as by one copy of the column's rows" (W13), where no list-view, dense union or dictionary is below. Assumes nothing.
use Rattle.std.specs.Prelude.{◌≡◌, refl, ℕ, ◌<◌, get_or}
use mathlib.Core.List.{Memᴰ}
use Rattle.columnar.specs.Types.{Plain, fixed, string, Ty, t_plain, t_view, t_list_view, t_list, t_sparse, t_dense, t_run_end, t_dictionary}
use Rattle.columnar.specs.Array.{Array}
use Rattle.columnar.specs.Wider.{Declared}
use Rattle.columnar.specs.Reading.{Body, Column}
use Rattle.model.specs.Sources.{EachView}
use Rattle.anew.specs.widths.Widths.{PlainWidths, s_fixed, s_string, Widths, s_plain, s_view, s_list, s_sparse, s_run_end}

-- every node is a stretch of rows of the node that it comes from
abbrev pub Straight : Ty → Type 0
Straight (t_plain p) = Unit {0}
Straight t_view = Unit {0}
Straight (t_list_view w t) = ⊥
Straight (t_list w t) = Straight t
Straight (t_sparse ids nullable f) = (c : ℕ) → Declared ids c → Straight (f c)
Straight (t_dense ids nullable f) = ⊥
Straight (t_run_end w t) = Straight t
Straight (t_dictionary k p) = ⊥

-- the same widths
abbrev pub same_plain : (p : Plain) → PlainWidths p p
same_plain (fixed n) = s_fixed n
same_plain (string w) = s_string w w

abbrev pub same : (t : Ty) → Straight t → Widths t t
same (t_plain p) = λ s. s_plain p p (same_plain p)
same t_view = λ s. s_view
same (t_list_view w t) = λ s. absurd s
same (t_list w t) = λ s. s_list w w t t (same t s)
same (t_sparse ids nullable f) = λ s. s_sparse ids nullable nullable f f (λ c m. refl) (λ c m. same (f c) (s c m))
same (t_dense ids nullable f) = λ s. absurd s
same (t_run_end w t) = λ s. s_run_end w w t t (same t s)
same (t_dictionary k p) = λ s. absurd s

-- two arrays that are the same, buffer by buffer; of a union's children those of its fields count
pub record SameNode {B : Type 0} (inner : B → B → Type 0) (x y : Array B) : Type 0 where
  pub same_len : x.len ≡ y.len
  pub same_off : x.off ≡ y.off
  pub same_valid : x.valid ≡ y.valid
  pub same_body : inner x.body y.body

abbrev pub SameBody : (t : Ty) → Body t → Body t → Type 0
SameBody (t_plain p) = λ b c. b ≡ c
SameBody t_view = λ b c. (b.views ≡ c.views) × (b.buffers ≡ c.buffers)
SameBody (t_list_view w t) = λ b c. (b.offsets ≡ c.offsets) × ((b.sizes ≡ c.sizes) × SameNode (SameBody t) b.child c.child)
SameBody (t_list w t) = λ b c. (b.offsets ≡ c.offsets) × SameNode (SameBody t) b.child c.child
SameBody (t_sparse ids nullable f) = λ b c. (b.ids ≡ c.ids) × ((e : ℕ) → Memᴰ e ids → SameNode (SameBody (f e)) (b.children e) (c.children e))
SameBody (t_dense ids nullable f) = λ b c.
    (b.ids ≡ c.ids) × ((b.positions ≡ c.positions) × ((e : ℕ) → Memᴰ e ids → SameNode (SameBody (f e)) (b.children e) (c.children e)))
SameBody (t_run_end w t) = λ b c. (b.ends ≡ c.ends) × SameNode (SameBody t) b.values c.values
SameBody (t_dictionary k p) = λ b c. (b.keys ≡ c.keys) × (b.values ≡ c.values)

abbrev pub SameColumn : (t : Ty) → Column t → Column t → Type 0
SameColumn t = SameNode (SameBody t)

-- the views of every node are bytes
abbrev pub ByteViews : (t : Ty) → Body t → Type 0
ByteViews = EachView (λ v. (i : ℕ) → get_or v.views i 0 < 256)
