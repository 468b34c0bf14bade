-- Types that differ only in "the widths named" (W13): those of byte strings, list-views, lists, run ends and keys, "these between any
-- integer formats". Assumes nothing.
use Rattle.std.specs.Prelude.{◌≡◌, Bool, List, ℕ, T}
use Rattle.columnar.specs.Types.{Number, Plain, fixed, string, Ty, t_plain, t_view, t_list_view, t_list, t_sparse, t_dense, t_run_end, t_dictionary}
use Rattle.columnar.specs.Wider.{integer, Declared}

-- numbers stay as they are
pub data PlainWidths : Plain → Plain → Type 0 where
  s_fixed : (n : Number) → PlainWidths (fixed n) (fixed n)
  s_string : (w w' : ℕ) → PlainWidths (string w) (string w')

-- the same tree, ids and nullable flags
pub data Widths : Ty → Ty → Type 0 where
  s_plain : (p p' : Plain) → PlainWidths p p' → Widths (t_plain p) (t_plain p')
  s_view : Widths t_view t_view
  s_list_view : (w w' : ℕ) (t t' : Ty) → Widths t t' → Widths (t_list_view w t) (t_list_view w' t')
  s_list : (w w' : ℕ) (t t' : Ty) → Widths t t' → Widths (t_list w t) (t_list w' t')
  s_sparse : (ids : List ℕ) (nullable nullable' : ℕ → Bool) (f f' : ℕ → Ty) → ((c : ℕ) → Declared ids c → nullable c ≡ nullable' c)
      → ((c : ℕ) → Declared ids c → Widths (f c) (f' c)) → Widths (t_sparse ids nullable f) (t_sparse ids nullable' f')
  s_dense : (ids : List ℕ) (nullable nullable' : ℕ → Bool) (f f' : ℕ → Ty) → ((c : ℕ) → Declared ids c → nullable c ≡ nullable' c)
      → ((c : ℕ) → Declared ids c → Widths (f c) (f' c)) → Widths (t_dense ids nullable f) (t_dense ids nullable' f')
  s_run_end : (w w' : ℕ) (t t' : Ty) → Widths t t' → Widths (t_run_end w t) (t_run_end w' t')
  s_dictionary : (k k' : Number) (p p' : Plain) → T (integer k) → T (integer k') → PlainWidths p p' → Widths (t_dictionary k p) (t_dictionary k' p')
