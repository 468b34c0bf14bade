-- A type that 01 calls wider is one that the converter widens to. Assumes nothing.
use Rattle.columnar.specs.Types.{Plain, Ty}
use Rattle.columnar.specs.Wider.{PlainWider, w_fixed, w_string, Wider, w_plain, w_view, w_list_view, w_list, w_sparse, w_dense, w_run_end, w_dictionary}
use Rattle.anew.specs.widths.Widths.{PlainWidths, s_fixed, s_string, Widths, s_plain, s_view, s_list_view, s_list, s_sparse, s_dense, s_run_end, s_dictionary}
use Rattle.anew.specs.widths.Back.{PlainWidening, Widening}

pub plain_widths : (p p' : Plain) → PlainWider p p' → (d : PlainWidths p p') × PlainWidening d
plain_widths p p' (w_fixed n) = (s_fixed n, tt)
plain_widths p p' (w_string w w' h) = (s_string w w', h)

pub widths : (t t' : Ty) → Wider t t' → (d : Widths t t') × Widening d
widths a b (w_plain {p} {p'} d) = let r = plain_widths p p' d in (s_plain p p' r.0, r.1)
widths a b w_view = (s_view, tt)
widths a b (w_list_view w w' {t} {t'} h d) = let r = widths t t' d in (s_list_view w w' t t' r.0, (h, r.1))
widths a b (w_list w w' {t} {t'} h d) = let r = widths t t' d in (s_list w w' t t' r.0, (h, r.1))
widths a b (w_sparse ids {nullable} {nullable'} {f} {f'} e d) =
    (s_sparse ids nullable nullable' f f' e (λ c m. (widths (f c) (f' c) (d c m)).0), λ c m. (widths (f c) (f' c) (d c m)).1)
widths a b (w_dense ids {nullable} {nullable'} {f} {f'} e d) =
    (s_dense ids nullable nullable' f f' e (λ c m. (widths (f c) (f' c) (d c m)).0), λ c m. (widths (f c) (f' c) (d c m)).1)
widths a b (w_run_end w w' {t} {t'} h d) = let r = widths t t' d in (s_run_end w w' t t' r.0, (h, r.1))
widths a b (w_dictionary k k' {p} {p'} kk d) = let r = plain_widths p p' d in (s_dictionary k k' p p' kk.key kk.key' r.0, (kk.reach, r.1))
