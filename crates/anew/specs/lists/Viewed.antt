-- A list column as a list-view column (W4). Assumes nothing.
use Rattle.std.specs.Prelude.{true, ℕ, suc, ◌-◌}
use Rattle.columnar.specs.Row.{seg}
use Rattle.columnar.specs.Types.{Ty, t_list_view, t_list}
use Rattle.columnar.specs.Array.{item}
use Rattle.columnar.specs.Entries.{encodes}
use Rattle.columnar.specs.List.{Listed}
use Rattle.columnar.specs.Reading.{Column}
use Rattle.anew.specs.lists.Laid.{laid}
use Rattle.anew.specs.lists.Named.{named}

module _ (w : ℕ) {P : Type 0} (b : Listed P) where
  -- slot i's offset
  abbrev pub offset_in : ℕ → ℕ
  offset_in i = item w b.offsets i

  -- slot i's size: the next offset less its own
  abbrev pub size_in : ℕ → ℕ
  size_in i = item w b.offsets (suc i) - item w b.offsets i

-- "List to list-view keeps the child, named in the source body without a part, and each row's offset and size, null rows included"
abbrev pub viewed : (w : ℕ) (t : Ty) → Column (t_list w t) → Column (t_list_view w t)
viewed w t x =
    laid true x 0 x.len
    (record {
      offsets = encodes w (seg (offset_in w x.body) x.off x.len);
      sizes = encodes w (seg (size_in w x.body) x.off x.len);
      child = named t x.body.child;
    })
