-- The tables of converted lists and list-views, by computation.
use mathlib.Core.Path.{◌≡◌, refl}
use mathlib.Core.Bool.{true}
use mathlib.Core.List.{map}
use Rattle.number.specs.Number.{number, encode}
use Rattle.columnar.specs.Types.{t_list_view, t_list}
use Rattle.columnar.specs.Array.{item, bit}
use Rattle.columnar.specs.Test.{test}
use Rattle.model.specs.Mutable.{pack}
use Rattle.anew.specs.lists.Viewed.{viewed}
use Rattle.anew.specs.lists.Listed.{listed}
use Rattle.anew.specs.lists.Examples.{to_views, to_lists}

pub lists_pass : map (λ e. test (t_list e.w e.type) e.column) to_views ≡ map (λ e. true) to_views
unfolding number encode item bit
lists_pass = refl

pub views_pass : map (λ e. test (t_list_view e.w e.type) e.column) to_lists ≡ map (λ e. true) to_lists
unfolding number encode item bit
views_pass = refl

-- A SLICED LIST with a null over a stretch, and no rows
pub views_are : map (λ e. record { w = e.w; type = e.type; column = e.column; result = viewed e.w e.type e.column }) to_views ≡ to_views
unfolding number encode item bit pack
views_are = refl

-- A SLICED LIST-VIEW with rows that overlap and a null over a stretch, a dictionary that is kept, 7 and 6
pub lists_are : map (λ e. record { w = e.w; type = e.type; column = e.column; result = listed e.w e.type e.column }) to_lists ≡ to_lists
unfolding number encode item bit pack
lists_are = refl
