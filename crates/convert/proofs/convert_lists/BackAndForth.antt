-- BACK AND FORTH READS THE SAME (02, W4: "rows read the same on both sides"), over lent memory: the first result is lent again, from the node of its
-- type on, and turned back. Assumes nothing.
use mathlib.Core.Path.{◌≡◌, sym, ap, subst, ◌∙◌}
use mathlib.Core.List.{List}
use Prim.Native.Nat.{ℕ, suc}
use native.Mathlib.Omega.{arith}
use Rattle.columnar.specs.Types.{t_list_view, t_list}
use Rattle.columnar.specs.Reading.{read_all, Source}
use Rattle.schema.specs.formats.Code.{width_of}
use Rattle.schema.specs.Tree.{code_of}
use Rattle.array_data.specs.Tables.{Tables}
use Rattle.array_data.specs.Typed.{Tree, tables_from, column_of}
use Rattle.array_data.specs.type_tree.Lent.{tree_of}
use Rattle.refinement.specs.log_in_room.Room.{AllBelow}
use Rattle.columns.specs.Grounds.{column_ground}
use Rattle.refinement.specs.finishing.Shows.{Bodied}
use Rattle.convert.specs.convert_lists.ToList.{make_list}
use Rattle.convert.specs.convert_lists.ToView.{make_view}
use Rattle.convert.proofs.convert_lists.OneNode.{Likewise, of_list_view, of_list, likewise, likewise_rows}
use Rattle.convert.proofs.convert_lists.ListLent.{Due, width_same}
use Rattle.convert.proofs.convert_lists.ListLent as lentList
use Rattle.convert.proofs.convert_lists.ViewLent.{ViewDue}
use Rattle.convert.proofs.convert_lists.ViewLent as lentView
use Rattle.convert.proofs.convert_lists.ToList.{to_list_rows}
use Rattle.convert.proofs.convert_lists.ToList as to_list
use Rattle.convert.proofs.convert_lists.ToViewResult.{to_view_rows}
use Rattle.convert.proofs.convert_lists.ToViewResult as to_view

-- LIST, LIST-VIEW, LIST: z are the tables of the list-view, lent again
pub list_view_list : (formats schema : List ℕ) (x : Tables) (first m target : ℕ) (good : column_ground formats schema x first (suc m) ≡ 0) (due : ViewDue formats schema first (suc m) target (suc m))
    (parts plan counters room : List ℕ) (room_bytes : AllBelow 256 room) (passed : (make_view formats schema x first (suc m) target (suc m) parts plan counters room).refusal ≡ 0)
    (base : ℕ) (body : List ℕ) (bodied : Bodied body (to_view.lent formats schema x first m target good due parts plan counters room room_bytes passed) (to_view.answer formats schema x first m target good due parts plan counters room room_bytes passed).room base)
    (z : Tables) → tables_from z target ≡ to_view.tables_after formats schema x first m target good due parts plan counters room room_bytes passed base body bodied
    → (back : ℕ) (good' : column_ground formats schema z target (suc m) ≡ 0) (due' : Due formats schema target (suc m) back (suc m)) (parts' plan' counters' room' : List ℕ) (body-bytes' : AllBelow 256 z.body) (room-bytes' : AllBelow 256 room')
    (passed' : (make_list formats schema z target (suc m) back (suc m) parts' plan' counters' room').refusal ≡ 0) (base' : ℕ) (body' : List ℕ)
    (bodied' : Bodied body' (to_list.lent formats schema z target m back good' due' parts' plan' counters' room' body-bytes' room-bytes' passed') (to_list.answer formats schema z target m back good' due' parts' plan' counters' room' body-bytes' room-bytes' passed').room base')
    → let w = to_list.w formats schema z target m back good' due' in let t = to_list.t formats schema z target m back good' due' in
    read_all (t_list w t) (column_of (tree_of formats schema back (suc m)) (to_list.tables_after formats schema z target m back good' due' parts' plan' counters' room' body-bytes' room-bytes' passed' base' body' bodied') (t_list w t) 0)
    ≡ read_all (t_list (to_view.w formats schema x first m target good due) (to_view.t formats schema x first m target good due)) (to_view.v formats schema x first m target good due)
list_view_list formats schema x first m target good due parts plan counters room room_bytes passed base body bodied z same back good' due' parts' plan' counters' room' body-bytes' room-bytes' passed' base' body' bodied' =
    let Y = to_view.tables_after formats schema x first m target good due parts plan counters room room_bytes passed base body bodied in
    let there : Tree = tree_of formats schema back (suc m) in
    let here : Tree = tree_of formats schema target (suc m) in
    let w' = to_list.w formats schema z target m back good' due' in
    let t' = to_list.t formats schema z target m back good' due' in
    let w = to_view.w formats schema x first m target good due in
    let t = to_view.t formats schema x first m target good due in
    let wide : w' ≡ w = ap width_of due'.turned ∙ (width_same (code_of formats schema target 0) due'.of_view).1 in
    let kids : Likewise t' t = likewise there here (lentList.both_alike formats schema z target m back good' due') 7 1 (omega arith) (lentList.meant formats schema z target m back good' due').1 in
    let both : Likewise (t_list_view w' t') (t_list_view w t) = subst (λ k. Likewise (t_list_view w' t') (t_list_view k t)) wide (of_list_view w' kids) in
    let obey : Source (t_list_view w' t') (column_of here Y (t_list_view w' t') 0) = subst (λ y. Source (t_list_view w' t') (column_of here y (t_list_view w' t') 0)) same (lentList.column_good formats schema z target m back good' due') in
    to_list_rows formats schema z target m back good' due' parts' plan' counters' room' body-bytes' room-bytes' passed' base' body' bodied'
    ∙ ap (λ y. read_all (t_list_view w' t') (column_of here y (t_list_view w' t') 0)) same
    ∙ likewise_rows here Y (t_list_view w' t') (t_list_view w t) both 0 obey
    ∙ to_view_rows formats schema x first m target good due parts plan counters room room_bytes passed base body bodied

-- LIST-VIEW, LIST, LIST-VIEW: z are the tables of the list, lent again
pub view_list_view : (formats schema : List ℕ) (x : Tables) (first m target : ℕ) (good : column_ground formats schema x first (suc m) ≡ 0) (due : Due formats schema first (suc m) target (suc m))
    (parts plan counters room : List ℕ) (body_bytes : AllBelow 256 x.body) (room_bytes : AllBelow 256 room) (passed : (make_list formats schema x first (suc m) target (suc m) parts plan counters room).refusal ≡ 0)
    (base : ℕ) (body : List ℕ) (bodied : Bodied body (to_list.lent formats schema x first m target good due parts plan counters room body_bytes room_bytes passed) (to_list.answer formats schema x first m target good due parts plan counters room body_bytes room_bytes passed).room base)
    (z : Tables) → tables_from z target ≡ to_list.tables_after formats schema x first m target good due parts plan counters room body_bytes room_bytes passed base body bodied
    → (back : ℕ) (good' : column_ground formats schema z target (suc m) ≡ 0) (due' : ViewDue formats schema target (suc m) back (suc m)) (parts' plan' counters' room' : List ℕ) (room-bytes' : AllBelow 256 room')
    (passed' : (make_view formats schema z target (suc m) back (suc m) parts' plan' counters' room').refusal ≡ 0) (base' : ℕ) (body' : List ℕ)
    (bodied' : Bodied body' (to_view.lent formats schema z target m back good' due' parts' plan' counters' room' room-bytes' passed') (to_view.answer formats schema z target m back good' due' parts' plan' counters' room' room-bytes' passed').room base')
    → let w = to_view.w formats schema z target m back good' due' in let t = to_view.t formats schema z target m back good' due' in
    read_all (t_list_view w t) (column_of (tree_of formats schema back (suc m)) (to_view.tables_after formats schema z target m back good' due' parts' plan' counters' room' room-bytes' passed' base' body' bodied') (t_list_view w t) 0)
    ≡ read_all (t_list_view (to_list.w formats schema x first m target good due) (to_list.t formats schema x first m target good due)) (to_list.v formats schema x first m target good due)
view_list_view formats schema x first m target good due parts plan counters room body_bytes room_bytes passed base body bodied z same back good' due' parts' plan' counters' room' room-bytes' passed' base' body' bodied' =
    let Y = to_list.tables_after formats schema x first m target good due parts plan counters room body_bytes room_bytes passed base body bodied in
    let there : Tree = tree_of formats schema back (suc m) in
    let here : Tree = tree_of formats schema target (suc m) in
    let w' = to_view.w formats schema z target m back good' due' in
    let t' = to_view.t formats schema z target m back good' due' in
    let w = to_list.w formats schema x first m target good due in
    let t = to_list.t formats schema x first m target good due in
    let wide : w' ≡ w = sym (ap width_of (sym due'.turned) ∙ (lentView.codes formats schema z target m back good' due').1) in
    let kids : Likewise t' t = likewise there here (lentView.both_alike formats schema z target m back good' due') 7 1 (omega arith) (lentView.meant formats schema z target m back good' due').1 in
    let both : Likewise (t_list w' t') (t_list w t) = subst (λ k. Likewise (t_list w' t') (t_list k t)) wide (of_list w' kids) in
    let obey : Source (t_list w' t') (column_of here Y (t_list w' t') 0) = subst (λ y. Source (t_list w' t') (column_of here y (t_list w' t') 0)) same (lentView.column_good formats schema z target m back good' due') in
    to_view_rows formats schema z target m back good' due' parts' plan' counters' room' room-bytes' passed' base' body' bodied'
    ∙ ap (λ y. read_all (t_list w' t') (column_of here y (t_list w' t') 0)) same
    ∙ likewise_rows here Y (t_list w' t') (t_list w t) both 0 obey
    ∙ to_list_rows formats schema x first m target good due parts plan counters room body_bytes room_bytes passed base body bodied
