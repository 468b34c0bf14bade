-- The walk that writes a column in other widths: every node once, in tree order, each of its buffers by one write; 6, 7 and 8 as it meets them
-- (02, W13). Assumes nothing.
use Rattle.std.specs.Prelude.{Bool, true, cond, ◌&&◌, List, [], ◌∷◌, map, ℕ, zero, suc, ◌+◌, ◌-◌, ◌*◌, take, drop, ltb, eqb}
use Rattle.columnar.specs.Row.{seg}
use Rattle.columnar.specs.Types.{width, half, limit, Plain, Ty}
use Rattle.columnar.specs.Array.{Array, item, ok}
use Rattle.columnar.specs.Entries.{encodes}
use Rattle.columnar.specs.Plain.{PlainBody}
use Rattle.columnar.specs.Reading.{Body, Column}
use Rattle.columnar.specs.Test.{member}
use Rattle.walk.specs.State.{keeps_of, add_rows, set_bytes}
use Rattle.walk.specs.Log.{Out, put, mask, done, wrote, need, next}
use Rattle.refinement.specs.walk_is_model.Holds.{flag, child_of}
use Rattle.anew.specs.widths.Widths.{PlainWidths, s_fixed, s_string, Widths, s_plain, s_view, s_list_view, s_list, s_sparse, s_dense, s_run_end, s_dictionary}
use Rattle.anew.specs.widths.Converted.{span_of, offsets_of, first_of, many_of, ends_of, pick}

-- all of them are below a limit
abbrev pub all_under : ℕ → List ℕ → Bool
all_under most [] = true
all_under most (v ∷ vs) = ltb v most && all_under most vs

-- the last run end of n rows is below a limit; no rows have none
abbrev pub end_fits : ℕ → ℕ → Bool
end_fits most zero = true
end_fits most (suc n) = ltb (suc n) most

-- one field after another
abbrev pub fields_walk : List ℕ → (ℕ → List ℕ → Out) → List ℕ → Out
fields_walk [] f c = done c
fields_walk (e ∷ es) f c = next (f e c) (λ c2. fields_walk es f c2)

-- the plan of the result
module _ (plan : List ℕ) where
  -- the bits of n slots from s on, where node i keeps nulls
  unfoldable pub bits_walk : ℕ → (ℕ → Bool) → ℕ → ℕ → List ℕ → Out
  bits_walk i okay s n c = cond (eqb (keeps_of plan i) 0) (done c) (wrote (mask i 0 (map flag (seg okay s n))) c)

  -- node i: n rows of x from a on, where f writes the buffers of their slots and the nodes below
  abbrev pub node_walk : {B : Type 0} → ℕ → ((ℕ → Bool) → B → ℕ → ℕ → List ℕ → Out) → Array B → ℕ → ℕ → List ℕ → Out
  node_walk i f x a n c = next (bits_walk i (ok x.valid) (x.off + a) n c) (λ c1. f (ok x.valid) x.body (x.off + a) n (add_rows i n c1))

  abbrev pub plain_walk : {p p' : Plain} → PlainWidths p p' → ℕ → (ℕ → Bool) → PlainBody p → ℕ → ℕ → List ℕ → Out
  plain_walk (s_fixed k) i okay b s n c = wrote (put i 1 0 (take (n * width k) (drop (s * width k) b))) c
  plain_walk (s_string w w') i okay b s n c =
      need (ltb (span_of w b.offsets s n) (half w')) 6 c
      (next (wrote (put i 1 0 (encodes w' (offsets_of w b.offsets s n))) c)
      (λ c1. next (wrote (put i 2 0 (take (span_of w b.offsets s n) (drop (item w b.offsets s) b.chars))) c1)
      (λ c2. done (set_bytes i (span_of w b.offsets s n) c2))))

  abbrev pub body_walk : {t t' : Ty} → Widths t t' → ℕ → (ℕ → Bool) → Body t → ℕ → ℕ → List ℕ → Out
  body_walk (s_plain p p' d) i okay b s n c = plain_walk d i okay b s n c
  body_walk s_view i okay b s n c = wrote (put i 1 0 (take (n * 16) (drop (s * 16) b.views))) c
  body_walk (s_list_view w w' t t' d) i okay b s n c =
      need (all_under (half w') (seg (item w b.offsets) s n)) 6 c
      (need (all_under (half w') (seg (item w b.sizes) s n)) 6 c
      (next (wrote (put i 1 0 (encodes w' (seg (item w b.offsets) s n))) c)
      (λ c1. next (wrote (put i 2 0 (encodes w' (seg (item w b.sizes) s n))) c1)
      (λ c2. node_walk (suc i) (body_walk d (suc i)) b.child 0 b.child.len c2))))
  body_walk (s_list w w' t t' d) i okay b s n c =
      need (ltb (span_of w b.offsets s n) (half w')) 6 c
      (next (wrote (put i 1 0 (encodes w' (offsets_of w b.offsets s n))) c)
      (λ c1. node_walk (suc i) (body_walk d (suc i)) b.child (item w b.offsets s) (span_of w b.offsets s n) c1))
  body_walk (s_sparse ids nullable nullable' f f' e d) i okay b s n c =
      next (wrote (put i 1 0 (take n (drop s b.ids))) c)
      (λ c1. fields_walk ids (λ q. pick (member q ids) (λ m. node_walk (child_of plan i q) (body_walk (d q m) (child_of plan i q)) (b.children q) s n) (λ c2. done c2)) c1)
  body_walk (s_dense ids nullable nullable' f f' e d) i okay b s n c =
      next (wrote (put i 1 0 (take n (drop s b.ids))) c)
      (λ c1. next (wrote (put i 2 0 (take (n * 4) (drop (s * 4) b.positions))) c1)
      (λ c2. fields_walk ids (λ q. pick (member q ids) (λ m. node_walk (child_of plan i q) (body_walk (d q m) (child_of plan i q)) (b.children q) 0 (b.children q).len) (λ c3. done c3)) c2))
  body_walk (s_run_end w w' t t' d) i okay b s n c =
      need (end_fits (half w') n) 7 c
      (next (wrote (put (suc i) 1 0 (encodes w' (ends_of w b s n))) c)
      (λ c1. node_walk (suc (suc i)) (body_walk d (suc (suc i))) b.values (first_of w b s n) (many_of w b s n) (add_rows (suc i) (many_of w b s n) c1)))
  body_walk (s_dictionary k k' p p' i' i'' d) i okay b s n c =
      need (ltb (b.values.len - 1) (limit k')) 8 c
      (next (wrote (put i 1 0 (encodes (width k') (seg (λ j. cond (okay j) (item (width k) b.keys j) 0) s n))) c)
      (λ c1. node_walk (suc i) (plain_walk d (suc i)) b.values 0 b.values.len c1))

  -- ALL NODES OF A COLUMN
  abbrev pub convert_walk : (t t' : Ty) → Widths t t' → Column t → List ℕ → Out
  convert_walk t t' d x c = node_walk 0 (body_walk d 0) x 0 x.len c
