-- One copy of a column's rows is never refused, where no list-view and no dense union is below. Assumes nothing.
use mathlib.Core.Path.{◌≡◌, refl, ap, ◌∙◌}
use mathlib.Core.Bool.{Bool, true}
use mathlib.Core.List.{List, [], ◌∷◌, Memᴰ}
use Prim.Native.Nat.{ℕ, zero, suc, ◌+◌, ◌-◌, ◌≤◌, ◌<◌}
use native.Mathlib.Omega.{arith}
use lib.ListN.{length}
use lib.Dec.{ltb}
use borrow.Author.Tests.{lt-ltb}
use Rattle.number.specs.Number.{encode}
use Rattle.columnar.specs.Types.{half, Plain, fixed, string, Ty, t_plain, t_view, t_list_view, t_list, t_sparse, t_dense, t_run_end, t_dictionary}
use Rattle.columnar.specs.Formed.{OffsetWidth, FormedPlain, Formed}
use Rattle.columnar.specs.Row.{seg}
use Rattle.columnar.specs.Array.{item, ok}
use Rattle.columnar.specs.Entries.{encodes}
use Rattle.columnar.specs.Plain.{PlainBody, OffsetsRule, PlainRule}
use Rattle.columnar.specs.RunEnd.{end_of, start_of}
use Rattle.columnar.specs.Reading.{Body, Column, SlotRule, Source}
use Rattle.model.specs.Try.{Try, done, then, guard}
use Rattle.model.specs.Mutable.{Mutable}
use Rattle.model.specs.Primitive.{new_offsets, plain_extend, plain_start}
use Rattle.model.specs.Unions.{in_order}
use Rattle.model.specs.Transform.{Grown, Destination, extend_data, extend}
use Rattle.model.proofs.Ends.{in_order_lem, last_run}
use Rattle.model.proofs.ListLaw.{item_entry}
use Rattle.model.proofs.TextLaw.{new_offsets_lem}
use Rattle.anew.specs.lists.Fresh.{fresh_data, fresh}
use Rattle.anew.specs.widths.Converted.{span_of, first_of, many_of}
use Rattle.anew.specs.widths.Layout.{Steady}
use Rattle.anew.proofs.widths.Cut.{cut}
use Rattle.anew.proofs.widths.Plain.{rising, first_least, last_within}
use Rattle.anew.proofs.widths.OneCopy.{half_pos}
use Rattle.anew.proofs.widths.Layout.{own_fits}

-- an answer that is no refusal
abbrev pub Done : {A : Type 0} → Try A → Type 0
Done {A} t = (x : A) × (t ≡ done x)

then_done : {A B : Type 0} (t : Try A) (f : A → Try B) → Done t → ((x : A) → Done (f x)) → Done (then t f)
then_done t f d g = let r = g d.0 in (r.0, ap (λ z. then z f) d.1 ∙ r.1)

guard_done : {A : Type 0} (b : Bool) (g : ℕ) (t : Try A) → b ≡ true → Done t → Done (guard b g t)
guard_done b g t e d = (d.0, ap (λ z. guard z g t) e ∙ d.1)

-- ---- offsets

offsets_done : (w : ℕ) (os : List ℕ) (most s n : ℕ) → OffsetWidth w → OffsetsRule w os most s n → Done (new_offsets w os s n (item w (encode w 0) 0))
offsets_done w os most s n g h =
    let z : item w (encode w 0) 0 ≡ 0 = item_entry w 0 (half_pos g) in
    let l : 0 + (item w os (s + n) - item w os s) < half w = omega (arith, own_fits w os most s n g h n (omega arith)) in
    let new = encodes w (seg (λ i. 0 + (item w os (s + i) - item w os s)) 1 n) in
    (new, ap (new_offsets w os s n) z ∙ new_offsets_lem w os s n 0 (rising w os most s n h) (half_pos g) ∙ ap (λ b. guard b 6 (done new)) (lt-ltb (0 + (item w os (s + n) - item w os s)) (half w) l))

plain_done : (p : Plain) → FormedPlain p → (okay : ℕ → Bool) (b : PlainBody p) (s n : ℕ) → PlainRule p okay b s n → Done (plain_extend p b s n 0 (plain_start p))
plain_done (fixed k) g okay b s n h = (_, refl)
plain_done (string w) g okay b s n h = then_done (new_offsets w b.offsets s n (item w (encode w 0) 0)) _ (offsets_done w b.offsets (length b.chars) s n g h) (λ os. (_, refl))

-- ---- children in order

all_done : {D : ℕ → Type 0} {A : Type 0} (f : (c : ℕ) → Try (Mutable (D c))) (ids : List ℕ) (x : A) → ((c : ℕ) → Memᴰ c ids → Done (f c)) → Done (in_order f ids x)
all_done f [] x h = (x, refl)
all_done f (c ∷ cs) x h = then_done (f c) (λ y. in_order f cs x) (h c (Memᴰ.head refl)) (λ y. all_done f cs x (λ b m. h b (Memᴰ.tail m)))

-- ---- a node

abbrev Copies : Ty → Type 0
Copies t = (okay : ℕ → Bool) (b : Body t) (s n : ℕ) → SlotRule t okay b s n → Done (extend_data t 1 (λ i. b) 0 s n 0 (fresh_data t b))

node_done : (t : Ty) → Copies t → (x : Column t) → Source t x → (a n : ℕ) → a + n ≤ x.len → Done (extend t 1 (λ j. x) 0 a n (fresh t x))
node_done t f x s a n q =
    then_done (extend_data t 1 (λ i. x.body) 0 (x.off + a) n 0 (fresh_data t x.body)) _
    (f (ok x.valid) x.body (x.off + a) n (cut t (ok x.valid) x.body x.off x.len a n q s.slots)) (λ d. (_, refl))

-- the rows of a stretch are fewer than its width's run ends can count
rows_fit : (w : ℕ) (e : ℕ → ℕ) (c s n : ℕ) → ((k : ℕ) → k < c → e k < half w) → s + suc n ≤ start_of e c → 0 + suc n < half w
rows_fit w e zero s n h l = absurd (omega arith)
rows_fit w e (suc c) s n h l = omega (arith, h c (omega arith))

-- ---- every type

copies : (t : Ty) → Steady t → Formed t → Copies t
copies (t_plain p) st g okay b s n h = plain_done p g okay b s n h
copies t_view st g okay b s n h = (_, refl)
copies (t_list_view w t) st g okay b s n h = absurd st
copies (t_list w t) st g okay b s zero h = (_, refl)
copies (t_list w t) st g okay b s (suc n) h =
    let o : ℕ → ℕ = item w b.offsets in
    then_done (new_offsets w b.offsets s (suc n) (item w (encode w 0) 0)) _ (offsets_done w b.offsets b.child.len s (suc n) g.0 h.offsets_rule_lem)
    (λ os. then_done (extend t 1 (λ j. b.child) 0 (o s) (span_of w b.offsets s (suc n)) (fresh t b.child)) _
    (node_done t (copies t st g.1) b.child h.child_rule (o s) (span_of w b.offsets s (suc n))
    (omega (arith, first_least w b.offsets b.child.len s (suc n) h.offsets_rule_lem (suc n) (omega arith), last_within w b.offsets b.child.len s (suc n) h.offsets_rule_lem))) (λ c. (_, refl)))
copies (t_sparse ids nullable f) st g okay b s n h =
    all_done (λ c. extend (f c) 1 (λ i. b.children c) 0 s n (fresh (f c) (b.children c))) ids _
    (λ c m. node_done (f c) (copies (f c) (st c m) (g.1 c m)) (b.children c) (h.child_rule c m) s n (h.long c m))
copies (t_dense ids nullable f) st g okay b s n h = absurd st
copies (t_run_end w t) st g okay b s zero h = (_, refl)
copies (t_run_end w t) st g okay b s (suc n) h =
    let many = many_of w b s (suc n) in
    let from = first_of w b s (suc n) in
    guard_done (ltb (0 + suc n) (half w)) 7 _ (lt-ltb _ _ (rows_fit w (end_of w b.ends) b.ends.len s n h.positive h.covers))
    (then_done (extend t 1 (λ j. b.values) 0 from many (fresh t b.values)) _
    (node_done t (copies t st g.1) b.values h.child_rule from many
    (omega (
      arith,
      h.as_many,
      in_order_lem (end_of w b.ends) b.ends.len s (suc n) h.rises (omega arith) h.covers,
      last_run (end_of w b.ends) b.ends.len s (suc n) h.rises (omega arith) h.covers,
    ))) (λ c. (_, refl)))
copies (t_dictionary k p) st g okay b s n h = (_, refl)

-- ONE COPY OF THE COLUMN'S ROWS IS NEVER REFUSED
pub copy_done : (t : Ty) → Steady t → Formed t → (x : Column t) → Source t x → Done (extend t 1 (λ j. x) 0 0 x.len (fresh t x))
copy_done t st g x s = node_done t (copies t st g) x s 0 x.len (omega arith)
