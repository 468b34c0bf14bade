-- Byte strings: the walk does what the model does. It tests the last new offset, the model each one. Assumes nothing.
use mathlib.Core.Path.{◌≡◌, refl, sym, ap, ◌∙◌}
use mathlib.Core.Bool.{Bool, true, false}
use mathlib.Core.List.{List, [], ◌++◌, append-nil}
use Prim.Native.Nat.{ℕ, zero, suc, ◌+◌, ◌-◌, ◌*◌, ◌≤◌, ◌<◌}
use native.Mathlib.Nat.{add-zero}
use native.Mathlib.Omega.{arith}
use lib.ListN.{length, take, drop, length-append, length-drop}
use lib.Seq.{length-take-le}
use lib.Dec.{leb, ltb}
use borrow.Author.Tests.{ltb-true, ltb-false, le-leb, ne_eqb}
use Rattle.number.specs.Number.{encode, entry}
use Rattle.columnar.specs.Row.{seg}
use Rattle.columnar.specs.Types.{half, string, t_plain}
use Rattle.columnar.specs.Array.{item}
use Rattle.columnar.specs.Entries.{encodes}
use Rattle.columnar.specs.Plain.{Text}
use Rattle.columnar.specs.Reading.{Column}
use Rattle.utils.specs.Offsets.{moved, repeated}
use Rattle.utils.specs.Extension.{over_at, extended}
use Rattle.utils.proofs.TryExtendOffsets.{over_is, fits_is}
use Rattle.model.specs.Try.{done, then, guard}
use Rattle.model.specs.Primitive.{plain_extend}
use Rattle.model.proofs.TextLaw.{new_offsets_lem}
use Rattle.model.proofs.Nodes.{TextFine}
use Rattle.walk.specs.State.{Join, code_of, end_of, bytes_of, rows, bytes, set_bytes, place, rows_in}
use Rattle.walk.specs.Log.{put, fail}
use Rattle.walk.specs.Copy.{Walk, copy_data}
use Rattle.walk.specs.Nulls.{NullWalk, null_data}
use Rattle.walk.specs.Leaves.{put_string, put_extended, null_string}
use Rattle.refinement.specs.walk_is_model.Memory.{Memory, put_in}
use Rattle.refinement.specs.walk_is_model.Holds.{HoldsPlain}
use Rattle.refinement.specs.walk_is_model.Lent.{First, Second}
use Rattle.refinement.proofs.walk_is_model.Goes.{Goes, over, goes_done, goes_need, goes_wrote}
use Rattle.refinement.proofs.walk_is_model.Counters.{bytes_set}
use Rattle.refinement.proofs.walk_is_model.Owed.{DataKept, Given, CopiesData, FillsData}
use Rattle.refinement.proofs.walk_is_model.Codes.{string_apart}
use Rattle.refinement.proofs.walk_is_model.Parts.{part_length, part_cut, rows_in_lem}
use Rattle.refinement.proofs.walk_is_model.Offsets.{Rows, rows_of, first_is, first_below, never_falls_lem, last_is, new_are}
use Rattle.refinement.proofs.walk_is_model.Entries.{repeated_pieces}
use Rattle.refinement.proofs.walk_is_model.Writes.{goes_write, put_own, put_beside, data_put, data_none, data_then, data_bytes}
use Rattle.walk.proofs.Offsets.{string_is}

module _ (x : Join) (i w slot n : ℕ) (s : Text) (p : First x i s.offsets) (p2 : Second x i s.chars) (r : Rows w s.offsets (length s.chars) slot n) where
  abbrev o : ℕ → ℕ
  o k = item w s.offsets k

  abbrev from : ℕ
  from = place x i 3 + w * slot

  abbrev most : ℕ
  most = length s.chars

  -- the bytes
  copied : take (o (slot + n) - o slot) (drop (place x i 5 + o slot) x.body) ≡ take (o (slot + n) - o slot) (drop (o slot) s.chars)
  copied = sym (part_cut p2 (o (slot + n) - o slot) (o slot) (omega (arith, first_below x i w slot n s.offsets most p r, r.within, part_length p2)))

  module _ (d : Text) (l : ℕ) (fine : TextFine w d l) (c : List ℕ) (long : length c ≡ 96) (small : i < 32) (e : ℕ) (span : i < e) (μ : Memory) (at_row : rows c i ≡ l)
      (h : HoldsPlain x.plan (string w) i d c μ) where
    abbrev Wanted : Text → List ℕ → Memory → Type 0
    Wanted g c' μ' = HoldsPlain x.plan (string w) i g c' μ' × DataKept i e c c' μ μ'

    abbrev more : ℕ
    more = o (slot + n) - o slot

    abbrev new_text : Text
    new_text = record { offsets = d.offsets ++ encodes w (seg (λ k. bytes c i + (o (slot + k) - o slot)) 1 n); chars = d.chars ++ take more (drop (o slot) s.chars) }

    -- offsets, bytes and their count, where the last new offset fits
    put_goes : bytes c i + more < half w → Goes μ Wanted (done new_text) (put_string x i w from n (moved w x.body from (bytes c i) n) (entry w x.body from 0) c)
    unfolding put_string
    put_goes fits =
        let os = encodes w (seg (λ k. bytes c i + (o (slot + k) - o slot)) 1 n) in
        let bs = take more (drop (o slot) s.chars) in
        let μ1 = put_in i 1 os μ in
        let z : bytes c i + more - bytes c i ≡ more = omega arith in
        let y : length (d.chars ++ bs) ≡ bytes c i + more
        = length-append d.chars bs ∙ rw (length-take-le more (drop (o slot) s.chars) (rw length-drop (omega (arith, r.within)))) (omega (arith, h.2)) in
        rw (last_is x i w slot n s.offsets most p r (bytes c i), first_is x i w slot n s.offsets most p r, new_are x i w slot n s.offsets most p r (bytes c i) fits, z)
        (goes_need (leb (place x i 5 + o slot + more) (length x.body)) 12 c
        (le-leb (place x i 5 + o slot + more) (length x.body) (omega (arith, first_below x i w slot n s.offsets most p r, r.within, part_length p2, p2.inside)))
        (goes_wrote (put i 1 (suc (rows c i) * w) os) c _ (rw (h.0, at_row) (sym fine.offsets_are))
        (rw (z, copied)
        (goes_wrote (put i 2 (bytes c i) bs) c _ (rw (put_beside i 1 os μ 2 (λ t. omega (arith, t)), h.1) h.2)
        (goes_done new_text (set_bytes i (bytes c i + more) c) (
          (
            put_beside i 2 bs μ1 1 (λ t. omega (arith, t)) ∙ put_own i 1 os μ ∙ ap (◌++ os) h.0,
            put_own i 2 bs μ1 ∙ ap (◌++ bs) (put_beside i 1 os μ 2 (λ t. omega (arith, t)) ∙ h.1),
            bytes_set c long i small (bytes c i + more) ∙ sym y,
          ),
          data_then (data_put i 1 os μ c e span) (data_then (data_put i 2 bs μ1 c e span) (data_bytes i e (bytes c i + more) c (put_in i 2 bs μ1) span)),
        ))))))

    -- the model's test of each new offset is the walk's of the last
    rows_go : Goes μ Wanted (plain_extend (string w) s slot n l d) (put_extended x i w from n (extended w x.body from n (bytes c i)) c)
    unfolding over_at fail
    rows_go =
        rw (fine.last_is ∙ sym h.2, new_offsets_lem w s.offsets slot n (bytes c i) r.rises (omega (arith, h.2, fine.fits)))
        (go (ltb (bytes c i + more) (half w)) refl)
      where
        go : (b : Bool) → ltb (bytes c i + more) (half w) ≡ b
            → Goes μ Wanted
            (then (guard b 6 (done (encodes w (seg (λ k. bytes c i + (o (slot + k) - o slot)) 1 n)))) (λ os. done (record { offsets = d.offsets ++ os; chars = d.chars ++ take more (drop (o slot) s.chars) })))
            (put_extended x i w from n (extended w x.body from n (bytes c i)) c)
        go true t =
            let fits = ltb-true (bytes c i + more) (half w) t in
            rw (fits_is w x.body from n (bytes c i) (never_falls_lem x i w slot n s.offsets most p r) (omega arith) (omega (arith, last_is x i w slot n s.offsets most p r (bytes c i)))) (put_goes fits)
        go false t =
            let no = ltb-false (bytes c i + more) (half w) t in
            rw (over_is w x.body from n (bytes c i) (never_falls_lem x i w slot n s.offsets most p r) (omega (arith, h.2, fine.fits)) (omega (arith, last_is x i w slot n s.offsets most p r (bytes c i), fine.fits)))
            (over 6 (fail 6 c) refl (omega arith))

-- a copy of no rows
none_goes : (x : Join) (i e w slot : ℕ) (s d : Text) (l : ℕ) (c : List ℕ) (μ : Memory) → HoldsPlain x.plan (string w) i d c μ
    → Goes μ (λ g c' μ'. HoldsPlain x.plan (string w) i g c' μ' × DataKept i e c c' μ μ') (plain_extend (string w) s slot 0 l d) (Rattle.walk.specs.Log.done c)
none_goes x i e w slot s d l c μ h =
    let z : item w s.offsets (slot + 0) - item w s.offsets slot ≡ 0 = rw add-zero (omega arith) in
    rw z (goes_done (record { offsets = d.offsets ++ []; chars = d.chars ++ [] }) c (rw (append-nil d.offsets, append-nil d.chars) h, data_none i e c μ))

pub string_copies : (x : Join) (inner : Walk) (k w i m : ℕ) (ss : ℕ → Column (t_plain (string w))) → Given x (suc k) (t_plain (string w)) i m ss
    → CopiesData x inner (t_plain (string w)) i m ss
unfolding copy_data
string_copies x inner k w i m ss g slot zero d c μ lo hi f small long e h =
    rw (string_apart (code_of x.plan i) g.worded.3.0, g.worded.3.0, string_is x i (bytes_of x.plan i) slot 0 c)
    (none_goes x i (end_of x.plan i) w slot (ss x.source).body d.«data» d.len c μ h)
string_copies x inner k w i m ss g slot (suc n) d c μ lo hi f small long e h =
    let s = (ss x.source).body in
    let p = g.lent.body_is in
    let r = rows_of w s.offsets (length s.chars) (ss x.source).off (ss x.source).len slot (suc n) (g.obey x.source g.known).slots lo hi (omega arith) in
    rw (string_apart (code_of x.plan i) g.worded.3.0, g.worded.3.0, g.worded.3.1, string_is x i w slot (suc n) c, ne_eqb (suc n) 0 (λ t. omega (arith, t)))
    (goes_need (rows_in x (place x i 3) w slot (suc (suc n))) 12 c
    (rows_in_lem x (place x i 3) (place x i 4) s.offsets w slot (suc (suc n)) p.0 r.hold)
    (rows_go x i w slot (suc n) s p.0 p.1 r d.«data» d.len f.data_fine c long g.worded.0 (end_of x.plan i) g.worded.1 μ e h))

pub string_fills : (x : Join) (inner : NullWalk) (k w i m : ℕ) (ss : ℕ → Column (t_plain (string w))) → Given x (suc k) (t_plain (string w)) i m ss
    → FillsData x inner (t_plain (string w)) i m ss
unfolding null_data null_string
string_fills x inner k w i m ss g n d c μ p f t small long h =
    let a = h.data_are in
    let os = repeated w (bytes c i) n in
    rw (string_apart (code_of x.plan i) g.worded.3.0, g.worded.3.0, g.worded.3.1, f.data_fine.last_is ∙ sym a.2, repeated_pieces w (bytes c i) n)
    (goes_write _ (put i 1 (suc (rows c i) * w) os) c (rw (a.0, h.rows_are) (sym f.data_fine.offsets_are))
    ((put_own i 1 os μ ∙ ap (◌++ os) a.0, put_beside i 1 os μ 2 (λ t. omega (arith, t)) ∙ a.1, a.2), data_put i 1 os μ c (end_of x.plan i) g.worded.1))
