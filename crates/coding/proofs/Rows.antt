-- The same rows under the names that code has for them. Assumes nothing.
use mathlib.Core.Path.{◌≡◌, refl, ap, ◌∙◌}
use mathlib.Core.Bool.{Bool}
use mathlib.Core.List.{List}
use Prim.Native.Nat.{ℕ, ◌+◌, ◌*◌, ◌-◌, ◌<◌, ◌^◌}
use lib.ListN.{length}
use Rattle.array_data.specs.Tables.{Tables, part, length_of, offset_of}
use Rattle.array_data.specs.Typed.{tables_from}
use Rattle.slot_reader.specs.run.Rows.{row_run}
use Rattle.aggregates.specs.stretches.Ends.{ends_of}
use Rattle.aggregates.specs.patterns.Parts.{Sized}
use Rattle.coding.specs.run_coding.Rows.{Held, last_rows}
use Rattle.coding.specs.Expand.{run_or}
use Rattle.coding.specs.run_coding.Writes.{Fits, runs_written, Holds, Ends, rows_from}

pub place_as : (p q : ℕ) {w w' : ℕ} → w' ≡ w → p + q * w < 2 ^ 64 → p + q * w' < 2 ^ 64
place_as p q e h = rw e h

module _ (body : List ℕ) (w : ℕ) (keep : Bool) (p q mask bit m : ℕ) {w' a b c : ℕ} (ew : w' ≡ w) (ea : a ≡ p + q * w') (eb : b ≡ mask) (ec : c ≡ bit) where
  pub held_as : Held body w keep (p + q * w) mask bit m → Held body w' keep a b c m
  held_as h = rw (ea, ew, eb, ec) h

  pub counted_as : {k : ℕ} → k ≡ length (last_rows body w' keep a b c m) → k ≡ length (last_rows body w keep (p + q * w) mask bit m)
  counted_as h = h ∙ rw (ea, ew, eb, ec) refl

  module _ (e ends values goal : ℕ) {e' f g h : ℕ} (ee : e' ≡ e) (ef : f ≡ ends) (eg : g ≡ values) (eh : h ≡ goal) where
    pub fits_as : (size : ℕ) → Fits w keep e ends values goal size (length (last_rows body w keep (p + q * w) mask bit m)) → Fits w' keep e' f g h size (length (last_rows body w' keep a b c m))
    fits_as size d = rw (ea, ew, eb, ec, ee, ef, eg, eh) d

    pub written_as : (room : List ℕ) {room2 : List ℕ} → room2 ≡ runs_written body w' keep a b c e' f g h 0 (last_rows body w' keep a b c m) room
        → room2 ≡ runs_written body w keep (p + q * w) mask bit e ends values goal 0 (last_rows body w keep (p + q * w) mask bit m) room
    written_as room d = d ∙ rw (ea, ew, eb, ec, ee, ef, eg, eh) refl

pub sized_as : {w u : ℕ} → w ≡ u → Sized u → Sized w
sized_as e h = rw e h

-- ---- runs

pub ends_as : (body : List ℕ) (e p q run x m count : ℕ) {e' a run' x' count' : ℕ} → e' ≡ e → a ≡ p + q * e' → run' ≡ run → x' ≡ x → count' ≡ count → Ends body e (p + q * e) run x m count → Ends body e' a run' x' m count'
ends_as body e p q run x m count ee ea er ex ec h = rw (ea, ee, er, ex, ec) h

pub values_as : (body : List ℕ) (w : ℕ) (keep : Bool) (p q mask bit m : ℕ) {w' a b c m' : ℕ} → w' ≡ w → a ≡ p + q * w' → b ≡ mask → c ≡ bit → m' ≡ m → Held body w keep (p + q * w) mask bit m → Held body w' keep a b c m'
values_as body w keep p q mask bit m ew ea eb ec em h = rw (ea, ew, eb, ec, em) h

pub holds_as : (w : ℕ) (keep : Bool) (values goal size m : ℕ) {w' f g : ℕ} → w' ≡ w → f ≡ values → g ≡ goal → Holds w keep values goal size m → Holds w' keep f g size m
holds_as w keep values goal size m ew ef eg h = rw (ew, ef, eg) h

pub rows_as : (body : List ℕ) (w : ℕ) (keep : Bool) (p q mask bit e p1 q1 x m values goal run : ℕ) (room : List ℕ) {w' a b c e' a1 x' f g run' : ℕ} {room2 : List ℕ} → w' ≡ w → a ≡ p + q * w' → b ≡ mask → c ≡ bit → e' ≡ e → a1 ≡ p1 + q1 * e' → x' ≡ x → f ≡ values
    → g ≡ goal → run' ≡ run → room2 ≡ rows_from body w' keep a b c e' a1 x' m f g m 0 run' room → room2 ≡ rows_from body w keep (p + q * w) mask bit e (p1 + q1 * e) x m values goal m 0 run room
rows_as body w keep p q mask bit e p1 q1 x m values goal run room ew ea eb ec ee e1 ex ef eg er h = h ∙ rw (ea, ew, eb, ec, e1, ee, ex, ef, eg, er) refl

pub no_rows : (body : List ℕ) (w : ℕ) (keep : Bool) (a b c e a1 x m values goal run : ℕ) (room : List ℕ) → m ≡ 0 → room ≡ rows_from body w keep a b c e a1 x m values goal m 0 run room
unfolding rows_from
no_rows body w keep a b c e a1 x m values goal run room h = rw h refl

-- the run that is looked up, by the bytes of a run end
pub run_as : (x : Tables) (first row : ℕ) {e e' : ℕ} → e' ≡ e
    → run_or (row_run (part x.body (ends_of (tables_from x first) e').start ((ends_of (tables_from x first) e').stop - (ends_of (tables_from x first) e').start)) (offset_of (tables_from x first) 0) (length_of (tables_from x first) 0) e' row)
    ≡ run_or (row_run (part x.body (ends_of (tables_from x first) e).start ((ends_of (tables_from x first) e).stop - (ends_of (tables_from x first) e).start)) (offset_of (tables_from x first) 0) (length_of (tables_from x first) 0) e row)
run_as x first row h =
    ap (λ z. run_or (row_run (part x.body (ends_of (tables_from x first) z).start ((ends_of (tables_from x first) z).stop - (ends_of (tables_from x first) z).start)) (offset_of (tables_from x first) 0) (length_of (tables_from x first) 0) z row)) h
