-- The rows of two columns of f64 as slots of lent buffers: what the code walks over. Assumes nothing.
use Rattle.std.specs.Prelude.{◌≡◌, Bool, true, false, cond, List, ℕ, ◌+◌, ◌*◌, ◌-◌, ◌≤◌, ◌<◌, length, eqb}
use Rattle.std.proofs.Math.Option.{Option, none, some}
use Rattle.columnar.specs.Row.{Row, double, seg}
use Rattle.columnar.specs.Array.{item, ok, sight}
use Rattle.array_data.specs.Tables.{Tables, place, offset_of, valid_of, first_buffer}
use Rattle.frames.specs.declared.Mask.{Mask}
use Rattle.frames.specs.Frames.{Stop, counts}

-- a validity buffer, where the column has one
abbrev pub mask_of : Bool → List ℕ → Option (List ℕ)
mask_of true m = some m
mask_of false m = none

-- slot i of a column of f64: null where its bit is 0
abbrev pub slot_row : List ℕ → Option (List ℕ) → ℕ → Row
slot_row values mask i = sight (ok mask i) (double (item 8 values i))

-- both buffers hold the slots below n
pub record Holds (values : List ℕ) (masked : Bool) (mask : List ℕ) (n : ℕ) : Type 0 where
  pub numbers : n * 8 ≤ length values
  pub marks : masked ≡ true → n ≤ 8 * length mask

-- ---- two columns, by their values and their validity
module _ (lat : List ℕ) (latMask : Option (List ℕ)) (lon : List ℕ) (lonMask : Option (List ℕ)) where
  -- slot a of the latitudes with slot b of the longitudes
  abbrev pub slot_stop : ℕ → ℕ → Stop
  slot_stop a b = record { latitude = slot_row lat latMask a; longitude = slot_row lon lonMask b }

  -- n rows, from slots a and b on
  abbrev pub slot_stops : ℕ → ℕ → ℕ → List Stop
  slot_stops a b n = seg (λ k. slot_stop (a + k) (b + k)) 0 n

-- r rows are passed over: none of them counts, and the next does, if there is one
pub record Passed (g : ℕ → Stop) (n r : ℕ) : Type 0 where
  pub some_left : r ≤ n
  pub none_counts : (j : ℕ) → j < r → counts (g j) ≡ false
  pub next_counts : r < n → counts (g r) ≡ true

-- ---- a node of the lent tables

abbrev pub no_mask : Mask
no_mask = record { given = false; at = 0; end = 0 }

abbrev pub mask_from : ℕ → ℕ → Mask
mask_from at size = record { given = true; at = at; end = at + size }

module _ (x : Tables) (k : ℕ) where
  -- where its validity stands in the body; an empty range where it has none
  abbrev pub mask_place : Mask
  mask_place = cond (eqb (place x k 0) 0) no_mask (mask_from (place x k 1) (place x k 2))

  -- its buffers lie in the body and hold the slots below n
  pub record Placed (n : ℕ) : Type 0 where
    pub values_in : place x k 3 + place x k 4 ≤ length x.body
    pub mask_in_lem : mask_place.end ≤ length x.body
    pub values_hold : n * 8 ≤ place x k 4
    pub mask_holds : mask_place.given ≡ true → n ≤ 8 * (mask_place.end - mask_place.at)

-- rows start .. end - 1 of the columns at the nodes a and b
abbrev pub lent_stops : Tables → ℕ → ℕ → ℕ → ℕ → List Stop
lent_stops x a b start n =
    slot_stops (first_buffer x a) (valid_of x a) (first_buffer x b) (valid_of x b) (offset_of x a + start) (offset_of x b + start) n
