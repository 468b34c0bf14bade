-- An array whose validity is dropped where it has no zero bit: it obeys, reads and counts as before. Assumes nothing.
use mathlib.Core.Path.{◌≡◌, refl, sym, ap₂}
use mathlib.Core.Bool.{Bool, true, false, cond}
use mathlib.Core.Option.{Option, none}
use mathlib.Core.List.{List}
use Prim.Native.Nat.{ℕ, ◌+◌, ◌<◌}
use lib.Dec.{eqb}
use borrow.Author.Tests.{eqb-true}
use Rattle.columnar.specs.Row.{Row}
use Rattle.columnar.specs.Types.{Plain, fixed, string}
use Rattle.columnar.specs.Array.{Array, ok, sight, read_with, null_count_of, Mask, Obeys}
use Rattle.columnar.specs.Plain.{PlainBody, PlainRule}
use Rattle.columnar.proofs.Kept.{nulls_in_same}
use Rattle.model.specs.Opening.{present}
use Rattle.model.proofs.Start.{no_null_in}

module _ {B : Type 0} (x : Array B) where
  -- a row is valid as it was
  pub present_ok : (i : ℕ) → i < x.len → ok (present x).valid (x.off + i) ≡ ok x.valid (x.off + i)
  present_ok i q = go (eqb (null_count_of x) 0) refl
    where
      go : (b : Bool) → eqb (null_count_of x) 0 ≡ b → ok (cond b none x.valid) (x.off + i) ≡ ok x.valid (x.off + i)
      go true e = sym (no_null_in (ok x.valid) x.off x.len (eqb-true (null_count_of x) 0 e) i q)
      go false e = refl

  pub present_nulls : null_count_of (present x) ≡ null_count_of x
  present_nulls = nulls_in_same (ok (present x).valid) (ok x.valid) x.off x.len present_ok

  pub present_read : (at : B → ℕ → Row) (i : ℕ) → i < x.len → read_with at (present x) i ≡ read_with at x i
  present_read at i q = ap₂ sight (present_ok i q) refl

-- numbers and strings obey whatever their bits
plain_any : (p : Plain) (f g : ℕ → Bool) (b : PlainBody p) (off len : ℕ) → PlainRule p f b off len → PlainRule p g b off len
plain_any (fixed n) f g b off len h = h
plain_any (string w) f g b off len h = h

mask_less : (b : Bool) (o : Option (List ℕ)) (n : ℕ) → Mask true o n → Mask true (cond b none o) n
mask_less true o n h = tt
mask_less false o n h = h

pub present_obeys : (p : Plain) (x : Array (PlainBody p)) → Obeys true (PlainRule p) x → Obeys true (PlainRule p) (present x)
present_obeys p x h =
    record {
      mask = mask_less (eqb (null_count_of x) 0) x.valid (x.off + x.len) h.mask;
      slots = plain_any p (ok x.valid) (ok (present x).valid) x.body x.off x.len h.slots;
    }
