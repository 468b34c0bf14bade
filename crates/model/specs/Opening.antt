-- What an opening settles before the first order: which nodes keep nulls, and which dictionaries are shared (01: "A node keeps
-- nulls if ..", "Two dictionaries are shared if ..", ground 8). Assumes nothing.
use Rattle.std.specs.Prelude.{Bool, true, not, cond, ◌&&◌, ◌||◌, ℕ, zero, suc, ◌+◌, ◌-◌, ◌^◌, leb, eqb}
use Rattle.std.proofs.Math.Option.{none}
use Rattle.columnar.specs.Types.{Number, key_fits}
use Rattle.columnar.specs.Array.{Array, null_count_of}
use Rattle.columnar.specs.Dictionary.{Dictionary}
use Rattle.columnar.specs.Row.{sum}
use Rattle.columnar.specs.Test.{every, same}

-- "Validity with no zero bit among the rows counts as absent": the Rust's ArrayData is built without it
abbrev pub present : {B : Type 0} → Array B → Array B
present x = record { len = x.len; off = x.off; valid = cond (eqb (null_count_of x) 0) none x.valid; body = x.body }

-- "A node keeps nulls if the caller says so or any source has a null at that node": one of the first m has a null among its rows
abbrev pub keeps : {B : Type 0} → Bool → ℕ → (ℕ → Array B) → Bool
keeps u m xs = u || not (every (λ i. eqb (null_count_of (xs i)) 0) m)

-- "same offset, length, type and start positions, validity likewise": the types are the same already
abbrev pub ptr_eq : {P : Type 0} → Dictionary P → Dictionary P → Bool
ptr_eq d e = eqb d.values.off e.values.off && eqb d.values.len e.values.len && same d.starts e.starts

-- "Only if all neighbouring sources share is source 0's dictionary kept"
abbrev pub shared : {P : Type 0} → ℕ → (ℕ → Dictionary P) → Bool
shared zero ds = true
shared (suc zero) ds = true
shared (suc (suc m)) ds = shared (suc m) ds && ptr_eq (ds m) (ds (suc m))

-- how many entries the dictionaries before the j-th have
abbrev pub entries_before : {P : Type 0} → (ℕ → Dictionary P) → ℕ → ℕ
entries_before ds j = sum (λ i. (ds i).values.len) j

-- "A joined dictionary that overflows panics; the port gives 6": so many entries are counted in 64 bits
abbrev pub entries_fit : {P : Type 0} → ℕ → (ℕ → Dictionary P) → Bool
entries_fit m ds = shared m ds || leb (entries_before ds m) (2 ^ 64 - 1)

-- "start is 0 if shared, else the entries of earlier sources"
abbrev pub start_of_keys : {P : Type 0} → ℕ → (ℕ → Dictionary P) → ℕ → ℕ
start_of_keys m ds j = cond (shared m ds) 0 (entries_before ds j)

-- the entries of the first n sources fit keys of k
abbrev pub all_keys_fit : {P : Type 0} → Number → ℕ → ℕ → (ℕ → Dictionary P) → Bool
all_keys_fit k m n ds = every (λ j. key_fits k (start_of_keys m ds j) (ds j).values.len) n
