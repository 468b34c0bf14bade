-- Run-end columns. Follows arrow-data 60.1.0 src/transform/run.rs, Apache-2.0; see NOTICE. Assumes nothing.
use Rattle.std.specs.Prelude.{Bool, true, cond, List, [], ◌++◌, ℕ, zero, suc, ◌+◌, ◌-◌, ◌*◌, min, take, ltb, eqb}
use Rattle.std.proofs.Math.Option.{none}
use Rattle.number.specs.Number.{encode}
use Rattle.columnar.specs.Row.{seg}
use Rattle.columnar.specs.Types.{half}
use Rattle.columnar.specs.Array.{Array, item}
use Rattle.columnar.specs.Entries.{encodes}
use Rattle.columnar.specs.RunEnd.{RunEnd, end_of, start_of}
use Rattle.model.specs.Try.{Try, done, then, guard}
use Rattle.model.specs.Grounds.{first_run, run_count}
use Rattle.model.specs.Mutable.{Mutable, freeze_node}

-- child_data[0] and child_data[1]
pub record Runs (D : Type 0) : Type 0 where
  pub ends : Mutable (List ℕ)
  pub values : Mutable D
  pub gap : ℕ  -- 0: each null order adds a run; 1: not where the last run is one of null orders alone; 2: and it is

-- `get_last_run_end`: 0 where there is no run
abbrev pub last_end : ℕ → Mutable (List ℕ) → ℕ
last_end w x = start_of (item w x.«data») x.len

abbrev pub more_ends : List ℕ → ℕ → Mutable (List ℕ) → Mutable (List ℕ)
more_ends new n x = record { len = x.len + n; null_count = x.null_count; bits = x.bits; «data» = x.«data» ++ new }

-- a is the array's offset + start: "a run-end row [is that] above offset + row"; new: "clipped runs, equal neighbours not joined", behind the last end
abbrev pub runs_extend : {P D : Type 0} → ℕ → (ℕ → ℕ → Mutable D → Try (Mutable D)) → RunEnd P → ℕ → ℕ → Runs D → Try (Runs D)
runs_extend w extend s a zero d = done d
runs_extend w extend s a (suc n) d =
    let r = first_run w s a in
    let k = run_count w s a (suc n) in
    let new = encodes w (seg (λ i. last_end w d.ends + (min (end_of w s.ends i) (a + suc n) - a)) r k) in
    guard (ltb (last_end w d.ends + suc n) (half w)) 7
    (then (extend r k d.values) (λ v. done (record { ends = more_ends new k d.ends; values = v; gap = min d.gap 1 })))

-- the last end is v now
abbrev pub over_end : ℕ → ℕ → Mutable (List ℕ) → Mutable (List ℕ)
over_end w v x = record { len = x.len; null_count = x.null_count; bits = x.bits; «data» = take ((x.len - 1) * w) x.«data» ++ encode w v }

-- "A nonempty null order adds one run and one null value"; with gap 2 it "lengthens the last run" and asks the values for nothing
abbrev pub runs_null : {D : Type 0} → ℕ → (ℕ → Mutable D → Try (Mutable D)) → ℕ → Runs D → Try (Runs D)
runs_null w nulls n d =
    cond (eqb d.gap 2)
    (guard (ltb (last_end w d.ends + n) (half w)) 7 (done (record { ends = over_end w (last_end w d.ends + n) d.ends; values = d.values; gap = 2 })))
    (then (nulls 1 d.values)
    (λ v. guard (ltb (last_end w d.ends + n) (half w)) 7 (done (record { ends = more_ends (encode w (last_end w d.ends + n)) 1 d.ends; values = v; gap = cond (eqb d.gap 0) 0 2 }))))

abbrev pub runs_freeze : {P D : Type 0} → (Mutable D → Array P) → Runs D → RunEnd P
runs_freeze f d = record { ends = freeze_node true (λ b. b) d.ends; values = f d.values }
