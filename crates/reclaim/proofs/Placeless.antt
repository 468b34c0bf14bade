-- The walk of a reclaiming asks for no part: the same with any parts. Assumes nothing.
use mathlib.Core.Path.{◌≡◌, refl, ap, ◌∙◌, fun_ext}
use mathlib.Core.Bool.{cond}
use mathlib.Core.List.{List, []}
use Prim.Native.Nat.{ℕ, zero, suc, ◌+◌, ◌-◌, min, max}
use lib.Dec.{eqb}
use Rattle.walk.specs.State.{Join, add_rows, length_of, offset_of, rows_in}
use Rattle.walk.specs.Log.{put, done, wrote, need, next}
use Rattle.walk.specs.Leaves.{copy_bits, copy_mask}
use Rattle.leaf_walk.specs.Join.{join}
use Rattle.measure.proofs.Placeless.{walk_same}
use Rattle.reclaim.specs.used_entries.Keys.{used, new_keys}
use Rattle.reclaim.specs.reclaim_walk.Walk.{keys_of, keys_in, first_entry, run_of, copy_run, copy_runs, copy_blocks, reclaim_walk_of}

module _ (plan parts lengths places body : List ℕ) (first : ℕ) where
  abbrev x : Join
  x = join plan parts lengths places body first 0

  abbrev y : Join
  y = join plan [] lengths places body first 0

  run_of_same : (n e : ℕ) → run_of x e n ≡ run_of y e n
  unfolding run_of
  run_of_same zero e = refl
  run_of_same (suc n) e = ap (λ z. cond (used (keys_of y) e) (suc z) 0) (run_of_same n (suc e))

  run_same : (e k : ℕ) (c : List ℕ) → copy_run x e k c ≡ copy_run y e k c
  unfolding copy_run
  run_same e k c = ap (λ o. cond (eqb k 0) (done c) o) (walk_same plan parts [] lengths places body first 0 1 1 e k c)

  runs_same : (f e n : ℕ) (c : List ℕ) → copy_runs x f e n c ≡ copy_runs y f e n c
  unfolding copy_runs
  runs_same zero e n c = refl
  runs_same (suc f) e n c =
      ap (λ r. cond (eqb n 0) (done c) (next (copy_run x e r c) (λ c2. copy_runs x f (e + max r 1) (n - max r 1) c2))) (run_of_same n e)
      ∙ ap (λ o. cond (eqb n 0) (done c) (next o (λ c2. copy_runs x f (e + max (run_of y e n) 1) (n - max (run_of y e n) 1) c2))) (run_same e (run_of y e n) c)
      ∙ ap (λ h. cond (eqb n 0) (done c) (next (copy_run y e (run_of y e n) c) h)) (fun_ext (λ c2. runs_same f (e + max (run_of y e n) 1) (n - max (run_of y e n) 1) c2))

  blocks_same : (f e n : ℕ) (c : List ℕ) → copy_blocks x f e n c ≡ copy_blocks y f e n c
  unfolding copy_blocks
  blocks_same zero e n c = refl
  blocks_same (suc f) e n c =
      ap (λ o. cond (eqb n 0) (done c) (next o (λ c2. copy_blocks x f (e + min n 512) (n - min n 512) c2))) (runs_same (min n 512) e (min n 512) c)
      ∙ ap (λ h. cond (eqb n 0) (done c) (next (copy_runs y (min n 512) e (min n 512) c) h)) (fun_ext (λ c2. blocks_same f (e + min n 512) (n - min n 512) c2))

  pub placeless : (c : List ℕ) → reclaim_walk_of x c ≡ reclaim_walk_of y c
  unfolding reclaim_walk_of keys_in rows_in copy_mask copy_bits first_entry
  placeless c =
      ap
      (λ f. need (keys_in y) 12 c
      (next (copy_mask y 0 (offset_of y 0) (length_of y 0) c)
      (λ c1. next (wrote (put 0 1 0 (new_keys (keys_of y) (length_of y 1))) c1) (λ c2. next (first_entry y (add_rows 0 (length_of y 0) c2)) f))))
      (fun_ext (λ c3. blocks_same (length_of y 1) 0 (length_of y 1) c3))
