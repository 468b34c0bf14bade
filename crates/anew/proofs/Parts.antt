-- Which parts a result has. Assumes nothing.
use mathlib.Core.Path.{◌≡◌, refl, ap, ◌∙◌}
use mathlib.Core.Bool.{Bool, true, false, not, cond, ◌&&◌, ◌||◌}
use mathlib.Core.List.{List}
use Prim.Native.Nat.{ℕ, zero, suc, ◌≤◌, ◌<◌}
use native.Mathlib.Omega.{arith}
use lib.Dec.{ltb, eqb}
use Rattle.walk.specs.State.{word, code_of, dictionary_of, keeps_of}
use Rattle.plan.specs.parts.Parts.{buffer_count, copied, validity_parts, buffer_parts, has_part}
use Rattle.plan.specs.Plan.{flag}
use Rattle.anew.specs.ResultPlan.{plan_anew}
use Rattle.anew.proofs.PlanWords.{keeps_is, joined_is}

module _ (formats schema : List ℕ) (target n : ℕ) (keep : ℕ → Bool) (joined : Bool) (keptFrom : ℕ) (small : n ≤ 32) where
  abbrev plan : List ℕ
  plan = plan_anew formats schema target n keep joined keptFrom

  -- THE PARTS OF VALIDITY: one exactly where the node is in parts, the node it comes from has a null, and it is no union and no run-end node
  pub anew_parts : (i : ℕ) → i < n → has_part plan i 0 ≡ (copied plan i && keep i && ltb (code_of plan i) 21)
  unfolding has_part validity_parts
  anew_parts i l = rw (keeps_is formats schema target n keep joined keptFrom small i l) (go (copied plan i) (keep i) (ltb (code_of plan i) 21))
    where
      go : (a b c : Bool) → eqb (cond (a && not (eqb (flag b) 0) && c) 1 0) 1 ≡ (a && b && c)
      go true true true = refl
      go true true false = refl
      go true false true = refl
      go true false false = refl
      go false true true = refl
      go false true false = refl
      go false false true = refl
      go false false false = refl

  -- .. and of its other buffers, "in the format's order"
  pub anew_buffers : (i b : ℕ) → copied plan i ≡ true → has_part plan i (suc b) ≡ ltb b (buffer_count (code_of plan i))
  unfolding has_part buffer_parts
  anew_buffers i b c = rw c

  -- WHICH NODES ARE IN PARTS: all; where dictionaries are kept, all but their values
  pub copied_is : (i : ℕ) → suc i < n → copied plan (suc i) ≡ (joined || eqb (dictionary_of plan i) 0)
  unfolding copied
  copied_is i l = ap (λ w. eqb (dictionary_of plan i) 0 || eqb w 1) (joined_is formats schema target n keep joined keptFrom small i (omega arith)) ∙ go (eqb (dictionary_of plan i) 0) joined
    where
      go : (b j : Bool) → b || eqb (cond b 0 (flag j)) 1 ≡ (j || b)
      go true true = refl
      go true false = refl
      go false true = refl
      go false false = refl

  pub root_copied : copied plan 0 ≡ true
  unfolding copied
  root_copied = refl
