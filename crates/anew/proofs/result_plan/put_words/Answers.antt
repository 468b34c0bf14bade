-- `result_plan::put_words` meets its contract. Assumes nothing.
use mathlib.Core.Path.{◌≡◌, refl, sym, ap, subst, ◌∙◌}
use mathlib.Core.List.{List, [], ◌∷◌, ◌++◌}
use Prim.Native.Nat.{ℕ, zero, suc, ◌≤◌}
use native.Mathlib.Omega.{arith}
use lib.ListN.{length, get_or, set, take, drop, replicate}
use Rattle.std.proofs.Math.Seq.{take-length, take-suc, drop-cons, set-append_seam}
use Rattle.std.proofs.Common.{append_assoc, ap₂}
use Rattle.std.proofs.lemmas.List.{length-take-le}
use Rattle.plan.specs.Plan.{filled, with_tree}
use Rattle.anew.proofs.result_plan.put_words.Goals as goal

-- the first n words one by one are the first n at once
copied : (tree plan : List ℕ) (n : ℕ) → n ≤ length tree → n ≤ length plan → take n tree ++ drop n plan ≡ filled (λ q. q) (λ words q. get_or tree q 0) n plan
unfolding filled
copied tree plan zero h k = refl
copied tree plan (suc n) h k =
    let one : take (suc n) tree ≡ take n tree ++ (get_or tree n 0 ∷ []) = take-suc tree n 0 (omega arith) in
    let next : drop n plan ≡ get_or plan n 0 ∷ drop (suc n) plan = drop-cons plan n 0 (omega arith) in
    let seam = set-append_seam (take n tree) (get_or plan n 0) (drop (suc n) plan) (get_or tree n 0) in
    let e : length (take n tree) ≡ n = length-take-le n tree (omega arith) in
    rw (one, append_assoc, ← copied tree plan n (omega arith) (omega arith), next) (sym (subst (λ (k : ℕ). set (take n tree ++ (get_or plan n 0 ∷ drop (suc n) plan)) k (get_or tree n 0) ≡ take n tree ++ (get_or tree n 0 ∷ drop (suc n) plan)) e seam))

pub returns : goal.returns
unfolding with_tree
returns c =
    let tree = c.args.words.now in
    let whole : take 256 tree ≡ tree = subst (λ (k : ℕ). take k tree ≡ tree) c.told-words (take-length tree) in
    ap₂ (λ (w p : List ℕ). w ++ drop 256 p) (c.copy_from_slice.ensures.after ∙ sym whole) c.requires ∙ copied tree (replicate 872 0) 256 (omega arith) (omega arith)
