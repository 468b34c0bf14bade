-- What each return of the encoder's question and of its call answers. Assumes nothing.
use mathlib.Core.Path.{◌≡◌, refl, sym, ap, ◌∙◌}
use mathlib.Core.Bool.{Bool, true, false, not, ◌&&◌}
use mathlib.Core.List.{List}
use Prim.Native.Nat.{ℕ, ◌≤◌, ◌<◌, ◌^◌}
use lib.ListN.{length, get_or}
use lib.Dec.{eqb}
use borrow.Author.Tests.{eq-eqb, ne_eqb, eqb-true, le-leb, lt-leb}
use Rattle.source_rules.specs.kinds.Rows.{tables_of}
use Rattle.array_data.proofs.lent_tables.Laws.{and_left, and_right}
use Rattle.columns.specs.Grounds.{ceiling, small_body, column_ground}
use Rattle.walk.specs.State.{keeps_of}
use Rattle.plan.specs.Plan.{flag}
use Rattle.anew.specs.Anew.{join_lengths, ahead}
use Rattle.anew.specs.ResultPlan.{plan_anew}
use Rattle.anew.proofs.PlanWords.{keeps_is}
use Rattle.anew.proofs.result_plan.Answered.{before_walk}
use Rattle.coding.specs.Encode.{encode_own, encode_keeps, encode_plan, encode_out}
use Rattle.coding.proofs.Encoded.{walk_done}

pub lengths_first : (p q : ℕ) → (p ≡ 872 → ⊥) → join_lengths p q ≡ false
unfolding join_lengths
lengths_first p q h = rw (ne_eqb p 872 h)

pub lengths_second : (p q : ℕ) → (q ≡ 96 → ⊥) → join_lengths p q ≡ false
unfolding join_lengths
lengths_second p q h = rw (ne_eqb q 96 h) (go (eqb p 872))
  where
    go : (b : Bool) → b && false ≡ false
    go true = refl
    go false = refl

pub lengths_both : (p q : ℕ) → p ≡ 872 → q ≡ 96 → join_lengths p q ≡ true
unfolding join_lengths
lengths_both p q e f = rw (eq-eqb p 872 e, eq-eqb q 96 f)

pub flag_by : {k : ℕ} (b : Bool) → k ≡ flag b → not (eqb k 0) ≡ b
flag_by b e = ap (λ z. not (eqb z 0)) e ∙ go b
  where
    go : (b : Bool) → not (eqb (flag b) 0) ≡ b
    go true = refl
    go false = refl

-- whether the result keeps nulls is read off its plan
pub keep_by : (formats schema : List ℕ) (target n i : ℕ) (keep : ℕ → Bool) (joined : Bool) → n ≤ 32 → i < n → {plan : List ℕ} {kw : ℕ} → plan ≡ plan_anew formats schema target n keep joined 0 → kw ≡ keeps_of plan i → not (eqb kw 0) ≡ keep i
keep_by formats schema target n i keep joined few l {kw = kw} e f =
    flag_by (keep i) (f ∙ ap (λ s. keeps_of s i) e ∙ keeps_is formats schema target n keep joined 0 few i l)

module _ (formats schema lengths places buffers body : List ℕ) (first n target start end : ℕ) (low : first < 2 ^ 32) (small : (j : ℕ) → get_or body j 0 < 256)
    (g : column_ground formats schema (tables_of lengths places buffers body) first n ≡ 0) (o : encode_own formats schema (tables_of lengths places buffers body) first n target start end ≡ 0) where
  -- nothing stands before room is asked
  pub none_before : ahead formats schema (tables_of lengths places buffers body) first n (encode_own formats schema (tables_of lengths places buffers body) first n target start end)
      (encode_plan formats schema (tables_of lengths places buffers body) first n target start end) (encode_out formats schema (tables_of lengths places buffers body) first n target start end) ≡ 0
  none_before =
      sym (before_walk formats schema (tables_of lengths places buffers body) first n _ (encode_plan formats schema (tables_of lengths places buffers body) first n target start end) _ g o
      (walk_done formats schema lengths places buffers body first n target start end low small g o (encode_keeps formats schema (tables_of lengths places buffers body) first n target start end 2) refl))

pub lengths_are : (p q : ℕ) → join_lengths p q ≡ true → (p ≡ 872) × (q ≡ 96)
unfolding join_lengths
lengths_are p q h = (eqb-true p 872 (and_left (eqb p 872) (eqb q 96) h), eqb-true q 96 (and_right (eqb p 872) (eqb q 96) h))

pub small_yes : (room : List ℕ) → length room ≤ 9223372036854775807 → small_body room ≡ true
unfolding small_body
small_yes room h = le-leb (length room) ceiling h

pub small_no : (room : List ℕ) → 9223372036854775807 < length room → small_body room ≡ false
unfolding small_body
small_no room h = lt-leb (length room) ceiling h
