-- The words of a plan and its parts: which buffers of a kind have one, and that the words that name the parts decide none of it, so
-- that an opening may write them one after the other. Assumes nothing.
use mathlib.Core.Path.{◌≡◌, refl, ap, ap₂, ◌∙◌}
use mathlib.Core.Bool.{Bool, true, false, not, cond, ◌&&◌, ◌||◌}
use mathlib.Core.List.{List}
use Prim.Native.Nat.{ℕ, zero, suc, ◌+◌, ◌*◌, ◌-◌, ◌%◌, ◌≤◌, ◌<◌, min}
use native.Mathlib.Omega.{arith}
use lib.ListN.{get_or}
use lib.Dec.{leb, ltb, eqb}
use borrow.Author.Tests.{lt-ltb, leb-true, ne_eqb}
use Rattle.columnar.specs.Test.{every}
use Rattle.schema.specs.formats.Code.{is_string, is_list}
use Rattle.array_data.proofs.lent_tables.Laws.{and_left, and_right}
use Rattle.walk.specs.State.{word, code_of, keeps_of}
use Rattle.plan.specs.parts.Parts.{nodes_of, buffer_count, has_offsets, copied, validity_parts, buffer_parts, has_part, parts_before, part_total, part_word, Numbered}
use Rattle.plan.proofs.parts.Laws.{few_bits, few_parts}
use Rattle.plan.proofs.parts.Placed.{every_at}

-- ---- which buffers of a kind have a part

-- a test that every code from low on passes, n of them
range : (f : ℕ → Bool) (low n : ℕ) → every (λ k. f (low + k)) n ≡ true → (code : ℕ) → low ≤ code → code < low + n → f code ≡ true
range f low n h code l u =
    let e : low + (code - low) ≡ code = omega arith in
    rw e at (every_at (λ k. f (low + k)) n h (code - low) (omega arith))

-- all but a run-end node
pub first_buffer_lem : (code : ℕ) → 1 ≤ code → code < 23 → 1 ≤ buffer_count code
first_buffer_lem code l u = leb-true 1 (buffer_count code) (range (λ c. leb 1 (buffer_count c)) 1 22 refl code l (omega arith))

pub offsets_buffer : (code : ℕ) → has_offsets code ≡ true → 1 ≤ buffer_count code
offsets_buffer code h = go (is_string code) refl (is_list code) refl h
  where
    go : (a : Bool) → is_string code ≡ a → (b : Bool) → is_list code ≡ b → a || b ≡ true → 1 ≤ buffer_count code
    go true e b f g =
        let l = leb-true 11 code (and_left (leb 11 code) (leb code 14) e) in
        let u = leb-true code 14 (and_right (leb 11 code) (leb code 14) e) in
        first_buffer_lem code (omega arith) (omega arith)
    go false e true f g =
        let l = leb-true 19 code (and_left (leb 19 code) (leb code 20) f) in
        let u = leb-true code 20 (and_right (leb 19 code) (leb code 20) f) in
        first_buffer_lem code (omega arith) (omega arith)
    go false e false f g = absurd (let z : ◌≡◌ {A = ℕ} 0 1 = cc g in omega arith)

pub string_buffers : (code : ℕ) → is_string code ≡ true → 2 ≤ buffer_count code
string_buffers code h =
    let l = leb-true 11 code (and_left (leb 11 code) (leb code 14) h) in
    let u = leb-true code 14 (and_right (leb 11 code) (leb code 14) h) in
    leb-true 2 (buffer_count code) (range (λ c. leb 2 (buffer_count c)) 11 4 refl code l (omega arith))

module _ (plan : List ℕ) (i : ℕ) (c : copied plan i ≡ true) where
  pub has_bits : (keeps_of plan i ≡ 0 → ⊥) → code_of plan i < 21 → has_part plan i 0 ≡ true
  unfolding has_part validity_parts
  has_bits h l = rw (c, ne_eqb (keeps_of plan i) 0 h, lt-ltb (code_of plan i) 21 l)

  pub has_buffers : (b : ℕ) → b < buffer_count (code_of plan i) → has_part plan i (suc b) ≡ true
  unfolding has_part buffer_parts
  has_buffers b l = rw c (lt-ltb b (buffer_count (code_of plan i)) l)

-- ---- the words that name the parts

-- the words that decide which parts there are
pub record Alike (s t : List ℕ) : Type 0 where
  pub nodes : get_or s 865 0 ≡ get_or t 865 0
  pub code : (i : ℕ) → word s i 0 ≡ word t i 0
  pub dictionary : (i : ℕ) → word s i 1 ≡ word t i 1
  pub keeps : (i : ℕ) → word s i 5 ≡ word t i 5
  pub joined : (i : ℕ) → word s i 7 ≡ word t i 7

pub alike_then : {s t u : List ℕ} → Alike s t → Alike t u → Alike s u
alike_then a b =
    record {
      nodes = a.nodes ∙ b.nodes;
      code = λ i. a.code i ∙ b.code i;
      dictionary = λ i. a.dictionary i ∙ b.dictionary i;
      keeps = λ i. a.keeps i ∙ b.keeps i;
      joined = λ i. a.joined i ∙ b.joined i;
    }

module _ (s t : List ℕ) (a : Alike s t) where
  pub alike_nodes : nodes_of s ≡ nodes_of t
  alike_nodes = ap (λ (x : ℕ). min x 32) a.nodes

  alike_copied : (i : ℕ) → copied s i ≡ copied t i
  unfolding copied
  alike_copied zero = refl
  alike_copied (suc i) = ap₂ (λ (x y : ℕ). eqb x 0 || eqb y 1) (a.dictionary i) (a.joined i)

  alike_validity : (i : ℕ) → validity_parts s i ≡ validity_parts t i
  unfolding validity_parts
  alike_validity i =
      ap₂ (λ (x : Bool) (y : ℕ). cond (x && not (eqb (keeps_of s i) 0) && ltb (y % 256) 21) 1 0) (alike_copied i) (a.code i)
      ∙ ap (λ (x : ℕ). cond (copied t i && not (eqb x 0) && ltb (code_of t i) 21) 1 0) (a.keeps i)

  alike_buffers : (i : ℕ) → buffer_parts s i ≡ buffer_parts t i
  unfolding buffer_parts
  alike_buffers i = ap₂ (λ (x : Bool) (y : ℕ). cond x (buffer_count (y % 256)) 0) (alike_copied i) (a.code i)

  alike_before : (i : ℕ) → parts_before s i ≡ parts_before t i
  unfolding parts_before
  alike_before zero = refl
  alike_before (suc i) = let h = alike_before i in let v = alike_validity i in let b = alike_buffers i in omega arith

  pub alike_word : (i : ℕ) → part_word s i ≡ part_word t i
  alike_word i = ap₂ (λ (x y : ℕ). x + y) (alike_before i) (alike_validity i)

  pub alike_total : part_total s ≡ part_total t
  alike_total = alike_before (nodes_of s) ∙ ap (parts_before t) alike_nodes

module _ (plan : List ℕ) where
  few_before : (i : ℕ) → parts_before plan i ≤ 3 * i
  unfolding parts_before
  few_before zero = omega arith
  few_before (suc i) = let h = few_before i in let v = few_bits plan i in let b = few_parts plan i in omega arith

  -- THE OPENING NAMES THE PARTS by writing `partWord` into word 6 of every node
  pub numbered : ((i : ℕ) → i < nodes_of plan → word plan i 6 ≡ part_word plan i) → Numbered plan
  numbered h =
      record {
        word_is = λ i l.
            let e = h i l in
            let f = few_before i in
            let v = few_bits plan i in
            omega arith;
      }
