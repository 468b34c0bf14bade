-- What the rule of a node (ground 12) says of a stretch of its rows: slots s .. s + n - 1. Assumes nothing.
use mathlib.Core.Path.{◌≡◌, refl, sym, subst}
use mathlib.Core.Bool.{Bool, true, false, ◌&&◌, false≢true}
use mathlib.Core.Option.{Option, none, some}
use mathlib.Core.List.{List, [], Memᴰ}
use Prim.Native.Nat.{ℕ, suc, ◌+◌, ◌*◌, ◌-◌, ◌<◌, ◌≤◌}
use native.Mathlib.Nat.{mul-le-mul_right}
use native.Mathlib.Omega.{arith}
use lib.ListN.{length, replicate, length-replicate}
use lib.Dec.{T, leb}
use borrow.Author.Tests.{leb-true, le-leb}
use Rattle.columnar.specs.Types.{Number, width, half, fixed, string}
use Rattle.columnar.specs.Array.{item, ok}
use Rattle.columnar.specs.Plain.{OffsetsRule}
use Rattle.columnar.specs.Test.{mask_test, offsets_rule, array_test, plain_test, view_test, list_view_test, list_test, sparse_test, dense_test, run_end_test, dictionary_test}
use Rattle.columnar.proofs.Test.{itself, offsets_rule_agrees, list_view_agrees, sparse_agrees, dense_agrees, run_end_agrees, dictionary_agrees}
use Rattle.anew.proofs.widths.Cut.{cut_plain}
use Rattle.array_data.specs.Tables.{Tables, place, length_of, offset_of, valid_of, first_buffer, second_buffer, data_buffers, array_with, held, in_body, valid_in}
use Rattle.array_data.specs.Rules.{child_of, one_in, two_in, buffers_in, fixed_rule, string_rule, view_rule, list_view_rule, list_rule, sparse_rule, dense_rule, run_end_rule, dictionary_rule}
use Rattle.array_data.proofs.lent_tables.Laws.{and_left, and_right}
use Rattle.width_loop.specs.Steps.{Inside, RunsHere}
use Rattle.width_loop.proofs.Laws.{part_size}

-- ---- validity

mask_any : (b : Bool) (o : Option (List ℕ)) (n : ℕ) → mask_test b o n ≡ true → mask_test true o n ≡ true
mask_any true o n h = h
mask_any false none n h = refl
mask_any false (some m) n h = absurd (false≢true h)

pub mask_less : (o : Option (List ℕ)) (n m : ℕ) → m ≤ n → mask_test true o n ≡ true → mask_test true o m ≡ true
mask_less none n m l h = refl
mask_less (some v) n m l h = le-leb m (8 * length v) (omega (arith, leb-true n (8 * length v) h))

module _ (x : Tables) (i : ℕ) where
  abbrev off : ℕ
  off = offset_of x i

  abbrev len : ℕ
  len = length_of x i

  -- where the validity of node i lies, and that it has a bit for each slot
  pub record Bits : Type 0 where
    pub there : valid_in x i ≡ true
    pub enough : mask_test true (valid_of x i) (off + len) ≡ true

  one_first : one_in x i ≡ true → Inside x i 3
  one_first h = leb-true (place x i 3 + place x i 4) (length x.body) (and_right (held x i && valid_in x i) (in_body x (place x i 3) (place x i 4)) h)

  one_valid : one_in x i ≡ true → valid_in x i ≡ true
  one_valid h = and_right (held x i) (valid_in x i) (and_left (held x i && valid_in x i) (in_body x (place x i 3) (place x i 4)) h)

  two_one : two_in x i ≡ true → one_in x i ≡ true
  two_one h = and_left (one_in x i) (in_body x (place x i 5) (place x i 6)) h

  two_second : two_in x i ≡ true → Inside x i 5
  two_second h = leb-true (place x i 5 + place x i 6) (length x.body) (and_right (one_in x i) (in_body x (place x i 5) (place x i 6)) h)

  first_size : one_in x i ≡ true → length (first_buffer x i) ≡ place x i 4
  first_size h = part_size x.body (place x i 3) (place x i 4) (one_first h)

  second_size : two_in x i ≡ true → length (second_buffer x i) ≡ place x i 6
  second_size h = part_size x.body (place x i 5) (place x i 6) (two_second h)

  bits_by : {B : Type 0} (may : Bool) (slots : (ℕ → Bool) → B → ℕ → ℕ → Bool) (b : B) → valid_in x i ≡ true → array_test may slots (array_with x b i) ≡ true → Bits
  bits_by may slots b v h = record { there = v; enough = mask_any may (valid_of x i) (off + len) (and_left (mask_test may (valid_of x i) (off + len)) (slots (ok (valid_of x i)) b off len) h) }

  slots_by : {B : Type 0} (may : Bool) (slots : (ℕ → Bool) → B → ℕ → ℕ → Bool) (b : B) → array_test may slots (array_with x b i) ≡ true → slots (ok (valid_of x i)) b off len ≡ true
  slots_by may slots b h = and_right (mask_test may (valid_of x i) (off + len)) (slots (ok (valid_of x i)) b off len) h

  -- ---- by kind

  pub fixed_bits : (m : Number) → fixed_rule x i m ≡ true → Bits
  fixed_bits m h = bits_by true (plain_test (fixed m)) (first_buffer x i) (one_valid (and_left (one_in x i) _ h)) (and_right (one_in x i) _ h)

  pub string_bits : (w : ℕ) → string_rule x i w ≡ true → Bits
  string_bits w h = bits_by true (plain_test (string w)) (record { offsets = first_buffer x i; chars = second_buffer x i }) (one_valid (two_one (and_left (two_in x i) _ h))) (and_right (two_in x i) _ h)

  pub view_bits : view_rule x i ≡ true → Bits
  view_bits h = bits_by true view_test (record { views = first_buffer x i; buffers = data_buffers x i }) (one_valid (and_left (one_in x i) _ (and_left (one_in x i && buffers_in x i) _ h))) (and_right (one_in x i && buffers_in x i) _ h)

  pub list_view_bits : (w : ℕ) → list_view_rule x i w ≡ true → Bits
  list_view_bits w h = bits_by true (list_view_test w (λ c. true)) (record { offsets = first_buffer x i; sizes = second_buffer x i; child = child_of x (suc i) }) (one_valid (two_one (and_left (two_in x i) _ h))) (and_right (two_in x i) _ h)

  pub list_bits : (w : ℕ) → list_rule x i w ≡ true → Bits
  list_bits w h = bits_by true (list_test w (λ c. true)) (record { offsets = first_buffer x i; child = child_of x (suc i) }) (one_valid (and_left (one_in x i) _ h)) (and_right (one_in x i) _ h)

  pub sparse_bits : (ids : List ℕ) (node : ℕ → ℕ) → sparse_rule x i ids node ≡ true → Bits
  sparse_bits ids node h = bits_by false (sparse_test ids (λ c a. true)) (record { ids = first_buffer x i; children = λ c. child_of x (node c) }) (one_valid (and_left (one_in x i) _ h)) (and_right (one_in x i) _ h)

  pub dense_bits : (ids : List ℕ) (node : ℕ → ℕ) → dense_rule x i ids node ≡ true → Bits
  dense_bits ids node h =
      bits_by false (dense_test ids (λ c a. true)) (record { ids = first_buffer x i; positions = second_buffer x i; children = λ c. child_of x (node c) }) (one_valid (two_one (and_left (two_in x i) _ h))) (and_right (two_in x i) _ h)

  pub run_bits : (w : ℕ) → run_end_rule x i w ≡ true → Bits
  run_bits w h =
      bits_by false (run_end_test w (λ a. true)) (record { ends = array_with x (first_buffer x (suc i)) (suc i); values = child_of x (suc (suc i)) })
      (and_right (held x i) (valid_in x i) (and_left (held x i && valid_in x i) _ h)) (and_right (held x i && valid_in x i) _ h)

  pub key_bits : (m : Number) → dictionary_rule x i m ≡ true → Bits
  key_bits m h = bits_by true (dictionary_test m (λ a. true)) (record { keys = first_buffer x i; values = child_of x (suc i); starts = [] }) (one_valid (and_left (one_in x i) _ h)) (and_right (one_in x i) _ h)

  pub fixed_inside : (m : Number) → fixed_rule x i m ≡ true → Inside x i 3
  fixed_inside m h = one_first (and_left (one_in x i) _ h)

  -- ---- a stretch of the rows

  module _ (s n : ℕ) (above : off ≤ s) (below : s + n ≤ off + len) where
    less : (w size : ℕ) → (off + len) * w ≤ size → (s + n) * w ≤ size
    less w size h = let z : (s + n) * w ≤ (off + len) * w = mul-le-mul_right w below in omega arith

    offsets_less : (w : ℕ) (os chars : List ℕ) → OffsetsRule w os (length chars) off len → OffsetsRule w os (length chars) s n
    offsets_less w os chars h =
        let e : off + (s - off) ≡ s = omega arith in
        subst (λ z. OffsetsRule w os (length chars) z n) e (cut_plain (string w) (λ k. true) (record { offsets = os; chars = chars }) off len (s - off) n (omega arith) h)

    rows_less : (w : ℕ) (os : List ℕ) (most : ℕ) → OffsetsRule w os most off len → OffsetsRule w os most s n
    rows_less w os most h =
        let e = length-replicate {A = ℕ} most 0 in
        subst (λ z. OffsetsRule w os z s n) e (offsets_less w os (replicate most 0) (subst (λ z. OffsetsRule w os z off len) (sym e) h))

    pub fixed_here : (m : Number) → fixed_rule x i m ≡ true → Inside x i 3 × ((s + n) * width m ≤ place x i 4)
    fixed_here m h =
        let o = and_left (one_in x i) _ h in
        let l = slots_by true (plain_test (fixed m)) (first_buffer x i) (and_right (one_in x i) _ h) in
        (one_first o, less (width m) (place x i 4) (omega (arith, first_size o, leb-true ((off + len) * width m) (length (first_buffer x i)) l)))

    pub view_here_lem : view_rule x i ≡ true → Inside x i 3 × ((s + n) * 16 ≤ place x i 4)
    view_here_lem h =
        let o = and_left (one_in x i) _ (and_left (one_in x i && buffers_in x i) _ h) in
        let l = slots_by true view_test (record { views = first_buffer x i; buffers = data_buffers x i }) (and_right (one_in x i && buffers_in x i) _ h) in
        (one_first o, less 16 (place x i 4) (omega (arith, first_size o, leb-true ((off + len) * 16) (length (first_buffer x i)) (and_left (leb ((off + len) * 16) (length (first_buffer x i))) _ l))))

    pub string_here : (w : ℕ) → string_rule x i w ≡ true → Inside x i 3 × Inside x i 5 × OffsetsRule w (first_buffer x i) (length (second_buffer x i)) s n
    string_here w h =
        let o = and_left (two_in x i) _ h in
        let l = slots_by true (plain_test (string w)) (record { offsets = first_buffer x i; chars = second_buffer x i }) (and_right (two_in x i) _ h) in
        (one_first (two_one o), two_second o, offsets_less w (first_buffer x i) (second_buffer x i) ((offsets_rule_agrees w (first_buffer x i) (length (second_buffer x i)) off len).sound (subst T (sym l) tt)))

    pub list_here : (w : ℕ) → list_rule x i w ≡ true → Inside x i 3 × OffsetsRule w (first_buffer x i) (length_of x (suc i)) s n
    list_here w h =
        let o = and_left (one_in x i) _ h in
        let l = slots_by true (list_test w (λ c. true)) (record { offsets = first_buffer x i; child = child_of x (suc i) }) (and_right (one_in x i) _ h) in
        (one_first o, rows_less w (first_buffer x i) (length_of x (suc i)) ((offsets_rule_agrees w (first_buffer x i) (length_of x (suc i)) off len).sound (subst T (sym (and_left (offsets_rule w (first_buffer x i) (length_of x (suc i)) off len) true l)) tt)))

    pub list_view_here : (w : ℕ) → list_view_rule x i w ≡ true
        → Inside x i 3 × Inside x i 5 × ((s + n) * w ≤ place x i 4) × ((s + n) * w ≤ place x i 6) × ((j : ℕ) → j < n → item w (first_buffer x i) (s + j) < half w) × ((j : ℕ) → j < n → item w (second_buffer x i) (s + j) < half w)
        × ((j : ℕ) → j < n → item w (first_buffer x i) (s + j) ≤ length_of x (suc i)) × ((j : ℕ) → j < n → item w (second_buffer x i) (s + j) ≤ length_of x (suc i))
    list_view_here w h =
        let o = and_left (two_in x i) _ h in
        let l = slots_by true (list_view_test w (λ c. true)) (record { offsets = first_buffer x i; sizes = second_buffer x i; child = child_of x (suc i) }) (and_right (two_in x i) _ h) in
        let r = (list_view_agrees (λ a. T true) (λ a. true) (λ a. itself true) w (ok (valid_of x i)) (record { offsets = first_buffer x i; sizes = second_buffer x i; child = child_of x (suc i) }) off len).sound (subst T (sym l) tt) in
        let at : (j : ℕ) → off + (s - off + j) ≡ s + j = λ j. omega arith in (
          one_first (two_one o),
          two_second o,
          less w (place x i 4) (omega (arith, first_size (two_one o), r.hold_offsets)),
          less w (place x i 6) (omega (arith, second_size o, r.hold_sizes)),
          λ j q. subst (λ z. item w (first_buffer x i) z < half w) (at j) (r.entries (s - off + j) (omega arith)).offset,
          λ j q. subst (λ z. item w (second_buffer x i) z < half w) (at j) (r.entries (s - off + j) (omega arith)).size,
          λ j q. subst (λ z. item w (first_buffer x i) z ≤ length_of x (suc i)) (at j) (omega (arith, (r.entries (s - off + j) (omega arith)).within)),
          λ j q. subst (λ z. item w (second_buffer x i) z ≤ length_of x (suc i)) (at j) (omega (arith, (r.entries (s - off + j) (omega arith)).within)),
        )

    pub sparse_here : (ids : List ℕ) (node : ℕ → ℕ) → sparse_rule x i ids node ≡ true → Inside x i 3 × ((s + n) * 1 ≤ place x i 4) × ((c : ℕ) → Memᴰ c ids → s + n ≤ length_of x (node c))
    sparse_here ids node h =
        let o = and_left (one_in x i) _ h in
        let l = slots_by false (sparse_test ids (λ c a. true)) (record { ids = first_buffer x i; children = λ c. child_of x (node c) }) (and_right (one_in x i) _ h) in
        let r = (sparse_agrees ids (λ c a. T true) (λ c a. true) (λ c a. itself true) (ok (valid_of x i)) (record { ids = first_buffer x i; children = λ c. child_of x (node c) }) off len).sound (subst T (sym l) tt) in
        (one_first o, omega (arith, first_size o, r.hold), λ c m. omega (arith, r.long c m))

    pub dense_here : (ids : List ℕ) (node : ℕ → ℕ) → dense_rule x i ids node ≡ true → Inside x i 3 × Inside x i 5 × ((s + n) * 1 ≤ place x i 4) × ((s + n) * 4 ≤ place x i 6)
    dense_here ids node h =
        let o = and_left (two_in x i) _ h in
        let l = slots_by false (dense_test ids (λ c a. true)) (record { ids = first_buffer x i; positions = second_buffer x i; children = λ c. child_of x (node c) }) (and_right (two_in x i) _ h) in
        let r = (dense_agrees ids (λ c a. T true) (λ c a. true) (λ c a. itself true) (ok (valid_of x i)) (record { ids = first_buffer x i; positions = second_buffer x i; children = λ c. child_of x (node c) }) off len).sound (subst T (sym l) tt) in
        (one_first (two_one o), two_second o, omega (arith, first_size (two_one o), r.hold_ids), less 4 (place x i 6) (omega (arith, second_size o, r.hold_positions)))

    pub key_here : (m : Number) → dictionary_rule x i m ≡ true → Inside x i 3 × ((s + n) * width m ≤ place x i 4)
    key_here m h =
        let o = and_left (one_in x i) _ h in
        let l = slots_by true (dictionary_test m (λ a. true)) (record { keys = first_buffer x i; values = child_of x (suc i); starts = [] }) (and_right (one_in x i) _ h) in
        let r = (dictionary_agrees (λ a. T true) (λ a. true) (λ a. itself true) m (ok (valid_of x i)) (record { keys = first_buffer x i; values = child_of x (suc i); starts = [] }) off len).sound (subst T (sym l) tt) in
        (one_first o, less (width m) (place x i 4) (omega (arith, first_size o, r.hold)))

    -- the run ends' own rule says where they lie
    pub run_here : (w : ℕ) → run_end_rule x i w ≡ true → Inside x (suc i) 3 → RunsHere x i w s n × (length_of x (suc (suc i)) ≡ length_of x (suc i))
    run_here w h q =
        let l = slots_by false (run_end_test w (λ a. true)) (record { ends = array_with x (first_buffer x (suc i)) (suc i); values = child_of x (suc (suc i)) }) (and_right (held x i && valid_in x i) _ h) in
        let r = (run_end_agrees (λ a. T true) (λ a. true) (λ a. itself true) w (ok (valid_of x i)) (record { ends = array_with x (first_buffer x (suc i)) (suc i); values = child_of x (suc (suc i)) }) off len).sound (subst T (sym l) tt) in
        (record { inside = q; hold = omega (arith, r.hold, part_size x.body (place x (suc i) 3) (place x (suc i) 4) q); rises = r.rises; covers = omega (arith, r.covers) }, r.as_many)
