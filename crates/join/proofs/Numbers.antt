-- Which numbers an order can be answered after an accepted opening: none of those for foreign memory. Assumes nothing.
use mathlib.Core.Bool.{Bool, true, false, cond, ◌&&◌}
use mathlib.Core.Path.{◌≡◌, refl}
use mathlib.Core.List.{List, [], ◌∷◌}
use Prim.Native.Nat.{ℕ, zero, suc, ◌+◌, ◌-◌, ◌≤◌, min}
use native.Mathlib.Omega.{arith}
use lib.ListN.{get_or}
use lib.Dec.{ltb, leb, eqb}
use Rattle.columnar.specs.Types.{half, fixed, string, Ty, t_plain, t_view, t_list_view, t_list, t_sparse, t_dense, t_run_end, t_dictionary}
use Rattle.columnar.specs.Array.{item}
use Rattle.columnar.specs.Plain.{PlainBody}
use Rattle.columnar.specs.ListView.{ListView}
use Rattle.columnar.specs.List.{Listed}
use Rattle.columnar.specs.Union.{Dense}
use Rattle.columnar.specs.RunEnd.{RunEnd}
use Rattle.columnar.specs.Reading.{Body, Column}
use Rattle.model.specs.Try.{Try, done, stop, then, guard, steps_t}
use Rattle.model.specs.Ordered.{first_nullable, home}
use Rattle.model.specs.Grounds.{Counts, counts, leaf, rows_of, bytes_of, kid_of, with_kid, Ask, ask_of, each, sparse_all, plain_ask, list_view_row, list_view_ask, list_ask, dense_row, dense_ask, first_run, run_count, run_end_ask, ask_copy, AskNulls, unless_none, dense_nulls, run_end_nulls, nulls_ask, ask_nulls}
use Rattle.model.specs.Book.{Call, copy, nulls, answer}
use Rattle.refinement.specs.orders.Counted.{room_for, answer_room}
use Rattle.refinement.proofs.orders.Booked.{ground_of}

-- an answer that is a refusal is one of these numbers
abbrev Stops : {A : Type 0} → (ℕ → Type 0) → Try A → Type 0
Stops P (done x) = Unit {0}
Stops P (stop g) = P g

module _ (P : ℕ → Type 0) where
  stops_then : {A B : Type 0} (p : Try A) (f : A → Try B) → Stops P p → ((x : A) → Stops P (f x)) → Stops P (then p f)
  stops_then (done x) f h k = k x
  stops_then (stop g) f h k = h

  stops_guard : {A : Type 0} (b : Bool) (g : ℕ) (p : Try A) → P g → Stops P p → Stops P (guard b g p)
  stops_guard true g p h k = k
  stops_guard false g p h k = h

  stops_cond : {A : Type 0} (b : Bool) (p q : Try A) → Stops P p → Stops P q → Stops P (cond b p q)
  stops_cond true p q h k = h
  stops_cond false p q h k = k

  stops_steps : {A : Type 0} (f : ℕ → A → Try A) → ((i : ℕ) (x : A) → Stops P (f i x)) → (a n : ℕ) (x : A) → Stops P (steps_t f a n x)
  stops_steps f h a zero x = tt
  stops_steps f h a (suc n) x = stops_then (f a x) (steps_t f (suc a) n) (h a x) (λ y. stops_steps f h (suc a) n y)

  stops_each : (f : ℕ → Try Counts) (ids : List ℕ) (t : Try Counts) → ((e : ℕ) → Stops P (f e)) → Stops P t → Stops P (each f ids t)
  stops_each f [] t h k = k
  stops_each f (c ∷ cs) t h k = stops_then (f c) (λ x. each f cs t) (h c) (λ x. stops_each f cs t h k)

-- 1 to 7, of whoever gives orders or has too much data
abbrev Low : ℕ → Type 0
Low g = g ≤ 7

first_low : (nullable : ℕ → Bool) (ids : List ℕ) → Stops Low (first_nullable nullable ids)
first_low nullable [] = omega arith
first_low nullable (c ∷ cs) = go (nullable c) (first_low nullable cs)
  where
    go : (b : Bool) → Stops Low (first_nullable nullable cs) → Stops {A = ℕ} Low (elim b [ true ↦ done c | false ↦ first_nullable nullable cs ])
    go true h = tt
    go false h = h

home_low : (nullable : ℕ → Bool) (ids : List ℕ) → Stops Low (home nullable ids)
home_low nullable [] = omega arith
home_low nullable (c ∷ cs) = first_low nullable (c ∷ cs)

-- ---- copies

abbrev LowAsk : Ask → Type 0
LowAsk ask = (a n : ℕ) (c : Counts) → Stops Low (ask a n c)

string_low : (w : ℕ) (b : PlainBody (string w)) → LowAsk (plain_ask (string w) b)
string_low w b a n c =
    let x = bytes_of c + (item w b.offsets (a + n) - item w b.offsets a) in
    stops_guard Low (ltb x (half w)) 6 (done (counts (rows_of c + n) x leaf)) (omega arith) tt

list_low : {P : Type 0} (w : ℕ) (ask : P → Ask) → ((b : P) → LowAsk (ask b)) → (b : ListView P) → LowAsk (list_view_ask w ask b)
list_low w ask h b =
    stops_steps Low (list_view_row w ask b)
    (λ i c. let p = ask_of ask b.child (item w b.offsets i) (item w b.sizes i) (kid_of c 0) in
    let f : Counts → Try Counts = λ k. done (counts (suc (rows_of c)) 0 (λ e. k)) in
    stops_guard Low (ltb (rows_of (kid_of c 0) + item w b.sizes i) (half w)) 6 (then p f) (omega arith)
    (stops_then Low p f (h b.child.body (b.child.off + item w b.offsets i) (item w b.sizes i) (kid_of c 0)) (λ k. tt)))

lists_low : {P : Type 0} (w : ℕ) (ask : P → Ask) → ((b : P) → LowAsk (ask b)) → (b : Listed P) → LowAsk (list_ask w ask b)
lists_low w ask h b a zero c = tt
lists_low w ask h b a (suc n) c =
    let y = item w b.offsets (a + suc n) - item w b.offsets a in
    let p = ask_of ask b.child (item w b.offsets a) y (kid_of c 0) in
    let f : Counts → Try Counts = λ k. done (counts (rows_of c + suc n) 0 (λ e. k)) in
    stops_guard Low (ltb (rows_of (kid_of c 0) + y) (half w)) 6 (then p f) (omega arith)
    (stops_then Low p f (h b.child.body (b.child.off + item w b.offsets a) y (kid_of c 0)) (λ k. tt))

dense_low : {P : ℕ → Type 0} (ask : (c : ℕ) → P c → Ask) → ((e : ℕ) (b : P e) → LowAsk (ask e b)) → (b : Dense P) → LowAsk (dense_ask ask b)
dense_low ask h b =
    stops_steps Low (dense_row ask b)
    (λ i c. let e = get_or b.ids i 0 in
    let p = ask_of (ask e) (b.children e) (item 4 b.positions i) 1 (kid_of c e) in
    let f : Counts → Try Counts = λ k. done (counts (suc (rows_of c)) 0 (with_kid c e k)) in
    stops_guard Low (ltb (rows_of (kid_of c e)) (half 4)) 6 (then p f) (omega arith)
    (stops_then Low p f (h e (b.children e).body ((b.children e).off + item 4 b.positions i) 1 (kid_of c e)) (λ k. tt)))

run_low : {P : Type 0} (w : ℕ) (ask : P → Ask) → ((b : P) → LowAsk (ask b)) → (b : RunEnd P) → LowAsk (run_end_ask w ask b)
run_low w ask h b a zero c = tt
run_low w ask h b a (suc n) c =
    let p = ask_of ask b.values (first_run w b a) (run_count w b a (suc n)) (kid_of c 0) in
    let f : Counts → Try Counts = λ k. done (counts (rows_of c + suc n) (min (bytes_of c) 1) (λ e. k)) in
    stops_guard Low (ltb (rows_of c + suc n) (half w)) 7 (then p f) (omega arith)
    (stops_then Low p f (h b.values.body (b.values.off + first_run w b a) (run_count w b a (suc n)) (kid_of c 0)) (λ k. tt))

copy_low : (t : Ty) (b : Body t) → LowAsk (ask_copy t b)
copy_low (t_plain (fixed k)) b = λ a n c. tt
copy_low (t_plain (string w)) b = string_low w b
copy_low t_view b = λ a n c. tt
copy_low (t_list_view w t) b = list_low w (ask_copy t) (copy_low t) b
copy_low (t_list w t) b = lists_low w (ask_copy t) (copy_low t) b
copy_low (t_sparse ids nullable f) b = λ a n c.
    stops_each Low (λ e. ask_of (ask_copy (f e)) (b.children e) a n (kid_of c e)) ids (done _) (λ e. copy_low (f e) (b.children e).body ((b.children e).off + a) n (kid_of c e)) tt
copy_low (t_dense ids nullable f) b = dense_low (λ e. ask_copy (f e)) (λ e. copy_low (f e)) b
copy_low (t_run_end w t) b = run_low w (ask_copy t) (copy_low t) b
copy_low (t_dictionary k p) b = λ a n c. tt

-- ---- nulls

abbrev LowNulls : AskNulls → Type 0
LowNulls ask = (n : ℕ) (c : Counts) → Stops Low (ask n c)

unless_low : (ask : AskNulls) → LowNulls ask → LowNulls (unless_none ask)
unless_low ask h zero c = tt
unless_low ask h (suc n) c = h (suc n) c

dense_nulls_low : (ids : List ℕ) (nullable : ℕ → Bool) (ask : ℕ → AskNulls) → ((e : ℕ) → LowNulls (ask e)) → LowNulls (dense_nulls ids nullable ask)
dense_nulls_low ids nullable ask h n c =
    let f : ℕ → Counts → Try Counts = λ e k. done (counts (rows_of c + n) 0 (with_kid c e k)) in
    stops_then Low (home nullable ids) (λ e. guard (leb (rows_of (kid_of c e) + n) (half 4)) 6 (then (ask e n (kid_of c e)) (f e))) (home_low nullable ids)
    (λ e. stops_guard Low (leb (rows_of (kid_of c e) + n) (half 4)) 6 (then (ask e n (kid_of c e)) (f e)) (omega arith) (stops_then Low (ask e n (kid_of c e)) (f e) (h e n (kid_of c e)) (λ k. tt)))

run_nulls_low : (w : ℕ) (ask : AskNulls) → LowNulls ask → LowNulls (run_end_nulls w ask)
run_nulls_low w ask h n c =
    let f : Counts → Try Counts = λ k. done (counts (rows_of c + n) (cond (eqb (bytes_of c) 0) 0 2) (λ e. k)) in
    let g : Try Counts = done (counts (rows_of c + n) 2 (λ e. kid_of c 0)) in
    stops_cond Low (eqb (bytes_of c) 2) (guard (ltb (rows_of c + n) (half w)) 7 g) (then (ask 1 (kid_of c 0)) (λ k. guard (ltb (rows_of c + n) (half w)) 7 (f k)))
    (stops_guard Low (ltb (rows_of c + n) (half w)) 7 g (omega arith) tt)
    (stops_then Low (ask 1 (kid_of c 0)) (λ k. guard (ltb (rows_of c + n) (half w)) 7 (f k)) (h 1 (kid_of c 0)) (λ k. stops_guard Low (ltb (rows_of c + n) (half w)) 7 (f k) (omega arith) tt))

fill_low : (t : Ty) → LowNulls (nulls_ask t)
fill_low (t_plain (fixed k)) = λ n c. tt
fill_low (t_plain (string w)) = λ n c. tt
fill_low t_view = λ n c. tt
fill_low (t_list_view w t) = λ n c. tt
fill_low (t_list w t) = λ n c. tt
fill_low (t_sparse ids nullable f) = λ n c.
    stops_then Low (home nullable ids) (λ h. sparse_all ids (λ e. unless_none (nulls_ask (f e)) n (kid_of c e)) (rows_of c + n)) (home_low nullable ids)
    (λ h. stops_each Low (λ e. unless_none (nulls_ask (f e)) n (kid_of c e)) ids (done _) (λ e. unless_low (nulls_ask (f e)) (fill_low (f e)) n (kid_of c e)) tt)
fill_low (t_dense ids nullable f) = dense_nulls_low ids nullable (λ e. unless_none (nulls_ask (f e))) (λ e. unless_low (nulls_ask (f e)) (fill_low (f e)))
fill_low (t_run_end w t) = run_nulls_low w (unless_none (nulls_ask t)) (unless_low (nulls_ask t) (fill_low t))
fill_low (t_dictionary k p) = λ n c. tt

-- ---- every call

module _ (t : Ty) (keep : Bool) (m : ℕ) (ss : ℕ → Column t) where
  answer_low : (o : Call) (c : Counts) → Stops Low (answer t keep m ss o c)
  answer_low (copy j a e) c =
      let p = ask_of (ask_copy t) (ss j) a (e - a) c in
      stops_guard Low (ltb j m) 1 (guard (leb a e && leb e (ss j).len) 2 p) (omega arith)
      (stops_guard Low (leb a e && leb e (ss j).len) 2 p (omega arith) (copy_low t (ss j).body ((ss j).off + a) (e - a) c))
  answer_low (nulls n) c = stops_guard Low keep 3 (ask_nulls t n c) (omega arith) (unless_low (nulls_ask t) (fill_low t) n c)

  module _ (plan parts : List ℕ) where
    -- 0 to 7, or 13
    pub data Ordinary (g : ℕ) : Type 0 where
      of_order : g ≤ 7 → Ordinary g
      of_room : g ≡ 13 → Ordinary g

    with_room : (p : Try Counts) → Stops Low p → Ordinary (ground_of (then p (λ c. guard (room_for plan parts t 0 c) 13 (done c))))
    with_room (done c) h = go (room_for plan parts t 0 c)
      where
        go : (b : Bool) → Ordinary (ground_of (guard b 13 (done c)))
        go true = of_order (omega arith)
        go false = of_room refl
    with_room (stop g) h = of_order h

    -- THE NUMBER OF EVERY ANSWER by lengths and limits is 0 to 7, or 13
    pub number_among : (o : Call) (c : Counts) → Ordinary (ground_of (answer_room plan parts t keep m ss o c))
    number_among o c = with_room (answer t keep m ss o c) (answer_low o c)
