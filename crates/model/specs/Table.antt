-- The starred rows K1 to K12 of 01's table of checked rows, K16, K17, K18 of lists (02, W4), and K3 followed by 2 nulls (02, W14): what the definitions give, and what 01 says. Assumes nothing.
use Rattle.std.specs.Prelude.{Bool, true, false, cond, List, [], ◌∷◌, ◌++◌, ℕ, zero, suc, ◌+◌, ◌*◌, replicate}
use Rattle.std.proofs.Math.Option.{Option, none, some}
use Rattle.number.specs.Number.{encode}
use Rattle.columnar.specs.Row.{seg}
use Rattle.columnar.specs.Types.{Number, int, uint, w1, Plain, fixed, string, Ty, t_plain, t_list_view, t_list, t_dense, t_run_end, t_dictionary}
use Rattle.columnar.specs.Array.{Array, item, null_count_of}
use Rattle.columnar.specs.Plain.{Text}
use Rattle.columnar.specs.ListView.{ListView}
use Rattle.columnar.specs.Union.{Dense}
use Rattle.columnar.specs.RunEnd.{RunEnd}
use Rattle.columnar.specs.Dictionary.{Dictionary}
use Rattle.columnar.specs.Reading.{Body, Column, read_all}
use Rattle.columnar.specs.Test.{test}
use Rattle.model.specs.Try.{Try, done, stop, then, map_try}
use Rattle.model.specs.Mutable.{Mutable}
use Rattle.model.specs.Runs.{runs_null}
use Rattle.model.specs.Book.{Call, copy, nulls}
use Rattle.model.specs.Transform.{Destination, try_with_capacities, try_extend, try_extend_nulls, into_builder}
use Rattle.model.specs.TableRows.{rows_shown}

-- numbers of w bytes, and back: n of them
abbrev pub coded : ℕ → List ℕ → List ℕ
coded w [] = []
coded w (x ∷ l) = encode w x ++ coded w l

abbrev pub decoded : ℕ → List ℕ → ℕ → List ℕ
decoded w s n = seg (item w s) 0 n

-- an array with offset 0 and no validity
abbrev pub whole : {B : Type 0} → ℕ → B → Array B
whole n b = record { len = n; off = 0; valid = none; body = b }

-- sources in order
abbrev pub sources : {A : Type 0} → A → List A → ℕ → A
sources x [] j = x
sources x (y ∷ l) zero = x
sources x (y ∷ l) (suc j) = sources y l j

-- the opening, then the orders up to the first refusal
module _ (gaps : Bool) (t : Ty) (keep : Bool) (m : ℕ) (ss : ℕ → Column t) where
  abbrev pub one : Call → Destination t → Try (Destination t)
  one (copy j a e) d = try_extend t m ss j a e d
  one (nulls n) d = try_extend_nulls (λ D. runs_null {D = D}) t n d

  abbrev pub all : List Call → Destination t → Try (Destination t)
  all [] d = done d
  all (o ∷ os) d = then (one o d) (all os)

  abbrev pub joined : List Call → Try (Destination t)
  joined os = then (try_with_capacities gaps t keep m ss) (all os)

-- ---- run ends: K1 to K4

-- run ends 2, 5, 9, values A B C, offset 1, length 8
abbrev pub runs129 : Column (t_run_end 4 (t_plain (fixed (uint w1))))
runs129 = record { len = 8; off = 1; valid = none; body = record { ends = whole 3 (coded 4 (2 ∷ 5 ∷ 9 ∷ [])); values = whole 3 (65 ∷ 66 ∷ 67 ∷ []) } }

-- bits, where they are kept
abbrev pub shown_bits : List Bool → List ℕ
shown_bits [] = []
shown_bits (b ∷ l) = cond b 1 0 ∷ shown_bits l

abbrev pub kept_bits : Option (List Bool) → List ℕ
kept_bits none = []
kept_bits (some l) = shown_bits l

-- its run ends, then its values, then the values' bits, then how many nulls are counted
abbrev pub runs_shown : (w : ℕ) → Destination (t_run_end w (t_plain (fixed (uint w1)))) → List ℕ
runs_shown w d =
    decoded w d.«data».ends.«data» d.«data».ends.len ++ d.«data».values.«data» ++ kept_bits d.«data».values.bits ++ (d.null_count ∷ [])

abbrev pub k123 : Bool → List Call → Try (List ℕ)
k123 gaps os = map_try (runs_shown 4) (joined gaps (t_run_end 4 (t_plain (fixed (uint w1)))) true 1 (sources runs129 []) os)

-- one run of 32,767 rows, value 9
abbrev pub run_long : Column (t_run_end 2 (t_plain (fixed (uint w1))))
run_long = record { len = 32767; off = 0; valid = none; body = record { ends = whole 1 (coded 2 (32767 ∷ [])); values = whole 1 (9 ∷ []) } }

abbrev pub k4 : ℕ → Try (List ℕ)
k4 n = map_try (runs_shown 2) (joined false (t_run_end 2 (t_plain (fixed (uint w1)))) false 1 (sources run_long []) (copy 0 0 32766 ∷ copy 0 0 n ∷ []))

-- ---- byte strings: K5, K6

-- "vanstop" with offsets 0, 3, 3, 7
abbrev pub vanstop : Column (t_plain (string 4))
vanstop = whole 3 (record { offsets = coded 4 (0 ∷ 3 ∷ 3 ∷ 7 ∷ []); chars = 118 ∷ 97 ∷ 110 ∷ 115 ∷ 116 ∷ 111 ∷ 112 ∷ [] })

-- one row of ten bytes
abbrev pub ten : Column (t_plain (string 4))
ten = whole 1 (record { offsets = coded 4 (0 ∷ 10 ∷ []); chars = replicate 10 46 })

-- the offsets, then the bytes
abbrev pub text_shown : Destination (t_plain (string 4)) → List ℕ
text_shown d = decoded 4 d.«data».offsets (suc d.len) ++ d.«data».chars

abbrev pub k56 : List Call → Try (List ℕ)
k56 os = map_try text_shown (joined false (t_plain (string 4)) true 2 (sources vanstop (ten ∷ [])) (copy 1 0 1 ∷ copy 0 1 3 ∷ os))

-- ---- dictionaries: K7 to K10

-- one key, over n entries of one byte that begin at a place of their own and have no validity
abbrev pub keyed : (k : Number) → Option (List ℕ) → ℕ → ℕ → ℕ → Column (t_dictionary k (fixed (uint w1)))
keyed k v key n place = record { len = 1; off = 0; valid = v; body = record { keys = key ∷ []; values = whole n (replicate n 0); starts = 0 ∷ place ∷ [] } }

-- the first source has key 0, or under a null where it has no entry; the second one's row is copied
abbrev pub first_keyed : (k : Number) → ℕ → Column (t_dictionary k (fixed (uint w1)))
first_keyed k zero = keyed k (some (0 ∷ [])) 0 0 0
first_keyed k (suc n) = keyed k none 0 (suc n) 0

abbrev pub k79 : (k : Number) → Option (List ℕ) → ℕ → ℕ → ℕ → Try (List ℕ)
k79 k v n key n' =
    map_try (λ (d : Destination (t_dictionary k (fixed (uint w1)))). d.«data»)
    (joined false (t_dictionary k (fixed (uint w1))) false 2 (sources (first_keyed k n) (keyed k v key n' 1000 ∷ [])) (copy 1 0 1 ∷ []))

-- ---- one dictionary that both sources share: K16

-- n entries that begin at the same place in both sources; the second one's row, of the last key, is copied
abbrev pub k16 : ℕ → ℕ → Try (List ℕ)
k16 n key =
    map_try (λ (d : Destination (t_dictionary (uint w1) (fixed (uint w1)))). d.«data»)
    (joined false (t_dictionary (uint w1) (fixed (uint w1))) false 2 (sources (keyed (uint w1) none 0 n 1000) (keyed (uint w1) none key n 1000 ∷ [])) (copy 1 0 1 ∷ []))

-- two entries, the second null, whose validity begins at a place of its own
abbrev pub masked_at : ℕ → Column (t_dictionary (uint w1) (fixed (uint w1)))
masked_at place =
    record {
      len = 1;
      off = 0;
      valid = none;
      body = record { keys = 0 ∷ []; values = record { len = 2; off = 0; valid = some (1 ∷ []); body = 7 ∷ 7 ∷ [] }; starts = place ∷ 1000 ∷ [] };
    }

-- the entries begin at the same place; their validity at these
abbrev pub k16masked : ℕ → ℕ → Try (List ℕ)
k16masked first second =
    map_try (λ (d : Destination (t_dictionary (uint w1) (fixed (uint w1)))). d.«data»)
    (joined false (t_dictionary (uint w1) (fixed (uint w1))) false 2 (sources (masked_at first) (masked_at second ∷ [])) (copy 1 0 1 ∷ []))

-- ---- a dictionary with a null entry: K17

abbrev pub named : Ty
named = t_dictionary (uint w1) (string 4)

-- keys 0, 1, 2 of the entries Ana, null and Bo; and the same behind another key and another entry, at offset 1
abbrev pub drivers : Column named
drivers =
    whole 3
    (record {
      keys = 0 ∷ 1 ∷ 2 ∷ [];
      values = record { len = 3; off = 0; valid = some (0b101 ∷ []); body = record { offsets = coded 4 (0 ∷ 3 ∷ 3 ∷ 5 ∷ []); chars = 65 ∷ 110 ∷ 97 ∷ 66 ∷ 111 ∷ [] } };
      starts = 1 ∷ 8 ∷ 24 ∷ [];
    })

abbrev pub drivers_sliced : Column named
drivers_sliced =
    record {
      len = 3;
      off = 1;
      valid = none;
      body =
          record {
            keys = 2 ∷ 0 ∷ 1 ∷ 2 ∷ [];
            values = record { len = 3; off = 1; valid = some (0b1011 ∷ []); body = record { offsets = coded 4 (0 ∷ 1 ∷ 4 ∷ 4 ∷ 6 ∷ []); chars = 46 ∷ 65 ∷ 110 ∷ 97 ∷ 66 ∷ 111 ∷ [] } };
            starts = 33 ∷ 40 ∷ 60 ∷ [];
          };
    }

-- another dictionary of two, without nulls
abbrev pub depot : Column named
depot = whole 1 (record { keys = 1 ∷ []; values = whole 2 (record { offsets = coded 4 (0 ∷ 1 ∷ 2 ∷ []); chars = 67 ∷ 68 ∷ [] }); starts = 0 ∷ 70 ∷ 82 ∷ [] })

-- the keys, the running null count, the finished null counts of the keys and of the values, then the rows
abbrev pub keys_shown : (ℕ → Column named) → Destination named → List ℕ
keys_shown ss d =
    let x = into_builder named 2 ss d in
    d.«data» ++ (d.null_count ∷ null_count_of x ∷ null_count_of x.body.values ∷ []) ++ rows_shown (read_all named x)

-- source 1's rows behind source 0's dictionary
abbrev pub k17 : Column named → Column named → Try (List ℕ)
k17 x y = let ss = sources x (y ∷ []) in map_try (keys_shown ss) (joined false named false 2 ss (copy 1 0 3 ∷ []))

-- ---- list-views: K11

-- over a child of 10 rows; and one row that is all of such a child
abbrev pub lists_of : ℕ → List ℕ → List ℕ → Column (t_list_view 4 (t_plain (fixed (uint w1))))
lists_of n offsets sizes = whole n (record { offsets = coded 4 offsets; sizes = coded 4 sizes; child = whole 10 (seg (λ i. i) 0 10) })

-- offsets 4, 0, sizes 2, 3
abbrev pub lists : Column (t_list_view 4 (t_plain (fixed (uint w1))))
lists = lists_of 2 (4 ∷ 0 ∷ []) (2 ∷ 3 ∷ [])

-- a row of size 0 between them, which names row 9 of the child
abbrev pub empty_among : Column (t_list_view 4 (t_plain (fixed (uint w1))))
empty_among = lists_of 3 (4 ∷ 9 ∷ 0 ∷ []) (2 ∷ 0 ∷ 3 ∷ [])

abbrev pub list_ten : Column (t_list_view 4 (t_plain (fixed (uint w1))))
list_ten = whole 1 (record { offsets = coded 4 (0 ∷ []); sizes = coded 4 (10 ∷ []); child = whole 10 (replicate 10 7) })

-- the offsets and sizes, then the child's length
abbrev pub lists_shown : Destination (t_list_view 4 (t_plain (fixed (uint w1)))) → List ℕ
lists_shown d = decoded 4 d.«data».buffer1 d.len ++ decoded 4 d.«data».buffer2 d.len ++ (d.«data».child.len ∷ [])

abbrev pub k11 : Column (t_list_view 4 (t_plain (fixed (uint w1)))) → Try (List ℕ)
k11 x = map_try lists_shown (joined false (t_list_view 4 (t_plain (fixed (uint w1)))) false 2 (sources x (list_ten ∷ [])) (copy 1 0 1 ∷ copy 0 0 x.len ∷ []))

-- ---- lists: K18

-- offsets 0, 2, 2, 5 over a child of 5 rows; and one row of ten
abbrev pub trips : Column (t_list 4 (t_plain (fixed (uint w1))))
trips = whole 3 (record { offsets = coded 4 (0 ∷ 2 ∷ 2 ∷ 5 ∷ []); child = whole 5 (seg (λ i. i) 0 5) })

abbrev pub trip_ten : Column (t_list 4 (t_plain (fixed (uint w1))))
trip_ten = whole 1 (record { offsets = coded 4 (0 ∷ 10 ∷ []); child = whole 10 (replicate 10 7) })

-- the offsets, then the child's rows
abbrev pub trips_shown : Destination (t_list 4 (t_plain (fixed (uint w1)))) → List ℕ
trips_shown d = decoded 4 d.«data».buffer1 (suc d.len) ++ d.«data».child.«data»

abbrev pub k18 : List Call → Try (List ℕ)
k18 os = map_try trips_shown (joined false (t_list 4 (t_plain (fixed (uint w1)))) true 2 (sources trips (trip_ten ∷ [])) (copy 1 0 1 ∷ copy 0 1 3 ∷ os))

-- ---- dense unions: K12

abbrev pub fives : Ty
fives = t_dense (5 ∷ 7 ∷ []) (λ c. true) (λ c. t_plain (fixed (uint w1)))

abbrev pub kids : ℕ → Array (List ℕ)
kids c = whole 3 (1 ∷ 2 ∷ 3 ∷ [])

-- ids 7, 5, 7; and two rows of id 5
abbrev pub sevens : Column fives
sevens = whole 3 (record { ids = 7 ∷ 5 ∷ 7 ∷ []; positions = coded 4 (0 ∷ 0 ∷ 1 ∷ []); children = kids })

abbrev pub two_fives : Column fives
two_fives = whole 2 (record { ids = 5 ∷ 5 ∷ []; positions = coded 4 (0 ∷ 1 ∷ []); children = kids })

-- the positions
abbrev pub positions_shown : Destination fives → List ℕ
positions_shown d = decoded 4 d.«data».buffer2 d.len

abbrev pub k12 : Try (List ℕ)
k12 = map_try positions_shown (joined false fives false 2 (sources sevens (two_fives ∷ [])) (copy 1 0 2 ∷ copy 0 0 3 ∷ []))

-- ---- THE TABLE: what the definitions give

abbrev pub given : List (Try (List ℕ))
given =
    k123 false (copy 0 1 5 ∷ [])  -- K1
    ∷ k123 false (copy 0 1 5 ∷ copy 0 1 5 ∷ [])  -- K2
    ∷ k123 false (copy 0 1 5 ∷ copy 0 1 5 ∷ nulls 5 ∷ [])  -- K3
    ∷ k123 true (copy 0 1 5 ∷ copy 0 1 5 ∷ nulls 5 ∷ nulls 2 ∷ [])  -- K3 followed by 2 nulls, one run for nulls
    ∷ k123 false (copy 0 1 5 ∷ copy 0 1 5 ∷ nulls 5 ∷ nulls 2 ∷ [])  -- .. and a run for each order
    ∷ k4 1  -- K4
    ∷ k4 2
    ∷ k56 []  -- K5
    ∷ k56 (nulls 2 ∷ [])  -- K6
    ∷ k79 (uint w1) none 200 55 56  -- K7
    ∷ k79 (uint w1) none 200 55 57  -- K8
    ∷ k79 (uint w1) (some (0 ∷ [])) 256 0 0  -- K9: a key under a null, since there is no entry
    ∷ k79 (uint w1) none 0 0 256
    ∷ k79 (uint w1) (some (0 ∷ [])) 200 250 1  -- K10
    ∷ k79 (int w1) (some (0 ∷ [])) 100 100 1
    ∷ k11 lists  -- K11
    ∷ k11 empty_among  -- .. "also for size 0"
    ∷ k12  -- K12
    ∷ k16 256 255  -- K16
    ∷ k16 257 255
    ∷ k16masked 5 5  -- "validity likewise": shared, so the key stays
    ∷ k16masked 5 6  -- not shared: it is rebased
    ∷ k17 depot drivers  -- K17
    ∷ k17 depot drivers_sliced
    ∷ k17 drivers_sliced drivers_sliced  -- shared: the dictionary is kept
    ∷ k18 []  -- K18
    ∷ k18 (nulls 2 ∷ [])
    ∷ []

-- and what 01 says, with what stood there before
abbrev pub expected : List (Try (List ℕ))
expected =
    done (3 ∷ 4 ∷ 66 ∷ 67 ∷ 1 ∷ 1 ∷ 0 ∷ [])
    ∷ done (3 ∷ 4 ∷ 7 ∷ 8 ∷ 66 ∷ 67 ∷ 66 ∷ 67 ∷ 1 ∷ 1 ∷ 1 ∷ 1 ∷ 0 ∷ [])
    ∷ done (3 ∷ 4 ∷ 7 ∷ 8 ∷ 13 ∷ 66 ∷ 67 ∷ 66 ∷ 67 ∷ 0 ∷ 1 ∷ 1 ∷ 1 ∷ 1 ∷ 0 ∷ 5 ∷ [])  -- the fifth value's bit is 0
    ∷ done (3 ∷ 4 ∷ 7 ∷ 8 ∷ 15 ∷ 66 ∷ 67 ∷ 66 ∷ 67 ∷ 0 ∷ 1 ∷ 1 ∷ 1 ∷ 1 ∷ 0 ∷ 7 ∷ [])
    ∷ done (3 ∷ 4 ∷ 7 ∷ 8 ∷ 13 ∷ 15 ∷ 66 ∷ 67 ∷ 66 ∷ 67 ∷ 0 ∷ 0 ∷ 1 ∷ 1 ∷ 1 ∷ 1 ∷ 0 ∷ 0 ∷ 7 ∷ [])
    ∷ done (32766 ∷ 32767 ∷ 9 ∷ 9 ∷ 0 ∷ [])
    ∷ stop 7
    ∷ done (0 ∷ 10 ∷ 10 ∷ 14 ∷ replicate 10 46 ++ (115 ∷ 116 ∷ 111 ∷ 112 ∷ []))
    ∷ done (0 ∷ 10 ∷ 10 ∷ 14 ∷ 14 ∷ 14 ∷ replicate 10 46 ++ (115 ∷ 116 ∷ 111 ∷ 112 ∷ []))
    ∷ done (255 ∷ [])
    ∷ stop 8
    ∷ stop 8
    ∷ done (0 ∷ [])
    ∷ done (194 ∷ [])
    ∷ done (200 ∷ [])  -- -56 in two's complement
    ∷ done (0 ∷ 10 ∷ 12 ∷ 10 ∷ 2 ∷ 3 ∷ 15 ∷ [])
    ∷ done (0 ∷ 10 ∷ 12 ∷ 12 ∷ 10 ∷ 2 ∷ 0 ∷ 3 ∷ 15 ∷ [])
    ∷ done (0 ∷ 1 ∷ 0 ∷ 2 ∷ 1 ∷ [])
    ∷ done (255 ∷ [])
    ∷ stop 8
    ∷ done (0 ∷ [])
    ∷ done (2 ∷ [])
    ∷ done (2 ∷ 3 ∷ 4 ∷ 0 ∷ 0 ∷ 1 ∷ 4 ∷ 65 ∷ 110 ∷ 97 ∷ 0 ∷ 3 ∷ 66 ∷ 111 ∷ [])  -- Ana, null, Bo
    ∷ done (2 ∷ 3 ∷ 4 ∷ 0 ∷ 0 ∷ 1 ∷ 4 ∷ 65 ∷ 110 ∷ 97 ∷ 0 ∷ 3 ∷ 66 ∷ 111 ∷ [])
    ∷ done (0 ∷ 1 ∷ 2 ∷ 0 ∷ 0 ∷ 1 ∷ 4 ∷ 65 ∷ 110 ∷ 97 ∷ 0 ∷ 3 ∷ 66 ∷ 111 ∷ [])
    ∷ done (0 ∷ 10 ∷ 10 ∷ 13 ∷ replicate 10 7 ++ (2 ∷ 3 ∷ 4 ∷ []))
    ∷ done (0 ∷ 10 ∷ 10 ∷ 13 ∷ 13 ∷ 13 ∷ replicate 10 7 ++ (2 ∷ 3 ∷ 4 ∷ []))
    ∷ []

-- ---- ground 12 of every source above: each obeys the rules of a source

abbrev pub obeyed : List Bool
obeyed =
    test (t_run_end 4 (t_plain (fixed (uint w1)))) runs129
    ∷ test (t_run_end 2 (t_plain (fixed (uint w1)))) run_long
    ∷ test (t_plain (string 4)) vanstop
    ∷ test (t_plain (string 4)) ten
    ∷ test (t_dictionary (uint w1) (fixed (uint w1))) (first_keyed (uint w1) 200)
    ∷ test (t_dictionary (uint w1) (fixed (uint w1))) (keyed (uint w1) none 55 56 1000)
    ∷ test (t_dictionary (uint w1) (fixed (uint w1))) (keyed (uint w1) none 55 57 1000)
    ∷ test (t_dictionary (uint w1) (fixed (uint w1))) (first_keyed (uint w1) 256)
    ∷ test (t_dictionary (uint w1) (fixed (uint w1))) (keyed (uint w1) (some (0 ∷ [])) 0 0 1000)
    ∷ test (t_dictionary (uint w1) (fixed (uint w1))) (first_keyed (uint w1) 0)
    ∷ test (t_dictionary (uint w1) (fixed (uint w1))) (keyed (uint w1) none 0 256 1000)
    ∷ test (t_dictionary (uint w1) (fixed (uint w1))) (keyed (uint w1) (some (0 ∷ [])) 250 1 1000)
    ∷ test (t_dictionary (int w1) (fixed (uint w1))) (first_keyed (int w1) 100)
    ∷ test (t_dictionary (int w1) (fixed (uint w1))) (keyed (int w1) (some (0 ∷ [])) 100 1 1000)
    ∷ test (t_dictionary (uint w1) (fixed (uint w1))) (keyed (uint w1) none 255 256 1000)
    ∷ test (t_dictionary (uint w1) (fixed (uint w1))) (keyed (uint w1) none 255 257 1000)
    ∷ test (t_dictionary (uint w1) (fixed (uint w1))) (masked_at 5)
    ∷ test (t_list_view 4 (t_plain (fixed (uint w1)))) lists
    ∷ test (t_list_view 4 (t_plain (fixed (uint w1)))) empty_among
    ∷ test (t_list_view 4 (t_plain (fixed (uint w1)))) list_ten
    ∷ test fives sevens
    ∷ test fives two_fives
    ∷ test named drivers
    ∷ test named drivers_sliced
    ∷ test named depot
    ∷ test (t_list 4 (t_plain (fixed (uint w1)))) trips
    ∷ test (t_list 4 (t_plain (fixed (uint w1)))) trip_ten
    ∷ []
