-- Joins that stop an order, and what is said of them. Assumes nothing.
use Rattle.std.specs.Prelude.{Bool, cond, List, [], ◌∷◌, ◌++◌, ℕ, zero, suc, ◌+◌, ◌*◌, ◌-◌, length, replicate}
use Rattle.walk.specs.State.{top}
use Rattle.model.specs.Book.{Call, copy, nulls}
use Rattle.refinement.specs.orders.Order.{Lent}
use Rattle.explain.specs.declared.stops.Why.{Why}
use Rattle.explain.specs.declared.stops.WhyListed.{WhyListed}
use Rattle.explain.specs.stops.Order.{why_order, why_trip}

-- a node's words: code, end, id, nullable, keeps nulls, first part
abbrev pub node : ℕ → ℕ → ℕ → ℕ → ℕ → ℕ → List ℕ
node code end id nullable keeps part = code ∷ 0 ∷ end ∷ id ∷ nullable ∷ keeps ∷ part ∷ 0 ∷ []

-- the plan of n nodes and one source
abbrev pub plan_of : ℕ → List ℕ → List ℕ
plan_of n words = words ++ replicate (864 - 8 * n) 0 ++ (1 ∷ n ∷ [])

-- counters: rows, nulls and bytes of each node, then zeros
abbrev pub counters_of : List ℕ → List ℕ
counters_of words = words ++ replicate (96 - length words) 0

-- a node's nine places with its two buffers
abbrev pub placed : ℕ → ℕ → List ℕ
placed a b = 0 ∷ 0 ∷ 0 ∷ a ∷ 0 ∷ b ∷ 0 ∷ 0 ∷ 0 ∷ []

-- ---- run ends of 2 or 8 bytes: K4, and a count of 2^64 - 1

abbrev pub runs_with : ℕ → List ℕ → Lent
runs_with code parts =
    record {
      plan = plan_of 3 (node 23 3 0 1 1 0 ++ node code 2 0 0 0 0 ++ node 1 3 0 1 1 2);
      parts = parts;
      sources = 0 ∷ 0 ∷ [];
      lengths = 2 ∷ 0 ∷ 1 ∷ 0 ∷ 1 ∷ 0 ∷ [];
      places = placed 0 0 ++ placed 0 0 ++ placed 2 0;
      body = 2 ∷ 0 ∷ 65 ∷ [];
    }

-- "K4* Int16, last 32766: .. two rows 7"
abbrev pub k4 : Why
k4 = why_order (runs_with 3 []) 0 (counters_of (32766 ∷ 0 ∷ 0 ∷ 1 ∷ 0 ∷ 0 ∷ 1 ∷ 0 ∷ 0 ∷ [])) (copy 0 0 2)

abbrev pub longest_gap : Why
longest_gap = why_order (runs_with 7 []) 0 (counters_of (5 ∷ 0 ∷ 0 ∷ 1 ∷ 0 ∷ 0 ∷ 1 ∷ 0 ∷ 0 ∷ [])) (nulls top)

-- a run that grows asks its values for nothing
abbrev pub grown_gap : Why
grown_gap = why_order (runs_with 3 []) 0 (counters_of (32766 ∷ 0 ∷ 2 ∷ 1 ∷ 0 ∷ 0 ∷ 1 ∷ 0 ∷ 0 ∷ [])) (nulls 2)

-- ---- a byte string of 4-byte offsets, three rows with 1, 4 and 1 bytes: the second is the first that clashes

abbrev pub text : Lent
text =
    record {
      plan = plan_of 1 (node 12 1 0 1 0 0);
      parts = [];
      sources = 0 ∷ 0 ∷ [];
      lengths = 3 ∷ 0 ∷ [];
      places = placed 0 16;
      body = 0 ∷ 0 ∷ 0 ∷ 0 ∷ 1 ∷ 0 ∷ 0 ∷ 0 ∷ 5 ∷ 0 ∷ 0 ∷ 0 ∷ 6 ∷ 0 ∷ 0 ∷ 0 ∷ replicate 6 65;
    }

abbrev pub long_text : Why
long_text = why_order text 0 (counters_of (3 ∷ 0 ∷ 2147483644 ∷ [])) (copy 0 0 3)

-- ---- a list-view of two rows with 1 and 2 items: the second does not fit

abbrev pub lists : Lent
lists =
    record {
      plan = plan_of 2 (node 17 2 0 1 0 0 ++ node 1 2 0 1 0 2);
      parts = [];
      sources = 0 ∷ 0 ∷ [];
      lengths = 2 ∷ 0 ∷ 3 ∷ 0 ∷ [];
      places = placed 0 8 ++ placed 16 0;
      body = replicate 8 0 ++ (1 ∷ 0 ∷ 0 ∷ 0 ∷ 2 ∷ 0 ∷ 0 ∷ 0 ∷ 65 ∷ 66 ∷ 67 ∷ []);
    }

abbrev pub long_lists : Why
long_lists = why_order lists 0 (counters_of (0 ∷ 0 ∷ 0 ∷ 2147483646 ∷ 0 ∷ 0 ∷ [])) (copy 0 0 2)

-- ---- a dense union of one nullable child

abbrev pub dense : ℕ → Lent
dense nullable =
    record {
      plan = plan_of 2 (node 22 2 0 0 1 0 ++ node 1 2 5 nullable 1 3);
      parts = [];
      sources = 0 ∷ 0 ∷ [];
      lengths = 0 ∷ 0 ∷ 0 ∷ 0 ∷ [];
      places = placed 0 0 ++ placed 0 0;
      body = [];
    }

abbrev pub dense_nulls_lem : Why
dense_nulls_lem = why_order (dense 1) 0 (counters_of (7 ∷ 0 ∷ 0 ∷ 2147483640 ∷ 0 ∷ 0 ∷ [])) (nulls 10)

abbrev pub no_home_lem : Why
no_home_lem = why_order (dense 0) 0 (counters_of []) (nulls 1)

-- ---- a dense union in a list-view in a run-end column in a list in a sparse union: five levels down

abbrev pub deep : Lent
deep =
    record {
      plan = plan_of 7 (node 21 7 0 0 0 0 ++ node 19 7 0 1 0 1 ++ node 23 7 0 1 0 2 ++ node 3 4 0 0 0 2 ++ node 17 7 0 1 0 3 ++ node 22 7 0 1 0 5 ++ node 1 7 5 1 0 7);
      parts = [];
      sources = 0 ∷ 0 ∷ [];
      lengths = 1 ∷ 0 ∷ 1 ∷ 0 ∷ 1 ∷ 0 ∷ 1 ∷ 0 ∷ 1 ∷ 0 ∷ 2 ∷ 0 ∷ 2 ∷ 0 ∷ [];
      places = placed 0 0 ++ placed 1 0 ++ placed 0 0 ++ placed 9 0 ++ placed 11 15 ++ placed 19 21 ++ placed 29 0;
      body = 0 ∷ 0 ∷ 0 ∷ 0 ∷ 0 ∷ 1 ∷ 0 ∷ 0 ∷ 0 ∷ 1 ∷ 0 ∷ 0 ∷ 0 ∷ 0 ∷ 0 ∷ 2 ∷ 0 ∷ 0 ∷ 0 ∷ 5 ∷ 5 ∷ 0 ∷ 0 ∷ 0 ∷ 0 ∷ 1 ∷ 0 ∷ 0 ∷ 0 ∷ 66 ∷ 67 ∷ [];
    }

abbrev pub deep_down : Why
deep_down = why_order deep 0 (counters_of (replicate 18 0 ++ (2147483647 ∷ 0 ∷ 0 ∷ []))) (copy 0 0 1)

-- ---- numbers of 1 byte with nulls kept; a part of 1 byte for the bits, and one for the numbers

abbrev pub bytes_in : ℕ → Lent
bytes_in size =
    record {
      plan = plan_of 1 (node 1 1 0 1 1 1);
      parts = 0 ∷ 1 ∷ 1 ∷ size ∷ [];
      sources = 0 ∷ 0 ∷ [];
      lengths = 8 ∷ 0 ∷ [];
      places = placed 0 0;
      body = replicate 8 65;
    }

-- "a part can't hold its bytes": three rows, two bytes
abbrev pub byte_short : Why
byte_short = why_order (bytes_in 2) 16 (counters_of []) (copy 0 0 3)

-- more rows than 64 bits count: the bits of 2^64 + 4 rows
abbrev pub beyond_count : Why
beyond_count = why_order (bytes_in 2) 16 (counters_of (5 ∷ [])) (nulls top)

abbrev pub fits : Why
fits = why_order (bytes_in 2) 16 (counters_of []) (copy 0 0 2)

-- the fifth order of a trip
abbrev pub fifth : WhyListed
fifth = why_trip (bytes_in 5) 16 (counters_of []) (copy 0 0 1 ∷ nulls 1 ∷ copy 0 3 4 ∷ copy 0 4 5 ∷ copy 0 5 7 ∷ copy 0 0 1 ∷ [])

abbrev pub says : ℕ → ℕ → ℕ → ℕ → ℕ → Why
says g i r n m = record { refusal = g; node = i; row = r; needed = n; allowed = m }

-- what is computed, and what is meant
abbrev pub computed : List Why
computed = k4 ∷ longest_gap ∷ grown_gap ∷ long_text ∷ long_lists ∷ dense_nulls_lem ∷ no_home_lem ∷ deep_down ∷ byte_short ∷ beyond_count ∷ fits ∷ fifth.why ∷ []

abbrev pub meant : List Why
meant =
    says 7 0 0 32768 32767
    ∷ says 7 0 0 18446744073709551615 9223372036854775807
    ∷ says 7 0 0 32768 32767
    ∷ says 6 0 1 2147483649 2147483647
    ∷ says 6 0 1 2147483649 2147483647
    ∷ says 6 0 8 2147483648 2147483647
    ∷ says 5 0 0 0 0
    ∷ says 6 5 1 2147483648 2147483647
    ∷ says 13 0 0 3 2
    ∷ says 13 0 0 2305843009213693953 1
    ∷ says 0 0 0 0 0
    ∷ says 13 0 0 6 5
    ∷ []
