-- Small columns stored wider, computed: each is a slice, so that its first row is not its buffers' first slot. Assumes nothing.
use mathlib.Core.Path.{◌≡◌, refl, sym, ap, subst, ◌∙◌}
use mathlib.Core.Bool.{Bool}
use mathlib.Core.Option.{none, some}
use mathlib.Core.List.Memᴰ
use mathlib.Core.List.{List, [], ◌∷◌, Memᴰ}
use Prim.Native.Nat.{ℕ, zero, suc, ◌+◌, ◌≤◌, ◌<◌}
use native.Mathlib.Omega.{arith}
use lib.IntN.{pos}
use lib.Dec.{T}
use Rattle.number.specs.Number.{number, encode}
use Rattle.columnar.specs.Row.{Row, null, whole, bytes, list, rows}
use Rattle.columnar.specs.Types.{Ty, t_plain, t_list_view, t_list, t_sparse, t_dense, t_run_end, t_dictionary, fixed, string, int, uint, w1, w2, half}
use Rattle.columnar.specs.Array.{item, bit}
use Rattle.columnar.specs.Entries.{encodes}
use Rattle.columnar.specs.Plain.{full}
use Rattle.columnar.specs.ListView.{Entry}
use Rattle.columnar.specs.RunEnd.{start_of}
use Rattle.columnar.specs.Reading.{Column, read_all, Source}
use Rattle.columnar.specs.Wider.{Declared, Wider, w_plain, w_list_view, w_list, w_sparse, w_dense, w_run_end, w_dictionary, w_fixed, w_string, no_bits, bits, entries, Stored, Again}
use Rattle.columnar.proofs.Test.{member_agrees}
use Rattle.columnar.proofs.Wider.{rows_same}

upto_1 : (Q : ℕ → Type 0) → Q 0 → (i : ℕ) → i < 1 → Q i
upto_1 Q a zero q = a
upto_1 Q a (suc i) q = absurd (omega arith)

upto_2 : (Q : ℕ → Type 0) → Q 0 → Q 1 → (i : ℕ) → i < 2 → Q i
upto_2 Q a b zero q = a
upto_2 Q a b (suc i) q = upto_1 (λ j. Q (suc j)) b i (omega arith)

upto_3 : (Q : ℕ → Type 0) → Q 0 → Q 1 → Q 2 → (i : ℕ) → i < 3 → Q i
upto_3 Q a b c zero q = a
upto_3 Q a b c (suc i) q = upto_2 (λ j. Q (suc j)) b c i (omega arith)

-- ---- byte strings with offsets of 4 and of 8 bytes: "stop" and a null, behind "van"

abbrev vanstop : List ℕ
vanstop = 118 ∷ 97 ∷ 110 ∷ 115 ∷ 116 ∷ 111 ∷ 112 ∷ []

abbrev places : List ℕ
places = 0 ∷ 3 ∷ 7 ∷ 7 ∷ []

abbrev text : (w : ℕ) → Column (t_plain (string w))
text w = record { len = 2; off = 1; valid = some (3 ∷ []); body = record { offsets = encodes w places; chars = vanstop } }

abbrev text_wider : Wider (t_plain (string 4)) (t_plain (string 8))
text_wider = w_plain (w_string 4 8 (omega arith))

text_stored : Stored text_wider (text 4) (text 8)
unfolding item number encode
text_stored =
    record {
      same_len = refl;
      same_off = refl;
      same_valid = bits (3 ∷ []) (3 ∷ []) (omega arith) (λ i q. refl);
      same_body = record {
        same_offsets = entries (omega arith) (record {
          hold = omega arith;
          kept = upto_3 (λ i. item 4 (encodes 4 places) (1 + i) ≡ item 8 (encodes 8 places) (1 + i)) refl refl refl;
        });
        same_chars = refl;
      };
    }

text_source : Source (t_plain (string 4)) (text 4)
unfolding item number encode
text_source =
    record {
      mask = omega arith;
      slots = full (record {
        hold = omega arith;
        positive = λ i q. upto_3 (λ i. item 4 (encodes 4 places) (1 + i) < half 4) (omega arith) (omega arith) (omega arith) i (omega arith);
        rises = upto_2 (λ i. item 4 (encodes 4 places) (1 + i) ≤ item 4 (encodes 4 places) (1 + i + 1)) (omega arith) (omega arith);
        within = omega arith;
      });
    }

abbrev text_has : List Row
text_has = bytes (115 ∷ 116 ∷ 111 ∷ 112 ∷ []) ∷ null ∷ []

text_rows : read_all (t_plain (string 4)) (text 4) ≡ text_has
unfolding item number encode bit
text_rows = refl

pub text_wide_rows : read_all (t_plain (string 8)) (text 8) ≡ text_has
text_wide_rows = sym (rows_same text_wider text_stored text_source) ∙ text_rows

-- ---- 01's K1, run ends of 2 and of 4 bytes: ends 2, 5, 9, values A B C, offset 1, length 8; the ends are a slice too

abbrev run_ends_lem : List ℕ
run_ends_lem = 1 ∷ 2 ∷ 5 ∷ 9 ∷ []

abbrev runs : (w : ℕ) → Column (t_run_end w (t_plain (fixed (uint w1))))
runs w =
    record {
      len = 8;
      off = 1;
      valid = none;
      body = record {
        ends = record { len = 3; off = 1; valid = none; body = encodes w run_ends_lem };
        values = record { len = 3; off = 0; valid = none; body = 65 ∷ 66 ∷ 67 ∷ [] };
      };
    }

abbrev runs_wider : Wider (t_run_end 2 (t_plain (fixed (uint w1)))) (t_run_end 4 (t_plain (fixed (uint w1))))
runs_wider = w_run_end 2 4 (omega arith) (w_plain (w_fixed (uint w1)))

runs_stored : Stored runs_wider (runs 2) (runs 4)
unfolding item number encode
runs_stored =
    record {
      same_len = refl;
      same_off = refl;
      same_valid = no_bits;
      same_body = record {
        same_ends = record {
          same_len = refl;
          same_off = refl;
          same_valid = no_bits;
          same_body = record {
            hold = omega arith;
            kept = upto_3 (λ i. item 2 (encodes 2 run_ends_lem) (1 + i) ≡ item 4 (encodes 4 run_ends_lem) (1 + i)) refl refl refl;
          };
        };
        same_values = record { same_len = refl; same_off = refl; same_valid = no_bits; same_body = record { hold = omega arith; kept = λ i q. refl } };
      };
    }

abbrev end2 : ℕ → ℕ
end2 k = item 2 (encodes 2 run_ends_lem) (1 + k)

runs_source : Source (t_run_end 2 (t_plain (fixed (uint w1)))) (runs 2)
unfolding item number encode
runs_source =
    record {
      mask = tt;
      slots = record {
        ends_mask = tt;
        hold = omega arith;
        no_nulls = λ k q. tt;
        positive = upto_3 (λ k. end2 k < half 2) (omega arith) (omega arith) (omega arith);
        rises = upto_3 (λ k. start_of end2 k < end2 k) (omega arith) (omega arith) (omega arith);
        covers = omega arith;
        as_many = refl;
        child_rule = record { mask = tt; slots = omega arith };
      };
    }

abbrev runs_have : List Row
runs_have =
    whole (pos 65) ∷ whole (pos 66) ∷ whole (pos 66) ∷ whole (pos 66) ∷ whole (pos 67) ∷ whole (pos 67) ∷ whole (pos 67) ∷ whole (pos 67) ∷ []

runs_rows : read_all (t_run_end 2 (t_plain (fixed (uint w1)))) (runs 2) ≡ runs_have
unfolding item number encode
runs_rows = refl

pub runs_wide_rows : read_all (t_run_end 4 (t_plain (fixed (uint w1)))) (runs 4) ≡ runs_have
runs_wide_rows = sym (rows_same runs_wider runs_stored runs_source) ∙ runs_rows

-- ---- a dictionary with keys u8 and i16, its values with offsets of 4 and 8 bytes: a null, "van", "stop". The key under the null is 250
-- in the one and 7 in the other. at: where the values stand.

abbrev words : (w : ℕ) → Column (t_plain (string w))
words w = record { len = 2; off = 0; valid = none; body = record { offsets = encodes w (0 ∷ 3 ∷ 7 ∷ []); chars = vanstop } }

abbrev narrow : ℕ → Column (t_dictionary (uint w1) (string 4))
narrow at = record { len = 3; off = 1; valid = some (13 ∷ []); body = record { keys = encodes 1 (9 ∷ 250 ∷ 0 ∷ 1 ∷ []); values = words 4; starts = at ∷ 100 ∷ [] } }

abbrev wide : ℕ → Column (t_dictionary (int w2) (string 8))
wide at = record { len = 3; off = 1; valid = some (13 ∷ []); body = record { keys = encodes 2 (9 ∷ 7 ∷ 0 ∷ 1 ∷ []); values = words 8; starts = at ∷ 200 ∷ [] } }

abbrev words_wider : Wider (t_dictionary (uint w1) (string 4)) (t_dictionary (int w2) (string 8))
words_wider = w_dictionary (uint w1) (int w2) (record { key = tt; key' = tt; reach = omega arith }) (w_string 4 8 (omega arith))

words_stored : (a b : ℕ) → Stored words_wider (narrow a) (wide b)
unfolding item number encode bit
words_stored a b =
    record {
      same_len = refl;
      same_off = refl;
      same_valid = bits (13 ∷ []) (13 ∷ []) (omega arith) (λ i q. refl);
      same_body = record {
        hold = omega arith;
        kept = upto_3 (λ i. T (bit (13 ∷ []) (1 + i)) → item 1 (encodes 1 (9 ∷ 250 ∷ 0 ∷ 1 ∷ [])) (1 + i) ≡ item 2 (encodes 2 (9 ∷ 7 ∷ 0 ∷ 1 ∷ [])) (1 + i))
            (λ t. absurd t) (λ t. refl) (λ t. refl);
        same_values = record {
          same_len = refl;
          same_off = refl;
          same_valid = no_bits;
          same_body = record {
            same_offsets = entries (omega arith) (record {
              hold = omega arith;
              kept = upto_3 (λ i. item 4 (encodes 4 (0 ∷ 3 ∷ 7 ∷ [])) (0 + i) ≡ item 8 (encodes 8 (0 ∷ 3 ∷ 7 ∷ [])) (0 + i)) refl refl refl;
            });
            same_chars = refl;
          };
        };
      };
    }

words_source : (a : ℕ) → Source (t_dictionary (uint w1) (string 4)) (narrow a)
unfolding item number encode bit
words_source a =
    record {
      mask = omega arith;
      slots = record {
        hold = omega arith;
        positive = upto_3 (λ i. T (bit (13 ∷ []) (1 + i)) → item 1 (encodes 1 (9 ∷ 250 ∷ 0 ∷ 1 ∷ [])) (1 + i) < 256) (λ t. absurd t) (λ t. omega arith) (λ t. omega arith);
        within = upto_3 (λ i. T (bit (13 ∷ []) (1 + i)) → item 1 (encodes 1 (9 ∷ 250 ∷ 0 ∷ 1 ∷ [])) (1 + i) < 2) (λ t. absurd t) (λ t. omega arith) (λ t. omega arith);
        child_rule = record {
          mask = tt;
          slots = full (record {
            hold = omega arith;
            positive = λ i q. upto_3 (λ i. item 4 (encodes 4 (0 ∷ 3 ∷ 7 ∷ [])) (0 + i) < half 4) (omega arith) (omega arith) (omega arith) i (omega arith);
            rises = upto_2 (λ i. item 4 (encodes 4 (0 ∷ 3 ∷ 7 ∷ [])) (0 + i) ≤ item 4 (encodes 4 (0 ∷ 3 ∷ 7 ∷ [])) (0 + i + 1)) (omega arith) (omega arith);
            within = omega arith;
          });
        };
      };
    }

abbrev words_have : List Row
words_have = null ∷ bytes (118 ∷ 97 ∷ 110 ∷ []) ∷ bytes (115 ∷ 116 ∷ 111 ∷ 112 ∷ []) ∷ []

words_rows : (a : ℕ) → read_all (t_dictionary (uint w1) (string 4)) (narrow a) ≡ words_have
unfolding item number encode bit
words_rows a = refl

pub words_wide_rows : (a b : ℕ) → read_all (t_dictionary (int w2) (string 8)) (wide b) ≡ words_have
words_wide_rows a b = sym (rows_same words_wider (words_stored a b) (words_source a)) ∙ words_rows a

-- sources whose dictionaries stand apart, made again at other places: none are shared, in both
pub words_again : (n : ℕ) → Again words_wider n (λ i. narrow i) (λ i. wide (50 + i))
words_again n =
    record {
      each = λ i q. words_stored i (50 + i);
      sharing = λ i j p q. (
        (λ h. let e : i ≡ j = cc h.same_starts in record { same_starts = ap (λ x. (50 + x) ∷ 200 ∷ []) e; same_off = refl; same_len = refl }),
        (λ h. let e : 50 + i ≡ 50 + j = cc h.same_starts in let f : i ≡ j = omega arith in record { same_starts = ap (λ x. x ∷ 100 ∷ []) f; same_off = refl; same_len = refl }),
      );
    }

-- ---- a list-view over the byte strings, offsets and sizes of 4 and of 8 bytes: one row, behind another

abbrev lists : (w : ℕ) → Column (t_list_view w (t_plain (string w)))
lists w =
    record { len = 1; off = 1; valid = none; body = record { offsets = encodes w (1 ∷ 0 ∷ []); sizes = encodes w (1 ∷ 2 ∷ []); child = text w } }

abbrev lists_wider : Wider (t_list_view 4 (t_plain (string 4))) (t_list_view 8 (t_plain (string 8)))
lists_wider = w_list_view 4 8 (omega arith) text_wider

lists_stored : Stored lists_wider (lists 4) (lists 8)
unfolding item number encode
lists_stored =
    record {
      same_len = refl;
      same_off = refl;
      same_valid = no_bits;
      same_body = record {
        same_offsets = record { hold = omega arith; kept = upto_1 (λ i. item 4 (encodes 4 (1 ∷ 0 ∷ [])) (1 + i) ≡ item 8 (encodes 8 (1 ∷ 0 ∷ [])) (1 + i)) refl };
        same_sizes = record { hold = omega arith; kept = upto_1 (λ i. item 4 (encodes 4 (1 ∷ 2 ∷ [])) (1 + i) ≡ item 8 (encodes 8 (1 ∷ 2 ∷ [])) (1 + i)) refl };
        same_child_lem = text_stored;
      };
    }

lists_source : Source (t_list_view 4 (t_plain (string 4))) (lists 4)
unfolding item number encode
lists_source =
    record {
      mask = tt;
      slots = record {
        hold_offsets = omega arith;
        hold_sizes = omega arith;
        entries = upto_1 (λ i. Entry 4 (lists 4).body (1 + i)) (record { offset = omega arith; size = omega arith; within = omega arith });
        child_rule = text_source;
      };
    }

lists_rows : read_all (t_list_view 4 (t_plain (string 4))) (lists 4) ≡ list (rows text_has) ∷ []
unfolding item number encode bit
lists_rows = refl

pub lists_wide_rows : read_all (t_list_view 8 (t_plain (string 8))) (lists 8) ≡ list (rows text_has) ∷ []
lists_wide_rows = sym (rows_same lists_wider lists_stored lists_source) ∙ lists_rows

-- ---- a list over the byte strings, offsets of 4 and of 8 bytes: one row, behind another

abbrev stops : (w : ℕ) → Column (t_list w (t_plain (string w)))
stops w = record { len = 1; off = 1; valid = none; body = record { offsets = encodes w (0 ∷ 0 ∷ 2 ∷ []); child = text w } }

abbrev stops_wider : Wider (t_list 4 (t_plain (string 4))) (t_list 8 (t_plain (string 8)))
stops_wider = w_list 4 8 (omega arith) text_wider

stops_stored : Stored stops_wider (stops 4) (stops 8)
unfolding item number encode
stops_stored =
    record {
      same_len = refl;
      same_off = refl;
      same_valid = no_bits;
      same_body = record {
        same_offsets = entries (omega arith) (record {
          hold = omega arith;
          kept = upto_2 (λ i. item 4 (encodes 4 (0 ∷ 0 ∷ 2 ∷ [])) (1 + i) ≡ item 8 (encodes 8 (0 ∷ 0 ∷ 2 ∷ [])) (1 + i)) refl refl;
        });
        same_child_lem = text_stored;
      };
    }

stops_source : Source (t_list 4 (t_plain (string 4))) (stops 4)
unfolding item number encode
stops_source =
    record {
      mask = tt;
      slots = record {
        offsets_rule_lem = full (record {
          hold = omega arith;
          positive = λ i q. upto_2 (λ i. item 4 (encodes 4 (0 ∷ 0 ∷ 2 ∷ [])) (1 + i) < half 4) (omega arith) (omega arith) i (omega arith);
          rises = upto_1 (λ i. item 4 (encodes 4 (0 ∷ 0 ∷ 2 ∷ [])) (1 + i) ≤ item 4 (encodes 4 (0 ∷ 0 ∷ 2 ∷ [])) (1 + i + 1)) (omega arith);
          within = omega arith;
        });
        child_rule = text_source;
      };
    }

stops_rows : read_all (t_list 4 (t_plain (string 4))) (stops 4) ≡ list (rows text_has) ∷ []
unfolding item number encode bit
stops_rows = refl

pub stops_wide_rows : read_all (t_list 8 (t_plain (string 8))) (stops 8) ≡ list (rows text_has) ∷ []
stops_wide_rows = sym (rows_same stops_wider stops_stored stops_source) ∙ stops_rows

-- ---- a union of one field: nothing is asked of types and flags at ids that no field has

only_zero : (c : ℕ) → Declared (0 ∷ []) c → c ≡ 0
only_zero c t = go c ((member_agrees c (0 ∷ [])).sound t)
  where
    go : (c : ℕ) → Memᴰ c (0 ∷ []) → c ≡ 0
    go c (Memᴰ.head e) = e
    go c (Memᴰ.tail m) = absurd (Memᴰ.not-nil m)

pub one_field : (nullable nullable' : ℕ → Bool) (f f' : ℕ → Ty) → nullable 0 ≡ nullable' 0 → Wider (f 0) (f' 0)
    → Wider (t_sparse (0 ∷ []) nullable f) (t_sparse (0 ∷ []) nullable' f') × Wider (t_dense (0 ∷ []) nullable f) (t_dense (0 ∷ []) nullable' f')
one_field nullable nullable' f f' n d =
    let flags : (c : ℕ) → Declared (0 ∷ []) c → nullable c ≡ nullable' c = λ c t. subst (λ k. nullable k ≡ nullable' k) (sym (only_zero c t)) n in
    let types : (c : ℕ) → Declared (0 ∷ []) c → Wider (f c) (f' c) = λ c t. subst (λ k. Wider (f k) (f' k)) (sym (only_zero c t)) d in
    (w_sparse (0 ∷ []) flags types, w_dense (0 ∷ []) flags types)
