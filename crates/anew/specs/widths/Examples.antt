-- Columns and what they become in other widths, byte for byte. Assumes nothing.
use Rattle.std.proofs.Math.Option.{none, some}
use Rattle.std.specs.Prelude.{List, [], ◌∷◌, ℕ}
use Rattle.columnar.specs.Row.{seg}
use Rattle.columnar.specs.Types.{int, uint, w1, w2, fixed, string, Ty, t_plain, t_list_view, t_list, t_run_end, t_dictionary}
use Rattle.columnar.specs.Plain.{Text}
use Rattle.columnar.specs.Reading.{Column}
use Rattle.columnar.specs.Examples.{array, pack}
use Rattle.model.specs.Try.{Try, done, stop}
use Rattle.anew.specs.widths.Widths.{s_fixed, s_string, Widths, s_plain, s_list_view, s_list, s_run_end, s_dictionary}

pub record Converting : Type 0 where
  pub from : Ty
  pub to : Ty
  pub widths : Widths from to
  pub column : Column from
  pub result : Try (Column to)

abbrev pub text : ℕ → List ℕ → List ℕ → Text
text w offsets chars = record { offsets = pack w offsets; chars = chars }

-- names, sliced from slot 1 on: "bc", null over "d", "", "ef"
abbrev pub names : Column (t_plain (string 8))
names = array 4 1 (some (0b00011010 ∷ [])) (text 8 (1 ∷ 2 ∷ 4 ∷ 5 ∷ 5 ∷ 7 ∷ []) (9 ∷ 97 ∷ 98 ∷ 99 ∷ 100 ∷ 101 ∷ 102 ∷ []))

-- no rows, with an empty offsets buffer
abbrev pub no_names : Column (t_plain (string 4))
no_names = array 0 0 none (text 4 [] (9 ∷ []))

-- stops of two trips, sliced from slot 1 on; the first is null over a far stretch. The child keeps all of its rows.
abbrev pub trips : Column (t_list_view 8 (t_plain (fixed (uint w1))))
trips =
    array 2 1 (some (0b00000100 ∷ []))
    (record { offsets = pack 8 (9 ∷ 3 ∷ 1 ∷ []); sizes = pack 8 (9 ∷ 1 ∷ 2 ∷ []); child = array 4 1 none (9 ∷ 10 ∷ 11 ∷ 12 ∷ 13 ∷ []) })

-- lists of runs: three lists from slot 1 on, over a child of runs of 2, 3 and 4 rows
abbrev pub runs : Column (t_list 4 (t_run_end 4 (t_plain (fixed (uint w1)))))
runs =
    array 2 1 none
    (record {
      offsets = pack 4 (0 ∷ 1 ∷ 4 ∷ 6 ∷ []);
      child = array 8 1 none (record { ends = array 3 0 none (pack 4 (2 ∷ 5 ∷ 9 ∷ [])); values = array 3 1 none (9 ∷ 65 ∷ 66 ∷ 67 ∷ []) });
    })

-- keys, sliced from slot 1 on, with 0xffff under a null; all three entries, one of them null, from slot 1 on
abbrev pub drivers : Column (t_dictionary (uint w2) (string 4))
drivers =
    array 3 1 (some (0b00001010 ∷ []))
    (record {
      keys = pack 2 (9 ∷ 2 ∷ 0xffff ∷ 1 ∷ []);
      values = array 3 1 (some (0b00001011 ∷ [])) (text 4 (0 ∷ 1 ∷ 2 ∷ 4 ∷ 5 ∷ []) (9 ∷ 97 ∷ 98 ∷ 98 ∷ 99 ∷ []));
      starts = 0 ∷ 1 ∷ 2 ∷ [];
    })

-- 128 entries, and 129
abbrev pub crowd : ℕ → Column (t_dictionary (uint w2) (fixed (uint w1)))
crowd n = array 1 0 none (record { keys = pack 2 (3 ∷ []); values = array n 0 none (seg (λ i. i) 0 n); starts = [] })

-- n rows in one run
abbrev pub endless : ℕ → Column (t_run_end 8 (t_plain (fixed (uint w1))))
endless n = array n 0 none (record { ends = array 1 0 none (pack 8 (n ∷ [])); values = array 1 0 none (1 ∷ []) })

-- a stretch too long, an offset too far under a null, a run too long
abbrev pub long : Column (t_list 8 (t_run_end 8 (t_plain (fixed (uint w1)))))
long = array 1 0 none (record { offsets = pack 8 (5 ∷ 0x80000005 ∷ []); child = endless 0x80000005 })

abbrev pub far : Column (t_list_view 8 (t_run_end 8 (t_plain (fixed (uint w1)))))
far = array 1 0 (some (0 ∷ [])) (record { offsets = pack 8 (0x80000000 ∷ []); sizes = pack 8 (0 ∷ []); child = endless 0x80000000 })

abbrev pub run_of_lem : ℕ → Column (t_run_end 4 (t_plain (fixed (uint w1))))
run_of_lem n = array n 5 none (record { ends = array 1 0 none (pack 4 (0x7fffffff ∷ [])); values = array 1 0 none (1 ∷ []) })

abbrev pub convertings : List Converting
convertings =
    record {
      from = t_plain (string 8);
      to = t_plain (string 4);
      widths = s_plain (string 8) (string 4) (s_string 8 4);
      column = names;
      result = done (array 4 0 (some (0b00001101 ∷ [])) (text 4 (0 ∷ 2 ∷ 3 ∷ 3 ∷ 5 ∷ []) (98 ∷ 99 ∷ 100 ∷ 101 ∷ 102 ∷ [])));
    }
    ∷ record {
      from = t_plain (string 4);
      to = t_plain (string 8);
      widths = s_plain (string 4) (string 8) (s_string 4 8);
      column = no_names;
      result = done (array 0 0 none (text 8 (0 ∷ []) []));
    }
    ∷ record {
      from = t_list_view 8 (t_plain (fixed (uint w1)));
      to = t_list_view 4 (t_plain (fixed (uint w1)));
      widths = s_list_view 8 4 (t_plain (fixed (uint w1))) (t_plain (fixed (uint w1))) (s_plain (fixed (uint w1)) (fixed (uint w1)) (s_fixed (uint w1)));
      column = trips;
      result = done (array 2 0 (some (0b00000010 ∷ [])) (record { offsets = pack 4 (3 ∷ 1 ∷ []); sizes = pack 4 (1 ∷ 2 ∷ []); child = array 4 0 none (10 ∷ 11 ∷ 12 ∷ 13 ∷ []) }));
    }
    ∷ record {
      from = t_list 4 (t_run_end 4 (t_plain (fixed (uint w1))));
      to = t_list 8 (t_run_end 2 (t_plain (fixed (uint w1))));
      widths = s_list 4 8 (t_run_end 4 (t_plain (fixed (uint w1)))) (t_run_end 2 (t_plain (fixed (uint w1)))) (s_run_end 4 2 (t_plain (fixed (uint w1))) (t_plain (fixed (uint w1))) (s_plain (fixed (uint w1)) (fixed (uint w1)) (s_fixed (uint w1))));
      column = runs;
      result =
          done
          (array 2 0 none
          (record { offsets = pack 8 (0 ∷ 3 ∷ 5 ∷ []); child = array 5 0 none (record { ends = array 2 0 none (pack 2 (3 ∷ 5 ∷ [])); values = array 2 0 none (66 ∷ 67 ∷ []) }) }));
    }
    ∷ record {
      from = t_dictionary (uint w2) (string 4);
      to = t_dictionary (int w1) (string 8);
      widths = s_dictionary (uint w2) (int w1) (string 4) (string 8) tt tt (s_string 4 8);
      column = drivers;
      result =
          done
          (array 3 0 (some (0b00000101 ∷ []))
          (record {
            keys = 2 ∷ 0 ∷ 1 ∷ [];
            values = array 3 0 (some (0b00000101 ∷ [])) (text 8 (0 ∷ 1 ∷ 3 ∷ 4 ∷ []) (97 ∷ 98 ∷ 98 ∷ 99 ∷ []));
            starts = [];
          }));
    }
    ∷ record {
      from = t_dictionary (uint w2) (fixed (uint w1));
      to = t_dictionary (int w1) (fixed (uint w1));
      widths = s_dictionary (uint w2) (int w1) (fixed (uint w1)) (fixed (uint w1)) tt tt (s_fixed (uint w1));
      column = crowd 128;
      result = done (array 1 0 none (record { keys = 3 ∷ []; values = array 128 0 none (seg (λ i. i) 0 128); starts = [] }));
    }
    ∷ record {
      from = t_dictionary (uint w2) (fixed (uint w1));
      to = t_dictionary (int w1) (fixed (uint w1));
      widths = s_dictionary (uint w2) (int w1) (fixed (uint w1)) (fixed (uint w1)) tt tt (s_fixed (uint w1));
      column = crowd 129;
      result = stop 8;
    }
    ∷ record {
      from = t_list 8 (t_run_end 8 (t_plain (fixed (uint w1))));
      to = t_list 4 (t_run_end 2 (t_plain (fixed (uint w1))));
      widths = s_list 8 4 (t_run_end 8 (t_plain (fixed (uint w1)))) (t_run_end 2 (t_plain (fixed (uint w1)))) (s_run_end 8 2 (t_plain (fixed (uint w1))) (t_plain (fixed (uint w1))) (s_plain (fixed (uint w1)) (fixed (uint w1)) (s_fixed (uint w1))));
      column = long;
      result = stop 6;
    }
    ∷ record {
      from = t_list_view 8 (t_run_end 8 (t_plain (fixed (uint w1))));
      to = t_list_view 4 (t_run_end 2 (t_plain (fixed (uint w1))));
      widths = s_list_view 8 4 (t_run_end 8 (t_plain (fixed (uint w1)))) (t_run_end 2 (t_plain (fixed (uint w1)))) (s_run_end 8 2 (t_plain (fixed (uint w1))) (t_plain (fixed (uint w1))) (s_plain (fixed (uint w1)) (fixed (uint w1)) (s_fixed (uint w1))));
      column = far;
      result = stop 6;
    }
    ∷ record {
      from = t_run_end 4 (t_plain (fixed (uint w1)));
      to = t_run_end 2 (t_plain (fixed (uint w1)));
      widths = s_run_end 4 2 (t_plain (fixed (uint w1))) (t_plain (fixed (uint w1))) (s_plain (fixed (uint w1)) (fixed (uint w1)) (s_fixed (uint w1)));
      column = run_of_lem 32767;
      result = done (array 32767 0 none (record { ends = array 1 0 none (pack 2 (32767 ∷ [])); values = array 1 0 none (1 ∷ []) }));
    }
    ∷ record {
      from = t_run_end 4 (t_plain (fixed (uint w1)));
      to = t_run_end 2 (t_plain (fixed (uint w1)));
      widths = s_run_end 4 2 (t_plain (fixed (uint w1))) (t_plain (fixed (uint w1))) (s_plain (fixed (uint w1)) (fixed (uint w1)) (s_fixed (uint w1)));
      column = run_of_lem 32768;
      result = stop 7;
    }
    ∷ []
