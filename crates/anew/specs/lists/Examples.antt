-- List and list-view columns and what they are turned into, byte for byte. Assumes nothing.
use Rattle.std.proofs.Math.Option.{none, some}
use Rattle.std.specs.Prelude.{List, [], ◌∷◌, ℕ}
use Rattle.columnar.specs.Row.{seg}
use Rattle.columnar.specs.Types.{uint, w1, w2, fixed, Ty, t_plain, t_list_view, t_list, t_run_end, t_dictionary}
use Rattle.columnar.specs.Reading.{Column}
use Rattle.columnar.specs.Examples.{array, pack}
use Rattle.model.specs.Try.{Try, done, stop}

pub record ToView : Type 0 where
  pub w : ℕ
  pub type : Ty
  pub column : Column (t_list w type)
  pub result : Column (t_list_view w type)

pub record ToList : Type 0 where
  pub w : ℕ
  pub type : Ty
  pub column : Column (t_list_view w type)
  pub result : Try (Column (t_list w type))

-- stops of four trips, sliced from slot 2 on: 2, none, null over a stretch of 3, 1. The child stands from slot 1 on, with a validity of ones.
abbrev pub stops : Column (t_list 4 (t_plain (fixed (uint w1))))
stops =
    array 4 2 (some (0b00101100 ∷ []))
    (record {
      offsets = pack 4 (7 ∷ 7 ∷ 1 ∷ 3 ∷ 3 ∷ 6 ∷ 7 ∷ []);
      child = array 8 1 (some (0xff ∷ 0xff ∷ [])) (9 ∷ 10 ∷ 11 ∷ 12 ∷ 13 ∷ 14 ∷ 15 ∷ 16 ∷ 17 ∷ []);
    })

-- no rows, with an empty offsets buffer
abbrev pub no_trips : Column (t_list 8 (t_plain (fixed (uint w1))))
no_trips = array 0 0 none (record { offsets = []; child = array 1 0 none (9 ∷ []) })

abbrev pub to_views : List ToView
to_views =
    record {
      w = 4;
      type = t_plain (fixed (uint w1));
      column = stops;
      result =
          array 4 0 (some (0b00001011 ∷ []))
          (record {
            offsets = pack 4 (1 ∷ 3 ∷ 3 ∷ 6 ∷ []);
            sizes = pack 4 (2 ∷ 0 ∷ 3 ∷ 1 ∷ []);
            child = array 8 1 none (9 ∷ 10 ∷ 11 ∷ 12 ∷ 13 ∷ 14 ∷ 15 ∷ 16 ∷ 17 ∷ []);
          });
    }
    ∷ record { w = 8; type = t_plain (fixed (uint w1)); column = no_trips; result = array 0 0 none (record { offsets = []; sizes = []; child = array 1 0 none (9 ∷ []) }) }
    ∷ []

-- stops as a list-view, sliced from slot 1 on: two rows, null over a stretch of 3, four rows, the first two again. Row 2 of the child is null.
abbrev pub trips : Column (t_list_view 4 (t_plain (fixed (uint w1))))
trips =
    array 4 1 (some (0b00011010 ∷ []))
    (record {
      offsets = pack 4 (7 ∷ 2 ∷ 0 ∷ 1 ∷ 2 ∷ []);
      sizes = pack 4 (7 ∷ 2 ∷ 3 ∷ 4 ∷ 2 ∷ []);
      child = array 6 1 (some (0b01110110 ∷ [])) (9 ∷ 10 ∷ 11 ∷ 12 ∷ 13 ∷ 14 ∷ 15 ∷ []);
    })

-- more entries than a key of one byte can name: the dictionary is kept where it stands
abbrev pub crowd : Column (t_list_view 4 (t_dictionary (uint w1) (fixed (uint w2))))
crowd =
    array 2 0 none
    (record {
      offsets = pack 4 (1 ∷ 0 ∷ []);
      sizes = pack 4 (1 ∷ 1 ∷ []);
      child = array 2 0 none (record { keys = 255 ∷ 3 ∷ []; values = array 300 0 none (pack 2 (seg (λ i. i) 0 300)); starts = 0 ∷ 40 ∷ [] });
    })

-- two rows, each all of a child of one run: of run ends of v bytes, n rows
abbrev pub twice : (v n : ℕ) → Column (t_list_view 4 (t_run_end v (t_plain (fixed (uint w1)))))
twice v n =
    array 2 0 none
    (record {
      offsets = pack 4 (0 ∷ 0 ∷ []);
      sizes = pack 4 (n ∷ n ∷ []);
      child = array n 0 none (record { ends = array 1 0 none (pack v (n ∷ [])); values = array 1 0 none (1 ∷ []) });
    })

-- the second row's run end does not fit two bytes; its offset does not fit four, which is met before a run end that does not fit four
abbrev pub to_lists : List ToList
to_lists =
    record {
      w = 4;
      type = t_plain (fixed (uint w1));
      column = trips;
      result =
          done
          (array 4 0 (some (0b00001101 ∷ []))
          (record {
            offsets = pack 4 (0 ∷ 2 ∷ 2 ∷ 6 ∷ 8 ∷ []);
            child = array 8 0 (some (0b10110110 ∷ [])) (12 ∷ 13 ∷ 11 ∷ 12 ∷ 13 ∷ 14 ∷ 12 ∷ 13 ∷ []);
          }));
    }
    ∷ record {
      w = 4;
      type = t_dictionary (uint w1) (fixed (uint w2));
      column = crowd;
      result =
          done
          (array 2 0 none
          (record {
            offsets = pack 4 (0 ∷ 1 ∷ 2 ∷ []);
            child = array 2 0 none (record { keys = 3 ∷ 255 ∷ []; values = array 300 0 none (pack 2 (seg (λ i. i) 0 300)); starts = 0 ∷ 40 ∷ [] });
          }));
    }
    ∷ record { w = 4; type = t_run_end 2 (t_plain (fixed (uint w1))); column = twice 2 32767; result = stop 7 }
    ∷ record { w = 4; type = t_run_end 4 (t_plain (fixed (uint w1))); column = twice 4 2147483647; result = stop 6 }
    ∷ []
