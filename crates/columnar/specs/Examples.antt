-- Worked examples of the Arrow Columnar Format document as columns, slices of them, and columns that break one rule each. Unspecified
-- slots hold 9. Assumes nothing.
use Rattle.std.specs.Prelude.{true, List, [], ◌∷◌, ◌++◌, ℕ, zero, suc, ◌+◌, negsuc}
use Rattle.std.proofs.Math.Option.{Option, none, some}
use Rattle.columnar.specs.Row.{null, whole, single, bytes, list, union, rows}
use Rattle.columnar.specs.Types.{int, uint, w1, w2, w4, f32, fixed, string, Ty, t_plain, t_view, t_list_view, t_list, t_sparse, t_dense, t_run_end, t_dictionary}
use Rattle.columnar.specs.Reading.{Column}
pub use Rattle.columnar.specs.Written.{array, slice, pack, joe, mark}
use Rattle.columnar.specs.Written.{Example, num, foo, bar, baz, hello_world, long_string, f1·0, f1·2, f2·0, f3·4}

-- "Validity bitmaps": [0, 1, null, 2, null, 3], bitmap 00101011
abbrev pub bitmap : Example
bitmap =
    record {
      type = t_plain (fixed (uint w1));
      column = array 6 0 (some (0b00101011 ∷ [])) (0 ∷ 1 ∷ 9 ∷ 2 ∷ 9 ∷ 3 ∷ []);
      reads = num 0 ∷ num 1 ∷ null ∷ num 2 ∷ null ∷ num 3 ∷ [];
    }

-- "Fixed-Size Primitive Layout": Int32 [1, null, 2, 4, 8], byte by byte
abbrev pub primitive : Example
primitive =
    record {
      type = t_plain (fixed (int w4));
      column = array 5 0 (some (0b00011101 ∷ [])) (1 ∷ 0 ∷ 0 ∷ 0 ∷ 9 ∷ 9 ∷ 9 ∷ 9 ∷ 2 ∷ 0 ∷ 0 ∷ 0 ∷ 4 ∷ 0 ∷ 0 ∷ 0 ∷ 8 ∷ 0 ∷ 0 ∷ 0 ∷ []);
      reads = num 1 ∷ null ∷ num 2 ∷ num 4 ∷ num 8 ∷ [];
    }

-- the same without nulls and without a bitmap: [1, 2, 3, 4, 8]
abbrev pub no_nulls : Example
no_nulls =
    record {
      type = t_plain (fixed (int w4));
      column = array 5 0 none (pack 4 (1 ∷ 2 ∷ 3 ∷ 4 ∷ 8 ∷ []));
      reads = num 1 ∷ num 2 ∷ num 3 ∷ num 4 ∷ num 8 ∷ [];
    }

-- "Variable-size Binary Layout": ['joe', null, null, 'mark']
abbrev pub binary : List ℕ → Column (t_plain (string 4))
binary offsets = array 4 0 (some (0b00001001 ∷ [])) (record { offsets = pack 4 offsets; chars = joe ++ mark })

abbrev pub strings : Example
strings = record { type = t_plain (string 4); column = binary (0 ∷ 3 ∷ 3 ∷ 3 ∷ 7 ∷ []); reads = bytes joe ∷ null ∷ null ∷ bytes mark ∷ [] }

abbrev pub strings_slice : Example
strings_slice = record { type = t_plain (string 4); column = slice 2 2 (binary (0 ∷ 3 ∷ 3 ∷ 3 ∷ 7 ∷ [])); reads = null ∷ bytes mark ∷ [] }

-- no rows, and no offsets
abbrev pub no_strings : Example
no_strings = record { type = t_plain (string 8); column = array 0 0 none (record { offsets = []; chars = [] }); reads = [] }

-- "Variable-size Binary View Layout": length 4 and 12 in the view, length 13 in buffer 1 from byte 2 on; a null's view may be anything
abbrev pub views : List ℕ → Column t_view
views prefix =
    array 4 0 (some (0b00001101 ∷ []))
    (record {
      views = (pack 4 (4 ∷ []) ++ mark ++ pack 8 (0 ∷ [])) ++ pack 4 (99 ∷ 9 ∷ 9 ∷ 9 ∷ []) ++ (pack 4 (13 ∷ []) ++ prefix ++ pack 4 (1 ∷ 2 ∷ []))
          ++ pack 4 (12 ∷ []) ++ hello_world;
      buffers = joe ∷ (9 ∷ 9 ∷ long_string) ∷ [];
    })

abbrev pub view : Example
view = record { type = t_view; column = views (97 ∷ 32 ∷ 108 ∷ 111 ∷ []); reads = bytes mark ∷ null ∷ bytes long_string ∷ bytes hello_world ∷ [] }

abbrev pub view_slice : Example
view_slice = record { type = t_view; column = slice 2 1 (views (97 ∷ 32 ∷ 108 ∷ 111 ∷ [])); reads = bytes long_string ∷ [] }

-- "ListView Layout": [[12, -7, 25], null, [0, -127, 127, 50], []]
abbrev pub list_view : Example
list_view =
    record {
      type = t_list_view 4 (t_plain (fixed (int w1)));
      column =
          array 4 0 (some (0b00001101 ∷ []))
          (record {
            offsets = pack 4 (0 ∷ 7 ∷ 3 ∷ 0 ∷ []);
            sizes = pack 4 (3 ∷ 0 ∷ 4 ∷ 0 ∷ []);
            child = array 7 0 none (12 ∷ 249 ∷ 25 ∷ 0 ∷ 129 ∷ 127 ∷ 50 ∷ []);
          });
      reads = list (rows (num 12 ∷ whole (negsuc 6) ∷ num 25 ∷ [])) ∷ null ∷ list (rows (num 0 ∷ whole (negsuc 126) ∷ num 127 ∷ num 50 ∷ [])) ∷ list (rows []) ∷ [];
    }

-- the same out of order, with a shared part: [[12, -7, 25], null, [0, -127, 127, 50], [], [50, 12]]
abbrev pub shuffled : ℕ → Column (t_list_view 4 (t_plain (fixed (int w1))))
shuffled null_size =
    array 5 0 (some (0b00011101 ∷ []))
    (record {
      offsets = pack 4 (4 ∷ 7 ∷ 0 ∷ 0 ∷ 3 ∷ []);
      sizes = pack 4 (3 ∷ null_size ∷ 4 ∷ 0 ∷ 2 ∷ []);
      child = array 7 0 none (0 ∷ 129 ∷ 127 ∷ 50 ∷ 12 ∷ 249 ∷ 25 ∷ []);
    })

abbrev pub out_of_order : Example
out_of_order =
    record {
      type = t_list_view 4 (t_plain (fixed (int w1)));
      column = shuffled 0;
      reads = list (rows (num 12 ∷ whole (negsuc 6) ∷ num 25 ∷ [])) ∷ null ∷ list (rows (num 0 ∷ whole (negsuc 126) ∷ num 127 ∷ num 50 ∷ [])) ∷ list (rows [])
          ∷ list (rows (num 50 ∷ num 12 ∷ []))
          ∷ [];
    }

-- the lists of lists of "Variable-size List Layout" as list-views, the second level at offset 1: [[[1, 2], [3, 4]], [[5, 6, 7], null, [8]], [[9, 10]]]
abbrev pub nested : Example
nested =
    record {
      type = t_list_view 4 (t_list_view 8 (t_plain (fixed (int w1))));
      column =
          array 3 0 none
          (record {
            offsets = pack 4 (0 ∷ 2 ∷ 5 ∷ []);
            sizes = pack 4 (2 ∷ 3 ∷ 1 ∷ []);
            child =
                array 6 1 (some (0b01101110 ∷ []))
                (record {
                  offsets = pack 8 (9 ∷ 0 ∷ 2 ∷ 4 ∷ 7 ∷ 7 ∷ 8 ∷ []);
                  sizes = pack 8 (9 ∷ 2 ∷ 2 ∷ 3 ∷ 0 ∷ 1 ∷ 2 ∷ []);
                  child = array 10 0 none (1 ∷ 2 ∷ 3 ∷ 4 ∷ 5 ∷ 6 ∷ 7 ∷ 8 ∷ 9 ∷ 10 ∷ []);
                });
          });
      reads = list (rows (list (rows (num 1 ∷ num 2 ∷ [])) ∷ list (rows (num 3 ∷ num 4 ∷ [])) ∷ []))
          ∷ list (rows (list (rows (num 5 ∷ num 6 ∷ num 7 ∷ [])) ∷ null ∷ list (rows (num 8 ∷ [])) ∷ []))
          ∷ list (rows (list (rows (num 9 ∷ num 10 ∷ [])) ∷ []))
          ∷ [];
    }

-- "Variable-size List Layout": [[12, -7, 25], null, [0, -127, 127, 50], []]
abbrev pub listed : List ℕ → Column (t_list 4 (t_plain (fixed (int w1))))
listed offsets =
    array 4 0 (some (0b00001101 ∷ [])) (record { offsets = pack 4 offsets; child = array 7 0 none (12 ∷ 249 ∷ 25 ∷ 0 ∷ 129 ∷ 127 ∷ 50 ∷ []) })

abbrev pub lists : Example
lists =
    record {
      type = t_list 4 (t_plain (fixed (int w1)));
      column = listed (0 ∷ 3 ∷ 3 ∷ 7 ∷ 7 ∷ []);
      reads = list (rows (num 12 ∷ whole (negsuc 6) ∷ num 25 ∷ [])) ∷ null ∷ list (rows (num 0 ∷ whole (negsuc 126) ∷ num 127 ∷ num 50 ∷ [])) ∷ list (rows []) ∷ [];
    }

-- a null row may have rows of the child: they are not read
abbrev pub lists_slice : Example
lists_slice =
    record {
      type = t_list 4 (t_plain (fixed (int w1)));
      column = slice 1 2 (listed (0 ∷ 1 ∷ 3 ∷ 5 ∷ 7 ∷ []));
      reads = null ∷ list (rows (num 0 ∷ whole (negsuc 126) ∷ [])) ∷ [];
    }

-- its lists of lists, the second level large: [[[1, 2], [3, 4]], [[5, 6, 7], null, [8]], [[9, 10]]]
abbrev pub lists_of_lists : Example
lists_of_lists =
    record {
      type = t_list 4 (t_list 8 (t_plain (fixed (int w1))));
      column =
          array 3 0 none
          (record {
            offsets = pack 4 (0 ∷ 2 ∷ 5 ∷ 6 ∷ []);
            child =
                array 6 0 (some (0b00110111 ∷ []))
                (record {
                  offsets = pack 8 (0 ∷ 2 ∷ 4 ∷ 7 ∷ 7 ∷ 8 ∷ 10 ∷ []);
                  child = array 10 0 none (1 ∷ 2 ∷ 3 ∷ 4 ∷ 5 ∷ 6 ∷ 7 ∷ 8 ∷ 9 ∷ 10 ∷ []);
                });
          });
      reads = nested.reads;
    }

-- no rows, and no offsets
abbrev pub no_lists_lem : Example
no_lists_lem = record { type = t_list 8 (t_plain (fixed (uint w1))); column = array 0 0 none (record { offsets = []; child = array 1 0 none (7 ∷ []) }); reads = [] }

-- "Dense Union": f: Float32, i: Int32; [{f=1.2}, null, {f=3.4}, {i=5}]
abbrev pub f_or_i : ℕ → Ty
f_or_i zero = t_plain (fixed f32)
f_or_i (suc n) = t_plain (fixed (int w4))

abbrev pub dense_type : Ty
dense_type = t_dense (0 ∷ 1 ∷ []) (λ c. true) f_or_i

abbrev pub dense_children : (c : ℕ) → Column (f_or_i c)
dense_children zero = array 3 0 (some (0b00000101 ∷ [])) (pack 4 (f1·2 ∷ 9 ∷ f3·4 ∷ []))
dense_children (suc n) = array 1 0 none (pack 4 (5 ∷ []))

abbrev pub dense_column : List ℕ → Column dense_type
dense_column positions = array 4 0 none (record { ids = 0 ∷ 0 ∷ 0 ∷ 1 ∷ []; positions = pack 4 positions; children = dense_children })

abbrev pub dense : Example
dense =
    record {
      type = dense_type;
      column = dense_column (0 ∷ 1 ∷ 2 ∷ 0 ∷ []);
      reads = union 0 (single f1·2) ∷ union 0 null ∷ union 0 (single f3·4) ∷ union 1 (num 5) ∷ [];
    }

abbrev pub dense_slice : Example
dense_slice =
    record { type = dense_type; column = slice 2 2 (dense_column (0 ∷ 1 ∷ 2 ∷ 0 ∷ [])); reads = union 0 (single f3·4) ∷ union 1 (num 5) ∷ [] }

-- "Sparse Union": i: Int32, f: Float32, s: VarBinary; [{i=5}, {f=1.2}, {s='joe'}, {f=3.4}, {i=4}, {s='mark'}]
abbrev pub i_f_or_s : ℕ → Ty
i_f_or_s zero = t_plain (fixed (int w4))
i_f_or_s (suc zero) = t_plain (fixed f32)
i_f_or_s (suc (suc n)) = t_plain (string 4)

abbrev pub sparse_type : Ty
sparse_type = t_sparse (0 ∷ 1 ∷ 2 ∷ []) (λ c. true) i_f_or_s

abbrev pub sparse_children : (c : ℕ) → Column (i_f_or_s c)
sparse_children zero = array 6 0 (some (0b00010001 ∷ [])) (pack 4 (5 ∷ 9 ∷ 9 ∷ 9 ∷ 4 ∷ 9 ∷ []))
sparse_children (suc zero) = array 6 0 (some (0b00001010 ∷ [])) (pack 4 (9 ∷ f1·2 ∷ 9 ∷ f3·4 ∷ 9 ∷ 9 ∷ []))
sparse_children (suc (suc n)) = array 6 0 (some (0b00100100 ∷ [])) (record { offsets = pack 4 (0 ∷ 0 ∷ 0 ∷ 3 ∷ 3 ∷ 3 ∷ 7 ∷ []); chars = joe ++ mark })

abbrev pub sparse_column : Option (List ℕ) → ((c : ℕ) → Column (i_f_or_s c)) → Column sparse_type
sparse_column valid children = array 6 0 valid (record { ids = 0 ∷ 1 ∷ 2 ∷ 1 ∷ 0 ∷ 2 ∷ []; children = children })

abbrev pub sparse : Example
sparse =
    record {
      type = sparse_type;
      column = sparse_column none sparse_children;
      reads = union 0 (num 5) ∷ union 1 (single f1·2) ∷ union 2 (bytes joe) ∷ union 1 (single f3·4) ∷ union 0 (num 4) ∷ union 2 (bytes mark) ∷ [];
    }

-- the same children, the first two with a slot more in front, at offset 1
abbrev pub moved_children : (c : ℕ) → Column (i_f_or_s c)
moved_children zero = array 6 1 (some (0b00100011 ∷ [])) (pack 4 (8 ∷ 5 ∷ 9 ∷ 9 ∷ 9 ∷ 4 ∷ 9 ∷ []))
moved_children (suc zero) = array 6 1 (some (0b00010101 ∷ [])) (pack 4 (8 ∷ 9 ∷ f1·2 ∷ 9 ∷ f3·4 ∷ 9 ∷ 9 ∷ []))
moved_children (suc (suc n)) = sparse_children (suc (suc n))

abbrev pub sparse_slice : Example
sparse_slice =
    record {
      type = sparse_type;
      column = slice 1 4 (sparse_column none moved_children);
      reads = union 1 (single f1·2) ∷ union 2 (bytes joe) ∷ union 1 (single f3·4) ∷ union 0 (num 4) ∷ [];
    }

-- "Run-End Encoded Layout": Float32 [1.0, 1.0, 1.0, 1.0, null, null, 2.0], run ends 4, 6, 7
abbrev pub runs : List ℕ → Column (t_run_end 4 (t_plain (fixed f32)))
runs ends = array 7 0 none (record { ends = array 3 0 none (pack 4 ends); values = array 3 0 (some (0b00000101 ∷ [])) (pack 4 (f1·0 ∷ 9 ∷ f2·0 ∷ [])) })

abbrev pub run_end : Example
run_end =
    record {
      type = t_run_end 4 (t_plain (fixed f32));
      column = runs (4 ∷ 6 ∷ 7 ∷ []);
      reads = single f1·0 ∷ single f1·0 ∷ single f1·0 ∷ single f1·0 ∷ null ∷ null ∷ single f2·0 ∷ [];
    }

abbrev pub run_end_slice : Example
run_end_slice =
    record { type = t_run_end 4 (t_plain (fixed f32)); column = slice 3 4 (runs (4 ∷ 6 ∷ 7 ∷ [])); reads = single f1·0 ∷ null ∷ null ∷ single f2·0 ∷ [] }

-- the parent at offset 2, its run ends at 1 and its values at 2
abbrev pub run_end_offsets : Example
run_end_offsets =
    record {
      type = t_run_end 2 (t_plain (string 4));
      column =
          array 5 2 none
          (record {
            ends = array 3 1 none (pack 2 (3 ∷ 4 ∷ 6 ∷ 7 ∷ []));
            values = array 3 2 none (record { offsets = pack 4 (0 ∷ 3 ∷ 6 ∷ 9 ∷ 9 ∷ 13 ∷ []); chars = foo ++ bar ++ joe ++ mark });
          });
      reads = bytes joe ∷ bytes joe ∷ bytes [] ∷ bytes [] ∷ bytes mark ∷ [];
    }

-- no rows, and no run
abbrev pub no_runs : Example
no_runs = record { type = t_run_end 8 (t_plain (fixed (uint w1))); column = array 0 0 none (record { ends = array 0 0 none []; values = array 0 0 none [] }); reads = [] }

-- "Dictionary-encoded Layout": ['foo', 'bar', 'foo', 'bar', null, 'baz'], indices 0, 1, 0, 1, null, 2; a null's key may be anything
abbrev pub keyed : ℕ → Column (t_dictionary (int w4) (string 4))
keyed last =
    array 6 0 (some (0b00101111 ∷ []))
    (record {
      keys = pack 4 (0 ∷ 1 ∷ 0 ∷ 1 ∷ 99 ∷ last ∷ []);
      values = array 3 0 none (record { offsets = pack 4 (0 ∷ 3 ∷ 6 ∷ 9 ∷ []); chars = foo ++ bar ++ baz });
      starts = [];
    })

abbrev pub dictionary : Example
dictionary =
    record {
      type = t_dictionary (int w4) (string 4);
      column = keyed 2;
      reads = bytes foo ∷ bytes bar ∷ bytes foo ∷ bytes bar ∷ null ∷ bytes baz ∷ [];
    }

-- the keys at offset 3, the values at offset 1: Int16, as their stored bytes
abbrev pub dictionary_slice : Example
dictionary_slice =
    record {
      type = t_dictionary (uint w1) (fixed (int w2));
      column = array 3 3 none (record { keys = 9 ∷ 9 ∷ 9 ∷ 2 ∷ 0 ∷ 1 ∷ []; values = array 3 1 none (pack 2 (9 ∷ 10 ∷ 520 ∷ 65535 ∷ [])); starts = [] });
      reads = bytes (255 ∷ 255 ∷ []) ∷ bytes (10 ∷ 0 ∷ []) ∷ bytes (8 ∷ 2 ∷ []) ∷ [];
    }

-- "a dictionary is permitted to contain duplicate values or nulls": indices 0, 1, 3, 1, 4, 2 of ['foo', 'bar', 'baz', 'foo', null]
abbrev pub dictionary_nulls : Example
dictionary_nulls =
    record {
      type = t_dictionary (int w4) (string 4);
      column = array 6 0 none
          (record {
            keys = pack 4 (0 ∷ 1 ∷ 3 ∷ 1 ∷ 4 ∷ 2 ∷ []);
            values = array 5 0 (some (0b00001111 ∷ [])) (record { offsets = pack 4 (0 ∷ 3 ∷ 6 ∷ 9 ∷ 12 ∷ 12 ∷ []); chars = foo ++ bar ++ baz ++ foo });
            starts = [];
          });
      reads = bytes foo ∷ bytes bar ∷ bytes foo ∷ bytes bar ∷ null ∷ bytes baz ∷ [];
    }

-- entries "Ana", null, "Bo" at offset 1, where the null's slot holds bytes; keys 0, 1, null, 2, 1 at offset 1
abbrev pub ana : List ℕ
ana = 65 ∷ 110 ∷ 97 ∷ []

abbrev pub bo : List ℕ
bo = 66 ∷ 111 ∷ []

abbrev pub drivers : Example
drivers =
    record {
      type = t_dictionary (uint w1) (string 4);
      column = array 5 1 (some (0b00110111 ∷ []))
          (record {
            keys = 9 ∷ 0 ∷ 1 ∷ 9 ∷ 2 ∷ 1 ∷ [];
            values = array 3 1 (some (0b00001011 ∷ [])) (record { offsets = pack 4 (0 ∷ 3 ∷ 6 ∷ 9 ∷ 11 ∷ []); chars = foo ++ ana ++ joe ++ bo });
            starts = [];
          });
      reads = bytes ana ∷ null ∷ null ∷ bytes bo ∷ null ∷ [];
    }

abbrev pub examples : List Example
examples =
    bitmap ∷ primitive ∷ no_nulls ∷ strings ∷ strings_slice ∷ no_strings ∷ view ∷ view_slice ∷ list_view ∷ out_of_order ∷ nested ∷ lists ∷ lists_slice ∷ lists_of_lists ∷ no_lists_lem ∷ dense ∷ dense_slice ∷ sparse ∷ sparse_slice
    ∷ run_end
    ∷ run_end_slice
    ∷ run_end_offsets
    ∷ no_runs
    ∷ dictionary
    ∷ dictionary_slice
    ∷ dictionary_nulls
    ∷ drivers
    ∷ []

-- a column of any type
pub record AnyColumn : Type 0 where
  pub type : Ty
  pub column : Column type

-- each breaks one rule: what it breaks stands beside it
abbrev pub broken : List AnyColumn
broken =
    record { type = t_plain (fixed (int w4)); column = array 2 1 none (pack 4 (1 ∷ 2 ∷ [])) }  -- a buffer for offset + length
    ∷ record { type = t_plain (fixed (uint w1)); column = array 9 0 (some (255 ∷ [])) (pack 1 (1 ∷ 2 ∷ 3 ∷ 4 ∷ 5 ∷ 6 ∷ 7 ∷ 8 ∷ 9 ∷ [])) }  -- a bit for each row
    ∷ record { type = t_plain (string 4); column = binary (0 ∷ 3 ∷ 3 ∷ 3 ∷ 8 ∷ []) }  -- the last offset within the data
    ∷ record { type = t_plain (string 4); column = binary (0 ∷ 3 ∷ 3 ∷ 7 ∷ 6 ∷ []) }  -- the last row's offset not falling
    ∷ record { type = t_view; column = views mark }  -- a long view's prefix
    ∷ record { type = t_list_view 4 (t_plain (fixed (int w1))); column = shuffled 1 }  -- a null row's entry within the child
    ∷ record { type = t_list_view 4 (t_plain (fixed (int w1))); column = shuffled 0xffffffff }  -- no negative size
    ∷ record { type = t_list 4 (t_plain (fixed (int w1))); column = listed (0 ∷ 3 ∷ 3 ∷ 7 ∷ 8 ∷ []) }  -- the last offset within the child's rows
    ∷ record { type = t_list 4 (t_plain (fixed (int w1))); column = listed (0 ∷ 3 ∷ 2 ∷ 7 ∷ 7 ∷ []) }  -- a null row's offset not falling
    ∷ record { type = dense_type; column = dense_column (0 ∷ 1 ∷ 3 ∷ 0 ∷ []) }  -- a position within the child
    ∷ record { type = dense_type; column = array 4 0 (some (255 ∷ [])) (dense_column (0 ∷ 1 ∷ 2 ∷ 0 ∷ [])).body }  -- no validity on a union
    ∷ record { type = sparse_type; column = sparse_column (some (255 ∷ [])) sparse_children }  -- no validity on a union
    ∷ record { type = sparse_type; column = sparse_column none (λ c. slice 1 5 (sparse_children c)) }  -- children as long as the parent
    ∷ record { type = t_run_end 4 (t_plain (fixed f32)); column = runs (4 ∷ 4 ∷ 7 ∷ []) }  -- run ends rising
    ∷ record { type = t_run_end 4 (t_plain (fixed f32)); column = slice 1 7 (runs (4 ∷ 6 ∷ 7 ∷ [])) }  -- run ends up to offset + length
    ∷ record { type = t_run_end 4 (t_plain (fixed f32)); column = array 7 0 (some (255 ∷ [])) (runs (4 ∷ 6 ∷ 7 ∷ [])).body }  -- no validity on a run_end node
    ∷ record { type = t_dictionary (int w4) (string 4); column = keyed 3 }  -- a key within the dictionary
    ∷ []
