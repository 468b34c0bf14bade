-- Dictionary columns and what reclaiming makes of them, byte for byte. Assumes nothing.
use Rattle.std.proofs.Math.Option.{Option, none, some}
use Rattle.std.specs.Prelude.{List, [], ◌∷◌, ℕ}
use Rattle.columnar.specs.Row.{seg}
use Rattle.columnar.specs.Types.{Number, int, uint, w1, w2, Plain, fixed, string, t_dictionary}
use Rattle.columnar.specs.Array.{Array}
use Rattle.columnar.specs.Plain.{Text, PlainBody}
use Rattle.columnar.specs.Reading.{Column}
use Rattle.columnar.specs.Examples.{array, pack}

-- a column, and what it becomes
pub record Reclaiming : Type 0 where
  pub key : Number
  pub plain : Plain
  pub column : Column (t_dictionary key plain)
  pub result : Column (t_dictionary key plain)

abbrev pub keyed : (k : Number) (p : Plain) (len off : ℕ) → Option (List ℕ) → List ℕ → Array (PlainBody p) → Column (t_dictionary k p)
keyed k p len off valid keys values = array len off valid (record { keys = keys; values = values; starts = [] })

abbrev pub text : List ℕ → List ℕ → Text
text offsets chars = record { offsets = pack 4 offsets; chars = chars }

-- drivers "a", "bb", "c", "dd" and an entry that is null, from slot 1 on
abbrev pub drivers : Array Text
drivers = array 5 1 (some (0b00011110 ∷ [])) (text (0 ∷ 1 ∷ 2 ∷ 4 ∷ 5 ∷ 7 ∷ 8 ∷ []) (9 ∷ 97 ∷ 98 ∷ 98 ∷ 99 ∷ 100 ∷ 100 ∷ 120 ∷ []))

-- five rows, sliced from slot 2 on: "c", "a", null over any key, "c", the null entry. The slots before and behind name other entries.
abbrev pub sliced : Column (t_dictionary (uint w1) (string 4))
sliced = keyed (uint w1) (string 4) 5 2 (some (0b11101111 ∷ [])) (1 ∷ 3 ∷ 2 ∷ 0 ∷ 255 ∷ 2 ∷ 4 ∷ 1 ∷ []) drivers

-- three rows, all null: no entry, and one offset
abbrev pub no_driver : Column (t_dictionary (uint w1) (string 4))
no_driver = keyed (uint w1) (string 4) 3 2 (some (0b00000011 ∷ [])) (1 ∷ 3 ∷ 2 ∷ 0 ∷ 255 ∷ []) drivers

-- signed keys with -1 under a null; the null entry is not in use
abbrev pub routes : Column (t_dictionary (int w1) (fixed (uint w2)))
routes = keyed (int w1) (fixed (uint w2)) 4 0 (some (0b00001011 ∷ [])) (2 ∷ 0 ∷ 255 ∷ 2 ∷ []) (array 3 0 (some (0b00000101 ∷ [])) (pack 2 (7 ∷ 8 ∷ 9 ∷ [])))

-- more entries than a key of one byte can name
abbrev pub crowd : Column (t_dictionary (uint w1) (fixed (uint w2)))
crowd = keyed (uint w1) (fixed (uint w2)) 2 0 none (255 ∷ 3 ∷ []) (array 300 0 none (pack 2 (seg (λ i. i) 0 300)))

abbrev pub reclaimings : List Reclaiming
reclaimings =
    record {
      key = (uint w1);
      plain = string 4;
      column = sliced;
      result =
          keyed (uint w1) (string 4) 5 0 (some (0b00011011 ∷ [])) (1 ∷ 0 ∷ 0 ∷ 1 ∷ 2 ∷ [])
          (array 3 0 (some (0b00000011 ∷ [])) (text (0 ∷ 1 ∷ 2 ∷ 3 ∷ []) (97 ∷ 99 ∷ 120 ∷ [])));
    }
    ∷ record {
      key = (uint w1);
      plain = string 4;
      column = no_driver;
      result = keyed (uint w1) (string 4) 3 0 (some (0 ∷ [])) (0 ∷ 0 ∷ 0 ∷ []) (array 0 0 none (text (0 ∷ []) []));
    }
    ∷ record {
      key = (int w1);
      plain = fixed (uint w2);
      column = routes;
      result = keyed (int w1) (fixed (uint w2)) 4 0 (some (0b00001011 ∷ [])) (1 ∷ 0 ∷ 0 ∷ 1 ∷ []) (array 2 0 none (pack 2 (7 ∷ 9 ∷ [])));
    }
    ∷ record { key = (uint w1); plain = fixed (uint w2); column = crowd; result = keyed (uint w1) (fixed (uint w2)) 2 0 none (1 ∷ 0 ∷ []) (array 2 0 none (pack 2 (3 ∷ 255 ∷ []))) }
    ∷ []
