-- Columns and what the encoder and the expansion make of them, byte for byte. Assumes nothing.
use Rattle.std.proofs.Math.Option.{Option, none, some}
use Rattle.std.specs.Prelude.{List, [], ◌∷◌, ℕ, length}
use Rattle.columnar.specs.Types.{Number, int, uint, w1, w2, f32, fixed, t_plain, t_run_end}
use Rattle.columnar.specs.Reading.{Column}
use Rattle.columnar.specs.Examples.{array, pack}
use Rattle.anew.specs.runs.Coding.{ends_of}

-- rows from a on, m of them, and the runs of w bytes that they become
pub record ToRuns : Type 0 where
  pub number : Number
  pub w : ℕ
  pub column : Column (t_plain (fixed number))
  pub a : ℕ
  pub m : ℕ
  pub runs : Column (t_run_end w (t_plain (fixed number)))

-- rows of a run-end column from a on, m of them, and the plain rows that they become
pub record ToRows : Type 0 where
  pub number : Number
  pub w : ℕ
  pub column : Column (t_run_end w (t_plain (fixed number)))
  pub a : ℕ
  pub m : ℕ
  pub rows : Column (t_plain (fixed number))

-- m rows in runs that end so, with these values
abbrev pub runs : (k : Number) (w m : ℕ) → List ℕ → Option (List ℕ) → List ℕ → Column (t_run_end w (t_plain (fixed k)))
runs k w m ends valid values = array m 0 none (record { ends = ends_of w ends; values = array (length ends) 0 valid values })

-- an ignition state, sliced from slot 3 on: 1 1 0 null null 0 1. The first null lies over the byte of its neighbours, the second over another.
abbrev pub ignition : Column (t_plain (fixed (uint w1)))
ignition = array 7 3 (some (0b00111010 ∷ 0b00000011 ∷ [])) (9 ∷ 9 ∷ 9 ∷ 1 ∷ 1 ∷ 0 ∷ 0 ∷ 7 ∷ 0 ∷ 1 ∷ [])

-- all equal, all different
abbrev pub parked : Column (t_plain (fixed (int w2)))
parked = array 5 2 none (pack 2 (9 ∷ 9 ∷ 1 ∷ 1 ∷ 1 ∷ 1 ∷ 1 ∷ []))

abbrev pub moving : Column (t_plain (fixed (int w2)))
moving = array 4 1 none (pack 2 (9 ∷ 1 ∷ 2 ∷ 1 ∷ 0xffff ∷ []))

-- two NaNs of the same bits, one of others, -0.0, 0.0
abbrev pub floats : Column (t_plain (fixed f32))
floats = array 5 0 none (pack 4 (0x7fc00000 ∷ 0x7fc00000 ∷ 0x7fc00001 ∷ 0x80000000 ∷ 0 ∷ []))

abbrev pub to_runs : List ToRuns
to_runs =
    record { number = (uint w1); w = 2; column = ignition; a = 0; m = 7; runs = runs (uint w1) 2 7 (2 ∷ 3 ∷ 5 ∷ 6 ∷ 7 ∷ []) (some (0b00011011 ∷ [])) (1 ∷ 0 ∷ 0 ∷ 0 ∷ 1 ∷ []) }
    ∷ record { number = (uint w1); w = 4; column = ignition; a = 1; m = 2; runs = runs (uint w1) 4 2 (1 ∷ 2 ∷ []) none (1 ∷ 0 ∷ []) }
    ∷ record { number = (uint w1); w = 2; column = ignition; a = 4; m = 1; runs = runs (uint w1) 2 1 (1 ∷ []) (some (0 ∷ [])) (0 ∷ []) }
    ∷ record { number = (uint w1); w = 2; column = ignition; a = 7; m = 0; runs = runs (uint w1) 2 0 [] none [] }
    ∷ record { number = (int w2); w = 8; column = parked; a = 0; m = 5; runs = runs (int w2) 8 5 (5 ∷ []) none (1 ∷ 0 ∷ []) }
    ∷ record { number = (int w2); w = 2; column = parked; a = 1; m = 3; runs = runs (int w2) 2 3 (3 ∷ []) none (1 ∷ 0 ∷ []) }
    ∷ record { number = (int w2); w = 2; column = moving; a = 0; m = 4; runs = runs (int w2) 2 4 (1 ∷ 2 ∷ 3 ∷ 4 ∷ []) none (pack 2 (1 ∷ 2 ∷ 1 ∷ 0xffff ∷ [])) }
    ∷ record { number = f32; w = 2; column = floats; a = 0; m = 5; runs = runs f32 2 5 (2 ∷ 3 ∷ 4 ∷ 5 ∷ []) none (pack 4 (0x7fc00000 ∷ 0x7fc00001 ∷ 0x80000000 ∷ 0 ∷ [])) }
    ∷ []

-- K1's column (01): run ends 2, 5, 9, values A B C, offset 1, length 8. The run ends stand from entry 2 on, the values from slot 1 on.
abbrev pub abc : Option (List ℕ) → Column (t_run_end 2 (t_plain (fixed (uint w1))))
abc valid = array 8 1 none (record { ends = array 3 2 none (pack 2 (7 ∷ 7 ∷ 2 ∷ 5 ∷ 9 ∷ [])); values = array 3 1 valid (9 ∷ 65 ∷ 66 ∷ 67 ∷ []) })

-- whole, K1's range, the same with B null, and a range of its last run alone
abbrev pub to_rows : List ToRows
to_rows =
    record { number = (uint w1); w = 2; column = abc none; a = 0; m = 8; rows = array 8 0 none (65 ∷ 66 ∷ 66 ∷ 66 ∷ 67 ∷ 67 ∷ 67 ∷ 67 ∷ []) }
    ∷ record { number = (uint w1); w = 2; column = abc none; a = 1; m = 4; rows = array 4 0 none (66 ∷ 66 ∷ 66 ∷ 67 ∷ []) }
    ∷ record { number = (uint w1); w = 2; column = abc (some (0b00001011 ∷ [])); a = 1; m = 4; rows = array 4 0 (some (0b00001000 ∷ [])) (0 ∷ 0 ∷ 0 ∷ 67 ∷ []) }
    ∷ record { number = (uint w1); w = 2; column = abc (some (0b00001011 ∷ [])); a = 5; m = 2; rows = array 2 0 none (67 ∷ 67 ∷ []) }
    ∷ []
