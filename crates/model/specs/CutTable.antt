-- Orders cut in two, computed: K1's copy cut inside a run, at a run's end and with an empty half, why runs below a list-view or a list
-- below a run-end node are not counted, and a cut inside a run below a list. Assumes nothing.
use Rattle.std.specs.Prelude.{false, List, [], ◌∷◌, ℕ}
use Rattle.std.proofs.Math.Option.{none}
use Rattle.columnar.specs.Types.{uint, w1, fixed, Ty, t_plain, t_list_view, t_list, t_run_end}
use Rattle.columnar.specs.Reading.{Column}
use Rattle.model.specs.Try.{Try, done, map_try}
use Rattle.model.specs.Book.{Call, copy}
use Rattle.model.specs.Transform.{Destination}
use Rattle.model.specs.Table.{coded, whole, sources, joined, k123}

-- one run of two rows, each the list of two rows in two runs
abbrev pub nested : Ty
nested = t_run_end 4 (t_list_view 4 (t_run_end 4 (t_plain (fixed (uint w1)))))

abbrev pub run_of_lists : Column nested
run_of_lists =
    whole 2
    (record {
      ends = whole 1 (coded 4 (2 ∷ []));
      values = whole 1
          (record {
            offsets = coded 4 (0 ∷ []);
            sizes = coded 4 (2 ∷ []);
            child = whole 2 (record { ends = whole 2 (coded 4 (1 ∷ 2 ∷ [])); values = whole 2 (65 ∷ 66 ∷ []) });
          });
    })

-- how many runs the outer node has, then how many the inner one
abbrev pub runs_counted : Destination nested → List ℕ
runs_counted d = d.«data».ends.len ∷ d.«data».values.«data».child.«data».ends.len ∷ []

abbrev pub of_lists : List Call → Try (List ℕ)
of_lists os = map_try runs_counted (joined false nested false 1 (sources run_of_lists []) os)

-- two lists that begin and end inside one run: the child is copied in one stretch
abbrev pub over_runs : Ty
over_runs = t_list 4 (t_run_end 4 (t_plain (fixed (uint w1))))

abbrev pub lists_of_run : Column over_runs
lists_of_run = whole 2 (record { offsets = coded 4 (0 ∷ 2 ∷ 4 ∷ []); child = whole 4 (record { ends = whole 1 (coded 4 (4 ∷ [])); values = whole 1 (65 ∷ []) }) })

abbrev pub of_run : List Call → Try (List ℕ)
of_run os = map_try (λ (d : Destination over_runs). d.«data».child.«data».ends.len ∷ []) (joined false over_runs false 1 (sources lists_of_run []) os)

-- one run of two rows, each the list of two rows in two runs
abbrev pub deep : Ty
deep = t_run_end 4 (t_list 4 (t_run_end 4 (t_plain (fixed (uint w1)))))

abbrev pub run_of_plain : Column deep
run_of_plain =
    whole 2
    (record {
      ends = whole 1 (coded 4 (2 ∷ []));
      values = whole 1 (record { offsets = coded 4 (0 ∷ 2 ∷ []); child = whole 2 (record { ends = whole 2 (coded 4 (1 ∷ 2 ∷ [])); values = whole 2 (65 ∷ 66 ∷ []) }) });
    })

abbrev pub of_plain : List Call → Try (List ℕ)
of_plain os =
    map_try (λ (d : Destination deep). d.«data».ends.len ∷ d.«data».values.«data».child.«data».ends.len ∷ []) (joined false deep false 1 (sources run_of_plain []) os)

abbrev pub cuts_given : List (Try (List ℕ))
cuts_given =
    k123 false (copy 0 1 5 ∷ [])
    ∷ k123 false (copy 0 1 3 ∷ copy 0 3 5 ∷ [])  -- inside B's run
    ∷ k123 false (copy 0 1 4 ∷ copy 0 4 5 ∷ [])  -- at its end
    ∷ k123 false (copy 0 1 1 ∷ copy 0 1 5 ∷ [])  -- an empty half
    ∷ k123 false (copy 0 1 5 ∷ copy 0 5 5 ∷ [])
    ∷ of_lists (copy 0 0 2 ∷ [])
    ∷ of_lists (copy 0 0 1 ∷ copy 0 1 2 ∷ [])
    ∷ of_run (copy 0 0 2 ∷ [])
    ∷ of_run (copy 0 0 1 ∷ copy 0 1 2 ∷ [])
    ∷ of_plain (copy 0 0 2 ∷ [])
    ∷ of_plain (copy 0 0 1 ∷ copy 0 1 2 ∷ [])
    ∷ []

-- run ends, values, the values' bits and null count; then the counts of runs
abbrev pub cuts_expected : List (Try (List ℕ))
cuts_expected =
    done (3 ∷ 4 ∷ 66 ∷ 67 ∷ 1 ∷ 1 ∷ 0 ∷ [])
    ∷ done (2 ∷ 3 ∷ 4 ∷ 66 ∷ 66 ∷ 67 ∷ 1 ∷ 1 ∷ 1 ∷ 0 ∷ [])
    ∷ done (3 ∷ 4 ∷ 66 ∷ 67 ∷ 1 ∷ 1 ∷ 0 ∷ [])
    ∷ done (3 ∷ 4 ∷ 66 ∷ 67 ∷ 1 ∷ 1 ∷ 0 ∷ [])
    ∷ done (3 ∷ 4 ∷ 66 ∷ 67 ∷ 1 ∷ 1 ∷ 0 ∷ [])
    ∷ done (1 ∷ 2 ∷ [])
    ∷ done (2 ∷ 4 ∷ [])
    ∷ done (1 ∷ [])
    ∷ done (2 ∷ [])
    ∷ done (1 ∷ 2 ∷ [])
    ∷ done (2 ∷ 4 ∷ [])
    ∷ []
