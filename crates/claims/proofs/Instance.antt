-- Cases that show that the demands are not empty, and that InstanceHolds has theorems of.
use mathlib.Core.List.{List, [], ◌∷◌}
use Prim.Native.Nat.{ℕ}
use Prim.Native.String.{String}
use lib.IntN.{pos}
use lib.ListN.{set}
use Rattle.meaning.specs.Study.{Station, Runs, three_runs}
use Rattle.meaning.proofs.Write.{name, file_of, file_in}
use Rattle.meaning.proofs.Kiln.{kiln_runs, kiln_base, kiln_wider, kiln_local, kiln_settings, kiln_nodes, kiln_circuits, kiln_stations, kiln_study, circuit_of, station_of}

-- ---- five stations, listed differently, with the capacity of KILN's two; NODA 10 mm of base and 4 cm of wider potential higher
abbrev pub divided : List Station
divided =
    station_of "B_1" "NODB" 60000 ∷ station_of "A_1" "NODA" 150000 ∷ station_of "A_2" "NODA" 50000 ∷ station_of "B_2" "NODB" 40000
    ∷ station_of "A_3" "NODA" 0
    ∷ []

abbrev pub other_runs : Runs
other_runs = three_runs (set kiln_base 0 (pos 11000010000000)) (set kiln_wider 0 (pos 32000040000000)) kiln_local

abbrev pub divided_with : Runs → List ℕ
divided_with runs = file_of (record { settings = kiln_settings; nodes = kiln_nodes; circuits = kiln_circuits; stations = divided }) runs

abbrev pub other : List ℕ
other = divided_with other_runs

-- ---- KILN's proposals with the five stations, divided and listed differently step by step: one sheet
abbrev pub twin : List ℕ
twin = divided_with kiln_runs

-- ---- one milliwatt more on A-B, with KILN's stations and with the divided ones: one answer, in two buffers
abbrev pub leaking : Runs
leaking = three_runs (set kiln_base 3 (pos 45000000001)) kiln_wider kiln_local

-- and KILN with a nuclear and a hydro station in place of two others: one sheet
abbrev pub typed : String → String → (plant_type tec : ℕ) → Station
typed i n t kw = record { identifier = name i; node = name n; plant_type = t; tec = kw }

abbrev pub retyped : List ℕ
retyped =
    file_of (record { settings = kiln_settings; nodes = kiln_nodes; circuits = kiln_circuits; stations = typed "GEN_1" "NODA" 2 200000 ∷ typed "GEN_2" "NODB" 4 100000 ∷ [] })
    kiln_runs

-- ---- KILN as a version 2 file says what KILN says, and is settled as KILN is; a case with a link at 320 is accepted, in version 2
abbrev pub kiln_two : List ℕ
kiln_two = file_in 2 kiln_study kiln_runs

abbrev pub subsea : List ℕ
subsea =
    file_in 2
    (record {
      settings = kiln_settings;
      nodes = kiln_nodes;
      circuits = circuit_of "NODA" "NODB" 100 10000 ∷ circuit_of "NODB" "NODC" 100 20000
          ∷ record { first = name "NODA"; second = name "NODC"; voltage = 320; x = 200; overhead = 0; cable = 17000; local_mark = 0; factor = 2000 }
          ∷ [];
      stations = kiln_stations;
    })
    kiln_runs
