-- A second case of edition 2, that InstanceBothHolds has theorems of.
use mathlib.Core.List.{List, [], ◌∷◌}
use Prim.Native.Nat.{ℕ}
use lib.IntN.{pos}
use lib.ListN.{set}
use Rattle.meaning.specs.Study.{Station, Runs, runs_of}
use Rattle.meaning.proofs.Write.{file_in}
use Rattle.meaning.proofs.Both.{both_base, both_wider, both_local, both_peak_base, both_peak_wider, both_settings, both_nodes, both_circuits, plant}

-- ---- wind in two parts, neither of them 70 % of whole kilowatts, and all listed differently; NODA's potentials 1 cm higher in each base, 3 cm in each wider system
abbrev pub divided : List Station
divided =
    plant "OIL" "NODC" 6 15000 ∷ plant "WIND_1" "NODA" 1 33333 ∷ plant "GAS" "NODA" 7 150000 ∷ plant "LINK" "NODB" 3 10000 ∷ plant "WIND_2" "NODA" 1 66667
    ∷ plant "PUMPED" "NODB" 5 20000
    ∷ plant "NUCLEAR" "NODB" 2 60000
    ∷ []

abbrev pub other_runs : Runs
other_runs =
    runs_of (set both_base 0 (pos 5970010000000)) (set both_wider 0 (pos 6000030000000)) both_local (set both_peak_base 0 (pos 6079630000000))
    (set both_peak_wider 0 (pos 13200030000000))

abbrev pub other : List ℕ
other = file_in 2 (record { settings = both_settings; nodes = both_nodes; circuits = both_circuits; stations = divided }) other_runs
