-- 02, request 1: two small cases with interconnectors, plant type 3, by hand.
use mathlib.Core.Path.{◌≡◌, refl}
use mathlib.Core.List.{List, [], ◌∷◌}
use Prim.Native.Nat.{ℕ}
use Prim.Native.String.{String}
use lib.IntN.{pos}
use lib.ListN.{replicate}
use Rattle.meaning.specs.declared.Edition.TheVariants.{First}
use Rattle.meaning.specs.Text.{text}
use Rattle.meaning.specs.Study.{Station, Study, three_runs}
use Rattle.meaning.specs.Outcome.{prints}
use Rattle.meaning.proofs.Write.{name, file_of}
use Rattle.meaning.proofs.Opened.{opened}
use Rattle.meaning.proofs.Kiln.{node_of, station_of, kiln_settings, kiln_nodes, kiln_circuits, kiln_runs}

-- a station of type 3
abbrev pub link_of : String → String → ℕ → Station
link_of i n kw = record { identifier = name i; node = name n; plant_type = 3; tec = kw }

abbrev pub kiln_with : List Station → Study
kiln_with stations = record { settings = kiln_settings; nodes = kiln_nodes; circuits = kiln_circuits; stations = stations }

-- KILN with NODB's 100,000 kW an interconnector: they weigh (28,333 m as before) and have their line, and do not pay. C is (-4,200 x 150,000 - 28,333 x 200,000) / 350,000,
-- -17,990.3; the tariff 186,174; the residual (50,000,000,000 - 186,174 x 200,000) / 200,000, 63,826 exactly
abbrev pub half : List ℕ
half = file_of (kiln_with (station_of "GEN_1" "NODA" 200000 ∷ link_of "GEN_2" "NODB" 100000 ∷ [])) kiln_runs

abbrev pub half_sheet : List ℕ
half_sheet = text "C -17990\nG 1 28333 10343 186174 63826 250000\nD 1 -4200 13790 248220 85113 333333\nL NODA 0 0\nL NODB 0 0\nR 0 50000\n"

half_prints : prints half [] ≡ half_sheet
unfolding opened
half_prints = refl

-- ---- a zone and a node of interconnectors alone, a node with one beside another type, and local income.
-- A, zone 1: 300 kW that pay and 101 kW that don't; B, zone 2: 401 kW that don't. A marked circuit of 10 m carries 401 kW from A to B
abbrev towed : Study
towed =
    record {
      settings = record {
        generation_zones = 3;
        demand_zones = 1;
        p = 270;
        constant = 1007;
        wider_factor = 1800;
        local_factor = 1000;
        overhead400 = 1000;
        cable400 = 1000;
        overhead275 = 1000;
        cable275 = 1000;
        overhead132 = 1000;
        cable132 = 1000;
        reference = 2;
        edition = First;
        revenue = 1;
      };
      nodes = node_of "A" 0 ∷ record { name = name "B"; generation_zone = 2; demand_zone = 1; demand = 802 } ∷ [];
      circuits = record { first = name "A"; second = name "B"; voltage = 400; x = 1; overhead = 10; cable = 0; local_mark = 1; factor = 0 } ∷ [];
      stations = station_of "S" "A" 300 ∷ link_of "T" "A" 101 ∷ link_of "U" "B" 401 ∷ [];
    }

-- the local tariff is 10 x 1,007 x 1,000 / 100,000, 100.7, so 101; 730,000 less 101 x 300 is 699,700, which is 2,332 x 300 + 100; 270,000 is 336 x 802 + 528
towed_prints : prints (file_of towed
    (three_runs
    (pos 401000000 ∷ pos 0 ∷ pos 401000000 ∷ [])
    (replicate 3 (pos 0))
    (pos 10000000000 ∷ pos 0 ∷ pos 0 ∷ [])))
    []
    ≡ text "C 0\nG 1 0 0 0 2332 2332\nG 2 0 0 0 2332 2332\nG 3 -\nD 1 0 0 0 336 336\nL A 10 101\nL B 0 0\nR 100 528\n"
unfolding opened
towed_prints = refl
