-- Example 1 and Exercise 1 of the tutorial (source document 002), cases TUT1, TUT1_P5, TUT1_P150, TUT1_P200 and TUT2_275, and forms of them that request 12 of 02 is tried on. Each is computed here.
use mathlib.Core.Path.{◌≡◌, refl}
use mathlib.Core.List.{List, [], ◌∷◌}
use Prim.Native.Nat.{ℕ}
use Prim.Native.String.{String}
use lib.IntN.{ℤ, pos, neg_ℤ}
use lib.ListN.{replicate}
use Rattle.meaning.specs.declared.Edition.{Edition}
use Rattle.meaning.specs.declared.Edition.TheVariants.{First}
use Rattle.meaning.specs.declared.Settings.{Settings}
use Rattle.meaning.specs.Study.{Node, Circuit, Station, Study, Runs, three_runs}
use Rattle.meaning.specs.declared.Background.TheVariants.{YearRound}
use Rattle.meaning.specs.declared.System.TheVariants.{Wider}
use Rattle.meaning.specs.declared.Refusal.TheVariants.{MissesTooHigh}
use Rattle.std.specs.Prelude.{Err}
use Rattle.meaning.specs.Outcome.{judged}
use Rattle.meaning.specs.Conditions.{Acceptable}
use Rattle.meaning.proofs.Write.{name, file_of}
use Rattle.meaning.proofs.Opened.{opened}
use Rattle.meaning.proofs.Kiln.{station_of}
use Rattle.meaning.proofs.Judged.{judged_pass}

-- ---- tables
-- the edition, the factor of 275 kV overhead lines, and the reference's row
abbrev pub settings_in : Edition → (overhead275 reference : ℕ) → Settings
settings_in edition overhead275 reference =
    record {
      generation_zones = 4;
      demand_zones = 4;
      p = 730;
      constant = 1000;
      wider_factor = 1800;
      local_factor = 1000;
      overhead400 = 1000;
      cable400 = 1000;
      overhead275 = overhead275;
      cable275 = 1000;
      overhead132 = 1000;
      cable132 = 1000;
      reference = reference;
      edition = edition;
      revenue = 5000000;
    }

abbrev settings_with : (overhead275 reference : ℕ) → Settings
settings_with = settings_in First

abbrev pub node_in : String → (generation_zone demand_zone demand : ℕ) → Node
node_in n g d kw = record { name = name n; generation_zone = g; demand_zone = d; demand = kw }

abbrev overhead : String → String → (voltage x metres mark : ℕ) → Circuit
overhead a b v x m mark = record { first = name a; second = name b; voltage = v; x = x; overhead = m; cable = 0; local_mark = mark; factor = 0 }

abbrev pub plant : String → String → (plant_type tec : ℕ) → Station
plant i n t kw = record { identifier = name i; node = name n; plant_type = t; tec = kw }

-- each node is a zone of its own, so that the sheet shows every wider distance
abbrev nodes : List Node
nodes = node_in "SUBA" 1 1 0 ∷ node_in "SUBB" 2 2 100000 ∷ node_in "SUBC" 3 3 200000 ∷ node_in "SUBD" 4 4 0 ∷ []

-- by the voltage of B-C
abbrev circuits_at : (voltage : ℕ) → List Circuit
circuits_at v = overhead "SUBA" "SUBB" 400 50 20000 0 ∷ overhead "SUBA" "SUBC" 400 25 10000 0 ∷ overhead "SUBB" "SUBC" v 25 10000 0 ∷ overhead "SUBD" "SUBC" 400 25 30000 1 ∷ []

abbrev stations : List Station
stations = station_of "GENA" "SUBA" 60000 ∷ station_of "GENB" "SUBB" 240000 ∷ station_of "GEND" "SUBD" 300000 ∷ []

-- with so many kilowatts more at B, as a second station
abbrev more : ℕ → List Station
more kw = station_of "GENA" "SUBA" 60000 ∷ station_of "GENB" "SUBB" 240000 ∷ station_of "GEND" "SUBD" 300000 ∷ station_of "GENB2" "SUBB" kw ∷ []

abbrev pub study_with : Settings → (voltage : ℕ) → List Station → Study
study_with s v ss = record { settings = s; nodes = nodes; circuits = circuits_at v; stations = ss }

-- ---- solutions
-- base run: potentials of B, C and D, then flows
abbrev pub base_with : (b c d ab ac bc dc : ℤ) → List ℤ
base_with b c d ab ac bc dc = pos 0 ∷ b ∷ c ∷ d ∷ ab ∷ ac ∷ bc ∷ dc ∷ []

-- wider run: potentials of B, and of C and D, and what flows round the triangle
abbrev pub wider_with : (b c flow : ℤ) → List ℤ
wider_with b c flow = pos 0 ∷ b ∷ c ∷ c ∷ neg_ℤ flow ∷ flow ∷ neg_ℤ flow ∷ pos 0 ∷ []

abbrev pub local_run : List ℤ
local_run = pos 0 ∷ pos 0 ∷ pos 0 ∷ pos 30000000000000 ∷ replicate 4 (pos 0)

abbrev runs_with : (base wider : List ℤ) → Runs
runs_with b w = three_runs b w local_run

abbrev tut_base : List ℤ
tut_base = base_with (neg_ℤ (pos 125000000000)) (neg_ℤ (pos 687500000000)) (pos 3062500000000) (pos 2500000000) (pos 27500000000) (pos 22500000000) (pos 150000000000)

-- A-B forward, and backward: the tutorial's 0, -10, -15, -15 km and 0, 10, -5, -5 km
abbrev pub forward_wider : List ℤ
forward_wider = wider_with (neg_ℤ (pos 10000000000000)) (neg_ℤ (pos 15000000000000)) (pos 200000000000)

abbrev backward_wider : List ℤ
backward_wider = wider_with (pos 10000000000000) (neg_ℤ (pos 5000000000000)) (neg_ℤ (pos 200000000000))

-- ---- TUT1
abbrev pub tut : List ℕ
tut = file_of (study_with (settings_with 1000 1) 400 stations) (runs_with tut_base forward_wider)

abbrev pub tut_runs : Runs
tut_runs = runs_with tut_base forward_wider

pub tut_acceptable : Acceptable tut tut_runs []
unfolding opened
tut_acceptable = (judged_pass tut tut_runs []).0 refl

-- TUT1_P5: 5 MW more at B
abbrev pub five_runs : Runs
five_runs =
    runs_with (base_with (neg_ℤ (pos 103325000000)) (neg_ℤ (pos 692162500000)) (pos 3026837500000) (pos 2066500000) (pos 27686500000) (pos 23553500000) (pos 148760000000))
    forward_wider

abbrev pub five : List ℕ
five = file_of (study_with (settings_with 1000 1) 400 (more 5000)) five_runs

pub five_acceptable : Acceptable five five_runs []
unfolding opened
five_acceptable = (judged_pass five five_runs []).0 refl

-- TUT1_P150 and TUT1_P200: A-B turned
abbrev pub turned_runs : Runs
turned_runs =
    runs_with (base_with (pos 400000000000) (neg_ℤ (pos 800000000000)) (pos 2200000000000) (neg_ℤ (pos 8000000000)) (pos 32000000000) (pos 48000000000) (pos 120000000000))
    backward_wider

abbrev pub turned : List ℕ
turned = file_of (study_with (settings_with 1000 1) 400 (more 150000)) turned_runs

pub turned_acceptable : Acceptable turned turned_runs []
unfolding opened
turned_acceptable = (judged_pass turned turned_runs []).0 refl

abbrev pub further_runs : Runs
further_runs =
    runs_with (base_with (pos 531250000000) (neg_ℤ (pos 828125000000)) (pos 1984375000000) (neg_ℤ (pos 10625000000)) (pos 33125000000) (pos 54375000000) (pos 112500000000))
    backward_wider

abbrev pub further : List ℕ
further = file_of (study_with (settings_with 1000 1) 400 (more 200000)) further_runs

pub further_acceptable : Acceptable further further_runs []
unfolding opened
further_acceptable = (judged_pass further further_runs []).0 refl

-- ---- TUT1_OTHER: TUT1's network with other demand, TEC, stations, zones and money, and a solver that misses by 90,000,000
abbrev other_settings : Settings
other_settings =
    record {
      generation_zones = 2;
      demand_zones = 3;
      p = 500;
      constant = 1300;
      wider_factor = 2000;
      local_factor = 1200;
      overhead400 = 1000;
      cable400 = 1000;
      overhead275 = 1000;
      cable275 = 1000;
      overhead132 = 1000;
      cable132 = 1000;
      reference = 1;
      edition = First;
      revenue = 7000000;
    }

abbrev other_study : Study
other_study =
    record {
      settings = other_settings;
      nodes = node_in "SUBA" 1 1 0 ∷ node_in "SUBB" 1 2 20000 ∷ node_in "SUBC" 2 2 370000 ∷ node_in "SUBD" 2 3 10000 ∷ [];
      circuits = circuits_at 400;
      stations = plant "WIND" "SUBA" 1 100000 ∷ plant "GAS" "SUBA" 7 50000 ∷ plant "ATOM" "SUBB" 2 100000 ∷ plant "LINK" "SUBD" 3 150000
          ∷ plant "PUMP" "SUBD" 5 100000
          ∷ [];
    }

abbrev pub other_runs : Runs
other_runs =
    three_runs
    (base_with (neg_ℤ (pos 750000000000)) (neg_ℤ (pos 2625000000000)) (pos 2125000000000) (pos 15000000000) (pos 105000000000) (pos 75000000000) (pos 190000000000))
    (pos 0 ∷ neg_ℤ (pos 10000000000000) ∷ neg_ℤ (pos 15000030000000) ∷ neg_ℤ (pos 15000000000000)
    ∷ neg_ℤ (pos 200000000000)
    ∷ pos 200000000000
    ∷ neg_ℤ (pos 200000000000)
    ∷ pos 0
    ∷ [])
    local_run

abbrev pub other : List ℕ
other = file_of other_study other_runs

pub other_acceptable : Acceptable other other_runs []
unfolding opened
other_acceptable = (judged_pass other other_runs []).0 refl

-- ---- TUT1 with demand at D and no generation there: of the directions only that of its marked circuit has turned
abbrev pub fed_runs : Runs
fed_runs =
    three_runs
    (base_with (neg_ℤ (pos 375000000000)) (neg_ℤ (pos 1062500000000)) (neg_ℤ (pos 2312500000000)) (pos 7500000000) (pos 42500000000) (pos 27500000000)
    (neg_ℤ (pos 50000000000)))
    forward_wider
    (pos 0 ∷ pos 0 ∷ pos 0 ∷ neg_ℤ (pos 30000000000000) ∷ replicate 4 (pos 0))

abbrev pub fed : List ℕ
fed =
    file_of
    (record {
      settings = settings_with 1000 1;
      nodes = node_in "SUBA" 1 1 0 ∷ node_in "SUBB" 2 2 180000 ∷ node_in "SUBC" 3 3 20000 ∷ node_in "SUBD" 4 4 50000 ∷ [];
      circuits = circuits_at 400;
      stations = station_of "GENA" "SUBA" 60000 ∷ station_of "GENB" "SUBB" 240000 ∷ [];
    })
    fed_runs

pub fed_acceptable : Acceptable fed fed_runs []
unfolding opened
fed_acceptable = (judged_pass fed fed_runs []).0 refl

-- ---- TUT1 with the second node for reference
abbrev pub moved_runs : Runs
moved_runs =
    three_runs
    (pos 125000000000 ∷ pos 0 ∷ neg_ℤ (pos 562500000000) ∷ pos 3187500000000 ∷ pos 2500000000 ∷ pos 27500000000 ∷ pos 22500000000
    ∷ pos 150000000000
    ∷ [])
    (pos 10000000000000 ∷ pos 0 ∷ neg_ℤ (pos 5000000000000) ∷ neg_ℤ (pos 5000000000000)
    ∷ neg_ℤ (pos 200000000000)
    ∷ pos 200000000000
    ∷ neg_ℤ (pos 200000000000)
    ∷ pos 0
    ∷ [])
    local_run

abbrev pub moved : List ℕ
moved = file_of (study_with (settings_with 1000 2) 400 stations) moved_runs

pub moved_acceptable : Acceptable moved moved_runs []
unfolding opened
moved_acceptable = (judged_pass moved moved_runs []).0 refl

-- ---- B-C at 275 kV: with a factor of 2 (TUT2_275), and of 1; and TUT1 where the factor of 275 kV is 2
abbrev pub stretched_runs : Runs
stretched_runs = runs_with tut_base (wider_with (neg_ℤ (pos 5000000000000)) (neg_ℤ (pos 17500000000000)) (pos 300000000000))

abbrev pub stretched : List ℕ
stretched = file_of (study_with (settings_with 2000 1) 275 stations) stretched_runs

pub stretched_acceptable : Acceptable stretched stretched_runs []
unfolding opened
stretched_acceptable = (judged_pass stretched stretched_runs []).0 refl

abbrev pub plain : List ℕ
plain = file_of (study_with (settings_with 1000 1) 275 stations) tut_runs

pub plain_acceptable : Acceptable plain tut_runs []
unfolding opened
plain_acceptable = (judged_pass plain tut_runs []).0 refl

abbrev pub unused : List ℕ
unused = file_of (study_with (settings_with 2000 1) 400 stations) tut_runs

pub unused_acceptable : Acceptable unused tut_runs []
unfolding opened
unused_acceptable = (judged_pass unused tut_runs []).0 refl

-- ---- TUT1 with the rows of B and C exchanged
abbrev pub exchanged_runs : Runs
exchanged_runs =
    three_runs
    (pos 0 ∷ neg_ℤ (pos 687500000000) ∷ neg_ℤ (pos 125000000000) ∷ pos 3062500000000 ∷ pos 2500000000 ∷ pos 27500000000 ∷ pos 22500000000
    ∷ pos 150000000000
    ∷ [])
    (pos 0 ∷ neg_ℤ (pos 15000000000000) ∷ neg_ℤ (pos 10000000000000) ∷ neg_ℤ (pos 15000000000000)
    ∷ neg_ℤ (pos 200000000000)
    ∷ pos 200000000000
    ∷ neg_ℤ (pos 200000000000)
    ∷ pos 0
    ∷ [])
    local_run

abbrev pub exchanged : List ℕ
exchanged =
    file_of (record {
      settings = settings_with 1000 1;
      nodes = node_in "SUBA" 1 1 0 ∷ node_in "SUBC" 3 3 200000 ∷ node_in "SUBB" 2 2 100000 ∷ node_in "SUBD" 4 4 0 ∷ [];
      circuits = circuits_at 400;
      stations = stations;
    })
    exchanged_runs

pub exchanged_acceptable : Acceptable exchanged exchanged_runs []
unfolding opened
exchanged_acceptable = (judged_pass exchanged exchanged_runs []).0 refl

-- ---- TUT1 with a wider run of zeros: refused as 10 of system 2
abbrev pub flat_runs : Runs
flat_runs = runs_with tut_base (replicate 8 (pos 0))

pub flat_refused : judged tut flat_runs [] ≡ Err (MissesTooHigh (Wider YearRound))
unfolding opened
flat_refused = refl
