-- Demand 2's conditions, as a person writes them: propositions, with no test in them.
use Rattle.std.specs.Prelude.{◌≡◌, ◌⊎◌, ◌≢◌, List, [], ℕ, ◌+◌, ◌*◌, ◌≤◌, ◌<◌, ℤ, pos, nat_abs, ◌-ℤ◌, length, get_or}
use Rattle.meaning.specs.Name.{Name}
use Rattle.meaning.specs.declared.Settings.{Settings}
use Rattle.meaning.specs.Study.{Kw, Circuit, Study, Runs, node, circuit, station}
use Rattle.meaning.specs.File.{u32, edition_at, sections, trailer_size, most_circuits, version_of, stated_length, section_offset, section_count, section_start, solution_count, run_length, study_of}
use Rattle.meaning.specs.declared.Edition.TheVariants.{Second}
use Rattle.meaning.specs.declared.Background.{Background}
use Rattle.meaning.specs.declared.Side.TheVariants.{Generation}
use Rattle.meaning.specs.declared.System.{System}
use Rattle.meaning.specs.Editions.{HasSystem}
use Rattle.meaning.specs.Grid.{Grid, grid_of, total_demand, total_tec, total_paying_tec}
use Rattle.meaning.specs.Network.{Network, network_of, Reached}
use Rattle.meaning.specs.declared.Direction.TheVariants.{InDoubt}
use Rattle.meaning.specs.declared.Counting.TheVariants.{Doubtful}
use Rattle.meaning.specs.Generation.{total_fixed, total_variable}
use Rattle.meaning.specs.Proposal.{potential, flow, flow_out, flow_in, miss_sum, Proposed}
use Rattle.meaning.specs.Systems.{counting, heading, proposed}
use Rattle.meaning.specs.Sharing.{next_inward, load_factor, Passes}
use Rattle.meaning.specs.Figures.{zones, zone_weight}

-- a number in a range, both ends in it
pub record InRange (x low high : ℕ) : Type 0 where
  pub least : low ≤ x
  pub most : x ≤ high

-- 01: version 1 and a zero; 02, request 3: version 2; request 5: edition 2 is "in version 2 files"
abbrev pub KnownEdition : (version edition : ℕ) → Type 0
KnownEdition version edition = (InRange version 1 2 × (edition ≡ 0)) ⊎ ((version ≡ 2) × (edition ≡ 2))

-- not 1
pub record WholeFile (file : List ℕ) (runs : Runs) : Type 0 where
  pub long : 128 ≤ length file
  pub edition : KnownEdition (version_of file) (u32 file 52)
  pub file_length : stated_length file ≡ length file
  pub one_settings : section_count file 0 ≡ 1
  pub nodes : InRange (section_count file 1) 1 256
  pub circuits : section_count file 2 ≤ most_circuits (edition_at file) (version_of file)
  pub stations : section_count file 3 ≤ 512
  pub solutions : (section : ℕ) → 4 ≤ section → section < sections (edition_at file) → section_count file section ≡ solution_count file
  pub chain : (section : ℕ) → section < sections (edition_at file) → section_offset file section ≡ section_start file section
  pub end : section_start file (sections (edition_at file)) + trailer_size (edition_at file) ≡ length file
  pub lengths : (system : System) → length (runs system) ≡ run_length file system

-- "1 to 12 of A-Z, 0-9 and underscore, then spaces to 12"
pub record WellFormed (name : Name) : Type 0 where
  pub long : length name ≡ 12
  pub letters : ℕ
  pub some : InRange letters 1 12
  pub each : (i : ℕ) → i < letters
      → InRange (get_or name i 0) 65 90 ⊎ InRange (get_or name i 0) 48 57 ⊎ (get_or name i 0 ≡ 95)
  pub spaces : (i : ℕ) → letters ≤ i → i < 12 → get_or name i 0 ≡ 32

-- not 2
pub record SoundSettings (nodes : ℕ) (s : Settings) : Type 0 where
  pub generation_zones : InRange s.generation_zones 1 32
  pub demand_zones : InRange s.demand_zones 1 32
  pub p : s.p ≤ 1000
  pub constant : InRange s.constant 1 10000
  pub wider_factor : InRange s.wider_factor 1000 5000
  pub local_factor : InRange s.local_factor 1000 5000
  pub overhead400 : s.overhead400 ≡ 1000
  pub cable400 : InRange s.cable400 1000 30000
  pub overhead275 : InRange s.overhead275 1000 30000
  pub cable275 : InRange s.cable275 1000 30000
  pub overhead132 : InRange s.overhead132 1000 30000
  pub cable132 : InRange s.cable132 1000 30000
  pub reference : InRange s.reference 1 nodes
  pub revenue : s.revenue ≤ 10000000000

-- not 3 at row i
pub record SoundNode (S : Study) (i : ℕ) : Type 0 where
  pub name : WellFormed (node S.nodes i).name
  pub generation_zone : InRange (node S.nodes i).generation_zone 1 S.settings.generation_zones
  pub demand_zone : InRange (node S.nodes i).demand_zone 1 S.settings.demand_zones
  pub demand : (node S.nodes i).demand ≤ 20000000
  pub new : (j : ℕ) → j < i → (node S.nodes j).name ≢ (node S.nodes i).name

-- some node has this name
pub record Known (S : Study) (name : Name) : Type 0 where
  pub place : ℕ
  pub is_node : place < length S.nodes
  pub named : (node S.nodes place).name ≡ name

-- 02, request 3: "320 or 525, new voltages"
abbrev pub NewVoltage : ℕ → Type 0
NewVoltage voltage = (voltage ≡ 320) ⊎ (voltage ≡ 525)

-- not 4 at row i
pub record SoundCircuit (S : Study) (i : ℕ) : Type 0 where
  pub first_name : WellFormed (circuit S.circuits i).first
  pub second_name : WellFormed (circuit S.circuits i).second
  pub first : Known S (circuit S.circuits i).first
  pub second : Known S (circuit S.circuits i).second
  pub apart : (circuit S.circuits i).first ≢ (circuit S.circuits i).second
  pub voltage : ((circuit S.circuits i).voltage ≡ 132) ⊎ ((circuit S.circuits i).voltage ≡ 275) ⊎ ((circuit S.circuits i).voltage ≡ 400)
      ⊎ NewVoltage (circuit S.circuits i).voltage
  pub factor : ((circuit S.circuits i).factor ≡ 0) ⊎ InRange (circuit S.circuits i).factor 1000 30000
  pub own_factor : NewVoltage (circuit S.circuits i).voltage → (circuit S.circuits i).factor ≢ 0
  pub x : InRange (circuit S.circuits i).x 1 10000
  pub overhead : (circuit S.circuits i).overhead ≤ 500000
  pub cable : (circuit S.circuits i).cable ≤ 500000
  pub local_mark : (circuit S.circuits i).local_mark ≤ 1

-- not 5 at row i
pub record SoundStation (S : Study) (i : ℕ) : Type 0 where
  pub identifier : WellFormed (station S.stations i).identifier
  pub node_name : WellFormed (station S.stations i).node
  pub node : Known S (station S.stations i).node
  pub plant_type : InRange (station S.stations i).plant_type 1 7
  pub tec : (station S.stations i).tec ≤ 20000000
  pub new : (j : ℕ) → j < i → (station S.stations j).identifier ≢ (station S.stations i).identifier

-- not 7
pub record SoundTotals (G : Grid) : Type 0 where
  pub demand_total : InRange (total_demand G) 1 100000000
  pub tec_total : InRange (total_tec G) 1 100000000
  pub enough : total_demand G ≤ total_tec G

-- "Tables are sound when none of 1 to 7 holds": 2 to 7 of a whole file's study
pub record SoundTables (S : Study) : Type 0 where
  pub settings : SoundSettings (length S.nodes) S.settings
  pub nodes : (i : ℕ) → i < length S.nodes → SoundNode S i
  pub circuits : (i : ℕ) → i < length S.circuits → SoundCircuit S i
  pub stations : (i : ℕ) → i < length S.stations → SoundStation S i
  pub reached : (v : ℕ) → v < length S.nodes → Reached (network_of (grid_of S)) v
  pub totals : SoundTotals (grid_of S)

-- not 13 (02, request 1): some TEC is chargeable
abbrev pub Chargeable : Grid → Type 0
Chargeable G = 1 ≤ total_paying_tec G

-- not 14 in a background (02, request 5): "fixed generation above demand or variable generation too small"
pub record Scalable (G : Grid) (b : Background) : Type 0 where
  pub fixed : total_fixed G b ≤ total_demand G
  pub variable : total_demand G ≤ total_fixed G b + total_variable G b

-- sound tables, and what 02 asks of a study beside them: "each refusal of a case that a later request adds joins demand 2's conditions"
pub record SoundStudy (S : Study) : Type 0 where
  pub tables : SoundTables S
  pub chargeable : Chargeable (grid_of S)
  pub scalable : S.settings.edition ≡ Second → (b : Background) → Scalable (grid_of S) b

-- not 16 (02, request 6), where the file is in force: "row 0 for a wrong length or load factor"
pub record SoundShareFrame (share : List ℕ) (zones : ℕ) : Type 0 where
  pub long : length share ≡ 4 * (zones + 7)
  pub factors : (plant_type : ℕ) → 1 ≤ plant_type → plant_type ≤ 7 → load_factor share zones plant_type ≤ 1000

module _ (zones : ℕ) (tec : ℕ → Kw) (next : ℕ → ℕ) where
  -- "0 for the one centre": a zone with TEC that names none
  pub record Centre (z : ℕ) : Type 0 where
    pub kilowatts : 1 ≤ tec z
    pub names_none : next z ≡ 0

  -- "the lowest zone that names one absent or without TEC, names one though it has no TEC, is a second centre, or whose chain circles": none of these
  pub record SoundZone (z : ℕ) : Type 0 where
    pub names : next z ≢ 0 → (next z ≤ zones) × (1 ≤ tec (next z))
    pub own : next z ≢ 0 → 1 ≤ tec z
    pub only : Centre z → (w : ℕ) → 1 ≤ w → w < z → Centre w → ⊥
    -- a chain that circles never comes to its end
    pub ends : Passes next z 0

-- a share file of a case in edition 2: "for each generation zone the next one inward"
pub record SoundShare (G : Grid) (share : List ℕ) : Type 0 where
  pub frame : SoundShareFrame share (zones G Generation)
  pub zone : (z : ℕ) → 1 ≤ z → z ≤ zones G Generation → SoundZone (zones G Generation) (zone_weight G Generation) (next_inward share (zones G Generation)) z

-- step 2, for any network, supply and offset, potentials and flows, and a bound on the sum of misses
pub record Solves (N : Network) (bound : ℕ) (supply offset potential flow : ℕ → ℤ) : Type 0 where
  pub ground : potential N.reference ≡ pos 0
  pub balanced : (v : ℕ) → v < N.nodes → flow_out N flow v -ℤ flow_in N flow v ≡ supply v
  pub close : miss_sum N offset potential flow ≤ bound

-- not 8, 9 or 10 of a system: every proposed number in range, and step 2 with 01's bound
pub record SolvesSystem (N : Network) (P : Proposed) : Type 0 where
  pub potentials : (v : ℕ) → v < N.nodes → nat_abs (potential P.run v) ≤ P.limit
  pub flows : (c : ℕ) → c < N.circuits → nat_abs (flow N P.run c) ≤ 100000000000000
  pub solves : Solves N 100000000 P.supply P.offset (potential P.run) (flow N P.run)

-- "a length above zero"
abbrev pub HasLength : Circuit → Type 0
HasLength c = 1 ≤ c.overhead + c.cable

-- not 15 at circuit c (02, request 5), and not 11
abbrev pub Decided : Grid → Runs → ℕ → Type 0
Decided G runs c = HasLength (circuit G.circuits c) → counting G runs c ≢ Doubtful

abbrev pub Clear : Grid → Runs → ℕ → Type 0
Clear G runs c = HasLength (circuit G.circuits c) → heading G runs c ≢ InDoubt

-- not 15, and not 11
pub record NoDoubt (G : Grid) (runs : Runs) : Type 0 where
  pub decided : (c : ℕ) → c < length G.circuits → Decided G runs c
  pub clear : (c : ℕ) → c < length G.circuits → Clear G runs c

-- not 1 to 11, and not 13 to 16; "absent, empty or in edition 1, nothing changes"
pub record Acceptable (file : List ℕ) (runs : Runs) (share : List ℕ) : Type 0 where
  pub whole : WholeFile file runs
  pub study : SoundStudy (study_of file)
  pub shared : (study_of file).settings.edition ≡ Second → share ≢ [] → SoundShare (grid_of (study_of file)) share
  pub solved : (system : System) → HasSystem (study_of file).settings.edition system
      → SolvesSystem (network_of (grid_of (study_of file))) (proposed (grid_of (study_of file)) runs system)
  pub directions : NoDoubt (grid_of (study_of file)) runs
