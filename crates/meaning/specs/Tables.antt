-- 01, What stops a case, 2 to 5: settings and tables, row by row. Ranges are those of 01, Quantities.
use Rattle.std.specs.Prelude.{Bool, not, ◌&&◌, ◌||◌, List, ℕ, eqb, leb, length}
use Rattle.meaning.specs.Rows.{◌between◌and◌, failing, any}
use Rattle.meaning.specs.Name.{Name, well_formed, same_name}
use Rattle.meaning.specs.declared.Settings.{Settings}
use Rattle.meaning.specs.Study.{Node, Circuit, Station, Study, node, circuit, station}
use Rattle.meaning.specs.Answers.{Judgement}
use Rattle.meaning.specs.declared.Refusal.TheVariants.{BadSetting, BadNode, BadCircuit, BadStation}
use Rattle.meaning.specs.Answers.{unless, at}

-- "seen earlier": row i has the name of an earlier row
unfoldable pub seen_earlier : (ℕ → Name) → ℕ → Bool
seen_earlier name i = any (λ j. same_name (name j) (name i)) i

-- a node of the table has this name
unfoldable pub known : List Node → Name → Bool
known nodes name = any (λ v. same_name (node nodes v).name name) (length nodes)

-- 2, zones, p, expansion constant and security factors
unfoldable pub sound_scales : Settings → Bool
sound_scales s =
    s.generation_zones between 1 and 32 && s.demand_zones between 1 and 32 && leb s.p 1000 && s.constant between 1 and 10000
    && s.wider_factor between 1000 and 5000 && s.local_factor between 1000 and 5000

-- 2: each setting in its range, the reference row a row of the nodes' table
unfoldable pub sound_settings : (nodes : ℕ) → Settings → Bool
sound_settings nodes s =
    sound_scales s && eqb s.overhead400 1000 && s.cable400 between 1000 and 30000 && s.overhead275 between 1000 and 30000
    && s.cable275 between 1000 and 30000 && s.overhead132 between 1000 and 30000 && s.cable132 between 1000 and 30000
    && s.reference between 1 and nodes && leb s.revenue 10000000000

-- 3, a row by itself
unfoldable pub sound_node_row : Settings → Node → Bool
sound_node_row s n =
    well_formed n.name && n.generation_zone between 1 and s.generation_zones && n.demand_zone between 1 and s.demand_zones
    && leb n.demand 20000000

-- "voltage (132, 275 or 400)"; 02, request 3: "320 or 525, new voltages"
unfoldable pub new_voltage : (voltage : ℕ) → Bool
new_voltage voltage = eqb voltage 320 || eqb voltage 525

unfoldable pub sound_voltage : (voltage : ℕ) → Bool
sound_voltage voltage = eqb voltage 132 || eqb voltage 275 || eqb voltage 400 || new_voltage voltage

-- 02, request 3: "0 means by voltage, otherwise 1,000 to 30,000"; at a new voltage "it may not be 0"
unfoldable pub sound_factor : (voltage factor : ℕ) → Bool
sound_factor voltage factor = (eqb factor 0 || factor between 1000 and 30000) && not (new_voltage voltage && eqb factor 0)

-- 4: malformed, out of range, "unknown end, equal ends"
unfoldable pub sound_circuit_row : List Node → Circuit → Bool
sound_circuit_row nodes c =
    well_formed c.first && well_formed c.second && known nodes c.first && known nodes c.second
    && not (same_name c.first c.second) && sound_voltage c.voltage && sound_factor c.voltage c.factor
    && c.x between 1 and 10000 && leb c.overhead 500000 && leb c.cable 500000 && leb c.local_mark 1

-- 5, a row by itself
unfoldable pub sound_station_row : List Node → Station → Bool
sound_station_row nodes s =
    well_formed s.identifier && well_formed s.node && known nodes s.node && s.plant_type between 1 and 7 && leb s.tec 20000000

module _ (S : Study) where
  open S use {settings, nodes, circuits, stations}

  -- 3: malformed, out of range, "or its name seen earlier"
  unfoldable pub sound_node : ℕ → Bool
  sound_node i = sound_node_row settings (node nodes i) && not (seen_earlier (λ j. (node nodes j).name) i)

  -- 4
  unfoldable pub sound_circuit : ℕ → Bool
  sound_circuit i = sound_circuit_row nodes (circuit circuits i)

  -- 5: malformed, out of range, unknown node, "identifier seen earlier"
  unfoldable pub sound_station : ℕ → Bool
  sound_station i = sound_station_row nodes (station stations i) && not (seen_earlier (λ j. (station stations j).identifier) i)

  -- the stages 2, 3, 4 and 5: lowest row first
  unfoldable pub settings_stage : Judgement
  settings_stage = unless (sound_settings (length nodes) settings) BadSetting

  unfoldable pub nodes_stage : Judgement
  nodes_stage = at (failing sound_node (length nodes)) BadNode

  unfoldable pub circuits_stage : Judgement
  circuits_stage = at (failing sound_circuit (length circuits)) BadCircuit

  unfoldable pub stations_stage : Judgement
  stations_stage = at (failing sound_station (length stations)) BadStation
