-- What 6, 7, 13 and 14 are told: the columns of a file whose rows are sound.
use Rattle.std.specs.Prelude.{Bool, ◌&&◌, List, ℕ, ◌+◌, ◌-◌, leb}
use Rattle.meaning.specs.declared.Edition.{Edition}
use Rattle.meaning.specs.declared.Background.{Background}
use Rattle.meaning.specs.declared.Background.TheVariants.{YearRound, Peak}
use Rattle.meaning.specs.declared.Refusal.TheVariants.{BadTotal, NoChargeableTec, Unscalable}
use Rattle.meaning.specs.declared.Kw.{Kw}
use Rattle.meaning.specs.Answers.{Judgement, ◌or_else◌, unless, in_second}
use Rattle.meaning.specs.Grid.{sound_totals}
use Rattle.meaning.specs.Network.{reach_stage}
use Rattle.plants.specs.declared.Counted.TheVariants.{All, Paying, Fixed, Variable}
use Rattle.station_table.specs.Tec.{by_node}
use Rattle.totals.specs.Totals.{total_of}
use Rattle.walk.specs.Walk.{walked}
use Rattle.tables.specs.declared.Opened.{Opened}

-- 7, of the columns of n nodes
abbrev pub totals_of : (n : ℕ) (demand tec : List Kw) → Judgement
totals_of n demand tec = unless (sound_totals (total_of n demand).0 (total_of n tec).0) BadTotal

-- 13, of the column of n nodes' TEC that pays
abbrev pub chargeable_of : (n : ℕ) (paying : List Kw) → Judgement
chargeable_of n paying = unless (leb 1 (total_of n paying).0) NoChargeableTec

-- 14 in a background, of the columns of n nodes: what is fixed, the TEC of variable types, demand. Once 7 has passed no total here is cut off
abbrev pub scalable_of : (n : ℕ) (fixed variable demand : List Kw) → Bool
scalable_of n fixed variable demand =
    leb (total_of n fixed).0 (total_of n demand).0 && leb (total_of n demand).0 ((total_of n fixed).0 + (total_of n variable).0)

abbrev pub scaling_of : (n : ℕ) (fixed variable demand : List Kw) → Judgement
scaling_of n fixed variable demand = unless (scalable_of n fixed variable demand) Unscalable

-- the same from TEC by node and plant type
abbrev pub background_in : Edition → Background → (n : ℕ) (by_type demand : List Kw) → Judgement
background_in e b n by_type demand = scaling_of n (by_node by_type (Fixed e b)) (by_node by_type (Variable e b)) demand

abbrev pub both_in : Edition → (n : ℕ) (by_type demand : List Kw) → Judgement
both_in e n by_type demand = background_in e YearRound n by_type demand or_else background_in e Peak n by_type demand

abbrev pub scaling_in : Edition → (n : ℕ) (by_type demand : List Kw) → Judgement
scaling_in e n by_type demand = in_second e (both_in e n by_type demand)

-- 6, 7, 13 and 14 of what was read
abbrev pub grid_in : Opened → Judgement
grid_in a =
    reach_stage (walked a.counts.nodes (a.settings.reference - 1) a.counts.circuits a.circuits.first a.circuits.second)
    or_else totals_of a.counts.nodes a.nodes.demand (by_node a.by_type All)
    or_else chargeable_of a.counts.nodes (by_node a.by_type Paying)
    or_else scaling_in a.settings.edition a.counts.nodes a.by_type a.nodes.demand
