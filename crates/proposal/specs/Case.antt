-- A case in columns, as code has it, and what is proposed for a system of it.
use Rattle.std.specs.Prelude.{◌≡◌, List, [], ℕ, ◌+◌, ◌-◌, ◌≤◌, ◌<◌, ℤ, pos, nat_abs, length, get_or, replicate}
use Rattle.meaning.specs.declared.Background.{Background}
use Rattle.meaning.specs.declared.Background.TheVariants.{YearRound, Peak}
use Rattle.meaning.specs.declared.Edition.{Edition}
use Rattle.meaning.specs.declared.Kw.{Kw}
use Rattle.meaning.specs.declared.System.{System}
use Rattle.meaning.specs.declared.System.TheVariants.{Base, Wider, Local}
use Rattle.meaning.specs.declared.Refusal.TheVariants.{DirectionInDoubt, BackgroundInDoubt}
use Rattle.meaning.specs.Answers.{Judgement}
use Rattle.meaning.specs.Answers.{◌or_else◌, at, in_second}
use Rattle.meaning.specs.Rows.{failing}
use Rattle.meaning.specs.Editions.{by_edition, HasSystem}
use Rattle.meaning.specs.Study.{Runs}
use Rattle.meaning.specs.Columns.{number_at}
use Rattle.meaning.specs.Direction.{background}
use Rattle.meaning.specs.Proposal.{Proposed, system_stage}
use Rattle.meaning.specs.Systems.{limit_of, ordered}
use Rattle.plants.specs.declared.Counted.TheVariants.{Fixed, Variable}
use Rattle.numbers.specs.declared.Heading.{Heading}
use Rattle.numbers.specs.Numbers.{no_heading, decided_by, clear_by}
use Rattle.station_table.specs.Tec.{by_node}
use Rattle.tables.specs.declared.Opened.{Opened}
use Rattle.supply.specs.Supply.{base_supply, supply_in}
use Rattle.shares.specs.OfCase.{stage_of}
use Rattle.flows.specs.declared.Case.{Case}
use Rattle.flows.specs.Flows.{number, circuits_in, net_in, headings_in, offset_at}

-- the supply of each node in a background, from TEC by node and plant type
unfoldable pub background_supply : Edition → Background → (n : ℕ) (by_type demand : List Kw) → List ℤ
background_supply e b n by_type demand = base_supply n (by_node by_type (Fixed e b)) (by_node by_type (Variable e b)) demand

-- 02, request 5: edition 1 has no peak
unfoldable pub peak_supply : Edition → (n : ℕ) (by_type demand : List Kw) → List ℤ
peak_supply e n by_type demand = by_edition (replicate 256 (pos 0)) (background_supply e Peak n by_type demand) e

-- 02, request 6: 16 of a file that was opened
abbrev pub share_in : Opened → (share : List ℕ) → Judgement
share_in o share = stage_of o.settings.edition o.settings.generation_zones o.counts.nodes o.nodes.generation_zone o.by_type share

-- the case of a file that was opened: the reference counted from 0, and the supplies of step 3
unfoldable pub case_of : Opened → Case
case_of o =
    record {
      edition = o.settings.edition;
      nodes = o.counts.nodes;
      reference = o.settings.reference - 1;
      first = o.circuits.first;
      second = o.circuits.second;
      x = o.circuits.x;
      length = o.circuits.length;
      mark = o.circuits.mark;
      supply = background_supply o.settings.edition YearRound o.counts.nodes o.by_type o.nodes.demand;
      peak_supply = peak_supply o.settings.edition o.counts.nodes o.by_type o.nodes.demand;
    }

-- what is proposed for a system, supply and offset in columns
abbrev pub proposed_in : System → (supply offset run : List ℤ) → Proposed
proposed_in system supply offset run =
    record {
      system = system;
      limit = limit_of system;
      supply = number supply;
      offset = number offset;
      run = run;
    }

-- a run of a potential a node and a flow a circuit; 01, Quantities: at most 256 nodes
pub record Based (n : ℕ) (run : List ℤ) : Type 0 where
  pub nodes : n ≤ 256
  pub long : length run ≡ n + circuits_in n (length run)

-- what the judge of a system asks; the run's numbers, the supplies, the ends and the reference are any
pub record Ready (n : ℕ) (x : List ℕ) (offset run : List ℤ) : Type 0 where
  pub based : Based n run
  pub x_small : (c : ℕ) → c < circuits_in n (length run) → number_at x c ≤ 10000
  pub offset_small : (c : ℕ) → c < circuits_in n (length run) → nat_abs (number offset c) ≤ 30000000000000000

-- what is proposed for a system, by its run and the circuits' headings
abbrev pub offered_in : System → Case → (headings : List Heading) (run : List ℤ) → Proposed
offered_in system k headings run =
    record {
      system = system;
      limit = limit_of system;
      supply = number (supply_in system k.supply k.peak_supply);
      offset = offset_at system k.length k.mark headings;
      run = run;
    }

-- 8, 9, 10 of a system
abbrev pub solution_in : System → Case → (headings : List Heading) (run : List ℤ) → Judgement
solution_in system k headings run = system_stage (net_in k run) (offered_in system k headings run)

-- 15: the lowest circuit with a length whose background is in doubt
abbrev pub backgrounds_in : (lengths : List ℕ) (headings : List Heading) → Judgement
backgrounds_in lengths headings = at (failing (decided_by lengths headings) 512) BackgroundInDoubt

-- 11: the lowest circuit with a length whose own base flow is in doubt
abbrev pub directions_in : (lengths : List ℕ) (headings : List Heading) → Judgement
directions_in lengths headings =
    at (failing (clear_by lengths headings) 512) (λ row. DirectionInDoubt (background (get_or headings (row - 1) no_heading).counting) row)

-- of a background's base system, whose offset is 0 whatever the headings
abbrev pub flows_in : Background → Case → (run : List ℤ) → Judgement
flows_in b k run = solution_in (Base b) k [] run

-- 8, 9, 10 of the systems whose potentials are distances
abbrev pub lengths_in : Case → (headings : List Heading) → Runs → Judgement
lengths_in k headings runs =
    solution_in (Wider YearRound) k headings (runs (Wider YearRound))
    or_else in_second k.edition (solution_in (Wider Peak) k headings (runs (Wider Peak)))
    or_else solution_in Local k headings (runs Local)

-- 8 to 11 and 15 in the edition's order
abbrev pub proposals_in : Case → Runs → Judgement
proposals_in k runs =
    let headings = headings_in k (runs (Base YearRound)) (runs (Base Peak)) in
    ordered k.edition (λ s. solution_in s k headings (runs s)) (backgrounds_in k.length headings) (directions_in k.length headings)

-- what is known of a case whose tables are sound, and of a run of its length; the run's numbers are any
pub record Judgeable (k : Case) (run : List ℤ) : Type 0 where
  pub based : Based k.nodes run
  pub x_small : (c : ℕ) → c < (net_in k run).circuits → number_at k.x c ≤ 10000

-- and of every run of its edition
abbrev pub AllJudgeable : Case → Runs → Type 0
AllJudgeable k runs = (system : System) → HasSystem k.edition system → Judgeable k (runs system)
