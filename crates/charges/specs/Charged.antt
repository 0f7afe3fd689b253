-- 01, steps 6 to 10 of a case file, its runs and a share file: the figures, or what stops the case.
use Rattle.std.specs.Prelude.{List, replicate, ℕ, Result}
use Rattle.meaning.specs.declared.Kw.{Kw}
use Rattle.meaning.specs.declared.Edition.{Edition}
use Rattle.meaning.specs.declared.Figures.{Figures}
use Rattle.meaning.specs.declared.Refusal.{Refusal}
use Rattle.meaning.specs.Answers.{yields}
use Rattle.meaning.specs.Editions.{by_edition}
use Rattle.meaning.specs.Columns.{kilowatts}
use Rattle.meaning.specs.Study.{Runs}
use Rattle.meaning.specs.File.{study_of}
use Rattle.meaning.specs.Grid.{grid_of}
use Rattle.meaning.specs.Figures.{sharing, basis}
use Rattle.meaning.specs.Outcome.{judged}
use Rattle.plants.specs.declared.Counted.TheVariants.{All, Paying, PayingAtPeak}
use Rattle.station_table.specs.Tec.{by_node}
use Rattle.tables.specs.declared.Opened.{Opened}
use Rattle.boundaries.specs.declared.Shares.{Shares}
use Rattle.shares.specs.OfCase.{shares_of}
use Rattle.tariffs.specs.Case.{figures_of, figures_over}
use Rattle.meaning.specs.declared.Background.TheVariants.{YearRound, Peak}
use Rattle.meaning.specs.declared.System.TheVariants.{Wider, Local}

-- the TEC that pays in peak, by node: a column that edition 1 leaves empty
abbrev pub peak_payers : Edition → (by_type : List Kw) → List Kw
peak_payers e by_type = by_edition (replicate 256 (kilowatts 0)) (by_node by_type PayingAtPeak) e

-- 02, request 6: what a share file says of a case that was opened
abbrev pub shares_in : Opened → (share : List ℕ) → Shares
shares_in o share = shares_of o.settings.edition o.settings.generation_zones o.counts.nodes o.nodes.generation_zone o.by_type share

-- the figures over the columns of a case that was opened
abbrev pub figures_in : Opened → Runs → (share : List ℕ) → Figures
figures_in o runs share =
    figures_over o.counts.nodes o.settings o.nodes.generation_zone (by_node o.by_type All) (by_node o.by_type Paying) (peak_payers o.settings.edition o.by_type)
    o.nodes.demand_zone o.nodes.demand (runs (Wider YearRound)) (runs (Wider Peak)) (runs Local) (shares_in o share)

-- What stops a case, "Order", 1 to 11 and 13 to 16; or the figures of steps 6 to 10 where nothing does
unfoldable pub charged_of : (file : List ℕ) → Runs → (share : List ℕ) → Result Figures Refusal
charged_of file runs share =
    yields (judged file runs share) (figures_of (basis (grid_of (study_of file)) runs) (sharing (grid_of (study_of file)) share))
