-- All figures of a sound study with potentials in range, and with a sound share file if one is in force: the records put together.
use mathlib.Core.List.{List}
use Prim.Native.Nat.{ℕ, ◌≤◌}
use lib.IntN.{nat_abs}
use Rattle.meaning.specs.declared.Background.{Background}
use Rattle.meaning.specs.declared.Background.TheVariants.{YearRound, Peak}
use Rattle.meaning.specs.declared.Side.{Side}
use Rattle.meaning.specs.declared.Side.TheVariants.{Generation}
use Rattle.meaning.specs.Study.{Runs}
use Rattle.meaning.specs.Grid.{Grid, grid_of}
use Rattle.meaning.specs.Editions.{Of}
use Rattle.meaning.specs.Figures.{form_of, own_metres}
use Rattle.sizes.specs.Bounds.{ShareSound, own_most, MetresFit, TariffsFit, SharesFit, LocalFits, FiguresAlwaysFit}
use Rattle.sizes.proofs.Ranges.{Ranged, ranged}
use Rattle.sizes.proofs.Metres.{metres_fit}
use Rattle.sizes.proofs.Parts.{year_round_within, own_at_peak}
use Rattle.sizes.proofs.Tariffs.{tariffs_fit, shares_fit_lem, locals_fit}
use Rattle.sizes.proofs.Rest.{rest_fits}

-- the metres that a zone's tariff is of, in either background
own_within : (G : Grid) (runs : Runs) (share : List ℕ) → Ranged G → ShareSound G share → ((b : Background) → Of b G.settings.edition → MetresFit G runs b)
    → (b : Background) → Of b G.settings.edition → (side : Side) (zone : ℕ) → nat_abs (own_metres G runs share b side zone) ≤ own_most (form_of G share side) b
own_within G runs share r sound m YearRound h side zone = (year_round_within G runs share (r.zones_most Generation) sound (m YearRound h).zonal side zone).1
own_within G runs share r sound m Peak h side zone = own_at_peak G runs share side zone ((m Peak h).zonal side zone)

pub figures_fit : FiguresAlwaysFit
unfolding grid_of
figures_fit S study runs u share sound =
    record { metres = metres; tariffs = tariffs; shares = shares; locals = locals; rests = rest_fits (grid_of S) runs share range tariffs shares locals }
  where
    range : Ranged (grid_of S)
    range = ranged S study

    metres : (b : Background) → Of b S.settings.edition → MetresFit (grid_of S) runs b
    metres b h = metres_fit (grid_of S) runs range u b h

    tariffs : (b : Background) → Of b S.settings.edition → TariffsFit (grid_of S) runs share b
    tariffs b h = tariffs_fit (grid_of S) runs range share b (metres b h) (own_within (grid_of S) runs share range sound metres b h)

    shares : SharesFit (grid_of S) runs share
    shares = shares_fit_lem (grid_of S) runs range share (λ side zone. (year_round_within (grid_of S) runs share (range.zones_most Generation) sound (metres YearRound tt).zonal side zone).0) sound

    locals : LocalFits (grid_of S) runs
    locals = locals_fit (grid_of S) runs range u
