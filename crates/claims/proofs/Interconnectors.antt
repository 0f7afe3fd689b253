-- 02, request 1: who pays, and that 01's own figures stand where no interconnector is.
use mathlib.Core.Path.{◌≡◌, refl, sym, ◌∙◌, ap, ap₂}
use mathlib.Core.Bool.{cond}
use mathlib.Core.List.{List}
use Prim.Native.Nat.{ℕ, suc, ◌<◌}
use native.Mathlib.Omega.{arith}
use lib.Dec.{eqb}
use lib.IntN.{ℤ, pos, ◌-ℤ◌, ◌*ℤ◌}
use lib.ListN.{length}
use Rattle.integers.specs.Numbers.{Σ}
use Rattle.integers.proofs.Sum.{sum_same, Σ-same}
use Rattle.meaning.specs.Study.{Runs}
use Rattle.meaning.specs.declared.Edition.TheVariants.{First}
use Rattle.meaning.specs.declared.Background.TheVariants.{YearRound}
use Rattle.meaning.specs.Grid.{Grid, grid_of, pays_in, node_tec, paying_tec, total_tec, total_demand}
use Rattle.meaning.specs.declared.Side.TheVariants.{Generation, Demand}
use Rattle.meaning.specs.Figures.{zones, zone_of, weight, paying, paying_in, zone_weight, zone_paying_in, total_paying, total_paying_in, over_zones, target, zone_tariff, local_tariff, local_income, basis}
use Rattle.meaning.specs.Charging as charging
use Rattle.meaning.specs.Conditions.{SoundTables, SoundStudy}
use Rattle.meaning.specs.Demands.{AllButInterconnectorsPay, AllTecPays, NoInterconnectorNoChange}
use Rattle.meaning.proofs.Plants.{capacity_at_lem, all_weigh, all_but_three_pay}
use Rattle.meaning.proofs.Systems.{first≢second}
use Rattle.meaning.proofs.Present.{present_income}

pub all_but_interconnectors_pay : AllButInterconnectorsPay
unfolding grid_of
all_but_interconnectors_pay S v h = record {
  weigh = all_weigh (grid_of S) v ∙ sum_same 7 _ _ (λ t l. capacity_at_lem S v t h l);
  pay = rw (capacity_at_lem S v 2 h (omega arith)) at (all_but_three_pay (grid_of S) v);
}

-- ---- a grid of edition 1 where all TEC pays
module _ (G : Grid) (first : G.settings.edition ≡ First) (all : (v : ℕ) → v < length G.nodes → paying_tec G v ≡ node_tec G v) where
  zone_same : (zone : ℕ) → zone_paying_in G YearRound Generation zone ≡ zone_weight G Generation zone
  unfolding zone_paying_in zone_weight paying_in weight pays_in
  zone_same zone = sum_same (length G.nodes) _ _ (λ v h. ap (λ (kw : ℕ). cond (eqb (zone_of G Generation v) zone) kw 0) (all v h))

  total_same : total_paying G Generation ≡ total_tec G
  unfolding total_paying paying
  total_same = sum_same (length G.nodes) _ _ all

  total_in : total_paying_in G YearRound Generation ≡ total_tec G
  unfolding total_paying_in paying_in pays_in
  total_in = sum_same (length G.nodes) _ _ all

  total_demand_lem : total_paying_in G YearRound Demand ≡ total_demand G
  unfolding total_paying_in paying_in
  total_demand_lem = refl

  over_same : (f : ℕ → ℤ) → over_zones G YearRound Generation f ≡ Σ (zones G Generation) (λ k. f (suc k) *ℤ pos (zone_weight G Generation (suc k)))
  over_same f = Σ-same (zones G Generation) _ _ (λ k h. ap (λ (kw : ℕ). f (suc k) *ℤ pos kw) (zone_same (suc k)))

  local_same : (runs : Runs) → local_income G runs Generation ≡ Σ (length G.nodes) (λ v. local_tariff G runs v *ℤ pos (node_tec G v))
  unfolding charging.local_income basis
  local_same runs = Σ-same (length G.nodes) _ _ (λ v h. ap (λ (kw : ℕ). local_tariff G runs v *ℤ pos kw) (all v h))

  all_tec_pays : (runs : Runs) (share : List ℕ) → AllTecPays G runs share
  unfolding charging.C charging.rest charging.residual charging.remainder charging.priced basis
  all_tec_pays runs share = record {
    centre = rw (over_same, total_in, total_demand_lem) refl;
    generation_rest =
        ap₂ (λ (w l : ℤ). target G Generation -ℤ w -ℤ l) (present_income G first runs share Generation ∙ over_same (zone_tariff G runs share YearRound Generation)) (local_same runs);
    generation_residual = rw total_same refl;
    generation_remainder = rw total_same refl;
  }

pub no_interconnector_no_change : NoInterconnectorNoChange
unfolding grid_of
no_interconnector_no_change S runs first none = record { figures = all_tec_pays (grid_of S) first all runs; chargeable = chargeable }
  where
    all : (v : ℕ) → v < length S.nodes → paying_tec (grid_of S) v ≡ node_tec (grid_of S) v
    all v h = omega (arith, (all_but_interconnectors_pay S v h).pay, none v h)

    chargeable : SoundTables S → SoundStudy S
    chargeable s = record {
      tables = s;
      chargeable = omega (arith, sum_same (length S.nodes) (paying_tec (grid_of S)) (node_tec (grid_of S)) all, s.totals.tec_total.least);
      scalable = λ second. absurd (first≢second (sym first ∙ second));
    }
