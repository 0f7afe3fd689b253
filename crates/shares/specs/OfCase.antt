-- 02, request 6: refusal 16 and what a share file says, over the columns of a case that was opened.
use Rattle.std.specs.Prelude.{true, false, cond, List, ℕ, replicate}
use Rattle.meaning.specs.declared.Edition.{Edition}
use Rattle.meaning.specs.Answers.{Judgement}
use Rattle.meaning.specs.declared.Kw.{Kw}
use Rattle.meaning.specs.Answers.{when}
use Rattle.meaning.specs.Columns.{kilowatts}
use Rattle.meaning.specs.Sharing.{in_force}
use Rattle.plants.specs.declared.Counted.TheVariants.{All, LowCarbon, Carbon}
use Rattle.station_table.specs.Tec.{by_node}
use Rattle.zone_kw.specs.ByZone.{by_zone}
use Rattle.zone_kw.specs.Load.{shared_kw}
use Rattle.chains.specs.Columns.{inward_of, factors_of, stage_in}
use Rattle.boundaries.specs.declared.Shares.{Shares}
use Rattle.boundaries.specs.Boundaries.{no_shares}

-- of n nodes, by each one's zone and TEC of each plant type
module _ (e : Edition) (zones n : ℕ) (zone : List ℕ) (by_type : List Kw) (share : List ℕ) where
  unfoldable pub stage_of : Judgement
  stage_of = when (in_force e share) (stage_in share zones (by_zone n zone (by_node by_type All)))

  unfoldable pub shares_of : Shares
  shares_of =
      cond (in_force e share)
      (record {
        in_force = true;
        next = inward_of share zones;
        low = by_zone n zone (by_node by_type LowCarbon);
        carbon = by_zone n zone (by_node by_type Carbon);
        kw = shared_kw n zone by_type (factors_of share zones);
      }) no_shares
