-- 02, request 6: a case that was opened and that nothing stops before 16. Its columns are its grid's, so refusal 16 and what its share file says are the grid's.
use mathlib.Core.Path.{◌≡◌, ap}
use mathlib.Core.Bool.{true}
use mathlib.Core.List.{List}
use Prim.Native.Nat.{ℕ, suc, ◌≤◌}
use native.Mathlib.Omega.{arith}
use lib.ListN.{length}
use Rattle.meaning.specs.declared.Settings.{Settings}
use Rattle.meaning.specs.declared.Side.TheVariants.{Generation}
use Rattle.meaning.specs.Study.{Study}
use Rattle.meaning.specs.Grid.{grid_of}
use Rattle.meaning.specs.Sharing.{in_force}
use Rattle.meaning.specs.Figures.{zones, zone_of, weight, share_stage, sharing}
use Rattle.meaning.specs.Conditions.{SoundStudy, SoundShare}
use Rattle.sizes.proofs.Ranges.{ranged}
use Rattle.sizes.proofs.Kilowatts.{kilowatts_fit_lem}
use Rattle.tables.specs.declared.Opened.{Opened}
use Rattle.tables.proofs.ReadLaws.{StudyColumns}
use Rattle.tables.proofs.NodeLaws.{SameNodes, columns_nodes, all_at, low_at, carbon_at, type_at}
use Rattle.boundaries.specs.Boundaries.{sharing_in}
use Rattle.shares.specs.OfCase.{stage_of, shares_of}
use Rattle.shares.proofs.Laws.{CaseOf, stage_of_case, sharing_of_case}

module _ (S : Study) (study : SoundStudy S) (few : length S.nodes ≤ 256) (o : Opened) (columns : StudyColumns S o) where
  same : SameNodes (grid_of S) o
  same = columns_nodes columns few

  case_of : CaseOf (grid_of S) o.settings.edition o.settings.generation_zones o.counts.nodes o.nodes.generation_zone o.by_type
  unfolding zones zone_of weight grid_of
  case_of =
      let r = ranged S study in
      let k = kilowatts_fit_lem S study in
      let n = same.nodes in
      let settled : o.settings.generation_zones ≡ S.settings.generation_zones = ap (λ (s : Settings). s.generation_zones) columns.settings in
      record {
        edition = same.edition;
        zones = settled;
        few = omega (arith, settled, r.zones_most Generation);
        nodes = record {
          nodes = n;
          few = omega (arith, n, few);
          zone_is = same.generation_zone;
          ranged = λ v h. let z = r.in_zone Generation v (omega (arith, n, h)) in record { least = z.least; most = omega (arith, z.most, r.zones_most Generation) };
          small = λ v h. k.node_weighs Generation v (omega (arith, n, h));
        };
        tec = all_at same;
        low = low_at same;
        carbon = carbon_at same;
        types = type_at same;
        small = k.zone_types;
      }

  module _ (share : List ℕ) where
    pub stage_of_opened : stage_of o.settings.edition o.settings.generation_zones o.counts.nodes o.nodes.generation_zone o.by_type share ≡ share_stage (grid_of S) share
    stage_of_opened = stage_of_case case_of share

    pub sharing_of_opened : (in_force (grid_of S).settings.edition share ≡ true → SoundShare (grid_of S) share)
        → sharing_in (shares_of o.settings.edition o.settings.generation_zones o.counts.nodes o.nodes.generation_zone o.by_type share) o.settings.generation_zones ≡ sharing (grid_of S) share
    sharing_of_opened sound = sharing_of_case case_of share (λ h t l. (sound h).frame.factors (suc t) (omega arith) l)
