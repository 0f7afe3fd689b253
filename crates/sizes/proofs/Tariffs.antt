-- 01, steps 8 and 9: metres after C, and tariffs, from the metres, the constant and the security factor.
use mathlib.Core.List.{List}
use Prim.Native.Nat.{ℕ, ◌+◌, ◌*◌, ◌≤◌, ◌<◌}
use native.Mathlib.Omega.{arith}
use lib.IntN.{ℤ, pos, nat_abs, ◌*ℤ◌}
use lib.ListN.{length}
use Rattle.integers.proofs.Laws.{abs-add, abs-sub, abs-mul-le}
use Rattle.meaning.specs.Study.{Runs}
use Rattle.meaning.specs.declared.Background.{Background}
use Rattle.meaning.specs.Grid.{Grid}
use Rattle.meaning.specs.declared.Side.{Side}
use Rattle.meaning.specs.declared.Side.TheVariants.{Generation, Demand}
use Rattle.meaning.specs.Charging.{with_c}
use Rattle.meaning.specs.Figures.{local_metres, form_of, C, own_metres, after_c, zone_tariff, shared_of, shared_tariff, local_tariff, basis}
use Rattle.meaning.specs.Charging as charging
use Rattle.sharing.proofs.Bounds.{tariff_within}
use Rattle.sizes.specs.Bounds.{PotentialsInRange, ShareSound, MetresFit, own_most, with_c_most, shared_most, tariff_most, shared_tariff_most, TariffsFit, SharesFit, LocalFits}
use Rattle.sizes.proofs.Ranges.{Ranged}
use Rattle.sizes.proofs.Metres.{local_node}
use Rattle.sizes.proofs.Parts.{shared_kw_lem}

-- metres within b, a constant of up to 10,000 and a factor of up to 5,000
product_within : (b : ℕ) (m : ℤ) (constant factor : ℕ) → nat_abs m ≤ b → constant ≤ 10000 → factor ≤ 5000 → nat_abs (m *ℤ pos constant *ℤ pos factor) ≤ 50000000 * b
product_within b m constant factor h c f = omega (arith, abs-mul-le (m *ℤ pos constant) (pos factor) {m = b * 10000} {n = 5000} (abs-mul-le m (pos constant) h c) f)

-- C added or taken off
with_C_within : (side : Side) (c m : ℤ) (b : ℕ) → nat_abs c ≤ 10000000 → nat_abs m ≤ b → nat_abs (with_c side c m) ≤ b + 10000000
with_C_within Generation c m b h k = omega (arith, abs-add m c)
with_C_within Demand c m b h k = omega (arith, abs-sub m c)

module _ (G : Grid) (runs : Runs) (r : Ranged G) where
  abbrev constant : ℕ
  constant = G.settings.constant

  abbrev factor : ℕ
  factor = G.settings.wider_factor

  -- 02, request 6: with a share file
  module _ (share : List ℕ) where
    module _ (b : Background) (m : MetresFit G runs b) (own : (side : Side) (zone : ℕ) → nat_abs (own_metres G runs share b side zone) ≤ own_most (form_of G share side) b) where
      with_C : (side : Side) (zone : ℕ) → nat_abs (after_c G runs share b side zone) ≤ with_c_most (form_of G share side) b
      unfolding charging.after_c charging.priced basis
      with_C side zone = with_C_within side (C G runs b) (own_metres G runs share b side zone) (own_most (form_of G share side) b) m.centre (own side zone)

      zone_tariff_lem : (side : Side) (zone : ℕ) → nat_abs (zone_tariff G runs share b side zone) ≤ tariff_most (form_of G share side) b
      unfolding charging.zone_tariff charging.priced basis
      zone_tariff_lem side zone = tariff_within (with_c_most (form_of G share side) b) (after_c G runs share b side zone) constant factor (with_C side zone) r.constant r.wider_factor

      pub tariffs_fit : TariffsFit G runs share b
      tariffs_fit = record {
        own = own;
        with_c = with_C;
        zone_product = λ side zone. product_within (with_c_most (form_of G share side) b) (after_c G runs share b side zone) constant factor (with_C side zone) r.constant r.wider_factor;
        of_zone = zone_tariff_lem;
      }

    module _ (metres : (side : Side) (zone : ℕ) → nat_abs (shared_of G runs share side zone) ≤ shared_most (form_of G share side)) (sound : ShareSound G share) where
      shared_tariff_lem : (side : Side) (zone : ℕ) → nat_abs (shared_tariff G runs share side zone) ≤ shared_tariff_most (form_of G share side)
      unfolding charging.shared_tariff charging.priced basis
      shared_tariff_lem side zone = tariff_within (shared_most (form_of G share side)) (shared_of G runs share side zone) constant factor (metres side zone) r.constant r.wider_factor

      pub shares_fit_lem : SharesFit G runs share
      shares_fit_lem = record {
        metres = metres;
        zone_product = λ side zone. product_within (shared_most (form_of G share side)) (shared_of G runs share side zone) constant factor (metres side zone) r.constant r.wider_factor;
        of_zone = shared_tariff_lem;
        kw = shared_kw_lem G runs share (r.zones_most Generation) sound;
      }

  module _ (u : PotentialsInRange G.settings.edition (length G.nodes) runs) where
    local_product : (v : ℕ) → v < length G.nodes → nat_abs (local_metres runs v *ℤ pos constant *ℤ pos G.settings.local_factor) ≤ 500000000000000
    local_product v h = product_within 10000000 (local_metres runs v) constant G.settings.local_factor (local_node G.settings.edition (length G.nodes) runs u v h) r.constant r.local_factor

    local_tariff_lem : (v : ℕ) → v < length G.nodes → nat_abs (local_tariff G runs v) ≤ 5000000000
    unfolding charging.local_tariff basis
    local_tariff_lem v h = tariff_within 10000000 (local_metres runs v) constant G.settings.local_factor (local_node G.settings.edition (length G.nodes) runs u v h) r.constant r.local_factor

    pub locals_fit : LocalFits G runs
    locals_fit = record { node = local_node G.settings.edition (length G.nodes) runs u; product = local_product; of_node = local_tariff_lem }
