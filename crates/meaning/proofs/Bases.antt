-- Two bases with the same settings, zones and nodes have the same figures. Zones of a background are asked for where the edition has it.
use mathlib.Core.Path.{◌≡◌, refl, ◌∙◌, ap, ap₂}
use mathlib.Core.Option.{Option}
use Prim.Native.Nat.{ℕ, suc, ◌<◌}
use lib.IntN.{ℤ, pos, ◌*ℤ◌}
use Rattle.integers.specs.Numbers.{Σ}
use Rattle.integers.proofs.Sum.{Σ-same}
use Rattle.meaning.specs.declared.Background.{Background}
use Rattle.meaning.specs.declared.Background.TheVariants.{YearRound, Peak}
use Rattle.meaning.specs.declared.Side.{Side}
use Rattle.meaning.specs.declared.Side.TheVariants.{Generation, Demand}
use Rattle.meaning.specs.declared.Settings.{Settings}
use Rattle.meaning.specs.Editions.{Of}
use Rattle.meaning.specs.Sharing.{Sharing, not_shared_metres, shared_metres, shared_kw, sharing_on}
use Rattle.meaning.specs.Charging.{with_c, wider_of, no_wider, Zones, Basis, Priced, C, local_tariff, local_income, local_figures, priced, own_metres, after_c, zone_tariff, shared_of, shared_tariff, shared_income, income_in, wider_figures, rest, residual, remainder, zone_total, zone_figures}
use Rattle.meaning.proofs.Sides.{over_backgrounds_lem, of_peak}

pub record Alike (B B' : Basis) : Type 0 where
  pub settings : B.settings ≡ B'.settings
  pub side : (b : Background) → Of b B.settings.edition → (side : Side) → B.side b side ≡ B'.side b side
  pub payers : (side : Side) → B.payers side ≡ B'.payers side
  pub nodes : B.nodes ≡ B'.nodes
  pub tec : (v : ℕ) → v < B.nodes → B.tec v ≡ B'.tec v
  pub paying : (v : ℕ) → v < B.nodes → B.paying v ≡ B'.paying v
  pub local : (v : ℕ) → v < B.nodes → B.local v ≡ B'.local v

-- the same of what prices a side
pub record AlikePriced (S S' : Priced) : Type 0 where
  pub edition : S.edition ≡ S'.edition
  pub side : S.side ≡ S'.side
  pub zones : (b : Background) → Of b S.edition → S.zones b ≡ S'.zones b
  pub sharing : S.sharing ≡ S'.sharing
  pub c : (b : Background) → Of b S.edition → S.c b ≡ S'.c b
  pub payers : S.payers ≡ S'.payers
  pub constant : S.constant ≡ S'.constant
  pub factor : S.factor ≡ S'.factor
  pub target : S.target ≡ S'.target
  pub local : S.local ≡ S'.local

summed : {m n : ℕ} {f g : ℕ → ℤ} → m ≡ n → ((v : ℕ) → v < m → f v ≡ g v) → Σ m f ≡ Σ n g
summed {m = m} {f = f} {g = g} e h = Σ-same m f g h ∙ ap (λ (i : ℕ). Σ i g) e

-- whichever of a node's numbers a figure is made of
module _ {B B' : Basis} (a : Alike B B') where
  pub C-same : (b : Background) → Of b B.settings.edition → C B b ≡ C B' b
  unfolding C
  C-same b h = rw (a.side b h Generation, a.side b h Demand, a.settings) refl

  tariff_same : (v : ℕ) → v < B.nodes → local_tariff B v ≡ local_tariff B' v
  unfolding local_tariff
  tariff_same v h = rw (a.local v h, a.settings) refl

  income_same : (side : Side) → local_income B side ≡ local_income B' side
  unfolding local_income
  income_same Generation = summed a.nodes (λ v h. simp (tariff_same v h, a.tec v h, a.paying v h))
  income_same Demand = refl

  pub priced_same : {s t : Option Sharing} → s ≡ t → (side : Side) → AlikePriced (priced B s side) (priced B' t side)
  unfolding priced
  priced_same same side =
      let e = a.settings in
      record {
        edition = ap (λ (s : Settings). s.edition) e;
        side = refl;
        zones = λ b h. a.side b h side;
        sharing = ap (sharing_on side) same;
        c = C-same;
        payers = a.payers side;
        constant = ap (λ (s : Settings). s.constant) e;
        factor = ap (λ (s : Settings). s.wider_factor) e;
        target = rw (e) refl;
        local = income_same side;
      }

  pub line_same : (v : ℕ) → v < B.nodes → local_figures B v ≡ local_figures B' v
  unfolding local_figures
  line_same v h = simp (tariff_same v h, a.tec v h, a.paying v h, a.local v h)

-- ---- the figures of a side
module _ {S S' : Priced} (a : AlikePriced S S') where
  own_alike : (b : Background) → Of b S.edition → (zone : ℕ) → own_metres S b zone ≡ own_metres S' b zone
  unfolding own_metres
  own_alike YearRound h zone = ap₂ (λ (s : Option Sharing) (z : Zones). not_shared_metres s z.metres zone) a.sharing (a.zones YearRound h)
  own_alike Peak h zone = ap (λ (z : Zones). z.metres zone) (a.zones Peak h)

  after_alike : (b : Background) → Of b S.edition → (zone : ℕ) → after_c S b zone ≡ after_c S' b zone
  unfolding after_c
  after_alike b h zone = ap₂ (λ (side : Side) (c : ℤ). with_c side c (own_metres S b zone)) a.side (a.c b h) ∙ ap (with_c S'.side (S'.c b)) (own_alike b h zone)

  tariff_alike : (b : Background) → Of b S.edition → (zone : ℕ) → zone_tariff S b zone ≡ zone_tariff S' b zone
  unfolding zone_tariff
  tariff_alike b h zone = rw (after_alike b h zone, a.constant, a.factor) refl

  wider_alike : (b : Background) → Of b S.edition → (zone : ℕ) → wider_figures S b zone ≡ wider_figures S' b zone
  unfolding wider_figures
  wider_alike b h zone = ap₂ (λ (m : ℤ) (t : ℤ). wider_of (own_metres S b zone) m t) (after_alike b h zone) (tariff_alike b h zone) ∙ ap (λ (m : ℤ). wider_of m (after_c S' b zone) (zone_tariff S' b zone)) (own_alike b h zone)

  income_alike : (b : Background) → Of b S.edition → income_in S b ≡ income_in S' b
  income_alike b h = rw (a.zones b h) (Σ-same (S'.zones b).count _ _ (λ k l. rw (tariff_alike b h (suc k)) refl))

  shared_alike : (zone : ℕ) → shared_of S zone ≡ shared_of S' zone
  unfolding shared_of
  shared_alike zone = ap₂ (λ (s : Option Sharing) (z : Zones). shared_metres s z.metres zone) a.sharing (a.zones YearRound tt)

  shared_tariff_alike : (zone : ℕ) → shared_tariff S zone ≡ shared_tariff S' zone
  unfolding shared_tariff
  shared_tariff_alike zone = simp (shared_alike zone, a.side, a.c YearRound tt, a.constant, a.factor)

  shared_income_alike : shared_income S ≡ shared_income S'
  shared_income_alike =
      Σ-same (S.zones YearRound).count _ _ (λ k l. ap₂ (λ (t : ℤ) (s : Option Sharing). t *ℤ pos (shared_kw s (suc k))) (shared_tariff_alike (suc k)) a.sharing)
      ∙ ap (λ (z : Zones). Σ z.count (λ k. shared_tariff S' (suc k) *ℤ pos (shared_kw S'.sharing (suc k)))) (a.zones YearRound tt)

  rest_alike : rest S ≡ rest S'
  unfolding rest
  rest_alike = simp (over_backgrounds_lem _ _ a.edition income_alike, shared_income_alike, a.target, a.local)

  pub residual_alike : residual S ≡ residual S'
  unfolding residual
  residual_alike = simp (rest_alike, a.payers, a.zones YearRound tt)

  pub remainder_alike : remainder S ≡ remainder S'
  unfolding remainder
  remainder_alike = simp (rest_alike, a.payers, a.zones YearRound tt)

  total_alike : (zone : ℕ) → zone_total S zone ≡ zone_total S' zone
  unfolding zone_total
  total_alike zone = simp (over_backgrounds_lem _ _ a.edition (λ b h. tariff_alike b h zone), tariff_alike YearRound tt zone, residual_alike)

  pub zone_alike : (zone : ℕ) → zone_figures S zone ≡ zone_figures S' zone
  unfolding zone_figures
  zone_alike zone =
      rw (a.zones YearRound tt, wider_alike YearRound tt zone, of_peak no_wider a.edition (λ h. wider_alike Peak h zone), shared_alike zone, shared_tariff_alike zone, total_alike zone) refl
