-- The columns of a side of a grid in a background: what their zones add up to is what the grid's do.
use mathlib.Core.Path.{◌≡◌, refl, sym, ◌∙◌, ap, ap₂, fun_ext}
use mathlib.Core.Bool.{true, cond}
use mathlib.Core.List.{List}
use mathlib.Core.Logic.{◌≢◌}
use Prim.Native.Nat.{ℕ, zero, suc, ◌≤◌, ◌<◌}
use native.Mathlib.Decide.{dec_lt}
use native.Mathlib.Omega.{arith}
use borrow.Author.Tests.{ne_eqb}
use lib.Dec.{eqb}
use lib.IntN.{pos, nat_abs, ◌*ℤ◌}
use lib.ListN.{length}
use Rattle.integers.specs.Numbers.{sum}
use Rattle.integers.proofs.Sum.{sum_same, sum_none, Σ-same, Σ-none}
use Rattle.integers.proofs.Laws.{abs_neg}
use Rattle.meaning.specs.declared.Background.{Background}
use Rattle.meaning.specs.declared.System.{System}
use Rattle.meaning.specs.declared.System.TheVariants.{Wider}
use Rattle.meaning.specs.declared.Kw.{Kw}
use Rattle.meaning.specs.declared.Side.{Side}
use Rattle.meaning.specs.declared.Side.TheVariants.{Generation, Demand}
use Rattle.meaning.specs.Editions.{Of, HasSystem}
use Rattle.meaning.specs.Study.{Runs}
use Rattle.meaning.specs.Grid.{Grid}
use Rattle.meaning.specs.Columns.{kilowatts, number_at, kw_at}
use Rattle.meaning.specs.Rows.{rows}
use Rattle.meaning.specs.Charging.{turned, in_zone, weighed_in}
use Rattle.meaning.specs.Figures.{wider_metres, distance, zones, zone_of, weight, paying_in, zone_weight, zone_paying_in, total_paying_in, zonal_metres, basis}
use Rattle.meaning.proofs.Rows.{rows_at, rows_past}
use Rattle.sizes.specs.Bounds.{KilowattsFit, MetresFit, LocalFits}
use Rattle.sizes.proofs.Ranges.{Ranged}
use Rattle.zones.specs.declared.ZoneSums.{ZoneSums}
use Rattle.zones.specs.Sums.{no_sums, far, counts, weighs, pays, sums_to, zone_sums}
use Rattle.zones.proofs.Parts.{counting}
use Rattle.zones.proofs.Laws.{reached_all}
use Rattle.tariffs.specs.Sides.{metres_from, sums_in, sums_of, zones_in}

-- the columns of a side of a grid
pub record SideOf (G : Grid) (b : Background) (side : Side) (n : ℕ) (zone : List ℕ) (weighing payers : List Kw) : Type 0 where
  pub nodes : n ≡ length G.nodes
  pub in_zone : (v : ℕ) → v < n → number_at zone v ≡ zone_of G side v
  pub weighs : (v : ℕ) → v < n → kw_at weighing v ≡ weight G side v
  pub paid : (v : ℕ) → v < n → kw_at payers v ≡ paying_in G b side v

-- all that steps 6 to 10 ask of a grid
pub record GridFits (G : Grid) (runs : Runs) : Type 0 where
  pub few : length G.nodes ≤ 256
  pub long : (system : System) → HasSystem G.settings.edition system → length G.nodes ≤ length (runs system)
  pub ranged : Ranged G
  pub kilowatts_fit : KilowattsFit G
  pub metres_fit : (b : Background) → Of b G.settings.edition → MetresFit G runs b
  pub locals : LocalFits G runs

distance_near : (runs : Runs) (b : Background) (side : Side) (v : ℕ) → nat_abs (wider_metres runs b v) ≤ 10000000 → nat_abs (turned side (wider_metres runs b v)) ≤ 10000000
distance_near runs b Generation v h = h
distance_near runs b Demand v h = rw (abs_neg (wider_metres runs b v)) h

-- a term that a zone takes or leaves
taken : {A : Type 0} {a b : ℕ} {x y : A} (z : ℕ) (none : A) → a ≡ b → x ≡ y → cond (eqb a z) x none ≡ cond (eqb b z) y none
taken z none p q = ap₂ (λ i x. cond (eqb i z) x none) p q

-- step 7 as meaning has it
unfoldable sums_on : Grid → Runs → Background → Side → (zone : ℕ) → ZoneSums
sums_on G runs b side zone =
    record {
      weight = kilowatts (zone_weight G side zone);
      weighed = weighed_in (length G.nodes) (zone_of G side) (distance runs b side) (weight G side) zone;
      paying = kilowatts (zone_paying_in G b side zone);
    }

module _ (G : Grid) (runs : Runs) (f : GridFits G runs) (b : Background) (has : Of b G.settings.edition) (side : Side) where
  -- a zone that no node is in
  sums_none : (zone : ℕ) → ((v : ℕ) → v < length G.nodes → zone_of G side v ≢ zone) → sums_on G runs b side zone ≡ no_sums
  unfolding sums_on zone_weight zone_paying_in
  sums_none zone h =
      let n = length G.nodes in
      let w : in_zone n (zone_of G side) (weight G side) zone ≡ 0 = sum_none n _ (λ v l. rw (ne_eqb (zone_of G side v) zone (h v l)) refl) in
      let m : weighed_in n (zone_of G side) (distance runs b side) (weight G side) zone ≡ pos 0 = Σ-none n _ (λ v l. rw (ne_eqb (zone_of G side v) zone (h v l)) refl) in
      let p : in_zone n (zone_of G side) (paying_in G b side) zone ≡ 0 = sum_none n _ (λ v l. rw (ne_eqb (zone_of G side v) zone (h v l)) refl) in
      rw (w, m, p) refl

  module _ (n : ℕ) (zone : List ℕ) (weighing payers : List Kw) (o : SideOf G b side n zone weighing payers) where
    abbrev pub sums : List ZoneSums
    sums = zone_sums side n zone weighing payers (runs (Wider b))

    -- every node counts
    all_count : (v : ℕ) → v < n → counts side zone weighing payers (runs (Wider b)) v ≡ true
    unfolding wider_metres
    all_count v h =
        let l : v < length G.nodes = omega (arith, o.nodes) in
        let z = f.ranged.in_zone side v l in
        counting _ _ _ _ (record {
          least = omega (arith, z.least, o.in_zone v h);
          most = omega (arith, z.most, f.ranged.zones_most side, o.in_zone v h);
          weighs = omega (arith, f.kilowatts_fit.node_weighs side v l, o.weighs v h);
          pays = omega (arith, f.kilowatts_fit.node_pays_in b side v l, o.paid v h);
          near = distance_near runs b side v ((f.metres_fit b has).wider_node v l);
        })

    weighs_is : (v : ℕ) → v < n → weighs side zone weighing payers (runs (Wider b)) v ≡ weight G side v
    weighs_is v h = rw (all_count v h) (o.weighs v h)

    pays_is : (v : ℕ) → v < n → pays side zone weighing payers (runs (Wider b)) v ≡ paying_in G b side v
    pays_is v h = rw (all_count v h) (o.paid v h)

    -- the sums of a zone, by its number
    summed : (z : ℕ) → sums_to side zone weighing payers (runs (Wider b)) n z ≡ sums_on G runs b side z
    unfolding sums_to sums_on zone_weight zone_paying_in distance wider_metres
    summed z =
        let w = sum_same n _ _ (λ v h. taken z 0 (o.in_zone v h) (weighs_is v h)) in
        let m = Σ-same n _ _ (λ v h. taken z (pos 0) (o.in_zone v h) (ap (λ (w : ℕ). far side zone weighing payers (runs (Wider b)) v *ℤ pos w) (weighs_is v h))) in
        let p = sum_same n _ _ (λ v h. taken z 0 (o.in_zone v h) (pays_is v h)) in
        rw (w, m, p, o.nodes) refl

    sums_at : (z : ℕ) → sums_of sums z ≡ sums_on G runs b side z
    unfolding zone_sums
    sums_at zero = sym (sums_none 0 (λ v l e. absurd (omega (arith, (f.ranged.in_zone side v l).least))))
    sums_at (suc k) =
        ap (λ (m : ℕ). sums_in (rows 32 (λ i. sums_to side zone weighing payers (runs (Wider b)) m (suc i))) k)
        (reached_all n (length (runs (Wider b))) (omega (arith, o.nodes, f.few)) (omega (arith, o.nodes, f.long (Wider b) has)))
        ∙ go (dec_lt k 32)
      where
        go : Dec (k < 32) → sums_in (rows 32 (λ i. sums_to side zone weighing payers (runs (Wider b)) n (suc i))) k ≡ sums_on G runs b side (suc k)
        go (yes h) = rows_at no_sums 32 _ k h ∙ summed (suc k)
        go (no h) = rows_past no_sums 32 _ k (omega arith) ∙ sym (sums_none (suc k) (λ v l e. absurd (omega (arith, (f.ranged.in_zone side v l).most, f.ranged.zones_most side))))

    -- so the zones are those of the grid
    pub zones_are : zones_in sums (zones G side) ≡ (basis G runs).side b side
    unfolding sums_on metres_from basis zonal_metres
    zones_are =
        let w : (λ (z : ℕ). (sums_of sums z).weight.0) ≡ zone_weight G side = fun_ext (λ z. ap (λ (x : ZoneSums). x.weight.0) (sums_at z)) in
        let p : (λ (z : ℕ). (sums_of sums z).paying.0) ≡ zone_paying_in G b side = fun_ext (λ z. ap (λ (x : ZoneSums). x.paying.0) (sums_at z)) in
        let m : (λ (z : ℕ). metres_from (sums_of sums z)) ≡ zonal_metres G runs b side = fun_ext (λ z. ap metres_from (sums_at z)) in
        let t : sum (zones G side) (λ k. (sums_in sums k).paying.0) ≡ total_paying_in G b side = sum_same (zones G side) _ (λ k. zone_paying_in G b side (suc k)) (λ k h. ap (λ (x : ZoneSums). x.paying.0) (sums_at (suc k))) ∙ f.kilowatts_fit.zones_all_in b side in
        rw (w, p, m, t) refl
