-- 02, request 2, on the bytes of a sheet: a generation zone and a demand zone that weigh alike print opposite metres, metres after C and tariffs, in each background.
use mathlib.Core.Path.{◌≡◌, refl, sym, ◌∙◌, ap, ap₂, subst}
use mathlib.Core.List.{List}
use mathlib.Core.Bool.{Bool, true, false, cond}
use Prim.Native.Nat.{ℕ, zero, suc, ◌≤◌, ◌<◌}
use native.Mathlib.Omega.{arith}
use lib.Dec.{eqb}
use lib.IntN.{ℤ, pos, neg_ℤ}
use lib.ListN.{length}
use Rattle.integers.proofs.Sum.{sum_same}
use Rattle.meaning.specs.declared.Edition.{Edition}
use Rattle.meaning.specs.declared.Edition.TheVariants.{First, Second}
use Rattle.meaning.specs.declared.Form.{Form}
use Rattle.meaning.specs.declared.Form.TheVariants.{OneBackground, TwoBackgrounds, Sharing}
use Rattle.meaning.specs.declared.Background.{Background}
use Rattle.meaning.specs.declared.Background.TheVariants.{YearRound, Peak}
use Rattle.meaning.specs.declared.WiderFigures.{WiderFigures}
use Rattle.meaning.specs.declared.ZoneFigures.{ZoneFigures}
use Rattle.meaning.specs.Editions.{Of, by_edition}
use Rattle.meaning.specs.declared.Side.{Side}
use Rattle.meaning.specs.declared.Side.TheVariants.{Generation, Demand}
use Rattle.meaning.specs.Study.{MicroPerKw, Study, Runs}
use Rattle.meaning.specs.File.{study_of}
use Rattle.meaning.specs.Grid.{Grid, grid_of}
use Rattle.meaning.specs.Figures.{zone_weight, form_of, zonal_metres, priced, own_metres, residual, zone_figures, basis}
use Rattle.meaning.specs.Charging as charging
use Rattle.meaning.specs.Sheet.{zone_numbers, sheet}
use Rattle.meaning.specs.Read.{field, read_whole, line_at, metres_field, residual_field}
use Rattle.meaning.specs.Conditions.{SoundTables}
use Rattle.meaning.specs.Mirror.{WeighAlike, Whole, Opposite, LinesAlike, whole_to, PrintedMirror}
use Rattle.meaning.specs.Sharing.{in_force}
use Rattle.meaning.proofs.Shared.{not_in_first, unshared_form, shared_form, demand_form, unshared_on, own_whole, own_peak}
use Rattle.meaning.proofs.Mirror.{zones_mirror}
use Rattle.sizes.proofs.SheetLength.{figures_in, wider_figures_lem}
use Rattle.claims.proofs.Lines.{zone_field, zone_read}
use Rattle.claims.proofs.ReadBack.{read_of, field_read}

-- ---- the fields before the residual
-- what two lines say of a background is opposite
record Turned (w w' : WiderFigures) : Type 0 where
  metres : w'.metres.0 ≡ neg_ℤ w.metres.0
  with_c : w'.after_c.0 ≡ neg_ℤ w.after_c.0
  tariff : w'.tariff.0 ≡ neg_ℤ w.tariff.0

module _ (r r' : MicroPerKw) (z z' : ZoneFigures) where
  -- of two lines of one edition; a `D` line is never of the form with shared metres
  first_turned : Turned z.year_round z'.year_round → (k : ℕ) → 2 ≤ k → k < 5 → zone_field OneBackground r' z' k ≡ neg_ℤ (zone_field OneBackground r z k)
  unfolding zone_numbers
  first_turned t zero h l = absurd (omega arith)
  first_turned t (suc zero) h l = absurd (omega arith)
  first_turned t (suc (suc zero)) h l = t.metres
  first_turned t (suc (suc (suc zero))) h l = t.with_c
  first_turned t (suc (suc (suc (suc zero)))) h l = t.tariff
  first_turned t (suc (suc (suc (suc (suc k))))) h l = absurd (omega arith)

  peak_turned : Turned z.peak z'.peak → (k : ℕ) → 2 ≤ k → k < 5 → zone_field TwoBackgrounds r' z' k ≡ neg_ℤ (zone_field Sharing r z k)
  unfolding zone_numbers
  peak_turned t zero h l = absurd (omega arith)
  peak_turned t (suc zero) h l = absurd (omega arith)
  peak_turned t (suc (suc zero)) h l = t.metres
  peak_turned t (suc (suc (suc zero))) h l = t.with_c
  peak_turned t (suc (suc (suc (suc zero)))) h l = t.tariff
  peak_turned t (suc (suc (suc (suc (suc k))))) h l = absurd (omega arith)

  second_turned : Turned z.peak z'.peak → Turned z.year_round z'.year_round → (k : ℕ) → 2 ≤ k → k < 8
      → zone_field TwoBackgrounds r' z' k ≡ neg_ℤ (zone_field TwoBackgrounds r z k)
  unfolding zone_numbers
  second_turned p y zero h l = absurd (omega arith)
  second_turned p y (suc zero) h l = absurd (omega arith)
  second_turned p y (suc (suc zero)) h l = p.metres
  second_turned p y (suc (suc (suc zero))) h l = p.with_c
  second_turned p y (suc (suc (suc (suc zero)))) h l = p.tariff
  second_turned p y (suc (suc (suc (suc (suc zero))))) h l = y.metres
  second_turned p y (suc (suc (suc (suc (suc (suc zero)))))) h l = y.with_c
  second_turned p y (suc (suc (suc (suc (suc (suc (suc zero))))))) h l = y.tariff
  second_turned p y (suc (suc (suc (suc (suc (suc (suc (suc k)))))))) h l = absurd (omega arith)

-- what is whole on the lines of two sides
data Lined (G : Grid) (share : List ℕ) : (generation demand : Form) → Type 0 where
  one : Whole G share YearRound → G.settings.edition ≡ First → Lined G share OneBackground OneBackground
  two : Whole G share YearRound → G.settings.edition ≡ Second → Lined G share TwoBackgrounds TwoBackgrounds
  shared : G.settings.edition ≡ Second → Lined G share Sharing TwoBackgrounds

lined : (G : Grid) (share : List ℕ) → Lined G share (form_of G share Generation) (form_of G share Demand)
lined G share = go G.settings.edition (in_force G.settings.edition share) refl refl
  where
    by : {e : Edition} → G.settings.edition ≡ e → by_edition OneBackground TwoBackgrounds G.settings.edition ≡ by_edition OneBackground TwoBackgrounds e
    by p = ap (by_edition OneBackground TwoBackgrounds) p

    go : (e : Edition) (b : Bool) → G.settings.edition ≡ e → in_force G.settings.edition share ≡ b → Lined G share (form_of G share Generation) (form_of G share Demand)
    go First b p q = let w = not_in_first share p in rw (unshared_form G share w Generation ∙ by p, unshared_form G share w Demand ∙ by p) (one w p)
    go Second false p q = rw (unshared_form G share q Generation ∙ by p, unshared_form G share q Demand ∙ by p) (two q p)
    go Second true p q = rw (shared_form G share q, demand_form G share ∙ by p) (shared p)

module _ (S : Study) (sound : SoundTables S) (runs : Runs) (share : List ℕ) where
  abbrev G : Grid
  G = grid_of S

  abbrev e : Edition
  e = G.settings.edition

  abbrev number : ℕ → Side → (zone : ℕ) → ℤ
  number k side zone = zone_field (form_of G share side) (residual G runs share side) (zone_figures G runs share side zone) k

  own_is : (b : Background) → Whole G share b → (side : Side) (zone : ℕ) → own_metres G runs share b side zone ≡ zonal_metres G runs b side zone
  unfolding charging.priced basis
  own_is YearRound whole side zone = own_whole (priced G runs share side) (unshared_on G share whole runs side) YearRound zone
  own_is Peak whole side zone = own_peak (priced G runs share side) zone

  turned_in : (g d : ℕ) → WeighAlike G g d → (b : Background) → Of b e → Whole G share b
      → Turned (figures_in b (zone_figures G runs share Generation g)) (figures_in b (zone_figures G runs share Demand d))
  unfolding charging.wider_figures
  turned_in g d h b of whole =
      let o : Opposite G runs share g d = zones_mirror G runs share g d h in
      rw (wider_figures_lem G runs share b of Generation g, wider_figures_lem G runs share b of Demand d)
      (record { metres = own_is b whole Demand d ∙ o.metres b ∙ ap neg_ℤ (sym (own_is b whole Generation g)); with_c = o.with_c b whole; tariff = o.tariffs b whole })

  fields_turned : (k g d : ℕ) → WeighAlike G g d → (f f' : Form) → Lined G share f f' → 2 ≤ k → k < whole_to f
      → zone_field f' (residual G runs share Demand) (zone_figures G runs share Demand d) k ≡ neg_ℤ (zone_field f (residual G runs share Generation) (zone_figures G runs share Generation g) k)
  unfolding residual_field metres_field
  fields_turned k g d h f f' (one whole first) from to = first_turned _ _ _ _ (turned_in g d h YearRound tt whole) k from to
  fields_turned k g d h f f' (two whole second) from to =
      second_turned _ _ _ _ (turned_in g d h Peak (subst (Of Peak) (sym second) tt) tt) (turned_in g d h YearRound tt whole) k from to
  fields_turned k g d h f f' (shared second) from to = peak_turned _ _ _ _ (turned_in g d h Peak (subst (Of Peak) (sym second) tt) tt) k from to

  -- zones that weigh alike both have kilowatts or neither has
  read_mirror : (k g d : ℕ) → 2 ≤ k → k < whole_to (form_of G share Generation) → WeighAlike G g d → read_of S sound runs share Demand d k ≡ neg_ℤ (read_of S sound runs share Generation g k)
  unfolding zone_read charging.zone_figures zone_weight charging.priced basis
  read_mirror k g d from to h =
      ap₂ (λ (w : ℕ) (f : ℤ). cond (eqb w 0) (pos 0) f) (sym (sum_same (length G.nodes) _ _ h))
      (fields_turned k g d h (form_of G share Generation) (form_of G share Demand) (lined G share) from to)
      ∙ turned (eqb (zone_weight G Generation g) 0) (number k Generation g)
    where
      turned : (b : Bool) (f : ℤ) → cond b (pos 0) (neg_ℤ f) ≡ neg_ℤ (cond b (pos 0) f)
      turned true f = refl
      turned false f = refl

  printed_mirror : (i j k : ℕ) → LinesAlike G (line_at i (sheet G runs share)) (line_at j (sheet G runs share)) → 2 ≤ k → k < whole_to (form_of G share Generation)
      → read_whole (field k (line_at j (sheet G runs share))) ≡ neg_ℤ (read_whole (field k (line_at i (sheet G runs share))))
  printed_mirror i j k m from to =
      field_read S sound runs share k from Demand j m.demand
      ∙ read_mirror k _ _ from to m.alike
      ∙ ap neg_ℤ (sym (field_read S sound runs share k from Generation i m.generation))

pub printed_mirrors : PrintedMirror
printed_mirrors file runs share a = record { opposite = printed_mirror (study_of file) a.study.tables runs share }
