-- Read back from its bytes, a sheet brings in the tariffs and residuals of its zones and the local tariffs of its nodes, and shows its two remainders.
use mathlib.Core.Path.{◌≡◌, refl, sym, ◌∙◌, ap, ap₂, subst, fun_ext}
use mathlib.Core.Option.{none as unshared, some}
use mathlib.Core.List.{List, [], ◌∷◌}
use mathlib.Core.Bool.{Bool, true, false, not, cond}
use Prim.Native.Nat.{ℕ, suc, ◌≤◌, ◌<◌}
use native.Mathlib.Omega.{arith}
use lib.Dec.{eqb}
use lib.IntN.{ℤ, pos, nat_abs, ◌+ℤ◌, ◌-ℤ◌, ◌*ℤ◌}
use lib.ListN.{length, get_or}
use Rattle.integers.specs.Numbers.{Σ, nearest}
use Rattle.integers.proofs.Core.{Z}
use Rattle.integers.proofs.Sum.{Σ-none}
use Rattle.integers.proofs.Div.{nearest_zero}
use Rattle.meaning.specs.Study.{Study, Runs}
use Rattle.meaning.specs.Name.{same_name}
use Rattle.meaning.specs.Grid.{Grid, grid_of, place, node_tec, paying_tec}
use Rattle.meaning.specs.declared.Edition.{Edition}
use Rattle.meaning.specs.declared.WiderFigures.{WiderFigures}
use Rattle.meaning.specs.declared.Form.{Form}
use Rattle.meaning.specs.declared.Edition.TheVariants.{First, Second}
use Rattle.meaning.specs.declared.Background.{Background}
use Rattle.meaning.specs.Editions.{Of, over_backgrounds}
use Rattle.meaning.specs.declared.Side.{Side}
use Rattle.meaning.specs.declared.Side.TheVariants.{Generation, Demand}
use Rattle.meaning.specs.Sharing.{in_force, next_inward, load_factor, shared_kw, sharing_on}
use Rattle.meaning.specs.Figures.{low_carbon, zones, zone_weight, zone_paying, zone_paying_in, zone_tec_of, loaded_kw, sharing, form_of, priced, own_metres, zone_tariff, shared_of, shared_tariff, residual, zone_total, local_income, local_tariff, remainder, zone_figures, local_figures, basis}
use Rattle.meaning.specs.Charging.{Priced, tariff}
use Rattle.meaning.specs.Charging as charging
use Rattle.meaning.specs.Text.{text, decimals}
use Rattle.meaning.specs.Sheet.{constant_fields, letter, zone_fields, node_fields, remainder_fields, SideShown, Shown, zone_row, side_of, shown_of, sheet}
use Rattle.meaning.specs.Read.{pieces, field, read_natural, read_whole, has_letter, padded, line_at, metres_field, tariff_field, residual_field, total_field, over_lines, printed_tariffs, printed_shared_metres, zone_income, node_income, line_income, side_income, remainder_field, printed_remainder}
use Rattle.meaning.specs.Conditions.{SoundTables}
use Rattle.meaning.proofs.Tables.{place_own, rowwise}
use Rattle.claims.proofs.Digits.{From, from_lower, read_natural_lem, read_decimal}
use Rattle.claims.proofs.Names.{name_from, name_back}
use Rattle.meaning.proofs.Proposals.{not_apart, zero_apart}
use Rattle.meaning.proofs.Plants.{node_pays}
use Rattle.meaning.proofs.Says.{says_eq}
use Rattle.meaning.proofs.Sides.{over_backgrounds_lem}
use Rattle.meaning.proofs.Shared.{not_in_first, none_in_force, unshared_form, unshared_on, demand_unshared, no_shared_metres, form_edition, form_edition_lem}
use Rattle.sharing.proofs.Loads.{unloaded}
use Rattle.sizes.proofs.SheetLength.{wider_figures_lem}
use Rattle.claims.proofs.Pays.{zone_pays, zone_pays_in}
use Rattle.claims.proofs.Pieces.{over, adds_all, each_none}
use Rattle.claims.proofs.Lines.{Line, Worth, add_sheet, zone_read, zone_read_lem, metres_from, residual_from, metres_field_lem, tariff_field_lem, residual_field_lem, total_field_lem, shared_metres_in, shared_tariff_in, metres_in, tariff_in, shared_or, shared_metres_read, shared_tariff_read}

-- ---- what the fields of a line bring in, and the remainder that they show
module _ (G : Grid) (share : List ℕ) where
  -- the kilowatts of a zone's shared tariff
  abbrev pub loaded : Side → (zone : ℕ) → ℕ
  loaded side zone = shared_kw (sharing_on side (sharing G share)) zone

  -- each background's tariff times the kilowatts that pay in it, the shared one times its own, and the residual times those that pay
  pub zone_paid : Side → Line → ℤ
  zone_paid side fs =
      let f = form_of G share side in
      over_backgrounds G.settings.edition (λ b. read_whole (get_or fs (tariff_field f b) []) *ℤ pos (zone_paying_in G b side (read_natural 0 (get_or fs 1 []))))
      +ℤ shared_tariff_in f fs *ℤ pos (loaded side (read_natural 0 (get_or fs 1 [])))
      +ℤ read_whole (get_or fs (residual_field f) []) *ℤ pos (zone_paying G side (read_natural 0 (get_or fs 1 [])))

  of_zone : Side → Line → ℤ
  of_zone side fs = cond (same_name (get_or fs 0 []) (letter side)) (zone_paid side fs) (pos 0)

  of_node : Line → ℤ
  of_node fs =
      cond (same_name (get_or fs 0 []) (text "L")) (read_whole (get_or fs 3 []) *ℤ pos (paying_tec G (place G.nodes (padded (get_or fs 1 []))))) (pos 0)

  of_side : Side → Line → ℤ
  of_side Generation fs = of_zone Generation fs +ℤ of_node fs
  of_side Demand fs = of_zone Demand fs

  no_income : (side : Side) → of_side side ([] ∷ []) ≡ pos 0
  unfolding of_side of_zone of_node same_name letter
  no_income Generation = refl
  no_income Demand = refl

  income_line : (side : Side) (l : List ℕ) → line_income G share side l ≡ of_side side (pieces 32 l)
  unfolding line_income zone_income node_income has_letter field of_side of_zone zone_paid of_node
  income_line Generation l = rw (tariff_in (form_of G share Generation) l) refl
  income_line Demand l = rw (tariff_in (form_of G share Demand) l) refl

  income_over : (side : Side) (t : List ℕ) → side_income G share side t ≡ over (of_side side) t
  unfolding side_income
  income_over side t = ap (λ (f : List ℕ → ℤ). over_lines f (pieces 10 t)) (fun_ext (income_line side))

-- how far two numbers of a line with this letter are apart
gap : (letter : List ℕ) (a b : Line → ℤ) → Line → ℕ
gap l a b fs = cond (same_name (get_or fs 0 []) l) (nat_abs (a fs -ℤ b fs)) 0

no_gap : (side : Side) (a b : Line → ℤ) → gap (letter side) a b ([] ∷ []) ≡ 0
unfolding gap same_name letter
no_gap Generation a b = refl
no_gap Demand a b = refl

closed : (y z : ℤ) → y ≡ z → nat_abs (y -ℤ z) ≡ 0
closed y z e = rw e (zero_apart z)

left : Side → Line → ℤ
left side fs = cond (same_name (get_or fs 0 []) (text "R")) (read_whole (get_or fs (remainder_field side) [])) (pos 0)

left_over : (side : Side) (t : List ℕ) → printed_remainder side t ≡ over (left side) t
unfolding printed_remainder has_letter field left
left_over side t = refl

-- a zone's letter is not the remainders'
no_letter : (side s : Side) (t : SideShown) (k : ℕ) → left side (zone_row s t k) ≡ pos 0
unfolding left same_name letter zone_fields
no_letter side Generation t k = refl
no_letter side Demand t k = refl

-- an empty line
no_remainder : (side : Side) → left side ([] ∷ []) ≡ pos 0
unfolding left same_name
no_remainder side = refl

-- what a zone's line is worth: each background's tariff to the kilowatts that pay in it, the shared one to its own, and the residual to those that pay
abbrev pub zone_worth : Grid → Runs → (share : List ℕ) → Side → ℕ → ℤ
zone_worth G runs share side z =
    over_backgrounds G.settings.edition (λ b. zone_tariff G runs share b side z *ℤ pos (zone_paying_in G b side z))
    +ℤ shared_tariff G runs share side z *ℤ pos (loaded G share side z)
    +ℤ residual G runs share side *ℤ pos (zone_paying G side z)

-- a zone without TEC has no kilowatts that pay its shared tariff
loaded_zero : (G : Grid) (share : List ℕ) (side : Side) (zone : ℕ) → zone_weight G side zone ≡ 0 → loaded G share side zone ≡ 0
unfolding shared_kw sharing_on sharing
loaded_zero G share Generation zone e = go (in_force G.settings.edition share)
  where
    go : (b : Bool) → shared_kw (cond b (some (record {
      zones = zones G Generation;
      next = next_inward share (zones G Generation);
      low = zone_tec_of G low_carbon;
      carbon = zone_tec_of G (λ plant. not (low_carbon plant));
      kw = loaded_kw G (load_factor share (zones G Generation));
    })) unshared) zone ≡ 0
    go true = unloaded G (load_factor share (zones G Generation)) zone e
    go false = refl
loaded_zero G share Demand zone e = refl

-- where nothing is shared the shared tariff is 0
no_shared_tariff : (S : Priced) (zone : ℕ) → S.sharing ≡ unshared → charging.shared_tariff S zone ≡ pos 0
unfolding charging.shared_tariff tariff
no_shared_tariff S zone n = rw (no_shared_metres S n zone) (ap (λ (z : ℤ). nearest z 100000) (free S.constant S.factor) ∙ nearest_zero 100000)
  where
    free : (c f : ℕ) → pos 0 *ℤ pos c *ℤ pos f ≡ pos 0
    free c f = simp Z (omega arith)

-- what is shared is on lines of their own form alone
module _ (G : Grid) (runs : Runs) (share : List ℕ) (side : Side) (zone : ℕ) where
  shared_or_lem : (t : ℤ) → ((priced G runs share side).sharing ≡ unshared → t ≡ pos 0) → shared_or (form_of G share side) t ≡ t
  unfolding form_of in_force charging.priced sharing_on sharing
  shared_or_lem t h = go side G.settings.edition share refl refl h
    where
      go : (s : Side) (e : Edition) (bytes : List ℕ) → G.settings.edition ≡ e → share ≡ bytes → ((priced G runs share s).sharing ≡ unshared → t ≡ pos 0) → shared_or (form_of G share s) t ≡ t
      go Generation First bytes p q h = let w = not_in_first share p in rw (unshared_form G share w Generation, p) (sym (h (unshared_on G share w runs Generation)))
      go Generation Second [] p q h = let w : in_force G.settings.edition share ≡ false = rw q (none_in_force G.settings.edition) in rw (unshared_form G share w Generation, p) (sym (h (unshared_on G share w runs Generation)))
      go Generation Second (b ∷ bs) p q h = rw (p, q) refl
      go Demand First bytes p q h = rw p (sym (h (demand_unshared G runs share)))
      go Demand Second bytes p q h = rw p (sym (h (demand_unshared G runs share)))

-- a sum, or nothing at all
or_none_lem : (t : Bool) (e : Edition) (f : Background → ℤ) (r : ℤ) → cond t (pos 0) (over_backgrounds e f +ℤ r) ≡ over_backgrounds e (λ b. cond t (pos 0) (f b)) +ℤ cond t (pos 0) r
unfolding over_backgrounds
or_none_lem true First f r = refl
or_none_lem true Second f r = refl
or_none_lem false e f r = refl

-- ---- line by line
module _ (S : Study) (sound : SoundTables S) (runs : Runs) (share : List ℕ) where
  abbrev G : Grid
  G = grid_of S

  abbrev e : Edition
  e = G.settings.edition

  abbrev pub form : Side → Form
  form side = form_of G share side

  -- a background of the edition is on the line
  has : (side : Side) (b : Background) → Of b e → Of b (form_edition (form side))
  has side b h = subst (Of b) (sym (form_edition_lem G share side)) h

  abbrev page : Shown
  page = shown_of G runs share

  abbrev pub node_of : ℕ → Line
  node_of v = node_fields (page.name v) (page.local v)

  -- field k of a zone's line, from 2 on, as it reads
  abbrev pub read_of : Side → (zone k : ℕ) → ℤ
  read_of side zone k = zone_read (form side) (residual G runs share side) (zone_figures G runs share side zone) k

  -- a figure of a zone, 0 where it has no kilowatts
  abbrev pub or_none : Side → (zone : ℕ) → ℤ → ℤ
  or_none side zone f = cond (eqb (zone_weight G side zone) 0) (pos 0) f

  module _ (side : Side) (zone : ℕ) where
    pub metres_shown : (b : Background) → Of b e → read_of side zone (metres_field (form side) b) ≡ or_none side zone (own_metres G runs share b side zone)
    unfolding zone_read charging.zone_figures charging.wider_figures charging.priced basis
    metres_shown b h = ap (or_none side zone) (metres_field_lem _ _ (form side) b (has side b h) ∙ ap (λ (w : WiderFigures). w.metres.0) (wider_figures_lem G runs share b h side zone))

    tariff_shown : (b : Background) → Of b e → read_of side zone (tariff_field (form side) b) ≡ or_none side zone (zone_tariff G runs share b side zone)
    unfolding zone_read charging.zone_figures charging.wider_figures charging.priced basis
    tariff_shown b h = ap (or_none side zone) (tariff_field_lem _ _ (form side) b (has side b h) ∙ ap (λ (w : WiderFigures). w.tariff.0) (wider_figures_lem G runs share b h side zone))

    residual_shown : read_of side zone (residual_field (form side)) ≡ or_none side zone (residual G runs share side)
    unfolding zone_read charging.zone_figures charging.priced basis
    residual_shown = ap (or_none side zone) (residual_field_lem _ _ (form side))

    total_shown : read_of side zone (total_field (form side)) ≡ or_none side zone (zone_total G runs share side zone)
    unfolding zone_read charging.zone_figures charging.priced basis
    total_shown = ap (or_none side zone) (total_field_lem _ _ (form side))

    -- the shared figures, where the form has them
    shared_shown : cond (eqb (zone_figures G runs share side zone).weight.0 0) (pos 0) (shared_or (form side) (zone_figures G runs share side zone).shared.tariff.0)
        ≡ or_none side zone (shared_tariff G runs share side zone)
    unfolding charging.zone_figures charging.priced basis
    shared_shown = ap (or_none side zone) (shared_or_lem G runs share side zone (shared_tariff G runs share side zone) (no_shared_tariff (priced G runs share side) zone))

    shared_metres_shown : cond (eqb (zone_figures G runs share side zone).weight.0 0) (pos 0) (shared_or (form side) (zone_figures G runs share side zone).shared.metres.0)
        ≡ or_none side zone (shared_of G runs share side zone)
    unfolding charging.zone_figures charging.priced basis
    shared_metres_shown = ap (or_none side zone) (shared_or_lem G runs share side zone (shared_of G runs share side zone) (λ n. no_shared_metres (priced G runs share side) n zone))

  node_worth : ℕ → ℤ
  node_worth v = local_tariff G runs v *ℤ pos (paying_tec G v)

  -- what the lines of a zone and of a node are worth to a side
  zone_to : (side s : Side) → ℕ → ℤ
  zone_to Generation Generation z = zone_worth G runs share Generation z
  zone_to Generation Demand z = pos 0
  zone_to Demand Generation z = pos 0
  zone_to Demand Demand z = zone_worth G runs share Demand z

  node_to : Side → ℕ → ℤ
  node_to Generation v = node_worth v
  node_to Demand v = pos 0

  -- a zone's line is worth the same with and without kilowatts
  none_paid : (side : Side) (z : ℕ) (f : ℤ) (kw : ℕ) → kw ≤ zone_weight G side z → or_none side z f *ℤ pos kw ≡ f *ℤ pos kw
  none_paid side z f kw = go (eqb (zone_weight G side z) 0) says_eq.0
    where
      go : (b : Bool) → (b ≡ true → zone_weight G side z ≡ 0) → kw ≤ zone_weight G side z → cond b (pos 0) f *ℤ pos kw ≡ f *ℤ pos kw
      go true e h = let q : kw ≡ 0 = omega (arith, e refl) in rw q (simp Z (omega arith))
      go false e h = refl

  -- nor is the shared tariff paid without TEC
  none_loaded : (side : Side) (z : ℕ) (f : ℤ) → or_none side z f *ℤ pos (loaded G share side z) ≡ f *ℤ pos (loaded G share side z)
  none_loaded side z f = go (eqb (zone_weight G side z) 0) says_eq.0
    where
      go : (b : Bool) → (b ≡ true → zone_weight G side z ≡ 0) → cond b (pos 0) f *ℤ pos (loaded G share side z) ≡ f *ℤ pos (loaded G share side z)
      go true e = rw (loaded_zero G share side z (e refl)) (simp Z (omega arith))
      go false e = refl

  zone_paid_lem : (side : Side) (k : ℕ) → zone_paid G share side (zone_row side (side_of G runs share side) k) ≡ zone_worth G runs share side (suc k)
  unfolding zone_paid zone_fields
  zone_paid_lem side k = ap₂ ◌+ℤ◌ (ap₂ ◌+ℤ◌ (over_backgrounds_lem _ _ refl tariffs) shared) residuals
    where
      z : ℕ
      z = suc k

      fs : Line
      fs = zone_row side (side_of G runs share side) k

      f : Form
      f = form_of G share side

      tariffs : (b : Background) → Of b e
          → read_whole (get_or fs (tariff_field f b) []) *ℤ pos (zone_paying_in G b side (read_natural 0 (get_or fs 1 []))) ≡ zone_tariff G runs share b side z *ℤ pos (zone_paying_in G b side z)
      tariffs b h =
          ap₂ (λ (t : ℤ) (n : ℕ). t *ℤ pos (zone_paying_in G b side n))
          (zone_read_lem f side z (residual G runs share side) (zone_figures G runs share side z) (tariff_field f b) (omega (arith, metres_from f b)) ∙ tariff_shown side z b h) (read_natural_lem z)
          ∙ none_paid side z _ _ (zone_pays_in G b side z)

      shared : shared_tariff_in f fs *ℤ pos (loaded G share side (read_natural 0 (get_or fs 1 []))) ≡ shared_tariff G runs share side z *ℤ pos (loaded G share side z)
      shared =
          ap₂ (λ (t : ℤ) (n : ℕ). t *ℤ pos (loaded G share side n))
          (shared_tariff_read side z (residual G runs share side) (zone_figures G runs share side z) f ∙ shared_shown side z) (read_natural_lem z)
          ∙ none_loaded side z (shared_tariff G runs share side z)

      residuals : read_whole (get_or fs (residual_field f) []) *ℤ pos (zone_paying G side (read_natural 0 (get_or fs 1 []))) ≡ residual G runs share side *ℤ pos (zone_paying G side z)
      residuals =
          ap₂ (λ (t : ℤ) (n : ℕ). t *ℤ pos (zone_paying G side n))
          (zone_read_lem f side z (residual G runs share side) (zone_figures G runs share side z) (residual_field f) (residual_from f) ∙ residual_shown side z) (read_natural_lem z)
          ∙ none_paid side z _ _ (zone_pays G side z)

  zone_line : (side s : Side) (k : ℕ) → of_side G share side (zone_row s (side_of G runs share s) k) ≡ zone_to side s (suc k)
  unfolding of_side of_zone of_node same_name letter zone_fields zone_to
  zone_line Generation Generation k = ap (λ (z : ℤ). z +ℤ pos 0) (zone_paid_lem Generation k) ∙ nothing_more (zone_worth G runs share Generation (suc k))
    where
      nothing_more : (z : ℤ) → z +ℤ pos 0 ≡ z
      nothing_more z = simp Z (omega arith)
  zone_line Generation Demand k = refl
  zone_line Demand Generation k = refl
  zone_line Demand Demand k = zone_paid_lem Demand k

  node_line_lem : (side : Side) (v : ℕ) → v < length S.nodes → of_side G share side (node_of v) ≡ node_to side v
  unfolding of_side of_zone of_node same_name letter node_fields decimals charging.local_figures node_worth node_to grid_of basis
  node_line_lem Generation v h =
      rw (read_decimal (local_tariff G runs v), name_back (sound.nodes v h).name, place_own S (rowwise S sound) v h) (simp Z (omega arith))
  node_line_lem Demand v h = refl

  no_line : (side : Side) (v : ℕ) → (local_figures G runs v).tec.0 ≡ 0 → pos 0 ≡ node_to side v
  unfolding charging.local_figures node_worth node_to basis
  no_line Generation v e = rw (none (node_pays G v)) (simp Z (omega arith))
    where
      none : paying_tec G v ≤ node_tec G v → paying_tec G v ≡ 0
      none h = omega arith
  no_line Demand v e = refl

  income_worth : (side : Side) → Worth page (of_side G share side) (λ s k. zone_to side s (suc k)) (node_to side) (pos 0)
  unfolding of_side of_zone of_node same_name letter constant_fields remainder_fields grid_of
  income_worth Generation = record { start = refl; zones = zone_line Generation; silent = no_line Generation; printed = node_line_lem Generation; last = refl }
  income_worth Demand = record { start = refl; zones = zone_line Demand; silent = no_line Demand; printed = node_line_lem Demand; last = refl }

  last_line : (side : Side) → left side (remainder_fields (remainder G runs share Generation) (remainder G runs share Demand)) ≡ remainder G runs share side
  unfolding left same_name remainder_field remainder_fields decimals
  last_line Generation = read_decimal (remainder G runs share Generation)
  last_line Demand = read_decimal (remainder G runs share Demand)

  left_worth : (side : Side) → Worth page (left side) (λ s k. pos 0) (λ v. pos 0) (remainder G runs share side)
  unfolding left same_name constant_fields node_fields
  left_worth side = record { start = refl; zones = λ s k. no_letter side s (side_of G runs share s) k; silent = λ v e. refl; printed = λ v h. refl; last = last_line side }

  -- ---- the whole sheet
  named : (v : ℕ) → v < length G.nodes → From 45 (page.name v)
  unfolding grid_of
  named v h = from_lower (omega arith) (name_from (sound.nodes v h).name)

  none : (n : ℕ) → Σ n (λ k. pos 0) ≡ pos 0
  none n = Σ-none n _ (λ k h. refl)

  pub income_read : (side : Side) → side_income G share side (sheet G runs share) ≡ Σ (zones G side) (λ k. zone_worth G runs share side (suc k)) +ℤ local_income G runs side
  unfolding sheet charging.local_income zone_to node_to node_worth basis
  income_read side =
      income_over G share side (sheet G runs share)
      ∙ adds_all (of_side G share side) (add_sheet page named (of_side G share side) (λ s k. zone_to side s (suc k)) (node_to side) (pos 0) (income_worth side)) (no_income G share side)
      ∙ of side
    where
      of : (side : Side)
          → pos 0 +ℤ (Σ (zones G Generation) (λ k. zone_to side Generation (suc k))
          +ℤ (Σ (zones G Demand) (λ k. zone_to side Demand (suc k)) +ℤ (Σ (length G.nodes) (node_to side) +ℤ pos 0)))
          ≡ Σ (zones G side) (λ k. zone_worth G runs share side (suc k)) +ℤ local_income G runs side
      of Generation = rw (none (zones G Demand)) (simp Z (omega arith))
      of Demand = rw (none (zones G Generation), none (length G.nodes)) (simp Z (omega arith))

  pub remainder_read : (side : Side) → printed_remainder side (sheet G runs share) ≡ remainder G runs share side
  unfolding sheet
  remainder_read side =
      left_over side (sheet G runs share)
      ∙ adds_all (left side) (add_sheet page named (left side) _ _ (remainder G runs share side) (left_worth side)) (no_remainder side)
      ∙ rw (none (zones G Generation), none (zones G Demand), none (length G.nodes)) (simp Z (omega arith))

  -- ---- where the gaps of two numbers on lines with a letter are worth nothing, the two are equal on every such line
  module _ (a b : Line → ℤ) where
    abbrev NoGap : (letter : List ℕ) → Type 0
    NoGap l = Worth page (λ fs. pos (gap l a b fs)) (λ s k. pos 0) (λ v. pos 0) (pos 0)

    lettered_agree : (l : List ℕ) → NoGap l → gap l a b ([] ∷ []) ≡ 0 → (i : ℕ) → has_letter l (line_at i (sheet G runs share)) ≡ true
        → a (pieces 32 (line_at i (sheet G runs share))) ≡ b (pieces 32 (line_at i (sheet G runs share)))
    unfolding sheet has_letter field gap pieces
    lettered_agree l worth nothing i h = not_apart _ _ (open_gap (each_none (λ t. gap l a b (pieces 32 t)) nothing (pieces 10 (sheet G runs share)) all_closed i))
      where
        all_closed : over (λ fs. pos (gap l a b fs)) (sheet G runs share) ≡ pos 0
        all_closed =
            adds_all (λ fs. pos (gap l a b fs)) (add_sheet page named (λ fs. pos (gap l a b fs)) _ _ (pos 0) worth) (ap pos nothing)
            ∙ rw (none (zones G Generation), none (zones G Demand), none (length G.nodes)) refl

        open_gap : gap l a b (pieces 32 (line_at i (sheet G runs share))) ≡ 0 → nat_abs (a (pieces 32 (line_at i (sheet G runs share))) -ℤ b (pieces 32 (line_at i (sheet G runs share)))) ≡ 0
        open_gap e = rw h at e

    -- equal on the line of every zone of a side
    abbrev OnZones : Side → Type 0
    OnZones side = (k : ℕ) → a (zone_row side (side_of G runs share side) k) ≡ b (zone_row side (side_of G runs share side) k)

    zone_gap : (side s : Side) → OnZones side → (k : ℕ) → gap (letter side) a b (zone_row s (side_of G runs share s) k) ≡ 0
    unfolding gap same_name letter zone_fields
    zone_gap Generation Generation h k = closed _ _ (h k)
    zone_gap Generation Demand h k = refl
    zone_gap Demand Generation h k = refl
    zone_gap Demand Demand h k = closed _ _ (h k)

    zone_gap_worth : (side : Side) → OnZones side → NoGap (letter side)
    unfolding gap same_name letter constant_fields node_fields remainder_fields
    zone_gap_worth Generation h = record { start = refl; zones = λ s k. ap pos (zone_gap Generation s h k); silent = λ v e. refl; printed = λ v l. refl; last = refl }
    zone_gap_worth Demand h = record { start = refl; zones = λ s k. ap pos (zone_gap Demand s h k); silent = λ v e. refl; printed = λ v l. refl; last = refl }

    zone_lines_agree : (side : Side) → OnZones side → (i : ℕ) → has_letter (letter side) (line_at i (sheet G runs share)) ≡ true
        → a (pieces 32 (line_at i (sheet G runs share))) ≡ b (pieces 32 (line_at i (sheet G runs share)))
    zone_lines_agree side h = lettered_agree (letter side) (zone_gap_worth side h) (no_gap side a b)

    -- equal on the line of every node
    abbrev OnNodes : Type 0
    OnNodes = (v : ℕ) → v < length S.nodes → a (node_of v) ≡ b (node_of v)

    zone_apart : (s : Side) (t : SideShown) (k : ℕ) → gap (text "L") a b (zone_row s t k) ≡ 0
    unfolding gap same_name letter zone_fields
    zone_apart Generation t k = refl
    zone_apart Demand t k = refl

    node_gap_worth : OnNodes → NoGap (text "L")
    unfolding gap same_name constant_fields node_fields remainder_fields grid_of
    node_gap_worth h =
        record { start = refl; zones = λ s k. ap pos (zone_apart s (side_of G runs share s) k); silent = λ v e. refl; printed = λ v l. ap pos (closed _ _ (h v l)); last = refl }

    pub node_lines_agree : OnNodes → (i : ℕ) → has_letter (text "L") (line_at i (sheet G runs share)) ≡ true
        → a (pieces 32 (line_at i (sheet G runs share))) ≡ b (pieces 32 (line_at i (sheet G runs share)))
    unfolding gap same_name
    node_lines_agree h = lettered_agree (text "L") (node_gap_worth h) refl

  -- ---- the numbers behind a zone's read as those of the zone
  pub field_read : (k : ℕ) → 2 ≤ k → (side : Side) (j : ℕ) → has_letter (letter side) (line_at j (sheet G runs share)) ≡ true
      → read_whole (field k (line_at j (sheet G runs share))) ≡ read_of side (read_natural 0 (field 1 (line_at j (sheet G runs share)))) k
  unfolding field zone_fields
  field_read k from side =
      zone_lines_agree (λ fs. read_whole (get_or fs k [])) (λ fs. read_of side (read_natural 0 (get_or fs 1 [])) k) side
      (λ i. zone_read_lem (form side) side (suc i) (residual G runs share side) (zone_figures G runs share side (suc i)) k from ∙ sym (ap (λ (z : ℕ). read_of side z k) (read_natural_lem (suc i))))

  -- a printed total is its tariffs and its residual
  total_added : (side : Side) (z : ℕ)
      → read_of side z (total_field (form side)) ≡ over_backgrounds e (λ b. read_of side z (tariff_field (form side) b)) +ℤ read_of side z (residual_field (form side))
  unfolding charging.zone_total charging.priced basis
  total_added side z =
      total_shown side z
      ∙ or_none_lem (eqb (zone_weight G side z) 0) e (λ b. zone_tariff G runs share b side z) (residual G runs share side)
      ∙ sym (ap₂ ◌+ℤ◌ (over_backgrounds_lem _ _ refl (tariff_shown side z)) (residual_shown side z))

  pub total_read : (side : Side) (k : ℕ) → has_letter (letter side) (line_at k (sheet G runs share)) ≡ true
      → read_whole (field (total_field (form side)) (line_at k (sheet G runs share)))
      ≡ printed_tariffs e (form side) (line_at k (sheet G runs share)) +ℤ read_whole (field (residual_field (form side)) (line_at k (sheet G runs share)))
  total_read side k h =
      let f = form side in
      field_read (total_field f) (omega (arith, residual_from f)) side k h
      ∙ total_added side _
      ∙ sym (ap₂ ◌+ℤ◌ (over_backgrounds_lem _ _ refl (λ b l. field_read (tariff_field f b) (omega (arith, metres_from f b)) side k h)) (field_read (residual_field f) (residual_from f) side k h))

  -- the shared metres of a zone's line
  pub shared_read : (side : Side) (j : ℕ) → has_letter (letter side) (line_at j (sheet G runs share)) ≡ true
      → printed_shared_metres (form side) (line_at j (sheet G runs share))
      ≡ or_none side (read_natural 0 (field 1 (line_at j (sheet G runs share)))) (shared_of G runs share side (read_natural 0 (field 1 (line_at j (sheet G runs share)))))
  unfolding field zone_fields
  shared_read side j h =
      metres_in (form side) (line_at j (sheet G runs share))
      ∙ zone_lines_agree (shared_metres_in (form side)) (λ fs. or_none side (read_natural 0 (get_or fs 1 [])) (shared_of G runs share side (read_natural 0 (get_or fs 1 [])))) side
      (λ i. shared_metres_read side (suc i) (residual G runs share side) (zone_figures G runs share side (suc i)) (form side) ∙ shared_metres_shown side (suc i)
      ∙ sym (ap (λ (z : ℕ). or_none side z (shared_of G runs share side z)) (read_natural_lem (suc i)))) j h
