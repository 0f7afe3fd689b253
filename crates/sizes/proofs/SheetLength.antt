-- 01, The sheet: no sheet is longer than 14,240 bytes. A zone line takes at most 74, a node line 37, the C line 12, the R line 20.
-- 02, request 5: in edition 2 a zone line takes at most 107 and the C line 22, so no sheet is longer than 16,362; request 6: with a share file a `G` line takes at most 135, and a sheet 17,258.
use mathlib.Core.Path.{◌≡◌, refl}
use mathlib.Core.Bool.{Bool, true, false, cond}
use mathlib.Core.List.{List, [], ◌∷◌}
use Prim.Native.Nat.{ℕ, suc, ◌+◌, ◌*◌, ◌^◌, ◌≤◌, ◌<◌}
use native.Mathlib.Nat.{le_trans, mul-le-mul_right}
use native.Mathlib.Omega.{arith}
use lib.Dec.{eqb}
use lib.IntN.{ℤ, pos, neg_ℤ, nat_abs}
use lib.Signed.{◌≤ℤ◌, ◌<ℤ◌}
use lib.ListN.{length, length-append}
use Rattle.integers.proofs.Core.{Z}
use Rattle.meaning.specs.Study.{Runs, node}
use Rattle.meaning.specs.Grid.{Grid, grid_of, node_tec}
use Rattle.meaning.specs.declared.Edition.{Edition}
use Rattle.meaning.specs.declared.Edition.TheVariants.{First, Second}
use Rattle.meaning.specs.declared.Background.{Background}
use Rattle.meaning.specs.declared.Background.TheVariants.{YearRound, Peak}
use Rattle.meaning.specs.declared.Form.{Form}
use Rattle.meaning.specs.declared.Form.TheVariants.{OneBackground, TwoBackgrounds, Sharing}
use Rattle.meaning.specs.declared.WiderFigures.{WiderFigures}
use Rattle.meaning.specs.declared.ZoneFigures.{ZoneFigures}
use Rattle.meaning.specs.Editions.{by_edition, Of}
use Rattle.meaning.specs.Demands.{longest_sheet}
use Rattle.meaning.specs.Sharing.{in_force}
use Rattle.meaning.specs.declared.Side.{Side}
use Rattle.meaning.specs.declared.Side.TheVariants.{Generation, Demand}
use Rattle.meaning.specs.Figures.{zones, form_of, C, residual, zone_total, local_metres, local_tariff, remainder, total_paying, zone_figures, priced, basis}
use Rattle.meaning.specs.Charging as charging
use Rattle.meaning.specs.Text.{text, decimal, decimals, line}
use Rattle.meaning.specs.Sheet.{constant_numbers, constant_fields, letter, wider_then, zone_numbers, zone_fields, node_fields, node_line, remainder_fields, Shown, zone_row, side_of, shown_of, zone_lines, node_lines, sheet_text, sheet}
use Rattle.sizes.specs.Bounds.{own_most, with_c_most, shared_most, tariff_most, shared_tariff_most, charged_most, total_most, FiguresFit, SheetAlwaysFits}
use Rattle.sizes.proofs.Ranges.{Ranged, ranged}
use Rattle.sizes.proofs.Figures.{figures_fit}
use Rattle.sizes.proofs.Widths.{taken, natural_length, decimal_length, unpadded_length, line_length, joined_length}

-- a number of magnitude below 10 ^ (k + 1) takes k + 1 digits and perhaps a sign
within_length : (k : ℕ) (z : ℤ) → nat_abs z < 10 ^ suc k → length (decimal z) ≤ suc (suc k)
within_length k z h = decimal_length k k (suc (suc k)) z (omega arith) (omega arith) (simp Z (omega (arith, simp Z at h))) (simp Z (omega (arith, simp Z at h)))

-- residual and total: above zero 17 digits, below it at most 12 and a sign
rest_length : (form : Form) (z : ℤ) (c : ℕ) → c ≤ total_most form → (neg_ℤ (pos c) ≤ℤ z) × (z ≤ℤ pos (10000000000000000 + c)) → length (decimal z) ≤ 17
rest_length form z c m h = go (charged form)
  where
    charged : (form : Form) → total_most form ≤ 975000000000
    charged OneBackground = omega arith
    charged TwoBackgrounds = omega arith
    charged Sharing = omega arith

    go : total_most form ≤ 975000000000 → length (decimal z) ≤ 17
    go k = decimal_length 11 16 17 z (omega arith) (omega arith) (simp Z (omega (arith, simp Z at h.0))) (simp Z (omega (arith, simp Z at h.1)))

remainder_length : (z : ℤ) (k : ℕ) → k ≤ 100000000 → (pos 0 ≤ℤ z) × (z <ℤ pos k) → length (decimal z) ≤ 8
remainder_length z k m h = decimal_length 0 7 8 z (omega arith) (omega arith) (simp Z (omega (arith, simp Z at h.0))) (simp Z (omega (arith, simp Z at h.1)))

letter_length : (side : Side) → length (letter side) ≡ 1
unfolding letter
letter_length Generation = refl
letter_length Demand = refl

-- what holds of two texts, or of the fields of two lines, holds of either
either : {A : Type 0} (P : A → Type 0) (b : Bool) (x y : A) → P x → P y → P (cond b x y)
either P true x y h k = h
either P false x y h k = k

-- ---- numbers of each background
-- how many an edition has
backgrounds : Edition → ℕ
backgrounds First = 1
backgrounds Second = 2

-- what the line of a zone says of a background
abbrev pub figures_in : Background → ZoneFigures → WiderFigures
figures_in YearRound z = z.year_round
figures_in Peak z = z.peak

-- what edition 2 alone has
in_peak : {A : Type 0} (x y : A) (e : Edition) → Of Peak e → by_edition x y e ≡ y
in_peak x y First h = absurd h
in_peak x y Second h = refl

-- the forms of an edition's lines
pub data FormIn : Edition → Form → Type 0 where
  one : FormIn First OneBackground
  two : FormIn Second TwoBackgrounds
  sharing : FormIn Second Sharing

-- of a demand line, and of any where nothing is shared
plain : (e : Edition) → FormIn e (by_edition OneBackground TwoBackgrounds e)
plain First = one
plain Second = two

pub form_in : (G : Grid) (share : List ℕ) (side : Side) → FormIn G.settings.edition (form_of G share side)
unfolding form_of in_force
form_in G share Generation = go G.settings.edition share
  where
    go : (e : Edition) (share : List ℕ) → FormIn e (cond (in_force e share) Sharing (by_edition OneBackground TwoBackgrounds e))
    go First share = one
    go Second [] = two
    go Second (b ∷ bs) = sharing
form_in G share Demand = plain G.settings.edition

-- bytes of a background's three numbers, each with one byte more; and of a zone's line
three_most : Form → Background → ℕ
three_most OneBackground b = 33
three_most TwoBackgrounds b = 33
three_most Sharing Peak = 33
three_most Sharing YearRound = 36

zone_line_most : Form → ℕ
zone_line_most OneBackground = 74
zone_line_most TwoBackgrounds = 107
zone_line_most Sharing = 135

-- a zone with no kilowatts
none_taken : (form : Form) → taken (text "-" ∷ []) + 5 ≤ zone_line_most form
unfolding taken zone_line_most
none_taken OneBackground = omega arith
none_taken TwoBackgrounds = omega arith
none_taken Sharing = omega arith

small_taken : (m a t : ℤ) → nat_abs m ≤ 10000000 → nat_abs a ≤ 20000000 → nat_abs t ≤ 10000000000 → taken (decimals (m ∷ a ∷ t ∷ [])) ≤ 33
unfolding decimals taken
small_taken m a t h k l = omega (arith, within_length 7 m (omega arith), within_length 7 a (omega arith), within_length 10 t (omega arith))

wider_taken : (form : Form) (b : Background) (m a t : ℤ) → nat_abs m ≤ own_most form b → nat_abs a ≤ with_c_most form b → nat_abs t ≤ tariff_most form b → taken (decimals (m ∷ a ∷ t ∷ [])) ≤ three_most form b
unfolding decimals taken three_most
wider_taken OneBackground b m a t h k l = small_taken m a t h k l
wider_taken TwoBackgrounds b m a t h k l = small_taken m a t h k l
wider_taken Sharing Peak m a t h k l = small_taken m a t h k l
wider_taken Sharing YearRound m a t h k l = omega (arith, within_length 8 m (omega arith), within_length 8 a (omega arith), within_length 11 t (omega arith))

numbers_taken : (e : Edition) (form : Form) → FormIn e form → (residual : ℤ) (z : ZoneFigures) → ((b : Background) → Of b e → taken (decimals (wider_then (figures_in b z) [])) ≤ three_most form b)
    → nat_abs z.shared.metres.0 ≤ shared_most form → nat_abs z.shared.tariff.0 ≤ shared_tariff_most form
    → taken (decimals (residual ∷ z.total.0 ∷ [])) ≤ 36 → taken (decimals (zone_numbers form residual z)) + 5 ≤ zone_line_most form
unfolding zone_numbers decimals taken three_most zone_line_most
numbers_taken First OneBackground one residual z w m t l = omega (arith, w YearRound tt)
numbers_taken Second TwoBackgrounds two residual z w m t l = omega (arith, w YearRound tt, w Peak tt)
numbers_taken Second Sharing sharing residual z w m t l =
    omega (arith, w YearRound tt, w Peak tt, within_length 8 z.shared.metres.0 (omega arith), within_length 11 z.shared.tariff.0 (omega arith))
numbers_taken First TwoBackgrounds x10 residual z w m t l = elim x10 [ ]
numbers_taken First Sharing x11 residual z w m t l = elim x11 [ ]
numbers_taken Second OneBackground x7 residual z w m t l = elim x7 [ ]

constants_taken : (e : Edition) (c peak_c : ℤ) → length (decimal c) ≤ 9 → (Of Peak e → length (decimal peak_c) ≤ 9) → taken (decimals (constant_numbers e c peak_c)) ≤ 10 * backgrounds e
unfolding decimals taken backgrounds
constants_taken First c peak_c h k = omega arith
constants_taken Second c peak_c h k = omega (arith, k tt)

module _ (G : Grid) (runs : Runs) (share : List ℕ) where
  pub wider_figures_lem : (b : Background) → Of b G.settings.edition → (side : Side) (zone : ℕ)
      → figures_in b (zone_figures G runs share side zone) ≡ charging.wider_figures (priced G runs share side) b zone
  unfolding charging.zone_figures charging.priced basis
  wider_figures_lem YearRound h side zone = refl
  wider_figures_lem Peak h side zone = in_peak _ _ G.settings.edition h

-- C line, `G` lines, `D` lines, and node lines and R line of any edition
longest : (e : Edition) (form : Form) → FormIn e form → (c g d : ℕ) → c ≤ 2 + 10 * backgrounds e → g ≤ 32 * zone_line_most form → d ≤ 32 * zone_line_most (by_edition OneBackground TwoBackgrounds e)
    → c + (g + (d + (9472 + 20))) ≤ longest_sheet form
unfolding backgrounds zone_line_most
longest First OneBackground one c g d h k l = omega arith
longest Second TwoBackgrounds two c g d h k l = omega arith
longest Second Sharing sharing c g d h k l = omega arith
longest First TwoBackgrounds x8 c g d h k l = elim x8 [ ]
longest First Sharing x9 c g d h k l = elim x9 [ ]
longest Second OneBackground x6 c g d h k l = elim x6 [ ]

module _ (G : Grid) (runs : Runs) (share : List ℕ) (r : Ranged G) (f : FiguresFit G runs share) where
  abbrev s : Shown
  s = shown_of G runs share

  abbrev e : Edition
  e = G.settings.edition

  abbrev form : Side → Form
  form side = form_of G share side

  three_taken : (side : Side) (zone : ℕ) (b : Background) → Of b e → taken (decimals (wider_then (figures_in b (zone_figures G runs share side zone)) [])) ≤ three_most (form side) b
  unfolding charging.wider_figures charging.priced basis
  three_taken side zone b h = rw (wider_figures_lem G runs share b h side zone)
      (wider_taken (form side) b _ _ _ ((f.tariffs b h).own side zone) ((f.tariffs b h).with_c side zone) ((f.tariffs b h).of_zone side zone))

  last_taken : (side : Side) (zone : ℕ) → taken (decimals (residual G runs share side ∷ (zone_figures G runs share side zone).total.0 ∷ [])) ≤ 36
  unfolding charging.zone_figures decimals taken
  last_taken side zone = omega (
    arith,
    rest_length (form side) (residual G runs share side) (charged_most (form side)) (omega arith) (f.rests.residual_range side),
    rest_length (form side) (zone_total G runs share side zone) (total_most (form side)) (omega arith) (f.rests.total_range side zone),
  )

  zone_numbers_lem : (side : Side) (zone : ℕ) → taken (decimals (zone_numbers (form side) (residual G runs share side) (zone_figures G runs share side zone))) + 5 ≤ zone_line_most (form side)
  unfolding charging.zone_figures
  zone_numbers_lem side zone =
      numbers_taken e (form side) (form_in G share side) (residual G runs share side) (zone_figures G runs share side zone) (three_taken side zone)
      (f.shares.metres side zone) (f.shares.of_zone side zone) (last_taken side zone)

  zone_line : (side : Side) (k : ℕ) → k < 32 → length (line (zone_row side (side_of G runs share side) k)) ≤ zone_line_most (form side)
  unfolding zone_fields taken
  zone_line side k h =
      let z = zone_figures G runs share side (suc k) in
      rw (line_length (letter side) _) (omega (
        arith,
        letter_length side,
        natural_length 1 (suc k) (omega arith),
        either (λ fs. taken fs + 5 ≤ zone_line_most (form side)) (eqb z.weight.0 0) (text "-" ∷ []) (decimals (zone_numbers (form side) (residual G runs share side) z)) (none_taken (form side))
            (zone_numbers_lem side (suc k)),
      ))

  zone_lines_lem : (side : Side) → length (zone_lines side (side_of G runs share side)) ≤ 32 * zone_line_most (form side)
  unfolding zone_lines
  zone_lines_lem side = le_trans
      (joined_length (zones G side) (zone_line_most (form side)) (λ k. line (zone_row side (side_of G runs share side) k)) (λ k l. zone_line side k (omega (arith, r.zones_most side))))
      (mul-le-mul_right (zone_line_most (form side)) (r.zones_most side))

  node_line_lem : (v : ℕ) → v < length G.nodes → length (node_line (s.name v) (s.local v)) ≤ 37
  unfolding node_line node_fields charging.local_figures decimals taken basis
  node_line_lem v h =
      either (λ l. length l ≤ 37) (eqb (node_tec G v) 0) [] _ (omega arith)
      (rw (line_length (text "L") _) (omega (
        arith,
        unpadded_length (node G.nodes v).name,
        r.names v h,
        within_length 7 (local_metres runs v) (omega (arith, f.locals.node v h)),
        within_length 9 (local_tariff G runs v) (omega (arith, f.locals.of_node v h)),
      )))

  node_lines_lem : length G.nodes ≤ 256 → length (node_lines s.nodes s.name s.local) ≤ 9472
  unfolding node_lines
  node_lines_lem h = omega (arith, joined_length (length G.nodes) 37 (λ v. node_line (s.name v) (s.local v)) node_line_lem)

  peak_C : Of Peak e → length (decimal s.peak_c) ≤ 9
  peak_C h = rw (in_peak _ _ e h) (within_length 7 (C G runs Peak) (omega (arith, (f.metres Peak h).centre)))

  C-line : length (line (constant_fields e s.c s.peak_c)) ≤ 2 + 10 * backgrounds e
  unfolding constant_fields taken
  C-line = rw (line_length (text "C") _) (omega (
    arith,
    constants_taken e (C G runs YearRound) s.peak_c (within_length 7 (C G runs YearRound) (omega (arith, (f.metres YearRound tt).centre))) peak_C,
  ))

  R-line : length (line (remainder_fields (s.side Generation).remainder (s.side Demand).remainder)) ≤ 20
  unfolding remainder_fields decimals taken
  R-line = rw (line_length (text "R") _) (omega (
    arith,
    remainder_length (remainder G runs share Generation) (total_paying G Generation) (r.payers Generation).most (f.rests.remainder_range Generation),
    remainder_length (remainder G runs share Demand) (total_paying G Demand) (r.payers Demand).most (f.rests.remainder_range Demand),
  ))

  pub sheet_length : length G.nodes ≤ 256 → length (sheet G runs share) ≤ longest_sheet (form Generation)
  unfolding sheet sheet_text form_of
  sheet_length h = simp length-append (omega (
    arith,
    node_lines_lem h,
    R-line,
    longest e (form Generation) (form_in G share Generation) _ _ _ C-line (zone_lines_lem Generation) (zone_lines_lem Demand),
  ))

-- "so it never prints 12"
pub sheet_fits : SheetAlwaysFits
unfolding grid_of
sheet_fits S study few runs u share sound = sheet_length (grid_of S) runs share (ranged S study) (figures_fit S study runs u share sound) few
