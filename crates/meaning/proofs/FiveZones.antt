-- 02, request 6, computed: five zones, the last without TEC. 1 leads to 2, 2 and 4 lead to 3, the centre. Behind boundary 1 three quarters are low carbon, behind 2 four sevenths, behind 4 two thirds:
-- factors 1/2, 6/7 and 2/3. 201 m by 1/2 are 100, 603 m by 6/7 are 516 (once a chain it would be 617 together), and -349 m by 2/3 are -233, rounded down.
use mathlib.Core.Path.{◌≡◌, refl}
use mathlib.Core.List.{List, [], ◌∷◌, ◌++◌, map}
use mathlib.Core.Option.{Option, some}
use Prim.Native.Nat.{ℕ, suc, ◌-◌}
use lib.IntN.{ℤ, pos, neg_ℤ}
use lib.ListN.{get_or, replicate}
use Rattle.meaning.specs.Rows.{rows}
use Rattle.meaning.specs.Answers.{Judgement}
use Rattle.std.specs.Prelude.{Ok, Err}
use Rattle.meaning.specs.declared.Refusal.TheVariants.{BadShare}
use Rattle.meaning.specs.declared.Background.{Background}
use Rattle.meaning.specs.declared.Background.TheVariants.{YearRound, Peak}
use Rattle.meaning.specs.declared.Edition.TheVariants.{Second}
use Rattle.meaning.specs.declared.Side.TheVariants.{Generation}
use Rattle.meaning.specs.Sharing.{Sharing, next_inward, load_factor, share_file_stage, not_shared_metres, shared_metres}
use Rattle.meaning.specs.Charging.{Zones, Priced, zone_tariff, shared_tariff, residual, remainder, zone_total}
use Rattle.meaning.proofs.Write.{u32s}
use Rattle.meaning.proofs.Opened.{opened}

-- five numbers and seven load factors, by those of types 3 and 7
abbrev file_with : List ℕ → (third last : ℕ) → List ℕ
file_with next third last = u32s (next ++ (385 ∷ 763 ∷ third ∷ 424 ∷ 107 ∷ 3 ∷ last ∷ []))

abbrev sound : List ℕ
sound = 2 ∷ 3 ∷ 0 ∷ 3 ∷ 0 ∷ []

abbrev of_zone : {A : Type 0} → A → List A → (zone : ℕ) → A
of_zone nothing all zone = get_or all (zone - 1) nothing

abbrev tec : ℕ → ℕ
tec = of_zone 0 (400 ∷ 300 ∷ 50 ∷ 120 ∷ 0 ∷ [])

abbrev judged_by : List ℕ → Judgement
judged_by next = share_file_stage (file_with next 0 486) 5 tec

-- ---- 16
pub stands : judged_by sound ≡ Ok tt
unfolding opened
stands = refl

-- 1 names an absent zone; 4 one without TEC; 5 names one though it has none; 4 is a second centre; 1 leads into the circle of 2 and 3; 4 names itself; none is the centre; the circle goes through the zone without TEC
pub faults : map judged_by (
    (9 ∷ 3 ∷ 0 ∷ 3 ∷ 0 ∷ [])
    ∷ (2 ∷ 3 ∷ 0 ∷ 5 ∷ 0 ∷ [])
    ∷ (2 ∷ 3 ∷ 0 ∷ 3 ∷ 3 ∷ [])
    ∷ (2 ∷ 3 ∷ 0 ∷ 0 ∷ 0 ∷ [])
    ∷ (2 ∷ 3 ∷ 2 ∷ 3 ∷ 0 ∷ [])
    ∷ (2 ∷ 3 ∷ 0 ∷ 4 ∷ 0 ∷ [])
    ∷ (2 ∷ 3 ∷ 4 ∷ 1 ∷ 0 ∷ [])
    ∷ (2 ∷ 5 ∷ 0 ∷ 3 ∷ 1 ∷ [])
    ∷ [])
    ≡ map (λ row. Err (BadShare row)) (1 ∷ 4 ∷ 5 ∷ 4 ∷ 1 ∷ 4 ∷ 1 ∷ 1 ∷ [])
unfolding opened
faults = refl

-- row 0 before any zone: a byte or a number too many, a load factor of 1,001, type 3's too; 1,000 is none
pub frames : share_file_stage (file_with sound 0 486 ++ (0 ∷ [])) 5 tec ∷ share_file_stage (file_with sound 0 486) 4 tec ∷ share_file_stage (file_with (9 ∷ 3 ∷ 0 ∷ 3 ∷ 0 ∷ []) 0 1001) 5 tec
    ∷ share_file_stage (file_with sound 1001 486) 5 tec
    ∷ share_file_stage (file_with sound 1000 1000) 5 tec
    ∷ []
    ≡ Err (BadShare 0) ∷ Err (BadShare 0) ∷ Err (BadShare 0) ∷ Err (BadShare 0) ∷ (Ok tt) ∷ []
unfolding opened
frames = refl

-- one zone alone is the centre
pub alone : share_file_stage (u32s (replicate 8 0)) 1 (λ z. 7) ≡ Ok tt
unfolding opened
alone = refl

-- ---- the split
abbrev metres : ℕ → ℤ
metres = of_zone (pos 0) (pos 901 ∷ pos 700 ∷ pos 97 ∷ neg_ℤ (pos 252) ∷ pos 0 ∷ [])

abbrev five : Option Sharing
five =
    some (record {
      zones = 5;
      next = next_inward (file_with sound 0 486) 5;
      low = of_zone 0 (300 ∷ 100 ∷ 50 ∷ 80 ∷ 0 ∷ []);
      carbon = of_zone 0 (100 ∷ 200 ∷ 0 ∷ 40 ∷ 0 ∷ []);
      kw = of_zone 0 (100 ∷ 50 ∷ 20 ∷ 30 ∷ 0 ∷ []);
    })

pub shared : rows 5 (λ i. shared_metres five metres (suc i)) ≡ pos 616 ∷ pos 516 ∷ pos 0 ∷ neg_ℤ (pos 233) ∷ pos 0 ∷ []
unfolding opened
shared = refl

pub not_shared_lem : rows 5 (λ i. not_shared_metres five metres (suc i)) ≡ pos 285 ∷ pos 184 ∷ pos 97 ∷ neg_ℤ (pos 19) ∷ pos 0 ∷ []
unfolding opened
not_shared_lem = refl

pub factors : rows 7 (λ t. load_factor (file_with sound 0 486) 5 (suc t)) ≡ 385 ∷ 763 ∷ 0 ∷ 424 ∷ 107 ∷ 3 ∷ 486 ∷ []
unfolding opened
factors = refl

-- ---- the money: a metre costs a micro-pound, year round's C is 40 and peak's 5, at peak all zones are 10 m away. Tariffs bring in 206,570 and 13,050, the shared ones 80,410 on their own kilowatts
abbrev zones_in : Background → Zones
zones_in YearRound = record { count = 5; weight = tec; paying = tec; metres = metres; total = 870 }
zones_in Peak = record { count = 5; weight = tec; paying = tec; metres = λ zone. pos 10; total = 870 }

abbrev centres : Background → ℤ
centres YearRound = pos 40
centres Peak = pos 5

abbrev money : Priced
money =
    record {
      edition = Second;
      side = Generation;
      zones = zones_in;
      sharing = five;
      c = centres;
      payers = 870;
      constant = 100;
      factor = 1000;
      target = 1000000;
      local = pos 0;
    }

pub not_shared_tariffs : rows 5 (λ i. zone_tariff money YearRound (suc i)) ≡ pos 325 ∷ pos 224 ∷ pos 137 ∷ pos 21 ∷ pos 40 ∷ []
unfolding opened
not_shared_tariffs = refl

-- without C
pub shared_tariffs : rows 5 (λ i. shared_tariff money (suc i)) ≡ pos 616 ∷ pos 516 ∷ pos 0 ∷ neg_ℤ (pos 233) ∷ pos 0 ∷ []
unfolding opened
shared_tariffs = refl

-- 1,000,000 less 300,030 is 804 for each of 870 kilowatts, and 490
pub left : residual money ∷ remainder money ∷ [] ≡ pos 804 ∷ pos 490 ∷ []
unfolding opened
left = refl

-- without the shared tariff
pub totals : rows 5 (λ i. zone_total money (suc i)) ≡ pos 1144 ∷ pos 1043 ∷ pos 956 ∷ pos 840 ∷ pos 859 ∷ []
unfolding opened
totals = refl
