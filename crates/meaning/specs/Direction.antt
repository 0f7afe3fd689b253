-- 01, step 4 (CUSC 14.15.10, 14.15.42 to 47 for lengths; the bands are 01's own): expanded length, direction and signed length of a circuit.
-- 02, request 5: the background that it counts for.
use Rattle.std.specs.Prelude.{Bool, true, false, cond, ℕ, ◌+◌, ◌*◌, eqb, leb, ℤ, pos, neg_ℤ, nat_abs}
use Rattle.std.specs.Int.Signed.{non_neg}
use Rattle.meaning.specs.declared.Direction.{Direction}
use Rattle.meaning.specs.declared.Direction.TheVariants.{Idle, Forward, Backward, InDoubt}
use Rattle.meaning.specs.declared.Edition.{Edition}
use Rattle.meaning.specs.declared.Edition.TheVariants.{First, Second}
use Rattle.meaning.specs.declared.Background.{Background}
use Rattle.meaning.specs.declared.Background.TheVariants.{YearRound, Peak}
use Rattle.meaning.specs.declared.Counting.{Counting}
use Rattle.meaning.specs.declared.Counting.TheVariants.{For, Doubtful}
use Rattle.meaning.specs.declared.Settings.{Settings}
use Rattle.meaning.specs.Study.{Circuit}

-- the factors of a voltage, in thousandths; a new one has none, and takes those of 132 in no sound row
unfoldable pub overhead_factor : Settings → (voltage : ℕ) → ℕ
overhead_factor s voltage = cond (eqb voltage 400) s.overhead400 (cond (eqb voltage 275) s.overhead275 s.overhead132)

unfoldable pub cable_factor : Settings → (voltage : ℕ) → ℕ
cable_factor s voltage = cond (eqb voltage 400) s.cable400 (cond (eqb voltage 275) s.cable275 s.cable132)

-- 02, request 3: "each such circuit has its own factor", "0 means by voltage, otherwise" it is "for both lengths of the row"
unfoldable pub own_or : (factor by_voltage : ℕ) → ℕ
own_or factor by_voltage = cond (eqb factor 0) by_voltage factor

-- "Expanded length in mm is overhead metres times its factor plus cable metres times its factor, by voltage."
unfoldable pub expanded_length : Settings → Circuit → ℕ
expanded_length s c = c.overhead * own_or c.factor (overhead_factor s c.voltage) + c.cable * own_or c.factor (cable_factor s c.voltage)

-- "idle at a base flow of magnitude up to 200,000,000, directed above 400,000,000, and in doubt between"
unfoldable pub direction : (flow : ℤ) → Direction
direction flow =
    cond (leb (nat_abs flow) 200000000) Idle
    (cond (leb (nat_abs flow) 400000000) InDoubt
    (cond (non_neg flow) Forward Backward))

unfoldable pub in_doubt : Direction → Bool
in_doubt Idle = false
in_doubt Forward = false
in_doubt Backward = false
in_doubt InDoubt = true

-- 02, request 5: "counts for year round when its flow there is greater in magnitude by more than 800,000,000 mW, for peak when it isn't greater by
-- more than 400,000,000; between these it is in doubt"
unfoldable pub by_flows : (year_round peak : ℤ) → Counting
by_flows year_round peak =
    cond (leb (nat_abs year_round) (nat_abs peak + 400000000)) (For Peak)
    (cond (leb (nat_abs year_round) (nat_abs peak + 800000000)) Doubtful (For YearRound))

-- of "an unmarked circuit"; "marked circuits use year round alone", and edition 1 has nothing else
unfoldable pub counts_for : Edition → (local_mark : ℕ) → (year_round peak : ℤ) → Counting
counts_for First local_mark year_round peak = For YearRound
counts_for Second local_mark year_round peak = cond (eqb local_mark 0) (by_flows year_round peak) (For YearRound)

unfoldable pub is_doubtful : Counting → Bool
is_doubtful (For b) = false
is_doubtful Doubtful = true

-- the background that a circuit counts for; in doubt is refused as 15 before this is used
unfoldable pub background : Counting → Background
background (For b) = b
background Doubtful = YearRound

-- "A circuit with a length above zero"
unfoldable pub has_length : Circuit → Bool
has_length c = leb 1 (c.overhead + c.cable)

-- a length with a direction's sign; in doubt is refused as 11 before any length is used
unfoldable pub signed : Direction → ℤ → ℤ
signed Idle length = pos 0
signed Forward length = length
signed Backward length = neg_ℤ length
signed InDoubt length = pos 0

-- "Its signed length in nm is 1,000,000 times the expanded length, with the base flow's sign, or 0 when idle."
unfoldable pub signed_length : Settings → Circuit → (flow : ℤ) → ℤ
signed_length s c flow = signed (direction flow) (pos (1000000 * expanded_length s c))
