-- 01, step 4: expanded lengths that fit 64 bits whatever a file says.
use Rattle.std.specs.Prelude.{Bool, cond, ◌&&◌, ℕ, ◌+◌, ◌*◌, leb}
use Rattle.meaning.specs.declared.Settings.{Settings}
use Rattle.meaning.specs.Study.{Circuit}
use Rattle.meaning.specs.Direction.{overhead_factor, cable_factor, own_or, expanded_length}

-- 01, Quantities: both lengths and both factors up to their range's end, as in every sound table
unfoldable pub length_in_range : Settings → Circuit → Bool
length_in_range s c =
    leb c.overhead 500000 && leb c.cable 500000 && leb (own_or c.factor (overhead_factor s c.voltage)) 30000
    && leb (own_or c.factor (cable_factor s c.voltage)) 30000

-- the expanded length in mm; 0 where a length or a factor is above its range
unfoldable pub length_if_in_range : Settings → Circuit → ℕ
length_if_in_range s c = cond (length_in_range s c) (expanded_length s c) 0

-- the same, from the two lengths and their factors
abbrev pub expanded_by : (overhead over cable under : ℕ) → ℕ
expanded_by overhead over cable under = cond (leb overhead 500000 && leb cable 500000 && leb over 30000 && leb under 30000) (overhead * over + cable * under) 0
