-- What a share file says, as code has it: arrays of 32, row i for zone i + 1.
use Rattle.std.specs.Prelude.{cond, List, ℕ, suc, ◌-◌, leb}
use Rattle.meaning.specs.declared.Kw.{Kw}
use Rattle.meaning.specs.Answers.{Judgement}
use Rattle.std.specs.Prelude.{Err}
use Rattle.meaning.specs.declared.Refusal.TheVariants.{BadShare}
use Rattle.meaning.specs.Rows.{◌between◌and◌, rows}
use Rattle.meaning.specs.Columns.{number_at, kw_at}
use Rattle.meaning.specs.Sharing.{next_inward, load_factor, share_file_stage}

-- the row of a zone; nothing of what is no zone
unfoldable pub of_zone : {A : Type 0} → (nothing : A) → (row : ℕ → A) → (zone : ℕ) → A
of_zone nothing row zone = cond (zone between 1 and 32) (row (zone - 1)) nothing

abbrev pub next_in : List ℕ → (zone : ℕ) → ℕ
next_in next = of_zone 0 (number_at next)

abbrev pub zone_kw : List Kw → (zone : ℕ) → ℕ
zone_kw kw = of_zone 0 (kw_at kw)

-- the file's numbers: the next zone inward of each zone, and the load factor of each plant type
unfoldable pub inward_of : (share : List ℕ) (zones : ℕ) → List ℕ
inward_of share zones = rows 32 (λ i. next_inward share zones (suc i))

unfoldable pub factors_of : (share : List ℕ) (zones : ℕ) → List ℕ
factors_of share zones = rows 7 (λ t. cond (leb zones 32) (load_factor share zones (suc t)) 0)

-- 16; more zones than 01 has are a wrong length
unfoldable pub stage_in : (share : List ℕ) (zones : ℕ) (tec : List Kw) → Judgement
stage_in share zones tec = cond (leb zones 32) (share_file_stage share zones (zone_kw tec)) (Err (BadShare 0))
