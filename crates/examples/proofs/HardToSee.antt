-- Definitions that are hard to see, each computed at an example.
use Rattle.std.proofs.Common.{◌≡◌, ℕ, ◌^◌, suc, true, false, refl, [], ◌∷◌, ◌++◌, get_or, ℤ, pos, neg_ℤ}
use lib.ListN.{replicate}
use mathlib.Core.Option.{some}
use Rattle.meaning.specs.declared.Counting.TheVariants.{Doubtful}
use Rattle.meaning.specs.Rows.{lowest, rows}
use Rattle.meaning.specs.Scaled.{scaled}
use Rattle.meaning.specs.Direction.{by_flows}
use Rattle.meaning.specs.Sharing.{shared_along, not_shared_along, second_centre}
use Rattle.meaning.specs.Read.{pieces}
use Rattle.meaning.specs.File.{i64}
use Rattle.meaning.specs.Text.{text, digits}
use Rattle.meaning.specs.Network.{Network, reached_by}
use Rattle.meaning.proofs.Opened.{opened}

pub all_ones : i64 (replicate 8 255) 0 ≡ neg_ℤ (pos 1)
unfolding opened
all_ones = refl

pub lowest_number : i64 (replicate 7 0 ++ (128 ∷ [])) 0 ≡ neg_ℤ (pos (2 ^ 63))
unfolding opened
lowest_number = refl

pub four_places : digits 4 305 ≡ text "305"
unfolding opened
four_places = refl

pub two_places : digits 2 305 ≡ text "05"
unfolding opened
two_places = refl

-- nodes 0 - 1 - 2, the reference 0
abbrev pub three_in_line : Network
three_in_line = record { nodes = 3; circuits = 2; reference = 0; first = λ c. c; second = suc; x = λ c. 1 }

-- TEC 5, 3, 2 and demand 7
pub one_missing : rows 3 (scaled 3 (λ v. get_or (5 ∷ 3 ∷ 2 ∷ []) v 0) 7) ≡ 4 ∷ 2 ∷ 1 ∷ []
unfolding opened
one_missing = refl

pub between_backgrounds : by_flows (pos 1000000000) (neg_ℤ (pos 300000000)) ≡ Doubtful
unfolding opened
between_backgrounds = refl

-- zones 1, 2 and 3, the centre
abbrev pub inward_to_3 : ℕ → ℕ
inward_to_3 z = get_or (0 ∷ 2 ∷ 3 ∷ 0 ∷ []) z 0

abbrev pub split_of_three : ((low carbon : ℕ → ℕ) (metres : ℕ → ℤ) → ℕ → ℤ) → ℤ
split_of_three split = split (λ z. get_or (0 ∷ 30 ∷ 0 ∷ 0 ∷ []) z 0) (λ z. get_or (0 ∷ 10 ∷ 20 ∷ 0 ∷ []) z 0) (λ z. pos (get_or (0 ∷ 101 ∷ 60 ∷ 10 ∷ []) z 0)) 1

pub chain_of_three : (split_of_three (shared_along 3 inward_to_3) ≡ pos 70) × (split_of_three (not_shared_along 3 inward_to_3) ≡ pos 31)
unfolding opened
chain_of_three = (refl, refl)

pub second_centre_of_three : lowest (λ i. second_centre 3 (λ z. 1) (λ z. get_or (0 ∷ 0 ∷ 1 ∷ 0 ∷ []) z 0) (suc i)) 3 ≡ some 2
unfolding opened
second_centre_of_three = refl

pub three_pieces : pieces 32 (text "G 1 -") ≡ text "G" ∷ text "1" ∷ text "-" ∷ []
unfolding opened
three_pieces = refl

pub marks_spread : (reached_by three_in_line 0 ≡ true ∷ false ∷ false ∷ []) × (reached_by three_in_line 1 ≡ true ∷ true ∷ false ∷ []) × (reached_by three_in_line 2 ≡ true ∷ true ∷ true ∷ [])
unfolding opened
marks_spread = (refl, refl, refl)
