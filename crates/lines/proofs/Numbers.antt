-- The decimal digits of a number by their last digit, how many there are, and numbers one after the other.
use Prim.Native.Nat.{ℕ, ◌+◌, ◌/◌, ◌^◌, ◌≤◌, ◌<◌}
use mathlib.Core.Path.{◌≡◌, refl, sym, ap, ◌∙◌}
use mathlib.Core.List.{List, [], ◌∷◌, ◌++◌, append_assoc, append-nil}
use native.Mathlib.Numerals.{add-one}
use native.Mathlib.Omega.{arith}
use lib.IntN.{ℤ, pos, negsuc, nat_abs}
use lib.ListN.{length, length-append, get_or, take}
use lib.Seq.{take-suc}
use lib.Signed.{◌<ℤ◌, ◌≤ℤ◌}
use mir.Syntax.{w64}
use mir.Val.{SFits}
use Rattle.integers.proofs.Core.{Z}
use Rattle.meaning.specs.Text.{text, natural, decimal, decimals, ends}
use Rattle.meaning.specs.Sheet.{zone_numbers}
use Rattle.meaning.specs.declared.Form.{Form}
use Rattle.meaning.specs.declared.Form.TheVariants.{OneBackground, TwoBackgrounds, Sharing}
use Rattle.meaning.specs.declared.ZoneFigures.{ZoneFigures}
use Rattle.sizes.proofs.Widths.{natural_one, natural_more, natural_length, decimal_length}
use Rattle.lines.specs.Making.{spaced, told}

-- ---- how many
pub natural_one_length : (n : ℕ) → n < 10 → length (natural n) ≡ 1
natural_one_length n h = ap length (natural_one n h)

pub natural_more_length : (n : ℕ) → 10 ≤ n → length (natural n) ≡ length (natural (n / 10)) + 1
natural_more_length n h = ap length (natural_more n h) ∙ length-append (natural (n / 10)) _

-- a u64 has at most 20
pub natural_u64 : (n : ℕ) → n < 2 ^ 64 → length (natural n) ≤ 20
natural_u64 n h = natural_length 19 n (omega arith)

-- ---- a signed number, by its sign
pub decimal_below : (z : ℤ) → z <ℤ pos 0 → decimal z ≡ text "-" ++ natural (nat_abs z)
unfolding decimal
decimal_below (pos n) h = let k = simp Z at h in absurd (omega arith)
decimal_below (negsuc n) h = refl

pub decimal_above : (z : ℤ) → pos 0 ≤ℤ z → decimal z ≡ natural (nat_abs z)
unfolding decimal
decimal_above (pos n) h = refl
decimal_above (negsuc n) h = absurd h.le

-- an i64 has at most 20 bytes
pub decimal_i64 : (z : ℤ) → SFits w64 z → length (decimal z) ≤ 20
decimal_i64 z h = let k = simp Z at h in decimal_length 18 18 20 z (omega arith) (omega arith) (simp Z (omega arith)) (simp Z (omega arith))

-- ---- numbers behind the fields of a line: one more, those of two lists, and a line's last
pub spaced_both : (xs ys : List ℤ) → spaced (xs ++ ys) ≡ spaced xs ++ spaced ys
unfolding spaced
spaced_both [] ys = refl
spaced_both (x ∷ xs) ys = ap (λ (l : List ℕ). (text " " ++ decimal x) ++ l) (spaced_both xs ys) ∙ sym (append_assoc (text " " ++ decimal x) (spaced xs) (spaced ys))

pub spaced_more : (zs : List ℤ) (i : ℕ) → i < length zs → spaced (take (i + 1) zs) ≡ spaced (take i zs) ++ (text " " ++ decimal (get_or zs i (pos 0)))
unfolding spaced
spaced_more zs i h =
    rw (add-one i, take-suc zs i (pos 0) h)
    (spaced_both (take i zs) (get_or zs i (pos 0) ∷ []) ∙ ap (λ (l : List ℕ). spaced (take i zs) ++ l) (append-nil (text " " ++ decimal (get_or zs i (pos 0)))))

pub ends_spaced : (zs : List ℤ) → ends (decimals zs) ≡ spaced zs ++ text "\n"
unfolding ends decimals spaced
ends_spaced [] = refl
ends_spaced (z ∷ zs) =
    ap (λ (l : List ℕ). text " " ++ (decimal z ++ l)) (ends_spaced zs)
    ∙ sym (append_assoc (text " " ++ decimal z) (spaced zs) (text "\n"))

-- the numbers of a zone's line
pub zone_numbers_told : (form : Form) (r : ℤ) (z : ZoneFigures) → zone_numbers form r z ≡ told form z ++ (r ∷ z.total.0 ∷ [])
unfolding zone_numbers told
zone_numbers_told OneBackground r z = refl
zone_numbers_told TwoBackgrounds r z = refl
zone_numbers_told Sharing r z = refl
