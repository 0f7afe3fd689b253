-- The program reads at most 65,536 bytes: no longer input is a whole file, so what it prints is that of the whole input.
use Prim.Native.Nat.{ℕ, ◌<◌}
use mathlib.Core.Path.{◌≡◌, refl, sym, ap, ◌∙◌}
use mathlib.Core.Bool.{Bool, true, false}
use mathlib.Core.List.{List}
use native.Mathlib.Omega.{arith}
use native.Mathlib.Decide.{dec_lt}
use lib.ListN.{length, take}
use lib.Seq.{take_all, length-take-le}
use Rattle.meaning.specs.File.{file_whole, runs_in}
use Rattle.meaning.specs.Outcome.{prints}
use Rattle.meaning.proofs.Frame.{file_short}
use Rattle.meaning.proofs.Whole.{whole_file}
use Rattle.output.proofs.Printing.{not_whole}

-- no whole file is longer than 63,616 bytes
pub long_not_whole : (file : List ℕ) → 63616 < length file → file_whole file ≡ false
long_not_whole file h = go (file_whole file) refl
  where
    go : (t : Bool) → file_whole file ≡ t → file_whole file ≡ false
    go true e = absurd (omega (arith, file_short file (runs_in file) (whole_file file e)))
    go false e = e

-- 01, The sheet: "The program reads one case from standard input."
pub input_cut : (input share : List ℕ) → prints (take 65536 input) share ≡ prints input share
input_cut input share = go (dec_lt 65536 (length input))
  where
    go : Dec (65536 < length input) → prints (take 65536 input) share ≡ prints input share
    go (yes h) =
        let l : length (take 65536 input) ≡ 65536 = length-take-le 65536 input (omega arith) in
        sym (not_whole (take 65536 input) share (long_not_whole (take 65536 input) (omega arith)))
        ∙ not_whole input share (long_not_whole input (omega arith))
    go (no h) = ap (λ (l : List ℕ). prints l share) (take_all 65536 input (omega arith))
