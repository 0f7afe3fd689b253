-- The name that begins a row, read from all bytes that follow.
use Prim.Native.Nat.{ℕ, ◌-◌}
use mathlib.Core.Path.{◌≡◌, refl}
use mathlib.Core.List.{List}
use native.Mathlib.Omega.{arith}
use lib.ListN.{length, take, drop, length-drop}
use lib.Seq.{take_all}
use Rattle.meaning.specs.Name.{unpadded}
use Rattle.meaning.specs.File.{name_at, row_at}
use Rattle.meaning.specs.declared.Section.{Section}
use Rattle.text.specs.SheetText.{name_of}

pub name_read : (file : List ℕ) (rows : Section) (v at : ℕ) → at ≡ row_at rows v → unpadded (take 12 (take (length file - at) (drop at file))) ≡ name_of file rows v
unfolding name_of name_at
name_read file rows v at e = rw (take_all (length file - at) (drop at file) (omega (arith, length-drop at file)), e) refl
