use mathlib.Core.Path.{◌≡◌}
use mathlib.Core.List.{List}
use Prim.Native.Nat.{ℕ, ◌≤◌, ◌<◌}
use native.Mathlib.Omega.{arith}
use Rattle.meaning.specs.File.{edition_at, sections, record_size}
use Rattle.meaning.proofs.Whole.{whole_file}
use Rattle.layout.proofs.FileLaws.{sections_most, record_small, section_told}
use Rattle.layout.proofs.trailer.section.Goals as goal

below : (file : List ℕ) (s : ℕ) → s < sections (edition_at file) → s < 9
below file s h = omega (arith, sections_most (edition_at file))

small : (v k : ℕ) {size : ℕ} → size ≡ record_size v k → size ≤ 64
small v k e = rw e (record_small v k)

pub offset-requires : goal.offset-requires
offset-requires c = let p = c.requires in (omega (arith, (whole_file _ p.0).long), below _ _ p.1)

pub version-requires : goal.version-requires
version-requires c = omega (arith, (whole_file _ c.requires.0).long)

pub overflow_cast-result-2 : goal.overflow_cast-result-2
overflow_cast-result-2 c = omega (arith, small _ _ c.record_size.ensures)

pub count-requires : goal.count-requires
count-requires c = let p = c.requires in (omega (arith, (whole_file _ p.0).long), below _ _ p.1)

pub returns : goal.returns
returns c =
    let p = c.requires in
    section_told _ _ _ _ _ p.0 p.1 c.offset.ensures.0 (rw c.version.ensures at c.record_size.ensures) c.count.ensures.0
