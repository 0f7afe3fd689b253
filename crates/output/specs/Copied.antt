-- 01, The case file: a solution of a file, copied out of it.
use Rattle.std.specs.Prelude.{◌≡◌, List, ℕ, ◌≤◌, length, take}
use Rattle.meaning.specs.File.{table, i64}
use Rattle.layout.specs.Readable.{section_in}
use Rattle.output.specs.declared.Run.{Run}

-- the run has the numbers of the section, and room for them
pub record Copied (file : List ℕ) (section : ℕ) (r : Run) : Type 0 where
  pub numbers : take r.count r.numbers ≡ table (i64 file) (section_in file section)
  pub room : length r.numbers ≡ 768
  pub inside : r.count ≤ 768
