-- 01, The case file: what a file says, whole or not.
use Rattle.std.specs.Prelude.{cond, ◌&&◌, List, [], ℕ, ltb}
use Rattle.meaning.specs.declared.Section.{Section}
use Rattle.meaning.specs.Study.{Study}
use Rattle.meaning.specs.File.{edition_at, sections, section, file_whole, study_of}

-- the study of a whole file; a file that is refused as 1 says what the empty one does: no rows, all settings 0
unfoldable pub readable : List ℕ → Study
readable file = study_of (cond (file_whole file) file [])

-- a section of a whole file; of another, or past the last of its edition, one without rows
abbrev pub no_section : Section
no_section = record { start = 0; size = 0; count = 0 }

unfoldable pub section_in : List ℕ → (s : ℕ) → Section
section_in file s = cond (ltb s (sections (edition_at file)) && file_whole file) (section file s) no_section
