-- 01, What stops a case ("Order"), as the tables are read: each only where nothing before it stops the file.
use Rattle.std.specs.Prelude.{List, ℕ, length}
use Rattle.meaning.specs.declared.System.{System}
use Rattle.meaning.specs.declared.Solutions.{Solutions}
use Rattle.meaning.specs.Editions.{by_system}
use Rattle.meaning.specs.Answers.{Judgement, ◌or_else◌}
use Rattle.meaning.specs.Study.{Study}
use Rattle.meaning.specs.Tables.{settings_stage, nodes_stage, circuits_stage, stations_stage}
use Rattle.meaning.specs.Outcome.{file_stage, runs_stage}
use Rattle.layout.specs.Readable.{readable}
use Rattle.tables.specs.declared.Lengths.{Lengths}

-- the lengths of the runs that are lent
unfoldable pub lengths_of : Solutions → Lengths
lengths_of l =
    record {
      base = length l.base.now;
      wider = length l.wider.now;
      local = length l.local.now;
      peak_base = length l.peak_base.now;
      peak_wider = length l.peak_wider.now;
    }

abbrev pub long_of : Lengths → System → ℕ
long_of l = by_system l.base l.wider l.local l.peak_base l.peak_wider

-- 1 and 2, of a file and the lengths of the runs: no table is read
unfoldable pub frame_stage : (file : List ℕ) → (long : System → ℕ) → Judgement
frame_stage file long = file_stage file or_else runs_stage file long or_else settings_stage (readable file)

-- then 3, then 4, then 5
unfoldable pub rows_after : Study → Judgement
rows_after S = nodes_stage S or_else circuits_stage S or_else stations_stage S

-- 3 after the frame, and then 4
abbrev pub then_nodes : (frame : Judgement) → (file : List ℕ) → Judgement
then_nodes frame file = frame or_else nodes_stage (readable file)

abbrev pub then_circuits : (frame : Judgement) → (file : List ℕ) → Judgement
then_circuits frame file = then_nodes frame file or_else circuits_stage (readable file)
