-- What a case file opened says: its columns, or what stops it first.
use Rattle.std.specs.Prelude.{◌≡◌, List, [], replicate, ℕ, Result, Ok, Err, IfOk}
use Rattle.meaning.specs.declared.System.{System}
use Rattle.meaning.specs.declared.Refusal.{Refusal}
use Rattle.meaning.specs.Answers.{Judgement, yields}
use Rattle.meaning.specs.Columns.{kilowatts}
use Rattle.meaning.specs.Study.{Study}
use Rattle.meaning.specs.Outcome.{tables_stage}
use Rattle.layout.specs.Readable.{readable}
use Rattle.layout.specs.Frame.{counts_of}
use Rattle.node_table.specs.Columns.{nodes_of}
use Rattle.circuit_table.specs.Columns.{circuits_of}
use Rattle.station_table.specs.Tec.{types_of, Possible}
use Rattle.tables.specs.declared.Opened.{Opened}
use Rattle.tables.specs.Order.{then_nodes, then_circuits}

-- the columns of a study
unfoldable pub opened_of : Study → Opened
opened_of S = record { counts = counts_of S; settings = S.settings; nodes = nodes_of S; circuits = circuits_of S; by_type = types_of S }

-- lent room: what is written where the stages before pass, else what it held
unfoldable pub filled : {A : Type 0} → Judgement → (value before : A) → A
filled (Ok _) value before = value
filled (Err r) value before = before

-- of a file whose frame was judged so: the columns of a table are in the room that was lent where nothing among the refusals before it stops the file, and else the room is as it was
pub record Columns (frame : Judgement) (file : List ℕ) (before after : Opened) : Type 0 where
  pub counts : after.counts ≡ counts_of (readable file)
  pub settings : after.settings ≡ (readable file).settings
  pub nodes : after.nodes ≡ filled (then_nodes frame file) (nodes_of (readable file)) before.nodes
  pub circuits : after.circuits ≡ filled (then_nodes frame file) (circuits_of (readable file)) before.circuits
  pub by_type : after.by_type ≡ filled (then_circuits frame file) (types_of (readable file)) before.by_type
  pub possible : then_circuits frame file ≡ Ok tt → Possible after.by_type

-- of a file, and the lengths of the runs: its columns where 1 to 7, 13 and 14 pass
pub record Opens (file : List ℕ) (long : System → ℕ) (r : Result Opened Refusal) : Type 0 where
  pub judged : r ≡ yields (tables_stage file long) (opened_of (readable file))
  pub possible : IfOk r (λ o. Possible o.by_type)

-- room for columns before anything is read: those of an empty file, its circuits and its TEC by type all zero
unfoldable pub nothing_read : Opened
nothing_read =
    record {
      counts = counts_of (readable []);
      settings = (readable []).settings;
      nodes = nodes_of (readable []);
      circuits = record { first = replicate 512 0; second = replicate 512 0; x = replicate 512 0; length = replicate 512 0; mark = replicate 512 0 };
      by_type = replicate 1792 (kilowatts 0);
    }
