-- What is read of a file that nothing stops: the columns of its study.
use mathlib.Core.Path.{◌≡◌, refl, sym, ◌∙◌}
use mathlib.Core.List.{List}
use Prim.Native.Nat.{ℕ}
use Rattle.std.specs.Prelude.{Ok, Err}
use Rattle.meaning.specs.declared.Refusal.{Refusal}
use Rattle.meaning.specs.Tables.{circuits_stage}
use Rattle.meaning.proofs.Answers.{or_else_stops, stops≢passes}
use Rattle.meaning.specs.Answers.{Judgement, ◌or_else◌}
use Rattle.layout.specs.Readable.{readable}
use Rattle.meaning.specs.Study.{Study}
use Rattle.layout.specs.Frame.{counts_of}
use Rattle.node_table.specs.Columns.{nodes_of}
use Rattle.circuit_table.specs.Columns.{circuits_of}
use Rattle.station_table.specs.Tec.{types_of, Possible}
use Rattle.tables.specs.declared.Opened.{Opened}
use Rattle.tables.specs.Opens.{opened_of, filled, Columns}
use Rattle.tables.specs.Order.{rows_after, then_nodes, then_circuits}
use Rattle.tables.proofs.OrderLaws.{rows_passed}

-- the columns of a study
pub record StudyColumns (S : Study) (o : Opened) : Type 0 where
  pub counts : o.counts ≡ counts_of S
  pub settings : o.settings ≡ S.settings
  pub nodes : o.nodes ≡ nodes_of S
  pub circuits : o.circuits ≡ circuits_of S
  pub by_type : o.by_type ≡ types_of S
  pub possible : Possible o.by_type

pub columns_opened : {S : Study} {o : Opened} → o ≡ opened_of S → Possible o.by_type → StudyColumns S o
unfolding opened_of
columns_opened {S} {o} e p =
    record {
      counts = rw e refl;
      settings = rw e refl;
      nodes = rw e refl;
      circuits = rw e refl;
      by_type = rw e refl;
      possible = p;
    }

pub columns_same : {S : Study} {o : Opened} → StudyColumns S o → o ≡ opened_of S
unfolding opened_of
columns_same t = rw (← t.nodes, ← t.circuits, ← t.by_type, ← t.counts, ← t.settings) refl

-- ---- room that was lent
pub filled_passes : {A : Type 0} {j : Judgement} (value before : A) → j ≡ Ok tt → filled j value before ≡ value
unfolding filled
filled_passes value before e = rw e refl

pub filled_stops : {A : Type 0} {j : Judgement} {r : Refusal} (value before : A) → j ≡ Err r → filled j value before ≡ before
unfolding filled
filled_stops value before e = rw e refl

module _ {frame : Judgement} {file : List ℕ} {before after : Opened} where
  pub rows_read : Columns frame file before after → frame or_else rows_after (readable file) ≡ Ok tt → StudyColumns (readable file) after
  rows_read t p =
      let r = rows_passed frame file p in
      record {
        counts = t.counts;
        settings = t.settings;
        nodes = t.nodes ∙ filled_passes _ _ r.0;
        circuits = t.circuits ∙ filled_passes _ _ r.0;
        by_type = t.by_type ∙ filled_passes _ _ r.1;
        possible = t.possible r.1;
      }

  -- ---- what is in it where the frame or 3 stops the file, where 4 does, and where neither does
  module _ (counts : after.counts ≡ counts_of (readable file)) (settings : after.settings ≡ (readable file).settings) where
    pub nodes_stop : {r : Refusal} → then_nodes frame file ≡ Err r → after.nodes ≡ before.nodes → after.circuits ≡ before.circuits → after.by_type ≡ before.by_type → Columns frame file before after
    nodes_stop n en ec et =
        let c = or_else_stops (circuits_stage (readable file)) n ∙ n in
        record {
          counts = counts;
          settings = settings;
          nodes = en ∙ sym (filled_stops _ _ n);
          circuits = ec ∙ sym (filled_stops _ _ n);
          by_type = et ∙ sym (filled_stops _ _ c);
          possible = λ p. absurd (stops≢passes (sym c ∙ p));
        }

    pub circuits_stop : {r : Refusal} → then_nodes frame file ≡ Ok tt → then_circuits frame file ≡ Err r → after.nodes ≡ nodes_of (readable file) → after.circuits ≡ circuits_of (readable file) → after.by_type ≡ before.by_type → Columns frame file before after
    circuits_stop n c en ec et =
        record {
          counts = counts;
          settings = settings;
          nodes = en ∙ sym (filled_passes _ _ n);
          circuits = ec ∙ sym (filled_passes _ _ n);
          by_type = et ∙ sym (filled_stops _ _ c);
          possible = λ p. absurd (stops≢passes (sym c ∙ p));
        }

    pub all_read : then_nodes frame file ≡ Ok tt → then_circuits frame file ≡ Ok tt → after.nodes ≡ nodes_of (readable file) → after.circuits ≡ circuits_of (readable file) → after.by_type ≡ types_of (readable file) → Possible after.by_type → Columns frame file before after
    all_read n c en ec et p =
        record {
          counts = counts;
          settings = settings;
          nodes = en ∙ sym (filled_passes _ _ n);
          circuits = ec ∙ sym (filled_passes _ _ n);
          by_type = et ∙ sym (filled_passes _ _ c);
          possible = λ _. p;
        }
