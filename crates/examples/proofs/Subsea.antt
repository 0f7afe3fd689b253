-- 02, request 3: KILN as a version 2 file, with a link that has a factor of its own, and what the new rules refuse.
use mathlib.Core.Path.{◌≡◌, refl}
use mathlib.Core.List.{List, [], ◌∷◌}
use Prim.Native.Nat.{ℕ}
use lib.ListN.{length, set}
use Rattle.meaning.specs.Study.{Study}
use Rattle.meaning.specs.File.{version_of, study_of}
use Rattle.meaning.specs.Answers.{Judgement}
use Rattle.std.specs.Prelude.{Ok, Err}
use Rattle.meaning.specs.declared.Refusal.TheVariants.{BadFile, BadCircuit}
use Rattle.meaning.specs.Outcome.{rows_stage, judged, prints}
use Rattle.meaning.proofs.Write.{name, file_in}
use Rattle.meaning.proofs.Opened.{opened}
use Rattle.meaning.proofs.Kiln.{kiln, kiln_settings, kiln_nodes, kiln_stations, kiln_study, kiln_runs, kiln_sheet, circuit_of}

-- KILN with another A-C: its voltage, its lengths and its factor
abbrev with_link : (voltage overhead cable factor : ℕ) → Study
with_link voltage overhead cable factor =
    record {
      settings = kiln_settings;
      nodes = kiln_nodes;
      circuits = circuit_of "NODA" "NODB" 100 10000 ∷ circuit_of "NODB" "NODC" 100 20000
          ∷ record {
            first = name "NODA";
            second = name "NODC";
            voltage = voltage;
            x = 200;
            overhead = overhead;
            cable = cable;
            local_mark = 0;
            factor = factor;
          }
          ∷ [];
      stations = kiln_stations;
    }

abbrev linked : (version voltage overhead cable factor : ℕ) → List ℕ
linked version voltage overhead cable factor = file_in version (with_link voltage overhead cable factor) kiln_runs

abbrev kiln_two : List ℕ
kiln_two = file_in 2 kiln_study kiln_runs

-- 12 bytes longer, one factor a circuit
two_long : length kiln_two ∷ version_of kiln_two ∷ length kiln ∷ version_of kiln ∷ [] ≡ 552 ∷ 2 ∷ 540 ∷ 1 ∷ []
unfolding opened
two_long = refl

-- 17,000 m at a factor of 2,000 are KILN's 34,000 m: as cable at 320 and 525, as overhead line at 400, half and half, and KILN itself
link_prints : prints (linked 2 320 0 17000 2000) [] ∷ prints (linked 2 525 0 17000 2000) [] ∷ prints (linked 2 400 17000 0 2000) [] ∷ prints (linked 2 132 8500 8500 2000) [] ∷ prints kiln_two [] ∷ []
    ≡ kiln_sheet ∷ kiln_sheet ∷ kiln_sheet ∷ kiln_sheet ∷ kiln_sheet ∷ []
unfolding opened
link_prints = refl

abbrev rows_of : (version voltage factor : ℕ) → Judgement
rows_of version voltage factor = rows_stage (study_of (linked version voltage 0 17000 factor))

-- factors at the ends of their range, and 0 where the settings have factors
factors_pass : rows_of 2 320 1000 ∷ rows_of 2 525 30000 ∷ rows_of 2 400 1000 ∷ rows_of 2 132 0 ∷ [] ≡ (Ok tt) ∷ (Ok tt) ∷ (Ok tt) ∷ (Ok tt) ∷ []
unfolding opened
factors_pass = refl

-- one past them, 0 at a new voltage, a voltage that there is not, and a new voltage in version 1, which has no factor
factors_stop : rows_of 2 320 999 ∷ rows_of 2 400 30001 ∷ rows_of 2 320 0 ∷ rows_of 2 525 0 ∷ rows_of 2 500 2000 ∷ rows_of 1 320 2000 ∷ rows_of 1 525 0 ∷ []
    ≡ Err (BadCircuit 3) ∷ Err (BadCircuit 3) ∷ Err (BadCircuit 3) ∷ Err (BadCircuit 3) ∷ Err (BadCircuit 3) ∷ Err (BadCircuit 3) ∷ Err (BadCircuit 3) ∷ []
unfolding opened
factors_stop = refl

-- rows of one version behind a trailer of the other; versions 0 and 3
versions_stop : judged (set kiln 532 2) kiln_runs [] ∷ judged (set kiln_two 544 1) kiln_runs [] ∷ judged (set kiln_two 544 0) kiln_runs [] ∷ judged (set kiln_two 544 3) kiln_runs [] ∷ []
    ≡ Err BadFile ∷ Err BadFile ∷ Err BadFile ∷ Err BadFile ∷ []
unfolding opened
versions_stop = refl
