-- Damaged forms of KILN, and what stops each, in the order of 01's table; 10 and 11 are in meaning/proofs/Small.antt, 12 in meaning/proofs/Kiln.antt.
use mathlib.Core.Path.{◌≡◌, refl}
use mathlib.Core.List.{List, [], ◌∷◌, ◌++◌}
use lib.IntN.{ℤ, pos, neg_ℤ}
use lib.ListN.{take, drop, set, replicate}
use Rattle.meaning.specs.Text.{text}
use Rattle.meaning.specs.Study.{Node, Circuit, Station, three_runs}
use Rattle.meaning.specs.declared.Background.TheVariants.{YearRound}
use Rattle.meaning.specs.declared.System.TheVariants.{Base, Local}
use Rattle.meaning.specs.Answers.{Judgement}
use Rattle.std.specs.Prelude.{Err}
use Rattle.meaning.specs.declared.Refusal.TheVariants.{BadFile, BadSetting, BadNode, BadCircuit, BadStation, Unreached, BadTotal, BadNumber, Unbalanced}
use Rattle.meaning.specs.Outcome.{judged, prints}
use Rattle.meaning.proofs.Write.{file_of}
use Rattle.meaning.proofs.Opened.{opened}
use Rattle.meaning.proofs.Kiln.{kiln, kiln_settings, kiln_nodes, kiln_circuits, kiln_stations, kiln_runs, kiln_base, kiln_wider, kiln_local, node_of, circuit_of, station_of}

-- KILN with other tables, and KILN with other runs
abbrev with_tables : List Node → List Circuit → List Station → Judgement
with_tables nodes circuits stations =
    judged (file_of (record { settings = kiln_settings; nodes = nodes; circuits = circuits; stations = stations }) kiln_runs) kiln_runs []

abbrev with_runs : (b w l : List ℤ) → Judgement
with_runs b w l = judged kiln (three_runs b w l) []

-- 1: a byte short, a byte too many, the version (byte 532), a run too short
not_whole : judged (take 539 kiln) kiln_runs [] ∷ judged (kiln ++ (0 ∷ [])) kiln_runs [] ∷ judged (set kiln 532 3) kiln_runs []
    ∷ with_runs kiln_base (take 5 kiln_wider) kiln_local ∷ []
    ≡ Err BadFile ∷ Err BadFile ∷ Err BadFile ∷ Err BadFile ∷ []
unfolding opened
not_whole = refl

-- 2: reference row 4 of 3 (byte 48)
reference : judged (set kiln 48 4) kiln_runs [] ≡ Err BadSetting
unfolding opened
reference = refl

-- 3: row 3 has row 1's name, although a lookup would answer; a space inside a name (byte 89 is in the second name)
repeated : with_tables (node_of "NODA" 0 ∷ node_of "NODB" 30000 ∷ node_of "NODA" 120000 ∷ []) kiln_circuits kiln_stations ≡ Err (BadNode 3)
unfolding opened
repeated = refl

spaced : judged (set kiln 89 32) kiln_runs [] ≡ Err (BadNode 2)
unfolding opened
spaced = refl

-- 3, "Lowest row first": a repeated name in row 2 before an empty one in row 3, and an empty one in row 2 before a repeated one in row 3
repeat_first : with_tables (node_of "NODA" 0 ∷ node_of "NODA" 30000 ∷ node_of "" 120000 ∷ []) kiln_circuits kiln_stations ≡ Err (BadNode 2)
unfolding opened
repeat_first = refl

malformed_first : with_tables (node_of "NODA" 0 ∷ node_of "" 30000 ∷ node_of "NODA" 120000 ∷ []) kiln_circuits kiln_stations ≡ Err (BadNode 2)
unfolding opened
malformed_first = refl

-- 4: an unknown end
unknown_end : with_tables kiln_nodes (circuit_of "NODA" "NODB" 100 10000 ∷ circuit_of "NODB" "NODX" 100 20000 ∷ circuit_of "NODA" "NODC" 200 34000 ∷ []) kiln_stations
    ≡ Err (BadCircuit 2)
unfolding opened
unknown_end = refl

-- 5: an identifier seen earlier
same_station : with_tables kiln_nodes kiln_circuits (station_of "GEN_1" "NODA" 200000 ∷ station_of "GEN_1" "NODB" 100000 ∷ []) ≡ Err (BadStation 2)
unfolding opened
same_station = refl

-- 6: no circuit ends at NODB
apart : with_tables kiln_nodes (circuit_of "NODA" "NODC" 100 10000 ∷ circuit_of "NODA" "NODC" 100 20000 ∷ circuit_of "NODA" "NODC" 200 34000 ∷ []) kiln_stations
    ≡ Err (Unreached 2)
unfolding opened
apart = refl

-- 7: TEC below demand
small : with_tables kiln_nodes kiln_circuits (station_of "GEN_1" "NODA" 100000 ∷ station_of "GEN_2" "NODB" 49999 ∷ []) ≡ Err BadTotal
unfolding opened
small = refl

-- 8: a flow out of range in the local run
wild : with_runs kiln_base kiln_wider (set kiln_local 4 (neg_ℤ (pos 100000000000001))) ≡ Err (BadNumber Local 5)
unfolding opened
wild = refl

-- 9: one milliwatt more on A-B
leak : with_runs (set kiln_base 3 (pos 45000000001)) kiln_wider kiln_local ≡ Err (Unbalanced (Base YearRound) 1)
unfolding opened
leak = refl

-- as the program prints it: the local flow of circuit 3 is -1 there (bytes 468 to 475), which breaks NODA's balance
printed_refusal : prints (take 468 kiln ++ (replicate 8 255 ++ drop 476 kiln)) [] ≡ text "refused 9 3 1\n"
unfolding opened
printed_refusal = refl
