-- What is seen of the stations in edition 1: two grids with the same settings, nodes and circuits, whose nodes weigh and pay the same, are judged alike and have one sheet.
use mathlib.Core.Path.{◌≡◌, refl, sym, ◌∙◌, ap, ap₂, subst, fun_ext}
use mathlib.Core.List.{List}
use Prim.Native.Nat.{ℕ, suc, ◌<◌}
use native.Mathlib.Decide.{dec_lt}
use native.Mathlib.Omega.{arith}
use lib.IntN.{pos, ◌-ℤ◌, ◌*ℤ◌}
use lib.ListN.{length}
use Rattle.integers.specs.Numbers.{sum}
use Rattle.integers.proofs.Sum.{sum_same}
use Rattle.meaning.specs.Study.{Kw, Node, Circuit, Study, Runs}
use Rattle.meaning.specs.File.{study_of}
use Rattle.meaning.specs.declared.Edition.{Edition}
use Rattle.meaning.specs.declared.Edition.TheVariants.{First, Second}
use Rattle.meaning.specs.declared.Background.{Background}
use Rattle.meaning.specs.declared.Background.TheVariants.{YearRound, Peak}
use Rattle.meaning.specs.Grid.{Grid, grid_of, pays_in, node_tec, paying_tec, node_demand, total_demand, over_types, sound_totals, totals_stage, chargeable_stage}
use Rattle.meaning.specs.Generation.{generation, net, scaling_stage}
use Rattle.meaning.specs.Network.{network_of, reach_stage}
use Rattle.meaning.specs.Scaled.{scaled}
use Rattle.meaning.specs.Proposal.{system_stage}
use Rattle.meaning.specs.declared.Settings.{Settings}
use Rattle.meaning.specs.declared.System.{System}
use Rattle.meaning.specs.declared.System.TheVariants.{Base, Wider, Local}
use Rattle.meaning.specs.Systems.{limit_of, supply, counting, length_of, offset, proposed, solution_stage, counting_clear, counting_stage, direction_clear, direction_stage, ordered, proposals_stage}
use Rattle.meaning.specs.Answers.{Judgement}
use Rattle.meaning.specs.declared.Refusal.TheVariants.{BadTotal}
use Rattle.meaning.specs.Answers.{◌or_else◌, unless, in_second}
use Rattle.meaning.specs.Outcome.{grid_stage, judged, sheet_of, settle}
use Rattle.meaning.specs.declared.Side.{Side}
use Rattle.meaning.specs.declared.Side.TheVariants.{Generation, Demand}
use Rattle.meaning.proofs.Shared.{not_in_first, unshared, unshared_form, unshared_stage}
use Rattle.meaning.specs.Figures.{share_stage, zones, zone_of, weight, paying, paying_in, basis}
use Rattle.meaning.specs.Sheet.{side_of, shown_of, sheet}
use Rattle.meaning.specs.Demands.{SameTotals, PassesToFive, TypesHidden}
use Rattle.meaning.proofs.Plants.{types_past}
use Rattle.meaning.proofs.Generation.{first_generation}
use Rattle.meaning.proofs.Systems.{first≢second}
use Rattle.meaning.proofs.Present.{one_background}
use Rattle.meaning.proofs.Sheets.{SameSide, same_sheet}
use Rattle.meaning.proofs.Sides.{of_peak, Corresponds, zones_same, payers_same}
use Rattle.meaning.proofs.Bases.{Alike, C-same, priced_same, line_same, residual_alike, remainder_alike, zone_alike}
use Rattle.claims.proofs.HiddenStations.{after_five, judged_after, answered, settled_answer}
use Rattle.claims.proofs.Interconnectors.{all_but_interconnectors_pay}

module _ (s : Settings) (first : s.edition ≡ First) (ns : List Node) (cs : List Circuit) (k k' : List (List Kw)) where
  abbrev G : Grid
  G = record { settings = s; nodes = ns; circuits = cs; capacity = k }

  abbrev G' : Grid
  G' = record { settings = s; nodes = ns; circuits = cs; capacity = k' }

  module _ (weigh : (v : ℕ) → v < length ns → node_tec G v ≡ node_tec G' v) (pay : (v : ℕ) → v < length ns → paying_tec G v ≡ paying_tec G' v) (runs : Runs) (share : List ℕ) where
    abbrev own : Side → Side
    own side = side

    weights : (side : Side) (v : ℕ) → v < length ns → weight G side v ≡ weight G' side v
    unfolding weight
    weights Generation v h = weigh v h
    weights Demand v h = refl

    payers : (side : Side) (v : ℕ) → v < length ns → paying G side v ≡ paying G' side v
    unfolding paying
    payers Generation v h = pay v h
    payers Demand v h = refl

    payers_in_lem : (side : Side) (v : ℕ) → v < length ns → paying_in G YearRound side v ≡ paying_in G' YearRound side v
    unfolding paying_in pays_in
    payers_in_lem Generation v h = pay v h
    payers_in_lem Demand v h = refl

    -- steps 7, 8 and 10: each side has what it had
    alike : Corresponds own YearRound G' G runs runs
    unfolding zones zone_of
    alike = record {
      node_count = refl;
      zone_counts = λ side. refl;
      zones_of = λ side v h. refl;
      weights = weights;
      payers = payers;
      payers_in = payers_in_lem;
      distances = λ side v h. refl;
    }

    sides : (b : Background) → b ≡ YearRound → (side : Side) → (basis G runs).side b side ≡ (basis G' runs).side b side
    sides b e side = subst (λ (b : Background). (basis G runs).side b side ≡ (basis G' runs).side b side) (sym e) (zones_same own YearRound G' G runs runs alike side)

    bases : Alike (basis G runs) (basis G' runs)
    unfolding basis
    bases = record {
      settings = refl;
      side = λ b h. sides b (one_background first b h);
      payers = payers_same own YearRound G' G runs runs alike;
      nodes = refl;
      tec = weigh;
      paying = pay;
      local = λ v h. refl;
    }

    of_side : (side : Side) → SameSide (side_of G runs share side) (side_of G' runs share side)
    unfolding zones
    of_side side =
        let p = priced_same bases (unshared G share (not_in_first share first) ∙ sym (unshared G' share (not_in_first share first))) side in
        record { form = unshared_form G share (not_in_first share first) side ∙ sym (unshared_form G' share (not_in_first share first) side); zones = refl; residual = residual_alike p; remainder = remainder_alike p; zone = λ k h. zone_alike p (suc k) }

    pub one_sheet : sheet G runs share ≡ sheet G' runs share
    unfolding sheet basis
    one_sheet =
        same_sheet (shown_of G runs share) (shown_of G' runs share)
        (record {
          edition = refl;
          c = C-same bases YearRound tt;
          peak_c = of_peak {e = s.edition} (pos 0) refl (C-same bases Peak);
          side = of_side;
          nodes = refl;
          name = λ v h. refl;
          local = line_same bases;
        })

  -- ---- 6, 7, 13, and 8 to 11; 14 and 15 are of edition 2 alone
  module _ (weigh : node_tec G ≡ node_tec G') (pay : (v : ℕ) → v < length ns → paying_tec G v ≡ paying_tec G' v) (runs : Runs) (share : List ℕ) where
    networks : network_of G ≡ network_of G'
    unfolding network_of
    networks = refl

    supplies : (system : System) → supply G system ≡ supply G' system
    unfolding supply net
    supplies (Base b) = fun_ext (λ v. ap (λ (kw : ℕ). pos 1000000 *ℤ (pos kw -ℤ pos (node_demand G v))) (runs_same v))
      where
        runs_same : (v : ℕ) → generation G b v ≡ generation G' b v
        runs_same v =
            first_generation G first b v
            ∙ ap (λ (tec : ℕ → Kw). scaled (length ns) tec (total_demand G) v) weigh
            ∙ sym (first_generation G' first b v)
    supplies (Wider b) = refl
    supplies Local = refl

    offsets : (system : System) → offset G runs system ≡ offset G' runs system
    unfolding offset length_of network_of counting
    offsets (Base b) = refl
    offsets (Wider b) = refl
    offsets Local = refl

    solutions : (system : System) → solution_stage G runs system ≡ solution_stage G' runs system
    unfolding proposed
    solutions system =
        ap₂ system_stage networks
        (λ i. record { system = system; limit = limit_of system; supply = supplies system i; offset = offsets system i; run = runs system })

    directions : direction_stage G runs ≡ direction_stage G' runs
    unfolding direction_stage direction_clear network_of counting
    directions = refl

    countings : counting_stage G runs ≡ counting_stage G' runs
    unfolding counting_stage counting_clear network_of counting
    countings = refl

    scalings : scaling_stage G ≡ scaling_stage G'
    unfolding scaling_stage in_second
    scalings = go s.edition first _ _
      where
        go : (e : Edition) → e ≡ First → (j j' : Judgement) → in_second e j ≡ in_second e j'
        go First h j j' = refl
        go Second h j j' = absurd (first≢second (sym h))

    totals : totals_stage G ≡ totals_stage G'
    unfolding totals_stage
    totals = ap (λ (f : ℕ → Kw). unless (sound_totals (total_demand G) (sum (length ns) f)) BadTotal) weigh

    chargeable : chargeable_stage G ≡ chargeable_stage G'
    unfolding chargeable_stage
    chargeable = rw (sum_same (length ns) _ _ pay) refl

    sharings : share_stage G share ≡ share_stage G' share
    sharings = unshared_stage G share (not_in_first share first) ∙ sym (unshared_stage G' share (not_in_first share first))

    pub one_judgement : after_five G runs share ≡ after_five G' runs share
    unfolding grid_stage proposals_stage
    one_judgement =
        ap₂ ◌or_else◌ (ap₂ ◌or_else◌ (ap reach_stage networks) (ap₂ ◌or_else◌ totals (ap₂ ◌or_else◌ chargeable scalings)))
        (ap₂ ◌or_else◌ sharings (λ i. ordered s.edition (λ system. solutions system i) (countings i) (directions i)))

module _ (S S' : Study) (h : SameTotals S S') where
  lengths : length S.nodes ≡ length S'.nodes
  lengths = ap (λ (ns : List Node). length ns) h.nodes

  pays_same : (v : ℕ) → v < length S.nodes → paying_tec (grid_of S) v ≡ paying_tec (grid_of S') v
  pays_same v l =
      omega (arith, (all_but_interconnectors_pay S v l).pay, (all_but_interconnectors_pay S' v (omega (arith, lengths))).pay, h.tec v l, h.interconnectors v l)

  weighs_same : (v : ℕ) → node_tec (grid_of S) v ≡ node_tec (grid_of S') v
  weighs_same v = go (dec_lt v (length S.nodes))
    where
      go : Dec (v < length S.nodes) → node_tec (grid_of S) v ≡ node_tec (grid_of S') v
      go (yes l) = h.tec v l
      go (no l) = types_past S _ (λ plant. refl) v (omega arith) ∙ sym (types_past S' _ (λ plant. refl) v (omega (arith, lengths)))

  -- the first study's grid with the second one's capacities
  abbrev between : Grid
  between = record { settings = S.settings; nodes = S.nodes; circuits = S.circuits; capacity = (grid_of S').capacity }

  to_second : between ≡ grid_of S'
  unfolding grid_of
  to_second = λ i. record { settings = h.settings i; nodes = h.nodes i; circuits = h.circuits i; capacity = (grid_of S').capacity }

  one_sheet_of : (runs : Runs) (share : List ℕ) → sheet (grid_of S) runs share ≡ sheet (grid_of S') runs share
  unfolding grid_of over_types
  one_sheet_of runs share =
      one_sheet S.settings h.edition S.nodes S.circuits (grid_of S).capacity (grid_of S').capacity h.tec pays_same runs share
      ∙ ap (λ (G : Grid). sheet G runs share) to_second

  one_judgement_of : (runs : Runs) (share : List ℕ) → after_five (grid_of S) runs share ≡ after_five (grid_of S') runs share
  unfolding grid_of over_types
  one_judgement_of runs share =
      one_judgement S.settings h.edition S.nodes S.circuits (grid_of S).capacity (grid_of S').capacity (λ i v. weighs_same v i) pays_same runs share
      ∙ ap (λ (G : Grid). after_five G runs share) to_second

pub types_hidden : TypesHidden
types_hidden file file' runs h = record { sheets = sheets; answers = answers }
  where
    sheets : (share : List ℕ) → sheet_of file runs share ≡ sheet_of file' runs share
    sheets = one_sheet_of (study_of file) (study_of file') h runs

    answers : PassesToFive file runs → PassesToFive file' runs → (share buffer buffer' : List ℕ) → length buffer ≡ length buffer'
        → (settle file runs share buffer).answer ≡ (settle file' runs share buffer').answer
    answers p p' share buffer buffer' long =
        let judgements = judged_after file runs share p ∙ one_judgement_of (study_of file) (study_of file') h runs share ∙ sym (judged_after file' runs share p') in
        settled_answer file runs share buffer
        ∙ ap₂ (λ (j : Judgement) (text : List ℕ). answered j (length text) (length buffer)) judgements (sheets share)
        ∙ ap (λ (n : ℕ). answered (judged file' runs share) (length (sheet_of file' runs share)) n) long
        ∙ sym (settled_answer file' runs share buffer')
