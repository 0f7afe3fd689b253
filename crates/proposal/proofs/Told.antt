-- Columns that are a grid's: with them supply, heading, offset and direction are those of the definitions.
use mathlib.Core.Path.{◌≡◌, refl, sym, ◌∙◌, ap, subst}
use mathlib.Core.Bool.{Bool, true, false, not, ◌||◌}
use mathlib.Core.List.{List}
use mathlib.Core.Option.{Option, some}
use Prim.Native.Nat.{ℕ, suc, ◌+◌, ◌-◌, ◌≤◌, ◌<◌}
use native.Mathlib.Decide.{dec_lt}
use native.Mathlib.Omega.{arith}
use lib.Dec.{leb}
use lib.IntN.{ℤ, pos}
use lib.ListN.{length, get_or, get_or-replicate}
use Rattle.meaning.specs.declared.Background.{Background}
use Rattle.meaning.specs.declared.Background.TheVariants.{YearRound, Peak}
use Rattle.meaning.specs.declared.Edition.{Edition}
use Rattle.meaning.specs.declared.Edition.TheVariants.{First, Second}
use Rattle.meaning.specs.declared.System.{System}
use Rattle.meaning.specs.declared.System.TheVariants.{Base, Wider, Local}
use Rattle.meaning.specs.Answers.{Judgement}
use Rattle.std.specs.Prelude.{Ok, Err}
use Rattle.meaning.specs.declared.Refusal.{Refusal}
use Rattle.meaning.specs.declared.Refusal.TheVariants.{DirectionInDoubt, BackgroundInDoubt}
use Rattle.meaning.specs.Answers.{◌or_else◌, at, in_second}
use Rattle.meaning.specs.Rows.{rows, failing}
use Rattle.meaning.specs.Editions.{Of, HasSystem}
use Rattle.meaning.specs.Study.{Runs, circuit}
use Rattle.meaning.specs.Grid.{Grid}
use Rattle.meaning.specs.Network.{network_of}
use Rattle.meaning.specs.Direction.{direction, in_doubt, counts_for, is_doubtful, background, expanded_length, has_length, signed_length}
use Rattle.meaning.specs.Systems.{supply, base_flow, counting, background_of, length_of, offset, proposed, solution_stage, counting_clear, counting_stage, direction_clear, direction_stage, in_order, ordered, proposals_stage}
use Rattle.meaning.proofs.Answers.{or_else_none, or_else_assoc}
use Rattle.meaning.proofs.Rows.{Lowest, nothing, first, lowest_is, lowest_none, lowest_same, lowest_stops, rows_at}
use Rattle.meaning.proofs.Networks.{SameNetwork, system_same}
use Rattle.numbers.specs.declared.Heading.{Heading}
use Rattle.numbers.specs.Numbers.{by_background, no_heading, heading_by, decided_in, clear_in, decided_by, clear_by}
use Rattle.numbers.proofs.Found.{row_stops}
use Rattle.flows.specs.declared.Case.{Case}
use Rattle.flows.specs.Flows.{number, circuits_in, net_in, signed_by, wider_in, offset_in, headings_in, offset_at}
use Rattle.flows.proofs.Signed.{signed_is, headings_at, headings_past}
use Rattle.meaning.specs.Columns.{number_at, network_in}
use Rattle.supply.specs.Supply.{supply_in}
use Rattle.proposal.specs.Case.{offered_in, solution_in, backgrounds_in, directions_in, proposals_in}

-- number i of a column made row by row
pub of_rows : {A : Type 0} (none : A) (size count : ℕ) (f : ℕ → A) (column : List A) → count ≤ size → column ≡ rows size f → (i : ℕ) → i < count → get_or column i none ≡ f i
of_rows none size count f column h e i k = ap (λ (l : List _). get_or l i none) e ∙ rows_at none size f i (omega arith)

-- the columns of a grid: its network, as every run of its length has it, and what is said of its circuits and nodes besides
pub record Told (G : Grid) (k : Case) : Type 0 where
  pub edition : k.edition ≡ G.settings.edition
  pub network : SameNetwork (network_in k.nodes (length G.circuits) k.reference k.first k.second k.x) (network_of G)
  pub lengths : (c : ℕ) → c < length G.circuits → number_at k.length c ≡ expanded_length G.settings (circuit G.circuits c)
  pub short : (c : ℕ) → c < length G.circuits → expanded_length G.settings (circuit G.circuits c) ≤ 30000000000
  pub some : (c : ℕ) → c < length G.circuits → leb 1 (expanded_length G.settings (circuit G.circuits c)) ≡ has_length (circuit G.circuits c)
  pub marks : (c : ℕ) → c < length G.circuits → number_at k.mark c ≡ (circuit G.circuits c).local_mark
  pub supply : (b : Background) → Of b G.settings.edition → (v : ℕ) → v < k.nodes → number (by_background k.supply k.peak_supply b) v ≡ supply G (Base b) v

-- ---- a search that finds nothing past the last circuit, and a cause that is said of the row that was found
fewer_rows : (test : ℕ → Bool) (n more : ℕ) → n ≤ more → ((i : ℕ) → n ≤ i → i < more → test i ≡ true) → failing test more ≡ failing test n
fewer_rows test n more h past = go (failing test n) (lowest_is (λ i. not (test i)) n)
  where
    go : (o : Option ℕ) → Lowest (λ i. not (test i)) n o → failing test more ≡ o
    go o (nothing g) = lowest_none (λ i. not (test i)) more (λ i l. each i l (dec_lt i n))
      where
        each : (i : ℕ) → i < more → Dec (i < n) → not (test i) ≡ not true
        each i l (yes k) = g i k
        each i l (no k) = ap not (past i (omega arith) l)
    go o (first i k t g) = lowest_stops (λ i. not (test i)) more i (omega arith) t g

cause_same : (test : ℕ → Bool) (n : ℕ) (cause cause' : ℕ → Refusal) → ((i : ℕ) → i < n → cause (suc i) ≡ cause' (suc i)) → at (failing test n) cause ≡ at (failing test n) cause'
unfolding at
cause_same test n cause cause' h = go (failing test n) (lowest_is (λ i. not (test i)) n)
  where
    go : (o : Option ℕ) → Lowest (λ i. not (test i)) n o → at o cause ≡ at o cause'
    go o (nothing g) = refl
    go o (first i k t g) = ap Err (h i k)

-- a row that was found, with the background that its circuit counts for
pub row_told : (test : ℕ → Bool) (n row : ℕ) (headings : List Heading) (b : Background) → b ≡ background (get_or headings row no_heading).counting → failing test n ≡ some row
    → Err (DirectionInDoubt b (row + 1)) ≡ at (failing test n) (λ row. DirectionInDoubt (background (get_or headings (row - 1) no_heading).counting) row)
row_told test n row headings b e f =
    ap (λ b. Err (DirectionInDoubt b (row + 1))) (e ∙ ap (λ r. background (get_or headings r no_heading).counting) back)
    ∙ row_stops test n row (λ row. DirectionInDoubt (background (get_or headings (row - 1) no_heading).counting) row) f
  where
    back : row ≡ row + 1 - 1
    back = omega arith

-- ---- what is judged of the systems of an edition
module _ (e : Edition) (j : Judgement) where
  pub first_alone : e ≡ First → Ok tt ≡ in_second e j
  unfolding in_second
  first_alone h = rw h refl

  pub second_too : e ≡ Second → j ≡ in_second e j
  unfolding in_second
  second_too h = rw h refl

pub of_peak : {e : Edition} → e ≡ Second → Of Peak e
of_peak h = subst (λ (e : Edition). Of Peak e) (sym h) tt

-- the edition's order as code goes along it: a stage of peak's is there in edition 1 too, and passes
pub one_by_one : (e : Edition) (solution : System → Judgement) (backgrounds directions : Judgement)
    → solution (Base YearRound) or_else in_second e (solution (Base Peak)) or_else backgrounds or_else directions
    or_else solution (Wider YearRound) or_else in_second e (solution (Wider Peak)) or_else solution Local
    ≡ ordered e solution backgrounds directions
unfolding ordered in_order ◌or_else◌ in_second
one_by_one First solution backgrounds directions = simp or_else_none
one_by_one Second solution backgrounds directions = simp (or_else_assoc, or_else_none)

ordered_same : (e : Edition) (solution solution' : System → Judgement) (a b directions directions' : Judgement)
    → ((s : System) → HasSystem e s → solution s ≡ solution' s) → a ≡ b → directions ≡ directions'
    → ordered e solution a directions ≡ ordered e solution' b directions'
unfolding ordered in_order
ordered_same First solution solution' a b directions directions' h e f =
    rw (h (Base YearRound) tt, h (Wider YearRound) tt, h Local tt, e, f) refl
ordered_same Second solution solution' a b directions directions' h e f =
    rw (h (Base YearRound) tt, h (Base Peak) tt, h (Wider YearRound) tt, h (Wider Peak) tt, h Local tt, e, f) refl

background_is : (f : Background → ℤ) (b : Background) → by_background (f YearRound) (f Peak) b ≡ f b
background_is f YearRound = refl
background_is f Peak = refl

-- ---- what the columns say is the grid's
module _ (G : Grid) (k : Case) (t : Told G k) (few : k.nodes ≤ 256) (fewer : length G.circuits ≤ 512) (runs : Runs)
    (m : (s : System) → HasSystem G.settings.edition s → circuits_in k.nodes (length (runs s)) ≡ length G.circuits) where
  abbrev headings : List Heading
  headings = headings_in k (runs (Base YearRound)) (runs (Base Peak))

  abbrev own : ℕ → Heading
  own c = heading_by G.settings.edition (circuit G.circuits c).local_mark (base_flow G runs YearRound c) (base_flow G runs Peak c)

  heading_told : (c : ℕ) → c < length G.circuits → get_or headings c no_heading ≡ own c
  unfolding network_of
  heading_told c h =
      headings_at k.edition k.nodes k.mark (runs (Base YearRound)) (runs (Base Peak)) c (omega (arith, m (Base YearRound) tt))
      ∙ rw (t.edition, t.marks c h, t.network.ends.nodes) refl

  counting_told : (c : ℕ) → c < length G.circuits → (get_or headings c no_heading).counting ≡ counting G runs c
  unfolding heading_by counting
  counting_told c h = ap (λ (w : Heading). w.counting) (heading_told c h)

  flow_told : (c : ℕ) → c < length G.circuits → (get_or headings c no_heading).flow ≡ base_flow G runs (background_of G runs c) c
  unfolding heading_by counting
  flow_told c h = ap (λ (w : Heading). w.flow) (heading_told c h) ∙ background_is (λ b. base_flow G runs b c) (background_of G runs c)

  supply_told : (system : System) → HasSystem G.settings.edition system → (v : ℕ) → v < k.nodes
      → number (supply_in system k.supply k.peak_supply) v ≡ supply G system v
  unfolding supply_in supply
  supply_told (Base YearRound) i v h = t.supply YearRound i v h
  supply_told (Base Peak) i v h = t.supply Peak i v h
  supply_told (Wider b) i v h = get_or-replicate 256 v (pos 0) (pos 0) (omega arith)
  supply_told Local i v h = get_or-replicate 256 v (pos 0) (pos 0) (omega arith)

  length_told_lem : (c : ℕ) → c < length G.circuits → signed_by (number_at k.length c) (get_or headings c no_heading).flow ≡ length_of G runs c
  unfolding length_of signed_length
  length_told_lem c h = rw (t.lengths c h, flow_told c h) (signed_is _ _ (t.short c h))

  offset_told : (system : System) (c : ℕ) → c < length G.circuits → offset_at system k.length k.mark headings c ≡ offset G runs system c
  unfolding offset_in wider_in offset
  offset_told (Base b) c h = refl
  offset_told (Wider b) c h = rw (t.marks c h, length_told_lem c h, counting_told c h) refl
  offset_told Local c h = rw (t.marks c h, length_told_lem c h) refl

  -- 8 to 10 of a system
  solution_told : (system : System) → HasSystem G.settings.edition system → solution_in system k headings (runs system) ≡ solution_stage G runs system
  unfolding proposed
  solution_told system i = system_same (net_in k (runs system)) (network_of G) (offered_in system k headings (runs system)) (proposed G runs system) (rw (m system i) t.network) (record {
    system = refl;
    limit = refl;
    run = refl;
    offset = λ c h. offset_told system c (omega (arith, m system i));
    supply = λ v h. supply_told system i v h;
  })

  -- past the last circuit nothing is in doubt
  no_heading_lem : (c : ℕ) → length G.circuits ≤ c → c < 512 → get_or headings c no_heading ≡ no_heading
  no_heading_lem c h l = headings_past k.edition k.nodes k.mark (runs (Base YearRound)) (runs (Base Peak)) c (omega (arith, m (Base YearRound) tt)) l

  not_or_true : (b : Bool) → (not b || true) ≡ true
  not_or_true true = refl
  not_or_true false = refl

  -- 15
  decided_past : (c : ℕ) → length G.circuits ≤ c → c < 512 → decided_by k.length headings c ≡ true
  unfolding decided_in is_doubtful
  decided_past c h l = rw (no_heading_lem c h l) (not_or_true (leb 1 (get_or k.length c 0)))

  decided_same : (c : ℕ) → c < length G.circuits → decided_by k.length headings c ≡ counting_clear G runs c
  unfolding decided_in counting_clear
  decided_same c h = rw (t.lengths c h, t.some c h, counting_told c h) refl

  backgrounds_in_lem : backgrounds_in k.length headings ≡ at (failing (counting_clear G runs) (length G.circuits)) BackgroundInDoubt
  backgrounds_in_lem =
      ap (λ o. at o BackgroundInDoubt)
      (fewer_rows (decided_by k.length headings) (length G.circuits) 512 fewer decided_past
      ∙ lowest_same (λ c. not (decided_by k.length headings c)) (λ c. not (counting_clear G runs c)) (length G.circuits) (λ c h. ap not (decided_same c h)))

  -- 11
  clear_past : (c : ℕ) → length G.circuits ≤ c → c < 512 → clear_by k.length headings c ≡ true
  unfolding clear_in direction in_doubt
  clear_past c h l = rw (no_heading_lem c h l) (not_or_true (leb 1 (get_or k.length c 0)))

  clear_same : (c : ℕ) → c < length G.circuits → clear_by k.length headings c ≡ direction_clear G runs c
  unfolding clear_in direction_clear
  clear_same c h = rw (t.lengths c h, t.some c h, flow_told c h) refl

  directions_told : directions_in k.length headings ≡ direction_stage G runs
  unfolding direction_stage
  directions_told =
      ap (λ o. at o (λ row. DirectionInDoubt (background (get_or headings (row - 1) no_heading).counting) row))
      (fewer_rows (clear_by k.length headings) (length G.circuits) 512 fewer clear_past
      ∙ lowest_same (λ c. not (clear_by k.length headings c)) (λ c. not (direction_clear G runs c)) (length G.circuits) (λ c h. ap not (clear_same c h)))
      ∙ cause_same (direction_clear G runs) (length G.circuits) _ _ (λ i h. rw (before i) (ap (λ n. DirectionInDoubt (background n) (suc i)) (counting_told i h)))
    where
      before : (i : ℕ) → suc i - 1 ≡ i
      before i = omega arith

  -- in edition 1 no background is in doubt
  first_decided : G.settings.edition ≡ First → (c : ℕ) → counting_clear G runs c ≡ true
  unfolding counting_clear counting counts_for is_doubtful
  first_decided e c = rw e (not_or_true (has_length (circuit G.circuits c)))

  backgrounds_told : backgrounds_in k.length headings ≡ counting_stage G runs
  unfolding counting_stage at in_second
  backgrounds_told = backgrounds_in_lem ∙ go G.settings.edition refl
    where
      j : Judgement
      j = at (failing (counting_clear G runs) (length G.circuits)) BackgroundInDoubt

      none_found : G.settings.edition ≡ First → j ≡ Ok tt
      none_found e = ap (λ o. at o BackgroundInDoubt) (lowest_none (λ c. not (counting_clear G runs c)) (length G.circuits) (λ c h. ap not (first_decided e c)))

      go : (e : Edition) → G.settings.edition ≡ e → j ≡ in_second e j
      go First e = none_found e
      go Second e = refl

  -- the whole order
  pub proposals_told : proposals_in k runs ≡ proposals_stage G runs
  unfolding proposals_stage
  proposals_told =
      ap (λ e. ordered e (λ s. solution_in s k headings (runs s)) (backgrounds_in k.length headings) (directions_in k.length headings)) t.edition
      ∙ ordered_same G.settings.edition _ _ _ _ _ _ solution_told backgrounds_told directions_told
