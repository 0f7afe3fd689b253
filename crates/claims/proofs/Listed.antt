-- What stops a case carries its own row of 01's table, with its row in range.
use mathlib.Core.Path.{◌≡◌, refl, sym, ◌∙◌, subst}
use mathlib.Core.Logic.{◌⊎◌, inl, inr, ◌≢◌}
use mathlib.Core.List.{List, [], ◌∷◌, ◌++◌, Memᴰ}
use mathlib.Core.Bool.{false, true≢false}
use Prim.Native.Nat.{ℕ, suc, ◌+◌, ◌-◌, ◌≤◌, ◌<◌}
use lib.Dec.{eqb}
use lib.IntN.{ℤ}
use lib.ListN.{length}
use native.Mathlib.Omega.{arith}
use Rattle.meaning.specs.Study.{Runs, circuit}
use Rattle.meaning.specs.Editions.{Of, system_number, HasSystem, flow_systems, distance_systems}
use Rattle.meaning.specs.File.{study_of}
use Rattle.meaning.specs.declared.Edition.{Edition}
use Rattle.meaning.specs.declared.Edition.TheVariants.{First, Second}
use Rattle.meaning.specs.declared.Background.{Background}
use Rattle.meaning.specs.declared.Background.TheVariants.{YearRound, Peak}
use Rattle.meaning.specs.declared.System.{System}
use Rattle.meaning.specs.declared.System.TheVariants.{Base, Wider, Local}
use Rattle.meaning.specs.declared.Refusal.{Refusal}
use Rattle.meaning.specs.Answers.{refusal, values}
use Rattle.meaning.specs.declared.Refusal.TheVariants.{BadNumber, Unbalanced, MissesTooHigh, DirectionInDoubt, ShortBuffer}
use Rattle.std.specs.Prelude.{Err}
use Rattle.meaning.specs.Outcome.{sheet_of}
use Rattle.meaning.proofs.Says.{says_eq}
use Rattle.meaning.proofs.Order.{first_of_two}
use Rattle.meaning.proofs.Systems.{has_flow, has_distance}
use Rattle.meaning.specs.Grid.{Grid, grid_of}
use Rattle.meaning.specs.Direction.{counts_for, background}
use Rattle.meaning.specs.Systems.{base_flow, counting, background_of}
use Rattle.meaning.specs.Figures.{zones}
use Rattle.meaning.specs.Conditions.{InRange}
use Rattle.meaning.specs.Refusals.{Condition, whole, each_row, Unmet, AllMet, FirstUnmet, only_second, only_of, scaling_order, share_order, systems_order, proposals_order, case_order, Stopped}
use Rattle.meaning.specs.Demands.{SystemListed, base, wider, local, peak_base, peak_wider, bad_file, bad_setting, bad_node, bad_circuit, bad_station, unreached, bad_total, no_chargeable_tec, bad_number, unbalanced, misses_too_high, in_doubt, short_buffer, unscalable, background_in_doubt, bad_share, ListedFor}

-- row i is printed as row i + 1
in_rows : {i n : ℕ} → i < n → InRange (suc i) 1 n
in_rows h = record { least = omega arith; most = omega arith }

-- peak is of edition 2 alone
has_peak : (e : Edition) → Of Peak e → e ≡ Second
has_peak First h = absurd h
has_peak Second h = refl

numbered : (e : Edition) (s : System) → HasSystem e s → SystemListed e s (system_number s)
unfolding system_number
numbered e (Base YearRound) h = base
numbered e (Wider YearRound) h = wider
numbered e Local h = local
numbered e (Base Peak) h = peak_base (has_peak e h)
numbered e (Wider Peak) h = peak_wider (has_peak e h)

-- a circuit counts for a background of the edition
pub counts_in : (G : Grid) (runs : Runs) (c : ℕ) → Of (background_of G runs c) G.settings.edition
unfolding counting counts_for background
counts_in G runs c = go G.settings.edition (circuit G.circuits c).local_mark (base_flow G runs YearRound c) (base_flow G runs Peak c)
  where
    any : (b : Background) → Of b Second
    any YearRound = tt
    any Peak = tt

    go : (e : Edition) (local_mark : ℕ) (y p : ℤ) → Of (background (counts_for e local_mark y p)) e
    go First local_mark y p = tt
    go Second local_mark y p = any (background (counts_for Second local_mark y p))

-- what holds of each refusal that a list of conditions gives holds of the one that stops a case
module _ (P : Refusal → Type 0) where
  abbrev Each : Condition → Type 0
  Each (whole Holds r) = P r
  Each (each_row n Holds r) = (i : ℕ) → i < n → P (r (suc i))

  infixr 20 ◌and◌
  data All : List Condition → Type 1 where
    end : All []
    ◌and◌ : {c : Condition} {cs : List Condition} → Each c → All cs → All (c ∷ cs)

  -- of what edition 2 alone asks, and what comes after
  only : (e : Edition) (cs after : List Condition) → (e ≡ Second → All (cs ++ after)) → All after → All (only_second e cs ++ after)
  only First cs after f rest = rest
  only Second cs after f rest = f refl

  -- and of a share file that is there
  filed : (share : List ℕ) (cs after : List Condition) → All (cs ++ after) → All after → All (only_of share cs ++ after)
  filed [] cs after f rest = rest
  filed (b ∷ bs) cs after f rest = f

  of_unmet : (c : Condition) → Each c → (r : Refusal) → Unmet c r → P r
  of_unmet (whole Holds q) n r u = subst P (sym u.0) n
  of_unmet (each_row k Holds q) n r (i, e, u) = subst P (sym e) (n i u.within)

  of_first : (cs : List Condition) → All cs → (r : Refusal) → FirstUnmet cs r → P r
  of_first cs end r f = absurd f
  of_first cs (◌and◌ {c} n ns) r (inl u) = of_unmet c n r u
  of_first cs (◌and◌ {cs = ds} n ns) r (inr (m, f)) = of_first ds ns r f

-- what stops a case before 12 is a row of the table, and not row 12
module _ (file : List ℕ) (runs : Runs) (share : List ℕ) where
  abbrev Row : Refusal → Type 0
  Row r = ListedFor (study_of file) r × (eqb (values (Err r)).number 12 ≡ false)

  abbrev e : Edition
  e = (study_of file).settings.edition

  abbrev G : Grid
  G = grid_of (study_of file)

  number : (s : System) → HasSystem e s → (i : ℕ) → i < length (study_of file).nodes + length (study_of file).circuits → Row (BadNumber s (suc i))
  unfolding values refusal
  number s has i h = (bad_number s _ (suc i) (numbered e s has) (in_rows h), refl)

  balance : (s : System) → HasSystem e s → (i : ℕ) → i < length (study_of file).nodes → Row (Unbalanced s (suc i))
  unfolding values refusal
  balance s has i h = (unbalanced s _ (suc i) (numbered e s has) (in_rows h), refl)

  misses : (s : System) → HasSystem e s → Row (MissesTooHigh s)
  unfolding values refusal
  misses s has = (misses_too_high s _ (numbered e s has), refl)

  doubt : (i : ℕ) → i < length (study_of file).circuits → Row (DirectionInDoubt (background_of G runs (suc i - 1)) (suc i))
  unfolding values refusal grid_of
  doubt i h = (in_doubt _ _ (suc i) (numbered e (Base (background_of G runs (suc i - 1))) (counts_in G runs (suc i - 1))) (in_rows h), refl)

  -- 8, 9 and 10 of these systems of the edition, and what comes after
  systems_rows : (ss : List System) {after : List Condition} → ((s : System) → Memᴰ s ss → HasSystem e s) → All Row after → All Row (systems_order G runs ss after)
  unfolding grid_of
  systems_rows [] has rest = rest
  systems_rows (s ∷ ss) has rest =
      let h = has s (Memᴰ.head refl) in
      number s h and balance s h and misses s h and systems_rows ss (λ q i. has q (Memᴰ.tail i)) rest

  distance_rows : All Row (systems_order G runs (distance_systems e) [])
  distance_rows = systems_rows (distance_systems e) (has_distance e) end

  -- 15, which edition 2 alone asks, and 11
  proposals_rows : All Row (proposals_order G runs)
  unfolding grid_of values refusal
  proposals_rows =
      let after = doubt and distance_rows in
      systems_rows (flow_systems e) (has_flow e) (only Row e _ _ (λ second. (λ i h. (background_in_doubt (suc i) second (in_rows h), refl)) and after) after)

  -- 16, which edition 2 alone asks, of a file that is there
  share_rows : All Row (share_order G share ++ proposals_order G runs)
  unfolding grid_of values refusal zones
  share_rows = only Row e _ _ (λ second. filed Row share _ _ ((bad_share 0 second (omega arith), refl) and (λ i h. (bad_share (suc i) second h, refl)) and proposals_rows) proposals_rows) proposals_rows

  -- 14, which edition 2 alone asks
  scaling_rows : All Row (scaling_order G ++ (share_order G share ++ proposals_order G runs))
  unfolding grid_of values refusal
  scaling_rows = only Row e _ _ (λ second. (unscalable second, refl) and (unscalable second, refl) and share_rows) share_rows

  case_row : (r : Refusal) → FirstUnmet (case_order file runs share) r → Row r
  unfolding grid_of values refusal
  case_row = of_first Row (case_order file runs share)
      ((bad_file, refl) and (bad_setting, refl) and (λ i h. (bad_node (suc i) (in_rows h), refl)) and (λ i h. (bad_circuit (suc i) (in_rows h), refl))
      and (λ i h. (bad_station (suc i) (in_rows h), refl)) and (λ i h. (unreached (suc i) (in_rows h), refl)) and (bad_total, refl) and (no_chargeable_tec, refl)
      and scaling_rows)

  pub case_listed : (r : Refusal) → FirstUnmet (case_order file runs share) r → ListedFor (study_of file) r
  case_listed r f = (case_row r f).0

  pub case_number : (r : Refusal) → FirstUnmet (case_order file runs share) r → (values (Err r)).number ≢ 12
  case_number r f e = true≢false (sym (says_eq.1 e) ∙ (case_row r f).1)

  -- and 12 stands behind them
  pub stopped_listed : (buffer : List ℕ) (r : Refusal) → Stopped file runs share buffer r → ListedFor (study_of file) r
  unfolding values
  stopped_listed buffer r f = go ((first_of_two (case_order file runs share) (whole (length (sheet_of file runs share) ≤ length buffer) ShortBuffer ∷ []) r).0 f)
    where
      go : FirstUnmet (case_order file runs share) r ⊎ AllMet (case_order file runs share) × FirstUnmet (whole (length (sheet_of file runs share) ≤ length buffer) ShortBuffer ∷ []) r
          → ListedFor (study_of file) r
      go (inl g) = case_listed r g
      go (inr (m, inl (e, u))) = subst (ListedFor (study_of file)) (sym e) short_buffer
      go (inr (m, inr (u, g))) = absurd g
