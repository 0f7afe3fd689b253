-- A chain of stages judges a list of conditions: it passes exactly when all are met, and stops exactly where the first is not.
use mathlib.Core.Path.{◌≡◌, refl, sym, ◌∙◌, ap, subst}
use mathlib.Core.Logic.{◌⊎◌, inl, inr, ◌↔◌}
use mathlib.Core.List.{List, [], ◌∷◌, ◌++◌}
use mathlib.Core.Bool.{Bool, true, false, not, true≢false}
use mathlib.Core.Option.{Option}
use Prim.Native.Nat.{ℕ, suc}
use Rattle.meaning.specs.Rows.{failing}
use Rattle.meaning.specs.declared.Edition.{Edition}
use Rattle.meaning.specs.declared.Edition.TheVariants.{First, Second}
use Rattle.meaning.specs.declared.Refusal.{Refusal}
use Rattle.meaning.specs.Answers.{Judgement}
use Rattle.std.specs.Prelude.{Ok, Err}
use Rattle.meaning.specs.Answers.{◌or_else◌, unless, at, in_second}
use Rattle.meaning.specs.Refusals.{Condition, whole, each_row, only_second, Met, LowestUnmet, Unmet, AllMet, FirstUnmet}
use Rattle.meaning.proofs.Rows.{Lowest, nothing, first, lowest_is, lowest_stops}
use Rattle.meaning.proofs.Answers.{stops≢passes, stops_same, passes-rows, not_false}
use Rattle.meaning.proofs.Says.{Says, says_not}

pub record Judges (j : Judgement) (cs : List Condition) : Type 0 where
  pub passes : (j ≡ Ok tt) ↔ AllMet cs
  pub stops : (r : Refusal) → (j ≡ Err r) ↔ FirstUnmet cs r

-- ---- the conditions of two lists
pub both_met : (cs ds : List Condition) → AllMet (cs ++ ds) ↔ AllMet cs × AllMet ds
both_met [] ds = (λ m. (tt, m), λ m. m.1)
both_met (c ∷ cs) ds =
    let h = both_met cs ds in
    (λ m. let t = h.0 m.1 in ((m.0, t.0), t.1), λ m. (m.0.0, h.1 (m.0.1, m.1)))

-- an alternative that stands behind something
behind : (U M F A D : Type 0) → (F ↔ A ⊎ D) → (U ⊎ M × F) ↔ (U ⊎ M × A) ⊎ M × D
behind U M F A D h = (there, back)
  where
    later : M → A ⊎ D → (U ⊎ M × A) ⊎ M × D
    later m (inl a) = inl (inr (m, a))
    later m (inr d) = inr (m, d)

    there : U ⊎ M × F → (U ⊎ M × A) ⊎ M × D
    there (inl u) = inl (inl u)
    there (inr (m, f)) = later m (h.0 f)

    back : (U ⊎ M × A) ⊎ M × D → U ⊎ M × F
    back (inl (inl u)) = inl u
    back (inl (inr (m, a))) = inr (m, h.1 (inl a))
    back (inr (m, d)) = inr (m, h.1 (inr d))

pub first_of_two : (cs ds : List Condition) (r : Refusal) → FirstUnmet (cs ++ ds) r ↔ FirstUnmet cs r ⊎ AllMet cs × FirstUnmet ds r
first_of_two [] ds r = (λ f. inr (tt, f), past)
  where
    past : ⊥ ⊎ Unit {0} × FirstUnmet ds r → FirstUnmet ds r
    past (inl f) = absurd f
    past (inr f) = f.1
first_of_two (c ∷ cs) ds r =
    let h = behind (Unmet c r) (Met c) (FirstUnmet (cs ++ ds) r) (FirstUnmet cs r) (AllMet cs × FirstUnmet ds r) (first_of_two cs ds r) in
    (λ f. there (h.0 f), λ f. h.1 (back f))
  where
    there : (Unmet c r ⊎ Met c × FirstUnmet cs r) ⊎ Met c × (AllMet cs × FirstUnmet ds r)
        → (Unmet c r ⊎ Met c × FirstUnmet cs r) ⊎ (Met c × AllMet cs) × FirstUnmet ds r
    there (inl f) = inl f
    there (inr (m, (n, f))) = inr ((m, n), f)

    back : (Unmet c r ⊎ Met c × FirstUnmet cs r) ⊎ (Met c × AllMet cs) × FirstUnmet ds r
        → (Unmet c r ⊎ Met c × FirstUnmet cs r) ⊎ Met c × (AllMet cs × FirstUnmet ds r)
    back (inl f) = inl f
    back (inr ((m, n), f)) = inr (m, (n, f))

-- ---- the three ways in which stages are made
-- one chain after another; the second may rest on what the first has asked
infixr 25 ◌before◌
pub ◌before◌ : {a b : Judgement} {cs ds : List Condition} → Judges a cs → (AllMet cs → Judges b ds) → Judges (a or_else b) (cs ++ ds)
unfolding ◌or_else◌
◌before◌ {a} {b} {cs} {ds} s t = go a s
  where
    go : (a : Judgement) → Judges a cs → Judges (a or_else b) (cs ++ ds)
    go (Ok _) s =
        let m = s.passes.0 refl in
        record {
          passes = (λ e. (both_met cs ds).1 (m, (t m).passes.0 e), λ n. (t m).passes.1 ((both_met cs ds).0 n).1);
          stops = λ r. (λ e. (first_of_two cs ds r).1 (inr (m, ((t m).stops r).0 e)), λ f. late r ((first_of_two cs ds r).0 f));
        }
      where
        late : (r : Refusal) → FirstUnmet cs r ⊎ AllMet cs × FirstUnmet ds r → b ≡ Err r
        late r (inl f) = absurd (stops≢passes (sym ((s.stops r).1 f)))
        late r (inr (m, f)) = ((t m).stops r).1 f
    go (Err q) s =
        record {
          passes = (λ e. absurd (stops≢passes e), λ n. absurd (stops≢passes (s.passes.1 ((both_met cs ds).0 n).0)));
          stops = λ r. (λ e. (first_of_two cs ds r).1 (inl ((s.stops r).0 e)), λ f. early r ((first_of_two cs ds r).0 f));
        }
      where
        early : (r : Refusal) → FirstUnmet cs r ⊎ AllMet cs × FirstUnmet ds r → ◌≡◌ {A = Judgement} (Err q) (Err r)
        early r (inl f) = (s.stops r).1 f
        early r (inr (m, f)) = absurd (stops≢passes (s.passes.1 m))

-- nothing is asked
pub judges_none : Judges (Ok tt) []
judges_none = record { passes = (λ e. tt, λ m. refl); stops = λ r. (λ e. absurd (stops≢passes (sym e)), λ f. absurd f) }

-- what edition 2 alone asks
pub judges_second : (e : Edition) {j : Judgement} {cs : List Condition} → Judges j cs → Judges (in_second e j) (only_second e cs)
unfolding in_second
judges_second First h = judges_none
judges_second Second h = h

-- a whole test
pub judges_whole : {b : Bool} {P : Type 0} (r : Refusal) → Says b P → Judges (unless b r) (whole P r ∷ [])
unfolding unless
judges_whole {b} {P} r s = go b s
  where
    go : (b : Bool) → Says b P → Judges (unless b r) (whole P r ∷ [])
    go true s =
        record {
          passes = (λ e. (s.0 refl, tt), λ m. refl);
          stops = λ q. (λ e. absurd (stops≢passes (sym e)), λ f. absurd (wrong f));
        }
      where
        wrong : {q : Refusal} → FirstUnmet (whole P r ∷ []) q → ⊥
        wrong (inl (e, f)) = f (s.0 refl)
        wrong (inr (m, f)) = f
    go false s =
        record {
          passes = (λ e. absurd (stops≢passes e), λ m. absurd (true≢false (sym (s.1 m.0))));
          stops = λ q. (λ e. inl (sym (stops_same e), λ p. true≢false (sym (s.1 p))), λ f. found f);
        }
      where
        found : {q : Refusal} → FirstUnmet (whole P r ∷ []) q → ◌≡◌ {A = Judgement} (Err r) (Err q)
        found (inl (e, f)) = ap Err (sym e)
        found (inr (m, f)) = absurd f

-- a test of each row
pub judges_rows : {test : ℕ → Bool} {P : ℕ → Type 0} (n : ℕ) (r : ℕ → Refusal) → ((i : ℕ) → Says (test i) (P i))
    → Judges (at (failing test n) r) (each_row n P r ∷ [])
unfolding at
judges_rows {test} {P} n r h =
    record {
      passes = let p = passes-rows n r h in (λ e. (p.0 e, tt), λ m. p.1 m.0);
      stops = λ q. (λ e. inl (there (failing test n) (lowest_is _ n) e), back);
    }
  where
    there : {q : Refusal} (o : Option ℕ) → Lowest (λ i. not (test i)) n o → at o r ≡ Err q → (i : ℕ) × (q ≡ r (suc i)) × LowestUnmet n P i
    there o (nothing f) e = absurd (stops≢passes (sym e))
    there o (first i k t f) e = (
      i,
      sym (stops_same e),
      record { within = k; unmet = (says_not (h i)).0 t; lower = λ j l. (h j).0 (not_false (test j) (f j l)) },
    )

    back : {q : Refusal} → FirstUnmet (each_row n P r ∷ []) q → at (failing test n) r ≡ Err q
    back (inl (i, e, u)) =
        ap (λ (o : Option ℕ). at o r)
        (lowest_stops _ n i u.within ((says_not (h i)).1 u.unmet) (λ j l. ap not ((h j).1 (u.lower j l))))
        ∙ ap Err (sym e)
    back (inr (m, f)) = absurd f

-- ---- `FirstUnmet` as a place in the order: all before it are met, and it is not
pub record Place (cs : List Condition) (r : Refusal) : Type 1 where
  pub front : List Condition
  pub condition : Condition
  pub after : List Condition
  pub split : cs ≡ front ++ (condition ∷ after)
  pub met : AllMet front
  pub unmet : Unmet condition r

pub first_unmet_is : (cs : List Condition) (r : Refusal) → FirstUnmet cs r ↔ Place cs r
first_unmet_is cs r = (there cs, back)
  where
    there : (cs : List Condition) → FirstUnmet cs r → Place cs r
    there [] f = absurd f
    there (c ∷ cs) (inl u) = record { front = []; condition = c; after = cs; split = refl; met = tt; unmet = u }
    there (c ∷ cs) (inr (m, f)) =
        let p = there cs f in
        record {
          front = c ∷ p.front;
          condition = p.condition;
          after = p.after;
          split = ap (λ (l : List Condition). c ∷ l) p.split;
          met = (m, p.met);
          unmet = p.unmet;
        }

    back : Place cs r → FirstUnmet cs r
    back p =
        subst (λ (l : List Condition). FirstUnmet l r) (sym p.split)
        ((first_of_two p.front (p.condition ∷ p.after) r).1 (inr (p.met, inl p.unmet)))
