-- Every system is listed, and those of an edition are the ones that it judges; so a test of all that are listed is one of every system.
use mathlib.Core.Path.{◌≡◌, refl, sym, ap, subst, fun_ext}
use mathlib.Core.Logic.{⊎_elim}
use mathlib.Core.Bool.{Bool, true, false, true≢false}
use mathlib.Core.List.Memᴰ
use mathlib.Core.List.{List, [], ◌∷◌, Memᴰ}
use Rattle.meaning.specs.Rows.{every}
use Rattle.meaning.specs.declared.Edition.{Edition}
use Rattle.meaning.specs.declared.Edition.TheVariants.{First, Second}
use Rattle.meaning.specs.declared.Background.TheVariants.{YearRound, Peak}
use Rattle.meaning.specs.declared.System.{System}
use Rattle.meaning.specs.declared.System.TheVariants.{Base, Wider, Local}
use Rattle.meaning.specs.Editions.{by_edition, by_system, system_number, all_systems, HasSystem, flow_systems, distance_systems, systems}
use Rattle.meaning.specs.Backgrounds.{SystemsInOrder}
use Rattle.meaning.proofs.Says.{Says, says_as, ◌also◌}

pub first≢second : First ≡ Second → ⊥
first≢second h = true≢false (ap (λ (e : Edition). by_edition true false e) h)

-- 02's order, in the numbers that a refusal carries
pub systems_in_order : SystemsInOrder
unfolding system_number
systems_in_order = record { flows_first = refl; distances_first = refl; flows_second = refl; distances_second = refl }

listed : (s : System) → Memᴰ s all_systems
listed (Base YearRound) = Memᴰ.head refl
listed (Wider YearRound) = Memᴰ.tail (Memᴰ.head refl)
listed Local = Memᴰ.tail (Memᴰ.tail (Memᴰ.head refl))
listed (Base Peak) = Memᴰ.tail (Memᴰ.tail (Memᴰ.tail (Memᴰ.head refl)))
listed (Wider Peak) = Memᴰ.tail (Memᴰ.tail (Memᴰ.tail (Memᴰ.tail (Memᴰ.head refl))))

-- the systems of an edition are those that it judges
pub judged_in : (e : Edition) (s : System) → HasSystem e s → Memᴰ s (systems e)
judged_in First (Base YearRound) h = Memᴰ.head refl
judged_in First (Wider YearRound) h = Memᴰ.tail (Memᴰ.head refl)
judged_in First Local h = Memᴰ.tail (Memᴰ.tail (Memᴰ.head refl))
judged_in First (Base Peak) h = absurd h
judged_in First (Wider Peak) h = absurd h
judged_in Second (Base YearRound) h = Memᴰ.head refl
judged_in Second (Base Peak) h = Memᴰ.tail (Memᴰ.head refl)
judged_in Second (Wider YearRound) h = Memᴰ.tail (Memᴰ.tail (Memᴰ.head refl))
judged_in Second (Wider Peak) h = Memᴰ.tail (Memᴰ.tail (Memᴰ.tail (Memᴰ.head refl)))
judged_in Second Local h = Memᴰ.tail (Memᴰ.tail (Memᴰ.tail (Memᴰ.tail (Memᴰ.head refl))))

all_second : (s : System) → HasSystem Second s
all_second (Base YearRound) = tt
all_second (Base Peak) = tt
all_second (Wider YearRound) = tt
all_second (Wider Peak) = tt
all_second Local = tt

pub has_flow : (e : Edition) (s : System) → Memᴰ s (flow_systems e) → HasSystem e s
has_flow First s i = ⊎_elim (λ h. subst (HasSystem First) (sym h) tt) (λ j. absurd (Memᴰ.not-nil j)) (Memᴰ.cases_cons i)
has_flow Second s i = all_second s

pub has_distance : (e : Edition) (s : System) → Memᴰ s (distance_systems e) → HasSystem e s
has_distance First s i =
    ⊎_elim (λ h. subst (HasSystem First) (sym h) tt)
    (λ j. ⊎_elim (λ h. subst (HasSystem First) (sym h) tt) (λ k. absurd (Memᴰ.not-nil k)) (Memᴰ.cases_cons j)) (Memᴰ.cases_cons i)
has_distance Second s i = all_second s

-- a test of every system
says_among : {test : System → Bool} {P : System → Type 0} (ss : List System) → ((s : System) → Says (test s) (P s)) → Says (every test ss) ((s : System) → Memᴰ s ss → P s)
unfolding every
says_among [] h = (λ e s i. absurd (Memᴰ.not-nil i), λ f. refl)
says_among {P = P} (q ∷ ss) h =
    says_as (h q also says_among ss h) (
      λ t s i. ⊎_elim (λ e. subst P (sym e) t.0) (t.1 s) (Memᴰ.cases_cons i),
      λ f. (f q (Memᴰ.head refl), λ s i. f s (Memᴰ.tail i)),
    )

pub says_systems : {test : System → Bool} {P : System → Type 0} → ((s : System) → Says (test s) (P s)) → Says (every test all_systems) ((s : System) → P s)
says_systems h = says_as (says_among all_systems h) (λ t s. t s (listed s), λ f s i. f s)

-- what is made of one of five is one of what is made of the five
pub by_system_lem : {A B : Type 0} (f : A → B) (base wider local peak_base peak_wider : A)
    → by_system (f base) (f wider) (f local) (f peak_base) (f peak_wider) ≡ (λ s. f (by_system base wider local peak_base peak_wider s))
by_system_lem f base wider local peak_base peak_wider = fun_ext go
  where
    go : (s : System) → by_system (f base) (f wider) (f local) (f peak_base) (f peak_wider) s ≡ f (by_system base wider local peak_base peak_wider s)
    go (Base YearRound) = refl
    go (Base Peak) = refl
    go (Wider YearRound) = refl
    go (Wider Peak) = refl
    go Local = refl
