-- 02, request 5: "Some clients use the later edition of 14.15, some the earlier." An edition is its backgrounds; each has a base and a wider system.
use Rattle.std.specs.Prelude.{Bool, true, false, cond, List, [], ◌∷◌, ◌++◌, ℕ, eqb, ℤ, ◌+ℤ◌}
use Rattle.meaning.specs.declared.Edition.{Edition}
use Rattle.meaning.specs.declared.Edition.TheVariants.{First, Second}
use Rattle.meaning.specs.declared.Background.{Background}
use Rattle.meaning.specs.declared.Background.TheVariants.{YearRound, Peak}
use Rattle.meaning.specs.declared.System.{System}
use Rattle.meaning.specs.declared.System.TheVariants.{Base, Wider, Local}

-- "The settings' zero names the edition: 0 is edition 1 ..; 2 is edition 2". Any other is refused as 1
unfoldable pub edition_of : (number : ℕ) → Edition
edition_of number = cond (eqb number 2) Second First

-- one for each edition
abbrev pub by_edition : {A : Type 0} → (first second : A) → Edition → A
by_edition first second First = first
by_edition first second Second = second

-- "Edition 2 makes two backgrounds"; 01's one is the year round one
abbrev pub Of : Background → Edition → Type 0
Of YearRound e = Unit {0}
Of Peak First = ⊥
Of Peak Second = Unit {0}

abbrev pub same_background : Background → Background → Bool
same_background YearRound YearRound = true
same_background YearRound Peak = false
same_background Peak YearRound = false
same_background Peak Peak = true

-- a figure of each background of an edition, added up
unfoldable pub over_backgrounds : Edition → (Background → ℤ) → ℤ
over_backgrounds First f = f YearRound
over_backgrounds Second f = f YearRound +ℤ f Peak

-- one of five for each system, in the order of their numbers: "Systems 1, 2 and 3 are year round base, wider and local; 4 and 5, peak base and wider, follow"
abbrev pub by_system : {A : Type 0} → (base wider local peak_base peak_wider : A) → System → A
by_system base wider local peak_base peak_wider (Base YearRound) = base
by_system base wider local peak_base peak_wider (Wider YearRound) = wider
by_system base wider local peak_base peak_wider Local = local
by_system base wider local peak_base peak_wider (Base Peak) = peak_base
by_system base wider local peak_base peak_wider (Wider Peak) = peak_wider

unfoldable pub system_number : System → ℕ
system_number = by_system 1 2 3 4 5

abbrev pub all_systems : List System
all_systems = Base YearRound ∷ Wider YearRound ∷ Local ∷ Base Peak ∷ Wider Peak ∷ []

-- the systems of an edition
abbrev pub HasSystem : Edition → System → Type 0
HasSystem e (Base b) = Of b e
HasSystem e (Wider b) = Of b e
HasSystem e Local = Unit {0}

-- 01, Order: the systems before 11, whose flows say directions ("systems 1 and 4"), and those after it, whose potentials are distances ("2, 5 and 3")
abbrev pub flow_systems : Edition → List System
flow_systems First = Base YearRound ∷ []
flow_systems Second = Base YearRound ∷ Base Peak ∷ []

abbrev pub distance_systems : Edition → List System
distance_systems First = Wider YearRound ∷ Local ∷ []
distance_systems Second = Wider YearRound ∷ Wider Peak ∷ Local ∷ []

abbrev pub systems : Edition → List System
systems e = flow_systems e ++ distance_systems e

-- whether a system's potentials are distances
abbrev pub OfDistances : System → Type 0
OfDistances (Base b) = ⊥
OfDistances (Wider b) = Unit {0}
OfDistances Local = Unit {0}
