-- What counts of the TEC of a plant type: all of it, what pays, what runs at a percentage, what shares the demand that remains;
-- (02, request 6) all where the type is low carbon, where it isn't, or where it is a given one.
use Rattle.std.specs.Prelude.{cond, not, ℕ}
use Rattle.meaning.specs.declared.Background.TheVariants.{Peak}
use Rattle.meaning.specs.declared.Plant.{Plant}
use Rattle.meaning.specs.Grid.{pays, pays_in}
use Rattle.meaning.specs.Generation.{runs_as, fixed_part, is_variable}
use Rattle.meaning.specs.Figures.{low_carbon}
use Rattle.plants.specs.declared.Counted.{Counted}
use Rattle.plants.specs.declared.Counted.TheVariants.{All, Paying, PayingAtPeak, Fixed, Variable, LowCarbon, Carbon, Of}
use Rattle.plants.specs.Kind.{same_plant}

unfoldable pub part_of : Counted → Plant → ℕ → ℕ
part_of All plant kw = kw
part_of Paying plant kw = cond (pays plant) kw 0
part_of PayingAtPeak plant kw = cond (pays_in Peak plant) kw 0
part_of (Fixed e b) plant kw = fixed_part (runs_as e b plant) kw
part_of (Variable e b) plant kw = cond (is_variable (runs_as e b plant)) kw 0
part_of LowCarbon plant kw = cond (low_carbon plant) kw 0
part_of Carbon plant kw = cond (not (low_carbon plant)) kw 0
part_of (Of one) plant kw = cond (same_plant one plant) kw 0
