-- Figures of a case that is stopped: all zero, of no zones and no nodes, under the name of edition 1.
use Rattle.std.specs.Prelude.{pos, replicate}
use Rattle.meaning.specs.declared.Edition.TheVariants.{First}
use Rattle.meaning.specs.declared.Form.TheVariants.{OneBackground}
use Rattle.meaning.specs.declared.SideFigures.{SideFigures}
use Rattle.meaning.specs.declared.Figures.{Figures}
use Rattle.meaning.specs.Columns.{distance, price, no_line, no_local}

unfoldable pub no_side : SideFigures
no_side = record { form = OneBackground; zones = 0; residual = price (pos 0); remainder = pos 0; zone = replicate 32 no_line }

unfoldable pub no_figures : Figures
no_figures = record { edition = First; c = distance (pos 0); peak_c = distance (pos 0); generation = no_side; demand = no_side; nodes = 0; local = replicate 256 no_local }
