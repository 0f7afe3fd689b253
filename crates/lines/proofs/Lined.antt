-- A line by its case, as it is written.
use Prim.Native.Nat.{ℕ}
use mathlib.Core.Path.{◌≡◌}
use mathlib.Core.List.{List, [], ◌++◌, append_assoc}
use borrow.Author.Tests.{eq-eqb, ne_eqb}
use Rattle.meaning.specs.Study.{MicroPerKw}
use Rattle.meaning.specs.Text.{text, natural, decimals, ends, line}
use Rattle.meaning.specs.Sheet.{letter, zone_numbers, zone_fields, node_fields, node_line}
use Rattle.meaning.specs.declared.Form.{Form}
use Rattle.meaning.specs.declared.Side.{Side}
use Rattle.meaning.specs.declared.ZoneFigures.{ZoneFigures}
use Rattle.meaning.specs.declared.LocalFigures.{LocalFigures}

module _ (form : Form) (side : Side) (zone : ℕ) (residual : MicroPerKw) (z : ZoneFigures) where
  pub zone_dash : z.weight.0 ≡ 0 → line (zone_fields form side zone residual z) ≡ (letter side ++ (text " " ++ natural zone)) ++ text " -\n"
  unfolding zone_fields line ends
  zone_dash e = simp (eq-eqb _ _ e, append_assoc)

  pub zone_full : (z.weight.0 ≡ 0 → ⊥) → line (zone_fields form side zone residual z) ≡ (letter side ++ (text " " ++ natural zone)) ++ ends (decimals (zone_numbers form residual z))
  unfolding zone_fields line ends
  zone_full n = simp (ne_eqb _ _ n, append_assoc)

module _ (name : List ℕ) (l : LocalFigures) where
  pub node_none : l.tec.0 ≡ 0 → node_line name l ≡ []
  unfolding node_line
  node_none e = simp (eq-eqb _ _ e)

  pub node_full : (l.tec.0 ≡ 0 → ⊥) → node_line name l ≡ line (node_fields name l)
  unfolding node_line
  node_full n = simp (ne_eqb _ _ n)
