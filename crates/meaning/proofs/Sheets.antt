-- Two sheets that show the same below their counts are the same bytes.
use mathlib.Core.Path.{◌≡◌, refl, ◌∙◌, ap, ap₂}
use Prim.Native.Nat.{ℕ, suc, ◌<◌}
use Rattle.meaning.specs.Rows.{joined}
use Rattle.meaning.specs.Text.{line}
use Rattle.meaning.specs.declared.Form.{Form}
use Rattle.meaning.specs.declared.Side.{Side}
use Rattle.meaning.specs.declared.Side.TheVariants.{Generation, Demand}
use Rattle.meaning.specs.Sheet.{zone_fields, node_line, SideShown, Shown, zone_lines, node_lines, sheet_text}
use Rattle.meaning.proofs.Rows.{joined_same}

pub record SameSide (s t : SideShown) : Type 0 where
  pub form : s.form ≡ t.form
  pub zones : s.zones ≡ t.zones
  pub residual : s.residual ≡ t.residual
  pub remainder : s.remainder ≡ t.remainder
  pub zone : (k : ℕ) → k < s.zones → s.zone k ≡ t.zone k

pub record SameShown (s t : Shown) : Type 0 where
  pub edition : s.edition ≡ t.edition
  pub c : s.c ≡ t.c
  pub peak_c : s.peak_c ≡ t.peak_c
  pub side : (side : Side) → SameSide (s.side side) (t.side side)
  pub nodes : s.nodes ≡ t.nodes
  pub name : (v : ℕ) → v < s.nodes → s.name v ≡ t.name v
  pub local : (v : ℕ) → v < s.nodes → s.local v ≡ t.local v

same_zones : (side : Side) (s t : SideShown) → SameSide s t → zone_lines side s ≡ zone_lines side t
unfolding zone_lines
same_zones side s t x =
    joined_same s.zones _ _ (λ k h. ap₂ (λ r z. line (zone_fields s.form side (suc k) r z)) x.residual (x.zone k h))
    ∙ ap₂ (λ (f : Form) (n : ℕ). joined n (λ k. line (zone_fields f side (suc k) t.residual (t.zone k)))) x.form x.zones

module _ (s t : Shown) (e : SameShown s t) where
  same_nodes : node_lines s.nodes s.name s.local ≡ node_lines t.nodes t.name t.local
  unfolding node_lines
  same_nodes =
      joined_same s.nodes _ _ (λ v h. ap₂ node_line (e.name v h) (e.local v h))
      ∙ ap (λ (n : ℕ). joined n (λ v. node_line (t.name v) (t.local v))) e.nodes

  pub same_sheet : sheet_text s ≡ sheet_text t
  unfolding sheet_text
  same_sheet = rw (
    same_zones Generation _ _ (e.side Generation),
    same_zones Demand _ _ (e.side Demand),
    same_nodes,
    (e.side Generation).remainder,
    (e.side Demand).remainder,
    e.edition,
    e.c,
    e.peak_c,
  ) refl
