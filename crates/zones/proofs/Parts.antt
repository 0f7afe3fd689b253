-- What a node adds is small, whatever its numbers are.
use mathlib.Core.Path.{◌≡◌, refl}
use mathlib.Core.Bool.{Bool, true, false}
use Prim.Native.Nat.{ℕ, ◌-◌, ◌≤◌}
use native.Mathlib.Omega.{arith}
use lib.IntN.{ℤ, pos, nat_abs, ◌*ℤ◌}
use mir.Syntax.{w64}
use mir.Val.{SFits}
use Rattle.integers.proofs.Core.{Z}
use Rattle.integers.proofs.Laws.{abs-mul-le}
use Rattle.meaning.specs.declared.Kw.{Kw}
use Rattle.meaning.specs.declared.Side.{Side}
use Rattle.meaning.specs.Charging.{metres, turned}
use Rattle.meaning.specs.Rows.{◌between◌and◌}
use Rattle.meaning.proofs.Says.{says_le, ◌also◌}
use Rattle.zones.specs.declared.node.Part.{Part}
use Rattle.zones.specs.Sums.{in_ranges, no_part, part_of, PartFits}

-- what the ranges say
pub record Counts (zone w p : ℕ) (m : ℤ) : Type 0 where
  pub least : 1 ≤ zone
  pub most : zone ≤ 32
  pub weighs : w ≤ 100000000
  pub pays : p ≤ 100000000
  pub near : nat_abs m ≤ 10000000

module _ (zone w p : ℕ) (m : ℤ) where
  pub counted : in_ranges zone w p m ≡ true → Counts zone w p m
  unfolding in_ranges ◌between◌and◌
  counted h =
      let s = (says_le also says_le also says_le also says_le also says_le).0 h in
      record { least = s.0.0.0.0; most = s.0.0.0.1; weighs = s.0.0.1; pays = s.0.1; near = s.1 }

  pub counting : Counts zone w p m → in_ranges zone w p m ≡ true
  unfolding in_ranges ◌between◌and◌
  counting c = (says_le also says_le also says_le also says_le also says_le).1 ((((c.least, c.most), c.weighs), c.pays), c.near)

module _ (side : Side) (zone : ℕ) (w p : Kw) (u : ℤ) where
  abbrev m : ℤ
  m = turned side (metres u)

  abbrev pub full : Part
  full = record { slot = zone - 1; adds = record { weight = w; weighed = m *ℤ pos w.0; paying = p } }

  pub part_full : in_ranges zone w.0 p.0 m ≡ true → part_of side zone w p u ≡ full
  unfolding part_of
  part_full h = rw h refl

  pub part_none : in_ranges zone w.0 p.0 m ≡ false → part_of side zone w p u ≡ no_part
  unfolding part_of
  part_none h = rw h refl

  pub part_fits : PartFits (part_of side zone w p u)
  part_fits = go (in_ranges zone w.0 p.0 m) refl
    where
      go : (b : Bool) → in_ranges zone w.0 p.0 m ≡ b → PartFits (part_of side zone w p u)
      go true h =
          let c = counted zone w.0 p.0 m h in
          rw (part_full h) (record { slot = omega (arith, c.least, c.most); adds = record { weight = c.weighs; weighed = abs-mul-le m (pos w.0) c.near (omega arith); paying = c.pays } })
      go false h = rw (part_none h) (record { slot = omega arith; adds = record { weight = omega arith; weighed = omega arith; paying = omega arith } })

pub times_fits : (m : ℤ) (k : ℕ) → nat_abs m ≤ 10000000 → k ≤ 100000000 → SFits w64 (m *ℤ pos k)
times_fits m k h l = let a = abs-mul-le m (pos k) h l in simp Z (omega (arith, simp Z at a))
