-- 01, step 4 and 02, request 3: the two factors of a sound row are in their range, so that its expanded length is short, and some exactly where it has a length.
use mathlib.Core.Path.{◌≡◌, refl, sym, ◌∙◌}
use mathlib.Core.Logic.{◌⊎◌, inl, inr}
use mathlib.Core.Bool.{Bool, true, false, cond}
use Prim.Native.Nat.{ℕ, ◌+◌, ◌*◌, ◌≤◌}
use native.Mathlib.Nat.{mul-le-mul, mul-le-mul_left, zero-mul}
use native.Mathlib.Decide.{dec_le}
use native.Mathlib.Omega.{arith}
use borrow.Author.Tests.{le-leb, ne_eqb}
use lib.Dec.{eqb, leb}
use Rattle.meaning.specs.declared.Settings.{Settings}
use Rattle.meaning.specs.Study.{Circuit, Study, circuit}
use Rattle.meaning.specs.Direction.{overhead_factor, cable_factor, own_or, expanded_length, has_length}
use Rattle.meaning.specs.Conditions.{InRange, SoundSettings, SoundCircuit}

-- the row's own factor, or that of its voltage
own_in : (factor by_voltage : ℕ) → (factor ≡ 0) ⊎ InRange factor 1000 30000 → InRange by_voltage 1000 30000 → InRange (own_or factor by_voltage) 1000 30000
unfolding own_or
own_in factor by_voltage (inl e) k = rw e k
own_in factor by_voltage (inr r) k = simp (ne_eqb factor 0 (omega (arith, r.least))) r

-- with factors of at least 1, some expanded length is some length
long_both : (o k f g : ℕ) → 1 ≤ f → 1 ≤ g → leb 1 (o * f + k * g) ≡ leb 1 (o + k)
long_both o k f g h l = go (dec_le 1 (o + k))
  where
    go : Dec (1 ≤ o + k) → leb 1 (o * f + k * g) ≡ leb 1 (o + k)
    go (yes y) = le-leb 1 (o * f + k * g) (omega (arith, mul-le-mul_left o h, mul-le-mul_left k l)) ∙ sym (le-leb 1 (o + k) y)
    go (no n) =
        let a : o ≡ 0 = omega arith in
        let b : k ≡ 0 = omega arith in
        rw (a, b, zero-mul f, zero-mul g) refl

module _ (s : Settings) (nodes : ℕ) (sound : SoundSettings nodes s) where
  overhead_by_voltage : (voltage : ℕ) → InRange (overhead_factor s voltage) 1000 30000
  unfolding overhead_factor
  overhead_by_voltage voltage = go (eqb voltage 400) (eqb voltage 275)
    where
      go : (a b : Bool) → InRange (cond a s.overhead400 (cond b s.overhead275 s.overhead132)) 1000 30000
      go true b = record { least = omega (arith, sound.overhead400); most = omega (arith, sound.overhead400) }
      go false true = sound.overhead275
      go false false = sound.overhead132

  cable_by_voltage : (voltage : ℕ) → InRange (cable_factor s voltage) 1000 30000
  unfolding cable_factor
  cable_by_voltage voltage = go (eqb voltage 400) (eqb voltage 275)
    where
      go : (a b : Bool) → InRange (cond a s.cable400 (cond b s.cable275 s.cable132)) 1000 30000
      go true b = sound.cable400
      go false true = sound.cable275
      go false false = sound.cable132

  module _ (S : Study) (i : ℕ) (row : SoundCircuit S i) where
    abbrev c : Circuit
    c = circuit S.circuits i

    pub overhead_in : InRange (own_or c.factor (overhead_factor s c.voltage)) 1000 30000
    overhead_in = own_in c.factor _ row.factor (overhead_by_voltage c.voltage)

    pub cable_in : InRange (own_or c.factor (cable_factor s c.voltage)) 1000 30000
    cable_in = own_in c.factor _ row.factor (cable_by_voltage c.voltage)

    pub expanded_most : expanded_length s c ≤ 30000000000
    unfolding expanded_length
    expanded_most = omega (arith, mul-le-mul row.overhead overhead_in.most, mul-le-mul row.cable cable_in.most)

    pub has_length_lem : leb 1 (expanded_length s c) ≡ has_length c
    unfolding expanded_length has_length
    has_length_lem = long_both c.overhead c.cable _ _ (omega (arith, overhead_in.least)) (omega (arith, cable_in.least))
