-- In 01's ranges nothing is left out: what is left after any tariffs is exact, and its residual and remainder are step 10's.
use mathlib.Core.Path.{◌≡◌, refl, sym, ◌∙◌, ap}
use Prim.Native.Nat.{ℕ, zero, suc, ◌+◌, ◌*◌, ◌≤◌, ◌<◌}
use native.Mathlib.Omega.{arith}
use lib.IntN.{ℤ, pos, nat_abs, ◌+ℤ◌, ◌-ℤ◌, ◌*ℤ◌}
use Rattle.integers.specs.Numbers.{Σ, floor_div}
use Rattle.integers.proofs.Core.{Z}
use Rattle.integers.proofs.Laws.{abs-add, abs-sub, abs-mul-le}
use Rattle.integers.proofs.Div.{floor_add, floor_within, floor_abs}
use Rattle.meaning.specs.Charging.{residual_of, remainder_of}
use Rattle.meaning.proofs.Says.{◌also◌, says_le}
use Rattle.rests.specs.declared.Rest.{Rest}
use Rattle.rests.specs.Rests.{value_of, rest_over, start_of, InRange, less_of, less_to, Holds, Charges}
use Rattle.rests.proofs.Laws.{rest_value, left_below, left_is, says_in_range, less_in, start_in}

-- ---- a value over the kilowatts that pay
module _ (value : ℤ) (payers : ℕ) (some : 1 ≤ payers) where
  over_below : (rest_over value payers).over < payers
  unfolding rest_over remainder_of residual_of
  over_below = left_below value payers some

  over_is : pos (rest_over value payers).over ≡ remainder_of value payers
  unfolding rest_over remainder_of residual_of
  over_is = left_is value payers some

  value_is : value_of (rest_over value payers).each (rest_over value payers).over payers ≡ value
  unfolding value_of rest_over remainder_of residual_of
  value_is = rest_value value payers some

each_is : (value : ℤ) (payers : ℕ) → (rest_over value payers).each ≡ residual_of value payers
unfolding rest_over
each_is value payers = refl

each_near : (value : ℤ) (payers : ℕ) → nat_abs (rest_over value payers).each ≤ nat_abs value
unfolding rest_over residual_of
each_near value payers = floor_abs value payers

-- ---- the target
pub start_holds : (target : ℤ) (payers n : ℕ) → 1 ≤ payers → payers ≤ 100000000 → nat_abs target ≤ 1000000000000000000 → n ≤ 1000000 → Holds (start_of target payers) target payers n
start_holds target payers n some most near few =
    let e = start_in target payers ((says_le also says_le also says_le).1 ((some, most), near)) in
    record { some = some; most = most; is = e; near = rw e (omega (arith, each_near target payers)) }

-- ---- one tariff: exact, and the residual at most that much further off
module _ {r : Rest} {value : ℤ} {payers n : ℕ} (h : Holds r value payers (suc n)) (tariff : ℤ) (kw : ℕ) (price : nat_abs tariff ≤ 1000000000000) (part : kw ≤ payers) where
  below : r.over < payers
  below = let e = h.is in rw e (over_below value payers h.some)

  stands : value_of r.each r.over payers ≡ value
  stands = let e = h.is in rw e (value_is value payers h.some)

  in_range_lem : InRange r.each r.over payers tariff kw
  in_range_lem = record { some = h.some; most = h.most; below = below; part = part; near = omega (arith, h.near); price = price }

  less_is : less_of r payers tariff kw ≡ rest_over (value -ℤ tariff *ℤ pos kw) payers
  less_is = less_in r payers tariff kw ((says_in_range r.each r.over payers tariff kw).1 in_range_lem) ∙ rw stands refl

  step : ℤ
  step = pos r.over -ℤ tariff *ℤ pos kw

  step_within : nat_abs step ≤ 1000000000001 * payers
  unfolding step
  step_within =
      let m = abs-mul-le tariff (pos kw) {m = 1000000000000} {n = payers} price part in
      omega (arith, abs-sub (pos r.over) (tariff *ℤ pos kw), below)

  ring : (e : ℤ) (o : ℕ) (x : ℤ) → e *ℤ pos payers +ℤ pos o -ℤ x ≡ (pos o -ℤ x) +ℤ e *ℤ pos payers
  ring e o x = simp Z (omega arith)

  moved : residual_of (value -ℤ tariff *ℤ pos kw) payers ≡ floor_div step payers +ℤ r.each
  unfolding residual_of value_of step
  moved =
      ap (λ (v : ℤ). floor_div (v -ℤ tariff *ℤ pos kw) payers) (sym stands)
      ∙ ap (λ (v : ℤ). floor_div v payers) (ring r.each r.over (tariff *ℤ pos kw))
      ∙ floor_add (pos r.over -ℤ tariff *ℤ pos kw) r.each payers h.some

  near_on : nat_abs (rest_over (value -ℤ tariff *ℤ pos kw) payers).each + n * 1000000000001 ≤ 9000000000000000000
  near_on =
      rw (each_is (value -ℤ tariff *ℤ pos kw) payers, moved)
      (omega (arith, abs-add (floor_div step payers) r.each, floor_within step 1000000000001 payers step_within, h.near))

  pub less_holds : Holds (less_of r payers tariff kw) (value -ℤ tariff *ℤ pos kw) payers n
  less_holds = let e = less_is in record { some = h.some; most = h.most; is = e; near = rw e near_on }

-- ---- tariffs one after the other
sub_none : (x : ℤ) → x ≡ x -ℤ pos 0
sub_none x = simp Z (omega arith)

sub_more : (x y z : ℤ) → x -ℤ y -ℤ z ≡ x -ℤ (y +ℤ z)
sub_more x y z = simp Z (omega arith)

module _ {r : Rest} {value : ℤ} {payers : ℕ} {tariff : ℕ → ℤ} {kw : ℕ → ℕ} where
  pub all_hold : (n m : ℕ) → Holds r value payers (n + m) → Charges payers n tariff kw → Holds (less_to r payers tariff kw n) (value -ℤ Σ n (λ i. tariff i *ℤ pos (kw i))) payers m
  unfolding less_to Σ
  all_hold zero m h g = record { some = h.some; most = h.most; is = h.is ∙ ap (λ (v : ℤ). rest_over v payers) (sub_none value); near = omega (arith, h.near) }
  all_hold (suc n) m h g =
      let before = all_hold n (suc m) (record { some = h.some; most = h.most; is = h.is; near = omega (arith, h.near) }) (record { price = λ i l. g.price i (omega arith); part = λ i l. g.part i (omega arith) }) in
      rw (sub_more value (Σ n (λ i. tariff i *ℤ pos (kw i))) (tariff n *ℤ pos (kw n))) at (less_holds before (tariff n) (kw n) (g.price n (omega arith)) (g.part n (omega arith)))

-- room for more is room for fewer
pub holds_fewer : {r : Rest} {value : ℤ} {payers n : ℕ} (m : ℕ) → m ≤ n → Holds r value payers n → Holds r value payers m
holds_fewer m l h = record { some = h.some; most = h.most; is = h.is; near = omega (arith, h.near) }

-- ---- what stands there at the end
module _ {r : Rest} {value : ℤ} {payers n : ℕ} (h : Holds r value payers n) where
  pub residual_is : r.each ≡ residual_of value payers
  residual_is = let e = h.is in rw e (each_is value payers)

  pub remainder_is : pos r.over ≡ remainder_of value payers
  remainder_is = let e = h.is in rw e (over_is value payers h.some)

  pub residual_near : nat_abs r.each ≤ 9000000000000000000
  residual_near = omega (arith, h.near)

  pub remainder_near : r.over < 100000000
  remainder_near = let e = h.is in let b : r.over < payers = rw e (over_below value payers h.some) in omega (arith, b, h.most)
