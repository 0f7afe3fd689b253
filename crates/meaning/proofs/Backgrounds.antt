-- 02, request 5: what is promised of the backgrounds of an accepted case, of a circuit's length, and of who pays at peak.
use mathlib.Core.Path.{◌≡◌, refl, sym, subst}
use mathlib.Core.Bool.{Bool, true, false, cond}
use native.Mathlib.Omega.{arith}
use lib.Dec.{eqb}
use lib.IntN.{ℤ, pos, ◌+ℤ◌}
use Rattle.integers.proofs.Core.{Z}
use Rattle.meaning.specs.declared.Background.{Background}
use Rattle.meaning.specs.declared.Background.TheVariants.{YearRound, Peak}
use Rattle.meaning.specs.Editions.{Of, same_background}
use Rattle.meaning.specs.Study.{circuit}
use Rattle.meaning.specs.File.{study_of}
use Rattle.meaning.specs.Grid.{grid_of}
use Rattle.meaning.specs.Systems.{background_of, length_of, offset}
use Rattle.meaning.specs.Figures.{paying_in, total_paying_in}
use Rattle.meaning.specs.Backgrounds.{EachBackgroundServed, LengthsStandOnce, AllButIntermittentPayAtPeak, PeakIsPaid}
use Rattle.meaning.proofs.Says.{Says, says_eq}
use Rattle.meaning.proofs.Plants.{capacity_at_lem, year_round_pays, all_but_one_pay}
use Rattle.meaning.proofs.Generation.{generation_total, generation_most, peak_pays, scalable_in}

pub each_background_served : EachBackgroundServed
each_background_served file runs share a b h =
    let s = scalable_in (study_of file) a.study b h in
    record { all = generation_total (grid_of (study_of file)) b s; most = generation_most (grid_of (study_of file)) b s }

-- a length, by whether its circuit is unmarked and the background that it counts for
own_part : (b : Background) (z : ℤ) → cond (same_background b b) z (pos 0) ≡ z
own_part YearRound z = refl
own_part Peak z = refl

one_part : (unmarked : Bool) (b : Background) (z : ℤ)
    → cond unmarked (cond (same_background YearRound b) z (pos 0)) (pos 0) +ℤ cond unmarked (cond (same_background Peak b) z (pos 0)) (pos 0) +ℤ cond unmarked (pos 0) z ≡ z
one_part true YearRound z = simp Z (omega arith)
one_part true Peak z = simp Z (omega arith)
one_part false b z = simp Z (omega arith)

otherwise : {P : Type 0} (b : Bool) → Says b P → (P → ⊥) → (z : ℤ) → cond b (pos 0) z ≡ z
otherwise true s n z = absurd (n (s.0 refl))
otherwise false s n z = refl

pub lengths_stand_once : LengthsStandOnce
unfolding offset
lengths_stand_once G runs c = record {
  unmarked = λ e. rw e (own_part (background_of G runs c) (length_of G runs c));
  marked = λ n. otherwise (eqb (circuit G.circuits c).local_mark 0) says_eq n (length_of G runs c);
  once = one_part (eqb (circuit G.circuits c).local_mark 0) (background_of G runs c) (length_of G runs c);
}

pub all_but_intermittent_pay_at_peak : AllButIntermittentPayAtPeak
all_but_intermittent_pay_at_peak S v h = record {
  year_round = year_round_pays (grid_of S) v;
  peak = rw (capacity_at_lem S v 0 h (omega arith)) at (all_but_one_pay (grid_of S) v);
}

pub peak_is_paid : PeakIsPaid
unfolding total_paying_in paying_in grid_of
peak_is_paid file runs share a second = peak_pays (grid_of (study_of file)) (subst (Of Peak) (sym second) tt) (a.study.scalable second Peak)
