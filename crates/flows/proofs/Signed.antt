-- Steps 4 and 5: a circuit's signed length by its direction, and its offset by the system, its mark and the background that it counts for.
use mathlib.Core.Path.{◌≡◌, refl}
use mathlib.Core.Logic.{◌≢◌}
use mathlib.Core.Bool.{Bool, true, false, cond}
use mathlib.Core.List.{List}
use Prim.Native.Nat.{ℕ, ◌*◌, ◌≤◌, ◌<◌}
use native.Mathlib.Decide.{dec_le}
use native.Mathlib.Omega.{arith}
use lib.Dec.{eqb}
use lib.IntN.{ℤ, pos, neg_ℤ, nat_abs, ◌-ℤ◌}
use lib.ListN.{length, get_or}
use borrow.Author.Tests.{eq-eqb, ne_eqb, le-leb, lt-leb}
use mir.Syntax.{w64}
use mir.Val.{SFits}
use Rattle.integers.proofs.Core.{Z}
use Rattle.integers.proofs.Laws.{abs_neg}
use Rattle.meaning.specs.declared.Direction.{Direction}
use Rattle.meaning.specs.declared.Direction.TheVariants.{Idle, Forward, Backward, InDoubt}
use denote.Enum.Bare.{sameb}
use Rattle.meaning.specs.contracts.Background.{the_type}
use Rattle.meaning.specs.Editions.{same_background}
use Rattle.meaning.specs.Direction.{direction, signed, background}
use Rattle.meaning.specs.declared.Background.{Background}
use Rattle.meaning.specs.declared.System.{System}
use Rattle.meaning.specs.declared.System.TheVariants.{Base, Wider, Local}
use Rattle.meaning.proofs.Columns.{column_at, column_past}
use Rattle.numbers.specs.declared.Heading.{Heading}
use Rattle.numbers.specs.Numbers.{no_heading}
use Rattle.meaning.specs.declared.Edition.{Edition}
use Rattle.flows.specs.Flows.{number, circuits_in, signed_by, wider_in, offset_in, heading_at, headings_of, offset_at, offsets_of}
use Rattle.flows.proofs.Circuits.{counted}

-- ---- a length turned round
pub turned_fits : (k : ℕ) → k ≤ 30000000000000000 → SFits w64 (pos 0 -ℤ pos k)
turned_fits k = simp Z (omega arith)

turned : (k : ℕ) → pos 0 -ℤ pos k ≡ neg_ℤ (pos k)
turned k = simp Z (omega arith)

module _ (long : ℕ) (flow : ℤ) where
  pub too_long : 30000000000 < long → pos 0 ≡ signed_by long flow
  unfolding signed_by
  too_long h = rw (lt-leb long 30000000000 h) refl

  module _ (h : long ≤ 30000000000) where
    pub signed_is : signed_by long flow ≡ signed (direction flow) (pos (1000000 * long))
    unfolding signed_by
    signed_is = rw (le-leb long 30000000000 h) refl

    pub idle_length : Idle ≡ direction flow → pos 0 ≡ signed_by long flow
    unfolding signed
    idle_length e = rw (signed_is, ← e) refl

    pub forward_length : Forward ≡ direction flow → pos (1000000 * long) ≡ signed_by long flow
    unfolding signed
    forward_length e = rw (signed_is, ← e) refl

    pub backward_length : Backward ≡ direction flow → pos 0 -ℤ pos (1000000 * long) ≡ signed_by long flow
    unfolding signed
    backward_length e = rw (signed_is, ← e) (turned (1000000 * long))

    pub doubtful_length : InDoubt ≡ direction flow → pos 0 ≡ signed_by long flow
    unfolding signed
    doubtful_length e = rw (signed_is, ← e) refl

-- ---- by the background
module _ (b : Background) (long : ℕ) (h : Heading) where
  pub wider_own : same_background b (background h.counting) ≡ true → signed_by long h.flow ≡ wider_in b long h
  unfolding wider_in
  wider_own e = rw e refl

  pub wider_other : same_background b (background h.counting) ≡ false → pos 0 ≡ wider_in b long h
  unfolding wider_in
  wider_other e = rw e refl

-- ---- by the mark
module _ (system : System) (long mark : ℕ) (h : Heading) where
  pub base_none : {b : Background} → system ≡ Base b → pos 0 ≡ offset_in system long mark h
  unfolding offset_in
  base_none s = rw s refl

  pub wider_unmarked : {b : Background} → system ≡ Wider b → mark ≡ 0 → wider_in b long h ≡ offset_in system long mark h
  unfolding offset_in
  wider_unmarked s e = rw (s, eq-eqb mark 0 e) refl

  pub wider_marked : {b : Background} → system ≡ Wider b → mark ≢ 0 → pos 0 ≡ offset_in system long mark h
  unfolding offset_in
  wider_marked s e = rw (s, ne_eqb mark 0 e) refl

  pub local_unmarked : system ≡ Local → mark ≡ 0 → pos 0 ≡ offset_in system long mark h
  unfolding offset_in
  local_unmarked s e = rw (s, eq-eqb mark 0 e) refl

  pub local_marked : system ≡ Local → mark ≢ 0 → signed_by long h.flow ≡ offset_in system long mark h
  unfolding offset_in
  local_marked s e = rw (s, ne_eqb mark 0 e) refl

-- ---- what a caller learns: no offset is above 3 x 10^16, and each circuit has its own heading and its own offset
directed_small : (d : Direction) (long : ℕ) → long ≤ 30000000000 → nat_abs (signed d (pos (1000000 * long))) ≤ 30000000000000000
unfolding signed
directed_small Idle long h = omega arith
directed_small Forward long h = omega arith
directed_small Backward long h = rw (abs_neg (pos (1000000 * long))) (omega arith)
directed_small InDoubt long h = omega arith

signed_small : (long : ℕ) (flow : ℤ) → nat_abs (signed_by long flow) ≤ 30000000000000000
signed_small long flow = go (dec_le long 30000000000)
  where
    go : Dec (long ≤ 30000000000) → nat_abs (signed_by long flow) ≤ 30000000000000000
    go (yes h) = rw (signed_is long flow h) (directed_small (direction flow) long h)
    go (no h) = rw (← too_long long flow (omega arith)) (omega arith)

none_small : (b : Bool) (z : ℤ) → nat_abs z ≤ 30000000000000000 → (nat_abs (cond b z (pos 0)) ≤ 30000000000000000) × (nat_abs (cond b (pos 0) z) ≤ 30000000000000000)
none_small true z h = (h, omega arith)
none_small false z h = (omega arith, h)

pub offset_small_lem : (system : System) (long mark : ℕ) (h : Heading) → nat_abs (offset_in system long mark h) ≤ 30000000000000000
unfolding offset_in wider_in
offset_small_lem (Base b) long mark h = omega arith
offset_small_lem (Wider b) long mark h =
    (none_small (eqb mark 0) _ (none_small (same_background b (background h.counting)) _ (signed_small long h.flow)).0).0
offset_small_lem Local long mark h = (none_small (eqb mark 0) _ (signed_small long h.flow)).1

pub offsets_at : (system : System) (lengths mark : List ℕ) (headings : List Heading) (c : ℕ) → c < 512 → number (offsets_of system lengths mark headings) c ≡ offset_at system lengths mark headings c
unfolding offsets_of
offsets_at system lengths mark headings c h = column_at (pos 0) 512 (offset_at system lengths mark headings) (pos 0) 512 c h h

module _ (edition : Edition) (n : ℕ) (mark : List ℕ) (base peak_base : List ℤ) (c : ℕ) where
  pub headings_at : c < circuits_in n (length base) → get_or (headings_of edition n mark base peak_base) c no_heading ≡ heading_at edition n mark base peak_base c
  unfolding headings_of
  headings_at h = column_at no_heading 512 (heading_at edition n mark base peak_base) no_heading _ c h (omega (arith, (counted n (length base)).few))

  pub headings_past : circuits_in n (length base) ≤ c → c < 512 → get_or (headings_of edition n mark base peak_base) c no_heading ≡ no_heading
  unfolding headings_of
  headings_past h l = column_past no_heading 512 (heading_at edition n mark base peak_base) no_heading _ c h l

-- code's equality of backgrounds is the definition's
pub same_is : (a b : Background) → sameb the_type a b ≡ same_background a b
same_is a b = grind arith
