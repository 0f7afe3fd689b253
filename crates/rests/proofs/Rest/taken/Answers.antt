-- Each value of the code is one of the numbers of Laws.antt; that done, each need is a law.
use mathlib.Core.Path.{◌≡◌, ◌∙◌, ap}
use Prim.Native.Nat.{ℕ, ◌*◌, ◌≤◌, ◌<◌}
use native.Mathlib.Omega.{arith}
use lib.IntN.{ℤ, pos, nat_abs, ◌+ℤ◌, ◌-ℤ◌, ◌*ℤ◌}
use mir.Syntax.{w64}
use mir.Val.{SFits, to_z, of_z}
use Rattle.integers.specs.Numbers.{floor_div}
use Rattle.integers.proofs.Core.{Z}
use Rattle.integers.proofs.Laws.{sfits_abs}
use Rattle.integers.proofs.Machine.{Back, fit_back, back, of_nat}
use Rattle.meaning.specs.Charging.{residual_of, remainder_of}
use Rattle.rests.specs.declared.Rest.{Rest}
use Rattle.rests.specs.Rests.{rest_over}
use Rattle.rests.proofs.Laws as laws
use Rattle.rests.proofs.Laws.{taken_rest, high_within, low_within, low_kw, share_within, whole_within, part_within, last_within, more_within, tariff_divides, share_divides, last_divides}
use Rattle.rests.proofs.Rest.taken.Goals as goal
use Rattle.rests.proofs.Rest.taken.Goals.{After-of-last, After-of-millions, After-of-share, After-struct_told-1}

module _ (s : After-struct_told-1) where
  abbrev high : ℤ
  high = laws.high s.args.self.each s.args.self.over s.args.payers s.args.tariff s.args.kw

  abbrev low : ℕ
  low = laws.low s.args.self.each s.args.self.over s.args.payers s.args.tariff s.args.kw

  abbrev whole : ℤ
  whole = laws.whole s.args.self.each s.args.self.over s.args.payers s.args.tariff s.args.kw

  abbrev part : ℕ
  part = laws.part s.args.self.each s.args.self.over s.args.payers s.args.tariff s.args.kw

  abbrev last : ℤ
  last = laws.last s.args.self.each s.args.self.over s.args.payers s.args.tariff s.args.kw

  abbrev more : ℤ
  more = floor_div last s.args.payers

  -- bounds
  hh : nat_abs high ≤ 1000000
  hh = high_within s.args.self.each s.args.self.over s.args.payers s.args.tariff s.args.kw s.requires

  hl : low < 1000000
  hl = low_within s.args.self.each s.args.self.over s.args.payers s.args.tariff s.args.kw s.requires

  hs : nat_abs (high *ℤ pos s.args.kw) ≤ 1000000 * s.args.payers
  hs = share_within s.args.self.each s.args.self.over s.args.payers s.args.tariff s.args.kw s.requires

  hw : nat_abs whole ≤ 1000000
  hw = whole_within s.args.self.each s.args.self.over s.args.payers s.args.tariff s.args.kw s.requires

  hp : part < s.args.payers
  hp = part_within s.args.self.each s.args.self.over s.args.payers s.args.tariff s.args.kw s.requires

  hk : low * s.args.kw ≤ 100000000000000
  hk = low_kw s.args.self.each s.args.self.over s.args.payers s.args.tariff s.args.kw s.requires

  hm : nat_abs more ≤ 200000100000000
  hm = more_within s.args.self.each s.args.self.over s.args.payers s.args.tariff s.args.kw s.requires

  -- what is read back
  bt : Back s.args.tariff
  bt = fit_back s.ranges.tariff

  be : Back s.args.self.each
  be = back s.args.self.each (omega arith)

  bk : to_z w64 s.args.kw ≡ pos s.args.kw
  bk = of_nat s.args.kw (omega (arith, s.requires.part, s.requires.most))

  bo : to_z w64 s.args.self.over ≡ pos s.args.self.over
  bo = of_nat s.args.self.over (omega (arith, s.requires.below, s.requires.most))

  fs : SFits w64 (high *ℤ pos s.args.kw)
  fs = sfits_abs _ (omega (arith, hs, s.requires.most))

  bs : Back (high *ℤ pos s.args.kw)
  bs = fit_back fs

  fp : SFits w64 (pos part *ℤ pos 1000000)
  fp = simp Z (omega (arith, hp, s.requires.most))

  bp : Back (pos part *ℤ pos 1000000)
  bp = fit_back fp

  fq : SFits w64 (pos s.args.self.over -ℤ pos part *ℤ pos 1000000)
  fq = simp Z (omega (arith, hp, s.requires.most, s.requires.below))

  bq : Back (pos s.args.self.over -ℤ pos part *ℤ pos 1000000)
  bq = fit_back fq

  fl : SFits w64 (pos low *ℤ pos s.args.kw)
  fl = simp Z (omega (arith, hk))

  bl : Back (pos low *ℤ pos s.args.kw)
  bl = fit_back fl

  fz : SFits w64 last
  fz = sfits_abs last (omega (arith, last_within s.args.self.each s.args.self.over s.args.payers s.args.tariff s.args.kw s.requires))

  bz : Back last
  bz = fit_back fz

  fw : SFits w64 (whole *ℤ pos 1000000)
  fw = simp Z (omega (arith, simp Z at hw))

  bw : Back (whole *ℤ pos 1000000)
  bw = fit_back fw

  fd : SFits w64 (s.args.self.each -ℤ whole *ℤ pos 1000000)
  fd = simp Z (omega (arith, simp Z at hw, simp Z at s.requires.near))

  bd : Back (s.args.self.each -ℤ whole *ℤ pos 1000000)
  bd = fit_back fd

  fe : SFits w64 (s.args.self.each -ℤ whole *ℤ pos 1000000 +ℤ more)
  fe = simp Z (omega (arith, simp Z at hw, simp Z at hm, simp Z at s.requires.near))

  bf : Back (s.args.self.each -ℤ whole *ℤ pos 1000000 +ℤ more)
  bf = fit_back fe

each_of : (r : Rest) (v : ℤ) (d : ℕ) → r ≡ rest_over v d → r.each ≡ floor_div v d
unfolding rest_over residual_of remainder_of
each_of r v d e = ap (λ (x : Rest). x.each) e

over-of : (r : Rest) (v : ℤ) (d : ℕ) → r ≡ rest_over v d → r.over ≡ nat_abs (v -ℤ floor_div v d *ℤ pos d)
unfolding rest_over residual_of remainder_of
over-of r v d e = ap (λ (x : Rest). x.over) e

-- read back, where a number is known to be another
read : {x y : ℤ} → x ≡ y → SFits w64 y → to_z w64 (of_z w64 x) ≡ y
read e f = ap (λ (x : ℤ). to_z w64 (of_z w64 x)) e ∙ fit_back f

read-nat : {m n : ℕ} → m ≡ n → n < 9223372036854775808 → to_z w64 m ≡ pos n
read-nat {m} {n} e h = ap (λ (x : ℕ). to_z w64 x) e ∙ of_nat n h

pub of-millions-requires : goal.of-millions-requires
of-millions-requires c = simp bt (tariff_divides _ _ _ _ _ c.requires)

module _ (c : After-of-millions) where
  first : c.of-millions.result ≡ rest_over c.args.tariff 1000000
  first = simp bt at c.of-millions.ensures

  el : c.of-millions.result.over ≡ low c.before
  el = over-of _ _ _ first

  bh : to_z w64 (of_z w64 c.of-millions.result.each) ≡ high c.before
  bh = read (each_of _ _ _ first) (sfits_abs _ (omega (arith, hh c.before)))

  bv : to_z w64 c.of-millions.result.over ≡ pos (low c.before)
  bv = read-nat el (omega (arith, hl c.before))

pub overflow_cast-low : goal.overflow_cast-low
overflow_cast-low c = rw (el c.before.before) (simp Z (omega (arith, hl c.before.before.before)))

pub overflow_mul-high : goal.overflow_mul-high
overflow_mul-high c = simp (bh, bk) (fs c.before.before.before)

pub of-share-requires : goal.of-share-requires
of-share-requires c = simp (bh, bk, bs) (share_divides _ _ _ _ _ c.requires)

module _ (c : After-of-share) where
  abbrev s2 : After-struct_told-1
  s2 = c.before.before.before.before

  second : c.of-share.result ≡ rest_over (high s2 *ℤ pos s2.args.kw) s2.args.payers
  second = simp (bh, bk, bs) at c.of-share.ensures

  ep : c.of-share.result.over ≡ part s2
  ep = over-of _ _ _ second

  bwhole : to_z w64 (of_z w64 c.of-share.result.each) ≡ whole s2
  bwhole = read (each_of _ _ _ second) (sfits_abs _ (omega (arith, hw s2)))

  bpart : to_z w64 c.of-share.result.over ≡ pos (part s2)
  bpart = read-nat ep (omega (arith, hp s2, s2.requires.most))

pub overflow_cast-part : goal.overflow_cast-part
overflow_cast-part c = let d = c.before.before in rw (ep d) (simp Z (omega (arith, hp (s2 d), (s2 d).requires.most)))

pub overflow_mul-part : goal.overflow_mul-part
overflow_mul-part c = simp bpart (fp (s2 c.before.before))

pub overflow_sub-over : goal.overflow_sub-over
overflow_sub-over c = simp (bpart, bo, bp) (fq (s2 c.before.before))

pub overflow_mul-low : goal.overflow_mul-low
overflow_mul-low c = simp (bv, bk) (fl (s2 c.before.before))

pub overflow_sub-over-2 : goal.overflow_sub-over-2
overflow_sub-over-2 c = simp (bpart, bo, bp, bq, bv, bk, bl) (fz (s2 c.before.before))

pub of-last-requires : goal.of-last-requires
of-last-requires c = simp (bpart, bo, bp, bq, bv, bk, bl, bz) (last_divides _ _ _ _ _ (s2 c.before.before).requires)

module _ (c : After-of-last) where
  abbrev s3 : After-struct_told-1
  s3 = s2 c.before.before.before

  third : c.of-last.result ≡ rest_over (last s3) s3.args.payers
  third = simp (bpart, bo, bp, bq, bv, bk, bl, bz) at c.of-last.ensures

  eo : c.of-last.result.over ≡ nat_abs (last s3 -ℤ more s3 *ℤ pos s3.args.payers)
  eo = over-of _ _ _ third

  bmore : to_z w64 (of_z w64 c.of-last.result.each) ≡ more s3
  bmore = read (each_of _ _ _ third) (sfits_abs _ (omega (arith, hm s3)))

pub overflow_mul-result : goal.overflow_mul-result
overflow_mul-result c = simp bwhole (fw (s3 c))

pub overflow_sub-result : goal.overflow_sub-result
overflow_sub-result c = simp (bwhole, be, bw) (fd (s3 c))

pub overflow_add-result : goal.overflow_add-result
overflow_add-result c = simp (bwhole, be, bw, bd, bmore) (fe (s3 c.before.before))

pub returns : goal.returns
returns c = simp (bwhole, be, bw, bd, bmore, bf, eo) (taken_rest _ _ _ _ _ (s3 c.before.before).requires)
