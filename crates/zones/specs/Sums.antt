-- 01, steps 6 and 7, over columns as code has them: what the nodes of each zone add up to.
use Rattle.std.specs.Prelude.{Bool, cond, ◌&&◌, List, ℕ, suc, ◌+◌, ◌-◌, ◌*◌, ◌≤◌, ◌<◌, leb, ℤ, pos, nat_abs, ◌+ℤ◌, ◌*ℤ◌, length, get_or}
use Rattle.meaning.specs.declared.Kw.{Kw}
use Rattle.meaning.specs.declared.Side.{Side}
use Rattle.meaning.specs.Columns.{kilowatts, number_at, kw_at}
use Rattle.meaning.specs.Charging.{metres, turned, in_zone, weighed_in}
use Rattle.meaning.specs.Proposal.{potential}
use Rattle.meaning.specs.Rows.{rows, ◌between◌and◌}
use Rattle.zones.specs.declared.ZoneSums.{ZoneSums}
use Rattle.zones.specs.declared.node.Part.{Part}

-- 01, Quantities: a zone from 1 to 32, kilowatts up to 10^8; and a distance up to 10^7 m, which is a potential up to 10^16 nm
unfoldable pub in_ranges : (zone weight paying : ℕ) (distance : ℤ) → Bool
in_ranges zone weight paying distance =
    zone between 1 and 32 && leb weight 100000000 && leb paying 100000000 && leb (nat_abs distance) 10000000

-- a zone without nodes
abbrev pub no_sums : ZoneSums
no_sums = record { weight = kilowatts 0; weighed = pos 0; paying = kilowatts 0 }

-- what a node adds to its zone, counted from 0: kilowatts that weigh, its distance times those, kilowatts that pay; nothing where a number is out of range
abbrev pub no_part : Part
no_part = record { slot = 0; adds = no_sums }

unfoldable pub part_of : Side → (zone : ℕ) (weight paying : Kw) (potential : ℤ) → Part
part_of side zone weight paying potential =
    let m = turned side (metres potential) in
    cond (in_ranges zone weight.0 paying.0 m)
    (record { slot = zone - 1; adds = record { weight = weight; weighed = m *ℤ pos weight.0; paying = paying } })
    no_part

module _ (side : Side) (zone : List ℕ) (weight paying : List Kw) (wider : List ℤ) where
  -- what node v adds
  abbrev pub part_at : ℕ → Part
  part_at v = part_of side (number_at zone v) (get_or weight v (kilowatts 0)) (get_or paying v (kilowatts 0)) (potential wider v)

  -- its distance, and whether it counts
  abbrev pub far : ℕ → ℤ
  far v = turned side (metres (potential wider v))

  abbrev pub counts : ℕ → Bool
  counts v = in_ranges (number_at zone v) (kw_at weight v) (kw_at paying v) (far v)

  -- its kilowatts, of which there are none where it does not
  abbrev pub weighs : ℕ → ℕ
  weighs v = cond (counts v) (kw_at weight v) 0

  abbrev pub pays : ℕ → ℕ
  pays v = cond (counts v) (kw_at paying v) 0

  -- step 7: the sums of a zone over the first n nodes
  unfoldable pub sums_to : (n zone : ℕ) → ZoneSums
  sums_to n z =
      record {
        weight = kilowatts (in_zone n (number_at zone) weighs z);
        weighed = weighed_in n (number_at zone) far weighs z;
        paying = kilowatts (in_zone n (number_at zone) pays z);
      }

-- the nodes that a run has a potential for; none where it has not for all, or where they are more than 256
unfoldable pub nodes_in : (n run : ℕ) → ℕ
nodes_in n run = cond (leb n 256 && leb n run) n 0

-- zones 1 to 32 of n nodes
unfoldable pub zone_sums : Side → (n : ℕ) (zone : List ℕ) (weight paying : List Kw) (wider : List ℤ) → List ZoneSums
zone_sums side n zone weight paying wider = rows 32 (λ k. sums_to side zone weight paying wider (nodes_in n (length wider)) (suc k))

-- the sums with one node more
unfoldable pub plus : (sums adds : ZoneSums) → ZoneSums
plus z p =
    record {
      weight = kilowatts (z.weight.0 + p.weight.0);
      weighed = z.weighed +ℤ p.weighed;
      paying = kilowatts (z.paying.0 + p.paying.0);
    }

-- what a node adds, and what 256 of them come to
pub record AddsFit (p : ZoneSums) : Type 0 where
  pub weight : p.weight.0 ≤ 100000000
  pub weighed : nat_abs p.weighed ≤ 10000000 * p.weight.0
  pub paying : p.paying.0 ≤ 100000000

pub record PartFits (p : Part) : Type 0 where
  pub slot : p.slot < 32
  pub adds : AddsFit p.adds

pub record SumsFit (z : ZoneSums) : Type 0 where
  pub weight : z.weight.0 ≤ 25600000000
  pub weighed : nat_abs z.weighed ≤ 10000000 * z.weight.0
  pub paying : z.paying.0 ≤ 25600000000
