-- 6, and 02, request 4: what is walked, and what a visit finds.
use Rattle.std.specs.Prelude.{◌≡◌, Bool, true, false, not, ◌&&◌, ◌||◌, List, [], ℕ, ◌/◌, ◌≤◌, ◌<◌, min, eqb, Option, Some, unwrap_or}
use Rattle.meaning.specs.Network.{Network}
use Rattle.meaning.specs.Columns.{network_in, number_at}
use Rattle.meaning.proofs.Walk.{Joins}
use Rattle.bits.specs.Sets.{has, in_word}

-- the network of ends in columns, of at most 256 nodes and 512 circuits; an end may be any number, and one that is no node leads nowhere
abbrev pub walked : (nodes reference circuits : ℕ) (first second : List ℕ) → Network
walked nodes reference circuits first second = network_in (min nodes 256) (min circuits 512) reference first second []

-- circuit c has an end among the numbers of word w
abbrev pub ends_in : (first second : List ℕ) (w word c : ℕ) → Bool
ends_in first second w word c = in_word w word (number_at first c) || in_word w word (number_at second c)

-- v is a node of word w that waits: it was reached, and is not visited yet
abbrev pub waits_in : (reached visited : List ℕ) (w v : ℕ) → Bool
waits_in reached visited w v = eqb (v / 64) w && (has reached v && not (has visited v))

-- r is the lowest number, of those from `from` to m − 1, that passes the test; m where there is none
pub record LowestFrom (test : ℕ → Bool) (from m r : ℕ) : Type 0 where
  pub after : from ≤ r
  pub within : r ≤ m
  pub between : (j : ℕ) → from ≤ j → j < r → test j ≡ false
  pub here : r < m → test r ≡ true

-- the same as a search answers it
pub record NextFrom (test : ℕ → Bool) (from m : ℕ) (r : Option ℕ) : Type 0 where
  pub lowest : LowestFrom test from m (unwrap_or r m)
  pub below : (c : ℕ) → r ≡ Some c → c < m

-- a visit of these nodes has followed the first c circuits: what was reached stays; of a circuit that has an end among the nodes visited the other is reached;
-- and nothing else is: a test that all passed before, and that circuits lead on, is passed by all
pub record Followed (N : Network) (visited : ℕ → Bool) (c : ℕ) (old new : List ℕ) : Type 0 where
  pub kept : (v : ℕ) → has old v ≡ true → has new v ≡ true
  pub full : (j u v : ℕ) → j < c → visited u ≡ true → v < N.nodes → Joins N j u v → has new v ≡ true
  pub sound : (test : ℕ → Bool) → ((v : ℕ) → has old v ≡ true → test v ≡ true)
      → ((j u v : ℕ) → j < N.circuits → v < N.nodes → Joins N j u v → test u ≡ true → test v ≡ true) → (v : ℕ) → has new v ≡ true → test v ≡ true
