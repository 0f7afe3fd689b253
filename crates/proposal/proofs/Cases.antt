-- A case in columns: what the judge asks, and that it judges what is proposed.
use mathlib.Core.Path.{◌≡◌, refl, ◌∙◌, ap}
use mathlib.Core.Bool.{Bool, true, false, cond}
use mathlib.Core.List.{List, []}
use Prim.Native.Nat.{ℕ, ◌<◌}
use native.Mathlib.Omega.{arith}
use lib.Dec.{ltb}
use lib.IntN.{ℤ, pos}
use lib.ListN.{length, replicate}
use Rattle.meaning.specs.declared.Background.{Background}
use Rattle.meaning.specs.declared.System.{System}
use Rattle.meaning.specs.declared.System.TheVariants.{Base}
use Rattle.meaning.specs.Columns.{column}
use Rattle.meaning.specs.Proposal.{system_stage}
use Rattle.meaning.proofs.Rows.{rows_none}
use Rattle.meaning.proofs.Networks.{network_self, system_same}
use Rattle.supply.specs.Supply.{supply_in}
use Rattle.numbers.specs.declared.Heading.{Heading}
use Rattle.flows.specs.declared.Case.{Case}
use Rattle.flows.specs.Flows.{number, net_in, offset_in, offset_at, offsets_of}
use Rattle.flows.proofs.Circuits.{counted}
use Rattle.flows.proofs.Signed.{offset_small_lem, offsets_at}
use Rattle.proposal.specs.Case.{proposed_in, offered_in, solution_in, Ready, Judgeable}

-- the offsets of a base system, whatever the headings
pub no_offsets : (b : Background) (k : Case) → replicate 512 (pos 0) ≡ offsets_of (Base b) k.length k.mark []
unfolding offsets_of column offset_in
no_offsets b k = rows_none 512 _ (pos 0) (λ i h. none (ltb i 512))
  where
    none : (t : Bool) → cond t (pos 0) (pos 0) ≡ pos 0
    none true = refl
    none false = refl

module _ (system : System) (k : Case) (headings : List Heading) (run supply offset : List ℤ) (j : Judgeable k run)
    (p : supply ≡ supply_in system k.supply k.peak_supply) (q : offset ≡ offsets_of system k.length k.mark headings) where
  offset_is : (c : ℕ) → c < (net_in k run).circuits → number offset c ≡ offset_at system k.length k.mark headings c
  offset_is c h = ap (λ (l : List ℤ). number l c) q ∙ offsets_at system k.length k.mark headings c (omega (arith, (counted k.nodes (length run)).few))

  pub ready : Ready k.nodes k.x offset run
  ready = record {
    based = j.based;
    x_small = j.x_small;
    offset_small = λ c h. rw (offset_is c h) (offset_small_lem system _ _ _);
  }

  pub judged_as : system_stage (net_in k run) (proposed_in system supply offset run) ≡ solution_in system k headings run
  judged_as = system_same (net_in k run) (net_in k run) (proposed_in system supply offset run) (offered_in system k headings run) (network_self (net_in k run)) (record {
    system = refl;
    limit = refl;
    run = refl;
    offset = offset_is;
    supply = λ v h. ap (λ (l : List ℤ). number l v) p;
  })
