-- 01, steps 2, 4 and 5 over a case in columns and a run, as code has them. A number past the end of a column or of a run is 0.
use Rattle.std.specs.Prelude.{Bool, cond, ◌&&◌, List, [], ℕ, ◌+◌, ◌*◌, ◌-◌, eqb, leb, ℤ, pos, nat_abs, ◌-ℤ◌, length, get_or}
use Rattle.meaning.specs.declared.Background.{Background}
use Rattle.meaning.specs.declared.System.{System}
use Rattle.meaning.specs.declared.System.TheVariants.{Base, Wider, Local}
use Rattle.meaning.specs.Rows.{all, rows}
use Rattle.meaning.specs.Columns.{number_at, network_in, column}
use Rattle.meaning.specs.Network.{Network}
use Rattle.meaning.specs.Editions.{same_background}
use Rattle.meaning.specs.Direction.{direction, signed, background}
use Rattle.meaning.specs.Proposal.{potential, flow, flow_out, flow_in, miss_sum}
use Rattle.meaning.specs.declared.Edition.{Edition}
use Rattle.numbers.specs.declared.Heading.{Heading}
use Rattle.numbers.specs.Numbers.{heading_by, no_heading}
use Rattle.flows.specs.declared.Case.{Case}

-- number i of a column
abbrev pub number : List ℤ → ℕ → ℤ
number column i = get_or column i (pos 0)

-- "one i64 potential a node, then one i64 flow a circuit": the circuits that a run of that length has a flow for, of at most 512
unfoldable pub circuits_in : (n long : ℕ) → ℕ
circuits_in n long = cond (leb (long - n) 512) (long - n) 512

-- the network of columns: the circuits are those that a run has a flow for
abbrev pub net_of : (n reference : ℕ) (first second x : List ℕ) (run : List ℤ) → Network
net_of n reference first second x run = network_in n (circuits_in n (length run)) reference first second x

-- the network of a case
abbrev pub net_in : Case → (run : List ℤ) → Network
net_in k run = net_of k.nodes k.reference k.first k.second k.x run

-- ---- step 2, and 9
-- Quantities: a flow of magnitude up to 10^14; one out of that range counts as none
unfoldable pub carried : ℤ → ℤ
carried z = cond (leb (nat_abs z) 100000000000000) z (pos 0)

-- "flow out less flow in" at node v
abbrev pub net_flow : Network → (flow : ℕ → ℤ) → ℕ → ℤ
net_flow N flow v = flow_out N flow v -ℤ flow_in N flow v

-- the same of each node, by the flows of a run: the reference and the x have no part in it
unfoldable pub net_flows : (n : ℕ) (first second : List ℕ) (run : List ℤ) → List ℤ
net_flows n first second run =
    let N = net_of n 0 first second [] run in
    rows 256 (net_flow N (λ c. carried (flow N run c)))

-- ---- step 2, and 10
-- Quantities: potentials up to 2 x 10^18, x up to 10,000, a flow up to 10^14, an offset up to 3 x 10^16 (10^6 times the longest expanded length)
unfoldable pub in_ranges : (p q : ℤ) (x : ℕ) (flow offset : ℤ) → Bool
in_ranges p q x flow offset =
    leb (nat_abs p) 2000000000000000000 && leb (nat_abs q) 2000000000000000000 && leb x 10000 && leb (nat_abs flow) 100000000000000 && leb (nat_abs offset) 30000000000000000

-- what the miss of circuit c is made of is in range
abbrev pub measured : Network → (offset run : List ℤ) → ℕ → Bool
measured N offset run c = in_ranges (potential run (N.first c)) (potential run (N.second c)) (N.x c) (flow N run c) (number offset c)

-- "The sum of the magnitudes of misses must be at most 100,000,000", and what it is made of in range: the reference has no part in it
unfoldable pub misses_low : (n : ℕ) (first second x : List ℕ) (offset run : List ℤ) → Bool
misses_low n first second x offset run =
    let N = net_of n 0 first second x run in
    all (measured N offset run) N.circuits && leb (miss_sum N (number offset) (potential run) (flow N run)) 100000000

-- ---- steps 4 and 5
-- "1,000,000 times the expanded length, with the base flow's sign, or 0 when idle"; a length above 3 x 10^10 mm, which no circuit has, counts as none
unfoldable pub signed_by : (length : ℕ) (flow : ℤ) → ℤ
signed_by length flow = cond (leb length 30000000000) (signed (direction flow) (pos (1000000 * length))) (pos 0)

-- 02, request 5: a length "stands in its wider solution only"
unfoldable pub wider_in : Background → (length : ℕ) → Heading → ℤ
wider_in b length h = cond (same_background b (background h.counting)) (signed_by length h.flow) (pos 0)

-- "the signed length of circuits without local mark, 0 for others", and "the mark turned round"
unfoldable pub offset_in : System → (length mark : ℕ) → Heading → ℤ
offset_in (Base b) length mark h = pos 0
offset_in (Wider b) length mark h = cond (eqb mark 0) (wider_in b length h) (pos 0)
offset_in Local length mark h = cond (eqb mark 0) (pos 0) (signed_by length h.flow)

-- the heading of circuit c, by the flows of the two base runs
abbrev pub heading_at : Edition → (n : ℕ) (mark : List ℕ) (base peak_base : List ℤ) → ℕ → Heading
heading_at edition n mark base peak_base c = heading_by edition (number_at mark c) (number base (n + c)) (number peak_base (n + c))

-- the same of each circuit that the base run has a flow for, and none past them
unfoldable pub headings_of : Edition → (n : ℕ) (mark : List ℕ) (base peak_base : List ℤ) → List Heading
headings_of edition n mark base peak_base = column no_heading 512 (circuits_in n (length base)) (heading_at edition n mark base peak_base)

-- the same of a case
abbrev pub headings_in : Case → (base peak_base : List ℤ) → List Heading
headings_in k base peak_base = headings_of k.edition k.nodes k.mark base peak_base

-- the offset of circuit c in a system, by its heading
abbrev pub offset_at : System → (lengths mark : List ℕ) (headings : List Heading) → ℕ → ℤ
offset_at system lengths mark headings c = offset_in system (number_at lengths c) (number_at mark c) (get_or headings c no_heading)

-- the same of each row
unfoldable pub offsets_of : System → (lengths mark : List ℕ) (headings : List Heading) → List ℤ
offsets_of system lengths mark headings = column (pos 0) 512 512 (offset_at system lengths mark headings)
