-- TEC added up cell by cell, and through the types of a node.
use mathlib.Core.Path.{◌≡◌, refl, sym, ◌∙◌, ap}
use mathlib.Core.Bool.{Bool, true, false, cond, ◌&&◌}
use mathlib.Core.List.{List}
use Prim.Native.Nat.{ℕ, suc, ◌+◌, ◌*◌, ◌-◌, ◌/◌, ◌%◌, ◌^◌, ◌≤◌, ◌<◌}
use native.Mathlib.Decide.{dec_le, dec_lt}
use native.Mathlib.Omega.{arith}
use borrow.Author.Tests.{eq-eqb, ne_eqb, le-leb, lt-leb}
use lib.Dec.{eqb, leb, ltb}
use lib.ListN.{length, get_or, set, replicate, get_or-eq_default}
use Rattle.integers.specs.Numbers.{sum}
use Rattle.integers.proofs.Sum.{sum-zero, sum_more, sum_same, sum_bound, sum_none}
use Rattle.meaning.specs.Rows.{◌between◌and◌, rows}
use Rattle.meaning.specs.Study.{Study, station, no_station}
use Rattle.meaning.specs.File.{u32, station_at}
use Rattle.meaning.specs.Grid.{plant_of, place, tec_at, capacity_of, grid_of, over_types}
use Rattle.meaning.specs.declared.Kw.{Kw}
use Rattle.meaning.specs.declared.Plant.{Plant}
use Rattle.meaning.proofs.Rows.{rows_at, rows_past, rows_same, rows_set, rows_none}
use Rattle.meaning.proofs.Plants.{capacity_at, capacity_at_lem, capacity_past}
use Rattle.meaning.proofs.Says.{Says, says_as, ◌also◌, says_eq, says_lt, says_between, agree}
use Rattle.plants.specs.declared.Counted.{Counted}
use Rattle.plants.specs.Counted.{part_of}
use Rattle.plants.proofs.PlantLaws.{part_low}
use Rattle.layout.specs.Readable.{readable}
use Rattle.meaning.specs.Columns.{kilowatts, number_at, kw_at}
use Rattle.station_table.specs.Columns.{stations_of}
use Rattle.station_table.specs.Tec.{cell_of, cell_tec, types_of, Possible, possible_kw, types_tec, by_node}
use Rattle.station_table.specs.declared.StationColumns.{StationColumns}
use Rattle.station_table.proofs.ColumnAt.{station_node_at, plant_at, tec_at_lem, by_type_at}
use Rattle.layout.proofs.Rows.{stations_from}

-- ---- a cell
pub record Cell (nodes v plant_type : ℕ) : Type 0 where
  pub known : v < nodes
  pub least : 1 ≤ plant_type
  pub most : plant_type ≤ 7

says_cell : (nodes v plant_type : ℕ) → Says (ltb v nodes && plant_type between 1 and 7) (Cell nodes v plant_type)
says_cell nodes v t =
    says_as (says_lt also says_between)
    (λ p. record { known = p.0; least = p.1.least; most = p.1.most }, λ c. (c.known, record { least = c.least; most = c.most }))

pub cell_known : (nodes v plant_type : ℕ) → (ltb v nodes && (leb 1 plant_type && leb plant_type 7)) ≡ true → Cell nodes v plant_type
unfolding ◌between◌and◌
cell_known nodes v t = (says_cell nodes v t).0

cell_some : (nodes v plant_type : ℕ) → Cell nodes v plant_type → 7 * v + plant_type - 1 ≡ cell_of nodes v plant_type
unfolding cell_of
cell_some nodes v t c = rw ((says_cell nodes v t).1 c) refl

-- the cell of a node and a plant type is theirs alone
module _ (nodes v t c : ℕ) (h : c < 1792) where
  cell_back : cell_of nodes v t ≡ c → (v < nodes) × (v ≡ c / 7) × (t ≡ suc (c % 7))
  unfolding cell_of
  cell_back = go (ltb v nodes && t between 1 and 7) (says_cell nodes v t).0
    where
      go : (b : Bool) → (b ≡ true → Cell nodes v t) → cond b (7 * v + t - 1) 1792 ≡ c → (v < nodes) × (v ≡ c / 7) × (t ≡ suc (c % 7))
      go true k e = let k = k refl in (k.known, omega arith, omega arith)
      go false k e = absurd (omega arith)

  cell_test : c / 7 < nodes → eqb (cell_of nodes v t) c ≡ (eqb v (c / 7) && eqb t (suc (c % 7)))
  cell_test l = agree _ _ (says_as says_eq (λ e. let b = cell_back e in (b.1, b.2), there)) (says_eq also says_eq)
    where
      there : (v ≡ c / 7) × (t ≡ suc (c % 7)) → cell_of nodes v t ≡ c
      there p = sym (cell_some nodes v t (record { known = omega (arith, p.0); least = omega (arith, p.1); most = omega (arith, p.1) })) ∙ omega (arith, p.0, p.1)

  cell_out : nodes ≤ c / 7 → eqb (cell_of nodes v t) c ≡ false
  cell_out l = ne_eqb _ _ (λ e. let b = cell_back e in omega (arith, b.0, b.1))

-- ---- one pass over the stations
module _ (nodes : ℕ) (node plant : List ℕ) (tec : List Kw) where
  abbrev pub cells : ℕ → List Kw
  cells k = rows 1792 (λ c. kilowatts (cell_tec nodes node plant tec k c))

  pub cells_none : replicate 1792 (kilowatts 0) ≡ cells 0
  unfolding cell_tec
  cells_none = rows_none 1792 _ _ (λ c l. ap kilowatts (sum-zero _))

  cells_low : ((k : ℕ) → kw_at tec k < 2 ^ 32) → (k c : ℕ) → cell_tec nodes node plant tec k c ≤ k * 4294967295
  unfolding cell_tec
  cells_low h k c = sum_bound 4294967295 k _ (λ i l. at_most (eqb (cell_of nodes (number_at node i) (number_at plant i)) c) (kw_at tec i) (h i))
    where
      at_most : (b : Bool) (x : ℕ) → x < 2 ^ 32 → cond b x 0 ≤ 4294967295
      at_most true x l = omega arith
      at_most false x l = omega arith

  module _ (k cell : ℕ) {sums : List Kw} (e : sums ≡ cells k) where
    cells_here : cell < 1792 → kw_at sums cell ≡ cell_tec nodes node plant tec k cell
    cells_here h = rw e (ap (λ w. w.0) (rows_at (kilowatts 0) 1792 (λ c. kilowatts (cell_tec nodes node plant tec k c)) cell h))

    pub cells_more : cell ≡ cell_of nodes (number_at node k) (number_at plant k) → cell < 1792
        → set sums cell (kilowatts (kw_at sums cell + kw_at tec k)) ≡ cells (k + 1)
    unfolding cell_tec
    cells_more q h =
        rw (cells_here h, e) (rows_set 1792 _ _ cell _ h
        (ap kilowatts (sym (sum_more k _ ∙ rw (← q) (simp (eq-eqb cell cell refl)))))
        (λ j l d. ap kilowatts (sym (sum_more k _ ∙ rw (← q) (simp (ne_eqb cell j (λ p. d (sym p))) (omega arith))))))

    pub cells_past : cell ≡ cell_of nodes (number_at node k) (number_at plant k) → 1792 ≤ cell → sums ≡ cells (k + 1)
    unfolding cell_tec
    cells_past q h =
        e ∙ rows_same 1792 _ _
        (λ j l. ap kilowatts (sym (sum_more k _ ∙ rw (← q) (simp (ne_eqb cell j (λ p. omega arith)) (omega arith)))))

    -- a sum fits 64 bits, and so does one more station's TEC
    pub cells_fit : ((k : ℕ) → kw_at tec k < 2 ^ 32) → k < 512 → cell < 1792 → kw_at sums cell + kw_at tec k < 2 ^ 64
    cells_fit h l m = omega (arith, cells_here m, cells_low h k cell, h k)

    pub cells_all : ((k : ℕ) → kw_at tec k < 2 ^ 32) → k ≤ 512 → kw_at sums cell ≤ 2199023255040
    cells_all h l = go (dec_lt cell 1792)
      where
        go : Dec (cell < 1792) → kw_at sums cell ≤ 2199023255040
        go (yes m) = omega (arith, cells_here m, cells_low h k cell)
        go (no m) =
            let z : kw_at sums cell ≡ 0 = rw e (ap (λ w. w.0) (rows_past (kilowatts 0) 1792 (λ c. kilowatts (cell_tec nodes node plant tec k c)) cell (omega arith))) in
            omega arith

-- ---- through the types of each node
-- a cell that a file can have, and one that none has
pub possible_is : (kw : ℕ) → kw ≤ 2199023255040 → possible_kw kw ≡ kw
unfolding possible_kw
possible_is kw h = rw (le-leb kw 2199023255040 h) refl

pub impossible : (kw : ℕ) → 2199023255040 < kw → possible_kw kw ≡ 0
unfolding possible_kw
impossible kw h = rw (lt-leb kw 2199023255040 h) refl

possible_low : (kw : ℕ) → possible_kw kw ≤ 2199023255040
possible_low kw = go (dec_le kw 2199023255040)
  where
    go : Dec (kw ≤ 2199023255040) → possible_kw kw ≤ 2199023255040
    go (yes h) = omega (arith, possible_is kw h)
    go (no h) = omega (arith, impossible kw (omega arith))

-- what counts of a cell fits, and so do seven of them
pub cell_low : (counted : Counted) (plant : Plant) (kw : ℕ) → part_of counted plant (possible_kw kw) ≤ 2199023255040
cell_low counted plant kw = omega (arith, part_low counted plant (possible_kw kw), possible_low kw)

-- type by type
module _ (counted : Counted) (by : List Kw) (v : ℕ) where
  pub types_none : 0 ≡ types_tec counted by 0 v
  unfolding types_tec
  types_none = sym (sum-zero _)

  pub types_more : (t : ℕ) {sums more cell : ℕ} {plant : Plant} → sums ≡ types_tec counted by t v → plant ≡ plant_of (suc t)
      → more ≡ part_of counted plant (possible_kw (kw_at by cell)) → cell ≡ 7 * v + t → sums + more ≡ types_tec counted by (t + 1) v
  unfolding types_tec
  types_more t e p m l = rw (e, m, p, l) (sym (sum_more t _))

  pub types_low : (t : ℕ) → types_tec counted by t v ≤ t * 2199023255040
  unfolding types_tec
  types_low t = sum_bound 2199023255040 t _ (λ i l. cell_low counted (plant_of (suc i)) (kw_at by (7 * v + i)))

-- ---- of a study
module _ (S : Study) where
  abbrev capacity : ℕ → ℕ → ℕ
  capacity v t = capacity_at (grid_of S) v t

  abbrev C : StationColumns
  C = stations_of S

  module _ (k : ℕ) (h : k < 512) where
    -- a station's part of a cell
    part : (c : ℕ) → c < 1792 → c / 7 < length S.nodes
        → cond (eqb (cell_of (length S.nodes) (number_at C.node k) (number_at C.plant k)) c) (kw_at C.tec k) 0
        ≡ tec_at S.nodes (station S.stations k) (c / 7) (suc (c % 7))
    unfolding tec_at
    part c l m =
        let r = station S.stations k in
        rw (station_node_at S k h, plant_at S k h, tec_at_lem S k h, cell_test (length S.nodes) (place S.nodes r.node) r.plant_type c l m) refl

  cell_is : (c : ℕ) → length S.stations ≤ 512 → c < 1792
      → cell_tec (length S.nodes) C.node C.plant C.tec (length S.stations) c ≡ capacity (c / 7) (c % 7)
  unfolding cell_tec capacity_of
  cell_is c few l = go (dec_lt (c / 7) (length S.nodes))
    where
      go : Dec (c / 7 < length S.nodes)
          → sum (length S.stations) (λ k. cond (eqb (cell_of (length S.nodes) (number_at C.node k) (number_at C.plant k)) c) (kw_at C.tec k) 0)
          ≡ capacity (c / 7) (c % 7)
      go (yes m) = sum_same _ _ _ (λ k h. part k (omega arith) c l m) ∙ sym (capacity_at_lem S (c / 7) (c % 7) m (omega arith))
      go (no m) =
          sum_none _ _ (λ k h. simp (cell_out (length S.nodes) (number_at C.node k) (number_at C.plant k) c l (omega arith)))
          ∙ sym (capacity_past S (c / 7) (c % 7) (omega arith))

  pub by_type_is : (nodes count : ℕ) (columns : StationColumns) (by : List Kw) → nodes ≡ length S.nodes → count ≡ length S.stations → columns ≡ C
      → count ≤ 512 → by ≡ cells nodes columns.node columns.plant columns.tec count → by ≡ types_of S
  unfolding types_of
  by_type_is nodes count columns by n k e few q =
      q ∙ rw (n, k, e) (rows_same 1792 _ _ (λ c l. ap kilowatts (cell_is c (omega arith) l)))

  -- what counts at a node, through its types
  pub by_node_at : (by : List Kw) → by ≡ types_of S → Possible by → (counted : Counted) (v : ℕ) → v < 256
      → kw_at (by_node by counted) v ≡ over_types (part_of counted) (grid_of S) v
  unfolding by_node types_tec over_types
  by_node_at by e possible counted v l =
      ap (λ w. w.0) (rows_at (kilowatts 0) 256 (λ v. kilowatts (types_tec counted by 7 v)) v l)
      ∙ sum_same 7 _ _ (λ t m. ap (part_of counted (plant_of (suc t))) (possible_is (kw_at by (7 * v + t)) (possible (7 * v + t)) ∙ here t m))
    where
      here : (t : ℕ) → t < 7 → kw_at by (7 * v + t) ≡ capacity v t
      here t m =
          let q : (7 * v + t) / 7 ≡ v = omega arith in
          let r : (7 * v + t) % 7 ≡ t = omega arith in
          rw e (by_type_at S (7 * v + t) (omega arith) ∙ rw (q, r) refl)

-- ---- of a file: a station's TEC is a u32
u32_below : (file : List ℕ) (at : ℕ) → ((i : ℕ) → get_or file i 0 < 256) → u32 file at < 2 ^ 32
unfolding u32
u32_below file at h = omega (arith, h at, h (at + 1), h (at + 2), h (at + 3))

module _ (file : List ℕ) (bytes : (i : ℕ) → get_or file i 0 < 256) where
  station_below : (k : ℕ) → (station (readable file).stations k).tec < 2 ^ 32
  unfolding station_at
  station_below k = go (dec_lt k (length (readable file).stations))
    where
      go : Dec (k < length (readable file).stations) → (station (readable file).stations k).tec < 2 ^ 32
      go (yes h) = let from = stations_from file refl in rw (from.at k (omega (arith, from.count))) (u32_below file _ bytes)
      go (no h) =
          let l : length (readable file).stations ≤ k = omega arith in
          rw (get_or-eq_default (readable file).stations no_station l) (omega arith)

  pub tec_below : {columns : StationColumns} → columns ≡ stations_of (readable file) → (k : ℕ) → kw_at columns.tec k < 2 ^ 32
  unfolding stations_of
  tec_below e k = rw e (go (dec_lt k 512))
    where
      go : Dec (k < 512) → kw_at (stations_of (readable file)).tec k < 2 ^ 32
      go (yes h) = rw (tec_at_lem (readable file) k h) (station_below k)
      go (no h) =
          let z : kw_at (stations_of (readable file)).tec k ≡ 0 = ap (λ w. w.0) (rows_past (kilowatts 0) 512 (λ k. kilowatts (station (readable file).stations k).tec) k (omega arith)) in
          omega arith
