-- the page to open first
pub mod Theorems
-- demands 1 and 2: every input is settled; accepted exactly when
pub mod Listed
pub mod Accepted
-- demand 3: stations stay hidden
pub mod Same
pub mod HiddenStations
pub mod Stations
-- demand 3 and 02, request 12: one system of two cases, only directions count, solvers agree
pub mod Close
pub mod Distances
pub mod OnlyDirections
pub mod Agree
-- demand 2: the revenue is recovered, read back from the bytes of the sheet; what else its lines show
pub mod Digits
pub mod Pieces
pub mod Names
pub mod Lines
pub mod Pays
pub mod ReadBack
pub mod Shown
pub mod Money
pub mod Recovered
-- 02, request 1: who pays, and what is seen of plant types
pub mod Interconnectors
pub mod Types
-- 02, request 2: generation and demand mirror each other
pub mod Mirrored
-- 02, request 5: what edition 1 can answer, and the runs of an edition
pub mod Backgrounds
-- 02, request 6: without a file in force nothing changes; a file too long is a wrong length
pub mod Shares
-- a refusal read back from its line
pub mod Told
-- nothing of it is vacuous
pub mod Instance
pub mod InstanceHolds
pub mod InstanceBoth
pub mod InstanceBothHolds
pub mod Tarn
pub mod Halves
