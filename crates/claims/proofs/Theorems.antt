-- The user's demands, proved: each statement is a type of meaning/specs/Demands.antt or, for requests 2, 3, 5, 6 and 12, Mirror.antt, Versions.antt, Backgrounds.antt, Shares.antt and OnlyDirections.antt, and its proof is in the file named here.
use Rattle.meaning.specs.Demands.{EveryInputSettled, AcceptedExactlyWhen, RefusedExactlyWhen, OneAnswer, JudgeIsWrite, RevenueRecovered, CentreBalances, SolversAgree, StationsHidden, CapacityKept, SheetsFit, AllButInterconnectorsPay, NoInterconnectorNoChange, TypesHidden}
use Rattle.meaning.specs.Mirror.{NearestMirrors, OnlyNegativeHalvesMove, FiguresMove, AveragesMirror, ZonesMirror, PrintedMirror, SidesMirror, MoneyMirrors}
use Rattle.meaning.specs.Versions.{OneSheetInEitherVersion, EveryCaseInVersionTwo, VersionOneByVoltage, FactorLast, NewVoltagesInVersionTwo, OwnFactorForBothLengths, NoFactorNoChange}
use Rattle.meaning.specs.Backgrounds.{SystemsInOrder, EditionOneIs01, EditionOneAnswers, RunsOfTheEdition, EachBackgroundServed, LengthsStandOnce, AllButIntermittentPayAtPeak, PeakIsPaid}
use Rattle.meaning.specs.Shares.{NoFileNoChange, PartsAddUp, PrintedParts, PartsBetween, ChainsEndAtOneCentre, LoadFactorsWeigh, ShareCut}
use Rattle.meaning.specs.OnlyDirections.{OnlyDirectionsCount, OwnDirectionsCount}
use Rattle.meaning.proofs.Mirror as Mirror
use Rattle.meaning.proofs.Versions as Versions
use Rattle.meaning.proofs.Twins as Twins
use Rattle.meaning.proofs.Systems as Systems
use Rattle.meaning.proofs.Present as Present
use Rattle.meaning.proofs.Backgrounds as BackgroundLaws
use Rattle.sharing.proofs.Adds as Adds
use Rattle.sharing.proofs.Centre as Centre
use Rattle.sharing.proofs.Loads as Loads
use Rattle.sizes.proofs.Accepted as Sizes
use Rattle.claims.proofs.Accepted
use Rattle.claims.proofs.Recovered
use Rattle.claims.proofs.Agree
use Rattle.claims.proofs.HiddenStations
use Rattle.claims.proofs.Stations
use Rattle.claims.proofs.Interconnectors
use Rattle.claims.proofs.Types
use Rattle.claims.proofs.Mirrored
use Rattle.claims.proofs.Backgrounds
use Rattle.claims.proofs.Shares
use Rattle.claims.proofs.OnlyDirections

-- demand 1: any bytes, runs, share file and buffer give the sheet, or a refusal of 01's table with the buffer untouched
pub every_input_settled : EveryInputSettled
every_input_settled = Accepted.every_input_settled

-- demand 2: accepted exactly when 1 to 11 and 13 to 16 do not hold, in a person's words, and the sheet fits
pub accepted_exactly_when : AcceptedExactlyWhen
accepted_exactly_when = Accepted.accepted_exactly_when

-- demands 1 and 2: and refused with this number, system and row exactly when 01's order stops the case there, in a person's words
pub refused_exactly_when : RefusedExactlyWhen
refused_exactly_when = Accepted.refused_exactly_when

-- accepted, or stopped by exactly one refusal
pub one_answer : OneAnswer
one_answer = Accepted.one_answer

-- what judges without a buffer answers what writes with room enough
pub judge_is_write : JudgeIsWrite
judge_is_write = HiddenStations.judge_is_write

-- demand 2: read back from its bytes, the sheet of an accepted case brings in the allowed revenue, less two printed remainders
pub revenue_recovered : RevenueRecovered
revenue_recovered = Recovered.revenue_recovered

-- step 8: with C, generation's and demand's zones balance by their shares, over the kilowatts that pay, in each background
pub centre_balances : CentreBalances
centre_balances = Recovered.centre_balances

-- demand 3: whatever the solver, an accepted case has its backgrounds, its directions, its metres to within one, and with equal proposals its sheet
pub solvers_agree : SolversAgree
solvers_agree = Agree.solvers_agree

-- demand 3: how a node's capacity is divided among stations is not seen, in a refusal neither
pub stations_hidden : StationsHidden
stations_hidden = HiddenStations.stations_hidden

-- demand 3: and a station divided in two, or listed elsewhere, leaves every capacity as it was
pub capacity_kept : CapacityKept
capacity_kept = Stations.capacity_kept

-- "Its own buffer holds any sheet these ranges allow, so it never prints 12."
pub sheets_fit : SheetsFit
sheets_fit = Sizes.sheets_fit

-- 02, request 1: all of a node's TEC weighs, and all but its interconnectors' pays
pub all_but_interconnectors_pay : AllButInterconnectorsPay
all_but_interconnectors_pay = Interconnectors.all_but_interconnectors_pay

-- and a case of edition 1 without interconnectors has 01's own C, rest, residual and remainder, and is never refused as 13
pub no_interconnector_no_change : NoInterconnectorNoChange
no_interconnector_no_change = Interconnectors.no_interconnector_no_change

-- and in edition 1 no answer and no sheet shows more of the stations than each node's TEC and its interconnectors': other plant types stay hidden
pub types_hidden : TypesHidden
types_hidden = Types.types_hidden

-- 02, request 2: a number's negative has the negative nearest
pub nearest_mirrors : NearestMirrors
nearest_mirrors = Mirror.nearest_mirrors

-- and of the roundings of 01 only a half below zero moved, by one
pub only_negative_halves_move : OnlyNegativeHalvesMove
only_negative_halves_move = Mirror.only_negative_halves_move

-- and so of the figures of a case: where none of its divisions leaves such a half, all are 01's
pub figures_move : FiguresMove
figures_move = Mirror.figures_move

-- negating metres and then averaging is averaging and then negating
pub averages_mirror : AveragesMirror
averages_mirror = Mirror.averages_mirror

-- a generation zone and a demand zone with the same nodes and weights have opposite metres, before and after C, and opposite tariffs
pub zones_mirror : ZonesMirror
zones_mirror = Mirror.zones_mirror

-- and print them
pub printed_mirror : PrintedMirror
printed_mirror = Mirrored.printed_mirrors

-- a case whose sides are exchanged and whose potentials are turned round has C and the local figures turned round, and its `G` and `D` figures exchanged
pub sides_mirror : SidesMirror
sides_mirror = Mirror.sides_mirror

-- and with the same revenue and no local income residuals, totals and remainders too: all of the sheet but its `L` lines
pub money_mirrors : MoneyMirrors
money_mirrors = Mirror.money_mirrors

-- 02, request 3: whole files that say the same, of either version, are settled, judged and printed alike, refusals included
pub one_sheet_in_either_version : OneSheetInEitherVersion
one_sheet_in_either_version = Versions.one_sheet_in_either_version

-- and each whole file of version 1 with up to 480 circuits has a twin of version 2 that says the same, solutions too
pub every_case_in_version_two : EveryCaseInVersionTwo
every_case_in_version_two = Twins.every_case_in_version_two

-- a file of version 1 has no factor but 0, whatever stands behind its rows
pub version_one_by_voltage : VersionOneByVoltage
version_one_by_voltage = Versions.version_one_by_voltage

-- and in version 2 a row's factor is its last four bytes
pub factor_last : FactorLast
factor_last = Versions.factor_last

-- circuits at 320 and 525 are accepted in version 2 alone
pub new_voltages_in_version_two : NewVoltagesInVersionTwo
new_voltages_in_version_two = Versions.new_voltages_in_version_two

-- a factor of its own is for both lengths of a row, and in place of the voltage's
pub own_factor_for_both_lengths : OwnFactorForBothLengths
own_factor_for_both_lengths = Versions.own_factor_for_both_lengths

-- and a row without one has 01's length
pub no_factor_no_change : NoFactorNoChange
no_factor_no_change = Versions.no_factor_no_change

-- 02, request 5: systems 1 and 4 are judged before 15 and 11, and 2, 5 and 3 after them; in edition 1 1, and 2 and 3
pub systems_in_order : SystemsInOrder
systems_in_order = Systems.systems_in_order

-- what is said over editions is, of edition 1, what 01 says, definition by definition
pub edition_one_is_01 : EditionOneIs01
edition_one_is_01 = Present.edition_one_is_01

-- and edition 1 never answers 14, 15 or 16, nor any refusal of system 4 or 5
pub edition_one_answers : EditionOneAnswers
edition_one_answers = Backgrounds.edition_one_answers

-- a case of edition 2 with three runs is refused as 1, and so is one of edition 1 with a run for peak
pub runs_of_the_edition : RunsOfTheEdition
runs_of_the_edition = Backgrounds.runs_of_the_edition

-- in each background of an accepted case what runs adds up to the demand, and at no node above its TEC
pub each_background_served : EachBackgroundServed
each_background_served = BackgroundLaws.each_background_served

-- a circuit's length stands in the system of its own mark and background, and in no other
pub lengths_stand_once : LengthsStandOnce
lengths_stand_once = BackgroundLaws.lengths_stand_once

-- year round all chargeable TEC pays, and at peak all but type 1's
pub all_but_intermittent_pay_at_peak : AllButIntermittentPayAtPeak
all_but_intermittent_pay_at_peak = BackgroundLaws.all_but_intermittent_pay_at_peak

-- and at peak at least the demand's kilowatts pay, so that C's divisor is above 0, by 14
pub peak_is_paid : PeakIsPaid
peak_is_paid = BackgroundLaws.peak_is_paid

-- 02, request 6: without a file, with an empty one and in edition 1 with any, every answer, sheet and print is as before
pub no_file_no_change : NoFileNoChange
no_file_no_change = Shares.no_file_no_change

-- shared and not-shared metres add up to the zone's metres, whatever the file
pub parts_add_up : PartsAddUp
parts_add_up = Adds.parts_add_up

-- and a zone's line shows them so
pub printed_parts : PrintedParts
printed_parts = Shares.printed_parts

-- a boundary's shared part lies between 0 and its distance, whichever sign
pub parts_between : PartsBetween
parts_between = Adds.parts_between

-- in an accepted case with a file in force there is one centre, where the chain of every zone with TEC ends
pub chains_end_at_one_centre : ChainsEndAtOneCentre
chains_end_at_one_centre = Centre.chains_end_at_one_centre

-- the shared tariff is charged on some of the kilowatts that pay; on all at full load, on none at no load
pub load_factors_weigh : LoadFactorsWeigh
load_factors_weigh = Loads.load_factors_weigh

-- a file longer than any sound one is a wrong length, and its front is judged as all of it
pub share_cut : ShareCut
share_cut = Shares.share_cut

-- 02, request 12: accepted cases of edition 1, of one network and the same directions have the same nodal distances, to within one metre, whatever their demand and TEC; that nothing less will do is in the crate `tutorial`
pub only_directions_count : OnlyDirectionsCount
only_directions_count = OnlyDirections.only_directions_count

-- and for the wider distances the directions of circuits without local mark are enough, for the local ones those of circuits with it
pub own_directions_count : OwnDirectionsCount
own_directions_count = OnlyDirections.own_directions_count
