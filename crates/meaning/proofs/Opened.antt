-- Every definition on the way from bytes to a settled buffer, and back from a sheet, open: a test that names `opened` on its `unfolding` line computes.
use mathlib.Core.List.{List}
use Prim.Native.Nat.{ℕ}
use Rattle.integers.specs.Numbers.{sum, Σ, floor_div, rounded, nearest}
use Rattle.meaning.specs.Study.{Runs}
use Rattle.meaning.specs.Outcome.{Settled}
use Rattle.meaning.specs.Rows.{◌between◌and◌, first_of, lowest, found, all, rows, joined, every}
use Rattle.meaning.specs.Name.{name_byte, unpadded, well_formed, same_name}
use Rattle.meaning.specs.File.{u32, u64, name_at, edition_at, circuit_size, record_size, most_circuits, section_offset, section_count, version_of, stated_length, section_start, section, chained, counted, known_edition, file_whole, run_length, runs_whole, settings_at, node_at, factor_at, circuit_at, station_at, study_of, i64, runs_in}
use Rattle.meaning.specs.Editions.{edition_of, over_backgrounds, system_number}
use Rattle.meaning.specs.Answers.{refusal, values, ◌or_else◌, unless, at, in_second, when}
use Rattle.meaning.specs.Tables.{seen_earlier, known, sound_scales, sound_settings, sound_node_row, new_voltage, sound_voltage, sound_factor, sound_circuit_row, sound_station_row, sound_node, sound_circuit, sound_station, settings_stage, nodes_stage, circuits_stage, stations_stage}
use Rattle.meaning.specs.Grid.{plant_of, pays, pays_in, place, tec_at, capacity_of, grid_of, over_types, sound_totals, totals_stage, chargeable_stage}
use Rattle.meaning.specs.Network.{network_of, leads_to, spread, reached_by, reached_nodes, reach_stage}
use Rattle.meaning.specs.Scaled.{whole_share, left_over, missing, scaled}
use Rattle.meaning.specs.Generation.{runs_as, fixed_part, is_variable, fixed_kw, variable_tec, remaining, generation, net, scalable, scaling_stage}
use Rattle.meaning.specs.Direction.{overhead_factor, cable_factor, own_or, expanded_length, direction, in_doubt, by_flows, counts_for, is_doubtful, background, has_length, signed, signed_length}
use Rattle.meaning.specs.Proposal.{flow_out, flow_in, miss, miss_sum, number_in_range, balanced, range_stage, balance_stage, miss_stage, system_stage}
use Rattle.meaning.specs.Systems.{limit_of, in_order, ordered, supply, counting, length_of, offset, proposed, counting_clear, counting_stage, direction_clear, direction_stage, proposals_stage}
use Rattle.meaning.specs.Sharing.{in_force, next_inward, load_factor, after, passes, names_one_with_tec, names_with_tec, is_centre, second_centre, ended, sound_zone, sound_frame, share_file_stage, factor_over, factor_under, shared_distance, behind, along, centre_of, boundary, shared_part, not_shared_part, shared_along, not_shared_along, not_shared_metres, shared_metres, shared_kw, sharing_on}
use Rattle.meaning.specs.Charging.{metres, tariff, residual_of, remainder_of}
use Rattle.meaning.specs.Figures.{low_carbon, zone_tec_of, zone_tec, loaded_kw, share_stage, sharing, form_of, wider_metres, local_metres, distance, zones, zone_of, weight, paying, paying_in, zone_weight, zone_paying, zone_paying_in, total_paying, total_paying_in, zonal_metres, basis}
use Rattle.meaning.specs.Charging as charging
use Rattle.meaning.specs.Text.{digits, natural, decimal, decimals, ends, line}
use Rattle.meaning.specs.Sheet.{constant_fields, letter, zone_numbers, zone_fields, node_fields, node_line, remainder_fields, zone_lines, node_lines, sheet_text, sheet}
use Rattle.meaning.specs.Outcome.{file_stage, runs_stage, rows_stage, grid_stage, tables_stage, judged, refused, written, buffer_stage, answered_by, answer_of, settled_by, settle, refused_fields, refused_line, printed_by, prints}
use Rattle.meaning.specs.Read.{printed_shared_metres, printed_shared_tariff, with_front, pieces, field, read_natural, read_whole, has_letter, padded, over_lines, metres_field, residual_field, zone_income, node_income, line_income, side_income, printed_income, remainder_field, printed_remainder}

unfoldable pub opened : (file : List ℕ) → Runs → (share buffer : List ℕ) → Settled
unfolding sum Σ floor_div rounded nearest ◌between◌and◌ first_of lowest found all rows joined every name_byte unpadded well_formed same_name u32 u64 name_at edition_at circuit_size record_size most_circuits section_offset section_count version_of stated_length section_start section chained counted known_edition file_whole run_length runs_whole settings_at node_at factor_at circuit_at station_at study_of i64 runs_in edition_of over_backgrounds system_number refusal values ◌or_else◌ unless at in_second when seen_earlier known sound_scales sound_settings sound_node_row new_voltage sound_voltage sound_factor sound_circuit_row sound_station_row sound_node sound_circuit sound_station settings_stage nodes_stage circuits_stage stations_stage plant_of pays pays_in place tec_at capacity_of grid_of over_types sound_totals totals_stage chargeable_stage network_of leads_to spread reached_by reached_nodes reach_stage whole_share left_over missing scaled runs_as fixed_part is_variable fixed_kw variable_tec remaining generation net scalable scaling_stage overhead_factor cable_factor own_or expanded_length direction in_doubt by_flows counts_for is_doubtful background has_length signed signed_length flow_out flow_in miss miss_sum number_in_range balanced range_stage balance_stage miss_stage system_stage limit_of in_order ordered supply counting length_of offset proposed counting_clear counting_stage direction_clear direction_stage proposals_stage metres tariff residual_of remainder_of wider_metres local_metres distance zones zone_of weight paying paying_in zone_weight zone_paying zone_paying_in total_paying total_paying_in zonal_metres basis digits natural decimal decimals ends line constant_fields letter zone_numbers zone_fields node_fields node_line remainder_fields zone_lines node_lines sheet_text sheet file_stage runs_stage rows_stage grid_stage tables_stage judged refused written buffer_stage answered_by answer_of settled_by settle refused_fields refused_line printed_by prints with_front pieces field read_natural read_whole has_letter padded over_lines metres_field residual_field zone_income node_income line_income side_income printed_income remainder_field printed_remainder in_force next_inward load_factor after passes names_one_with_tec names_with_tec is_centre second_centre ended sound_zone sound_frame share_file_stage factor_over factor_under shared_distance behind along centre_of boundary shared_part not_shared_part shared_along not_shared_along not_shared_metres shared_metres shared_kw sharing_on low_carbon zone_tec_of zone_tec loaded_kw share_stage sharing form_of printed_shared_metres printed_shared_tariff charging.own_metres charging.shared_of charging.shared_tariff charging.C charging.local_tariff charging.local_income charging.priced charging.local_figures charging.after_c charging.zone_tariff charging.wider_figures charging.rest charging.residual charging.remainder charging.zone_total charging.zone_figures
opened file runs share buffer = settle file runs share buffer
