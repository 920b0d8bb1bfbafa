-- Every definition of document 01, opened: a theorem by computation names `opened` alone.
use Prim.Native.Nat.{ℕ}
use Rattle.root.specs.Root.{whole_root, nearest_root, root}
use Rattle.lists.specs.Every.{all}
use Rattle.lists.specs.Select.{keep, any, find, each, has, without, place, above, ascending, distinct, same_numbers, insert_after}
use Rattle.geometry.specs.Float.{epsilon, clamp, reach, coordinate, fraction, mix}
use Rattle.geometry.specs.Point.{add2, sub2, mul2, dot2, cross, norm2, distance2, normalized, lerp2, finite2, add3, sub3, mul3, dot3, norm3, distance3, xy, distance_2d, lerp3, finite3, in_reach, project_on_segment}
use Rattle.polyline.specs.Polyline.{point_of, points, flat, first, last_from, last, length_from, line_length, held, locate_from, locate, point_in, point_at, point_at_fraction, candidate, nearer, nearest_from, nearest_point, inside, inner, between, slice, first_piece, second_piece, share, resample_from, resample_count, meeting, skipped, concat, middle, centerline}
use Rattle.rules.specs.Map.{lane, boundary, stop_line, crosswalk, leads_to, comes_from, oriented, oriented_boundary, centerline as centerline·Map, station, lanes_using_boundary, widened, grown, lateral_group, mid, rule_anchor}
use Rattle.rules.specs.Sound.{lines, total, ids_named, ids_ascend, counter_above, lines_in_reach, kinds_legal, handles_legal, links_ascend, links_reciprocal, has_neighbor, neighbors_reciprocal, within_limits, sound, fits_room, repeat_free}
use Rattle.rules.specs.Edit.{gapped, connect, disconnect, set_neighbor}
use Rattle.rules.specs.Lane.{remove_lane}
use Rattle.rules.specs.Merge.{side_plan, replace_lane, merged, merge_lanes}
use Rattle.rules.specs.Split.{lane_plan, lane_plans, all_cross, pieces, pieces_ids, halves, came_from, second_halves, on_second, follow, dropped_all, cut_map, cut, split_lane}
use Rattle.rules.specs.Ops.{edit, step_map, run, after}
use Rattle.rules.specs.Book.{created_lanes, pairs, book_split, drop_pair, book_merge, book_after}
use Rattle.rules.specs.Demand.{entities, among, appeared, vanished, row, sorted_after, sorted, apart_from, AllTold}
use lib.Ieee.{add, sub, mul, div, neg, lt, le, eq, ne, of_bits, of_int, round, size, units}
use mathlib.Core.List.{zip_with}

unfoldable pub opened : ℕ
unfolding whole_root nearest_root root all keep any find each has without place above ascending distinct same_numbers epsilon clamp reach coordinate fraction mix add2 sub2 mul2 dot2 cross norm2 distance2 normalized lerp2 finite2 add3 sub3 mul3 dot3 norm3 distance3 xy distance_2d lerp3 finite3 in_reach project_on_segment point_of points flat first last_from last length_from line_length held locate_from locate point_in point_at point_at_fraction candidate nearer nearest_from nearest_point inside inner between slice first_piece second_piece share resample_from resample_count meeting skipped concat middle centerline lane boundary stop_line crosswalk leads_to comes_from oriented oriented_boundary centerline·Map station lanes_using_boundary widened grown lateral_group mid rule_anchor lines total ids_named ids_ascend counter_above lines_in_reach kinds_legal handles_legal links_ascend links_reciprocal has_neighbor neighbors_reciprocal within_limits sound fits_room repeat_free gapped connect disconnect set_neighbor remove_lane side_plan replace_lane merged merge_lanes lane_plan lane_plans all_cross pieces pieces_ids halves came_from second_halves insert_after on_second follow dropped_all cut_map cut split_lane edit step_map run after created_lanes pairs book_split drop_pair book_merge book_after entities among appeared vanished row sorted_after sorted apart_from AllTold add sub mul div neg lt le eq ne of_bits of_int round size units zip_with
opened = 0
