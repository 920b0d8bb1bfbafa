-- `job_marks::mark_one` meets its contract: the row of the table that the kind has. Assumes nothing.
use mathlib.Core.Path.{refl}
use native.Mathlib.Omega.{arith}
use Rattle.rules.specs.Limits.{max_lanes, max_boundaries, max_roads, max_junctions, max_rules, max_stop_lines, max_crosswalks}
use Rattle.tables.specs.View.{lane_words, boundary_words, road_words, junction_words, rule_words, stop_line_words, crosswalk_words}
use Rattle.lent.specs.Lent.{view_rows}
use Rattle.job_marks.proofs.Sorted.{lanes_are_sorted, boundaries_are_sorted, roads-sorted, junctions-sorted, stop-lines-sorted, crosswalks_are_sorted, rules-sorted}
use Rattle.job_marks.proofs.Turns.{may-mark, mark-lane, mark-boundary, mark_road, mark_junction, mark-stop-line, mark-crosswalk, mark-rule, mark-other}
use Rattle.job_marks.proofs.mark_one.Goals as goal

pub mark_row-requires : goal.mark_row-requires
mark_row-requires c = may-mark max_lanes lane_words _ c.args.old.lanes.now c.args.marks.now (omega arith) (omega arith) (omega arith) (lanes_are_sorted (view_rows c.args.old) c.requires.0) c.requires.1

pub returns-then-kind-eq-LANE_KIND : goal.returns-then-kind-eq-LANE_KIND
returns-then-kind-eq-LANE_KIND c = mark-lane (view_rows c.args.old) c.args.kind c.args.id c.args.marks.now c.mark_row.new.marks c.if-kind-eq-LANE_KIND.true c.mark_row.ensures

pub mark_row-requires-then-kind-eq-BOUNDARY_KIND : goal.mark_row-requires-then-kind-eq-BOUNDARY_KIND
mark_row-requires-then-kind-eq-BOUNDARY_KIND c = may-mark max_boundaries boundary_words _ c.args.old.boundaries.now c.args.marks.now (omega arith) (omega arith) (omega arith) (boundaries_are_sorted (view_rows c.args.old) c.requires.0) c.requires.1

pub returns-then-kind-eq-BOUNDARY_KIND : goal.returns-then-kind-eq-BOUNDARY_KIND
returns-then-kind-eq-BOUNDARY_KIND c = mark-boundary (view_rows c.args.old) c.args.kind c.args.id c.args.marks.now c.mark_row-then-kind-eq-BOUNDARY_KIND.new.marks c.if-kind-eq-BOUNDARY_KIND.true c.mark_row-then-kind-eq-BOUNDARY_KIND.ensures

pub mark_row-requires-then-kind-eq-ROAD_KIND : goal.mark_row-requires-then-kind-eq-ROAD_KIND
mark_row-requires-then-kind-eq-ROAD_KIND c = may-mark max_roads road_words _ c.args.old.roads.now c.args.marks.now (omega arith) (omega arith) (omega arith) (roads-sorted (view_rows c.args.old) c.requires.0) c.requires.1

pub returns-then-kind-eq-ROAD_KIND : goal.returns-then-kind-eq-ROAD_KIND
returns-then-kind-eq-ROAD_KIND c = mark_road (view_rows c.args.old) c.args.kind c.args.id c.args.marks.now c.mark_row-then-kind-eq-ROAD_KIND.new.marks c.if-kind-eq-ROAD_KIND.true c.mark_row-then-kind-eq-ROAD_KIND.ensures

pub mark_row-requires-then-kind-eq-JUNCTION_KIND : goal.mark_row-requires-then-kind-eq-JUNCTION_KIND
mark_row-requires-then-kind-eq-JUNCTION_KIND c = may-mark max_junctions junction_words _ c.args.old.junctions.now c.args.marks.now (omega arith) (omega arith) (omega arith) (junctions-sorted (view_rows c.args.old) c.requires.0) c.requires.1

pub returns-then-kind-eq-JUNCTION_KIND : goal.returns-then-kind-eq-JUNCTION_KIND
returns-then-kind-eq-JUNCTION_KIND c = mark_junction (view_rows c.args.old) c.args.kind c.args.id c.args.marks.now c.mark_row-then-kind-eq-JUNCTION_KIND.new.marks c.if-kind-eq-JUNCTION_KIND.true c.mark_row-then-kind-eq-JUNCTION_KIND.ensures

pub mark_row-requires-then-kind-eq-STOP_LINE_KIND : goal.mark_row-requires-then-kind-eq-STOP_LINE_KIND
mark_row-requires-then-kind-eq-STOP_LINE_KIND c = may-mark max_stop_lines stop_line_words _ c.args.old.stop_lines.now c.args.marks.now (omega arith) (omega arith) (omega arith) (stop-lines-sorted (view_rows c.args.old) c.requires.0) c.requires.1

pub returns-then-kind-eq-STOP_LINE_KIND : goal.returns-then-kind-eq-STOP_LINE_KIND
returns-then-kind-eq-STOP_LINE_KIND c = mark-stop-line (view_rows c.args.old) c.args.kind c.args.id c.args.marks.now c.mark_row-then-kind-eq-STOP_LINE_KIND.new.marks c.if-kind-eq-STOP_LINE_KIND.true c.mark_row-then-kind-eq-STOP_LINE_KIND.ensures

pub mark_row-requires-then-kind-eq-CROSSWALK_KIND : goal.mark_row-requires-then-kind-eq-CROSSWALK_KIND
mark_row-requires-then-kind-eq-CROSSWALK_KIND c = may-mark max_crosswalks crosswalk_words _ c.args.old.crosswalks.now c.args.marks.now (omega arith) (omega arith) (omega arith) (crosswalks_are_sorted (view_rows c.args.old) c.requires.0) c.requires.1

pub returns-then-kind-eq-CROSSWALK_KIND : goal.returns-then-kind-eq-CROSSWALK_KIND
returns-then-kind-eq-CROSSWALK_KIND c = mark-crosswalk (view_rows c.args.old) c.args.kind c.args.id c.args.marks.now c.mark_row-then-kind-eq-CROSSWALK_KIND.new.marks c.if-kind-eq-CROSSWALK_KIND.true c.mark_row-then-kind-eq-CROSSWALK_KIND.ensures

pub mark_row-requires-then-kind-eq-RULE_KIND : goal.mark_row-requires-then-kind-eq-RULE_KIND
mark_row-requires-then-kind-eq-RULE_KIND c = may-mark max_rules rule_words _ c.args.old.rules.now c.args.marks.now (omega arith) (omega arith) (omega arith) (rules-sorted (view_rows c.args.old) c.requires.0) c.requires.1

pub returns-then-kind-eq-RULE_KIND : goal.returns-then-kind-eq-RULE_KIND
returns-then-kind-eq-RULE_KIND c = mark-rule (view_rows c.args.old) c.args.kind c.args.id c.args.marks.now c.mark_row-then-kind-eq-RULE_KIND.new.marks c.if-kind-eq-RULE_KIND.true c.mark_row-then-kind-eq-RULE_KIND.ensures

pub returns-else-kind-eq-RULE_KIND : goal.returns-else-kind-eq-RULE_KIND
returns-else-kind-eq-RULE_KIND c = mark-other (view_rows c.args.old) c.args.kind c.args.id c.args.marks.now c.args.marks.now c.if-kind-eq-LANE_KIND.false c.if-kind-eq-BOUNDARY_KIND.false c.if-kind-eq-ROAD_KIND.false c.if-kind-eq-JUNCTION_KIND.false c.if-kind-eq-STOP_LINE_KIND.false c.if-kind-eq-CROSSWALK_KIND.false c.if-kind-eq-RULE_KIND.false refl
