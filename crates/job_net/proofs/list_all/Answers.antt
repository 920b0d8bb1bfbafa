-- `job_net::list_all` meets its contract: kind by kind, one list behind the other. Assumes nothing.
use native.Mathlib.Omega.{arith}
use mathlib.Core.List.{List}
use Prim.Native.Nat.{ℕ}
use Rattle.rules.specs.Limits.{max_lanes, max_boundaries, max_roads, max_junctions, max_rules, max_stop_lines, max_crosswalks}
use Rattle.rules.specs.Names.{EntityKind, LaneKind, BoundaryKind, RoadKind, JunctionKind, StopLineKind, CrosswalkKind, RuleKind}
use Rattle.tables.specs.View.{Tables, lane_words, boundary_words, road_words, junction_words, rule_words, stop_line_words, crosswalk_words}
use Rattle.lent.specs.Lent.{view_rows}
use Rattle.job_marks.specs.Marks.{lane_marks, boundary_marks, road_marks, junction_marks, stop_line_marks, crosswalk_marks, rule_marks}
use Rattle.job_marks.proofs.Sorted.{lanes_are_sorted, boundaries_are_sorted, roads-sorted, junctions-sorted, stop-lines-sorted, crosswalks_are_sorted, rules-sorted}
use Rattle.job_net.specs.Net.{all_picked}
use Rattle.job_net.proofs.Seven.{Written, written_none, written-length, written_is, Told, kind-may, kind-written, lanes_picked, boundaries_picked, roads_picked, junctions_picked, stop_lines_picked, crosswalks_picked, rules_picked, all-seven}
use Rattle.job_net.proofs.list_all.Goals as goal
use Rattle.job_net.proofs.list_all.Goals.{Start}

-- the tables that are lent, and the others
abbrev held : Start → Tables
held s = view_rows s.args.map

abbrev other : Start → Tables
other s = view_rows s.args.end

-- ---- what is written behind each call
module _ (s : Start) where
  abbrev Says : ℕ → ℕ → List ℕ → List ℕ → EntityKind → ℕ → List ℕ → ℕ → List ℕ → Type 0
  Says = Told s.args.kept s.args.marks.now s.args.out.now s.requires.1.1.0 s.requires.1.1.1

  lanes : {v : List ℕ} {r : ℕ} → Says lane_marks lane_words (held s).lanes (other s).lanes LaneKind 0 s.args.out.now r v
      → Written s.args.out.now (lanes_picked s.args.kept (held s) (other s) s.args.marks.now) 1024 v r
  lanes e =
      kind-written s.args.kept s.args.marks.now s.args.out.now s.requires.1.1.0 s.requires.1.1.1 (written_none s.args.out.now) max_lanes lane_words lane_marks (held s).lanes (other s).lanes (lanes_are_sorted (held s) s.requires.0) (omega arith) LaneKind _ _ e

  boundaries : {out v : List ℕ} {n r : ℕ} → Written s.args.out.now (lanes_picked s.args.kept (held s) (other s) s.args.marks.now) 1024 out n → Says boundary_marks boundary_words (held s).boundaries (other s).boundaries BoundaryKind n out r v
      → Written s.args.out.now (boundaries_picked s.args.kept (held s) (other s) s.args.marks.now) 5120 v r
  boundaries m e =
      kind-written s.args.kept s.args.marks.now s.args.out.now s.requires.1.1.0 s.requires.1.1.1 m max_boundaries boundary_words boundary_marks (held s).boundaries (other s).boundaries (boundaries_are_sorted (held s) s.requires.0) (omega arith) BoundaryKind _ _ e

  roads : {out v : List ℕ} {n r : ℕ} → Written s.args.out.now (boundaries_picked s.args.kept (held s) (other s) s.args.marks.now) 5120 out n → Says road_marks road_words (held s).roads (other s).roads RoadKind n out r v
      → Written s.args.out.now (roads_picked s.args.kept (held s) (other s) s.args.marks.now) 5376 v r
  roads m e =
      kind-written s.args.kept s.args.marks.now s.args.out.now s.requires.1.1.0 s.requires.1.1.1 m max_roads road_words road_marks (held s).roads (other s).roads (roads-sorted (held s) s.requires.0) (omega arith) RoadKind _ _ e

  junctions : {out v : List ℕ} {n r : ℕ} → Written s.args.out.now (roads_picked s.args.kept (held s) (other s) s.args.marks.now) 5376 out n → Says junction_marks junction_words (held s).junctions (other s).junctions JunctionKind n out r v
      → Written s.args.out.now (junctions_picked s.args.kept (held s) (other s) s.args.marks.now) 5632 v r
  junctions m e =
      kind-written s.args.kept s.args.marks.now s.args.out.now s.requires.1.1.0 s.requires.1.1.1 m max_junctions junction_words junction_marks (held s).junctions (other s).junctions (junctions-sorted (held s) s.requires.0) (omega arith) JunctionKind _ _ e

  stop_lines : {out v : List ℕ} {n r : ℕ} → Written s.args.out.now (junctions_picked s.args.kept (held s) (other s) s.args.marks.now) 5632 out n → Says stop_line_marks stop_line_words (held s).stop_lines (other s).stop_lines StopLineKind n out r v
      → Written s.args.out.now (stop_lines_picked s.args.kept (held s) (other s) s.args.marks.now) 6144 v r
  stop_lines m e =
      kind-written s.args.kept s.args.marks.now s.args.out.now s.requires.1.1.0 s.requires.1.1.1 m max_stop_lines stop_line_words stop_line_marks (held s).stop_lines (other s).stop_lines (stop-lines-sorted (held s) s.requires.0) (omega arith) StopLineKind _ _ e

  crosswalks : {out v : List ℕ} {n r : ℕ} → Written s.args.out.now (stop_lines_picked s.args.kept (held s) (other s) s.args.marks.now) 6144 out n → Says crosswalk_marks crosswalk_words (held s).crosswalks (other s).crosswalks CrosswalkKind n out r v
      → Written s.args.out.now (crosswalks_picked s.args.kept (held s) (other s) s.args.marks.now) 6272 v r
  crosswalks m e =
      kind-written s.args.kept s.args.marks.now s.args.out.now s.requires.1.1.0 s.requires.1.1.1 m max_crosswalks crosswalk_words crosswalk_marks (held s).crosswalks (other s).crosswalks (crosswalks_are_sorted (held s) s.requires.0) (omega arith) CrosswalkKind _ _ e

  rules : {out v : List ℕ} {n r : ℕ} → Written s.args.out.now (crosswalks_picked s.args.kept (held s) (other s) s.args.marks.now) 6272 out n → Says rule_marks rule_words (held s).rules (other s).rules RuleKind n out r v
      → Written s.args.out.now (rules_picked s.args.kept (held s) (other s) s.args.marks.now) 6784 v r
  rules m e =
      kind-written s.args.kept s.args.marks.now s.args.out.now s.requires.1.1.0 s.requires.1.1.1 m max_rules rule_words rule_marks (held s).rules (other s).rules (rules-sorted (held s) s.requires.0) (omega arith) RuleKind _ _ e

-- ---- the needs
pub list_table-a-requires : goal.list_table-a-requires
list_table-a-requires c =
    let s = (goal.at.list_table-a-requires c).Start in
    kind-may s.args.kept s.args.marks.now s.args.out.now s.requires.1.1.0 s.requires.1.1.1 (written_none s.args.out.now) max_lanes lane_words lane_marks (held s).lanes (other s).lanes (lanes_are_sorted (held s) s.requires.0) (omega arith) (omega arith) (omega arith) (omega arith) (lanes_are_sorted (other s) s.requires.1.0)

pub list_table-b-requires : goal.list_table-b-requires
list_table-b-requires c =
    let s = (goal.at.list_table-b-requires c).Start in
    kind-may s.args.kept s.args.marks.now s.args.out.now s.requires.1.1.0 s.requires.1.1.1 (lanes s c.list_table-a.ensures) max_boundaries boundary_words boundary_marks (held s).boundaries (other s).boundaries (boundaries_are_sorted (held s) s.requires.0) (omega arith) (omega arith) (omega arith) (omega arith) (boundaries_are_sorted (other s) s.requires.1.0)

pub list_table-c-requires : goal.list_table-c-requires
list_table-c-requires c =
    let s = (goal.at.list_table-c-requires c).Start in
    kind-may s.args.kept s.args.marks.now s.args.out.now s.requires.1.1.0 s.requires.1.1.1 (boundaries s (lanes s c.list_table-a.ensures) c.list_table-b.ensures) max_roads road_words road_marks (held s).roads (other s).roads (roads-sorted (held s) s.requires.0) (omega arith) (omega arith) (omega arith) (omega arith) (roads-sorted (other s) s.requires.1.0)

pub list_table-d-requires : goal.list_table-d-requires
list_table-d-requires c =
    let s = (goal.at.list_table-d-requires c).Start in
    kind-may s.args.kept s.args.marks.now s.args.out.now s.requires.1.1.0 s.requires.1.1.1 (roads s (boundaries s (lanes s c.list_table-a.ensures) c.list_table-b.ensures) c.list_table-c.ensures) max_junctions junction_words junction_marks (held s).junctions (other s).junctions (junctions-sorted (held s) s.requires.0) (omega arith) (omega arith) (omega arith) (omega arith) (junctions-sorted (other s) s.requires.1.0)

pub list_table-e-requires : goal.list_table-e-requires
list_table-e-requires c =
    let s = (goal.at.list_table-e-requires c).Start in
    kind-may s.args.kept s.args.marks.now s.args.out.now s.requires.1.1.0 s.requires.1.1.1 (junctions s (roads s (boundaries s (lanes s c.list_table-a.ensures) c.list_table-b.ensures) c.list_table-c.ensures) c.list_table-d.ensures) max_stop_lines stop_line_words stop_line_marks (held s).stop_lines (other s).stop_lines (stop-lines-sorted (held s) s.requires.0) (omega arith) (omega arith) (omega arith) (omega arith) (stop-lines-sorted (other s) s.requires.1.0)

pub list_table-f-requires : goal.list_table-f-requires
list_table-f-requires c =
    let s = (goal.at.list_table-f-requires c).Start in
    kind-may s.args.kept s.args.marks.now s.args.out.now s.requires.1.1.0 s.requires.1.1.1 (stop_lines s (junctions s (roads s (boundaries s (lanes s c.list_table-a.ensures) c.list_table-b.ensures) c.list_table-c.ensures) c.list_table-d.ensures) c.list_table-e.ensures) max_crosswalks crosswalk_words crosswalk_marks (held s).crosswalks (other s).crosswalks (crosswalks_are_sorted (held s) s.requires.0) (omega arith) (omega arith) (omega arith) (omega arith) (crosswalks_are_sorted (other s) s.requires.1.0)

pub list_table-requires : goal.list_table-requires
list_table-requires c =
    let s = (goal.at.list_table-requires c).Start in
    kind-may s.args.kept s.args.marks.now s.args.out.now s.requires.1.1.0 s.requires.1.1.1 (crosswalks s (stop_lines s (junctions s (roads s (boundaries s (lanes s c.list_table-a.ensures) c.list_table-b.ensures) c.list_table-c.ensures) c.list_table-d.ensures) c.list_table-e.ensures) c.list_table-f.ensures) max_rules rule_words rule_marks (held s).rules (other s).rules (rules-sorted (held s) s.requires.0) (omega arith) (omega arith) (omega arith) (omega arith) (rules-sorted (other s) s.requires.1.0)

pub shape_of-out : goal.shape_of-out
shape_of-out c =
    let s = (goal.at.shape_of-out c).Start in
    written-length s.args.out.now s.requires.1.1.1 (rules s (crosswalks s (stop_lines s (junctions s (roads s (boundaries s (lanes s c.list_table-a.ensures) c.list_table-b.ensures) c.list_table-c.ensures) c.list_table-d.ensures) c.list_table-e.ensures) c.list_table-f.ensures) c.list_table.ensures) (omega arith)

pub returns : goal.returns
returns c =
    let s = (goal.at.returns c).Start in
    written_is s.args.out.now s.requires.1.1.1 (rules s (crosswalks s (stop_lines s (junctions s (roads s (boundaries s (lanes s c.list_table-a.ensures) c.list_table-b.ensures) c.list_table-c.ensures) c.list_table-d.ensures) c.list_table-e.ensures) c.list_table-f.ensures) c.list_table.ensures) (all_picked s.args.kept (held s) (other s) s.args.marks.now) (all-seven (held s) (other s) s.args.marks.now s.args.kept)
