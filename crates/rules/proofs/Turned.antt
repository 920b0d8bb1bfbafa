-- The corners of document 01 that the must-fail edits of this crate turn, as rows in the form of Cases.antt: each outcome is the oracle's answer, and each holds by computing. Assumes nothing.
use Rattle.std.specs.Prelude.{Option, None, Some}
use mathlib.Core.Path.{refl}
use mathlib.Core.Bool.{Bool, true}
use mathlib.Core.List.{List, [], ◌∷◌}
use Prim.{tt}
use Prim.Native.Nat.{ℕ}
use lib.Ieee.{Float}
use Rattle.entities.specs.Types.{same, opposing}
use Rattle.entities.specs.Records.{Line, Lane, Road, Junction, Rule, StopLine, Crosswalk, Map}
use Rattle.rules.specs.Names.{Fraction, Station, Right, EntityRef, RuleKind, BoundaryUnshared, LaneAbsent, Unsound}
use Rattle.rules.specs.Ops.{SplitLane, MergeLanes, ConnectLanes, DisconnectLanes, SetNeighbor, RemoveLane, State}
use Rattle.rules.proofs.Opened.{opened}
use Rattle.rules.proofs.Cases.{Case, Holds, AllHold, the_lane, the_boundary, warns, nothing-done, refusing, changing, changes, f, -n2, n0, n0·5, n10, n2, n5, at, from, edge, plain, beside, linked, yard, e101, e102, e103, one, halving}

abbrev pub n6 : Float
n6 = f 0x4018000000000000

abbrev pub n20 : Float
n20 = f 0x4034000000000000

abbrev pub counting : ℕ → Map → State
counting n m = record { map = m; counter = n }

abbrev pub turned : Bool → Bool → Lane → Lane
turned left right l =
    record {
      id = l.id;
      kind = l.kind;
      left = record { boundary = l.left.boundary; reversed = left };
      right = record { boundary = l.right.boundary; reversed = right };
      centerline = l.centerline;
      speed_limit = l.speed_limit;
      one_way = l.one_way;
      turn_direction = l.turn_direction;
      attributes = l.attributes;
      left_neighbor = l.left_neighbor;
      right_neighbor = l.right_neighbor;
      predecessors = l.predecessors;
      successors = l.successors;
    }

-- ---- the rows

-- "In a merge, warning of a dropped neighbour where only the directions differ": lane 3 is left of both, not warned of.
abbrev merge_directions : Case
merge_directions =
    changing (counting 106 (yard (linked [] (2 ∷ []) (beside (Some (same 3)) None (plain 1 101 102)) ∷
    linked (1 ∷ []) [] (beside (Some (opposing 3)) None (plain 2 103 104)) ∷ beside (Some (opposing 2)) (Some (same 1)) (plain 3 105 101) ∷ [])
    (e101 ∷ e102 ∷ edge 103 (from n10 n20 n2) ∷ edge 104 (from n10 n20 -n2) ∷ edge 105 (from n0 n20 n6) ∷ []))) (MergeLanes 1 2)
    (yard (beside (Some (same 3)) None (plain 1 106 102) ∷ beside None (Some (same 1)) (plain 3 105 101) ∷ [])
    (e101 ∷ edge 102 (at n0 -n2 ∷ at n10 -n2 ∷ at n20 -n2 ∷ []) ∷ edge 105 (from n0 n20 n6) ∷ edge 106 (at n0 n2 ∷ at n10 n2 ∷ at n20 n2 ∷ []) ∷ []))
    107 None
    (changes (the_boundary 106 ∷ []) (the_lane 1 ∷ the_lane 3 ∷ the_boundary 102 ∷ [])
    (the_lane 2 ∷ the_boundary 103 ∷ the_boundary 104 ∷ []) (warns BoundaryUnshared (the_boundary 106) [] ∷ []))

merge_directions_holds : Holds merge_directions
unfolding opened
merge_directions_holds = refl

-- "Pairing opposite halves first with first": each first half stands beside the other's second.
abbrev opposite-halves : Case
opposite-halves =
    changing (counting 104 (yard (beside (Some (opposing 2)) None (plain 1 101 102) ∷
    beside (Some (opposing 1)) None (turned true true (plain 2 101 103)) ∷ []) (e101 ∷ e102 ∷ edge 103 (from n0 n10 n6) ∷ [])))
    (SplitLane 1 (Fraction n0·5) true)
    (yard (linked [] (107 ∷ []) (beside (Some (opposing 108)) None (plain 1 101 102)) ∷
    linked [] (108 ∷ []) (beside (Some (opposing 107)) None (turned true true (plain 2 104 106))) ∷
    linked (1 ∷ []) [] (beside (Some (opposing 2)) None (plain 107 104 105)) ∷
    linked (2 ∷ []) [] (beside (Some (opposing 1)) None (turned true true (plain 108 101 103))) ∷ [])
    (edge 101 (from n0 n5 n2) ∷ edge 102 (from n0 n5 -n2) ∷ edge 103 (from n0 n5 n6) ∷ edge 104 (from n5 n10 n2) ∷ edge 105 (from n5 n10 -n2) ∷
    edge 106 (from n5 n10 n6) ∷ []))
    109 (Some 107)
    (changes (the_lane 107 ∷ the_lane 108 ∷ the_boundary 104 ∷ the_boundary 105 ∷ the_boundary 106 ∷ [])
    (the_lane 1 ∷ the_lane 2 ∷ the_boundary 101 ∷ the_boundary 102 ∷ the_boundary 103 ∷ []) [] [])

opposite-halves-holds : Holds opposite-halves
unfolding opened
opposite-halves-holds = refl

-- "Reporting only the two named lanes in `set_neighbor`": lanes 2 and 4 are freed and reported too.
abbrev freed-reported : Case
freed-reported =
    changing (counting 106 (yard (beside None (Some (same 2)) (plain 1 101 102) ∷ beside (Some (same 1)) None (plain 2 102 103) ∷
    beside (Some (same 4)) None (plain 3 104 101) ∷ beside None (Some (same 3)) (plain 4 105 104) ∷ [])
    (e101 ∷ e102 ∷ e103 ∷ edge 104 (from n0 n10 n6) ∷ edge 105 (from n0 n10 n10) ∷ []))) (SetNeighbor 1 Right (Some (same 3)))
    (yard (beside None (Some (same 3)) (plain 1 101 102) ∷ plain 2 102 103 ∷ beside (Some (same 1)) None (plain 3 104 101) ∷ plain 4 105 104 ∷ [])
    (e101 ∷ e102 ∷ e103 ∷ edge 104 (from n0 n10 n6) ∷ edge 105 (from n0 n10 n10) ∷ []))
    106 None
    (changes [] (the_lane 1 ∷ the_lane 2 ∷ the_lane 3 ∷ the_lane 4 ∷ []) []
    (warns BoundaryUnshared (the_lane 1) (the_lane 3 ∷ []) ∷ []))

freed-reported-holds : Holds freed-reported
unfolding opened
freed-reported-holds = refl

-- a lane that goes is forgotten by those that it led to and came from
abbrev removed-unlinked : Case
removed-unlinked =
    changing
    (counting 104 (yard (linked [] (2 ∷ []) (plain 1 101 102) ∷ linked (1 ∷ []) (3 ∷ []) (plain 2 101 102) ∷ linked (2 ∷ []) [] (plain 3 101 102) ∷ []) (e101 ∷ e102 ∷ [])))
    (RemoveLane 2)
    (yard (plain 1 101 102 ∷ plain 3 101 102 ∷ []) (e101 ∷ e102 ∷ []))
    104 None
    (changes [] (the_lane 1 ∷ the_lane 3 ∷ []) (the_lane 2 ∷ []) [])

removed-unlinked-holds : Holds removed-unlinked
unfolding opened
removed-unlinked-holds = refl

abbrev both-absent : Case
both-absent = refusing one (ConnectLanes 9 8) (LaneAbsent 9)

both-absent-holds : Holds both-absent
unfolding opened
both-absent-holds = refl

abbrev absent-itself : Case
absent-itself = refusing one (ConnectLanes 9 9) (LaneAbsent 9)

absent-itself-holds : Holds absent-itself
unfolding opened
absent-itself-holds = refl

abbrev pub n8 : Float
n8 = f 0x4020000000000000

abbrev pub n14 : Float
n14 = f 0x402C000000000000

-- a lane with a centreline of its own, with a speed limit, and with its references reversed
abbrev pub centred : Line → Lane → Lane
centred c l =
    record {
      id = l.id;
      kind = l.kind;
      left = l.left;
      right = l.right;
      centerline = Some c;
      speed_limit = l.speed_limit;
      one_way = l.one_way;
      turn_direction = l.turn_direction;
      attributes = l.attributes;
      left_neighbor = l.left_neighbor;
      right_neighbor = l.right_neighbor;
      predecessors = l.predecessors;
      successors = l.successors;
    }

-- a rule by its kind and lanes; with stop lines, a crosswalk, priority and yielding lanes
abbrev pub rule_of : ℕ → ℕ → Option ℕ → List ℕ → List ℕ → List ℕ → List ℕ → Rule
rule_of i k cross ls stops priority yielding =
    record {
      id = i;
      kind = k;
      content = 0;
      attributes = 0;
      crosswalk = cross;
      lanes = ls;
      controlled_crosswalks = [];
      stop_lines = stops;
      priority = priority;
      yielding = yielding;
    }

abbrev pub rule : ℕ → ℕ → List ℕ → Rule
rule i k ls = rule_of i k None ls [] [] []

abbrev pub road : ℕ → List ℕ → Road
road i ls = record { id = i; name = 0; attributes = 0; lanes = ls }

abbrev pub ranking : List ℕ → List ℕ → Rule → Rule
ranking priority yielding r = rule_of r.id r.kind r.crosswalk r.lanes r.stop_lines priority yielding

abbrev pub stopping : List ℕ → Rule → Rule
stopping stops r = rule_of r.id r.kind r.crosswalk r.lanes stops r.priority r.yielding

abbrev pub crossing : ℕ → Rule → Rule
crossing c r = rule_of r.id r.kind (Some c) r.lanes r.stop_lines r.priority r.yielding

abbrev pub stop : ℕ → Line → StopLine
stop i c = record { id = i; geometry = c; attributes = 0 }

abbrev pub walk : ℕ → Line → Line → Crosswalk
walk i l r = record { id = i; left_edge = l; right_edge = r; outline = 0; attributes = 0 }

abbrev pub furnished : List Road → List Rule → List StopLine → List Crosswalk → Map → Map
furnished roads rules stops walks m =
    record { lanes = m.lanes; boundaries = m.boundaries; roads = roads; junctions = []; rules = rules; stop_lines = stops; crosswalks = walks }

abbrev pub rule_entity : ℕ → EntityRef
rule_entity i = record { kind = RuleKind; id = i }

-- ---- split: lines and anchors

-- "An explicit centreline, the split lane's own too, is cut at its nearest station, not at the given one": at 6, not at 14.
abbrev nearest-station : Case
nearest-station =
    changing (counting 103 (yard (centred (at n0 n0 ∷ at n10 n0 ∷ at n2 n0 ∷ []) (plain 1 101 102) ∷ []) (e101 ∷ e102 ∷ [])))
    (SplitLane 1 (Station n14) true)
    (yard (linked [] (105 ∷ []) (centred (from n0 n6 n0) (plain 1 101 102)) ∷
    linked (1 ∷ []) [] (centred (at n6 n0 ∷ at n10 n0 ∷ at n2 n0 ∷ []) (plain 105 103 104)) ∷ [])
    (edge 101 (from n0 n6 n2) ∷ edge 102 (from n0 n6 -n2) ∷ edge 103 (from n6 n10 n2) ∷ edge 104 (from n6 n10 -n2) ∷ []))
    106 (Some 105)
    halving

nearest-station-holds : Holds nearest-station
unfolding opened
nearest-station-holds = refl

-- "A rule whose first stop line is missing has no anchor, and a crosswalk is not tried": the second half is added.
abbrev stop-missing : Case
stop-missing =
    changing (counting 302 (furnished [] (crossing 203 (stopping (201 ∷ 202 ∷ []) (rule 301 4 (1 ∷ []))) ∷ [])
    (stop 202 (at n8 n2 ∷ at n8 -n2 ∷ []) ∷ []) (walk 203 (at n8 n2 ∷ at n8 -n2 ∷ []) (at n8 n2 ∷ at n8 -n2 ∷ []) ∷ [])
    (yard (plain 1 101 102 ∷ []) (e101 ∷ e102 ∷ [])))) (SplitLane 1 (Station n5) true)
    (furnished [] (crossing 203 (stopping (201 ∷ 202 ∷ []) (rule 301 4 (1 ∷ 304 ∷ []))) ∷ []) (stop 202 (at n8 n2 ∷ at n8 -n2 ∷ []) ∷ [])
    (walk 203 (at n8 n2 ∷ at n8 -n2 ∷ []) (at n8 n2 ∷ at n8 -n2 ∷ []) ∷ [])
    (yard (linked [] (304 ∷ []) (plain 1 101 102) ∷ linked (1 ∷ []) [] (plain 304 302 303) ∷ [])
    (edge 101 (from n0 n5 n2) ∷ edge 102 (from n0 n5 -n2) ∷ edge 302 (from n5 n10 n2) ∷ edge 303 (from n5 n10 -n2) ∷ [])))
    305 (Some 304)
    (changes (the_lane 304 ∷ the_boundary 302 ∷ the_boundary 303 ∷ [])
    (the_lane 1 ∷ the_boundary 101 ∷ the_boundary 102 ∷ rule_entity 301 ∷ []) [] [])

stop-missing-holds : Holds stop-missing
unfolding opened
stop-missing-holds = refl

-- ---- a lane once per list

abbrev junction : ℕ → List ℕ → Junction
junction i ls = record { id = i; name = 0; outline = 0; attributes = 0; lanes = ls }

-- lane 1 with a road, a junction and a rule, and a call that does nothing
abbrev listing : Road → Junction → Rule → State
listing r j u =
    counting 304
    (record { lanes = plain 1 101 102 ∷ []; boundaries = e101 ∷ e102 ∷ []; roads = r ∷ []; junctions = j ∷ []; rules = u ∷ []; stop_lines = []; crosswalks = [] })

abbrev right : List ℕ → List ℕ → List ℕ → Rule
right ls priority yielding = ranking priority yielding (rule 303 3 ls)

abbrev sevens : List ℕ
sevens = 7 ∷ 8 ∷ 7 ∷ []

-- Document 02, (b): "A repeat now makes the map unsound, with refusal 9." Lanes 7 and 8 are absent, and the two 7 apart from each other.
abbrev road_repeat : Case
road_repeat = refusing (listing (road 301 sevens) (junction 302 []) (right [] [] [])) (DisconnectLanes 1 1) Unsound

road_repeat-holds : Holds road_repeat
unfolding opened
road_repeat-holds = refl

abbrev junction_repeat : Case
junction_repeat = refusing (listing (road 301 []) (junction 302 sevens) (right [] [] [])) (DisconnectLanes 1 1) Unsound

junction_repeat-holds : Holds junction_repeat
unfolding opened
junction_repeat-holds = refl

abbrev own-repeat : Case
own-repeat = refusing (listing (road 301 []) (junction 302 []) (right sevens [] [])) (DisconnectLanes 1 1) Unsound

own-repeat-holds : Holds own-repeat
unfolding opened
own-repeat-holds = refl

abbrev priority-repeat : Case
priority-repeat = refusing (listing (road 301 []) (junction 302 []) (right [] sevens [])) (DisconnectLanes 1 1) Unsound

priority-repeat-holds : Holds priority-repeat
unfolding opened
priority-repeat-holds = refl

abbrev yielding-repeat : Case
yielding-repeat = refusing (listing (road 301 []) (junction 302 []) (right [] [] sevens)) (DisconnectLanes 1 1) Unsound

yielding-repeat-holds : Holds yielding-repeat
unfolding opened
yielding-repeat-holds = refl

-- "one list of a rule": a lane may stand in several lists.
abbrev lists-share : Case
lists-share =
    let s = listing (road 301 (7 ∷ 1 ∷ [])) (junction 302 (1 ∷ 7 ∷ [])) (right (1 ∷ 7 ∷ []) (7 ∷ 1 ∷ []) (1 ∷ [])) in
    changing s (DisconnectLanes 1 1) s.map 304 None (changes [] [] [] (nothing-done 1 ∷ []))

lists-share-holds : Holds lists-share
unfolding opened
lists-share-holds = refl

-- A rule that names both lanes of a merge names the merged one once.
abbrev merged-once : Case
merged-once =
    changing (counting 302 (furnished [] (rule 301 5 (2 ∷ 7 ∷ 1 ∷ []) ∷ []) [] []
    (yard (linked [] (2 ∷ []) (plain 1 101 102) ∷ linked (1 ∷ []) [] (plain 2 103 104) ∷ [])
    (e101 ∷ e102 ∷ edge 103 (from n10 n20 n2) ∷ edge 104 (from n10 n20 -n2) ∷ [])))) (MergeLanes 1 2)
    (furnished [] (rule 301 5 (7 ∷ 1 ∷ []) ∷ []) [] []
    (yard (plain 1 101 102 ∷ []) (edge 101 (at n0 n2 ∷ at n10 n2 ∷ at n20 n2 ∷ []) ∷ edge 102 (at n0 -n2 ∷ at n10 -n2 ∷ at n20 -n2 ∷ []) ∷ [])))
    302 None
    (changes [] (the_lane 1 ∷ the_boundary 101 ∷ the_boundary 102 ∷ rule_entity 301 ∷ []) (the_lane 2 ∷ the_boundary 103 ∷ the_boundary 104 ∷ []) [])

merged-once-holds : Holds merged-once
unfolding opened
merged-once-holds = refl

-- ---- the table

abbrev pub turns : List Case
turns = merge_directions ∷ opposite-halves ∷ freed-reported ∷ removed-unlinked ∷ both-absent ∷ absent-itself ∷ nearest-station ∷ stop-missing ∷ road_repeat ∷ junction_repeat ∷ own-repeat ∷ priority-repeat ∷ yielding-repeat ∷ lists-share ∷ merged-once ∷ []

pub turns-hold : AllHold turns
turns-hold = (merge_directions_holds, (opposite-halves-holds, (freed-reported-holds, (removed-unlinked-holds, (both-absent-holds, (absent-itself-holds, (nearest-station-holds, (stop-missing-holds, (road_repeat-holds, (junction_repeat-holds, (own-repeat-holds, (priority-repeat-holds, (yielding-repeat-holds, (lists-share-holds, (merged-once-holds, tt)))))))))))))))
