-- Document 01's corners, as rows in the form of Cases.antt: each outcome is the oracle's answer, and each holds by computation.
use Rattle.std.specs.Prelude.{None, Some}
use mathlib.Core.Path.{refl}
use mathlib.Core.Bool.{true, false}
use mathlib.Core.List.{List, [], ◌∷◌}
use Prim.{tt}
use Prim.Native.Nat.{ℕ, ◌-◌, ◌^◌}
use lib.Ieee.{Float}
use Rattle.entities.specs.Types.{same, opposing}
use Rattle.entities.specs.Records.{Lane, Issue}
use Rattle.rules.specs.Names.{Fraction, Station, EntityRef, RoadKind, Warning, BoundaryUnshared, OrphanRule, AttributeConflict, PositionOutside, NotMergeable, BoundaryAbsent, NoUsableLine, NotCrossing, Unsound, NoRoom, NoIds}
use Rattle.rules.specs.Sound.{Room, Lists}
use Rattle.rules.specs.Ops.{SplitLane, MergeLanes, ConnectLanes, DisconnectLanes, RemoveLane}
use Rattle.rules.proofs.Opened.{opened}
use Rattle.rules.proofs.Cases.{Case, Holds, AllHold, the_lane, the_boundary, warns, nothing-done, ample, lists, refusing, changing, changes, f, -n2, n0, n0·5, n10, n2, n5, at, from, edge, plain, beside, linked, yard, e101, e102, e103, one, halved_at, halving}
use Rattle.rules.proofs.Turned.{n6, n8, n20, counting, turned, centred, road, rule, ranking, stopping, crossing, stop, walk, furnished, rule_entity}

-- ---- what the corners need beside the helpers of Cases

abbrev -n4 : Float
-n4 = f 0xC010000000000000

abbrev n4 : Float
n4 = f 0x4010000000000000

abbrev n10·5 : Float
n10·5 = f 0x4025000000000000

-- the same row with other room and other lists lent
abbrev lending : Room → Lists → Case → Case
lending room ls c = record { before = c.before; room = room; call = record { command = c.call.command; lists = ls }; outcome = c.outcome }

abbrev limited : ℕ → Lane → Lane
limited bits l =
    record {
      id = l.id;
      kind = l.kind;
      left = l.left;
      right = l.right;
      centerline = l.centerline;
      speed_limit = Some bits;
      one_way = l.one_way;
      turn_direction = l.turn_direction;
      attributes = l.attributes;
      left_neighbor = l.left_neighbor;
      right_neighbor = l.right_neighbor;
      predecessors = l.predecessors;
      successors = l.successors;
    }

abbrev road_entity : ℕ → EntityRef
road_entity i = record { kind = RoadKind; id = i }

-- the warning of a rule left without lanes, with the mark for the removal fix
abbrev orphaning : ℕ → Issue
orphaning i = record { severity = Warning; code = OrphanRule; entity = rule_entity i; related = []; fix = true }

-- ---- refusals 9 to 11, and the counter

-- "links and neighbours name present lanes and are reciprocal": lane 2 does not name lane 1 back.
abbrev one-sided : Case
one-sided =
    refusing (counting 105 (yard (linked [] (2 ∷ []) (plain 1 101 102) ∷ plain 2 103 104 ∷ [])
    (e101 ∷ e102 ∷ edge 103 (from n10 n20 n2) ∷ edge 104 (from n10 n20 -n2) ∷ []))) (ConnectLanes 1 2) Unsound

one-sided-holds : Holds one-sided
unfolding opened
one-sided-holds = refl

-- "10 the finished result passes a limit above or a lent list's length": three are created, two places lent.
abbrev created-short : Case
created-short =
    lending ample (record { created = 2; modified = 64; deleted = 64; warnings = 64 })
    (refusing one (SplitLane 1 (Fraction n0·5) true) NoRoom)

created-short-holds : Holds created-short
unfolding opened
created-short-holds = refl

-- three places are enough.
abbrev created-exact : Case
created-exact =
    lending ample (record { created = 3; modified = 64; deleted = 64; warnings = 64 })
    (changing one (SplitLane 1 (Fraction n0·5) true) (halved_at n5) 106 (Some 105) halving)

created-exact-holds : Holds created-exact
unfolding opened
created-exact-holds = refl

-- one row of lanes too few.
abbrev lanes-short : Case
lanes-short =
    lending (record { lanes = 1; boundaries = 4096; points = 65536 }) lists
    (refusing one (SplitLane 1 (Fraction n0·5) true) NoRoom)

lanes-short-holds : Holds lanes-short
unfolding opened
lanes-short-holds = refl

-- "11 the counter plus the ids needed passes 2^64 − 1": three are needed.
abbrev ids_short : Case
ids_short =
    refusing (counting (2 ^ 64 - 2) (yard (plain 1 101 102 ∷ []) (e101 ∷ e102 ∷ []))) (SplitLane 1 (Fraction n0·5) true) NoIds

ids-short-holds : Holds ids_short
unfolding opened
ids-short-holds = refl

-- it may reach 2^64 − 1.
abbrev ids-exact : Case
ids-exact =
    changing (counting (2 ^ 64 - 4) (yard (plain 1 101 102 ∷ []) (e101 ∷ e102 ∷ []))) (SplitLane 1 (Fraction n0·5) true)
    (yard (linked [] ((2 ^ 64 - 2) ∷ []) (plain 1 101 102) ∷ linked (1 ∷ []) [] (plain (2 ^ 64 - 2) (2 ^ 64 - 4) (2 ^ 64 - 3)) ∷ [])
    (edge 101 (from n0 n5 n2) ∷ edge 102 (from n0 n5 -n2) ∷ edge (2 ^ 64 - 4) (from n5 n10 n2) ∷ edge (2 ^ 64 - 3) (from n5 n10 -n2) ∷ []))
    (2 ^ 64 - 1) (Some (2 ^ 64 - 2))
    (changes (the_lane (2 ^ 64 - 2) ∷ the_boundary (2 ^ 64 - 4) ∷ the_boundary (2 ^ 64 - 3) ∷ [])
    (the_lane 1 ∷ the_boundary 101 ∷ the_boundary 102 ∷ []) [] [])

ids-exact-holds : Holds ids-exact
unfolding opened
ids-exact-holds = refl

-- at 2^64 − 1 an edit that needs no id is accepted.
abbrev spent : Case
spent =
    changing (counting (2 ^ 64 - 1) (yard (plain 1 101 102 ∷ []) (e101 ∷ e102 ∷ []))) (DisconnectLanes 1 1)
    (yard (plain 1 101 102 ∷ []) (e101 ∷ e102 ∷ []))
    (2 ^ 64 - 1) None
    (changes [] [] [] (nothing-done 1 ∷ []))

spent-holds : Holds spent
unfolding opened
spent-holds = refl

-- A counter of 0 counts as 1, as in the Rust.
abbrev counter-zero : Case
counter-zero =
    changing (counting 0 (yard (plain 0 0 0 ∷ []) (edge 0 (from n0 n10 n2) ∷ []))) (SplitLane 0 (Fraction n0·5) true)
    (yard (linked [] (2 ∷ []) (plain 0 0 0) ∷ linked (0 ∷ []) [] (plain 2 1 1) ∷ []) (edge 0 (from n0 n5 n2) ∷ edge 1 (from n5 n10 n2) ∷ []))
    3 (Some 2)
    (changes (the_lane 2 ∷ the_boundary 1 ∷ []) (the_lane 0 ∷ the_boundary 0 ∷ []) [] [])

counter-zero-holds : Holds counter-zero
unfolding opened
counter-zero-holds = refl

-- An edit that needs no id leaves it.
abbrev counter-kept : Case
counter-kept =
    changing (counting 0 (yard (plain 0 0 0 ∷ []) (edge 0 (from n0 n10 n2) ∷ []))) (DisconnectLanes 0 0)
    (yard (plain 0 0 0 ∷ []) (edge 0 (from n0 n10 n2) ∷ []))
    0 None
    (changes [] [] [] (nothing-done 0 ∷ []))

counter-kept-holds : Holds counter-kept
unfolding opened
counter-kept-holds = refl

-- ---- split: lines

-- "Where a neighbour has an explicit empty centreline the Rust panics; here it is refusal 7".
abbrev neighbour_empty : Case
neighbour_empty =
    refusing (counting 104 (yard (beside None (Some (same 2)) (plain 1 101 102) ∷ beside (Some (same 1)) None (centred [] (plain 2 102 103)) ∷ [])
    (e101 ∷ e102 ∷ e103 ∷ []))) (SplitLane 1 (Fraction n0·5) true) (NoUsableLine 2)

neighbour_empty-holds : Holds neighbour_empty
unfolding opened
neighbour_empty-holds = refl

-- "A neighbour's position is its nearest station to the split point, under the same rule": on one point that is 0.
abbrev neighbour_point : Case
neighbour_point =
    refusing (counting 104 (yard (beside None (Some (same 2)) (plain 1 101 102) ∷
    beside (Some (same 1)) None (centred (at n5 -n4 ∷ []) (plain 2 102 103)) ∷ []) (e101 ∷ e102 ∷ e103 ∷ []))) (SplitLane 1 (Fraction n0·5) true)
    (PositionOutside 2)

neighbour_point-holds : Holds neighbour_point
unfolding opened
neighbour_point-holds = refl

-- "6 boundary absent": where the lane's line does not need it.
abbrev boundary-missing : Case
boundary-missing =
    refusing (counting 103 (yard (centred (from n0 n10 n0) (plain 1 101 102) ∷ []) (e102 ∷ []))) (SplitLane 1 (Fraction n0·5) true)
    (BoundaryAbsent 101)

boundary-missing-holds : Holds boundary-missing
unfolding opened
boundary-missing-holds = refl

-- "8 boundary empty or not crossing".
abbrev boundary-empty : Case
boundary-empty =
    refusing (counting 103 (yard (centred (from n0 n10 n0) (plain 1 101 102) ∷ []) (edge 101 [] ∷ e102 ∷ []))) (SplitLane 1 (Fraction n0·5) true)
    (NotCrossing 101)

boundary-empty-holds : Holds boundary-empty
unfolding opened
boundary-empty-holds = refl

-- "Each boundary's nearest station must be > 1e-6 and < its length − 1e-6": 101 ends before the cut.
abbrev boundary-short : Case
boundary-short =
    refusing (counting 103 (yard (centred (from n0 n10 n0) (plain 1 101 102) ∷ []) (edge 101 (from n0 n2 n2) ∷ e102 ∷ [])))
    (SplitLane 1 (Fraction n0·5) true) (NotCrossing 101)

boundary-short-holds : Holds boundary-short
unfolding opened
boundary-short-holds = refl

-- "7 lane without usable line": it would be derived from an absent boundary.
abbrev line-missing : Case
line-missing =
    refusing (counting 103 (yard (plain 1 101 102 ∷ []) (e102 ∷ []))) (SplitLane 1 (Fraction n0·5) true) (NoUsableLine 1)

line-missing-holds : Holds line-missing
unfolding opened
line-missing-holds = refl

-- the line is asked for before the fraction.
abbrev line-before-fraction : Case
line-before-fraction =
    refusing (counting 103 (yard (plain 1 101 102 ∷ []) (e102 ∷ []))) (SplitLane 1 (Fraction n0) true) (NoUsableLine 1)

line-before-fraction-holds : Holds line-before-fraction
unfolding opened
line-before-fraction-holds = refl

-- the split lane's own explicit empty centreline ends in 3.
abbrev own-empty : Case
own-empty =
    refusing (counting 103 (yard (centred [] (plain 1 101 102) ∷ []) (e101 ∷ e102 ∷ []))) (SplitLane 1 (Fraction n0·5) true) (PositionOutside 1)

own-empty-holds : Holds own-empty
unfolding opened
own-empty-holds = refl

-- "Reversed references take the pieces in reverse."
abbrev reversed : Case
reversed =
    changing (counting 103 (yard (turned false true (plain 1 101 102) ∷ []) (e101 ∷ edge 102 (from n10 n0 -n2) ∷ [])))
    (SplitLane 1 (Fraction n0·5) true)
    (yard (linked [] (105 ∷ []) (turned false true (plain 1 101 104)) ∷ linked (1 ∷ []) [] (turned false true (plain 105 103 102)) ∷ [])
    (edge 101 (from n0 n5 n2) ∷ edge 102 (from n10 n5 -n2) ∷ edge 103 (from n5 n10 n2) ∷ edge 104 (from n5 n0 -n2) ∷ []))
    106 (Some 105)
    halving

reversed-holds : Holds reversed
unfolding opened
reversed-holds = refl

-- one boundary on both sides of a lane is cut once.
abbrev both-sides : Case
both-sides =
    changing (counting 102 (yard (plain 1 101 101 ∷ []) (e101 ∷ []))) (SplitLane 1 (Fraction n0·5) true)
    (yard (linked [] (103 ∷ []) (plain 1 101 101) ∷ linked (1 ∷ []) [] (plain 103 102 102) ∷ [])
    (edge 101 (from n0 n5 n2) ∷ edge 102 (from n5 n10 n2) ∷ []))
    104 (Some 103)
    (changes (the_lane 103 ∷ the_boundary 102 ∷ []) (the_lane 1 ∷ the_boundary 101 ∷ []) [] [])

both-sides-holds : Holds both-sides
unfolding opened
both-sides-holds = refl

-- ---- split: links and neighbours

-- a lane linked to itself: 1 to 105 to 1.
abbrev self-link : Case
self-link =
    changing (counting 103 (yard (linked (1 ∷ []) (1 ∷ []) (plain 1 101 102) ∷ []) (e101 ∷ e102 ∷ []))) (SplitLane 1 (Fraction n0·5) true)
    (yard (linked (105 ∷ []) (105 ∷ []) (plain 1 101 102) ∷ linked (1 ∷ []) (1 ∷ []) (plain 105 103 104) ∷ [])
    (edge 101 (from n0 n5 n2) ∷ edge 102 (from n0 n5 -n2) ∷ edge 103 (from n5 n10 n2) ∷ edge 104 (from n5 n10 -n2) ∷ []))
    106 (Some 105)
    halving

self-link-holds : Holds self-link
unfolding opened
self-link-holds = refl

-- a lane beside itself, opposite: the halves are each other's opposite neighbours.
abbrev self-beside : Case
self-beside =
    changing (counting 103 (yard (beside (Some (opposing 1)) None (plain 1 101 102) ∷ []) (e101 ∷ e102 ∷ []))) (SplitLane 1 (Fraction n0·5) true)
    (yard (linked [] (105 ∷ []) (beside (Some (opposing 105)) None (plain 1 101 102)) ∷
    linked (1 ∷ []) [] (beside (Some (opposing 1)) None (plain 105 103 104)) ∷ [])
    (edge 101 (from n0 n5 n2) ∷ edge 102 (from n0 n5 -n2) ∷ edge 103 (from n5 n10 n2) ∷ edge 104 (from n5 n10 -n2) ∷ []))
    106 (Some 105)
    halving

self-beside-holds : Holds self-beside
unfolding opened
self-beside-holds = refl

-- ---- split: roads and rules

-- "the second half replaces the first if the anchor's nearest station on the two halves' joined line is at or past the split": case 10.
abbrev anchor_past : Case
anchor_past =
    changing (counting 302 (furnished [] (stopping (201 ∷ []) (rule 301 2 (1 ∷ [])) ∷ []) (stop 201 (at n8 n2 ∷ at n8 -n2 ∷ []) ∷ []) []
    (yard (plain 1 101 102 ∷ []) (e101 ∷ e102 ∷ [])))) (SplitLane 1 (Station n5) true)
    (furnished [] (stopping (201 ∷ []) (rule 301 2 (304 ∷ [])) ∷ []) (stop 201 (at n8 n2 ∷ at n8 -n2 ∷ []) ∷ []) []
    (yard (linked [] (304 ∷ []) (plain 1 101 102) ∷ linked (1 ∷ []) [] (plain 304 302 303) ∷ [])
    (edge 101 (from n0 n5 n2) ∷ edge 102 (from n0 n5 -n2) ∷ edge 302 (from n5 n10 n2) ∷ edge 303 (from n5 n10 -n2) ∷ [])))
    305 (Some 304)
    (changes (the_lane 304 ∷ the_boundary 302 ∷ the_boundary 303 ∷ [])
    (the_lane 1 ∷ the_boundary 101 ∷ the_boundary 102 ∷ rule_entity 301 ∷ []) [] [])

anchor_past-holds : Holds anchor_past
unfolding opened
anchor_past-holds = refl

-- before the split it stays with the first half.
abbrev anchor_before : Case
anchor_before =
    changing (counting 302 (furnished [] (stopping (201 ∷ []) (rule 301 2 (1 ∷ [])) ∷ []) (stop 201 (at n2 n2 ∷ at n2 -n2 ∷ []) ∷ []) []
    (yard (plain 1 101 102 ∷ []) (e101 ∷ e102 ∷ [])))) (SplitLane 1 (Station n5) true)
    (furnished [] (stopping (201 ∷ []) (rule 301 2 (1 ∷ [])) ∷ []) (stop 201 (at n2 n2 ∷ at n2 -n2 ∷ []) ∷ []) []
    (yard (linked [] (304 ∷ []) (plain 1 101 102) ∷ linked (1 ∷ []) [] (plain 304 302 303) ∷ [])
    (edge 101 (from n0 n5 n2) ∷ edge 102 (from n0 n5 -n2) ∷ edge 302 (from n5 n10 n2) ∷ edge 303 (from n5 n10 -n2) ∷ [])))
    305 (Some 304)
    (changes (the_lane 304 ∷ the_boundary 302 ∷ the_boundary 303 ∷ []) (the_lane 1 ∷ the_boundary 101 ∷ the_boundary 102 ∷ []) [] [])

anchor_before-holds : Holds anchor_before
unfolding opened
anchor_before-holds = refl

-- a crosswalk's anchor is half way between its edges: at 7 here.
abbrev crosswalk-past : Case
crosswalk-past =
    changing (counting 302 (furnished [] (crossing 203 (rule 301 4 (1 ∷ [])) ∷ []) []
    (walk 203 (at n4 n2 ∷ at n4 -n2 ∷ []) (at n10 n2 ∷ at n10 -n2 ∷ []) ∷ [])
    (yard (plain 1 101 102 ∷ []) (e101 ∷ e102 ∷ [])))) (SplitLane 1 (Station n5) true)
    (furnished [] (crossing 203 (rule 301 4 (304 ∷ [])) ∷ []) [] (walk 203 (at n4 n2 ∷ at n4 -n2 ∷ []) (at n10 n2 ∷ at n10 -n2 ∷ []) ∷ [])
    (yard (linked [] (304 ∷ []) (plain 1 101 102) ∷ linked (1 ∷ []) [] (plain 304 302 303) ∷ [])
    (edge 101 (from n0 n5 n2) ∷ edge 102 (from n0 n5 -n2) ∷ edge 302 (from n5 n10 n2) ∷ edge 303 (from n5 n10 -n2) ∷ [])))
    305 (Some 304)
    (changes (the_lane 304 ∷ the_boundary 302 ∷ the_boundary 303 ∷ [])
    (the_lane 1 ∷ the_boundary 101 ∷ the_boundary 102 ∷ rule_entity 301 ∷ []) [] [])

crosswalk-past-holds : Holds crosswalk-past
unfolding opened
crosswalk-past-holds = refl

-- at 3.
abbrev crosswalk-before : Case
crosswalk-before =
    changing (counting 302 (furnished [] (crossing 203 (rule 301 4 (1 ∷ [])) ∷ []) []
    (walk 203 (at n0 n2 ∷ at n0 -n2 ∷ []) (at n6 n2 ∷ at n6 -n2 ∷ []) ∷ [])
    (yard (plain 1 101 102 ∷ []) (e101 ∷ e102 ∷ [])))) (SplitLane 1 (Station n5) true)
    (furnished [] (crossing 203 (rule 301 4 (1 ∷ [])) ∷ []) [] (walk 203 (at n0 n2 ∷ at n0 -n2 ∷ []) (at n6 n2 ∷ at n6 -n2 ∷ []) ∷ [])
    (yard (linked [] (304 ∷ []) (plain 1 101 102) ∷ linked (1 ∷ []) [] (plain 304 302 303) ∷ [])
    (edge 101 (from n0 n5 n2) ∷ edge 102 (from n0 n5 -n2) ∷ edge 302 (from n5 n10 n2) ∷ edge 303 (from n5 n10 -n2) ∷ [])))
    305 (Some 304)
    (changes (the_lane 304 ∷ the_boundary 302 ∷ the_boundary 303 ∷ []) (the_lane 1 ∷ the_boundary 101 ∷ the_boundary 102 ∷ []) [] [])

crosswalk-before-holds : Holds crosswalk-before
unfolding opened
crosswalk-before-holds = refl

-- "with no anchor it is added": after its first.
abbrev own-added : Case
own-added =
    changing (counting 302 (furnished [] (rule 301 5 (7 ∷ 1 ∷ 8 ∷ []) ∷ []) [] []
    (yard (plain 1 101 102 ∷ []) (e101 ∷ e102 ∷ [])))) (SplitLane 1 (Fraction n0·5) true)
    (furnished [] (rule 301 5 (7 ∷ 1 ∷ 304 ∷ 8 ∷ []) ∷ []) [] []
    (yard (linked [] (304 ∷ []) (plain 1 101 102) ∷ linked (1 ∷ []) [] (plain 304 302 303) ∷ [])
    (edge 101 (from n0 n5 n2) ∷ edge 102 (from n0 n5 -n2) ∷ edge 302 (from n5 n10 n2) ∷ edge 303 (from n5 n10 -n2) ∷ [])))
    305 (Some 304)
    (changes (the_lane 304 ∷ the_boundary 302 ∷ the_boundary 303 ∷ [])
    (the_lane 1 ∷ the_boundary 101 ∷ the_boundary 102 ∷ rule_entity 301 ∷ []) [] [])

own-added-holds : Holds own-added
unfolding opened
own-added-holds = refl

-- "Roads and junctions gain each second half after its first".
abbrev road_grown : Case
road_grown =
    changing (counting 302 (furnished (road 301 (8 ∷ 1 ∷ 7 ∷ []) ∷ []) [] [] []
    (yard (plain 1 101 102 ∷ []) (e101 ∷ e102 ∷ [])))) (SplitLane 1 (Fraction n0·5) true)
    (furnished (road 301 (8 ∷ 1 ∷ 304 ∷ 7 ∷ []) ∷ []) [] [] []
    (yard (linked [] (304 ∷ []) (plain 1 101 102) ∷ linked (1 ∷ []) [] (plain 304 302 303) ∷ [])
    (edge 101 (from n0 n5 n2) ∷ edge 102 (from n0 n5 -n2) ∷ edge 302 (from n5 n10 n2) ∷ edge 303 (from n5 n10 -n2) ∷ [])))
    305 (Some 304)
    (changes (the_lane 304 ∷ the_boundary 302 ∷ the_boundary 303 ∷ [])
    (the_lane 1 ∷ the_boundary 101 ∷ the_boundary 102 ∷ road_entity 301 ∷ []) [] [])

road_grown-holds : Holds road_grown
unfolding opened
road_grown-holds = refl

-- "So do a rule's priority and yielding lists"; its own lanes are none.
abbrev rights : Case
rights =
    changing (counting 302 (furnished [] (ranking (1 ∷ 7 ∷ []) (7 ∷ 1 ∷ []) (rule 301 3 []) ∷ []) [] []
    (yard (plain 1 101 102 ∷ []) (e101 ∷ e102 ∷ [])))) (SplitLane 1 (Fraction n0·5) true)
    (furnished [] (ranking (1 ∷ 304 ∷ 7 ∷ []) (7 ∷ 1 ∷ 304 ∷ []) (rule 301 3 []) ∷ []) [] []
    (yard (linked [] (304 ∷ []) (plain 1 101 102) ∷ linked (1 ∷ []) [] (plain 304 302 303) ∷ [])
    (edge 101 (from n0 n5 n2) ∷ edge 102 (from n0 n5 -n2) ∷ edge 302 (from n5 n10 n2) ∷ edge 303 (from n5 n10 -n2) ∷ [])))
    305 (Some 304)
    (changes (the_lane 304 ∷ the_boundary 302 ∷ the_boundary 303 ∷ [])
    (the_lane 1 ∷ the_boundary 101 ∷ the_boundary 102 ∷ rule_entity 301 ∷ []) [] [])

rights-holds : Holds rights
unfolding opened
rights-holds = refl

-- ---- merge

-- "A boundary shared by both lanes on one side is kept": 199 is never looked up, and may be absent.
abbrev shared_kept : Case
shared_kept =
    changing (counting 200 (yard (linked [] (2 ∷ []) (plain 1 101 199) ∷ linked (1 ∷ []) [] (plain 2 103 199) ∷ [])
    (e101 ∷ edge 103 (from n10 n20 n2) ∷ []))) (MergeLanes 1 2)
    (yard (plain 1 101 199 ∷ []) (edge 101 (at n0 n2 ∷ at n10 n2 ∷ at n20 n2 ∷ []) ∷ []))
    200 None
    (changes [] (the_lane 1 ∷ the_boundary 101 ∷ []) (the_lane 2 ∷ the_boundary 103 ∷ []) [])

shared-kept-holds : Holds shared_kept
unfolding opened
shared-kept-holds = refl

-- "In place, a reversed reference stores the joined line reversed".
abbrev in_place-reversed : Case
in_place-reversed =
    changing (counting 105 (yard (linked [] (2 ∷ []) (turned true false (plain 1 101 102)) ∷
    linked (1 ∷ []) [] (turned true false (plain 2 103 104)) ∷ [])
    (edge 101 (from n10 n0 n2) ∷ e102 ∷ edge 103 (from n20 n10 n2) ∷ edge 104 (from n10 n20 -n2) ∷ []))) (MergeLanes 1 2)
    (yard (turned true false (plain 1 101 102) ∷ []) (edge 101 (at n20 n2 ∷ at n10 n2 ∷ at n0 n2 ∷ []) ∷
    edge 102 (at n0 -n2 ∷ at n10 -n2 ∷ at n20 -n2 ∷ []) ∷ []))
    105 None
    (changes [] (the_lane 1 ∷ the_boundary 101 ∷ the_boundary 102 ∷ []) (the_lane 2 ∷ the_boundary 103 ∷ the_boundary 104 ∷ []) [])

in_place-reversed-holds : Holds in_place-reversed
unfolding opened
in_place-reversed-holds = refl

-- "a new boundary stores it forward": 101 is used by lane 3 too, so the left side is new.
abbrev fresh-forward : Case
fresh-forward =
    changing (counting 105 (yard (linked [] (2 ∷ []) (turned true false (plain 1 101 102)) ∷
    linked (1 ∷ []) [] (turned true false (plain 2 103 104)) ∷ plain 3 101 101 ∷ [])
    (edge 101 (from n10 n0 n2) ∷ e102 ∷ edge 103 (from n20 n10 n2) ∷ edge 104 (from n10 n20 -n2) ∷ []))) (MergeLanes 1 2)
    (yard (plain 1 105 102 ∷ plain 3 101 101 ∷ []) (edge 101 (from n10 n0 n2) ∷ edge 102 (at n0 -n2 ∷ at n10 -n2 ∷ at n20 -n2 ∷ []) ∷
    edge 105 (at n0 n2 ∷ at n10 n2 ∷ at n20 n2 ∷ []) ∷ []))
    106 None
    (changes (the_boundary 105 ∷ []) (the_lane 1 ∷ the_boundary 102 ∷ []) (the_lane 2 ∷ the_boundary 103 ∷ the_boundary 104 ∷ [])
    (warns BoundaryUnshared (the_boundary 105) [] ∷ []))

fresh-forward-holds : Holds fresh-forward
unfolding opened
fresh-forward-holds = refl

-- one boundary on both sides of the first lane: the right side's line stands, both of the second's are deleted.
abbrev both_in_place : Case
both_in_place =
    changing (counting 105 (yard (linked [] (2 ∷ []) (plain 1 101 101) ∷ linked (1 ∷ []) [] (plain 2 103 104) ∷ [])
    (e101 ∷ edge 103 (from n10 n20 n2) ∷ edge 104 (from n10 n20 -n2) ∷ []))) (MergeLanes 1 2)
    (yard (plain 1 101 101 ∷ []) (edge 101 (at n0 n2 ∷ at n10 n2 ∷ at n10 -n2 ∷ at n20 -n2 ∷ []) ∷ []))
    105 None
    (changes [] (the_lane 1 ∷ the_boundary 101 ∷ []) (the_lane 2 ∷ the_boundary 103 ∷ the_boundary 104 ∷ []) [])

both_in_place-holds : Holds both_in_place
unfolding opened
both_in_place-holds = refl

-- "`concat` drops the second line's first point only if the end distance is under 1e-6": here the ends are 0.5 apart.
abbrev apart-joined : Case
apart-joined =
    changing (counting 105 (yard (linked [] (2 ∷ []) (plain 1 101 102) ∷ linked (1 ∷ []) [] (plain 2 103 104) ∷ [])
    (e101 ∷ e102 ∷ edge 103 (from n10·5 n20 n2) ∷ edge 104 (from n10·5 n20 -n2) ∷ []))) (MergeLanes 1 2)
    (yard (plain 1 101 102 ∷ []) (edge 101 (at n0 n2 ∷ at n10 n2 ∷ at n10·5 n2 ∷ at n20 n2 ∷ []) ∷
    edge 102 (at n0 -n2 ∷ at n10 -n2 ∷ at n10·5 -n2 ∷ at n20 -n2 ∷ []) ∷ []))
    105 None
    (changes [] (the_lane 1 ∷ the_boundary 101 ∷ the_boundary 102 ∷ []) (the_lane 2 ∷ the_boundary 103 ∷ the_boundary 104 ∷ []) [])

apart-joined-holds : Holds apart-joined
unfolding opened
apart-joined-holds = refl

-- "Speed limits compare as floats: two NaNs conflict."
abbrev nan-limits : Case
nan-limits =
    changing (counting 105 (yard (linked [] (2 ∷ []) (limited 0x7FF8000000000000 (plain 1 101 102)) ∷
    linked (1 ∷ []) [] (limited 0x7FF8000000000000 (plain 2 103 104)) ∷ [])
    (e101 ∷ e102 ∷ edge 103 (from n10 n20 n2) ∷ edge 104 (from n10 n20 -n2) ∷ []))) (MergeLanes 1 2)
    (yard (limited 0x7FF8000000000000 (plain 1 101 102) ∷ [])
    (edge 101 (at n0 n2 ∷ at n10 n2 ∷ at n20 n2 ∷ []) ∷ edge 102 (at n0 -n2 ∷ at n10 -n2 ∷ at n20 -n2 ∷ []) ∷ []))
    105 None
    (changes [] (the_lane 1 ∷ the_boundary 101 ∷ the_boundary 102 ∷ []) (the_lane 2 ∷ the_boundary 103 ∷ the_boundary 104 ∷ [])
    (warns AttributeConflict (the_lane 1) (the_lane 2 ∷ []) ∷ []))

nan-limits-holds : Holds nan-limits
unfolding opened
nan-limits-holds = refl

-- +0 and −0 do not; the first lane's stays.
abbrev zero-limits : Case
zero-limits =
    changing (counting 105 (yard (linked [] (2 ∷ []) (limited 0x0 (plain 1 101 102)) ∷
    linked (1 ∷ []) [] (limited 0x8000000000000000 (plain 2 103 104)) ∷ [])
    (e101 ∷ e102 ∷ edge 103 (from n10 n20 n2) ∷ edge 104 (from n10 n20 -n2) ∷ []))) (MergeLanes 1 2)
    (yard (limited 0x0 (plain 1 101 102) ∷ []) (edge 101 (at n0 n2 ∷ at n10 n2 ∷ at n20 n2 ∷ []) ∷
    edge 102 (at n0 -n2 ∷ at n10 -n2 ∷ at n20 -n2 ∷ []) ∷ []))
    105 None
    (changes [] (the_lane 1 ∷ the_boundary 101 ∷ the_boundary 102 ∷ []) (the_lane 2 ∷ the_boundary 103 ∷ the_boundary 104 ∷ []) [])

zero-limits-holds : Holds zero-limits
unfolding opened
zero-limits-holds = refl

-- a centreline that only one of the two has is dropped with no warning.
abbrev one_centreline : Case
one_centreline =
    changing (counting 105 (yard (linked [] (2 ∷ []) (centred (from n0 n10 n0) (plain 1 101 102)) ∷ linked (1 ∷ []) [] (plain 2 103 104) ∷ [])
    (e101 ∷ e102 ∷ edge 103 (from n10 n20 n2) ∷ edge 104 (from n10 n20 -n2) ∷ []))) (MergeLanes 1 2)
    (yard (plain 1 101 102 ∷ []) (edge 101 (at n0 n2 ∷ at n10 n2 ∷ at n20 n2 ∷ []) ∷ edge 102 (at n0 -n2 ∷ at n10 -n2 ∷ at n20 -n2 ∷ []) ∷ []))
    105 None
    (changes [] (the_lane 1 ∷ the_boundary 101 ∷ the_boundary 102 ∷ []) (the_lane 2 ∷ the_boundary 103 ∷ the_boundary 104 ∷ []) [])

one_centreline_holds : Holds one_centreline
unfolding opened
one_centreline_holds = refl

-- "5 not mergeable: same lane".
abbrev same-lane : Case
same-lane =
    refusing (counting 103 (yard (linked (1 ∷ []) (1 ∷ []) (plain 1 101 102) ∷ []) (e101 ∷ e102 ∷ []))) (MergeLanes 1 1) (NotMergeable 1)

same-lane-holds : Holds same-lane
unfolding opened
same-lane-holds = refl

-- the left of the first, the left of the second, then the right ones are looked up.
abbrev absent-left-first : Case
absent-left-first =
    refusing (counting 105 (yard (linked [] (2 ∷ []) (plain 1 101 102) ∷ linked (1 ∷ []) [] (plain 2 103 104) ∷ [])
    (edge 103 (from n10 n20 n2) ∷ []))) (MergeLanes 1 2) (BoundaryAbsent 101)

absent-left-first-holds : Holds absent-left-first
unfolding opened
absent-left-first-holds = refl

-- ---- remove

-- a rule that loses its last lane.
abbrev orphan : Case
orphan =
    changing (counting 302 (furnished [] (rule 301 5 (1 ∷ []) ∷ []) [] []
    (yard (plain 1 101 102 ∷ []) (e101 ∷ e102 ∷ [])))) (RemoveLane 1)
    (furnished [] (rule 301 5 [] ∷ []) [] []
    (yard [] []))
    302 None
    (changes [] (rule_entity 301 ∷ []) (the_lane 1 ∷ the_boundary 101 ∷ the_boundary 102 ∷ []) (orphaning 301 ∷ []))

orphan-holds : Holds orphan
unfolding opened
orphan-holds = refl

-- orphan_rule is also raised for a rule that had no lanes before, if the removed lane stood in its priority or yielding list.
abbrev orphan-before : Case
orphan-before =
    changing (counting 302 (furnished [] (ranking [] (1 ∷ 7 ∷ []) (rule 301 3 []) ∷ []) [] []
    (yard (plain 1 101 102 ∷ []) (e101 ∷ e102 ∷ [])))) (RemoveLane 1)
    (furnished [] (ranking [] (7 ∷ []) (rule 301 3 []) ∷ []) [] []
    (yard [] []))
    302 None
    (changes [] (rule_entity 301 ∷ []) (the_lane 1 ∷ the_boundary 101 ∷ the_boundary 102 ∷ []) (orphaning 301 ∷ []))

orphan-before-holds : Holds orphan-before
unfolding opened
orphan-before-holds = refl

-- "a missing one that a lane named is in no list": 101 is absent.
abbrev missing-unlisted : Case
missing-unlisted =
    changing (counting 103 (yard (plain 1 101 102 ∷ []) (e102 ∷ []))) (RemoveLane 1)
    (yard [] [])
    103 None
    (changes [] [] (the_lane 1 ∷ the_boundary 102 ∷ []) [])

missing-unlisted-holds : Holds missing-unlisted
unfolding opened
missing-unlisted-holds = refl

-- ---- the table

abbrev pub corners : List Case
corners = one-sided ∷ created-short ∷ created-exact ∷ lanes-short ∷ ids_short ∷ ids-exact ∷ spent ∷ counter-zero ∷ counter-kept ∷ neighbour_empty ∷ neighbour_point ∷ boundary-missing ∷ boundary-empty ∷ boundary-short ∷ line-missing ∷ line-before-fraction ∷ own-empty ∷ reversed ∷ both-sides ∷ self-link ∷ self-beside ∷ anchor_past ∷ anchor_before ∷ crosswalk-past ∷ crosswalk-before ∷ own-added ∷ road_grown ∷ rights ∷ shared_kept ∷ in_place-reversed ∷ fresh-forward ∷ both_in_place ∷ apart-joined ∷ nan-limits ∷ zero-limits ∷ one_centreline ∷ same-lane ∷ absent-left-first ∷ orphan ∷ orphan-before ∷ missing-unlisted ∷ []

pub corners_hold : AllHold corners
corners_hold = (one-sided-holds, (created-short-holds, (created-exact-holds, (lanes-short-holds, (ids-short-holds, (ids-exact-holds, (spent-holds, (counter-zero-holds, (counter-kept-holds, (neighbour_empty-holds, (neighbour_point-holds, (boundary-missing-holds, (boundary-empty-holds, (boundary-short-holds, (line-missing-holds, (line-before-fraction-holds, (own-empty-holds, (reversed-holds, (both-sides-holds, (self-link-holds, (self-beside-holds, (anchor_past-holds, (anchor_before-holds, (crosswalk-past-holds, (crosswalk-before-holds, (own-added-holds, (road_grown-holds, (rights-holds, (shared-kept-holds, (in_place-reversed-holds, (fresh-forward-holds, (both_in_place-holds, (apart-joined-holds, (nan-limits-holds, (zero-limits-holds, (one_centreline_holds, (same-lane-holds, (absent-left-first-holds, (orphan-holds, (orphan-before-holds, (missing-unlisted-holds, tt)))))))))))))))))))))))))))))))))))))))))
