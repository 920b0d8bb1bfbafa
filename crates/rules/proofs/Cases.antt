-- Document 01, "Cases": cases 1 to 9 and the corners that its text names, as one table of rows. A row is a map with its counter, a call and the
-- whole outcome; each holds by computation. Ids allocated are the counter's: N1 is 104 where the counter stands at 104.
use Rattle.std.specs.Prelude.{Option, None, Some}
use mathlib.Core.Path.{◌≡◌, refl}
use mathlib.Core.Bool.{true, false}
use mathlib.Core.List.{List, [], ◌∷◌, ◌++◌}
use Prim.{Unit, tt}
use Prim.Native.Nat.{ℕ}
use lib.Ieee.{Float, nan, binary64, of_bits}
use Rattle.entities.specs.Types.{preset, forward, same}
use Rattle.entities.specs.Records.{Line, Lane, Boundary, Map, Issue, ChangeSet}
use Rattle.rules.specs.Names.{Point3, Fraction, Station, Neighbor, EntityRef, LaneKind, BoundaryKind, Info, Warning, IssueCode, NoOp, GeometricGap, BoundaryUnshared, NeighborDropped, Refusal, FractionOutside, PositionOutside, OwnPartner}
use Rattle.rules.specs.Sound.{Room, Lists}
use Rattle.rules.specs.Ops.{Command, SplitLane, MergeLanes, ConnectLanes, DisconnectLanes, RemoveLane, State, Call, refused, accepted, Outcome, step_map}
use Rattle.rules.proofs.Opened.{opened}

-- ---- rows

pub record Case : Type 0 where
  pub before : State
  pub room : Room
  pub call : Call
  pub outcome : Outcome

abbrev pub Holds : Case → Type 0
Holds c = step_map preset c.room c.call c.before ≡ c.outcome

abbrev pub AllHold : List Case → Type 0
AllHold [] = Unit
AllHold (c ∷ cs) = Holds c × AllHold cs

abbrev pub ample : Room
ample = record { lanes = 1024; boundaries = 4096; points = 65536 }

abbrev pub lists : Lists
lists = record { created = 64; modified = 64; deleted = 64; warnings = 64 }

abbrev pub calling : Command → Call
calling c = record { command = c; lists = lists }

abbrev pub refusing : State → Command → Refusal → Case
refusing s c r = record { before = s; room = ample; call = calling c; outcome = record { state = s; answer = refused r } }

abbrev pub changing : State → Command → Map → ℕ → Option ℕ → ChangeSet → Case
changing s c m counter second cs =
    record { before = s; room = ample; call = calling c; outcome = record { state = record { map = m; counter = counter }; answer = accepted cs second } }

abbrev pub changes : List EntityRef → List EntityRef → List EntityRef → List Issue → ChangeSet
changes created modified deleted warnings = record { created = created; modified = modified; deleted = deleted; warnings = warnings }

-- ---- entities and warnings, written out: an outcome borrows nothing from the definitions that it judges

abbrev pub the_lane : ℕ → EntityRef
the_lane i = record { kind = LaneKind; id = i }

abbrev pub the_boundary : ℕ → EntityRef
the_boundary i = record { kind = BoundaryKind; id = i }

abbrev pub warns : IssueCode → EntityRef → List EntityRef → Issue
warns code entity related = record { severity = Warning; code = code; entity = entity; related = related; fix = false }

abbrev pub nothing-done : ℕ → Issue
nothing-done l = record { severity = Info; code = NoOp; entity = the_lane l; related = []; fix = false }

-- ---- numbers and lines

abbrev pub f : ℕ → Float
f bits = of_bits binary64 bits

abbrev pub n0 : Float
n0 = f 0

abbrev pub n0·1 : Float
n0·1 = f 0x3FB999999999999A

abbrev pub n0·5 : Float
n0·5 = f 0x3FE0000000000000

abbrev pub n1 : Float
n1 = f 0x3FF0000000000000

abbrev pub n2 : Float
n2 = f 0x4000000000000000

abbrev pub n5 : Float
n5 = f 0x4014000000000000

abbrev pub n9·8 : Float
n9·8 = f 0x402399999999999A

abbrev pub n9·9 : Float
n9·9 = f 0x4023CCCCCCCCCCCD

abbrev pub n10 : Float
n10 = f 0x4024000000000000

abbrev pub -n2 : Float
-n2 = f 0xC000000000000000

abbrev pub -n6 : Float
-n6 = f 0xC018000000000000

abbrev pub -n10 : Float
-n10 = f 0xC024000000000000

abbrev pub at : Float → Float → Point3
at x y = record { x = x; y = y; z = n0 }

abbrev pub from : Float → Float → Float → Line
from a b y = at a y ∷ at b y ∷ []

abbrev pub edge : ℕ → Line → Boundary
edge i c = record { id = i; kind = 1; geometry = c; attributes = 0 }

abbrev pub plain : ℕ → ℕ → ℕ → Lane
plain i l r =
    record {
      id = i;
      kind = 0;
      left = forward l;
      right = forward r;
      centerline = None;
      speed_limit = None;
      one_way = true;
      turn_direction = 0;
      attributes = 0;
      left_neighbor = None;
      right_neighbor = None;
      predecessors = [];
      successors = [];
    }

-- a lane with neighbours, and with links
abbrev pub beside : Option Neighbor → Option Neighbor → Lane → Lane
beside ln rn l =
    record {
      id = l.id;
      kind = l.kind;
      left = l.left;
      right = l.right;
      centerline = l.centerline;
      speed_limit = l.speed_limit;
      one_way = l.one_way;
      turn_direction = l.turn_direction;
      attributes = l.attributes;
      left_neighbor = ln;
      right_neighbor = rn;
      predecessors = l.predecessors;
      successors = l.successors;
    }

abbrev pub linked : List ℕ → List ℕ → Lane → Lane
linked ps ss l =
    record {
      id = l.id;
      kind = l.kind;
      left = l.left;
      right = l.right;
      centerline = l.centerline;
      speed_limit = l.speed_limit;
      one_way = l.one_way;
      turn_direction = l.turn_direction;
      attributes = l.attributes;
      left_neighbor = l.left_neighbor;
      right_neighbor = l.right_neighbor;
      predecessors = ps;
      successors = ss;
    }

abbrev pub yard : List Lane → List Boundary → Map
yard ls bs = record { lanes = ls; boundaries = bs; roads = []; junctions = []; rules = []; stop_lines = []; crosswalks = [] }

-- ---- cases 1 to 4: lane 1 between 101 and 102

abbrev pub e101 : Boundary
e101 = edge 101 (from n0 n10 n2)

abbrev pub e102 : Boundary
e102 = edge 102 (from n0 n10 -n2)

abbrev pub one : State
one = record { map = yard (plain 1 101 102 ∷ []) (e101 ∷ e102 ∷ []); counter = 103 }

abbrev pub halved_at : Float → Map
halved_at x =
    yard (linked [] (105 ∷ []) (plain 1 101 102) ∷ linked (1 ∷ []) [] (plain 105 103 104) ∷ [])
    (edge 101 (from n0 x n2) ∷ edge 102 (from n0 x -n2) ∷ edge 103 (from x n10 n2) ∷ edge 104 (from x n10 -n2) ∷ [])

abbrev pub halving : ChangeSet
halving = changes (the_lane 105 ∷ the_boundary 103 ∷ the_boundary 104 ∷ []) (the_lane 1 ∷ the_boundary 101 ∷ the_boundary 102 ∷ []) [] []

abbrev case_1 : Case
case_1 = changing one (SplitLane 1 (Fraction n0·5) true) (halved_at n5) 106 (Some 105) halving

case_1_holds : Holds case_1
unfolding opened
case_1_holds = refl

-- a point more than at first
abbrev case_2 : Case
case_2 =
    changing (record { map = halved_at n5; counter = 106 }) (MergeLanes 1 105)
    (yard (plain 1 101 102 ∷ [])
    (edge 101 (at n0 n2 ∷ at n5 n2 ∷ at n10 n2 ∷ []) ∷ edge 102 (at n0 -n2 ∷ at n5 -n2 ∷ at n10 -n2 ∷ []) ∷ []))
    106 None
    (changes [] (the_lane 1 ∷ the_boundary 101 ∷ the_boundary 102 ∷ []) (the_lane 105 ∷ the_boundary 103 ∷ the_boundary 104 ∷ []) [])

case_2_holds : Holds case_2
unfolding opened
case_2_holds = refl

abbrev case_3_low : Case
case_3_low = refusing one (SplitLane 1 (Station n0·1) true) (PositionOutside 1)

case_3_low-holds : Holds case_3_low
unfolding opened
case_3_low-holds = refl

abbrev case_3_high : Case
case_3_high = refusing one (SplitLane 1 (Station n9·9) true) (PositionOutside 1)

case_3_high-holds : Holds case_3_high
unfolding opened
case_3_high-holds = refl

abbrev case_3_inside : Case
case_3_inside = changing one (SplitLane 1 (Station n9·8) true) (halved_at n9·8) 106 (Some 105) halving

case_3_inside-holds : Holds case_3_inside
unfolding opened
case_3_inside-holds = refl

abbrev case_4_zero : Case
case_4_zero = refusing one (SplitLane 1 (Fraction n0) true) FractionOutside

case_4_zero-holds : Holds case_4_zero
unfolding opened
case_4_zero-holds = refl

abbrev case_4_one : Case
case_4_one = refusing one (SplitLane 1 (Fraction n1) true) FractionOutside

case_4_one-holds : Holds case_4_one
unfolding opened
case_4_one-holds = refl

abbrev case_4_nan : Case
case_4_nan = refusing one (SplitLane 1 (Fraction nan) true) FractionOutside

case_4_nan-holds : Holds case_4_nan
unfolding opened
case_4_nan-holds = refl

-- ---- cases 5 to 8: lane 2, between 102 and 103, is right of lane 1

abbrev pub e103 : Boundary
e103 = edge 103 (from n0 n10 -n6)

abbrev pub pair : (Lane → Lane) → (Lane → Lane) → State
pair g h =
    record {
      map = yard (g (beside None (Some (same 2)) (plain 1 101 102)) ∷ h (beside (Some (same 1)) None (plain 2 102 103)) ∷ []) (e101 ∷ e102 ∷ e103 ∷ []);
      counter = 104;
    }

abbrev pub two : State
two = pair (linked [] []) (linked [] [])

-- lane 1 alone is cut: lane 2 keeps 102 and its neighbour
abbrev case_5 : Case
case_5 =
    changing two (SplitLane 1 (Fraction n0·5) false)
    (yard
    (linked [] (107 ∷ []) (beside None (Some (same 2)) (plain 1 101 105)) ∷ beside (Some (same 1)) None (plain 2 102 103) ∷ linked (1 ∷ []) [] (plain 107 104 106) ∷ [])
    (edge 101 (from n0 n5 n2) ∷ e102 ∷ e103 ∷ edge 104 (from n5 n10 n2) ∷ edge 105 (from n0 n5 -n2) ∷ edge 106 (from n5 n10 -n2) ∷ []))
    108 (Some 107)
    (changes (the_lane 107 ∷ the_boundary 104 ∷ the_boundary 105 ∷ the_boundary 106 ∷ []) (the_lane 1 ∷ the_boundary 101 ∷ []) []
    (warns BoundaryUnshared (the_boundary 102) (the_boundary 105 ∷ the_boundary 106 ∷ []) ∷ warns NeighborDropped (the_lane 107) (the_lane 2 ∷ []) ∷ []))

case_5_holds : Holds case_5
unfolding opened
case_5_holds = refl

abbrev case_6 : Case
case_6 =
    changing two (RemoveLane 2) (yard (plain 1 101 102 ∷ []) (e101 ∷ e102 ∷ [])) 104 None
    (changes [] (the_lane 1 ∷ []) (the_lane 2 ∷ the_boundary 103 ∷ []) [])

case_6_holds : Holds case_6
unfolding opened
case_6_holds = refl

abbrev case_7_connect : Case
case_7_connect = refusing one (ConnectLanes 1 1) (OwnPartner 1)

case_7_connect-holds : Holds case_7_connect
unfolding opened
case_7_connect-holds = refl

abbrev case_7_disconnect : Case
case_7_disconnect = changing one (DisconnectLanes 1 1) one.map 103 None (changes [] [] [] (nothing-done 1 ∷ []))

case_7_disconnect-holds : Holds case_7_disconnect
unfolding opened
case_7_disconnect-holds = refl

-- a ring of two: the merged lane leads into itself
abbrev case_8 : Case
case_8 =
    changing (pair (linked (2 ∷ []) (2 ∷ [])) (linked (1 ∷ []) (1 ∷ []))) (MergeLanes 1 2)
    (yard (linked (1 ∷ []) (1 ∷ []) (plain 1 104 105) ∷ [])
    (edge 104 (from n0 n10 n2 ++ from n0 n10 -n2) ∷ edge 105 (from n0 n10 -n2 ++ from n0 n10 -n6) ∷ []))
    106 None
    (changes (the_boundary 104 ∷ the_boundary 105 ∷ []) (the_lane 1 ∷ []) (the_lane 2 ∷ the_boundary 101 ∷ the_boundary 102 ∷ the_boundary 103 ∷ [])
    (warns NeighborDropped (the_lane 1) (the_lane 1 ∷ []) ∷ warns BoundaryUnshared (the_boundary 104) [] ∷ warns BoundaryUnshared (the_boundary 105) [] ∷ []))

case_8_holds : Holds case_8
unfolding opened
case_8_holds = refl

-- ---- case 9: lane 2 starts some way behind the end of lane 1

abbrev pub behind : (Lane → Lane) → (Lane → Lane) → Float → Map
behind g h x =
    yard (g (plain 1 101 102) ∷ h (plain 2 103 104) ∷ [])
    (edge 101 (from -n10 n0 n2) ∷ edge 102 (from -n10 n0 -n2) ∷ edge 103 (from x n10 n2) ∷ edge 104 (from x n10 -n2) ∷ [])

abbrev pub gap : Float → State
gap x = record { map = behind (linked [] []) (linked [] []) x; counter = 105 }

-- ends 0.1 apart are not warned of
abbrev case_9 : Case
case_9 =
    changing (gap n0·1) (ConnectLanes 1 2) (behind (linked [] (2 ∷ [])) (linked (1 ∷ []) []) n0·1) 105 None
    (changes [] (the_lane 1 ∷ the_lane 2 ∷ []) [] [])

case_9_holds : Holds case_9
unfolding opened
case_9_holds = refl

-- just above 0.1 they are, also where the link exists
abbrev gap-above : Case
gap-above =
    changing (record { map = behind (linked [] (2 ∷ [])) (linked (1 ∷ []) []) n0·5; counter = 105 }) (ConnectLanes 1 2)
    (behind (linked [] (2 ∷ [])) (linked (1 ∷ []) []) n0·5) 105 None
    (changes [] [] [] (warns GeometricGap (the_lane 1) (the_lane 2 ∷ []) ∷ nothing-done 1 ∷ []))

gap-above-holds : Holds gap-above
unfolding opened
gap-above-holds = refl

-- ---- the table

abbrev pub table : List Case
table = case_1 ∷ case_2 ∷ case_3_low ∷ case_3_high ∷ case_3_inside ∷ case_4_zero ∷ case_4_one ∷ case_4_nan ∷ case_5 ∷ case_6 ∷ case_7_connect ∷ case_7_disconnect ∷ case_8 ∷ case_9 ∷ gap-above ∷ []

pub table-holds : AllHold table
table-holds = (case_1_holds, (case_2_holds, (case_3_low-holds, (case_3_high-holds, (case_3_inside-holds, (case_4_zero-holds, (case_4_one-holds, (case_4_nan-holds, (case_5_holds, (case_6_holds, (case_7_connect-holds, (case_7_disconnect-holds, (case_8_holds, (case_9_holds, (gap-above-holds, tt)))))))))))))))
