-- map.rs: look-ups, lines and centrelines, users of a boundary, lateral groups and anchors, on a map as a record of lists.
use Rattle.geometry.specs.declared.Point3.{Point3}
use Rattle.polyline.specs.declared.NearestPoint.{NearestPoint}
use Rattle.std.specs.Prelude.{ℕ, zero, suc, Bool, false, ◌&&◌, ◌||◌, cond, List, [], ◌∷◌, map, reverse, eqb, length, Float, Option, None, Some}
use Rattle.lists.specs.Select.{keep, any, find, has}
use Rattle.geometry.specs.Float.{halfᶠ}
use Rattle.geometry.specs.Point as Point
use Rattle.polyline.specs.Polyline as Polyline
use Rattle.rules.specs.Names.{Side, Left, Right, BoundaryRef, Neighbor, Point2}
use Rattle.entities.specs.Records.{Line, Lane, Boundary, Rule, StopLine, Crosswalk, Map}

-- ---- look-ups by id

unfoldable pub lane : Map → ℕ → Option Lane
lane m i = find (λ l. eqb l.id i) m.lanes

unfoldable pub boundary : Map → ℕ → Option Boundary
boundary m i = find (λ b. eqb b.id i) m.boundaries

unfoldable pub stop_line : Map → ℕ → Option StopLine
stop_line m i = find (λ s. eqb s.id i) m.stop_lines

unfoldable pub crosswalk : Map → ℕ → Option Crosswalk
crosswalk m i = find (λ c. eqb c.id i) m.crosswalks

abbrev pub lane_ids : Map → List ℕ
lane_ids m = map (λ l. l.id) m.lanes

abbrev pub boundary_on : Side → Lane → BoundaryRef
boundary_on Left l = l.left
boundary_on Right l = l.right

abbrev pub neighbor_on : Side → Lane → Option Neighbor
neighbor_on Left l = l.left_neighbor
neighbor_on Right l = l.right_neighbor

-- ---- links and neighbours as relations

-- b is a successor of a
unfoldable pub leads_to : Map → ℕ → ℕ → Bool
leads_to m a b = any (λ l. eqb l.id a && has b l.successors) m.lanes

-- a is a predecessor of b
unfoldable pub comes_from : Map → ℕ → ℕ → Bool
comes_from m a b = any (λ l. eqb l.id b && has a l.predecessors) m.lanes

-- a slot names lane i
abbrev pub names : Option Neighbor → ℕ → Bool
names None i = false
names (Some n) i = eqb n.lane i

abbrev pub beside : Lane → ℕ → Bool
beside l i = names l.left_neighbor i || names l.right_neighbor i

-- ---- derived geometry

unfoldable pub oriented : BoundaryRef → Boundary → Line
oriented r b = cond r.reversed (reverse b.geometry) b.geometry

abbrev pub oriented_in : BoundaryRef → Option Boundary → Option Line
oriented_in r None = None
oriented_in r (Some b) = Some (oriented r b)

-- a boundary's line along the lane, where the boundary is present
unfoldable pub oriented_boundary : Map → Side → Lane → Option Line
oriented_boundary m side l = oriented_in (boundary_on side l) (boundary m (boundary_on side l).boundary)

-- nothing, where a line has no point
abbrev pub usable : Line → Option Line
usable [] = None
usable (p ∷ ps) = Some (p ∷ ps)

abbrev pub derived : Option Line → Option Line → Option Line
derived None right = None
derived (Some left) None = None
derived (Some left) (Some right) = usable (Polyline.centerline left right)

abbrev pub explicit_or : Option Line → Option Line → Option Line
explicit_or None other = other
explicit_or (Some c) other = Some c

-- the explicit centreline, or the one derived from both boundaries
unfoldable pub centerline : Map → Lane → Option Line
centerline m l = explicit_or l.centerline (derived (oriented_boundary m Left l) (oriented_boundary m Right l))

abbrev pub first_of : Option Line → Option Point3
first_of None = None
first_of (Some c) = Polyline.first c

abbrev pub last_of : Option Line → Option Point3
last_of None = None
last_of (Some c) = Polyline.last c

-- the station of a line's point that is nearest to a point
abbrev pub station_of : Option NearestPoint → Option Float
station_of None = None
station_of (Some n) = Some n.station

unfoldable pub station : Line → Point2 → Option Float
station c p = station_of (Polyline.nearest_point c p)

-- ---- who uses a boundary

abbrev pub uses : ℕ → Lane → Bool
uses b l = eqb l.left.boundary b || eqb l.right.boundary b

unfoldable pub lanes_using_boundary : List Lane → ℕ → List ℕ
lanes_using_boundary ls b = map (λ l. l.id) (keep (uses b) ls)

-- ---- lateral_group: "everything reached through neighbour slots, ascending"

-- those of the table that are in the set, or that a lane of the set names in a slot
unfoldable pub widened : Map → List ℕ → List ℕ
widened m ids = map (λ l. l.id) (keep (λ x. has x.id ids || any (λ l. has l.id ids && beside l x.id) m.lanes) m.lanes)

unfoldable pub grown : Map → ℕ → List ℕ → List ℕ
grown m zero ids = ids
grown m (suc k) ids = grown m k (widened m ids)

unfoldable pub lateral_group : Map → ℕ → List ℕ
lateral_group m i = grown m (length m.lanes) (i ∷ [])

-- ---- rule_anchor: the middle of the first stop line, or between those of the crosswalk's edges

abbrev pub flat_point : Option Point3 → Option Point2
flat_point None = None
flat_point (Some p) = Some (Point.xy p)

unfoldable pub mid : Line → Option Point2
mid c = flat_point (Polyline.point_at_fraction c halfᶠ)

abbrev pub stop_anchor : Option StopLine → Option Point2
stop_anchor None = None
stop_anchor (Some s) = mid s.geometry

abbrev pub half_way : Option Point2 → Option Point2 → Option Point2
half_way None q = None
half_way (Some p) None = None
half_way (Some p) (Some q) = Some (Point.lerp2 p q halfᶠ)

abbrev pub cross_anchor : Option Crosswalk → Option Point2
cross_anchor None = None
cross_anchor (Some c) = half_way (mid c.left_edge) (mid c.right_edge)

abbrev pub crosswalk_in : Map → Option ℕ → Option Crosswalk
crosswalk_in m None = None
crosswalk_in m (Some i) = crosswalk m i

-- Document 01: "A rule whose first stop line is missing has no anchor, and a crosswalk is not tried."
abbrev pub anchor_by : Map → Rule → List ℕ → Option Point2
anchor_by m r [] = cross_anchor (crosswalk_in m r.crosswalk)
anchor_by m r (s ∷ ss) = stop_anchor (stop_line m s)

unfoldable pub rule_anchor : Map → Rule → Option Point2
rule_anchor m r = anchor_by m r r.stop_lines
