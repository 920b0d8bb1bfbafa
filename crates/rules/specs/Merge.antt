-- edit/merge.rs: merge_lanes.
use Rattle.std.specs.Prelude.{ℕ, ◌+◌, Bool, true, false, not, ◌&&◌, ◌||◌, cond, List, [], ◌∷◌, ◌++◌, map, reverse, eqb, Float, Option, None, Some, Ok}
use Rattle.std.specs.Float.{binary64}
use Rattle.std.specs.Float.Ieee.{of_bits, ne}
use Rattle.lists.specs.Select.{keep, has, without, place, same_numbers}
use Rattle.polyline.specs.Polyline.{concat}
use Rattle.entities.specs.Types.{forward, lane_entity, boundary_entity}
use Rattle.rules.specs.Names.{Side, Left, Right, BoundaryRef, Neighbor, Tolerance, LaneKind, BoundaryKind, BoundaryUnshared, NeighborDropped, AttributeConflict, NotMergeable, BoundaryAbsent}
use Rattle.entities.specs.Records.{Line, Lane, Boundary, Map, Issue}
use Rattle.rules.specs.Map.{boundary, boundary_on, oriented_boundary, lanes_using_boundary, names}
use Rattle.rules.specs.Edit.{Res, ◌>>=◌, check, require, Edited, require_lane, refs, lanes_where, boundaries_where, roads_where, junctions_where, rules_where, warning, when, lane_with, relinked}
use Rattle.rules.specs.Lane.{mentions, forgetting, road_lanes, junction_lanes, rule_lanes, rule_names_lane, unused}

-- ---- one side of the two lanes

-- "A boundary shared by both lanes on one side is kept. A pair is joined in place only if the first's boundary is used by the first lane alone
-- and the second's by the second alone." Else the merged lane gets a new one.
pub data SidePlan : Type 0 where
  kept : SidePlan
  in_place : Line → SidePlan
  fresh : Line → SidePlan

abbrev pub joined : Bool → Line → SidePlan
joined true c = in_place c
joined false c = fresh c

abbrev pub joined_lines : Float → Bool → ℕ → ℕ → Option Line → Option Line → Res SidePlan
joined_lines join alone ra rb ga gb = do
  first ← require ga (BoundaryAbsent ra)
  second ← require gb (BoundaryAbsent rb)
  Ok (joined alone (concat join first second))

unfoldable pub side_plan : Tolerance → Map → Side → Lane → Lane → Res SidePlan
side_plan tol m side a b =
    let ra = (boundary_on side a).boundary in
    let rb = (boundary_on side b).boundary in
    let alone = same_numbers (lanes_using_boundary m.lanes ra) (a.id ∷ []) && same_numbers (lanes_using_boundary m.lanes rb) (b.id ∷ []) in
    cond (eqb ra rb) (Ok kept) (joined_lines tol.join alone ra rb (oriented_boundary m side a) (oriented_boundary m side b))

-- ids that a plan allocates
abbrev pub plan_ids : SidePlan → ℕ
plan_ids kept = 0
plan_ids (in_place c) = 0
plan_ids (fresh c) = 1

-- the merged lane's reference on a side, `next` being the next id
abbrev pub plan_ref : SidePlan → ℕ → BoundaryRef → BoundaryRef
plan_ref kept next r = r
plan_ref (in_place c) next r = r
plan_ref (fresh c) next r = forward next

abbrev pub plan_joins : SidePlan → BoundaryRef → ℕ → Bool
plan_joins kept r i = false
plan_joins (in_place c) r i = eqb r.boundary i
plan_joins (fresh c) r i = false

-- "In place, a reversed reference stores the joined line reversed; a new boundary stores it forward."
abbrev pub plan_line : SidePlan → BoundaryRef → Line
plan_line kept r = []
plan_line (in_place c) r = cond r.reversed (reverse c) c
plan_line (fresh c) r = c

abbrev pub redrawn : Line → Boundary → Boundary
redrawn c b = record { id = b.id; kind = b.kind; geometry = c; attributes = b.attributes }

-- a boundary joined in place; where both sides name it the right one's line stands
abbrev pub joined_boundary : SidePlan → SidePlan → Lane → Boundary → Boundary
joined_boundary pl pr a b =
    cond (plan_joins pr a.right b.id) (redrawn (plan_line pr a.right) b)
    (cond (plan_joins pl a.left b.id) (redrawn (plan_line pl a.left) b) b)

-- the new boundary of a side: kind and attributes of the first lane's
abbrev pub new_boundary : Map → SidePlan → ℕ → BoundaryRef → List Boundary
new_boundary m kept next r = []
new_boundary m (in_place c) next r = []
new_boundary m (fresh c) next r =
    elim (boundary m r.boundary) [ None ↦ [] | Some b ↦ record { id = next; kind = b.kind; geometry = c; attributes = b.attributes } ∷ [] ]

abbrev pub plan_warning : SidePlan → ℕ → List Issue
plan_warning kept next = []
plan_warning (in_place c) next = []
plan_warning (fresh c) next = warning BoundaryUnshared (boundary_entity next) [] ∷ []

-- ---- attributes, neighbours, lists

-- "Speed limits compare as floats: two NaNs conflict."
abbrev pub speeds_differ : Option ℕ → Option ℕ → Bool
speeds_differ None None = false
speeds_differ None (Some y) = true
speeds_differ (Some x) None = true
speeds_differ (Some x) (Some y) = ne (of_bits binary64 x) (of_bits binary64 y)

abbrev pub conflict : Lane → Lane → Bool
conflict a b = not (eqb a.kind b.kind) || speeds_differ a.speed_limit b.speed_limit || not (eqb a.turn_direction b.turn_direction)

-- "A neighbour of the second counts as dropped if the first's slot on that side does not name the same lane; direction is not compared."
abbrev pub dropped : ℕ → Option Neighbor → Option Neighbor → List Issue
dropped a None first = []
dropped a (Some n) first = when (not (names first n.lane)) (warning NeighborDropped (lane_entity a) (lane_entity n.lane ∷ []))

-- replace_lane: every b reads a, or goes where a stands already
abbrev pub read : ℕ → ℕ → ℕ → ℕ
read a b i = cond (eqb i b) a i

unfoldable pub replace_lane : ℕ → ℕ → List ℕ → List ℕ
replace_lane a b ids = cond (has a ids) (without b ids) (map (read a b) ids)

abbrev pub joined_center : Float → Option Line → Option Line → Option Line
joined_center join None cb = None
joined_center join (Some ca) None = None
joined_center join (Some ca) (Some cb) = Some (concat join ca cb)

-- ---- merge_lanes

-- The first lane takes the second's successors; every other lane that came after the second now comes after the first.
abbrev pub links_after : ℕ → Lane → Lane → Lane
links_after a b l =
    let f = forgetting b.id l in
    relinked f f.left_neighbor f.right_neighbor
    (cond (has b.id l.predecessors) (place a f.predecessors) f.predecessors)
    (cond (eqb l.id a) b.successors f.successors)

abbrev pub merged_lane : Float → SidePlan → SidePlan → ℕ → Lane → Lane → Lane → Lane
merged_lane join pl pr next a b f =
    lane_with f f.id (plan_ref pl next f.left) (plan_ref pr (next + plan_ids pl) f.right) (joined_center join a.centerline b.centerline)
    f.left_neighbor f.right_neighbor f.predecessors f.successors

abbrev pub after_merge : Tolerance → ℕ → Lane → Lane → SidePlan → SidePlan → Lane → Lane
after_merge tol next a b pl pr l =
    let f = links_after a.id b l in
    cond (eqb l.id a.id) (merged_lane tol.join pl pr next a b f) f

-- the finished map and its change set, once both sides are planned
unfoldable pub merged : Tolerance → ℕ → Map → Lane → Lane → SidePlan → SidePlan → Edited
merged tol next m a b pl pr =
    let ia = a.id in
    let ib = b.id in
    let rest = keep (λ l. not (eqb l.id ib)) m.lanes in
    let lanes = map (after_merge tol next a b pl pr) rest in
    let drops = unused (a ∷ b ∷ []) lanes in
    let new = new_boundary m pl next a.left ++ new_boundary m pr (next + plan_ids pl) a.right in
    record {
      result =
          record {
            lanes = lanes;
            boundaries = keep (λ x. not (drops x)) (map (joined_boundary pl pr a) m.boundaries) ++ new;
            roads = map (road_lanes (without ib)) m.roads;
            junctions = map (junction_lanes (without ib)) m.junctions;
            rules = map (rule_lanes (replace_lane ia ib) (replace_lane ia ib)) m.rules;
            stop_lines = m.stop_lines;
            crosswalks = m.crosswalks;
          };
      ids = plan_ids pl + plan_ids pr;
      second = None;
      changes =
          record {
            created = refs BoundaryKind (map (λ x. x.id) new);
            modified =
                lanes_where (λ l. eqb l.id ia || mentions ib l) rest
                ++ (boundaries_where (λ x. plan_joins pl a.left x.id || plan_joins pr a.right x.id) m.boundaries
                ++ (roads_where (λ r. has ib r.lanes) m.roads
                ++ (junctions_where (λ j. has ib j.lanes) m.junctions ++ rules_where (rule_names_lane ib) m.rules)));
            deleted = refs LaneKind (ib ∷ []) ++ boundaries_where drops m.boundaries;
            warnings =
                when (conflict a b) (warning AttributeConflict (lane_entity ia) (lane_entity ib ∷ []))
                ++ (dropped ia b.left_neighbor a.left_neighbor
                ++ (dropped ia b.right_neighbor a.right_neighbor ++ (plan_warning pl next ++ plan_warning pr (next + plan_ids pl))));
          };
    }

-- "not mergeable: same lane, then successors of the first, then predecessors of the second"; then each side's boundaries, the first's before the second's
unfoldable pub merge_lanes : Tolerance → ℕ → ℕ → ℕ → Map → Res Edited
merge_lanes tol next i j m = do
  a ← require_lane m i
  b ← require_lane m j
  ok ← check (not (eqb i j)) (NotMergeable i)
  ok2 ← check (same_numbers a.successors (j ∷ [])) (NotMergeable i)
  ok3 ← check (same_numbers b.predecessors (i ∷ [])) (NotMergeable i)
  pl ← side_plan tol m Left a b
  pr ← side_plan tol m Right a b
  Ok (merged tol next m a b pl pr)
