-- edit/split.rs: split_lane.
use Rattle.std.specs.Prelude.{ℕ, suc, ◌+◌, Bool, true, false, not, ◌&&◌, ◌||◌, cond, List, [], ◌∷◌, ◌++◌, map, eqb, length, Float, Option, None, Some, Err, Ok}
use Rattle.std.specs.Float.Ieee.{lt, le}
use Rattle.lists.specs.Every.{all}
use Rattle.lists.specs.Select.{keep, any, each, has, find, same_numbers, second_of, insert_after}
use Rattle.geometry.specs.Float.{◌-ᶠ◌, ◌*ᶠ◌, zeroᶠ, oneᶠ}
use Rattle.polyline.specs.Polyline.{line_length, point_at, first_piece, second_piece, concat}
use Rattle.entities.specs.Types.{opposing, same, lane_entity, boundary_entity, crossing_margin}
use Rattle.rules.specs.Names.{BoundaryRef, Same, Opposite, Neighbor, SplitAt, Fraction, Station, Tolerance, LaneKind, BoundaryKind, BoundaryUnshared, NeighborDropped, FractionOutside, PositionOutside, BoundaryAbsent, NoUsableLine, NotCrossing, Point2}
use Rattle.entities.specs.Records.{Line, Lane, Boundary, Rule, Map, Issue}
use Rattle.rules.specs.Map.{lane, boundary, centerline, station, lateral_group, uses, flat_point, rule_anchor}
use Rattle.rules.specs.Edit.{Res, ◌>>=◌, Passed, passed, check, require, Edited, require_lane, refs, lanes_where, boundaries_where, roads_where, junctions_where, rules_where, warning, when, lane_with, with_links}
use Rattle.rules.specs.Lane.{road_lanes, junction_lanes, rule_lanes}
use Rattle.rules.specs.Merge.{redrawn}

-- ---- where to cut

-- "fraction not inside (0, 1), NaN included"
abbrev pub cut_station : SplitAt → Float → Res Float
cut_station (Fraction f) len = do
  ok ← check (lt zeroᶠ f && lt f oneᶠ) FractionOutside
  Ok (f *ᶠ len)
cut_station (Station s) len = Ok s

-- "The split position must be > 0.1 and < length − 0.1."
abbrev pub cuttable : Float → Line → Float → Bool
cuttable margin c s = lt margin s && lt s (line_length c -ᶠ margin)

-- ---- the plan of a lane: its station, and the pieces of an explicit centreline

pub record LanePlan : Type 0 where
  pub of : Lane
  pub station : Float
  pub first_center : Option Line
  pub second_center : Option Line

-- "An explicit centreline, the split lane's own too, is cut at its nearest station, not at the given one."
abbrev pub center_piece : (Line → Float → Line) → Option Line → Point2 → Option Line
center_piece piece None p = None
center_piece piece (Some c) p = elim (station c p) [ None ↦ None | Some s ↦ Some (piece c s) ]

-- "A neighbour's position is its nearest station to the split point, under the same rule." "Where a neighbour has an explicit empty centreline
-- the Rust panics; here it is refusal 7".
unfoldable pub lane_plan : Tolerance → Map → ℕ → Float → Point2 → Lane → Res LanePlan
lane_plan tol m own at p l = do
  c ← require (centerline m l) (NoUsableLine l.id)
  near ← require (station c p) (NoUsableLine l.id)
  let s = cond (eqb l.id own) at near in
      do
        ok ← check (cuttable tol.piece c s) (PositionOutside l.id)
        Ok
            (record {
              of = l;
              station = s;
              first_center = center_piece first_piece l.centerline p;
              second_center = center_piece second_piece l.centerline p;
            })

unfoldable pub lane_plans : Tolerance → Map → ℕ → Float → Point2 → List Lane → Res (List LanePlan)
lane_plans tol m own at p [] = Ok []
lane_plans tol m own at p (l ∷ ls) =
    let rest = lane_plans tol m own at p ls in
    (do
      x ← lane_plan tol m own at p l
      xs ← rest
      Ok (x ∷ xs))

-- ---- the plan of a boundary

-- "Each boundary's nearest station must be > 1e-6 and < its length − 1e-6."
abbrev pub crosses : ℕ → Point2 → Option Boundary → Res Passed
crosses i p None = Err (BoundaryAbsent i)
crosses i p (Some b) = do
  s ← require (station b.geometry p) (NotCrossing i)
  check (cuttable crossing_margin b.geometry s) (NotCrossing i)

-- every lane's boundaries, left then right
unfoldable pub all_cross : Map → Point2 → List Lane → Res Passed
all_cross m p [] = Ok passed
all_cross m p (l ∷ ls) =
    let rest = all_cross m p ls in
    (do
      left ← crosses l.left.boundary p (boundary m l.left.boundary)
      right ← crosses l.right.boundary p (boundary m l.right.boundary)
      rest)

-- The pieces of a boundary: their ids, and the station of the cut.
pub record Piece : Type 0 where
  pub of : Boundary
  pub alone : Bool
  pub first : ℕ
  pub second : ℕ
  pub first_line : Line
  pub second_line : Line

abbrev pub piece_at : Boundary → Bool → ℕ → ℕ → Option Float → Piece
piece_at b alone i j None = record { of = b; alone = alone; first = i; second = j; first_line = []; second_line = [] }
piece_at b alone i j (Some s) =
    record { of = b; alone = alone; first = i; second = j; first_line = first_piece b.geometry s; second_line = second_piece b.geometry s }

-- "A boundary used only by the group keeps its id for its first piece; another gets two new ones". `next` is the next id.
abbrev pub piece_of : List ℕ → List Lane → Point2 → ℕ → Boundary → Piece
piece_of group ls p next b =
    let alone = all (λ l. not (uses b.id l) || has l.id group) ls in
    piece_at b alone (cond alone b.id next) (cond alone next (suc next)) (station b.geometry p)

abbrev pub piece_ids : Piece → ℕ
piece_ids x = cond x.alone 1 2

-- "New ids: boundaries ascending, first piece before second"
unfoldable pub pieces : List ℕ → List Lane → Point2 → ℕ → List Boundary → List Piece
pieces group ls p next [] = []
pieces group ls p next (b ∷ bs) = let x = piece_of group ls p next b in x ∷ pieces group ls p (next + piece_ids x) bs

unfoldable pub pieces_ids : List Piece → ℕ
pieces_ids [] = 0
pieces_ids (x ∷ xs) = piece_ids x + pieces_ids xs

abbrev pub piece_for : List Piece → ℕ → Option Piece
piece_for xs i = find (λ x. eqb x.of.id i) xs

abbrev pub cut_boundary : List Piece → Boundary → Boundary
cut_boundary xs b = elim (piece_for xs b.id) [ None ↦ b | Some x ↦ cond x.alone (redrawn x.first_line b) b ]

abbrev pub new_piece : Boundary → ℕ → Line → Boundary
new_piece b i c = record { id = i; kind = b.kind; geometry = c; attributes = b.attributes }

abbrev pub new_pieces : Piece → List Boundary
new_pieces x = cond x.alone [] (new_piece x.of x.first x.first_line ∷ []) ++ (new_piece x.of x.second x.second_line ∷ [])

-- ---- the halves of the lanes

-- "then lanes ascending": the ids of the second halves, beside those of the first
unfoldable pub halves : ℕ → List LanePlan → List (ℕ × ℕ)
halves next [] = []
halves next (x ∷ xs) = (x.of.id, next) ∷ halves (suc next) xs

-- "Reversed references take the pieces in reverse."
abbrev pub first_ref : List Piece → BoundaryRef → BoundaryRef
first_ref xs r = elim (piece_for xs r.boundary) [ None ↦ r | Some x ↦ record { boundary = cond r.reversed x.second x.first; reversed = r.reversed } ]

abbrev pub second_ref : List Piece → BoundaryRef → BoundaryRef
second_ref xs r = elim (piece_for xs r.boundary) [ None ↦ r | Some x ↦ record { boundary = cond r.reversed x.first x.second; reversed = r.reversed } ]

-- "Opposite neighbours pair first half with second." A neighbour that is not cut stays beside the first half alone.
abbrev pub first_slot : List (ℕ × ℕ) → Option Neighbor → Option Neighbor
first_slot hs None = None
first_slot hs (Some n) = elim (second_of hs n.lane) [ None ↦ Some n | Some j ↦ elim n.direction [ Same ↦ Some n | Opposite ↦ Some (opposing j) ] ]

abbrev pub second_slot : List (ℕ × ℕ) → Option Neighbor → Option Neighbor
second_slot hs None = None
second_slot hs (Some n) = elim (second_of hs n.lane) [ None ↦ None | Some j ↦ elim n.direction [ Same ↦ Some (same j) | Opposite ↦ Some (opposing n.lane) ] ]

-- "Old successors move to the second half": who came from a cut lane now comes from its second half. New ids are larger, so the list ascends.
unfoldable pub came_from : List (ℕ × ℕ) → List ℕ → List ℕ
came_from hs ids =
    keep (λ i. not (has i (map (λ h. h.0) hs))) ids ++ map (λ h. h.1) (keep (λ h. has h.0 ids) hs)

abbrev pub first_half : List Piece → List (ℕ × ℕ) → ℕ → LanePlan → Lane
first_half xs hs second x =
    let l = x.of in
    lane_with l l.id (first_ref xs l.left) (first_ref xs l.right) x.first_center
    (first_slot hs l.left_neighbor) (first_slot hs l.right_neighbor) (came_from hs l.predecessors) (second ∷ [])

abbrev pub second_half : List Piece → List (ℕ × ℕ) → ℕ → LanePlan → Lane
second_half xs hs second x =
    let l = x.of in
    lane_with l second (second_ref xs l.left) (second_ref xs l.right) x.second_center
    (second_slot hs l.left_neighbor) (second_slot hs l.right_neighbor) (l.id ∷ []) l.successors

abbrev pub uncut : List (ℕ × ℕ) → Lane → Lane
uncut hs l = with_links (came_from hs l.predecessors) l.successors l

abbrev pub plan_for : List LanePlan → ℕ → Option LanePlan
plan_for ps i = find (λ x. eqb x.of.id i) ps

abbrev pub cut_lane : List LanePlan → List Piece → List (ℕ × ℕ) → Lane → Lane
cut_lane ps xs hs l =
    elim (plan_for ps l.id) [
      | None ↦ uncut hs l
      | Some x ↦ elim (second_of hs l.id) [ None ↦ uncut hs l | Some j ↦ first_half xs hs j x ]
    ]

unfoldable pub second_halves : List Piece → List (ℕ × ℕ) → ℕ → List LanePlan → List Lane
second_halves xs hs next [] = []
second_halves xs hs next (x ∷ ps) = second_half xs hs next x ∷ second_halves xs hs (suc next) ps

-- ---- lists of lanes

-- "Roads and junctions gain each second half after its first. So do a rule's priority and yielding lists": `insert_after` of the crate lists.

-- whether a point lies at or past the cut, on the line of the two halves joined, in the map after the cut
abbrev pub past_cut : Float → Option Line → Option Line → Float → Point2 → Bool
past_cut join None c2 s p = false
past_cut join (Some c1) None s p = false
past_cut join (Some c1) (Some c2) s p = elim (station (concat join c1 c2) p) [ None ↦ false | Some at ↦ le s at ]

abbrev pub center_of : Map → Option Lane → Option Line
center_of m None = None
center_of m (Some l) = centerline m l

unfoldable pub on_second : Float → Map → LanePlan → ℕ → Point2 → Bool
on_second join m x j p = past_cut join (center_of m (lane m x.of.id)) (center_of m (lane m j)) x.station p

-- "A rule's own lanes follow its anchor: the second half replaces the first if the anchor's nearest station on the two halves' joined line is at
-- or past the split": what stands in the place of lane i
abbrev pub followed : Float → Map → List LanePlan → List (ℕ × ℕ) → Point2 → ℕ → ℕ
followed join m ps hs p i =
    elim (plan_for ps i) [
      | None ↦ i
      | Some x ↦ elim (second_of hs i) [ None ↦ i | Some j ↦ cond (on_second join m x j p) j i ]
    ]

-- "with no anchor it is added"
unfoldable pub follow : Float → Map → List LanePlan → List (ℕ × ℕ) → Option Point2 → List ℕ → List ℕ
follow join m ps hs None ids = insert_after hs ids
follow join m ps hs (Some p) ids = map (followed join m ps hs p) ids

abbrev pub cut_rule : Float → Map → List LanePlan → List (ℕ × ℕ) → Rule → Rule
cut_rule join m ps hs r = rule_lanes (follow join m ps hs (rule_anchor m r)) (insert_after hs) r

abbrev pub rule_differs : Rule → Rule → Bool
rule_differs r s = not (same_numbers r.lanes s.lanes && same_numbers r.priority s.priority && same_numbers r.yielding s.yielding)

-- ---- warnings

abbrev pub unshared_piece : Piece → List Issue
unshared_piece x =
    when (not x.alone) (warning BoundaryUnshared (boundary_entity x.of.id) (boundary_entity x.first ∷ boundary_entity x.second ∷ []))

abbrev pub dropped_beside : List (ℕ × ℕ) → ℕ → Option Neighbor → List Issue
dropped_beside hs j None = []
dropped_beside hs j (Some n) =
    elim (second_of hs n.lane) [ None ↦ warning NeighborDropped (lane_entity j) (lane_entity n.lane ∷ []) ∷ [] | Some k ↦ [] ]

unfoldable pub dropped_all : List (ℕ × ℕ) → ℕ → List LanePlan → List Issue
dropped_all hs next [] = []
dropped_all hs next (x ∷ ps) =
    dropped_beside hs next x.of.left_neighbor ++ (dropped_beside hs next x.of.right_neighbor ++ dropped_all hs (suc next) ps)

-- ---- split_lane

-- the map after the cut, but for roads, junctions and rules
unfoldable pub cut_map : Map → List LanePlan → List Piece → List (ℕ × ℕ) → ℕ → Map
cut_map m ps xs hs next =
    record {
      lanes = map (cut_lane ps xs hs) m.lanes ++ second_halves xs hs next ps;
      boundaries = map (cut_boundary xs) m.boundaries ++ each new_pieces xs;
      roads = m.roads;
      junctions = m.junctions;
      rules = m.rules;
      stop_lines = m.stop_lines;
      crosswalks = m.crosswalks;
    }

-- the finished map and its change set, once every lane and boundary is planned; `next` is the next id
unfoldable pub cut : Tolerance → ℕ → Map → ℕ → List ℕ → List LanePlan → List Piece → Edited
cut tol next m own group ps xs =
    let nextLane = next + pieces_ids xs in
    let hs = halves nextLane ps in
    let after = cut_map m ps xs hs nextLane in
    let rules = cut_rule tol.join after ps hs in
    record {
      result =
          record {
            lanes = after.lanes;
            boundaries = after.boundaries;
            roads = map (road_lanes (insert_after hs)) m.roads;
            junctions = map (junction_lanes (insert_after hs)) m.junctions;
            rules = map rules m.rules;
            stop_lines = m.stop_lines;
            crosswalks = m.crosswalks;
          };
      ids = pieces_ids xs + length ps;
      second = second_of hs own;
      changes =
          record {
            created = refs LaneKind (map (λ h. h.1) hs) ++ refs BoundaryKind (map (λ b. b.id) (each new_pieces xs));
            modified =
                lanes_where (λ l. has l.id group || any (λ g. has g.id group && has l.id g.successors) m.lanes) m.lanes
                ++ (boundaries_where (λ b. any (λ x. x.alone && eqb x.of.id b.id) xs) m.boundaries
                ++ (roads_where (λ r. any (λ i. has i group) r.lanes) m.roads
                ++ (junctions_where (λ j. any (λ i. has i group) j.lanes) m.junctions ++ rules_where (λ r. rule_differs r (rules r)) m.rules)));
            deleted = [];
            warnings = each unshared_piece xs ++ dropped_all hs nextLane ps;
          };
    }

-- "the group is the lane, or with neighbours everything reached through neighbour slots, ascending"
abbrev pub group_of : Map → ℕ → Bool → List ℕ
group_of m i true = lateral_group m i
group_of m i false = i ∷ []

-- Refusals in the Rust's order: the lane, its line, the fraction, its position; each lane of the group; then their boundaries.
unfoldable pub split_lane : Tolerance → ℕ → ℕ → SplitAt → Bool → Map → Res Edited
split_lane tol next i at neighbors m = do
  l ← require_lane m i
  c ← require (centerline m l) (NoUsableLine i)
  s ← cut_station at (line_length c)
  ok ← check (cuttable tol.piece c s) (PositionOutside i)
  p ← require (flat_point (point_at c s)) (NoUsableLine i)
  let group = group_of m i neighbors in
      let ls = keep (λ x. has x.id group) m.lanes in
      do
        ps ← lane_plans tol m i s p ls
        ok2 ← all_cross m p ls
        let cutting = keep (λ b. any (uses b.id) ls) m.boundaries in
            Ok (cut tol next m i group ps (pieces group m.lanes p next cutting))
