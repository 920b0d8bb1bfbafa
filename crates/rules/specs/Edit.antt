-- edit/mod.rs and topology.rs: what an edit yields, and connect, disconnect, set_neighbor.
use Rattle.geometry.specs.declared.Point3.{Point3}
use Rattle.std.specs.Prelude.{ℕ, zero, suc, Bool, true, false, not, ◌&&◌, ◌||◌, cond, List, [], ◌∷◌, ◌++◌, map, eqb, Float, Option, None, Some, is_some, Result, Ok, Err, ⊤}
use Rattle.std.specs.Float.Ieee.{lt}
use Rattle.lists.specs.Select.{keep, without, place}
use Rattle.geometry.specs.Point.{distance3}
use Rattle.entities.specs.Types.{reciprocal_side, lane_entity}
use Rattle.rules.specs.Names.{BoundaryRef, Side, Left, Right, Neighbor, Tolerance, EntityKind, LaneKind, BoundaryKind, RoadKind, JunctionKind, RuleKind, EntityRef, Info, Warning, IssueCode, NoOp, GeometricGap, BoundaryUnshared, Refusal, LaneAbsent, OwnPartner}
use Rattle.entities.specs.Records.{Line, Lane, Boundary, Road, Junction, Rule, Map, Issue, ChangeSet}
use Rattle.rules.specs.Map.{lane, boundary_on, neighbor_on, leads_to, oriented_boundary, first_of, last_of, names}
use Rattle.rules.specs.Sound.{holds}

infixl 20 ◌>>=◌
-- ---- what an edit yields

-- A refusal ends the edit there.
abbrev pub Res : Type 0 → Type 0
Res A = Result A Refusal

abbrev pub ◌>>=◌ : {A B : Type 0} → Res A → (A → Res B) → Res B
Err r >>= f = Err r
Ok a >>= f = f a

-- The test of a step that yields nothing: it passes, or the edit is refused.
abbrev pub Passed : Type 0
Passed = ⊤

abbrev pub passed : Passed
passed = tt

abbrev pub check : Bool → Refusal → Res Passed
check true r = Ok passed
check false r = Err r

abbrev pub require : {A : Type 0} → Option A → Refusal → Res A
require None r = Err r
require (Some a) r = Ok a

-- The finished map, how many ids were allocated, the second half of a split lane, and the change set.
pub record Edited : Type 0 where
  pub result : Map
  pub ids : ℕ
  pub second : Option ℕ
  pub changes : ChangeSet

abbrev pub require_lane : Map → ℕ → Res Lane
require_lane m i = require (lane m i) (LaneAbsent i)

-- ---- parts of a change set: filters of the ascending tables, so that each list is sorted and has no repeats

abbrev pub refs : EntityKind → List ℕ → List EntityRef
refs k ids = map (λ i. record { kind = k; id = i }) ids

-- new ids count up from the next one
unfoldable pub up_from : ℕ → ℕ → List ℕ
up_from next zero = []
up_from next (suc n) = next ∷ up_from (suc next) n

abbrev pub lanes_where : (Lane → Bool) → List Lane → List EntityRef
lanes_where p ls = refs LaneKind (map (λ l. l.id) (keep p ls))

abbrev pub boundaries_where : (Boundary → Bool) → List Boundary → List EntityRef
boundaries_where p bs = refs BoundaryKind (map (λ b. b.id) (keep p bs))

abbrev pub roads_where : (Road → Bool) → List Road → List EntityRef
roads_where p rs = refs RoadKind (map (λ r. r.id) (keep p rs))

abbrev pub junctions_where : (Junction → Bool) → List Junction → List EntityRef
junctions_where p js = refs JunctionKind (map (λ j. j.id) (keep p js))

abbrev pub rules_where : (Rule → Bool) → List Rule → List EntityRef
rules_where p rs = refs RuleKind (map (λ r. r.id) (keep p rs))

abbrev pub warning : IssueCode → EntityRef → List EntityRef → Issue
warning c e related = record { severity = Warning; code = c; entity = e; related = related; fix = false }

abbrev pub no_op : ℕ → Issue
no_op l = record { severity = Info; code = NoOp; entity = lane_entity l; related = []; fix = false }

abbrev pub when : {A : Type 0} → Bool → A → List A
when true a = a ∷ []
when false a = []

-- ---- a map or a lane with a part replaced

abbrev pub with_lanes : List Lane → Map → Map
with_lanes ls m =
    record {
      lanes = ls;
      boundaries = m.boundaries;
      roads = m.roads;
      junctions = m.junctions;
      rules = m.rules;
      stop_lines = m.stop_lines;
      crosswalks = m.crosswalks;
    }

-- a lane with what an edit can change replaced; kind, speed limit, ways, turn and attributes are its own
abbrev pub lane_with : Lane → ℕ → BoundaryRef → BoundaryRef → Option Line → Option Neighbor → Option Neighbor → List ℕ → List ℕ → Lane
lane_with l i left right center ln rn ps ss =
    record {
      id = i;
      kind = l.kind;
      left = left;
      right = right;
      centerline = center;
      speed_limit = l.speed_limit;
      one_way = l.one_way;
      turn_direction = l.turn_direction;
      attributes = l.attributes;
      left_neighbor = ln;
      right_neighbor = rn;
      predecessors = ps;
      successors = ss;
    }

-- the same lane with other links and neighbours
abbrev pub relinked : Lane → Option Neighbor → Option Neighbor → List ℕ → List ℕ → Lane
relinked l ln rn ps ss = lane_with l l.id l.left l.right l.centerline ln rn ps ss

abbrev pub with_links : List ℕ → List ℕ → Lane → Lane
with_links ps ss l = relinked l l.left_neighbor l.right_neighbor ps ss

-- an edit of links or neighbours alone: nothing is created or deleted
abbrev pub relinking : Map → List EntityRef → List Issue → Edited
relinking m modified warnings =
    record { result = m; ids = 0; second = None; changes = record { created = []; modified = modified; deleted = []; warnings = warnings } }

-- ---- connect, disconnect

-- further apart than the tolerance, where both ends are there
abbrev pub far_apart : Float → Option Point3 → Option Point3 → Bool
far_apart tol None q = false
far_apart tol (Some p) None = false
far_apart tol (Some p) (Some q) = lt tol (distance3 p q)

-- connection_gap above the tolerance: the larger distance of left ends and of right ends. Document 01: "a missing or empty line gives no gap".
unfoldable pub gapped : Float → Map → Lane → Lane → Bool
gapped tol m from to =
    let fl = last_of (oriented_boundary m Left from) in
    let fr = last_of (oriented_boundary m Right from) in
    let tl = first_of (oriented_boundary m Left to) in
    let tr = first_of (oriented_boundary m Right to) in
    (is_some fl && is_some fr && is_some tl && is_some tr) && (far_apart tol fl tl || far_apart tol fr tr)

-- "an edit puts each link in its place"
abbrev pub link_in : ℕ → ℕ → Lane → Lane
link_in a b l =
    with_links (cond (eqb l.id b) (place a l.predecessors) l.predecessors) (cond (eqb l.id a) (place b l.successors) l.successors) l

abbrev pub link_out : ℕ → ℕ → Lane → Lane
link_out a b l =
    with_links (cond (eqb l.id b) (without a l.predecessors) l.predecessors) (cond (eqb l.id a) (without b l.successors) l.successors) l

abbrev pub either : ℕ → ℕ → Lane → Bool
either a b l = eqb l.id a || eqb l.id b

-- Document 01: "`connect` refuses a lane to itself", "A gap above 0.1 warns even if the link exists".
unfoldable pub connect : Tolerance → ℕ → ℕ → Map → Res Edited
connect tol a b m = do
  from ← require_lane m a
  to ← require_lane m b
  ok ← check (not (eqb a b)) (OwnPartner a)
  let linked = leads_to m a b in
      Ok
      (relinking
      (with_lanes (map (link_in a b) m.lanes) m)
      (lanes_where (λ l. not linked && either a b l) m.lanes)
      (when (gapped tol.gap m from to) (warning GeometricGap (lane_entity a) (lane_entity b ∷ [])) ++ when linked (no_op a)))

-- "`disconnect` does not" refuse a lane from itself.
unfoldable pub disconnect : ℕ → ℕ → Map → Res Edited
disconnect a b m = do
  first ← require_lane m a
  second ← require_lane m b
  let linked = leads_to m a b in
      Ok
      (relinking (with_lanes (map (link_out a b) m.lanes) m) (lanes_where (λ l. linked && either a b l) m.lanes) (when (not linked) (no_op a)))

-- ---- set_neighbor

abbrev pub same_side : Side → Side → Bool
same_side Left Left = true
same_side Left Right = false
same_side Right Left = false
same_side Right Right = true

abbrev pub same_slot : Option Neighbor → Option Neighbor → Bool
same_slot None None = true
same_slot None (Some n) = false
same_slot (Some n) o = holds o n.lane n.direction

-- A slot: a lane and a side. The slot that answers a neighbour held in a slot.
abbrev pub answering : Side → Option Neighbor → ℕ → Side → Bool
answering side None i s = false
answering side (Some n) i s = eqb i n.lane && same_side s (reciprocal_side side n.direction)

abbrev pub returned : ℕ → Option Neighbor → Option Neighbor
returned i None = None
returned i (Some n) = Some (record { lane = i; direction = n.direction })

abbrev pub slot_in : Map → Side → Option Neighbor → Option Neighbor
slot_in m side None = None
slot_in m side (Some n) = elim (lane m n.lane) [ None ↦ None | Some l ↦ neighbor_on (reciprocal_side side n.direction) l ]

-- the side of the slot that answers
abbrev pub answer_side : Side → Option Neighbor → Side
answer_side side None = side
answer_side side (Some n) = reciprocal_side side n.direction

-- "Setting a slot first frees what it held and what the other lane's slot held." Slot s of lane i after lane a has `new` on its side `side`, which
-- held `old`; the other lane's slot held `other`. The two slots set come first; what either held is freed where it answers.
abbrev pub slot_after : ℕ → Side → Option Neighbor → Option Neighbor → Option Neighbor → ℕ → Side → Option Neighbor → Option Neighbor
slot_after a side new old other i s was =
    cond (eqb i a && same_side s side) new
    (cond (answering side new i s) (returned a new)
    (cond (answering side old i s || answering (answer_side side new) other i s) None was))

abbrev pub reslotted : (ℕ → Side → Option Neighbor → Option Neighbor) → Lane → Lane
reslotted f l = relinked l (f l.id Left l.left_neighbor) (f l.id Right l.right_neighbor) l.predecessors l.successors

-- refusals 1 and 4 of the neighbour named, and whether it shares a boundary with lane a
abbrev pub require_neighbor : Map → ℕ → Option Neighbor → Res Passed
require_neighbor m a None = Ok passed
require_neighbor m a (Some n) = do
  l ← require_lane m n.lane
  check (not (eqb n.lane a)) (OwnPartner a)

abbrev pub unshared : Map → Lane → Side → Option Neighbor → List Issue
unshared m l side None = []
unshared m l side (Some n) =
    elim (lane m n.lane) [
      | None ↦ []
      | Some o ↦
          when (not (eqb (boundary_on side l).boundary (boundary_on (reciprocal_side side n.direction) o).boundary))
          (warning BoundaryUnshared (lane_entity l.id) (lane_entity n.lane ∷ []))
    ]

-- Every lane whose slot is set or freed is reported.
unfoldable pub set_neighbor : ℕ → Side → Option Neighbor → Map → Res Edited
set_neighbor a side new m = do
  l ← require_lane m a
  ok ← require_neighbor m a new
  let old = neighbor_on side l in
      let other = slot_in m side new in
      let same = same_slot old new in
      Ok
      (relinking
      (with_lanes (map (reslotted (λ i s was. cond same was (slot_after a side new old other i s was))) m.lanes) m)
      (lanes_where (λ x. not same && (eqb x.id a || names old x.id || names new x.id || names other x.id)) m.lanes)
      (when same (no_op a) ++ unshared m l side new))
