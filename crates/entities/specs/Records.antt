-- The records of a map, in the definitions alone: document 01, "The map". Kinds, handles and marks are numbers, ids are numbers below 2 ^ 64.
-- "A line is compared by its points, not by where they are stored": here a line is the list of its points.
use Rattle.std.specs.Prelude.{Bool, List, ℕ, Option}
use Rattle.geometry.specs.declared.Point3.{Point3}
use Rattle.entities.specs.Types.{BoundaryRef, Neighbor, EntityRef, Severity, IssueCode}

abbrev pub Line : Type 0
Line = List Point3

-- "A lane's record includes its links and neighbours." A speed limit is the bit pattern of its double; a turn is 0 for none, 1 to 3 in the Rust's order.
pub record Lane : Type 0 where
  pub id : ℕ
  pub kind : ℕ
  pub left : BoundaryRef
  pub right : BoundaryRef
  pub centerline : Option Line
  pub speed_limit : Option ℕ
  pub one_way : Bool
  pub turn_direction : ℕ
  pub attributes : ℕ
  pub left_neighbor : Option Neighbor
  pub right_neighbor : Option Neighbor
  pub predecessors : List ℕ
  pub successors : List ℕ

pub record Boundary : Type 0 where
  pub id : ℕ
  pub kind : ℕ
  pub geometry : Line
  pub attributes : ℕ

pub record Road : Type 0 where
  pub id : ℕ
  pub name : ℕ
  pub attributes : ℕ
  pub lanes : List ℕ

pub record Junction : Type 0 where
  pub id : ℕ
  pub name : ℕ
  pub outline : ℕ
  pub attributes : ℕ
  pub lanes : List ℕ

-- A regulatory element. Its kind: 0 traffic light, 1 traffic sign, 2 stop line, 3 right of way, 4 crosswalk, 5 other. `content` is the handle of
-- its signals, sign data or other kind. What a kind does not have is empty: priority and yielding but for 3, the crosswalk but for 4.
pub record Rule : Type 0 where
  pub id : ℕ
  pub kind : ℕ
  pub content : ℕ
  pub attributes : ℕ
  pub crosswalk : Option ℕ
  pub lanes : List ℕ
  pub controlled_crosswalks : List ℕ
  pub stop_lines : List ℕ
  pub priority : List ℕ
  pub yielding : List ℕ

pub record StopLine : Type 0 where
  pub id : ℕ
  pub geometry : Line
  pub attributes : ℕ

pub record Crosswalk : Type 0 where
  pub id : ℕ
  pub left_edge : Line
  pub right_edge : Line
  pub outline : ℕ
  pub attributes : ℕ

pub record Map : Type 0 where
  pub lanes : List Lane
  pub boundaries : List Boundary
  pub roads : List Road
  pub junctions : List Junction
  pub rules : List Rule
  pub stop_lines : List StopLine
  pub crosswalks : List Crosswalk

-- "A warning has severity, code, entity, related entities and a mark for the removal fix".
pub record Issue : Type 0 where
  pub severity : Severity
  pub code : IssueCode
  pub entity : EntityRef
  pub related : List EntityRef
  pub fix : Bool

pub record ChangeSet : Type 0 where
  pub created : List EntityRef
  pub modified : List EntityRef
  pub deleted : List EntityRef
  pub warnings : List Issue
