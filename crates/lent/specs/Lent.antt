-- What the slices of a map and of a call's lists hold, and that a call leaves each slice where it is and as long as it was.
use Rattle.std.specs.Prelude.{◌≡◌, [], length}
use Rattle.tables.specs.View.{Tables, tables_of}
use Rattle.lent.specs.declared.MapView.{MapView}
use Rattle.lent.specs.declared.Map.{Map}
use Rattle.lent.specs.declared.Lines.{Lines}
use Rattle.lent.specs.declared.Lists.{Lists}
use Rattle.lent.specs.declared.ListsView.{ListsView}
use Rattle.lent.specs.declared.RelinkMap.{RelinkMap}
use Rattle.lent.specs.declared.RelinkLists.{RelinkLists}
use Rattle.lent.specs.declared.RemovalMap.{RemovalMap}
use Rattle.lent.specs.declared.RemovalLists.{RemovalLists}

abbrev pub view_tables : MapView → Tables
view_tables m = tables_of m.lanes.now m.boundaries.now m.roads.now m.junctions.now m.rules.now m.stop_lines.now m.crosswalks.now m.coordinates.now

abbrev pub map_tables : Map → Tables
map_tables m = tables_of m.lanes.now m.boundaries.now m.roads.now m.junctions.now m.rules.now m.stop_lines.now m.crosswalks.now m.coordinates.now

-- the same without the coordinates
abbrev pub view_rows : MapView → Tables
view_rows m = tables_of m.lanes.now m.boundaries.now m.roads.now m.junctions.now m.rules.now m.stop_lines.now m.crosswalks.now []

abbrev pub map_rows : Map → Tables
map_rows m = tables_of m.lanes.now m.boundaries.now m.roads.now m.junctions.now m.rules.now m.stop_lines.now m.crosswalks.now []

-- the tables with lines alone; the others have no part in a layout
abbrev pub lines_tables : Lines → Tables
lines_tables m = tables_of m.lanes.now m.boundaries.now [] [] [] m.stop_lines.now m.crosswalks.now m.coordinates.now

abbrev pub relink_tables : RelinkMap → Tables
relink_tables m = tables_of m.lanes.now m.boundaries.now m.roads.now m.junctions.now m.rules.now m.stop_lines.now m.crosswalks.now m.coordinates.now

abbrev pub removal_tables : RemovalMap → Tables
removal_tables m = tables_of m.lanes.now m.boundaries.now m.roads.now m.junctions.now m.rules.now m.stop_lines.now m.crosswalks.now m.coordinates.now

-- a view of lists has what they hold
pub record SeenAs (l : Lists) (v : ListsView) : Type 0 where
  pub created : v.created.now ≡ l.created.now
  pub modified : v.modified.now ≡ l.modified.now
  pub deleted : v.deleted.now ≡ l.deleted.now
  pub warnings : v.warnings.now ≡ l.warnings.now

-- n's fields are the slices of m, each as long as it was
pub record SameSlices (m n : Map) : Type 0 where
  pub lanes : n.lanes.ghost_name ≡ m.lanes.ghost_name
  pub boundaries : n.boundaries.ghost_name ≡ m.boundaries.ghost_name
  pub roads : n.roads.ghost_name ≡ m.roads.ghost_name
  pub junctions : n.junctions.ghost_name ≡ m.junctions.ghost_name
  pub rules : n.rules.ghost_name ≡ m.rules.ghost_name
  pub stop_lines : n.stop_lines.ghost_name ≡ m.stop_lines.ghost_name
  pub crosswalks : n.crosswalks.ghost_name ≡ m.crosswalks.ghost_name
  pub coordinates : n.coordinates.ghost_name ≡ m.coordinates.ghost_name
  pub lanes_length : length n.lanes.now ≡ length m.lanes.now
  pub boundaries_length : length n.boundaries.now ≡ length m.boundaries.now
  pub roads_length : length n.roads.now ≡ length m.roads.now
  pub junctions_length : length n.junctions.now ≡ length m.junctions.now
  pub rules_length : length n.rules.now ≡ length m.rules.now
  pub stop_lines_length : length n.stop_lines.now ≡ length m.stop_lines.now
  pub crosswalks_length : length n.crosswalks.now ≡ length m.crosswalks.now
  pub coordinates_length : length n.coordinates.now ≡ length m.coordinates.now

pub record SameLists (m n : Lists) : Type 0 where
  pub created : n.created.ghost_name ≡ m.created.ghost_name
  pub modified : n.modified.ghost_name ≡ m.modified.ghost_name
  pub deleted : n.deleted.ghost_name ≡ m.deleted.ghost_name
  pub warnings : n.warnings.ghost_name ≡ m.warnings.ghost_name
  pub created_length : length n.created.now ≡ length m.created.now
  pub modified_length : length n.modified.now ≡ length m.modified.now
  pub deleted_length : length n.deleted.now ≡ length m.deleted.now
  pub warnings_length : length n.warnings.now ≡ length m.warnings.now

pub record SameLines (m n : Lines) : Type 0 where
  pub lanes : n.lanes.ghost_name ≡ m.lanes.ghost_name
  pub boundaries : n.boundaries.ghost_name ≡ m.boundaries.ghost_name
  pub stop_lines : n.stop_lines.ghost_name ≡ m.stop_lines.ghost_name
  pub crosswalks : n.crosswalks.ghost_name ≡ m.crosswalks.ghost_name
  pub coordinates : n.coordinates.ghost_name ≡ m.coordinates.ghost_name
  pub lanes_length : length n.lanes.now ≡ length m.lanes.now
  pub boundaries_length : length n.boundaries.now ≡ length m.boundaries.now
  pub stop_lines_length : length n.stop_lines.now ≡ length m.stop_lines.now
  pub crosswalks_length : length n.crosswalks.now ≡ length m.crosswalks.now
  pub coordinates_length : length n.coordinates.now ≡ length m.coordinates.now

-- the same where some slices are shared: those hold what they held
pub record SameRelinkMap (m n : RelinkMap) : Type 0 where
  pub lanes : n.lanes.ghost_name ≡ m.lanes.ghost_name
  pub lanes_length : length n.lanes.now ≡ length m.lanes.now
  pub boundaries : n.boundaries.now ≡ m.boundaries.now
  pub roads : n.roads.now ≡ m.roads.now
  pub junctions : n.junctions.now ≡ m.junctions.now
  pub rules : n.rules.now ≡ m.rules.now
  pub stop_lines : n.stop_lines.now ≡ m.stop_lines.now
  pub crosswalks : n.crosswalks.now ≡ m.crosswalks.now
  pub coordinates : n.coordinates.now ≡ m.coordinates.now

pub record SameRelinkLists (m n : RelinkLists) : Type 0 where
  pub modified : n.modified.ghost_name ≡ m.modified.ghost_name
  pub warnings : n.warnings.ghost_name ≡ m.warnings.ghost_name
  pub modified_length : length n.modified.now ≡ length m.modified.now
  pub warnings_length : length n.warnings.now ≡ length m.warnings.now
  pub created : n.created.now ≡ m.created.now
  pub deleted : n.deleted.now ≡ m.deleted.now

pub record SameRemovalMap (m n : RemovalMap) : Type 0 where
  pub lanes : n.lanes.ghost_name ≡ m.lanes.ghost_name
  pub boundaries : n.boundaries.ghost_name ≡ m.boundaries.ghost_name
  pub roads : n.roads.ghost_name ≡ m.roads.ghost_name
  pub junctions : n.junctions.ghost_name ≡ m.junctions.ghost_name
  pub rules : n.rules.ghost_name ≡ m.rules.ghost_name
  pub lanes_length : length n.lanes.now ≡ length m.lanes.now
  pub boundaries_length : length n.boundaries.now ≡ length m.boundaries.now
  pub roads_length : length n.roads.now ≡ length m.roads.now
  pub junctions_length : length n.junctions.now ≡ length m.junctions.now
  pub rules_length : length n.rules.now ≡ length m.rules.now
  pub stop_lines : n.stop_lines.now ≡ m.stop_lines.now
  pub crosswalks : n.crosswalks.now ≡ m.crosswalks.now
  pub coordinates : n.coordinates.now ≡ m.coordinates.now

pub record SameRemovalLists (m n : RemovalLists) : Type 0 where
  pub modified : n.modified.ghost_name ≡ m.modified.ghost_name
  pub deleted : n.deleted.ghost_name ≡ m.deleted.ghost_name
  pub warnings : n.warnings.ghost_name ≡ m.warnings.ghost_name
  pub modified_length : length n.modified.now ≡ length m.modified.now
  pub deleted_length : length n.deleted.now ≡ length m.deleted.now
  pub warnings_length : length n.warnings.now ≡ length m.warnings.now
  pub created : n.created.now ≡ m.created.now
