-- Document 02 (a): "The host lends a second map area; once its own 10 is passed, it begins with the old map's slices as they came", "What lies past that
-- copy .. stays".
use Rattle.std.specs.Prelude.{Bool, ◌&&◌, leb, length, take}
use Rattle.lists.specs.Rows.{over}
use Rattle.tables.specs.View.{Tables, tables_of}

-- each slice of the area is as long as the map's
unfoldable pub area_fits : Tables → Tables → Bool
area_fits t area =
    leb (length t.lanes) (length area.lanes)
    && leb (length t.boundaries) (length area.boundaries)
    && leb (length t.roads) (length area.roads)
    && leb (length t.junctions) (length area.junctions)
    && leb (length t.rules) (length area.rules)
    && leb (length t.stop_lines) (length area.stop_lines)
    && leb (length t.crosswalks) (length area.crosswalks)
    && leb (length t.coordinates) (length area.coordinates)

-- the area with the map's slices at its front
unfoldable pub copied : Tables → Tables → Tables
copied t area =
    tables_of (over area.lanes 0 t.lanes) (over area.boundaries 0 t.boundaries) (over area.roads 0 t.roads)
    (over area.junctions 0 t.junctions) (over area.rules 0 t.rules) (over area.stop_lines 0 t.stop_lines)
    (over area.crosswalks 0 t.crosswalks) (over area.coordinates 0 t.coordinates)

-- the way back: slices as long as those of t, from the area's front
unfoldable pub put_back : Tables → Tables → Tables
put_back t area =
    tables_of (take (length t.lanes) area.lanes) (take (length t.boundaries) area.boundaries) (take (length t.roads) area.roads)
    (take (length t.junctions) area.junctions) (take (length t.rules) area.rules) (take (length t.stop_lines) area.stop_lines)
    (take (length t.crosswalks) area.crosswalks) (take (length t.coordinates) area.coordinates)
