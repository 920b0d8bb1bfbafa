-- How many entries the lists of one call can have: lists of these lengths refuse no edit (include/voldrekka.h names the same numbers).
use Rattle.std.specs.Prelude.{ℕ, ◌+◌, ◌*◌, ◌/◌}
use Rattle.rules.specs.Limits.{max_lanes, max_boundaries, max_roads, max_junctions, max_rules}
use Rattle.rules.specs.Sound.{Lists}

-- the lanes that one call can cut: each adds a lane to the finished map
abbrev pub max_cut : ℕ
max_cut = max_lanes / 2

-- Created: for each lane that is cut, a lane and two pieces of either boundary. Modified: every row that can change. Deleted: the lane that a merge
-- takes away, and the boundaries of the two lanes. Warnings: for each lane that is cut, one for either boundary and one for either neighbour.
abbrev pub enough : Lists
enough =
    record {
      created = max_cut + max_cut * 4;
      modified = max_lanes + max_boundaries + max_roads + max_junctions + max_rules;
      deleted = 1 + 2 * 2;
      warnings = max_cut * 2 + max_cut * 2;
    }
