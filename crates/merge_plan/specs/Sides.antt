-- How a side or the centreline is merged, in numbers. Nothing that a host calls rests on this page.
use Rattle.std.specs.Prelude.{ℕ, Bool, true, false, List, Option, unwrap_or}
use Rattle.rules.specs.Names.{Side}
use Rattle.tables.specs.View.{ref_at}
use Rattle.tables.specs.Columns.{lane_words}
use Rattle.lookup.specs.Lookup.{row_at, side_word}
use Rattle.merge_plan.specs.declared.Joined.{Joined}
use Rattle.merge_plan.specs.declared.Joined.TheVariants.{Kept, InPlace, Fresh}

-- how many points a side draws
abbrev pub side_points : Joined → ℕ
side_points Kept = 0
side_points (InPlace n) = n
side_points (Fresh n) = n

-- ids that a side allocates
abbrev pub side_ids : Joined → ℕ
side_ids Kept = 0
side_ids (InPlace n) = 0
side_ids (Fresh n) = 1

abbrev pub is_fresh : Joined → Bool
is_fresh Kept = false
is_fresh (InPlace n) = false
is_fresh (Fresh n) = true

-- the boundary of the lane in row i on a side
abbrev pub side_id : List ℕ → ℕ → Side → ℕ
side_id lanes i side = (ref_at (side_word side) (row_at lane_words lanes i)).boundary

-- how many points the joined centreline has, where there is one
abbrev pub center_points : Option ℕ → ℕ
center_points center = unwrap_or center 0
