-- What merge_lanes decides before it writes: document 01's plans of both sides and of the centreline, with the number of points in place of a line. Nothing that a host
-- calls rests on this page; the laws in proofs/ tie it to the rules.
use Rattle.merge_plan.specs.declared.Plan.{Plan}
use Rattle.std.specs.Prelude.{◌≡◌, ℕ, ◌<◌, Bool, true, not, ◌&&◌, cond, List, [], ◌∷◌, eqb, length, Float, Option, None, Some, Err, Ok}
use Rattle.lists.specs.Select.{same_numbers}
use Rattle.polyline.specs.Polyline.{concat}
use Rattle.entities.specs.Types.{preset}
use Rattle.entities.specs.Records.{Line, Lane, Map}
use Rattle.rules.specs.Names.{Tolerance, Side, Left, Right}
use Rattle.rules.specs.Edit.{Res, ◌>>=◌}
use Rattle.rules.specs.Merge.{SidePlan, kept, in_place, fresh, side_plan, joined_center, speeds_differ}
use Rattle.tables.specs.View.{word, ref_at, rows, lane_of, boundary_of}
use Rattle.tables.specs.Formed.{lane_formed}
use Rattle.row_tests.specs.Good.{all_rows}
use Rattle.lookup.specs.Lookup.{row_at, count_of, points_or, sorted_table, place_of, side_word, used_besides, Drawable}
use Rattle.merge_plan.specs.declared.Joined.{Joined}
use Rattle.merge_plan.specs.declared.Joined.TheVariants.{Kept, InPlace, Fresh}
use Rattle.tables.specs.Columns.{boundary_words, lane_words, row_count, row_id}
use Rattle.rules.specs.Limits.{max_lanes}

-- the map of the lanes and boundaries that are read
abbrev pub drawn_lanes : List Float → List ℕ → List ℕ → Map
drawn_lanes c lanes boundaries =
    record {
      lanes = rows lane_words (lane_of c) lanes;
      boundaries = rows boundary_words (boundary_of c) boundaries;
      roads = [];
      junctions = [];
      rules = [];
      stop_lines = [];
      crosswalks = [];
    }

-- the lane in row i
abbrev pub lane_in : List Float → List ℕ → ℕ → Lane
lane_in c lanes i = lane_of c (row_at lane_words lanes i)

-- tolerances of which a plan looks at the joining distance alone
abbrev pub joining : Float → Tolerance
joining join = record { piece = preset.piece; gap = preset.gap; join = join }

-- a plan with the number of its line's points
abbrev pub counted : SidePlan → Joined
counted kept = Kept
counted (in_place c) = InPlace (length c)
counted (fresh c) = Fresh (length c)

-- a list holds one id alone
abbrev pub holds_only : List ℕ → ℕ → Bool
holds_only ids i = same_numbers ids (i ∷ [])

-- ---- one side

abbrev pub side_told : Res SidePlan → Res Joined
side_told (Err r) = Err r
side_told (Ok p) = Ok (counted p)

-- document 01's plan of a side for the lanes in rows i and j
abbrev pub side_plan_in : Float → List Float → List ℕ → List ℕ → ℕ → ℕ → Side → Res SidePlan
side_plan_in join c lanes boundaries i j side = side_plan (joining join) (drawn_lanes c lanes boundaries) side (lane_in c lanes i) (lane_in c lanes j)

-- ---- both sides and the centreline

abbrev pub center_plan : Float → List Float → List ℕ → ℕ → ℕ → Option Line
center_plan join c lanes i j = joined_center join (lane_in c lanes i).centerline (lane_in c lanes j).centerline

-- the left side's refusal comes before the right's
abbrev pub both_plans : Res SidePlan → Res SidePlan → Res (SidePlan × SidePlan)
both_plans l r = do
  pl ← l
  pr ← r
  Ok (pl, pr)

abbrev pub plan_told : Option ℕ → Res (SidePlan × SidePlan) → Res Plan
plan_told center (Err r) = Err r
plan_told center (Ok p) = Ok (record { left = counted p.0; right = counted p.1; center = center })

-- "not mergeable: same lane, then successors of the first, then predecessors of the second": each gives 5 and the first lane
abbrev pub follows : Lane → Lane → Bool
follows a b = not (eqb a.id b.id) && (same_numbers a.successors (b.id ∷ []) && same_numbers b.predecessors (a.id ∷ []))

-- ---- what the functions ask, and parts of their answers

-- rows i and j of a lane table whose link lists are read
abbrev pub Linked : List ℕ → ℕ → ℕ → Type 0
Linked lanes i j =
    (sorted_table max_lanes lane_words lanes ≡ true) × ((all_rows lane_words lane_formed lanes ≡ true) × ((i < word row_count lanes) × (j < word row_count lanes)))

-- rows i and j of lanes, and the rows x and y of their boundaries on a side
pub record SideRows (lanes : List ℕ) (i j : ℕ) (side : Side) (boundaries : List ℕ) (x y : ℕ) (c : List Float) : Type 0 where
  pub drawable : Drawable lanes boundaries c
  pub first : i < word row_count lanes
  pub second : j < word row_count lanes
  pub first_boundary : place_of boundary_words boundaries (ref_at (side_word side) (row_at lane_words lanes i)).boundary ≡ Some x
  pub second_boundary : place_of boundary_words boundaries (ref_at (side_word side) (row_at lane_words lanes j)).boundary ≡ Some y

-- how many points two lines have when they are joined
abbrev pub joined_length : Float → Option Line → Option Line → ℕ
joined_length join one two = length (concat join (points_or one) (points_or two))

-- no lane but that in row i uses boundary one, none but that in row j boundary two
abbrev pub both_alone : List ℕ → ℕ → ℕ → ℕ → ℕ → Bool
both_alone lanes i one j two = not (used_besides lanes one (word row_id (row_at lane_words lanes i))) && not (used_besides lanes two (word row_id (row_at lane_words lanes j)))

-- a speed limit's mark and bits
abbrev pub speed_of : ℕ → ℕ → Option ℕ
speed_of m x = cond (eqb m 0) None (Some x)

abbrev pub speed_words : ℕ → ℕ → ℕ → ℕ → Bool
speed_words one x two y = speeds_differ (speed_of one x) (speed_of two y)

-- the whole plan
abbrev pub planned : Float → List Float → List ℕ → List ℕ → ℕ → ℕ → Res Plan
planned join c lanes boundaries i j =
    plan_told (count_of (center_plan join c lanes i j)) (both_plans (side_plan_in join c lanes boundaries i j Left) (side_plan_in join c lanes boundaries i j Right))
