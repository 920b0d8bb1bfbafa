-- What split_lane decides of lanes before it writes: the cut, each lane's station, and whether each boundary crosses it, by rows. Nothing that a host calls rests
-- on this page; the laws of split_laws tie it to the rules.
use Rattle.std.specs.Prelude.{ℕ, Bool, cond, List, [], ◌∷◌, map, eqb, Float, length, take, Option, Err, Ok}
use Rattle.lists.specs.Rows.{over}
use Rattle.lists.specs.Select.{has}
use Rattle.polyline.specs.Polyline.{flat, line_length, point_at, first_piece, second_piece}
use Rattle.entities.specs.Records.{Line, Lane}
use Rattle.rules.specs.Names.{SplitAt, NoUsableLine, PositionOutside, Point2}
use Rattle.rules.specs.Map.{boundary, centerline, station, flat_point}
use Rattle.rules.specs.Edit.{Res, ◌>>=◌, Passed, passed, check, require}
use Rattle.rules.specs.Split.{LanePlan, center_piece, cut_station, cuttable, crosses, group_of}
use Rattle.tables.specs.View.{word, rows, lane_of}
use Rattle.tables.specs.Columns.{lane_left, lane_right, lane_words, row_id}
use Rattle.group.specs.Walk.{lane_map, ids_of}
use Rattle.lookup.specs.Lookup.{row_at, drawn, center_line, points_or}
use Rattle.split_plan.specs.declared.Cut.{Cut}

-- ---- where to cut

-- at a station of a line
abbrev pub cutting : Float → ℕ → Line → Float → Res Cut
cutting piece i c s = do
  ok ← check (cuttable piece c s) (PositionOutside i)
  p ← require (flat_point (point_at c s)) (NoUsableLine i)
  Ok (record { station = s; point = p })

-- the lane's own line, the fraction, the position
abbrev pub placing : Float → ℕ → SplitAt → Option Line → Res Cut
placing piece i at o = do
  c ← require o (NoUsableLine i)
  s ← cut_station at (line_length c)
  cutting piece i c s

-- of the lane in row i
abbrev pub placed : Float → List Float → List ℕ → List ℕ → ℕ → SplitAt → Res Cut
placed piece c lanes boundaries i at = (placing piece (word row_id (row_at lane_words lanes i)) at (center_line c lanes boundaries i))

-- an array of work with a line at its front, where there is one
abbrev pub line_over : List Float → Option Line → List Float
line_over w o = over w 0 (flat (points_or o))

-- ---- a lane's station

-- the split lane's own is given, another's is nearest to the cut
abbrev pub stationing : Float → ℕ → ℕ → Cut → Option Line → Res Float
stationing piece own i k o = do
  c ← require o (NoUsableLine i)
  near ← require (station c k.point) (NoUsableLine i)
  let s = cond (eqb i own) k.station near in
      do
        ok ← check (cuttable piece c s) (PositionOutside i)
        Ok s

-- of a lane's row
abbrev pub row_station : Float → List Float → List ℕ → ℕ → Cut → List ℕ → Res Float
row_station piece c boundaries own k w = stationing piece own (word row_id w) k (centerline (drawn c boundaries) (lane_of c w))

-- ---- the group, lane by lane

-- those whose marks are set
unfoldable pub picked : {A : Type 0} → List Bool → List A → List A
picked [] xs = []
picked (b ∷ bs) [] = []
picked (b ∷ bs) (x ∷ xs) = let rest = picked bs xs in cond b (x ∷ rest) rest

-- the marks of the group of the lane in row i
abbrev pub group_marks : List ℕ → ℕ → Bool → List Bool
group_marks lanes i neighbors = map (λ k. has k (group_of (lane_map lanes) (word row_id (row_at lane_words lanes i)) neighbors)) (ids_of lanes)

-- the first refusal, or all values
unfoldable pub all_of : {A : Type 0} → (A → Res Float) → List A → Res (List Float)
all_of f [] = Ok []
all_of f (x ∷ xs) =
    let rest = all_of f xs in
    (do
      y ← f x
      ys ← rest
      Ok (y ∷ ys))

-- the values before the first refusal
abbrev pub before : Res Float → List Float → List Float
before (Err r) ys = []
before (Ok y) ys = y ∷ ys

unfoldable pub good_of : {A : Type 0} → (A → Res Float) → List A → List Float
good_of f [] = []
good_of f (x ∷ xs) = let rest = good_of f xs in before (f x) rest

abbrev pub stations_told : Res (List Float) → Res ℕ
stations_told (Err r) = Err r
stations_told (Ok ss) = Ok (length ss)

-- the rows of the lanes that are marked
abbrev pub marked_rows : List Bool → List ℕ → List (List ℕ)
marked_rows seen lanes = picked seen (rows lane_words (λ w. w) lanes)

-- the plan of a lane with a station
abbrev pub plan_of : Point2 → Lane → Float → LanePlan
plan_of p l s = record { of = l; station = s; first_center = center_piece first_piece l.centerline p; second_center = center_piece second_piece l.centerline p }

-- the plans of rows with their stations
unfoldable pub plans_of : List Float → Point2 → List (List ℕ) → List Float → List LanePlan
plans_of c p [] ss = []
plans_of c p (w ∷ ws) [] = []
plans_of c p (w ∷ ws) (s ∷ ss) = plan_of p (lane_of c w) s ∷ plans_of c p ws ss

abbrev pub group_stations : Float → List Float → List ℕ → List ℕ → ℕ → Cut → List Bool → List Float
group_stations piece c lanes boundaries own k seen = good_of (row_station piece c boundaries own k) (marked_rows seen lanes)

-- as many ids as there are stations
abbrev pub group_cut : Float → List Float → List ℕ → List ℕ → ℕ → Cut → List Bool → List ℕ
group_cut piece c lanes boundaries own k seen =
    map (word row_id) (take (length (group_stations piece c lanes boundaries own k seen)) (marked_rows seen lanes))

-- ---- boundaries

abbrev pub id_crosses : List Float → List ℕ → Point2 → ℕ → Res Passed
id_crosses c boundaries p i = crosses i p (boundary (drawn c boundaries) i)

-- those of a lane's row, left then right
abbrev pub row_crosses : List Float → List ℕ → Point2 → List ℕ → Res Passed
row_crosses c boundaries p w = do
  left ← id_crosses c boundaries p (word lane_left w)
  id_crosses c boundaries p (word lane_right w)

unfoldable pub all_pass : {A : Type 0} → (A → Res Passed) → List A → Res Passed
all_pass f [] = Ok passed
all_pass f (x ∷ xs) =
    let rest = all_pass f xs in
    (do
      ok ← f x
      rest)
