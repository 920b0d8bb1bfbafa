-- The change set of a split, from marks, pieces and rows. Nothing that a host calls rests on this page; the laws of split_changes tie it to the rules.
use Rattle.std.specs.Prelude.{◌≡◌, ℕ, zero, suc, ◌+◌, ◌*◌, ◌^◌, ◌≤◌, ◌<◌, Bool, true, cond, List, [], ◌∷◌, ◌++◌, map, eqb, length, Some}
use Rattle.lists.specs.Select.{ascending, numbered}
use Rattle.entities.specs.Records.{Issue}
use Rattle.rules.specs.Names.{EntityRef, LaneKind, BoundaryKind, RoadKind, JunctionKind, RuleKind}
use Rattle.rules.specs.Limits.{max_lanes}
use Rattle.rules.specs.Edit.{refs, up_from}
use Rattle.rules.specs.Split.{dropped_beside}
use Rattle.tables.specs.View.{word, slot_at, rows}
use Rattle.tables.specs.Formed.{counted}
use Rattle.tables.specs.Columns.{boundary_words, junction_words, lane_words, left_slot, right_slot, road_words, row_count, row_id, rule_words}
use Rattle.report.specs.Report.{issues}
use Rattle.report.specs.declared.Notice.TheVariants.{Pieces}
use Rattle.split_plan.specs.Placing.{picked, marked_rows}

-- ---- created

-- the second halves, then the new pieces: both are numbered one after another, the pieces first
abbrev pub created_by : ℕ → ℕ → ℕ → List EntityRef
created_by next ids lanes = refs LaneKind (up_from (next + ids) lanes) ++ refs BoundaryKind (up_from next ids)

-- ---- modified

-- the ids of the marked rows
abbrev pub marked_ids : ℕ → List Bool → List ℕ → List ℕ
marked_ids s marks t = map (word row_id) (picked marks (rows s (λ w. w) t))

unfoldable pub modified_by : List Bool → List ℕ → List Bool → List ℕ → List Bool → List ℕ → List Bool → List ℕ → List Bool → List ℕ → List EntityRef
modified_by lm lanes bm boundaries rm roads jm junctions um rules =
    refs LaneKind (marked_ids lane_words lm lanes)
    ++ (refs BoundaryKind (marked_ids boundary_words bm boundaries)
    ++ (refs RoadKind (marked_ids road_words rm roads) ++ (refs JunctionKind (marked_ids junction_words jm junctions) ++ refs RuleKind (marked_ids rule_words um rules))))

-- ---- warnings

-- a cut boundary whose first piece has a new id is used outside the group
abbrev pub piece_issues : List ℕ → ℕ → List Issue
piece_issues pieces j = cond (eqb (word (j * 3 + 1) pieces) (word (j * 3) pieces)) [] (issues (Some (Pieces (word (j * 3) pieces) (word (j * 3 + 1) pieces) (word (j * 3 + 2) pieces))))

-- those of n pieces from number j on
unfoldable pub pieces_issues : List ℕ → ℕ → ℕ → List Issue
pieces_issues pieces j zero = []
pieces_issues pieces j (suc n) = piece_issues pieces j ++ pieces_issues pieces (suc j) n

-- neighbours that are not cut, of the cut lane in row w whose second half is `second`
abbrev pub row_dropped : List ℕ → ℕ → ℕ → List ℕ → List Issue
row_dropped cut next second w = dropped_beside (numbered next cut) second (slot_at left_slot w) ++ dropped_beside (numbered next cut) second (slot_at right_slot w)

unfoldable pub rows_dropped : List ℕ → ℕ → ℕ → List (List ℕ) → List Issue
rows_dropped cut next second [] = []
rows_dropped cut next second (w ∷ ws) = row_dropped cut next second w ++ rows_dropped cut next (suc second) ws

-- in the order raised
abbrev pub warnings_by : List ℕ → ℕ → List ℕ → ℕ → List Bool → List ℕ → List Issue
warnings_by pieces m cut next seen lanes = pieces_issues pieces 0 m ++ rows_dropped cut next next (marked_rows seen lanes)

-- ---- what is asked

-- of a table whose marked rows are listed
pub record Listed (s limit : ℕ) (t : List ℕ) (marks : List Bool) : Type 0 where
  pub some_words : 0 < s
  pub narrow : s ≤ 512
  pub few : limit ≤ 4096
  pub counts : counted limit s t ≡ true
  pub marks_there : word row_count t ≤ length marks

-- of the lanes whose neighbours are looked at
pub record Beside (cut : List ℕ) (next : ℕ) (seen : List Bool) (lanes : List ℕ) : Type 0 where
  pub ascend : ascending cut ≡ true
  pub ids : next + length cut < 2 ^ 64
  pub counts : counted max_lanes lane_words lanes ≡ true
  pub marks_there : word row_count lanes ≤ length seen
  pub many : length (marked_rows seen lanes) ≡ length cut

-- of all five tables
pub record AllListed (lm bm rm jm um : List Bool) (lanes boundaries roads junctions rules : List ℕ) : Type 0 where
  pub lanes_listed : Listed lane_words 1024 lanes lm
  pub boundaries_listed : Listed boundary_words 4096 boundaries bm
  pub roads_listed : Listed road_words 256 roads rm
  pub junctions_listed : Listed junction_words 256 junctions jm
  pub rules_listed : Listed rule_words 512 rules um
