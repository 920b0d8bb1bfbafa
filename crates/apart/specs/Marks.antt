-- Lines by marks on the points: how the test of soundness finds that no stored point belongs to two lines. What `lines_apart` asks for
-- (`takeable`) follows from tables whose lines are stored, and the lines that it reads are `spans` (proofs/Stored.antt).
use Rattle.std.specs.Prelude.{ℕ, zero, suc, ◌+◌, Bool, true, not, ◌&&◌, ◌||◌, cond, List, [], ◌∷◌, ◌++◌, eqb, leb, take, drop}
use Rattle.lists.specs.Every.{all}
use Rattle.lists.specs.Rows.{over}
use Rattle.lists.specs.Select.{each}
use Rattle.tables.specs.View.{rows}
use Rattle.tables.specs.Formed.{Span, span_at, center_span, counted}
use Rattle.tables.specs.Columns.{boundary_start, boundary_words, crosswalk_left_start, crosswalk_right_start, crosswalk_words, lane_words, stop_line_start, stop_line_words}
use Rattle.rules.specs.Limits.{max_boundaries, max_crosswalks, max_lanes, max_stop_lines}

abbrev pub trues : ℕ → List Bool
trues zero = []
trues (suc n) = true ∷ trues n

-- the points of a line marked
unfoldable pub marked : List Bool → Span → List Bool
marked marks s = over marks s.start (trues s.size)

-- none of a line's points is marked
unfoldable pub unmarked : List Bool → Span → Bool
unmarked marks s = all not (take s.size (drop s.start marks))

-- every line finds its points unmarked, and marks them
unfoldable pub apart_by : List Bool → List Span → Bool
apart_by marks [] = true
apart_by marks (s ∷ ss) = unmarked marks s && apart_by (marked marks s) ss

unfoldable pub marked_all : List Bool → List Span → List Bool
marked_all marks [] = marks
marked_all marks (s ∷ ss) = marked_all (marked marks s) ss

-- a line lies among n points
abbrev pub within : ℕ → Span → Bool
within n s = eqb s.size 0 || leb (s.start + s.size) n

-- the marks after a line that finds its points unmarked; else as they were
abbrev pub taken : List Bool → Span → List Bool
taken marks s = cond (unmarked marks s) (marked marks s) marks

abbrev pub rest_spans : List ℕ → List ℕ → List Span
rest_spans stops crosswalks = rows stop_line_words (span_at stop_line_start) stops ++ (rows crosswalk_words (span_at crosswalk_left_start) crosswalks ++ rows crosswalk_words (span_at crosswalk_right_start) crosswalks)

-- every line, in the order of `spans`
abbrev pub line_spans : List ℕ → List ℕ → List ℕ → List ℕ → List Span
line_spans lanes boundaries stops crosswalks = rows boundary_words (span_at boundary_start) boundaries ++ (each (λ s. s) (rows lane_words center_span lanes) ++ rest_spans stops crosswalks)

unfoldable pub rest_takeable : ℕ → List ℕ → List ℕ → Bool
rest_takeable n stops crosswalks = counted max_stop_lines stop_line_words stops && counted max_crosswalks crosswalk_words crosswalks && all (within n) (rest_spans stops crosswalks)

unfoldable pub takeable : ℕ → List ℕ → List ℕ → List ℕ → List ℕ → Bool
takeable n lanes boundaries stops crosswalks =
    counted max_lanes lane_words lanes
    && counted max_boundaries boundary_words boundaries
    && all (within n) (rows boundary_words (span_at boundary_start) boundaries)
    && all (within n) (each (λ s. s) (rows lane_words center_span lanes))
    && rest_takeable n stops crosswalks
