-- split_lane in words: how a call ends from step to step, and what each step asks. Nothing that a host calls rests on this page.
use Rattle.rules.specs.Edit.{Passed, Res, passed}
use Rattle.std.specs.Prelude.{◌≡◌, ℕ, ◌-◌, ◌≤◌, ◌<◌, Bool, true, false, cond, List, Float, length, replicate, Err, Ok}
use Rattle.lists.specs.Rows.{over}
use Rattle.rules.specs.Names.{Tolerance, Point2, NoRoom}
use Rattle.rules.specs.Limits.{max_lanes, max_rules}
use Rattle.rules.specs.Sound.{next_id}
use Rattle.tables.specs.View.{Tables, word}
use Rattle.tables.specs.Columns.{row_count}
use Rattle.row_tests.specs.Returned.{searchable}
use Rattle.lookup.specs.Lookup.{Drawable}
use Rattle.step.specs.Step.{Lent, Ended, refusing}
use Rattle.split_plan.specs.declared.Cut.{Cut}
use Rattle.split_plan.specs.Placing.{all_of, all_pass, group_cut, group_marks, group_stations, marked_rows, row_crosses, row_station, stations_told}
use Rattle.split_pieces.specs.Pieces.{cut_keys, piece_words}
use Rattle.split_rules.specs.Past.{Marking, anchored_by, past_by}
use Rattle.split_relay.specs.Relaying.{Cutting}
use Rattle.split_made.specs.declared.Drawn.{Drawn}
use Rattle.split_made.specs.Made.{Fittable, Left, Makeable, fits_after, left, split_made}
use Rattle.split_facts.specs.Splitting.{Numbered, Planned, reach_of, split_ends}

-- ---- the group

-- the boundaries of the marked lanes cross the cut, or the call is refused
abbrev pub cross_ends : Tolerance → ℕ → Point2 → List Bool → List ℕ → List Float → Lent → Res Passed → Ended
cross_ends tol own p seen cut stations l (Err r) = refusing l r
cross_ends tol own p seen cut stations l (Ok _) = split_ends tol own p seen cut stations l

abbrev pub crossings : Point2 → List Bool → Tables → Res Passed
crossings p seen t = (all_pass (row_crosses t.coordinates t.boundaries p) (marked_rows seen t.lanes))

unfoldable pub station_ends : Tolerance → ℕ → Point2 → List Bool → List ℕ → List Float → Lent → Ended
station_ends tol own p seen cut stations l = cross_ends tol own p seen cut stations l (crossings p seen l.tables)

-- each of them has a station, or the call is refused
abbrev pub cut_in : Tolerance → ℕ → Cut → List Bool → Tables → List ℕ
cut_in tol own k seen t = group_cut tol.piece t.coordinates t.lanes t.boundaries own k seen

abbrev pub stations_in : Tolerance → ℕ → Cut → List Bool → Tables → List Float
stations_in tol own k seen t = group_stations tol.piece t.coordinates t.lanes t.boundaries own k seen

abbrev pub plan_ends : Tolerance → ℕ → Cut → List Bool → Lent → Res ℕ → Ended
plan_ends tol own k seen l (Err r) = refusing l r
plan_ends tol own k seen l (Ok n) = station_ends tol own k.point seen (cut_in tol own k seen l.tables) (stations_in tol own k seen l.tables) l

abbrev pub planned : Tolerance → ℕ → Cut → List Bool → Tables → Res ℕ
planned tol own k seen t = stations_told (all_of (row_station tol.piece t.coordinates t.boundaries own k) (marked_rows seen t.lanes))

-- the lanes of the group of the one in row i are marked
abbrev pub seen_in : ℕ → Bool → Tables → List Bool
seen_in i neighbors t = over (replicate max_lanes false) 0 (group_marks t.lanes i neighbors)

unfoldable pub group_ends : Tolerance → ℕ → ℕ → Cut → Bool → Lent → Ended
group_ends tol own i k neighbors l = let seen = seen_in i neighbors l.tables in plan_ends tol own k seen l (planned tol own k seen l.tables)

-- ---- what is asked

pub record MayCross (tol : Tolerance) (counter : ℕ) (t : Tables) (own : ℕ) (p : Point2) (seen : List Bool) (cut : List ℕ) (stations : List Float) : Type 0 where
  pub drawable : Drawable t.lanes t.boundaries t.coordinates
  pub marks : word row_count t.lanes ≤ length seen
  pub planned : crossings p seen t ≡ Ok passed → Planned tol counter t own p seen cut stations

pub record MayGroup (tol : Tolerance) (counter : ℕ) (t : Tables) (own i : ℕ) (k : Cut) (neighbors : Bool) : Type 0 where
  pub search : searchable t.lanes ≡ true
  pub row : i < word row_count t.lanes
  pub rows : word row_count t.lanes ≤ max_lanes
  pub drawable : Drawable t.lanes t.boundaries t.coordinates
  pub stationed : (n : ℕ) → planned tol own k (seen_in i neighbors t) t ≡ Ok n
      → (length (cut_in tol own k (seen_in i neighbors t) t) ≡ n) × ((length (stations_in tol own k (seen_in i neighbors t) t) ≡ n)
      × ((n ≤ max_lanes) × MayCross tol counter t own k.point (seen_in i neighbors t) (cut_in tol own k (seen_in i neighbors t) t) (stations_in tol own k (seen_in i neighbors t) t)))

-- ---- pieces and lines

-- the pieces of the marked boundaries are listed
pub record Pieced (tol : Tolerance) (counter : ℕ) (t : Tables) (own : ℕ) (p : Point2) (seen : List Bool) (cut : List ℕ) (stations : List Float) (ids : ℕ) (marks : List Bool) (pieces : List ℕ) (many reach : ℕ) : Type 0 where
  pub number : Numbered tol counter t own p seen cut stations ids marks
  pub listed : pieces ≡ over (replicate 3072 0) 0 (piece_words seen t.lanes (next_id counter) (cut_keys marks t.boundaries))
  pub count : many ≡ length (cut_keys marks t.boundaries)
  pub reaches : reach ≡ reach_of t

-- what is decided besides the cut, once they are measured
abbrev pub drawn_by : ℕ → ℕ → ℕ → ℕ → ℕ → Drawn
drawn_by counter own ids reach end = record { own = own; ids = ids; first = next_id counter; points = end - reach }

-- ---- room, then the end

unfoldable pub split_fits : Drawn → Cutting → List Bool → List Bool → Tables → List ℕ → List ℕ → List ℕ → List ℕ → Left
split_fits d k anchored past t created modified deleted warnings =
    cond (fits_after k anchored t) (split_made d k anchored past t created modified deleted warnings) (left t created modified deleted warnings (Err NoRoom))

-- the anchors of rules that name a cut lane, and past which cuts they lie
abbrev pub anchored_in : Cutting → Tables → List Bool
anchored_in k t = over (replicate max_rules false) 0 (anchored_by t.coordinates t.stop_lines t.crosswalks k.cut t.rules)

abbrev pub past_in : Float → List Float → Cutting → Tables → List Bool
past_in join stations k t =
    past_by join t.coordinates t.lanes t.boundaries k.point k.cut stations t.stop_lines t.crosswalks t.rules (replicate 32768 false)

unfoldable pub split_anchored : Float → List Float → Drawn → Cutting → Tables → List ℕ → List ℕ → List ℕ → List ℕ → Left
split_anchored join stations d k t created modified deleted warnings = split_fits d k (anchored_in k t) (past_in join stations k t) t created modified deleted warnings

-- what is asked
pub record MayMake (d : Drawn) (k : Cutting) (anchored past : List Bool) (t : Tables) : Type 0 where
  pub fittable : Fittable k anchored t
  pub makeable : fits_after k anchored t ≡ true → Makeable d k anchored past t

pub record MayAnchor (join : Float) (stations : List Float) (d : Drawn) (k : Cutting) (t : Tables) : Type 0 where
  pub marking : Marking t.coordinates t.lanes t.boundaries k.cut stations t.rules t.stop_lines t.crosswalks (replicate max_rules false) (replicate 32768 false)
  pub may_make : MayMake d k (anchored_in k t) (past_in join stations k t) t
