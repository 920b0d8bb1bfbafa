-- What a split decides by rows is what split-lane decides on the whole map. Assumes nothing.
use Rattle.std.specs.Prelude.{Option, None, Some, Err, Ok}
use mathlib.Core.Path.{◌≡◌, refl, sym, ap, ◌∙◌}
use Prim.Native.Nat.{ℕ}
use native.Mathlib.Omega.{arith}
use mathlib.Core.Bool.{Bool, true, false}
use mathlib.Core.List.{List, [], map, append-nil}
use lib.Ieee.{Float}
use lib.ListN.{length, take, length-map}
use lib.Seq.{take_all}
use Rattle.lists.specs.Rows.{over}
use Rattle.lists.specs.Select.{keep, any, has}
use Rattle.lists.proofs.Select.{map-twice}
use Rattle.polyline.specs.Polyline.{line_length, point_at}
use Rattle.entities.specs.Records.{Line, Lane, Boundary, Map}
use Rattle.rules.specs.Names.{Tolerance, SplitAt, Refusal, LaneAbsent, NoUsableLine, PositionOutside, Point2}
use Rattle.rules.specs.Map.{lane, centerline, uses, flat_point}
use Rattle.rules.specs.Edit.{Res, ◌>>=◌, Passed, passed, check, require, Edited}
use Rattle.rules.specs.Split.{cut_station, cuttable, LanePlan, lane_plans, all_cross, pieces, cut, group_of, split_lane}
use Rattle.tables.specs.View.{Tables, word, lane_of, view}
use Rattle.row_tests.specs.Returned.{searchable}
use Rattle.lookup.specs.Lookup.{place_of, row_at, center_line}
use Rattle.lookup.proofs.Laws.{find_at, find_none, place-id}
use Rattle.lookup.proofs.Center.{center_drawn_lem}
use Rattle.split_plan.specs.Placing.{placing, placed, group_marks, marked_rows, plans_of, row_station, all_of, good_of, stations_told, group_stations, group_cut, row_crosses, all_pass}
use Rattle.split_plan.specs.declared.Cut.{Cut}
use Rattle.split_plan.proofs.Marked.{Each, each-length, each-good, all-each}
use Rattle.split_laws.proofs.Chosen.{lanes-chosen, ids-chosen}
use Rattle.split_laws.proofs.ByRows.{row-plans, plans-of, plans-ids, plans_stations, row-crossings}

-- ---- what the map's definition does with what is decided

-- the boundaries that are cut, and the cut
abbrev pub cutting : Map → List Lane → List Boundary
cutting m ls = keep (λ b. any (uses b.id) ls) m.boundaries

abbrev pub cut_by : Tolerance → ℕ → ℕ → Map → List ℕ → List Lane → Cut → List LanePlan → Edited
cut_by tol next own m group ls k ps = cut tol next m own group ps (pieces group m.lanes k.point next (cutting m ls))

-- the plans of the lanes, what is told of them, and the cut that they make
pub record Plans (tol : Tolerance) (next own : ℕ) (at : SplitAt) (neighbors : Bool) (t : Tables) (k : Cut) (seen : List Bool) (n : ℕ) : Type 0 where
  pub plans : List LanePlan
  pub planned : lane_plans tol (view t) own k.station k.point (keep (λ x. has x.id (group_of (view t) own neighbors)) (view t).lanes) ≡ Ok plans
  pub crossed : all_cross (view t) k.point (keep (λ x. has x.id (group_of (view t) own neighbors)) (view t).lanes) ≡ Ok passed
  pub by_stations : plans ≡ plans_of t.coordinates k.point (marked_rows seen t.lanes) (group_stations tol.piece t.coordinates t.lanes t.boundaries own k seen)
  pub of_lanes : map (λ x. x.of) plans ≡ keep (λ x. has x.id (group_of (view t) own neighbors)) (view t).lanes
  pub ids : map (λ x. x.of.id) plans ≡ group_cut tol.piece t.coordinates t.lanes t.boundaries own k seen
  pub stations : map (λ x. x.station) plans ≡ group_stations tol.piece t.coordinates t.lanes t.boundaries own k seen
  pub many : length plans ≡ n
  pub marked : length (marked_rows seen t.lanes) ≡ n
  pub made : split_lane tol next own at neighbors (view t)
      ≡ Ok (cut_by tol next own (view t) (group_of (view t) own neighbors) (keep (λ x. has x.id (group_of (view t) own neighbors)) (view t).lanes) k plans)

lane-key : (c : List Float) (w : List ℕ) → (lane_of c w).id ≡ word 0 w
unfolding lane_of
lane-key c w = refl

-- a step after the cut is placed
place-then : (piece : Float) (i : ℕ) (at : SplitAt) (o : Option Line) (f : Cut → Res Edited)
    → (require o (NoUsableLine i) >>= λ c. cut_station at (line_length c) >>= λ s. check (cuttable piece c s) (PositionOutside i) >>= λ _. require (flat_point (point_at c s)) (NoUsableLine i) >>= λ p. f (record { station = s; point = p }))
    ≡ (placing piece i at o >>= f)
place-then piece i at None f = refl
place-then piece i at (Some c) f = go (cut_station at (line_length c))
  where
    go : (x : Res Float) → (x >>= λ s. check (cuttable piece c s) (PositionOutside i) >>= λ _. require (flat_point (point_at c s)) (NoUsableLine i) >>= λ p. f (record { station = s; point = p }))
        ≡ ((x >>= λ s. check (cuttable piece c s) (PositionOutside i) >>= λ _. require (flat_point (point_at c s)) (NoUsableLine i) >>= λ p. Ok (record { station = s; point = p })) >>= f)
    go (Err r) = refl
    go (Ok s) = on (cuttable piece c s) (flat_point (point_at c s))
      where
        on : (b : Bool) (q : Option Point2) → (check b (PositionOutside i) >>= λ _. require q (NoUsableLine i) >>= λ p. f (record { station = s; point = p }))
            ≡ ((check b (PositionOutside i) >>= λ _. require q (NoUsableLine i) >>= λ p. Ok (record { station = s; point = p })) >>= f)
        on false q = refl
        on true None = refl
        on true (Some p) = refl

-- what was told
stations_refused : (x : Res (List Float)) (r : Refusal) → stations_told x ≡ Err r → x ≡ Err r
stations_refused (Err q) r e = let z : q ≡ r = cc in rw z
stations_refused (Ok k) r e = let z : ◌≡◌ {A = ℕ} 0 1 = cc in absurd (omega arith)

stations_found : (x : Res (List Float)) (n : ℕ) → stations_told x ≡ Ok n → (ss : List Float) × (x ≡ Ok ss) × (length ss ≡ n)
stations_found (Err q) n e = let z : ◌≡◌ {A = ℕ} 0 1 = cc in absurd (omega arith)
stations_found (Ok ss) n e = (ss, refl, cc)

-- ---- split_lane

module _ (tol : Tolerance) (next own : ℕ) (at : SplitAt) (neighbors : Bool) (t : Tables) where
  abbrev split : Res Edited
  split = split_lane tol next own at neighbors (view t)

  abbrev group : List ℕ
  group = group_of (view t) own neighbors

  abbrev chosen : List Lane
  chosen = keep (λ x. has x.id group) (view t).lanes

  pub split-absent : place_of 52 t.lanes own ≡ None → split_lane tol next own at neighbors (view t) ≡ Err (LaneAbsent own)
  unfolding split_lane lane view
  split-absent e = rw (find_none 52 (lane_of t.coordinates) (λ l. l.id) (lane-key t.coordinates) t.lanes own e)

  -- the definition, once the cut is placed
  abbrev rest : Cut → Res Edited
  rest k = lane_plans tol (view t) own k.station k.point chosen >>= λ ps. all_cross (view t) k.point chosen >>= λ _. Ok (cut_by tol next own (view t) group chosen k ps)

  module _ (i : ℕ) (ei : place_of 52 t.lanes own ≡ Some i) where
    there : lane (view t) own ≡ Some (lane_of t.coordinates (row_at 52 t.lanes i))
    unfolding lane view
    there = find_at 52 (lane_of t.coordinates) (λ l. l.id) (lane-key t.coordinates) t.lanes own i ei

    line : centerline (view t) (lane_of t.coordinates (row_at 52 t.lanes i)) ≡ center_line t.coordinates t.lanes t.boundaries i
    unfolding view
    line = center_drawn_lem t.coordinates t.boundaries (view t) (lane_of t.coordinates (row_at 52 t.lanes i)) refl

    steps : split ≡ (placing tol.piece own at (center_line t.coordinates t.lanes t.boundaries i) >>= rest)
    unfolding split_lane
    steps = rw (there, line) (place-then tol.piece own at (center_line t.coordinates t.lanes t.boundaries i) rest)

    told : placed tol.piece t.coordinates t.lanes t.boundaries i at ≡ placing tol.piece own at (center_line t.coordinates t.lanes t.boundaries i)
    told = ap (λ n. (placing tol.piece n at (center_line t.coordinates t.lanes t.boundaries i))) (place-id 52 t.lanes own i ei)

    -- the lane's line, the fraction, the position
    pub split_unplaced : (r : Refusal) → placed tol.piece t.coordinates t.lanes t.boundaries i at ≡ Err r → split_lane tol next own at neighbors (view t) ≡ Err r
    split_unplaced r e = steps ∙ rw (sym told ∙ e)

    -- the group's marks as they are written, and the stations and crossings of the marked rows
    module _ (k : Cut) (ek : placed tol.piece t.coordinates t.lanes t.boundaries i at ≡ Ok k) (seen₀ seen : List Bool) (es : seen ≡ over seen₀ 0 (group_marks t.lanes i neighbors)) where
      abbrev station_of : List ℕ → Res Float
      station_of = row_station tol.piece t.coordinates t.boundaries own k

      abbrev marked : List (List ℕ)
      marked = marked_rows seen t.lanes

      goes_on : split ≡ rest k
      goes_on = steps ∙ rw (sym told ∙ ek)

      by_rows : map (lane_of t.coordinates) marked ≡ chosen
      by_rows = lanes-chosen t own i ei neighbors seen₀ seen es

      plans-told : lane_plans tol (view t) own k.station k.point chosen ≡ (all_of station_of marked >>= λ ss. Ok (plans_of t.coordinates k.point marked ss))
      unfolding view
      plans-told =
          ap (lane_plans tol (view t) own k.station k.point) (sym by_rows) ∙ row-plans tol t.coordinates t.boundaries (view t) refl own k marked

      crossings-told : all_cross (view t) k.point chosen ≡ all_pass (row_crosses t.coordinates t.boundaries k.point) marked
      unfolding view
      crossings-told =
          ap (all_cross (view t) k.point) (sym by_rows) ∙ row-crossings tol t.coordinates t.boundaries (view t) refl own k k.point marked

      -- each lane of the group
      pub split_unstationed : (r : Refusal) → stations_told (all_of (row_station tol.piece t.coordinates t.boundaries own k) (marked_rows seen t.lanes)) ≡ Err r
          → split_lane tol next own at neighbors (view t) ≡ Err r
      split_unstationed r e = goes_on ∙ rw (plans-told, stations_refused (all_of station_of marked) r e)

      -- the plans of the lanes that are cut have the group's ids, where the table's ids ascend
      pub plans-group : searchable t.lanes ≡ true → (n : ℕ) (p : Plans tol next own at neighbors t k seen n) → map (λ x. x.of.id) p.plans ≡ group_of (view t) own neighbors
      unfolding lane_of
      plans-group h n p =
          sym (map-twice (λ (x : LanePlan). x.of) (λ (l : Lane). l.id) p.plans)
          ∙ ap (map (λ (l : Lane). l.id)) (p.of_lanes ∙ sym by_rows)
          ∙ map-twice (lane_of t.coordinates) (λ (l : Lane). l.id) marked
          ∙ ids-chosen t own i ei neighbors seen₀ seen es h

      -- all lanes have a station, and all boundaries cross
      module _ (ss : List Float) (q : all_of station_of marked ≡ Ok ss) where
        each : Each station_of marked ss
        each = all-each station_of marked ss q

        good : good_of station_of marked ≡ ss
        unfolding good_of
        good = sym (ap (good_of station_of) (append-nil marked)) ∙ each-good station_of each [] ∙ append-nil ss

        all-taken : take (length (good_of station_of marked)) marked ≡ marked
        all-taken = take_all (length (good_of station_of marked)) marked (omega (arith, ap length good, each-length station_of each))

        abbrev ps : List LanePlan
        ps = plans_of t.coordinates k.point marked ss

        done : lane_plans tol (view t) own k.station k.point chosen ≡ Ok ps
        done = plans-told ∙ rw q

        by-plan : map (λ (x : LanePlan). x.station) ps ≡ ss
        unfolding view
        by-plan = plans_stations tol t.coordinates t.boundaries (view t) refl own k each

        planned-all : (n : ℕ) → length ss ≡ n → all_pass (row_crosses t.coordinates t.boundaries k.point) marked ≡ Ok passed → Plans tol next own at neighbors t k seen n
        unfolding view
        planned-all n l e =
            record {
              plans = ps;
              planned = done;
              crossed = crossings-told ∙ e;
              by_stations = ap (plans_of t.coordinates k.point marked) (sym good);
              of_lanes = plans-of tol t.coordinates t.boundaries (view t) refl own k each ∙ by_rows;
              ids = plans-ids tol t.coordinates t.boundaries (view t) refl own k each ∙ ap (map (word 0)) (sym all-taken);
              stations = by-plan ∙ sym good;
              many = omega (arith, length-map ps (λ (x : LanePlan). x.station), ap length by-plan);
              marked = omega (arith, each-length station_of each);
              made = goes_on ∙ rw (done, crossings-told, e);
            }

      module _ (n : ℕ) (en : stations_told (all_of (row_station tol.piece t.coordinates t.boundaries own k) (marked_rows seen t.lanes)) ≡ Ok n) where
        -- then their boundaries
        pub split_uncrossed : (r : Refusal) → (all_pass (row_crosses t.coordinates t.boundaries k.point) (marked_rows seen t.lanes)) ≡ Err r
            → split_lane tol next own at neighbors (view t) ≡ Err r
        split_uncrossed r e =
            let (ss, q, l) = stations_found (all_of station_of marked) n en in
            goes_on ∙ rw (plans-told, q, crossings-told, e)

        pub split-planned : (all_pass (row_crosses t.coordinates t.boundaries k.point) (marked_rows seen t.lanes)) ≡ Ok passed → Plans tol next own at neighbors t k seen n
        split-planned e =
            let (ss, q, l) = stations_found (all_of station_of marked) n en in
            planned-all ss q n l e
