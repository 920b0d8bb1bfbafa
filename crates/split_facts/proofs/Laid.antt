-- The tables with lines that a split leaves are those of the map that document 01 makes, laid out anew; and what the code that leaves them asks. Assumes nothing.
use Rattle.std.specs.Prelude.{Option, None, Some}
use mathlib.Core.Path.{◌≡◌, refl, sym, ap, ◌∙◌, subst}
use Prim.Native.Nat.{ℕ, ◌+◌, ◌-◌, ◌*◌, ◌/◌, ◌≤◌, ◌<◌}
use native.Mathlib.Omega.{arith}
use mathlib.Core.Bool.{Bool, true, false, not, ◌&&◌, cond}
use mathlib.Core.List.{List, ◌++◌, map, map-append}
use lib.Dec.{eqb, leb, ltb}
use lib.Ieee.{Float, binary64, of_bits}
use lib.ListN.{length, take, drop, length-map, length-drop, length-replicate}
use borrow.Author.Tests.{leb-true, le-leb, ltb-true, ltb-false}
use Rattle.lists.specs.Every.{all}
use Rattle.lists.specs.Rows.{keys}
use Rattle.lists.specs.Select.{any, each, keep, has, ascending, numbered}
use Rattle.lists.proofs.Booleans.{and_both, and-fst, and-snd}
use Rattle.lists.proofs.Select.{all_map, all-weaken, map-twice, map_same}
use Rattle.entities.specs.Records.{Lane, Boundary, StopLine, Crosswalk, Map}
use Rattle.rules.specs.Names.{Tolerance}
use Rattle.rules.specs.Map.{lane, uses}
use Rattle.rules.specs.Edit.{up_from}
use Rattle.rules.specs.Sound.{fits_room, within_limits, optional_line, point_count, next_id, links_ascend}
use Rattle.rules.specs.Split.{LanePlan, Piece, pieces_ids, plan_for, group_of, halves, came_from, new_pieces, second_halves, cut_lane, cut_boundary, cut, cut_map}
use Rattle.laws.proofs.Connect.{found_all}
use Rattle.laws.proofs.SoundParts.{names-before}
use Rattle.laws.proofs.SplitPieces.{piece-ids, up-from}
use Rattle.laws.proofs.Find.{mapped, no-some, some_is}
use Rattle.laws.proofs.SplitLanes.{Numbered, found_by_first, plan-is, first_lane}
use Rattle.tables.specs.View.{Tables, word, ids_at, rows, view, lane_of, boundary_of, stop_line_of, crosswalk_of}
use Rattle.tables.specs.Formed.{spans, center_span, stored, lane_formed}
use Rattle.row_tests.specs.Good.{all_rows}
use Rattle.soundness.proofs.Rows.{every_row}
use Rattle.soundness.proofs.Whole.{ids-keys, rows-count}
use Rattle.apart.specs.Marks.{within}
use Rattle.apart.proofs.Marks.{counted-facts}
use Rattle.store.specs.Store.{room_of, store_rows}
use Rattle.store.specs.Laid.{laid, points_of, lane_laid, boundary_laid}
use Rattle.store.proofs.Marks.{lane-marks}
use Rattle.layout.specs.Layout.{line_tables, sourced, gathered, counted_lines, Gatherable}
use Rattle.layout.specs.Pointed.{Starts, pointed, Lies, HasRoom}
use Rattle.layout.proofs.Gathers.{gathered-laid, gatherable-pointed}
use Rattle.layout.proofs.Reach.{within-reach}
use Rattle.layout.proofs.Standing.{Rowwise, spans_rowwise, both-pass, tested-rows, mapped-rows, stops-stand, crosswalks-stand, stops-lie, left-edges-lie, right-edges-lie}
use Rattle.lookup.specs.Lookup.{row_at}
use Rattle.lookup.proofs.Laws.{sorted-ascends, find_at, row-passes}
use Rattle.lookup.proofs.Good.{rows-weaker}
use Rattle.sound_facts.proofs.Room.{Limits, limits}
use Rattle.sound_facts.proofs.LaidPlaces.{roomy}
use Rattle.room.specs.Room.{column_points}
use Rattle.merge_draw.proofs.Boundaries.{row-long}
use Rattle.split_plan.specs.Placing.{picked, marked_rows}
use Rattle.split_laws.proofs.Chosen.{all-picked}
use Rattle.split_named.proofs.Grown.{halves-numbered}
use Rattle.split_lines.specs.Cut.{Chosen, drawn_pieces}
use Rattle.split_tables.specs.Cut.{boundaries_cut, lanes_cut, BoundariesCut, LanesCut}
use Rattle.split_room.specs.Fitting.{boundary_points, lane_points}
use Rattle.split_limits.proofs.Lengths.{came_same}
use Rattle.split_limits.proofs.Boundaries.{points-cut}
use Rattle.split_limits.proofs.Centers.{AllPlans, centers-cut}
use Rattle.split_limits.proofs.Points.{points-all}
use Rattle.split_laid.proofs.Boundaries.{AllWords, boundary_after, new_starts, after-cut, starts-new, boundaries_are_cut}
use Rattle.split_laid.proofs.Rows.{ids_few}
use Rattle.split_laid.proofs.Lanes.{PlanRows, RowPlan, PlansFew, lane_after, second_starts, starts-second, lanes_are_cut}
use Rattle.split_laid.proofs.Lies as L
use Rattle.split_laid.proofs.Lies.{piece_lines, StartsAt, Runs}
use Rattle.split_relay.specs.Relaying.{Cutting, boundary_lines_of, center_lines_of, drawn_points, drawn_lines, cut_tables, relaid, work_floats, blank, Relayable}
use Rattle.split_facts.specs.Splitting.{lanes_in, plans_in, pieces_in, split_of, Planned, Measured}
use Rattle.split_facts.proofs.Facts as F
use Rattle.split_facts.proofs.LaidRows.{lacks-above, halves-from, rows_long, own-place, AllLined, plans-lined, plans-rows, plan-found, pieces-told, piece-points, rows-many, center_points, drawn, drawn-begins, first_runs, second_runs}

-- what the arrays of pieces and measures are known to tell
pub record Read {tol : Tolerance} {counter : ℕ} {t : Tables} {own : ℕ} {stations : List Float} {ids : ℕ} {k : Cutting} (h : Measured tol counter t own stations ids k) : Type 0 where
  pub pieces_of : map (boundary_of t.coordinates) (picked k.marks (rows 5 (λ w. w) t.boundaries)) ≡ map (λ x. x.of) (pieces_in counter t k.point k.seen k.cut)
  pub many_is : k.many ≡ length (pieces_in counter t k.point k.seen k.cut)
  pub piece-words : AllWords k.pieces k.lines 0 k.reach (pieces_in counter t k.point k.seen k.cut)
  pub piece-keys : keys 3 k.many k.pieces ≡ map (λ x. x.of.id) (pieces_in counter t k.point k.seen k.cut)
  pub keys-up : ascending (keys 3 k.many k.pieces) ≡ true
  pub piece-lines : each (λ l. l) (piece_lines (pieces_in counter t k.point k.seen k.cut)) ≡ drawn_pieces k.point (boundary_lines_of k t)
  pub plans-told : AllPlans k.centers 0 (plans_in t k.point k.seen stations)
  pub starts-at : StartsAt k.centers 0 (k.reach + length (drawn_pieces k.point (boundary_lines_of k t))) (plans_in t k.point k.seen stations)
  pub center_lines : each (λ l. l) (L.center_lines_of (plans_in t k.point k.seen stations)) ≡ drawn_pieces k.point (center_lines_of k t)
  pub lines_near : all (λ i. leb i 4194304) k.lines ≡ true
  pub centers_near : all (λ i. leb i 4194304) k.centers ≡ true
  pub pieces_room : k.many * 3 ≤ length k.pieces
  pub lines_room : k.many * 3 ≤ length k.lines
  pub centers_room : length k.cut * 3 ≤ length k.centers
  pub boundaries-chosen : Chosen t.coordinates 5 2 false k.marks t.boundaries
  pub lanes-chosen : Chosen t.coordinates 52 7 true k.seen t.lanes
  pub reach_near : k.reach ≤ 65536
  pub reach-stored : k.reach * 3 ≤ length t.coordinates

-- ---- tables with lines alone

-- the tables with lines of others
abbrev pub lines_of : Tables → Tables
lines_of t = line_tables t.lanes t.boundaries t.stop_lines t.crosswalks t.coordinates

-- a layout looks at no other
lines-gathered : (work : List Float) (t : Tables) → gathered work (lines_of t) ≡ lines_of (gathered work t)
unfolding gathered spans
lines-gathered work t = refl

lines-gatherable : (work : List Float) (t : Tables) → Gatherable work t → Gatherable work (lines_of t)
unfolding counted_lines spans
lines-gatherable work t g = record { counts = g.counts; fits = g.fits; room = g.room }

fields : {l l₁ b b₁ s s₁ x x₁ : List ℕ} (c : List Float) → l ≡ l₁ → b ≡ b₁ → s ≡ s₁ → x ≡ x₁ → line_tables l b s x c ≡ line_tables l₁ b₁ s₁ x₁ c
fields c p q r u = cc

-- ---- a split

module _ {tol : Tolerance} {counter : ℕ} {t : Tables} {own : ℕ} {stations : List Float} {ids : ℕ} {k : Cutting} (h : Measured tol counter t own stations ids k) (r : Read h)
    (room : fits_room (room_of t) (split_of tol counter t own k.point k.seen k.cut stations).result ≡ true) where
  abbrev c : List Float
  c = t.coordinates

  abbrev ps : List LanePlan
  ps = plans_in t k.point k.seen stations

  abbrev xs : List Piece
  xs = pieces_in counter t k.point k.seen k.cut

  abbrev plan : Planned tol counter t own k.point k.seen k.cut stations
  plan = h.number.plan

  -- ---- rows and plans

  lined : AllLined ps
  lined = plans-lined tol (view t) own plan.at k.point (keep (λ x. has x.id (group_of (view t) own plan.neighbors)) (view t).lanes) ps plan.planned

  stored-rows : Rowwise (stored c) t
  stored-rows = spans_rowwise (stored c) t (F.known plan).parts.store

  formed-rows : all (λ b. b) (rows 52 lane_formed t.lanes) ≡ true
  formed-rows = unfold all_rows in (F.known plan).parts.lanes

  good-rows : all (λ w. eqb (length w) 52 && lane_formed w) (rows 52 (λ w. w) t.lanes) ≡ true
  good-rows =
      tested-rows 52 (λ w. w) (λ w. eqb (length w) 52 && lane_formed w) t.lanes
      ∙ both-pass 52 (λ w. eqb (length w) 52) lane_formed t.lanes (rows_long 1024 52 t.lanes (F.counts plan).lanes) formed-rows

  -- the plans are of the marked rows, and the words of pieces and measures tell of their halves
  pub plan-rows : PlanRows k.pieces k.many k.centers k.next ps xs c 0 ps (marked_rows k.seen t.lanes)
  plan-rows =
      plans-rows k.pieces k.lines k.many k.reach xs r.piece-words r.piece-keys c k.centers k.next ps 0 ps (marked_rows k.seen t.lanes) (F.of_lanes plan) r.plans-told lined
      (all-picked (λ w. eqb (length w) 52 && lane_formed w) k.seen (rows 52 (λ w. w) t.lanes) good-rows)

  -- a plan that is found is of the lane with that id
  planned-lane : (i : ℕ) (x : LanePlan) → plan_for ps i ≡ Some x → lane (view t) i ≡ Some x.of
  planned-lane i x e = go (found_by_first ps (next_id counter + pieces_ids xs) i) refl
    where
      go : (o : Option Numbered) → found_by_first ps (next_id counter + pieces_ids xs) i ≡ o → lane (view t) i ≡ Some x.of
      go None f = absurd (no-some x (sym (plan-is (view t) ps (next_id counter + pieces_ids xs) i ∙ ap (mapped (λ z. z.1)) f) ∙ e))
      go (Some z) f =
          let q : z.1 ≡ x = some_is (sym (plan-is (view t) ps (next_id counter + pieces_ids xs) i ∙ ap (mapped (λ z. z.1)) f) ∙ e) in
          first_lane (view t) ps (next_id counter + pieces_ids xs) (F.accepted h.number).lanes.choice i z f ∙ ap (λ (y : LanePlan). Some y.of) q

  -- ---- every row of the lanes

  came-few : (w : List ℕ) → lane_formed w ≡ true → ascending (ids_at 18 w) ≡ true → length (came_from (numbered k.next (map (λ x. x.of.id) ps)) (ids_at 18 w)) ≤ 16
  came-few w f u =
      let e : length (came_from (numbered k.next (map (λ x. x.of.id) ps)) (ids_at 18 w)) ≡ length (ids_at 18 w) =
      ap (λ hs. length (came_from hs (ids_at 18 w))) (sym (halves-numbered k.next ps)) ∙ came_same k.next ps (ids_at 18 w) u (F.cuts-up plan) in
      omega (arith, e, ids_few 18 w (lane-marks w f).before)

  row-formed : (j : ℕ) → j < word 0 t.lanes → lane_formed (row_at 52 t.lanes j) ≡ true
  row-formed j l = row-passes 52 lane_formed t.lanes formed-rows j l

  row_up : (j : ℕ) → j < word 0 t.lanes → ascending (ids_at 18 (row_at 52 t.lanes j)) ≡ true
  row_up j l = ((F.known plan).links-ascend j l).0

  -- the lane of a row, by its id
  row-lane : (j : ℕ) → j < word 0 t.lanes → lane (view t) (word 0 (row_at 52 t.lanes j)) ≡ Some (lane_of c (row_at 52 t.lanes j))
  unfolding lane view lane_of
  row-lane j l = find_at 52 (lane_of c) (λ x. x.id) (λ w. refl) t.lanes (word 0 (row_at 52 t.lanes j)) j (own-place 1024 52 t.lanes (F.known plan).drawable.lanes_are_sorted j l)

  -- what is known of the plan of every row
  pub row-plans : (j : ℕ) → j < word 0 t.lanes → RowPlan k.pieces k.many k.centers k.next ps xs c (row_at 52 t.lanes j)
  row-plans j l =
      let w = row_at 52 t.lanes j in
      record {
        cuttable = record { formed = row-formed j l; center = row-passes 52 (λ w. all (stored c) (center_span w)) t.lanes stored-rows.centerlines j l; few = came-few w (row-formed j l) (row_up j l) };
        plan = plan-found k.pieces k.lines k.many k.reach xs r.piece-words r.piece-keys c k.centers k.next ps r.plans-told lined w (row-formed j l)
            (λ x e. some_is (sym (planned-lane (word 0 w) x e) ∙ row-lane j l));
      }

  -- ---- new ids

  next-is : k.next ≡ next_id counter + pieces_ids xs
  next-is = h.next ∙ ap (λ n. next_id counter + n) (sym (F.pieces-many h.number))

  boundaries-low : all (λ i. ltb i (next_id counter)) (keys 5 (word 0 t.boundaries) (drop 1 t.boundaries)) ≡ true
  unfolding view boundary_of
  boundaries-low = ap (all (λ i. ltb i (next_id counter))) (sym (ids-keys 5 (boundary_of c) (λ x. x.id) t.boundaries (λ w. refl))) ∙ (F.accepted h.number).lines.fresh

  lanes_low : all (λ i. ltb i k.next) (keys 52 (word 0 t.lanes) (drop 1 t.lanes)) ≡ true
  unfolding view lane_of
  lanes_low =
      ap (λ n. all (λ i. ltb i n) (keys 52 (word 0 t.lanes) (drop 1 t.lanes))) next-is
      ∙ (ap (all (λ i. ltb i (next_id counter + pieces_ids xs))) (sym (ids-keys 52 (lane_of c) (λ x. x.id) t.lanes (λ w. refl))) ∙ (F.accepted h.number).lanes.fresh)

  fresh-boundaries : all (λ b. not (has b.id (keys 5 (word 0 t.boundaries) (drop 1 t.boundaries)))) (each new_pieces xs) ≡ true
  fresh-boundaries =
      let ks = keys 5 (word 0 t.boundaries) (drop 1 t.boundaries) in
      let start = next_id counter in
      sym (all_map (λ i. not (has i ks)) (λ (b : Boundary). b.id) (each new_pieces xs))
      ∙ (ap (all (λ i. not (has i ks))) (piece-ids k.cut (view t).lanes k.point start (keep (λ b. any (uses b.id) (lanes_in t k.seen)) (view t).boundaries))
      ∙ all-weaken (leb start) (λ i. not (has i ks)) (up_from start (pieces_ids xs)) (λ i e. lacks-above start i ks boundaries-low (leb-true start i e)) (up-from start (pieces_ids xs) start (omega arith)))

  abbrev hs : List (ℕ × ℕ)
  hs = numbered k.next (map (λ x. x.of.id) ps)

  fresh-lanes : all (λ l. not (has l.id (keys 52 (word 0 t.lanes) (drop 1 t.lanes)))) (second_halves xs hs k.next ps) ≡ true
  fresh-lanes =
      let ks = keys 52 (word 0 t.lanes) (drop 1 t.lanes) in
      all-weaken (λ (l : Lane). leb k.next l.id) (λ (l : Lane). not (has l.id ks)) (second_halves xs hs k.next ps) (λ l e. lacks-above k.next l.id ks lanes_low (leb-true k.next l.id e))
      (halves-from xs hs k.next k.next ps (omega arith))

  -- ---- links

  links-up : all (λ b. b) (rows 52 (λ w. ascending (ids_at 18 w)) t.lanes) ≡ true
  unfolding links_ascend view lane_of
  links-up =
      rows-weaker 52 (λ w. ascending (ids_at 18 w) && ascending (ids_at 35 w)) (λ w. ascending (ids_at 18 w)) (λ w h. and-fst (ascending (ids_at 18 w)) (ascending (ids_at 35 w)) h) t.lanes
      (sym (every_row 52 (lane_of c) (λ l. ascending l.predecessors && ascending l.successors) t.lanes) ∙ (F.known plan).clauses.links-ascend)

  rows_few : all (λ b. b) (rows 52 (λ w. lane_formed w && leb (length (came_from hs (ids_at 18 w))) 16) t.lanes) ≡ true
  rows_few =
      rows-weaker 52 (λ w. lane_formed w && ascending (ids_at 18 w)) (λ w. lane_formed w && leb (length (came_from hs (ids_at 18 w))) 16)
      (λ w e. let f = and-fst (lane_formed w) (ascending (ids_at 18 w)) e in
      and_both (lane_formed w) (leb (length (came_from hs (ids_at 18 w))) 16) f (le-leb (length (came_from hs (ids_at 18 w))) 16 (came-few w f (and-snd (lane_formed w) (ascending (ids_at 18 w)) e)))) t.lanes
      (unfold all_rows in both-pass 52 lane_formed (λ w. ascending (ids_at 18 w)) t.lanes formed-rows links-up)

  plans-few : PlansFew k.pieces k.many k.centers k.next ps xs c
  unfolding PlansFew lane links_ascend
  plans-few i x e =
      let q : Lane → Bool = λ l. leb (length l.predecessors) 16 && leb (length l.successors) 16 in
      let v : Lane → Bool = λ l. ascending l.predecessors && ascending l.successors in
      let f = planned-lane i x e in
      let a = found_all (λ l. eqb l.id i) q (view t).lanes x.of f (limits (view t) (F.known plan).clauses.limits).links in
      let b = found_all (λ l. eqb l.id i) v (view t).lanes x.of f (F.known plan).clauses.links-ascend in
      let n = leb-true (length x.of.predecessors) 16 (and-fst (leb (length x.of.predecessors) 16) (leb (length x.of.successors) 16) a) in
      let z : length (came_from hs x.of.predecessors) ≡ length x.of.predecessors =
      ap (λ hs. length (came_from hs x.of.predecessors)) (sym (halves-numbered k.next ps)) ∙ came_same k.next ps x.of.predecessors (and-fst (ascending x.of.predecessors) (ascending x.of.successors) b) (F.cuts-up plan) in
      omega (arith, z, n)

  -- ---- tables

  lane-space : 1 + (word 0 t.lanes + length k.cut) * 52 ≤ length t.lanes
  lane-space =
      let n = word 0 t.lanes + length k.cut in
      let e = leb-true n ((length t.lanes - 1) / 52) (and-snd (leb n 1024) (leb n ((length t.lanes - 1) / 52)) h.number.lanes_fit) in
      omega (arith, e, (counted-facts 1024 52 t.lanes (F.counts plan).lanes).0)

  boundary-space : 1 + (word 0 t.boundaries + pieces_ids xs) * 5 ≤ length t.boundaries
  boundary-space =
      let n = word 0 t.boundaries + ids in
      let e = leb-true n ((length t.boundaries - 1) / 5) (and-snd (leb n 4096) (leb n ((length t.boundaries - 1) / 5)) h.number.boundaries_fit) in
      omega (arith, e, F.pieces-many h.number, (counted-facts 4096 5 t.boundaries (F.counts plan).boundaries).0)

  -- the records of the cut map, with where their lines start in the work
  abbrev pub starts : Starts
  starts =
      record {
        lanes = map (lane_after k.pieces k.many k.centers k.next ps xs c) (rows 52 (λ w. (word 7 w, lane_of c w)) t.lanes) ++ second_starts k.pieces k.many k.centers k.next ps xs c 0 ps;
        boundaries = map (boundary_after k.pieces k.lines c k.reach xs) (rows 5 (λ w. (word 2 w, boundary_of c w)) t.boundaries) ++ new_starts k.pieces k.lines k.reach xs;
        stop_lines = rows 4 (λ w. (word 1 w, stop_line_of c w)) t.stop_lines;
        crosswalks = rows 7 (λ w. (word 3 w, (word 1 w, crosswalk_of c w))) t.crosswalks;
      }

  lanes-table : store_rows 52 lane_laid (λ r. r.1.id) t.lanes starts.lanes ≡ lanes_cut k.pieces k.many k.cut k.next k.centers k.seen t.lanes
  lanes-table =
      lanes_are_cut k.pieces k.many k.centers k.next ps xs c t.lanes k.seen plan-rows row-plans plans-few (omega (arith, lane-space, F.many-plans plan)) rows_few fresh-lanes
      ∙ ap (λ z. lanes_cut k.pieces k.many z k.next k.centers k.seen t.lanes) plan.ids

  boundaries-table : store_rows 5 boundary_laid (λ r. r.1.id) t.boundaries starts.boundaries ≡ boundaries_cut k.pieces k.many k.lines k.marks t.boundaries
  boundaries-table =
      boundaries_are_cut k.pieces k.lines c k.reach xs r.piece-words k.many r.piece-keys t.boundaries k.marks (omega (arith, boundary-space)) stored-rows.boundaries r.pieces_of fresh-boundaries

  -- the cut map, as document 01 has it
  abbrev pub done : Map
  done = (split_of tol counter t own k.point k.seen k.cut stations).result

  -- its rows, pointing into the work
  abbrev points_to : Tables
  points_to = pointed t starts done.roads done.junctions done.rules

  cut-points : cut_tables k (lines_of t) ≡ lines_of points_to
  unfolding cut_tables pointed
  cut-points =
      fields c (sym lanes-table) (sym boundaries-table) (sym (stops-stand c 512 t.stop_lines (F.counts plan).stop_lines stored-rows.stop_lines))
      (sym (crosswalks-stand c 128 t.crosswalks (F.counts plan).crosswalks stored-rows.left_edges stored-rows.right_edges))

  -- ---- the records are those of the cut map

  view-lanes : rows 52 (lane_of c) t.lanes ≡ (view t).lanes
  unfolding view
  view-lanes = refl

  view-boundaries : rows 5 (boundary_of c) t.boundaries ≡ (view t).boundaries
  unfolding view
  view-boundaries = refl

  lanes-done : map (cut_lane ps xs hs) (view t).lanes ++ second_halves xs hs k.next ps ≡ done.lanes
  unfolding split_of cut cut_map
  lanes-done =
      ap (λ hs. map (cut_lane ps xs hs) (view t).lanes ++ second_halves xs hs k.next ps) (sym (halves-numbered k.next ps))
      ∙ ap (λ n. map (cut_lane ps xs (halves n ps)) (view t).lanes ++ second_halves xs (halves n ps) n ps) next-is

  lanes-read : map (λ r. r.1) starts.lanes ≡ done.lanes
  lanes-read =
      let f = lane_after k.pieces k.many k.centers k.next ps xs c in
      let rs : List (ℕ × Lane) = rows 52 (λ w. (word 7 w, lane_of c w)) t.lanes in
      let n : k.next + 0 ≡ k.next = omega arith in
      let a : map (λ (r : ℕ × Lane). r.1) (map f rs) ≡ map (cut_lane ps xs hs) (view t).lanes =
      map-twice f (λ (r : ℕ × Lane). r.1) rs
      ∙ (sym (map-twice (λ (r : ℕ × Lane). r.1) (cut_lane ps xs hs) rs) ∙ ap (map (cut_lane ps xs hs)) (mapped-rows 52 (λ w. (word 7 w, lane_of c w)) (λ (r : ℕ × Lane). r.1) t.lanes ∙ view-lanes)) in
      let b : map (λ (r : ℕ × Lane). r.1) (second_starts k.pieces k.many k.centers k.next ps xs c 0 ps) ≡ second_halves xs hs k.next ps =
      starts-second k.pieces k.many k.centers k.next ps xs c 0 ps ∙ ap (λ n. second_halves xs hs n ps) n in
      map-append (λ (r : ℕ × Lane). r.1) (map f rs) (second_starts k.pieces k.many k.centers k.next ps xs c 0 ps) ∙ (both a b ∙ lanes-done)
    where
      both : {a b u v : List Lane} → a ≡ b → u ≡ v → a ++ u ≡ b ++ v
      both e f = rw (e, f)

  boundaries-read : map (λ r. r.1) starts.boundaries ≡ done.boundaries
  unfolding split_of cut cut_map
  boundaries-read =
      let f = boundary_after k.pieces k.lines c k.reach xs in
      let rs : List (ℕ × Boundary) = rows 5 (λ w. (word 2 w, boundary_of c w)) t.boundaries in
      let a : map (λ (r : ℕ × Boundary). r.1) (map f rs) ≡ map (cut_boundary xs) (view t).boundaries =
      map-twice f (λ (r : ℕ × Boundary). r.1) rs
      ∙ (map_same (λ (r : ℕ × Boundary). (f r).1) (λ (r : ℕ × Boundary). cut_boundary xs r.1) rs (after-cut k.pieces k.lines c k.reach xs)
      ∙ (sym (map-twice (λ (r : ℕ × Boundary). r.1) (cut_boundary xs) rs) ∙ ap (map (cut_boundary xs)) (mapped-rows 5 (λ w. (word 2 w, boundary_of c w)) (λ (r : ℕ × Boundary). r.1) t.boundaries ∙ view-boundaries))) in
      map-append (λ (r : ℕ × Boundary). r.1) (map f rs) (new_starts k.pieces k.lines k.reach xs) ∙ both a (starts-new k.pieces k.lines k.reach xs)
    where
      both : {a b u v : List Boundary} → a ≡ b → u ≡ v → a ++ u ≡ b ++ v
      both e f = rw (e, f)

  -- ---- room

  lim : Limits done
  unfolding fits_room
  lim =
      let x = within_limits done in
      let y = leb (length done.lanes) (room_of t).lanes in
      let z = leb (length done.boundaries) (room_of t).boundaries in
      let u = leb (point_count done) (room_of t).points in
      limits done (and-fst x y (and-fst (x && y) z (and-fst (x && y && z) u room)))

  boundary-points : points_of (map (λ b. b.geometry) done.boundaries) ≡ boundary_points k.pieces k.lines 0 k.marks (rows 5 (λ w. w) t.boundaries)
  unfolding split_of cut
  boundary-points =
      points-cut c k.pieces k.lines (view t) ps xs (halves (next_id counter + pieces_ids xs) ps) (next_id counter + pieces_ids xs) t.boundaries k.marks (sym view-boundaries)
      (sorted-ascends 4096 5 t.boundaries (F.known plan).boundaries) r.boundaries-chosen.marks r.pieces_of (pieces-told k.pieces k.lines 0 k.reach xs r.piece-words) stored-rows.boundaries

  lane-points : points_of (each (λ l. optional_line l.centerline) done.lanes) ≡ lane_points k.centers 0 k.seen (rows 52 (λ w. w) t.lanes)
  unfolding split_of cut
  lane-points =
      centers-cut c k.centers (view t) ps xs (next_id counter + pieces_ids xs) t.lanes k.seen (sym view-lanes) (sorted-ascends 1024 52 t.lanes (F.known plan).drawable.lanes_are_sorted) r.lanes-chosen.marks
      (sym (F.of_lanes plan)) r.plans-told (F.known plan).drawable.centers_are_stored

  all-points : point_count done
      ≡ boundary_points k.pieces k.lines 0 k.marks (rows 5 (λ w. w) t.boundaries) + lane_points k.centers 0 k.seen (rows 52 (λ w. w) t.lanes) + column_points 4 2 t.stop_lines
      + (column_points 7 2 t.crosswalks + column_points 7 4 t.crosswalks)
  unfolding split_of cut view
  all-points = points-all done c t.stop_lines t.crosswalks _ _ boundary-points lane-points refl refl stored-rows.stop_lines stored-rows.left_edges stored-rows.right_edges

  -- the pieces have at most as many points as the map may have
  pub points-few : drawn_points k (lines_of t) ≤ 65536
  points-few =
      let bs : List (List ℕ) = picked k.marks (rows 5 (λ w. w) t.boundaries) in
      let e : length bs ≡ length xs = sym (length-map bs (boundary_of c)) ∙ (ap length r.pieces_of ∙ length-map xs (λ (x : Piece). x.of)) in
      let f : length (marked_rows k.seen t.lanes) ≡ length ps = plan.many ∙ sym (F.many-plans plan) in
      let a = piece-points k.pieces k.lines 0 k.marks (rows 5 (λ w. w) t.boundaries) xs (pieces-told k.pieces k.lines 0 k.reach xs r.piece-words) e in
      let b = center_points k.centers 0 k.seen (rows 52 (λ w. w) t.lanes) ps r.plans-told f in
      let u : length (each (λ l. l) (piece_lines xs)) ≡ length (drawn_pieces k.point (boundary_lines_of k t)) = ap length r.piece-lines in
      let v : length (each (λ l. l) (L.center_lines_of ps)) ≡ length (drawn_pieces k.point (center_lines_of k t)) = ap length r.center_lines in
      let n = leb-true (point_count done) 65536 lim.total in
      omega (arith, a, b, u, v, n, all-points)

  -- and have room in the array of work that is taken
  pub drawn-room : drawn_points k (lines_of t) * 3 ≤ length (blank (work_floats (length k.cut) (drawn_points k (lines_of t))))
  drawn-room = rw (length-replicate (work_floats (length k.cut) (drawn_points k (lines_of t))) (of_bits binary64 0)) (go (drawn_points k (lines_of t)) points-few (ltb 64 (length k.cut)) (ltb 2048 (drawn_points k (lines_of t))) refl)
    where
      go : (n : ℕ) → n ≤ 65536 → (a b : Bool) → ltb 2048 n ≡ b → n * 3 ≤ cond a 196608 (cond b 196608 6144)
      go n l true b e = omega arith
      go n l false true e = omega arith
      go n l false false e = omega (arith, ltb-false 2048 n e)

  lines-counted : counted_lines t ≡ true
  unfolding counted_lines
  lines-counted = rw ((F.counts plan).lanes, (F.counts plan).boundaries, (F.counts plan).stop_lines, (F.counts plan).crosswalks)

  stop-count : length done.stop_lines ≡ word 0 t.stop_lines
  unfolding split_of cut view
  stop-count = rows-count 4 (stop_line_of c) t.stop_lines

  walk-count : length done.crosswalks ≡ word 0 t.crosswalks
  unfolding split_of cut view
  walk-count = rows-count 7 (crosswalk_of c) t.crosswalks

  has_room : HasRoom t done
  has_room =
      record {
        counts = lines-counted;
        lanes = leb-true (length done.lanes) 1024 lim.lanes;
        boundaries = leb-true (length done.boundaries) 4096 lim.boundaries;
        stop_lines = leb-true (length done.stop_lines) 512 lim.stop_lines;
        crosswalks = leb-true (length done.crosswalks) 128 lim.crosswalks;
        lane_rows = omega (arith, (roomy t done room).lanes, length-drop 1 t.lanes, (counted-facts 1024 52 t.lanes (F.counts plan).lanes).0);
        boundary_rows = omega (arith, (roomy t done room).boundaries, length-drop 1 t.boundaries, (counted-facts 4096 5 t.boundaries (F.counts plan).boundaries).0);
        stop_rows = omega (arith, stop-count, (counted-facts 512 4 t.stop_lines (F.counts plan).stop_lines).1.1);
        crosswalk_rows = omega (arith, walk-count, (counted-facts 128 7 t.crosswalks (F.counts plan).crosswalks).1.1);
        links = lim.links;
        points = omega (arith, (roomy t done room).points);
      }

  -- ---- where the lines lie

  reached : all (within k.reach) (spans t) ≡ true
  unfolding spans
  reached = subst (λ n. all (within n) (spans t) ≡ true) (sym h.reach) (within-reach (spans t))

  reached-rows : Rowwise (within k.reach) t
  reached-rows = spans_rowwise (within k.reach) t reached

  few : k.reach ≤ length c / 3
  few = omega (arith, r.reach-stored)

  module _ (work : List Float) (space : drawn_points k (lines_of t) * 3 ≤ length work) where
    -- the coordinates, and the pieces behind them
    abbrev pub source : List Float
    source = drawn k.reach c work (drawn_pieces k.point (boundary_lines_of k t)) (drawn_pieces k.point (center_lines_of k t)) r.reach-stored space

    source_is : sourced k.reach t.coordinates (drawn_lines k (lines_of t) work) ≡ source
    unfolding drawn_lines
    source_is = refl

    begins : take (k.reach * 3) source ≡ take (k.reach * 3) c
    begins = drawn-begins k.reach c work (drawn_pieces k.point (boundary_lines_of k t)) (drawn_pieces k.point (center_lines_of k t)) r.reach-stored space

    piece-runs : Runs source k.reach (piece_lines xs)
    piece-runs = first_runs k.reach c work (drawn_pieces k.point (boundary_lines_of k t)) (drawn_pieces k.point (center_lines_of k t)) r.reach-stored space (piece_lines xs) r.piece-lines

    center_runs : Runs source (k.reach + length (drawn_pieces k.point (boundary_lines_of k t))) (L.center_lines_of ps)
    center_runs = second_runs k.reach c work (drawn_pieces k.point (boundary_lines_of k t)) (drawn_pieces k.point (center_lines_of k t)) r.reach-stored space (L.center_lines_of ps) r.center_lines

    -- the lines of the cut map lie where its rows point
    lies : Lies source starts done
    lies =
        record {
          lanes = lanes-read;
          boundaries = boundaries-read;
          stop_lines = unfold split_of cut view in mapped-rows 4 (λ w. (word 1 w, stop_line_of c w)) (λ (r : ℕ × StopLine). r.1) t.stop_lines;
          crosswalks = unfold split_of cut view in mapped-rows 7 (λ w. (word 3 w, (word 1 w, crosswalk_of c w))) (λ (r : ℕ × (ℕ × Crosswalk)). r.1.1) t.crosswalks;
          boundary_lines = L.boundaries-lie source c k.reach few begins k.pieces k.lines k.reach xs piece-runs t.boundaries reached-rows.boundaries;
          centerlines = L.lanes-lie source k.centers k.pieces k.many k.next ps xs c k.reach few begins (k.reach + length (drawn_pieces k.point (boundary_lines_of k t))) center_runs r.starts-at t.lanes row-plans
              (λ j l. row-passes 52 (λ w. all (within k.reach) (center_span w)) t.lanes reached-rows.centerlines j l);
          stops = stops-lie c source k.reach few begins t.stop_lines reached-rows.stop_lines;
          left_edges = left-edges-lie c source k.reach few begins t.crosswalks reached-rows.left_edges;
          right_edges = right-edges-lie c source k.reach few begins t.crosswalks reached-rows.right_edges;
        }

    gatherable : Gatherable (sourced k.reach t.coordinates (drawn_lines k (lines_of t) work)) (cut_tables k (lines_of t))
    gatherable =
        subst (λ z. Gatherable z (cut_tables k (lines_of t))) (sym source_is)
        (subst (Gatherable source) (sym cut-points) (lines-gatherable source points_to (gatherable-pointed source t starts done lies has_room)))

    all_laid : relaid k work (lines_of t) ≡ lines_of (laid t done)
    unfolding relaid
    all_laid =
        ap (λ z. gathered z (cut_tables k (lines_of t))) source_is
        ∙ (ap (gathered source) cut-points ∙ (lines-gathered source points_to ∙ ap lines_of (gathered-laid source t starts done lies has_room)))

  -- THE LAW: the tables with lines that a split leaves are those of the cut map
  pub relaid-laid : (work : List Float) → drawn_points k (lines_of t) * 3 ≤ length work → length work ≤ 196608 → relaid k work (lines_of t) ≡ lines_of (laid t (split_of tol counter t own k.point k.seen k.cut stations).result)
  relaid-laid work space near = all_laid work space

  -- the same in the array of work that is taken
  pub relay_laid : relaid k (blank (work_floats (length k.cut) (drawn_points k (lines_of t)))) (lines_of t) ≡ lines_of (laid t (split_of tol counter t own k.point k.seen k.cut stations).result)
  relay_laid = all_laid (blank (work_floats (length k.cut) (drawn_points k (lines_of t)))) drawn-room

  -- ---- what the code asks

  boundaries-asked : BoundariesCut k.pieces k.many k.lines k.marks t.boundaries
  boundaries-asked =
      let bs : List (List ℕ) = picked k.marks (rows 5 (λ w. w) t.boundaries) in
      let e : length bs ≡ length xs = sym (length-map bs (boundary_of c)) ∙ (ap length r.pieces_of ∙ length-map xs (λ (x : Piece). x.of)) in
      let n = rows-many k.pieces k.lines 0 bs xs (pieces-told k.pieces k.lines 0 k.reach xs r.piece-words) e in
      record {
        counts = (F.counts plan).boundaries;
        marked = r.boundaries-chosen.marks;
        many = e ∙ sym r.many_is;
        pieces_room = r.pieces_room;
        pieces_ascend = r.keys-up;
        lines_room = r.lines_room;
        lines_near = r.lines_near;
        room = rw n boundary-space;
      }

  -- every predecessor of a lane is below the first second half
  before-low : all (λ b. b) (rows 52 (λ w. all (λ i. leb (1 + i) k.next) (ids_at 18 w)) t.lanes) ≡ true
  unfolding view lane_of
  before-low =
      rows-weaker 52 (λ w. all (λ i. ltb i (next_id counter)) (ids_at 18 w)) (λ w. all (λ i. leb (1 + i) k.next) (ids_at 18 w))
      (λ w. all-weaken (λ i. ltb i (next_id counter)) (λ i. leb (1 + i) k.next) (ids_at 18 w) (λ i e. le-leb (1 + i) k.next (omega (arith, ltb-true i (next_id counter) e, next-is)))) t.lanes
      (sym (every_row 52 (lane_of c) (λ l. all (λ i. ltb i (next_id counter)) l.predecessors) t.lanes) ∙ names-before (λ i. ltb i (next_id counter)) (view t) (F.low h.number))

  lanes-asked : LanesCut k.pieces k.many k.cut k.next k.centers k.seen t.lanes
  lanes-asked =
      record {
        halved =
            record {
              cuts =
                  record {
                    ascend = F.cut_up plan;
                    below = all-weaken (λ i. ltb i (next_id counter + ids)) (λ i. leb (1 + i) k.next) k.cut (λ i e. le-leb (1 + i) k.next (omega (arith, ltb-true i (next_id counter + ids) e, h.next))) (F.new-below h.number);
                    ids = omega (arith, F.ids-small h.number, h.next);
                  };
              pieces_room = r.pieces_room;
              pieces_ascend = r.keys-up;
              centers_room = r.centers_room;
              centers_near = r.centers_near;
            };
        counts = (F.counts plan).lanes;
        marked = r.lanes-chosen.marks;
        many = plan.many;
        rows = λ j l. record {
          words = row-long 52 t.lanes j (counted-facts 1024 52 t.lanes (F.counts plan).lanes).1.1 l;
          formed = row-formed j l;
          ascend = row_up j l;
          below = row-passes 52 (λ w. all (λ i. leb (1 + i) k.next) (ids_at 18 w)) t.lanes before-low j l;
        };
        room = lane-space;
      }

  -- the code that leaves them may be called
  pub relayable : Relayable k (lines_of t)
  relayable =
      record {
        near = r.reach_near;
        stored = r.reach-stored;
        points = points-few;
        boundary_lines = r.boundaries-chosen;
        lane_lines = r.lanes-chosen;
        boundaries_are_cut = boundaries-asked;
        lanes_are_cut = lanes-asked;
        gatherable = λ work m. gatherable work m.room;
      }
