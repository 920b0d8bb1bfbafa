-- The lines of a merged map lie where its rows point, in the coordinates and the drawn lines behind them. Assumes nothing.
use Rattle.std.specs.Prelude.{Option, None, Some}
use mathlib.Core.Path.{◌≡◌, refl, sym, ◌∙◌, subst}
use Prim.Native.Nat.{ℕ, ◌+◌, ◌*◌, ◌/◌, ◌≤◌}
use native.Mathlib.Omega.{arith}
use mathlib.Core.Bool.{Bool, true, false, not, cond}
use mathlib.Core.List.{List, [], ◌∷◌, ◌++◌, map}
use lib.Dec.{eqb}
use lib.Ieee.{Float}
use lib.ListN.{length, take}
use Rattle.lists.specs.Every.{all}
use Rattle.lists.specs.Select.{keep, has}
use Rattle.lists.proofs.Every.{all_head}
use Rattle.entities.specs.declared.BoundaryRef.{BoundaryRef}
use Rattle.entities.specs.Records.{Line, Lane, Boundary, StopLine, Crosswalk, Map}
use Rattle.rules.specs.Names.{Tolerance}
use Rattle.rules.specs.Sound.{optional_line}
use Rattle.rules.specs.Merge.{SidePlan, kept, in_place, fresh, plan_ids, plan_joins, plan_line, redrawn, joined_center, links_after, merged_lane}
use Rattle.tables.specs.View.{Tables, word, mark, rows, view, line_at, lane_of, boundary_of, stop_line_of, crosswalk_of}
use Rattle.tables.specs.Formed.{span_at, center_span}
use Rattle.apart.specs.Marks.{within}
use Rattle.laws.proofs.MergePlans.{Planned, new-one}
use Rattle.layout.specs.Layout.{sourced}
use Rattle.layout.specs.Pointed.{Starts, EachOf, LineIn, Lies}
use Rattle.layout.proofs.Lines.{each-of-append, each-of-map, each-of-keep}
use Rattle.layout.proofs.Standing.{mapped-rows, each-of-rows, line-lies, stops-lie, left-edges-lie, right-edges-lie}
use Rattle.lookup.specs.Lookup.{points_or}
use Rattle.merge_plan.specs.declared.Plan.{Plan}
use Rattle.merge_redraw.specs.Relaying.{right_at, center_at, drawn_lines, work_floats}
use Rattle.merge_laid.proofs.Rows.{plan_of, lane_after}
use Rattle.merge_laid.proofs.Lanes.{lane_starts, lanes-read}
use Rattle.merge_laid.proofs.Boundaries.{boundary_after, new_start, boundary_starts, boundaries-read}
use Rattle.merge_laid.proofs.Lines.{lined, lined-begins, lined-left, lined-right, lined_center, left_few, right_few, center_few, right-place, center_place, work-is}
use Rattle.merge_laid.proofs.Merging.{Merging}
use Rattle.merge_laid.proofs.Merging as M

-- ---- one line

-- a side's new boundary
new-lies : (work : List Float) (m : Map) (p : SidePlan) (id : ℕ) (r : BoundaryRef) (start : ℕ) → Planned m r.boundary p → LineIn work start (plan_line p r)
    → EachOf (λ (q : ℕ × Boundary). LineIn work q.0 q.1.geometry) (new_start m p id r start)
unfolding EachOf
new-lies work m kept id r start f h = refl
new-lies work m (in_place l) id r start f h = refl
new-lies work m (fresh l) id r start f h =
    subst (λ bs. EachOf (λ (q : ℕ × Boundary). LineIn work q.0 q.1.geometry) (map (λ b. (start, b)) bs)) (sym (new-one m id r l f.1.0 f.1.1)) (h, refl)

module _ (c work : List Float) (reach : ℕ) (few : reach ≤ length c / 3) (begins : take (reach * 3) work ≡ take (reach * 3) c) where
  -- a boundary's line: joined, or as it stood
  boundary-lies : (left right : ℕ) (a : Lane) (pl pr : SidePlan) → LineIn work left (plan_line pl a.left) → LineIn work right (plan_line pr a.right) → (w : List ℕ) → within reach (span_at 2 w) ≡ true
      → LineIn work (boundary_after left right a pl pr (word 2 w, boundary_of c w)).0 (boundary_after left right a pl pr (word 2 w, boundary_of c w)).1.geometry
  unfolding boundary_of
  boundary-lies left right a pl pr hl hr w h = go (plan_joins pr a.right (word 0 w)) (plan_joins pl a.left (word 0 w))
    where
      go : (x y : Bool)
          → LineIn work (cond x right (cond y left (word 2 w))) (cond x (redrawn (plan_line pr a.right) (boundary_of c w)) (cond y (redrawn (plan_line pl a.left) (boundary_of c w)) (boundary_of c w))).geometry
      go true y = hr
      go false true = hl
      go false false = line-lies c work reach few begins 2 w h

  -- an explicit centreline: joined, or as it stood
  center_lies : (tol : Tolerance) (next : ℕ) (a b : Lane) (pl pr : SidePlan) → LineIn work (center_at (plan_of tol a b pl pr) reach) (points_or (joined_center tol.join a.centerline b.centerline))
      → (w : List ℕ) → all (within reach) (center_span w) ≡ true
      → EachOf (LineIn work (lane_after tol next reach a b pl pr (word 7 w, lane_of c w)).0) (optional_line (lane_after tol next reach a b pl pr (word 7 w, lane_of c w)).1.centerline)
  unfolding lane_of EachOf
  center_lies tol next a b pl pr hc w h = go (eqb (word 0 w) a.id)
    where
      at : ℕ
      at = center_at (plan_of tol a b pl pr) reach

      joined : (o : Option Line) → LineIn work at (points_or o) → EachOf (LineIn work at) (optional_line o)
      joined None h = refl
      joined (Some l) h = (h, refl)

      own : (x : Bool) → all (within reach) (cond x (span_at 7 w ∷ []) []) ≡ true → EachOf (LineIn work (word 7 w)) (optional_line (cond x (Some (line_at c 7 w)) None))
      own true h = (line-lies c work reach few begins 7 w (all_head (within reach) (span_at 7 w) [] h), refl)
      own false h = refl

      go : (z : Bool)
          → EachOf (LineIn work (cond z at (word 7 w))) (optional_line (cond z (merged_lane tol.join pl pr next a b (links_after a.id b (lane_of c w))) (links_after a.id b (lane_of c w))).centerline)
      go true = joined (joined_center tol.join a.centerline b.centerline) hc
      go false = own (mark 6 w) h

-- ---- the whole map

module _ {tol : Tolerance} {counter : ℕ} {t : Tables} {one two i j : ℕ} {p : Plan} {reach : ℕ} {gone : List ℕ} (k : Merging tol counter t one two i j p reach gone) where
  abbrev c : List Float
  c = t.coordinates

  abbrev pub plan : Plan
  plan = plan_of tol (M.a k) (M.b k) (M.pl k) (M.pr k)

  -- the records of the merged map, with where their lines start in the work
  abbrev pub starts : Starts
  starts =
      record {
        lanes = lane_starts tol (M.next k) reach c (M.a k) (M.b k) (M.pl k) (M.pr k) t.lanes;
        boundaries = boundary_starts c (view t) t.boundaries (M.a k) (M.pl k) (M.pr k) (M.next k) reach (right_at plan reach) gone;
        stop_lines = rows 4 (λ w. (word 1 w, stop_line_of c w)) t.stop_lines;
        crosswalks = rows 7 (λ w. (word 3 w, (word 1 w, crosswalk_of c w))) t.crosswalks;
      }

  abbrev left_line : Line
  left_line = plan_line (M.pl k) (M.a k).left

  abbrev right_line : Line
  right_line = plan_line (M.pr k) (M.a k).right

  abbrev center_line : Line
  center_line = points_or (joined_center tol.join (M.a k).centerline (M.b k).centerline)

  pub copied : reach * 3 ≤ length c
  copied = omega (arith, M.near-all k)

  pub few-left : length left_line ≤ 512
  few-left = left_few tol c t.lanes t.boundaries (view t) (M.view-boundaries k) i j (M.pl k) (M.pr k) k.plans.left-plan k.plans.right-plan (M.known k).boundary-short

  pub few-right : length right_line ≤ 512
  few-right = right_few tol c t.lanes t.boundaries (view t) (M.view-boundaries k) i j (M.pl k) (M.pr k) k.plans.left-plan k.plans.right-plan (M.known k).boundary-short

  few_center : length center_line ≤ 512
  few_center = center_few tol.join c t.lanes i j (M.known k).drawable.centers_are_stored (M.here-first k) (M.here-second k)

  read-boundaries : map (λ r. r.1) starts.boundaries ≡ (M.done k).boundaries
  unfolding view
  read-boundaries =
      boundaries-read c (view t) t.boundaries (M.view-boundaries k) (M.counts k).boundaries (M.stored-rows k).boundaries (M.a k) (M.pl k) (M.pr k) (M.next k) reach (right_at plan reach) gone (M.left-planned k)
      (M.right-planned k) (M.new-fresh k) (M.boundary-room k)
      ∙ M.boundaries-done k

  module _ (work : List Float) (space : length work ≡ work_floats) where
    abbrev pub drawn : List Float
    drawn = sourced reach c (drawn_lines tol.join c t.lanes t.boundaries i j plan work)

    room : (length left_line + (length right_line + length center_line)) * 3 ≤ length work
    room = omega (arith, few-left, few-right, few_center)

    drawn-is : drawn ≡ lined c work reach left_line right_line center_line copied room
    drawn-is = work-is tol c t.lanes t.boundaries (view t) (M.view-boundaries k) i j (M.pl k) (M.pr k) k.plans.left-plan k.plans.right-plan reach work copied room

    begins : take (reach * 3) drawn ≡ take (reach * 3) c
    begins = rw drawn-is (lined-begins c work reach left_line right_line center_line copied room)

    left-lies : LineIn drawn reach left_line
    left-lies = rw drawn-is (lined-left c work reach left_line right_line center_line copied room)

    right-lies : LineIn drawn (right_at plan reach) right_line
    right-lies =
        subst (λ n. LineIn drawn n right_line) (sym (right-place tol c t.lanes t.boundaries (view t) (M.view-boundaries k) i j (M.pl k) (M.pr k) k.plans.left-plan k.plans.right-plan reach))
        (subst (λ w. LineIn w (reach + length left_line) right_line) (sym drawn-is) (lined-right c work reach left_line right_line center_line copied room))

    joint-lies : LineIn drawn (center_at plan reach) center_line
    joint-lies =
        subst (λ n. LineIn drawn n center_line) (sym (center_place tol c t.lanes t.boundaries (view t) (M.view-boundaries k) i j (M.pl k) (M.pr k) k.plans.left-plan k.plans.right-plan reach))
        (subst (λ w. LineIn w (reach + length left_line + length right_line) center_line) (sym drawn-is) (lined_center c work reach left_line right_line center_line copied room))

    few : reach ≤ length c / 3
    few = omega (arith, M.near-all k)

    lines-of-boundaries : EachOf (λ r. LineIn drawn r.0 r.1.geometry) starts.boundaries
    lines-of-boundaries =
        let F : ℕ × Boundary → Type 0 = λ r. LineIn drawn r.0 r.1.geometry in
        let f = boundary_after reach (right_at plan reach) (M.a k) (M.pl k) (M.pr k) in
        let rs : List (ℕ × Boundary) = rows 5 (λ w. (word 2 w, boundary_of c w)) t.boundaries in
        let q : ℕ × Boundary → Bool = λ r. not (has r.1.id gone) in
        let nl = new_start (view t) (M.pl k) (M.next k) (M.a k).left reach in
        let nr = new_start (view t) (M.pr k) (M.next k + plan_ids (M.pl k)) (M.a k).right (right_at plan reach) in
        each-of-append F (map f (keep q rs)) (nl ++ nr)
        (each-of-map F f (keep q rs) (each-of-keep (λ r. F (f r)) q rs (each-of-rows (λ r. F (f r)) 5 (λ w. (word 2 w, boundary_of c w)) (λ w. within reach (span_at 2 w)) t.boundaries
        (boundary-lies c drawn reach few begins reach (right_at plan reach) (M.a k) (M.pl k) (M.pr k) left-lies right-lies) (M.reached-rows k).boundaries)))
        (each-of-append F nl nr (new-lies drawn (view t) (M.pl k) (M.next k) (M.a k).left reach (M.left-planned k) left-lies)
        (new-lies drawn (view t) (M.pr k) (M.next k + plan_ids (M.pl k)) (M.a k).right (right_at plan reach) (M.right-planned k) right-lies))

    lines-of-lanes : EachOf (λ r. EachOf (LineIn drawn r.0) (optional_line r.1.centerline)) starts.lanes
    lines-of-lanes =
        let F : ℕ × Lane → Type 0 = λ r. EachOf (LineIn drawn r.0) (optional_line r.1.centerline) in
        let f = lane_after tol (M.next k) reach (M.a k) (M.b k) (M.pl k) (M.pr k) in
        let rs : List (ℕ × Lane) = rows 52 (λ w. (word 7 w, lane_of c w)) t.lanes in
        let q : ℕ × Lane → Bool = λ r. not (has r.1.id ((M.b k).id ∷ [])) in
        each-of-map F f (keep q rs) (each-of-keep (λ r. F (f r)) q rs (each-of-rows (λ r. F (f r)) 52 (λ w. (word 7 w, lane_of c w)) (λ w. all (within reach) (center_span w)) t.lanes
        (center_lies c drawn reach few begins tol (M.next k) (M.a k) (M.b k) (M.pl k) (M.pr k) joint-lies) (M.reached-rows k).centerlines))

    -- THE LAW of the lines
    pub lies : Lies drawn starts (M.done k)
    lies =
        record {
          lanes = unfold view in lanes-read tol (M.next k) reach c (M.a k) (M.b k) (M.pl k) (M.pr k) (M.few-after k) t.lanes (M.counts k).lanes (M.fine-rows k);
          boundaries = read-boundaries;
          stop_lines = unfold view in mapped-rows 4 (λ w. (word 1 w, stop_line_of c w)) (λ (r : ℕ × StopLine). r.1) t.stop_lines;
          crosswalks = unfold view in mapped-rows 7 (λ w. (word 3 w, (word 1 w, crosswalk_of c w))) (λ (r : ℕ × (ℕ × Crosswalk)). r.1.1) t.crosswalks;
          boundary_lines = lines-of-boundaries;
          centerlines = lines-of-lanes;
          stops = stops-lie c drawn reach few begins t.stop_lines (M.reached-rows k).stop_lines;
          left_edges = left-edges-lie c drawn reach few begins t.crosswalks (M.reached-rows k).left_edges;
          right_edges = right-edges-lie c drawn reach few begins t.crosswalks (M.reached-rows k).right_edges;
        }
