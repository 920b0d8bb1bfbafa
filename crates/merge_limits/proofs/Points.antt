-- The points and the boundaries that a merge's code counts are those of the merged map. Assumes nothing.
use Rattle.std.specs.Prelude.{Option, None, Some}
use mathlib.Core.Path.{◌≡◌, refl, sym, ap, ◌∙◌}
use Prim.Native.Nat.{ℕ, zero, suc, ◌+◌}
use native.Mathlib.Omega.{arith}
use mathlib.Core.Bool.{Bool, true, false, not, cond}
use mathlib.Core.List.{List, [], ◌∷◌, ◌++◌, map, map-append}
use lib.Dec.{eqb}
use lib.Ieee.{Float}
use lib.ListN.{length, take, drop, length-map, length-append}
use Rattle.lists.specs.Every.{all}
use Rattle.lists.specs.Rows.{reads}
use Rattle.lists.specs.Select.{keep, each, has}
use Rattle.lists.proofs.Every.{all_head, all_tail}
use Rattle.lists.proofs.Select.{map-twice}
use Rattle.entities.specs.declared.BoundaryRef.{BoundaryRef}
use Rattle.entities.specs.Records.{Line, Lane, Boundary, StopLine, Crosswalk, Map}
use Rattle.rules.specs.Names.{Tolerance}
use Rattle.rules.specs.Sound as S
use Rattle.rules.specs.Sound.{next_id, optional_line, point_count}
use Rattle.rules.specs.Lane.{unused}
use Rattle.rules.specs.Merge.{SidePlan, kept, in_place, fresh, plan_ids, plan_joins, plan_line, redrawn, joined_boundary, new_boundary, joined_center, links_after, merged_lane, after_merge, merged}
use Rattle.tables.specs.View.{Tables, word, mark, line_at, rows, view, lane_of, boundary_of, stop_line_of, crosswalk_of}
use Rattle.tables.specs.Formed.{span_at, center_span, stored}
use Rattle.soundness.proofs.Whole.{rows-count}
use Rattle.store.specs.Laid.{points_of}
use Rattle.store.proofs.LaidRows.{points-append}
use Rattle.laws.proofs.Merge.{new_ones}
use Rattle.laws.proofs.MergePlans.{Planned, new-one}
use Rattle.layout.proofs.Standing.{mapped-rows, line-long}
use Rattle.lookup.specs.Lookup.{count_of}
use Rattle.merge_plan.specs.Deciding.{lane_in, counted}
use Rattle.merge_plan.specs.Sides.{center_points}
use Rattle.merge_plan.specs.declared.Plan.{Plan}
use Rattle.merge_laid.proofs.Rows.{side-ids}
use Rattle.merge_laid.proofs.Planning.{Planning}
use Rattle.merge_laid.proofs.Planning as P
use Rattle.merge_gone.specs.declared.Sides.{Sides}
use Rattle.merge_gone.specs.Leaving.{joins, sides_of, size_after, row_points, boundary_points, new_points, center_after, lane_points, points_after, boundaries_after}
use Rattle.room.specs.Room.{column_points}
use Rattle.merge_limits.proofs.Asked.{side-many, told_plan}

-- ---- general

-- what is read from rows that all pass a test
module _ {B : Type 0} (s : ℕ) (good : List ℕ → Bool) (f g : List ℕ → B) (same : (w : List ℕ) → good w ≡ true → f w ≡ g w) where
  reads_on : (n : ℕ) (w : List ℕ) → all (λ b. b) (reads s good n w) ≡ true → reads s f n w ≡ reads s g n w
  unfolding reads
  reads_on zero w h = refl
  reads_on (suc n) w h =
      rw (same (take s w) (all_head (λ b. b) (good (take s w)) (reads s good n (drop s w)) h), reads_on n (drop s w) (all_tail (λ b. b) (good (take s w)) (reads s good n (drop s w)) h))

  rows_on : (t : List ℕ) → all (λ b. b) (rows s good t) ≡ true → rows s f t ≡ rows s g t
  unfolding rows
  rows_on t h = reads_on (word 0 t) (drop 1 t) h

-- a sum over those that pass
total-keep : {A : Type 0} (f : A → ℕ) (q : A → Bool) (xs : List A) → S.total (map f (keep q xs)) ≡ S.total (map (λ x. cond (q x) (f x) 0) xs)
unfolding keep S.total
total-keep f q [] = refl
total-keep f q (x ∷ xs) = go (q x) (total-keep f q xs)
  where
    go : (b : Bool) → S.total (map f (keep q xs)) ≡ S.total (map (λ x. cond (q x) (f x) 0) xs)
        → S.total (map f (cond b (x ∷ keep q xs) (keep q xs))) ≡ cond b (f x) 0 + S.total (map (λ x. cond (q x) (f x) 0) xs)
    go true e = ap (λ n. f x + n) e
    go false e = omega arith

-- the points of each element's lines
points-each : {A : Type 0} (g : A → List Line) (xs : List A) → points_of (each g xs) ≡ S.total (map (λ x. points_of (g x)) xs)
unfolding each S.total
points-each g [] = refl
points-each g (x ∷ xs) = points-append (g x) (each g xs) ∙ ap (λ n. points_of (g x) + n) (points-each g xs)

-- those that pass and those that do not
keep-parts : {A : Type 0} (p : A → Bool) (xs : List A) → length (keep p xs) + length (keep (λ x. not (p x)) xs) ≡ length xs
unfolding keep
keep-parts p [] = refl
keep-parts p (x ∷ xs) = go (p x) (keep-parts p xs)
  where
    go : (b : Bool) → length (keep p xs) + length (keep (λ x. not (p x)) xs) ≡ length xs
        → length (cond b (x ∷ keep p xs) (keep p xs)) + length (cond (not b) (x ∷ keep (λ x. not (p x)) xs) (keep (λ x. not (p x)) xs)) ≡ suc (length xs)
    go true e = omega arith
    go false e = omega arith

-- ---- columns that stand

column-is : {R : Type 0} (s k : ℕ) (c : List Float) (dec : List ℕ → R) (line : R → Line) → ((w : List ℕ) → line (dec w) ≡ line_at c k w) → (t : List ℕ)
    → all (λ b. b) (rows s (λ w. stored c (span_at k w)) t) ≡ true → points_of (map line (rows s dec t)) ≡ column_points s (suc k) t
unfolding column_points
column-is s k c dec line own t h =
    ap S.total (map-twice line length (rows s dec t)
    ∙ (mapped-rows s dec (λ x. length (line x)) t
    ∙ rows_on s (λ w. stored c (span_at k w)) (λ w. length (line (dec w))) (word (suc k)) (λ w e. ap length (own w) ∙ line-long c (span_at k w) e) t h))

-- ---- boundaries

pub joins-is : (q : SidePlan) (r : BoundaryRef) (n : ℕ) → joins (counted q) r.boundary n ≡ plan_joins q r n
joins-is kept r n = refl
joins-is (in_place l) r n = refl
joins-is (fresh l) r n = refl

-- a side's new boundary
new-points : (m : Map) (q : SidePlan) (id : ℕ) (r : BoundaryRef) → Planned m r.boundary q → points_of (map (λ x. x.geometry) (new_boundary m q id r)) ≡ new_points (counted q)
unfolding S.total
new-points m kept id r h = refl
new-points m (in_place l) id r h = refl
new-points m (fresh l) id r h = ap (λ (bs : List Boundary). points_of (map (λ x. x.geometry) bs)) (new-one m id r l h.1.0 h.1.1) ∙ omega arith

module _ {tol : Tolerance} {counter : ℕ} {t : Tables} {one two i j : ℕ} {p : Plan} (k : Planning tol counter t one two i j p) where
  abbrev c : List Float
  c = t.coordinates

  abbrev a : Lane
  a = lane_in t.coordinates t.lanes i

  abbrev b : Lane
  b = lane_in t.coordinates t.lanes j

  abbrev pl : SidePlan
  pl = k.plans.left

  abbrev pr : SidePlan
  pr = k.plans.right

  abbrev next : ℕ
  next = next_id counter

  abbrev sides : Sides
  sides = sides_of t.lanes i (told_plan k)

  -- a boundary's row
  size_is : (w : List ℕ) → stored c (span_at 2 w) ≡ true → length (joined_boundary pl pr a (boundary_of c w)).geometry ≡ size_after sides w
  unfolding boundary_of lane_of
  size_is w h = go (plan_joins pr a.right (word 0 w)) (plan_joins pl a.left (word 0 w)) (joins-is pr a.right (word 0 w)) (joins-is pl a.left (word 0 w))
    where
      go : (x y : Bool) → joins (counted pr) a.right.boundary (word 0 w) ≡ x → joins (counted pl) a.left.boundary (word 0 w) ≡ y
          → length (cond x (redrawn (plan_line pr a.right) (boundary_of c w)) (cond y (redrawn (plan_line pl a.left) (boundary_of c w)) (boundary_of c w))).geometry ≡ size_after sides w
      go true y e f = rw e (sym (side-many pr a.right))
      go false true e f = rw (e, f) (sym (side-many pl a.left))
      go false false e f = rw (e, f) (line-long c (span_at 2 w) h)

  row_is : (gone : List ℕ) (w : List ℕ) → stored c (span_at 2 w) ≡ true
      → cond (not (has (boundary_of c w).id gone)) (length (joined_boundary pl pr a (boundary_of c w)).geometry) 0 ≡ row_points gone sides w
  row_is gone w h = unfold boundary_of in go (has (word 0 w) gone)
    where
      go : (x : Bool) → cond (not x) (length (joined_boundary pl pr a (boundary_of c w)).geometry) 0 ≡ cond x 0 (size_after sides w)
      go true = refl
      go false = size_is w h

  old-points : (gone : List ℕ) → points_of (map (λ x. x.geometry) (map (joined_boundary pl pr a) (keep (λ x. not (has x.id gone)) (view t).boundaries))) ≡ boundary_points gone sides t.boundaries
  unfolding boundary_points view
  old-points gone =
      let bs : List Boundary = rows 5 (boundary_of c) t.boundaries in
      let q : Boundary → Bool = λ x. not (has x.id gone) in
      let f : Boundary → ℕ = λ x. length (joined_boundary pl pr a x).geometry in
      ap S.total (map-twice (λ (x : Boundary). x.geometry) length (map (joined_boundary pl pr a) (keep q bs)) ∙ map-twice (joined_boundary pl pr a) (λ x. length x.geometry) (keep q bs))
      ∙ (total-keep f q bs
      ∙ ap S.total (mapped-rows 5 (boundary_of c) (λ x. cond (q x) (f x) 0) t.boundaries
      ∙ rows_on 5 (λ w. stored c (span_at 2 w)) (λ w. cond (q (boundary_of c w)) (f (boundary_of c w)) 0) (row_points gone sides) (row_is gone) t.boundaries (P.stored-rows k).boundaries))

  new-all : points_of (map (λ x. x.geometry) (new_ones next (view t) a pl pr)) ≡ new_points (counted pl) + new_points (counted pr)
  new-all =
      let l = new_boundary (view t) pl next a.left in
      let r = new_boundary (view t) pr (next + plan_ids pl) a.right in
      ap points_of (map-append (λ x. x.geometry) l r)
      ∙ (points-append (map (λ x. x.geometry) l) (map (λ x. x.geometry) r)
      ∙ (rw (new-points (view t) pl next a.left (P.left-planned k), new-points (view t) pr (next + plan_ids pl) a.right (P.right-planned k))))

  -- ---- centrelines

  abbrev joint : Option Line
  joint = joined_center tol.join a.centerline b.centerline

  joint-points : (o : Option Line) → points_of (optional_line o) ≡ center_points (count_of o)
  unfolding S.total
  joint-points None = refl
  joint-points (Some l) = omega arith

  own-points : (w : List ℕ) (x : Bool) → all (stored c) (cond x (span_at 7 w ∷ []) []) ≡ true → points_of (optional_line (cond x (Some (line_at c 7 w)) None)) ≡ cond x (word 8 w) 0
  unfolding S.total
  own-points w true h = let e = line-long c (span_at 7 w) (all_head (stored c) (span_at 7 w) [] h) in omega arith
  own-points w false h = refl

  center_is : (w : List ℕ) → all (stored c) (center_span w) ≡ true
      → cond (not (eqb (lane_of c w).id b.id)) (points_of (optional_line (after_merge tol next a b pl pr (lane_of c w)).centerline)) 0 ≡ center_after a.id b.id (count_of joint) w
  unfolding lane_of
  center_is w h = go (eqb (word 0 w) b.id) (eqb (word 0 w) a.id)
    where
      go : (x y : Bool)
          → cond (not x) (points_of (optional_line (cond y (merged_lane tol.join pl pr next a b (links_after a.id b (lane_of c w))) (links_after a.id b (lane_of c w))).centerline)) 0
          ≡ cond x 0 (cond y (center_points (count_of joint)) (cond (mark 6 w) (word 8 w) 0))
      go true y = refl
      go false true = joint-points joint
      go false false = own-points w (mark 6 w) h

  center_all : points_of (each (λ l. optional_line l.centerline) (P.done k).lanes) ≡ lane_points a.id b.id (count_of joint) t.lanes
  unfolding lane_points view
  center_all =
      let ls : List Lane = rows 52 (lane_of c) t.lanes in
      let q : Lane → Bool = λ l. not (eqb l.id b.id) in
      let g : Lane → List Line = λ l. optional_line l.centerline in
      let f : Lane → ℕ = λ l. points_of (optional_line (after_merge tol next a b pl pr l).centerline) in
      points-each g (map (after_merge tol next a b pl pr) (keep q ls))
      ∙ (ap S.total (map-twice (after_merge tol next a b pl pr) (λ l. points_of (g l)) (keep q ls))
      ∙ (total-keep f q ls
      ∙ ap S.total (mapped-rows 52 (lane_of c) (λ l. cond (q l) (f l) 0) t.lanes
      ∙ rows_on 52 (λ w. all (stored c) (center_span w)) (λ w. cond (q (lane_of c w)) (f (lane_of c w)) 0) (center_after a.id b.id (count_of joint)) center_is t.lanes (P.stored-rows k).centerlines)))

  -- ---- stop lines and crosswalks

  stop-all : points_of (map (λ s. s.geometry) (view t).stop_lines) ≡ column_points 4 2 t.stop_lines
  unfolding view
  stop-all = column-is 4 1 c (stop_line_of c) (λ (s : StopLine). s.geometry) (λ w. unfold stop_line_of in refl) t.stop_lines (P.stored-rows k).stop_lines

  left-all : points_of (map (λ x. x.left_edge) (view t).crosswalks) ≡ column_points 7 2 t.crosswalks
  unfolding view
  left-all = column-is 7 1 c (crosswalk_of c) (λ (x : Crosswalk). x.left_edge) (λ w. unfold crosswalk_of in refl) t.crosswalks (P.stored-rows k).left_edges

  right-all : points_of (map (λ x. x.right_edge) (view t).crosswalks) ≡ column_points 7 4 t.crosswalks
  unfolding view
  right-all = column-is 7 3 c (crosswalk_of c) (λ (x : Crosswalk). x.right_edge) (λ w. unfold crosswalk_of in refl) t.crosswalks (P.stored-rows k).right_edges

  -- ---- all of it

  module _ (gone : List ℕ) (goes : gone ≡ map (λ x. x.id) (keep (unused (a ∷ b ∷ []) (merged tol (next_id counter) (view t) a b pl pr).result.lanes) (view t).boundaries)) where
    boundary-all : points_of (map (λ x. x.geometry) (P.done k).boundaries) ≡ boundary_points gone sides t.boundaries + (new_points (counted pl) + new_points (counted pr))
    boundary-all =
        ap (λ (xs : List Boundary). points_of (map (λ x. x.geometry) xs)) (sym (P.boundaries-done k gone goes))
        ∙ cut (map (joined_boundary pl pr a) (keep (λ x. not (has x.id gone)) (view t).boundaries)) (new_ones next (view t) a pl pr) (old-points gone) new-all
      where
        cut : {m n : ℕ} (xs ys : List Boundary) → points_of (map (λ x. x.geometry) xs) ≡ m → points_of (map (λ x. x.geometry) ys) ≡ n → points_of (map (λ x. x.geometry) (xs ++ ys)) ≡ m + n
        cut xs ys e f = ap points_of (map-append (λ x. x.geometry) xs ys) ∙ (points-append (map (λ x. x.geometry) xs) (map (λ x. x.geometry) ys) ∙ rw (e, f))

    -- THE LAW of points
    pub points-done : points_after t.lanes i j t.boundaries t.stop_lines t.crosswalks sides (count_of joint) gone ≡ point_count (P.done k)
    unfolding points_after S.lines lane_of
    points-done =
        let bs = map (λ x. x.geometry) (P.done k).boundaries in
        let ls = each (λ l. optional_line l.centerline) (P.done k).lanes in
        let ss = map (λ s. s.geometry) (view t).stop_lines in
        let es = map (λ x. x.left_edge) (view t).crosswalks in
        let rs = map (λ x. x.right_edge) (view t).crosswalks in
        omega (
          arith,
          points-append bs (ls ++ (ss ++ (es ++ rs))),
          points-append ls (ss ++ (es ++ rs)),
          points-append ss (es ++ rs),
          points-append es rs,
          boundary-all,
          center_all,
          stop-all,
          left-all,
          right-all,
        )

    -- THE LAW of boundaries
    pub boundaries-count : boundaries_after t.boundaries (told_plan k) gone ≡ length (P.done k).boundaries
    boundaries-count =
        let old = keep (λ x. not (has x.id gone)) (view t).boundaries in
        let new = new_ones next (view t) a pl pr in
        let e : length (map (joined_boundary pl pr a) old ++ new) ≡ length (P.done k).boundaries = ap length (P.boundaries-done k gone goes) in
        omega (arith, e, length-append (map (joined_boundary pl pr a) old) new, length-map old (joined_boundary pl pr a), P.new-count k, side-ids pl, side-ids pr, parts)
      where
        -- those that go and those that stay
        parts : length gone + length (keep (λ x. not (has x.id gone)) (view t).boundaries) ≡ word 0 t.boundaries
        parts =
            unfold view merged in
            let bs : List Boundary = (view t).boundaries in
            let u : Boundary → Bool = unused (a ∷ b ∷ []) (P.done k).lanes in
            omega (arith, ap length goes, length-map (keep u bs) (λ x. x.id), ap length (P.stay-kept k gone goes), keep-parts u bs, rows-count 5 (boundary_of c) t.boundaries)
