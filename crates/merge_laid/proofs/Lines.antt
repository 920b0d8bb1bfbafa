-- The coordinates, and behind them the lines that a merge draws: they begin as the coordinates do, and the joined lines lie where rows point. Assumes nothing.
use Rattle.std.specs.Prelude.{Option, None, Some, Ok, is_some}
use mathlib.Core.Path.{◌≡◌, refl, sym, ap, ◌∙◌, subst}
use Prim.{Unit, tt}
use Prim.Native.Nat.{ℕ, ◌+◌, ◌*◌, ◌≤◌, ◌<◌}
use native.Mathlib.Omega.{arith}
use mathlib.Core.Bool.{Bool, true, false, not, ◌&&◌, ◌||◌, cond, true≢false}
use mathlib.Core.List.{List, [], ◌∷◌, ◌++◌, reverse, append_assoc}
use lib.Dec.{eqb, leb}
use lib.Ieee.{Float}
use lib.ListN.{length, take, length-reverse}
use lib.Seq.{length-take-le, take_at, take-append-add, drop-append-add}
use borrow.Author.Tests.{le-leb, leb-true}
use Rattle.lists.specs.Rows.{over}
use Rattle.lists.specs.Select.{same_numbers}
use Rattle.lists.proofs.Booleans.{and-snd, or_right}
use Rattle.lists.proofs.Rows.{length_over}
use Rattle.polyline.specs.Polyline.{flat, concat}
use Rattle.polyline.proofs.Points.{length-flat}
use Rattle.polyline.proofs.Counts.{length-concat-le}
use Rattle.entities.specs.declared.BoundaryRef.{BoundaryRef}
use Rattle.entities.specs.declared.Refusal.TheVariants as R
use Rattle.entities.specs.Records.{Line, Lane, Map}
use Rattle.rules.specs.Names.{Side, Left, Right, Tolerance}
use Rattle.rules.specs.Map.{boundary_on, oriented_boundary, lanes_using_boundary}
use Rattle.rules.specs.Merge.{SidePlan, kept, in_place, fresh, joined, joined_lines, side_plan, plan_line, joined_center}
use Rattle.tables.specs.View.{word, mark, rows, line_at, lane_of, boundary_of}
use Rattle.tables.specs.Formed.{span_at, stored}
use Rattle.apart.specs.Marks.{within}
use Rattle.laws.proofs.Lawful.{yields, no-yield}
use Rattle.layout.specs.Pointed.{LineIn}
use Rattle.layout.proofs.Lines.{line-written, line_before}
use Rattle.layout.specs.Layout.{sourced}
use Rattle.layout.proofs.Sourced.{length-sourced}
use Rattle.layout.proofs.Standing.{begins-before}
use Rattle.lookup.specs.Lookup.{row_at, all_short, centers_stored, count_of, points_or, drawn}
use Rattle.lookup.proofs.Laws.{oriented-drawn, row-passes, part-few}
use Rattle.lookup.proofs.Center.{oriented-few}
use Rattle.merge_plan.specs.Deciding.{counted, lane_in}
use Rattle.merge_plan.specs.declared.Plan.{Plan}
use Rattle.merge_draw.specs.Redrawing.{joined_side, stored_line}
use Rattle.merge_redraw.specs.Relaying.{side_points, side_floats, side_drawn, center_drawn, right_at, center_at, drawn_lines}
use Rattle.merge_laid.proofs.Rows.{plan_of}

-- ---- lines drawn one after another, behind a copy

near : (n start size : ℕ) → start + size ≤ n → within n (record { start = start; size = size }) ≡ true
near n start size h = or_right (eqb size 0) (leb (start + size) n) (le-leb (start + size) n h)

-- written in the second of two lists
over-behind : (x d l : List Float) (a k : ℕ) → length x ≡ a → x ++ over d k l ≡ over (x ++ d) (a + k) l
unfolding over
over-behind x d l a k e =
    let f : length x + k + length l ≡ length x + (k + length l) = omega arith in
    rw (← e, f, take-append-add x d k, drop-append-add x d (k + length l), append_assoc)

sourced-over : (reach : ℕ) (c d l : List Float) (k : ℕ) → reach * 3 ≤ length c → sourced reach c (over d k l) ≡ over (sourced reach c d) (reach * 3 + k) l
sourced-over reach c d l k h = over-behind (take (reach * 3) c) d l (reach * 3) k (length-take-le (reach * 3) c h)

module _ (c work : List Float) (reach : ℕ) (l r m : Line) (copied : reach * 3 ≤ length c) (room : (length l + (length r + length m)) * 3 ≤ length work) where
  abbrev w0 : List Float
  w0 = sourced reach c work

  abbrev w1 : List Float
  w1 = over w0 (reach * 3) (flat l)

  abbrev w2 : List Float
  w2 = over w1 ((reach + length l) * 3) (flat r)

  abbrev pub lined : List Float
  lined = over w2 ((reach + length l + length r) * 3) (flat m)

  long0 : length w0 ≡ reach * 3 + length work
  long0 = length-sourced reach c work copied

  long1 : length w1 ≡ reach * 3 + length work
  long1 = length_over w0 (reach * 3) (flat l) (omega (arith, long0, length-flat l)) ∙ long0

  long2 : length w2 ≡ reach * 3 + length work
  long2 = length_over w1 ((reach + length l) * 3) (flat r) (omega (arith, long1, length-flat r)) ∙ long1

  pub lined-begins : take (reach * 3) lined ≡ take (reach * 3) c
  lined-begins =
      begins-before w2 (flat m) reach (reach + length l + length r) (omega arith) (omega (arith, long2))
      ∙ (begins-before w1 (flat r) reach (reach + length l) (omega arith) (omega (arith, long1)) ∙ (begins-before w0 (flat l) reach reach (omega arith) (omega (arith, long0)) ∙ take_at (take (reach * 3) c) work (reach * 3) (length-take-le (reach * 3) c copied)))

  pub lined-left : LineIn lined reach l
  lined-left =
      line_before w2 (flat m) (reach + length l + length r) reach l (near (reach + length l + length r) reach (length l) (omega arith)) (omega (arith, long2))
      (line_before w1 (flat r) (reach + length l) reach l (near (reach + length l) reach (length l) (omega arith)) (omega (arith, long1)) (line-written w0 reach l (omega (arith, long0))))

  pub lined-right : LineIn lined (reach + length l) r
  lined-right =
      line_before w2 (flat m) (reach + length l + length r) (reach + length l) r (near (reach + length l + length r) (reach + length l) (length r) (omega arith)) (omega (arith, long2))
      (line-written w1 (reach + length l) r (omega (arith, long1)))

  pub lined_center : LineIn lined (reach + length l + length r) m
  lined_center = line-written w2 (reach + length l + length r) m (omega (arith, long2))

-- ---- what a side draws

-- a plan's line is l
abbrev pub PlanLine : SidePlan → Line → Type 0
PlanLine kept l = Unit
PlanLine (in_place c) l = c ≡ l
PlanLine (fresh c) l = c ≡ l

turned-length : (b : Bool) (l : Line) → length (cond b (reverse l) l) ≡ length l
turned-length true l = length-reverse l
turned-length false l = refl

module _ (p : SidePlan) (r : BoundaryRef) where
  pub side-points : side_points (counted p) ≡ length (plan_line p r)
  side-points = go p
    where
      go : (p : SidePlan) → side_points (counted p) ≡ length (plan_line p r)
      go kept = refl
      go (in_place c) = sym (turned-length r.reversed c)
      go (fresh c) = refl

  module _ (l : Line) (e : PlanLine p l) where
    side-floats : side_floats (counted p) r.reversed l ≡ flat (plan_line p r)
    side-floats = go p e
      where
        go : (p : SidePlan) → PlanLine p l → side_floats (counted p) r.reversed l ≡ flat (plan_line p r)
        go kept e = unfold flat in refl
        go (in_place c) e = ap (λ z. flat (stored_line r.reversed z)) (sym e)
        go (fresh c) e = ap flat (sym e)

    pub side-few : length l ≤ 512 → length (plan_line p r) ≤ 512
    side-few h = go p e
      where
        go : (p : SidePlan) → PlanLine p l → length (plan_line p r) ≤ 512
        go kept e = omega arith
        go (in_place c) e = omega (arith, turned-length r.reversed c, ap length e)
        go (fresh c) e = omega (arith, ap length e)

-- a plan's line is made of both lanes' boundaries
joined_line : (join : Float) (alone : Bool) (ra rb : ℕ) (oa ob : Option Line) (p : SidePlan) → joined_lines join alone ra rb oa ob ≡ Ok p → PlanLine p (concat join (points_or oa) (points_or ob))
joined_line join alone ra rb None ob p h = absurd (no-yield (R.BoundaryAbsent ra) p h)
joined_line join alone ra rb (Some x) None p h = absurd (no-yield (R.BoundaryAbsent rb) p h)
joined_line join alone ra rb (Some x) (Some y) p h = subst (λ q. PlanLine q (concat join x y)) (yields h) (go alone)
  where
    go : (b : Bool) → PlanLine (joined b (concat join x y)) (concat join x y)
    go true = refl
    go false = refl

plan-line : (tol : Tolerance) (m : Map) (side : Side) (a b : Lane) (p : SidePlan) → side_plan tol m side a b ≡ Ok p
    → PlanLine p (concat tol.join (points_or (oriented_boundary m side a)) (points_or (oriented_boundary m side b)))
unfolding side_plan
plan-line tol m side a b p h =
    go (eqb (boundary_on side a).boundary (boundary_on side b).boundary)
    (same_numbers (lanes_using_boundary m.lanes (boundary_on side a).boundary) (a.id ∷ []) && same_numbers (lanes_using_boundary m.lanes (boundary_on side b).boundary) (b.id ∷ [])) h
  where
    go : (same alone : Bool)
        → cond same (Ok kept) (joined_lines tol.join alone (boundary_on side a).boundary (boundary_on side b).boundary (oriented_boundary m side a) (oriented_boundary m side b)) ≡ Ok p
        → PlanLine p (concat tol.join (points_or (oriented_boundary m side a)) (points_or (oriented_boundary m side b)))
    go true alone h = subst (λ q. PlanLine q (concat tol.join (points_or (oriented_boundary m side a)) (points_or (oriented_boundary m side b)))) (yields h) tt
    go false alone h = joined_line tol.join alone (boundary_on side a).boundary (boundary_on side b).boundary (oriented_boundary m side a) (oriented_boundary m side b) p h

-- ---- the joined centreline

module _ (join : Float) (c : List Float) (lanes : List ℕ) (i j : ℕ) where
  abbrev joint : Option Line
  joint = joined_center join (lane_in c lanes i).centerline (lane_in c lanes j).centerline

  -- as both rows' marks say
  abbrev marked_joint : Bool → Bool → Option Line
  marked_joint x y = joined_center join (cond x (Some (line_at c 7 (row_at 52 lanes i))) None) (cond y (Some (line_at c 7 (row_at 52 lanes j))) None)

  center_floats : center_drawn join c lanes i j (count_of joint) ≡ flat (points_or joint)
  unfolding lane_of
  center_floats = go (mark 6 (row_at 52 lanes i)) (mark 6 (row_at 52 lanes j))
    where
      go : (x y : Bool) → center_drawn join c lanes i j (count_of (marked_joint x y)) ≡ flat (points_or (marked_joint x y))
      go true true = refl
      go true false = unfold flat in refl
      go false y = unfold flat in refl

  pub center_marked : is_some (count_of joint) ≡ true → (mark 6 (row_at 52 lanes i) ≡ true) × (mark 6 (row_at 52 lanes j) ≡ true)
  unfolding lane_of
  center_marked h = go (mark 6 (row_at 52 lanes i)) (mark 6 (row_at 52 lanes j)) refl refl h
    where
      go : (x y : Bool) → mark 6 (row_at 52 lanes i) ≡ x → mark 6 (row_at 52 lanes j) ≡ y → is_some (count_of (marked_joint x y)) ≡ true → (mark 6 (row_at 52 lanes i) ≡ true) × (mark 6 (row_at 52 lanes j) ≡ true)
      go true true p q h = (p, q)
      go true false p q h = absurd (true≢false (sym h))
      go false y p q h = absurd (true≢false (sym h))

  module _ (h : centers_stored c lanes ≡ true) (li : i < word 0 lanes) (lj : j < word 0 lanes) where
    row-short : (k : ℕ) → k < word 0 lanes → mark 6 (row_at 52 lanes k) ≡ true → length (line_at c 7 (row_at 52 lanes k)) ≤ 256
    unfolding centers_stored
    row-short k l m =
        let w = row_at 52 lanes k in
        let g = row-passes 52 (λ w. not (mark 6 w) || (stored c (span_at 7 w) && leb (word 8 w) 256)) lanes h k l in
        let s : (stored c (span_at 7 w) && leb (word 8 w) 256) ≡ true = ap (λ b. not b || (stored c (span_at 7 w) && leb (word 8 w) 256)) (sym m) ∙ g in
        let f : word 8 w ≤ 256 = leb-true (word 8 w) 256 (and-snd (stored c (span_at 7 w)) (leb (word 8 w) 256) s) in
        omega (arith, part-few c (word 7 w) (word 8 w))

    pub center_few : length (points_or joint) ≤ 512
    unfolding lane_of
    center_few = go (mark 6 (row_at 52 lanes i)) (mark 6 (row_at 52 lanes j)) refl refl
      where
        go : (x y : Bool) → mark 6 (row_at 52 lanes i) ≡ x → mark 6 (row_at 52 lanes j) ≡ y → length (points_or (marked_joint x y)) ≤ 512
        go true true p q =
            let u = row-short i li p in
            let v = row-short j lj q in
            omega (arith, length-concat-le join (line_at c 7 (row_at 52 lanes i)) (line_at c 7 (row_at 52 lanes j)))
        go true false p q = omega arith
        go false y p q = omega arith

-- ---- the whole array

drawn-same : (w : List Float) (k : ℕ) {l l₁ r r₁ m m₁ : List Float} {x x₁ y y₁ : ℕ} → l ≡ l₁ → x ≡ x₁ → r ≡ r₁ → y ≡ y₁ → m ≡ m₁
    → over (over (over w k l) (x * 3) r) (y * 3) m ≡ over (over (over w k l₁) (x₁ * 3) r₁) (y₁ * 3) m₁
drawn-same w k p q r s t = cc

-- drawn from place 0 on, and behind the coordinates
behind : (reach : ℕ) (c d l r m : List Float) (p : Plan) → reach * 3 ≤ length c
    → sourced reach c (over (over (over d 0 l) (right_at p 0 * 3) r) (center_at p 0 * 3) m) ≡ over (over (over (sourced reach c d) (reach * 3) l) (right_at p reach * 3) r) (center_at p reach * 3) m
behind reach c d l r m p h =
    let e : reach * 3 + 0 ≡ reach * 3 = omega arith in
    let f : reach * 3 + right_at p 0 * 3 ≡ right_at p reach * 3 = omega arith in
    let g : reach * 3 + center_at p 0 * 3 ≡ center_at p reach * 3 = omega arith in
    let left : List Float = over d 0 l in
    let right : List Float = over left (right_at p 0 * 3) r in
    rw (sourced-over reach c right m (center_at p 0 * 3) h, sourced-over reach c left r (right_at p 0 * 3) h, sourced-over reach c d l 0 h, e, f, g)

module _ (tol : Tolerance) (c : List Float) (lanes boundaries : List ℕ) (m : Map) (eb : m.boundaries ≡ rows 5 (boundary_of c) boundaries) (i j : ℕ) (pl pr : SidePlan)
    (el : side_plan tol m Left (lane_in c lanes i) (lane_in c lanes j) ≡ Ok pl) (er : side_plan tol m Right (lane_in c lanes i) (lane_in c lanes j) ≡ Ok pr) where
  abbrev a : Lane
  a = lane_in c lanes i

  abbrev b : Lane
  b = lane_in c lanes j

  abbrev left_line : Line
  left_line = plan_line pl a.left

  abbrev right_line : Line
  right_line = plan_line pr a.right

  abbrev center_line : Line
  center_line = points_or (joined_center tol.join a.centerline b.centerline)

  side-line : (side : Side) (p : SidePlan) → side_plan tol m side a b ≡ Ok p → PlanLine p (joined_side tol.join c lanes boundaries i j side)
  side-line side p e =
      subst (PlanLine p) (ap (λ o. concat tol.join (points_or o) (points_or (oriented_boundary m side b))) (oriented-drawn c boundaries m side a eb)
      ∙ ap (λ o. concat tol.join (points_or (oriented_boundary (drawn c boundaries) side a)) (points_or o)) (oriented-drawn c boundaries m side b eb)) (plan-line tol m side a b p e)

  side-short : all_short 5 2 boundaries ≡ true → (side : Side) → length (joined_side tol.join c lanes boundaries i j side) ≤ 512
  side-short h side =
      let x = oriented-few c boundaries (row_at 52 lanes i) side h in
      let y = oriented-few c boundaries (row_at 52 lanes j) side h in
      omega (arith, length-concat-le tol.join (points_or (oriented_boundary (drawn c boundaries) side a)) (points_or (oriented_boundary (drawn c boundaries) side b)))

  pub left_few : all_short 5 2 boundaries ≡ true → length left_line ≤ 512
  left_few h = side-few pl a.left (joined_side tol.join c lanes boundaries i j Left) (side-line Left pl el) (side-short h Left)

  pub right_few : all_short 5 2 boundaries ≡ true → length right_line ≤ 512
  right_few h = side-few pr a.right (joined_side tol.join c lanes boundaries i j Right) (side-line Right pr er) (side-short h Right)

  left-drawn : side_drawn tol.join c lanes boundaries i j Left (counted pl) ≡ flat left_line
  unfolding lane_of
  left-drawn = side-floats pl a.left (joined_side tol.join c lanes boundaries i j Left) (side-line Left pl el)

  right-drawn : side_drawn tol.join c lanes boundaries i j Right (counted pr) ≡ flat right_line
  unfolding lane_of
  right-drawn = side-floats pr a.right (joined_side tol.join c lanes boundaries i j Right) (side-line Right pr er)

  -- where the lines lie
  pub right-place : (reach : ℕ) → right_at (plan_of tol a b pl pr) reach ≡ reach + length left_line
  right-place reach = ap (λ n. reach + n) (side-points pl a.left)

  pub center_place : (reach : ℕ) → center_at (plan_of tol a b pl pr) reach ≡ reach + length left_line + length right_line
  center_place reach = ap (λ n. n + side_points (counted pr)) (right-place reach) ∙ ap (λ n. reach + length left_line + n) (side-points pr a.right)

  module _ (reach : ℕ) (work : List Float) (copied : reach * 3 ≤ length c) (room : (length left_line + (length right_line + length center_line)) * 3 ≤ length work) where
    pub work-is : sourced reach c (drawn_lines tol.join c lanes boundaries i j (plan_of tol a b pl pr) work) ≡ lined c work reach left_line right_line center_line copied room
    unfolding drawn_lines
    work-is =
        let p = plan_of tol a b pl pr in
        let x = side_drawn tol.join c lanes boundaries i j Left (counted pl) in
        let y = side_drawn tol.join c lanes boundaries i j Right (counted pr) in
        let z = center_drawn tol.join c lanes i j p.center in
        behind reach c work x y z p copied
        ∙ drawn-same (sourced reach c work) (reach * 3) left-drawn (right-place reach) right-drawn (center_place reach) (center_floats tol.join c lanes i j)
