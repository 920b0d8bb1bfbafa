-- What the code that decides a merge in numbers asks of sound tables. Assumes nothing.
use Rattle.std.specs.Prelude.{Option, None, Some}
use mathlib.Core.Path.{◌≡◌, refl, sym, subst}
use Prim.Native.Nat.{ℕ, ◌≤◌}
use mathlib.Core.Bool.{Bool, true, false, not, ◌&&◌, ◌||◌}
use mathlib.Core.List.{List}
use lib.Dec.{leb}
use lib.Ieee.{Float}
use lib.ListN.{length}
use Rattle.lists.proofs.Booleans.{and-snd}
use Rattle.entities.specs.declared.BoundaryRef.{BoundaryRef}
use Rattle.entities.specs.Records.{Line, Lane}
use Rattle.rules.specs.Names.{Tolerance}
use Rattle.rules.specs.Merge.{SidePlan, plan_line, joined_center}
use Rattle.tables.specs.View.{Tables, word, mark, view}
use Rattle.tables.specs.Formed.{span_at, stored}
use Rattle.row_tests.specs.Good.{all_rows}
use Rattle.lookup.specs.Lookup.{count_of, points_or, centers_stored}
use Rattle.lookup.proofs.Good.{rows-weaker}
use Rattle.merge_plan.specs.Deciding.{lane_in, counted}
use Rattle.merge_plan.specs.Sides.{side_points, center_points}
use Rattle.merge_plan.specs.declared.Plan.{Plan}
use Rattle.merge_laid.proofs.Lines as L
use Rattle.merge_laid.proofs.Planning.{Planning}
use Rattle.merge_laid.proofs.Planning as P
use Rattle.merge_gone.specs.Leaving.{Leaving, Counting, Countable, sides_of, gone_of, centers_short}
use Rattle.merge_limits.proofs.Gone.{gone-within}

-- ---- plans in numbers

pub side-many : (q : SidePlan) (r : BoundaryRef) → side_points (counted q) ≡ length (plan_line q r)
side-many q r = L.side-points q r

pub center_many : (o : Option Line) → center_points (count_of o) ≡ length (points_or o)
center_many None = refl
center_many (Some l) = refl

-- ---- explicit centrelines

centers_are_short : (c : List Float) (t : List ℕ) → centers_stored c t ≡ true → centers_short t ≡ true
unfolding centers_stored centers_short
centers_are_short c t h =
    rows-weaker 52 (λ w. not (mark 6 w) || (stored c (span_at 7 w) && leb (word 8 w) 256)) (λ w. not (mark 6 w) || leb (word 8 w) 256)
    (λ w. go (not (mark 6 w)) (stored c (span_at 7 w)) (leb (word 8 w) 256)) t (unfold all_rows in h)
  where
    go : (x y z : Bool) → (x || (y && z)) ≡ true → (x || z) ≡ true
    go true y z e = refl
    go false y z e = and-snd y z e

-- ---- a merge

module _ {tol : Tolerance} {counter : ℕ} {t : Tables} {one two i j : ℕ} {p : Plan} (k : Planning tol counter t one two i j p) where
  abbrev c : List Float
  c = t.coordinates

  abbrev a : Lane
  a = lane_in t.coordinates t.lanes i

  abbrev b : Lane
  b = lane_in t.coordinates t.lanes j

  abbrev pl : SidePlan
  pl = k.plans.left

  abbrev pr : SidePlan
  pr = k.plans.right

  -- the plan as it was told
  abbrev pub told_plan : Plan
  told_plan = record { left = counted pl; right = counted pr; center = count_of (joined_center tol.join a.centerline b.centerline) }

  -- the boundaries that go may be asked for
  pub leaving : Leaving t.lanes i j t.boundaries
  leaving = record {
    lanes_are_sorted = (P.known k).drawable.lanes_are_sorted;
    first = P.here-first k;
    second = P.here-second k;
    boundaries_are_sorted = (P.known k).boundaries;
  }

  few-left : side_points (counted pl) ≤ 512
  few-left =
      rw (side-many pl a.left) (L.left_few tol c t.lanes t.boundaries (view t) (P.view-boundaries k) i j pl pr k.plans.left-plan k.plans.right-plan (P.known k).boundary-short)

  few-right : side_points (counted pr) ≤ 512
  few-right =
      rw (side-many pr a.right) (L.right_few tol c t.lanes t.boundaries (view t) (P.view-boundaries k) i j pl pr k.plans.left-plan k.plans.right-plan (P.known k).boundary-short)

  few_center : center_points told_plan.center ≤ 512
  few_center =
      rw (center_many (joined_center tol.join a.centerline b.centerline)) (L.center_few tol.join c t.lanes i j (P.known k).drawable.centers_are_stored (P.here-first k) (P.here-second k))

  counting : Counting t.lanes i j t.boundaries t.stop_lines t.crosswalks (sides_of t.lanes i told_plan) told_plan.center
  counting =
      record {
        leaving = leaving;
        boundaries_short = (P.known k).boundary-short;
        centers_are_short = centers_are_short c t.lanes (P.known k).drawable.centers_are_stored;
        stops_sorted = (P.known k).stop_lines;
        stops_short = (P.known k).stop-short;
        crosswalks_are_sorted = (P.known k).crosswalks;
        lefts_short = (P.known k).left-short;
        rights_short = (P.known k).right-short;
        left_few = few-left;
        right_few = few-right;
        center_few = few_center;
      }

  -- what is left may be counted
  pub countable : Countable t.lanes i j t.boundaries t.stop_lines t.crosswalks p (gone_of t.lanes i j p.left p.right t.boundaries)
  countable =
      subst (λ (q : Plan). Countable t.lanes i j t.boundaries t.stop_lines t.crosswalks q (gone_of t.lanes i j q.left q.right t.boundaries)) (sym k.plans.told)
      (record { counting = counting; few = gone-within t.lanes i j (counted pl) (counted pr) t.boundaries })
