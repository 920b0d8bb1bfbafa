-- What the code of a merge decides in numbers is what document 01 says of the merged map: whether ids are left, what goes, and whether it fits. Assumes nothing.
use mathlib.Core.Path.{◌≡◌, refl, sym, ap, ◌∙◌}
use Prim.Native.Nat.{ℕ, ◌+◌, ◌-◌, ◌/◌, ◌^◌, ◌≤◌, ◌<◌}
use native.Mathlib.Omega.{arith}
use mathlib.Core.Bool.{Bool, true, false, not, ◌&&◌, cond}
use mathlib.Core.List.{List, [], ◌∷◌, map}
use lib.Dec.{eqb, leb}
use lib.Ieee.{Float}
use lib.ListN.{length}
use borrow.Author.Tests.{leb-true, le-leb, eqb-true}
use Rattle.lists.specs.Every.{all}
use Rattle.lists.specs.Select.{keep}
use Rattle.entities.specs.Records.{Lane}
use Rattle.rules.specs.Names.{Left, Right, Tolerance}
use Rattle.rules.specs.Sound.{next_id, last_counter, lines, point_count, fits_room}
use Rattle.rules.specs.Lane.{unused}
use Rattle.rules.specs.Merge.{SidePlan, plan_ids, merged}
use Rattle.rules.specs.Ops.{counter_after}
use Rattle.tables.specs.View.{Tables, word, view, lane_of}
use Rattle.tables.specs.Formed.{spans}
use Rattle.row_tests.proofs.Tables.{table-room}
use Rattle.soundness.proofs.Whole.{rows-count}
use Rattle.store.specs.Store.{room_of}
use Rattle.layout.specs.Layout.{last_point}
use Rattle.merge_plan.specs.Deciding.{lane_in}
use Rattle.merge_plan.specs.Sides.{side_ids}
use Rattle.merge_plan.specs.declared.Plan.{Plan}
use Rattle.merge_laid.proofs.Rows.{side-ids}
use Rattle.merge_laid.proofs.Planning.{Planning}
use Rattle.merge_laid.proofs.Planning as P
use Rattle.merge_laid.proofs.Merging.{Merging}
use Rattle.sound_facts.proofs.Room.{limits}
use Rattle.merge_gone.specs.Leaving.{gone_of, sides_of, lines_fit, fits_after}
use Rattle.room.specs.Room.{ids_left}
use Rattle.merge_limits.proofs.Gone.{gone-is, gone-within, gone-four}
use Rattle.merge_limits.proofs.Asked.{told_plan}
use Rattle.merge_limits.proofs.Points.{points-done, boundaries-count}
use Rattle.merge_limits.proofs.Short.{side-there, lines_fit_lem}
use Rattle.merge_limits.proofs.Limits.{fewer-lanes, limits-merged}

-- what is open, in the order of the code and in that of the rules
in_order : (x y z r q : Bool) → (x && r && y && (z && q)) ≡ (x && y && z && true && r && q)
in_order true true true true q = refl
in_order true true true false q = refl
in_order true true false true q = refl
in_order true true false false q = refl
in_order true false z true q = refl
in_order true false z false q = refl
in_order false y z r q = refl

not-true : (x : Bool) → not x ≡ true → x ≡ false
not-true true h = sym h
not-true false h = refl

module _ {tol : Tolerance} {counter : ℕ} {t : Tables} {one two i j : ℕ} {p : Plan} (k : Planning tol counter t one two i j p) where
  abbrev c : List Float
  c = t.coordinates

  abbrev a : Lane
  a = lane_in t.coordinates t.lanes i

  abbrev b : Lane
  b = lane_in t.coordinates t.lanes j

  abbrev pl : SidePlan
  pl = k.plans.left

  abbrev pr : SidePlan
  pr = k.plans.right

  -- ---- ids

  -- as many as the rules ask for
  pub ids-asked : side_ids p.left + side_ids p.right ≡ plan_ids k.plans.left + plan_ids k.plans.right
  ids-asked = ap (λ (q : Plan). side_ids q.left + side_ids q.right) k.plans.told ∙ sum (side-ids pl) (side-ids pr)
    where
      sum : {x y u v : ℕ} → x ≡ u → y ≡ v → x + y ≡ u + v
      sum e f = rw (e, f)

  pub ids_are_left : ids_left counter (side_ids p.left + side_ids p.right) ≡ leb (counter_after counter (plan_ids k.plans.left + plan_ids k.plans.right)) last_counter
  ids_are_left = ap (ids_left counter) ids-asked

  -- ---- room

  -- every other limit holds
  room_open : fits_room (room_of t) (P.done k)
      ≡ (leb (length (P.done k).boundaries) 4096 && all (λ l. leb (length l) 256) (lines (P.done k)) && leb (point_count (P.done k)) 65536 && true && leb (length (P.done k).boundaries) (room_of t).boundaries
      && leb (point_count (P.done k)) (room_of t).points)
  unfolding fits_room
  room_open =
      ap (λ z. z && leb (length (P.done k).lanes) (room_of t).lanes && leb (length (P.done k).boundaries) (room_of t).boundaries && leb (point_count (P.done k)) (room_of t).points)
      (limits-merged tol (next_id counter) (view t) a b pl pr (P.known k).clauses.limits (P.known k).clauses.links-ascend (P.few-after k))
      ∙ ap (λ z. leb (length (P.done k).boundaries) 4096 && all (λ l. leb (length l) 256) (lines (P.done k)) && leb (point_count (P.done k)) 65536 && z && leb (length (P.done k).boundaries) (room_of t).boundaries
      && leb (point_count (P.done k)) (room_of t).points) lanes_fit
    where
      count : length (view t).lanes ≡ word 0 t.lanes
      count = unfold view in rows-count 52 (lane_of c) t.lanes

      lanes_fit : leb (length (P.done k).lanes) ((length t.lanes - 1) / 52) ≡ true
      lanes_fit =
          le-leb (length (P.done k).lanes) ((length t.lanes - 1) / 52)
          (omega (arith, fewer-lanes tol (next_id counter) (view t) a b pl pr, count, table-room 1024 52 t.lanes (P.counts k).lanes))

  short-is : all (λ l. leb (length l) 256) (lines (P.done k)) ≡ lines_fit (sides_of t.lanes i (told_plan k)) (told_plan k).center
  unfolding lane_of
  short-is =
      lines_fit_lem tol (next_id counter) (view t) a b pl pr (P.found k) (not-true (eqb a.id b.id) (P.two_lanes k)) (P.left-planned k) (P.right-planned k)
      (side-there tol (view t) Left a b pl k.plans.left-plan) (side-there tol (view t) Right a b pr k.plans.right-plan) (limits (view t) (P.known k).clauses.limits).short

  -- the plan as it was told
  told-fits : (gone : List ℕ) → gone ≡ map (λ x. x.id) (keep (unused (a ∷ b ∷ []) (merged tol (next_id counter) (view t) a b pl pr).result.lanes) (view t).boundaries)
      → fits_after t.lanes i j t.boundaries t.stop_lines t.crosswalks t.coordinates (told_plan k) gone ≡ fits_room (room_of t) (P.done k)
  unfolding fits_after
  told-fits gone goes =
      by (boundaries-count k gone goes) (points-done k gone goes) (sym short-is)
      ∙ sym room_open
    where
      by : {x u y v : ℕ} {s w : Bool} → x ≡ u → y ≡ v → s ≡ w
          → (leb x 4096 && leb x (room_of t).boundaries && s && (leb y 65536 && leb y (room_of t).points)) ≡ (leb u 4096 && w && leb v 65536 && true && leb u (room_of t).boundaries && leb v (room_of t).points)
      by {u = u} {v = v} {w = w} e f g = rw (e, f, g) (in_order (leb u 4096) w (leb v 65536) (leb u (room_of t).boundaries) (leb v (room_of t).points))

  module _ (ids : leb (counter_after counter (plan_ids k.plans.left + plan_ids k.plans.right)) last_counter ≡ true) where
    -- they stay below 2^64
    pub ids-below : next_id counter + (side_ids p.left + side_ids p.right) < 2 ^ 64
    ids-below = rw ids-asked (go (eqb (plan_ids pl + plan_ids pr) 0) refl ids)
      where
        go : (z : Bool) → eqb (plan_ids pl + plan_ids pr) 0 ≡ z → leb (cond z counter (next_id counter + (plan_ids pl + plan_ids pr))) last_counter ≡ true → next_id counter + (plan_ids pl + plan_ids pr) < 2 ^ 64
        go true e h = let n = eqb-true (plan_ids pl + plan_ids pr) 0 e in let s = k.small in omega arith
        go false e h = let n = leb-true (next_id counter + (plan_ids pl + plan_ids pr)) last_counter h in omega arith

    -- THE LAW: it fits as document 01 has it
    pub fits-is : fits_after t.lanes i j t.boundaries t.stop_lines t.crosswalks t.coordinates p (gone_of t.lanes i j p.left p.right t.boundaries)
        ≡ fits_room (room_of t)
        (merged tol (next_id counter) (view t) (lane_in t.coordinates t.lanes i) (lane_in t.coordinates t.lanes j) k.plans.left k.plans.right).result
    unfolding merged
    fits-is =
        let gone = gone_of t.lanes i j p.left p.right t.boundaries in
        ap (λ (q : Plan). fits_after t.lanes i j t.boundaries t.stop_lines t.crosswalks t.coordinates q gone) k.plans.told ∙ told-fits gone (gone-is k ids)

    -- all that is known where it is written
    pub merging : fits_after t.lanes i j t.boundaries t.stop_lines t.crosswalks t.coordinates p (gone_of t.lanes i j p.left p.right t.boundaries) ≡ true
        → (reach : ℕ) → reach ≡ last_point (spans t) → Merging tol counter t one two i j p reach (gone_of t.lanes i j p.left p.right t.boundaries)
    merging fit reach e =
        record {
          sane = k.sane;
          small = k.small;
          first = k.first;
          second = k.second;
          follow = k.follow;
          plans = k.plans;
          ids = ids;
          reaches = e;
          goes = gone-is k ids;
          room = sym fits-is ∙ fit;
        }

  -- ---- how many go

  pub gone_few : (length (gone_of t.lanes i j p.left p.right t.boundaries) ≤ 4) × (length (gone_of t.lanes i j p.left p.right t.boundaries) ≤ word 0 t.boundaries)
  gone_few = (gone-four t.lanes i j p.left p.right t.boundaries (P.known k).boundaries, gone-within t.lanes i j p.left p.right t.boundaries)
