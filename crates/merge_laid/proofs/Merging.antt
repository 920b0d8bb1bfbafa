-- What is known where a merge is written: of the lent tables, both lanes, their plans, the boundaries that go and the room. Assumes nothing.
use Rattle.std.specs.Prelude.{Some}
use mathlib.Core.Path.{◌≡◌, refl, sym, ap, ◌∙◌}
use Prim.Native.Nat.{ℕ, ◌+◌, ◌*◌, ◌/◌, ◌^◌, ◌≤◌, ◌<◌, min}
use native.Mathlib.Omega.{arith}
use mathlib.Core.Bool.{true, not, ◌&&◌, ◌||◌}
use mathlib.Core.List.{List, [], ◌∷◌, ◌++◌, map}
use lib.Dec.{eqb, leb}
use lib.Ieee.{Float}
use lib.ListN.{length, drop, length-map, length-append, length-drop}
use borrow.Author.Tests.{leb-true}
use Rattle.lists.specs.Every.{all}
use Rattle.lists.specs.Rows.{keys}
use Rattle.lists.specs.Select.{keep, has, ascending, same_numbers}
use Rattle.lists.proofs.Booleans.{and-fst}
use Rattle.entities.specs.Records.{Lane, Boundary, Map}
use Rattle.rules.specs.Names.{Tolerance}
use Rattle.rules.specs.Map.{lane}
use Rattle.rules.specs.Sound as S
use Rattle.rules.specs.Sound.{next_id, last_counter, fits_room, within_limits}
use Rattle.rules.specs.Lane.{unused}
use Rattle.rules.specs.Merge.{SidePlan, plan_ids, joined_boundary, merged}
use Rattle.rules.specs.Ops.{counter_after}
use Rattle.tables.specs.View.{Tables, word, ids_at, rows, view, lane_of, boundary_of, stop_line_of, crosswalk_of}
use Rattle.tables.specs.Formed.{spans, center_span, stored, sound_tables, lane_formed}
use Rattle.row_tests.specs.Good.{all_rows}
use Rattle.apart.specs.Marks.{within}
use Rattle.apart.proofs.Marks.{counted-facts}
use Rattle.soundness.proofs.Counts.{Counts}
use Rattle.soundness.proofs.Rows.{every_row}
use Rattle.soundness.proofs.Whole.{rows-count}
use Rattle.store.specs.Store.{room_of}
use Rattle.store.specs.Rows.{kept_rows}
use Rattle.store.proofs.Packing.{kept_ones, kept-records}
use Rattle.laws.proofs.Merge.{merged_map, new_ones, still_used}
use Rattle.laws.proofs.MergePlans.{Planned, both_new}
use Rattle.layout.specs.Layout.{last_point, counted_lines}
use Rattle.layout.specs.Pointed.{HasRoom}
use Rattle.layout.proofs.Reach.{within-reach, reach-least}
use Rattle.layout.proofs.Standing.{Rowwise, spans_rowwise, both-pass}
use Rattle.lookup.specs.Lookup.{place_of}
use Rattle.sound_facts.proofs.LaidPlaces.{roomy}
use Rattle.sound_facts.proofs.Facts.{Facts}
use Rattle.sound_facts.proofs.Room.{Limits, limits}
use Rattle.merge_plan.specs.Deciding.{lane_in, follows}
use Rattle.merge_plan.specs.declared.Plan.{Plan}
use Rattle.merge_decide.proofs.Whole.{Plans}
use Rattle.merge_laid.proofs.Lanes.{all_one, leads_only, takes_row}
use Rattle.merge_laid.proofs.Planning.{Planning}
use Rattle.merge_laid.proofs.Planning as P

-- Lanes `one` and `two` stand in rows i and j of sound tables, the second follows the first, p is the plan of their merge, the boundaries `gone` go, the lines
-- reach to point `reach`, and there are ids and room enough.
pub record Merging (tol : Tolerance) (counter : ℕ) (t : Tables) (one two i j : ℕ) (p : Plan) (reach : ℕ) (gone : List ℕ) : Type 0 where
  pub sane : sound_tables counter t ≡ true
  pub small : counter < 2 ^ 64
  pub first : place_of 52 t.lanes one ≡ Some i
  pub second : place_of 52 t.lanes two ≡ Some j
  pub follow : follows (lane_in [] t.lanes i) (lane_in [] t.lanes j) ≡ true
  pub plans : Plans tol (next_id counter) one two (view t) (lane_in t.coordinates t.lanes i) (lane_in t.coordinates t.lanes j) p
  pub ids : leb (counter_after counter (plan_ids plans.left + plan_ids plans.right)) last_counter ≡ true
  pub reaches : reach ≡ last_point (spans t)
  pub goes : gone
      ≡ map (λ x. x.id)
      (keep (unused (lane_in t.coordinates t.lanes i ∷ lane_in t.coordinates t.lanes j ∷ [])
      (merged tol (next_id counter) (view t) (lane_in t.coordinates t.lanes i) (lane_in t.coordinates t.lanes j) plans.left plans.right).result.lanes) (view t).boundaries)
  pub room : fits_room (room_of t) (merged tol (next_id counter) (view t) (lane_in t.coordinates t.lanes i) (lane_in t.coordinates t.lanes j) plans.left plans.right).result ≡ true

module _ {tol : Tolerance} {counter : ℕ} {t : Tables} {one two i j : ℕ} {p : Plan} {reach : ℕ} {gone : List ℕ} (k : Merging tol counter t one two i j p reach gone) where
  abbrev c : List Float
  c = t.coordinates

  -- ---- what is known before

  abbrev pub planning : Planning tol counter t one two i j p
  planning = record { sane = k.sane; small = k.small; first = k.first; second = k.second; follow = k.follow; plans = k.plans }

  abbrev pub a : Lane
  a = lane_in t.coordinates t.lanes i

  abbrev pub b : Lane
  b = lane_in t.coordinates t.lanes j

  abbrev pub pl : SidePlan
  pl = k.plans.left

  abbrev pub pr : SidePlan
  pr = k.plans.right

  abbrev pub next : ℕ
  next = next_id counter

  pub view-boundaries : (view t).boundaries ≡ rows 5 (boundary_of t.coordinates) t.boundaries
  view-boundaries = P.view-boundaries planning

  -- the merged map
  abbrev pub done : Map
  done = merged_map tol (next_id counter) (view t) a b pl pr

  pub known : Facts counter t
  known = P.known planning

  pub counts : Counts t
  counts = P.counts planning

  pub here-first : i < word 0 t.lanes
  here-first = P.here-first planning

  pub here-second : j < word 0 t.lanes
  here-second = P.here-second planning

  pub found : lane (view t) a.id ≡ Some a
  found = P.found planning

  pub leads : same_numbers a.successors (b.id ∷ []) ≡ true
  leads = P.leads planning

  pub stored-rows : Rowwise (stored c) t
  stored-rows = P.stored-rows planning

  pub links-up : all (λ b. b) (rows 52 (λ w. ascending (ids_at 18 w)) t.lanes) ≡ true
  links-up = P.links-up planning

  pub lanes-up : ascending (map (λ l. l.id) (rows 52 (lane_of c) t.lanes)) ≡ true
  lanes-up = P.lanes-up planning

  pub few-after : length b.successors ≤ 16
  few-after = P.few-after planning

  pub boundary-keys : map (λ x. x.id) (view t).boundaries ≡ keys 5 (word 0 t.boundaries) (drop 1 t.boundaries)
  boundary-keys = P.boundary-keys planning

  pub left-planned : Planned (view t) a.left.boundary pl
  left-planned = P.left-planned planning

  pub right-planned : Planned (view t) a.right.boundary pr
  right-planned = P.right-planned planning

  pub new-fresh : all (λ i. not (has i (keys 5 (word 0 t.boundaries) (drop 1 t.boundaries)))) (both_new pl pr next) ≡ true
  new-fresh = P.new-fresh planning k.ids

  pub ids-small : next + plan_ids pl < 2 ^ 64
  ids-small = P.ids-small planning k.ids

  pub stay-kept : keep (λ x. not (has x.id gone)) (view t).boundaries ≡ keep (still_used tol next (view t) a b pl pr) (view t).boundaries
  stay-kept = P.stay-kept planning gone k.goes

  pub boundaries-done : map (joined_boundary pl pr a) (keep (λ x. not (has x.id gone)) (view t).boundaries) ++ new_ones next (view t) a pl pr ≡ done.boundaries
  boundaries-done = P.boundaries-done planning gone k.goes

  -- ---- rows of lanes

  lead-rows : all (λ b. b) (rows 52 (leads_only a b) t.lanes) ≡ true
  unfolding view lane_of all_rows lane
  lead-rows =
      sym (every_row 52 (lane_of c) (λ l. not (eqb l.id a.id) || same_numbers l.successors (b.id ∷ [])) t.lanes)
      ∙ all_one (λ l. l.id) a.id (λ l. same_numbers l.successors (b.id ∷ [])) (rows 52 (lane_of c) t.lanes) a lanes-up found leads

  pub fine-rows : all (λ b. b) (rows 52 (takes_row c a b) t.lanes) ≡ true
  fine-rows =
      both-pass 52 lane_formed (λ w. ascending (ids_at 18 w) && (all (stored c) (center_span w) && leads_only a b w)) t.lanes (unfold all_rows in known.parts.lanes)
      (both-pass 52 (λ w. ascending (ids_at 18 w)) (λ w. all (stored c) (center_span w) && leads_only a b w) t.lanes links-up
      (both-pass 52 (λ w. all (stored c) (center_span w)) (leads_only a b) t.lanes stored-rows.centerlines lead-rows))

  -- ---- how far lines reach

  pub near-all : reach ≤ min 65536 (length c / 3)
  near-all = rw k.reaches (reach-least (min 65536 (length c / 3)) (spans t) known.parts.store)

  pub reached-rows : Rowwise (within reach) t
  reached-rows = spans_rowwise (within reach) t (rw k.reaches (within-reach (spans t)))

  -- ---- room

  fit : fits_room (room_of t) done ≡ true
  unfolding merged
  fit = k.room

  lim : Limits done
  unfolding fits_room
  lim =
      let x = within_limits done in
      let y = leb (length done.lanes) (room_of t).lanes in
      let z = leb (length done.boundaries) (room_of t).boundaries in
      let u = leb (S.point_count done) (room_of t).points in
      limits done (and-fst x y (and-fst (x && y) z (and-fst (x && y && z) u fit)))

  -- as many boundaries as rows that stay, and new ones
  done-count : length done.boundaries ≡ word 0 (kept_rows 5 (λ n. not (has n gone)) t.boundaries) + (plan_ids pl + plan_ids pr)
  unfolding view boundary_of kept_rows
  done-count =
      let rest = keep (λ (x : Boundary). not (has x.id gone)) (view t).boundaries in
      let new = new_ones next (view t) a pl pr in
      let u : length rest ≡ length (kept_ones 5 (λ n. not (has n gone)) t.boundaries) =
      ap length (kept-records 5 (λ n. not (has n gone)) t.boundaries (λ x. x.id) (boundary_of c) (λ w. refl)) ∙ length-map (kept_ones 5 (λ n. not (has n gone)) t.boundaries) (boundary_of c) in
      let v : length new ≡ plan_ids pl + plan_ids pr = P.new-count planning in
      sym (ap length boundaries-done)
      ∙ (length-append (map (joined_boundary pl pr a) rest) new ∙ (ap (λ z. z + length new) (length-map rest (joined_boundary pl pr a) ∙ u) ∙ ap (λ z. length (kept_ones 5 (λ n. not (has n gone)) t.boundaries) + z) v))

  pub boundary-room : 1 + (word 0 (kept_rows 5 (λ n. not (has n gone)) t.boundaries) + (plan_ids pl + plan_ids pr)) * 5 ≤ length t.boundaries
  boundary-room =
      let r = (roomy t done fit).boundaries in
      let e = done-count in
      rw (← e) (omega (arith, r, length-drop 1 t.boundaries, (counted-facts 4096 5 t.boundaries counts.boundaries).0))

  lines-counted : counted_lines t ≡ true
  unfolding counted_lines
  lines-counted = rw (counts.lanes, counts.boundaries, counts.stop_lines, counts.crosswalks)

  stop-count : length (view t).stop_lines ≡ word 0 t.stop_lines
  unfolding view
  stop-count = rows-count 4 (stop_line_of c) t.stop_lines

  walk-count : length (view t).crosswalks ≡ word 0 t.crosswalks
  unfolding view
  walk-count = rows-count 7 (crosswalk_of c) t.crosswalks

  pub has_room : HasRoom t done
  has_room =
      record {
        counts = lines-counted;
        lanes = leb-true (length done.lanes) 1024 lim.lanes;
        boundaries = leb-true (length done.boundaries) 4096 lim.boundaries;
        stop_lines = leb-true (length done.stop_lines) 512 lim.stop_lines;
        crosswalks = leb-true (length done.crosswalks) 128 lim.crosswalks;
        lane_rows = omega (arith, (roomy t done fit).lanes, length-drop 1 t.lanes, (counted-facts 1024 52 t.lanes counts.lanes).0);
        boundary_rows = omega (arith, (roomy t done fit).boundaries, length-drop 1 t.boundaries, (counted-facts 4096 5 t.boundaries counts.boundaries).0);
        stop_rows = omega (arith, stop-count, (counted-facts 512 4 t.stop_lines counts.stop_lines).1.1);
        crosswalk_rows = omega (arith, walk-count, (counted-facts 128 7 t.crosswalks counts.crosswalks).1.1);
        links = lim.links;
        points = omega (arith, (roomy t done fit).points);
      }
