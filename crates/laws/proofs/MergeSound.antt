-- merge_lanes keeps soundness. Assumes nothing.
use Rattle.std.specs.Prelude.{Option, None, Some}
use mathlib.Core.Path.{◌≡◌, refl, sym, ap, ◌∙◌}
use mathlib.Core.Bool.{Bool, true, false, not, ◌&&◌, ◌||◌, cond}
use mathlib.Core.List.{List, [], ◌∷◌, ◌++◌, map}
use Prim.Native.Nat.{ℕ, ◌+◌}
use lib.Dec.{eqb, ltb, leb}
use lib.ListN.{length, length-map}
use Rattle.lists.specs.Every.{all}
use Rattle.lists.specs.Select.{keep, each, has, place, without, ascending}
use Rattle.lists.proofs.Every.{all_nil, all_cons, all_head, all_append}
use Rattle.lists.proofs.Booleans.{and-snd}
use Rattle.lists.proofs.Select.{all_map, all-each, all-weaken, all_keep, ascending-place}
use Rattle.geometry.specs.Point.{in_reach}
use Rattle.polyline.specs.Polyline.{concat}
use Rattle.polyline.proofs.Reach.{concat-reach}
use Rattle.entities.specs.declared.Tolerance.{Tolerance}
use Rattle.entities.specs.Records.{Line, Lane, Boundary, Rule, Map}
use Rattle.rules.specs.Map.{lane}
use Rattle.rules.specs.Sound.{lines, optional_line, lines_in_reach, kinds_legal, rule_legal, has_content, stop_lines_fit, given, handles_legal, handle_width, speed_legal, links_ascend, within_limits, sound, next_id, last_counter}
use Rattle.rules.specs.Lane.{road_lanes, junction_lanes, rule_lanes}
use Rattle.rules.specs.Ops.{counter_after}
use Rattle.rules.specs.Merge.{SidePlan, plan_ids, plan_line, plan_joins, redrawn, joined_boundary, new_boundary, joined_center, read, replace_lane, links_after, merged_lane, after_merge}
use Rattle.rules.proofs.Facts.{sound-facts, facts-sound}
use Rattle.laws.proofs.Connect.{found_all}
use Rattle.laws.proofs.Part.{part-whole, part-keep, Gives, ◌&also◌, stays, all-image}
use Rattle.laws.proofs.Leaving.{ascending-without, empty-without}
use Rattle.laws.proofs.RemoveLinks.{other}
use Rattle.laws.proofs.Entities.{keys_of}
use Rattle.laws.proofs.Merge.{merged_map, new_ones, still_used, after-field, preds_after, succs_after}
use Rattle.laws.proofs.MergeLinks.{merge-links, merge-neighbors}
use Rattle.laws.proofs.MergePlans.{both_of, Planned, line-planned, drawn, new-passes}
use Rattle.laws.proofs.MergeCounter.{counter-free, merged-counter}
use Rattle.laws.proofs.MergeIds.{merged-ids}
use Rattle.laws.proofs.Once.{distinct_without, distinct-replace}
use Rattle.laws.proofs.OnceRows.{plain-free}

-- ---- rules: an empty list stays empty

empty-replaced : (a b : ℕ) (ids : List ℕ) → Gives (eqb (length ids) 0) (eqb (length (replace_lane a b ids)) 0)
unfolding replace_lane
empty-replaced a b ids = go (has a ids)
  where
    go : (c : Bool) → Gives (eqb (length ids) 0) (eqb (length (cond c (without b ids) (map (read a b) ids))) 0)
    go true = empty-without b ids
    go false = record { so = λ t. ap (λ k. eqb k 0) (length-map ids (read a b)) ∙ t }

rule-still-legal : (a b : ℕ) (r : Rule) → Gives (rule_legal r) (rule_legal (rule_lanes (replace_lane a b) (replace_lane a b) r))
rule-still-legal a b r =
    stays (leb r.kind 5)
    &also stays (has_content r.kind || eqb r.content 0)
    &also stays (stop_lines_fit r.kind (length r.stop_lines))
    &also or-stays (eqb r.kind 3) (empty-replaced a b r.priority &also empty-replaced a b r.yielding)
    &also stays (cond (eqb r.kind 4) (given r.crosswalk) (not (given r.crosswalk)))
  where
    or-stays : (c : Bool) {p q : Bool} → Gives p q → Gives (c || p) (c || q)
    or-stays true g = stays true
    or-stays false g = g

-- ---- the clauses

module _ (tol : Tolerance) (next : ℕ) (m : Map) (a b : Lane) (pl pr : SidePlan) (ea : lane m a.id ≡ Some a) (eb : lane m b.id ≡ Some b)
    (fl : Planned m a.left.boundary pl) (fr : Planned m a.right.boundary pr) where
  abbrev n : Map
  n = merged_map tol next m a b pl pr

  abbrev after : Lane → Lane
  after = after_merge tol next a b pl pr

  abbrev rest : List Lane
  rest = keep (other b.id) m.lanes

  -- a test of every boundary that a line in reach does not upset
  boundaries-pass : (t : Boundary → Bool) → ((c : Line) → all in_reach c ≡ true → (i : ℕ) (x : Boundary) → t x ≡ true → t (drawn i c x) ≡ true)
      → Gives (all t m.boundaries) (all t n.boundaries)
  boundaries-pass t f =
      record {
        so = λ h.
            all_append t (keep (still_used tol next m a b pl pr) (map (joined_boundary pl pr a) m.boundaries)) (new_ones next m a pl pr)
            (all_keep t (still_used tol next m a b pl pr) (map (joined_boundary pl pr a) m.boundaries)
            (all_map t (joined_boundary pl pr a) m.boundaries ∙ all-weaken t (λ x. t (joined_boundary pl pr a x)) m.boundaries joined-passes h))
            (all_append t (new_boundary m pl next a.left) (new_boundary m pr (next + plan_ids pl) a.right) (new-passes m pl next a.left fl t f h)
            (new-passes m pr (next + plan_ids pl) a.right fr t f h));
      }
    where
      joined-passes : (x : Boundary) → t x ≡ true → t (joined_boundary pl pr a x) ≡ true
      joined-passes x h = go (plan_joins pr a.right x.id) (plan_joins pl a.left x.id)
        where
          go : (c d : Bool) → t (cond c (redrawn (plan_line pr a.right) x) (cond d (redrawn (plan_line pl a.left) x) x)) ≡ true
          go true d = f (plan_line pr a.right) (line-planned m a.right.boundary pr fr a.right) x.id x h
          go false true = f (plan_line pl a.left) (line-planned m a.left.boundary pl fl a.left) x.id x h
          go false false = h

  -- a test of every lane of fields that a merge leaves
  lanes-pass : (t : Lane → Bool) → ((l : Lane) → t (merged_lane tol.join pl pr next a b (links_after a.id b l)) ≡ t l) → ((l : Lane) → t (links_after a.id b l) ≡ t l)
      → Gives (all t m.lanes) (all t n.lanes)
  lanes-pass t f g =
      all-image t t after (λ l. record { so = λ h. after-field tol next a b pl pr t t f g l ∙ h }) (part-keep (other b.id) m.lanes)

  merged-kinds : Gives (kinds_legal m) (kinds_legal n)
  unfolding kinds_legal
  merged-kinds =
      lanes-pass (λ l. leb l.kind 7 && leb l.turn_direction 3) (λ l. refl) (λ l. refl)
      &also boundaries-pass (λ x. leb x.kind 13) (λ c r i x h. h)
      &also all-image rule_legal rule_legal (rule_lanes (replace_lane a.id b.id) (replace_lane a.id b.id)) (rule-still-legal a.id b.id) (part-whole m.rules)

  merged_handles : Gives (handles_legal m) (handles_legal n)
  unfolding handles_legal
  merged_handles =
      lanes-pass (λ l. ltb l.attributes handle_width && speed_legal l.speed_limit) (λ l. refl) (λ l. refl)
      &also boundaries-pass (λ x. ltb x.attributes handle_width) (λ c r i x h. h)
      &also all-image (λ r. ltb r.name handle_width && ltb r.attributes handle_width) (λ r. ltb r.name handle_width && ltb r.attributes handle_width) (road_lanes (without b.id))
      (λ r. stays (ltb r.name handle_width && ltb r.attributes handle_width)) (part-whole m.roads)
      &also all-image (λ j. ltb j.name handle_width && ltb j.outline handle_width && ltb j.attributes handle_width)
      (λ j. ltb j.name handle_width && ltb j.outline handle_width && ltb j.attributes handle_width) (junction_lanes (without b.id))
      (λ j. stays (ltb j.name handle_width && ltb j.outline handle_width && ltb j.attributes handle_width)) (part-whole m.junctions)
      &also all-image (λ r. ltb r.content handle_width && ltb r.attributes handle_width) (λ r. ltb r.content handle_width && ltb r.attributes handle_width)
      (rule_lanes (replace_lane a.id b.id) (replace_lane a.id b.id)) (λ r. stays (ltb r.content handle_width && ltb r.attributes handle_width)) (part-whole m.rules)
      &also stays (all (λ s. ltb s.attributes handle_width) m.stop_lines)
      &also stays (all (λ c. ltb c.outline handle_width && ltb c.attributes handle_width) m.crosswalks)

  merged-ascend : links_ascend m ≡ true → links_ascend n ≡ true
  unfolding links_ascend lane
  merged-ascend h =
      (all-image (λ l. ascending l.predecessors && ascending l.successors) (λ l. ascending l.predecessors && ascending l.successors) after
      (λ l. record { so = λ t. after-field tol next a b pl pr (λ k. ascending k.predecessors && ascending k.successors) (λ k. ascending (preds_after tol next a b pl pr k) && ascending (succs_after tol next a b pl pr k)) (λ k. refl) (λ k. refl) l ∙ (placed (has b.id l.predecessors) l.predecessors &also taken (eqb l.id a.id) l.successors).so t }) (part-keep (other b.id) m.lanes)).so h
    where
      up-b : ascending b.successors ≡ true
      up-b =
          and-snd (ascending b.predecessors) (ascending b.successors)
          (found_all (λ k. eqb k.id b.id) (λ k. ascending k.predecessors && ascending k.successors) m.lanes b eb h)

      placed : (c : Bool) (xs : List ℕ) → Gives (ascending xs) (ascending (cond c (place a.id (without b.id xs)) (without b.id xs)))
      placed true xs = record { so = λ t. ascending-place a.id (without b.id xs) ((ascending-without b.id xs).so t) }
      placed false xs = ascending-without b.id xs

      taken : (c : Bool) (xs : List ℕ) → Gives (ascending xs) (ascending (cond c b.successors (without b.id xs)))
      taken true xs = record { so = λ t. up-b }
      taken false xs = ascending-without b.id xs

  -- ---- lines

  center_reach : (o p : Option Line) → all (all in_reach) (optional_line o) ≡ true → all (all in_reach) (optional_line p) ≡ true
      → all (all in_reach) (optional_line (joined_center tol.join o p)) ≡ true
  center_reach None p h k = h
  center_reach (Some c) None h k = k
  center_reach (Some c) (Some d) h k =
      all_cons (all in_reach) (concat tol.join c d) [] (concat-reach tol.join c d (all_head (all in_reach) c [] h) (all_head (all in_reach) d [] k)) (all_nil (all in_reach))

  abbrev centers : Map → List Line
  centers k = each (λ l. optional_line l.centerline) k.lanes

  merged-centers : all (all in_reach) (centers m) ≡ true → all (all in_reach) (centers n) ≡ true
  unfolding lane
  merged-centers h =
      all-each (all in_reach) (λ l. optional_line l.centerline) n.lanes
      ∙ (all-image here here after (λ l. record { so = λ t. go l (eqb l.id a.id) t }) (part-keep (other b.id) m.lanes)).so each-here
    where
      here : Lane → Bool
      here l = all (all in_reach) (optional_line l.centerline)

      each-here : all here m.lanes ≡ true
      each-here = sym (all-each (all in_reach) (λ l. optional_line l.centerline) m.lanes) ∙ h

      go : (l : Lane) (c : Bool) → here l ≡ true → here (cond c (merged_lane tol.join pl pr next a b (links_after a.id b l)) (links_after a.id b l)) ≡ true
      go l true t =
          center_reach a.centerline b.centerline (found_all (λ k. eqb k.id a.id) here m.lanes a ea each-here)
          (found_all (λ k. eqb k.id b.id) here m.lanes b eb each-here)
      go l false t = t

  boundary-reach : all (all in_reach) (map (λ x. x.geometry) m.boundaries) ≡ true → all (all in_reach) (map (λ x. x.geometry) n.boundaries) ≡ true
  boundary-reach h =
      all_map (all in_reach) (λ x. x.geometry) n.boundaries
      ∙ (boundaries-pass (λ x. all in_reach x.geometry) (λ c r i x t. r)).so (sym (all_map (all in_reach) (λ x. x.geometry) m.boundaries) ∙ h)

  merged-reach : lines_in_reach m ≡ true → lines_in_reach n ≡ true
  unfolding lines_in_reach lines
  merged-reach h =
      let others = map (λ s. s.geometry) m.stop_lines ++ (map (λ c. c.left_edge) m.crosswalks ++ map (λ c. c.right_edge) m.crosswalks) in
      let (h1, h2) = both_of (all in_reach) (map (λ x. x.geometry) m.boundaries) (centers m ++ others) h in
      let (h3, h4) = both_of (all in_reach) (centers m) others h2 in
      all_append (all in_reach) (map (λ x. x.geometry) n.boundaries) (centers n ++ others) (boundary-reach h1)
      (all_append (all in_reach) (centers n) others (merged-centers h3) h4)

-- ---- all of them

-- A merge keeps soundness, where the counter has the ids and the result keeps the limits.
pub merge-sound : (tol : Tolerance) (counter : ℕ) (m : Map) (a b : Lane) (pl pr : SidePlan) → lane m a.id ≡ Some a → lane m b.id ≡ Some b
    → eqb b.id a.id ≡ false → a.successors ≡ b.id ∷ [] → b.predecessors ≡ a.id ∷ [] → Planned m a.left.boundary pl → Planned m a.right.boundary pr
    → sound counter m ≡ true → leb (counter_after counter (plan_ids pl + plan_ids pr)) last_counter ≡ true
    → within_limits (merged_map tol (next_id counter) m a b pl pr) ≡ true
    → sound (counter_after counter (plan_ids pl + plan_ids pr)) (merged_map tol (next_id counter) m a b pl pr) ≡ true
merge-sound tol counter m a b pl pr ea eb apart out into fl fr h room limits =
    let s = sound-facts counter m h in
    let next = next_id counter in
    facts-sound (counter_after counter (plan_ids pl + plan_ids pr)) (merged_map tol next m a b pl pr)
    (record {
      limits = limits;
      ids = (merged-ids tol next m a b pl pr fl fr (counter-free counter (plan_ids pl + plan_ids pr) m s.counter-above room)).so s.ids;
      counter-above = merged-counter tol counter m a b pl pr ea eb fl fr s.counter-above room;
      reach = merged-reach tol next m a b pl pr ea eb fl fr s.reach;
      kinds = (merged-kinds tol next m a b pl pr ea eb fl fr).so s.kinds;
      handles = (merged_handles tol next m a b pl pr ea eb fl fr).so s.handles;
      links-ascend = merged-ascend tol next m a b pl pr ea eb fl fr s.links-ascend;
      links = merge-links tol next m a b pl pr ea eb apart (keys_of m s.ids).lanes-up s.links out into;
      neighbors = merge-neighbors tol next m a b pl pr s.neighbors;
      once =
          plain-free (without b.id) (replace_lane a.id b.id) (distinct_without b.id) (distinct-replace a.id b.id) m
          (merged_map tol next m a b pl pr) refl refl refl s.once;
    })
