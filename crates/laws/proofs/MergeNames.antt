-- merge_lanes: every id named after it was named before, or is given by it. Assumes nothing.
use Rattle.std.specs.Prelude.{Some}
use mathlib.Core.Path.{◌≡◌, sym, ap, ◌∙◌}
use mathlib.Core.Bool.{Bool, true, false, cond}
use mathlib.Core.List.{List, [], ◌∷◌, ◌++◌, map}
use Prim.Native.Nat.{ℕ, ◌+◌}
use lib.Dec.{eqb}
use Rattle.lists.specs.Every.{all}
use Rattle.lists.specs.Select.{keep, each, has, place, without}
use Rattle.lists.proofs.Every.{all_cons, all_head, all_tail, all_append}
use Rattle.lists.proofs.Select.{all_map, all-each, all-weaken, all_keep, keys-map}
use Rattle.entities.specs.declared.Tolerance.{Tolerance}
use Rattle.entities.specs.declared.BoundaryRef.{BoundaryRef}
use Rattle.entities.specs.Records.{Lane, Rule, Map}
use Rattle.rules.specs.Map.{lane, boundary}
use Rattle.rules.specs.Sound.{ids_named, lane_names, rule_names, slot_id, optional_id}
use Rattle.rules.specs.Lane.{forgetting, road_lanes, junction_lanes, rule_lanes}
use Rattle.rules.specs.Merge.{SidePlan, kept, in_place, fresh, plan_ids, plan_ref, joined_boundary, read, replace_lane, links_after, merged_lane, after_merge}
use Rattle.laws.proofs.Keeps.{all-place, other_names}
use Rattle.laws.proofs.Connect.{found_all}
use Rattle.laws.proofs.Part.{also, part-whole, all-part}
use Rattle.laws.proofs.Leaving.{part_without, names_forgotten, each-image}
use Rattle.laws.proofs.RemoveLinks.{other}
use Rattle.laws.proofs.Merge.{merged_map, new_ones, still_used, joined-id}
use Rattle.laws.proofs.MergePlans.{both_of, Planned, plan_new, both_new, ids-made}

-- ---- names that pass a test

module _ (t : ℕ → Bool) where
  -- the names of a lane
  pub record Passing (l : Lane) : Type 0 where
    pub own : t l.id ≡ true
    pub left : t l.left.boundary ≡ true
    pub right : t l.right.boundary ≡ true
    pub left-slot : all t (slot_id l.left_neighbor) ≡ true
    pub right-slot : all t (slot_id l.right_neighbor) ≡ true
    pub preds : all t l.predecessors ≡ true
    pub succs : all t l.successors ≡ true

  pub passing : (l : Lane) → all t (lane_names l) ≡ true → Passing l
  passing l h =
      let ls = slot_id l.left_neighbor in
      let rs = slot_id l.right_neighbor in
      let links = l.predecessors ++ l.successors in
      let h1 = all_tail t l.id (l.left.boundary ∷ l.right.boundary ∷ ls ++ (rs ++ links)) h in
      let h2 = all_tail t l.left.boundary (l.right.boundary ∷ ls ++ (rs ++ links)) h1 in
      let (p, q) = both_of t ls (rs ++ links) (all_tail t l.right.boundary (ls ++ (rs ++ links)) h2) in
      let (r, s) = both_of t rs links q in
      let (u, v) = both_of t l.predecessors l.successors s in
      record {
        own = all_head t l.id (l.left.boundary ∷ l.right.boundary ∷ ls ++ (rs ++ links)) h;
        left = all_head t l.left.boundary (l.right.boundary ∷ ls ++ (rs ++ links)) h1;
        right = all_head t l.right.boundary (ls ++ (rs ++ links)) h2;
        left-slot = p;
        right-slot = r;
        preds = u;
        succs = v;
      }

  names-pass : (l : Lane) → Passing l → all t (lane_names l) ≡ true
  names-pass l p =
      let ls = slot_id l.left_neighbor in
      let rs = slot_id l.right_neighbor in
      let links = l.predecessors ++ l.successors in
      all_cons t l.id (l.left.boundary ∷ l.right.boundary ∷ ls ++ (rs ++ links)) p.own
      (all_cons t l.left.boundary (l.right.boundary ∷ ls ++ (rs ++ links)) p.left
      (all_cons t l.right.boundary (ls ++ (rs ++ links)) p.right
      (all_append t ls (rs ++ links) p.left-slot
      (all_append t rs links p.right-slot (all_append t l.predecessors l.successors p.preds p.succs)))))

  ref_passes : (p : SidePlan) (i : ℕ) (r : BoundaryRef) → all t (plan_new p i) ≡ true → t r.boundary ≡ true → t (plan_ref p i r).boundary ≡ true
  ref_passes kept i r h k = k
  ref_passes (in_place c) i r h k = k
  ref_passes (fresh c) i r h k = all_head t i [] h

  -- a list with b read as a
  replaced-pass : (a b : ℕ) (ids : List ℕ) → t a ≡ true → all t ids ≡ true → all t (replace_lane a b ids) ≡ true
  unfolding replace_lane
  replaced-pass a b ids h k = go (has a ids)
    where
      one : (c : Bool) (i : ℕ) → t i ≡ true → t (cond c a i) ≡ true
      one true i u = h
      one false i u = u

      go : (c : Bool) → all t (cond c (without b ids) (map (read a b) ids)) ≡ true
      go true = all-part t (part_without b ids) k
      go false = all_map t (read a b) ids ∙ all-weaken t (λ i. t (read a b i)) ids (λ i. one (eqb i b) i) k

  rule-passes : (a b : ℕ) → t a ≡ true → (r : Rule) → all t (rule_names r) ≡ true → all t (rule_names (rule_lanes (replace_lane a b) (replace_lane a b) r)) ≡ true
  rule-passes a b h r k =
      let xs = optional_id r.crosswalk in
      let f = replace_lane a b in
      let ps = r.priority ++ r.yielding in
      let ss = r.stop_lines ++ ps in
      let cs = r.controlled_crosswalks ++ ss in
      let (k1, k2) = both_of t xs (r.lanes ++ cs) (all_tail t r.id (xs ++ (r.lanes ++ cs)) k) in
      let (k3, k4) = both_of t r.lanes cs k2 in
      let (k5, k6) = both_of t r.controlled_crosswalks ss k4 in
      let (k7, k8) = both_of t r.stop_lines ps k6 in
      let (k9, k10) = both_of t r.priority r.yielding k8 in
      let qs = f r.priority ++ f r.yielding in
      all_cons t r.id (xs ++ (f r.lanes ++ (r.controlled_crosswalks ++ (r.stop_lines ++ qs)))) (all_head t r.id (xs ++ (r.lanes ++ cs)) k)
      (all_append t xs (f r.lanes ++ (r.controlled_crosswalks ++ (r.stop_lines ++ qs))) k1
      (all_append t (f r.lanes) (r.controlled_crosswalks ++ (r.stop_lines ++ qs)) (replaced-pass a b r.lanes h k3)
      (all_append t r.controlled_crosswalks (r.stop_lines ++ qs) k5
      (all_append t r.stop_lines qs k7
      (all_append t (f r.priority) (f r.yielding) (replaced-pass a b r.priority h k9) (replaced-pass a b r.yielding h k10))))))

-- ---- the names after a merge

module _ (tol : Tolerance) (next : ℕ) (m : Map) (a b : Lane) (pl pr : SidePlan) (ea : lane m a.id ≡ Some a) (eb : lane m b.id ≡ Some b)
    (fl : Planned m a.left.boundary pl) (fr : Planned m a.right.boundary pr) where
  abbrev n : Map
  n = merged_map tol next m a b pl pr

  module _ (t : ℕ → Bool) (old : all t (ids_named m) ≡ true) (new : all t (both_new pl pr next) ≡ true) where
    lane-names : all (λ l. all t (lane_names l)) m.lanes ≡ true
    unfolding ids_named
    lane-names = sym (all-each t lane_names m.lanes) ∙ (both_of t (each lane_names m.lanes) (other_names m) old).0

    names-a : Passing t a
    unfolding lane
    names-a = passing t a (found_all (λ k. eqb k.id a.id) (λ k. all t (lane_names k)) m.lanes a ea lane-names)

    names-b : Passing t b
    unfolding lane
    names-b = passing t b (found_all (λ k. eqb k.id b.id) (λ k. all t (lane_names k)) m.lanes b eb lane-names)

    linked : (l : Lane) → all t (lane_names l) ≡ true → Passing t (links_after a.id b l)
    linked l h =
        let p = passing t (forgetting b.id l) (all-part t (names_forgotten b.id l) h) in
        record {
          own = p.own;
          left = p.left;
          right = p.right;
          left-slot = p.left-slot;
          right-slot = p.right-slot;
          preds = placed (has b.id l.predecessors) (without b.id l.predecessors) p.preds;
          succs = taken (eqb l.id a.id) (without b.id l.successors) p.succs;
        }
      where
        placed : (c : Bool) (xs : List ℕ) → all t xs ≡ true → all t (cond c (place a.id xs) xs) ≡ true
        placed true xs k = all-place t a.id xs names-a.own k
        placed false xs k = k

        taken : (c : Bool) (xs : List ℕ) → all t xs ≡ true → all t (cond c b.successors xs) ≡ true
        taken true xs k = names-b.succs
        taken false xs k = k

    lane-passes : (l : Lane) → all t (lane_names l) ≡ true → all t (lane_names (after_merge tol next a b pl pr l)) ≡ true
    lane-passes l h = go (eqb l.id a.id)
      where
        p : Passing t (links_after a.id b l)
        p = linked l h

        go : (c : Bool) → all t (lane_names (cond c (merged_lane tol.join pl pr next a b (links_after a.id b l)) (links_after a.id b l))) ≡ true
        go true =
            names-pass t (merged_lane tol.join pl pr next a b (links_after a.id b l))
            (record {
              own = p.own;
              left = ref_passes t pl next l.left (both_of t (plan_new pl next) (plan_new pr (next + plan_ids pl)) new).0 p.left;
              right = ref_passes t pr (next + plan_ids pl) l.right (both_of t (plan_new pl next) (plan_new pr (next + plan_ids pl)) new).1 p.right;
              left-slot = p.left-slot;
              right-slot = p.right-slot;
              preds = p.preds;
              succs = p.succs;
            })
        go false = names-pass t (links_after a.id b l) p

    boundary-names : all t (map (λ x. x.id) m.boundaries) ≡ true → all t (map (λ x. x.id) n.boundaries) ≡ true
    boundary-names h =
        all_map t (λ x. x.id) n.boundaries
        ∙ all_append (λ x. t x.id) (keep (still_used tol next m a b pl pr) (map (joined_boundary pl pr a) m.boundaries)) (new_ones next m a pl pr)
        (all_keep (λ x. t x.id) (still_used tol next m a b pl pr) (map (joined_boundary pl pr a) m.boundaries)
        (sym (all_map t (λ x. x.id) (map (joined_boundary pl pr a) m.boundaries))
        ∙ (ap (all t) (keys-map (λ x. x.id) (joined_boundary pl pr a) (joined-id pl pr a) m.boundaries) ∙ h)))
        (sym (all_map t (λ x. x.id) (new_ones next m a pl pr)) ∙ (ap (all t) (ids-made m next a pl pr fl fr) ∙ new))

    -- Every id named after the merge passes what those before it pass and those that it gives.
    pub merged-names : all t (ids_named n) ≡ true
    unfolding ids_named
    merged-names =
        let others = map (λ s. s.id) m.stop_lines ++ map (λ c. c.id) m.crosswalks in
        let rules = each rule_names m.rules in
        let junctions = each (λ j. j.id ∷ j.lanes) m.junctions in
        let roads = each (λ r. r.id ∷ r.lanes) m.roads in
        let u1 = (both_of t (each lane_names m.lanes) (other_names m) old).1 in
        let (h1, u2) = both_of t (map (λ x. x.id) m.boundaries) (roads ++ (junctions ++ (rules ++ others))) u1 in
        let (h2, u3) = both_of t roads (junctions ++ (rules ++ others)) u2 in
        let (h3, u4) = both_of t junctions (rules ++ others) u3 in
        let (h4, h5) = both_of t rules others u4 in
        all_append t (each lane_names n.lanes) (other_names n) lanes-pass
        (all_append t (map (λ x. x.id) n.boundaries) (each (λ r. r.id ∷ r.lanes) n.roads ++ (each (λ j. j.id ∷ j.lanes) n.junctions ++ (each rule_names n.rules ++ others)))
        (boundary-names h1)
        (all_append t (each (λ r. r.id ∷ r.lanes) n.roads) (each (λ j. j.id ∷ j.lanes) n.junctions ++ (each rule_names n.rules ++ others))
        (roads-pass h2)
        (all_append t (each (λ j. j.id ∷ j.lanes) n.junctions) (each rule_names n.rules ++ others)
        (junctions-pass h3)
        (all_append t (each rule_names n.rules) others (rules-pass h4) h5))))
      where
        lanes-pass : all t (each lane_names n.lanes) ≡ true
        lanes-pass =
            all-each t lane_names n.lanes
            ∙ (all_map (λ l. all t (lane_names l)) (after_merge tol next a b pl pr) (keep (other b.id) m.lanes)
            ∙ all-weaken (λ l. all t (lane_names l)) (λ l. all t (lane_names (after_merge tol next a b pl pr l))) (keep (other b.id) m.lanes) lane-passes
            (all_keep (λ l. all t (lane_names l)) (other b.id) m.lanes lane-names))

        roads-pass : all t (each (λ r. r.id ∷ r.lanes) m.roads) ≡ true → all t (each (λ r. r.id ∷ r.lanes) n.roads) ≡ true
        roads-pass = all-part t (each-image (λ r. r.id ∷ r.lanes) (road_lanes (without b.id)) (λ r. also (part_without b.id r.lanes)) (part-whole m.roads))

        junctions-pass : all t (each (λ j. j.id ∷ j.lanes) m.junctions) ≡ true → all t (each (λ j. j.id ∷ j.lanes) n.junctions) ≡ true
        junctions-pass = all-part t (each-image (λ j. j.id ∷ j.lanes) (junction_lanes (without b.id)) (λ j. also (part_without b.id j.lanes)) (part-whole m.junctions))

        rules-pass : all t (each rule_names m.rules) ≡ true → all t (each rule_names n.rules) ≡ true
        rules-pass h =
            let f = rule_lanes (replace_lane a.id b.id) (replace_lane a.id b.id) in
            all-each t rule_names n.rules
            ∙ (all_map (λ r. all t (rule_names r)) f m.rules
            ∙ all-weaken (λ r. all t (rule_names r)) (λ r. all t (rule_names (f r))) m.rules (rule-passes t a.id b.id names-a.own)
            (sym (all-each t rule_names m.rules) ∙ h))
