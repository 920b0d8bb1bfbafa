-- split_lane: its change set is exact. Assumes nothing.
use mathlib.Core.Path.{◌≡◌, refl, sym, ap, ◌∙◌}
use mathlib.Core.Bool.{Bool, true, false, not}
use mathlib.Core.List.{List, [], ◌++◌, map}
use Prim.Native.Nat.{ℕ, ◌≤◌, ◌<◌}
use native.Mathlib.Omega.{arith}
use lib.Dec.{ltb, leb}
use borrow.Author.Tests.{ltb-true, leb-true}
use Rattle.lists.specs.Every.{all}
use Rattle.lists.specs.Select.{any, each, has, insert_after}
use Rattle.lists.proofs.Select.{all_map, all-has, all-weaken, keys-map}
use Rattle.entities.specs.declared.EntityKind.{EntityKind}
use Rattle.entities.specs.declared.EntityKind.TheVariants as K
use Rattle.entities.specs.Records.{Rule, Map, Issue}
use Rattle.rules.specs.Map.{lane_ids}
use Rattle.rules.specs.Sound.{ids_ascend, links_reciprocal}
use Rattle.rules.specs.Edit.{refs}
use Rattle.rules.specs.Lane.{road_lanes, junction_lanes, rule_lanes}
use Rattle.rules.specs.Split.{LanePlan, Piece, halves, new_pieces, rule_differs}
use Rattle.rules.specs.Demand.{row_in, row_of, lane_row, boundary_row, road_row, junction_row, rule_row, Exact}
use Rattle.laws.proofs.Entities.{Keys, keys_of, ids_of}
use Rattle.laws.proofs.KeptRows.{still-row}
use Rattle.laws.proofs.Find.{numbered, numbered-from}
use Rattle.laws.proofs.Grow.{More}
use Rattle.laws.proofs.GrowRows.{Tests, changed_rows, changed_of, rows-exact}
use Rattle.laws.proofs.SplitLanes.{map-map, second_id, half_pair, halves-numbered, Cutting}
use Rattle.laws.proofs.SplitLinks.{cut-ids}
use Rattle.laws.proofs.SplitPieces.{up-from}
use Rattle.laws.proofs.SplitSound.{divided, Drawing, boundary-ids}
use Rattle.laws.proofs.SplitRows.{lane_test, boundary_test, lane-same, boundary-same, road_still, junction_still, rule-still}

-- ---- general

-- a number above every number of a list is not in it
pub above-none : (n i : ℕ) (ids : List ℕ) → all (λ j. ltb j n) ids ≡ true → n ≤ i → not (has i ids) ≡ true
above-none n i ids a h = go (has i ids) refl
  where
    clash : i < n → ⊥
    clash u = omega arith

    go : (b : Bool) → has i ids ≡ b → not b ≡ true
    go false q = refl
    go true q = absurd (clash (ltb-true i n (all-has (λ j. ltb j n) i ids a q)))

pub above-all-none : (n : ℕ) (ids new : List ℕ) → all (λ j. ltb j n) ids ≡ true → all (leb n) new ≡ true → all (λ i. not (has i ids)) new ≡ true
above-all-none n ids new a h = all-weaken (leb n) (λ i. not (has i ids)) new (λ i t. above-none n i ids a (leb-true n i t)) h

-- ---- the lists

-- the ids of the second halves
abbrev pub seconds : List LanePlan → ℕ → List ℕ
seconds ps next = map (λ (h : ℕ × ℕ). h.1) (halves next ps)

-- the rows that change, by the ids of the cut lanes
abbrev pub cut_tests : (Rule → List ℕ → List ℕ) → Map → List LanePlan → List Piece → ℕ → List ℕ → Tests
cut_tests f m ps xs next group =
    record {
      of-lane = lane_test m group;
      of-boundary = boundary_test xs;
      of_road = λ r. any (λ i. has i group) r.lanes;
      of_junction = λ j. any (λ i. has i group) j.lanes;
      of-rule = λ r. rule_differs r (rule_lanes (f r) (insert_after (halves next ps)) r);
    }

module _ (f : Rule → List ℕ → List ℕ) (m : Map) (ps : List LanePlan) (xs : List Piece) (next : ℕ) (c : Cutting m ps next) where
  abbrev hs : List (ℕ × ℕ)
  hs = halves next ps

  abbrev after : Map
  after = divided f m ps xs next

  pub seconds-are : seconds ps next ≡ map second_id (numbered next ps)
  seconds-are = ap (λ ks. map (λ (h : ℕ × ℕ). h.1) ks) (halves-numbered next ps) ∙ map-map (λ (h : ℕ × ℕ). h.1) half_pair (numbered next ps)

  more : (start : ℕ) → Drawing m xs start → More m after (seconds ps next) (map (λ b. b.id) (each new_pieces xs))
  more start d =
      record {
        lanes-are = cut-ids m ps next c xs ∙ ap (λ is. lane_ids m ++ is) (sym seconds-are);
        boundaries-are = boundary-ids f m ps xs next c;
        roads-are = keys-map (λ r. r.id) (road_lanes (insert_after hs)) (λ r. refl) m.roads;
        junctions-are = keys-map (λ j. j.id) (junction_lanes (insert_after hs)) (λ j. refl) m.junctions;
        rules-are = keys-map (λ r. r.id) (λ r. rule_lanes (f r) (insert_after hs) r) (λ r. refl) m.rules;
        stop-lines-are = refl;
        crosswalks-are = refl;
        lanes-new =
            above-all-none next (lane_ids m) (seconds ps next) c.fresh
            (ap (all (leb next)) seconds-are ∙ (all_map (leb next) second_id (numbered next ps) ∙ numbered-from next ps next (omega arith)));
        boundaries-new = above-all-none start (map (λ b. b.id) m.boundaries) (map (λ b. b.id) (each new_pieces xs)) d.boundaries-fresh (new-from start d);
      }
    where
      new-from : (start : ℕ) (d : Drawing m xs start) → all (leb start) (map (λ b. b.id) (each new_pieces xs)) ≡ true
      new-from start d = ap (all (leb start)) d.counted ∙ up-from start d.count start (omega arith)

  row_same : links_reciprocal m ≡ true → Keys m → (start : ℕ) → Drawing m xs start → (k : EntityKind) (i : ℕ) → has i (ids_of m k) ≡ true
      → has i (changed_of (cut_tests f m ps xs next (map (λ (h : ℕ × ℕ). h.0) (halves next ps))) m k) ≡ false → row_in m k i ≡ row_in after k i
  row_same recip u start d K.Lane i t h = ap (row_of lane_row) (lane-same m ps next c recip xs i t h)
  row_same recip u start d K.Boundary i t h =
      ap (row_of boundary_row)
      (boundary-same m xs start d.boundaries-up d.boundaries-fresh
      (sym (all_map (leb start) (λ b. b.id) (each new_pieces xs)) ∙ (ap (all (leb start)) d.counted ∙ up-from start d.count start (omega arith))) i t h)
  row_same recip u start d K.Road i t h =
      ap (row_of road_row) (still-row (λ r. r.id) (road_lanes (insert_after hs)) (λ r. refl) (λ r. any (λ i. has i (map (λ (h : ℕ × ℕ). h.0) hs)) r.lanes) (road_still hs) i
      m.roads u.roads-up h)
  row_same recip u start d K.Junction i t h =
      ap (row_of junction_row)
      (still-row (λ j. j.id) (junction_lanes (insert_after hs)) (λ j. refl) (λ j. any (λ i. has i (map (λ (h : ℕ × ℕ). h.0) hs)) j.lanes) (junction_still hs) i
      m.junctions u.junctions-up h)
  row_same recip u start d K.StopLine i t h = refl
  row_same recip u start d K.TrafficSignal i t h = refl
  row_same recip u start d K.Crosswalk i t h = refl
  row_same recip u start d K.RegulatoryElement i t h =
      ap (row_of rule_row)
      (still-row (λ r. r.id) (λ r. rule_lanes (f r) (insert_after hs) r) (λ r. refl) (λ r. rule_differs r (rule_lanes (f r) (insert_after hs) r))
      (λ r. rule-still (f r) (insert_after hs) r) i m.rules
      u.rules-up h)

  -- Created, modified and deleted are exact.
  pub split-exact : links_reciprocal m ≡ true → ids_ascend m ≡ true → (start : ℕ) → Drawing m xs start → ids_ascend after ≡ true → (ws : List Issue)
      → Exact m
      (record {
        created = refs K.Lane (seconds ps next) ++ refs K.Boundary (map (λ b. b.id) (each new_pieces xs));
        modified = changed_rows (cut_tests f m ps xs next (map (λ (h : ℕ × ℕ). h.0) (halves next ps))) m;
        deleted = [];
        warnings = ws;
      })
      after
  split-exact recip ids start d up ws =
      rows-exact (cut_tests f m ps xs next (map (λ (h : ℕ × ℕ). h.0) (halves next ps))) m after (seconds ps next) (map (λ b. b.id) (each new_pieces xs)) (more start d) up
      (row_same recip (keys_of m ids) start d) ws
