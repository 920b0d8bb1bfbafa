-- Of the limits of a merged map only those of boundaries, lines and points are open: every other holds where it held before. Assumes nothing.
use mathlib.Core.Path.{◌≡◌, refl, ap, ◌∙◌}
use Prim.Native.Nat.{ℕ, ◌≤◌}
use native.Mathlib.Omega.{arith}
use mathlib.Core.Bool.{Bool, true, false, not, ◌&&◌, cond}
use mathlib.Core.List.{List, map}
use lib.Dec.{eqb, leb}
use lib.ListN.{length, length-map}
use borrow.Author.Tests.{leb-true, le-leb}
use Rattle.lists.specs.Every.{all}
use Rattle.lists.specs.Select.{keep, has, place, without, ascending}
use Rattle.lists.proofs.Booleans.{and_both, and-fst, and-snd}
use Rattle.lists.proofs.Every.{all-and}
use Rattle.lists.proofs.Select.{ascending-keep, length-keep, length_without}
use Rattle.entities.specs.Records.{Lane, Rule, Map}
use Rattle.rules.specs.Names.{Tolerance}
use Rattle.rules.specs.Sound.{lines, point_count, id_lists, within_limits, links_ascend}
use Rattle.rules.specs.Lane.{road_lanes, junction_lanes, rule_lanes}
use Rattle.rules.specs.Merge.{SidePlan, replace_lane, after_merge}
use Rattle.laws.proofs.Merge.{merged_map, preds_after, succs_after, after_preds, after_succs}
use Rattle.laws.proofs.Part.{Gives, ◌&also◌, stays, within, all-image, part-keep, part-whole}
use Rattle.sound_facts.proofs.Room.{limits}
use Rattle.mentions.proofs.Going.{length-replace}
use Rattle.merge_laid.proofs.Rows.{without-shorter, place-longer}

-- thirteen limits of which three are open
shut : (x y z : Bool) → (x && true && true && true && true && true && y && z && true && true && true && true) ≡ (x && y && z)
shut true true true = refl
shut true true false = refl
shut true false z = refl
shut false y z = refl

three_open : (x y z : Bool) {a c d e f g i j k l : Bool} → a ≡ true → c ≡ true → d ≡ true → e ≡ true → f ≡ true → g ≡ true → i ≡ true → j ≡ true → k ≡ true → l ≡ true
    → (a && x && c && d && e && f && g && y && z && i && j && k && l) ≡ (x && y && z)
three_open x y z p0 p1 p2 p3 p4 p5 p6 p7 p8 p9 = rw (p0, p1, p2, p3, p4, p5, p6, p7, p8, p9) (shut x y z)

-- a lane's links: few, and in order
abbrev few : Lane → Bool
few l = leb (length l.predecessors) 16 && leb (length l.successors) 16

abbrev up : Lane → Bool
up l = ascending l.predecessors && ascending l.successors

module _ (tol : Tolerance) (next : ℕ) (m : Map) (a b : Lane) (pl pr : SidePlan) where
  abbrev after : Map
  after = merged_map tol next m a b pl pr

  pub fewer-lanes : length after.lanes ≤ length m.lanes
  fewer-lanes =
      let q : Lane → Bool = λ l. not (eqb l.id b.id) in
      omega (arith, length-keep q m.lanes, length-map (keep q m.lanes) (after_merge tol next a b pl pr))

  -- ---- links

  preds_few : (l : Lane) → length l.predecessors ≤ 16 → ascending l.predecessors ≡ true → length (preds_after tol next a b pl pr l) ≤ 16
  preds_few l h u = go (has b.id l.predecessors) refl
    where
      rest : List ℕ
      rest = without b.id l.predecessors

      go : (x : Bool) → has b.id l.predecessors ≡ x → length (cond x (place a.id rest) rest) ≤ 16
      go true e =
          omega (
            arith,
            without-shorter b.id l.predecessors e,
            (place-longer a.id rest (unfold without in ascending-keep (λ y. not (eqb b.id y)) l.predecessors u)).1,
          )
      go false e = omega (arith, length_without b.id l.predecessors)

  succs_few : (l : Lane) → length l.successors ≤ 16 → length b.successors ≤ 16 → length (succs_after tol next a b pl pr l) ≤ 16
  succs_few l h k = go (eqb l.id a.id)
    where
      go : (x : Bool) → length (cond x b.successors (without b.id l.successors)) ≤ 16
      go true = k
      go false = omega (arith, length_without b.id l.successors)

  lane-few : length b.successors ≤ 16 → (l : Lane) → Gives (few l && up l) (few (after_merge tol next a b pl pr l))
  lane-few k l =
      record {
        so = λ e.
            let f = and-fst (few l) (up l) e in
            let x = leb (length l.predecessors) 16 in
            let y = leb (length l.successors) 16 in
            let p = leb-true (length l.predecessors) 16 (and-fst x y f) in
            let s = leb-true (length l.successors) 16 (and-snd x y f) in
            let u = and-fst (ascending l.predecessors) (ascending l.successors) (and-snd (few l) (up l) e) in
            let n = after_merge tol next a b pl pr l in
            and_both (leb (length n.predecessors) 16) (leb (length n.successors) 16)
            (ap (λ ids. leb (length ids) 16) (after_preds tol next a b pl pr l) ∙ le-leb (length (preds_after tol next a b pl pr l)) 16 (preds_few l p u))
            (ap (λ ids. leb (length ids) 16) (after_succs tol next a b pl pr l) ∙ le-leb (length (succs_after tol next a b pl pr l)) 16 (succs_few l s k));
      }

  links-few : length b.successors ≤ 16 → all few m.lanes ≡ true → links_ascend m ≡ true → all few after.lanes ≡ true
  unfolding links_ascend
  links-few k h u =
      (all-image (λ l. few l && up l) few (after_merge tol next a b pl pr) (lane-few k) (part-keep (λ l. not (eqb l.id b.id)) m.lanes)).so
      (all-and few up m.lanes ∙ and_both (all few m.lanes) (all up m.lanes) h u)

  -- ---- roads, junctions, rules

  same_length : {A : Type 0} (f : A → A) (xs : List A) (k : ℕ) → Gives (leb (length xs) k) (leb (length (map f xs)) k)
  same_length f xs k = within xs (map f xs) k (let h = length-map xs f in omega arith)

  lost : (ids : List ℕ) → Gives (leb (length ids) 64) (leb (length (without b.id ids)) 64)
  lost ids = within ids (without b.id ids) 64 (length_without b.id ids)

  read : (ids : List ℕ) → Gives (leb (length ids) 64) (leb (length (replace_lane a.id b.id ids)) 64)
  read ids = within ids (replace_lane a.id b.id ids) 64 (length-replace a.id b.id ids)

  rule-few : (r : Rule) → Gives (all (λ ids. leb (length ids) 64) (id_lists r)) (all (λ ids. leb (length ids) 64) (id_lists (rule_lanes (replace_lane a.id b.id) (replace_lane a.id b.id) r)))
  unfolding all
  rule-few r =
      read r.lanes
      &also (stays (leb (length r.controlled_crosswalks) 64) &also (stays (leb (length r.stop_lines) 64) &also (read r.priority &also (read r.yielding &also stays true))))

  -- ---- THE LAW

  pub limits-merged : within_limits m ≡ true → links_ascend m ≡ true → length b.successors ≤ 16
      → within_limits after ≡ (leb (length after.boundaries) 4096 && all (λ c. leb (length c) 256) (lines after) && leb (point_count after) 65536)
  unfolding within_limits
  limits-merged h u k =
      let f = limits m h in
      three_open (leb (length after.boundaries) 4096) (all (λ c. leb (length c) 256) (lines after)) (leb (point_count after) 65536)
      ((within m.lanes after.lanes 1024 fewer-lanes).so f.lanes)
      ((same_length (road_lanes (without b.id)) m.roads 256).so f.roads)
      ((same_length (junction_lanes (without b.id)) m.junctions 256).so f.junctions)
      ((same_length (rule_lanes (replace_lane a.id b.id) (replace_lane a.id b.id)) m.rules 512).so f.rules)
      f.stop_lines
      f.crosswalks
      (links-few k f.links u)
      ((all-image (λ r. leb (length r.lanes) 64) (λ r. leb (length r.lanes) 64) (road_lanes (without b.id)) (λ r. lost r.lanes) (part-whole m.roads)).so f.road_lists)
      ((all-image (λ j. leb (length j.lanes) 64) (λ j. leb (length j.lanes) 64) (junction_lanes (without b.id)) (λ j. lost j.lanes) (part-whole m.junctions)).so f.junction_lists)
      ((all-image (λ r. all (λ ids. leb (length ids) 64) (id_lists r)) (λ r. all (λ ids. leb (length ids) 64) (id_lists r)) (rule_lanes (replace_lane a.id b.id) (replace_lane a.id b.id)) rule-few
      (part-whole m.rules)).so f.rule-lists)
