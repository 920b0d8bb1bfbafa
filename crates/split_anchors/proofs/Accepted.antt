-- An accepted split of a sound map asks what these laws ask; and its rules are stored as their rows follow the marks. Assumes nothing.
use Rattle.std.specs.Prelude.{Some, Ok}
use mathlib.Core.Path.{◌≡◌, sym, ap, ◌∙◌}
use Prim.Native.Nat.{ℕ}
use native.Mathlib.Omega.{arith}
use mathlib.Core.Bool.{Bool, true}
use mathlib.Core.List.{List, map}
use lib.Dec.{ltb}
use lib.Ieee.{Float}
use lib.ListN.{length, take}
use borrow.Author.Tests.{ltb-true, lt-ltb}
use Rattle.lists.specs.Every.{all}
use Rattle.lists.specs.Rows.{over}
use Rattle.lists.proofs.Select.{all_map, all_keep, all-weaken}
use Rattle.entities.specs.declared.Tolerance.{Tolerance}
use Rattle.entities.specs.Records.{Lane, Map}
use Rattle.rules.specs.Names.{Point2}
use Rattle.rules.specs.Map.{lane, lane_ids}
use Rattle.rules.specs.Sound.{sound, ids_named, next_id}
use Rattle.rules.specs.Edit.{Passed}
use Rattle.rules.specs.Split.{LanePlan, lane_plans, all_cross, halves, group_of}
use Rattle.rules.proofs.Facts.{sound-facts}
use Rattle.laws.proofs.Entities.{keys_of}
use Rattle.laws.proofs.SoundParts.{names-ids, names-boundaries}
use Rattle.laws.proofs.SplitLanes.{map-map}
use Rattle.laws.proofs.SplitPlans.{plans-of}
use Rattle.laws.proofs.SplitYield.{cut_of, choice}
use Rattle.laws.proofs.TurnsRows.{cut_in_turns}
use Rattle.tables.specs.View.{rows, lane_of, boundary_of, rule_of, stop_line_of, crosswalk_of}
use Rattle.store.specs.Store.{rule_onto, store_rows}
use Rattle.follows.specs.Following.{rules_follow, Follows}
use Rattle.split_rules.specs.Past.{anchored_by, past_by, Marking}
use Rattle.split_named.proofs.Grown.{halves-numbered}
use Rattle.split_named.proofs.Words.{cut_ids, below}
use Rattle.split_anchors.proofs.Sides.{next, after}
use Rattle.split_anchors.proofs.Centers.{Cut, plans-centered, all_there}
use Rattle.split_anchors.proofs.Told.{rule_told}
use Rattle.split_anchors.proofs.Followed.{rules-told}

module _ (tol : Tolerance) (counter : ℕ) (m : Map) (sane : sound counter m ≡ true) (low : all (λ j. ltb j (next_id counter)) (ids_named m) ≡ true)
    (i : ℕ) (l : Lane) (found : lane m i ≡ Some l) (neighbors : Bool) (at : Float) (p : Point2) (ps : List LanePlan) where
  abbrev group : List ℕ
  group = group_of m i neighbors

  abbrev new : ℕ
  new = next m ps group (cut_of m group) p (next_id counter)

  pub cut-accepted : lane_plans tol m i at p (cut_of m group) ≡ Ok ps → (k : Passed) → all_cross m p (cut_of m group) ≡ Ok k → Cut m ps group (cut_of m group) p (next_id counter)
  cut-accepted plans k cross =
      let keys = keys_of m (sound-facts counter m sane).ids in
      record {
        lines = record { up = keys.boundaries-up; fresh = names-boundaries (λ j. ltb j (next_id counter)) m low };
        lanes =
            record {
              choice = choice tol counter m keys.lanes-up i l found neighbors at p ps plans;
              fresh = all-weaken (λ j. ltb j (next_id counter)) (λ j. ltb j new) (lane_ids m) (λ j t. let u = ltb-true j (next_id counter) t in lt-ltb j new (omega arith)) (names-ids (λ j. ltb j (next_id counter)) m low);
            };
        of-plans = plans-of tol m i at p (cut_of m group) ps plans;
        centered = plans-centered tol m i at p (cut_of m group) ps plans;
        present = all_there m p (cut_of m group) k cross;
      }

module _ (m : Map) (ps : List LanePlan) (group : List ℕ) (ls : List Lane) (p : Point2) (start : ℕ) (h : Cut m ps group ls p start) where
  abbrev fresh : ℕ
  fresh = next m ps group ls p start

  abbrev then : Map
  then = after m ps group ls p start

  pub cuts-below : below fresh (cut_ids ps)
  cuts-below =
      let c = h.lanes.choice in
      ap (all (λ i. ltb i fresh)) (sym (map-map (λ l. l.id) (λ x. x.of) ps) ∙ ap (map (λ l. l.id)) c.planned)
      ∙ (all_map (λ i. ltb i fresh) (λ l. l.id) _ ∙ all_keep (λ l. ltb l.id fresh) c.chosen m.lanes (sym (all_map (λ i. ltb i fresh) (λ l. l.id) m.lanes) ∙ h.lanes.fresh))

  -- the rules whose lanes follow in turns, stored, are the rows that follow the marks found before the cut
  pub rules-after : (c : List Float) (lanes boundaries : List ℕ) → m.lanes ≡ rows 52 (lane_of c) lanes → m.boundaries ≡ rows 5 (boundary_of c) boundaries
      → (stations : List Float) → take (length ps) stations ≡ map (λ x. x.station) ps
      → (join : Float) (stops crosswalks : List ℕ) → m.stop_lines ≡ rows 4 (stop_line_of c) stops → m.crosswalks ≡ rows 7 (crosswalk_of c) crosswalks
      → (t : List ℕ) (anchored past : List Bool) → Marking c lanes boundaries (cut_ids ps) stations t stops crosswalks anchored past
      → Follows (over anchored 0 (anchored_by c stops crosswalks (cut_ids ps) t)) (past_by join c lanes boundaries p (cut_ids ps) stations stops crosswalks t past) fresh (cut_ids ps) t
      → store_rows 330 rule_onto (λ r. r.id) t (map (cut_in_turns join then fresh ps (halves fresh ps)) (rows 330 rule_of t))
      ≡ rules_follow (over anchored 0 (anchored_by c stops crosswalks (cut_ids ps) t)) (past_by join c lanes boundaries p (cut_ids ps) stations stops crosswalks t past) fresh (cut_ids ps) t
  rules-after c lanes boundaries e1 e2 stations e3 join stops crosswalks e4 e5 t anchored past g f =
      ap (λ hs. store_rows 330 rule_onto (λ r. r.id) t (map (cut_in_turns join then fresh ps hs) (rows 330 rule_of t))) (halves-numbered fresh ps)
      ∙ rules-told join then fresh ps cuts-below (over anchored 0 (anchored_by c stops crosswalks (cut_ids ps) t)) (past_by join c lanes boundaries p (cut_ids ps) stations stops crosswalks t past) t f
      (λ i d. rule_told m ps group ls p start h c lanes boundaries e1 e2 stations e3 join stops crosswalks e4 e5 t anchored past g i d)
