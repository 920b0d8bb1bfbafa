-- What remove_lane asks of a sound map, and its ends as the one equation with `step`. Assumes nothing.
use Rattle.std.specs.Prelude.{Float, None, Some}
use mathlib.Core.Path.{◌≡◌, refl, sym, ap, ◌∙◌}
use mathlib.Core.List.{List}
use Prim.Native.Nat.{ℕ, ◌≤◌}
use mathlib.Core.Bool.{true}
use lib.Dec.{leb}
use Rattle.lists.proofs.Booleans.{and_both}
use Rattle.rules.specs.Names.{Tolerance, LaneAbsent}
use Rattle.rules.specs.Sound.{last_counter}
use Rattle.rules.specs.Ops as O
use Rattle.tables.specs.View.{Tables, word, view, lane_of}
use Rattle.tables.specs.Formed.{sound_tables, counted, lane_formed, rule_formed}
use Rattle.row_tests.specs.Good.{all_rows}
use Rattle.row_tests.specs.Returned.{lane_at}
use Rattle.soundness.proofs.Back.{formed-parts}
use Rattle.lookup.specs.Lookup.{place_of}
use Rattle.laws.proofs.Links.{lane-id}
use Rattle.sound_facts.proofs.Stored.{formed-counts, lane-key}
use Rattle.sound_facts.proofs.Facts.{facts}
use Rattle.step.specs.Step.{Lent, ended, step, refusing}
use Rattle.report.specs.Report.{Answer}
use Rattle.sound_facts.proofs.Found.{sound-formed, lane-there, lane-missing, lanes_are_sorted, leads-may}
use Rattle.mentions.specs.Naming.{table_formed}
use Rattle.unused.specs.Parts.{Formed, Removable, Removed, tables, removed, gone_with, without_lane}
use Rattle.edit_lane.proofs.Steps.{lane-absent, step-removed, spread, given}

-- ---- the tables of a sound map

module _ (counter : ℕ) (t : Tables) (h : sound_tables counter t ≡ true) where
  all-formed : Formed t.lanes t.roads t.junctions t.rules
  unfolding table_formed
  all-formed =
      let n = formed-counts t (sound-formed counter t h) in
      let p = formed-parts t (sound-formed counter t h) in
      record {
        lanes = and_both (counted 1024 52 t.lanes) (all_rows 52 lane_formed t.lanes) n.lanes p.lanes;
        roads = and_both (counted 256 68 t.roads) (all_rows 68 (λ w. leb (word 3 w) 64) t.roads) n.roads p.roads;
        junctions = and_both (counted 256 69 t.junctions) (all_rows 69 (λ w. leb (word 4 w) 64) t.junctions) n.junctions p.junctions;
        rules = and_both (counted 512 330 t.rules) (all_rows 330 rule_formed t.rules) n.rules p.rules;
      }

  pub may-remove : (a i : ℕ) → place_of 52 t.lanes a ≡ Some i → Removable t.lanes i t.boundaries t.roads t.junctions t.rules
  may-remove a i e =
      record {
        lanes_are_sorted = lanes_are_sorted counter t h;
        row = (leads-may counter t h a i e).1;
        boundaries_are_sorted = (facts counter t h).boundaries;
        formed = all-formed;
      }

-- ---- the ends

module _ (tol : Tolerance) (l : Lent) (h : sound_tables l.counter l.tables ≡ true) (a : ℕ) where
  pub absent : place_of 52 l.tables.lanes a ≡ None → refusing l (LaneAbsent a) ≡ step tol (O.RemoveLane a) l
  absent e = lane-absent tol l h a (lane-missing l.tables a e)

  pub ends : l.counter ≤ last_counter → (i : ℕ) → place_of 52 l.tables.lanes a ≡ Some i → (r : Removed)
      → r ≡ without_lane (word 0 (lane_at l.tables.lanes i)) (gone_with l.tables.lanes i l.tables.boundaries) (given l.tables) l.modified l.deleted l.warnings
      → spread l r ≡ step tol (O.RemoveLane a) l
  ends k i e r q =
      let there = lane-there l.tables a i e in
      let own : word 0 (lane_at l.tables.lanes i) ≡ a =
      sym (lane-key l.tables.coordinates (lane_at l.tables.lanes i)) ∙ lane-id (view l.tables) a (lane_of l.tables.coordinates (lane_at l.tables.lanes i)) there in
      ap (spread l) (q ∙ ap (λ z. without_lane z (gone_with l.tables.lanes i l.tables.boundaries) (given l.tables) l.modified l.deleted l.warnings) own)
      ∙ step-removed tol l h a k i own there

  -- with the new slices as they came back: the four that a removal leaves alone hold what they held
  pub ends-with : l.counter ≤ last_counter → (i : ℕ) → place_of 52 l.tables.lanes a ≡ Some i → (t : Tables) (c m d w : List ℕ) (r : Answer)
      → removed (tables t.lanes t.boundaries t.roads t.junctions t.rules) m d w r
      ≡ without_lane (word 0 (lane_at l.tables.lanes i)) (gone_with l.tables.lanes i l.tables.boundaries) (given l.tables) l.modified l.deleted l.warnings
      → (t.stop_lines ≡ l.tables.stop_lines) × (t.crosswalks ≡ l.tables.crosswalks) × (t.coordinates ≡ l.tables.coordinates) × (c ≡ l.created)
      → ended (record { counter = l.counter; tables = t; created = c; modified = m; deleted = d; warnings = w }) r ≡ step tol (O.RemoveLane a) l
  ends-with k i e t c m d w r q p = kept p.0 p.1 p.2 p.3 ∙ ends k i e (removed (tables t.lanes t.boundaries t.roads t.junctions t.rules) m d w r) q
    where
      kept : {x y v : List ℕ} {z : List Float} → t.stop_lines ≡ x → t.crosswalks ≡ y → t.coordinates ≡ z → c ≡ v
          → ended (record { counter = l.counter; tables = t; created = c; modified = m; deleted = d; warnings = w }) r
          ≡ ended (record { counter = l.counter; tables = record t { stop_lines = x; crosswalks = y; coordinates = z }; created = v; modified = m; deleted = d; warnings = w }) r
      kept e f g h = rw (sym e, sym f, sym g, sym h) refl
