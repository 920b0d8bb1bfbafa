-- Lists of entities written one behind the other, kind by kind. Assumes nothing.
use mathlib.Core.Path.{◌≡◌, refl, sym, ap, ◌∙◌}
use mathlib.Core.Bool.{Bool, true, false, not, ◌&&◌}
use mathlib.Core.List.{List, [], ◌∷◌, ◌++◌, append_assoc}
use Prim.Native.Nat.{ℕ, ◌+◌, ◌*◌, ◌≤◌, ◌<◌}
use native.Mathlib.Omega.{arith}
use lib.Dec.{eqb}
use lib.ListN.{length, get_or, drop, length-append, length-map}
use Rattle.lists.specs.Rows.{over}
use Rattle.lists.specs.Select.{has, each}
use Rattle.lists.proofs.Rows.{over-over, length_over, length-keys}
use Rattle.lists.proofs.Select.{each_append, length-keep}
use Rattle.entities.specs.Types.{kind_number}
use Rattle.rules.specs.Names.{EntityKind, EntityRef, LaneKind, BoundaryKind, RoadKind, JunctionKind, StopLineKind, CrosswalkKind, RuleKind}
use Rattle.rules.specs.Edit.{refs, when}
use Rattle.tables.specs.View.{Tables, word, lane_words, boundary_words, road_words, junction_words, rule_words, stop_line_words, crosswalk_words}
use Rattle.report.specs.Report.{entity_words, listed}
use Rattle.report.proofs.Laws.{pairs, pairs_of, pairs-are, length-entities, listed_nil}
use Rattle.lookup.specs.Lookup.{sorted_table}
use Rattle.lookup.proofs.Laws.{sorted-few}
use Rattle.job_marks.specs.Marks.{lane_marks, boundary_marks, road_marks, junction_marks, stop_line_marks, crosswalk_marks, rule_marks}
use Rattle.job_marks.proofs.Sorted.{sorted-wider}
use Rattle.job_net.proofs.Listing.{when-few}
use Rattle.job_net.specs.Net.{table_ids, absent_in, marked_in, picked_in, only_in, marked_both, all_picked}

-- ---- at most as many ids as rows

absent-few : (limit s : ℕ) (t o : List ℕ) → sorted_table limit s t ≡ true → length (absent_in (table_ids s o) (table_ids s t)) ≤ limit
unfolding absent_in
absent-few limit s t o h = omega (arith, length-keep (λ i. not (has i (table_ids s o))) (table_ids s t), length-keys s (word 0 t) (drop 1 t), sorted-few limit s t h)

length_marked : (others ms ids : List ℕ) → length (marked_in others ms ids) ≤ length ids
unfolding marked_in
length_marked others ms [] = omega arith
length_marked others ms (i ∷ ids) =
    let b = eqb (get_or ms 0 0) 1 && has i others in
    omega (arith, length-append (when b i) (marked_in others (drop 1 ms) ids), when-few b i, length_marked others (drop 1 ms) ids)

marked-few : (limit s : ℕ) (t o ms : List ℕ) → sorted_table limit s t ≡ true → length (marked_in (table_ids s o) ms (table_ids s t)) ≤ limit
marked-few limit s t o ms h = omega (arith, length_marked (table_ids s o) ms (table_ids s t), length-keys s (word 0 t) (drop 1 t), sorted-few limit s t h)

pub picked-few : (kept : Bool) (limit s : ℕ) (t o ms : List ℕ) → sorted_table limit s t ≡ true → length (picked_in kept (table_ids s o) ms (table_ids s t)) ≤ limit
picked-few true limit s t o ms h = marked-few limit s t o ms h
picked-few false limit s t o ms h = absent-few limit s t o h

-- ---- what is written so far: n entities, at most so many

pub record Written (w : List ℕ) (es : List EntityRef) (most : ℕ) (out : List ℕ) (n : ℕ) : Type 0 where
  pub many : n ≡ length es
  pub few : n ≤ most
  pub words : out ≡ listed w es

pub written_none : (w : List ℕ) → Written w [] 0 w 0
written_none w = record { many = refl; few = omega arith; words = sym (listed_nil w) }

module _ (w : List ℕ) (room : 13568 ≤ length w) {es : List EntityRef} {most : ℕ} {out : List ℕ} {n : ℕ} (m : Written w es most out n) where
  filled : most ≤ 6784 → 0 + length (each entity_words es) ≤ length w
  filled l = omega (arith, length-entities es, m.many, m.few)

  pub written-length : most ≤ 6784 → length out ≡ length w
  unfolding listed
  written-length l = ap length m.words ∙ length_over w 0 (each entity_words es) (filled l)

  -- the next kind's may be written
  pub may-list : (limit s : ℕ) (t o : List ℕ) → 0 < s → limit ≤ 4096 → most + limit ≤ 6784 → sorted_table limit s t ≡ true → sorted_table limit s o ≡ true
      → (0 < s) × ((sorted_table 4096 s t ≡ true) × ((sorted_table 4096 s o ≡ true) × ((n + word 0 t) * 2 ≤ length out)))
  may-list limit s t o p l k h g =
      (p, (sorted-wider limit 4096 s t l h, (sorted-wider limit 4096 s o l g, omega (arith, sorted-few limit s t h, m.few, written-length (omega arith)))))

  pub written-more : (q : EntityKind) (ids : List ℕ) (limit : ℕ) → length ids ≤ limit → most + limit ≤ 6784 → (r : ℕ) (v : List ℕ)
      → (r ≡ n + length ids) × (v ≡ over out (n * 2) (pairs_of (kind_number q) ids)) → Written w (es ++ refs q ids) (most + limit) v r
  unfolding listed
  written-more q ids limit l k r v e =
      let c : length (es ++ refs q ids) ≡ length es + length ids = length-append es (refs q ids) ∙ ap (λ z. length es + z) (length-map ids (λ i. record { kind = q; id = i })) in
      let f : 0 + length (each entity_words es) ≡ n * 2 = omega (arith, length-entities es, m.many) in
      let g : n * 2 ≤ length w = omega (arith, m.few) in
      record {
        many = omega (arith, e.0, m.many, c);
        few = omega (arith, e.0, m.few);
        words =
            e.1
            ∙ (ap (over out (n * 2)) (pairs-are q (kind_number q) ids refl)
            ∙ (ap (λ z. over z (n * 2) (pairs q ids)) m.words
            ∙ (over-over w 0 (n * 2) (each entity_words es) (pairs q ids) f g ∙ ap (over w 0) (sym (each_append entity_words es (refs q ids))))));
      }

  pub written_is : (whole : List EntityRef) → es ≡ whole → (n ≡ length whole) × (out ≡ listed w whole)
  written_is whole e = (m.many ∙ ap length e, m.words ∙ ap (listed w) e)

-- ---- one kind behind the others

module _ (kept : Bool) (ms w : List ℕ) (marks : length ms ≡ 6784) (room : 13568 ≤ length w) where
  -- what a call that lists a kind says
  abbrev pub Told : ℕ → ℕ → List ℕ → List ℕ → EntityKind → ℕ → List ℕ → ℕ → List ℕ → Type 0
  Told first s t o q n out r v =
      let ids = picked_in kept (table_ids s o) (drop first ms) (table_ids s t) in
      (r ≡ n + length ids) × (v ≡ over out (n * 2) (pairs_of (kind_number q) ids))

  module _ {es : List EntityRef} {most : ℕ} {out : List ℕ} {n : ℕ} (m : Written w es most out n) (limit s first : ℕ) (t o : List ℕ) (h : sorted_table limit s t ≡ true) where
    pub kind-may : 0 < s → limit ≤ 4096 → most + limit ≤ 6784 → first + limit ≤ 6784 → sorted_table limit s o ≡ true
        → (0 < s) × ((sorted_table 4096 s t ≡ true) × ((sorted_table 4096 s o ≡ true) × ((first + word 0 t ≤ length ms) × ((n + word 0 t) * 2 ≤ length out))))
    kind-may p l k f g =
        let may = may-list w room m limit s t o p l k h g in
        (may.0, (may.1.0, (may.1.1.0, (omega (arith, marks, f, sorted-few limit s t h), may.1.1.1))))

    pub kind-written : most + limit ≤ 6784 → (q : EntityKind) (r : ℕ) (v : List ℕ) → Told first s t o q n out r v
        → Written w (es ++ refs q (picked_in kept (table_ids s o) (drop first ms) (table_ids s t))) (most + limit) v r
    kind-written k q r v e =
        written-more w room m q (picked_in kept (table_ids s o) (drop first ms) (table_ids s t)) limit (picked-few kept limit s t o (drop first ms) h) k r v e

-- ---- kind by kind, as they are written

abbrev pub lanes_picked : Bool → Tables → Tables → List ℕ → List EntityRef
lanes_picked kept t o ms = refs LaneKind (picked_in kept (table_ids lane_words o.lanes) (drop lane_marks ms) (table_ids lane_words t.lanes))

abbrev pub boundaries_picked : Bool → Tables → Tables → List ℕ → List EntityRef
boundaries_picked kept t o ms = lanes_picked kept t o ms ++ refs BoundaryKind (picked_in kept (table_ids boundary_words o.boundaries) (drop boundary_marks ms) (table_ids boundary_words t.boundaries))

abbrev pub roads_picked : Bool → Tables → Tables → List ℕ → List EntityRef
roads_picked kept t o ms = boundaries_picked kept t o ms ++ refs RoadKind (picked_in kept (table_ids road_words o.roads) (drop road_marks ms) (table_ids road_words t.roads))

abbrev pub junctions_picked : Bool → Tables → Tables → List ℕ → List EntityRef
junctions_picked kept t o ms = roads_picked kept t o ms ++ refs JunctionKind (picked_in kept (table_ids junction_words o.junctions) (drop junction_marks ms) (table_ids junction_words t.junctions))

abbrev pub stop_lines_picked : Bool → Tables → Tables → List ℕ → List EntityRef
stop_lines_picked kept t o ms = junctions_picked kept t o ms ++ refs StopLineKind (picked_in kept (table_ids stop_line_words o.stop_lines) (drop stop_line_marks ms) (table_ids stop_line_words t.stop_lines))

abbrev pub crosswalks_picked : Bool → Tables → Tables → List ℕ → List EntityRef
crosswalks_picked kept t o ms = stop_lines_picked kept t o ms ++ refs CrosswalkKind (picked_in kept (table_ids crosswalk_words o.crosswalks) (drop crosswalk_marks ms) (table_ids crosswalk_words t.crosswalks))

abbrev pub rules_picked : Bool → Tables → Tables → List ℕ → List EntityRef
rules_picked kept t o ms = crosswalks_picked kept t o ms ++ refs RuleKind (picked_in kept (table_ids rule_words o.rules) (drop rule_marks ms) (table_ids rule_words t.rules))

regroup : (a b c d e f g : List EntityRef) → a ++ b ++ c ++ d ++ e ++ f ++ g ≡ a ++ (b ++ (c ++ (d ++ (e ++ (f ++ g)))))
regroup a b c d e f g = simp append_assoc

module _ (t o : Tables) (ms : List ℕ) where
  pub all-seven : (kept : Bool) → rules_picked kept t o ms ≡ all_picked kept t o ms
  unfolding only_in marked_both
  all-seven true =
      regroup
      (refs LaneKind (marked_in (table_ids lane_words o.lanes) (drop lane_marks ms) (table_ids lane_words t.lanes)))
      (refs BoundaryKind (marked_in (table_ids boundary_words o.boundaries) (drop boundary_marks ms) (table_ids boundary_words t.boundaries)))
      (refs RoadKind (marked_in (table_ids road_words o.roads) (drop road_marks ms) (table_ids road_words t.roads)))
      (refs JunctionKind (marked_in (table_ids junction_words o.junctions) (drop junction_marks ms) (table_ids junction_words t.junctions)))
      (refs StopLineKind (marked_in (table_ids stop_line_words o.stop_lines) (drop stop_line_marks ms) (table_ids stop_line_words t.stop_lines)))
      (refs CrosswalkKind (marked_in (table_ids crosswalk_words o.crosswalks) (drop crosswalk_marks ms) (table_ids crosswalk_words t.crosswalks)))
      (refs RuleKind (marked_in (table_ids rule_words o.rules) (drop rule_marks ms) (table_ids rule_words t.rules)))
  all-seven false =
      regroup
      (refs LaneKind (absent_in (table_ids lane_words o.lanes) (table_ids lane_words t.lanes)))
      (refs BoundaryKind (absent_in (table_ids boundary_words o.boundaries) (table_ids boundary_words t.boundaries)))
      (refs RoadKind (absent_in (table_ids road_words o.roads) (table_ids road_words t.roads)))
      (refs JunctionKind (absent_in (table_ids junction_words o.junctions) (table_ids junction_words t.junctions)))
      (refs StopLineKind (absent_in (table_ids stop_line_words o.stop_lines) (table_ids stop_line_words t.stop_lines)))
      (refs CrosswalkKind (absent_in (table_ids crosswalk_words o.crosswalks) (table_ids crosswalk_words t.crosswalks)))
      (refs RuleKind (absent_in (table_ids rule_words o.rules) (table_ids rule_words t.rules)))
