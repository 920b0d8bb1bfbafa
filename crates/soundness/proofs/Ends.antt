-- Each end of the test, from what its parts found.
use mathlib.Core.Path.{◌≡◌, refl, sym, ◌∙◌}
use mathlib.Core.Bool.{Bool, true, false, ◌&&◌, true≢false}
use mathlib.Core.List.{List, [], ◌∷◌}
use Prim.Native.Nat.{ℕ, suc, ◌^◌, ◌≤◌}
use native.Mathlib.Omega.{arith}
use mir.Syntax.{w64}
use mir.Val.{Fits}
use borrow.Author.Tests.{lt-ltb}
use lib.ListN.{get_or}
use Rattle.lists.specs.Every.{all}
use Rattle.lists.proofs.Booleans.{and_both, and-fst, and-snd, same_test}
use Rattle.rules.specs.Sound.{last_counter, links_reciprocal, neighbors_reciprocal}
use Rattle.tables.specs.View.{Tables, rows, view}
use Rattle.tables.specs.Formed.{stored, spans, all_clear, formed, sound_tables}
use Rattle.apart.specs.Marks.{takeable}
use Rattle.apart.proofs.Stored.{takeable-of}
use Rattle.row_tests.specs.Good.{largest_id, all_rows, lane_good, boundary_good, road_good, junction_good, rule_good, stop_line_good, crosswalk_good}
use Rattle.row_tests.specs.Returned.{searchable, lane_returned, slots_returned}
use Rattle.row_tests.proofs.Relations.{links-tie, neighbors-tie}
use Rattle.soundness.specs.Parts.{all_counted, all_good, all_ascend, ascends}
use Rattle.soundness.proofs.Pointwise.{ok}
use Rattle.soundness.proofs.Parts.{lane-parts, boundary-parts, stop-line-parts, crosswalk-parts}
use Rattle.soundness.proofs.Whole.{all-stored}
use Rattle.soundness.proofs.Words.{AllHeld}
use Rattle.soundness.proofs.Verdict.{Tested, tested-sound, line-parts, five}
use Rattle.soundness.proofs.Back.{and7, formed-parts, sound-tested}
use Rattle.soundness.proofs.Few.{few-points}
use Rattle.soundness.proofs.Counts.{counts}

refuted : (b : Bool) → (b ≡ true → ⊥) → false ≡ b
refuted true h = absurd (h refl)
refuted false h = refl

-- the words of a lent slice of u64
pub fits-ok : (w : List ℕ) → ((i : ℕ) → Fits w64 (get_or w i 0)) → all ok w ≡ true
unfolding all
fits-ok [] h = refl
fits-ok (x ∷ w) h = and_both (ok x) (all ok w) (lt-ltb x (2 ^ 64) (omega (arith, h 0))) (fits-ok w (λ i. h (suc i)))

-- the words of the seven tables are u64
pub record Words (t : Tables) : Type 0 where
  pub lanes : all ok t.lanes ≡ true
  pub boundaries : all ok t.boundaries ≡ true
  pub roads : all ok t.roads ≡ true
  pub junctions : all ok t.junctions ≡ true
  pub rules : all ok t.rules ≡ true
  pub stop_lines : all ok t.stop_lines ≡ true
  pub crosswalks : all ok t.crosswalks ≡ true

module _ (counter : ℕ) (t : Tables) (small : counter ≤ last_counter) (words : Words t) where
  held : all_counted t ≡ true → AllHeld t
  held n =
      let k = counts t n in
      record {
        lanes = record { count = k.lanes; words = words.lanes };
        boundaries = record { count = k.boundaries; words = words.boundaries };
        roads = record { count = k.roads; words = words.roads };
        junctions = record { count = k.junctions; words = words.junctions };
        rules = record { count = k.rules; words = words.rules };
        stop_lines = record { count = k.stop_lines; words = words.stop_lines };
        crosswalks = record { count = k.crosswalks; words = words.crosswalks };
      }

  -- the seven tests of rows
  record Rows : Type 0 where
    lanes : all_rows 52 (lane_good (largest_id counter) t.coordinates) t.lanes ≡ true
    boundaries : all_rows 5 (boundary_good (largest_id counter) t.coordinates) t.boundaries ≡ true
    roads : all_rows 68 (road_good (largest_id counter)) t.roads ≡ true
    junctions : all_rows 69 (junction_good (largest_id counter)) t.junctions ≡ true
    rules : all_rows 330 (rule_good (largest_id counter)) t.rules ≡ true
    stop_lines : all_rows 4 (stop_line_good (largest_id counter) t.coordinates) t.stop_lines ≡ true
    crosswalks : all_rows 7 (crosswalk_good (largest_id counter) t.coordinates) t.crosswalks ≡ true

  good-rows : all_good (largest_id counter) t ≡ true → Rows
  unfolding all_good
  good-rows h =
      let (a, b, c, d, e, f, g) = and7 (all_rows 52 (lane_good (largest_id counter) t.coordinates) t.lanes) (all_rows 5 (boundary_good (largest_id counter) t.coordinates) t.boundaries)
      (all_rows 68 (road_good (largest_id counter)) t.roads) (all_rows 69 (junction_good (largest_id counter)) t.junctions) (all_rows 330 (rule_good (largest_id counter)) t.rules)
      (all_rows 4 (stop_line_good (largest_id counter) t.coordinates) t.stop_lines) (all_rows 7 (crosswalk_good (largest_id counter) t.coordinates) t.crosswalks) h in
      record { lanes = a; boundaries = b; roads = c; junctions = d; rules = e; stop_lines = f; crosswalks = g }

  rows-good : Rows → all_good (largest_id counter) t ≡ true
  unfolding all_good
  rows-good r = rw (r.lanes, r.boundaries, r.roads, r.junctions, r.rules, r.stop_lines, r.crosswalks)

  -- every line lies in the store
  pub stored-all : all_counted t ≡ true → all_good (largest_id counter) t ≡ true → all (stored t.coordinates) (spans t) ≡ true
  stored-all n g =
      let h = held n in
      let r = good-rows g in
      let c = t.coordinates in
      let most = largest_id counter in
      let b = boundary-parts most c t.boundaries h.boundaries r.boundaries in
      let l = lane-parts most c t.lanes h.lanes r.lanes in
      let s = stop-line-parts most c t.stop_lines h.stop_lines r.stop_lines in
      let x = crosswalk-parts most c t.crosswalks h.crosswalks r.crosswalks in
      all-stored c t
      ∙ five (line-parts c 5 2 t.boundaries b.lines).store l.store (line-parts c 4 1 t.stop_lines s.lines).store
      (line-parts c 7 1 t.crosswalks x.left-lines).store (line-parts c 7 3 t.crosswalks x.right-lines).store

  -- what `lines_clear` asks for
  pub may-take : all_counted t ≡ true → all_good (largest_id counter) t ≡ true → takeable 65536 t.lanes t.boundaries t.stop_lines t.crosswalks ≡ true
  may-take n g = let h = held n in takeable-of t h.lanes.count h.boundaries.count h.stop_lines.count h.crosswalks.count (stored-all n g)

  -- what the searches ask for
  pub may-search : all_counted t ≡ true → (all_good (largest_id counter) t && all_ascend t) ≡ true → searchable t.lanes ≡ true
  unfolding searchable all_ascend all_rows
  may-search n b =
      let h = held n in
      let r = good-rows (and-fst (all_good (largest_id counter) t) (all_ascend t) b) in
      let l = lane-parts (largest_id counter) t.coordinates t.lanes h.lanes r.lanes in
      let (k, _, _, _, _, _, _) = and7 (ascends 52 t.lanes) (ascends 5 t.boundaries) (ascends 68 t.roads) (ascends 69 t.junctions) (ascends 330 t.rules)
      (ascends 4 t.stop_lines) (ascends 7 t.crosswalks) (and-snd (all_good (largest_id counter) t) (all_ascend t) b) in
      rw (h.lanes.count, k, l.formed)

  tested : all_counted t ≡ true → (all_good (largest_id counter) t && all_ascend t) ≡ true → all_clear (spans t) ≡ true → links_reciprocal (view t) ≡ true → neighbors_reciprocal (view t) ≡ true → Tested counter t
  unfolding all_ascend
  tested n b a l nb =
      let g = and-fst (all_good (largest_id counter) t) (all_ascend t) b in
      let r = good-rows g in
      let (k1, k2, k3, k4, k5, k6, k7) = and7 (ascends 52 t.lanes) (ascends 5 t.boundaries) (ascends 68 t.roads) (ascends 69 t.junctions) (ascends 330 t.rules)
      (ascends 4 t.stop_lines) (ascends 7 t.crosswalks) (and-snd (all_good (largest_id counter) t) (all_ascend t) b) in
      record {
        lanes = r.lanes;
        boundaries = r.boundaries;
        roads = r.roads;
        junctions = r.junctions;
        rules = r.rules;
        stop_lines = r.stop_lines;
        crosswalks = r.crosswalks;
        lane-keys = k1;
        boundary-keys = k2;
        road_keys = k3;
        junction_keys = k4;
        rule-keys = k5;
        stop-line-keys = k6;
        crosswalk-keys = k7;
        apart = a;
        total = few-points t (stored-all n g) a;
        links = l;
        neighbors = nb;
      }

  links-is : searchable t.lanes ≡ true → all (λ b. b) (rows 52 (lane_returned t.lanes) t.lanes) ≡ links_reciprocal (view t)
  unfolding view
  links-is s = links-tie t.coordinates t.lanes s (view t) refl

  neighbors-is : searchable t.lanes ≡ true → all (λ b. b) (rows 52 (slots_returned t.lanes) t.lanes) ≡ neighbors_reciprocal (view t)
  unfolding view
  neighbors-is s = neighbors-tie t.coordinates t.lanes s (view t) refl

  -- ---- the four ends

  pub end-tied : all_counted t ≡ true → (all_good (largest_id counter) t && all_ascend t) ≡ true → all_clear (spans t) ≡ true
      → (all (λ b. b) (rows 52 (lane_returned t.lanes) t.lanes) && all (λ b. b) (rows 52 (slots_returned t.lanes) t.lanes)) ≡ sound_tables counter t
  end-tied n b a =
      let s = may-search n b in
      let l = all (λ b. b) (rows 52 (lane_returned t.lanes) t.lanes) in
      let w = all (λ b. b) (rows 52 (slots_returned t.lanes) t.lanes) in
      same_test (l && w) (sound_tables counter t)
      (λ h. tested-sound counter t small (held n) (tested n b a (sym (links-is s) ∙ and-fst l w h) (sym (neighbors-is s) ∙ and-snd l w h)))
      (λ h. let k = sound-tested counter t small (held n) h in and_both l w (links-is s ∙ k.links) (neighbors-is s ∙ k.neighbors))

  pub end_touching : all_clear (spans t) ≡ false → false ≡ sound_tables counter t
  unfolding sound_tables
  end_touching a = refuted (sound_tables counter t) (λ h. true≢false (sym (formed-parts t (and-fst (formed t) _ h)).apart ∙ a))

  pub end-bad : all_counted t ≡ true → (all_good (largest_id counter) t && all_ascend t) ≡ false → false ≡ sound_tables counter t
  unfolding all_ascend
  end-bad n b =
      refuted (sound_tables counter t)
      (λ h.
      let k = sound-tested counter t small (held n) h in
      let g = rows-good (record { lanes = k.lanes; boundaries = k.boundaries; roads = k.roads; junctions = k.junctions; rules = k.rules; stop_lines = k.stop_lines; crosswalks = k.crosswalks }) in
      let u : all_ascend t ≡ true = rw (k.lane-keys, k.boundary-keys, k.road_keys, k.junction_keys, k.rule-keys, k.stop-line-keys, k.crosswalk-keys) in
      true≢false (sym (and_both (all_good (largest_id counter) t) (all_ascend t) g u) ∙ b))

  pub end-uncounted : all_counted t ≡ false → false ≡ sound_tables counter t
  unfolding sound_tables
  end-uncounted n = refuted (sound_tables counter t) (λ h. true≢false (sym (formed-parts t (and-fst (formed t) _ h)).counts ∙ n))

-- the rows and the ids, from what the three calls answer
pub both_found : (counter most : ℕ) (t : Tables) (g a r : Bool) → most ≡ largest_id counter → g ≡ all_good most t → a ≡ all_ascend t → r ≡ (g && a)
    → (all_good (largest_id counter) t && all_ascend t) ≡ r
both_found counter most t g a r e1 e2 e3 e4 = rw (e4, e2, e3, e1)

-- the words of seven lent slices
pub words_of : (t : Tables) → ((i : ℕ) → Fits w64 (get_or t.lanes i 0)) → ((i : ℕ) → Fits w64 (get_or t.boundaries i 0)) → ((i : ℕ) → Fits w64 (get_or t.roads i 0))
    → ((i : ℕ) → Fits w64 (get_or t.junctions i 0)) → ((i : ℕ) → Fits w64 (get_or t.rules i 0)) → ((i : ℕ) → Fits w64 (get_or t.stop_lines i 0))
    → ((i : ℕ) → Fits w64 (get_or t.crosswalks i 0)) → Words t
words_of t a b c d e f g =
    record {
      lanes = fits-ok t.lanes a;
      boundaries = fits-ok t.boundaries b;
      roads = fits-ok t.roads c;
      junctions = fits-ok t.junctions d;
      rules = fits-ok t.rules e;
      stop_lines = fits-ok t.stop_lines f;
      crosswalks = fits-ok t.crosswalks g;
    }
