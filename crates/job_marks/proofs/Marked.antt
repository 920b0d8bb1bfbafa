-- What the marks say: that of a row is set where some pair names the row's kind and id, and is what it was elsewhere. Assumes nothing.
use Rattle.std.specs.Prelude.{Option, None, Some}
use mathlib.Core.Path.{◌≡◌, refl, sym, ap, ◌∙◌}
use mathlib.Core.Bool.{Bool, true, false, ◌&&◌, ◌||◌, cond}
use mathlib.Core.List.{List, [], ◌∷◌}
use mathlib.Core.Logic.{◌⊎◌, inl, inr, ⊎_elim}
use Prim.Native.Nat.{ℕ, zero, suc, ◌+◌, ◌≤◌, ◌<◌}
use native.Mathlib.Omega.{arith}
use lib.Dec.{eqb}
use lib.ListN.{length, get_or, drop, replicate}
use lib.Seq.{get_or-set_same, get_or-set_other}
use borrow.Author.Tests.{eqb-true, eqb-false}
use Rattle.lists.specs.Rows.{keys, row_with}
use Rattle.lists.specs.Select.{any}
use Rattle.lists.proofs.Rows.{length-keys, row-at, found-key}
use Rattle.rules.specs.Limits.{max_lanes, max_boundaries, max_roads, max_junctions, max_rules, max_stop_lines, max_crosswalks}
use Rattle.tables.specs.View.{Tables, word, lane_words, boundary_words, road_words, junction_words, rule_words, stop_line_words, crosswalk_words}
use Rattle.lookup.specs.Lookup.{sorted_table, place_of}
use Rattle.lookup.proofs.Laws.{sorted-few, sorted-ascends, place-within}
use Rattle.job_marks.specs.Marks.{lane_marks, boundary_marks, road_marks, junction_marks, stop_line_marks, crosswalk_marks, rule_marks, all_marks, sorted_tables, mark_at, mark_row, mark_one, mark_all}
use Rattle.job_marks.proofs.Sorted.{lanes_are_sorted, boundaries_are_sorted, roads-sorted, junctions-sorted, stop-lines-sorted, crosswalks_are_sorted, rules-sorted}
use Rattle.job_marks.proofs.Turns.{length-one, mark-lane, mark-boundary, mark_road, mark_junction, mark-stop-line, mark-crosswalk, mark-rule}

-- ---- one row

-- a mark that is none of a table's
abbrev Apart : ℕ → ℕ → ℕ → Type 0
Apart place first limit = (place < first) ⊎ (first + limit ≤ place)

module _ (limit s first : ℕ) (t : List ℕ) (h : sorted_table limit s t ≡ true) (id : ℕ) (ms : List ℕ) where
  -- elsewhere it is what it was
  row_apart : (place : ℕ) → Apart place first limit → get_or (mark_row s first t id ms) place 0 ≡ get_or ms place 0
  unfolding mark_row
  row_apart place a = go (place_of s t id) (λ r e. place-within s t id r e)
    where
      go : (f : Option ℕ) → ((r : ℕ) → f ≡ Some r → r < word 0 t) → get_or (mark_at first f ms) place 0 ≡ get_or ms place 0
      go (Some r) g =
          let l : r < limit = omega (arith, g r refl, sorted-few limit s t h) in
          get_or-set_other ms (first + r) place 1 0 (λ e. ⊎_elim (λ p. omega arith) (λ p. omega arith) a)
      go None g = refl

  -- that of a row is set where the row has the id
  row-own : (r : ℕ) → r < word 0 t → first + r < length ms → get_or (mark_row s first t id ms) (first + r) 0 ≡ cond (eqb id (get_or (keys s (word 0 t) (drop 1 t)) r 0)) 1 (get_or ms (first + r) 0)
  unfolding mark_row place_of
  row-own r l n = side (eqb id (get_or ks r 0)) refl
    where
      ks : List ℕ
      ks = keys s (word 0 t) (drop 1 t)

      k : r < length ks
      k = omega (arith, length-keys s (word 0 t) (drop 1 t))

      other : (id ≡ get_or ks r 0 → ⊥) → (f : Option ℕ) → row_with id ks ≡ f → get_or (mark_at first f ms) (first + r) 0 ≡ get_or ms (first + r) 0
      other ne (Some q) e =
          get_or-set_other ms (first + q) (first + r) 1 0 (λ z. let p : r ≡ q = omega arith in ne (sym (ap (λ i. get_or ks i 0) p ∙ found-key id ks q e)))
      other ne None e = refl

      side : (b : Bool) → eqb id (get_or ks r 0) ≡ b → get_or (mark_at first (row_with id ks) ms) (first + r) 0 ≡ cond b 1 (get_or ms (first + r) 0)
      side true e =
          ap (λ f. get_or (mark_at first f ms) (first + r) 0) (row-at id r ks (sorted-ascends limit s t h) k (sym (eqb-true id (get_or ks r 0) e)))
          ∙ get_or-set_same ms (first + r) 1 0 n
      side false e = other (eqb-false id (get_or ks r 0) e) (row_with id ks) refl

  -- a branch that is not taken, or marks elsewhere
  branch : (b : Bool) (place : ℕ) → ((b ≡ true → ⊥) ⊎ Apart place first limit) → (ys : List ℕ) → get_or ys place 0 ≡ get_or ms place 0
      → get_or (cond b (mark_row s first t id ms) ys) place 0 ≡ get_or ms place 0
  branch true place a ys e = ⊎_elim (λ n. absurd (n refl)) (λ p. row_apart place p) a
  branch false place a ys e = e

-- ---- one entity

module _ (t : Tables) (h : sorted_tables t ≡ true) (kind id : ℕ) (ms : List ℕ) (place : ℕ) where
  one_apart :
      ((kind ≡ 0 → ⊥) ⊎ Apart place lane_marks max_lanes)
      → ((kind ≡ 1 → ⊥) ⊎ Apart place boundary_marks max_boundaries)
      → ((kind ≡ 2 → ⊥) ⊎ Apart place road_marks max_roads)
      → ((kind ≡ 3 → ⊥) ⊎ Apart place junction_marks max_junctions)
      → ((kind ≡ 4 → ⊥) ⊎ Apart place stop_line_marks max_stop_lines)
      → ((kind ≡ 6 → ⊥) ⊎ Apart place crosswalk_marks max_crosswalks)
      → ((kind ≡ 7 → ⊥) ⊎ Apart place rule_marks max_rules)
      → get_or (mark_one t kind id ms) place 0 ≡ get_or ms place 0
  unfolding mark_one
  one_apart a b c d e f g =
      branch max_lanes lane_words lane_marks t.lanes (lanes_are_sorted t h) id ms (eqb kind 0) place (off 0 lane_marks max_lanes a) _
      (branch max_boundaries boundary_words boundary_marks t.boundaries (boundaries_are_sorted t h) id ms (eqb kind 1) place (off 1 boundary_marks max_boundaries b) _
      (branch max_roads road_words road_marks t.roads (roads-sorted t h) id ms (eqb kind 2) place (off 2 road_marks max_roads c) _
      (branch max_junctions junction_words junction_marks t.junctions (junctions-sorted t h) id ms (eqb kind 3) place (off 3 junction_marks max_junctions d) _
      (branch max_stop_lines stop_line_words stop_line_marks t.stop_lines (stop-lines-sorted t h) id ms (eqb kind 4) place (off 4 stop_line_marks max_stop_lines e) _
      (branch max_crosswalks crosswalk_words crosswalk_marks t.crosswalks (crosswalks_are_sorted t h) id ms (eqb kind 6) place (off 6 crosswalk_marks max_crosswalks f) _
      (branch max_rules rule_words rule_marks t.rules (rules-sorted t h) id ms (eqb kind 7) place (off 7 rule_marks max_rules g) _
      refl))))))
    where
      off : (k first limit : ℕ) → ((kind ≡ k → ⊥) ⊎ Apart place first limit) → (eqb kind k ≡ true → ⊥) ⊎ Apart place first limit
      off k first limit w = ⊎_elim (λ n. inl (λ e. n (eqb-true kind k e))) inr w

  -- the mark of one place, by whether the kind is its table's
  one-here : (k x : ℕ) → (kind ≡ k → get_or (mark_one t kind id ms) place 0 ≡ cond (eqb id x) 1 (get_or ms place 0)) → ((kind ≡ k → ⊥) → get_or (mark_one t kind id ms) place 0 ≡ get_or ms place 0)
      → get_or (mark_one t kind id ms) place 0 ≡ cond (eqb kind k && eqb id x) 1 (get_or ms place 0)
  one-here k x own apart = side (eqb kind k) refl
    where
      side : (b : Bool) → eqb kind k ≡ b → get_or (mark_one t kind id ms) place 0 ≡ cond (b && eqb id x) 1 (get_or ms place 0)
      side true e = own (eqb-true kind k e)
      side false e = apart (eqb-false kind k e)

-- ---- a list

-- some pair names an entity
abbrev pub named : ℕ → ℕ → List (ℕ × ℕ) → Bool
named kind id ps = any (λ p. eqb p.0 kind && eqb p.1 id) ps

-- what one entity does to a mark, a list of them does
all_here : (t : Tables) (k x place : ℕ)
    → ((kind id : ℕ) (ms : List ℕ) → length ms ≡ all_marks → get_or (mark_one t kind id ms) place 0 ≡ cond (eqb kind k && eqb id x) 1 (get_or ms place 0))
    → (ps : List (ℕ × ℕ)) (ms : List ℕ) → length ms ≡ all_marks → get_or (mark_all t ps ms) place 0 ≡ cond (named k x ps) 1 (get_or ms place 0)
unfolding mark_all any
all_here t k x place one [] ms n = refl
all_here t k x place one (p ∷ ps) ms n =
    all_here t k x place one ps (mark_one t p.0 p.1 ms) (length-one t p.0 p.1 ms ∙ n)
    ∙ (ap (λ z. cond (named k x ps) 1 z) (one p.0 p.1 ms n) ∙ either (eqb p.0 k && eqb p.1 x) (named k x ps) (get_or ms place 0))
  where
    either : (a b : Bool) (z : ℕ) → cond b 1 (cond a 1 z) ≡ cond (a || b) 1 z
    either true true z = refl
    either true false z = refl
    either false b z = refl

-- ---- the mark of row r, table by table

module _ (t : Tables) (h : sorted_tables t ≡ true) (ps : List (ℕ × ℕ)) (ms : List ℕ) (n : length ms ≡ all_marks) (r : ℕ) where
  pub lane-marked : r < word 0 t.lanes → get_or (mark_all t ps ms) (lane_marks + r) 0 ≡ cond (named 0 (get_or (keys lane_words (word 0 t.lanes) (drop 1 t.lanes)) r 0) ps) 1 (get_or ms (lane_marks + r) 0)
  lane-marked l =
      let w = t.lanes in
      let few : r < max_lanes = omega (arith, sorted-few max_lanes lane_words w (lanes_are_sorted t h)) in
      let x = get_or (keys lane_words (word 0 w) (drop 1 w)) r 0 in
      all_here t 0 x (lane_marks + r) (λ kind id ns m. one-here t h kind id ns (lane_marks + r) 0 x
      (λ e. ap (λ z. get_or z (lane_marks + r) 0) (sym (mark-lane t kind id ns (mark_row lane_words lane_marks w id ns) e refl)) ∙ row-own max_lanes lane_words lane_marks w (lanes_are_sorted t h) id ns r l (omega arith))
      (λ ne. one_apart t h kind id ns (lane_marks + r) (inl ne) (inr (inl (omega arith))) (inr (inl (omega arith))) (inr (inl (omega arith))) (inr (inl (omega arith))) (inr (inl (omega arith))) (inr (inl (omega arith))))) ps ms n

  pub boundary-marked : r < word 0 t.boundaries → get_or (mark_all t ps ms) (boundary_marks + r) 0 ≡ cond (named 1 (get_or (keys boundary_words (word 0 t.boundaries) (drop 1 t.boundaries)) r 0) ps) 1 (get_or ms (boundary_marks + r) 0)
  boundary-marked l =
      let w = t.boundaries in
      let few : r < max_boundaries = omega (arith, sorted-few max_boundaries boundary_words w (boundaries_are_sorted t h)) in
      let x = get_or (keys boundary_words (word 0 w) (drop 1 w)) r 0 in
      all_here t 1 x (boundary_marks + r) (λ kind id ns m. one-here t h kind id ns (boundary_marks + r) 1 x
      (λ e. ap (λ z. get_or z (boundary_marks + r) 0) (sym (mark-boundary t kind id ns (mark_row boundary_words boundary_marks w id ns) e refl)) ∙ row-own max_boundaries boundary_words boundary_marks w (boundaries_are_sorted t h) id ns r l (omega arith))
      (λ ne. one_apart t h kind id ns (boundary_marks + r) (inr (inr (omega arith))) (inl ne) (inr (inl (omega arith))) (inr (inl (omega arith))) (inr (inl (omega arith))) (inr (inl (omega arith))) (inr (inl (omega arith))))) ps ms n

  pub road_marked : r < word 0 t.roads → get_or (mark_all t ps ms) (road_marks + r) 0 ≡ cond (named 2 (get_or (keys road_words (word 0 t.roads) (drop 1 t.roads)) r 0) ps) 1 (get_or ms (road_marks + r) 0)
  road_marked l =
      let w = t.roads in
      let few : r < max_roads = omega (arith, sorted-few max_roads road_words w (roads-sorted t h)) in
      let x = get_or (keys road_words (word 0 w) (drop 1 w)) r 0 in
      all_here t 2 x (road_marks + r) (λ kind id ns m. one-here t h kind id ns (road_marks + r) 2 x
      (λ e. ap (λ z. get_or z (road_marks + r) 0) (sym (mark_road t kind id ns (mark_row road_words road_marks w id ns) e refl)) ∙ row-own max_roads road_words road_marks w (roads-sorted t h) id ns r l (omega arith))
      (λ ne. one_apart t h kind id ns (road_marks + r) (inr (inr (omega arith))) (inr (inr (omega arith))) (inl ne) (inr (inl (omega arith))) (inr (inl (omega arith))) (inr (inl (omega arith))) (inr (inl (omega arith))))) ps ms n

  pub junction_marked : r < word 0 t.junctions → get_or (mark_all t ps ms) (junction_marks + r) 0 ≡ cond (named 3 (get_or (keys junction_words (word 0 t.junctions) (drop 1 t.junctions)) r 0) ps) 1 (get_or ms (junction_marks + r) 0)
  junction_marked l =
      let w = t.junctions in
      let few : r < max_junctions = omega (arith, sorted-few max_junctions junction_words w (junctions-sorted t h)) in
      let x = get_or (keys junction_words (word 0 w) (drop 1 w)) r 0 in
      all_here t 3 x (junction_marks + r) (λ kind id ns m. one-here t h kind id ns (junction_marks + r) 3 x
      (λ e. ap (λ z. get_or z (junction_marks + r) 0) (sym (mark_junction t kind id ns (mark_row junction_words junction_marks w id ns) e refl)) ∙ row-own max_junctions junction_words junction_marks w (junctions-sorted t h) id ns r l (omega arith))
      (λ ne. one_apart t h kind id ns (junction_marks + r) (inr (inr (omega arith))) (inr (inr (omega arith))) (inr (inr (omega arith))) (inl ne) (inr (inl (omega arith))) (inr (inl (omega arith))) (inr (inl (omega arith))))) ps ms n

  pub stop-line-marked : r < word 0 t.stop_lines → get_or (mark_all t ps ms) (stop_line_marks + r) 0 ≡ cond (named 4 (get_or (keys stop_line_words (word 0 t.stop_lines) (drop 1 t.stop_lines)) r 0) ps) 1 (get_or ms (stop_line_marks + r) 0)
  stop-line-marked l =
      let w = t.stop_lines in
      let few : r < max_stop_lines = omega (arith, sorted-few max_stop_lines stop_line_words w (stop-lines-sorted t h)) in
      let x = get_or (keys stop_line_words (word 0 w) (drop 1 w)) r 0 in
      all_here t 4 x (stop_line_marks + r) (λ kind id ns m. one-here t h kind id ns (stop_line_marks + r) 4 x
      (λ e. ap (λ z. get_or z (stop_line_marks + r) 0) (sym (mark-stop-line t kind id ns (mark_row stop_line_words stop_line_marks w id ns) e refl)) ∙ row-own max_stop_lines stop_line_words stop_line_marks w (stop-lines-sorted t h) id ns r l (omega arith))
      (λ ne. one_apart t h kind id ns (stop_line_marks + r) (inr (inr (omega arith))) (inr (inr (omega arith))) (inr (inr (omega arith))) (inr (inr (omega arith))) (inl ne) (inr (inl (omega arith))) (inr (inl (omega arith))))) ps ms n

  pub crosswalk-marked : r < word 0 t.crosswalks → get_or (mark_all t ps ms) (crosswalk_marks + r) 0 ≡ cond (named 6 (get_or (keys crosswalk_words (word 0 t.crosswalks) (drop 1 t.crosswalks)) r 0) ps) 1 (get_or ms (crosswalk_marks + r) 0)
  crosswalk-marked l =
      let w = t.crosswalks in
      let few : r < max_crosswalks = omega (arith, sorted-few max_crosswalks crosswalk_words w (crosswalks_are_sorted t h)) in
      let x = get_or (keys crosswalk_words (word 0 w) (drop 1 w)) r 0 in
      all_here t 6 x (crosswalk_marks + r) (λ kind id ns m. one-here t h kind id ns (crosswalk_marks + r) 6 x
      (λ e. ap (λ z. get_or z (crosswalk_marks + r) 0) (sym (mark-crosswalk t kind id ns (mark_row crosswalk_words crosswalk_marks w id ns) e refl)) ∙ row-own max_crosswalks crosswalk_words crosswalk_marks w (crosswalks_are_sorted t h) id ns r l (omega arith))
      (λ ne. one_apart t h kind id ns (crosswalk_marks + r) (inr (inr (omega arith))) (inr (inr (omega arith))) (inr (inr (omega arith))) (inr (inr (omega arith))) (inr (inr (omega arith))) (inl ne) (inr (inl (omega arith))))) ps ms n

  pub rule-marked : r < word 0 t.rules → get_or (mark_all t ps ms) (rule_marks + r) 0 ≡ cond (named 7 (get_or (keys rule_words (word 0 t.rules) (drop 1 t.rules)) r 0) ps) 1 (get_or ms (rule_marks + r) 0)
  rule-marked l =
      let w = t.rules in
      let few : r < max_rules = omega (arith, sorted-few max_rules rule_words w (rules-sorted t h)) in
      let x = get_or (keys rule_words (word 0 w) (drop 1 w)) r 0 in
      all_here t 7 x (rule_marks + r) (λ kind id ns m. one-here t h kind id ns (rule_marks + r) 7 x
      (λ e. ap (λ z. get_or z (rule_marks + r) 0) (sym (mark-rule t kind id ns (mark_row rule_words rule_marks w id ns) e refl)) ∙ row-own max_rules rule_words rule_marks w (rules-sorted t h) id ns r l (omega arith))
      (λ ne. one_apart t h kind id ns (rule_marks + r) (inr (inr (omega arith))) (inr (inr (omega arith))) (inr (inr (omega arith))) (inr (inr (omega arith))) (inr (inr (omega arith))) (inr (inr (omega arith))) (inl ne))) ps ms n

-- marks that are all 0
pub no-marks : (n k : ℕ) → get_or {A = ℕ} (replicate n 0) k 0 ≡ 0
no-marks zero k = refl
no-marks (suc n) zero = refl
no-marks (suc n) (suc k) = no-marks n k
