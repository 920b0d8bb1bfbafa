-- There is no fault exactly where the map is sound. Assumes nothing.
use mathlib.Core.Path.{◌≡◌, refl, sym, ◌∙◌}
use mathlib.Core.Bool.{Bool, true, false, not, ◌&&◌, ◌||◌, true≢false}
use mathlib.Core.List.{List}
use Prim.Native.Nat.{ℕ, ◌≤◌}
use lib.Dec.{eqb, leb}
use lib.ListN.{drop}
use lib.Ieee.{Float}
use Rattle.std.specs.Prelude.{None}
use Rattle.lists.specs.Every.{all}
use Rattle.lists.specs.Rows.{keys}
use Rattle.lists.specs.Select.{ascending, distinct}
use Rattle.lists.proofs.Booleans.{and_both, and-fst, and-snd}
use Rattle.lists.proofs.Select.{all-weaken}
use Rattle.rules.specs.Sound.{last_counter, has_content, stop_lines_fit}
use Rattle.tables.specs.View.{Tables, word, rows, ids_at}
use Rattle.tables.specs.Formed.{span_at, counted, spans, all_clear, lane_formed, rule_formed, sound_tables}
use Rattle.row_tests.specs.Good.{largest_id, all_rows, handle_good, ids_good, lanes_good, slot_good, lane_numbers, links_good, line_good, rule_numbers, rule_lists, lane_good, boundary_good, road_good, junction_good, rule_good, stop_line_good, crosswalk_good}
use Rattle.row_tests.specs.Returned.{lane_returned, slots_returned}
use Rattle.row_faults.specs.declared.Clause.{Clause}
use Rattle.row_faults.specs.declared.Clause.TheVariants.{Counts, Marks, Kinds, Ids, Names, Links, Lines, Repeats, Points, Returns, Neighbors}
use Rattle.row_faults.specs.declared.Table.{Table}
use Rattle.row_faults.specs.declared.Table.TheVariants.{Lane, Boundary, Road, Junction, Rule, StopLine, Crosswalk, Coordinate}
use Rattle.row_faults.specs.First.{rises}
use Rattle.row_faults.specs.Passes.{drawn_passes, listed_passes, lane_kinds, lane_named, links_rise, list_named, rule_named, lane_passes, boundary_passes, stop_line_passes, crosswalk_passes, road_passes, junction_passes, rule_kinds, rule_passes, row_passes}
use Rattle.row_faults.proofs.First.{rises-all}
use Rattle.row_returns.specs.Returns.{named_back}
use Rattle.soundness.specs.Parts.{all_counted, all_good, all_ascend, ascends}
use Rattle.soundness.proofs.Rows.{every_row}
use Rattle.soundness.proofs.Pointwise.{and3, and5, and8}
use Rattle.soundness.proofs.Back.{and7}
use Rattle.soundness.proofs.Counts.{counts}
use Rattle.soundness.proofs.Ends.{Words, end-tied, end_touching, end-bad, end-uncounted}
use Rattle.faults.specs.Faults.{counts_fault, rows_fault, ids_in, ids_fault, row_faults, tie_faults, found, fault_of}
use Rattle.faults.proofs.Laws.{fault-none, none-fault, one_none, none-one, or-none, none-or, seven-none, none-seven, seven-and, Told, in-told, or-told, seven-told}

-- ---- a good row passes every clause

drawn-passes : (k : Clause) (kinds named good : Bool) → kinds ≡ true → named ≡ true → good ≡ true → drawn_passes k kinds named good ≡ true
drawn-passes Counts kinds named good a b c = b
drawn-passes Marks kinds named good a b c = refl
drawn-passes Kinds kinds named good a b c = a
drawn-passes Ids kinds named good a b c = b
drawn-passes Names kinds named good a b c = b
drawn-passes Links kinds named good a b c = b
drawn-passes _ kinds named good a b c = c

listed-passes : (k : Clause) (formed kinds named good : Bool) → formed ≡ true → kinds ≡ true → named ≡ true → good ≡ true → listed_passes k formed kinds named good ≡ true
listed-passes Marks formed kinds named good a b c d = a
listed-passes Kinds formed kinds named good a b c d = b
listed-passes Repeats formed kinds named good a b c d = d
listed-passes _ formed kinds named good a b c d = c

lane-passes : (k : Clause) (most : ℕ) (c : List Float) (w : List ℕ) → lane_good most c w ≡ true → lane_passes k most c w ≡ true
unfolding lane_passes lane_good lane_kinds lane_named links_rise lane_numbers links_good
lane-passes k most c w g =
    let p = ids_at 18 w in
    let s = ids_at 35 w in
    let (f, n, lp, ls, d) = and5 (lane_formed w) (lane_numbers most w) (links_good most p) (links_good most s) (not (not (eqb (word 6 w) 0)) || line_good c (span_at 7 w)) g in
    let (n1, n2, n3, n4, n5, n6, n7, n8) = and8 (leb (word 1 w) 7) (leb (word 12 w) 3) (handle_good (word 13 w)) (leb (word 0 w) most) (leb (word 2 w) most) (leb (word 4 w) most) (slot_good most 14 w) (slot_good most 16 w) n in
    go k f (and_both (leb (word 1 w) 7 && leb (word 12 w) 3) (handle_good (word 13 w)) (and_both (leb (word 1 w) 7) (leb (word 12 w) 3) n1 n2) n3)
    (and_both (lane_formed w && lane_numbers most w) (ids_good most p && ids_good most s) (and_both (lane_formed w) (lane_numbers most w) f n)
    (and_both (ids_good most p) (ids_good most s) (and-snd (ascending p) (ids_good most p) lp) (and-snd (ascending s) (ids_good most s) ls)))
    (and_both (lane_formed w) (ascending p && ascending s) f (and_both (ascending p) (ascending s) (and-fst (ascending p) (ids_good most p) lp) (and-fst (ascending s) (ids_good most s) ls))) g
  where
    go : (k : Clause) → lane_formed w ≡ true → lane_kinds w ≡ true → lane_named most w ≡ true → links_rise w ≡ true → lane_good most c w ≡ true → lane_passes k most c w ≡ true
    go Marks h1 h2 h3 h4 h5 = h1
    go Kinds h1 h2 h3 h4 h5 = h2
    go Names h1 h2 h3 h4 h5 = h3
    go Links h1 h2 h3 h4 h5 = h4
    go _ h1 h2 h3 h4 h5 = h5

boundary-passes : (k : Clause) (most : ℕ) (c : List Float) (w : List ℕ) → boundary_good most c w ≡ true → boundary_passes k most c w ≡ true
unfolding boundary_passes boundary_good
boundary-passes k most c w g =
    let i = leb (word 0 w) most in
    let n = leb (word 1 w) 13 in
    let h = handle_good (word 4 w) in
    let p = and-fst (i && n && h) (line_good c (span_at 2 w)) g in
    let q = and-fst (i && n) h p in
    drawn-passes k (n && h) i (boundary_good most c w) (and_both n h (and-snd i n q) (and-snd (i && n) h p)) (and-fst i n q) g

stop-line-passes : (k : Clause) (most : ℕ) (c : List Float) (w : List ℕ) → stop_line_good most c w ≡ true → stop_line_passes k most c w ≡ true
unfolding stop_line_passes stop_line_good
stop-line-passes k most c w g =
    let i = leb (word 0 w) most in
    let h = handle_good (word 3 w) in
    let p = and-fst (i && h) (line_good c (span_at 1 w)) g in
    drawn-passes k h i (stop_line_good most c w) (and-snd i h p) (and-fst i h p) g

crosswalk-passes : (k : Clause) (most : ℕ) (c : List Float) (w : List ℕ) → crosswalk_good most c w ≡ true → crosswalk_passes k most c w ≡ true
unfolding crosswalk_passes crosswalk_good
crosswalk-passes k most c w g =
    let i = leb (word 0 w) most in
    let o = handle_good (word 5 w) in
    let h = handle_good (word 6 w) in
    let (a, b, d, _, _) = and5 i o h (line_good c (span_at 1 w)) (line_good c (span_at 3 w)) g in
    drawn-passes k (o && h) i (crosswalk_good most c w) (and_both o h b d) a g

-- a list of lanes without repeats is a list of lanes
once-or-not : (most : ℕ) (ids : List ℕ) → lanes_good true most ids ≡ true → lanes_good false most ids ≡ true
once-or-not most ids h = and_both (ids_good most ids) true (and-fst (ids_good most ids) (distinct ids) h) refl

list-named : (k most : ℕ) (w : List ℕ) → leb (word k w) 64 ≡ true → leb (word 0 w) most ≡ true → lanes_good true most (ids_at k w) ≡ true → list_named k most w ≡ true
unfolding list_named
list-named k most w f i l = rw (f, i, and-fst (ids_good most (ids_at k w)) (distinct (ids_at k w)) l)

-- the lists of a rule
rule-listed : (most : ℕ) (w : List ℕ) → rule_lists true most w ≡ true → rule_lists false most w ≡ true
unfolding rule_lists
rule-listed most w h = go (eqb (word 1 w) 5 || ids_good most (ids_at 135 w)) (not (eqb (word 1 w) 3)) h
  where
    go : (s n : Bool)
        → (lanes_good true most (ids_at 5 w) && ids_good most (ids_at 70 w) && s && (n || (lanes_good true most (ids_at 200 w) && lanes_good true most (ids_at 265 w)))) ≡ true
        → (lanes_good false most (ids_at 5 w) && ids_good most (ids_at 70 w) && s && (n || (lanes_good false most (ids_at 200 w) && lanes_good false most (ids_at 265 w)))) ≡ true
    go s n t =
        let a = lanes_good true most (ids_at 5 w) in
        let b = ids_good most (ids_at 70 w) in
        let p = lanes_good true most (ids_at 200 w) in
        let y = lanes_good true most (ids_at 265 w) in
        let t1 = and-fst (a && b && s) (n || (p && y)) t in
        let t2 = and-fst (a && b) s t1 in
        and_both (lanes_good false most (ids_at 5 w) && b && s) (n || (lanes_good false most (ids_at 200 w) && lanes_good false most (ids_at 265 w)))
        (and_both (lanes_good false most (ids_at 5 w) && b) s (and_both (lanes_good false most (ids_at 5 w)) b (once-or-not most (ids_at 5 w) (and-fst a b t2)) (and-snd a b t2)) (and-snd (a && b) s t1))
        (ways n (and-snd (a && b && s) (n || (p && y)) t))
      where
        ways : (n : Bool) → (n || (lanes_good true most (ids_at 200 w) && lanes_good true most (ids_at 265 w))) ≡ true
            → (n || (lanes_good false most (ids_at 200 w) && lanes_good false most (ids_at 265 w))) ≡ true
        ways true t = refl
        ways false t =
            and_both (lanes_good false most (ids_at 200 w)) (lanes_good false most (ids_at 265 w))
            (once-or-not most (ids_at 200 w) (and-fst (lanes_good true most (ids_at 200 w)) (lanes_good true most (ids_at 265 w)) t))
            (once-or-not most (ids_at 265 w) (and-snd (lanes_good true most (ids_at 200 w)) (lanes_good true most (ids_at 265 w)) t))

road_passes_lem : (k : Clause) (most : ℕ) (w : List ℕ) → road_good most w ≡ true → road_passes k most w ≡ true
unfolding road_passes road_good
road_passes_lem k most w g =
    let n = handle_good (word 1 w) in
    let h = handle_good (word 2 w) in
    let (i, a, b, f, l) = and5 (leb (word 0 w) most) n h (leb (word 3 w) 64) (lanes_good true most (ids_at 3 w)) g in
    listed-passes k (leb (word 3 w) 64) (n && h) (list_named 3 most w) (road_good most w) f (and_both n h a b) (list-named 3 most w f i l) g

junction_passes_lem : (k : Clause) (most : ℕ) (w : List ℕ) → junction_good most w ≡ true → junction_passes k most w ≡ true
unfolding junction_passes junction_good
junction_passes_lem k most w g =
    let i = leb (word 0 w) most in
    let n = handle_good (word 1 w) in
    let o = handle_good (word 2 w) in
    let h = handle_good (word 3 w) in
    let few = leb (word 4 w) 64 in
    let l = lanes_good true most (ids_at 4 w) in
    let p = and-fst (i && n && o && h && few) l g in
    let (e, a, b, d, f) = and5 i n o h few p in
    listed-passes k few (n && o && h) (list_named 4 most w) (junction_good most w) f (and_both (n && o) h (and_both n o a b) d)
    (list-named 4 most w f e (and-snd (i && n && o && h && few) l g)) g

rule-passes : (k : Clause) (most : ℕ) (w : List ℕ) → rule_good most w ≡ true → rule_passes k most w ≡ true
unfolding rule_passes rule_good rule_kinds rule_numbers rule_named
rule-passes k most w g =
    let i = leb (word 0 w) most in
    let n = leb (word 1 w) 5 in
    let o = not (has_content (word 1 w)) || handle_good (word 2 w) in
    let h = handle_good (word 3 w) in
    let x = not (eqb (word 1 w) 4) || leb (word 4 w) most in
    let s = eqb (word 1 w) 5 || stop_lines_fit (word 1 w) (word 135 w) in
    let (f, m, l) = and3 (rule_formed w) (rule_numbers most w) (rule_lists true most w) g in
    let (_, a, b, d, _) = and5 i n o h x (and-fst (i && n && o && h && x) s m) in
    listed-passes k (rule_formed w) (rule_kinds w) (rule_named most w) (rule_good most w) f
    (and_both (n && o && h) s (and_both (n && o) h (and_both n o a b) d) (and-snd (i && n && o && h && x) s m))
    (and_both (rule_formed w && rule_numbers most w) (rule_lists false most w) (and_both (rule_formed w) (rule_numbers most w) f m) (rule-listed most w l)) g

-- ---- rows of a table

weaken : (s : ℕ) (p q : List ℕ → Bool) (t : List ℕ) → ((w : List ℕ) → p w ≡ true → q w ≡ true) → all_rows s p t ≡ true → all_rows s q t ≡ true
weaken s p q t h g = sym (every_row s (λ w. w) q t) ∙ all-weaken p q (rows s (λ w. w) t) h (every_row s (λ w. w) p t ∙ g)

-- ---- counts, rows and ids of seven tables

module _ (t : Tables) where
  pub none-counted : counts_fault t ≡ None → all_counted t ≡ true
  unfolding counts_fault all_counted
  none-counted h =
      let s = seven-none _ _ _ _ _ _ _ h in
      seven-and (one_none Counts Lane (counted 1024 52 t.lanes) s.lanes) (one_none Counts Boundary (counted 4096 5 t.boundaries) s.boundaries)
      (one_none Counts Road (counted 256 68 t.roads) s.roads) (one_none Counts Junction (counted 256 69 t.junctions) s.junctions)
      (one_none Counts Rule (counted 512 330 t.rules) s.rules) (one_none Counts StopLine (counted 512 4 t.stop_lines) s.stop_lines)
      (one_none Counts Crosswalk (counted 128 7 t.crosswalks) s.crosswalks)

  counted_none : all_counted t ≡ true → counts_fault t ≡ None
  unfolding counts_fault
  counted_none h =
      let n = counts t h in
      none-seven _ _ _ _ _ _ _
      (record {
        lanes = none-one Counts Lane (counted 1024 52 t.lanes) n.lanes;
        boundaries = none-one Counts Boundary (counted 4096 5 t.boundaries) n.boundaries;
        roads = none-one Counts Road (counted 256 68 t.roads) n.roads;
        junctions = none-one Counts Junction (counted 256 69 t.junctions) n.junctions;
        rules = none-one Counts Rule (counted 512 330 t.rules) n.rules;
        stop_lines = none-one Counts StopLine (counted 512 4 t.stop_lines) n.stop_lines;
        crosswalks = none-one Counts Crosswalk (counted 128 7 t.crosswalks) n.crosswalks;
      })

  risen : (table : Table) (s : ℕ) (w : List ℕ) → ids_in table s w ≡ None → ascends s w ≡ true
  risen table s w h = sym (rises-all (keys s (word 0 w) (drop 1 w))) ∙ fault-none Ids table (rises (keys s (word 0 w) (drop 1 w))) h

  risen-none : (table : Table) (s : ℕ) (w : List ℕ) → ascends s w ≡ true → ids_in table s w ≡ None
  risen-none table s w h = none-fault Ids table (rises (keys s (word 0 w) (drop 1 w))) (rises-all (keys s (word 0 w) (drop 1 w)) ∙ h)

  none_fallen : ids_fault t ≡ None → all_ascend t ≡ true
  unfolding ids_fault all_ascend
  none_fallen h =
      let s = seven-none _ _ _ _ _ _ _ h in
      seven-and (risen Lane 52 t.lanes s.lanes) (risen Boundary 5 t.boundaries s.boundaries) (risen Road 68 t.roads s.roads) (risen Junction 69 t.junctions s.junctions)
      (risen Rule 330 t.rules s.rules) (risen StopLine 4 t.stop_lines s.stop_lines) (risen Crosswalk 7 t.crosswalks s.crosswalks)

  fallen_none : all_ascend t ≡ true → ids_fault t ≡ None
  unfolding ids_fault all_ascend
  fallen_none h =
      let (a, b, c, d, e, f, g) = and7 (ascends 52 t.lanes) (ascends 5 t.boundaries) (ascends 68 t.roads) (ascends 69 t.junctions) (ascends 330 t.rules)
      (ascends 4 t.stop_lines) (ascends 7 t.crosswalks) h in
      none-seven _ _ _ _ _ _ _
      (record {
        lanes = risen-none Lane 52 t.lanes a;
        boundaries = risen-none Boundary 5 t.boundaries b;
        roads = risen-none Road 68 t.roads c;
        junctions = risen-none Junction 69 t.junctions d;
        rules = risen-none Rule 330 t.rules e;
        stop_lines = risen-none StopLine 4 t.stop_lines f;
        crosswalks = risen-none Crosswalk 7 t.crosswalks g;
      })

  module _ (most : ℕ) where
    none-bad : rows_fault Repeats most t ≡ None → all_good most t ≡ true
    unfolding rows_fault all_good all_rows row_passes lane_passes boundary_passes stop_line_passes crosswalk_passes road_passes junction_passes rule_passes
    none-bad h =
        let c = t.coordinates in
        let s = seven-none _ _ _ _ _ _ _ h in
        seven-and (fault-none Repeats Lane (rows 52 (row_passes Repeats Lane most c) t.lanes) s.lanes)
        (fault-none Repeats Boundary (rows 5 (row_passes Repeats Boundary most c) t.boundaries) s.boundaries)
        (fault-none Repeats Road (rows 68 (row_passes Repeats Road most c) t.roads) s.roads)
        (fault-none Repeats Junction (rows 69 (row_passes Repeats Junction most c) t.junctions) s.junctions)
        (fault-none Repeats Rule (rows 330 (row_passes Repeats Rule most c) t.rules) s.rules)
        (fault-none Repeats StopLine (rows 4 (row_passes Repeats StopLine most c) t.stop_lines) s.stop_lines)
        (fault-none Repeats Crosswalk (rows 7 (row_passes Repeats Crosswalk most c) t.crosswalks) s.crosswalks)

    good_none : (k : Clause) → all_good most t ≡ true → rows_fault k most t ≡ None
    unfolding rows_fault all_good all_rows row_passes
    good_none k h =
        let x = t.coordinates in
        let (a, b, c, d, e, f, g) = and7 (all_rows 52 (lane_good most x) t.lanes) (all_rows 5 (boundary_good most x) t.boundaries) (all_rows 68 (road_good most) t.roads)
        (all_rows 69 (junction_good most) t.junctions) (all_rows 330 (rule_good most) t.rules) (all_rows 4 (stop_line_good most x) t.stop_lines) (all_rows 7 (crosswalk_good most x) t.crosswalks) h in
        none-seven _ _ _ _ _ _ _
        (record {
          lanes = none-fault k Lane (rows 52 (row_passes k Lane most x) t.lanes) (weaken 52 (lane_good most x) (row_passes k Lane most x) t.lanes (λ w u. lane-passes k most x w u) a);
          boundaries = none-fault k Boundary (rows 5 (row_passes k Boundary most x) t.boundaries) (weaken 5 (boundary_good most x) (row_passes k Boundary most x) t.boundaries (λ w u. boundary-passes k most x w u) b);
          roads = none-fault k Road (rows 68 (row_passes k Road most x) t.roads) (weaken 68 (road_good most) (row_passes k Road most x) t.roads (λ w u. road_passes_lem k most w u) c);
          junctions = none-fault k Junction (rows 69 (row_passes k Junction most x) t.junctions) (weaken 69 (junction_good most) (row_passes k Junction most x) t.junctions (λ w u. junction_passes_lem k most w u) d);
          rules = none-fault k Rule (rows 330 (row_passes k Rule most x) t.rules) (weaken 330 (rule_good most) (row_passes k Rule most x) t.rules (λ w u. rule-passes k most w u) e);
          stop_lines = none-fault k StopLine (rows 4 (row_passes k StopLine most x) t.stop_lines) (weaken 4 (stop_line_good most x) (row_passes k StopLine most x) t.stop_lines (λ w u. stop-line-passes k most x w u) f);
          crosswalks = none-fault k Crosswalk (rows 7 (row_passes k Crosswalk most x) t.crosswalks) (weaken 7 (crosswalk_good most x) (row_passes k Crosswalk most x) t.crosswalks (λ w u. crosswalk-passes k most x w u) g);
        })

    pub rows-found : row_faults most t ≡ None → (all_good most t && all_ascend t) ≡ true
    unfolding row_faults
    rows-found h =
        let (_, r1) = or-none (rows_fault Marks most t) _ h in
        let (_, r2) = or-none (rows_fault Kinds most t) _ r1 in
        let (i, r3) = or-none (ids_fault t) _ r2 in
        let (_, r4) = or-none (rows_fault Names most t) _ r3 in
        let (_, r5) = or-none (rows_fault Links most t) _ r4 in
        let (_, g) = or-none (rows_fault Lines most t) _ r5 in
        and_both (all_good most t) (all_ascend t) (none-bad g) (none_fallen i)

    found_rows : (all_good most t && all_ascend t) ≡ true → row_faults most t ≡ None
    unfolding row_faults
    found_rows h =
        let g = and-fst (all_good most t) (all_ascend t) h in
        let i = fallen_none (and-snd (all_good most t) (all_ascend t) h) in
        none-or _ _ (good_none Marks g) (none-or _ _ (good_none Kinds g) (none-or _ _ i (none-or _ _ (good_none Names g) (none-or _ _ (good_none Links g) (none-or _ _ (good_none Lines g) (good_none Repeats g))))))

-- ---- what is found is told

module _ (t : Tables) where
  rows-told : (k : Clause) (most : ℕ) → Told (rows_fault k most t)
  unfolding rows_fault
  rows-told k most = seven-told (in-told _ _ _) (in-told _ _ _) (in-told _ _ _) (in-told _ _ _) (in-told _ _ _) (in-told _ _ _) (in-told _ _ _)

  found-told : (counter : ℕ) → Told (found counter t)
  unfolding found counts_fault ids_fault row_faults tie_faults
  found-told counter =
      let m = largest_id counter in
      or-told _ _ (seven-told (in-told _ _ _) (in-told _ _ _) (in-told _ _ _) (in-told _ _ _) (in-told _ _ _) (in-told _ _ _) (in-told _ _ _))
      (or-told _ _
      (or-told _ _ (rows-told Marks m)
      (or-told _ _ (rows-told Kinds m)
      (or-told _ _ (seven-told (in-told _ _ _) (in-told _ _ _) (in-told _ _ _) (in-told _ _ _) (in-told _ _ _) (in-told _ _ _) (in-told _ _ _))
      (or-told _ _ (rows-told Names m) (or-told _ _ (rows-told Links m) (or-told _ _ (rows-told Lines m) (rows-told Repeats m)))))))
      (or-told _ _ (in-told _ _ _) (or-told _ _ (in-told _ _ _) (in-told _ _ _))))

-- ---- no fault exactly where the map is sound

decided : (b : Bool) → (b ≡ false → ⊥) → b ≡ true
decided true h = refl
decided false h = absurd (h refl)

module _ (counter : ℕ) (t : Tables) (small : counter ≤ last_counter) (words : Words t) where
  none-sound : found counter t ≡ None → sound_tables counter t ≡ true
  unfolding found tie_faults named_back
  none-sound h =
      let l = all (λ b. b) (rows 52 (lane_returned t.lanes) t.lanes) in
      let w = all (λ b. b) (rows 52 (slots_returned t.lanes) t.lanes) in
      let (c, r1) = or-none _ _ h in
      let (g, r2) = or-none _ _ r1 in
      let (p, r3) = or-none _ _ r2 in
      let (x, y) = or-none _ _ r3 in
      sym (end-tied counter t small words (none-counted t c) (rows-found t (largest_id counter) g) (one_none Points Coordinate (all_clear (spans t)) p))
      ∙ and_both l w (fault-none Returns Lane (rows 52 (named_back Returns t.lanes) t.lanes) x) (fault-none Neighbors Lane (rows 52 (named_back Neighbors t.lanes) t.lanes) y)

  pub fault-sound : (fault_of counter t).clause ≡ 0 → sound_tables counter t ≡ true
  unfolding fault_of
  fault-sound h = none-sound (found-told t counter h)

  sound-none : sound_tables counter t ≡ true → found counter t ≡ None
  unfolding found tie_faults named_back
  sound-none s =
      let l = all (λ b. b) (rows 52 (lane_returned t.lanes) t.lanes) in
      let w = all (λ b. b) (rows 52 (slots_returned t.lanes) t.lanes) in
      let most = largest_id counter in
      let n = decided (all_counted t) (λ e. true≢false (sym s ∙ sym (end-uncounted counter t small words e))) in
      let g = decided (all_good most t && all_ascend t) (λ e. true≢false (sym s ∙ sym (end-bad counter t small words n e))) in
      let a = decided (all_clear (spans t)) (λ e. true≢false (sym s ∙ sym (end_touching counter t small words e))) in
      let k = end-tied counter t small words n g a ∙ s in
      none-or _ _ (counted_none t n)
      (none-or _ _ (found_rows t most g)
      (none-or _ _ (none-one Points Coordinate (all_clear (spans t)) a)
      (none-or _ _ (none-fault Returns Lane (rows 52 (named_back Returns t.lanes) t.lanes) (and-fst l w k)) (none-fault Neighbors Lane (rows 52 (named_back Neighbors t.lanes) t.lanes) (and-snd l w k)))))

  pub sound-fault : sound_tables counter t ≡ true → (fault_of counter t).clause ≡ 0
  unfolding fault_of
  sound-fault s = rw (sound-none s)
