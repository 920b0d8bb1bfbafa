-- The test of soundness is the definition: every clause from the rows, the keys, the marks and the searches, and back.
use mathlib.Core.Path.{◌≡◌, refl, sym, ap, ◌∙◌}
use mathlib.Core.Bool.{Bool, true, false, ◌&&◌, ◌||◌, cond}
use mathlib.Core.List.{List, [], ◌∷◌, ◌++◌, map}
use Prim.Native.Nat.{ℕ, ◌-◌, ◌^◌, ◌≤◌, ◌<◌, max}
use native.Mathlib.Omega.{arith}
use lib.Dec.{eqb, leb, ltb}
use lib.ListN.{length, drop}
use lib.Ieee.{Float}
use borrow.Author.Tests.{leb-true, le-leb, ltb-true, lt-ltb}
use Rattle.lists.specs.Every.{all}
use Rattle.lists.specs.Rows.{keys}
use Rattle.lists.specs.Select.{each}
use Rattle.lists.proofs.Every.{all_split, all-and}
use Rattle.lists.proofs.Rows.{length-reads}
use Rattle.lists.proofs.Booleans.{and_both, and-fst, and-snd, same_test}
use Rattle.lists.proofs.Select.{all-each, all-weaken, all_map}
use Rattle.entities.specs.Records.{Line, Map}
use Rattle.rules.specs.Sound.{last_counter, next_id, counter_above, ids_named, lane_names, rule_names, lines, optional_line}
use Rattle.tables.specs.View.{Tables, word, rows}
use Rattle.tables.specs.Formed.{Span, span_at, center_span, stored, spans}
use Rattle.row_tests.specs.Good.{largest_id, all_rows}
use Rattle.row_tests.proofs.Relations.{keys-reads}
use Rattle.soundness.proofs.Rows.{every_row}
use Rattle.soundness.proofs.Pointwise.{ok}

-- ---- the counter

-- an id that the counter allows: below the next one, or any at the largest counter
allowed : (counter i : ℕ) → ok i ≡ true → counter ≤ last_counter → leb i (largest_id counter) ≡ (eqb counter last_counter || ltb i (next_id counter))
allowed counter i h r = go (eqb counter last_counter) refl
  where
    go : (b : Bool) → eqb counter last_counter ≡ b → leb i (cond b last_counter (max counter 1 - 1)) ≡ (b || ltb i (max counter 1))
    go true e = let u : i < 2 ^ 64 = ltb-true i (2 ^ 64) h in le-leb i last_counter (omega arith)
    go false e =
        same_test (leb i (max counter 1 - 1)) (ltb i (max counter 1))
        (λ t. let u : i ≤ max counter 1 - 1 = leb-true i (max counter 1 - 1) t in lt-ltb i (max counter 1) (omega arith))
        (λ t. let u : i < max counter 1 = ltb-true i (max counter 1) t in le-leb i (max counter 1 - 1) (omega arith))

all-or : {A : Type 0} (b : Bool) (p : A → Bool) (xs : List A) → all (λ x. b || p x) xs ≡ (b || all p xs)
unfolding all
all-or true p [] = refl
all-or true p (x ∷ xs) = all-or true p xs
all-or false p xs = refl

-- the clause of the counter as one test of every id
pub counter-same : (counter : ℕ) (m : Map) → counter ≤ last_counter → all ok (ids_named m) ≡ true → counter_above counter m ≡ all (λ i. leb i (largest_id counter)) (ids_named m)
unfolding counter_above
counter-same counter m r o = sym (each-allowed (ids_named m) o ∙ all-or (eqb counter last_counter) (λ i. ltb i (next_id counter)) (ids_named m))
  where
    each-allowed : (ids : List ℕ) → all ok ids ≡ true → all (λ i. leb i (largest_id counter)) ids ≡ all (λ i. eqb counter last_counter || ltb i (next_id counter)) ids
    each-allowed ids o =
        same_test (all (λ i. leb i (largest_id counter)) ids) (all (λ i. eqb counter last_counter || ltb i (next_id counter)) ids)
        (λ t. all-weaken (λ i. ok i && leb i (largest_id counter)) (λ i. eqb counter last_counter || ltb i (next_id counter)) ids
        (λ i u. sym (allowed counter i (and-fst (ok i) (leb i (largest_id counter)) u) r) ∙ and-snd (ok i) (leb i (largest_id counter)) u)
        (all-and ok (λ i. leb i (largest_id counter)) ids ∙ and_both (all ok ids) (all (λ i. leb i (largest_id counter)) ids) o t))
        (λ t. all-weaken (λ i. ok i && (eqb counter last_counter || ltb i (next_id counter))) (λ i. leb i (largest_id counter)) ids
        (λ i u. allowed counter i (and-fst (ok i) (eqb counter last_counter || ltb i (next_id counter)) u) r ∙ and-snd (ok i) (eqb counter last_counter || ltb i (next_id counter)) u)
        (all-and ok (λ i. eqb counter last_counter || ltb i (next_id counter)) ids ∙ and_both (all ok ids) (all (λ i. eqb counter last_counter || ltb i (next_id counter)) ids) o t))

-- ---- keys

-- the ids of a table are its rows' first words
pub ids-keys : {B : Type 0} (s : ℕ) (dec : List ℕ → B) (id : B → ℕ) (t : List ℕ) → ((w : List ℕ) → id (dec w) ≡ word 0 w) → map id (rows s dec t) ≡ keys s (word 0 t) (drop 1 t)
unfolding rows
ids-keys s dec id t h = keys-reads s dec id h (word 0 t) (drop 1 t)

-- how many records a table holds
pub rows-count : {B : Type 0} (s : ℕ) (dec : List ℕ → B) (t : List ℕ) → length (rows s dec t) ≡ word 0 t
unfolding rows
rows-count s dec t = length-reads s dec (word 0 t) (drop 1 t)

-- ---- lines

-- a test of every line of a map, table by table
pub all_lines : (p : Line → Bool) (m : Map)
    → all p (lines m)
    ≡ (all (λ b. p b.geometry) m.boundaries && (all (λ l. all p (optional_line l.centerline)) m.lanes
    && (all (λ s. p s.geometry) m.stop_lines && (all (λ c. p c.left_edge) m.crosswalks && all (λ c. p c.right_edge) m.crosswalks))))
unfolding lines
all_lines p m =
    all_split p (map (λ b. b.geometry) m.boundaries) (after-boundaries)
    ∙ (ap (λ t. t && all p after-boundaries) (all_map p (λ b. b.geometry) m.boundaries)
    ∙ ap (λ t. all (λ b. p b.geometry) m.boundaries && t)
    (all_split p (each (λ l. optional_line l.centerline) m.lanes) after-lanes
    ∙ (ap (λ t. t && all p after-lanes) (all-each p (λ l. optional_line l.centerline) m.lanes)
    ∙ ap (λ t. all (λ l. all p (optional_line l.centerline)) m.lanes && t)
    (all_split p (map (λ s. s.geometry) m.stop_lines) edges
    ∙ (ap (λ t. t && all p edges) (all_map p (λ s. s.geometry) m.stop_lines)
    ∙ ap (λ t. all (λ s. p s.geometry) m.stop_lines && t)
    (all_split p (map (λ c. c.left_edge) m.crosswalks) (map (λ c. c.right_edge) m.crosswalks)
    ∙ (ap (λ t. t && all p (map (λ c. c.right_edge) m.crosswalks)) (all_map p (λ c. c.left_edge) m.crosswalks)
    ∙ ap (λ t. all (λ c. p c.left_edge) m.crosswalks && t) (all_map p (λ c. c.right_edge) m.crosswalks))))))))
  where
    edges : List Line
    edges = map (λ c. c.left_edge) m.crosswalks ++ map (λ c. c.right_edge) m.crosswalks

    after-lanes : List Line
    after-lanes = map (λ s. s.geometry) m.stop_lines ++ edges

    after-boundaries : List Line
    after-boundaries = each (λ l. optional_line l.centerline) m.lanes ++ after-lanes

-- every line lies in the store, table by table
pub all-stored : (c : List Float) (t : Tables)
    → all (stored c) (spans t)
    ≡ (all_rows 5 (λ w. stored c (span_at 2 w)) t.boundaries && (all_rows 52 (λ w. all (stored c) (center_span w)) t.lanes
    && (all_rows 4 (λ w. stored c (span_at 1 w)) t.stop_lines && (all_rows 7 (λ w. stored c (span_at 1 w)) t.crosswalks && all_rows 7 (λ w. stored c (span_at 3 w)) t.crosswalks))))
unfolding spans
all-stored c t =
    all_split (stored c) (rows 5 (span_at 2) t.boundaries) after-boundaries
    ∙ (ap (λ b. b && all (stored c) after-boundaries) (every_row 5 (span_at 2) (stored c) t.boundaries)
    ∙ ap (λ b. all_rows 5 (λ w. stored c (span_at 2 w)) t.boundaries && b)
    (all_split (stored c) (each (λ s. s) (rows 52 center_span t.lanes)) after-lanes
    ∙ (ap (λ b. b && all (stored c) after-lanes) (all-each (stored c) (λ s. s) (rows 52 center_span t.lanes) ∙ every_row 52 center_span (all (stored c)) t.lanes)
    ∙ ap (λ b. all_rows 52 (λ w. all (stored c) (center_span w)) t.lanes && b)
    (all_split (stored c) (rows 4 (span_at 1) t.stop_lines) edges
    ∙ (ap (λ b. b && all (stored c) edges) (every_row 4 (span_at 1) (stored c) t.stop_lines)
    ∙ ap (λ b. all_rows 4 (λ w. stored c (span_at 1 w)) t.stop_lines && b)
    (all_split (stored c) (rows 7 (span_at 1) t.crosswalks) (rows 7 (span_at 3) t.crosswalks)
    ∙ (ap (λ b. b && all (stored c) (rows 7 (span_at 3) t.crosswalks)) (every_row 7 (span_at 1) (stored c) t.crosswalks)
    ∙ ap (λ b. all_rows 7 (λ w. stored c (span_at 1 w)) t.crosswalks && b) (every_row 7 (span_at 3) (stored c) t.crosswalks))))))))
  where
    edges : List Span
    edges = rows 7 (span_at 1) t.crosswalks ++ rows 7 (span_at 3) t.crosswalks

    after-lanes : List Span
    after-lanes = rows 4 (span_at 1) t.stop_lines ++ edges

    after-boundaries : List Span
    after-boundaries = each (λ s. s) (rows 52 center_span t.lanes) ++ after-lanes

-- ---- names

-- a test of every id that a map names, table by table
pub all-names : (p : ℕ → Bool) (m : Map)
    → all p (ids_named m)
    ≡ (all (λ l. all p (lane_names l)) m.lanes && (all (λ b. p b.id) m.boundaries && (all (λ r. all p (r.id ∷ r.lanes)) m.roads
    && (all (λ j. all p (j.id ∷ j.lanes)) m.junctions && (all (λ r. all p (rule_names r)) m.rules
    && (all (λ s. p s.id) m.stop_lines && all (λ c. p c.id) m.crosswalks))))))
unfolding ids_named
all-names p m =
    all_split p (each lane_names m.lanes) n1
    ∙ (ap (λ t. t && all p n1) (all-each p lane_names m.lanes)
    ∙ ap (λ t. all (λ l. all p (lane_names l)) m.lanes && t)
    (all_split p (map (λ b. b.id) m.boundaries) n2
    ∙ (ap (λ t. t && all p n2) (all_map p (λ b. b.id) m.boundaries)
    ∙ ap (λ t. all (λ b. p b.id) m.boundaries && t)
    (all_split p (each (λ r. r.id ∷ r.lanes) m.roads) n3
    ∙ (ap (λ t. t && all p n3) (all-each p (λ r. r.id ∷ r.lanes) m.roads)
    ∙ ap (λ t. all (λ r. all p (r.id ∷ r.lanes)) m.roads && t)
    (all_split p (each (λ j. j.id ∷ j.lanes) m.junctions) n4
    ∙ (ap (λ t. t && all p n4) (all-each p (λ j. j.id ∷ j.lanes) m.junctions)
    ∙ ap (λ t. all (λ j. all p (j.id ∷ j.lanes)) m.junctions && t)
    (all_split p (each rule_names m.rules) n5
    ∙ (ap (λ t. t && all p n5) (all-each p rule_names m.rules)
    ∙ ap (λ t. all (λ r. all p (rule_names r)) m.rules && t)
    (all_split p (map (λ s. s.id) m.stop_lines) (map (λ c. c.id) m.crosswalks)
    ∙ (ap (λ t. t && all p (map (λ c. c.id) m.crosswalks)) (all_map p (λ s. s.id) m.stop_lines)
    ∙ ap (λ t. all (λ s. p s.id) m.stop_lines && t) (all_map p (λ c. c.id) m.crosswalks))))))))))))
  where
    n5 : List ℕ
    n5 = map (λ s. s.id) m.stop_lines ++ map (λ c. c.id) m.crosswalks

    n4 : List ℕ
    n4 = each rule_names m.rules ++ n5

    n3 : List ℕ
    n3 = each (λ j. j.id ∷ j.lanes) m.junctions ++ n4

    n2 : List ℕ
    n2 = each (λ r. r.id ∷ r.lanes) m.roads ++ n3

    n1 : List ℕ
    n1 = map (λ b. b.id) m.boundaries ++ n2
