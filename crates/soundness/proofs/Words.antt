-- Every id that a map names is a word of its tables, so it is below 2 ^ 64.
use Rattle.std.specs.Prelude.{None, Some}
use mathlib.Core.Path.{◌≡◌, refl, ◌∙◌}
use mathlib.Core.Bool.{Bool, true, false, not, cond}
use mathlib.Core.List.{List, [], ◌∷◌, ◌++◌}
use Prim.Native.Nat.{ℕ, zero, suc}
use lib.Dec.{eqb}
use lib.ListN.{drop}
use lib.Ieee.{Float}
use Rattle.lists.specs.Every.{all}
use Rattle.lists.specs.Rows.{reads}
use Rattle.lists.proofs.Every.{all_append, all_take, all_drop, all_cons, all_nil}
use Rattle.entities.specs.Types.{same, opposing}
use Rattle.rules.specs.Sound.{ids_named, lane_names, rule_names, slot_id, optional_id}
use Rattle.tables.specs.View.{Tables, word, ids_at, ids_where, slot_at, rows, view, lane_of, boundary_of, road_of, junction_of, rule_of, stop_line_of, crosswalk_of}
use Rattle.row_tests.specs.Good.{all_rows}
use Rattle.soundness.proofs.Rows.{every_row, rows-weaken}
use Rattle.soundness.proofs.Pointwise.{ok, word_ok}
use Rattle.soundness.proofs.Parts.{Held, room}
use Rattle.soundness.proofs.Whole.{all-names}

-- ---- rows

pub reads_true : (s k : ℕ) (w : List ℕ) → all (λ b. b) (reads s (λ r. true) k w) ≡ true
unfolding all reads
reads_true s zero w = refl
reads_true s (suc k) w = reads_true s k (drop s w)

-- what every row of words passes, the table passes
rows_pass : {limit : ℕ} (s : ℕ) (q : List ℕ → Bool) → ((w : List ℕ) → all ok w ≡ true → q w ≡ true) → (t : List ℕ) → Held limit s t → all_rows s q t ≡ true
unfolding rows all_rows
rows_pass {limit} s q h t held = rows-weaken s (λ w. true) q ok (λ w n o u. h w o) t (room limit s t held) held.words (reads_true s (word 0 t) (drop 1 t))

ids-ok : (k : ℕ) (w : List ℕ) → all ok w ≡ true → all ok (ids_at k w) ≡ true
ids-ok k w o = all_take ok (word k w) (drop (suc k) w) (all_drop ok (suc k) w o)

where_ok : (b : Bool) (k : ℕ) (w : List ℕ) → all ok w ≡ true → all ok (ids_where b k w) ≡ true
where_ok true k w o = ids-ok k w o
where_ok false k w o = all_nil ok

slot_ok : (k : ℕ) (w : List ℕ) → all ok w ≡ true → all ok (slot_id (slot_at k w)) ≡ true
slot_ok k w o = go (eqb (word k w) 0) (eqb (word k w) 1)
  where
    one : all ok (word (suc k) w ∷ []) ≡ true
    one = all_cons ok (word (suc k) w) [] (word_ok w (suc k) o) (all_nil ok)

    go : (x y : Bool) → all ok (slot_id (cond x None (cond y (Some (same (word (suc k) w))) (Some (opposing (word (suc k) w)))))) ≡ true
    go true y = all_nil ok
    go false true = one
    go false false = one

lane-ok : (c : List Float) (w : List ℕ) → all ok w ≡ true → all ok (lane_names (lane_of c w)) ≡ true
unfolding lane_of
lane-ok c w o =
    all_append ok (word 0 w ∷ word 2 w ∷ word 4 w ∷ slot_id (slot_at 14 w)) (slot_id (slot_at 16 w) ++ (ids_at 18 w ++ ids_at 35 w))
    (all_cons ok (word 0 w) (word 2 w ∷ word 4 w ∷ slot_id (slot_at 14 w)) (word_ok w 0 o)
    (all_cons ok (word 2 w) (word 4 w ∷ slot_id (slot_at 14 w)) (word_ok w 2 o) (all_cons ok (word 4 w) (slot_id (slot_at 14 w)) (word_ok w 4 o) (slot_ok 14 w o))))
    (all_append ok (slot_id (slot_at 16 w)) (ids_at 18 w ++ ids_at 35 w) (slot_ok 16 w o) (all_append ok (ids_at 18 w) (ids_at 35 w) (ids-ok 18 w o) (ids-ok 35 w o)))

cross-ok : (b : Bool) (w : List ℕ) → all ok w ≡ true → all ok (optional_id (cond b (Some (word 4 w)) None)) ≡ true
cross-ok true w o = all_cons ok (word 4 w) [] (word_ok w 4 o) (all_nil ok)
cross-ok false w o = all_nil ok

rule-ok : (w : List ℕ) → all ok w ≡ true → all ok (rule_names (rule_of w)) ≡ true
unfolding rule_of
rule-ok w o =
    let k = word 1 w in
    let cross = optional_id (cond (eqb k 4) (Some (word 4 w)) None) in
    let stops = ids_where (not (eqb k 5)) 135 w in
    let first = ids_where (eqb k 3) 200 w in
    let last = ids_where (eqb k 3) 265 w in
    all_cons ok (word 0 w) (cross ++ (ids_at 5 w ++ (ids_at 70 w ++ (stops ++ (first ++ last))))) (word_ok w 0 o)
    (all_append ok cross (ids_at 5 w ++ (ids_at 70 w ++ (stops ++ (first ++ last)))) (cross-ok (eqb k 4) w o)
    (all_append ok (ids_at 5 w) (ids_at 70 w ++ (stops ++ (first ++ last))) (ids-ok 5 w o)
    (all_append ok (ids_at 70 w) (stops ++ (first ++ last)) (ids-ok 70 w o)
    (all_append ok stops (first ++ last) (where_ok (not (eqb k 5)) 135 w o) (all_append ok first last (where_ok (eqb k 3) 200 w o) (where_ok (eqb k 3) 265 w o))))))

listed_ok : (k : ℕ) (w : List ℕ) → all ok w ≡ true → all ok (word 0 w ∷ ids_at k w) ≡ true
listed_ok k w o = all_cons ok (word 0 w) (ids_at k w) (word_ok w 0 o) (ids-ok k w o)

-- ---- tables

-- seven tables that hold their rows
pub record AllHeld (t : Tables) : Type 0 where
  pub lanes : Held 1024 52 t.lanes
  pub boundaries : Held 4096 5 t.boundaries
  pub roads : Held 256 68 t.roads
  pub junctions : Held 256 69 t.junctions
  pub rules : Held 512 330 t.rules
  pub stop_lines : Held 512 4 t.stop_lines
  pub crosswalks : Held 128 7 t.crosswalks

pub names-ok : (t : Tables) → AllHeld t → all ok (ids_named (view t)) ≡ true
unfolding view boundary_of road_of junction_of stop_line_of crosswalk_of
names-ok t h =
    let c = t.coordinates in
    all-names ok (view t)
    ∙ rw (
      every_row 52 (lane_of c) (λ l. all ok (lane_names l)) t.lanes ∙ rows_pass 52 (λ w. all ok (lane_names (lane_of c w))) (lane-ok c) t.lanes h.lanes,
      every_row 5 (boundary_of c) (λ b. ok b.id) t.boundaries ∙ rows_pass 5 (λ w. ok (word 0 w)) (λ w. word_ok w 0) t.boundaries h.boundaries,
      every_row 68 road_of (λ r. all ok (r.id ∷ r.lanes)) t.roads ∙ rows_pass 68 (λ w. all ok (word 0 w ∷ ids_at 3 w)) (listed_ok 3) t.roads h.roads,
      every_row 69 junction_of (λ j. all ok (j.id ∷ j.lanes)) t.junctions ∙ rows_pass 69 (λ w. all ok (word 0 w ∷ ids_at 4 w)) (listed_ok 4) t.junctions h.junctions,
      every_row 330 rule_of (λ r. all ok (rule_names r)) t.rules ∙ rows_pass 330 (λ w. all ok (rule_names (rule_of w))) rule-ok t.rules h.rules,
      every_row 4 (stop_line_of c) (λ s. ok s.id) t.stop_lines ∙ rows_pass 4 (λ w. ok (word 0 w)) (λ w. word_ok w 0) t.stop_lines h.stop_lines,
      every_row 7 (crosswalk_of c) (λ x. ok x.id) t.crosswalks ∙ rows_pass 7 (λ w. ok (word 0 w)) (λ w. word_ok w 0) t.crosswalks h.crosswalks,
    )
