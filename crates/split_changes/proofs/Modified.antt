-- What a split lists as modified is document 01's: from the marks of the five tables. Assumes nothing.
use mathlib.Core.Path.{◌≡◌, refl}
use Prim.Native.Nat.{ℕ, ◌+◌, ◌<◌}
use mathlib.Core.Bool.{Bool, true, false}
use mathlib.Core.List.{List, ◌++◌, map}
use lib.ListN.{length, get_or}
use Rattle.lists.specs.Select.{ascending}
use Rattle.entities.specs.declared.Tolerance.{Tolerance}
use Rattle.entities.specs.Records.{Rule}
use Rattle.rules.specs.Map.{lane_ids}
use Rattle.rules.specs.Sound.{links_reciprocal}
use Rattle.rules.specs.Split.{LanePlan, Piece, pieces_ids, halves, cut, cut_map, cut_rule, rule_differs}
use Rattle.tables.specs.View.{Tables, view, word, rows, rule_of}
use Rattle.lookup.specs.Lookup.{row_at}
use Rattle.follows.specs.Following.{marks_of, rule_marks, row_differs}
use Rattle.split_plan.specs.Placing.{picked}
use Rattle.split_marks.specs.Touched.{lane_marks, row_marks, alone_from}
use Rattle.split_lists.specs.Changes.{modified_by}
use Rattle.split_changes.proofs.Touched.{roads-touched, junctions-touched}
use Rattle.split_changes.proofs.Differing.{rules-touched}
use Rattle.split_changes.proofs.Kept.{Kept, boundaries-touched}
use Rattle.split_changes.proofs.Led.{lanes-touched}

-- a rule after the cut
abbrev pub rule_after : Tolerance → ℕ → Tables → List LanePlan → List Piece → Rule → Rule
rule_after tol next t ps xs = let first = next + pieces_ids xs in cut_rule tol.join (cut_map (view t) ps xs (halves first ps) first) ps (halves first ps)

-- what the marks are found from: a map with ids that ascend and links that are reciprocal, boundaries that are cut and their pieces' rows, rules that differ where their rows do
pub record Marked (tol : Tolerance) (next : ℕ) (t : Tables) (group : List ℕ) (ps : List LanePlan) (xs : List Piece) (pieces : List ℕ) (bs anchored past : List Bool) : Type 0 where
  pub up : ascending (lane_ids (view t)) ≡ true
  pub links : links_reciprocal (view t) ≡ true
  pub boundaries-up : ascending (map (word 0) (rows 5 (λ w. w) t.boundaries)) ≡ true
  pub many : length bs ≡ length (rows 5 (λ w. w) t.boundaries)
  pub whose : map (word 0) (picked bs (rows 5 (λ w. w) t.boundaries)) ≡ map (λ x. x.of.id) xs
  pub kept : Kept pieces 0 xs
  pub differ : (i : ℕ) → i < word 0 t.rules
      → rule_differs (rule_of (row_at 330 t.rules i)) (rule_after tol next t ps xs (rule_of (row_at 330 t.rules i))) ≡ row_differs (get_or anchored i false) (marks_of past i) group (row_at 330 t.rules i)

pub modified-told : (tol : Tolerance) (next own : ℕ) (t : Tables) (group : List ℕ) (ps : List LanePlan) (xs : List Piece) (pieces : List ℕ) (bs anchored past : List Bool)
    → Marked tol next t group ps xs pieces bs anchored past → (a b c d e : List Bool)
    → modified_by (lane_marks group t.lanes ++ a) t.lanes (alone_from pieces 0 bs ++ b) t.boundaries (row_marks group 68 3 t.roads ++ c) t.roads
    (row_marks group 69 4 t.junctions ++ d) t.junctions (rule_marks anchored past group t.rules ++ e) t.rules
    ≡ (cut tol next (view t) own group ps xs).changes.modified
unfolding modified_by cut view
modified-told tol next own t group ps xs pieces bs anchored past h a b c d e =
    rw (
      lanes-touched (view t) h.up h.links group t.coordinates t.lanes a refl,
      boundaries-touched pieces t.coordinates t.boundaries bs b xs h.many h.boundaries-up h.whose h.kept,
      roads-touched group t.roads c,
      junctions-touched group t.junctions d,
      rules-touched anchored past group t.rules e (rule_after tol next t ps xs) h.differ,
    )
