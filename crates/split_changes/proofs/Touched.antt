-- What a split lists as modified among roads and junctions is the definition's: those that name a cut lane. Assumes nothing.
use mathlib.Core.Path.{◌≡◌, refl, ap, ◌∙◌, sym}
use Prim.Native.Nat.{ℕ}
use mathlib.Core.Bool.{Bool}
use mathlib.Core.List.{List, ◌++◌, map}
use Rattle.lists.specs.Select.{any, has, keep}
use Rattle.rules.specs.Names.{RoadKind, JunctionKind}
use Rattle.rules.specs.Edit.{refs, roads_where, junctions_where}
use Rattle.tables.specs.View.{word, rows, road_of, junction_of}
use Rattle.mentions.proofs.Filters.{ids_where_lem}
use Rattle.split_laws.proofs.Chosen.{picked-told}
use Rattle.split_marks.specs.Touched.{names_cut, row_marks}
use Rattle.split_lists.specs.Changes.{marked_ids}

-- the marked rows are those that pass; what stands behind the rows' marks has no part in it
pub marked-pass : (s : ℕ) (q : List ℕ → Bool) (t : List ℕ) (rest : List Bool) → marked_ids s (map q (rows s (λ w. w) t) ++ rest) t ≡ map (word 0) (keep q (rows s (λ w. w) t))
marked-pass s q t rest = ap (map (word 0)) (picked-told q (rows s (λ w. w) t) rest)

module _ (cut t : List ℕ) (rest : List Bool) where
  pub roads-touched : refs RoadKind (marked_ids 68 (row_marks cut 68 3 t ++ rest) t) ≡ roads_where (λ r. any (λ i. has i cut) r.lanes) (rows 68 road_of t)
  unfolding road_of
  roads-touched =
      ap (refs RoadKind) (marked-pass 68 (names_cut cut 3) t rest ∙ sym (ids_where_lem 68 road_of (λ r. r.id) (λ r. any (λ i. has i cut) r.lanes) (names_cut cut 3) t (λ w. refl) (λ w. refl)))

  pub junctions-touched : refs JunctionKind (marked_ids 69 (row_marks cut 69 4 t ++ rest) t) ≡ junctions_where (λ j. any (λ i. has i cut) j.lanes) (rows 69 junction_of t)
  unfolding junction_of
  junctions-touched =
      ap (refs JunctionKind) (marked-pass 69 (names_cut cut 4) t rest ∙ sym (ids_where_lem 69 junction_of (λ j. j.id) (λ j. any (λ i. has i cut) j.lanes) (names_cut cut 4) t (λ w. refl) (λ w. refl)))
