-- Roads and junctions stored with each second half after its first are their rows with the lists grown. Assumes nothing.
use mathlib.Core.Path.{◌≡◌, refl, ap, ◌∙◌}
use Prim.Native.Nat.{ℕ, suc, ◌*◌, ◌≤◌}
use native.Mathlib.Omega.{arith}
use mathlib.Core.Bool.{true}
use mathlib.Core.List.{List, [], ◌∷◌, map}
use lib.ListN.{length, drop, length-drop}
use Rattle.lists.specs.Select.{insert_after, numbered}
use Rattle.rules.specs.Lane.{road_lanes, junction_lanes}
use Rattle.rules.specs.Split.{LanePlan, halves}
use Rattle.tables.specs.View.{word, rows, road_of, junction_of}
use Rattle.tables.specs.Formed.{counted}
use Rattle.row_tests.specs.Good.{all_rows}
use Rattle.row_tests.proofs.Tables.{table-room}
use Rattle.store.specs.Store.{road_onto, junction_onto, store_rows}
use Rattle.store.specs.Rows.{on_rows}
use Rattle.store.proofs.Rows.{table-agree}
use Rattle.store.proofs.Whole.{store-changed}
use Rattle.mentions.proofs.Records.{road_changes, junction_changes}
use Rattle.grows.specs.Growing.{grows_at, list_grows}
use Rattle.grows.proofs.Lists.{list-grown}

-- the second halves, counted from `next` on
pub halves-numbered : (next : ℕ) (ps : List LanePlan) → halves next ps ≡ numbered next (map (λ x. x.of.id) ps)
unfolding halves numbered
halves-numbered next [] = refl
halves-numbered next (x ∷ ps) = ap (λ hs. (x.of.id, next) ∷ hs) (halves-numbered (suc next) ps)

pub rows-room : (limit s : ℕ) (t : List ℕ) → counted limit s t ≡ true → word 0 t * s ≤ length (drop 1 t)
rows-room limit s t h = rw length-drop (omega (arith, table-room limit s t h))

module _ (next : ℕ) (cut : List ℕ) (limit : ℕ) (t : List ℕ) where
  pub roads-grown : counted limit 68 t ≡ true → all_rows 68 (list_grows next cut 3) t ≡ true
      → store_rows 68 road_onto (λ r. r.id) t (map (road_lanes (insert_after (numbered next cut))) (rows 68 road_of t)) ≡ on_rows 68 (grows_at next cut 3) t
  unfolding rows all_rows on_rows
  roads-grown c h =
      let room = rows-room limit 68 t c in
      let g = insert_after (numbered next cut) in
      store-changed 68 road_onto (λ r. r.id) road_of t room (road_lanes g) (λ w. unfold road_of in refl)
      ∙ table-agree 68 (list_grows next cut 3) (λ w. road_onto w (road_lanes g (road_of w))) (grows_at next cut 3) (λ w l f. road_changes g w l (list-grown next cut 3 w f)) t room h

  pub junctions-grown : counted limit 69 t ≡ true → all_rows 69 (list_grows next cut 4) t ≡ true
      → store_rows 69 junction_onto (λ j. j.id) t (map (junction_lanes (insert_after (numbered next cut))) (rows 69 junction_of t)) ≡ on_rows 69 (grows_at next cut 4) t
  unfolding rows all_rows on_rows
  junctions-grown c h =
      let room = rows-room limit 69 t c in
      let g = insert_after (numbered next cut) in
      store-changed 69 junction_onto (λ j. j.id) junction_of t room (junction_lanes g) (λ w. unfold junction_of in refl)
      ∙ table-agree 69 (list_grows next cut 4) (λ w. junction_onto w (junction_lanes g (junction_of w))) (grows_at next cut 4) (λ w l f. junction_changes g w l (list-grown next cut 4 w f)) t room h
