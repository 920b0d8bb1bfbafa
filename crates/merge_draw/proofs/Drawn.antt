-- Records written over their rows with the start of a line, as a merge writes them in words. Assumes nothing.
use mathlib.Core.Path.{◌≡◌, refl, ap}
use Prim.Native.Nat.{ℕ}
use mathlib.Core.List.{List, [], ◌∷◌}
use lib.Ieee.{Float}
use lib.ListN.{length}
use Rattle.lists.specs.Rows.{over}
use Rattle.entities.specs.Records.{Line, Boundary}
use Rattle.rules.specs.Merge.{redrawn}
use Rattle.tables.specs.View.{boundary_of}
use Rattle.store.specs.Store.{boundary_onto}
use Rattle.store.specs.Laid.{boundary_laid}
use Rattle.store.proofs.OtherRows.{boundary-same}
use Rattle.merge_draw.specs.Redrawing.{boundary_row}

-- ---- boundaries

-- a boundary drawn anew
pub boundary-redrawn : (c : List Float) (w : List ℕ) → length w ≡ 5 → (start : ℕ) (l : Line) → boundary_laid w (start, redrawn l (boundary_of c w)) ≡ over w 2 (start ∷ length l ∷ [])
unfolding boundary_laid boundary_onto boundary_of
boundary-redrawn c w h start l = ap (λ v. over v 2 (start ∷ length l ∷ [])) (boundary-same c w h)

-- a new boundary, whatever lay there
pub boundary-new : (w : List ℕ) (start : ℕ) (b : Boundary) → boundary_laid w (start, b) ≡ boundary_row b.id b.kind start (length b.geometry) b.attributes
unfolding boundary_laid boundary_onto over
boundary-new w start b = refl
