-- What a split lists as created is the definition's: the second halves, then the new pieces. Assumes nothing.
use mathlib.Core.Path.{◌≡◌, refl, ap}
use Prim.Native.Nat.{ℕ, suc, ◌+◌}
use mathlib.Core.List.{List, [], ◌∷◌, ◌++◌, map}
use lib.ListN.{length}
use Rattle.lists.specs.Select.{each}
use Rattle.entities.specs.Records.{Lane, Boundary}
use Rattle.rules.specs.Names.{LaneKind, BoundaryKind, Point2}
use Rattle.rules.specs.Edit.{refs, up_from}
use Rattle.rules.specs.Split.{LanePlan, halves, new_pieces, pieces, pieces_ids}
use Rattle.laws.proofs.SplitPieces.{piece-ids}
use Rattle.split_lists.specs.Changes.{created_by}

seconds-up : (next : ℕ) (ps : List LanePlan) → map (λ h. h.1) (halves next ps) ≡ up_from next (length ps)
unfolding halves up_from
seconds-up next [] = refl
seconds-up next (x ∷ ps) = ap (λ z. next ∷ z) (seconds-up (suc next) ps)

-- the pieces are numbered first, then the second halves
pub created_is : (group : List ℕ) (ls : List Lane) (p : Point2) (next : ℕ) (bs : List Boundary) (ps : List LanePlan)
    → refs LaneKind (map (λ h. h.1) (halves (next + pieces_ids (pieces group ls p next bs)) ps)) ++ refs BoundaryKind (map (λ b. b.id) (each new_pieces (pieces group ls p next bs)))
    ≡ created_by next (pieces_ids (pieces group ls p next bs)) (length ps)
created_is group ls p next bs ps = rw (seconds-up (next + pieces_ids (pieces group ls p next bs)) ps, piece-ids group ls p next bs)
