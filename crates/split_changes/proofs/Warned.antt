-- What a split warns of is the definition's: boundaries that are used outside the group, then neighbours that are not cut. Assumes nothing.
use mathlib.Core.Path.{◌≡◌, refl}
use Prim.Native.Nat.{ℕ, suc, ◌+◌}
use native.Mathlib.Omega.{arith}
use mathlib.Core.Bool.{Bool, true, false, not, cond}
use mathlib.Core.List.{List, [], ◌∷◌, map, append_assoc}
use lib.Ieee.{Float}
use lib.ListN.{length}
use Rattle.lists.specs.Select.{each, numbered}
use Rattle.entities.specs.Types.{boundary_entity}
use Rattle.rules.specs.Names.{BoundaryUnshared}
use Rattle.rules.specs.Edit.{warning, when}
use Rattle.rules.specs.Split.{LanePlan, Piece, unshared_piece, dropped_all}
use Rattle.tables.specs.View.{lane_of}
use Rattle.split_laid.proofs.Boundaries.{PieceWords, AllWords, piece_size}
use Rattle.split_lists.specs.Changes.{piece_issues, pieces_issues, rows_dropped}

module _ (pieces lines : List ℕ) where
  piece-warned : (j at : ℕ) (x : Piece) → PieceWords pieces lines j at x → piece_issues pieces j ≡ unshared_piece x
  piece-warned j at x h = rw (h.first, h.id, h.second, h.alone) (go x.alone)
    where
      go : (b : Bool) → cond b [] (warning BoundaryUnshared (boundary_entity x.of.id) (boundary_entity x.first ∷ boundary_entity x.second ∷ []) ∷ [])
          ≡ when (not b) (warning BoundaryUnshared (boundary_entity x.of.id) (boundary_entity x.first ∷ boundary_entity x.second ∷ []))
      go true = refl
      go false = refl

  -- by boundary id
  pub pieces-warned : (j at : ℕ) (xs : List Piece) → AllWords pieces lines j at xs → pieces_issues pieces j (length xs) ≡ each unshared_piece xs
  unfolding AllWords pieces_issues each
  pieces-warned j at [] h = refl
  pieces-warned j at (x ∷ xs) h = rw (piece-warned j at x h.0, pieces-warned (suc j) (at + piece_size x) xs h.1)

-- then by lane, left before right
pub dropped-warned : (c : List Float) (cut : List ℕ) (next second : ℕ) (ps : List LanePlan) (ws : List (List ℕ)) → map (λ x. x.of) ps ≡ map (lane_of c) ws
    → rows_dropped cut next second ws ≡ dropped_all (numbered next cut) second ps
unfolding rows_dropped dropped_all lane_of
dropped-warned c cut next second [] [] e = refl
dropped-warned c cut next second [] (w ∷ ws) e = let z : ◌≡◌ {A = ℕ} 0 1 = cc in absurd (omega arith)
dropped-warned c cut next second (x ∷ ps) [] e = let z : ◌≡◌ {A = ℕ} 0 1 = cc in absurd (omega arith)
dropped-warned c cut next second (x ∷ ps) (w ∷ ws) e =
    let o : x.of ≡ lane_of c w = cc in
    let r : map (λ x. x.of) ps ≡ map (lane_of c) ws = cc in
    rw (o, dropped-warned c cut next (suc second) ps ws r, append_assoc)
