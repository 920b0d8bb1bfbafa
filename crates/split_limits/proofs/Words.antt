-- The rows of pieces and measures that the layout's laws speak of tell what the limits ask. Assumes nothing.
use mathlib.Core.Path.{refl, ap, ◌∙◌}
use Prim.Native.Nat.{ℕ, suc, ◌*◌}
use mathlib.Core.List.{List, [], ◌∷◌}
use lib.Dec.{eqb}
use Rattle.rules.specs.Split.{Piece}
use Rattle.tables.specs.View.{word}
use Rattle.split_laid.proofs.Boundaries.{AllWords}
use Rattle.split_limits.proofs.Boundaries.{AllTold}

pub words-told : (pieces lines : List ℕ) (j at : ℕ) (xs : List Piece) → AllWords pieces lines j at xs → AllTold pieces lines j xs
unfolding AllWords AllTold
words-told pieces lines j at [] h = refl
words-told pieces lines j at (x ∷ xs) h = (
  record {
    kept = ap (λ k. eqb k (word (j * 3) pieces)) h.0.first ∙ (ap (eqb x.first) h.0.id ∙ h.0.alone);
    first-size = h.0.first-size;
    second-size = h.0.second-size;
  },
  words-told pieces lines (suc j) _ xs h.1,
)
