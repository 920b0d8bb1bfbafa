-- One turn of the search among the lanes that are not marked, and its end. Assumes nothing.
use mathlib.Core.Path.{◌≡◌, refl, sym, ap, ◌∙◌}
use Prim.Native.Nat.{ℕ, zero, suc, ◌+◌, ◌≤◌, ◌<◌}
use native.Mathlib.Nat.{le_of_suc-le-suc, not-suc-le-zero}
use native.Mathlib.Omega.{arith}
use mathlib.Core.Bool.{Bool, true, false, not, ◌||◌}
use mathlib.Core.List.{List, [], ◌∷◌, ◌++◌, map}
use lib.ListN.{length, get_or, length-map}
use Rattle.lists.specs.Select.{any}
use Rattle.lists.proofs.Booleans.{or_left, or_right}
use Rattle.lists.proofs.Select.{any_append}
use Rattle.tables.specs.View.{word}
use Rattle.lookup.specs.Lookup.{row_at, row_uses}
use Rattle.split_plan.proofs.Turns.{first_rows, no_rows, every_row, row_more, row-none, row-rest}
use Rattle.split_pieces.specs.Pieces.{used_beyond}

get_d_not : (s : List Bool) (j : ℕ) → j < length s → get_or (map not s) j false ≡ not (get_or s j false)
get_d_not [] j h = absurd (not-suc-le-zero h)
get_d_not (b ∷ s) zero h = refl
get_d_not (b ∷ s) (suc j) h = get_d_not s j (le_of_suc-le-suc h)

module _ (s : List Bool) (t : List ℕ) (k : ℕ) where
  -- none of the lanes before row j that are not marked uses boundary k
  abbrev pub Unused : ℕ → Type 0
  Unused j = any (row_uses k) (first_rows (map not s) t j) ≡ false

  pub beyond-begins : Unused 0
  unfolding any
  beyond-begins = rw (no_rows (map not s) t)

  module _ (j : ℕ) (v : Unused j) where
    module _ (b : j < word 0 t) (c : word 0 t ≤ length s) where
      long : word 0 t ≤ length (map not s)
      long = omega (arith, length-map s not)

      turned : get_or (map not s) j false ≡ not (get_or s j false)
      turned = get_d_not s j (omega arith)

      pub beyond-marked : not (get_or s j false) ≡ false → Unused (j + 1)
      beyond-marked q = rw (row-none (map not s) t j b long (turned ∙ q)) v

      module _ (q : not (get_or s j false) ≡ true) (u : Bool) (e : u ≡ row_uses k (row_at 52 t j)) where
        pub beyond-none : u ≡ false → Unused (j + 1)
        unfolding any
        beyond-none f =
            ap (any (row_uses k)) (row_more (map not s) t j b long (turned ∙ q)) ∙ any_append (row_uses k) (first_rows (map not s) t j) (row_at 52 t j ∷ [])
            ∙ rw (v, ← e, f)

        here : (xs zs : List (List ℕ)) (w : List ℕ) → row_uses k w ≡ true → true ≡ any (row_uses k) (xs ++ (w ∷ zs))
        unfolding any
        here xs zs w h = sym (any_append (row_uses k) xs (w ∷ zs) ∙ or_right (any (row_uses k) xs) (row_uses k w || any (row_uses k) zs) (or_left (row_uses k w) (any (row_uses k) zs) h))

        pub beyond-stops : u ≡ true → true ≡ used_beyond s t k
        beyond-stops f = rw (row-rest (map not s) t j b long (turned ∙ q)) (here (first_rows (map not s) t j) _ (row_at 52 t j) (sym e ∙ f))

    pub beyond-ends : word 0 t ≤ j → false ≡ used_beyond s t k
    beyond-ends h = sym (sym (ap (any (row_uses k)) (every_row (map not s) t j h)) ∙ v)
