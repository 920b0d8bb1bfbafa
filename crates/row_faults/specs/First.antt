-- The first of a list of tests that fails, and tests of ids and lines one after the other.
use Rattle.std.specs.Prelude.{ℕ, suc, Bool, true, cond, List, [], ◌∷◌, ltb}

-- the place of the first test that fails, counted from 0; the length where none does
unfoldable pub first_false : List Bool → ℕ
first_false [] = 0
first_false (b ∷ bs) = let rest = first_false bs in cond b (suc rest) 0

-- of each number, whether it is above the one before it
unfoldable pub rises_from : ℕ → List ℕ → List Bool
rises_from x [] = []
rises_from x (y ∷ ys) = ltb x y ∷ rises_from y ys

unfoldable pub rises : List ℕ → List Bool
rises [] = []
rises (x ∷ xs) = true ∷ rises_from x xs
