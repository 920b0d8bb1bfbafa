-- A layout computed: two boundaries whose lines lie in the wrong order, an explicit centreline between them, and a lane that has none. Assumes nothing.
use mathlib.Core.Path.{◌≡◌, refl}
use mathlib.Core.List.{List, [], ◌∷◌, ◌++◌}
use Prim.Native.Nat.{ℕ}
use lib.ListN.{replicate}
use lib.Ieee.{Float}
use Rattle.lists.specs.Rows.{reads, over}
use Rattle.lists.specs.Select.{each}
use Rattle.tables.specs.View.{part, rows}
use Rattle.tables.specs.Formed.{spans}
use Rattle.layout.specs.Layout.{line_floats, points_in, column_lines, moves, laid_from, gathered, laid_out, line_tables}

-- a lane's first nine words: mark 6, start 7, length 8
abbrev lane : ℕ → ℕ → ℕ → List ℕ
lane mark start size = 1 ∷ 0 ∷ 7 ∷ 0 ∷ 8 ∷ 0 ∷ mark ∷ start ∷ size ∷ replicate 43 5

-- points a to d: boundary 7 has c and d, boundary 8 has a, lane 1 has b; lane 2's words of a centreline are not read; one stop line is empty
pub case : (a b c d e : Float)
    → laid_out (line_tables (2 ∷ lane 1 1 1 ++ lane 0 99 99) (2 ∷ 7 ∷ 0 ∷ 2 ∷ 2 ∷ 9 ∷ 8 ∷ 0 ∷ 0 ∷ 1 ∷ 9 ∷ []) (1 ∷ 3 ∷ 77 ∷ 0 ∷ 9 ∷ 4 ∷ []) (0 ∷ []) (a ∷ a ∷ a ∷ b ∷ b ∷ b ∷ c ∷ c ∷ c ∷ d ∷ d ∷ d ∷ e ∷ []))
    ≡ line_tables (2 ∷ lane 1 3 1 ++ lane 0 99 99) (2 ∷ 7 ∷ 0 ∷ 0 ∷ 2 ∷ 9 ∷ 8 ∷ 0 ∷ 2 ∷ 1 ∷ 9 ∷ []) (1 ∷ 3 ∷ 4 ∷ 0 ∷ 9 ∷ 4 ∷ []) (0 ∷ []) (c ∷ c ∷ c ∷ d ∷ d ∷ d ∷ a ∷ a ∷ a ∷ b ∷ b ∷ b ∷ e ∷ [])
unfolding laid_out gathered laid_from moves line_floats points_in column_lines spans rows reads each part over
case a b c d e = refl
