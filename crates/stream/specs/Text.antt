-- Numbers as text in ASCII.
use Rattle.std.specs.Prelude.{ℕ, zero, suc, ◌+◌, ◌/◌, ◌%◌, cond, List, [], ◌∷◌, ◌++◌, ltb}
use Rattle.lists.specs.Select.{each}

-- a number in decimal; of one that has more than k digits the last k
unfoldable pub decimal_in : ℕ → ℕ → List ℕ
decimal_in zero n = []
decimal_in (suc k) n = let more = decimal_in k (n / 10) in cond (ltb n 10) ((48 + n) ∷ []) (more ++ ((48 + n % 10) ∷ []))

-- a blank and a word, which has at most twenty digits
abbrev pub spaced : ℕ → List ℕ
spaced n = 32 ∷ decimal_in 20 n

abbrev pub row : List ℕ → List ℕ
row ns = each spaced ns
