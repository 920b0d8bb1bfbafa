-- Rows of a fixed length in lent memory: read into records, and written back.
use Rattle.std.specs.Prelude.{ℕ, zero, suc, ◌+◌, ◌≤◌, ◌<◌, List, [], ◌∷◌, ◌++◌, cond, eqb, length, get_or, take, drop, Option, None, Some}

-- k rows of s words from the front of w, each read by `dec`.
unfoldable pub reads : {A B : Type 0} → ℕ → (List A → B) → ℕ → List A → List B
reads s dec zero w = []
reads s dec (suc k) w = dec (take s w) ∷ reads s dec k (drop s w)

-- l written over w from place a on: what lies before and behind stays.
unfoldable pub over : {A : Type 0} → List A → ℕ → List A → List A
over w a l = take a w ++ (l ++ drop (a + length l) w)

-- the first words of k rows of s words
unfoldable pub keys : ℕ → ℕ → List ℕ → List ℕ
keys s k w = reads s (λ r. get_or r 0 0) k w

-- the place of the row with a key, counted from 0
abbrev pub later : Option ℕ → Option ℕ
later (Some i) = Some (suc i)
later None = None

unfoldable pub row_with : ℕ → List ℕ → Option ℕ
row_with i [] = None
row_with i (k ∷ ks) = let rest = row_with i ks in cond (eqb k i) (Some 0) (later rest)

-- Where a search still looks, `left` rows from row `low` on: the keys before them are smaller than x, those behind them larger.
abbrev pub Among : List ℕ → ℕ → ℕ → ℕ → Type 0
Among ks x low left =
    (1 ≤ left) × ((low + left ≤ length ks) × (((k : ℕ) → k < low → get_or ks k 0 < x) × ((k : ℕ) → low + left ≤ k → k < length ks → x < get_or ks k 0)))
