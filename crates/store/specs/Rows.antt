-- Rows of a table changed one by one, in words. Nothing that a host calls rests on this page.
use Rattle.std.specs.Prelude.{ℕ, zero, suc, ◌+◌, ◌*◌, Bool, not, ◌||◌, cond, List, [], ◌∷◌, ◌++◌, eqb, length, take, drop, Option, None, Some}
use Rattle.lists.specs.Rows.{over}
use Rattle.lists.specs.Select.{keep, each}
use Rattle.entities.specs.declared.Neighbor.{Neighbor}
use Rattle.tables.specs.View.{word, rows}
use Rattle.store.specs.Store.{direction_mark, writes}
use Rattle.tables.specs.Columns.{row_count, row_id}

-- the first n rows of s words, each changed by g; what lies behind them stays
unfoldable pub map_rows : ℕ → (List ℕ → List ℕ) → ℕ → List ℕ → List ℕ
map_rows s g zero w = w
map_rows s g (suc n) w = g (take s w) ++ map_rows s g n (drop s w)

-- every row of a table changed by g
unfoldable pub on_rows : ℕ → (List ℕ → List ℕ) → List ℕ → List ℕ
on_rows s g t = word row_count t ∷ map_rows s g (word row_count t) (drop 1 t)

-- neither of two ids
abbrev pub stays : ℕ → ℕ → ℕ → Bool
stays a b i = not (eqb i a || eqb i b)

-- the rows whose ids pass, with all their words, at the front of a table; what lies behind them stays
unfoldable pub kept_rows : ℕ → (ℕ → Bool) → List ℕ → List ℕ
kept_rows s q t = let rs = keep (λ r. q (word row_id r)) (rows s (λ r. r) t) in length rs ∷ over (drop 1 t) 0 (each (λ r. r) rs)

-- records written onto the words behind a table's last row, and counted; the rows that are there stay, and what lies behind the new ones
unfoldable pub appended_rows : {R : Type 0} → ℕ → (List ℕ → R → List ℕ) → List R → List ℕ → List ℕ
appended_rows s onto rs t =
    let n = word row_count t in
    let w = drop 1 t in
    (n + length rs) ∷ take (n * s) w ++ writes s onto (drop (n * s) w) rs

-- a change of the row of lane `id`
abbrev pub keyed : ℕ → (List ℕ → List ℕ) → List ℕ → List ℕ
keyed id g r = cond (eqb (word row_id r) id) (g r) r

-- ---- fields of a lane's row

-- a neighbour's mark and lane; of an absent one the mark alone
abbrev pub slot_words : Option Neighbor → List ℕ
slot_words None = 0 ∷ []
slot_words (Some n) = direction_mark n.direction ∷ n.lane ∷ []

unfoldable pub set_slot : ℕ → Option Neighbor → List ℕ → List ℕ
set_slot k v w = over w k (slot_words v)

-- a count and its ids
unfoldable pub set_list : ℕ → List ℕ → List ℕ → List ℕ
set_list k ids w = over w k (length ids ∷ ids)
