-- A rule's own lanes where lanes are cut, one cut lane after the other, as the Rust goes about it: the first occurrence of each in the list as the ones
-- before it have left it. On a list without repeats, with new ids alone, it is `follow` of Split.antt (crate `laws`, proofs/Turns.antt). The programs that
-- write rules rest on this page; no host's contract does.
use Rattle.std.specs.Prelude.{ℕ, suc, ◌&&◌, cond, List, [], ◌∷◌, ◌++◌, eqb, Float, Option, None, Some}
use Rattle.lists.specs.Select.{has}
use Rattle.rules.specs.Names.{Point2}
use Rattle.entities.specs.Records.{Map}
use Rattle.rules.specs.Split.{LanePlan, on_second}

-- the first i of a list becomes `by`
unfoldable pub swap_first : ℕ → List ℕ → List ℕ → List ℕ
swap_first i by [] = []
swap_first i by (x ∷ xs) = let rest = swap_first i by xs in cond (eqb x i) (by ++ xs) (x ∷ rest)

-- one cut lane, whose second half is j
abbrev pub follow_one : Float → Map → Option Point2 → LanePlan → ℕ → List ℕ → List ℕ
follow_one join m None x j ids = swap_first x.of.id (x.of.id ∷ j ∷ []) ids
follow_one join m (Some p) x j ids = cond (has x.of.id ids && on_second join m x j p) (swap_first x.of.id (j ∷ []) ids) ids

unfoldable pub follow_all : Float → Map → Option Point2 → ℕ → List LanePlan → List ℕ → List ℕ
follow_all join m anchor next [] ids = ids
follow_all join m anchor next (x ∷ ps) ids = follow_all join m anchor (suc next) ps (follow_one join m anchor x next ids)
