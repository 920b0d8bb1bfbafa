-- Ids listed at the front of an array.
use Rattle.std.specs.Prelude.{ℕ, ◌≤◌, ◌<◌, ◌≡◌, true, List, length, get_or, take}
use Rattle.lists.specs.Select.{ascending}

-- no id stands from place n on: the largest word does
abbrev pub Spare : ℕ → List ℕ → Type 0
Spare n ids = (k : ℕ) → n ≤ k → k < length ids → get_or ids k 0 ≡ 18446744073709551615

-- ks stand at the front, and no id behind them
pub record Listed (ks ids : List ℕ) : Type 0 where
  pub front : take (length ks) ids ≡ ks
  pub behind : Spare (length ks) ids

-- n ids that ascend, listed in an array of 1,024 words
pub record Ready (n : ℕ) (ids : List ℕ) : Type 0 where
  pub long : length ids ≡ 1024
  pub few : n ≤ 1024
  pub up : ascending (take n ids) ≡ true
  pub spare : Spare n ids
