-- A root that is begun (`begin`) and not yet known (`finish`).
use Rattle.std.specs.Prelude.{◌≡◌, ℕ, ◌+◌, ◌-◌, ◌*◌, ◌^◌, ◌<◌, ◌≤◌, from_bits, Float}
use Rattle.std.specs.Float.{binary64}
use Rattle.root.specs.Steps.{Rounded}

-- s is the double whose bits are `top` and the whole number nearest the root of a * 2 ^ 52.
pub record Begins (s : Float) (a top : ℕ) : Type 0 where
  pub least : 2 ^ 52 ≤ a
  pub most : a ≤ 2 ^ 54 - 2
  pub field : top ≤ 2045 * 2 ^ 52
  pub ends : (q : ℕ) → Rounded a q → from_bits binary64 (top + q) ≡ s

-- The same, or s is known: where `a` is smaller, it is the guess.
pub record Unfinished (s : Float) (a top : ℕ) (guess : Float) : Type 0 where
  pub known : a < 2 ^ 52 → guess ≡ s
  pub begun : 2 ^ 52 ≤ a → Begins s a top
