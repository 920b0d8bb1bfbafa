-- What the inner functions hand to one another.
use Rattle.std.specs.Prelude.{◌≡◌, ℕ, ◌+◌, ◌-◌, ◌*◌, ◌/◌, ◌%◌, ◌^◌, ◌<◌, ◌≤◌, cond, ◌==◌}

-- The size of a positive finite double in units of 2 ^ -1074, from its bits.
unfoldable pub magnitude : ℕ → ℕ
magnitude b = cond (b / 2 ^ 52 == 0) (b % 2 ^ 52) ((b % 2 ^ 52 + 2 ^ 52) * 2 ^ (b / 2 ^ 52 - 1))

-- n is digits * 2 ^ odd * 2 ^ 52 * 4 ^ half, with 53 digits; half + 1 is an exponent field.
pub record Scaled (n digits odd half : ℕ) : Type 0 where
  pub value : digits * (1 + odd) * 2 ^ 52 * 4 ^ half ≡ n
  pub least : 2 ^ 52 ≤ digits
  pub most : digits < 2 ^ 53
  pub bit : odd < 2
  pub field : half < 2046

-- r is the whole number nearest the root of a * 2 ^ 52: no tie occurs, since the square of a whole number and a half is not whole.
pub record Rounded (a r : ℕ) : Type 0 where
  pub below : r * r < a * 2 ^ 52 + r
  pub above : a * 2 ^ 52 ≤ r * r + r
