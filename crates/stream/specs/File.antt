-- Places of a stored file.
use Rattle.std.specs.Prelude.{ℕ, ◌+◌, ◌^◌, cond, ◌||◌, ltb}

-- n bytes further; a place past 2^28 and a step of more than 2^16 bytes stay
abbrev pub advanced : ℕ → ℕ → ℕ
advanced at n = cond (ltb (2 ^ 16) n || ltb (2 ^ 28) at) at (at + n)
