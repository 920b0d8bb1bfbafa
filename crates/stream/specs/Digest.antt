-- A digest of words: each is taken in by an exclusive or, and the whole then stirred by shifts, which loses nothing.
use Rattle.std.specs.Prelude.{ℕ, ◌*◌, ◌/◌, ◌%◌, ◌^◌, List, [], ◌∷◌, Float}
use Rattle.std.specs.Int.Bits.{bit_xor}
use Rattle.std.specs.Float.{binary64}
use Rattle.std.specs.Float.Ieee.{to_bits}

-- with itself moved up, or down, by k bits of a word
abbrev pub upward : ℕ → ℕ → ℕ
upward k x = bit_xor x (x * 2 ^ k % 2 ^ 64)

abbrev pub downward : ℕ → ℕ → ℕ
downward k x = bit_xor x (x / 2 ^ k)

unfoldable pub mix : ℕ → ℕ → ℕ
mix state word = upward 17 (downward 7 (upward 13 (bit_xor state word)))

unfoldable pub digest_by : {A : Type 0} → (A → ℕ) → ℕ → List A → ℕ
digest_by f state [] = state
digest_by f state (x ∷ xs) = digest_by f (mix state (f x)) xs

abbrev pub of_words : ℕ → List ℕ → ℕ
of_words state ws = digest_by (λ w. w) state ws

-- doubles by their bits
abbrev pub of_floats : ℕ → List Float → ℕ
of_floats state xs = digest_by (to_bits binary64) state xs

-- the slices of a map, one after the other
abbrev pub of_tables : ℕ → List ℕ → List ℕ → List ℕ → List ℕ → List ℕ → List ℕ → List ℕ → List Float → ℕ
of_tables state lanes boundaries roads junctions rules stop_lines crosswalks coordinates =
    of_floats
    (of_words (of_words (of_words (of_words (of_words (of_words (of_words state lanes) boundaries) roads) junctions) rules) stop_lines) crosswalks)
    coordinates
