-- The numbers of a stored stream (oracle/FORMAT.md): seven bits a byte, the least first, the top bit set on all but the last byte.
use Rattle.std.specs.Prelude.{ℕ, zero, suc, ◌+◌, ◌*◌, ◌%◌, ◌^◌, cond, List, [], ◌∷◌, ltb, get_or, drop, min}
use Rattle.stream.specs.declared.Taken.{Taken}
use Rattle.stream.specs.declared.Part.{Part}

-- ---- a number

-- a byte's seven bits, and the number that the bytes behind it have; 0 where that is no word
abbrev pub carry : ℕ → ℕ → ℕ
carry low rest = cond (ltb rest (2 ^ 57)) (low % 128 + rest * 128) 0

-- the number at the front of some bytes, of at most k of them; where they end, 0
unfoldable pub number_in : ℕ → List ℕ → ℕ
number_in zero bytes = 0
number_in (suc k) [] = 0
number_in (suc k) (b ∷ bytes) = let rest = number_in k bytes in cond (ltb b 128) b (carry b rest)

-- how many bytes it has
unfoldable pub width_in : ℕ → List ℕ → ℕ
width_in zero bytes = 0
width_in (suc k) [] = 0
width_in (suc k) (b ∷ bytes) = let rest = width_in k bytes in cond (ltb b 128) 1 (suc rest)

abbrev pub taken : ℕ → List ℕ → ℕ → Taken
taken k s at = record { value = number_in k (drop at s); next = at + width_in k (drop at s) }

-- the number at a place, and the place behind it
abbrev pub number_at : List ℕ → ℕ → ℕ
number_at s at = number_in 10 (drop at s)

abbrev pub behind : List ℕ → ℕ → ℕ
behind s at = at + width_in 10 (drop at s)

-- ---- tables

-- so many numbers from a place on, each as f makes it; and the place behind them
unfoldable pub read_by : {A : Type 0} → (ℕ → A) → ℕ → List ℕ → ℕ → List A
read_by f zero s at = []
read_by f (suc k) s at = f (number_at s at) ∷ read_by f k s (behind s at)

unfoldable pub behind_all : ℕ → List ℕ → ℕ → ℕ
behind_all zero s at = at
behind_all (suc k) s at = behind_all k s (behind s at)

-- a table's length and its words, in an array that has so many places
abbrev pub part : ℕ → List ℕ → ℕ → Part
part room s at = let size = min (number_at s at) room in record { size = size; next = behind_all size s (behind s at) }

-- ---- words of eight bytes, the least first; those past the end are 0

abbrev pub half_at : List ℕ → ℕ → ℕ → ℕ
half_at s at i = get_or s (at + i) 0 + get_or s (at + (i + 1)) 0 * 2 ^ 8 + get_or s (at + (i + 2)) 0 * 2 ^ 16 + get_or s (at + (i + 3)) 0 * 2 ^ 24

unfoldable pub word_at : List ℕ → ℕ → ℕ
word_at s at = half_at s at 0 + half_at s at 4 * 2 ^ 32
