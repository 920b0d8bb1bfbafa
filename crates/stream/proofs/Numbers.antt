-- One turn of reading a number. Assumes nothing.
use mathlib.Core.Path.{◌≡◌, refl, sym, ap, ◌∙◌}
use Prim.Native.Nat.{ℕ, zero, suc, ◌+◌, ◌*◌, ◌-◌, ◌%◌, ◌^◌, ◌≤◌, ◌<◌}
use native.Mathlib.Nat.{add-zero}
use native.Mathlib.Numerals.{add-one}
use native.Mathlib.Omega.{arith}
use mathlib.Core.List.{List, [], ◌∷◌}
use lib.ListN.{length, get_or, drop, drop_of_length-le, get_or-eq_default}
use lib.Seq.{drop-cons}
use borrow.Author.Tests.{lt-ltb, le-ltb}
use Rattle.stream.specs.declared.Taken.{Taken}
use Rattle.stream.specs.Numbers.{carry, number_in, width_in, taken}

-- a number and the place behind it
abbrev pub at_place : ℕ → ℕ → Taken
at_place v n = record { value = v; next = n }

no_bytes : (k at : ℕ) → at_place 0 at ≡ at_place (number_in k []) (at + width_in k [])
unfolding number_in width_in
no_bytes zero at = rw (add-zero at)
no_bytes (suc k) at = rw (add-zero at)

pub none-to-read : (s : List ℕ) (at k : ℕ) → k ≡ 0 → at_place 0 at ≡ taken k s at
unfolding number_in width_in
none-to-read s at k e = rw (e, add-zero at)

pub at-the-end : (s : List ℕ) (at k : ℕ) → length s ≤ at → at_place 0 at ≡ taken k s at
at-the-end s at k h = rw (drop_of_length-le s h) (no_bytes k at)

module _ (s : List ℕ) (at low : ℕ) (more : at < length s) (here : low ≡ get_or s at 0) where
  behind-it : drop at s ≡ low ∷ drop (at + 1) s
  behind-it = rw (here, add-one at) (drop-cons s at 0 more)

  pub last_byte : (k : ℕ) → (k ≡ 0 → ⊥) → low < 128 → at_place low (at + 1) ≡ taken k s at
  unfolding number_in width_in
  last_byte zero z h = absurd (z refl)
  last_byte (suc k) z h = rw (behind-it, lt-ltb low 128 h)

  -- what a byte with more behind it makes of the rest
  abbrev more_of : Taken → Taken
  more_of rest = at_place (carry low rest.value) rest.next

  more_bytes : (k : ℕ) (rest : Taken) → (k ≡ 0 → ⊥) → 128 ≤ low → rest ≡ taken (k - 1) s (at + 1) → more_of rest ≡ taken k s at
  unfolding number_in width_in
  more_bytes zero rest z h e = absurd (z refl)
  more_bytes (suc k) rest z h e =
      let j : suc k - 1 ≡ k = omega arith in
      let n : at + 1 + width_in k (drop (at + 1) s) ≡ at + suc (width_in k (drop (at + 1) s)) = omega arith in
      ap more_of (e ∙ ap (λ (i : ℕ). taken i s (at + 1)) j) ∙ rw (behind-it, le-ltb low 128 h, n)

  pub carried : (k : ℕ) (rest : Taken) → (k ≡ 0 → ⊥) → 128 ≤ low → rest ≡ taken (k - 1) s (at + 1) → rest.value < 2 ^ 57
      → at_place (low % 128 + rest.value * 128) rest.next ≡ taken k s at
  carried k rest z h e l = rw (← more_bytes k rest z h e, lt-ltb rest.value (2 ^ 57) l)

  pub not_carried : (k : ℕ) (rest : Taken) → (k ≡ 0 → ⊥) → 128 ≤ low → rest ≡ taken (k - 1) s (at + 1) → 2 ^ 57 ≤ rest.value → at_place 0 rest.next ≡ taken k s at
  not_carried k rest z h e l = rw (← more_bytes k rest z h e, le-ltb rest.value (2 ^ 57) l)

-- a byte past the end
pub past_end : (s : List ℕ) (at : ℕ) → length s ≤ at → 0 ≡ get_or s at 0
past_end s at h = sym (get_or-eq_default s 0 h)
