-- Which piece of a cut boundary a half takes. Assumes nothing.
use Rattle.std.specs.Prelude.{Option, None, Some}
use mathlib.Core.Path.{◌≡◌, refl, sym, ap, ◌∙◌}
use Prim.Native.Nat.{ℕ, ◌+◌, ◌*◌, ◌≤◌}
use native.Mathlib.Omega.{arith}
use mathlib.Core.Bool.{Bool, true, false, beq, true≢false}
use mathlib.Core.List.{List}
use lib.ListN.{length}
use Rattle.lists.specs.Rows.{keys, row_with}
use Rattle.lists.proofs.Rows.{length-keys, found_within}
use Rattle.tables.specs.View.{word}
use Rattle.split_rows.specs.Halves.{piece_word, piece_found, half_ref}

pub piece-first : (a b : Bool) → beq a b ≡ true → (1 ≡ piece_word a b) × (1 ≤ 2)
piece-first true true e = (refl, omega arith)
piece-first true false e = absurd (true≢false (sym e))
piece-first false true e = absurd (true≢false (sym e))
piece-first false false e = (refl, omega arith)

pub piece-second : (a b : Bool) → beq a b ≡ false → (2 ≡ piece_word a b) × (2 ≤ 2)
piece-second true true e = absurd (true≢false e)
piece-second true false e = (refl, omega arith)
piece-second false true e = (refl, omega arith)
piece-second false false e = absurd (true≢false e)

module _ (pieces : List ℕ) (m b : ℕ) (second reversed : Bool) (room : m * 3 ≤ length pieces) (f : Option ℕ) (e : f ≡ row_with b (keys 3 m pieces)) where
  pub piece-room : (x : ℕ) → f ≡ Some x → x * 3 + 3 ≤ length pieces
  piece-room x t = omega (arith, found_within b (keys 3 m pieces) x (sym e ∙ t), length-keys 3 m pieces)

  pub piece-taken : (x k : ℕ) → f ≡ Some x → k ≡ piece_word second reversed → word (x * 3 + k) pieces ≡ half_ref pieces m second b reversed
  piece-taken x k t q = ap (λ j. word (x * 3 + j) pieces) q ∙ sym (ap (piece_found pieces (piece_word second reversed) b) (sym e ∙ t))

  pub piece-whole : f ≡ None → b ≡ half_ref pieces m second b reversed
  piece-whole t = sym (ap (piece_found pieces (piece_word second reversed) b) (sym e ∙ t))
